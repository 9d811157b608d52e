use Rattle.std.proofs.Common.{ℕ, sym, subst}
use Rattle.lvm_num.specs.declared.record.Kind.TheVariants as kind
use Rattle.lvm_num.specs.declared.record.Stamp.{Stamp}
use Rattle.lvm_num.specs.Disks.{Disks, has}
use Rattle.lvm_disk.specs.Device.{Device}
use Rattle.lvm_kept.specs.Torn.{IsOfRecord}
use Rattle.lvm_rec.specs.Homes.{Flips}
use Rattle.lvm_write.specs.Writes.{DiskWritesLeave, EachTried}
use Rattle.lvm_write.specs.Written.{write_of, StandsTold}
use Rattle.lvm_extend.specs.Spreading.{Last, MaySpread, Spreads}
use Rattle.lvm_extend.proofs.SpreadingLemmas.{may_describe, spread_on, status_finds, status_keeps, status_path}
use Rattle.lvm_extend.proofs.spreading.spread.Goals as goal

pub describe-requires : goal.describe-requires
describe-requires g c =
    let old : Device = g.S.Shelf.device c.args.shelf.now in
    let m : Device = g.S.Shelf.device c.write_record.new.shelf in
    let there : Disks = has c.args.there in
    let failed : Disks = has c.in-Ended.failed in
    let slots = c.args.homes.now in
    let p : ℕ = c.args.patience.now.left in
    let q : ℕ = c.write_record.new.patience.left in
    let leaves = subst (λ (s : Stamp). DiskWritesLeave there (IsOfRecord (write_of kind.Status (record { stamp = s; content = c.args.turn.status.now }) there slots)) p q old m) c.next_stamp.ensures c.in-Ended.ensures.leaves in
    let each = subst (λ (s : Stamp). EachTried there (StandsTold (write_of kind.Status (record { stamp = s; content = c.args.turn.status.now }) there slots)) (λ written. Flips kind.Status written slots c.write_record.new.homes) c.args.buf.number old m failed c.in-Ended.buf) c.next_stamp.ensures c.in-Ended.ensures.ends in
    record {
      may = subst (λ (set : Disks). MaySpread c.args.turn c.args.disk set c.args.stamp m) (sym c.without-written.ensures)
          (may_describe c.args.turn c.args.disk there c.args.stamp old c.requires.may slots c.args.buf.number p q m leaves failed c.in-Ended.buf c.write_record.new.homes each);
    }

pub returns-in-Ended : goal.returns-in-Ended
returns-in-Ended g c =
    let old : Device = g.S.Shelf.device c.args.shelf.now in
    let m : Device = g.S.Shelf.device c.write_record.new.shelf in
    let new : Device = g.S.Shelf.device c.describe.new.shelf in
    let there : Disks = has c.args.there in
    let failed : Disks = has c.in-Ended.failed in
    let slots = c.args.homes.now in
    let p : ℕ = c.args.patience.now.left in
    let q : ℕ = c.write_record.new.patience.left in
    let z : ℕ = c.describe.new.patience.left in
    let leaves = subst (λ (s : Stamp). DiskWritesLeave there (IsOfRecord (write_of kind.Status (record { stamp = s; content = c.args.turn.status.now }) there slots)) p q old m) c.next_stamp.ensures c.in-Ended.ensures.leaves in
    let each = subst (λ (s : Stamp). EachTried there (StandsTold (write_of kind.Status (record { stamp = s; content = c.args.turn.status.now }) there slots)) (λ written. Flips kind.Status written slots c.write_record.new.homes) c.args.buf.number old m failed c.in-Ended.buf) c.next_stamp.ensures c.in-Ended.ensures.ends in
    spread_on c.args.turn c.args.disk there c.args.stamp old c.requires.may slots c.args.buf.number p q m leaves failed c.in-Ended.buf c.write_record.new.homes each z new c.describe.result
    (subst (λ (set : Disks). Spreads c.args.turn c.args.disk set c.args.stamp Last c.write_record.new.homes c.in-Ended.buf.number q z m new c.describe.result) c.without-written.ensures c.describe.ensures)

pub returns-in-Dark : goal.returns-in-Dark
returns-in-Dark g c =
    let old : Device = g.S.Shelf.device c.args.shelf.now in
    let m : Device = g.S.Shelf.device c.write_record.new.shelf in
    let there : Disks = has c.args.there in
    let slots = c.args.homes.now in
    let p : ℕ = c.args.patience.now.left in
    let q : ℕ = c.write_record.new.patience.left in
    let leaves = subst (λ (s : Stamp). DiskWritesLeave there (IsOfRecord (write_of kind.Status (record { stamp = s; content = c.args.turn.status.now }) there slots)) p q old m) c.next_stamp.ensures c.in-Dark.ensures.leaves in
    record {
      ends = c.in-Dark.ensures.ends.0;
      keeps = status_keeps c.args.turn c.args.disk there c.args.stamp old c.requires.may slots m leaves.keeps;
      spends = leaves.spends;
      kept = status_path c.args.turn c.args.disk there c.args.stamp old c.requires.may slots p q m leaves;
      finds = status_finds c.args.turn c.args.disk there c.args.stamp old c.requires.may slots p q m leaves;
    }

pub returns-in-Stuck : goal.returns-in-Stuck
returns-in-Stuck g c =
    let old : Device = g.S.Shelf.device c.args.shelf.now in
    let m : Device = g.S.Shelf.device c.write_record.new.shelf in
    let there : Disks = has c.args.there in
    let slots = c.args.homes.now in
    let p : ℕ = c.args.patience.now.left in
    let q : ℕ = c.write_record.new.patience.left in
    let leaves = subst (λ (s : Stamp). DiskWritesLeave there (IsOfRecord (write_of kind.Status (record { stamp = s; content = c.args.turn.status.now }) there slots)) p q old m) c.next_stamp.ensures c.in-Stuck.ensures.leaves in
    record {
      ends = c.in-Stuck.ensures.ends.0;
      keeps = status_keeps c.args.turn c.args.disk there c.args.stamp old c.requires.may slots m leaves.keeps;
      spends = leaves.spends;
      kept = status_path c.args.turn c.args.disk there c.args.stamp old c.requires.may slots p q m leaves;
      finds = status_finds c.args.turn c.args.disk there c.args.stamp old c.requires.may slots p q m leaves;
    }
