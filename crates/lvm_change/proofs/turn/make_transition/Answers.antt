use Rattle.std.proofs.Common.{ℕ, sym, subst}
use Rattle.lvm_num.specs.declared.record.Kind.TheVariants as kind
use Rattle.lvm_num.specs.declared.record.Stamp.{Stamp}
use Rattle.lvm_num.specs.Disks.{Disks, has}
use Rattle.lvm_disk.specs.Device.{Device}
use Rattle.lvm_kept.specs.Torn.{IsOfRecord}
use Rattle.lvm_rec.specs.Homes.{Flips}
use Rattle.lvm_write.specs.Writes.{DiskWritesLeave, EachTried}
use Rattle.lvm_write.specs.Written.{write_of, StandsTold, written_well}
use Rattle.lvm_commit.specs.Committed.{next_stamp}
use Rattle.lvm_change.specs.declared.turn.TransitionEnd.TheVariants as turned
use Rattle.lvm_change.specs.Transition.{MayDescribe, DescriptionGives}
use Rattle.lvm_change.proofs.DescribeLemmas.{may_describe, turned_on, broken_off}
use Rattle.lvm_change.proofs.turn.make_transition.Goals as goal

pub describe-requires : goal.describe-requires
describe-requires g c =
    let old : Device = g.S.Shelf.device c.args.shelf.now in
    let m : Device = g.S.Shelf.device c.write_record.new.shelf in
    let there : Disks = has c.args.there in
    let homes = c.args.homes.now in
    let slots = c.write_record.new.homes in
    let content = c.args.turn.status.now in
    let leaves = subst (λ (s : Stamp). DiskWritesLeave there (IsOfRecord (write_of kind.Status (record { stamp = s; content = content }) there homes)) c.args.patience.now.left c.write_record.new.patience.left old m) c.next_stamp-first.ensures c.write_record.ensures.leaves in
    let each = subst (λ (s : Stamp). EachTried there (StandsTold (write_of kind.Status (record { stamp = s; content = content }) there homes)) (λ written. Flips kind.Status written homes slots) c.args.buf.number old m (has c.in-Ended.failed) c.in-Ended.buf)
    c.next_stamp-first.ensures c.in-Ended.ensures.ends in
    record {
      may = subst (λ (s : Stamp). MayDescribe c.args.turn (has c.without-written.result) s m) (sym c.next_stamp-first.ensures)
          (subst (λ (set : Disks). MayDescribe c.args.turn set (next_stamp c.args.stamp) m) (sym c.without-written.ensures)
          (may_describe c.args.turn there c.args.stamp homes old (g.met.S.Shelf.sectors_are_whole c.args.shelf.now) c.requires.may slots c.args.buf.number c.args.patience.now.left c.write_record.new.patience.left m leaves (has c.in-Ended.failed) c.in-Ended.buf each));
    }

pub returns-in-Ended : goal.returns-in-Ended
returns-in-Ended g c =
    let old : Device = g.S.Shelf.device c.args.shelf.now in
    let m : Device = g.S.Shelf.device c.write_record.new.shelf in
    let new : Device = g.S.Shelf.device c.describe.new.shelf in
    let there : Disks = has c.args.there in
    let homes = c.args.homes.now in
    let slots = c.write_record.new.homes in
    let content = c.args.turn.status.now in
    let q : ℕ = c.write_record.new.patience.left in
    let r : ℕ = c.describe.new.patience.left in
    let failed : Disks = has c.in-Ended.failed in
    let leaves = subst (λ (s : Stamp). DiskWritesLeave there (IsOfRecord (write_of kind.Status (record { stamp = s; content = content }) there homes)) c.args.patience.now.left q old m) c.next_stamp-first.ensures c.write_record.ensures.leaves in
    let each = subst (λ (s : Stamp). EachTried there (StandsTold (write_of kind.Status (record { stamp = s; content = content }) there homes)) (λ written. Flips kind.Status written homes slots) c.args.buf.number old m failed c.in-Ended.buf) c.next_stamp-first.ensures c.in-Ended.ensures.ends in
    let two = subst (λ (s : Stamp). DescriptionGives c.args.turn (written_well there failed) s slots c.describe.new.homes c.in-Ended.buf.number q r m new c.describe.result) c.next_stamp-first.ensures
    (subst (λ (set : Disks). DescriptionGives c.args.turn set c.next_stamp-first.result slots c.describe.new.homes c.in-Ended.buf.number q r m new c.describe.result) c.without-written.ensures c.describe.ensures) in
    turned_on c.args.turn there c.args.stamp homes old (g.met.S.Shelf.sectors_are_whole c.args.shelf.now) c.requires.may slots c.args.buf.number c.args.patience.now.left q m leaves failed c.in-Ended.buf each c.describe.new.homes r new c.describe.result two

pub returns-in-Dark : goal.returns-in-Dark
returns-in-Dark g c =
    let old : Device = g.S.Shelf.device c.args.shelf.now in
    let m : Device = g.S.Shelf.device c.write_record.new.shelf in
    let there : Disks = has c.args.there in
    let leaves = subst (λ (s : Stamp). DiskWritesLeave there (IsOfRecord (write_of kind.Status (record { stamp = s; content = c.args.turn.status.now }) there c.args.homes.now)) c.args.patience.now.left c.write_record.new.patience.left old m)
    c.next_stamp-first.ensures c.write_record.ensures.leaves in
    broken_off c.args.turn there c.args.stamp c.args.homes.now old (g.met.S.Shelf.sectors_are_whole c.args.shelf.now) c.requires.may c.write_record.new.homes c.args.buf.number c.args.patience.now.left c.write_record.new.patience.left m leaves
    turned.Dark c.in-Dark.ensures.ends.0

pub returns-in-Stuck : goal.returns-in-Stuck
returns-in-Stuck g c =
    let old : Device = g.S.Shelf.device c.args.shelf.now in
    let m : Device = g.S.Shelf.device c.write_record.new.shelf in
    let there : Disks = has c.args.there in
    let leaves = subst (λ (s : Stamp). DiskWritesLeave there (IsOfRecord (write_of kind.Status (record { stamp = s; content = c.args.turn.status.now }) there c.args.homes.now)) c.args.patience.now.left c.write_record.new.patience.left old m)
    c.next_stamp-first.ensures c.write_record.ensures.leaves in
    broken_off c.args.turn there c.args.stamp c.args.homes.now old (g.met.S.Shelf.sectors_are_whole c.args.shelf.now) c.requires.may c.write_record.new.homes c.args.buf.number c.args.patience.now.left c.write_record.new.patience.left m leaves
    turned.Stuck c.in-Stuck.ensures.ends.0
