use Rattle.std.proofs.Common.{◌≡◌, ℕ, ap, subst, ◌∙◌}
use Rattle.lvm_num.specs.declared.record.Kind.TheVariants as kind
use Rattle.lvm_num.specs.declared.record.Stamp.{Stamp}
use Rattle.lvm_num.specs.Disks.{Disks, has}
use Rattle.lvm_disk.specs.Device.{Device}
use Rattle.lvm_kept.specs.Torn.{IsOfRecord}
use Rattle.lvm_rec.specs.Homes.{Flips}
use Rattle.lvm_write.specs.Writes.{DiskWritesLeave, EachTried}
use Rattle.lvm_write.specs.Written.{write_of, StandsTold, written_well}
use Rattle.lvm_commit.specs.Committed.{next_stamp}
use Rattle.lvm_extend_laws.specs.Joining.{with_disk}
use Rattle.lvm_extend.proofs.SpreadingLemmas.{comes, descriptor_finds, descriptor_keeps, descriptor_path, voted, with_is}
use Rattle.lvm_extend.proofs.spreading.put_descriptor.Goals as goal

pub returns-in-Ended : goal.returns-in-Ended
returns-in-Ended g c =
    let old : Device = g.S.Shelf.device c.args.shelf.now in
    let new : Device = g.S.Shelf.device c.write_record.new.shelf in
    let there : Disks = has c.args.there in
    let failed : Disks = has c.in-Ended.failed in
    let slots = c.args.homes.now in
    let p : ℕ = c.args.patience.now.left in
    let second : c.next_stamp-2.result ≡ next_stamp (next_stamp c.args.stamp) = c.next_stamp-2.ensures ∙ ap next_stamp c.next_stamp.ensures in
    let leaves = subst (λ (s : Stamp). DiskWritesLeave there (IsOfRecord (write_of kind.Descriptor (record { stamp = s; content = c.args.turn.content.now }) there slots)) p c.write_record.new.patience.left old new) second c.in-Ended.ensures.leaves in
    let each = subst (λ (s : Stamp). EachTried there (StandsTold (write_of kind.Descriptor (record { stamp = s; content = c.args.turn.content.now }) there slots)) (λ written. Flips kind.Descriptor written slots c.write_record.new.homes) c.args.buf.number old new failed c.in-Ended.buf) second c.in-Ended.ensures.ends in
    let set : has c.with.result ≡ with_disk c.args.disk (written_well there failed) = with_is c.without-written.result c.with.result c.args.disk c.with.ensures ∙ ap (with_disk c.args.disk) c.without-written.ensures in
    record {
      ends = voted c.args.turn c.args.disk there c.args.stamp old c.requires.may slots c.args.buf.number p new (has c.with.result) (written_well there failed) c.in-Ended.buf
          (comes c.args.turn c.args.disk there c.args.stamp old c.requires.may slots c.args.buf.number new failed c.in-Ended.buf each) set c.by_votes.result c.by_votes.ensures;
      keeps = descriptor_keeps c.args.turn c.args.disk there c.args.stamp old c.requires.may slots new leaves.keeps;
      spends = leaves.spends;
      kept = descriptor_path c.args.turn c.args.disk there c.args.stamp old c.requires.may slots p c.write_record.new.patience.left new leaves;
      finds = descriptor_finds c.args.turn c.args.disk there c.args.stamp old c.requires.may slots p c.write_record.new.patience.left new leaves;
    }

pub returns-in-Dark : goal.returns-in-Dark
returns-in-Dark g c =
    let old : Device = g.S.Shelf.device c.args.shelf.now in
    let new : Device = g.S.Shelf.device c.write_record.new.shelf in
    let there : Disks = has c.args.there in
    let slots = c.args.homes.now in
    let p : ℕ = c.args.patience.now.left in
    let second : c.next_stamp-2.result ≡ next_stamp (next_stamp c.args.stamp) = c.next_stamp-2.ensures ∙ ap next_stamp c.next_stamp.ensures in
    let leaves = subst (λ (s : Stamp). DiskWritesLeave there (IsOfRecord (write_of kind.Descriptor (record { stamp = s; content = c.args.turn.content.now }) there slots)) p c.write_record.new.patience.left old new) second c.in-Dark.ensures.leaves in
    record {
      ends = c.in-Dark.ensures.ends.0;
      keeps = descriptor_keeps c.args.turn c.args.disk there c.args.stamp old c.requires.may slots new leaves.keeps;
      spends = leaves.spends;
      kept = descriptor_path c.args.turn c.args.disk there c.args.stamp old c.requires.may slots p c.write_record.new.patience.left new leaves;
      finds = descriptor_finds c.args.turn c.args.disk there c.args.stamp old c.requires.may slots p c.write_record.new.patience.left new leaves;
    }

pub returns-in-Stuck : goal.returns-in-Stuck
returns-in-Stuck g c =
    let old : Device = g.S.Shelf.device c.args.shelf.now in
    let new : Device = g.S.Shelf.device c.write_record.new.shelf in
    let there : Disks = has c.args.there in
    let slots = c.args.homes.now in
    let p : ℕ = c.args.patience.now.left in
    let second : c.next_stamp-2.result ≡ next_stamp (next_stamp c.args.stamp) = c.next_stamp-2.ensures ∙ ap next_stamp c.next_stamp.ensures in
    let leaves = subst (λ (s : Stamp). DiskWritesLeave there (IsOfRecord (write_of kind.Descriptor (record { stamp = s; content = c.args.turn.content.now }) there slots)) p c.write_record.new.patience.left old new) second c.in-Stuck.ensures.leaves in
    record {
      ends = c.in-Stuck.ensures.ends.0;
      keeps = descriptor_keeps c.args.turn c.args.disk there c.args.stamp old c.requires.may slots new leaves.keeps;
      spends = leaves.spends;
      kept = descriptor_path c.args.turn c.args.disk there c.args.stamp old c.requires.may slots p c.write_record.new.patience.left new leaves;
      finds = descriptor_finds c.args.turn c.args.disk there c.args.stamp old c.requires.may slots p c.write_record.new.patience.left new leaves;
    }
