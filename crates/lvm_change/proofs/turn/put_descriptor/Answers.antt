use Rattle.std.proofs.Common.{ℕ, subst}
use Rattle.lvm_num.specs.declared.record.Kind.TheVariants as kind
use Rattle.lvm_num.specs.declared.record.Stamp.{Stamp}
use Rattle.lvm_num.specs.Disks.{Disks, has}
use Rattle.lvm_disk.specs.Device.{Device, HasSectors}
use Rattle.lvm_kept.specs.Torn.{IsOfRecord}
use Rattle.lvm_rec.specs.Homes.{Flips}
use Rattle.lvm_write.specs.Writes.{DiskWritesLeave, EachTried}
use Rattle.lvm_write.specs.Written.{write_of, StandsTold}
use Rattle.lvm_change.specs.declared.turn.TransitionEnd.TheVariants as turned
use Rattle.lvm_change.proofs.DescribeLemmas.{described, tried}
use Rattle.lvm_change.proofs.turn.put_descriptor.Goals as goal

pub returns-in-Ended : goal.returns-in-Ended
returns-in-Ended g c =
    let old : Device = g.S.Shelf.device c.args.shelf.now in
    let new : Device = g.S.Shelf.device c.write_record.new.shelf in
    let sectors : HasSectors old = g.met.S.Shelf.sectors_are_whole c.args.shelf.now in
    let there : Disks = has c.args.there in
    let homes = c.args.homes.now in
    let slots = c.write_record.new.homes in
    let number : ℕ = c.args.buf.number in
    let p : ℕ = c.args.patience.now.left in
    let q : ℕ = c.write_record.new.patience.left in
    let content = c.args.turn.content.now in
    let leaves = subst (λ (s : Stamp). DiskWritesLeave there (IsOfRecord (write_of kind.Descriptor (record { stamp = s; content = content }) there homes)) p q old new) c.next_stamp.ensures c.write_record.ensures.leaves in
    let each = subst (λ (s : Stamp). EachTried there (StandsTold (write_of kind.Descriptor (record { stamp = s; content = content }) there homes)) (λ written. Flips kind.Descriptor written homes slots) number old new (has c.in-Ended.failed) c.in-Ended.buf)
    c.next_stamp.ensures c.in-Ended.ensures.ends in
    described c.args.turn there c.args.stamp homes old sectors c.requires.may c.requires.was c.requires.next slots number p q new leaves c.by_votes.result
    (tried c.args.turn there c.args.stamp homes old sectors c.requires.may c.requires.was c.requires.next slots number p q new leaves (has c.in-Ended.failed) (has c.without.result) c.in-Ended.buf each c.without.ensures c.by_votes.result c.by_votes.ensures)

pub returns-in-Dark : goal.returns-in-Dark
returns-in-Dark g c =
    let old : Device = g.S.Shelf.device c.args.shelf.now in
    let new : Device = g.S.Shelf.device c.write_record.new.shelf in
    let there : Disks = has c.args.there in
    let leaves = subst (λ (s : Stamp). DiskWritesLeave there (IsOfRecord (write_of kind.Descriptor (record { stamp = s; content = c.args.turn.content.now }) there c.args.homes.now)) c.args.patience.now.left c.write_record.new.patience.left old new)
    c.next_stamp.ensures c.write_record.ensures.leaves in
    described c.args.turn there c.args.stamp c.args.homes.now old (g.met.S.Shelf.sectors_are_whole c.args.shelf.now) c.requires.may c.requires.was c.requires.next c.write_record.new.homes c.args.buf.number c.args.patience.now.left c.write_record.new.patience.left new leaves
    turned.Dark c.in-Dark.ensures.ends.0

pub returns-in-Stuck : goal.returns-in-Stuck
returns-in-Stuck g c =
    let old : Device = g.S.Shelf.device c.args.shelf.now in
    let new : Device = g.S.Shelf.device c.write_record.new.shelf in
    let there : Disks = has c.args.there in
    let leaves = subst (λ (s : Stamp). DiskWritesLeave there (IsOfRecord (write_of kind.Descriptor (record { stamp = s; content = c.args.turn.content.now }) there c.args.homes.now)) c.args.patience.now.left c.write_record.new.patience.left old new)
    c.next_stamp.ensures c.write_record.ensures.leaves in
    described c.args.turn there c.args.stamp c.args.homes.now old (g.met.S.Shelf.sectors_are_whole c.args.shelf.now) c.requires.may c.requires.was c.requires.next c.write_record.new.homes c.args.buf.number c.args.patience.now.left c.write_record.new.patience.left new leaves
    turned.Stuck c.in-Stuck.ensures.ends.0
