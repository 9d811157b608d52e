use Rattle.std.proofs.Common.{◌≡◌, ℕ, ap, subst, ◌∙◌}
use Rattle.lvm_num.specs.declared.record.Kind.TheVariants as kind
use Rattle.lvm_num.specs.declared.record.Stamp.{Stamp}
use Rattle.lvm_disk.specs.Device.{Device}
use Rattle.lvm_kept.specs.Torn.{IsOfRecord}
use Rattle.lvm_write.specs.Writes.{DiskWritesLeave}
use Rattle.lvm_write.specs.Written.{write_of}
use Rattle.lvm_commit.specs.Committed.{next_stamp}
use Rattle.lvm_extend.specs.declared.admission.Admitted.TheVariants as admitted
use Rattle.lvm_extend.specs.Admission.{alone, PutEnds}
use Rattle.lvm_extend.proofs.AdmissionLemmas.{stopped, went_on}
use Rattle.lvm_extend.proofs.admission.admit.Goals as goal

pub returns-in-Done : goal.returns-in-Done
returns-in-Done g c =
    let old : Device = g.S.Shelf.device c.args.shelf.now in
    let m : Device = g.S.Shelf.device c.put.new.shelf in
    let new : Device = g.S.Shelf.device c.put-in-Done.new.shelf in
    let disk : ℕ = c.args.disk in
    let homes = c.args.homes.now in
    let slots = c.put.new.homes in
    let p : ℕ = c.args.patience.now.left in
    let q : ℕ = c.put.new.patience.left in
    let z : ℕ = c.put-in-Done.new.patience.left in
    let second : c.next_stamp.result ≡ next_stamp (next_stamp c.args.stamp) = c.next_stamp.ensures ∙ ap next_stamp c.next_stamp-first.ensures in
    went_on c.args.turn disk c.args.stamp homes old (g.met.S.Shelf.sectors_are_whole c.args.shelf.now) c.requires.may slots p q m
    (subst (λ (s : Stamp). DiskWritesLeave (alone disk) (IsOfRecord (write_of kind.Status (record { stamp = s; content = c.args.turn.status.now }) (alone disk) homes)) p q old m) c.next_stamp-first.ensures c.in-Done.ensures.leaves)
    c.args.buf.number c.in-Done.buf
    (subst (λ (s : Stamp). PutEnds (write_of kind.Status (record { stamp = s; content = c.args.turn.status.now }) (alone disk) homes) homes slots disk c.args.buf.number p old m (admitted.Done c.in-Done.buf)) c.next_stamp-first.ensures c.in-Done.ensures.ends)
    c.put-in-Done.new.homes z new
    (subst (λ (s : Stamp). DiskWritesLeave (alone disk) (IsOfRecord (write_of kind.Descriptor (record { stamp = s; content = c.args.turn.content.now }) (alone disk) slots)) q z m new) second c.put-in-Done.ensures.leaves)
    c.put-in-Done.result
    (subst (λ (s : Stamp). PutEnds (write_of kind.Descriptor (record { stamp = s; content = c.args.turn.content.now }) (alone disk) slots) slots c.put-in-Done.new.homes disk c.in-Done.buf.number q m new c.put-in-Done.result) second c.put-in-Done.ensures.ends)

pub returns-in_default : goal.returns-in_default
returns-in_default g c =
    let old : Device = g.S.Shelf.device c.args.shelf.now in
    let m : Device = g.S.Shelf.device c.put.new.shelf in
    let disk : ℕ = c.args.disk in
    let homes = c.args.homes.now in
    let slots = c.put.new.homes in
    let p : ℕ = c.args.patience.now.left in
    let q : ℕ = c.put.new.patience.left in
    stopped c.args.turn disk c.args.stamp homes old (g.met.S.Shelf.sectors_are_whole c.args.shelf.now) c.requires.may slots p q m
    (subst (λ (s : Stamp). DiskWritesLeave (alone disk) (IsOfRecord (write_of kind.Status (record { stamp = s; content = c.args.turn.status.now }) (alone disk) homes)) p q old m) c.next_stamp-first.ensures c.put.ensures.leaves)
    c.args.buf.number c.put.result c.in_default.not-Done
    (subst (λ (s : Stamp). PutEnds (write_of kind.Status (record { stamp = s; content = c.args.turn.status.now }) (alone disk) homes) homes slots disk c.args.buf.number p old m c.put.result) c.next_stamp-first.ensures c.put.ensures.ends)
