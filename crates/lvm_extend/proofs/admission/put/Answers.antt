use Rattle.std.proofs.Common.{◌≡◌, ℕ, ◌||◌, false, Bool, sym, ap, subst, ◌∙◌}
use Rattle.std.specs.Prelude.{◌==◌}
use Rattle.lvm_num.specs.Disks.{Disks, has}
use Rattle.lvm_num.proofs.Booleans.{or_false}
use Rattle.lvm_disk.specs.Device.{Device}
use Rattle.lvm_kept.specs.Torn.{IsOfRecord}
use Rattle.lvm_rec.specs.Homes.{Flips}
use Rattle.lvm_write.specs.Writes.{DiskWritesLeave, EachTried}
use Rattle.lvm_write.specs.Written.{write_of, StandsTold}
use Rattle.lvm_extend.specs.Admission.{alone}
use Rattle.lvm_extend.proofs.AdmissionLemmas.{is_alone, well_alone}
use Rattle.lvm_extend.proofs.admission.put.Goals as goal

-- the set of one disk
own_is : (none own disk : ℕ) → ((d : ℕ) → has none d ≡ false) → ((d : ℕ) → has own d ≡ (has none d || d == disk)) → has own ≡ alone disk
own_is none own disk empty with = λ t d. (with d ∙ ap (λ (b : Bool). b || (d == disk)) (empty d) ∙ sym (or_false (d == disk))) t

pub returns-then-has-clause-ends : goal.returns-then-has-clause-ends
returns-then-has-clause-ends g c =
    let set : has c.with-own.result ≡ alone c.args.disk = own_is c.empty.result c.with-own.result c.args.disk c.empty.ensures c.with-own.ensures in
    let old : Device = g.S.Shelf.device c.args.shelf.now in
    let new : Device = g.S.Shelf.device c.write_record.new.shelf in
    let each = subst (λ (s : Disks). EachTried s (StandsTold (write_of c.args.kind (record { stamp = c.args.stamp; content = c.args.content.now }) s c.args.homes.now)) (λ written. Flips c.args.kind written c.args.homes.now c.write_record.new.homes) c.args.buf.number old new (has c.in-Ended.failed) c.in-Ended.buf) set c.in-Ended.ensures.ends in
    (each.back, (each.each c.args.disk).badly (sym c.has.ensures.member ∙ c.if-has.true))

pub returns-else-has-clause-ends : goal.returns-else-has-clause-ends
returns-else-has-clause-ends g c =
    let set : has c.with-own.result ≡ alone c.args.disk = own_is c.empty.result c.with-own.result c.args.disk c.empty.ensures c.with-own.ensures in
    let old : Device = g.S.Shelf.device c.args.shelf.now in
    let new : Device = g.S.Shelf.device c.write_record.new.shelf in
    let each = subst (λ (s : Disks). EachTried s (StandsTold (write_of c.args.kind (record { stamp = c.args.stamp; content = c.args.content.now }) s c.args.homes.now)) (λ written. Flips c.args.kind written c.args.homes.now c.write_record.new.homes) c.args.buf.number old new (has c.in-Ended.failed) c.in-Ended.buf) set c.in-Ended.ensures.ends in
    let well = sym c.has.ensures.member ∙ c.if-has.false in
    (each.back, (each.each c.args.disk).stands (is_alone c.args.disk) well, (each.each c.args.disk).well well, subst (λ (s : Disks). Flips c.args.kind s c.args.homes.now c.write_record.new.homes) (well_alone c.args.disk (has c.in-Ended.failed) well) each.next)

pub returns-in-Dark-clause-leaves : goal.returns-in-Dark-clause-leaves
returns-in-Dark-clause-leaves g c =
    subst (λ (s : Disks). DiskWritesLeave s (IsOfRecord (write_of c.args.kind (record { stamp = c.args.stamp; content = c.args.content.now }) s c.args.homes.now)) c.args.patience.now.left c.write_record.new.patience.left (g.S.Shelf.device c.args.shelf.now) (g.S.Shelf.device c.write_record.new.shelf))
    (own_is c.empty.result c.with-own.result c.args.disk c.empty.ensures c.with-own.ensures) c.in-Dark.ensures.leaves

pub returns-in-Stuck-clause-leaves : goal.returns-in-Stuck-clause-leaves
returns-in-Stuck-clause-leaves g c =
    subst (λ (s : Disks). DiskWritesLeave s (IsOfRecord (write_of c.args.kind (record { stamp = c.args.stamp; content = c.args.content.now }) s c.args.homes.now)) c.args.patience.now.left c.write_record.new.patience.left (g.S.Shelf.device c.args.shelf.now) (g.S.Shelf.device c.write_record.new.shelf))
    (own_is c.empty.result c.with-own.result c.args.disk c.empty.ensures c.with-own.ensures) c.in-Stuck.ensures.leaves
