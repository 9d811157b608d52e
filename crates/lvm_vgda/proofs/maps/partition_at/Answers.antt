use Rattle.std.proofs.Common.{◌≡◌, ◌++◌, ℕ, List, Result, Ok, sym, subst, ◌∙◌}
use Rattle.std.proofs.lemmas.Result.{err_from_is_err_and}
use Rattle.lvm_num.specs.declared.place.Pp.{Pp}
use Rattle.lvm_num.specs.DescriptorBytes.{unfinished, partition_at}
use Rattle.lvm_num.specs.Reading.{Rest}
use Rattle.lvm_vgda.specs.passed.Fields.{Gives, Fails, rest_of}
use Rattle.lvm_vgda.specs.Used.{free_at}
use Rattle.lvm_vgda.proofs.DescriptorBytesLemmas.MapLoops.{fails_on, passes_on, copy_disk_at, two_parts}
use Rattle.lvm_vgda.proofs.maps.partition_at.Goals as goal

pub returns-in_err-disk-clause-read : goal.returns-in_err-disk-clause-read
returns-in_err-disk-clause-read c = λ pps uses.
    let p = err_from_is_err_and c.from_residual.result c.from_residual.ensures.1 in
    let members = c.args.members.now in
    let own = c.args.own.now in
    let fails : Fails c.in_err-disk.field-0.0 (copy_disk_at c.args.members.now (unfinished c.args.copies c.args.own.now) (rest_of c.args.unread)) =
    subst (λ (begun : List Pp). Fails c.in_err-disk.field-0.0 (copy_disk_at c.args.members.now begun (rest_of c.args.unread))) c.unfinished.ensures c.in_err-disk.ensures in
    rw (p.1, p.2)
    (subst (λ (read : Result (Pp × Rest) ℕ). Fails c.in_err-disk.field-0.0 read) (sym (two_parts members pps c.args.copies own (rest_of c.args.unread)))
    (fails_on c.in_err-disk.field-0.0 (copy_disk_at members (unfinished c.args.copies own) (rest_of c.args.unread)) (λ disk. free_at members (pps ++ own) disk.0 disk.1) fails))

pub returns-clause-read : goal.returns-clause-read
returns-clause-read c = λ pps uses.
    let members = c.args.members.now in
    let own = c.args.own.now in
    let disk : copy_disk_at c.args.members.now (unfinished c.args.copies c.args.own.now) (rest_of c.args.unread) ≡ Ok (c.in_ok-disk.disk, rest_of c.in_ok-disk.unread) =
    subst (λ (begun : List Pp). copy_disk_at c.args.members.now begun (rest_of c.args.unread) ≡ Ok (c.in_ok-disk.disk, rest_of c.in_ok-disk.unread)) c.unfinished.ensures c.in_ok-disk.ensures in
    let is : partition_at c.args.members.now pps c.args.copies c.args.own.now (rest_of c.args.unread) ≡ free_at c.args.members.now (pps ++ c.args.own.now) c.in_ok-disk.disk (rest_of c.in_ok-disk.unread) =
    two_parts members pps c.args.copies own (rest_of c.args.unread)
    ∙ passes_on (copy_disk_at members (unfinished c.args.copies own) (rest_of c.args.unread)) (λ (d : ℕ × Rest). free_at members (pps ++ own) d.0 d.1) (c.in_ok-disk.disk, rest_of c.in_ok-disk.unread) disk in
    subst (λ (read : Result (Pp × Rest) ℕ). Gives (λ x. (x.0, rest_of x.1)) c.free_at.result read) (sym is) (c.free_at.ensures.read (pps ++ own) uses)
