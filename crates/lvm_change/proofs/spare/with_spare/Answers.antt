use Rattle.std.proofs.Common.{◌≡◌, map, ap, sym, subst, ◌∙◌}
use Rattle.lvm_num.specs.declared.descriptor.Descriptor.{Descriptor}
use Rattle.lvm_num.specs.Descriptor.{IsValid}
use Rattle.lvm_change_laws.specs.Spares.{DiffersInSpares}
use Rattle.lvm_change.specs.Spare.{marked, with_spare}
use Rattle.lvm_change.proofs.MarkingLemmas.{spare_differs, spare_is, spare_valid}
use Rattle.lvm_change.proofs.spare.with_spare.Goals as goal

pub returns-clause-valid : goal.returns-clause-valid
returns-clause-valid c =
    let d : Descriptor = c.args.d.now in
    let rows : c.new.result ≡ map (marked c.args.disk c.args.on) d.pvs = c.new.ensures ∙ c.in_ok-pvs.ensures ∙ ap (map (marked c.args.disk c.args.on)) c.as_slice.ensures in
    subst IsValid (sym (spare_is c.args.disk c.args.on d c.in_ok-next.next c.new.result c.in_ok-next.ensures rows)) (spare_valid c.args.disk c.args.on d c.requires)

pub returns-clause-differs : goal.returns-clause-differs
returns-clause-differs c =
    let d : Descriptor = c.args.d.now in
    let rows : c.new.result ≡ map (marked c.args.disk c.args.on) d.pvs = c.new.ensures ∙ c.in_ok-pvs.ensures ∙ ap (map (marked c.args.disk c.args.on)) c.as_slice.ensures in
    subst (DiffersInSpares d) (sym (spare_is c.args.disk c.args.on d c.in_ok-next.next c.new.result c.in_ok-next.ensures rows)) (spare_differs c.args.disk c.args.on d)
