use Rattle.std.proofs.Common.{List, sym, subst}
use Rattle.std.specs.Prelude.{All}
use Rattle.lvm_num.specs.declared.descriptor.PvRow.{PvRow}
use Rattle.lvm_num.specs.Descriptor.{IsMember}
use Rattle.lvm_vgda.specs.passed.Fields.{rest_of}
use Rattle.lvm_vgda.proofs.DescriptorLemmas.PassLaws.{members_pass, volumes_pass}
use Rattle.lvm_vgda.proofs.reading.rows_at.Goals as goal

pub maps_at-requires-clause-members : goal.maps_at-requires-clause-members
maps_at-requires-clause-members c =
    subst (λ (rows : List PvRow). All IsMember rows) (sym c.deref.ensures.value)
    (members_pass c.args.counts.0 (rest_of c.args.unread) (c.in_ok-pvs.pvs.items, rest_of c.in_ok-pvs.unread) c.in_ok-pvs.ensures)

pub maps_at-requires-clause-copies : goal.maps_at-requires-clause-copies
maps_at-requires-clause-copies c =
    volumes_pass c.args.big c.args.counts.1 (rest_of c.in_ok-pvs.unread) (c.in_ok-lvs.lvs.items, rest_of c.in_ok-lvs.unread) c.in_ok-lvs.ensures
