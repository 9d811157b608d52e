use Rattle.std.proofs.Common.{List, refl, sym, subst, ◌∙◌}
use Rattle.std.proofs.lemmas.Bool.{false≢true}
use Rattle.lvm_num.specs.declared.descriptor.PvRow.{PvRow}
use Rattle.lvm_num.specs.Descriptor.{AreMembers, AreVolumes}
use Rattle.lvm_num.specs.Marks.{AreCounts, AreCounted}
use Rattle.lvm_num.proofs.MarksLemmas.Maps.{counted_is_maps, maps_is_counted}
use Rattle.lvm_num.proofs.descriptor.Descriptor.is_valid.Goals as goal
use Rattle.lvm_num.proofs.descriptor.Descriptor.is_valid.Goals.{then-is_head, else-is_head}

pub returns-then-are_volumes : goal.returns-then-are_volumes
returns-then-are_volumes c =
    let d = c.args.self.now in
    let counted : AreCounts d.pvs c.in-Some.counts = subst (λ (rows : List PvRow). AreCounts rows c.in-Some.counts) c.as_slice.ensures c.in-Some.ensures.counts in
    let members : AreMembers d.pvs = subst AreMembers c.as_slice.ensures (c.in-Some.ensures.members.0 refl) in
    let lvs = c.as_slice-lvs.ensures in (
      λ is. elim c.if-is_head.branch [
        | then-is_head w ↦ record {
          head = c.is_head.ensures.0 w.if-is_head.true;
          members = members;
          volumes = subst (AreVolumes d.big) lvs (w.are_volumes.ensures.0 (sym w.value-is ∙ c.if-are_volumes.true));
          maps = counted_is_maps d c.in-Some.counts counted (subst (AreCounted c.in-Some.counts) lvs (c.are_maps.ensures.0 is));
        }
        | else-is_head w ↦ absurd (false≢true (sym w.if-is_head.false ∙ sym w.value-is ∙ c.if-are_volumes.true))
      ],
      λ valid. c.are_maps.ensures.1 (subst (AreCounted c.in-Some.counts) (sym lvs) (maps_is_counted d c.in-Some.counts members counted c.in-Some.ensures.most valid.maps)),
    )
