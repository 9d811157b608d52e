use Rattle.std.proofs.Common.{◌≡◌, ◌≢◌, ◌<◌, ◌^◌, ap, sym, subst, ◌∙◌, List, get_or, length}
use Rattle.std.specs.Prelude.{All}
use Rattle.std.proofs.lemmas.List.Elements.{Contains-get_or}
use Rattle.lvm_num.specs.declared.place.Pp.{Pp}
use Rattle.lvm_num.specs.declared.descriptor.Descriptor.{Descriptor}
use Rattle.lvm_num.specs.declared.descriptor.LvRow.{LvRow}
use Rattle.lvm_num.specs.Descriptor.{IsValid, most_volumes}
use Rattle.lvm_map.specs.FirstFit.{IsAllocated, new_volume}
use Rattle.lvm_core.specs.passed.Session.{Core, is_there}
use Rattle.lvm_volume_plan.specs.NewVolume.{row_for, with_volume}
use Rattle.lvm_volume_plan.specs.Faults.{HasPlaces}
use Rattle.lvm_volume_plan.proofs.NewVolumeLemmas.NewDescriptor.{valid_with}
use Rattle.lvm_volume_plan.proofs.new_volume.plan.Goals as goal

pub prepare-requires-clause-valid : goal.prepare-requires-clause-valid
prepare-requires-clause-valid g c =
    let core : Core = c.args.driver.now.1 in
    let v = c.args.v.now in
    let d : Descriptor = c.descriptor-group.result.now in
    let same : d ≡ core.descriptor = c.descriptor-group.ensures.same in
    let number = c.lowest_free-number.result in
    let places : HasPlaces v core c.args.map = c.requires.may.places in
    let placed : IsAllocated d (is_there core) (new_volume v.lps v.copies) c.args.map = subst (λ (x : Descriptor). IsAllocated x (is_there core) (new_volume v.lps v.copies) c.args.map) (sym same) places.placed in
    let others : All (λ (r : LvRow). r.name ≢ v.name) core.descriptor.lvs = λ k e lt is. places.numbered.counted.named.new (get_or core.descriptor.lvs k e) (Contains-get_or core.descriptor.lvs k e lt) is in
    let new_name : All (λ (r : LvRow). r.name ≢ v.name) d.lvs = subst (λ (x : Descriptor). All (λ (r : LvRow). r.name ≢ v.name) x.lvs) (sym same) others in
    let few : v.lps < 2 ^ 32 = c.blocks_of-blocks.ensures.few in
    let fewer : length d.lvs < most_volumes d.big = subst (λ (x : Descriptor). length x.lvs < most_volumes x.big) (sym same) places.numbered.fewer in
    subst IsValid (sym (c.in_ok-with_new.ensures ∙ ap (λ (m : List Pp). with_volume d (row_for v number m)) c.as_slice.ensures))
    (valid_with d v number c.args.map c.descriptor-group.ensures.valid c.lowest_free-number.ensures.lowest c.lowest_free-number.ensures.order
    c.as_bytes-bytes.ensures.name new_name places.numbered.counted.copies c.requires.some few fewer (is_there core) placed)
