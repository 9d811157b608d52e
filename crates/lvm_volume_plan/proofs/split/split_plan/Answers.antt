use Rattle.std.proofs.Common.{◌≡◌, ◌<◌, length, Some, sym, ap, subst, ◌∙◌}
use Rattle.lvm_num.specs.declared.descriptor.Descriptor.{Descriptor}
use Rattle.lvm_num.specs.Descriptor.{IsValid, most_volumes, volume_of}
use Rattle.lvm_core.specs.Looking.{HasNoVolumeNamed}
use Rattle.lvm_map.proofs.PlacesLemmas.{laid_out}
use Rattle.lvm_volume_plan.proofs.SplitLemmas.Both.{valid_split}
use Rattle.lvm_volume_plan.proofs.split.split_plan.Goals as goal

pub with_split-requires-clause-whole : goal.with_split-requires-clause-whole
with_split-requires-clause-whole g c = (laid_out c.args.driver.now.1.descriptor c.args.row.now.number c.args.row.now c.requires.group.valid c.requires.may.counted.copies_for.parts.named.found.volume).whole

pub prepare-requires-clause-valid : goal.prepare-requires-clause-valid
prepare-requires-clause-valid g c =
    let core = c.args.driver.now.1 in
    let d : Descriptor = c.descriptor-group.result.now in
    let row = c.args.row.now in
    let same : d ≡ core.descriptor = c.descriptor-group.ensures.same in
    let parts = c.requires.may.counted.copies_for.parts in
    let volume : volume_of d row.number ≡ Some row = ap (λ (x : Descriptor). volume_of x row.number) same ∙ parts.named.found.volume in
    let new : HasNoVolumeNamed d.lvs c.args.name = subst (λ (x : Descriptor). HasNoVolumeNamed x.lvs c.args.name) (sym same) parts.named.new in
    let fewer : length d.lvs < most_volumes d.big = subst (λ (x : Descriptor). length x.lvs < most_volumes x.big) (sym same) c.requires.may.counted.fewer in
    subst IsValid (sym c.in_ok-with_split.ensures)
    (valid_split d c.args.copies c.lowest_free-number.result c.args.name row c.descriptor-group.ensures.valid volume parts.are c.lowest_free-number.ensures.lowest c.lowest_free-number.ensures.order
    c.as_bytes-bytes.ensures.name new fewer)
