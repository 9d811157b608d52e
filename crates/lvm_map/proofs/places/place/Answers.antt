use Rattle.std.proofs.Common.{◌≡◌, ◌/◌, Some, None, refl, sym, ap, ◌∙◌}
use Rattle.std.proofs.lemmas.Bool.{false≢true}
use Rattle.lvm_num.specs.Geometry.{partition_of}
use Rattle.lvm_map.specs.Places.{copy_at}
use Rattle.lvm_map.proofs.PlacesLemmas.{volume_is, laid_out, block_is, no_block}
use Rattle.lvm_map.proofs.places.place.Goals as goal

pub copy_at-requires : goal.copy_at-requires
copy_at-requires c =
    laid_out c.args.d.now c.args.lv c.in_ok-row.row.now c.requires
    (volume_is c.args.d.now c.args.lv c.as_slice.result.now c.in_ok-row.row.now c.in_ok-row.ensures c.as_slice.ensures)

pub returns-in_err-pp-clause-there : goal.returns-in_err-pp-clause-there
returns-in_err-pp-clause-there c =
    let row = c.in_ok-row.row.now in
    let none : copy_at row (partition_of c.args.d.now.mib c.args.block) c.args.copy ≡ None =
    ap (λ n. copy_at row (c.args.block / n) c.args.copy) (sym c.partition_blocks.ensures) ∙ sym c.in_err-pp.ensures in
    let absent = no_block c.args.d.now c.args.lv c.args.copy c.args.block row c.requires
    (volume_is c.args.d.now c.args.lv c.as_slice.result.now row c.in_ok-row.ensures c.as_slice.ensures) none in
    rw c.from_residual-in_err-pp.ensures (λ is. absurd (false≢true is), λ there. absurd (absent there))

pub returns-clause-there : goal.returns-clause-there
returns-clause-there c =
    let row = c.in_ok-row.row.now in
    let some : copy_at row (partition_of c.args.d.now.mib c.args.block) c.args.copy ≡ Some c.in_ok-pp.pp =
    ap (λ n. copy_at row (c.args.block / n) c.args.copy) (sym c.partition_blocks.ensures) ∙ sym c.in_ok-pp.ensures in
    let there = block_is c.args.d.now c.args.lv c.args.copy c.args.block row c.in_ok-pp.pp c.requires
    (volume_is c.args.d.now c.args.lv c.as_slice.result.now row c.in_ok-row.ensures c.as_slice.ensures) some in
    (λ is. there, λ there. refl)
