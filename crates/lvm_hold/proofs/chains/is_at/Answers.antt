use Rattle.std.proofs.Common.{◌<◌, ◌∙◌, ap, length}
use Rattle.std.proofs.lemmas.Bool.{eqb-true}
use Rattle.std.proofs.lemmas.List.{get_or_default}
use Rattle.lvm_hold.specs.declared.queue.Row.{Row}
use Rattle.lvm_hold.proofs.PlaceLemmas.{place_some}
use Rattle.lvm_hold.proofs.chains.is_at.Goals as goal

pub returns-then-place-rows : goal.returns-then-place-rows
returns-then-place-rows c same =
    let lt : c.args.place < length c.args.rows.now = c.if-place-rows.true in
    place_some c.args.rows.now c.args.id c.args.place c.requires lt (λ d. ap (λ (r : Row). r.id) (get_or_default c.args.rows.now c.args.place d _ lt) ∙ eqb-true _ c.args.id same)
