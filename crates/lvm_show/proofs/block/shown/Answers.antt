use Rattle.std.proofs.Common.{arith, ◌≡◌, ◌<◌, length, ℕ, take, get_or, ◌∙◌}
use Rattle.std.proofs.lemmas.Grind.{common_steps}
use Rattle.std.specs.Int.{w64, from_be_bytes}
use Rattle.lvm_num.proofs.RecordLemmas.Records.{below64}
use Rattle.lvm_show.proofs.BlocksLemmas.{filled_repeats, repeats_filled, shown_whole, shown_short, front_bytes}
use Rattle.lvm_show.proofs.block.shown.Goals as goal

pub returns-in-Some : goal.returns-in-Some
returns-in-Some c = c.split_at.ensures.front ∙ shown_short c.args.block.now (filled_repeats c.in-Some.field-0 c.args.block.now c.in-Some.ensures.filled)

pub returns-in-None : goal.returns-in-None
returns-in-None c = shown_whole c.args.block.now (λ is.
    let long : length (take 8 c.args.block.now) ≡ 8 = grind (arith, common_steps) in
    let bytes : (i : ℕ) → get_or (take 8 c.args.block.now) i 0 < 256 = λ i. front_bytes 8 c.args.block.now i c.fits-block in
    c.in-None.ensures.other (from_be_bytes w64 (take 8 c.args.block.now)) (below64 (take 8 c.args.block.now) bytes) (repeats_filled c.args.block.now long bytes is))
