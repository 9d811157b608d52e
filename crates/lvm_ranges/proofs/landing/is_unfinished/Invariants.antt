use Rattle.std.proofs.Common.{◌≡◌, ◌<◌, ◌+◌, ℕ, false}
use Rattle.lvm_vol.specs.Log.{is_open}
use Rattle.lvm_ranges.proofs.landing.is_unfinished.Given as goal

abbrev pub invariant-loop-piece : goal.invariant-loop-piece
invariant-loop-piece g l = (k : ℕ) → k < l.piece → is_open l.driver.1.history.facts (l.asked.first + k) ≡ false
