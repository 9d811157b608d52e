use Rattle.std.proofs.Common.{◌≡◌, ℕ, false, [], take}
use Rattle.std.specs.Prelude.{All}
use Rattle.lvm_num.specs.Status.{calls_dirty}
use Rattle.lvm_core.proofs.StepsLemmas.Dirtying.{DirtSoFar}
use Rattle.lvm_core.proofs.marks.mark_clean.Given as goal

abbrev pub invariant-loop-number : goal.invariant-loop-number
invariant-loop-number l = DirtSoFar [] (take l.number-index l.numbers) (All (λ (p : ℕ). calls_dirty l.initial.updater.wanted p ≡ false) l.numbers) l.initial.updater l.updater
