use Rattle.std.proofs.Common.{◌≡◌, ℕ, true, [], take}
use Rattle.std.specs.Prelude.{All}
use Rattle.lvm_num.specs.Status.{calls_dirty}
use Rattle.lvm_core.proofs.StepsLemmas.Dirtying.{DirtSoFar}
use Rattle.lvm_core.proofs.marks.mark_dirty.Given as goal

abbrev pub invariant-loop-number : goal.invariant-loop-number
invariant-loop-number l = DirtSoFar (take l.number-index l.numbers) [] (All (λ (p : ℕ). calls_dirty l.initial.updater.wanted p ≡ true) l.numbers) l.initial.updater l.updater
