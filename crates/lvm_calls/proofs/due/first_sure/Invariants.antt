use Rattle.std.proofs.Common.{◌≡◌, ◌<◌, ℕ, false}
use Rattle.lvm_session.specs.Fields.{core_of}
use Rattle.lvm_calls.specs.Due.{sure_at}
use Rattle.lvm_calls.proofs.due.first_sure.Given as goal

abbrev pub invariant-loop-k : goal.invariant-loop-k
invariant-loop-k l = (j : ℕ) → j < l.k → sure_at (core_of l.session) l.targets j ≡ false
