use Rattle.std.proofs.Common.{◌≡◌, ℕ, take, length}
use Rattle.lvm_path.specs.Targets.{states_of}
use Rattle.lvm_path.proofs.target.states_of.Given as goal

abbrev pub invariant-loop-place : goal.invariant-loop-place
invariant-loop-place l = (take l.place l.states ≡ states_of (take l.place l.targets)) × (length l.states ≡ 4)
