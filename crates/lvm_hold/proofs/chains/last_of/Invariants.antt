use Rattle.std.proofs.Common.{◌≡◌, ◌≤◌, length, take}
use Rattle.lvm_hold.specs.Chains.{last_of}
use Rattle.lvm_hold.proofs.chains.last_of.Given as goal

abbrev pub invariant-loop-place : goal.invariant-loop-place
invariant-loop-place l = (l.place ≤ length l.rows) × (last_of l.head l.rows ≡ last_of l.head (take l.place l.rows))

abbrev pub decreases-loop-place : goal.decreases-loop-place
decreases-loop-place l = l.place
