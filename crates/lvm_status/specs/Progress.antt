-- What the end of a write is answered with.
use Rattle.std.specs.Prelude.{Bool, ℕ, if◌then◌else◌}
use Rattle.lvm_status.specs.passed.Num.{Descriptor, total_votes, is_enough_to_write}
use Rattle.lvm_status.specs.declared.change.Progress.{Progress}
use Rattle.lvm_status.specs.declared.change.Progress.TheVariants as progress

-- by the votes of the members that aren't missing, and whether the update came to be committed
abbrev pub progress_of : Descriptor → ℕ → Bool → Progress
progress_of d have commits = if is_enough_to_write d have then (if commits then progress.Committed else progress.Waiting) else progress.QuorumLost have (total_votes d)
