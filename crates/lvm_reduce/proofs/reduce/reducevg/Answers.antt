use Rattle.std.proofs.Common.{◌≡◌, ℕ, ◌+◌, ◌*◌, [], length}
use Rattle.std.specs.Prelude.{Err}
use Rattle.lvm_session.specs.State.{State, state}
use Rattle.lvm_core.specs.Settled.{IsSettled}
use Rattle.lvm_volumes.specs.Endings.{StillHeld, KeepsFresh}
use Rattle.lvm_member_plan.specs.Descriptors.{IsReducedBy}
use Rattle.lvm_member_steps.proofs.OffLemmas.{here_leaves}
use Rattle.lvm_reduce.proofs.GivesLemmas.{if_on, nothing_fresh, nothing_still, refused}
use Rattle.lvm_reduce.proofs.reduce.reducevg.Goals as goal
