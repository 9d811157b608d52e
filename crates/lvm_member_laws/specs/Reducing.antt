-- Over disks that leave a group, by the contract of `reducevg`: what stands on the disks goes on to stand, and what a later varyon finds.
use Rattle.std.specs.Prelude.{◌≡◌, ◌⊎◌, ℕ, List, [], Result, Ok, IsTrue, IsFalse}
use Rattle.lvm_num.specs.declared.descriptor.Descriptor.{Descriptor}
use Rattle.lvm_num.specs.Descriptor.{is_member}
use Rattle.lvm_vol.specs.Facts.{Fact}
use Rattle.lvm_kept.specs.Moments.{Moment}
use Rattle.lvm_steps.specs.Moments.{RunBegins, Keeps}
use Rattle.lvm_core.specs.Committing.{is_in}
use Rattle.lvm_session.specs.State.{State, moment_of}
use Rattle.lvm_session.specs.Sound.{IsSound}
use Rattle.lvm_volume_plan.specs.passed.Core.{MayBeFound, IsSettled}
use Rattle.lvm_volumes.specs.Endings.{StillHeld, KeepsFresh}
use Rattle.lvm_members.specs.passed.Turnover.{ChangeLeaves}
use Rattle.lvm_member_plan.specs.declared.fault.ReduceFault.{ReduceFault}
use Rattle.lvm_reduce.specs.Answers.{IfOn, ReduceGives}
use Rattle.lvm_member_plan.specs.Descriptors.{IsReducedBy, reduced}
use Rattle.lvm_tie_commands.specs.Commands.{MayBeCommanded, IsLeftStandingSince}
use Rattle.lvm_tie_commands.specs.Serving.{MayServeWith}

-- what the contract of `reducevg` says of these disks, whatever it answers
pub record IsReduced (disks : List ℕ) (before after : ℕ) (old new : State) (answer : Result (Unit {0}) ReduceFault) : Type 0 where
  pub began : IsSettled old.core
  pub on : IfOn answer (IsSettled new.core)
  pub still : IfOn answer (StillHeld old new)
  pub fresh : IfOn answer (KeepsFresh old new)
  pub leaves : ChangeLeaves (IsReducedBy disks old.core.descriptor) [] disks before after old new
  pub gives : ReduceGives disks before old new answer

-- ---- what stands

-- A span goes on over disks that leave, whatever is answered, and where the session does, what stood stands again.
abbrev pub ReduceGoesOn : Type 0
ReduceGoesOn = (run : ℕ) (first : Moment) (disks : List ℕ) (before after : ℕ) (old new : State) (answer : Result (Unit {0}) ReduceFault)
    → MayBeCommanded run first old → IsReduced disks before after old new answer → Keeps run first (moment_of new) × IfOn answer (IsLeftStandingSince run first new)

-- ---- what is found

-- Whatever is answered, each crash image that finds the group finds the descriptor that it had, or one on the way: so does a later varyon, also behind a power cut.
abbrev pub ReduceFinds : Type 0
ReduceFinds = (run : ℕ) (first : Moment) (disks : List ℕ) (before after : ℕ) (old new : State) (answer : Result (Unit {0}) ReduceFault)
    → MayBeCommanded run first old → IsReduced disks before after old new answer → (past : List Fact) → RunBegins run past first
    → (k : Descriptor) → MayBeFound new.device old.core.descriptor.id k → (k ≡ old.core.descriptor) ⊎ IsReducedBy disks old.core.descriptor k

-- Where they have left, nothing of the group is found any more by which one of them is a member, be its records erased or not.
abbrev pub ReduceLeavesOut : Type 0
ReduceLeavesOut = (run : ℕ) (first : Moment) (disks : List ℕ) (before after : ℕ) (old new : State)
    → MayBeCommanded run first old → IsReduced disks before after old new (Ok tt) → (past : List Fact) → RunBegins run past first
    → (k : Descriptor) → MayBeFound new.device old.core.descriptor.id k → (k ≡ reduced disks old.core.descriptor) × ((x : ℕ) → IsTrue (is_in disks x) → IsFalse (is_member k x))

-- ---- that requests may follow

-- A sound session may be handed over behind disks that leave, where it goes on.
abbrev pub ReduceServes : Type 0
ReduceServes = (disks : List ℕ) (before after : ℕ) (old new : State) (answer : Result (Unit {0}) ReduceFault)
    → IsSound old → IsReduced disks before after old new answer → IfOn answer (MayServeWith [] new)
