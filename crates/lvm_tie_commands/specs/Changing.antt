-- Over a change of a group's rule of votes or of its size, by the contract of its call: what stands on the disks goes on to stand, and what a later varyon finds.
use Rattle.std.specs.Prelude.{◌≡◌, ◌⊎◌, ℕ, Bool, List, [], Result}
use Rattle.lvm_num.specs.declared.descriptor.Descriptor.{Descriptor}
use Rattle.lvm_vol.specs.Facts.{Fact}
use Rattle.lvm_kept.specs.Moments.{Moment}
use Rattle.lvm_steps.specs.Moments.{RunBegins, Keeps}
use Rattle.lvm_session.specs.State.{State, moment_of}
use Rattle.lvm_session.specs.Sound.{IsSound}
use Rattle.lvm_volume_plan.specs.passed.Core.{MayBeFound, IsSettled}
use Rattle.lvm_members.specs.passed.Change.{with_quorum, as_big}
use Rattle.lvm_members.specs.passed.Turnover.{ChangeLeaves, IsNext}
use Rattle.lvm_volumes.specs.Endings.{StillHeld, KeepsFresh}
use Rattle.lvm_members.specs.declared.fault.RuleFault.{RuleFault}
use Rattle.lvm_members.specs.Commands.{RuleGives, BigGives, IfOn}
use Rattle.lvm_tie_commands.specs.Commands.{MayBeCommanded, IsLeftStandingSince}
use Rattle.lvm_tie_commands.specs.Serving.{MayServeWith}

-- what the contract of a command says that changes the group to this descriptor, whatever it answers
pub record IsChangedTo (next : Descriptor) (before after : ℕ) (old new : State) (answer : Result (Unit {0}) RuleFault) : Type 0 where
  pub began : IsSettled old.core
  pub on : IfOn answer (IsSettled new.core)
  pub still : IfOn answer (StillHeld old new)
  pub fresh : IfOn answer (KeepsFresh old new)
  pub leaves : ChangeLeaves (IsNext next) [] [] before after old new

-- ---- what stands

-- A span goes on over quorum checking being switched on or off, whatever is answered, and where the session does, what stood stands again,
abbrev pub SetQuorumGoesOn : Type 0
SetQuorumGoesOn = (run : ℕ) (first : Moment) (on : Bool) (before after : ℕ) (old new : State) (answer : Result (Unit {0}) RuleFault)
    → MayBeCommanded run first old → IsChangedTo (with_quorum on old.core.descriptor) before after old new answer → RuleGives (with_quorum on old.core.descriptor) before old new answer
    → Keeps run first (moment_of new) × IfOn answer (IsLeftStandingSince run first new)

-- and so it is where the group becomes big.
abbrev pub MakeBigGoesOn : Type 0
MakeBigGoesOn = (run : ℕ) (first : Moment) (before after : ℕ) (old new : State) (answer : Result (Unit {0}) RuleFault)
    → MayBeCommanded run first old → IsChangedTo (as_big old.core.descriptor) before after old new answer → BigGives before old new answer
    → Keeps run first (moment_of new) × IfOn answer (IsLeftStandingSince run first new)

-- ---- what is found

-- Whatever is answered, each crash image that finds the group finds the descriptor that it had or the next one: so does a later varyon, also behind a power cut.
abbrev pub ChangeFindsTwo : Type 0
ChangeFindsTwo = (run : ℕ) (first : Moment) (next : Descriptor) (before after : ℕ) (old new : State) (answer : Result (Unit {0}) RuleFault)
    → MayBeCommanded run first old → IsChangedTo next before after old new answer → (past : List Fact) → RunBegins run past first
    → (k : Descriptor) → MayBeFound new.device old.core.descriptor.id k → (k ≡ old.core.descriptor) ⊎ (k ≡ next)

-- ---- that requests may follow

-- A sound session may be handed over behind quorum checking being switched that leaves it on,
abbrev pub SetQuorumServes : Type 0
SetQuorumServes = (on : Bool) (before after : ℕ) (old new : State) (answer : Result (Unit {0}) RuleFault)
    → IsSound old → IsChangedTo (with_quorum on old.core.descriptor) before after old new answer → RuleGives (with_quorum on old.core.descriptor) before old new answer → IfOn answer (MayServeWith [] new)

-- and behind the group's becoming big.
abbrev pub MakeBigServes : Type 0
MakeBigServes = (before after : ℕ) (old new : State) (answer : Result (Unit {0}) RuleFault)
    → IsSound old → IsChangedTo (as_big old.core.descriptor) before after old new answer → BigGives before old new answer → IfOn answer (MayServeWith [] new)
