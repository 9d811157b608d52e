-- Over a change of a group's rule of votes or of its size: a span goes on, and what stood stands again.
use Rattle.std.proofs.Common.{◌≡◌, inl, inr, ℕ, Bool, true, false, [], Option, Some, Result, Ok, Err, refl, sym, ap, subst, ◌∙◌}
use Rattle.std.specs.Prelude.{◌≢◌, ⊤, MatchBool}
use Rattle.lvm_num.specs.declared.descriptor.Descriptor.{Descriptor}
use Rattle.lvm_num.specs.Descriptor.{is_member}
use Rattle.lvm_num.specs.Buffer.{Sector}
use Rattle.lvm_num.specs.Record.{Stamped}
use Rattle.lvm_num.specs.declared.status.Status.{Status}
use Rattle.lvm_disk.specs.Device.{Media, image_of}
use Rattle.lvm_disk.specs.Steps.{BothTold}
use Rattle.lvm_vol.specs.Log.{Log}
use Rattle.lvm_kept.specs.Contents.{contents_of}
use Rattle.lvm_kept.specs.Moments.{Moment}
use Rattle.lvm_kept.specs.Plans.{ChangesBy}
use Rattle.lvm_steps.specs.Moments.{Keeps}
use Rattle.lvm_write.specs.Written.{KeepsShelf}
use Rattle.lvm_commit.specs.LawsOfVolumes.{IsOneFoundOn}
use Rattle.lvm_commit.proofs.SettlingLemmas.Chaining.{keeps_wider}
use Rattle.lvm_session.specs.State.{Core, State, is_there, moment_of}
use Rattle.lvm_volume_plan.specs.passed.Core.{IsSettled}
use Rattle.lvm_handover.specs.passed.Core.{IsOfCommand, NoPartition}
use Rattle.lvm_settled.specs.passed.Even.{IsEven}
use Rattle.lvm_members.specs.passed.Change.{with_quorum, as_big}
use Rattle.lvm_members.specs.passed.ChangeLaws.{DiffersInRule}
use Rattle.lvm_members.specs.passed.Turnover.{IsNext, IsOfChange}
use Rattle.lvm_volumes.specs.Endings.{StillHeld}
use Rattle.lvm_members.specs.declared.fault.RuleFault.{RuleFault}
use Rattle.lvm_members.specs.declared.fault.RuleFault.TheVariants as fault
use Rattle.lvm_members.specs.Commands.{BigGives, NothingGives, RuleGives, IfOn, is_over}
use Rattle.lvm_tie_commands.specs.Commands.{IsLeftStandingSince, MayBeCommanded}
use Rattle.lvm_tie_commands.specs.Changing.{IsChangedTo, MakeBigGoesOn, SetQuorumGoesOn}
use Rattle.lvm_tie_commands.proofs.CommandsLemmas.Commands.{KeepsEven, LeavesStanding, keeps_even_for, left_standing_by, still_there, told_next}
use Rattle.lvm_tie_commands.proofs.CommandsLemmas.Records.{records_keep_even}
use Rattle.lvm_tie_commands.proofs.HeldLemmas.{holds_before}

-- where all three hold of a change behind which the session goes on, so does what follows from them
pub on_all : (answer : Result (Unit {0}) RuleFault) (P Q R S : Type 0) → IfOn answer P → IfOn answer Q → IfOn answer R → (P → Q → R → S) → IfOn answer S
on_all answer P Q R S p q r all = by (is_over answer) p q r
  where
    by : (over : Bool) → MatchBool over ⊤ P → MatchBool over ⊤ Q → MatchBool over ⊤ R → MatchBool over ⊤ S
    by true p q r = tt
    by false p q r = all p q r

-- nothing has happened, or the group has the next descriptor, which differs in the rule of votes and in the size alone
pub data IsChangedOrNot (next : Descriptor) (old new : State) : Type 0 where
  IsAsBefore : new ≡ old → IsChangedOrNot next old new
  HasNext : new.core.descriptor ≡ next → DiffersInRule old.core.descriptor next → IsChangedOrNot next old new

rule_changed : (next : Descriptor) (patience : ℕ) (old new : State) (answer : Result (Unit {0}) RuleFault) → RuleGives next patience old new answer → IfOn answer (IsChangedOrNot next old new)
rule_changed next patience old new (Ok done) gives = HasNext (ap (λ (c : Core). c.descriptor) gives.1.is) gives.0.rule.differs
rule_changed next patience old new (Err fault.Dark) gives = tt
rule_changed next patience old new (Err (fault.WentOff have total)) gives = tt
rule_changed next patience old new (Err fault.Stuck) gives = tt
rule_changed next patience old new (Err fault.Busy) gives = IsAsBefore gives.0
rule_changed next patience old new (Err (fault.NoQuorum have total)) gives = IsAsBefore gives.0
rule_changed next patience old new (Err fault.HistoryFull) gives = IsAsBefore gives.0
rule_changed next patience old new (Err fault.Memory) gives = IsAsBefore gives.0

nothing_changed : (next : Descriptor) (old new : State) (answer : Result (Unit {0}) RuleFault) → NothingGives old new answer → IfOn answer (IsChangedOrNot next old new)
nothing_changed next old new (Ok done) gives = IsAsBefore gives.0
nothing_changed next old new (Err fault.Dark) gives = tt
nothing_changed next old new (Err (fault.WentOff have total)) gives = tt
nothing_changed next old new (Err fault.Stuck) gives = tt
nothing_changed next old new (Err fault.Busy) gives = IsAsBefore gives.0
nothing_changed next old new (Err (fault.NoQuorum have total)) gives = IsAsBefore gives.0
nothing_changed next old new (Err fault.HistoryFull) gives = IsAsBefore gives.0
nothing_changed next old new (Err fault.Memory) gives = IsAsBefore gives.0

big_changed : (patience : ℕ) (old new : State) (answer : Result (Unit {0}) RuleFault) → BigGives patience old new answer → IfOn answer (IsChangedOrNot (as_big old.core.descriptor) old new)
big_changed patience old new answer gives = by old.core.descriptor.big gives
  where
    next : Descriptor
    next = as_big old.core.descriptor

    by : (big : Bool) → MatchBool big (NothingGives old new answer) (RuleGives next patience old new answer) → IfOn answer (IsChangedOrNot next old new)
    by true gives = nothing_changed next old new answer gives
    by false gives = rule_changed next patience old new answer gives

module _ (run : ℕ) (first : Moment) (next : Descriptor) (before after : ℕ) (old new : State) (answer : Result (Unit {0}) RuleFault)
    (may : MayBeCommanded run first old) (c : IsChangedTo next before after old new answer) where
  -- whatever is answered
  pub change_keeps : Keeps run first (moment_of new)
  change_keeps = c.leaves.spans run first (λ past begins. (holds_before run first old may c.began past begins).0) may.keeps

  -- beside statuses and the next descriptor nothing is written, since no disk has left
  of_records : (d n : ℕ) (value : Sector) → IsOfChange (IsNext next) [] [] old new d n value → IsOfCommand (IsNext next) NoPartition old new d n value
  of_records d n value (inl of) = inl of
  of_records d n value (inr (inl of)) = inr (inl of)
  of_records d n value (inr (inr of)) = absurd (cc of.0)

  writes : KeepsShelf (is_there old.core) (IsOfCommand (IsNext next) NoPartition old new) old.device new.device
  writes = keeps_wider (is_there old.core) (is_there old.core) (IsOfChange (IsNext next) [] [] old new) (IsOfCommand (IsNext next) NoPartition old new) old.device new.device (λ d off. off) of_records c.leaves.writes

  abbrev Between : Media → Media → Type 0
  Between was is = ChangesBy (IsOfCommand (IsNext next) NoPartition old new) (image_of old.device.sizes was) (image_of new.device.sizes is)

  standing : LeavesStanding old new
  standing = record {
    told = λ was told. told_next old.device.media new.device.media Between was told writes.media;
    calm = c.leaves.calm;
    run_is = ap (λ (l : Log). l.run) c.leaves.history.room;
    epoch = c.leaves.numbers.epoch;
  }

  abbrev EvenFor : Media → Stamped Status → Descriptor → Type 0
  EvenFor is stands group = IsEven (contents_of (image_of new.device.sizes is)) group (Some stands) (is_there new.core)

  module _ (changed : IsChangedOrNot next old new) where
    -- its members and its volumes are as they were
    members : (d : ℕ) → is_member new.core.descriptor d ≡ is_member old.core.descriptor d
    members d = by changed
      where
        by : IsChangedOrNot next old new → is_member new.core.descriptor d ≡ is_member old.core.descriptor d
        by (IsAsBefore same) = ap (λ (s : State). is_member s.core.descriptor d) same
        by (HasNext is differs) = ap (λ (g : Descriptor). is_member g d) is ∙ ap (λ (g : Descriptor). is_member g d) differs

    no_volume : old.core.descriptor.lvs ≡ [] → new.core.descriptor.lvs ≡ []
    no_volume none = by changed
      where
        by : IsChangedOrNot next old new → new.core.descriptor.lvs ≡ []
        by (IsAsBefore same) = ap (λ (s : State). s.core.descriptor.lvs) same ∙ none
        by (HasNext is differs) = ap (λ (g : Descriptor). g.lvs) is ∙ ap (λ (g : Descriptor). g.lvs) differs ∙ none

    keeps_even : KeepsEven old new
    keeps_even was is stood stands told told_new wanted even = by changed
      where
        change : Between was is
        change = subst (λ (m : Option Media). BothTold m (Some is) Between) told (subst (λ (m : Option Media). BothTold old.device.media m Between) told_new writes.media)

        kept : EvenFor is stands old.core.descriptor
        kept = records_keep_even (IsNext next) old new was is stood stands wanted (λ p. c.leaves.status.stale p refl) change even

        by : IsChangedOrNot next old new → EvenFor is stands new.core.descriptor
        by (IsAsBefore same) = subst (EvenFor is stands) (sym (ap (λ (s : State). s.core.descriptor) same)) kept
        by (HasNext its differs) = subst (EvenFor is stands) (sym (its ∙ differs)) kept

    had_some : new.core.descriptor.lvs ≢ [] → old.core.descriptor.lvs ≡ [] → IsOneFoundOn old.device
    had_some some none = absurd (some (no_volume none))

    left_so : IsSettled new.core → StillHeld old new → IsLeftStandingSince run first new
    left_so on still whole past begins = left_standing_by run first old new may c.began standing on still (keeps_even_for old new (still_there old new members (λ d. c.leaves.status.stays d refl)) keeps_even) had_some change_keeps whole past begins

  pub change_goes_on : IfOn answer (IsChangedOrNot next old new) → Keeps run first (moment_of new) × IfOn answer (IsLeftStandingSince run first new)
  change_goes_on changed = (change_keeps, on_all answer (IsSettled new.core) (StillHeld old new) (IsChangedOrNot next old new) (IsLeftStandingSince run first new) c.on c.still changed (λ on still so. left_so so on still))

pub set_quorum_goes_on : SetQuorumGoesOn
set_quorum_goes_on run first on before after old new answer may c gives =
    let next : Descriptor = with_quorum on old.core.descriptor in change_goes_on run first next before after old new answer may c (rule_changed next before old new answer gives)

pub make_big_goes_on : MakeBigGoesOn
make_big_goes_on run first before after old new answer may c gives = change_goes_on run first (as_big old.core.descriptor) before after old new answer may c (big_changed before old new answer gives)
