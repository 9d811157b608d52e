-- Over disks that leave a group a span goes on, and what stood stands again.
use Rattle.std.proofs.Common.{◌≡◌, ℕ, Bool, true, false, not, List, [], Option, Some, Result, Ok, Err, refl, sym, ap, subst, ◌∙◌}
use Rattle.std.specs.Prelude.{◌≢◌, IsTrue, ⊤, MatchBool}
use Rattle.lvm_num.specs.declared.descriptor.Descriptor.{Descriptor}
use Rattle.lvm_num.specs.declared.place.Pp.{Pp}
use Rattle.lvm_num.specs.declared.status.Status.{Status}
use Rattle.lvm_num.specs.Descriptor.{is_member}
use Rattle.lvm_num.specs.Record.{Stamped}
use Rattle.lvm_num.specs.Status.{calls_missing, calls_stale}
use Rattle.lvm_disk.specs.Device.{Media, image_of}
use Rattle.lvm_disk.specs.Steps.{BothTold}
use Rattle.lvm_vol.specs.Log.{Log}
use Rattle.lvm_kept.specs.Contents.{contents_of}
use Rattle.lvm_kept.specs.Moments.{Moment}
use Rattle.lvm_kept.specs.Plans.{ChangesBy}
use Rattle.lvm_steps.specs.Moments.{Keeps}
use Rattle.lvm_steps.proofs.RecordLemmas.{join, split}
use Rattle.lvm_commit.specs.LawsOfVolumes.{IsOneFoundOn}
use Rattle.lvm_session.specs.State.{Core, State, is_there, moment_of}
use Rattle.lvm_volume_plan.specs.passed.Core.{IsSettled}
use Rattle.lvm_even.specs.Even.{IsEven}
use Rattle.lvm_volumes.specs.Endings.{StillHeld}
use Rattle.lvm_members.specs.passed.Turnover.{IsOfChange}
use Rattle.lvm_member_plan.specs.declared.fault.ReduceFault.{ReduceFault}
use Rattle.lvm_member_plan.specs.declared.fault.ReduceFault.TheVariants as fault
use Rattle.lvm_reduce.specs.Answers.{HasReduced, IfOn, ReduceGives, is_over}
use Rattle.lvm_member_plan.specs.Descriptors.{IsReducedBy}
use Rattle.lvm_tie_commands.specs.Commands.{IsLeftStandingSince, MayBeCommanded}
use Rattle.lvm_tie_commands.proofs.CommandsLemmas.Commands.{KeepsEven, LeavesStanding, keeps_even_for, left_standing_by, told_next}
use Rattle.lvm_tie_commands.proofs.HeldLemmas.{holds_before}
use Rattle.lvm_member_laws.specs.Reducing.{IsReduced, ReduceGoesOn}
use Rattle.lvm_member_laws.proofs.Rows.{not_leaving, was_member}
use Rattle.lvm_member_laws.proofs.DataLemmas.{change_keeps_even}

-- where all three hold of a command behind which the session goes on, so does what follows from them
pub on_all : (answer : Result (Unit {0}) ReduceFault) (P Q R S : Type 0) → IfOn answer P → IfOn answer Q → IfOn answer R → (P → Q → R → S) → IfOn answer S
on_all answer P Q R S p q r all = by (is_over answer) p q r
  where
    by : (over : Bool) → MatchBool over ⊤ P → MatchBool over ⊤ Q → MatchBool over ⊤ R → MatchBool over ⊤ S
    by true p q r = tt
    by false p q r = all p q r

-- nothing has happened, or the disks have left
pub data IsReducedOrNot (disks : List ℕ) (old new : State) : Type 0 where
  IsAsBefore : new ≡ old → IsReducedOrNot disks old new
  HaveLeft : HasReduced disks old new → IsReducedOrNot disks old new

pub reduced_or_not : (disks : List ℕ) (patience : ℕ) (old new : State) (answer : Result (Unit {0}) ReduceFault) → ReduceGives disks patience old new answer → IfOn answer (IsReducedOrNot disks old new)
reduced_or_not disks patience old new (Ok done) gives = HaveLeft gives.1
reduced_or_not disks patience old new (Err fault.Dark) gives = tt
reduced_or_not disks patience old new (Err (fault.WentOff have total)) gives = tt
reduced_or_not disks patience old new (Err fault.Stuck) gives = tt
reduced_or_not disks patience old new (Err fault.Busy) gives = IsAsBefore gives.0
reduced_or_not disks patience old new (Err (fault.NoDisk disk)) gives = IsAsBefore gives.0
reduced_or_not disks patience old new (Err fault.LastDisk) gives = IsAsBefore gives.0
reduced_or_not disks patience old new (Err (fault.DiskInUse disk)) gives = IsAsBefore gives.0
reduced_or_not disks patience old new (Err (fault.NoQuorum have total)) gives = IsAsBefore gives.0
reduced_or_not disks patience old new (Err fault.HistoryFull) gives = IsAsBefore gives.0
reduced_or_not disks patience old new (Err fault.Memory) gives = IsAsBefore gives.0

module _ (run : ℕ) (first : Moment) (disks : List ℕ) (before after : ℕ) (old new : State) (answer : Result (Unit {0}) ReduceFault)
    (may : MayBeCommanded run first old) (c : IsReduced disks before after old new answer) where
  -- whatever is answered
  pub reduce_keeps : Keeps run first (moment_of new)
  reduce_keeps = c.leaves.spans run first (λ past begins. (holds_before run first old may c.began past begins).0) may.keeps

  abbrev IsOne : Descriptor → Type 0
  IsOne = IsReducedBy disks old.core.descriptor

  abbrev Between : Media → Media → Type 0
  Between was is = ChangesBy (IsOfChange IsOne [] disks old new) (image_of old.device.sizes was) (image_of new.device.sizes is)

  pub standing : LeavesStanding old new
  standing = record {
    told = λ was told. told_next old.device.media new.device.media Between was told c.leaves.writes.media;
    calm = c.leaves.calm;
    run_is = ap (λ (l : Log). l.run) c.leaves.history.room;
    epoch = c.leaves.numbers.epoch;
  }

  abbrev EvenFor : Media → Stamped Status → Descriptor → Type 0
  EvenFor is stands group = IsEven (contents_of (image_of new.device.sizes is)) group (Some stands) (is_there new.core)

  module _ (changed : IsReducedOrNot disks old new) where
    -- a member that is there was so, and doesn't leave
    abbrev Was : Core → ℕ → Type 0
    Was core d = IsTrue (is_member core.descriptor d) → IsTrue (is_member old.core.descriptor d)

    members : (d : ℕ) → IsTrue (is_member new.core.descriptor d) → IsTrue (is_member old.core.descriptor d)
    members d = by changed
      where
        by : IsReducedOrNot disks old new → Was new.core d
        by (IsAsBefore same) = subst (λ (s : State). Was s.core d) (sym same) (λ is. is)
        by (HaveLeft done) = λ is. was_member disks old.core.descriptor d (subst (λ (g : Descriptor). IsTrue (is_member g d)) (ap (λ (c : Core). c.descriptor) done.is) is)

    -- what it was missing for it is missing for
    still_missing : (d : ℕ) → IsTrue (is_member new.core.descriptor d) → IsTrue (calls_missing old.core.status.wanted d) → IsTrue (calls_missing new.core.status.wanted d)
    still_missing d member gone = by changed
      where
        by : IsReducedOrNot disks old new → IsTrue (calls_missing new.core.status.wanted d)
        by (IsAsBefore same) = subst (λ (s : State). IsTrue (calls_missing s.core.status.wanted d)) (sym same) gone
        by (HaveLeft done) = c.leaves.status.stays d (not_leaving disks old.core.descriptor d (subst (λ (g : Descriptor). IsTrue (is_member g d)) (ap (λ (c : Core). c.descriptor) done.is) member)) gone

    still_stale : (p : Pp) → IsTrue (is_there new.core p.disk) → IsTrue (calls_stale old.core.status.wanted p) → IsTrue (calls_stale new.core.status.wanted p)
    still_stale p there was = by changed
      where
        by : IsReducedOrNot disks old new → IsTrue (calls_stale new.core.status.wanted p)
        by (IsAsBefore same) = subst (λ (s : State). IsTrue (calls_stale s.core.status.wanted p)) (sym same) was
        by (HaveLeft done) =
            let member : IsTrue (is_member new.core.descriptor p.disk) = (split (is_member new.core.descriptor p.disk) (not (calls_missing new.core.status.wanted p.disk)) there).0 in
            c.leaves.status.stale p (not_leaving disks old.core.descriptor p.disk (subst (λ (g : Descriptor). IsTrue (is_member g p.disk)) (ap (λ (c : Core). c.descriptor) done.is) member)) was

    fewer : (d : ℕ) → IsTrue (is_there new.core d) → IsTrue (is_there old.core d)
    fewer d there =
        let both = split (is_member new.core.descriptor d) (not (calls_missing new.core.status.wanted d)) there in
        join (is_member old.core.descriptor d) (not (calls_missing old.core.status.wanted d)) (members d both.0) (by (calls_missing old.core.status.wanted d) refl both.1 both.0)
      where
        by : (b : Bool) → calls_missing old.core.status.wanted d ≡ b → not (calls_missing new.core.status.wanted d) ≡ true → IsTrue (is_member new.core.descriptor d) → not b ≡ true
        by false present there member = refl
        by true missing there member = absurd (let no : false ≡ true = sym (ap not (still_missing d member missing)) ∙ there in cc no)

    no_volume : old.core.descriptor.lvs ≡ [] → new.core.descriptor.lvs ≡ []
    no_volume none = by changed
      where
        by : IsReducedOrNot disks old new → new.core.descriptor.lvs ≡ []
        by (IsAsBefore same) = ap (λ (s : State). s.core.descriptor.lvs) same ∙ none
        by (HaveLeft done) = ap (λ (c : Core). c.descriptor.lvs) done.is ∙ none

    keeps_even : KeepsEven old new
    keeps_even was is stood stands told told_new wanted even = by changed
      where
        change : Between was is
        change = subst (λ (m : Option Media). BothTold m (Some is) Between) told (subst (λ (m : Option Media). BothTold old.device.media m Between) told_new c.leaves.writes.media)

        kept : EvenFor is stands old.core.descriptor
        kept = change_keeps_even IsOne [] disks old new was is stood stands wanted still_stale change even

        by : IsReducedOrNot disks old new → EvenFor is stands new.core.descriptor
        by (IsAsBefore same) = subst (EvenFor is stands) (sym (ap (λ (s : State). s.core.descriptor) same)) kept
        by (HaveLeft done) = subst (EvenFor is stands) (sym (ap (λ (c : Core). c.descriptor) done.is)) kept

    had_some : new.core.descriptor.lvs ≢ [] → old.core.descriptor.lvs ≡ [] → IsOneFoundOn old.device
    had_some some none = absurd (some (no_volume none))

    left_so : IsSettled new.core → StillHeld old new → IsLeftStandingSince run first new
    left_so on still whole past begins = left_standing_by run first old new may c.began standing on still (keeps_even_for old new fewer keeps_even) had_some reduce_keeps whole past begins

pub reduce_goes_on : ReduceGoesOn
reduce_goes_on run first disks before after old new answer may c = (
  reduce_keeps run first disks before after old new answer may c,
  on_all answer (IsSettled new.core) (StillHeld old new) (IsReducedOrNot disks old new) (IsLeftStandingSince run first new) c.on c.still (reduced_or_not disks before old new answer c.gives)
      (λ on still so. left_so run first disks before after old new answer may c so on still),
)
