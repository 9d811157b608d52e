-- What stands on the disks of a session goes on to stand over a command, by what each of them leaves.
use Rattle.std.proofs.Common.{◌≡◌, ℕ, ◌<◌, ◌^◌, ◌++◌, Bool, true, false, ◌&&◌, ◌||◌, not, List, [], Option, None, Some, Result, count_by, refl, sym, ap, subst, ◌∙◌}
use Rattle.std.specs.Prelude.{◌≢◌, IsTrue, ⊤, MatchBool}
use Rattle.lvm_num.specs.declared.status.Status.{Status}
use Rattle.lvm_num.specs.Descriptor.{is_member}
use Rattle.lvm_num.specs.Record.{Stamped}
use Rattle.lvm_num.specs.Status.{calls_missing}
use Rattle.lvm_num.proofs.Lists.{of_told}
use Rattle.lvm_disk.specs.Device.{HasSectors, Media, image_of}
use Rattle.lvm_disk.specs.Steps.{BothTold}
use Rattle.lvm_disk.proofs.PathsLemmas.{last-path}
use Rattle.lvm_vol.specs.Facts.{Fact}
use Rattle.lvm_vol.specs.Legal.{begins_in}
use Rattle.lvm_vol.specs.Log.{Log}
use Rattle.lvm_vol.specs.Order.{Ordered}
use Rattle.lvm_kept.specs.Moments.{Calm, Moment, StaysCalm}
use Rattle.lvm_kept.specs.Plans.{ChangesBy}
use Rattle.lvm_steps.specs.Moments.{RunBegins, HistoryHolds, Keeps, Upholds}
use Rattle.lvm_steps.proofs.RecordLemmas.{join, split}
use Rattle.lvm_commit.specs.LawsOfVolumes.{IsOneFoundOn}
use Rattle.lvm_session.specs.State.{Core, State, is_there, state}
use Rattle.lvm_session.specs.Judging.{is_missing}
use Rattle.lvm_session.specs.Sound.{IsSound}
use Rattle.lvm_handover.specs.passed.Core.{moment_of, IsHeld, NotesAreHome, StartsHeld, EntersVolumes, IsOfCommand, Leaves, Scope, IsSettled}
use Rattle.lvm_handover.specs.passed.VolumePlan.{GroupFault, IfOn, is_over}
use Rattle.lvm_handover.specs.passed.Volumes.{IfAlone, StillHeld}
use Rattle.lvm_settled.specs.passed.Even.{IsEven}
use Rattle.lvm_volumes.specs.Even.{AreWanted}
use Rattle.lvm_tie.specs.Spares.{SparesDescriptors}
use Rattle.lvm_tie.specs.Tied.{IsTied}
use Rattle.lvm_tie.specs.Begins.{shown_to}
use Rattle.lvm_tie_commands.specs.Commands.{IsLeftStanding, MayBeCommanded}
use Rattle.lvm_tie_commands.specs.Standing.{StandsAfter}
use Rattle.lvm_tie_commands.proofs.LawsOfVolumesLemmas.{only_is_one_on}
use Rattle.lvm_tie_commands.proofs.MomentsLemmas.{calm_at}
use Rattle.lvm_tie_commands.proofs.HeldLemmas.{Carries, are_home, carries, holds_before, is_held}
use Rattle.lvm_tie_commands.proofs.Resting.{landed}
use Rattle.lvm_tie_commands.proofs.BeginsLemmas.{Held, members_show, ties}

-- where all three hold of a command whose session goes on, so does what follows from them
pub on_all : {A : Type 0} (answer : Result A GroupFault) (P Q R S : Type 0) → IfOn answer P → IfOn answer Q → IfOn answer R → (P → Q → R → S) → IfOn answer S
on_all answer P Q R S p q r all = by (is_over answer) p q r
  where
    by : (over : Bool) → MatchBool over ⊤ P → MatchBool over ⊤ Q → MatchBool over ⊤ R → MatchBool over ⊤ S
    by true p q r = tt
    by false p q r = all p q r

pub told_next : (a b : Option Media) (R : Media → Media → Type 0) (x : Media) → a ≡ Some x → BothTold a b R → (y : Media) × (b ≡ Some y)
told_next None b R x told both = absurd (cc told)
told_next (Some w) None R x told both = absurd both
told_next (Some w) (Some y) R x told both = (y, refl)

-- whatever stands on the disks, what was even before is so for the volumes after it
abbrev pub KeepsEven : State → State → Type 0
KeepsEven old new = (was is : Media) (stood stands : Stamped Status) → old.device.media ≡ Some was → new.device.media ≡ Some is → AreWanted old new stood stands
    → IsEven (shown_to old was) old.core.descriptor (Some stood) (is_there old.core) → IsEven (shown_to new is) new.core.descriptor (Some stands) (is_there new.core)

-- no member comes back
pub still_there : (old new : State) → ((d : ℕ) → is_member new.core.descriptor d ≡ is_member old.core.descriptor d) → ((d : ℕ) → IsTrue (calls_missing old.core.status.wanted d) → IsTrue (calls_missing new.core.status.wanted d))
    → (d : ℕ) → IsTrue (is_there new.core d) → IsTrue (is_there old.core d)
still_there old new members stays d there =
    let both = split (is_member new.core.descriptor d) (not (calls_missing new.core.status.wanted d)) there in
    join (is_member old.core.descriptor d) (not (calls_missing old.core.status.wanted d)) (sym (members d) ∙ both.0) (by (calls_missing old.core.status.wanted d) refl both.1)
  where
    by : (b : Bool) → calls_missing old.core.status.wanted d ≡ b → not (calls_missing new.core.status.wanted d) ≡ true → not b ≡ true
    by false present there = refl
    by true missing there = absurd (let no : false ≡ true = sym (ap not (stays d missing)) ∙ there in cc no)

module _ (run : ℕ) (first : Moment) (old new : State) (may : MayBeCommanded run first old) (began : IsSettled old.core) where
  -- where a volume's making or removal is entered, no other group is found, if at most one has a quorum where it is the group's first
  pub is_alone : (old.core.descriptor.lvs ≡ [] → EntersVolumes old.core.history.facts new.core.history.facts → IsOneFoundOn old.device) → IfAlone old new run first
  is_alone one enters past begins = (carries run first old may began past begins (λ none. one none enters)).1.only

-- so it is of the statuses that are wanted, whichever members there are
abbrev pub KeepsEvenFor : State → State → Type 0
KeepsEvenFor old new = (was is : Media) (stood stands : Stamped Status) → old.device.media ≡ Some was → new.device.media ≡ Some is → stood.value ≡ old.core.status.wanted → stands.value ≡ new.core.status.wanted
    → IsEven (shown_to old was) old.core.descriptor (Some stood) (is_there old.core) → IsEven (shown_to new is) new.core.descriptor (Some stands) (is_there new.core)

-- so it is where no member comes back
pub keeps_even_for : (old new : State) → ((d : ℕ) → IsTrue (is_there new.core d) → IsTrue (is_there old.core d)) → KeepsEven old new → KeepsEvenFor old new
keeps_even_for old new fewer keeps was is stood stands told told_new before after even = keeps was is stood stands told told_new (record { before = before; after = after; fewer = fewer }) even

-- What a command leaves, as far as what stands on the disks goes on by it: their media is told, no write is open that wasn't, and its run and its epoch are as they were.
pub record LeavesStanding (old new : State) : Type 0 where
  pub told : (was : Media) → old.device.media ≡ Some was → (is : Media) × (new.device.media ≡ Some is)
  pub calm : StaysCalm (moment_of old) (moment_of new)
  pub run_is : new.core.history.run ≡ old.core.history.run
  pub epoch : new.core.status.stamp.epoch ≡ old.core.status.stamp.epoch

-- ---- where the session goes on

module _ (run : ℕ) (first : Moment) (old new : State) (may : MayBeCommanded run first old) (began : IsSettled old.core) (leaves : LeavesStanding old new) where
  module _ (on : IsSettled new.core) (still : StillHeld old new) (even : KeepsEvenFor old new)
      (enters : new.core.descriptor.lvs ≢ [] → old.core.descriptor.lvs ≡ [] → IsOneFoundOn old.device) (keeps : Keeps run first (moment_of new)) (whole : HasSectors new.device)
      (past : List Fact) (begins : RunBegins run past first) where
    holds : HistoryHolds past (moment_of new)
    holds = let upholds : Upholds run first (moment_of new) = last-path keeps in upholds past begins

    calm : Calm (past ++ new.core.history.facts)
    calm = leaves.calm past (calm_at run first (moment_of old) may.keeps (subst (λ (n : ℕ). Ordered n [] old.core.history.facts) may.run_is may.sound.told.ordered) (landed old may.sound began) past begins)

    own : count_by (begins_in new.core.history.run) past ≡ 0
    own = subst (λ (n : ℕ). count_by (begins_in n) past ≡ 0) (sym (leaves.run_is ∙ may.run_is)) begins.own

    epoch : new.core.status.stamp.epoch < 2 ^ 64
    epoch = subst (λ (n : ℕ). n < 2 ^ 64) (sym leaves.epoch) may.stamped.epoch

    module _ (was : Media) (it : Carries old was) where
      told : (is : Media) × (new.device.media ≡ Some is)
      told = leaves.told was it.told

      held_before : IsHeld old.device old.core
      held_before = is_held old was it.told it.held

      abbrev held : Held new told.0
      held = of_told (λ (m : Media). Held new m) new.device.media told.0 told.1 (still.held held_before)

      carried : Carries new told.0
      carried = record {
        told = told.1;
        held = held;
        notes = of_told (λ (m : Media). NotesAreHome new.core (image_of new.device.sizes m)) new.device.media told.0 told.1 (still.notes (are_home old was it.told it.notes));
        only = still.only held_before it.only;
        even = even was told.0 it.held.shows.stands held.shows.stands it.told told.1 (it.held.shows.committed ∙ began.committed) (held.shows.committed ∙ on.committed) it.even;
      }

    carries_on : new.core.descriptor.lvs ≢ [] → (is : Media) × Carries new is
    carries_on some = let was = carries run first old may began past begins (enters some) in ((told was.0 was.1).0, carried was.0 was.1)

    holds_after : StartsHeld new.device new.core
    holds_after = let was = holds_before run first old may began past begins in record { held = still.held was.0; notes = still.notes was.1 }

    -- ---- once it takes requests again, with this status as its first

    module _ (t : Status) (missing : (d : ℕ) → is_member new.core.descriptor d ≡ true → calls_missing t d ≡ false → calls_missing new.core.status.wanted d ≡ false) where
      abbrev core : Core
      core = record new.core { origin = record new.core.origin { table = t } }

      settled : IsSettled core
      settled = record {
        power = on.power;
        quiet = record { requests = on.quiet.requests; copy = on.quiet.copy; status = on.quiet.status; notes = on.quiet.notes; buffers = on.quiet.buffers };
        committed = on.committed;
        epoch = on.epoch;
        votes = on.votes;
      }

      tied_again : IsSound (state new.device core) → new.core.descriptor.lvs ≢ [] → IsTied past (state new.device core) × SparesDescriptors (state new.device core)
      tied_again sound some =
          let is : Media = (carries_on some).0 in
          let it : Carries new is = (carries_on some).1 in
          ties (state new.device core) is sound settled epoch whole it.told it.held it.notes (only_is_one_on new.device new.core.descriptor.id it.only) it.even
          (members_show (state new.device core) is it.held missing) past holds calm own

      stands_again : IsSound (state new.device core) → StandsAfter past new.device core
      stands_again sound = record {
        empty = λ none. record { held = holds_after.held; notes = holds_after.notes };
        tied = λ some. (tied_again sound some).0;
        spares = λ some. (tied_again sound some).1;
      }

    pub left_standing_by : IsLeftStanding past new
    left_standing_by = record {
      empty = λ none. holds_after;
      served = λ added core served sound. subst (λ (c : Core). StandsAfter past new.device c) (sym served.is)
          (stands_again core.origin.table
          (λ d member present. not_gone (calls_missing new.core.origin.table d) (is_member new.core.descriptor d) (is_missing new.core d) member (sym (served.marks.missing d) ∙ present))
          (subst (λ (c : Core). IsSound (state new.device c)) served.is sound));
    }
      where
        not_gone : (a b c : Bool) → b ≡ true → a || b && c ≡ false → c ≡ false
        not_gone true b c member none = absurd (cc none)
        not_gone false true c member none = none
        not_gone false false c member none = absurd (cc member)

-- ---- a command on volumes

module _ (run : ℕ) (first : Moment) (old new : State) (may : MayBeCommanded run first old) (began : IsSettled old.core)
    (scope : Scope) (before after : ℕ) (leaves : Leaves scope before after old new) where
  -- whatever its answer
  pub keeps_on : scope.lets old new run first → Keeps run first (moment_of new)
  keeps_on lets = leaves.spans run first (λ past begins. (holds_before run first old may began past begins).0) lets may.keeps

  standing : LeavesStanding old new
  standing = record {
    told = λ was told. told_next old.device.media new.device.media (λ (w i : Media). ChangesBy (IsOfCommand scope.next scope.zeros old new) (image_of old.device.sizes w) (image_of new.device.sizes i)) was told leaves.writes.media;
    calm = leaves.calm;
    run_is = ap (λ (l : Log). l.run) leaves.history.room;
    epoch = leaves.numbers.epoch;
  }

  -- and where the session goes on
  pub left_standing : IsSettled new.core → StillHeld old new → ((d : ℕ) → is_member new.core.descriptor d ≡ is_member old.core.descriptor d) → KeepsEven old new
      → (new.core.descriptor.lvs ≢ [] → old.core.descriptor.lvs ≡ [] → IsOneFoundOn old.device) → Keeps run first (moment_of new) → HasSectors new.device
      → (past : List Fact) → RunBegins run past first → IsLeftStanding past new
  left_standing on still members even = left_standing_by run first old new may began standing on still (keeps_even_for old new (still_there old new members leaves.status.stays) even)
