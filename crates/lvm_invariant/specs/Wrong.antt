-- Wrong steps: from a good state on, events of which one lacks one of its conditions, and what they would leave. (That no such condition is idle.)
use Rattle.std.specs.Prelude.{◌≡◌, ℕ, Bool, true, false, ◌&&◌, ◌||◌, ◌==◌, if◌then◌else◌, List, [], ◌∷◌, ◌++◌, Option, Some, None, IsTrue}
use Rattle.lvm_num.specs.declared.descriptor.Mode.{Mode}
use Rattle.lvm_num.specs.declared.descriptor.Mode.TheVariants.{Active, Off}
use Rattle.lvm_num.specs.Record.{Stamped}
use Rattle.lvm_vol.specs.Facts.{Making, Made, Begun, Cut}
use Rattle.lvm_invariant.specs.State.{Marks, Groups, View, Todo, Flying, Well, Badly, Ready, Queued, ModelState}
use Rattle.lvm_invariant.specs.Admit.{admitted}
use Rattle.lvm_invariant.specs.StartWrite.{going}
use Rattle.lvm_invariant.specs.Crash.{IsCrash, IsPossible, EachKept}
use Rattle.lvm_invariant.specs.Found.{Votes, IsNewest}
use Rattle.lvm_invariant.specs.Good.{Good}
use Rattle.lvm_invariant.specs.Events.{Event, Submit, Admit, StartWrite, Transfer, LandDone, Want, BeginUpdate, MoveStatus, CommitUpdate, EndUpdate, StartNote, Open, Clear, after_all}
use Rattle.lvm_invariant.specs.First.{two_disks, no_disk, first_copy, second_copy, is_either, marks_with, stamped, on_both, at_rest, bringing_up}
use Rattle.lvm_invariant.specs.Worked.{asked, held, first_group, both_at, phase_in, first_at, ready, one_out, both_out, only, update, recording, zeros, writing, written, one_well, one_failed, one_fails, none_passed, all_passed, passed_by, at_stage}

-- The state is good, and after the events a loss of power may leave what the history doesn't allow.
pub record Breaks (votes : Votes) (s : ModelState) (events : List Event) : Type 0 where
  pub good : Good votes s
  pub broken : EachKept (after_all events s) → ⊥

-- The state is good, and after the events disks with votes enough to read may find a status that isn't the committed one, nor in flight.
pub record Misleads (votes : Votes) (s : ModelState) (events : List Event) : Type 0 where
  pub good : Good votes s
  pub view : View
  pub crash : IsCrash (after_all events s) view
  pub set : ℕ → Bool
  pub reads : IsTrue (votes.reads set)
  pub found : Stamped Marks
  pub newest : IsNewest view set found
  pub other : IsPossible (after_all events s) found.value → ⊥

-- ---- writes

abbrev pub asking : Mode → List Event
asking mode = Submit 1 asked held ∷ Admit 1 held (phase_in mode) true (both_at Todo) ∷ []

abbrev pub going_out : List Event
going_out = StartWrite 1 ready first_copy ∷ Transfer 1 one_out second_copy Flying zeros ∷ []

-- A write of two targets starts whose track group isn't named, or in mode passive whose volume isn't dirty.
abbrev pub StartsUnrecorded : Type 0
StartsUnrecorded = (votes : Votes) (mode : Mode) → (mode ≡ Off → ⊥) → IsTrue (votes.writes two_disks) → Breaks votes (after_all (asking mode) (at_rest mode false)) going_out

-- names nothing, and is on its way to the second disk
abbrev pub empty_note : ℕ → Option Groups
empty_note d = if d == 1 then Some (λ lv g. false) else None

-- A note is out that doesn't carry the cache, while a write starts that is named at home.
abbrev pub NoteLacksEntry : Type 0
NoteLacksEntry = (votes : Votes) → IsTrue (votes.writes two_disks) → Breaks votes (after_all (asking Active ++ recording Active) (at_rest Active false)) (StartNote empty_note ∷ going_out)

-- A write lands as Done that has failed on a copy which isn't stale yet.
abbrev pub half_done : List Event
half_done = Transfer 1 both_out first_copy Well written ∷ Transfer 1 one_well second_copy Badly written ∷ []

abbrev pub DoneUnsettled : Type 0
DoneUnsettled = (votes : Votes) → IsTrue (votes.writes two_disks) → Breaks votes (after_all half_done (writing Active)) (LandDone 1 one_failed ∷ [])

-- ---- copies

-- A copy is cleared that has passed nothing.
abbrev pub ClearedUnpassed : Type 0
ClearedUnpassed = (votes : Votes) → IsTrue (votes.writes two_disks)
    → Breaks votes (after_all one_fails (writing Active)) (Open (passed_by none_passed) ∷ Clear (marks_with false false) second_copy ∷ update (stamped 2 (marks_with true false)) 3 (marks_with false false))

-- a write to the first copy alone
abbrev pub to_first : Queued
to_first = admitted held Ready false (first_at Todo)

abbrev pub to_first_out : Queued
to_first_out = going to_first first_copy

-- A write skips the copy that is being brought up, which has passed its track group.
abbrev pub skipping : List Event
skipping =
    Submit 1 asked held ∷ Admit 1 held Ready false (first_at Todo) ∷ StartWrite 1 to_first first_copy ∷ Transfer 1 to_first_out first_copy Well written ∷ LandDone 1 (at_stage to_first_out first_copy Well)
    ∷ Clear (marks_with false false) second_copy ∷ update (stamped 1 (marks_with true false)) 2 (marks_with false false)

abbrev pub CopyIsSkipped : Type 0
CopyIsSkipped = (votes : Votes) (mode : Mode) → IsTrue (votes.writes two_disks) → Breaks votes (bringing_up mode all_passed) skipping

-- A disk becomes missing, and its copy isn't wanted stale though there is another usable one; then a write goes to that one alone.
abbrev pub leaving_fresh : List Event
leaving_fresh =
    Want (marks_with false false) (only 1) None ∷ Submit 1 asked held ∷ Admit 1 held Ready false (first_at Todo) ∷ StartWrite 1 to_first first_copy ∷ Transfer 1 to_first_out first_copy Well written
    ∷ LandDone 1 (at_stage to_first_out first_copy Well) ∷ []

abbrev pub LeftFresh : Type 0
LeftFresh = (votes : Votes) (mode : Mode) → IsTrue (votes.writes two_disks) → Breaks votes (at_rest mode false) leaving_fresh

-- Both copies become stale.
abbrev pub none_is_fresh : Marks
none_is_fresh = record { stale = is_either; dirty = λ lv. false }

abbrev pub NoneFresh : Type 0
NoneFresh = (votes : Votes) (mode : Mode) → IsTrue (votes.writes two_disks) → Breaks votes (at_rest mode false) (Want none_is_fresh no_disk None ∷ update (stamped 1 (marks_with false false)) 2 none_is_fresh)

-- ---- names

-- A session in mode active that begins after a cut, at which a write had come to the first copy alone; the notes name its track group, or don't.
abbrev pub differing : Bool → ModelState
differing named = record (at_rest Active false) {
  media = record (at_rest Active false).media { block = written; names = λ d lv g. named && first_group lv g };
  facts = Making 1 2048 Active ∷ Made 1 ∷ Begun asked ∷ Cut ∷ [];
}

-- The names are what allows the copies to differ: a session doesn't begin without them, nor may they go before the copies are equal.
pub record NamesAreNeeded : Type 0 where
  pub named : EachKept (differing true)
  pub unnamed : EachKept (differing false) → ⊥

-- ---- statuses

-- one disk has votes enough to read, and both have to write
abbrev pub one_reads : (ℕ → Bool) → Bool
one_reads set = set 0 || set 1

abbrev pub both_write : (ℕ → Bool) → Bool
both_write set = set 0 && set 1

-- an update of the status has come to the first disk alone
abbrev pub halfway : List Event
halfway =
    Want (marks_with true false) no_disk None ∷ BeginUpdate (stamped 2 (marks_with true false))
    ∷ MoveStatus (stamped 2 (marks_with true false)) (λ d. if d == 0 then Some (stamped 2 (marks_with true false)) else on_both (stamped 1 (marks_with false false)) d) no_disk ∷ []

-- It is committed with that disk's votes.
abbrev pub CommittedEarly : Type 0
CommittedEarly = (votes : Votes) (mode : Mode) → votes.reads ≡ one_reads → votes.writes ≡ both_write
    → Misleads votes (after_all halfway (at_rest mode false)) (CommitUpdate (stamped 2 (marks_with true false)) (only 0) None (marks_with true false) None ∷ EndUpdate ∷ [])

-- It ends without having been committed.
abbrev pub EndedUncommitted : Type 0
EndedUncommitted = (votes : Votes) (mode : Mode) → votes.reads ≡ one_reads → votes.writes ≡ both_write → Misleads votes (after_all halfway (at_rest mode false)) (EndUpdate ∷ [])

-- There are such votes.
pub record TwoVotes : Type 0 where
  pub votes : Votes
  pub one : votes.reads ≡ one_reads
  pub two : votes.writes ≡ both_write
