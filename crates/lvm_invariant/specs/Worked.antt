-- Worked sessions: events from a session at rest on, each of which may be made. (That the conditions of each event can be met, in each mode.)
use Rattle.std.specs.Prelude.{◌≡◌, ℕ, Bool, true, false, ◌&&◌, ◌==◌, if◌then◌else◌, List, [], ◌∷◌, ◌++◌, replicate, Option, Some, None, IsTrue, IsFalse}
use Rattle.lvm_num.specs.declared.place.Pp.{Pp}
use Rattle.lvm_num.specs.declared.descriptor.Mode.{Mode}
use Rattle.lvm_num.specs.declared.descriptor.Mode.TheVariants.{Active, Passive, Off}
use Rattle.lvm_num.specs.Buffer.{Sector, zero_sector}
use Rattle.lvm_num.specs.Record.{Stamped}
use Rattle.lvm_vol.specs.declared.entry.Vol.TheVariants.{Lv}
use Rattle.lvm_vol.specs.declared.entry.Outcome.TheVariants as outcome
use Rattle.lvm_vol.specs.Facts.{Request, Making, Made, Begun, Landed as HasLanded, block_of}
use Rattle.lvm_invariant.specs.State.{Marks, Groups, Stage, Todo, Flying, Well, Badly, ModelPhase, Held, WantEntry, Ready, Going, Queued, ModelCopy, ModelState, covers}
use Rattle.lvm_invariant.specs.Updates.{staged, land}
use Rattle.lvm_num.specs.Descriptor.{is_pp}
use Rattle.lvm_invariant.specs.Found.{Votes}
use Rattle.lvm_invariant.specs.Good.{Good}
use Rattle.lvm_invariant.specs.Over.{AreOpen}
use Rattle.lvm_invariant.specs.Off.{GoesOff}
use Rattle.lvm_invariant.specs.Admit.{admitted}
use Rattle.lvm_invariant.specs.StartWrite.{going}
use Rattle.lvm_invariant.specs.Read.{reading}
use Rattle.lvm_invariant.specs.Events.{Event, Submit, EnterStep, Admit, Pin, Read, StartWrite, Transfer, LandDone, LandLost, LandGot, LandReadFailed, LandNoFresh, EndStep, Take, TakeEarlier, Want, BeginUpdate, MoveStatus, CommitUpdate, EndUpdate, StartNote, EndNote, Open, CopyWrite, Clear, AllowsAll, Reached, after_all}
use Rattle.lvm_invariant.specs.First.{two_disks, no_disk, first_copy, second_copy, is_either, marks_with, stamped, on_both, at_rest, bringing_up}

-- from a good state on each of these events may be made after those before it, and the state to which they lead is good
pub record Leads (votes : Votes) (events : List Event) (s : ModelState) : Type 0 where
  pub good : Good votes s
  pub allowed : AllowsAll votes events s
  pub reached : Reached votes (after_all events s)

-- ---- a write, in each mode

abbrev pub ones : Sector
ones = replicate 512 1

-- block 0 is to become ones
abbrev pub asked : Request
asked = record { run = 1; id = 1; client = 0; vol = Lv 1; at = 0; count = 1; write = true; blocks = ones ∷ [] }

abbrev pub held : Queued
held = record { lv = 1; first = 0; count = 1; write = true; step = false; value = λ b. block_of asked.blocks asked.at b; phase = Held; several = false; targets = λ c. None; got = None }

abbrev pub both_at : Stage → Pp → Option Stage
both_at stage c = if is_either c then Some stage else None

-- in mode active it waits for its entry in the cache
abbrev pub phase_in : Mode → ModelPhase
phase_in Active = WantEntry
phase_in Passive = Ready
phase_in Off = Ready

abbrev pub waiting : Mode → Queued
waiting mode = admitted held (phase_in mode) true (both_at Todo)

abbrev pub ready : Queued
ready = admitted held Ready true (both_at Todo)

-- its transfer to the first copy is out, or to both
abbrev pub one_out : Queued
one_out = going ready first_copy

abbrev pub both_out : Queued
both_out = record one_out { targets = staged one_out.targets second_copy Flying }

-- the first track group of the volume is named, on these disks
abbrev pub first_group : Groups
first_group lv g = lv == 1 && g == 0

abbrev pub named_on : (ℕ → Bool) → ℕ → Groups
named_on disks d lv g = disks d && first_group lv g

abbrev pub only : ℕ → ℕ → Bool
only n d = d == n

abbrev pub note_to : ℕ → ℕ → Option Groups
note_to n d = if d == n then Some first_group else None

abbrev pub no_note : ℕ → Option Groups
no_note d = None

-- the status with these marks is written to both disks, which show another, and is committed; the open copy ends if it is cleared
abbrev pub update : Stamped Marks → ℕ → Marks → List Event
update was seq marks =
    BeginUpdate (stamped seq marks) ∷ MoveStatus (stamped seq marks) (on_both was) two_disks ∷ MoveStatus (stamped seq marks) (on_both (stamped seq marks)) no_disk
    ∷ CommitUpdate (stamped seq marks) two_disks None marks None ∷ EndUpdate ∷ []

-- what a write of two targets needs in each mode: its track group named on both disks, the volume marked dirty, or nothing
abbrev pub recording : Mode → List Event
recording Active =
    Pin 1 (waiting Active) first_group ∷ StartNote (note_to 0) ∷ EndNote 0 (named_on (only 0)) (named_on (only 0)) no_note
    ∷ StartNote (note_to 1) ∷ EndNote 1 (named_on two_disks) (named_on two_disks) no_note ∷ []
recording Passive = Want (marks_with false true) no_disk None ∷ update (stamped 1 (marks_with false false)) 2 (marks_with false true)
recording Off = []

abbrev pub zeros : ℕ → ℕ → Pp → Sector
zeros lv b c = zero_sector

-- a write is asked and admitted, and when it is recorded goes out to both copies
abbrev pub writing_out : Mode → List Event
writing_out mode = Submit 1 asked held ∷ Admit 1 held (phase_in mode) true (both_at Todo) ∷ (recording mode ++ StartWrite 1 ready first_copy ∷ Transfer 1 one_out second_copy Flying zeros ∷ [])

-- it is out to both copies
abbrev pub writing : Mode → ModelState
writing mode = after_all (writing_out mode) (at_rest mode false)

-- ---- a record is out

-- an update of the status is out to both disks
abbrev pub updating_out : List Event
updating_out = Want (marks_with true false) no_disk None ∷ BeginUpdate (stamped 2 (marks_with true false)) ∷ MoveStatus (stamped 2 (marks_with true false)) (on_both (stamped 1 (marks_with false false))) two_disks ∷ []

abbrev pub updating : Mode → ModelState
updating mode = after_all updating_out (at_rest mode false)

-- the note of a write that has pinned its entry is out to the first disk
abbrev pub noting_out : List Event
noting_out = Submit 1 asked held ∷ Admit 1 held WantEntry true (both_at Todo) ∷ Pin 1 (waiting Active) first_group ∷ StartNote (note_to 0) ∷ []

abbrev pub noting : ModelState
noting = after_all noting_out (at_rest Active false)

-- ---- it ends

-- its block is on the first copy
abbrev pub written : ℕ → ℕ → Pp → Sector
written lv b c = if covers held lv b && is_pp c first_copy then held.value b else zero_sector

abbrev pub at_stage : Queued → Pp → Stage → Queued
at_stage r c stage = record r { targets = staged r.targets c stage }

abbrev pub one_well : Queued
one_well = at_stage both_out first_copy Well

abbrev pub one_failed : Queued
one_failed = at_stage one_well second_copy Badly

-- It fails on the second copy, which becomes stale. So it lands as Done, and its answer is taken.
abbrev pub one_fails : List Event
one_fails =
    Transfer 1 both_out first_copy Well written ∷ Transfer 1 one_well second_copy Badly written ∷ Want (marks_with true false) no_disk None
    ∷ (update (stamped 1 (marks_with false false)) 2 (marks_with true false) ++ LandDone 1 one_failed ∷ Take 1 (land one_failed) ∷ [])

abbrev pub first_failed : Queued
first_failed = at_stage both_out first_copy Badly

abbrev pub both_failed : Queued
both_failed = at_stage first_failed second_copy Badly

-- It fails on both, of which one stays fresh, and lands as Lost.
abbrev pub both_fail : List Event
both_fail =
    Transfer 1 both_out first_copy Badly zeros ∷ Transfer 1 first_failed second_copy Badly zeros ∷ Want (marks_with true false) no_disk None
    ∷ (update (stamped 1 (marks_with false false)) 2 (marks_with true false) ++ LandLost 1 both_failed ∷ [])

-- ---- a read

abbrev pub asked_read : Request
asked_read = record asked { write = false; blocks = [] }

abbrev pub held_read : Queued
held_read = record held { write = false; value = λ b. [] }

abbrev pub first_at : Stage → Pp → Option Stage
first_at stage c = if is_pp c first_copy then Some stage else None

abbrev pub chosen : Queued
chosen = admitted held_read Ready false (first_at Todo)

abbrev pub reading_first : Queued
reading_first = reading chosen first_copy Flying None

abbrev pub zero_blocks : ℕ → Sector
zero_blocks b = zero_sector

-- the first copy has failed, and the second is chosen
abbrev pub failed_first : Queued
failed_first = reading reading_first first_copy Badly None

abbrev pub second_at : Stage → Pp → Option Stage
second_at stage c = if is_pp c second_copy then Some stage else None

abbrev pub chosen_again : Queued
chosen_again = admitted failed_first Ready false (second_at Todo)

abbrev pub reading_second : Queued
reading_second = reading chosen_again second_copy Flying None

abbrev pub has_read : Queued
has_read = reading reading_second second_copy Well (Some zero_blocks)

abbrev pub read_out : List Event
read_out = Submit 1 asked_read held_read ∷ Admit 1 held_read Ready false (first_at Todo) ∷ Read 1 chosen first_copy Flying None ∷ []

-- It fails on the first copy, is admitted again, and gets its block of the second; or it fails on the one copy that isn't stale.
abbrev pub read_gets : List Event
read_gets =
    read_out ++ Read 1 reading_first first_copy Badly None ∷ Admit 1 failed_first Ready false (second_at Todo) ∷ Read 1 chosen_again second_copy Flying None
    ∷ Read 1 reading_second second_copy Well (Some zero_blocks) ∷ LandGot 1 has_read (zero_sector ∷ []) ∷ []

abbrev pub read_fails : List Event
read_fails = read_out ++ Read 1 reading_first first_copy Badly None ∷ LandReadFailed 1 failed_first ∷ []

-- ---- a copy is brought up

abbrev pub none_passed : Groups
none_passed lv g = false

abbrev pub passed_by : Groups → ModelCopy
passed_by passed = record { target = second_copy; passed = passed }

-- a step over the first track group
abbrev pub step_held : Queued
step_held = record held_read { count = 256; step = true }

abbrev pub step_chosen : Queued
step_chosen = admitted step_held Ready false (first_at Todo)

abbrev pub step_reading : Queued
step_reading = reading step_chosen first_copy Flying None

abbrev pub step_read : Queued
step_read = reading step_reading first_copy Well (Some zero_blocks)

-- A stale copy is opened, a step of it has read the first track group from the fresh one, and its write is out.
abbrev pub step_out : List Event
step_out =
    Open (passed_by none_passed) ∷ EnterStep 1 asked_read step_held ∷ Admit 1 step_held Ready false (first_at Todo) ∷ Read 1 step_chosen first_copy Flying None
    ∷ Read 1 step_reading first_copy Well (Some zero_blocks) ∷ CopyWrite 1 step_read zero_blocks second_copy (Some (passed_by none_passed)) (Some (record { target = second_copy; place = 1 })) zeros ∷ []

abbrev pub stepping : Mode → ModelState
stepping mode = after_all step_out (at_rest mode true)

-- It ends, and the copy has passed the track group.
abbrev pub step_ends : List Event
step_ends = CopyWrite 1 step_read zero_blocks second_copy (Some (passed_by first_group)) None zeros ∷ EndStep 1 step_read ∷ Take 1 (land step_read) ∷ []

-- The copy has passed all track groups: it is cleared.
abbrev pub all_passed : Groups
all_passed lv g = true

abbrev pub clearing : List Event
clearing = Clear (marks_with false false) second_copy ∷ update (stamped 1 (marks_with true false)) 2 (marks_with false false)

-- ---- disks are lost

abbrev pub all_disks : ℕ → Bool
all_disks d = true

-- A write is asked, and writes of records have failed on both disks: it finds no usable copy,
abbrev pub disks_lost : List Event
disks_lost = Submit 1 asked held ∷ Want (marks_with false false) all_disks None ∷ []

abbrev pub none_fresh : List Event
none_fresh = disks_lost ++ LandNoFresh 1 held ∷ []

-- or the group goes off.
abbrev pub after_loss : Mode → ModelState
after_loss mode = after_all disks_lost (at_rest mode false)

-- ---- an earlier session

-- a read of an earlier session has landed as Off, and its answer wasn't taken
abbrev pub with_earlier : Mode → ModelState
with_earlier mode = record (at_rest mode false) { facts = Making 1 2048 mode ∷ Made 1 ∷ Begun asked_read ∷ HasLanded asked_read outcome.Off false [] ∷ [] }

-- ---- laws

-- In each mode a write comes to be out to both copies;
pub record IsWriting (s : ModelState) : Type 0 where
  pub request : Queued
  pub there : s.queue 1 ≡ Some request
  pub write : IsTrue request.write
  pub is_going : request.phase ≡ Going
  pub first : request.targets first_copy ≡ Some Flying
  pub second : request.targets second_copy ≡ Some Flying

abbrev pub EachModeWrites : Type 0
EachModeWrites = (votes : Votes) (mode : Mode) → IsTrue (votes.writes two_disks) → Leads votes (writing_out mode) (at_rest mode false) × IsWriting (writing mode)

-- on the way to it, a status or a note is out;
abbrev pub RecordsGoOut : Type 0
RecordsGoOut = (votes : Votes) (mode : Mode) → IsTrue (votes.writes two_disks) → Leads votes updating_out (at_rest mode false) × Leads votes noting_out (at_rest Active false)

-- then it lands as Done, or as Lost.
abbrev pub WriteEnds : Type 0
WriteEnds = (votes : Votes) → IsTrue (votes.writes two_disks) → Leads votes one_fails (writing Active) × Leads votes both_fail (writing Active)

-- A read lands as Got, or as ReadFailed.
abbrev pub ReadEnds : Type 0
ReadEnds = (votes : Votes) (mode : Mode) → IsTrue (votes.writes two_disks) → Leads votes read_gets (at_rest mode false) × Leads votes read_fails (at_rest mode true)

-- A copy is opened, a step of it ends, and once it has passed all it is cleared.
abbrev pub CopyIsBroughtUp : Type 0
CopyIsBroughtUp = (votes : Votes) (mode : Mode) → IsTrue (votes.writes two_disks)
    → Leads votes step_out (at_rest mode true) × Leads votes step_ends (stepping mode) × Leads votes clearing (bringing_up mode all_passed)

-- Where both disks are lost a write finds no usable copy, and where no disk has votes enough the group goes off.
abbrev pub DisksAreLost : Type 0
DisksAreLost = (votes : Votes) (mode : Mode) → IsTrue (votes.writes two_disks) → IsFalse (votes.writes no_disk)
    → Leads votes none_fresh (at_rest mode false) × GoesOff votes (after_loss mode) (1 ∷ []) (λ i. false)

-- A cut meets a write that is out.
abbrev pub CutMeetsWrite : Type 0
CutMeetsWrite = (mode : Mode) → AreOpen (writing mode) (1 ∷ []) (λ i. true)

-- The answer of a request of an earlier session is taken.
abbrev pub EarlierIsTaken : Type 0
EarlierIsTaken = (votes : Votes) (mode : Mode) → IsTrue (votes.writes two_disks) → Leads votes (TakeEarlier asked_read ∷ []) (with_earlier mode)
