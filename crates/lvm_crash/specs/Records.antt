-- The ends of writes of records, and what stays described where nothing on the media changes.
use Rattle.std.specs.Prelude.{◌≡◌, ◌⊎◌, ℕ, Bool, true, false, ◌==◌, ◌&&◌, if◌then◌else◌, List, Option, Some, None, IsTrue}
use Rattle.lvm_num.specs.declared.descriptor.Descriptor.{Descriptor}
use Rattle.lvm_num.specs.declared.status.Status.{Status}
use Rattle.lvm_num.specs.Record.{Stamped, stamp_lt}
use Rattle.lvm_disk.specs.Device.{Media, Flight, Device, image_of}
use Rattle.lvm_disk.specs.Steps.{Removes}
use Rattle.lvm_disk.specs.Paths.{DeviceStep}
use Rattle.lvm_kept.specs.Contents.{Contents, contents_of, has_records}
use Rattle.lvm_kept.specs.Plans.{StepIsPlanned}
use Rattle.lvm_kept.specs.Torn.{RecordWrite, IsOtherOrRecord}
use Rattle.lvm_invariant.specs.State.{Marks, Groups, Beside, ModelState}
use Rattle.lvm_invariant.specs.Found.{Votes}
use Rattle.lvm_invariant.specs.Good.{Good}
use Rattle.lvm_invariant.specs.Events.{Event, ModelStep}
use Rattle.lvm_invariant.specs.MoveStatus.{StatusMoves, moved}
use Rattle.lvm_invariant.specs.EndNote.{EndsNote, after_note}
use Rattle.lvm_crash.specs.Session.{as_marks, marks_shown, Describes}
use Rattle.lvm_crash.specs.Flights.{Matches}
use Rattle.lvm_crash.specs.Lasting.{AsksOf}
use Rattle.lvm_crash.specs.Owned.{IsNoteFlight, IsStatusFlight, UpdateSince}
use Rattle.lvm_crash.specs.Writing.{Lands}

-- ---- statuses

-- what the state sees of the statuses that stand
abbrev pub statuses_of : Option Beside → ℕ → Contents → ℕ → Option (Stamped Marks)
statuses_of beside id now d = marks_shown beside id (now.status d)

-- A write of the update has ended on a disk.
pub record StatusEnded (s : ModelState) (group : Descriptor) (u : Stamped Status) (disk : ℕ) (well : Bool) (flying : ℕ → Bool) (now : Contents) : Type 0 where
  pub may : StatusMoves s (as_marks s.beside u) (statuses_of s.beside group.id now)
  pub describes : Describes (moved s (statuses_of s.beside group.id now) flying) s.facts group (Some u) now
  pub stands : IsTrue well → now.status disk ≡ Some u

abbrev pub StatusEndMatches : Type 0
StatusEndMatches =
    (votes : Votes) (s : ModelState) (group : Descriptor) (w : RecordWrite) (u : Stamped Status) (device : Device) (rest : List Flight) (m n : Media) (f : Flight) (well : Bool) (flying : ℕ → Bool)
    → Good votes s → Matches s s.facts group (Some u) device m → Removes f device.flights rest → IsStatusFlight s w f → UpdateSince device w u → Lands f well m n
    → StatusEnded s group u f.disk well flying (contents_of (image_of device.sizes n))

-- ---- notes

abbrev pub home_after : ModelState → ℕ → Groups → Bool → ℕ → Groups
home_after s disk note well d = if well && d == disk then note else s.home_note d

abbrev pub flying_after : ModelState → ℕ → ℕ → Option Groups
flying_after s disk d = if d == disk then None else s.flying_note d

-- A write of a note has ended on a disk.
pub record NoteEnded (s : ModelState) (group : Descriptor) (in_flight : Option (Stamped Status)) (disk : ℕ) (note : Groups) (well : Bool) (now : Contents) : Type 0 where
  pub names : ℕ → Groups
  pub may : EndsNote s disk names (home_after s disk note well) (flying_after s disk)
  pub describes : Describes (after_note s names (home_after s disk note well) (flying_after s disk)) s.facts group in_flight now

-- It ended well, or its disk is missing.
abbrev pub NoteEndMatches : Type 0
NoteEndMatches =
    (votes : Votes) (s : ModelState) (group : Descriptor) (in_flight : Option (Stamped Status)) (device : Device) (rest : List Flight) (m n : Media) (f : Flight) (well : Bool)
    → Good votes s → Matches s s.facts group in_flight device m → Removes f device.flights rest → (own : IsNoteFlight s f) → Lands f well m n
    → has_records (image_of device.sizes m) f.disk ≡ true → IsTrue well ⊎ IsTrue (s.missing f.disk)
    → NoteEnded s group in_flight f.disk own.note well (contents_of (image_of device.sizes n))

-- ---- where nothing on the media changes

-- Each event but one of an update leaves a state that describes the disks as it did, where it changes nothing that the disks show.
abbrev pub QuietLasts : Type 0
QuietLasts =
    (votes : Votes) (event : Event) (s new : ModelState) (group : Descriptor) (in_flight : Option (Stamped Status)) (c : Contents)
    → ModelStep votes event s new → Good votes s → AsksOf group event → Describes s s.facts group in_flight c
    → new.media ≡ s.media → new.is_copy ≡ s.is_copy → new.in_flight ≡ s.in_flight → Describes new new.facts group in_flight c

-- An update begins under a stamp that is later than each of its group that stands, and ends.
pub record UpdatesLast : Type 0 where
  pub begins : (votes : Votes) (s : ModelState) (group : Descriptor) (c : Contents) (u : Stamped Status) → Good votes s → Describes s s.facts group None c → u.value.id ≡ group.id
      → (as_marks s.beside u).value ≡ s.wanted → stamp_lt s.committed.stamp u.stamp ≡ true
      → ((d : ℕ) (r : Stamped Status) → c.status d ≡ Some r → r.value.id ≡ u.value.id → stamp_lt r.stamp u.stamp ≡ true)
      → Good votes (record s { in_flight = Some (as_marks s.beside u) }) × Describes (record s { in_flight = Some (as_marks s.beside u) }) s.facts group (Some u) c
  pub ends : (votes : Votes) (s : ModelState) (group : Descriptor) (c : Contents) (u : Stamped Status) → Good votes s → Describes s s.facts group (Some u) c
      → s.committed ≡ as_marks s.beside u → ((d : ℕ) → s.status_flying d ≡ false) → Good votes (record s { in_flight = None }) × Describes (record s { in_flight = None }) s.facts group None c

-- An update that is being written goes on being so at each step of the shelf that starts nothing else in the slots of statuses.
abbrev pub UpdateGoesOn : Type 0
UpdateGoesOn = (w : RecordWrite) (u : Stamped Status) (old new : Device) (step : DeviceStep old new) → StepIsPlanned (IsOtherOrRecord w) step → UpdateSince old w u → UpdateSince new w u
