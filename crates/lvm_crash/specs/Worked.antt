-- Worked sessions and their shelves, byte by byte: a group of two disks with a mirrored volume. (That what is asked of a session, its disks and what is out can be met.)
use Rattle.std.specs.Prelude.{ℕ, Bool, true, false, ◌&&◌, List, [], ◌∷◌, replicate, length, Option, Some, None, if◌then◌else◌, ◌==◌}
use Rattle.lvm_num.specs.declared.descriptor.Mode.{Mode}
use Rattle.lvm_num.specs.declared.descriptor.Mode.TheVariants.{Active}
use Rattle.lvm_num.specs.declared.descriptor.Descriptor.{Descriptor}
use Rattle.lvm_num.specs.declared.status.Status.{Status}
use Rattle.lvm_num.specs.declared.record.Framed.{Framed}
use Rattle.lvm_num.specs.declared.record.Kind.TheVariants as kind
use Rattle.lvm_num.specs.Buffer.{Sector, zero_sector}
use Rattle.lvm_num.specs.Geometry.{data_start}
use Rattle.lvm_num.specs.Note.{Noted, note_bytes}
use Rattle.lvm_num.specs.DescriptorBytes.{descriptor_bytes}
use Rattle.lvm_num.specs.StatusBytes.{status_bytes}
use Rattle.lvm_num.specs.Record.{Stamped, frame, slot_start}
use Rattle.lvm_kept.specs.passed.Disk.{Media, Flight, Device}
use Rattle.lvm_kept.specs.Contents.{note_sector}
use Rattle.lvm_kept.specs.Examples.{row_of, status_of_rows, two}
use Rattle.lvm_invariant.specs.State.{ModelState}
use Rattle.lvm_num.specs.Modes.{is_active, is_passive}
use Rattle.lvm_invariant.specs.Found.{Votes}
use Rattle.lvm_invariant.specs.Good.{Good}
use Rattle.lvm_invariant.specs.First.{at_rest}
use Rattle.lvm_invariant.specs.Worked.{ones, writing, stepping, updating, noting}
use Rattle.lvm_crash.specs.Session.{AreVotesOf}
use Rattle.lvm_crash.specs.Flights.{Matches}

-- ---- the shelf

-- What both disks show: the mode of the volume, whether its second copy is stale, whether it is dirty, whether its first track group is named.
pub record Shown : Type 0 where
  pub mode : Mode
  pub stale : Bool
  pub dirty : Bool
  pub named : Bool

-- 8 MiB each
abbrev pub sizes : List ℕ
sizes = 16384 ∷ 16384 ∷ []

-- the status, which is the second one where the volume is dirty
abbrev pub status_shown : Shown → Stamped Status
status_shown w = record {
  stamp = record { epoch = 1; seq = if w.dirty then 2 else 1 };
  value = record (status_of_rows (row_of 0 false ∷ row_of 1 w.stale ∷ [])) { dirty = if w.dirty then 1 ∷ [] else [] };
}

abbrev pub note_shown : Noted
note_shown = record { stamp = 1; entries = record { lv = 1; group = 0 } ∷ [] }

-- the two records, each of one sector
abbrev pub framed_group : Mode → Framed
framed_group mode = record { stamp = record { epoch = 50; seq = 2 }; content = descriptor_bytes (two mode) }

abbrev pub framed_status : Shown → Framed
framed_status w = record { stamp = (status_shown w).stamp; content = status_bytes (status_shown w).value }

-- each disk has them in the first slots, and zeros but for the note
abbrev pub media_of : Shown → Media
media_of w d s =
    if s == slot_start kind.Descriptor 0 then frame kind.Descriptor (framed_group w.mode).stamp (framed_group w.mode).content 0
    else if s == slot_start kind.Status 0 then frame kind.Status (framed_status w).stamp (framed_status w).content 0
    else if w.named && s == note_sector then note_bytes note_shown
    else zero_sector

abbrev pub device_of : Shown → List Flight → Device
device_of w flights = record {
  sizes = sizes;
  media = Some (media_of w);
  flights = flights;
  freed = [];
  power = true;
  counts = record { starts = λ d. 0; misses = λ d. 0; faults = λ d. 0; cuts = 0; waits = 0 };
  arranges = true;
  orders = record { made = 0; last = None; alone = None };
  wrote = None;
}

-- a write of these sectors from the first data of a disk on
abbrev pub to_disk : ℕ → List Sector → Flight
to_disk d sectors = record { ticket = d; disk = d; first = data_start; count = length sectors; write = true; buf = record { number = d; sectors = sectors } }

-- a write of one sector
abbrev pub sector_to : ℕ → ℕ → Sector → Flight
sector_to d first sector = record { ticket = d; disk = d; first = first; count = 1; write = true; buf = record { number = d; sectors = sector ∷ [] } }

-- the status by which the second copy is stale, and its one sector
abbrev pub next_status : Stamped Status
next_status = record { stamp = record { epoch = 1; seq = 2 }; value = status_of_rows (row_of 0 false ∷ row_of 1 true ∷ []) }

abbrev pub framed_next : Framed
framed_next = record { stamp = next_status.stamp; content = status_bytes next_status.value }

abbrev pub next_sector : Sector
next_sector = frame kind.Status framed_next.stamp framed_next.content 0

-- ---- laws

-- a good session that matches this shelf, in a group whose votes are these
pub record IsMet (s : ModelState) (w : Shown) (in_flight : Option (Stamped Status)) (flights : List Flight) : Type 0 where
  pub good : (votes : Votes) → AreVotesOf (two w.mode) votes → Good votes s
  pub matches : Matches s s.facts (two w.mode) in_flight (device_of w flights) (media_of w)

-- Each group has its votes.
abbrev pub GroupsHaveVotes : Type 0
GroupsHaveVotes = (group : Descriptor) → (votes : Votes) × AreVotesOf group votes

-- A session at rest matches a shelf at which nothing is out, in each mode, with a stale copy or without.
abbrev pub RestMatches : Type 0
RestMatches = (mode : Mode) (stale : Bool) → IsMet (at_rest mode stale) (record { mode = mode; stale = stale; dirty = false; named = false }) None []

-- A session with a write out to both copies matches a shelf at which it is out to both disks, which name its track group, or call its volume dirty, or neither.
abbrev pub WritingMatches : Type 0
WritingMatches =
    (mode : Mode) → IsMet (writing mode) (record { mode = mode; stale = false; dirty = is_passive mode; named = is_active mode }) None (to_disk 0 (ones ∷ []) ∷ to_disk 1 (ones ∷ []) ∷ [])

-- A session that brings up a copy matches one at which the write of a step is out to the disk of the copy.
abbrev pub SteppingMatches : Type 0
SteppingMatches = (mode : Mode) → IsMet (stepping mode) (record { mode = mode; stale = true; dirty = false; named = false }) None (to_disk 1 (replicate 256 zero_sector) ∷ [])

-- A session with an update of the status out to both disks matches one at which the record is out to their second slots.
abbrev pub UpdatingMatches : Type 0
UpdatingMatches =
    (mode : Mode) → IsMet (updating mode) (record { mode = mode; stale = false; dirty = false; named = false }) (Some next_status)
    (sector_to 0 (slot_start kind.Status 1) next_sector ∷ sector_to 1 (slot_start kind.Status 1) next_sector ∷ [])

-- A session with a note out matches one at which its sector is out.
abbrev pub NotingMatches : Type 0
NotingMatches = IsMet noting (record { mode = Active; stale = false; dirty = false; named = false }) None (sector_to 0 note_sector (note_bytes note_shown) ∷ [])
