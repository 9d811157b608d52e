-- What a cache has, and what each call makes of it.
use Rattle.std.specs.Prelude.{◌≡◌, ◌≤◌, ℕ, Bool, true, false, List, [], find, Option, Some, None, option_and_then, is_some, if◌then◌else◌}
use Rattle.std.specs.Option.{option_map_or}
use Rattle.lvm_num.specs.declared.record.NoteEntry.{NoteEntry}
use Rattle.lvm_num.specs.Disks.{has}
use Rattle.arrayvec.specs.ArrayVec.{ArrayVec}
use Rattle.lvm_mwc.specs.declared.entries.CacheEntry.{CacheEntry}
use Rattle.lvm_mwc.specs.declared.notes.DiskNotes.{DiskNotes}
use Rattle.lvm_mwc.specs.declared.cache.Pin.{Pin}
use Rattle.lvm_mwc.specs.declared.cache.Pin.TheVariants.{Pinned, AllPinned}
use Rattle.lvm_mwc.specs.Firsts.{with_first}
use Rattle.lvm_mwc.specs.Entries.{are_all_pinned, with_pin, with_unpin, note_of}
use Rattle.lvm_mwc.specs.Notes.{is_of_disk, names_group, both_name, common}

-- the entries in the order of their last pin, oldest first, and the notes of each disk
pub record Cached : Type 0 where
  pub entries : List CacheEntry
  pub notes : List DiskNotes

-- the notes of a disk
abbrev pub notes_on : Cached → ℕ → Option DiskNotes
notes_on c disk = find (is_of_disk disk) c.notes

-- whether the cache was made for the disk
abbrev pub has_disk : Cached → ℕ → Bool
has_disk c disk = is_some (notes_on c disk)

-- the note in flight there
abbrev pub flight_on : Cached → ℕ → Option (ArrayVec NoteEntry)
flight_on c disk = option_and_then (λ (n : DiskNotes). n.flight) (notes_on c disk)

-- the note in flight on the disk names the track group
abbrev pub flight_names : Cached → ℕ → ℕ → ℕ → Bool
flight_names c disk lv group = option_map_or (λ (note : ArrayVec NoteEntry). names_group note.items lv group) (flight_on c disk) false

-- whether each sector that may stand on the disk names the track group
abbrev pub is_named : Cached → ℕ → ℕ → ℕ → Bool
is_named c disk lv group = option_map_or (both_name lv group) (notes_on c disk) false

-- a disk whose note names nothing
abbrev pub no_notes : ℕ → DiskNotes
no_notes disk = record { disk = disk; written = record { items = [] }; flight = None }

-- an empty cache, for these disks
pub record IsNew (disks : ℕ) (c : Cached) : Type 0 where
  pub entries : c.entries ≡ []
  pub notes : (disk : ℕ) → notes_on c disk ≡ (if has disks disk then Some (no_notes disk) else None)

-- what a pin answers
abbrev pub pin_answer : Cached → ℕ → ℕ → Pin
pin_answer c lv group = if are_all_pinned c.entries lv group then AllPinned else Pinned

-- the cache after a pin
abbrev pub after_pin : Cached → ℕ → ℕ → Cached
after_pin c lv group = if are_all_pinned c.entries lv group then c else record c { entries = with_pin c.entries lv group }

-- after an unpin
abbrev pub after_unpin : Cached → ℕ → ℕ → Cached
after_unpin c lv group = record c { entries = with_unpin c.entries lv group }

-- the notes of a disk after the start of one, which names the whole cache
abbrev pub started : List CacheEntry → DiskNotes → DiskNotes
started entries n = record n { flight = Some (record { items = note_of entries }) }

-- after the start of a note on a disk
abbrev pub after_start : Cached → ℕ → Cached
after_start c disk = record c { notes = with_first (is_of_disk disk) (started c.entries) c.notes }

-- The note in flight is written where it ended well. Else the old one or the new one may stand there, and only
-- what both have is known to be written.
abbrev pub ended_as : Bool → List NoteEntry → List NoteEntry → List NoteEntry
ended_as true written flight = flight
ended_as false written flight = common written flight

-- the notes of a disk after the end of the one in flight
abbrev pub ended : Bool → DiskNotes → DiskNotes
ended ok n = option_map_or (λ (flight : ArrayVec NoteEntry). record n { written = record { items = ended_as ok n.written.items flight.items }; flight = None }) n.flight n

-- after the end of one there
abbrev pub after_end : Cached → ℕ → Bool → Cached
after_end c disk ok = record c { notes = with_first (is_of_disk disk) (ended ok) c.notes }

-- lists of these capacities have room for all disks that a shelf may have
pub record HasRoom (of_disks of_notes of_filters : ℕ) : Type 0 where
  pub disks : 128 ≤ of_disks
  pub notes : 128 ≤ of_notes
  pub filters : 128 ≤ of_filters
