-- Laws of the cache, over calls one after the other.
use Rattle.std.specs.Prelude.{◌≡◌, ◌+◌, ◌<◌, ℕ, Bool, true, false, List, Some, IsTrue}
use Rattle.lvm_num.specs.declared.record.NoteEntry.{NoteEntry}
use Rattle.lvm_num.specs.Disks.{has}
use Rattle.lvm_mwc.specs.Entries.{has_entry, pins_of, AreEntries}
use Rattle.arrayvec.specs.ArrayVec.{ArrayVec}
use Rattle.lvm_mwc.specs.declared.notes.DiskNotes.{DiskNotes}
use Rattle.lvm_mwc.specs.Notes.{names_group, both_name, NoteMayStand}
use Rattle.lvm_mwc.specs.Cache.{Cached, IsNew, is_named, ended}
use Rattle.lvm_mwc.specs.Runs.{Call, AreAllowed, after_all, pins_given, pins_taken, IsPinnedBefore, no_sectors, sectors_after, Knows}

-- A new cache has no entries.
abbrev pub NewIsEmpty : Type 0
NewIsEmpty = (disks : ℕ) (c : Cached) → IsNew disks c → AreEntries c.entries

-- Entries always differ.
abbrev pub EntriesDiffer : Type 0
EntriesDiffer = (c : Cached) (calls : List Call) → AreEntries c.entries → AreAllowed c calls → AreEntries (after_all c calls).entries

-- The pins of a track group are those that it had and was given, less those that were taken.
abbrev pub PinsAreCounted : Type 0
PinsAreCounted = (c : Cached) (calls : List Call) (lv group : ℕ) → AreEntries c.entries → AreAllowed c calls
    → pins_of (after_all c calls).entries lv group + pins_taken calls lv group ≡ pins_of c.entries lv group + pins_given c calls lv group

-- One that has more pins than are taken stands in the cache: it was never put out.
abbrev pub PinnedStays : Type 0
PinnedStays = (c : Cached) (calls : List Call) (lv group : ℕ) → AreEntries c.entries → AreAllowed c calls
    → pins_taken calls lv group < pins_of c.entries lv group → has_entry (after_all c calls).entries lv group ≡ true

-- What is named on a disk stays named there while it has a pin.
abbrev pub NamedStays : Type 0
NamedStays = (c : Cached) (calls : List Call) (disk lv group : ℕ) → IsPinnedBefore c calls lv group → is_named c disk lv group ≡ true → is_named (after_all c calls) disk lv group ≡ true

-- What may stand on a disk of a new cache after any calls is exactly what the cache says of it.
abbrev pub SectorsAreKnown : Type 0
SectorsAreKnown = (disks : ℕ) (c : Cached) (disk : ℕ) (calls : List Call) → IsNew disks c → IsTrue (has disks disk) → Knows (after_all c calls) disk (sectors_after c disk no_sectors calls)

-- A sector that may stand on a disk has what is named there.
abbrev pub NamedStands : Type 0
NamedStands = (n : DiskNotes) (sector : List NoteEntry) (lv group : ℕ) → NoteMayStand n sector → both_name lv group n ≡ true → names_group sector lv group ≡ true

-- So has the note in flight.
abbrev pub NamedFlies : Type 0
NamedFlies = (n : DiskNotes) (note : ArrayVec NoteEntry) (lv group : ℕ) → n.flight ≡ Some note → both_name lv group n ≡ true → names_group note.items lv group ≡ true

-- The note in flight may stand there once it has ended, well or not.
abbrev pub EndedStands : Type 0
EndedStands = (n : DiskNotes) (note : ArrayVec NoteEntry) (ok : Bool) → n.flight ≡ Some note → NoteMayStand (ended ok n) note.items

-- A sector that may stand there may so after a note failed.
abbrev pub FailedLeaves : Type 0
FailedLeaves = (n : DiskNotes) (sector : List NoteEntry) → NoteMayStand n sector → NoteMayStand (ended false n) sector
