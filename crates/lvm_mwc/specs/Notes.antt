-- The consistency records of the disks.
use Rattle.std.specs.Prelude.{◌≡◌, ◌≢◌, ◌<◌, ◌==◌, ◌&&◌, ℕ, Bool, true, false, List, filter, map, All, AllPairs}
use Rattle.std.specs.List.{list_any}
use Rattle.std.specs.Option.{option_map_or}
use Rattle.lvm_num.specs.declared.record.NoteEntry.{NoteEntry}
use Rattle.arrayvec.specs.ArrayVec.{ArrayVec}
use Rattle.lvm_mwc.specs.declared.notes.DiskNotes.{DiskNotes}

-- whether these are the notes of the disk
abbrev pub is_of_disk : ℕ → DiskNotes → Bool
is_of_disk disk n = n.disk == disk

-- the disks, in the order of their notes
abbrev pub disks_of : List DiskNotes → List ℕ
disks_of notes = map (λ (n : DiskNotes). n.disk) notes

-- disks below a number, each at most once
pub record AreDisks (below : ℕ) (disks : List ℕ) : Type 0 where
  pub low : All (λ disk. disk < below) disks
  pub differ : AllPairs (λ a b. a ≢ b) disks

-- whether a note names a track group
abbrev pub names_group : List NoteEntry → ℕ → ℕ → Bool
names_group note lv group = list_any (λ (e : NoteEntry). e.lv == lv && e.group == group) note

-- whether the note in flight names a track group
abbrev pub is_in_flight : ℕ → ℕ → DiskNotes → Bool
is_in_flight lv group n = option_map_or (λ (flight : ArrayVec NoteEntry). names_group flight.items lv group) n.flight false

-- what both notes name
abbrev pub common : List NoteEntry → List NoteEntry → List NoteEntry
common written flight = filter (λ (e : NoteEntry). names_group flight e.lv e.group) written

-- whether the note that was written and the one in flight, if any, both name it
abbrev pub both_name : ℕ → ℕ → DiskNotes → Bool
both_name lv group n = names_group n.written.items lv group && option_map_or (λ (flight : ArrayVec NoteEntry). names_group flight.items lv group) n.flight true

-- A sector that may stand on the disk while no note is in flight names all that is known to be written.
abbrev pub NoteMayStand : DiskNotes → List NoteEntry → Type 0
NoteMayStand n sector = (lv group : ℕ) → names_group n.written.items lv group ≡ true → names_group sector lv group ≡ true
