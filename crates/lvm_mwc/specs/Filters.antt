-- What the notes of disks may name, by the numbers of track groups modulo 512.
use Rattle.std.specs.Prelude.{◌≡◌, ◌%◌, ℕ, Bool, true, false, List, [], Some, length, slice_get, slice_index_or}
use Rattle.lvm_num.specs.declared.record.NoteEntry.{NoteEntry}
use Rattle.lvm_mwc.specs.declared.notes.DiskNotes.{DiskNotes}
use Rattle.lvm_mwc.specs.Notes.{names_group}

-- whether a filter passes a track group
abbrev pub passes : List Bool → ℕ → Bool
passes filter group = slice_index_or filter (group % 512) false

-- it passes each that a note names
abbrev pub PassesAll : List Bool → List NoteEntry → Type 0
PassesAll filter note = (lv group : ℕ) → names_group note lv group ≡ true → passes filter group ≡ true

-- for each disk one that passes what the note names that was written there
pub record AreFilters (notes : List DiskNotes) (filters : List (List Bool)) : Type 0 where
  pub as_many : length filters ≡ length notes
  pub pass : (k : ℕ) (n : DiskNotes) → slice_get notes k ≡ Some n → PassesAll (slice_index_or filters k []) n.written.items
