-- What lets a record be written, while other sectors are.
use Rattle.std.specs.Prelude.{◌≡◌, ℕ, ◌<◌, List, Result}
use Rattle.lvm_num.specs.declared.record.Kind.{Kind}
use Rattle.lvm_num.specs.Buffer.{Sector}
use Rattle.lvm_num.specs.Disks.{Disks}
use Rattle.lvm_num.specs.Record.{Frames}
use Rattle.lvm_kept.specs.passed.Disk.{Image}
use Rattle.lvm_kept.specs.Plans.{ChangesBy}
use Rattle.lvm_kept.specs.Torn.{RecordWrite, MayWriteAll, IsOutsideSlots, IsOfNote, IsOfRecord}

-- A record that might go to its targets still may, after any change outside the slots of its kind,
abbrev pub WritableStays : Type 0 → Type 0
WritableStays X = (content_of : List ℕ → Result X ℕ) (w : RecordWrite) (x : X) (old new : Image) → MayWriteAll X content_of w x old → ChangesBy (IsOutsideSlots w.kind) old new → MayWriteAll X content_of w x new

-- as that of notes,
abbrev pub NotesAreOutside : Type 0
NotesAreOutside = (targets : Disks) (sector : Sector) (kind : Kind) (old new : Image) → ChangesBy (IsOfNote targets sector) old new → ChangesBy (IsOutsideSlots kind) old new

-- and of a record of the other kind.
abbrev pub RecordsAreOutside : Type 0
RecordsAreOutside = (w : RecordWrite) (kind : Kind) (old new : Image) → (kind ≡ w.kind → ⊥) → Frames w.kind w.framed → ((d : ℕ) → w.slots d < 2) → ChangesBy (IsOfRecord w) old new → ChangesBy (IsOutsideSlots kind) old new
