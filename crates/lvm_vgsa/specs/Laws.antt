-- What writing and reading of a status are to each other.
use Rattle.std.specs.Prelude.{◌≡◌, ℕ, ◌<◌, List, slice_index, Ok}
use Rattle.lvm_num.specs.declared.status.Status.{Status}
use Rattle.lvm_num.specs.Status.{IsValidStatus}
use Rattle.lvm_num.specs.StatusBytes.{IsStatus, status_bytes, status_of}

-- What was written of a valid status is read as that status.
abbrev pub WrittenIsRead : Type 0
WrittenIsRead = (s : Status) → IsValidStatus s → status_of (status_bytes s) ≡ Ok s

-- What is read is a valid status, and the bytes are those that are written of it: no other bytes are read.
abbrev pub ReadIsWritten : Type 0
ReadIsWritten = (bytes : List ℕ) (s : Status) → ((i : ℕ) → slice_index bytes i < 256) → status_of bytes ≡ Ok s → IsStatus bytes s
