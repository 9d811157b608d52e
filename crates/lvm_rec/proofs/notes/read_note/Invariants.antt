use Rattle.std.proofs.Common.{◌≡◌, ◌≤◌, length}
use Rattle.lvm_num.specs.Note.{entries_below}
use Rattle.lvm_rec.proofs.notes.read_note.Given as goal

abbrev pub invariant-loop-k : goal.invariant-loop-k
invariant-loop-k l = (l.entries.items ≡ entries_below l.sector l.k) × (length l.entries.items ≤ l.k)
