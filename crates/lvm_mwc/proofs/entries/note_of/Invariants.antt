use Rattle.std.proofs.Common.{◌≡◌, take}
use Rattle.lvm_mwc.specs.Entries.{note_of}
use Rattle.lvm_mwc.proofs.entries.note_of.Given as goal

abbrev pub invariant-loop-entry : goal.invariant-loop-entry
invariant-loop-entry l = l.note.items ≡ note_of (take l.entry-index l.entries.items)
