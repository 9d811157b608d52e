use Rattle.std.proofs.Common.{◌≡◌, take}
use Rattle.lvm_mwc.specs.Notes.{common}
use Rattle.lvm_mwc.proofs.notes.common.Given as goal

abbrev pub invariant-loop-entry : goal.invariant-loop-entry
invariant-loop-entry l = l.both.items ≡ common (take l.entry-index l.written.items) l.flight
