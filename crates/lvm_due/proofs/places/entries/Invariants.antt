use Rattle.lvm_due.specs.Due.{Covers, waits_entry}
use Rattle.lvm_due.proofs.places.entries.Given as goal

abbrev pub invariant-loop-place : goal.invariant-loop-place
invariant-loop-place l = Covers (waits_entry) l.session.requests.items l.place l.span
