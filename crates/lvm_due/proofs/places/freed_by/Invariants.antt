use Rattle.lvm_due.specs.Due.{Covers, is_freed}
use Rattle.lvm_due.proofs.places.freed_by.Given as goal

abbrev pub invariant-loop-place : goal.invariant-loop-place
invariant-loop-place l = Covers (is_freed l.ask) l.session.requests.items l.place l.span
