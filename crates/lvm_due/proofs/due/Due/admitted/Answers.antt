use Rattle.std.proofs.Common.{length, ap}
use Rattle.lvm_session.specs.Fields.{core_of}
use Rattle.lvm_due.specs.declared.span.Span.{Span}
use Rattle.lvm_due.specs.Due.{none, waits_entry_if}
use Rattle.lvm_due.proofs.DueLemmas.Moving.{admission_moves}
use Rattle.lvm_due.proofs.DueLemmas.Spanning.{covers_nothing}
use Rattle.lvm_due.proofs.due.Due.admitted.Goals as goal

pub returns : goal.returns
returns c old going quiet holds admits due =
    c.moved_if.ensures none (waits_entry_if c.args.pinned) old.core (covers_nothing c.args.session.now.requests.items (length c.args.session.now.requests.items) c.all.result (ap (λ (s : Span). s.to) c.all.ensures)) c.entries_if.ensures
    (λ is. admission_moves old (core_of c.args.session.now) c.args.place admits (quiet (c.stays_quiet-still.ensures.was is)) (c.stays_quiet-still.ensures.is is) c.args.pinned holds) due
