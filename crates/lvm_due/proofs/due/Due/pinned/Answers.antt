use Rattle.std.proofs.Common.{length, ap}
use Rattle.lvm_session.specs.Fields.{core_of}
use Rattle.lvm_due.specs.declared.span.Span.{Span}
use Rattle.lvm_due.specs.Due.{none, waits_entry}
use Rattle.lvm_due.proofs.DueLemmas.Moving.{pin_moves}
use Rattle.lvm_due.proofs.DueLemmas.Spanning.{covers_nothing}
use Rattle.lvm_due.proofs.due.Due.pinned.Goals as goal

pub returns : goal.returns
returns c old going pins due =
    c.moved.ensures none waits_entry old.core (covers_nothing c.args.session.now.requests.items (length c.args.session.now.requests.items) c.all.result (ap (λ (s : Span). s.to) c.all.ensures)) c.entries.ensures (pin_moves old (core_of c.args.session.now) c.args.place pins) due
