use Rattle.std.proofs.Common.{length, ap}
use Rattle.lvm_due.specs.declared.span.Span.{Span}
use Rattle.lvm_due.specs.Due.{none}
use Rattle.lvm_due.proofs.DueLemmas.Spanning.{covers_nothing}
use Rattle.lvm_due.proofs.due.Due.data_ended_at.Goals as goal

pub returns : goal.returns
returns c old moves due =
    c.moved_if.ensures none none old (covers_nothing c.args.session.now.requests.items (length c.args.session.now.requests.items) c.all.result (ap (λ (s : Span). s.to) c.all.ensures)) (covers_nothing c.args.session.now.requests.items (length c.args.session.now.requests.items) c.all-2.result (ap (λ (s : Span). s.to) c.all-2.ensures)) (λ is. moves (c.stays_quiet-still.ensures.was is) (c.stays_quiet-still.ensures.is is)) due
