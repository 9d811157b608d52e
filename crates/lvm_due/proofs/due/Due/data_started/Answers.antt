use Rattle.std.proofs.Common.{length, sym, ◌∙◌, ap, subst}
use Rattle.std.proofs.lemmas.Bool.{not-true}
use Rattle.lvm_session.specs.Fields.{core_of}
use Rattle.lvm_session.specs.State.{Core}
use Rattle.lvm_due.specs.declared.span.Span.{Span}
use Rattle.lvm_due.specs.Due.{none, IsDue}
use Rattle.lvm_due.proofs.DueLemmas.Moving.{start_moves_now}
use Rattle.lvm_due.proofs.DueLemmas.Spanning.{covers_nothing}
use Rattle.lvm_due.proofs.due.Due.data_started.Goals as goal

pub returns : goal.returns
returns c old new target same starts due =
    subst (λ (k : Core). IsDue k c.moved_if.new.self) (sym same)
    (c.moved_if.ensures none none old.core (covers_nothing c.args.session.now.requests.items (length c.args.session.now.requests.items) c.all.result (ap (λ (s : Span). s.to) c.all.ensures)) (covers_nothing c.args.session.now.requests.items (length c.args.session.now.requests.items) c.all-2.result (ap (λ (s : Span). s.to) c.all-2.ensures))
    (λ is. start_moves_now old new (core_of c.args.session.now) c.args.place target same starts (λ o there. sym (c.any_fails-fails.ensures o there) ∙ not-true c.any_fails-fails.result is)) due)
