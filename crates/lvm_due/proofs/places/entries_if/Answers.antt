use Rattle.std.proofs.Common.{Bool, length, sym, ap, subst}
use Rattle.lvm_due.specs.declared.span.Span.{Span}
use Rattle.lvm_due.specs.Due.{waits_entry_if, Covers}
use Rattle.lvm_due.proofs.DueLemmas.Spanning.{covers_nothing}
use Rattle.lvm_due.proofs.places.entries_if.Goals as goal

pub returns-then-pinned : goal.returns-then-pinned
returns-then-pinned c =
    subst (λ (b : Bool). Covers (waits_entry_if b) c.args.session.now.requests.items (length c.args.session.now.requests.items) c.entries.result) (sym c.if-pinned.true) c.entries.ensures

pub returns-else-pinned : goal.returns-else-pinned
returns-else-pinned c =
    subst (λ (b : Bool). Covers (waits_entry_if b) c.args.session.now.requests.items (length c.args.session.now.requests.items) c.all.result) (sym c.if-pinned.false)
    (covers_nothing c.args.session.now.requests.items (length c.args.session.now.requests.items) c.all.result (ap (λ (s : Span). s.to) c.all.ensures))
