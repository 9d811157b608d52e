use Rattle.std.proofs.Common.{ap, arith}
use Rattle.lvm_session.specs.Fields.{core_of}
use Rattle.lvm_due.specs.declared.span.Span.{Span}
use Rattle.lvm_due.proofs.DueLemmas.Noting.{note_ends_due}
use Rattle.lvm_due.proofs.due.Due.note_ended.Goals as goal

pub returns : goal.returns
returns c old at disk buf learns due =
    note_ends_due old (core_of c.args.session.now) at disk buf c.args.self.now c.all-all.result (ap (λ (s : Span). s.from) c.all-all.ensures) (let to = ap (λ (s : Span). s.to) c.all-all.ensures in omega (arith, to, c.len.ensures)) learns due
