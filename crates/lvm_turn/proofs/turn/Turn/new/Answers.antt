use Rattle.std.proofs.Common.{sym, ap}
use Rattle.lvm_turn.specs.declared.rule.Opening.{Opening}
use Rattle.lvm_turn.specs.Rules.{fixed_of}
use Rattle.lvm_turn.proofs.CallsLemmas.Ends.{opens, first_puts}
use Rattle.lvm_turn.proofs.turn.Turn.new.Goals as goal

pub vacant-requires : goal.vacant-requires
vacant-requires g c = opens g.V.Shown.tells g.V.Past.past g.V.Shown.always c.args.clients (fixed_of g.V.Shown.tells g.V.Past.past c.of.result.value) c.requires.clients

pub put_back-requires-clause-may : goal.put_back-requires-clause-may
put_back-requires-clause-may g c =
    let made = c.in-Ok.ensures in
    first_puts g.V.Shown.tells g.V.Past.past g.V.Shown.always c.args.clients (fixed_of g.V.Shown.tells g.V.Past.past c.of.result.value) _ _ c.args.value
    (ap (λ (o : Opening g.row.V.Denot). o.clients) made.5)
    (ap (λ m. m.0) made.4)
    (ap (fixed_of g.V.Shown.tells g.V.Past.past) (sym c.of.ensures))
    c.requires.always
