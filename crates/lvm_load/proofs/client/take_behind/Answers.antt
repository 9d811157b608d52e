use Rattle.std.proofs.Common.{◌≡◌, ◌<◌, Some, length, slice_get, sym, ◌∙◌, subst}
use Rattle.lvm_vol.specs.Log.{Log, entries_of}
use Rattle.lvm_load.proofs.client.take_behind.Goals as goal

pub entry-requires : goal.entry-requires
entry-requires g c = subst (λ (log : Log). c.args.before < length log.facts) (sym c.history.ensures) (c.requires.grown (sym c.is_last.ensures ∙ c.if-is_last.false))

pub take_only-requires-clause-waiting : goal.take_only-requires-clause-waiting
take_only-requires-clause-waiting g c =
    c.requires.waiting (sym c.is_last.ensures ∙ c.if-is_last.false) c.entry.result c.in-Some.id
    (subst (λ (log : Log). slice_get (entries_of log.facts) c.args.before ≡ Some c.entry.result) c.history.ensures c.entry.ensures) (sym c.in-Some.ensures)
