use Rattle.std.proofs.Common.{◌≡◌, ◌<◌, ◌∙◌, None, sym, arith, length, get_or}
use Rattle.std.proofs.lemmas.List.{get_or_default}
use Rattle.lvm_hold.specs.Chains.{first_of}
use Rattle.lvm_hold.proofs.ChainLemmas.{no_last}
use Rattle.lvm_hold.proofs.queue.Queue.last_in.Goals as goal

pub returns-in-None-clause-place : goal.returns-in-None-clause-place
returns-in-None-clause-place c =
    let heads = c.self.inside.heads.items in
    let within : c.args.head < length heads = omega (arith, c.self.invariant.2.count, c.requires) in
    let none : get_or heads c.args.head None ≡ None = sym (get_or_default heads c.args.head _ None within) ∙ sym c.index.ensures ∙ c.in-None.is in
    let first : first_of c.args.head c.self.inside.rows.items ≡ None = sym (c.self.invariant.2.heads_are c.args.head c.requires) ∙ none in
    rw (← c.self.view_is) (sym (no_last c.args.head c.self.inside.rows.items first))
