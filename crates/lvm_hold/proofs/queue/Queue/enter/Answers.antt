use Rattle.std.proofs.Common.{ℕ, Option, Some, ◌∙◌, sym, ap, arith, length}
use Rattle.std.proofs.lemmas.Option.{IfSome_then}
use Rattle.lvm_hold.specs.declared.queue.Row.{Row}
use Rattle.lvm_hold.specs.Waiting.{Waiting, AreBelow}
use Rattle.lvm_hold.specs.Chains.{last_of}
use Rattle.lvm_hold.specs.Tails.{Items}
use Rattle.lvm_hold.proofs.QueueLemmas.{entered, length-nexts_of, length_put_next}
use Rattle.lvm_hold.proofs.queue.Queue.enter.Goals as goal

pub link-requires-clause-within : goal.link-requires-clause-within
link-requires-clause-within c =
    IfSome_then c.last_in-before.result c.last_in-before.ensures.within
    (λ place lt. omega (arith, lt, ap (λ (w : Waiting). length w.rows) c.self.view_is, ap length c.self.invariant.2.nexts_are, length-nexts_of c.self.inside.rows.items))

pub link-requires-clause-head : goal.link-requires-clause-head
link-requires-clause-head c = omega (arith, c.head_of-head.ensures.within, c.self.invariant.2.count, c.self.inside.heads.ok.0)

pub push-requires : goal.push-requires
push-requires c = omega (arith, ap (λ (w : Waiting). w.room) c.self.view_is, ap (λ (w : Waiting). length w.rows) c.self.view_is, c.requires.room, c.self.invariant.0)

pub push-requires-2 : goal.push-requires-2
push-requires-2 c =
    omega (
      arith,
      ap (λ (w : Waiting). w.room) c.self.view_is,
      ap (λ (w : Waiting). length w.rows) c.self.view_is,
      c.requires.room,
      c.self.invariant.1,
      ap length c.self.invariant.2.nexts_are,
      length-nexts_of c.self.inside.rows.items,
      ap (λ (t : Items (Option ℕ)). t.room) c.link.ensures.nexts,
      ap (λ (t : Items (Option ℕ)). length t.items) c.link.ensures.nexts,
      length_put_next c.last_in-before.result (Some c.args.id) c.self.inside.nexts.items,
    )

pub invariant_of-self : goal.invariant_of-self
invariant_of-self c =
    let below : AreBelow c.self.inside.rows.items c.args.id = rw (ap (λ (w : Waiting). w.rows) c.self.view_is) c.requires.last in
    let all = entered c.self.inside.rows.items c.self.inside.nexts.items c.self.inside.heads.items c.args.id c.args.ask c.head_of-head.result c.last_in-before.result c.self.invariant.2 below c.requires.blocks
    (record { head_is = c.head_of-head.ensures.head; within = c.head_of-head.ensures.within; before_is = c.last_in-before.ensures.place ∙ ap (λ (w : Waiting). last_of c.head_of-head.result w.rows) (sym c.self.view_is) }) in (
      ap (λ (t : Items Row). t.room) c.push.ensures ∙ c.self.invariant.0,
      ap (λ (t : Items (Option ℕ)). t.room) c.push-2.ensures ∙ ap (λ (t : Items (Option ℕ)). t.room) c.link.ensures.nexts ∙ c.self.invariant.1,
      rw (c.push.ensures, c.push-2.ensures, c.link.ensures.nexts, c.link.ensures.heads) all,
    )
