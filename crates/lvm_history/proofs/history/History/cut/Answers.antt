use Rattle.std.proofs.Common.{refl, arith, ap, ◌∙◌, ◌+◌, false}
use Rattle.lvm_history.specs.Opened.{kept_of}
use Rattle.lvm_history.proofs.KeepingLemmas.{cut_adds, cut_room}
use Rattle.lvm_allowed.specs.declared.row.Row.TheVariants as row
use Rattle.lvm_chains.specs.Places.{Indexed}
use Rattle.lvm_chains.proofs.AlongLemmas.{chains_count}
use Rattle.lvm_history.proofs.IndexLemmas.{tight, tight_sound, aside_indexed, cut_aside}
use Rattle.lvm_history.proofs.history.History.cut.Goals as goal

pub append-requires : goal.append-requires
append-requires c = let room = cut_room (kept_of c.self.inside) c.self.invariant.kept c.if-self.true in let rows = room.0 in omega (arith, rows, c.self.inside.rows.ok.0)

pub add-requires-clause-room : goal.add-requires-clause-room
add-requires-clause-room c =
    let room = cut_room (tight (kept_of c.self.inside)) (tight_sound (kept_of c.self.inside) c.self.invariant.kept) c.if-self.true in let rows = room.0 in
    omega (arith, chains_count c.self.inside.index c.self.inside.asks.items c.self.inside.rows.items c.self.invariant.indexed, c.self.invariant.index_fits, rows)

pub invariant_of-self : goal.invariant_of-self
invariant_of-self c = record {
  kept = (cut_adds (kept_of c.self.inside) (kept_of (record c.self.inside { rows = c.append.new.items; needed = c.self.inside.needed + 1; uncut = false })) c.args.self.now c.self.invariant.kept c.self.view_is c.if-self.true
      (record { its_rows = c.append.ensures.items; rest = refl; more = c.append.ensures.capacity }) refl).0;
  indexed = rw (c.add.ensures, c.append.ensures.items)
      (aside_indexed c.self.inside.index c.self.inside.asks.items c.self.inside.rows.items row.Cut (cut_aside c.self.inside.asks.items) c.self.invariant.indexed);
  index_fits = ap (λ (x : Indexed). x.room) c.add.ensures ∙ c.self.invariant.index_fits;
}
