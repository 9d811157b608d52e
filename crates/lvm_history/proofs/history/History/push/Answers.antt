use Rattle.std.proofs.Common.{refl, arith, ◌+◌, ◌++◌, [], ◌∷◌, ap, ◌∙◌}
use Rattle.lvm_allowed.specs.declared.row.Row.{Row}
use Rattle.lvm_history.specs.Opened.{kept_of}
use Rattle.lvm_history.specs.passed.Vol.{plain_fact}
use Rattle.lvm_history.proofs.KeepingLemmas.{Adds, pushed_adds, pushed_room}
use Rattle.lvm_history.specs.Keeping.{row_of}
use Rattle.lvm_chains.specs.Places.{Indexed}
use Rattle.lvm_chains.proofs.AlongLemmas.{chains_count}
use Rattle.lvm_history.proofs.IndexLemmas.{tight, tight_sound, aside_indexed, plain_aside}
use Rattle.lvm_history.proofs.history.History.push.Goals as goal

adds : (c : goal.After-self-2-1) → Adds c.args.self.now (kept_of (record c.self.inside { rows = c.append.new.items; needed = c.self.inside.needed + 1; uncut = c.is_uncut_after-self-inside.result })) (plain_fact c.args.entry)
adds c = pushed_adds (kept_of c.self.inside) (kept_of (record c.self.inside { rows = c.append.new.items; needed = c.self.inside.needed + 1; uncut = c.is_uncut_after-self-inside.result })) c.args.self.now c.args.entry c.self.invariant.kept c.self.view_is c.requires.spare
    (record { its_rows = c.append.ensures.items ∙ ap (λ (r : Row). c.self.inside.rows.items ++ r ∷ []) c.plain_row-row.ensures; rest = refl; more = c.append.ensures.capacity })
    c.is_uncut_after-self-inside.ensures

pub append-requires : goal.append-requires
append-requires c = omega (arith, pushed_room (kept_of c.self.inside) c.args.self.now c.args.entry c.self.invariant.kept c.self.view_is c.requires.spare, c.self.inside.rows.ok.0)

pub add-requires-clause-room : goal.add-requires-clause-room
add-requires-clause-room c =
    omega (
      arith,
      chains_count c.self.inside.index c.self.inside.asks.items c.self.inside.rows.items c.self.invariant.indexed,
      c.self.invariant.index_fits,
      pushed_room (tight (kept_of c.self.inside)) c.args.self.now c.args.entry (tight_sound (kept_of c.self.inside) c.self.invariant.kept) c.self.view_is c.requires.spare,
    )

pub invariant_of-self : goal.invariant_of-self
invariant_of-self c = record {
  kept = (adds c).sound;
  indexed = rw (c.add.ensures, c.append.ensures.items, c.plain_chain.ensures.chain, c.plain_row-row.ensures)
      (aside_indexed c.self.inside.index c.self.inside.asks.items c.self.inside.rows.items (row_of (plain_fact c.args.entry)) (plain_aside c.self.inside.asks.items c.args.entry) c.self.invariant.indexed);
  index_fits = ap (λ (x : Indexed). x.room) c.add.ensures ∙ c.self.invariant.index_fits;
}

pub returns : goal.returns
returns c = (adds c).shown
