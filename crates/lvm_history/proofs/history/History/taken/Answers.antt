use Rattle.std.proofs.Common.{refl, arith, ap, ◌∙◌, length}
use Rattle.lvm_history.specs.Opened.{kept_of}
use Rattle.lvm_history.specs.passed.Vol.{Taken, request_of}
use Rattle.lvm_history.proofs.KeepingLemmas.{Adds, log_ask, taken_adds, taken_room}
use Rattle.lvm_chains.specs.Places.{Indexed}
use Rattle.lvm_chains.proofs.AlongLemmas.{chains_count}
use Rattle.lvm_history.proofs.IndexLemmas.{tight, tight_sound, taken_indexed, answered_some}
use Rattle.lvm_history.proofs.history.History.taken.Goals as goal

adds : (c : goal.After-add) → Adds c.args.self.now (kept_of (record c.self.inside { rows = c.append.new.items })) (Taken (request_of c.args.self.now.facts c.args.id))
adds c = taken_adds (kept_of c.self.inside) (kept_of (record c.self.inside { rows = c.append.new.items })) c.args.self.now c.args.client c.args.id c.self.invariant.kept c.self.view_is c.requires
    (record { its_rows = c.append.ensures.items; rest = refl; more = c.append.ensures.capacity })

pub append-requires : goal.append-requires
append-requires c = omega (arith, taken_room (kept_of c.self.inside) c.args.self.now c.args.client c.args.id c.self.invariant.kept c.self.view_is c.requires, c.self.inside.rows.ok.0)

pub take-requires : goal.take-requires
take-requires c = omega (arith, (log_ask (kept_of c.self.inside) c.args.self.now c.args.id c.self.invariant.kept c.self.view_is (answered_some c.args.self.now.facts c.args.client c.args.id c.requires)).high, c.self.invariant.indexed.count)

pub add-requires-clause-room : goal.add-requires-clause-room
add-requires-clause-room c =
    omega (
      arith,
      chains_count c.self.inside.index c.self.inside.asks.items c.self.inside.rows.items c.self.invariant.indexed,
      c.self.invariant.index_fits,
      ap (λ (x : Indexed). length x.chains) c.take.ensures,
      ap (λ (x : Indexed). x.room) c.take.ensures,
      taken_room (tight (kept_of c.self.inside)) c.args.self.now c.args.client c.args.id (tight_sound (kept_of c.self.inside) c.self.invariant.kept) c.self.view_is c.requires,
    )

pub invariant_of-self : goal.invariant_of-self
invariant_of-self c = record {
  kept = (adds c).sound;
  indexed = rw (c.add.ensures, c.take.ensures, c.append.ensures.items)
      (taken_indexed c.self.inside.index c.self.inside.asks.items c.self.inside.rows.items c.args.client c.args.id (log_ask (kept_of c.self.inside) c.args.self.now c.args.id c.self.invariant.kept c.self.view_is (answered_some c.args.self.now.facts c.args.client c.args.id c.requires)).low (log_ask (kept_of c.self.inside) c.args.self.now c.args.id c.self.invariant.kept c.self.view_is (answered_some c.args.self.now.facts c.args.client c.args.id c.requires)).high c.self.invariant.indexed);
  index_fits = ap (λ (x : Indexed). x.room) c.add.ensures ∙ ap (λ (x : Indexed). x.room) c.take.ensures ∙ c.self.invariant.index_fits;
}

pub returns : goal.returns
returns c = (adds c).shown
