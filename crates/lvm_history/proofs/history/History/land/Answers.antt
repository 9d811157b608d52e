use Rattle.std.proofs.Common.{refl, arith, ap, sym, ◌∙◌, length, List, ◌-◌, ◌<◌, ◌≤◌, ◌≡◌}
use Rattle.lvm_allowed.specs.declared.row.Ask.{Ask}
use Rattle.lvm_history.specs.Opened.{kept_of}
use Rattle.lvm_chains.specs.Places.{Indexed}
use Rattle.lvm_history.specs.passed.Vol.{Landed, request_of, got_without_bytes}
use Rattle.lvm_history.proofs.KeepingLemmas.{Adds, landed_adds, landed_answered, landed_room, log_ask, open_some}
use Rattle.lvm_chains.proofs.AlongLemmas.{chains_count}
use Rattle.lvm_history.proofs.IndexLemmas.{tight, tight_sound, landed_indexed}
use Rattle.lvm_history.proofs.history.History.land.Goals as goal

adds : (c : goal.After-index_landing) → Adds c.args.self.now (kept_of (record c.self.inside { rows = c.append.new.items })) (Landed (request_of c.args.self.now.facts c.args.id) c.args.outcome c.args.started (got_without_bytes (request_of c.args.self.now.facts c.args.id) c.args.outcome))
adds c = landed_adds (kept_of c.self.inside) (kept_of (record c.self.inside { rows = c.append.new.items })) c.args.self.now c.args.id c.args.outcome c.args.started c.self.invariant.kept c.self.view_is c.requires
    (record { its_rows = c.append.ensures.items; rest = refl; more = c.append.ensures.capacity })

pub append-requires : goal.append-requires
append-requires c = omega (arith, landed_room (kept_of c.self.inside) c.args.self.now c.args.id c.args.outcome c.args.started c.self.invariant.kept c.self.view_is c.requires, c.self.inside.rows.ok.0)

pub index_landing-requires-clause-id : goal.index_landing-requires-clause-id
index_landing-requires-clause-id c =
    let its = log_ask (kept_of c.self.inside) c.args.self.now c.args.id c.self.invariant.kept c.self.view_is (open_some c.args.self.now.facts c.args.id c.requires) in
    omega (arith, its.high, ap (λ (l : List Ask). length l) c.deref.ensures.value)

pub index_landing-requires-clause-steps : goal.index_landing-requires-clause-steps
index_landing-requires-clause-steps c = c.self.invariant.indexed.count ∙ sym (ap (λ (l : List Ask). length l) c.deref.ensures.value)

pub index_landing-requires-clause-room : goal.index_landing-requires-clause-room
index_landing-requires-clause-room c =
    omega (
      arith,
      chains_count c.self.inside.index c.self.inside.asks.items c.self.inside.rows.items c.self.invariant.indexed,
      c.self.invariant.index_fits,
      landed_room (tight (kept_of c.self.inside)) c.args.self.now c.args.id c.args.outcome c.args.started (tight_sound (kept_of c.self.inside) c.self.invariant.kept) c.self.view_is c.requires,
    )

pub invariant_of-self : goal.invariant_of-self
invariant_of-self c =
    let its = log_ask (kept_of c.self.inside) c.args.self.now c.args.id c.self.invariant.kept c.self.view_is (open_some c.args.self.now.facts c.args.id c.requires) in
    record {
      kept = (adds c).sound;
      indexed = rw (c.index_landing.ensures, c.deref.ensures.value, c.append.ensures.items)
          (landed_indexed c.self.inside.index c.self.inside.asks.items c.self.inside.rows.items c.args.id c.args.outcome c.args.started its.low its.high
          (chains_count c.self.inside.index c.self.inside.asks.items c.self.inside.rows.items c.self.invariant.indexed) c.self.invariant.indexed);
      index_fits = ap (λ (x : Indexed). x.room) c.index_landing.ensures ∙ c.self.invariant.index_fits;
    }

pub returns-clause-entered : goal.returns-clause-entered
returns-clause-entered c = (adds c).shown

pub returns-clause-answered : goal.returns-clause-answered
returns-clause-answered c = landed_answered (kept_of c.self.inside) (kept_of (record c.self.inside { rows = c.append.new.items })) c.args.self.now c.args.id c.args.outcome c.args.started _ c.self.invariant.kept c.self.view_is c.requires (adds c)
