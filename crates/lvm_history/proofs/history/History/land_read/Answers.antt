use Rattle.std.proofs.Common.{◌≡◌, ℕ, ◌-◌, ◌≤◌, ◌+◌, ◌/◌, ◌++◌, List, length, take, drop, true, refl, ◌∙◌, ap, sym, arith}
use Rattle.std.proofs.lemmas.List.{get_or_default}
use Rattle.std.specs.Simd.{first_chunks}
use Rattle.lvm_history.specs.passed.VolEntryOutcome as outcome
use Rattle.lvm_allowed.specs.declared.row.Ask.{Ask}
use Rattle.lvm_history.specs.Opened.{kept_of}
use Rattle.lvm_allowed.specs.Rows.{no_ask, ask_of}
use Rattle.lvm_history.specs.Keeping.{Holdings}
use Rattle.lvm_history.specs.passed.Vol.{Landed, request_of}
use Rattle.lvm_history.proofs.KeepingLemmas.{Adds, read_adds, landed_answered, landed_room, awaited_of, chunks_count, length-first_chunks_of, log_ask, open_some}
use Rattle.lvm_chains.specs.Places.{Indexed}
use Rattle.lvm_chains.proofs.AlongLemmas.{chains_count}
use Rattle.lvm_history.proofs.IndexLemmas.{tight, tight_sound, landed_indexed}
use Rattle.lvm_history.proofs.history.History.land_read.Goals as goal

pub overflow_sub-id : goal.overflow_sub-id
overflow_sub-id c =
    let waits = awaited_of c.args.self.now.facts c.args.id c.requires.read in
    let its = log_ask (kept_of c.self.inside) c.args.self.now c.args.id c.self.invariant.kept c.self.view_is (open_some c.args.self.now.facts c.args.id waits.still) in
    its.low

pub index-requires : goal.index-requires
index-requires c =
    let waits = awaited_of c.args.self.now.facts c.args.id c.requires.read in
    let its = log_ask (kept_of c.self.inside) c.args.self.now c.args.id c.self.invariant.kept c.self.view_is (open_some c.args.self.now.facts c.args.id waits.still) in
    let high = its.high in
    omega (arith, high, c.self.inside.asks.ok.0)

-- the request's place, and how many blocks there are
record Read (c : goal.After-overwrite-arg-2-1) : Type 0 where
  place : c.index.result.now.place ≡ (ask_of c.self.inside.asks.items c.args.id).place
  size : length c.args.bytes.now / 512 ≡ (request_of c.args.self.now.facts c.args.id).count
  within : (ask_of c.self.inside.asks.items c.args.id).place + (request_of c.args.self.now.facts c.args.id).count ≤ length c.self.inside.blocks.items

read : (c : goal.After-overwrite-arg-2-1) → Read c
read c =
    let waits = awaited_of c.args.self.now.facts c.args.id c.requires.read in
    let its = log_ask (kept_of c.self.inside) c.args.self.now c.args.id c.self.invariant.kept c.self.view_is (open_some c.args.self.now.facts c.args.id waits.still) in
    record {
      place = ap (λ (a : Ask). a.place) (c.index.ensures ∙ get_or_default c.self.inside.asks.items (c.args.id - 1) c.index.result.now no_ask its.high);
      size = chunks_count (length c.args.bytes.now) (request_of c.args.self.now.facts c.args.id).count (c.requires.length (request_of c.args.self.now.facts c.args.id).count waits.size);
      within = its.within;
    }

pub overwrite-requires : goal.overwrite-requires
overwrite-requires c =
    let its = read c in let place = its.place in let size = its.size in let within = its.within in
    omega (arith, place, size, within, c.as_chunks.ensures.front_len, c.self.inside.blocks.ok.0)

pub append-requires : goal.append-requires
append-requires c =
    let waits = awaited_of c.args.self.now.facts c.args.id c.requires.read in
    omega (arith, landed_room (kept_of c.self.inside) c.args.self.now c.args.id outcome.Got true c.self.invariant.kept c.self.view_is waits.still, c.self.inside.rows.ok.0)

abbrev new : goal.After-index_landing → Holdings
new c = kept_of (record c.self.inside { rows = c.append.new.items; blocks = c.overwrite.new.blocks })

adds : (c : goal.After-index_landing) → Adds c.args.self.now (new c) (Landed (request_of c.args.self.now.facts c.args.id) outcome.Got true (first_chunks 512 (request_of c.args.self.now.facts c.args.id).count c.args.bytes.now))
adds c =
    let waits = awaited_of c.args.self.now.facts c.args.id c.requires.read in
    let count : ℕ = (request_of c.args.self.now.facts c.args.id).count in
    let its = log_ask (kept_of c.self.inside) c.args.self.now c.args.id c.self.invariant.kept c.self.view_is (open_some c.args.self.now.facts c.args.id waits.still) in
    let size = chunks_count (length c.args.bytes.now) (request_of c.args.self.now.facts c.args.id).count (c.requires.length (request_of c.args.self.now.facts c.args.id).count waits.size) in
    let place : c.index.result.now.place ≡ (ask_of c.self.inside.asks.items c.args.id).place = ap (λ (a : Ask). a.place) (c.index.ensures ∙ get_or_default c.self.inside.asks.items (c.args.id - 1) c.index.result.now no_ask its.high) in
    let chunks : c.as_chunks.result.0.now ≡ first_chunks 512 (request_of c.args.self.now.facts c.args.id).count c.args.bytes.now =
    c.as_chunks.ensures.front ∙ ap (λ (n : ℕ). first_chunks 512 n c.args.bytes.now) size in
    read_adds (kept_of c.self.inside) (new c) c.args.self.now c.args.id (first_chunks 512 (request_of c.args.self.now.facts c.args.id).count c.args.bytes.now) c.self.invariant.kept c.self.view_is c.requires.read
    (length-first_chunks_of 512 (request_of c.args.self.now.facts c.args.id).count c.args.bytes.now)
    (record {
      its_rows = c.append.ensures.items;
      its_blocks = c.overwrite.ensures.items
          ∙ ap (λ (n : ℕ). take n c.self.inside.blocks.items ++ c.as_chunks.result.0.now ++ drop (n + length c.as_chunks.result.0.now) c.self.inside.blocks.items) place
          ∙ ap (λ (l : List (List ℕ)). take (ask_of c.self.inside.asks.items c.args.id).place c.self.inside.blocks.items ++ l ++ drop ((ask_of c.self.inside.asks.items c.args.id).place + length l) c.self.inside.blocks.items) chunks;
      rest = refl;
      more_rows = c.append.ensures.capacity;
      more_blocks = let same = c.overwrite.ensures.capacity in omega (arith, same);
    })

pub index_landing-requires-clause-id : goal.index_landing-requires-clause-id
index_landing-requires-clause-id c =
    let waits = awaited_of c.args.self.now.facts c.args.id c.requires.read in
    let its = log_ask (kept_of c.self.inside) c.args.self.now c.args.id c.self.invariant.kept c.self.view_is (open_some c.args.self.now.facts c.args.id waits.still) in
    omega (arith, its.high, ap (λ (l : List Ask). length l) c.deref.ensures.value)

pub index_landing-requires-clause-steps : goal.index_landing-requires-clause-steps
index_landing-requires-clause-steps c = c.self.invariant.indexed.count ∙ sym (ap (λ (l : List Ask). length l) c.deref.ensures.value)

pub index_landing-requires-clause-room : goal.index_landing-requires-clause-room
index_landing-requires-clause-room c =
    let waits = awaited_of c.args.self.now.facts c.args.id c.requires.read in
    omega (
      arith,
      chains_count c.self.inside.index c.self.inside.asks.items c.self.inside.rows.items c.self.invariant.indexed,
      c.self.invariant.index_fits,
      landed_room (tight (kept_of c.self.inside)) c.args.self.now c.args.id outcome.Got true (tight_sound (kept_of c.self.inside) c.self.invariant.kept) c.self.view_is waits.still,
    )

pub invariant_of-self : goal.invariant_of-self
invariant_of-self c =
    let waits = awaited_of c.args.self.now.facts c.args.id c.requires.read in
    let its = log_ask (kept_of c.self.inside) c.args.self.now c.args.id c.self.invariant.kept c.self.view_is (open_some c.args.self.now.facts c.args.id waits.still) in
    record {
      kept = (adds c).sound;
      indexed = rw (c.index_landing.ensures, c.deref.ensures.value, c.append.ensures.items)
          (landed_indexed c.self.inside.index c.self.inside.asks.items c.self.inside.rows.items c.args.id outcome.Got true its.low its.high
          (chains_count c.self.inside.index c.self.inside.asks.items c.self.inside.rows.items c.self.invariant.indexed) c.self.invariant.indexed);
      index_fits = ap (λ (x : Indexed). x.room) c.index_landing.ensures ∙ c.self.invariant.index_fits;
    }

pub returns-clause-entered : goal.returns-clause-entered
returns-clause-entered c = (adds c).shown

pub returns-clause-answered : goal.returns-clause-answered
returns-clause-answered c =
    let waits = awaited_of c.args.self.now.facts c.args.id c.requires.read in
    landed_answered (kept_of c.self.inside) (new c) c.args.self.now c.args.id outcome.Got true _ c.self.invariant.kept c.self.view_is waits.still (adds c)
