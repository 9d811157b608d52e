use Rattle.std.proofs.Common.{◌≡◌, ℕ, ◌+◌, ◌++◌, [], ◌∷◌, List, Bool, Option, Some, None, is_some, refl, sym, ◌∙◌, ap, subst, arith, option_copied, Bor, true, length, ◌/◌, ◌<◌}
use Rattle.lvm_allowed.specs.declared.row.Row.TheVariants as row
use Rattle.lvm_history.specs.Opened.{kept_of}
use Rattle.lvm_history.specs.Keeping.{Holdings, log_of, blocks_first}
use Rattle.lvm_allowed.specs.declared.row.Ask.{Ask}
use Rattle.lvm_chains.specs.Places.{Indexed}
use Rattle.lvm_chains.proofs.AlongLemmas.{chains_count}
use Rattle.lvm_history.proofs.IndexLemmas.{tight, tight_sound, begun_indexed}
use Rattle.lvm_history.specs.passed.Vol.{Begun, next_id, is_open, asked, next_request}
use Rattle.lvm_history.proofs.KeepingLemmas.{Adds, BeginsRow, begun_adds, begun_found, room_to_begin, next_number}
use Rattle.lvm_history.proofs.history.History.begin.Goals as goal

abbrev new : goal.After-self-2-1 → Holdings
new c = kept_of (record c.self.inside { rows = c.append-2.new.items; asks = c.append.new.items; blocks = c.append_given.new.blocks; needed = c.self.inside.needed + 3; uncut = true })

is_given : (o : Option (Bor (List ℕ))) → is_some o ≡ is_some (option_copied o)
is_given None = refl
is_given (Some bytes) = refl

abbrev the_ask : goal.After-self-2-1 → Ask
the_ask c = record { client = c.args.client; vol = c.args.vol; at = c.args.at; count = c.args.count; write = is_some (option_copied c.args.bytes); place = length c.self.inside.blocks.items }

adds_row : (c : goal.After-self-2-1) → BeginsRow (kept_of c.self.inside) (new c) (the_ask c) (blocks_first c.args.count (option_copied c.args.bytes))
adds_row c = record {
  its_rows = c.append-2.ensures.items ∙ ap (λ (n : ℕ). c.self.inside.rows.items ++ row.Begun n ∷ []) (omega (arith, c.append.ensures.len, c.len-id.ensures, c.self.inside.asks.ok.0));
  its_asks = c.append.ensures.items
      ∙ ap (λ (t : Bool). c.self.inside.asks.items ++ record { client = c.args.client; vol = c.args.vol; at = c.args.at; count = c.args.count; write = t; place = c.len-place.result } ∷ []) (c.is_some.ensures ∙ is_given c.args.bytes)
      ∙ ap (λ (n : ℕ). c.self.inside.asks.items ++ record { client = c.args.client; vol = c.args.vol; at = c.args.at; count = c.args.count; write = is_some (option_copied c.args.bytes); place = n } ∷ []) (omega (arith, c.len-place.ensures, c.self.inside.blocks.ok.0));
  its_blocks = c.append_given.ensures.items;
  rest = refl;
  more_rows = c.append-2.ensures.capacity;
  more_asks = c.append.ensures.capacity;
  more_blocks = c.append_given.ensures.capacity;
}

adds : (c : goal.After-self-2-1) → Adds c.args.self.now (new c) (Begun (next_request c.args.self.now c.args.client c.args.vol c.args.at c.args.count (option_copied c.args.bytes)))
adds c = begun_adds (kept_of c.self.inside) (new c) c.args.self.now c.args.client c.args.vol c.args.at c.args.count (option_copied c.args.bytes) c.self.invariant.kept c.self.view_is c.requires.entries c.requires.bytes c.requires.some c.requires.last
    (adds_row c)

pub append_given-requires-clause-room : goal.append_given-requires-clause-room
append_given-requires-clause-room c = let room = room_to_begin (kept_of c.self.inside) c.args.self.now c.args.count c.self.invariant.kept c.self.view_is c.requires.entries c.requires.bytes c.requires.some in let blocks = room.for_blocks in omega (arith, blocks, c.self.inside.blocks.ok.0)

pub append-requires : goal.append-requires
append-requires c = let room = room_to_begin (kept_of c.self.inside) c.args.self.now c.args.count c.self.invariant.kept c.self.view_is c.requires.entries c.requires.bytes c.requires.some in let asks = room.for_ask in omega (arith, asks, c.self.inside.asks.ok.0)

pub append-requires-2 : goal.append-requires-2
append-requires-2 c = let room = room_to_begin (kept_of c.self.inside) c.args.self.now c.args.count c.self.invariant.kept c.self.view_is c.requires.entries c.requires.bytes c.requires.some in let rows = room.for_row in omega (arith, rows, c.self.inside.rows.ok.0)

pub begin-requires : goal.begin-requires
begin-requires c =
    let room = room_to_begin (tight (kept_of c.self.inside)) c.args.self.now c.args.count (tight_sound (kept_of c.self.inside) c.self.invariant.kept) c.self.view_is c.requires.entries c.requires.bytes c.requires.some in
    let asks = room.for_ask in
    subst (λ (n : ℕ). length c.self.inside.index.steps < n / 3) (sym c.self.invariant.index_fits) (let count = c.self.invariant.indexed.count in omega (arith, asks, count))

pub add-requires-clause-room : goal.add-requires-clause-room
add-requires-clause-room c =
    let room = room_to_begin (tight (kept_of c.self.inside)) c.args.self.now c.args.count (tight_sound (kept_of c.self.inside) c.self.invariant.kept) c.self.view_is c.requires.entries c.requires.bytes c.requires.some in
    let rows = room.for_row in
    omega (arith, rows, chains_count c.self.inside.index c.self.inside.asks.items c.self.inside.rows.items c.self.invariant.indexed, c.self.invariant.index_fits, ap (λ (x : Indexed). length x.chains) c.begin.ensures, ap (λ (x : Indexed). x.room) c.begin.ensures)

pub invariant_of-self : goal.invariant_of-self
invariant_of-self c = record {
  kept = (adds c).sound;
  indexed = rw (c.add.ensures, c.begin.ensures, c.chain_of.ensures.chain, (adds_row c).its_rows, (adds_row c).its_asks)
      (begun_indexed c.self.inside.index c.self.inside.asks.items c.self.inside.rows.items (the_ask c) c.requires.group c.self.invariant.indexed);
  index_fits = ap (λ (x : Indexed). x.room) c.add.ensures ∙ ap (λ (x : Indexed). x.room) c.begin.ensures ∙ c.self.invariant.index_fits;
}

pub returns-clause-id : goal.returns-clause-id
returns-clause-id c = let next = next_number (kept_of c.self.inside) c.args.self.now c.self.invariant.kept c.self.view_is in omega (arith, next, c.append.ensures.len, c.len-id.ensures, c.self.inside.asks.ok.0)

pub returns-clause-entered : goal.returns-clause-entered
returns-clause-entered c = (adds c).shown

pub returns-clause-opened : goal.returns-clause-opened
returns-clause-opened c =
    let next = next_number (kept_of c.self.inside) c.args.self.now c.self.invariant.kept c.self.view_is in
    let is : c.len-id.result ≡ next_id c.args.self.now = omega (arith, next, c.append.ensures.len, c.len-id.ensures, c.self.inside.asks.ok.0) in
    let found = begun_found (kept_of c.self.inside) (new c) c.args.self.now c.args.client c.args.vol c.args.at c.args.count (option_copied c.args.bytes) c.self.invariant.kept c.self.view_is c.requires.last (adds c) in
    subst (λ (n : ℕ). is_open (log_of (new c)).facts n ≡ true) (sym is) found.0

pub returns-clause-named : goal.returns-clause-named
returns-clause-named c =
    let next = next_number (kept_of c.self.inside) c.args.self.now c.self.invariant.kept c.self.view_is in
    let is : c.len-id.result ≡ next_id c.args.self.now = omega (arith, next, c.append.ensures.len, c.len-id.ensures, c.self.inside.asks.ok.0) in
    let found = begun_found (kept_of c.self.inside) (new c) c.args.self.now c.args.client c.args.vol c.args.at c.args.count (option_copied c.args.bytes) c.self.invariant.kept c.self.view_is c.requires.last (adds c) in
    subst (λ (n : ℕ). asked (log_of (new c)).facts n ≡ Some (next_request c.args.self.now c.args.client c.args.vol c.args.at c.args.count (option_copied c.args.bytes))) (sym is) found.1
