-- A history's fields as what it keeps.
use Rattle.std.specs.Prelude.{◌≡◌, vec_capacity}
use Rattle.lvm_history.specs.declared.history.History.TheInside.{Inside}
use Rattle.lvm_history.specs.passed.Vol.{Log}
use Rattle.lvm_history.specs.Keeping.{Holdings, log_of, IsSound}
use Rattle.lvm_chains.specs.Places.{IsIndexOf}

abbrev pub kept_of : Inside → Holdings
kept_of h = record {
  run = h.run;
  room = h.room;
  bytes = h.bytes;
  rows = h.rows.items;
  asks = h.asks.items;
  blocks = h.blocks.items;
  need_now = h.needed;
  uncut = h.uncut;
  rows_room = vec_capacity h.rows;
  asks_room = vec_capacity h.asks;
  blocks_room = vec_capacity h.blocks;
}

abbrev pub log_shown : Inside → Log
log_shown h = log_of (kept_of h)

pub record IsInOrder (h : Inside) : Type 0 where
  pub kept : IsSound (kept_of h)
  pub indexed : IsIndexOf h.index h.asks.items h.rows.items
  pub index_fits : h.index.room ≡ h.room
