-- A pin that a request gives up leaves the cache its entries.
use Rattle.std.proofs.Common.{◌≡◌, ℕ, ◌-◌, Bool, true, false, ◌||◌, if◌then◌else◌, List, [], ◌∷◌, refl, ap}
use Rattle.lvm_mwc.specs.declared.entries.CacheEntry.{CacheEntry}
use Rattle.lvm_mwc.specs.Entries.{has_entry, is_entry, with_unpin}
use Rattle.lvm_mwc.specs.Cache.{Cached, after_unpin}
use Rattle.lvm_path.specs.declared.request.Request.{Request}
use Rattle.lvm_path.specs.Asks.{lv_of}
use Rattle.lvm_session.specs.Judging.{group_of}
use Rattle.lvm_session.specs.Events.{without_pin}

pub cache_is : (cache : Cached) (r : Request) → without_pin cache r ≡ record cache { entries = (without_pin cache r).entries }
cache_is cache r = by r.pinned
  where
    by : (b : Bool) → (if b then after_unpin cache (lv_of r.ask) (group_of r.ask) else cache) ≡ record cache { entries = (if b then after_unpin cache (lv_of r.ask) (group_of r.ask) else cache).entries }
    by true = refl
    by false = refl

unpinned : (es : List CacheEntry) (l n lv g : ℕ) → has_entry (with_unpin es l n) lv g ≡ has_entry es lv g
unpinned [] l n lv g = refl
unpinned (e ∷ es) l n lv g = by (is_entry l n e) (unpinned es l n lv g)
  where
    by : (b : Bool) → has_entry (with_unpin es l n) lv g ≡ has_entry es lv g
        → has_entry (if b then record e { pins = e.pins - 1 } ∷ es else e ∷ with_unpin es l n) lv g ≡ has_entry (e ∷ es) lv g
    by true rest = refl
    by false rest = ap (λ b. is_entry lv g e || b) rest

pub entries_stay : (cache : Cached) (r : Request) (lv g : ℕ) → has_entry (without_pin cache r).entries lv g ≡ has_entry cache.entries lv g
entries_stay cache r lv g = by r.pinned
  where
    by : (b : Bool) → has_entry (if b then after_unpin cache (lv_of r.ask) (group_of r.ask) else cache).entries lv g ≡ has_entry cache.entries lv g
    by true = unpinned cache.entries (lv_of r.ask) (group_of r.ask) lv g
    by false = refl
