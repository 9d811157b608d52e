-- A cache after a pin and after an unpin.
use Rattle.std.proofs.Common.{◌≡◌, ◌≢◌, ◌<◌, ◌^◌, ℕ, Bool, true, false, cond, List, refl}
use Rattle.lvm_mwc.specs.declared.entries.CacheEntry.{CacheEntry}
use Rattle.lvm_mwc.specs.Entries.{are_all_pinned, room_for, with_pin, AreEntries}
use Rattle.lvm_mwc.specs.Filled.{after_pin_in}
use Rattle.lvm_mwc.specs.Cache.{Cached, after_pin}
use Rattle.lvm_mwc.proofs.EntriesLemmas.Entries.{has_place, pinned_entries}
use Rattle.lvm_mwc.proofs.CacheLemmas.{cached}

pub pin_keeps : (es : List CacheEntry) (lv group : ℕ) → AreEntries es → lv ≢ 0 → lv < 2 ^ 16 → group < 2 ^ 32 → AreEntries (after_pin_in es lv group)
pin_keeps es lv group are some low_lv low_group = by (are_all_pinned es lv group) refl
  where
    by : (t : Bool) → are_all_pinned es lv group ≡ t → AreEntries (cond t es (with_pin es lv group))
    by true is = are
    by false is = pinned_entries es (room_for es lv group) lv group are (record { some_lv = some; lv = low_lv; group = low_group }) refl (has_place es lv group are is)

-- the cache's entries are those after the pin
pub pinned_cache : (c : Cached) (lv group : ℕ) → cached (after_pin_in c.entries lv group) c.notes ≡ after_pin c lv group
pinned_cache c lv group = by (are_all_pinned c.entries lv group)
  where
    by : (t : Bool) → cached (cond t c.entries (with_pin c.entries lv group)) c.notes ≡ cond t c (record c { entries = with_pin c.entries lv group })
    by true = refl
    by false = refl
