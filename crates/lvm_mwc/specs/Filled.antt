-- A map of 62 keys in the order of the last pin, of which those of volume number 0, the fillers, aren't entries.
use Rattle.std.specs.Prelude.{◌≡◌, ◌≢◌, ◌==◌, ◌+◌, ◌||◌, ℕ, Bool, not, List, [], ◌∷◌, ◌++◌, Option, length, filter, position, if◌then◌else◌}
use Rattle.std.specs.List.{list_any}
use Rattle.std.specs.Option.{option_or}
use Rattle.lvm_mwc.specs.declared.entries.CacheEntry.{CacheEntry}
use Rattle.lvm_mwc.specs.declared.cache.Pin.{Pin}
use Rattle.lvm_mwc.specs.declared.cache.Pin.TheVariants.{Pinned, AllPinned}
use Rattle.lvm_mwc.specs.Firsts.{without_first}
use Rattle.lvm_mwc.specs.Entries.{has_entry, pins_of, is_entry, is_unpinned, are_all_pinned, with_pin, with_unpin}

-- ---- any list of entries

-- what a call for a pin answers
abbrev pub answer_in : List CacheEntry → ℕ → ℕ → Pin
answer_in entries lv group = if are_all_pinned entries lv group then AllPinned else Pinned

-- the entries after it
abbrev pub after_pin_in : List CacheEntry → ℕ → ℕ → List CacheEntry
after_pin_in entries lv group = if are_all_pinned entries lv group then entries else with_pin entries lv group

-- ---- the keys of the map

abbrev pub is_filler : CacheEntry → Bool
is_filler e = e.lv == 0

abbrev pub is_kept : CacheEntry → Bool
is_kept e = not (is_filler e)

-- its entries
abbrev pub listed : List CacheEntry → List CacheEntry
listed map = filter is_kept map

-- a key with a pin more
abbrev pub with_pin_more : CacheEntry → CacheEntry
with_pin_more e = record e { pins = e.pins + 1 }

-- no key
abbrev pub blank : CacheEntry
blank = record { lv = 0; group = 0; pins = 0 }

abbrev pub new_last : List CacheEntry → ℕ → ℕ → ℕ → List CacheEntry
new_last map lv group pins = map ++ record { lv = lv; group = group; pins = pins } ∷ []

-- the place that a new key takes: that of the first filler, else that of the first without pins
abbrev pub place_to_take : List CacheEntry → Option ℕ
place_to_take map = option_or (position is_filler map) (position is_unpinned map)

-- a key that is there goes to the end with a pin more; a new one takes the place of the first filler, else that of
-- the first without pins
abbrev pub pinned : List CacheEntry → ℕ → ℕ → List CacheEntry
pinned map lv group =
    if has_entry map lv group then new_last (without_first (is_entry lv group) map) lv group (pins_of map lv group + 1)
    else (if list_any is_filler map then new_last (without_first is_filler map) lv group 1
    else (if list_any is_unpinned map then new_last (without_first is_unpinned map) lv group 1 else map))

-- whether a key may be pinned
abbrev pub pinned_answer : List CacheEntry → ℕ → ℕ → Pin
pinned_answer map lv group = if has_entry map lv group || list_any is_filler map || list_any is_unpinned map then Pinned else AllPinned

-- ---- laws

-- A pin in the full map is a pin in the list of its entries.
abbrev pub FullMapPins : Type 0
FullMapPins = (map : List CacheEntry) (lv group : ℕ) → lv ≢ 0 → length map ≡ 62 → listed (pinned map lv group) ≡ after_pin_in (listed map) lv group

-- It is answered as there.
abbrev pub FullMapAnswers : Type 0
FullMapAnswers = (map : List CacheEntry) (lv group : ℕ) → lv ≢ 0 → length map ≡ 62 → pinned_answer map lv group ≡ answer_in (listed map) lv group

-- Its pins are those of the list.
abbrev pub FullMapFinds : Type 0
FullMapFinds = (map : List CacheEntry) (lv group : ℕ) → lv ≢ 0 → pins_of map lv group ≡ pins_of (listed map) lv group

-- An unpin in the map is one in the list.
abbrev pub FullMapUnpins : Type 0
FullMapUnpins = (map : List CacheEntry) (lv group : ℕ) → lv ≢ 0 → listed (with_unpin map lv group) ≡ with_unpin (listed map) lv group
