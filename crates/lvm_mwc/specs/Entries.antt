-- The entries of a cache, in the order of their last pin, oldest first.
use Rattle.std.specs.Prelude.{◌≡◌, ◌+◌, ◌-◌, ◌≤◌, ◌<◌, ◌==◌, ◌&&◌, ℕ, Option, Some, None, OnSome, Bool, false, not, List, [], ◌∷◌, ◌++◌, length, map, find, count_by, All, nat_lt, if◌then◌else◌}
use Rattle.std.specs.List.{list_any}
use Rattle.std.specs.Option.{option_map_or}
use Rattle.lvm_num.specs.declared.record.NoteEntry.{NoteEntry}
use Rattle.lvm_num.specs.Note.{IsEntry}
use Rattle.lvm_mwc.specs.declared.entries.CacheEntry.{CacheEntry}
use Rattle.lvm_mwc.specs.Firsts.{without_first, with_first}

-- whether it is the entry of this track group
abbrev pub is_entry : ℕ → ℕ → CacheEntry → Bool
is_entry lv group e = e.lv == lv && e.group == group

-- whether the track group stands in the cache
abbrev pub has_entry : List CacheEntry → ℕ → ℕ → Bool
has_entry entries lv group = list_any (is_entry lv group) entries

-- how many pins it has, 0 where it doesn't stand there
abbrev pub pins_of : List CacheEntry → ℕ → ℕ → ℕ
pins_of entries lv group = option_map_or (λ (e : CacheEntry). e.pins) (find (is_entry lv group) entries) 0

-- whether no write holds it
abbrev pub is_unpinned : CacheEntry → Bool
is_unpinned e = e.pins == 0

-- what a note of the cache names: the whole of it
abbrev pub note_of : List CacheEntry → List NoteEntry
note_of entries = map (λ (e : CacheEntry). let named : NoteEntry = record { lv = e.lv; group = e.group } in named) entries

-- No pin of the track group is possible: it isn't there, and 62 entries have pins.
abbrev pub are_all_pinned : List CacheEntry → ℕ → ℕ → Bool
are_all_pinned entries lv group = not (has_entry entries lv group) && count_by (λ e. not (is_unpinned e)) entries == 62

-- The entries beside which the track group is put last: all but its own one, where it has one; all, where a
-- place is free; else all but the first without pins.
abbrev pub room_for : List CacheEntry → ℕ → ℕ → List CacheEntry
room_for entries lv group =
    if has_entry entries lv group then without_first (is_entry lv group) entries
    else (if nat_lt (length entries) 62 then entries else without_first is_unpinned entries)

-- room is made for the track group, where it may be
pub record MakesRoom (old new : List CacheEntry) (lv group : ℕ) (pins : Option ℕ) : Type 0 where
  pub answer : pins ≡ (if are_all_pinned old lv group then None else Some (pins_of old lv group))
  pub room : new ≡ (if are_all_pinned old lv group then old else room_for old lv group)
  pub free : OnSome pins (length new < 62)

-- the entries after a pin
abbrev pub with_pin : List CacheEntry → ℕ → ℕ → List CacheEntry
with_pin entries lv group = room_for entries lv group ++ record { lv = lv; group = group; pins = pins_of entries lv group + 1 } ∷ []

-- the entries after an unpin
abbrev pub with_unpin : List CacheEntry → ℕ → ℕ → List CacheEntry
with_unpin entries lv group = with_first (is_entry lv group) (λ e. record e { pins = e.pins - 1 }) entries

-- no track group stands twice
abbrev pub Differ : List CacheEntry → Type 0
Differ [] = Unit {0}
Differ (e ∷ es) = (has_entry es e.lv e.group ≡ false) × Differ es

-- at most 62, of different track groups, each of which counts in a note
pub record AreEntries (entries : List CacheEntry) : Type 0 where
  pub most : length entries ≤ 62
  pub differ : Differ entries
  pub counting : All IsEntry (note_of entries)
