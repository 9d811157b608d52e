-- The pins of a track group through calls of a cache.
use Rattle.std.proofs.Common.{◌≡◌, ◌<◌, ◌+◌, ◌&&◌, ◌==◌, not, ℕ, List, [], ◌∷◌, Some, None, Option, Bool, true, false, cond, nat_lt, length, refl, sym, ◌∙◌, ap, arith, option_map, inl, inr}
use Rattle.std.specs.List.{find}
use Rattle.std.specs.Option.{option_map_or, option_or}
use Rattle.std.proofs.lemmas.Bool.{and_parts, cases_Bool, eqb-true, eq-eqb}
use Rattle.std.proofs.lemmas.List.Folds.{find-append}
use Rattle.lvm_num.specs.Note.{IsEntry}
use Rattle.lvm_mwc.specs.declared.entries.CacheEntry.{CacheEntry}
use Rattle.lvm_mwc.specs.Firsts.{without_first}
use Rattle.lvm_mwc.specs.Entries.{is_entry, is_unpinned, has_entry, pins_of, are_all_pinned, room_for, with_pin, with_unpin, note_of, Differ, AreEntries}
use Rattle.lvm_mwc.specs.Notes.{names_group}
use Rattle.lvm_mwc.specs.Cache.{Cached}
use Rattle.lvm_mwc.specs.Runs.{Call, Pins, Unpins, StartsNote, NoteEnds, IsAllowed, AreAllowed, after, after_all, pins_in, unpins_in, pins_given, pins_taken}
use Rattle.lvm_mwc.proofs.FirstsLemmas.{none_passes, find-without, find-with, find-with_other}
use Rattle.lvm_mwc.proofs.EntriesLemmas.Entries.{less, is_entry-same, room_differs, pinned_entries, unpinned_entries, has_place}

abbrev pins_at : Option CacheEntry → ℕ
pins_at o = option_map_or (λ (e : CacheEntry). e.pins) o 0

pins_none : (es : List CacheEntry) (lv group : ℕ) → has_entry es lv group ≡ false → pins_of es lv group ≡ 0
pins_none es lv group none = ap pins_at (none_passes (is_entry lv group) es none).found

-- ---- an entry that is put out had no pins

put_out_test : (unpinned own : Bool) (e : CacheEntry) (es : List CacheEntry) (lv group : ℕ) → is_unpinned e ≡ unpinned → is_entry lv group e ≡ own → has_entry es e.lv e.group ≡ false
    → pins_of (without_first is_unpinned es) lv group ≡ pins_of es lv group → pins_of (cond unpinned es (e ∷ without_first is_unpinned es)) lv group ≡ pins_of (e ∷ es) lv group
put_out_test true true e es lv group unpinned own others rest =
    let same = is_entry-same lv group e own in
    let none : has_entry es lv group ≡ false = rw (← same.0, ← same.1) others in
    rw own (pins_none es lv group none ∙ sym (eqb-true e.pins 0 unpinned))
put_out_test true false e es lv group unpinned own others rest = rw own refl
put_out_test false true e es lv group unpinned own others rest = rw own refl
put_out_test false false e es lv group unpinned own others rest = rw own rest

pins-put_out : (es : List CacheEntry) (lv group : ℕ) → Differ es → pins_of (without_first is_unpinned es) lv group ≡ pins_of es lv group
pins-put_out [] lv group differ = refl
pins-put_out (e ∷ es) lv group differ = put_out_test (is_unpinned e) (is_entry lv group e) e es lv group refl refl differ.0 (pins-put_out es lv group differ.1)

-- ---- a pin

other_entry : (l g lv group : ℕ) → (l == lv && g == group) ≡ false → (e : CacheEntry) → is_entry l g e ≡ true → is_entry lv group e ≡ false
other_entry l g lv group other e own = let same = is_entry-same l g e own in rw (same.0, same.1) other

pins_room : (own place : Bool) (es : List CacheEntry) (l g lv group : ℕ) → (l == lv && g == group) ≡ false → Differ es
    → pins_of (cond own (without_first (is_entry l g) es) (cond place es (without_first is_unpinned es))) lv group ≡ pins_of es lv group
pins_room true place es l g lv group other differ = ap pins_at (find-without (is_entry lv group) (is_entry l g) es (other_entry l g lv group other))
pins_room false true es l g lv group other differ = refl
pins_room false false es l g lv group other differ = pins-put_out es lv group differ

first_or_none : (o : Option CacheEntry) → option_or o None ≡ o
first_or_none None = refl
first_or_none (Some e) = refl

pins-with_pin_other : (es : List CacheEntry) (l g lv group : ℕ) → (l == lv && g == group) ≡ false → Differ es → pins_of (with_pin es l g) lv group ≡ pins_of es lv group
pins-with_pin_other es l g lv group other differ =
    let e : CacheEntry = record { lv = l; group = g; pins = pins_of es l g + 1 } in
    let kept : find (is_entry lv group) (with_pin es l g) ≡ find (is_entry lv group) (room_for es l g) = find-append (is_entry lv group) (room_for es l g) (e ∷ []) ∙ rw other (first_or_none (find (is_entry lv group) (room_for es l g))) in
    ap pins_at kept
    ∙ pins_room (has_entry es l g) (nat_lt (length es) 62) es l g lv group other differ

pins-with_pin_same : (es : List CacheEntry) (lv group : ℕ) → Differ es → pins_of (with_pin es lv group) lv group ≡ pins_of es lv group + 1
pins-with_pin_same es lv group differ =
    let e : CacheEntry = record { lv = lv; group = group; pins = pins_of es lv group + 1 } in
    let none : find (is_entry lv group) (room_for es lv group) ≡ None = (none_passes (is_entry lv group) (room_for es lv group) (room_differs es lv group differ).0).found in
    let is_lv : (lv == lv) ≡ true = eq-eqb lv lv refl in
    let is_group : (group == group) ≡ true = eq-eqb group group refl in
    let last : find (is_entry lv group) (with_pin es lv group) ≡ Some e = find-append (is_entry lv group) (room_for es lv group) (e ∷ []) ∙ rw (none, is_lv, is_group) refl in
    ap pins_at last

after_a_pin : (all own : Bool) (c : Cached) (l g lv group : ℕ) → (l == lv && g == group) ≡ own → Differ c.entries
    → pins_of (cond all c (record c { entries = with_pin c.entries l g })).entries lv group + 0 ≡ pins_of c.entries lv group + cond (own && not all) 1 0
after_a_pin true true c l g lv group is differ = refl
after_a_pin true false c l g lv group is differ = refl
after_a_pin false false c l g lv group is differ = ap (λ n. n + 0) (pins-with_pin_other c.entries l g lv group is differ)
after_a_pin false true c l g lv group is differ =
    let both = and_parts (l == lv) (g == group) is in
    let same_lv : l ≡ lv = eqb-true l lv both.0 in
    let same_group : g ≡ group = eqb-true g group both.1 in
    rw (same_lv, same_group) (omega (arith, pins-with_pin_same c.entries lv group differ))

-- ---- an unpin

less_by_one : (o : Option CacheEntry) → 0 < pins_at o → pins_at (option_map less o) + 1 ≡ pins_at o
less_by_one None some = absurd (omega arith)
less_by_one (Some e) some = omega arith

after_an_unpin : (own : Bool) (es : List CacheEntry) (l g lv group : ℕ) → (l == lv && g == group) ≡ own → 0 < pins_of es l g → pins_of (with_unpin es l g) lv group + cond own 1 0 ≡ pins_of es lv group + 0
after_an_unpin true es l g lv group is some =
    let both = and_parts (l == lv) (g == group) is in
    let same_lv : l ≡ lv = eqb-true l lv both.0 in
    let same_group : g ≡ group = eqb-true g group both.1 in
    let its : 0 < pins_of es lv group = rw (← same_lv, ← same_group) some in
    let changed : pins_of (with_unpin es lv group) lv group ≡ pins_at (option_map less (find (is_entry lv group) es)) = ap pins_at (find-with (is_entry lv group) less es (λ e own. own)) in
    rw (same_lv, same_group) (omega (arith, changed, less_by_one (find (is_entry lv group) es) its))
after_an_unpin false es l g lv group is some =
    ap (λ n. n + 0) (ap pins_at (find-with_other (is_entry lv group) (is_entry l g) less es (λ e own. let it = other_entry l g lv group is e own in (it, it))))

-- ---- one call, and any

pub pins_after : (c : Cached) (call : Call) (lv group : ℕ) → AreEntries c.entries → IsAllowed c call → pins_of (after c call).entries lv group + unpins_in call lv group ≡ pins_of c.entries lv group + pins_in c call lv group
pins_after c (Pins l g) lv group are allowed = after_a_pin (are_all_pinned c.entries l g) (l == lv && g == group) c l g lv group refl are.differ
pins_after c (Unpins l g) lv group are allowed = after_an_unpin (l == lv && g == group) c.entries l g lv group refl allowed
pins_after c (StartsNote disk) lv group are allowed = refl
pins_after c (NoteEnds disk ok) lv group are allowed = refl

entries_after_pin : (all : Bool) (c : Cached) (l g : ℕ) → are_all_pinned c.entries l g ≡ all → AreEntries c.entries → IsEntry (record { lv = l; group = g }) → AreEntries (cond all c (record c { entries = with_pin c.entries l g })).entries
entries_after_pin true c l g is are its = are
entries_after_pin false c l g is are its = pinned_entries c.entries (room_for c.entries l g) l g are its refl (has_place c.entries l g are is)

pub entries_after : (c : Cached) (call : Call) → AreEntries c.entries → IsAllowed c call → AreEntries (after c call).entries
entries_after c (Pins l g) are allowed = entries_after_pin (are_all_pinned c.entries l g) c l g refl are allowed.0
entries_after c (Unpins l g) are allowed = unpinned_entries c.entries l g are
entries_after c (StartsNote disk) are allowed = are
entries_after c (NoteEnds disk ok) are allowed = are

pub entries_after_all : (c : Cached) (calls : List Call) → AreEntries c.entries → AreAllowed c calls → AreEntries (after_all c calls).entries
entries_after_all c [] are allowed = are
entries_after_all c (call ∷ calls) are allowed = entries_after_all (after c call) calls (entries_after c call are allowed.0) allowed.1

pub pins_after_all : (c : Cached) (calls : List Call) (lv group : ℕ) → AreEntries c.entries → AreAllowed c calls
    → pins_of (after_all c calls).entries lv group + pins_taken calls lv group ≡ pins_of c.entries lv group + pins_given c calls lv group
pins_after_all c [] lv group are allowed = refl
pins_after_all c (call ∷ calls) lv group are allowed =
    let one = pins_after c call lv group are allowed.0 in
    let rest = pins_after_all (after c call) calls lv group (entries_after c call are allowed.0) allowed.1 in
    omega (arith, one, rest)

pub pinned_is_there : (es : List CacheEntry) (lv group : ℕ) → 0 < pins_of es lv group → has_entry es lv group ≡ true
pinned_is_there es lv group some = elim (cases_Bool (has_entry es lv group)) [
  | inl there ↦ there
  | inr none ↦ absurd (omega (arith, pins_none es lv group none))
]

pub stays : (c : Cached) (calls : List Call) (lv group : ℕ) → AreEntries c.entries → AreAllowed c calls → pins_taken calls lv group < pins_of c.entries lv group → has_entry (after_all c calls).entries lv group ≡ true
stays c calls lv group are allowed fewer = pinned_is_there (after_all c calls).entries lv group (omega (arith, pins_after_all c calls lv group are allowed))

-- a note of the cache names what stands in it
pub note-names : (es : List CacheEntry) (lv group : ℕ) → names_group (note_of es) lv group ≡ has_entry es lv group
note-names [] lv group = refl
note-names (e ∷ es) lv group = rw (note-names es lv group) refl
