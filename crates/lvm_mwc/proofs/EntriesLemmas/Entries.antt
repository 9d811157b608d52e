-- The entries of a cache after a pin and after an unpin.
use Rattle.std.proofs.Common.{◌≡◌, ◌≢◌, ◌^◌, ◌<◌, ◌≤◌, ◌+◌, ◌-◌, ◌++◌, ◌||◌, ◌&&◌, ◌==◌, not, ℕ, suc, List, [], ◌∷◌, Some, None, Option, Bool, true, false, cond, nat_lt, length, get_or, set, refl, sym, ◌∙◌, ap, arith, count_by}
use Rattle.std.specs.List.{list_any, position, remove, refill, All}
use Rattle.std.specs.Option.{option_map_or}
use Rattle.std.proofs.lemmas.Bool.{and_parts, and_right, or_parts, or_from, lt-ltb, le-ltb, eqb-true, ne_eqb, eqb-false, ltb-true, ltb-false}
use Rattle.std.proofs.lemmas.List.{append-nil, length-set, length-append, take_all}
use Rattle.std.proofs.lemmas.List.Sums.{count_by-le-length}
use Rattle.std.proofs.Math.Seq.{drop-length}
use Rattle.std.proofs.lemmas.List.Elements.{All-nil, All-cons, All-head, All-tail, All-push, All-map}
use Rattle.lvm_num.specs.declared.record.NoteEntry.{NoteEntry}
use Rattle.lvm_num.specs.Note.{IsEntry}
use Rattle.lvm_num.proofs.Booleans.{same_turned}
use Rattle.lvm_mwc.specs.declared.entries.CacheEntry.{CacheEntry}
use Rattle.lvm_mwc.specs.Firsts.{without_first, with_first}
use Rattle.lvm_mwc.specs.Entries.{is_entry, is_unpinned, has_entry, pins_of, are_all_pinned, room_for, with_pin, with_unpin, note_of, Differ, AreEntries, MakesRoom}
use Rattle.lvm_mwc.proofs.FirstsLemmas.{IsFirstAt, first_at, NonePasses, none_at, count_some, count_none, any-without, any-with, length-with, All-without, All-with}

-- two tests for one track group
pub is_entry-same : (lv group : ℕ) (e : CacheEntry) → is_entry lv group e ≡ true → (e.lv ≡ lv) × (e.group ≡ group)
is_entry-same lv group e is = let both = and_parts (e.lv == lv) (e.group == group) is in (eqb-true e.lv lv both.0, eqb-true e.group group both.1)

is_entry-turn : (e f : CacheEntry) → is_entry e.lv e.group f ≡ is_entry f.lv f.group e
is_entry-turn e f = rw (same_turned f.lv e.lv, same_turned f.group e.group) refl

-- ---- room

pins_at : (es : List CacheEntry) (lv group k : ℕ) (d : CacheEntry) → IsFirstAt (is_entry lv group) es d k → pins_of es lv group ≡ (get_or es k d).pins
pins_at es lv group k d first = ap (λ (o : Option CacheEntry). option_map_or (λ (e : CacheEntry). e.pins) o 0) first.found

pub few_left : (es now new : List CacheEntry) (k : ℕ) → now ≡ es → length now ≤ 62 → new ≡ remove es k → length new + 1 ≡ length es → length (remove es k) < 62
few_left es now new k same most is less = rw (← is) (omega (arith, ap length same, most, less))

pub room_own : (es : List CacheEntry) (lv group k : ℕ) (e : CacheEntry) → position (is_entry lv group) es ≡ Some k → e ≡ get_or es k e → length (remove es k) < 62 → MakesRoom es (remove es k) lv group (Some e.pins)
room_own es lv group k e at is few =
    let first : IsFirstAt (is_entry lv group) es e k = first_at (is_entry lv group) es e k at in
    let own : has_entry es lv group ≡ true = first.any in
    record {
      answer = rw own (ap (λ (x : ℕ). Some x) (ap (λ (x : CacheEntry). x.pins) is ∙ sym (pins_at es lv group k e first)));
      room = rw own first.removed;
      free = few;
    }

some_free : (es : List CacheEntry) (lv group : ℕ) → count_by (λ e. not (is_unpinned e)) es < 62 → are_all_pinned es lv group ≡ false
some_free es lv group few = and_right (not (has_entry es lv group)) (count_by (λ e. not (is_unpinned e)) es == 62) (ne_eqb (count_by (λ e. not (is_unpinned e)) es) 62 (λ same. absurd (omega arith)))

no_pins : (es : List CacheEntry) (lv group : ℕ) → NonePasses (is_entry lv group) es → pins_of es lv group ≡ 0
no_pins es lv group none = ap (λ (o : Option CacheEntry). option_map_or (λ (e : CacheEntry). e.pins) o 0) none.found

pub room_free : (es : List CacheEntry) (lv group : ℕ) → position (is_entry lv group) es ≡ None → length es < 62 → MakesRoom es es lv group (Some 0)
room_free es lv group at few =
    let none : NonePasses (is_entry lv group) es = none_at (is_entry lv group) es at in
    let free : are_all_pinned es lv group ≡ false = some_free es lv group (omega (arith, count_by-le-length (λ e. not (is_unpinned e)) es)) in
    let not_own : has_entry es lv group ≡ false = none.any in
    let place : nat_lt (length es) 62 ≡ true = lt-ltb (length es) 62 few in
    record {
      answer = rw free (ap (λ (x : ℕ). Some x) (sym (no_pins es lv group none)));
      room = rw free (rw (not_own, place) refl);
      free = few;
    }

pub room_put_out : (es : List CacheEntry) (lv group k : ℕ) → position (is_entry lv group) es ≡ None → 62 ≤ length es → length es ≤ 62 → position is_unpinned es ≡ Some k → length (remove es k) < 62 → (d : CacheEntry) → MakesRoom es (remove es k) lv group (Some 0)
room_put_out es lv group k at full most unpinned few d =
    let none : NonePasses (is_entry lv group) es = none_at (is_entry lv group) es at in
    let first : IsFirstAt is_unpinned es d k = first_at is_unpinned es d k unpinned in
    let free : are_all_pinned es lv group ≡ false = some_free es lv group (omega (arith, count_some is_unpinned es first.any)) in
    let not_own : has_entry es lv group ≡ false = none.any in
    let no_place : nat_lt (length es) 62 ≡ false = le-ltb (length es) 62 full in
    record {
      answer = rw free (ap (λ (x : ℕ). Some x) (sym (no_pins es lv group none)));
      room = rw free (rw (not_own, no_place) first.removed);
      free = few;
    }

pub room_none : (es : List CacheEntry) (lv group : ℕ) → position (is_entry lv group) es ≡ None → length es ≡ 62 → position is_unpinned es ≡ None → MakesRoom es es lv group None
room_none es lv group at full unpinned =
    let none : NonePasses (is_entry lv group) es = none_at (is_entry lv group) es at in
    let pinned : NonePasses is_unpinned es = none_at is_unpinned es unpinned in
    let not_own : has_entry es lv group ≡ false = none.any in
    let count : count_by (λ e. not (is_unpinned e)) es ≡ 62 = count_none is_unpinned es pinned.any ∙ full in
    let all : are_all_pinned es lv group ≡ true = rw (not_own, count) refl in
    record { answer = rw all refl; room = rw all refl; free = tt }

-- ---- what a pin answers

none_test : (test : Bool) (pins : ℕ) → None ≡ cond test None (Some pins) → test ≡ true
none_test true pins is = refl
none_test false pins is = cc

some_test : (test : Bool) (pins had : ℕ) → Some pins ≡ cond test None (Some had) → (test ≡ false) × (pins ≡ had)
some_test true pins had is = cc
some_test false pins had is = (refl, cc)

pub all_pinned : (es new : List CacheEntry) (lv group : ℕ) → MakesRoom es new lv group None → (are_all_pinned es lv group ≡ true) × (new ≡ es)
all_pinned es new lv group room =
    let all : are_all_pinned es lv group ≡ true = none_test (are_all_pinned es lv group) (pins_of es lv group) room.answer in
    (all, rw all at room.room)

pub has_room : (es new : List CacheEntry) (lv group pins : ℕ) → MakesRoom es new lv group (Some pins) → (are_all_pinned es lv group ≡ false) × (pins ≡ pins_of es lv group) × (new ≡ room_for es lv group) × (length new < 62)
has_room es new lv group pins room =
    let it = some_test (are_all_pinned es lv group) pins (pins_of es lv group) room.answer in
    let free : are_all_pinned es lv group ≡ false = it.0 in
    (free, it.1, rw free at room.room, room.free)

-- ---- entries differ

differ_test : (test : Bool) (e : CacheEntry) (es less : List CacheEntry) → has_entry es e.lv e.group ≡ false → has_entry less e.lv e.group ≡ false → Differ es → Differ less → Differ (cond test es (e ∷ less))
differ_test true e es less others others_less rest rest_less = rest
differ_test false e es less others others_less rest rest_less = (others_less, rest_less)

pub Differ-without : (p : CacheEntry → Bool) (es : List CacheEntry) → Differ es → Differ (without_first p es)
Differ-without p [] differ = tt
Differ-without p (e ∷ es) differ = differ_test (p e) e es (without_first p es) differ.0 (any-without (is_entry e.lv e.group) p es differ.0) differ.1 (Differ-without p es differ.1)

own_test : (test : Bool) (lv group : ℕ) (e : CacheEntry) (es less : List CacheEntry) → is_entry lv group e ≡ test → has_entry es e.lv e.group ≡ false → has_entry less lv group ≡ false → has_entry (cond test es (e ∷ less)) lv group ≡ false
own_test true lv group e es less is others rest = let same = is_entry-same lv group e is in rw (← same.0, ← same.1) others
own_test false lv group e es less is others rest = rw is rest

pub no_other : (es : List CacheEntry) (lv group : ℕ) → Differ es → has_entry (without_first (is_entry lv group) es) lv group ≡ false
no_other [] lv group differ = refl
no_other (e ∷ es) lv group differ = own_test (is_entry lv group e) lv group e es (without_first (is_entry lv group) es) refl differ.0 (no_other es lv group differ.1)

any-push : (p : CacheEntry → Bool) (es : List CacheEntry) (e : CacheEntry) → list_any p es ≡ false → p e ≡ false → list_any p (es ++ e ∷ []) ≡ false
any-push p [] e none other = or_from (p e) false other refl
any-push p (f ∷ es) e none other = let both = or_parts (p f) (list_any p es) none in or_from (p f) (list_any p (es ++ e ∷ [])) both.0 (any-push p es e both.1 other)

pub Differ-push : (es : List CacheEntry) (e : CacheEntry) → Differ es → has_entry es e.lv e.group ≡ false → Differ (es ++ e ∷ [])
Differ-push [] e differ other = (refl, tt)
Differ-push (f ∷ es) e differ other =
    let both = or_parts (is_entry e.lv e.group f) (has_entry es e.lv e.group) other in
    (any-push (is_entry f.lv f.group) es e differ.0 (sym (is_entry-turn e f) ∙ both.0), Differ-push es e differ.1 both.1)

-- an entry with a pin less
abbrev pub less : CacheEntry → CacheEntry
less e = record e { pins = e.pins - 1 }

with_test : (test : Bool) (p : CacheEntry → Bool) (e : CacheEntry) (es : List CacheEntry) → has_entry es e.lv e.group ≡ false → Differ es → Differ (with_first p less es) → Differ (cond test (less e ∷ es) (e ∷ with_first p less es))
with_test true p e es others differ rest = (others, differ)
with_test false p e es others differ rest = (any-with (is_entry e.lv e.group) p less es (λ x. refl) ∙ others, rest)

pub Differ-with : (p : CacheEntry → Bool) (es : List CacheEntry) → Differ es → Differ (with_first p less es)
Differ-with p [] differ = tt
Differ-with p (e ∷ es) differ = with_test (p e) p e es differ.0 differ.1 (Differ-with p es differ.1)

-- ---- a pin

room_own_none : (own place : Bool) (es : List CacheEntry) (lv group : ℕ) → has_entry es lv group ≡ own → Differ es → (has_entry (cond own (without_first (is_entry lv group) es) (cond place es (without_first is_unpinned es))) lv group ≡ false) × Differ (cond own (without_first (is_entry lv group) es) (cond place es (without_first is_unpinned es)))
room_own_none true place es lv group is differ = (no_other es lv group differ, Differ-without (is_entry lv group) es differ)
room_own_none false true es lv group is differ = (is, differ)
room_own_none false false es lv group is differ = (any-without (is_entry lv group) is_unpinned es is, Differ-without is_unpinned es differ)

pub room_differs : (es : List CacheEntry) (lv group : ℕ) → Differ es → (has_entry (room_for es lv group) lv group ≡ false) × Differ (room_for es lv group)
room_differs es lv group differ = room_own_none (has_entry es lv group) (nat_lt (length es) 62) es lv group refl differ

-- an entry counts in a note
abbrev pub Counts : CacheEntry → Type 0
Counts e = IsEntry (record { lv = e.lv; group = e.group })

counting-note : (es : List CacheEntry) → All Counts es → All IsEntry (note_of es)
counting-note es all = All-map IsEntry (λ (e : CacheEntry). let named : NoteEntry = record { lv = e.lv; group = e.group } in named) es all

note-counting : (es : List CacheEntry) → All IsEntry (note_of es) → All Counts es
note-counting [] all = All-nil Counts
note-counting (e ∷ es) all = All-cons Counts e es (All-head IsEntry (record { lv = e.lv; group = e.group }) (note_of es) all) (note-counting es (All-tail IsEntry (record { lv = e.lv; group = e.group }) (note_of es) all))

room_counts : (own place : Bool) (es : List CacheEntry) (lv group : ℕ) → All Counts es → All Counts (cond own (without_first (is_entry lv group) es) (cond place es (without_first is_unpinned es)))
room_counts true place es lv group all = All-without Counts (is_entry lv group) es all
room_counts false true es lv group all = all
room_counts false false es lv group all = All-without Counts is_unpinned es all

pub pinned_entries : (es new : List CacheEntry) (lv group : ℕ) → AreEntries es → IsEntry (record { lv = lv; group = group }) → new ≡ room_for es lv group → length new < 62 → AreEntries (with_pin es lv group)
pinned_entries es new lv group are its is few =
    let room = room_differs es lv group are.differ in
    let e : CacheEntry = record { lv = lv; group = group; pins = pins_of es lv group + 1 } in
    let short : length (room_for es lv group) < 62 = rw (← is) few in
    record {
      most = omega (arith, length-append (room_for es lv group) (e ∷ []));
      differ = Differ-push (room_for es lv group) e room.1 room.0;
      counting = counting-note (room_for es lv group ++ e ∷ []) (All-push Counts (room_for es lv group) e (room_counts (has_entry es lv group) (nat_lt (length es) 62) es lv group (note-counting es are.counting)) its);
    }

pub no_entries : (es : List CacheEntry) → es ≡ [] → AreEntries es
no_entries es none = rw none (record { most = omega arith; differ = tt; counting = All-nil IsEntry })

-- ---- an unpin

pub unpinned_entries : (es : List CacheEntry) (lv group : ℕ) → AreEntries es → AreEntries (with_unpin es lv group)
unpinned_entries es lv group are = record {
  most = omega (arith, are.most, length-with (is_entry lv group) less es);
  differ = Differ-with (is_entry lv group) es are.differ;
  counting = counting-note (with_unpin es lv group) (All-with Counts (is_entry lv group) less es (λ e counts. counts) (note-counting es are.counting));
}

refilled : (xs ys : List CacheEntry) → length ys ≡ length xs → refill (length xs) xs ys ≡ ys
refilled xs ys same = rw (same, drop-length xs, append-nil ys) (take_all (length xs) ys (omega arith))

-- the first place of the track group is written
pub unpinned : (es now : List CacheEntry) (lv group k : ℕ) (d : CacheEntry) → now ≡ es → position (is_entry lv group) es ≡ Some k → refill (length es) es (set now k (less (get_or now k d))) ≡ with_unpin es lv group
unpinned es now lv group k d is at =
    rw is (refilled es (set es k (less (get_or es k d))) (length-set es k (less (get_or es k d))) ∙ (first_at (is_entry lv group) es d k at).changed less)

pub pins_there : (es now : List CacheEntry) (lv group k : ℕ) (d : CacheEntry) → now ≡ es → position (is_entry lv group) es ≡ Some k → (get_or now k d).pins ≡ pins_of es lv group
pins_there es now lv group k d is at = rw is (sym (pins_at es lv group k d (first_at (is_entry lv group) es d k at)))

pub pins_nowhere : (es : List CacheEntry) (lv group : ℕ) → position (is_entry lv group) es ≡ None → 0 ≡ pins_of es lv group
pins_nowhere es lv group at = sym (no_pins es lv group (none_at (is_entry lv group) es at))

pub some_pins : (es now : List CacheEntry) (lv group k : ℕ) (d : CacheEntry) → now ≡ es → position (is_entry lv group) es ≡ Some k → 0 < pins_of es lv group → 1 ≤ (get_or now k d).pins
some_pins es now lv group k d is at some = rw is (omega (arith, pins_at es lv group k d (first_at (is_entry lv group) es d k at)))

pub not_there : (es : List CacheEntry) (lv group : ℕ) → position (is_entry lv group) es ≡ None → with_unpin es lv group ≡ es
not_there es lv group at = (none_at (is_entry lv group) es at).changed less

pub pinned_as : (es new : List CacheEntry) (lv group pins : ℕ) → AreEntries es → lv ≢ 0 → lv < 2 ^ 16 → group < 2 ^ 32 → MakesRoom es new lv group (Some pins) → AreEntries (new ++ record { lv = lv; group = group; pins = pins + 1 } ∷ [])
pinned_as es new lv group pins are some low_lv low_group room =
    let it = has_room es new lv group pins room in
    let same : new ≡ room_for es lv group = it.2 in
    let had : pins ≡ pins_of es lv group = it.1 in
    rw (had, same) (pinned_entries es new lv group are (record { some_lv = some; lv = low_lv; group = low_group }) same it.3)

-- ---- a place for a pin

less_by_without : (test : Bool) (p : CacheEntry → Bool) (e : CacheEntry) (es : List CacheEntry) → (list_any p es ≡ true → length (without_first p es) + 1 ≡ length es) → (test || list_any p es) ≡ true → length (cond test es (e ∷ without_first p es)) + 1 ≡ suc (length es)
less_by_without true p e es rest any = omega arith
less_by_without false p e es rest any = omega (arith, rest any)

length-without : (p : CacheEntry → Bool) (es : List CacheEntry) → list_any p es ≡ true → length (without_first p es) + 1 ≡ length es
length-without p [] any = cc
length-without p (e ∷ es) any = less_by_without (p e) p e es (length-without p es) any

some_unpinned : (found : Bool) (es : List CacheEntry) → list_any is_unpinned es ≡ found → length es ≡ 62 → (count_by (λ e. not (is_unpinned e)) es == 62) ≡ false → list_any is_unpinned es ≡ true
some_unpinned true es is full few = is
some_unpinned false es is full few = absurd (eqb-false (count_by (λ e. not (is_unpinned e)) es) 62 few (count_none is_unpinned es is ∙ full))

place_test : (own place : Bool) (es : List CacheEntry) (lv group : ℕ) → has_entry es lv group ≡ own → nat_lt (length es) 62 ≡ place → length es ≤ 62 → (not own && count_by (λ e. not (is_unpinned e)) es == 62) ≡ false
    → length (cond own (without_first (is_entry lv group) es) (cond place es (without_first is_unpinned es))) < 62
place_test true place es lv group own at most free = omega (arith, length-without (is_entry lv group) es own)
place_test false true es lv group own at most free = ltb-true (length es) 62 at
place_test false false es lv group own at most free =
    let full : 62 ≤ length es = ltb-false (length es) 62 at in
    omega (arith, length-without is_unpinned es (some_unpinned (list_any is_unpinned es) es refl (omega arith) free))

pub has_place : (es : List CacheEntry) (lv group : ℕ) → AreEntries es → are_all_pinned es lv group ≡ false → length (room_for es lv group) < 62
has_place es lv group are free = place_test (has_entry es lv group) (nat_lt (length es) 62) es lv group refl refl are.most free
