-- What a full map makes of the list of its entries.
use Rattle.std.proofs.Common.{◌≡◌, ◌≢◌, ◌==◌, ◌+◌, ◌<◌, ◌≤◌, ◌&&◌, ◌||◌, ◌++◌, ◌∙◌, ℕ, suc, Bool, true, false, cond, not, List, [], ◌∷◌, Option, Some, None, refl, sym, ap, subst, arith, length, nat_lt, get_or, set, remove}
use Rattle.std.specs.List.{list_any, find, count_by, position}
use Rattle.std.specs.Option.{option_map_or, option_or}
use Rattle.std.proofs.lemmas.Bool.{eqb-true, ne_eqb, eq-eqb, lt-ltb, le-ltb}
use Rattle.std.proofs.lemmas.List.Elements.{filter-append}
use Rattle.std.proofs.lemmas.List.Sums.{count_by-le-length}
use Rattle.lvm_mwc.specs.declared.entries.CacheEntry.{CacheEntry}
use Rattle.lvm_mwc.specs.declared.cache.Pin.TheVariants.{Pinned, AllPinned}
use Rattle.lvm_mwc.specs.Firsts.{without_first, with_first}
use Rattle.lvm_mwc.specs.Entries.{has_entry, pins_of, is_entry, is_unpinned, with_unpin}
use Rattle.lvm_mwc.specs.Filled.{blank, is_filler, is_kept, listed, new_last, with_pin_more, place_to_take, pinned, pinned_answer, answer_in, after_pin_in, FullMapPins, FullMapAnswers, FullMapFinds, FullMapUnpins}
use Rattle.lvm_mwc.proofs.FirstsLemmas.{any-without, count_none, count_some, first_at, none_at, none_passes}
use Rattle.lvm_mwc.proofs.EntriesLemmas.Entries.{is_entry-same, less, pins_there}

-- a test that no filler passes
abbrev pub PassesNoFiller : (CacheEntry → Bool) → Type 0
PassesNoFiller p = (e : CacheEntry) → is_filler e ≡ true → p e ≡ false

any_test : (t : Bool) (p : CacheEntry → Bool) (e : CacheEntry) (es rest : List CacheEntry) → is_filler e ≡ t → PassesNoFiller p → list_any p rest ≡ list_any p es → list_any p (cond (not t) (e ∷ rest) rest) ≡ (p e || list_any p es)
any_test true p e es rest is none same = same ∙ sym (ap (λ t. t || list_any p es) (none e is))
any_test false p e es rest is none same = ap (λ t. p e || t) same

any_listed : (p : CacheEntry → Bool) (es : List CacheEntry) → PassesNoFiller p → list_any p (listed es) ≡ list_any p es
any_listed p [] none = refl
any_listed p (e ∷ es) none = any_test (is_filler e) p e es (listed es) refl none (any_listed p es none)

find_test : (t : Bool) (p : CacheEntry → Bool) (e : CacheEntry) (es rest : List CacheEntry) → is_filler e ≡ t → PassesNoFiller p → find p rest ≡ find p es → find p (cond (not t) (e ∷ rest) rest) ≡ cond (p e) (Some e) (find p es)
find_test true p e es rest is none same = same ∙ sym (ap (λ t. cond t (Some e) (find p es)) (none e is))
find_test false p e es rest is none same = ap (λ o. cond (p e) (Some e) o) same

find_listed : (p : CacheEntry → Bool) (es : List CacheEntry) → PassesNoFiller p → find p (listed es) ≡ find p es
find_listed p [] none = refl
find_listed p (e ∷ es) none = find_test (is_filler e) p e es (listed es) refl none (find_listed p es none)

without_test : (t u : Bool) (p : CacheEntry → Bool) (e : CacheEntry) (es : List CacheEntry) → is_filler e ≡ t → p e ≡ u → PassesNoFiller p → listed (without_first p es) ≡ without_first p (listed es)
    → listed (cond u es (e ∷ without_first p es)) ≡ without_first p (cond (not t) (e ∷ listed es) (listed es))
without_test true true p e es is passes none same = let not_so = none e is in cc
without_test true false p e es is passes none same = ap (λ t. cond (not t) (e ∷ listed (without_first p es)) (listed (without_first p es))) is ∙ same
without_test false true p e es is passes none same = sym (ap (λ t. cond t (listed es) (e ∷ without_first p (listed es))) passes)
without_test false false p e es is passes none same =
    ap (λ t. cond (not t) (e ∷ listed (without_first p es)) (listed (without_first p es))) is
    ∙ ap (λ (l : List CacheEntry). e ∷ l) same
    ∙ sym (ap (λ t. cond t (listed es) (e ∷ without_first p (listed es))) passes)

without_listed : (p : CacheEntry → Bool) (es : List CacheEntry) → PassesNoFiller p → listed (without_first p es) ≡ without_first p (listed es)
without_listed p [] none = refl
without_listed p (e ∷ es) none = without_test (is_filler e) (p e) p e es refl refl none (without_listed p es none)

filler_test : (t : Bool) (e : CacheEntry) (es : List CacheEntry) → is_filler e ≡ t → listed (without_first is_filler es) ≡ listed es → listed (cond t es (e ∷ without_first is_filler es)) ≡ cond (not t) (e ∷ listed es) (listed es)
filler_test true e es is same = refl
filler_test false e es is same = ap (λ t. cond (not t) (e ∷ listed (without_first is_filler es)) (listed (without_first is_filler es))) is ∙ ap (λ (l : List CacheEntry). e ∷ l) same

without_filler : (es : List CacheEntry) → listed (without_first is_filler es) ≡ listed es
without_filler [] = refl
without_filler (e ∷ es) = filler_test (is_filler e) e es refl (without_filler es)

-- where no filler is left, all are entries
all_test : (t : Bool) (e : CacheEntry) (es rest : List CacheEntry) (more : Bool) → (t || more) ≡ false → (more ≡ false → rest ≡ es) → cond (not t) (e ∷ rest) rest ≡ e ∷ es
all_test true e es rest more none later = cc
all_test false e es rest more none later = ap (λ (l : List CacheEntry). e ∷ l) (later none)

all_listed : (es : List CacheEntry) → list_any is_filler es ≡ false → listed es ≡ es
all_listed [] none = refl
all_listed (e ∷ es) none = all_test (is_filler e) e es (listed es) (list_any is_filler es) none (all_listed es)

few_test : (t : Bool) (e : CacheEntry) (rest : List CacheEntry) (n : ℕ) → length rest ≤ n → length (cond (not t) (e ∷ rest) rest) ≤ suc n
few_test true e rest n le = omega arith
few_test false e rest n le = omega arith

pub few_listed : (es : List CacheEntry) → length (listed es) ≤ length es
few_listed [] = omega arith
few_listed (e ∷ es) = few_test (is_filler e) e (listed es) (length es) (few_listed es)

fewer_test : (t : Bool) (e : CacheEntry) (rest : List CacheEntry) (n : ℕ) (more : Bool) → (t || more) ≡ true → length rest ≤ n → (more ≡ true → length rest < n) → length (cond (not t) (e ∷ rest) rest) < suc n
fewer_test true e rest n more some le later = omega arith
fewer_test false e rest n more some le later = let less : length rest < n = later some in omega arith

fewer_listed : (es : List CacheEntry) → list_any is_filler es ≡ true → length (listed es) < length es
fewer_listed [] some = cc
fewer_listed (e ∷ es) some = fewer_test (is_filler e) e (listed es) (length es) (list_any is_filler es) some (few_listed es) (fewer_listed es)

-- ---- a pin

no_filler_is_it : (lv group : ℕ) → lv ≢ 0 → PassesNoFiller (is_entry lv group)
no_filler_is_it lv group some e is =
    let zero_is : e.lv ≡ 0 = eqb-true e.lv 0 is in
    ap (λ t. t && e.group == group) (ne_eqb e.lv lv (λ same. some (sym same ∙ zero_is)))

pub full_map_finds : FullMapFinds
full_map_finds map lv group some = ap (λ (o : Option CacheEntry). option_map_or (λ (e : CacheEntry). e.pins) o 0) (sym (find_listed (is_entry lv group) map (no_filler_is_it lv group some)))

kept_new : (lv group pins : ℕ) → lv ≢ 0 → listed (record { lv = lv; group = group; pins = pins } ∷ []) ≡ record { lv = lv; group = group; pins = pins } ∷ []
kept_new lv group pins some = ap (λ t. cond (not t) (record { lv = lv; group = group; pins = pins } ∷ []) []) (ne_eqb lv 0 some)

listed_new : (es : List CacheEntry) (lv group pins : ℕ) → lv ≢ 0 → listed (new_last es lv group pins) ≡ new_last (listed es) lv group pins
listed_new es lv group pins some =
    filter-append is_kept es (record { lv = lv; group = group; pins = pins } ∷ []) ∙ ap (λ (l : List CacheEntry). listed es ++ l) (kept_new lv group pins some)

-- by whether the track group is there and whether all have pins
after_there : (es : List CacheEntry) (lv group : ℕ) → has_entry es lv group ≡ true → after_pin_in es lv group ≡ new_last (without_first (is_entry lv group) es) lv group (pins_of es lv group + 1)
after_there es lv group there = rw there refl

after_new : (es : List CacheEntry) (lv group : ℕ) (full : Bool) → has_entry es lv group ≡ false → (count_by (λ (e : CacheEntry). not (is_unpinned e)) es == 62) ≡ full
    → after_pin_in es lv group ≡ cond full es (new_last (cond (nat_lt (length es) 62) es (without_first is_unpinned es)) lv group 1)
after_new es lv group full none is =
    let pins : pins_of es lv group ≡ 0 = ap (λ (o : Option CacheEntry). option_map_or (λ (e : CacheEntry). e.pins) o 0) (none_passes (is_entry lv group) es none).found in
    ap (λ t. cond (not t && count_by (λ (e : CacheEntry). not (is_unpinned e)) es == 62) es (new_last (cond t (without_first (is_entry lv group) es) (cond (nat_lt (length es) 62) es (without_first is_unpinned es))) lv group (pins_of es lv group + 1))) none
    ∙ ap (λ t. cond t es (new_last (cond (nat_lt (length es) 62) es (without_first is_unpinned es)) lv group (pins_of es lv group + 1))) is
    ∙ ap (λ n. cond full es (new_last (cond (nat_lt (length es) 62) es (without_first is_unpinned es)) lv group (n + 1))) pins

pin_there : (map : List CacheEntry) (lv group : ℕ) → lv ≢ 0 → has_entry map lv group ≡ true → listed (new_last (without_first (is_entry lv group) map) lv group (pins_of map lv group + 1)) ≡ after_pin_in (listed map) lv group
pin_there map lv group some there =
    let missed = no_filler_is_it lv group some in
    listed_new (without_first (is_entry lv group) map) lv group (pins_of map lv group + 1) some
    ∙ ap (λ (es : List CacheEntry). new_last es lv group (pins_of map lv group + 1)) (without_listed (is_entry lv group) map missed)
    ∙ ap (λ n. new_last (without_first (is_entry lv group) (listed map)) lv group (n + 1)) (full_map_finds map lv group some)
    ∙ sym (after_there (listed map) lv group (any_listed (is_entry lv group) map missed ∙ there))

pin_filler : (map : List CacheEntry) (lv group : ℕ) → lv ≢ 0 → length map ≡ 62 → has_entry map lv group ≡ false → list_any is_filler map ≡ true → listed (new_last (without_first is_filler map) lv group 1) ≡ after_pin_in (listed map) lv group
pin_filler map lv group some full none filler =
    let fewer : length (listed map) < 62 = omega (arith, fewer_listed map filler) in
    let count : count_by (λ (e : CacheEntry). not (is_unpinned e)) (listed map) < 62 = omega (arith, count_by-le-length (λ (e : CacheEntry). not (is_unpinned e)) (listed map)) in
    listed_new (without_first is_filler map) lv group 1 some
    ∙ ap (λ (es : List CacheEntry). new_last es lv group 1) (without_filler map)
    ∙ ap (λ t. new_last (cond t (listed map) (without_first is_unpinned (listed map))) lv group 1) (sym (lt-ltb (length (listed map)) 62 fewer))
    ∙ sym (after_new (listed map) lv group false (any_listed (is_entry lv group) map (no_filler_is_it lv group some) ∙ none) (ne_eqb _ 62 (λ same. absurd (omega arith))))

pin_unpinned : (map : List CacheEntry) (lv group : ℕ) → lv ≢ 0 → length map ≡ 62 → has_entry map lv group ≡ false → list_any is_filler map ≡ false → list_any is_unpinned map ≡ true
    → listed (new_last (without_first is_unpinned map) lv group 1) ≡ after_pin_in (listed map) lv group
pin_unpinned map lv group some full none filler free =
    let all = all_listed map filler in
    let rest : listed (without_first is_unpinned map) ≡ without_first is_unpinned map = all_listed (without_first is_unpinned map) (any-without is_filler is_unpinned map filler) in
    let count : count_by (λ (e : CacheEntry). not (is_unpinned e)) map < 62 = omega (arith, count_some is_unpinned map free) in
    listed_new (without_first is_unpinned map) lv group 1 some
    ∙ ap (λ (es : List CacheEntry). new_last es lv group 1) rest
    ∙ ap (λ t. new_last (cond t map (without_first is_unpinned map)) lv group 1) (sym (le-ltb (length map) 62 (omega arith)))
    ∙ sym (after_new map lv group false none (ne_eqb _ 62 (λ same. absurd (omega arith))))
    ∙ ap (λ (es : List CacheEntry). after_pin_in es lv group) (sym all)

pin_none : (map : List CacheEntry) (lv group : ℕ) → length map ≡ 62 → has_entry map lv group ≡ false → list_any is_filler map ≡ false → list_any is_unpinned map ≡ false → listed map ≡ after_pin_in (listed map) lv group
pin_none map lv group full none filler free =
    let all = all_listed map filler in
    let count : count_by (λ (e : CacheEntry). not (is_unpinned e)) map ≡ 62 = count_none is_unpinned map free ∙ full in
    all ∙ sym (after_new map lv group true none (eq-eqb _ 62 count)) ∙ ap (λ (es : List CacheEntry). after_pin_in es lv group) (sym all)

pub full_map_pins : FullMapPins
full_map_pins map lv group some full = by_tests (has_entry map lv group) (list_any is_filler map) (list_any is_unpinned map) refl refl refl
  where
    by_tests : (t u w : Bool) → has_entry map lv group ≡ t → list_any is_filler map ≡ u → list_any is_unpinned map ≡ w
        → listed (cond t (new_last (without_first (is_entry lv group) map) lv group (pins_of map lv group + 1))
        (cond u (new_last (without_first is_filler map) lv group 1) (cond w (new_last (without_first is_unpinned map) lv group 1) map))) ≡ after_pin_in (listed map) lv group
    by_tests true u w there filler free = pin_there map lv group some there
    by_tests false true w none filler free = pin_filler map lv group some full none filler
    by_tests false false true none filler free = pin_unpinned map lv group some full none filler free
    by_tests false false false none filler free = pin_none map lv group full none filler free

-- ---- what it answers

answer_there : (es : List CacheEntry) (lv group : ℕ) → has_entry es lv group ≡ true → Pinned ≡ answer_in es lv group
answer_there es lv group there = rw there refl

answer_new : (es : List CacheEntry) (lv group : ℕ) (full : Bool) → has_entry es lv group ≡ false → (count_by (λ (e : CacheEntry). not (is_unpinned e)) es == 62) ≡ full → cond full AllPinned Pinned ≡ answer_in es lv group
answer_new es lv group full none is =
    ap (λ t. cond t AllPinned Pinned) (sym is) ∙ ap (λ t. cond (not t && count_by (λ (e : CacheEntry). not (is_unpinned e)) es == 62) AllPinned Pinned) (sym none)

answer_filler : (map : List CacheEntry) (lv group : ℕ) → lv ≢ 0 → length map ≡ 62 → has_entry map lv group ≡ false → list_any is_filler map ≡ true → Pinned ≡ answer_in (listed map) lv group
answer_filler map lv group some full none filler =
    let fewer : length (listed map) < 62 = omega (arith, fewer_listed map filler) in
    let count : count_by (λ (e : CacheEntry). not (is_unpinned e)) (listed map) < 62 = omega (arith, count_by-le-length (λ (e : CacheEntry). not (is_unpinned e)) (listed map)) in
    answer_new (listed map) lv group false (any_listed (is_entry lv group) map (no_filler_is_it lv group some) ∙ none) (ne_eqb _ 62 (λ same. absurd (omega arith)))

answer_free : (map : List CacheEntry) (lv group : ℕ) → length map ≡ 62 → has_entry map lv group ≡ false → list_any is_unpinned map ≡ true → Pinned ≡ answer_in map lv group
answer_free map lv group full none free =
    let count : count_by (λ (e : CacheEntry). not (is_unpinned e)) map < 62 = omega (arith, count_some is_unpinned map free) in
    answer_new map lv group false none (ne_eqb _ 62 (λ same. absurd (omega arith)))

answer_none : (map : List CacheEntry) (lv group : ℕ) → length map ≡ 62 → has_entry map lv group ≡ false → list_any is_unpinned map ≡ false → AllPinned ≡ answer_in map lv group
answer_none map lv group full none free = answer_new map lv group true none (eq-eqb _ 62 (count_none is_unpinned map free ∙ full))

pub full_map_answers : FullMapAnswers
full_map_answers map lv group some full = by_tests (has_entry map lv group) (list_any is_filler map) (list_any is_unpinned map) refl refl refl
  where
    by_tests : (t u w : Bool) → has_entry map lv group ≡ t → list_any is_filler map ≡ u → list_any is_unpinned map ≡ w → cond (t || u || w) Pinned AllPinned ≡ answer_in (listed map) lv group
    by_tests true u w there filler free = answer_there (listed map) lv group (any_listed (is_entry lv group) map (no_filler_is_it lv group some) ∙ there)
    by_tests false true w none filler free = answer_filler map lv group some full none filler
    by_tests false false true none filler free = answer_free map lv group full none free ∙ ap (λ (es : List CacheEntry). answer_in es lv group) (sym (all_listed map filler))
    by_tests false false false none filler free = answer_none map lv group full none free ∙ ap (λ (es : List CacheEntry). answer_in es lv group) (sym (all_listed map filler))

-- ---- an unpin

-- a pin less makes no filler of an entry, nor an entry of a filler
with_test : (t u : Bool) (p : CacheEntry → Bool) (e : CacheEntry) (es : List CacheEntry) → is_filler e ≡ t → p e ≡ u → PassesNoFiller p → listed (with_first p less es) ≡ with_first p less (listed es)
    → listed (cond u (less e ∷ es) (e ∷ with_first p less es)) ≡ with_first p less (cond (not t) (e ∷ listed es) (listed es))
with_test true true p e es is passes none same = let not_so = none e is in cc
with_test true false p e es is passes none same = ap (λ t. cond (not t) (e ∷ listed (with_first p less es)) (listed (with_first p less es))) is ∙ same
with_test false true p e es is passes none same =
    ap (λ t. cond (not t) (less e ∷ listed es) (listed es)) is ∙ sym (ap (λ t. cond t (less e ∷ listed es) (e ∷ with_first p less (listed es))) passes)
with_test false false p e es is passes none same =
    ap (λ t. cond (not t) (e ∷ listed (with_first p less es)) (listed (with_first p less es))) is
    ∙ ap (λ (l : List CacheEntry). e ∷ l) same
    ∙ sym (ap (λ t. cond t (less e ∷ listed es) (e ∷ with_first p less (listed es))) passes)

with_listed : (p : CacheEntry → Bool) (es : List CacheEntry) → PassesNoFiller p → listed (with_first p less es) ≡ with_first p less (listed es)
with_listed p [] none = refl
with_listed p (e ∷ es) none = with_test (is_filler e) (p e) p e es refl refl none (with_listed p es none)

pub full_map_unpins : FullMapUnpins
full_map_unpins map lv group some = with_listed (is_entry lv group) map (no_filler_is_it lv group some)

-- ---- volume 0

no_test : (t : Bool) (e : CacheEntry) (es : List CacheEntry) (group : ℕ) → is_filler e ≡ t → has_entry es 0 group ≡ false → has_entry (cond (not t) (e ∷ es) es) 0 group ≡ false
no_test true e es group is rest = rest
no_test false e es group is rest = ap (λ t. (t && e.group == group) || has_entry es 0 group) is ∙ rest

no_zero : (map : List CacheEntry) (group : ℕ) → has_entry (listed map) 0 group ≡ false
no_zero [] group = refl
no_zero (e ∷ map) group = no_test (is_filler e) e (listed map) group refl (no_zero map group)

-- it has no pins
pub no_pins_of_zero : (map : List CacheEntry) (group : ℕ) → pins_of (listed map) 0 group ≡ 0
no_pins_of_zero map group = ap (λ (o : Option CacheEntry). option_map_or (λ (e : CacheEntry). e.pins) o 0) (none_passes (is_entry 0 group) (listed map) (no_zero map group)).found

pub some_volume : (map : List CacheEntry) (lv group : ℕ) → 0 < pins_of (listed map) lv group → lv ≢ 0
some_volume map lv group some zero = let none = no_pins_of_zero map group in let here : 0 < pins_of (listed map) 0 group = subst (λ l. 0 < pins_of (listed map) l group) zero some in absurd (omega (arith, none, here))

-- ---- a pin by places

pub pinned_there : (map : List CacheEntry) (lv group k : ℕ) → position (is_entry lv group) map ≡ Some k → remove map k ++ with_pin_more (get_or map k blank) ∷ [] ≡ pinned map lv group
pinned_there map lv group k at =
    let first = first_at (is_entry lv group) map blank k at in
    let its = is_entry-same lv group (get_or map k blank) first.passes in
    let had = pins_there map map lv group k blank refl at in
    let there : has_entry map lv group ≡ true = first.any in
    ap (λ (es : List CacheEntry). es ++ with_pin_more (get_or map k blank) ∷ []) first.removed
    ∙ ap (λ (e : CacheEntry). without_first (is_entry lv group) map ++ e ∷ []) (λ i. record { lv = its.0 i; group = its.1 i; pins = had i + 1 })
    ∙ rw there refl

pub answer_at : (map : List CacheEntry) (lv group k : ℕ) → position (is_entry lv group) map ≡ Some k → Pinned ≡ pinned_answer map lv group
answer_at map lv group k at = let there : has_entry map lv group ≡ true = (first_at (is_entry lv group) map blank k at).any in rw there refl

-- a new key takes this place
pub record Takes (map : List CacheEntry) (lv group k : ℕ) : Type 0 where
  pub within : k < length map
  pub done : new_last (remove map k) lv group 1 ≡ pinned map lv group
  pub answer : Pinned ≡ pinned_answer map lv group

takes_filler : (map : List CacheEntry) (lv group k : ℕ) → has_entry map lv group ≡ false → position is_filler map ≡ Some k → Takes map lv group k
takes_filler map lv group k none at =
    let first = first_at is_filler map blank k at in
    let any : list_any is_filler map ≡ true = first.any in
    record { within = first.within; done = ap (λ (es : List CacheEntry). new_last es lv group 1) first.removed ∙ rw (none, any) refl; answer = rw (none, any) refl }

takes_free : (map : List CacheEntry) (lv group k : ℕ) → has_entry map lv group ≡ false → position is_filler map ≡ None → position is_unpinned map ≡ Some k → Takes map lv group k
takes_free map lv group k none no_filler at =
    let first = first_at is_unpinned map blank k at in
    let any : list_any is_unpinned map ≡ true = first.any in
    let no : list_any is_filler map ≡ false = (none_at is_filler map no_filler).any in
    record { within = first.within; done = ap (λ (es : List CacheEntry). new_last es lv group 1) first.removed ∙ rw (none, no, any) refl; answer = rw (none, no, any) refl }

pub takes : (map : List CacheEntry) (lv group k : ℕ) → position (is_entry lv group) map ≡ None → place_to_take map ≡ Some k → Takes map lv group k
takes map lv group k none at = by (position is_filler map) refl at
  where
    new : has_entry map lv group ≡ false
    new = (none_at (is_entry lv group) map none).any

    by : (filler : Option ℕ) → position is_filler map ≡ filler → option_or filler (position is_unpinned map) ≡ Some k → Takes map lv group k
    by (Some j) is same = takes_filler map lv group k new (is ∙ same)
    by None is same = takes_free map lv group k new is same

-- none is to be had
pub record TakesNone (map : List CacheEntry) (lv group : ℕ) : Type 0 where
  pub same : map ≡ pinned map lv group
  pub answer : AllPinned ≡ pinned_answer map lv group

pub takes_none : (map : List CacheEntry) (lv group : ℕ) → position (is_entry lv group) map ≡ None → place_to_take map ≡ None → TakesNone map lv group
takes_none map lv group none at = by (position is_filler map) refl at
  where
    new : has_entry map lv group ≡ false
    new = (none_at (is_entry lv group) map none).any

    by : (filler : Option ℕ) → position is_filler map ≡ filler → option_or filler (position is_unpinned map) ≡ None → TakesNone map lv group
    by (Some j) is same = cc
    by None is same =
        let no : list_any is_filler map ≡ false = (none_at is_filler map is).any in
        let full : list_any is_unpinned map ≡ false = (none_at is_unpinned map same).any in
        record { same = rw (new, no, full) refl; answer = rw (new, no, full) refl }

-- a key's pins are less by one
pub unpinned_at : (map : List CacheEntry) (lv group k : ℕ) → position (is_entry lv group) map ≡ Some k → set map k (less (get_or map k blank)) ≡ with_unpin map lv group
unpinned_at map lv group k at = (first_at (is_entry lv group) map blank k at).changed less
