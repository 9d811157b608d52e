-- The keys of a map with their pins, as entries.
use Rattle.std.proofs.Common.{◌≡◌, ◌≢◌, ◌==◌, ◌+◌, ◌-◌, ◌<◌, ◌≤◌, ◌&&◌, ◌||◌, ◌++◌, ◌∙◌, ℕ, zero, suc, Bool, true, false, cond, not, List, [], ◌∷◌, Option, Some, None, refl, sym, ap, arith, length, map, get_or, set, remove, insert, slice_get, option_map, append_assoc}
use Rattle.std.specs.List.{list_any, position, position_or_len}
use Rattle.std.specs.Option.{option_map_or, option_or}
use Rattle.std.specs.Map.{keys_of, values_of, lookup}
use Rattle.std.proofs.lemmas.Bool.{or_parts, eq-eqb, ne_eqb}
use Rattle.std.proofs.lemmas.List.{length-append, length-set, map-append}
use Rattle.std.proofs.lemmas.List.Edits.{length-remove, remove-append_left}
use Rattle.std.proofs.lemmas.List.Elements.{filter-append}
use Rattle.std.proofs.lemmas.List.Folds.{list_any-append}
use Rattle.std.proofs.lemmas.Option.{slice_get-get_or, slice_get-map}
use Rattle.lvm_num.proofs.Booleans.{same_turned}
use Rattle.indexmap.specs.IndexMap.{IndexMap, insert_entry, move_index, set_value_at}
use Rattle.indexmap.proofs.CallerLemmas.{insert_entry-new}
use Rattle.indexmap.proofs.SetLemmas.{map-remove, map-move}
use Rattle.lvm_mwc.specs.declared.entries.CacheEntry.{CacheEntry}
use Rattle.lvm_mwc.specs.declared.filled.Key.{Key}
use Rattle.lvm_mwc.specs.Entries.{has_entry, is_entry, is_unpinned, pins_of, with_unpin}
use Rattle.lvm_mwc.specs.Filled.{blank, is_filler, is_kept, listed, place_to_take, with_pin_more}
use Rattle.lvm_mwc.specs.Laid.{entry_of, laid}
use Rattle.lvm_mwc.proofs.EntriesLemmas.Entries.{pins_there}
use Rattle.lvm_mwc.proofs.FilledLemmas.{few_listed, unpinned_at}
use Rattle.lvm_mwc.proofs.FirstsLemmas.{first_at}

abbrev pub key : ℕ → ℕ → Key
key lv group = record { lv = lv; group = group }

abbrev pub same_key : Key → Key → Bool
same_key k l = k.lv == l.lv && k.group == l.group

-- ---- where a key stands

module _ {X Y : Type 0} (f : X → Y) (p : X → Bool) (q : Y → Bool) (same : (x : X) → q (f x) ≡ p x) where
  first_as : (xs : List X) → position_or_len q (map f xs) ≡ position_or_len p xs
  first_as [] = refl
  first_as (x ∷ xs) = ap (λ (t : Bool). cond (not t) (1 + position_or_len q (map f xs)) 0) (same x) ∙ ap (λ (k : ℕ). cond (not (p x)) (1 + k) 0) (first_as xs)

  -- where elements pass, those that they are made into do
  position-as : (xs : List X) → position q (map f xs) ≡ position p xs
  position-as xs = let first = first_as xs in let long = long_as f xs in rw (first, long) refl
    where
      long_as : (g : X → Y) (ys : List X) → length (map g ys) ≡ length ys
      long_as g [] = refl
      long_as g (y ∷ ys) = ap suc (long_as g ys)

turned : (lv group : ℕ) (p : Key × ℕ) → is_entry lv group (entry_of p) ≡ same_key (key lv group) p.0
turned lv group p = rw (same_turned p.0.lv lv, same_turned p.0.group group) refl

pub place_laid : (es : List (Key × ℕ)) (lv group : ℕ) → position (same_key (key lv group)) (keys_of es) ≡ position (is_entry lv group) (laid es)
place_laid es lv group =
    position-as (λ (p : Key × ℕ). p.0) (λ (p : Key × ℕ). same_key (key lv group) p.0) (same_key (key lv group)) (λ p. refl) es
    ∙ sym (position-as entry_of (λ (p : Key × ℕ). same_key (key lv group) p.0) (is_entry lv group) (turned lv group) es)

pub filler_laid : (es : List (Key × ℕ)) → position (λ (k : Key). k.lv == 0) (keys_of es) ≡ position is_filler (laid es)
filler_laid es =
    position-as (λ (p : Key × ℕ). p.0) (λ (p : Key × ℕ). p.0.lv == 0) (λ (k : Key). k.lv == 0) (λ p. refl) es
    ∙ sym (position-as entry_of (λ (p : Key × ℕ). p.0.lv == 0) is_filler (λ p. refl) es)

pub free_laid : (es : List (Key × ℕ)) → position (λ (n : ℕ). n == 0) (values_of es) ≡ position is_unpinned (laid es)
free_laid es =
    position-as (λ (p : Key × ℕ). p.1) (λ (p : Key × ℕ). p.1 == 0) (λ (n : ℕ). n == 0) (λ p. refl) es
    ∙ sym (position-as entry_of (λ (p : Key × ℕ). p.1 == 0) is_unpinned (λ p. refl) es)

pub long_laid : (es : List (Key × ℕ)) → length (laid es) ≡ length es
long_laid [] = refl
long_laid (p ∷ es) = ap suc (long_laid es)

-- ---- its pins

values_laid : (es : List (Key × ℕ)) → values_of es ≡ map (λ (e : CacheEntry). e.pins) (laid es)
values_laid [] = refl
values_laid (p ∷ es) = ap (λ (ns : List ℕ). p.1 ∷ ns) (values_laid es)

pub value_at : (es : List (Key × ℕ)) (k v : ℕ) → k < length es → slice_get (values_of es) k ≡ Some v → v ≡ (get_or (laid es) k blank).pins
value_at es k v within is =
    let there : Some v ≡ Some (get_or (laid es) k blank).pins =
    sym is ∙ ap (λ (ns : List ℕ). slice_get ns k) (values_laid es) ∙ slice_get-map (λ (e : CacheEntry). e.pins) (laid es) k
    ∙ ap (λ (o : Option CacheEntry). option_map (λ (e : CacheEntry). e.pins) o) (slice_get-get_or (laid es) k blank (omega (arith, within, long_laid es))) in
    cc

pub within_laid : (es : List (Key × ℕ)) (lv group k : ℕ) → position (is_entry lv group) (laid es) ≡ Some k → k < length es
within_laid es lv group k at = let first = first_at (is_entry lv group) (laid es) blank k at in let within = first.within in omega (arith, within, long_laid es)

pub pins_laid : (es : List (Key × ℕ)) (lv group k v : ℕ) → position (is_entry lv group) (laid es) ≡ Some k → slice_get (values_of es) k ≡ Some v → v ≡ pins_of (laid es) lv group
pins_laid es lv group k v at is = value_at es k v (within_laid es lv group k at) is ∙ pins_there (laid es) (laid es) lv group k blank refl at

-- ---- changes

abbrev pub with_pins : CacheEntry → ℕ → CacheEntry
with_pins e pins = record { lv = e.lv; group = e.group; pins = pins }

pub set_laid : (es : List (Key × ℕ)) (k w : ℕ) → laid (set_value_at es k w) ≡ set (laid es) k (with_pins (get_or (laid es) k blank) w)
set_laid [] k w = refl
set_laid (p ∷ es) zero w = refl
set_laid (p ∷ es) (suc k) w = ap (λ (l : List CacheEntry). entry_of p ∷ l) (set_laid es k w)

remove-set : (xs : List CacheEntry) (k : ℕ) (y : CacheEntry) → remove (set xs k y) k ≡ remove xs k
remove-set [] k y = refl
remove-set (x ∷ xs) zero y = refl
remove-set (x ∷ xs) (suc k) y = ap (λ (l : List CacheEntry). x ∷ l) (remove-set xs k y)

get_or-set : (xs : List CacheEntry) (k : ℕ) (y d : CacheEntry) → k < length xs → get_or (set xs k y) k d ≡ y
get_or-set [] k y d within = absurd (omega arith)
get_or-set (x ∷ xs) zero y d within = refl
get_or-set (x ∷ xs) (suc k) y d within = get_or-set xs k y d (omega arith)

insert-last : (xs : List CacheEntry) (x : CacheEntry) → insert xs (length xs) x ≡ xs ++ x ∷ []
insert-last [] x = refl
insert-last (y ∷ xs) x = ap (λ (l : List CacheEntry). y ∷ l) (insert-last xs x)

move-last : (xs : List CacheEntry) (k n : ℕ) → k < length xs → n + 1 ≡ length xs → move_index xs k n ≡ remove xs k ++ get_or xs k blank ∷ []
move-last xs k n within last =
    let at : n ≡ length (remove xs k) = omega (arith, length-remove xs k within, last) in
    ap (λ (o : Option CacheEntry). option_map_or (λ (x : CacheEntry). insert (remove xs k) n x) o xs) (slice_get-get_or xs k blank within)
    ∙ ap (λ (m : ℕ). insert (remove xs k) m (get_or xs k blank)) at ∙ insert-last (remove xs k) (get_or xs k blank)

-- a value is written and its key goes to the end
pub moved : (es : List (Key × ℕ)) (k w n : ℕ) → k < length es → n + 1 ≡ length es → laid (move_index (set_value_at es k w) k n) ≡ remove (laid es) k ++ with_pins (get_or (laid es) k blank) w ∷ []
moved es k w n within last =
    let e = with_pins (get_or (laid es) k blank) w in
    let few : k < length (laid es) = omega (arith, within, long_laid es) in
    let long : length (set (laid es) k e) ≡ length (laid es) = length-set (laid es) k e in
    map-move entry_of (set_value_at es k w) k n ∙ ap (λ (l : List CacheEntry). move_index l k n) (set_laid es k w)
    ∙ move-last (set (laid es) k e) k n (omega (arith, few, long)) (omega (arith, last, long, long_laid es))
    ∙ ap (λ (l : List CacheEntry). l ++ get_or (set (laid es) k e) k blank ∷ []) (remove-set (laid es) k e)
    ∙ ap (λ (x : CacheEntry). remove (laid es) k ++ x ∷ []) (get_or-set (laid es) k e blank few)

none_there : (es : List (Key × ℕ)) (lv group : ℕ) → has_entry (laid es) lv group ≡ false → lookup (same_key (key lv group)) es ≡ None
none_there [] lv group none = refl
none_there (p ∷ es) lv group none =
    let both = or_parts (is_entry lv group (entry_of p)) (has_entry (laid es) lv group) none in
    rw (sym (turned lv group p) ∙ both.0) (none_there es lv group both.1)

-- a new key goes last
pub put_last : {S : Type 0} (m : IndexMap Key ℕ S) (lv group v : ℕ) → has_entry (laid m.entries) lv group ≡ false → insert_entry same_key m.entries (key lv group) v ≡ m.entries ++ (key lv group, v) ∷ []
put_last m lv group v none = insert_entry-new same_key m (key lv group) v (none_there m.entries lv group none)

-- and another is taken out
pub replaced : (es new : List (Key × ℕ)) (p : Key × ℕ) (k : ℕ) → new ≡ es ++ p ∷ [] → k < length es → laid (remove new k) ≡ remove (laid es) k ++ entry_of p ∷ []
replaced es new p k is within =
    ap (λ (l : List (Key × ℕ)). laid (remove l k)) is ∙ ap laid (remove-append_left es (p ∷ []) k within) ∙ map-append entry_of (remove es k) (p ∷ [])
    ∙ ap (λ (l : List CacheEntry). l ++ entry_of p ∷ []) (map-remove entry_of es k)

-- ---- in the words of the list that the keys are

pub inside : (es : List (Key × ℕ)) (list : List CacheEntry) (k : ℕ) → laid es ≡ list → k < length list → k < length es
inside es list k seen within = omega (arith, within, ap (λ (l : List CacheEntry). length l) seen, long_laid es)

pub all_there : (es : List (Key × ℕ)) (list : List CacheEntry) → laid es ≡ list → length es ≡ 62 → length list ≡ 62
all_there es list seen full = sym (ap (λ (l : List CacheEntry). length l) seen) ∙ long_laid es ∙ full

pub pins_inside : (es : List (Key × ℕ)) (list : List CacheEntry) (k v : ℕ) → laid es ≡ list → k < length list → slice_get (values_of es) k ≡ Some v → v ≡ (get_or list k blank).pins
pins_inside es list k v seen within is = value_at es k v (inside es list k seen within) is ∙ ap (λ (l : List CacheEntry). (get_or l k blank).pins) seen

pub moved_more : (es : List (Key × ℕ)) (list : List CacheEntry) (k v n : ℕ) → laid es ≡ list → k < length list → n + 1 ≡ length es → slice_get (values_of es) k ≡ Some v
    → laid (move_index (set_value_at es k (v + 1)) k n) ≡ remove list k ++ with_pin_more (get_or list k blank) ∷ []
moved_more es list k v n seen within last is =
    moved es k (v + 1) n (inside es list k seen within) last
    ∙ ap (λ (l : List CacheEntry). remove l k ++ with_pins (get_or l k blank) (v + 1) ∷ []) seen
    ∙ ap (λ (m : ℕ). remove list k ++ with_pins (get_or list k blank) (m + 1) ∷ []) (pins_inside es list k v seen within is)

pub moved_long : (es : List (Key × ℕ)) (k w n : ℕ) → k < length es → n + 1 ≡ length es → length (move_index (set_value_at es k w) k n) ≡ length es
moved_long es k w n within last =
    let e = with_pins (get_or (laid es) k blank) w in
    let few : k < length (laid es) = omega (arith, within, long_laid es) in
    let long : length (laid (move_index (set_value_at es k w) k n)) ≡ length (remove (laid es) k ++ e ∷ []) = ap (λ (l : List CacheEntry). length l) (moved es k w n within last) in
    omega (arith, long, long_laid (move_index (set_value_at es k w) k n), length-append (remove (laid es) k) (e ∷ []), length-remove (laid es) k few, long_laid es)

pub replaced_long : (es new : List (Key × ℕ)) (p : Key × ℕ) (k : ℕ) → new ≡ es ++ p ∷ [] → k < length es → length (remove new k) ≡ length es
replaced_long es new p k is within =
    let few : k < length (laid es) = omega (arith, within, long_laid es) in
    let long : length (laid (remove new k)) ≡ length (remove (laid es) k ++ entry_of p ∷ []) = ap (λ (l : List CacheEntry). length l) (replaced es new p k is within) in
    omega (arith, long, long_laid (remove new k), length-append (remove (laid es) k) (entry_of p ∷ []), length-remove (laid es) k few, long_laid es)

pub unpinned_laid : (es : List (Key × ℕ)) (list : List CacheEntry) (lv group k v : ℕ) → laid es ≡ list → position (is_entry lv group) list ≡ Some k → slice_get (values_of es) k ≡ Some v → laid (set_value_at es k (v - 1)) ≡ with_unpin list lv group
unpinned_laid es list lv group k v seen at is =
    set_laid es k (v - 1) ∙ ap (λ (l : List CacheEntry). set l k (with_pins (get_or l k blank) (v - 1))) seen
    ∙ ap (λ (m : ℕ). set list k (with_pins (get_or list k blank) (m - 1))) (pins_inside es list k v seen (first_at (is_entry lv group) list blank k at).within is)
    ∙ unpinned_at list lv group k at

pub takes_first : (es : List (Key × ℕ)) (list : List CacheEntry) (k : ℕ) → laid es ≡ list → Some k ≡ position (λ (l : Key). l.lv == 0) (keys_of es) → Some k ≡ place_to_take list
takes_first es list k seen at =
    let found : position is_filler list ≡ Some k = sym (at ∙ filler_laid es ∙ ap (position is_filler) seen) in
    sym (ap (λ (o : Option ℕ). option_or o (position is_unpinned list)) found)

pub takes_second : (es : List (Key × ℕ)) (list : List CacheEntry) (place : Option ℕ) → laid es ≡ list → None ≡ position (λ (l : Key). l.lv == 0) (keys_of es) → place ≡ position (λ (n : ℕ). n == 0) (values_of es) → place ≡ place_to_take list
takes_second es list place seen at is =
    let none : position is_filler list ≡ None = sym (at ∙ filler_laid es ∙ ap (position is_filler) seen) in
    is ∙ free_laid es ∙ ap (position is_unpinned) seen ∙ sym (ap (λ (o : Option ℕ). option_or o (position is_unpinned list)) none)

-- ---- the list of those that aren't fillers

listed_test : (t : Bool) (p : Key × ℕ) (es : List (Key × ℕ)) → is_filler (entry_of p) ≡ t → listed (laid (p ∷ es)) ≡ cond (not t) (entry_of p ∷ listed (laid es)) (listed (laid es))
listed_test t p es is = ap (λ (u : Bool). cond (not u) (entry_of p ∷ listed (laid es)) (listed (laid es))) is

pub listed_kept : (done : List CacheEntry) (p : Key × ℕ) (es left : List (Key × ℕ)) (all : List CacheEntry) → p.0.lv ≢ 0 → es ≡ p ∷ left → done ++ listed (laid es) ≡ all → (done ++ entry_of p ∷ []) ++ listed (laid left) ≡ all
listed_kept done p es left all some is before =
    append_assoc done (entry_of p ∷ []) (listed (laid left)) ∙ ap (λ (l : List CacheEntry). done ++ l) (sym (listed_test false p left (ne_eqb p.0.lv 0 some)))
    ∙ ap (λ (l : List (Key × ℕ)). done ++ listed (laid l)) (sym is) ∙ before

pub listed_left : (done : List CacheEntry) (p : Key × ℕ) (es left : List (Key × ℕ)) (all : List CacheEntry) → p.0.lv ≡ 0 → es ≡ p ∷ left → done ++ listed (laid es) ≡ all → done ++ listed (laid left) ≡ all
listed_left done p es left all none is before =
    ap (λ (l : List CacheEntry). done ++ l) (sym (listed_test true p left (eq-eqb p.0.lv 0 none))) ∙ ap (λ (l : List (Key × ℕ)). done ++ listed (laid l)) (sym is) ∙ before

pub listed_few : (done : List CacheEntry) (p : Key × ℕ) (es left : List (Key × ℕ)) (all : List CacheEntry) → p.0.lv ≢ 0 → es ≡ p ∷ left → done ++ listed (laid es) ≡ listed all → length all ≡ 62 → length done < 62
listed_few done p es left all some is before full =
    let more : length ((done ++ entry_of p ∷ []) ++ listed (laid left)) ≡ length (listed all) = ap (λ (l : List CacheEntry). length l) (listed_kept done p es left (listed all) some is before) in
    omega (arith, more, length-append (done ++ entry_of p ∷ []) (listed (laid left)), length-append done (entry_of p ∷ []), few_listed all, full)

-- ---- fillers

-- so many of them
abbrev pub fillers : ℕ → List (Key × ℕ)
fillers zero = []
fillers (suc n) = fillers n ++ (key 0 n, 0) ∷ []

pub length-fillers : (n : ℕ) → length (fillers n) ≡ n
length-fillers zero = refl
length-fillers (suc n) = omega (arith, length-append (fillers n) ((key 0 n, 0) ∷ []), length-fillers n)

pub listed-fillers : (n : ℕ) → listed (laid (fillers n)) ≡ []
listed-fillers zero = refl
listed-fillers (suc n) =
    ap listed (map-append entry_of (fillers n) ((key 0 n, 0) ∷ [])) ∙ filter-append is_kept (laid (fillers n)) (entry_of (key 0 n, 0) ∷ []) ∙ ap (λ (l : List CacheEntry). l ++ []) (listed-fillers n)

none_later : (n m : ℕ) → n ≤ m → has_entry (laid (fillers n)) 0 m ≡ false
none_later zero m le = refl
none_later (suc n) m le =
    ap (list_any (is_entry 0 m)) (map-append entry_of (fillers n) ((key 0 n, 0) ∷ [])) ∙ list_any-append (is_entry 0 m) (laid (fillers n)) (entry_of (key 0 n, 0) ∷ [])
    ∙ ap (λ (t : Bool). t || ((n == m) || false)) (none_later n m (omega arith)) ∙ ap (λ (t : Bool). t || false) (ne_eqb n m (λ same. absurd (omega arith)))

pub one_filler_more : {S : Type 0} (m : IndexMap Key ℕ S) (n : ℕ) (new : List (Key × ℕ)) → m.entries ≡ fillers n → new ≡ insert_entry same_key m.entries (key 0 n) 0 → new ≡ fillers (n + 1)
one_filler_more m n new are is =
    is ∙ put_last m 0 n 0 (ap (λ (es : List (Key × ℕ)). has_entry (laid es) 0 n) are ∙ none_later n n (omega arith)) ∙ ap (λ (es : List (Key × ℕ)). es ++ (key 0 n, 0) ∷ []) are ∙ next n
  where
    next : (k : ℕ) → fillers k ++ (key 0 k, 0) ∷ [] ≡ fillers (k + 1)
    next k = let same : suc k ≡ k + 1 = omega arith in ap fillers same
