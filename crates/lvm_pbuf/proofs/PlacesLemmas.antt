-- Buffers at the places of their numbers.
use Rattle.std.proofs.Common.{◌≡◌, ◌<◌, ◌≤◌, ◌+◌, ◌⊎◌, ℕ, zero, suc, List, [], ◌∷◌, ◌++◌, Option, Some, None, Bool, true, false, not, nat_lt, is_some, is_none, option_map, IfSome, map, length, get_or, set, replicate, refl, sym, ◌∙◌, ap, inl, inr, arith}
use Rattle.std.specs.List.{list_any, position, position_or_len, slice_get}
use Rattle.std.proofs.lemmas.Option.{same_Some, none-some, get_or_from_slice_get, slice_get-map, slice_get-get_or, slice_get_within}
use Rattle.std.proofs.lemmas.List.{length-append, map-append, replicate-append-replicate}
use Rattle.std.proofs.lemmas.List.Elements.{All-map}
use Rattle.std.proofs.lemmas.List.Quantifiers.{position-Some}
use Rattle.std.proofs.lemmas.List.Sums.{fails_before_first}
use Rattle.std.proofs.lemmas.Bool.{ltb-false}
use Rattle.std.proofs.Math.ListN.{length-set}
use Rattle.lvm_num.specs.Buffer.{Buffer}
use Rattle.lvm_num.proofs.Booleans.{none_if}
use Rattle.lvm_pbuf.specs.Out.{TakesLowest, AreAllOut}
use Rattle.lvm_pbuf.specs.Places.{IsAtHome}

-- what stands at a place of a list in which one was written
set_cases : {X : Type 0} (xs : List X) (k j : ℕ) (x y : X) → slice_get (set xs k x) j ≡ Some y → ((j ≡ k) × (x ≡ y)) ⊎ (slice_get xs j ≡ Some y)
set_cases [] k j x y is = inr is
set_cases (z ∷ xs) zero zero x y is = inl (refl, same_Some x y is)
set_cases (z ∷ xs) zero (suc j) x y is = inr is
set_cases (z ∷ xs) (suc k) zero x y is = inr is
set_cases (z ∷ xs) (suc k) (suc j) x y is = elim (set_cases xs k j x y is) [ inl here ↦ inl (ap suc here.0, here.1) | inr there ↦ inr there ]

some_inside : (place : Option Buffer) → is_some place ≡ true → (buf : Buffer) × (place ≡ Some buf)
some_inside (Some buf) is = (buf, refl)
some_inside None is = cc

out_of : (place : Option Buffer) → is_some place ≡ false → is_none place ≡ true
out_of None is = refl
out_of (Some buf) is = cc

in_of : (place : Option Buffer) → is_some place ≡ true → is_none place ≡ false
in_of (Some buf) is = refl
in_of None is = cc

pub any_inside : (places : List (Option Buffer)) → list_any is_some places ≡ list_any not (map is_none places)
any_inside [] = refl
any_inside (Some buf ∷ places) = refl
any_inside (None ∷ places) = any_inside places

pub all_out : (places : List (Option Buffer)) → position is_some places ≡ None → AreAllOut (map is_none places)
all_out places is =
    let n = position_or_len is_some places in
    let past : length places ≤ n = ltb-false n (length places) (none_if (nat_lt n (length places)) n is) in
    All-map (λ out. out ≡ true) is_none places (λ k d within. out_of (get_or places k d) (fails_before_first is_some places k d (omega arith)))

-- the lowest number that is in
pub record IsLowest (places : List (Option Buffer)) (k : ℕ) : Type 0 where
  pub buf : Buffer
  pub there : slice_get places k ≡ Some (Some buf)
  pub takes : TakesLowest (map is_none places) (set (map is_none places) k true) k

marked_at : (places : List (Option Buffer)) (k : ℕ) (out : Bool) → k < length places → is_none (get_or places k None) ≡ out → slice_get (map is_none places) k ≡ Some out
marked_at places k out within is = slice_get-map is_none places k ∙ ap (λ (o : Option (Option Buffer)). option_map is_none o) (slice_get-get_or places k None within) ∙ ap (λ (b : Bool). Some b) is

pub lowest : (places : List (Option Buffer)) (k : ℕ) → position is_some places ≡ Some k → IsLowest places k
lowest places k is =
    let found = position-Some is_some places k None is in
    let inside = some_inside (get_or places k None) found.1 in
    record {
      buf = inside.0;
      there = slice_get-get_or places k None found.0 ∙ ap (λ (o : Option Buffer). Some o) inside.1;
      takes = record {
        free = marked_at places k false found.0 (in_of (get_or places k None) found.1);
        lowest = λ n below. marked_at places n true (omega (arith, found.0)) (out_of (get_or places n None) (found.2 n below));
        new_is = refl;
      };
    }

pub home_without : (places : List (Option Buffer)) (k : ℕ) → IsAtHome places → IsAtHome (set places k None)
home_without places k home = record {
  most = omega (arith, home.most, length-set places k None);
  number = λ j buf is. elim (set_cases places k j None (Some buf) is) [ inl here ↦ absurd (none-some buf here.1) | inr there ↦ home.number j buf there ];
}

pub home_with : (places : List (Option Buffer)) (k : ℕ) (buf : Buffer) → buf.number ≡ k → IsAtHome places → IsAtHome (set places k (Some buf))
home_with places k buf its home = record {
  most = omega (arith, home.most, length-set places k (Some buf));
  number = λ j other is. elim (set_cases places k j (Some buf) (Some other) is) [ inl here ↦ ap (λ (b : Buffer). b.number) (sym (same_Some buf other here.1)) ∙ its ∙ sym here.0 | inr there ↦ home.number j other there ];
}

-- so many buffers, all of them in
pub record IsFresh (places : List (Option Buffer)) (count : ℕ) : Type 0 where
  pub size : length places ≡ count
  pub inside : map is_none places ≡ replicate count false
  pub number : (k : ℕ) (buf : Buffer) → slice_get places k ≡ Some (Some buf) → buf.number ≡ k

-- what stands at a place of a list that is longer by one
push_cases : {X : Type 0} (xs : List X) (x : X) (j : ℕ) (y : X) → slice_get (xs ++ x ∷ []) j ≡ Some y → ((j ≡ length xs) × (x ≡ y)) ⊎ (slice_get xs j ≡ Some y)
push_cases [] x zero y is = inl (refl, same_Some x y is)
push_cases [] x (suc j) y is = absurd (none-some y is)
push_cases (z ∷ xs) x zero y is = inr is
push_cases (z ∷ xs) x (suc j) y is = elim (push_cases xs x j y is) [ inl here ↦ inl (ap suc here.0, here.1) | inr there ↦ inr there ]

pub fresh_more : (places : List (Option Buffer)) (count : ℕ) (buf : Buffer) → buf.number ≡ count → IsFresh places count → IsFresh (places ++ Some buf ∷ []) (count + 1)
fresh_more places count buf its so_far = record {
  size = grind (arith, length-append {A = Option Buffer});
  inside = map-append is_none places (Some buf ∷ []) ∙ ap (λ (l : List Bool). l ++ false ∷ []) so_far.inside ∙ replicate-append-replicate count 1 false;
  number = λ k other is. elim (push_cases places (Some buf) k (Some other) is) [
    | inl here ↦ ap (λ (b : Buffer). b.number) (sym (same_Some buf other here.1)) ∙ its ∙ sym so_far.size ∙ sym here.0
    | inr there ↦ so_far.number k other there
  ];
}

pub takes_as : (places : List (Option Buffer)) (k : ℕ) (it : IsLowest places k) (now new : List Bool) (r : Option Buffer) → map is_none places ≡ now → new ≡ set (map is_none places) k true → it.buf.number ≡ k → r ≡ Some it.buf → IfSome r (λ buf. TakesLowest now new buf.number)
takes_as places k it now new r now_is new_is number_is is = rw (is, number_is, new_is, ← now_is) it.takes

pub not_all_out : (pool : List Bool) (k : ℕ) → slice_get pool k ≡ Some false → AreAllOut pool → ⊥
not_all_out pool k free all =
    let out : get_or pool k true ≡ true = all k true (slice_get_within pool k false free) in
    let inside : get_or pool k true ≡ false = get_or_from_slice_get pool k false true free in
    cc
