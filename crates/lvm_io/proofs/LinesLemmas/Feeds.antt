-- Where line feeds stand, and the lines that they end.
use Rattle.std.proofs.Common.{◌≡◌, inl, inr, ◌≤◌, ◌<◌, ◌+◌, ◌-◌, ◌∷◌, ◌++◌, [], ℕ, suc, List, Option, Some, None, nat_lt, Bool, true, false, cond, not, length, take, drop, get_or, if◌then◌else◌, refl, sym, ◌∙◌, ap, subst, arith, append_assoc}
use Rattle.std.specs.List.{position, position_or_len, slice_range}
use Rattle.std.proofs.lemmas.List.{take_all, append-nil, drop-drop, drop-take, length-take}
use Rattle.std.proofs.lemmas.List.Folds.{list_any-append}
use Rattle.std.proofs.lemmas.List.Sums.{split_at_first, passes_at_first}
use Rattle.std.proofs.lemmas.Bool.{eqb-true, ltb-true, ltb-false, or_parts}
use Rattle.lvm_io.specs.Lines.{TakesFirst, is_feed, has_feed, lines_from, lines_of}

-- the place of the first line feed
abbrev pub IsFirstFeed : List ℕ → Option ℕ → Type 0
IsFirstFeed bytes None = has_feed bytes ≡ false
IsFirstFeed bytes (Some at) = (at < length bytes) × (has_feed (take at bytes) ≡ false) × (bytes ≡ take at bytes ++ 10 ∷ drop (at + 1) bytes)

clean_more : (t : Bool) (byte : ℕ) (bytes : List ℕ) (n : ℕ) → is_feed byte ≡ t → has_feed (take n bytes) ≡ false → has_feed (take (cond (not t) (1 + n) 0) (byte ∷ bytes)) ≡ false
clean_more true byte bytes n is clean = refl
clean_more false byte bytes n is clean = let e : 1 + n ≡ suc n = omega arith in rw (e, is) clean

-- none stands before the first
before_first_clean : (bytes : List ℕ) → has_feed (take (position_or_len is_feed bytes) bytes) ≡ false
before_first_clean [] = refl
before_first_clean (byte ∷ bytes) = clean_more (is_feed byte) byte bytes (position_or_len is_feed bytes) refl (before_first_clean bytes)

split_off : (bytes : List ℕ) (n : ℕ) → n ≡ position_or_len is_feed bytes → n < length bytes → get_or bytes n 0 ≡ 10 → bytes ≡ take n bytes ++ 10 ∷ drop (n + 1) bytes
split_off bytes n is within feed =
    let split : bytes ≡ take n bytes ++ get_or bytes n 0 ∷ drop (n + 1) bytes = rw is (split_at_first is_feed bytes 0 (rw (← is) within)) in
    split ∙ ap (λ (byte : ℕ). take n bytes ++ byte ∷ drop (n + 1) bytes) feed

first_feed_cases : (t : Bool) (bytes : List ℕ) (n : ℕ) → n ≡ position_or_len is_feed bytes → nat_lt n (length bytes) ≡ t → IsFirstFeed bytes (cond t (Some n) None)
first_feed_cases true bytes n is test =
    let within : n < length bytes = ltb-true n (length bytes) test in
    let first : position_or_len is_feed bytes < length bytes = rw (← is) within in
    let feed : get_or bytes n 0 ≡ 10 = rw is (eqb-true (get_or bytes (position_or_len is_feed bytes) 0) 10 (passes_at_first is_feed bytes 0 first)) in
    (within, rw is (before_first_clean bytes), split_off bytes n is within feed)
first_feed_cases false bytes n is test =
    let clean : has_feed (take n bytes) ≡ false = rw is (before_first_clean bytes) in
    let P : List ℕ → Type 0 = λ l. has_feed l ≡ false in
    subst P (take_all n bytes (ltb-false n (length bytes) test)) clean

pub first_feed : (bytes : List ℕ) → IsFirstFeed bytes (position is_feed bytes)
first_feed bytes = first_feed_cases (nat_lt (position_or_len is_feed bytes) (length bytes)) bytes (position_or_len is_feed bytes) refl refl

step_clean : (t : Bool) (front : List ℕ) (byte : ℕ) (bytes : List ℕ) → t ≡ false → (if t then front ∷ lines_from [] bytes else lines_from (front ++ byte ∷ []) bytes) ≡ lines_from (front ++ byte ∷ []) bytes
step_clean t front byte bytes is = rw is

-- bytes without a line feed are the front of the next line
pub lines-clean : (front tail rest : List ℕ) → has_feed tail ≡ false → lines_from front (tail ++ rest) ≡ lines_from (front ++ tail) rest
lines-clean front [] rest clean = rw append-nil
lines-clean front (byte ∷ tail) rest clean =
    let both : (is_feed byte ≡ false) × (has_feed tail ≡ false) = or_parts (is_feed byte) (has_feed tail) clean in
    step_clean (is_feed byte) front byte (tail ++ rest) both.0 ∙ lines-clean (front ++ byte ∷ []) tail rest both.1 ∙ ap (λ (l : List ℕ). lines_from l rest) (append_assoc front (byte ∷ []) tail)

-- a line that ends with a line feed
pub lines-feed : (line rest : List ℕ) → has_feed line ≡ false → lines_of (line ++ 10 ∷ rest) ≡ line ∷ lines_of rest
lines-feed line rest clean = lines-clean [] line (10 ∷ rest) clean

-- a line without one, at the end
pub lines-last : (line : List ℕ) → has_feed line ≡ false → 0 < length line → lines_of line ≡ line ∷ []
lines-last [] clean some = absurd (omega arith)
lines-last (byte ∷ line) clean some = ap lines_of (sym (append-nil (byte ∷ line))) ∙ lines-clean [] (byte ∷ line) [] clean

-- the first line of bytes
pub first_of : (line bytes rest : List ℕ) → TakesFirst line bytes rest → lines_of bytes ≡ line ∷ lines_of rest
first_of line bytes rest (clean, inl fed) = ap lines_of fed ∙ lines-feed line rest clean
first_of line bytes rest (clean, inr (all, none, some)) = ap lines_of all ∙ lines-last line clean some ∙ ap (λ (l : List ℕ). line ∷ lines_of l) (sym none)

pub no_feed : (front tail : List ℕ) → has_feed front ≡ false → has_feed tail ≡ false → has_feed (front ++ tail) ≡ false
no_feed front tail clean more = rw (list_any-append is_feed front tail, clean, more)

-- what follows in a range of a list
pub range_after : (bytes : List ℕ) (start end at : ℕ) → start + (at + 1) ≤ end → drop (at + 1) (slice_range bytes start end) ≡ slice_range bytes (start + (at + 1)) end
range_after bytes start end at within =
    let size : end - start ≡ (at + 1) + (end - (start + (at + 1))) = omega arith in
    ap (λ (n : ℕ). drop (at + 1) (take n (drop start bytes))) size
    ∙ drop-take (at + 1) (end - (start + (at + 1))) (drop start bytes)
    ∙ ap (λ (l : List ℕ). take (end - (start + (at + 1))) l) (drop-drop (at + 1) start bytes)

pub range_none : (bytes : List ℕ) (end : ℕ) → slice_range bytes end end ≡ []
range_none bytes end = let e : end - end ≡ 0 = omega arith in rw e

-- the line that ends at the first line feed of a range
pub record LineInRange (bytes : List ℕ) (start end at : ℕ) : Type 0 where
  pub within : start + (at + 1) ≤ end
  pub clean : has_feed (take at (slice_range bytes start end)) ≡ false
  pub split : slice_range bytes start end ≡ take at (slice_range bytes start end) ++ 10 ∷ slice_range bytes (start + (at + 1)) end

pub line_in_range : (bytes : List ℕ) (start end at : ℕ) → start ≤ end → end ≤ length bytes → position is_feed (slice_range bytes start end) ≡ Some at → LineInRange bytes start end at
line_in_range bytes start end at ordered fits is =
    let found : IsFirstFeed (slice_range bytes start end) (Some at) = subst (IsFirstFeed (slice_range bytes start end)) is (first_feed (slice_range bytes start end)) in
    let size : length (slice_range bytes start end) ≤ end - start = grind (arith, length-take {A = ℕ}) in
    let within : start + (at + 1) ≤ end = omega (arith, found.0, size) in
    record {
      within = within;
      clean = found.1;
      split = found.2 ∙ ap (λ (l : List ℕ). take at (slice_range bytes start end) ++ 10 ∷ l) (range_after bytes start end at within);
    }

pub no_line_in_range : (bytes : List ℕ) (start end : ℕ) → position is_feed (slice_range bytes start end) ≡ None → has_feed (slice_range bytes start end) ≡ false
no_line_in_range bytes start end is = subst (IsFirstFeed (slice_range bytes start end)) is (first_feed (slice_range bytes start end))
