-- Names and their sixteen bytes.
use Rattle.std.proofs.Common.{◌≡◌, ◌⊎◌, inl, inr, ℕ, zero, suc, ◌+◌, ◌-◌, ◌≤◌, append-nil, cond, Bool, true, false, ◌&&◌, not, List, [], ◌∷◌, ◌++◌, length, take, drop, replicate, refl, sym, ap, ◌∙◌, arith}
use Rattle.std.specs.Prelude.{◌==◌, nat_eq, nat_le, codes}
use Rattle.std.specs.List.{list_all, starts_with, prefix_len}
use Rattle.std.proofs.lemmas.Bool.Decides.{nat_tests}
use Rattle.std.proofs.lemmas.List.{length-append, length-replicate, length-take, drop-replicate}
use Rattle.std.proofs.lemmas.Bool.{and_parts}
use Rattle.lvm_num.specs.Name.{is_letter, is_name_byte, is_name, padded, unpadded, IsPadded}

pub no_name : (bytes : List ℕ) → length bytes ≡ 0 → is_name bytes ≡ false
unfolding is_name
no_name [] none = refl
no_name (b ∷ bs) none = absurd (omega (arith, none))

pub name-cons : (bytes : List ℕ) (b : ℕ) (bs : List ℕ) → bytes ≡ b ∷ bs
    → is_name bytes ≡ nat_le (length bs) 14 && not (starts_with nat_eq bytes (codes "hdisk")) && is_letter b && list_all is_name_byte bs
unfolding is_name
name-cons bytes b bs e =
    ap is_name e
    ∙ ap (λ (text : List ℕ). nat_le (length bs) 14 && not (starts_with nat_eq text (codes "hdisk")) && is_letter b && list_all is_name_byte bs) (sym e)

-- a name's four tests, of which one fails
pub refused : (a b c d : Bool) → (a ≡ false) ⊎ (b ≡ true) ⊎ (c ≡ false) → false ≡ a && not b && c && d
refused false b c d h = refl
refused true true c d h = refl
refused true false false d h = refl
refused true false true d (inl e) = absurd cc
refused true false true d (inr (inl e)) = absurd cc
refused true false true d (inr (inr e)) = absurd cc

-- of which three hold
pub taken : (a b c d : Bool) → a ≡ true → b ≡ false → c ≡ true → d ≡ a && not b && c && d
taken a b c d p q r = rw (p, q, r) refl

-- ---- a name has no zero, and fifteen bytes at most

abbrev is_text : ℕ → Bool
is_text b = not (b == 0)

letter-text : (b : ℕ) → is_letter b ≡ true → is_text b ≡ true
letter-text zero e = absurd cc
letter-text (suc n) e = grind (arith, nat_tests)

byte-text : (b : ℕ) → is_name_byte b ≡ true → is_text b ≡ true
byte-text zero e = absurd cc
byte-text (suc n) e = grind (arith, nat_tests)

bytes-text : (bytes : List ℕ) → list_all is_name_byte bytes ≡ true → list_all is_text bytes ≡ true
bytes-text [] e = refl
bytes-text (b ∷ bs) e =
    let parts = and_parts (is_name_byte b) (list_all is_name_byte bs) e in
    rw (byte-text b parts.0, bytes-text bs parts.1) refl

-- the four tests of a name
tests : (b : ℕ) (bs : List ℕ) → is_name (b ∷ bs) ≡ true
    → (nat_le (length bs) 14 ≡ true) × (is_letter b ≡ true) × (list_all is_name_byte bs ≡ true)
unfolding is_name
tests b bs e =
    let outer = and_parts (nat_le (length bs) 14 && not (starts_with nat_eq (b ∷ bs) (codes "hdisk")) && is_letter b) (list_all is_name_byte bs) e in
    let middle = and_parts (nat_le (length bs) 14 && not (starts_with nat_eq (b ∷ bs) (codes "hdisk"))) (is_letter b) outer.0 in
    let inner = and_parts (nat_le (length bs) 14) (not (starts_with nat_eq (b ∷ bs) (codes "hdisk"))) middle.0 in
    (inner.0, middle.1, outer.1)

pub name-text : (text : List ℕ) → is_name text ≡ true → list_all is_text text ≡ true
name-text [] e = refl
name-text (b ∷ bs) e =
    let t = tests b bs e in
    rw (letter-text b t.1, bytes-text bs t.2) refl

pub length-name : (text : List ℕ) → is_name text ≡ true → length text ≤ 15
length-name [] e = omega arith
length-name (b ∷ bs) e =
    let fits : nat_le (length bs) 14 ≡ true = (tests b bs e).0 in
    grind (arith, nat_tests)

-- ---- the padding

before-append : (xs ys : List ℕ) → list_all is_text xs ≡ true → unpadded (xs ++ ys) ≡ xs ++ unpadded ys
before-append [] ys e = refl
before-append (x ∷ xs) ys e =
    let parts = and_parts (is_text x) (list_all is_text xs) e in
    passes (is_text x) parts.0 ∙ ap (λ (rest : List ℕ). x ∷ rest) (before-append xs ys parts.1)
  where
    passes : (b : Bool) → b ≡ true → take (cond b (1 + prefix_len is_text (xs ++ ys)) 0) (x ∷ (xs ++ ys)) ≡ x ∷ unpadded (xs ++ ys)
    passes true p =
        let next : 1 + prefix_len is_text (xs ++ ys) ≡ suc (prefix_len is_text (xs ++ ys)) = omega arith in
        rw next refl
    passes false p = absurd cc

before-zeros : (n : ℕ) → unpadded (replicate n 0) ≡ []
before-zeros zero = refl
before-zeros (suc n) = refl

pub unpadded-padded : (text : List ℕ) → is_name text ≡ true → unpadded (padded text) ≡ text
unpadded-padded text e =
    before-append text (replicate (16 - length text) 0) (name-text text e)
    ∙ ap (λ (rest : List ℕ). text ++ rest) (before-zeros (16 - length text))
    ∙ append-nil text

pub padded-is : (text : List ℕ) → is_name text ≡ true → IsPadded (padded text)
padded-is text e =
    let back = unpadded-padded text e in
    record { same = ap padded back; name = ap is_name back ∙ e }

pub length-padded : (text : List ℕ) → length text ≤ 16 → length (padded text) ≡ 16
length-padded text fits = omega (arith, length-append text (replicate (16 - length text) 0), length-replicate {A = ℕ} (16 - length text) 0)

-- a text written over the front of sixteen zeros
pub length-front : (n : ℕ) → n ≤ 15 → length (take n (replicate {A = ℕ} 16 0)) ≡ n
length-front n fits = omega (arith, length-take n (replicate {A = ℕ} 16 0))

pub written-is : (text front : List ℕ) → front ≡ text → front ++ drop (length text) (replicate 16 0) ≡ padded text
written-is text front same = ap (λ (x : List ℕ). x ++ drop (length text) (replicate 16 0)) same ∙ ap (λ (x : List ℕ). text ++ x) (drop-replicate (length text) 16 0)
