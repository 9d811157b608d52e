-- A field that is read is the field that was written, and what was written is read again.
use Rattle.std.proofs.Common.{◌≡◌, ℕ, zero, suc, ◌+◌, ◌^◌, ◌<◌, ◌≤◌, Bool, true, false, cond, ltb, List, [], ◌∷◌, ◌++◌, length, get_or, take, drop, replicate, Result, Ok, Err, refl, sym, ap, subst, ◌∙◌, append_assoc, length-append, arith}
use Rattle.std.specs.Prelude.{◌==◌}
use Rattle.std.specs.List.{list_all}
use Rattle.std.specs.Int.{Width, w8, w16, w32, w64, byte_len, from_be_bytes, to_be_bytes}
use Rattle.std.proofs.lemmas.Bool.{ltb-false, le-ltb, eqb-true}
use Rattle.std.proofs.lemmas.List.{take_at, drop_at, take-append-drop, length-take-le, length-replicate}
use Rattle.std.proofs.lemmas.Nat.{be_bytes_2, be_bytes_4, be_bytes_8, from_be_bytes-to_be_bytes_2, from_be_bytes-to_be_bytes_4, from_be_bytes-to_be_bytes_8}
use Rattle.lvm_num.specs.Reading.{◌>>=◌, Rest, bytes_at, number_at, zeros_at, end_at}
use Rattle.lvm_num.proofs.RecordLemmas.Records.{bytes-drop, bytes-take}
pub use Rattle.std.proofs.lemmas.Bool.{and_parts as both, and_from as from_both}

abbrev pub IsBytes : List ℕ → Type 0
IsBytes bytes = (i : ℕ) → get_or bytes i 0 < 256

-- the value of a step that did not fail
pub bind_ok : {A B : Type 0} (r : Result A ℕ) (f : A → Result B ℕ) (y : B) → (r >>= f) ≡ Ok y → (x : A) × (r ≡ Ok x) × (f x ≡ Ok y)
bind_ok (Ok x) f y e = (x, refl, e)
bind_ok (Err d) f y e = absurd cc

abbrev done : {A : Type 0} → A → Result A ℕ
done x = Ok x

pub ok_is : {A : Type 0} (x y : A) → done x ≡ done y → x ≡ y
ok_is x y e = cc

pub ok_isnt : {A : Type 0} (x : A) (place : ℕ) → done x ≡ Err place → ⊥
ok_isnt x place e = absurd cc

-- a field that is long enough and passes
tested : {A : Type 0} (short passes : Bool) (p q : ℕ) (x y : A) → cond short (Err p) (cond passes (Ok x) (Err q)) ≡ Ok y → (short ≡ false) × (passes ≡ true) × (x ≡ y)
tested true passes p q x y e = absurd cc
tested false true p q x y e = (refl, refl, cc)
tested false false p q x y e = absurd cc

-- what a reader took from the front
pub record Takes (r : Rest) (text : List ℕ) (after : Rest) : Type 0 where
  pub parts : r.1 ≡ text ++ after.1
  pub fits : IsBytes after.1

pub Takes-then : (a : Rest) (x : List ℕ) (b : Rest) (y : List ℕ) (c : Rest) → Takes a x b → Takes b y c → Takes a (x ++ y) c
Takes-then a x b y c p q = record {
  parts = p.parts ∙ ap (λ (t : List ℕ). x ++ t) q.parts ∙ sym (append_assoc x y c.1);
  fits = q.fits;
}

-- ---- bytes

pub bytes_takes : (n : ℕ) (test : List ℕ → Bool) (r : Rest) (x : List ℕ × Rest) → IsBytes r.1 → bytes_at n test r ≡ Ok x
    → Takes r x.0 x.1 × (length x.0 ≡ n) × (test x.0 ≡ true) × IsBytes x.0
bytes_takes n test r x fits e =
    let g = tested (ltb (length r.1) n) (test (take n r.1)) (r.0 + length r.1) r.0 (take n r.1, (r.0 + n, drop n r.1)) x e in
    let long : n ≤ length r.1 = ltb-false _ _ g.0 in
    let size : length (take n r.1) ≡ n = length-take-le n r.1 long in
    let took : Takes r (take n r.1) (r.0 + n, drop n r.1) = record { parts = sym (take-append-drop n r.1); fits = bytes-drop n r.1 fits } in
    subst (λ (y : List ℕ × Rest). Takes r y.0 y.1 × (length y.0 ≡ n) × (test y.0 ≡ true) × IsBytes y.0) g.2
    (took, size, g.1, bytes-take n r.1 fits)

pub bytes_again : (n : ℕ) (test : List ℕ → Bool) (place : ℕ) (field rest : List ℕ) → length field ≡ n → test field ≡ true
    → bytes_at n test (place, field ++ rest) ≡ Ok (field, (place + n, rest))
bytes_again n test place field rest size passes =
    let long : ltb (length (field ++ rest)) n ≡ false = le-ltb _ _ (omega (arith, length-append field rest, size)) in
    rw (long, take_at field rest n size, drop_at field rest n size, passes) refl

-- ---- numbers

pub record IsWide (w : Width) (limit : ℕ) : Type 0 where
  pub len : (n : ℕ) → length (to_be_bytes w n) ≡ byte_len w
  pub back : (bytes : List ℕ) → length bytes ≡ byte_len w → IsBytes bytes → to_be_bytes w (from_be_bytes w bytes) ≡ bytes
  pub again : (n : ℕ) → n < limit → from_be_bytes w (to_be_bytes w n) ≡ n
  pub below : (bytes : List ℕ) → IsBytes bytes → from_be_bytes w bytes < limit

one_back : (bytes : List ℕ) → length bytes ≡ 1 → IsBytes bytes → to_be_bytes w8 (from_be_bytes w8 bytes) ≡ bytes
one_back [] len fits = absurd cc
one_back (b ∷ []) len fits = ap (λ (x : ℕ). x ∷ []) (omega (arith, fits 0))
one_back (b ∷ c ∷ bytes) len fits = absurd (omega (arith, len))

pub wide8 : IsWide w8 (2 ^ 8)
wide8 = record { len = λ n. refl; back = one_back; again = λ n lt. omega (arith, lt); below = λ bytes fits. fits 0 }

pub wide16 : IsWide w16 (2 ^ 16)
wide16 = record { len = λ n. refl; back = λ bytes len fits. be_bytes_2 bytes _ len fits refl; again = λ n lt. from_be_bytes-to_be_bytes_2 n lt; below = λ bytes fits. omega (arith, fits 0, fits 1) }

pub wide32 : IsWide w32 (2 ^ 32)
wide32 = record { len = λ n. refl; back = λ bytes len fits. be_bytes_4 bytes _ len fits refl; again = λ n lt. from_be_bytes-to_be_bytes_4 n lt; below = λ bytes fits. omega (arith, fits 0, fits 1, fits 2, fits 3) }

pub wide64 : IsWide w64 (2 ^ 64)
wide64 = record { len = λ n. refl; back = λ bytes len fits. be_bytes_8 bytes _ len fits refl; again = λ n lt. from_be_bytes-to_be_bytes_8 n lt; below = λ bytes fits. omega (arith, fits 0, fits 1, fits 2, fits 3, fits 4, fits 5, fits 6, fits 7) }

pub number_takes : (w : Width) (limit : ℕ) (wide : IsWide w limit) (test : ℕ → Bool) (r : Rest) (x : ℕ × Rest) → IsBytes r.1 → number_at w test r ≡ Ok x
    → Takes r (to_be_bytes w x.0) x.1 × (test x.0 ≡ true) × (x.0 < limit)
number_takes w limit wide test r x fits e =
    let b = bind_ok (bytes_at (byte_len w) (λ bytes. test (from_be_bytes w bytes)) r) (λ field. Ok (from_be_bytes w field.0, field.1)) x e in
    let t = bytes_takes (byte_len w) (λ bytes. test (from_be_bytes w bytes)) r b.0 fits b.1 in
    let back : b.0.0 ≡ to_be_bytes w (from_be_bytes w b.0.0) = sym (wide.back b.0.0 t.1 t.3) in
    let made : ℕ × Rest = (from_be_bytes w b.0.0, b.0.1) in
    subst (λ (y : ℕ × Rest). Takes r (to_be_bytes w y.0) y.1 × (test y.0 ≡ true) × (y.0 < limit)) (ok_is made x b.2)
    (subst (λ (field : List ℕ). Takes r field b.0.1) back t.0, t.2, wide.below b.0.0 t.3)

pub number_again : (w : Width) (limit : ℕ) (wide : IsWide w limit) (test : ℕ → Bool) (place n : ℕ) (rest : List ℕ) → n < limit → test n ≡ true
    → number_at w test (place, to_be_bytes w n ++ rest) ≡ Ok (n, (place + byte_len w, rest))
number_again w limit wide test place n rest lt passes =
    let back : from_be_bytes w (to_be_bytes w n) ≡ n = wide.again n lt in
    let field : bytes_at (byte_len w) (λ bytes. test (from_be_bytes w bytes)) (place, to_be_bytes w n ++ rest) ≡ Ok (to_be_bytes w n, (place + byte_len w, rest)) =
    bytes_again (byte_len w) (λ bytes. test (from_be_bytes w bytes)) place (to_be_bytes w n) rest (wide.len n) (ap test back ∙ passes) in
    ap (λ (read : Result (List ℕ × Rest) ℕ). read >>= λ got. Ok (from_be_bytes w got.0, got.1)) field
    ∙ ap (λ m. Ok (m, (place + byte_len w, rest))) back

-- a number that was read passes
pub number_passes : (w : Width) (test : ℕ → Bool) (r : Rest) (x : ℕ × Rest) → number_at w test r ≡ Ok x → test x.0 ≡ true
number_passes w test r x e =
    let b = bind_ok (bytes_at (byte_len w) (λ bytes. test (from_be_bytes w bytes)) r) (λ field. Ok (from_be_bytes w field.0, field.1)) x e in
    let g = tested (ltb (length r.1) (byte_len w)) (test (from_be_bytes w (take (byte_len w) r.1))) (r.0 + length r.1) r.0 (take (byte_len w) r.1, (r.0 + byte_len w, drop (byte_len w) r.1)) b.0 b.1 in
    let made : ℕ × Rest = (from_be_bytes w b.0.0, b.0.1) in
    subst (λ (y : ℕ × Rest). test y.0 ≡ true) (ok_is made x b.2) (subst (λ (y : List ℕ × Rest). test (from_be_bytes w y.0) ≡ true) g.2 g.1)

-- a number is that of its bytes, whatever its test is
pub number_value : (w : Width) (test : ℕ → Bool) (r : Rest) (x : ℕ × Rest) → number_at w test r ≡ Ok x → from_be_bytes w (take (byte_len w) r.1) ≡ x.0
number_value w test r x e =
    let b = bind_ok (bytes_at (byte_len w) (λ bytes. test (from_be_bytes w bytes)) r) (λ field. Ok (from_be_bytes w field.0, field.1)) x e in
    let g = tested (ltb (length r.1) (byte_len w)) (test (from_be_bytes w (take (byte_len w) r.1))) (r.0 + length r.1) r.0 (take (byte_len w) r.1, (r.0 + byte_len w, drop (byte_len w) r.1)) b.0 b.1 in
    let made : ℕ × Rest = (from_be_bytes w b.0.0, b.0.1) in
    subst (λ (y : ℕ × Rest). from_be_bytes w (take (byte_len w) r.1) ≡ y.0) (ok_is made x b.2) (ap (λ (y : List ℕ × Rest). from_be_bytes w y.0) g.2)

-- a byte stands for itself
one_byte : (bytes : List ℕ) → length bytes ≡ 1 → bytes ≡ from_be_bytes w8 bytes ∷ []
one_byte [] len = absurd (omega (arith, len))
one_byte (b ∷ []) len = ap (λ n. n ∷ []) (omega arith)
one_byte (b ∷ c ∷ bs) len = absurd (omega (arith, len))

pub byte_takes : (test : ℕ → Bool) (r : Rest) (x : ℕ × Rest) → IsBytes r.1 → number_at w8 test r ≡ Ok x → Takes r (x.0 ∷ []) x.1 × (test x.0 ≡ true)
byte_takes test r x fits e =
    let b = bind_ok (bytes_at 1 (λ bytes. test (from_be_bytes w8 bytes)) r) (λ field. Ok (from_be_bytes w8 field.0, field.1)) x e in
    let t = bytes_takes 1 (λ bytes. test (from_be_bytes w8 bytes)) r b.0 fits b.1 in
    let back : b.0.0 ≡ from_be_bytes w8 b.0.0 ∷ [] = one_byte b.0.0 t.1 in
    let made : ℕ × Rest = (from_be_bytes w8 b.0.0, b.0.1) in
    subst (λ (y : ℕ × Rest). Takes r (y.0 ∷ []) y.1 × (test y.0 ≡ true)) (ok_is made x b.2)
    (subst (λ (field : List ℕ). Takes r field b.0.1) back t.0, t.2)

pub byte_again : (test : ℕ → Bool) (place n : ℕ) (rest : List ℕ) → test n ≡ true → number_at w8 test (place, n ∷ rest) ≡ Ok (n, (place + 1, rest))
byte_again test place n rest passes =
    let back : from_be_bytes w8 (n ∷ []) ≡ n = omega arith in
    let field : bytes_at 1 (λ bytes. test (from_be_bytes w8 bytes)) (place, n ∷ rest) ≡ Ok (n ∷ [], (place + 1, rest)) =
    bytes_again 1 (λ bytes. test (from_be_bytes w8 bytes)) place (n ∷ []) rest refl (ap test back ∙ passes) in
    ap (λ (read : Result (List ℕ × Rest) ℕ). read >>= λ got. Ok (from_be_bytes w8 got.0, got.1)) field
    ∙ ap (λ m. Ok (m, (place + 1, rest))) back

-- ---- zeros

are_zeros : (bytes : List ℕ) → list_all (λ b. b == 0) bytes ≡ true → bytes ≡ replicate (length bytes) 0
are_zeros [] e = refl
are_zeros (b ∷ bytes) e =
    let parts = both (b == 0) (list_all (λ b. b == 0) bytes) e in
    let first : b ≡ 0 = eqb-true b 0 parts.0 in
    ap (λ n. n ∷ bytes) first ∙ ap (λ (rest : List ℕ). 0 ∷ rest) (are_zeros bytes parts.1)

zeros_pass : (n : ℕ) → list_all (λ b. b == 0) (replicate n 0) ≡ true
zeros_pass zero = refl
zeros_pass (suc n) = zeros_pass n

pub zeros_take : (n : ℕ) (r after : Rest) → IsBytes r.1 → zeros_at n r ≡ Ok after → Takes r (replicate n 0) after
zeros_take n r after fits e =
    let b = bind_ok (bytes_at n (λ bytes. list_all (λ b. b == 0) bytes) r) (λ field. Ok field.1) after e in
    let t = bytes_takes n (λ bytes. list_all (λ b. b == 0) bytes) r b.0 fits b.1 in
    let is : b.0.0 ≡ replicate n 0 = are_zeros b.0.0 t.2 ∙ ap (λ k. replicate k 0) t.1 in
    subst (λ (y : Rest). Takes r (replicate n 0) y) (ok_is b.0.1 after b.2) (subst (λ (field : List ℕ). Takes r field b.0.1) is t.0)

pub zeros_again : (n place : ℕ) (rest : List ℕ) → zeros_at n (place, replicate n 0 ++ rest) ≡ Ok (place + n, rest)
zeros_again n place rest =
    ap (λ (read : Result (List ℕ × Rest) ℕ). read >>= λ field. Ok field.1)
    (bytes_again n (λ bytes. list_all (λ b. b == 0) bytes) place (replicate n 0) rest (length-replicate {A = ℕ} n 0) (zeros_pass n))

-- ---- the end

pub end_takes : {X : Type 0} (x : X) (place : ℕ) (bytes : List ℕ) (y : X) → end_at x (place, bytes) ≡ Ok y → (bytes ≡ []) × (x ≡ y)
end_takes x place [] y e = (refl, ok_is x y e)
end_takes x place (b ∷ bytes) y e = absurd cc
