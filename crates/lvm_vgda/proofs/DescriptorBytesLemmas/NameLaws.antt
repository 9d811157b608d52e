-- A name that is read is the name that was written, and what was written is read again.
use Rattle.std.proofs.Common.{◌≡◌, ℕ, ◌+◌, Bool, true, ◌&&◌, List, ◌++◌, length, Result, Ok, sym, ap, subst, ◌∙◌, arith}
use Rattle.std.specs.Prelude.{bytes_eq}
use Rattle.std.proofs.lemmas.Slice.Eq.{bytes_eq-Decides}
use Rattle.lvm_num.specs.Name.{is_name, padded, unpadded}
use Rattle.lvm_num.specs.DescriptorBytes.{is_name_field, name_at}
use Rattle.lvm_num.specs.Reading.{◌>>=◌, Rest, bytes_at}
use Rattle.lvm_num.proofs.NameLemmas.{unpadded-padded, length-name, length-padded}
use Rattle.lvm_vgda.proofs.passed.Fields.{IsBytes, bind_ok, ok_is, both, from_both, Takes, bytes_takes, bytes_again}

pub bytes_same : (xs ys : List ℕ) → bytes_eq xs ys ≡ true → xs ≡ ys
bytes_same xs ys e = (bytes_eq-Decides xs ys).0 e

pub name_takes : (test : List ℕ → Bool) (r : Rest) (x : List ℕ × Rest) → IsBytes r.1 → name_at test r ≡ Ok x
    → Takes r (padded x.0) x.1 × (is_name x.0 ≡ true) × (test x.0 ≡ true)
name_takes test r x fits e =
    let whole : List ℕ → Bool = λ bytes. is_name_field bytes && test (unpadded bytes) in
    let b = bind_ok (bytes_at 16 (λ bytes. is_name_field bytes && test (unpadded bytes)) r) (λ field. Ok (unpadded field.0, field.1)) x e in
    let t = bytes_takes 16 (λ bytes. is_name_field bytes && test (unpadded bytes)) r b.0 fits b.1 in
    let tests = both (is_name_field b.0.0) (test (unpadded b.0.0)) t.2 in
    let name = both (is_name (unpadded b.0.0)) (bytes_eq (padded (unpadded b.0.0)) b.0.0) tests.0 in
    let same : b.0.0 ≡ padded (unpadded b.0.0) = sym (bytes_same (padded (unpadded b.0.0)) b.0.0 name.1) in
    let made : List ℕ × Rest = (unpadded b.0.0, b.0.1) in
    subst (λ (y : List ℕ × Rest). Takes r (padded y.0) y.1 × (is_name y.0 ≡ true) × (test y.0 ≡ true)) (ok_is made x b.2)
    (subst (λ (field : List ℕ). Takes r field b.0.1) same t.0, name.0, tests.1)

pub same_bytes : (xs ys : List ℕ) → xs ≡ ys → bytes_eq xs ys ≡ true
same_bytes xs ys e = (bytes_eq-Decides xs ys).1 e

pub name_again : (test : List ℕ → Bool) (place : ℕ) (name rest : List ℕ) → is_name name ≡ true → test name ≡ true
    → name_at test (place, padded name ++ rest) ≡ Ok (name, (place + 16, rest))
name_again test place name rest is passes =
    let back : unpadded (padded name) ≡ name = unpadded-padded name is in
    let size : length (padded name) ≡ 16 = length-padded name (omega (arith, length-name name is)) in
    let text : is_name (unpadded (padded name)) ≡ true = ap is_name back ∙ is in
    let same : bytes_eq (padded (unpadded (padded name))) (padded name) ≡ true = same_bytes _ _ (ap padded back) in
    let tests : is_name_field (padded name) && test (unpadded (padded name)) ≡ true =
    from_both (is_name_field (padded name)) (test (unpadded (padded name))) (from_both (is_name (unpadded (padded name))) (bytes_eq (padded (unpadded (padded name))) (padded name)) text same) (ap test back ∙ passes) in
    ap (λ (read : Result (List ℕ × Rest) ℕ). read >>= λ field. Ok (unpadded field.0, field.1))
    (bytes_again 16 (λ bytes. is_name_field bytes && test (unpadded bytes)) place (padded name) rest size tests)
    ∙ ap (λ (text : List ℕ). Ok (text, (place + 16, rest))) back
