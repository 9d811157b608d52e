-- Bytes that are put one piece after the other.
use Rattle.std.proofs.Common.{◌≡◌, ℕ, ◌+◌, ◌<◌, ◌≤◌, List, [], ◌++◌, append-nil, append_assoc, length, get_or, take, drop, sym, ap, subst, ◌∙◌, arith}
use Rattle.std.specs.Prelude.{flat_map}
use Rattle.std.proofs.lemmas.List.{take_at, drop_at, drop-drop, take-append-drop, length-append, length-take-le}
use Rattle.lvm_num.proofs.Lists.{pieces-more}
use Rattle.lvm_vgsa.specs.Putting.{Puts}

pub puts_none : (old : List ℕ) (at : ℕ) → Puts old old at []
puts_none old at =
    sym (take-append-drop at old)
    ∙ ap (λ (xs : List ℕ). xs ++ drop at old) (sym (append-nil (take at old)))
    ∙ ap (λ n. take at old ++ [] ++ drop n old) (let e : at ≡ at + 0 = omega arith in e)

pub puts_both : (old mid new : List ℕ) (at end : ℕ) (first second : List ℕ) → Puts old mid at first → Puts mid new end second
    → end ≡ at + length first → end + length second ≤ length old → Puts old new at (first ++ second)
puts_both old mid new at end first second one two is fits =
    let front = take at old ++ first in
    let rest = drop (at + length first) old in
    let cut = length-take-le at old (omega arith) in
    let size : length (take at old ++ first) ≡ end = omega (arith, length-append (take at old) first, cut, is) in
    let before : take end mid ≡ take at old ++ first = ap (take end) one ∙ take_at (take at old ++ first) (drop (at + length first) old) end size in
    let behind : drop end mid ≡ drop (at + length first) old = ap (drop end) one ∙ drop_at (take at old ++ first) (drop (at + length first) old) end size in
    let place : at + length first + length second ≡ at + length (first ++ second) = omega (arith, length-append first second) in
    let after : drop (end + length second) mid ≡ drop (at + length (first ++ second)) old =
    sym (drop-drop (length second) end mid) ∙ ap (drop (length second)) behind ∙ drop-drop (length second) (at + length first) old ∙ ap (λ n. drop n old) place in
    two
    ∙ ap (λ (xs : List ℕ). xs ++ second ++ drop (end + length second) mid) before
    ∙ ap (λ (xs : List ℕ). take at old ++ first ++ second ++ xs) after
    ∙ ap (λ (xs : List ℕ). xs ++ drop (at + length (first ++ second)) old) (append_assoc (take at old) first second)

-- three pieces from the front on
pub puts_three : (old a b new : List ℕ) (m n : ℕ) (first second third : List ℕ) → Puts old a 0 first → Puts a b m second → Puts b new n third
    → m ≡ length first → n ≡ length first + length second → n + length third ≤ length old → length a ≡ length old
    → new ≡ first ++ second ++ third ++ drop (length (first ++ second ++ third)) old
puts_three old a b new m n first second third one two three m-is n-is fits same =
    let both = puts_both old a b 0 m first second one two (omega (arith, m-is)) (omega (arith, m-is, n-is, fits)) in
    let all = puts_both old b new 0 n (first ++ second) third both three (omega (arith, n-is, length-append first second)) fits in
    all ∙ ap (λ k. first ++ second ++ third ++ drop k old) (let e : 0 + length (first ++ second ++ third) ≡ length (first ++ second ++ third) = omega arith in e)

-- a further piece of a list of pieces
pub puts_more : {X : Type 0} (f : X → List ℕ) (xs : List X) (k : ℕ) (d : X) (old mid new : List ℕ) (at end : ℕ) (last : List ℕ) → k < length xs
    → Puts old mid at (flat_map f (take k xs)) → Puts mid new end last → last ≡ f (get_or xs k d)
    → end ≡ at + length (flat_map f (take k xs)) → end + length last ≤ length old → Puts old new at (flat_map f (take (k + 1) xs))
puts_more f xs k d old mid new at end last lt before here is end-is fits =
    let both = puts_both old mid new at end (flat_map f (take k xs)) last before here end-is fits in
    let more : flat_map f (take k xs) ++ last ≡ flat_map f (take (k + 1) xs) = ap (λ (l : List ℕ). flat_map f (take k xs) ++ l) is ∙ sym (pieces-more f xs k d lt) in
    subst (Puts old new at) more both
