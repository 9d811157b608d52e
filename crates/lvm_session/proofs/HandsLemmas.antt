-- The table and the pool as one after the other gives back what it has in hand.
use Rattle.std.proofs.Common.{◌≡◌, ℕ, zero, suc, ◌<◌, ◌+◌, Bool, true, false, List, [], ◌∷◌, ◌++◌, Option, length, take, drop, map, get_or, slice_set, refl, sym, ◌∙◌, ap, subst, arith, add-one}
use Rattle.std.proofs.Math.Seq.{drop-cons}
use Rattle.std.proofs.lemmas.List.{get_or_default}
use Rattle.std.proofs.lemmas.List.Edits.{map_over_more}
use Rattle.std.proofs.lemmas.Grind.{common_steps}
use Rattle.lvm_session.specs.passed.Num.{Buffer}
use Rattle.lvm_vol.specs.declared.entry.Outcome.{Outcome}
use Rattle.lvm_session.specs.declared.open.Open.{Open}
use Rattle.lvm_session.specs.Bringing.{with_back}
use Rattle.lvm_session.specs.Judging.{is_waiting}
use Rattle.lvm_session.specs.Dark.{ended_as, with_hands}
use Rattle.lvm_session.specs.Hands.{AreInHand, IsInHand, IsOutIf, back_if}

-- what is handed out is what was in hand
pub hand_is : (pool : List Bool) (o : Open) → IsInHand pool o → back_if (is_waiting o) o.got ≡ o.got
hand_is pool o its = by_test (is_waiting o) refl
  where
    by_test : (b : Bool) → is_waiting o ≡ b → back_if b o.got ≡ o.got
    by_test true is = refl
    by_test false is = sym (its.none is)

-- So far the first ones have ended, and the pool is to take back what the others have in hand.
pub record IsGiving (how : Outcome) (first : List Bool) (all : List Open) (i : ℕ) (pool : List Bool) (now : List Open) : Type 0 where
  pub table : now ≡ map (ended_as how) (take i all) ++ drop i all
  pub pool_is : with_hands pool (drop i all) ≡ with_hands first all
  pub hands : AreInHand pool (drop i all)

drop_front : (f : Open → Open) (i : ℕ) (xs : List Open) → drop i (map f (take i xs) ++ drop i xs) ≡ drop i xs
drop_front f zero xs = refl
drop_front f (suc i) [] = refl
drop_front f (suc i) (x ∷ xs) = drop_front f i xs

module _ (how : Outcome) (first : List Bool) (all : List Open) (i : ℕ) (pool : List Bool) (now : List Open) (d : Open) (below : i < length all) (so_far : IsGiving how first all i pool now) where
  abbrev o : Open
  o = get_or now i d

  front : drop i now ≡ drop i all
  front = ap (drop i) so_far.table ∙ drop_front (ended_as how) i all

  long : length now ≡ length all
  long = ap length so_far.table ∙ fits
    where
      fits : length (map (ended_as how) (take i all) ++ drop i all) ≡ length all
      fits = grind (arith, common_steps)

  within : i < length now
  within = omega (arith, below, long)

  its_rest : drop i all ≡ o ∷ drop (i + 1) all
  its_rest =
      let seen = sym (drop-cons now i d within) ∙ front ∙ drop-cons all i d below in
      drop-cons all i d below ∙ ap (λ x. x ∷ drop (suc i) all) (sym (heads seen)) ∙ ap (λ n. o ∷ drop n all) (sym (add-one i))
    where
      heads : {x y : Open} {xs ys : List Open} → x ∷ xs ≡ y ∷ ys → x ≡ y
      heads e = cc e

  hands : IsInHand pool o × AreInHand (with_back pool o.got) (drop (i + 1) all)
  hands = subst (AreInHand pool) its_rest so_far.hands

  -- what it hands out is out
  pub is_out : (hand : Option Buffer) → hand ≡ back_if (is_waiting o) o.got → IsOutIf pool hand
  is_out hand is = subst (IsOutIf pool) (sym (is ∙ hand_is pool o hands.0)) hands.0.out

  -- it has ended, and the pool has its buffer
  pub gives_more : (hand : Option Buffer) (back : List Bool) (ended : Open) → hand ≡ back_if (is_waiting o) o.got → back ≡ with_back pool hand → ended ≡ ended_as how o → IsGiving how first all (i + 1) back (slice_set now i ended)
  gives_more hand back ended hand_gives back_gives ends =
      let pool_now : back ≡ with_back pool o.got = back_gives ∙ ap (with_back pool) (hand_gives ∙ hand_is pool o hands.0) in
      record {
        table = ap (λ (x : Open). slice_set now i x) ends ∙ map_over_more (ended_as how) all now i o below so_far.table (get_or_default now i d o within);
        pool_is = ap (λ (p : List Bool). with_hands p (drop (i + 1) all)) pool_now ∙ sym (ap (with_hands pool) its_rest) ∙ so_far.pool_is;
        hands = subst (λ (p : List Bool). AreInHand p (drop (i + 1) all)) (sym pool_now) hands.1;
      }
