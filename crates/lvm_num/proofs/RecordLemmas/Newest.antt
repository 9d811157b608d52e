-- The newest of some records.
use Rattle.std.proofs.Common.{◌≡◌, ◌⊎◌, inl, inr, ⊎_elim, zero, suc, Bool, true, false, Option, Some, None, refl, sym, subst, arith}
use Rattle.std.specs.Prelude.{if◌then◌else◌}
use Rattle.std.proofs.lemmas.Bool.{cases_lt}
use Rattle.std.proofs.lemmas.Bool.Decides.{nat_tests}
use Rattle.lvm_num.specs.declared.record.Stamp.{Stamp}
use Rattle.lvm_num.specs.Record.{Stamped, stamp_lt, newer, newest_below, NewestIsOne, NewestIsLast}

-- the newer of two is one of them
pub of_two : {X : Type 0} (a b : Option (Stamped X)) (r : Stamped X) → newer a b ≡ Some r → (a ≡ Some r) ⊎ (b ≡ Some r)
of_two None b r e = inr e
of_two (Some a) None r e = inl e
of_two (Some a) (Some b) r e = by_test (stamp_lt a.stamp b.stamp) a b r e
  where
    by_test : {X : Type 0} (later : Bool) (p q s : Stamped X) → (if later then Some q else Some p) ≡ Some s → (Some p ≡ Some s) ⊎ (Some q ≡ Some s)
    by_test true p q s h = inr h
    by_test false p q s h = inl h

pub is_one : (X : Type 0) → NewestIsOne X
unfolding newest_below
is_one X at zero r e = absurd cc
is_one X at (suc n) r e = ⊎_elim (λ (h : newest_below at n ≡ Some r). let d = is_one X at n r h in (d.0, omega (arith, d.1), d.2)) (λ (h : at n ≡ Some r). (n, omega arith, h)) (of_two (newest_below at n) (at n) r e)

-- a stamp isn't before itself, and what isn't before a stamp isn't before an earlier one
pub not_itself : (a : Stamp) → stamp_lt a a ≡ false
not_itself a = grind (arith, nat_tests)

-- a isn't before b, and b isn't before c
not_before : (a b c : Stamp) → stamp_lt a b ≡ false → stamp_lt b c ≡ false → stamp_lt a c ≡ false
not_before a b c h k = grind (arith, nat_tests)

-- a is before b, and a isn't before c: neither is b
later_too : (a b c : Stamp) → stamp_lt a b ≡ true → stamp_lt a c ≡ false → stamp_lt b c ≡ false
later_too a b c h k = grind (arith, nat_tests)

-- the record that counts as the newest, and is no earlier than r
abbrev NoEarlier : {X : Type 0} → Option (Stamped X) → Stamped X → Type 0
NoEarlier {X} o r = (m : Stamped X) × (o ≡ Some m) × (stamp_lt m.stamp r.stamp ≡ false)

chosen : {X : Type 0} (later : Bool) (a b r : Stamped X) → (later ≡ true → stamp_lt b.stamp r.stamp ≡ false) → (later ≡ false → stamp_lt a.stamp r.stamp ≡ false) → NoEarlier (if later then Some b else Some a) r
chosen true a b r is_later isnt = (b, refl, is_later refl)
chosen false a b r is_later isnt = (a, refl, isnt refl)

with_earlier : {X : Type 0} (a : Stamped X) (b : Option (Stamped X)) (r : Stamped X) → stamp_lt a.stamp r.stamp ≡ false → NoEarlier (newer (Some a) b) r
with_earlier a None r h = (a, refl, h)
with_earlier a (Some b) r h = chosen (stamp_lt a.stamp b.stamp) a b r (λ is_later. later_too a.stamp b.stamp r.stamp is_later h) (λ isnt. h)

with_later : {X : Type 0} (a : Option (Stamped X)) (r : Stamped X) → NoEarlier (newer a (Some r)) r
with_later None r = (r, refl, not_itself r.stamp)
with_later (Some a) r = chosen (stamp_lt a.stamp r.stamp) a r r (λ is_later. not_itself r.stamp) (λ isnt. isnt)

pub is_last : (X : Type 0) → NewestIsLast X
unfolding newest_below
is_last X at zero d r lt e = absurd (omega arith)
is_last X at (suc n) d r lt e = elim (cases_lt d n) [
  | inl less ↦
      let m = is_last X at n d r less e in
      subst (λ (o : Option (Stamped X)). NoEarlier (newer o (at n)) r) (sym m.1) (with_earlier m.0 (at n) r m.2)
  | inr most ↦
      let same : d ≡ n = omega arith in
      let here : at n ≡ Some r = subst (λ k. at k ≡ Some r) same e in
      subst (λ (o : Option (Stamped X)). NoEarlier (newer (newest_below at n) o) r) (sym here) (with_later (newest_below at n) r)
]
