-- What the pieces of a range decide, one after the other.
use Rattle.std.proofs.Common.{◌≡◌, ◌<◌, ◌+◌, ℕ, false, List, [], ◌∷◌, ◌++◌, Option, Some, None, refl, ◌∙◌, ap, subst, arith, below_more}
use Rattle.std.specs.Prelude.{Ok, Err}
use Rattle.std.specs.Option.{option_or}
use Rattle.lvm_vol.specs.Facts.{Fact}
use Rattle.lvm_vol.specs.Log.{lands_id}
use Rattle.lvm_keeps.proofs.SoundLemmas.Telling.{outcome_still}
use Rattle.lvm_posts.specs.declared.asked.Asked.{Asked}
use Rattle.lvm_posts.specs.declared.fault.RangeFault.{RangeFault}
use Rattle.lvm_posts.specs.Deciding.{AllWell, EndsWith, FirstFails, RangeEnds}

-- none of the first pieces has failed, or the first that did decides
pub data DecidesSoFar (facts : List Fact) (asked : Asked) (have total n : ℕ) (fault : Option RangeFault) : Type 0 where
  NoneFails : ((k : ℕ) → k < n → EndsWith facts asked have total k None) → fault ≡ None → DecidesSoFar facts asked have total n fault
  OneFails : (k : ℕ) (why : RangeFault) → k < n → ((j : ℕ) → j < k → EndsWith facts asked have total j None) → EndsWith facts asked have total k (Some why) → fault ≡ Some why → DecidesSoFar facts asked have total n fault

pub none_yet : (facts : List Fact) (asked : Asked) (have total : ℕ) → DecidesSoFar facts asked have total 0 None
none_yet facts asked have total = NoneFails (λ k less. absurd (omega (arith, less))) refl

-- the entry lands nothing
abbrev pub LandsNone : Fact → Type 0
LandsNone f = (id : ℕ) → lands_id id f ≡ false

-- it changes no answer
ends_still : (facts : List Fact) (f : Fact) (asked : Asked) (have total k : ℕ) (why : Option RangeFault) → LandsNone f → EndsWith facts asked have total k why → EndsWith (facts ++ f ∷ []) asked have total k why
ends_still facts f asked have total k why none ends = record { how = ends.how; landed = outcome_still facts f (asked.first + k) (none (asked.first + k)) ∙ ends.landed; fault = ends.fault }

pub decides_more : (facts : List Fact) (f : Fact) (asked : Asked) (have total n : ℕ) (fault failed : Option RangeFault) → LandsNone f → DecidesSoFar facts asked have total n fault → EndsWith facts asked have total n failed
    → DecidesSoFar (facts ++ f ∷ []) asked have total (n + 1) (option_or fault failed)
decides_more facts f asked have total n fault failed none (OneFails k why less before fails is) ends =
    OneFails k why (omega (arith, less)) (λ j low. ends_still facts f asked have total j None none (before j low)) (ends_still facts f asked have total k (Some why) none fails) (ap (λ m. option_or m failed) is)
decides_more facts f asked have total n fault failed none (NoneFails well is) ends = by failed ends
  where
    all_well : (k : ℕ) → k < n → EndsWith (facts ++ f ∷ []) asked have total k None
    all_well k less = ends_still facts f asked have total k None none (well k less)

    by : (m : Option RangeFault) → EndsWith facts asked have total n m → DecidesSoFar (facts ++ f ∷ []) asked have total (n + 1) (option_or fault m)
    by None ends = NoneFails (below_more (λ k. EndsWith (facts ++ f ∷ []) asked have total k None) n all_well (ends_still facts f asked have total n None none ends)) (ap (λ m. option_or m None) is)
    by (Some why) ends = OneFails n why (omega arith) all_well (ends_still facts f asked have total n (Some why) none ends) (ap (λ m. option_or m (Some why)) is)

-- so the range ends
decided : (facts : List Fact) (asked : Asked) (have total : ℕ) → DecidesSoFar facts asked have total asked.pieces None → RangeEnds facts asked have total (Ok tt)
decided facts asked have total (NoneFails well is) = AllWell well refl
decided facts asked have total (OneFails k why less before fails is) = absurd (cc is)

decided_fault : (facts : List Fact) (asked : Asked) (have total : ℕ) (why : RangeFault) → DecidesSoFar facts asked have total asked.pieces (Some why) → RangeEnds facts asked have total (Err why)
decided_fault facts asked have total why (NoneFails well is) = absurd (cc is)
decided_fault facts asked have total why (OneFails k other less before fails is) = let same : why ≡ other = cc is in FirstFails k other less before fails (ap Err same)

pub ends_failed : (facts : List Fact) (asked : Asked) (have total n : ℕ) (fault : Option RangeFault) (why : RangeFault) → n ≡ asked.pieces → fault ≡ Some why → DecidesSoFar facts asked have total n fault
    → RangeEnds facts asked have total (Err why)
ends_failed facts asked have total n fault why last is decides =
    decided_fault facts asked have total why (subst (λ m. DecidesSoFar facts asked have total m (Some why)) last (subst (DecidesSoFar facts asked have total n) is decides))

pub ends_well : (facts : List Fact) (asked : Asked) (have total n : ℕ) (fault : Option RangeFault) → n ≡ asked.pieces → fault ≡ None → DecidesSoFar facts asked have total n fault → RangeEnds facts asked have total (Ok tt)
ends_well facts asked have total n fault last is decides =
    decided facts asked have total (subst (λ m. DecidesSoFar facts asked have total m None) last (subst (DecidesSoFar facts asked have total n) is decides))
