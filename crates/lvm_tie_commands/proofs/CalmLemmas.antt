-- Where each request of a run has landed, no write is open that wasn't before it.
use Rattle.std.proofs.Common.{◌≡◌, ◌⊎◌, if◌then◌else◌, inl, inr, ⊎_elim, ℕ, Bool, true, false, ◌&&◌, ◌||◌, ◌==◌, ◌++◌, not, List, [], ◌∷◌, Some, is_some, refl, sym, ap, ◌∙◌, arith}
use Rattle.std.specs.List.{find, list_any}
use Rattle.std.proofs.lemmas.Bool.Decides.{nat_tests}
use Rattle.lvm_vol.specs.declared.entry.Outcome.{Outcome}
use Rattle.lvm_vol.specs.Facts.{Fact, Request, Making, Made, Split, Removing, Removed, Begun, Landed, Taken, Cut, On, IsInList, begun, same_request}
use Rattle.lvm_vol.specs.Legal.{Legal, lands}
use Rattle.lvm_vol.specs.Log.{asked, has_id, lands_id}
use Rattle.lvm_vol.specs.Order.{Ordered}
use Rattle.lvm_vol.proofs.FactsLemmas.Order.{IsNumbered, numbered, stands_begun}
use Rattle.lvm_kept.specs.Moments.{Calm}
use Rattle.lvm_tie.specs.passed.Rest.{AllLand}
use Rattle.lvm_tie.proofs.passed.Rest.{landed_are_closed}
use Rattle.lvm_settled.specs.passed.Core.{HaveAllLanded}

-- a request that stands there is found by its number
is_found : (rs : List Request) (r : Request) → IsInList r rs → is_some (find (has_id r.id) rs) ≡ true
is_found [] r none = absurd none
is_found (s ∷ rs) r there = by (λ later. is_found rs r later) (s.id == r.id) refl there
  where
    same_id : (n : ℕ) → (n == n) ≡ true
    same_id n = grind (arith, nat_tests)

    by : (IsInList r rs → is_some (find (has_id r.id) rs) ≡ true) → (t : Bool) → (s.id == r.id) ≡ t → IsInList r (s ∷ rs) → is_some (find (has_id r.id) (s ∷ rs)) ≡ true
    by rest true same there = ap (λ (t : Bool). is_some (if t then Some s else find (has_id r.id) rs)) same
    by rest false other (inl is) = absurd (let e : (s.id == r.id) ≡ true = ap (λ (x : Request). x.id == r.id) is ∙ same_id r.id in let no : true ≡ false = sym e ∙ other in cc no)
    by rest false other (inr later) = ap (λ (t : Bool). is_some (if t then Some s else find (has_id r.id) rs)) other ∙ rest later

-- each landing of these is of the request's run
abbrev OfItsRun : Request → List Fact → Type 0
OfItsRun r facts = (s : Request) (how : Outcome) (started : Bool) (got : List (List ℕ)) → IsInList (Landed s how started got) facts → s.run ≡ r.run

lands_by : (r : Request) (facts : List Fact) → OfItsRun r facts → list_any (lands_id r.id) facts ≡ true → list_any (lands r) facts ≡ true
lands_by r [] runs none = absurd (cc none)
lands_by r (f ∷ facts) runs some = ⊎_elim
    (λ (here : lands_id r.id f ≡ true). ap (λ (t : Bool). t || list_any (lands r) facts) (own f refl here))
    (λ (later : list_any (lands_id r.id) facts ≡ true). ap (λ (t : Bool). lands r f || t) (lands_by r facts (λ s how started got there. runs s how started got (inr there)) later) ∙ or_true (lands r f))
    (split (lands_id r.id f) (list_any (lands_id r.id) facts) some)
  where
    or_true : (b : Bool) → b || true ≡ true
    or_true true = refl
    or_true false = refl

    split : (a b : Bool) → a || b ≡ true → (a ≡ true) ⊎ (b ≡ true)
    split true b is = inl refl
    split false b is = inr is

    both : (s : Request) → s.run ≡ r.run → (s.id == r.id) ≡ true → same_request r s ≡ true
    both s run id = let a : (r.run == s.run) ≡ true = grind (arith, nat_tests) in let b : (r.id == s.id) ≡ true = grind (arith, nat_tests) in ap (λ (t : Bool). t && (r.id == s.id)) a ∙ b

    own : (g : Fact) → f ≡ g → lands_id r.id g ≡ true → lands r g ≡ true
    own (Landed s how started got) is id = both s (runs s how started got (inl is)) id
    own (Making lv blocks m) is never = absurd (cc never)
    own (Made lv) is never = absurd (cc never)
    own (Split from lv) is never = absurd (cc never)
    own (Removing vol) is never = absurd (cc never)
    own (Removed vol) is never = absurd (cc never)
    own (Begun s) is never = absurd (cc never)
    own (Taken s) is never = absurd (cc never)
    own Cut is never = absurd (cc never)
    own (On moment) is never = absurd (cc never)

all_land : (run : ℕ) (facts : List Fact) → Ordered run [] facts → HaveAllLanded facts → AllLand facts
all_land run facts ordered landed r began =
    let its : IsNumbered run facts = numbered run facts ordered in
    let stands : IsInList r (begun facts) = stands_begun facts r began in
    lands_by r facts (λ s how started got there. its.runs s (its.landed s how started got there).began ∙ sym (its.runs r stands))
    (closed (is_some (asked facts r.id)) (list_any (lands_id r.id) facts) (is_found (begun facts) r stands) (landed r.id))
  where
    closed : (a b : Bool) → a ≡ true → a && not b ≡ false → b ≡ true
    closed true true some none = refl
    closed true false some none = absurd (cc none)
    closed false b some none = absurd (cc some)

pub calm_since : (run : ℕ) (past facts : List Fact) → Legal (past ++ facts) → Calm past → Ordered run [] facts → HaveAllLanded facts → Calm (past ++ facts)
calm_since run past facts legal calm ordered landed = landed_are_closed past facts legal calm (all_land run facts ordered landed)
