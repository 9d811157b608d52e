-- Where each request has landed of which the history tells, no write is open at the end of a span that was none at its beginning.
use Rattle.std.proofs.Common.{◌≡◌, inl, inr, ℕ, ◌+◌, Bool, true, false, ◌&&◌, ◌||◌, not, List, [], ◌∷◌, ◌++◌, Some, is_some, count_by, append_assoc, refl, sym, ap, subst, ◌∙◌, arith}
use Rattle.std.specs.Prelude.{if◌then◌else◌, ◌==◌}
use Rattle.std.specs.List.{find, list_any}
use Rattle.std.proofs.lemmas.Bool.{eq-eqb, eqb-true}
use Rattle.std.proofs.lemmas.List.{append-nil}
use Rattle.std.proofs.lemmas.List.Folds.{list_any-append}
use Rattle.lvm_num.proofs.Booleans.{first_fails}
use Rattle.lvm_disk.specs.Paths.{Path, Here, Then}
use Rattle.lvm_disk.proofs.PathsLemmas.{append-path, last-path, map-path}
use Rattle.lvm_vol.specs.declared.entry.Outcome.{Outcome}
use Rattle.lvm_vol.specs.Facts.{Fact, Request, Making, Made, Split, Removing, Removed, Begun, Landed, Taken, Cut, On, IsInList, begun}
use Rattle.lvm_vol.specs.Legal.{Fits, Legal, begins_in, lands}
use Rattle.lvm_vol.specs.Log.{asked, has_id, lands_id}
use Rattle.lvm_vol.specs.Order.{Ordered}
use Rattle.lvm_vol.proofs.LawsLemmas.Legality.{legal_prefix, legal_push, unlanded}
use Rattle.lvm_vol.proofs.FactsLemmas.Order.{IsNumbered, any-push, numbered, stands_begun}
use Rattle.lvm_kept.specs.Moments.{Calm, Enters, Moment, Moves, Step}
use Rattle.lvm_kept.proofs.MomentsLemmas.Chaining.{span_told}
use Rattle.lvm_steps.specs.Moments.{RunBegins, HistoryHolds, Keeps, Upholds}
use Rattle.lvm_settled.proofs.passed.Rest.{landed_are_closed}
use Rattle.lvm_handover.specs.passed.Core.{HaveAllLanded}

-- ---- what a span enters

-- a moment has the entries of the one before, and perhaps one more
grown : (first : List Fact) (old new : Moment) → Step old new → (more : List Fact) × (old.facts ≡ first ++ more) → (more : List Fact) × (new.facts ≡ first ++ more)
grown first old new (Moves step same) before = (before.0, same ∙ before.1)
grown first old new (Enters f still is) before = (before.0 ++ f ∷ [], is ∙ ap (λ (l : List Fact). l ++ f ∷ []) before.1 ∙ append_assoc first before.0 (f ∷ []))

grows : {P : Moment → Type 0} {first last : Moment} → Path Step P first last → (more : List Fact) × (last.facts ≡ first.facts ++ more)
grows {first = first} (Here p) = ([], sym (append-nil first.facts))
grows {first = first} (Then path step p) = grown first.facts _ _ step (grows path)

-- ---- what begins later lands later

-- a request hasn't landed before it begins
not_landed : (before facts : List Fact) (r : Request) → Legal (before ++ facts) → IsInList (Begun r) facts → list_any (lands r) before ≡ false
not_landed before [] r legal none = absurd none
not_landed before (f ∷ facts) r legal (inl is) =
    let both = (legal_push before f).0 (legal_prefix (before ++ f ∷ []) facts (subst Legal (sym (append_assoc before (f ∷ []) facts)) legal)) in
    let number : r.id ≡ count_by (begins_in r.run) before + 1 = subst (λ (g : Fact). Fits before g) is both.1 in
    unlanded before r both.0 (omega (arith, number))
not_landed before (f ∷ facts) r legal (inr there) =
    first_fails (list_any (lands r) before) (lands r f)
    (sym (any-push (lands r) before f) ∙ not_landed (before ++ f ∷ []) facts r (subst Legal (sym (append_assoc before (f ∷ []) facts)) legal) there)

-- ---- each has landed

stands_right : {X : Type 0} (xs ys : List X) (x : X) → IsInList x ys → IsInList x (xs ++ ys)
stands_right [] ys x there = there
stands_right (y ∷ xs) ys x there = inr (stands_right xs ys x there)

-- a request that stands there is found by its number
is_found : (rs : List Request) (r : Request) → IsInList r rs → is_some (find (has_id r.id) rs) ≡ true
is_found [] r none = absurd none
is_found (s ∷ rs) r there = by (is_found rs r) (has_id r.id s) refl there
  where
    by : (IsInList r rs → is_some (find (has_id r.id) rs) ≡ true) → (t : Bool) → has_id r.id s ≡ t → IsInList r (s ∷ rs) → is_some (find (has_id r.id) (s ∷ rs)) ≡ true
    by rest true same there = ap (λ (t : Bool). is_some (if t then Some s else find (has_id r.id) rs)) same
    by rest false other (inl is) = absurd (let no : true ≡ false = sym (eq-eqb s.id r.id (ap (λ (x : Request). x.id) is)) ∙ other in cc no)
    by rest false other (inr later) = ap (λ (t : Bool). is_some (if t then Some s else find (has_id r.id) rs)) other ∙ rest later

-- what lands a number lands the request of the run that has it
lands_by : (r : Request) (facts : List Fact) → ((s : Request) (how : Outcome) (started : Bool) (got : List (List ℕ)) → IsInList (Landed s how started got) facts → s.run ≡ r.run)
    → list_any (lands_id r.id) facts ≡ true → list_any (lands r) facts ≡ true
lands_by r [] runs none = absurd (cc none)
lands_by r (f ∷ facts) runs some = by (lands_by r facts (λ s how started got there. runs s how started got (inr there))) (lands_id r.id f) refl some
  where
    or_true : (b : Bool) → b || true ≡ true
    or_true true = refl
    or_true false = refl

    own : (g : Fact) → f ≡ g → lands_id r.id g ≡ true → lands r g ≡ true
    own (Landed s how started got) is id = ap (λ (t : Bool). t && (r.id == s.id)) (eq-eqb r.run s.run (sym (runs s how started got (inl is)))) ∙ eq-eqb r.id s.id (sym (eqb-true s.id r.id id))
    own (Making lv blocks m) is never = absurd (cc never)
    own (Made lv) is never = absurd (cc never)
    own (Split from lv) is never = absurd (cc never)
    own (Removing vol) is never = absurd (cc never)
    own (Removed vol) is never = absurd (cc never)
    own (Begun s) is never = absurd (cc never)
    own (Taken s) is never = absurd (cc never)
    own Cut is never = absurd (cc never)
    own (On moment) is never = absurd (cc never)

    by : (list_any (lands_id r.id) facts ≡ true → list_any (lands r) facts ≡ true) → (t : Bool) → lands_id r.id f ≡ t → list_any (lands_id r.id) (f ∷ facts) ≡ true → list_any (lands r) (f ∷ facts) ≡ true
    by rest true here some = ap (λ (t : Bool). t || list_any (lands r) facts) (own f refl here)
    by rest false elsewhere some = ap (λ (t : Bool). lands r f || t) (rest (sym (ap (λ (t : Bool). t || list_any (lands_id r.id) facts) elsewhere) ∙ some)) ∙ or_true (lands r f)

module _ (run : ℕ) (past first more : List Fact) (legal : Legal ((past ++ first) ++ more)) (ordered : Ordered run [] (first ++ more)) (landed : HaveAllLanded (first ++ more)) where
  its : IsNumbered run (first ++ more)
  its = numbered run (first ++ more) ordered

  -- a request that begins in these entries lands in them
  lands_later : (r : Request) → IsInList (Begun r) more → list_any (lands r) more ≡ true
  lands_later r began =
      let stands : IsInList r (begun (first ++ more)) = stands_begun (first ++ more) r (stands_right first more (Begun r) began) in
      let all : list_any (lands r) (first ++ more) ≡ true = lands_by r (first ++ more) (λ s how started got there. its.runs s (its.landed s how started got there).began ∙ sym (its.runs r stands))
      (closed (is_some (asked (first ++ more) r.id)) (list_any (lands_id r.id) (first ++ more)) (is_found (begun (first ++ more)) r stands) (landed r.id)) in
      let none : list_any (lands r) first ≡ false = no_right (list_any (lands r) past) (list_any (lands r) first) (sym (list_any-append (lands r) past first) ∙ not_landed (past ++ first) more r legal began) in
      sym (ap (λ (t : Bool). t || list_any (lands r) more) none) ∙ sym (list_any-append (lands r) first more) ∙ all
    where
      closed : (a b : Bool) → a ≡ true → a && not b ≡ false → b ≡ true
      closed true true some none = refl
      closed true false some none = absurd (cc none)
      closed false b some none = absurd (cc some)

      no_right : (a b : Bool) → a || b ≡ false → b ≡ false
      no_right true b is = absurd (cc is)
      no_right false b is = is

  calm_later : Calm (past ++ first) → Calm ((past ++ first) ++ more)
  calm_later calm = landed_are_closed (past ++ first) more legal calm lands_later

-- ---- along a span

module _ (run : ℕ) (first m : Moment) (span : Keeps run first m) (ordered : Ordered run [] m.facts) (landed : HaveAllLanded m.facts) (past : List Fact) (begins : RunBegins run past first) where
  holds : HistoryHolds past m
  holds = let upholds : Upholds run first m = last-path span in upholds past begins

  pub calm_at : Calm (past ++ m.facts)
  calm_at =
      let more : List Fact = (grows span).0 in
      let is : m.facts ≡ first.facts ++ more = (grows span).1 in
      let facts : past ++ m.facts ≡ (past ++ first.facts) ++ more = ap (λ (l : List Fact). past ++ l) is ∙ sym (append_assoc past first.facts more) in
      subst Calm (sym facts) (calm_later run past first.facts more (subst Legal facts holds.legal) (subst (λ (l : List Fact). Ordered run [] l) is ordered) (subst HaveAllLanded is landed) begins.calm)

  -- what was asked of an earlier history at the span's beginning holds at its end
  pub begins_at : RunBegins run past m
  begins_at = record { told = span_told span begins.told; legal = holds.legal; own = begins.own; moments = begins.moments; calm = calm_at; kept = holds.kept }

-- so another span may follow
pub spans_follow : (run : ℕ) (first mid last : Moment) → Keeps run first mid → Ordered run [] mid.facts → HaveAllLanded mid.facts → Keeps run mid last → Keeps run first last
spans_follow run first mid last one ordered landed two = append-path one (map-path (Upholds run first) (λ m upholds past begins. upholds past (begins_at run first mid one ordered landed past begins)) two)
