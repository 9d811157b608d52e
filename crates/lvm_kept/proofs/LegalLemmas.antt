-- In a legal history a request that begins anew has neither landed nor been taken.
use Rattle.std.proofs.Common.{◌≡◌, ◌⊎◌, inl, inr, ⊎_elim, ◌+◌, ◌≤◌, ◌<◌, ◌&&◌, ◌||◌, ◌==◌, [], ◌∷◌, ◌++◌, ℕ, List, Bool, true, false, cond, count_by, refl, sym, ◌∙◌, ap, subst, arith, append_assoc, zero-add}
use Rattle.std.specs.List.{list_any}
use Rattle.std.proofs.lemmas.List.Sums.{sum_by-append}
use Rattle.std.proofs.lemmas.Bool.Decides.{nat_tests}
use Rattle.std.proofs.lemmas.Bool.{eqb-true}
use Rattle.lvm_vol.specs.Facts.{Request, Fact, Begun, Landed, Taken, IsInList}
use Rattle.lvm_vol.specs.Legal.{begins_in, lands, takes, Fits, Legal, LegalFrom, IsOutcomeOf, GotMay}
use Rattle.lvm_vol.specs.declared.entry.Outcome.{Outcome}
use Rattle.lvm_vol.proofs.LawsLemmas.Legality.{same_self}

-- one entry more that fits
pub legal_more : (past facts : List Fact) (f : Fact) → LegalFrom past facts → Fits (past ++ facts) f → LegalFrom past (facts ++ f ∷ [])
legal_more past [] f legal fits = (subst (λ (l : List Fact). Fits l f) (append_nil past) fits, tt)
  where
    append_nil : (l : List Fact) → l ++ [] ≡ l
    append_nil [] = refl
    append_nil (g ∷ l) = ap (λ (m : List Fact). g ∷ m) (append_nil l)
legal_more past (g ∷ facts) f legal fits =
    (legal.0, legal_more (past ++ g ∷ []) facts f legal.1 (subst (λ (l : List Fact). Fits l f) (sym (append_assoc past (g ∷ []) facts)) fits))

count_more : (run : ℕ) (past : List Fact) (f : Fact) → count_by (begins_in run) (past ++ f ∷ []) ≡ count_by (begins_in run) past + cond (begins_in run f) 1 0
count_more run past f = sum_by-append (λ g. cond (begins_in run g) 1 0) past (f ∷ []) ∙ ap (λ n. count_by (begins_in run) past + n) (zero-add (cond (begins_in run f) 1 0))

-- each request that began has a number up to the count of those of its run
abbrev pub Low : List Fact → Type 0
Low past = (r : Request) → IsInList (Begun r) past → r.id ≤ count_by (begins_in r.run) past

stands_more : (past : List Fact) (f g : Fact) → IsInList g (past ++ f ∷ []) → IsInList g past ⊎ (f ≡ g)
stands_more [] f g (inl is) = inr is
stands_more [] f g (inr none) = absurd none
stands_more (h ∷ past) f g (inl is) = inl (inl is)
stands_more (h ∷ past) f g (inr there) = ⊎_elim (λ old. inl (inr old)) (λ new. inr new) (stands_more past f g there)

low_more : (past : List Fact) (f : Fact) → Low past → Fits past f → Low (past ++ f ∷ [])
low_more past f low fits r stands = ⊎_elim
    (λ old. let a = low r old in let b = count_more r.run past f in omega (arith, a, b))
    (λ new. newest f new fits)
    (stands_more past f (Begun r) stands)
  where
    newest : (f : Fact) → f ≡ Begun r → Fits past f → r.id ≤ count_by (begins_in r.run) (past ++ f ∷ [])
    newest f is fits =
        let fits_it : r.id ≡ count_by (begins_in r.run) past + 1 = subst (λ (g : Fact). Fits past g) is fits in
        let b = count_more r.run past f in
        let one : ◌≡◌ {A = ℕ} (cond (begins_in r.run f) 1 0) 1 = ap (λ (g : Fact). cond (begins_in r.run g) 1 0) is ∙ (let e : (r.run == r.run) ≡ true = grind (arith, nat_tests) in ap (λ (t : Bool). cond t 1 0) e) in
        omega (arith, fits_it, b, one)

pub any_more : (t : Fact → Bool) (past : List Fact) (f : Fact) → list_any t past ≡ false → t f ≡ false → list_any t (past ++ f ∷ []) ≡ false
any_more t [] f none last = ap (λ (b : Bool). b || false) last
any_more t (g ∷ past) f none last = let e = none in or_false (t g) (list_any t past) (list_any t (past ++ f ∷ [])) none (λ rest. any_more t past f rest last)
  where
    or_false : (a b c : Bool) → (a || b) ≡ false → (b ≡ false → c ≡ false) → (a || c) ≡ false
    or_false false b c h f = f h
    or_false true b c h f = h

both : (a b : Bool) → (a ≡ true → b ≡ true → ⊥) → (a && b) ≡ false
both true true h = absurd (h refl refl)
both true false h = refl
both false b h = refl

-- a landing of a request with a greater number doesn't fit
land_other : (past : List Fact) (f : Fact) (r : Request) → Low past → Fits past f → count_by (begins_in r.run) past < r.id → lands r f ≡ false
land_other past (Landed s how started got) r low fits above = both (r.run == s.run) (r.id == s.id) (λ run id.
    let same_run : r.run ≡ s.run = eqb-true r.run s.run run in
    let same_id : r.id ≡ s.id = eqb-true r.id s.id id in
    let a = low s fits.began in
    let b : count_by (begins_in r.run) past ≡ count_by (begins_in s.run) past = ap (λ (n : ℕ). count_by (begins_in n) past) same_run in
    omega (arith, above, same_id, a, b))
land_other past _ r low fits above = refl

module _ (r : Request) where
  grows : (past : List Fact) (f : Fact) → count_by (begins_in r.run) (past ++ f ∷ []) < r.id → count_by (begins_in r.run) past < r.id
  grows past f above = let b = count_more r.run past f in omega (arith, b, above)

  fewer : (past facts : List Fact) → count_by (begins_in r.run) (past ++ facts) < r.id → count_by (begins_in r.run) past < r.id
  fewer past facts above = let b : count_by (begins_in r.run) (past ++ facts) ≡ count_by (begins_in r.run) past + count_by (begins_in r.run) facts = sum_by-append (λ g. cond (begins_in r.run g) 1 0) past facts in omega (arith, b, above)

  -- what has a greater number than all that began hasn't landed
  pub unlanded : (past facts : List Fact) → LegalFrom past facts → Low past → list_any (lands r) past ≡ false → count_by (begins_in r.run) (past ++ facts) < r.id → list_any (lands r) (past ++ facts) ≡ false
  unlanded past [] legal low none above = ap (λ (l : List Fact). list_any (lands r) l) (nil past) ∙ none
    where
      nil : (l : List Fact) → l ++ [] ≡ l
      nil [] = refl
      nil (g ∷ l) = ap (λ (m : List Fact). g ∷ m) (nil l)
  unlanded past (f ∷ facts) legal low none above =
      ap (λ (l : List Fact). list_any (lands r) l) (sym (append_assoc past (f ∷ []) facts))
      ∙ unlanded (past ++ f ∷ []) facts legal.1 (low_more past f low legal.0)
      (any_more (lands r) past f none (land_other past f r low legal.0 (fewer past (f ∷ facts) above)))
      (subst (λ (l : List Fact). count_by (begins_in r.run) l < r.id) (sym (append_assoc past (f ∷ []) facts)) above)

pub low_none : Low []
low_none r stands = absurd stands

-- nor has it been taken
take_other : (past : List Fact) (f : Fact) (r : Request) → LegalFrom [] past → Fits past f → count_by (begins_in r.run) past < r.id → takes r f ≡ false
take_other past (Taken s) r legal fits above = both (r.run == s.run) (r.id == s.id) (λ run id.
    let same_run : r.run ≡ s.run = eqb-true r.run s.run run in
    let same_id : r.id ≡ s.id = eqb-true r.id s.id id in
    let a : count_by (begins_in r.run) past ≡ count_by (begins_in s.run) past = ap (λ (n : ℕ). count_by (begins_in n) past) same_run in
    let none : list_any (lands s) past ≡ false = unlanded s [] past legal low_none refl (omega (arith, above, same_id, a)) in
    let some = fits.answered in cc (none, some))
take_other past _ r legal fits above = refl

append_none : (l : List Fact) → l ++ [] ≡ l
append_none [] = refl
append_none (g ∷ l) = ap (λ (m : List Fact). g ∷ m) (append_none l)

pub untaken : (r : Request) (past facts : List Fact) → LegalFrom [] past → LegalFrom past facts → list_any (takes r) past ≡ false → count_by (begins_in r.run) (past ++ facts) < r.id → list_any (takes r) (past ++ facts) ≡ false
untaken r past [] before legal none above = ap (λ (l : List Fact). list_any (takes r) l) (append_none past) ∙ none
untaken r past (f ∷ facts) before legal none above =
    ap (λ (l : List Fact). list_any (takes r) l) (sym (append_assoc past (f ∷ []) facts))
    ∙ untaken r (past ++ f ∷ []) facts (legal_more [] past f before legal.0) legal.1
    (any_more (takes r) past f none (take_other past f r before legal.0 (fewer r past (f ∷ facts) above)))
    (subst (λ (l : List Fact). count_by (begins_in r.run) l < r.id) (sym (append_assoc past (f ∷ []) facts)) above)

pub stands_last : (past : List Fact) (f : Fact) → IsInList f (past ++ f ∷ [])
stands_last [] f = inl refl
stands_last (g ∷ past) f = inr (stands_last past f)

pub stands_first : (past : List Fact) (f g : Fact) → IsInList g past → IsInList g (past ++ f ∷ [])
stands_first [] f g none = absurd none
stands_first (h ∷ past) f g (inl is) = inl is
stands_first (h ∷ past) f g (inr there) = inr (stands_first past f g there)

pub any_last : (t : Fact → Bool) (past : List Fact) (f : Fact) → t f ≡ true → list_any t (past ++ f ∷ []) ≡ true
any_last t [] f is = ap (λ (b : Bool). b || false) is
any_last t (g ∷ past) f is = or_true (t g) (list_any t (past ++ f ∷ [])) (any_last t past f is)
  where
    or_true : (a b : Bool) → b ≡ true → (a || b) ≡ true
    or_true true b is = refl
    or_true false b is = is

-- a request with the next number goes through: begun, landed, taken
pub through_legal : (facts : List Fact) (r : Request) (how : Outcome) (started : Bool) (got : List (List ℕ)) → LegalFrom [] facts → r.id ≡ count_by (begins_in r.run) facts + 1
    → IsOutcomeOf how r started → GotMay (facts ++ Begun r ∷ []) r how got → LegalFrom [] (((facts ++ Begun r ∷ []) ++ Landed r how started got ∷ []) ++ Taken r ∷ [])
through_legal facts r how started got legal next kind may =
    let none = unlanded r [] facts legal low_none refl (omega arith) in
    let not_taken = untaken r [] facts tt legal refl (omega arith) in
    let begun = legal_more [] facts (Begun r) legal next in
    let landed = legal_more [] (facts ++ Begun r ∷ []) (Landed r how started got) begun (record { began = stands_last facts (Begun r); first = any_more (lands r) facts (Begun r) none refl; kind = kind; reads = may }) in
    legal_more [] ((facts ++ Begun r ∷ []) ++ Landed r how started got ∷ []) (Taken r) landed
    (record {
      began = stands_first (facts ++ Begun r ∷ []) (Landed r how started got) (Begun r) (stands_last facts (Begun r));
      answered = any_last (lands r) (facts ++ Begun r ∷ []) (Landed r how started got) (same_self r);
      first = any_more (takes r) (facts ++ Begun r ∷ []) (Landed r how started got) (any_more (takes r) facts (Begun r) not_taken refl) refl;
    })

-- a request that begins with the next number has neither landed nor been taken
pub first_landing : (past : List Fact) (r : Request) → Legal past → r.id ≡ count_by (begins_in r.run) past + 1 → list_any (lands r) (past ++ Begun r ∷ []) ≡ false
first_landing past r legal next = any_more (lands r) past (Begun r) (unlanded r [] past legal low_none refl (omega (arith, next))) refl

pub first_taking : (past : List Fact) (r : Request) → Legal past → r.id ≡ count_by (begins_in r.run) past + 1 → list_any (takes r) (past ++ Begun r ∷ []) ≡ false
first_taking past r legal next = any_more (takes r) past (Begun r) (untaken r [] past tt legal refl (omega (arith, next))) refl
