-- Open reads land as Dark without a cut: each crash image stays kept.
use Rattle.std.proofs.Common.{◌≡◌, ⊎_elim, inl, inr, ℕ, Bool, true, false, ◌||◌, if◌then◌else◌, List, [], ◌∷◌, ◌++◌, refl, sym, ap, subst, ◌∙◌, append_assoc, eqb-true}
use Rattle.std.specs.Prelude.{IsTrue, IsFalse, ◌==◌}
use Rattle.std.specs.List.{list_any}
use Rattle.std.proofs.lemmas.Bool.{cases_Bool}
use Rattle.std.proofs.lemmas.List.{append-nil}
use Rattle.lvm_num.specs.Buffer.{Sector}
use Rattle.lvm_vol.specs.declared.entry.Vol.{Vol}
use Rattle.lvm_vol.specs.declared.entry.Vol.TheVariants.{Disk, Lv}
use Rattle.lvm_vol.specs.declared.entry.Outcome.TheVariants as outcome
use Rattle.lvm_vol.specs.Facts.{Request, Fact, Begun, Cut, Landed as HasLanded, IsInList, is_over, same_request, block_of}
use Rattle.lvm_vol.specs.Legal.{Legal, lands}
use Rattle.lvm_vol.specs.May.{Known, known, cut, is_open_in, ended, IsValue, May}
use Rattle.lvm_vol.specs.Standing.{Volume, no_volumes}
use Rattle.lvm_vol.proofs.LawsLemmas.Legality.{legal_push}
use Rattle.lvm_vol.proofs.FactsLemmas.Order.{any-push, stands_left}
use Rattle.lvm_kept.specs.Contents.{Contents}
use Rattle.lvm_kept.specs.Kept.{Kept}
use Rattle.lvm_kept.specs.Changes.{OnlyAllowsMore}
use Rattle.lvm_kept.proofs.ChangesLemmas.Entries.{entry_keeps, more_is_kept}
use Rattle.lvm_kept.proofs.MayLemmas.{known_more}
use Rattle.lvm_steps.proofs.EntriesLemmas.{volumes-append}
use Rattle.lvm_invariant.specs.State.{ModelState}
use Rattle.lvm_invariant.specs.Told.{Told}
use Rattle.lvm_invariant.specs.Over.{IsDistinct, IsUnlanded, landings}

-- ---- one read

module _ (facts : List Fact) (r : Request) (started : Bool) (reads : r.write ≡ false) where
  abbrev fact : Fact
  fact = HasLanded r outcome.Dark started []

  -- nothing else is known of a block
  known_as : (vol : Vol) (b : ℕ) → known (facts ++ fact ∷ []) vol b ≡ known facts vol b
  known_as vol b = known_more facts fact vol b ∙ over (is_over r vol b) (known facts vol b) (block_of r.blocks r.at b)
    where
      kind : (w : Bool) (k : Known) (x : Sector) → w ≡ false → (if w then (if is_open_in r k.open_writes then ended r outcome.Dark started x k else k) else k) ≡ k
      kind true k x e = absurd (cc e)
      kind false k x e = refl

      over : (t : Bool) (k : Known) (x : Sector) → (if t then (if r.write then (if is_open_in r k.open_writes then ended r outcome.Dark started x k else k) else k) else k) ≡ k
      over true k x = kind r.write k x reads
      over false k x = refl

  known_cut : (vol : Vol) (b : ℕ) → known ((facts ++ fact ∷ []) ++ Cut ∷ []) vol b ≡ known (facts ++ Cut ∷ []) vol b
  known_cut vol b = known_more (facts ++ fact ∷ []) Cut vol b ∙ ap (cut b) (known_as vol b) ∙ sym (known_more facts Cut vol b)

  same_more : OnlyAllowsMore facts fact
  same_more = record {
    may = λ lv b x is. subst (λ (k : Known). IsValue k x) (sym (known_cut (Lv lv) b)) is;
    raw = λ d b x is. subst (λ (k : Known). May k x) (sym (known_cut (Disk d) b)) is;
    loose = λ lv b is. subst (λ (k : Known). IsTrue k.loose) (sym (known_cut (Lv lv) b)) is;
  }

  read_kept : (c : Contents) → Kept c facts → Kept c (facts ++ fact ∷ [])
  read_kept c kept = entry_keeps c facts fact (more_is_kept c facts fact same_more kept) (λ lv. inl (ap (λ (v : ℕ → Volume). v lv) (volumes-append no_volumes facts (fact ∷ [])))) kept

-- ---- one after another

-- some of the open requests have landed, and these haven't
pub record Way (s : ModelState) (places : List ℕ) (facts : List Fact) (P : Contents → Type 0) : Type 0 where
  pub legal : Legal facts
  pub kept : (c : Contents) → P c → Kept c facts
  pub waits : (i : ℕ) → IsInList i places → IsInList (Begun (s.name i)) facts × (list_any (lands (s.name i)) facts ≡ false)

module _ (s : ModelState) (t : Told s.queue s.name s.facts) (started : ℕ → Bool) (P : Contents → Type 0) where
  way_step : (i : ℕ) (places : List ℕ) (facts : List Fact) → (IsInList i places → ⊥) → ((j : ℕ) → IsInList j (i ∷ places) → IsUnlanded s j) → (s.name i).write ≡ false
      → Way s (i ∷ places) facts P → Way s places (facts ++ HasLanded (s.name i) outcome.Dark (started i) [] ∷ []) P
  way_step i places facts once each reads way =
      let fact : Fact = HasLanded (s.name i) outcome.Dark (started i) [] in
      let mine = each i (inl refl) in
      let own = way.waits i (inl refl) in
      let apart : (j : ℕ) → IsInList j places → IsFalse (j == i) = λ j there. ⊎_elim
      (λ (same : IsTrue (j == i)). absurd (once (subst (λ (k : ℕ). IsInList k places) (eqb-true j i same) there))) (λ (f : IsFalse (j == i)). f) (cases_Bool (j == i)) in
      record {
        legal = (legal_push facts fact).1 (way.legal, record { began = own.0; first = own.1; kind = tt; reads = tt });
        kept = λ c p. read_kept facts (s.name i) (started i) reads c (way.kept c p);
        waits = λ j there. let w = way.waits j (inr there) in let u = each j (inr there) in (
          stands_left facts (fact ∷ []) (Begun (s.name j)) w.0,
          any-push (lands (s.name j)) facts fact ∙ ap (λ (b : Bool). b || same_request (s.name j) (s.name i)) w.1 ∙ t.apart i j mine.req u.req mine.there u.there mine.request u.request (apart j there),
        );
      }

  pub reads_land : (first rest : List ℕ) (facts : List Fact) → IsDistinct (first ++ rest) → ((j : ℕ) → IsInList j (first ++ rest) → IsUnlanded s j) → ((j : ℕ) → IsInList j (first ++ rest) → (s.name j).write ≡ false)
      → Way s (first ++ rest) facts P → Way s rest (facts ++ landings outcome.Dark s.name started first) P
  reads_land [] rest facts distinct each reads way = subst (λ (l : List Fact). Way s rest l P) (sym (append-nil facts)) way
  reads_land (i ∷ first) rest facts distinct each reads way =
      subst (λ (l : List Fact). Way s rest l P) (append_assoc facts (HasLanded (s.name i) outcome.Dark (started i) [] ∷ []) (landings outcome.Dark s.name started first))
      (reads_land first rest (facts ++ HasLanded (s.name i) outcome.Dark (started i) [] ∷ []) distinct.1 (λ j there. each j (inr there)) (λ j there. reads j (inr there))
      (way_step i (first ++ rest) facts distinct.0 each (reads i (inl refl)) way))
