-- When a session is over, what the disks may show agrees with the history.
use Rattle.std.proofs.Common.{◌≡◌, ◌⊎◌, inl, inr, ⊎_elim, ℕ, Bool, true, false, ◌||◌, List, [], ◌∷◌, ◌++◌, Option, Some, refl, sym, ap, subst, ◌∙◌, eqb-true, append_assoc, map}
use Rattle.std.specs.Prelude.{IsTrue, IsFalse, ◌==◌, option_map}
use Rattle.std.specs.List.{list_any}
use Rattle.std.proofs.lemmas.List.{append-nil}
use Rattle.std.proofs.lemmas.Bool.{or_right as or_second, cases_Bool}
use Rattle.lvm_vol.specs.declared.entry.Outcome.{Outcome}
use Rattle.lvm_vol.specs.declared.entry.Outcome.TheVariants as outcome
use Rattle.lvm_vol.specs.Facts.{Landed as HasLanded, Request, Fact, Begun, Taken, Cut, IsInList, same_request, block_of}
use Rattle.lvm_vol.specs.May.{ended, read, Known, is_off, is_some_open, known, cut}
use Rattle.lvm_vol.proofs.LawsLemmas.Knowing.{known-push}
use Rattle.lvm_vol.proofs.LawsLemmas.Legality.{legal_push}
use Rattle.lvm_vol.proofs.FactsLemmas.Order.{any-push, stands_left}
use Rattle.lvm_num.specs.Buffer.{Sector}
use Rattle.lvm_num.proofs.Booleans.{clash_gives}
use Rattle.lvm_vol.specs.declared.entry.Vol.TheVariants.{Lv}
use Rattle.lvm_vol.specs.Legal.{lands, Legal, IsOutcomeOf, GotMay}
use Rattle.lvm_invariant.specs.Off.{OffKeeps}
use Rattle.lvm_invariant.specs.Told.{Told}
use Rattle.lvm_invariant.specs.State.{Queued, ModelState, covers, write_of, told, has_landed, Started}
use Rattle.lvm_invariant.specs.Over.{IsDistinct, IsUnlanded, is_going, AreOpen, landings, IsLegalOver, OverStays}
use Rattle.lvm_invariant.specs.Sound.{Sound}
use Rattle.lvm_invariant.specs.Cut.{CutKeeps}
use Rattle.lvm_invariant.specs.Crash.{BlockKept, Widens}
use Rattle.lvm_invariant.proofs.Small.{IsIn, or_left, or_right, in_more, in_added, brought_in, some_open}
use Rattle.lvm_invariant.proofs.MayLemmas.{is_open_if, is_calm, after_landing, landing_mode, landing_others, landing_ended}
use Rattle.lvm_invariant.proofs.CrashLemmas.{is_open, cut_widens, block_kept}
use Rattle.lvm_invariant.proofs.StateLemmas.Entered.{write_asks}

-- where the power or the group goes off, what holds of both ends holds
off_or_dark : (P : Outcome → Type 0) → P outcome.Off → P outcome.Dark → (how : Outcome) → IsFalse (is_calm how) → P how
off_or_dark P off dark outcome.Off over = off
off_or_dark P off dark outcome.Dark over = dark
off_or_dark P off dark _ over = clash_gives true refl over

kind_over : (how : Outcome) → IsFalse (is_calm how) → (q : Request) (started : Bool) → IsOutcomeOf how q started
kind_over how over q started = off_or_dark (λ (h : Outcome). IsOutcomeOf h q started) tt tt how over

reads_over : (how : Outcome) → IsFalse (is_calm how) → (past : List Fact) (q : Request) → GotMay past q how []
reads_over how over past q = off_or_dark (λ (h : Outcome). GotMay past q h []) tt tt how over

-- what such a landing leaves of a block is what Off does
ended_over : (how : Outcome) → IsFalse (is_calm how) → (q : Request) (started : Bool) (x : Sector) (k : Known) → ended q how started x k ≡ ended q outcome.Off started x k
ended_over how over q started x k = off_or_dark (λ (h : Outcome). ended q h started x k ≡ ended q outcome.Off started x k) refl (dark started) how over
  where
    dark : (t : Bool) → ended q outcome.Dark t x k ≡ ended q outcome.Off t x k
    dark true = refl
    dark false = refl

read_over : (how : Outcome) → IsFalse (is_calm how) → (x : Sector) (k : Known) → read how x k ≡ k
read_over how over x k = off_or_dark (λ (h : Outcome). read h x k ≡ k) refl refl how over

off_values : (q : Request) (started : Bool) (x value : Sector) (k : Known) → IsIn k.values value → IsIn (ended q outcome.Off started x k).values value
off_values q true x value k h = in_more k.values (x ∷ []) value h
off_values q false x value k h = h

off_loose : (q : Request) (started : Bool) (x : Sector) (k : Known) → IsTrue k.loose → IsTrue (ended q outcome.Off started x k).loose
off_loose q true x k h = or_left k.loose (is_off k.mode) h
off_loose q false x k h = h

-- its values are known
abbrev HasValues : Known → Type 0
HasValues k = (vs : List (List ℕ)) × (k.values ≡ Some vs)

off_some : (q : Request) (started : Bool) (x : Sector) (k : Known) → HasValues k → HasValues (ended q outcome.Off started x k)
off_some q true x k h = (h.0 ++ x ∷ [], ap (λ (m : Option (List (List ℕ))). option_map (λ vs. vs ++ x ∷ []) m) h.1)
off_some q false x k h = h

-- what a write that has started brings is allowed
abbrev IsCared : ModelState → List Fact → ℕ → ℕ → Queued → Type 0
IsCared s facts lv b r = IsIn (known facts (Lv lv) b).values (r.value b) × (IsFalse (s.is_active lv) → IsFalse (s.is_passive lv) → IsTrue (known facts (Lv lv) b).loose)

-- some of the open requests have landed, and these haven't
record Way (s : ModelState) (places : List ℕ) (facts : List Fact) : Type 0 where
  legal : Legal facts
  old : (lv b : ℕ) (value : List ℕ) → IsIn (told s lv b).values value → IsIn (known facts (Lv lv) b).values value
  some : (lv b : ℕ) → HasValues (told s lv b) → HasValues (known facts (Lv lv) b)
  loose : (lv b : ℕ) → IsTrue (told s lv b).loose → IsTrue (known facts (Lv lv) b).loose
  modes : (lv b : ℕ) → (known facts (Lv lv) b).mode ≡ (told s lv b).mode
  writes : (i lv b : ℕ) (r : Queued) → Started s i r → IsTrue (covers r lv b) → (IsInList i places × (write_of b (known facts (Lv lv) b) (s.name i) ≡ Some (r.value b))) ⊎ IsCared s facts lv b r
  waits : (i : ℕ) → IsInList i places → IsInList (Begun (s.name i)) facts × (list_any (lands (s.name i)) facts ≡ false)

module _ (s : ModelState) (sound : Sound s) (t : Told s.queue s.name s.facts) (how : Outcome) (over : IsFalse (is_calm how)) where
  module _ (i : ℕ) (places : List ℕ) (facts : List Fact) (started : Bool) (not_again : IsInList i places → ⊥) (mine : IsUnlanded s i)
      (open_there : (j : ℕ) → IsInList j places → IsUnlanded s j) (begun_data : (r : Queued) → s.queue i ≡ Some r → IsTrue r.write → started ≡ is_going r.phase) (way : Way s (i ∷ places) facts) where
    abbrev q : Request
    q = s.name i

    abbrev next : List Fact
    next = facts ++ HasLanded q how started [] ∷ []

    same_block : (lv b : ℕ) (P : Known → Type 0) → P (known facts (Lv lv) b) → ((x : Sector) → P (ended q outcome.Off started x (known facts (Lv lv) b))) → P (known next (Lv lv) b)
    same_block lv b P same e = after_landing facts q how started [] lv b P same
        (λ h write still. subst P (sym (ended_over how over q started (block_of q.blocks q.at b) (known facts (Lv lv) b))) (e (block_of q.blocks q.at b)))
        (λ h is_read. subst P (sym (read_over how over (block_of [] q.at b) (known facts (Lv lv) b))) same)

    old_next : (lv b : ℕ) (value : List ℕ) → IsIn (known facts (Lv lv) b).values value → IsIn (known next (Lv lv) b).values value
    old_next lv b value h = same_block lv b (λ (k : Known). IsIn k.values value) h (λ x. off_values q started x value (known facts (Lv lv) b) h)

    loose_next : (lv b : ℕ) → IsTrue (known facts (Lv lv) b).loose → IsTrue (known next (Lv lv) b).loose
    loose_next lv b h = same_block lv b (λ (k : Known). IsTrue k.loose) h (λ x. off_loose q started x (known facts (Lv lv) b) h)

    apart_from : (j : ℕ) → IsInList j places → IsFalse (j == i)
    apart_from j there = ⊎_elim (λ (same : IsTrue (j == i)). absurd (not_again (subst (λ (k : ℕ). IsInList k places) (eqb-true _ _ same) there))) (λ (f : IsFalse (j == i)). f) (cases_Bool (j == i))

    now_cared : (lv b : ℕ) (r : Queued) → Started s i r → IsTrue (covers r lv b) → write_of b (known facts (Lv lv) b) q ≡ Some (r.value b) → IsCared s next lv b r
    now_cared lv b r start inside is_open =
        let asked = write_asks s t i r start.there start.write in
        let is_of = t.same i r start.there asked in
        let yes : started ≡ true = begun_data r start.there start.write ∙ ap is_going start.going in
        let k : Known = known facts (Lv lv) b in
        let x : Sector = block_of q.blocks q.at b in
        let is_now : known next (Lv lv) b ≡ ended q outcome.Off true x k =
        landing_ended facts q how started [] lv b (is_of.over lv b ∙ inside) (is_of.write ∙ start.write) (is_open_if b q (r.value b) k.open_writes is_open)
        ∙ ended_over how over q started x k ∙ ap (λ (b : Bool). ended q outcome.Off b x k) yes in
        let busy = sound.blocks.busy i lv b r start inside in
        let known_values = way.some lv b busy.known in (
          subst (λ (m : Known). IsIn m.values (r.value b)) (sym is_now) (in_added k.values (x ∷ []) known_values.0 (r.value b) known_values.1 (inl (is_of.value lv b start.write inside))),
          λ off soft. subst (λ (m : Known). IsTrue m.loose) (sym is_now) (or_second k.loose (is_off k.mode) (ap is_off (way.modes lv b) ∙ (let at = sound.tied.inside i r start.there lv b inside in sound.tied.modes lv b at.0 at.1 off soft))),
        )

    still_cared : (lv b : ℕ) (r : Queued) → IsCared s facts lv b r → IsCared s next lv b r
    still_cared lv b r h = (old_next lv b (r.value b) h.0, λ off soft. loose_next lv b (h.1 off soft))

    way_step : Way s places next
    way_step = record {
      legal = (legal_push facts (HasLanded q how started [])).1 (way.legal, record { began = (way.waits i (inl refl)).0; first = (way.waits i (inl refl)).1; kind = kind_over how over q started; reads = reads_over how over facts q });
      old = λ lv b value h. old_next lv b value (way.old lv b value h);
      some = λ lv b h. let h = way.some lv b h in same_block lv b HasValues h (λ x. off_some q started x (known facts (Lv lv) b) h);
      loose = λ lv b h. loose_next lv b (way.loose lv b h);
      modes = λ lv b. landing_mode facts q how started [] lv b ∙ way.modes lv b;
      writes = λ j lv b r start inside. ⊎_elim
          (λ (waiting : IsInList j (i ∷ places) × (write_of b (known facts (Lv lv) b) (s.name j) ≡ Some (r.value b))). ⊎_elim
          (λ (same : i ≡ j). inr (now_cared lv b r (subst (λ (k : ℕ). Started s k r) (sym same) start) inside (ap (λ (k : ℕ). write_of b (known facts (Lv lv) b) (s.name k)) same ∙ waiting.1)))
          (λ (there : IsInList j places). inl (
            there,
            landing_others facts q how started [] lv b (s.name j)
                (t.apart i j mine.req r mine.there start.there mine.request (write_asks s t j r start.there start.write) (apart_from j there)) ∙ waiting.1,
          ))
          waiting.0)
          (λ (cared : IsCared s facts lv b r). inr (still_cared lv b r cared))
          (way.writes j lv b r start inside);
      waits = λ j there. let w = way.waits j (inr there) in (stands_left facts (HasLanded q how started [] ∷ []) (Begun (s.name j)) w.0, any-push (lands (s.name j)) facts (HasLanded q how started []) ∙ ap (λ (b : Bool). b || same_request (s.name j) q) w.1 ∙ other_name j there);
    }
      where
        other_name : (j : ℕ) → IsInList j places → same_request (s.name j) q ≡ false
        other_name j there = let u = open_there j there in t.apart i j mine.req u.req mine.there u.there mine.request u.request (apart_from j there)

  -- some of the open requests land, one after another
  some_land : (first rest : List ℕ) (facts : List Fact) (started : ℕ → Bool) → IsDistinct (first ++ rest) → ((j : ℕ) → IsInList j (first ++ rest) → IsUnlanded s j)
      → ((j : ℕ) (r : Queued) → s.queue j ≡ Some r → IsTrue r.write → started j ≡ is_going r.phase) → Way s (first ++ rest) facts → Way s rest (facts ++ landings how s.name started first)
  some_land [] rest facts started distinct each begun_data way = subst (Way s rest) (sym (append-nil facts)) way
  some_land (i ∷ first) rest facts started distinct each begun_data way = subst (Way s rest) (append_assoc facts (HasLanded (s.name i) how (started i) [] ∷ []) (landings how s.name started first))
      (some_land first rest (facts ++ HasLanded (s.name i) how (started i) [] ∷ []) started distinct.1 (λ j there. each j (inr there)) begun_data
      (way_step i (first ++ rest) facts (started i) distinct.0 (each i (inl refl)) (λ j there. each j (inr there)) (begun_data i) way))

  -- after a cut, what an open write brings is allowed too
  cut_then : {rest : List ℕ} {facts : List Fact} → Way s rest facts → Widens s (λ lv b. cut b (known facts (Lv lv) b))
  cut_then {rest = rest} {facts = facts} way = record {
    old = λ lv b value h. in_more (known facts (Lv lv) b).values _ value (way.old lv b value h);
    new = λ i lv b r start inside. ⊎_elim
        (λ (waiting : IsInList i rest × (write_of b (known facts (Lv lv) b) (s.name i) ≡ Some (r.value b))).
        let busy = sound.blocks.busy i lv b r start inside in
        let values = way.some lv b busy.known in
        in_added (known facts (Lv lv) b).values _ values.0 (r.value b) values.1 (brought_in b (known facts (Lv lv) b).open_writes (s.name i) (r.value b) waiting.1))
        (λ (cared : IsCared s facts lv b r). in_more (known facts (Lv lv) b).values _ (r.value b) cared.0)
        (way.writes i lv b r start inside);
    loose = λ lv b h. or_left (known facts (Lv lv) b).loose _ (way.loose lv b h);
    started = λ i lv b r start inside off soft. ⊎_elim
        (λ (waiting : IsInList i rest × (write_of b (known facts (Lv lv) b) (s.name i) ≡ Some (r.value b))).
        let at = sound.tied.inside i r start.there lv b inside in
        or_right (known facts (Lv lv) b).loose (is_off (known facts (Lv lv) b).mode) (is_some_open (known facts (Lv lv) b).open_writes)
        (ap is_off (way.modes lv b) ∙ sound.tied.modes lv b at.0 at.1 off soft) (some_open b (known facts (Lv lv) b).open_writes (s.name i) (r.value b) waiting.1))
        (λ (cared : IsCared s facts lv b r). or_left (known facts (Lv lv) b).loose _ (cared.1 off soft))
        (way.writes i lv b r start inside);
  }

  landed_over : (first rest : List ℕ) (facts : List Fact) (started : ℕ → Bool) → AreOpen s (first ++ rest) started → Way s (first ++ rest) facts → IsLegalOver s (facts ++ landings how s.name started first)
  landed_over first rest facts started open_now way =
      let last = some_land first rest facts started open_now.once open_now.each open_now.begun_data way in
      let all = facts ++ landings how s.name started first in
      record { legal = last.legal; kept = λ v marks lv b crash possible. block_kept s sound v crash (λ lv b. cut b (known all (Lv lv) b)) (cut_then last) marks possible lv b }

pub off_keeps : OffKeeps
off_keeps votes s first rest started step good = landed_over s good.sound good.told outcome.Off refl first rest s.facts started step.requests (record {
  legal = good.told.legal;
  old = λ lv b value h. h;
  some = λ lv b h. h;
  loose = λ lv b h. h;
  modes = λ lv b. refl;
  writes = λ i lv b r start inside. inl (
    step.requests.all i r start.there (write_asks s good.told i r start.there start.write) (ap has_landed start.going),
    is_open s good.sound i r lv b start inside,
  );
  waits = λ i there. let u = step.requests.each i there in (good.told.began i u.req u.there u.request, good.told.ended i u.req u.there u.request ∙ u.unlanded);
})

pub cut_keeps : CutKeeps
cut_keeps votes s first rest started step good =
    let is_now : (lv b : ℕ) → known (s.facts ++ Cut ∷ []) (Lv lv) b ≡ cut b (told s lv b) = λ lv b. known-push s.facts Cut (Lv lv) b in
    let wide = cut_widens s good.sound in
    landed_over s good.sound good.told outcome.Dark refl first rest (s.facts ++ Cut ∷ []) started step (record {
      legal = (legal_push s.facts Cut).1 (good.told.legal, tt);
      old = λ lv b value h. subst (λ (k : Known). IsIn k.values value) (sym (is_now lv b)) (wide.old lv b value h);
      some = λ lv b h. subst HasValues (sym (is_now lv b)) (h.0 ++ map (λ (r : Request). block_of r.blocks r.at b) (told s lv b).open_writes, ap (λ (m : Option (List (List ℕ))). option_map (λ vs. vs ++ map (λ (r : Request). block_of r.blocks r.at b) (told s lv b).open_writes) m) h.1);
      loose = λ lv b h. subst (λ (k : Known). IsTrue k.loose) (sym (is_now lv b)) (wide.loose lv b h);
      modes = λ lv b. ap (λ (k : Known). k.mode) (is_now lv b);
      writes = λ i lv b r start inside. inr (
        subst (λ (k : Known). IsIn k.values (r.value b)) (sym (is_now lv b)) (wide.new i lv b r start inside),
        λ off soft. subst (λ (k : Known). IsTrue k.loose) (sym (is_now lv b)) (wide.started i lv b r start inside off soft),
      );
      waits = λ i there. let u = step.each i there in (
        stands_left s.facts (Cut ∷ []) (Begun (s.name i)) (good.told.began i u.req u.there u.request),
        any-push (lands (s.name i)) s.facts Cut ∙ ap (λ (b : Bool). b || false) (good.told.ended i u.req u.there u.request ∙ u.unlanded),
      );
    })

pub over_stays : OverStays
over_stays s facts q fits over = record {
  legal = (legal_push facts (Taken q)).1 (over.legal, fits);
  kept = λ v marks lv b crash possible. subst (λ (k : Known). BlockKept s v marks (cut b k) lv b) (sym (known-push facts (Taken q) (Lv lv) b)) (over.kept v marks lv b crash possible);
}
