-- The events that stand in the history: what they make of what is known, and that they keep what is true.
use Rattle.std.proofs.Common.{◌≡◌, ◌⊎◌, inl, inr, ⊎_elim, ℕ, ◌+◌, ◌<◌, ◌≤◌, Bool, true, false, ◌&&◌, List, [], ◌∷◌, ◌++◌, Option, Some, None, refl, sym, ap, subst, ◌∙◌, eq-eqb, arith, count_by, IfSome, nat_le, nat_lt}
use Rattle.std.specs.Prelude.{IsTrue, IsFalse, ◌==◌, if◌then◌else◌}
use Rattle.std.proofs.lemmas.Bool.Decides.{nat_tests}
use Rattle.std.proofs.lemmas.Bool.{and_from, cases_Bool}
use Rattle.lvm_vol.specs.declared.entry.Vol.{Vol}
use Rattle.lvm_vol.specs.declared.entry.Outcome.{Outcome}
use Rattle.lvm_vol.specs.declared.entry.Outcome.TheVariants as outcome
use Rattle.lvm_vol.specs.Facts.{Landed as HasLanded, Request, Fact, Begun, IsInList, same_vol, same_request, is_over, block_of}
use Rattle.lvm_vol.specs.May.{ended, read, May, Known, known}
use Rattle.lvm_num.specs.declared.place.Pp.{Pp}
use Rattle.lvm_num.specs.Geometry.{track_group_of}
use Rattle.lvm_num.proofs.Booleans.{clash_gives}
use Rattle.lvm_vol.specs.declared.entry.Vol.TheVariants.{Lv}
use Rattle.lvm_vol.specs.Legal.{begins_in, Gets}
use Rattle.lvm_invariant.specs.EnterStep.{StepEnters}
use Rattle.lvm_invariant.specs.LandDone.{IsDropped, LandsDone}
use Rattle.lvm_invariant.specs.Told.{IsRequestOf, Told}
use Rattle.lvm_invariant.specs.Updates.{land}
use Rattle.lvm_invariant.specs.Read.{reading}
use Rattle.lvm_invariant.specs.LandGot.{LandsGot}
use Rattle.lvm_invariant.specs.LandLost.{LandsLost}
use Rattle.lvm_invariant.specs.Submit.{Submits}
use Rattle.lvm_invariant.specs.State.{Groups, Stage, Well, Badly, ModelPhase, Held, WantEntry, Ready, Going, Landed, Queued, ModelState, covers, told, has_landed, is_past, is_pinning}
use Rattle.lvm_invariant.specs.Sound.{Sound}
use Rattle.lvm_invariant.proofs.Small.{IsIn, in_more, in_added}
use Rattle.lvm_invariant.proofs.MayLemmas.{apart_back, is_open_if, is_calm, after_landing, landing_mode, landing_tight, landing_others, landing_outside, landing_ended, landing_read, beginning_values, beginning_loose, beginning_mode, beginning_others, beginning_own, beginning_outside, later_apart, not_open}
use Rattle.lvm_invariant.proofs.StateLemmas.Effects.{ClosesOnly, DoneEffect, LostEffect, ChangeEffect, GotEffect, JoinEffect}
use Rattle.lvm_invariant.proofs.UpdatesLemmas.Requests.{staged_was, staged_is}
use Rattle.lvm_invariant.proofs.StateLemmas.Claims.{Alike}
use Rattle.lvm_invariant.proofs.CrashLemmas.{the_write_is, going_not_landed}
use Rattle.lvm_invariant.proofs.UpdatesLemmas.Getting.{got_is_allowed}
use Rattle.lvm_invariant.proofs.StateLemmas.Quieting.{alike_by}

-- a write is no step of a copy
pub write_asks : (s : ModelState) → Told s.queue s.name s.facts → (j : ℕ) (e : Queued) → s.queue j ≡ Some e → IsTrue e.write → IsFalse e.step
write_asks s t j e at write = ⊎_elim (λ (step : IsTrue e.step). clash_gives e.write write (t.steps_read j e at step)) (λ (f : IsFalse e.step). f) (cases_Bool e.step)

pub past_unlanded : (p : ModelPhase) → IsTrue (is_past p) → IsFalse (has_landed p)
past_unlanded Held past = absurd cc
past_unlanded WantEntry past = refl
past_unlanded Ready past = refl
past_unlanded Going past = refl
past_unlanded Landed past = absurd cc

module _ (s : ModelState) (sound : Sound s) (t : Told s.queue s.name s.facts) (i : ℕ) (r : Queued) (there : s.queue i ≡ Some r) (asked : IsFalse r.step) (how : Outcome) (started : Bool) (got : List (List ℕ)) where
  abbrev request : Request
  request = s.name i

  abbrev entries : List Fact
  entries = s.facts ++ HasLanded request how started got ∷ []

  is_of : IsRequestOf request r
  is_of = t.same i r there asked

  others_apart : (j : ℕ) (e : Queued) → s.queue j ≡ Some e → IsTrue e.write → IsFalse (j == i) → IsFalse (same_request (s.name j) request)
  others_apart j e at write other = t.apart i j r e there at asked (write_asks s t j e at write) other

  pub closes_only : IsTrue (is_calm how) → ClosesOnly s i r entries
  closes_only calm = record {
    outside = λ lv b off. landing_outside s.facts request how started got lv b (is_of.over lv b ∙ off);
    modes = λ lv b. landing_mode s.facts request how started got lv b;
    tight = λ lv b c copy on. landing_tight s.facts request how started got lv b calm (sound.tied.tight lv b c copy on);
    others = λ lv b j e at write other. landing_others s.facts request how started got lv b (s.name j) (others_apart j e at write other);
  }

  -- a write was open until then
  pub was_ended : IsTrue r.write → IsFalse (has_landed r.phase) → (lv b : ℕ) → IsTrue (covers r lv b) → known entries (Lv lv) b ≡ ended request how started (block_of request.blocks request.at b) (told s lv b)
  was_ended write unlanded lv b over = landing_ended s.facts request how started got lv b (is_of.over lv b ∙ over) (is_of.write ∙ write)
      (is_open_if b request (r.value b) (told s lv b).open_writes
      (sound.tied.open_writes i r there write unlanded lv b ∙ the_write_is r.write (covers r lv b) (r.value b) write over))

  pub was_read : IsFalse r.write → (lv b : ℕ) → IsTrue (covers r lv b) → known entries (Lv lv) b ≡ read how (block_of got request.at b) (told s lv b)
  was_read is_read lv b over = landing_read s.facts request how started got lv b (is_of.over lv b ∙ over) (is_of.write ∙ is_read)

  pub brings : IsTrue r.write → (lv b : ℕ) → IsTrue (covers r lv b) → block_of request.blocks request.at b ≡ r.value b
  brings write lv b over = is_of.value lv b write over

-- ---- Done and Lost

pub done_effect : (s : ModelState) (i : ℕ) (r : Queued) → Sound s → Told s.queue s.name s.facts → LandsDone s i r → DoneEffect s i r (s.facts ++ HasLanded (s.name i) outcome.Done true [] ∷ [])
done_effect s i r sound t step =
    let start = step.started in
    let asked = write_asks s t i r start.there start.write in
    record {
      started = start;
      ended = λ c stage at. ⊎_elim (λ (well : stage ≡ Well). inl well) (λ (bad : (stage ≡ Badly) × IsDropped s r c). inr bad.1) (step.ended c stage at);
      closes = closes_only s sound t i r start.there asked outcome.Done true [] refl;
      may = λ lv b over. ap (λ (k : Known). k.values) (was_ended s sound t i r start.there asked outcome.Done true [] start.write (going_not_landed r start.going) lv b over)
          ∙ ap (λ (v : List ℕ). Some (v ∷ [])) (brings s sound t i r start.there asked outcome.Done true [] start.write lv b over);
    }

pub lost_effect : (s : ModelState) (i : ℕ) (r : Queued) → Sound s → Told s.queue s.name s.facts → LandsLost s i r → LostEffect s i r (s.facts ++ HasLanded (s.name i) outcome.Lost true [] ∷ [])
lost_effect s i r sound t step =
    let start = step.started in
    let asked = write_asks s t i r start.there start.write in
    let q : Request = s.name i in
    record {
      started = start;
      kept = step.kept;
      ended = step.dropped;
      closes = closes_only s sound t i r start.there asked outcome.Lost true [] refl;
      may = λ lv b over value h. subst (λ (k : Known). IsIn k.values value) (sym (was_ended s sound t i r start.there asked outcome.Lost true [] start.write (going_not_landed r start.going) lv b over))
          (⊎_elim
          (λ (old : IsIn (told s lv b).values value). in_more (told s lv b).values (block_of q.blocks q.at b ∷ []) value old)
          (λ (new : ((values : List (List ℕ)) × ((told s lv b).values ≡ Some values)) × (value ≡ r.value b)).
          in_added (told s lv b).values (block_of q.blocks q.at b ∷ []) new.0.0 value new.0.1 (inl (brings s sound t i r start.there asked outcome.Lost true [] start.write lv b over ∙ sym new.1)))
          h);
    }

-- ---- Got

pub got_effect : (s : ModelState) (i : ℕ) (r : Queued) (got : List (List ℕ)) → Sound s → Told s.queue s.name s.facts → (step : LandsGot s i r got) → GotEffect s i r step.value (s.facts ++ HasLanded (s.name i) outcome.Got true got ∷ [])
got_effect s i r got sound t step = record {
  there = step.there;
  read = step.read;
  past = step.past;
  got = step.has;
  closes = closes_only s sound t i r step.there step.request outcome.Got true got refl;
  loose = λ lv b loose. ⊎_elim
      (λ (over : IsTrue (covers r lv b)). was_read s sound t i r step.there step.request outcome.Got true got step.read lv b over
      ∙ ap (λ (x : Bool). if x then told s lv b else record (told s lv b) { values = Some (block_of got (s.name i).at b ∷ []) }) loose)
      (λ (off : IsFalse (covers r lv b)). (closes_only s sound t i r step.there step.request outcome.Got true got refl).outside lv b off)
      (cases_Bool (covers r lv b));
  tight = λ lv b over tight. ap (λ (k : Known). k.values) (was_read s sound t i r step.there step.request outcome.Got true got step.read lv b over)
      ∙ ap (λ (x : Bool). (if x then told s lv b else record (told s lv b) { values = Some (block_of got (s.name i).at b ∷ []) }).values) tight
      ∙ ap (λ (v : List ℕ). Some (v ∷ [])) (step.blocks lv b over);
}

in_may : (values : Option (List (List ℕ))) (x : List ℕ) → IsIn values x → IfSome values (λ vs. IsInList x vs)
in_may None x h = absurd h
in_may (Some vs) x h = h

-- what it got is allowed
pub got_may : (s : ModelState) (i : ℕ) (r : Queued) (got : List (List ℕ)) → Sound s → Told s.queue s.name s.facts → LandsGot s i r got → Gets s.facts (s.name i) got
got_may s i r got sound t step =
    let q : Request = s.name i in
    let is = t.same i r step.there step.request in
    record {
      whole = step.whole;
      allowed = λ b low high.
          let inside : IsTrue (is_over q (Lv r.lv) b) = in_span q (Lv r.lv) b (ap (λ (v : Vol). same_vol v (Lv r.lv)) is.vol ∙ eq-eqb r.lv r.lv refl) low high in
          let over : IsTrue (covers r r.lv b) = sym (is.over r.lv b) ∙ inside in
          let allowed = got_is_allowed s i r step.value (s.facts ++ HasLanded q outcome.Got true got ∷ []) (got_effect s i r got sound t step) sound r.lv b over in
          subst (λ (v : Vol). May (known s.facts v b) (block_of got q.at b)) (sym is.vol)
          (in_may (told s r.lv b).values (block_of got q.at b) (subst (IsIn (told s r.lv b).values) (sym (step.blocks r.lv b over)) allowed));
    }
  where
    in_span : (q : Request) (vol : Vol) (b : ℕ) → IsTrue (same_vol q.vol vol) → q.at ≤ b → b < q.at + q.count → IsTrue (is_over q vol b)
    in_span q vol b same low high =
        let a : nat_le q.at b ≡ true = grind (arith, nat_tests, low) in
        let c : nat_lt b (q.at + q.count) ≡ true = grind (arith, nat_tests, high) in
        and_from (same_vol q.vol vol && nat_le q.at b) (nat_lt b (q.at + q.count)) (and_from (same_vol q.vol vol) (nat_le q.at b) same a) c

-- ---- NoFresh and ReadFailed

not_going : {X : Type 0} (p : ModelPhase) → IsTrue (has_landed p) → p ≡ Going → X
not_going p h e = clash_gives (has_landed p) h (ap has_landed e)

-- nothing changes of what each block may have
abbrev pub quiet_landing : Outcome → Bool
quiet_landing outcome.ReadFailed = true
quiet_landing outcome.NoFresh = true
quiet_landing _ = false

quiet_values : (how : Outcome) → IsTrue (quiet_landing how) → (facts : List Fact) (q : Request) (started : Bool) (lv b : ℕ)
    → ((known (facts ++ HasLanded q how started [] ∷ []) (Lv lv) b).values ≡ (known facts (Lv lv) b).values) × ((known (facts ++ HasLanded q how started [] ∷ []) (Lv lv) b).loose ≡ (known facts (Lv lv) b).loose)
quiet_values outcome.ReadFailed quiet facts q started lv b = (
  after_landing facts q outcome.ReadFailed started [] lv b (λ (k : Known). k.values ≡ (known facts (Lv lv) b).values) refl (λ over write still. refl) (λ over is_read. refl),
  after_landing facts q outcome.ReadFailed started [] lv b (λ (k : Known). k.loose ≡ (known facts (Lv lv) b).loose) refl (λ over write still. refl) (λ over is_read. refl),
)
quiet_values outcome.NoFresh quiet facts q started lv b = (
  after_landing facts q outcome.NoFresh started [] lv b (λ (k : Known). k.values ≡ (known facts (Lv lv) b).values) refl (λ over write still. refl) (λ over is_read. refl),
  after_landing facts q outcome.NoFresh started [] lv b (λ (k : Known). k.loose ≡ (known facts (Lv lv) b).loose) refl (λ over write still. refl) (λ over is_read. refl),
)
quiet_values _ quiet facts q started lv b = absurd cc

pub quiet_effect : (s : ModelState) (i : ℕ) (r : Queued) (how : Outcome) (started : Bool) → IsTrue (quiet_landing how) → Sound s → Told s.queue s.name s.facts → s.queue i ≡ Some r → IsFalse r.step
    → (IsTrue r.write → r.phase ≡ Going → ⊥) → ChangeEffect s i r (land r) (s.facts ++ HasLanded (s.name i) how started [] ∷ []) s.cache
quiet_effect s i r how started quiet sound t there asked calm = record {
  there = there;
  calm = calm;
  calm_now = λ write e. not_going Landed refl e;
  may = λ lv b. (quiet_values how quiet s.facts (s.name i) started lv b).0;
  loose = λ lv b. (quiet_values how quiet s.facts (s.name i) started lv b).1;
  modes = λ lv b. landing_mode s.facts (s.name i) how started [] lv b;
  writes = λ lv b j e at write which. ⊎_elim
      (λ (other : IsFalse (j == i)). landing_others s.facts (s.name i) how started [] lv b (s.name j) (t.apart i j r e there at asked (write_asks s t j e at write) other))
      (λ (un : IsFalse (has_landed Landed)). clash_gives true refl un)
      which;
  got = λ value h. inl h;
  pinning = λ write pins on several. clash_gives (is_pinning Landed) pins refl;
  cache_keeps = λ j e at write pins on several cached. cached;
}

-- ---- changes that the history doesn't tell

pub silent_effect : (s : ModelState) (i : ℕ) (r n : Queued) (cache : Groups) → s.queue i ≡ Some r → (IsTrue r.write → r.phase ≡ Going → ⊥) → (IsTrue n.write → n.phase ≡ Going → ⊥)
    → ((value : ℕ → List ℕ) → n.got ≡ Some value → (r.got ≡ Some value) ⊎ ((lv b : ℕ) → IsTrue (covers n lv b) → (c : Pp) × (x : Stage) × (r.targets c ≡ Some x) × (value b ≡ s.media.block lv b c)))
    → (IsTrue n.write → IsTrue (is_pinning n.phase) → IsTrue (s.is_active n.lv) → IsTrue n.several → IsTrue (is_pinning r.phase) ⊎ IsTrue (cache n.lv (track_group_of n.first)))
    → ((j : ℕ) (e : Queued) → s.queue j ≡ Some e → IsTrue e.write → IsTrue (is_pinning e.phase) → IsTrue (s.is_active e.lv) → IsTrue e.several → IsTrue (s.cache e.lv (track_group_of e.first)) → IsTrue (cache e.lv (track_group_of e.first)))
    → ChangeEffect s i r n s.facts cache
silent_effect s i r n cache there calm calm_now got pinning keeps = record {
  there = there;
  calm = calm;
  calm_now = calm_now;
  may = λ lv b. refl;
  loose = λ lv b. refl;
  modes = λ lv b. refl;
  writes = λ lv b j e at write which. refl;
  got = got;
  pinning = pinning;
  cache_keeps = keeps;
}

pub pin_alike : (r : Queued) → r.phase ≡ WantEntry → Alike r (record r { phase = Ready })
pin_alike r waits = alike_by r (record r { phase = Ready }) refl (λ h. ap is_past waits) (λ h. ap has_landed waits) (λ h. clash_gives (has_landed r.phase) h (ap has_landed waits)) (λ e y at. (y, at)) (λ e y at. (y, at))

pub read_alike : (r : Queued) (c : Pp) (stage : Stage) (got : Option (ℕ → List ℕ)) → IsTrue (is_past r.phase) → (x : Stage) × (r.targets c ≡ Some x) → Alike r (reading r c stage got)
read_alike r c stage got past was = alike_by r (reading r c stage got) refl (λ h. past) (λ h. past_unlanded r.phase past) (λ h. clash_gives (has_landed r.phase) h (past_unlanded r.phase past))
    (λ e y at. staged_was r.targets c e stage y at was.0 was.1) (λ e y at. staged_is r.targets c e stage y at)

-- ---- beginnings

pub begun_effect : (s : ModelState) (i : ℕ) (q : Request) (r : Queued) → Sound s → Told s.queue s.name s.facts → Submits s i q r → JoinEffect s i q r (s.facts ++ Begun q ∷ [])
begun_effect s i q r sound t step =
    let next = step.next in
    let above : count_by (begins_in q.run) s.facts < q.id = omega (arith, next) in
    record {
      held = step.held;
      newest = step.newest;
      may = λ lv b. beginning_values s.facts q lv b;
      loose = λ lv b. beginning_loose s.facts q lv b;
      modes = λ lv b. beginning_mode s.facts q lv b;
      own = λ write lv b. ⊎_elim
          (λ (over : IsTrue (covers r lv b)). beginning_own s.facts q lv b (step.same.write ∙ write) (step.same.over lv b ∙ over) ∙ ap (λ (v : List ℕ). Some v) (step.same.value lv b write over) ∙ sym (the_write_is r.write (covers r lv b) (r.value b) write over))
          (λ (off : IsFalse (covers r lv b)). beginning_outside s.facts q lv b (step.same.over lv b ∙ off) (not_open s.facts q (Lv lv) b t.legal above) ∙ sym (no_write r.write (covers r lv b) (r.value b) off))
          (cases_Bool (covers r lv b));
      others = λ lv b j e at write other. beginning_others s.facts q lv b (s.name j) (apart_back q (s.name j) (later_apart s.facts q (s.name j) t.legal above (t.began j e at (write_asks s t j e at write))));
      place = step.placed.place;
      inside = step.placed.inside;
    }
  where
    no_write : (write over : Bool) (v : List ℕ) → IsFalse over → (if write && over then Some v else None) ≡ None
    no_write true true v off = absurd cc
    no_write true false v off = refl
    no_write false over v off = refl

pub entered_effect : (s : ModelState) (i : ℕ) (q : Request) (r : Queued) → StepEnters s i r → JoinEffect s i q r s.facts
entered_effect s i q r step = record {
  held = step.held;
  newest = step.newest;
  may = λ lv b. refl;
  loose = λ lv b. refl;
  modes = λ lv b. refl;
  own = λ write lv b. clash_gives r.write write step.reads;
  others = λ lv b j e at write other. refl;
  place = step.placed.place;
  inside = step.placed.inside;
}
