-- One request of the table changes.
use Rattle.std.proofs.Common.{◌≡◌, inl, inr, ⊎_elim, ℕ, zero, suc, ◌<◌, Bool, true, false, ◌==◌, List, [], ◌∷◌, length, Some, refl, sym, ap, subst, ◌∙◌, arith}
use Rattle.std.specs.Prelude.{if◌then◌else◌, slice_get, slice_set}
use Rattle.std.proofs.lemmas.Bool.{cases_eq}
use Rattle.std.proofs.lemmas.Bool.Decides.{nat_tests}
use Rattle.std.proofs.lemmas.Option.{slice_get_within, same_Some}
use Rattle.lvm_num.specs.declared.place.Pp.{Pp}
use Rattle.lvm_num.specs.Buffer.{Sector}
use Rattle.lvm_vol.specs.Facts.{Fact}
use Rattle.lvm_hold.specs.Waiting.{Waiting}
use Rattle.lvm_mwc.specs.declared.entries.CacheEntry.{CacheEntry}
use Rattle.lvm_mwc.specs.Entries.{has_entry}
use Rattle.lvm_sched.specs.declared.writes.TargetState.{TargetState}
use Rattle.lvm_path.specs.declared.target.Target.{Target}
use Rattle.lvm_path.specs.Targets.{with_state}
use Rattle.lvm_session.specs.declared.open.Open.{Open}
use Rattle.lvm_session.specs.declared.bringing.OpenCopy.{OpenCopy}
use Rattle.lvm_session.specs.declared.flown.Flown.{Flown}
use Rattle.lvm_session.specs.State.{Core}
use Rattle.lvm_session.specs.Judging.{place_of}
use Rattle.lvm_session.specs.Bringing.{has_row}
use Rattle.lvm_invariant.specs.State.{Queued, ModelState}
use Rattle.lvm_invariant.specs.Updates.{put, staged, with_block}
use Rattle.lvm_num.specs.Descriptor.{is_pp}
use Rattle.lvm_num.proofs.Lists.{set_beside, set_here}
use Rattle.lvm_crash.proofs.WritingLemmas.{pp_same}
use Rattle.lvm_tie.proofs.TiedLemmas.Orderly.{HaveNumbers}
use Rattle.lvm_tie.specs.Seen.{stage_seen, stage_at, SeesRequest, IsRequestAt, IsStepAt, Sees}

-- ---- a list of which one changes

-- ---- a target changes

-- a target's stage after a change is the staged one
pub stage_after : (ts : List Target) (number : ℕ) (t : Target) (state : TargetState) → ((j k : ℕ) (a b : Target) → slice_get ts j ≡ Some a → slice_get ts k ≡ Some b → a.pp ≡ b.pp → j ≡ k) → slice_get ts number ≡ Some t
    → (e : Pp) → stage_at (with_state ts number state) e ≡ staged (stage_at ts) t.pp (stage_seen state) e
stage_after [] number t state differ there e = absurd cc
stage_after (u ∷ us) zero t state differ there e =
    let same : u ≡ t = same_Some u t there in
    by (is_pp e u.pp) refl same
  where
    by : (b : Bool) → is_pp e u.pp ≡ b → u ≡ t → (if is_pp e u.pp then Some (stage_seen state) else stage_at us e) ≡ (if is_pp e t.pp then Some (stage_seen state) else (if is_pp e u.pp then Some (stage_seen u.state) else stage_at us e))
    by true test same = ap (λ c. if c then Some (stage_seen state) else stage_at us e) test ∙ sym (ap (λ c. if c then Some (stage_seen state) else (if is_pp e u.pp then Some (stage_seen u.state) else stage_at us e)) (ap (λ (x : Target). is_pp e x.pp) (sym same) ∙ test))
    by false test same = ap (λ c. if c then Some (stage_seen state) else stage_at us e) test
        ∙ sym (ap (λ c. if c then Some (stage_seen state) else (if is_pp e u.pp then Some (stage_seen u.state) else stage_at us e)) (ap (λ (x : Target). is_pp e x.pp) (sym same) ∙ test) ∙ ap (λ c. if c then Some (stage_seen u.state) else stage_at us e) test)
stage_after (u ∷ us) (suc number) t state differ there e =
    by (is_pp e u.pp) refl (is_pp e t.pp) refl (stage_after us number t state (λ j k a b at too same. let d = differ (suc j) (suc k) a b at too same in omega arith) there e)
  where
    by : (b : Bool) → is_pp e u.pp ≡ b → (c : Bool) → is_pp e t.pp ≡ c → stage_at (with_state us number state) e ≡ (if is_pp e t.pp then Some (stage_seen state) else stage_at us e)
        → (if is_pp e u.pp then Some (stage_seen u.state) else stage_at (with_state us number state) e) ≡ (if is_pp e t.pp then Some (stage_seen state) else (if is_pp e u.pp then Some (stage_seen u.state) else stage_at us e))
    by true test true own rest = absurd (let d = differ (suc number) 0 t u there refl (sym (pp_same e t.pp own) ∙ pp_same e u.pp test) in omega arith)
    by true test false own rest = ap (λ x. if x then Some (stage_seen u.state) else stage_at (with_state us number state) e) test
        ∙ sym (ap (λ x. if x then Some (stage_seen state) else (if is_pp e u.pp then Some (stage_seen u.state) else stage_at us e)) own ∙ ap (λ x. if x then Some (stage_seen u.state) else stage_at us e) test)
    by false test c own rest = ap (λ x. if x then Some (stage_seen u.state) else stage_at (with_state us number state) e) test ∙ rest
        ∙ ap (λ y. if is_pp e t.pp then Some (stage_seen state) else y) (sym (ap (λ x. if x then Some (stage_seen u.state) else stage_at us e) test))

-- the others, and each partition, stay
pub target_was : (ts : List Target) (number : ℕ) (state : TargetState) (k : ℕ) (t : Target) → slice_get (with_state ts number state) k ≡ Some t → (u : Target) × (slice_get ts k ≡ Some u) × (u.pp ≡ t.pp)
target_was [] number state k t there = absurd cc
target_was (u ∷ us) zero state zero t there = (u, refl, ap (λ (x : Target). x.pp) (same_Some (record u { state = state }) t there))
target_was (u ∷ us) zero state (suc k) t there = (t, there, refl)
target_was (u ∷ us) (suc number) state zero t there = (u, refl, ap (λ (x : Target). x.pp) (same_Some u t there))
target_was (u ∷ us) (suc number) state (suc k) t there = target_was us number state k t there

-- so it is no place to which a copy moves where it was none
pub target_moves : (ts : List Target) (number : ℕ) (state : TargetState) (k : ℕ) (t : Target) → slice_get (with_state ts number state) k ≡ Some t → (u : Target) × (slice_get ts k ≡ Some u) × (u.moves ≡ t.moves)
target_moves [] number state k t there = absurd cc
target_moves (u ∷ us) zero state zero t there = (u, refl, ap (λ (x : Target). x.moves) (same_Some (record u { state = state }) t there))
target_moves (u ∷ us) zero state (suc k) t there = (t, there, refl)
target_moves (u ∷ us) (suc number) state zero t there = (u, refl, ap (λ (x : Target). x.moves) (same_Some u t there))
target_moves (u ∷ us) (suc number) state (suc k) t there = target_moves us number state k t there

pub same_long : (ts : List Target) (number : ℕ) (state : TargetState) → length (with_state ts number state) ≡ length ts
same_long [] number state = refl
same_long (u ∷ us) zero state = refl
same_long (u ∷ us) (suc number) state = let rest = same_long us number state in omega (arith, rest)

-- ---- a request changes

module _ (past : List Fact) (core : Core) (v : ModelState) (place : ℕ) (o o2 : Open) (q2 : Queued) (pool : List Bool) (flying : List Flown) (last : List ℕ) (queue : Waiting) (entries : List CacheEntry) (block : ℕ → ℕ → Pp → Sector)
    (sees : Sees past core v) (numbers : HaveNumbers core) (there : slice_get core.requests place ≡ Some o) (same_id : o2.request.id ≡ o.request.id) (sees_new : SeesRequest o2 q2)
    (same_entries : (lv g : ℕ) → has_entry entries lv g ≡ has_entry core.cache.entries lv g) where
  abbrev i : ℕ
  i = place_of o.request.id

  abbrev new : Core
  new = record core { requests = slice_set core.requests place o2; pool = pool; flying = flying; last = last; queue = queue; cache = record core.cache { entries = entries } }

  abbrev w : ModelState
  w = record v { queue = put v.queue i q2; media = with_block v.media block }

  within : place < length core.requests
  within = slice_get_within core.requests place o there

  put_here : (j : ℕ) → j ≡ i → w.queue j ≡ Some q2
  put_here j e = let test : (j == i) ≡ true = grind (arith, nat_tests) in ap (λ b. if b then Some q2 else v.queue j) test

  put_there : (j : ℕ) → (j ≡ i → ⊥) → w.queue j ≡ v.queue j
  put_there j ne = let test : (j == i) ≡ false = grind (arith, nat_tests) in ap (λ b. if b then Some q2 else v.queue j) test

  -- another request has another place in the queue
  other_place : (k : ℕ) (p : Open) → (k ≡ place → ⊥) → slice_get core.requests k ≡ Some p → place_of p.request.id ≡ i → ⊥
  other_place k p ne at e = ne (numbers k place p o at there (omega arith))

  -- and so has a step
  pub step_apart : (c : OpenCopy) → core.copy ≡ Some c → has_row core c ≡ true → c.place ≡ i → ⊥
  step_apart c is row e =
      let a = sees.queue.a_step c is row in
      let b = sees.queue.requests place o there in
      let same : a.0 ≡ b.0 = same_Some a.0 b.0 (sym a.1 ∙ ap v.queue e ∙ b.1) in
      let no : ◌≡◌ {A = Bool} true false = sym a.2.step ∙ ap (λ (x : Queued). x.step) same ∙ b.2.step in
      absurd cc

  pub sees_changed : Sees past new w
  sees_changed = record {
    queue = record {
      requests = λ k p at. elim (cases_eq k place) [
        | inl e ↦ let own : p ≡ o2 = same_Some p o2 (sym at ∙ ap (slice_get (slice_set core.requests place o2)) e ∙ set_here core.requests place o2 within) in
            (q2, put_here (place_of p.request.id) (ap (λ (x : Open). place_of x.request.id) own ∙ ap place_of same_id), subst (λ (x : Open). SeesRequest x q2) (sym own) sees_new)
        | inr ne ↦ let was = sym (set_beside core.requests place k o2 ne) ∙ at in let s = sees.queue.requests k p was in (s.0, put_there (place_of p.request.id) (other_place k p ne was) ∙ s.1, s.2)
      ];
      a_step = λ c is row. let s = sees.queue.a_step c is row in (s.0, put_there c.place (step_apart c is row) ∙ s.1, s.2);
      only = λ j q at. elim (cases_eq j i) [
        | inl e ↦ inl (record { place = place; request = o2; there = set_here core.requests place o2 within; its = ap place_of same_id ∙ sym e })
        | inr ne ↦ ⊎_elim
            (λ (r : IsRequestAt core j). inl (record { place = r.place; request = r.request; there = set_beside core.requests place r.place o2 (λ e. ne (sym r.its ∙ ap (λ (x : Open). place_of x.request.id) (same_Some r.request o (sym r.there ∙ ap (slice_get core.requests) e ∙ there)))) ∙ r.there; its = r.its }))
            (λ (r : IsStepAt core j). inr r)
            (sees.queue.only j q (sym (put_there j ne) ∙ at))
      ];
      names = λ k p at. elim (cases_eq k place) [
        | inl e ↦ let own : p ≡ o2 = same_Some p o2 (sym at ∙ ap (slice_get (slice_set core.requests place o2)) e ∙ set_here core.requests place o2 within) in
            let id : p.request.id ≡ o.request.id = ap (λ (x : Open). x.request.id) own ∙ same_id in
            ap (λ n. v.name (place_of n)) id ∙ sees.queue.names place o there ∙ ap (Rattle.lvm_vol.specs.Log.request_of core.history.facts) (sym id)
        | inr ne ↦ sees.queue.names k p (sym (set_beside core.requests place k o2 ne) ∙ at)
      ];
    };
    facts = sees.facts;
    status = sees.status;
    notes = record {
      cache = λ lv g. sees.notes.cache lv g ∙ sym (same_entries lv g);
      home = sees.notes.home;
      flying = sees.notes.flying;
    };
    open_copy = sees.open_copy;
    step_write = sees.step_write;
    beside = sees.beside;
  }
