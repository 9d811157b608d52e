-- A read lands with what it got; a request begins.
use Rattle.std.specs.Prelude.{if◌then◌else◌, IsTrue, IsFalse, ◌==◌}
use Rattle.std.proofs.Common.{◌≡◌, ◌⊎◌, inl, inr, ⊎_elim, ℕ, ◌<◌, Bool, false, List, [], ◌∷◌, Option, Some, refl, sym, ap, subst, ◌∙◌, eqb-true, arith, eq-eqb}
use Rattle.std.proofs.lemmas.Bool.{cases_Bool, and_left}
use Rattle.lvm_num.specs.declared.place.Pp.{Pp}
use Rattle.lvm_num.specs.Geometry.{track_group_of}
use Rattle.lvm_num.proofs.Booleans.{clash_gives}
use Rattle.lvm_vol.specs.May.{Known, is_off, known}
use Rattle.lvm_invariant.specs.State.{write_of, ModelPhase, Held, Going, Landed, Queued, ModelState, covers, is_past, has_landed, is_pinning, stale_in, Live, Started, told}
use Rattle.lvm_invariant.proofs.Small.{IsIn}
use Rattle.lvm_invariant.specs.Sound.{Quiescent, Blocks, Tied, ModelHolds, Sound, the_write}
use Rattle.lvm_invariant.proofs.SoundLemmas.Sound.{live_same, same_behind, same_statuses, equal_same, recorded_same, each_same}
use Rattle.lvm_invariant.proofs.StateLemmas.Effects.{GotEffect, JoinEffect}
use Rattle.lvm_invariant.proofs.StateLemmas.Claims.{Frame, Calmer, GotKeeps, GotIsAllowed, SubmitKeepsCore}
use Rattle.lvm_invariant.proofs.UpdatesLemmas.Requests.{put_cases, put_other, alone, past_of, past_not_landed, one_req}
use Rattle.lvm_invariant.proofs.StateLemmas.Calm.{calm_blocks, calmer_of}
use Rattle.lvm_invariant.proofs.StateLemmas.Writes.{from_put, got_put, pins_put, land_alike}
use Rattle.lvm_vol.specs.Facts.{Fact, Request}
use Rattle.lvm_vol.specs.declared.entry.Vol.TheVariants.{Lv}
use Rattle.lvm_invariant.specs.Updates.{put, with_name, land, landed}
use Rattle.lvm_invariant.proofs.SoundLemmas.Framing.{framed}

module _ (s : ModelState) (i : ℕ) (r : Queued) (value : ℕ → List ℕ) (facts : List Fact) (step : GotEffect s i r value facts) (sound : Sound s) where
  abbrev new : ModelState
  new = landed s i r facts

  un : IsFalse (has_landed r.phase)
  un = ⊎_elim (λ (l : IsTrue (has_landed r.phase)). absurd (past_not_landed r.phase step.past l)) (λ (f : IsFalse (has_landed r.phase)). f) (cases_Bool (has_landed r.phase))

  -- the copy that holds what it got, and that this is allowed and what all live copies hold, unless the block is loose
  seen_here : (lv b : ℕ) → IsTrue (covers r lv b) → IsIn (told s lv b).values (value b) × (IsTrue (told s lv b).loose ⊎ ((e : Pp) → Live s lv b e → s.media.block lv b e ≡ value b))
  seen_here lv b over = sound.holds.got i lv b r value step.there step.read step.past step.got over

  -- what is known of the block is as before, or it is the one value, which the live copies hold
  known_now : (lv b : ℕ) → (known facts (Lv lv) b ≡ told s lv b) ⊎ (((known facts (Lv lv) b).values ≡ Some (value b ∷ [])) × IsTrue (covers r lv b) × ((e : Pp) → Live s lv b e → s.media.block lv b e ≡ value b))
  known_now lv b = ⊎_elim
      (λ (over : IsTrue (covers r lv b)). ⊎_elim
      (λ (loose : IsTrue (told s lv b).loose). inl (step.loose lv b loose))
      (λ (tight : IsFalse (told s lv b).loose). inr (
        step.tight lv b over tight,
        over,
        ⊎_elim
            (λ (loose : IsTrue (told s lv b).loose). clash_gives (told s lv b).loose loose tight)
            (λ (equal : (e : Pp) → Live s lv b e → s.media.block lv b e ≡ value b). equal)
            (seen_here lv b over).1,
      ))
      (cases_Bool (told s lv b).loose))
      (λ (off : IsFalse (covers r lv b)). inl (step.closes.outside lv b off))
      (cases_Bool (covers r lv b))

  started_was : (j : ℕ) (e : Queued) → Started new j e → Started s j e
  started_was j e started = ⊎_elim
      (λ (is : (j ≡ i) × (land r ≡ e)). absurd (not_going e.phase (ap (λ (q : Queued). q.phase) is.1) started.going))
      (λ (other : IsFalse (j == i) × (s.queue j ≡ Some e)). record { there = other.1; write = started.write; going = started.going })
      (put_cases s.queue i j (land r) e started.there)
    where
      not_going : (p : ModelPhase) → Landed ≡ p → p ≡ Going → ⊥
      not_going p a b = cc

  started_still : (j : ℕ) (e : Queued) → Started s j e → Started new j e
  started_still j e started = record {
    write = started.write;
    going = started.going;
    there = ⊎_elim
        (λ (same : IsTrue (j == i)). clash_gives r.write (ap (λ (q : Queued). q.write) (one_req (sym step.there ∙ ap s.queue (sym (eqb-true _ _ same)) ∙ started.there)) ∙ started.write) step.read)
        (λ (other : IsFalse (j == i)). put_other s.queue i j (land r) other ∙ started.there)
        (cases_Bool (j == i));
  }

  -- no write that has started goes where it went
  elsewhere : (j lv b : ℕ) (e : Queued) → Started s j e → IsTrue (covers e lv b) → IsTrue (covers r lv b) → ⊥
  elsewhere j lv b e started over_e over =
      let same : i ≡ j = alone s sound i j r e step.there started.there step.past (past_of e.phase Going started.going refl) (record { lv = lv; block = b; first = over; second = over_e; writes = inr started.write }) in
      clash_gives r.write (ap (λ (q : Queued). q.write) (one_req (sym step.there ∙ ap s.queue same ∙ started.there)) ∙ started.write) step.read

  settled_now : (lv b : ℕ) → Quiescent s lv b → Quiescent new lv b
  settled_now lv b settled = record {
    calm = λ j e started over. settled.calm j e (started_was j e started) over;
    allowed = λ c live. ⊎_elim
        (λ (same : known facts (Lv lv) b ≡ told s lv b). subst (λ (k : Known). IsIn k.values (s.media.block lv b c)) (sym same) (settled.allowed c (live_same s new refl lv b c live)))
        (λ (one : ((known facts (Lv lv) b).values ≡ Some (value b ∷ [])) × IsTrue (covers r lv b) × ((e : Pp) → Live s lv b e → s.media.block lv b e ≡ value b)).
        subst (λ (m : Option (List (List ℕ))). IsIn m (s.media.block lv b c)) (sym one.0) (inl (sym (one.2 c (live_same s new refl lv b c live)))))
        (known_now lv b);
    equal = ⊎_elim
        (λ (same : known facts (Lv lv) b ≡ told s lv b). equal_same s new refl lv b (λ h. ap (λ (k : Known). k.loose) same ∙ h) (λ e live. (live_same s new refl lv b e live, refl)) (s.is_active lv) settled.equal)
        (λ (one : ((known facts (Lv lv) b).values ≡ Some (value b ∷ [])) × IsTrue (covers r lv b) × ((e : Pp) → Live s lv b e → s.media.block lv b e ≡ value b)). inl (value b, λ e live. one.2 e (live_same s new refl lv b e live)))
        (known_now lv b);
  }

  off_if_started : (j lv b : ℕ) (e : Queued) → Started s j e → IsTrue (covers e lv b) → known facts (Lv lv) b ≡ told s lv b
  off_if_started j lv b e started over = step.closes.outside lv b (⊎_elim (λ (h : IsTrue (covers r lv b)). absurd (elsewhere j lv b e started over h)) (λ (f : IsFalse (covers r lv b)). f) (cases_Bool (covers r lv b)))

  got_blocks : Blocks new
  got_blocks = record {
    each = each_same s new started_still settled_now sound.blocks;
    busy = λ j lv b e started over.
        let was = started_was j e started in
        let busy = sound.blocks.busy j lv b e was over in
        let same = off_if_started j lv b e was over in
        record {
          known = subst (λ (k : Known). (values : List (List ℕ)) × (k.values ≡ Some values)) (sym same) busy.known;
          aimed = λ c live. busy.aimed c (live_same s new refl lv b c live);
          value = λ c live. subst (λ (k : Known). IsIn k.values (s.media.block lv b c) ⊎ (s.media.block lv b c ≡ e.value b)) (sym same) (busy.value c (live_same s new refl lv b c live));
          well = busy.well;
        };
    recorded = λ j lv b e started over.
        recorded_same s new refl lv b e (sound.blocks.recorded j lv b e (started_was j e started) over);
  }

  got_frame : Frame s new
  got_frame = record {
    from = λ j m h. from_put s sound i r (land r) step.there (land_alike r un) j m h;
    writes = λ j m h write unlanded lv b. ⊎_elim
        (λ (is : (j ≡ i) × (land r ≡ m)). clash_gives (has_landed m.phase) (ap (λ (q : Queued). has_landed q.phase) (sym is.1)) unlanded)
        (λ (other : IsFalse (j == i) × (s.queue j ≡ Some m)). step.closes.others lv b j m other.1 write other.0)
        (put_cases s.queue i j (land r) m h);
    same = refl;
    modes = step.closes.modes;
    tight = step.closes.tight;
    seen = λ j lv b e m v seen h past. ⊎_elim
        (λ (same : known facts (Lv lv) b ≡ told s lv b). (
          subst (λ (k : Known). IsIn k.values v) (sym same) seen.allowed,
          ⊎_elim
              (λ (loose : IsTrue (told s lv b).loose). inl (ap (λ (k : Known). k.loose) same ∙ loose))
              (λ (equal : (g : Pp) → Live s lv b g → s.media.block lv b g ≡ v). inr (λ g live. equal g (live_same s new refl lv b g live)))
              seen.equal,
        ))
        (λ (one : ((known facts (Lv lv) b).values ≡ Some (value b ∷ [])) × IsTrue (covers r lv b) × ((e : Pp) → Live s lv b e → s.media.block lv b e ≡ value b)).
        let inside = sound.tied.inside i r step.there lv b one.1 in
        let kept = sound.statuses.kept lv b inside.0 inside.1 in
        let live : Live s lv b kept.0 = record { copy = kept.1; counts = inl (and_left (s.committed.value.stale kept.0) (stale_in s.in_flight kept.0) kept.2.committed) } in
        ⊎_elim
        (λ (loose : IsTrue (told s lv b).loose).
        let same = step.loose lv b loose in
        (subst (λ (k : Known). IsIn k.values v) (sym same) seen.allowed, inl (ap (λ (k : Known). k.loose) same ∙ loose)))
        (λ (equal : (g : Pp) → Live s lv b g → s.media.block lv b g ≡ v).
        (subst (λ (o : Option (List (List ℕ))). IsIn o v) (sym one.0) (inl (sym (one.2 kept.0 live) ∙ equal kept.0 live)), inr (λ g l. equal g (live_same s new refl lv b g l))))
        seen.equal)
        (known_now lv b);
    still = λ j lv b e m f seen h past. refl;
    got = λ j e m v was is got. inl (got_put s sound i r (land r) step.there (land_alike r un) (λ w h. h) j e m v was is got);
    pinning = λ j e m was is write pins on several. inl (pins_put s sound i r (land r) step.there (land_alike r un) (λ h. clash_gives false h refl) j e m was is pins);
    cache = λ j e h write pinning on several cached. cached;
  }

pub got_keeps : GotKeeps
got_keeps s i r value facts step sound = framed s (landed s i r facts) (got_frame s i r value facts step sound) refl (got_blocks s i r value facts step sound) sound

pub got_is_allowed : GotIsAllowed
got_is_allowed s i r value facts step sound lv b over = (seen_here s i r value facts step sound lv b over).0

-- ---- a request begins

pub named_at : (name : ℕ → Request) (i j : ℕ) (given : Request) → j ≡ i → with_name name i given j ≡ given
named_at name i j given same = ap (λ (t : Bool). if t then given else name j) (eq-eqb j i same)

pub named_other : (name : ℕ → Request) (i j : ℕ) (given : Request) → IsFalse (j == i) → with_name name i given j ≡ name j
named_other name i j given other = ap (λ (t : Bool). if t then given else name j) other

module _ (s : ModelState) (i : ℕ) (given : Request) (r : Queued) (facts : List Fact) (step : JoinEffect s i given r facts) (sound : Sound s) where
  abbrev next : ModelState
  next = record s { queue = put s.queue i r; facts = facts; name = with_name s.name i given }

  not_itself : {k : ℕ} → k < k → ⊥
  not_itself h = omega (arith, h)

  not_both_ways : {k m : ℕ} → k < m → m < k → ⊥
  not_both_ways a b = omega (arith, a, b)

  fresh_number : (j : ℕ) (e : Queued) → s.queue j ≡ Some e → IsFalse (j == i)
  fresh_number j e there = ⊎_elim (λ (same : IsTrue (j == i)). absurd (not_itself (subst (λ (k : ℕ). k < i) (eqb-true _ _ same) (step.newest j e there)))) (λ (f : IsFalse (j == i)). f) (cases_Bool (j == i))

  held_not_past : {X : Type 0} (p : ModelPhase) → p ≡ Held → IsTrue (is_past p) → X
  held_not_past p e h = clash_gives (is_past p) h (ap is_past e)

  calmer_next : Calmer s next
  calmer_next = calmer_of s next refl
      (λ j e started. ⊎_elim
      (λ (is : (j ≡ i) × (r ≡ e)). held_not_past e.phase (ap (λ (q : Queued). q.phase) (sym is.1) ∙ step.held) (past_of e.phase Going started.going refl))
      (λ (other : IsFalse (j == i) × (s.queue j ≡ Some e)). record { there = other.1; write = started.write; going = started.going })
      (put_cases s.queue i j r e started.there))
      (λ j e started. record { write = started.write; going = started.going; there = put_other s.queue i j r (fresh_number j e started.there) ∙ started.there }) step.may step.loose

  submit_tied : Tied next
  submit_tied = record {
    open_writes = λ j m h write unlanded lv b. ⊎_elim
        (λ (is : (j ≡ i) × (r ≡ m)). ap (write_of b (known facts (Lv lv) b)) (named_at s.name i j given is.0)
        ∙ step.own (ap (λ (q : Queued). q.write) is.1 ∙ write) lv b ∙ ap (λ (q : Queued). the_write q lv b) is.1)
        (λ (other : IsFalse (j == i) × (s.queue j ≡ Some m)). ap (write_of b (known facts (Lv lv) b)) (named_other s.name i j given other.0) ∙ step.others lv b j m other.1 write other.0 ∙ sound.tied.open_writes j m other.1 write unlanded lv b)
        (put_cases s.queue i j r m h);
    modes = λ lv b c copy off soft. ap is_off (step.modes lv b) ∙ sound.tied.modes lv b c copy off soft;
    tight = λ lv b c copy on. step.loose lv b ∙ sound.tied.tight lv b c copy on;
    owner = sound.tied.owner;
    inside = λ j m h lv b over. ⊎_elim
        (λ (is : (j ≡ i) × (r ≡ m)). step.inside lv b (ap (λ (q : Queued). covers q lv b) is.1 ∙ over))
        (λ (other : IsFalse (j == i) × (s.queue j ≡ Some m)). sound.tied.inside j m other.1 lv b over)
        (put_cases s.queue i j r m h);
    place = λ j m h lv b over. ⊎_elim
        (λ (is : (j ≡ i) × (r ≡ m)). subst (λ (q : Queued). (lv ≡ q.lv) × (track_group_of b ≡ track_group_of q.first) × (s.is_copy q.lv b ≡ s.is_copy q.lv q.first)) is.1 (step.place lv b (ap (λ (q : Queued). covers q lv b) is.1 ∙ over)))
        (λ (other : IsFalse (j == i) × (s.queue j ≡ Some m)). sound.tied.place j m other.1 lv b over)
        (put_cases s.queue i j r m h);
  }

  submit_holds : ModelHolds next
  submit_holds = record {
    order = λ p q m e at_p at_q low conflict past. ⊎_elim
        (λ (is_p : (p ≡ i) × (r ≡ m)). held_not_past m.phase (ap (λ (x : Queued). x.phase) (sym is_p.1) ∙ step.held) past)
        (λ (old_p : IsFalse (p == i) × (s.queue p ≡ Some m)). ⊎_elim
        (λ (is_q : (q ≡ i) × (r ≡ e)). absurd (not_both_ways (step.newest p m old_p.1) (subst (λ (k : ℕ). k < p) is_q.0 low)))
        (λ (other : IsFalse (q == i) × (s.queue q ≡ Some e)). sound.holds.order p q m e old_p.1 other.1 low conflict past)
        (put_cases s.queue i q r e at_q))
        (put_cases s.queue i p r m at_p);
    reads = λ j lv b m h read past over c x at. ⊎_elim
        (λ (is : (j ≡ i) × (r ≡ m)). held_not_past m.phase (ap (λ (x : Queued). x.phase) (sym is.1) ∙ step.held) past)
        (λ (other : IsFalse (j == i) × (s.queue j ≡ Some m)). let h = sound.holds.reads j lv b m other.1 read past over c x at in (
          subst (λ (o : Option (List (List ℕ))). IsIn o (s.media.block lv b c)) (sym (step.may lv b)) h.0,
          ⊎_elim
              (λ (loose : IsTrue (told s lv b).loose). inl (step.loose lv b ∙ loose))
              (λ (equal : (g : Pp) → Live s lv b g → s.media.block lv b g ≡ s.media.block lv b c). inr (λ g live. equal g (live_same s next refl lv b g live)))
              h.1,
        ))
        (put_cases s.queue i j r m h);
    got = λ j lv b m value h read past got over. ⊎_elim
        (λ (is : (j ≡ i) × (r ≡ m)). held_not_past m.phase (ap (λ (x : Queued). x.phase) (sym is.1) ∙ step.held) past)
        (λ (other : IsFalse (j == i) × (s.queue j ≡ Some m)). let h = sound.holds.got j lv b m value other.1 read past got over in (
          subst (λ (o : Option (List (List ℕ))). IsIn o (value b)) (sym (step.may lv b)) h.0,
          ⊎_elim
              (λ (loose : IsTrue (told s lv b).loose). inl (step.loose lv b ∙ loose))
              (λ (equal : (g : Pp) → Live s lv b g → s.media.block lv b g ≡ value b). inr (λ g live. equal g (live_same s next refl lv b g live)))
              h.1,
        ))
        (put_cases s.queue i j r m h);
  }

  submit_core : Sound next
  submit_core = record {
    blocks = calm_blocks s next calmer_next sound.blocks;
    tied = submit_tied;
    statuses = same_statuses s next refl sound.statuses;
    behind = same_behind s next refl sound.behind;
    notes = record {
      home = sound.notes.home;
      pinned = λ j m h write pins on several. ⊎_elim
          (λ (is : (j ≡ i) × (r ≡ m)). clash_gives (is_pinning m.phase) pins (ap (λ (q : Queued). is_pinning q.phase) (sym is.1) ∙ ap is_pinning step.held))
          (λ (other : IsFalse (j == i) × (s.queue j ≡ Some m)). sound.notes.pinned j m other.1 write pins on several)
          (put_cases s.queue i j r m h);
    };
    holds = submit_holds;
  }

pub submit_keeps : SubmitKeepsCore
submit_keeps s i given r facts step sound = submit_core s i given r facts step sound
