-- Requests that aren't writes under way.
use Rattle.std.proofs.Common.{◌≡◌, ◌⊎◌, inl, inr, ⊎_elim, ℕ, ◌<◌, Bool, true, false, List, Option, Some, None, refl, sym, ap, subst, ◌∙◌, eqb-true, eq-or-lt_of_le, ◌≤◌, arith}
use Rattle.std.specs.Prelude.{IsTrue, IsFalse, ◌==◌}
use Rattle.std.proofs.lemmas.Bool.{cases_lt, cases_Bool, and_left}
use Rattle.lvm_num.specs.declared.place.Pp.{Pp}
use Rattle.lvm_num.specs.Geometry.{track_group_of}
use Rattle.lvm_num.proofs.Booleans.{clash_gives, both_fail}
use Rattle.lvm_invariant.specs.State.{write_of, Groups, Stage, ModelPhase, Held, WantEntry, Ready, Going, Queued, ModelState, covers, request_of, is_past, has_landed, is_pinning, stale_in, Live, Started, told}
use Rattle.lvm_invariant.proofs.Small.{IsIn}
use Rattle.lvm_invariant.specs.Sound.{Conflict, MayDiffer, Agree, Quiescent, Tied, ModelHolds, Sound, the_write}
use Rattle.lvm_invariant.proofs.SoundLemmas.Sound.{live_same, same_statuses, same_behind}
use Rattle.lvm_invariant.proofs.StateLemmas.Claims.{Frame, Calmer, PlainKeeps, AdmitKeepsCore}
use Rattle.lvm_invariant.proofs.UpdatesLemmas.Requests.{put_cases, put_other, past_of, past_not_landed, one_req}
use Rattle.lvm_invariant.proofs.StateLemmas.Calm.{calm_blocks, calmer_of}
use Rattle.lvm_invariant.proofs.StateLemmas.Writes.{from_put}
use Rattle.lvm_vol.specs.declared.entry.Vol.TheVariants.{Lv}
use Rattle.lvm_vol.specs.May.{known}
use Rattle.lvm_vol.specs.Facts.{Fact}
use Rattle.lvm_invariant.specs.Admit.{admitted, Admits}
use Rattle.lvm_invariant.specs.Updates.{put, with_req}
use Rattle.lvm_invariant.proofs.SoundLemmas.Framing.{framed}
use Rattle.lvm_invariant.proofs.StateLemmas.Entered.{past_unlanded}

-- ---- a request that isn't a write under way changes, and no block does

module _ (s : ModelState) (i : ℕ) (r n : Queued) (facts : List Fact) (cache : Groups) (there : s.queue i ≡ Some r)
    (calm : IsTrue r.write → r.phase ≡ Going → ⊥) (calm_now : IsTrue n.write → n.phase ≡ Going → ⊥)
    (may : (lv b : ℕ) → (known facts (Lv lv) b).values ≡ (told s lv b).values) (loose : (lv b : ℕ) → (known facts (Lv lv) b).loose ≡ (told s lv b).loose) where
  abbrev pub plain : ModelState
  plain = record s { queue = put s.queue i n; facts = facts; cache = cache }

  started_was : (j : ℕ) (e : Queued) → Started plain j e → Started s j e
  started_was j e started = ⊎_elim
      (λ (is : (j ≡ i) × (n ≡ e)). absurd (calm_now (ap (λ (q : Queued). q.write) is.1 ∙ started.write) (ap (λ (q : Queued). q.phase) is.1 ∙ started.going)))
      (λ (other : IsFalse (j == i) × (s.queue j ≡ Some e)). record { there = other.1; write = started.write; going = started.going })
      (put_cases s.queue i j n e started.there)

  started_still : (j : ℕ) (e : Queued) → Started s j e → Started plain j e
  started_still j e started = record {
    write = started.write;
    going = started.going;
    there = ⊎_elim
        (λ (same : IsTrue (j == i)).
        let is : r ≡ e = one_req (sym there ∙ ap s.queue (sym (eqb-true _ _ same)) ∙ started.there) in
        absurd (calm (ap (λ (q : Queued). q.write) is ∙ started.write) (ap (λ (q : Queued). q.phase) is ∙ started.going)))
        (λ (other : IsFalse (j == i)). put_other s.queue i j n other ∙ started.there)
        (cases_Bool (j == i));
  }

  pub calmer_plain : Calmer s plain
  calmer_plain = calmer_of s plain refl started_was started_still may loose

pub plain_keeps : PlainKeeps
plain_keeps s i r n facts cache step alike sound =
    let frame : Frame s (record s { queue = put s.queue i n; facts = facts; cache = cache }) = record {
      from = λ j m h. from_put s sound i r n step.there alike j m h;
      writes = λ j m h write unlanded lv b. ⊎_elim
          (λ (is : (j ≡ i) × (n ≡ m)). step.writes lv b j r (ap s.queue is.0 ∙ step.there) (sym alike.write ∙ ap (λ (q : Queued). q.write) is.1 ∙ write) (inr (ap (λ (q : Queued). has_landed q.phase) is.1 ∙ unlanded)))
          (λ (other : IsFalse (j == i) × (s.queue j ≡ Some m)). step.writes lv b j m other.1 write (inl other.0))
          (put_cases s.queue i j n m h);
      same = refl;
      modes = step.modes;
      tight = λ lv b c copy on. step.loose lv b ∙ sound.tied.tight lv b c copy on;
      seen = λ j lv b e m v seen h past. (
        subst (λ (o : Option (List (List ℕ))). IsIn o v) (sym (step.may lv b)) seen.allowed,
        ⊎_elim
            (λ (loose : IsTrue (told s lv b).loose). inl (step.loose lv b ∙ loose))
            (λ (equal : (g : Pp) → Live s lv b g → s.media.block lv b g ≡ v). inr (λ g live. equal g (live_same s (record s { queue = put s.queue i n; facts = facts; cache = cache }) refl lv b g live)))
            seen.equal,
      );
      still = λ j lv b e m f seen h past. refl;
      got = λ j e m value was is got. ⊎_elim
          (λ (k : (j ≡ i) × (n ≡ m)).
          let e_is : e ≡ r = one_req (sym was ∙ ap s.queue k.0 ∙ step.there) in
          ⊎_elim
          (λ (before : r.got ≡ Some value). inl (ap (λ (q : Queued). q.got) e_is ∙ before))
          (λ (now : (lv b : ℕ) → IsTrue (covers n lv b) → (c : Pp) × (x : Stage) × (r.targets c ≡ Some x) × (value b ≡ s.media.block lv b c)).
          inr (λ lv b over. let w = now lv b (ap (λ (q : Queued). covers q lv b) k.1 ∙ over) in (w.0, w.1, ap (λ (q : Queued). q.targets w.0) e_is ∙ w.2, w.3)))
          (step.got value (ap (λ (q : Queued). q.got) k.1 ∙ got)))
          (λ (other : IsFalse (j == i) × (s.queue j ≡ Some m)). inl (ap (λ (q : Queued). q.got) (one_req (sym was ∙ other.1)) ∙ got))
          (put_cases s.queue i j n m is);
      pinning = λ j e m was is write pins on several. ⊎_elim
          (λ (k : (j ≡ i) × (n ≡ m)).
          let e_is : e ≡ r = one_req (sym was ∙ ap s.queue k.0 ∙ step.there) in
          ⊎_elim
          (λ (before : IsTrue (is_pinning r.phase)). inl (ap (λ (q : Queued). is_pinning q.phase) e_is ∙ before))
          (λ (now : IsTrue (cache n.lv (track_group_of n.first))). inr (subst (λ (q : Queued). IsTrue (cache q.lv (track_group_of q.first))) k.1 now))
          (step.pinning (ap (λ (q : Queued). q.write) k.1 ∙ write) (ap (λ (q : Queued). is_pinning q.phase) k.1 ∙ pins) (ap (λ (q : Queued). s.is_active q.lv) k.1 ∙ on) (ap (λ (q : Queued). q.several) k.1 ∙ several)))
          (λ (other : IsFalse (j == i) × (s.queue j ≡ Some m)). inl (ap (λ (q : Queued). is_pinning q.phase) (one_req (sym was ∙ other.1)) ∙ pins))
          (put_cases s.queue i j n m is);
      cache = λ j e h write pinning on several cached. step.cache_keeps j e h write pinning on several cached;
    } in
    framed s (record s { queue = put s.queue i n; facts = facts; cache = cache }) frame refl (calm_blocks s (record s { queue = put s.queue i n; facts = facts; cache = cache }) (calmer_plain s i r n facts cache step.there step.calm step.calm_now step.may step.loose) sound.blocks) sound

-- ---- a request is admitted

pub early_not_landed : (r : Queued) → (r.phase ≡ Held) ⊎ (r.phase ≡ WantEntry) ⊎ (r.phase ≡ Ready) ⊎ (IsFalse r.write × IsTrue (is_past r.phase) × (r.got ≡ None)) → IsFalse (has_landed r.phase)
early_not_landed r (inl e) = ap has_landed e
early_not_landed r (inr (inl e)) = ap has_landed e
early_not_landed r (inr (inr (inl e))) = ap has_landed e
early_not_landed r (inr (inr (inr e))) = past_unlanded r.phase e.1

early_not_going : (p : ModelPhase) → (p ≡ Held) ⊎ (p ≡ WantEntry) ⊎ (p ≡ Ready) → p ≡ Going → ⊥
early_not_going p (inl e) g = cc
early_not_going p (inr (inl e)) g = cc
early_not_going p (inr (inr e)) g = cc

write_not_going : (r : Queued) → (r.phase ≡ Held) ⊎ (r.phase ≡ WantEntry) ⊎ (r.phase ≡ Ready) ⊎ (IsFalse r.write × IsTrue (is_past r.phase) × (r.got ≡ None)) → IsTrue r.write → r.phase ≡ Going → ⊥
write_not_going r (inl e) w g = early_not_going r.phase (inl e) g
write_not_going r (inr (inl e)) w g = early_not_going r.phase (inr (inl e)) g
write_not_going r (inr (inr (inl e))) w g = early_not_going r.phase (inr (inr e)) g
write_not_going r (inr (inr (inr e))) w g = let c : ◌≡◌ {A = Bool} true false = sym w ∙ e.0 in cc

module _ (s : ModelState) (i : ℕ) (r : Queued) (phase : ModelPhase) (several : Bool) (targets : Pp → Option Stage) (step : Admits s i r phase several targets) (sound : Sound s) where
  abbrev n : Queued
  n = admitted r phase several targets

  abbrev new : ModelState
  new = with_req s i n

  un : IsFalse (has_landed r.phase)
  un = early_not_landed r step.early

  calm : IsTrue r.write → r.phase ≡ Going → ⊥
  calm w g = write_not_going r step.early w g

  calm_now : IsTrue n.write → n.phase ≡ Going → ⊥
  calm_now w g = ⊎_elim (λ (e : phase ≡ WantEntry). early_not_going phase (inr (inl e)) g) (λ (e : (phase ≡ Ready) × (IsTrue r.write → IsTrue (s.is_active r.lv) → IsTrue several → ⊥)). early_not_going phase (inr (inr e.0)) g) step.phase_now

  n_un : IsFalse (has_landed phase)
  n_un = ⊎_elim (λ (e : phase ≡ WantEntry). ap has_landed e) (λ (e : (phase ≡ Ready) × (IsTrue r.write → IsTrue (s.is_active r.lv) → IsTrue several → ⊥)). ap has_landed e.0) step.phase_now

  admit_tied : Tied new
  admit_tied = record {
    open_writes = λ j m h write unlanded lv b. ⊎_elim
        (λ (is : (j ≡ i) × (n ≡ m)). subst (λ (q : Queued). write_of b (told s lv b) (request_of s j) ≡ the_write q lv b) is.1
        (subst (λ (k : ℕ). write_of b (told s lv b) (request_of s k) ≡ the_write r lv b) (sym is.0) (sound.tied.open_writes i r step.there (ap (λ (q : Queued). q.write) is.1 ∙ write) un lv b)))
        (λ (other : IsFalse (j == i) × (s.queue j ≡ Some m)). sound.tied.open_writes j m other.1 write unlanded lv b)
        (put_cases s.queue i j n m h);
    modes = sound.tied.modes;
    tight = sound.tied.tight;
    owner = sound.tied.owner;
    inside = λ j m h lv b over. ⊎_elim
        (λ (is : (j ≡ i) × (n ≡ m)). sound.tied.inside i r step.there lv b (ap (λ (q : Queued). covers q lv b) is.1 ∙ over))
        (λ (other : IsFalse (j == i) × (s.queue j ≡ Some m)). sound.tied.inside j m other.1 lv b over)
        (put_cases s.queue i j n m h);
    place = λ j m h lv b over. ⊎_elim
        (λ (is : (j ≡ i) × (n ≡ m)). subst (λ (q : Queued). (lv ≡ q.lv) × (track_group_of b ≡ track_group_of q.first) × (s.is_copy q.lv b ≡ s.is_copy q.lv q.first)) is.1 (sound.tied.place i r step.there lv b (ap (λ (q : Queued). covers q lv b) is.1 ∙ over)))
        (λ (other : IsFalse (j == i) × (s.queue j ≡ Some m)). sound.tied.place j m other.1 lv b over)
        (put_cases s.queue i j n m h);
  }

  -- no write that has started goes where it goes, if one of the two writes
  quiet_there : (lv b : ℕ) → IsTrue (covers r lv b) → Quiescent s lv b
  quiet_there lv b over = ⊎_elim
      (λ (settled : Quiescent s lv b). settled)
      (λ (by : (j : ℕ) × (e : Queued) × Started s j e × IsTrue (covers e lv b)).
      let e_past : IsTrue (is_past by.1.phase) = past_of by.1.phase Going by.2.going refl in
      absurd (⊎_elim
      (λ (low : by.0 < i). past_not_landed by.1.phase e_past (step.free by.0 by.1 by.2.there low (record { lv = lv; block = b; first = by.3; second = over; writes = inl by.2.write })))
      (λ (rest : i ≤ by.0). ⊎_elim
      (λ (same : i ≡ by.0). calm (ap (λ (q : Queued). q.write) (one_req (sym step.there ∙ ap s.queue same ∙ by.2.there)) ∙ by.2.write) (ap (λ (q : Queued). q.phase) (one_req (sym step.there ∙ ap s.queue same ∙ by.2.there)) ∙ by.2.going))
      (λ (low : i < by.0). clash_gives (has_landed r.phase) (sound.holds.order by.0 i by.1 r by.2.there step.there low (record { lv = lv; block = b; first = over; second = by.3; writes = inr by.2.write }) e_past) un)
      (eq-or-lt_of_le rest))
      (cases_lt by.0 i)))
      (sound.blocks.each lv b)

  read_now : (lv b : ℕ) → IsTrue (covers r lv b) → IsFalse r.write → (c : Pp) (x : Stage) → targets c ≡ Some x
      → IsIn (told s lv b).values (s.media.block lv b c) × (IsTrue (told s lv b).loose ⊎ ((e : Pp) → Live new lv b e → s.media.block lv b e ≡ s.media.block lv b c))
  read_now lv b over read c x at =
      let place = sound.tied.place i r step.there lv b over in
      let u = step.usable read c x at in
      let parts = both_fail (s.committed.value.stale c) (s.missing c.disk) u.1 in
      let copy : IsTrue (s.is_copy lv b c) = subst (λ (v : ℕ). IsTrue (s.is_copy v b c)) (sym place.0) (ap (λ (g : Pp → Bool). g c) place.2 ∙ u.0) in
      let live : Live s lv b c = record { copy = copy; counts = inl (and_left (s.committed.value.stale c) (stale_in s.in_flight c) parts.0) } in
      let settled = quiet_there lv b over in (
        settled.allowed c live,
        ⊎_elim
            (λ (agree : Agree s lv b). inr (λ e l. agree.1 e (live_same s new refl lv b e l) ∙ sym (agree.1 c live)))
            (λ (differ : MayDiffer s lv b (s.is_active lv)). inl (by_mode (s.is_active lv) lv b differ c live parts.1))
            settled.equal,
      )
    where
      by_mode : (active : Bool) (lv b : ℕ) → MayDiffer s lv b active → (c : Pp) → Live s lv b c → IsFalse (s.missing c.disk) → IsTrue (told s lv b).loose
      by_mode true lv b differ c live there = clash_gives (s.missing c.disk) (differ c live).0 there
      by_mode false lv b (inl loose) c live there = loose
      by_mode false lv b (inr d) c live there = clash_gives (s.missing c.disk) (d.missing c live) there

  admit_holds : ModelHolds new
  admit_holds = record {
    order = λ p q m e at_p at_q low conflict past. ⊎_elim
        (λ (is_p : (p ≡ i) × (n ≡ m)). ⊎_elim
        (λ (is_q : (q ≡ i) × (n ≡ e)). absurd (not_below (subst (λ (k : ℕ). k < i) is_q.0 (subst (λ (k : ℕ). q < k) is_p.0 low))))
        (λ (other : IsFalse (q == i) × (s.queue q ≡ Some e)). step.free q e other.1 (subst (λ (k : ℕ). q < k) is_p.0 low) (conflict_as e m conflict is_p.1))
        (put_cases s.queue i q n e at_q))
        (λ (old_p : IsFalse (p == i) × (s.queue p ≡ Some m)). ⊎_elim
        (λ (is_q : (q ≡ i) × (n ≡ e)). clash_gives (has_landed r.phase) (sound.holds.order p i m r old_p.1 step.there (subst (λ (k : ℕ). k < p) is_q.0 low) (conflict_back e m conflict is_q.1) past) un)
        (λ (other : IsFalse (q == i) × (s.queue q ≡ Some e)). sound.holds.order p q m e old_p.1 other.1 low conflict past)
        (put_cases s.queue i q n e at_q))
        (put_cases s.queue i p n m at_p);
    reads = λ j lv b m h read past over c x at. ⊎_elim
        (λ (is : (j ≡ i) × (n ≡ m)). read_now lv b (ap (λ (q : Queued). covers q lv b) is.1 ∙ over) (ap (λ (q : Queued). q.write) is.1 ∙ read) c x (ap (λ (q : Queued). q.targets c) is.1 ∙ at))
        (λ (other : IsFalse (j == i) × (s.queue j ≡ Some m)). let h = sound.holds.reads j lv b m other.1 read past over c x at in (
          h.0,
          ⊎_elim
              (λ (loose : IsTrue (told s lv b).loose). inl loose)
              (λ (equal : (g : Pp) → Live s lv b g → s.media.block lv b g ≡ s.media.block lv b c). inr (λ g live. equal g (live_same s new refl lv b g live)))
              h.1,
        ))
        (put_cases s.queue i j n m h);
    got = λ j lv b m value h read past got over. ⊎_elim
        (λ (is : (j ≡ i) × (n ≡ m)). absurd (none_some (ap (λ (q : Queued). q.got) is.1 ∙ got)))
        (λ (other : IsFalse (j == i) × (s.queue j ≡ Some m)). let h = sound.holds.got j lv b m value other.1 read past got over in (
          h.0,
          ⊎_elim
              (λ (loose : IsTrue (told s lv b).loose). inl loose)
              (λ (equal : (g : Pp) → Live s lv b g → s.media.block lv b g ≡ value b). inr (λ g live. equal g (live_same s new refl lv b g live)))
              h.1,
        ))
        (put_cases s.queue i j n m h);
  }
    where
      none_some : {value : ℕ → List ℕ} → None ≡ Some value → ⊥
      none_some e = cc

      not_below : {k : ℕ} → k < k → ⊥
      not_below h = omega (arith, h)

      conflict_as : (e m : Queued) → Conflict e m → n ≡ m → Conflict e r
      conflict_as e m k is = record { lv = k.lv; block = k.block; first = k.first; second = ap (λ (q : Queued). covers q k.lv k.block) is ∙ k.second; writes = ⊎_elim (λ (w : IsTrue e.write). inl w) (λ (w : IsTrue m.write). inr (ap (λ (q : Queued). q.write) is ∙ w)) k.writes }

      conflict_back : (e m : Queued) → Conflict e m → n ≡ e → Conflict r m
      conflict_back e m k is = record { lv = k.lv; block = k.block; second = k.second; first = ap (λ (q : Queued). covers q k.lv k.block) is ∙ k.first; writes = ⊎_elim (λ (w : IsTrue e.write). inl (ap (λ (q : Queued). q.write) is ∙ w)) (λ (w : IsTrue m.write). inr w) k.writes }

  admit_core : Sound new
  admit_core = record {
    blocks = calm_blocks s (record s { queue = put s.queue i n; facts = s.facts; cache = s.cache }) (calmer_plain s i r n s.facts s.cache step.there calm calm_now (λ lv b. refl) (λ lv b. refl)) sound.blocks;
    tied = admit_tied;
    statuses = same_statuses s new refl sound.statuses;
    behind = same_behind s new refl sound.behind;
    notes = record {
      home = sound.notes.home;
      pinned = λ j m h write pins on sev. ⊎_elim
          (λ (is : (j ≡ i) × (n ≡ m)). ⊎_elim
          (λ (e : phase ≡ WantEntry). clash_gives (is_pinning m.phase) pins (ap (λ (q : Queued). is_pinning q.phase) (sym is.1) ∙ ap is_pinning e))
          (λ (e : (phase ≡ Ready) × (IsTrue r.write → IsTrue (s.is_active r.lv) → IsTrue several → ⊥)). absurd (e.1 (ap (λ (q : Queued). q.write) is.1 ∙ write) (ap (λ (q : Queued). s.is_active q.lv) is.1 ∙ on) (ap (λ (q : Queued). q.several) is.1 ∙ sev)))
          step.phase_now)
          (λ (other : IsFalse (j == i) × (s.queue j ≡ Some m)). sound.notes.pinned j m other.1 write pins on sev)
          (put_cases s.queue i j n m h);
    };
    holds = admit_holds;
  }

pub admit_keeps : AdmitKeepsCore
admit_keeps s i r phase several targets step sound = admit_core s i r phase several targets step sound
