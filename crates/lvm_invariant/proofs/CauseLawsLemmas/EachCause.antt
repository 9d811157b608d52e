-- What each event changes.
use Rattle.std.proofs.Common.{◌≡◌, ◌⊎◌, inl, inr, ⊎_elim, ℕ, ◌≤◌, Bool, true, false, ◌&&◌, not, ◌==◌, [], ◌∷◌, ◌++◌, Option, Some, None, refl, sym, ap, subst, ◌∙◌, arith, eqb-true}
use Rattle.std.specs.Prelude.{IsTrue, IsFalse, if◌then◌else◌}
use Rattle.std.proofs.lemmas.Option.{same_Some}
use Rattle.lvm_num.specs.declared.place.Pp.{Pp}
use Rattle.lvm_num.specs.Record.{Stamped}
use Rattle.lvm_disk.specs.Counts.{Rose}
use Rattle.lvm_vol.specs.declared.entry.Outcome.TheVariants as outcome
use Rattle.lvm_vol.specs.Facts.{Fact, Begun, Landed as HasLanded, Taken}
use Rattle.lvm_invariant.specs.State.{Marks, Stage, Todo, Flying, Badly, Queued, ModelCopy, ModelState, covers}
use Rattle.lvm_invariant.specs.Found.{Votes}
use Rattle.lvm_invariant.specs.Good.{Good}
use Rattle.lvm_invariant.specs.Updates.{put, without, staged}
use Rattle.lvm_num.specs.Descriptor.{is_pp}
use Rattle.lvm_invariant.specs.Events.{Event, Submit, EnterStep, Admit, Pin, Read, StartWrite, Transfer, LandDone, LandLost, LandGot, LandReadFailed, LandNoFresh, EndStep, Take, TakeEarlier, Want, BeginUpdate, MoveStatus, CommitUpdate, EndUpdate, StartNote, EndNote, Open, CopyWrite, Clear, ModelStep}
use Rattle.lvm_invariant.specs.LandNoFresh.{FindsNoFresh}
use Rattle.lvm_invariant.specs.CopyWrite.{PassesGroups}
use Rattle.lvm_invariant.specs.Faults.{Faults, FaultsRose, SomeFailed, NoneFailed, IsStaleForCause}
use Rattle.lvm_invariant.specs.Caused.{HadNoCopy, FactIsCaused, Caused}
use Rattle.lvm_invariant.specs.Why.{WriteFailedOn, IsBroughtUp, IsMarkedFor, MarksAreFor, Why, enters, asked_at}
use Rattle.lvm_invariant.proofs.CountingLemmas.{then_rose}
use Rattle.lvm_invariant.proofs.FaultsLemmas.{Change, fails_still, cause_stays}
use Rattle.lvm_invariant.proofs.SoundLemmas.Sound.{keeping_statuses}

-- what is changed at one place of the queue
of_put : (queue : ℕ → Option Queued) (i j : ℕ) (n r : Queued) → put queue i n j ≡ Some r → ((j ≡ i) × (r ≡ n)) ⊎ ((queue j ≡ Some r) × ((j == i) ≡ false))
of_put queue i j n r = by_test (j == i) refl
  where
    by_test : (t : Bool) → (j == i) ≡ t → (if t then Some n else queue j) ≡ Some r → ((j ≡ i) × (r ≡ n)) ⊎ ((queue j ≡ Some r) × ((j == i) ≡ false))
    by_test true is e = inl (eqb-true j i is, sym (same_Some n r e))
    by_test false is e = inr (e, is)

of_without : (queue : ℕ → Option Queued) (i j : ℕ) (r : Queued) → without queue i j ≡ Some r → queue j ≡ Some r
of_without queue i j r = by_test (j == i)
  where
    by_test : (t : Bool) → (if t then None else queue j) ≡ Some r → queue j ≡ Some r
    by_test true e = absurd cc
    by_test false e = e

of_staged : (targets : Pp → Option Stage) (c e : Pp) (stage x : Stage) → staged targets c stage e ≡ Some x → ((e.disk ≡ c.disk) × (stage ≡ x)) ⊎ (targets e ≡ Some x)
of_staged targets c e stage x = by_test (is_pp e c) refl
  where
    left : (a b : Bool) → a && b ≡ true → a ≡ true
    left true b h = refl
    left false b h = absurd cc

    by_test : (t : Bool) → is_pp e c ≡ t → (if t then Some stage else targets e) ≡ Some x → ((e.disk ≡ c.disk) × (stage ≡ x)) ⊎ (targets e ≡ Some x)
    by_test true is h = inl (eqb-true e.disk c.disk (left (e.disk == c.disk) (e.pp == c.pp) is), same_Some stage x h)
    by_test false is h = inr h

not_usable : (stale gone : Bool) → IsFalse (not stale && not gone) → IsTrue stale ⊎ IsTrue gone
not_usable true gone h = inl refl
not_usable false true h = inr refl
not_usable false false h = absurd cc

not_todo : (stage : Stage) → stage ≡ Todo → stage ≡ Badly → ⊥
not_todo stage a b = absurd cc

module _ (votes : Votes) (s : ModelState) (w : Faults) (now : ℕ → ℕ) (rises : (d : ℕ) → w.now d ≤ now d) (good : Good votes s) (caused : Caused w s) where
  abbrev Failed : Option ℕ → (ℕ → Option Queued) → Type 0
  Failed place queue = (i : ℕ) (r : Queued) (c : Pp) → queue i ≡ Some r → r.targets c ≡ Some Badly
      → ((e : Queued) × (s.queue i ≡ Some e) × (e.targets c ≡ Some Badly) × (asked_at place w i ≡ w.asked i)) ⊎ Rose (asked_at place w i c.disk) (now c.disk)

  abbrev LandsAs : Option ℕ → ModelState → Type 0
  LandsAs place new = (new.facts ≡ s.facts) ⊎ ((f : Fact) × (new.facts ≡ s.facts ++ f ∷ []) × FactIsCaused (record w { now = now; asked = asked_at place w }) new f)

  -- the copy that is brought up is the one that was
  abbrev IsOneOpen : Option ModelCopy → Type 0
  IsOneOpen open_copy = (o : ModelCopy) → open_copy ≡ Some o → ((p : ModelCopy) × (s.open_copy ≡ Some p) × (p.target ≡ o.target)) ⊎ IsStaleForCause (record w { now = now }) o.target

  same_open : (open_copy : Option ModelCopy) → ((o : ModelCopy) → open_copy ≡ Some o → s.open_copy ≡ Some o) → IsOneOpen open_copy
  same_open open_copy same o is = inl (o, same o is, refl)

  -- the statuses that are committed and under way, and the missing disks, are as they were
  still : (place : Option ℕ) (new : ModelState) → record new { is_copy = s.is_copy; missing = s.missing; committed = s.committed; in_flight = s.in_flight } ≡ new
      → ((c : Pp) → IsTrue (new.wanted.stale c) → IsTrue (s.wanted.stale c) ⊎ IsStaleForCause (record w { now = now }) c) → IsOneOpen new.open_copy → Failed place new.queue → LandsAs place new → Change w now place rises s new
  still place new same wanted brought_up failed landed = record {
    copies = ap (λ (x : ModelState). x.is_copy) (sym same);
    missing = λ d h. inl (ap (λ (x : ModelState). x.missing d) same ∙ h);
    still_missing = λ d h. ap (λ (x : ModelState). x.missing d) (sym same) ∙ h;
    committed = λ c h. inl (ap (λ (x : ModelState). x.committed.value.stale c) same ∙ h);
    in_flight = λ c u flies h. inl (ap (λ (x : ModelState). x.in_flight) same ∙ flies);
    wanted = wanted;
    brought_up = brought_up;
    failed = failed;
    landed = landed;
  }

  -- nothing is changed of statuses and copies
  quiet : (place : Option ℕ) (new : ModelState) → keeping_statuses s new ≡ new → Failed place new.queue → LandsAs place new → Change w now place rises s new
  quiet place new same failed landed = still place new (subst (λ (x : ModelState). record x { is_copy = s.is_copy; missing = s.missing; committed = s.committed; in_flight = s.in_flight } ≡ x) same refl)
      (λ c h. inl (ap (λ (x : ModelState). x.wanted.stale c) same ∙ h)) (same_open new.open_copy (λ o is. ap (λ (x : ModelState). x.open_copy) same ∙ is)) failed landed

  -- the queue stays
  same_queue : Failed None s.queue
  same_queue i r c there bad = inl (r, there, bad, refl)

  -- a place is entered by what has no target yet
  entered : (i : ℕ) (n : Queued) → ((c : Pp) → n.targets c ≡ None) → Failed (Some i) (put s.queue i n)
  entered i n none j r c there bad = ⊎_elim
      (λ (is : (j ≡ i) × (r ≡ n)). absurd (never (sym (none c) ∙ sym (ap (λ (q : Queued). q.targets c) is.1) ∙ bad)))
      (λ (is : (s.queue j ≡ Some r) × ((j == i) ≡ false)). inl (r, is.0, bad, ap (λ (t : Bool). if t then w.now else w.asked j) is.1))
      (of_put s.queue i j n r there)
    where
      never : None ≡ Some Badly → ⊥
      never e = absurd cc

  -- the request at a place is changed
  changed : (i : ℕ) (r n : Queued) → s.queue i ≡ Some r → ((c : Pp) → n.targets c ≡ Some Badly → (r.targets c ≡ Some Badly) ⊎ Rose (w.now c.disk) (now c.disk)) → Failed None (put s.queue i n)
  changed i r n there own j e c at bad = ⊎_elim
      (λ (is : (j ≡ i) × (e ≡ n)). ⊎_elim
      (λ (was : r.targets c ≡ Some Badly). inl (r, ap s.queue is.0 ∙ there, was, refl))
      (λ (rose : Rose (w.now c.disk) (now c.disk)). inr (then_rose (w.asked j c.disk) (w.now c.disk) (now c.disk) (caused.asked_before j c.disk) rose))
      (own c (sym (ap (λ (q : Queued). q.targets c) is.1) ∙ bad)))
      (λ (is : (s.queue j ≡ Some e) × ((j == i) ≡ false)). inl (e, is.0, bad, refl))
      (of_put s.queue i j n e at)

  -- its targets are those that it had
  kept : (i : ℕ) (r n : Queued) → s.queue i ≡ Some r → n.targets ≡ r.targets → Failed None (put s.queue i n)
  kept i r n there same = changed i r n there (λ c bad. inl (sym (ap (λ (f : Pp → Option Stage). f c) same) ∙ bad))

  -- one of its transfers changes
  restaged : (i : ℕ) (r n : Queued) (c : Pp) (stage : Stage) → s.queue i ≡ Some r → n.targets ≡ staged r.targets c stage → (stage ≡ Badly → Rose (w.now c.disk) (now c.disk)) → Failed None (put s.queue i n)
  restaged i r n c stage there same why = changed i r n there (λ e bad. ⊎_elim
      (λ (is : (e.disk ≡ c.disk) × (stage ≡ Badly)). inr (subst (λ (d : ℕ). Rose (w.now d) (now d)) (sym is.0) (why is.1)))
      (λ was. inl was)
      (of_staged r.targets c e stage Badly (sym (ap (λ (f : Pp → Option Stage). f e) same) ∙ bad)))

  -- what failed, failed since the session began
  has_failed : (i : ℕ) (r : Queued) (c : Pp) → s.queue i ≡ Some r → r.targets c ≡ Some Badly → FaultsRose w c.disk
  has_failed i r c there bad = then_rose (w.began c.disk) (w.asked i c.disk) (w.now c.disk) (caused.asked_since i c.disk) (caused.failed i r c there bad)

  some_failed : (i : ℕ) (r : Queued) (c : Pp) → s.queue i ≡ Some r → r.targets c ≡ Some Badly → SomeFailed (record w { now = now })
  some_failed i r c there bad = (c.disk, fails_still w now None rises c.disk (has_failed i r c there bad))

  -- a missing disk's copies have their cause
  gone_cause : (c : Pp) → IsTrue (w.missing c.disk) ⊎ FaultsRose (record w { now = now }) c.disk → IsStaleForCause (record w { now = now }) c
  gone_cause c h = inr h

  missing_cause : (d : ℕ) → IsTrue (s.missing d) → IsTrue (w.missing d) ⊎ FaultsRose (record w { now = now }) d
  missing_cause d h = ⊎_elim (λ a. inl a) (λ f. inr (fails_still w now None rises d f)) (caused.missing d h)

  -- newly wanted staleness has its cause
  marked : (missing : ℕ → Bool) → ((d : ℕ) → IsTrue (missing d) → IsTrue (w.missing d) ⊎ FaultsRose (record w { now = now }) d) → (c : Pp) → IsMarkedFor s missing c → IsStaleForCause (record w { now = now }) c
  marked missing gone c mark = ⊎_elim
      (λ (m : IsTrue (missing c.disk)). gone_cause c (gone c.disk m))
      (λ rest. ⊎_elim
      (λ (f : WriteFailedOn s c). inr (inr (fails_still w now None rises c.disk (has_failed f.place f.write c f.there f.failed))))
      (λ (o : IsBroughtUp s c). subst (IsStaleForCause (record w { now = now })) o.target (cause_stays w now None rises o.copy.target (caused.brought_up o.copy o.is_open)))
      rest)
      mark

  wants : (missing : ℕ → Bool) (wanted : Marks) → ((d : ℕ) → IsTrue (missing d) → IsTrue (w.missing d) ⊎ FaultsRose (record w { now = now }) d) → MarksAreFor s missing wanted
      → (c : Pp) → IsTrue (wanted.stale c) → IsTrue (s.wanted.stale c) ⊎ IsStaleForCause (record w { now = now }) c
  wants missing wanted gone marks c h = ⊎_elim (λ was. inl was) (λ mark. inr (marked missing gone c mark)) (marks c h)

  since_began : (d : ℕ) → w.began d ≤ w.now d
  since_began d = omega (arith, caused.asked_since 0 d, caused.asked_before 0 d)

  -- what became missing has its cause
  new_missing : (missing : ℕ → Bool) (d : ℕ) → IsTrue (s.missing d) ⊎ Rose (w.now d) (now d) → IsTrue (w.missing d) ⊎ FaultsRose (record w { now = now }) d
  new_missing missing d h = ⊎_elim (λ was. missing_cause d was) (λ rose. inr (then_rose (w.began d) (w.now d) (now d) (since_began d) rose)) h

  stale_cause : (c : Pp) → IsStaleForCause w c → IsStaleForCause (record w { now = now }) c
  stale_cause c h = cause_stays w now None rises c h

  no_open : {X : Type 0} (o : ModelCopy) → None ≡ Some o → X
  no_open o e = absurd cc

  no_flight : {X : Type 0} (u : Stamped Marks) → None ≡ Some u → X
  no_flight u e = absurd cc

  -- a request that finds no usable copy while no disk has failed had none at the beginning
  no_copy : (i : ℕ) (r : Queued) → FindsNoFresh s i r → NoneFailed (record w { now = now }) → HadNoCopy w s (s.name i)
  no_copy i r finds none lv b c over copy =
      let inside : IsTrue (covers r lv b) = sym ((good.told.same i r finds.there finds.request).over lv b) ∙ over in
      let place = good.sound.tied.place i r finds.there lv b inside in
      let here : IsTrue (s.is_copy r.lv r.first c) = sym (ap (λ (is : Pp → Bool). is c) place.2) ∙ ap (λ (l : ℕ). s.is_copy l b c) (sym place.0) ∙ copy in
      ⊎_elim
      (λ (stale : IsTrue (s.committed.value.stale c)). ⊎_elim
      (λ was. inl was)
      (λ rest. ⊎_elim (λ gone. inr gone) (λ f. absurd (none c.disk (fails_still w now None rises c.disk f))) rest)
      (caused.committed c stale))
      (λ (gone : IsTrue (s.missing c.disk)). ⊎_elim (λ was. inr was) (λ f. absurd (none c.disk f)) (missing_cause c.disk gone))
      (not_usable (s.committed.value.stale c) (s.missing c.disk) (finds.none c here))

  -- ---- each event

  abbrev Changes : Event → ModelState → Type 0
  Changes event new = Change w now (enters event) rises s new

  pub changes : (event : Event) (new : ModelState) → ModelStep votes event s new → Why event s w.now now → Changes event new
  changes (Submit i q r) new step why = subst (Changes (Submit i q r)) (sym step.1) (quiet (Some i) _ refl (entered i r why) (inr (Begun q, refl, tt)))
  changes (EnterStep i q r) new step why = subst (Changes (EnterStep i q r)) (sym step.1) (quiet (Some i) _ refl (entered i r why) (inl refl))
  changes (Admit i r phase several targets) new step why = subst (Changes (Admit i r phase several targets)) (sym step.1)
      (quiet None _ refl (changed i r _ step.0.there (λ c bad. absurd (not_todo Badly (why c Badly bad) refl))) (inl refl))
  changes (Pin i r cache) new step why = subst (Changes (Pin i r cache)) (sym step.1) (quiet None _ refl (kept i r _ step.0.there refl) (inl refl))
  changes (Read i r c stage got) new step why = subst (Changes (Read i r c stage got)) (sym step.1) (quiet None _ refl (restaged i r _ c stage step.0.there refl why) (inl refl))
  changes (StartWrite i r c) new step why = subst (Changes (StartWrite i r c)) (sym step.1) (quiet None _ refl (restaged i r _ c Flying step.0.there refl (λ e. absurd cc)) (inl refl))
  changes (Transfer i r c stage block) new step why = subst (Changes (Transfer i r c stage block)) (sym step.1) (quiet None _ refl (restaged i r _ c stage step.0.started.there refl why) (inl refl))
  changes (LandDone i r) new step why = subst (Changes (LandDone i r)) (sym step.1) (quiet None _ refl (kept i r _ step.0.started.there refl) (inr (HasLanded (s.name i) outcome.Done true [], refl, tt)))
  changes (LandLost i r) new step why = subst (Changes (LandLost i r)) (sym step.1)
      (quiet None _ refl (kept i r _ step.0.started.there refl) (inr (HasLanded (s.name i) outcome.Lost true [], refl, some_failed i r why.0 step.0.started.there why.1)))
  changes (LandGot i r got) new step why = subst (Changes (LandGot i r got)) (sym step.1) (quiet None _ refl (kept i r _ step.0.there refl) (inr (HasLanded (s.name i) outcome.Got true got, refl, tt)))
  changes (LandReadFailed i r) new step why = subst (Changes (LandReadFailed i r)) (sym step.1)
      (quiet None _ refl (kept i r _ step.0.there refl)
      (inr (HasLanded (s.name i) outcome.ReadFailed true [], refl, some_failed i r why.0 step.0.there (why.2 ∙ ap (λ (x : Stage). Some x) (step.0.failed why.0 why.1 why.2)))))
  changes (LandNoFresh i r) new step why = subst (Changes (LandNoFresh i r)) (sym step.1)
      (quiet None _ refl (kept i r _ step.0.there refl) (inr (HasLanded (s.name i) outcome.NoFresh false [], refl, no_copy i r step.0)))
  changes (EndStep i r) new step why = subst (Changes (EndStep i r)) (sym step.1) (quiet None _ refl (kept i r _ step.0.there refl) (inl refl))
  changes (Take i r) new step why = subst (Changes (Take i r)) (sym step.1) (quiet None _ refl (λ j e c there bad. inl (e, of_without s.queue i j e there, bad, refl)) (by_step r.step))
    where
      by_step : (t : Bool) → ((if t then s.facts else s.facts ++ Taken (s.name i) ∷ []) ≡ s.facts)
          ⊎ ((f : Fact) × ((if t then s.facts else s.facts ++ Taken (s.name i) ∷ []) ≡ s.facts ++ f ∷ []) × FactIsCaused (record w { now = now }) (record s { queue = without s.queue i; facts = if t then s.facts else s.facts ++ Taken (s.name i) ∷ [] }) f)
      by_step true = inl refl
      by_step false = inr (Taken (s.name i), refl, tt)
  changes (TakeEarlier q) new step why = subst (Changes (TakeEarlier q)) (sym step.1) (quiet None _ refl same_queue (inr (Taken q, refl, tt)))
  changes (Want wanted missing open_copy) new step why = subst (Changes (Want wanted missing open_copy)) (sym step.1) (record {
    copies = refl;
    missing = λ d h. ⊎_elim (λ was. inl was) (λ rose. inr (then_rose (w.began d) (w.now d) (now d) (since_began d) rose)) (why.0 d h);
    still_missing = step.0.missing_still;
    committed = λ c h. inl h;
    in_flight = λ c u flies h. inl flies;
    wanted = wants missing wanted (λ d h. new_missing missing d (why.0 d h)) why.1;
    brought_up = same_open open_copy (λ o is. ⊎_elim (λ same. sym same ∙ is) (λ ends. no_open o (sym ends.0 ∙ is)) step.0.open_same);
    failed = same_queue;
    landed = inl refl;
  })
  changes (BeginUpdate u) new step why = subst (Changes (BeginUpdate u)) (sym step.1) (record {
    copies = refl;
    missing = λ d h. inl h;
    still_missing = λ d h. h;
    committed = λ c h. inl h;
    in_flight = λ c x flies h. inr (stale_cause c (caused.wanted c (ap (λ (m : Marks). m.stale c) (sym step.0.value) ∙ ap (λ (y : Stamped Marks). y.value.stale c) (same_Some u x flies) ∙ h)));
    wanted = λ c h. inl h;
    brought_up = same_open s.open_copy (λ o is. is);
    failed = same_queue;
    landed = inl refl;
  })
  changes (MoveStatus u status flying) new step why = subst (Changes (MoveStatus u status flying)) (sym step.1) (quiet None _ refl same_queue (inl refl))
  changes (CommitUpdate u has_it ended wanted open_copy) new step why = subst (Changes (CommitUpdate u has_it ended wanted open_copy)) (sym step.1) (record {
    copies = refl;
    missing = λ d h. inl h;
    still_missing = λ d h. h;
    committed = λ c h. inr (stale_cause c (caused.in_flight c u step.0.commits.flies h));
    in_flight = λ c x flies h. inl flies;
    wanted = wants s.missing wanted missing_cause why;
    brought_up = same_open open_copy (λ o is. ⊎_elim (λ same. (step.0.commits.open_same o (sym same ∙ is)).0) (λ ends. no_open o (sym ends.0 ∙ is)) step.0.marks.open_same);
    failed = same_queue;
    landed = inl refl;
  })
  changes EndUpdate new step why = subst (Changes EndUpdate) (sym step.1) (record {
    copies = refl;
    missing = λ d h. inl h;
    still_missing = λ d h. h;
    committed = λ c h. inl h;
    in_flight = λ c u flies h. no_flight u flies;
    wanted = λ c h. inl h;
    brought_up = same_open s.open_copy (λ o is. is);
    failed = same_queue;
    landed = inl refl;
  })
  changes (StartNote flying) new step why = subst (Changes (StartNote flying)) (sym step.1) (quiet None _ refl same_queue (inl refl))
  changes (EndNote d names home flying) new step why = subst (Changes (EndNote d names home flying)) (sym step.1) (quiet None _ refl same_queue (inl refl))
  changes (Open o) new step why = subst (Changes (Open o)) (sym step.1) (still None _ refl (λ c h. inl h)
      (λ p is. inr (subst (λ (x : ModelCopy). IsStaleForCause (record w { now = now }) x.target) (same_Some o p is) (stale_cause o.target (caused.committed o.target step.0.stale)))) same_queue (inl refl))
  changes (CopyWrite i r value target open_copy step_write block) new step why = subst (Changes (CopyWrite i r value target open_copy step_write block)) (sym step.1) (still None _ refl (λ c h. inl h)
      (λ o is. ⊎_elim
      (λ (same : open_copy ≡ s.open_copy). inl (o, sym same ∙ is, refl))
      (λ (p : PassesGroups s r value target block open_copy). inl (p.old, p.is_open, sym p.same_target ∙ ap (λ (x : ModelCopy). x.target) (same_Some p.new o (sym p.is_now ∙ is))))
      step.0.open_now) same_queue (inl refl))
  changes (Clear wanted c) new step why = subst (Changes (Clear wanted c)) (sym step.1) (still None _ refl (λ e h. inl (step.0.added e h))
      (same_open s.open_copy (λ o is. is)) same_queue (inl refl))
