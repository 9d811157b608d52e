-- The state as which a tied session is seen has its causes.
use Rattle.std.proofs.Common.{◌≡◌, ◌⊎◌, inl, inr, ℕ, suc, ◌+◌, ◌-◌, Bool, true, false, ◌&&◌, ◌||◌, ◌==◌, not, if◌then◌else◌, List, [], ◌∷◌, ◌++◌, Option, Some, None, refl, sym, ◌∙◌, ap, subst, arith, append_assoc}
use Rattle.std.specs.Prelude.{IfSome, IsTrue, slice_get, unwrap_or}
use Rattle.std.specs.List.{AllByRecursion, list_any}
use Rattle.std.specs.Option.{option_map, option_map_or}
use Rattle.std.proofs.lemmas.Bool.{eqb-true, or_right, and_parts}
use Rattle.std.proofs.lemmas.Bool.Decides.{nat_tests}
use Rattle.lvm_num.specs.declared.descriptor.LvRow.{LvRow}
use Rattle.lvm_num.specs.declared.place.Pp.{Pp}
use Rattle.lvm_num.specs.declared.status.Status.{Status}
use Rattle.lvm_num.specs.Descriptor.{copies_of, is_member, volume_of, is_pp}
use Rattle.lvm_num.specs.Disks.{has}
use Rattle.lvm_num.specs.Geometry.{partition_of}
use Rattle.lvm_num.specs.Record.{Stamped}
use Rattle.lvm_num.specs.Status.{calls_missing, calls_stale}
use Rattle.lvm_num.proofs.Booleans.{not_so, not_either}
use Rattle.lvm_num.proofs.Lists.{all_at}
use Rattle.lvm_disk.specs.Counts.{Rose}
use Rattle.lvm_vol.specs.declared.entry.Outcome.{Outcome}
use Rattle.lvm_vol.specs.declared.entry.Outcome.TheVariants as outcome
use Rattle.lvm_vol.specs.Facts.{Request as Asked, Fact, Making, Made, Split, Removing, Removed, Begun, Landed, Taken, Cut, On}
use Rattle.lvm_kept.specs.Group.{IsOneOf}
use Rattle.lvm_status.specs.Update.{members_there}
use Rattle.lvm_sched.specs.declared.writes.TargetState.{TargetState}
use Rattle.lvm_sched.specs.declared.writes.TargetState.TheVariants as target
use Rattle.lvm_path.specs.declared.target.Target.{Target}
use Rattle.lvm_path.specs.Targets.{is_failed}
use Rattle.lvm_session.specs.declared.bringing.OpenCopy.{OpenCopy}
use Rattle.lvm_session.specs.declared.open.Open.{Open}
use Rattle.lvm_session.specs.Bringing.{groups_of, is_whole}
use Rattle.lvm_session.specs.Calls.{copy_at}
use Rattle.lvm_session.specs.Judging.{copies_in, is_missing, is_running, is_stale, is_waiting, is_wanted_stale, place_of}
use Rattle.lvm_session.specs.State.{Core, State}
use Rattle.lvm_session.specs.Marks.{is_among}
use Rattle.lvm_session.specs.Causes.{AreCaused, AreCounted, FailedSince, TargetHasFailed as HasFailedSince, IsCaused, IsCausedAmong, IsCounted, faults_at_first, faults_at_opening, is_blamed, is_held_stale, was_usable}
use Rattle.lvm_session.specs.Sound.{IsSound}
use Rattle.lvm_invariant.specs.Caused.{FactIsCaused, HadNoCopy, LandingIsCaused, Since}
use Rattle.lvm_invariant.specs.Faults.{Faults, IsStaleForCause, FaultsRose}
use Rattle.lvm_invariant.specs.State.{Badly, Marks, ModelCopy, Queued, ModelState}
use Rattle.lvm_crash.specs.Session.{as_marks, is_beside, marks_of}
use Rattle.lvm_keeps_events.proofs.EndsLemmas.Counts.{rose_since}
use Rattle.lvm_keeps_events.proofs.Lists.{found_at}
use Rattle.lvm_crash.proofs.CopiesLemmas.{number_finds}
use Rattle.lvm_crash.proofs.WritingLemmas.{pp_same, same_pp}
use Rattle.lvm_tie.specs.Seen.{IsRequestAt, IsStepAt, SeesCopy, SeesRunning, stage_at, stage_seen}
use Rattle.lvm_tie.specs.Tied.{IsTied}
use Rattle.lvm_session.proofs.MovesLemmas.{move_of}
use Rattle.lvm_tie.proofs.StateLemmas.{copy_is, missing_seen, part_stale, whole_stale}
use Rattle.lvm_tie.proofs.TiedLemmas.Orderly.{valid_of}
use Rattle.lvm_tie.specs.Causes.{AreFaultsOf, CausesAreSeen, FaultsAreThere}
use Rattle.lvm_tie.specs.Landings.{FailuresAreCaused, HadNone, HasCausesSince, HasLandedFor, IsEntryCaused}
use Rattle.lvm_tie.proofs.SeenLemmas.Beside.{beside_destination, copy_its, stale_apart}

-- ---- small

not_both : (m : Bool) → not (m && false) ≡ true
not_both true = refl
not_both false = refl

known_by : (m o : Bool) → m ≡ true → not (m && not o) ≡ true → o ≡ true
known_by true true is e = refl
known_by true false is e = not_so e
known_by false o is e = not_so is

neither : (a b : Bool) → (a ≡ true → ⊥) → (b ≡ true → ⊥) → not a && not b ≡ true
neither true b one two = absurd (one refl)
neither false true one two = absurd (two refl)
neither false false one two = refl

one_among : (ps : List Pp) (p : Pp) → IsOneOf ps p → is_among ps p ≡ true
one_among [] p one = absurd one
one_among (q ∷ ps) p (inl is) = ap (λ b. b || is_among ps p) (same_pp p q is)
one_among (q ∷ ps) p (inr one) = or_right (is_pp p q) (is_among ps p) (one_among ps p one)

-- a target on the partition that has failed
pub record FailedOn (ts : List Target) (c : Pp) : Type 0 where
  pub number : ℕ
  pub aim : Target
  pub there : slice_get ts number ≡ Some aim
  pub pp_is : aim.pp ≡ c
  pub failed : is_failed aim.state ≡ true

failed_state : (x : TargetState) → stage_seen x ≡ Badly → is_failed x ≡ true
failed_state target.Waiting e = absurd (cc e)
failed_state target.Flying e = absurd (cc e)
failed_state target.Done e = absurd (cc e)
failed_state target.Failed e = refl

failed_on : (ts : List Target) (c : Pp) → stage_at ts c ≡ Some Badly → FailedOn ts c
failed_on [] c e = absurd (cc e)
failed_on (t ∷ ts) c e = by (is_pp c t.pp) refl e (failed_on ts c)
  where
    by : (b : Bool) → is_pp c t.pp ≡ b → (if b then Some (stage_seen t.state) else stage_at ts c) ≡ Some Badly → (stage_at ts c ≡ Some Badly → FailedOn ts c) → FailedOn (t ∷ ts) c
    by true same h rest = record { number = 0; aim = t; there = refl; pp_is = sym (pp_same c t.pp same); failed = failed_state t.state (let s : stage_seen t.state ≡ Badly = cc h in s) }
    by false other h rest = let r = rest h in record { number = suc r.number; aim = r.aim; there = r.there; pp_is = r.pp_is; failed = r.failed }

-- a copy of the list that is found has a number, from 1
numbered : (test : Pp → Bool) (ps : List Pp) → list_any test ps ≡ true → (number : ℕ) × (p : Pp) × (copy_at ps number ≡ Some p) × (test p ≡ true)
numbered test ps is = let at = found_at test ps is in (at.0 + 1, at.1, place_of_number at.0 ∙ at.2, at.3)
  where
    place_of_number : (k : ℕ) → copy_at ps (k + 1) ≡ slice_get ps k
    place_of_number k =
        let some : (k + 1 == 0) ≡ false = grind (arith, nat_tests) in
        let less : k + 1 - 1 ≡ k = omega arith in
        ap (λ b. if b then None else slice_get ps (k + 1 - 1)) some ∙ ap (slice_get ps) less

module _ (past first : List Fact) (s : State) (w : Faults) (tied : IsTied past s) (causes : HasCausesSince first s) (faults : AreFaultsOf past first s w) where
  abbrev core : Core
  core = s.core

  abbrev v : ModelState
  v = tied.view

  sound : IsSound s
  sound = tied.orderly.sound

  failed_of : (d : ℕ) → FailedSince s d → FaultsRose w d
  failed_of d rose = subst (λ n. Rose n (w.now d)) (sym (faults.began d)) (subst (Rose (faults_at_first core d)) (sym (faults.now d)) rose)

  gone : (d : ℕ) → calls_missing core.origin.table d ≡ true → IsTrue (w.missing d)
  gone d is = faults.missing d ∙ ap (λ b. not (is_member core.descriptor d && not b)) is ∙ not_both (is_member core.descriptor d)

  -- ---- what is missing

  missing_by : (d : ℕ) → is_missing core d ≡ true → IsTrue (w.missing d) ⊎ FaultsRose w d
  missing_by d is = by (sound.origin.missing d is)
    where
      by : (calls_missing core.origin.table d ≡ true) ⊎ FailedSince s d → IsTrue (w.missing d) ⊎ FaultsRose w d
      by (inl known) = inl (gone d known)
      by (inr rose) = inr (failed_of d rose)

  missing_is : (d : ℕ) → IsTrue (v.missing d) → IsTrue (w.missing d) ⊎ FaultsRose w d
  missing_is d is = by (is_member core.descriptor d) refl
    where
      by : (b : Bool) → is_member core.descriptor d ≡ b → IsTrue (w.missing d) ⊎ FaultsRose w d
      by false other = inl (faults.missing d ∙ ap (λ b. not (b && not (calls_missing core.origin.table d))) other)
      by true member = missing_by d (sym (missing_seen past s tied d member) ∙ is)

  still_is : (d : ℕ) → IsTrue (w.missing d) → IsTrue (v.missing d)
  still_is d is = by (is_member core.descriptor d) refl
    where
      by : (b : Bool) → is_member core.descriptor d ≡ b → IsTrue (v.missing d)
      by false other = tied.sees.status.missing d ∙ ap (λ b. not (b && not (is_missing core d))) other
      by true member = missing_seen past s tied d member ∙ sound.origin.still_missing d (known_by (is_member core.descriptor d) (calls_missing core.origin.table d) member (sym (faults.missing d) ∙ is))

  -- ---- what is stale

  cause_of : (p : Pp) → is_held_stale core p || is_wanted_stale core p ≡ true → IsStaleForCause w p
  cause_of p is = by (sound.origin.stale p is)
    where
      of_disk : IsTrue (w.missing p.disk) ⊎ FaultsRose w p.disk → IsStaleForCause w p
      of_disk (inl known) = inr (inl known)
      of_disk (inr rose) = inr (inr rose)

      by : (calls_stale core.origin.table p ≡ true) ⊎ (is_missing core p.disk ≡ true) ⊎ FailedSince s p.disk → IsStaleForCause w p
      by (inl stale) = inl (faults.stale p ∙ stale)
      by (inr (inl missing)) = of_disk (missing_by p.disk missing)
      by (inr (inr rose)) = inr (inr (failed_of p.disk rose))

  of_stale : (p : Pp) → is_stale core p ≡ true → IsStaleForCause w p
  of_stale p is = cause_of p (ap (λ b. (b || calls_stale (unwrap_or core.status.in_flight core.status.committed) p) || is_wanted_stale core p) is)

  of_flight : (p : Pp) → calls_stale (unwrap_or core.status.in_flight core.status.committed) p ≡ true → IsStaleForCause w p
  of_flight p is = cause_of p (ap (λ b. (is_stale core p || b) || is_wanted_stale core p) is ∙ ap (λ b. b || is_wanted_stale core p) (or_right (is_stale core p) true refl))

  of_wanted : (p : Pp) → is_wanted_stale core p ≡ true → IsStaleForCause w p
  of_wanted p is = cause_of p (or_right (is_held_stale core p) (is_wanted_stale core p) is)

  -- the partition beside has counted as stale since the session began
  beside_cause : (p : Pp) → IsTrue (is_beside v.beside p) → IsTrue (w.stale p)
  beside_cause p is =
      let d = beside_destination core v.beside p tied.sees.beside is in
      faults.stale p ∙ ap (calls_stale core.origin.table) d.is ∙ (move_of core d.copy (copy_is past s tied d.copy d.is_open) d.moves).called

  seen_cause : (status : Status) (p : Pp) → IsTrue ((marks_of v.beside status).stale p) → (calls_stale status p ≡ true → IsStaleForCause w p) → IsStaleForCause w p
  seen_cause status p seen cause = by (is_beside v.beside p) refl
    where
      by : (b : Bool) → is_beside v.beside p ≡ b → IsStaleForCause w p
      by true is = inl (beside_cause p is)
      by false off = cause (sym (stale_apart v.beside status p off) ∙ seen)

  in_flight_is : (c : Pp) (u : Stamped Marks) → v.in_flight ≡ Some u → IsTrue (u.value.stale c) → IsStaleForCause w c
  in_flight_is c u flies is = by core.status.in_flight refl (sym tied.sees.status.in_flight ∙ flies)
    where
      by : (m : Option Status) → core.status.in_flight ≡ m → option_map (as_marks v.beside) (option_map (λ (t : Status). let r : Stamped Status = record { stamp = core.status.stamp; value = t } in r) m) ≡ Some u → IsStaleForCause w c
      by None none e = absurd (cc e)
      by (Some t) some e =
          let same : as_marks v.beside (record { stamp = core.status.stamp; value = t }) ≡ u = cc e in
          seen_cause t c (ap (λ (x : Stamped Marks). x.value.stale c) same ∙ is) (λ stale. of_flight c (ap (λ (o : Option Status). calls_stale (unwrap_or o core.status.committed) c) some ∙ stale))

  brought_up_is : (o : ModelCopy) → v.open_copy ≡ Some o → IsStaleForCause w o.target
  brought_up_is o is_open = by core.copy refl tied.sees.open_copy
    where
      stale_now : (c : OpenCopy) → core.copy ≡ Some c → is_running c ≡ true → IsTrue (v.committed.value.stale c.pp)
      stale_now c is runs = whole (is_whole core c) refl
        where
          whole : (b : Bool) → is_whole core c ≡ b → IsTrue (v.committed.value.stale c.pp)
          whole true all = whole_stale past s tied c is runs all
          whole false short = (part_stale past s tied c is runs short).0

      running : (c : OpenCopy) → core.copy ≡ Some c → (b : Bool) → is_running c ≡ b → SeesRunning b (groups_of core) c v.open_copy → IsStaleForCause w o.target
      running c is true runs sees =
          let same : sees.copy ≡ o = (let e : Some sees.copy ≡ Some o = sym sees.is_open ∙ is_open in cc e) in
          subst (IsStaleForCause w) (sym sees.target ∙ ap (λ (x : ModelCopy). x.target) same) (seen_cause core.status.committed c.pp (sym (ap (λ (m : Marks). m.stale c.pp) tied.sees.status.committed) ∙ stale_now c is runs) (of_stale c.pp))
      running c is false over sees = absurd (let e : None ≡ Some o = sym sees ∙ is_open in cc e)

      by : (m : Option OpenCopy) → core.copy ≡ m → SeesCopy (groups_of core) m v.open_copy → IsStaleForCause w o.target
      by None none sees = absurd (let e : None ≡ Some o = sym sees ∙ is_open in cc e)
      by (Some c) is sees = running c is (is_running c) refl sees

  -- ---- what has failed

  -- the disk of a target has failed since it was chosen, also where the request has landed
  target_failed : (place : ℕ) (o : Open) → slice_get core.requests place ≡ Some o → (c : Pp) (it : FailedOn o.request.targets.items c) → HasFailedSince s.device it.aim
  target_failed place o there c it = by (is_waiting o) refl
    where
      by : (b : Bool) → is_waiting o ≡ b → HasFailedSince s.device it.aim
      by true waits = all_at (IsCaused s.device core) o.request.targets.items it.number it.aim (all_at (AreCaused s.device core) core.requests place o (sound.on tied.orderly.on).caused there waits) it.there
          (ap (λ b. b || (it.aim.usable && is_blamed core it.aim.pp)) it.failed)
      by false over = all_at (λ (t : Target). is_failed t.state ≡ true → HasFailedSince s.device t) o.request.targets.items it.number it.aim
          (all_at (FailuresAreCaused s.device) core.requests place o (causes.failed tied.orderly.on) there over) it.there it.failed

  request_failed : (place : ℕ) (o : Open) → slice_get core.requests place ≡ Some o → (c : Pp) → FailedOn o.request.targets.items c → Rose (w.asked (place_of o.request.id) c.disk) (w.now c.disk)
  request_failed place o there c it =
      subst (λ (p : Pp). Rose (w.asked (place_of o.request.id) p.disk) (w.now p.disk)) it.pp_is
      (subst (Rose (w.asked (place_of o.request.id) it.aim.pp.disk)) (sym (faults.now it.aim.pp.disk))
      (rose_since (w.asked (place_of o.request.id) it.aim.pp.disk) it.aim.faults (s.device.counts.faults it.aim.pp.disk) (faults.asked place o it.number it.aim there it.there)
      (target_failed place o there c it)))

  -- a source that was tried in vain stands on a disk that has failed since the copy was opened
  tried_failed : (copy : OpenCopy) → core.copy ≡ Some copy → (disk : ℕ) → has copy.tried disk ≡ true → Rose (w.asked copy.place disk) (w.now disk)
  tried_failed copy is_open disk tried =
      let copies = copies_in core.descriptor copy.lv copy.lp in
      let one = numbered (λ (p : Pp). not (is_pp p copy.pp) && p.disk == disk) copies ((copy_is past s tied copy is_open).tried disk tried) in
      let same : one.1.disk ≡ disk = eqb-true one.1.disk disk (and_parts (not (is_pp one.1 copy.pp)) (one.1.disk == disk) one.3).1 in
      let caused : IsCausedAmong s copies copy = subst (λ (m : Option OpenCopy). IfSome m (λ (x : OpenCopy). IsCausedAmong s (copies_in core.descriptor x.lv x.lp) x)) is_open sound.copy in
      subst (λ d. Rose (w.asked copy.place d) (w.now d)) same
      (subst (Rose (w.asked copy.place one.1.disk)) (sym (faults.now one.1.disk))
      (rose_since (w.asked copy.place one.1.disk) (faults_at_opening copy one.0) (s.device.counts.faults one.1.disk) (faults.opened copy one.0 one.1 is_open one.2)
      (caused.tried one.0 one.1 one.2 (ap (has copy.tried) same ∙ tried))))

  failed_is : (i : ℕ) (q : Queued) (c : Pp) → v.queue i ≡ Some q → q.targets c ≡ Some Badly → Rose (w.asked i c.disk) (w.now c.disk)
  failed_is i q c at bad = by (tied.sees.queue.only i q at)
    where
      of_request : IsRequestAt core i → Rose (w.asked i c.disk) (w.now c.disk)
      of_request it =
          let seen = tied.sees.queue.requests it.place it.request it.there in
          let same : seen.0 ≡ q = (let e : Some seen.0 ≡ Some q = sym seen.1 ∙ ap v.queue it.its ∙ at in cc e) in
          let stage : stage_at it.request.request.targets.items c ≡ Some Badly = sym (seen.2.targets c) ∙ ap (λ (x : Queued). x.targets c) same ∙ bad in
          subst (λ (j : ℕ). Rose (w.asked j c.disk) (w.now c.disk)) it.its (request_failed it.place it.request it.there c (failed_on it.request.request.targets.items c stage))

      of_step : IsStepAt core i → Rose (w.asked i c.disk) (w.now c.disk)
      of_step it =
          let seen = tied.sees.queue.a_step it.copy it.is_open it.row in
          let same : seen.0 ≡ q = (let e : Some seen.0 ≡ Some q = sym seen.1 ∙ ap v.queue it.its ∙ at in cc e) in
          subst (λ (j : ℕ). Rose (w.asked j c.disk) (w.now c.disk)) it.its (tried_failed it.copy it.is_open c.disk (seen.2.failed c (ap (λ (x : Queued). x.targets c) same ∙ bad)))

      by : IsRequestAt core i ⊎ IsStepAt core i → Rose (w.asked i c.disk) (w.now c.disk)
      by (inl it) = of_request it
      by (inr it) = of_step it

  -- ---- what the history tells

  had_none : (r : Asked) → HadNone core r → HadNoCopy w v r
  had_none r had lv b c over copy = of_beside (is_beside v.beside c) refl
    where
      unusable : was_usable core c ≡ false → IsTrue (w.stale c) ⊎ IsTrue (w.missing c.disk)
      unusable = by (calls_stale core.origin.table c) (calls_missing core.origin.table c.disk) refl refl
        where
          by : (a m : Bool) → calls_stale core.origin.table c ≡ a → calls_missing core.origin.table c.disk ≡ m → not a && not m ≡ false → IsTrue (w.stale c) ⊎ IsTrue (w.missing c.disk)
          by true m stale missing e = inl (faults.stale c ∙ stale)
          by false true stale missing e = inr (gone c.disk missing)
          by false false stale missing e = not_either e

      of_beside : (t : Bool) → is_beside v.beside c ≡ t → IsTrue (w.stale c) ⊎ IsTrue (w.missing c.disk)
      of_beside true is = inl (beside_cause c is)
      of_beside false off =
          let block = tied.describes.volumes.inside lv b c copy in
          let one = copy_its tied.describes.volumes block.row block.lp b c block.volume block.inside off (subst (λ n. IsTrue (v.is_copy n b c)) (sym block.number) copy) in
          let found : volume_of core.descriptor lv ≡ Some block.row = subst (λ n. volume_of core.descriptor n ≡ Some block.row) block.number (number_finds core.descriptor block.row (valid_of s tied.write tied.orderly) block.volume) in
          let copies : copies_in core.descriptor lv (partition_of core.descriptor.mib b) ≡ copies_of block.row block.lp
          = ap (λ (m : Option LvRow). option_map_or (λ (row : LvRow). copies_of row (partition_of core.descriptor.mib b)) m []) found ∙ ap (copies_of block.row) block.inside.partition in
          unusable (had lv b c over (ap (λ (ps : List Pp). is_among ps c) copies ∙ one_among (copies_of block.row block.lp) c one))

  landing_is : (r : Asked) (how : Outcome) → HasLandedFor s r how → LandingIsCaused w v r how
  landing_is r outcome.Lost why = (why.0, failed_of why.0 why.1)
  landing_is r outcome.ReadFailed why = (why.0, failed_of why.0 why.1)
  landing_is r outcome.Off why = λ none. none why.0 (failed_of why.0 why.1)
  landing_is r outcome.NoFresh (inl why) = λ none. absurd (none why.0 (failed_of why.0 why.1))
  landing_is r outcome.NoFresh (inr had) = λ none. had_none r had
  landing_is r outcome.Done why = tt
  landing_is r outcome.Got why = tt
  landing_is r outcome.Dark why = tt

  entry_is : (f : Fact) → IsEntryCaused s f → FactIsCaused w v f
  entry_is (Landed r how started got) why = landing_is r how why
  entry_is (Making lv blocks mode) why = tt
  entry_is (Made lv) why = tt
  entry_is (Split from lv) why = tt
  entry_is (Removing vol) why = tt
  entry_is (Removed vol) why = tt
  entry_is (Begun r) why = tt
  entry_is (Taken r) why = tt
  entry_is Cut why = tt
  entry_is (On moment) why = tt

  landed_is : Since w v v.facts
  landed_is = record {
    since = causes.since;
    is = tied.sees.facts ∙ ap (λ (fs : List Fact). past ++ fs) causes.is ∙ sym (append_assoc past first causes.since) ∙ ap (λ (fs : List Fact). fs ++ causes.since) (sym faults.past_is);
    caused = all_entries causes.since causes.caused;
  }
    where
      all_entries : (fs : List Fact) → AllByRecursion (IsEntryCaused s) fs → AllByRecursion (FactIsCaused w v) fs
      all_entries [] all = tt
      all_entries (f ∷ fs) all = (entry_is f all.0, all_entries fs all.1)

pub faults_are_there : FaultsAreThere
faults_are_there past first s sound = (
  record {
    now = s.device.counts.faults;
    began = faults_at_first s.core;
    asked = λ i. faults_at_first s.core;
    missing = λ d. not (members_there s.core.descriptor s.core.origin.table d);
    stale = calls_stale s.core.origin.table;
    past = past ++ first;
  },
  record {
    now = λ d. refl;
    began = λ d. refl;
    asked_since = λ i d. omega arith;
    asked_before = λ i d. sound.origin.since d;
    asked = λ place o number t there at. (all_at (IsCounted s) o.request.targets.items number t (all_at (AreCounted s) s.core.requests place o sound.counted there) at).began;
    opened = λ c number p is_open at. (subst (λ (m : Option OpenCopy). IfSome m (λ (x : OpenCopy). IsCausedAmong s (copies_in s.core.descriptor x.lv x.lp) x)) is_open sound.copy).began number p at;
    missing = λ d. refl;
    stale = λ p. refl;
    past_is = refl;
  },
)

pub causes_are_seen : CausesAreSeen
causes_are_seen past first s w tied causes faults = record {
  asked_since = faults.asked_since;
  asked_before = faults.asked_before;
  missing = missing_is past first s w tied causes faults;
  still_missing = still_is past first s w tied causes faults;
  committed = λ c is. seen_cause past first s w tied causes faults s.core.status.committed c (sym (ap (λ (m : Marks). m.stale c) tied.sees.status.committed) ∙ is) (of_stale past first s w tied causes faults c);
  in_flight = in_flight_is past first s w tied causes faults;
  wanted = λ c is. seen_cause past first s w tied causes faults s.core.status.wanted c (sym (ap (λ (m : Marks). m.stale c) tied.sees.status.wanted) ∙ is) (of_wanted past first s w tied causes faults c);
  brought_up = brought_up_is past first s w tied causes faults;
  failed = failed_is past first s w tied causes faults;
  landed = landed_is past first s w tied causes faults;
}
