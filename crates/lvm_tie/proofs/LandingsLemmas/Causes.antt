-- Each landing of a turn has its cause.
use Rattle.std.proofs.Common.{◌≡◌, ◌≤◌, ◌<◌, ◌+◌, ◌-◌, ◌*◌, ◌/◌, ◌%◌, inl, inr, ℕ, Bool, true, false, ◌&&◌, ◌||◌, ◌==◌, nat_le, nat_lt, if◌then◌else◌, List, [], ◌∷◌, ◌++◌, Option, Some, None, refl, sym, ◌∙◌, ap, subst, arith, append_assoc, append-nil, not}
use Rattle.std.specs.Prelude.{slice_get, slice_index_or, slice_set, unwrap_or}
use Rattle.std.specs.List.{AllByRecursion, list_any}
use Rattle.std.proofs.lemmas.Bool.{eqb-true, leb-true, ltb-true}
use Rattle.lvm_num.specs.Status.{calls_missing, calls_stale}
use Rattle.lvm_invariant.proofs.FaultsLemmas.{append_all}
use Rattle.lvm_num.specs.declared.descriptor.Descriptor.{Descriptor}
use Rattle.lvm_num.specs.declared.place.Pp.{Pp}
use Rattle.lvm_num.specs.Geometry.{partition_blocks, partition_of}
use Rattle.lvm_num.proofs.Booleans.{not_so}
use Rattle.lvm_num.proofs.Lists.{all_weaker, all_at}
use Rattle.lvm_map.proofs.Parts.{parts, whole}
use Rattle.lvm_map.proofs.PlacesLemmas.{mib_positive}
use Rattle.lvm_disk.specs.Counts.{NoneFalls, Rose}
use Rattle.lvm_disk.specs.Device.{Device, Flight}
use Rattle.lvm_disk.specs.Paths.{Broke, Ended, Started, Waited, WasCut}
use Rattle.lvm_disk.specs.Steps.{GoesDark, Starts}
use Rattle.lvm_disk.proofs.CountingLemmas.{none_falls_at_once}
use Rattle.lvm_disk.proofs.StepsLemmas.{step_counts}
use Rattle.lvm_vol.specs.declared.entry.Outcome.{Outcome}
use Rattle.lvm_vol.specs.declared.entry.Outcome.TheVariants as outcome
use Rattle.lvm_vol.specs.declared.entry.Vol.TheVariants.{Lv}
use Rattle.lvm_vol.specs.Facts.{Request as Asked, Fact, Making, Made, Split, Removing, Removed, Begun, Landed, Taken, Cut, On, is_over, same_vol}
use Rattle.lvm_vol.specs.Log.{cut_log, is_uncut, landed_fact, no_request, request_of, with_fact}
use Rattle.lvm_path.specs.declared.ask.Ask.{Ask}
use Rattle.lvm_path.specs.declared.facts.Next.TheVariants as next
use Rattle.lvm_path.specs.declared.request.Phase.{Phase}
use Rattle.lvm_path.specs.declared.target.Target.{Target}
use Rattle.lvm_path.specs.Asks.{at_of, count_of, lv_of}
use Rattle.lvm_path.specs.Next.{next_in, with_pin}
use Rattle.lvm_path.specs.Targets.{is_begun, is_failed}
use Rattle.lvm_session.specs.declared.event.Event.{Event}
use Rattle.lvm_session.specs.declared.event.Event.TheVariants as event
use Rattle.lvm_session.specs.declared.flown.Owner.{Owner}
use Rattle.lvm_session.specs.declared.flown.Owner.TheVariants as owner
use Rattle.lvm_session.specs.declared.open.Open.{Open}
use Rattle.lvm_session.specs.declared.open.Power.TheVariants as power
use Rattle.lvm_session.specs.declared.origin.Origin.{Origin}
use Rattle.lvm_session.specs.Judging.{copies_for, copies_in, facts_of, is_waiting, lp_of, mode_of, next_for, policy_of}
use Rattle.lvm_session.specs.State.{Core, State}
use Rattle.lvm_session.specs.declared.answers.Turned.{Turned}
use Rattle.lvm_session.specs.declared.answers.Turned.TheVariants as turned
use Rattle.lvm_session.specs.Dark.{all_dark, landings}
use Rattle.lvm_session.specs.Enabled.{target_next}
use Rattle.lvm_session.specs.Ends.{DataLearns, Ends, EndsAs, Learns, learned}
use Rattle.lvm_session.specs.Events.{Lands, admitted_as, begun_as, got_blocks, landed_as}
use Rattle.lvm_session.specs.Marks.{is_among}
use Rattle.lvm_session.specs.Turns.{Darkens, FinishMakes, Finishes, GoesOff, Makes, Moves, NoStart, OnMakes, TurnMakes, WasDark, WasOff, WasOn}
use Rattle.lvm_session.specs.Causes.{was_fresh, AnyFailedSince, AreCaused, AreCounted, TargetHasFailed, IsCaused, IsCounted, IsLandedFor, faults_at_first, is_blamed, was_usable}
use Rattle.lvm_session.specs.Requests.{IsOpenOne}
use Rattle.lvm_session.specs.Sound.{IsAsked, IsSound}
use Rattle.lvm_keeps_events.proofs.passed.Keeps.{landing_is_caused, all_set, loss_is_caused, both}
use Rattle.lvm_keeps_events.proofs.EndsLemmas.CopyReadFail.{some_at}
use Rattle.lvm_keeps_events.proofs.EndsLemmas.Counts.{rose_on, rose_since}
use Rattle.lvm_keeps_events.proofs.RequestsLemmas.{waits}
use Rattle.lvm_keeps_events.proofs.OnePlace.{among_at}
use Rattle.lvm_tie.specs.Running.{KeepsOrigin}
use Rattle.lvm_tie.specs.Landings.{BeginningHasCauses, FailuresAreCaused, HadNone, HasCausesSince, HasLandedFor, IsEntryCaused, TurnKeepsCauses}
use Rattle.lvm_tie.proofs.SessionEndsLemmas.Grounds.{Ground, ground, ground_with, learned_same}

-- ---- what was a cause goes on to be one

-- what couldn't be used at the beginning can't
unusable_on : (old new : Core) → KeepsOrigin old.origin new.origin → (p : Pp) → was_usable old p ≡ false → was_usable new p ≡ false
unusable_on old new origin p was = ap (λ b. was_fresh new p && not b) (origin.missing p.disk) ∙ less (calls_stale old.origin.table p) (calls_stale new.origin.table p) (calls_missing old.origin.table p.disk) (origin.stale p) was
  where
    less : (a b m : Bool) → (a ≡ true → b ≡ true) → (not a && not m) ≡ false → (not b && not m) ≡ false
    less true b m so h = ap (λ x. not x && not m) (so refl)
    less false true m so h = refl
    less false false m so h = h

module _ (old new : State) (more : NoneFalls old.device.counts new.device.counts) (descriptor : new.core.descriptor ≡ old.core.descriptor) (origin : KeepsOrigin old.core.origin new.core.origin) where
  failed_on : AnyFailedSince old → AnyFailedSince new
  failed_on it = (
    it.0,
    subst (λ (faults : List ℕ). Rose (slice_index_or faults it.0 0) (new.device.counts.faults it.0)) (sym origin.faults)
        (rose_on (faults_at_first old.core it.0) (old.device.counts.faults it.0) (new.device.counts.faults it.0) (more.faults it.0) it.1),
  )

  none_on : (r : Asked) → HadNone old.core r → HadNone new.core r
  none_on r none lv b p over among =
      unusable_on old.core new.core origin p (none lv b p over (ap (λ (d : Descriptor). is_among (copies_in d lv (partition_of d.mib b)) p) (sym descriptor) ∙ among))

  landed_on : (r : Asked) (how : Outcome) → HasLandedFor old r how → HasLandedFor new r how
  landed_on r outcome.Lost why = failed_on why
  landed_on r outcome.ReadFailed why = failed_on why
  landed_on r outcome.Off why = failed_on why
  landed_on r outcome.NoFresh (inl why) = inl (failed_on why)
  landed_on r outcome.NoFresh (inr none) = inr (none_on r none)
  landed_on r outcome.Done why = why
  landed_on r outcome.Got why = why
  landed_on r outcome.Dark why = why

  entry_on : (f : Fact) → IsEntryCaused old f → IsEntryCaused new f
  entry_on (Landed r how started got) why = landed_on r how why
  entry_on (Making lv blocks mode) why = why
  entry_on (Made lv) why = why
  entry_on (Split from lv) why = why
  entry_on (Removing vol) why = why
  entry_on (Removed vol) why = why
  entry_on (Begun r) why = why
  entry_on (Taken r) why = why
  entry_on Cut why = why
  entry_on (On moment) why = why

  -- with entries that have their causes
  pub goes_on_from : (first added : List Fact) → new.core.history.facts ≡ old.core.history.facts ++ added → AllByRecursion (IsEntryCaused old) added
      → (new.core.power ≡ power.On → AllByRecursion (FailuresAreCaused new.device) new.core.requests) → HasCausesSince first old → HasCausesSince first new
  goes_on_from first added facts caused failed was = record {
    since = was.since ++ added;
    is = facts ∙ ap (λ (fs : List Fact). fs ++ added) was.is ∙ append_assoc first was.since added;
    caused = all_weaker (IsEntryCaused old) (IsEntryCaused new) entry_on (was.since ++ added) (append_all (IsEntryCaused old) was.since added was.caused caused);
    failed = failed;
  }

-- so where the origin stays
pub goes_on : (old new : State) → NoneFalls old.device.counts new.device.counts → new.core.descriptor ≡ old.core.descriptor → new.core.origin ≡ old.core.origin → (first added : List Fact)
    → new.core.history.facts ≡ old.core.history.facts ++ added → AllByRecursion (IsEntryCaused old) added
    → (new.core.power ≡ power.On → AllByRecursion (FailuresAreCaused new.device) new.core.requests) → HasCausesSince first old → HasCausesSince first new
goes_on old new more descriptor origin = goes_on_from old new more descriptor (record {
  faults = ap (λ (o : Origin). o.faults) origin;
  missing = λ disk. ap (λ (o : Origin). calls_missing o.table disk) origin;
  stale = λ p was. ap (λ (o : Origin). calls_stale o.table p) origin ∙ was;
})

-- a disk that has failed has failed later too
failures_on : (old new : Device) → NoneFalls old.counts new.counts → (ts : List Target) → AllByRecursion (λ (t : Target). is_failed t.state ≡ true → TargetHasFailed old t) ts → AllByRecursion (λ (t : Target). is_failed t.state ≡ true → TargetHasFailed new t) ts
failures_on old new more = all_weaker (λ (t : Target). is_failed t.state ≡ true → TargetHasFailed old t) (λ (t : Target). is_failed t.state ≡ true → TargetHasFailed new t)
    (λ t was failed. rose_on t.faults (old.counts.faults t.pp.disk) (new.counts.faults t.pp.disk) (more.faults t.pp.disk) (was failed))

pub request_on : (old new : Device) → NoneFalls old.counts new.counts → (o : Open) → FailuresAreCaused old o → FailuresAreCaused new o
request_on old new more o was over = failures_on old new more o.request.targets.items (was over)

-- where no entry is added, and these are the requests
pub stays_with : (first : List Fact) (old new : State) → NoneFalls old.device.counts new.device.counts → (requests : List Open) → ground new.core ≡ ground_with old.core requests
    → (old.core.power ≡ power.On → AllByRecursion (FailuresAreCaused new.device) requests) → HasCausesSince first old → HasCausesSince first new
stays_with first old new more requests same failed was =
    goes_on old new more (ap (λ (g : Ground). g.0) same) (ap (λ (g : Ground). g.1) same) first [] (ap (λ (g : Ground). g.2) same ∙ sym (append-nil old.core.history.facts)) tt
    (λ on. subst (λ (os : List Open). AllByRecursion (FailuresAreCaused new.device) os) (sym (ap (λ (g : Ground). g.4) same)) (failed (sym (ap (λ (g : Ground). g.3) same) ∙ on))) was

-- where they stay
pub stays_caused : (first : List Fact) (old new : State) → NoneFalls old.device.counts new.device.counts → ground new.core ≡ ground old.core → HasCausesSince first old → HasCausesSince first new
stays_caused first old new more same was = stays_with first old new more old.core.requests same
    (λ on. all_weaker (FailuresAreCaused old.device) (FailuresAreCaused new.device) (request_on old.device new.device more) old.core.requests (was.failed on)) was

-- ---- a landing

-- blocks of one track group are of one logical partition
same_partition : (mib at k : ℕ) → 1 ≤ mib → at % 256 + k < 256 → partition_of mib (at + k) ≡ partition_of mib at
same_partition mib at k some group =
    let size = partition_blocks mib in
    let rest : at % size < size = omega arith in
    let all : at / size * size + at % size ≡ at = whole size at (omega arith) in
    let fits : at % size + k < size = omega (arith, all, group) in
    (parts size (at + k) (at / size) (at % size + k) fits (omega (arith, all))).0

module _ (old : State) (sound : IsSound old) (on : old.core.power ≡ power.On) (place : ℕ) (o : Open) (there : slice_get old.core.requests place ≡ Some o) where
  abbrev core : Core
  core = old.core

  abbrev ask : Ask
  ask = o.request.ask

  its : IsOpenOne core o
  its = all_at (IsOpenOne core) core.requests place o (sound.on on).going.requests there

  told : IsAsked core.history.facts o
  told = all_at (IsAsked core.history.facts) core.requests place o sound.told.requests there

  counted : AreCounted old o
  counted = all_at (AreCounted old) core.requests place o sound.counted there

  -- some target that was usable has failed
  failed_among : (ts : List Target) → list_any (λ (t : Target). t.usable) ts ≡ true → AllByRecursion (λ (t : Target). t.usable ≡ true → TargetHasFailed old.device t) ts → AllByRecursion (IsCounted old) ts → AnyFailedSince old
  failed_among [] some failed counts = not_so some
  failed_among (t ∷ ts) some failed counts = by t.usable refl some (λ e. failed_among ts e failed.1 counts.1)
    where
      by : (b : Bool) → t.usable ≡ b → b || list_any (λ (u : Target). u.usable) ts ≡ true → (list_any (λ (u : Target). u.usable) ts ≡ true → AnyFailedSince old) → AnyFailedSince old
      by true is e rest = (t.pp.disk, rose_since (faults_at_first core t.pp.disk) t.faults (old.device.counts.faults t.pp.disk) counts.0.began (failed.0 is))
      by false is e rest = rest e

  -- it goes over blocks of its logical partition
  had_none : list_any (was_usable core) (copies_for core ask) ≡ false → HadNone core (request_of core.history.facts o.request.id)
  had_none none lv b p over among = unusable (copies_for core ask) p none (ap (λ (ps : List Pp). is_among ps p) same_copies ∙ among)
    where
      request_is : request_of core.history.facts o.request.id ≡ told.request
      request_is = ap (λ (m : Option Asked). unwrap_or m no_request) told.told

      over_so : (lv_of ask == lv) && nat_le (at_of ask) b && nat_lt b (at_of ask + count_of ask) ≡ true
      over_so = sym (ap (λ (r : Asked). is_over r (Lv lv) b) request_is ∙ (λ i. same_vol (told.vol i) (Lv lv) && nat_le (told.at i) b && nat_lt b (told.at i + told.count i))) ∙ over

      parts_of : ((lv_of ask == lv) && nat_le (at_of ask) b ≡ true) × (nat_lt b (at_of ask + count_of ask) ≡ true)
      parts_of = both ((lv_of ask == lv) && nat_le (at_of ask) b) (nat_lt b (at_of ask + count_of ask)) over_so

      of_volume : (lv_of ask ≡ lv) × (at_of ask ≤ b)
      of_volume = let more = both (lv_of ask == lv) (nat_le (at_of ask) b) parts_of.0 in (eqb-true (lv_of ask) lv more.0, leb-true (at_of ask) b more.1)

      same_lp : lp_of core ask ≡ partition_of core.descriptor.mib b
      same_lp =
          let low : at_of ask ≤ b = of_volume.1 in
          let high : b < at_of ask + count_of ask = ltb-true b (at_of ask + count_of ask) parts_of.1 in
          let group : at_of ask % 256 + count_of ask ≤ 256 = its.laid.blocks.group in
          let there_is : at_of ask + (b - at_of ask) ≡ b = omega (arith, low) in
          let less : at_of ask % 256 + (b - at_of ask) < 256 = omega (arith, low, high, group) in
          sym (same_partition core.descriptor.mib (at_of ask) (b - at_of ask) (mib_positive core.descriptor sound.fitting.valid) less) ∙ ap (partition_of core.descriptor.mib) there_is

      same_copies : copies_for core ask ≡ copies_in core.descriptor lv (partition_of core.descriptor.mib b)
      same_copies = λ i. copies_in core.descriptor (of_volume.0 i) (same_lp i)

      unusable : (ps : List Pp) (q : Pp) → list_any (was_usable core) ps ≡ false → is_among ps q ≡ true → was_usable core q ≡ false
      unusable ps q all one = by (was_usable core q) refl
        where
          by : (u : Bool) → was_usable core q ≡ u → u ≡ false
          by false is = refl
          by true is = let at = among_at ps q one in not_so (sym all ∙ some_at (was_usable core) ps at.0 q at.1 is)

  pub landed_for : (how : Outcome) → IsLandedFor old o how → HasLandedFor old (request_of core.history.facts o.request.id) how
  landed_for outcome.Lost why = failed_among o.request.targets.items why.0 why.1 counted
  landed_for outcome.ReadFailed why =
      failed_among o.request.targets.items why.0 (all_weaker (λ (t : Target). (is_failed t.state ≡ true) × TargetHasFailed old.device t) (λ (t : Target). t.usable ≡ true → TargetHasFailed old.device t) (λ t is usable. is.1) o.request.targets.items why.1) counted
  landed_for outcome.Off why = loss_is_caused old sound why.1
  landed_for outcome.NoFresh (inl why) = inl why
  landed_for outcome.NoFresh (inr none) = inr (had_none none)
  landed_for outcome.Done why = why
  landed_for outcome.Got why = why
  landed_for outcome.Dark why = tt

-- ---- all that waited lands

landings_caused : (s : State) (how : Outcome) (facts : List Fact) → ((r : Asked) → HasLandedFor s r how) → (os : List Open) → AllByRecursion (IsEntryCaused s) (landings how facts os)
landings_caused s how facts why [] = tt
landings_caused s how facts why (o ∷ os) = by (is_waiting o) (landings_caused s how facts why os)
  where
    by : (b : Bool) → AllByRecursion (IsEntryCaused s) (landings how facts os)
        → AllByRecursion (IsEntryCaused s) (if b then landed_fact facts o.request.id how (is_begun o.request.targets.items) ∷ landings how facts os else landings how facts os)
    by true rest = (why (request_of facts o.request.id), rest)
    by false rest = rest

abbrev cut_of : Bool → List Fact
cut_of true = Cut ∷ []
cut_of false = []

-- a power cut
pub dark_caused : (first : List Fact) (old new : State) (middle : Core) → NoneFalls old.device.counts new.device.counts → ground middle ≡ ground old.core → new.core ≡ all_dark middle → HasCausesSince first old → HasCausesSince first new
dark_caused first old new middle more same is was =
    goes_on old new more (ap (λ (c : Core). c.descriptor) is ∙ ap (λ (g : Ground). g.0) same) (ap (λ (c : Core). c.origin) is ∙ ap (λ (g : Ground). g.1) same) first
    (cut_of (is_uncut middle.history.facts) ++ landings outcome.Dark (cut_log middle.history).facts middle.requests)
    (ap (λ (c : Core). c.history.facts) is
    ∙ ap (λ (fs : List Fact). fs ++ landings outcome.Dark (cut_log middle.history).facts middle.requests) (cut_facts (is_uncut middle.history.facts))
    ∙ append_assoc middle.history.facts (cut_of (is_uncut middle.history.facts)) (landings outcome.Dark (cut_log middle.history).facts middle.requests)
    ∙ ap (λ (fs : List Fact). fs ++ (cut_of (is_uncut middle.history.facts) ++ landings outcome.Dark (cut_log middle.history).facts middle.requests)) (ap (λ (g : Ground). g.2) same))
    (append_all (IsEntryCaused old) (cut_of (is_uncut middle.history.facts)) (landings outcome.Dark (cut_log middle.history).facts middle.requests) (cut_caused (is_uncut middle.history.facts))
    (landings_caused old outcome.Dark (cut_log middle.history).facts (λ r. tt) middle.requests))
    (λ on. absurd (let e : power.Dark ≡ power.On = sym (ap (λ (c : Core). c.power) is) ∙ on in cc))
    was
  where
    cut_facts : (b : Bool) → (if b then with_fact middle.history Cut else middle.history).facts ≡ middle.history.facts ++ cut_of b
    cut_facts true = refl
    cut_facts false = sym (append-nil middle.history.facts)

    cut_caused : (b : Bool) → AllByRecursion (IsEntryCaused old) (cut_of b)
    cut_caused true = (tt, tt)
    cut_caused false = tt

-- ---- a turn

-- a request that does something next hasn't landed
pub waits_unless : (s : State) → IsSound s → s.core.power ≡ power.On → (place : ℕ) (o : Open) → slice_get s.core.requests place ≡ Some o → (next_for s.core o ≡ next.Wait → ⊥) → is_waiting o ≡ true
waits_unless s sound on place o there does = by (is_waiting o) refl
  where
    its : IsOpenOne s.core o
    its = all_at (IsOpenOne s.core) s.core.requests place o (sound.on on).going.requests there

    by : (b : Bool) → is_waiting o ≡ b → b ≡ true
    by true is = refl
    by false is = absurd (does (ap (λ (p : Phase). next_in p (facts_of s.core o.request) o.request) (its.over is).phase_is))

stays : (old new : Device) → new ≡ old → NoneFalls old.counts new.counts
stays old new same = subst (λ (d : Device). NoneFalls old.counts d.counts) (sym same) (none_falls_at_once old.counts)

pub darkens : (old new : Device) → GoesDark old new → NoneFalls old.counts new.counts
darkens old new (inl off) = stays old new off.1
darkens old new (inr cuts) = step_counts old new (WasCut cuts)

module _ (first : List Fact) (old new : State) (sound : IsSound old) (was : HasCausesSince first old) where
  -- ---- the requests

  -- each disk on which a transfer of a request failed has failed, whether it has landed or not
  failures_of : old.core.power ≡ power.On → (place : ℕ) (o : Open) → slice_get old.core.requests place ≡ Some o → AllByRecursion (λ (t : Target). is_failed t.state ≡ true → TargetHasFailed old.device t) o.request.targets.items
  failures_of on place o there = by (is_waiting o) refl
    where
      by : (b : Bool) → is_waiting o ≡ b → AllByRecursion (λ (t : Target). is_failed t.state ≡ true → TargetHasFailed old.device t) o.request.targets.items
      by true waits = all_weaker (IsCaused old.device old.core) (λ (t : Target). is_failed t.state ≡ true → TargetHasFailed old.device t)
          (λ t caused failed. caused (ap (λ b. b || (t.usable && is_blamed old.core t.pp)) failed)) o.request.targets.items
          (all_at (AreCaused old.device old.core) old.core.requests place o (sound.on on).caused there waits)
      by false over = all_at (FailuresAreCaused old.device) old.core.requests place o (was.failed on) there over

  -- one of them changes, and nothing is entered
  sets_one : NoneFalls old.device.counts new.device.counts → (place : ℕ) (o : Open) → ground new.core ≡ ground_with old.core (slice_set old.core.requests place o) → FailuresAreCaused new.device o → HasCausesSince first new
  sets_one more place o same its = stays_with first old new more (slice_set old.core.requests place o) same
      (λ on. all_set (FailuresAreCaused old.device) (FailuresAreCaused new.device) (request_on old.device new.device more) old.core.requests place o its (was.failed on)) was

  -- one that waits has nothing to tell
  unlanded : (device : Device) (o : Open) → is_waiting o ≡ true → FailuresAreCaused device o
  unlanded device o waits over = absurd (let e : true ≡ false = sym waits ∙ over in cc)

  -- ---- events

  lands_caused : old.core.power ≡ power.On → (place : ℕ) (how : Outcome) → Lands old new place how → HasCausesSince first new
  lands_caused on place how made =
      goes_on old new (stays old.device new.device (ap (λ (s : State). s.device) made.is)) (ap (λ (s : State). s.core.descriptor) made.is) (ap (λ (s : State). s.core.origin) made.is) first
      (Landed (request_of old.core.history.facts made.request.request.id) how (is_begun made.request.request.targets.items) (got_blocks (count_of made.request.request.ask) made.request.got) ∷ [])
      (ap (λ (s : State). s.core.history.facts) made.is)
      (landed_for old sound on place made.request made.there how (landing_is_caused place how old new sound on made), tt)
      (λ now. subst (λ (os : List Open). AllByRecursion (FailuresAreCaused new.device) os) (sym (ap (λ (s : State). s.core.requests) made.is))
      (all_set (FailuresAreCaused old.device) (FailuresAreCaused new.device) (request_on old.device new.device more) old.core.requests place (landed_as how made.request)
      (λ over. failures_on old.device new.device more made.request.request.targets.items (failures_of on place made.request made.there)) (was.failed on)))
      was
    where
      more : NoneFalls old.device.counts new.device.counts
      more = stays old.device new.device (ap (λ (s : State). s.device) made.is)

  started : (f : Flight) → Starts old.device new.device f → ground new.core ≡ ground old.core → HasCausesSince first new
  started f starts same = stays_caused first old new (step_counts old.device new.device (Started f starts)) same was

  still : (is : new.device ≡ old.device) → ground new.core ≡ ground old.core → HasCausesSince first new
  still is same = stays_caused first old new (stays old.device new.device is) same was

  event_caused : old.core.power ≡ power.On → (it : Event) → Makes it old new → HasCausesSince first new
  event_caused on (event.Land place how) made = lands_caused on place how made
  event_caused on (event.Admit place) made =
      let o : Open = admitted_as (policy_of old.core made.request.request.ask) (mode_of old.core made.request.request.ask) made.targets made.request in
      sets_one (stays old.device new.device (ap (λ (s : State). s.device) made.is)) place o (ap (λ (s : State). ground s.core) made.is)
      (unlanded new.device o (waits_unless old sound on place made.request made.there (λ e. let no : next.Admit ≡ next.Wait = sym made.admits ∙ e in cc)))
  event_caused on (event.Pin place) made = sets_one (stays old.device new.device (ap (λ (s : State). s.device) made.is)) place (record made.request { request = with_pin made.request.request }) (ap (λ (s : State). ground s.core) made.is)
      (λ over. failures_on old.device new.device (stays old.device new.device (ap (λ (s : State). s.device) made.is)) made.request.request.targets.items (failures_of on place made.request made.there))
  event_caused on event.StartStatus made = started made.flight made.launches.starts (ap (λ (s : State). ground s.core) made.is)
  event_caused on (event.StartNote place disk) made = started made.flight made.launches.starts (ap (λ (s : State). ground s.core) made.is)
  event_caused on (event.StartData place target) made =
      sets_one (step_counts old.device new.device (Started made.flight made.launches.starts)) place (begun_as target made.its.request) (ap (λ (s : State). ground s.core) made.is)
      (unlanded new.device (begun_as target made.its.request) (waits_unless old sound on place made.its.request made.its.there (λ e. let no : Some target ≡ None = sym made.its.due ∙ ap target_next e in cc)))
  event_caused on event.ReadCopy made = started made.flight made.launches.starts (ap (λ (s : State). ground s.core) made.is)
  event_caused on event.WriteCopy made = started made.flight made.starts (ap (λ (s : State). ground s.core) made.is)

  end_caused : old.core.power ≡ power.On → (at : ℕ) → Ends old new at → HasCausesSince first new
  end_caused on at it = of it.row.owner refl it.learns
    where
      by : (ok : Bool) → EndsAs ok old.device new.device it.row.ticket it.buf → NoneFalls old.device.counts new.device.counts
      by true ended = step_counts old.device new.device (Ended it.row.ticket it.buf ended)
      by false ended = step_counts old.device new.device (Broke it.row.ticket it.buf ended)

      more : NoneFalls old.device.counts new.device.counts
      more = by it.ok it.returns.ends

      data_waits : (id target : ℕ) → it.row.owner ≡ owner.Data id target → (learns : DataLearns old.core at id target it.ok it.buf new.core) → is_waiting learns.its.request ≡ true
      data_waits id target own learns =
          waits old.core (sound.on on).going learns.place target learns.its.request learns.its.there learns.its.aim learns.its.aim_is at it.row it.returns.there
          (own ∙ ap (λ n. owner.Data n target) (sym learns.own)) false it.buf (λ e. absurd (let no : false ≡ true = e in cc))

      of : (whose : Owner) → it.row.owner ≡ whose → Learns whose old.core at it.ok it.buf new.core → HasCausesSince first new
      of (owner.Data id target) own learns =
          sets_one more learns.place (learned learns.its.request target it.ok it.buf) (learned_same (owner.Data id target) it.ok old.core new.core at it.buf learns)
          (unlanded new.device (learned learns.its.request target it.ok it.buf) (data_waits id target own learns))
      of (owner.Status disk) own learns = stays_caused first old new more (learned_same (owner.Status disk) it.ok old.core new.core at it.buf learns) was
      of (owner.Note disk) own learns = stays_caused first old new more (learned_same (owner.Note disk) it.ok old.core new.core at it.buf learns) was
      of owner.Copy own learns = stays_caused first old new more (learned_same owner.Copy it.ok old.core new.core at it.buf learns) was

  cut_caused : Darkens old new → HasCausesSince first new
  cut_caused it = dark_caused first old new (record old.core { status = new.core.status; cache = new.core.cache }) (darkens old.device new.device it.device) refl it.is was

  off_caused : GoesOff old new → HasCausesSince first new
  off_caused it =
      goes_on old new (stays old.device new.device (ap (λ (s : State). s.device) it.is)) (ap (λ (s : State). s.core.descriptor) it.is) (ap (λ (s : State). s.core.origin) it.is) first
      (landings outcome.Off old.core.history.facts old.core.requests) (ap (λ (s : State). s.core.history.facts) it.is)
      (landings_caused old outcome.Off old.core.history.facts (λ r. loss_is_caused old sound it.lost) old.core.requests)
      (λ on. absurd (let e : power.Off ≡ power.On = sym (ap (λ (s : State). s.core.power) it.is) ∙ on in cc)) was

  finish_caused : old.core.power ≡ power.On → (answer : Turned) → FinishMakes old new answer → HasCausesSince first new
  finish_caused on turned.Moved made = end_caused on made.0 made.1
  finish_caused on turned.Idle (inl finds) = stays_caused first old new (step_counts old.device new.device (Waited finds.waits)) (ap ground finds.is) was
  finish_caused on turned.Idle (inr nothing) = still (ap (λ (s : State). s.device) nothing.is) (ap (λ (s : State). ground s.core) nothing.is)
  finish_caused on turned.Dark made = cut_caused made.1
  finish_caused on turned.Off made = off_caused made

  on_caused : old.core.power ≡ power.On → (answer : Turned) → OnMakes old new answer → HasCausesSince first new
  on_caused on answer (Moves it event made is) = event_caused on it made
  on_caused on answer (NoStart it event start dark is) = cut_caused dark
  on_caused on answer (Finishes none made) = finish_caused on answer made

  pub turn_caused : (answer : Turned) → TurnMakes old new answer → HasCausesSince first new
  turn_caused answer (WasDark dark is same) = still (ap (λ (s : State). s.device) same) (ap (λ (s : State). ground s.core) same)
  turn_caused answer (WasOff off is same) = still (ap (λ (s : State). s.device) same) (ap (λ (s : State). ground s.core) same)
  turn_caused answer (WasOn on made) = on_caused on answer made

pub turn_keeps_causes : TurnKeepsCauses
turn_keeps_causes first old new answer sound made was = turn_caused first old new sound was answer made

pub beginning_has_causes : BeginningHasCauses
beginning_has_causes s none = record {
  since = [];
  is = sym (append-nil s.core.history.facts);
  caused = tt;
  failed = λ on. subst (λ (os : List Open). AllByRecursion (FailuresAreCaused s.device) os) (sym none) tt;
}
