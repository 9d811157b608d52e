-- Requests land well while nothing fails.
use Rattle.std.proofs.Common.{◌≡◌, inl, inr, ◌≤◌, ◌<◌, ◌+◌, ◌++◌, ◌||◌, ◌&&◌, ◌==◌, ◌/◌, ◌*◌, ℕ, Bool, true, false, List, [], ◌∷◌, length, drop, Option, Some, None, Result, Ok, Err, position, cond, refl, sym, ◌∙◌, ap, subst, append_assoc, if◌then◌else◌, arith}
use Rattle.std.specs.Prelude.{MatchOption, count_by, slice_get, slice_index_or, unwrap_or}
use Rattle.std.specs.List.{AllByRecursion, list_any}
use Rattle.std.specs.Option.{option_map_or}
use Rattle.std.proofs.lemmas.List.{append-nil}
use Rattle.std.proofs.lemmas.List.Sums.{sum_by-cons}
use Rattle.lvm_num.proofs.Booleans.{not_so}
use Rattle.lvm_num.proofs.Lists.{all_at, all_weaker}
use Rattle.lvm_num.specs.declared.descriptor.Descriptor.{Descriptor}
use Rattle.lvm_num.specs.declared.descriptor.LvRow.{LvRow}
use Rattle.lvm_num.specs.declared.descriptor.Mode.TheVariants as mode
use Rattle.lvm_num.specs.declared.place.Pp.{Pp}
use Rattle.lvm_num.specs.Descriptor.{copies_of}
use Rattle.lvm_num.specs.Bits.{has_bit}
use Rattle.lvm_disk.specs.Counts.{Rose}
use Rattle.lvm_disk.specs.Paths.{Here, Path, Then}
use Rattle.lvm_disk.proofs.CountingLemmas.{rose_after, rose_before}
use Rattle.lvm_vol.specs.declared.entry.Outcome.{Outcome}
use Rattle.lvm_vol.specs.declared.entry.Outcome.TheVariants as outcome
use Rattle.lvm_vol.specs.Facts.{Fact, Request, Making, Made, Split, Removing, Removed, Begun, Landed, Taken, Cut, On}
use Rattle.lvm_vol.specs.Log.{entries_from, entry_at, next_id, no_request, place_after, request_of}
use Rattle.lvm_path.specs.declared.ask.Ask.{Ask}
use Rattle.lvm_path.specs.declared.target.Target.{Target}
use Rattle.lvm_path.specs.Asks.{at_of, count_of, lv_of}
use Rattle.lvm_path.specs.Targets.{is_failed}
use Rattle.lvm_kept.specs.Examples.{mirror}
use Rattle.lvm_session.specs.declared.answers.AskFault.{AskFault}
use Rattle.lvm_session.specs.declared.answers.Taken.{Taken as Answer}
use Rattle.lvm_session.specs.declared.answers.Taken.TheVariants as taken
use Rattle.lvm_session.specs.declared.answers.Turned.{Turned}
use Rattle.lvm_session.specs.declared.answers.Turned.TheVariants as turned
use Rattle.lvm_session.specs.declared.event.Event.{Event}
use Rattle.lvm_session.specs.declared.event.Event.TheVariants as event
use Rattle.lvm_session.specs.declared.open.Open.{Open}
use Rattle.lvm_session.specs.declared.open.Power.TheVariants as power
use Rattle.lvm_session.specs.declared.origin.Origin.{Origin}
use Rattle.lvm_session.specs.Calls.{SubmitGives, TakeAt, TakeGives, TakesLanded, ask_fault, is_asked, submitted}
use Rattle.lvm_session.specs.Causes.{AnyFailedSince, AreCounted, TargetHasFailed, IsCounted, IsLandedFor, was_usable}
use Rattle.lvm_session.specs.Dark.{all_dark, is_cut}
use Rattle.lvm_session.specs.Judging.{IsWithinVolume, copies_for}
use Rattle.lvm_session.specs.Requests.{IsOpenOne}
use Rattle.lvm_session.specs.Sound.{IsAsked, IsSound}
use Rattle.lvm_session.specs.State.{Core, State, state}
use Rattle.lvm_session.specs.Turns.{Darkens, FinishMakes, Finishes, Makes, Moves, NoStart, OnMakes, TurnMakes, WasDark, WasOff, WasOn}
use Rattle.lvm_session.specs.Worked.{calm, core_of, faultless}
use Rattle.lvm_session.proofs.WorkedLemmas.Whole.{beginnings_are_sound}
use Rattle.lvm_keeps.proofs.KeepsLemmas.Landing.{landing_is_caused}
use Rattle.lvm_keeps.proofs.KeepsLemmas.Losing.{loss_is_caused}
use Rattle.lvm_going.specs.Frames.{GoesOnOrEnds, KeepsShape}
use Rattle.lvm_going.specs.Going.{AnyStep, ClosesCopy, MakesTurn, OpensCopy, Orders, RunStep, Runs, Submits, Takes, TakesEarlier, IsAny, LeavesSession}
use Rattle.lvm_going.proofs.GoingLemmas.{path_keeps, path_shape, step_shape}
use Rattle.lvm_driver.proofs.passed.Going.{ends_history, leaves_both, leaves_none}
use Rattle.lvm_driver.proofs.passed.KeepsEvents.{turn_leaves_table}
use Rattle.lvm_ranges.proofs.CallsLemmas.{opened_so, refused_for}
use Rattle.lvm_load.specs.declared.totals.Kind.{Kind}
use Rattle.lvm_load.specs.declared.totals.Kind.TheVariants as kind
use Rattle.lvm_load.specs.Landing.{EntersWell, HadCopies, IsEnteredWell, LackedCopy, LandsWell, MayLandWell, RequestsLandWell, TotalsAreWell}
use Rattle.lvm_load.specs.Totals.{entries_since, is_of}

-- ---- entries

pub append_all : (P : Fact → Type 0) (xs ys : List Fact) → AllByRecursion P xs → AllByRecursion P ys → AllByRecursion P (xs ++ ys)
append_all P [] ys all more = more
append_all P (x ∷ xs) ys all more = (all.0, append_all P xs ys all.1 more)

pub enters_none : (core : Core) (old new : List Fact) → new ≡ old → EntersWell core old new
enters_none core old new same = record { since = []; is = same ∙ sym (append-nil old); well = tt }

pub enters_one : (core : Core) (old new : List Fact) (f : Fact) → new ≡ old ++ f ∷ [] → IsEnteredWell core f → EntersWell core old new
enters_one core old new f is well = record { since = f ∷ []; is = is; well = (well, tt) }

pub enters_both : (core : Core) (old mid new : List Fact) → EntersWell core old mid → EntersWell core mid new → EntersWell core old new
enters_both core old mid new one two = record {
  since = one.since ++ two.since;
  is = two.is ∙ ap (λ (fs : List Fact). fs ++ two.since) one.is ∙ append_assoc old one.since two.since;
  well = append_all (IsEnteredWell core) one.since two.since one.well two.well;
}

-- ---- of one group, and one beginning

any_same : (t u : Pp → Bool) → ((p : Pp) → t p ≡ u p) → (xs : List Pp) → list_any t xs ≡ list_any u xs
any_same t u same [] = refl
any_same t u same (x ∷ xs) = ap (λ b. b || list_any t xs) (same x) ∙ ap (λ b. u x || b) (any_same t u same xs)

module _ (first mid : Core) (group : mid.descriptor ≡ first.descriptor) (origin : mid.origin ≡ first.origin) where
  lacked_first : (r : Request) → LackedCopy mid r → LackedCopy first r
  lacked_first r it = record {
    ask = it.ask;
    vol = it.vol;
    at = it.at;
    count = it.count;
    within = subst (λ (d : Descriptor). IsWithinVolume d it.ask) group it.within;
    none =
        any_same (was_usable first) (was_usable mid) (λ p. sym (ap (λ (o : Origin). was_usable (record first { origin = o }) p) origin)) (copies_for first it.ask)
        ∙ sym (ap (λ (d : Descriptor). list_any (was_usable mid) (copies_for (record mid { descriptor = d }) it.ask)) group) ∙ it.none;
  }

  lands_first : (r : Request) (how : Outcome) → LandsWell mid r how → LandsWell first r how
  lands_first r outcome.Done it = it
  lands_first r outcome.Got it = it
  lands_first r outcome.NoFresh it = lacked_first r it
  lands_first r outcome.Lost it = it
  lands_first r outcome.ReadFailed it = it
  lands_first r outcome.Off it = it
  lands_first r outcome.Dark it = it

  one_first : (f : Fact) → IsEnteredWell mid f → IsEnteredWell first f
  one_first (Landed r how started got) it = lands_first r how it
  one_first (Making lv blocks mode) it = it
  one_first (Made lv) it = it
  one_first (Split from lv) it = it
  one_first (Removing vol) it = it
  one_first (Removed vol) it = it
  one_first (Begun r) it = it
  one_first (Taken r) it = it
  one_first Cut it = it
  one_first (On moment) it = it

  enters_first : (old new : List Fact) → EntersWell mid old new → EntersWell first old new
  enters_first old new it = record { since = it.since; is = it.is; well = all_weaker (IsEnteredWell mid) (IsEnteredWell first) one_first it.since it.well }

-- ---- a landing

module _ (old : State) (sound : IsSound old) (on : old.core.power ≡ power.On) (none : AnyFailedSince old → ⊥) (place : ℕ) (o : Open) (there : slice_get old.core.requests place ≡ Some o) where
  its : IsOpenOne old.core o
  its = all_at (IsOpenOne old.core) old.core.requests place o (sound.on on).going.requests there

  told : IsAsked old.core.history.facts o
  told = all_at (IsAsked old.core.history.facts) old.core.requests place o sound.told.requests there

  counted : AreCounted old o
  counted = all_at (AreCounted old) old.core.requests place o sound.counted there

  -- some target that was usable has failed
  failed_among : (ts : List Target) → list_any (λ (t : Target). t.usable) ts ≡ true → AllByRecursion (λ (t : Target). t.usable ≡ true → TargetHasFailed old.device t) ts → AllByRecursion (IsCounted old) ts → AnyFailedSince old
  failed_among [] some failed counts = not_so some
  failed_among (t ∷ ts) some failed counts = by t.usable refl some (λ e. failed_among ts e failed.1 counts.1)
    where
      by : (b : Bool) → t.usable ≡ b → b || list_any (λ (u : Target). u.usable) ts ≡ true → (list_any (λ (u : Target). u.usable) ts ≡ true → AnyFailedSince old) → AnyFailedSince old
      by true is e rest = (t.pp.disk, rose_before counts.0.began (failed.0 is))
      by false is e rest = rest e

  request_is : request_of old.core.history.facts o.request.id ≡ told.request
  request_is = ap (λ (m : Option Request). unwrap_or m no_request) told.told

  lands_well : (how : Outcome) → IsLandedFor old o how → LandsWell old.core (request_of old.core.history.facts o.request.id) how
  lands_well outcome.Done why = tt
  lands_well outcome.Got why = tt
  lands_well outcome.NoFresh (inl failed) = absurd (none failed)
  lands_well outcome.NoFresh (inr lacks) = record {
    ask = o.request.ask;
    vol = ap (λ (r : Request). r.vol) request_is ∙ told.vol;
    at = ap (λ (r : Request). r.at) request_is ∙ told.at;
    count = ap (λ (r : Request). r.count) request_is ∙ told.count;
    within = its.laid.within;
    none = lacks;
  }
  lands_well outcome.Lost why = none (failed_among o.request.targets.items why.0 why.1 counted)
  lands_well outcome.ReadFailed why =
      none (failed_among o.request.targets.items why.0 (all_weaker (λ (t : Target). (is_failed t.state ≡ true) × TargetHasFailed old.device t) (λ (t : Target). t.usable ≡ true → TargetHasFailed old.device t) (λ t is usable. is.1) o.request.targets.items why.1) counted)
  lands_well outcome.Off why = none (loss_is_caused old sound why.1)
  lands_well outcome.Dark why = let e : power.On ≡ power.Dark = sym on ∙ why in cc

-- ---- a turn

module _ (old new : State) (sound : IsSound old) (none : AnyFailedSince old → ⊥) (lit : new.core.power ≡ power.Dark → ⊥) where
  abbrev Enters : Type 0
  Enters = EntersWell old.core old.core.history.facts new.core.history.facts

  still : new.core.history.facts ≡ old.core.history.facts → Enters
  still same = enters_none old.core old.core.history.facts new.core.history.facts same

  dark_enters : Darkens old new → Enters
  dark_enters it = absurd (lit (ap (λ (c : Core). c.power) it.is))

  event_enters : old.core.power ≡ power.On → (it : Event) → Makes it old new → Enters
  event_enters on (event.Land place how) made =
      enters_one old.core old.core.history.facts new.core.history.facts _ (ap (λ (s : State). s.core.history.facts) made.is)
      (lands_well old sound on none place made.request made.there how (landing_is_caused place how old new sound on made))
  event_enters on (event.Admit place) made = still (ap (λ (s : State). s.core.history.facts) made.is)
  event_enters on (event.Pin place) made = still (ap (λ (s : State). s.core.history.facts) made.is)
  event_enters on event.StartStatus made = still (ap (λ (s : State). s.core.history.facts) made.is)
  event_enters on (event.StartNote place disk) made = still (ap (λ (s : State). s.core.history.facts) made.is)
  event_enters on (event.StartData place target) made = still (ap (λ (s : State). s.core.history.facts) made.is)
  event_enters on event.ReadCopy made = still (ap (λ (s : State). s.core.history.facts) made.is)
  event_enters on event.WriteCopy made = still (ap (λ (s : State). s.core.history.facts) made.is)

  finish_enters : (answer : Turned) → FinishMakes old new answer → Enters
  finish_enters turned.Moved made = still (ap (λ h. h.facts) (ends_history old new made.0 made.1))
  finish_enters turned.Idle (inl finds) = still (ap (λ (c : Core). c.history.facts) finds.is)
  finish_enters turned.Idle (inr nothing) = still (ap (λ (s : State). s.core.history.facts) nothing.is)
  finish_enters turned.Dark made = dark_enters made.1
  finish_enters turned.Off made = absurd (none (loss_is_caused old sound made.lost))

  on_enters : old.core.power ≡ power.On → (answer : Turned) → OnMakes old new answer → Enters
  on_enters on answer (Moves it first made is) = event_enters on it made
  on_enters on answer (NoStart it first start dark is) = dark_enters dark
  on_enters on answer (Finishes nothing made) = finish_enters answer made

  turn_enters : (answer : Turned) → TurnMakes old new answer → Enters
  turn_enters answer (WasDark dark is same) = still (ap (λ (s : State). s.core.history.facts) same)
  turn_enters answer (WasOff off is same) = still (ap (λ (s : State). s.core.history.facts) same)
  turn_enters answer (WasOn on made) = on_enters on answer made

  -- ---- calls and orders

  same_core : new.core ≡ old.core → Enters
  same_core same = still (ap (λ (c : Core). c.history.facts) same)

  submit_enters : (client : ℕ) (ask : Ask) (bytes : Option (List ℕ)) (answer : Result ℕ AskFault) → SubmitGives old.core new.core client ask bytes answer → Enters
  submit_enters client ask bytes answer gives = by (ask_fault old.core ask) gives
    where
      by : (m : Option AskFault) → MatchOption m ((answer ≡ Ok (next_id old.core.history)) × (new.core ≡ submitted old.core client ask bytes)) (λ (why : AskFault). (answer ≡ Err why) × (new.core ≡ old.core)) → Enters
      by None took = enters_one old.core old.core.history.facts new.core.history.facts _ (ap (λ (c : Core). c.history.facts) took.1) tt
      by (Some why) not = same_core not.1

  take_enters : (client id : ℕ) (answer : Answer) → TakeGives old.core new.core client id answer → Enters
  take_enters client id answer gives = by (position (is_asked client id) old.core.requests) gives
    where
      landed : (place : ℕ) (o : Open) (l : Option Outcome) → TakesLanded old.core new.core place o answer l → Enters
      landed place o None takes = same_core takes.1
      landed place o (Some so) takes = enters_one old.core old.core.history.facts new.core.history.facts _ (ap (λ (c : Core). c.history.facts) takes.1) tt

      by : (p : Option ℕ) → MatchOption p ((answer ≡ taken.Unknown) × (new.core ≡ old.core)) (λ (place : ℕ). TakeAt old.core new.core place answer) → Enters
      by None nothing = same_core nothing.1
      by (Some place) at = landed place at.0 at.0.landed at.2

  run_enters : RunStep old new → Enters
  run_enters (MakesTurn answer valid sectors made) = turn_enters answer made
  run_enters (Submits client ask bytes answer unstuck asks gives same) = submit_enters client ask bytes answer gives
  run_enters (Takes client id answer gives same) = take_enters client id answer gives
  run_enters (ClosesCopy closes same) = still (ap (λ (c : Core). c.history.facts) closes.is)
  run_enters (TakesEarlier id it same) = enters_one old.core old.core.history.facts new.core.history.facts _ (ap (λ (c : Core). c.history.facts) it.is) tt

  arrange_enters : (b : Bool) → new.core ≡ (if b then all_dark old.core else old.core) → Enters
  arrange_enters true is = absurd (lit (ap (λ (c : Core). c.power) is))
  arrange_enters false is = same_core is

  pub step_enters : AnyStep old new → Enters
  step_enters (Runs it) = run_enters it
  step_enters (OpensCopy lv lp number (Ok done) unstuck gives same) = still (ap (λ (c : Core). c.history.facts) (opened_so _ old.core new.core lv lp number gives).1.is)
  step_enters (OpensCopy lv lp number (Err why) unstuck gives same) = same_core (refused_for _ old.core new.core lv lp number why gives).1
  step_enters (Orders what done unstuck it) = arrange_enters (done && is_cut what) it.is

-- ---- from a moment to a later one

failed_later : (old new : State) → KeepsShape old new → AnyFailedSince old → AnyFailedSince new
failed_later old new keeps failed = (
  failed.0,
  rose_after (subst (λ (o : Origin). Rose (slice_index_or o.faults failed.0 0) (old.device.counts.faults failed.0)) (sym keeps.origin) failed.1) (keeps.counts.faults failed.0),
)

dark_later : (old new : Core) → GoesOnOrEnds old new → old.power ≡ power.Dark → new.power ≡ power.Dark
dark_later old new (inl same) dark = same ∙ dark
dark_later old new (inr (inl goes)) dark = goes
dark_later old new (inr (inr off)) dark = absurd (let e : power.On ≡ power.Dark = sym off.0 ∙ dark in cc e)

path_enters : (first last : State) → IsSound first → Path AnyStep IsAny first last → (AnyFailedSince last → ⊥) → (last.core.power ≡ power.Dark → ⊥) → EntersWell first.core first.core.history.facts last.core.history.facts
path_enters first last sound (Here any) none lit = enters_none first.core first.core.history.facts first.core.history.facts refl
path_enters first last sound (Then {m = mid} path step any) none lit =
    let shape = path_shape path in
    let next = step_shape mid last step in
    let none_mid : AnyFailedSince mid → ⊥ = λ failed. none (failed_later mid last next failed) in
    let lit_mid : mid.core.power ≡ power.Dark → ⊥ = λ dark. lit (dark_later mid.core last.core next.power dark) in
    enters_both first.core first.core.history.facts mid.core.history.facts last.core.history.facts (path_enters first mid sound path none_mid lit_mid)
    (enters_first first.core mid.core shape.descriptor shape.origin mid.core.history.facts last.core.history.facts (step_enters mid last (path_keeps sound path) none_mid lit step))

pub requests_land_well : RequestsLandWell
requests_land_well first last sound path none lit = path_enters first last sound path none lit

-- a session that was sound is
pub sound_later : (first last : State) → IsSound first → LeavesSession first last → IsSound last
sound_later first last sound path = path_keeps sound path

-- one thing after another, and nothing
pub leaves_then : (old mid new : State) → LeavesSession old mid → LeavesSession mid new → LeavesSession old new
leaves_then old mid new one two = leaves_both old mid new one two

pub leaves_nothing : (s : State) → LeavesSession s s
leaves_nothing s = leaves_none s

-- a turn leaves as many requests in the table
pub table_stays : (old new : State) (answer : Turned) → TurnMakes old new answer → length new.core.requests ≡ length old.core.requests
table_stays old new answer made = (turn_leaves_table old new answer made).long

-- ---- the totals

-- an entry isn't counted so
abbrev IsNot : Kind → Fact → Type 0
IsNot k f = (place : ℕ) → is_of k (entry_at place f) ≡ false

none_counted : (k : Kind) (place : ℕ) (facts : List Fact) → AllByRecursion (IsNot k) facts → count_by (is_of k) (entries_from place facts) ≡ 0
none_counted k place [] all = refl
none_counted k place (f ∷ facts) all =
    let e = entry_at place f in
    let rest = none_counted k (place_after place f) facts all.1 in
    let here : ◌≡◌ {A = ℕ} (cond (is_of k e) 1 0) 0 = ap (λ (b : Bool). cond b 1 0) (all.0 place) in
    let sum : count_by (is_of k) (e ∷ entries_from (place_after place f) facts) ≡ cond (is_of k e) 1 0 + count_by (is_of k) (entries_from (place_after place f) facts) = sum_by-cons (λ x. cond (is_of k x) 1 0) e (entries_from (place_after place f) facts) in
    omega (arith, rest, here, sum)

entries_behind : (place : ℕ) (past more : List Fact) → (p : ℕ) × (drop (length past) (entries_from place (past ++ more)) ≡ entries_from p more)
entries_behind place [] more = (place, refl)
entries_behind place (f ∷ past) more = entries_behind (place_after place f) past more

none_since : (k : Kind) (old more : List Fact) → AllByRecursion (IsNot k) more → (new : List Fact) → new ≡ old ++ more → count_by (is_of k) (entries_since (length old) new) ≡ 0
none_since k old more all new is =
    let behind = entries_behind 0 old more in
    ap (λ (l : List Fact). count_by (is_of k) (drop (length old) (entries_from 0 l))) is ∙ ap (count_by (is_of k)) behind.1 ∙ none_counted k behind.0 more all

not_lost : (core : Core) (f : Fact) → IsEnteredWell core f → IsNot kind.Lost f
not_lost core (Landed r outcome.Done started got) it place = refl
not_lost core (Landed r outcome.Got started got) it place = refl
not_lost core (Landed r outcome.NoFresh started got) it place = refl
not_lost core (Landed r outcome.Lost started got) it place = absurd it
not_lost core (Landed r outcome.ReadFailed started got) it place = absurd it
not_lost core (Landed r outcome.Off started got) it place = absurd it
not_lost core (Landed r outcome.Dark started got) it place = absurd it
not_lost core (Making lv blocks mode) it place = refl
not_lost core (Made lv) it place = refl
not_lost core (Split from lv) it place = refl
not_lost core (Removing vol) it place = refl
not_lost core (Removed vol) it place = refl
not_lost core (Begun r) it place = refl
not_lost core (Taken r) it place = refl
not_lost core Cut it place = refl
not_lost core (On moment) it place = refl

not_refused : (core : Core) → HadCopies core → (f : Fact) → IsEnteredWell core f → IsNot kind.Refused f
not_refused core had (Landed r outcome.Done started got) it place = refl
not_refused core had (Landed r outcome.Got started got) it place = refl
not_refused core had (Landed r outcome.NoFresh started got) it place = not_so (sym it.none ∙ had it.ask it.within)
not_refused core had (Landed r outcome.Lost started got) it place = absurd it
not_refused core had (Landed r outcome.ReadFailed started got) it place = absurd it
not_refused core had (Landed r outcome.Off started got) it place = absurd it
not_refused core had (Landed r outcome.Dark started got) it place = absurd it
not_refused core had (Making lv blocks mode) it place = refl
not_refused core had (Made lv) it place = refl
not_refused core had (Split from lv) it place = refl
not_refused core had (Removing vol) it place = refl
not_refused core had (Removed vol) it place = refl
not_refused core had (Begun r) it place = refl
not_refused core had (Taken r) it place = refl
not_refused core had Cut it place = refl
not_refused core had (On moment) it place = refl

pub totals_are_well : TotalsAreWell
totals_are_well requests core old new it = (
  none_since kind.Lost old it.since (all_weaker (IsEnteredWell core) (IsNot kind.Lost) (not_lost core) it.since it.well) new it.is,
  λ had. none_since kind.Refused old it.since (all_weaker (IsEnteredWell core) (IsNot kind.Refused) (not_refused core had) it.since it.well) new it.is,
)

-- ---- worked: a session with a mirrored volume, as it begins

abbrev begun : Core
begun = core_of (calm mode.Off)

has_copies : (o : Option LvRow) → o ≡ Some (mirror mode.Off) → (lp : ℕ) → lp ≡ 0 → list_any (was_usable begun) (option_map_or (λ (row : LvRow). copies_of row lp) o []) ≡ true
unfolding has_bit
has_copies o is lp first =
    subst (λ (p : Option LvRow). list_any (was_usable begun) (option_map_or (λ (row : LvRow). copies_of row lp) p []) ≡ true) (sym is)
    (subst (λ (n : ℕ). list_any (was_usable begun) (copies_of (mirror mode.Off) n) ≡ true) (sym first) refl)

row_is : (b : Bool) (row : LvRow) → (if b then Some (mirror mode.Off) else None) ≡ Some row → ((if b then Some (mirror mode.Off) else None) ≡ Some (mirror mode.Off)) × (row.lps ≡ 1)
row_is true row e = (refl, sym (ap (λ (o : Option LvRow). option_map_or (λ (r : LvRow). r.lps) o 1) e))
row_is false row e = absurd (cc e)

had_copies : HadCopies begun
had_copies ask within =
    let its_row = row_is (1 == lv_of ask) within.row within.volume in
    let size = within.within in
    let some = within.some in
    let one = its_row.1 in
    let low : at_of ask < 2048 = subst (λ (n : ℕ). at_of ask + count_of ask ≤ 2048 * n → at_of ask < 2048) (sym one) (λ fits. omega (arith, fits, some)) size in
    has_copies _ its_row.0 (at_of ask / 2048) (omega (arith, low))

pub may_land_well : MayLandWell
may_land_well = (
  state faultless begun,
  state faultless begun,
  beginnings_are_sound mode.Off,
  leaves_none (state faultless begun),
  λ failed. let risen = failed.1.risen in omega (arith, risen),
  λ dark. cc dark,
  had_copies,
)
