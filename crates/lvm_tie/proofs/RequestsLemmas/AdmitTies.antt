-- A request that is admitted, tied.
use Rattle.std.proofs.Common.{◌≡◌, ◌⊎◌, inl, inr, ⊎_elim, ℕ, zero, suc, ◌+◌, ◌-◌, ◌<◌, ◌≤◌, Bool, true, false, ◌&&◌, ◌||◌, ◌==◌, not, List, [], ◌∷◌, ◌++◌, length, map, Option, Some, None, refl, sym, ap, subst, ◌∙◌, arith}
use Rattle.std.specs.Prelude.{IsTrue, IsFalse, if◌then◌else◌, slice_get, slice_set, nat_le, nat_lt, position, is_some, slice_index_or}
use Rattle.std.specs.List.{list_any}
use Rattle.std.specs.Option.{option_map_or}
use Rattle.std.proofs.lemmas.Bool.{cases_eq, and_parts}
use Rattle.std.proofs.lemmas.Bool.Decides.{nat_tests}
use Rattle.std.proofs.lemmas.Option.{slice_get-get_or, same_Some}
use Rattle.lvm_num.specs.Buffer.{Buffer}
use Rattle.lvm_num.specs.Note.{IsNote}
use Rattle.lvm_num.specs.Status.{calls_dirty}
use Rattle.lvm_num.specs.declared.place.Pp.{Pp}
use Rattle.lvm_num.specs.declared.descriptor.Mode.{Mode}
use Rattle.lvm_num.specs.declared.descriptor.Mode.TheVariants as mode
use Rattle.lvm_num.specs.declared.descriptor.Policy.{Policy}
use Rattle.lvm_num.specs.declared.status.Status.{Status}
use Rattle.lvm_num.specs.Record.{Stamped}
use Rattle.lvm_vol.specs.Facts.{Fact}
use Rattle.lvm_disk.specs.Device.{Flight, image_of}
use Rattle.lvm_kept.specs.Contents.{contents_of}
use Rattle.lvm_kept.specs.Group.{IsOneOf}
use Rattle.lvm_hold.specs.declared.queue.Held.{Held as Holding}
use Rattle.lvm_hold.specs.declared.queue.Row.{Row}
use Rattle.lvm_hold.specs.Conflicts.{have_common_block, conflicts}
use Rattle.lvm_mwc.specs.Entries.{has_entry}
use Rattle.lvm_mwc.specs.Cache.{Cached}
use Rattle.lvm_sched.specs.Reads.{IsReadOrder}
use Rattle.lvm_sched.specs.Writes.{is_waiting as target_waits}
use Rattle.lvm_sched.specs.declared.writes.TargetState.{TargetState}
use Rattle.lvm_sched.specs.declared.writes.TargetState.TheVariants as target
use Rattle.lvm_status.specs.Update.{Stored, seen}
use Rattle.lvm_path.specs.declared.facts.Facts.{Facts}
use Rattle.lvm_path.specs.declared.facts.Next.TheVariants as next
use Rattle.lvm_path.specs.declared.ask.Ask.{Ask}
use Rattle.lvm_path.specs.declared.request.Request.{Request}
use Rattle.lvm_path.specs.declared.request.Phase.{Phase}
use Rattle.lvm_path.specs.declared.request.Phase.TheVariants as phase
use Rattle.lvm_path.specs.declared.target.Target.{Target}
use Rattle.lvm_path.specs.Asks.{lv_of, at_of, count_of, is_write}
use Rattle.lvm_path.specs.Targets.{is_begun, is_done}
use Rattle.lvm_path.specs.Next.{start_or_wait, next_chosen, next_write, next_read, next_in, first_phase, admitted as path_admitted}
use Rattle.lvm_session.specs.declared.open.Open.{Open}
use Rattle.lvm_session.specs.declared.bringing.OpenCopy.{OpenCopy}
use Rattle.lvm_session.specs.declared.bringing.Step.{Step}
use Rattle.lvm_session.specs.declared.bringing.Step.TheVariants as step
use Rattle.lvm_session.specs.declared.flown.Owner.{Owner}
use Rattle.lvm_session.specs.declared.flown.Owner.TheVariants as owner
use Rattle.lvm_session.specs.State.{Core, State, state}
use Rattle.lvm_session.specs.Judging.{is_waiting, is_running, is_usable, is_missing, is_caught, is_held_back, copies_for, group_in, mode_of, policy_of, place_of, held_of, facts_of, next_for, aims, destination_aims, destinations_for, IsWithinVolume}
use Rattle.lvm_session.specs.Bringing.{is_out, is_whole, step_row, groups_of}
use Rattle.lvm_session.specs.Events.{Admits, Chooses, ChoosesBy, copy_of, last_after, loads_of, makes_dirty, destination_target, target_at, usable_from, without_pin}
use Rattle.lvm_session.specs.Marks.{WantsDirty, WantsDirtyIf, is_among}
use Rattle.lvm_session.specs.Requests.{IsPhase, IsRequest}
use Rattle.lvm_session.specs.Sound.{IsSound}
use Rattle.lvm_invariant.specs.State.{Marks, Stage, ModelPhase, Held, WantEntry, Ready, Going, Landed, ModelCopy, Queued, ModelState, covers, is_past, has_landed}
use Rattle.lvm_invariant.specs.Updates.{put}
use Rattle.lvm_num.specs.Descriptor.{is_pp}
use Rattle.lvm_invariant.specs.Sound.{Conflict}
use Rattle.lvm_invariant.specs.Admit.{Admits as Admitting, admitted}
use Rattle.lvm_invariant.specs.Events.{Admit, Want, ModelStep}
use Rattle.lvm_invariant.specs.Good.{Good}
use Rattle.lvm_invariant.specs.Want.{Wants, after_wants}
use Rattle.lvm_invariant.proofs.EventsLemmas.Each.{each_keeps}
use Rattle.lvm_crash.specs.Session.{Describes, is_beside, marks_of}
use Rattle.lvm_num.specs.Modes.{is_active}
use Rattle.lvm_num.proofs.Booleans.{clash_gives}
use Rattle.lvm_num.proofs.AmongLemmas.{one_any, one_at, one_of_either, filter_one}
use Rattle.lvm_crash.specs.Owned.{OnlyUpdateSince}
use Rattle.lvm_crash.proofs.OwnedLemmas.{covered}
use Rattle.lvm_crash.proofs.RecordsLemmas.Quiet.{quiet_lasts}
use Rattle.lvm_crash.proofs.WritingLemmas.{pp_same, same_pp}
use Rattle.lvm_tie.proofs.OutLemmas.Ties.{carry_on}
use Rattle.lvm_tie.proofs.SeenLemmas.Changing.{step_apart, sees_changed}
use Rattle.lvm_tie.proofs.StateLemmas.{destination_is_copy, its_member, missing_seen, there_first, there_is_copy, usable_one}
use Rattle.lvm_tie.proofs.ModesLemmas.{active_is}
use Rattle.lvm_tie.proofs.JudgingLemmas.Rows.{HaveRows, rows_are}
use Rattle.lvm_tie.proofs.TiedLemmas.Orderly.{HaveNumbers, numbers_of, open_one, waiting_one}
use Rattle.lvm_tie.proofs.AmongLemmas.{or_left, or_either, any_none, not_true, stage_of_one, target_of, one_there}
use Rattle.lvm_tie.proofs.OutLemmas.Wanted.{dirty_rest, next_same, records_wanted, sees_wanted, stamp_same, update_same, write_same, one_wanted}
use Rattle.lvm_tie.specs.Out.{CarriesStep, IsWriteOf}
use Rattle.lvm_tie.specs.Seen.{stage_at, phase_seen, update_of, SeesRequest, SeesOpen, SeesRunning, SeesCopy, IsRequestAt, IsStepAt, Sees}
use Rattle.lvm_tie.specs.Tied.{IsOrderly, IsTied}
use Rattle.lvm_tie.specs.Requests.{AdmitTies}
use Rattle.lvm_tie.proofs.LandsLemmas.Landings.{done_begun}
use Rattle.lvm_tie.proofs.EventsLemmas.{cache_is, entries_stay}

-- it is usable, or a write goes to it and it is being brought up and has passed
abbrev pub IsTaken : Core → Ask → Pp → Type 0
IsTaken core ask p = (is_usable core p ≡ true) ⊎ ((is_write ask ≡ true) × (is_caught core (group_in core ask) p ≡ true))

-- such a copy, or for a write the destination of a move which has passed
abbrev pub IsChosen : Core → Ask → Pp → Type 0
IsChosen core ask p = (IsOneOf (copies_for core ask) p × IsTaken core ask p) ⊎ ((is_among (destinations_for core ask) p ≡ true) × (is_write ask ≡ true) × (is_caught core (group_in core ask) p ≡ true))

-- what is chosen
pub record AreChosen (core : Core) (o : Open) (targets : List Target) : Type 0 where
  pub early : is_begun targets ≡ false
  pub each : (number : ℕ) (t : Target) → slice_get targets number ≡ Some t → IsChosen core o.request.ask t.pp

-- ---- when it is admitted

-- it hasn't begun, and waits for no other
pub data Early (held_back : Bool) (p : Phase) (begun : Bool) : Type 0 where
  First : p ≡ phase.Held → held_back ≡ false → Early held_back p begun
  Again : (phase_seen p begun ≡ WantEntry) ⊎ (phase_seen p begun ≡ Ready) → Early held_back p begun

not_write : (policy : Policy) (ts : List Target) → next_write policy ts ≡ next.Admit → ⊥
not_write policy ts = by (Rattle.lvm_sched.specs.Writes.next_target policy (Rattle.lvm_path.specs.Targets.states_of ts))
  where
    by : (o : Option ℕ) → start_or_wait o ≡ next.Admit → ⊥
    by None h = absurd cc
    by (Some k) h = absurd cc

not_read : (ts : List Target) → next_read ts ≡ next.Admit → ⊥
not_read ts = by (list_any (λ (t : Target). Rattle.lvm_path.specs.Targets.is_done t.state) ts) (list_any (λ (t : Target). Rattle.lvm_sched.specs.Writes.is_flying t.state) ts) (position (λ (t : Target). Rattle.lvm_sched.specs.Writes.is_waiting t.state) ts)
  where
    by : (a b : Bool) (o : Option ℕ) → (if a then next.Land Rattle.lvm_vol.specs.declared.entry.Outcome.TheVariants.Got else if b then next.Wait else option_map_or next.Start o (next.Land Rattle.lvm_vol.specs.declared.entry.Outcome.TheVariants.ReadFailed)) ≡ next.Admit → ⊥
    by true b o h = absurd cc
    by false true o h = absurd cc
    by false false None h = absurd cc
    by false false (Some k) h = absurd cc

early : (k : Facts) (r : Request) (p : Phase) → next_in p k r ≡ next.Admit → Early k.blocked p (is_begun r.targets.items)
early k r phase.Held h = by k.blocked k.pending h
  where
    by : (b p : Bool) → (if b || p then next.Wait else if k.usable then next.Admit else next.Land Rattle.lvm_vol.specs.declared.entry.Outcome.TheVariants.NoFresh) ≡ next.Admit → Early b phase.Held (is_begun r.targets.items)
    by true p h = absurd cc
    by false p h = First refl refl
early k r phase.WantEntry h = Again (inl refl)
early k r phase.WantRecord h = Again (inr refl)
early k r phase.Data h = by (is_write r.ask) (is_begun r.targets.items) h
  where
    by : (w b : Bool) → (if w then (if b then next_write r.policy r.targets.items else next_chosen k (if k.pending then next.Wait else next_write r.policy r.targets.items)) else next_read r.targets.items) ≡ next.Admit → Early k.blocked phase.Data b
    by false b h = absurd (not_read r.targets.items h)
    by true true h = absurd (not_write r.policy r.targets.items h)
    by true false h = Again (inr refl)
early k r phase.WantStatus h = by k.marked h
  where
    by : (m : Bool) → (if m then next.Land (if k.kept then Rattle.lvm_vol.specs.declared.entry.Outcome.TheVariants.Done else Rattle.lvm_vol.specs.declared.entry.Outcome.TheVariants.Lost) else next.Wait) ≡ next.Admit → Early k.blocked phase.WantStatus (is_begun r.targets.items)
    by true h = absurd cc
    by false h = absurd cc
early k r phase.Landed h = absurd cc

-- ---- the phase that it gets

phase_well : (m : Mode) (w several : Bool) → (phase_seen (first_phase m w several) false ≡ WantEntry) ⊎ ((phase_seen (first_phase m w several) false ≡ Ready) × (IsTrue w → IsTrue (is_active m) → IsTrue several → ⊥))
phase_well m false several = inr (refl, λ w a s. absurd cc)
phase_well mode.Active true true = inl refl
phase_well mode.Active true false = inr (refl, λ w a s. absurd cc)
phase_well mode.Passive true true = inr (refl, λ w a s. absurd cc)
phase_well mode.Passive true false = inr (refl, λ w a s. absurd cc)
phase_well mode.Off true several = inr (refl, λ w a s. absurd cc)

module _ (past : List Fact) (old new : State) (place : ℕ) (admits : Admits old new place) (tied : IsTied past old) (sound : IsSound new) (rows : HaveRows old.core)
    (waits : is_waiting admits.request ≡ true) (empty : admits.request.got ≡ None) (chosen : AreChosen old.core admits.request admits.targets) where
  abbrev core : Core
  core = old.core

  abbrev o : Open
  o = admits.request

  numbers : HaveNumbers core
  numbers = numbers_of old tied.write tied.orderly

  inside : IsWithinVolume core.descriptor o.request.ask
  inside = (open_one old tied.write tied.orderly place o admits.there).laid.within

  same_entries : (lv g : ℕ) → has_entry (without_pin core.cache o.request).entries lv g ≡ has_entry core.cache.entries lv g
  same_entries = entries_stay core.cache o.request

  abbrev ask : Ask
  ask = o.request.ask

  abbrev v : ModelState
  v = tied.view

  abbrev i : ℕ
  i = place_of o.request.id

  abbrev q : Queued
  q = (tied.sees.queue.requests place o admits.there).0

  at : v.queue i ≡ Some q
  at = (tied.sees.queue.requests place o admits.there).1

  sees : SeesRequest o q
  sees = (tied.sees.queue.requests place o admits.there).2

  abbrev several : Bool
  several = nat_le 2 (length admits.targets)

  abbrev o2 : Open
  o2 = record o { request = path_admitted o.request (policy_of core ask) (mode_of core ask) admits.targets; older = false }

  abbrev phase2 : ModelPhase
  phase2 = phase_seen (first_phase (mode_of core ask) (is_write ask) several) false

  abbrev targets2 : Pp → Option Stage
  targets2 c = stage_at admits.targets c

  abbrev q2 : Queued
  q2 = admitted q phase2 several targets2

  is_early : Early (is_held_back core o.request) o.request.phase (is_begun o.request.targets.items)
  is_early = early (facts_of core o.request) o.request o.request.phase admits.admits

  -- a row that conflicts
  common : (e : Queued) (lv b : ℕ) → IsTrue (covers e lv b) → IsTrue (covers q lv b) → (a : Holding) → a.lv ≡ e.lv → a.at ≡ e.first → a.count ≡ e.count → have_common_block a (held_of ask) ≡ true
  common e lv b first second a same_lv same_at same_count =
      let x = covered e lv b first in
      let y = covered q lv b second in
      let volume : a.lv ≡ lv_of ask = same_lv ∙ x.0 ∙ sym y.0 ∙ sees.lv in
      let low : e.first ≤ b = x.1 in
      let high : b < e.first + e.count = x.2 in
      let low2 : q.first ≤ b = y.1 in
      let high2 : b < q.first + q.count = y.2 in
      let at2 : q.first ≡ at_of ask = sees.first in
      let count2 : q.count ≡ count_of ask = sees.count in
      let one : (a.lv == lv_of ask) ≡ true = grind (arith, nat_tests) in
      let two : nat_lt a.at (at_of ask + count_of ask) ≡ true = let lt : a.at < at_of ask + count_of ask = omega arith in grind (arith, nat_tests) in
      let three : nat_lt (at_of ask) (a.at + a.count) ≡ true = let lt : at_of ask < a.at + a.count = omega arith in grind (arith, nat_tests) in
      λ k. one k && two k && three k

  free : (j : ℕ) (e : Queued) → v.queue j ≡ Some e → j < i → Conflict e q → IsTrue (has_landed e.phase)
  free j e there less conflict = by is_early
    where
      by_request : is_held_back core o.request ≡ false → (r : IsRequestAt core j) → (b : Bool) → is_waiting r.request ≡ b → IsTrue (has_landed e.phase)
      by_request unblocked r false over =
          let s = tied.sees.queue.requests r.place r.request r.there in
          let same : s.0 ≡ e = same_Some s.0 e (sym s.1 ∙ ap v.queue r.its ∙ there) in
          ap (λ (x : Queued). has_landed x.phase) (sym same) ∙ ap has_landed s.2.phase ∙ ap (λ (p : Phase). has_landed (phase_seen p (is_begun r.request.request.targets.items))) (rows.landed r.place r.request r.there over)
      by_request unblocked r true waiting =
          let s = tied.sees.queue.requests r.place r.request r.there in
          let same : s.0 ≡ e = same_Some s.0 e (sym s.1 ∙ ap v.queue r.its ∙ there) in
          let row : Row = record { id = place_of r.request.request.id; ask = held_of r.request.request.ask } in
          let block = common e conflict.lv conflict.block conflict.first conflict.second (held_of r.request.request.ask) (sym s.2.lv ∙ ap (λ (x : Queued). x.lv) same) (sym s.2.first ∙ ap (λ (x : Queued). x.first) same) (sym s.2.count ∙ ap (λ (x : Queued). x.count) same) in
          let write : (Rattle.lvm_hold.specs.Conflicts.is_write (held_of r.request.request.ask) || Rattle.lvm_hold.specs.Conflicts.is_write (held_of ask)) ≡ true =
          ⊎_elim
          (λ w. Rattle.lvm_tie.proofs.AmongLemmas.or_true (is_write r.request.request.ask && true) (is_write ask && true) (inl (let e2 : is_write r.request.request.ask ≡ true = sym s.2.write ∙ ap (λ (x : Queued). x.write) same ∙ w in λ k. e2 k && true)))
          (λ w. Rattle.lvm_tie.proofs.AmongLemmas.or_true (is_write r.request.request.ask && true) (is_write ask && true) (inr (let e2 : is_write ask ≡ true = sym sees.write ∙ w in λ k. e2 k && true)))
          conflict.writes in
          let both : conflicts (held_of r.request.request.ask) (held_of ask) ≡ true = λ k. block k && write k in
          let less2 : nat_lt (place_of r.request.request.id) i ≡ true = let e3 : place_of r.request.request.id ≡ j = r.its in let lt : place_of r.request.request.id < i = omega arith in grind (arith, nat_tests) in
          clash_gives (nat_lt row.id i && conflicts row.ask (held_of ask)) (λ k. less2 k && both k) (any_none (λ (x : Row). nat_lt x.id i && conflicts x.ask (held_of ask)) core.queue.rows row unblocked (rows.requests r.place r.request r.there waiting))

      by_step : is_held_back core o.request ≡ false → IsStepAt core j → IsTrue (has_landed e.phase)
      by_step unblocked r =
          let s = tied.sees.queue.a_step r.copy r.is_open r.row in
          let same : s.0 ≡ e = same_Some s.0 e (sym s.1 ∙ ap v.queue r.its ∙ there) in
          let row : Row = step_row core r.copy in
          let block = common e conflict.lv conflict.block conflict.first conflict.second row.ask (sym s.2.lv ∙ ap (λ (x : Queued). x.lv) same) (sym s.2.first ∙ ap (λ (x : Queued). x.first) same) (sym s.2.count ∙ ap (λ (x : Queued). x.count) same) in
          let write : is_write ask ≡ true =
          ⊎_elim
          (λ w. clash_gives e.write w (ap (λ (x : Queued). x.write) (sym same) ∙ s.2.write))
          (λ w. sym sees.write ∙ w)
          conflict.writes in
          let both : conflicts row.ask (held_of ask) ≡ true = λ k. block k && (false || (write k && true)) in
          let less2 : nat_lt r.copy.place i ≡ true = let e3 : r.copy.place ≡ j = r.its in let lt : r.copy.place < i = omega arith in grind (arith, nat_tests) in
          clash_gives (nat_lt row.id i && conflicts row.ask (held_of ask)) (λ k. less2 k && both k) (any_none (λ (x : Row). nat_lt x.id i && conflicts x.ask (held_of ask)) core.queue.rows row unblocked (rows.a_step r.copy r.is_open r.row))

      past_by : (phase_seen o.request.phase (is_begun o.request.targets.items) ≡ WantEntry) ⊎ (phase_seen o.request.phase (is_begun o.request.targets.items) ≡ Ready) → IsTrue (is_past q.phase)
      past_by (inl is) = ap is_past (sees.phase ∙ is)
      past_by (inr is) = ap is_past (sees.phase ∙ is)

      by : Early (is_held_back core o.request) o.request.phase (is_begun o.request.targets.items) → IsTrue (has_landed e.phase)
      by (First is unblocked) = ⊎_elim (λ r. by_request unblocked r (is_waiting r.request) refl) (λ r. by_step unblocked r) (tied.sees.queue.only j e there)
      by (Again is) = tied.good.sound.holds.order i j q e at there less conflict (past_by is)

  -- what is chosen is a copy that the state sees
  aims_seen : (number : ℕ) (t : Target) → slice_get admits.targets number ≡ Some t → IsTrue (v.is_copy (lv_of ask) (at_of ask) t.pp)
  aims_seen number t there = ⊎_elim
      (λ (c : IsOneOf (copies_for core ask) t.pp × IsTaken core ask t.pp). there_is_copy past old tied ask inside t.pp c.0 (⊎_elim
      (λ usable. not_true (is_missing core t.pp.disk) (and_parts (not (Rattle.lvm_session.specs.Judging.is_stale core t.pp)) (not (is_missing core t.pp.disk)) usable).1)
      (λ (caught : (is_write ask ≡ true) × (is_caught core (group_in core ask) t.pp ≡ true)). by core.copy refl tied.sees.open_copy caught.1)
      c.1))
      (λ (d : (is_among (destinations_for core ask) t.pp ≡ true) × (is_write ask ≡ true) × (is_caught core (group_in core ask) t.pp ≡ true)).
      destination_is_copy past old tied ask inside t.pp d.0 (there_first past old tied t.pp.disk (by core.copy refl tied.sees.open_copy d.2)))
      (chosen.each number t there)
    where
      running : (c : OpenCopy) → core.copy ≡ Some c → SeesOpen (groups_of core) c v.open_copy → t.pp ≡ c.pp → is_missing core t.pp.disk ≡ false
      running c is sees_it same =
          let there2 : v.missing sees_it.copy.target.disk ≡ false = tied.good.sound.statuses.open_there sees_it.copy sees_it.is_open in
          ap (λ (p : Pp). is_missing core p.disk) same ∙ sym (missing_seen past old tied c.pp.disk (its_member past old tied c is)) ∙ ap (λ (p : Pp). v.missing p.disk) (sym sees_it.target) ∙ there2

      by : (x : Option OpenCopy) → core.copy ≡ x → SeesCopy (groups_of core) x v.open_copy → option_map_or (λ (c : OpenCopy). is_running c && is_pp t.pp c.pp && nat_lt (group_in core ask) c.cursor) x false ≡ true → is_missing core t.pp.disk ≡ false
      by None is none h = absurd cc
      by (Some c) is sees_it h =
          let outer = and_parts (is_running c && is_pp t.pp c.pp) (nat_lt (group_in core ask) c.cursor) h in
          let inner = and_parts (is_running c) (is_pp t.pp c.pp) outer.0 in
          running c is (subst (λ (b : Bool). SeesRunning b (groups_of core) c v.open_copy) inner.0 sees_it) (pp_same t.pp c.pp inner.1)

  usable : IsFalse q.write → (c : Pp) (x : Stage) → targets2 c ≡ Some x → IsTrue (v.is_copy q.lv q.first c) × IsTrue (Rattle.lvm_invariant.specs.State.is_usable v c)
  usable read c x is =
      let one = stage_of_one admits.targets c x chosen.early is in
      let t = target_of admits.targets c one.0 in
      let there = one_there admits.targets t.0 t.1 in
      let its = chosen.each there.0 t.0 there.1 in
      let copy = aims_seen there.0 t.0 there.1 in (
        (λ k. v.is_copy (sees.lv k) (sees.first k) c) ∙ subst (λ (p : Pp). IsTrue (v.is_copy (lv_of ask) (at_of ask) p)) t.2 copy,
        subst (λ (p : Pp). IsTrue (Rattle.lvm_invariant.specs.State.is_usable v p)) t.2 (⊎_elim
            (λ (one : IsOneOf (copies_for core ask) t.0.pp × IsTaken core ask t.0.pp). ⊎_elim
            (λ u. usable_one past old tied ask inside t.0.pp one.0 ∙ u)
            (λ (caught : (is_write ask ≡ true) × (is_caught core (group_in core ask) t.0.pp ≡ true)). clash_gives (is_write ask) caught.0 (sym sees.write ∙ read))
            one.1)
            (λ (d : (is_among (destinations_for core ask) t.0.pp ≡ true) × (is_write ask ≡ true) × (is_caught core (group_in core ask) t.0.pp ≡ true)). clash_gives (is_write ask) d.1 (sym sees.write ∙ read))
            its),
      )

  is_first : (phase_seen o.request.phase (is_begun o.request.targets.items) ≡ WantEntry) ⊎ (phase_seen o.request.phase (is_begun o.request.targets.items) ≡ Ready) → (q.phase ≡ Held) ⊎ (q.phase ≡ WantEntry) ⊎ (q.phase ≡ Ready) ⊎ (IsFalse q.write × IsTrue (is_past q.phase) × (q.got ≡ None))
  is_first (inl is) = inr (inl (sees.phase ∙ is))
  is_first (inr is) = inr (inr (inl (sees.phase ∙ is)))

  may : Admitting v i q phase2 several targets2
  may = record {
    there = at;
    early = by is_early;
    phase_now = ⊎_elim (λ is. inl is) (λ is. inr (is.0, λ w a s. is.1 (sym sees.write ∙ w) (sym (active_is past old tied ask inside) ∙ ap v.is_active (sym sees.lv) ∙ a) s)) (phase_well (mode_of core ask) (is_write ask) several);
    free = free;
    usable = usable;
  }
    where
      by : Early (is_held_back core o.request) o.request.phase (is_begun o.request.targets.items) → (q.phase ≡ Held) ⊎ (q.phase ≡ WantEntry) ⊎ (q.phase ≡ Ready) ⊎ (IsFalse q.write × IsTrue (is_past q.phase) × (q.got ≡ None))
      by (First is unblocked) = inl (sees.phase ∙ ap (λ (p : Phase). phase_seen p (is_begun o.request.targets.items)) is)
      by (Again is) = is_first is

  sees2 : SeesRequest o2 q2
  sees2 = record {
    lv = sees.lv;
    first = sees.first;
    count = sees.count;
    write = sees.write;
    step = sees.step;
    phase = ap (phase_seen (first_phase (mode_of core ask) (is_write ask) several)) (sym chosen.early);
    several = refl;
    targets = λ c. refl;
    got = λ buf is. absurd (let e : None ≡ Some buf = sym empty ∙ is in cc);
  }

  abbrev core2 : Core
  core2 = record core { requests = slice_set core.requests place o2; last = last_after core.last (lv_of ask) admits.order; cache = record core.cache { entries = (without_pin core.cache o.request).entries } }

  abbrev w : ModelState
  w = record v { queue = put v.queue i q2 }

  whole : new ≡ state old.device (record core2 { status = new.core.status })
  whole = admits.is ∙ ap (λ (c : Cached). state old.device (record core2 { status = new.core.status; cache = c })) (cache_is core.cache o.request)

  carries : (g : Flight) (who : Owner) → CarriesStep core v g who → CarriesStep core2 w g who
  carries g (owner.Data id n) its = tt
  carries g (owner.Status disk) its = tt
  carries g (owner.Note disk) its = tt
  carries g owner.Copy its = λ c p is writing here. its c p is writing (sym (elsewhere c is writing) ∙ here)
    where
      elsewhere : (c : OpenCopy) → core.copy ≡ Some c → c.step ≡ step.Writing → w.queue c.place ≡ v.queue c.place
      elsewhere c is writing = elim (cases_eq c.place i) [
        | inl e ↦ absurd (step_apart past core v place o o2 q2 core.pool core.flying core2.last core.queue core2.cache.entries v.media.block tied.sees numbers admits.there refl sees2 same_entries c is
            (ap (λ (st : Step). is_out st || (is_running c && not (is_whole core c))) writing) e)
        | inr ne ↦ let test : (c.place == i) ≡ false = grind (arith, nat_tests) in ap (λ b. if b then Some q2 else v.queue c.place) test
      ]

  orderly : IsWriteOf new.core.status core.homes new.core.status.in_flight tied.write → IsOrderly (state old.device (record core2 { status = new.core.status })) tied.write
  orderly update = record { sound = subst IsSound whole sound; on = tied.orderly.on; update = update }

  sees_w : Sees past core2 w
  sees_w = sees_changed past core v place o o2 q2 core.pool core.flying core2.last core.queue core2.cache.entries v.media.block tied.sees numbers admits.there refl sees2 same_entries

  good_w : Good tied.votes w
  good_w = each_keeps tied.votes (Admit i q phase2 several targets2) v w (may, refl) tied.good

  describes_w : Describes w w.facts core.descriptor (update_of core.status) (contents_of (image_of old.device.sizes tied.media))
  describes_w = quiet_lasts tied.votes (Admit i q phase2 several targets2) v w core.descriptor (update_of core.status) (contents_of (image_of old.device.sizes tied.media)) (may, refl) tied.good tt tied.describes refl refl refl

  -- nothing is wanted beside
  plain : new.core.status ≡ core.status → IsTied past new
  plain same = subst (IsTied past) (sym whole) (subst (λ (s : Stored). IsOrderly (state old.device (record core2 { status = s })) tied.write → IsTied past (state old.device (record core2 { status = s }))) (sym same) tied_same
      (orderly (subst (λ (s : Stored). IsWriteOf s core.homes s.in_flight tied.write) (sym same) tied.orderly.update)))
    where
      tied_same : IsOrderly (state old.device core2) tied.write → IsTied past (state old.device core2)
      tied_same its = record {
        votes = tied.votes;
        media = tied.media;
        setting = tied.setting;
        view = w;
        sees = sees_w;
        good = good_w;
        describes = describes_w;
        write = tied.write;
        orderly = its;
        since = tied.since;
        recorded = tied.recorded;
        notes = tied.notes;
        copy_aimed = tied.copy_aimed;
        carry = carry_on core core2 v w old.device.flights core.flying carries tied.carry;
      }

  -- its volume is wanted dirty
  module _ (wants : WantsDirty (lv_of ask) core.status new.core.status) where
    abbrev stored : Stored
    stored = new.core.status

    abbrev w2 : ModelState
    w2 = after_wants w (marks_of v.beside stored.wanted) w.missing w.open_copy

    wanted_rest : seen stored ≡ record (seen core.status) { wanted = stored.wanted }
    wanted_rest = dirty_rest (lv_of ask) core.status stored (tied.orderly.sound.on tied.orderly.on).going.status wants

    wanted_is : (c : Pp) → (marks_of v.beside stored.wanted).stale c ≡ v.wanted.stale c
    wanted_is c = ap (λ b. is_beside v.beside c || b) (wants.wants.stale c) ∙ sym (ap (λ (m : Marks). m.stale c) tied.sees.status.wanted)

    still_dirty : (lv : ℕ) → calls_dirty core.status.wanted lv ≡ true → calls_dirty stored.wanted lv ≡ true
    still_dirty lv is = wants.wants.dirty lv ∙ by (lv == lv_of ask)
      where
        by : (b : Bool) → (if b then true else calls_dirty core.status.wanted lv) ≡ true
        by true = refl
        by false = is

    may_want : Wants w (marks_of v.beside stored.wanted) w.missing w.open_copy
    may_want = record {
      missing_still = λ d is. is;
      still = λ c is. wanted_is c ∙ is;
      still_dirty = λ lv is. still_dirty lv (sym (ap (λ (m : Marks). m.dirty lv) tied.sees.status.wanted) ∙ is);
      added = λ c is. inl (sym (wanted_is c) ∙ is);
      open_same = inl refl;
      open_there = tied.good.sound.statuses.open_there;
      behind = λ lv b c e copy fresh gone copy2 usable_e unwanted. wanted_is c ∙ tied.good.sound.behind.left_behind lv b c e copy fresh gone copy2 usable_e (sym (wanted_is e) ∙ unwanted);
    }

    want_step : ModelStep tied.votes (Want (marks_of v.beside stored.wanted) w.missing w.open_copy) w w2
    want_step = (may_want, refl)

    core3 : Core
    core3 = record core2 { status = stored }

    pub marked : IsTied past new
    marked = subst (IsTied past) (sym whole) (record {
      votes = tied.votes;
      media = tied.media;
      setting = tied.setting;
      view = w2;
      sees = sees_wanted core.status stored wanted_rest wants.wants.missing past core2 w refl sees_w;
      good = each_keeps tied.votes (Want (marks_of v.beside stored.wanted) w.missing w.open_copy) w w2 want_step good_w;
      describes = subst (λ (u : Option (Stamped Status)). Describes w2 w2.facts core.descriptor u (contents_of (image_of old.device.sizes tied.media))) (sym (update_same core.status stored wanted_rest wants.wants.missing))
          (quiet_lasts tied.votes (Want (marks_of v.beside stored.wanted) w.missing w.open_copy) w w2 core.descriptor (update_of core.status) (contents_of (image_of old.device.sizes tied.media)) want_step good_w tt describes_w refl refl refl);
      write = tied.write;
      orderly = orderly (write_same core.status stored wanted_rest wants.wants.missing core.homes tied.write tied.orderly.update);
      since = subst (OnlyUpdateSince old.device tied.write) (sym (update_same core.status stored wanted_rest wants.wants.missing)) tied.since;
      recorded = record {
        next = next_same core.status stored wanted_rest wants.wants.missing core.descriptor core.homes (image_of old.device.sizes tied.media) tied.recorded.next;
        members = tied.recorded.members;
        records = records_wanted core.status stored wanted_rest wants.wants.missing core.descriptor (contents_of (image_of old.device.sizes tied.media)) tied.recorded.records;
        committed = one_wanted core.status stored wanted_rest wants.wants.missing tied.recorded.committed;
      };
      notes = λ d items flies. subst (λ st. IsNote (record { stamp = st.epoch; entries = items.items })) (sym (stamp_same core.status stored wanted_rest wants.wants.missing)) (tied.notes d items flies);
      copy_aimed = tied.copy_aimed;
      carry = carry_on core core2 v w old.device.flights core.flying carries tied.carry;
    })

  pub tied_after : IsTied past new
  tied_after = by (makes_dirty core ask admits.targets) admits.dirty
    where
      by : (b : Bool) → WantsDirtyIf b (lv_of ask) core.status new.core.status → IsTied past new
      by false same = plain same
      by true wants = marked wants

-- ---- what is chosen

map_get : {A B : Type 0} (f : A → B) (xs : List A) (k : ℕ) (y : B) → slice_get (map f xs) k ≡ Some y → (x : A) × IsOneOf xs x × (y ≡ f x)
map_get f [] k y there = absurd (cc there)
map_get f (x ∷ xs) zero y there = (x, inl refl, let e : f x ≡ y = cc there in sym e)
map_get f (x ∷ xs) (suc k) y there = let r = map_get f xs k y there in (r.0, inr r.1, r.2)

mapped : {A B : Type 0} (f : A → B) (xs : List A) (y : B) → IsOneOf (map f xs) y → (x : A) × IsOneOf xs x × (y ≡ f x)
mapped f [] y one = absurd one
mapped f (x ∷ xs) y (inl here) = (x, inl refl, here)
mapped f (x ∷ xs) y (inr there) = let r = mapped f xs y there in (r.0, inr r.1, r.2)

none_started : {A : Type 0} (f : A → Target) (xs : List A) → ((x : A) → (f x).state ≡ target.Waiting) → is_begun (map f xs) ≡ false
none_started f [] all = refl
none_started f (x ∷ xs) all = ap (λ (st : TargetState). not (target_waits st) || is_begun (map f xs)) (all x) ∙ none_started f xs all

pub record IsUsableAt (core : Core) (n : ℕ) (ps : List Pp) (m : ℕ) : Type 0 where
  pub way : ℕ
  pub pp : Pp
  pub number : m ≡ n + way
  pub there : slice_get ps way ≡ Some pp
  pub usable : is_usable core pp ≡ true

usable_at : (core : Core) (n : ℕ) (ps : List Pp) (m : ℕ) → IsOneOf (usable_from core n ps) m → IsUsableAt core n ps m
usable_at core n [] m one = absurd one
usable_at core n (p ∷ ps) m one = by (is_usable core p) refl one (usable_at core (n + 1) ps m)
  where
    later : IsUsableAt core (n + 1) ps m → IsUsableAt core n (p ∷ ps) m
    later r = record { way = suc r.way; pp = r.pp; number = let e = r.number in omega (arith, e); there = r.there; usable = r.usable }

    by : (b : Bool) → is_usable core p ≡ b → IsOneOf (if b then n ∷ usable_from core (n + 1) ps else usable_from core (n + 1) ps) m → (IsOneOf (usable_from core (n + 1) ps) m → IsUsableAt core (n + 1) ps m) → IsUsableAt core n (p ∷ ps) m
    by true is (inl here) rest = record { way = 0; pp = p; number = omega (arith, here); there = refl; usable = is }
    by true is (inr there) rest = later (rest there)
    by false is there rest = later (rest there)

-- each of an order is one of what it orders
ordered_one : (how : Policy) (usable : List ℕ) (last : ℕ) (loads order : List ℕ) (m : ℕ) → IsReadOrder how usable last loads order → IsOneOf order m → IsOneOf usable m
ordered_one how usable last loads [] m is one = absurd one
ordered_one how usable last loads (first ∷ more) m is (inl here) = subst (IsOneOf usable) (sym here) (one_at usable is.among.0 first (slice_get-get_or usable is.among.0 first is.among.1 ∙ ap (λ (x : ℕ). Some x) is.among.2))
ordered_one how usable last loads (first ∷ more) m is (inr there) = (filter_one (λ copy. not (copy == first)) usable m (subst (λ (xs : List ℕ). IsOneOf xs m) is.then there)).0

index_at : (ps : List Pp) (k : ℕ) (p d : Pp) → slice_get ps k ≡ Some p → slice_index_or ps k d ≡ p
index_at [] k p d there = absurd (cc there)
index_at (x ∷ ps) zero p d there = let e : x ≡ p = cc there in e
index_at (x ∷ ps) (suc k) p d there = index_at ps k p d there

none_started_both : (ts us : List Target) → is_begun ts ≡ false → is_begun us ≡ false → is_begun (ts ++ us) ≡ false
none_started_both [] us a b = b
none_started_both (t ∷ ts) us a b = let parts = or_left (not (target_waits t.state)) (is_begun ts) a in or_none (not (target_waits t.state)) (is_begun (ts ++ us)) parts.0 (none_started_both ts us parts.1 b)
  where
    or_none : (x y : Bool) → x ≡ false → y ≡ false → x || y ≡ false
    or_none x y p q = λ k. p k || q k

chosen_by : (s : State) (o : Open) (targets : List Target) (order : List ℕ) → Chooses s o.request.ask targets order → AreChosen s.core o targets
chosen_by s o targets order chooses = by (is_write ask) refl chooses
  where
    ask : Ask
    ask = o.request.ask

    copies : List Pp
    copies = copies_for s.core ask

    by : (w : Bool) → is_write ask ≡ w → ChoosesBy w s ask targets order → AreChosen s.core o targets
    by true writes its = record {
      early = ap is_begun its.0 ∙ none_started_both (map (target_at s ask) (aims s.core ask)) (map (destination_target s ask) (destination_aims s.core ask))
          (none_started (target_at s ask) (aims s.core ask) (λ p. refl)) (none_started (destination_target s ask) (destination_aims s.core ask) (λ p. refl));
      each = λ n t there. ⊎_elim
          (λ (one : IsOneOf (map (target_at s ask) (aims s.core ask)) t).
          let m = mapped (target_at s ask) (aims s.core ask) t one in
          let passes = filter_one (λ (p : Pp). is_usable s.core p || is_caught s.core (group_in s.core ask) p) copies m.0 m.1 in
          let pp : t.pp ≡ m.0 = ap (λ (x : Target). x.pp) m.2 in
          inl (
            subst (IsOneOf copies) (sym pp) passes.0,
            ⊎_elim (λ u. inl (ap (is_usable s.core) pp ∙ u)) (λ c. inr (writes, ap (is_caught s.core (group_in s.core ask)) pp ∙ c)) (or_either (is_usable s.core m.0) (is_caught s.core (group_in s.core ask) m.0) passes.1),
          ))
          (λ (one : IsOneOf (map (destination_target s ask) (destination_aims s.core ask)) t).
          let m = mapped (destination_target s ask) (destination_aims s.core ask) t one in
          let passes = filter_one (is_caught s.core (group_in s.core ask)) (destinations_for s.core ask) m.0 m.1 in
          let pp : t.pp ≡ m.0 = ap (λ (x : Target). x.pp) m.2 in
          inr (
            ap (is_among (destinations_for s.core ask)) pp ∙ one_any (is_pp m.0) (destinations_for s.core ask) m.0 passes.0 (same_pp m.0 m.0 refl),
            writes,
            ap (is_caught s.core (group_in s.core ask)) pp ∙ passes.1,
          ))
          (one_of_either (map (target_at s ask) (aims s.core ask)) (map (destination_target s ask) (destination_aims s.core ask)) t
          (subst (λ (ts : List Target). IsOneOf ts t) its.0 (one_at targets n t there)));
    }
    by false reads its = record {
      early = ap is_begun its.targets_are ∙ none_started (λ (n : ℕ). target_at s ask (copy_of copies n)) order (λ n. refl);
      each = λ n t there.
          let m = map_get (λ (k : ℕ). target_at s ask (copy_of copies k)) order n t (ap (λ (ts : List Target). slice_get ts n) (sym its.targets_are) ∙ there) in
          let one = ordered_one (policy_of s.core ask) (usable_from s.core 1 copies) (slice_index_or s.core.last (lv_of ask) 0) (loads_of s.core copies) order m.0 its.order_is m.1 in
          let at = usable_at s.core 1 copies m.0 one in
          let back : m.0 - 1 ≡ at.way = let e = at.number in omega (arith, e) in
          let pp : t.pp ≡ at.pp = ap (λ (x : Target). x.pp) m.2 ∙ ap (λ (k : ℕ). slice_index_or copies k (record { disk = 0; pp = 0 })) back ∙ index_at copies at.way at.pp (record { disk = 0; pp = 0 }) at.there in
          inl (subst (IsOneOf copies) (sym pp) (one_at copies at.way at.pp at.there), inl (ap (is_usable s.core) pp ∙ at.usable));
    }

pub admit_ties : AdmitTies
admit_ties place past old new tied sound admits = tied_after past old new place admits tied sound (rows_are old tied.write tied.orderly) waits empty (chosen_by old o admits.targets admits.order admits.chosen)
  where
    o : Open
    o = admits.request

    k : Facts
    k = facts_of old.core o.request

    waits : is_waiting o ≡ true
    waits = by (is_waiting o) refl
      where
        by : (b : Bool) → is_waiting o ≡ b → is_waiting o ≡ true
        by true is = is
        by false is = absurd (let at = ((open_one old tied.write tied.orderly place o admits.there).over is).phase_is in let e : next.Wait ≡ next.Admit = sym (ap (λ (p : Phase). next_in p k o.request) at) ∙ admits.admits in cc)

    none : (m : Option Buffer) → is_some m ≡ false → m ≡ None
    none None h = refl
    none (Some b) h = absurd (cc h)

    undone : (ts : List Target) → is_begun ts ≡ false → list_any (λ (t : Target). is_done t.state) ts ≡ false
    undone ts early = by (list_any (λ (t : Target). is_done t.state) ts) refl
      where
        by : (b : Bool) → list_any (λ (t : Target). is_done t.state) ts ≡ b → b ≡ false
        by true done = absurd (let e : true ≡ false = sym (done_begun ts done) ∙ early in cc)
        by false done = refl

    and_false : (a b : Bool) → b ≡ false → (a && b) ≡ false
    and_false true b h = h
    and_false false b h = refl

    its : IsRequest old.core o
    its = waiting_one old tied.write tied.orderly place o admits.there waits

    early_by : (p : Phase) → IsPhase p o → Early (is_held_back old.core o.request) p (is_begun o.request.targets.items) → is_begun o.request.targets.items ≡ false
    early_by phase.Held said how = ap is_begun said.0
    early_by phase.WantEntry said how = said.0
    early_by phase.WantRecord said how = said.0
    early_by phase.Data said (First is free) = absurd (cc is)
    early_by phase.Data said (Again (inl is)) = of (is_begun o.request.targets.items) is
      where
        of : (b : Bool) → (if b then Going else Ready) ≡ WantEntry → b ≡ false
        of true h = absurd (cc h)
        of false h = refl
    early_by phase.Data said (Again (inr is)) = of (is_begun o.request.targets.items) is
      where
        of : (b : Bool) → (if b then Going else Ready) ≡ Ready → b ≡ false
        of true h = absurd (cc h)
        of false h = refl
    early_by phase.WantStatus said (First is free) = absurd (cc is)
    early_by phase.WantStatus said (Again (inl is)) = absurd (cc is)
    early_by phase.WantStatus said (Again (inr is)) = absurd (cc is)
    early_by phase.Landed said how = absurd said

    early_is : is_begun o.request.targets.items ≡ false
    early_is = early_by o.request.phase its.shape.phase_is (early k o.request o.request.phase admits.admits)

    empty : o.got ≡ None
    empty = none o.got (its.shape.hand ∙ and_false (not (is_write o.request.ask)) (list_any (λ (t : Target). is_done t.state) o.request.targets.items) (undone o.request.targets.items early_is))
