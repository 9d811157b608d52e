-- The transfer of a target is started.
use Rattle.std.proofs.Common.{◌≡◌, ◌⊎◌, inl, inr, ◌==◌, ◌≤◌, ◌<◌, ℕ, Bool, true, false, ◌&&◌, ◌||◌, not, if◌then◌else◌, List, [], ◌∷◌, ◌++◌, Option, Some, length, slice_get, slice_set, refl, sym, ◌∙◌, ap, subst, arith}
use Rattle.std.specs.Prelude.{AllPairs, count_by, slice_index_or}
use Rattle.std.specs.List.{list_any, AllByRecursion}
use Rattle.std.specs.Option.{option_map_or}
use Rattle.std.proofs.lemmas.Option.{slice_get_within}
use Rattle.std.proofs.lemmas.Bool.{eq-eqb, eqb-true, eqb-false, ne_eqb}
use Rattle.lvm_num.specs.declared.place.Pp.{Pp}
use Rattle.lvm_num.specs.declared.descriptor.Mode.{Mode}
use Rattle.lvm_num.specs.declared.descriptor.Mode.TheVariants as mode
use Rattle.lvm_num.specs.Descriptor.{is_pp}
use Rattle.lvm_num.proofs.Booleans.{and_false, not_so}
use Rattle.lvm_num.proofs.Lists.{all_weaker, all_at, length_set, set_beside}
use Rattle.lvm_disk.specs.Device.{Device, Flight, Range}
use Rattle.lvm_disk.specs.Steps.{IsNewTicket, Starts}
use Rattle.lvm_vol.specs.Log.{is_open}
use Rattle.lvm_mwc.specs.Cache.{is_named}
use Rattle.lvm_sched.specs.declared.writes.TargetState.{TargetState}
use Rattle.lvm_sched.specs.declared.writes.TargetState.TheVariants as stage
use Rattle.lvm_sched.specs.Writes.{is_flying, is_waiting as is_unstarted}
use Rattle.lvm_path.specs.declared.request.Phase.{Phase}
use Rattle.lvm_path.specs.declared.request.Phase.TheVariants as phase
use Rattle.lvm_path.specs.declared.request.Request.{Request}
use Rattle.lvm_path.specs.declared.target.Target.{Target}
use Rattle.lvm_path.specs.Asks.{is_write, lv_of}
use Rattle.lvm_path.specs.Targets.{are_over, is_begun, is_done, is_failed, is_over as is_ended}
use Rattle.lvm_session.specs.declared.bringing.OpenCopy.{OpenCopy}
use Rattle.lvm_session.specs.declared.flown.Flown.{Flown}
use Rattle.lvm_session.specs.declared.flown.Owner.TheVariants as owner
use Rattle.lvm_session.specs.declared.open.Open.{Open}
use Rattle.lvm_session.specs.declared.open.Power.TheVariants as power
use Rattle.lvm_session.specs.State.{Core, State, state}
use Rattle.lvm_session.specs.Judging.{copies_for, facts_of, group_in, group_of, has_dirty_mark, has_names, is_caught, is_missing, is_waiting, is_wanted_stale, mode_of, pps_of, destination_aims}
use Rattle.lvm_session.specs.Bringing.{has_row, step_row}
use Rattle.lvm_session.specs.Enabled.{target_due}
use Rattle.lvm_session.specs.Events.{IsDataTransfer, begun_as, flown}
use Rattle.lvm_session.specs.Marks.{is_among}
use Rattle.lvm_session.specs.Left.{clean_volumes, marks_later}
use Rattle.lvm_keeps.proofs.LeftLemmas.Updates.{open_set}
use Rattle.lvm_session.specs.Owners.{AreOwned, IsDataOf, flies, same_owner, target_flies}
use Rattle.lvm_session.specs.Requests.{IsAimed, IsJudged, IsOpenOne, IsPhase, IsPinned, MayBeServed, IsRecorded, IsRequest, IsShaped, IsTarget, has_record, is_left_out, is_past_held, may_lack, mode_for}
use Rattle.lvm_session.specs.Causes.{own_faults, AreCaused, AreCounted, IsAnswered, IsCaused, IsChosenSince, IsCounted, IsLandedFor, fails_on, faults_at_opening, is_held_stale}
use Rattle.lvm_session.specs.Sound.{IsAsked, IsCopy, IsGoing, IsOn, IsSound, IsTold, count_if, has_number, is_dark, is_hand, out_with, pins, with_row}
use Rattle.lvm_keeps.specs.Keeps.{DataStartKeeps}
use Rattle.lvm_keeps.proofs.CausesLemmas.{answered_still, copies_still, counted_still, origin_still}
use Rattle.lvm_keeps.proofs.OwnersLemmas.Launching.{flights_push, none_more, owners_push, rows_push, taken, tickets_push}
use Rattle.lvm_keeps.proofs.Lists.{all_set, any_set, count_same, count_set, set_here}
use Rattle.lvm_keeps.proofs.OwnersLemmas.Rows.{all_fly, rows_on}
use Rattle.lvm_keeps.proofs.KeepsLemmas.Starting.{first_start_is_whole, goes_along}
use Rattle.lvm_keeps.proofs.RequestsLemmas.{bring_on, if_on, no_cause, open_on, target_still}
use Rattle.lvm_keeps.proofs.DarkLemmas.Tables.{apart, ascending_set, rows_set}
use Rattle.lvm_keeps.proofs.SoundLemmas.Whole.{sound_when_on}
use Rattle.lvm_keeps_events.proofs.TargetsLemmas.{all_true_set, any_here, at_state, count_none, neither, not_all_set, only_at, pp_at, pps_set, set_state}
use Rattle.lvm_keeps_events.proofs.WritesLemmas.{StartsAt, starts_at}
use Rattle.lvm_keeps_events.proofs.SoundLemmas.Frame.{after, fitting_on, launched}

pub unstarted : (state : TargetState) → is_unstarted state ≡ true → state ≡ stage.Waiting
unstarted stage.Waiting e = refl
unstarted stage.Flying e = not_so e
unstarted stage.Done e = not_so e
unstarted stage.Failed e = not_so e

-- the record that it has stays the one of its volume's mode
pinned_on : (p : Phase) (r s : Request) → (p ≡ phase.WantRecord) ⊎ (p ≡ phase.Data) → s.pinned ≡ r.pinned → length s.targets.items ≡ length r.targets.items → IsPinned p r → IsPinned phase.Data s
pinned_on p r s (inl is) pinned long its = inl (pinned ∙ subst (λ q. IsPinned q r) is its)
pinned_on p r s (inr is) pinned long its = by (subst (λ q. IsPinned q r) is its)
  where
    by : (r.pinned ≡ true) ⊎ (length r.targets.items ≤ 1) → (s.pinned ≡ true) ⊎ (length s.targets.items ≤ 1)
    by (inl e) = inl (pinned ∙ e)
    by (inr few) = inr (omega (arith, few, long))

recorded_on : (m : Mode) (p : Phase) (r s : Request) → (p ≡ phase.WantRecord) ⊎ (p ≡ phase.Data) → s.pinned ≡ r.pinned → length s.targets.items ≡ length r.targets.items → IsRecorded m p r → IsRecorded m phase.Data s
recorded_on mode.Active p r s may pinned long its = pinned_on p r s may pinned long its
recorded_on mode.Passive p r s may pinned long its = (pinned ∙ its.0, refl)
recorded_on mode.Off p r s may pinned long its = (pinned ∙ its.0, refl, refl)

module _ (s : State) (sound : IsSound s) (on : s.core.power ≡ power.On) (place target : ℕ) (o : Open) (there : slice_get s.core.requests place ≡ Some o) (due : target_due s.core o ≡ Some target)
    (aim : Target) (aim_is : slice_get o.request.targets.items target ≡ Some aim) (f : Flight) (moves : IsDataTransfer s.core o.request aim f) (long : length f.buf.sectors ≡ 256)
    (free : slice_get s.core.pool f.buf.number ≡ Some false) (fresh : IsNewTicket f.ticket s.device.flights) (starts : ℕ → ℕ) (wrote : Option (List Range)) where
  abbrev core : Core
  core = s.core

  abbrev targets : List Target
  targets = o.request.targets.items

  abbrev flying : Target
  flying = at_state aim stage.Flying

  abbrev begun : Open
  begun = record o { request = record o.request { phase = phase.Data; targets = record { items = slice_set targets target flying } } }

  abbrev row : Flown
  row = flown f.ticket f.disk (owner.Data o.request.id target)

  abbrev requests : List Open
  requests = slice_set core.requests place begun

  abbrev pool : List Bool
  pool = slice_set core.pool f.buf.number true

  abbrev device : Device
  device = launched s.device f starts wrote

  abbrev now : State
  now = after s f starts wrote requests core.copy pool (core.flying ++ row ∷ [])

  going : IsGoing core
  going = (sound.on on).going

  its : IsOpenOne core o
  its = all_at (IsOpenOne core) core.requests place o going.requests there

  -- ---- what it starts

  start : StartsAt o.request.phase (facts_of core o.request) o.request target
  start = starts_at o.request.phase (facts_of core o.request) o.request target due

  at_rest : aim.state ≡ stage.Waiting
  at_rest = unstarted aim.state (start.waits aim aim_is)

  waits : is_waiting o ≡ true
  waits = by (is_waiting o) refl
    where
      landed : o.request.phase ≡ phase.Landed → (o.request.phase ≡ phase.WantRecord) ⊎ (o.request.phase ≡ phase.Data) → false ≡ true
      landed e (inl is) = absurd (let no : phase.Landed ≡ phase.WantRecord = sym e ∙ is in cc)
      landed e (inr is) = absurd (let no : phase.Landed ≡ phase.Data = sym e ∙ is in cc)

      by : (b : Bool) → is_waiting o ≡ b → b ≡ true
      by true is = refl
      by false is = landed (its.over is).phase_is start.may

  request : IsRequest core o
  request = its.waits waits

  past : is_past_held o.request.phase ≡ true
  past = by start.may
    where
      by : (o.request.phase ≡ phase.WantRecord) ⊎ (o.request.phase ≡ phase.Data) → is_past_held o.request.phase ≡ true
      by (inl is) = ap is_past_held is
      by (inr is) = ap is_past_held is

  same_long : length (slice_set targets target flying) ≡ length targets
  same_long = length_set targets target flying

  -- none of its transfers has more than started
  not_over : are_over (slice_set targets target flying) ≡ false
  not_over = not_all_set (λ (t : Target). is_ended t.state) targets target aim flying aim_is refl

  was_not_over : is_write o.request.ask ≡ true → is_begun targets && are_over targets ≡ false
  was_not_over write = by start.may
    where
      by : (o.request.phase ≡ phase.WantRecord) ⊎ (o.request.phase ≡ phase.Data) → is_begun targets && are_over targets ≡ false
      by (inl is) = ap (λ b. b && are_over targets) (subst (λ p. IsPhase p o) is request.shape.phase_is).0
      by (inr is) = ap (λ b. is_begun targets && b) ((subst (λ p. IsPhase p o) is request.shape.phase_is).1 write) ∙ and_false (is_begun targets)

  -- a read tries one copy after the other
  read_alone : is_write o.request.ask ≡ false → count_by (λ (t : Target). is_flying t.state || is_done t.state) targets ≡ 0
  read_alone read = by start.may
    where
      by : (o.request.phase ≡ phase.WantRecord) ⊎ (o.request.phase ≡ phase.Data) → count_by (λ (t : Target). is_flying t.state || is_done t.state) targets ≡ 0
      by (inl is) = absurd (let no : true ≡ false = sym (subst (λ p. IsPhase p o) is request.shape.phase_is).1 ∙ read in cc)
      by (inr is) = let alone = start.alone is read in count_none (λ (t : Target). is_flying t.state || is_done t.state) targets (neither (λ (t : Target). is_flying t.state) (λ (t : Target). is_done t.state) targets alone.0 alone.1)

  -- ---- its records

  written : o.request.phase ≡ phase.WantRecord → mode_for core o.request.ask ≡ mode_of core o.request.ask
  written is = ap (λ b. if b then mode_of core o.request.ask else mode.Off) (subst (λ p. IsPhase p o) is request.shape.phase_is).1

  named : 2 ≤ length targets → has_names core (mode_for core o.request.ask) o.request ≡ true
  named two = by start.may
    where
      by : (o.request.phase ≡ phase.WantRecord) ⊎ (o.request.phase ≡ phase.Data) → has_names core (mode_for core o.request.ask) o.request ≡ true
      by (inl is) = ap (λ (m : Mode). has_names core m o.request) (written is) ∙ (start.recorded is).0
      by (inr is) = request.ready.named (ap has_record is) two

  marked : 2 ≤ length targets → has_dirty_mark core (mode_for core o.request.ask) o.request ≡ true
  marked two = by start.may
    where
      by : (o.request.phase ≡ phase.WantRecord) ⊎ (o.request.phase ≡ phase.Data) → has_dirty_mark core (mode_for core o.request.ask) o.request ≡ true
      by (inl is) = ap (λ (m : Mode). has_dirty_mark core m o.request) (written is) ∙ (start.recorded is).1
      by (inr is) = request.ready.dirty (ap has_record is) two

  names_on : (m : Mode) → has_names core m o.request ≡ true → has_names now.core m begun.request ≡ true
  names_on mode.Active names = all_true_set (λ (t : Target). is_named core.cache t.pp.disk (lv_of o.request.ask) (group_of o.request.ask)) targets target aim flying aim_is refl ∙ names
  names_on mode.Passive names = refl
  names_on mode.Off names = refl

  marks_on : (m : Mode) → has_dirty_mark core m o.request ≡ true → has_dirty_mark now.core m begun.request ≡ true
  marks_on mode.Active mark = refl
  marks_on mode.Passive mark = mark
  marks_on mode.Off mark = refl

  ready : MayBeServed now.core begun.request
  ready = let b = request.ready in record {
    free = λ e. b.free past;
    recorded = recorded_on (mode_for core o.request.ask) o.request.phase o.request begun.request start.may refl same_long b.recorded;
    wanted = λ e two. b.wanted past (two_before two);
    named = λ has two. names_on (mode_for core o.request.ask) (named (two_before two));
    dirty = λ has two. marks_on (mode_for core o.request.ask) (marked (two_before two));
  }
    where
      two_before : 2 ≤ length (slice_set targets target flying) → 2 ≤ length targets
      two_before two = subst (λ n. 2 ≤ n) same_long two

  -- ---- its shape

  shape : IsShaped now.core begun
  shape = let a = request.shape in record {
    targets = all_set (IsTarget core o.request.ask) (IsTarget now.core o.request.ask) target_on targets target flying (target_on flying (moved (all_at (IsTarget core o.request.ask) targets target aim a.targets aim_is))) a.targets;
    phase_is = (let low = slice_get_within targets target aim aim_is in omega (arith, low, same_long), λ write. not_over);
    hand = a.hand ∙ ap (λ b. not (is_write o.request.ask) && b) (sym (any_set (λ (t : Target). is_done t.state) targets target aim flying aim_is (sym (ap is_done at_rest))));
    room = a.room;
    differ = λ i j d less high. a_differ i j d less high;
    usable = λ e. any_set (λ (t : Target). t.usable) targets target aim flying aim_is refl ∙ a.usable past;
    one = λ read.
        let all = count_set (λ (t : Target). is_flying t.state || is_done t.state) targets target aim flying aim_is in
        let none = read_alone read in
        omega (arith, all, none);
  }
    where
      target_on : (t : Target) → IsTarget core o.request.ask t → IsTarget now.core o.request.ask t
      target_on t i = target_still core now.core refl (λ ask. refl) o.request.ask t i

      moved : IsTarget core o.request.ask aim → IsTarget core o.request.ask flying
      moved i = record { copy = aimed aim.moves i.copy; sector = i.sector; there = i.there }
        where
          aimed : (b : Bool) → IsAimed b core o.request.ask aim → IsAimed b core o.request.ask flying
          aimed false a = a
          aimed true a = a

      a_differ : AllPairs (λ (a b : Target). a.pp ≡ b.pp → ⊥) (slice_set targets target flying)
      a_differ i j d less high e = request.shape.differ i j d less (subst (λ n. j < n) same_long high) (sym (pp_at targets target aim stage.Flying aim_is i d) ∙ e ∙ pp_at targets target aim stage.Flying aim_is j d)

  -- ---- where it goes

  judged : is_write o.request.ask ≡ true → IsJudged now.core begun
  judged write = let j = request.judged write in record {
    uncaught = all_set Uncaught Uncaught (λ t is. is) targets target flying (sym (ap (λ st. (is_failed st || o.older) && is_caught core (group_in core o.request.ask) aim.pp) at_rest) ∙ all_at Uncaught targets target aim j.uncaught aim_is) j.uncaught;
    due = λ status. not_so status;
    missed = λ status. not_so status;
    all = λ goes p among. ap (λ ps. is_among ps p || is_left_out core o.request.ask p) (pps_set targets target aim stage.Flying aim_is) ∙ whole p among (is_begun targets) refl;
    place = λ goes p among. ap (λ ps. is_among ps p) (pps_set targets target aim stage.Flying aim_is) ∙ along p among (is_begun targets) refl;
  }
    where
      Uncaught : Target → Type 0
      Uncaught t = may_lack o t && is_caught core (group_in core o.request.ask) t.pp ≡ false

      whole : (p : Pp) → is_among (copies_for core o.request.ask) p ≡ true → (b : Bool) → is_begun targets ≡ b → is_among (pps_of targets) p || is_left_out core o.request.ask p ≡ true
      whole p among true is = (request.judged write).all is p among
      whole p among false is = first_start_is_whole s place target o sound on there due write is p among

      along : (p : Pp) → is_among (destination_aims core o.request.ask) p ≡ true → (b : Bool) → is_begun targets ≡ b → is_among (pps_of targets) p ≡ true
      along p among true is = (request.judged write).place is p among
      along p among false is = goes_along s place target o sound on there due write is p among

  one : IsOpenOne now.core begun
  one = record {
    laid = let l = its.laid in record { within = l.within; blocks = l.blocks; most = let most = l.most in omega (arith, most, same_long); id = l.id };
    waits = λ e. record { shape = shape; ready = ready; judged = judged };
    over = λ e. absurd (not_so (sym e ∙ waits));
    still = λ e. absurd (not_so (sym e ∙ waits));
  }

  still : (x : Open) → IsOpenOne core x → IsOpenOne now.core x
  still x it = open_on core core.history requests core.queue core.copy pool (core.flying ++ row ∷ []) core.cache.entries core.last x (λ e. e) (λ p e. e) (λ ask. refl) it

  -- ---- the table

  told : IsTold now.core
  told = let t = sound.told in record {
    ordered = t.ordered;
    table = record {
      ascending = ascending_set o begun refl core.requests place there t.table.ascending;
      still = all_set Still Still (λ x is. is) core.requests place begun (all_at Still core.requests place o t.table.still there) t.table.still;
    };
    each = λ id. t.each id ∙ sym (any_set (λ (x : Open). is_waiting x && x.request.id == id) core.requests place o begun there refl);
    requests = all_set (IsAsked core.history.facts) (IsAsked core.history.facts) (λ x is. is) core.requests place begun asked t.requests;
  }
    where
      Still : Open → Type 0
      Still x = is_waiting x ≡ true → is_open core.history.facts x.request.id ≡ true

      asked : IsAsked core.history.facts begun
      asked = let a = all_at (IsAsked core.history.facts) core.requests place o sound.told.requests there in
          record { request = a.request; told = a.told; client = a.client; vol = a.vol; at = a.at; count = a.count; write = a.write; length = a.length; place = a.place; outcome = a.outcome; answered = a.answered }

  -- ---- whose it is

  rested : target_flies target o ≡ false
  rested = ap (λ m. option_map_or (λ (t : Target). is_flying t.state) m false) aim_is ∙ ap is_flying at_rest

  none_out : flies core (owner.Data o.request.id target) ≡ false
  none_out = only_at (λ (x : Open). x.request.id == o.request.id && target_flies target x) core.requests place o there (apart core.requests place o there sound.told.table.ascending)
      (λ x other. ap (λ b. b && target_flies target x) (ne_eqb x.request.id o.request.id other)) ∙ ap (λ b. o.request.id == o.request.id && b) rested ∙ and_false (o.request.id == o.request.id)

  is_out : flies now.core (owner.Data o.request.id target) ≡ true
  is_out = any_here (λ (x : Open). x.request.id == o.request.id && target_flies target x) core.requests place o begun there
      (ap (λ b. b && target_flies target begun) (eq-eqb o.request.id o.request.id refl) ∙ ap (λ m. option_map_or (λ (t : Target). is_flying t.state) m false) (set_here targets target aim flying aim_is))

  others_fly : (id t : ℕ) → (id == o.request.id && t == target) ≡ false → flies now.core (owner.Data id t) ≡ flies core (owner.Data id t)
  others_fly id t other = any_set (λ (x : Open). x.request.id == id && target_flies t x) core.requests place o begun there (by (o.request.id == id) (t == target) refl refl)
    where
      by : (a b : Bool) → (o.request.id == id) ≡ a → (t == target) ≡ b → (o.request.id == id && target_flies t begun) ≡ (o.request.id == id && target_flies t o)
      by false b is at = ap (λ c. c && target_flies t begun) is ∙ sym (ap (λ c. c && target_flies t o) is)
      by true false is at = ap (λ m. o.request.id == id && option_map_or (λ (u : Target). is_flying u.state) m false) (set_beside targets target t flying (eqb-false t target at))
      by true true is at = absurd (let no : true ≡ false = sym (ap (λ b. b && t == target) (eq-eqb id o.request.id (sym (eqb-true o.request.id id is))) ∙ at) ∙ other in cc)

  owned : AreOwned now.core
  owned (owner.Data id t) = by (id == o.request.id && t == target) refl
    where
      by : (b : Bool) → (id == o.request.id && t == target) ≡ b → count_by (λ (g : Flown). same_owner (owner.Data id t) g.owner) now.core.flying ≡ count_if (flies now.core (owner.Data id t))
      by false other = none_more (owner.Data id t) row core.flying other ∙ going.owned (owner.Data id t) ∙ ap count_if (sym (others_fly id t other))
      by true same =
          let more = owners_push (owner.Data id t) row core.flying in
          let mine : count_if (id == o.request.id && t == target) ≡ 1 = ap count_if same in
          let was : count_by (λ (g : Flown). same_owner (owner.Data id t) g.owner) core.flying ≡ 0 = going.owned (owner.Data id t) ∙ ap (λ i. count_if (flies core (owner.Data i t))) (own same).0 ∙ ap (λ n. count_if (flies core (owner.Data o.request.id n))) (own same).1 ∙ ap count_if none_out in
          let is : count_if (flies now.core (owner.Data id t)) ≡ 1 = ap (λ i. count_if (flies now.core (owner.Data i t))) (own same).0 ∙ ap (λ n. count_if (flies now.core (owner.Data o.request.id n))) (own same).1 ∙ ap count_if is_out in
          omega (arith, more, mine, was, is)
        where
          own : (id == o.request.id && t == target) ≡ true → (id ≡ o.request.id) × (t ≡ target)
          own e = by_id (id == o.request.id) refl e
            where
              by_id : (b : Bool) → (id == o.request.id) ≡ b → b && t == target ≡ true → (id ≡ o.request.id) × (t ≡ target)
              by_id true is at = (eqb-true id o.request.id is, eqb-true t target at)
              by_id false is at = not_so at
  owned (owner.Status disk) = none_more (owner.Status disk) row core.flying refl ∙ going.owned (owner.Status disk)
  owned (owner.Note disk) = none_more (owner.Note disk) row core.flying refl ∙ going.owned (owner.Note disk)
  owned owner.Copy = none_more owner.Copy row core.flying refl ∙ going.owned owner.Copy

  data_on : (id t : ℕ) (g : Flight) → flies core (owner.Data id t) ≡ true → IsDataOf core id t g → IsDataOf now.core id t g
  data_on id t g fly of = by (of.place == place) (t == target) refl refl
    where
      beside : (of.place == place) ≡ false → IsDataOf now.core id t g
      beside is = record { place = of.place; request = of.request; there = set_beside core.requests place of.place begun (eqb-false of.place place is) ∙ of.there; own = of.own; aim = of.aim; aim_is = of.aim_is; moves = let m = of.moves in record { disk_is = m.disk_is; first = m.first; count = m.count; write = m.write; carries = m.carries } }

      same : (of.place == place) ≡ true → o ≡ of.request
      same is = cc (sym there ∙ ap (slice_get core.requests) (sym (eqb-true of.place place is)) ∙ of.there)

      by : (a b : Bool) → (of.place == place) ≡ a → (t == target) ≡ b → IsDataOf now.core id t g
      by false b is at = beside is
      by true true is at =
          let named_so : o.request.id ≡ id = ap (λ (x : Open). x.request.id) (same is) ∙ of.own in
          not_so (sym none_out ∙ ap (λ i. flies core (owner.Data i target)) named_so ∙ ap (λ n. flies core (owner.Data id n)) (sym (eqb-true t target at)) ∙ fly)
      by true false is at = record {
        place = place;
        request = begun;
        there = set_here core.requests place o begun there;
        own = ap (λ (x : Open). x.request.id) (same is) ∙ of.own;
        aim = of.aim;
        aim_is = set_beside targets target t flying (eqb-false t target at) ∙ ap (λ (x : Open). slice_get x.request.targets.items t) (same is) ∙ of.aim_is;
        moves = let m = subst (λ (x : Open). IsDataTransfer core x.request of.aim g) (sym (same is)) of.moves in record { disk_is = m.disk_is; first = m.first; count = m.count; write = m.write; carries = m.carries };
      }

  -- ---- all of it, while it is on

  bring : (c : OpenCopy) → IsCopy core c → IsCopy now.core c
  bring c it = bring_on core core.history requests core.queue core.copy pool (core.flying ++ row ∷ []) core.cache.entries core.last c (omega arith) (λ e. e) it

  hands : (n : ℕ) → count_by (λ (x : Open). is_hand n x.got) requests ≡ count_by (λ (x : Open). is_hand n x.got) core.requests
  hands n = count_same (λ (x : Open). is_hand n x.got) core.requests place o begun there refl

  marks_same : marks_later begun ≡ marks_later o
  marks_same = by (is_write o.request.ask) refl
    where
      by : (b : Bool) → is_write o.request.ask ≡ b → (is_waiting o && is_write o.request.ask && not (is_begun (slice_set targets target flying) && are_over (slice_set targets target flying))) ≡ (is_waiting o && is_write o.request.ask && not (is_begun targets && are_over targets))
      by true write = ap (λ b. is_waiting o && is_write o.request.ask && not b) (ap (λ b. is_begun (slice_set targets target flying) && b) not_over ∙ and_false (is_begun (slice_set targets target flying)) ∙ sym (was_not_over write))
      by false read = drop_both (is_waiting o) (is_write o.request.ask) _ _ read
        where
          drop_both : (w a x y : Bool) → a ≡ false → (w && a && x) ≡ (w && a && y)
          drop_both true false x y e = refl
          drop_both false a x y e = refl
          drop_both true true x y e = absurd cc

  keeps_going : IsGoing now.core
  keeps_going = record {
    fitting = fitting_on s f starts wrote requests core.copy pool (core.flying ++ row ∷ []) (length_set core.requests place begun) (length_set core.pool f.buf.number true) sound.fitting;
    told = told;
    status = going.status;
    owned = owned;
    tickets = tickets_push core row core.flying s.device.flights (sound.on on).rows fresh going.tickets;
    queue = going.queue ∙ ap (λ rows. option_map_or (λ (c : OpenCopy). if has_row core c then with_row (step_row core c) rows else rows) core.copy rows) (sym (rows_set core.requests place o begun there refl));
    pinned = λ lv group. going.pinned lv group ∙ sym (count_same (pins lv group) core.requests place o begun there refl);
    requests = all_set (IsOpenOne core) (IsOpenOne now.core) still core.requests place begun one going.requests;
    copy = if_on (IsCopy core) (IsCopy now.core) bring core.copy going.copy;
    hands = λ n. let same = hands n in let was = going.hands n in let more = taken core.pool f.buf.number n free in omega (arith, same, was, more);
    behind = going.behind;
    reviewed = going.reviewed;
    fresh = going.fresh;
    clearings = going.clearings;
    numbers = let same = count_same marks_later core.requests place o begun there marks_same in let still_open = open_set core.requests place begun (clean_volumes core) in let was = going.numbers in omega (arith, same, still_open, was);
  }

  -- ---- causes

  blamed : (p : Pp) → list_any (fails_on p) requests ≡ list_any (fails_on p) core.requests
  blamed p = any_set (fails_on p) core.requests place o begun there
      (ap (λ b. is_waiting o && is_write o.request.ask && b) (any_set (λ (t : Target). is_failed t.state && is_pp p t.pp) targets target aim flying aim_is (sym (ap (λ st. is_failed st && is_pp p aim.pp) at_rest))))

  target_caused : (t : Target) → IsCaused s.device core t → IsCaused device now.core t
  target_caused t why e = why (sym (ap (λ b. is_failed t.state || (t.usable && (is_missing core t.pp.disk || is_wanted_stale core t.pp || is_held_stale core t.pp || b))) (blamed t.pp)) ∙ e)

  caused : (x : Open) → AreCaused s.device core x → AreCaused device now.core x
  caused x all waiting = all_weaker (IsCaused s.device core) (IsCaused device now.core) target_caused x.request.targets.items (all waiting)

  its_caused : AreCaused s.device core o → AreCaused device now.core begun
  its_caused all waiting = all_set (IsCaused s.device core) (IsCaused device now.core) target_caused targets target flying (target_caused flying moved) (all waiting)
    where
      moved : IsCaused s.device core flying
      moved e = all_at (IsCaused s.device core) targets target aim (all waiting) aim_is
          (ap (λ st. is_failed st || (aim.usable && (is_missing core aim.pp.disk || is_wanted_stale core aim.pp || is_held_stale core aim.pp || list_any (fails_on aim.pp) core.requests))) at_rest ∙ e)

  its_chosen : (c : OpenCopy) → IsChosenSince core c o → IsChosenSince now.core c begun
  its_chosen c all waiting older number p at =
      let each = all waiting older number p at in
      all_set Since Since (λ t is. is) targets target flying (all_at Since targets target aim each aim_is) each
    where
      Since : Target → Type 0
      Since t = (t.pp ≡ p → faults_at_opening c number ≤ t.faults) × (t.pp ≡ c.pp → own_faults c ≤ t.faults)

  chosen : (c : OpenCopy) → AllByRecursion (IsChosenSince core c) core.requests → AllByRecursion (IsChosenSince now.core c) requests
  chosen c all = all_set (IsChosenSince core c) (IsChosenSince now.core c) (λ x is. is) core.requests place begun (its_chosen c (all_at (IsChosenSince core c) core.requests place o all there)) all

  keeps_on : IsOn now
  keeps_on = let was = sound.on on in record {
    going = keeps_going;
    rows = rows_push now.core row f (record {
      ticket = refl;
      long = long;
      disk = refl;
      own = record {
        place = place;
        request = begun;
        there = set_here core.requests place o begun there;
        own = refl;
        aim = flying;
        aim_is = set_here targets target aim flying aim_is;
        moves = record { disk_is = moves.disk_is; first = moves.first; count = moves.count; write = moves.write; carries = moves.carries };
      };
    }) core.flying s.device.flights (rows_on core core.history requests core.queue pool (core.flying ++ row ∷ []) core.cache.entries core.last data_on core.flying s.device.flights (all_fly core going.owned) was.rows);
    caused = all_set (AreCaused s.device core) (AreCaused device now.core) caused core.requests place begun (its_caused (all_at (AreCaused s.device core) core.requests place o was.caused there)) was.caused;
    chosen = if_on (λ (c : OpenCopy). AllByRecursion (IsChosenSince core c) core.requests) (λ (c : OpenCopy). AllByRecursion (IsChosenSince now.core c) requests) chosen core.copy was.chosen;
  }

  -- ---- all of it

  out : (n : ℕ) → out_with device now.core n ≡ count_if (slice_index_or pool n false)
  out n =
      let was = sound.none_lost (ap is_dark on) n in
      let same = hands n in
      let more = taken core.pool f.buf.number n free in
      let one_more = flights_push (λ (g : Flight). has_number n g.buf) f s.device.flights in
      omega (arith, was, same, more, one_more)

  its_counted : AreCounted s o → AreCounted now begun
  its_counted all = all_set (IsCounted now) (IsCounted now) (λ t count. count) targets target flying (let i = all_at (IsCounted now) targets target aim still aim_is in record { began = i.began; since = i.since }) still
    where
      still : AllByRecursion (IsCounted now) targets
      still = counted_still s now refl o all

  pub keeps : IsSound now
  keeps = sound_when_on s now refl refl sound on keeps_going.fitting told keeps_on out
      (all_set (AreCounted s) (AreCounted now) (counted_still s now refl) core.requests place begun (its_counted (all_at (AreCounted s) core.requests place o sound.counted there)) sound.counted)
      (all_set (IsAnswered s) (IsAnswered now) (answered_still s now refl) core.requests place begun (no_cause (IsLandedFor now begun) o.landed waits) sound.answered) (copies_still s now refl core.copy sound.copy) (origin_still s now refl refl sound.origin)

pub data_start_keeps : DataStartKeeps
data_start_keeps place target old new sound on event =
    subst IsSound (sym (event.is ∙ ap (λ (d : Device). state d (made begun_so new.core.pool)) started.new_is ∙ ap (λ (p : List Bool). state device_so (made begun_so p)) event.launches.taken.new_is
    ∙ ap (λ (items : List Target). state device_so (made (record o { request = record o.request { phase = phase.Data; targets = record { items = items } } }) pool_so)) (set_state o.request.targets.items target event.its.aim stage.Flying event.its.aim_is)))
    (keeps old sound on place target o event.its.there event.its.due event.its.aim event.its.aim_is event.flight event.moves event.launches.long event.launches.taken.free started.fresh new.device.counts.starts new.device.wrote)
  where
    o : Open
    o = event.its.request

    started : Starts old.device new.device event.flight
    started = event.launches.starts

    begun_so : Open
    begun_so = begun_as target o

    pool_so : List Bool
    pool_so = slice_set old.core.pool event.flight.buf.number true

    device_so : Device
    device_so = launched old.device event.flight new.device.counts.starts new.device.wrote

    made : Open → List Bool → Core
    made x pool = record old.core { requests = slice_set old.core.requests place x; flying = old.core.flying ++ flown event.flight.ticket event.flight.disk (owner.Data o.request.id target) ∷ []; pool = pool }
