-- A request learns that the transfer of a target has ended.
use Rattle.std.proofs.Common.{◌&&◌, ◌<◌, ◌==◌, ap, arith, Bool, false, if◌then◌else◌, inl, inr, length, List, None, not, refl, slice_get, slice_set, Some, subst, sym, true, ◌||◌, ℕ, ◌∙◌, ◌≡◌, ◌≤◌, ◌⊎◌}
use Rattle.std.proofs.lemmas.Bool.{eq-eqb, eqb-false, eqb-true, ne_eqb}
use Rattle.std.specs.List.{list_any}
use Rattle.std.specs.Option.{option_map_or}
use Rattle.std.specs.Prelude.{AllPairs, IfSome, is_some}
use Rattle.std.proofs.lemmas.Option.{slice_get_within}
use Rattle.std.proofs.lemmas.Map.Keys.{any_passes_from_place}
use Rattle.lvm_num.specs.Buffer.{Buffer}
use Rattle.lvm_num.specs.declared.descriptor.Mode.{Mode}
use Rattle.lvm_num.specs.declared.descriptor.Mode.TheVariants as mode
use Rattle.lvm_num.proofs.Booleans.{not_so}
use Rattle.lvm_num.proofs.Lists.{all_at, length_set, set_beside}
use Rattle.lvm_vol.specs.Log.{is_open}
use Rattle.lvm_mwc.specs.Cache.{is_named}
use Rattle.lvm_sched.specs.Writes.{is_flying, is_waiting as is_unstarted}
use Rattle.lvm_sched.specs.declared.writes.TargetState.{TargetState}
use Rattle.lvm_sched.specs.declared.writes.TargetState.TheVariants as stage
use Rattle.lvm_path.specs.Asks.{is_write, lv_of}
use Rattle.lvm_path.specs.Next.{phase_after}
use Rattle.lvm_path.specs.Targets.{are_over, end_state, is_begun, is_done, is_failed, is_over as is_ended}
use Rattle.lvm_path.specs.declared.request.Phase.{Phase}
use Rattle.lvm_path.specs.declared.request.Phase.TheVariants as phase
use Rattle.lvm_path.specs.declared.target.Target.{Target}
use Rattle.lvm_session.specs.Judging.{group_of, has_dirty_mark, has_names, is_waiting}
use Rattle.lvm_session.specs.State.{Core}
use Rattle.lvm_session.specs.declared.flown.Flown.{Flown}
use Rattle.lvm_session.specs.declared.flown.Owner.TheVariants as owner
use Rattle.lvm_session.specs.declared.open.Open.{Open}
use Rattle.lvm_session.specs.Dark.{AreTold}
use Rattle.lvm_session.specs.Ends.{keeps_buffer, learned}
use Rattle.lvm_session.specs.Owners.{flies, target_flies}
use Rattle.lvm_session.specs.Requests.{IsAimed, has_record, is_past_held, IsLaid, IsOpenOne, IsPhase, MayBeServed, IsRecorded, IsRequest, IsShaped, IsTarget, mode_for}
use Rattle.lvm_session.specs.Sound.{count_if, IsAsked, IsGoing}
use Rattle.lvm_keeps.proofs.KeepsLemmas.Landing.{or_parts}
use Rattle.lvm_keeps.proofs.Lists.{all_set, any_set, count_set, set_here}
use Rattle.lvm_keeps.proofs.Small.{both, none_on}
use Rattle.lvm_keeps.proofs.DarkLemmas.Tables.{apart, ascending_set}
use Rattle.lvm_keeps_events.proofs.TargetsLemmas.{all_true_set, any_here, at_state, only_at, pp_at, set_state}
use Rattle.lvm_keeps_events.proofs.SoundLemmas.Tables.{only_set}
use Rattle.lvm_keeps_events.proofs.OwnersLemmas.Removal.{was_out}
use Rattle.lvm_keeps_events.proofs.Lists.{all_true_at, and_false, none_of_zero}

-- a transfer that is out has begun and not ended
is_flying_so : (st : TargetState) → is_flying st ≡ true → st ≡ stage.Flying
is_flying_so stage.Waiting e = not_so e
is_flying_so stage.Flying e = refl
is_flying_so stage.Done e = not_so e
is_flying_so stage.Failed e = not_so e

-- one that has failed ended badly
pub failed_badly : (ok : Bool) → is_failed (end_state ok) ≡ true → ok ≡ false
failed_badly true e = not_so e
failed_badly false e = refl

module _ (core : Core) (going : IsGoing core) (place target : ℕ) (o : Open) (there : slice_get core.requests place ≡ Some o) (aim : Target) (aim_is : slice_get o.request.targets.items target ≡ Some aim)
    (at : ℕ) (row : Flown) (row_there : slice_get core.flying at ≡ Some row) (own : row.owner ≡ owner.Data o.request.id target) (ok : Bool) (buf : Buffer) (long : ok ≡ true → length buf.sectors ≡ 256) where
  abbrev targets : List Target
  targets = o.request.targets.items

  abbrev pub done : Target
  done = at_state aim (end_state ok)

  abbrev pub now_targets : List Target
  now_targets = slice_set targets target done

  -- the request with this target at its end
  abbrev pub learnt : Open
  learnt = record o { request = record o.request { phase = phase_after o.request now_targets; targets = record { items = now_targets } }; got = if keeps_buffer o ok then Some buf else o.got }

  pub learnt_is : learned o target ok buf ≡ learnt
  learnt_is = ap (λ (items : List Target). record o { request = record o.request { phase = phase_after o.request items; targets = record { items = items } }; got = if keeps_buffer o ok then Some buf else o.got }) (set_state targets target aim (end_state ok) aim_is)

  pub its : IsOpenOne core o
  its = all_at (IsOpenOne core) core.requests place o going.requests there

  -- ---- it was out

  out : flies core (owner.Data o.request.id target) ≡ true
  out = sym (ap (flies core) own) ∙ was_out core going.owned at row row_there

  pub was_flying : aim.state ≡ stage.Flying
  was_flying = is_flying_so aim.state (sym (ap (λ m. option_map_or (λ (t : Target). is_flying t.state) m false) aim_is) ∙ (both (o.request.id == o.request.id) (target_flies target o) (sym only ∙ out)).1)
    where
      only : flies core (owner.Data o.request.id target) ≡ (o.request.id == o.request.id && target_flies target o)
      only = only_at (λ (x : Open). x.request.id == o.request.id && target_flies target x) core.requests place o there (apart core.requests place o there going.told.table.ascending)
          (λ x other. ap (λ b. b && target_flies target x) (ne_eqb x.request.id o.request.id other))

  pub waits : is_waiting o ≡ true
  waits = by (is_waiting o) refl
    where
      by : (b : Bool) → is_waiting o ≡ b → b ≡ true
      by true is = refl
      by false is = not_so (sym (its.still is) ∙ any_passes_from_place (λ (t : Target). is_flying t.state) targets target aim aim_is (ap is_flying was_flying))

  pub request : IsRequest core o
  request = its.waits waits

  pub begun_so : is_begun targets ≡ true
  begun_so = any_passes_from_place (λ (t : Target). not (is_unstarted t.state)) targets target aim aim_is (ap (λ st. not (is_unstarted st)) was_flying)

  pub not_over : are_over targets ≡ false
  not_over = by (are_over targets) refl
    where
      by : (b : Bool) → are_over targets ≡ b → b ≡ false
      by false is = refl
      by true is = not_so (sym (ap is_ended was_flying) ∙ all_true_at (λ (t : Target). is_ended t.state) targets target aim is aim_is)

  pub in_data : o.request.phase ≡ phase.Data
  in_data = by o.request.phase request.shape.phase_is
    where
      by : (p : Phase) → IsPhase p o → p ≡ phase.Data
      by phase.Held is = absurd (let none : None ≡ Some aim = sym (ap (λ (ts : List Target). slice_get ts target) is.0) ∙ aim_is in cc none)
      by phase.WantEntry is = not_so (sym is.0 ∙ begun_so)
      by phase.WantRecord is = not_so (sym is.0 ∙ begun_so)
      by phase.Data is = refl
      by phase.WantStatus is = not_so (sym not_over ∙ is.1)
      by phase.Landed is = absurd is

  pub past : is_past_held o.request.phase ≡ true
  past = ap is_past_held in_data

  pub same_long : length now_targets ≡ length targets
  same_long = length_set targets target done

  pub begun_now : is_begun now_targets ≡ true
  begun_now = any_here (λ (t : Target). not (is_unstarted t.state)) targets target aim done aim_is (by ok)
    where
      by : (b : Bool) → not (is_unstarted (end_state b)) ≡ true
      by true = refl
      by false = refl

  -- a read whose transfer is out has got nothing yet
  pub none_done : is_write o.request.ask ≡ false → list_any (λ (t : Target). is_done t.state) targets ≡ false
  none_done read =
      let all = count_set (λ (t : Target). is_flying t.state || is_done t.state) targets target aim resting aim_is in
      let one : count_if (is_flying aim.state || is_done aim.state) ≡ 1 = ap (λ st. count_if (is_flying st || is_done st)) was_flying in
      let few = request.shape.one read in
      let none = none_of_zero (λ (t : Target). is_flying t.state || is_done t.state) (slice_set targets target resting) (omega (arith, all, one, few)) in
      sym (any_set (λ (t : Target). is_done t.state) targets target aim resting aim_is (sym (ap is_done was_flying)))
      ∙ none_on (λ (t : Target). is_flying t.state || is_done t.state) (λ (t : Target). is_done t.state) (λ t e. (or_parts (is_flying t.state) (is_done t.state) e).1) (slice_set targets target resting) none
    where
      resting : Target
      resting = at_state aim stage.Waiting

  -- ---- its shape

  abbrev over : Bool
  over = is_write o.request.ask && are_over now_targets

  phase_by : (b : Bool) → over ≡ b → IsPhase (if b then phase.WantStatus else o.request.phase) learnt
  phase_by true e = let parts = both (is_write o.request.ask) (are_over now_targets) e in (parts.0, parts.1)
  phase_by false e = subst (λ p. IsPhase p learnt) (sym in_data) (let low = slice_get_within targets target aim aim_is in omega (arith, low, same_long), λ write. by (is_write o.request.ask) (are_over now_targets) write e)
    where
      by : (w x : Bool) → w ≡ true → w && x ≡ false → x ≡ false
      by true x i j = j
      by false x i j = not_so i

  hand_by : (b w : Bool) → ok ≡ b → is_write o.request.ask ≡ w → is_some (if b && not w then Some buf else o.got) ≡ (not w && list_any (λ (t : Target). is_done t.state) now_targets)
  hand_by true false i j = sym (any_here (λ (t : Target). is_done t.state) targets target aim done aim_is (ap (λ b. is_done (end_state b)) i))
  hand_by false false i j = request.shape.hand ∙ ap (λ b. not b && list_any (λ (t : Target). is_done t.state) targets) j
      ∙ sym (any_set (λ (t : Target). is_done t.state) targets target aim done aim_is (ap (λ b. is_done (end_state b)) i ∙ sym (ap is_done was_flying)))
  hand_by true true i j = request.shape.hand ∙ ap (λ b. not b && list_any (λ (t : Target). is_done t.state) targets) j
  hand_by false true i j = request.shape.hand ∙ ap (λ b. not b && list_any (λ (t : Target). is_done t.state) targets) j

  room_by : (b w : Bool) → ok ≡ b → IfSome (if b && not w then Some buf else o.got) (λ (x : Buffer). length x.sectors ≡ 256)
  room_by true false e = long e
  room_by true true e = request.shape.room
  room_by false w e = request.shape.room

  at_most : (b : Bool) → count_if b ≤ 1
  at_most true = omega arith
  at_most false = omega arith

  pub shape : IsShaped core learnt
  shape = let a = request.shape in record {
    targets = all_set (IsTarget core o.request.ask) (IsTarget core o.request.ask) (λ t i. i) targets target done (moved (all_at (IsTarget core o.request.ask) targets target aim a.targets aim_is)) a.targets;
    phase_is = phase_by over refl;
    hand = hand_by ok (is_write o.request.ask) refl refl;
    room = room_by ok (is_write o.request.ask) refl;
    differ = λ i j d less high. a_differ i j d less high;
    usable = λ e. any_set (λ (t : Target). t.usable) targets target aim done aim_is refl ∙ a.usable past;
    one = λ read.
        let all = count_set (λ (t : Target). is_flying t.state || is_done t.state) targets target aim done aim_is in
        let was = a.one read in
        let before : count_if (is_flying aim.state || is_done aim.state) ≡ 1 = ap (λ st. count_if (is_flying st || is_done st)) was_flying in
        let most = at_most (is_flying (end_state ok) || is_done (end_state ok)) in
        omega (arith, all, was, before, most);
  }
    where
      moved : IsTarget core o.request.ask aim → IsTarget core o.request.ask done
      moved i = record { copy = aimed aim.moves i.copy; sector = i.sector; there = i.there }
        where
          aimed : (b : Bool) → IsAimed b core o.request.ask aim → IsAimed b core o.request.ask done
          aimed false a = a
          aimed true a = a

      a_differ : AllPairs (λ (a b : Target). a.pp ≡ b.pp → ⊥) now_targets
      a_differ i j d less high e = request.shape.differ i j d less (subst (λ n. j < n) same_long high) (sym (pp_at targets target aim (end_state ok) aim_is i d) ∙ e ∙ pp_at targets target aim (end_state ok) aim_is j d)

  -- ---- its records

  data_on : (m : Mode) → IsRecorded m phase.Data o.request → IsRecorded m phase.Data learnt.request
  data_on mode.Active r = by r
    where
      by : (o.request.pinned ≡ true) ⊎ (length targets ≤ 1) → (o.request.pinned ≡ true) ⊎ (length now_targets ≤ 1)
      by (inl e) = inl e
      by (inr few) = inr (omega (arith, few, same_long))
  data_on mode.Passive r = (r.0, refl)
  data_on mode.Off r = (r.0, refl, refl)

  status_on : (m : Mode) → IsRecorded m phase.Data learnt.request → IsRecorded m phase.WantStatus learnt.request
  status_on mode.Active r = r
  status_on mode.Passive r = (r.0, refl)
  status_on mode.Off r = (r.0, refl, refl)

  recorded_by : (m : Mode) (b : Bool) → IsRecorded m phase.Data learnt.request → IsRecorded m (if b then phase.WantStatus else o.request.phase) learnt.request
  recorded_by m true r = status_on m r
  recorded_by m false r = subst (λ p. IsRecorded m p learnt.request) (sym in_data) r

  names_on : (m : Mode) → has_names core m o.request ≡ true → has_names core m learnt.request ≡ true
  names_on mode.Active names = all_true_set (λ (t : Target). is_named core.cache t.pp.disk (lv_of o.request.ask) (group_of o.request.ask)) targets target aim done aim_is refl ∙ names
  names_on mode.Passive names = refl
  names_on mode.Off names = refl

  marks_on : (m : Mode) → has_dirty_mark core m o.request ≡ true → has_dirty_mark core m learnt.request ≡ true
  marks_on mode.Active mark = refl
  marks_on mode.Passive mark = mark
  marks_on mode.Off mark = refl

  pub ready : MayBeServed core learnt.request
  ready = let b = request.ready in record {
    free = λ e. b.free past;
    recorded = recorded_by (mode_for core o.request.ask) over (data_on (mode_for core o.request.ask) (subst (λ p. IsRecorded (mode_for core o.request.ask) p o.request) in_data b.recorded));
    wanted = λ e two. b.wanted past (two_before two);
    named = λ has_it two. names_on (mode_for core o.request.ask) (b.named (ap has_record in_data) (two_before two));
    dirty = λ has_it two. marks_on (mode_for core o.request.ask) (b.dirty (ap has_record in_data) (two_before two));
  }
    where
      two_before : 2 ≤ length now_targets → 2 ≤ length targets
      two_before two = subst (λ n. 2 ≤ n) same_long two

  pub laid : IsLaid core learnt.request
  laid = let l = its.laid in record { within = l.within; blocks = l.blocks; most = let most = l.most in omega (arith, most, same_long); id = l.id }

  -- ---- the table

  pub told : AreTold core.history.facts (slice_set core.requests place learnt)
  told = record {
    ascending = ascending_set o learnt refl core.requests place there going.told.table.ascending;
    still = all_set Still Still (λ x is. is) core.requests place learnt (all_at Still core.requests place o going.told.table.still there) going.told.table.still;
  }
    where
      Still : Open → Type 0
      Still x = is_waiting x ≡ true → is_open core.history.facts x.request.id ≡ true

  pub asked_now : IsAsked core.history.facts learnt
  asked_now = let a = all_at (IsAsked core.history.facts) core.requests place o going.told.requests there in
      record { request = a.request; told = a.told; client = a.client; vol = a.vol; at = a.at; count = a.count; write = a.write; length = a.length; place = a.place; outcome = a.outcome; answered = a.answered }

  -- ---- whose the other transfers are

  pub others_fly : (id t : ℕ) → (id == o.request.id && t == target) ≡ false → list_any (λ (x : Open). x.request.id == id && target_flies t x) (slice_set core.requests place learnt) ≡ flies core (owner.Data id t)
  others_fly id t other = any_set (λ (x : Open). x.request.id == id && target_flies t x) core.requests place o learnt there (by (o.request.id == id) (t == target) refl refl)
    where
      by : (a b : Bool) → (o.request.id == id) ≡ a → (t == target) ≡ b → (o.request.id == id && target_flies t learnt) ≡ (o.request.id == id && target_flies t o)
      by false b is same = ap (λ c. c && target_flies t learnt) is ∙ sym (ap (λ c. c && target_flies t o) is)
      by true false is same = ap (λ m. o.request.id == id && option_map_or (λ (u : Target). is_flying u.state) m false) (set_beside targets target t done (eqb-false t target same))
      by true true is same = absurd (let no : true ≡ false = sym (ap (λ b. b && t == target) (eq-eqb id o.request.id (sym (eqb-true o.request.id id is))) ∙ same) ∙ other in cc)

  pub none_flies : list_any (λ (x : Open). x.request.id == o.request.id && target_flies target x) (slice_set core.requests place learnt) ≡ false
  none_flies = only_set (λ (x : Open). x.request.id == o.request.id && target_flies target x) core.requests place o learnt there (apart core.requests place o there going.told.table.ascending)
      (λ x other. ap (λ b. b && target_flies target x) (ne_eqb x.request.id o.request.id other))
      ∙ ap (λ m. o.request.id == o.request.id && option_map_or (λ (u : Target). is_flying u.state) m false) (set_here targets target aim done aim_is) ∙ by ok
    where
      by : (b : Bool) → o.request.id == o.request.id && is_flying (end_state b) ≡ false
      by true = and_false (o.request.id == o.request.id)
      by false = and_false (o.request.id == o.request.id)
