-- The write of the copy that is brought up has ended well, and less work is left.
use Rattle.std.proofs.Common.{◌&&◌, ◌*◌, ◌+◌, ◌++◌, ◌-◌, ◌<◌, ◌==◌, [], ap, arith, Bool, false, filter, if◌then◌else◌, List, nat_lt, not, refl, slice_get, Some, subst, sym, true, ◌||◌, ℕ, ◌∙◌, ◌∷◌, ◌≡◌, ◌≤◌}
use Rattle.std.proofs.lemmas.Bool.{ltb-true}
use Rattle.std.specs.List.{AllByRecursion, list_any}
use Rattle.std.specs.Option.{option_map_or}
use Rattle.std.specs.Prelude.{IfSome, sum_by}
use Rattle.lvm_num.specs.Descriptor.{is_member, is_pp}
use Rattle.lvm_num.specs.Status.{calls_dirty}
use Rattle.lvm_num.specs.declared.descriptor.PvRow.{PvRow}
use Rattle.lvm_num.specs.declared.place.Pp.{Pp}
use Rattle.lvm_num.specs.declared.status.Status.{Status}
use Rattle.lvm_mwc.specs.Cache.{flight_names, is_named}
use Rattle.lvm_path.specs.Asks.{is_write, lv_of}
use Rattle.lvm_path.specs.Targets.{is_begun}
use Rattle.lvm_path.specs.declared.ask.Ask.{Ask}
use Rattle.lvm_path.specs.declared.request.Phase.{Phase}
use Rattle.lvm_path.specs.declared.request.Phase.TheVariants as phase
use Rattle.lvm_path.specs.declared.request.Request.{Request}
use Rattle.lvm_status.specs.declared.writes.Writes.{Writes}
use Rattle.lvm_session.specs.Bringing.{groups_of, is_idle, is_whole}
use Rattle.lvm_session.specs.Judging.{aims, copies_for, group_in, group_of, is_beside_copy, is_caught, is_changed, is_missing, is_running, is_settled, is_stale, is_usable, is_waiting, mode_of, destination_aims, destinations_for, destinations_if, pps_of, same_pps}
use Rattle.lvm_session.specs.State.{Core, is_there, State}
use Rattle.lvm_session.specs.declared.bringing.OpenCopy.{OpenCopy}
use Rattle.lvm_session.specs.declared.bringing.Step.{Step}
use Rattle.lvm_session.specs.declared.open.Open.{Open}
use Rattle.lvm_session.specs.declared.open.Power.TheVariants as power
use Rattle.lvm_num.specs.Modes.{is_passive}
use Rattle.lvm_num.proofs.Booleans.{not_so}
use Rattle.lvm_session.specs.Marks.{is_among}
use Rattle.lvm_session.specs.Left.{begun_left, copy_left, if_so, is_brought_up, is_held, lacks_dirty, lacks_note, left_of, phase_left, destination_turns, read_left, request_left, status_left, step_left, tried_of, turns_of, unbegun_left, update_work, write_left}
use Rattle.lvm_session.specs.Requests.{is_past_held, IsOpenOne, IsPhase}
use Rattle.lvm_session.specs.Sound.{IsCopy, IsGoing, IsSound}
use Rattle.lvm_keeps.proofs.FallsLemmas.Pin.{sum_same}
use Rattle.lvm_keeps_events.proofs.Marking.{count_alike}
use Rattle.lvm_keeps_events.proofs.GroupEndsLemmas.{c, core_is, ended, gone, IsGone, its, next_so, out, tried, whole_so}
use Rattle.lvm_keeps_events.proofs.JudgingLemmas.DuesMarks.{own_pp}
use Rattle.lvm_keeps_events.proofs.Lists.{all_there, or_true}
use Rattle.lvm_keeps_events.proofs.JudgingLemmas.Passing.{caught_place, caught_same}
use Rattle.lvm_keeps_events.specs.GroupEnds.{EndsGroup}
use Rattle.lvm_keeps_events.proofs.LeftLemmas.EndedLess.{filter_same}
use Rattle.lvm_keeps_events.proofs.EndFallsLemmas.Falling.{falls, sum_most, votes_same}
use Rattle.lvm_keeps_events.proofs.LeftLemmas.StaledLess.{status_more}
use Rattle.lvm_keeps_events.specs.EndFalls.{CopyWriteEndFalls}
use Rattle.lvm_keeps_events.proofs.Finding.{length_taken}

module _ (at : ℕ) (old new : State) (sound : IsSound old) (on : old.core.power ≡ power.On) (event : EndsGroup old new at) where
  abbrev core : Core
  core = old.core

  abbrev its_copy : OpenCopy
  its_copy = c at old new sound on event

  abbrev its_next : OpenCopy
  its_next = next_so at old new sound on event

  abbrev w : Bool
  w = whole_so at old new sound on event

  abbrev wanted : Status
  wanted = event.passes.on.status.wanted

  abbrev writes : Writes
  writes = event.passes.on.status.writes

  went : IsGone at old new sound on event wanted writes
  went = its at old new sound on event

  abbrev after : Core
  after = gone at old new sound on event wanted writes

  going : IsGoing core
  going = (sound.on on).going

  bringing : IsCopy core its_copy
  bringing = subst (λ m. IfSome m (IsCopy core)) event.is_open going.copy

  of_copy : {A : Type 0} (t : OpenCopy → A) (none : A) → option_map_or t core.copy none ≡ t its_copy
  of_copy t none = ap (λ m. option_map_or t m none) event.is_open

  short : is_whole core its_copy ≡ false
  short = bringing.under_way event.runs (ap is_idle event.writes)

  missing_so : (d : ℕ) → is_missing after d ≡ is_missing core d
  missing_so d = went.like.missing d

  there_so : (d : ℕ) → is_there after d ≡ is_there core d
  there_so d = ap (λ b. is_member core.descriptor d && not b) (missing_so d)

  usable_so : (p : Pp) → is_usable after p ≡ is_usable core p
  usable_so p = ap (λ b. not (is_stale core p) && not b) (missing_so p.disk)

  dirty_so : (lv : ℕ) → calls_dirty wanted lv ≡ calls_dirty core.status.wanted lv
  dirty_so lv = ap (λ (ns : List ℕ). list_any (λ n. n == lv) ns) went.like.dirty

  -- ---- the requests

  brought_so : (p : Pp) → is_brought_up after p ≡ is_brought_up core p
  brought_so p = sym (of_copy (λ (k : OpenCopy). is_running k && is_pp p k.pp) false)

  turns_so : (p : Pp) → turns_of after p ≡ turns_of core p
  turns_so p =
      ap (λ (b : Bool). if b then 0 else if is_usable after p then (if is_brought_up after p then 34 else 22) else if is_brought_up after p then 46 else if is_settled core p then 0 else 34) (missing_so p.disk)
      ∙ ap (λ (b : Bool). if is_missing core p.disk then 0 else if b then (if is_brought_up after p then 34 else 22) else if is_brought_up after p then 46 else if is_settled core p then 0 else 34) (usable_so p)
      ∙ ap (λ (b : Bool). if is_missing core p.disk then 0 else if is_usable core p then (if b then 34 else 22) else if b then 46 else if is_settled core p then 0 else 34) (brought_so p)

  -- the destination of a move is the same
  places_so : (ask : Ask) → destinations_for after ask ≡ destinations_for core ask
  places_so ask = sym (of_copy (λ (k : OpenCopy). destinations_if (k.moves && is_beside_copy core ask k) k) [])

  place_turns_so : (p : Pp) → destination_turns after p ≡ destination_turns core p
  place_turns_so p = ap (λ b. if not b && is_brought_up after p then 46 else 0) (missing_so p.disk) ∙ ap (λ b. if not (is_missing core p.disk) && b then 46 else 0) (brought_so p)

  places_turns_so : (ask : Ask) → sum_by (destination_turns after) (destinations_for after ask) ≡ sum_by (destination_turns core) (destinations_for core ask)
  places_turns_so ask = ap (sum_by (destination_turns after)) (places_so ask) ∙ sum_same (destination_turns core) (destination_turns after) place_turns_so (destinations_for core ask)

  phase_so : (p : Phase) (r : Request) → phase_left p after r ≡ phase_left p core r
  phase_so phase.Held r = refl
  phase_so phase.WantEntry r = refl
  phase_so phase.WantRecord r = ap (λ n. 9 + 2 * n) (count_alike (lacks_note after r) (lacks_note core r)
      (λ t. ap (λ b. r.pinned && not b && not (is_named core.cache t.pp.disk (lv_of r.ask) (group_of r.ask)) && not (flight_names core.cache t.pp.disk (lv_of r.ask) (group_of r.ask))) (missing_so t.pp.disk)) r.targets.items)
  phase_so phase.Data r = refl
  phase_so phase.WantStatus r = refl
  phase_so phase.Landed r = refl

  module _ (k : ℕ) (o : Open) (o_there : slice_get core.requests k ≡ Some o) (it : IsOpenOne core o) (waits : is_waiting o ≡ true) (write : is_write o.request.ask ≡ true) where
    -- a write that is admitted goes to the same copies, since it lies in another track group
    aims_so : is_past_held o.request.phase ≡ true → aims after o.request.ask ≡ aims core o.request.ask
    aims_so past = filter_same (λ (p : Pp). is_usable after p || is_caught after (group_in core o.request.ask) p) (λ (p : Pp). is_usable core p || is_caught core (group_in core o.request.ask) p) (copies_for core o.request.ask)
        (by_each (copies_for core o.request.ask) (λ p among. among))
      where
        one : (p : Pp) → is_among (copies_for core o.request.ask) p ≡ true → is_usable after p || is_caught after (group_in core o.request.ask) p ≡ is_usable core p || is_caught core (group_in core o.request.ask) p
        one p among = ap (λ b. b || is_caught after (group_in core o.request.ask) p) (usable_so p)
            ∙ ap (λ b. is_usable core p || b) (caught_same old sound on its_copy event.is_open event.runs event.writes at event.row event.returns.there event.own (ended at old new sound on event).flight (out at old new sound on event).there event.buf (ended at old new sound on event).rest.number new.device.media (tried at old new sound on event) event.passes.moves.tried k o o_there it waits write past p among)

        by_each : (ps : List Pp) → ((p : Pp) → is_among ps p ≡ true → is_among (copies_for core o.request.ask) p ≡ true)
            → AllByRecursion (λ (p : Pp). is_usable after p || is_caught after (group_in core o.request.ask) p ≡ is_usable core p || is_caught core (group_in core o.request.ask) p) ps
        by_each [] inside = tt
        by_each (p ∷ ps) inside = (one p (inside p (ap (λ b. b || is_among ps p) (own_pp p))), by_each ps (λ q e. inside q (ap (λ b. is_pp q p || b) e ∙ or_true (is_pp q p))))

    -- and to the same place, if a copy moves
    destination_aims_so : is_past_held o.request.phase ≡ true → destination_aims after o.request.ask ≡ destination_aims core o.request.ask
    destination_aims_so past = ap (filter (is_caught after (group_in core o.request.ask))) (places_so o.request.ask)
        ∙ filter_same (is_caught after (group_in core o.request.ask)) (is_caught core (group_in core o.request.ask)) (destinations_for core o.request.ask) (by_each (destinations_for core o.request.ask) (λ p among. among))
      where
        by_each : (ps : List Pp) → ((p : Pp) → is_among ps p ≡ true → is_among (destinations_for core o.request.ask) p ≡ true) → AllByRecursion (λ (p : Pp). is_caught after (group_in core o.request.ask) p ≡ is_caught core (group_in core o.request.ask) p) ps
        by_each [] inside = tt
        by_each (p ∷ ps) inside = (
          caught_place old sound on its_copy event.is_open event.runs event.writes at event.row event.returns.there event.own (ended at old new sound on event).flight (out at old new sound on event).there event.buf (ended at old new sound on event).rest.number new.device.media (tried at old new sound on event) event.passes.moves.tried k o o_there it waits write past p (inside p (ap (λ b. b || is_among ps p) (own_pp p))),
          by_each ps (λ q e. inside q (ap (λ b. is_pp q p || b) e ∙ or_true (is_pp q p))),
        )

    goes_so : is_past_held o.request.phase ≡ true → aims after o.request.ask ++ destination_aims after o.request.ask ≡ aims core o.request.ask ++ destination_aims core o.request.ask
    goes_so past = ap (λ (ps : List Pp). ps ++ destination_aims after o.request.ask) (aims_so past) ∙ ap (λ (ps : List Pp). aims core o.request.ask ++ ps) (destination_aims_so past)

    changed_so : (p : Phase) → o.request.phase ≡ p → if_so (not (is_held p) && is_changed after o.request) 12 ≡ if_so (not (is_held p) && is_changed core o.request) 12
    changed_so phase.Held e = refl
    changed_so phase.WantEntry e = ap (λ ps. if_so (is_write o.request.ask && not (same_pps (pps_of o.request.targets.items) ps)) 12) (goes_so (ap is_past_held e))
    changed_so phase.WantRecord e = ap (λ ps. if_so (is_write o.request.ask && not (same_pps (pps_of o.request.targets.items) ps)) 12) (goes_so (ap is_past_held e))
    changed_so phase.Data e = ap (λ ps. if_so (is_write o.request.ask && not (same_pps (pps_of o.request.targets.items) ps)) 12) (goes_so (ap is_past_held e))
    changed_so phase.WantStatus e = ap (λ ps. if_so (is_write o.request.ask && not (same_pps (pps_of o.request.targets.items) ps)) 12) (goes_so (ap is_past_held e))
    changed_so phase.Landed e = absurd (subst (λ p. IsPhase p o) e (it.waits waits).shape.phase_is)

    unbegun_so : unbegun_left after o.request ≡ unbegun_left core o.request
    unbegun_so =
        let turns = sum_same (turns_of core) (turns_of after) turns_so (copies_for core o.request.ask) in
        let place = places_turns_so o.request.ask in
        let dirty : if_so (lacks_dirty after o.request.ask) update_work ≡ if_so (lacks_dirty core o.request.ask) update_work = ap (λ b. if_so (is_passive (mode_of core o.request.ask) && not b) update_work) (dirty_so (lv_of o.request.ask)) in
        let changes = changed_so o.request.phase refl in
        let phases = phase_so o.request.phase o.request in
        omega (arith, turns, place, dirty, changes, phases)

  request_so : (k : ℕ) (o : Open) → slice_get core.requests k ≡ Some o → IsOpenOne core o → request_left after o ≤ request_left core o
  request_so k o o_there it = by (is_waiting o) (is_write o.request.ask) refl refl
    where
      by : (a b : Bool) → is_waiting o ≡ a → is_write o.request.ask ≡ b
          → if_so a (if b then write_left after o.request else read_left o.request.phase o.request) ≤ if_so a (if b then write_left core o.request else read_left o.request.phase o.request)
      by false b i j = omega arith
      by true false i j = omega arith
      by true true i j = let same : write_left after o.request ≡ write_left core o.request = ap (λ n. if is_begun o.request.targets.items then begun_left o.request else n) (unbegun_so k o o_there it i j) in omega (arith, same)

  -- ---- the copy, and the update that its clearing brings

  before_so : option_map_or (copy_left core) core.copy 0 ≡ 3 * update_work + 16 * (groups_of core - its_copy.cursor - 1) + 8
  before_so = of_copy (copy_left core) 0 ∙ ap (λ b. if not b then 0 else if is_whole core its_copy then 2 * update_work else 3 * update_work + 16 * (groups_of core - its_copy.cursor - 1) + 8 + step_left its_copy.step (tried_of core its_copy)) event.runs
      ∙ ap (λ b. if b then 2 * update_work else 3 * update_work + 16 * (groups_of core - its_copy.cursor - 1) + 8 + step_left its_copy.step (tried_of core its_copy)) short
      ∙ ap (λ (y : Step). 3 * update_work + 16 * (groups_of core - its_copy.cursor - 1) + 8 + step_left y (tried_of core its_copy)) event.writes
      ∙ (let same : 3 * update_work + 16 * (groups_of core - its_copy.cursor - 1) + 8 + 0 ≡ 3 * update_work + 16 * (groups_of core - its_copy.cursor - 1) + 8 = omega arith in same)

  paid : status_left after + copy_left after its_next ≤ status_left core + option_map_or (copy_left core) core.copy 0
  paid = by w refl
    where
      next_left : (b : Bool) → w ≡ b → copy_left after its_next ≡ (if b then 2 * update_work else 3 * update_work + 16 * (groups_of core - (its_copy.cursor + 1) - 1) + 8 + (8 - 2 * tried_of core its_next))
      next_left b e = ap (λ x. if not x then 0 else if w then 2 * update_work else 3 * update_work + 16 * (groups_of core - (its_copy.cursor + 1) - 1) + 8 + (8 - 2 * tried_of core its_next)) event.runs
          ∙ ap (λ x. if x then 2 * update_work else 3 * update_work + 16 * (groups_of core - (its_copy.cursor + 1) - 1) + 8 + (8 - 2 * tried_of core its_next)) e

      low : (b : Bool) → nat_lt (its_copy.cursor + 1) (groups_of core) ≡ b → not b ≡ false → its_copy.cursor + 1 < groups_of core
      low true e passed = ltb-true (its_copy.cursor + 1) (groups_of core) e
      low false e passed = not_so (sym passed)

      by : (b : Bool) → w ≡ b → status_left after + copy_left after its_next ≤ status_left core + option_map_or (copy_left core) core.copy 0
      by true e = let was = before_so in let is_now = next_left true e in let more = status_more core wanted writes went.unstarted in omega (arith, was, is_now, more)
      by false e =
          let was = before_so in
          let is_now = next_left false e in
          let same_wanted = (went.still e).0 in
          let same_writes = (went.still e).1 in
          let same : status_left after ≡ status_left core = ap (λ (u : Status). status_left (record core { status = record core.status { wanted = u; writes = writes } })) same_wanted ∙ ap (λ (v : Writes). status_left (record core { status = record core.status { writes = v } })) same_writes in
          let short_so = low (nat_lt (its_copy.cursor + 1) (groups_of core)) refl e in
          omega (arith, was, is_now, same, short_so)

  pub end_less : left_of new.core < left_of core
  end_less = subst (λ (k : Core). left_of k < left_of core) (sym (core_is at old new sound on event)) (falls core after (record {
    lit = on;
    still_lit = on;
    lost = votes_same core after refl there_so;
    fewer = length_taken core.flying at event.row event.returns.there;
    waiting = refl;
    members = count_alike (λ (row : PvRow). is_there after row.disk) (λ (row : PvRow). is_there core row.disk) (λ row. there_so row.disk) core.descriptor.pvs;
    rest =
        let sums = sum_most (request_left core) (request_left after) core.requests (all_there (IsOpenOne core) (λ (o : Open). request_left after o ≤ request_left core o) core.requests request_so going.requests) in
        let pays = paid in
        omega (arith, sums, pays);
  }))

pub copy_write_end_falls : CopyWriteEndFalls
copy_write_end_falls at old new sound on event = end_less at old new sound on event
