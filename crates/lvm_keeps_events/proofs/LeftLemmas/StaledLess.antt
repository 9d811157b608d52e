-- What is left of a session in which more partitions are wanted stale: the same of its requests, and at most one update more.
use Rattle.std.proofs.Common.{◌&&◌, ◌*◌, ◌+◌, ◌++◌, ap, arith, Bool, if◌then◌else◌, List, None, not, Option, refl, Some, ◌||◌, ℕ, ◌∙◌, ◌≡◌, ◌≤◌}
use Rattle.std.specs.Option.{option_map_or}
use Rattle.std.specs.Prelude.{count_by}
use Rattle.lvm_num.specs.Disks.{has}
use Rattle.lvm_num.specs.declared.descriptor.PvRow.{PvRow}
use Rattle.lvm_num.specs.declared.place.Pp.{Pp}
use Rattle.lvm_num.specs.declared.status.Status.{Status}
use Rattle.lvm_mwc.specs.Cache.{flight_names, is_named}
use Rattle.lvm_path.specs.Asks.{is_write, lv_of}
use Rattle.lvm_path.specs.Targets.{is_begun}
use Rattle.lvm_path.specs.declared.request.Phase.{Phase}
use Rattle.lvm_path.specs.declared.request.Phase.TheVariants as phase
use Rattle.lvm_path.specs.declared.request.Request.{Request}
use Rattle.lvm_status.specs.declared.writes.Writes.{Writes}
use Rattle.lvm_session.specs.Enabled.{same_status}
use Rattle.lvm_session.specs.Judging.{copies_for, group_in, group_of, is_caught, is_changed, is_missing, is_settled, is_usable, is_waiting, mode_of, destination_aims, destinations_for, pps_of, same_pps}
use Rattle.lvm_session.specs.State.{Core}
use Rattle.lvm_session.specs.declared.open.Open.{Open}
use Rattle.lvm_num.specs.Modes.{is_passive}
use Rattle.lvm_session.specs.Left.{begun_left, if_so, is_brought_up, is_held, lacks_dirty, lacks_note, phase_left, destination_turns, read_left, request_left, status_left, turns_of, unbegun_left, update_work}
use Rattle.lvm_keeps.proofs.FallsLemmas.Pin.{sum_same}
use Rattle.lvm_keeps_events.proofs.Marking.{count_alike, filter_alike}
use Rattle.lvm_keeps_events.proofs.JudgingLemmas.Staling.{dirty_same, IsStaler, missing_same, staler, usable_same}
use Rattle.lvm_keeps_events.proofs.LeftLemmas.FallsStatus.{at_most_update}

module _ (core : Core) (due : Pp → Bool) (wanted : Status) (writes : Writes) (like : IsStaler due core.status.wanted wanted) where
  abbrev now : Core
  now = staler core due wanted writes like

  turns_same : (p : Pp) → turns_of now p ≡ turns_of core p
  turns_same p =
      ap (λ (b : Bool). if b then 0 else if is_usable now p then (if is_brought_up core p then 34 else 22) else if is_brought_up core p then 46 else if is_settled core p then 0 else 34) (missing_same core due wanted writes like p.disk)
      ∙ ap (λ (b : Bool). if is_missing core p.disk then 0 else if b then (if is_brought_up core p then 34 else 22) else if is_brought_up core p then 46 else if is_settled core p then 0 else 34) (usable_same core due wanted writes like p)

  place_same : (p : Pp) → destination_turns now p ≡ destination_turns core p
  place_same p = ap (λ (b : Bool). if not b && is_brought_up core p then 46 else 0) (missing_same core due wanted writes like p.disk)

  changed_same : (r : Request) → is_changed now r ≡ is_changed core r
  changed_same r = ap (λ (ps : List Pp). is_write r.ask && not (same_pps (pps_of r.targets.items) (ps ++ destination_aims core r.ask)))
      (filter_alike (λ (p : Pp). is_usable now p || is_caught core (group_in core r.ask) p) (λ (p : Pp). is_usable core p || is_caught core (group_in core r.ask) p) (λ p. ap (λ b. b || is_caught core (group_in core r.ask) p) (usable_same core due wanted writes like p)) (copies_for core r.ask))

  phase_same : (p : Phase) (r : Request) → phase_left p now r ≡ phase_left p core r
  phase_same phase.Held r = refl
  phase_same phase.WantEntry r = refl
  phase_same phase.WantRecord r = ap (λ n. 9 + 2 * n) (count_alike (lacks_note now r) (lacks_note core r)
      (λ t. ap (λ b. r.pinned && not b && not (is_named core.cache t.pp.disk (lv_of r.ask) (group_of r.ask)) && not (flight_names core.cache t.pp.disk (lv_of r.ask) (group_of r.ask))) (missing_same core due wanted writes like t.pp.disk)) r.targets.items)
  phase_same phase.Data r = refl
  phase_same phase.WantStatus r = refl
  phase_same phase.Landed r = refl

  unbegun_same : (r : Request) → unbegun_left now r ≡ unbegun_left core r
  unbegun_same r =
      let turns = sum_same (turns_of core) (turns_of now) turns_same (copies_for core r.ask) in
      let place = sum_same (destination_turns core) (destination_turns now) place_same (destinations_for core r.ask) in
      let dirty : if_so (lacks_dirty now r.ask) update_work ≡ if_so (lacks_dirty core r.ask) update_work = ap (λ b. if_so (is_passive (mode_of core r.ask) && not b) update_work) (dirty_same core due wanted writes like (lv_of r.ask)) in
      let changed_now : if_so (not (is_held r.phase) && is_changed now r) 12 ≡ if_so (not (is_held r.phase) && is_changed core r) 12 = ap (λ b. if_so (not (is_held r.phase) && b) 12) (changed_same r) in
      let phases = phase_same r.phase r in
      omega (arith, turns, place, dirty, changed_now, phases)

  pub staled_same : (x : Open) → request_left now x ≡ request_left core x
  staled_same x = ap (λ n. if_so (is_waiting x) (if is_write x.request.ask then (if is_begun x.request.targets.items then begun_left x.request else n) else read_left x.request.phase x.request)) (unbegun_same x.request)

-- ---- the update

-- where other things are wanted, and the writes of the update in flight are the same
pub status_more : (core : Core) (wanted : Status) (writes : Writes) → ((d : ℕ) → has writes.unstarted d ≡ has core.status.writes.unstarted d) → status_left (record core { status = record core.status { wanted = wanted; writes = writes } }) ≤ status_left core + 256
status_more core wanted writes same = by core.status.in_flight
  where
    unstarted : count_by (λ (r : PvRow). has writes.unstarted r.disk) core.status.group.pvs ≡ count_by (λ (r : PvRow). has core.status.writes.unstarted r.disk) core.status.group.pvs
    unstarted = count_alike (λ (r : PvRow). has writes.unstarted r.disk) (λ (r : PvRow). has core.status.writes.unstarted r.disk) (λ r. same r.disk) core.status.group.pvs

    by : (m : Option Status) → option_map_or (λ (u : Status). 2 * count_by (λ (r : PvRow). has writes.unstarted r.disk) core.status.group.pvs + if_so (not (same_status wanted u)) update_work) m (if_so (not (same_status wanted core.status.committed)) update_work)
        ≤ option_map_or (λ (u : Status). 2 * count_by (λ (r : PvRow). has core.status.writes.unstarted r.disk) core.status.group.pvs + if_so (not (same_status core.status.wanted u)) update_work) m (if_so (not (same_status core.status.wanted core.status.committed)) update_work) + 256
    by None = let high = at_most_update (not (same_status wanted core.status.committed)) in omega (arith, high)
    by (Some u) = let equal = unstarted in let high = at_most_update (not (same_status wanted u)) in omega (arith, equal, high)
