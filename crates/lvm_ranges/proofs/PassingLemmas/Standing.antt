-- A session in which something isn't settled doesn't stand still.
use Rattle.std.proofs.Common.{◌≡◌, ◌⊎◌, inl, inr, ◌≤◌, ℕ, Bool, true, false, ◌&&◌, ◌||◌, not, List, [], ◌∷◌, Option, Some, None, length, if◌then◌else◌, refl, sym, ap, ◌∙◌, arith}
use Rattle.std.specs.Prelude.{count_by, is_none, slice_index_or}
use Rattle.std.specs.List.{list_any, AllByRecursion}
use Rattle.std.specs.Option.{option_map_or}
use Rattle.std.proofs.lemmas.Bool.{or_parts, not-false}
use Rattle.lvm_num.specs.declared.descriptor.Descriptor.{Descriptor}
use Rattle.lvm_num.specs.declared.descriptor.PvRow.{PvRow}
use Rattle.lvm_num.specs.declared.status.Status.{Status}
use Rattle.lvm_num.specs.Buffer.{Buffer}
use Rattle.lvm_num.specs.Descriptor.{is_member}
use Rattle.lvm_num.specs.Disks.{has}
use Rattle.lvm_num.specs.Status.{calls_missing}
use Rattle.lvm_num.specs.Votes.{is_enough_to_write, votes_in}
use Rattle.lvm_num.proofs.Booleans.{none_if}
use Rattle.lvm_num.proofs.Lists.{all_false}
use Rattle.lvm_disk.specs.Device.{Flight}
use Rattle.lvm_status.specs.Update.{is_held, is_owed, is_there as is_there_so, seen}
use Rattle.lvm_session.specs.declared.bringing.OpenCopy.{OpenCopy}
use Rattle.lvm_session.specs.declared.event.Event.{Event}
use Rattle.lvm_session.specs.declared.event.Event.TheVariants as event
use Rattle.lvm_session.specs.declared.flown.Owner.TheVariants as owner
use Rattle.lvm_session.specs.declared.open.Open.{Open}
use Rattle.lvm_session.specs.State.{Core, State, is_there, votes_there}
use Rattle.lvm_session.specs.Dark.{hand_of_copy}
use Rattle.lvm_session.specs.Enabled.{first_of, has_buffer, is_status_due, landing, or_next, parts_to_settle, parts_to_start, same_status}
use Rattle.lvm_session.specs.Judging.{is_beside_copy, is_move_done, is_waiting}
use Rattle.lvm_session.specs.Requests.{IsOpenOne}
use Rattle.lvm_session.specs.Sound.{IsGoing, IsOn, IsSound, count_if, has_number, is_dark, is_hand}
use Rattle.lvm_keeps.proofs.Lists.{count_cons}
use Rattle.lvm_keeps.proofs.VotesLemmas.{enough_more, more_votes}
use Rattle.lvm_driver.proofs.EndedLemmas.{has_ended, none_out, stands}
use Rattle.lvm_ranges.proofs.passed.KeepsEvents.{none_waits_at_all}
use Rattle.lvm_ranges.specs.passed.Driver.{IsDrained}
use Rattle.lvm_ranges.specs.Passing.{Runs}

-- ---- tests

or_none : (a b : Option Event) → or_next a b ≡ None → (a ≡ None) × (b ≡ None)
or_none None b e = (refl, e)
or_none (Some it) b e = absurd (cc e)

module _ (s : State) (sound : IsSound s) (drained : IsDrained s) where
  abbrev core : Core
  core = s.core

  on : IsOn s
  on = sound.on drained.on

  abbrev going : IsGoing core
  going = on.going

  -- ---- a copy that is open has ended

  pub still_ended : Runs core → ⊥
  still_ended runs = has_ended s sound drained runs.0 runs.1

  -- ---- without a copy no update is in flight

  module _ (closed : core.copy ≡ None) where
    hands_none : (os : List Open) → AllByRecursion (IsOpenOne core) os → list_any is_waiting os ≡ false → count_by (λ (o : Open). is_hand 0 o.got) os ≡ 0
    hands_none [] all e = refl
    hands_none (o ∷ os) all e =
        let it = or_parts (is_waiting o) (list_any is_waiting os) e in
        let more = count_cons (λ (x : Open). is_hand 0 x.got) o os in
        let here : count_if (is_hand 0 o.got) ≡ 0 = ap (λ m. count_if (is_hand 0 m)) (all.0.over it.0).hand in
        let rest = hands_none os all.1 it.1 in
        omega (arith, more, here, rest)

    none_wait : list_any is_waiting core.requests ≡ false
    none_wait = none_waits_at_all core (λ ask. ap (λ m. option_map_or (λ (c : OpenCopy). is_move_done core c && is_beside_copy core ask c) m false) closed) core.requests (stands s sound drained).0

    first_free : count_if (slice_index_or core.pool 0 false) ≡ 0
    first_free =
        let all = sound.none_lost (ap is_dark drained.on) 0 in
        let a : count_by (λ (f : Flight). has_number 0 f.buf) s.device.flights ≡ 0 = ap (λ (fs : List Flight). count_by (λ (f : Flight). has_number 0 f.buf) fs) drained.idle in
        let b : count_by (has_number 0) s.device.freed ≡ 0 = ap (λ (bs : List Buffer). count_by (has_number 0) bs) (sound.lit (ap is_dark drained.on)).freed in
        let c : count_if (is_hand 0 (hand_of_copy core.copy)) ≡ 0 = ap (λ (m : Option OpenCopy). count_if (is_hand 0 (hand_of_copy m))) closed in
        let d = hands_none core.requests going.requests none_wait in
        omega (arith, all, a, b, c, d)

    buffer : has_buffer core ≡ true
    buffer = by core.pool sound.fitting.a_buffer first_free
      where
        by : (pool : List Bool) → 1 ≤ length pool → count_if (slice_index_or pool 0 false) ≡ 0 → list_any not pool ≡ true
        by [] some free = absurd (omega (arith, some))
        by (true ∷ pool) some free = absurd (omega (arith, free))
        by (false ∷ pool) some free = refl

    starts : (if has_buffer core then (if is_status_due core then Some event.StartStatus else None) else None) ≡ None
    starts =
        let both = or_none (first_of parts_to_settle core) (first_of parts_to_start core) (sym (ap (λ (b : Bool). if b then landing core else or_next (first_of parts_to_settle core) (first_of parts_to_start core)) drained.votes) ∙ drained.none) in
        (or_none (if has_buffer core then (if is_status_due core then Some event.StartStatus else None) else None) _ both.1).0

    no_status : is_status_due core ≡ false
    no_status = none_if (is_status_due core) event.StartStatus (sym (ap (λ (b : Bool). if b then (if is_status_due core then Some event.StartStatus else None) else None) buffer) ∙ starts)

    pub still_settled : core.status.in_flight ≡ None
    still_settled = by core.status.in_flight refl
      where
        -- an update of which nothing is owed is held by the members that are there
        held : (t : Status) → core.status.in_flight ≡ Some t → list_any (λ (r : PvRow). has core.status.writes.unstarted r.disk) core.status.group.pvs ≡ false → is_held (seen core.status) ≡ true
        held t flies_so none = enough_more core.status.group (votes_in core.status.group (is_there core)) (votes_in core.status.group (seen core.status).written)
            (more_votes core.status.group (is_there core) (seen core.status).written core.status.group.pvs (each core.status.group.pvs (all_false (λ (r : PvRow). has core.status.writes.unstarted r.disk) core.status.group.pvs none))) enough
          where
            enough : is_enough_to_write core.status.group (votes_in core.status.group (is_there core)) ≡ true
            enough = ap (λ (d : Descriptor). is_enough_to_write d (votes_in d (is_there core))) going.fitting.group ∙ not-false (is_enough_to_write core.descriptor (votes_there core)) drained.votes

            there_is : (d : ℕ) → is_there core d ≡ true → is_there_so (seen core.status) d ≡ true
            there_is d e = ap (λ (g : Descriptor). is_member g d && not (calls_missing core.status.wanted d)) going.fitting.group ∙ e

            each : (rows : List PvRow) → AllByRecursion (λ (r : PvRow). has core.status.writes.unstarted r.disk ≡ false) rows → AllByRecursion (λ (r : PvRow). is_there core r.disk ≡ true → (seen core.status).written r.disk ≡ true) rows
            each [] all = tt
            each (r ∷ rows) all = (λ e. sym (ap (λ b. b || (has core.status.writes.started r.disk || has core.status.writes.written r.disk)) all.0 ∙ ap (λ b. b || has core.status.writes.written r.disk) (none_out s sound drained (owner.Status r.disk))) ∙ going.status.each t flies_so r.disk (there_is r.disk e), each rows all.1)

        not_owed : (rows : List PvRow) → list_any (λ (r : PvRow). has core.status.writes.unstarted r.disk) rows ≡ false → list_any (λ (r : PvRow). has core.status.writes.unstarted r.disk || has core.status.writes.started r.disk) rows ≡ false
        not_owed [] e = refl
        not_owed (r ∷ rows) e = let it = or_parts (has core.status.writes.unstarted r.disk) (list_any (λ (q : PvRow). has core.status.writes.unstarted q.disk) rows) e in
            ap (λ b. (b || has core.status.writes.started r.disk) || list_any (λ (q : PvRow). has core.status.writes.unstarted q.disk || has core.status.writes.started q.disk) rows) it.0
            ∙ ap (λ b. b || list_any (λ (q : PvRow). has core.status.writes.unstarted q.disk || has core.status.writes.started q.disk) rows) (none_out s sound drained (owner.Status r.disk)) ∙ not_owed rows it.1

        open_none : (t : Status) → core.status.in_flight ≡ Some t → list_any (λ (r : PvRow). has core.status.writes.unstarted r.disk) core.status.group.pvs ≡ false → (is_owed (seen core.status) ≡ true) ⊎ (is_held (seen core.status) ≡ false) → false ≡ true
        open_none t is none (inl owed) = sym (not_owed core.status.group.pvs none) ∙ owed
        open_none t is none (inr unheld) = sym unheld ∙ held t is none

        due_as : (m : Option Status) → core.status.in_flight ≡ m → (if is_none m then not (same_status core.status.wanted core.status.committed) else list_any (λ (r : PvRow). has core.status.writes.unstarted r.disk) core.status.group.pvs) ≡ false
        due_as m is = sym (ap (λ (m : Option Status). if is_none m then not (same_status core.status.wanted core.status.committed) else list_any (λ (r : PvRow). has core.status.writes.unstarted r.disk) core.status.group.pvs) is) ∙ no_status

        by : (m : Option Status) → core.status.in_flight ≡ m → core.status.in_flight ≡ None
        by None is = is
        by (Some t) is = absurd (let e = open_none t is (due_as (Some t) is) (going.status.open_still t is) in cc e)
