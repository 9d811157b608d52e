-- The end of a transfer of a request leaves less work.
use Rattle.std.proofs.Common.{◌&&◌, ◌*◌, ◌+◌, ◌<◌, ap, arith, Bool, false, if◌then◌else◌, length, List, None, not, Option, refl, slice_get, slice_set, Some, subst, sym, true, ◌||◌, ℕ, ◌∙◌, ◌≡◌, ◌≤◌}
use Rattle.std.specs.List.{AllByRecursion, list_any, remove}
use Rattle.std.specs.Option.{option_map_or}
use Rattle.lvm_num.specs.Disks.{has}
use Rattle.lvm_num.specs.declared.place.Pp.{Pp}
use Rattle.lvm_num.specs.declared.status.Status.{Status}
use Rattle.lvm_hold.specs.Waiting.{Waiting, without}
use Rattle.lvm_sched.specs.Writes.{is_waiting as is_unstarted}
use Rattle.lvm_num.specs.Descriptor.{is_pp}
use Rattle.lvm_num.proofs.Booleans.{not_so}
use Rattle.lvm_path.specs.Asks.{is_write}
use Rattle.lvm_path.specs.Targets.{are_over, end_state, is_done}
use Rattle.lvm_path.specs.declared.request.Phase.TheVariants as phase
use Rattle.lvm_path.specs.declared.target.Target.{Target}
use Rattle.lvm_status.specs.Update.{Stored}
use Rattle.lvm_status.specs.declared.writes.Writes.{Writes}
use Rattle.lvm_session.specs.Bringing.{after_copy_end, end_of, ends_if, hand_of, is_out, is_whole, marked_by_end, with_back, with_copy_end, with_end, is_held_stale}
use Rattle.lvm_session.specs.Judging.{is_missing, is_running, is_waiting}
use Rattle.lvm_session.specs.State.{Core, State}
use Rattle.lvm_session.specs.declared.bringing.CopyEnd.TheVariants as ending
use Rattle.lvm_session.specs.declared.bringing.OpenCopy.{OpenCopy}
use Rattle.lvm_session.specs.declared.bringing.Step.TheVariants as step
use Rattle.lvm_session.specs.declared.flown.Owner.TheVariants as owner
use Rattle.lvm_session.specs.declared.open.Open.{Open}
use Rattle.lvm_session.specs.declared.open.Power.TheVariants as power
use Rattle.lvm_session.specs.Ends.{given_back}
use Rattle.lvm_session.specs.Marks.{due_of, Entails, hits_copy, is_among, WantsStale}
use Rattle.lvm_session.specs.Left.{begun_left, copy_left, if_so, left_of, read_left, request_left, status_left, unbegun_left, update_work, waiting_targets, write_left}
use Rattle.lvm_session.specs.Sound.{count_if, IsGoing, IsSound}
use Rattle.lvm_keeps.proofs.LeftLemmas.Leaving.{left_same}
use Rattle.lvm_keeps.proofs.Lists.{count_same, count_set}
use Rattle.lvm_keeps.proofs.RequestsLemmas.{changed}
use Rattle.lvm_keeps_events.proofs.TargetsLemmas.{at_state}
use Rattle.lvm_keeps_events.proofs.EndsLemmas.CopyReadFail.{is_here}
use Rattle.lvm_keeps_events.proofs.DataEndsLemmas.{aim, aim_is, entails, going, long, mid, o, own, place, there, x}
use Rattle.lvm_keeps_events.proofs.JudgingLemmas.DuesMarks.{due_one}
use Rattle.lvm_keeps_events.proofs.JudgingLemmas.Entailing.{running}
use Rattle.lvm_keeps_events.proofs.SoundLemmas.Failing.{parted}
use Rattle.lvm_keeps_events.proofs.RequestsLemmas.{begun_now, begun_so, in_data, none_done, not_over, waits, was_flying}
use Rattle.lvm_keeps_events.proofs.Lists.{or_false}
use Rattle.lvm_keeps_events.proofs.JudgingLemmas.Staling.{IsStaled, IsStaler, members_same, staled, staler, there_same}
use Rattle.lvm_keeps_events.specs.DataEnds.{EndsData}
use Rattle.lvm_keeps_events.proofs.LeftLemmas.EndedLess.{copy_high, request_less}
use Rattle.lvm_keeps_events.proofs.EndFallsLemmas.Falling.{each_less, falls, IsLess, sum_set_most, votes_same}
use Rattle.lvm_keeps_events.proofs.LeftLemmas.StaledLess.{staled_same, status_more}
use Rattle.lvm_keeps_events.specs.EndFalls.{DataEndFalls}
use Rattle.lvm_keeps_events.proofs.Finding.{length_taken}

module _ (at id target : ℕ) (ok : Bool) (old new : State) (sound : IsSound old) (on : old.core.power ≡ power.On) (event : EndsData old new at id target ok) where
  abbrev core : Core
  core = old.core

  abbrev sure : IsGoing core
  sure = going at id target ok old new sound on event

  abbrev its : Open
  its = o at id target ok old new sound on event

  abbrev learned_so : Open
  learned_so = x at id target ok old new sound on event

  abbrev its_place : ℕ
  its_place = place at id target ok old new sound on event

  abbrev its_aim : Target
  its_aim = aim at id target ok old new sound on event

  its_there : slice_get core.requests its_place ≡ Some its
  its_there = there at id target ok old new sound on event

  its_aim_is : slice_get its.request.targets.items target ≡ Some its_aim
  its_aim_is = aim_is at id target ok old new sound on event

  its_own : event.row.owner ≡ owner.Data its.request.id target
  its_own = own at id target ok old new sound on event

  its_long : ok ≡ true → length event.buf.sectors ≡ 256
  its_long = long at id target ok old new sound on event

  abbrev over : Bool
  over = is_write its.request.ask && are_over learned_so.request.targets.items

  waiting : is_waiting its ≡ true
  waiting = waits core sure its_place target its its_there its_aim its_aim_is at event.row event.returns.there its_own ok event.buf its_long

  -- ---- the request itself

  same_wait : waiting_targets learned_so.request ≡ waiting_targets its.request
  same_wait =
      let all = count_set (λ (t : Target). is_unstarted t.state) its.request.targets.items target its_aim (at_state its_aim (end_state ok)) its_aim_is in
      let before : count_if (is_unstarted its_aim.state) ≡ 0 = ap (λ st. count_if (is_unstarted st)) (was_flying core sure its_place target its its_there its_aim its_aim_is at event.row event.returns.there its_own ok event.buf its_long) in
      let after_it = none ok in
      omega (arith, all, before, after_it)
    where
      none : (b : Bool) → count_if (is_unstarted (end_state b)) ≡ 0
      none true = refl
      none false = refl

  -- once its transfers have all ended it is left with an update less
  pub its_less : (k : Core) → request_left k learned_so + if_so over 256 ≤ request_left core its
  its_less k = by (is_write its.request.ask) refl
    where
      left_so : (c : Core) (y : Open) → is_waiting y ≡ true → request_left c y ≡ (if is_write y.request.ask then write_left c y.request else read_left y.request.phase y.request)
      left_so c y e = ap (λ b. if_so b (if is_write y.request.ask then write_left c y.request else read_left y.request.phase y.request)) e

      end_left : (b : Bool) → if_so (not b) update_work + if_so b 256 ≤ 256
      end_left true = omega arith
      end_left false = omega arith

      by : (w : Bool) → is_write its.request.ask ≡ w → request_left k learned_so + if_so over 256 ≤ request_left core its
      by true write =
          let new_is : request_left k learned_so ≡ begun_left learned_so.request = left_so k learned_so waiting ∙ ap (λ b. if b then write_left k learned_so.request else read_left learned_so.request.phase learned_so.request) write
          ∙ ap (λ b. if b then begun_left learned_so.request else unbegun_left k learned_so.request) (begun_now core sure its_place target its its_there its_aim its_aim_is at event.row event.returns.there its_own ok event.buf its_long) in
          let old_is : request_left core its ≡ begun_left its.request = left_so core its waiting ∙ ap (λ b. if b then write_left core its.request else read_left its.request.phase its.request) write
          ∙ ap (λ b. if b then begun_left its.request else unbegun_left core its.request) (begun_so core sure its_place target its its_there its_aim its_aim_is at event.row event.returns.there its_own ok event.buf its_long) in
          let was_end : if_so (not (are_over its.request.targets.items)) update_work ≡ 256 = ap (λ b. if_so (not b) update_work) (not_over core sure its_place target its its_there its_aim its_aim_is at event.row event.returns.there its_own ok event.buf its_long) in
          let ends : if_so over 256 ≡ if_so (are_over learned_so.request.targets.items) 256 = ap (λ b. if_so (b && are_over learned_so.request.targets.items) 256) write in
          let same = same_wait in
          let end_so = end_left (are_over learned_so.request.targets.items) in
          omega (arith, new_is, old_is, was_end, ends, same, end_so)
      by false read =
          let none : if_so over 256 ≡ 0 = ap (λ b. if_so (b && are_over learned_so.request.targets.items) 256) read in
          let in_phase : learned_so.request.phase ≡ phase.Data = ap (λ (b : Bool). if b && are_over learned_so.request.targets.items then phase.WantStatus else its.request.phase) read ∙ data_so in
          let new_is : request_left k learned_so ≡ read_left phase.Data learned_so.request = left_so k learned_so waiting ∙ ap (λ b. if b then write_left k learned_so.request else read_left learned_so.request.phase learned_so.request) read ∙ ap (λ p. read_left p learned_so.request) in_phase in
          let old_is : request_left core its ≡ 1 + 2 * waiting_targets its.request = left_so core its waiting ∙ ap (λ b. if b then write_left core its.request else read_left its.request.phase its.request) read ∙ ap (λ p. read_left p its.request) data_so
          ∙ ap (λ b. if b then 1 else 1 + 2 * waiting_targets its.request) (none_done core sure its_place target its its_there its_aim its_aim_is at event.row event.returns.there its_own ok event.buf its_long read) in
          let same = same_wait in
          let low = at_most (list_any (λ (t : Target). is_done t.state) learned_so.request.targets.items) (waiting_targets learned_so.request) in
          omega (arith, none, new_is, old_is, same, low)
        where
          data_so : its.request.phase ≡ phase.Data
          data_so = in_data core sure its_place target its its_there its_aim its_aim_is at event.row event.returns.there its_own ok event.buf its_long

          at_most : (b : Bool) (n : ℕ) → (if b then 1 else 1 + 2 * n) ≤ 1 + 2 * n
          at_most true n = omega arith
          at_most false n = omega arith

  -- ---- all of it

  -- a core in which it has learned so
  module _ (queue : Waiting) (copy : Option OpenCopy) (pool : List Bool) (due : Pp → Bool) (wanted : Status) (writes : Writes) (like : IsStaler due core.status.wanted wanted)
      (unstarted : (d : ℕ) → has writes.unstarted d ≡ has core.status.writes.unstarted d) (pool_now : List Bool) (less : (y : Open) → request_left (parted core queue copy pool) y ≤ request_left core y)
      (paid : status_left (record core { status = record core.status { wanted = wanted; writes = writes } }) + option_map_or (copy_left core) copy 0 ≤ status_left core + if_so over 256 + option_map_or (copy_left core) core.copy 0) where
    abbrev marked : Core
    marked = staler (parted core queue copy pool) due wanted writes like

    abbrev after : Core
    after = changed marked core.history (slice_set core.requests its_place learned_so) queue copy pool_now (remove core.flying at) core.cache.entries core.last

    all_less : AllByRecursion (λ (y : Open). request_left after y ≤ request_left core y) core.requests
    all_less = each_less (request_left core) (request_left after) one_less_so core.requests
      where
        one_less_so : (y : Open) → request_left after y ≤ request_left core y
        one_less_so y =
            let a = left_same marked core.history (slice_set core.requests its_place learned_so) queue pool_now (remove core.flying at) core.cache.entries core.last y in
            let b = staled_same (parted core queue copy pool) due wanted writes like y in
            let d = less y in
            omega (arith, a, b, d)

    pub is_less : IsLess core after
    is_less = record {
      lit = on;
      still_lit = on;
      lost = votes_same core after refl (λ d. there_same (parted core queue copy pool) due wanted writes like d);
      fewer = length_taken core.flying at event.row event.returns.there;
      waiting = count_same is_waiting core.requests its_place its learned_so its_there refl;
      members = members_same (parted core queue copy pool) due wanted writes like;
      rest =
          let sums = sum_set_most (request_left core) (request_left after) (if_so over 256) core.requests its_place its learned_so its_there (its_less after) all_less in
          let pays = paid in
          omega (arith, sums, pays);
    }

  stays_less : option_map_or (hits_copy core learned_so ok its_aim.pp) core.copy false ≡ false → WantsStale (λ q. is_among (due_of core learned_so.request) q || false) core.status new.core.status
      → new.core ≡ record (mid at id target ok old new sound on event learned_so) { status = new.core.status } → left_of new.core < left_of core
  stays_less unhit marks core_is = subst (λ (k : Core). left_of k < left_of core) (sym (core_is ∙ ap (λ (u : Stored). record (mid at id target ok old new sound on event learned_so) { status = u }) stale.is))
      (falls core (after core.queue core.copy core.pool (λ q. is_among (due_of core learned_so.request) q || false) new.core.status.wanted new.core.status.writes stale.like stale.unstarted (with_back core.pool (given_back its ok event.buf)) (λ y. omega arith) (paid over refl))
      (is_less core.queue core.copy core.pool (λ q. is_among (due_of core learned_so.request) q || false) new.core.status.wanted new.core.status.writes stale.like stale.unstarted (with_back core.pool (given_back its ok event.buf)) (λ y. omega arith) (paid over refl)))
    where
      stale : IsStaled (λ q. is_among (due_of core learned_so.request) q || false) core.status new.core.status
      stale = staled (λ q. is_among (due_of core learned_so.request) q || false) core.status new.core.status sure.status marks

      paid : (b : Bool) → over ≡ b → status_left (record core { status = record core.status { wanted = new.core.status.wanted; writes = new.core.status.writes } }) + option_map_or (copy_left core) core.copy 0 ≤ status_left core + if_so over 256 + option_map_or (copy_left core) core.copy 0
      paid true e = let more = status_more core new.core.status.wanted new.core.status.writes stale.unstarted in let pays : if_so over 256 ≡ 256 = ap (λ b. if_so b 256) e in omega (arith, more, pays)
      paid false e =
          let same : new.core.status ≡ core.status = marks.same (λ p d. not_so (sym e ∙ (due_one core learned_so.request p (sym (or_false (is_among (due_of core learned_so.request) p)) ∙ d)).over)) in
          let equal : status_left (record core { status = record core.status { wanted = new.core.status.wanted; writes = new.core.status.writes } }) ≡ status_left core = ap (λ (u : Stored). status_left (record core { status = record core.status { wanted = u.wanted; writes = u.writes } })) same in
          omega (arith, equal)

  fails_less : (c : OpenCopy) → core.copy ≡ Some c → hits_copy core learned_so ok its_aim.pp c ≡ true
      → WantsStale (λ q. is_among (due_of core learned_so.request) q || option_map_or (λ (k : OpenCopy). is_whole core k && is_pp q k.pp && (not k.moves || is_held_stale core k.pp)) core.copy false) core.status new.core.status
      → new.core ≡ record (after_copy_end (mid at id target ok old new sound on event learned_so) c ending.SyncFailed) { status = new.core.status } → left_of new.core < left_of core
  fails_less c is hit marks core_is = subst (λ (k : Core). left_of k < left_of core) (sym (core_is ∙ ap (λ (u : Stored). record (after_copy_end (mid at id target ok old new sound on event learned_so) c ending.SyncFailed) { status = u }) stale.is))
      (falls core (after queue_so (Some (with_copy_end c ending.SyncFailed)) (with_back core.pool (hand_of c.step)) due_so new.core.status.wanted new.core.status.writes stale.like stale.unstarted pool_so less paid)
      (is_less queue_so (Some (with_copy_end c ending.SyncFailed)) (with_back core.pool (hand_of c.step)) due_so new.core.status.wanted new.core.status.writes stale.like stale.unstarted pool_so less paid))
    where
      due_so : Pp → Bool
      due_so q = is_among (due_of core learned_so.request) q || option_map_or (λ (k : OpenCopy). is_whole core k && is_pp q k.pp && (not k.moves || is_held_stale core k.pp)) core.copy false

      stale : IsStaled due_so core.status new.core.status
      stale = staled due_so core.status new.core.status sure.status marks

      queue_so : Waiting
      queue_so = if is_out c.step then core.queue else record core.queue { rows = without c.place core.queue.rows }

      pool_so : List Bool
      pool_so = with_back (with_back core.pool (given_back its ok event.buf)) (hand_of c.step)

      runs : is_running c ≡ true
      runs = running core sure its_place target its its_there its_aim its_aim_is at event.row event.returns.there its_own ok event.buf its_long c is hit

      here : is_missing core c.pp.disk ≡ false
      here = is_here core c runs (sym (ap (λ m. option_map_or (end_of core) m None) is) ∙ sure.reviewed)

      less : (y : Open) → request_left (parted core queue_so (Some (with_copy_end c ending.SyncFailed)) (with_back core.pool (hand_of c.step))) y ≤ request_left core y
      less y = request_less core c is runs here queue_so (with_back core.pool (hand_of c.step)) core.flying (if is_out c.step then c.step else step.Idle) c.tried ending.SyncFailed y

      paid : status_left (record core { status = record core.status { wanted = new.core.status.wanted; writes = new.core.status.writes } }) + 0 ≤ status_left core + if_so over 256 + option_map_or (copy_left core) core.copy 0
      paid = let more = status_more core new.core.status.wanted new.core.status.writes stale.unstarted in
          let high = copy_high core c is runs here queue_so (with_back core.pool (hand_of c.step)) core.flying (if is_out c.step then c.step else step.Idle) c.tried ending.SyncFailed in
          omega (arith, more, high)

  pub end_less : left_of new.core < left_of core
  end_less = by (option_map_or (hits_copy core learned_so ok its_aim.pp) core.copy false) refl entailed.marks entailed.is
    where
      entailed : Entails (mid at id target ok old new sound on event learned_so) learned_so ok its_aim.pp new.core
      entailed = entails at id target ok old new sound on event

      by : (b : Bool) → option_map_or (hits_copy core learned_so ok its_aim.pp) core.copy false ≡ b
          → WantsStale (λ q. is_among (due_of core learned_so.request) q || marked_by_end (mid at id target ok old new sound on event learned_so) (ends_if b ending.SyncFailed) q) core.status new.core.status
          → new.core ≡ record (with_end (mid at id target ok old new sound on event learned_so) (ends_if b ending.SyncFailed)) { status = new.core.status } → left_of new.core < left_of core
      by false unhit marks core_is = stays_less unhit marks core_is
      by true hit marks core_is = of core.copy refl hit
        where
          of : (m : Option OpenCopy) → core.copy ≡ m → option_map_or (hits_copy core learned_so ok its_aim.pp) m false ≡ true → left_of new.core < left_of core
          of None is e = not_so e
          of (Some c) is e = fails_less c is e marks (core_is ∙ ap (λ m. record (option_map_or (λ (k : OpenCopy). after_copy_end (mid at id target ok old new sound on event learned_so) k ending.SyncFailed) m (mid at id target ok old new sound on event learned_so)) { status = new.core.status }) is)

pub data_end_falls : DataEndFalls
data_end_falls at id target ok old new sound on event = end_less at id target ok old new sound on event
