-- Where turns find nothing to do beside a move that is done, nothing is under way, and what is wanted is committed.
use Rattle.std.proofs.Common.{◌≡◌, ◌≢◌, ◌⊎◌, inl, inr, ◌≤◌, ◌<◌, ◌+◌, ◌^◌, ℕ, zero, suc, Bool, true, false, ◌&&◌, ◌||◌, not, List, [], ◌∷◌, Option, Some, None, get_or, length, replicate, slice_get, if◌then◌else◌, refl, sym, ap, subst, ◌∙◌, arith}
use Rattle.std.specs.Prelude.{◌==◌, IfSome, IsTrue, count_by, is_none, is_some, slice_index_or}
use Rattle.std.specs.List.{list_any, AllByRecursion}
use Rattle.std.specs.Option.{option_map_or}
use Rattle.std.proofs.lemmas.Bool.{and_from as and_of, eqb-true, not-false, or_parts}
use Rattle.std.proofs.lemmas.List.Folds.{Any-from_list_any}
use Rattle.std.proofs.lemmas.Option.{slice_get-get_or}
use Rattle.lvm_num.specs.Buffer.{Buffer}
use Rattle.lvm_num.specs.declared.descriptor.Descriptor.{Descriptor}
use Rattle.lvm_num.specs.declared.descriptor.PvRow.{PvRow}
use Rattle.lvm_num.specs.declared.status.Status.{Status}
use Rattle.lvm_num.specs.Descriptor.{is_member}
use Rattle.lvm_num.specs.Disks.{has}
use Rattle.lvm_num.specs.Status.{calls_missing}
use Rattle.lvm_num.specs.Votes.{CanWrite, is_enough_to_write, votes_in}
use Rattle.lvm_num.proofs.Booleans.{none_if, not_so}
use Rattle.lvm_num.proofs.Lists.{all_back, all_false}
use Rattle.lvm_disk.specs.Device.{Flight}
use Rattle.lvm_path.specs.declared.request.Phase.{Phase}
use Rattle.lvm_path.specs.declared.request.Phase.TheVariants as phase
use Rattle.lvm_path.specs.declared.target.Target.{Target}
use Rattle.lvm_path.specs.Asks.{is_write}
use Rattle.lvm_path.specs.Targets.{is_done}
use Rattle.lvm_status.specs.Update.{is_held, is_owed, is_there as is_there_so, members_there, seen}
use Rattle.lvm_write.specs.Written.{HasRoom}
use Rattle.lvm_commit.specs.Settling.{MaySettle, many_there}
use Rattle.lvm_session.specs.declared.bringing.OpenCopy.{OpenCopy}
use Rattle.lvm_session.specs.declared.answers.CopyState.{CopyState}
use Rattle.lvm_session.specs.declared.answers.CopyState.TheVariants as copy
use Rattle.lvm_session.specs.declared.bringing.CopyEnd.{CopyEnd}
use Rattle.lvm_session.specs.declared.bringing.CopyEnd.TheVariants as ending
use Rattle.lvm_session.specs.Calls.{is_still_aimed, state_at_end, state_of_copy}
use Rattle.lvm_session.proofs.MovesLemmas.{move_of}
use Rattle.lvm_session.specs.declared.event.Event.{Event}
use Rattle.lvm_session.specs.declared.event.Event.TheVariants as event
use Rattle.lvm_session.specs.declared.flown.Flown.{Flown}
use Rattle.lvm_session.specs.declared.flown.Owner.{Owner}
use Rattle.lvm_session.specs.declared.flown.Owner.TheVariants as owner
use Rattle.lvm_session.specs.declared.open.Open.{Open}
use Rattle.lvm_session.specs.Bringing.{end_by_sources, end_of, ends_if, is_cleared, is_out, is_whole}
use Rattle.lvm_session.specs.Dark.{hand_of_copy}
use Rattle.lvm_session.specs.Enabled.{first_of, has_buffer, is_status_due, landing, or_next, parts_to_settle, parts_to_start, same_status}
use Rattle.lvm_session.specs.Judging.{is_beside_copy, is_held_by_move, is_missing, is_move_done, is_past_held, is_running, is_under_way, is_waiting, stays_fresh}
use Rattle.lvm_session.specs.Left.{copy_updates}
use Rattle.lvm_session.specs.Owners.{flies, same_owner}
use Rattle.lvm_session.specs.Requests.{IsOpenOne, IsPhase}
use Rattle.lvm_session.specs.Sound.{IsCopy, IsGoing, IsMove, IsOn, IsSound, count_if, has_number, is_dark, is_hand}
use Rattle.lvm_session.specs.State.{Core, State, is_there, votes_there}
use Rattle.lvm_keeps.proofs.Lists.{count_cons}
use Rattle.lvm_keeps.proofs.Small.{both, is_false}
use Rattle.lvm_keeps.proofs.VotesLemmas.{enough_more, more_votes}
use Rattle.lvm_keeps_events.proofs.KeepsFallsLemmas.Standing.{never_stands_still}
use Rattle.lvm_move.specs.Moving.{MayWriteMove, missing_destination}
use Rattle.lvm_move_keeps.specs.Drained.{DoneIsJudged, DoneMayCommit, DrainedIsDone, IsDrainedMoving, MayCommitMove}
use Rattle.lvm_move_keeps.specs.Keeping.{HasMovedTo, IsDoneMoving}
use Rattle.lvm_move_keeps.specs.Waiting.{IsUnadmitted}
use Rattle.lvm_move_keeps.proofs.EndingLemmas.{none_flown}
use Rattle.lvm_move_keeps.proofs.IdleLemmas.{IsWholeMove, copy_is_two, no_hand, whole_move}
use Rattle.lvm_move_keeps.proofs.MembersLemmas.{many_there_is}
use Rattle.lvm_move_keeps.proofs.SameLemmas.{status_is}

-- ---- tests

or_none : (a b : Option Event) → or_next a b ≡ None → (a ≡ None) × (b ≡ None)
or_none None b e = (refl, e)
or_none (Some it) b e = absurd (cc e)

-- a request that isn't admitted, or has landed, has nothing in hand
pub empty_held : (core : Core) (o : Open) → IsOpenOne core o → IsUnadmitted o → o.got ≡ None
empty_held core o it held = by (is_waiting o) refl
  where
    none_some : (m : Option Buffer) → is_some m ≡ false → m ≡ None
    none_some None e = refl
    none_some (Some buf) e = absurd (cc e)

    and_none : (b : Bool) → b && false ≡ false
    and_none true = refl
    and_none false = refl

    by : (b : Bool) → is_waiting o ≡ b → o.got ≡ None
    by false e = (it.over e).hand
    by true e =
        let shape = (it.waits e).shape in
        let none : o.request.targets.items ≡ [] = (subst (λ (p : Phase). IsPhase p o) (held e) shape.phase_is).0 in
        none_some o.got (shape.hand ∙ ap (λ (ts : List Target). not (is_write o.request.ask) && list_any (λ (t : Target). is_done t.state) ts) none ∙ and_none (not (is_write o.request.ask)))

module _ (s : State) (c : OpenCopy) (sound : IsSound s) (drained : IsDrainedMoving s c) where
  abbrev core : Core
  core = s.core

  on : IsOn s
  on = sound.on drained.on

  abbrev going : IsGoing core
  going = on.going

  -- ---- nothing is out

  flying : core.flying ≡ []
  flying = none_flown core core.flying s.device.flights on.rows drained.idle

  none_out : (who : Owner) → flies core who ≡ false
  none_out who = by (flies core who) (sym (ap (λ (rows : List Flown). count_by (λ (f : Flown). same_owner who f.owner) rows) flying) ∙ going.owned who)
    where
      by : (b : Bool) → count_by (λ (f : Flown). same_owner who f.owner) [] ≡ count_if b → b ≡ false
      by false e = refl
      by true e = absurd (omega (arith, e))

  -- ---- each request has landed, or isn't admitted

  calm : is_under_way core c ≡ false
  calm = is_false (is_under_way core c) (both (c.moves && is_running c && is_whole core c && stays_fresh core c.pp) (not (is_under_way core c)) drained.done).1

  stands : list_any (λ (o : Open). is_waiting o && not (is_held_by_move core o.request.ask)) core.requests ≡ false
  stands = (never_stands_still s sound drained.on drained.votes drained.none drained.idle).0

  beside : (o : Open) → is_held_by_move core o.request.ask ≡ true → is_beside_copy core o.request.ask c ≡ true
  beside o held = (both (is_move_done core c) (is_beside_copy core o.request.ask c) (sym (ap (λ m. option_map_or (λ (k : OpenCopy). is_move_done core k && is_beside_copy core o.request.ask k) m false) drained.is_open) ∙ held)).1

  unadmitted_one : (o : Open) → IsOpenOne core o → is_waiting o && not (is_held_by_move core o.request.ask) ≡ false → is_waiting o && is_past_held o.request.phase && is_beside_copy core o.request.ask c ≡ false → IsUnadmitted o
  unadmitted_one o it stands_not unused waits = by o.request.phase refl
    where
      held : is_held_by_move core o.request.ask ≡ true
      held = by_test (is_held_by_move core o.request.ask) refl
        where
          by_test : (b : Bool) → is_held_by_move core o.request.ask ≡ b → is_held_by_move core o.request.ask ≡ true
          by_test true e = e
          by_test false e = not_so (sym stands_not ∙ and_of (is_waiting o) (not (is_held_by_move core o.request.ask)) waits (ap not e))

      not_past : is_past_held o.request.phase ≡ true → ⊥
      not_past past = not_so (sym unused ∙ and_of (is_waiting o && is_past_held o.request.phase) (is_beside_copy core o.request.ask c) (and_of (is_waiting o) (is_past_held o.request.phase) waits past) (beside o held))

      by : (p : Phase) → o.request.phase ≡ p → o.request.phase ≡ phase.Held
      by phase.Held e = e
      by phase.WantEntry e = absurd (not_past (ap is_past_held e))
      by phase.WantRecord e = absurd (not_past (ap is_past_held e))
      by phase.Data e = absurd (not_past (ap is_past_held e))
      by phase.WantStatus e = absurd (not_past (ap is_past_held e))
      by phase.Landed e = absurd (subst (λ (p : Phase). IsPhase p o) e (it.waits waits).shape.phase_is)

  unadmitted : (os : List Open) → AllByRecursion (IsOpenOne core) os → list_any (λ (o : Open). is_waiting o && not (is_held_by_move core o.request.ask)) os ≡ false
      → list_any (λ (o : Open). is_waiting o && is_past_held o.request.phase && is_beside_copy core o.request.ask c) os ≡ false → AllByRecursion IsUnadmitted os
  unadmitted [] all stands_not unused = tt
  unadmitted (o ∷ os) all stands_not unused =
      let a = or_parts (is_waiting o && not (is_held_by_move core o.request.ask)) (list_any (λ (x : Open). is_waiting x && not (is_held_by_move core x.request.ask)) os) stands_not in
      let b = or_parts (is_waiting o && is_past_held o.request.phase && is_beside_copy core o.request.ask c) (list_any (λ (x : Open). is_waiting x && is_past_held x.request.phase && is_beside_copy core x.request.ask c) os) unused in
      (unadmitted_one o all.0 a.0 b.0, unadmitted os all.1 a.1 b.1)

  requests : AllByRecursion IsUnadmitted core.requests
  requests = unadmitted core.requests going.requests stands calm

  -- ---- nothing is in hand

  empty : (os : List Open) → AllByRecursion (IsOpenOne core) os → AllByRecursion IsUnadmitted os → AllByRecursion (λ (o : Open). o.got ≡ None) os
  empty [] all held = tt
  empty (o ∷ os) all held = (empty_held core o all.0 held.0, empty os all.1 held.1)

  move : IsWholeMove core c
  move = whole_move core c drained.done

  its : IsCopy core c
  its = subst (λ m. IfSome m (IsCopy core)) drained.is_open going.copy

  its_hand : hand_of_copy core.copy ≡ None
  its_hand = ap hand_of_copy drained.is_open ∙ no_hand core c its move.runs move.whole

  none_of_hands : (n : ℕ) (os : List Open) → AllByRecursion (λ (o : Open). o.got ≡ None) os → count_by (λ (o : Open). is_hand n o.got) os ≡ 0
  none_of_hands n [] all = refl
  none_of_hands n (o ∷ os) all =
      let more = count_cons (λ (x : Open). is_hand n x.got) o os in
      let here : count_if (is_hand n o.got) ≡ 0 = ap (λ m. count_if (is_hand n m)) all.0 in
      let rest = none_of_hands n os all.1 in
      omega (arith, more, here, rest)

  -- ---- so all buffers are in

  in_pool : (n : ℕ) → slice_index_or core.pool n false ≡ false
  in_pool n = by (slice_index_or core.pool n false) refl
    where
      by : (b : Bool) → slice_index_or core.pool n false ≡ b → slice_index_or core.pool n false ≡ false
      by false e = e
      by true e =
          let all = sound.none_lost (ap is_dark drained.on) n in
          let one : count_if (slice_index_or core.pool n false) ≡ 1 = ap count_if e in
          let a : count_by (λ (f : Flight). has_number n f.buf) s.device.flights ≡ 0 = ap (λ (fs : List Flight). count_by (λ (f : Flight). has_number n f.buf) fs) drained.idle in
          let b : count_by (has_number n) s.device.freed ≡ 0 = ap (λ (bs : List Buffer). count_by (has_number n) bs) (sound.lit (ap is_dark drained.on)).freed in
          let x : count_if (is_hand n (hand_of_copy core.copy)) ≡ 0 = ap (λ h. count_if (is_hand n h)) its_hand in
          let y = none_of_hands n core.requests (empty core.requests going.requests requests) in
          absurd (omega (arith, all, one, a, b, x, y))

  buffers : core.pool ≡ replicate (length core.pool) false
  buffers = all_back core.pool in_pool

  -- ---- no write of a status is due

  buffer : has_buffer core ≡ true
  buffer = ap (λ (pool : List Bool). list_any not pool) buffers ∙ free (length core.pool) sound.fitting.a_buffer
    where
      free : (n : ℕ) → 1 ≤ n → list_any not (replicate n false) ≡ true
      free zero some = absurd (omega (arith, some))
      free (suc n) some = refl

  starts : (if has_buffer core then (if is_status_due core then Some event.StartStatus else None) else None) ≡ None
  starts =
      let all = or_none (first_of parts_to_settle core) (first_of parts_to_start core) (sym (ap (λ (b : Bool). if b then landing core else or_next (first_of parts_to_settle core) (first_of parts_to_start core)) drained.votes) ∙ drained.none) in
      (or_none (if has_buffer core then (if is_status_due core then Some event.StartStatus else None) else None) _ all.1).0

  no_status : is_status_due core ≡ false
  no_status = none_if (is_status_due core) event.StartStatus (sym (ap (λ (b : Bool). if b then (if is_status_due core then Some event.StartStatus else None) else None) buffer) ∙ starts)

  can_write : CanWrite core.descriptor (is_there core)
  can_write = not-false (is_enough_to_write core.descriptor (votes_there core)) drained.votes

  settled : (core.status.in_flight ≡ None) × (core.status.committed ≡ core.status.wanted)
  settled = by core.status.in_flight refl
    where
      -- an update of which nothing is owed is held by the members that are there
      held : (t : Status) → core.status.in_flight ≡ Some t → list_any (λ (r : PvRow). has core.status.writes.unstarted r.disk) core.status.group.pvs ≡ false → is_held (seen core.status) ≡ true
      held t flies_so none = enough_more core.status.group (votes_in core.status.group (is_there core)) (votes_in core.status.group (seen core.status).written)
          (more_votes core.status.group (is_there core) (seen core.status).written core.status.group.pvs (each core.status.group.pvs (all_false (λ (r : PvRow). has core.status.writes.unstarted r.disk) core.status.group.pvs none))) enough
        where
          enough : is_enough_to_write core.status.group (votes_in core.status.group (is_there core)) ≡ true
          enough = ap (λ (d : Descriptor). is_enough_to_write d (votes_in d (is_there core))) going.fitting.group ∙ can_write

          there_is : (d : ℕ) → is_there core d ≡ true → is_there_so (seen core.status) d ≡ true
          there_is d e = ap (λ (g : Descriptor). is_member g d && not (calls_missing core.status.wanted d)) going.fitting.group ∙ e

          each : (rows : List PvRow) → AllByRecursion (λ (r : PvRow). has core.status.writes.unstarted r.disk ≡ false) rows → AllByRecursion (λ (r : PvRow). is_there core r.disk ≡ true → (seen core.status).written r.disk ≡ true) rows
          each [] all = tt
          each (r ∷ rows) all = (λ e. sym (ap (λ b. b || (has core.status.writes.started r.disk || has core.status.writes.written r.disk)) all.0 ∙ ap (λ b. b || has core.status.writes.written r.disk) (none_out (owner.Status r.disk))) ∙ going.status.each t flies_so r.disk (there_is r.disk e), each rows all.1)

      not_owed : (rows : List PvRow) → list_any (λ (r : PvRow). has core.status.writes.unstarted r.disk) rows ≡ false → list_any (λ (r : PvRow). has core.status.writes.unstarted r.disk || has core.status.writes.started r.disk) rows ≡ false
      not_owed [] e = refl
      not_owed (r ∷ rows) e = let it = or_parts (has core.status.writes.unstarted r.disk) (list_any (λ (q : PvRow). has core.status.writes.unstarted q.disk) rows) e in
          ap (λ b. (b || has core.status.writes.started r.disk) || list_any (λ (q : PvRow). has core.status.writes.unstarted q.disk || has core.status.writes.started q.disk) rows) it.0
          ∙ ap (λ b. b || list_any (λ (q : PvRow). has core.status.writes.unstarted q.disk || has core.status.writes.started q.disk) rows) (none_out (owner.Status r.disk)) ∙ not_owed rows it.1

      open_none : (t : Status) → core.status.in_flight ≡ Some t → list_any (λ (r : PvRow). has core.status.writes.unstarted r.disk) core.status.group.pvs ≡ false → (is_owed (seen core.status) ≡ true) ⊎ (is_held (seen core.status) ≡ false) → false ≡ true
      open_none t is none (inl owed) = sym (not_owed core.status.group.pvs none) ∙ owed
      open_none t is none (inr unheld) = sym unheld ∙ held t is none

      due_as : (m : Option Status) → core.status.in_flight ≡ m → (if is_none m then not (same_status core.status.wanted core.status.committed) else list_any (λ (r : PvRow). has core.status.writes.unstarted r.disk) core.status.group.pvs) ≡ false
      due_as m is = sym (ap (λ (m : Option Status). if is_none m then not (same_status core.status.wanted core.status.committed) else list_any (λ (r : PvRow). has core.status.writes.unstarted r.disk) core.status.group.pvs) is) ∙ no_status

      by : (m : Option Status) → core.status.in_flight ≡ m → (core.status.in_flight ≡ None) × (core.status.committed ≡ core.status.wanted)
      by None is = (is, sym (status_is core.status.wanted core.status.committed (not-false (same_status core.status.wanted core.status.committed) (due_as None is))))
      by (Some t) is = absurd (let no = open_none t is (due_as (Some t) is) (going.status.open_still t is) in cc no)

  pub is_done_moving : IsDoneMoving s c
  is_done_moving = record { on = drained.on; idle = drained.idle; in_flight = settled.0; committed = settled.1; requests = requests; is_open = drained.is_open; done = drained.done; buffers = buffers }

  -- ---- what a commit needs

  pub may_write : MayWriteMove core
  may_write = record {
    ends = record { told = sound.told.table; copy = its_hand; requests = empty core.requests going.requests requests };
    forgotten = λ none. going.status.idle none;
    a_buffer = sound.fitting.a_buffer;
    buffers = buffers;
  }

  -- its destination's disk is there
  there_still : is_missing core c.pp.disk ≡ false
  there_still = by (is_missing core c.pp.disk) refl
    where
      ends : end_of core c ≡ None
      ends = sym (ap (λ m. option_map_or (end_of core) m None) drained.is_open) ∙ going.reviewed

      by : (b : Bool) → is_missing core c.pp.disk ≡ b → is_missing core c.pp.disk ≡ false
      by false e = e
      by true e =
          let failed : Some ending.SyncFailed ≡ None = sym (
          ap (λ b. if not b then None else if is_missing core c.pp.disk then Some ending.SyncFailed else if is_whole core c then ends_if (is_cleared core c) ending.Done else end_by_sources core c) move.runs
          ∙ ap (λ b. if b then Some ending.SyncFailed else if is_whole core c then ends_if (is_cleared core c) ending.Done else end_by_sources core c) e
          ) ∙ ends in absurd (cc failed)

  pub missing_none : missing_destination core ≡ None
  missing_none = ap (λ m. option_map_or (λ (k : OpenCopy). if is_missing core k.pp.disk then Some k.pp.disk else None) m None) drained.is_open ∙ ap (λ b. if b then Some c.pp.disk else None) there_still

  -- a member that isn't missing has room for records
  has_room : (disk : ℕ) → IsTrue (members_there core.status.group core.status.wanted disk) → HasRoom s.device disk
  has_room disk there =
      let parts = both (is_member core.descriptor disk) (not (calls_missing core.status.wanted disk)) (subst (λ (g : Descriptor). members_there g core.status.wanted disk ≡ true) sound.fitting.group there) in
      let found = Any-from_list_any (λ (row : PvRow). row.disk == disk) core.descriptor.pvs parts.0 in
      let same : found.1.disk ≡ disk = eqb-true found.1.disk disk found.4 in
      let its_place = sound.placed found.1 (found.0, found.2, found.3) (ap (calls_missing core.origin.table) same ∙ first disk (is_false (calls_missing core.status.wanted disk) parts.1)) in
      let below : disk < length s.device.sizes = subst (λ n. n < length s.device.sizes) same its_place.there in
      let at : slice_get s.device.sizes disk ≡ Some (get_or s.device.sizes disk 0) = slice_get-get_or s.device.sizes disk 0 below in
      let within = its_place.within (get_or s.device.sizes disk 0) (ap (slice_get s.device.sizes) same ∙ at) in
      (get_or s.device.sizes disk 0, at, omega (arith, within))
    where
      first : (d : ℕ) → calls_missing core.status.wanted d ≡ false → calls_missing core.origin.table d ≡ false
      first d now = by (calls_missing core.origin.table d) refl
        where
          by : (b : Bool) → calls_missing core.origin.table d ≡ b → calls_missing core.origin.table d ≡ false
          by false e = e
          by true e = not_so (sym now ∙ sound.origin.still_missing d e)

  module _ (next : Descriptor) (moved : HasMovedTo c.lv c.lp c.pp core.descriptor next) (epoch : core.status.stamp.epoch ≢ 0) where
    settle : MaySettle next core.status s.device
    settle = record {
      valid = moved.valid;
      own = moved.alike ∙ sym sound.fitting.group;
      idle = settled.0;
      id = sound.fitting.id ∙ sym (ap (λ (g : Descriptor). g.id) sound.fitting.group);
      rows = λ disk. sound.fitting.rows disk ∙ sym (ap (λ (g : Descriptor). is_member g disk) sound.fitting.group);
      epoch = epoch;
      room = has_room;
      votes = subst (λ (g : Descriptor). CanWrite g (members_there g core.status.wanted)) (sym sound.fitting.group) can_write;
    }

    its_updates : option_map_or (copy_updates core) core.copy 0 ≡ 2
    its_updates = copy_is_two core c drained.is_open move

    numbers : core.status.stamp.seq + 2 + many_there core.status < 2 ^ 32
    numbers =
        let was = going.numbers in
        let many = many_there_is core sound.fitting.group in
        let two = its_updates in
        omega (arith, was, many, two)

    pub may_commit_move : MayCommitMove s next
    may_commit_move = record {
      may = record { ready = let lit = sound.lit (ap is_dark drained.on) in record { flights = drained.idle; freed = lit.freed; power = lit.power }; settle = settle; numbers = numbers };
      writes = may_write;
      there = missing_none;
    }

-- ---- the state that a caller sees

pub done_is_judged : DoneIsJudged
done_is_judged s c sound on is moves state_is = by (is_out c.step) (is_still_aimed s.core c) (is_move_done s.core c) c.end refl refl (sym (shown (is_out c.step) (is_still_aimed s.core c) (is_move_done s.core c) c.end refl refl refl refl) ∙ state_so)
  where
    told : Bool → Bool → Bool → Option CopyEnd → CopyState
    told out aimed done end = if out || aimed then copy.Running c.cursor else if done then copy.Done else option_map_or (state_at_end c) end (copy.Running c.cursor)

    shown : (out aimed done : Bool) (end : Option CopyEnd) → is_out c.step ≡ out → is_still_aimed s.core c ≡ aimed → is_move_done s.core c ≡ done → c.end ≡ end → state_of_copy s.core c ≡ told out aimed done end
    shown out aimed done end a b d e =
        ap (λ x. told x (is_still_aimed s.core c) (is_move_done s.core c) c.end) a ∙ ap (λ x. told out x (is_move_done s.core c) c.end) b ∙ ap (λ x. told out aimed x c.end) d ∙ ap (told out aimed done) e

    state_so : state_of_copy s.core c ≡ copy.Done
    state_so = sym (ap (λ m. option_map_or (state_of_copy s.core) m copy.Closed) is) ∙ state_is

    its : IsMove s.core c
    its = move_of s.core c (subst (λ m. IfSome m (IsCopy s.core)) is (sound.on on).going.copy) moves

    running : {X : Type 0} (cursor : ℕ) → copy.Running cursor ≡ copy.Done → X
    running cursor same = absurd cc

    by : (out aimed done : Bool) (end : Option CopyEnd) → is_move_done s.core c ≡ done → c.end ≡ end → told out aimed done end ≡ copy.Done → is_move_done s.core c ≡ true
    by out aimed true end d e t = d
    by true aimed false end d e t = running c.cursor t
    by false true false end d e t = running c.cursor t
    by false false false None d e t = running c.cursor t
    by false false false (Some ending.Done) d e t = absurd (its.ends e)
    by false false false (Some ending.SyncFailed) d e t = absurd (let no : copy.SyncFailed c.pp.disk ≡ copy.Done = t in cc no)
    by false false false (Some ending.NoFresh) d e t = absurd (let no : copy.NoFresh ≡ copy.Done = t in cc no)
    by false false false (Some ending.Ended) d e t = absurd (let no : copy.Ended ≡ copy.Done = t in cc no)

pub drained_is_done : DrainedIsDone
drained_is_done s c sound drained = is_done_moving s c sound drained

pub done_may_commit : DoneMayCommit
done_may_commit s c next sound drained moved epoch = may_commit_move s c sound drained next moved epoch
