-- Where turns have nothing left to make, nothing is under way, and what is wanted is committed.
use Rattle.std.proofs.Common.{◌≡◌, ◌⊎◌, inl, inr, ◌≤◌, ℕ, zero, suc, Bool, true, false, ◌&&◌, ◌||◌, not, List, [], ◌∷◌, Option, Some, None, length, replicate, if◌then◌else◌, refl, sym, ap, ◌∙◌, arith}
use Rattle.std.specs.Prelude.{count_by, is_none, is_some}
use Rattle.std.specs.List.{list_any, AllByRecursion}
use Rattle.std.proofs.lemmas.Bool.{or_parts, not-false}
use Rattle.arrayvec.specs.ArrayVec.{ArrayVec}
use Rattle.lvm_num.specs.declared.descriptor.Descriptor.{Descriptor}
use Rattle.lvm_num.specs.declared.descriptor.PvRow.{PvRow}
use Rattle.lvm_num.specs.declared.record.NoteEntry.{NoteEntry}
use Rattle.lvm_num.specs.declared.status.Status.{Status}
use Rattle.lvm_num.specs.Descriptor.{is_member}
use Rattle.lvm_num.specs.Disks.{has}
use Rattle.lvm_num.specs.Status.{calls_missing}
use Rattle.lvm_num.specs.Votes.{CanWrite, is_enough_to_write, votes_in}
use Rattle.lvm_num.proofs.Booleans.{none_if}
use Rattle.lvm_num.proofs.Lists.{all_false}
use Rattle.lvm_mwc.specs.Cache.{flight_on}
use Rattle.lvm_status.specs.Update.{is_held, is_owed, is_there as is_there_so, seen}
use Rattle.lvm_session.specs.declared.event.Event.{Event}
use Rattle.lvm_session.specs.declared.event.Event.TheVariants as event
use Rattle.lvm_session.specs.declared.flown.Flown.{Flown}
use Rattle.lvm_session.specs.declared.flown.Owner.{Owner}
use Rattle.lvm_session.specs.declared.flown.Owner.TheVariants as owner
use Rattle.lvm_session.specs.State.{Core, State, is_there, votes_there}
use Rattle.lvm_session.specs.Enabled.{first_of, has_buffer, is_status_due, landing, or_next, parts_to_settle, parts_to_start, same_status}
use Rattle.lvm_session.specs.Owners.{flies, same_owner}
use Rattle.lvm_session.specs.Sound.{IsGoing, IsOn, IsSound, count_if}
use Rattle.lvm_handover.specs.passed.Core.{IsSettled, HasNoneOpen, HasNothingUnderWay, IsSoundAtRest}
use Rattle.lvm_handover.specs.passed.Driver.{IsDrained}
use Rattle.lvm_handover.specs.Settling.{DrainedRests, MayHandOver}
use Rattle.lvm_handover.proofs.SoundLemmas.{buffers_back, none_flown, sound_between}
use Rattle.lvm_handover.proofs.SettlingLemmas.Statuses.{status_is}
use Rattle.lvm_keeps.proofs.VotesLemmas.{enough_more, more_votes}

-- ---- tests

or_none : (a b : Option Event) → or_next a b ≡ None → (a ≡ None) × (b ≡ None)
or_none None b e = (refl, e)
or_none (Some it) b e = absurd (cc e)

module _ (s : State) (sound : IsSound s) (drained : IsDrained s) (closed : HasNoneOpen s.core) where
  abbrev core : Core
  core = s.core

  on : IsOn s
  on = sound.on drained.on

  abbrev going : IsGoing core
  going = on.going

  -- ---- nothing is out

  flying : core.flying ≡ []
  flying = none_flown core core.flying s.device.flights on.rows drained.idle

  none_out : (who : Owner) → flies core who ≡ false
  none_out who = by (flies core who) (sym (ap (λ (rows : List Flown). count_by (λ (f : Flown). same_owner who f.owner) rows) flying) ∙ going.owned who)
    where
      by : (b : Bool) → count_by (λ (f : Flown). same_owner who f.owner) [] ≡ count_if b → b ≡ false
      by false e = refl
      by true e = absurd (omega (arith, e))

  notes : (disk : ℕ) → flight_on core.cache disk ≡ None
  notes disk = by (flight_on core.cache disk) (none_out (owner.Note disk))
    where
      by : (m : Option (ArrayVec NoteEntry)) → is_some m ≡ false → m ≡ None
      by None e = refl
      by (Some note) e = absurd (cc e)

  -- ---- no write of a status is due

  buffer : has_buffer core ≡ true
  buffer = ap (λ (pool : List Bool). list_any not pool) (buffers_back s sound drained.on closed drained.idle) ∙ free (length core.pool) sound.fitting.a_buffer
    where
      free : (n : ℕ) → 1 ≤ n → list_any not (replicate n false) ≡ true
      free zero some = absurd (omega (arith, some))
      free (suc n) some = refl

  starts : (if has_buffer core then (if is_status_due core then Some event.StartStatus else None) else None) ≡ None
  starts =
      let both = or_none (first_of parts_to_settle core) (first_of parts_to_start core) (sym (ap (λ (b : Bool). if b then landing core else or_next (first_of parts_to_settle core) (first_of parts_to_start core)) drained.votes) ∙ drained.none) in
      (or_none (if has_buffer core then (if is_status_due core then Some event.StartStatus else None) else None) _ both.1).0

  no_status : is_status_due core ≡ false
  no_status = none_if (is_status_due core) event.StartStatus (sym (ap (λ (b : Bool). if b then (if is_status_due core then Some event.StartStatus else None) else None) buffer) ∙ starts)

  -- ---- what is wanted is committed

  can_write : CanWrite core.descriptor (is_there core)
  can_write = not-false (is_enough_to_write core.descriptor (votes_there core)) drained.votes

  settled_status : (core.status.in_flight ≡ None) × (core.status.committed ≡ core.status.wanted)
  settled_status = by core.status.in_flight refl
    where
      -- an update of which nothing is owed is held by the members that are there
      held : (t : Status) → core.status.in_flight ≡ Some t → list_any (λ (r : PvRow). has core.status.writes.unstarted r.disk) core.status.group.pvs ≡ false → is_held (seen core.status) ≡ true
      held t flies_so none = enough_more core.status.group (votes_in core.status.group (is_there core)) (votes_in core.status.group (seen core.status).written)
          (more_votes core.status.group (is_there core) (seen core.status).written core.status.group.pvs (each core.status.group.pvs (all_false (λ (r : PvRow). has core.status.writes.unstarted r.disk) core.status.group.pvs none))) enough
        where
          enough : is_enough_to_write core.status.group (votes_in core.status.group (is_there core)) ≡ true
          enough = ap (λ (d : Descriptor). is_enough_to_write d (votes_in d (is_there core))) going.fitting.group ∙ can_write

          there_is : (d : ℕ) → is_there core d ≡ true → is_there_so (seen core.status) d ≡ true
          there_is d e = ap (λ (g : Descriptor). is_member g d && not (calls_missing core.status.wanted d)) going.fitting.group ∙ e

          each : (rows : List PvRow) → AllByRecursion (λ (r : PvRow). has core.status.writes.unstarted r.disk ≡ false) rows → AllByRecursion (λ (r : PvRow). is_there core r.disk ≡ true → (seen core.status).written r.disk ≡ true) rows
          each [] all = tt
          each (r ∷ rows) all = (λ e. sym (ap (λ b. b || (has core.status.writes.started r.disk || has core.status.writes.written r.disk)) all.0 ∙ ap (λ b. b || has core.status.writes.written r.disk) (none_out (owner.Status r.disk))) ∙ going.status.each t flies_so r.disk (there_is r.disk e), each rows all.1)

      not_owed : list_any (λ (r : PvRow). has core.status.writes.unstarted r.disk) core.status.group.pvs ≡ false → is_owed (seen core.status) ≡ false
      not_owed none = of core.status.group.pvs none
        where
          of : (rows : List PvRow) → list_any (λ (r : PvRow). has core.status.writes.unstarted r.disk) rows ≡ false → list_any (λ (r : PvRow). has core.status.writes.unstarted r.disk || has core.status.writes.started r.disk) rows ≡ false
          of [] e = refl
          of (r ∷ rows) e = let it = or_parts (has core.status.writes.unstarted r.disk) (list_any (λ (q : PvRow). has core.status.writes.unstarted q.disk) rows) e in
              ap (λ b. (b || has core.status.writes.started r.disk) || list_any (λ (q : PvRow). has core.status.writes.unstarted q.disk || has core.status.writes.started q.disk) rows) it.0
              ∙ ap (λ b. b || list_any (λ (q : PvRow). has core.status.writes.unstarted q.disk || has core.status.writes.started q.disk) rows) (none_out (owner.Status r.disk)) ∙ of rows it.1

      open_none : (t : Status) → core.status.in_flight ≡ Some t → list_any (λ (r : PvRow). has core.status.writes.unstarted r.disk) core.status.group.pvs ≡ false → (is_owed (seen core.status) ≡ true) ⊎ (is_held (seen core.status) ≡ false) → false ≡ true
      open_none t is none (inl owed) = sym (not_owed none) ∙ owed
      open_none t is none (inr unheld) = sym unheld ∙ held t is none

      due_as : (m : Option Status) → core.status.in_flight ≡ m → (if is_none m then not (same_status core.status.wanted core.status.committed) else list_any (λ (r : PvRow). has core.status.writes.unstarted r.disk) core.status.group.pvs) ≡ false
      due_as m is = sym (ap (λ (m : Option Status). if is_none m then not (same_status core.status.wanted core.status.committed) else list_any (λ (r : PvRow). has core.status.writes.unstarted r.disk) core.status.group.pvs) is) ∙ no_status

      by : (m : Option Status) → core.status.in_flight ≡ m → (core.status.in_flight ≡ None) × (core.status.committed ≡ core.status.wanted)
      by None is = (is, sym (status_is core.status.wanted core.status.committed (not-false (same_status core.status.wanted core.status.committed) (due_as None is))))
      by (Some t) is = absurd (let no = open_none t is (due_as (Some t) is) (going.status.open_still t is) in cc no)

  quiet : HasNothingUnderWay core
  quiet = record { requests = closed.requests; copy = closed.copy; status = settled_status.0; notes = notes; buffers = buffers_back s sound drained.on closed drained.idle }

  pub rests : HasNothingUnderWay core × (core.flying ≡ []) × (core.status.committed ≡ core.status.wanted)
  rests = (quiet, flying, settled_status.1)

  pub is_settled : MayHandOver s → IsSettled core
  is_settled may = record { power = drained.on; quiet = quiet; committed = settled_status.1; epoch = may.epoch; votes = can_write }

-- so it is sound between commands
pub is_between : (s : State) → IsSound s → MayHandOver s → IsSoundAtRest s
is_between s sound may = sound_between s sound may.drained.on may.none may.drained.idle

pub drained_rests : DrainedRests
drained_rests s sound drained closed = rests s sound drained closed
