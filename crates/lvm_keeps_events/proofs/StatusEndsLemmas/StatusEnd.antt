-- A write of the status has ended, well or badly.
use Rattle.std.proofs.Common.{◌≡◌, ◌⊎◌, inl, inr, ◌==◌, ℕ, Bool, true, false, ◌&&◌, not, if◌then◌else◌, List, None, refl, sym, ◌∙◌, ap, subst}
use Rattle.std.specs.Prelude.{count_by, is_some}
use Rattle.std.specs.List.{remove}
use Rattle.std.proofs.lemmas.Bool.{eq-eqb, eqb-true, ne_eqb}
use Rattle.lvm_num.specs.declared.descriptor.Descriptor.{Descriptor}
use Rattle.lvm_num.specs.declared.record.Kind.TheVariants as kind
use Rattle.lvm_num.specs.declared.status.Status.{Status}
use Rattle.lvm_num.specs.Descriptor.{is_member}
use Rattle.lvm_num.specs.Disks.{has}
use Rattle.lvm_num.specs.Status.{calls_missing}
use Rattle.lvm_num.proofs.Booleans.{not_so}
use Rattle.lvm_disk.specs.Counts.{Rose}
use Rattle.lvm_disk.specs.Device.{Device, Flight}
use Rattle.lvm_mwc.specs.Cache.{flight_on}
use Rattle.lvm_status.specs.Update.{Stored, Updates, is_held, seen}
use Rattle.lvm_status.specs.Calls.{WantsAtEnd, after_end, closed, comes_held, with_commit, with_end}
use Rattle.lvm_status.specs.Runs.{Ended, IsSoundStatus}
use Rattle.lvm_status.proofs.RunsLemmas.Sound.{steps_stay_sound}
use Rattle.lvm_rec.specs.declared.homes.Homes.{Homes}
use Rattle.lvm_rec.specs.Homes.{next_slot}
use Rattle.lvm_session.specs.declared.flown.Flown.{Flown}
use Rattle.lvm_session.specs.declared.flown.Owner.{Owner}
use Rattle.lvm_session.specs.declared.flown.Owner.TheVariants as owner
use Rattle.lvm_session.specs.State.{Core, state}
use Rattle.lvm_session.specs.Judging.{is_missing}
use Rattle.lvm_session.specs.Ends.{EndsAs, FlipsIf}
use Rattle.lvm_session.specs.Owners.{IsStatusOf, IsTransferOf, flies, same_owner}
use Rattle.lvm_session.specs.Sound.{IsGoing, IsSound, count_if}
use Rattle.lvm_keeps.proofs.Small.{both}
use Rattle.lvm_keeps_events.proofs.EndsLemmas.CopyQuit.{IsBack, is_back}
use Rattle.lvm_keeps_events.proofs.OwnersLemmas.Removal.{IsOut, as_many, none_left, taken_out, was_out}
use Rattle.lvm_keeps_events.specs.StatusEnds.{StatusEndKeeps}
use Rattle.lvm_keeps_events.proofs.StatusEndsLemmas.Finishing.{finished}
use Rattle.lvm_keeps_events.proofs.CallsLemmas.{Follows, kept_follows, lost_follows, started_end}
use Rattle.lvm_keeps_events.proofs.StatusEndsLemmas.NoteFail.{faulted}

-- ---- the update

-- what is left of it before it may have ended
abbrev learned : Updates → ℕ → Bool → Status → Bool → Updates
learned u disk ok wanted commits = if commits then with_commit (with_end u disk ok wanted) else with_end u disk ok wanted

-- the write of the disk isn't out any more
started_in : (u : Updates) (disk : ℕ) (ok : Bool) (wanted : Status) (commits : Bool) (d : ℕ) → (learned u disk ok wanted commits).started d ≡ (u.started d && not (d == disk))
started_in u disk true wanted true d = refl
started_in u disk true wanted false d = refl
started_in u disk false wanted true d = refl
started_in u disk false wanted false d = refl

group_in : (u : Updates) (disk : ℕ) (ok : Bool) (wanted : Status) (commits : Bool) → (learned u disk ok wanted commits).group ≡ u.group
group_in u disk true wanted true = refl
group_in u disk true wanted false = refl
group_in u disk false wanted true = refl
group_in u disk false wanted false = refl

-- a write that fails commits nothing
never : (u : Updates) (disk : ℕ) (wanted : Status) → comes_held u (with_end u disk false wanted) ≡ false
never u disk wanted = by (is_held u)
  where
    by : (b : Bool) → not b && b ≡ false
    by true = refl
    by false = refl

module _ (core : Core) (going : IsGoing core) (disk : ℕ) (next : Stored) (flew : has core.status.writes.started disk ≡ true) where
  abbrev was : Updates
  was = seen core.status

  member : is_member core.descriptor disk ≡ true
  member = sym (ap (λ (g : Descriptor). is_member g disk) going.fitting.group) ∙ going.status.started disk flew

  pub status_started : (ok : Bool) → seen next ≡ after_end (seen core.status) disk ok next.wanted → (d : ℕ) → has next.writes.started d ≡ (has core.status.writes.started d && not (d == disk))
  status_started ok ended d = ap (λ (u : Updates). u.started d) ended ∙ started_end (learned was disk ok next.wanted commits) members d ∙ started_in was disk ok next.wanted commits d
    where
      commits : Bool
      commits = comes_held was (with_end was disk ok next.wanted)

      members : (n : ℕ) → (learned was disk ok next.wanted commits).started n ≡ true → is_member (learned was disk ok next.wanted commits).group n ≡ true
      members n is = ap (λ (g : Descriptor). is_member g n) (group_in was disk ok next.wanted commits) ∙ going.status.started n (both (was.started n) (not (n == disk)) (sym (started_in was disk ok next.wanted commits n) ∙ is)).0

  pub status_follows : (ok : Bool) → WantsAtEnd disk ok core.status.wanted next.wanted → seen next ≡ after_end (seen core.status) disk ok next.wanted → Follows core disk next
  status_follows false wants ended = lost_follows (with_end was disk false next.wanted) core disk next (ended ∙ ap (λ b. closed (learned was disk false next.wanted b)) (never was disk next.wanted)) refl refl refl refl refl (λ d left. left) wants member going.status
      (steps_stay_sound (Ended disk false) (seen core.status) (seen next) going.status (flew, wants, ended))
  status_follows true wants ended = by (comes_held was (with_end was disk true next.wanted)) refl
    where
      sound : IsSoundStatus (seen next)
      sound = steps_stay_sound (Ended disk true) (seen core.status) (seen next) going.status (flew, wants, ended)

      held_before : (a b : Bool) → not a && b ≡ false → b ≡ true → a ≡ true
      held_before true b i j = refl
      held_before false b i j = not_so (sym i ∙ j)

      by : (b : Bool) → comes_held was (with_end was disk true next.wanted) ≡ b → Follows core disk next
      by true commits = kept_follows (with_commit (with_end was disk true next.wanted)) core disk next (ended ∙ ap (λ b. closed (learned was disk true next.wanted b)) commits) refl refl refl (inl refl) (λ d left. left) wants sound
      by false commits = kept_follows (with_end was disk true next.wanted) core disk next (ended ∙ ap (λ b. closed (learned was disk true next.wanted b)) commits) refl refl refl
          (inr (refl, λ held. going.status.held (held_before (is_held was) (is_held (with_end was disk true next.wanted)) commits held))) (λ d left. left) wants sound

-- ---- the slots of the other disks

slots_beside : (ok : Bool) (disk : ℕ) (old new : Homes) → FlipsIf ok disk old new → (d : ℕ) → (d == disk) ≡ false → next_slot kind.Status new d ≡ next_slot kind.Status old d
slots_beside false disk old new same d other = ap (λ (h : Homes). next_slot kind.Status h d) same
slots_beside true disk old new flips d other = ap (λ (b : Bool). if b then 1 else 0) (flips.own d ∙ ap (λ (b : Bool). if b then not (has old.status d) else has old.status d) other)

pub status_end_keeps : StatusEndKeeps
status_end_keeps at disk ok old new sound on event =
    subst IsSound (sym (ap (λ (d : Device). state d new.core) ended.is ∙ ap (λ (fs : List Flight). state (record old.device { media = new.device.media; flights = fs; counts = new.device.counts }) new.core) out.left_is))
    (finished old sound on disk next follows old.core.cache.notes event.learns.homes at event.row event.returns.there ended.flight out.there event.buf ended.number new.device.media new.device.counts
    ended.more (rise ok event.returns.ends event.learns.wants) (λ d lv group pinned named. named) (λ d. refl) data_other (other_own owner.Copy refl) status_flies note_flies status_on (λ d other. refl) new.core event.learns.reviews)
  where
    next : Stored
    next = event.learns.status

    going : IsGoing old.core
    going = (sound.on on).going

    ended : IsBack old.device new.device event.row event.buf
    ended = is_back old.device new.device event.row event.buf ok event.returns.ends

    out : IsOut old.core old.device.flights new.device.flights at event.row ended.flight
    out = taken_out old.core old.core.flying old.device.flights new.device.flights at event.row ended.flight (sound.on on).rows going.tickets event.returns.there ended.flights ended.its

    flew : has old.core.status.writes.started disk ≡ true
    flew = sym (ap (flies old.core) event.own) ∙ was_out old.core going.owned at event.row event.returns.there

    follows : Follows old.core disk next
    follows = status_follows old.core going disk next flew ok event.learns.wants event.learns.ended

    started : (d : ℕ) → has next.writes.started d ≡ (has old.core.status.writes.started d && not (d == disk))
    started = status_started old.core going disk next flew ok event.learns.ended

    rise : (b : Bool) → EndsAs b old.device new.device event.row.ticket event.buf → WantsAtEnd disk b old.core.status.wanted next.wanted → (d : ℕ) → calls_missing next.wanted d ≡ true → (is_missing old.core d ≡ true) ⊎ Rose (old.device.counts.faults d) (new.device.counts.faults d)
    rise true returned same d gone = inl (sym (ap (λ (w : Status). calls_missing w d) same) ∙ gone)
    rise false failure wants d gone = by (d == disk) refl (sym (wants.missing d) ∙ gone)
      where
        lost : IsOut old.core old.device.flights new.device.flights at event.row failure.flight
        lost = taken_out old.core old.core.flying old.device.flights new.device.flights at event.row failure.flight (sound.on on).rows going.tickets event.returns.there failure.flights failure.its

        its : IsStatusOf old.core disk failure.flight
        its = subst (λ who. IsTransferOf old.core who failure.flight) event.own lost.own.own

        by : (b : Bool) → (d == disk) ≡ b → (if b then true else is_missing old.core d) ≡ true → (is_missing old.core d ≡ true) ⊎ Rose (old.device.counts.faults d) (new.device.counts.faults d)
        by true is i = inr (subst (λ n. Rose (old.device.counts.faults n) (new.device.counts.faults n)) (sym (eqb-true d disk is)) (faulted failure.flight disk old.device.counts new.device.counts its.writes.write its.writes.disk_is failure.counts))
        by false is i = inl i

    -- ---- whose the others are

    other_own : (who : Owner) → same_owner who (owner.Status disk) ≡ false → same_owner who event.row.owner ≡ false
    other_own who other = ap (same_owner who) event.own ∙ other

    data_other : (id target : ℕ) → same_owner (owner.Data id target) event.row.owner ≡ false
    data_other id target = other_own (owner.Data id target) refl

    and_true : (a : Bool) → a && true ≡ a
    and_true true = refl
    and_true false = refl

    and_false : (a : Bool) → a && false ≡ false
    and_false true = refl
    and_false false = refl

    status_flies : (d : ℕ) → count_by (λ (g : Flown). same_owner (owner.Status d) g.owner) (remove old.core.flying at) ≡ count_if (has next.writes.started d)
    status_flies d = by (d == disk) refl
      where
        by : (b : Bool) → (d == disk) ≡ b → count_by (λ (g : Flown). same_owner (owner.Status d) g.owner) (remove old.core.flying at) ≡ count_if (has next.writes.started d)
        by false other = as_many old.core going.owned at event.row event.returns.there (owner.Status d) (other_own (owner.Status d) other) ∙ going.owned (owner.Status d)
            ∙ sym (ap count_if (started d ∙ ap (λ b. has old.core.status.writes.started d && not b) other ∙ and_true (has old.core.status.writes.started d)))
        by true is =
            ap (λ n. count_by (λ (g : Flown). same_owner (owner.Status n) g.owner) (remove old.core.flying at)) (eqb-true d disk is) ∙ ap (λ who. count_by (λ (g : Flown). same_owner who g.owner) (remove old.core.flying at)) (sym event.own)
            ∙ none_left old.core going.owned at event.row event.returns.there ∙ sym (ap count_if (started d ∙ ap (λ b. has old.core.status.writes.started d && not b) is ∙ and_false (has old.core.status.writes.started d)))

    note_flies : (d : ℕ) → count_by (λ (g : Flown). same_owner (owner.Note d) g.owner) (remove old.core.flying at) ≡ count_if (is_some (flight_on old.core.cache d))
    note_flies d = as_many old.core going.owned at event.row event.returns.there (owner.Note d) (other_own (owner.Note d) refl) ∙ going.owned (owner.Note d)

    status_on : (d : ℕ) → same_owner event.row.owner (owner.Status d) ≡ false → has old.core.status.writes.started d ≡ true → (next.in_flight ≡ old.core.status.in_flight) × (next_slot kind.Status event.learns.homes d ≡ next_slot kind.Status old.core.homes d)
    status_on d other flying = (by follows.in_flight, slots_beside ok disk old.core.homes event.learns.homes event.learns.flips d beside)
      where
        beside : (d == disk) ≡ false
        beside = ne_eqb d disk (λ same. apart (sym (eq-eqb disk d (sym same)) ∙ sym (ap (λ who. same_owner who (owner.Status d)) event.own) ∙ other))
          where
            apart : true ≡ false → ⊥
            apart i = not_so (sym i)

        still : has next.writes.started d ≡ true
        still = started d ∙ ap (λ b. has old.core.status.writes.started d && not b) beside ∙ and_true (has old.core.status.writes.started d) ∙ flying

        by : (next.in_flight ≡ old.core.status.in_flight) ⊎ (next.in_flight ≡ None) → next.in_flight ≡ old.core.status.in_flight
        by (inl same) = same
        by (inr none) = not_so (sym (follows.sound.idle none d).1 ∙ still)
