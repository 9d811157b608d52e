-- The write of a note has failed.
use Rattle.std.proofs.Common.{◌≡◌, ◌⊎◌, inl, inr, ◌==◌, ◌≤◌, ℕ, Bool, true, false, not, if◌then◌else◌, List, [], ◌∷◌, Option, Some, None, refl, sym, ◌∙◌, ap, subst}
use Rattle.std.specs.Prelude.{count_by, is_some, option_and_then}
use Rattle.std.specs.List.{remove}
use Rattle.std.proofs.lemmas.Bool.{eq-eqb, eqb-true}
use Rattle.lvm_num.specs.Descriptor.{is_member}
use Rattle.lvm_num.specs.Disks.{has}
use Rattle.lvm_num.specs.Status.{calls_missing}
use Rattle.lvm_num.specs.declared.record.Kind.TheVariants as kind
use Rattle.lvm_num.proofs.Booleans.{not_so}
use Rattle.lvm_disk.specs.Counts.{Counts, Rose}
use Rattle.lvm_disk.specs.Device.{Device, Flight}
use Rattle.lvm_disk.specs.Steps.{CountsFailure, EndsFailed}
use Rattle.lvm_mwc.specs.Cache.{after_end, flight_on, has_disk, is_named, notes_on}
use Rattle.lvm_mwc.specs.Entries.{pins_of}
use Rattle.lvm_mwc.specs.declared.notes.DiskNotes.{DiskNotes}
use Rattle.lvm_mwc.specs.Runs.{NoteEnds}
use Rattle.lvm_mwc.proofs.NotesLemmas.{named_after_all}
use Rattle.lvm_status.specs.declared.change.Change.TheVariants as change
use Rattle.lvm_status.specs.Update.{Stored, Updates, seen, without_disk}
use Rattle.lvm_status.specs.Runs.{Want}
use Rattle.lvm_status.proofs.RunsLemmas.Sound.{steps_stay_sound}
use Rattle.lvm_rec.specs.Homes.{next_slot}
use Rattle.lvm_session.specs.declared.flown.Flown.{Flown}
use Rattle.lvm_session.specs.declared.flown.Owner.{Owner}
use Rattle.lvm_session.specs.declared.flown.Owner.TheVariants as owner
use Rattle.lvm_session.specs.State.{Core, state}
use Rattle.lvm_session.specs.Judging.{is_missing}
use Rattle.lvm_session.specs.Ends.{LosesDisk}
use Rattle.lvm_session.specs.Owners.{IsNoteOf, IsTransferOf, flies, same_owner}
use Rattle.lvm_session.specs.Sound.{IsGoing, IsSound, count_if}
use Rattle.lvm_keeps.proofs.Small.{both}
use Rattle.lvm_keeps_events.proofs.EndsLemmas.CopyQuit.{IsBack, is_back}
use Rattle.lvm_keeps_events.proofs.EndsLemmas.NoteEnd.{flight_beside, none_here, same_disks}
use Rattle.lvm_keeps_events.proofs.OwnersLemmas.Removal.{IsOut, as_many, none_left, taken_out, was_out}
use Rattle.lvm_keeps_events.specs.StatusEnds.{NoteFailKeeps}
use Rattle.lvm_keeps_events.proofs.StatusEndsLemmas.Finishing.{finished}
use Rattle.lvm_keeps_events.proofs.CallsLemmas.{Follows, lost_follows, started_end}

-- a write that fails counts as a fault of its disk
pub faulted : (f : Flight) (disk : ℕ) (old new : Counts) → f.write ≡ true → f.disk ≡ disk → CountsFailure f old new → Rose (old.faults disk) (new.faults disk)
faulted f disk old new writes here (inl miss) = not_so (sym miss.0.0 ∙ writes)
faulted f disk old new writes here (inr fault) = subst (λ d. Rose (old.faults d) (new.faults d)) here fault.1.faults.here

some_there : {A B : Type 0} (t : A → Option B) (m : Option A) → is_some (option_and_then t m) ≡ true → is_some m ≡ true
some_there t None is = not_so is
some_there t (Some x) is = refl

-- the disk of a note in flight is a member's
pub note_member : (core : Core) → IsGoing core → (disk : ℕ) → flies core (owner.Note disk) ≡ true → is_member core.descriptor disk ≡ true
note_member core going disk is = sym (going.fitting.notes disk) ∙ some_there (λ (n : DiskNotes). n.flight) (notes_on core.cache disk) is

-- what is wanted follows it
pub note_follows : (core : Core) → IsGoing core → (disk : ℕ) (next : Stored) → flies core (owner.Note disk) ≡ true → LosesDisk disk core.status next → Follows core disk next
note_follows core going disk next is loses = lost_follows (record (seen core.status) { wanted = next.wanted; unstarted = without_disk (has core.status.writes.unstarted) disk }) core disk next loses.rest refl refl refl refl refl
    (λ d left. (both (has core.status.writes.unstarted d) (not (d == disk)) left).0) loses.wants (note_member core going disk is) going.status (steps_stay_sound (Want (change.Missing disk)) (seen core.status) (seen next) going.status (loses.wants, loses.rest))

pub note_fail_keeps : NoteFailKeeps
note_fail_keeps at disk old new sound on event =
    subst IsSound (sym (ap (λ (d : Device). state d new.core) failure.new_is ∙ ap (λ (fs : List Flight). state (record old.device { media = new.device.media; flights = fs; counts = new.device.counts }) new.core) out.left_is))
    (finished old sound on disk next follows (after_end old.core.cache disk false).notes old.core.homes at event.row event.returns.there failure.flight out.there event.buf failure.number new.device.media new.device.counts
    ended.more rise names disks data_other (other_own owner.Copy refl) status_flies note_flies status_on note_on new.core event.learns.2)
  where
    next : Stored
    next = event.learns.0

    loses : LosesDisk disk old.core.status next
    loses = event.learns.1

    going : IsGoing old.core
    going = (sound.on on).going

    failure : EndsFailed old.device new.device event.row.ticket event.buf
    failure = event.returns.ends

    ended : IsBack old.device new.device event.row event.buf
    ended = is_back old.device new.device event.row event.buf false failure

    out : IsOut old.core old.device.flights new.device.flights at event.row failure.flight
    out = taken_out old.core old.core.flying old.device.flights new.device.flights at event.row failure.flight (sound.on on).rows going.tickets event.returns.there failure.flights failure.its

    flew : flies old.core (owner.Note disk) ≡ true
    flew = sym (ap (flies old.core) event.own) ∙ was_out old.core going.owned at event.row event.returns.there

    follows : Follows old.core disk next
    follows = note_follows old.core going disk next flew loses

    its : IsNoteOf old.core disk failure.flight
    its = subst (λ who. IsTransferOf old.core who failure.flight) event.own out.own.own

    rise : (d : ℕ) → calls_missing next.wanted d ≡ true → (is_missing old.core d ≡ true) ⊎ Rose (old.device.counts.faults d) (new.device.counts.faults d)
    rise d gone = by (d == disk) refl (sym (loses.wants.missing d) ∙ gone)
      where
        by : (b : Bool) → (d == disk) ≡ b → (if b then true else is_missing old.core d) ≡ true → (is_missing old.core d ≡ true) ⊎ Rose (old.device.counts.faults d) (new.device.counts.faults d)
        by true is i = inr (subst (λ n. Rose (old.device.counts.faults n) (new.device.counts.faults n)) (sym (eqb-true d disk is)) (faulted failure.flight disk old.device.counts new.device.counts its.write its.disk_is failure.counts))
        by false is i = inl i

    names : (d lv group : ℕ) → 1 ≤ pins_of old.core.cache.entries lv group → is_named old.core.cache d lv group ≡ true → is_named (after_end old.core.cache disk false) d lv group ≡ true
    names d lv group pinned named = named_after_all old.core.cache (NoteEnds disk false ∷ []) d lv group (pinned, tt) named

    disks : (d : ℕ) → has_disk (after_end old.core.cache disk false) d ≡ has_disk old.core.cache d
    disks d = same_disks old.core.cache disk false d

    -- ---- whose the others are

    other_own : (who : Owner) → same_owner who (owner.Note disk) ≡ false → same_owner who event.row.owner ≡ false
    other_own who other = ap (same_owner who) event.own ∙ other

    data_other : (id target : ℕ) → same_owner (owner.Data id target) event.row.owner ≡ false
    data_other id target = other_own (owner.Data id target) refl

    status_flies : (d : ℕ) → count_by (λ (g : Flown). same_owner (owner.Status d) g.owner) (remove old.core.flying at) ≡ count_if (has next.writes.started d)
    status_flies d = as_many old.core going.owned at event.row event.returns.there (owner.Status d) (other_own (owner.Status d) refl) ∙ going.owned (owner.Status d)
        ∙ sym (ap count_if (ap (λ (u : Updates). u.started d) loses.rest ∙ started_end (record (seen old.core.status) { wanted = next.wanted; unstarted = without_disk (has old.core.status.writes.unstarted) disk }) going.status.started d))

    note_flies : (d : ℕ) → count_by (λ (g : Flown). same_owner (owner.Note d) g.owner) (remove old.core.flying at) ≡ count_if (is_some (flight_on (after_end old.core.cache disk false) d))
    note_flies d = by (d == disk) refl
      where
        by : (b : Bool) → (d == disk) ≡ b → count_by (λ (g : Flown). same_owner (owner.Note d) g.owner) (remove old.core.flying at) ≡ count_if (is_some (flight_on (after_end old.core.cache disk false) d))
        by false other = as_many old.core going.owned at event.row event.returns.there (owner.Note d) (other_own (owner.Note d) other) ∙ going.owned (owner.Note d) ∙ ap (λ m. count_if (is_some m)) (sym (flight_beside old.core.cache disk false d other))
        by true is =
            ap (λ n. count_by (λ (g : Flown). same_owner (owner.Note n) g.owner) (remove old.core.flying at)) (eqb-true d disk is) ∙ ap (λ who. count_by (λ (g : Flown). same_owner who g.owner) (remove old.core.flying at)) (sym event.own)
            ∙ none_left old.core going.owned at event.row event.returns.there
            ∙ sym (ap (λ n. count_if (is_some (flight_on (after_end old.core.cache disk false) n))) (eqb-true d disk is) ∙ ap (λ m. count_if (is_some m)) (none_here old.core.cache disk false))

    status_on : (d : ℕ) → same_owner event.row.owner (owner.Status d) ≡ false → has old.core.status.writes.started d ≡ true → (next.in_flight ≡ old.core.status.in_flight) × (next_slot kind.Status old.core.homes d ≡ next_slot kind.Status old.core.homes d)
    status_on d other started = (by follows.in_flight, refl)
      where
        still : has next.writes.started d ≡ true
        still = ap (λ (u : Updates). u.started d) loses.rest ∙ started_end (record (seen old.core.status) { wanted = next.wanted; unstarted = without_disk (has old.core.status.writes.unstarted) disk }) going.status.started d ∙ started

        by : (next.in_flight ≡ old.core.status.in_flight) ⊎ (next.in_flight ≡ None) → next.in_flight ≡ old.core.status.in_flight
        by (inl same) = same
        by (inr none) = not_so (sym (follows.sound.idle none d).1 ∙ still)

    note_on : (d : ℕ) → same_owner event.row.owner (owner.Note d) ≡ false → flight_on (after_end old.core.cache disk false) d ≡ flight_on old.core.cache d
    note_on d other = flight_beside old.core.cache disk false d (apart (d == disk) refl)
      where
        apart : (b : Bool) → (d == disk) ≡ b → (d == disk) ≡ false
        apart false is = is
        apart true is = not_so (sym (sym (ap (λ who. same_owner who (owner.Note d)) event.own) ∙ other) ∙ eq-eqb disk d (sym (eqb-true d disk is)))
