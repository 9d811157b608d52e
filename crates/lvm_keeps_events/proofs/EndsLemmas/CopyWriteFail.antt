-- The write of the copy that is open has failed.
use Rattle.std.proofs.Common.{◌≡◌, inl, inr, Bool, true, false, ◌&&◌, ◌||◌, not, List, Some, refl, sym, ◌∙◌, ap, subst, arith}
use Rattle.std.specs.Prelude.{IfSome, slice_set}
use Rattle.std.specs.List.{remove}
use Rattle.lvm_hold.specs.Waiting.{without}
use Rattle.std.specs.Option.{option_map_or}
use Rattle.lvm_num.specs.declared.place.Pp.{Pp}
use Rattle.lvm_num.specs.Descriptor.{is_pp}
use Rattle.lvm_num.proofs.Booleans.{not_so}
use Rattle.lvm_disk.specs.Device.{Device, Flight}
use Rattle.lvm_disk.specs.Counts.{Counts, Rose}
use Rattle.lvm_disk.specs.Steps.{CountsFailure, EndsFailed}
use Rattle.lvm_session.specs.declared.bringing.OpenCopy.{OpenCopy}
use Rattle.lvm_session.specs.declared.bringing.Step.{Step}
use Rattle.lvm_session.specs.declared.bringing.Step.TheVariants as step
use Rattle.lvm_session.specs.declared.flown.Flown.{Flown}
use Rattle.lvm_session.specs.declared.flown.Owner.TheVariants as owner
use Rattle.lvm_session.specs.State.{Core, State, state}
use Rattle.lvm_session.specs.Judging.{copies_in, is_running}
use Rattle.lvm_session.specs.declared.bringing.CopyEnd.TheVariants as ending
use Rattle.lvm_status.specs.Update.{Stored}
use Rattle.lvm_session.specs.Events.{IsCopyTransfer}
use Rattle.lvm_session.specs.Bringing.{marked_by_end, is_idle, is_whole, is_held_stale}
use Rattle.lvm_session.specs.Owners.{IsCopyStepOf, IsRowOf, IsStepOf, IsTransferOf}
use Rattle.lvm_session.specs.Causes.{IsCausedAmong, own_faults}
use Rattle.lvm_session.specs.Sound.{IsCopy, IsSound, is_clearing}
use Rattle.lvm_keeps_events.specs.Ends.{CopyWriteFailKeeps}
use Rattle.lvm_keeps_events.proofs.EndsLemmas.Counts.{counts_keep, rose_since}
use Rattle.lvm_keeps_events.proofs.EndsLemmas.CopyQuit.{IsBack, is_back}
use Rattle.lvm_keeps_events.proofs.SoundLemmas.Over.{keeps}
use Rattle.lvm_keeps_events.proofs.OwnersLemmas.Removal.{IsOut, taken_out}

-- a transfer of a copy that fails counts as a fault of its disk, since it lies behind the record area
pub faulted : (core : Core) (c : OpenCopy) (p : Pp) (write : Bool) (f : Flight) (old new : Counts) → IsCopyTransfer core c p write f → CountsFailure f old new → Rose (old.faults p.disk) (new.faults p.disk)
faulted core c p write f old new its (inl miss) = let low = miss.0.1 in let first = its.first in absurd (omega (arith, low, first))
faulted core c p write f old new its (inr fault) = subst (λ d. Rose (old.faults d) (new.faults d)) its.disk_is fault.1.faults.here

-- the transfer that is out is the step's
pub step_out : (core : Core) (c : OpenCopy) (row : Flown) (f : Flight) → core.copy ≡ Some c → row.owner ≡ owner.Copy → IsRowOf core row f → IsStepOf c.step core c f
step_out core c row f is own of = by (subst (λ who. IsTransferOf core who f) own of.own)
  where
    by : IsCopyStepOf core f → IsStepOf c.step core c f
    by its = subst (λ (d : OpenCopy). IsStepOf d.step core d f) (let e : Some its.0 ≡ Some c = sym its.1 ∙ is in cc e) its.2

pub copy_write_fail_keeps : CopyWriteFailKeeps
copy_write_fail_keeps at old new sound on event =
    subst IsSound (sym (ap (λ (d : Device). state d new.core) ended.is ∙ ap (λ (k : Core). state (record old.device { media = new.device.media; flights = new.device.flights; counts = new.device.counts }) k) core_is
    ∙ ap (λ (fs : List Flight). state (record old.device { media = new.device.media; flights = fs; counts = new.device.counts }) made) out.left_is))
    (keeps between sound_between on c event.is_open c.tried (Some ending.SyncFailed) refl (λ moves move failed. let not_done : Some ending.SyncFailed ≡ Some ending.Done = failed in cc) not_clearing its.tried why at event.row event.returns.there event.own ended.flight out.there event.buf ended.number)
  where
    c : OpenCopy
    c = event.copy

    failure : EndsFailed old.device new.device event.row.ticket event.buf
    failure = event.returns.ends

    ended : IsBack old.device new.device event.row event.buf
    ended = record { flight = failure.flight; its = failure.its; flights = failure.flights; number = failure.number; more = (is_back old.device new.device event.row event.buf false failure).more; is = failure.new_is }

    between : State
    between = state (record old.device { media = new.device.media; counts = new.device.counts }) old.core

    sound_between : IsSound between
    sound_between = counts_keep old new.device.media new.device.counts sound ended.more

    its : IsCopy old.core c
    its = subst (λ m. IfSome m (IsCopy old.core)) event.is_open (sound.on on).going.copy

    short : is_whole old.core c ≡ false
    short = its.under_way event.runs (ap is_idle event.writes)

    not_clearing : (p : Pp) → is_clearing old.core p ≡ false
    not_clearing p = ap (λ m. option_map_or (λ (k : OpenCopy). is_running k && is_whole old.core k && is_pp p k.pp) m false) event.is_open ∙ ap (λ b. is_running c && b && is_pp p c.pp) short ∙ by (is_running c)
      where
        by : (b : Bool) → b && false && is_pp p c.pp ≡ false
        by true = refl
        by false = refl

    -- nothing comes to be wanted stale, since it wasn't whole
    status_is : new.core.status ≡ old.core.status
    status_is = event.fails.marks.same (λ p due. not_so (sym (not_marked p) ∙ due))
      where
        not_marked : (p : Pp) → marked_by_end old.core (Some ending.SyncFailed) p ≡ false
        not_marked p = ap (λ m. option_map_or (λ (k : OpenCopy). is_whole old.core k && is_pp p k.pp && (not k.moves || is_held_stale old.core k.pp)) m false) event.is_open ∙ ap (λ b. b && is_pp p c.pp && (not c.moves || is_held_stale old.core c.pp)) short

    out : IsOut old.core old.device.flights new.device.flights at event.row ended.flight
    out = taken_out old.core old.core.flying old.device.flights new.device.flights at event.row ended.flight (sound.on on).rows (sound.on on).going.tickets event.returns.there ended.flights ended.its

    transfer : IsCopyTransfer old.core c c.pp true ended.flight
    transfer = subst (λ (x : Step). IsStepOf x old.core c ended.flight) event.writes (step_out old.core c event.row ended.flight event.is_open event.own out.own)

    rose : Rose (old.device.counts.faults c.pp.disk) (new.device.counts.faults c.pp.disk)
    rose = faulted old.core c c.pp true ended.flight old.device.counts new.device.counts transfer failure.counts

    why : IsCausedAmong between (copies_in old.core.descriptor c.lv c.lp) (record c { step = step.Idle; end = Some ending.SyncFailed })
    why =
        let was = subst (λ m. IfSome m (λ (k : OpenCopy). IsCausedAmong between (copies_in old.core.descriptor k.lv k.lp) k)) event.is_open sound_between.copy in
        let before = subst (λ m. IfSome m (λ (k : OpenCopy). IsCausedAmong old (copies_in old.core.descriptor k.lv k.lp) k)) event.is_open sound.copy in
        record { began = was.began; since = was.since; tried = was.tried; own_began = was.own_began; own_since = was.own_since; failed = λ e. inl (rose_since (own_faults c) (old.device.counts.faults c.pp.disk) (new.device.counts.faults c.pp.disk) before.own_since rose) }

    made : Core
    made = record old.core { flying = remove old.core.flying at; pool = slice_set old.core.pool event.buf.number false; copy = Some (record c { step = step.Idle; end = Some ending.SyncFailed }); queue = record old.core.queue { rows = without c.place old.core.queue.rows } }

    core_is : new.core ≡ made
    core_is = event.fails.is ∙ ap (λ (u : Stored). record made { status = u }) status_is
