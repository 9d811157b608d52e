-- A transfer of a copy ends that had ended before.
use Rattle.std.proofs.Common.{◌≡◌, ◌≤◌, ◌⊎◌, inl, inr, ◌==◌, ℕ, Bool, true, false, ◌&&◌, List, refl, sym, ◌∙◌, ap, subst, arith}
use Rattle.std.specs.Prelude.{IfSome}
use Rattle.std.proofs.lemmas.Bool.{eqb-true, eqb-false}
use Rattle.std.specs.Option.{option_map_or}
use Rattle.lvm_num.specs.Buffer.{Buffer}
use Rattle.lvm_num.specs.declared.place.Pp.{Pp}
use Rattle.lvm_num.specs.Descriptor.{is_pp}
use Rattle.lvm_disk.specs.Device.{Device, Flight}
use Rattle.lvm_disk.specs.Counts.{Counts}
use Rattle.lvm_disk.specs.Steps.{CountsFailure, Removes}
use Rattle.lvm_session.specs.declared.bringing.OpenCopy.{OpenCopy}
use Rattle.lvm_session.specs.declared.bringing.Step.TheVariants as step
use Rattle.lvm_session.specs.declared.flown.Flown.{Flown}
use Rattle.lvm_session.specs.State.{Core, State, state}
use Rattle.lvm_session.specs.Judging.{copies_in, is_running}
use Rattle.lvm_session.specs.Bringing.{is_whole}
use Rattle.lvm_session.specs.Ends.{EndsAs, after_quit}
use Rattle.lvm_session.specs.Causes.{HaveSourcesFailed, IsCausedAmong}
use Rattle.lvm_session.specs.Sound.{IsCopy, IsSound, is_clearing}
use Rattle.lvm_keeps_events.specs.Ends.{CopyQuitKeeps}
use Rattle.lvm_keeps_events.proofs.EndsLemmas.Counts.{counts_keep}
use Rattle.lvm_keeps_events.proofs.SoundLemmas.Over.{keeps}
use Rattle.lvm_keeps_events.proofs.OwnersLemmas.Removal.{IsOut, taken_out}

-- ---- the end, well or badly

pub record IsBack (old new : Device) (row : Flown) (buf : Buffer) : Type 0 where
  pub flight : Flight
  pub its : flight.ticket ≡ row.ticket
  pub flights : Removes flight old.flights new.flights
  pub number : buf.number ≡ flight.buf.number
  pub more : (disk : ℕ) → old.counts.faults disk ≤ new.counts.faults disk
  pub is : new ≡ record old { media = new.media; flights = new.flights; counts = new.counts }

pub is_back : (old new : Device) (row : Flown) (buf : Buffer) (ok : Bool) → EndsAs ok old new row.ticket buf → IsBack old new row buf
is_back old new row buf true ended = record {
  flight = ended.flight;
  its = ended.its;
  flights = ended.flights;
  number = ended.rest.number;
  more = λ disk. let same : new.counts.faults disk ≡ old.counts.faults disk = ap (λ (d : Device). d.counts.faults disk) ended.new_is in omega (arith, same);
  is = ended.new_is ∙ ap (λ (x : Counts). record old { media = new.media; flights = new.flights; counts = x }) (sym (ap (λ (d : Device). d.counts) ended.new_is));
}
is_back old new row buf false ended = record { flight = ended.flight; its = ended.its; flights = ended.flights; number = ended.number; more = λ disk. more disk ended.counts; is = ended.new_is }
  where
    more : (disk : ℕ) → CountsFailure ended.flight old.counts new.counts → old.counts.faults disk ≤ new.counts.faults disk
    more disk (inl miss) = let same : new.counts.faults disk ≡ old.counts.faults disk = ap (λ (x : Counts). x.faults disk) miss.1.new_is in omega (arith, same)
    more disk (inr fault) = by (disk == ended.flight.disk) refl
      where
        by : (b : Bool) → (disk == ended.flight.disk) ≡ b → old.counts.faults disk ≤ new.counts.faults disk
        by true same = subst (λ d. old.counts.faults d ≤ new.counts.faults d) (sym (eqb-true disk ended.flight.disk same)) fault.1.faults.here.later
        by false other = let same = fault.1.faults.elsewhere disk (λ e. eqb-false disk ended.flight.disk other e) in omega (arith, same)

pub copy_quit_keeps : CopyQuitKeeps
copy_quit_keeps at ok old new sound on event =
    subst IsSound (sym (ap (λ (d : Device). state d new.core) ended.is ∙ ap (λ (k : Core). state (record old.device { media = new.device.media; flights = new.device.flights; counts = new.device.counts }) k) event.is
    ∙ ap (λ (fs : List Flight). state (record old.device { media = new.device.media; flights = fs; counts = new.device.counts }) made) out.left_is))
    (keeps between sound_between on c event.is_open c.tried c.end event.over (λ moves move. move.ends) not_clearing its.tried why at event.row event.returns.there event.own ended.flight out.there event.buf ended.number)
  where
    c : OpenCopy
    c = event.copy

    ended : IsBack old.device new.device event.row event.buf
    ended = is_back old.device new.device event.row event.buf ok event.returns.ends

    between : State
    between = state (record old.device { media = new.device.media; counts = new.device.counts }) old.core

    sound_between : IsSound between
    sound_between = counts_keep old new.device.media new.device.counts sound ended.more

    its : IsCopy old.core c
    its = subst (λ m. IfSome m (IsCopy old.core)) event.is_open (sound.on on).going.copy

    not_clearing : (p : Pp) → is_clearing old.core p ≡ false
    not_clearing p = ap (λ m. option_map_or (λ (k : OpenCopy). is_running k && is_whole old.core k && is_pp p k.pp) m false) event.is_open ∙ ap (λ b. b && is_whole old.core c && is_pp p c.pp) event.over

    why : IsCausedAmong between (copies_in old.core.descriptor c.lv c.lp) (record c { step = step.Idle })
    why = let was = subst (λ m. IfSome m (λ (k : OpenCopy). IsCausedAmong between (copies_in old.core.descriptor k.lv k.lp) k)) event.is_open sound_between.copy in
        record { began = was.began; since = was.since; tried = was.tried; own_began = was.own_began; own_since = was.own_since; failed = λ e. sources_on (was.failed e) }
      where
        sources_on : {x : Type 0} → x ⊎ HaveSourcesFailed between (copies_in old.core.descriptor c.lv c.lp) c → x ⊎ HaveSourcesFailed between (copies_in old.core.descriptor c.lv c.lp) (record c { step = step.Idle })
        sources_on (inl x) = inl x
        sources_on (inr all) = inr (record { each = all.each; number = all.number; source = all.source; source_is = all.source_is; other = all.other; one = all.one })

    out : IsOut old.core old.device.flights new.device.flights at event.row ended.flight
    out = taken_out old.core old.core.flying old.device.flights new.device.flights at event.row ended.flight (sound.on on).rows (sound.on on).going.tickets event.returns.there ended.flights ended.its

    made : Core
    made = after_quit old.core at c event.buf
