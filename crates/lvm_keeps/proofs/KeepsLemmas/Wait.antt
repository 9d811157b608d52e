-- No transfer has ended, or a client has given an order to the shelf.
use Rattle.std.proofs.Common.{◌⊎◌, inl, inr, ℕ, List, sym, subst}
use Rattle.lvm_num.specs.declared.place.Pp.{Pp}
use Rattle.lvm_num.proofs.Lists.{all_weaker}
use Rattle.lvm_session.specs.passed.Disk.{Device, Orders}
use Rattle.lvm_vol.specs.declared.entry.Outcome.{Outcome}
use Rattle.lvm_vol.specs.declared.entry.Outcome.TheVariants as outcome
use Rattle.lvm_session.specs.declared.bringing.OpenCopy.{OpenCopy}
use Rattle.lvm_session.specs.declared.open.Open.{Open}
use Rattle.lvm_session.specs.State.{Core, State, state}
use Rattle.lvm_session.specs.Judging.{copies_in}
use Rattle.lvm_session.specs.Causes.{AreCounted, HaveSourcesFailed, IsAnswered, IsCausedAmong, IsCounted, IsLandedFor}
use Rattle.lvm_session.specs.Sound.{IsSound}
use Rattle.lvm_keeps.specs.Keeps.{WaitKeeps}
use Rattle.lvm_keeps.proofs.RequestsLemmas.{if_on}

-- of the shelf only the count of waits and the orders have changed
module _ (s : State) (waits : ℕ) (orders : Orders) where
  abbrev pub waited : State
  waited = state (record s.device { counts = record s.device.counts { waits = waits }; orders = orders }) s.core

  landed_on : (o : Open) (how : Outcome) → IsLandedFor s o how → IsLandedFor waited o how
  landed_on o outcome.Done its = its
  landed_on o outcome.Got its = its
  landed_on o outcome.Lost its = its
  landed_on o outcome.ReadFailed its = its
  landed_on o outcome.NoFresh its = its
  landed_on o outcome.Off its = its
  landed_on o outcome.Dark its = its

  copy_on : (copies : List Pp) (c : OpenCopy) → IsCausedAmong s copies c → IsCausedAmong waited copies c
  copy_on copies c its = record { began = its.began; since = its.since; tried = its.tried; own_began = its.own_began; own_since = its.own_since; failed = λ e. sources_on (its.failed e) }
    where
      sources_on : {own : Type 0} → own ⊎ HaveSourcesFailed s copies c → own ⊎ HaveSourcesFailed waited copies c
      sources_on (inl own) = inl own
      sources_on (inr all) = inr (record { each = all.each; number = all.number; source = all.source; source_is = all.source_is; other = all.other; one = all.one })

  pub keeps : IsSound s → IsSound waited
  keeps sound = record {
    fitting = sound.fitting;
    told = sound.told;
    placed = sound.placed;
    buffers = sound.buffers;
    none_lost = sound.none_lost;
    on = λ e. let was = sound.on e in record { going = was.going; rows = was.rows; caused = was.caused; chosen = was.chosen };
    lit = λ e. let was = sound.lit e in record { power = was.power; freed = was.freed };
    dark = λ e. let was = sound.dark e in record { power = was.power; flights = was.flights };
    off = sound.off;
    over = λ e. let was = sound.over e in record { landed = was.landed; copy = was.copy; flights = was.flights; flying = was.flying };
    stuck = sound.stuck;
    counted = all_weaker (AreCounted s) (AreCounted waited) (λ o all. all_weaker (IsCounted s) (IsCounted waited) (λ t its. record { began = its.began; since = its.since }) o.request.targets.items all) s.core.requests sound.counted;
    answered = all_weaker (IsAnswered s) (IsAnswered waited) (λ o why. if_on (IsLandedFor s o) (IsLandedFor waited o) (landed_on o) o.landed why) s.core.requests sound.answered;
    copy = if_on (λ (c : OpenCopy). IsCausedAmong s (copies_in s.core.descriptor c.lv c.lp) c) (λ (c : OpenCopy). IsCausedAmong waited (copies_in s.core.descriptor c.lv c.lp) c) (λ c. copy_on (copies_in s.core.descriptor c.lv c.lp) c) s.core.copy sound.copy;
    origin = let was = sound.origin in record { since = was.since; votes = was.votes; rows = was.rows; still_missing = was.still_missing; missing = was.missing; stale = was.stale };
  }

pub wait_keeps : WaitKeeps
wait_keeps old new sound on event =
    subst (λ (device : Device). IsSound (state device new.core)) (sym event.waits.new_is)
    (subst (λ (core : Core). IsSound (state (record old.device { counts = record old.device.counts { waits = new.device.counts.waits } }) core)) (sym event.is) (keeps old new.device.counts.waits old.device.orders sound))
