-- `varyonvg`, by how its call ends.
use Rattle.std.proofs.Common.{◌≡◌, inl, inr, ⊎_elim, ℕ, List, Result, Ok, Err, IfOk, IfErr, refl, sym, ◌∙◌, ap, subst}
use Rattle.std.specs.Prelude.{◌≤◌}
use Rattle.lvm_disk.specs.Device.{Device, IsReady, HasSectors}
use Rattle.lvm_vol.specs.Facts.{Fact}
use Rattle.lvm_vol.specs.Log.{Log, spare_entries}
use Rattle.lvm_kept.specs.Moments.{Moment}
use Rattle.lvm_steps.specs.Moments.{RunBegins, Keeps}
use Rattle.lvm_steps.specs.Requests.{at}
use Rattle.lvm_steps.specs.Behind.{ClockIsAhead}
use Rattle.lvm_core.specs.declared.parts.Room.{Room}
use Rattle.lvm_core.specs.declared.refused.Cause.{Cause}
use Rattle.lvm_core.specs.declared.refused.Cause.TheVariants as cause
use Rattle.lvm_core.specs.declared.refused.Refused.{Refused}
use Rattle.lvm_core.specs.Held.{StartsHeld}
use Rattle.lvm_core.specs.Settled.{IsSettled as IsSettledCore}
use Rattle.lvm_core.specs.State.{state_of}
use Rattle.lvm_session.specs.State.{Core}
use Rattle.lvm_group_lines.specs.passed.Handover.{HasJustBegun, IsHistory, Serves}
use Rattle.lvm_group_lines.proofs.passed.Handover.{varied_on_begins}
use Rattle.lvm_group_lines.specs.passed.TieCommands.{StandsAfter}
use Rattle.lvm_group_lines.proofs.passed.TieCommands.{varied_on_stands}
use Rattle.lvm_group_lines.specs.passed.Varyon.{ComesOn, DirtyAreEqual, VaryonRefuses, VaryonGives, log_after}
use Rattle.lvm_group_lines.proofs.passed.Varyon.{same_orders, wrote_broken, wrote_equalled, wrote_failed}
use Rattle.lvm_group_lines.specs.passed.Quiesce.{ClockIsAheadEach, Quiesces, IsFullFor, VariesOnAt, VaryonOnceQuiet}
use Rattle.lvm_group_lines.proofs.passed.Quiesce.{quiet_is_ahead}
use Rattle.lvm_group_lines.specs.Groups.{itself}
use Rattle.lvm_group_lines.specs.State.{StandsAlone, without_facts}
use Rattle.lvm_group_lines.proofs.LogLemmas.{cut_rooms}
use Rattle.lvm_group_lines.proofs.LightingLemmas.{RefusalLeaves, Rests}
use Rattle.lvm_group_lines.proofs.FactsLemmas.{Bears, bears_cut}
use Rattle.lvm_group_lines.proofs.Coming.{CameOn, StayedOff, stays}
use Rattle.lvm_group_lines.proofs.QuiesceGroupsLemmas.Quieting.{device_outcome, itself_once, on_once, quiet_orders, stayed_once}

-- ---- a refusal

-- what a refusal leaves of a shelf that was at rest
module _ (before old left : Device) (name : List ℕ) (moment patience : ℕ) (log : Log) (ready : IsReady old) (same : old.orders ≡ before.orders) where
  pub leaves : (why : Cause) → VaryonRefuses old left name moment patience log why → RefusalLeaves why before left
  leaves cause.HistoryFull refuses = record { rests = inr (subst IsReady (sym refuses.1) ready); orders = ap (λ (d : Device). d.orders) refuses.1 ∙ same }
  leaves cause.NoRecord refuses = record { rests = inr refuses.1.rested.ready; orders = refuses.1.unwritten.orders ∙ same }
  leaves cause.Ambiguous refuses = record { rests = inr refuses.1.rested.ready; orders = refuses.1.unwritten.orders ∙ same }
  leaves (cause.NoQuorum have total) refuses = record { rests = inr refuses.1.rested.ready; orders = refuses.1.unwritten.orders ∙ same }
  leaves (cause.ClockBack seen) refuses = record { rests = inr refuses.1.rested.ready; orders = refuses.1.unwritten.orders ∙ same }
  leaves (cause.DiskFailed disk) refuses =
      let w = refuses.1.writes in
      record {
        rests = inr (⊎_elim (λ failed. failed.rested.ready) (λ s. ⊎_elim (λ at. at.1.rested.ready) (λ later. ⊎_elim (λ at. at.how.rested.ready) (λ at. at.how.rested.ready) later) s.stops.when) w.how);
        orders = same_orders _ _ refuses.1.copies w.read left (wrote_failed _ _ refuses.1.copies w.read left disk w.how) ∙ w.unwritten.orders ∙ same;
      }
  leaves cause.Dark refuses = record {
    rests = refuses.1.how.flights;
    orders = ⊎_elim (λ u. u.orders) (λ w. same_orders _ _ w.copies w.writes.read left (wrote_broken _ _ w.copies w.writes.read left w.writes.how) ∙ w.writes.unwritten.orders) refuses.1.when ∙ same;
  }
  leaves cause.Stuck refuses = record {
    rests = refuses.1.how.power;
    orders = ⊎_elim (λ u. u.orders) (λ w. same_orders _ _ w.copies w.writes.read left (wrote_broken _ _ w.copies w.writes.read left w.writes.how) ∙ w.writes.unwritten.orders) refuses.1.when ∙ same;
  }
  leaves cause.Memory refuses = record { rests = inr refuses.1.1.ready; orders = refuses.1.0.orders ∙ same }
  leaves (cause.NoDisk disk) refuses = absurd refuses.1
  leaves (cause.TooMany limit) refuses = absurd refuses.1
  leaves (cause.TooSmall disk) refuses = absurd refuses.1
  leaves cause.GroupExists refuses = absurd refuses.1

-- what the entries after a refusal leave true
after_bears : (P : List Fact → Type 0) → Bears P → (why : Cause) (log : Log) → P log.facts → P (log_after why log).facts
after_bears P bears cause.Dark log holds = bears_cut P bears log holds
after_bears P bears _ log holds = holds

after_rooms : (why : Cause) (log : Log) → without_facts (log_after why log) ≡ without_facts log
after_rooms cause.Dark log = cut_rooms log
after_rooms _ log = refl

-- nothing has changed where the history is full
full_rests : (log : Log) (old : Device) (why : Cause) (left : Device) → IsFullFor log why → left ≡ old → Rests why old left
full_rests log old why left full same = subst (λ (w : Cause). Rests w old left) (sym full.0) (inl same)

-- ---- by the call's outcome

module _ {S : Type 0} (device : S → Device) (shelf : S) (log : Log) (name : List ℕ) (moment patience : ℕ) (room : Room) where
  abbrev Outcomes : Type 0
  Outcomes = Result (S × Core) (Refused S)

  -- the group has come on over the shelf that was at rest
  record ComesOnce (driver : S × Core) : Type 0 where
    mid : Device
    quiesces : Quiesces (device shelf) mid
    on : ComesOn mid (device driver.0) log name moment room driver.1
    equal : ClockIsAhead log.run moment mid log.facts → DirtyAreEqual (device driver.0) driver.1

  comes_at : (mid : Device) (left : ℕ) → Quiesces (device shelf) mid → (outcome : Outcomes) → VariesOnAt device log name moment room left mid outcome → IfOk outcome ComesOnce
  comes_at mid left quiet (Ok driver) at = record { mid = mid; quiesces = quiet; on = at.gives; equal = at.equal }
  comes_at mid left quiet (Err refused) at = tt

  stays_at : (mid : Device) (left : ℕ) (outcome : Outcomes) → IsReady mid → VaryonGives device mid log name moment room left outcome
      → IfErr outcome (λ refused. (before : Device) → mid.orders ≡ before.orders → StayedOff refused.cause before (device refused.shelf) log refused.history)
  stays_at mid left (Ok driver) ready on = tt
  stays_at mid left (Err refused) ready gives = λ before same. record {
    leaves = leaves before mid (device refused.shelf) name moment left log ready same refused.cause gives.0;
    stays = stays log.facts refused.history.facts (λ P bears holds. subst (λ (l : Log). P l.facts) (sym gives.1) (after_bears P bears refused.cause log holds));
    rooms = ap without_facts gives.1 ∙ after_rooms refused.cause log;
  }

  module _ (outcome : Outcomes) (quiet : VaryonOnceQuiet device log name moment room patience (device shelf) outcome) where
    comes : IfOk outcome ComesOnce
    comes = on_once device (IsFullFor log) (1 ≤ spare_entries log) (λ left mid outcome. VariesOnAt device log name moment room left mid outcome) patience log (device shelf) ComesOnce
        (λ left mid o quiesces at. comes_at mid left quiesces o at) outcome quiet

    pub stayed : IfErr outcome (λ refused. StayedOff refused.cause (device shelf) (device refused.shelf) log refused.history)
    stayed = stayed_once device (IsFullFor log) (1 ≤ spare_entries log) (λ left mid outcome. VariesOnAt device log name moment room left mid outcome) patience log (device shelf)
        (full_rests log (device shelf)) (λ left mid o ready at. stays_at mid left o ready at.gives) outcome quiet

  came_on : (driver : S × Core) → ComesOnce driver → CameOn moment (device shelf) (device driver.0) log driver.1
  came_on driver it = record {
    entered = log.facts;
    facts = ap (λ (c : Core). c.history.facts) it.on.first.is;
    stays = stays log.facts log.facts (λ P bears holds. holds);
    ready = it.on.written.writes.how.equal.rested.ready;
    epoch = ap (λ (c : Core). c.status.stamp.epoch) it.on.first.is;
    orders = same_orders _ _ it.on.written.copies it.on.written.writes.read (device driver.0) (wrote_equalled _ _ it.on.written.copies it.on.written.writes.read (device driver.0) driver.1.homes it.on.written.writes.how)
        ∙ it.on.written.writes.unwritten.orders ∙ quiet_orders (device shelf) it.mid it.quiesces;
    rooms = ap (λ (c : Core). without_facts c.history) it.on.first.is;
  }

  serves_then : (driver : S × Core) → IsHistory log → HasJustBegun (state_of device driver) → ComesOnce driver → Serves (state_of device driver)
  serves_then driver history just it = varied_on_begins log name moment room it.mid (state_of device driver) history it.on just

  stands_then : (driver : S × Core) → HasSectors (device driver.0) → IsSettledCore driver.1 → Serves (state_of device driver) → ComesOnce driver
      → (first : Moment) → Keeps log.run first (at (device driver.0) driver.1.history.facts) → (past : List Fact) → RunBegins log.run past first → ClockIsAheadEach log.run moment (device shelf) log.facts → StartsHeld (device driver.0) driver.1 → StandsAlone (device driver.0) driver.1 → StandsAfter past (device driver.0) driver.1
  stands_then driver whole settled serves it first keeps past begins clock held alone =
      varied_on_stands log.run first log name moment room it.mid (state_of device driver) it.on (it.equal (quiet_is_ahead log.run moment (device shelf) it.mid log.facts it.quiesces clock))
      (record { sound = serves.sound; settled = settled; stamped = serves.stamped; run_is = ap (λ (c : Core). c.history.run) it.on.first.is; keeps = keeps; held = held }) whole (alone settled.quiet.requests) past begins

  -- what the line needs of it
  pub came : (outcome : Outcomes) → VaryonOnceQuiet device log name moment room patience (device shelf) outcome → IfOk outcome (λ driver. CameOn moment (device shelf) (device driver.0) log driver.1)
  came outcome quiet = by outcome (comes outcome quiet)
    where
      by : (o : Outcomes) → IfOk o ComesOnce → IfOk o (λ driver. CameOn moment (device shelf) (device driver.0) log driver.1)
      by (Ok driver) it = came_on driver it
      by (Err refused) it = tt

  pub serves : (outcome : Outcomes) → VaryonOnceQuiet device log name moment room patience (device shelf) outcome → IsHistory log → IfOk outcome (λ driver. HasJustBegun (state_of device driver) → Serves (state_of device driver))
  serves outcome quiet history = by outcome (comes outcome quiet)
    where
      by : (o : Outcomes) → IfOk o ComesOnce → IfOk o (λ driver. HasJustBegun (state_of device driver) → Serves (state_of device driver))
      by (Ok driver) it = λ just. serves_then driver history just it
      by (Err refused) it = tt

  pub stands : (outcome : Outcomes) → VaryonOnceQuiet device log name moment room patience (device shelf) outcome
      → IfOk outcome (λ driver. HasSectors (device driver.0) → IsSettledCore driver.1 → Serves (state_of device driver)
      → (first : Moment) → Keeps log.run first (at (device driver.0) driver.1.history.facts) → (past : List Fact) → RunBegins log.run past first → ClockIsAheadEach log.run moment (device shelf) log.facts → StartsHeld (device driver.0) driver.1 → StandsAlone (device driver.0) driver.1 → StandsAfter past (device driver.0) driver.1)
  stands outcome quiet = by outcome (comes outcome quiet)
    where
      by : (o : Outcomes) → IfOk o ComesOnce
          → IfOk o (λ driver. HasSectors (device driver.0) → IsSettledCore driver.1 → Serves (state_of device driver)
          → (first : Moment) → Keeps log.run first (at (device driver.0) driver.1.history.facts) → (past : List Fact) → RunBegins log.run past first → ClockIsAheadEach log.run moment (device shelf) log.facts → StartsHeld (device driver.0) driver.1 → StandsAlone (device driver.0) driver.1 → StandsAfter past (device driver.0) driver.1)
      by (Ok driver) it = λ whole settled serves. stands_then driver whole settled serves it
      by (Err refused) it = tt

  -- ---- the same of the shelf's device alone

  at_itself : (left : ℕ) (mid : Device) (outcome : Outcomes) → VariesOnAt device log name moment room left mid outcome → VariesOnAt itself log name moment room left mid (device_outcome device outcome)
  at_itself left mid (Ok driver) at = record { gives = at.gives; recovered = at.recovered; equal = at.equal }
  at_itself left mid (Err refused) at = record { gives = at.gives; recovered = tt; equal = tt }

  pub itself_gives : (outcome : Outcomes) → VaryonOnceQuiet device log name moment room patience (device shelf) outcome → VaryonOnceQuiet itself log name moment room patience (device shelf) (device_outcome device outcome)
  itself_gives = itself_once device (IsFullFor log) (1 ≤ spare_entries log) (λ left mid outcome. VariesOnAt device log name moment room left mid outcome) patience log (device shelf) (λ left mid outcome. VariesOnAt itself log name moment room left mid outcome) at_itself
