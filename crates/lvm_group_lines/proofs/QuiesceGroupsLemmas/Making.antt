-- `mkvg`, by how its call ends.
use Rattle.std.proofs.Common.{◌≡◌, inl, inr, ℕ, List, Option, Result, Ok, Err, IfOk, IfErr, sym, ◌∙◌, ap, subst}
use Rattle.lvm_disk.specs.Device.{Device, IsReady}
use Rattle.lvm_vol.specs.Facts.{Fact}
use Rattle.lvm_vol.specs.Log.{Log, spare_entries}
use Rattle.lvm_kept.specs.Moments.{Moment}
use Rattle.lvm_steps.specs.Moments.{RunBegins, Keeps}
use Rattle.lvm_steps.specs.Requests.{at}
use Rattle.lvm_core.specs.declared.parts.Room.{Room}
use Rattle.lvm_core.specs.declared.refused.Cause.{Cause}
use Rattle.lvm_core.specs.declared.refused.Cause.TheVariants as cause
use Rattle.lvm_core.specs.declared.refused.Refused.{Refused}
use Rattle.lvm_core.specs.Held.{StartsHeld}
use Rattle.lvm_core.specs.State.{state_of}
use Rattle.lvm_session.specs.State.{Core}
use Rattle.lvm_group_lines.specs.passed.Handover.{HasJustBegun, IsHistory, Serves}
use Rattle.lvm_group_lines.proofs.passed.Handover.{made_begins}
use Rattle.lvm_group_lines.specs.passed.TieCommands.{StandsAfter}
use Rattle.lvm_group_lines.proofs.passed.TieCommands.{made_stands}
use Rattle.lvm_group_lines.specs.passed.Group.{IsMade, MkvgRefuses, MkvgGives, MayMakeGroup, NewGroup, RefusesFirst, given_up}
use Rattle.lvm_group_lines.specs.passed.Quiesce.{ClockIsAheadEach, Quiesces, MkvgOnceQuiet}
use Rattle.lvm_group_lines.specs.Groups.{itself}
use Rattle.lvm_group_lines.specs.State.{StandsAlone, without_facts}
use Rattle.lvm_group_lines.proofs.LogLemmas.{cut_rooms}
use Rattle.lvm_group_lines.proofs.LightingLemmas.{RefusalLeaves, Rests}
use Rattle.lvm_group_lines.proofs.FactsLemmas.{Bears, bears_cut, bears_given_up}
use Rattle.lvm_group_lines.proofs.Coming.{CameOn, StayedOff, stays}
use Rattle.lvm_group_lines.proofs.QuiesceGroupsLemmas.Quieting.{device_outcome, itself_once, on_once, quiet_orders, stayed_once}

-- ---- a refusal

-- what a refusal leaves of a shelf that was at rest
module _ (before : Device) (w : NewGroup) (patience : ℕ) (was is : Log) (old left : Device) (ready : IsReady old) (same : old.orders ≡ before.orders) where
  leaves : (why : Cause) → MkvgRefuses w patience was is old left why → RefusalLeaves why before left
  leaves (cause.NoDisk disk) refuses = record { rests = inr (subst IsReady (sym refuses.0.shelf) ready); orders = ap (λ (d : Device). d.orders) refuses.0.shelf ∙ same }
  leaves (cause.TooMany limit) refuses = record { rests = inr (subst IsReady (sym refuses.0.shelf) ready); orders = ap (λ (d : Device). d.orders) refuses.0.shelf ∙ same }
  leaves (cause.TooSmall disk) refuses = record { rests = inr (subst IsReady (sym refuses.0.shelf) ready); orders = ap (λ (d : Device). d.orders) refuses.0.shelf ∙ same }
  leaves cause.HistoryFull refuses = record { rests = inr (subst IsReady (sym refuses.0.shelf) ready); orders = ap (λ (d : Device). d.orders) refuses.0.shelf ∙ same }
  leaves (cause.DiskFailed disk) (inl unread) = record { rests = inr unread.read.rested.ready; orders = unread.read.unwritten.orders ∙ same }
  leaves (cause.DiskFailed disk) (inr unwritten) = record { rests = inr unwritten.rested.ready; orders = unwritten.breaks.stops.only.orders ∙ same }
  leaves cause.GroupExists refuses = record { rests = inr refuses.0.rested.ready; orders = refuses.0.unwritten.orders ∙ same }
  leaves (cause.ClockBack seen) refuses = record { rests = inr refuses.0.rested.ready; orders = refuses.0.unwritten.orders ∙ same }
  leaves cause.Dark (inl reading) = record { rests = reading.cut.flights; orders = reading.unwritten.orders ∙ same }
  leaves cause.Dark (inr writing) = record { rests = writing.cut.flights; orders = writing.breaks.stops.only.orders ∙ same }
  leaves cause.Stuck (inl reading) = record { rests = reading.stuck.power; orders = reading.unwritten.orders ∙ same }
  leaves cause.Stuck (inr writing) = record { rests = writing.stuck.power; orders = writing.breaks.stops.only.orders ∙ same }
  leaves cause.Memory refuses = record { rests = inr refuses.rested.ready; orders = refuses.unwritten.orders ∙ same }
  leaves _ refuses = absurd refuses

  -- what the entries leave true, and the rooms
  module _ (P : List Fact → Type 0) (bears : Bears P) (holds : P was.facts) where
    as_is : is ≡ was → P is.facts
    as_is same = subst (λ (l : Log). P l.facts) (sym same) holds

    entries_bear : (why : Cause) → MkvgRefuses w patience was is old left why → P is.facts
    entries_bear (cause.NoDisk disk) refuses = as_is refuses.0.history
    entries_bear (cause.TooMany limit) refuses = as_is refuses.0.history
    entries_bear (cause.TooSmall disk) refuses = as_is refuses.0.history
    entries_bear cause.HistoryFull refuses = as_is refuses.0.history
    entries_bear (cause.DiskFailed disk) (inl unread) = as_is unread.read.history
    entries_bear (cause.DiskFailed disk) (inr unwritten) = subst (λ (l : Log). P l.facts) (sym unwritten.breaks.entered) (bears_given_up P bears was.facts w.disks holds)
    entries_bear cause.GroupExists refuses = as_is refuses.0.history
    entries_bear (cause.ClockBack seen) refuses = as_is refuses.0.history
    entries_bear cause.Dark (inl reading) = subst (λ (l : Log). P l.facts) (sym reading.entered) (bears_cut P bears was holds)
    entries_bear cause.Dark (inr writing) = subst (λ (l : Log). P l.facts) (sym writing.entered) (bears_cut P bears writing.begun (subst (λ (l : Log). P l.facts) (sym writing.breaks.entered) (bears_given_up P bears was.facts w.disks holds)))
    entries_bear cause.Stuck (inl reading) = as_is reading.entered
    entries_bear cause.Stuck (inr writing) = subst (λ (l : Log). P l.facts) (sym writing.breaks.entered) (bears_given_up P bears was.facts w.disks holds)
    entries_bear cause.Memory refuses = as_is refuses.history
    entries_bear _ refuses = absurd refuses

  same_rooms : (why : Cause) → MkvgRefuses w patience was is old left why → without_facts is ≡ without_facts was
  same_rooms (cause.NoDisk disk) refuses = ap without_facts refuses.0.history
  same_rooms (cause.TooMany limit) refuses = ap without_facts refuses.0.history
  same_rooms (cause.TooSmall disk) refuses = ap without_facts refuses.0.history
  same_rooms cause.HistoryFull refuses = ap without_facts refuses.0.history
  same_rooms (cause.DiskFailed disk) (inl unread) = ap without_facts unread.read.history
  same_rooms (cause.DiskFailed disk) (inr unwritten) = ap without_facts unwritten.breaks.entered
  same_rooms cause.GroupExists refuses = ap without_facts refuses.0.history
  same_rooms (cause.ClockBack seen) refuses = ap without_facts refuses.0.history
  same_rooms cause.Dark (inl reading) = ap without_facts reading.entered ∙ cut_rooms was
  same_rooms cause.Dark (inr writing) = ap without_facts writing.entered ∙ cut_rooms writing.begun ∙ ap without_facts writing.breaks.entered
  same_rooms cause.Stuck (inl reading) = ap without_facts reading.entered
  same_rooms cause.Stuck (inr writing) = ap without_facts writing.breaks.entered
  same_rooms cause.Memory refuses = ap without_facts refuses.history
  same_rooms _ refuses = absurd refuses

-- nothing has changed where it is refused at once
first_rests : (sizes : List ℕ) (spare : ℕ) (disks : List ℕ) (mib : Option ℕ) (old : Device) (why : Cause) (left : Device) → RefusesFirst sizes spare disks mib why → left ≡ old → Rests why old left
first_rests sizes spare disks mib old (cause.NoDisk disk) left first same = inl same
first_rests sizes spare disks mib old (cause.TooMany limit) left first same = inl same
first_rests sizes spare disks mib old (cause.TooSmall disk) left first same = inl same
first_rests sizes spare disks mib old cause.HistoryFull left first same = inl same
first_rests sizes spare disks mib old _ left first same = absurd first

-- ---- by the call's outcome

module _ {S : Type 0} (device : S → Device) (shelf : S) (log : Log) (w : NewGroup) (room : Room) (patience : ℕ) where
  abbrev Outcomes : Type 0
  Outcomes = Result (S × Core) (Refused S)

  -- the group was made on the shelf that was at rest
  record MadeOnce (driver : S × Core) : Type 0 where
    mid : Device
    quiesces : Quiesces (device shelf) mid
    made : IsMade w room log mid (device driver.0) driver.1

  made_at : (mid : Device) (left : ℕ) → Quiesces (device shelf) mid → (outcome : Outcomes) → MkvgGives device w room left log mid outcome → IfOk outcome MadeOnce
  made_at mid left quiet (Ok driver) made = record { mid = mid; quiesces = quiet; made = made }
  made_at mid left quiet (Err refused) gives = tt

  stays_at : (mid : Device) (left : ℕ) (outcome : Outcomes) → IsReady mid → MkvgGives device w room left log mid outcome
      → IfErr outcome (λ refused. (before : Device) → mid.orders ≡ before.orders → StayedOff refused.cause before (device refused.shelf) log refused.history)
  stays_at mid left (Ok driver) ready made = tt
  stays_at mid left (Err refused) ready refuses = λ before same. record {
    leaves = leaves before w left log refused.history mid (device refused.shelf) ready same refused.cause refuses;
    stays = stays log.facts refused.history.facts (λ P bears holds. entries_bear before w left log refused.history mid (device refused.shelf) ready same P bears holds refused.cause refuses);
    rooms = same_rooms before w left log refused.history mid (device refused.shelf) ready same refused.cause refuses;
  }

  abbrev First : Cause → Type 0
  First = RefusesFirst (device shelf).sizes (spare_entries log) w.disks w.mib

  abbrev May : Type 0
  May = MayMakeGroup (device shelf).sizes (spare_entries log) w.disks w.mib

  module _ (outcome : Outcomes) (quiet : MkvgOnceQuiet device w room patience log (device shelf) outcome) where
    made : IfOk outcome MadeOnce
    made = on_once device First May (λ left mid outcome. MkvgGives device w room left log mid outcome) patience log (device shelf) MadeOnce (λ left mid o quiesces at. made_at mid left quiesces o at) outcome quiet

    pub stayed : IfErr outcome (λ refused. StayedOff refused.cause (device shelf) (device refused.shelf) log refused.history)
    stayed = stayed_once device First May (λ left mid outcome. MkvgGives device w room left log mid outcome) patience log (device shelf)
        (first_rests (device shelf).sizes (spare_entries log) w.disks w.mib (device shelf)) (λ left mid o ready at. stays_at mid left o ready at) outcome quiet

  came_on : (driver : S × Core) → MadeOnce driver → CameOn w.moment (device shelf) (device driver.0) log driver.1
  came_on driver it = record {
    entered = (given_up log w.disks).facts;
    facts = ap (λ (c : Core). c.history.facts) it.made.core_is;
    stays = stays log.facts (given_up log w.disks).facts (λ P bears holds. bears_given_up P bears log.facts w.disks holds);
    ready = it.made.rested.ready;
    epoch = ap (λ (c : Core). c.status.stamp.epoch) it.made.core_is;
    orders = it.made.only.orders ∙ quiet_orders (device shelf) it.mid it.quiesces;
    rooms = ap (λ (c : Core). without_facts c.history) it.made.core_is;
  }

  -- what the line needs of it
  pub came : (outcome : Outcomes) → MkvgOnceQuiet device w room patience log (device shelf) outcome → IfOk outcome (λ driver. CameOn w.moment (device shelf) (device driver.0) log driver.1)
  came outcome quiet = by outcome (made outcome quiet)
    where
      by : (o : Outcomes) → IfOk o MadeOnce → IfOk o (λ driver. CameOn w.moment (device shelf) (device driver.0) log driver.1)
      by (Ok driver) it = came_on driver it
      by (Err refused) it = tt

  pub serves : (outcome : Outcomes) → MkvgOnceQuiet device w room patience log (device shelf) outcome → IsHistory log → IfOk outcome (λ driver. HasJustBegun (state_of device driver) → Serves (state_of device driver))
  serves outcome quiet history = by outcome (made outcome quiet)
    where
      by : (o : Outcomes) → IfOk o MadeOnce → IfOk o (λ driver. HasJustBegun (state_of device driver) → Serves (state_of device driver))
      by (Ok driver) it = λ just. made_begins log w room it.mid (state_of device driver) history it.made just
      by (Err refused) it = tt

  pub stands : (outcome : Outcomes) → MkvgOnceQuiet device w room patience log (device shelf) outcome
      → IfOk outcome (λ driver. (first : Moment) → Keeps log.run first (at (device driver.0) driver.1.history.facts) → (past : List Fact) → RunBegins log.run past first → ClockIsAheadEach log.run w.moment (device shelf) log.facts → StartsHeld (device driver.0) driver.1 → StandsAlone (device driver.0) driver.1 → StandsAfter past (device driver.0) driver.1)
  stands outcome quiet = by outcome (made outcome quiet)
    where
      by : (o : Outcomes) → IfOk o MadeOnce
          → IfOk o (λ driver. (first : Moment) → Keeps log.run first (at (device driver.0) driver.1.history.facts) → (past : List Fact) → RunBegins log.run past first → ClockIsAheadEach log.run w.moment (device shelf) log.facts → StartsHeld (device driver.0) driver.1 → StandsAlone (device driver.0) driver.1 → StandsAfter past (device driver.0) driver.1)
      by (Ok driver) it = λ first keeps past begins clock held alone. made_stands past log w room it.mid (state_of device driver) it.made held
      by (Err refused) it = tt

  -- ---- the same of the shelf's device alone

  at_itself : (left : ℕ) (mid : Device) (outcome : Outcomes) → MkvgGives device w room left log mid outcome → MkvgGives itself w room left log mid (device_outcome device outcome)
  at_itself left mid (Ok driver) made = made
  at_itself left mid (Err refused) refuses = refuses

  pub itself_gives : (outcome : Outcomes) → MkvgOnceQuiet device w room patience log (device shelf) outcome → MkvgOnceQuiet itself w room patience log (device shelf) (device_outcome device outcome)
  itself_gives = itself_once device First May (λ left mid outcome. MkvgGives device w room left log mid outcome) patience log (device shelf) (λ left mid outcome. MkvgGives itself w room left log mid outcome) at_itself
