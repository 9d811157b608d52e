-- Groups that come on or don't, once the transfers of before have ended.
use Rattle.std.proofs.Common.{◌≡◌, inl, inr, ⊎_elim, ◌+◌, ◌-◌, ◌<◌, ◌≤◌, ◌^◌, ℕ, List, Result, Ok, Err, IfOk, IfErr, refl, sym, subst, arith}
use Rattle.lvm_disk.specs.Counts.{Rose, RoseBy, Counts}
use Rattle.lvm_disk.specs.Device.{Device, HasSectors}
use Rattle.lvm_disk.proofs.CountingLemmas.{rose_before}
use Rattle.lvm_vol.specs.Log.{Log, spare_entries}
use Rattle.lvm_kept.specs.Moments.{StaysCalm}
use Rattle.lvm_steps.specs.Moments.{Keeps}
use Rattle.lvm_steps.specs.Requests.{at}
use Rattle.lvm_steps.proofs.MomentsLemmas.Spans.{fewer_stay_kept, keeps_still, keeps_steps, spans_join}
use Rattle.lvm_steps.proofs.LawsLemmas.Clock.{all_is_behind_next}
use Rattle.lvm_write.specs.Parts.{Spends}
use Rattle.lvm_write.proofs.PartsLemmas.Transfers.{rose_then, spends_none, spends_then}
use Rattle.lvm_session.specs.State.{Core, State}
use Rattle.lvm_core.specs.passed.SessionStart.{AreFaults}
use Rattle.lvm_core.specs.declared.parts.Room.{Room}
use Rattle.lvm_core.specs.declared.refused.Cause.{Cause}
use Rattle.lvm_core.specs.declared.refused.Cause.TheVariants as cause
use Rattle.lvm_core.specs.declared.refused.Refused.{Refused}
use Rattle.lvm_core.specs.Coming.{BringsOn, IsStarted, shelf_left, history_left}
use Rattle.lvm_core.specs.State.{state_of}
use Rattle.lvm_group.specs.NewGroup.{NewGroup, MayMakeGroup, RefusesFirst}
use Rattle.lvm_group.specs.Made.{MkvgRefuses, MkvgGives}
use Rattle.lvm_group.proofs.LogLemmas.{keeps_cut, calm_cut}
use Rattle.lvm_varyon.specs.Varied.{VaryonRefuses, VariesOnAt, VaryonGives}
use Rattle.lvm_varyon.proofs.EqualLemmas.Wrote.{failed_rose}
use Rattle.lvm_quiesce.specs.Ends.{Quiesces}
use Rattle.lvm_quiesce.specs.Groups.{StaysOut, GivesOnceQuiet, StayedOut, WentQuiet, MkvgOnceQuiet, VaryonOnceQuiet, BringsOnEach, IsStartedEach, CauseRose}
use Rattle.lvm_quiesce.specs.declared.ends.Quiesced.TheVariants as quiesced
use Rattle.lvm_quiesce.proofs.LawsLemmas.Behind.{fewer_is_ahead, quiet_is_ahead}
use Rattle.lvm_quiesce.proofs.LawsLemmas.Ending.{ends_leave, ends_leave_no_more, ends_path, ends_only, gives_path}

-- ---- whatever the answer

-- nothing has happened
pub none_brings : (run moment patience : ℕ) (old : Device) (was : Log) → HasSectors old → moment < 2 ^ 64 → BringsOnEach run moment patience patience old old was was
none_brings run moment patience old was whole room = record {
  keeps = λ clock. keeps_still run (at old was.facts);
  behind = λ clock. all_is_behind_next run moment old was.facts whole room (fewer_is_ahead run moment old old was.facts (λ image may. may) clock);
  calm = λ past calm. calm;
  spends = spends_none patience old;
}

-- the transfers that were out haven't all ended
pub out_brings : (run moment before after : ℕ) (old new : Device) (was is : Log) (why : Cause) → HasSectors new → moment < 2 ^ 64 → StaysOut before old new was is why → Spends before after old new → BringsOnEach run moment before after old new was is
out_brings run moment before after old new was is cause.Dark whole room out spends = record {
  keeps = λ clock. subst (λ (l : Log). Keeps run (at old was.facts) (at new l.facts)) (sym out.1)
      (keeps_cut run (at old was.facts) new was (keeps_steps run (at old was.facts) old new was.facts (keeps_still run (at old was.facts)) (gives_path before old new quiesced.Dark out.0)));
  behind = λ clock. all_is_behind_next run moment new was.facts whole room (fewer_is_ahead run moment old new was.facts (ends_leave_no_more before old new quiesced.Dark out.0) clock);
  calm = subst (λ (l : Log). StaysCalm (at old was.facts) (at new l.facts)) (sym out.1) (calm_cut (at old was.facts) new was (λ past calm. calm));
  spends = spends;
}
out_brings run moment before after old new was is cause.Stuck whole room out spends = record {
  keeps = λ clock. subst (λ (l : Log). Keeps run (at old was.facts) (at new l.facts)) (sym out.1)
      (keeps_steps run (at old was.facts) old new was.facts (keeps_still run (at old was.facts)) (gives_path before old new quiesced.Stuck out.0));
  behind = λ clock. all_is_behind_next run moment new was.facts whole room (fewer_is_ahead run moment old new was.facts (ends_leave_no_more before old new quiesced.Stuck out.0) clock);
  calm = subst (λ (l : Log). StaysCalm (at old was.facts) (at new l.facts)) (sym out.1) (λ past calm. calm);
  spends = spends;
}
out_brings run moment before after old new was is _ whole room out spends = absurd out

-- they have, and what a command promises that goes on from there
module _ (old mid : Device) (quiet : Quiesces old mid) (run moment before left : ℕ) (spends : Spends before left old mid) (was : Log) where
  pub quiet_brings : (after : ℕ) (new : Device) (is : Log) → BringsOn run moment left after mid new was is → BringsOnEach run moment before after old new was is
  quiet_brings after new is brings = record {
    keeps = λ clock. spans_join run (at old was.facts) (at mid was.facts) (at new is.facts)
        (keeps_steps run (at old was.facts) old mid was.facts (keeps_still run (at old was.facts)) (ends_path quiet.ends))
        (λ past calm. calm)
        (brings.keeps (quiet_is_ahead run moment old mid was.facts quiet clock));
    behind = λ clock. brings.behind (quiet_is_ahead run moment old mid was.facts quiet clock);
    calm = brings.calm;
    spends = spends_then before left after old mid new spends brings.spends;
  }

  pub quiet_starts : (new : State) → AreFaults new.device new.core.origin.faults → IsStarted run moment mid was new → IsStartedEach run moment old was new
  quiet_starts new faults starts = record {
    settled = starts.settled;
    numbers = starts.numbers;
    left = starts.left;
    faults = faults;
    held = λ facts clock kept. starts.held facts (quiet_is_ahead run moment old mid was.facts quiet clock) (fewer_stay_kept old mid (ends_leave quiet.ends) facts kept);
  }

  -- what has risen since then has risen since before
  pub rose_since : (new : Counts) (why : Cause) → CauseRose left mid.counts new why → CauseRose before old.counts new why
  rose_since new cause.Dark rose = rose_before (ends_only quiet.ends).counts.cuts rose
  rose_since new cause.Stuck rose =
      let both = rose_then (before - left) left old.counts.waits mid.counts.waits new.waits spends.waits rose in
      let falls = spends.falls in
      let sum : (before - left) + left ≡ before = omega (arith, falls) in
      subst (λ (n : ℕ). RoseBy n old.counts.waits new.waits) sum both
  rose_since new (cause.DiskFailed disk) rose = ⊎_elim (λ missed. inl (rose_before ((ends_only quiet.ends).counts.misses disk) missed)) (λ failed. inr (rose_before ((ends_only quiet.ends).counts.faults disk) failed)) rose
  rose_since new _ rose = rose

-- ---- why no group came on

pub out_rose : (before : ℕ) (old new : Device) (was is : Log) (why : Cause) → StaysOut before old new was is why → CauseRose before old.counts new.counts why
out_rose before old new was is cause.Dark out =
    let cut = out.0 in
    rose_before (ends_only cut.ends).counts.cuts cut.cuts.cuts
out_rose before old new was is cause.Stuck out = out.0.waited
out_rose before old new was is _ out = absurd out

-- nothing has risen for a cause that is found before the shelf is touched
pub first_rose : (sizes : List ℕ) (spare : ℕ) (w : NewGroup) (before : ℕ) (counts : Counts) (why : Cause) → RefusesFirst sizes spare w.disks w.mib why → CauseRose before counts counts why
first_rose sizes spare w before counts cause.Dark refuses = absurd refuses
first_rose sizes spare w before counts cause.Stuck refuses = absurd refuses
first_rose sizes spare w before counts (cause.DiskFailed disk) refuses = absurd refuses
first_rose sizes spare w before counts _ refuses = tt

mkvg_rose : (w : NewGroup) (patience : ℕ) (was is : Log) (old new : Device) (why : Cause) → MkvgRefuses w patience was is old new why → CauseRose patience old.counts new.counts why
mkvg_rose w patience was is old new cause.Dark (inl reading) = reading.cut.cuts
mkvg_rose w patience was is old new cause.Dark (inr writing) = writing.cut.cuts
mkvg_rose w patience was is old new cause.Stuck (inl reading) = reading.stuck.waits
mkvg_rose w patience was is old new cause.Stuck (inr writing) = writing.stuck.waits
mkvg_rose w patience was is old new (cause.DiskFailed disk) (inl unread) = inl unread.unread.rose
mkvg_rose w patience was is old new (cause.DiskFailed disk) (inr unwritten) = inr unwritten.failed.rose
mkvg_rose w patience was is old new _ refuses = tt

varyon_rose : (old new : Device) (name : List ℕ) (moment patience : ℕ) (log : Log) (why : Cause) → VaryonRefuses old new name moment patience log why → CauseRose patience old.counts new.counts why
varyon_rose old new name moment patience log cause.Dark refuses = refuses.1.how.cuts
varyon_rose old new name moment patience log cause.Stuck refuses = refuses.1.how.waited
varyon_rose old new name moment patience log (cause.DiskFailed disk) refuses =
    inr (subst (λ (f : ℕ → ℕ). Rose (f disk) (new.counts.faults disk)) refuses.1.writes.unwritten.faults
    (failed_rose _ _ refuses.1.copies refuses.1.writes.read new disk refuses.1.writes.how))
varyon_rose old new name moment patience log _ refuses = tt

module _ {S : Type 0} (device : S → Device) (was : Log) (old : Device) (patience : ℕ) where
  abbrev pub RoseBetween : Result (S × Core) (Refused S) → Type 0
  RoseBetween outcome = IfErr outcome (λ refused. CauseRose patience old.counts (device refused.shelf).counts refused.cause)

  pub mkvg_causes : (w : NewGroup) (room : Room) (outcome : Result (S × Core) (Refused S)) → MkvgGives device w room patience was old outcome → RoseBetween outcome
  mkvg_causes w room (Ok driver) gives = tt
  mkvg_causes w room (Err refused) gives = mkvg_rose w patience was refused.history old (device refused.shelf) refused.cause gives

  pub varyon_causes : (name : List ℕ) (moment : ℕ) (room : Room) (outcome : Result (S × Core) (Refused S)) → VaryonGives device old was name moment room patience outcome → RoseBetween outcome
  varyon_causes name moment room (Ok driver) gives = tt
  varyon_causes name moment room (Err refused) gives = varyon_rose old (device refused.shelf) name moment patience was refused.cause gives.0

-- by the outcome of a command that goes on once all transfers have ended
pub causes_since : {S : Type 0} (device : S → Device) (old mid : Device) (quiet : Quiesces old mid) (before left : ℕ) (spends : Spends before left old mid) (was : Log) (outcome : Result (S × Core) (Refused S))
    → RoseBetween device was mid left outcome → RoseBetween device was old before outcome
causes_since device old mid quiet before left spends was (Ok driver) rose = tt
causes_since device old mid quiet before left spends was (Err refused) rose = rose_since old mid quiet 0 0 before left spends was (device refused.shelf).counts refused.cause rose

-- the session that begins counts faults from those that there are
abbrev pub HasItsFaults : {S : Type 0} → (S → Device) → Result (S × Core) (Refused S) → Type 0
HasItsFaults device outcome = IfOk outcome (λ driver. AreFaults (device driver.0) driver.1.origin.faults)

pub starts_since : {S : Type 0} (device : S → Device) (old mid : Device) (quiet : Quiesces old mid) (run moment before left : ℕ) (spends : Spends before left old mid) (was : Log) (outcome : Result (S × Core) (Refused S))
    → HasItsFaults device outcome → IfOk outcome (λ driver. IsStarted run moment mid was (state_of device driver)) → IfOk outcome (λ driver. IsStartedEach run moment old was (state_of device driver))
starts_since device old mid quiet run moment before left spends was (Ok driver) faults starts = quiet_starts old mid quiet run moment before left spends was (state_of device driver) faults starts
starts_since device old mid quiet run moment before left spends was (Err refused) faults starts = tt

-- ---- what a call promises

module _ {S : Type 0} (device : S → Device) (shelf : S) (was : Log) (moment before after : ℕ) where
  pub record Promised (Gives : Type 0) (outcome : Result (S × Core) (Refused S)) : Type 0 where
    pub gives : Gives
    pub starts : IfOk outcome (λ driver. IsStartedEach was.run moment (device shelf) was (state_of device driver))
    pub causes : IfErr outcome (λ refused. CauseRose before (device shelf).counts (device refused.shelf).counts refused.cause)
    pub leaves : BringsOnEach was.run moment before after (device shelf) (device (shelf_left outcome)) was (history_left outcome)

  -- what was out hasn't all ended
  pub stayed_out : (First : Cause → Type 0) (May : Type 0) (Goes : ℕ → Device → Result (S × Core) (Refused S) → Type 0) (refused : Refused S) → HasSectors (device refused.shelf) → moment < 2 ^ 64 → May
      → StaysOut before (device shelf) (device refused.shelf) was refused.history refused.cause → Spends before after (device shelf) (device refused.shelf) → Promised (GivesOnceQuiet device First May Goes before was (device shelf) (Err refused)) (Err refused)
  stayed_out First May Goes refused whole room may out spends = record {
    gives = StayedOut refused refl may out;
    starts = tt;
    causes = out_rose before (device shelf) (device refused.shelf) was refused.history refused.cause out;
    leaves = out_brings was.run moment before after (device shelf) (device refused.shelf) was refused.history refused.cause whole room out spends;
  }

  -- it has, and the group is varied on from there
  pub varied : (name : List ℕ) (room : Room) (left : ℕ) (at_rest : S) (next : Log) (outcome : Result (S × Core) (Refused S)) → HasItsFaults device outcome → 1 ≤ spare_entries was → Quiesces (device shelf) (device at_rest) → Spends before left (device shelf) (device at_rest) → next ≡ was
      → VariesOnAt device next name moment room left (device at_rest) outcome → IfOk outcome (λ driver. IsStarted next.run moment (device at_rest) next (state_of device driver))
      → BringsOn next.run moment left after (device at_rest) (device (shelf_left outcome)) next (history_left outcome) → Promised (VaryonOnceQuiet device was name moment room before (device shelf) outcome) outcome
  varied name room left at_rest next outcome faults may quiet spends same =
      subst (λ (l : Log). VariesOnAt device l name moment room left (device at_rest) outcome → IfOk outcome (λ driver. IsStarted l.run moment (device at_rest) l (state_of device driver))
      → BringsOn l.run moment left after (device at_rest) (device (shelf_left outcome)) l (history_left outcome) → Promised (VaryonOnceQuiet device was name moment room before (device shelf) outcome) outcome) (sym same)
      (λ varies starts brings. record {
        gives = WentQuiet may (record { left = left; mid = device at_rest; quiesces = quiet; spends = spends; goes = varies });
        starts = starts_since device (device shelf) (device at_rest) quiet was.run moment before left spends was outcome faults starts;
        causes = causes_since device (device shelf) (device at_rest) quiet before left spends was outcome (varyon_causes device was (device at_rest) left name moment room outcome varies.gives);
        leaves = quiet_brings (device shelf) (device at_rest) quiet was.run moment before left spends was after (device (shelf_left outcome)) (history_left outcome) brings;
      })

  -- it has, and the group is made from there
  pub made : (w : NewGroup) (room : Room) (left : ℕ) (at_rest : S) (next : Log) (outcome : Result (S × Core) (Refused S)) → HasItsFaults device outcome → MayMakeGroup (device shelf).sizes (spare_entries was) w.disks w.mib → Quiesces (device shelf) (device at_rest) → Spends before left (device shelf) (device at_rest) → next ≡ was
      → MkvgGives device w room left next (device at_rest) outcome → IfOk outcome (λ driver. IsStarted next.run moment (device at_rest) next (state_of device driver))
      → BringsOn next.run moment left after (device at_rest) (device (shelf_left outcome)) next (history_left outcome) → Promised (MkvgOnceQuiet device w room before was (device shelf) outcome) outcome
  made w room left at_rest next outcome faults may quiet spends same =
      subst (λ (l : Log). MkvgGives device w room left l (device at_rest) outcome → IfOk outcome (λ driver. IsStarted l.run moment (device at_rest) l (state_of device driver))
      → BringsOn l.run moment left after (device at_rest) (device (shelf_left outcome)) l (history_left outcome) → Promised (MkvgOnceQuiet device w room before was (device shelf) outcome) outcome) (sym same)
      (λ gives starts brings. record {
        gives = WentQuiet may (record { left = left; mid = device at_rest; quiesces = quiet; spends = spends; goes = gives });
        starts = starts_since device (device shelf) (device at_rest) quiet was.run moment before left spends was outcome faults starts;
        causes = causes_since device (device shelf) (device at_rest) quiet before left spends was outcome (mkvg_causes device was (device at_rest) left w room outcome gives);
        leaves = quiet_brings (device shelf) (device at_rest) quiet was.run moment before left spends was after (device (shelf_left outcome)) (history_left outcome) brings;
      })
