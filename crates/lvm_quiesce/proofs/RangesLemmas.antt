-- Ranges of disks that are read and written, once the transfers of before have ended.
use Rattle.std.proofs.Common.{◌≡◌, inl, inr, ◌+◌, ◌-◌, [], ◌∷◌, ℕ, List, true, Result, Ok, Err, refl, sym, ◌∙◌, ap, subst, arith}
use Rattle.lvm_num.specs.Buffer.{Buffer}
use Rattle.lvm_disk.specs.Counts.{RoseBy, Counts}
use Rattle.lvm_disk.specs.Device.{Device, MayLeave}
use Rattle.lvm_disk.specs.Images.{LeavesNoMore}
use Rattle.lvm_disk.specs.Paths.{DeviceStep, Freed, Lit, Path, Here, Then}
use Rattle.lvm_disk.proofs.PathsLemmas.{append-path, last-path, leaves_on}
use Rattle.lvm_disk.proofs.CountingLemmas.{rose_before}
use Rattle.lvm_vol.specs.Log.{Log, cut_log}
use Rattle.lvm_kept.specs.Moments.{Moment, StaysCalm}
use Rattle.lvm_steps.specs.Moments.{Keeps}
use Rattle.lvm_steps.specs.Requests.{at as moment_of}
use Rattle.lvm_steps.proofs.MomentsLemmas.Spans.{keeps_still, keeps_steps, spans_join}
use Rattle.lvm_transfer.specs.Transfer.{Relights}
use Rattle.lvm_write.specs.Parts.{Spends}
use Rattle.lvm_write.proofs.PartsLemmas.Transfers.{rose_then, spends_then}
use Rattle.lvm_core.proofs.SoundLemmas.Dark.{cut_landed}
use Rattle.lvm_core.proofs.LeavesLemmas.{keeps_cut as entries_keep_cut}
use Rattle.lvm_group.proofs.LogLemmas.{keeps_cut, calm_cut}
use Rattle.lvm_raw.specs.OnePieceKeeping.{HaveAllLanded, NoneComesOn}
use Rattle.lvm_raw.specs.declared.fault.RawFault.{RawFault}
use Rattle.lvm_raw.specs.declared.fault.RawFault.TheVariants as fault
use Rattle.lvm_raw.specs.Asking.{IsRejected}
use Rattle.lvm_raw.specs.Keeping.{AnswerHasCause, RangeKeeps}
use Rattle.lvm_raw.specs.Raw.{without_facts}
use Rattle.lvm_raw.proofs.LookingLemmas.{look_rooms}
use Rattle.lvm_raw.proofs.RawLemmas.Refusing.{rejected_rose}
use Rattle.lvm_quiesce.specs.Ends.{Quiesces}
use Rattle.lvm_quiesce.specs.Ranges.{IsCutAndLit, RangeStaysOut, IsRejectedAtOnce, IsAtRestFor, IsKeptFrom, RangeOnceQuiet, RejectedAtOnce, KeptFrom, AskedAtRest, RangeKeepsEach}
use Rattle.lvm_quiesce.specs.declared.ends.Quiesced.TheVariants as quiesced
use Rattle.lvm_quiesce.proofs.LawsLemmas.Behind.{each_is_behind, fewer_stay_behind}
use Rattle.lvm_quiesce.proofs.LawsLemmas.Ending.{ends_leave, ends_path, ends_only, ends_start_nothing, gives_path}

-- ---- the power is put on again

-- The buffers that a cut gave up are taken back one by one, and then the power is put on.
pub relit_path : (dark new : Device) → dark.flights ≡ [] → Relights dark new → Path DeviceStep (LeavesNoMore dark) dark new
relit_path dark new still lit = Then (giving_back dark.freed) (Lit still refl lit) (λ image may. subst (λ (d : Device). MayLeave d image) lit may)
  where
    giving_back : (freed : List Buffer) → Path DeviceStep (LeavesNoMore dark) (record dark { freed = freed }) (record dark { freed = [] })
    giving_back [] = Here (λ image may. may)
    giving_back (buf ∷ freed) = append-path (Then (Here (λ image may. may)) (Freed buf refl) (λ image may. may)) (giving_back freed)

-- ---- whatever the answer

module _ {X : Type 0} (run disk at count : ℕ) (old : Device) (was : Log) where
  -- nothing has happened
  pub rejected_keeps : (patience : ℕ) (why : RawFault) (given : Result X RawFault) → given ≡ Err why → old.power ≡ true → IsRejected old was disk at count why → RangeKeepsEach run disk patience patience (moment_of old was.facts) (moment_of old was.facts) given
  rejected_keeps patience why given is power rejected = record {
    keeps = keeps_still run (moment_of old was.facts);
    calm = λ unstuck past calm. calm;
    behind = λ m behind. each_is_behind m old behind;
    rests = λ unstuck. inl refl;
    shelf = record { sizes = refl; arranges = refl; orders = refl; falls = omega arith; waited = record { later = omega arith; risen = omega arith } };
    power = power;
    landed = λ unstuck closed. closed;
    later = λ m later. later;
    cause = subst (λ (r : Result X RawFault). AnswerHasCause disk patience old.counts old.counts r) (sym is) (rejected_rose X old was disk at count patience old.counts old.counts why rejected);
  }

  -- the power was cut while a transfer was out
  cut_keeps : (before after : ℕ) (new : Device) (is : Log) (given : Result X RawFault) → given ≡ Err fault.Dark → IsCutAndLit old new → is ≡ cut_log was → Spends before after old new → RangeKeepsEach run disk before after (moment_of old was.facts) (moment_of new is.facts) given
  cut_keeps before after new is given dark cut entered spends =
      let still = ap (λ (d : Device). d.flights) cut.cut.cuts.new_is in
      let path = leaves_on (gives_path before old cut.dark quiesced.Dark cut.cut) (relit_path cut.dark new still cut.lit) in
      let only = ends_start_nothing before old cut.dark quiesced.Dark cut.cut in
      record {
        keeps = subst (λ (l : Log). Keeps run (moment_of old was.facts) (moment_of new l.facts)) (sym entered)
            (keeps_cut run (moment_of old was.facts) new was (keeps_steps run (moment_of old was.facts) old new was.facts (keeps_still run (moment_of old was.facts)) path));
        calm = λ unstuck. subst (λ (l : Log). StaysCalm (moment_of old was.facts) (moment_of new l.facts)) (sym entered) (calm_cut (moment_of old was.facts) new was (λ past calm. calm));
        behind = λ m behind. each_is_behind m new (fewer_stay_behind old new m (last-path path) behind);
        rests = λ unstuck. inr (record { flights = ap (λ (d : Device). d.flights) cut.lit ∙ still; freed = ap (λ (d : Device). d.freed) cut.lit; power = ap (λ (d : Device). d.power) cut.lit });
        shelf = record {
          sizes = ap (λ (d : Device). d.sizes) cut.lit ∙ only.sizes;
          arranges = ap (λ (d : Device). d.arranges) cut.lit ∙ only.arranges;
          orders = ap (λ (d : Device). d.orders) cut.lit ∙ only.orders;
          falls = spends.falls;
          waited = spends.waits;
        };
        power = ap (λ (d : Device). d.power) cut.lit;
        landed = λ unstuck closed. subst (λ (l : Log). HaveAllLanded l.facts) (sym entered) (cut_landed was closed);
        later = subst (λ (l : Log). NoneComesOn was.facts l.facts) (sym entered) (entries_keep_cut was).later;
        cause = subst (λ (r : Result X RawFault). AnswerHasCause disk before old.counts new.counts r) (sym dark)
            (let rose = rose_before (ends_only cut.cut.ends).counts.cuts cut.cut.cuts.cuts in let same = ap (λ (d : Device). d.counts.cuts) cut.lit in record { later = omega (arith, rose.later, same); risen = omega (arith, rose.risen, same) });
      }

  pub kept_from_keeps : (before after : ℕ) (new : Device) (is : Log) (why : RawFault) (given : Result X RawFault) → given ≡ Err why → IsKeptFrom disk at count before after old new was is why → RangeKeepsEach run disk before after (moment_of old was.facts) (moment_of new is.facts) given
  kept_from_keeps before after new is fault.Dark given says kept = cut_keeps before after new is given says kept.out.0 kept.out.1 kept.spends
  kept_from_keeps before after new is fault.Stuck given says kept =
      let path = gives_path before old new quiesced.Stuck kept.out.0 in
      let only = ends_only kept.out.0.ends in
      subst (λ (l : Log). RangeKeepsEach run disk before after (moment_of old was.facts) (moment_of new l.facts) given) (sym kept.out.1) (record {
        keeps = keeps_steps run (moment_of old was.facts) old new was.facts (keeps_still run (moment_of old was.facts)) path;
        calm = λ unstuck past calm. calm;
        behind = λ m behind. each_is_behind m new (fewer_stay_behind old new m (last-path path) behind);
        rests = λ unstuck. absurd (unstuck says);
        shelf = record { sizes = only.sizes; arranges = only.arranges; orders = only.orders; falls = kept.spends.falls; waited = kept.spends.waits };
        power = kept.out.0.lit.power;
        landed = λ unstuck closed. closed;
        later = λ m later. later;
        cause = subst (λ (r : Result X RawFault). AnswerHasCause disk before old.counts new.counts r) (sym says) kept.out.0.waited;
      })
  kept_from_keeps before after new is _ given says kept = absurd kept.out

  -- ---- the transfers that were out have ended, and the command goes on from there
  module _ (mid : Device) (quiet : Quiesces old mid) (before left : ℕ) (spends : Spends before left old mid) where
    rose_since : (new : Counts) (given : Result X RawFault) → AnswerHasCause disk left mid.counts new given → AnswerHasCause disk before old.counts new given
    rose_since new (Ok x) rose = tt
    rose_since new (Err fault.Lost) rose = rose_before ((ends_only quiet.ends).counts.faults disk) rose
    rose_since new (Err fault.ReadFailed) rose = rose_before ((ends_only quiet.ends).counts.faults disk) rose
    rose_since new (Err fault.Dark) rose = rose_before (ends_only quiet.ends).counts.cuts rose
    rose_since new (Err fault.Stuck) rose =
        let both = rose_then (before - left) left old.counts.waits mid.counts.waits new.waits spends.waits rose in
        let falls = spends.falls in
        let sum : (before - left) + left ≡ before = omega (arith, falls) in
        subst (λ (n : ℕ). RoseBy n old.counts.waits new.waits) sum both
    rose_since new (Err (fault.DiskFailed d)) rose = rose_before ((ends_only quiet.ends).counts.misses disk) rose
    rose_since new (Err _) rose = rose

    pub at_rest_keeps : (after : ℕ) (new : Device) (is : Log) (given : Result X RawFault) → RangeKeeps run disk left after (moment_of mid was.facts) (moment_of new is.facts) given → RangeKeepsEach run disk before after (moment_of old was.facts) (moment_of new is.facts) given
    at_rest_keeps after new is given inner =
        let only = ends_only quiet.ends in
        let both = spends_then before left after old mid new spends (record { falls = inner.shelf.falls; waits = inner.shelf.waited }) in
        record {
          keeps = spans_join run (moment_of old was.facts) (moment_of mid was.facts) (moment_of new is.facts)
              (keeps_steps run (moment_of old was.facts) old mid was.facts (keeps_still run (moment_of old was.facts)) (ends_path quiet.ends))
              (λ past calm. calm)
              inner.keeps;
          calm = inner.calm;
          behind = λ m behind. inner.behind m (each_is_behind m mid (fewer_stay_behind old mid m (ends_leave quiet.ends) behind));
          rests = λ unstuck. inr (inner.ready unstuck);
          shelf = record {
            sizes = inner.shelf.sizes ∙ only.sizes;
            arranges = inner.shelf.arranges ∙ only.arranges;
            orders = inner.shelf.orders ∙ only.orders;
            falls = both.falls;
            waited = both.waits;
          };
          power = inner.power;
          landed = inner.landed;
          later = inner.later;
          cause = rose_since new.counts given inner.cause;
        }

-- ---- the history's rooms

pub kept_from_rooms : (patience : ℕ) (old new : Device) (was is : Log) (why : RawFault) → RangeStaysOut patience old new was is why → is ≡ record was { facts = is.facts }
kept_from_rooms patience old new was is fault.Dark out = look_rooms was is fault.Dark out.1
kept_from_rooms patience old new was is fault.Stuck out = look_rooms was is fault.Stuck out.1
kept_from_rooms patience old new was is _ out = absurd out

-- ---- by what came of the transfers

-- what a command on a range promises
pub record Promised {X : Type 0} (Goes : Log → ℕ → Moment → Moment → Result X RawFault → Type 0) (disk at count before after : ℕ) (old new : Device) (was is : Log) (given : Result X RawFault) : Type 0 where
  pub does : RangeOnceQuiet (Goes (without_facts was)) (without_facts was) disk at count before (moment_of old was.facts) (moment_of new is.facts) given
  pub keeps : RangeKeepsEach was.run disk before after (moment_of old was.facts) (moment_of new is.facts) given
  pub rooms : is ≡ record was { facts = is.facts }

module _ {X : Type 0} (Goes : Log → ℕ → Moment → Moment → Result X RawFault → Type 0) (disk at count before : ℕ) (old : Device) (was : Log) where
  -- the range is rejected
  pub at_once : (after : ℕ) (new : Device) (is : Log) (why : RawFault) (given : Result X RawFault) → given ≡ Err why → old.power ≡ true → IsRejectedAtOnce disk at count before after old new was is why → Promised Goes disk at count before after old new was is given
  at_once after new is why given says power rejected = record {
    does = RejectedAtOnce why says rejected.rejected (ap (λ (d : Device). moment_of d is.facts) rejected.shelf ∙ ap (λ (l : Log). moment_of old l.facts) rejected.history);
    keeps = subst (λ (n : ℕ). RangeKeepsEach was.run disk before n (moment_of old was.facts) (moment_of new is.facts) given) (sym rejected.patience)
        (subst (λ (d : Device). RangeKeepsEach was.run disk before before (moment_of old was.facts) (moment_of d is.facts) given) (sym rejected.shelf)
        (subst (λ (l : Log). RangeKeepsEach was.run disk before before (moment_of old was.facts) (moment_of old l.facts) given) (sym rejected.history)
        (rejected_keeps was.run disk at count old was before why given says power rejected.rejected)));
    rooms = look_rooms was is fault.Memory rejected.history;
  }

  -- the transfers that were out haven't all ended
  pub kept_from : (after : ℕ) (new : Device) (is : Log) (why : RawFault) (given : Result X RawFault) → given ≡ Err why → IsKeptFrom disk at count before after old new was is why → Promised Goes disk at count before after old new was is given
  kept_from after new is why given says kept =
      let rooms = kept_from_rooms before old new was is why kept.out in
      record {
        does = KeptFrom why says kept.may (subst (λ (l : Log). RangeStaysOut before old new was l why) rooms kept.out);
        keeps = kept_from_keeps was.run disk at count old was before after new is why given says kept;
        rooms = rooms;
      }

  -- they have
  pub asked : (left after : ℕ) (mid new : Device) (next is : Log) (given : Result X RawFault) → IsAtRestFor disk at count before left old mid was next
      → Goes (without_facts next) left (moment_of mid next.facts) (moment_of new is.facts) given → RangeKeeps next.run disk left after (moment_of mid next.facts) (moment_of new is.facts) given → is ≡ record next { facts = is.facts }
      → Promised Goes disk at count before after old new was is given
  asked left after mid new next is given rests =
      subst (λ (l : Log). Goes (without_facts l) left (moment_of mid l.facts) (moment_of new is.facts) given → RangeKeeps l.run disk left after (moment_of mid l.facts) (moment_of new is.facts) given → is ≡ record l { facts = is.facts }
      → Promised Goes disk at count before after old new was is given) (sym rests.history)
      (λ goes keeps rooms. record {
        does = AskedAtRest rests.may (record { left = left; mid = mid; quiesces = rests.quiesces; spends = rests.spends; goes = goes });
        keeps = at_rest_keeps was.run disk at count old was mid rests.quiesces before left rests.spends after new is given keeps;
        rooms = rooms;
      })
