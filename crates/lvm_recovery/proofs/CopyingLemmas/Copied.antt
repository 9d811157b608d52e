-- A copy by a read and a write, and one copy after another.
use Rattle.std.proofs.Common.{◌≡◌, inl, inr, ℕ, ◌+◌, ◌<◌, true, false, IsTrue, refl, ◌∙◌, subst, eq-eqb}
use Rattle.std.specs.Prelude.{◌==◌, ◌⊎◌, List, [], ◌∷◌}
use Rattle.lvm_num.specs.Buffer.{Buffer, Sector}
use Rattle.lvm_num.specs.Disks.{Disks}
use Rattle.lvm_num.proofs.Booleans.{false_by}
use Rattle.lvm_disk.specs.Counts.{Rose}
use Rattle.lvm_disk.specs.Device.{Device, Range, image_of}
use Rattle.lvm_kept.specs.Plans.{Plan, ChangesBy}
use Rattle.lvm_transfer.specs.Reading.{IsCutOff}
use Rattle.lvm_write.specs.Parts.{Spends}
use Rattle.lvm_write.specs.Written.{KeepsShelf}
use Rattle.lvm_write.proofs.WrittenLemmas.Writing.{if_told, told_at, both_map, changes_more, logs_wider, moments_wider}
use Rattle.lvm_write.proofs.PartsLemmas.Transfers.{spent_then}
use Rattle.lvm_write.specs.declared.begin.Begun.{Begun}
use Rattle.lvm_write.specs.declared.begin.Begun.TheVariants as begun
use Rattle.lvm_write.specs.Ends.{HasNoFault}
use Rattle.lvm_write.specs.Writes.{DiskWritesLeave, IsBack}
use Rattle.lvm_write.proofs.WritesLemmas.{leaves_then}
use Rattle.lvm_recovery.specs.declared.copying.Recopy.{Recopy}
use Rattle.lvm_recovery.proofs.CopyingLemmas.Logged.{in_run, just_first, only_planned, only_then}
use Rattle.lvm_recovery.specs.Copying.{IsInRun, LogsJust, LogsOnly, StopsInCopy, run_at, IsLeftOut, HasFailedAlone, IsOfStep, HoldsRun, RunHolds, StepGives, is_of_copy, IsOfCopy, CopyGives}
pub use Rattle.std.proofs.lemmas.Bool.{or_left as or_first, or_right as or_second}

-- ---- what is done is done by more, too

module _ (T U : Disks) (P Q : Plan) (disks : (d : ℕ) → IsTrue (T d) → IsTrue (U d)) (more : (d s : ℕ) (value : Sector) → P d s value → Q d s value) where
  keeps_wider : (old new : Device) → KeepsShelf T P old new → KeepsShelf U Q old new
  keeps_wider old new keeps = record {
    sizes = keeps.sizes;
    arranges = keeps.arranges;
    orders = keeps.orders;
    misses = keeps.misses;
    starts = λ d off. keeps.starts d (false_by (T d) (U d) (disks d) off);
    faults = λ d off. keeps.faults d (false_by (T d) (U d) (disks d) off);
    wrote = logs_wider P Q old.wrote new.wrote more keeps.wrote;
    media = both_map old.media new.media (λ was is. ChangesBy P (image_of old.sizes was) (image_of new.sizes is)) (λ was is. ChangesBy Q (image_of old.sizes was) (image_of new.sizes is)) keeps.media
        (λ m k was is by. changes_more P Q (image_of old.sizes m) (image_of new.sizes k) more by);
  }

  pub does_wider : (before after : ℕ) (old new : Device) → DiskWritesLeave T P before after old new → DiskWritesLeave U Q before after old new
  does_wider before after old new does = record { keeps = keeps_wider old new does.keeps; spends = does.spends; moments = moments_wider P Q more old new does.moments }

-- ---- what follows transfers that went well

module _ (number : ℕ) (old mid : Device) (buf : Buffer) (back : IsBack number old mid buf) (well : HasNoFault old mid) where
  pub back_then : (new : Device) (last : Buffer) → IsBack buf.number mid new last → IsBack number old new last
  back_then new last two = record { ready = two.ready; cuts = two.cuts ∙ back.cuts; number_is = two.number_is ∙ back.number_is }

  pub well_then : (new : Device) → HasNoFault mid new → HasNoFault old new
  well_then new two d = two d ∙ well d

  pub failed_then : (new : Device) (disk : ℕ) (last : Buffer) → HasFailedAlone buf.number mid new disk last → HasFailedAlone number old new disk last
  failed_then new disk last two = record {
    back = back_then new last two.back;
    rose = subst (λ (n : ℕ). Rose n (new.counts.faults disk)) (well disk) two.rose;
    alone = λ d other. two.alone d other ∙ well d;
  }

  pub cut_then : (new : Device) → IsCutOff mid new → IsCutOff old new
  cut_then new two = record { power = two.power; flights = two.flights; cuts = subst (λ (n : ℕ). Rose n new.counts.cuts) back.cuts two.cuts }

  pub left_then : (p q : ℕ) (new : Device) → Spends p q old mid → IsLeftOut buf.number q mid new → IsLeftOut number p old new
  left_then p q new spends two = record {
    flight = two.flight;
    out = two.out;
    buffer = two.buffer ∙ back.number_is;
    freed = two.freed;
    power = two.power;
    cuts = two.cuts ∙ back.cuts;
    waited = spent_then p q old mid new spends two.waited;
  }

-- ---- a read and a write

module _ (one : Recopy) (buf : Buffer) (p q : ℕ) (old mid : Device) where
  read_does : DiskWritesLeave (λ d. d == one.from.disk) (IsOfStep false one.from buf) p q old mid → DiskWritesLeave (is_of_copy one) (IsOfCopy old one) p q old mid
  read_does does = does_wider (λ d. d == one.from.disk) (is_of_copy one) (IsOfStep false one.from buf) (IsOfCopy old one)
      (λ d is. or_first (d == one.from.disk) (d == one.into.disk) is) (λ d s value nothing. absurd (let e : false ≡ true = nothing.writes in cc)) p q old mid does

  -- of a read no range is told
  read_logs : DiskWritesLeave (λ d. d == one.from.disk) (IsOfStep false one.from buf) p q old mid → LogsOnly (IsInRun one.into) old.wrote mid.wrote
  read_logs does = only_planned (IsOfStep false one.from buf) (IsInRun one.into) old.wrote mid.wrote (λ range inside. absurd (let e : false ≡ true = (in_run false one.from buf range inside).0 in cc)) does.keeps.wrote

  either : LogsJust [] old.wrote mid.wrote ⊎ LogsJust [] old.wrote mid.wrote → LogsJust [] old.wrote mid.wrote
  either (inl none) = none
  either (inr none) = none

  -- it was not read
  pub not_read : (how : Begun) → ((b : Buffer) → how ≡ begun.Ended b → ⊥) → StepGives false one.from buf p q old mid how → CopyGives one buf.number p q old mid how
  not_read (begun.Ended b) never gives = absurd (never b refl)
  not_read (begun.DiskFailed disk b) never gives = record {
    does = read_does gives.does;
    writes = inl (gives.writes, gives.how.0);
    ranges = read_logs gives.does;
    how = (or_first (disk == one.from.disk) (disk == one.into.disk) (eq-eqb disk one.from.disk gives.how.0), gives.how.1);
  }
  not_read begun.Dark never gives = record { does = read_does gives.does; writes = inl (either gives.writes, tt); ranges = read_logs gives.does; how = gives.how }
  not_read begun.Stuck never gives = record { does = read_does gives.does; writes = inl (gives.writes, tt); ranges = read_logs gives.does; how = gives.how }

  module _ (back : Buffer) (read : StepGives false one.from buf p q old mid (begun.Ended back)) where
    -- what the write brings
    brings : (d s : ℕ) (value : Sector) → IsOfStep true one.into back d s value → IsOfCopy old one d s value
    brings d s value step = record {
      i = step.i;
      at = step.at;
      is = if_told old.media (λ media. value ≡ media one.from.disk (one.from.sector + step.i))
          (λ m told.
          let held = told_at old.media (λ media. HoldsRun media one.from back) m told read.how.moved step.i step.at.inside in
          let is = step.is in
          cc);
    }

    module _ (r : ℕ) (new : Device) where
      both_do : DiskWritesLeave (λ d. d == one.into.disk) (IsOfStep true one.into back) q r mid new → DiskWritesLeave (is_of_copy one) (IsOfCopy old one) p r old new
      both_do does = leaves_then (is_of_copy one) (IsOfCopy old one) p q r old mid new (read_does read.does)
          (does_wider (λ d. d == one.into.disk) (is_of_copy one) (IsOfStep true one.into back) (IsOfCopy old one) (λ d is. or_second (d == one.from.disk) (d == one.into.disk) is) brings q r mid new does)

      both_log : DiskWritesLeave (λ d. d == one.into.disk) (IsOfStep true one.into back) q r mid new → LogsOnly (IsInRun one.into) old.wrote new.wrote
      both_log does = only_then (IsInRun one.into) old.wrote mid.wrote new.wrote (read_logs read.does)
          (only_planned (IsOfStep true one.into back) (IsInRun one.into) mid.wrote new.wrote (λ range inside. (in_run true one.into back range inside).1) does.keeps.wrote)

      -- of the read nothing is told, so that what the write told is all
      all_told : (more : List Range) → LogsJust more mid.wrote new.wrote → LogsJust more old.wrote new.wrote
      all_told more told = just_first more old.wrote mid.wrote new.wrote read.writes told

      cut_told : LogsJust [] mid.wrote new.wrote ⊎ LogsJust (run_at one.into ∷ []) mid.wrote new.wrote → StopsInCopy [] one old.wrote new.wrote (λ d. Unit {0})
      cut_told (inl none) = inl (all_told [] none, tt)
      cut_told (inr one_more) = inr (all_told (run_at one.into ∷ []) one_more, tt)

      -- then it was written, well or not
      pub then_written : (how : Begun) → StepGives true one.into back q r mid new how → CopyGives one buf.number p r old new how
      then_written (begun.Ended last) gives =
          let does = both_do gives.does in
          record {
            does = does;
            writes = all_told (run_at one.into ∷ []) gives.writes;
            ranges = both_log gives.does;
            how = record {
              back = back_then buf.number old mid back read.how.rested read.how.well new last gives.how.rested;
              full = gives.how.full;
              well = well_then buf.number old mid back read.how.rested read.how.well new gives.how.well;
              copied = both_map old.media new.media (λ was is. ChangesBy (IsOfCopy old one) (image_of old.sizes was) (image_of new.sizes is))
                  (λ was is. (i : ℕ) → i < 256 → is one.into.disk (one.into.sector + i) ≡ was one.from.disk (one.from.sector + i)) does.keeps.media
                  (λ m k was is by i inside.
                  told_at new.media (λ media. RunHolds media one.into back) k is gives.how.moved i (m one.from.disk (one.from.sector + i)) inside
                  (told_at old.media (λ media. HoldsRun media one.from back) m was read.how.moved i inside));
            };
          }
      then_written (begun.DiskFailed disk last) gives = record {
        does = both_do gives.does;
        writes = inr (all_told (run_at one.into ∷ []) gives.writes, gives.how.0);
        ranges = both_log gives.does;
        how = (or_second (disk == one.from.disk) (disk == one.into.disk) (eq-eqb disk one.into.disk gives.how.0), failed_then buf.number old mid back read.how.rested read.how.well new disk last gives.how.1);
      }
      then_written begun.Dark gives = record { does = both_do gives.does; writes = cut_told gives.writes; ranges = both_log gives.does; how = cut_then buf.number old mid back read.how.rested read.how.well new gives.how }
      then_written begun.Stuck gives = record { does = both_do gives.does; writes = inr (all_told (run_at one.into ∷ []) gives.writes, tt); ranges = both_log gives.does; how = left_then buf.number old mid back read.how.rested read.how.well p q new read.does.spends gives.how }
