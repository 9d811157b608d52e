-- The records, and then the copies and the notes.
use Rattle.std.proofs.Common.{inl, inr, ℕ, false, List, Option, Result, Ok, Err, ◌∙◌, subst}
use Rattle.lvm_disk.specs.Counts.{Rose}
use Rattle.lvm_disk.specs.Device.{Device}
use Rattle.lvm_rec.specs.declared.homes.Homes.{Homes}
use Rattle.lvm_write.specs.Parts.{Spends}
use Rattle.lvm_write.proofs.PartsLemmas.Transfers.{spent_then}
use Rattle.lvm_varyon.specs.passed.Core.{Cause}
use Rattle.lvm_varyon.specs.passed.Recovery.{Recopy, EqualisedStaysKept}
use Rattle.lvm_varyon.specs.passed.CoreRefusedCause as cause
use Rattle.lvm_write.specs.Beginning.{Beginning, again_order}
use Rattle.lvm_write.specs.Kept.{AgainStaysKept}
use Rattle.lvm_write.proofs.PathsLemmas.Keeping.{kept_then}
use Rattle.lvm_varyon.specs.Equal.{AllWritesGive, AllWritesKeep, EqualGives}
use Rattle.lvm_varyon.specs.Parts.{StopsWriting}
use Rattle.lvm_varyon.specs.Writing.{AllWritten}

module _ (b : Beginning) (copies : List Recopy) (second : Option (List ℕ)) (before : ℕ) (read : Device) where
  -- not all records stand
  pub records_stop : (new : Device) (why : Cause) → StopsWriting before b (again_order false) read new why → AllWritesGive before b copies second read new (Err why)
  records_stop new (cause.DiskFailed disk) bad = inl bad
  records_stop new cause.Dark off = (off.0, inl off.1)
  records_stop new cause.Stuck off = (off.0, inl off.1)
  records_stop new _ off = off

  pub records_kept : (new : Device) → AgainStaysKept b false read new → AllWritesKeep b copies second read new
  records_kept new kept group status disks was may equal = kept group status disks was may

  module _ (first : Homes) (restated new : Device) (written : AllWritten b (again_order false) first read restated) where
    -- they do, but not all copies were made, not all of the second status stands, or not all notes were emptied
    equal_stops : (between : ℕ) → Spends before between read restated → (why : Cause) → EqualGives between copies second b.epoch b.targets first restated new (Err why) → AllWritesGive before b copies second read new (Err why)
    equal_stops between spends (cause.DiskFailed disk) bad = inr (record { restated = restated; homes = first; written = written; stops = bad })
    equal_stops between spends cause.Dark off = (
      record { power = off.0.power; flights = off.0.flights; cuts = subst (λ (n : ℕ). Rose n new.counts.cuts) written.rested.cuts off.0.cuts },
      inr (record { restated = restated; homes = first; written = written; stops = off.1 }),
    )
    equal_stops between spends cause.Stuck off = (
      record {
        flight = off.0.flight;
        out = off.0.out;
        freed = off.0.freed;
        power = off.0.power;
        cuts = off.0.cuts ∙ written.rested.cuts;
        waited = spent_then before between read restated new spends off.0.waited;
      },
      inr (record { restated = restated; homes = first; written = written; stops = off.1 }),
    )
    equal_stops between spends _ off = off

    -- whatever they answer
    pub all_give : (between : ℕ) → Spends before between read restated → (r : Result Homes Cause) → EqualGives between copies second b.epoch b.targets first restated new r → AllWritesGive before b copies second read new r
    all_give between spends (Ok homes) equal = record { restated = restated; first = first; written = written; equal = equal }
    all_give between spends (Err why) off = equal_stops between spends why off

    pub all_kept : AgainStaysKept b false read restated → EqualisedStaysKept copies second b.epoch b.targets first restated new → AllWritesKeep b copies second read new
    all_kept records equal group status disks was may may_equal = kept_then read restated new (records group status disks was may) (equal group status b.targets (may_equal first restated written))
