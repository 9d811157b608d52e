-- What a session and its shelf are after zeros were written, by how the transfers ended.
use Rattle.std.proofs.Common.{◌≡◌, ⊎_elim, ℕ, ◌<◌, Some, refl, sym, ◌∙◌, ap, subst, arith}
use Rattle.std.specs.Prelude.{◌==◌, Result}
use Rattle.lvm_num.specs.declared.place.Pp.{Pp}
use Rattle.lvm_num.specs.Geometry.{data_start}
use Rattle.lvm_disk.specs.Device.{Media, Image, image_of, MayLeave}
use Rattle.lvm_kept.specs.Places.{SameRecords}
use Rattle.lvm_kept.specs.Plans.{ChangesBy}
use Rattle.lvm_commit.specs.passed.Transfer.{Moved}
use Rattle.lvm_commit.specs.passed.TransferMovesMoved as moved
use Rattle.lvm_write.specs.Parts.{DoesPart}
use Rattle.lvm_write.proofs.WrittenLemmas.Writing.{if_told, told_at, both_from}
use Rattle.lvm_commit.proofs.passed.Steps.{data_stays_behind}
use Rattle.lvm_commit.specs.Committed.{HoldsCommitted}
use Rattle.lvm_commit.specs.LawsOfFinding.{FindsNothingNewOn, FindsNothingNew}
use Rattle.lvm_commit.proofs.LawsOfDataLemmas.Still.{data_keeps_committed}
use Rattle.lvm_commit.proofs.LawsOfFindingLemmas.NoMore.{data_finds_nothing_new}
use Rattle.lvm_kept.specs.Contents.{contents_of}
use Rattle.lvm_core.specs.declared.fault.CommitFault.{CommitFault}
use Rattle.lvm_session.specs.State.{Core, State, is_there}
use Rattle.lvm_session.specs.Dark.{all_dark}
use Rattle.lvm_core.specs.Held.{IsHeld}
use Rattle.lvm_core.specs.Committing.{with_one_out, StaysBehind}
use Rattle.lvm_core.specs.Zeros.{IsZeroOf, KeepsRecords, ZeroEnds, GoesOnAfter, WritesZeros}

-- zeros in a partition change no record
pub zeros_below : (mib : ℕ) (pp : Pp) (a b : Image) → ChangesBy (IsZeroOf mib pp) a b → SameRecords a b
zeros_below mib pp a b by = record {
  same = by.same;
  sectors = λ d s lt. ⊎_elim (λ same. same) (λ (zero : IsZeroOf mib pp d s (b.sector d s)). absurd (let low = zero.0.low in omega (arith, lt, low))) (by.each d s);
}

-- ---- by how it ended

module _ (pp : Pp) (before after : ℕ) (old new : State) where
  pub zero_ends : (answer : Result (Unit {0}) CommitFault) → WritesZeros pp before after old new answer → ZeroEnds pp before old new answer
  zero_ends answer w = by_how w.how w.part w.zeros w.goes
    where
      by_how : (how : Moved) → DoesPart (λ d. d == pp.disk) (IsZeroOf old.core.descriptor.mib pp) pp.disk 0 before after old.device new.device how
          → Rattle.lvm_write.specs.Parts.IfMoved how (λ back. Rattle.lvm_core.specs.Zeros.IsZeroed old.core.descriptor.mib pp new.device) → GoesOnAfter pp.disk old.core new.core how answer → ZeroEnds pp before old new answer
      by_how (moved.Done back) part zeros goes = subst (λ (a : Result (Unit {0}) CommitFault). ZeroEnds pp before old new a) (sym goes.0) (record {
        same = record { core = goes.1; ready = part.rests; cuts = part.counts.1 };
        zeros = zeros;
        well = ap (λ (h : ℕ → ℕ). h pp.disk) part.counts.0;
      })
      by_how (moved.Failed back) part zeros goes = subst (λ (a : Result (Unit {0}) CommitFault). ZeroEnds pp before old new a) (sym goes.0) (record {
        same = record { core = goes.1; ready = part.rests; cuts = part.counts.1 };
        disk_is = refl;
        fault = part.counts.0.here;
      })
      by_how (moved.Dark started) part zeros goes = subst (λ (a : Result (Unit {0}) CommitFault). ZeroEnds pp before old new a) (sym goes.0) (record {
        cut = part.leaves;
        is = goes.1 ∙ ap (λ (c : Core). all_dark (record old.core { pool = with_one_out old.core.pool; status = c.status; homes = c.homes })) (sym goes.1);
      })
      by_how moved.Stuck part zeros goes = subst (λ (a : Result (Unit {0}) CommitFault). ZeroEnds pp before old new a) (sym goes.0) (record {
        out = part.leaves;
        is = goes.1 ∙ ap (λ (c : Core). record old.core { pool = with_one_out old.core.pool; status = c.status; homes = c.homes }) (sym goes.1);
      })

  -- what the session says of its records stays
  pub zero_core : (P : Core → Type 0) → (P old.core → P (record old.core { pool = with_one_out old.core.pool })) → (P old.core → P (all_dark (record old.core { pool = with_one_out old.core.pool })))
      → (answer : Result (Unit {0}) CommitFault) → WritesZeros pp before after old new answer → P old.core → P new.core
  zero_core P stuck dark answer w is = by_how w.how w.goes
    where
      by_how : (how : Moved) → GoesOnAfter pp.disk old.core new.core how answer → P new.core
      by_how (moved.Done back) goes = subst P (sym goes.1) is
      by_how (moved.Failed back) goes = subst P (sym goes.1) is
      by_how (moved.Dark started) goes = subst P (sym goes.1) (dark is)
      by_how moved.Stuck goes = subst P (sym goes.1) (stuck is)

  module _ (answer : Result (Unit {0}) CommitFault) (w : WritesZeros pp before after old new answer) where
    zero_records : (new.core.status ≡ old.core.status) × (new.core.homes ≡ old.core.homes)
    zero_records = zero_core (λ (c : Core). (c.status ≡ old.core.status) × (c.homes ≡ old.core.homes)) (λ is. is) (λ is. is) answer w (refl, refl)

    told_below : (n : Media) → new.device.media ≡ Some n → (m : Media) × (old.device.media ≡ Some m) × SameRecords (image_of old.device.sizes m) (image_of new.device.sizes n)
    told_below n is =
        let back = both_from old.device.media new.device.media (λ was is. ChangesBy (IsZeroOf old.core.descriptor.mib pp) (image_of old.device.sizes was) (image_of new.device.sizes is)) n w.part.keeps.media is in
        (back.0, back.1, zeros_below old.core.descriptor.mib pp (image_of old.device.sizes back.0) (image_of new.device.sizes n) back.2)

    zero_held : IsHeld old.device old.core → IsHeld new.device new.core
    zero_held held = zero_core (IsHeld new.device) (λ is. is) (λ is. is) answer w (if_told new.device.media (λ media. HoldsCommitted (image_of new.device.sizes media) old.core.descriptor old.core.status.committed (is_there old.core) old.core.status.stamp old.core.homes)
        (λ n is.
        let from = told_below n is in
        data_keeps_committed old.core.descriptor old.core.status.committed (is_there old.core) old.core.status.stamp old.core.homes (image_of old.device.sizes from.0) (image_of new.device.sizes n) from.2
        (told_at old.device.media (λ media. HoldsCommitted (image_of old.device.sizes media) old.core.descriptor old.core.status.committed (is_there old.core) old.core.status.stamp old.core.homes) from.0 from.1 held)))

    zero_finds : FindsNothingNewOn old.device new.device
    zero_finds image may = if_told old.device.media (λ media. FindsNothingNew (contents_of (image_of old.device.sizes media)) (contents_of image)) (λ m is.
        data_finds_nothing_new (image_of old.device.sizes m) image (zeros_below old.core.descriptor.mib pp (image_of old.device.sizes m) image
        (told_at old.device.media (λ media. (i : Image) → MayLeave new.device i → ChangesBy (IsZeroOf old.core.descriptor.mib pp) (image_of old.device.sizes media) i) m is (Rattle.lvm_disk.proofs.PathsLemmas.last-path w.part.moments) image may)))

    pub zero_keeps_records : KeepsRecords old new
    zero_keeps_records = record { status = zero_records.0; homes = zero_records.1; held = zero_held; finds = zero_finds }

    pub zero_behind : StaysBehind old new
    zero_behind moment later behind = data_stays_behind moment old.device new.device w.part.keeps.sizes
        (Rattle.lvm_write.proofs.WrittenLemmas.Writing.both_map old.device.media new.device.media
        (λ was is. ChangesBy (IsZeroOf old.core.descriptor.mib pp) (image_of old.device.sizes was) (image_of new.device.sizes is))
        (λ was is. (d s : ℕ) → s < data_start → is d s ≡ was d s) w.part.keeps.media
        (λ m n was is by d s lt. (zeros_below old.core.descriptor.mib pp (image_of old.device.sizes m) (image_of new.device.sizes n) by).sectors d s lt)) behind
