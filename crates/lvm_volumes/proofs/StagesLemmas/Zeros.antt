-- How the writing of zeros to several partitions ends.
use Rattle.std.proofs.Common.{◌≡◌, ◌⊎◌, inl, ⊎_elim, ℕ, ◌+◌, ◌<◌, ◌≤◌, Bool, true, false, List, Option, Some, None, Result, Ok, Err, length, take, get_or, refl, sym, ap, subst, ◌∙◌, eq-eqb}
use Rattle.std.specs.Prelude.{◌==◌, IsTrue, IfSome, Contains}
use Rattle.std.proofs.lemmas.Bool.{eqb-true, cases_eq}
use Rattle.std.proofs.lemmas.List.{take_all}
use Rattle.std.proofs.lemmas.List.Elements.{All-nil, All-weaker, All-more}
use Rattle.std.proofs.lemmas.List.Folds.{list_any_at}
use Rattle.lvm_num.specs.declared.place.Pp.{Pp}
use Rattle.lvm_num.specs.Buffer.{Sector, zero_sector}
use Rattle.lvm_num.specs.Descriptor.{is_member}
use Rattle.lvm_num.specs.Disks.{Disks}
use Rattle.lvm_disk.specs.Counts.{Rose}
use Rattle.lvm_disk.specs.Device.{Media, Device, IsReady, image_of}
use Rattle.lvm_disk.specs.Steps.{BothTold}
use Rattle.lvm_kept.specs.Plans.{Plan, ChangesBy}
use Rattle.lvm_map.specs.FirstFit.{has_partition_on}
use Rattle.lvm_volume_plan.specs.passed.Write.{KeepsShelf}
use Rattle.lvm_volume_plan.specs.passed.Commit.{IsSectorOf}
use Rattle.lvm_volume_plan.specs.passed.Core.{CommitFault, with_one_out, IsZeroOf, IsZeroed, IsAsBefore, HasZeroed, ZeroEnds, NoDescriptor, Leaves}
use Rattle.lvm_volume_plan.proofs.passed.Write.{darkened_then, given_up_then}
use Rattle.lvm_volume_plan.specs.passed.CoreFaultCommitFault as commit
use Rattle.lvm_session.specs.State.{Core, State}
use Rattle.lvm_session.specs.Dark.{all_dark}
use Rattle.lvm_volume_plan.specs.Faults.{IfOn, command_answer}
use Rattle.lvm_volumes.specs.Endings.{StillHeld, commanding}
use Rattle.lvm_volumes.specs.Stages.{HasZeroedAll, ZerosEnd}
use Rattle.lvm_volumes.specs.Volumes.{AreZeroed}
use Rattle.lvm_volumes.proofs.EndingsLemmas.Holding.{still_none, still_then}
use Rattle.lvm_volumes.proofs.Leaving.{leaves_none, leaves_then}

-- zeros stay where nothing else may come to the partition
pub zeros_stay : (T : Disks) (P : Plan) (mib : ℕ) (pp : Pp) (old new : Device) → ((d s : ℕ) (value : Sector) → P d s value → IsSectorOf mib pp d s → value ≡ zero_sector) → KeepsShelf T P old new → IsZeroed mib pp old → IsZeroed mib pp new
zeros_stay T P mib pp old new zero keeps is = by_media old.media new.media keeps.media is
  where
    by_media : (o n : Option Media) → BothTold o n (λ was is. ChangesBy P (image_of old.sizes was) (image_of new.sizes is))
        → IfSome o (λ media. (d s : ℕ) → IsSectorOf mib pp d s → media d s ≡ zero_sector) → IfSome n (λ media. (d s : ℕ) → IsSectorOf mib pp d s → media d s ≡ zero_sector)
    by_media None None both is = tt
    by_media None (Some n) both is = absurd both
    by_media (Some m) None both is = absurd both
    by_media (Some m) (Some n) both is = λ d s inside. ⊎_elim (λ (same : n d s ≡ m d s). same ∙ is d s inside) (λ (brought : P d s (n d s)). zero d s (n d s) brought inside) (both.each d s)

-- the zeros of the first partitions stand
pub record IsZeroing (map : List Pp) (p k q : ℕ) (old now : State) : Type 0 where
  pub same : IsAsBefore old now
  pub zeros : AreZeroed old.core.descriptor.mib (take k map) now.device
  pub leaves : Leaves (commanding NoDescriptor (Contains map) 0) p q old now
  pub still : StillHeld old now
  pub well : (d : ℕ) → now.device.counts.faults d ≡ old.device.counts.faults d

pub zeroing_none : (map : List Pp) (p : ℕ) (old : State) → IsReady old.device → IsZeroing map p 0 p old old
zeroing_none map p old ready = record {
  same = record { core = refl; ready = ready; cuts = refl };
  zeros = All-nil (λ (pp : Pp). IsZeroed old.core.descriptor.mib pp old.device);
  leaves = leaves_none (commanding NoDescriptor (Contains map) 0) p old;
  still = still_none old;
  well = λ d. refl;
}

on_disk : (map : List Pp) (k : ℕ) (e : Pp) → k < length map → has_partition_on map (get_or map k e).disk ≡ true
on_disk map k e lt = list_any_at (λ (pp : Pp). pp.disk == (get_or map k e).disk) map k e lt (eq-eqb (get_or map k e).disk (get_or map k e).disk refl)

module _ (map : List Pp) (p k q r : ℕ) (e : Pp) (old mid new : State) (lt : k < length map) (so_far : IsZeroing map p k q old mid) (leaves : Leaves (commanding NoDescriptor (Contains map) 0) q r mid new)
    (writes : KeepsShelf (λ d. d == (get_or map k e).disk) (IsZeroOf mid.core.descriptor.mib (get_or map k e)) mid.device new.device) where
  abbrev its : Pp
  its = get_or map k e

  pub then : Leaves (commanding NoDescriptor (Contains map) 0) p r old new
  then = leaves_then NoDescriptor (Contains map) 0 0 p q r old mid new (inl (ap (λ (c : Core). c.descriptor) so_far.same.core)) (ap (λ (c : Core). c.descriptor.mib) so_far.same.core) (λ d. ap (λ (c : Core). is_member c.descriptor d) so_far.same.core) so_far.leaves so_far.still leaves

  others : (d : ℕ) → (d ≡ its.disk → ⊥) → new.device.counts.faults d ≡ old.device.counts.faults d
  others d other = writes.faults d (by_test (d == its.disk) refl) ∙ so_far.well d
    where
      by_test : (t : Bool) → (d == its.disk) ≡ t → t ≡ false
      by_test true is = absurd (other (eqb-true d its.disk is))
      by_test false is = refl

  pub zeroing_more : HasZeroed its mid new → StillHeld mid new → IsZeroing map p (k + 1) r old new
  zeroing_more done still = record {
    same = record { core = done.same.core ∙ so_far.same.core; ready = done.same.ready; cuts = done.same.cuts ∙ so_far.same.cuts };
    zeros = All-more (λ (pp : Pp). IsZeroed old.core.descriptor.mib pp new.device) map k e lt
        (All-weaker (λ (pp : Pp). IsZeroed old.core.descriptor.mib pp mid.device) (λ (pp : Pp). IsZeroed old.core.descriptor.mib pp new.device)
        (λ pp is. zeros_stay (λ d. d == its.disk) (IsZeroOf mid.core.descriptor.mib its) old.core.descriptor.mib pp mid.device new.device (λ d s value brought inside. brought.1) writes is) (take k map) so_far.zeros)
        (subst (λ (n : ℕ). IsZeroed n its new.device) (ap (λ (c : Core). c.descriptor.mib) so_far.same.core) done.zeros);
    leaves = then;
    still = still_then old mid new so_far.still still;
    well = λ d. ⊎_elim (λ (is : d ≡ its.disk). subst (λ (n : ℕ). new.device.counts.faults n ≡ old.device.counts.faults n) (sym is) (done.well ∙ so_far.well its.disk)) (λ other. others d other) (cases d);
  }
    where
      cases : (d : ℕ) → (d ≡ its.disk) ⊎ (d ≡ its.disk → ⊥)
      cases d = cases_eq d its.disk

  -- where the next one broke off
  pub zeros_break : (why : CommitFault) → ZeroEnds its q mid new (Err why) → ZerosEnd map p old new (Err why)
  zeros_break (commit.DiskFailed disk) ends = record {
    same = record { core = ends.same.core ∙ so_far.same.core; ready = ends.same.ready; cuts = ends.same.cuts ∙ so_far.same.cuts };
    its = subst (λ (n : ℕ). IsTrue (has_partition_on map n)) (sym ends.disk_is) (on_disk map k e lt);
    others = λ d other. others d (λ is. other (is ∙ sym ends.disk_is));
    fault = subst (λ (n : ℕ). Rose n (new.device.counts.faults disk)) (so_far.well disk) ends.fault;
  }
  zeros_break commit.Dark ends = record {
    cut = darkened_then 0 0 old.device mid.device new.device refl so_far.same.cuts ends.cut;
    is = subst (λ (c : Core). new.core ≡ all_dark (record c { pool = with_one_out c.pool; status = new.core.status; homes = new.core.homes })) so_far.same.core ends.is;
  }
  zeros_break commit.Stuck ends = record {
    out = given_up_then 0 0 p q old.device mid.device new.device refl so_far.same.cuts so_far.leaves.spends ends.out;
    is = subst (λ (c : Core). new.core ≡ record c { pool = with_one_out c.pool; status = new.core.status; homes = new.core.homes }) so_far.same.core ends.is;
  }
  zeros_break (commit.WentOff have total) ends = absurd ends

pub zeros_end : (map : List Pp) (p k q : ℕ) (old new : State) → length map ≤ k → IsZeroing map p k q old new → HasZeroedAll map old new
zeros_end map p k q old new all is = record { same = is.same; zeros = subst (λ (l : List Pp). AreZeroed old.core.descriptor.mib l new.device) (take_all k map all) is.zeros }

-- where a disk failed the session goes on, and the disks hold what it says
pub zeros_fail_still : (map : List Pp) (pp : Pp) (p q k : ℕ) (old mid new : State) (answer : Result (Unit {0}) CommitFault) → IsZeroing map p k q old mid → ZeroEnds pp q mid new answer → (new.core ≡ mid.core → StillHeld mid new)
    → IfOn (command_answer answer) (StillHeld old new)
zeros_fail_still map pp p q k old mid new (Ok done) so_far ends still = still_then old mid new so_far.still (still ends.same.core)
zeros_fail_still map pp p q k old mid new (Err (commit.DiskFailed disk)) so_far ends still = still_then old mid new so_far.still (still ends.same.core)
zeros_fail_still map pp p q k old mid new (Err commit.Dark) so_far ends still = tt
zeros_fail_still map pp p q k old mid new (Err commit.Stuck) so_far ends still = tt
zeros_fail_still map pp p q k old mid new (Err (commit.WentOff have total)) so_far ends still = tt
