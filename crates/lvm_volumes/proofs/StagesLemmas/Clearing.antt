-- Partitions become fresh, and then zeros.
use Rattle.std.proofs.Common.{◌≡◌, inl, inr, ⊎_elim, ℕ, suc, Bool, true, false, ◌&&◌, ◌||◌, List, [], ◌∷◌, Result, Ok, Err, get_or, refl, sym, ap, subst, ◌∙◌, arith}
use Rattle.std.specs.Prelude.{◌==◌, not, IsTrue, IsFalse, All, Contains}
use Rattle.std.proofs.lemmas.Bool.{eqb-true, false≢true}
use Rattle.std.proofs.lemmas.List.Folds.{list_any_at}
use Rattle.lvm_num.specs.declared.place.Pp.{Pp}
use Rattle.lvm_num.specs.declared.descriptor.Descriptor.{Descriptor}
use Rattle.lvm_num.specs.declared.status.Status.{Status}
use Rattle.lvm_num.specs.Descriptor.{IsPartitionOf, is_member, is_pp}
use Rattle.lvm_num.specs.Status.{calls_stale, calls_missing}
use Rattle.lvm_num.proofs.Booleans.{first_alone}
use Rattle.lvm_disk.specs.Counts.{Rose}
use Rattle.lvm_vol.specs.Log.{Log}
use Rattle.lvm_map.specs.FirstFit.{has_partition_on}
use Rattle.lvm_steps.proofs.RecordLemmas.{either}
use Rattle.lvm_status.specs.Update.{members_there}
use Rattle.lvm_volume_plan.specs.passed.Commit.{IsFree, NoneIsLeft}
use Rattle.lvm_volume_plan.specs.passed.Core.{CommitFault, IsSettled, Restates, HasStated, RecordsEnd, MarkEnds, NoDescriptor, Leaves, marking}
use Rattle.lvm_volume_plan.specs.passed.Session.{is_among}
use Rattle.lvm_volume_plan.proofs.passed.Commit.{one_place}
use Rattle.lvm_volume_plan.specs.passed.CoreFaultCommitFault as commit
use Rattle.lvm_session.specs.State.{Core, State, is_there}
use Rattle.lvm_volumes.specs.Endings.{StillHeld, KeepsFresh, commanding}
use Rattle.lvm_volumes.specs.Stages.{AreUnusedOn, IsLowestMissing, CommandBroke, DiskFailsFirst, ZerosEnd, ClearEnds}
use Rattle.lvm_volumes.specs.Volumes.{AreZeroed}
use Rattle.lvm_volumes.proofs.StagesLemmas.Breaking.{broken, broken_since}
use Rattle.lvm_volumes.proofs.EndingsLemmas.Fresh.{keeps_all, keeps_same}
use Rattle.lvm_volumes.proofs.EndingsLemmas.Holding.{still_by, still_then}
use Rattle.lvm_volumes.proofs.Leaving.{leaves_wider, leaves_then}
use Rattle.lvm_volumes.proofs.SettlingLemmas.{itself, is_used}
use Rattle.lvm_volume_plan.specs.PlannedVolume.{AreOfOneGroup}
use Rattle.lvm_volume_plan.specs.Faults.{IfOn, command_answer}

-- ---- marks

-- what is to be fresh isn't stale,
not_marked : (a b : Bool) → b ≡ true → IsTrue ((a || false) && not b) → ⊥
not_marked true b is marked = false≢true (sym (ap not is) ∙ marked)
not_marked false b is marked = false≢true marked

-- what is stale with fresh marks alone was so before
was_marked : (a b : Bool) → IsTrue ((a || false) && b) → IsTrue a
was_marked true b marked = refl
was_marked false b marked = marked

-- since no copy of a volume is among it
pub fresh_of : (map : List Pp) (a b : State) → All (IsFree a.core.descriptor) map → Restates [] map a b → All (λ (pp : Pp). IsFalse (calls_stale b.core.status.wanted pp)) map
fresh_of map a b free marks k e lt = ⊎_elim
    (λ stale. ⊎_elim
    (λ marked. absurd (not_marked (calls_stale a.core.status.wanted (get_or map k e)) (is_among map (get_or map k e)) (list_any_at (λ (q : Pp). is_pp (get_or map k e) q) map k e lt (itself (get_or map k e))) marked))
    (λ passed. absurd (free k e lt (is_used a.core.descriptor passed.its.row passed.its.lp (get_or map k e) passed.its.volume passed.its.one)))
    (marks.only (get_or map k e) stale))
    (λ fresh. fresh)
    (either (calls_stale b.core.status.wanted (get_or map k e)))

-- ---- the status with fresh marks

module _ (map : List Pp) (p q : ℕ) (a b : State) (settled : IsSettled a.core) (leaves : Leaves (marking [] map) p q a b) where
  pub fresh_among : Leaves (commanding NoDescriptor (Contains map) 1) p q a b
  fresh_among = leaves_wider (marking [] map) (commanding NoDescriptor (Contains map) 1) (λ d none. none) (λ pp none. absurd none) (λ pp none. absurd (omega (arith, none.1))) (λ pp its. its) (λ lv none. none) (omega arith) p q a b
      (λ run first held only. tt) leaves

  pub fresh_still : HasStated a.core.descriptor a b → Restates [] map a b → StillHeld a b
  fresh_still done marks =
      let same : b.core.descriptor ≡ a.core.descriptor = ap (λ (c : Core). c.descriptor) done.is in
      still_by (marking [] map) p q a b leaves (λ k none. absurd none) (ap (λ (d : Descriptor). d.id) same) (λ d. ap (λ (g : Descriptor). is_member g d) same) (ap (λ (c : Core). c.cache) done.is)
      done.held (λ none. subst (λ (d : Descriptor). NoneIsLeft d b.core.status) (sym same) (marks.none none))

  -- none becomes stale by it
  pub fresh_keeps : AreOfOneGroup a.core → HasStated a.core.descriptor a b → Restates [] map a b → KeepsFresh a b
  fresh_keeps group done marks = keeps_all a.core.descriptor a b (ap (λ (c : Core). c.descriptor) done.is) (λ row other lp at x. one_place a.core.descriptor row other lp at x group.valid)
      (λ row lp x volume copy stale. ⊎_elim (λ marked. inl (was_marked (calls_stale a.core.status.wanted x) (not (is_among map x)) marked)) (λ passed. inr passed) (marks.only x stale)) refl

  -- where it wasn't committed
  pub fresh_break : (why : CommitFault) → MarkEnds p a b (Err why) → ClearEnds map p a b (Err why)
  fresh_break (commit.WentOff have total) ends = broken (HasStated a.core.descriptor a b) p a b settled (commit.WentOff have total) ends
  fresh_break commit.Dark ends = broken (HasStated a.core.descriptor a b) p a b settled commit.Dark ends
  fresh_break commit.Stuck ends = broken (HasStated a.core.descriptor a b) p a b settled commit.Stuck ends
  fresh_break (commit.DiskFailed disk) ends = absurd ends

-- ---- and then zeros

on_all : (P : ℕ → Type 0) (map : List Pp) (d : ℕ) → All (λ (pp : Pp). P pp.disk) map → IsTrue (has_partition_on map d) → P d
on_all P [] d all on = absurd (false≢true on)
on_all P (x ∷ xs) d all on = by_test (x.disk == d) refl (on_all P xs d (λ k e lt. all (suc k) e (omega (arith, lt)))) on
  where
    by_test : (t : Bool) → (x.disk == d) ≡ t → (IsTrue (has_partition_on xs d) → P d) → IsTrue (t || has_partition_on xs d) → P d
    by_test true is rest on = subst P (eqb-true x.disk d is) (all 0 x (omega arith))
    by_test false is rest on = rest on

present : (m b : Bool) → IsTrue (m && not b) → IsTrue m × IsFalse b
present true false is = (refl, refl)
present true true is = absurd (false≢true is)
present false b is = absurd (false≢true is)

module _ (map : List Pp) (p q : ℕ) (a b : State) (settled : IsSettled a.core) (unused : AreUnusedOn a.core map) (group : AreOfOneGroup a.core) (done : HasStated a.core.descriptor a b) (marks : Restates [] map a b) (leaves : Leaves (marking [] map) p q a b) where
  abbrev gone : ℕ → Bool
  gone = calls_missing b.core.status.wanted

  same : b.core.descriptor ≡ a.core.descriptor
  same = ap (λ (c : Core). c.descriptor) done.is

  member : (d : ℕ) → IsTrue (has_partition_on map d) → IsTrue (is_there a.core d)
  member d on = on_all (λ n. IsTrue (is_there a.core n)) map d unused.there on

  -- a disk that isn't missing had no fault
  unhurt : (d : ℕ) → IsTrue (has_partition_on map d) → IsFalse (gone d) → b.device.counts.faults d ≡ a.device.counts.faults d
  unhurt d on isnt = done.well d (subst (λ (g : Descriptor). IsTrue (members_there g b.core.status.wanted d)) (sym (leaves.status.group ∙ group.status))
      (first_alone (is_member a.core.descriptor d) (gone d) (present (is_member a.core.descriptor d) (calls_missing a.core.status.wanted d) (member d on)).0 isnt))

  pub missing_fails : (disk : ℕ) → IsLowestMissing b.core.status.committed map disk → DiskFailsFirst map disk a b
  missing_fails disk low = record {
    its = low.its;
    lowest = λ d lt on. unhurt d on (subst (λ (s : Status). IsFalse (calls_missing s d)) done.settled.committed (low.lowest d lt on));
    ends = record {
      fault = (leaves.status.lost disk (subst (λ (s : Status). IsTrue (calls_missing s disk)) done.settled.committed low.missing) (present (is_member a.core.descriptor disk) (calls_missing a.core.status.wanted disk) (member disk low.its)).1).1;
      is = done.is;
      ready = done.ready;
      cuts = done.cuts;
    };
    settled = done.settled;
  }

  module _ (none : All (λ (pp : Pp). calls_missing b.core.status.committed pp.disk ≡ false) map) where
    here : All (λ (pp : Pp). IsTrue (is_there b.core pp.disk)) map
    here k e lt = first_alone (is_member b.core.descriptor (get_or map k e).disk) (gone (get_or map k e).disk)
        (subst (λ (d : Descriptor). IsTrue (is_member d (get_or map k e).disk)) (sym same) (present (is_member a.core.descriptor (get_or map k e).disk) (calls_missing a.core.status.wanted (get_or map k e).disk) (unused.there k e lt)).0)
        (subst (λ (s : Status). IsFalse (calls_missing s (get_or map k e).disk)) done.settled.committed (none k e lt))

    pub still_unused : AreUnusedOn b.core map
    still_unused = record {
      there = here;
      free = λ k e lt. subst (λ (d : Descriptor). IsFree d (get_or map k e)) (sym same) (unused.free k e lt);
      places = λ k e lt. subst (λ (d : Descriptor). IsPartitionOf d (get_or map k e)) (sym same) (unused.places k e lt);
      disks = unused.disks;
      once = unused.once;
    }

    unhurt_here : (d : ℕ) → IsTrue (has_partition_on map d) → b.device.counts.faults d ≡ a.device.counts.faults d
    unhurt_here d on = unhurt d on (present (is_member b.core.descriptor d) (gone d) (on_all (λ n. IsTrue (is_there b.core n)) map d here on)).1

    module _ (c : State) where
      history : b.core.history ≡ a.core.history
      history = ap (λ (x : Core). x.history) done.is

      since : (why : CommitFault) → RecordsEnd ⊥ q b c (Err why) → CommandBroke a.core.history p a c why
      since why ends = broken_since (marking [] map) p q a.core.history a.core.history a b c leaves done.is done.cuts why (subst (λ (l : Log). CommandBroke l q b c why) history (broken ⊥ q b c done.settled why ends))

      pub clear_end : (r : Result (Unit {0}) CommitFault) → ZerosEnd map q b c r → ClearEnds map p a c r
      clear_end (Ok ok) ends = record {
        settled = subst IsSettled (sym ends.same.core) done.settled;
        is = subst (λ (x : Core). x ≡ record a.core { status = x.status; homes = x.homes }) (sym ends.same.core) done.is;
        there = subst (λ (x : Core). All (λ (pp : Pp). IsTrue (is_there x pp.disk)) map) (sym ends.same.core) here;
        fresh = subst (λ (x : Core). All (λ (pp : Pp). IsFalse (calls_stale x.status.committed pp)) map) (sym ends.same.core)
            (subst (λ (s : Status). All (λ (pp : Pp). IsFalse (calls_stale s pp)) map) (sym done.settled.committed) (fresh_of map a b unused.free marks));
        zeros = subst (λ (d : Descriptor). AreZeroed d.mib map c.device) same ends.zeros;
        ready = ends.same.ready;
        cuts = ends.same.cuts ∙ done.cuts;
      }
      clear_end (Err (commit.DiskFailed disk)) ends = record {
        its = ends.its;
        lowest = λ d lt on. ends.others d (λ (is : d ≡ disk). absurd (omega (arith, is, lt))) ∙ unhurt_here d on;
        ends = record {
          fault = subst (λ (n : ℕ). Rose n (c.device.counts.faults disk)) (unhurt_here disk ends.its) ends.fault;
          is = subst (λ (x : Core). x ≡ record a.core { status = x.status; homes = x.homes }) (sym ends.same.core) done.is;
          ready = ends.same.ready;
          cuts = ends.same.cuts ∙ done.cuts;
        };
        settled = subst IsSettled (sym ends.same.core) done.settled;
      }
      clear_end (Err commit.Dark) ends = since commit.Dark ends
      clear_end (Err commit.Stuck) ends = since commit.Stuck ends
      clear_end (Err (commit.WentOff have total)) ends = absurd ends

      pub clear_leaves : (r : ℕ) → StillHeld a b → Leaves (commanding NoDescriptor (Contains map) 0) q r b c → Leaves (commanding NoDescriptor (Contains map) 1) p r a c
      clear_leaves r still two = leaves_then NoDescriptor (Contains map) 1 0 p q r a b c (inl same) (ap (λ (d : Descriptor). d.mib) same) (λ d. ap (λ (x : Descriptor). is_member x d) same) (fresh_among map p q a b settled leaves) still two

      pub clear_still : StillHeld a b → (r : Result (Unit {0}) CommitFault) → IfOn (command_answer r) (StillHeld b c) → IfOn (command_answer r) (StillHeld a c)
      clear_still still (Ok ok) two = still_then a b c still two
      clear_still still (Err (commit.DiskFailed disk)) two = still_then a b c still two
      clear_still still (Err commit.Dark) two = tt
      clear_still still (Err commit.Stuck) two = tt
      clear_still still (Err (commit.WentOff have total)) two = tt

      pub clear_keeps : (r : Result (Unit {0}) CommitFault) → ZerosEnd map q b c r → IfOn (command_answer r) (KeepsFresh a c)
      clear_keeps (Ok ok) ends = keeps_same a b c ends.same.core (fresh_keeps map p q a b settled leaves group done marks)
      clear_keeps (Err (commit.DiskFailed disk)) ends = keeps_same a b c ends.same.core (fresh_keeps map p q a b settled leaves group done marks)
      clear_keeps (Err commit.Dark) ends = tt
      clear_keeps (Err commit.Stuck) ends = tt
      clear_keeps (Err (commit.WentOff have total)) ends = tt
