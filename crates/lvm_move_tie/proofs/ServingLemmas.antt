-- The next descriptor may be committed with any history with which what a loss of power may leave of the session agrees.
use Rattle.std.proofs.Common.{◌≡◌, inl, ℕ, ◌*◌, List, ◌∷◌, [], ◌++◌, Option, Some, None, sym, ap, subst, ◌∙◌}
use Rattle.std.specs.Prelude.{IsTrue, is_some}
use Rattle.lvm_num.specs.declared.descriptor.LvRow.{LvRow}
use Rattle.lvm_num.specs.declared.descriptor.Descriptor.{Descriptor}
use Rattle.lvm_num.specs.declared.status.Status.{Status}
use Rattle.lvm_num.specs.Disks.{Disks}
use Rattle.lvm_num.specs.Geometry.{partition_blocks}
use Rattle.lvm_num.specs.Record.{Stamped}
use Rattle.lvm_num.specs.Votes.{all_disks, CanRead}
use Rattle.lvm_vol.specs.declared.entry.Vol.TheVariants.{Lv}
use Rattle.lvm_vol.specs.Facts.{Fact, Cut}
use Rattle.lvm_vol.specs.May.{Known, known, cut}
use Rattle.lvm_vol.proofs.LawsLemmas.Knowing.{known-push}
use Rattle.lvm_kept.specs.Contents.{Contents}
use Rattle.lvm_kept.specs.Group.{members_in, status_by, ReadsGroup, fresh_on, IsOneOf, IsSome}
use Rattle.lvm_kept.specs.Kept.{IsBlockKept}
use Rattle.lvm_steps.specs.Committing.{DiffersInVolume, VolumeIsServed}
use Rattle.lvm_commit.specs.LawsOfVolumes.{VolumeServes}
use Rattle.lvm_invariant.specs.State.{ModelState}
use Rattle.lvm_invariant.specs.Found.{Found, Votes}
use Rattle.lvm_invariant.specs.Crash.{IsCrash, BlockKept}
use Rattle.lvm_crash.specs.Laws.{EachViewAgrees}
use Rattle.lvm_crash.specs.Session.{marks_of, view_of, AreVotesOf, HasVolumes, Shows}
use Rattle.lvm_even.specs.Members.{members_showing}
use Rattle.lvm_crash.proofs.GroupLemmas.Blocks.{block_kept, some_fresh, block_of}
use Rattle.lvm_crash.proofs.LawsLemmas.Finding.{FindsStatus, finds_status}
use Rattle.lvm_move_laws.specs.Serving.{IsFoundSo}

some_is : {X : Type 0} (o : Option X) (x : X) → o ≡ Some x → IsTrue (is_some o)
some_is o x e = ap is_some e

module _ (votes : Votes) (s : ModelState) (facts : List Fact) (group : Descriptor) (rows : List LvRow) (lv : ℕ) (c : Contents) (so : IsFoundSo c group) (are : AreVotesOf (record group { lvs = rows }) votes) (by_quorum : Found votes s)
    (agrees : EachViewAgrees s facts) (volumes : HasVolumes s facts (record group { lvs = rows }) (members_showing c (record group { lvs = rows }))) (shown : Shows s (record group { lvs = rows }) None c) where
  abbrev next : Descriptor
  next = record group { lvs = rows }

  crash : IsCrash s (view_of s.beside next c)
  crash = record {
    block = λ lv b p copy. inl (sym (shown.blocks lv b p copy));
    names = λ d. inl (λ t lv g. sym (shown.names d lv g) t);
    status = λ d. inl (sym (shown.status d));
  }

  -- what a set that can read the group finds
  reading : (b : Disks) (k : Descriptor) → ReadsGroup c b group.id k → FindsStatus s next c b
  reading b k reads = finds_status votes s next c are by_quorum crash so.within b (subst (λ (h : Descriptor). CanRead h (members_in c b group.id h)) (so.only reads.found.0 k reads.found.1) reads.enough)

  found_by : (b : Disks) (k : Descriptor) (reads : ReadsGroup c b group.id k) → status_by c b group.id k ≡ Some (reading b k reads).status
  found_by b k reads = ap (λ (h : Descriptor). status_by c b group.id h) (so.only reads.found.0 k reads.found.1) ∙ (reading b k reads).found

  kept_by : (b : Disks) (k : Descriptor) (reads : ReadsGroup c b group.id k) (row : LvRow) (n : ℕ)
      → BlockKept s (view_of s.beside next c) (marks_of s.beside (reading b k reads).status.value) (cut n (known facts (Lv row.number) n)) row.number n
  kept_by b k reads row n = agrees (view_of s.beside next c) (marks_of s.beside (reading b k reads).status.value) row.number n crash (reading b k reads).possible

  served : (row : LvRow) → IsOneOf rows row → VolumeIsServed c facts group row
  served row one = record {
    status = λ b k reads. some_is (status_by c b group.id k) (reading b k reads).status (found_by b k reads);
    blocks = λ b k reads lp n inside.
        subst (λ (o : Option (Stamped Status)). IsBlockKept c group.mib o row (fresh_on (members_in c all_disks group.id group) o row lp) (known (facts ++ Cut ∷ []) (Lv row.number) n) n) (sym (found_by b k reads))
        (subst (λ (w : Known). IsBlockKept c group.mib (Some (reading b k reads).status) row (fresh_on (members_in c all_disks group.id group) (Some (reading b k reads).status) row lp) w n) (sym (known-push facts Cut (Lv row.number) n))
        (block_kept s facts next c volumes (reading b k reads).status row lp n one inside (kept_by b k reads row n) all_disks));
    some = λ b k reads lp low.
        subst (λ (o : Option (Stamped Status)). IsSome (fresh_on (members_in c all_disks group.id group) o row lp)) (sym (found_by b k reads))
        (some_fresh s facts next c volumes (reading b k reads).status row lp (lp * partition_blocks group.mib) one
        (record { inside = low; partition = block_of group.mib lp so.size }) (kept_by b k reads row (lp * partition_blocks group.mib)));
  }

  pub serves : DiffersInVolume lv group next → VolumeServes c facts group lv next
  serves differs = record {
    differs = differs;
    stands = volumes.history lv;
    served = λ row one its. served row one;
  }
