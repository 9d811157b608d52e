-- Data in a free partition keeps the history.
use Rattle.std.proofs.Common.{◌≡◌, inl, ⊎_elim, ℕ, true, ◌&&◌, List, Option, None, sym, ap, subst, ◌∙◌}
use Rattle.std.specs.Prelude.{IsTrue, not}
use Rattle.std.proofs.lemmas.Option.{none-some}
use Rattle.lvm_num.specs.declared.place.Pp.{Pp}
use Rattle.lvm_num.specs.declared.descriptor.Descriptor.{Descriptor}
use Rattle.lvm_num.specs.declared.status.Status.{Status}
use Rattle.lvm_num.specs.Disks.{Disks}
use Rattle.lvm_num.specs.Descriptor.{copies_of}
use Rattle.lvm_num.specs.Geometry.{sector_of}
use Rattle.lvm_num.specs.Record.{Stamped}
use Rattle.lvm_num.specs.Votes.{all_disks, CanWrite}
use Rattle.lvm_num.proofs.AmongLemmas.{of_passing}
use Rattle.lvm_vol.specs.Facts.{Fact}
use Rattle.lvm_kept.specs.Contents.{Contents}
use Rattle.lvm_kept.specs.Group.{passes, is_of, is_voter, status_among, IsFound, members_in, status_by, ReadsBy, is_stale_by, block_at, IsOneOf}
use Rattle.lvm_kept.specs.Committed.{IsWithinDisks}
use Rattle.lvm_kept.specs.Kept.{Kept}
use Rattle.lvm_kept.specs.Changes.{BlocksChange}
use Rattle.lvm_kept.proofs.ChangesLemmas.Changing.{data_keeps}
use Rattle.lvm_kept.proofs.CommittedLemmas.Finding.{finding_reads}
use Rattle.lvm_steps.proofs.RecordLemmas.{split}
use Rattle.lvm_commit.specs.Committed.{ShowsCommitted}
use Rattle.lvm_commit.specs.LawsOfData.{IsFree, IsSectorOf, PartitionChange, FreeDataKeeps}
use Rattle.lvm_commit.proofs.LawsLemmas.Found.{shows_group, only_found}
use Rattle.lvm_commit.proofs.LawsOfDataLemmas.Free.{none_stands}
use Rattle.lvm_steps.proofs.GroupLemmas.Members.{one_group, parts_of}

module _ (group : Descriptor) (status : Status) (there : Disks) (pp : Pp) (old new : Contents) (facts : List Fact) (within : IsWithinDisks old) (enough : CanWrite group there) (shows : ShowsCommitted old group status there)
    (on_it : IsTrue (there pp.disk)) (free : IsFree group pp) (change : PartitionChange group.mib pp old new) (kept : Kept old facts) where
  -- the disk shows the group
  showing : passes (is_of group.id) (old.descriptor pp.disk) ≡ true
  showing = shows_group old group status there shows pp.disk on_it

  -- so no copy of a volume that is found has other data
  unchanged : (id : ℕ) (k : Descriptor) → IsFound old id k → (set : Disks) → ((d : ℕ) → IsTrue (set d) → passes (is_of id) (old.descriptor d) ≡ true) → (s : Option (Stamped Status)) → BlocksChange old new facts k set s
  unchanged id k is set show s row lp b volume inside = inl (of_passing (λ (p : Pp). block_at new k.mib p b ≡ block_at old k.mib p b) (λ (p : Pp). set p.disk && not (is_stale_by s p)) (copies_of row lp) (λ p one passed. ⊎_elim
      (λ same. same)
      (λ (its : IsSectorOf group.mib pp p.disk (sector_of k.mib p.pp b)). absurd (elsewhere p one (split (set p.disk) (not (is_stale_by s p)) passed).0 its))
      (change.each p.disk (sector_of k.mib p.pp b))))
    where
      elsewhere : (p : Pp) → IsOneOf (copies_of row lp) p → IsTrue (set p.disk) → IsSectorOf group.mib pp p.disk (sector_of k.mib p.pp b) → ⊥
      elsewhere p one in_set its =
          let own : id ≡ group.id = one_group (old.descriptor p.disk) id group.id (show p.disk in_set) (ap (λ (d : ℕ). passes (is_of group.id) (old.descriptor d)) its.disk ∙ showing) in
          let same : k ≡ group = only_found old group status there shows facts within enough kept k (subst (λ (n : ℕ). IsFound old n k) own is) in
          none_stands group pp row lp b p free (subst (λ (g : Descriptor). IsOneOf g.lvs row) same volume) one (subst (λ (g : Descriptor). IsSectorOf group.mib pp p.disk (sector_of g.mib p.pp b)) same its)

  raw_same : (d b : ℕ) → old.descriptor d ≡ None → new.block d b ≡ old.block d b
  raw_same d b none = ⊎_elim
      (λ same. same)
      (λ (its : IsSectorOf group.mib pp d b). absurd (none-some shows.descriptor (sym none ∙ ap old.descriptor its.disk ∙ shows.described pp.disk on_it)))
      (change.each d b)

  pub free_kept : Kept new facts
  free_kept = data_keeps old new facts (record {
    rest = change.rest;
    copies = λ set id k f.
        let reads : ReadsBy old set id k = finding_reads old set id k f in
        unchanged id k (set, f) (is_voter old set id) (λ d is. (parts_of old set id k d (subst (λ (v : Disks). IsTrue (v d)) reads.voters is)).1) (status_among old set id);
    across = λ b id h k reads is. unchanged id k is (members_in old all_disks id k) (λ d is. (parts_of old all_disks id k d is).1) (status_by old b id h);
    raw = λ d b lt none low high. inl (raw_same d b none);
  }) kept

pub free_data_keeps : FreeDataKeeps
free_data_keeps group status there pp old new facts within enough shows on_it free change kept = free_kept group status there pp old new facts within enough shows on_it free change kept
