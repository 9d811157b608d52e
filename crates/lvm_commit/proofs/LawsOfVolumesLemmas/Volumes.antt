-- What lets a volume be committed, and its entries.
use Rattle.std.proofs.Common.{◌≡◌, ℕ, ◌==◌, Bool, true, true≢false, List, [], ◌∷◌, ◌++◌, eq-eqb, refl, sym, ap, subst, ◌∙◌}
use Rattle.std.specs.Prelude.{IsTrue, IsFalse, is_some}
use Rattle.lvm_num.specs.declared.descriptor.Descriptor.{Descriptor}
use Rattle.lvm_num.specs.declared.status.Status.{Status}
use Rattle.lvm_num.specs.Disks.{Disks}
use Rattle.lvm_num.specs.Descriptor.{volume_of}
use Rattle.lvm_num.specs.Status.{calls_stale}
use Rattle.lvm_num.specs.Votes.{all_disks, CanWrite}
use Rattle.lvm_vol.specs.declared.entry.Vol.TheVariants.{Lv}
use Rattle.lvm_vol.specs.Facts.{Fact, Making, Made, Split, Removed}
use Rattle.lvm_kept.specs.Contents.{Contents, contents_of}
use Rattle.lvm_kept.specs.Group.{IsFound, members_in}
use Rattle.lvm_kept.specs.Committed.{IsWithinDisks}
use Rattle.lvm_kept.specs.Kept.{Kept}
use Rattle.lvm_kept.proofs.CommittedLemmas.Finding.{images_within}
use Rattle.lvm_steps.proofs.MomentsLemmas.Spans.{entry_goes_on}
use Rattle.lvm_steps.proofs.VolumeEntriesLemmas.{volume_begins, volume_is_made, volume_is_gone}
use Rattle.lvm_steps.proofs.LawsLemmas.Records.{shown_is_before}
use Rattle.lvm_steps.proofs.LawsLemmas.Stamps.{later_is_after_too}
use Rattle.lvm_commit.specs.Committed.{next_stamp, ShowsCommitted}
use Rattle.lvm_commit.specs.LawsOfVolumes.{NextIsLater, OneServes, CommittedMayCommit, VolumeSplitsInSession, ZerosAreFound, IsOnlyGroup, NamedIsFound, UnnamedIsNotFound, VolumeBeginsInSession, VolumeIsMadeInSession, VolumeIsGoneInSession}
use Rattle.lvm_commit.proofs.LawsLemmas.Found.{shows_group, only_found, status_read}
use Rattle.lvm_steps.proofs.GroupLemmas.Members.{member_of_parts}
use Rattle.lvm_kept.specs.Kept.{StandsAs}
use Rattle.lvm_vol.specs.Standing.{volumes_in}
use Rattle.lvm_parting.proofs.EntryLemmas.{volume_splits}
use Rattle.std.proofs.lemmas.Bool.{eqb-true}

-- ---- the descriptor

pub next_is_later : NextIsLater
next_is_later image group status there stamp next homes whole holds later =
    shown_is_before next image whole (later_is_after_too (next_stamp stamp) next image later holds.stamps)

module _ (c : Contents) (group : Descriptor) (status : Status) (there : Disks) (shows : ShowsCommitted c group status there) where
  -- a member that isn't missing is one among all disks
  is_member : (d : ℕ) → IsTrue (there d) → IsTrue (members_in c all_disks group.id group d)
  is_member d is = member_of_parts c all_disks group.id group d refl (shows_group c group status there shows d is) (shows.room d is)

pub committed_may_commit : CommittedMayCommit
committed_may_commit c group status there targets facts among next shows within later serves = record {
  found = (all_disks, shows.found);
  differs = serves.differs;
  stands = serves.stands;
  served = serves.served;
  showing = λ d target. shows_group c group status there shows d (within d target);
  later = later;
}

pub one_serves : OneServes
one_serves c facts group lv next serves = record {
  differs = record {
    alone = serves.differs.alone;
    rows = λ row one out. serves.differs.rows row one (λ same. true≢false (sym (eq-eqb row.number lv same) ∙ out));
    volumes = λ n out. serves.differs.volumes n (λ same. true≢false (sym (eq-eqb n lv same) ∙ out));
  };
  stands = λ n is. subst (λ (m : ℕ). StandsAs group.mib (volumes_in facts m).standing (volumes_in facts m).shape (volume_of next m)) (sym (eqb-true n lv is)) serves.stands;
  served = λ row one is. serves.served row one (eqb-true row.number lv is);
}

pub zeros_are_found : ZerosAreFound
zeros_are_found c group status there facts row within enough shows kept zeros allowed fresh = record {
  zeros = zeros;
  allowed = allowed;
  found = λ b k reads. (
    shows.stands,
    status_read c group status there shows facts within enough kept b k reads,
    λ lp inside.
        let p = fresh lp inside in
        (p.0, p.1, is_member c group status there shows p.0.disk p.2, subst (λ (s : Status). IsFalse (calls_stale s p.0)) (sym shows.committed) p.3),
  );
}

-- ---- the entries

module _ (c : Contents) (group : Descriptor) (status : Status) (there : Disks) (facts : List Fact) (within : IsWithinDisks c) (enough : CanWrite group there) (shows : ShowsCommitted c group status there) (kept : Kept c facts)
    (only : IsOnlyGroup c group.id) where
  is_group : (id : ℕ) (k : Descriptor) → IsFound c id k → k ≡ group
  is_group id k is = only_found c group status there shows facts within enough kept k (subst (λ (n : ℕ). IsFound c n k) (only id k is) is)

pub named_is_found : NamedIsFound
named_is_found c group status there facts lv within enough shows kept only named = record {
  there = λ id k is. subst (λ (g : Descriptor). IsTrue (is_some (volume_of g lv))) (sym (is_group c group status there facts within enough shows kept only id k is)) named;
  id = group.id;
  group = group;
  found = shows.found;
}

pub unnamed_is_not_found : UnnamedIsNotFound
unnamed_is_not_found c group status there facts lv within enough shows kept only unnamed id k is =
    ap (λ (g : Descriptor). volume_of g lv) (is_group c group status there facts within enough shows kept only id k is) ∙ unnamed

pub volume_begins_in_session : VolumeBeginsInSession
volume_begins_in_session run first device facts group status there lv blocks mode span enough leaves unnamed =
    entry_goes_on run first device facts (Making lv blocks mode) span (λ past begins holds. tt) (λ past begins holds image may. volume_begins (contents_of image) (past ++ facts) lv blocks mode
    (unnamed_is_not_found (contents_of image) group status there (past ++ facts) lv (images_within image) enough (leaves.shows past begins image may) (holds.kept image may) (leaves.only past begins image may) unnamed) (holds.kept image may))

pub volume_splits_in_session : VolumeSplitsInSession
volume_splits_in_session run first device facts group status there from lv span enough leaves unnamed =
    entry_goes_on run first device facts (Split from lv) span (λ past begins holds. tt) (λ past begins holds image may. volume_splits (contents_of image) (past ++ facts) from lv
    (unnamed_is_not_found (contents_of image) group status there (past ++ facts) lv (images_within image) enough (leaves.shows past begins image may) (holds.kept image may) (leaves.only past begins image may) unnamed) (holds.kept image may))

pub volume_is_made_in_session : VolumeIsMadeInSession
volume_is_made_in_session run first device facts group status there lv span enough leaves named is_open =
    entry_goes_on run first device facts (Made lv) span (λ past begins holds. tt) (λ past begins holds image may. volume_is_made (contents_of image) (past ++ facts) lv (is_open past)
    (named_is_found (contents_of image) group status there (past ++ facts) lv (images_within image) enough (leaves.shows past begins image may) (holds.kept image may) (leaves.only past begins image may) named) (holds.kept image may))

pub volume_is_gone_in_session : VolumeIsGoneInSession
volume_is_gone_in_session run first device facts group status there lv span enough leaves unnamed =
    entry_goes_on run first device facts (Removed (Lv lv)) span (λ past begins holds. tt) (λ past begins holds image may. volume_is_gone (contents_of image) (past ++ facts) lv
    (unnamed_is_not_found (contents_of image) group status there (past ++ facts) lv (images_within image) enough (leaves.shows past begins image may) (holds.kept image may) (leaves.only past begins image may) unnamed) (holds.kept image may))
