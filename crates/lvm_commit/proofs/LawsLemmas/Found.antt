-- What quorums find of a session's group: the committed descriptor and the committed status.
use Rattle.std.proofs.Common.{◌≡◌, ◌⊎◌, inl, inr, ⊎_elim, ℕ, ◌<◌, Bool, true, false, List, Option, Some, refl, sym, ap, subst, ◌∙◌, eq-eqb}
use Rattle.std.specs.Prelude.{IsTrue, []}
use Rattle.std.proofs.lemmas.Option.{same_Some}
use Rattle.std.proofs.lemmas.Bool.{eqb-true}
use Rattle.lvm_num.specs.declared.descriptor.Descriptor.{Descriptor}
use Rattle.lvm_num.specs.declared.status.Status.{Status}
use Rattle.lvm_num.specs.Disks.{Disks}
use Rattle.lvm_num.specs.Votes.{all_disks, CanRead, CanWrite}
use Rattle.lvm_num.specs.Record.{Stamped, stamp_lt, newest_below}
use Rattle.lvm_num.proofs.RecordLemmas.Newest.{is_one, is_last}
use Rattle.lvm_num.proofs.VotesLemmas.{read_meets_write}
use Rattle.lvm_vol.specs.Facts.{Fact}
use Rattle.lvm_kept.specs.Contents.{Contents}
use Rattle.lvm_kept.specs.Group.{passes, is_of, is_status_of, descriptor_among, Finds, IsFound, members_in, status_by, ReadsGroup}
use Rattle.lvm_kept.specs.Committed.{StandsOnSet, DescriptorStands, StatusStands, IsWithinDisks}
use Rattle.lvm_kept.specs.Kept.{Kept}
use Rattle.lvm_kept.proofs.CommittedLemmas.Alike.{shown_by}
use Rattle.lvm_kept.proofs.CommittedLemmas.Finding.{offered, is_offered, offers, finding_reads, finds_descriptor, meets_writers, newest_among}
use Rattle.lvm_steps.proofs.RecordLemmas.{clash}
use Rattle.lvm_commit.specs.Committed.{IsAlike, ShowsCommitted}
use Rattle.lvm_commit.specs.Laws.{OnlyCommittedIsFound, CommittedStatusIsRead, ShownIsOnly}
use Rattle.lvm_steps.proofs.GroupLemmas.Members.{shows_of, parts_of, same_votes}

-- a record that all of these have, and no other one that isn't earlier, stands with itself as the next one
stands_alone : (X : Type 0) (of : X → Bool) (on : ℕ → Option (Stamped X)) (set : Disks) (now : Stamped X) → IsTrue (of now.value) → ((d : ℕ) → IsTrue (set d) → on d ≡ Some now)
    → ((d : ℕ) (r : Stamped X) → on d ≡ Some r → IsTrue (of r.value) → (stamp_lt r.stamp now.stamp ≡ true) ⊎ (r ≡ now)) → StandsOnSet of on set now now
stands_alone X of on set now own have newest = record {
  own = own;
  next_own = own;
  later = inl refl;
  have = λ d i. inl (have d i);
  newest = λ d r is its. ⊎_elim (λ low. inl low) (λ same. inr (inl same)) (newest d r is its);
}

module _ (c : Contents) (group : Descriptor) (status : Status) (there : Disks) (shows : ShowsCommitted c group status there) where
  -- the committed records stand on the members that aren't missing
  pub descriptor_stands : DescriptorStands c group.id there shows.descriptor shows.descriptor
  descriptor_stands =
      stands_alone Descriptor (is_of group.id) c.descriptor there shows.descriptor (eq-eqb shows.descriptor.value.id group.id (ap (λ (g : Descriptor). g.id) shows.value)) shows.described
      (λ d r is its. shows.latest d r is (eqb-true r.value.id group.id its))

  pub status_stands : StatusStands c group.id there shows.stands shows.stands
  status_stands =
      stands_alone Status (is_status_of group.id) c.status there shows.stands (eq-eqb shows.stands.value.id group.id (ap (λ (s : Status). s.id) shows.committed ∙ shows.own)) shows.stated
      (λ d r is its. shows.last d r is (eqb-true r.value.id group.id its))

  -- they show the group
  pub shows_group : (d : ℕ) → IsTrue (there d) → passes (is_of group.id) (c.descriptor d) ≡ true
  shows_group d is = ap (passes (is_of group.id)) (shows.described d is) ∙ eq-eqb shows.descriptor.value.id group.id (ap (λ (g : Descriptor). g.id) shows.value)

  module _ (facts : List Fact) (within : IsWithinDisks c) (enough : CanWrite group there) (kept : Kept c facts) where
    abbrev id : ℕ
    id = group.id

    pub only_found : (k : Descriptor) → IsFound c id k → k ≡ group
    only_found k is = shows.only is.0 k is.1

    pub status_read : (b : Disks) (k : Descriptor) → ReadsGroup c b id k → status_by c b id k ≡ Some shows.stands
    status_read b k reads =
        let can : CanRead group (members_in c b id group) = subst (λ (g : Descriptor). CanRead g (members_in c b id g)) (only_found k reads.found) reads.enough in
        let both = read_meets_write group (members_in c b id group) there can enough in
        subst (λ (g : Descriptor). status_by c b id g ≡ Some shows.stands) (sym (only_found k reads.found)) (⊎_elim
        (λ (it : status_by c b id group ≡ Some shows.stands). it)
        (λ (it : status_by c b id group ≡ Some shows.stands). it)
        (newest_among Status (is_status_of id) c.status (members_in c b id group) there c.disks shows.stands shows.stands status_stands both.0 both.2 both.3 within.statuses))

pub only_committed_is_found : OnlyCommittedIsFound
only_committed_is_found c group status there facts within enough shows kept k is = only_found c group status there shows facts within enough kept k is

pub committed_status_is_read : CommittedStatusIsRead
committed_status_is_read c group status there facts within enough shows kept b k reads = status_read c group status there shows facts within enough kept b k reads

-- ---- a group of which one descriptor is shown

pub shown_is_only : ShownIsOnly
shown_is_only c group one disks k f =
    let shown = shown_by c disks group.id f.newest f.found in
    sym f.is ∙ one shown.0 f.newest shown.1 shown.2
