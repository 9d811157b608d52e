-- What quorums find once all parts of a beginning stand.
use Rattle.std.proofs.Common.{◌≡◌, inl, inr, ⊎_elim, ℕ, ◌*◌, ◌<◌, ◌≤◌, Bool, true, false, ◌&&◌, length, Option, Some, None, IsTrue, IsFalse, refl, sym, ◌∙◌, ap, subst, eq-eqb, arith}
use Rattle.std.specs.Prelude.{if◌then◌else◌, nat_lt, nat_le}
use Rattle.std.proofs.lemmas.Option.{same_Some}
use Rattle.std.proofs.lemmas.Bool.{eqb-true, and_from, and_parts, cases_Bool}
use Rattle.std.proofs.lemmas.Bool.Decides.{nat_tests}
use Rattle.lvm_num.specs.declared.descriptor.Descriptor.{Descriptor}
use Rattle.lvm_num.specs.declared.status.Status.{Status}
use Rattle.lvm_num.specs.Disks.{Disks}
use Rattle.lvm_num.specs.Geometry.{data_start}
use Rattle.lvm_num.specs.Descriptor.{is_member}
use Rattle.lvm_num.specs.Votes.{all_disks, votes_in, total_votes, CanRead}
use Rattle.lvm_num.specs.Record.{Stamped, stamp_lt, newest_below}
use Rattle.lvm_num.proofs.RecordLemmas.Newest.{is_one, is_last}
use Rattle.lvm_num.proofs.VotesLemmas.{total-some, more_have_more, more_is_enough, read_meets_read}
use Rattle.lvm_num.proofs.Booleans.{clash}
use Rattle.lvm_disk.specs.Device.{Image}
use Rattle.lvm_kept.specs.Contents.{Contents, contents_of}
use Rattle.lvm_kept.specs.Group.{if_passes, passes, is_of, is_status_of, has_room, descriptor_among, is_voter, status_among, Finds, members_in}
use Rattle.lvm_kept.specs.Committed.{IsWithinDisks}
use Rattle.lvm_kept.specs.Torn.{written as as_read, DescriptorsChange}
use Rattle.lvm_kept.proofs.CommittedLemmas.Finding.{offered, offers, is_offered, finding_reads, finds_from, images_within}
use Rattle.lvm_steps.specs.VaryingOn.{HasNewest}
use Rattle.lvm_steps.proofs.VaryingOnLemmas.Following.{restamp_is_newest, newest_stays_newest}
use Rattle.lvm_write.specs.Beginning.{Beginning, describes, states, MayBeginNew, MayBeginAgain}
use Rattle.lvm_write.specs.Shown.{HasBegun}
use Rattle.lvm_write.specs.Newest.{FindsBeginning, AllFindNewest, NewIsFound, AgainIsFound, StatusIsLast}

-- ---- the one record that is offered

module _ {X : Type 0} (of : X → Bool) (shown : ℕ → Option (Stamped X)) (set : Disks) (x : Stamped X) where
  offers_only : (d : ℕ) (r : Stamped X) → ((r : Stamped X) → IsTrue (set d) → shown d ≡ Some r → IsTrue (of r.value) → r ≡ x) → offered of shown set d ≡ Some r → r ≡ x
  offers_only d r only is = by_set (set d) refl (shown d) refl is
    where
      by_set : (t : Bool) → set d ≡ t → (o : Option (Stamped X)) → shown d ≡ o → (if t then if_passes of o else None) ≡ Some r → r ≡ x
      by_set false off o shows is = absurd cc
      by_set true in_set None shows is = absurd cc
      by_set true in_set (Some s) shows is = by_test (of s.value) refl is
        where
          by_test : (u : Bool) → of s.value ≡ u → (if u then Some s else None) ≡ Some r → r ≡ x
          by_test false fails is = absurd cc
          by_test true passed is = let same : s ≡ r = same_Some s r is in sym same ∙ only s in_set shows passed

  pub only_one : (n d : ℕ) → d < n → IsTrue (set d) → shown d ≡ Some x → IsTrue (of x.value) → ((d : ℕ) (r : Stamped X) → IsTrue (set d) → shown d ≡ Some r → IsTrue (of r.value) → r ≡ x) → newest_below (offered of shown set) n ≡ Some x
  only_one n d less in_set shows its only =
      let last = is_last X (offered of shown set) n d x less (offers of shown set d x in_set shows its) in
      let one = is_one X (offered of shown set) n last.0 last.1 in
      last.1 ∙ ap (λ (r : Stamped X). Some r) (offers_only one.0 last.0 (only one.0) one.2)

-- a record passes where it is the one that is shown
passes_of : {X : Type 0} (of : X → Bool) (o : Option (Stamped X)) (x : Stamped X) → o ≡ Some x → IsTrue (of x.value) → IsTrue (passes of o)
passes_of of o x shows its = ap (passes of) shows ∙ its

there_is : (d disks size : ℕ) → IsTrue (nat_lt d disks && nat_le data_start size) → d < disks
there_is d disks size has = let low = (and_parts (nat_lt d disks) (nat_le data_start size) has).0 in grind (arith, nat_tests)

-- ---- all disks together

module _ (c : Contents) (group : Descriptor) (disks : Disks) (newest : Stamped Descriptor) (within : IsWithinDisks c) (some : 1 ≤ length group.pvs) (has : HasNewest c group disks newest) where
  all_enough : CanRead group (members_in c all_disks group.id group)
  all_enough = more_is_enough.read group (votes_in group (members_in c disks group.id group)) (votes_in group (members_in c all_disks group.id group))
      (more_have_more group (members_in c disks group.id group) (members_in c all_disks group.id group)
      (λ d member is.
      let parts = and_parts (disks d && passes (is_of group.id) (c.descriptor d)) (has_room c d group) is in
      and_from (passes (is_of group.id) (c.descriptor d)) (has_room c d group) (and_parts (disks d) (passes (is_of group.id) (c.descriptor d)) parts.0).1 parts.1))
      (finding_reads c disks group.id group has.found).reads.enough

  among_all : descriptor_among c all_disks group.id ≡ Some newest
  unfolding descriptor_among
  among_all =
      let enough = (finding_reads c disks group.id group has.found).reads.enough in
      let common = read_meets_read group (members_in c disks group.id group) (members_in c disks group.id group) some enough enough in
      let d : ℕ = common.0 in
      let shows : c.descriptor d ≡ Some newest = has.have d common.2 in
      let own : IsTrue (is_of group.id newest.value) = eq-eqb newest.value.id group.id (ap (λ (g : Descriptor). g.id) has.value) in
      let last = is_last Descriptor (offered (is_of group.id) c.descriptor all_disks) c.disks d newest (within.descriptors d newest shows) (offers (is_of group.id) c.descriptor all_disks d newest refl shows own) in
      let one = is_one Descriptor (offered (is_of group.id) c.descriptor all_disks) c.disks last.0 last.1 in
      let from = is_offered (is_of group.id) c.descriptor all_disks one.0 last.0 one.2 in
      ⊎_elim
      (λ (low : stamp_lt last.0.stamp newest.stamp ≡ true). absurd (clash (stamp_lt last.0.stamp newest.stamp) low last.2))
      (λ (it : last.0 ≡ newest). last.1 ∙ ap (λ (r : Stamped Descriptor). Some r) it)
      (has.last one.0 last.0 from.0 (eqb-true last.0.value.id group.id from.1))

  pub all_find : Finds c all_disks group.id group
  all_find = subst (λ (g : Descriptor). Finds c all_disks group.id g) has.value
      (finds_from c all_disks group.id newest among_all (subst (λ (g : Descriptor). CanRead g (members_in c all_disks group.id g)) (sym has.value) all_enough))

pub all_find_newest : AllFindNewest
all_find_newest c group disks newest within some has = all_find c group disks newest within some has

-- ---- a status that all voters show

module _ (c : Contents) (b : Beginning) (group : Descriptor) (status : Status) (disks : Disks) (some : 1 ≤ length group.pvs) (own : status.id ≡ group.id)
    (newest : HasNewest c group disks (as_read (describes b) group)) (within : (d : ℕ) → IsTrue (is_voter c disks group.id d) → (d < c.disks) × (c.status d ≡ Some (as_read (states b) status))) where
  abbrev id : ℕ
  id = group.id

  pub status_is_found : status_among c disks id ≡ Some (as_read (states b) status)
  unfolding status_among
  status_is_found =
      let reads = finding_reads c disks id group newest.found in
      let common = read_meets_read group (members_in c disks id group) (members_in c disks id group) some reads.reads.enough reads.reads.enough in
      let d : ℕ = common.0 in
      let voter : IsTrue (is_voter c disks id d) = ap (λ (v : Disks). v d) reads.voters ∙ common.2 in
      only_one (is_status_of id) c.status (is_voter c disks id) (as_read (states b) status) c.disks d (within d voter).0 voter (within d voter).1 (eq-eqb status.id id own)
      (λ e r is shows its. same_Some r (as_read (states b) status) (sym shows ∙ (within e is).1))

-- ---- a new group

can_all_read : (g : Descriptor) → 1 ≤ length g.pvs → CanRead g all_disks
can_all_read g some = by_quorum g.quorum (total_votes g) (total-some g some)
  where
    by_quorum : (q : Bool) (total : ℕ) → 1 ≤ total → IsTrue (if q then nat_lt total (2 * total) else nat_le total total)
    by_quorum true total some = grind (arith, nat_tests)
    by_quorum false total some = grind (arith, nat_tests)

module _ (b : Beginning) (group : Descriptor) (status : Status) (old : Image) (new : Contents) (may : MayBeginNew b group status old) (begun : HasBegun b true group status (contents_of old) new) (own : status.id ≡ group.id)
    (all : (d : ℕ) → IsTrue (is_member group d) → IsTrue (b.targets d)) (room : (d : ℕ) → IsTrue (b.targets d) → IsTrue (has_room (contents_of old) d group)) where
  abbrev new_id : ℕ
  new_id = group.id

  abbrev newest_one : Stamped Descriptor
  newest_one = as_read (describes b) group

  own_id : IsTrue (is_of new_id group)
  own_id = eq-eqb group.id new_id refl

  target_there : (d : ℕ) → IsTrue (b.targets d) → d < new.disks
  target_there d target = subst (λ (c : Contents). d < c.disks) (sym begun.rest) (there_is d old.disks (old.size d) (may.describe.there d target))

  -- no other descriptor of the group is shown
  only_new : (d : ℕ) (r : Stamped Descriptor) → new.descriptor d ≡ Some r → r.value.id ≡ new_id → r ≡ newest_one
  only_new d r shows its = ⊎_elim
      (λ (target : IsTrue (b.targets d)). same_Some r newest_one (sym shows ∙ begun.described d target))
      (λ (other : IsFalse (b.targets d)). absurd (may.make.new_id d r (sym (begun.others d other).0 ∙ shows) its))
      (cases_Bool (b.targets d))

  member_room : (d : ℕ) → IsTrue (b.targets d) → IsTrue (has_room new d group)
  member_room d target = subst (λ (c : Contents). IsTrue (has_room c d group)) (sym begun.rest) (room d target)

  target_member : (d : ℕ) → IsTrue (b.targets d) → IsTrue (members_in new b.targets new_id group d)
  target_member d target = and_from (b.targets d && passes (is_of new_id) (new.descriptor d)) (has_room new d group)
      (and_from (b.targets d) (passes (is_of new_id) (new.descriptor d)) target (passes_of (is_of new_id) (new.descriptor d) newest_one (begun.described d target) own_id))
      (member_room d target)

  can_read : CanRead group (members_in new b.targets new_id group)
  can_read = more_is_enough.read group (votes_in group all_disks) (votes_in group (members_in new b.targets new_id group))
      (more_have_more group all_disks (members_in new b.targets new_id group) (λ d member is. target_member d (all d member)))
      (can_all_read group may.make.a_member)

  descriptor_is_found : descriptor_among new b.targets new_id ≡ Some newest_one
  unfolding descriptor_among
  descriptor_is_found =
      let common = read_meets_read group (members_in new b.targets new_id group) (members_in new b.targets new_id group) may.make.a_member can_read can_read in
      let d : ℕ = common.0 in
      let target : IsTrue (b.targets d) = (and_parts (b.targets d) (passes (is_of new_id) (new.descriptor d)) (and_parts (b.targets d && passes (is_of new_id) (new.descriptor d)) (has_room new d group) common.2).0).0 in
      only_one (is_of new_id) new.descriptor b.targets newest_one new.disks d (target_there d target) target (begun.described d target) own_id (λ e r is shows its. only_new e r shows (eqb-true r.value.id new_id its))

  new_newest : HasNewest new group b.targets newest_one
  new_newest = record {
    found = finds_from new b.targets new_id newest_one descriptor_is_found can_read;
    value = refl;
    have = λ d member. begun.described d (and_parts (b.targets d) (passes (is_of new_id) (new.descriptor d)) (and_parts (b.targets d && passes (is_of new_id) (new.descriptor d)) (has_room new d group) member).0).0;
    last = λ d r shows its. inr (only_new d r shows its);
  }

  pub new_finds : FindsBeginning b group status b.targets new
  unfolding is_voter
  new_finds = record {
    newest = new_newest;
    stated = status_is_found new b group status b.targets may.make.a_member own new_newest
        (λ d voter. let target : IsTrue (b.targets d) = (and_parts (b.targets d) (passes (is_of new_id) (new.descriptor d)) (and_parts (b.targets d && passes (is_of new_id) (new.descriptor d)) (passes (has_room new d) (descriptor_among new b.targets new_id)) voter).0).0 in
        (target_there d target, begun.stated d target));
  }

pub new_is_found : NewIsFound
new_is_found b group status old new may begun own all room = new_finds b group status old new may begun own all room

-- ---- one that was there

module _ (b : Beginning) (forget : Bool) (group : Descriptor) (status : Status) (disks : Disks) (was : Stamped Status) (old : Image) (new : Contents) (may : MayBeginAgain b forget group status disks was old)
    (begun : HasBegun b forget group status (contents_of old) new) where
  abbrev again_id : ℕ
  again_id = group.id

  abbrev newest_again : Stamped Descriptor
  newest_again = as_read (describes b) group

  -- the new descriptors with the old statuses and notes
  abbrev described : Contents
  described = record (contents_of old) { descriptor = new.descriptor }

  change : DescriptorsChange b.targets newest_again (contents_of old) described
  change = record { own = λ d. ⊎_elim (λ target. inr (target, begun.described d target)) (λ other. inl (begun.others d other).0) (cases_Bool (b.targets d)); rest = refl }

  again_newest : HasNewest new group disks newest_again
  again_newest = newest_stays_newest group disks newest_again described new begun.rest
      (restamp_is_newest group disks b.targets newest_again (contents_of old) described (images_within old) may.members may.found may.restamp change (λ d voter. begun.described d (may.voters d voter)))

  shows_same : (d : ℕ) → passes (is_of again_id) (new.descriptor d) ≡ passes (is_of again_id) ((contents_of old).descriptor d)
  shows_same d = ⊎_elim
      (λ (target : IsTrue (b.targets d)). passes_of (is_of again_id) (new.descriptor d) newest_again (begun.described d target) (eq-eqb group.id again_id refl) ∙ sym (may.restamp.showing d target))
      (λ (other : IsFalse (b.targets d)). ap (passes (is_of again_id)) (begun.others d other).0)
      (cases_Bool (b.targets d))

  room_same : (d : ℕ) → has_room new d group ≡ has_room (contents_of old) d group
  room_same d = ap (λ (c : Contents). has_room c d group) begun.rest

  voters_same : is_voter new disks again_id ≡ is_voter (contents_of old) disks again_id
  voters_same = (finding_reads new disks again_id group again_newest.found).voters ∙ (λ t d. disks d && shows_same d t && room_same d t) ∙ sym (finding_reads (contents_of old) disks again_id group may.found).voters

  pub again_finds : FindsBeginning b group status disks new × (is_voter new disks again_id ≡ is_voter (contents_of old) disks again_id)
  again_finds = (
    record {
      newest = again_newest;
      stated = status_is_found new b group status disks may.members may.own again_newest
          (λ d voter. let target : IsTrue (b.targets d) = may.voters d (ap (λ (v : Disks). v d) (sym voters_same) ∙ voter) in
          (subst (λ (c : Contents). d < c.disks) (sym begun.rest) (there_is d old.disks (old.size d) (may.describe.there d target)), begun.stated d target));
    },
    voters_same,
  )

pub again_is_found : AgainIsFound
again_is_found b forget group status disks was old new may begun = again_finds b forget group status disks was old new may begun

-- ---- the last status

pub status_is_last : StatusIsLast
status_is_last b forget group status old new begun later d r shows its = ⊎_elim
    (λ (target : IsTrue (b.targets d)). inr (same_Some r (as_read (states b) status) (sym shows ∙ begun.stated d target)))
    (λ (other : IsFalse (b.targets d)). inl (later d r (sym (begun.others d other).1 ∙ shows) its))
    (cases_Bool (b.targets d))
