-- What a loss of power leaves keeps the history.
use Rattle.std.proofs.Common.{◌≡◌, inl, inr, ⊎_elim, ℕ, ◌*◌, ◌<◌, ◌≤◌, Bool, List, [], ◌∷◌, ◌++◌, length, Option, Some, None, refl, sym, ap, subst, ◌∙◌}
use Rattle.std.specs.Prelude.{IsTrue, ◌==◌, option_map, find, if◌then◌else◌}
use Rattle.std.proofs.lemmas.Option.{same_Some}
use Rattle.std.proofs.lemmas.Bool.{eq-eqb}
use Rattle.lvm_num.specs.declared.descriptor.PvRow.{PvRow}
use Rattle.lvm_num.specs.declared.descriptor.LvRow.{LvRow}
use Rattle.lvm_num.specs.declared.descriptor.Descriptor.{Descriptor}
use Rattle.lvm_num.specs.declared.status.Status.{Status}
use Rattle.lvm_num.specs.Buffer.{Sector}
use Rattle.lvm_num.specs.Disks.{Disks}
use Rattle.lvm_num.specs.Descriptor.{member_of, volume_of}
use Rattle.lvm_num.specs.Geometry.{partition_blocks}
use Rattle.lvm_num.specs.Record.{Stamped}
use Rattle.lvm_num.specs.Votes.{all_disks, CanRead}
use Rattle.lvm_num.specs.Note.{Noted}
use Rattle.lvm_num.proofs.VotesLemmas.{read_meets_read}
use Rattle.lvm_vol.specs.declared.entry.Vol.TheVariants.{Disk, Lv}
use Rattle.lvm_vol.specs.Facts.{Fact, Cut}
use Rattle.lvm_vol.specs.May.{Known, known, cut, May}
use Rattle.lvm_vol.specs.Standing.{Standing, Settled, Open, Absent, Shape, volumes_in}
use Rattle.lvm_vol.proofs.LawsLemmas.Knowing.{known-push}
use Rattle.lvm_kept.specs.Contents.{Contents}
use Rattle.lvm_kept.specs.Group.{is_voter, status_among, Finds, IsFound, members_in, status_by, ReadsGroup, ReadsBy, fresh_on, names_if, IsOneOf, IsSome}
use Rattle.lvm_kept.specs.Kept.{HasStatus, IsBlockKept, BlocksKept, RawAgrees, IsAvailable, StandsAs, Kept}
use Rattle.lvm_kept.specs.Committed.{IsWithinDisks}
use Rattle.lvm_kept.proofs.CommittedLemmas.Finding.{finding_reads}
use Rattle.lvm_kept.proofs.ChangesLemmas.Entries.{volume_is_row}
use Rattle.lvm_kept.proofs.GroupLemmas.{still_finds, finds_before}
use Rattle.lvm_even.proofs.Lists.{by_id}
use Rattle.lvm_invariant.specs.State.{Beside, ModelState}
use Rattle.lvm_invariant.specs.Found.{Votes, Found}
use Rattle.lvm_invariant.specs.Crash.{IsCrash, BlockKept}
use Rattle.lvm_crash.specs.Session.{marks_of, as_marks, marks_shown, view_of, AreVotesOf, OthersStand, HasStatuses, Describes}
use Rattle.lvm_even.specs.Members.{members_showing}
use Rattle.lvm_crash.specs.Left.{MayRemain}
use Rattle.lvm_crash.specs.Laws.{EachViewAgrees, WhatRemainsIsKept}
use Rattle.lvm_crash.proofs.GroupLemmas.Blocks.{block_kept, some_fresh, block_of}
use Rattle.lvm_crash.proofs.LastingLemmas.Statuses.{statuses_last}
use Rattle.lvm_crash.proofs.LawsLemmas.Finding.{FindsStatus, finds_status}

has_status : (rows : List LvRow) (r : Stamped Status) → HasStatus rows (Some r)
has_status [] r = tt
has_status (row ∷ rows) r = refl

its_own : (beside : Option Beside) (id : ℕ) (u : Stamped Status) → u.value.id ≡ id → marks_shown beside id (Some u) ≡ Some (as_marks beside u)
its_own beside id u own = ap (λ (t : Bool). option_map (as_marks beside) (if t then Some u else None)) (eq-eqb u.value.id id own)

-- what stands without a volume in the one group does in the other
stands_without : (a b : Descriptor) → a.lvs ≡ [] → b.lvs ≡ [] → (standing : Standing) (shape : Option Shape) (lv : ℕ) → StandsAs a.mib standing shape (volume_of a lv) → StandsAs b.mib standing shape (volume_of b lv)
stands_without a b none_a none_b standing shape lv stands = subst (StandsAs b.mib standing shape) (sym (no_volume b none_b)) (by_standing standing (subst (StandsAs a.mib standing shape) (no_volume a none_a) stands))
  where
    no_volume : (g : Descriptor) → g.lvs ≡ [] → volume_of g lv ≡ None
    no_volume g none = ap (λ (rows : List LvRow). find (λ (row : LvRow). row.number == lv) rows) none

    by_standing : (standing : Standing) → StandsAs a.mib standing shape None → StandsAs b.mib standing shape None
    by_standing Settled x = x
    by_standing Open x = x
    by_standing Absent x = x

module _ (old : Contents) (status : ℕ → Option (Stamped Status)) (note : ℕ → Option Noted) (block : ℕ → ℕ → Sector) where
  abbrev new : Contents
  new = record old { status = status; note = note; block = block }

  pub before : (disks : Disks) (id : ℕ) (group : Descriptor) → Finds new disks id group → Finds old disks id group
  before = finds_before old status note block

  pub after : (disks : Disks) (id : ℕ) (group : Descriptor) → Finds old disks id group → Finds new disks id group
  after = still_finds old status note block

  found_before : (id : ℕ) (group : Descriptor) → IsFound new id group → IsFound old id group
  found_before id group is = (is.0, before is.0 id group is.1)

  reads_before : (disks : Disks) (id : ℕ) (group : Descriptor) → ReadsGroup new disks id group → ReadsGroup old disks id group
  reads_before disks id group reads = record { found = found_before id group reads.found; enough = reads.enough }

  -- the groups beside one are kept as they were
  pub others_last : (id : ℕ) → OthersStand old id → OthersStand new id
  others_last id others = record {
    common = λ a b other g h apart r t. others.common a b other g h apart (reads_before a other g r) (reads_before b other h t);
    size = λ other g h apart is also. others.size other g h apart (found_before other g is) (found_before other h also);
    partitions = λ other g h apart is also. others.partitions other g h apart (found_before other g is) (found_before other h also);
  }

  module _ (votes : Votes) (s : ModelState) (facts : List Fact) (group : Descriptor) (in_flight : Option (Stamped Status)) (are : AreVotesOf group votes) (stood : Found votes s)
      (agrees : EachViewAgrees s facts) (describes : Describes s facts group in_flight old)
      (remain : MayRemain s group in_flight old new) (within : IsWithinDisks new) where
    -- the session's view of what remains is one that it may leave
    crash : IsCrash s (view_of s.beside group new)
    crash = record {
      block = λ lv b p copy. ⊎_elim (λ same. inl (same ∙ sym (describes.shown.blocks lv b p copy))) (λ brought. inr brought) (remain.blocks lv b p copy);
      names = λ d. ⊎_elim
          (λ same. inl (λ t lv g. (ap (λ (n : Option Noted). names_if n lv g) same ∙ sym (describes.shown.names d lv g)) t))
          (λ is. inr (is.0, is.1, λ t lv g. is.2 lv g t))
          (remain.notes d);
      status = λ d. ⊎_elim
          (λ same. inl (ap (marks_shown s.beside group.id) same ∙ sym (describes.shown.status d)))
          (λ is. inr (as_marks s.beside is.0, describes.shown.statuses.same ∙ ap (option_map (as_marks s.beside)) is.1, is.2, ap (marks_shown s.beside group.id) is.3 ∙ its_own s.beside group.id is.0 (describes.shown.statuses.own is.0 is.1)))
          (remain.statuses d);
    }

    -- a quorum finds this group, or another one where neither has a volume
    one_group : (id : ℕ) (g : Descriptor) → id ≡ group.id → IsFound new id g → g ≡ group
    one_group id g same is = describes.stands.only is.0 g (subst (λ i. Finds old is.0 i g) same (before is.0 id g is.1))

    -- what holds of the group holds of each that is found under its id
    of_found : (P : ℕ → Descriptor → Type 0) → P group.id group → (id : ℕ) (g : Descriptor) → id ≡ group.id → IsFound new id g → P id g
    of_found P here id g same is = subst (λ i. P i g) (sym same) (subst (λ h. P group.id h) (sym (one_group id g same is)) here)

    without_volumes : (id : ℕ) (g : Descriptor) → (id ≡ group.id → ⊥) → IsFound new id g → (group.lvs ≡ []) × (g.lvs ≡ [])
    without_volumes id g apart is = ⊎_elim (λ same. absurd (apart same)) (λ none. none) (describes.stands.alone is.0 id g (before is.0 id g is.1))

    no_row : (id : ℕ) (g : Descriptor) → (id ≡ group.id → ⊥) → IsFound new id g → (row : LvRow) → IsOneOf g.lvs row → ⊥
    no_row id g apart is row one = subst (λ (rows : List LvRow). IsOneOf rows row) (without_volumes id g apart is).1 one

    no_status : (id : ℕ) (g : Descriptor) → (id ≡ group.id → ⊥) → IsFound new id g → (r : Option (Stamped Status)) → HasStatus g.lvs r
    no_status id g apart is r = subst (λ (rows : List LvRow). HasStatus rows r) (sym (without_volumes id g apart is).1) tt

    found : Finds new all_disks group.id group
    found = after all_disks group.id group describes.stands.found

    -- a set that can read finds one of the two statuses
    reading : (disks : Disks) (id : ℕ) (g : Descriptor) → id ≡ group.id → ReadsGroup new disks id g → FindsStatus s group new disks
    reading disks id g same reads = finds_status votes s group new are stood crash within disks
        (subst (λ i. CanRead group (members_in new disks i group)) same (subst (λ h. CanRead h (members_in new disks id h)) (one_group id g same reads.found) reads.enough))

    found_by : (disks : Disks) (id : ℕ) (g : Descriptor) (same : id ≡ group.id) (reads : ReadsGroup new disks id g) → status_by new disks id g ≡ Some (reading disks id g same reads).status
    found_by disks id g same reads = ap (λ h. status_by new disks id h) (one_group id g same reads.found) ∙ ap (λ i. status_by new disks i group) same ∙ (reading disks id g same reads).found

    after_cut : (lv b : ℕ) → known (facts ++ Cut ∷ []) (Lv lv) b ≡ cut b (known facts (Lv lv) b)
    after_cut lv b = known-push facts Cut (Lv lv) b

    -- what a status that may be found says of the blocks
    kept_by : (disks : Disks) (finds : FindsStatus s group new disks) (row : LvRow) (b : ℕ) → BlockKept s (view_of s.beside group new) (marks_of s.beside finds.status.value) (cut b (known facts (Lv row.number) b)) row.number b
    kept_by disks finds row b = agrees (view_of s.beside group new) (marks_of s.beside finds.status.value) row.number b crash finds.possible

    blocks_by : (disks members : Disks) (finds : FindsStatus s group new disks) → BlocksKept new facts group (members_in new members group.id group) (Some finds.status)
    blocks_by disks members finds row lp b one inside =
        subst (λ (k : Known). IsBlockKept new group.mib (Some finds.status) row (fresh_on (members_in new members group.id group) (Some finds.status) row lp) k b) (sym (after_cut row.number b))
        (block_kept s facts group new describes.volumes finds.status row lp b one inside (kept_by disks finds row b) members)

    some_by : (disks : Disks) (finds : FindsStatus s group new disks) (row : LvRow) (lp : ℕ) → IsOneOf group.lvs row → lp < row.lps → IsSome (fresh_on (members_showing new group) (Some finds.status) row lp)
    some_by disks finds row lp one low =
        some_fresh s facts group new describes.volumes finds.status row lp (lp * partition_blocks group.mib) one
        (record { inside = low; partition = block_of group.mib lp describes.stands.size }) (kept_by disks finds row (lp * partition_blocks group.mib))

    -- ---- two sets, of which one finds the status and one the descriptor

    status_there : (b : Disks) (id : ℕ) (h k : Descriptor) → ReadsGroup new b id h → IsFound new id k → HasStatus k.lvs (status_by new b id h)
    status_there b id h k reads is = by_id id group.id
        (λ same. subst (HasStatus k.lvs) (sym (found_by b id h same reads)) (has_status k.lvs (reading b id h same reads).status))
        (λ apart. no_status id k apart is (status_by new b id h))

    across : (b : Disks) (id : ℕ) (h k : Descriptor) → ReadsGroup new b id h → IsFound new id k → BlocksKept new facts k (members_in new all_disks id k) (status_by new b id h)
    across b id h k reads is = by_id id group.id
        (λ same. subst (BlocksKept new facts k (members_in new all_disks id k)) (sym (found_by b id h same reads))
        (of_found (λ i g. BlocksKept new facts g (members_in new all_disks i g) (Some (reading b id h same reads).status)) (blocks_by b all_disks (reading b id h same reads)) id k same is))
        (λ apart row lp block one inside. absurd (no_row id k apart is row one))

    some : (b : Disks) (id : ℕ) (h k : Descriptor) → ReadsGroup new b id h → IsFound new id k → (row : LvRow) (lp : ℕ) → IsOneOf k.lvs row → lp < row.lps
        → IsSome (fresh_on (members_in new all_disks id k) (status_by new b id h) row lp)
    some b id h k reads is row lp one = by_id id group.id
        (λ same. subst (λ o. lp < row.lps → IsSome (fresh_on (members_in new all_disks id k) o row lp)) (sym (found_by b id h same reads))
        (of_found (λ i g. IsOneOf g.lvs row → lp < row.lps → IsSome (fresh_on (members_in new all_disks i g) (Some (reading b id h same reads).status) row lp)) (some_by b (reading b id h same reads) row lp) id k same is one))
        (λ apart low. absurd (no_row id k apart is row one))

    one_group_of : (id : ℕ) (g h : Descriptor) → id ≡ group.id → IsFound new id g → IsFound new id h → g ≡ h
    one_group_of id g h same is also = one_group id g same is ∙ sym (one_group id h same also)

    others : OthersStand new group.id
    others = others_last group.id describes.stands.others

    common : (a b : Disks) (id : ℕ) (g h : Descriptor) → ReadsGroup new a id g → ReadsGroup new b id h → (d : ℕ) × IsTrue (members_in new a id g d) × IsTrue (members_in new b id h d)
    common a b id g h r t = by_id id group.id
        (λ same.
        let as_one : h ≡ g = one_group_of id h g same t.found r.found in
        let both = read_meets_read g (members_in new a id g) (members_in new b id h) (of_found (λ i k. 1 ≤ length k.pvs) describes.stands.a_member id g same r.found) r.enough
        (subst (λ k. CanRead k (members_in new b id h)) as_one t.enough) in
        (both.0, both.2, both.3))
        (λ apart. others.common a b id g h apart r t)

    size : (id : ℕ) (g h : Descriptor) → IsFound new id g → IsFound new id h → g.mib ≡ h.mib
    size id g h is also = by_id id group.id (λ same. ap (λ (k : Descriptor). k.mib) (one_group_of id g h same is also)) (λ apart. others.size id g h apart is also)

    partitions : (id : ℕ) (g h : Descriptor) → IsFound new id g → IsFound new id h → (d : ℕ) (p q : PvRow) → member_of g d ≡ Some p → member_of h d ≡ Some q → p.pps ≡ q.pps
    partitions id g h is also d p q of_g of_h = by_id id group.id
        (λ same. ap (λ (row : PvRow). row.pps) (same_Some p q (sym of_g ∙ ap (λ (k : Descriptor). member_of k d) (one_group_of id g h same is also) ∙ of_h)))
        (λ apart. others.partitions id g h apart is also d p q of_g of_h)

    -- ---- one set, by its own descriptor and its own status

    copies : (disks : Disks) (id : ℕ) (g : Descriptor) → Finds new disks id g → BlocksKept new facts g (is_voter new disks id) (status_among new disks id)
    copies disks id g f =
        let by : ReadsBy new disks id g = finding_reads new disks id g f in
        by_id id group.id
        (λ same.
        let finds = reading disks id g same by.reads in
        subst (λ (v : Disks). BlocksKept new facts g v (status_among new disks id)) (sym by.voters) (subst (BlocksKept new facts g (members_in new disks id g)) (sym (by.status ∙ found_by disks id g same by.reads))
        (of_found (λ i k. BlocksKept new facts k (members_in new disks i k) (Some finds.status)) (blocks_by disks disks finds) id g same by.reads.found)))
        (λ apart row lp b one inside. absurd (no_row id g apart by.reads.found row one))

    there : (disks : Disks) (id : ℕ) (g : Descriptor) → Finds new disks id g → HasStatus g.lvs (status_among new disks id)
    there disks id g f =
        let by : ReadsBy new disks id g = finding_reads new disks id g f in
        subst (HasStatus g.lvs) (sym by.status) (status_there disks id g g by.reads by.reads.found)

    available : IsAvailable new facts
    available =
        let by : ReadsBy new all_disks group.id group = finding_reads new all_disks group.id group found in
        record {
          id = group.id;
          group = group;
          found = found;
          copies = λ lv lp row settled is inside.
              subst (λ (v : Disks). IsSome (fresh_on v (status_among new all_disks group.id) row lp)) (sym by.voters)
              (subst (λ o. IsSome (fresh_on (members_in new all_disks group.id group) o row lp)) (sym by.status)
              (some all_disks group.id group group by.reads by.reads.found row lp (volume_is_row group lv row is) inside));
        }

    volumes : (disks : Disks) (id : ℕ) (g : Descriptor) → Finds new disks id g → (lv : ℕ)
        → StandsAs g.mib (volumes_in facts lv).standing (volumes_in facts lv).shape (volume_of g lv)
    volumes disks id g f lv = by_id id group.id
        (λ same. of_found (λ i k. StandsAs k.mib (volumes_in facts lv).standing (volumes_in facts lv).shape (volume_of k lv)) (describes.volumes.history lv) id g same (disks, f))
        (λ apart. let none = without_volumes id g apart (disks, f) in stands_without group g none.0 none.1 (volumes_in facts lv).standing (volumes_in facts lv).shape lv (describes.volumes.history lv))

    raw : RawAgrees new facts
    raw d b low none from to = subst (May (known (facts ++ Cut ∷ []) (Disk d) b)) (sym (remain.kept.raw d b none from)) (describes.raw d b low none from to)

    statuses : HasStatuses s group in_flight new
    statuses = statuses_last.moves s s group in_flight old new describes.shown.statuses refl refl (λ d. ⊎_elim (λ same. inl same) (λ is. inr (is.0, is.1, is.3)) (remain.statuses d))

    pub kept : Kept new facts
    kept = record {
      agrees = record { volumes = volumes; status = there; copies = copies; raw = raw; available = λ lv settled. available };
      lasting = record {
        common = common;
        status = status_there;
        across = across;
        some = some;
        size = size;
        partitions = partitions;
        descriptors = describes.stands.once;
        statuses = statuses.once;
      };
    }

pub remains_kept : WhatRemainsIsKept
remains_kept votes s facts group in_flight old new are stood agrees describes remain within =
    subst (λ c. Kept c facts) (sym remain.kept.rest)
    (kept old new.status new.note new.block votes s facts group in_flight are stood agrees describes (subst (MayRemain s group in_flight old) remain.kept.rest remain) (subst IsWithinDisks remain.kept.rest within))
