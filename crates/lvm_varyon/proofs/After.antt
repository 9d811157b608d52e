-- What the disks show once the records of a varyon stand.
use Rattle.std.proofs.Common.{◌≡◌, ◌⊎◌, inl, inr, ⊎_elim, ℕ, ◌<◌, Bool, true, false, ◌&&◌, ◌==◌, ◌||◌, List, [], ◌∷◌, Option, Some, refl, sym, ap, subst, ◌∙◌, arith}
use Rattle.std.specs.Prelude.{IsTrue, IsFalse, option_map, IfSome}
use Rattle.std.specs.List.{list_any}
use Rattle.std.proofs.lemmas.Bool.{cases_Bool}
use Rattle.lvm_num.specs.declared.descriptor.PvRow.{PvRow}
use Rattle.lvm_num.specs.declared.descriptor.Descriptor.{Descriptor}
use Rattle.lvm_num.specs.declared.status.Status.{Status}
use Rattle.lvm_num.specs.Disks.{Disks}
use Rattle.lvm_num.specs.Note.{Noted}
use Rattle.lvm_num.specs.Record.{Stamped, stamp_lt}
use Rattle.lvm_num.specs.Votes.{all_disks}
use Rattle.lvm_disk.specs.Device.{Media, Range, Device, image_of}
use Rattle.lvm_vol.specs.Facts.{Fact}
use Rattle.lvm_kept.specs.Contents.{Contents, contents_of, has_records}
use Rattle.lvm_kept.specs.Group.{passes, is_of, has_room, descriptor_among, is_voter, is_named, names_if, Finds}
use Rattle.lvm_kept.specs.Committed.{IsWithinDisks}
use Rattle.lvm_kept.specs.Kept.{Kept}
use Rattle.lvm_kept.specs.Plans.{ChangesBy}
use Rattle.lvm_kept.specs.Recovered.{IsRecordRange}
use Rattle.lvm_kept.specs.Torn.{written as as_read, DescriptorsChange, StatusesChange}
use Rattle.lvm_kept.proofs.CommittedLemmas.Finding.{images_within}
use Rattle.lvm_steps.specs.Behind.{StampsBefore, beginning_at, StampsAreEarlier}
use Rattle.lvm_rec.specs.declared.homes.Homes.{Homes}
use Rattle.lvm_write.specs.Homes.{SparesNewest}
use Rattle.lvm_varyon.specs.passed.Commit.{ShowsCommitted}
use Rattle.lvm_varyon.specs.passed.Recovery.{LogsOnly}
use Rattle.lvm_varyon.proofs.passed.Recovery.{only_planned}
use Rattle.lvm_steps.specs.VaryingOn.{HasNewest}
use Rattle.lvm_steps.proofs.VaryingOnLemmas.Following.{restamp_is_newest}
use Rattle.lvm_steps.proofs.VaryingOnLemmas.VaryingOn.{only_newest_is_found, restamp_keeps, restate_keeps}
use Rattle.lvm_write.specs.Beginning.{Beginning, again_order, describes, states, MayBeginAgain, IsOfParts}
use Rattle.lvm_write.specs.Newest.{FindsBeginning}
use Rattle.lvm_write.specs.Shown.{HasBegun}
use Rattle.lvm_write.proofs.ShownLemmas.Following.{targets_spare_newest, ranges_are_of_records, stamps_are_of_beginning}
use Rattle.lvm_write.proofs.VaryingOnLemmas.{may_restate}
use Rattle.lvm_write.proofs.NewestLemmas.{all_find_newest, again_is_found, status_is_last}
use Rattle.lvm_write.proofs.ShownLemmas.Shown.{again_is_shown, media_by}
use Rattle.lvm_write.specs.Next.{IsNextStatus}
use Rattle.lvm_write.specs.Restated.{Restated}
use Rattle.lvm_varyon.specs.Found.{records_on}
use Rattle.lvm_varyon.specs.Chosen.{answering}
use Rattle.lvm_varyon.specs.Varied.{HasWritten}
use Rattle.lvm_varyon.specs.Writing.{beginning, AllWritten}
use Rattle.lvm_varyon.proofs.GroupLemmas.{same_voters}

-- a disk with room for its partitions is a member
pub room_member : (rows : List PvRow) (d : ℕ) (test : PvRow → Bool) → list_any (λ (row : PvRow). row.disk == d && test row) rows ≡ true → list_any (λ (row : PvRow). row.disk == d) rows ≡ true
room_member [] d test e = e
room_member (row ∷ rows) d test e = by_test (row.disk == d) (test row) e (room_member rows d test)
  where
    by_test : (a b : Bool) → (a && b) || list_any (λ (r : PvRow). r.disk == d && test r) rows ≡ true → (list_any (λ (r : PvRow). r.disk == d && test r) rows ≡ true → list_any (λ (r : PvRow). r.disk == d) rows ≡ true) → a || list_any (λ (r : PvRow). r.disk == d) rows ≡ true
    by_test true b e rest = refl
    by_test false b e rest = rest e

-- a voter has the room that its partitions need
voter_room : (c : Contents) (disks : Disks) (group : Descriptor) → Finds c disks group.id group → (d : ℕ) → IsTrue (is_voter c disks group.id d) → IsTrue (has_room c d group)
unfolding is_voter
voter_room c disks group f d e =
    subst (λ (g : Descriptor). IsTrue (has_room c d g)) f.is
    (subst (λ (o : Option (Stamped Descriptor)). IsTrue (passes (has_room c d) o)) f.found (third (disks d) (passes (is_of group.id) (c.descriptor d)) (passes (has_room c d) (descriptor_among c disks group.id)) e))
  where
    third : (a b e : Bool) → a && b && e ≡ true → e ≡ true
    third true true e is = is
    third true false e is = absurd cc
    third false b e is = absurd cc

-- the group that the name chooses has its records, on its members that answer
abbrev pub HasRecords : Device → Device → List ℕ → ℕ → Homes → Type 0
HasRecords old new name moment homes = HasWritten old new name moment (λ b second copies read. AllWritten b (again_order false) homes read new)

-- they may be written, by what stood on the media
abbrev pub MayHaveRecords : (old new : Device) (name : List ℕ) (moment : ℕ) (homes : Homes) → HasRecords old new name moment homes → Media → Type 0
MayHaveRecords old new name moment homes w was =
    MayBeginAgain (beginning moment w.group w.next (answering w.found.shown w.group) w.writes.homes) false w.group w.next w.found.answered w.was (image_of old.sizes was)

module _ (old new : Device) (name : List ℕ) (moment : ℕ) (homes : Homes) (w : HasRecords old new name moment homes) (was now : Media) (told : old.media ≡ Some was) (told_now : new.media ≡ Some now) (may : MayHaveRecords old new name moment homes w was) where
  abbrev group : Descriptor
  group = w.group

  abbrev targets : Disks
  targets = answering w.found.shown w.group

  abbrev b : Beginning
  b = beginning moment w.group w.next targets w.writes.homes

  abbrev before : Contents
  before = contents_of (image_of old.sizes was)

  abbrev after : Contents
  after = contents_of (image_of new.sizes now)

  abbrev newest : Stamped Descriptor
  newest = as_read (describes b) w.group

  read_told : w.writes.read.media ≡ Some was
  read_told = w.writes.unwritten.media ∙ told

  may_read : MayBeginAgain b false w.group w.next w.found.answered w.was (image_of w.writes.read.sizes was)
  may_read = subst (λ (sizes : List ℕ). MayBeginAgain b false w.group w.next w.found.answered w.was (image_of sizes was)) (sym w.writes.unwritten.sizes) may

  pub begun : HasBegun b false w.group w.next before after
  begun = subst (λ (sizes : List ℕ). HasBegun b false w.group w.next (contents_of (image_of sizes was)) after) w.writes.unwritten.sizes
      (again_is_shown b false w.group w.next w.found.answered w.was w.writes.read new was now (let early = w.chosen.early in omega (arith, early)) read_told told_now may_read w.writes.how.keeps w.writes.how.stand)

  pub found : FindsBeginning b w.group w.next w.found.answered after × (is_voter after w.found.answered w.group.id ≡ is_voter before w.found.answered w.group.id)
  found = again_is_found b false w.group w.next w.found.answered w.was (image_of old.sizes was) after may begun

  pub shown_is : w.found.shown ≡ records_on w.found.answered before
  shown_is = subst (λ (o : Option Media). IfSome o (λ m. w.found.shown ≡ records_on w.found.answered (contents_of (image_of old.sizes m)))) told w.found.told

  -- the targets are the voters
  pub voters : targets ≡ is_voter before w.found.answered w.group.id
  voters = ap (λ (c : Contents). is_voter c all_disks w.group.id) shown_is ∙ same_voters w.found.answered before w.group.id

  abbrev pub restated : Restated before after w.found.answered w.group
  restated = record {
    found = may.found;
    same_disks = ap (λ (c : Contents). c.disks) begun.rest;
    same_sizes = ap (λ (c : Contents). c.size) begun.rest;
    descriptor = ap (option_map (λ (r : Stamped Descriptor). r.value)) (found.0.newest.found.found) ∙ ap (λ (g : Descriptor). Some g) found.0.newest.found.is;
    was = w.was;
    was_found = may.was_found;
    status = as_read (states b) w.next;
    status_found = found.0.stated;
    next = subst (λ (v : Disks). IsNextStatus w.group v w.was w.next) voters w.next_is;
  }

  pub same_data : after.block ≡ before.block
  same_data = ap (λ (c : Contents). c.block) begun.rest

  pub same_names : (d lv track_group : ℕ) → is_named after d lv track_group ≡ is_named before d lv track_group
  same_names d lv track_group = ap (λ (n : Option Noted). names_if n lv track_group) (begun.noted refl d)

  -- ---- the session's disks

  pub target_room : (d : ℕ) → IsTrue (targets d) → IsTrue (has_room after d w.group)
  target_room d target = ap (λ (size : ℕ → ℕ). has_room (record before { size = size }) d w.group) (ap (λ (c : Contents). c.size) begun.rest)
      ∙ voter_room before w.found.answered w.group may.found d (sym (ap (λ (v : Disks). v d) voters) ∙ target)

  pub records_there : (d : ℕ) → IsTrue (targets d) → has_records (image_of new.sizes now) d ≡ true
  records_there d target = ap (λ (sizes : List ℕ). has_records (image_of sizes now) d) (w.writes.how.keeps.sizes ∙ w.writes.unwritten.sizes) ∙ may.describe.there d target

  -- where they kept a history
  abbrev pub shows : (facts : List Fact) → Kept after facts → ShowsCommitted after w.group w.next targets
  shows facts kept = record {
    found = all_find_newest after w.group w.found.answered newest (images_within (image_of new.sizes now)) may.members found.0.newest;
    only = λ disks k f. only_newest_is_found after w.group w.found.answered newest facts (images_within (image_of new.sizes now)) found.0.newest kept k (disks, f);
    descriptor = newest;
    value = refl;
    latest = λ d r e its. found.0.newest.last d r e its;
    described = λ d present. begun.described d present;
    room = λ d present. target_room d present;
    own = w.next_is.id;
    stands = as_read (states b) w.next;
    committed = refl;
    stated = λ d present. begun.stated d present;
    last = λ d r e its. status_is_last b false w.group w.next before after begun may.later d r e its;
  }

  pub stated_on : (d : ℕ) → IsTrue (targets d) → after.status d ≡ Some (as_read (states b) w.next)
  stated_on d target = begun.stated d target

  pub stated_last : (d : ℕ) (r : Stamped Status) → after.status d ≡ Some r → r.value.id ≡ w.group.id → (stamp_lt r.stamp (as_read (states b) w.next).stamp ≡ true) ⊎ (r ≡ as_read (states b) w.next)
  stated_last d r e its = status_is_last b false w.group w.next before after begun may.later d r e its

  -- ---- stamps and slots

  by_parts : ChangesBy (IsOfParts b (again_order false)) (image_of w.writes.read.sizes was) (image_of new.sizes now)
  by_parts = media_by b (again_order false) w.writes.read new was now read_told told_now w.writes.how.keeps

  pub stamps_before : StampsAreEarlier moment old → StampsBefore (record { epoch = moment; seq = 3 }) (image_of new.sizes now)
  stamps_before behind =
      stamps_are_of_beginning b (again_order false) (image_of w.writes.read.sizes was) (image_of new.sizes now) may.describe.frames may.state.frames (refl, omega arith) (refl, omega arith) by_parts
      (subst (λ (sizes : List ℕ). StampsBefore (beginning_at moment) (image_of sizes was)) (sym w.writes.unwritten.sizes)
      (subst (λ (o : Option Media). IfSome o (λ m. StampsBefore (beginning_at moment) (image_of old.sizes m))) told behind))

  pub spares : (d : ℕ) → IsTrue (targets d) → SparesNewest homes (image_of new.sizes now) d
  spares d target = targets_spare_newest b w.group w.next (again_order false) homes w.writes.read new was now read_told told_now may_read.describe may_read.state w.writes.how.keeps w.writes.how.flips d
      target (w.writes.how.stand.0 d target) (w.writes.how.stand.1.0 d target)

  -- ---- ranges

  pub record_ranges : LogsOnly (λ (r : Range). IsTrue (targets r.disk) × IsRecordRange r) w.writes.read.wrote new.wrote
  record_ranges = only_planned (IsOfParts b (again_order false)) (λ (r : Range). IsTrue (targets r.disk) × IsRecordRange r) w.writes.read.wrote new.wrote
      (λ r inside. ranges_are_of_records b (again_order false) r may.describe.frames.content may.state.frames.content inside) w.writes.how.keeps.wrote

  -- ---- what was kept is kept

  -- the descriptors stand, and the statuses are the old ones
  abbrev described : Contents
  described = record before { descriptor = after.descriptor }

  within_described : IsWithinDisks described
  within_described = record {
    descriptors = λ d r e. subst (λ (n : ℕ). d < n) (ap (λ (c : Contents). c.disks) begun.rest) ((images_within (image_of new.sizes now)).descriptors d r e);
    statuses = (images_within (image_of old.sizes was)).statuses;
  }

  describe_change : DescriptorsChange targets newest before described
  describe_change = record {
    own = λ d. ⊎_elim (λ (target : IsTrue (targets d)). inr (target, begun.described d target)) (λ (other : IsFalse (targets d)). inl (begun.others d other).0) (cases_Bool (targets d));
    rest = refl;
  }

  state_change : StatusesChange targets (as_read (states b) w.next) described after
  state_change = record {
    own = λ d. ⊎_elim (λ (target : IsTrue (targets d)). inr (target, begun.stated d target)) (λ (other : IsFalse (targets d)). inl (begun.others d other).1) (cases_Bool (targets d));
    rest = begun.rest ∙ (λ t. record before { descriptor = after.descriptor; status = after.status; note = λ d. begun.noted refl d t });
  }

  pub records_keep : (facts : List Fact) → Kept before facts → Kept after facts
  records_keep facts kept =
      let has : HasNewest described w.group w.found.answered newest = restamp_is_newest w.group w.found.answered targets newest before described (images_within (image_of old.sizes was)) may.members may.found may.restamp describe_change
      (λ d voter. begun.described d (may.voters d voter)) in
      restate_keeps w.group w.found.answered targets newest w.was (as_read (states b) w.next) described after facts within_described
      (may_restate w.group w.found.answered targets newest w.was (as_read (states b) w.next) before described may.found may.restamp describe_change has may.own may.was_found may.marks may.later)
      state_change (restamp_keeps w.group targets newest before described facts (images_within (image_of old.sizes was)) may.restamp describe_change kept)
