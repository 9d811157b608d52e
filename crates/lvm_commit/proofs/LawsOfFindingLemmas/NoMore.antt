-- What is found is what was found before, or the next descriptor.
use Rattle.std.proofs.Common.{◌≡◌, ◌⊎◌, inl, inr, ⊎_elim, ℕ, ◌<◌, Bool, true, false, ◌&&◌, Option, Some, None, refl, sym, ap, subst, ◌∙◌}
use Rattle.std.specs.Prelude.{IsTrue, if◌then◌else◌}
use Rattle.std.proofs.lemmas.Option.{same_Some}
use Rattle.std.proofs.lemmas.Bool.{eqb-true}
use Rattle.lvm_num.specs.declared.descriptor.Descriptor.{Descriptor}
use Rattle.lvm_num.specs.declared.status.Status.{Status}
use Rattle.lvm_num.specs.Buffer.{Sector}
use Rattle.lvm_num.specs.Disks.{Disks}
use Rattle.lvm_num.specs.Note.{Noted}
use Rattle.lvm_num.specs.Record.{Stamped, stamp_lt, newest_below}
use Rattle.lvm_num.specs.Votes.{votes_in, is_enough_to_read}
use Rattle.lvm_num.proofs.RecordLemmas.Newest.{is_one, is_last}
use Rattle.lvm_disk.specs.Device.{Media, Image, Device, image_of}
use Rattle.lvm_disk.specs.Steps.{BothTold}
use Rattle.lvm_kept.specs.Contents.{Contents, contents_of, data_at}
use Rattle.lvm_kept.specs.Group.{if_passes, passes, is_of, has_room, descriptor_among, is_voter, has_quorum, Finds, IsFound}
use Rattle.lvm_kept.specs.Places.{SameRecords}
use Rattle.lvm_kept.proofs.PlacesLemmas.{data_writes}
use Rattle.lvm_kept.proofs.CommittedLemmas.Finding.{offered, offers, is_offered}
use Rattle.lvm_steps.proofs.RecordLemmas.{either, clash}
use Rattle.lvm_steps.proofs.MakingLemmas.Making.{media_may}
use Rattle.lvm_write.proofs.WrittenLemmas.Writing.{if_told, told_at, both_at}
use Rattle.lvm_commit.specs.LawsOfFinding.{FindsNothingNew, FindsNoMore, DescriptorFindsNoMore, RestFindsNothingNew, FindsNothingNewOn, FindsNoMoreOn, TransferFindsNothingNew}
use Rattle.lvm_kept.proofs.GroupLemmas.{still_finds}
use Rattle.lvm_commit.proofs.LawsOfDataLemmas.Still.{still_image, data_differs}

-- ---- by fewer disks

-- One set of disks shows of a group now what another one showed.
module _ (old : Contents) (shown : ℕ → Option (Stamped Descriptor)) (id : ℕ) (now before : Disks)
    (same : (d : ℕ) → (now d && passes (is_of id) (shown d) ≡ before d && passes (is_of id) (old.descriptor d)) × (offered (is_of id) shown now d ≡ offered (is_of id) old.descriptor before d)) where
  abbrev after : Contents
  after = record old { descriptor = shown }

  among_same : descriptor_among after now id ≡ descriptor_among old before id
  unfolding descriptor_among
  among_same = let here : (d : ℕ) → offered (is_of id) shown now d ≡ offered (is_of id) old.descriptor before d = λ d. (same d).1 in λ t. newest_below (λ d. here d t) old.disks

  voters_same : is_voter after now id ≡ is_voter old before id
  unfolding is_voter
  voters_same = let here : (d : ℕ) → now d && passes (is_of id) (shown d) ≡ before d && passes (is_of id) (old.descriptor d) = λ d. (same d).0 in λ t d. here d t && passes (has_room old d) (among_same t)

  quorum_same : has_quorum after now id ≡ has_quorum old before id
  unfolding has_quorum
  quorum_same = λ t. passes (λ (g : Descriptor). is_enough_to_read g (votes_in g (voters_same t))) (among_same t)

  found_same : (k : Descriptor) → Finds after now id k → Finds old before id k
  found_same k is = record { quorum = sym quorum_same ∙ is.quorum; newest = is.newest; found = sym among_same ∙ is.found; is = is.is }

-- ---- a descriptor

abbrev stays : {A B : Type 0} → A ⊎ B → Bool
stays (inl same) = true
stays (inr put) = false

-- a disk that shows another descriptor now shows none of the group, so it is left out
module _ (id : ℕ) (next : Stamped Descriptor) {T : Type 0} where
  left_out : (among : Bool) (shown was : Option (Stamped Descriptor)) (own : (shown ≡ was) ⊎ (T × (shown ≡ Some next))) → (among ≡ true → shown ≡ Some next → is_of id next.value ≡ false)
      → (among && passes (is_of id) shown ≡ (among && stays own) && passes (is_of id) was) × ((if among then if_passes (is_of id) shown else None) ≡ (if among && stays own then if_passes (is_of id) was else None))
  left_out false shown was own apart = (refl, refl)
  left_out true shown was (inl same) apart = (ap (passes (is_of id)) same, ap (if_passes (is_of id)) same)
  left_out true shown was (inr put) apart =
      let not_its = apart refl put.1 in
      (ap (passes (is_of id)) put.1 ∙ not_its, ap (if_passes (is_of id)) put.1 ∙ ap (λ (t : Bool). if t then Some next else None) not_its)

module _ (old : Contents) (shown : ℕ → Option (Stamped Descriptor)) (targets : Disks) (next : Stamped Descriptor)
    (own : (d : ℕ) → (shown d ≡ old.descriptor d) ⊎ (IsTrue (targets d) × (shown d ≡ Some next))) (id : ℕ) (k : Descriptor) where
  abbrev shows_now : Contents
  shows_now = record old { descriptor = shown }

  -- Where no disk of a quorum shows the next descriptor as one of the group, it was found by those that show the one that they had.
  pub was_found : (set : Disks) → Finds shows_now set id k → ((d : ℕ) → set d ≡ true → shown d ≡ Some next → is_of id next.value ≡ false) → IsFound old id k
  was_found set is apart = (λ d. set d && stays (own d), found_same old shown id set (λ d. set d && stays (own d)) (λ d. left_out id next (set d) (shown d) (old.descriptor d) (own d) (apart d)) k is)

  module _ (within : (d : ℕ) (r : Stamped Descriptor) → shown d ≡ Some r → d < old.disks) (later : (d : ℕ) (r : Stamped Descriptor) → old.descriptor d ≡ Some r → r.value.id ≡ next.value.id → stamp_lt r.stamp next.stamp ≡ true)
      (set : Disks) (is : Finds shows_now set id k) where
    -- an earlier one isn't the newest where the next one is shown
    not_shown : (at : ℕ) → old.descriptor at ≡ Some is.newest → is_of id is.newest.value ≡ true → (d : ℕ) → set d ≡ true → shown d ≡ Some next → is_of id next.value ≡ false
    unfolding descriptor_among
    not_shown at was its d in_set shows = ⊎_elim
        (λ (test : is_of id next.value ≡ true).
        let last = is_last Descriptor (offered (is_of id) shown set) old.disks d next (within d next shows) (offers (is_of id) shown set d next in_set shows test) in
        let same : is.newest ≡ last.0 = same_Some is.newest last.0 (sym is.found ∙ last.1) in
        absurd (clash (stamp_lt is.newest.stamp next.stamp) (later at is.newest was (eqb-true is.newest.value.id id its ∙ sym (eqb-true next.value.id id test)))
        (ap (λ (r : Stamped Descriptor). stamp_lt r.stamp next.stamp) same ∙ last.2)))
        (λ test. test)
        (either (is_of id next.value))

    found_or_next : IsFound old id k ⊎ ((id ≡ next.value.id) × (k ≡ next.value))
    unfolding descriptor_among
    found_or_next =
        let one = is_one Descriptor (offered (is_of id) shown set) old.disks is.newest is.found in
        let from = is_offered (is_of id) shown set one.0 is.newest one.2 in
        ⊎_elim
        (λ (same : shown one.0 ≡ old.descriptor one.0). inl (was_found set is (not_shown one.0 (sym same ∙ from.0) from.1)))
        (λ (put : IsTrue (targets one.0) × (shown one.0 ≡ Some next)).
        let it : is.newest ≡ next = same_Some is.newest next (sym from.0 ∙ put.1) in
        inr (sym (eqb-true is.newest.value.id id from.1) ∙ ap (λ (r : Stamped Descriptor). r.value.id) it, sym is.is ∙ ap (λ (r : Stamped Descriptor). r.value) it))
        (own one.0)

pub descriptor_finds_no_more : DescriptorFindsNoMore
descriptor_finds_no_more targets next old new within later change id k is =
    found_or_next old new.descriptor targets next change.own id k (λ d r shows. subst (λ (c : Contents). d < c.disks) change.rest (within.descriptors d r shows)) later is.0
    (subst (λ (c : Contents). Finds c is.0 id k) change.rest is.1)

-- ---- other records, and data

module _ (c : Contents) (status : ℕ → Option (Stamped Status)) (note : ℕ → Option Noted) (block : ℕ → ℕ → Sector) where
  -- with the other records that it had
  still_found : (id : ℕ) (k : Descriptor) → IsFound (record c { status = status; note = note; block = block }) id k → IsFound c id k
  still_found id k is = (is.0, still_finds (record c { status = status; note = note; block = block }) c.status c.note c.block is.0 id k is.1)

pub rest_finds_nothing_new : RestFindsNothingNew
rest_finds_nothing_new old new rest id k is = still_found old new.status new.note new.block id k (subst (λ (c : Contents). IsFound c id k) rest is)

pub data_finds_nothing_new : (old new : Image) → SameRecords old new → FindsNothingNew (contents_of old) (contents_of new)
data_finds_nothing_new old new same = subst (λ (c : Contents). FindsNothingNew (contents_of old) c) (sym (data_writes old new same)) (rest_finds_nothing_new (contents_of old) (record (contents_of old) { block = data_at new }) refl)

-- ---- on a shelf

pub transfer_finds_nothing_new : TransferFindsNothingNew
transfer_finds_nothing_new f old new still its adds image may =
    let from = adds image may in
    if_told old.media (λ media. FindsNothingNew (contents_of (image_of old.sizes media)) (contents_of image)) (λ media told id k is.
    data_finds_nothing_new (image_of old.sizes media) from.0 (still_image old media told still from.0 from.1) id k
    (data_finds_nothing_new from.0 image (data_differs f its from.0 image from.2) id k is))

-- what makes nothing more found may follow
module _ (old mid new : Device) (R : Media → Media → Type 0) (both : BothTold old.media mid.media R) (further : FindsNothingNewOn mid new) where
  pub then_nothing_new : FindsNothingNewOn old mid → FindsNothingNewOn old new
  then_nothing_new first image may = if_told old.media (λ media. FindsNothingNew (contents_of (image_of old.sizes media)) (contents_of image)) (λ media told id k is.
      let is_mid = both_at old.media mid.media R media both told in
      told_at old.media (λ m. FindsNothingNew (contents_of (image_of old.sizes m)) (contents_of (image_of mid.sizes is_mid.0))) media told (first (image_of mid.sizes is_mid.0) (media_may mid is_mid.0 is_mid.1)) id k
      (told_at mid.media (λ m. FindsNothingNew (contents_of (image_of mid.sizes m)) (contents_of image)) is_mid.0 is_mid.1 (further image may) id k is))

  pub then_no_more : (next : Descriptor) → FindsNoMoreOn next old mid → FindsNoMoreOn next old new
  then_no_more next first image may = if_told old.media (λ media. FindsNoMore next (contents_of (image_of old.sizes media)) (contents_of image)) (λ media told id k is.
      let is_mid = both_at old.media mid.media R media both told in
      told_at old.media (λ m. FindsNoMore next (contents_of (image_of old.sizes m)) (contents_of (image_of mid.sizes is_mid.0))) media told (first (image_of mid.sizes is_mid.0) (media_may mid is_mid.0 is_mid.1)) id k
      (told_at mid.media (λ m. FindsNothingNew (contents_of (image_of mid.sizes m)) (contents_of image)) is_mid.0 is_mid.1 (further image may) id k is))
