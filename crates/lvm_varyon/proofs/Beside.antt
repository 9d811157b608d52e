-- Changes beside the slots of records leave these as they are.
use Rattle.std.proofs.Common.{◌≡◌, ◌⊎◌, inl, inr, ⊎_elim, ℕ, ◌+◌, ◌<◌, ◌≤◌, List, [], Option, Some, None, refl, sym, ap, subst, ◌∙◌, arith}
use Rattle.std.specs.Prelude.{IsSomeAnd}
use Rattle.lvm_num.specs.declared.place.Place.{Place}
use Rattle.lvm_num.specs.declared.record.Kind.{Kind}
use Rattle.lvm_num.specs.declared.record.Kind.TheVariants as kind
use Rattle.lvm_num.specs.declared.record.Stamp.{Stamp}
use Rattle.lvm_num.specs.declared.descriptor.Descriptor.{Descriptor}
use Rattle.lvm_num.specs.declared.status.Status.{Status}
use Rattle.lvm_num.specs.Buffer.{Sector}
use Rattle.lvm_num.specs.Disks.{Disks}
use Rattle.lvm_num.specs.DescriptorBytes.{descriptor_of}
use Rattle.lvm_num.specs.StatusBytes.{status_of}
use Rattle.lvm_num.specs.Geometry.{data_start}
use Rattle.lvm_num.specs.Note.{Noted}
use Rattle.lvm_num.specs.Record.{Stamped, slot_start, slot_size}
use Rattle.lvm_disk.specs.Device.{Media, Image, Flight, Device, IsInFlight, IsCrashImage, image_of}
use Rattle.lvm_disk.specs.Steps.{BothTold}
use Rattle.lvm_kept.specs.Contents.{Contents, contents_of, descriptor_on, status_on, note_sector}
use Rattle.lvm_kept.specs.Group.{Finds, descriptor_among, has_quorum, is_voter}
use Rattle.lvm_kept.proofs.PlacesLemmas.{at-same, newest-same, room-same}
use Rattle.lvm_steps.proofs.MakingLemmas.Making.{media_may}
use Rattle.lvm_varyon.specs.passed.Core.{MayBeFound}
use Rattle.lvm_varyon.specs.passed.Commit.{HoldsCommitted, next_stamp}
use Rattle.lvm_varyon.specs.passed.Recovery.{Recopy, IsOfCopies, ArePlanned}
use Rattle.lvm_varyon.proofs.passed.Recover.{shows_other}
use Rattle.lvm_kept.specs.Plans.{Plan, ChangesBy}
use Rattle.lvm_kept.specs.Torn.{IsOfNote}
use Rattle.lvm_steps.specs.Behind.{StampsBefore, beginning_at, StampsAreEarlier}
use Rattle.lvm_kept.specs.Torn.{IsOutsideSlots}
use Rattle.lvm_steps.specs.Laws.{IsOtherOrEarlier}
use Rattle.lvm_steps.proofs.LawsLemmas.Writes.{changes_widen, earlier_keep_before, notes_and_data_are_outside}
use Rattle.lvm_rec.specs.declared.homes.Homes.{Homes}
use Rattle.lvm_write.specs.Homes.{SparesNewest}
use Rattle.lvm_write.specs.Written.{KeepsShelf}
use Rattle.lvm_write.proofs.WrittenLemmas.Writing.{both_from, both_map, both_then, changes_then, if_told, told_at}
use Rattle.lvm_rec.proofs.SlotsLemmas.Next.{slot_for_same}

-- the sector is a note's, or one of data
abbrev pub IsBesideSlots : Plan
IsBesideSlots d s value = (s ≡ note_sector) ⊎ (data_start ≤ s)

not_beside : (kind : Kind) (slot s : ℕ) → slot < 2 → slot_start kind slot ≤ s → s < slot_start kind slot + slot_size kind → (s ≡ note_sector) ⊎ (data_start ≤ s) → ⊥
not_beside kind.Descriptor slot s two low high (inl note) = omega (arith, two, low, high, note)
not_beside kind.Descriptor slot s two low high (inr data_there) = omega (arith, two, low, high, data_there)
not_beside kind.Status slot s two low high (inl note) = omega (arith, two, low, high, note)
not_beside kind.Status slot s two low high (inr data_there) = omega (arith, two, low, high, data_there)

module _ (old new : Image) (by : ChangesBy IsBesideSlots old new) where
  pub beside_keeps_before : (stamp : Stamp) → StampsBefore stamp old → StampsBefore stamp new
  beside_keeps_before stamp before = earlier_keep_before stamp old new (changes_widen IsBesideSlots (IsOtherOrEarlier stamp) old new (λ d s value beside. inl (λ kind. notes_and_data_are_outside kind d s value beside)) by) before

  same_slots : (kind : Kind) (d slot s : ℕ) → slot < 2 → slot_start kind slot ≤ s → s < slot_start kind slot + slot_size kind → new.sector d s ≡ old.sector d s
  same_slots kind d slot s two low high = ⊎_elim (λ same. same) (λ (beside : IsBesideSlots d s (new.sector d s)). absurd (not_beside kind slot s two low high beside)) (by.each d s)

  pub beside_spares : (homes : Homes) (d : ℕ) → SparesNewest homes old d → SparesNewest homes new d
  beside_spares homes d spares = record {
    descriptor = spares.descriptor ∙ sym (slot_for_same descriptor_of kind.Descriptor (old.sector d) (new.sector d) (same_slots kind.Descriptor d));
    status = spares.status ∙ sym (slot_for_same status_of kind.Status (old.sector d) (new.sector d) (same_slots kind.Status d));
  }

-- planned copies bring data
pub copies_beside : (c : Contents) (group : Descriptor) (status : Option (Stamped Status)) (there : Disks) (copies : List Recopy) → ArePlanned c group status there copies
    → (old : Device) (d s : ℕ) (value : Sector) → IsOfCopies old copies d s value → IsBesideSlots d s value
copies_beside c group status there copies planned old d s value of =
    let p = planned.each of.one of.among in
    let place = ap (λ (x : Place). x.sector) p.into in
    let at = of.its.at.sector in
    inr (omega (arith, place, at))

pub notes_beside : (targets : Disks) (sector : Sector) (d s : ℕ) (value : Sector) → IsOfNote targets sector d s value → IsBesideSlots d s value
notes_beside targets sector d s value of = inl of.place

-- what stands on a shelf stays from before a moment
pub earlier_stays_behind : (moment : ℕ) (T : Disks) (P : Plan) (old new : Device) → ((d s : ℕ) (value : Sector) → P d s value → IsOtherOrEarlier (beginning_at moment) d s value) → KeepsShelf T P old new → StampsAreEarlier moment old → StampsAreEarlier moment new
earlier_stays_behind moment T P old new earlier keeps behind = if_told new.media (λ media. StampsBefore (beginning_at moment) (image_of new.sizes media)) (λ is told.
    let from = both_from old.media new.media (λ was now. ChangesBy P (image_of old.sizes was) (image_of new.sizes now)) is keeps.media told in
    earlier_keep_before (beginning_at moment) (image_of old.sizes from.0) (image_of new.sizes is) (changes_widen P (IsOtherOrEarlier (beginning_at moment)) (image_of old.sizes from.0) (image_of new.sizes is) earlier from.2)
    (told_at old.media (λ m. StampsBefore (beginning_at moment) (image_of old.sizes m)) from.0 from.1 behind))

pub beside_stays_behind : (moment : ℕ) (T : Disks) (P : Plan) (old new : Device) → ((d s : ℕ) (value : Sector) → P d s value → IsBesideSlots d s value) → KeepsShelf T P old new → StampsAreEarlier moment old → StampsAreEarlier moment new
beside_stays_behind moment T P old new beside keeps behind = earlier_stays_behind moment T P old new (λ d s value its. inl (λ kind. notes_and_data_are_outside kind d s value (beside d s value its))) keeps behind

-- what the disks show is the same but for notes and data
module _ (old new : Image) (by : ChangesBy IsBesideSlots old new) where
  pub same_records : contents_of new ≡ record (contents_of old) { note = (contents_of new).note; block = (contents_of new).block }
  unfolding descriptor_on status_on
  same_records =
      let disks : new.disks ≡ old.disks = by.same.disks in
      let size : (d : ℕ) → new.size d ≡ old.size d = by.same.size in
      let descriptors : (d : ℕ) → descriptor_on new d ≡ descriptor_on old d = λ d. at-same descriptor_of kind.Descriptor old new d by.same
      (newest-same descriptor_of kind.Descriptor (old.sector d) (new.sector d) (same_slots old new by kind.Descriptor d)) in
      let statuses : (d : ℕ) → status_on new d ≡ status_on old d = λ d. at-same status_of kind.Status old new d by.same (newest-same status_of kind.Status (old.sector d) (new.sector d) (same_slots old new by kind.Status d)) in
      λ t. record { disks = disks t; size = λ d. size d t; descriptor = λ d. descriptors d t; status = λ d. statuses d t; note = (contents_of new).note; block = (contents_of new).block }

  -- and they hold what they held
  pub beside_holds : (group : Descriptor) (status : Status) (there : Disks) (stamp : Stamp) (homes : Homes) → HoldsCommitted old group status there stamp homes → HoldsCommitted new group status there stamp homes
  beside_holds group status there stamp homes holds = record {
    shows = (shows_other group status there (contents_of old) (contents_of new) same_records holds.shows).0;
    stamps = beside_keeps_before old new by (next_stamp stamp) holds.stamps;
    there = λ d is. room-same old new by.same d ∙ holds.there d is;
    homes = λ d is. beside_spares old new by homes d (holds.homes d is);
  }

-- ---- what is found

-- the sector isn't one of a descriptor's slots
abbrev pub IsBesideDescriptors : Plan
IsBesideDescriptors d s value = IsOutsideSlots kind.Descriptor d s value

pub beside_both : (d s : ℕ) (value : Sector) → IsBesideSlots d s value → IsBesideDescriptors d s value
beside_both d s value beside = notes_and_data_are_outside kind.Descriptor d s value beside

in_no_descriptor : (slot s : ℕ) → slot < 2 → slot_start kind.Descriptor slot ≤ s → s < slot_start kind.Descriptor slot + slot_size kind.Descriptor → (d : ℕ) (value : Sector) → IsBesideDescriptors d s value → ⊥
in_no_descriptor slot s two low high d value (inl below) = omega (arith, two, low, high, below)
in_no_descriptor slot s two low high d value (inr above) = omega (arith, two, low, high, above)

-- of other statuses, other notes and other data
finds_other : (c : Contents) (status : ℕ → Option (Stamped Status)) (note : ℕ → Option Noted) (block : ℕ → ℕ → Sector) (disks : Disks) (id : ℕ) (k : Descriptor) → Finds (record c { status = status; note = note; block = block }) disks id k → Finds c disks id k
unfolding has_quorum is_voter descriptor_among
finds_other c status note block disks id k f = record { quorum = f.quorum; newest = f.newest; found = f.found; is = f.is }

module _ (old new : Image) (by : ChangesBy IsBesideDescriptors old new) where
  same_descriptors : contents_of new ≡ record (contents_of old) { status = (contents_of new).status; note = (contents_of new).note; block = (contents_of new).block }
  unfolding descriptor_on
  same_descriptors =
      let disks : new.disks ≡ old.disks = by.same.disks in
      let size : (d : ℕ) → new.size d ≡ old.size d = by.same.size in
      let descriptors : (d : ℕ) → descriptor_on new d ≡ descriptor_on old d = λ d. at-same descriptor_of kind.Descriptor old new d by.same
      (newest-same descriptor_of kind.Descriptor (old.sector d) (new.sector d)
      (λ slot s two low high. ⊎_elim (λ same. same) (λ (beside : IsBesideDescriptors d s (new.sector d s)). absurd (in_no_descriptor slot s two low high d (new.sector d s) beside)) (by.each d s))) in
      λ t. record { disks = disks t; size = λ d. size d t; descriptor = λ d. descriptors d t; status = (contents_of new).status; note = (contents_of new).note; block = (contents_of new).block }

  finds_before : (disks : Disks) (id : ℕ) (k : Descriptor) → Finds (contents_of new) disks id k → Finds (contents_of old) disks id k
  finds_before disks id k f = finds_other (contents_of old) (contents_of new).status (contents_of new).note (contents_of new).block disks id k (subst (λ (c : Contents). Finds c disks id k) same_descriptors f)

-- So what may be found of a shelf on which nothing is out may be found before changes beside the slots of descriptors.
pub beside_found : (old new : Device) → BothTold old.media new.media (λ was is. ChangesBy IsBesideDescriptors (image_of old.sizes was) (image_of new.sizes is)) → new.flights ≡ [] → (id : ℕ) (k : Descriptor) → MayBeFound new id k → MayBeFound old id k
beside_found old new both still id k (image, left, found) = go old.media new.media refl both left
  where
    go : (o n : Option Media) → old.media ≡ o → BothTold o n (λ was is. ChangesBy IsBesideDescriptors (image_of old.sizes was) (image_of new.sizes is)) → IsSomeAnd n (λ m. IsCrashImage (image_of new.sizes m) new.flights image) → MayBeFound old id k
    go None None told by may = absurd may
    go None (Some n) told by may = absurd by
    go (Some m) None told by may = absurd may
    go (Some m) (Some n) told by may =
        let by_image : ChangesBy IsBesideDescriptors (image_of old.sizes m) image = record {
          same = record { disks = may.same.disks ∙ by.same.disks; size = λ d. may.same.size d ∙ by.same.size d };
          each = λ d s. ⊎_elim
              (λ (is : image.sector d s ≡ n d s). ⊎_elim (λ same. inl (is ∙ same)) (λ (beside : IsBesideDescriptors d s (n d s)). inr (subst (IsBesideDescriptors d s) (sym is) beside)) (by.each d s))
              (λ flying. absurd (subst (λ (l : List Flight). IsInFlight l d s (image.sector d s)) still flying))
              (may.each d s);
        } in
        (image_of old.sizes m, media_may old m told, (found.0, finds_before (image_of old.sizes m) image by_image found.0 id k found.1))

-- two such changes are one
pub wider_told : (old new : Device) (T : Disks) (P : Plan) → ((d s : ℕ) (value : Sector) → P d s value → IsBesideDescriptors d s value) → KeepsShelf T P old new
    → BothTold old.media new.media (λ was is. ChangesBy IsBesideDescriptors (image_of old.sizes was) (image_of new.sizes is))
wider_told old new T P wider keeps = both_map old.media new.media (λ was is. ChangesBy P (image_of old.sizes was) (image_of new.sizes is)) (λ was is. ChangesBy IsBesideDescriptors (image_of old.sizes was) (image_of new.sizes is)) keeps.media
    (λ a b was is by. changes_widen P IsBesideDescriptors (image_of old.sizes a) (image_of new.sizes b) wider by)

pub beside_then : (old mid new : Device) → BothTold old.media mid.media (λ was is. ChangesBy IsBesideDescriptors (image_of old.sizes was) (image_of mid.sizes is))
    → BothTold mid.media new.media (λ was is. ChangesBy IsBesideDescriptors (image_of mid.sizes was) (image_of new.sizes is)) → BothTold old.media new.media (λ was is. ChangesBy IsBesideDescriptors (image_of old.sizes was) (image_of new.sizes is))
beside_then old mid new first last = both_then old.media mid.media new.media
    (λ was is. ChangesBy IsBesideDescriptors (image_of old.sizes was) (image_of mid.sizes is))
    (λ was is. ChangesBy IsBesideDescriptors (image_of mid.sizes was) (image_of new.sizes is))
    (λ was is. ChangesBy IsBesideDescriptors (image_of old.sizes was) (image_of new.sizes is))
    (λ a b c one two. changes_then IsBesideDescriptors (image_of old.sizes a) (image_of mid.sizes b) (image_of new.sizes c) one two)
    first last
