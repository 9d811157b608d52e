-- A record of the session may be written, and once it stands what is committed is held.
use Rattle.std.proofs.Common.{◌≡◌, ◌⊎◌, inl, inr, ⊎_elim, ℕ, Bool, true, List, Some, Result, Ok, refl, sym, ap, subst, ◌∙◌, arith}
use Rattle.std.specs.Prelude.{IsTrue, not, if◌then◌else◌}
use Rattle.std.proofs.lemmas.Bool.Decides.{nat_tests}
use Rattle.lvm_num.specs.declared.record.Kind.{Kind}
use Rattle.lvm_num.specs.declared.record.Kind.TheVariants as kind
use Rattle.lvm_num.specs.declared.record.Stamp.{Stamp}
use Rattle.lvm_num.specs.declared.record.Framed.{Framed}
use Rattle.lvm_num.specs.declared.descriptor.Descriptor.{Descriptor}
use Rattle.lvm_num.specs.declared.status.Status.{Status}
use Rattle.lvm_num.specs.Disks.{Disks}
use Rattle.lvm_num.specs.DescriptorBytes.{descriptor_of}
use Rattle.lvm_num.specs.StatusBytes.{status_of}
use Rattle.lvm_num.specs.Record.{Frames, stamp_lt}
use Rattle.lvm_num.proofs.Booleans.{place_below, place_turns}
use Rattle.lvm_rec.specs.Slots.{slot_for, IsTornWrite, BothBefore}
use Rattle.lvm_disk.specs.Device.{Image, IsWholeImage}
use Rattle.lvm_kept.specs.Contents.{Contents, contents_of, has_records, descriptor_on, status_on}
use Rattle.lvm_kept.specs.Plans.{ChangesBy}
use Rattle.lvm_kept.specs.Torn.{RecordWrite, on_disk, IsOfRecord, StandsOn, MayWriteAll, written as as_read, StatusesChange, DescriptorsChange}
use Rattle.lvm_kept.proofs.PlacesLemmas.{room-same}
use Rattle.lvm_kept.proofs.CommittedLemmas.Finding.{images_within}
use Rattle.lvm_kept.proofs.TornLemmas.Records.{descriptor_shows, status_shows, wider, whole_is_new}
use Rattle.lvm_parting.proofs.AmongLemmas.{commit_among_keeps}
use Rattle.lvm_rec.specs.declared.homes.Homes.{Homes}
use Rattle.lvm_rec.specs.Homes.{second_slots, next_slot}
use Rattle.lvm_write.specs.Written.{write_of}
use Rattle.lvm_write.specs.Shows.{IsSlotFit}
use Rattle.lvm_write.proofs.ShowsLemmas.{descriptor_may_be_written, status_may_be_written}
use Rattle.lvm_steps.specs.Behind.{StampsBefore}
use Rattle.lvm_steps.specs.Laws.{IsNoLater}
use Rattle.lvm_steps.proofs.LawsLemmas.Records.{later_may_go}
use Rattle.lvm_steps.proofs.LawsLemmas.Stamps.{later_is_after_too}
use Rattle.lvm_steps.proofs.LawsLemmas.Writes.{record_is_before_next}
use Rattle.lvm_commit.specs.Committed.{next_stamp, HoldsCommitted}
use Rattle.lvm_commit.specs.LawsOfVolumes.{LeavesOthers}
use Rattle.lvm_commit.specs.LawsOfWrites.{StatusMayGo, DescriptorMayGo, StatusWriteKeeps, DescriptorWriteKeeps, StandsWritten, StatusIsHeld, DescriptorIsHeld, StatusWriteLeavesOthers, DescriptorWriteLeavesOthers}
use Rattle.lvm_commit.proofs.LawsLemmas.Committed.{status_is_committed, descriptor_is_committed}
use Rattle.lvm_commit.proofs.LawsOfVolumesLemmas.Others.{descriptor_leaves_others, rest_leaves_others}
use Rattle.lvm_commit.proofs.SlotsLemmas.{other_kind, turned}
use Rattle.lvm_commit.proofs.LawsLemmas.Statuses.{status_follows}
use Rattle.lvm_commit.proofs.LawsOfVolumesLemmas.Volumes.{next_is_later, committed_may_commit}

-- ---- numbers and slots

before_next : (s : Stamp) → stamp_lt s (next_stamp s) ≡ true
before_next s = grind (arith, nat_tests)

differ : kind.Descriptor ≡ kind.Status → ⊥
differ e = absurd cc

-- ---- a record of the session

module _ (image : Image) (group : Descriptor) (status : Status) (there : Disks) (stamp : Stamp) (homes : Homes) (whole : IsWholeImage image) (holds : HoldsCommitted image group status there stamp homes)
    (which : Kind) (framed : Framed) (later : IsNoLater (next_stamp stamp) framed.stamp) where
  abbrev w : RecordWrite
  w = write_of which framed there homes

  both_before : (d : ℕ) → IsTrue (there d) → BothBefore (on_disk w d) (image.sector d)
  both_before d is = later_may_go w (next_stamp stamp) image d whole holds.stamps later (holds.there d is)

  fit : (d : ℕ) → IsTrue (there d) → IsSlotFit w homes image d
  fit d is = (holds.there d is, holds.homes d is, both_before d is)

  -- all stamps are then before the next one
  stamps_then : (new : Image) → Frames which framed → ChangesBy (IsOfRecord w) image new → StampsBefore (next_stamp framed.stamp) new
  stamps_then new frames by = record_is_before_next w (next_stamp framed.stamp) image new frames (before_next framed.stamp) by (later_is_after_too (next_stamp stamp) framed.stamp image later holds.stamps)

  module _ (written : Disks) (after : Homes) (new : Image) (frames : Frames which framed) (stands : StandsWritten w written homes after image new) (d : ℕ) (is : IsTrue (written d)) where
    on : IsTrue (there d)
    on = stands.targets d is

    torn : IsTornWrite (on_disk w d) (image.sector d) (new.sector d)
    torn s = ⊎_elim (λ same. inl same) (λ (of : IsOfRecord w d s (new.sector d s)). inr of.its) (stands.changes.each d s)

    flipped : next_slot which after d ≡ (if not (second_slots which homes d) then 1 else 0)
    flipped = ap (λ (t : Bool). if t then 1 else 0) (stands.flips.own d ∙ ap (λ (t : Bool). if t then not (second_slots which homes d) else second_slots which homes d) is)

    -- the slot that comes next spares the newest
    own_spared : (X : Type 0) (content_of : List ℕ → Result X ℕ) (x : X) → content_of framed.content ≡ Ok x → next_slot which after d ≡ slot_for content_of which (new.sector d)
    own_spared X content_of x reads = flipped ∙ place_turns (second_slots which homes d) (slot_for content_of which (new.sector d))
        (turned (on_disk w d) (image.sector d) (new.sector d) frames (place_below (second_slots which homes d)) torn X content_of x reads (both_before d on) (stands.stands d is))

    other_spared : (X : Type 0) (content_of : List ℕ → Result X ℕ) (other : Kind) → (other ≡ which → ⊥) → next_slot other homes d ≡ slot_for content_of other (image.sector d) → next_slot other after d ≡ slot_for content_of other (new.sector d)
    other_spared X content_of other apart spares = ap (λ (t : Bool). if t then 1 else 0) (stands.flips.other other apart d) ∙ spares
        ∙ sym (other_kind (on_disk w d) (image.sector d) (new.sector d) frames (place_below (second_slots which homes d)) torn content_of other apart)

    has_records_then : has_records new d ≡ true
    has_records_then = room-same image new stands.changes.same d ∙ holds.there d on

-- ---- a status

pub status_may_go : StatusMayGo
status_may_go image group status next there stamp homes framed whole holds frames reads later =
    status_may_be_written framed next there homes image frames reads (fit image group status there stamp homes whole holds kind.Status framed later)

module _ (group : Descriptor) (status next : Status) (there : Disks) (stamp : Stamp) (homes : Homes) (framed : Framed) (old : Image) (whole : IsWholeImage old) (holds : HoldsCommitted old group status there stamp homes)
    (frames : Frames kind.Status framed) (reads : status_of framed.content ≡ Ok next) (later : IsNoLater (next_stamp stamp) framed.stamp) (new : Image) (by : ChangesBy (IsOfRecord (write_of kind.Status framed there homes)) old new) where
  abbrev status_write : RecordWrite
  status_write = write_of kind.Status framed there homes

  may_state : MayWriteAll Status status_of status_write next old
  may_state = status_may_go old group status next there stamp homes framed whole holds frames reads later

  pub statuses_change : StatusesChange there (as_read status_write next) (contents_of old) (contents_of new)
  statuses_change = status_shows status_write next old new refl may_state by

  status_stands : (d : ℕ) → IsTrue (there d) → StandsOn status_write new d → status_on new d ≡ Some (as_read status_write next)
  unfolding status_on
  status_stands d is stands = whole_is_new Status status_of status_write next old new d may_state (wider status_write old new frames may_state.slots by) is stands

pub status_write_keeps : StatusWriteKeeps
status_write_keeps group status next there stamp homes framed old new facts whole enough holds frames reads own marks later by kept =
    status_follows group status there there (as_read (write_of kind.Status framed there homes) next) (contents_of old) (contents_of new) facts (images_within old)
    (record {
      enough = enough;
      shows = holds.shows;
      showing = λ d is. is;
      own = own;
      marks = marks;
      later = λ d r shows its. (next_is_later old group status there stamp framed.stamp homes whole holds later).statuses d r shows;
    })
    (statuses_change group status next there stamp homes framed old whole holds frames reads later new by) kept

pub status_is_held : StatusIsHeld
status_is_held group status next there written stamp homes after framed old new whole holds frames reads own later stands = record {
  shows = status_is_committed group status there there written (as_read (write_of kind.Status framed there homes) next) (contents_of old) (contents_of new) holds.shows own
      (λ d r shows its. (next_is_later old group status there stamp framed.stamp homes whole holds later).statuses d r shows)
      (statuses_change group status next there stamp homes framed old whole holds frames reads later new stands.changes)
      stands.targets
      (λ d is. status_stands group status next there stamp homes framed old whole holds frames reads later new stands.changes d (stands.targets d is) (stands.stands d is));
  stamps = stamps_then old group status there stamp homes whole holds kind.Status framed later new frames stands.changes;
  there = λ d is. has_records_then old group status there stamp homes whole holds kind.Status framed later written after new frames stands d is;
  homes = λ d is. record {
    descriptor = other_spared old group status there stamp homes whole holds kind.Status framed later written after new frames stands d is Descriptor descriptor_of kind.Descriptor differ (holds.homes d (stands.targets d is)).descriptor;
    status = own_spared old group status there stamp homes whole holds kind.Status framed later written after new frames stands d is Status status_of next reads;
  };
}

pub status_write_leaves_others : StatusWriteLeavesOthers
status_write_leaves_others group status next there stamp homes framed old new whole holds frames reads later by =
    subst (λ (c : Contents). LeavesOthers (contents_of old) c group.id) (sym (statuses_change group status next there stamp homes framed old whole holds frames reads later new by).rest)
    (rest_leaves_others group.id (contents_of old) (record (contents_of old) { status = status_on new }) refl)

-- ---- a descriptor

pub descriptor_may_go : DescriptorMayGo
descriptor_may_go image group next status there stamp homes framed whole holds frames reads later =
    descriptor_may_be_written framed next there homes image frames reads (fit image group status there stamp homes whole holds kind.Descriptor framed later)

module _ (group next : Descriptor) (status : Status) (there : Disks) (stamp : Stamp) (homes : Homes) (framed : Framed) (old : Image) (whole : IsWholeImage old) (holds : HoldsCommitted old group status there stamp homes)
    (frames : Frames kind.Descriptor framed) (reads : descriptor_of framed.content ≡ Ok next) (later : IsNoLater (next_stamp stamp) framed.stamp) (new : Image)
    (by : ChangesBy (IsOfRecord (write_of kind.Descriptor framed there homes)) old new) where
  abbrev descriptor_write : RecordWrite
  descriptor_write = write_of kind.Descriptor framed there homes

  may_describe : MayWriteAll Descriptor descriptor_of descriptor_write next old
  may_describe = descriptor_may_go old group next status there stamp homes framed whole holds frames reads later

  pub descriptors_change : DescriptorsChange there (as_read descriptor_write next) (contents_of old) (contents_of new)
  descriptors_change = descriptor_shows descriptor_write next old new refl may_describe by

  descriptor_stands : (d : ℕ) → IsTrue (there d) → StandsOn descriptor_write new d → descriptor_on new d ≡ Some (as_read descriptor_write next)
  unfolding descriptor_on
  descriptor_stands d is stands = whole_is_new Descriptor descriptor_of descriptor_write next old new d may_describe (wider descriptor_write old new frames may_describe.slots by) is stands

pub descriptor_write_keeps : DescriptorWriteKeeps
descriptor_write_keeps group next among status there stamp homes framed old new facts whole holds frames reads serves later by kept =
    commit_among_keeps group among there (as_read (write_of kind.Descriptor framed there homes) next) (contents_of old) (contents_of new) facts (images_within old)
    (committed_may_commit (contents_of old) group status there there facts among (as_read (write_of kind.Descriptor framed there homes) next) holds.shows (λ d is. is)
    (λ d r shows its. (next_is_later old group status there stamp framed.stamp homes whole holds later).descriptors d r shows) serves)
    (descriptors_change group next status there stamp homes framed old whole holds frames reads later new by) kept

pub descriptor_is_held : DescriptorIsHeld
descriptor_is_held group next status there written stamp homes after framed old new whole holds frames reads alike later stands enough = record {
  shows = descriptor_is_committed group status there there written (as_read (write_of kind.Descriptor framed there homes) next) (contents_of old) (contents_of new) (images_within old) holds.shows alike
      (λ d r shows its. (next_is_later old group status there stamp framed.stamp homes whole holds later).descriptors d r shows)
      (descriptors_change group next status there stamp homes framed old whole holds frames reads later new stands.changes)
      (λ d is. is) stands.targets
      (λ d is. descriptor_stands group next status there stamp homes framed old whole holds frames reads later new stands.changes d (stands.targets d is) (stands.stands d is))
      enough;
  stamps = stamps_then old group status there stamp homes whole holds kind.Descriptor framed later new frames stands.changes;
  there = λ d is. has_records_then old group status there stamp homes whole holds kind.Descriptor framed later written after new frames stands d is;
  homes = λ d is. record {
    descriptor = own_spared old group status there stamp homes whole holds kind.Descriptor framed later written after new frames stands d is Descriptor descriptor_of next reads;
    status = other_spared old group status there stamp homes whole holds kind.Descriptor framed later written after new frames stands d is Status status_of kind.Status (λ e. differ (sym e)) (holds.homes d (stands.targets d is)).status;
  };
}

pub descriptor_write_leaves_others : DescriptorWriteLeavesOthers
descriptor_write_leaves_others group next status there stamp homes framed old new whole holds frames reads own later by =
    descriptor_leaves_others group.id there (as_read (write_of kind.Descriptor framed there homes) next) (contents_of old) (contents_of new) own
    (descriptors_change group next status there stamp homes framed old whole holds frames reads later new by)
