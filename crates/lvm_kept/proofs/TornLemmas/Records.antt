-- A record that is being written to some disks, whatever else is.
use Rattle.std.proofs.Common.{◌≡◌, ◌⊎◌, inl, inr, ⊎_elim, ℕ, ◌+◌, ◌-◌, ◌<◌, ◌≤◌, Bool, true, false, ◌&&◌, List, length, take, Option, Some, None, Result, refl, sym, ap, subst, ◌∙◌, arith}
use Rattle.std.specs.Prelude.{IsTrue, IsFalse, nat_le, nat_lt, if◌then◌else◌}
use Rattle.std.proofs.lemmas.Bool.{cases_Bool}
use Rattle.std.proofs.lemmas.Bool.Decides.{nat_tests}
use Rattle.lvm_disk.specs.passed.Num.{Stamp, Kind, Descriptor, Status, Sector, data_start, descriptor_of, status_of, Frames, Stamped, frame, record_sectors, slot_start, slot_size, stamp_lt, Sectors, AllBefore, stamp_of}
use Rattle.lvm_disk.specs.passed.NumRecordKind as kind
use Rattle.lvm_disk.proofs.passed.Num.{sectors-fit}
use Rattle.lvm_rec.specs.Slots.{newest_on, IsOfSlot, IsTornWrite}
use Rattle.lvm_rec.proofs.SlotsLemmas.SlotLaws.{slots-apart, newest_stays_or_is_new, whole_is_newest, keeps_before}
use Rattle.lvm_disk.specs.Device.{Image}
use Rattle.lvm_kept.specs.Contents.{newest_at, descriptor_on, status_on, note_on, note_sector, contents_of}
use Rattle.lvm_kept.specs.Plans.{ChangesBy}
use Rattle.lvm_kept.specs.Torn.{NewestStays, RecordWrite, on_disk, IsOfRecord, IsOtherOrRecord, StandsOn, MayWriteAll, written, NewestIsOldOrNew, WholeIsNew, DescriptorWriteShows, StatusWriteShows, EarlierStaysBefore}
use Rattle.lvm_kept.proofs.PlacesLemmas.{room-same, newest-same, at-same, note-same, data-same}
pub use Rattle.lvm_disk.proofs.passed.Num.{clash as never}

-- ---- places

-- whether a sector is in one of the kind's slots
abbrev pub inside : Kind → ℕ → Bool
inside kind s = nat_le (slot_start kind 0) s && nat_lt s (slot_start kind 1 + slot_size kind)

inside-slot : (kind : Kind) (slot s : ℕ) → slot < 2 → slot_start kind slot ≤ s → s < slot_start kind slot + slot_size kind → inside kind s ≡ true
inside-slot kind.Descriptor slot s two low high = grind (arith, nat_tests)
inside-slot kind.Status slot s two low high = grind (arith, nat_tests)

not-below : (a b s : ℕ) → nat_le a s && nat_lt s b ≡ true → (s < a) ⊎ (b ≤ s) → ⊥
not-below a b s is (inl lt) = grind (arith, nat_tests)
not-below a b s is (inr le) = grind (arith, nat_tests)

pub slot-above : (kind : Kind) (slot k : ℕ) → note_sector < slot_start kind slot + k
slot-above kind.Descriptor slot k = omega arith
slot-above kind.Status slot k = omega arith

slot-below : (kind : Kind) (slot k : ℕ) → slot < 2 → k < slot_size kind → slot_start kind slot + k < data_start
slot-below kind.Descriptor slot k two lt = omega arith
slot-below kind.Status slot k two lt = omega arith

slot-from : (kind : Kind) (slot k : ℕ) → slot_start kind 0 ≤ slot_start kind slot + k
slot-from kind.Descriptor slot k = omega arith
slot-from kind.Status slot k = omega arith

slot-to : (kind : Kind) (slot k : ℕ) → slot < 2 → k < slot_size kind → slot_start kind slot + k < slot_start kind 1 + slot_size kind
slot-to kind.Descriptor slot k two lt = omega arith
slot-to kind.Status slot k two lt = omega arith

-- what a plan brings to the place of a part of the record is that part
pub part_is : (w : RecordWrite) (d part : ℕ) (value : Sector) → Frames w.kind w.framed → w.slots d < 2 → part < record_sectors (length w.framed.content)
    → IsOtherOrRecord w d (slot_start w.kind (w.slots d) + part) value → value ≡ frame w.kind w.framed.stamp w.framed.content part
part_is w d part value frames two lt (inl below) = absurd (omega (arith, below, slot-from w.kind (w.slots d) part))
part_is w d part value frames two lt (inr (inl above)) =
    absurd (omega (arith, above, slot-to w.kind (w.slots d) part two (omega (arith, lt, sectors-fit w.kind (length w.framed.content) frames.content))))
part_is w d part value frames two lt (inr (inr of)) = of.its.is ∙ ap (frame w.kind w.framed.stamp w.framed.content) (omega (arith, of.its.place))

-- ---- one disk

module _ (w : RecordWrite) (old new : Image) (by : ChangesBy (IsOtherOrRecord w) old new) (d : ℕ) where
  -- the slots of the kind as they are now, and all else as it was
  abbrev slots_only : Sectors
  slots_only s = if inside w.kind s then new.sector d s else old.sector d s

  choose : (s : ℕ) (t : Bool) → inside w.kind s ≡ t → (new.sector d s ≡ old.sector d s) ⊎ IsOtherOrRecord w d s (new.sector d s)
      → ((if t then new.sector d s else old.sector d s) ≡ old.sector d s) ⊎ IsOfSlot (on_disk w d) s (if t then new.sector d s else old.sector d s)
  choose s true is (inl same) = inl same
  choose s true is (inr (inl lt)) = absurd (not-below (slot_start w.kind 0) (slot_start w.kind 1 + slot_size w.kind) s is (inl lt))
  choose s true is (inr (inr (inl le))) = absurd (not-below (slot_start w.kind 0) (slot_start w.kind 1 + slot_size w.kind) s is (inr le))
  choose s true is (inr (inr (inr of))) = inr of.its
  choose s false is which = inl refl

  torn : IsTornWrite (on_disk w d) (old.sector d) slots_only
  torn s = choose s (inside w.kind s) refl (by.each d s)

  in_slot : (slot s : ℕ) → slot < 2 → slot_start w.kind slot ≤ s → s < slot_start w.kind slot + slot_size w.kind → new.sector d s ≡ slots_only s
  in_slot slot s two low high = sym (ap (λ b. if b then new.sector d s else old.sector d s) (inside-slot w.kind slot s two low high))

  pub stays_before : (stamp : Stamp) → Frames w.kind w.framed → stamp_lt w.framed.stamp stamp ≡ true → (slot : ℕ) → slot < 2 → AllBefore w.kind stamp (slot_start w.kind slot) (old.sector d) → AllBefore w.kind stamp (slot_start w.kind slot) (new.sector d)
  stays_before stamp frames lt slot two before k small magic =
      let same : new.sector d (slot_start w.kind slot + k) ≡ slots_only (slot_start w.kind slot + k) = in_slot slot (slot_start w.kind slot + k) two (omega arith) (omega (arith, small)) in
      ap (λ (x : Sector). stamp_lt (stamp_of x) stamp) same ∙ keeps_before (on_disk w d) stamp (old.sector d) slots_only frames torn lt w.kind slot before k small (ap (take 2) (sym same) ∙ magic)

  same_newest : {X : Type 0} (content_of : List ℕ → Result X ℕ) → newest_on content_of w.kind (new.sector d) ≡ newest_on content_of w.kind slots_only
  same_newest content_of = newest-same content_of w.kind slots_only (new.sector d) in_slot

  no_target : (s : ℕ) (t : Bool) → inside w.kind s ≡ t → IsFalse (w.targets d) → (new.sector d s ≡ old.sector d s) ⊎ IsOtherOrRecord w d s (new.sector d s)
      → (if t then new.sector d s else old.sector d s) ≡ old.sector d s
  no_target s true is outside (inl same) = same
  no_target s true is outside (inr (inl lt)) = absurd (not-below (slot_start w.kind 0) (slot_start w.kind 1 + slot_size w.kind) s is (inl lt))
  no_target s true is outside (inr (inr (inl le))) = absurd (not-below (slot_start w.kind 0) (slot_start w.kind 1 + slot_size w.kind) s is (inr le))
  no_target s true is outside (inr (inr (inr of))) = absurd (never (w.targets d) of.target outside)
  no_target s false is outside which = refl

  stays : {X : Type 0} (content_of : List ℕ → Result X ℕ) → IsFalse (w.targets d) → newest_at content_of w.kind new d ≡ newest_at content_of w.kind old d
  stays content_of outside = at-same content_of w.kind old new d by.same (same_newest content_of
      ∙ newest-same content_of w.kind (old.sector d) slots_only (λ slot s two low high. no_target s (inside w.kind s) refl outside (by.each d s)))

  module _ (X : Type 0) (content_of : List ℕ → Result X ℕ) (x : X) (may : MayWriteAll X content_of w x old) where
    lies : (k : ℕ) → k < record_sectors (length w.framed.content) → new.sector d (slot_start w.kind (w.slots d) + k) ≡ slots_only (slot_start w.kind (w.slots d) + k)
    lies k lt = in_slot (w.slots d) (slot_start w.kind (w.slots d) + k) (may.slots d) (omega arith) (omega (arith, lt, sectors-fit w.kind (length w.framed.content) may.frames.content))

    at_new : IsTrue (w.targets d) → newest_at content_of w.kind new d ≡ newest_on content_of w.kind (new.sector d)
    at_new t = ap (λ b. if b then newest_on content_of w.kind (new.sector d) else None) (room-same old new by.same d ∙ may.there d t)

    at_old : IsTrue (w.targets d) → newest_at content_of w.kind old d ≡ newest_on content_of w.kind (old.sector d)
    at_old t = ap (λ b. if b then newest_on content_of w.kind (old.sector d) else None) (may.there d t)

    on_target : IsTrue (w.targets d) → (newest_at content_of w.kind new d ≡ newest_at content_of w.kind old d) ⊎ (IsTrue (w.targets d) × (newest_at content_of w.kind new d ≡ Some (written w x)) × StandsOn w new d)
    on_target t = ⊎_elim
        (λ same. inl (at_new t ∙ same_newest content_of ∙ same ∙ sym (at_old t)))
        (λ is. inr (t, at_new t ∙ same_newest content_of ∙ is.0, λ k lt. lies k lt ∙ is.1 k lt))
        (newest_stays_or_is_new X content_of (on_disk w d) x (old.sector d) slots_only (may.each d t) torn)

    whole : IsTrue (w.targets d) → StandsOn w new d → newest_at content_of w.kind new d ≡ Some (written w x)
    whole t stands = at_new t ∙ same_newest content_of
        ∙ whole_is_newest X content_of (on_disk w d) x (old.sector d) slots_only (may.each d t) torn (λ k lt. sym (lies k lt) ∙ stands k lt)

pub newest_is : (X : Type 0) → NewestIsOldOrNew X
newest_is X content_of w x old new d may by = ⊎_elim
    (λ (t : IsTrue (w.targets d)). on_target w old new by d X content_of x may t)
    (λ (f : IsFalse (w.targets d)). inl (stays w old new by d content_of f))
    (cases_Bool (w.targets d))

pub whole_is_new : (X : Type 0) → WholeIsNew X
whole_is_new X content_of w x old new d may by t stands = whole w old new by d X content_of x may t stands

pub earlier_stays : EarlierStaysBefore
earlier_stays w stamp old new frames slots by lt d before slot two = stays_before w old new by d stamp frames lt slot two (before slot two)

pub newest_stays : (X : Type 0) → NewestStays X
newest_stays X content_of kind old new d by = at-same content_of kind old new d by.same (newest-same content_of kind (old.sector d) (new.sector d) (λ slot s two low high. ⊎_elim
    (λ same. same)
    (λ (out : (s < slot_start kind 0) ⊎ (slot_start kind 1 + slot_size kind ≤ s)). absurd (not-below (slot_start kind 0) (slot_start kind 1 + slot_size kind) s (inside-slot kind slot s two low high) out))
    (by.each d s)))

-- ---- a write of a record alone

module _ (w : RecordWrite) (old new : Image) (frames : Frames w.kind w.framed) (slots : (d : ℕ) → w.slots d < 2) (by : ChangesBy (IsOfRecord w) old new) where
  pub wider : ChangesBy (IsOtherOrRecord w) old new
  wider = record { same = by.same; each = λ d s. ⊎_elim (λ same. inl same) (λ of. inr (inr (inr of))) (by.each d s) }

  untouched : (d s : ℕ) → ((part : ℕ) → part < slot_size w.kind → s ≡ slot_start w.kind (w.slots d) + part → ⊥) → new.sector d s ≡ old.sector d s
  untouched d s apart = ⊎_elim
      (λ same. same)
      (λ (of : IsOfRecord w d s (new.sector d s)). absurd (apart of.its.part (omega (arith, of.its.inside, sectors-fit w.kind (length w.framed.content) frames.content)) of.its.place))
      (by.each d s)

  other_kind : {X : Type 0} (content_of : List ℕ → Result X ℕ) (kind : Kind) → (kind ≡ w.kind → ⊥) → (d : ℕ) → newest_at content_of kind new d ≡ newest_at content_of kind old d
  other_kind content_of kind ne d = at-same content_of kind old new d by.same (newest-same content_of kind (old.sector d) (new.sector d) (λ slot s two low high.
      untouched d s (λ part lt e. slots-apart kind w.kind slot (w.slots d) (s - slot_start kind slot) part two (slots d) (omega (arith, low, high)) lt (inl ne) (omega (arith, low, e)))))

  notes : (d : ℕ) → note_on new d ≡ note_on old d
  notes d = note-same old new d by.same (untouched d note_sector (λ part lt e. absurd (omega (arith, e, slot-above w.kind (w.slots d) part))))

  blocks : (d s : ℕ) → data_start ≤ s → new.sector d s ≡ old.sector d s
  blocks d s le = untouched d s (λ part lt e. absurd (omega (arith, e, le, slot-below w.kind (w.slots d) part (slots d) lt)))

  -- all but the records
  rest_by : (descriptors : ℕ → Option (Stamped Descriptor)) (statuses : ℕ → Option (Stamped Status)) → ((d : ℕ) → descriptor_on new d ≡ descriptors d) → ((d : ℕ) → status_on new d ≡ statuses d)
      → contents_of new ≡ record (contents_of old) { descriptor = descriptors; status = statuses }
  rest_by descriptors statuses shown stated t =
      record { disks = by.same.disks t; size = λ d. by.same.size d t; descriptor = λ d. shown d t; status = λ d. stated d t; note = λ d. notes d t; block = λ d s. data-same old new blocks d s t }

pub descriptor_shows : DescriptorWriteShows
unfolding descriptor_on status_on
descriptor_shows w group old new is_kind may by = record {
  own = λ d. ⊎_elim
      (λ same. inl (subst (λ k. newest_at descriptor_of k new d ≡ newest_at descriptor_of k old d) is_kind same))
      (λ is. inr (is.0, subst (λ k. newest_at descriptor_of k new d ≡ Some (written w group)) is_kind is.1))
      (newest_is Descriptor descriptor_of w group old new d may (wider w old new may.frames may.slots by));
  rest = rest_by w old new may.frames may.slots by (descriptor_on new) (status_on old) (λ d. refl) (other_kind w old new may.frames may.slots by status_of kind.Status (λ e. apart (e ∙ is_kind)));
}
  where
    apart : kind.Status ≡ kind.Descriptor → ⊥
    apart e = absurd cc

pub status_shows : StatusWriteShows
unfolding descriptor_on status_on
status_shows w status old new is_kind may by = record {
  own = λ d. ⊎_elim
      (λ same. inl (subst (λ k. newest_at status_of k new d ≡ newest_at status_of k old d) is_kind same))
      (λ is. inr (is.0, subst (λ k. newest_at status_of k new d ≡ Some (written w status)) is_kind is.1))
      (newest_is Status status_of w status old new d may (wider w old new may.frames may.slots by));
  rest = rest_by w old new may.frames may.slots by (descriptor_on old) (status_on new) (other_kind w old new may.frames may.slots by descriptor_of kind.Descriptor (λ e. apart (e ∙ is_kind))) (λ d. refl);
}
  where
    apart : kind.Descriptor ≡ kind.Status → ⊥
    apart e = absurd cc
