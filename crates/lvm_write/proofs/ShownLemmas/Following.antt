-- Which records may follow the parts of a beginning, and where its sectors lie.
use Rattle.std.proofs.Common.{◌≡◌, ◌⊎◌, inl, inr, ⊎_elim, ℕ, ◌+◌, ◌*◌, ◌<◌, ◌≤◌, Bool, true, [], ◌∷◌, List, length, IsTrue, IsFalse, refl, sym, ◌∙◌, ap, arith}
use Rattle.std.specs.Prelude.{if◌then◌else◌, not}
use Rattle.std.proofs.lemmas.Bool.{cases_lt}
use Rattle.std.proofs.lemmas.Bool.Decides.{nat_tests}
use Rattle.lvm_num.specs.declared.record.Kind.{Kind}
use Rattle.lvm_num.specs.declared.record.Kind.TheVariants as kind
use Rattle.lvm_num.specs.declared.record.Stamp.{Stamp}
use Rattle.lvm_num.specs.declared.descriptor.Descriptor.{Descriptor}
use Rattle.lvm_num.specs.declared.status.Status.{Status}
use Rattle.lvm_num.specs.Buffer.{Sector}
use Rattle.lvm_num.specs.DescriptorBytes.{descriptor_of}
use Rattle.lvm_num.specs.StatusBytes.{status_of}
use Rattle.lvm_num.specs.Record.{slot_start, stamp_lt, longest_content}
use Rattle.lvm_num.specs.Torn.{AllBefore, stamp_of}
use Rattle.lvm_num.proofs.TornLemmas.Torn.{sectors-fit}
use Rattle.lvm_num.proofs.Booleans.{clash, place_below, place_turns}
use Rattle.lvm_rec.specs.Slots.{slot_for}
use Rattle.lvm_disk.specs.Device.{Image, Range, image_of}
use Rattle.lvm_kept.specs.Contents.{has_records, note_sector}
use Rattle.lvm_kept.specs.Plans.{ChangesBy}
use Rattle.lvm_kept.specs.Recovered.{IsRecordRange}
use Rattle.lvm_kept.specs.Torn.{IsOtherOrRecord, StandsOn}
use Rattle.lvm_kept.proofs.PlacesLemmas.{room-same}
use Rattle.lvm_kept.proofs.TornLemmas.Records.{earlier_stays}
use Rattle.lvm_rec.specs.declared.homes.Homes.{Homes}
use Rattle.lvm_rec.specs.Homes.{second_slots, next_slot}
use Rattle.lvm_write.proofs.WrittenLemmas.Writing.{told_at, changes_more}
use Rattle.lvm_write.specs.Beginning.{Beginning, Part, TheDescriptor, TheStatus, TheNotes, describes, states, brought, IsOfParts}
use Rattle.lvm_write.specs.Ends.{BothFlip}
use Rattle.lvm_write.specs.Shown.{TargetsSpareNewest, OthersSpareNewest, RangesAreOfRecords, StampsAreOfBeginning}
use Rattle.lvm_write.proofs.TornLemmas.{beside_descriptors, beside_statuses, on_target}
use Rattle.lvm_write.proofs.ShownLemmas.Shown.{media_by}
use Rattle.lvm_rec.proofs.SlotsLemmas.Next.{slot_for_same}
use Rattle.lvm_write.proofs.SlotsLemmas.{other_comes_next}

-- ---- slots

flipped : (kind : Kind) (b : Beginning) (next : Homes) (d : ℕ) → BothFlip b.targets b.homes next → IsTrue (b.targets d) → next_slot kind next d ≡ (if not (second_slots kind b.homes d) then 1 else 0)
flipped kind b next d flips target = ap (λ (t : Bool). if t then 1 else 0) (flips kind d ∙ ap (λ (t : Bool). if t then not (second_slots kind b.homes d) else second_slots kind b.homes d) target)

unflipped : (kind : Kind) (b : Beginning) (next : Homes) (d : ℕ) → BothFlip b.targets b.homes next → IsFalse (b.targets d) → next_slot kind next d ≡ next_slot kind b.homes d
unflipped kind b next d flips other = ap (λ (t : Bool). if t then 1 else 0) (flips kind d ∙ ap (λ (t : Bool). if t then not (second_slots kind b.homes d) else second_slots kind b.homes d) other)

pub targets_spare_newest : TargetsSpareNewest
targets_spare_newest b group status parts next old new was is told_old told_new describe state keeps flips d target described stated =
    let start : Image = image_of old.sizes was in
    let now : Image = image_of new.sizes is in
    let by : ChangesBy (IsOfParts b parts) start now = media_by b parts old new was is told_old told_new keeps in
    let by_descriptor = changes_more (IsOfParts b parts) (IsOtherOrRecord (describes b)) start now (beside_descriptors b describe.frames.content state.frames.content parts) by in
    let by_status = changes_more (IsOfParts b parts) (IsOtherOrRecord (states b)) start now (beside_statuses b describe.frames.content state.frames.content parts) by in
    record {
      descriptor = flipped kind.Descriptor b next d flips target ∙ place_turns (second_slots kind.Descriptor b.homes d) (slot_for descriptor_of kind.Descriptor (is d))
          (other_comes_next Descriptor descriptor_of (describes b) group start now describe by_descriptor d target (told_at new.media (λ m. StandsOn (describes b) (image_of new.sizes m) d) is told_new described));
      status = flipped kind.Status b next d flips target ∙ place_turns (second_slots kind.Status b.homes d) (slot_for status_of kind.Status (is d))
          (other_comes_next Status status_of (states b) status start now state by_status d target (told_at new.media (λ m. StandsOn (states b) (image_of new.sizes m) d) is told_new stated));
    }

pub others_spare_newest : OthersSpareNewest
others_spare_newest b parts next old new was is told_old told_new keeps flips d other spares =
    let by : ChangesBy (IsOfParts b parts) (image_of old.sizes was) (image_of new.sizes is) = media_by b parts old new was is told_old told_new keeps in
    let same : (s : ℕ) → is d s ≡ was d s = λ s. ⊎_elim
    (λ same. same)
    (λ (of : IsOfParts b parts d s (is d s)). absurd (clash (b.targets d) (on_target b parts d s (is d s) of) other))
    (by.each d s) in
    record {
      descriptor = unflipped kind.Descriptor b next d flips other ∙ spares.descriptor ∙ sym (slot_for_same descriptor_of kind.Descriptor (was d) (is d) (λ slot s two low high. same s));
      status = unflipped kind.Status b next d flips other ∙ spares.status ∙ sym (slot_for_same status_of kind.Status (was d) (is d) (λ slot s two low high. same s));
    }

-- ---- ranges

module _ (b : Beginning) (fits_descriptor : length b.descriptor.content ≤ longest_content kind.Descriptor) (fits_status : length b.status.content ≤ longest_content kind.Status) (d : ℕ) where
  abbrev descriptor_slot : ℕ
  descriptor_slot = next_slot kind.Descriptor b.homes d

  abbrev status_slot : ℕ
  status_slot = next_slot kind.Status b.homes d

  -- a sector is the note's, or in one of the two slots that are written
  abbrev IsPlace : ℕ → Type 0
  IsPlace s = (s ≡ note_sector) ⊎ ((64 + 64 * status_slot ≤ s) × (s < 128 + 64 * status_slot)) ⊎ ((512 + 1152 * descriptor_slot ≤ s) × (s < 1664 + 1152 * descriptor_slot))

  place_of_part : (p : Part) (s : ℕ) (value : Sector) → brought b p d s value → IsPlace s
  place_of_part TheDescriptor s value is =
      let place = is.its.place in
      let inside = is.its.inside in
      let fits = sectors-fit kind.Descriptor (length b.descriptor.content) fits_descriptor in
      inr (inr (omega (arith, place), omega (arith, place, inside, fits)))
  place_of_part TheStatus s value is =
      let place = is.its.place in
      let inside = is.its.inside in
      let fits = sectors-fit kind.Status (length b.status.content) fits_status in
      inr (inl (omega (arith, place), omega (arith, place, inside, fits)))
  place_of_part TheNotes s value is = inl is.place

  place_of : (parts : List Part) (s : ℕ) (value : Sector) → IsOfParts b parts d s value → IsPlace s
  place_of [] s value is = absurd is
  place_of (p ∷ parts) s value (inl here) = place_of_part p s value here
  place_of (p ∷ parts) s value (inr there) = place_of parts s value there

  -- the sector behind each of these places is in none of them
  not_behind : (s : ℕ) → (s ≡ 9) ⊎ (s ≡ 128 + 64 * status_slot) ⊎ (s ≡ 1664 + 1152 * descriptor_slot) → IsPlace s → ⊥
  not_behind s which place = apart descriptor_slot status_slot (place_below (second_slots kind.Descriptor b.homes d)) (place_below (second_slots kind.Status b.homes d)) which place
    where
      apart : (i j : ℕ) → i < 2 → j < 2 → (s ≡ 9) ⊎ (s ≡ 128 + 64 * j) ⊎ (s ≡ 1664 + 1152 * i) → (s ≡ 8) ⊎ ((64 + 64 * j ≤ s) × (s < 128 + 64 * j)) ⊎ ((512 + 1152 * i ≤ s) × (s < 1664 + 1152 * i)) → ⊥
      apart i j li lj (inl e) (inl f) = omega (arith, e, f)
      apart i j li lj (inl e) (inr (inl f)) = let low = f.0 in omega (arith, e, low)
      apart i j li lj (inl e) (inr (inr f)) = let low = f.0 in omega (arith, e, low)
      apart i j li lj (inr (inl e)) (inl f) = omega (arith, e, f)
      apart i j li lj (inr (inl e)) (inr (inl f)) = let high = f.1 in omega (arith, e, high)
      apart i j li lj (inr (inl e)) (inr (inr f)) = let low = f.0 in omega (arith, e, low, lj)
      apart i j li lj (inr (inr e)) (inl f) = omega (arith, e, f)
      apart i j li lj (inr (inr e)) (inr (inl f)) = let high = f.1 in omega (arith, e, high, lj)
      apart i j li lj (inr (inr e)) (inr (inr f)) = let high = f.1 in omega (arith, e, high)

  -- a range from one of them on ends with it
  range_within : (r : Range) → 1 ≤ r.count → ((s : ℕ) → r.first ≤ s → s < r.first + r.count → IsPlace s) → IsRecordRange r
  range_within r some each = by_first (each r.first (omega arith) (omega (arith, some)))
    where
      ends : (behind : ℕ) → r.first < behind → (IsPlace behind → ⊥) → r.first + r.count ≤ behind
      ends behind low none = ⊎_elim
          (λ (over : behind < r.first + r.count). absurd (none (each behind (omega (arith, low)) over)))
          (λ within. within)
          (cases_lt behind (r.first + r.count))

      by_first : IsPlace r.first → IsRecordRange r
      by_first (inl note) = inl (omega (arith, note), ends 9 (omega (arith, note)) (λ place. not_behind 9 (inl refl) place))
      by_first (inr (inl in_status)) = inr (inl (
        status_slot,
        place_below (second_slots kind.Status b.homes d),
        (
          in_status.0,
          let within = ends (128 + 64 * status_slot) in_status.1 (λ place. not_behind (128 + 64 * status_slot) (inr (inl refl)) place) in omega (arith, within),
        ),
      ))
      by_first (inr (inr in_descriptor)) = inr (inr (
        descriptor_slot,
        place_below (second_slots kind.Descriptor b.homes d),
        (
          in_descriptor.0,
          let within = ends (1664 + 1152 * descriptor_slot) in_descriptor.1 (λ place. not_behind (1664 + 1152 * descriptor_slot) (inr (inr refl)) place) in omega (arith, within),
        ),
      ))

pub ranges_are_of_records : RangesAreOfRecords
ranges_are_of_records b parts r fits_descriptor fits_status inside =
    let one = inside.1 r.first (omega arith) (let some = inside.0 in omega (arith, some)) in (
      on_target b parts r.disk r.first one.0 one.1,
      range_within b fits_descriptor fits_status r.disk r inside.0 (λ s low high. let it = inside.1 s low high in place_of b fits_descriptor fits_status r.disk parts s it.0 it.1),
    )

-- ---- stamps

later_too : (a : Stamp) (epoch : ℕ) → stamp_lt a (record { epoch = epoch; seq = 0 }) ≡ true → stamp_lt a (record { epoch = epoch; seq = 3 }) ≡ true
later_too a epoch e = grind (arith, nat_tests)

of_session : (a : Stamp) (epoch : ℕ) → a.epoch ≡ epoch → a.seq < 3 → stamp_lt a (record { epoch = epoch; seq = 3 }) ≡ true
of_session a epoch same low = grind (arith, nat_tests)

pub stamps_are_of_beginning : StampsAreOfBeginning
stamps_are_of_beginning b parts old new describes_frames states_frames describes_in states_in by before which d slot there two = by_kind which
  where
    stamp : Stamp
    stamp = record { epoch = b.epoch; seq = 3 }

    was_there : has_records old d ≡ true
    was_there = sym (room-same old new by.same d) ∙ there

    all_before : (kind : Kind) (slot : ℕ) → slot < 2 → AllBefore kind (record { epoch = b.epoch; seq = 3 }) (slot_start kind slot) (old.sector d)
    all_before kind slot two k inside magic = later_too (stamp_of (old.sector d (slot_start kind slot + k))) b.epoch (before kind d slot was_there two k inside magic)

    by_kind : (kind : Kind) → AllBefore kind (record { epoch = b.epoch; seq = 3 }) (slot_start kind slot) (new.sector d)
    by_kind kind.Descriptor = earlier_stays (describes b) (record { epoch = b.epoch; seq = 3 }) old new describes_frames (λ e. place_below (second_slots kind.Descriptor b.homes e))
        (changes_more (IsOfParts b parts) (IsOtherOrRecord (describes b)) old new (beside_descriptors b describes_frames.content states_frames.content parts) by)
        (of_session b.descriptor.stamp b.epoch describes_in.0 describes_in.1) d (all_before kind.Descriptor) slot two
    by_kind kind.Status = earlier_stays (states b) (record { epoch = b.epoch; seq = 3 }) old new states_frames (λ e. place_below (second_slots kind.Status b.homes e))
        (changes_more (IsOfParts b parts) (IsOtherOrRecord (states b)) old new (beside_statuses b describes_frames.content states_frames.content parts) by)
        (of_session b.status.stamp b.epoch states_in.0 states_in.1) d (all_before kind.Status) slot two
