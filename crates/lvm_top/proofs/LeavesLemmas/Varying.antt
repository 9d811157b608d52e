-- What is found after the varying on of a group, whatever became of it: what was found before.
use Rattle.std.proofs.Common.{◌≡◌, ◌≢◌, ⊎_elim, ℕ, ◌-◌, ◌^◌, ◌<◌, ◌≤◌, true, List, [], length, Option, Some, None, refl, sym, ap, subst, ◌∙◌, arith}
use Rattle.std.specs.Prelude.{IsTrue, IsSomeAnd, nat_lt, nat_le, option_map, slice_get, slice_index_or}
use Rattle.std.proofs.lemmas.Bool.{and_from, lt-ltb, le-leb}
use Rattle.std.proofs.lemmas.Option.{slice_get_within, get_or_from_slice_get}
use Rattle.lvm_num.specs.declared.record.Framed.{Framed}
use Rattle.lvm_num.specs.declared.record.Kind.TheVariants as kind
use Rattle.lvm_num.specs.declared.descriptor.Descriptor.{Descriptor}
use Rattle.lvm_num.specs.declared.status.Status.{Status}
use Rattle.lvm_num.specs.Descriptor.{IsValid}
use Rattle.lvm_num.specs.DescriptorBytes.{descriptor_of, descriptor_bytes}
use Rattle.lvm_num.specs.Disks.{Disks}
use Rattle.lvm_num.specs.Geometry.{data_start}
use Rattle.lvm_num.specs.StatusBytes.{status_of, status_bytes}
use Rattle.lvm_num.proofs.RecordLemmas.Newest.{is_one}
use Rattle.lvm_vgda.proofs.DescriptorBytesLemmas.Whole.{spelled_is_read}
use Rattle.lvm_vgsa.proofs.StatusBytesLemmas.RoundTrip.{is_read_again}
use Rattle.lvm_disk.specs.Device.{Media, Device, image_of, AreSectors, MayLeave, IsCrashImage, Image, IsWholeImage}
use Rattle.lvm_disk.specs.Steps.{BothTold}
use Rattle.lvm_kept.specs.Contents.{Contents, contents_of, has_records}
use Rattle.lvm_kept.specs.Group.{is_of, descriptor_among, Finds}
use Rattle.lvm_kept.specs.Plans.{ChangesBy}
use Rattle.lvm_kept.specs.Torn.{MayWriteAll}
use Rattle.lvm_kept.proofs.CommittedLemmas.Finding.{offered, is_offered}
use Rattle.lvm_steps.proofs.MakingLemmas.Making.{media_may}
use Rattle.lvm_steps.specs.Behind.{StampsBefore, StampsAreEarlier}
use Rattle.lvm_steps.specs.Laws.{ShowsBefore}
use Rattle.lvm_steps.proofs.LawsLemmas.Records.{session_may_go, shown_is_before}
use Rattle.lvm_steps.proofs.LawsLemmas.Stamps.{behind_is_before}
use Rattle.lvm_quorum.proofs.LawsLemmas.{descriptors_valid}
use Rattle.lvm_write.specs.Homes.{SparesNewest}
use Rattle.lvm_write.specs.Written.{write_of, KeepsShelf}
use Rattle.lvm_write.proofs.ShowsLemmas.{descriptor_may_be_written, status_may_be_written}
use Rattle.lvm_write.proofs.WrittenLemmas.Writing.{told_at}
use Rattle.lvm_write.specs.Beginning.{Beginning, Part, describes, states, IsOfParts}
use Rattle.lvm_core.proofs.RecordLemmas.{descriptor_fits}
use Rattle.lvm_core.specs.Leaves.{MayBeFound}
use Rattle.lvm_line.specs.passed.Varyon.{answering, MayComeOn, records_on, HasWritten, Recopy, beginning}
use Rattle.lvm_line.proofs.passed.Varyon.{HasWrote, found_restated, holds_finds, second_fits, status_fits}
use Rattle.lvm_top.proofs.Begun.{MayDescribe, IsIts, begun_finds}
use Rattle.lvm_top.proofs.Devices.{IsShelf, NothingNew, unwritten_nothing}

-- a disk with room for records has records
has_room_for : (sizes : List ℕ) (media : Media) (d size : ℕ) → slice_get sizes d ≡ Some size → data_start ≤ size → has_records (image_of sizes media) d ≡ true
has_room_for sizes media d size at large =
    and_from (nat_lt d (length sizes)) (nat_le data_start (slice_index_or sizes d 0)) (lt-ltb d (length sizes) (slice_get_within sizes d size at))
    (ap (nat_le data_start) (get_or_from_slice_get sizes d size 0 at) ∙ le-leb data_start size large)

-- a device whose crash images are told told its media before
told_first : (old new : Device) (R : Media → Media → Type 0) → BothTold old.media new.media R → (image : Image) → MayLeave new image → (m : Media) × (old.media ≡ Some m)
told_first old new R both image left = go old.media new.media refl both left
  where
    go : (o n : Option Media) → old.media ≡ o → BothTold o n R → IsSomeAnd n (λ m. IsCrashImage (image_of new.sizes m) new.flights image) → (m : Media) × (old.media ≡ Some m)
    go (Some m) n is told may = (m, is)
    go None None is told may = absurd may
    go None (Some k) is told may = absurd told

module _ (old new : Device) (name : List ℕ) (moment : ℕ) (How : Beginning → Option (List ℕ) → List Recopy → Device → Type 0) (written : HasWritten old new name moment How) where
  abbrev group : Descriptor
  group = written.group

  abbrev targets : Disks
  targets = answering written.found.shown written.group

  module _ (media : Media) (told : old.media ≡ Some media) where
    chosen : MayComeOn (records_on written.found.answered (contents_of (image_of old.sizes media))) name moment written.group written.was
    chosen = subst (λ (c : Contents). MayComeOn c name moment written.group written.was) (told_at old.media (λ m. written.found.shown ≡ records_on written.found.answered (contents_of (image_of old.sizes m))) media told written.found.told) written.chosen

    finds : Finds (contents_of (image_of old.sizes media)) written.found.answered written.group.id written.group
    finds = holds_finds written.found.answered (contents_of (image_of old.sizes media)) name written.group written.was chosen.holds

    -- the group was found by the disks that answered
    pub was_found : MayBeFound old written.group.id written.group
    was_found = (image_of old.sizes media, media_may old media told, (written.found.answered, finds))

  module _ (shelf : IsShelf old) (some : moment ≢ 0) (clock : moment < 2 ^ 64 - 1 → StampsAreEarlier moment old) where
    behind : StampsAreEarlier moment old
    behind = clock written.chosen.early

    low : moment < 2 ^ 64
    low = let early = written.chosen.early in omega (arith, early)

    module _ (media : Media) (told : old.media ≡ Some media) where
      whole : IsWholeImage (image_of old.sizes media)
      whole = told_at old.media (λ m. AreSectors old.sizes m) media told shelf.whole

      -- what a disk shows is valid
      valid : IsValid written.group
      unfolding descriptor_among
      valid =
          let found = finds media told in
          let one = is_one Descriptor (offered (is_of written.group.id) (contents_of (image_of old.sizes media)).descriptor written.found.answered) (contents_of (image_of old.sizes media)).disks found.newest found.found in
          let from = is_offered (is_of written.group.id) (contents_of (image_of old.sizes media)).descriptor written.found.answered one.0 found.newest one.2 in
          subst IsValid found.is (descriptors_valid (image_of old.sizes media) one.0 found.newest whole from.0)

      there : (d : ℕ) → IsTrue (targets d) → has_records (image_of old.sizes media) d ≡ true
      there d target = let room = written.found.have.room d (written.answered d target) in has_room_for old.sizes media d room.0 room.1 room.2

      spared : (d : ℕ) → IsTrue (targets d) → SparesNewest written.writes.homes (image_of old.sizes media) d
      spared = told_at old.media (λ m. (d : ℕ) → IsTrue (targets d) → SparesNewest written.writes.homes (image_of old.sizes m) d) media told written.writes.spared

      shown_before : ShowsBefore (record { epoch = moment; seq = 1 }) (contents_of (image_of old.sizes media))
      shown_before = shown_is_before (record { epoch = moment; seq = 1 }) (image_of old.sizes media) whole
          (told_at old.media (λ m. StampsBefore (record { epoch = moment; seq = 1 }) (image_of old.sizes m)) media told (behind_is_before (record { epoch = moment; seq = 1 }) old behind))

      describe : MayWriteAll Descriptor descriptor_of (describes (beginning moment written.group written.next targets written.writes.homes)) written.group (image_of old.sizes media)
      describe =
          let framed : Framed = record { stamp = record { epoch = moment; seq = 1 }; content = descriptor_bytes written.group } in
          descriptor_may_be_written framed written.group targets written.writes.homes (image_of old.sizes media)
          (record { some_epoch = some; epoch = low; some_seq = λ e. absurd (omega (arith, e)); seq = omega arith; content = descriptor_fits written.group valid })
          (spelled_is_read written.group valid)
          (λ d target. (there d target, spared d target, session_may_go (write_of kind.Descriptor framed targets written.writes.homes) moment old media d told shelf.whole behind (omega arith) (there d target)))

      state : MayWriteAll Status status_of (states (beginning moment written.group written.next targets written.writes.homes)) written.next (image_of old.sizes media)
      state =
          let framed : Framed = record { stamp = record { epoch = moment; seq = 2 }; content = status_bytes written.next } in
          status_may_be_written framed written.next targets written.writes.homes (image_of old.sizes media)
          (record { some_epoch = some; epoch = low; some_seq = λ e. absurd (omega (arith, e)); seq = omega arith; content = status_fits written.next written.next_is.valid })
          (is_read_again written.next written.next_is.valid)
          (λ d target. (there d target, spared d target, session_may_go (write_of kind.Status framed targets written.writes.homes) moment old media d told shelf.whole behind (omega arith) (there d target)))

      may_describe : MayDescribe (beginning moment written.group written.next targets written.writes.homes) written.group written.next (image_of old.sizes media)
      may_describe = record { describe = describe; state = state; later = λ d r shows own. shown_before.descriptors d r shows }

    -- whatever of the records has landed
    written_nothing : (last : Device) (parts : List Part) → KeepsShelf targets (IsOfParts (beginning moment written.group written.next targets written.writes.homes) parts) written.writes.read last → last.flights ≡ [] → NothingNew old last
    written_nothing last parts keeps still id k it =
        let read : Device = written.writes.read in
        let un = written.writes.unwritten in
        let b : Beginning = beginning moment written.group written.next targets written.writes.homes in
        let may : (media : Media) → read.media ≡ Some media → MayDescribe b written.group written.next (image_of read.sizes media) = λ media told.
        subst (λ (sizes : List ℕ). MayDescribe b written.group written.next (image_of sizes media)) (sym un.sizes) (may_describe media (sym un.media ∙ told)) in
        let first = told_first read last (λ was is. ChangesBy (IsOfParts b parts) (image_of read.sizes was) (image_of last.sizes is)) keeps.media it.0 it.1 in
        ⊎_elim
        (λ (before : MayBeFound read id k). unwritten_nothing old read un written.writes.rested.ready.flights id k before)
        (λ (its : IsIts written.group id k).
        subst (λ (d : Descriptor). MayBeFound old id d) (sym its.1) (subst (λ (i : ℕ). MayBeFound old i written.group) (sym its.0) (was_found first.0 (sym un.media ∙ first.1))))
        (begun_finds b written.group written.next parts read last may keeps.media still id k it)

    -- whatever of all that it writes has
    pub all_nothing : HasWrote (beginning moment written.group written.next targets written.writes.homes) (option_map status_bytes written.clean) written.copies written.writes.read new → new.flights ≡ [] → NothingNew old new
    all_nothing it still id k found = written_nothing it.restated it.parts it.records (it.rested still) id k
        (found_restated (beginning moment written.group written.next targets written.writes.homes) (option_map status_bytes written.clean) written.copies written.writes.read new written.found.shown written.group (Some written.was) targets written.planned
        (second_fits written.clean written.clean_valid) it still id k found)
