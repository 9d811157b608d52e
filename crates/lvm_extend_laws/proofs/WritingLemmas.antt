-- Crash images keep what was kept while the two records by which a disk joins are written.
use Rattle.lvm_commit.proofs.SlotsLemmas.{turned}
use Rattle.lvm_steps.proofs.LawsLemmas.Stamps.{later_is_after_too}
use Rattle.lvm_steps.specs.Behind.{StampsBefore}
use Rattle.lvm_rec.proofs.SlotsLemmas.Next.{slot_for_same}
use Rattle.lvm_rec.specs.Slots.{slot_for, IsOfSlot, IsTornWrite, StandsIn, BothBefore}
use Rattle.lvm_rec.specs.Homes.{second_slots, next_slot}
use Rattle.lvm_num.specs.Votes.{CanWrite}
use Rattle.lvm_num.specs.Torn.{Sectors}
use Rattle.std.proofs.Common.{◌≡◌, ◌≢◌, ◌⊎◌, inl, inr, ⊎_elim, ℕ, ◌+◌, ◌<◌, ◌≤◌, true, length, Some, refl, sym, ap, subst, ◌∙◌, arith, false, Bool}
use Rattle.std.specs.Prelude.{IsTrue, not, nat_lt, if◌then◌else◌}
use Rattle.std.proofs.lemmas.Bool.{cases_eq}
use Rattle.std.proofs.lemmas.Bool.Decides.{nat_tests}
use Rattle.lvm_num.specs.declared.record.Kind.{Kind}
use Rattle.lvm_num.specs.declared.record.Kind.TheVariants as kind
use Rattle.lvm_num.specs.declared.record.Stamp.{Stamp}
use Rattle.lvm_num.specs.declared.record.Framed.{Framed}
use Rattle.lvm_num.specs.declared.descriptor.PvRow.{PvRow}
use Rattle.lvm_num.specs.declared.descriptor.Descriptor.{Descriptor}
use Rattle.lvm_num.specs.declared.status.Status.{Status}
use Rattle.lvm_num.specs.DescriptorBytes.{descriptor_of}
use Rattle.lvm_num.specs.Disks.{Disks}
use Rattle.lvm_num.specs.Geometry.{data_start}
use Rattle.lvm_num.specs.Record.{Stamped, stamp_lt, slot_start, slot_size, record_sectors}
use Rattle.lvm_num.specs.StatusBytes.{status_of}
use Rattle.lvm_num.proofs.Booleans.{or_left, same_itself, place_turns}
use Rattle.lvm_disk.proofs.passed.Num.{sectors-fit}
use Rattle.lvm_disk.specs.Device.{Image, IsWholeImage}
use Rattle.lvm_rec.specs.declared.homes.Homes.{Homes}
use Rattle.lvm_kept.specs.Contents.{contents_of, descriptor_on, status_on, note_on, note_sector, has_records}
use Rattle.lvm_kept.specs.Plans.{ChangesBy}
use Rattle.lvm_kept.specs.Torn.{RecordWrite, IsOfRecord, IsOtherOrRecord, StandsOn, MayWriteAll, written as as_read, on_disk}
use Rattle.lvm_kept.proofs.CommittedLemmas.Finding.{images_within}
use Rattle.lvm_kept.proofs.PlacesLemmas.{note-same, data-same, room-same}
use Rattle.lvm_kept.proofs.TornLemmas.Records.{newest_is, whole_is_new, slot-above, earlier_stays}
use Rattle.lvm_steps.specs.Laws.{IsNoLater}
use Rattle.lvm_steps.proofs.LawsLemmas.Records.{later_may_go}
use Rattle.lvm_write.specs.Shows.{IsSlotFit}
use Rattle.lvm_write.specs.Written.{write_of}
use Rattle.lvm_write.proofs.ShowsLemmas.{descriptor_may_be_written, status_may_be_written}
use Rattle.lvm_commit.specs.Committed.{next_stamp, HoldsCommitted}
use Rattle.lvm_commit.proofs.LawsOfVolumesLemmas.Volumes.{next_is_later}
use Rattle.lvm_extend_laws.specs.Joining.{with_disk, LetsJoin, IsJoining, HasJoined}
use Rattle.lvm_extend_laws.specs.Writing.{JoinRecords, status_write, descriptor_write, IsOfJoining, AreJoinRecords, LetsWrite, StandsFirst, JoiningWritesKeep, JoiningWritesFind, StandsJoined, JoiningIsHeld}
use Rattle.lvm_extend_laws.proofs.JoiningLemmas.{of_either, joining_finds, joining_keeps, joining_is_committed}

-- ---- places

status_below : (slot k : ℕ) → slot < 2 → k < slot_size kind.Status → slot_start kind.Status slot + k < slot_start kind.Descriptor 0
status_below slot k two small = omega arith

descriptor_above : (slot k : ℕ) → slot_start kind.Status 1 + slot_size kind.Status ≤ slot_start kind.Descriptor slot + k
descriptor_above slot k = omega arith

descriptor_below : (slot k : ℕ) → slot < 2 → k < slot_size kind.Descriptor → slot_start kind.Descriptor slot + k < data_start
descriptor_below slot k two small = omega arith

not_itself : (a : Stamp) → stamp_lt a a ≡ true → ⊥
not_itself a e = grind (arith, nat_tests)

module _ (old new : Image) (group next : Descriptor) (row : PvRow) (status : Status) (there : Disks) (stamp : Stamp) (homes : Homes) (r : JoinRecords)
    (whole : IsWholeImage old) (lets : LetsWrite old group next row status there stamp homes) (records : AreJoinRecords r next status stamp)
    (by : ChangesBy (IsOfJoining r row.disk there homes) old new) where
  abbrev x : ℕ
  x = row.disk

  abbrev ws : RecordWrite
  ws = status_write r x there homes

  abbrev wd : RecordWrite
  wd = descriptor_write r x there homes

  abbrev stated : Stamped Status
  stated = as_read ws r.told

  abbrev described : Stamped Descriptor
  described = as_read wd next

  -- ---- each record may go to each of its disks

  fits : (which : Kind) (framed : Framed) → IsNoLater (next_stamp stamp) framed.stamp → (d : ℕ) → IsTrue (with_disk x there d) → IsSlotFit (write_of which framed (with_disk x there) homes) homes old d
  fits which framed later d is = ⊎_elim
      (λ (same : d ≡ x). subst (λ (e : ℕ). IsSlotFit w homes old e) (sym same) (lets.records, lets.spares, later_may_go w (next_stamp stamp) old x whole lets.holds.stamps later lets.records))
      (λ (on : IsTrue (there d)). (lets.holds.there d on, lets.holds.homes d on, later_may_go w (next_stamp stamp) old d whole lets.holds.stamps later (lets.holds.there d on)))
      (of_either x there d is)
    where
      w : RecordWrite
      w = write_of which framed (with_disk x there) homes

  may_state : MayWriteAll Status status_of ws r.told old
  may_state = status_may_be_written r.status r.told (with_disk x there) homes old records.status_frames records.status_reads (fits kind.Status r.status records.status_later)

  may_describe : MayWriteAll Descriptor descriptor_of wd next old
  may_describe = descriptor_may_be_written r.descriptor next (with_disk x there) homes old records.descriptor_frames records.descriptor_reads (fits kind.Descriptor r.descriptor records.descriptor_later)

  -- ---- the sectors of the one are none of the other

  state_low : (d s : ℕ) → IsOfRecord ws d s (new.sector d s) → s < slot_start kind.Descriptor 0
  state_low d s of =
      let place = of.its.place in
      let below = status_below (ws.slots d) of.its.part (may_state.slots d) (let inside = of.its.inside in let fit = sectors-fit kind.Status (length r.status.content) records.status_frames.content in omega (arith, inside, fit)) in
      omega (arith, place, below)

  describe_high : (d s : ℕ) → IsOfRecord wd d s (new.sector d s) → slot_start kind.Status 1 + slot_size kind.Status ≤ s
  describe_high d s of = let place = of.its.place in let above = descriptor_above (wd.slots d) of.its.part in omega (arith, place, above)

  describe_low : (d s : ℕ) → IsOfRecord wd d s (new.sector d s) → s < data_start
  describe_low d s of =
      let place = of.its.place in
      let below = descriptor_below (wd.slots d) of.its.part (may_describe.slots d) (let inside = of.its.inside in let fit = sectors-fit kind.Descriptor (length r.descriptor.content) records.descriptor_frames.content in omega (arith, inside, fit)) in
      omega (arith, place, below)

  by_status : ChangesBy (IsOtherOrRecord ws) old new
  by_status = record {
    same = by.same;
    each = λ d s. ⊎_elim (λ same. inl same)
        (λ either. ⊎_elim (λ (of : IsOfRecord ws d s (new.sector d s)). inr (inr (inr of))) (λ (of : IsOfRecord wd d s (new.sector d s)). inr (inr (inl (describe_high d s of)))) either)
        (by.each d s);
  }

  by_descriptor : ChangesBy (IsOtherOrRecord wd) old new
  by_descriptor = record {
    same = by.same;
    each = λ d s. ⊎_elim (λ same. inl same)
        (λ either. ⊎_elim (λ (of : IsOfRecord ws d s (new.sector d s)). inr (inl (state_low d s of))) (λ (of : IsOfRecord wd d s (new.sector d s)). inr (inr (inr of))) either)
        (by.each d s);
  }

  -- ---- what is shown

  statuses : (d : ℕ) → (status_on new d ≡ status_on old d) ⊎ (IsTrue (with_disk x there d) × (status_on new d ≡ Some stated))
  unfolding status_on
  statuses d = ⊎_elim (λ same. inl same) (λ is. inr (is.0, is.1)) (newest_is Status status_of ws r.told old new d may_state by_status)

  descriptors : (d : ℕ) → (descriptor_on new d ≡ descriptor_on old d) ⊎ (IsTrue (with_disk x there d) × (descriptor_on new d ≡ Some described))
  unfolding descriptor_on
  descriptors d = ⊎_elim (λ same. inl same) (λ is. inr (is.0, is.1)) (newest_is Descriptor descriptor_of wd next old new d may_describe by_descriptor)

  untouched : (d s : ℕ) → (IsOfRecord ws d s (new.sector d s) → ⊥) → (IsOfRecord wd d s (new.sector d s) → ⊥) → new.sector d s ≡ old.sector d s
  untouched d s one other = ⊎_elim (λ same. same) (λ either. ⊎_elim (λ of. absurd (one of)) (λ of. absurd (other of)) either) (by.each d s)

  notes : (d : ℕ) → note_on new d ≡ note_on old d
  notes d = note-same old new d by.same (untouched d note_sector
      (λ of. let place = of.its.place in let above = slot-above kind.Status (ws.slots d) of.its.part in omega (arith, place, above))
      (λ of. let place = of.its.place in let above = slot-above kind.Descriptor (wd.slots d) of.its.part in omega (arith, place, above)))

  blocks : (d s : ℕ) → data_start ≤ s → new.sector d s ≡ old.sector d s
  blocks d s le = untouched d s (λ of. let low = state_low d s of in omega (arith, low, le)) (λ of. let low = describe_low d s of in omega (arith, low, le))

  rest : contents_of new ≡ record (contents_of old) { status = status_on new; descriptor = descriptor_on new }
  rest t = record { disks = by.same.disks t; size = λ d. by.same.size d t; descriptor = descriptor_on new; status = status_on new; note = λ d. notes d t; block = λ d s. data-same old new blocks d s t }

  whole_states : (d : ℕ) → IsTrue (with_disk x there d) → StandsOn ws new d → status_on new d ≡ Some stated
  unfolding status_on
  whole_states d is stands = whole_is_new Status status_of ws r.told old new d may_state by_status is stands

  whole_describes : (d : ℕ) → IsTrue (with_disk x there d) → StandsOn wd new d → descriptor_on new d ≡ Some described
  unfolding descriptor_on
  whole_describes d is stands = whole_is_new Descriptor descriptor_of wd next old new d may_describe by_descriptor is stands

  -- ---- so it is joining

  later_descriptor : (d : ℕ) (s : Stamped Descriptor) → (contents_of old).descriptor d ≡ Some s → stamp_lt s.stamp described.stamp ≡ true
  later_descriptor d s shown = (next_is_later old group status there stamp r.descriptor.stamp homes whole lets.holds records.descriptor_later).descriptors d s shown

  lets_join : LetsJoin (contents_of old) group next row status there stated described
  lets_join = record {
    takes = lets.takes;
    shows = lets.holds.shows;
    free = lets.free;
    room = lets.room;
    value = refl;
    told = records.told;
    statuses = λ d s shown its. (next_is_later old group status there stamp r.status.stamp homes whole lets.holds records.status_later).statuses d s shown;
    descriptors = λ d s shown its. later_descriptor d s shown;
  }

  module _ (first : StandsFirst r row.disk there homes old new) where
    shows_first : (d : ℕ) → (contents_of new).descriptor d ≡ Some described → (contents_of new).descriptor x ≡ Some described
    shows_first d shown = ⊎_elim (whole_describes x (or_left (there x) (same_itself x))) (λ (others : (d : ℕ) → d ≢ x → (contents_of new).descriptor d ≡ (contents_of old).descriptor d). ⊎_elim
        (λ (same : d ≡ x). ap (contents_of new).descriptor (sym same) ∙ shown)
        (λ (apart : d ≡ x → ⊥). absurd (not_itself described.stamp (later_descriptor d described (sym (others d apart) ∙ shown))))
        (cases_eq d x)) first

    pub joining : IsJoining (contents_of old) (contents_of new) x there stated described
    joining = record { statuses = statuses; descriptors = descriptors; first = shows_first; rest = rest }

  -- ---- once both stand

  -- the sectors from which the descriptors' slots begin
  abbrev border : ℕ
  border = slot_start kind.Descriptor 0

  describe_from : (slot k : ℕ) → border ≤ slot_start kind.Descriptor slot + k
  describe_from slot k = omega arith

  state_to : (slot s : ℕ) → slot < 2 → s < slot_start kind.Status slot + slot_size kind.Status → s < border
  state_to slot s two to = omega arith

  -- the disk's descriptors as they are now, and its statuses as they were; and the other way about
  abbrev descriptors_now : ℕ → Sectors
  descriptors_now d s = if nat_lt s border then old.sector d s else new.sector d s

  abbrev statuses_now : ℕ → Sectors
  statuses_now d s = if nat_lt s border then new.sector d s else old.sector d s

  is_low : (s : ℕ) → s < border → nat_lt s border ≡ true
  is_low s lt = grind (arith, nat_tests)

  is_high : (s : ℕ) → border ≤ s → nat_lt s border ≡ false
  is_high s le = grind (arith, nat_tests)

  was_low : (s : ℕ) → nat_lt s border ≡ true → s < border
  was_low s is = grind (arith, nat_tests)

  was_high : (s : ℕ) → nat_lt s border ≡ false → border ≤ s
  was_high s is = grind (arith, nat_tests)

  place_high : (d s : ℕ) → IsOfRecord wd d s (new.sector d s) → border ≤ s
  place_high d s of = let place = of.its.place in let from = describe_from (wd.slots d) of.its.part in omega (arith, place, from)

  torn_descriptors : (d : ℕ) → IsTornWrite (on_disk wd d) (old.sector d) (descriptors_now d)
  torn_descriptors d s = by_test (nat_lt s border) refl
    where
      by_test : (t : Bool) → nat_lt s border ≡ t → ((if t then old.sector d s else new.sector d s) ≡ old.sector d s) ⊎ IsOfSlot (on_disk wd d) s (if t then old.sector d s else new.sector d s)
      by_test true is = inl refl
      by_test false is = ⊎_elim (λ same. inl same)
          (λ either. ⊎_elim (λ (of : IsOfRecord ws d s (new.sector d s)). absurd (let low = state_low d s of in let high = was_high s is in omega (arith, low, high))) (λ (of : IsOfRecord wd d s (new.sector d s)). inr of.its) either)
          (by.each d s)

  torn_statuses : (d : ℕ) → IsTornWrite (on_disk ws d) (old.sector d) (statuses_now d)
  torn_statuses d s = by_test (nat_lt s border) refl
    where
      by_test : (t : Bool) → nat_lt s border ≡ t → ((if t then new.sector d s else old.sector d s) ≡ old.sector d s) ⊎ IsOfSlot (on_disk ws d) s (if t then new.sector d s else old.sector d s)
      by_test true is = ⊎_elim (λ same. inl same)
          (λ either. ⊎_elim (λ (of : IsOfRecord ws d s (new.sector d s)). inr of.its) (λ (of : IsOfRecord wd d s (new.sector d s)). absurd (let high = place_high d s of in let low = was_low s is in omega (arith, low, high))) either)
          (by.each d s)
      by_test false is = inl refl

  high_now : (d s : ℕ) → border ≤ s → descriptors_now d s ≡ new.sector d s
  high_now d s le = ap (λ (t : Bool). if t then old.sector d s else new.sector d s) (is_high s le)

  low_now : (d s : ℕ) → s < border → statuses_now d s ≡ new.sector d s
  low_now d s lt = ap (λ (t : Bool). if t then new.sector d s else old.sector d s) (is_low s lt)

  low_part : (d k : ℕ) → k < record_sectors (length r.status.content) → slot_start kind.Status (ws.slots d) + k < border
  low_part d k lt =
      let fit = sectors-fit kind.Status (length r.status.content) records.status_frames.content in
      status_below (ws.slots d) k (may_state.slots d) (omega (arith, lt, fit))

  module _ (written : Disks) (after : Homes) (order : IsNoLater r.status.stamp r.descriptor.stamp) (stands : StandsJoined r row.disk there written homes after old new)
      (enough : CanWrite group written) (enough_too : CanWrite next written) where
    abbrev last : Stamp
    last = next_stamp r.descriptor.stamp

    has_joined : HasJoined (contents_of new) group next x there written stated described
    has_joined = record {
      joins = stands.joins;
      among = stands.among;
      states = λ d is. whole_states d (stands.among d is) (stands.states d is);
      describes = λ d is. whole_describes d (stands.among d is) (stands.describes d is);
      enough = enough;
      enough_too = enough_too;
    }

    had_records : (d : ℕ) → IsTrue (with_disk x there d) → has_records old d ≡ true
    had_records d is = ⊎_elim (λ (same : d ≡ x). ap (has_records old) same ∙ lets.records) (λ (on : IsTrue (there d)). lets.holds.there d on) (of_either x there d is)

    both_before : (which : Kind) (framed : Framed) → IsNoLater (next_stamp stamp) framed.stamp → (d : ℕ) → IsTrue (with_disk x there d) → BothBefore (on_disk (write_of which framed (with_disk x there) homes) d) (old.sector d)
    both_before which framed later d is = later_may_go (write_of which framed (with_disk x there) homes) (next_stamp stamp) old d whole lets.holds.stamps later (had_records d is)

    -- ---- stamps

    was_before : StampsBefore last old
    was_before = later_is_after_too (next_stamp stamp) last old (no_later_then (next_stamp stamp) r.descriptor.stamp records.descriptor_later) lets.holds.stamps
      where
        no_later_then : (a b : Stamp) → IsNoLater a b → IsNoLater a (next_stamp b)
        no_later_then a b le = grind (arith, nat_tests)

    status_before : stamp_lt r.status.stamp last ≡ true
    status_before = earlier_then r.status.stamp r.descriptor.stamp order
      where
        earlier_then : (a b : Stamp) → IsNoLater a b → stamp_lt a (next_stamp b) ≡ true
        earlier_then a b le = grind (arith, nat_tests)

    descriptor_before : stamp_lt r.descriptor.stamp last ≡ true
    descriptor_before = before_next r.descriptor.stamp
      where
        before_next : (s : Stamp) → stamp_lt s (next_stamp s) ≡ true
        before_next s = grind (arith, nat_tests)

    stamps_then : StampsBefore last new
    stamps_then kind.Status d slot there_now two = earlier_stays ws last old new records.status_frames may_state.slots by_status status_before d
        (λ n below. was_before kind.Status d n (sym (room-same old new by.same d) ∙ there_now) below) slot two
    stamps_then kind.Descriptor d slot there_now two = earlier_stays wd last old new records.descriptor_frames may_describe.slots by_descriptor descriptor_before d
        (λ n below. was_before kind.Descriptor d n (sym (room-same old new by.same d) ∙ there_now) below) slot two

    -- ---- slots

    module _ (d : ℕ) (is : IsTrue (written d)) where
      describes_here : StandsIn (on_disk wd d) (descriptors_now d)
      describes_here k lt = high_now d (slot_start kind.Descriptor (wd.slots d) + k) (describe_from (wd.slots d) k) ∙ stands.describes d is k lt

      states_here : StandsIn (on_disk ws d) (statuses_now d)
      states_here k lt = low_now d (slot_start kind.Status (ws.slots d) + k) (low_part d k lt) ∙ stands.states d is k lt

      turned_to : (k : Kind) → next_slot k after d ≡ (if not (second_slots k homes d) then 1 else 0)
      turned_to k = ap (λ (t : Bool). if t then 1 else 0) (stands.turns k d is)

      spares_descriptor : next_slot kind.Descriptor after d ≡ slot_for descriptor_of kind.Descriptor (new.sector d)
      spares_descriptor = turned_to kind.Descriptor
          ∙ place_turns (second_slots kind.Descriptor homes d) (slot_for descriptor_of kind.Descriptor (descriptors_now d))
          (turned (on_disk wd d) (old.sector d) (descriptors_now d) records.descriptor_frames (may_describe.slots d) (torn_descriptors d) Descriptor descriptor_of next records.descriptor_reads
          (both_before kind.Descriptor r.descriptor records.descriptor_later d (stands.among d is)) describes_here)
          ∙ slot_for_same descriptor_of kind.Descriptor (new.sector d) (descriptors_now d) (λ slot s two from to. high_now d s (let low = describe_from slot 0 in omega (arith, low, from)))

      spares_status : next_slot kind.Status after d ≡ slot_for status_of kind.Status (new.sector d)
      spares_status = turned_to kind.Status
          ∙ place_turns (second_slots kind.Status homes d) (slot_for status_of kind.Status (statuses_now d))
          (turned (on_disk ws d) (old.sector d) (statuses_now d) records.status_frames (may_state.slots d) (torn_statuses d) Status status_of r.told records.status_reads
          (both_before kind.Status r.status records.status_later d (stands.among d is)) states_here)
          ∙ slot_for_same status_of kind.Status (new.sector d) (statuses_now d) (λ slot s two from to. low_now d s (state_to slot s two to))

    pub held : HoldsCommitted new next r.told written r.descriptor.stamp after
    held = record {
      shows = joining_is_committed (contents_of old) (contents_of new) group next row status there written stated described (images_within old) (images_within new) lets_join
          (joining (inl (stands.describes x stands.joins))) has_joined;
      stamps = stamps_then;
      there = λ d is. room-same old new by.same d ∙ had_records d (stands.among d is);
      homes = λ d is. record { descriptor = spares_descriptor d is; status = spares_status d is };
    }

pub joining_writes_keep : JoiningWritesKeep
joining_writes_keep old new facts group next row status there stamp homes r whole lets records by first kept =
    joining_keeps (contents_of old) (contents_of new) facts group next row status there (stated old new group next row status there stamp homes r whole lets records by) (described old new group next row status there stamp homes r whole lets records by)
    (images_within old) (images_within new) (lets_join old new group next row status there stamp homes r whole lets records by) (joining old new group next row status there stamp homes r whole lets records by first) kept

pub joining_is_held : JoiningIsHeld
joining_is_held old new group next row status there written stamp homes after r whole lets records order stands enough enough_too =
    held old new group next row status there stamp homes r whole lets records stands.changes written after order stands enough enough_too

pub joining_writes_find : JoiningWritesFind
joining_writes_find old new group next row status there stamp homes r whole lets records by first =
    joining_finds (contents_of old) (contents_of new) group next row status there (stated old new group next row status there stamp homes r whole lets records by) (described old new group next row status there stamp homes r whole lets records by)
    (images_within old) (images_within new) (lets_join old new group next row status there stamp homes r whole lets records by) (joining old new group next row status there stamp homes r whole lets records by first)
