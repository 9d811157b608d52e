-- What the writes of both records to a disk that joins do.
use Rattle.lvm_commit.specs.LawsOfFinding.{FindsNoMore, FindsNoMoreOn}
use Rattle.std.proofs.Common.{◌≡◌, ◌≢◌, inl, inr, ⊎_elim, ℕ, ◌+◌, ◌<◌, ◌≤◌, Bool, true, false, ◌&&◌, not, List, length, Some, refl, sym, ap, subst, ◌∙◌, arith}
use Rattle.std.specs.Prelude.{◌==◌, IfSome, IsTrue, is_some, if◌then◌else◌}
use Rattle.std.proofs.lemmas.Bool.{eq-eqb, eqb-true, ne_eqb, cases_eq}
use Rattle.std.proofs.lemmas.Bool.Decides.{nat_tests}
use Rattle.lvm_num.specs.declared.record.Kind.{Kind}
use Rattle.lvm_num.specs.declared.record.Kind.TheVariants as kind
use Rattle.lvm_num.specs.declared.record.Stamp.{Stamp}
use Rattle.lvm_num.specs.declared.descriptor.PvRow.{PvRow}
use Rattle.lvm_num.specs.declared.status.Status.{Status}
use Rattle.lvm_num.specs.Buffer.{Buffer, Sector}
use Rattle.lvm_num.specs.DescriptorBytes.{descriptor_of}
use Rattle.lvm_num.specs.Disks.{Disks}
use Rattle.lvm_num.specs.Record.{Frames, record_sectors, slot_start}
use Rattle.lvm_num.specs.StatusBytes.{status_of}
use Rattle.lvm_num.specs.Torn.{HasAllSectors}
use Rattle.lvm_num.proofs.TornLemmas.Torn.{sectors-fit}
use Rattle.lvm_num.proofs.Booleans.{or_false, or_left, place_below, same_itself}
use Rattle.lvm_vol.specs.Facts.{Fact}
use Rattle.lvm_disk.specs.Counts.{Rose}
use Rattle.lvm_disk.specs.Device.{Media, Image, Device, image_of, MayLeave, HasSectors, IsWholeImage}
use Rattle.lvm_disk.specs.Paths.{DeviceStep, Path}
use Rattle.lvm_disk.proofs.PathsLemmas.{map-path, append-path, last-path}
use Rattle.lvm_kept.specs.Contents.{contents_of, descriptor_on}
use Rattle.lvm_kept.specs.Kept.{Kept}
use Rattle.lvm_kept.specs.Plans.{ChangesBy}
use Rattle.lvm_kept.specs.Torn.{RecordWrite, IsOfRecord, StandsOn}
use Rattle.lvm_kept.proofs.PlacesLemmas.{at-same, newest-same}
use Rattle.lvm_kept.proofs.PlansLemmas.{further}
use Rattle.lvm_status.specs.Rerowed.{IsRerowed}
use Rattle.lvm_steps.specs.Moments.{ImagesKept, StaysKept}
use Rattle.lvm_steps.proofs.MakingLemmas.Making.{media_may}
use Rattle.lvm_rec.specs.declared.homes.Homes.{Homes}
use Rattle.lvm_rec.specs.Homes.{Flips, second_slots, next_slot}
use Rattle.lvm_write.specs.Writes.{DiskWritesLeave, IsBack}
use Rattle.lvm_write.specs.Written.{write_of, KeepsShelf, IsWriting, StandsTold, written_well}
use Rattle.lvm_write.proofs.passed.Vgda.{spelled_is_read}
use Rattle.lvm_write.proofs.passed.Vgsa.{is_read_again}
use Rattle.lvm_write.proofs.PartsLemmas.Transfers.{keeps_then, spends_then, darkened_then, given_up_then}
use Rattle.lvm_write.proofs.WrittenLemmas.Writing.{if_told, told_at, both_from, both_at}
use Rattle.lvm_commit.specs.Committed.{next_stamp}
use Rattle.lvm_commit.proofs.LawsOfWritesLemmas.Holding.{with_told, told_before}
use Rattle.lvm_commit.proofs.SettlingLemmas.Chaining.{keeps_wider}
use Rattle.lvm_steps.specs.Laws.{IsNoLater}
use Rattle.lvm_change.specs.declared.turn.Transition.{Transition}
use Rattle.lvm_extend_laws.specs.Joining.{with_disk}
use Rattle.lvm_extend_laws.specs.Writing.{JoinRecords, status_write, descriptor_write, IsOfJoining, AreJoinRecords, LetsWrite, StandsFirst}
use Rattle.lvm_extend_laws.proofs.WritingLemmas.{joining_writes_keep, joining_writes_find}
use Rattle.lvm_extend.specs.declared.admission.Admitted.{Admitted}
use Rattle.lvm_extend.specs.declared.admission.Admitted.TheVariants as admitted
use Rattle.lvm_extend.specs.Admission.{no_disk, alone, PutEnds, join_records, MayAdmit, IsBeforeJoining, AdmitEnds, Admits}

-- ---- one disk

pub is_alone : (disk : ℕ) → IsTrue (alone disk disk)
is_alone disk = or_left false (same_itself disk)

-- it is the only one
pub only_it : (disk d : ℕ) → IsTrue (alone disk d) → d ≡ disk
only_it disk d is = eqb-true d disk (sym (or_false (d == disk)) ∙ is)

pub not_it : (disk d : ℕ) → d ≢ disk → alone disk d ≡ false
not_it disk d apart = or_false (d == disk) ∙ ne_eqb d disk apart

-- where it was written well
pub well_alone : (disk : ℕ) (failed : Disks) → failed disk ≡ false → written_well (alone disk) failed ≡ alone disk
well_alone disk failed well = λ t d. each d t
  where
    each : (d : ℕ) → written_well (alone disk) failed d ≡ alone disk d
    each d = ⊎_elim
        (λ (same : d ≡ disk). ap (λ (b : Bool). alone disk d && not b) (ap failed same ∙ well) ∙ and_true_of (alone disk d))
        (λ (apart : d ≡ disk → ⊥). ap (λ (b : Bool). b && not (failed d)) (not_it disk d apart) ∙ sym (not_it disk d apart))
        (cases_eq d disk)
      where
        and_true_of : (b : Bool) → (b && true) ≡ b
        and_true_of true = refl
        and_true_of false = refl

-- ---- the records

pub no_later_one : (stamp : Stamp) → IsNoLater stamp stamp
no_later_one stamp = grind (arith, nat_tests)

pub no_later_two : (stamp : Stamp) → IsNoLater (next_stamp stamp) (next_stamp (next_stamp stamp))
no_later_two stamp = grind (arith, nat_tests)

module _ (turn : Transition) (disk : ℕ) (stamp : Stamp) (homes : Homes) (old : Device) (sectors : HasSectors old) (may : MayAdmit turn disk stamp old) where
  abbrev pub r : JoinRecords
  r = join_records turn stamp

  abbrev pub ws : RecordWrite
  ws = status_write r disk no_disk homes

  abbrev pub wd : RecordWrite
  wd = descriptor_write r disk no_disk homes

  abbrev pub Plan_of : ℕ → ℕ → Sector → Type 0
  Plan_of = IsOfJoining r disk no_disk homes

  abbrev Before : Type 0
  Before = IsBeforeJoining turn disk stamp homes old

  pub status_frames_of : Frames kind.Status r.status
  status_frames_of = record { some_epoch = may.epoch; epoch = may.bound; some_seq = λ e. absurd (zero_is e); seq = (let n = may.numbers in omega (arith, n)); content = may.records.status_fits }
    where
      zero_is : stamp.seq + 1 ≡ 0 → ⊥
      zero_is e = omega (arith, e)

  pub descriptor_frames_of : Frames kind.Descriptor r.descriptor
  descriptor_frames_of = record { some_epoch = may.epoch; epoch = may.bound; some_seq = λ e. absurd (zero_is e); seq = (let n = may.numbers in omega (arith, n)); content = may.records.fits }
    where
      zero_is : stamp.seq + 1 + 1 ≡ 0 → ⊥
      zero_is e = omega (arith, e)

  records_of : (status : Status) → IsRerowed turn.next.now status turn.told.now → AreJoinRecords r turn.next.now status stamp
  records_of status told = record {
    told = told;
    status_frames = status_frames_of;
    descriptor_frames = descriptor_frames_of;
    status_reads = ap status_of may.records.status ∙ is_read_again turn.told.now may.records.told;
    descriptor_reads = ap descriptor_of may.records.content ∙ spelled_is_read turn.next.now may.valid_next;
    status_later = no_later_one (next_stamp stamp);
    descriptor_later = no_later_two stamp;
  }

  -- ---- sectors of the disk alone

  its_disk : (d s : ℕ) (value : Sector) → Plan_of d s value → d ≡ disk
  its_disk d s value (inl of) = only_it disk d of.target
  its_disk d s value (inr of) = only_it disk d of.target

  module _ (row : PvRow) (there : Disks) (same : row.disk ≡ disk) where
    target_of : (d : ℕ) → IsTrue (alone disk d) → IsTrue (with_disk row.disk there d)
    target_of d is = or_left (there d) (eq-eqb d row.disk (only_it disk d is ∙ sym same))

    wider_plan : (d s : ℕ) (value : Sector) → Plan_of d s value → IsOfJoining r row.disk there homes d s value
    wider_plan d s value (inl of) = inl (record { target = target_of d of.target; its = of.its })
    wider_plan d s value (inr of) = inr (record { target = target_of d of.target; its = of.its })

    module _ (was now : Image) (by : ChangesBy Plan_of was now) where
      by_wider : ChangesBy (IsOfJoining r row.disk there homes) was now
      by_wider = record { same = by.same; each = λ d s. ⊎_elim (λ still. inl still) (λ of. inr (wider_plan d s (now.sector d s) of)) (by.each d s) }

      sector_same : (d s : ℕ) → d ≢ disk → now.sector d s ≡ was.sector d s
      sector_same d s apart = ⊎_elim (λ still. still) (λ of. absurd (apart (its_disk d s (now.sector d s) of))) (by.each d s)

      others_same : (d : ℕ) → d ≢ disk → descriptor_on now d ≡ descriptor_on was d
      unfolding descriptor_on
      others_same d apart = at-same descriptor_of kind.Descriptor was now d by.same (newest-same descriptor_of kind.Descriptor (was.sector d) (now.sector d) (λ slot s two from to. sector_same d s apart))

      stands_first : StandsFirst r row.disk there homes was now
      stands_first = inr (λ d apart. others_same d (λ is. apart (is ∙ sym same)))

  -- whatever of them has landed, what was kept is kept
  kept_by : Before → (media : Media) → old.media ≡ Some media → (image : Image) → ChangesBy Plan_of (image_of old.sizes media) image → (facts : List Fact) → ImagesKept old facts → Kept (contents_of image) facts
  kept_by before media told image by facts kept =
      let b = told_at old.media (λ m. (row : PvRow) × (status : Status) × (there : Disks) × (row.disk ≡ disk) × IsRerowed turn.next.now status turn.told.now × LetsWrite (image_of old.sizes m) turn.was.now turn.next.now row status there stamp homes) media told before in
      (joining_writes_keep (image_of old.sizes media) image facts turn.was.now turn.next.now b.0 b.1 b.2 stamp homes r (told_at old.media (λ m. IsWholeImage (image_of old.sizes m)) media told sectors) b.5 (records_of b.1 b.4)
      (by_wider b.0 b.2 b.3 (image_of old.sizes media) image by) (stands_first b.0 b.2 b.3 (image_of old.sizes media) image by) (kept (image_of old.sizes media) (media_may old media told))).0

  -- and nothing more is found than the next descriptor
  finds_by : Before → (media : Media) → old.media ≡ Some media → (image : Image) → ChangesBy Plan_of (image_of old.sizes media) image → FindsNoMore turn.next.now (contents_of (image_of old.sizes media)) (contents_of image)
  finds_by before media told image by =
      let b = told_at old.media (λ m. (row : PvRow) × (status : Status) × (there : Disks) × (row.disk ≡ disk) × IsRerowed turn.next.now status turn.told.now × LetsWrite (image_of old.sizes m) turn.was.now turn.next.now row status there stamp homes) media told before in
      joining_writes_find (image_of old.sizes media) image turn.was.now turn.next.now b.0 b.1 b.2 stamp homes r (told_at old.media (λ m. IsWholeImage (image_of old.sizes m)) media told sectors) b.5 (records_of b.1 b.4)
      (by_wider b.0 b.2 b.3 (image_of old.sizes media) image by) (stands_first b.0 b.2 b.3 (image_of old.sizes media) image by)

  -- ---- the status

  module _ (slots : Homes) (p q : ℕ) (m : Device) (leaves : DiskWritesLeave (alone disk) (IsOfRecord ws) p q old m) where
    first_keeps : KeepsShelf (alone disk) Plan_of old m
    first_keeps = keeps_wider (alone disk) (alone disk) (IsOfRecord ws) Plan_of old m (λ d off. off) (λ d s value of. inl of) leaves.keeps

    first_path : Path DeviceStep (λ d. Before → StaysKept old d) old m
    first_path = map-path (λ d. Before → StaysKept old d) (λ d is before facts kept image left. first_kept d is.0 is.1 before facts kept image left) (with_told leaves.moments)
      where
        first_kept : (d : Device) → IsWriting (IsOfRecord ws) old d → is_some d.media ≡ is_some old.media → Before → StaysKept old d
        first_kept d writing told before facts kept image left =
            let was = told_before old d image told left in
            let by : ChangesBy (IsOfRecord ws) (image_of old.sizes was.0) image = told_at old.media (λ x. (i : Image) → MayLeave d i → ChangesBy (IsOfRecord ws) (image_of old.sizes x) i) was.0 was.1 writing image left in
            kept_by before was.0 was.1 image (record { same = by.same; each = λ e s. ⊎_elim (λ still. inl still) (λ of. inr (inl of)) (by.each e s) }) facts kept

    first_finds : Before → FindsNoMoreOn turn.next.now old m
    first_finds before image left = if_told old.media (λ media. FindsNoMore turn.next.now (contents_of (image_of old.sizes media)) (contents_of image)) (λ media told.
        let by : ChangesBy (IsOfRecord ws) (image_of old.sizes media) image = told_at old.media (λ x. (i : Image) → MayLeave m i → ChangesBy (IsOfRecord ws) (image_of old.sizes x) i) media told (last-path leaves.moments) image left in
        finds_by before media told image (record { same = by.same; each = λ e s. ⊎_elim (λ still. inl still) (λ of. inr (inl of)) (by.each e s) }))

    -- it went no further
    pub stopped : (number : ℕ) (result : Admitted) → ((buf : Buffer) → result ≡ admitted.Done buf → ⊥) → PutEnds ws homes slots disk number p old m result → Admits turn disk stamp homes slots number p q old m result
    stopped number result never ends = record { ends = by result never ends; keeps = first_keeps; spends = leaves.spends; kept = first_path; finds = first_finds }
      where
        by : (result : Admitted) → ((buf : Buffer) → result ≡ admitted.Done buf → ⊥) → PutEnds ws homes slots disk number p old m result → AdmitEnds turn disk stamp homes slots number p old m result
        by (admitted.Done buf) never ends = absurd (never buf refl)
        by (admitted.Failed buf) never ends = ends
        by admitted.Dark never ends = ends
        by admitted.Stuck never ends = ends

    -- ---- the descriptor behind it

    module _ (number : ℕ) (buf : Buffer) (one : PutEnds ws homes slots disk number p old m (admitted.Done buf)) where
      abbrev w2 : RecordWrite
      w2 = write_of kind.Descriptor r.descriptor (alone disk) slots

      differ : kind.Descriptor ≡ kind.Status → ⊥
      differ e = absurd cc

      differ_too : kind.Status ≡ kind.Descriptor → ⊥
      differ_too e = absurd cc

      its_slot : (d : ℕ) → second_slots kind.Descriptor slots d ≡ second_slots kind.Descriptor homes d
      its_slot d = one.3.other kind.Descriptor differ d

      slot_same : (d : ℕ) → next_slot kind.Descriptor slots d ≡ next_slot kind.Descriptor homes d
      slot_same d = ap (λ (t : Bool). if t then 1 else 0) (its_slot d)

      to_plan : (d s : ℕ) (value : Sector) → IsOfRecord w2 d s value → Plan_of d s value
      to_plan d s value of = inr (record {
        target = of.target;
        its = record { part = of.its.part; inside = of.its.inside; place = of.its.place ∙ ap (λ (n : ℕ). slot_start kind.Descriptor n + of.its.part) (slot_same d); is = of.its.is };
      })

      module _ (final : Homes) (z : ℕ) (new : Device) (two : DiskWritesLeave (alone disk) (IsOfRecord w2) q z m new) where
        second_path : Path DeviceStep (λ d. Before → StaysKept old d) m new
        second_path = map-path (λ d. Before → StaysKept old d) (λ d is before facts kept image left. second_kept d is.0 is.1 before facts kept image left) (with_told two.moments)
          where
            second_kept : (d : Device) → IsWriting (IsOfRecord w2) m d → is_some d.media ≡ is_some m.media → Before → StaysKept old d
            second_kept d writing told before facts kept image left =
                let mid = told_before m d image told left in
                let back = both_from old.media m.media (λ was is. ChangesBy (IsOfRecord ws) (image_of old.sizes was) (image_of m.sizes is)) mid.0 leaves.keeps.media mid.1 in
                let by : ChangesBy (IsOfRecord w2) (image_of m.sizes mid.0) image = told_at m.media (λ x. (i : Image) → MayLeave d i → ChangesBy (IsOfRecord w2) (image_of m.sizes x) i) mid.0 mid.1 writing image left in
                let first : ChangesBy Plan_of (image_of old.sizes back.0) (image_of m.sizes mid.0) = record { same = back.2.same; each = λ e s. ⊎_elim (λ still. inl still) (λ of. inr (inl of)) (back.2.each e s) } in
                kept_by before back.0 back.1 image
                (further Plan_of (image_of old.sizes back.0) (image_of m.sizes mid.0) image first by.same (λ e s. ⊎_elim (λ still. inl still) (λ of. inr (to_plan e s (image.sector e s) of)) (by.each e s))) facts kept

        second_finds : Before → FindsNoMoreOn turn.next.now old new
        second_finds before image left = if_told old.media (λ media. FindsNoMore turn.next.now (contents_of (image_of old.sizes media)) (contents_of image)) (λ media told.
            let mid = both_at old.media m.media (λ was is. ChangesBy (IsOfRecord ws) (image_of old.sizes was) (image_of m.sizes is)) media leaves.keeps.media told in
            let by : ChangesBy (IsOfRecord w2) (image_of m.sizes mid.0) image = told_at m.media (λ x. (i : Image) → MayLeave new i → ChangesBy (IsOfRecord w2) (image_of m.sizes x) i) mid.0 mid.1 (last-path two.moments) image left in
            let first : ChangesBy Plan_of (image_of old.sizes media) (image_of m.sizes mid.0) = record { same = mid.2.same; each = λ e s. ⊎_elim (λ still. inl still) (λ of. inr (inl of)) (mid.2.each e s) } in
            finds_by before media told image
            (further Plan_of (image_of old.sizes media) (image_of m.sizes mid.0) image first by.same (λ e s. ⊎_elim (λ still. inl still) (λ of. inr (to_plan e s (image.sector e s) of)) (by.each e s))))

        status_stands : StandsTold ws new disk
        status_stands = if_told new.media (λ media. StandsOn ws (image_of new.sizes media) disk) (λ k told.
            let mid = both_from m.media new.media (λ was is. ChangesBy (IsOfRecord w2) (image_of m.sizes was) (image_of new.sizes is)) k two.keeps.media told in
            let stood : StandsOn ws (image_of m.sizes mid.0) disk = told_at m.media (λ x. StandsOn ws (image_of m.sizes x) disk) mid.0 mid.1 one.1 in
            λ part lt. ⊎_elim
            (λ still. still ∙ stood part lt)
            (λ (of : IsOfRecord w2 disk (slot_start kind.Status (ws.slots disk) + part) ((image_of new.sizes k).sector disk (slot_start kind.Status (ws.slots disk) + part))).
            absurd (let place = of.its.place in let low = status_place (ws.slots disk) part (place_below (second_slots kind.Status homes disk)) lt in let high = descriptor_place (w2.slots disk) of.its.part in omega (arith, place, low, high)))
            (mid.2.each disk (slot_start kind.Status (ws.slots disk) + part)))
          where
            status_place : (slot part : ℕ) → slot < 2 → part < record_sectors (length r.status.content) → slot_start kind.Status slot + part < 512
            status_place slot part below lt = let fit = sectors-fit kind.Status (length r.status.content) status_frames_of.content in omega (arith, below, lt, fit)

            descriptor_place : (slot part : ℕ) → 512 ≤ slot_start kind.Descriptor slot + part
            descriptor_place slot part = omega arith

        descriptor_stands : StandsTold w2 new disk → StandsTold wd new disk
        descriptor_stands stands = subst (λ (n : ℕ). IfSome new.media (λ media. HasAllSectors kind.Descriptor r.descriptor (slot_start kind.Descriptor n) ((image_of new.sizes media).sector disk))) (slot_same disk) stands

        module _ (flips : Flips kind.Descriptor (alone disk) slots final) where
          turns : (k : Kind) → second_slots k final disk ≡ not (second_slots k homes disk)
          turns kind.Status = flips.other kind.Status differ_too disk ∙ one.3.own disk ∙ ap (λ (t : Bool). if t then not (second_slots kind.Status homes disk) else second_slots kind.Status homes disk) (is_alone disk)
          turns kind.Descriptor = flips.own disk ∙ ap (λ (t : Bool). if t then not (second_slots kind.Descriptor slots disk) else second_slots kind.Descriptor slots disk) (is_alone disk) ∙ ap not (its_slot disk)

          others : (k : Kind) (d : ℕ) → d ≢ disk → second_slots k final d ≡ second_slots k homes d
          others kind.Status d apart = flips.other kind.Status differ_too d ∙ one.3.own d ∙ ap (λ (t : Bool). if t then not (second_slots kind.Status homes d) else second_slots kind.Status homes d) (not_it disk d apart)
          others kind.Descriptor d apart = flips.own d ∙ ap (λ (t : Bool). if t then not (second_slots kind.Descriptor slots d) else second_slots kind.Descriptor slots d) (not_it disk d apart) ∙ its_slot d

        back_again : (back : Buffer) → IsBack buf.number m new back → IsBack number old new back
        back_again back is = record { ready = is.ready; cuts = is.cuts ∙ one.0.cuts; number_is = is.number_is ∙ one.0.number_is }

        pub went_on : (result : Admitted) → PutEnds w2 slots final disk buf.number q m new result → Admits turn disk stamp homes final number p z old new result
        went_on result ends = record {
          ends = by result ends;
          keeps = keeps_then (alone disk) Plan_of old m new first_keeps (keeps_wider (alone disk) (alone disk) (IsOfRecord w2) Plan_of m new (λ d off. off) to_plan two.keeps);
          spends = spends_then p q z old m new leaves.spends two.spends;
          kept = append-path first_path second_path;
          finds = second_finds;
        }
          where
            by : (result : Admitted) → PutEnds w2 slots final disk buf.number q m new result → AdmitEnds turn disk stamp homes final number p old new result
            by (admitted.Done back) ends = (
              back_again back ends.0,
              record { status = status_stands; descriptor = descriptor_stands ends.1; well = ends.2 ∙ one.2; turns = turns ends.3; others = others ends.3 },
            )
            by (admitted.Failed back) ends = (back_again back ends.0, subst (λ (n : ℕ). Rose n (new.counts.faults disk)) one.2 ends.1)
            by admitted.Dark ends = darkened_then number buf.number old m new one.0.number_is one.0.cuts ends
            by admitted.Stuck ends = given_up_then number buf.number p q old m new one.0.number_is one.0.cuts leaves.spends ends
