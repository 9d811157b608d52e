-- What the writes of both records to the members do behind the disk that joins.
use Rattle.lvm_commit.specs.LawsOfFinding.{FindsNoMore, FindsNoMoreOn}
use Rattle.lvm_extend_laws.specs.Joining.{with_disk}
use Rattle.lvm_change.proofs.TransitionLemmas.{back_then}
use Rattle.lvm_change.specs.Transition.{IsByBoth, HasFewVotes, ComesBack, IsOfTransition}
use Rattle.lvm_change.specs.declared.turn.TransitionEnd.TheVariants as turned
use Rattle.lvm_change.specs.declared.turn.TransitionEnd.{TransitionEnd}
use Rattle.lvm_commit.proofs.SettlingLemmas.Chaining.{keeps_wider, path_counts}
use Rattle.lvm_write.proofs.PartsLemmas.Transfers.{keeps_then, spends_then, darkened_then, given_up_then, still_room}
use Rattle.lvm_rec.specs.Homes.{Flips, second_slots}
use Rattle.lvm_num.proofs.Booleans.{or_left, or_true, place_below, same_itself}
use Rattle.lvm_num.specs.Votes.{CanWrite}
use Rattle.lvm_num.specs.declared.record.Framed.{Framed}
use Rattle.std.proofs.Common.{◌≡◌, ◌≢◌, inl, inr, ⊎_elim, ℕ, ◌+◌, Bool, true, false, ◌&&◌, ◌||◌, not, List, Some, refl, sym, ap, subst, ◌∙◌, arith}
use Rattle.std.specs.Prelude.{◌==◌, IsTrue, IsFalse, is_some, if◌then◌else◌}
use Rattle.std.proofs.lemmas.Bool.{false≢true, eqb-true}
use Rattle.lvm_num.specs.declared.record.Kind.{Kind}
use Rattle.lvm_num.specs.declared.record.Kind.TheVariants as kind
use Rattle.lvm_num.specs.declared.record.Stamp.{Stamp}
use Rattle.lvm_num.specs.Buffer.{Buffer, Sector}
use Rattle.lvm_num.specs.DescriptorBytes.{descriptor_of}
use Rattle.lvm_num.specs.Disks.{Disks, has}
use Rattle.lvm_num.specs.Record.{Frames, slot_start}
use Rattle.lvm_num.specs.StatusBytes.{status_of}
use Rattle.lvm_vol.specs.Facts.{Fact}
use Rattle.lvm_disk.specs.Device.{Media, Image, Device, image_of, MayLeave, IsWholeImage}
use Rattle.lvm_disk.specs.Paths.{DeviceStep, Path, Here}
use Rattle.lvm_disk.proofs.PathsLemmas.{map-path, append-path, last-path}
use Rattle.lvm_kept.specs.Contents.{contents_of}
use Rattle.lvm_kept.specs.Kept.{Kept}
use Rattle.lvm_kept.specs.Plans.{Plan, ChangesBy}
use Rattle.lvm_kept.specs.Torn.{RecordWrite, IsOfRecord, StandsOn}
use Rattle.lvm_kept.proofs.PlansLemmas.{further}
use Rattle.lvm_steps.specs.Moments.{ImagesKept, StaysKept}
use Rattle.lvm_steps.proofs.MakingLemmas.Making.{media_may}
use Rattle.lvm_rec.specs.declared.homes.Homes.{Homes}
use Rattle.lvm_write.specs.Writes.{DiskWritesLeave, EachTried}
use Rattle.lvm_write.specs.Written.{KeepsShelf, IsWriting, StandsTold, write_of, written_well}
use Rattle.lvm_write.proofs.passed.Vgda.{spelled_is_read}
use Rattle.lvm_write.proofs.passed.Vgsa.{is_read_again}
use Rattle.lvm_write.proofs.WrittenLemmas.Writing.{if_told, told_at, both_from, both_then, writing_here, both_at}
use Rattle.lvm_commit.specs.Committed.{next_stamp}
use Rattle.lvm_commit.proofs.LawsOfWritesLemmas.Holding.{with_told, told_before}
use Rattle.lvm_change.specs.declared.turn.Transition.{Transition}
use Rattle.lvm_extend_laws.specs.Writing.{JoinRecords, descriptor_write, status_write, IsOfJoining, AreJoinRecords, LetsWrite, StandsFirst}
use Rattle.lvm_extend_laws.proofs.WritingLemmas.{joining_writes_keep, joining_writes_find}
use Rattle.lvm_extend.specs.Admission.{join_records}
use Rattle.lvm_extend.specs.Spreading.{IsUnderWay, MaySpread, SparesAs, StaysKeptFrom, Both, Last, SpreadEnds, Spreads, FindsNoMoreFrom}
use Rattle.lvm_extend.proofs.AdmissionLemmas.{no_later_one, no_later_two}

-- a set and the disk
pub with_is : (few set disk : ℕ) → ((d : ℕ) → has set d ≡ (has few d || d == disk)) → has set ≡ with_disk disk (has few)
with_is few set disk is = λ t d. (is d ∙ turned_about (has few d) (d == disk)) t
  where
    turned_about : (a b : Bool) → (a || b) ≡ (b || a)
    turned_about true true = refl
    turned_about true false = refl
    turned_about false true = refl
    turned_about false false = refl

module _ (turn : Transition) (disk : ℕ) (there : Disks) (stamp : Stamp) (now : Device) (may : MaySpread turn disk there stamp now) where
  abbrev pub r : JoinRecords
  r = join_records turn stamp

  pub status_frames : Frames kind.Status r.status
  status_frames = record { some_epoch = may.epoch; epoch = may.bound; some_seq = λ e. absurd (zero_is e); seq = (let n = may.numbers in omega (arith, n)); content = may.records.status_fits }
    where
      zero_is : stamp.seq + 1 ≡ 0 → ⊥
      zero_is e = omega (arith, e)

  pub descriptor_frames : Frames kind.Descriptor r.descriptor
  descriptor_frames = record { some_epoch = may.epoch; epoch = may.bound; some_seq = λ e. absurd (zero_is e); seq = (let n = may.numbers in omega (arith, n)); content = may.records.fits }
    where
      zero_is : stamp.seq + 1 + 1 ≡ 0 → ⊥
      zero_is e = omega (arith, e)

  -- ---- a write behind it

  module _ (all : Disks) (homes : Homes) (begun : Device) (under : IsUnderWay turn disk all stamp homes begun now) where
    abbrev Plan_of : Plan
    Plan_of = IsOfJoining r disk all homes

    abbrev wd : RecordWrite
    wd = descriptor_write r disk all homes

    records_are : AreJoinRecords r turn.next.now under.status stamp
    records_are = record {
      told = under.told;
      status_frames = status_frames;
      descriptor_frames = descriptor_frames;
      status_reads = ap status_of may.records.status ∙ is_read_again turn.told.now may.records.told;
      descriptor_reads = ap descriptor_of may.records.content ∙ spelled_is_read turn.next.now may.valid_next;
      status_later = no_later_one (next_stamp stamp);
      descriptor_later = no_later_two stamp;
    }

    -- an image to which only these sectors were brought, and on which the descriptor stands first
    kept_by : (media : Media) → begun.media ≡ Some media → (image : Image) → ChangesBy Plan_of (image_of begun.sizes media) image → StandsOn wd image disk → (facts : List Fact) → ImagesKept begun facts → Kept (contents_of image) facts
    kept_by media told image by stands facts kept =
        (joining_writes_keep (image_of begun.sizes media) image facts turn.was.now turn.next.now under.row under.status all stamp homes r (told_at begun.media (λ m. IsWholeImage (image_of begun.sizes m)) media told under.sectors)
        (told_at begun.media (λ m. LetsWrite (image_of begun.sizes m) turn.was.now turn.next.now under.row under.status all stamp homes) media told under.lets) records_are
        (subst (λ (x : ℕ). ChangesBy (IsOfJoining r x all homes) (image_of begun.sizes media) image) (sym under.its) by)
        (subst (λ (x : ℕ). StandsFirst r x all homes (image_of begun.sizes media) image) (sym under.its) (inl stands)) (kept (image_of begun.sizes media) (media_may begun media told))).0

    finds_by : (media : Media) → begun.media ≡ Some media → (image : Image) → ChangesBy Plan_of (image_of begun.sizes media) image → StandsOn wd image disk → FindsNoMore turn.next.now (contents_of (image_of begun.sizes media)) (contents_of image)
    finds_by media told image by stands =
        joining_writes_find (image_of begun.sizes media) image turn.was.now turn.next.now under.row under.status all stamp homes r (told_at begun.media (λ m. IsWholeImage (image_of begun.sizes m)) media told under.sectors)
        (told_at begun.media (λ m. LetsWrite (image_of begun.sizes m) turn.was.now turn.next.now under.row under.status all stamp homes) media told under.lets) records_are
        (subst (λ (x : ℕ). ChangesBy (IsOfJoining r x all homes) (image_of begun.sizes media) image) (sym under.its) by)
        (subst (λ (x : ℕ). StandsFirst r x all homes (image_of begun.sizes media) image) (sym under.its) (inl stands))

    module _ (w : RecordWrite) (of_plan : (d s : ℕ) (value : Sector) → IsOfRecord w d s value → Plan_of d s value) (off : w.targets disk ≡ false) where
      -- the sectors of the disk that joins stay
      sector_same : (was is : Image) → ChangesBy (IsOfRecord w) was is → (s : ℕ) → is.sector disk s ≡ was.sector disk s
      sector_same was is by s = ⊎_elim (λ still. still) (λ (of : IsOfRecord w disk s (is.sector disk s)). absurd (false≢true (sym off ∙ of.target))) (by.each disk s)

      stands_still : (v : RecordWrite) (was is : Image) → ChangesBy (IsOfRecord w) was is → StandsOn v was disk → StandsOn v is disk
      stands_still v was is by stands part lt = sector_same was is by (slot_start v.kind (v.slots disk) + part) ∙ stands part lt

      told_still : (v : RecordWrite) (new : Device) → KeepsShelf w.targets (IsOfRecord w) now new → StandsTold v now disk → StandsTold v new disk
      told_still v new keeps stood = if_told new.media (λ media. StandsOn v (image_of new.sizes media) disk) (λ k told.
          let mid = both_from now.media new.media (λ was is. ChangesBy (IsOfRecord w) (image_of now.sizes was) (image_of new.sizes is)) k keeps.media told in
          stands_still v (image_of now.sizes mid.0) (image_of new.sizes k) mid.2 (told_at now.media (λ x. StandsOn v (image_of now.sizes x) disk) mid.0 mid.1 stood))

      brought_on : (first mid image : Image) → ChangesBy Plan_of first mid → ChangesBy (IsOfRecord w) mid image → ChangesBy Plan_of first image
      brought_on first mid image before by = further Plan_of first mid image before by.same (λ e s. ⊎_elim (λ still. inl still) (λ of. inr (of_plan e s (image.sector e s) of)) (by.each e s))

      pub kept_on : (d : Device) → IsWriting (IsOfRecord w) now d → is_some d.media ≡ is_some now.media → StaysKept begun d
      kept_on d writing told facts kept image left =
          let mid = told_before now d image told left in
          let back = both_from begun.media now.media (λ was is. ChangesBy Plan_of (image_of begun.sizes was) (image_of now.sizes is)) mid.0 under.brought mid.1 in
          let by : ChangesBy (IsOfRecord w) (image_of now.sizes mid.0) image = told_at now.media (λ x. (i : Image) → MayLeave d i → ChangesBy (IsOfRecord w) (image_of now.sizes x) i) mid.0 mid.1 writing image left in
          let stood : StandsOn wd (image_of now.sizes mid.0) disk = told_at now.media (λ x. StandsOn wd (image_of now.sizes x) disk) mid.0 mid.1 under.first in
          kept_by back.0 back.1 image (brought_on (image_of begun.sizes back.0) (image_of now.sizes mid.0) image back.2 by) (stands_still wd (image_of now.sizes mid.0) image by stood) facts kept

      pub finds_on : (d : Device) → IsWriting (IsOfRecord w) now d → FindsNoMoreOn turn.next.now begun d
      finds_on d writing image left = if_told begun.media (λ media. FindsNoMore turn.next.now (contents_of (image_of begun.sizes media)) (contents_of image)) (λ media told.
          let mid = both_at begun.media now.media (λ was is. ChangesBy Plan_of (image_of begun.sizes was) (image_of now.sizes is)) media under.brought told in
          let by : ChangesBy (IsOfRecord w) (image_of now.sizes mid.0) image = told_at now.media (λ x. (i : Image) → MayLeave d i → ChangesBy (IsOfRecord w) (image_of now.sizes x) i) mid.0 mid.1 writing image left in
          let stood : StandsOn wd (image_of now.sizes mid.0) disk = told_at now.media (λ x. StandsOn wd (image_of now.sizes x) disk) mid.0 mid.1 under.first in
          finds_by media told image (brought_on (image_of begun.sizes media) (image_of now.sizes mid.0) image mid.2 by) (stands_still wd (image_of now.sizes mid.0) image by stood))

      -- and the way goes on
      pub under_still : (new : Device) → KeepsShelf w.targets (IsOfRecord w) now new → IsUnderWay turn disk all stamp homes begun new
      under_still new keeps = record {
        sectors = under.sectors;
        row = under.row;
        its = under.its;
        status = under.status;
        told = under.told;
        lets = under.lets;
        brought = both_then begun.media now.media new.media (λ was is. ChangesBy Plan_of (image_of begun.sizes was) (image_of now.sizes is)) (λ was is. ChangesBy (IsOfRecord w) (image_of now.sizes was) (image_of new.sizes is))
            (λ was is. ChangesBy Plan_of (image_of begun.sizes was) (image_of new.sizes is)) (λ a b c one two. brought_on (image_of begun.sizes a) (image_of now.sizes b) (image_of new.sizes c) one two)
            under.brought keeps.media;
        first = told_still wd new keeps under.first;
        stated = told_still (status_write r disk all homes) new keeps under.stated;
      }

  -- ---- a record of one kind

  module _ (slots : Homes) where
    abbrev Path_from : (Kind → Type 0) → Device → Type 0
    Path_from Left new = Path DeviceStep (StaysKeptFrom turn disk there stamp slots Left now) now new

    apart_of : (d : ℕ) → IsTrue (there d) → d ≢ disk
    apart_of d is same = false≢true (sym may.apart ∙ ap there (sym same) ∙ is)

    -- to the members, and to them with the disk that joins
    moved : (k : Kind) (framed : Framed) (all : Disks) (homes : Homes) → ((d : ℕ) → IsTrue (there d) → IsTrue (all d)) → SparesAs k disk slots homes → (d s : ℕ) (value : Sector) → IsOfRecord (write_of k framed there slots) d s value
        → IsOfRecord (write_of k framed (with_disk disk all) homes) d s value
    moved k framed all homes within spares d s value of = record {
      target = ap (λ (b : Bool). (d == disk) || b) (within d of.target) ∙ or_true (d == disk);
      its = record {
        part = of.its.part;
        inside = of.its.inside;
        place = of.its.place ∙ ap (λ (t : Bool). slot_start k (if t then 1 else 0) + of.its.part) (spares d (apart_of d of.target));
        is = of.its.is;
      };
    }

    abbrev pub w1 : RecordWrite
    w1 = write_of kind.Status r.status there slots

    abbrev pub w2 : RecordWrite
    w2 = write_of kind.Descriptor r.descriptor there slots

    abbrev pub Plan_now : Plan
    Plan_now = IsOfTransition turn there (next_stamp stamp) (next_stamp (next_stamp stamp))

    pub status_path : (p q : ℕ) (new : Device) → DiskWritesLeave there (IsOfRecord w1) p q now new → Path_from Both new
    status_path p q new leaves = map-path (StaysKeptFrom turn disk there stamp slots Both now)
        (λ d is all homes begun under within spares. kept_on all homes begun under w1 (λ e s value of. inl (moved kind.Status r.status all homes within (spares kind.Status tt) e s value of)) may.apart d is.0 is.1) (with_told leaves.moments)

    pub descriptor_path : (p q : ℕ) (new : Device) → DiskWritesLeave there (IsOfRecord w2) p q now new → Path_from Last new
    descriptor_path p q new leaves = map-path (StaysKeptFrom turn disk there stamp slots Last now)
        (λ d is all homes begun under within spares. kept_on all homes begun under w2 (λ e s value of. inr (moved kind.Descriptor r.descriptor all homes within (spares kind.Descriptor refl) e s value of)) may.apart d is.0 is.1)
        (with_told leaves.moments)

    pub status_finds : (p q : ℕ) (new : Device) → DiskWritesLeave there (IsOfRecord w1) p q now new → FindsNoMoreFrom turn disk there stamp slots Both now new
    status_finds p q new leaves all homes begun under within spares =
        finds_on all homes begun under w1 (λ e s value of. inl (moved kind.Status r.status all homes within (spares kind.Status tt) e s value of)) may.apart new (last-path leaves.moments)

    pub descriptor_finds : (p q : ℕ) (new : Device) → DiskWritesLeave there (IsOfRecord w2) p q now new → FindsNoMoreFrom turn disk there stamp slots Last now new
    descriptor_finds p q new leaves all homes begun under within spares =
        finds_on all homes begun under w2 (λ e s value of. inr (moved kind.Descriptor r.descriptor all homes within (spares kind.Descriptor refl) e s value of)) may.apart new (last-path leaves.moments)

    pub nothing_finds : FindsNoMoreFrom turn disk there stamp slots Last now now
    nothing_finds all homes begun under within spares =
        finds_on all homes begun under w2 (λ e s value of. inr (moved kind.Descriptor r.descriptor all homes within (spares kind.Descriptor refl) e s value of)) may.apart now (writing_here (IsOfRecord w2) now may.ready.flights)

    pub nothing_path : Path_from Last now
    nothing_path = Here (λ all homes begun under within spares.
        kept_on all homes begun under w2 (λ e s value of. inr (moved kind.Descriptor r.descriptor all homes within (spares kind.Descriptor refl) e s value of)) may.apart now (writing_here (IsOfRecord w2) now may.ready.flights) refl)

    pub status_keeps : (new : Device) → KeepsShelf there (IsOfRecord w1) now new → KeepsShelf there Plan_now now new
    status_keeps new keeps = keeps_wider there there (IsOfRecord w1) Plan_now now new (λ d off. off) (λ d s value its. record {
      write = w1;
      frames = status_frames;
      which = inl (refl, ap (λ (c : List ℕ). record { stamp = next_stamp stamp; content = c }) may.records.status);
      slots = λ e. place_below (second_slots kind.Status slots e);
      targets = λ e is. is;
      its = its;
    }) keeps

    pub descriptor_keeps : (new : Device) → KeepsShelf there (IsOfRecord w2) now new → KeepsShelf there Plan_now now new
    descriptor_keeps new keeps = keeps_wider there there (IsOfRecord w2) Plan_now now new (λ d off. off) (λ d s value its. record {
      write = w2;
      frames = descriptor_frames;
      which = inr (refl, ap (λ (c : List ℕ). record { stamp = next_stamp (next_stamp stamp); content = c }) may.records.content);
      slots = λ e. place_below (second_slots kind.Descriptor slots e);
      targets = λ e is. is;
      its = its;
    }) keeps

    -- ---- who was reached

    module _ {Stands : Device → ℕ → Type 0} {Next : Disks → Type 0} (number : ℕ) (new : Device) (failed : Disks) (buf : Buffer) (each : EachTried there Stands Next number now new failed buf) where
      abbrev reached : Disks
      reached = written_well there failed

      never_failed : failed disk ≡ false
      never_failed = by (failed disk) refl
        where
          by : (b : Bool) → failed disk ≡ b → failed disk ≡ false
          by true is = absurd (false≢true (sym may.apart ∙ (each.each disk).target is))
          by false is = is

      parts : (a b : Bool) → a && not b ≡ true → (a ≡ true) × (b ≡ false)
      parts true true is = (refl, sym is)
      parts true false is = (refl, refl)
      parts false b is = absurd (false≢true is)

      pub comes : ComesBack (with_disk disk there) (with_disk disk reached) number now new buf
      comes = record {
        ready = each.back.ready;
        cuts = each.back.cuts;
        number_is = each.back.number_is;
        within = λ d is. within (d == disk) (there d) (failed d) is;
        well = λ d is. (each.each d).well (well d (d == disk) refl is);
        badly = λ d is isnt. (each.each d).badly (badly (d == disk) (there d) (failed d) is isnt);
      }
        where
          within : (s t f : Bool) → (s || (t && not f)) ≡ true → (s || t) ≡ true
          within true t f is = refl
          within false t f is = (parts t f is).0

          well : (d : ℕ) (s : Bool) → (d == disk) ≡ s → ((d == disk) || (there d && not (failed d))) ≡ true → failed d ≡ false
          well d true same is = ap failed (eqb-true d disk same) ∙ never_failed
          well d false same is = (parts (there d) (failed d) (sym (ap (λ (b : Bool). b || (there d && not (failed d))) same) ∙ is)).1

          badly : (s t f : Bool) → (s || t) ≡ true → (s || (t && not f)) ≡ false → f ≡ true
          badly true t f is isnt = absurd (false≢true (sym isnt))
          badly false true true is isnt = refl
          badly false true false is isnt = absurd (false≢true (sym isnt))
          badly false false f is isnt = absurd (false≢true is)

    -- by their votes
    pub voted : (number p : ℕ) (new : Device) (set mid : Disks) (buf : Buffer) → ComesBack (with_disk disk there) (with_disk disk mid) number now new buf → set ≡ with_disk disk mid → (result : TransitionEnd) → IsByBoth turn.was.now turn.next.now set buf result
        → SpreadEnds turn disk there number p now new result
    voted number p new set mid buf back set_is (turned.Done written again) by = (
      subst (λ (b : Buffer). ComesBack (with_disk disk there) (has written) number now new b) (sym by.0) (subst (λ (s : Disks). ComesBack (with_disk disk there) s number now new buf) (sym (by.1 ∙ set_is)) back),
      subst (λ (s : Disks). IsTrue (s disk)) (sym (by.1 ∙ set_is)) (or_left (mid disk) (same_itself disk)),
      subst (λ (s : Disks). CanWrite turn.was.now s) (sym by.1) by.2,
      subst (λ (s : Disks). CanWrite turn.next.now s) (sym by.1) by.3,
    )
    voted number p new set mid buf back set_is (turned.WentOff have total written again) by = (
      subst (λ (b : Buffer). ComesBack (with_disk disk there) (has written) number now new b) (sym by.0) (subst (λ (s : Disks). ComesBack (with_disk disk there) s number now new buf) (sym (by.1 ∙ set_is)) back),
      subst (λ (s : Disks). HasFewVotes turn.was.now turn.next.now s have total) (sym by.1) by.2,
    )
    voted number p new set mid buf back set_is turned.Dark by = absurd by
    voted number p new set mid buf back set_is turned.Stuck by = absurd by

    -- nothing was written
    pub here_still : (number : ℕ) (buf : Buffer) → buf.number ≡ number → ComesBack (with_disk disk there) (with_disk disk there) number now now buf
    here_still number buf same = record {
      ready = may.ready;
      cuts = refl;
      number_is = same;
      within = λ d is. is;
      well = λ d is. refl;
      badly = λ d is isnt. absurd (false≢true (sym isnt ∙ is));
    }

    -- ---- the descriptor behind the status

    module _ (number p q : ℕ) (m : Device) (leaves : DiskWritesLeave there (IsOfRecord w1) p q now m) (failed : Disks) (buf : Buffer) (then_slots : Homes)
        (each : EachTried there (StandsTold w1) (λ written. Flips kind.Status written slots then_slots) number now m failed buf) where
      abbrev mid : Disks
      mid = written_well there failed

      was_there : (d : ℕ) → IsTrue (mid d) → IsTrue (there d)
      was_there d is = by (there d) (failed d) is
        where
          by : (a b : Bool) → a && not b ≡ true → a ≡ true
          by true b is = refl
          by false b is = absurd (false≢true is)

      outside : (d : ℕ) → IsFalse (there d) → IsFalse (mid d)
      outside d off = ap (λ (b : Bool). b && not (failed d)) off

      pub may_describe : MaySpread turn disk mid stamp m
      may_describe = record {
        ready = each.back.ready;
        records = may.records;
        valid = may.valid;
        valid_next = may.valid_next;
        low = may.low;
        apart = outside disk may.apart;
        room = λ d is. still_room now m d leaves.keeps.sizes (may.room d (was_there d is));
        epoch = may.epoch;
        bound = may.bound;
        numbers = may.numbers;
      }

      differ : kind.Descriptor ≡ kind.Status → ⊥
      differ e = absurd cc

      module _ (z : ℕ) (new : Device) (result : TransitionEnd) (two : Spreads turn disk mid stamp Last then_slots buf.number q z m new result) where
        rest_path : Path DeviceStep (StaysKeptFrom turn disk there stamp slots Both now) m new
        rest_path = map-path (StaysKeptFrom turn disk there stamp slots Both now)
            (λ d stays all homes begun under within spares. stays all homes begun
            (under_still all homes begun under w1 (λ e s value of. inl (moved kind.Status r.status all homes within (spares kind.Status tt) e s value of)) may.apart m leaves.keeps)
            (λ e is. within e (was_there e is))
            (λ k last. subst (λ (j : Kind). SparesAs j disk then_slots homes) (sym last) (λ e apart. each.next.other kind.Descriptor differ e ∙ spares kind.Descriptor tt e apart)))
            two.kept

        rest_finds : FindsNoMoreFrom turn disk there stamp slots Both now new
        rest_finds all homes begun under within spares = two.finds all homes begun
            (under_still all homes begun under w1 (λ e s value of. inl (moved kind.Status r.status all homes within (spares kind.Status tt) e s value of)) may.apart m leaves.keeps)
            (λ e is. within e (was_there e is))
            (λ k last. subst (λ (j : Kind). SparesAs j disk then_slots homes) (sym last) (λ e apart. each.next.other kind.Descriptor differ e ∙ spares kind.Descriptor tt e apart))

        first_back : ComesBack (with_disk disk there) (with_disk disk mid) number now m buf
        first_back = comes number m failed buf each

        end_by : (x : TransitionEnd) → SpreadEnds turn disk mid buf.number q m new x → SpreadEnds turn disk there number p now new x
        end_by (turned.Done written back) ends = (back_then (with_disk disk there) (with_disk disk mid) (has written) number now m new buf back (path_counts two.kept) first_back ends.0, ends.1, ends.2, ends.3)
        end_by (turned.WentOff have total written back) ends = (back_then (with_disk disk there) (with_disk disk mid) (has written) number now m new buf back (path_counts two.kept) first_back ends.0, ends.1)
        end_by turned.Dark ends = darkened_then number buf.number now m new first_back.number_is first_back.cuts ends
        end_by turned.Stuck ends = given_up_then number buf.number p q now m new first_back.number_is first_back.cuts leaves.spends ends

        pub spread_on : Spreads turn disk there stamp Both slots number p z now new result
        spread_on = record {
          ends = end_by result two.ends;
          keeps = keeps_then there Plan_now now m new (status_keeps m leaves.keeps) (keeps_wider mid there (IsOfTransition turn mid (next_stamp stamp) (next_stamp (next_stamp stamp))) Plan_now m new outside (λ d s value its. record {
            write = its.write;
            frames = its.frames;
            which = its.which;
            slots = its.slots;
            targets = λ e is. was_there e (its.targets e is);
            its = its.its;
          }) two.keeps);
          spends = spends_then p q z now m new leaves.spends two.spends;
          kept = append-path (status_path p q m leaves) rest_path;
          finds = rest_finds;
        }
