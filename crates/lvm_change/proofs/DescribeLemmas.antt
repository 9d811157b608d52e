-- What a turn does, one record behind the other.
use Rattle.std.proofs.Common.{◌≡◌, inl, inr, ⊎_elim, ℕ, ◌+◌, Bool, ◌&&◌, not, List, IfSome, IsTrue, IsFalse, Ok, refl, sym, ap, subst, ◌∙◌, arith}
use Rattle.std.specs.Prelude.{if◌then◌else◌}
use Rattle.lvm_num.specs.declared.record.Kind.TheVariants as kind
use Rattle.lvm_num.specs.declared.record.Stamp.{Stamp}
use Rattle.lvm_num.specs.declared.descriptor.Descriptor.{Descriptor}
use Rattle.lvm_num.specs.Buffer.{Buffer, Sector}
use Rattle.lvm_num.specs.Disks.{Disks, has}
use Rattle.lvm_num.specs.DescriptorBytes.{descriptor_of}
use Rattle.lvm_num.specs.StatusBytes.{status_of}
use Rattle.lvm_num.specs.Record.{Frames}
use Rattle.lvm_num.specs.Votes.{CanWrite}
use Rattle.lvm_num.proofs.Booleans.{place_below}
use Rattle.lvm_disk.specs.Device.{Media, Device, image_of, HasSectors}
use Rattle.lvm_disk.specs.Steps.{BothTold}
use Rattle.lvm_disk.specs.Paths.{DeviceStep, Path, Here}
use Rattle.lvm_disk.proofs.PathsLemmas.{map-path, append-path, last-path}
use Rattle.lvm_kept.specs.Contents.{contents_of}
use Rattle.lvm_kept.specs.Group.{IsFound}
use Rattle.lvm_kept.specs.Plans.{ChangesBy}
use Rattle.lvm_kept.specs.Torn.{RecordWrite, IsOfRecord}
use Rattle.lvm_steps.specs.Moments.{StaysKept}
use Rattle.lvm_steps.proofs.MakingLemmas.Making.{media_may}
use Rattle.lvm_steps.proofs.RecordLemmas.{clash}
use Rattle.lvm_rec.specs.declared.homes.Homes.{Homes}
use Rattle.lvm_rec.specs.Homes.{Flips, second_slots}
use Rattle.lvm_write.specs.Writes.{DiskWritesLeave, EachTried}
use Rattle.lvm_write.specs.Written.{write_of, KeepsShelf, StandsTold, written_well}
use Rattle.lvm_write.proofs.passed.Vgda.{spelled_is_read}
use Rattle.lvm_write.proofs.passed.Vgsa.{is_read_again}
use Rattle.lvm_write.proofs.PartsLemmas.Transfers.{keeps_here, keeps_then, spends_none, spends_then, darkened_then, given_up_then, still_room}
use Rattle.lvm_write.proofs.WrittenLemmas.Writing.{if_told, told_at, both_at, writing_here}
use Rattle.lvm_commit.specs.Committed.{next_stamp}
use Rattle.lvm_commit.specs.LawsOfFinding.{FindsNothingNew, FindsNoMore, FindsNothingNewOn, FindsNoMoreOn}
use Rattle.lvm_commit.proofs.SettlingLemmas.Chaining.{path_counts, keeps_wider}
use Rattle.lvm_commit.proofs.LawsOfWritesLemmas.Holding.{with_told}
use Rattle.lvm_change_laws.specs.Rule.{members_among, IsShownOn}
use Rattle.lvm_change.specs.declared.turn.Transition.{Transition}
use Rattle.lvm_change.specs.declared.turn.TransitionEnd.{TransitionEnd}
use Rattle.lvm_change.specs.declared.turn.TransitionEnd.TheVariants as turned
use Rattle.lvm_change.specs.Transition.{MayMakeTransition, MayDescribe, HoldsBy, IsBefore, IsBetween, IsOfTransition, IsByBoth, HasFewVotes, ComesBack, IsTransitionEnd, TransitionGives, DescriptionGives}
use Rattle.lvm_change.proofs.TransitionLemmas.{comes_back, status_kept, status_finds, status_held, status_opens, descriptor_kept, descriptor_finds, descriptor_held, descriptor_shown, back_then}

-- ---- the descriptor

module _ (turn : Transition) (there : Disks) (stamp : Stamp) (homes : Homes) (old : Device) (sectors : HasSectors old) (may : MayDescribe turn there stamp old) where
  abbrev pub wd : RecordWrite
  wd = write_of kind.Descriptor (record { stamp = next_stamp stamp; content = turn.content.now }) there homes

  abbrev Between : Type 0
  Between = IsBetween turn there stamp homes old

  pub frames : Frames kind.Descriptor (record { stamp = next_stamp stamp; content = turn.content.now })
  frames = record { some_epoch = may.epoch; epoch = may.bound; some_seq = λ e. absurd (zero_is e); seq = (let n = may.numbers in omega (arith, n)); content = may.records.fits }
    where
      zero_is : stamp.seq + 1 ≡ 0 → ⊥
      zero_is e = omega (arith, e)

  reads : descriptor_of turn.content.now ≡ Ok turn.next.now
  reads = ap descriptor_of may.records.content ∙ spelled_is_read turn.next.now may.valid_next

  -- nothing was written
  pub nothing : (number p : ℕ) (buf : Buffer) (result : TransitionEnd) → buf.number ≡ number → ((written : ℕ) (back : Buffer) → result ≡ turned.Done written back → ⊥) → IsByBoth turn.was.now turn.next.now there buf result
      → DescriptionGives turn there stamp homes homes number p p old old result
  nothing number p buf result same never by = record {
    ends = ends result never by;
    keeps = keeps_here there (IsOfTransition turn there stamp (next_stamp stamp)) old;
    spends = spends_none p old;
    kept = Here (λ between facts kept. kept);
    finds = λ between. descriptor_finds turn.was.now turn.next.now turn.told.now turn.content.now there stamp homes old sectors frames reads old (writing_here (IsOfRecord wd) old may.ready.flights) between.0;
  }
    where
      ends : (result : TransitionEnd) → ((written : ℕ) (back : Buffer) → result ≡ turned.Done written back → ⊥) → IsByBoth turn.was.now turn.next.now there buf result → IsTransitionEnd turn Between there (next_stamp stamp) homes homes number p old old result
      ends (turned.Done written back) never by = absurd (never written back refl)
      ends (turned.WentOff have total written back) never by = (
        subst (λ (set : Disks). ComesBack there set number old old back) (sym by.1) (record {
          ready = may.ready;
          cuts = refl;
          number_is = ap (λ (b : Buffer). b.number) by.0 ∙ same;
          within = λ d is. is;
          well = λ d is. refl;
          badly = λ d is isnt. absurd (clash (there d) is isnt);
        }),
        subst (λ (set : Disks). HasFewVotes turn.was.now turn.next.now set have total) (sym by.1) by.2,
      )
      ends turned.Dark never by = absurd by
      ends turned.Stuck never by = absurd by

  module _ (enough : CanWrite turn.was.now there) (enough_too : CanWrite turn.next.now there) (slots : Homes) (number p q : ℕ) (new : Device) (leaves : DiskWritesLeave there (IsOfRecord wd) p q old new) where
    of_turn : (d s : ℕ) (value : Sector) → IsOfRecord wd d s value → IsOfTransition turn there stamp (next_stamp stamp) d s value
    of_turn d s value its = record {
      write = wd;
      frames = frames;
      which = inr (refl, ap (λ (c : List ℕ). record { stamp = next_stamp stamp; content = c }) may.records.content);
      slots = λ disk. place_below (second_slots kind.Descriptor homes disk);
      targets = λ disk is. is;
      its = its;
    }

    pub described : (result : TransitionEnd) → IsTransitionEnd turn Between there (next_stamp stamp) homes slots number p old new result → DescriptionGives turn there stamp homes slots number p q old new result
    described result ends = record {
      ends = ends;
      keeps = keeps_wider there there (IsOfRecord wd) (IsOfTransition turn there stamp (next_stamp stamp)) old new (λ d off. off) of_turn leaves.keeps;
      spends = leaves.spends;
      kept = map-path (λ d. Between → StaysKept old d)
          (λ d is between. descriptor_kept turn.was.now turn.next.now turn.told.now turn.content.now there stamp homes old sectors frames reads enough enough_too d is.0 is.1 between.1 between.0) (with_told leaves.moments);
      finds = λ between. descriptor_finds turn.was.now turn.next.now turn.told.now turn.content.now there stamp homes old sectors frames reads new (last-path leaves.moments) between.0;
    }

    pub tried : (failed set : Disks) (buf : Buffer) → EachTried there (StandsTold wd) (λ written. Flips kind.Descriptor written homes slots) number old new failed buf → set ≡ written_well there failed → (result : TransitionEnd)
        → IsByBoth turn.was.now turn.next.now set buf result → IsTransitionEnd turn Between there (next_stamp stamp) homes slots number p old new result
    tried failed set buf each set_is result by = ends result by
      where
        comes : (written : Disks) (back : Buffer) → back ≡ buf → written ≡ set → ComesBack there written number old new back
        comes written back same is = subst (λ (b : Buffer). ComesBack there written number old new b) (sym same) (subst (λ (s : Disks). ComesBack there s number old new buf) (sym (is ∙ set_is))
            (comes_back turn.was.now turn.told.now kind.Descriptor turn.content.now there stamp homes old sectors slots new failed number buf each))

        ends : (result : TransitionEnd) → IsByBoth turn.was.now turn.next.now set buf result → IsTransitionEnd turn Between there (next_stamp stamp) homes slots number p old new result
        ends (turned.Done written back) by = (
          comes (has written) back by.0 by.1,
          record {
            enough = subst (λ (s : Disks). CanWrite turn.was.now s) (sym by.1) by.2;
            enough_too = subst (λ (s : Disks). CanWrite turn.next.now s) (sym by.1) by.3;
            held = λ between. subst (λ (s : Disks). HoldsBy new turn.next.now turn.told.now (members_among turn.next.now s) (next_stamp stamp) slots) (sym (by.1 ∙ set_is))
                (descriptor_held turn.was.now turn.next.now turn.told.now turn.content.now there stamp homes old sectors frames reads enough enough_too slots new failed number buf each leaves.keeps
                (subst (λ (s : Disks). CanWrite turn.was.now s) set_is by.2) (subst (λ (s : Disks). CanWrite turn.next.now s) set_is by.3) between.1 between.0);
            shown = λ between. subst (λ (s : Disks). IfSome new.media (λ media. (disk : ℕ) → IsTrue (s disk) → IsShownOn (image_of new.sizes media) turn.next.now homes disk)) (sym (by.1 ∙ set_is))
                (descriptor_shown turn.was.now turn.next.now turn.told.now turn.content.now there stamp homes old sectors frames reads enough enough_too slots new failed number buf each leaves.keeps between.1 between.0);
          },
        )
        ends (turned.WentOff have total written back) by = (comes (has written) back by.0 by.1, subst (λ (s : Disks). HasFewVotes turn.was.now turn.next.now s have total) (sym by.1) by.2)
        ends turned.Dark by = absurd by
        ends turned.Stuck by = absurd by

-- ---- the status, and the descriptor behind it

-- what is found stays where first nothing new is, and then at most the next descriptor
pub then_more : (next : Descriptor) (old m new : Device) (R : Media → Media → Type 0) → BothTold old.media m.media R → FindsNothingNewOn old m → FindsNoMoreOn next m new → FindsNoMoreOn next old new
then_more next old m new R both first second image left = if_told old.media (λ media. FindsNoMore next (contents_of (image_of old.sizes media)) (contents_of image)) (λ media told id k is.
    let mid = both_at old.media m.media R media both told in
    ⊎_elim
    (λ (before : IsFound (contents_of (image_of m.sizes mid.0)) id k). inl (told_at old.media (λ x. FindsNothingNew (contents_of (image_of old.sizes x)) (contents_of (image_of m.sizes mid.0))) media told (first (image_of m.sizes mid.0) (media_may m mid.0 mid.1)) id k before))
    (λ (it : (id ≡ next.id) × (k ≡ next)). inr it)
    (told_at m.media (λ x. FindsNoMore next (contents_of (image_of m.sizes x)) (contents_of image)) mid.0 mid.1 (second image left) id k is))

module _ (turn : Transition) (there : Disks) (stamp : Stamp) (homes : Homes) (old : Device) (sectors : HasSectors old) (may : MayMakeTransition turn there stamp old) where
  abbrev pub ws : RecordWrite
  ws = write_of kind.Status (record { stamp = next_stamp stamp; content = turn.status.now }) there homes

  abbrev Before : Type 0
  Before = IsBefore turn there stamp homes old

  abbrev Plan_of : ℕ → ℕ → Sector → Type 0
  Plan_of = IsOfTransition turn there (next_stamp stamp) (next_stamp (next_stamp stamp))

  pub status_frames : Frames kind.Status (record { stamp = next_stamp stamp; content = turn.status.now })
  status_frames = record { some_epoch = may.epoch; epoch = may.bound; some_seq = λ e. absurd (zero_is e); seq = (let n = may.numbers in omega (arith, n)); content = may.records.status_fits }
    where
      zero_is : stamp.seq + 1 ≡ 0 → ⊥
      zero_is e = omega (arith, e)

  status_reads : status_of turn.status.now ≡ Ok turn.told.now
  status_reads = ap status_of may.records.status ∙ is_read_again turn.told.now may.records.told

  module _ (slots : Homes) (number p q : ℕ) (m : Device) (leaves : DiskWritesLeave there (IsOfRecord ws) p q old m) where
    status_of_turn : (d s : ℕ) (value : Sector) → IsOfRecord ws d s value → Plan_of d s value
    status_of_turn d s value its = record {
      write = ws;
      frames = status_frames;
      which = inl (refl, ap (λ (c : List ℕ). record { stamp = next_stamp stamp; content = c }) may.records.status);
      slots = λ disk. place_below (second_slots kind.Status homes disk);
      targets = λ disk is. is;
      its = its;
    }

    status_keeps : KeepsShelf there Plan_of old m
    status_keeps = keeps_wider there there (IsOfRecord ws) Plan_of old m (λ d off. off) status_of_turn leaves.keeps

    status_path : Path DeviceStep (λ d. Before → StaysKept old d) old m
    status_path = map-path (λ d. Before → StaysKept old d)
        (λ d is before. status_kept turn.was.now turn.next.now before.0 turn.told.now turn.status.now there stamp homes old sectors status_frames status_reads d is.0 is.1 may.leaves may.change before.1 before.2) (with_told leaves.moments)

    status_no_more : Before → FindsNothingNewOn old m
    status_no_more before = status_finds turn.was.now turn.next.now before.0 turn.told.now turn.status.now there stamp homes old sectors status_frames status_reads m (last-path leaves.moments) before.2

    -- it was broken off
    pub broken_off : (result : TransitionEnd) → IsTransitionEnd turn Before there (next_stamp (next_stamp stamp)) homes slots number p old m result → TransitionGives turn there stamp homes slots number p q old m result
    broken_off result ends = record {
      ends = ends;
      keeps = status_keeps;
      spends = leaves.spends;
      kept = status_path;
      finds = λ before image left. if_told old.media (λ media. FindsNoMore turn.next.now (contents_of (image_of old.sizes media)) (contents_of image)) (λ media told id k is.
          inl (told_at old.media (λ x. FindsNothingNew (contents_of (image_of old.sizes x)) (contents_of image)) media told (status_no_more before image left) id k is));
    }

    module _ (failed : Disks) (buf : Buffer) (each : EachTried there (StandsTold ws) (λ written. Flips kind.Status written homes slots) number old m failed buf) where
      abbrev set : Disks
      set = written_well there failed

      pub may_describe : MayDescribe turn set (next_stamp stamp) m
      may_describe = record {
        ready = each.back.ready;
        records = may.records;
        valid = may.change.valid;
        valid_next = may.change.valid_next;
        room = λ d is. still_room old m d leaves.keeps.sizes (may.room d ((status_back).within d is));
        epoch = may.epoch;
        bound = may.bound;
        numbers = (let n = may.numbers in omega (arith, n));
      }
        where
          status_back : ComesBack there set number old m buf
          status_back = comes_back turn.was.now turn.told.now kind.Status turn.status.now there stamp homes old sectors slots m failed number buf each

      status_comes : ComesBack there set number old m buf
      status_comes = comes_back turn.was.now turn.told.now kind.Status turn.status.now there stamp homes old sectors slots m failed number buf each

      between : Before → IsBetween turn set (next_stamp stamp) slots m
      between before = (
        status_held turn.was.now turn.next.now before.0 turn.told.now turn.status.now there stamp homes old sectors status_frames status_reads slots m failed number buf each leaves.keeps before.1 before.2,
        status_opens turn.was.now turn.next.now before.0 turn.told.now turn.status.now there stamp homes old sectors status_frames status_reads slots m failed number buf each leaves.keeps may.leaves may.change before.2,
      )

      module _ (final : Homes) (r : ℕ) (new : Device) (result : TransitionEnd) (two : DescriptionGives turn set (next_stamp stamp) slots final buf.number q r m new result) where
        rest_of_turn : (d s : ℕ) (value : Sector) → IsOfTransition turn set (next_stamp stamp) (next_stamp (next_stamp stamp)) d s value → Plan_of d s value
        rest_of_turn d s value its = record {
          write = its.write;
          frames = its.frames;
          which = its.which;
          slots = its.slots;
          targets = λ disk is. status_comes.within disk (its.targets disk is);
          its = its.its;
        }

        outside : (d : ℕ) → IsFalse (there d) → IsFalse (set d)
        outside d off = ap (λ b. b && not (failed d)) off

        other_kind : kind.Descriptor ≡ kind.Status → ⊥
        other_kind e = absurd cc

        turn_ends : (x : TransitionEnd) → IsTransitionEnd turn (IsBetween turn set (next_stamp stamp) slots m) set (next_stamp (next_stamp stamp)) slots final buf.number q m new x → IsTransitionEnd turn Before there (next_stamp (next_stamp stamp)) homes final number p old new x
        turn_ends (turned.Done written back) ends = (
          back_then there set (has written) number old m new buf back (path_counts two.kept) status_comes ends.0,
          record {
            enough = ends.1.enough;
            enough_too = ends.1.enough_too;
            held = λ before. ends.1.held (between before);
            shown = λ before. if_told new.media (λ media. (disk : ℕ) → IsTrue (has written disk) → IsShownOn (image_of new.sizes media) turn.next.now homes disk) (λ media told disk is.
                let its = told_at new.media (λ m. (d : ℕ) → IsTrue (has written d) → IsShownOn (image_of new.sizes m) turn.next.now slots d) media told (ends.1.shown (between before)) disk is in
                record {
                  record_is = its.record_is;
                  value = its.value;
                  shown = its.shown;
                  older = its.older ∙ ap (λ (b : Bool). if b then 0 else 1) (each.next.other kind.Descriptor other_kind disk);
                });
          },
        )
        turn_ends (turned.WentOff have total written back) ends = (back_then there set (has written) number old m new buf back (path_counts two.kept) status_comes ends.0, ends.1)
        turn_ends turned.Dark ends = darkened_then number buf.number old m new status_comes.number_is status_comes.cuts ends
        turn_ends turned.Stuck ends = given_up_then number buf.number p q old m new status_comes.number_is status_comes.cuts leaves.spends ends

        pub turned_on : TransitionGives turn there stamp homes final number p r old new result
        turned_on = record {
          ends = turn_ends result two.ends;
          keeps = keeps_then there Plan_of old m new status_keeps (keeps_wider set there (IsOfTransition turn set (next_stamp stamp) (next_stamp (next_stamp stamp))) Plan_of m new outside rest_of_turn two.keeps);
          spends = spends_then p q r old m new leaves.spends two.spends;
          kept = append-path status_path (map-path (λ d. Before → StaysKept old d) (λ d stays before facts kept. stays (between before) facts (last-path status_path before facts kept)) two.kept);
          finds = λ before. then_more turn.next.now old m new (λ was is. ChangesBy (IsOfRecord ws) (image_of old.sizes was) (image_of m.sizes is)) leaves.keeps.media (status_no_more before) (two.finds (between before));
        }
