-- What the writes of both records do, first to the disk that joins and then to the members.
use Rattle.std.proofs.Common.{◌≡◌, inl, inr, ⊎_elim, ℕ, Bool, true, false, ◌||◌, List, refl, sym, ap, subst, ◌∙◌}
use Rattle.std.specs.Prelude.{◌==◌, IsTrue, IsFalse}
use Rattle.std.proofs.lemmas.Bool.{false≢true, cases_eq}
use Rattle.lvm_num.specs.declared.record.Kind.TheVariants as kind
use Rattle.lvm_num.specs.declared.record.Stamp.{Stamp}
use Rattle.lvm_num.specs.declared.descriptor.PvRow.{PvRow}
use Rattle.lvm_num.specs.declared.status.Status.{Status}
use Rattle.lvm_num.specs.Buffer.{Buffer, Sector}
use Rattle.lvm_num.specs.Disks.{Disks, has}
use Rattle.lvm_num.proofs.Booleans.{or_false, or_left, place_below}
use Rattle.lvm_disk.specs.Device.{Device, image_of, HasSectors}
use Rattle.lvm_disk.specs.Paths.{DeviceStep, Path}
use Rattle.lvm_disk.proofs.PathsLemmas.{map-path, append-path}
use Rattle.lvm_kept.specs.Plans.{ChangesBy}
use Rattle.lvm_status.specs.Rerowed.{IsRerowed}
use Rattle.lvm_steps.specs.Moments.{StaysKept}
use Rattle.lvm_rec.specs.declared.homes.Homes.{Homes}
use Rattle.lvm_rec.specs.Homes.{second_slots}
use Rattle.lvm_write.specs.Written.{KeepsShelf}
use Rattle.lvm_write.proofs.PartsLemmas.Transfers.{keeps_then, spends_then, darkened_then, given_up_then, still_room}
use Rattle.lvm_write.proofs.WrittenLemmas.Writing.{if_told, told_at, both_map}
use Rattle.lvm_commit.specs.Committed.{next_stamp}
use Rattle.lvm_commit.proofs.SettlingLemmas.Chaining.{keeps_wider, path_counts}
use Rattle.lvm_change.specs.declared.turn.Transition.{Transition}
use Rattle.lvm_change.specs.declared.turn.TransitionEnd.{TransitionEnd}
use Rattle.lvm_change.specs.declared.turn.TransitionEnd.TheVariants as turned
use Rattle.lvm_change.specs.Transition.{ComesBack, IsOfTransition}
use Rattle.lvm_change.proofs.TransitionLemmas.{back_then}
use Rattle.lvm_extend_laws.specs.Joining.{with_disk}
use Rattle.lvm_extend_laws.specs.Writing.{IsOfJoining, LetsWrite, status_write, descriptor_write}
use Rattle.lvm_extend.specs.declared.admission.Admitted.{Admitted}
use Rattle.lvm_extend.specs.declared.admission.Admitted.TheVariants as admitted
use Rattle.lvm_extend.specs.declared.joining.JoinEnd.{JoinEnd}
use Rattle.lvm_extend.specs.Admission.{no_disk, alone, join_records, MayAdmit, IsBeforeJoining, Admits}
use Rattle.lvm_extend.specs.Spreading.{Both, IsUnderWay, MaySpread, SpreadEnds, Spreads}
use Rattle.lvm_extend.specs.Joining.{MayMakeJoin, IsBefore, IsToldOf, MakeJoinEnds, JoinGives}
use Rattle.lvm_extend.proofs.AdmissionLemmas.{not_it, status_frames_of, descriptor_frames_of}

module _ (turn : Transition) (disk : ℕ) (there : Disks) (stamp : Stamp) (homes : Homes) (old : Device) (sectors : HasSectors old) (may : MayMakeJoin turn disk there stamp old) where
  abbrev all : Disks
  all = with_disk disk there

  abbrev Plan_of : ℕ → ℕ → Sector → Type 0
  Plan_of = IsOfTransition turn all (next_stamp stamp) (next_stamp (next_stamp stamp))

  pub may_admit : MayAdmit turn disk stamp old
  may_admit = record { ready = may.ready; records = may.records; valid_next = may.valid_next; low = may.low; room = may.own_room; epoch = may.epoch; bound = may.bound; numbers = may.numbers }

  target : (d : ℕ) → IsTrue (alone disk d) → IsTrue (all d)
  target d is = or_left (there d) (sym (or_false (d == disk)) ∙ is)

  member : (d : ℕ) → IsTrue (there d) → IsTrue (all d)
  member d is = by (d == disk)
    where
      by : (b : Bool) → (b || there d) ≡ true
      by true = refl
      by false = is

  off_alone : (d : ℕ) → IsFalse (all d) → IsFalse (alone disk d)
  off_alone d off = by (d == disk) (there d) off
    where
      by : (a b : Bool) → (a || b) ≡ false → (a || false) ≡ false
      by true b is = absurd (false≢true (sym is))
      by false b is = refl

  off_there : (d : ℕ) → IsFalse (all d) → IsFalse (there d)
  off_there d off = by (d == disk) (there d) off
    where
      by : (a b : Bool) → (a || b) ≡ false → b ≡ false
      by true b is = absurd (false≢true (sym is))
      by false b is = is

  before_joining : IsBefore turn disk there stamp homes old → IsBeforeJoining turn disk stamp homes old
  before_joining b = if_told old.media (λ media. (row : PvRow) × (status : Status) × (set : Disks) × (row.disk ≡ disk) × IsRerowed turn.next.now status turn.told.now × LetsWrite (image_of old.sizes media) turn.was.now turn.next.now row status set stamp homes)
      (λ media told. (b.row, b.status, there, b.its, b.told, told_at old.media (λ m. LetsWrite (image_of old.sizes m) turn.was.now turn.next.now b.row b.status there stamp homes) media told b.lets))

  of_transition : (d s : ℕ) (value : Sector) → IsOfJoining (join_records turn stamp) disk no_disk homes d s value → Plan_of d s value
  of_transition d s value (inl its) = record {
    write = status_write (join_records turn stamp) disk no_disk homes;
    frames = status_frames_of turn disk stamp homes old sectors may_admit;
    which = inl (refl, ap (λ (c : List ℕ). record { stamp = next_stamp stamp; content = c }) may.records.status);
    slots = λ e. place_below (second_slots kind.Status homes e);
    targets = target;
    its = its;
  }
  of_transition d s value (inr its) = record {
    write = descriptor_write (join_records turn stamp) disk no_disk homes;
    frames = descriptor_frames_of turn disk stamp homes old sectors may_admit;
    which = inr (refl, ap (λ (c : List ℕ). record { stamp = next_stamp (next_stamp stamp); content = c }) may.records.content);
    slots = λ e. place_below (second_slots kind.Descriptor homes e);
    targets = target;
    its = its;
  }

  module _ (slots : Homes) (number p q : ℕ) (m : Device) where
    first_keeps : (result : Admitted) → Admits turn disk stamp homes slots number p q old m result → KeepsShelf all Plan_of old m
    first_keeps result one = keeps_wider (alone disk) all (IsOfJoining (join_records turn stamp) disk no_disk homes) Plan_of old m off_alone of_transition one.keeps

    first_path : (result : Admitted) → Admits turn disk stamp homes slots number p q old m result → Path DeviceStep (λ d. IsBefore turn disk there stamp homes old → StaysKept old d) old m
    first_path result one = map-path (λ d. IsBefore turn disk there stamp homes old → StaysKept old d) (λ d stays before. stays (before_joining before)) one.kept

    -- it went no further
    pub stopped : (how : Admitted) (result : JoinEnd) → Admits turn disk stamp homes slots number p q old m how → MakeJoinEnds turn disk there number p old m result → JoinGives turn disk there stamp homes number p q old m result
    stopped how result one ends = record { ends = ends; keeps = first_keeps how one; spends = one.spends; kept = first_path how one; finds = λ before. one.finds (before_joining before) }

    -- ---- and the members behind it

    module _ (buf : Buffer) (one : Admits turn disk stamp homes slots number p q old m (admitted.Done buf)) where
      pub may_spread : MaySpread turn disk there stamp m
      may_spread = record {
        ready = one.ends.0.ready;
        records = may.records;
        valid = may.valid;
        valid_next = may.valid_next;
        low = may.low;
        apart = may.apart;
        room = λ d is. still_room old m d one.keeps.sizes (may.room d is);
        epoch = may.epoch;
        bound = may.bound;
        numbers = may.numbers;
      }

      wider : (d s : ℕ) (value : Sector) → IsOfJoining (join_records turn stamp) disk no_disk homes d s value → IsOfJoining (join_records turn stamp) disk there homes d s value
      wider d s value (inl of) = inl (record { target = target d of.target; its = of.its })
      wider d s value (inr of) = inr (record { target = target d of.target; its = of.its })

      under : IsBefore turn disk there stamp homes old → IsUnderWay turn disk there stamp homes old m
      under b = record {
        sectors = sectors;
        row = b.row;
        its = b.its;
        status = b.status;
        told = b.told;
        lets = b.lets;
        brought = both_map old.media m.media (λ was is. ChangesBy (IsOfJoining (join_records turn stamp) disk no_disk homes) (image_of old.sizes was) (image_of m.sizes is))
            (λ was is. ChangesBy (IsOfJoining (join_records turn stamp) disk there homes) (image_of old.sizes was) (image_of m.sizes is)) one.keeps.media
            (λ a k told_a told_k by. record { same = by.same; each = λ d s. ⊎_elim (λ still. inl still) (λ of. inr (wider d s ((image_of m.sizes k).sector d s) of)) (by.each d s) });
        first = one.ends.1.descriptor;
        stated = one.ends.1.status;
      }

      first_back : ComesBack all all number old m buf
      first_back = record {
        ready = one.ends.0.ready;
        cuts = one.ends.0.cuts;
        number_is = one.ends.0.number_is;
        within = λ d is. is;
        well = λ d is. ⊎_elim
            (λ (same : d ≡ disk). subst (λ (e : ℕ). m.counts.faults e ≡ old.counts.faults e) (sym same) one.ends.1.well)
            (λ (apart : d ≡ disk → ⊥). one.keeps.faults d (not_it disk d apart))
            (cases_eq d disk);
        badly = λ d is isnt. absurd (false≢true (sym isnt ∙ is));
      }

      module _ (z : ℕ) (new : Device) (end : TransitionEnd) (two : Spreads turn disk there stamp Both slots buf.number q z m new end) where
        ends_by : (end : TransitionEnd) (result : JoinEnd) → SpreadEnds turn disk there buf.number q m new end → IsToldOf end result → MakeJoinEnds turn disk there number p old new result
        ends_by (turned.Done written back) result ends is = subst (λ (x : JoinEnd). MakeJoinEnds turn disk there number p old new x) (sym is)
            (back_then all all (has written) number old m new buf back (path_counts two.kept) first_back ends.0, ends.1, ends.2, ends.3)
        ends_by (turned.WentOff have total written back) result ends is = subst (λ (x : JoinEnd). MakeJoinEnds turn disk there number p old new x) (sym is)
            (back_then all all (has written) number old m new buf back (path_counts two.kept) first_back ends.0, ends.1)
        ends_by turned.Dark result ends is = subst (λ (x : JoinEnd). MakeJoinEnds turn disk there number p old new x) (sym is) (darkened_then number buf.number old m new first_back.number_is first_back.cuts ends)
        ends_by turned.Stuck result ends is = subst (λ (x : JoinEnd). MakeJoinEnds turn disk there number p old new x) (sym is) (given_up_then number buf.number p q old m new first_back.number_is first_back.cuts one.spends ends)

        pub joined : (result : JoinEnd) → IsToldOf end result → JoinGives turn disk there stamp homes number p z old new result
        joined result is = record {
          ends = ends_by end result two.ends is;
          keeps = keeps_then all Plan_of old m new (first_keeps (admitted.Done buf) one) (keeps_wider there all (IsOfTransition turn there (next_stamp stamp) (next_stamp (next_stamp stamp))) Plan_of m new off_there (λ d s value its. record {
            write = its.write;
            frames = its.frames;
            which = its.which;
            slots = its.slots;
            targets = λ e on. member e (its.targets e on);
            its = its.its;
          }) two.keeps);
          spends = spends_then p q z old m new one.spends two.spends;
          kept = append-path (first_path (admitted.Done buf) one) (map-path (λ d. IsBefore turn disk there stamp homes old → StaysKept old d)
              (λ d stays before. stays there homes old (under before) (λ e on. on) (λ k left. one.ends.1.others k)) two.kept);
          finds = λ before. two.finds there homes old (under before) (λ e on. on) (λ k left. one.ends.1.others k);
        }
