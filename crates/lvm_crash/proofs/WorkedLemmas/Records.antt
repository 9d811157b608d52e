-- Worked sessions with a record out match their shelves.
use Rattle.std.proofs.Common.{◌≡◌, inl, inr, ⊎_elim, ℕ, ◌+◌, ◌-◌, ◌<◌, ◌≤◌, Bool, true, false, ◌&&◌, ◌==◌, List, [], ◌∷◌, length, take, Some, None, refl, sym, ap, subst, ◌∙◌, arith, eqb-true}
use Rattle.std.specs.Prelude.{IsTrue, if◌then◌else◌, nat_lt, nat_le, slice_get}
use Rattle.std.proofs.lemmas.Bool.Decides.{nat_tests}
use Rattle.lvm_num.specs.declared.descriptor.Mode.{Mode}
use Rattle.lvm_num.specs.declared.descriptor.Mode.TheVariants.{Active}
use Rattle.lvm_num.specs.declared.status.Status.{Status}
use Rattle.lvm_num.specs.declared.record.Kind.TheVariants as kind
use Rattle.lvm_num.specs.Buffer.{Sector, IsSector}
use Rattle.lvm_num.specs.Geometry.{sector_of}
use Rattle.lvm_num.specs.Note.{note_in, note_bytes}
use Rattle.lvm_num.specs.Record.{Stamped, Frames, record_sectors, slot_start, stamp_lt}
use Rattle.lvm_num.specs.StatusBytes.{status_of}
use Rattle.lvm_num.proofs.TornLemmas.Fresh.{before_is_fresh}
use Rattle.lvm_kept.specs.passed.Rec.{slot_to_write, MayWrite}
use Rattle.lvm_kept.specs.passed.Disk.{Flight, IsInFlight, written}
use Rattle.lvm_vol.specs.Facts.{Begun}
use Rattle.lvm_kept.specs.Contents.{note_sector, contents_of}
use Rattle.lvm_kept.specs.Examples.{two}
use Rattle.lvm_kept.specs.Group.{names_if}
use Rattle.lvm_kept.specs.Plans.{IsUnderWay}
use Rattle.lvm_kept.specs.Torn.{RecordWrite, on_disk, IsOfRecord, IsOtherOrRecord}
use Rattle.lvm_kept.proofs.TornLemmas.Standing.{zeros-sector}
use Rattle.lvm_invariant.specs.State.{Marks}
use Rattle.lvm_invariant.specs.First.{two_disks, at_rest}
use Rattle.lvm_invariant.specs.Worked.{asked, first_group, updating, noting}
use Rattle.lvm_invariant.proofs.WorkedLemmas.Writes.{records_go_out}
use Rattle.lvm_crash.specs.Session.{HasStatuses}
use Rattle.lvm_crash.specs.Flights.{UpdateIsOut}
use Rattle.lvm_crash.specs.Worked.{Shown, status_shown, sector_to, next_status, framed_next, next_sector, note_shown, device_of, media_of, UpdatingMatches, NotingMatches}
use Rattle.lvm_crash.proofs.LawsLemmas.Ends.{entry_more}
use Rattle.lvm_even.proofs.Lists.{left_of, right_of}
use Rattle.lvm_crash.proofs.WorkedLemmas.Worked.{enough, its_marks}
use Rattle.lvm_crash.proofs.WorkedLemmas.Shelf.{image, room, if_or, second_zero, status_read, status_held, status_none, newest_status, the_status, its_names, describes, fits_still, same_volumes}
use Rattle.lvm_even.proofs.ExamplesLemmas.Slots.{no-magic}

-- a write of one sector brings it to its place
record Went (n first : ℕ) (sector : Sector) (d s : ℕ) (value : Sector) : Type 0 where
  disk : d ≡ n
  place : s ≡ first
  is : value ≡ sector

went : (n first : ℕ) (sector : Sector) (d s : ℕ) (value : Sector) → written (sector_to n first sector) d s ≡ Some value → Went n first sector d s value
went n first sector d s value = by ((n == d) && nat_le first s && nat_lt s (first + 1)) refl
  where
    same : (k : ℕ) → k ≡ 0 → slice_get (sector ∷ []) k ≡ Some value → value ≡ sector
    same k is h = here (sym (ap (slice_get (sector ∷ [])) is) ∙ h)
      where
        here : Some sector ≡ Some value → value ≡ sector
        here e = cc

    by : (t : Bool) → ((n == d) && nat_le first s && nat_lt s (first + 1)) ≡ t → (if t then slice_get (sector ∷ []) (s - first) else None) ≡ Some value → Went n first sector d s value
    by true is h =
        let low : IsTrue (nat_le first s) = right_of (n == d) (nat_le first s) (left_of ((n == d) && nat_le first s) (nat_lt s (first + 1)) is) in
        let high : IsTrue (nat_lt s (first + 1)) = right_of ((n == d) && nat_le first s) (nat_lt s (first + 1)) is in
        let from : first ≤ s = grind (arith, nat_tests) in
        let to : s < first + 1 = grind (arith, nat_tests) in
        record {
          disk = sym (eqb-true n d (left_of (n == d) (nat_le first s) (left_of ((n == d) && nat_le first s) (nat_lt s (first + 1)) is)));
          place = omega (arith, from, to);
          is = same (s - first) (omega (arith, from, to)) h;
        }
    by false is h = absurd cc

-- ---- an update of the status

abbrev at_rest_in : Mode → Shown
at_rest_in mode = record { mode = mode; stale = false; dirty = false; named = false }

abbrev both_slots : List Flight
both_slots = sector_to 0 128 next_sector ∷ sector_to 1 128 next_sector ∷ []

of_update : (d s : ℕ) (value : Sector) → IsInFlight both_slots d s value → IsTrue (two_disks d) × (s ≡ 128) × (value ≡ next_sector)
of_update d s value (inl h) = let f = went 0 128 next_sector d s value h in (subst (λ (n : ℕ). IsTrue (two_disks n)) (sym f.disk) refl, f.place, f.is)
of_update d s value (inr (inl h)) = let f = went 1 128 next_sector d s value h in (subst (λ (n : ℕ). IsTrue (two_disks n)) (sym f.disk) refl, f.place, f.is)
of_update d s value (inr (inr none)) = absurd none

-- the record goes to the second slot of both disks
abbrev update_write : RecordWrite
update_write = record { kind = kind.Status; framed = framed_next; targets = two_disks; slots = λ d. 1 }

next_frames : Frames kind.Status framed_next
next_frames = record { some_epoch = λ e. omega (arith, e); epoch = omega arith; some_seq = λ e. omega (arith, e); seq = omega arith; content = omega arith }

one_sector : 0 < record_sectors (length framed_next.content)
one_sector = omega arith

of_record : (d s : ℕ) (value : Sector) → IsInFlight both_slots d s value → IsOfRecord update_write d s value
of_record d s value flies = let f = of_update d s value flies in record { target = f.0; its = record { part = 0; inside = one_sector; place = f.1; is = f.2 } }

may_write : (mode : Mode) (d : ℕ) → MayWrite Status status_of (on_disk update_write d) next_status.value (media_of (at_rest_in mode) d)
may_write mode d =
    let w = at_rest_in mode in
    record {
      frames = next_frames;
      reads = status_read (record w { stale = true }) true false refl refl;
      slot = let first = status_held w d in let second = status_none w d in sym (λ t. slot_to_write (first t) (second t));
      whole = λ k low. subst (λ (x : Sector). IsSector x) (sym (second_zero w kind.Status d k low)) zeros-sector;
      fresh = before_is_fresh kind.Status framed_next (slot_start kind.Status 1) (media_of w d) next_frames (λ k low magic. absurd (no-magic kind.Status (ap (take 2) (sym (second_zero w kind.Status d k low)) ∙ magic)));
      later = λ y is. ap (λ (r : Stamped Status). stamp_lt r.stamp next_status.stamp) (same w y (sym (newest_status w d) ∙ is));
    }
  where
    same : (w : Shown) (y : Stamped Status) → Some (status_shown w) ≡ Some y → y ≡ status_shown w
    same w y e = cc

its_statuses : (mode : Mode) → HasStatuses (updating mode) (two mode) (Some next_status) (contents_of (image (at_rest_in mode)))
its_statuses mode = record {
  same = ap (λ (m : Marks). Some (record { stamp = next_status.stamp; value = m })) (sym (ap (λ (r : Stamped Marks). r.value) (its_marks (record (at_rest_in mode) { stale = true }))));
  own = λ u e. own u e;
  once = λ d e r u is also ids stamps. the_status (at_rest_in mode) d r is ∙ sym (the_status (at_rest_in mode) e u also);
  new = λ u d r e is ids stamps. absurd (older u r e (the_status (at_rest_in mode) d r is) stamps);
}
  where
    own : (u : Stamped Status) → Some next_status ≡ Some u → u.value.id ≡ 50
    own u e = ap (λ (r : Stamped Status). r.value.id) (last u e)
      where
        last : (u : Stamped Status) → Some next_status ≡ Some u → u ≡ next_status
        last u e = cc

    older : (u r : Stamped Status) → Some next_status ≡ Some u → r ≡ status_shown (at_rest_in mode) → r.stamp ≡ u.stamp → ⊥
    older u r e is stamps = differ (sym (ap (λ (x : Stamped Status). x.stamp.seq) is) ∙ ap (λ x. x.seq) stamps ∙ ap (λ (x : Stamped Status). x.stamp.seq) (last u e))
      where
        last : (u : Stamped Status) → Some next_status ≡ Some u → u ≡ next_status
        last u e = cc

        differ : ◌≡◌ {A = ℕ} 1 2 → ⊥
        differ e = absurd (omega (arith, e))

-- what a loss of power leaves is by the record
under_way : (mode : Mode) → IsUnderWay (IsOtherOrRecord update_write) (image (at_rest_in mode)) (device_of (at_rest_in mode) both_slots)
under_way mode = record {
  images = λ left may. record { same = may.same; each = λ d s. ⊎_elim (λ same. inl same) (λ flies. inr (inr (inr (of_record d s (left.sector d s) flies)))) (may.each d s) };
  flights = λ d s value flies. inr (inr (of_record d s value flies));
}

update_is_out : (mode : Mode) → UpdateIsOut (updating mode) (device_of (at_rest_in mode) both_slots) next_status
update_is_out mode = record {
  write = update_write;
  is_status = refl;
  stamp = refl;
  began = image (at_rest_in mode);
  may = record {
    frames = next_frames;
    slots = λ d. omega arith;
    there = λ d is. room (at_rest_in mode) d ∙ if_or (at_rest_in mode) (d == 0) (d == 1) ∙ is;
    each = λ d is. may_write mode d;
  };
  way = under_way mode;
  flying = λ d at value flies its. its.target;
}

pub updating_matches : UpdatingMatches
updating_matches mode = record {
  good = λ votes are. (records_go_out votes mode (are.writes two_disks ∙ enough mode)).0.reached.good;
  matches = let w = at_rest_in mode in record {
    told = refl;
    describes = describes w (updating mode) (Some next_status) (record {
      block = λ lv b p. refl;
      beside = refl;
      names = λ d lv g. refl;
      status = λ d. refl;
      statuses = its_statuses mode;
      volumes = λ facts v. same_volumes (at_rest mode false) (updating mode) refl facts _ _ v;
    });
    out = record {
      blocks = λ lv b p value copy flies. absurd (omega (arith, (of_update p.disk (sector_of 1 p.pp b) value flies).1));
      notes = λ d value flies. absurd (omega (arith, (of_update d 8 value flies).1));
      statuses = update_is_out mode;
      descriptors = λ d at value flies. let place = (of_update d at value flies).1 in inl (omega (arith, place));
      raw = λ d at value none from flies. absurd (omega (arith, from, (of_update d at value flies).1));
    };
  };
}

-- ---- a note

abbrev one_note : List Flight
one_note = sector_to 0 note_sector (note_bytes note_shown) ∷ []

of_note : (d s : ℕ) (value : Sector) → IsInFlight one_note d s value → Went 0 note_sector (note_bytes note_shown) d s value
of_note d s value (inl h) = went 0 note_sector (note_bytes note_shown) d s value h
of_note d s value (inr none) = absurd none

pub noting_matches : NotingMatches
noting_matches = record {
  good = λ votes are. (records_go_out votes Active (are.writes two_disks ∙ enough Active)).1.reached.good;
  matches = let w = at_rest_in Active in record {
    told = refl;
    describes = entry_more noting (two Active) None _ (at_rest Active false).facts (Begun asked) (1, refl, refl) (describes w noting None (fits_still w noting (λ lv b p. refl) (λ d lv g. refl) (λ d. refl) refl refl));
    out = record {
      blocks = λ lv b p value copy flies. absurd (omega (arith, (of_note p.disk (sector_of 1 p.pp b) value flies).place));
      notes = λ d value flies.
          let f = of_note d 8 value flies in
          (first_group, ap (λ (n : ℕ). if n == 0 then Some first_group else None) f.disk, λ lv g. ap (λ (x : Sector). names_if (note_in x) lv g) f.is ∙ its_names w lv g);
      statuses = λ d at value flies. let place = (of_note d at value flies).place in inl (omega (arith, place));
      descriptors = λ d at value flies. let place = (of_note d at value flies).place in inl (omega (arith, place));
      raw = λ d at value none from flies. absurd (omega (arith, from, (of_note d at value flies).place));
    };
  };
}
