-- A write of a record has ended, and its buffer is back: what is left is sound, whatever the review makes of the copy.
use Rattle.std.proofs.Common.{◌≡◌, ◌⊎◌, ◌==◌, ◌≤◌, ◌+◌, ℕ, Bool, true, false, List, [], ◌∷◌, Option, Some, None, slice_get, sym, ◌∙◌, ap, arith}
use Rattle.std.specs.Prelude.{IfSome, count_by, is_some, slice_index_or, slice_set}
use Rattle.std.specs.List.{remove, AllByRecursion}
use Rattle.std.specs.Option.{option_map_or}
use Rattle.lvm_num.specs.Buffer.{Buffer}
use Rattle.lvm_num.specs.declared.record.Kind.TheVariants as kind
use Rattle.lvm_num.specs.declared.record.Stamp.{Stamp}
use Rattle.lvm_num.specs.Disks.{has}
use Rattle.lvm_num.specs.Note.{note_bytes}
use Rattle.lvm_num.specs.Record.{frame, slot_start}
use Rattle.lvm_num.specs.StatusBytes.{status_bytes}
use Rattle.lvm_num.proofs.Lists.{length_set}
use Rattle.lvm_disk.specs.Counts.{Counts, Rose}
use Rattle.lvm_disk.specs.Device.{Flight, Media}
use Rattle.lvm_mwc.specs.Cache.{flight_on, has_disk}
use Rattle.lvm_mwc.specs.declared.notes.DiskNotes.{DiskNotes}
use Rattle.lvm_status.specs.Update.{Stored, Updates}
use Rattle.lvm_rec.specs.declared.homes.Homes.{Homes}
use Rattle.lvm_rec.specs.Homes.{next_slot}
use Rattle.lvm_session.specs.declared.bringing.OpenCopy.{OpenCopy}
use Rattle.lvm_session.specs.declared.flown.Flown.{Flown}
use Rattle.lvm_session.specs.declared.flown.Owner.{Owner}
use Rattle.lvm_session.specs.declared.flown.Owner.TheVariants as owner
use Rattle.lvm_session.specs.declared.open.Power.TheVariants as power
use Rattle.lvm_session.specs.State.{Core, State, state}
use Rattle.lvm_session.specs.Judging.{copies_in, is_missing}
use Rattle.lvm_session.specs.Bringing.{end_of}
use Rattle.lvm_session.specs.Marks.{Reviews}
use Rattle.lvm_session.specs.Causes.{IsCausedAmong}
use Rattle.lvm_session.specs.Owners.{AreOwned, AreRows, IsTransferOf, flies, same_owner}
use Rattle.lvm_session.specs.Sound.{IsGoing, IsSound, count_if, has_number, is_dark, is_hand}
use Rattle.lvm_keeps.proofs.DarkLemmas.Ending.{back}
use Rattle.lvm_keeps.proofs.Lists.{all_removed}
use Rattle.lvm_keeps.proofs.OwnersLemmas.Rows.{all_fly}
use Rattle.lvm_keeps_events.proofs.OwnersLemmas.Removal.{as_many, count_taken, others, rows_left, tickets_left}
use Rattle.lvm_keeps_events.proofs.SoundLemmas.Copies.{Brings, at_end, by_review, ends_so, goes_on, going_on}
use Rattle.lvm_keeps_events.proofs.CallsLemmas.{Follows}
use Rattle.lvm_keeps_events.proofs.Keeping.{e, keeps, one_over, still_caused}
use Rattle.lvm_keeps_events.proofs.JudgingLemmas.Requests.{NamesStay}
use Rattle.lvm_keeps_events.proofs.JudgingLemmas.Review.{WriteEnd, Reviewed, mid, now}

module _ (old : State) (sound : IsSound old) (on : old.core.power ≡ power.On) (disk : ℕ) (next : Stored) (follows : Follows old.core disk next) (notes : List DiskNotes) (homes : Homes)
    (at : ℕ) (row : Flown) (there : slice_get old.core.flying at ≡ Some row) (f : Flight) (f_there : slice_get old.device.flights at ≡ Some f) (buf : Buffer) (number : buf.number ≡ f.buf.number) where
  abbrev core : Core
  core = old.core

  abbrev flying : List Flown
  flying = remove old.core.flying at

  abbrev pool : List Bool
  pool = slice_set old.core.pool buf.number false

  abbrev flights : List Flight
  flights = remove old.device.flights at

  abbrev pub ended : WriteEnd
  ended = e old sound on disk next follows flying pool notes homes

  going : IsGoing core
  going = (sound.on on).going

  module _ (media : Option Media) (counts : Counts) (more : (d : ℕ) → old.device.counts.faults d ≤ counts.faults d) (rise : (d : ℕ) → is_missing (mid ended) d ≡ true → (is_missing old.core d ≡ true) ⊎ Rose (old.device.counts.faults d) (counts.faults d))
      (names : NamesStay ended) (disks : (d : ℕ) → has_disk (mid ended).cache d ≡ has_disk old.core.cache d)
      (data_other : (id target : ℕ) → same_owner (owner.Data id target) row.owner ≡ false) (copy_other : same_owner owner.Copy row.owner ≡ false)
      (status_flies : (d : ℕ) → count_by (λ (g : Flown). same_owner (owner.Status d) g.owner) flying ≡ count_if (has next.writes.started d))
      (note_flies : (d : ℕ) → count_by (λ (g : Flown). same_owner (owner.Note d) g.owner) flying ≡ count_if (is_some (flight_on (mid ended).cache d)))
      (status_on : (d : ℕ) → same_owner row.owner (owner.Status d) ≡ false → has core.status.writes.started d ≡ true → (next.in_flight ≡ core.status.in_flight) × (next_slot kind.Status homes d ≡ next_slot kind.Status core.homes d))
      (note_on : (d : ℕ) → same_owner row.owner (owner.Note d) ≡ false → flight_on (mid ended).cache d ≡ flight_on core.cache d) where
    -- ---- whose the others are

    module _ (r : Reviewed ended) (brings : Brings ended r) where
      abbrev after : Core
      after = now ended r

      stamp_is : r.status.stamp ≡ core.status.stamp
      stamp_is = ap (λ (u : Updates). u.stamp) r.marks.rest ∙ follows.stamp

      flight_is : r.status.in_flight ≡ next.in_flight
      flight_is = ap (λ (u : Updates). u.in_flight) r.marks.rest

      owned : AreOwned after
      owned (owner.Data id target) = as_many core going.owned at row there (owner.Data id target) (data_other id target) ∙ going.owned (owner.Data id target)
      owned (owner.Status d) = status_flies d ∙ sym (ap (λ (u : Updates). count_if (u.started d)) r.marks.rest)
      owned (owner.Note d) = note_flies d
      owned owner.Copy = as_many core going.owned at row there owner.Copy copy_other ∙ going.owned owner.Copy ∙ sym (ap count_if brings.out)

      transfer_on : (who : Owner) (g : Flight) → same_owner row.owner who ≡ false → flies core who ≡ true → IsTransferOf core who g → IsTransferOf after who g
      transfer_on (owner.Data id target) g other fly of = let m = of.moves in record { place = of.place; request = of.request; there = of.there; own = of.own; aim = of.aim; aim_is = of.aim_is; moves = record { disk_is = m.disk_is; first = m.first; count = m.count; write = m.write; carries = m.carries } }
      transfer_on (owner.Status d) g other fly of = let w = of.writes in let so = status_on d other fly in record {
        status = of.status;
        flies = flight_is ∙ so.0 ∙ of.flies;
        writes = record {
          disk_is = w.disk_is;
          first = w.first ∙ ap (slot_start kind.Status) (sym so.1);
          count = w.count;
          write = w.write;
          carries = λ k low. w.carries k low ∙ ap (λ (x : Stamp). Some (frame kind.Status x (status_bytes of.status) k)) (sym stamp_is);
        };
      }
      transfer_on (owner.Note d) g other fly of = record {
        note = of.note;
        flies = note_on d other ∙ of.flies;
        disk_is = of.disk_is;
        first = of.first;
        count = of.count;
        write = of.write;
        carries = of.carries ∙ ap (λ (x : Stamp). Some (note_bytes (record { stamp = x.epoch; entries = of.note.items }))) (sym stamp_is);
      }
      transfer_on owner.Copy g other fly of = brings.step g of

      rows_on : (rows : List Flown) (fs : List Flight) → AllByRecursion (λ (x : Flown). same_owner row.owner x.owner ≡ false) rows → AllByRecursion (λ (x : Flown). flies core x.owner ≡ true) rows → AreRows core rows fs → AreRows after rows fs
      rows_on [] [] apart fly all = all
      rows_on [] (g ∷ fs) apart fly all = all
      rows_on (x ∷ rows) [] apart fly all = all
      rows_on (x ∷ rows) (g ∷ fs) apart fly all = let first = all.0 in (record { ticket = first.ticket; long = first.long; disk = first.disk; own = transfer_on x.owner g apart.0 fly.0 first.own }, rows_on rows fs apart.1 fly.1 all.1)

      rows_after : AreRows after flying flights
      rows_after = rows_on flying flights (others core going.owned at row there) (all_removed (λ (x : Flown). flies core x.owner ≡ true) core.flying at (all_fly core going.owned)) (rows_left core core.flying old.device.flights at (sound.on on).rows)

    -- ---- its buffer comes back

    given_back : (n : ℕ) → count_by (λ (g : Flight). has_number n g.buf) flights + count_if (slice_index_or old.core.pool n false) ≡ count_by (λ (g : Flight). has_number n g.buf) old.device.flights + count_if (slice_index_or pool n false)
    given_back n =
        let was = sound.none_lost (ap is_dark on) n in
        let hand : count_if (is_hand n (Some buf)) ≡ count_if (has_number n f.buf) = ap (λ k. count_if (k == n)) number in
        let less = count_taken (λ (g : Flight). has_number n g.buf) old.device.flights at f f_there in
        let given = back core.pool (Some buf) n (omega (arith, was, hand, less)) in
        omega (arith, hand, less, given)

    -- ---- the review

    so_kept : (r : Reviewed ended) (brings : Brings ended r) → IfSome r.copy (λ (c : OpenCopy). IsCausedAmong (state (record old.device { media = media; flights = flights; counts = counts }) (now ended r)) (copies_in core.descriptor c.lv c.lp) c) → IsSound (state (record old.device { media = media; flights = flights; counts = counts }) (now ended r))
    so_kept r brings copy_caused = keeps old sound on disk next follows flying pool notes homes media counts flights more rise r brings names disks (owned r brings) (rows_after r brings) (tickets_left core.flying at going.tickets) (length_set core.pool buf.number false) given_back copy_caused

    module _ (new : Core) (reviews : Reviews (mid ended) new) where
      pub finished : IsSound (state (record old.device { media = media; flights = flights; counts = counts }) new)
      finished = by_review ended new reviews (λ (k : Core). IsSound (state (record old.device { media = media; flights = flights; counts = counts }) k))
          (λ still. so_kept (going_on ended new.status reviews.marks still) (goes_on ended new.status reviews.marks still)
          (still_caused old sound on disk next follows flying pool notes homes media counts flights more rise (going_on ended new.status reviews.marks still)))
          (λ c is how ends x queue its. so_kept (at_end ended new.status reviews.marks c is how ends x queue its) (ends_so ended new.status reviews.marks c is how ends x queue its)
          (one_over old sound on disk next follows flying pool notes homes media counts flights more rise (at_end ended new.status reviews.marks c is how ends x queue its) c is how x (sym (ap (λ m. option_map_or (end_of (mid ended)) m None) is) ∙ ends)))
