-- The write of the update that has ended, and what it leaves on the media.
use Rattle.std.proofs.Common.{◌≡◌, ◌⊎◌, inl, inr, ⊎_elim, ℕ, ◌+◌, ◌-◌, ◌^◌, ◌<◌, Bool, true, false, ◌&&◌, ◌==◌, not, eqb-true, List, length, Option, Some, None, refl, sym, ap, subst, ◌∙◌, arith}
use Rattle.std.specs.Prelude.{IfSome, IsTrue, ◌≢◌, if◌then◌else◌, slice_get}
use Rattle.std.specs.Option.{option_map}
use Rattle.std.proofs.lemmas.Bool.{and_parts}
use Rattle.std.proofs.lemmas.Bool.Decides.{nat_tests}
use Rattle.lvm_num.specs.declared.descriptor.Descriptor.{Descriptor}
use Rattle.lvm_num.specs.declared.record.Kind.{Kind}
use Rattle.lvm_num.specs.declared.record.Kind.TheVariants as kind
use Rattle.lvm_num.specs.declared.record.Stamp.{Stamp}
use Rattle.lvm_num.specs.declared.status.Status.{Status}
use Rattle.lvm_num.specs.Buffer.{Buffer}
use Rattle.lvm_num.specs.Descriptor.{is_member}
use Rattle.lvm_num.specs.Disks.{has}
use Rattle.lvm_num.specs.Record.{Stamped, frame, record_sectors, slot_start, stamp_lt}
use Rattle.lvm_num.specs.Status.{calls_missing}
use Rattle.lvm_num.specs.StatusBytes.{status_of}
use Rattle.lvm_num.proofs.Booleans.{clash_gives, place_turns}
use Rattle.lvm_rec.specs.Slots.{slot_for}
use Rattle.lvm_vol.specs.Facts.{Fact}
use Rattle.lvm_disk.specs.Device.{Flight, HasSectors, Image, Media, Device, MayLeave, image_of, IsWholeImage}
use Rattle.lvm_kept.specs.Contents.{Contents, contents_of}
use Rattle.lvm_kept.specs.Plans.{ChangesBy}
use Rattle.lvm_kept.specs.Torn.{IsOfRecord, IsOtherOrRecord, RecordWrite, StandsOn}
use Rattle.lvm_steps.specs.Behind.{StampsBefore}
use Rattle.lvm_steps.proofs.LawsLemmas.Writes.{record_keeps_before}
use Rattle.lvm_rec.proofs.SlotsLemmas.Next.{slot_for_same}
use Rattle.lvm_write.proofs.SlotsLemmas.{other_comes_next}
use Rattle.lvm_commit.specs.Committed.{next_stamp}
use Rattle.lvm_status.specs.Update.{Stored, members_there}
use Rattle.lvm_rec.specs.declared.homes.Homes.{Homes}
use Rattle.lvm_rec.specs.Homes.{next_slot, second_slots}
use Rattle.lvm_session.specs.declared.flown.Flown.{Flown}
use Rattle.lvm_session.specs.declared.flown.Owner.TheVariants as owner
use Rattle.lvm_session.specs.State.{Core, State}
use Rattle.lvm_session.specs.Ends.{FlipsIf, Returns}
use Rattle.lvm_invariant.specs.State.{ModelState}
use Rattle.lvm_invariant.specs.Good.{Good}
use Rattle.lvm_invariant.specs.MoveStatus.{moved}
use Rattle.lvm_invariant.specs.Events.{MoveStatus}
use Rattle.lvm_invariant.proofs.EventsLemmas.Each.{each_keeps}
use Rattle.lvm_crash.specs.Session.{as_marks, marks_shown}
use Rattle.lvm_crash.specs.Left.{KeepsGroup}
use Rattle.lvm_crash.specs.Flights.{Matches}
use Rattle.lvm_crash.proofs.LawsLemmas.Images.{images_remain}
use Rattle.lvm_crash.proofs.DeviceLemmas.{at_writes, writes_at}
use Rattle.lvm_crash.proofs.OwnedLemmas.{in_slots}
use Rattle.lvm_crash.proofs.RecordsLemmas.Records.{may_leave, status_ends}
use Rattle.lvm_crash.specs.Owned.{IsStatusFlight, OnlyUpdateSince, UpdateSince}
use Rattle.lvm_crash.specs.Records.{StatusEnded, statuses_of}
use Rattle.lvm_tie.proofs.TiedLemmas.Orderly.{AreOut, IsOfUpdateOut, IsOut, IsStatusOut, out_of, tickets_of}
use Rattle.lvm_tie.proofs.TiedLemmas.Tied.{tied_matches}
use Rattle.lvm_tie.proofs.AmongLemmas.{not_true, or_true}
use Rattle.lvm_tie.specs.Out.{IsUpdateWrite, IsWriteOf, MayUpdate, is_owed_on}
use Rattle.lvm_tie.specs.Seen.{update_of}
use Rattle.lvm_tie.specs.Tied.{IsTied}
use Rattle.lvm_tie.proofs.OutLemmas.Ended.{HasEnded, IsRow, has_ended, is_row}

-- ---- the update in flight

-- the write is out, of the update in flight
pub record IsWritten (device : Device) (core : Core) (v : ModelState) (w : Option RecordWrite) (f : Flight) (disk : ℕ) : Type 0 where
  pub write : RecordWrite
  pub write_is : w ≡ Some write
  pub value : Status
  pub flies : core.status.in_flight ≡ Some value
  pub since : UpdateSince device write (record { stamp = core.status.stamp; value = value })
  pub own : IsStatusFlight v write f
  pub out : IsStatusOut core write f disk
  pub update : IsUpdateWrite core.status core.homes value write

is_written : (device : Device) (core : Core) (v : ModelState) (w : Option RecordWrite) (f : Flight) (disk : ℕ) → OnlyUpdateSince device w (update_of core.status) → IsWriteOf core.status core.homes core.status.in_flight w
    → ((d : ℕ) → v.status_flying d ≡ has core.status.writes.started d) → IsOfUpdateOut core w f disk → IsWritten device core v w f disk
is_written device core v None f disk since update flying out = absurd out
is_written device core v (Some w) f disk since update flying out = by core.status.in_flight refl since update
  where
    by : (o : Option Status) → core.status.in_flight ≡ o → OnlyUpdateSince device (Some w) (option_map (λ (t : Status). let r : Stamped Status = record { stamp = core.status.stamp; value = t } in r) o)
        → IsWriteOf core.status core.homes o (Some w) → IsWritten device core v (Some w) f disk
    by None is none its = absurd none
    by (Some t) is goes its = record {
      write = w;
      write_is = refl;
      value = t;
      flies = is;
      since = goes;
      own = record {
        write = out.write;
        flies = flying f.disk ∙ ap (has core.status.writes.started) out.disk_is ∙ out.started;
        target = ap w.targets out.disk_is ∙ out.target;
        first = out.first ∙ ap (λ d. slot_start w.kind (w.slots d)) (sym out.disk_is);
        count = out.count;
        carries = out.carries;
      };
      out = out;
      update = its;
    }

-- ---- slots

-- those of the other disks stay
pub slots_beside : (ok : Bool) (disk : ℕ) (old new : Homes) → FlipsIf ok disk old new → (d : ℕ) → (d == disk) ≡ false → next_slot kind.Status new d ≡ next_slot kind.Status old d
slots_beside false disk old new same d other = ap (λ (h : Homes). next_slot kind.Status h d) same
slots_beside true disk old new flips d other = ap (λ (b : Bool). if b then 1 else 0) (flips.own d ∙ ap (λ (b : Bool). if b then not (has old.status d) else has old.status d) other)

-- its own is the other one where it ended well
slot_flipped : (disk : ℕ) (old new : Homes) → FlipsIf true disk old new → next_slot kind.Status new disk ≡ (if not (second_slots kind.Status old disk) then 1 else 0)
slot_flipped disk old new flips =
    let test : (disk == disk) ≡ true = grind (arith, nat_tests) in
    ap (λ (b : Bool). if b then 1 else 0) (flips.own disk ∙ ap (λ (b : Bool). if b then not (has old.status disk) else has old.status disk) test)

is_next : (s : Stamp) → stamp_lt s (next_stamp s) ≡ true
is_next s = grind (arith, nat_tests)

-- ---- the write that has ended

module _ (past : List Fact) (old new : State) (index disk : ℕ) (ok : Bool) (row : Flown) (buf : Buffer) (its_owner : row.owner ≡ owner.Status disk) (returns : Returns old new index row ok buf) (tied : IsTied past old) where
  abbrev core : Core
  core = old.core

  abbrev v : ModelState
  v = tied.view

  abbrev group : Descriptor
  group = core.descriptor

  pub ended : HasEnded old.device new.device row.ticket ok buf tied.media
  ended = has_ended old.device new.device row.ticket ok buf tied.media returns.ends tied.setting.told

  abbrev f : Flight
  f = ended.flight

  pub its_row : (next : Core) (u : ModelState) → IsRow core next tied.write v u ended.removes.before ended.removes.after f core.flying index row
  its_row next u = is_row core next tied.write v u ended.removes.before ended.removes.after f core.flying index row
      (subst (λ (fs : List Flight). AreOut core tied.write fs core.flying) ended.removes.was (out_of old tied.write tied.orderly tied.notes)) (tickets_of old tied.write tied.orderly) returns.there ended.its

  pub written : IsWritten old.device core v tied.write f disk
  written = is_written old.device core v tied.write f disk tied.since tied.orderly.update tied.sees.status.started (subst (IsOut core tied.write f) its_owner (its_row core v).out)

  abbrev w : RecordWrite
  w = written.write

  abbrev u : Stamped Status
  u = record { stamp = core.status.stamp; value = written.value }

  pub was_update : update_of core.status ≡ Some u
  was_update = ap (option_map (λ (x : Status). let r : Stamped Status = record { stamp = core.status.stamp; value = x } in r)) written.flies

  pub matches : Matches v v.facts group (Some u) old.device tied.media
  matches = subst (λ (x : Option (Stamped Status)). Matches v v.facts group x old.device tied.media) was_update (tied_matches past old tied)

  abbrev was : Image
  was = image_of old.device.sizes tied.media

  abbrev is : Image
  is = image_of old.device.sizes ended.media

  abbrev now : Contents
  now = contents_of is

  may : MayLeave old.device is
  may = may_leave old.device new.device.flights tied.media ended.media f tied.setting.told ended.removes ended.lands.some

  pub moves : (flying : ℕ → Bool) → StatusEnded v group u f.disk ok flying now
  moves flying = status_ends tied.votes v group w u old.device new.device.flights tied.media ended.media f ok flying tied.good matches ended.removes written.own written.since ended.lands

  pub good_moved : (flying : ℕ → Bool) → Good tied.votes (moved v (statuses_of v.beside group.id now) flying)
  good_moved flying = each_keeps tied.votes (MoveStatus (as_marks v.beside u) (statuses_of v.beside group.id now) flying) v (moved v (statuses_of v.beside group.id now) flying) ((moves flying).may, refl) tied.good

  pub kept : KeepsGroup (contents_of was) now
  kept = (images_remain v v.facts group (Some u) old.device tied.media is matches may).kept

  -- each status that stands then stood before, or is the update
  pub may_stand : (d : ℕ) → (now.status d ≡ (contents_of was).status d) ⊎ ((x : Stamped Status) × (update_of core.status ≡ Some x) × (now.status d ≡ Some x))
  may_stand d = ⊎_elim
      (λ same. inl same)
      (λ x. inr (x.0, was_update ∙ x.1, x.3))
      ((images_remain v v.facts group (Some u) old.device tied.media is matches may).statuses d)

  -- what stands of the group under its stamp is the update
  pub one_stands : (d : ℕ) (r : Stamped Status) → now.status d ≡ Some r → r.value.id ≡ group.id → r.stamp ≡ u.stamp → r ≡ u
  one_stands d r stands own stamp = let statuses = (moves (λ n. false)).describes.shown.statuses in statuses.new u d r refl stands (own ∙ sym (statuses.own u refl)) stamp

  -- a disk that had the update has it, and so does this one where it ended well
  pub still_stands : (d : ℕ) → v.media.status d ≡ Some (as_marks v.beside u) → statuses_of v.beside group.id now d ≡ Some (as_marks v.beside u)
  still_stands d had = ⊎_elim (λ same. same ∙ had) (λ is_now. is_now) ((moves (λ n. false)).may.each d)

  pub stands_here : ok ≡ true → statuses_of v.beside group.id now disk ≡ Some (as_marks v.beside u)
  stands_here well =
      let stands : now.status f.disk ≡ Some u = (moves (λ n. false)).stands well in
      let its : u.value.id ≡ group.id = matches.describes.shown.statuses.own u refl in
      let shown : marks_shown v.beside group.id (Some u) ≡ Some (as_marks v.beside u) = let test : (u.value.id == group.id) ≡ true = grind (arith, nat_tests) in ap (λ b. option_map (as_marks v.beside) (if b then Some u else None)) test in
      ap (λ n. marks_shown v.beside group.id (now.status n)) (sym written.out.disk_is) ∙ ap (marks_shown v.beside group.id) stands ∙ shown

  -- ---- the next update

  by_update : ChangesBy (IsOtherOrRecord w) written.since.began is
  by_update = written.since.way.images is may

  by_record : ChangesBy (IsOfRecord w) was is
  by_record = record {
    same = record { disks = refl; size = λ d. refl };
    each = λ d s. ⊎_elim (λ same. inl same) (λ brings. inr (in_slots v old.device w u f d s (ended.media d s) written.since written.own brings).its) (ended.lands.some d s);
  }

  all_stands : ok ≡ true → StandsOn w is f.disk
  all_stands well part lt =
      let inside : part < record_sectors (length w.framed.content) = lt in
      let count : f.count ≡ record_sectors (length w.framed.content) = written.own.count in
      let first : f.first ≡ slot_start w.kind (w.slots f.disk) = written.own.first in
      let at : ℕ = slot_start w.kind (w.slots f.disk) + part in
      let place : at - f.first ≡ part = omega (arith, first) in
      ended.lands.all well f.disk at (frame w.kind w.framed.stamp w.framed.content part) (at_writes f f.disk at (frame w.kind w.framed.stamp w.framed.content part)
      (record { write = written.own.write; disk = refl; low = omega (arith, first); high = omega (arith, first, count, inside); there = ap (λ j. slice_get f.buf.sectors j) place ∙ written.own.carries part (omega (arith, count, inside)) }))

  owed_here : is_owed_on core.status disk ≡ true
  owed_here = or_true (has core.status.writes.unstarted disk) (has core.status.writes.started disk) (inr written.out.started)

  -- the slot that comes next where the write has ended well
  spare_here : (homes : Homes) → ok ≡ true → FlipsIf ok disk core.homes homes → next_slot kind.Status homes disk ≡ slot_for status_of kind.Status (is.sector disk)
  spare_here homes well flips =
      let other = subst (λ (k : Kind). ((w.slots disk ≡ 0) × (slot_for status_of k (is.sector disk) ≡ 1)) ⊎ ((w.slots disk ≡ 1) × (slot_for status_of k (is.sector disk) ≡ 0))) written.since.is_status
      (other_comes_next Status status_of w written.value written.since.began is written.since.may by_update disk written.out.target (subst (λ n. StandsOn w is n) written.out.disk_is (all_stands well))) in
      let slots : w.slots disk ≡ next_slot kind.Status core.homes disk = written.update.slots disk owed_here in
      slot_flipped disk core.homes homes (subst (λ b. FlipsIf b disk core.homes homes) well flips)
      ∙ place_turns (second_slots kind.Status core.homes disk) (slot_for status_of kind.Status (is.sector disk))
      (⊎_elim (λ zero. inl (sym slots ∙ zero.0, zero.1)) (λ one. inr (sym slots ∙ one.0, one.1)) other)

  -- no sector of another disk has changed
  same_beside : (d s : ℕ) → (d == disk) ≡ false → is.sector d s ≡ was.sector d s
  same_beside d s other = ⊎_elim
      (λ same. same)
      (λ brings. clash_gives (d == disk) (let e : f.disk ≡ d = (writes_at f d s (ended.media d s) brings).disk in let e2 : f.disk ≡ disk = written.out.disk_is in grind (arith, nat_tests)) other)
      (ended.lands.some d s)

  spare_beside : (homes : Homes) → FlipsIf ok disk core.homes homes → (d : ℕ) → (d == disk) ≡ false → IsTrue (members_there group core.status.wanted d) → is_owed_on core.status d ≡ false
      → next_slot kind.Status homes d ≡ slot_for status_of kind.Status (is.sector d)
  spare_beside homes flips d other there owed =
      slots_beside ok disk core.homes homes flips d other ∙ tied.recorded.next.spare d there owed ∙ sym (slot_for_same status_of kind.Status (was.sector d) (is.sector d) (λ slot s two low high. same_beside d s other))

  whole_now : HasSectors new.device → IsWholeImage is
  whole_now sectors = subst (λ (sizes : List ℕ). IsWholeImage (image_of sizes ended.media)) ended.sizes (subst (λ (o : Option Media). IfSome o (λ m. IsWholeImage (image_of new.device.sizes m))) ended.told sectors)

  -- The next update may be written where the disk is missing if its write ended badly, and nothing is missing or owed otherwise that wasn't.
  pub may_update : (s : Stored) (homes : Homes) → HasSectors new.device → FlipsIf ok disk core.homes homes → s.stamp ≡ core.status.stamp
      → (ok ≡ false → calls_missing s.wanted disk ≡ true) → ((d : ℕ) → calls_missing s.wanted d ≡ false → calls_missing core.status.wanted d ≡ false)
      → ((d : ℕ) → is_member group d ≡ true → (d == disk) ≡ false → is_owed_on s d ≡ false → is_owed_on core.status d ≡ false) → MayUpdate group s homes is
  may_update s homes sectors flips stamp lost fewer owed_still = record {
    some_epoch = subst (λ (st : Stamp). st.epoch ≢ 0) (sym stamp) tied.recorded.next.some_epoch;
    epoch = subst (λ (st : Stamp). st.epoch < 2 ^ 64) (sym stamp) tied.recorded.next.epoch;
    whole = whole_now sectors;
    before = record_keeps_before w (next_stamp s.stamp) was is written.since.may.frames
        (ap (λ (st : Stamp). stamp_lt st (next_stamp s.stamp)) (written.since.stamp ∙ sym stamp) ∙ is_next s.stamp) by_record
        (subst (λ (st : Stamp). StampsBefore (next_stamp st) was) (sym stamp) tied.recorded.next.before);
    spare = λ d there owed.
        let parts = and_parts (is_member group d) (not (calls_missing s.wanted d)) there in
        let here : calls_missing s.wanted d ≡ false = not_true (calls_missing s.wanted d) parts.1 in
        by d parts.0 here owed (d == disk) refl;
  }
    where
      at_disk : calls_missing s.wanted disk ≡ false → (b : Bool) → ok ≡ b → next_slot kind.Status homes disk ≡ slot_for status_of kind.Status (is.sector disk)
      at_disk here true well = spare_here homes well flips
      at_disk here false badly = clash_gives (calls_missing s.wanted disk) (lost badly) here

      by : (d : ℕ) → is_member group d ≡ true → calls_missing s.wanted d ≡ false → is_owed_on s d ≡ false → (b : Bool) → (d == disk) ≡ b → next_slot kind.Status homes d ≡ slot_for status_of kind.Status (is.sector d)
      by d member here owed true at =
          let same : d ≡ disk = eqb-true d disk at in
          subst (λ n. next_slot kind.Status homes n ≡ slot_for status_of kind.Status (is.sector n)) (sym same) (at_disk (ap (calls_missing s.wanted) (sym same) ∙ here) ok refl)
      by d member here owed false other =
          let was_here = fewer d here in
          spare_beside homes flips d other (λ t. member t && not (was_here t)) (owed_still d member other owed)
