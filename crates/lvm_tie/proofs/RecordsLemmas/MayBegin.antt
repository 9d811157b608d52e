-- When the update that a sound session begins may be written.
use Rattle.std.proofs.Common.{◌≡◌, ◌⊎◌, inl, inr, ⊎_elim, ℕ, ◌^◌, ◌<◌, ◌≤◌, Bool, true, false, ◌&&◌, ◌||◌, ◌==◌, not, eqb-true, if◌then◌else◌, List, [], ◌∷◌, length, Option, Some, None, refl, sym, ap, subst, ◌∙◌, arith}
use Rattle.std.specs.Prelude.{IsTrue, Ok, sum_by, ◌≢◌}
use Rattle.std.specs.Option.{option_map}
use Rattle.std.proofs.lemmas.Bool.Decides.{nat_tests}
use Rattle.std.proofs.lemmas.List.Sums.{sum_by-cons}
use Rattle.std.proofs.lemmas.Bool.{and_parts}
use Rattle.lvm_num.specs.declared.descriptor.Descriptor.{Descriptor}
use Rattle.lvm_num.specs.declared.descriptor.PvRow.{PvRow}
use Rattle.lvm_num.specs.declared.record.Kind.TheVariants as kind
use Rattle.lvm_num.specs.declared.record.Stamp.{Stamp}
use Rattle.lvm_num.specs.declared.status.Status.{Status}
use Rattle.lvm_num.specs.Descriptor.{is_member}
use Rattle.lvm_num.specs.Record.{Frames, Stamped, longest_content, stamp_lt}
use Rattle.lvm_num.specs.Status.{IsValidStatus, calls_missing}
use Rattle.lvm_num.specs.StatusBytes.{status_bytes, status_of}
use Rattle.lvm_num.specs.Votes.{all_disks, is_enough_to_write, votes_in}
use Rattle.lvm_num.proofs.Booleans.{place_below}
use Rattle.lvm_vol.specs.Facts.{Fact}
use Rattle.lvm_disk.specs.Device.{Image, image_of}
use Rattle.lvm_rec.proofs.SlotsLemmas.SlotLaws.{may_write}
use Rattle.lvm_vgsa.proofs.StatusBytesLemmas.RoundTrip.{is_read_again}
use Rattle.lvm_commit.proofs.RecordLemmas.{status_fits}
use Rattle.lvm_commit.specs.Committed.{next_stamp}
use Rattle.lvm_kept.specs.Contents.{Contents, contents_of, has_records}
use Rattle.lvm_kept.specs.Group.{is_of, is_status_of, members_in, passes}
use Rattle.lvm_kept.proofs.CommittedLemmas.Finding.{finding_reads}
use Rattle.lvm_kept.specs.Torn.{MayWriteAll, RecordWrite, on_disk}
use Rattle.lvm_steps.specs.Laws.{ShowsBefore}
use Rattle.lvm_steps.proofs.LawsLemmas.Records.{later_may_go, shown_is_before}
use Rattle.lvm_status.specs.Update.{Updates, no_disks, seen, members_there}
use Rattle.lvm_status.specs.Calls.{with_start, with_update}
use Rattle.lvm_status.proofs.RunsLemmas.Sound.{none_held}
use Rattle.lvm_rec.specs.Homes.{next_slot, second_slots}
use Rattle.lvm_session.specs.declared.open.Power.TheVariants as power
use Rattle.lvm_session.specs.State.{Core, State, is_there}
use Rattle.lvm_session.specs.Events.{StartsStatus}
use Rattle.lvm_session.specs.Sound.{IsSound}
use Rattle.lvm_invariant.specs.State.{Marks, Beside, ModelState}
use Rattle.lvm_invariant.specs.Found.{Found}
use Rattle.lvm_crash.specs.Session.{as_marks, marks_shown}
use Rattle.lvm_even.specs.Members.{members_showing}
use Rattle.lvm_tie.specs.Out.{IsUpdateWrite, is_owed_on}
use Rattle.lvm_tie.specs.Seen.{update_of}
use Rattle.lvm_tie.specs.Tied.{IsTied}
use Rattle.lvm_tie.proofs.StateLemmas.{there_first}
use Rattle.lvm_tie.proofs.NotesLemmas.Ended.{shows_records}

-- This record may go out: to slots that don't hold the newest, under a stamp later than all that stand; and no disk at all has votes enough to write.
pub record MayBegin (v : ModelState) (votes : Descriptor) (group : Descriptor) (image : Image) (w : RecordWrite) (u : Stamped Status) : Type 0 where
  pub is_status : w.kind ≡ kind.Status
  pub stamp : w.framed.stamp ≡ u.stamp
  pub may : MayWriteAll Status status_of w u.value image
  pub none_has : is_enough_to_write votes (votes_in votes no_disks) ≡ false
  pub own : u.value.id ≡ group.id
  pub later : stamp_lt v.committed.stamp u.stamp ≡ true
  pub last : (d : ℕ) (r : Stamped Status) → (contents_of image).status d ≡ Some r → r.value.id ≡ u.value.id → stamp_lt r.stamp u.stamp ≡ true

no_votes : (f : ℕ → ℕ) (rows : List PvRow) → sum_by (λ (row : PvRow). if no_disks row.disk then f row.disk else 0) rows ≡ 0
no_votes f [] = refl
no_votes f (row ∷ rows) =
    let more = sum_by-cons (λ (r : PvRow). if no_disks r.disk then f r.disk else 0) row rows in
    let none : ◌≡◌ {A = ℕ} (if no_disks row.disk then f row.disk else 0) 0 = refl in
    let rest = no_votes f rows in
    omega (arith, more, none, rest)

not_itself : (s : Stamp) → stamp_lt s s ≡ false
not_itself s = grind (arith, nat_tests)

marks_of_some : (beside : Option Beside) (id : ℕ) (o : Option (Stamped Status)) (m : Stamped Marks) → marks_shown beside id o ≡ Some m → (r : Stamped Status) × (o ≡ Some r) × (as_marks beside r ≡ m)
marks_of_some beside id None m is = absurd (cc is)
marks_of_some beside id (Some r) m is = by (is_status_of id r.value) is
  where
    by : (b : Bool) → option_map (as_marks beside) (if b then Some r else None) ≡ Some m → (x : Stamped Status) × (Some r ≡ Some x) × (as_marks beside x ≡ m)
    by true h = (r, refl, let e : as_marks beside r ≡ m = cc h in e)
    by false h = absurd (cc h)

module _ (past : List Fact) (old new : State) (tied : IsTied past old) (sound : IsSound new) (valid : IsValidStatus old.core.status.wanted) (starts : StartsStatus old new)
    (none : old.core.status.in_flight ≡ None) (is : seen new.core.status ≡ with_start (with_update (seen old.core.status)) (Some starts.disk)) where
  abbrev core : Core
  core = old.core

  abbrev v : ModelState
  v = tied.view

  abbrev image : Image
  image = image_of old.device.sizes tied.media

  abbrev c : Contents
  c = contents_of image

  abbrev u : Stamped Status
  u = record { stamp = new.core.status.stamp; value = starts.status }

  -- it goes to each member that isn't missing, to the slot that is next
  abbrev pub fresh_write : RecordWrite
  fresh_write = record { kind = kind.Status; framed = record { stamp = new.core.status.stamp; content = status_bytes starts.status }; targets = is_there core; slots = next_slot kind.Status core.homes }

  value_is : starts.status ≡ core.status.wanted
  value_is = let e : Some starts.status ≡ Some core.status.wanted = sym starts.flies ∙ ap (λ (x : Updates). x.in_flight) is in cc

  stamp_is : new.core.status.stamp ≡ next_stamp core.status.stamp
  stamp_is = ap (λ (x : Updates). x.stamp) is

  frames : Frames kind.Status fresh_write.framed
  frames = record {
    some_epoch = subst (λ (s : Stamp). s.epoch ≢ 0) (sym stamp_is) tied.recorded.next.some_epoch;
    epoch = subst (λ (s : Stamp). s.epoch < 2 ^ 64) (sym stamp_is) tied.recorded.next.epoch;
    some_seq = subst (λ (s : Stamp). s.seq ≢ 0) (sym stamp_is) (λ e. omega (arith, e));
    seq = let low = (sound.on on_then).going.numbers in omega (arith, low);
    content = subst (λ (x : Status). length (status_bytes x) ≤ longest_content kind.Status) (sym value_is) (status_fits core.status.wanted valid);
  }
    where
      on_then : new.core.power ≡ power.On
      on_then = ap (λ (s : State). s.core.power) starts.is ∙ tied.orderly.on

  reads : status_of (status_bytes starts.status) ≡ Ok starts.status
  reads = subst (λ (x : Status). status_of (status_bytes x) ≡ Ok x) (sym value_is) (is_read_again core.status.wanted valid)

  shows : (d : ℕ) → IsTrue (is_there core d) → IsTrue (members_showing c core.descriptor d)
  shows d there =
      let parts = and_parts (is_member core.descriptor d) (not (calls_missing core.status.wanted d)) there in
      tied.recorded.members d parts.0 (there_first past old tied d (not_true_is (calls_missing core.status.wanted d) parts.1))
    where
      not_true_is : (b : Bool) → not b ≡ true → b ≡ false
      not_true_is true h = absurd (cc h)
      not_true_is false h = refl

  records_there : (d : ℕ) → IsTrue (is_there core d) → has_records image d ≡ true
  records_there d there = shows_records image core.descriptor.id d (and_parts (passes (is_of core.descriptor.id) (c.descriptor d)) _ (shows d there)).0

  not_owed : (d : ℕ) → is_owed_on core.status d ≡ false
  not_owed d = let idle = (tied.orderly.sound.on tied.orderly.on).going.status.idle none d in (λ t. idle.0 t || idle.1 t)

  -- of the stamps that stand all are before its own
  all_before : ShowsBefore (next_stamp core.status.stamp) c
  all_before = shown_is_before (next_stamp core.status.stamp) image tied.recorded.next.whole tied.recorded.next.before

  lower : (d : ℕ) (r : Stamped Status) → c.status d ≡ Some r → stamp_lt r.stamp u.stamp ≡ true
  lower d r at = ap (stamp_lt r.stamp) stamp_is ∙ all_before.statuses d r at

  no_update : option_map (as_marks v.beside) (update_of core.status) ≡ None
  no_update = ap (λ (m : Option Status). option_map (as_marks v.beside) (option_map (λ (t : Status). let r : Stamped Status = record { stamp = core.status.stamp; value = t } in r) m)) none

  -- some disk shows what is committed
  later : stamp_lt v.committed.stamp u.stamp ≡ true
  later =
      later_by tied.good.found
    where
      later_by : (f : Found tied.votes v) → stamp_lt v.committed.stamp u.stamp ≡ true
      later_by f =
          let reads = finding_reads c all_disks core.descriptor.id core.descriptor tied.describes.stands.found in
          let meets = tied.votes.meet (members_in c all_disks core.descriptor.id core.descriptor) f.set (tied.setting.are_votes.reads (members_in c all_disks core.descriptor.id core.descriptor) ∙ reads.reads.enough) f.enough in
          let disk = meets.0 in
          let shown : v.media.status disk ≡ Some v.committed = ⊎_elim (λ (same : v.media.status disk ≡ Some v.committed). same)
          (λ (x : (y : Stamped Marks) × (v.in_flight ≡ Some y) × (v.media.status disk ≡ Some y)). absurd (let e : None ≡ Some x.0 = sym (tied.sees.status.in_flight ∙ no_update) ∙ x.1 in cc)) (f.have disk meets.2) in
          let r = marks_of_some v.beside core.descriptor.id (c.status disk) v.committed (sym (tied.describes.shown.status disk) ∙ shown) in
          ap (λ (m : Stamped Marks). stamp_lt m.stamp u.stamp) (sym r.2) ∙ lower disk r.0 r.1

  pub begins : MayBegin v core.status.group core.descriptor image fresh_write u
  begins = record {
    is_status = refl;
    stamp = refl;
    may = record {
      frames = frames;
      slots = λ d. place_below (second_slots kind.Status core.homes d);
      there = records_there;
      each = λ d there. may_write Status status_of (on_disk fresh_write d) starts.status (image.sector d) frames reads (tied.recorded.next.spare d there (not_owed d))
          (later_may_go fresh_write (next_stamp core.status.stamp) image d tied.recorded.next.whole tied.recorded.next.before (ap (λ (s : Stamp). stamp_lt s (next_stamp core.status.stamp)) stamp_is ∙ not_itself (next_stamp core.status.stamp)) (records_there d there));
    };
    none_has = none_held core.status.group;
    own = ap (λ (x : Status). x.id) value_is ∙ tied.orderly.sound.fitting.id;
    later = later;
    last = λ d r at same. lower d r at;
  }

  -- each disk to which it is owed is one that is there
  pub fresh_update : IsUpdateWrite new.core.status core.homes starts.status fresh_write
  fresh_update = record {
    is_status = refl;
    stamp = refl;
    content = refl;
    targets = λ d owed. by d (d == starts.disk) refl (sym (ap (λ (x : Updates). x.unstarted d || x.started d) is) ∙ owed);
    slots = λ d owed. refl;
  }
    where
      group_is : core.status.group ≡ record core.descriptor { lvs = [] }
      group_is = tied.orderly.sound.fitting.group

      there_is : (d : ℕ) → members_there core.status.group core.status.wanted d ≡ true → IsTrue (is_there core d)
      there_is d h = sym (ap (λ (g : Descriptor). members_there g core.status.wanted d) group_is) ∙ h

      of : (a b : Bool) → (a && not b) || (false || b) ≡ true → (a ≡ true) ⊎ (b ≡ true)
      of true b h = inl refl
      of false true h = inr refl
      of false false h = absurd (cc h)

      lowest : members_there core.status.group core.status.wanted starts.disk ≡ true
      lowest = sym (ap (λ (x : Updates). x.unstarted starts.disk) begun_is) ∙ starts.lowest.0
        where
          begun_is : seen starts.begun ≡ with_update (seen core.status)
          begun_is = ⊎_elim (λ was. absurd (was.0 none)) (λ was. was.1) starts.begins

      by : (d : ℕ) (b : Bool) → (d == starts.disk) ≡ b → (members_there core.status.group core.status.wanted d && not (d == starts.disk)) || (false || (d == starts.disk)) ≡ true → IsTrue (is_there core d)
      by d b at h = ⊎_elim (λ there. there_is d there)
          (λ same. there_is d (ap (members_there core.status.group core.status.wanted) (eqb-true d starts.disk same) ∙ lowest))
          (of (members_there core.status.group core.status.wanted d) (d == starts.disk) h)
