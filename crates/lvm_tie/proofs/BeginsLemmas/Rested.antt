-- A tied session at which nothing is under way is at rest.
use Rattle.std.proofs.Common.{◌≡◌, ◌↔◌, ◌⊎◌, ⊎_elim, ℕ, Bool, true, false, ◌&&◌, not, List, Option, Some, None, refl, sym, ap, subst, ◌∙◌, arith}
use Rattle.std.specs.Prelude.{IsTrue, IsFalse, is_some, option_and_then, option_map}
use Rattle.std.specs.Option.{option_map_or}
use Rattle.std.proofs.lemmas.Bool.{and_parts}
use Rattle.std.proofs.lemmas.Bool.Decides.{nat_tests}
use Rattle.lvm_num.specs.declared.record.Stamp.{Stamp}
use Rattle.lvm_num.specs.declared.descriptor.Descriptor.{Descriptor}
use Rattle.lvm_num.specs.declared.status.Status.{Status}
use Rattle.lvm_num.specs.Descriptor.{is_member}
use Rattle.lvm_num.specs.Record.{Stamped, stamp_lt}
use Rattle.lvm_num.specs.Status.{calls_missing}
use Rattle.lvm_num.specs.Votes.{CanWrite, ShareMember, all_disks}
use Rattle.lvm_num.proofs.VotesLemmas.{read_meets_write}
use Rattle.lvm_vol.specs.Facts.{Fact}
use Rattle.lvm_disk.specs.Device.{Image, image_of}
use Rattle.lvm_kept.specs.Contents.{Contents, contents_of}
use Rattle.lvm_kept.specs.Group.{Finds, has_room, is_named, members_in}
use Rattle.lvm_kept.proofs.CommittedLemmas.Finding.{finding_reads, images_within}
use Rattle.lvm_mwc.specs.declared.notes.DiskNotes.{DiskNotes}
use Rattle.lvm_mwc.specs.Cache.{notes_on, is_named as is_named_by}
use Rattle.lvm_mwc.specs.Notes.{both_name}
use Rattle.lvm_session.specs.declared.bringing.OpenCopy.{OpenCopy}
use Rattle.lvm_session.specs.State.{Core, State, is_there}
use Rattle.lvm_session.specs.Bringing.{groups_of}
use Rattle.lvm_session.specs.Sound.{IsOn}
use Rattle.lvm_invariant.specs.State.{Beside, Groups, Marks, Queued, ModelState}
use Rattle.lvm_invariant.specs.Found.{Found}
use Rattle.lvm_crash.specs.Session.{as_marks, marks_of, marks_shown, Describes, IsPlaceOf}
use Rattle.lvm_even.specs.Members.{members_showing}
use Rattle.lvm_even.specs.Even.{HoldsAtRest}
use Rattle.lvm_rest.specs.Rest.{IsModelAtRest, SeesThat}
use Rattle.lvm_rest.proofs.GoodLemmas.Rest.{good_is_rest}
use Rattle.lvm_steps.proofs.GroupLemmas.Members.{parts_of}
use Rattle.lvm_tie.proofs.StateLemmas.{there_first}
use Rattle.lvm_tie.proofs.TiedLemmas.Orderly.{valid_of}
use Rattle.lvm_tie.proofs.TiedLemmas.Recorded.{shown_of, shows_own}
use Rattle.lvm_tie.proofs.AmongLemmas.{not_true}
use Rattle.lvm_tie.specs.Seen.{IsRequestAt, IsStepAt, SeesCopy, SeesNote, step_write_in, update_of}
use Rattle.lvm_tie.specs.Tied.{IsTied, ShowsRecords, ShowsStatus}
use Rattle.lvm_tie.specs.Begins.{NotesAreHomeIn, IsCoreAtRest, ShowsIts, TiedRests, shown_to}
use Rattle.lvm_tie.proofs.BeginsLemmas.Resting.{names_written, none_at, some_is_none}
use Rattle.lvm_tie.proofs.SeenLemmas.Beside.{closed_beside}

note_none : (n : Option Groups) → SeesNote n None → n ≡ None
note_none None sees = refl
note_none (Some n) sees = absurd sees

not_both : (a b : Stamp) {X : Type 0} → stamp_lt a b ≡ true → stamp_lt b a ≡ true → X
not_both a b before after = absurd (let no : stamp_lt b a ≡ false = grind (arith, nat_tests) in let e : true ≡ false = sym after ∙ no in cc)

module _ (past : List Fact) (s : State) (tied : IsTied past s) (rests : IsCoreAtRest s.core) (enough : CanWrite s.core.descriptor (is_there s.core)) where
  abbrev core : Core
  core = s.core

  abbrev v : ModelState
  v = tied.view

  abbrev group : Descriptor
  group = core.descriptor

  abbrev image : Image
  image = image_of s.device.sizes tied.media

  abbrev c : Contents
  c = contents_of image

  on : IsOn s
  on = tied.orderly.sound.on tied.orderly.on

  no_update : update_of core.status ≡ None
  no_update = ap (λ (o : Option Status). option_map (λ (t : Status). let r : Stamped Status = record { stamp = core.status.stamp; value = t } in r) o) rests.in_flight

  none_flies : v.in_flight ≡ None
  none_flies = tied.sees.status.in_flight ∙ ap (option_map (as_marks v.beside)) no_update

  -- no copy is open, so none moves
  none_beside : v.beside ≡ None
  none_beside = tied.sees.beside ∙ closed_beside core rests.copy

  idle : IsModelAtRest v
  idle = record {
    queue = λ i. empty i (v.queue i) refl;
    in_flight = none_flies;
    wanted = tied.sees.status.wanted ∙ ap (marks_of v.beside) (sym rests.committed) ∙ sym tied.sees.status.committed;
    no_status = λ d. tied.sees.status.started d ∙ (on.going.status.idle rests.in_flight d).1;
    no_note = λ d. note_none (v.flying_note d) (subst (SeesNote (v.flying_note d)) (rests.notes d) (tied.sees.notes.flying d));
    no_copy = subst (λ (o : Option OpenCopy). SeesCopy (groups_of core) o v.open_copy) rests.copy tied.sees.open_copy;
    no_step = tied.sees.step_write ∙ ap step_write_in rests.copy;
  }
    where
      empty : (i : ℕ) (o : Option Queued) → v.queue i ≡ o → o ≡ None
      empty i None is = refl
      empty i (Some q) is = ⊎_elim
          (λ (r : IsRequestAt core i). none_at core.requests r.place r.request rests.requests r.there)
          (λ (r : IsStepAt core i). some_is_none core.copy r.copy rests.copy r.is_open)
          (tied.sees.queue.only i q is)

  -- ---- the committed status

  -- a disk of the quorum that has it
  pub record HasCommitted : Type 0 where
    pub disk : ℕ
    pub shown : v.media.status disk ≡ Some v.committed

  has_committed : HasCommitted
  has_committed = of tied.good.found
    where
      of : Found tied.votes v → HasCommitted
      of f =
          let reads = finding_reads c all_disks group.id group tied.describes.stands.found in
          let meets = tied.votes.meet (members_in c all_disks group.id group) f.set (tied.setting.are_votes.reads (members_in c all_disks group.id group) ∙ reads.reads.enough) f.enough in
          record {
            disk = meets.0;
            shown = ⊎_elim (λ (same : v.media.status meets.0 ≡ Some v.committed). same)
                (λ (x : (u : Stamped Marks) × (v.in_flight ≡ Some u) × (v.media.status meets.0 ≡ Some u)). some_is_none v.in_flight x.0 none_flies x.1)
                (f.have meets.0 meets.2);
          }

  -- ---- what the disks show

  abbrev records : ShowsRecords group core.status c
  records = tied.recorded.records

  found_all : Finds c all_disks group.id group
  found_all = tied.describes.stands.found

  -- a member that is there shows what is committed
  someone : ShareMember group (members_in c all_disks group.id group) (is_there core)
  someone = read_meets_write group (members_in c all_disks group.id group) (is_there core) (finding_reads c all_disks group.id group found_all).reads.enough enough

  room : (d : ℕ) → IsTrue (is_there core d) → IsTrue (has_room c d group)
  room d there =
      let parts = and_parts (is_member group d) (not (calls_missing core.status.wanted d)) there in
      (parts_of c all_disks group.id group d (tied.recorded.members d parts.0 (there_first past s tied d (not_true (calls_missing core.status.wanted d) parts.1)))).2

  its_status : ShowsStatus group core.status c
  its_status = records.settled rests.in_flight

  abbrev shows : ShowsIts s tied.media
  shows = record {
    found = found_all;
    only = tied.describes.stands.only;
    descriptor = records.descriptor;
    value = records.value;
    latest = records.latest;
    described = records.described;
    room = room;
    own = ap (λ (x : Status). x.id) rests.committed ∙ tied.orderly.sound.fitting.id;
    stands = its_status.stands;
    committed = its_status.committed;
    stated = its_status.stated;
    last = its_status.last;
  }

  its_own : shows.stands.value.id ≡ group.id
  its_own = its_status.own

  stated : v.media.status someone.0 ≡ Some (as_marks v.beside shows.stands)
  stated = tied.describes.shown.status someone.0 ∙ ap (marks_shown v.beside group.id) (shows.stated someone.0 someone.3) ∙ shows_own v.beside group.id shows.stands its_own

  same_committed : v.committed ≡ as_marks v.beside shows.stands
  same_committed =
      let r = shown_of v.beside group.id (c.status has_committed.disk) v.committed (sym (tied.describes.shown.status has_committed.disk) ∙ has_committed.shown) in
      ⊎_elim
      (λ (before : stamp_lt r.0.stamp shows.stands.stamp ≡ true). earlier (subst (λ (m : Stamped Marks). stamp_lt m.stamp shows.stands.stamp ≡ true) r.3 before))
      (λ (same : r.0 ≡ shows.stands). sym r.3 ∙ ap (as_marks v.beside) same)
      (shows.last has_committed.disk r.0 r.1 r.2)
    where
      earlier : stamp_lt v.committed.stamp shows.stands.stamp ≡ true → v.committed ≡ as_marks v.beside shows.stands
      earlier before = ⊎_elim
          (λ (after : stamp_lt shows.stands.stamp v.committed.stamp ≡ true). not_both v.committed.stamp shows.stands.stamp before after)
          (λ (x : (as_marks v.beside shows.stands ≡ v.committed) ⊎ (v.in_flight ≡ Some (as_marks v.beside shows.stands))). ⊎_elim (λ (e : as_marks v.beside shows.stands ≡ v.committed). sym e) (λ (e : v.in_flight ≡ Some (as_marks v.beside shows.stands)). some_is_none v.in_flight (as_marks v.beside shows.stands) none_flies e) x)
          (tied.good.found.only someone.0 (as_marks v.beside shows.stands) stated)

  -- ---- all that it sees

  there_seen : (d : ℕ) → IsTrue (is_there core d) → IsFalse (v.missing d)
  there_seen d there = tied.sees.status.missing d ∙ ap not there

  notes_seen : (d lv g : ℕ) → IsTrue (is_there core d) → v.home_note d lv g ≡ is_named c d lv g
  notes_seen d lv g there = sym (tied.good.sound.notes.home d lv g (there_seen d there)) ∙ tied.describes.shown.names d lv g

  sees : SeesThat v group shows.stands (is_there core) c
  sees = record {
    beside = none_beside;
    copies = record { copies = λ row lp b p one at. subst (λ (o : Option Beside). IsTrue (v.is_copy row.number b p) ↔ (IsPlaceOf o row lp b p × IsTrue (members_showing c group p.disk))) none_beside (tied.describes.volumes.copies row lp b p one at); inside = tied.describes.volumes.inside; notes = tied.describes.volumes.notes; mark = tied.describes.volumes.mark };
    blocks = tied.describes.shown.blocks;
    names = tied.describes.shown.names;
    status = λ d. tied.describes.shown.status d ∙ ap (λ (o : Option Beside). marks_shown o group.id (c.status d)) none_beside;
    committed = same_committed ∙ ap (λ (o : Option Beside). as_marks o shows.stands) none_beside;
    missing = tied.sees.status.missing;
    notes = notes_seen;
  }

  rest : HoldsAtRest c v.facts group (Some shows.stands) (is_there core)
  rest = good_is_rest tied.votes v group core.status.committed (is_there core) c tied.setting.are_votes (valid_of s tied.write tied.orderly) (images_within image) shows idle sees tied.good
      (subst (λ (u : Option (Stamped Status)). Describes v v.facts group u c) no_update tied.describes)

  home : NotesAreHomeIn core c
  home d lv g there = by (notes_on core.cache d) refl (tied.orderly.sound.fitting.notes d ∙ member)
    where
      left : (a b : Bool) → a && b ≡ true → a ≡ true
      left true b h = refl
      left false b h = absurd (cc h)

      member : is_member group d ≡ true
      member = left (is_member group d) (not (calls_missing core.status.wanted d)) there

      by : (o : Option DiskNotes) → notes_on core.cache d ≡ o → is_some o ≡ true → is_named c d lv g ≡ is_named_by core.cache d lv g
      by None is some = absurd (cc some)
      by (Some n) is some =
          let none : n.flight ≡ None = sym (ap (λ (o : Option DiskNotes). option_and_then (λ (m : DiskNotes). m.flight) o) is) ∙ rests.notes d in
          sym (notes_seen d lv g there) ∙ tied.sees.notes.home d lv g n there is ∙ sym (names_written lv g n none) ∙ sym (ap (λ (o : Option DiskNotes). option_map_or (both_name lv g) o false) is)

pub tied_rests : TiedRests
tied_rests past s tied rests enough = (
  shows past s tied rests enough,
  record {
    told = tied.setting.told;
    rest = subst (λ (facts : List Fact). HoldsAtRest (shown_to s tied.media) facts s.core.descriptor (Some (shows past s tied rests enough).stands) (is_there s.core)) tied.sees.facts (rest past s tied rests enough);
    notes = home past s tied rests enough;
  },
)
