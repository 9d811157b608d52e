-- A session at rest is tied.
use Rattle.std.proofs.Common.{◌≡◌, inl, ℕ, zero, suc, Bool, true, false, ◌&&◌, ◌++◌, List, [], ◌∷◌, Option, Some, None, slice_get, refl, sym, ap, subst, ◌∙◌, ⊎_elim, arith}
use Rattle.std.specs.Prelude.{IfSome, IsTrue, option_and_then, option_map}
use Rattle.std.specs.Option.{option_map_or}
use Rattle.arrayvec.specs.ArrayVec.{ArrayVec}
use Rattle.std.proofs.lemmas.Bool.Decides.{nat_tests}
use Rattle.lvm_num.specs.declared.record.NoteEntry.{NoteEntry}
use Rattle.lvm_num.specs.declared.status.Status.{Status}
use Rattle.lvm_num.specs.Disks.{has}
use Rattle.lvm_num.specs.declared.record.Stamp.{Stamp}
use Rattle.lvm_num.specs.Record.{Stamped, stamp_lt}
use Rattle.lvm_num.specs.Votes.{all_disks}
use Rattle.lvm_vol.specs.Facts.{Fact}
use Rattle.lvm_disk.specs.Device.{Flight, Image, Media, image_of}
use Rattle.lvm_kept.specs.Contents.{Contents, contents_of}
use Rattle.lvm_kept.specs.Kept.{Kept}
use Rattle.lvm_kept.proofs.CommittedLemmas.Alike.{one_is_only}
use Rattle.lvm_kept.proofs.CommittedLemmas.Finding.{images_within}
use Rattle.lvm_steps.proofs.MakingLemmas.Making.{media_may}
use Rattle.lvm_mwc.specs.declared.notes.DiskNotes.{DiskNotes}
use Rattle.lvm_mwc.specs.Entries.{has_entry}
use Rattle.lvm_mwc.specs.Notes.{both_name, names_group}
use Rattle.lvm_mwc.specs.Cache.{flight_on, notes_on}
use Rattle.lvm_session.specs.declared.bringing.OpenCopy.{OpenCopy}
use Rattle.lvm_session.specs.declared.flown.Flown.{Flown}
use Rattle.lvm_session.specs.declared.open.Power.TheVariants as power
use Rattle.lvm_session.specs.State.{Core, State, is_there}
use Rattle.lvm_session.specs.Bringing.{groups_of}
use Rattle.lvm_session.specs.Sound.{IsOn, IsSound}
use Rattle.lvm_invariant.specs.State.{Beside, Groups, Marks, ModelState}
use Rattle.lvm_invariant.specs.Found.{Votes}
use Rattle.lvm_invariant.specs.Good.{Good}
use Rattle.lvm_crash.specs.Session.{AreVotesOf, Describes, as_marks, marks_of}
use Rattle.lvm_even.specs.Members.{members_showing}
use Rattle.lvm_crash.proofs.WorkedLemmas.Worked.{groups_have_votes}
use Rattle.lvm_even.specs.Even.{AreClosed, HoldsAtRest}
use Rattle.lvm_rest.specs.Rest.{HasCopies, IsModelAtRest, SeesThat}
use Rattle.lvm_rest.proofs.ClosedLemmas.{calm_is_closed}
use Rattle.lvm_rest.proofs.GoodLemmas.Good.{rest_is_good}
use Rattle.lvm_rest.proofs.GoodLemmas.Seen.{rest_is_seen}
use Rattle.lvm_tie.specs.passed.Crash.{OnlyUpdateSince}
use Rattle.lvm_tie.specs.Out.{CarryTheirs, IsWriteOf}
use Rattle.lvm_tie.specs.Seen.{Sees, SeesCopy, SeesNote, step_write_in, update_of, SeesStatus}
use Rattle.lvm_tie.proofs.SeenLemmas.Beside.{closed_beside}
use Rattle.lvm_tie.specs.Spares.{SparesOn}
use Rattle.lvm_tie.specs.Tied.{IsTied}
use Rattle.lvm_tie.specs.Begins.{FollowsOn, IsCoreAtRest, MembersShow, RestSpares, RestTies, StandsAtRest}

pub some_is_none : {A X : Type 0} (o : Option A) (x : A) → o ≡ None → o ≡ Some x → X
some_is_none None x none some = absurd cc
some_is_none (Some y) x none some = absurd cc

pub none_at : {A X : Type 0} (xs : List A) (k : ℕ) (x : A) → xs ≡ [] → slice_get xs k ≡ Some x → X
none_at [] zero x none at = absurd cc
none_at [] (suc k) x none at = absurd cc
none_at (y ∷ ys) k x none at = absurd (cc none)

marked : {X : Type 0} (b : Bool) → b ≡ false → b ≡ true → X
marked true clear set = absurd cc
marked false clear set = absurd cc

-- where no note is in flight, the cache names what was written
pub names_written : (lv g : ℕ) (n : DiskNotes) → n.flight ≡ None → both_name lv g n ≡ names_group n.written.items lv g
names_written lv g n none = ap (λ (o : Option (ArrayVec NoteEntry)). names_group n.written.items lv g && option_map_or (λ (flight : ArrayVec NoteEntry). names_group flight.items lv g) o true) none ∙ and_true (names_group n.written.items lv g)
  where
    and_true : (b : Bool) → b && true ≡ b
    and_true true = refl
    and_true false = refl

-- no stamp is before itself
not_before : (s : Stamp) → stamp_lt s s ≡ false
not_before s = grind (arith, nat_tests)

module _ (past : List Fact) (s : State) (media : Media) (sound : IsSound s) (power_is : s.core.power ≡ power.On) (rests : IsCoreAtRest s.core) (stands : StandsAtRest s media) (follows : FollowsOn past s) where
  abbrev core : Core
  core = s.core

  abbrev facts : List Fact
  facts = past ++ core.history.facts

  abbrev image : Image
  image = image_of s.device.sizes media

  abbrev c : Contents
  c = contents_of image

  abbrev stated : Stamped Status
  stated = stands.held.shows.stands

  on : IsOn s
  on = sound.on power_is

  -- ---- what it is seen as

  found : (v : ModelState) × (v.facts ≡ facts) × IsModelAtRest v × SeesThat v core.descriptor stated (is_there core) c
  found = rest_is_seen facts core.descriptor stated (is_there core) c sound.fitting.valid

  abbrev first : ModelState
  first = found.0

  idle_first : IsModelAtRest first
  idle_first = found.2

  seen_first : SeesThat first core.descriptor stated (is_there core) c
  seen_first = found.3

  -- with the session's cache
  abbrev v : ModelState
  v = record first { cache = λ lv g. has_entry core.cache.entries lv g }

  idle : IsModelAtRest v
  idle = record { queue = idle_first.queue; in_flight = idle_first.in_flight; wanted = idle_first.wanted; no_status = idle_first.no_status; no_note = idle_first.no_note; no_copy = idle_first.no_copy; no_step = idle_first.no_step }

  copies : HasCopies v core.descriptor (members_showing c core.descriptor)
  copies = record { copies = seen_first.copies.copies; inside = seen_first.copies.inside; notes = seen_first.copies.notes; mark = seen_first.copies.mark }

  sees_that : SeesThat v core.descriptor stated (is_there core) c
  sees_that = record {
    copies = copies;
    blocks = seen_first.blocks;
    names = seen_first.names;
    beside = seen_first.beside;
    status = seen_first.status;
    committed = seen_first.committed;
    missing = seen_first.missing;
    notes = seen_first.notes;
  }

  facts_are : v.facts ≡ facts
  facts_are = found.1

  -- ---- it is good

  kept : Kept c facts
  kept = follows.holds.kept image (media_may s.device media stands.told)

  at_rest : HoldsAtRest c facts core.descriptor (Some stated) (is_there core)
  at_rest = record {
    legal = follows.holds.legal;
    kept = kept;
    alone = λ disks id g f. inl (one_is_only c core.descriptor (stands.only image (media_may s.device media stands.told)) (all_disks, stands.held.shows.found) id g (disks, f));
    even = stands.even;
    behind = stands.behind;
  }

  closed : AreClosed facts core.descriptor
  closed = calm_is_closed facts core.descriptor follows.calm

  abbrev votes : Votes
  votes = (groups_have_votes core.descriptor).0

  are_votes : AreVotesOf core.descriptor votes
  are_votes = (groups_have_votes core.descriptor).1

  good : Good votes v × Describes v v.facts core.descriptor None c
  good = rest_is_good votes v core.descriptor core.status.committed (is_there core) c are_votes sound.fitting.valid (images_within image) stands.votes stands.held.shows idle sees_that
      (subst (λ (l : List Fact). AreClosed l core.descriptor) (sym facts_are) closed) (subst (λ (l : List Fact). HoldsAtRest c l core.descriptor (Some stated) (is_there core)) (sym facts_are) at_rest)

  -- ---- it is seen so

  no_update : update_of core.status ≡ None
  no_update = ap (λ (o : Option Status). option_map (λ (t : Status). let r : Stamped Status = record { stamp = core.status.stamp; value = t } in r) o) rests.in_flight

  none_written : (d : ℕ) → has core.status.writes.started d ≡ false
  none_written d = (on.going.status.idle rests.in_flight d).1

  home : (d lv g : ℕ) (n : DiskNotes) → IsTrue (is_there core d) → notes_on core.cache d ≡ Some n → v.home_note d lv g ≡ names_group n.written.items lv g
  home d lv g n there is =
      let none : n.flight ≡ None = sym (ap (λ (o : Option DiskNotes). option_and_then (λ (m : DiskNotes). m.flight) o) is) ∙ rests.notes d in
      seen_first.notes d lv g there ∙ stands.notes d lv g there ∙ ap (λ (o : Option DiskNotes). option_map_or (both_name lv g) o false) is ∙ names_written lv g n none

  sees : Sees past core v
  sees = record {
    queue = record {
      requests = λ place o at. none_at core.requests place o rests.requests at;
      a_step = λ b is row. some_is_none core.copy b rests.copy is;
      only = λ i q at. some_is_none (v.queue i) q (idle.queue i) at;
      names = λ place o at. none_at core.requests place o rests.requests at;
    };
    facts = facts_are;
    status = subst (λ (o : Option Beside). SeesStatus o core.status (is_there core) v.committed v.in_flight v.wanted v.status_flying v.media.status v.missing) (sym seen_first.beside) (record {
      committed = ap (λ (m : Stamped Marks). m.value) seen_first.committed ∙ ap (marks_of None) stands.held.shows.committed;
      in_flight = idle_first.in_flight ∙ sym (ap (option_map (as_marks None)) no_update);
      wanted = idle_first.wanted ∙ ap (λ (m : Stamped Marks). m.value) seen_first.committed ∙ ap (marks_of None) (stands.held.shows.committed ∙ rests.committed);
      started = λ d. idle_first.no_status d ∙ sym (none_written d);
      written = λ d is. marked (has core.status.writes.written d) (on.going.status.idle rests.in_flight d).2 is;
      held = λ u is enough. some_is_none (update_of core.status) u no_update is;
      missing = seen_first.missing;
    });
    notes = record {
      cache = λ lv g. refl;
      home = home;
      flying = λ d. subst (λ (x : Option Groups). SeesNote x (flight_on core.cache d)) (sym (idle_first.no_note d)) (subst (SeesNote None) (sym (rests.notes d)) tt);
    };
    open_copy = subst (λ (o : Option OpenCopy). SeesCopy (groups_of core) o v.open_copy) (sym rests.copy) idle_first.no_copy;
    step_write = idle_first.no_step ∙ sym (ap (λ (o : Option OpenCopy). step_write_in o) rests.copy);
    beside = seen_first.beside ∙ sym (closed_beside core rests.copy);
  }

  none_carried : (rows : List Flown) (fs : List Flight) → rows ≡ [] → CarryTheirs core v fs rows
  none_carried [] [] e = tt
  none_carried [] (f ∷ fs) e = tt
  none_carried (r ∷ rows) fs e = absurd (cc e)

  pub rest_tied : MembersShow s media → IsTied past s
  rest_tied members = record {
    votes = votes;
    media = media;
    setting = record {
      are_votes = are_votes;
      told = stands.told;
      own = follows.own;
    };
    view = v;
    sees = sees;
    good = good.0;
    describes = subst (λ (u : Option (Stamped Status)). Describes v v.facts core.descriptor u c) (sym no_update) good.1;
    write = None;
    orderly = record { sound = sound; on = power_is; update = subst (λ (o : Option Status). IsWriteOf core.status core.homes o None) (sym rests.in_flight) tt };
    since = subst (OnlyUpdateSince s.device None) (sym no_update) tt;
    recorded = record {
      next = record {
        some_epoch = stands.some_epoch;
        epoch = stands.epoch;
        whole = stands.sectors;
        before = stands.held.stamps;
        spare = λ d there owed. (stands.held.homes d there).status;
      };
      members = members;
      records = record {
        descriptor = stands.held.shows.descriptor;
        value = stands.held.shows.value;
        described = stands.held.shows.described;
        latest = stands.held.shows.latest;
        settled = λ none. record { stands = stated; committed = stands.held.shows.committed; own = ap (λ (x : Status). x.id) stands.held.shows.committed ∙ stands.held.shows.own; stated = stands.held.shows.stated; last = stands.held.shows.last };
      };
      committed = record {
        stands = λ d r is own stamp. ⊎_elim
            (λ before. absurd (let same : r.stamp ≡ stated.stamp = stamp ∙ ap (λ (m : Stamped Marks). m.stamp) seen_first.committed in let e : true ≡ false = sym before ∙ ap (λ x. stamp_lt x stated.stamp) same ∙ not_before stated.stamp in cc))
            (λ same. ap (λ (x : Stamped Status). x.value) same ∙ stands.held.shows.committed)
            (stands.held.shows.last d r is own);
        flies = λ u is stamp. some_is_none (update_of core.status) u no_update is;
      };
    };
    notes = λ d items flies. some_is_none (flight_on core.cache d) items (rests.notes d) flies;
    copy_aimed = λ b is row. some_is_none core.copy b rests.copy is;
    carry = none_carried core.flying s.device.flights rests.flying;
  }

pub rest_ties : RestTies
rest_ties past s media sound power_is rests stands members follows = rest_tied past s media sound power_is rests stands follows members

pub rest_spares : RestSpares
rest_spares s media stands = subst (λ (o : Option Media). IfSome o (SparesOn s.core)) (sym stands.told) (λ d there. (stands.held.homes d there).descriptor)
