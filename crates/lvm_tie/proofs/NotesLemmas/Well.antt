-- The write of a note that ends well, tied.
use Rattle.std.proofs.Common.{◌≡◌, inl, inr, ℕ, true, false, ◌==◌, not, List, Option, Some, None, refl, sym, ap, subst, ◌∙◌, arith}
use Rattle.std.specs.Prelude.{IsTrue, if◌then◌else◌}
use Rattle.std.specs.List.{remove}
use Rattle.std.specs.Option.{option_map, option_map_or}
use Rattle.std.proofs.lemmas.Bool.{cases_eq, ne_eqb}
use Rattle.std.proofs.lemmas.Bool.Decides.{nat_tests}
use Rattle.arrayvec.specs.ArrayVec.{ArrayVec}
use Rattle.lvm_num.specs.declared.record.NoteEntry.{NoteEntry}
use Rattle.lvm_num.specs.Buffer.{Buffer}
use Rattle.lvm_vol.specs.Facts.{Fact}
use Rattle.lvm_disk.specs.Device.{Flight, Image, image_of}
use Rattle.lvm_kept.specs.Contents.{contents_of}
use Rattle.lvm_mwc.specs.declared.notes.DiskNotes.{DiskNotes}
use Rattle.lvm_mwc.specs.Cache.{after_end as after_note_end, ended as notes_ended, ended_as, flight_on, notes_on}
use Rattle.lvm_mwc.specs.Notes.{names_group}
use Rattle.lvm_session.specs.declared.flown.Owner.{Owner}
use Rattle.lvm_session.specs.declared.flown.Owner.TheVariants as owner
use Rattle.lvm_session.specs.State.{Core, State, state, is_there}
use Rattle.lvm_session.specs.Ends.{with_return, Returns, NoteLearns}
use Rattle.lvm_session.specs.Sound.{IsSound}
use Rattle.lvm_keeps_events.proofs.EndsLemmas.NoteEnd.{here, beside, none_here, flight_beside}
use Rattle.lvm_invariant.specs.State.{Groups, ModelState}
use Rattle.lvm_invariant.specs.EndNote.{after_note}
use Rattle.lvm_invariant.specs.Events.{EndNote}
use Rattle.lvm_invariant.proofs.EventsLemmas.Each.{each_keeps}
use Rattle.lvm_even.specs.Members.{members_showing}
use Rattle.lvm_crash.specs.Session.{Describes}
use Rattle.lvm_crash.specs.Owned.{IsNoteFlight}
use Rattle.lvm_crash.specs.Records.{flying_after}
use Rattle.lvm_tie.proofs.TiedLemmas.Orderly.{IsNoteOut, orderly_same}
use Rattle.lvm_tie.proofs.TiedLemmas.Tied.{tied_matches}
use Rattle.lvm_tie.proofs.TiedLemmas.Recorded.{no_update_of, records_last, status_lasts, one_remains}
use Rattle.lvm_tie.specs.Out.{AreNotes, CarriesStep, CarryTheirs, MayUpdate}
use Rattle.lvm_tie.specs.Seen.{SeesNote, update_of, Sees}
use Rattle.lvm_tie.specs.Tied.{IsTied, ShowsRecords, CommittedIsOne}
use Rattle.lvm_tie.proofs.OutLemmas.Ended.{HasEnded}
use Rattle.lvm_tie.proofs.NotesLemmas.Landing.{HasLanded, has_landed, same_descriptors, same_members, same_statuses, update_may, may_stand}
use Rattle.lvm_session.specs.declared.flown.Flown.{Flown}
use Rattle.lvm_tie.proofs.NotesLemmas.Ended.{ended, has_notes, here_too, its_row, none_is_some, not_here, out, own, own_names, own_sector, room, since_ended, some_of}

module _ (past : List Fact) (old new : State) (at disk : ℕ) (row : Flown) (buf : Buffer) (its_owner : row.owner ≡ owner.Note disk) (returns : Returns old new at row true buf) (learned : NoteLearns old.core at disk true buf new.core) (tied : IsTied past old) (sound : IsSound new) where
  abbrev core : Core
  core = old.core

  abbrev v : ModelState
  v = tied.view

  abbrev next : Core
  next = record (with_return core at buf) { cache = after_note_end core.cache disk true }

  -- its transfer
  abbrev its_end : HasEnded old.device new.device row.ticket true buf tied.media
  its_end = ended past old new at disk true row buf its_owner returns tied

  abbrev f : Flight
  f = its_end.flight

  abbrev was : Image
  was = image_of old.device.sizes tied.media

  abbrev is : Image
  is = image_of old.device.sizes its_end.media

  abbrev its_own : IsNoteFlight v f
  its_own = own past old new at disk true row buf its_owner returns tied

  abbrev its_out : IsNoteOut core f disk
  its_out = out past old new at disk true row buf its_owner returns tied

  landed : HasLanded v core.descriptor (update_of core.status) f.disk its_own.note true (contents_of is)
  landed = has_landed tied.votes v core.descriptor (update_of core.status) old.device new.device.flights tied.media its_end.media f true tied.good (tied_matches past old tied) its_end.removes its_own its_end.lands (room past old new at disk true row buf its_owner returns tied) (inl refl)

  -- ---- what the state sees then

  abbrev w : ModelState
  w = after_note v landed.names landed.home (flying_after v f.disk)

  -- the notes of the disk are those that were in flight
  written_is : (n : DiskNotes) → notes_on next.cache disk ≡ Some n → n.written.items ≡ its_out.items.items
  written_is n is =
      let before : notes_on next.cache disk ≡ Some (notes_ended true (has_notes past old new at disk true row buf its_owner returns tied).notes) = here core.cache disk true ∙ ap (option_map (notes_ended true)) (has_notes past old new at disk true row buf its_owner returns tied).there in
      let same : n ≡ notes_ended true (has_notes past old new at disk true row buf its_owner returns tied).notes = some_of n (notes_ended true (has_notes past old new at disk true row buf its_owner returns tied).notes) (sym is ∙ before) in
      ap (λ (m : DiskNotes). m.written.items) same
      ∙ ap (λ (o : Option (ArrayVec NoteEntry)). (after o).written.items) (has_notes past old new at disk true row buf its_owner returns tied).flies
    where
      after : Option (ArrayVec NoteEntry) → DiskNotes
      after o = option_map_or (λ (flight : ArrayVec NoteEntry). record (has_notes past old new at disk true row buf its_owner returns tied).notes { written = record { items = ended_as true (has_notes past old new at disk true row buf its_owner returns tied).notes.written.items flight.items }; flight = None }) o (has_notes past old new at disk true row buf its_owner returns tied).notes

  home_now : (d lv g : ℕ) (n : DiskNotes) → IsTrue (is_there core d) → notes_on next.cache d ≡ Some n → landed.home d lv g ≡ names_group n.written.items lv g
  home_now d lv g n there is = elim (cases_eq d disk) [
    | inl e ↦
        let not_missing : v.missing f.disk ≡ false = ap v.missing (its_out.disk_is ∙ sym e) ∙ tied.sees.status.missing d ∙ ap not there in
        ap (λ k. landed.home k lv g) (e ∙ sym its_out.disk_is) ∙ ap (λ (x : Groups). x lv g) (landed.own refl not_missing) ∙ own_names past old new at disk true row buf its_owner returns tied lv g
        ∙ ap (λ (items : List NoteEntry). names_group items lv g) (sym (written_is n (ap (notes_on next.cache) (sym e) ∙ is)))
    | inr ne ↦ ap (λ (x : Groups). x lv g) (landed.others d (not_here past old new at disk true row buf its_owner returns tied d ne)) ∙ tied.sees.notes.home d lv g n there (sym (beside core.cache disk true d (ne_eqb d disk ne)) ∙ is)
  ]

  flying_now : (d : ℕ) → SeesNote (flying_after v f.disk d) (flight_on next.cache d)
  flying_now d = elim (cases_eq d disk) [
    | inl e ↦ subst (λ (x : Option Groups). SeesNote x (flight_on next.cache d)) (sym (ap (λ b. if b then None else v.flying_note d) (here_too past old new at disk true row buf its_owner returns tied d e)))
        (subst (SeesNote None) (sym (ap (flight_on next.cache) e ∙ none_here core.cache disk true)) tt)
    | inr ne ↦
        let test : (d == f.disk) ≡ false = let no : d ≡ f.disk → ⊥ = not_here past old new at disk true row buf its_owner returns tied d ne in grind (arith, nat_tests) in
        subst (λ (x : Option Groups). SeesNote x (flight_on next.cache d)) (sym (ap (λ b. if b then None else v.flying_note d) test))
        (subst (SeesNote (v.flying_note d)) (sym (flight_beside core.cache disk true d (ne_eqb d disk ne))) (tied.sees.notes.flying d))
  ]

  sees : Sees past next w
  sees = record {
    queue = tied.sees.queue;
    facts = tied.sees.facts;
    status = tied.sees.status;
    notes = record {
      cache = tied.sees.notes.cache;
      home = home_now;
      flying = flying_now;
    };
    open_copy = tied.sees.open_copy;
    step_write = tied.sees.step_write;
    beside = tied.sees.beside;
  }

  carries : (g : Flight) (who : Owner) → CarriesStep core v g who → CarriesStep next w g who
  carries g (owner.Data id n) carried = tt
  carries g (owner.Status d) carried = tt
  carries g (owner.Note d) carried = tt
  carries g owner.Copy carried = carried

  notes_fit : AreNotes next
  notes_fit d items flies = elim (cases_eq d disk) [
    | inl e ↦ none_is_some items (sym (ap (flight_on next.cache) e ∙ none_here core.cache disk true) ∙ flies)
    | inr ne ↦ tied.notes d items (sym (flight_beside core.cache disk true d (ne_eqb d disk ne)) ∙ flies)
  ]

  whole : new ≡ state new.device next
  whole = λ k. record { device = new.device; core = learned k }

  members_now : (d : ℕ) → members_showing (contents_of is) core.descriptor d ≡ members_showing (contents_of was) core.descriptor d
  members_now d = same_members tied.votes v core.descriptor (update_of core.status) old.device new.device.flights tied.media its_end.media f true tied.good (tied_matches past old tied) its_end.removes its_own its_end.lands d

  next_now : MayUpdate core.descriptor core.status core.homes is
  next_now = update_may tied.votes v core.descriptor (update_of core.status) old.device new.device.flights tied.media its_end.media f true tied.good (tied_matches past old tied) its_end.removes its_own its_end.lands core.status core.homes (own_sector past old new at disk true row buf its_owner returns tied) tied.recorded.next

  records_now : ShowsRecords core.descriptor core.status (contents_of is)
  records_now = records_last core.descriptor core.status core.status (contents_of was) (contents_of is) tied.recorded.records (λ d there. there)
      (same_descriptors tied.votes v core.descriptor (update_of core.status) old.device new.device.flights tied.media its_end.media f true tied.good (tied_matches past old tied) its_end.removes its_own its_end.lands)
      (λ none. status_lasts core.descriptor core.status core.status (contents_of was) (contents_of is) (tied.recorded.records.settled none) (λ d there. there) refl
      (same_statuses tied.votes v core.descriptor (update_of core.status) old.device new.device.flights tied.media its_end.media f true tied.good (tied_matches past old tied) its_end.removes its_own its_end.lands (no_update_of core.status none)))

  committed_now : CommittedIsOne v.committed.stamp core.descriptor core.status (contents_of is)
  committed_now = one_remains tied.recorded.committed refl (λ u flies. flies)
      (may_stand tied.votes v core.descriptor (update_of core.status) old.device new.device.flights tied.media its_end.media f true tied.good (tied_matches past old tied) its_end.removes its_own its_end.lands)

  pub note_tied : IsTied past new
  note_tied = subst (IsTied past) (sym whole) (let tie : IsTied past (state new.device next) = record {
    votes = tied.votes;
    media = its_end.media;
    setting = record {
      are_votes = tied.setting.are_votes;
      told = its_end.told;
      own = tied.setting.own;
    };
    view = w;
    sees = sees;
    good = each_keeps tied.votes (EndNote f.disk landed.names landed.home (flying_after v f.disk)) v w (landed.may, refl) tied.good;
    describes = subst (λ (sizes : List ℕ). Describes w w.facts core.descriptor (update_of core.status) (contents_of (image_of sizes its_end.media))) (sym its_end.sizes) landed.describes;
    write = tied.write;
    orderly = orderly_same old (state new.device next) tied.write tied.orderly (subst IsSound whole sound) refl refl refl;
    since = since_ended past old new at disk true row buf its_owner returns tied tied.write (update_of core.status) tied.since;
    recorded = record {
      next = subst (λ (sizes : List ℕ). MayUpdate core.descriptor core.status core.homes (image_of sizes its_end.media)) (sym its_end.sizes) next_now;
      members = λ d member first. subst (λ (sizes : List ℕ). IsTrue (members_showing (contents_of (image_of sizes its_end.media)) core.descriptor d)) (sym its_end.sizes) (members_now d ∙ tied.recorded.members d member first);
      records = subst (λ (sizes : List ℕ). ShowsRecords core.descriptor core.status (contents_of (image_of sizes its_end.media))) (sym its_end.sizes) records_now;
      committed = subst (λ (sizes : List ℕ). CommittedIsOne v.committed.stamp core.descriptor core.status (contents_of (image_of sizes its_end.media))) (sym its_end.sizes) committed_now;
    };
    notes = notes_fit;
    copy_aimed = tied.copy_aimed;
    carry = subst (λ (fs : List Flight). CarryTheirs next w fs (remove core.flying at)) (sym its_end.removes.is)
        ((its_row past old new at disk true row buf its_owner returns tied next w).carry carries (subst (λ (fs : List Flight). CarryTheirs core v fs core.flying) its_end.removes.was tied.carry));
  } in tie)
