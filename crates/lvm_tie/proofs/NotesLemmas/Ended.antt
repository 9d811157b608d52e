-- The write of a note that has ended, as the state has it out.
use Rattle.std.proofs.Common.{◌≡◌, ℕ, Bool, true, false, ◌==◌, List, Option, Some, None, refl, sym, ap, subst, ◌∙◌, arith}
use Rattle.std.specs.Prelude.{IsTrue, IsFalse, if◌then◌else◌, option_and_then, is_some}
use Rattle.std.proofs.lemmas.Bool.{and_parts}
use Rattle.std.proofs.lemmas.Bool.Decides.{nat_tests}
use Rattle.lvm_num.specs.declared.descriptor.Descriptor.{Descriptor}
use Rattle.lvm_num.specs.declared.record.Kind.TheVariants as kind
use Rattle.lvm_num.specs.Buffer.{Buffer, IsSector}
use Rattle.lvm_num.specs.Descriptor.{is_member}
use Rattle.lvm_num.specs.DescriptorBytes.{descriptor_of}
use Rattle.lvm_num.specs.Note.{Noted, note_bytes}
use Rattle.lvm_num.specs.declared.status.Status.{Status}
use Rattle.lvm_num.specs.Record.{Stamped}
use Rattle.lvm_vol.specs.Facts.{Fact}
use Rattle.lvm_rec.specs.Slots.{newest_on}
use Rattle.lvm_disk.specs.Device.{Flight, Image, image_of}
use Rattle.lvm_kept.specs.Contents.{contents_of, descriptor_on, has_records}
use Rattle.lvm_kept.specs.Group.{has_room, is_of, passes}
use Rattle.lvm_kept.specs.Torn.{RecordWrite}
use Rattle.lvm_mwc.specs.declared.notes.DiskNotes.{DiskNotes}
use Rattle.lvm_mwc.specs.Cache.{notes_on}
use Rattle.lvm_mwc.specs.Notes.{names_group}
use Rattle.lvm_session.specs.declared.flown.Owner.{Owner}
use Rattle.lvm_session.specs.declared.flown.Owner.TheVariants as owner
use Rattle.lvm_session.specs.State.{Core, State}
use Rattle.lvm_session.specs.Judging.{is_missing}
use Rattle.lvm_session.specs.Owners.{IsNoteOf, IsTransferOf}
use Rattle.lvm_session.specs.Sound.{IsOn}
use Rattle.lvm_keeps_events.proofs.OwnersLemmas.Removal.{taken_out}
use Rattle.lvm_invariant.specs.State.{Groups, ModelState}
use Rattle.lvm_even.specs.Members.{members_showing}
use Rattle.lvm_crash.proofs.RecordsLemmas.Quiet.{update_goes_on}
use Rattle.lvm_crash.specs.Owned.{IsNoteFlight, OnlyUpdateSince}
use Rattle.lvm_tie.proofs.StateLemmas.{missing_seen, there_first}
use Rattle.lvm_tie.proofs.TiedLemmas.Orderly.{AreOut, IsNoteOut, IsOut, out_of, tickets_of}
use Rattle.lvm_tie.specs.Seen.{SeesNote}
use Rattle.lvm_tie.specs.Tied.{IsTied}
use Rattle.lvm_tie.proofs.OutLemmas.Ended.{HasEnded, IsRow, has_ended, is_row}
use Rattle.lvm_tie.proofs.NotesLemmas.Sectors.{note_is_sector}
use Rattle.lvm_session.specs.declared.flown.Flown.{Flown}
use Rattle.lvm_session.specs.Ends.{Returns}
pub use Rattle.std.proofs.lemmas.Option.{same_Some as some_of}

pub none_is_some : {A X : Type 0} (x : A) → None ≡ Some x → X
none_is_some x e = absurd cc

some_passes : (test : Descriptor → Bool) (o : Option (Stamped Descriptor)) → passes test o ≡ true → o ≡ None → ⊥
some_passes test None is none = absurd (cc is)
some_passes test (Some r) is none = cc none

-- a disk that shows a descriptor has room for records
pub shows_records : (image : Image) (id : ℕ) (d : ℕ) → passes (is_of id) ((contents_of image).descriptor d) ≡ true → has_records image d ≡ true
unfolding descriptor_on
shows_records image id d is = by (has_records image d) refl
  where
    by : (b : Bool) → has_records image d ≡ b → b ≡ true
    by true there = refl
    by false there = absurd (some_passes (is_of id) (descriptor_on image d) is (ap (λ b. if b then newest_on descriptor_of kind.Descriptor (image.sector d) else None) there))

module _ (past : List Fact) (old new : State) (at disk : ℕ) (ok : Bool) (row : Flown) (buf : Buffer) (its_owner : row.owner ≡ owner.Note disk) (returns : Returns old new at row ok buf) (tied : IsTied past old) where
  abbrev core : Core
  core = old.core

  abbrev v : ModelState
  v = tied.view

  pub ended : HasEnded old.device new.device row.ticket ok buf tied.media
  ended = has_ended old.device new.device row.ticket ok buf tied.media returns.ends tied.setting.told

  abbrev f : Flight
  f = ended.flight

  abbrev was : Image
  was = image_of old.device.sizes tied.media

  abbrev is : Image
  is = image_of old.device.sizes ended.media

  -- ---- its transfer

  pub its_row : (next : Core) (u : ModelState) → IsRow core next tied.write v u ended.removes.before ended.removes.after f core.flying at row
  its_row next u = is_row core next tied.write v u ended.removes.before ended.removes.after f core.flying at row
      (subst (λ (fs : List Flight). AreOut core tied.write fs core.flying) ended.removes.was (out_of old tied.write tied.orderly tied.notes)) (tickets_of old tied.write tied.orderly) returns.there ended.its

  pub out : IsNoteOut core f disk
  out = subst (IsOut core tied.write f) its_owner (its_row core v).out

  on : IsOn old
  on = tied.orderly.sound.on tied.orderly.on

  its : IsNoteOf core disk f
  its = subst (λ (who : Owner). IsTransferOf core who f) its_owner (taken_out core core.flying old.device.flights new.device.flights at row f on.rows on.going.tickets returns.there ended.removes ended.its).own.own

  -- it has the sector that it carries
  its_sector : IsSector out.sector
  its_sector =
      let note : Noted = record { stamp = core.status.stamp.epoch; entries = its.note.items } in
      let same : note_bytes note ≡ out.sector = some_of (note_bytes note) out.sector (sym its.carries ∙ out.carries) in
      subst IsSector same (note_is_sector note (tied.notes disk its.note its.flies))

  -- the state has it out too
  pub record IsFlying : Type 0 where
    pub note : Groups
    pub flies : v.flying_note disk ≡ Some note
    pub names : (lv g : ℕ) → note lv g ≡ names_group out.items.items lv g

  flying_is : IsFlying
  flying_is = by (v.flying_note disk) refl (subst (SeesNote (v.flying_note disk)) out.flies (tied.sees.notes.flying disk))
    where
      by : (n : Option Groups) → v.flying_note disk ≡ n → SeesNote n (Some out.items) → IsFlying
      by None flies sees = absurd sees
      by (Some note) flies sees = record { note = note; flies = flies; names = sees }

  pub own : IsNoteFlight v f
  own = record {
    write = out.write;
    first = out.first;
    count = out.count;
    note = flying_is.note;
    flies = ap v.flying_note out.disk_is ∙ flying_is.flies;
    sector = out.sector;
    carries = out.carries;
    names = λ lv g. out.names lv g ∙ sym (flying_is.names lv g);
  }

  pub own_names : (lv g : ℕ) → own.note lv g ≡ names_group out.items.items lv g
  unfolding own
  own_names = flying_is.names

  pub own_sector : IsSector own.sector
  unfolding own
  own_sector = its_sector

  -- the disk's notes, of which one was in flight
  pub record HasNotes : Type 0 where
    pub notes : DiskNotes
    pub there : notes_on core.cache disk ≡ Some notes
    pub flies : notes.flight ≡ Some out.items

  pub has_notes : HasNotes
  has_notes = by (notes_on core.cache disk) refl out.flies
    where
      by : (o : Option DiskNotes) → notes_on core.cache disk ≡ o → option_and_then (λ (n : DiskNotes). n.flight) o ≡ Some out.items → HasNotes
      by None there e = none_is_some out.items e
      by (Some n) there e = record { notes = n; there = there; flies = e }

  -- a member that isn't missing has room for records
  member : is_member core.descriptor disk ≡ true
  member = sym (tied.orderly.sound.fitting.notes disk) ∙ ap (λ (o : Option DiskNotes). is_some o) has_notes.there

  pub room : IsFalse (v.missing f.disk) → has_records was f.disk ≡ true
  room there =
      let here : is_missing core disk ≡ false = sym (missing_seen past old tied disk member) ∙ ap v.missing (sym out.disk_is) ∙ there in
      let shown : IsTrue (members_showing (contents_of was) core.descriptor disk) = tied.recorded.members disk member (there_first past old tied disk here) in
      ap (has_records was) out.disk_is ∙ shows_records was core.descriptor.id disk (and_parts (passes (is_of core.descriptor.id) ((contents_of was).descriptor disk)) (has_room (contents_of was) disk core.descriptor) shown).0

  pub since_ended : (x : Option RecordWrite) (u : Option (Stamped Status)) → OnlyUpdateSince old.device x u → OnlyUpdateSince new.device x u
  since_ended None None since = tt
  since_ended (Some x) (Some u) since = update_goes_on x u old.device new.device ended.step (ended.planned x) since
  since_ended (Some x) None since = absurd since
  since_ended None (Some u) since = absurd since

  pub here_too : (d : ℕ) → d ≡ disk → (d == f.disk) ≡ true
  here_too d e = let same : f.disk ≡ disk = out.disk_is in grind (arith, nat_tests)

  pub not_here : (d : ℕ) → (d ≡ disk → ⊥) → d ≡ f.disk → ⊥
  not_here d ne e = ne (e ∙ out.disk_is)
