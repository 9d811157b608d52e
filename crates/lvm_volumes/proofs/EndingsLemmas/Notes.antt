-- Group commands leave the notes of the disks as they were, by what they may write.
use Rattle.std.proofs.Common.{◌≡◌, inl, inr, ⊎_elim, ℕ, ◌+◌, ◌<◌, Bool, List, Option, Some, None, ap, subst, sym, ◌∙◌, arith}
use Rattle.std.specs.Prelude.{◌&&◌, not, IsTrue, IfSome}
use Rattle.lvm_num.specs.declared.place.Pp.{Pp}
use Rattle.lvm_num.specs.declared.descriptor.Descriptor.{Descriptor}
use Rattle.lvm_num.specs.Buffer.{Sector}
use Rattle.lvm_num.specs.Descriptor.{is_member}
use Rattle.lvm_num.specs.Disks.{Disks}
use Rattle.lvm_num.specs.Note.{Noted}
use Rattle.lvm_num.specs.Record.{slot_start}
use Rattle.lvm_num.specs.Status.{calls_missing}
use Rattle.lvm_disk.specs.Device.{Media, image_of}
use Rattle.lvm_disk.specs.Steps.{BothTold}
use Rattle.lvm_kept.specs.Contents.{note_sector, note_on}
use Rattle.lvm_kept.specs.Group.{names_if}
use Rattle.lvm_kept.specs.Plans.{Plan, ChangesBy}
use Rattle.lvm_kept.proofs.PlacesLemmas.{note-same}
use Rattle.lvm_kept.proofs.TornLemmas.Records.{slot-above}
use Rattle.lvm_mwc.specs.Cache.{Cached, is_named as is_named_by}
use Rattle.lvm_status.specs.Update.{Stored}
use Rattle.lvm_volume_plan.specs.passed.Write.{KeepsShelf}
use Rattle.lvm_volume_plan.specs.passed.Commit.{IsOfStatus, IsOfCommit}
use Rattle.lvm_volume_plan.specs.passed.Core.{NotesAreHome, AreNotesHome, IsZeroOf, IsOfCommand}
use Rattle.lvm_session.specs.State.{State, is_there}
use Rattle.lvm_volumes.proofs.Leaving.{there_before}

-- ---- nothing comes to a note

abbrev pub SparesNotes : Plan → Type 0
SparesNotes P = (d : ℕ) (value : Sector) → P d note_sector value → ⊥

not_there : (p : ℕ) → note_sector < p → note_sector ≡ p → ⊥
not_there p low same = omega (arith, low, same)

-- records stand above the notes,
status_spares : (first last : Stored) → SparesNotes (IsOfStatus first last)
status_spares first last d value of = let w = of.0 in not_there (slot_start w.kind (w.slots d) + of.2.its.its.part) (slot-above w.kind (w.slots d) of.2.its.its.part) of.2.its.its.place

commit_spares : (content : List ℕ) (first last : Stored) → SparesNotes (IsOfCommit content first last)
commit_spares content first last d value of = let w = of.0 in not_there (slot_start w.kind (w.slots d) + of.2.its.its.part) (slot-above w.kind (w.slots d) of.2.its.its.part) of.2.its.its.place

-- and so does data
zero_spares : (mib : ℕ) (pp : Pp) → SparesNotes (IsZeroOf mib pp)
zero_spares mib pp d value of = let low = of.0.low in omega (arith, low)

-- so no command comes to a note
pub command_spares : (N : Descriptor → Type 0) (Z : Pp → Type 0) (old new : State) → SparesNotes (IsOfCommand N Z old new)
command_spares N Z old new d value (inl is) = status_spares old.core.status new.core.status d value is
command_spares N Z old new d value (inr (inl is)) = commit_spares _ old.core.status new.core.status d value is.2
command_spares N Z old new d value (inr (inr is)) = zero_spares old.core.descriptor.mib is.0 d value is.2

-- ---- so the notes stay

-- no member that was missing is there
pub still_missing : (old new : State) → ((d : ℕ) → is_member new.core.descriptor d ≡ is_member old.core.descriptor d) → ((d : ℕ) → IsTrue (calls_missing old.core.status.wanted d) → IsTrue (calls_missing new.core.status.wanted d))
    → (d : ℕ) → IsTrue (is_there new.core d) → IsTrue (is_there old.core d)
still_missing old new members stays d is =
    there_before old.core.descriptor old.core.status.wanted new.core.status.wanted d (stays d) (subst (λ (m : Bool). IsTrue (m && not (calls_missing new.core.status.wanted d))) (members d) is)

module _ (T : Disks) (P : Plan) (spares : SparesNotes P) (old new : State) (writes : KeepsShelf T P old.device new.device) (fewer : (d : ℕ) → IsTrue (is_there new.core d) → IsTrue (is_there old.core d))
    (cache : new.core.cache ≡ old.core.cache) where
  same_note : (was is : Media) → ChangesBy P (image_of old.device.sizes was) (image_of new.device.sizes is) → (d : ℕ) → note_on (image_of new.device.sizes is) d ≡ note_on (image_of old.device.sizes was) d
  same_note was is change d = note-same (image_of old.device.sizes was) (image_of new.device.sizes is) d change.same
      (⊎_elim (λ same. same) (λ brought. absurd (spares d (is d note_sector) brought)) (change.each d note_sector))

  pub notes_stay : AreNotesHome old.device old.core → AreNotesHome new.device new.core
  notes_stay = by_media old.device.media new.device.media writes.media
    where
      by_media : (o n : Option Media) → BothTold o n (λ was is. ChangesBy P (image_of old.device.sizes was) (image_of new.device.sizes is))
          → IfSome o (λ media. NotesAreHome old.core (image_of old.device.sizes media)) → IfSome n (λ media. NotesAreHome new.core (image_of new.device.sizes media))
      by_media None None both home = tt
      by_media None (Some is) both home = absurd both
      by_media (Some was) None both home = tt
      by_media (Some was) (Some is) both home = λ d lv group there.
          ap (λ (n : Option Noted). names_if n lv group) (same_note was is both d) ∙ home d lv group (fewer d there) ∙ ap (λ (c : Cached). is_named_by c d lv group) (sym cache)
