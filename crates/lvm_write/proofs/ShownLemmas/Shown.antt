-- What the disks show once all parts of a beginning stand.
use Rattle.std.proofs.Common.{◌≡◌, inl, inr, ⊎_elim, ℕ, ◌^◌, ◌<◌, Bool, true, false, [], ◌∷◌, List, Option, Some, None, IsTrue, IsFalse, refl, sym, ◌∙◌, ap, subst, arith}
use Rattle.std.specs.Prelude.{if◌then◌else◌}
use Rattle.std.proofs.lemmas.List.Elements.{All-nil}
use Rattle.std.proofs.lemmas.Option.{same_Some}
use Rattle.lvm_num.specs.declared.descriptor.Descriptor.{Descriptor}
use Rattle.lvm_num.specs.declared.status.Status.{Status}
use Rattle.lvm_num.specs.Buffer.{Sector}
use Rattle.lvm_num.specs.DescriptorBytes.{descriptor_of}
use Rattle.lvm_num.specs.StatusBytes.{status_of}
use Rattle.lvm_num.specs.Note.{Noted, note_in, IsEntry}
use Rattle.lvm_num.proofs.NoteLemmas.{written_is_read}
use Rattle.lvm_num.proofs.Booleans.{clash}
use Rattle.lvm_disk.specs.Device.{Media, Image, Device, image_of}
use Rattle.lvm_kept.specs.Contents.{has_records, note_on, note_sector, contents_of}
use Rattle.lvm_kept.specs.Group.{names_if}
use Rattle.lvm_kept.specs.Plans.{ChangesBy}
use Rattle.lvm_kept.specs.Torn.{MayWriteAll, StandsOn}
use Rattle.lvm_kept.proofs.PlacesLemmas.{note-same}
use Rattle.lvm_write.specs.Notes.{empty_note_sector}
use Rattle.lvm_write.specs.Written.{KeepsShelf}
use Rattle.lvm_write.proofs.WrittenLemmas.Writing.{told_at, both_at}
use Rattle.lvm_write.specs.Beginning.{Beginning, Part, TheDescriptor, TheStatus, TheNotes, describes, states, new_order, again_order, IsOfParts, AllStand}
use Rattle.lvm_write.specs.Shown.{HasBegun, NewIsShown, AgainIsShown}
use Rattle.lvm_write.proofs.TornLemmas.{of_descriptor, of_status, on_target}
use Rattle.lvm_write.proofs.ContentsLemmas.{descriptors_show, statuses_show, descriptor_is, status_is, rest_shows}

-- ---- what is told

pub media_by :
    (b : Beginning) (parts : List Part) (old new : Device) (was is : Media) → old.media ≡ Some was → new.media ≡ Some is → KeepsShelf b.targets (IsOfParts b parts) old new
    → ChangesBy (IsOfParts b parts) (image_of old.sizes was) (image_of new.sizes is)
media_by b parts old new was is told_old told_new keeps =
    let moved = both_at old.media new.media (λ m n. ChangesBy (IsOfParts b parts) (image_of old.sizes m) (image_of new.sizes n)) was keeps.media told_old in
    subst (λ (n : Media). ChangesBy (IsOfParts b parts) (image_of old.sizes was) (image_of new.sizes n)) (same_Some moved.0 is (sym moved.1 ∙ told_new)) moved.2

-- ---- a note without entries

names_none : (sector : Sector) (epoch lv group : ℕ) (room : Bool) → epoch < 2 ^ 64 → sector ≡ empty_note_sector epoch → names_if (if room then note_in sector else None) lv group ≡ false
names_none sector epoch lv group true small is =
    ap (λ (s : Sector). names_if (note_in s) lv group) is
    ∙ ap (λ (n : Option Noted). names_if n lv group) (written_is_read (record { stamp = epoch; entries = [] }) (record { stamp = small; count = omega arith; entries = All-nil IsEntry }))
names_none sector epoch lv group false small is = refl

module _ (b : Beginning) (forget : Bool) (group : Descriptor) (status : Status) (parts : List Part) (old new : Image)
    (describe : MayWriteAll Descriptor descriptor_of (describes b) group old) (state : MayWriteAll Status status_of (states b) status old) (by : ChangesBy (IsOfParts b parts) old new) where
  -- another disk has the sectors that it had
  other_sector : (d s : ℕ) → IsFalse (b.targets d) → new.sector d s ≡ old.sector d s
  other_sector d s other = ⊎_elim
      (λ same. same)
      (λ (is : IsOfParts b parts d s (new.sector d s)). absurd (clash (b.targets d) (on_target b parts d s (new.sector d s) is) other))
      (by.each d s)

  pub has_begun :
      b.epoch < 2 ^ 64 → ((d : ℕ) → IsTrue (b.targets d) → StandsOn (describes b) new d) → ((d : ℕ) → IsTrue (b.targets d) → StandsOn (states b) new d)
      → (IsTrue forget → (d : ℕ) → IsTrue (b.targets d) → new.sector d note_sector ≡ empty_note_sector b.epoch) → (IsFalse forget → (d : ℕ) → new.sector d note_sector ≡ old.sector d note_sector)
      → HasBegun b forget group status (contents_of old) (contents_of new)
  unfolding note_on
  has_begun small describes_all states_all empties stays = record {
    described = λ d target. descriptor_is b group status parts old new describe state by d target (describes_all d target);
    stated = λ d target. status_is b group status parts old new describe state by d target (states_all d target);
    forgotten = λ is_on d target lv track_group. names_none (new.sector d note_sector) b.epoch lv track_group (has_records new d) small (empties is_on d target);
    noted = λ is_off d. note-same old new d by.same (stays is_off d);
    others = λ d other. (
      ⊎_elim (λ same. same) (λ is. absurd (clash (b.targets d) is.0 other)) (descriptors_show b group status parts old new describe state by d),
      ⊎_elim (λ same. same) (λ is. absurd (clash (b.targets d) is.0 other)) (statuses_show b group status parts old new describe state by d),
      note-same old new d by.same (other_sector d note_sector other),
    );
    rest = rest_shows b group status parts old new describe state by;
  }

pub new_is_shown : NewIsShown
new_is_shown b group status old new was is small told_old told_new may keeps stand =
    has_begun b true group status new_order (image_of old.sizes was) (image_of new.sizes is) may.describe may.state (media_by b new_order old new was is told_old told_new keeps) small
    (λ d target. told_at new.media (λ m. StandsOn (describes b) (image_of new.sizes m) d) is told_new (stand.1.1.0 d target))
    (λ d target. told_at new.media (λ m. StandsOn (states b) (image_of new.sizes m) d) is told_new (stand.1.0 d target))
    (λ is_on d target. told_at new.media (λ m. m d note_sector ≡ empty_note_sector b.epoch) is told_new (stand.0 d target))
    (λ is_off. absurd (clash true refl is_off))

pub again_is_shown : AgainIsShown
again_is_shown b forget group status disks before old new was is small told_old told_new may keeps stand =
    has_begun b forget group status (again_order forget) (image_of old.sizes was) (image_of new.sizes is) may.describe may.state by small
    (λ d target. told_at new.media (λ m. StandsOn (describes b) (image_of new.sizes m) d) is told_new (stand.0 d target))
    (λ d target. told_at new.media (λ m. StandsOn (states b) (image_of new.sizes m) d) is told_new (stand.1.0 d target))
    (λ is_on d target. told_at new.media (λ m. m d note_sector ≡ empty_note_sector b.epoch) is told_new ((subst (λ (t : Bool). AllStand b (if t then TheNotes ∷ [] else []) new) is_on stand.1.1).0 d target))
    (λ is_off d. stays d (subst (λ (t : Bool). ChangesBy (IsOfParts b (again_order t)) (image_of old.sizes was) (image_of new.sizes is)) is_off by))
  where
    by : ChangesBy (IsOfParts b (again_order forget)) (image_of old.sizes was) (image_of new.sizes is)
    by = media_by b (again_order forget) old new was is told_old told_new keeps

    off : (d : ℕ) (value : Sector) → IsOfParts b (TheDescriptor ∷ TheStatus ∷ []) d note_sector value → ⊥
    off d value (inl of) = let low = (of_descriptor b may.describe.frames.content may.state.frames.content d note_sector value of).0 in omega (arith, low)
    off d value (inr (inl of)) = let low = (of_status b may.describe.frames.content may.state.frames.content d note_sector value of).0 in omega (arith, low)
    off d value (inr (inr clash)) = absurd clash

    stays : (d : ℕ) → ChangesBy (IsOfParts b (again_order false)) (image_of old.sizes was) (image_of new.sizes is) → is d note_sector ≡ was d note_sector
    stays d two = ⊎_elim (λ same. same) (λ (of : IsOfParts b (TheDescriptor ∷ TheStatus ∷ []) d note_sector (is d note_sector)). absurd (off d (is d note_sector) of)) (two.each d note_sector)
