-- What the disks hold and what is found of them, while one record of a session is written and once it stands.
use Rattle.std.proofs.Common.{◌≡◌, ℕ, Bool, true, false, ◌&&◌, not, List, Option, Some, None, IsTrue, IsFalse, refl, sym, ◌∙◌, subst, arith}
use Rattle.std.specs.Prelude.{is_some, IsSomeAnd}
use Rattle.std.proofs.lemmas.Bool.{false≢true}
use Rattle.std.proofs.lemmas.Bool.Decides.{nat_tests}
use Rattle.lvm_num.specs.declared.record.Kind.{Kind}
use Rattle.lvm_num.specs.declared.record.Stamp.{Stamp}
use Rattle.lvm_num.specs.declared.record.Framed.{Framed}
use Rattle.lvm_num.specs.declared.descriptor.Descriptor.{Descriptor}
use Rattle.lvm_num.specs.Buffer.{Buffer}
use Rattle.lvm_num.specs.Disks.{Disks}
use Rattle.lvm_num.specs.Votes.{CanWrite}
use Rattle.lvm_disk.specs.Device.{Media, Image, Device, image_of, IsCrashImage, MayLeave, HasSectors, IsWholeImage}
use Rattle.lvm_disk.specs.Paths.{DeviceStep, Path, Here, Then}
use Rattle.lvm_disk.proofs.StepsLemmas.{step_same}
use Rattle.lvm_kept.specs.Plans.{ChangesBy}
use Rattle.lvm_kept.specs.Torn.{RecordWrite, IsOfRecord, StandsOn}
use Rattle.lvm_status.specs.Update.{Stored}
use Rattle.lvm_rec.specs.declared.homes.Homes.{Homes}
use Rattle.lvm_write.specs.Written.{write_of, KeepsShelf, IsWriting, written_well}
use Rattle.lvm_write.proofs.WrittenLemmas.Writing.{told_at}
use Rattle.lvm_steps.specs.Laws.{IsNoLater}
use Rattle.lvm_commit.specs.Committed.{next_stamp, HoldsCommitted}
use Rattle.lvm_commit.specs.LawsOfWrites.{StandsWritten}
use Rattle.lvm_commit.specs.Settling.{there, IsOf, SessionIsHeld}
use Rattle.lvm_commit.specs.Rounds.{WasTried}
use Rattle.lvm_commit.proofs.SettlingLemmas.Chaining.{there_then}

-- ---- where the media is told

pub told_with : {P : Device → Type 0} {a b : Device} → Path DeviceStep P a b → is_some b.media ≡ is_some a.media
told_with (Here p) = refl
told_with (Then path step p) = (step_same _ _ step).told ∙ told_with path

-- each moment tells its media as the first one does
pub with_told : {P : Device → Type 0} {a b : Device} → Path DeviceStep P a b → Path DeviceStep (λ d. P d × (is_some d.media ≡ is_some a.media)) a b
with_told (Here p) = Here (p, refl)
with_told (Then path step p) = Then (with_told path) step (p, (step_same _ _ step).told ∙ told_with path)

pub told_before : (old d : Device) (image : Image) → is_some d.media ≡ is_some old.media → MayLeave d image → (media : Media) × (old.media ≡ Some media)
told_before old d image same may = go d.media old.media refl same may
  where
    go : (now was : Option Media) → old.media ≡ was → is_some now ≡ is_some was → IsSomeAnd now (λ media. IsCrashImage (image_of d.sizes media) d.flights image) → (media : Media) × (old.media ≡ Some media)
    go None was told same left = absurd left
    go (Some m) None told same left = absurd (false≢true (sym same))
    go (Some m) (Some k) told same left = (k, told)

no_later : (stamp : Stamp) → IsNoLater stamp stamp
no_later stamp = grind (arith, nat_tests)

-- ---- one record of a session

module _ (first : Stored) (homes : Homes) (old : Device) (sectors : HasSectors old) (which : Kind) (content : List ℕ) where
  abbrev pub framed : Framed
  framed = record { stamp = next_stamp first.stamp; content = content }

  abbrev pub one_write : RecordWrite
  one_write = write_of which framed (there first) homes

  pub whole : (media : Media) → old.media ≡ Some media → IsWholeImage (image_of old.sizes media)
  whole media told = told_at old.media (λ m. IsWholeImage (image_of old.sizes m)) media told sectors

  pub held_at : (group : Descriptor) (media : Media) → old.media ≡ Some media → SessionIsHeld old group first homes → HoldsCommitted (image_of old.sizes media) group first.committed (there first) first.stamp homes
  held_at group media told held = told_at old.media (λ m. HoldsCommitted (image_of old.sizes m) group first.committed (there first) first.stamp homes) media told held

  pub by_at : (d : Device) (media : Media) → old.media ≡ Some media → IsWriting (IsOfRecord one_write) old d → (image : Image) → MayLeave d image → ChangesBy (IsOfRecord one_write) (image_of old.sizes media) image
  by_at d media told writing = told_at old.media (λ m. (image : Image) → MayLeave d image → ChangesBy (IsOfRecord one_write) (image_of old.sizes m) image) media told writing

  pub later : IsNoLater (next_stamp first.stamp) framed.stamp
  later = no_later (next_stamp first.stamp)

  -- the group has the votes of the session's
  pub can_write : (group : Descriptor) (set : Disks) → IsOf group first → CanWrite first.group set → CanWrite group set
  can_write group set own enough = subst (λ (g : Descriptor). CanWrite g set) (sym own) enough

  -- ---- once it stands
  module _ (last : Stored) (next : Homes) (new : Device) (number : ℕ) (keeps : KeepsShelf (there first) (IsOfRecord one_write) old new) (buf : Buffer)
      (tried : WasTried one_write number (record first { stamp = next_stamp first.stamp }) last homes next old new buf) where
    abbrev pub written : Disks
    written = written_well (there first) tried.failed

    pub there_written : there last ≡ written
    there_written = λ t d. there_then one_write number (record first { stamp = next_stamp first.stamp }) last homes next old new buf refl tried d t

    written_was : (d : ℕ) → IsTrue (written d) → IsTrue (there first d) × IsFalse (tried.failed d)
    written_was d is = parts (there first d) (tried.failed d) is
      where
        parts : (a b : Bool) → a && not b ≡ true → (a ≡ true) × (b ≡ false)
        parts true true is = (refl, sym is)
        parts true false is = (refl, refl)
        parts false b is = absurd (false≢true is)

    pub stand : (was is : Media) → new.media ≡ Some is → ChangesBy (IsOfRecord one_write) (image_of old.sizes was) (image_of new.sizes is) → StandsWritten one_write written homes next (image_of old.sizes was) (image_of new.sizes is)
    stand was is told_new by = record {
      changes = by;
      targets = λ d on. (written_was d on).0;
      stands = λ d on. told_at new.media (λ m. StandsOn one_write (image_of new.sizes m) d) is told_new ((tried.each d).stands (written_was d on).0 (written_was d on).1);
      flips = tried.flips;
    }
