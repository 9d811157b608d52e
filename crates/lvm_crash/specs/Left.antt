-- What a loss of power may leave of what stands on the disks of a session.
use Rattle.std.specs.Prelude.{◌≡◌, ◌⊎◌, ℕ, ◌≤◌, Option, None, Some, IsTrue}
use Rattle.lvm_num.specs.declared.place.Pp.{Pp}
use Rattle.lvm_num.specs.declared.descriptor.Descriptor.{Descriptor}
use Rattle.lvm_num.specs.declared.status.Status.{Status}
use Rattle.lvm_num.specs.Geometry.{data_start}
use Rattle.lvm_num.specs.Record.{Stamped}
use Rattle.lvm_kept.specs.Contents.{Contents}
use Rattle.lvm_kept.specs.Group.{block_at, is_named}
use Rattle.lvm_invariant.specs.State.{Groups, ModelState}
use Rattle.lvm_invariant.specs.Crash.{Brings, CopyBrings}

-- Nothing has changed but statuses, notes, and data of disks that show a descriptor.
pub record KeepsGroup (old new : Contents) : Type 0 where
  pub rest : new ≡ record old { status = new.status; note = new.note; block = new.block }
  pub raw : (d b : ℕ) → old.descriptor d ≡ None → data_start ≤ b → new.block d b ≡ old.block d b

-- Each block of a copy is the old one, or what a write or a step brings there; each note is the old one or the one that is out; each
-- status is the old one, or where its write is out the one in flight. All else is what it was.
pub record MayRemain (s : ModelState) (group : Descriptor) (in_flight : Option (Stamped Status)) (old new : Contents) : Type 0 where
  pub kept : KeepsGroup old new
  pub blocks : (lv b : ℕ) (p : Pp) → IsTrue (s.is_copy lv b p)
      → (block_at new group.mib p b ≡ block_at old group.mib p b) ⊎ Brings s lv b p (block_at new group.mib p b) ⊎ CopyBrings s lv b p (block_at new group.mib p b)
  pub notes : (d : ℕ) → (new.note d ≡ old.note d) ⊎ ((n : Groups) × (s.flying_note d ≡ Some n) × ((lv track_group : ℕ) → is_named new d lv track_group ≡ n lv track_group))
  pub statuses : (d : ℕ) → (new.status d ≡ old.status d) ⊎ ((u : Stamped Status) × (in_flight ≡ Some u) × IsTrue (s.status_flying d) × (new.status d ≡ Some u))
