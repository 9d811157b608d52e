-- The ends of reads, and of writes to the copy that is being brought up.
use Rattle.std.specs.Prelude.{◌≡◌, ◌⊎◌, ℕ, ◌-◌, Bool, false, List, [], Option, Some, IsTrue, IsFalse, slice_index_or}
use Rattle.lvm_num.specs.declared.place.Pp.{Pp}
use Rattle.lvm_num.specs.declared.descriptor.Descriptor.{Descriptor}
use Rattle.lvm_num.specs.declared.status.Status.{Status}
use Rattle.lvm_num.specs.Buffer.{Buffer, Sector}
use Rattle.lvm_num.specs.Descriptor.{IsValid}
use Rattle.lvm_num.specs.Geometry.{sector_of, track_group_of}
use Rattle.lvm_num.specs.Record.{Stamped}
use Rattle.lvm_disk.specs.Device.{Media, Flight, image_of}
use Rattle.lvm_disk.specs.Steps.{ReadsRange}
use Rattle.lvm_kept.specs.Contents.{contents_of, Contents}
use Rattle.lvm_invariant.specs.State.{Queued, ModelCopy, StepWrite, ModelState, covers, is_past}
use Rattle.lvm_invariant.specs.Found.{Votes}
use Rattle.lvm_invariant.specs.Good.{Good}
use Rattle.lvm_invariant.specs.CopyWrite.{CopyWrites, copied}
use Rattle.lvm_crash.specs.Session.{Describes}
use Rattle.lvm_crash.specs.Owned.{IsTransfer}
use Rattle.lvm_crash.specs.Writing.{Lands, after_write}

-- ---- reads

-- A read leaves the media as it is.
abbrev pub ReadLeaves : Type 0
ReadLeaves = (f : Flight) (well : Bool) (m n : Media) → f.write ≡ false → Lands f well m n → n ≡ m

-- the transfer reads a request's blocks on a copy
pub record IsReading (mib : ℕ) (r : Queued) (c : Pp) (f : Flight) : Type 0 where
  pub read : f.write ≡ false
  pub disk : f.disk ≡ c.disk
  pub first : f.first ≡ sector_of mib c.pp r.first
  pub count : f.count ≡ r.count

-- the blocks of a request that a buffer has
abbrev pub in_buffer : Queued → Buffer → ℕ → Sector
in_buffer r buf b = slice_index_or buf.sectors (b - r.first) []

-- What a read of a copy has got is what the copy holds.
abbrev pub ReadGets : Type 0
ReadGets =
    (votes : Votes) (s : ModelState) (i : ℕ) (r : Queued) (c : Pp) (group : Descriptor) (in_flight : Option (Stamped Status)) (sizes : List ℕ) (m : Media) (f : Flight) (buf : Buffer)
    → IsValid group → Good votes s → Describes s s.facts group in_flight (contents_of (image_of sizes m))
    → s.queue i ≡ Some r → IsTrue (s.is_copy r.lv r.first c) → IsReading group.mib r c f → ReadsRange m f buf
    → (lv b : ℕ) → IsTrue (covers r lv b) → in_buffer r buf b ≡ s.media.block lv b c

-- ---- writes to the copy that is being brought up

-- the copy that is open passes track groups of which a step has all blocks
pub record PassesOver (s : ModelState) (r : Queued) (target : Pp) (open_copy : Option ModelCopy) : Type 0 where
  pub old : ModelCopy
  pub new : ModelCopy
  pub is_open : s.open_copy ≡ Some old
  pub is_now : open_copy ≡ Some new
  pub own : old.target ≡ target
  pub same_target : new.target ≡ old.target
  pub still : (lv g : ℕ) → IsTrue (old.passed lv g) → IsTrue (new.passed lv g)
  pub passes : (lv b : ℕ) → IsTrue (new.passed lv (track_group_of b)) → IsTrue (old.passed lv (track_group_of b)) ⊎ (IsTrue (s.is_copy lv b old.target) → IsTrue (covers r lv b))

-- A write of what a step has got has ended.
pub record StepEnded (s : ModelState) (i : ℕ) (r : Queued) (value : ℕ → Sector) (target : Pp) (open_copy : Option ModelCopy) (step_write : Option StepWrite) (group : Descriptor) (in_flight : Option (Stamped Status)) (now : Contents) : Type 0 where
  pub may : CopyWrites s i r value target open_copy (after_write s group.mib r target now)
  pub describes : Describes (copied s (after_write s group.mib r target now) open_copy step_write) s.facts group in_flight now

abbrev pub StepEndsOnDisks : Type 0
StepEndsOnDisks =
    (votes : Votes) (s : ModelState) (i : ℕ) (r : Queued) (value : ℕ → Sector) (target : Pp) (open_copy : Option ModelCopy) (step_write : Option StepWrite)
    (group : Descriptor) (in_flight : Option (Stamped Status)) (sizes : List ℕ) (m n : Media) (f : Flight) (well : Bool)
    → IsValid group → Good votes s → Describes s s.facts group in_flight (contents_of (image_of sizes m))
    → s.queue i ≡ Some r → IsFalse r.write → IsTrue (is_past r.phase) → r.got ≡ Some value → IsTrue (s.is_copy r.lv r.first target) → IsTransfer group.mib r value target f → Lands f well m n
    → (open_copy ≡ s.open_copy) ⊎ (IsTrue well × PassesOver s r target open_copy)
    → StepEnded s i r value target open_copy step_write group in_flight (contents_of (image_of sizes n))
