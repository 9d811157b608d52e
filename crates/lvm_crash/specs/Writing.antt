-- The end of a write of a request.
use Rattle.std.specs.Prelude.{◌≡◌, ℕ, Bool, true, false, ◌&&◌, if◌then◌else◌, List, Option, Some, IsTrue}
use Rattle.lvm_num.specs.declared.place.Pp.{Pp}
use Rattle.lvm_num.specs.declared.descriptor.Descriptor.{Descriptor}
use Rattle.lvm_num.specs.declared.status.Status.{Status}
use Rattle.lvm_num.specs.Buffer.{Buffer, Sector}
use Rattle.lvm_num.specs.Descriptor.{IsValid, is_pp}
use Rattle.lvm_num.specs.Record.{Stamped}
use Rattle.lvm_disk.specs.Device.{Media, Flight, Device, written, image_of}
use Rattle.lvm_disk.specs.Steps.{PutsSome, EndsDone, EndsFailed}
use Rattle.lvm_kept.specs.Contents.{Contents, contents_of}
use Rattle.lvm_kept.specs.Group.{block_at}
use Rattle.lvm_invariant.specs.State.{Stage, Flying, Well, Badly, Queued, ModelState, covers, Started}
use Rattle.lvm_invariant.specs.Found.{Votes}
use Rattle.lvm_invariant.specs.Good.{Good}
use Rattle.lvm_invariant.specs.Transfer.{Restages, restaged}
use Rattle.lvm_crash.specs.Session.{Describes}
use Rattle.lvm_crash.specs.Owned.{IsTransfer}

-- A transfer has ended, well or not: some of what it writes stands on the media, and all of it where it ended well.
pub record Lands (f : Flight) (well : Bool) (m n : Media) : Type 0 where
  pub some : PutsSome f m n
  pub all : IsTrue well → (d s : ℕ) (x : Sector) → written f d s ≡ Some x → n d s ≡ x

-- Each end of a transfer is one.
pub record EndsLand : Type 0 where
  pub done : (old new : Device) (ticket : ℕ) (buf : Buffer) (m : Media) (ends : EndsDone old new ticket buf) → old.media ≡ Some m → (n : Media) × (new.media ≡ Some n) × Lands ends.flight true m n
  pub failed : (old new : Device) (ticket : ℕ) (buf : Buffer) (m : Media) (ends : EndsFailed old new ticket buf) → old.media ≡ Some m → (n : Media) × (new.media ≡ Some n) × Lands ends.flight false m n

abbrev pub stage_of : Bool → Stage
stage_of true = Well
stage_of false = Badly

-- what the state sees of blocks after a write of these to this copy: of its blocks what stands there, of all others what it saw
abbrev pub after_write : ModelState → ℕ → Queued → Pp → Contents → ℕ → ℕ → Pp → Sector
after_write s mib r c now lv b e = if covers r lv b && is_pp e c then block_at now mib e b else s.media.block lv b e

-- Where a write of a request ends, the state goes on describing the disks once its target is restaged.
pub record WriteEnded (s : ModelState) (i : ℕ) (r : Queued) (c : Pp) (group : Descriptor) (in_flight : Option (Stamped Status)) (well : Bool) (now : Contents) : Type 0 where
  pub may : Restages s i r c (stage_of well) (after_write s group.mib r c now)
  pub describes : Describes (restaged s i r c (stage_of well) (after_write s group.mib r c now)) s.facts group in_flight now

abbrev pub WriteEnds : Type 0
WriteEnds =
    (votes : Votes) (s : ModelState) (i : ℕ) (r : Queued) (c : Pp) (group : Descriptor) (in_flight : Option (Stamped Status)) (sizes : List ℕ) (m n : Media) (f : Flight) (well : Bool)
    → IsValid group → Good votes s → Describes s s.facts group in_flight (contents_of (image_of sizes m))
    → Started s i r → r.targets c ≡ Some Flying → IsTrue (s.is_copy r.lv r.first c) → IsTransfer group.mib r r.value c f → Lands f well m n
    → WriteEnded s i r c group in_flight well (contents_of (image_of sizes n))
