-- What a write of a record or of a note to several disks leaves, and how it ends.
use Rattle.std.specs.Prelude.{◌≡◌, ℕ, ◌<◌, ◌&&◌, nat_lt, IsTrue}
use Rattle.lvm_num.specs.Buffer.{Buffer}
use Rattle.lvm_num.specs.Disks.{Disks, has}
use Rattle.lvm_disk.specs.Device.{Device, IsReady}
use Rattle.lvm_disk.specs.Paths.{DeviceStep, Path}
use Rattle.lvm_quorum.specs.passed.Transfer.{Plan, RecordWrite, Homes, Flips}
use Rattle.lvm_write.specs.declared.write.Wrote.{Wrote}
use Rattle.lvm_write.specs.declared.write.Wrote.TheVariants as wrote
use Rattle.lvm_write.specs.Parts.{Spends}
use Rattle.lvm_write.specs.Written.{KeepsShelf, IsWriting, EndsOn, StandsTold, written_well, IsDarkened, IsGivenUp}

-- Whatever its answer: only what is planned was brought to these disks, patience fell by what was waited, and at each moment a crash leaves what stood
-- there or what is planned.
pub record DiskWritesLeave (targets : Disks) (P : Plan) (before after : ℕ) (old new : Device) : Type 0 where
  pub keeps : KeepsShelf targets P old new
  pub spends : Spends before after old new
  pub moments : Path DeviceStep (IsWriting P old) old new

-- Nothing is out, the power was on all the time, and the buffer of this number is back.
pub record IsBack (number : ℕ) (old new : Device) (buf : Buffer) : Type 0 where
  pub ready : IsReady new
  pub cuts : new.counts.cuts ≡ old.counts.cuts
  pub number_is : buf.number ≡ number

-- It was tried on each disk, and this holds of the slots that come next where some disks were written well.
pub record EachTried (targets : Disks) (Stands : Device → ℕ → Type 0) (Next : Disks → Type 0) (number : ℕ) (old new : Device) (failed : Disks) (buf : Buffer) : Type 0 where
  pub each : (d : ℕ) → EndsOn targets Stands failed old new d
  pub next : Next (written_well targets failed)
  pub back : IsBack number old new buf

-- It was broken off at a target, when those before it had been written or had failed, and nothing had started on those behind it.
pub record IsCutShort (targets : Disks) (Stands : Device → ℕ → Type 0) (Next : Disks → Type 0) (old new : Device) : Type 0 where
  pub disk : ℕ
  pub failed : Disks
  pub target : IsTrue (targets disk)
  pub below : (d : ℕ) → d < disk → EndsOn targets Stands failed old new d
  pub above : (d : ℕ) → disk < d → new.counts.starts d ≡ old.counts.starts d
  pub next : Next (λ d. nat_lt d disk && written_well targets failed d)

-- how it ends, by its answer: tried on each disk, or broken off by a power cut or where nothing was heard of a transfer
abbrev pub DiskWritesEnd : Disks → (Device → ℕ → Type 0) → (Disks → Type 0) → ℕ → ℕ → Device → Device → Wrote → Type 0
DiskWritesEnd targets Stands Next number before old new (wrote.Ended failed buf) = EachTried targets Stands Next number old new (has failed) buf
DiskWritesEnd targets Stands Next number before old new wrote.Dark = IsDarkened number old new × IsCutShort targets Stands Next old new
DiskWritesEnd targets Stands Next number before old new wrote.Stuck = IsGivenUp number before old new × IsCutShort targets Stands Next old new

-- so ends the write of a record, whose next slots are the other ones where it was written well
abbrev pub RecordWritesEnd : RecordWrite → Homes → Homes → ℕ → ℕ → Device → Device → Wrote → Type 0
RecordWritesEnd w first next number before old new result = DiskWritesEnd w.targets (StandsTold w) (λ written. Flips w.kind written first next) number before old new result
