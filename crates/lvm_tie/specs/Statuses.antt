-- The ends of writes of the status.
use Rattle.std.specs.Prelude.{ℕ, Bool}
use Rattle.lvm_disk.specs.Device.{HasSectors}
use Rattle.lvm_keeps_events.specs.StatusEnds.{EndsStatus}
use Rattle.lvm_tie.specs.Tied.{Ties}

-- On a shelf of whole sectors a write of the update that ends leaves a tied session tied: the update may be committed by it, or end, or the disk be missing.
abbrev pub StatusEndTies : Type 0
StatusEndTies = (at disk : ℕ) (ok : Bool) → Ties (λ old new. HasSectors new.device × EndsStatus old new at disk ok)
