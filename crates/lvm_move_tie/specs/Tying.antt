-- A tied session is tied by the next descriptor once the commit of its move has ended well.
use Rattle.std.specs.Prelude.{◌≡◌, ℕ, List, Ok}
use Rattle.lvm_num.specs.DescriptorBytes.{descriptor_of}
use Rattle.lvm_disk.specs.Device.{HasSectors}
use Rattle.lvm_vol.specs.Facts.{Fact}
use Rattle.lvm_session.specs.declared.bringing.OpenCopy.{OpenCopy}
use Rattle.lvm_session.specs.State.{State}
use Rattle.lvm_session.specs.Sound.{IsSound}
use Rattle.lvm_move.specs.Moving.{CommitsMove}
use Rattle.lvm_move_keeps.specs.Drained.{IsDrainedMoving}
use Rattle.lvm_tie.specs.Spares.{SparesDescriptors}
use Rattle.lvm_tie.specs.Tied.{IsTied}
use Rattle.lvm_move_tie.specs.Taking.{next_group}

-- So it is, and each member that isn't missing spares its newest descriptor further on.
abbrev pub MoveTies : Type 0
MoveTies =
    (past : List Fact) (s new : State) (c : OpenCopy) (content : List ℕ) (before after : ℕ) → IsTied past s → IsDrainedMoving s c → SparesDescriptors s → descriptor_of content ≡ Ok (next_group s c)
    → CommitsMove (next_group s c) content before after s new (Ok tt) → IsSound new → HasSectors new.device
    → IsTied past new × SparesDescriptors new
