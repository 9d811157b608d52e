-- What a run upholds by what goes into it alone: the bytes of its script, and the disks at entry.
use Rattle.std.specs.Prelude.{◌≡◌, ℕ, List, [], Option, Some, codes}
use Rattle.lvm_num.specs.declared.descriptor.Descriptor.{Descriptor}
use Rattle.lvm_disk.specs.Device.{Device}
use Rattle.lvm_vol.specs.Facts.{Fact, joined}
use Rattle.lvm_vol.specs.Legal.{Legal}
use Rattle.lvm_steps.specs.Behind.{StampsAreEarlier}
use Rattle.lvm_steps.specs.Moments.{ImagesKept, IsEarlier}
use Rattle.lvm_core.specs.Leaves.{MayBeFound}
use Rattle.lvm_parse.specs.Forced.{HasNowhere}
use Rattle.lvm_top.specs.Blank.{IsToldBlank}
use Rattle.lvm_top.specs.Standing.{HasFewDisks}

-- whatever sets of disks find on the crash images of the shelf is of one group
abbrev pub FindsOneGroup : Device → Type 0
FindsOneGroup device = (v w : ℕ) (g h : Descriptor) → MayBeFound device v g → MayBeFound device w h → v ≡ w

-- There are at most 128 disks, at most one group is found on them, and what stands on them is from before this moment.
pub record HoldsOneGroup (run : ℕ) (entry : Device) : Type 0 where
  pub few : HasFewDisks entry
  pub one : FindsOneGroup entry
  pub before : StampsAreEarlier run entry

-- Where the script's bytes are told and have nowhere `-f`, and the disks hold one group at most: behind each history with which the disks may have come, that of
-- the run is legal, and with both of them each crash image is kept that the disks may leave at the end.
abbrev pub UpholdsPlainly : Option (List ℕ) → ℕ → Device → Device → List Fact → Type 0
UpholdsPlainly script run entry exit facts = (bytes : List ℕ) → script ≡ Some bytes → HasNowhere (codes "-f") bytes → HoldsOneGroup run entry
    → (past : List Fact) → IsEarlier run entry past → Legal (joined past facts) × ImagesKept exit (joined past facts)

-- So may disks of zeros, of which nothing was told before.
abbrev pub BlankHoldsOneGroup : Type 0
BlankHoldsOneGroup = (run : ℕ) (entry : Device) → HasFewDisks entry → IsToldBlank entry → HoldsOneGroup run entry × IsEarlier run entry []
