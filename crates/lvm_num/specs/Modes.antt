-- The modes of a volume.
use Rattle.std.specs.Prelude.{Bool, true, false}
use Rattle.lvm_num.specs.declared.descriptor.Mode.{Mode}
use Rattle.lvm_num.specs.declared.descriptor.Mode.TheVariants as mode

-- the volume is active: its notes say what may differ
abbrev pub is_active : Mode → Bool
is_active mode.Active = true
is_active mode.Passive = false
is_active mode.Off = false

-- it is passive: it is marked dirty
abbrev pub is_passive : Mode → Bool
is_passive mode.Active = false
is_passive mode.Passive = true
is_passive mode.Off = false
