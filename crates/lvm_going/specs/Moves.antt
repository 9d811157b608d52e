-- The descriptor that is to be ready while a copy moves.
use Rattle.std.specs.Prelude.{if◌then◌else◌, Option, None, Some}
use Rattle.std.specs.Option.{option_map_or}
use Rattle.lvm_num.specs.declared.descriptor.Descriptor.{Descriptor}
pub use Rattle.lvm_moved.specs.Moved.{moved_descriptor}
use Rattle.lvm_session.specs.declared.bringing.OpenCopy.{OpenCopy}
use Rattle.lvm_session.specs.State.{Core}

-- the one in which the open copy stands on its new partition, where it moves
abbrev pub next_by : Descriptor → OpenCopy → Option Descriptor
next_by d c = if c.moves then Some (moved_descriptor d c.lv c.lp c.copy c.pp) else None

-- that of the copy that is open, if one is
abbrev pub next_in : Descriptor → Option OpenCopy → Option Descriptor
next_in d copy = option_map_or (next_by d) copy None

-- the descriptor that the session is to have ready: that of the open copy, while it moves
abbrev pub next_of : Core → Option Descriptor
next_of core = next_in core.descriptor core.copy
