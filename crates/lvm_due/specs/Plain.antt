-- What may be started where a buffer is there, and from where a copy may be read.
use Rattle.std.specs.Prelude.{Bool, ◌&&◌, not, false, Some, None, if◌then◌else◌}
use Rattle.std.specs.Option.{option_map_or}
use Rattle.lvm_num.specs.declared.place.Pp.{Pp}
use Rattle.lvm_num.specs.Disks.{has}
use Rattle.lvm_num.specs.Descriptor.{is_pp}
use Rattle.lvm_session.specs.declared.bringing.OpenCopy.{OpenCopy}
use Rattle.lvm_session.specs.State.{Core}
use Rattle.lvm_session.specs.Judging.{is_usable}
use Rattle.lvm_session.specs.declared.event.Event.TheVariants as event
use Rattle.lvm_session.specs.Enabled.{Part, copy_write, data_at, first_from, is_status_due, may_read, note_at, or_next}

-- a write of the status
abbrev pub plain_status : Part
plain_status core = if is_status_due core then Some event.StartStatus else None

-- a read of the copy that is open
abbrev pub plain_read : Part
plain_read core = if option_map_or (may_read core) core.copy false then Some event.ReadCopy else None

-- a transfer of a request, or else one of the copy
abbrev pub data_or_copy : Part
data_or_copy core = or_next (first_from (data_at core) 0 core.requests) (or_next (plain_read core) (copy_write core))

-- the first of all
abbrev pub first_started : Part
first_started core = or_next (plain_status core) (or_next (first_from (note_at core) 0 core.requests) (data_or_copy core))

-- another copy of its logical partition, which is usable and wasn't read in vain for this track group
abbrev pub is_source : Core → OpenCopy → Pp → Bool
is_source core c p = (not (is_pp p c.pp) && is_usable core p) && not (has c.tried p.disk)
