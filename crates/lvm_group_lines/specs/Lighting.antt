-- Why no group came on, and what is done about the power then.
use Rattle.std.specs.Prelude.{◌≡◌}
use Rattle.lvm_disk.specs.Device.{Device}
use Rattle.lvm_transfer.specs.Transfer.{Relights}
use Rattle.lvm_quiesce.specs.passed.Core.{Cause}
use Rattle.lvm_quiesce.specs.passed.CoreRefusedCause as cause
use Rattle.lvm_group_lines.specs.declared.reply.Refusal.{Refusal}
use Rattle.lvm_group_lines.specs.declared.reply.Refusal.TheVariants as refusal

-- the cause for which no group came on, as the refusal of its line
abbrev pub refusal_of : Cause → Refusal
refusal_of (cause.NoDisk disk) = refusal.NoDisk disk
refusal_of (cause.TooMany limit) = refusal.TooMany limit
refusal_of (cause.TooSmall disk) = refusal.TooSmall disk
refusal_of cause.GroupExists = refusal.GroupExists
refusal_of cause.NoRecord = refusal.NoRecord
refusal_of cause.Ambiguous = refusal.Ambiguous
refusal_of (cause.NoQuorum have total) = refusal.NoQuorum have total
refusal_of (cause.ClockBack seen) = refusal.ClockBack seen
refusal_of (cause.DiskFailed disk) = refusal.DiskFailed disk
refusal_of cause.HistoryFull = refusal.HistoryFull
refusal_of cause.Dark = refusal.Dark
refusal_of cause.Stuck = refusal.Stuck
refusal_of cause.Memory = refusal.Memory

-- where the power was cut it is put on again
abbrev pub IsRelit : Cause → Device → Device → Type 0
IsRelit cause.Dark left new = Relights left new
IsRelit other left new = new ≡ left
