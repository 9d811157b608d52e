-- Passed on from `lvm_core`.
pub use Rattle.lvm_core.specs.Committing.{AreUnused, CommitEnds, HasCommitted, HasGoneDark, HasStated, IsLeftOut, LetsCommit, MarkEnds, RecordsEnd, Restates, moment_of, with_one_out}
pub use Rattle.lvm_core.specs.Entering.{IsEntryOfCommand, last_reads}
pub use Rattle.lvm_core.specs.Held.{AreNotesHome, IsHeld, NotesAreHome}
pub use Rattle.lvm_core.specs.Leaves.{Always, EntersVolumes, FindsOnly, IsHeldSince, IsOfCommand, KeepsStatus, Leaves, MayBeFound, NoDescriptor, NoPartition, NoVolume, Scope, WasLeftBehind, committing, dirtying, marking, zeroing}
pub use Rattle.lvm_core.specs.Settled.{HasSpareNumbers, IsSettled}
pub use Rattle.lvm_core.specs.State.{state_of}
pub use Rattle.lvm_core.specs.Zeros.{HasZeroed, IsAsBefore, IsZeroOf, IsZeroed, KeepsRecords, ZeroEnds}
pub use Rattle.lvm_core.specs.declared.fault.CommitFault.{CommitFault}
