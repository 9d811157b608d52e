-- The members that aren't missing, by what is committed.
use Rattle.std.proofs.Common.{◌≡◌, ◌∙◌}
use Rattle.lvm_num.specs.declared.descriptor.Descriptor.{Descriptor}
use Rattle.lvm_num.specs.declared.status.Status.{Status}
use Rattle.lvm_num.specs.Disks.{Disks}
use Rattle.lvm_status.specs.Update.{members_there}
use Rattle.lvm_session.specs.State.{Core, is_there}
use Rattle.lvm_core.specs.Settled.{IsSettled}

-- those that a settled session's committed status doesn't call missing
pub there_by : (core : Core) (there : Disks) (d : Descriptor) (s : Status) → IsSettled core → there ≡ members_there d s → d ≡ core.descriptor → s ≡ core.status.committed → there ≡ is_there core
there_by core there d s settled is group committed = is ∙ (λ t. members_there (group t) ((committed ∙ settled.committed) t))
