-- What was planned may be written.
use Rattle.std.proofs.Common.{◌≢◌, ℕ, ◌≤◌, List, Some, length, sym, subst}
use Rattle.lvm_num.specs.declared.record.Kind.TheVariants as kind
use Rattle.lvm_num.specs.Descriptor.{IsValid}
use Rattle.lvm_num.specs.Disks.{has}
use Rattle.lvm_num.specs.Record.{longest_content}
use Rattle.lvm_disk.specs.Device.{Device}
use Rattle.lvm_quorum.specs.declared.row.Survey.{Survey}
use Rattle.lvm_quorum.specs.Surveyed.{surveyed}
use Rattle.lvm_varyon.specs.passed.Core.{Room}
use Rattle.lvm_varyon.proofs.passed.Core.{descriptor_fits}
use Rattle.lvm_varyon.proofs.passed.Recovery.{planned_may_be_made, planned_are_apart}
use Rattle.lvm_varyon.specs.declared.plan.Plan.{Plan}
use Rattle.lvm_varyon.specs.Copied.{all_copies}
use Rattle.lvm_varyon.specs.Equal.{MayWritePlan}
use Rattle.lvm_varyon.specs.Planned.{IsPlan}
use Rattle.lvm_varyon.specs.Parts.{IsSurveyOf}
use Rattle.lvm_varyon.proofs.Beginning.{targets_have_room}
use Rattle.lvm_varyon.proofs.EndingLemmas.{have_sectors}
use Rattle.lvm_varyon.proofs.RecordLemmas.{status_fits}
use Rattle.lvm_varyon.proofs.SecondLemmas.{SecondFits, second_fits}

pub may_write : (old read : Device) (survey : Survey) (is : IsSurveyOf old read survey) (name : List ℕ) (moment : ℕ) (some : moment ≢ 0) (room : Room) (plan : Plan) (by : IsPlan survey name moment room plan) → MayWritePlan read plan
may_write old read survey is name moment some room plan by = record {
  descriptor = subst (λ (bytes : List ℕ). length bytes ≤ longest_content kind.Descriptor) (sym by.descriptor) (descriptor_fits by.group by.valid);
  status = subst (λ (bytes : List ℕ). length bytes ≤ longest_content kind.Status) (sym by.status) (status_fits by.next by.next_is.valid);
  equal = record {
    valid = subst IsValid (sym by.parts.descriptor) by.valid;
    ranges = planned_may_be_made (surveyed survey) by.group (Some by.was) (has plan.targets) read.sizes (all_copies plan) by.valid (have_sectors old read survey is name moment some room plan by) by.copies;
    apart = planned_are_apart (surveyed survey) by.group (Some by.was) (has plan.targets) (all_copies plan) by.valid by.copies.each;
    fits = subst SecondFits (sym by.second) (second_fits by.clean by.clean_valid);
    targets = targets_have_room old read survey is name moment some room plan by;
  };
}
