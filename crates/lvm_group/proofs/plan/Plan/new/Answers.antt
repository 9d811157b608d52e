use Rattle.std.proofs.Common.{ℕ, List, Result, Ok, Err, ap, subst, ◌∙◌}
use Rattle.std.specs.Prelude.{IfOk}
use Rattle.lvm_num.specs.declared.Memory.{Memory}
use Rattle.lvm_num.specs.declared.descriptor.Descriptor.{Descriptor}
use Rattle.lvm_num.specs.declared.status.Status.{Status}
use Rattle.lvm_num.specs.Descriptor.{IsValid}
use Rattle.lvm_num.specs.DescriptorBytes.{descriptor_bytes}
use Rattle.lvm_num.specs.Disks.{has}
use Rattle.lvm_num.specs.Status.{IsValidStatus}
use Rattle.lvm_num.specs.StatusBytes.{status_bytes}
use Rattle.lvm_core.specs.passed.Quorum.{Choice}
use Rattle.lvm_core.specs.declared.parts.Room.{Room}
use Rattle.lvm_core.specs.Starting.{IsReservedFor}
use Rattle.lvm_group.specs.declared.plan.Plan.{Plan}
use Rattle.lvm_group.specs.NewGroup.{status_for}
use Rattle.lvm_group.specs.Planned.{IsChoiceFor, IsPlanOf, IsPlanned}
use Rattle.lvm_group.proofs.plan.Plan.new.Goals as goal

-- a plan with that choice is one of the group
planned : (sizes name : List ℕ) (mib : ℕ) (disks : List ℕ) (moment : ℕ) (room : Room) (choice : Choice) → IsChoiceFor sizes name mib disks moment choice → (r : Result Plan Memory) → IfOk r (IsPlanOf choice room)
    → IfOk r (IsPlanned sizes name mib disks moment room)
planned sizes name mib disks moment room choice its (Err why) is = tt
planned sizes name mib disks moment room choice its (Ok plan) is = record {
  valid = subst IsValid its.descriptor its.valid;
  stated = subst IsValidStatus its.status its.stated;
  descriptor = is.descriptor ∙ ap descriptor_bytes its.descriptor;
  status = is.status ∙ ap status_bytes its.status;
  targets = λ d. ap (λ set. has set d) is.targets ∙ its.targets d;
  parts = subst (λ (d : Descriptor). IsReservedFor d (status_for disks moment) room plan.parts) its.descriptor
      (subst (λ (s : Status). IsReservedFor choice.descriptor s room plan.parts) its.status is.parts);
}

pub returns : goal.returns
returns g c =
    planned (g.S.Shelf.device c.args.shelf.now).sizes c.args.name c.args.mib c.args.disks.now c.args.moment c.args.room c.in_ok-choice.choice c.in_ok-choice.ensures c.plan_with.result c.plan_with.ensures
