use Rattle.std.proofs.Common.{sym, ap, subst, refl, ◌∙◌, Option, None, Some, length, if◌then◌else◌, nat_lt, Bool, List, ℕ}
use Rattle.lvm_num.specs.Descriptor.{IsValid}
use Rattle.lvm_num.specs.Disks.{has}
use Rattle.lvm_num.specs.Status.{IsValidStatus}
use Rattle.lvm_num.specs.StatusBytes.{status_bytes}
use Rattle.lvm_quorum.specs.declared.choice.Choice.{Choice}
use Rattle.lvm_core.specs.passed.SessionStart.{IsOneGroup}
use Rattle.lvm_core.specs.Starting.{IsReservedFor}
use Rattle.lvm_recovery.specs.Clean.{left_dirty}
use Rattle.lvm_varyon.proofs.passed.Recovery.{left_dirty_valid}
use Rattle.lvm_varyon.proofs.plan.last_for.Goals as goal

pub second_bytes-requires : goal.second_bytes-requires
second_bytes-requires c = subst (λ (x : Choice). IsValidStatus x.status) (sym c.in_ok-choice.ensures.is) (left_dirty_valid c.args.choice.descriptor c.args.table.now c.args.choice.status (has c.args.choice.answering) c.requires.status)

pub new-requires-clause-descriptor : goal.new-requires-clause-descriptor
new-requires-clause-descriptor c = subst (λ (x : Choice). IsValid x.descriptor) (sym c.in_ok-choice.ensures.is) c.requires.descriptor

pub new-requires-clause-status : goal.new-requires-clause-status
new-requires-clause-status c = subst (λ (x : Choice). IsValidStatus x.status) (sym c.in_ok-choice.ensures.is) (left_dirty_valid c.args.choice.descriptor c.args.table.now c.args.choice.status (has c.args.choice.answering) c.requires.status)

pub new-requires-clause-group : goal.new-requires-clause-group
new-requires-clause-group c = subst (λ (x : Choice). IsOneGroup x.descriptor x.status) (sym c.in_ok-choice.ensures.is) (record { id = c.requires.group.id; rows = c.requires.group.rows })

pub returns : goal.returns
returns c = record {
  clean = left_dirty c.args.choice.descriptor c.args.table.now (has c.args.choice.answering) c.args.choice.status;
  is = refl;
  parts = subst (λ (x : Choice). IsReservedFor x.descriptor x.status c.args.room c.in_ok-parts.parts) c.in_ok-choice.ensures.is c.in_ok-parts.ensures;
  second = c.in_ok-second.ensures
      ∙ ap (λ (goes : Bool). if goes then Some (status_bytes c.in_ok-choice.choice.status) else None) c.in_ok-choice.ensures.goes_is
      ∙ ap (λ (x : Choice). if nat_lt (length x.status.dirty) (length c.args.choice.status.dirty) then Some (status_bytes x.status) else None) c.in_ok-choice.ensures.is;
}
