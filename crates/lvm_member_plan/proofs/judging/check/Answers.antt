use Rattle.std.proofs.Common.{subst}
use Rattle.std.proofs.lemmas.Result.{err_from_is_err_and}
use Rattle.lvm_num.specs.declared.descriptor.Descriptor.{Descriptor}
use Rattle.lvm_member_plan.specs.Refusals.{AreFree}
use Rattle.lvm_member_plan.proofs.NamedLemmas.{few_leave}
use Rattle.lvm_member_plan.proofs.judging.check.Goals as goal

pub returns-in_err-can_take-clause-refused : goal.returns-in_err-can_take-clause-refused
returns-in_err-can_take-clause-refused g c =
    let e = err_from_is_err_and c.from_residual.result c.from_residual.ensures.1 in
    rw (e.1, e.2) (c.in_err-can_take.ensures.refused c.args.disks.now)

pub returns-then-has_room-clause-may : goal.returns-then-has_room-clause-may
returns-then-has_room-clause-may g c =
    let core = c.args.driver.now.1 in
    let disks = c.args.disks.now in
    let free = subst (λ (d : Descriptor). AreFree d disks) c.descriptor.ensures.same c.in_ok-names_members.ensures.free in
    record {
      takes = c.in_ok-can_take.ensures.takes;
      free = free;
      few = few_leave core.descriptor disks c.in_ok-can_take.ensures.group.valid c.requires.differ free;
      votes = c.in_ok-has_votes.ensures.enough;
      room = c.has_room.ensures.0 c.if-has_room.true;
    }
