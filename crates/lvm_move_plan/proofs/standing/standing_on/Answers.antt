use Rattle.std.proofs.Common.{◌≡◌, subst}
use Rattle.std.specs.Prelude.{◌==◌, IfOk}
use Rattle.lvm_num.specs.Disks.{Disks}
use Rattle.lvm_num.proofs.Booleans.{or_false}
use Rattle.lvm_move_plan.specs.Standing.{standing_among}
use Rattle.lvm_move_plan.proofs.standing.standing_on.Goals as goal

pub returns : goal.returns
returns c =
    subst (λ (set : Disks). IfOk c.standing_among.result (λ copies. copies.items ≡ standing_among c.args.d.now c.args.lv set)) (λ t other. or_false (other == c.args.disk) t) c.standing_among.ensures
