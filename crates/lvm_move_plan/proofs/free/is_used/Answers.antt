use Rattle.std.proofs.Common.{List, ap, ◌∙◌}
use Rattle.std.specs.Prelude.{◌&&◌, ◌==◌}
use Rattle.std.specs.List.{list_any}
use Rattle.lvm_num.specs.declared.place.Pp.{Pp}
use Rattle.lvm_num.specs.declared.descriptor.LvRow.{LvRow}
use Rattle.lvm_map.specs.FirstFit.{is_among}
use Rattle.lvm_move_plan.proofs.PlanLemmas.{any_flat}
use Rattle.lvm_move_plan.proofs.free.is_used.Goals as goal

pub returns : goal.returns
returns c =
    c.is_used_in.ensures ∙ ap (λ (rows : List LvRow). list_any (λ (row : LvRow). is_among row.map c.args.pp) rows) c.as_slice.ensures
    ∙ any_flat (λ (p : Pp). p.disk == c.args.pp.disk && p.pp == c.args.pp.pp) (λ (row : LvRow). row.map) c.args.d.now.lvs
