use Rattle.std.proofs.Common.{sym, ap, ◌∙◌}
use Rattle.std.specs.Option.{option_copied}
use Rattle.lvm_move_plan.proofs.PlanLemmas.{laid_out}
use Rattle.lvm_move_plan.proofs.plan.stands_beside.Goals as goal

pub copies_of-requires-clause-map : goal.copies_of-requires-clause-map
copies_of-requires-clause-map c = laid_out c.args.d.now c.args.copy.lv c.in-Some.row.now c.requires (sym c.volume_of.ensures ∙ ap option_copied c.in-Some.is)
