use Rattle.std.proofs.Common.{ap, sym, ◌∙◌}
use Rattle.std.specs.Option.{option_copied}
use Rattle.lvm_move_plan.proofs.PlanLemmas.{laid_out}
use Rattle.lvm_rebuild.proofs.choosing.has_fresh.Goals as goal

pub copies_of-requires-clause-map : goal.copies_of-requires-clause-map
copies_of-requires-clause-map g c = laid_out c.descriptor.result.now c.args.copy.lv c.in-Some.row.now c.descriptor.ensures.valid.maps.laid_out (sym c.volume_of.ensures ∙ ap option_copied c.in-Some.is)
