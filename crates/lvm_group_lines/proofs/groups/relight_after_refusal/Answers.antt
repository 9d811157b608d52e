use Rattle.lvm_group_lines.proofs.LightingLemmas.{left_alone}
use Rattle.lvm_group_lines.proofs.groups.relight_after_refusal.Goals as goal

pub returns-in_default : goal.returns-in_default
returns-in_default g c = left_alone (g.S.Shelf.device c.args.shelf.now) c.args.cause c.in_default.not-Dark
