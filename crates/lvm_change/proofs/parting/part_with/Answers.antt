use Rattle.std.proofs.Common.{ap, sym, ◌∙◌}
use Rattle.lvm_num.specs.declared.descriptor.Descriptor.{Descriptor}
use Rattle.lvm_num.specs.Descriptor.{is_member}
use Rattle.lvm_commit.proofs.RoundsLemmas.Wanting.{row_stays}
use Rattle.lvm_change.proofs.parting.part_with.Goals as goal

pub mark_left-requires-clause-rows : goal.mark_left-requires-clause-rows
mark_left-requires-clause-rows c = λ disk. row_stays c.args.updater.now.wanted c.lose.new.updater.wanted c.lose.ensures.wanted.rows disk ∙ c.requires.rows disk ∙ ap (λ (g : Descriptor). is_member g disk) (sym c.lose.ensures.group)
