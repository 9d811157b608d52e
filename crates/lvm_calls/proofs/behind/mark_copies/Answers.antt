use Rattle.std.proofs.Common.{sym, ◌∙◌}
use Rattle.lvm_calls.proofs.LeftLemmas.{copies_left, none_left}
use Rattle.lvm_calls.proofs.behind.mark_copies.Goals as goal

pub returns-then-any_stands_in : goal.returns-then-any_stands_in
returns-then-any_stands_in c = copies_left c.args.copies.now c.args.updater.now c.mark_gone.new.updater (sym c.any_stands_in.ensures ∙ c.if-any_stands_in.true) c.mark_gone.ensures

pub returns-else-any_stands_in : goal.returns-else-any_stands_in
returns-else-any_stands_in c = none_left c.args.copies.now c.args.updater.now (sym c.any_stands_in.ensures ∙ c.if-any_stands_in.false)
