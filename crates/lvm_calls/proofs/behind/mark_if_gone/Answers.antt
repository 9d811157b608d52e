use Rattle.std.proofs.Common.{sym, ◌∙◌}
use Rattle.lvm_calls.proofs.LeftLemmas.{none_gone, one_gone}
use Rattle.lvm_calls.proofs.behind.mark_if_gone.Goals as goal

pub returns-then-is_gone : goal.returns-then-is_gone
returns-then-is_gone c = one_gone c.args.pp c.args.updater.now c.want_stale.new.updater (sym c.is_gone.ensures ∙ c.if-is_gone.true) c.want_stale.ensures

pub returns-else-is_gone : goal.returns-else-is_gone
returns-else-is_gone c = none_gone c.args.pp c.args.updater.now (sym c.is_gone.ensures ∙ c.if-is_gone.false)
