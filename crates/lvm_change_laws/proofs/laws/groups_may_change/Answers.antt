use Rattle.lvm_change_laws.proofs.SparesLemmas.{spares_are_change}
use Rattle.lvm_change_laws.proofs.RuleLemmas.{rule_is_change, change_opens, statuses_leave_open, rerowed_may_follow, turn_write_keeps, turn_is_held, turn_is_shown}
use Rattle.lvm_change_laws.proofs.laws.groups_may_change.Goals as goal

pub returns : goal.returns
returns c = record { rule = rule_is_change; spares = spares_are_change; opens = change_opens; stays = statuses_leave_open; follows = rerowed_may_follow; keeps = turn_write_keeps; held = turn_is_held; shown = turn_is_shown }
