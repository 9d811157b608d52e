use Rattle.std.proofs.Common.{◌≡◌, drop}
use Rattle.std.specs.List.{list_all}
use Rattle.lvm_status.specs.passed.Num.{StatusRow, is_member}
use Rattle.lvm_status.proofs.updater.all_are_members.Given as goal

abbrev pub invariant-loop-row : goal.invariant-loop-row
invariant-loop-row l = list_all (λ (row : StatusRow). is_member l.d row.disk) (drop l.row-index l.s.rows) ≡ list_all (λ (row : StatusRow). is_member l.d row.disk) l.s.rows
