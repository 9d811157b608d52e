use Rattle.std.proofs.Common.{◌≡◌, drop}
use Rattle.std.specs.List.{list_all}
use Rattle.lvm_status.specs.passed.Num.{PvRow}
use Rattle.lvm_status.specs.Table.{has_row}
use Rattle.lvm_status.proofs.updater.all_have_rows.Given as goal

abbrev pub invariant-loop-member : goal.invariant-loop-member
invariant-loop-member l = list_all (λ (member : PvRow). has_row l.table member.disk) (drop l.member-index l.d.pvs) ≡ list_all (λ (member : PvRow). has_row l.table member.disk) l.d.pvs
