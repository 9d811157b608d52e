use Rattle.std.proofs.Common.{◌≡◌, ◌++◌, length, take, drop}
use Rattle.std.specs.Prelude.{map}
use Rattle.lvm_status.specs.Rerowed.{row_from}
use Rattle.lvm_status.proofs.rows.become_rows.Given as goal

abbrev pub invariant-loop-place : goal.invariant-loop-place
invariant-loop-place l = record {
  rows : l.rows ≡ map (row_from l.said) (take l.place l.initial.rows) ++ drop l.place l.initial.rows;
  long : length l.rows ≡ length l.initial.rows;
}
