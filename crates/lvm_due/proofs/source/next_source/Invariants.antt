use Rattle.std.proofs.Common.{◌≡◌, drop}
use Rattle.std.specs.Prelude.{find}
use Rattle.lvm_session.specs.Fields.{core_of}
use Rattle.lvm_session.specs.Judging.{copies_in}
use Rattle.lvm_due.specs.Plain.{is_source}
use Rattle.lvm_due.proofs.source.next_source.Given as goal

abbrev pub invariant-loop-k : goal.invariant-loop-k
invariant-loop-k l =
    find (is_source (core_of l.session) l.copy) (drop l.k l.copies) ≡ find (is_source (core_of l.session) l.copy) (copies_in l.session.descriptor l.copy.lv l.copy.lp)
