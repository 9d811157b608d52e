use Rattle.std.proofs.Common.{◌≡◌, false, take}
use Rattle.std.specs.List.{list_any}
use Rattle.lvm_session.specs.Fields.{core_of}
use Rattle.lvm_calls.specs.Reviewing.{is_untried}
use Rattle.lvm_calls.proofs.judged.any_is_untried.Given as goal

abbrev pub invariant-loop-pp : goal.invariant-loop-pp
invariant-loop-pp l = list_any (is_untried (core_of l.session) l.copy) (take l.pp-index l.copies) ≡ false
