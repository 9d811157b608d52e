use Rattle.std.proofs.Common.{◌≡◌, ◌&&◌, not, drop}
use Rattle.std.specs.List.{list_any}
use Rattle.lvm_num.specs.declared.place.Pp.{Pp}
use Rattle.lvm_due.specs.passed.Session.{core_of, is_wanted_stale, is_settled}
use Rattle.lvm_due.proofs.pending.any_is_unsettled.Given as goal

abbrev pub invariant-loop-pp : goal.invariant-loop-pp
invariant-loop-pp l = list_any (λ (p : Pp). is_wanted_stale (core_of l.session) p && not (is_settled (core_of l.session) p)) (drop l.pp-index l.pps) ≡ list_any (λ (p : Pp). is_wanted_stale (core_of l.session) p && not (is_settled (core_of l.session) p)) l.pps
