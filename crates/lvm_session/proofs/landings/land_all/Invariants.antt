use Rattle.std.proofs.Common.{drop}
use Rattle.lvm_session.proofs.DarkLemmas.{IsLanding}
use Rattle.lvm_session.proofs.landings.land_all.Given as goal

abbrev pub invariant-loop-open : goal.invariant-loop-open
invariant-loop-open l = IsLanding l.how l.initial.history l.history l.requests (drop l.open-index l.requests)
