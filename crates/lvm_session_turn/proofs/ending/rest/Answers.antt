use Rattle.std.proofs.Common.{arith}
use Rattle.lvm_session.specs.Fields.{core_of}
use Rattle.lvm_moves.proofs.OutLemmas.{may_end}
use Rattle.lvm_session_turn.proofs.ending.rest.Goals as goal

pub go_off-requires : goal.go_off-requires
go_off-requires c = may_end (core_of c.args.session.now) c.requires.going

pub returns-then-is_lost-clause-due : goal.returns-then-is_lost-clause-due
returns-then-is_lost-clause-due c = let long = c.len.ensures in c.all.ensures (core_of c.go_off.new.session) (omega (arith, long))
