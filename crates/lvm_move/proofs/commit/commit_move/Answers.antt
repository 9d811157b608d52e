use Rattle.std.proofs.Common.{refl, sym, ◌∙◌, ap}
use Rattle.lvm_move.specs.Moving.{Misses, Writes}
use Rattle.lvm_move.proofs.commit.commit_move.Goals as goal

pub returns-in-Some-clause-does : goal.returns-in-Some-clause-does
returns-in-Some-clause-does g c = Misses c.in-Some.disk (sym c.missing_destination.ensures ∙ c.in-Some.is) refl refl refl

pub returns-in-None-clause-does : goal.returns-in-None-clause-does
returns-in-None-clause-does g c = Writes (sym c.missing_destination.ensures ∙ c.in-None.is) c.write_move.ensures.does
