use Rattle.std.proofs.Common.{sym, subst}
use Rattle.lvm_calls.specs.Numbers.{IsNumberAt}
use Rattle.lvm_calls.proofs.NumbersLemmas.{number_at}
use Rattle.lvm_calls.proofs.numbers.number_at.Goals as goal

pub returns : goal.returns
returns c = subst (IsNumberAt c.args.history.now c.args.k) (sym c.number_of.ensures) (number_at c.args.history.now c.args.k c.entry.result c.requires.ordered c.entry.ensures)
