use Rattle.lvm_show.proofs.Digits.{one, two, three, four, filled, full}
use Rattle.std.proofs.Common.{arith}
use Rattle.lvm_show.proofs.words.zeros_before.Goals as goal

pub returns-in-0-to-9 : goal.returns-in-0-to-9
returns-in-0-to-9 c = filled c.args.number 1 (one c.args.number (omega arith))

pub returns-in-10-to-99 : goal.returns-in-10-to-99
returns-in-10-to-99 c = filled c.args.number 2 (two c.args.number (omega arith) (omega arith))

pub returns-in-100-to-999 : goal.returns-in-100-to-999
returns-in-100-to-999 c = filled c.args.number 3 (three c.args.number (omega arith) (omega arith))

pub returns-in_default : goal.returns-in_default
returns-in_default c = full c.args.number (four c.args.number (omega arith) (omega (arith, c.ranges.number.fits)))
