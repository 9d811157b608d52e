use Rattle.lvm_ranges.proofs.PiecesLemmas.{numbers_so}
use Rattle.lvm_ranges.proofs.ask.has_numbers.Goals as goal

pub returns : goal.returns
returns g c = numbers_so c.numbers_left.result c.args.driver.now.1.status.stamp.seq c.numbers_left.ensures
