use Rattle.std.proofs.Common.{subst}
use Rattle.lvm_num.specs.Descriptor.{IsValid}
use Rattle.lvm_ranges.proofs.PiecesLemmas.{range_fits}
use Rattle.lvm_ranges.proofs.ask.fits.Goals as goal

pub returns : goal.returns
returns g c = range_fits c.args.driver.now.1 c.args.lv c.args.at c.args.count (subst IsValid c.descriptor.ensures.same c.descriptor.ensures.valid) c.requires.on c.requires.may
