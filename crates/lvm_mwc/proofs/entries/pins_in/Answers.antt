use Rattle.std.proofs.Common.{sym, refl}
use Rattle.lvm_mwc.specs.Filled.{blank}
use Rattle.lvm_mwc.proofs.EntriesLemmas.Entries.{pins_there, pins_nowhere}
use Rattle.lvm_mwc.proofs.entries.pins_in.Goals as goal

pub returns-in-None : goal.returns-in-None
returns-in-None c = pins_nowhere c.args.entries.now c.args.lv c.args.group (sym c.in-None.ensures)

pub returns-in-Some : goal.returns-in-Some
returns-in-Some c = pins_there c.args.entries.now c.args.entries.now c.args.lv c.args.group c.in-Some.place blank refl (sym c.in-Some.ensures)
