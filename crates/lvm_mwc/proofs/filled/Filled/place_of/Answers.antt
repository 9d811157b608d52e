use Rattle.std.proofs.Common.{◌∙◌, ap}
use Rattle.std.specs.List.{position}
use Rattle.lvm_mwc.specs.Entries.{is_entry}
use Rattle.lvm_mwc.proofs.LaidLemmas.{all_there, place_laid}
use Rattle.lvm_mwc.proofs.filled.Filled.place_of.Goals as goal

pub returns-clause-place : goal.returns-clause-place
returns-clause-place c = c.get_index_of.ensures.index ∙ place_laid c.self.inside.keys.entries c.args.lv c.args.group ∙ ap (position (is_entry c.args.lv c.args.group)) c.self.view_is

pub returns-clause-full : goal.returns-clause-full
returns-clause-full c = all_there c.self.inside.keys.entries c.args.self.now c.self.view_is c.self.invariant
