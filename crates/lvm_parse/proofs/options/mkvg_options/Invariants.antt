use Rattle.std.proofs.Common.{◌≡◌, length}
use Rattle.lvm_parse.specs.Reading.{options}
use Rattle.lvm_parse.specs.Options.{mkvg_choice, no_mkvg_options}
use Rattle.lvm_parse.specs.Rests.{left}
use Rattle.lvm_parse.proofs.options.mkvg_options.Given as goal

abbrev pub invariant-options : goal.invariant-options
invariant-options l = options mkvg_choice l.options (left l.rest) ≡ options mkvg_choice no_mkvg_options (left l.fn.rest)

abbrev pub decreases-options : goal.decreases-options
decreases-options l = length (left l.rest).words
