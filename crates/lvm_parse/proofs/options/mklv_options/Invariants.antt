use Rattle.std.proofs.Common.{◌≡◌, length}
use Rattle.lvm_parse.specs.Reading.{options}
use Rattle.lvm_parse.specs.Options.{mklv_choice, no_mklv_options}
use Rattle.lvm_parse.specs.Rests.{left}
use Rattle.lvm_parse.proofs.options.mklv_options.Given as goal

abbrev pub invariant-options : goal.invariant-options
invariant-options l = options mklv_choice l.options (left l.rest) ≡ options mklv_choice no_mklv_options (left l.fn.rest)

abbrev pub decreases-options : goal.decreases-options
decreases-options l = length (left l.rest).words
