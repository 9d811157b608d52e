use Rattle.std.proofs.Common.{sym, ◌∙◌}
use Rattle.lvm_tests_groups.proofs.tests.commit.describe.Goals as goal

pub returns : goal.returns
returns g c = c.requires.own ∙ sym c.commit_descriptor.ensures.leaves.loses.group
