use Rattle.lvm_tests_groups.proofs.tests.choice.chosen.Goals as goal

pub choose-requires-clause-valid : goal.choose-requires-clause-valid
choose-requires-clause-valid g c = c.is_survey.ensures.valid c.if-not-is_survey.false
