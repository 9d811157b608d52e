use Rattle.std.proofs.Common.{refl}
use Rattle.lvm_session.specs.declared.answers.Turned.TheVariants as turned
use Rattle.lvm_load.specs.Bringing.{OneTurn}
use Rattle.lvm_load.proofs.LendingLemmas.Bringing.{moved_turn}
use Rattle.lvm_load.proofs.lent.make_turn.Goals as goal

pub returns-in-Idle : goal.returns-in-Idle
returns-in-Idle g c = OneTurn turned.Idle c.requires.runs c.in-Idle.ensures.makes c.in-Idle.ensures.tells c.in-Idle.ensures.runs refl

pub returns-in_default : goal.returns-in_default
returns-in_default g c = OneTurn c.turn.result c.requires.runs c.turn.ensures.makes c.turn.ensures.tells c.turn.ensures.runs (moved_turn c.turn.result c.in_default.not-Idle)
