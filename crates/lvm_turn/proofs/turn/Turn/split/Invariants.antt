use Rattle.lvm_turn.proofs.turn.Turn.split.Given as goal

abbrev pub ghosts-part : goal.ghosts-part
ghosts-part g a = record { client = a.client }
