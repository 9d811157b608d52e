use Rattle.lvm_session.specs.State.{state_of}
use Rattle.lvm_load.specs.Loading.{plan_of}
use Rattle.lvm_load.proofs.load.share_session.Given as goal

abbrev pub ghosts-share_as : goal.ghosts-share_as
ghosts-share_as g a = record { plan = plan_of (state_of g.S.Shelf.device a.driver) a.lv a.blocks a.load.now }
