use Rattle.lvm_program.proofs.workload.draw.Goals as goal

pub returns-clause-drawn : goal.returns-clause-drawn
returns-clause-drawn g c = record { woven = c.serve-closed.result.woven; drawn = c.serve-closed.ensures.drawn; tells = c.tell_woven.ensures; refused_is = c.refusals_told.ensures }
