use Rattle.lvm_program.proofs.load.load.Goals as goal

pub returns-clause-loaded : goal.returns-clause-loaded
returns-clause-loaded g c = record { woven = c.serve-closed.result.woven; synced = c.serve-closed.result.synced; made = c.serve-closed.ensures.made; tells = c.tell_load-status.ensures }
