use Rattle.std.proofs.Common.{⊎_elim, inl, inr, arith}
use Rattle.lvm_top.proofs.RunLemmas.Stopping.{how_stopped}
use Rattle.lvm_program.proofs.workload.refuse.Goals as goal

pub write_reply-refused-requires : goal.write_reply-refused-requires
write_reply-refused-requires g c = let few = c.requires.few in omega (arith, few)

pub conclude-shelf-requires-clause-between : goal.conclude-shelf-requires-clause-between
conclude-shelf-requires-clause-between g c = ⊎_elim
    (λ stuck. inl (c.requires.off (c.write_reply-refused.ensures.stuck.0 stuck)))
    (λ heard. inr (c.requires.between (λ is. heard (c.write_reply-refused.ensures.stuck.1 is))))
    (how_stopped c.write_reply-refused.result.1)

pub returns-clause-refused : goal.returns-clause-refused
returns-clause-refused g c = record { concludes = c.conclude-shelf.ensures.concludes; stop = c.write_reply-refused.result.1; tells = c.write_reply-refused.ensures; status_is = c.status_of.ensures }
