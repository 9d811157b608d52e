use Rattle.lvm_workers.proofs.BringingLemmas.{ended_so}
use Rattle.lvm_workers.proofs.bring.bring_with.Goals as goal

pub returns : goal.returns
returns g c =
    let did = c.bring_all.ensures in
    record { keeps = record { idle = did.idle; knows = did.knows; own = did.own }; ended = ended_so _ _ c.bring_all.result did.toured did.unheard }
