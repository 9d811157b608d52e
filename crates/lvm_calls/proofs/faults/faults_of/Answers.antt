use Rattle.lvm_session.specs.Fields.{core_of}
use Rattle.lvm_calls.specs.Opening.{counts_seen}
use Rattle.lvm_calls.proofs.OpeningLemmas.{faults_are}
use Rattle.lvm_calls.proofs.faults.faults_of.Goals as goal

pub returns : goal.returns
returns g c =
    faults_are (counts_seen (g.S.Shelf.device c.args.shelf.now) (core_of c.args.session.now)) c.args.copies.now c.args.own c.faults_at.result c.faults_at-2.result c.faults_at-3.result c.faults_seen.result
    c.faults_at.ensures c.faults_at-2.ensures c.faults_at-3.ensures c.faults_seen.ensures
