-- The requests of a table are numbered below the next one.
use Rattle.std.proofs.Common.{◌<◌, ◌≤◌, ◌^◌, List, [], ◌∷◌, length, arith}
use Rattle.std.specs.List.{AllByRecursion}
use Rattle.std.proofs.lemmas.List.Sums.{count_by-le-length}
use Rattle.lvm_vol.specs.Facts.{begun}
use Rattle.lvm_vol.specs.Legal.{begins_in}
use Rattle.lvm_vol.specs.Log.{Log, next_id}
use Rattle.lvm_vol.specs.Order.{Ordered}
use Rattle.lvm_vol.proofs.LogLemmas.{find_stands}
use Rattle.lvm_vol.proofs.FactsLemmas.Order.{numbered, stands-at}
use Rattle.lvm_vol.proofs.FactsLemmas.Counting.{count_begun}
use Rattle.lvm_session.specs.declared.open.Open.{Open}
use Rattle.lvm_session.specs.Sound.{IsAsked}

pub below_next : (log : Log) (os : List Open) → Ordered log.run [] log.facts → AllByRecursion (IsAsked log.facts) os → AllByRecursion (λ (o : Open). o.request.id < next_id log) os
below_next log [] ordered all = tt
below_next log (o ∷ os) ordered all =
    let q = numbered log.run log.facts ordered in
    let found = find_stands o.request.id (begun log.facts) all.0.request all.0.told in
    let high = (stands-at 1 (begun log.facts) all.0.request q.ids found.0).high in
    let own = found.1 in
    let count = count_begun log.run log.facts q.runs in
    (omega (arith, high, own, count), below_next log os ordered all.1)

pub few_next : (log : Log) → length log.facts < 2 ^ 32 → next_id log ≤ 2 ^ 32
few_next log few = let counted = count_by-le-length (begins_in log.run) log.facts in omega (arith, counted, few)
