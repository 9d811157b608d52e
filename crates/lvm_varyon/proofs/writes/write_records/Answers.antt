use Rattle.lvm_varyon.proofs.writes.write_records.Goals as goal

pub returns-in-Ended : goal.returns-in-Ended
returns-in-Ended g c =
    let e = c.in-Ended.ensures in
    record {
      gives = record { stand = e.ends.stand; well = e.ends.well; keeps = e.leaves.keeps; flips = e.ends.flips; rested = record { ready = e.ends.back.ready; cuts = e.ends.back.cuts } };
      leaves = e.leaves;
      kept = e.kept;
    }

pub returns-in-DiskFailed : goal.returns-in-DiskFailed
returns-in-DiskFailed g c =
    let e = c.in-DiskFailed.ensures in
    record { gives = record { first = e.ends.first; stops = e.ends.stop; rested = record { ready = e.ends.back.ready; cuts = e.ends.back.cuts } }; leaves = e.leaves; kept = e.kept }

pub returns-in-Dark : goal.returns-in-Dark
returns-in-Dark g c =
    let e = c.in-Dark.ensures in
    record { gives = (record { power = e.ends.0.power; flights = e.ends.0.flights; cuts = e.ends.0.cuts }, e.ends.1); leaves = e.leaves; kept = e.kept }

pub returns : goal.returns
returns g c =
    let e = c.in-Stuck.ensures in
    let out = e.ends.0 in
    record { gives = (record { flight = out.flight; out = out.flights; freed = out.freed; power = out.power; cuts = out.cuts; waited = out.waits }, e.ends.1); leaves = e.leaves; kept = e.kept }
