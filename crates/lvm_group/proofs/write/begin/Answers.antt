use Rattle.std.proofs.Common.{ℕ, subst}
use Rattle.lvm_write.specs.Written.{IsDarkened, IsGivenUp}
use Rattle.lvm_group.proofs.write.begin.Goals as goal

pub returns-in-Ended : goal.returns-in-Ended
returns-in-Ended g c =
    let e = c.in-Ended.ensures in
    record {
      gives = (record { stand = e.ends.stand; well = e.ends.well; rested = record { ready = e.ends.back.ready; cuts = e.ends.back.cuts } }, e.ends.flips);
      leaves = e.leaves;
      kept = e.kept;
    }

pub returns-in-DiskFailed : goal.returns-in-DiskFailed
returns-in-DiskFailed g c =
    let e = c.in-DiskFailed.ensures in
    record { gives = record { first = e.ends.first; stops = e.ends.stop; rested = record { ready = e.ends.back.ready; cuts = e.ends.back.cuts } }; leaves = e.leaves; kept = e.kept }

pub returns-in-Dark : goal.returns-in-Dark
returns-in-Dark g c =
    let e = c.in-Dark.ensures in
    let dark = subst (λ (k : ℕ). IsDarkened k (g.S.Shelf.device c.args.shelf.now) (g.S.Shelf.device c.begin_new.new.shelf)) c.requires.buffer e.ends.0 in
    record { gives = (dark, e.ends.1); leaves = e.leaves; kept = e.kept }

pub returns : goal.returns
returns g c =
    let e = c.in-Stuck.ensures in
    let stuck = subst (λ (k : ℕ). IsGivenUp k c.args.patience.now.left (g.S.Shelf.device c.args.shelf.now) (g.S.Shelf.device c.begin_new.new.shelf)) c.requires.buffer e.ends.0 in
    record { gives = (stuck, e.ends.1); leaves = e.leaves; kept = e.kept }
