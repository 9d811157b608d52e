use Rattle.lvm_transfer.proofs.ReadingLemmas.Following.{only_none}
use Rattle.lvm_varyon.proofs.writes.read_disks.Goals as goal

pub returns-in_default-clause-only : goal.returns-in_default-clause-only
returns-in_default-clause-only g c = only_none c.args.patience.now.left (g.S.Shelf.device c.args.shelf.now)

pub returns-in-Ended : goal.returns-in-Ended
returns-in-Ended g c =
    let e = c.in-Ended.ensures in
    record { gives = record { rows = e.rows; all = e.ends.1.all; valid = e.valid; each = e.ends.1.each; unwritten = e.only.unwritten; rested = e.ends.0 }; only = e.only }

pub returns-in-Dark : goal.returns-in-Dark
returns-in-Dark g c = let e = c.in-Dark.ensures in record { gives = (e.only.unwritten, e.ends); only = e.only }

pub returns-in-Stuck : goal.returns-in-Stuck
returns-in-Stuck g c =
    let e = c.in-Stuck.ensures in
    record {
      gives = (e.only.unwritten, record { flight = e.ends.flight; out = e.ends.flights; freed = e.ends.freed; power = e.ends.power; cuts = e.ends.cuts; waited = e.ends.waits });
      only = e.only;
    }

pub returns : goal.returns
returns g c = let e = c.in-Memory.ensures in record { gives = (e.only.unwritten, e.ends.0); only = e.only }
