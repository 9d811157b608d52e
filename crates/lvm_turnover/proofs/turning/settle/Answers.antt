use Rattle.std.proofs.Common.{ℕ, subst}
use Rattle.lvm_commit.specs.Settling.{StatusEnds}
use Rattle.lvm_core.proofs.StepsLemmas.Ends.{status_numbered}
use Rattle.lvm_turnover.proofs.SendingLemmas.{out_back}
use Rattle.lvm_turnover.proofs.turning.settle.Goals as goal

pub go_on-requires-clause-out : goal.go_on-requires-clause-out
go_on-requires-clause-out g c =
    let self = c.args.session.now in
    let wrote = c.commit_status-settled in
    out_back wrote.result self.pool c.requires.out
    (status_numbered c.args.buf.number c.args.patience.now.left self.updater wrote.new.updater self.homes wrote.new.homes (g.S.Shelf.device c.args.shelf.now) (g.S.Shelf.device wrote.new.shelf) wrote.result c.requires.number wrote.ensures.ends)

pub returns-clause-settles : goal.returns-clause-settles
returns-clause-settles g c =
    let self = c.args.session.now in
    let wrote = c.commit_status-settled in
    record {
      last = wrote.new.updater;
      homes = wrote.new.homes;
      how = wrote.result;
      ends = subst (λ (n : ℕ). StatusEnds n c.args.patience.now.left self.updater wrote.new.updater self.homes wrote.new.homes (g.S.Shelf.device c.args.shelf.now) (g.S.Shelf.device wrote.new.shelf) wrote.result) c.requires.number wrote.ensures.ends;
      leaves = wrote.ensures.leaves;
      finds = wrote.ensures.finds;
      kept = wrote.ensures.kept;
      goes = c.go_on.ensures.ends;
    }
