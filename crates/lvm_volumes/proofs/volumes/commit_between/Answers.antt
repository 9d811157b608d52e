use Rattle.std.proofs.Common.{◌≤◌, [], Ok, Err, refl, sym, ap, subst, ◌∙◌}
use Rattle.std.proofs.lemmas.Result.{err_from_is_err_and}
use Rattle.lvm_vol.specs.Log.{Log, plain_fact, spare_entries}
use Rattle.lvm_session.specs.State.{Core, State}
use Rattle.lvm_volume_plan.specs.passed.Core.{state_of, IsSettled, HasSpareNumbers}
use Rattle.lvm_volumes.proofs.StagesLemmas.Entering.{settled_entered, spare_more, needs_one, commits_between}
use Rattle.lvm_volumes.proofs.volumes.commit_between.Goals as goal

pub commit-requires-clause-settled : goal.commit-requires-clause-settled
commit-requires-clause-settled g c = subst IsSettled (sym c.enter.ensures.core) (settled_entered (state_of g.S.Shelf.device c.args.driver.now) (plain_fact c.args.first) c.requires.settled)

pub commit-requires-clause-numbers : goal.commit-requires-clause-numbers
commit-requires-clause-numbers g c = subst HasSpareNumbers (sym c.enter.ensures.core) c.requires.numbers

pub commit-requires-clause-alike : goal.commit-requires-clause-alike
commit-requires-clause-alike g c = c.requires.alike ∙ ap (λ (x : Core). record x.descriptor { lvs = [] }) (sym c.enter.ensures.core)

pub enter-requires-2-clause-spare : goal.enter-requires-2-clause-spare
enter-requires-2-clause-spare g c =
    let same = ap (λ (x : Core). x.history) c.in_ok-commit.ensures.ends.stated.is ∙ ap (λ (x : Core). x.history) c.enter.ensures.core in
    subst (λ (l : Log). 1 ≤ spare_entries l) (sym same) (spare_more c.args.driver.now.1.history (plain_fact c.args.first) (needs_one c.args.first c.requires.command.0) c.requires.spare)

pub returns-in_err-commit : goal.returns-in_err-commit
returns-in_err-commit g c =
    let a : State = state_of g.S.Shelf.device c.args.driver.now in
    let m : State = state_of g.S.Shelf.device c.enter.new.self in
    let b : State = state_of g.S.Shelf.device c.commit.new.self in
    let e = err_from_is_err_and c.from_residual.result c.from_residual.ensures.1 in
    rw (e.1, e.2)
    (commits_between (plain_fact c.args.first) (plain_fact c.args.last) c.args.next c.args.patience.now.left c.commit.new.patience.left a m b b (Err c.in_err-commit.field-0.0)
    (λ t. record { device = g.S.Shelf.device (c.enter.ensures.shelf t); core = c.enter.ensures.core t }) c.commit.ensures.leaves c.commit.ensures.left c.in_err-commit.ensures.ends refl)

pub returns : goal.returns
returns g c =
    let a : State = state_of g.S.Shelf.device c.args.driver.now in
    let m : State = state_of g.S.Shelf.device c.enter.new.self in
    let b : State = state_of g.S.Shelf.device c.commit.new.self in
    let last : State = state_of g.S.Shelf.device c.enter-2.new.self in
    commits_between (plain_fact c.args.first) (plain_fact c.args.last) c.args.next c.args.patience.now.left c.commit.new.patience.left a m b last (Ok tt)
    (λ t. record { device = g.S.Shelf.device (c.enter.ensures.shelf t); core = c.enter.ensures.core t }) c.commit.ensures.leaves c.commit.ensures.left c.in_ok-commit.ensures.ends
    (λ t. record { device = g.S.Shelf.device (c.enter-2.ensures.shelf t); core = c.enter-2.ensures.core t })
