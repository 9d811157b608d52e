use Rattle.std.proofs.Common.{List, ℕ, subst, sym}
use Rattle.std.specs.Prelude.{All}
use Rattle.std.proofs.lemmas.Result.{err_from_is_err_and}
use Rattle.lvm_write.proofs.PartsLemmas.Transfers.{spends_then, still_room}
use Rattle.lvm_varyon.specs.passed.Recovery.{MayCopy}
use Rattle.lvm_varyon.specs.Copied.{all_copies}
use Rattle.lvm_varyon.specs.Parts.{plan_beginning}
use Rattle.lvm_varyon.proofs.EqualLemmas.AllWrites.{all_give, all_kept, records_kept, records_stop}
use Rattle.lvm_varyon.proofs.vary.write_all.Goals as goal

pub write_plan-requires-clause-descriptor : goal.write_plan-requires-clause-descriptor
write_plan-requires-clause-descriptor g c = c.requires.may.descriptor

pub write_plan-requires-clause-status : goal.write_plan-requires-clause-status
write_plan-requires-clause-status g c = c.requires.may.status

pub write_plan-requires-clause-targets : goal.write_plan-requires-clause-targets
write_plan-requires-clause-targets g c = c.requires.may.equal.targets

pub returns-in_err-homes : goal.returns-in_err-homes
returns-in_err-homes g c =
    let plan = c.args.plan.now in
    let old = g.S.Shelf.device c.args.shelf.now in
    let new = g.S.Shelf.device c.write_plan.new.shelf in
    let says = c.in_err-homes.ensures in
    let p = err_from_is_err_and c.from_residual.result c.from_residual.ensures.1 in
    rw (p.1, p.2) (record {
      gives = records_stop (plan_beginning c.args.moment plan) (all_copies plan) plan.second c.args.patience.now.left old new c.in_err-homes.field-0.0 says.gives;
      spends = says.leaves.spends;
      kept = records_kept (plan_beginning c.args.moment plan) (all_copies plan) plan.second c.args.patience.now.left old new says.kept;
    })

pub make_equal-requires-clause-ready : goal.make_equal-requires-clause-ready
make_equal-requires-clause-ready g c = c.in_ok-homes.ensures.gives.rested.ready

pub make_equal-requires-clause-may : goal.make_equal-requires-clause-may
make_equal-requires-clause-may g c =
    let plan = c.args.plan.now in
    let may = c.requires.may.equal in
    record {
      valid = may.valid;
      ranges = subst (λ (sizes : List ℕ). All (MayCopy sizes) (all_copies plan)) (sym c.in_ok-homes.ensures.gives.keeps.sizes) may.ranges;
      apart = may.apart;
      fits = may.fits;
      targets = λ d target. still_room (g.S.Shelf.device c.args.shelf.now) (g.S.Shelf.device c.write_plan.new.shelf) d c.in_ok-homes.ensures.gives.keeps.sizes (may.targets d target);
    }

pub returns : goal.returns
returns g c =
    let plan = c.args.plan.now in
    let b = plan_beginning c.args.moment plan in
    let old = g.S.Shelf.device c.args.shelf.now in
    let mid = g.S.Shelf.device c.write_plan.new.shelf in
    let new = g.S.Shelf.device c.make_equal.new.shelf in
    let first = c.in_ok-homes.ensures in
    let says = c.make_equal.ensures in
    record {
      gives = all_give b (all_copies plan) plan.second c.args.patience.now.left old c.in_ok-homes.homes mid new first.gives c.write_plan.new.patience.left first.leaves.spends c.make_equal.result says.gives;
      spends = spends_then c.args.patience.now.left c.write_plan.new.patience.left c.make_equal.new.patience.left old mid new first.leaves.spends says.spends;
      kept = all_kept b (all_copies plan) plan.second c.args.patience.now.left old c.in_ok-homes.homes mid new first.gives first.kept says.kept;
    }
