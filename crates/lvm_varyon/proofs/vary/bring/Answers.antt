use Rattle.std.proofs.Common.{ℕ, Result, sym, subst}
use Rattle.std.proofs.lemmas.Result.{err_from_is_err_and}
use Rattle.lvm_varyon.proofs.VariedLemmas.Bringing.{all_behind, brings, unwritten_behind}
use Rattle.lvm_varyon.proofs.PathsLemmas.{reading_kept, writing_kept}
use Rattle.lvm_varyon.proofs.EqualLemmas.MayWrite.{may_write}
use Rattle.lvm_varyon.proofs.EqualLemmas.Wrote.{wrote}
use Rattle.lvm_varyon.proofs.vary.bring.Goals as goal
use Rattle.lvm_write.specs.Parts.{Spends}
use Rattle.lvm_write.proofs.PartsLemmas.Transfers.{spends_then}
use Rattle.lvm_rec.specs.declared.homes.Homes.{Homes}
use Rattle.lvm_varyon.specs.passed.SessionStart.{Parts}
use Rattle.lvm_varyon.specs.passed.Core.{Cause}
use Rattle.lvm_varyon.specs.Copied.{all_copies}
use Rattle.lvm_varyon.specs.Parts.{IsPlannedBy, plan_beginning}
use Rattle.lvm_varyon.specs.Varied.{BringGives}

-- ---- the disks were read

pub returns-in_err-plan : goal.returns-in_err-plan
returns-in_err-plan g c =
    let old = g.S.Shelf.device c.args.shelf.now in
    let new = g.S.Shelf.device c.read_plan.new.shelf in
    let only = c.read_plan.ensures.only in
    let p = err_from_is_err_and c.from_residual.result c.from_residual.ensures.1 in
    rw (p.1, p.2) (record {
      gives = c.in_err-plan.ensures.stops;
      spends = record { falls = only.falls; waits = only.waited };
      behind = unwritten_behind c.args.moment old new (g.met.S.Shelf.sectors_are_whole c.read_plan.new.shelf) only.unwritten c.ranges.moment.fits;
      kept = λ ahead. reading_kept old new only.moments;
    })

-- ---- what was planned is written

pub write_all-written-requires-clause-ready : goal.write_all-written-requires-clause-ready
write_all-written-requires-clause-ready g c = c.in_ok-plan.ensures.planned.1.rested.ready

pub write_all-written-requires-clause-may : goal.write_all-written-requires-clause-may
write_all-written-requires-clause-may g c =
    let its = c.in_ok-plan.ensures.planned in
    may_write (g.S.Shelf.device c.args.shelf.now) (g.S.Shelf.device c.read_plan.new.shelf) its.0 its.1 c.args.name c.args.moment c.requires.moment c.args.room c.in_ok-plan.plan its.2

pub returns : goal.returns
returns g c =
    let old = g.S.Shelf.device c.args.shelf.now in
    let read = g.S.Shelf.device c.read_plan.new.shelf in
    let new = g.S.Shelf.device c.write_all-written.new.shelf in
    let before = c.args.patience.now.left in
    let between = c.read_plan.new.patience.left in
    let after = c.write_all-written.new.patience.left in
    let plan = c.in_ok-plan.plan in
    let its : IsPlannedBy old read c.args.name c.args.moment c.args.room plan = c.in_ok-plan.ensures.planned in
    let only = c.read_plan.ensures.only in
    let says = c.write_all-written.ensures in
    let whole = g.met.S.Shelf.sectors_are_whole c.args.shelf.now in
    let first : Spends before between old read = record { falls = only.falls; waits = only.waited } in
    record {
      gives = subst (λ (r : Result ((Parts × ℕ) × Homes) Cause). BringGives old new c.args.name c.args.moment before c.args.room r) (sym c.begin_with.ensures)
          (brings old read its.0 its.1 c.args.name c.args.moment c.requires.moment c.args.room plan its.2 new before between only.falls only.waited whole c.write_all-written.result says.gives);
      spends = spends_then before between after old read new first says.spends;
      behind = λ ahead. all_behind old read its.0 its.1 c.args.name c.args.moment c.requires.moment c.args.room plan its.2 new whole ahead
          (wrote (plan_beginning c.args.moment plan) plan.second (all_copies plan) read new between c.write_all-written.result says.gives);
      kept = λ ahead. writing_kept old read its.0 its.1 c.args.name c.args.moment c.requires.moment c.args.room plan its.2 whole ahead new says.kept only.moments;
    }
