use Rattle.std.proofs.Common.{◌+◌, ◌<◌, Some, ap, sym, subst, ◌∙◌}
use Rattle.std.proofs.lemmas.Result.{err_from_is_err_and}
use Rattle.lvm_session.specs.declared.answers.CopyFault.{CopyFault}
use Rattle.lvm_session.specs.State.{Core, State, state_of}
use Rattle.lvm_session.specs.Left.{left_of}
use Rattle.lvm_ranges.specs.passed.Calls.{counts_seen}
use Rattle.lvm_ranges.specs.Passing.{EndsOr, IsJudged, EndsAtCopy, copy_of}
use Rattle.lvm_ranges.specs.Turning.{GoesBeside, IsUnderWay}
use Rattle.lvm_ranges.proofs.PassingLemmas.Judging.{answers, begins, beside_then, broken_off, may_refuse, opens, same_state, turned, under_way}
use Rattle.lvm_ranges.proofs.CallsLemmas.{refused_for}
use Rattle.lvm_ranges.proofs.copies.open_stale.Goals as goal

pub loop-pp-init : goal.loop-pp-init
loop-pp-init g c = begins (copy_of c.args.lv c.args.lp c.args.number c.args.pp) (state_of g.S.Shelf.device c.args.driver.now) c.args.patience.now.left c.requires.unstuck c.requires.may

pub returns-in-Ok-clause-ends : goal.returns-in-Ok-clause-ends
returns-in-Ok-clause-ends g c =
    let device = g.S.Shelf.device in
    (opens (copy_of c.args.lv c.args.lp c.args.number c.args.pp) (state_of device c.args.driver.now) (state_of device c.loop-pp.driver) (state_of device c.open_copy.new.self) c.args.patience.now.left c.loop-pp.patience.left c.loop-pp.invariant
    (sym c.is_stale.ensures ∙ c.loop-pp-test.true) (ap device c.open_copy.ensures.shelf) c.open_copy.ensures.leaves c.in-Ok.ensures.gives).0

pub returns-in-Ok-clause-beside : goal.returns-in-Ok-clause-beside
returns-in-Ok-clause-beside g c =
    let device = g.S.Shelf.device in
    (opens (copy_of c.args.lv c.args.lp c.args.number c.args.pp) (state_of device c.args.driver.now) (state_of device c.loop-pp.driver) (state_of device c.open_copy.new.self) c.args.patience.now.left c.loop-pp.patience.left c.loop-pp.invariant
    (sym c.is_stale.ensures ∙ c.loop-pp-test.true) (ap device c.open_copy.ensures.shelf) c.open_copy.ensures.leaves c.in-Ok.ensures.gives).1

pub make_turn-requires-clause-unstuck : goal.make_turn-requires-clause-unstuck
make_turn-requires-clause-unstuck g c = λ stuck.
    let old = state_of g.S.Shelf.device c.loop-pp.driver in
    let it = refused_for (counts_seen old.device old.core) old.core c.open_copy.new.self.1 c.args.lv c.args.lp c.args.number c.in-Err.why c.in-Err.ensures.gives in
    c.loop-pp.invariant.unstuck (sym (ap (λ (k : Core). k.power) it.1) ∙ stuck)

pub make_turn-requires-clause-under_way : goal.make_turn-requires-clause-under_way
make_turn-requires-clause-under_way g c =
    let device = g.S.Shelf.device in
    let old = state_of device c.loop-pp.driver in
    let it = refused_for (counts_seen old.device old.core) old.core c.open_copy.new.self.1 c.args.lv c.args.lp c.args.number c.in-Err.why c.in-Err.ensures.gives in
    let same = same_state device c.loop-pp.driver c.open_copy.new.self c.open_copy.ensures.shelf it.1 in
    subst IsUnderWay (sym same) (under_way (copy_of c.args.lv c.args.lp c.args.number c.args.pp) old c.is_sound.ensures c.loop-pp.invariant.may (sym c.is_stale.ensures ∙ c.loop-pp-test.true)
    (it.0 ∙ ap (λ (w : CopyFault). Some w) c.in-AlreadyFresh.is))

pub refused-requires : goal.refused-requires
refused-requires g c =
    let old = state_of g.S.Shelf.device c.loop-pp.driver in
    let it = refused_for (counts_seen old.device old.core) old.core c.open_copy.new.self.1 c.args.lv c.args.lp c.args.number c.in-Err.why c.in-Err.ensures.gives in
    record {
      may = (
        old.core,
        may_refuse (copy_of c.args.lv c.args.lp c.args.number c.args.pp) (state_of g.S.Shelf.device c.args.driver.now) old c.args.patience.now.left c.loop-pp.patience.left c.loop-pp.invariant c.in-Err.why
            (sym c.is_stale.ensures ∙ c.loop-pp-test.true) it.0 c.in_default.not-AlreadyFresh,
      );
    }

pub loop-pp-preserved : goal.loop-pp-preserved
loop-pp-preserved g c =
    let device = g.S.Shelf.device in
    let old = state_of device c.loop-pp.driver in
    let it = refused_for (counts_seen old.device old.core) old.core c.open_copy.new.self.1 c.args.lv c.args.lp c.args.number c.in-Err.why c.in-Err.ensures.gives in
    let same = same_state device c.loop-pp.driver c.open_copy.new.self c.open_copy.ensures.shelf it.1 in
    turned (copy_of c.args.lv c.args.lp c.args.number c.args.pp) (state_of device c.args.driver.now) old (state_of device c.open_copy.new.self) (state_of device c.make_turn.new.driver) c.args.patience.now.left c.loop-pp.patience.left
    c.make_turn.new.patience.left c.loop-pp.invariant same (record { stale = sym c.is_stale.ensures ∙ c.loop-pp-test.true; fresh = it.0 ∙ ap (λ (w : CopyFault). Some w) c.in-AlreadyFresh.is })
    c.in_ok-make_turn-in-AlreadyFresh.ensures.ends.0 c.make_turn.ensures.none c.make_turn.ensures.beside

pub loop-pp-smaller : goal.loop-pp-smaller
loop-pp-smaller g c =
    let old = state_of g.S.Shelf.device c.loop-pp.driver in
    let it = refused_for (counts_seen old.device old.core) old.core c.open_copy.new.self.1 c.args.lv c.args.lp c.args.number c.in-Err.why c.in-Err.ensures.gives in
    subst (λ (k : Core). left_of c.make_turn.new.driver.1 + c.make_turn.new.patience.left < left_of k + c.loop-pp.patience.left) it.1 c.in_ok-make_turn-in-AlreadyFresh.ensures.ends.2

pub returns-in_err-make_turn-in-AlreadyFresh-clause-ends : goal.returns-in_err-make_turn-in-AlreadyFresh-clause-ends
returns-in_err-make_turn-in-AlreadyFresh-clause-ends g c =
    let device = g.S.Shelf.device in
    let old = state_of device c.loop-pp.driver in
    let it = refused_for (counts_seen old.device old.core) old.core c.open_copy.new.self.1 c.args.lv c.args.lp c.args.number c.in-Err.why c.in-Err.ensures.gives in
    let same = same_state device c.loop-pp.driver c.open_copy.new.self c.open_copy.ensures.shelf it.1 in
    let ends = c.in_err-make_turn-in-AlreadyFresh.ensures.ends in
    let f = err_from_is_err_and c.from_residual.result c.from_residual.ensures.1 in
    rw (f.1, f.2) (broken_off (copy_of c.args.lv c.args.lp c.args.number c.args.pp) (state_of device c.args.driver.now) old (state_of device c.open_copy.new.self) (state_of device c.make_turn.new.driver) c.args.patience.now.left c.loop-pp.patience.left
    c.make_turn.new.patience.left c.loop-pp.invariant same (record { stale = sym c.is_stale.ensures ∙ c.loop-pp-test.true; fresh = it.0 ∙ ap (λ (w : CopyFault). Some w) c.in-AlreadyFresh.is })
    c.in_err-make_turn-in-AlreadyFresh.field-0.0 ends.0 ends.1)

pub returns-in_err-make_turn-in-AlreadyFresh-clause-beside : goal.returns-in_err-make_turn-in-AlreadyFresh-clause-beside
returns-in_err-make_turn-in-AlreadyFresh-clause-beside g c =
    let device = g.S.Shelf.device in
    let old = state_of device c.loop-pp.driver in
    let it = refused_for (counts_seen old.device old.core) old.core c.open_copy.new.self.1 c.args.lv c.args.lp c.args.number c.in-Err.why c.in-Err.ensures.gives in
    let same = same_state device c.loop-pp.driver c.open_copy.new.self c.open_copy.ensures.shelf it.1 in
    beside_then (copy_of c.args.lv c.args.lp c.args.number c.args.pp) (state_of device c.args.driver.now) old (state_of device c.open_copy.new.self) (state_of device c.make_turn.new.driver) c.args.patience.now.left c.loop-pp.patience.left
    c.make_turn.new.patience.left c.loop-pp.invariant same c.make_turn.ensures.beside

pub returns-in_default : goal.returns-in_default
returns-in_default g c =
    let device = g.S.Shelf.device in
    let one = copy_of c.args.lv c.args.lp c.args.number c.args.pp in
    let first = state_of device c.args.driver.now in
    let old = state_of device c.loop-pp.driver in
    let it = refused_for (counts_seen old.device old.core) old.core c.open_copy.new.self.1 c.args.lv c.args.lp c.args.number c.in-Err.why c.in-Err.ensures.gives in
    let same = same_state device c.loop-pp.driver c.open_copy.new.self c.open_copy.ensures.shelf it.1 in
    record {
      ends = subst (λ (s : State). EndsOr (IsJudged one c.args.patience.now.left c.loop-pp.patience.left first s) (EndsAtCopy one c.args.patience.now.left c.loop-pp.patience.left first s) c.refused.result) (sym same) (answers one first old c.args.patience.now.left c.loop-pp.patience.left c.loop-pp.invariant c.in-Err.why
          (sym c.is_stale.ensures ∙ c.loop-pp-test.true) it.0 c.refused.result c.refused.ensures);
      beside = subst (λ (s : State). GoesBeside first s c.args.patience.now.left c.loop-pp.patience.left) (sym same) c.loop-pp.invariant.beside;
    }
