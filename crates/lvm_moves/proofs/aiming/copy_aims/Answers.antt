use Rattle.std.proofs.Common.{slice_index_or, ◌≤◌, ◌++◌, ◌∷◌, [], List, Bool, filter, length, map, take, sym, ◌∙◌, ap, subst, arith, add-one}
use Rattle.std.specs.Prelude.{◌||◌, All}
use Rattle.std.proofs.lemmas.List.{length-take, take_all}
use Rattle.lvm_num.specs.declared.place.Pp.{Pp}
use Rattle.lvm_num.specs.Descriptor.{IsPartitionOf}
use Rattle.lvm_path.specs.Asks.{lv_of}
use Rattle.lvm_path.specs.declared.target.Target.{Target}
use Rattle.lvm_session.specs.Fields.{core_of}
use Rattle.lvm_session.specs.Judging.{copies_for, is_caught, is_usable, lp_of}
use Rattle.lvm_session.specs.State.{state}
use Rattle.lvm_session.specs.Events.{target_at}
use Rattle.lvm_due.proofs.passed.Due.{copies_in_are, few_in}
use Rattle.lvm_moves.proofs.ChoosingLemmas.{aim_there, aims_more, few_aims, index_same}
use Rattle.lvm_moves.proofs.aiming.copy_aims.Goals as goal

pub aim_if-requires-clause-there : goal.aim_if-requires-clause-there
aim_if-requires-clause-there g c aims =
    let core = core_of c.args.session.now in
    let are = subst (All (IsPartitionOf core.descriptor)) (sym c.copies_for-copies.ensures) (copies_in_are core.descriptor (lv_of c.args.ask.now) (lp_of core c.args.ask.now) c.requires.may.going.fitting.valid) in
    let test = c.loop-pp-test.true in
    let p = slice_index_or c.copies_for-copies.result.now c.loop-pp.pp-index (record { disk = 0; pp = 0 }) in
    aim_there (g.S.Shelf.device c.args.shelf.now) core c.requires.may c.group_in-group.result p (are c.loop-pp.pp-index (record { disk = 0; pp = 0 }) test) aims

pub aim_if-requires-clause-room : goal.aim_if-requires-clause-room
aim_if-requires-clause-room g c =
    let core = core_of c.args.session.now in
    let most = subst (λ (ps : List Pp). length ps ≤ 3) (sym c.copies_for-copies.ensures) (few_in core.descriptor (lv_of c.args.ask.now) (lp_of core c.args.ask.now) c.requires.may.going.fitting.valid) in
    let few = few_aims (target_at (state (g.S.Shelf.device c.args.shelf.now) core) c.args.ask.now) (λ (p : Pp). is_usable core p || is_caught core c.group_in-group.result p) (take c.loop-pp.pp-index c.copies_for-copies.result.now) in
    let long = ap length c.loop-pp.invariant in
    let taken = length-take c.loop-pp.pp-index c.copies_for-copies.result.now in
    omega (arith, most, few, long, taken)

pub loop-pp-preserved : goal.loop-pp-preserved
loop-pp-preserved g c =
    let core = core_of c.args.session.now in
    let f = target_at (state (g.S.Shelf.device c.args.shelf.now) core) c.args.ask.now in
    let aim : Pp → Bool = λ p. is_usable core p || is_caught core c.group_in-group.result p in
    let ps = c.copies_for-copies.result.now in
    let p = slice_index_or ps c.loop-pp.pp-index (record { disk = 0; pp = 0 }) in
    let test = c.loop-pp-test.true in
    c.aim_if.ensures
    ∙ ap (λ (ts : List Target). ts ++ map f (filter aim (p ∷ []))) c.loop-pp.invariant
    ∙ sym (aims_more f aim ps c.loop-pp.pp-index p test (index_same ps c.loop-pp.pp-index (record { disk = 0; pp = 0 }) test))
    ∙ ap (λ n. map f (filter aim (take n ps))) (sym (add-one c.loop-pp.pp-index))

pub returns-clause-targets : goal.returns-clause-targets
returns-clause-targets g c =
    let core = core_of c.args.session.now in
    let f = target_at (state (g.S.Shelf.device c.args.shelf.now) core) c.args.ask.now in
    let ps = c.copies_for-copies.result.now in
    let test = c.loop-pp-test.false in
    c.loop-pp.invariant
    ∙ ap (λ (l : List Pp). map f (filter (λ (p : Pp). is_usable core p || is_caught core c.group_in-group.result p) l)) (take_all c.loop-pp.pp-index ps (omega (arith, test)) ∙ c.copies_for-copies.ensures)
    ∙ ap (λ n. map f (filter (λ (p : Pp). is_usable core p || is_caught core n p) (copies_for core c.args.ask.now))) c.group_in-group.ensures

pub returns-clause-few : goal.returns-clause-few
returns-clause-few g c =
    let core = core_of c.args.session.now in
    let most = subst (λ (ps : List Pp). length ps ≤ 3) (sym c.copies_for-copies.ensures) (few_in core.descriptor (lv_of c.args.ask.now) (lp_of core c.args.ask.now) c.requires.may.going.fitting.valid) in
    let few = few_aims (target_at (state (g.S.Shelf.device c.args.shelf.now) core) c.args.ask.now) (λ (p : Pp). is_usable core p || is_caught core c.group_in-group.result p) (take c.loop-pp.pp-index c.copies_for-copies.result.now) in
    let long = ap length c.loop-pp.invariant in
    let taken = length-take c.loop-pp.pp-index c.copies_for-copies.result.now in
    omega (arith, most, few, long, taken)
