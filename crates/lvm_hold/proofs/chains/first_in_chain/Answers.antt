use Rattle.std.proofs.Common.{◌≡◌, ◌-◌, ◌∙◌, ℕ, List, Some, None, sym, ap, subst, arith, length, take, drop, length-drop}
use Rattle.std.proofs.lemmas.List.{take_all}
use Rattle.lvm_hold.specs.declared.queue.Row.{Row}
use Rattle.lvm_hold.specs.Order.{IsAscending}
use Rattle.lvm_hold.specs.Chains.{place_in}
use Rattle.lvm_hold.proofs.ChainLemmas.{ascending_drop}
use Rattle.lvm_hold.proofs.QueueLemmas.{length-nexts_of}
use Rattle.lvm_hold.proofs.WalkLemmas.{IsOnTheWay, walk_begins, walk_ends, walk_finds, walk_within, walk_past, walk_hits, walk_goes}
use Rattle.lvm_hold.proofs.chains.first_in_chain.Goals as goal

rest_is : (rows : List Row) (from : ℕ) → take (length rows - from) (drop from rows) ≡ drop from rows
rest_is rows from = take_all (length rows - from) (drop from rows) (omega (arith, length-drop from rows))

pub loop-next-init : goal.loop-next-init
loop-next-init c = walk_begins c.args.rows.now c.args.nexts.now c.args.heads.now c.args.this.now c.head_of.result c.requires.chained c.head_of.ensures.head c.head_of.ensures.within

pub place_of-requires : goal.place_of-requires
place_of-requires c = subst IsAscending (sym (rest_is c.args.rows.now c.loop-next.from)) (ascending_drop c.loop-next.from c.args.rows.now c.requires.chained.ascending)

pub returns : goal.returns
returns c =
    let way = subst (IsOnTheWay c.args.rows.now c.args.this.now c.loop-next.from) c.in_default.is c.loop-next.invariant in
    sym (walk_ends c.args.rows.now c.args.nexts.now c.args.heads.now c.args.this.now c.requires.chained c.requires.group c.loop-next.from way)

pub returns-in_err-place : goal.returns-in_err-place
returns-in_err-place c =
    let way = subst (IsOnTheWay c.args.rows.now c.args.this.now c.loop-next.from) c.in-Some.is c.loop-next.invariant in
    let none : place_in c.in-Some.id (drop c.loop-next.from c.args.rows.now) ≡ None = ap (place_in c.in-Some.id) (sym (rest_is c.args.rows.now c.loop-next.from)) ∙ sym c.in_err-place.ensures.place in
    absurd (walk_finds c.args.rows.now c.args.nexts.now c.args.heads.now c.args.this.now c.requires.chained c.requires.group c.loop-next.from c.in-Some.id way none)

its_place : (rows : List Row) (from id k : ℕ) → Some k ≡ place_in id (take (length rows - from) (drop from rows)) → place_in id (drop from rows) ≡ Some k
its_place rows from id k is = ap (place_in id) (sym (rest_is rows from)) ∙ sym is

pub returns-then-id-this : goal.returns-then-id-this
returns-then-id-this c =
    let way = subst (IsOnTheWay c.args.rows.now c.args.this.now c.loop-next.from) c.in-Some.is c.loop-next.invariant in
    sym (walk_past c.args.rows.now c.args.nexts.now c.args.heads.now c.args.this.now c.loop-next.from c.in-Some.id c.requires.chained c.requires.group way c.if-id-this.true)

pub returns-then-conflicts : goal.returns-then-conflicts
returns-then-conflicts c =
    let way = subst (IsOnTheWay c.args.rows.now c.args.this.now c.loop-next.from) c.in-Some.is c.loop-next.invariant in
    let at = its_place c.args.rows.now c.loop-next.from c.in-Some.id c.in_ok-place.field-0 c.in_ok-place.ensures.place in
    sym (walk_hits c.args.rows.now c.args.nexts.now c.args.heads.now c.args.this.now c.requires.chained c.requires.group c.loop-next.from c.in-Some.id way c.in_ok-place.field-0 at _ c.if-id-this.false (sym c.conflicts.ensures ∙ c.if-conflicts.true))

pub bounds-nexts-place : goal.bounds-nexts-place
bounds-nexts-place c =
    let way = subst (IsOnTheWay c.args.rows.now c.args.this.now c.loop-next.from) c.in-Some.is c.loop-next.invariant in
    let at = its_place c.args.rows.now c.loop-next.from c.in-Some.id c.in_ok-place.field-0 c.in_ok-place.ensures.place in
    let within = walk_within c.args.rows.now c.args.nexts.now c.args.heads.now c.args.this.now c.requires.chained c.requires.group c.loop-next.from c.in-Some.id way c.in_ok-place.field-0 at in
    omega (arith, within, ap length c.requires.chained.nexts_are, length-nexts_of c.args.rows.now)

pub loop-next-preserved : goal.loop-next-preserved
loop-next-preserved c =
    let way = subst (IsOnTheWay c.args.rows.now c.args.this.now c.loop-next.from) c.in-Some.is c.loop-next.invariant in
    let at = its_place c.args.rows.now c.loop-next.from c.in-Some.id c.in_ok-place.field-0 c.in_ok-place.ensures.place in
    walk_goes c.args.rows.now c.args.nexts.now c.args.heads.now c.args.this.now c.requires.chained c.requires.group c.loop-next.from c.in-Some.id way c.in_ok-place.field-0 at _ (sym c.conflicts.ensures ∙ c.if-conflicts.false)
