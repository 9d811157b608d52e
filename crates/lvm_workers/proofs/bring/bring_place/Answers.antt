use Rattle.std.proofs.Common.{rules, refl, ◌∙◌, arith}
use Rattle.lvm_workers.specs.declared.bring.Brought.TheVariants as brought
use Rattle.lvm_workers.proofs.BringingLemmas.{waits_by_more, waits_by_on}
use Rattle.lvm_workers.proofs.KnowingLemmas.{knows_itself, knows_further, made_since}
use Rattle.lvm_workers.proofs.bring.bring_place.Goals as goal

pub loop-init : goal.loop-init
loop-init g c = (tt, tt, c.requires.idle, knows_itself c.args.pass.now.knows, refl, c.requires.patient, record { more = omega arith; risen = λ first rose. rose })

pub returns-in-Next-clause-knows : goal.returns-in-Next-clause-knows
returns-in-Next-clause-knows g c = knows_further c.args.pass.now.knows c.loop.pass.knows c.bring.new.pass.knows c.loop.invariant.3 c.in-Next.ensures.knows

pub returns-in-Next-clause-own : goal.returns-in-Next-clause-own
returns-in-Next-clause-own g c = c.in-Next.ensures.own ∙ c.loop.invariant.4

pub returns-in-Next-clause-made : goal.returns-in-Next-clause-made
returns-in-Next-clause-made g c =
    let was = c.loop.invariant in (
      made_since g.E.Shown.tells g.E.Past.past g.E.Shown.always (λ x y. g.E.Brings.brings x c.args.at brought.Next y) c.args.pass.now.knows c.loop.pass.knows c.bring.new.pass.knows was.3.front was.3.counts c.in-Next.ensures.made,
      was.5,
    )

pub returns-in-Next-clause-waited : goal.returns-in-Next-clause-waited
returns-in-Next-clause-waited g c =
    let waits = g.E.Service.waits in
    waits_by_on c.args.idle.now c.loop.idle (waits c.args.pass.now.knows.counts) (waits c.loop.pass.knows.counts) (waits c.bring.new.pass.knows.counts)
    (g.met.E.Service.waits_stay c.loop.pass.knows.counts c.bring.new.pass.knows.counts c.in-Next.ensures.knows.counts) c.loop.invariant.6

pub loop-preserved-in-Moved : goal.loop-preserved-in-Moved
loop-preserved-in-Moved g c =
    let was = c.loop.invariant in
    let now = c.in-Moved.ensures in
    let waits = g.E.Service.waits in (
      tt,
      tt,
      now.idle,
      knows_further c.args.pass.now.knows c.loop.pass.knows c.bring.new.pass.knows was.3 now.knows,
      now.own ∙ was.4,
      was.5,
      waits_by_on c.args.idle.now c.loop.idle (waits c.args.pass.now.knows.counts) (waits c.loop.pass.knows.counts) (waits c.bring.new.pass.knows.counts)
          (g.met.E.Service.waits_stay c.loop.pass.knows.counts c.bring.new.pass.knows.counts now.knows.counts) was.6,
    )

pub returns-then-idle-eq-PATIENCE-clause-knows : goal.returns-then-idle-eq-PATIENCE-clause-knows
returns-then-idle-eq-PATIENCE-clause-knows g c = knows_further c.args.pass.now.knows c.loop.pass.knows c.bring.new.pass.knows c.loop.invariant.3 c.in-Idle.ensures.knows

pub returns-then-idle-eq-PATIENCE-clause-own : goal.returns-then-idle-eq-PATIENCE-clause-own
returns-then-idle-eq-PATIENCE-clause-own g c = c.in-Idle.ensures.own ∙ c.loop.invariant.4

pub returns-then-idle-eq-PATIENCE-clause-waited : goal.returns-then-idle-eq-PATIENCE-clause-waited
returns-then-idle-eq-PATIENCE-clause-waited g c =
    let waits = g.E.Service.waits in
    waits_by_more c.args.idle.now c.loop.idle (waits c.args.pass.now.knows.counts) (waits c.loop.pass.knows.counts) (waits c.bring.new.pass.knows.counts) (c.in-Idle.ensures.waited refl) c.loop.invariant.6

pub returns-in-Over-clause-knows : goal.returns-in-Over-clause-knows
returns-in-Over-clause-knows g c = knows_further c.args.pass.now.knows c.loop.pass.knows c.bring.new.pass.knows c.loop.invariant.3 c.in-Over.ensures.knows

pub returns-in-Over-clause-own : goal.returns-in-Over-clause-own
returns-in-Over-clause-own g c = c.in-Over.ensures.own ∙ c.loop.invariant.4

pub returns-in-Over-clause-made : goal.returns-in-Over-clause-made
returns-in-Over-clause-made g c =
    let was = c.loop.invariant in
    made_since g.E.Shown.tells g.E.Past.past g.E.Shown.always (λ x y. g.E.Brings.brings x c.args.at brought.Over y) c.args.pass.now.knows c.loop.pass.knows c.bring.new.pass.knows was.3.front was.3.counts c.in-Over.ensures.made

pub returns-in-Over-clause-waited : goal.returns-in-Over-clause-waited
returns-in-Over-clause-waited g c =
    let waits = g.E.Service.waits in
    waits_by_on c.args.idle.now c.loop.idle (waits c.args.pass.now.knows.counts) (waits c.loop.pass.knows.counts) (waits c.bring.new.pass.knows.counts)
    (g.met.E.Service.waits_stay c.loop.pass.knows.counts c.bring.new.pass.knows.counts c.in-Over.ensures.knows.counts) c.loop.invariant.6

pub loop-preserved : goal.loop-preserved
loop-preserved g c =
    let was = c.loop.invariant in
    let now = c.in-Idle.ensures in
    let waits = g.E.Service.waits in
    let low = was.5 in
    let not_last = c.if-idle-eq-PATIENCE.false in (
      tt,
      tt,
      now.idle,
      knows_further c.args.pass.now.knows c.loop.pass.knows c.bring.new.pass.knows was.3 now.knows,
      now.own ∙ was.4,
      search rules,
      waits_by_more c.args.idle.now c.loop.idle (waits c.args.pass.now.knows.counts) (waits c.loop.pass.knows.counts) (waits c.bring.new.pass.knows.counts) (now.waited refl) was.6,
    )
