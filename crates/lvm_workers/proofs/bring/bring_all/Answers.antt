use Rattle.std.proofs.Common.{rules, below_more, inl, inr, refl, ◌∙◌, subst, arith}
use Rattle.lvm_num.specs.Counting.{RoseBy}
use Rattle.lvm_workers.specs.declared.bring.Brought.TheVariants as brought
use Rattle.lvm_workers.specs.Bringing.{MadeAt}
use Rattle.lvm_workers.proofs.KnowingLemmas.{knows_itself, knows_further, made_on, made_since, rose_none}
use Rattle.lvm_workers.proofs.bring.bring_all.Goals as goal

pub loop-at-init : goal.loop-at-init
loop-at-init g c = (c.requires.idle, knows_itself c.args.pass.now.knows, refl, omega arith, rose_none (g.E.Service.waits c.args.pass.now.knows.counts), (λ at low. absurd (omega (arith, low))))

pub returns-in-Over-clause-knows : goal.returns-in-Over-clause-knows
returns-in-Over-clause-knows g c = knows_further c.args.pass.now.knows c.loop-at.pass.knows c.bring_place.new.pass.knows c.loop-at.invariant.1 c.in-Over.ensures.knows

pub returns-in-Over-clause-own : goal.returns-in-Over-clause-own
returns-in-Over-clause-own g c = c.in-Over.ensures.own ∙ c.loop-at.invariant.2

pub returns-in-Over-clause-toured : goal.returns-in-Over-clause-toured
returns-in-Over-clause-toured g c = λ no.
    let was = c.loop-at.invariant in
    let now = c.in-Over.ensures in
    let tells = g.E.Shown.tells in
    let past = g.E.Past.past in
    let always = g.E.Shown.always in
    record {
      places = c.loop-at.at;
      passed = λ at low. made_on tells past always (λ x y. g.E.Brings.brings x at brought.Next y) c.args.pass.now.knows c.loop-at.pass.knows c.bring_place.new.pass.knows now.knows (was.5 at low);
      over = inl (made_since tells past always (λ x y. g.E.Brings.brings x c.loop-at.at brought.Over y) c.args.pass.now.knows c.loop-at.pass.knows c.bring_place.new.pass.knows was.1.front was.1.counts now.made);
    }

pub returns-in-Unheard-clause-knows : goal.returns-in-Unheard-clause-knows
returns-in-Unheard-clause-knows g c = knows_further c.args.pass.now.knows c.loop-at.pass.knows c.bring_place.new.pass.knows c.loop-at.invariant.1 c.in-Unheard.ensures.knows

pub returns-in-Unheard-clause-own : goal.returns-in-Unheard-clause-own
returns-in-Unheard-clause-own g c = c.in-Unheard.ensures.own ∙ c.loop-at.invariant.2

pub returns-in-Unheard-clause-unheard : goal.returns-in-Unheard-clause-unheard
returns-in-Unheard-clause-unheard g c = λ yes.
    let waits = g.E.Service.waits in
    let now = c.in-Unheard.ensures in
    subst (λ n. RoseBy n (waits c.args.pass.now.knows.counts) (waits c.bring_place.new.pass.knows.counts)) now.made (now.waited.risen (waits c.args.pass.now.knows.counts) c.loop-at.invariant.4)

pub loop-at-preserved : goal.loop-at-preserved
loop-at-preserved g c =
    let was = c.loop-at.invariant in
    let now = c.in-Done.ensures in
    let tells = g.E.Shown.tells in
    let past = g.E.Past.past in
    let always = g.E.Shown.always in
    let waits = g.E.Service.waits in (
      now.idle,
      knows_further c.args.pass.now.knows c.loop-at.pass.knows c.bring_place.new.pass.knows was.1 now.knows,
      now.own ∙ was.2,
      now.made.1,
      now.waited.risen (waits c.args.pass.now.knows.counts) was.4,
      below_more (λ at. MadeAt tells past always g.E.Brings.brings c.args.pass.now.knows c.bring_place.new.pass.knows at brought.Next) c.loop-at.at
          (λ at low. made_on tells past always (λ x y. g.E.Brings.brings x at brought.Next y) c.args.pass.now.knows c.loop-at.pass.knows c.bring_place.new.pass.knows now.knows (was.5 at low))
          (made_since tells past always (λ x y. g.E.Brings.brings x c.loop-at.at brought.Next y) c.args.pass.now.knows c.loop-at.pass.knows c.bring_place.new.pass.knows was.1.front was.1.counts now.made.0),
    )

pub returns-clause-toured : goal.returns-clause-toured
returns-clause-toured g c = λ no. record { places = 4294967295; passed = λ at low. c.loop-at.invariant.5 at (search rules); over = inr refl }
