use Rattle.std.proofs.Common.{◌≡◌, ◌+◌, ◌<◌, refl, sym, ap, ◌∙◌, subst, arith}
use Rattle.std.proofs.lemmas.Bool.{eqb-true, eqb-false}
use Rattle.lvm_num.specs.Counting.{RoseBy}
use Rattle.lvm_workers.specs.declared.asking.Awaited.{Awaited}
use Rattle.lvm_workers.specs.declared.service.Seen.TheVariants as seen
use Rattle.lvm_workers.specs.Working.{LookTells}
use Rattle.lvm_workers.proofs.KnowingLemmas.{knows_itself, knows_further, rose_more, rose_none, rose_on}
use Rattle.lvm_workers.proofs.ServingLemmas.{idle_stays, moved_stays, taken_then}
use Rattle.lvm_workers.proofs.work.wait_for.Goals as goal

pub loop-init : goal.loop-init
loop-init g c =
    let none = c.requires.unseen in
    let waits = g.E.Service.waits c.args.pass.now.knows.counts in
    (tt, tt, c.requires.idle, knows_itself c.args.pass.now.knows, refl, omega (arith, none), subst (λ n. RoseBy n waits waits) (sym none) (rose_none waits), refl)

pub look-requires-clause-awaits : goal.look-requires-clause-awaits
look-requires-clause-awaits g c =
    let asked = c.requires.awaits in
    let was = c.loop.invariant in
    record { before = asked.before; request = asked.request; number = asked.number ∙ sym was.7; last = was.4 ∙ asked.last }

pub returns-in-Taken-clause-knows : goal.returns-in-Taken-clause-knows
returns-in-Taken-clause-knows g c = knows_further c.args.pass.now.knows c.loop.pass.knows c.look.new.pass.knows c.loop.invariant.3 c.in-Taken.ensures.knows

pub returns-in-Taken-clause-tells : goal.returns-in-Taken-clause-tells
returns-in-Taken-clause-tells g c =
    taken_then g.E.Service.waits c.args.awaited.now.id c.args.pass.now.knows c.loop.pass.knows c.look.new.pass.knows c.loop.invariant.4
    (subst (λ n. LookTells n c.loop.pass.knows seen.Taken c.look.new.pass.knows) c.loop.invariant.7 c.in-Taken.ensures.tells)

pub returns-in-Taken-clause-patience : goal.returns-in-Taken-clause-patience
returns-in-Taken-clause-patience g c = subst (λ (a : Awaited). a.idle < 1000000) (sym c.in-Taken.ensures.counted) c.loop.invariant.5

pub loop-preserved-in-Moved : goal.loop-preserved-in-Moved
loop-preserved-in-Moved g c =
    let was = c.loop.invariant in
    let now = c.in-Moved.ensures in
    let waits = g.E.Service.waits in
    let same : c.look.new.awaited ≡ c.loop.awaited = now.counted in (
      tt,
      tt,
      now.idle,
      knows_further c.args.pass.now.knows c.loop.pass.knows c.look.new.pass.knows was.3 now.knows,
      moved_stays c.loop.awaited.id c.loop.pass.knows c.look.new.pass.knows now.tells ∙ was.4,
      subst (λ (a : Awaited). a.idle < 1000000) (sym same) was.5,
      subst (λ (a : Awaited). RoseBy a.idle (waits c.args.pass.now.knows.counts) (waits c.look.new.pass.knows.counts)) (sym same)
          (rose_on c.loop.awaited.idle (waits c.args.pass.now.knows.counts) (waits c.loop.pass.knows.counts) (waits c.look.new.pass.knows.counts) was.6
          (g.met.E.Service.waits_stay c.loop.pass.knows.counts c.look.new.pass.knows.counts now.knows.counts)),
      ap (λ (a : Awaited). a.id) same ∙ was.7,
    )

pub returns-then-is_given_up-clause-knows : goal.returns-then-is_given_up-clause-knows
returns-then-is_given_up-clause-knows g c = knows_further c.args.pass.now.knows c.loop.pass.knows c.look.new.pass.knows c.loop.invariant.3 c.in-Idle.ensures.knows

pub returns-then-is_given_up-clause-tells : goal.returns-then-is_given_up-clause-tells
returns-then-is_given_up-clause-tells g c =
    let was = c.loop.invariant in
    let now = c.in-Idle.ensures in
    let waits = g.E.Service.waits in
    let counted : c.look.new.awaited.idle ≡ c.loop.awaited.idle + 1 = ap (λ (a : Awaited). a.idle) now.counted in
    let last : c.look.new.awaited.idle ≡ 1000000 = eqb-true _ _ (sym c.is_given_up.ensures ∙ c.if-is_given_up.true) in (
      idle_stays c.loop.awaited.id c.loop.pass.knows c.look.new.pass.knows now.tells ∙ was.4,
      subst (λ n. RoseBy n (waits c.args.pass.now.knows.counts) (waits c.look.new.pass.knows.counts)) (sym counted ∙ last)
          (rose_more c.loop.awaited.idle (waits c.args.pass.now.knows.counts) (waits c.loop.pass.knows.counts) (waits c.look.new.pass.knows.counts) was.6 (now.waited refl)),
    )

pub returns-then-is_given_up-clause-patience : goal.returns-then-is_given_up-clause-patience
returns-then-is_given_up-clause-patience g c = eqb-true _ _ (sym c.is_given_up.ensures ∙ c.if-is_given_up.true)

pub loop-preserved : goal.loop-preserved
loop-preserved g c =
    let was = c.loop.invariant in
    let now = c.in-Idle.ensures in
    let waits = g.E.Service.waits in
    let counted : c.look.new.awaited.idle ≡ c.loop.awaited.idle + 1 = ap (λ (a : Awaited). a.idle) now.counted in
    let low = was.5 in
    let not_last : (c.look.new.awaited.idle ≡ 1000000) → ⊥ = eqb-false _ _ (sym c.is_given_up.ensures ∙ c.if-is_given_up.false) in (
      tt,
      tt,
      now.idle,
      knows_further c.args.pass.now.knows c.loop.pass.knows c.look.new.pass.knows was.3 now.knows,
      idle_stays c.loop.awaited.id c.loop.pass.knows c.look.new.pass.knows now.tells ∙ was.4,
      omega (arith, counted, low, not_last),
      subst (λ n. RoseBy n (waits c.args.pass.now.knows.counts) (waits c.look.new.pass.knows.counts)) (sym counted)
          (rose_more c.loop.awaited.idle (waits c.args.pass.now.knows.counts) (waits c.loop.pass.knows.counts) (waits c.look.new.pass.knows.counts) was.6 (now.waited refl)),
      ap (λ (a : Awaited). a.id) now.counted ∙ was.7,
    )
