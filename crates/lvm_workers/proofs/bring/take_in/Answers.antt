use Rattle.std.proofs.Common.{◌≡◌, ◌≤◌, refl, sym, subst}
use Rattle.lvm_vol.specs.Fronts.{IsPrefixOf, NoneFell}
use Rattle.lvm_turn.specs.Views.{Standing, joined}
use Rattle.lvm_workers.proofs.KnowingLemmas.{met_knows, met_other}
use Rattle.lvm_workers.proofs.bring.take_in.Goals as goal

pub returns-clause-waits : goal.returns-clause-waits
returns-clause-waits g c =
    g.met.E.Service.waits_stay c.args.pass.now.knows.counts c.join.new.pass.knows.counts (met_knows c.args.pass.now c.args.other c.join.new.pass c.join.ensures.joined c.join.ensures.front).counts

-- what the pass that took it in would know if both had seen the same that is fixed: the counts are those
pub returns-clause-other_waits : goal.returns-clause-other_waits
returns-clause-other_waits g c =
    let p : Standing = c.args.pass.now in
    let o : Standing = c.args.other in
    let same : c.join.new.pass ≡ record p { knows = joined p.knows o.knows } = c.join.ensures.joined in
    let alike : Standing = record p { knows = record p.knows { fixed = o.knows.fixed } } in
    let both : Standing = record alike { knows = joined alike.knows o.knows } in
    let front : IsPrefixOf o.knows.front both.knows.front = subst (λ (s : Standing). IsPrefixOf o.knows.front s.knows.front) same c.join.ensures.other_front in
    let counts : NoneFell o.knows.counts both.knows.counts = (met_other alike o both refl front refl).counts in
    subst (λ (s : Standing). g.E.Service.waits o.knows.counts ≤ g.E.Service.waits s.knows.counts) (sym same) (g.met.E.Service.waits_stay o.knows.counts both.knows.counts counts)
