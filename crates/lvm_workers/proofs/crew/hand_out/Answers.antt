use Rattle.std.proofs.Common.{rules, arith, below_more, ◌≡◌, suc, ◌+◌, ◌-◌, vec_len, length, get_or, List, refl, sym, ap, ◌∙◌, subst}
use Rattle.lvm_turn.specs.Views.{Client, HoldsClient, Standing, up_to, without}
use Rattle.lvm_workers.specs.declared.crew.Worker.{Worker}
use Rattle.lvm_workers.proofs.KnowingLemmas.{knows_itself, knows_further}
use Rattle.lvm_workers.proofs.CrewsLemmas.{ReadyAt, holds_last, parted, ready_one, seen_further, without_last}
use Rattle.lvm_workers.proofs.crew.hand_out.Goals as goal

pub split-requires-clause-holds : goal.split-requires-clause-holds
split-requires-clause-holds g c =
    let k = c.args.crew.now.threads - c.loop-k.k in
    let n = c.args.crew.now.threads - (c.loop-k.k + 1) in
    let low = c.loop-k-test.true in
    let e : k ≡ suc n = omega arith in
    subst (λ (xs : List Client). HoldsClient xs k) (sym (c.loop-k.invariant.2 ∙ ap up_to e)) (holds_last n k e)

pub loop-k-init : goal.loop-k-init
loop-k-init g c =
    let all : c.args.crew.now.threads ≡ c.args.crew.now.threads - 0 = omega arith in
    (c.requires.at.0, c.requires.at.1, c.requires.holds ∙ ap up_to all, knows_itself c.args.pass.now.knows, (refl, refl), search rules, search rules, search rules)

pub loop-k-preserved : goal.loop-k-preserved
loop-k-preserved g c =
    let was = c.loop-k.invariant in
    let crew = c.args.crew.now in
    let table = c.args.turn.now.table in
    let k = crew.threads - c.loop-k.k in
    let n = crew.threads - (c.loop-k.k + 1) in
    let low = c.loop-k-test.true in
    let few = c.requires.few.1 in
    let e : k ≡ suc n = omega arith in
    let kept = c.split.ensures.kept in
    let places = c.push.ensures.by_index in
    let count : vec_len c.loop-k.workers ≡ c.loop-k.k = was.5 in
    let grown : vec_len c.push.new.self ≡ c.loop-k.k + 1 = search rules in
    let worker : Worker = record { pass = c.split.result; job = c.job_of.result; tally = c.new.result } in
    let one : ReadyAt table g.E.Service.clients c.args.pass.now.knows crew c.loop-k.k worker =
    ready_one table g.E.Service.clients c.args.pass.now.knows crew c.loop-k.k n c.loop-k.pass worker e low few c.job_of.ensures was.0 was.1 was.2 was.4 c.split.ensures.given in
    let parts = parted k c.loop-k.pass c.split.new.pass kept in (
      ap (λ (s : Standing). s.table) kept ∙ was.0,
      ap (λ (s : Standing). s.knows.inside) kept ∙ was.1,
      ap (λ (s : Standing). s.knows.clients) kept ∙ ap (without k) (was.2 ∙ ap up_to e) ∙ without_last n k e,
      knows_further c.args.pass.now.knows c.loop-k.pass.knows c.split.new.pass.knows was.3 parts.0,
      seen_further c.args.pass.now.knows c.loop-k.pass.knows c.split.new.pass.knows was.4 parts.1,
      grown,
      search rules,
      λ i d below. below_more (λ j. ReadyAt table g.E.Service.clients c.args.pass.now.knows crew j (get_or c.push.new.self.items j d)) (vec_len c.loop-k.workers)
          (λ j lower. subst (ReadyAt table g.E.Service.clients c.args.pass.now.knows crew j) (sym (places.0 j d lower)) (was.7 j d (let same : length c.loop-k.workers.items ≡ vec_len c.loop-k.workers = search rules in omega arith)))
          (subst (ReadyAt table g.E.Service.clients c.args.pass.now.knows crew (vec_len c.loop-k.workers)) (sym (places.1 d (search rules)))
          (subst (λ m. ReadyAt table g.E.Service.clients c.args.pass.now.knows crew m worker) (sym count) one))
          i (let same : length c.push.new.self.items ≡ vec_len c.push.new.self = search rules in omega arith),
    )
