use Rattle.std.proofs.Common.{◌≡◌, ◌<◌, refl, sym, ap, ◌∙◌, subst, arith}
use Rattle.std.specs.Prelude.{IfSome}
use Rattle.lvm_session.specs.State.{State, state_of}
use Rattle.lvm_driver.specs.Showing.{image_of}
use Rattle.lvm_turn.specs.Calls.{IsIdlePass}
use Rattle.lvm_turn.specs.Views.{HoldsAll, View, counted, up_to}
use Rattle.lvm_turn.proofs.CallsLemmas.Idle.{idle_all}
use Rattle.lvm_workers.specs.declared.crew.Crew.{Crew}
use Rattle.lvm_workers.specs.Crews.{seats}
use Rattle.lvm_load.specs.declared.lent.Lent.{Lent}
use Rattle.lvm_load.specs.Lending.{IsServing, Plan, counts_in}
use Rattle.lvm_load.specs.Loading.{HasLoaded, NoneHasBegun, crew_of}
use Rattle.lvm_load.proofs.LoadingLemmas.{crew_same, has_loaded, renewed_fresh, seats_more, seats_some, serves_first}
use Rattle.lvm_load.proofs.load.share_as.Goals as goal

pub new-requires-clause-always : goal.new-requires-clause-always
new-requires-clause-always g c =
    let first : State = state_of g.S.Shelf.device c.args.driver in
    let plan = c.requires.plan in
    let few = c.requires.some.1 in
    let clients = ap (λ (p : Plan). p.clients) plan in (
      subst (λ (p : Plan). IsServing p first) (sym plan) (serves_first first c.args.lv c.args.blocks c.args.load.now c.is_sound.ensures c.requires.unstuck c.requires.unmoved c.requires.fresh),
      c.requires.room,
      sym (ap (λ (p : Plan). p.lv) plan),
      sym (ap (λ (p : Plan). p.blocks) plan),
      sym (ap (λ (p : Plan). p.apart) plan),
      sym (ap (λ (p : Plan). p.sync) plan),
      c.requires.some.2,
      omega (arith, clients, few),
    )

pub returns-in-Err-clause-serves : goal.returns-in-Err-clause-serves
returns-in-Err-clause-serves g c =
    let first : State = state_of g.S.Shelf.device c.args.driver in
    let plan = c.requires.plan in
    let driver = c.given_back.ensures.driver ∙ ap (λ (l : Lent g.row.S.Denot g.row.J.Denot). l.driver) c.in-Err.ensures.err in
    subst (λ d. IsServing g.J.Lending.plan (state_of g.S.Shelf.device d)) (sym driver)
    (subst (λ (p : Plan). IsServing p first) (sym plan) (serves_first first c.args.lv c.args.blocks c.args.load.now c.is_sound.ensures c.requires.unstuck c.requires.unmoved c.requires.fresh))

pub new-requires-clause-clients : goal.new-requires-clause-clients
new-requires-clause-clients g c = subst (λ n. 0 < n) (sym c.seats.ensures) (seats_some c.args.load.now.sync c.args.load.now.threads c.requires.some.0)

pub run_crew-requires-clause-holds : goal.run_crew-requires-clause-holds
run_crew-requires-clause-holds g c κs within =
    let first : State = state_of g.S.Shelf.device c.args.driver in
    ap (λ (v : View). v.clients) c.in-Ok.ensures.knows ∙ renewed_fresh first.core.history.facts c.seats.result c.requires.fresh
    ∙ ap up_to (c.seats.ensures ∙ ap (seats c.args.load.now.sync) (sym (ap (λ (k : Crew). k.threads) c.crew_of.ensures)))

pub close-requires-clause-all : goal.close-requires-clause-all
close-requires-clause-all g c =
    let crew = c.crew_of.result in
    let all = seats c.args.load.now.sync crew.threads in
    let same : c.in-Ok.made.0.clients ≡ all = c.in-Ok.ensures.opened ∙ c.seats.ensures ∙ ap (seats c.args.load.now.sync) (sym (ap (λ (k : Crew). k.threads) c.crew_of.ensures)) in
    idle_all c.in-Ok.made.0.table (counted all) c.in-Ok-run_crew.pass c.in-Ok-run_crew.ensures.idle all c.in-Ok.made.0.clients same refl

pub close-requires-in-Err-run_crew-clause-all : goal.close-requires-in-Err-run_crew-clause-all
close-requires-in-Err-run_crew-clause-all g c =
    let crew = c.crew_of.result in
    let all = seats c.args.load.now.sync crew.threads in
    let same : c.in-Ok.made.0.clients ≡ all = c.in-Ok.ensures.opened ∙ c.seats.ensures ∙ ap (seats c.args.load.now.sync) (sym (ap (λ (k : Crew). k.threads) c.crew_of.ensures)) in
    subst (λ n. HoldsAll n c.in-Err-run_crew.pass.knows.clients) (sym same) c.in-Err-run_crew.ensures.err.all

pub returns-in-Ok-run_crew-clause-made : goal.returns-in-Ok-run_crew-clause-made
returns-in-Ok-run_crew-clause-made g c =
    let plan = g.J.Lending.plan in
    let device = g.S.Shelf.device in
    let load = c.args.load.now in
    let first : State = state_of device c.args.driver in
    let crew : c.crew_of.result ≡ crew_of load = c.crew_of.ensures in
    let worked = c.in-Ok-run_crew.ensures in
    let is = c.requires.plan in
    let y : Lent g.row.S.Denot g.row.J.Denot = c.close.result in
    let fresh : NoneHasBegun plan.first.core.history.facts = subst (λ (p : Plan). NoneHasBegun p.first.core.history.facts) (sym is) c.requires.fresh in
    let idle : IsIdlePass c.in-Ok.made.0.table (counted (seats load.sync load.threads)) c.in-Ok-run_crew.pass = subst (λ (k : Crew). IsIdlePass c.in-Ok.made.0.table (counted (seats load.sync k.threads)) c.in-Ok-run_crew.pass) crew worked.idle in
    let made = crew_same _ _ _ _ _ crew worked.made in
    let front : c.in-Ok.made.1.knows.front ≡ plan.first.core.history.facts = ap (λ (v : View). v.front) c.in-Ok.ensures.knows ∙ sym (ap (λ (p : Plan). p.first.core.history.facts) is) in
    let counts : c.in-Ok.made.1.knows.counts ≡ counts_in plan.first = ap (λ (v : View). v.counts) c.in-Ok.ensures.knows ∙ sym (ap (λ (p : Plan). counts_in p.first) is) in
    let all = worked.all ∙ ap (λ (k : Crew). k.requests) crew in
    let loaded : HasLoaded plan load (state_of device y.driver) c.in-Ok-run_crew.tally =
    has_loaded {V = Lent g.row.S.Denot g.row.J.Denot} plan load (λ d. state_of device d.driver) (λ d. image_of plan.first.device) _ (λ v holds. holds.0) c.in-Ok.made.0.table c.in-Ok-run_crew.pass y c.close.ensures
    (seats load.sync load.threads) (seats_more load.sync load.threads) (ap (λ (p : Plan). p.clients) is) fresh idle c.in-Ok.made.1.knows c.in-Ok-run_crew.tally counts front worked.cause made worked.begun all (λ on. worked.brought (sym (ap (λ (p : Plan). p.sync) is) ∙ on)) in
    subst (λ o. IfSome o (HasLoaded plan load (state_of device c.given_back-in-Ok-run_crew.result.driver))) (sym c.given_back-in-Ok-run_crew.ensures.tally)
    (subst (λ d. HasLoaded plan load (state_of device d) c.in-Ok-run_crew.tally) (sym c.given_back-in-Ok-run_crew.ensures.driver) loaded)
