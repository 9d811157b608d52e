use Rattle.std.proofs.Common.{◌≡◌, ◌+◌, suc, List, sym, ap, ◌∙◌, subst, arith}
use Rattle.lvm_turn.specs.Calls.{IsIdlePass}
use Rattle.lvm_turn.specs.Views.{Client, HoldsClient, Standing, View, counted, up_to}
use Rattle.lvm_workers.specs.declared.service.Asked.{Asked}
use Rattle.lvm_workers.specs.declared.work.Tally.{Tally}
use Rattle.lvm_workers.specs.Crews.{AllMade, begun_over}
use Rattle.lvm_workers.specs.Knowing.{TallyHasCause, Knows, MayEnd, Refused, RefusedAs}
use Rattle.lvm_workers.proofs.BringingLemmas.{err_holds, ok_holds, other_idle, rest_at, rest_holds, rest_outside, whole_back, whole_begun, whole_cause, whole_end, whole_ended, whole_idle, whole_knows, whole_made}
use Rattle.lvm_workers.proofs.CrewsLemmas.{holds_last}
use Rattle.lvm_workers.proofs.KnowingLemmas.{refused_as_on, refused_on}
use Rattle.lvm_workers.proofs.bring.workers_beside.Goals as goal

pub split-other-requires-clause-holds : goal.split-other-requires-clause-holds
split-other-requires-clause-holds g c =
    let n = c.args.crew.now.threads in
    let k = c.args.crew.now.threads + 1 in
    let e : k ≡ suc n = omega arith in
    subst (λ (xs : List Client). HoldsClient xs k) (sym (c.requires.holds ∙ ap up_to e)) (holds_last n k e)

pub work_and_bring-worked-requires-clause-at : goal.work_and_bring-worked-requires-clause-at
work_and_bring-worked-requires-clause-at g c = λ κs within.
    let n = c.args.crew.now.threads in
    let k = c.args.crew.now.threads + 1 in
    let e : k ≡ suc n = omega arith in
    let table = c.args.turn.now.table in
    let p = c.args.pass in
    let p1 = c.split-other.new.pass in
    let o = c.split-other.result in
    let at = c.requires.at.0 in
    let outside = c.requires.at.1 in
    let held = c.requires.holds ∙ ap up_to e in
    let kept = c.split-other.ensures.kept in
    let given = c.split-other.ensures.given in
    (rest_at table n k e p p1 o o at outside held kept given, rest_outside table n k e p p1 o o at outside held kept given)

pub work_and_bring-worked-requires-clause-holds : goal.work_and_bring-worked-requires-clause-holds
work_and_bring-worked-requires-clause-holds g c = λ κs within.
    let n = c.args.crew.now.threads in
    let k = c.args.crew.now.threads + 1 in
    let e : k ≡ suc n = omega arith in
    let table = c.args.turn.now.table in
    let p = c.args.pass in
    let p1 = c.split-other.new.pass in
    let o = c.split-other.result in
    let at = c.requires.at.0 in
    let outside = c.requires.at.1 in
    let held = c.requires.holds ∙ ap up_to e in
    let kept = c.split-other.ensures.kept in
    let given = c.split-other.ensures.given in
    rest_holds table n k e p p1 o o at outside held kept given

pub work_and_bring-worked-requires-clause-other : goal.work_and_bring-worked-requires-clause-other
work_and_bring-worked-requires-clause-other g c = λ κs within.
    let n = c.args.crew.now.threads in
    let k = c.args.crew.now.threads + 1 in
    let e : k ≡ suc n = omega arith in
    let table = c.args.turn.now.table in
    let p = c.args.pass in
    let p1 = c.split-other.new.pass in
    let o = c.split-other.result in
    let at = c.requires.at.0 in
    let outside = c.requires.at.1 in
    let held = c.requires.holds ∙ ap up_to e in
    let kept = c.split-other.ensures.kept in
    let given = c.split-other.ensures.given in
    other_idle table n k e p p1 o o at outside held kept given

pub returns-in-Ok-clause-idle : goal.returns-in-Ok-clause-idle
returns-in-Ok-clause-idle g c =
    let n = c.args.crew.now.threads in
    let k = c.args.crew.now.threads + 1 in
    let e : k ≡ suc n = omega arith in
    let table = c.args.turn.now.table in
    let p = c.args.pass in
    let p1 = c.split-other.new.pass in
    let o = c.split-other.result in
    let at = c.requires.at.0 in
    let outside = c.requires.at.1 in
    let held = c.requires.holds ∙ ap up_to e in
    let kept = c.split-other.ensures.kept in
    let given = c.split-other.ensures.given in
    let o1 = c.work_and_bring-worked.result.1 in
    let brought = c.work_and_bring-worked.ensures.brought.keeps in
    let w = c.in-Ok.pass in
    let q = c.take_in.new.pass in
    let met = c.take_in.ensures in
    whole_idle table n k e p p1 o o1 at outside held kept given brought w q met.joined met.front (ok_holds (λ (r : Standing × Tally). IsIdlePass table (counted n) r.0) c.work_and_bring-worked.result.0 (c.in-Ok.pass, c.in-Ok.tally) c.in-Ok.is c.work_and_bring-worked.ensures.idle)

pub returns-in-Ok-clause-knows : goal.returns-in-Ok-clause-knows
returns-in-Ok-clause-knows g c =
    let n = c.args.crew.now.threads in
    let k = c.args.crew.now.threads + 1 in
    let e : k ≡ suc n = omega arith in
    let table = c.args.turn.now.table in
    let p = c.args.pass in
    let p1 = c.split-other.new.pass in
    let o = c.split-other.result in
    let at = c.requires.at.0 in
    let outside = c.requires.at.1 in
    let held = c.requires.holds ∙ ap up_to e in
    let kept = c.split-other.ensures.kept in
    let given = c.split-other.ensures.given in
    let o1 = c.work_and_bring-worked.result.1 in
    let brought = c.work_and_bring-worked.ensures.brought.keeps in
    let w = c.in-Ok.pass in
    let q = c.take_in.new.pass in
    let met = c.take_in.ensures in
    whole_knows table n k e p p1 o o1 at outside held kept given brought w q met.joined met.front (ok_holds (λ (r : Standing × Tally). Knows p1.knows r.0.knows) c.work_and_bring-worked.result.0 (c.in-Ok.pass, c.in-Ok.tally) c.in-Ok.is c.work_and_bring-worked.ensures.knows)

pub returns-in-Ok-clause-made : goal.returns-in-Ok-clause-made
returns-in-Ok-clause-made g c =
    let n = c.args.crew.now.threads in
    let k = c.args.crew.now.threads + 1 in
    let e : k ≡ suc n = omega arith in
    let table = c.args.turn.now.table in
    let p = c.args.pass in
    let p1 = c.split-other.new.pass in
    let o = c.split-other.result in
    let at = c.requires.at.0 in
    let outside = c.requires.at.1 in
    let held = c.requires.holds ∙ ap up_to e in
    let kept = c.split-other.ensures.kept in
    let given = c.split-other.ensures.given in
    let o1 = c.work_and_bring-worked.result.1 in
    let brought = c.work_and_bring-worked.ensures.brought.keeps in
    let w = c.in-Ok.pass in
    let q = c.take_in.new.pass in
    let met = c.take_in.ensures in
    let RA : Asked → View → Type 0 = RefusedAs g.E.Shown.tells g.E.Past.past g.E.Shown.always g.E.Service.refuses in
    let waits = g.E.Service.waits in
    whole_made table n k e p p1 o o1 at outside held kept given brought w q met.joined met.front g.E.Service.asks c.args.crew.now (omega arith) (MayEnd RA waits p1.knows w.knows) (MayEnd RA waits p.knows q.knows)
    (whole_end table n k e p p1 o o1 at outside held kept given brought w q met.joined met.front RA (refused_as_on g.E.Shown.tells g.E.Past.past g.E.Shown.always g.E.Service.refuses) waits c.take_in.ensures.waits)
    (ok_holds (λ (r : Standing × Tally). AllMade g.E.Service.asks (MayEnd RA waits p1.knows r.0.knows) c.args.crew.now r.0.knows.clients) c.work_and_bring-worked.result.0 (c.in-Ok.pass, c.in-Ok.tally) c.in-Ok.is c.work_and_bring-worked.ensures.made)

pub returns-in-Ok-clause-begun : goal.returns-in-Ok-clause-begun
returns-in-Ok-clause-begun g c =
    let n = c.args.crew.now.threads in
    let k = c.args.crew.now.threads + 1 in
    let e : k ≡ suc n = omega arith in
    let table = c.args.turn.now.table in
    let p = c.args.pass in
    let p1 = c.split-other.new.pass in
    let o = c.split-other.result in
    let at = c.requires.at.0 in
    let outside = c.requires.at.1 in
    let held = c.requires.holds ∙ ap up_to e in
    let kept = c.split-other.ensures.kept in
    let given = c.split-other.ensures.given in
    let o1 = c.work_and_bring-worked.result.1 in
    let brought = c.work_and_bring-worked.ensures.brought.keeps in
    let w = c.in-Ok.pass in
    let q = c.take_in.new.pass in
    let met = c.take_in.ensures in
    whole_begun table n k e p p1 o o1 at outside held kept given brought w q met.joined met.front g.E.Service.asks c.args.crew.now c.in-Ok.tally.begun (ok_holds (λ (r : Standing × Tally). r.1.begun ≡ begun_over r.0.knows.clients) c.work_and_bring-worked.result.0 (c.in-Ok.pass, c.in-Ok.tally) c.in-Ok.is c.work_and_bring-worked.ensures.begun)

pub returns-in-Ok-clause-brought : goal.returns-in-Ok-clause-brought
returns-in-Ok-clause-brought g c =
    let n = c.args.crew.now.threads in
    let k = c.args.crew.now.threads + 1 in
    let e : k ≡ suc n = omega arith in
    let table = c.args.turn.now.table in
    let p = c.args.pass in
    let p1 = c.split-other.new.pass in
    let o = c.split-other.result in
    let at = c.requires.at.0 in
    let outside = c.requires.at.1 in
    let held = c.requires.holds ∙ ap up_to e in
    let kept = c.split-other.ensures.kept in
    let given = c.split-other.ensures.given in
    let o1 = c.work_and_bring-worked.result.1 in
    let brought = c.work_and_bring-worked.ensures.brought.keeps in
    let w = c.in-Ok.pass in
    let q = c.take_in.new.pass in
    let met = c.take_in.ensures in
    whole_ended table n k e p p1 o o1 at outside held kept given brought w q met.joined met.front g.E.Shown.tells g.E.Past.past g.E.Shown.always g.E.Brings.brings g.E.Service.waits met.other_waits
    (ok_holds (λ (r : Standing × Tally). Knows p1.knows r.0.knows) c.work_and_bring-worked.result.0 (c.in-Ok.pass, c.in-Ok.tally) c.in-Ok.is c.work_and_bring-worked.ensures.knows) met.other_front c.work_and_bring-worked.ensures.brought.ended

pub returns-in-Ok-clause-cause : goal.returns-in-Ok-clause-cause
returns-in-Ok-clause-cause g c =
    let n = c.args.crew.now.threads in
    let k = c.args.crew.now.threads + 1 in
    let e : k ≡ suc n = omega arith in
    let table = c.args.turn.now.table in
    let p = c.args.pass in
    let p1 = c.split-other.new.pass in
    let o = c.split-other.result in
    let at = c.requires.at.0 in
    let outside = c.requires.at.1 in
    let held = c.requires.holds ∙ ap up_to e in
    let kept = c.split-other.ensures.kept in
    let given = c.split-other.ensures.given in
    let o1 = c.work_and_bring-worked.result.1 in
    let brought = c.work_and_bring-worked.ensures.brought.keeps in
    let w = c.in-Ok.pass in
    let q = c.take_in.new.pass in
    let met = c.take_in.ensures in
    whole_cause table n k e p p1 o o1 at outside held kept given brought w q met.joined met.front _ (refused_on g.E.Shown.tells g.E.Past.past g.E.Shown.always g.E.Service.refuses) g.E.Service.waits c.take_in.ensures.waits c.in-Ok.tally
    (ok_holds (λ (r : Standing × Tally). TallyHasCause (Refused g.E.Shown.tells g.E.Past.past g.E.Shown.always g.E.Service.refuses) g.E.Service.waits p1.knows r.0.knows r.1) c.work_and_bring-worked.result.0 (c.in-Ok.pass, c.in-Ok.tally) c.in-Ok.is c.work_and_bring-worked.ensures.cause)

pub returns-in-Err-clause-err : goal.returns-in-Err-clause-err
returns-in-Err-clause-err g c =
    let n = c.args.crew.now.threads in
    let k = c.args.crew.now.threads + 1 in
    let e : k ≡ suc n = omega arith in
    let table = c.args.turn.now.table in
    let p = c.args.pass in
    let p1 = c.split-other.new.pass in
    let o = c.split-other.result in
    let at = c.requires.at.0 in
    let outside = c.requires.at.1 in
    let held = c.requires.holds ∙ ap up_to e in
    let kept = c.split-other.ensures.kept in
    let given = c.split-other.ensures.given in
    let o1 = c.work_and_bring-worked.result.1 in
    let brought = c.work_and_bring-worked.ensures.brought.keeps in
    let w = c.in-Err.pass in
    let q = c.take_in-in-Err.new.pass in
    let met = c.take_in-in-Err.ensures in
    whole_back table n k e p p1 o o1 at outside held kept given brought w q met.joined met.front (err_holds (λ (r : Standing). r ≡ p1) c.work_and_bring-worked.result.0 c.in-Err.pass c.in-Err.is c.work_and_bring-worked.ensures.err)

pub returns-in-Ok-clause-all : goal.returns-in-Ok-clause-all
returns-in-Ok-clause-all g c = ok_holds (λ (r : Standing × Tally). r.1.begun + r.1.unbegun ≡ c.args.crew.now.requests) c.work_and_bring-worked.result.0 (c.in-Ok.pass, c.in-Ok.tally) c.in-Ok.is c.work_and_bring-worked.ensures.all
