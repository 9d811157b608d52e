use Rattle.std.proofs.Common.{rules, arith, ◌≡◌, ◌⊎◌, inr, suc, ◌+◌, ◌-◌, ◌<◌, ◌^◌, vec_len, length, List, [], ◌++◌, sym, ap, ◌∙◌, subst}
use Rattle.crossbeam_utils.specs.Padded.{padded_value}
use Rattle.lvm_turn.specs.Calls.{IsIdlePass}
use Rattle.lvm_turn.specs.Views.{Client, Standing, View, counted}
use Rattle.lvm_workers.specs.declared.service.Asked.{Asked}
use Rattle.lvm_workers.specs.declared.work.Tally.{Tally}
use Rattle.lvm_workers.specs.Making.{HasMade}
use Rattle.lvm_workers.proofs.MakingLemmas.{made_for}
use Rattle.lvm_workers.specs.Crews.{AllMade, added, begun_over, job_of, share, shares}
use Rattle.lvm_workers.specs.Knowing.{TallyHasCause, MayEnd, Refused, RefusedAs, first_own}
use Rattle.lvm_workers.proofs.KnowingLemmas.{cause_both, cause_on, end_on, knows_itself, knows_further, met_knows, met_other, refused_as_on, refused_on}
use Rattle.lvm_workers.proofs.CrewsLemmas.{all_for, begun_both, last_done, made_both, none_made, others_done, room_for_both, shares_all, shares_few, taken_in}
use Rattle.lvm_workers.proofs.crew.gather.Goals as goal

pub loop-worker-init : goal.loop-worker-init
loop-worker-init g c =
    let count = c.requires.done.0 in
    let rest : c.args.crew.now.threads - vec_len c.args.workers ≡ 0 = omega arith in
    let none = c.no_tally-tally.ensures in
    let idle = c.requires.idle in
    let held : c.args.pass.now.knows.clients ≡ [] = none_made c.args.pass.now.knows.clients idle.holds in (
      omega arith,
      subst (λ m. IsIdlePass c.args.turn.now.table (counted m) c.args.pass.now) (sym rest) idle,
      knows_itself c.args.pass.now.knows,
      subst (λ (xs : List Client). AllMade g.E.Service.asks (MayEnd (RefusedAs g.E.Shown.tells g.E.Past.past g.E.Shown.always g.E.Service.refuses) g.E.Service.waits c.args.pass.now.knows c.args.pass.now.knows) c.args.crew.now xs) (sym held) (λ k own owns. absurd owns),
      ap (λ (t : Tally). t.begun) none ∙ ap begun_over (sym held),
      ap (λ (t : Tally). t.begun + t.unbegun) none ∙ ap (shares c.args.crew.now) (sym rest),
      subst (λ t. TallyHasCause (Refused g.E.Shown.tells g.E.Past.past g.E.Shown.always g.E.Service.refuses) g.E.Service.waits c.args.pass.now.knows c.args.pass.now.knows t) (sym none)
          (record { unbegun = λ some_are. absurd (omega (arith, some_are)); unheard = λ is. absurd (cc is) }),
      c.requires.done.1,
    )

pub join-requires-clause-other_at : goal.join-requires-clause-other_at
join-requires-clause-other_at g c =
    let count : length c.pop.new.self.items ≡ vec_len c.pop.new.self = search rules in
    (last_done g.E.Service.asks (RefusedAs g.E.Shown.tells g.E.Past.past g.E.Shown.always g.E.Service.refuses) g.E.Service.waits c.args.turn.now.table c.args.crew.now c.args.pass.now.knows
    (vec_len c.pop.new.self) c.loop-worker.workers.items c.pop.new.self.items c.in-Some.worker c.loop-worker.invariant.7 c.in-Some.ensures.items count).1.idle.at

pub join-requires-clause-outside : goal.join-requires-clause-outside
join-requires-clause-outside g c =
    let count : length c.pop.new.self.items ≡ vec_len c.pop.new.self = search rules in
    (last_done g.E.Service.asks (RefusedAs g.E.Shown.tells g.E.Past.past g.E.Shown.always g.E.Service.refuses) g.E.Service.waits c.args.turn.now.table c.args.crew.now c.args.pass.now.knows
    (vec_len c.pop.new.self) c.loop-worker.workers.items c.pop.new.self.items c.in-Some.worker c.loop-worker.invariant.7 c.in-Some.ensures.items count).1.idle.outside

pub add-requires : goal.add-requires
add-requires g c =
    let was = c.loop-worker.invariant in
    let crew = c.args.crew.now in
    let i = vec_len c.pop.new.self in
    let j = crew.threads - vec_len c.loop-worker.workers in
    let fewer : i + 1 ≡ vec_len c.loop-worker.workers = search rules in
    let at_most = was.0 in
    let e : crew.threads - i ≡ suc j = omega arith in
    let count : length c.pop.new.self.items ≡ i = search rules in
    let last = last_done g.E.Service.asks (RefusedAs g.E.Shown.tells g.E.Past.past g.E.Shown.always g.E.Service.refuses) g.E.Service.waits c.args.turn.now.table crew c.args.pass.now.knows
    i c.loop-worker.workers.items c.pop.new.self.items c.in-Some.worker was.7 c.in-Some.ensures.items count in
    let few = shares_few crew (suc j) c.requires.some (omega arith) in
    let part = last.1.all ∙ ap (share crew) e in
    subst (λ (t : Tally). (c.loop-worker.tally.begun + t.begun < 2 ^ 32) × (c.loop-worker.tally.unbegun + t.unbegun < 2 ^ 32)) (sym c.into_inner.ensures)
    (room_for_both c.loop-worker.tally.begun c.loop-worker.tally.unbegun _ _ (shares crew j) (share crew (suc j)) crew.requests was.5 part few (subst (λ n. n < 2 ^ 32) c.requires.all c.ranges.requests.fits))

pub loop-worker-preserved : goal.loop-worker-preserved
loop-worker-preserved g c =
    let was = c.loop-worker.invariant in
    let crew = c.args.crew.now in
    let table = c.args.turn.now.table in
    let asks = g.E.Service.asks in
    let R : View → Type 0 = Refused g.E.Shown.tells g.E.Past.past g.E.Shown.always g.E.Service.refuses in
    let RA : Asked → View → Type 0 = RefusedAs g.E.Shown.tells g.E.Past.past g.E.Shown.always g.E.Service.refuses in
    let waits = g.E.Service.waits in
    let worker = c.in-Some.worker in
    let i = vec_len c.pop.new.self in
    let k = crew.threads - i in
    let j = crew.threads - vec_len c.loop-worker.workers in
    let fewer : i + 1 ≡ vec_len c.loop-worker.workers = search rules in
    let at_most = was.0 in
    let e : k ≡ suc j = omega arith in
    let count : length c.pop.new.self.items ≡ i = search rules in
    let first = c.args.pass.now.knows in
    let last = (last_done asks RA waits table crew first i c.loop-worker.workers.items c.pop.new.self.items worker was.7 c.in-Some.ensures.items count).1 in
    let met = c.join.ensures in
    let mine = met_knows c.loop-worker.pass worker.pass c.join.new.pass met.joined met.front in
    let theirs = met_other c.loop-worker.pass worker.pass c.join.new.pass met.joined met.other_front (last.fixed ∙ sym was.2.fixed) in
    let clients : c.join.new.pass.knows.clients ≡ c.loop-worker.pass.knows.clients ++ worker.pass.knows.clients = ap (λ (s : Standing). s.knows.clients) met.joined in
    let sums : c.add.new.self ≡ added c.loop-worker.tally (padded_value worker.tally) = c.add.ensures ∙ ap (added c.loop-worker.tally) c.into_inner.ensures in
    let stays = refused_on g.E.Shown.tells g.E.Past.past g.E.Shown.always g.E.Service.refuses in
    let grow = g.met.E.Service.waits_stay in
    let still = refused_as_on g.E.Shown.tells g.E.Past.past g.E.Shown.always g.E.Service.refuses in
    let end : Type 0 = MayEnd RA waits first c.join.new.pass.knows in
    let mine_made : AllMade asks end crew c.loop-worker.pass.knows.clients =
    all_for asks crew (MayEnd RA waits first c.loop-worker.pass.knows) end (end_on RA still waits first c.loop-worker.pass.knows c.join.new.pass.knows mine (grow c.loop-worker.pass.knows.counts c.join.new.pass.knows.counts mine.counts)) c.loop-worker.pass.knows.clients was.3 in
    let its_made : HasMade (asks k) ((crew.threads < k) ⊎ end) (job_of crew k).seed (job_of crew k).requests (padded_value worker.tally).begun (first_own worker.pass.knows.clients) =
    made_for (asks k) (MayEnd RA waits first worker.pass.knows) ((crew.threads < k) ⊎ end)
    (λ a. inr (end_on RA still waits first worker.pass.knows c.join.new.pass.knows theirs (grow worker.pass.knows.counts c.join.new.pass.knows.counts theirs.counts) a))
    (job_of crew k).seed (job_of crew k).requests (padded_value worker.tally).begun (first_own worker.pass.knows.clients) last.made in
    let before = was.5 in
    let part : (padded_value worker.tally).begun + (padded_value worker.tally).unbegun ≡ share crew (suc j) = last.all ∙ ap (share crew) e in (
      omega arith,
      taken_in table k c.loop-worker.pass worker.pass c.join.new.pass j e was.1 last.idle met.joined,
      knows_further first c.loop-worker.pass.knows c.join.new.pass.knows was.2 mine,
      subst (λ (xs : List Client). AllMade asks end crew xs) (sym clients) (made_both asks crew end k _ c.loop-worker.pass.knows.clients worker.pass.knows.clients mine_made last.idle.holds its_made),
      ap (λ (t : Tally). t.begun) sums ∙ begun_both asks crew ((crew.threads < k) ⊎ end) k _ c.loop-worker.tally.begun c.loop-worker.pass.knows.clients worker.pass.knows.clients was.4 last.idle.holds its_made ∙ ap begun_over (sym clients),
      ap (λ (t : Tally). t.begun + t.unbegun) sums ∙ (let sum : (c.loop-worker.tally.begun + (padded_value worker.tally).begun) + (c.loop-worker.tally.unbegun + (padded_value worker.tally).unbegun) ≡ shares crew j + share crew (suc j) = omega (arith, before, part) in sum) ∙ ap (shares crew) (sym e),
      subst (λ t. TallyHasCause R waits first c.join.new.pass.knows t) (sym sums)
          (cause_both R stays waits grow first c.join.new.pass.knows c.loop-worker.tally (padded_value worker.tally)
          (cause_on R stays waits grow first c.loop-worker.pass.knows c.join.new.pass.knows c.loop-worker.tally mine was.6)
          (cause_on R stays waits grow first worker.pass.knows c.join.new.pass.knows (padded_value worker.tally) theirs last.cause)),
      others_done asks RA waits table crew first c.loop-worker.workers.items c.pop.new.self.items worker was.7 c.in-Some.ensures.items,
    )

pub returns-clause-all : goal.returns-clause-all
returns-clause-all g c =
    let none : vec_len c.loop-worker.workers ≡ 0 = search rules in
    let whole : c.args.crew.now.threads - vec_len c.loop-worker.workers ≡ c.args.crew.now.threads = omega (arith, none) in
    c.loop-worker.invariant.5 ∙ ap (shares c.args.crew.now) whole ∙ shares_all c.args.crew.now c.requires.some
