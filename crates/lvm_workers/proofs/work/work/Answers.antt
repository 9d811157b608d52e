use Rattle.std.proofs.Common.{rules, inl, inr, ◌+◌, List, sym, ap, ◌∙◌, subst, arith}
use Rattle.lvm_vol.specs.Facts.{Fact}
use Rattle.lvm_turn.specs.Views.{View}
use Rattle.rand_pcg.specs.Lcg.{Lcg}
use Rattle.lvm_workers.specs.declared.service.Asked.{Asked}
use Rattle.lvm_workers.specs.declared.service.Asked.TheVariants as asked
use Rattle.lvm_workers.specs.declared.work.Served.TheVariants as served
use Rattle.lvm_workers.specs.Draws.{after_draw, draw_at, seeded}
use Rattle.lvm_workers.specs.Knowing.{MayEnd, Refused, RefusedAs}
use Rattle.lvm_workers.specs.Making.{NoneServed, Served}
use Rattle.lvm_workers.specs.Working.{ServeTells, own_of}
use Rattle.lvm_workers.proofs.KnowingLemmas.{knows_itself, knows_further, refused_on, rose_before}
use Rattle.lvm_workers.proofs.ServingLemmas.{caused_at_end, caused_by_refusal, caused_by_silence, drawn_more, made_all, made_refused, made_unheard, one_passed, one_served, why_passed, why_refused, why_unheard}
use Rattle.lvm_workers.proofs.work.work.Goals as goal
use Rattle.lvm_workers.proofs.work.work.Goals.{in-Answered, in-Passed}

pub loop-number-init : goal.loop-number-init
loop-number-init g c = (
  c.requires.idle,
  knows_itself c.args.pass.now.knows,
  subst (λ (l : List Fact). Served (g.E.Service.asks c.args.job.now.client) (seeded c.args.job.now.seed) 0 0 l) (sym c.requires.fresh) NoneServed,
  c.generator-rng.ensures,
  omega arith,
  (λ low. absurd (omega (arith, low))),
)

pub returns-in-Refused-clause-knows : goal.returns-in-Refused-clause-knows
returns-in-Refused-clause-knows g c = knows_further c.args.pass.now.knows c.loop-number.pass.knows c.serve.new.pass.knows c.loop-number.invariant.1 c.in-Refused.ensures.knows

pub returns-in-Refused-clause-made : goal.returns-in-Refused-clause-made
returns-in-Refused-clause-made g c =
    let R : View → Type 0 = Refused g.E.Shown.tells g.E.Past.past g.E.Shown.always g.E.Service.refuses in
    let RA : Asked → View → Type 0 = RefusedAs g.E.Shown.tells g.E.Past.past g.E.Shown.always g.E.Service.refuses in
    let asks = g.E.Service.asks c.args.job.now.client in
    let was = c.loop-number.invariant in
    made_refused asks RA g.E.Service.waits c.args.job.now.seed c.args.job.now.requests c.loop-number.number c.loop-number.begun c.loop-number.pass.knows c.serve.new.pass.knows was.2 (MayEnd RA g.E.Service.waits c.args.pass.now.knows c.serve.new.pass.knows)
    (inl (why_refused _ RA g.E.Service.waits c.loop-number.pass.knows c.serve.new.pass.knows c.in-Refused.ensures.tells)) c.loop-number-test.true
    (subst (λ (r : Lcg). ServeTells (asks c.loop-number.number (draw_at r)) RA g.E.Service.waits c.loop-number.pass.knows served.Refused c.serve.new.pass.knows) was.3 c.in-Refused.ensures.tells)

pub returns-in-Refused-clause-cause : goal.returns-in-Refused-clause-cause
returns-in-Refused-clause-cause g c =
    let R : View → Type 0 = Refused g.E.Shown.tells g.E.Past.past g.E.Shown.always g.E.Service.refuses in
    let RA : Asked → View → Type 0 = RefusedAs g.E.Shown.tells g.E.Past.past g.E.Shown.always g.E.Service.refuses in
    caused_by_refusal R g.E.Service.waits c.args.pass.now.knows c.serve.new.pass.knows _ _ (asked.Refused, why_refused _ RA g.E.Service.waits c.loop-number.pass.knows c.serve.new.pass.knows c.in-Refused.ensures.tells)

pub returns-in-Unheard-clause-knows : goal.returns-in-Unheard-clause-knows
returns-in-Unheard-clause-knows g c = knows_further c.args.pass.now.knows c.loop-number.pass.knows c.serve.new.pass.knows c.loop-number.invariant.1 c.in-Unheard.ensures.knows

pub returns-in-Unheard-clause-made : goal.returns-in-Unheard-clause-made
returns-in-Unheard-clause-made g c =
    let R : View → Type 0 = Refused g.E.Shown.tells g.E.Past.past g.E.Shown.always g.E.Service.refuses in
    let RA : Asked → View → Type 0 = RefusedAs g.E.Shown.tells g.E.Past.past g.E.Shown.always g.E.Service.refuses in
    let asks = g.E.Service.asks c.args.job.now.client in
    let was = c.loop-number.invariant in
    made_unheard asks RA g.E.Service.waits c.args.job.now.seed c.args.job.now.requests c.loop-number.number c.loop-number.begun c.loop-number.pass.knows c.serve.new.pass.knows was.2 (MayEnd RA g.E.Service.waits c.args.pass.now.knows c.serve.new.pass.knows)
    (inr (rose_before 1000000 (g.E.Service.waits c.args.pass.now.knows.counts) (g.E.Service.waits c.loop-number.pass.knows.counts) (g.E.Service.waits c.serve.new.pass.knows.counts)
    (g.met.E.Service.waits_stay c.args.pass.now.knows.counts c.loop-number.pass.knows.counts was.1.counts)
    (why_unheard _ RA g.E.Service.waits c.loop-number.pass.knows c.serve.new.pass.knows c.in-Unheard.ensures.tells))) c.loop-number-test.true
    (subst (λ (r : Lcg). ServeTells (asks c.loop-number.number (draw_at r)) RA g.E.Service.waits c.loop-number.pass.knows served.Unheard c.serve.new.pass.knows) was.3 c.in-Unheard.ensures.tells)

pub returns-in-Unheard-clause-cause : goal.returns-in-Unheard-clause-cause
returns-in-Unheard-clause-cause g c =
    let R : View → Type 0 = Refused g.E.Shown.tells g.E.Past.past g.E.Shown.always g.E.Service.refuses in
    let RA : Asked → View → Type 0 = RefusedAs g.E.Shown.tells g.E.Past.past g.E.Shown.always g.E.Service.refuses in
    let waits = g.E.Service.waits in
    let before = c.loop-number.invariant.1 in
    caused_by_silence R waits c.args.pass.now.knows c.serve.new.pass.knows _ _
    (rose_before 1000000 (waits c.args.pass.now.knows.counts) (waits c.loop-number.pass.knows.counts) (waits c.serve.new.pass.knows.counts)
    (g.met.E.Service.waits_stay c.args.pass.now.knows.counts c.loop-number.pass.knows.counts before.counts)
    (why_unheard _ RA waits c.loop-number.pass.knows c.serve.new.pass.knows c.in-Unheard.ensures.tells))

pub loop-number-preserved : goal.loop-number-preserved
loop-number-preserved g c =
    let R : View → Type 0 = Refused g.E.Shown.tells g.E.Past.past g.E.Shown.always g.E.Service.refuses in
    let RA : Asked → View → Type 0 = RefusedAs g.E.Shown.tells g.E.Past.past g.E.Shown.always g.E.Service.refuses in
    let waits = g.E.Service.waits in
    let job = c.args.job.now in
    let asks = g.E.Service.asks job.client in
    let was = c.loop-number.invariant in
    let n = c.loop-number.number in
    let b = c.loop-number.begun in
    let low = was.4 in
    let old = c.loop-number.pass.knows in
    let new = c.serve.new.pass.knows in
    let drawn = ap after_draw was.3 ∙ drawn_more n (seeded job.seed) in
    elim c.match-serve.branch [
      | in-Answered w ↦
          let now = w.in-Answered.ensures in
          let made : Served asks (seeded job.seed) (n + 1) (b + 1) (own_of new) =
          one_served asks RA waits job.seed job.requests n b old new was.2 (subst (λ (r : Lcg). ServeTells (asks n (draw_at r)) RA waits old served.Answered new) was.3 now.tells) in (
            now.idle,
            knows_further c.args.pass.now.knows old new was.1 now.knows,
            subst (λ k. Served asks (seeded job.seed) (n + 1) k (own_of new)) (sym w.begun-is) made,
            now.rng ∙ drawn,
            (let is = w.begun-is in omega (arith, is, low)),
            (λ less. refused_on g.E.Shown.tells g.E.Past.past g.E.Shown.always g.E.Service.refuses old new now.knows (was.5 (let is = w.begun-is in omega (arith, is, less)))),
          )
      | in-Passed w ↦
          let now = w.in-Passed.ensures in
          let made : Served asks (seeded job.seed) (n + 1) b (own_of new) =
          one_passed asks RA waits job.seed job.requests n b old new was.2 (subst (λ (r : Lcg). ServeTells (asks n (draw_at r)) RA waits old served.Passed new) was.3 now.tells) in (
            now.idle,
            knows_further c.args.pass.now.knows old new was.1 now.knows,
            subst (λ k. Served asks (seeded job.seed) (n + 1) k (own_of new)) (sym w.begun-is) made,
            now.rng ∙ drawn,
            (let is = w.begun-is in omega (arith, is, low)),
            (λ less. (asked.Full, why_passed _ RA waits old new now.tells)),
          )
    ]

pub returns-clause-made : goal.returns-clause-made
returns-clause-made g c =
    let R : View → Type 0 = Refused g.E.Shown.tells g.E.Past.past g.E.Shown.always g.E.Service.refuses in
    let RA : Asked → View → Type 0 = RefusedAs g.E.Shown.tells g.E.Past.past g.E.Shown.always g.E.Service.refuses in
    let was = c.loop-number.invariant in
    made_all (g.E.Service.asks c.args.job.now.client) RA g.E.Service.waits c.args.job.now.seed c.args.job.now.requests (MayEnd RA g.E.Service.waits c.args.pass.now.knows c.loop-number.pass.knows) c.loop-number.number c.loop-number.begun c.loop-number.pass.knows (search rules) was.2

pub returns-clause-cause : goal.returns-clause-cause
returns-clause-cause g c =
    let R : View → Type 0 = Refused g.E.Shown.tells g.E.Past.past g.E.Shown.always g.E.Service.refuses in
    let RA : Asked → View → Type 0 = RefusedAs g.E.Shown.tells g.E.Past.past g.E.Shown.always g.E.Service.refuses in
    caused_at_end R g.E.Service.waits c.args.pass.now.knows c.loop-number.pass.knows c.loop-number.begun c.loop-number.number c.args.job.now.requests (search rules) c.loop-number.invariant.5
