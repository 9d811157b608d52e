use Rattle.std.proofs.Common.{◌∙◌, Option, Some, ap, refl, subst, sym}
use Rattle.lvm_status.specs.Members.{HasItsRows}
use Rattle.lvm_status.specs.Runs.{IsSoundStatus}
use Rattle.lvm_status.specs.Update.{seen}
use Rattle.lvm_session.specs.declared.bringing.OpenCopy.{OpenCopy}
use Rattle.lvm_session.specs.declared.bringing.Step.TheVariants as stage
use Rattle.lvm_session.specs.declared.flown.Owner.TheVariants as owner
use Rattle.lvm_session.specs.Fields.{core_of}
use Rattle.lvm_session.specs.State.{Core}
use Rattle.lvm_session.specs.Marks.{Reviews}
use Rattle.lvm_session_turn.proofs.Ended.{is_out, within}
use Rattle.lvm_session_turn.proofs.EndsLemmas.{may_review, source_within}
use Rattle.lvm_session_turn.proofs.cases.miss_source.Goals as goal

pub return_flight-requires-clause-within : goal.return_flight-requires-clause-within
return_flight-requires-clause-within c = within (core_of c.args.session.now) c.args.at owner.Copy c.args.buf.number c.requires.ended

pub return_flight-requires-clause-out : goal.return_flight-requires-clause-out
return_flight-requires-clause-out c = is_out (core_of c.args.session.now) c.args.at owner.Copy c.args.buf.number c.requires.ended

pub miss-requires : goal.miss-requires
miss-requires c = source_within (core_of c.args.session.now) c.args.at c.args.buf.number c.requires.ended c.requires.reads.copy c.requires.reads.is_open c.args.source c.requires.reads.its.1

pub review-requires : goal.review-requires
review-requires c =
    let core = core_of c.args.session.now in
    let reads = c.requires.reads in
    let back = c.return_flight.ensures.core in
    let tries = c.miss.ensures reads.copy (ap (λ (x : Core). x.copy) back ∙ reads.is_open) in
    may_review core c.args.at c.args.buf.number c.requires.ended reads.copy reads.is_open _ (record reads.copy { step = stage.Idle; tried = tries.tried }) (ap (λ (x : Core). x.descriptor) back) tries.is refl refl refl refl
    (subst (λ (x : Core). IsSoundStatus (seen x.status)) (sym back) c.requires.ended.going.status) (subst (λ (x : Core). HasItsRows core.descriptor x.status.wanted) (sym back) c.requires.ended.going.fitting.rows)

pub returns-clause-misses : goal.returns-clause-misses
returns-clause-misses c d is =
    let back = c.return_flight.ensures.core in
    let tries = c.miss.ensures d (ap (λ (x : Core). x.copy) back ∙ is) in
    let now =
    ap (λ (m : Option OpenCopy). record (core_of c.return_flight.new.session) { copy = m }) tries.is
    ∙ ap (λ (x : Core). record x { copy = Some (record d { step = stage.Idle; tried = tries.tried }) }) back in
    record { tried = tries.tried; tries = tries.tries; reviews = subst (λ (x : Core). Reviews x (core_of c.review.new.session)) now c.review.ensures.reviews }
