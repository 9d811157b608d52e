use Rattle.std.proofs.Common.{◌<◌, ℕ, length, Option, sym, ◌∙◌, subst}
use Rattle.std.specs.Prelude.{IfSome}
use Rattle.lvm_session.specs.Fields.{core_of}
use Rattle.lvm_due.proofs.DueLemmas.Moving.{end_moves}
use Rattle.lvm_due.proofs.due.Due.data_ended.Goals as goal

pub data_ended_at-requires : goal.data_ended_at-requires
data_ended_at-requires c =
    subst (λ (m : Option ℕ). IfSome m (λ k. k < length c.args.session.now.requests.items)) c.in-Some.is
    c.place_of.ensures.within

pub returns-in-None : goal.returns-in-None
returns-in-None c old at target buf going quiet learns due = c.fill.ensures

pub returns-in-Some : goal.returns-in-Some
returns-in-Some c old at target buf going quiet learns due =
    c.data_ended_at.ensures old (λ was is. end_moves old (core_of c.args.session.now) at c.args.id target buf going learns c.in-Some.place (λ order. sym (c.place_of.ensures.place order) ∙ c.in-Some.is) (quiet was) is) due
