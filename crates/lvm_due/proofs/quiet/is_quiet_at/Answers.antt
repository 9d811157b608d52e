use Rattle.std.proofs.Common.{◌<◌, ℕ, length, Option, sym, ◌∙◌, subst}
use Rattle.std.specs.Prelude.{IfSome}
use Rattle.std.proofs.lemmas.Option.{same_Some}
use Rattle.lvm_session.specs.Fields.{core_of}
use Rattle.lvm_due.specs.Due.{NoneFailsAt}
use Rattle.lvm_due.proofs.quiet.is_quiet_at.Goals as goal

pub is_quiet-requires : goal.is_quiet-requires
is_quiet-requires c = subst (λ (m : Option ℕ). IfSome m (λ k. k < length c.args.session.now.requests.items)) c.in-Some.is c.requires

pub returns-in-Some : goal.returns-in-Some
returns-in-Some c is k same = subst (NoneFailsAt (core_of c.args.session.now)) (same_Some c.in-Some.place k (sym c.in-Some.is ∙ same)) (c.is_quiet.ensures is)
