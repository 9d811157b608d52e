use Rattle.std.proofs.Common.{◌≡◌, ◌<◌, ◌==◌, List, length, subst}
use Rattle.std.specs.Prelude.{position, IfSome}
use Rattle.lvm_session.specs.declared.open.Open.{Open}
use Rattle.lvm_session.specs.Dark.{IsAscending}
use Rattle.lvm_due.proofs.quiet.place_of.Goals as goal

pub returns : goal.returns
returns c = record {
  within = subst (λ (os : List Open). IfSome c.place_in.result (λ k. k < length os)) c.deref.ensures.value c.place_in.ensures.within;
  place = subst (λ (os : List Open). IsAscending os → c.place_in.result ≡ position (λ (o : Open). o.request.id == c.args.id) os) c.deref.ensures.value c.place_in.ensures.place;
}
