use Rattle.std.proofs.Common.{◌≡◌, ◌==◌, List, sym, ◌∙◌, subst}
use Rattle.std.specs.Prelude.{position}
use Rattle.lvm_session.specs.declared.open.Open.{Open}
use Rattle.lvm_session_turn.proofs.EndedLemmas.{has_id, never_none}
use Rattle.lvm_session_turn.proofs.data.searched_place.Goals as goal

pub unreachable-requires : goal.unreachable-requires
unreachable-requires c =
    let found = subst (λ (os : List Open). c.position_of.result ≡ position (λ (o : Open). o.request.id == c.args.id) os) c.deref.ensures.value c.position_of.ensures in
    absurd (never_none c.args.session.now.requests.items c.args.id c.position_of.result c.requires found c.in-None.is)

pub returns : goal.returns
returns c =
    let found = subst (λ (os : List Open). c.position_of.result ≡ position (λ (o : Open). o.request.id == c.args.id) os) c.deref.ensures.value c.position_of.ensures in
    has_id c.args.session.now.requests.items c.args.id c.in-Some.place c.requires (sym found ∙ c.in-Some.is)
