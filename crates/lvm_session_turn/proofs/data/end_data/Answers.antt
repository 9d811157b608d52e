use Rattle.std.proofs.Common.{◌≡◌, ◌<◌, Some, length, slice_get, refl, sym, ◌∙◌, ap, subst}
use Rattle.std.proofs.lemmas.Option.{slice_get_within}
use Rattle.lvm_session.specs.declared.flown.Owner.TheVariants as owner
use Rattle.lvm_session.specs.declared.open.Open.{Open}
use Rattle.lvm_session.specs.Fields.{core_of}
use Rattle.lvm_session.specs.State.{Core}
use Rattle.lvm_session.specs.Ends.{learned}
use Rattle.lvm_session.specs.Marks.{Entails}
use Rattle.lvm_calls.specs.Due.{MayMark}
use Rattle.lvm_calls.specs.Ending.{MayEndCopy}
use Rattle.lvm_moves.proofs.passed.Due.{read_same}
use Rattle.lvm_session_turn.proofs.EndedLemmas.{its_target, its_there, may_end, may_mark, stands}
use Rattle.lvm_session_turn.proofs.Ended.{is_out, within}
use Rattle.lvm_session_turn.proofs.data.end_data.Goals as goal

pub place_of-place-requires : goal.place_of-place-requires
place_of-place-requires c = its_there (core_of c.args.session.now) c.args.at c.args.id c.args.target c.args.buf.number c.requires

pub target_of-requires : goal.target_of-requires
target_of-requires c =
    let core = core_of c.args.session.now in
    let has = c.place_of-place.ensures in
    let read = read_same core.requests c.place_of-place.result c.index.result.now has.request has.there c.index.ensures in
    let its = its_target core c.args.at c.args.id c.args.target c.args.buf.number c.requires c.place_of-place.result has in
    subst (λ (o : Open). c.args.target < length o.request.targets.items) (sym read) (slice_get_within has.request.request.targets.items c.args.target its.aim its.aim_is)

pub learn_data-requires-clause-within : goal.learn_data-requires-clause-within
learn_data-requires-clause-within c = within (core_of c.args.session.now) c.args.at (owner.Data c.args.id c.args.target) c.args.buf.number c.requires

pub learn_data-requires-clause-its : goal.learn_data-requires-clause-its
learn_data-requires-clause-its c =
    let has = c.place_of-place.ensures in
    let its = its_target (core_of c.args.session.now) c.args.at c.args.id c.args.target c.args.buf.number c.requires c.place_of-place.result has in
    record { request = has.request; there = has.there; aim = its.aim; aim_is = its.aim_is }

pub learn_data-requires-clause-out : goal.learn_data-requires-clause-out
learn_data-requires-clause-out c = is_out (core_of c.args.session.now) c.args.at (owner.Data c.args.id c.args.target) c.args.buf.number c.requires

pub entail-requires-clause-mark : goal.entail-requires-clause-mark
entail-requires-clause-mark c =
    let has = c.place_of-place.ensures in
    subst (λ (x : Core). MayMark x c.place_of-place.result) (sym (c.learn_data.ensures.core has.request has.there))
    (may_mark (core_of c.args.session.now) c.args.at c.args.id c.args.target c.args.buf.number c.requires c.place_of-place.result has c.args.ok c.args.buf refl)

pub entail-requires-clause-copy : goal.entail-requires-clause-copy
entail-requires-clause-copy c =
    let has = c.place_of-place.ensures in
    subst MayEndCopy (sym (c.learn_data.ensures.core has.request has.there))
    (may_end (core_of c.args.session.now) c.args.at c.args.id c.args.target c.args.buf.number c.requires c.place_of-place.result has c.args.ok c.args.buf refl)

pub returns-clause-learns : goal.returns-clause-learns
returns-clause-learns c =
    let core = core_of c.args.session.now in
    let has = c.place_of-place.ensures in
    let place = c.place_of-place.result in
    let read = read_same core.requests place c.index.result.now has.request has.there c.index.ensures in
    let aim_is = subst (λ (o : Open). slice_get o.request.targets.items c.args.target ≡ Some c.target_of.result) read c.target_of.ensures in
    let after = c.learn_data.ensures.core has.request has.there in
    let there = stands core c.args.at c.args.id c.args.target c.args.buf.number c.requires place has c.args.ok c.args.buf refl in
    let entailed = c.entail.ensures.core (learned has.request c.args.target c.args.ok c.args.buf) (ap (λ (x : Core). slice_get x.requests place) after ∙ there) in
    record {
      place = place;
      its = record { request = has.request; there = has.there; aim = c.target_of.result; aim_is = aim_is };
      own = has.own;
      entails = subst (λ (x : Core). Entails x (learned has.request c.args.target c.args.ok c.args.buf) c.args.ok c.target_of.result.pp (core_of c.entail.new.session)) after entailed;
    }
