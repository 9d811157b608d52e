use Rattle.std.proofs.Common.{◌≡◌, ◌∙◌, ap, refl}
use Rattle.lvm_session.specs.declared.open.Open.{Open}
use Rattle.lvm_session.specs.Fields.{core_of}
use Rattle.lvm_due.proofs.AtPlaces.{read_same, stands}
use Rattle.lvm_moves.proofs.EnteredLemmas.{entered, hand_out, inside, its_open, landing_is}
use Rattle.lvm_moves.proofs.land.land_at.Goals as goal

pub returns-clause-lands : goal.returns-clause-lands
returns-clause-lands c device =
    let core = core_of c.args.session.now in
    let os = c.args.session.now.requests.items in
    let o = c.index-open.result.now in
    let there = stands os c.args.place o c.requires.there c.index-open.ensures in
    let write : c.index_mut.result.now ≡ o = read_same os c.args.place _ o there c.index_mut.ensures.value in
    record {
      request = o;
      there = there;
      lands = c.requires.lands o there;
      is = landing_is device core c.args.place c.args.how o o c.index_mut.result.now c.land_open-got.new.open c.has_started-started.result c.count.result c.land_open-got.result
          c.enter_landing.new.history c.leave.new.self c.give_back.new.pool c.unpin.new.cache
          refl write c.has_started-started.ensures c.count.ensures c.land_open-got.ensures.got c.land_open-got.ensures.open c.enter_landing.ensures c.leave.ensures c.give_back.ensures c.unpin.ensures;
    }

pub enter_landing-requires-clause-open : goal.enter_landing-requires-clause-open
enter_landing-requires-clause-open c =
    let o = c.index-open.result.now in
    let there = stands c.args.session.now.requests.items c.args.place o c.requires.there c.index-open.ensures in
    its_open (core_of c.args.session.now) c.requires.going c.args.place o there c.args.how (c.requires.lands o there)

pub enter_landing-requires-clause-entered : goal.enter_landing-requires-clause-entered
enter_landing-requires-clause-entered c =
    let o = c.index-open.result.now in
    let os = c.args.session.now.requests.items in
    let there = stands os c.args.place o c.requires.there c.index-open.ensures in
    let write : c.index_mut.result.now ≡ o = read_same os c.args.place _ o there c.index_mut.ensures.value in
    entered (core_of c.args.session.now) c.requires.going c.args.place o there c.args.how (c.requires.lands o there) c.land_open-got.result c.has_started-started.result c.count.result
    (c.land_open-got.ensures.got ∙ ap (λ (x : Open). x.got) write) c.has_started-started.ensures c.count.ensures

pub give_back-requires : goal.give_back-requires
give_back-requires c =
    let o = c.index-open.result.now in
    let os = c.args.session.now.requests.items in
    let there = stands os c.args.place o c.requires.there c.index-open.ensures in
    let write : c.index_mut.result.now ≡ o = read_same os c.args.place _ o there c.index_mut.ensures.value in
    hand_out (core_of c.args.session.now) c.requires.going c.args.place o there c.land_open-got.result (c.land_open-got.ensures.got ∙ ap (λ (x : Open). x.got) write)

pub leave-requires : goal.leave-requires
leave-requires c =
    let o = c.index-open.result.now in
    let there = stands c.args.session.now.requests.items c.args.place o c.requires.there c.index-open.ensures in
    inside (core_of c.args.session.now) c.requires.going c.args.place o there c.args.how (c.requires.lands o there)
