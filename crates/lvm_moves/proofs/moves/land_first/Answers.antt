use Rattle.std.proofs.Common.{◌≡◌, refl, subst}
use Rattle.std.proofs.lemmas.Option.{slice_get_within}
use Rattle.lvm_path.specs.declared.facts.Next.TheVariants as next
use Rattle.lvm_session.specs.declared.event.Event.TheVariants as event
use Rattle.lvm_session.specs.declared.open.Open.{Open}
use Rattle.lvm_session.specs.Fields.{core_of}
use Rattle.lvm_session.specs.Judging.{next_for}
use Rattle.lvm_session.specs.State.{state}
use Rattle.lvm_session.specs.Worked.{faultless}
use Rattle.lvm_moves.proofs.MovingLemmas.{due_landing, landed_there, no_landing}
use Rattle.lvm_moves.proofs.moves.land_first.Goals as goal

pub holds_pin-pinned-requires : goal.holds_pin-pinned-requires
holds_pin-pinned-requires c =
    let core = core_of c.args.session.now in
    let found = due_landing core c.first_landing.result c.landing_of.result c.first_landing.ensures.first c.landing_of.ensures.some c.landing_of.ensures.none c.in-Some.place c.in-Some.outcome c.in-Some.is in
    slice_get_within core.requests c.in-Some.place found.request found.there

pub land_at-requires-clause-there : goal.land_at-requires-clause-there
land_at-requires-clause-there c =
    let core = core_of c.args.session.now in
    let found = due_landing core c.first_landing.result c.landing_of.result c.first_landing.ensures.first c.landing_of.ensures.some c.landing_of.ensures.none c.in-Some.place c.in-Some.outcome c.in-Some.is in
    slice_get_within core.requests c.in-Some.place found.request found.there

pub land_at-requires-clause-lands : goal.land_at-requires-clause-lands
land_at-requires-clause-lands c o there =
    let core = core_of c.args.session.now in
    let found = due_landing core c.first_landing.result c.landing_of.result c.first_landing.ensures.first c.landing_of.ensures.some c.landing_of.ensures.none c.in-Some.place c.in-Some.outcome c.in-Some.is in
    let same : found.request ≡ o = cc (there, found.there) in
    subst (λ (x : Open). next_for core x ≡ next.Land c.in-Some.outcome) same found.lands

pub returns-in-Some-clause-gives : goal.returns-in-Some-clause-gives
returns-in-Some-clause-gives c device =
    let core = core_of c.args.session.now in
    let found = due_landing core c.first_landing.result c.landing_of.result c.first_landing.ensures.first c.landing_of.ensures.some c.landing_of.ensures.none c.in-Some.place c.in-Some.outcome c.in-Some.is in
    (event.Land c.in-Some.place c.in-Some.outcome, found.first, c.land_at.ensures.lands device)

pub returns-in-None-clause-gives : goal.returns-in-None-clause-gives
returns-in-None-clause-gives c device = (no_landing (core_of c.args.session.now) c.first_landing.result c.landing_of.result c.first_landing.ensures.first c.landing_of.ensures.some c.landing_of.ensures.none c.in-None.is, refl)

pub landed-requires : goal.landed-requires
landed-requires c = record { there = landed_there (state faultless (core_of c.args.session.now)) (state faultless (core_of c.land_at.new.session)) c.in-Some.place c.in-Some.outcome (c.land_at.ensures.lands faultless) }

pub returns-in-Some-clause-due : goal.returns-in-Some-clause-due
returns-in-Some-clause-due c =
    let due = c.requires.due in
    c.landed.ensures (state faultless (core_of c.args.session.now)) c.in-Some.outcome c.requires.going c.holds_pin-pinned.ensures (c.land_at.ensures.lands faultless)
    (record { landing = c.first_landing.ensures.span; admission = due.admission; pinning = due.pinning; note = due.note; «data» = due.data; unfailing = due.unfailing })

pub returns-in-None-clause-due : goal.returns-in-None-clause-due
returns-in-None-clause-due c =
    let due = c.requires.due in
    record { landing = c.first_landing.ensures.span; admission = due.admission; pinning = due.pinning; note = due.note; «data» = due.data; unfailing = due.unfailing }
