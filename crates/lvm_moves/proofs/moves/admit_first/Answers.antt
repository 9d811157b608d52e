use Rattle.std.proofs.Common.{◌≡◌, refl, subst}
use Rattle.std.proofs.lemmas.Option.{slice_get_within}
use Rattle.lvm_path.specs.declared.facts.Next.TheVariants as next
use Rattle.lvm_session.specs.declared.event.Event.TheVariants as event
use Rattle.lvm_session.specs.declared.open.Open.{Open}
use Rattle.lvm_session.specs.Fields.{core_of}
use Rattle.lvm_session.specs.Judging.{next_for}
use Rattle.lvm_session.specs.State.{state}
use Rattle.lvm_moves.proofs.MovingLemmas.{admitted_there, next_admission, no_admission}
use Rattle.lvm_moves.proofs.moves.admit_first.Goals as goal

pub is_quiet-quiet-requires : goal.is_quiet-quiet-requires
is_quiet-quiet-requires g c =
    let core = core_of c.args.session.now in
    let found = next_admission core c.first_admission.result c.admission_of.result c.first_admission.ensures.first c.admission_of.ensures.some c.admission_of.ensures.none c.in-Some.place c.in-Some.is in
    slice_get_within core.requests c.in-Some.place found.request found.there

pub holds_pin-pinned-requires : goal.holds_pin-pinned-requires
holds_pin-pinned-requires g c =
    let core = core_of c.args.session.now in
    let found = next_admission core c.first_admission.result c.admission_of.result c.first_admission.ensures.first c.admission_of.ensures.some c.admission_of.ensures.none c.in-Some.place c.in-Some.is in
    slice_get_within core.requests c.in-Some.place found.request found.there

pub admit_at-requires-clause-there : goal.admit_at-requires-clause-there
admit_at-requires-clause-there g c =
    let core = core_of c.args.session.now in
    let found = next_admission core c.first_admission.result c.admission_of.result c.first_admission.ensures.first c.admission_of.ensures.some c.admission_of.ensures.none c.in-Some.place c.in-Some.is in
    slice_get_within core.requests c.in-Some.place found.request found.there

pub admit_at-requires-clause-admits : goal.admit_at-requires-clause-admits
admit_at-requires-clause-admits g c o there =
    let core = core_of c.args.session.now in
    let found = next_admission core c.first_admission.result c.admission_of.result c.first_admission.ensures.first c.admission_of.ensures.some c.admission_of.ensures.none c.in-Some.place c.in-Some.is in
    let same : found.request ≡ o = cc (there, found.there) in
    subst (λ (x : Open). next_for core x ≡ next.Admit) same found.admits

pub returns-in-Some-clause-gives : goal.returns-in-Some-clause-gives
returns-in-Some-clause-gives g c =
    let core = core_of c.args.session.now in
    let found = next_admission core c.first_admission.result c.admission_of.result c.first_admission.ensures.first c.admission_of.ensures.some c.admission_of.ensures.none c.in-Some.place c.in-Some.is in
    (event.Admit c.in-Some.place, found.first, c.admit_at.ensures.admits)

pub returns-in-None-clause-gives : goal.returns-in-None-clause-gives
returns-in-None-clause-gives g c = (no_admission (core_of c.args.session.now) c.first_admission.result c.admission_of.result c.first_admission.ensures.first c.admission_of.ensures.some c.admission_of.ensures.none c.in-None.is, refl)

pub admitted-requires : goal.admitted-requires
admitted-requires g c =
    let device = g.S.Shelf.device c.args.shelf.now in
    record { there = admitted_there (state device (core_of c.args.session.now)) (state device (core_of c.admit_at.new.session)) c.in-Some.place c.admit_at.ensures.admits }

pub returns-in-Some-clause-due : goal.returns-in-Some-clause-due
returns-in-Some-clause-due g c =
    let core = core_of c.args.session.now in
    let due = c.requires.due in
    c.admitted.ensures (state (g.S.Shelf.device c.args.shelf.now) core) c.requires.may.going c.is_quiet-quiet.ensures c.holds_pin-pinned.ensures c.admit_at.ensures.admits
    (record { landing = due.landing; admission = c.first_admission.ensures.span; pinning = due.pinning; note = due.note; «data» = due.data; unfailing = due.unfailing })

pub returns-in-None-clause-due : goal.returns-in-None-clause-due
returns-in-None-clause-due g c =
    let due = c.requires.due in
    record { landing = due.landing; admission = c.first_admission.ensures.span; pinning = due.pinning; note = due.note; «data» = due.data; unfailing = due.unfailing }
