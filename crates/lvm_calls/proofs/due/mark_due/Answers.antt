use Rattle.std.proofs.Common.{◌≡◌, List, ◌∙◌, ap, subst}
use Rattle.lvm_num.specs.declared.place.Pp.{Pp}
use Rattle.lvm_path.specs.declared.target.Target.{Target}
use Rattle.lvm_session.specs.declared.open.Open.{Open}
use Rattle.lvm_session.specs.Fields.{core_of}
use Rattle.lvm_session.specs.Judging.{pps_of}
use Rattle.lvm_session.specs.Marks.{WantsStale, is_among}
use Rattle.lvm_calls.specs.Due.{due_among}
use Rattle.lvm_calls.proofs.StillPlaces.{read_same}
use Rattle.lvm_calls.proofs.DueLemmas.{due_is}
use Rattle.lvm_calls.proofs.due.mark_due.Goals as goal

pub returns-clause-marks : goal.returns-clause-marks
returns-clause-marks c o there =
    let same : c.index.result.now ≡ o = read_same c.args.session.now.requests.items c.args.place _ o there c.index.ensures in
    let targets = c.deref.ensures.0 ∙ ap (λ (x : Open). x.request.targets.items) same in
    subst (λ (pps : List Pp). WantsStale (is_among pps) c.args.session.now.updater c.mark.new.updater)
    (ap (λ (ts : List Target). pps_of (due_among c.due_at-due.result ts)) targets ∙ due_is (core_of c.args.session.now) o.request c.due_at-due.result (c.due_at-due.ensures o there)) c.mark.ensures
