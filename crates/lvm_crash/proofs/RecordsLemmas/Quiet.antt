-- What stays described where nothing on the media changes.
use Rattle.std.proofs.Common.{◌≡◌, inl, ℕ, Bool, Option, Some, None, refl, sym, ap, ◌∙◌}
use Rattle.lvm_num.specs.declared.place.Pp.{Pp}
use Rattle.lvm_num.specs.Record.{Stamped}
use Rattle.lvm_kept.specs.Contents.{Contents}
use Rattle.lvm_kept.specs.Torn.{IsOtherOrRecord}
use Rattle.lvm_kept.proofs.PlansLemmas.{step_keeps}
use Rattle.lvm_invariant.specs.State.{Marks, View, Beside, ModelState}
use Rattle.lvm_invariant.specs.BeginUpdate.{BeginsUpdate}
use Rattle.lvm_invariant.specs.Events.{BeginUpdate, EndUpdate}
use Rattle.lvm_invariant.proofs.EventsLemmas.Each.{each_keeps}
use Rattle.lvm_crash.specs.Session.{as_marks, marks_shown}
use Rattle.lvm_crash.specs.Left.{KeepsGroup}
use Rattle.lvm_crash.proofs.LastingLemmas.Lasting.{beside_stays, description_lasts}
use Rattle.lvm_crash.proofs.LastingLemmas.Statuses.{statuses_last}
use Rattle.lvm_crash.specs.Records.{QuietLasts, UpdatesLast, UpdateGoesOn}

-- ---- where nothing on the media changes

keeps_same : (c : Contents) → KeepsGroup c c
keeps_same c = record { rest = refl; raw = λ d b none low. refl }

pub quiet_lasts : QuietLasts
quiet_lasts votes event s new group in_flight c step good asks describes media copies flight = description_lasts votes event s new group in_flight in_flight c c step good asks describes (keeps_same c) (record {
  blocks = λ lv b p copy. ap (λ (v : View). v.block lv b p) media ∙ describes.shown.blocks lv b p (ap (λ (is : ℕ → ℕ → Pp → Bool). is lv b p) (sym copies) ∙ copy);
  names = λ d lv g. ap (λ (v : View). v.names d lv g) media ∙ describes.shown.names d lv g;
  status = λ d. ap (λ (v : View). v.status d) media ∙ describes.shown.status d ∙ ap (λ (o : Option Beside). marks_shown o group.id (c.status d)) (sym (beside_stays votes event s new group step good asks));
  statuses = statuses_last.moves s new group in_flight c c describes.shown.statuses flight (beside_stays votes event s new group step good asks) (λ d. inl refl);
})

pub updates_last : UpdatesLast
updates_last = record {
  begins = λ votes s group c u good describes own value later stands.
      let new : ModelState = record s { in_flight = Some (as_marks s.beside u) } in
      let may : BeginsUpdate s (as_marks s.beside u) = record { none = describes.shown.statuses.same; value = value; later = later } in (
        each_keeps votes (BeginUpdate (as_marks s.beside u)) s new (may, refl) good,
        description_lasts votes (BeginUpdate (as_marks s.beside u)) s new group None (Some u) c c (may, refl) good tt describes (keeps_same c) (record {
          blocks = describes.shown.blocks;
          names = describes.shown.names;
          status = describes.shown.status;
          statuses = statuses_last.begins s group c u describes.shown.statuses own stands;
        }),
      );
  ends = λ votes s group c u good describes committed ended.
      let new : ModelState = record s { in_flight = None } in
      let flies : s.in_flight ≡ Some s.committed = describes.shown.statuses.same ∙ ap (λ (x : Stamped Marks). Some x) (sym committed) in (
        each_keeps votes EndUpdate s new (record { committed = flies; ended = ended }, refl) good,
        description_lasts votes EndUpdate s new group (Some u) None c c (record { committed = flies; ended = ended }, refl) good tt describes (keeps_same c) (record {
          blocks = describes.shown.blocks;
          names = describes.shown.names;
          status = describes.shown.status;
          statuses = statuses_last.ends s group (Some u) c describes.shown.statuses;
        }),
      );
}

pub update_goes_on : UpdateGoesOn
update_goes_on w u old new step planned since = record { is_status = since.is_status; stamp = since.stamp; began = since.began; may = since.may; way = step_keeps (IsOtherOrRecord w) since.began old new step planned since.way }
