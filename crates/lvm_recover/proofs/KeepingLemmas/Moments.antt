-- Recovery on a shelf, moment by moment.
use Rattle.std.proofs.Common.{◌≡◌, inl, inr, ⊎_elim, Some, sym, subst, ◌∙◌}
use Rattle.lvm_num.specs.declared.status.Status.{Status}
use Rattle.lvm_num.specs.Record.{Stamped}
use Rattle.lvm_disk.specs.Device.{Image, image_of}
use Rattle.lvm_kept.specs.Contents.{Contents, contents_of}
use Rattle.lvm_kept.specs.Kept.{Kept}
use Rattle.lvm_kept.specs.Plans.{Plan, ChangesBy}
use Rattle.lvm_kept.proofs.CommittedLemmas.Finding.{images_within}
use Rattle.lvm_kept.proofs.TornLemmas.Standing.{note_shows}
use Rattle.lvm_steps.proofs.MakingLemmas.Making.{media_may}
use Rattle.lvm_even.specs.Even.{MissingAreStale}
use Rattle.lvm_recover.specs.Keeping.{CopyingStaysKept, EmptyingStaysKept}
use Rattle.lvm_recover.proofs.KeepingLemmas.Copying.{recopied}
use Rattle.lvm_recover.proofs.KeepingLemmas.Equalling.{even_there, notes_gone}
use Rattle.lvm_recover.proofs.KeepingLemmas.Images.{images_are_recopied}
use Rattle.lvm_recover.proofs.Showing.{shows_other_data, behind_other_data}
use Rattle.lvm_num.specs.declared.descriptor.Mode.TheVariants.{Active, Off}
use Rattle.lvm_num.proofs.Booleans.{clash_gives}
use Rattle.lvm_recover.specs.Recopied.{AreActiveEven}

not_off : Active ≡ Off → ⊥
not_off e = absurd cc

pub copying_stays_kept : CopyingStaysKept
copying_stays_kept group status there old now may leaves facts kept image left =
    recopied group status there (contents_of (image_of old.sizes may.media)) (contents_of image) facts may.valid (images_within (image_of old.sizes may.media)) may.enough may.shows may.none_behind
    (images_are_recopied group (Some may.shows.stands) there (image_of old.sizes may.media) image (leaves image left))
    (kept (image_of old.sizes may.media) (media_may old may.media may.told))

pub emptying_stays_kept : EmptyingStaysKept
emptying_stays_kept group status there targets sector old now copied may change equalled in_there leaves facts kept image left =
    let c : Contents = contents_of (image_of old.sizes may.media) in
    let was = kept (image_of old.sizes may.media) (media_may old may.media may.told) in
    let is = images_are_recopied group (Some may.shows.stands) there (image_of old.sizes may.media) copied change in
    let mid : Kept (contents_of copied) facts = recopied group status there c (contents_of copied) facts may.valid (images_within (image_of old.sizes may.media)) may.enough may.shows may.none_behind is was in
    let notes = note_shows targets sector copied image (leaves image left) in
    let shows = shows_other_data group status there c (contents_of copied) is.rest may.shows in
    notes_gone group status there (contents_of copied) facts (images_within copied) may.enough shows.0 mid (contents_of image)
    (subst (λ (s : Stamped Status). MissingAreStale (contents_of copied) group (Some s) there) (sym shows.1) (behind_other_data group (Some may.shows.stands) there c (contents_of copied) is.rest may.none_behind))
    (subst (λ (s : Stamped Status). AreActiveEven (contents_of copied) group (Some s) there) (sym shows.1)
    (λ row lp b one active inside. even_there group status there c facts (images_within (image_of old.sizes may.media)) may.enough may.shows was (contents_of copied) may.valid is row lp b one
    (equalled row lp b one inside) (λ off. not_off (sym active ∙ off)) inside))
    (record {
      rest = notes.rest;
      others = λ d isnt. ⊎_elim (λ same. same) (λ own. clash_gives (there d) (in_there d own.0) isnt) (notes.own d);
    })

-- changes by a plan follow one another
pub plans_follow : (P : Plan) (old mid new : Image) → ChangesBy P old mid → ChangesBy P mid new → ChangesBy P old new
plans_follow P old mid new first then_ = record {
  same = record { disks = then_.same.disks ∙ first.same.disks; size = λ d. then_.same.size d ∙ first.same.size d };
  each = λ d s. ⊎_elim
      (λ (same : new.sector d s ≡ mid.sector d s). ⊎_elim (λ was. inl (same ∙ was)) (λ brought. inr (subst (P d s) (sym same) brought)) (first.each d s))
      (λ brought. inr brought)
      (then_.each d s);
}
