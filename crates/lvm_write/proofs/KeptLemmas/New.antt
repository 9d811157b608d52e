-- What the writes of a new group keep.
use Rattle.std.proofs.Common.{◌≡◌, ℕ, Option, Some, None, IfSome, refl, sym, subst}
use Rattle.lvm_num.specs.declared.descriptor.Descriptor.{Descriptor}
use Rattle.lvm_num.specs.declared.status.Status.{Status}
use Rattle.lvm_num.specs.Note.{Noted}
use Rattle.lvm_num.specs.Record.{Stamped}
use Rattle.lvm_steps.specs.passed.Vol.{Fact}
use Rattle.std.specs.Prelude.{List}
use Rattle.lvm_disk.specs.Device.{Media, Image, Device, image_of, MayLeave}
use Rattle.lvm_disk.specs.Paths.{DeviceStep, Path}
use Rattle.lvm_disk.proofs.PathsLemmas.{map-path}
use Rattle.lvm_kept.specs.Contents.{Contents, contents_of}
use Rattle.lvm_kept.specs.Kept.{Kept}
use Rattle.lvm_kept.specs.Plans.{ChangesBy}
use Rattle.lvm_kept.specs.Torn.{written as as_read}
use Rattle.lvm_steps.specs.Moments.{StaysKept}
use Rattle.lvm_steps.specs.Making.{MayMake}
use Rattle.lvm_steps.proofs.MakingLemmas.Making.{media_may}
use Rattle.lvm_steps.proofs.MakingLemmas.NoVolumes.{notes_may_change, statuses_may_change, descriptors_may_change}
use Rattle.lvm_write.specs.Written.{IsWriting}
use Rattle.lvm_write.proofs.WrittenLemmas.Writing.{told_at}
use Rattle.lvm_write.specs.Beginning.{Beginning, describes, states, new_order, IsOfParts, MayBeginNew}
use Rattle.lvm_write.specs.Kept.{NewStaysKept}
use Rattle.lvm_write.proofs.ContentsLemmas.{descriptors_show, statuses_show, rest_shows}
use Rattle.lvm_write.proofs.PathsLemmas.Untold.{untold_kept}

-- what may be made depends on the descriptors alone
same_make : (c : Contents) (noted : ℕ → Option Noted) (stated : ℕ → Option (Stamped Status)) (group : Descriptor) → MayMake c group → MayMake (record c { note = noted; status = stated }) group
same_make c noted stated group may = record { empty = may.empty; new_id = may.new_id; no_volume = may.no_volume; a_member = may.a_member }

-- an image that differs by any of the parts
image_kept :
    (b : Beginning) (group : Descriptor) (status : Status) (old new : Image) (facts : List Fact) → MayBeginNew b group status old → ChangesBy (IsOfParts b new_order) old new → Kept (contents_of old) facts → Kept (contents_of new) facts
image_kept b group status old new facts may by kept =
    let first : Contents = contents_of old in
    let last : Contents = contents_of new in
    let noted : Contents = record first { note = last.note } in
    let stated : Contents = record noted { status = last.status } in
    let described : Contents = record stated { descriptor = last.descriptor } in
    let after_notes : Kept noted facts = notes_may_change group first noted facts may.make refl kept in
    let after_status : Kept stated facts = statuses_may_change group b.targets (as_read (states b) status) noted stated facts (same_make first last.note first.status group may.make) may.unused
    (record { own = statuses_show b group status new_order old new may.describe may.state by; rest = refl }) after_notes in
    let after_descriptor : Kept described facts = descriptors_may_change group b.targets (as_read (describes b) group) stated described facts (same_make first last.note last.status group may.make) refl
    (record { own = descriptors_show b group status new_order old new may.describe may.state by; rest = refl }) after_status in
    subst (λ (c : Contents). Kept c facts) (sym (rest_shows b group status new_order old new may.describe may.state by)) after_descriptor

pub new_stays_kept : (b : Beginning) (old new : Device) → Path DeviceStep (IsWriting (IsOfParts b new_order) old) old new → NewStaysKept b old new
new_stays_kept b old new path group status may = by_media old.media refl may
  where
    by_media : (o : Option Media) → old.media ≡ o → IfSome o (λ media. MayBeginNew b group status (image_of old.sizes media)) → Path DeviceStep (StaysKept old) old new
    by_media None none may = untold_kept old new none path
    by_media (Some media) told may = map-path (StaysKept old)
        (λ d writing facts kept image left. image_kept b group status (image_of old.sizes media) image facts may
        (told_at old.media (λ m. (image : Image) → MayLeave d image → ChangesBy (IsOfParts b new_order) (image_of old.sizes m) image) media told writing image left)
        (kept (image_of old.sizes media) (media_may old media told)))
        path
