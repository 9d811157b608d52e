-- The moments of the making of a group.
use Rattle.std.proofs.Common.{◌≡◌, inl, inr, ⊎_elim, ◌++◌, ◌∷◌, [], ℕ, List, Option, Some, map, sym, refl, ap, subst, ◌∙◌}
use Rattle.lvm_num.specs.declared.descriptor.Descriptor.{Descriptor}
use Rattle.lvm_num.specs.Record.{Stamped}
use Rattle.lvm_vol.specs.declared.entry.Vol.TheVariants.{Disk}
use Rattle.lvm_vol.specs.Facts.{Fact, Removed}
use Rattle.lvm_vol.specs.Legal.{IsLater}
use Rattle.lvm_kept.specs.passed.Disk.{Media, Image, Flight, Device, image_of, IsInFlight, IsCrashImage, MayLeave, DeviceStep, Path}
use Rattle.lvm_kept.proofs.passed.Disk.{map-path, last-path}
use Rattle.lvm_kept.specs.Contents.{Contents, descriptor_on, contents_of}
use Rattle.lvm_kept.specs.Places.{SameRecords}
use Rattle.lvm_kept.specs.Kept.{Kept}
use Rattle.lvm_kept.specs.Plans.{ChangesBy}
use Rattle.lvm_kept.specs.Torn.{written as as_read, Writing, Alone, Note, brings}
use Rattle.lvm_kept.proofs.PlansLemmas.{plan_begins, then_disks}
use Rattle.lvm_kept.proofs.PlacesLemmas.{descriptor-same}
use Rattle.lvm_kept.proofs.TornLemmas.Records.{descriptor_shows, status_shows}
use Rattle.lvm_kept.proofs.TornLemmas.Standing.{note_shows}
use Rattle.lvm_steps.specs.Moments.{StaysKept}
use Rattle.lvm_steps.specs.Making.{MayMake, IsWritten, NotesGoOn, StatusGoesOn, DescriptorGoesOn, GroupIsMade, StillMayMake, UnderWayLeavesOnly, StillLeavesOnly, TransferLeavesOnly}
use Rattle.lvm_steps.proofs.MakingLemmas.NoVolumes.{notes_may_change, statuses_may_change, descriptors_may_change}
use Rattle.lvm_steps.proofs.MomentsLemmas.Spans.{later_append, steps_go_on, group_goes_on, disks_go_out}

-- what stands on the media may be left
pub media_may : (device : Device) (media : Media) → device.media ≡ Some media → MayLeave device (image_of device.sizes media)
media_may device media told = subst (λ (o : Option Media). MayLeave (record device { media = o }) (image_of device.sizes media)) (sym told) (record { same = record { disks = refl; size = λ d. refl }; each = λ d s. inl refl })

-- what may be made depends on the descriptors alone
same_make : (c new : Contents) (group : Descriptor) → new.descriptor ≡ c.descriptor → MayMake c group → MayMake new group
same_make c new group same may = record {
  empty = λ d r shows. may.empty d r (ap (λ (on : ℕ → Option (Stamped Descriptor)). on d) (sym same) ∙ shows);
  new_id = λ d r shows. may.new_id d r (ap (λ (on : ℕ → Option (Stamped Descriptor)). on d) (sym same) ∙ shows);
  no_volume = may.no_volume;
  a_member = may.a_member;
}

-- where each image under way keeps what the media kept, each moment does
pub stays_by : (x : Writing) (old new : Device) (w : IsWritten x old new)
    → ((image : Image) → ChangesBy (brings x) (image_of old.sizes w.media) image → (facts : List Fact) → Kept (contents_of (image_of old.sizes w.media)) facts → Kept (contents_of image) facts)
    → Path DeviceStep (StaysKept old) old new
stays_by x old new w each = map-path (StaysKept old) (λ d way facts kept image may. each image (way image may) facts (kept (image_of old.sizes w.media) (media_may old w.media w.told))) w.path

pub notes_go_on : NotesGoOn
notes_go_on group targets sector old new w may =
    let start : Image = image_of old.sizes w.media in
    let was : MayMake (contents_of start) group = may start (media_may old w.media w.told) in
    record {
      path = stays_by (Note targets sector) old new w (λ image by facts kept. notes_may_change group (contents_of start) (contents_of image) facts was (note_shows targets sector start image by).rest kept);
      may = λ image left. same_make (contents_of start) (contents_of image) group (ap (λ (c : Contents). c.descriptor) (note_shows targets sector start image (last-path w.path image left)).rest) was;
    }

pub status_goes_on : StatusGoesOn
status_goes_on group w status old new written is_kind may_write unused may =
    let start : Image = image_of old.sizes written.media in
    let was : MayMake (contents_of start) group = may start (media_may old written.media written.told) in
    record {
      path = stays_by (Alone w) old new written (λ image by facts kept.
          statuses_may_change group w.targets (as_read w status) (contents_of start) (contents_of image) facts was (unused start (media_may old written.media written.told)) (status_shows w status start image is_kind may_write by) kept);
      may = λ image left. same_make (contents_of start) (contents_of image) group (ap (λ (c : Contents). c.descriptor) (status_shows w status start image is_kind may_write (last-path written.path image left)).rest) was;
    }

pub descriptor_goes_on : DescriptorGoesOn
descriptor_goes_on group w old new written is_kind may_write may =
    let start : Image = image_of old.sizes written.media in
    stays_by (Alone w) old new written (λ image by facts kept.
    descriptors_may_change group w.targets (as_read w group) (contents_of start) (contents_of image) facts (may start (media_may old written.media written.told)) refl (descriptor_shows w group start image is_kind may_write by) kept)

pub group_is_made : GroupIsMade
group_is_made run first facts disks moment group old new span may makes le later =
    let facts_out : List Fact = facts ++ map (λ (d : ℕ). Removed (Disk d)) disks in
    let noted = notes_go_on group makes.targets makes.sector old makes.noted makes.notes may in
    let stated = status_goes_on group makes.status_write makes.status makes.noted makes.stated makes.states makes.its_kind makes.may_state makes.unused noted.may in
    let made = descriptor_goes_on group makes.group_write makes.stated new makes.describes makes.own_kind makes.may_describe stated.may in
    group_goes_on run first new facts_out moment
    (steps_go_on run first makes.stated new facts_out
    (steps_go_on run first makes.noted makes.stated facts_out
    (steps_go_on run first old makes.noted facts_out (disks_go_out run first old facts disks span) noted.path)
    stated.path)
    made)
    le (later_append facts (map (λ (d : ℕ). Removed (Disk d)) disks) moment later (none_on disks))
  where
    none_on : (disks : List ℕ) → IsLater (map (λ (d : ℕ). Removed (Disk d)) disks) moment
    none_on [] = tt
    none_on (d ∷ disks) = none_on disks

pub still_may_make : StillMayMake
still_may_make device media group told still may image left =
    let crash : IsCrashImage (image_of device.sizes media) [] image = subst (λ (l : List Flight). IsCrashImage (image_of device.sizes media) l image) still (subst (λ (o : Option Media). MayLeave (record device { media = o }) image) told left) in
    let same : SameRecords (image_of device.sizes media) image = record { same = crash.same; sectors = λ e s lt. ⊎_elim (λ is. is) (λ is. absurd is) (crash.each e s) } in
    let shown : (d : ℕ) → descriptor_on image d ≡ descriptor_on (image_of device.sizes media) d = descriptor-same (image_of device.sizes media) image same in
    same_make (contents_of (image_of device.sizes media)) (contents_of image) group (λ t d. shown d t) may

-- ---- what leaves only this

pub under_way_leaves_only : UnderWayLeavesOnly
under_way_leaves_only x start device way = way.images

pub still_leaves_only : StillLeavesOnly
still_leaves_only x device media told still = (plan_begins (brings x) device media told (λ d s value is. absurd (subst (λ (l : List Flight). IsInFlight l d s value) still is))).images

pub transfer_leaves_only : TransferLeavesOnly
transfer_leaves_only x start f old new planned adds leaves image may =
    let from = adds image may in
    let by : ChangesBy (brings x) start from.0 = leaves from.0 from.1 in
    record {
      same = then_disks start from.0 image by.same from.2.same;
      each = λ d s. ⊎_elim
          (λ (same : image.sector d s ≡ from.0.sector d s). ⊎_elim
          (λ (was : from.0.sector d s ≡ start.sector d s). inl (same ∙ was))
          (λ (p : brings x d s (from.0.sector d s)). inr (subst (brings x d s) (sym same) p))
          (by.each d s))
          (λ put. inr (planned d s (image.sector d s) put))
          (from.2.each d s);
    }
