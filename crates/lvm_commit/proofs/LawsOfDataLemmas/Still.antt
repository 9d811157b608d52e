-- What stays committed while no record is written, and the moments of a write of data.
use Rattle.std.proofs.Common.{◌≡◌, ◌⊎◌, inl, inr, ⊎_elim, ℕ, ◌+◌, ◌<◌, List, [], Option, Some, None, refl, sym, ap, subst, ◌∙◌, arith}
use Rattle.std.specs.Prelude.{nat_lt, if◌then◌else◌}
use Rattle.std.proofs.lemmas.Option.{none-some}
use Rattle.lvm_num.specs.declared.place.Pp.{Pp}
use Rattle.lvm_num.specs.declared.record.Kind.{Kind}
use Rattle.lvm_num.specs.declared.record.Kind.TheVariants as kind
use Rattle.lvm_num.specs.Buffer.{Sector}
use Rattle.lvm_num.specs.DescriptorBytes.{descriptor_of}
use Rattle.lvm_num.specs.StatusBytes.{status_of}
use Rattle.lvm_num.specs.Geometry.{data_start}
use Rattle.lvm_num.specs.Record.{slot_start, slot_size}
use Rattle.lvm_vol.specs.Facts.{Fact}
use Rattle.lvm_disk.specs.Device.{Media, Image, Flight, Device, image_of, written, IsCrashImage, MayLeave}
use Rattle.lvm_disk.specs.Images.{DiffersBy}
use Rattle.lvm_disk.proofs.PathsLemmas.{map-path}
use Rattle.lvm_kept.specs.Contents.{Contents, contents_of, data_at}
use Rattle.lvm_kept.specs.Kept.{Kept}
use Rattle.lvm_kept.specs.Places.{SameRecords}
use Rattle.lvm_kept.proofs.PlacesLemmas.{room-same, data_writes}
use Rattle.lvm_kept.proofs.CommittedLemmas.Finding.{images_within}
use Rattle.lvm_steps.specs.Moments.{ImagesKept, StaysKept}
use Rattle.lvm_steps.specs.Requests.{IsOfData}
use Rattle.lvm_steps.proofs.LawsLemmas.Writes.{data_keeps_before}
use Rattle.lvm_commit.specs.Committed.{next_stamp, ShowsCommitted}
use Rattle.lvm_commit.specs.LawsOfData.{IsSectorOf, PartitionChange, IsFlightOf, FreeDataGoesOn, DataKeepsCommitted, StillHoldsCommitted, TransferHoldsCommitted}
use Rattle.lvm_commit.proofs.LawsLemmas.Shown.{still_shows}
use Rattle.lvm_commit.proofs.LawsOfDataLemmas.Data.{free_data_keeps}
use Rattle.lvm_rec.proofs.SlotsLemmas.Next.{slot_for_same}

-- ---- other data

slot_low : (kind : Kind) (slot s : ℕ) → slot < 2 → s < slot_start kind slot + slot_size kind → s < data_start
slot_low kind.Descriptor slot s two lt = omega (arith, two, lt)
slot_low kind.Status slot s two lt = omega (arith, two, lt)

pub data_keeps_committed : DataKeepsCommitted
data_keeps_committed group status there stamp homes old new same holds = record {
  shows = subst (λ (c : Contents). ShowsCommitted c group status there) (sym (data_writes old new same)) (still_shows (contents_of old) (contents_of old).note (data_at new) group status there holds.shows);
  stamps = data_keeps_before (next_stamp stamp) old new (record { same = same.same; sectors = λ d s room low. same.sectors d s low }) holds.stamps;
  there = λ d is. room-same old new same.same d ∙ holds.there d is;
  homes = λ d is.
      let spares = holds.homes d is in
      record {
        descriptor = spares.descriptor ∙ sym (slot_for_same descriptor_of kind.Descriptor (old.sector d) (new.sector d) (λ slot s two from to. same.sectors d s (slot_low kind.Descriptor slot s two to)));
        status = spares.status ∙ sym (slot_for_same status_of kind.Status (old.sector d) (new.sector d) (λ slot s two from to. same.sectors d s (slot_low kind.Status slot s two to)));
      };
}

-- ---- a still shelf

-- its crash images are its media
pub still_image : (device : Device) (media : Media) → device.media ≡ Some media → device.flights ≡ [] → (image : Image) → MayLeave device image → SameRecords (image_of device.sizes media) image
still_image device media told still image may =
    let crash : IsCrashImage (image_of device.sizes media) [] image = subst (λ (l : List Flight). IsCrashImage (image_of device.sizes media) l image) still (subst (λ (o : Option Media). MayLeave (record device { media = o }) image) told may) in
    record { same = crash.same; sectors = λ d s lt. ⊎_elim (λ is. is) (λ is. absurd is) (crash.each d s) }

pub still_holds_committed : StillHoldsCommitted
still_holds_committed group status there stamp homes device media told still holds image may =
    data_keeps_committed group status there stamp homes (image_of device.sizes media) image (still_image device media told still image may) holds

-- ---- a transfer of data

pub data_differs : (f : Flight) → IsOfData f → (before image : Image) → DiffersBy f before image → SameRecords before image
data_differs f its before image differs = record {
  same = differs.same;
  sectors = λ d s lt. ⊎_elim (λ same. same) (λ put. absurd (none-some (image.sector d s) (sym (its d s lt) ∙ put))) (differs.each d s);
}

pub transfer_holds_committed : TransferHoldsCommitted
transfer_holds_committed group status there stamp homes f media old new told still holds its adds image may =
    let from = adds image may in
    data_keeps_committed group status there stamp homes from.0 image (data_differs f its from.0 image from.2) (still_holds_committed group status there stamp homes old media told still holds from.0 from.1)

-- ---- a write of data

-- one of a partition is of data
pub of_data : (mib : ℕ) (pp : Pp) (f : Flight) → IsFlightOf mib pp f → IsOfData f
of_data mib pp f its d s lt = by_value (written f d s) refl
  where
    by_value : (o : Option Sector) → written f d s ≡ o → o ≡ None
    by_value None is = refl
    by_value (Some x) is = absurd (let low = (its d s x is).low in omega (arith, lt, low))

module _ (mib : ℕ) (pp : Pp) (f : Flight) (its : IsFlightOf mib pp f) (before image : Image) (differs : DiffersBy f before image) where
  data_moves : (d s : ℕ) → (data_at image d s ≡ data_at before d s) ⊎ IsSectorOf mib pp d s
  data_moves d s = ⊎_elim
      (λ (same : image.sector d s ≡ before.sector d s). inl (ap (λ (x : Sector). if nat_lt s data_start then [] else x) same))
      (λ put. inr (its d s (image.sector d s) put))
      (differs.each d s)

  pub moves_partition : PartitionChange mib pp (contents_of before) (contents_of image)
  moves_partition = record { each = data_moves; rest = data_writes before image (data_differs f (of_data mib pp f its) before image differs) }

pub free_data_goes_on : FreeDataGoesOn
free_data_goes_on group status there pp f media old new told still enough shows on_it free its path =
    map-path (StaysKept old) (λ device adds facts kept image may. goes facts kept image (adds image may)) path
  where
    goes : (facts : List Fact) → ImagesKept old facts → (image : Image) → (before : Image) × MayLeave old before × DiffersBy f before image → Kept (contents_of image) facts
    goes facts kept image from =
        let before : Image = from.0 in
        let same : SameRecords (image_of old.sizes media) before = still_image old media told still before from.1 in
        let was : ShowsCommitted (contents_of before) group status there =
        subst (λ (c : Contents). ShowsCommitted c group status there) (sym (data_writes (image_of old.sizes media) before same)) (still_shows (contents_of (image_of old.sizes media)) (contents_of (image_of old.sizes media)).note (data_at before) group status there shows) in
        free_data_keeps group status there pp (contents_of before) (contents_of image) facts (images_within before) enough was on_it free (moves_partition group.mib pp f its before image from.2) (kept before from.1)
