-- What may be found of one device that might be found of another.
use Rattle.std.proofs.Common.{◌≡◌, inl, ⊎_elim, ℕ, List, [], Option, Some, None, subst}
use Rattle.std.specs.Prelude.{IsSomeAnd}
use Rattle.lvm_num.specs.declared.descriptor.Descriptor.{Descriptor}
use Rattle.lvm_disk.specs.Device.{Media, Image, Flight, Device, image_of, IsCrashImage, HasSectors}
use Rattle.lvm_disk.specs.Images.{LeavesNoMore}
use Rattle.lvm_kept.specs.Raw.{OnlyAdds}
use Rattle.lvm_steps.specs.Requests.{IsOfData}
use Rattle.lvm_commit.proofs.LawsOfFindingLemmas.NoMore.{data_finds_nothing_new}
use Rattle.lvm_commit.proofs.LawsOfDataLemmas.Still.{data_differs}
use Rattle.lvm_transfer.specs.Reading.{IsUnwritten}
use Rattle.lvm_core.specs.Leaves.{MayBeFound}
use Rattle.lvm_top.specs.Standing.{HasFewDisks}

-- at most 128 disks, and sectors of 512 bytes
pub record IsShelf (device : Device) : Type 0 where
  pub few : HasFewDisks device
  pub whole : HasSectors device

-- whatever may be found of the second might be found of the first
abbrev pub NothingNew : Device → Device → Type 0
NothingNew old new = (id : ℕ) (k : Descriptor) → MayBeFound new id k → MayBeFound old id k

pub then_nothing : (old mid new : Device) → NothingNew old mid → NothingNew mid new → NothingNew old new
then_nothing old mid new one two id k is = one id k (two id k is)

pub same_nothing : (old new : Device) → new ≡ old → NothingNew old new
same_nothing old new same id k is = subst (λ (d : Device). MayBeFound d id k) same is

-- where no crash image is added
pub fewer_nothing : (old new : Device) → LeavesNoMore old new → NothingNew old new
fewer_nothing old new fewer id k is = (is.0, fewer is.0 is.1, is.2)

-- where images are added that differ in data alone
pub data_nothing : (f : Flight) (old new : Device) → IsOfData f → OnlyAdds f old new → NothingNew old new
data_nothing f old new its adds id k is =
    let from = adds is.0 is.1 in
    (from.0, from.1, data_finds_nothing_new from.0 is.0 (data_differs f its from.0 is.0 from.2) id k is.2)

-- the media of a still shelf is a crash image, whatever else is out
still_leaves : (o : Option Media) (sizes : List ℕ) (flights : List Flight) (image : Image) → IsSomeAnd o (λ m. IsCrashImage (image_of sizes m) [] image) → IsSomeAnd o (λ m. IsCrashImage (image_of sizes m) flights image)
still_leaves None sizes flights image may = absurd may
still_leaves (Some m) sizes flights image may = record { same = may.same; each = λ d s. ⊎_elim (λ same. inl same) (λ none. absurd none) (may.each d s) }

-- where nothing was written, and nothing is out
pub unwritten_fewer : (old new : Device) → IsUnwritten old new → new.flights ≡ [] → LeavesNoMore old new
unwritten_fewer old new un still image may =
    let by_flights : IsSomeAnd new.media (λ m. IsCrashImage (image_of new.sizes m) [] image) = subst (λ (l : List Flight). IsSomeAnd new.media (λ m. IsCrashImage (image_of new.sizes m) l image)) still may in
    let by_media : IsSomeAnd old.media (λ m. IsCrashImage (image_of new.sizes m) [] image) = subst (λ (o : Option Media). IsSomeAnd o (λ m. IsCrashImage (image_of new.sizes m) [] image)) un.media by_flights in
    let by_sizes : IsSomeAnd old.media (λ m. IsCrashImage (image_of old.sizes m) [] image) = subst (λ (sizes : List ℕ). IsSomeAnd old.media (λ m. IsCrashImage (image_of sizes m) [] image)) un.sizes by_media in
    still_leaves old.media old.sizes old.flights image by_sizes

pub unwritten_nothing : (old new : Device) → IsUnwritten old new → new.flights ≡ [] → NothingNew old new
unwritten_nothing old new un still = fewer_nothing old new (unwritten_fewer old new un still)
