-- What the parts of a beginning keep of a history, moment by moment.
use Rattle.std.proofs.Common.{◌≡◌, Some, []}
use Rattle.lvm_disk.specs.Device.{Media, Image, Device, image_of, MayLeave}
use Rattle.lvm_disk.specs.Paths.{DeviceStep, Path}
use Rattle.lvm_disk.proofs.PathsLemmas.{append-path, map-path, last-path}
use Rattle.lvm_kept.specs.Plans.{ChangesBy}
use Rattle.lvm_kept.specs.Torn.{Writing, brings}
use Rattle.lvm_steps.specs.Moments.{StaysKept}
use Rattle.lvm_steps.specs.Making.{IsWritten, LeavesOnly}
use Rattle.lvm_write.specs.Written.{IsWriting}
use Rattle.lvm_write.proofs.WrittenLemmas.Writing.{told_at}

-- a write from a still shelf
abbrev pub is_written : (x : Writing) (old new : Device) (media : Media) → old.media ≡ Some media → old.flights ≡ [] → Path DeviceStep (IsWriting (brings x) old) old new → IsWritten x old new
is_written x old new media told still path = record {
  media = media;
  told = told;
  still = still;
  path = map-path (LeavesOnly x (image_of old.sizes media)) (λ d writing. told_at old.media (λ m. (image : Image) → MayLeave d image → ChangesBy (brings x) (image_of old.sizes m) image) media told writing) path;
}

-- one stretch of moments after another
pub kept_then : (old mid new : Device) → Path DeviceStep (StaysKept old) old mid → Path DeviceStep (StaysKept mid) mid new → Path DeviceStep (StaysKept old) old new
kept_then old mid new one two = append-path one (map-path (StaysKept old) (λ d stays facts kept. stays facts (last-path one facts kept)) two)
