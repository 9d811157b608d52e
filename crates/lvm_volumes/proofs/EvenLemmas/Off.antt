-- Groups without volumes in other modes than off, with a volume of zeros more, and with one less.
use Rattle.std.proofs.Common.{◌≡◌, ⊎_elim, ℕ, ◌-◌, ◌%◌, ◌≤◌, ◌<◌, ◌&&◌, List, Option, Some, IfSome, refl, sym, subst, ◌∙◌, arith, slice_index_or}
use Rattle.std.specs.Prelude.{◌==◌, not, All}
use Rattle.std.proofs.lemmas.List.Elements.{All-contains}
use Rattle.lvm_num.specs.declared.place.Pp.{Pp}
use Rattle.lvm_num.specs.declared.descriptor.LvRow.{LvRow}
use Rattle.lvm_num.specs.declared.descriptor.Descriptor.{Descriptor}
use Rattle.lvm_num.specs.declared.status.Status.{Status}
use Rattle.lvm_num.specs.Buffer.{zero_sector}
use Rattle.lvm_num.specs.Disks.{Disks}
use Rattle.lvm_num.specs.Geometry.{partition_blocks, sector_of}
use Rattle.lvm_num.specs.Descriptor.{copies_of}
use Rattle.lvm_num.specs.Record.{Stamped}
use Rattle.lvm_disk.specs.Device.{Device, Media, image_of}
use Rattle.lvm_kept.specs.Contents.{Contents, contents_of}
use Rattle.lvm_kept.specs.Group.{block_at, fresh_on, is_stale_by, HoldOne, IsOneOf}
use Rattle.lvm_kept.proofs.PlacesLemmas.{blocks_are_sectors}
use Rattle.lvm_commit.specs.LawsOfData.{IsSectorOf}
use Rattle.lvm_commit.proofs.AmongLemmas.{contains, of_map}
use Rattle.lvm_even.proofs.Lists.{of_passing}
use Rattle.lvm_volumes.specs.passed.VolumePlan.{NewVolume, row_for}
use Rattle.lvm_volumes.proofs.passed.VolumePlan.{one_insert, one_filter}
use Rattle.lvm_volumes.specs.Volumes.{AreZeroed}
use Rattle.lvm_volumes.specs.Even.{OffIsEven, ZeroedVolumeIsEven, FewerAreEven}

pub off_is_even : OffIsEven
off_is_even c group status there off row lp b volume soft inside = absurd (soft (off row volume))

module _ (device : Device) (media : Media) (group : Descriptor) (v : NewVolume) (lv : ℕ) (map : List Pp) (size : 1 ≤ group.mib)
    (zeros : All (λ (pp : Pp). (disk s : ℕ) → IsSectorOf group.mib pp disk s → media disk s ≡ zero_sector) map) where
  abbrev c : Contents
  c = contents_of (image_of device.sizes media)

  its_zeros : (lp n : ℕ) (p : Pp) → IsOneOf (copies_of (row_for v lv map) lp) p → block_at c group.mib p n ≡ zero_sector
  its_zeros lp n p copy =
      let below : n % partition_blocks group.mib < partition_blocks group.mib = omega (arith, size) in
      blocks_are_sectors (image_of device.sizes media) group.mib n p
      ∙ All-contains (λ (pp : Pp). (disk s : ℕ) → IsSectorOf group.mib pp disk s → media disk s ≡ zero_sector) map p zeros (contains map p (of_map (row_for v lv map) lp p copy)) p.disk (sector_of group.mib p.pp n)
      (record { disk = refl; low = omega arith; high = omega (arith, below) })

  holds_zeros : (status : Option (Stamped Status)) (there : Disks) (lp b : ℕ) → HoldOne c group.mib (fresh_on there status (row_for v lv map) lp) b
  holds_zeros status there lp b = (zero_sector, of_passing (λ p. block_at c group.mib p b ≡ zero_sector) (λ p. there p.disk && not (is_stale_by status p)) (copies_of (row_for v lv map) lp) (λ p copy is. its_zeros lp b p copy))

-- each of the partitions, where the media is told
zeros_told : (device : Device) (media : Media) (mib : ℕ) (map : List Pp) → device.media ≡ Some media → AreZeroed mib map device → All (λ (pp : Pp). (disk s : ℕ) → IsSectorOf mib pp disk s → media disk s ≡ zero_sector) map
zeros_told device media mib map told zeros k d lt = subst (λ (o : Option Media). IfSome o (λ m. (disk s : ℕ) → IsSectorOf mib (slice_index_or map k d) disk s → m disk s ≡ zero_sector)) told (zeros k d lt)

pub zeroed_volume_is_even : ZeroedVolumeIsEven
zeroed_volume_is_even device media group status there v lv map size told zeros even row lp b volume soft inside = ⊎_elim
    (λ (new : row ≡ row_for v lv map). subst (λ (r : LvRow). HoldOne (contents_of (image_of device.sizes media)) group.mib (fresh_on there status r lp) b) (sym new)
    (holds_zeros device media group v lv map size (zeros_told device media group.mib map told zeros) status there lp b))
    (λ old. even row lp b old soft inside)
    (one_insert group.lvs (lv - 1) (row_for v lv map) row volume)

pub fewer_are_even : FewerAreEven
fewer_are_even c group status there lv even row lp b volume soft inside = even row lp b (one_filter (λ (r : LvRow). not (r.number == lv)) group.lvs row volume) soft inside
