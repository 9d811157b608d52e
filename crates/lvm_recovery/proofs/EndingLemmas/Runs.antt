-- Ranges that are written while copies are made.
use Rattle.std.proofs.Common.{◌≡◌, inr, ℕ, ◌+◌, ◌-◌, ◌*◌, ◌%◌, ◌<◌, ◌≤◌, ◌&&◌, not, List, ◌∷◌, Option, Some, sym, ap, subst, ◌∙◌, arith}
use Rattle.std.specs.Prelude.{IsTrue}
use Rattle.std.proofs.Math.Nat.{mod-lt}
use Rattle.lvm_num.specs.declared.place.Place.{Place}
use Rattle.lvm_num.specs.declared.place.Pp.{Pp}
use Rattle.lvm_num.specs.declared.descriptor.Mode.{Mode}
use Rattle.lvm_num.specs.declared.descriptor.Mode.TheVariants.{Active, Passive, Off}
use Rattle.lvm_num.specs.declared.descriptor.Descriptor.{Descriptor}
use Rattle.lvm_num.specs.declared.status.Status.{Status}
use Rattle.lvm_num.specs.Disks.{Disks}
use Rattle.lvm_num.specs.Geometry.{partition_blocks, sector_of, track_group_of}
use Rattle.lvm_num.specs.Descriptor.{IsValid, copies_of}
use Rattle.lvm_num.specs.Record.{Stamped}
use Rattle.lvm_num.proofs.Booleans.{first_holds}
use Rattle.lvm_disk.specs.Device.{Range}
use Rattle.lvm_kept.specs.Contents.{Contents}
use Rattle.lvm_kept.specs.Group.{is_voter, status_among, is_stale_by, is_dirty_by, fresh_on, IsOneOf}
use Rattle.lvm_kept.specs.Recovered.{IsMadeEqual, IsCopyRange}
use Rattle.lvm_recover.proofs.passed.Even.{mib_positive}
use Rattle.lvm_recover.specs.Recopied.{IsToEqual}
use Rattle.lvm_recover.proofs.KeepingLemmas.Copying.{left_passes}
use Rattle.lvm_recover.proofs.BeginningLemmas.{is_at}
use Rattle.lvm_recovery.specs.declared.copying.Recopy.{Recopy}
use Rattle.lvm_recovery.specs.Copying.{IsInRun}
use Rattle.lvm_recovery.specs.Ending.{RunsAreOfCopies}
use Rattle.lvm_recovery.specs.Planned.{IsPlannedCopy}
use Rattle.lvm_recovery.proofs.PlannedLemmas.{group_of_start, block_inside, made_equal, sector_is}

module _ (old : Contents) (disks : Disks) (group : Descriptor) (was : Stamped Status) (valid : IsValid group) (was_found : status_among old disks group.id ≡ Some was)
    (one : Recopy) (p : IsPlannedCopy old group (Some was) (is_voter old disks group.id) one) (range : Range) (run : IsInRun one.into range) where
  abbrev there : Disks
  there = is_voter old disks group.id

  -- where in the run it begins
  abbrev k : ℕ
  k = range.first - one.into.sector

  small : k < 256
  small = let low = run.low in let some = run.some in let high = run.high in omega (arith, low, some, high)

  starts : range.first ≡ one.into.sector + k
  starts = let low = run.low in omega (arith, low)

  into_is : one.into.sector ≡ sector_of group.mib p.copy.pp (p.g * 256)
  into_is = ap (λ (x : Place). x.sector) p.into

  disk_is : p.copy.disk ≡ range.disk
  disk_is = sym (run.disk ∙ ap (λ (x : Place). x.disk) p.into)

  first_is : range.first ≡ sector_of group.mib p.copy.pp (p.g * 256 + k)
  first_is = let at = sector_is group valid (Some was) there p.copy.pp p.g k small in let from = starts in let place = into_is in omega (arith, at, from, place)

  -- the run ends within its partition
  fits : (p.g * 256 + k) % partition_blocks group.mib + range.count ≤ partition_blocks group.mib
  fits =
      let some = mib_positive group valid in
      let last = (is_at group.mib p.g 255 some (omega arith)).rest in
      let rest = (is_at group.mib p.g k some small).rest in
      let positive : 0 < partition_blocks group.mib = omega (arith, some) in
      let bound = mod-lt (p.g * 256 + 255) positive in
      let from = starts in
      let high = run.high in
      omega (arith, last, rest, bound, from, high)

  made : (i : ℕ) → i < range.count → IsMadeEqual old disks group.id group p.row.mode p.row.number (p.g * 256 + k + i)
  made i low =
      let from = starts in
      let high = run.high in
      let inside : k + i < 256 = omega (arith, from, high, low) in
      let its : track_group_of (p.g * 256 + k + i) ≡ p.g =
      ap track_group_of (let e : p.g * 256 + k + i ≡ p.g * 256 + (k + i) = omega arith in e) ∙ (is_at group.mib p.g (k + i) (mib_positive group valid) inside).track_group ∙ group_of_start p.g in
      by p.row.mode (made_equal old there p.row.mode (Some was) p.row.number (p.g * 256) (p.g * 256 + k + i) (its ∙ sym (group_of_start p.g)) p.made)
    where
      by : (m : Mode) → IsToEqual old (Some was) there m p.row.number (p.g * 256 + k + i) → IsMadeEqual old disks group.id group m p.row.number (p.g * 256 + k + i)
      by Active made = made
      by Passive made = ap (λ (o : Option (Stamped Status)). is_dirty_by o p.row.number) was_found ∙ made
      by Off made = made

  fresh_copy : IsOneOf (fresh_on there (Some was) p.row p.lp) p.copy
  fresh_copy = subst (λ (ps : List Pp). IsOneOf ps p.copy) (sym p.usable) (inr p.further)

  stands_there : IsTrue (there range.disk)
  stands_there =
      let passed = left_passes (λ (q : Pp). there q.disk && not (is_stale_by (Some was) q)) (copies_of p.row p.lp) (p.first ∷ p.others) p.usable p.copy (inr p.further) in
      subst (λ (d : ℕ). IsTrue (there d)) disk_is (first_holds (there p.copy.disk) (not (is_stale_by (Some was) p.copy)) passed.1)

  pub of_copy : IsTrue (is_voter old disks group.id range.disk) × IsCopyRange old disks group.id group range
  of_copy = (
    stands_there,
    record {
      row = p.row;
      lp = p.lp;
      block = p.g * 256 + k;
      copy = p.copy;
      volume = p.volume;
      inside = block_inside group valid (Some was) there old one p k small;
      fresh_copy = subst (λ (o : Option (Stamped Status)). IsOneOf (fresh_on there o p.row p.lp) p.copy) (sym was_found) fresh_copy;
      disk = disk_is;
      first = first_is;
      fits = fits;
      made = made;
    },
  )

pub runs_are_of_copies : RunsAreOfCopies
runs_are_of_copies old disks group was copies range valid was_found planned inside = of_copy old disks group was valid was_found inside.0 (planned.each inside.0 inside.1) range inside.2
