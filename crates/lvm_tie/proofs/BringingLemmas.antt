-- The blocks of a step of the copy that is being brought up: those of one track group of its logical partition.
use Rattle.std.proofs.Common.{◌≡◌, ℕ, ◌+◌, ◌-◌, ◌*◌, ◌<◌, ◌≤◌, true, false, List, Some, sym, ap, subst, ◌∙◌, arith}
use Rattle.std.specs.Prelude.{IsTrue}
use Rattle.lvm_num.specs.declared.place.Pp.{Pp}
use Rattle.lvm_num.specs.declared.descriptor.Descriptor.{Descriptor}
use Rattle.lvm_num.specs.Descriptor.{IsValid, copies_of, is_member}
use Rattle.lvm_num.specs.Disks.{Disks}
use Rattle.lvm_num.specs.Geometry.{partition_blocks, partition_of, track_group_of}
use Rattle.lvm_num.specs.Status.{calls_missing}
use Rattle.lvm_vol.specs.Facts.{Fact}
use Rattle.lvm_map.proofs.Parts.{parts}
use Rattle.lvm_map.proofs.LawsLemmas.OneToOne.{is_data}
use Rattle.lvm_map.proofs.PlacesLemmas.{mib_positive, volume_at}
use Rattle.lvm_map.specs.Places.{place_on}
use Rattle.lvm_kept.specs.Group.{IsBlockOf, IsOneOf}
use Rattle.lvm_kept.proofs.ChangesLemmas.Entries.{volume_is_row}
use Rattle.lvm_session.specs.declared.bringing.OpenCopy.{OpenCopy}
use Rattle.lvm_session.specs.State.{Core, State}
use Rattle.lvm_session.specs.Bringing.{block_at, groups_of}
use Rattle.lvm_invariant.specs.State.{Beside, Queued, ModelState, covers}
use Rattle.lvm_invariant.specs.Submit.{IsPlaced}
use Rattle.lvm_disk.specs.Device.{image_of}
use Rattle.lvm_kept.specs.Contents.{contents_of}
use Rattle.lvm_crash.specs.Session.{HasVolumes}
use Rattle.lvm_even.specs.Members.{members_showing}
use Rattle.lvm_crash.specs.Copies.{IsCopyOf}
use Rattle.lvm_crash.proofs.CopiesLemmas.{copy_placed}
use Rattle.lvm_crash.proofs.OwnedLemmas.{covered}
use Rattle.lvm_tie.specs.Tied.{IsTied}
use Rattle.lvm_tie.proofs.StateLemmas.{IsOfItsPartition, found_any}
use Rattle.lvm_tie.proofs.TiedLemmas.Orderly.{valid_of}
use Rattle.lvm_tie.proofs.SeenLemmas.Beside.{beside_alike, copy_seen, same_copies}

-- ---- in any state that has the volumes

module _ (core : Core) (valid : IsValid core.descriptor) (c : OpenCopy) (its : IsOfItsPartition core c) (less : c.cursor < groups_of core) where
  some : 1 ≤ core.descriptor.mib
  some = mib_positive core.descriptor valid

  pub groups_are_in : groups_of core ≡ 8 * core.descriptor.mib
  groups_are_in = omega arith

  within : (k : ℕ) → k < 256 → 256 * c.cursor + k < partition_blocks core.descriptor.mib
  within k lt = omega (arith, lt, less, groups_are_in)

  pub block_in : (k : ℕ) → k < 256 → IsBlockOf core.descriptor.mib its.row c.lp (block_at core c + k)
  block_in k lt = record { inside = its.lp; partition = (parts (partition_blocks core.descriptor.mib) (block_at core c + k) c.lp (256 * c.cursor + k) (within k lt) (omega arith)).0 }

  in_group : (k : ℕ) → k < 256 → track_group_of (block_at core c + k) ≡ groups_of core * c.lp + c.cursor
  in_group k lt =
      let product : groups_of core * c.lp ≡ 8 * core.descriptor.mib * c.lp = ap (λ n. n * c.lp) groups_are_in in
      (parts 256 (block_at core c + k) (groups_of core * c.lp + c.cursor) k lt (omega (arith, product))).0

  pub row_in : IsOneOf core.descriptor.lvs its.row
  row_in = volume_is_row core.descriptor c.lv its.row its.volume

  pub number_in : its.row.number ≡ c.lv
  number_in = (volume_at core.descriptor c.lv its.row its.volume).its

  pub first_in : IsBlockOf core.descriptor.mib its.row c.lp (block_at core c)
  first_in = record { inside = its.lp; partition = (parts (partition_blocks core.descriptor.mib) (block_at core c) c.lp (256 * c.cursor) (let e = within 0 (omega arith) in omega (arith, e)) (omega arith)).0 }

  module _ (w : ModelState) (facts : List Fact) (members : Disks) (volumes : HasVolumes w facts core.descriptor members)
      (alike : (a b : ℕ) → partition_of core.descriptor.mib a ≡ partition_of core.descriptor.mib b → (o : Beside) → w.beside ≡ Some o → o.its its.row.number a ≡ o.its its.row.number b) where
    copies : (k : ℕ) → k < 256 → (p : Pp) → w.is_copy c.lv (block_at core c + k) p ≡ w.is_copy c.lv (block_at core c) p
    copies k lt p = subst (λ n. w.is_copy n (block_at core c + k) p ≡ w.is_copy n (block_at core c) p) number_in
        (same_copies volumes its.row c.lp (block_at core c + k) (block_at core c) p row_in (block_in k lt) first_in (alike (block_at core c + k) (block_at core c) ((block_in k lt).partition ∙ sym first_in.partition)))

    -- a step of them lies where a request may lie
    pub placed_in : (q : Queued) → q.lv ≡ c.lv → q.first ≡ block_at core c → q.count ≡ 256 → IsPlaced w q
    placed_in q lv_is first_is count_is = record {
      place = λ lv b over.
          let at = behind lv b over in
          let same : b ≡ block_at core c + at.0 = at.2 in (
            at.3,
            ap track_group_of same ∙ in_group at.0 at.1 ∙ sym (ap track_group_of first_is ∙ ap track_group_of (let e : block_at core c ≡ block_at core c + 0 = omega arith in e) ∙ in_group 0 (omega arith)),
            (λ t p. w.is_copy (lv_is t) (same t) p) ∙ (λ t p. copies at.0 at.1 p t) ∙ sym (λ t p. w.is_copy (lv_is t) (first_is t) p),
          );
      inside = λ lv b over.
          let at = behind lv b over in
          let there = volumes.some its.row c.lp row_in its.lp in
          let is = copy_seen volumes its.row c.lp (block_at core c + at.0) there.0 row_in (block_in at.0 at.1) there.1 there.2 in
          (there.0, subst (λ n. IsTrue (w.is_copy n b there.0)) (number_in ∙ sym lv_is ∙ sym at.3) (subst (λ n. IsTrue (w.is_copy its.row.number n there.0)) (sym at.2) is));
    }
      where
        behind : (lv b : ℕ) → IsTrue (covers q lv b) → (k : ℕ) × (k < 256) × (b ≡ block_at core c + k) × (lv ≡ q.lv)
        behind lv b over =
            let x = covered q lv b over in
            let low : q.first ≤ b = x.1 in
            let high : b < q.first + q.count = x.2 in
            (b - block_at core c, omega (arith, low, high, first_is, count_is), omega (arith, low, first_is), sym x.0)

-- ---- in a tied session

module _ (past : List Fact) (s : State) (tied : IsTied past s) (c : OpenCopy) (its : IsOfItsPartition s.core c) (less : c.cursor < groups_of s.core) where
  abbrev core : Core
  core = s.core

  abbrev group : Descriptor
  group = core.descriptor

  abbrev v : ModelState
  v = tied.view

  abbrev first : ℕ
  first = block_at core c

  pub groups_are : groups_of core ≡ 8 * group.mib
  groups_are = groups_are_in core (valid_of s tied.write tied.orderly) c its less

  row_one : IsOneOf group.lvs its.row
  row_one = row_in core (valid_of s tied.write tied.orderly) c its less

  pub row_number : its.row.number ≡ c.lv
  row_number = number_in core (valid_of s tied.write tied.orderly) c its less

  pub first_block : IsBlockOf group.mib its.row c.lp first
  first_block = first_in core (valid_of s tied.write tied.orderly) c its less

  pub step_member : (p : Pp) → IsOneOf (copies_of its.row c.lp) p → is_member group p.disk ≡ true
  step_member p one =
      let of_group : IsCopyOf group c.lv first p = record { row = its.row; lp = c.lp; volume = row_one; number = row_number; inside = first_block; copy = one } in
      let place = copy_placed group c.lv first p (valid_of s tied.write tied.orderly) of_group in
      let where_is = is_data group (valid_of s tied.write tied.orderly) c.lv place.0 first (place_on group.mib p first) place.1 in
      found_any group.pvs p.disk where_is.row where_is.member

  -- a copy of its logical partition on a member that wasn't missing at first is one of each of the blocks
  pub one_is_copy_of : (p : Pp) → IsOneOf (copies_of its.row c.lp) p → is_member group p.disk ≡ true → calls_missing core.origin.table p.disk ≡ false → IsTrue (v.is_copy c.lv first p)
  one_is_copy_of p one member there =
      subst (λ n. IsTrue (v.is_copy n first p)) row_number (copy_seen tied.describes.volumes its.row c.lp first p row_one first_block one (tied.recorded.members p.disk member there))

  -- a step of them lies where a request may lie
  pub step_placed : (q : Queued) → q.lv ≡ c.lv → q.first ≡ first → q.count ≡ 256 → IsPlaced v q
  step_placed = placed_in core (valid_of s tied.write tied.orderly) c its less v v.facts (members_showing (contents_of (image_of s.device.sizes tied.media)) group) tied.describes.volumes
      (beside_alike core v.beside tied.sees.beside its.row.number)
