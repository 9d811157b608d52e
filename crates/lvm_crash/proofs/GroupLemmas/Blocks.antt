-- What a session sees kept of a block is kept on the disks.
use Rattle.std.proofs.Common.{◌≡◌, inl, inr, ⊎_elim, ℕ, ◌+◌, ◌*◌, ◌≤◌, ◌/◌, Bool, true, false, ◌&&◌, ◌||◌, not, List, Option, Some, None, refl, sym, ap, subst, ◌∙◌, arith}
use Rattle.std.specs.Prelude.{IsTrue, IsFalse}
use Rattle.std.proofs.lemmas.Bool.{not_from_false}
use Rattle.std.proofs.lemmas.Nat.{div-mul-add}
use Rattle.lvm_num.specs.declared.place.Pp.{Pp}
use Rattle.lvm_num.specs.declared.descriptor.Mode.{Mode}
use Rattle.lvm_num.specs.declared.descriptor.Mode.TheVariants.{Active, Passive, Off}
use Rattle.lvm_num.specs.declared.descriptor.LvRow.{LvRow}
use Rattle.lvm_num.specs.declared.descriptor.Descriptor.{Descriptor}
use Rattle.lvm_num.specs.declared.status.Status.{Status}
use Rattle.lvm_num.specs.Disks.{Disks}
use Rattle.lvm_num.specs.Descriptor.{copies_of, is_pp}
use Rattle.lvm_num.proofs.DescriptorLemmas.Partitions.{one_partition, same_partition}
use Rattle.lvm_num.specs.Geometry.{track_group_of, partition_blocks, partition_of}
use Rattle.lvm_num.specs.Record.{Stamped}
use Rattle.lvm_num.proofs.Booleans.{clash}
use Rattle.lvm_vol.specs.declared.entry.Vol.TheVariants.{Lv}
use Rattle.lvm_vol.specs.Facts.{Fact}
use Rattle.lvm_crash.proofs.MayLemmas.{off_by, loose_is_off}
use Rattle.lvm_vol.specs.May.{known, IsValue, cut, is_off}
use Rattle.lvm_kept.specs.Contents.{Contents}
use Rattle.lvm_kept.specs.Group.{passes, is_of, has_room, members_in, is_stale_by, fresh_on, block_at, IsBlockOf, is_named, IsOneOf, IsSome}
use Rattle.lvm_kept.specs.Kept.{MayDiffer, IsBlockKept}
use Rattle.lvm_invariant.specs.State.{Beside, ModelState}
use Rattle.lvm_invariant.specs.Crash.{Fresh, MayDifferAfter, BlockKept}
use Rattle.lvm_crash.specs.Session.{is_beside, marks_of, view_of, IsPlaceOf, IsFreePlace, HasVolumes}
use Rattle.lvm_even.specs.Members.{members_showing}
use Rattle.lvm_num.specs.Modes.{is_active, is_passive}
use Rattle.lvm_even.proofs.Lists.{left_of, right_of, both_of, not_so, of_passing, one_passes}

-- ---- the partition beside

-- a copy is a place for its blocks
pub of_copies : (o : Option Beside) (row : LvRow) (lp b : ℕ) (p : Pp) → IsOneOf (copies_of row lp) p → IsPlaceOf o row lp b p
of_copies None row lp b p copy = copy
of_copies (Some x) row lp b p copy = inl copy

-- and each place is a copy, or the partition beside
pub copies_but : (o : Option Beside) (row : LvRow) (lp b : ℕ) (p : Pp) → IsFalse (is_beside o p) → IsPlaceOf o row lp b p → IsOneOf (copies_of row lp) p
copies_but None row lp b p off copy = copy
copies_but (Some x) row lp b p off (inl copy) = copy
copies_but (Some x) row lp b p off (inr at) = absurd (clash (is_pp p x.place) (same_partition p x.place at.0) off)

neither : (a b : Bool) → IsFalse (a || b) → IsFalse a × IsFalse b
neither true b h = absurd cc
neither false true h = absurd cc
neither false false h = (refl, refl)

-- a member among some disks is one among all
member_there : (c : Contents) (disks : Disks) (group : Descriptor) (d : ℕ) → IsTrue (members_in c disks group.id group d) → IsTrue (members_showing c group d)
member_there c disks group d h =
    both_of (passes (is_of group.id) (c.descriptor d)) (has_room c d group)
    (right_of (disks d) (passes (is_of group.id) (c.descriptor d)) (left_of (disks d && passes (is_of group.id) (c.descriptor d)) (has_room c d group) h))
    (right_of (disks d && passes (is_of group.id) (c.descriptor d)) (has_room c d group) h)

module _ (s : ModelState) (facts : List Fact) (group : Descriptor) (c : Contents) (volumes : HasVolumes s facts group (members_showing c group)) (r : Stamped Status) (row : LvRow) (lp b : ℕ)
    (one : IsOneOf group.lvs row) (inside : IsBlockOf group.mib row lp b) (kept : BlockKept s (view_of s.beside group c) (marks_of s.beside r.value) (cut b (known facts (Lv row.number) b)) row.number b) where
  -- a copy of the group isn't the partition beside
  not_place : (p : Pp) → IsOneOf (copies_of row lp) p → IsFalse (is_beside s.beside p)
  not_place p copy = by s.beside volumes.free
    where
      by : (o : Option Beside) → ((x : Beside) → o ≡ Some x → IsFreePlace group x) → IsFalse (is_beside o p)
      by None free = refl
      by (Some x) free = test (is_pp p x.place) refl
        where
          test : (t : Bool) → is_pp p x.place ≡ t → is_pp p x.place ≡ false
          test true at = absurd ((free x refl).free row lp one inside.inside (subst (λ (q : Pp). IsOneOf (copies_of row lp) q) (one_partition p x.place at) copy))
          test false off = off

  module _ (disks : Disks) where
    abbrev test : Pp → Bool
    test p = members_in c disks group.id group p.disk && not (is_stale_by (Some r) p)

    fresh : (p : Pp) → IsOneOf (copies_of row lp) p → IsTrue (test p) → Fresh s (marks_of s.beside r.value) row.number b p
    fresh p copy pass = record {
      copy = (volumes.copies row lp b p one inside).1 (of_copies s.beside row lp b p copy, member_there c disks group p.disk (left_of (members_in c disks group.id group p.disk) (not (is_stale_by (Some r) p)) pass));
      fresh = λ t. (not_place p copy t) || (not_so (is_stale_by (Some r) p) (right_of (members_in c disks group.id group p.disk) (not (is_stale_by (Some r) p)) pass) t);
    }

    never_loose : row.mode ≡ Passive → IsTrue (cut b (known facts (Lv row.number) b)).loose → ⊥
    never_loose is loose = clash (is_off (known facts (Lv row.number) b).mode) (off_by b (known facts (Lv row.number) b) (loose_is_off facts (Lv row.number) b) loose) (ap is_off (volumes.modes row lp b one inside ∙ is))

    differ : (mode : Mode) → row.mode ≡ mode → MayDifferAfter s (view_of s.beside group c) (marks_of s.beside r.value) (cut b (known facts (Lv row.number) b)) row.number b (is_active mode)
        → MayDiffer c (Some r) row.number mode (fresh_on (members_in c disks group.id group) (Some r) row lp) (cut b (known facts (Lv row.number) b)) b
    differ Active is named = of_passing (λ p. IsTrue (is_named c p.disk row.number (track_group_of b))) test (copies_of row lp) (λ p copy pass. named p (fresh p copy pass))
    differ Passive is (inl loose) = absurd (never_loose is loose)
    differ Passive is (inr dirty) = dirty.1
    differ Off is (inl loose) = loose
    differ Off is (inr dirty) = absurd (clash (s.is_passive row.number) dirty.0 (volumes.mark row one ∙ ap is_passive is))

    pub block_kept : IsBlockKept c group.mib (Some r) row (fresh_on (members_in c disks group.id group) (Some r) row lp) (cut b (known facts (Lv row.number) b)) b
    block_kept = record {
      allowed = of_passing (λ p. IsValue (cut b (known facts (Lv row.number) b)) (block_at c group.mib p b)) test (copies_of row lp) (λ p copy pass. kept.allowed p (fresh p copy pass));
      equal = ⊎_elim
          (λ (same : (value : List ℕ) × ((p : Pp) → Fresh s (marks_of s.beside r.value) row.number b p → block_at c group.mib p b ≡ value)).
          inl (same.0, of_passing (λ p. block_at c group.mib p b ≡ same.0) test (copies_of row lp) (λ p copy pass. same.1 p (fresh p copy pass))))
          (λ (d : MayDifferAfter s (view_of s.beside group c) (marks_of s.beside r.value) (cut b (known facts (Lv row.number) b)) row.number b (s.is_active row.number)).
          inr (differ row.mode refl (subst (MayDifferAfter s (view_of s.beside group c) (marks_of s.beside r.value) (cut b (known facts (Lv row.number) b)) row.number b) (volumes.notes row one) d)))
          kept.equal;
    }

  -- some copy is fresh among all disks
  pub some_fresh : IsSome (fresh_on (members_showing c group) (Some r) row lp)
  some_fresh =
      let one_copy = volumes.some row lp one inside.inside in
      let stays = kept.some one_copy.0 ((volumes.copies row lp b one_copy.0 one inside).1 (of_copies s.beside row lp b one_copy.0 one_copy.1, one_copy.2)) in
      let at = (volumes.copies row lp b stays.0 one inside).0 stays.1.copy in
      let marks = neither (is_beside s.beside stays.0) (is_stale_by (Some r) stays.0) stays.1.fresh in
      one_passes (λ p. members_showing c group p.disk && not (is_stale_by (Some r) p)) (copies_of row lp) stays.0 (copies_but s.beside row lp b stays.0 marks.0 at.0)
      (both_of (members_showing c group stays.0.disk) (not (is_stale_by (Some r) stays.0)) at.1 (not_from_false (is_stale_by (Some r) stays.0) marks.1))

-- each logical partition has a block
pub block_of : (mib lp : ℕ) → 1 ≤ mib → partition_of mib (lp * partition_blocks mib) ≡ lp
block_of mib lp some = ap (λ (n : ℕ). n / partition_blocks mib) (add_none (lp * partition_blocks mib)) ∙ div-mul-add lp (partition_blocks mib) 0 (omega arith)
  where
    add_none : (n : ℕ) → n ≡ n + 0
    add_none n = omega arith
