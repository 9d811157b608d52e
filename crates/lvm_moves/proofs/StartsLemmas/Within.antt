-- What is started lies within its disk.
use Rattle.std.proofs.Common.{◌≡◌, ◌==◌, ◌<◌, ◌≤◌, ◌+◌, ◌*◌, ◌/◌, ◌%◌, ℕ, zero, suc, Bool, true, false, ◌&&◌, ◌||◌, List, [], ◌∷◌, Some, length, slice_get, refl, sym, ◌∙◌, ap, subst, arith}
use Rattle.std.specs.Prelude.{IsTrue}
use Rattle.std.specs.List.{AllByRecursion}
use Rattle.std.proofs.lemmas.Bool.{eqb-true}
use Rattle.std.proofs.lemmas.Nat.{mod_below}
use Rattle.std.proofs.lemmas.List.Elements.{recursion_from_All}
use Rattle.lvm_num.specs.declared.place.Pp.{Pp}
use Rattle.lvm_num.specs.declared.descriptor.PvRow.{PvRow}
use Rattle.lvm_num.specs.Descriptor.{IsPartitionOf, is_size}
use Rattle.lvm_num.specs.Geometry.{partition_blocks, sector_of, sectors_needed}
use Rattle.lvm_num.specs.Status.{calls_missing}
use Rattle.lvm_num.proofs.MarksLemmas.Maps.{find-Some}
use Rattle.lvm_disk.specs.Device.{Device}
use Rattle.lvm_disk.specs.Steps.{IsRange}
use Rattle.lvm_kept.specs.Contents.{note_sector}
use Rattle.lvm_session.specs.State.{Core}
use Rattle.lvm_session.specs.Judging.{copies_in, is_missing}
use Rattle.lvm_moves.proofs.passed.Due.{copies_in_are}
use Rattle.lvm_session.specs.Marks.{is_among}
use Rattle.lvm_moves.specs.Starts.{MayStartTransfer}

-- ---- copies are partitions of members

abbrev at : ℕ → ℕ → Pp
at disk pp = record { disk = disk; pp = pp }

among_all : (P : Pp → Type 0) (ps : List Pp) (p : Pp) → is_among ps p ≡ true → AllByRecursion P ps → P p
among_all P [] p is all = absurd (cc is)
among_all P (q ∷ ps) p is all = by_test (λ e. among_all P ps p e all.1) (p.disk == q.disk) (p.pp == q.pp) refl refl is
  where
    same_place : q.disk ≡ p.disk → q.pp ≡ p.pp → q ≡ p
    same_place disk pp = ap (λ (k : ℕ). at k q.pp) disk ∙ ap (at p.disk) pp

    by_test : (is_among ps p ≡ true → P p) → (a b : Bool) → (p.disk == q.disk) ≡ a → (p.pp == q.pp) ≡ b → (a && b) || is_among ps p ≡ true → P p
    by_test rest true true d n e =
        let disk : q.disk ≡ p.disk = sym (eqb-true p.disk q.disk d) in
        let pp : q.pp ≡ p.pp = sym (eqb-true p.pp q.pp n) in
        subst P (same_place disk pp) all.0
    by_test rest true false d n e = rest e
    by_test rest false b d n e = rest e

pub at_number : (P : Pp → Type 0) (ps : List Pp) (k : ℕ) (p : Pp) → slice_get ps k ≡ Some p → AllByRecursion P ps → P p
at_number P [] k p is all = absurd (cc is)
at_number P (q ∷ ps) zero p is all = let same : q ≡ p = cc is in subst P same all.0
at_number P (q ∷ ps) (suc k) p is all = at_number P ps k p is all.1

pub all_copies : (core : Core) (lv lp : ℕ) (device : Device) → MayStartTransfer device core → AllByRecursion (IsPartitionOf core.descriptor) (copies_in core.descriptor lv lp)
all_copies core lv lp device may = recursion_from_All (IsPartitionOf core.descriptor) (copies_in core.descriptor lv lp) (copies_in_are core.descriptor lv lp may.flight.going.fitting.valid)

pub among_copies : (core : Core) (lv lp : ℕ) (device : Device) (p : Pp) → MayStartTransfer device core → is_among (copies_in core.descriptor lv lp) p ≡ true → IsPartitionOf core.descriptor p
among_copies core lv lp device p may is = among_all (IsPartitionOf core.descriptor) (copies_in core.descriptor lv lp) p is (all_copies core lv lp device may)

-- ---- where they lie

positive : (mib : ℕ) → IsTrue (is_size mib) → 1 ≤ mib
positive zero is = absurd (cc is)
positive (suc mib) is = omega arith

-- so many blocks of one track group lie within their partition
in_partition : (at count mib : ℕ) → 1 ≤ mib → at % 256 + count ≤ 256 → at % partition_blocks mib + count ≤ partition_blocks mib
in_partition at count mib some group =
    let below = mod_below at (2048 * mib) (omega (arith, some)) in
    let parts : at ≡ 2048 * mib * (at / (2048 * mib)) + at % (2048 * mib) = omega arith in
    let same = low (at % (2048 * mib)) (mib * (at / (2048 * mib))) at (parts ∙ grind (arith)) in
    omega (arith, below, same, group)
  where
    low : (x k at : ℕ) → at ≡ 2048 * k + x → x % 256 ≡ at % 256
    low x k at is = omega (arith, is)

fits : (blocks pp pps offset count : ℕ) → pp < pps → offset + count ≤ blocks → blocks * pp + offset + count ≤ blocks * pps
fits blocks pp zero offset count below within = absurd (omega (arith, below))
fits blocks zero (suc pps) offset count below within = omega (arith, within, grow)
  where
    grow : blocks ≤ blocks * suc pps
    grow = grind (arith)
fits blocks (suc pp) (suc pps) offset count below within = let rest = fits blocks pp pps offset count (omega (arith, below)) within in grind (arith, rest)

module _ (device : Device) (core : Core) (may : MayStartTransfer device core) where
  -- the member of a partition on a disk that wasn't missing when the session began
  pub record IsOn (p : Pp) : Type 0 where
    pub row : PvRow
    pub there : p.disk < length device.sizes
    pub size : (n : ℕ) → slice_get device.sizes p.disk ≡ Some n → sectors_needed core.descriptor.mib row.pps ≤ n
    pub within : p.pp < row.pps

  is_on : (p : Pp) → IsPartitionOf core.descriptor p → calls_missing core.origin.table p.disk ≡ false → IsOn p
  is_on p of there =
      let it = find-Some (λ (r : PvRow). r.disk == p.disk) core.descriptor.pvs of.0 of.1 in
      let same : of.0.disk ≡ p.disk = eqb-true of.0.disk p.disk it.0 in
      let placed = may.placed of.0 (it.1.0, it.1.1, it.1.2 of.0) (ap (calls_missing core.origin.table) same ∙ there) in
      record { row = of.0; there = subst (λ n. n < length device.sizes) same placed.there; size = λ n e. placed.within n (ap (slice_get device.sizes) same ∙ e); within = of.2 }

  -- what isn't missing now wasn't then
  pub was_there : (disk : ℕ) → is_missing core disk ≡ false → calls_missing core.origin.table disk ≡ false
  was_there disk there = by_test (calls_missing core.origin.table disk) refl
    where
      by_test : (b : Bool) → calls_missing core.origin.table disk ≡ b → calls_missing core.origin.table disk ≡ false
      by_test true is = absurd (let e : true ≡ false = sym (may.still disk is) ∙ there in cc e)
      by_test false is = is

  -- blocks of one track group, on the copy at this partition
  pub blocks_within : (p : Pp) (at count : ℕ) → IsPartitionOf core.descriptor p → calls_missing core.origin.table p.disk ≡ false → 1 ≤ count → at % 256 + count ≤ 256
      → IsRange device p.disk (sector_of core.descriptor.mib p.pp at) count
  blocks_within p at count of there some group =
      let on = is_on p of there in
      let inner = in_partition at count core.descriptor.mib (positive core.descriptor.mib may.flight.going.fitting.valid.head.size) group in
      let end = fits (partition_blocks core.descriptor.mib) p.pp on.row.pps (at % partition_blocks core.descriptor.mib) count on.within inner in
      record { there = on.there; some = some; most = omega (arith, group); within = λ n e. let size = on.size n e in omega (arith, size, end) }

  -- the note of its disk
  pub note_within : (p : Pp) → IsPartitionOf core.descriptor p → calls_missing core.origin.table p.disk ≡ false → IsRange device p.disk note_sector 1
  note_within p of there =
      let on = is_on p of there in
      record { there = on.there; some = omega arith; most = omega arith; within = λ n e. let size = on.size n e in omega (arith, size) }
