-- A partition is a copy of one logical partition.
use Rattle.std.proofs.Common.{◌≡◌, ◌==◌, ◌<◌, ◌+◌, ◌-◌, ◌*◌, ◌%◌, ℕ, zero, suc, Bool, true, false, ◌&&◌, ◌||◌, List, [], ◌∷◌, Option, Some, None, slice_get, if◌then◌else◌, refl, sym, ◌∙◌, ap, arith}
use Rattle.std.specs.Prelude.{option_and_then, option_map}
use Rattle.std.specs.Option.{option_map_or}
use Rattle.std.proofs.lemmas.Bool.{eqb-true}
use Rattle.lvm_num.specs.declared.place.Pp.{Pp}
use Rattle.lvm_num.specs.declared.place.Place.{Place}
use Rattle.lvm_num.specs.declared.descriptor.Descriptor.{Descriptor}
use Rattle.lvm_num.specs.declared.descriptor.LvRow.{LvRow}
use Rattle.lvm_num.specs.Descriptor.{IsValid, copies_of, volume_of}
use Rattle.lvm_num.specs.Geometry.{partition_blocks, partition_of}
use Rattle.lvm_num.proofs.Booleans.{not_so}
use Rattle.lvm_map.specs.Places.{copy_at, place_of, place_on}
use Rattle.lvm_map.proofs.LawsLemmas.OneToOne.{is_same}
use Rattle.lvm_map.proofs.Parts.{parts, same_parts}
use Rattle.lvm_map.proofs.PlacesLemmas.{mib_positive}
use Rattle.lvm_session.specs.Judging.{copies_in}
use Rattle.lvm_session.specs.Marks.{is_among}

-- it stands among them at some place
pub among_at : (ps : List Pp) (p : Pp) → is_among ps p ≡ true → (k : ℕ) × (slice_get ps k ≡ Some p)
among_at [] p is = not_so is
among_at (q ∷ ps) p is = by (p.disk == q.disk) (p.pp == q.pp) refl refl (λ e. among_at ps p e) is
  where
    by : (a b : Bool) → (p.disk == q.disk) ≡ a → (p.pp == q.pp) ≡ b → (is_among ps p ≡ true → (k : ℕ) × (slice_get ps k ≡ Some p)) → (a && b) || is_among ps p ≡ true → (k : ℕ) × (slice_get (q ∷ ps) k ≡ Some p)
    by true true one two rest e = (zero, ap (λ (x : Pp). Some x) (ap (λ d. record { disk = d; pp = q.pp }) (sym (eqb-true p.disk q.disk one)) ∙ ap (λ n. record { disk = p.disk; pp = n }) (sym (eqb-true p.pp q.pp two))))
    by true false one two rest e = let later = rest e in (suc later.0, later.1)
    by false b one two rest e = let later = rest e in (suc later.0, later.1)

module _ (d : Descriptor) (valid : IsValid d) where
  some_size : 0 < partition_blocks d.mib
  some_size = let some = mib_positive d valid in omega (arith, some)

  -- the first block of a logical partition
  first_of : (lp : ℕ) → (partition_of d.mib (lp * partition_blocks d.mib) ≡ lp) × ((lp * partition_blocks d.mib) % partition_blocks d.mib ≡ 0)
  first_of lp = parts (partition_blocks d.mib) (lp * partition_blocks d.mib) lp 0 some_size (omega arith)

  abbrev first_place : Pp → Place
  first_place p = record { disk = p.disk; sector = 4096 + partition_blocks d.mib * p.pp + 0 }

  placed : (lv lp : ℕ) (p : Pp) (k : ℕ) → slice_get (copies_in d lv lp) k ≡ Some p → place_of d lv (k + 1) (lp * partition_blocks d.mib) ≡ Some (first_place p)
  placed lv lp p k there = by (volume_of d lv) refl there
    where
      second : (b : Bool) (n : ℕ) → ((k + 1) == 0) ≡ b → b ≡ false
      second false n is = refl
      second true n is = let same = eqb-true (k + 1) 0 is in absurd (omega (arith, same))

      its_copy : (row : LvRow) → slice_get (copies_of row lp) k ≡ Some p → copy_at row (partition_of d.mib (lp * partition_blocks d.mib)) (k + 1) ≡ Some p
      its_copy row at =
          ap (λ n. copy_at row n (k + 1)) (first_of lp).0
          ∙ ap (λ b. if b then None else slice_get (copies_of row lp) (k + 1 - 1)) (second ((k + 1) == 0) 0 refl)
          ∙ (let same : k + 1 - 1 ≡ k = omega arith in ap (slice_get (copies_of row lp)) same) ∙ at

      its_place : place_on d.mib p (lp * partition_blocks d.mib) ≡ first_place p
      its_place = ap (λ n. record { disk = p.disk; sector = 4096 + partition_blocks d.mib * p.pp + n }) (first_of lp).1

      by : (m : Option LvRow) → volume_of d lv ≡ m → slice_get (option_map_or (λ (row : LvRow). copies_of row lp) m []) k ≡ Some p → place_of d lv (k + 1) (lp * partition_blocks d.mib) ≡ Some (first_place p)
      by None is at = absurd (cc at)
      by (Some row) is at =
          ap (λ m. option_and_then (λ (r : LvRow). option_map (λ (q : Pp). place_on d.mib q (lp * partition_blocks d.mib)) (copy_at r (partition_of d.mib (lp * partition_blocks d.mib)) (k + 1))) m) is
          ∙ ap (λ m. option_map (λ (q : Pp). place_on d.mib q (lp * partition_blocks d.mib)) m) (its_copy row at) ∙ ap (λ (x : Place). Some x) its_place

  pub one_lp : (lv lp other_lv other_lp : ℕ) (p : Pp) → is_among (copies_in d lv lp) p ≡ true → is_among (copies_in d other_lv other_lp) p ≡ true → (lv ≡ other_lv) × (lp ≡ other_lp)
  one_lp lv lp other_lv other_lp p one two =
      let a = among_at (copies_in d lv lp) p one in
      let b = among_at (copies_in d other_lv other_lp) p two in
      let same = is_same d valid lv (a.0 + 1) (lp * partition_blocks d.mib) other_lv (b.0 + 1) (other_lp * partition_blocks d.mib) (first_place p) (placed lv lp p a.0 a.1) (placed other_lv other_lp p b.0 b.1) in
      let blocks = same.same_block in
      (same.same_volume, (same_parts (partition_blocks d.mib) lp other_lp 0 0 some_size some_size (omega (arith, blocks))).0)
