-- The places of a volume's blocks.
use Rattle.std.proofs.Common.{◌≡◌, inl, inr, ℕ, zero, suc, ◌+◌, ◌-◌, ◌*◌, ◌<◌, ◌≤◌, Bool, true, false, cond, ◌&&◌, ◌||◌, List, [], ◌∷◌, length, get_or, drop, Option, Some, None, refl, sym, ap, subst, ◌∙◌, arith, rules, mul_comm}
use Rattle.std.specs.Prelude.{◌==◌, All, IsTrue, find, slice_get, option_map, option_and_then}
use Rattle.std.proofs.lemmas.Option.{slice_get-get_or, slice_get_past}
use Rattle.std.proofs.lemmas.Bool.{eqb-true, cases_lt, cases_eq}
use Rattle.std.proofs.lemmas.Bool.Decides.{nat_tests}
use Rattle.std.proofs.lemmas.List.{get_or-take, get_or-drop, length-take, length-drop, drop_all}
use Rattle.std.proofs.lemmas.List.Folds.{list_any-append, list_any_at}
use Rattle.std.proofs.lemmas.Nat.{mul-add-lt}
use Rattle.std.proofs.Math.Nat.{mul-le-mul_right}
use Rattle.lvm_num.specs.declared.place.Pp.{Pp}
use Rattle.lvm_num.specs.declared.descriptor.LvRow.{LvRow}
use Rattle.lvm_num.specs.declared.descriptor.Descriptor.{Descriptor}
use Rattle.lvm_num.specs.Geometry.{partition_of, volume_blocks}
use Rattle.lvm_num.specs.Descriptor.{IsLaidOut, IsValid, copies_of, is_size, partitions_in, partitions_used, volume_of}
use Rattle.lvm_num.proofs.MarksLemmas.Maps.{find-Some}
use Rattle.lvm_map.specs.FirstFit.{is_among}
use Rattle.lvm_map.specs.Places.{copy_at, place_on, place_of, IsBlockOfCopy}
use Rattle.lvm_map.proofs.FirstFitLemmas.FreeLists.{is_pp-same}

-- ---- a valid descriptor

size_positive : (mib : ℕ) → is_size mib ≡ true → 1 ≤ mib
size_positive zero is = absurd cc
size_positive (suc mib) is = omega arith

pub mib_positive : (d : Descriptor) → IsValid d → 1 ≤ d.mib
mib_positive d valid = size_positive d.mib (search (rules, valid.head.size))

-- what a search among its rows finds
pub volume_is : (d : Descriptor) (lv : ℕ) (rows : List LvRow) (row : LvRow) → Some row ≡ find (λ (r : LvRow). r.number == lv) rows → rows ≡ d.lvs → volume_of d lv ≡ Some row
volume_is d lv rows row is same = sym (subst (λ (rs : List LvRow). Some row ≡ find (λ (r : LvRow). r.number == lv) rs) same is)

-- where the volume of a number stands
pub record IsVolumeAt (d : Descriptor) (lv : ℕ) (row : LvRow) : Type 0 where
  pub place : ℕ
  pub within : place < length d.lvs
  pub there : (e : LvRow) → get_or d.lvs place e ≡ row
  pub its : row.number ≡ lv

pub volume_at : (d : Descriptor) (lv : ℕ) (row : LvRow) → volume_of d lv ≡ Some row → IsVolumeAt d lv row
volume_at d lv row is =
    let found = find-Some (λ (r : LvRow). r.number == lv) d.lvs row is in
    record { place = found.1.0; within = found.1.1; there = found.1.2; its = eqb-true row.number lv found.0 }

pub laid_out : (d : Descriptor) (lv : ℕ) (row : LvRow) → IsValid d → volume_of d lv ≡ Some row → IsLaidOut row
laid_out d lv row valid is =
    let at = volume_at d lv row is in
    subst IsLaidOut (at.there row) (valid.maps.laid_out at.place row at.within)

-- ---- a copy of a logical partition

pub lp_below : (mib lps block : ℕ) → 1 ≤ mib → block < volume_blocks mib lps → partition_of mib block < lps
lp_below mib lps block some lt = grind (arith)

pub block_below : (mib lps block : ℕ) → 1 ≤ mib → partition_of mib block < lps → block < volume_blocks mib lps
block_below mib lps block some lt = grind (arith)

pub lp_past : (mib lps block : ℕ) → 1 ≤ mib → volume_blocks mib lps ≤ block → lps ≤ partition_of mib block
lp_past mib lps block some le = grind (arith)

pub index_below : (row : LvRow) (lp copy : ℕ) → length row.map ≡ row.lps * row.copies → lp < row.lps → 1 ≤ copy → copy ≤ row.copies
    → lp * row.copies + (copy - 1) < length row.map
index_below row lp copy whole lt first last = omega (arith, mul-add-lt lp row.copies (copy - 1) row.lps lt (omega arith), mul_comm)

pub copy_there : (row : LvRow) (lp copy : ℕ) (e : Pp) → length row.map ≡ row.lps * row.copies → lp < row.lps → 1 ≤ copy → copy ≤ row.copies
    → copy_at row lp copy ≡ Some (get_or row.map (lp * row.copies + (copy - 1)) e)
copy_there row lp copy e whole lt first last =
    let some : copy == 0 ≡ false = grind (arith, nat_tests) in
    let below = index_below row lp copy whole lt first last in
    let rest = length-drop (lp * row.copies) row.map in
    let size = length-take row.copies (drop (lp * row.copies) row.map) in
    ap (λ b. cond b None (slice_get (copies_of row lp) (copy - 1))) some
    ∙ slice_get-get_or (copies_of row lp) (copy - 1) e (omega arith)
    ∙ ap (λ (pp : Pp). Some pp) (get_or-take row.copies (drop (lp * row.copies) row.map) (copy - 1) e (omega arith) ∙ get_or-drop (lp * row.copies) row.map (copy - 1) e)

pub no_copy : (row : LvRow) (lp copy : ℕ) → row.copies < copy → copy_at row lp copy ≡ None
no_copy row lp copy more =
    let some : copy == 0 ≡ false = grind (arith, nat_tests) in
    let size = length-take row.copies (drop (lp * row.copies) row.map) in
    ap (λ b. cond b None (slice_get (copies_of row lp) (copy - 1))) some ∙ slice_get_past (copies_of row lp) (copy - 1) (omega arith)

pub no_partition : (row : LvRow) (lp copy : ℕ) → length row.map ≡ row.lps * row.copies → row.lps ≤ lp → copy_at row lp copy ≡ None
no_partition row lp copy whole more = by_copy (copy == 0)
  where
    none : drop (lp * row.copies) row.map ≡ []
    none = drop_all (lp * row.copies) row.map (omega (arith, mul-le-mul_right row.copies more))

    by_copy : (b : Bool) → cond b None (slice_get (copies_of row lp) (copy - 1)) ≡ None
    by_copy true = refl
    by_copy false = slice_get_past (copies_of row lp) (copy - 1) (omega (arith, length-take row.copies (drop (lp * row.copies) row.map), ap (λ (pps : List Pp). length pps) none))

-- ---- a place

pub place-is : (d : Descriptor) (lv copy block : ℕ) (row : LvRow) (pp : Option Pp) → volume_of d lv ≡ Some row → copy_at row (partition_of d.mib block) copy ≡ pp
    → place_of d lv copy block ≡ option_map (λ (it : Pp). place_on d.mib it block) pp
place-is d lv copy block row pp is at =
    ap (option_and_then (λ (r : LvRow). option_map (λ (it : Pp). place_on d.mib it block) (copy_at r (partition_of d.mib block) copy))) is
    ∙ ap (option_map (λ (it : Pp). place_on d.mib it block)) at

-- a copy that is there
pub record IsCopy (row : LvRow) (lp copy : ℕ) : Type 0 where
  pub some : 1 ≤ copy
  pub last : copy ≤ row.copies
  pub within : lp < row.lps

pub copy_is : (row : LvRow) (lp copy : ℕ) (pp : Pp) → length row.map ≡ row.lps * row.copies → copy_at row lp copy ≡ Some pp → IsCopy row lp copy
copy_is row lp copy pp whole is = elim (cases_lt lp row.lps) [
  | inr past_end ↦ let none = no_partition row lp copy whole past_end in absurd cc
  | inl within ↦ elim (cases_lt row.copies copy) [
    | inl more ↦ let none = no_copy row lp copy more in absurd cc
    | inr last ↦ elim (cases_eq copy 0) [
      | inl zero_is ↦ let none : copy_at row lp copy ≡ None = ap (copy_at row lp) zero_is in absurd cc
      | inr some ↦ record { some = omega arith; last = last; within = within }
    ]
  ]
]

-- and so is its block
pub block_is : (d : Descriptor) (lv copy block : ℕ) (row : LvRow) (pp : Pp) → IsValid d → volume_of d lv ≡ Some row → copy_at row (partition_of d.mib block) copy ≡ Some pp
    → IsBlockOfCopy d lv copy block
block_is d lv copy block row pp valid is at =
    let there = copy_is row (partition_of d.mib block) copy pp (laid_out d lv row valid is).whole at in
    record {
      row = row;
      volume = is;
      first = there.some;
      last = there.last;
      within = block_below d.mib row.lps block (mib_positive d valid) there.within;
    }

pub no_block : (d : Descriptor) (lv copy block : ℕ) (row : LvRow) → IsValid d → volume_of d lv ≡ Some row → copy_at row (partition_of d.mib block) copy ≡ None
    → IsBlockOfCopy d lv copy block → ⊥
no_block d lv copy block row valid is at there =
    let same : there.row ≡ row = cc in
    let copies = ap (λ (r : LvRow). r.copies) same in
    let lps = ap (λ (r : LvRow). r.lps) same in
    let below : block < volume_blocks d.mib row.lps = subst (λ n. block < volume_blocks d.mib n) lps there.within in
    let pp : Pp = record { disk = 0; pp = 0 } in
    let some = copy_there row (partition_of d.mib block) copy pp (laid_out d lv row valid is).whole (lp_below d.mib row.lps block (mib_positive d valid) below) there.first (omega (arith, there.last)) in
    absurd cc

-- ---- the partitions of a volume are used

its_used : (number : ℕ) (rows : List LvRow) (row : LvRow) → find (λ (r : LvRow). r.number == number) rows ≡ Some row
    → (k : ℕ) (e : Pp) → k < length row.map → is_among (partitions_in rows) (get_or row.map k e) ≡ true
its_used number [] row is k e lt = absurd cc
its_used number (first ∷ rows) row is k e lt = by_test (its_used number rows row) (first.number == number) is
  where
    split : is_among (partitions_in (first ∷ rows)) (get_or row.map k e) ≡ is_among first.map (get_or row.map k e) || is_among (partitions_in rows) (get_or row.map k e)
    split = list_any-append (λ (p : Pp). p.disk == (get_or row.map k e).disk && p.pp == (get_or row.map k e).pp) first.map (partitions_in rows)

    or_true : (a b : Bool) → b ≡ true → a || b ≡ true
    or_true true b its = refl
    or_true false b its = its

    by_test : (find (λ (r : LvRow). r.number == number) rows ≡ Some row → (k : ℕ) (e : Pp) → k < length row.map → is_among (partitions_in rows) (get_or row.map k e) ≡ true)
        → (b : Bool) → cond b (Some first) (find (λ (r : LvRow). r.number == number) rows) ≡ Some row → is_among (partitions_in (first ∷ rows)) (get_or row.map k e) ≡ true
    by_test rest true here =
        let same : row ≡ first = cc in
        let own : is_among row.map (get_or row.map k e) ≡ true =
        list_any_at (λ (p : Pp). p.disk == (get_or row.map k e).disk && p.pp == (get_or row.map k e).pp) row.map k e lt (is_pp-same (get_or row.map k e) (get_or row.map k e) refl) in
        split ∙ ap (λ b. b || is_among (partitions_in rows) (get_or row.map k e)) (ap (λ (r : LvRow). is_among r.map (get_or row.map k e)) (sym same) ∙ own)
    by_test rest false later = split ∙ or_true (is_among first.map (get_or row.map k e)) (is_among (partitions_in rows) (get_or row.map k e)) (rest later k e lt)

pub volume_used : (d : Descriptor) (lv : ℕ) (row : LvRow) → volume_of d lv ≡ Some row → All (λ (pp : Pp). IsTrue (is_among (partitions_used d) pp)) row.map
volume_used d lv row is k e lt = search (rules, its_used lv d.lvs row is k e lt)
