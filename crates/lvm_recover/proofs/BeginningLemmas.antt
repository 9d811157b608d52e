-- How recovery begins, and its transfers.
use Rattle.std.proofs.Common.{◌≡◌, inl, inr, ⊎_elim, ℕ, ◌+◌, ◌-◌, ◌*◌, ◌/◌, ◌%◌, ◌<◌, ◌≤◌, Bool, true, false, ◌&&◌, not, List, [], ◌∷◌, Some, None, refl, sym, ap, subst, ◌∙◌, arith}
use Rattle.std.specs.Prelude.{IsTrue, IsFalse, ◌==◌, if◌then◌else◌, nat_le, nat_lt, filter, find, slice_get, ◌||◌}
use Rattle.std.specs.List.{list_any}
use Rattle.std.proofs.lemmas.Bool.{eqb-true, cases_Bool}
use Rattle.std.proofs.lemmas.Bool.Decides.{nat_tests}
use Rattle.std.proofs.lemmas.Nat.{div-mul-add, mod-mul-add}
use Rattle.lvm_num.specs.declared.place.Pp.{Pp}
use Rattle.lvm_num.specs.declared.descriptor.Mode.{Mode}
use Rattle.lvm_num.specs.declared.descriptor.Mode.TheVariants.{Active, Passive, Off}
use Rattle.lvm_num.specs.declared.descriptor.PvRow.{PvRow}
use Rattle.lvm_num.specs.declared.descriptor.LvRow.{LvRow}
use Rattle.lvm_num.specs.declared.descriptor.Descriptor.{Descriptor}
use Rattle.lvm_num.specs.declared.status.Status.{Status}
use Rattle.lvm_num.specs.Buffer.{Sector}
use Rattle.lvm_num.specs.Disks.{Disks}
use Rattle.lvm_num.specs.Geometry.{partition_blocks, partition_of, track_group_of, sector_of}
use Rattle.lvm_num.specs.Descriptor.{IsPartitionOf, IsValid, copies_of, is_member, partitions_used}
use Rattle.lvm_num.specs.Record.{Stamped}
use Rattle.lvm_num.specs.Status.{calls_stale}
use Rattle.lvm_num.proofs.Booleans.{clash_gives, same_answer}
use Rattle.lvm_disk.specs.Device.{Flight, written}
use Rattle.lvm_kept.specs.Contents.{contents_of}
use Rattle.lvm_kept.proofs.PlacesLemmas.{blocks_are_sectors}
use Rattle.std.proofs.Math.Nat.{mod-lt}
use Rattle.lvm_kept.specs.Group.{is_stale_by, is_named, fresh_on, block_at, IsOneOf}
use Rattle.lvm_write.specs.Next.{IsLeftBehind, IsNextStatus}
use Rattle.lvm_even.proofs.Lists.{left_of, right_of, one_passes}
use Rattle.lvm_even.proofs.passed.Commit.{contains, of_map, of_rows}
use Rattle.lvm_even.proofs.Rows.{mib_positive, none_passing}
use Rattle.lvm_recover.specs.Recopied.{IsToEqual}
use Rattle.lvm_recover.specs.Beginning.{NextLeavesNone, UsableStay, TrackGroupIsPlanned, TrackGroupIsEqual}

-- ---- the next status

found_is_member : (rows : List PvRow) (d : ℕ) (row : PvRow) → find (λ (r : PvRow). r.disk == d) rows ≡ Some row → IsTrue (list_any (λ (r : PvRow). r.disk == d) rows)
found_is_member [] d row is = absurd cc
found_is_member (r ∷ rows) d row is = by (r.disk == d) (λ rest. found_is_member rows d row rest) is
  where
    by : (t : Bool) → (find (λ (r : PvRow). r.disk == d) rows ≡ Some row → IsTrue (list_any (λ (r : PvRow). r.disk == d) rows)) → (if t then Some r else find (λ (r : PvRow). r.disk == d) rows) ≡ Some row
        → IsTrue (t || list_any (λ (r : PvRow). r.disk == d) rows)
    by true further is = refl
    by false further is = further is

-- a copy stands on a member
on_member : (group : Descriptor) (row : LvRow) (lp : ℕ) (p : Pp) → IsValid group → IsOneOf group.lvs row → IsOneOf (copies_of row lp) p → IsTrue (is_member group p.disk)
on_member group row lp p valid one copy =
    let at = contains (partitions_used group) p (of_rows group.lvs row p one (of_map row lp p copy)) in
    let part : IsPartitionOf group p = subst (IsPartitionOf group) at.2 (valid.maps.places at.0 p at.1) in
    found_is_member group.pvs p.disk part.0 part.1

filter_same : {X : Type 0} (p q : X → Bool) (xs : List X) → ((x : X) → IsOneOf xs x → p x ≡ q x) → filter p xs ≡ filter q xs
filter_same p q [] same = refl
filter_same p q (x ∷ xs) same =
    let here = same x (inl refl) in
    let rest = filter_same p q xs (λ y one. same y (inr one)) in
    λ t. if here t then x ∷ rest t else rest t

module _ (group : Descriptor) (answering : Disks) (was next : Stamped Status) (valid : IsValid group) (is : IsNextStatus group answering was next.value) where
  -- on members that answer the marks are those that were
  same_marks : (row : LvRow) (lp : ℕ) (p : Pp) → IsOneOf group.lvs row → IsOneOf (copies_of row lp) p → IsTrue (answering p.disk) → calls_stale next.value p ≡ calls_stale was.value p
  same_marks row lp p one copy in_answering =
      let its = is.stale p (on_member group row lp p valid one copy) in
      same_answer (calls_stale next.value p) (calls_stale was.value p)
      (λ stale. ⊎_elim (λ was_so. was_so) (λ (left : IsLeftBehind group answering was p). clash_gives (answering p.disk) in_answering left.absent) (its.0 stale))
      (λ stale. its.1 (inl stale))

  pub usable_same : (row : LvRow) (lp : ℕ) → IsOneOf group.lvs row → fresh_on answering (Some next) row lp ≡ fresh_on answering (Some was) row lp
  usable_same row lp one = filter_same (λ (p : Pp). answering p.disk && not (is_stale_by (Some next) p)) (λ (p : Pp). answering p.disk && not (is_stale_by (Some was) p)) (copies_of row lp)
      (λ p copy. ⊎_elim
      (λ (yes : IsTrue (answering p.disk)). ap (λ (t : Bool). answering p.disk && not t) (same_marks row lp p one copy yes))
      (λ (none : IsFalse (answering p.disk)). ap (λ (t : Bool). t && not (is_stale_by (Some next) p)) none ∙ sym (ap (λ (t : Bool). t && not (is_stale_by (Some was) p)) none))
      (cases_Bool (answering p.disk)))

  pub leaves_none : (row : LvRow) (lp : ℕ) (p : Pp) → IsOneOf group.lvs row → lp < row.lps → IsOneOf (copies_of row lp) p → IsFalse (answering p.disk) → IsFalse (is_stale_by (Some next) p)
      → fresh_on answering (Some next) row lp ≡ []
  leaves_none row lp p one low copy gone fresh = elim (none_passing (λ (q : Pp). answering q.disk && not (is_stale_by (Some was) q)) (copies_of row lp)) [
    | inl none ↦ usable_same row lp one ∙ none
    | inr some ↦ absurd (clash_gives (calls_stale next.value p)
        ((is.stale p (on_member group row lp p valid one copy)).1 (inr (record {
          row = row;
          lp = lp;
          volume = one;
          inside = low;
          one = copy;
          absent = gone;
          other = one_passes (λ (q : Pp). answering q.disk && not (is_stale_by (Some was) q)) (copies_of row lp) some.0 some.1 some.2;
        })))
        fresh)
  ]

pub next_leaves_none : NextLeavesNone
next_leaves_none c group answering was next valid is row lp p one low copy member gone fresh = leaves_none group answering was next valid is row lp p one low copy gone fresh

pub usable_stay : UsableStay
usable_stay group answering was next row lp valid is one = usable_same group answering was next valid is row lp one

-- ---- a transfer

-- a block of a track group, by its place in it
pub record IsAt (mib g i : ℕ) : Type 0 where
  pub partition : partition_of mib (g * 256 + i) ≡ partition_of mib (g * 256)
  pub rest : (g * 256 + i) % partition_blocks mib ≡ (g * 256) % partition_blocks mib + i
  pub track_group : track_group_of (g * 256 + i) ≡ track_group_of (g * 256)

pub is_at : (mib g i : ℕ) → 1 ≤ mib → i < 256 → IsAt mib g i
is_at mib g i some low =
    let n : ℕ = 8 * mib in
    let q : ℕ = g / n in
    let r : ℕ = g % n in
    let parts : q * n + r ≡ g = grind (arith) in
    let small : r < n = grind (arith) in
    let whole : q * (2048 * mib) + (r * 256 + i) ≡ g * 256 + i = grind (arith) in
    let start : q * (2048 * mib) + r * 256 ≡ g * 256 = grind (arith) in
    let below : r * 256 + i < 2048 * mib = omega (arith, small, low) in
    let below_start : r * 256 < 2048 * mib = omega (arith, small) in
    record {
      partition = ap (λ (k : ℕ). k / (2048 * mib)) (sym whole) ∙ div-mul-add q (2048 * mib) (r * 256 + i) below ∙ sym (div-mul-add q (2048 * mib) (r * 256) below_start) ∙ ap (λ (k : ℕ). k / (2048 * mib)) start;
      rest = ap (λ (k : ℕ). k % (2048 * mib)) (sym whole) ∙ mod-mul-add q (2048 * mib) (r * 256 + i) below
          ∙ ap (λ (k : ℕ). k + i) (sym (mod-mul-add q (2048 * mib) (r * 256) below_start) ∙ ap (λ (k : ℕ). k % (2048 * mib)) start);
      track_group = div-mul-add g 256 i low ∙ sym (div-mul-add g 256 0 (omega arith)) ∙ ap (λ (k : ℕ). k / 256) (omega arith);
    }

-- what a flight writes
record IsWrittenAt (f : Flight) (d s : ℕ) (value : Sector) : Type 0 where
  disk : f.disk ≡ d
  low : f.first ≤ s
  high : s < f.first + f.count
  bytes : slice_get f.buf.sectors (s - f.first) ≡ Some value

written_at : (f : Flight) (d s : ℕ) (value : Sector) → written f d s ≡ Some value → IsWrittenAt f d s value
written_at f d s value is = by (f.write && (f.disk == d) && nat_le f.first s && nat_lt s (f.first + f.count)) refl is
  where
    by : (t : Bool) → (f.write && (f.disk == d) && nat_le f.first s && nat_lt s (f.first + f.count)) ≡ t → (if t then slice_get f.buf.sectors (s - f.first) else None) ≡ Some value → IsWrittenAt f d s value
    by true tests is =
        let a = left_of (f.write && (f.disk == d) && nat_le f.first s) (nat_lt s (f.first + f.count)) tests in
        let high = right_of (f.write && (f.disk == d) && nat_le f.first s) (nat_lt s (f.first + f.count)) tests in
        let b = left_of (f.write && (f.disk == d)) (nat_le f.first s) a in
        let low = right_of (f.write && (f.disk == d)) (nat_le f.first s) a in
        record {
          disk = eqb-true f.disk d (right_of f.write (f.disk == d) b);
          low = grind (arith, nat_tests);
          high = grind (arith, nat_tests);
          bytes = is;
        }
    by false tests is = absurd cc

pub track_group_is_planned : TrackGroupIsPlanned
track_group_is_planned old group status there row lp g first copy others f valid is d s value writes =
    let at = written_at f d s value writes in
    let i : ℕ = s - f.first in
    let count = is.count in
    let low : i < 256 = omega (arith, at.low, at.high, count) in
    let in_group = is_at group.mib g i (mib_positive group valid) low in
    let place = is.place in
    let rest = in_group.rest in
    record {
      row = row;
      lp = lp;
      block = g * 256 + i;
      volume = is.volume;
      made = made (g * 256 + i) (g * 256) row.mode in_group.track_group is.made;
      inside = record { inside = is.inside.inside; partition = in_group.partition ∙ is.inside.partition };
      first = first;
      others = others;
      usable = is.usable;
      copy = copy;
      one = is.one;
      disk = sym is.disk ∙ at.disk;
      sector = omega (arith, place, rest, at.low);
      value_is = some_value value (block_at old group.mib first (g * 256 + i)) (sym at.bytes ∙ is.bytes i low);
    }
  where
    some_value : (a b : Sector) → Some a ≡ Some b → a ≡ b
    some_value a b e = cc

    made : (n m : ℕ) (mode : Mode) → track_group_of n ≡ track_group_of m → IsToEqual old status there mode row.number m → IsToEqual old status there mode row.number n
    made n m Active same named = (named.0, named.1, ap (λ (t : ℕ). is_named old named.0 row.number t) same ∙ named.2)
    made n m Passive same dirty = dirty
    made n m Off same none = none

pub track_group_is_equal : TrackGroupIsEqual
track_group_is_equal old group status there row lp g first copy others f image valid is stands b same =
    let i : ℕ = b % 256 in
    let low : i < 256 = mod-lt b (omega arith) in
    let whole : g * 256 + i ≡ b = grind (arith, same) in
    let in_group = is_at group.mib g i (mib_positive group valid) low in
    let rest = in_group.rest in
    let place = is.place in
    let at : sector_of group.mib copy.pp (g * 256 + i) ≡ f.first + i = omega (arith, place, rest) in
    subst (λ (n : ℕ). block_at (contents_of image) group.mib copy n ≡ block_at old group.mib first n) whole
    (blocks_are_sectors image group.mib (g * 256 + i) copy
    ∙ ap (λ (s : ℕ). image.sector copy.disk s) at
    ∙ ap (λ (d : ℕ). image.sector d (f.first + i)) (sym is.disk)
    ∙ some_value (image.sector f.disk (f.first + i)) (block_at old group.mib first (g * 256 + i)) (sym (stands i low) ∙ is.bytes i low))
  where
    some_value : (a b : Sector) → Some a ≡ Some b → a ≡ b
    some_value a b e = cc
