-- A survey of disks one after the other.
use Rattle.std.proofs.Common.{◌≡◌, inl, inr, ◌≤◌, ◌+◌, ◌++◌, [], ◌∷◌, ℕ, List, Option, Some, IfSome, length, slice_get, refl, sym, ◌∙◌, subst, arith}
use Rattle.std.proofs.lemmas.Option.{slice_get_within}
use Rattle.std.proofs.lemmas.List.{length-append}
use Rattle.lvm_quorum.specs.passed.Transfer.{Rose, Media, Device, IsReady, image_of, DeviceStep, Path, Stop, IsUntouched, OnlyReads, IsRested, StopGives}
use Rattle.lvm_quorum.proofs.passed.Disk.{append-path, map-path}
use Rattle.lvm_quorum.proofs.passed.Transfer.{only_none, untouched_none, rested_none, only_more, untouched_more, rested_more, stop_more}
use Rattle.lvm_quorum.specs.declared.row.SurveyRow.{SurveyRow}
use Rattle.lvm_quorum.specs.Surveyed.{IsRead}
use Rattle.lvm_quorum.specs.Surveying.{IsSmall, IsSurveyed}
use Rattle.lvm_quorum.proofs.SurveyedLemmas.DiskRows.{got_one_more}

-- the disks below so many have their rows, and no other was read
pub record Rows (n a b number : ℕ) (old now : Device) (rows : List SurveyRow) (back : ℕ) : Type 0 where
  pub only : OnlyReads a b old now
  pub rested : IsRested old now
  pub back_is : back ≡ number
  pub count : length rows ≡ n
  pub each : (d : ℕ) (row : SurveyRow) → slice_get rows d ≡ Some row → IsSurveyed old now d row
  pub behind : (d : ℕ) → n ≤ d → IsUntouched d old now
  pub small : (d : ℕ) → IsSmall old d → IsUntouched d old now

pub no_rows : (a number : ℕ) (old : Device) → IsReady old → Rows 0 a a number old old [] number
no_rows a number old ready = record {
  only = only_none a old;
  rested = rested_none old ready;
  back_is = refl;
  count = refl;
  each = λ d row is. absurd (cc (is));
  behind = λ d behind. untouched_none d old;
  small = λ d small. untouched_none d old;
}

-- ---- one disk more

-- the steps of reads
steps_of : (a b : ℕ) (old new : Device) → OnlyReads a b old new → Path DeviceStep (λ device. Unit {0}) old new
steps_of a b old new only = map-path (λ device. Unit {0}) (λ device leaves. tt) only.moments

-- a row of a disk that the reads since haven't touched
kept_row : (old mid new : Device) (d : ℕ) (row : SurveyRow) → Path DeviceStep (λ device. Unit {0}) mid new → IsUntouched d mid new → IsSurveyed old mid d row → IsSurveyed old new d row
kept_row old mid new d row path same is = record {
  disk_is = is.disk_is;
  sectors = is.sectors;
  valid = is.valid;
  homes = is.homes;
  failed = λ f. subst (λ n. Rose (old.counts.misses d) n) (sym same.misses) (is.failed f);
  answered = λ f. same.misses ∙ is.answered f;
  read = is.read;
  whole = λ f large. let it = is.whole f large in record { begun = it.begun; done = it.done; before = it.before; reads = it.reads; after = append-path it.after path };
  empty = is.empty;
}

-- the row of a disk that no read touched before
fresh_row : (old mid new : Device) (d : ℕ) (row : SurveyRow) → Path DeviceStep (λ device. Unit {0}) old mid → mid.sizes ≡ old.sizes → mid.media ≡ old.media → IsUntouched d old mid → IsSurveyed mid new d row → IsSurveyed old new d row
fresh_row old mid new d row path sizes media same is = record {
  disk_is = is.disk_is;
  sectors = subst (λ (l : List ℕ). slice_get l d ≡ Some row.sectors) sizes is.sectors;
  valid = is.valid;
  homes = is.homes;
  failed = λ f. subst (λ n. Rose n (new.counts.misses d)) same.misses (is.failed f);
  answered = λ f. is.answered f ∙ same.misses;
  read = λ f. subst (λ (l : List ℕ). IfSome old.media (λ m. IsRead (image_of l m) d row)) sizes (subst (λ (o : Option Media). IfSome o (λ m. IsRead (image_of mid.sizes m) d row)) media (is.read f));
  whole = λ f large. let it = is.whole f (λ small. large (subst (λ (l : List ℕ). IsSmall (record old { sizes = l }) d) sizes small)) in record { begun = it.begun; done = it.done; before = append-path path it.before; reads = it.reads; after = it.after };
  empty = is.empty;
}

module _ (n a b c number : ℕ) (old mid new : Device) (rows : List SurveyRow) (back : ℕ) (so_far : Rows n a b number old mid rows back) where
  module _ (only : OnlyReads b c mid new) (elsewhere : (d : ℕ) → (d ≡ n → IsSmall mid d) → IsUntouched d mid new) where
    pub rows_only : OnlyReads a c old new
    rows_only = only_more a b c old mid new so_far.only only

    small_here : (d : ℕ) → IsSmall old d → IsSmall mid d
    small_here d small = subst (λ (l : List ℕ). IsSmall (record mid { sizes = l }) d) (sym so_far.only.unwritten.sizes) small

    pub rows_small : (d : ℕ) → IsSmall old d → IsUntouched d old new
    rows_small d small = untouched_more d old mid new (so_far.small d small) (elsewhere d (λ same. small_here d small))

    pub rows_more : (row : SurveyRow) (free : ℕ) → IsRested mid new → IsSurveyed mid new n row → free ≡ back → Rows (n + 1) a c number old new (rows ++ row ∷ []) free
    rows_more row free rested is same = record {
      only = rows_only;
      rested = rested_more old mid new so_far.rested rested;
      back_is = same ∙ so_far.back_is;
      count = omega (arith, length-append rows (row ∷ []), so_far.count);
      each = λ d other got. elim (got_one_more rows row d other got) [
        | inl before ↦
            let less = slice_get_within rows d other before in
            kept_row old mid new d other (steps_of b c mid new only) (elsewhere d (λ here. absurd (omega (arith, less, so_far.count)))) (so_far.each d other before)
        | inr (here, it) ↦
            let place : n ≡ d = omega (arith, here, so_far.count) in
            let fresh : IsSurveyed old new n row = fresh_row old mid new n row (steps_of a b old mid so_far.only) so_far.only.unwritten.sizes so_far.only.unwritten.media (so_far.behind n (omega arith)) is in
            subst (λ (r : SurveyRow). IsSurveyed old new d r) it (subst (λ k. IsSurveyed old new k row) place fresh)
      ];
      behind = λ d behind. untouched_more d old mid new (so_far.behind d (omega arith)) (elsewhere d (λ here. absurd (omega arith)));
      small = rows_small;
    }

  -- what is left out after a stop
  pub rows_stop : (how : Stop) → StopGives back b mid new how → StopGives number a old new how
  rows_stop how gives = subst (λ k. StopGives k a old new how) so_far.back_is (stop_more back a b old mid new how so_far.only so_far.rested gives)
