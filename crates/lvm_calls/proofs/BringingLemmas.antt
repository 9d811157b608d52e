-- What is marked and what ends at a review, put together from its steps.
use Rattle.std.proofs.Common.{◌≡◌, ◌==◌, ◌<◌, ◌+◌, ℕ, Bool, true, false, not, List, [], ◌∷◌, Some, length, get_or, take, refl, sym, ◌∙◌, ap, subst, arith, if◌then◌else◌}
use Rattle.std.specs.Prelude.{◌&&◌, ◌||◌, All, filter, find, is_none}
use Rattle.std.specs.List.{list_any}
use Rattle.std.proofs.lemmas.Bool.{ne_eqb}
use Rattle.std.proofs.lemmas.List.Concat.{get_or-flat_map}
use Rattle.std.proofs.lemmas.List.Folds.{length-flat_map-take}
use Rattle.lvm_num.specs.declared.place.Pp.{Pp}
use Rattle.lvm_num.specs.declared.descriptor.LvRow.{LvRow}
use Rattle.lvm_num.specs.declared.descriptor.PvRow.{PvRow}
use Rattle.lvm_num.specs.declared.descriptor.Descriptor.{Descriptor}
use Rattle.lvm_num.specs.declared.status.Status.{Status}
use Rattle.lvm_num.specs.Descriptor.{IsPartitionOf, IsValid, partitions_in}
use Rattle.lvm_num.specs.Disks.{has}
use Rattle.lvm_status.specs.Calls.{IsMarkable}
use Rattle.lvm_status.specs.Members.{HasItsRows}
use Rattle.lvm_calls.proofs.passed.Due.{copies_in_are, place_of}
use Rattle.lvm_session.specs.declared.bringing.CopyEnd.TheVariants as ending
use Rattle.lvm_session.specs.declared.bringing.OpenCopy.{OpenCopy}
use Rattle.lvm_session.specs.State.{Core}
use Rattle.lvm_session.specs.Judging.{copies_in}
use Rattle.lvm_session.specs.Bringing.{end_by_sources, ends_if, is_idle, next_source}
use Rattle.lvm_calls.specs.Reviewing.{is_other, is_untried}

-- what holds of all elements of all pieces holds of those of one piece
pub all_at : (P : Pp → Type 0) (rows : List LvRow) (i : ℕ) (d : LvRow) → i < length rows → All P (partitions_in rows) → All P (get_or rows i d).map
all_at P rows i d lt all k e less = subst P (get_or-flat_map (λ (row : LvRow). row.map) rows i k d e lt less)
    (all (length (partitions_in (take i rows)) + k) e (let most = length-flat_map-take (λ (row : LvRow). row.map) rows i d lt in omega (arith, most, less)))

-- the partitions of members can be marked
pub markable : (d : Descriptor) (s : Status) (p : Pp) → IsValid d → HasItsRows d s → IsPartitionOf d p → IsMarkable s p
markable d s p valid rows of = record { row = rows p.disk ∙ any_found d.pvs of.0 of.1; partition = (place_of d p valid of).partition }
  where
    any_found : (pvs : List PvRow) (row : PvRow) → find (λ (r : PvRow). r.disk == p.disk) pvs ≡ Some row → list_any (λ (r : PvRow). r.disk == p.disk) pvs ≡ true
    any_found [] row is = absurd (cc is)
    any_found (r ∷ pvs) row is = by_test (r.disk == p.disk) is (any_found pvs row)
      where
        by_test : (b : Bool) → (if b then Some r else find (λ (x : PvRow). x.disk == p.disk) pvs) ≡ Some row
            → (find (λ (x : PvRow). x.disk == p.disk) pvs ≡ Some row → list_any (λ (x : PvRow). x.disk == p.disk) pvs ≡ true) → (b || list_any (λ (x : PvRow). x.disk == p.disk) pvs) ≡ true
        by_test true is rest = refl
        by_test false is rest = rest is

-- ---- sources

pub disks_within : (d : Descriptor) (lv lp : ℕ) → IsValid d → All (λ (p : Pp). p.disk < 128) (copies_in d lv lp)
disks_within d lv lp valid k e less = (place_of d (get_or (copies_in d lv lp) k e) valid (copies_in_are d lv lp valid k e less)).disk

none_kept : (f : Pp → Bool) (ps : List Pp) → (length (filter f ps) == 0) ≡ not (list_any f ps)
none_kept f [] = refl
none_kept f (p ∷ ps) = by_test (f p) (none_kept f ps)
  where
    by_test : (b : Bool) → (length (filter f ps) == 0) ≡ not (list_any f ps) → (length (if b then p ∷ filter f ps else filter f ps) == 0) ≡ not (b || list_any f ps)
    by_test true rest = ne_eqb (length (p ∷ filter f ps)) 0 (λ e. omega (arith, e))
    by_test false rest = rest

none_found : (f g : Pp → Bool) (ps : List Pp) → is_none (find g (filter f ps)) ≡ not (list_any (λ (p : Pp). f p && g p) ps)
none_found f g [] = refl
none_found f g (p ∷ ps) = by_tests (f p) (g p) refl refl (none_found f g ps)
  where
    by_tests : (a b : Bool) → f p ≡ a → g p ≡ b → is_none (find g (filter f ps)) ≡ not (list_any (λ (q : Pp). f q && g q) ps)
        → is_none (find g (filter f (p ∷ ps))) ≡ not (list_any (λ (q : Pp). f q && g q) (p ∷ ps))
    by_tests true true kept found rest =
        ap (λ (t : Bool). is_none (find g (if t then p ∷ filter f ps else filter f ps))) kept
        ∙ ap (λ (t : Bool). is_none (if t then Some p else find g (filter f ps))) found
        ∙ sym (ap (λ (t : Bool). not (t && g p || list_any (λ (q : Pp). f q && g q) ps)) kept ∙ ap (λ (t : Bool). not (t || list_any (λ (q : Pp). f q && g q) ps)) found)
    by_tests true false kept found rest =
        ap (λ (t : Bool). is_none (find g (if t then p ∷ filter f ps else filter f ps))) kept
        ∙ ap (λ (t : Bool). is_none (if t then Some p else find g (filter f ps))) found
        ∙ rest
        ∙ sym (ap (λ (t : Bool). not (t && g p || list_any (λ (q : Pp). f q && g q) ps)) kept ∙ ap (λ (t : Bool). not (t || list_any (λ (q : Pp). f q && g q) ps)) found)
    by_tests false b kept found rest =
        ap (λ (t : Bool). is_none (find g (if t then p ∷ filter f ps else filter f ps))) kept
        ∙ rest
        ∙ sym (ap (λ (t : Bool). not (t && g p || list_any (λ (q : Pp). f q && g q) ps)) kept)

module _ (core : Core) (c : OpenCopy) where
  abbrev copies : List Pp
  copies = copies_in core.descriptor c.lv c.lp

  none_left : is_none (next_source core c) ≡ not (list_any (is_untried core c) copies)
  none_left = none_found (is_other core c) (λ (p : Pp). not (has c.tried p.disk)) copies

  pub no_source : list_any (is_other core c) copies ≡ false → Some ending.NoFresh ≡ end_by_sources core c
  no_source none = sym (ap (λ (b : Bool). if b then Some ending.NoFresh else ends_if (is_idle c.step && is_none (next_source core c)) ending.SyncFailed) (none_kept (is_other core c) copies ∙ ap not none))

  pub some_source : list_any (is_other core c) copies ≡ true → ends_if (is_idle c.step && not (list_any (is_untried core c) copies)) ending.SyncFailed ≡ end_by_sources core c
  some_source some =
      ap (λ (b : Bool). ends_if (is_idle c.step && b) ending.SyncFailed) (sym none_left)
      ∙ sym (ap (λ (b : Bool). if b then Some ending.NoFresh else ends_if (is_idle c.step && is_none (next_source core c)) ending.SyncFailed) (none_kept (is_other core c) copies ∙ ap not some))
