-- Marking the partitions of maps one by one.
use Rattle.std.proofs.Common.{◌≡◌, ◌≢◌, ◌⊎◌, ⊎_elim, ℕ, ◌+◌, ◌<◌, Bool, true, false, ◌||◌, List, [], ◌∷◌, ◌++◌, append-nil, length, get_or, take, drop, refl, sym, ap, subst, ◌∙◌, arith}
use Rattle.std.specs.Prelude.{◌==◌, All, AllPairs}
use Rattle.std.specs.List.{list_any}
use Rattle.std.proofs.lemmas.Bool.{false≢true, eq-eqb, eqb-true, or_parts, or_cases, ne_eqb}
use Rattle.std.proofs.lemmas.List.{take_more, drop_more, take-append-drop, get_or_append_left, get_or_default, length-append}
use Rattle.std.proofs.lemmas.List.Concat.{flat_map-append}
use Rattle.std.proofs.lemmas.List.Elements.{All-more, All-append}
use Rattle.std.proofs.lemmas.List.Folds.{list_any_more, list_any_at, list_any_none, list_any-append}
use Rattle.lvm_num.specs.declared.place.Pp.{Pp}
use Rattle.lvm_num.specs.declared.descriptor.LvRow.{LvRow}
use Rattle.lvm_num.specs.Bits.{has_bit}
use Rattle.lvm_num.specs.Descriptor.{IsLaidOut, partitions_in}
use Rattle.lvm_num.specs.Marks.{IsWithinDisk, spot, AreFree, AreCounted}
use Rattle.lvm_num.proofs.Pairs.{AllPairs-more, AllPairs-append, AllPairs-left, AllPairs-right, AllPairs-across, All-left, All-right, none_before, some_before}

-- exactly what was marked before and these partitions are marked now
abbrev pub Marked : List ℕ → List ℕ → List Pp → Type 0
Marked before now map = (k : ℕ) → has_bit now k ≡ has_bit before k || list_any (λ (pp : Pp). k == spot pp) map

or_assoc : (a b c : Bool) → (a || b) || c ≡ a || (b || c)
or_assoc true b c = refl
or_assoc false b c = refl

pub free-more : (counts before now : List ℕ) (map : List Pp) (i : ℕ) (e : Pp) → i < length map
    → AreFree counts before (take i map) → Marked before now (take i map)
    → IsWithinDisk counts (get_or map i e) → has_bit now (spot (get_or map i e)) ≡ false → AreFree counts before (take (i + 1) map)
free-more counts before now map i e lt old marked here unmarked =
    let both = or_parts (has_bit before (spot (get_or map i e))) (list_any (λ (pp : Pp). spot (get_or map i e) == spot pp) (take i map))
    (sym (marked (spot (get_or map i e))) ∙ unmarked) in
    record {
      within = All-more (IsWithinDisk counts) map i e lt old.within here;
      free = All-more (λ (pp : Pp). has_bit before (spot pp) ≡ false) map i e lt old.free both.0;
      once = AllPairs-more (λ (a b : Pp). spot a ≢ spot b) map i e lt old.once
          (λ j less same. false≢true
          (sym (none_before (λ (pp : Pp). spot (get_or map i e) == spot pp) map i (omega arith) both.1 j e less)
          ∙ eq-eqb (spot (get_or map i e)) (spot (get_or map j e)) (sym same)));
    }

pub marked-more : (before now new : List ℕ) (map : List Pp) (i : ℕ) (e : Pp) → i < length map
    → Marked before now (take i map) → ((k : ℕ) → has_bit new k ≡ has_bit now k || k == spot (get_or map i e)) → Marked before new (take (i + 1) map)
marked-more before now new map i e lt old step k =
    step k
    ∙ ap (λ b. b || k == spot (get_or map i e)) (old k)
    ∙ or_assoc (has_bit before k) (list_any (λ (pp : Pp). k == spot pp) (take i map)) (k == spot (get_or map i e))
    ∙ ap (λ b. has_bit before k || b) (sym (list_any_more (λ (pp : Pp). k == spot pp) map i e lt))

-- a marked partition isn't free
pub marked_not_free : (counts before now : List ℕ) (map : List Pp) (i : ℕ) (e : Pp) → i < length map
    → Marked before now (take i map) → has_bit now (spot (get_or map i e)) ≡ true → AreFree counts before map → ⊥
marked_not_free counts before now map i e lt marked is free =
    ⊎_elim
    (λ (old : has_bit before (spot (get_or map i e)) ≡ true). false≢true (sym (free.free i e lt) ∙ old))
    (λ (twice : list_any (λ (pp : Pp). spot (get_or map i e) == spot pp) (take i map) ≡ true).
    let found = some_before (λ (pp : Pp). spot (get_or map i e) == spot pp) map i (omega arith) twice in
    free.once found.0 i e found.1 lt (sym (eqb-true (spot (get_or map i e)) (spot (get_or map found.0 e)) (found.2 e))))
    (or_cases (has_bit before (spot (get_or map i e))) (list_any (λ (pp : Pp). spot (get_or map i e) == spot pp) (take i map))
    (sym (marked (spot (get_or map i e))) ∙ is))

-- ---- one map after the other

-- the partitions of the maps up to a row and with it, and of all maps
partitions-more : (lvs : List LvRow) (i : ℕ) (e : LvRow) → i < length lvs → partitions_in (take (i + 1) lvs) ≡ partitions_in (take i lvs) ++ (get_or lvs i e).map
partitions-more lvs i e lt =
    ap partitions_in (take_more lvs i e lt)
    ∙ flat_map-append (λ (row : LvRow). row.map) (take i lvs) (get_or lvs i e ∷ [])
    ∙ ap (λ (rest : List Pp). partitions_in (take i lvs) ++ rest) (append-nil (get_or lvs i e).map)

partitions-split : (lvs : List LvRow) (i : ℕ) (e : LvRow) → i < length lvs
    → partitions_in lvs ≡ partitions_in (take i lvs) ++ ((get_or lvs i e).map ++ partitions_in (drop (i + 1) lvs))
partitions-split lvs i e lt =
    ap partitions_in (sym (take-append-drop i lvs) ∙ ap (λ (rest : List LvRow). take i lvs ++ rest) (drop_more lvs i e lt))
    ∙ flat_map-append (λ (row : LvRow). row.map) (take i lvs) (get_or lvs i e ∷ drop (i + 1) lvs)

-- a free map adds its partitions
pub counted-more : (counts before now : List ℕ) (lvs : List LvRow) (i : ℕ) (e : LvRow) → i < length lvs
    → AreCounted counts (take i lvs) → Marked before now (partitions_in (take i lvs))
    → IsLaidOut (get_or lvs i e) → AreFree counts now (get_or lvs i e).map → AreCounted counts (take (i + 1) lvs)
counted-more counts before now lvs i e lt old marked laid free =
    let old-pps = partitions_in (take i lvs) in
    let own = (get_or lvs i e).map in
    let more = partitions-more lvs i e lt in
    record {
      within = subst (All (IsWithinDisk counts)) (sym more) (All-append (IsWithinDisk counts) old-pps own old.within free.within);
      laid_out = All-more IsLaidOut lvs i e lt old.laid_out laid;
      once = subst (AllPairs (λ (a b : Pp). spot a ≢ spot b)) (sym more) (AllPairs-append (λ (a b : Pp). spot a ≢ spot b) old-pps own old.once free.once
          (λ j k d j-lt k-lt same.
          let none = (or_parts (has_bit before (spot (get_or own k d))) (list_any (λ (pp : Pp). spot (get_or own k d) == spot pp) old-pps)
          (sym (marked (spot (get_or own k d))) ∙ free.free k d k-lt)).1 in
          false≢true (sym none ∙ list_any_at (λ (pp : Pp). spot (get_or own k d) == spot pp) old-pps j d j-lt (eq-eqb (spot (get_or own k d)) (spot (get_or old-pps j d)) (sym same)))));
    }

pub marked-map : (before now new : List ℕ) (lvs : List LvRow) (i : ℕ) (e : LvRow) → i < length lvs
    → Marked before now (partitions_in (take i lvs))
    → ((k : ℕ) → has_bit new k ≡ has_bit now k || list_any (λ (pp : Pp). k == spot pp) (get_or lvs i e).map)
    → Marked before new (partitions_in (take (i + 1) lvs))
marked-map before now new lvs i e lt old step k =
    let test = λ (pp : Pp). k == spot pp in
    step k
    ∙ ap (λ b. b || list_any test (get_or lvs i e).map) (old k)
    ∙ or_assoc (has_bit before k) (list_any test (partitions_in (take i lvs))) (list_any test (get_or lvs i e).map)
    ∙ ap (λ b. has_bit before k || b) (sym (list_any-append test (partitions_in (take i lvs)) (get_or lvs i e).map) ∙ ap (list_any test) (sym (partitions-more lvs i e lt)))

-- of counted maps each is free where those before it are marked
pub counted_is_free : (counts before now : List ℕ) (lvs : List LvRow) (i : ℕ) (e : LvRow) → i < length lvs
    → ((k : ℕ) → has_bit before k ≡ false) → Marked before now (partitions_in (take i lvs)) → AreCounted counts lvs → AreFree counts now (get_or lvs i e).map
counted_is_free counts before now lvs i e lt none marked all =
    let old-pps = partitions_in (take i lvs) in
    let own = (get_or lvs i e).map in
    let rest = partitions_in (drop (i + 1) lvs) in
    let split = partitions-split lvs i e lt in
    let within : All (IsWithinDisk counts) (old-pps ++ (own ++ rest)) = subst (All (IsWithinDisk counts)) split all.within in
    let once : AllPairs (λ (a b : Pp). spot a ≢ spot b) (old-pps ++ (own ++ rest)) = subst (AllPairs (λ (a b : Pp). spot a ≢ spot b)) split all.once in
    record {
      within = All-left (IsWithinDisk counts) own rest (All-right (IsWithinDisk counts) old-pps (own ++ rest) within);
      free = λ k d k-lt.
          let unseen : list_any (λ (pp : Pp). spot (get_or own k d) == spot pp) old-pps ≡ false =
          list_any_none (λ (pp : Pp). spot (get_or own k d) == spot pp) old-pps
          (λ j q j-lt. ne_eqb (spot (get_or own k d)) (spot (get_or old-pps j q))
          (λ same. AllPairs-across (λ (a b : Pp). spot a ≢ spot b) old-pps (own ++ rest) once j k q j-lt (omega (arith, k-lt, length-append own rest))
          (sym same ∙ ap spot (get_or_default own k d q k-lt ∙ sym (get_or_append_left own rest q k k-lt))))) in
          marked (spot (get_or own k d)) ∙ ap (λ b. b || list_any (λ (pp : Pp). spot (get_or own k d) == spot pp) old-pps) (none (spot (get_or own k d))) ∙ unseen;
      once = AllPairs-left (λ (a b : Pp). spot a ≢ spot b) own rest (AllPairs-right (λ (a b : Pp). spot a ≢ spot b) old-pps (own ++ rest) once);
    }
