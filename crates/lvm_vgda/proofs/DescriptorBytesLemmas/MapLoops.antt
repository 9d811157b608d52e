-- Reading the partitions of one volume, and of the next.
use Rattle.std.proofs.Common.{◌≡◌, ℕ, ◌+◌, ◌*◌, ◌<◌, ◌≤◌, ◌&&◌, List, [], ◌∷◌, ◌++◌, append-nil, append_assoc, length, get_or, set, take, drop, Result, Ok, Err, refl, sym, ap, subst, ◌∙◌, arith}
use Rattle.std.specs.Prelude.{◌==◌, not, All}
use Rattle.std.specs.List.{list_any}
use Rattle.std.specs.Int.{w16}
use Rattle.std.proofs.lemmas.List.{take_more_set, drop_more, drop-set-lt, get_or_default, get_or-drop}
use Rattle.std.proofs.lemmas.Grind.{drop_more_same}
use Rattle.std.proofs.lemmas.List.Concat.{flat_map-append}
use Rattle.lvm_num.specs.declared.place.Pp.{Pp}
use Rattle.lvm_num.specs.declared.descriptor.PvRow.{PvRow}
use Rattle.lvm_num.specs.declared.descriptor.LvRow.{LvRow}
use Rattle.lvm_num.specs.Descriptor.{partitions_in}
use Rattle.lvm_num.specs.DescriptorBytes.{unfinished, partition_at, partitions_at, maps_at}
use Rattle.lvm_num.specs.Reading.{◌>>=◌, Rest, number_at}
use Rattle.lvm_vgda.specs.passed.Fields.{Fault, Fails}
use Rattle.lvm_vgda.specs.passed.FieldsFaultFault as faults
use Rattle.lvm_vgda.specs.Used.{free_at}

-- a step that fails, and one that goes on
pub fails_on : {A B : Type 0} (e : Fault) (r : Result A ℕ) (f : A → Result B ℕ) → Fails e r → Fails e (r >>= f)
fails_on faults.Memory r f fails = tt
fails_on (faults.At place) r f fails = rw fails refl

pub passes_on : {A B : Type 0} (r : Result A ℕ) (f : A → Result B ℕ) (x : A) → r ≡ Ok x → (r >>= f) ≡ f x
passes_on {A} {B} r f x e = ap (λ (read : Result A ℕ). read >>= f) e

-- the disk of a copy, and then its number there
abbrev pub copy_disk_at : List PvRow → List Pp → Rest → Result (ℕ × Rest) ℕ
copy_disk_at members begun rest = number_at w16 (λ n. list_any (λ (row : PvRow). row.disk == n) members && not (list_any (λ (p : Pp). p.disk == n) begun)) rest

pub two_parts : (members : List PvRow) (used : List Pp) (copies : ℕ) (own : List Pp) (rest : Rest)
    → partition_at members used copies own rest ≡ (copy_disk_at members (unfinished copies own) rest >>= λ disk. free_at members (used ++ own) disk.0 disk.1)
unfolding partition_at
two_parts members used copies own rest = refl

-- the partitions of a volume, whose numbers are read again in wider integers
pub same_partitions : (members : List PvRow) (used : List Pp) (copies lps n m k : ℕ) (rest : Rest) → n ≡ copies → m ≡ lps → k ≡ copies
    → partitions_at members used n (m * k) [] rest ≡ partitions_at members used copies (lps * copies) [] rest
same_partitions members used copies lps n m k rest first second third =
    ap (λ (x : ℕ). partitions_at members used x (m * k) [] rest) first
    ∙ ap (λ (x : ℕ). partitions_at members used copies (x * k) [] rest) second
    ∙ ap (λ (x : ℕ). partitions_at members used copies (lps * x) [] rest) third

-- what is read behind the rows that are done
abbrev pub with_front : List LvRow → Result (List LvRow × Rest) ℕ → Result (List LvRow × Rest) ℕ
with_front front read = read >>= λ x. Ok (front ++ x.0, x.1)

abbrev pub mapped : LvRow → List Pp → LvRow
mapped row map = record row { map = map }

regroup : (front : List LvRow) (row : LvRow) (read : Result (List LvRow × Rest) ℕ) → with_front front (read >>= λ others. Ok (row ∷ others.0, others.1)) ≡ with_front (front ++ row ∷ []) read
regroup front row (Ok x) = ap (λ (rows : List LvRow). Ok (rows, x.1)) (sym (append_assoc front (row ∷ []) x.0))
regroup front row (Err place) = refl

one_map : (members : List PvRow) (used : List Pp) (row : LvRow) (rows : List LvRow) (rest : Rest)
    → maps_at members used (row ∷ rows) rest
    ≡ (partitions_at members used row.copies (row.lps * row.copies) [] rest >>= λ own. maps_at members (used ++ own.0) rows own.1 >>= λ others. Ok (mapped row own.0 ∷ others.0, others.1))
unfolding maps_at
one_map members used row rows rest = refl

pub no_map : (members : List PvRow) (used : List Pp) (rest : Rest) → maps_at members used [] rest ≡ Ok ([], rest)
unfolding maps_at
no_map members used rest = refl

module _ (members : List PvRow) (used : List Pp) (rows : List LvRow) (k : ℕ) (row : LvRow) (rest : Rest) (front : List LvRow) (total : Result (List LvRow × Rest) ℕ)
    (there : drop k rows ≡ row ∷ drop (k + 1) rows) (so_far : with_front front (maps_at members used (drop k rows) rest) ≡ total) where
  pub maps_go_on : (own : List Pp) (after : Rest) → partitions_at members used row.copies (row.lps * row.copies) [] rest ≡ Ok (own, after)
      → with_front (front ++ mapped row own ∷ []) (maps_at members (used ++ own) (drop (k + 1) rows) after) ≡ total
  maps_go_on own after here =
      let one : maps_at members used (drop k rows) rest ≡ (maps_at members (used ++ own) (drop (k + 1) rows) after >>= λ others. Ok (mapped row own ∷ others.0, others.1)) =
      ap (λ (l : List LvRow). maps_at members used l rest) there
      ∙ one_map members used row (drop (k + 1) rows) rest
      ∙ passes_on (partitions_at members used row.copies (row.lps * row.copies) [] rest) (λ (x : List Pp × Rest). maps_at members (used ++ x.0) (drop (k + 1) rows) x.1 >>= λ others. Ok (mapped row x.0 ∷ others.0, others.1)) (own, after) here in
      sym (regroup front (mapped row own) (maps_at members (used ++ own) (drop (k + 1) rows) after)) ∙ sym (ap (with_front front) one) ∙ so_far

  pub maps_end : (e : Fault) → Fails e (partitions_at members used row.copies (row.lps * row.copies) [] rest) → Fails e total
  maps_end e fails =
      let next : List Pp × Rest → Result (List LvRow × Rest) ℕ = λ x. maps_at members (used ++ x.0) (drop (k + 1) rows) x.1 >>= λ others. Ok (mapped row x.0 ∷ others.0, others.1) in
      let is : maps_at members used (drop k rows) rest ≡ (partitions_at members used row.copies (row.lps * row.copies) [] rest >>= λ own. maps_at members (used ++ own.0) (drop (k + 1) rows) own.1 >>= λ others. Ok (mapped row own.0 ∷ others.0, others.1)) =
      ap (λ (l : List LvRow). maps_at members used l rest) there ∙ one_map members used row (drop (k + 1) rows) rest in
      subst (λ (read : Result (List LvRow × Rest) ℕ). Fails e read) (sym (ap (with_front front) is) ∙ so_far)
      (fails_on e _ (λ (x : List LvRow × Rest). Ok (front ++ x.0, x.1))
      (fails_on e (partitions_at members used row.copies (row.lps * row.copies) [] rest) (λ (x : List Pp × Rest). maps_at members (used ++ x.0) (drop (k + 1) rows) x.1 >>= λ others. Ok (mapped row x.0 ∷ others.0, others.1)) fails))

pub maps_done : (members : List PvRow) (used : List Pp) (left : List LvRow) (rest : Rest) (front : List LvRow) (total : Result (List LvRow × Rest) ℕ)
    → left ≡ [] → with_front front (maps_at members used left rest) ≡ total → total ≡ Ok (front, rest)
maps_done members used left rest front total none so_far =
    sym so_far ∙ ap (λ (l : List LvRow). with_front front (maps_at members used l rest)) none ∙ ap (with_front front) (no_map members used rest) ∙ ap (λ (l : List LvRow). Ok (l, rest)) (append-nil front)

-- ---- a row that gets its map

module _ (old : List LvRow) (k : ℕ) (row seen : LvRow) (own map : List Pp) (lt : k < length old) (is : row ≡ get_or old k row) (also : seen ≡ get_or old k seen) (same : map ≡ own) where
  pub same_set : set old k (mapped seen map) ≡ set old k (mapped row own)
  same_set =
      let one : seen ≡ row = also ∙ get_or_default old k seen row lt ∙ sym is in
      ap (λ (r : LvRow). set old k (mapped r map)) one ∙ ap (λ (m : List Pp). set old k (mapped row m)) same

  pub taken : take (k + 1) (set old k (mapped seen map)) ≡ take k old ++ mapped row own ∷ []
  taken = ap (take (k + 1)) same_set ∙ take_more_set old k (mapped row own) lt

  pub taken_partitions : partitions_in (take (k + 1) (set old k (mapped seen map))) ≡ partitions_in (take k old) ++ own
  taken_partitions =
      ap partitions_in taken
      ∙ flat_map-append (λ (r : LvRow). r.map) (take k old) (mapped row own ∷ [])
      ∙ ap (λ (l : List Pp). partitions_in (take k old) ++ l) (append-nil own)

  pub left_over : (all : List LvRow) → drop k old ≡ drop k all → drop (k + 1) (set old k (mapped seen map)) ≡ drop (k + 1) all
  left_over all left = drop-set-lt (k + 1) old k (mapped seen map) (omega arith) ∙ drop_more_same old all k left

  pub next_row : (all : List LvRow) → drop k old ≡ drop k all → drop k all ≡ row ∷ drop (k + 1) all
  next_row all left =
      sym left ∙ drop_more old k row lt ∙ ap (λ (r : LvRow). r ∷ drop (k + 1) old) (sym is) ∙ ap (λ (l : List LvRow). row ∷ l) (drop_more_same old all k left)

-- a row that is left has its copies still
pub own_copies : (all old : List LvRow) (k : ℕ) (row : LvRow) → k < length all → All (λ (r : LvRow). 1 ≤ r.copies) all → row ≡ get_or old k row → drop k old ≡ drop k all → 1 ≤ row.copies
own_copies all old k row lt some is left =
    let same : get_or old k row ≡ get_or all k row = sym (first old) ∙ ap (λ (l : List LvRow). get_or l 0 row) left ∙ first all in
    subst (λ (r : LvRow). 1 ≤ r.copies) (sym (is ∙ same)) (some k row lt)
  where
    first : (xs : List LvRow) → get_or (drop k xs) 0 row ≡ get_or xs k row
    first xs = get_or-drop k xs 0 row ∙ ap (λ n. get_or xs n row) (let e : k + 0 ≡ k = omega arith in e)
