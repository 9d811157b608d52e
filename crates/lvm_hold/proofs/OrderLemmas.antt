-- Lists of those that are inside.
use Rattle.std.proofs.Common.{◌≡◌, ◌==◌, ◌<◌, ◌≤◌, ◌&&◌, ◌++◌, ◌⊎◌, [], ◌∷◌, ℕ, zero, suc, List, Option, Some, None, Bool, true, false, cond, nat_lt, refl, sym, ◌∙◌, ap, subst, inl, inr, arith}
use Rattle.std.specs.List.{All, Contains, find, filter}
use Rattle.std.specs.Option.{option_map, IsSomeAnd, IfSome, is_some}
use Rattle.std.proofs.lemmas.Option.{same_Some}
use Rattle.std.proofs.lemmas.Bool.{eqb-true, eq-eqb, ltb-true, lt-ltb, and_parts}
use Rattle.std.proofs.lemmas.List.Folds.{Any-from_list_any, list_any-from_Any}
use Rattle.std.proofs.lemmas.List.Elements.{All-nil, All-head, All-tail, All-push, All-filter, All-contains}
use Rattle.lvm_hold.specs.declared.queue.Held.{Held}
use Rattle.lvm_hold.specs.declared.queue.Row.{Row}
use Rattle.lvm_hold.specs.Conflicts.{conflicts}
use Rattle.lvm_hold.specs.Order.{IsAscending, first_conflict}
use Rattle.lvm_hold.specs.Waiting.{AreBelow, IsInside, Blocks, is_blocked}

-- one of a list is its first or one of the others
contains_cases : {X : Type 0} (x : X) (xs : List X) (y : X) → Contains (x ∷ xs) y → (x ≡ y) ⊎ Contains xs y
contains_cases x xs y (zero, within, is) = inl is
contains_cases x xs y (suc k, within, is) = inr (k, omega arith, is)

pub ascending_push : (rows : List Row) (row : Row) → IsAscending rows → AreBelow rows row.id → IsAscending (rows ++ row ∷ [])
ascending_push [] row order below = (All-nil (λ (later : Row). row.id < later.id), tt)
ascending_push (first ∷ rows) row order below = (
  All-push (λ (later : Row). first.id < later.id) rows row order.0 (All-head (λ (earlier : Row). earlier.id < row.id) first rows below),
  ascending_push rows row order.1 (All-tail (λ (earlier : Row). earlier.id < row.id) first rows below),
)

ascending_test : (t : Bool) (p : Row → Bool) (row : Row) (rows : List Row) → All (λ (later : Row). row.id < later.id) rows → IsAscending (filter p rows) → IsAscending (cond t (row ∷ filter p rows) (filter p rows))
ascending_test true p row rows below order = (All-filter p (λ (later : Row). row.id < later.id) rows below, order)
ascending_test false p row rows below order = order

pub ascending_filter : (p : Row → Bool) (rows : List Row) → IsAscending rows → IsAscending (filter p rows)
ascending_filter p [] order = tt
ascending_filter p (row ∷ rows) order = ascending_test (p row) p row rows order.0 (ascending_filter p rows order.1)

-- what is found is inside and passes
pub record IsFound (p : Row → Bool) (rows : List Row) (row : Row) : Type 0 where
  pub among : Contains rows row
  pub passes : p row ≡ true

deeper : (p : Row → Bool) (first : Row) (rows : List Row) (row : Row) → IsFound p rows row → IsFound p (first ∷ rows) row
deeper p first rows row it = record { among = (suc it.among.0, omega (arith, it.among.1), it.among.2); passes = it.passes }

found_test : (t : Bool) (p : Row → Bool) (first : Row) (rows : List Row) (row : Row) → p first ≡ t → (find p rows ≡ Some row → IsFound p rows row) → cond t (Some first) (find p rows) ≡ Some row → IsFound p (first ∷ rows) row
found_test true p first rows row test rest is =
    let same : first ≡ row = same_Some first row is in
    record { among = (0, omega arith, same); passes = subst (λ (r : Row). p r ≡ true) same test }
found_test false p first rows row test rest is = deeper p first rows row (rest is)

pub found : (p : Row → Bool) (rows : List Row) (row : Row) → find p rows ≡ Some row → IsFound p rows row
found p [] row is = cc
found p (first ∷ rows) row is = found_test (p first) p first rows row refl (found p rows row) is

-- where one passes, the first that passes is not after it
first_test : (t : Bool) (p : Row → Bool) (first : Row) (rows : List Row) (row : Row) → p first ≡ t → p row ≡ true → All (λ (later : Row). first.id < later.id) rows → (first ≡ row) ⊎ Contains rows row
    → (Contains rows row → IsSomeAnd (find p rows) (λ (least : Row). least.id ≤ row.id)) → IsSomeAnd (cond t (Some first) (find p rows)) (λ (least : Row). least.id ≤ row.id)
first_test true p first rows row test passes below among rest = elim among [
  | inl same ↦ subst (λ (r : Row). first.id ≤ r.id) same (omega arith)
  | inr later ↦ let less : first.id < row.id = All-contains (λ (later : Row). first.id < later.id) rows row below later in omega arith
]
first_test false p first rows row test passes below among rest = elim among [
  | inl same ↦ let no : p row ≡ false = subst (λ (r : Row). p r ≡ false) same test in cc
  | inr later ↦ rest later
]

pub first_is_least : (p : Row → Bool) (rows : List Row) (row : Row) → IsAscending rows → Contains rows row → p row ≡ true → IsSomeAnd (find p rows) (λ (least : Row). least.id ≤ row.id)
first_is_least p [] row order among passes = absurd (omega (arith, among.1))
first_is_least p (first ∷ rows) row order among passes =
    first_test (p first) p first rows row refl passes order.0 (contains_cases first rows row among) (λ later. first_is_least p rows row order.1 later passes)

-- no two that are inside have one id
same_cases : (first a b : Row) (rows : List Row) → a.id ≡ b.id → All (λ (later : Row). first.id < later.id) rows → (first ≡ a) ⊎ Contains rows a → (first ≡ b) ⊎ Contains rows b → (Contains rows a → Contains rows b → a ≡ b) → a ≡ b
same_cases first a b rows ids below in_a in_b rest = elim in_a [
  | inl is_a ↦ elim in_b [
    | inl is_b ↦ sym is_a ∙ is_b
    | inr later ↦ let less : first.id < b.id = All-contains (λ (later : Row). first.id < later.id) rows b below later in
        let same : first.id ≡ a.id = ap (λ (r : Row). r.id) is_a in absurd (omega arith)
  ]
  | inr earlier ↦ elim in_b [
    | inl is_b ↦ let less : first.id < a.id = All-contains (λ (later : Row). first.id < later.id) rows a below earlier in
        let same : first.id ≡ b.id = ap (λ (r : Row). r.id) is_b in absurd (omega arith)
    | inr later ↦ rest earlier later
  ]
]

pub same_row : (rows : List Row) (a b : Row) → IsAscending rows → Contains rows a → Contains rows b → a.id ≡ b.id → a ≡ b
same_row [] a b order in_a in_b ids = absurd (omega (arith, in_a.1))
same_row (first ∷ rows) a b order in_a in_b ids =
    same_cases first a b rows ids order.0 (contains_cases first rows a in_a) (contains_cases first rows b in_b) (λ later_a later_b. same_row rows a b order.1 later_a later_b ids)

-- the test of `first_conflict`
abbrev pub is_in_the_way : Row → Row → Bool
is_in_the_way this row = nat_lt row.id this.id && conflicts row.ask this.ask

blocks_by : (rows : List Row) (this : Row) (id : ℕ) (o : Option Row) → Contains rows this → this.id ≡ id → find (is_in_the_way this) rows ≡ o → IfSome (option_map (λ (row : Row). row.id) o) (λ earlier. Blocks rows earlier id)
blocks_by rows this id None among its is = tt
blocks_by rows this id (Some row) among its is =
    let it : IsFound (is_in_the_way this) rows row = found (is_in_the_way this) rows row is in
    let passes : (nat_lt row.id this.id ≡ true) × (conflicts row.ask this.ask ≡ true) = and_parts (nat_lt row.id this.id) (conflicts row.ask this.ask) it.passes in
    let less : row.id < this.id = ltb-true row.id this.id passes.0 in
    record {
      first = row;
      second = this;
      first_among = it.among;
      second_among = among;
      first_its = refl;
      second_its = its;
      order = rw (← its) less;
      conflict = passes.1;
    }

pub first_conflict_blocks : (rows : List Row) (this : Row) (id : ℕ) → Contains rows this → this.id ≡ id → IfSome (first_conflict rows this) (λ earlier. Blocks rows earlier id)
first_conflict_blocks rows this id among its = blocks_by rows this id (find (is_in_the_way this) rows) among its refl

id_at_most : (o : Option Row) (bound : ℕ) → IsSomeAnd o (λ (least : Row). least.id ≤ bound) → IsSomeAnd (option_map (λ (row : Row). row.id) o) (λ least. least ≤ bound)
id_at_most (Some row) bound is = is
id_at_most None bound is = is

pub first_conflict_least : (rows : List Row) (this : Row) (id : ℕ) → IsAscending rows → Contains rows this → this.id ≡ id → (earlier : ℕ) → Blocks rows earlier id → IsSomeAnd (first_conflict rows this) (λ least. least ≤ earlier)
first_conflict_least rows this id order among its earlier blocks =
    let same : blocks.second ≡ this = same_row rows blocks.second this order blocks.second_among among (blocks.second_its ∙ sym its) in
    let less : blocks.first.id < this.id = rw (blocks.first_its, its) blocks.order in
    let conflict : conflicts blocks.first.ask this.ask ≡ true = subst (λ (r : Row). conflicts blocks.first.ask r.ask ≡ true) same blocks.conflict in
    let passes : is_in_the_way this blocks.first ≡ true = rw (lt-ltb blocks.first.id this.id less, conflict) in
    id_at_most (find (is_in_the_way this) rows) earlier (rw (← blocks.first_its) (first_is_least (is_in_the_way this) rows blocks.first order blocks.first_among passes))

-- one that is inside is found
none_missed : (bound : ℕ) (o : Option Row) → IsSomeAnd o (λ (least : Row). least.id ≤ bound) → o ≡ None → ⊥
none_missed bound (Some row) some is = cc
none_missed bound None some is = some

pub inside_is_found : (rows : List Row) (id : ℕ) → IsAscending rows → IsInside rows id → find (λ (row : Row). row.id == id) rows ≡ None → ⊥
inside_is_found rows id order inside is =
    let passes : (inside.row.id == id) ≡ true = eq-eqb inside.row.id id inside.its in
    none_missed inside.row.id (find (λ (row : Row). row.id == id) rows) (first_is_least (λ (row : Row). row.id == id) rows inside.row order inside.among passes) is

blocked_cases : (rows : List Row) (id : ℕ) (ask : Held) (result : Option ℕ) (t : Bool) → is_blocked rows id ask ≡ t → IsAscending rows → Contains rows (record { id = id; ask = ask }) → IfSome result (λ earlier. Blocks rows earlier id)
    → ((earlier : ℕ) → Blocks rows earlier id → IsSomeAnd result (λ least. least ≤ earlier)) → is_some result ≡ t
blocked_cases rows id ask (Some earlier) true test order among blocks least = refl
blocked_cases rows id ask None false test order among blocks least = refl
blocked_cases rows id ask (Some earlier) false test order among blocks least =
    let same : blocks.second ≡ record { id = id; ask = ask } = same_row rows blocks.second (record { id = id; ask = ask }) order blocks.second_among among blocks.second_its in
    let conflict : conflicts blocks.first.ask ask ≡ true = subst (λ (r : Row). conflicts blocks.first.ask r.ask ≡ true) same blocks.conflict in
    let less : blocks.first.id < id = rw blocks.first_its blocks.order in
    let passes : is_in_the_way (record { id = id; ask = ask }) blocks.first ≡ true = rw (lt-ltb blocks.first.id id less, conflict) in
    let some : is_blocked rows id ask ≡ true = list_any-from_Any (is_in_the_way (record { id = id; ask = ask })) rows (blocks.first_among.0, blocks.first, blocks.first_among.1, blocks.first_among.2, passes) in
    cc
blocked_cases rows id ask None true test order among blocks least =
    let some = Any-from_list_any (is_in_the_way (record { id = id; ask = ask })) rows test in
    let passes : (nat_lt some.1.id id ≡ true) × (conflicts some.1.ask ask ≡ true) = and_parts (nat_lt some.1.id id) (conflicts some.1.ask ask) some.4 in
    absurd (least some.1.id (record {
      first = some.1;
      second = record { id = id; ask = ask };
      first_among = (some.0, some.2, some.3);
      second_among = among;
      first_its = refl;
      second_its = refl;
      order = ltb-true some.1.id id passes.0;
      conflict = passes.1;
    }))

-- what `blocked_by` answers tells whether an earlier one conflicts
pub blocked_tells : (rows : List Row) (id : ℕ) (ask : Held) (result : Option ℕ) → IsAscending rows → Contains rows (record { id = id; ask = ask }) → IfSome result (λ earlier. Blocks rows earlier id)
    → ((earlier : ℕ) → Blocks rows earlier id → IsSomeAnd result (λ least. least ≤ earlier)) → is_some result ≡ is_blocked rows id ask
blocked_tells rows id ask result order among blocks least = blocked_cases rows id ask result (is_blocked rows id ask) refl order among blocks least

-- what is found tells whether one is inside
pub inside_tells : (rows : List Row) (id : ℕ) (o : Option Row) → IsAscending rows → find (λ (row : Row). row.id == id) rows ≡ o → (is_some o ≡ true → IsInside rows id) × (IsInside rows id → is_some o ≡ true)
inside_tells rows id (Some row) order is =
    let it : IsFound (λ (row : Row). row.id == id) rows row = found (λ (row : Row). row.id == id) rows row is in
    (λ _. record { row = row; among = it.among; its = eqb-true row.id id it.passes }, λ _. refl)
inside_tells rows id None order is = (λ some. cc, λ inside. absurd (inside_is_found rows id order inside is))
