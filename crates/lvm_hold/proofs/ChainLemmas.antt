-- Chains: whom a walk along one finds, and what a link changes.
use Rattle.std.proofs.Common.{◌≡◌, ◌==◌, ◌≢◌, ◌+◌, ◌-◌, ◌*◌, ◌/◌, ◌%◌, ◌<◌, ◌≤◌, ◌&&◌, ◌||◌, ◌++◌, [], ◌∷◌, ℕ, zero, suc, List, Option, Some, None, Bool, true, false, cond, nat_lt, refl, sym, ◌∙◌, ap, subst, arith, length, length-append, take, drop, get_or}
use Rattle.std.specs.List.{All, find}
use Rattle.std.specs.Option.{option_map, option_or, is_some}
use Rattle.std.proofs.lemmas.Option.{same_Some}
use Rattle.std.proofs.lemmas.Bool.{eqb-true, eqb-false, eq-eqb, ne_eqb, lt-ltb, le-ltb, ltb-true, and_parts}
use Rattle.std.proofs.lemmas.List.{length-take-le, get_or_at}
use Rattle.std.proofs.Math.Seq.{take-suc}
use Rattle.std.proofs.lemmas.List.Elements.{All-head, All-tail}
use Rattle.lvm_hold.specs.declared.queue.Held.{Held}
use Rattle.lvm_hold.specs.declared.queue.Row.{Row}
use Rattle.lvm_hold.specs.Conflicts.{conflicts, have_common_block, is_write, IsInGroup}
use Rattle.lvm_hold.specs.Order.{IsAscending, first_conflict}
use Rattle.lvm_hold.specs.Chains.{head_of, is_of, first_of, nexts_of, further, last_of, place_in, put_next}
use Rattle.lvm_hold.proofs.OrderLemmas.{is_in_the_way}

-- ---- two that conflict stand in one chain

same_group : (a b : Held) → IsInGroup a → IsInGroup b → a.at < b.at + b.count → b.at < a.at + a.count → a.at / 256 ≡ b.at / 256
same_group a b in_a in_b ab ba = omega (arith, in_a.group, in_b.group)

same_head : (a b : Held) → IsInGroup a → IsInGroup b → have_common_block a b ≡ true → head_of a ≡ head_of b
same_head a b in_a in_b common =
    let one = and_parts ((a.lv == b.lv) && nat_lt a.at (b.at + b.count)) (nat_lt b.at (a.at + a.count)) common in
    let two = and_parts (a.lv == b.lv) (nat_lt a.at (b.at + b.count)) one.0 in
    let group = same_group a b in_a in_b (ltb-true a.at (b.at + b.count) two.1) (ltb-true b.at (a.at + a.count) one.1) in
    ap (λ n. (31 * n + a.at / 256) % 2048) (eqb-true a.lv b.lv two.0) ∙ ap (λ n. (31 * b.lv + n) % 2048) group

apart_cases : (a b : Held) (t : Bool) → have_common_block a b ≡ t → IsInGroup a → IsInGroup b → (head_of a ≡ head_of b → ⊥) → conflicts a b ≡ false
apart_cases a b true is in_a in_b apart = absurd (apart (same_head a b in_a in_b is))
apart_cases a b false is in_a in_b apart = ap (λ t. t && (is_write a || is_write b)) is

pub apart : (a b : Held) → IsInGroup a → IsInGroup b → (head_of a == head_of b) ≡ false → conflicts a b ≡ false
apart a b in_a in_b other = apart_cases a b (have_common_block a b) refl in_a in_b (eqb-false (head_of a) (head_of b) other)

-- ---- along a chain

first_test : (t : Bool) (row : Row) (all front back : Option Row) → option_map (λ (r : Row). r.id) all ≡ option_or (option_map (λ (r : Row). r.id) front) (option_map (λ (r : Row). r.id) back)
    → option_map (λ (r : Row). r.id) (cond t (Some row) all) ≡ option_or (option_map (λ (r : Row). r.id) (cond t (Some row) front)) (option_map (λ (r : Row). r.id) back)
first_test true row all front back same = refl
first_test false row all front back same = same

pub first_append : (head : ℕ) (front back : List Row) → first_of head (front ++ back) ≡ option_or (first_of head front) (first_of head back)
first_append head [] back = refl
first_append head (row ∷ front) back = first_test (is_of head row) row (find (is_of head) (front ++ back)) (find (is_of head) front) (find (is_of head) back) (first_append head front back)

-- the first of a chain is behind those before it
behind_test : (t : Bool) (head id : ℕ) (first row : Row) (rest : Option Row) → first.id < row.id → (option_map (λ (r : Row). r.id) rest ≡ Some id → first.id < id) → option_map (λ (r : Row). r.id) (cond t (Some row) rest) ≡ Some id → first.id < id
behind_test true head id first row rest less later is = let same : row.id ≡ id = same_Some row.id id is in omega arith
behind_test false head id first row rest less later is = later is

first_behind : (head id : ℕ) (first : Row) (rows : List Row) → All (λ (later : Row). first.id < later.id) rows → first_of head rows ≡ Some id → first.id < id
first_behind head id first [] below is = cc
first_behind head id first (row ∷ rows) below is =
    behind_test (is_of head row) head id first row (find (is_of head) rows) (All-head (λ (later : Row). first.id < later.id) row rows below)
    (λ now. first_behind head id first rows (All-tail (λ (later : Row). first.id < later.id) row rows below) now) is

-- none that is not earlier is in the way
none_later : (this : Row) (rows : List Row) → All (λ (later : Row). this.id ≤ later.id) rows → find (is_in_the_way this) rows ≡ None
none_later this [] below = refl
none_later this (row ∷ rows) below =
    let past : this.id ≤ row.id = All-head (λ (later : Row). this.id ≤ later.id) row rows below in
    rw (le-ltb row.id this.id past) (none_later this rows (All-tail (λ (later : Row). this.id ≤ later.id) row rows below))

-- what a step along the chain of a row tells, from a row of this id at this place
pub record Steps (rows : List Row) (this : Row) (id place : ℕ) : Type 0 where
  pub stop : this.id ≤ id → first_conflict rows this ≡ None
  pub hit : (d : Row) → id < this.id → conflicts (get_or rows place d).ask this.ask ≡ true → first_conflict rows this ≡ Some id
  pub go : (d : Row) → conflicts (get_or rows place d).ask this.ask ≡ false → first_conflict rows this ≡ first_conflict (drop (suc place) rows) this
  pub next : get_or (nexts_of rows) place None ≡ first_of (head_of this.ask) (drop (suc place) rows)
  pub nexts : drop (suc place) (nexts_of rows) ≡ nexts_of (drop (suc place) rows)

way_shut : (t : Bool) (row : Row) (rest : Option Row) → cond (t && false) (Some row) rest ≡ rest
way_shut true row rest = refl
way_shut false row rest = refl

-- a row that doesn't conflict is passed over
skips : (row : Row) (rows : List Row) (this : Row) → conflicts row.ask this.ask ≡ false → first_conflict (row ∷ rows) this ≡ first_conflict rows this
skips row rows this free =
    let way : find (is_in_the_way this) (row ∷ rows) ≡ find (is_in_the_way this) rows = rw free (way_shut (nat_lt row.id this.id) row (find (is_in_the_way this) rows)) in
    ap (λ (o : Option Row). option_map (λ (r : Row). r.id) o) way

stops_here : (row : Row) (rows : List Row) (this : Row) → this.id ≤ row.id → All (λ (later : Row). this.id ≤ later.id) rows → first_conflict (row ∷ rows) this ≡ None
stops_here row rows this past below =
    let way : find (is_in_the_way this) (row ∷ rows) ≡ None = rw (le-ltb row.id this.id past) (none_later this rows below) in
    ap (λ (o : Option Row). option_map (λ (r : Row). r.id) o) way

step_here : (row : Row) (rows : List Row) (this : Row) (id place : ℕ) → All (λ (later : Row). row.id < later.id) rows → head_of row.ask ≡ head_of this.ask → row.id ≡ id → place_in id (row ∷ rows) ≡ Some place → Steps (row ∷ rows) this id place
step_here row rows this id place below same its at =
    let zero_is : 0 ≡ place = same_Some 0 place (subst (λ (t : Bool). cond t (Some 0) (option_map suc (place_in id rows)) ≡ Some place) (eq-eqb row.id id its) at) in
    subst (Steps (row ∷ rows) this id) zero_is
    (record {
      stop = λ past. stops_here row rows this (omega arith) (λ k d lt. let less : row.id < (get_or rows k d).id = below k d lt in omega arith);
      hit = λ d less conflict. rw (lt-ltb row.id this.id (omega arith), conflict) (ap (λ n. Some n) its);
      go = λ d free. skips row rows this free;
      next = ap (λ h. first_of h rows) same;
      nexts = refl;
    })

step_on : (row : Row) (rows : List Row) (this : Row) (id k : ℕ) → conflicts row.ask this.ask ≡ false → Steps rows this id k → Steps (row ∷ rows) this id (suc k)
step_on row rows this id k free s =
    let skip : first_conflict (row ∷ rows) this ≡ first_conflict rows this = skips row rows this free in
    record {
      stop = λ past. skip ∙ s.stop past;
      hit = λ d less conflict. skip ∙ s.hit d less conflict;
      go = λ d clear. skip ∙ s.go d clear;
      next = s.next;
      nexts = s.nexts;
    }

step_place : (row : Row) (rows : List Row) (this : Row) (id place : ℕ) (o : Option ℕ) → place_in id rows ≡ o → (row.id == id) ≡ false → conflicts row.ask this.ask ≡ false → ((k : ℕ) → place_in id rows ≡ Some k → Steps rows this id k) → place_in id (row ∷ rows) ≡ Some place → Steps (row ∷ rows) this id place
step_place row rows this id place (Some k) is other free rest at =
    let more : suc k ≡ place = same_Some (suc k) place (subst (λ (r : Option ℕ). option_map suc r ≡ Some place) is (subst (λ (t : Bool). cond t (Some 0) (option_map suc (place_in id rows)) ≡ Some place) other at)) in
    subst (Steps (row ∷ rows) this id) more (step_on row rows this id k free (rest k is))
step_place row rows this id place None is other free rest at =
    let none : None ≡ Some place = subst (λ (r : Option ℕ). option_map suc r ≡ Some place) is (subst (λ (t : Bool). cond t (Some 0) (option_map suc (place_in id rows)) ≡ Some place) other at) in cc

step_test : (t : Bool) (row : Row) (rows : List Row) (this : Row) (id place : ℕ) → is_of (head_of this.ask) row ≡ t → All (λ (later : Row). row.id < later.id) rows → IsInGroup row.ask → IsInGroup this.ask
    → ((k : ℕ) → first_of (head_of this.ask) rows ≡ Some id → place_in id rows ≡ Some k → Steps rows this id k) → option_map (λ (r : Row). r.id) (cond t (Some row) (find (is_of (head_of this.ask)) rows)) ≡ Some id → place_in id (row ∷ rows) ≡ Some place → Steps (row ∷ rows) this id place
step_test true row rows this id place test below in_row in_this rest is at = step_here row rows this id place below (eqb-true (head_of row.ask) (head_of this.ask) test) (same_Some row.id id is) at
step_test false row rows this id place test below in_row in_this rest is at =
    let less : row.id < id = first_behind (head_of this.ask) id row rows below is in
    step_place row rows this id place (place_in id rows) refl (ne_eqb row.id id (λ e. absurd (omega arith))) (apart row.ask this.ask in_row in_this test) (λ k there. rest k is there) at

pub steps : (rows : List Row) (this : Row) (id place : ℕ) → IsAscending rows → All (λ (row : Row). IsInGroup row.ask) rows → IsInGroup this.ask → first_of (head_of this.ask) rows ≡ Some id → place_in id rows ≡ Some place → Steps rows this id place
steps [] this id place order groups group is at = cc
steps (row ∷ rows) this id place order groups group is at =
    step_test (is_of (head_of this.ask) row) row rows this id place refl order.0 (All-head (λ (r : Row). IsInGroup r.ask) row rows groups) group
    (λ k more there. steps rows this id k order.1 (All-tail (λ (r : Row). IsInGroup r.ask) row rows groups) group more there) is at

-- none of the chain: none is in the way
none_test : (t : Bool) (row : Row) (rows : List Row) (this : Row) → is_of (head_of this.ask) row ≡ t → IsInGroup row.ask → IsInGroup this.ask → (first_of (head_of this.ask) rows ≡ None → first_conflict rows this ≡ None)
    → option_map (λ (r : Row). r.id) (cond t (Some row) (find (is_of (head_of this.ask)) rows)) ≡ None → first_conflict (row ∷ rows) this ≡ None
none_test true row rows this test in_row in_this rest is = cc
none_test false row rows this test in_row in_this rest is =
    skips row rows this (apart row.ask this.ask in_row in_this test) ∙ rest is

pub none_in_chain : (rows : List Row) (this : Row) → All (λ (row : Row). IsInGroup row.ask) rows → IsInGroup this.ask → first_of (head_of this.ask) rows ≡ None → first_conflict rows this ≡ None
none_in_chain [] this groups group is = refl
none_in_chain (row ∷ rows) this groups group is =
    none_test (is_of (head_of this.ask) row) row rows this refl (All-head (λ (r : Row). IsInGroup r.ask) row rows groups) group (λ more. none_in_chain rows this (All-tail (λ (r : Row). IsInGroup r.ask) row rows groups) group more) is

-- the first of a chain has a place
there_test : (t u : Bool) (row : Row) (rows : List Row) (id : ℕ) (rest : Option Row) (o : Option ℕ) → (row.id == id) ≡ u → (option_map (λ (r : Row). r.id) rest ≡ Some id → o ≡ None → ⊥) → option_map (λ (r : Row). r.id) (cond t (Some row) rest) ≡ Some id → cond u (Some 0) (option_map suc o) ≡ None → ⊥
there_test t true row rows id rest o test later is none = cc
there_test true false row rows id rest o test later is none = absurd (eqb-false row.id id test (same_Some row.id id is))
there_test false false row rows id rest None test later is none = later is refl
there_test false false row rows id rest (Some k) test later is none = cc

pub first_is_there : (head id : ℕ) (rows : List Row) → first_of head rows ≡ Some id → place_in id rows ≡ None → ⊥
first_is_there head id [] is none = cc
first_is_there head id (row ∷ rows) is none = there_test (is_of head row) (row.id == id) row rows id (find (is_of head) rows) (place_in id rows) refl (λ now missing. first_is_there head id rows now missing) is none

pub ascending_drop : (n : ℕ) (rows : List Row) → IsAscending rows → IsAscending (drop n rows)
ascending_drop zero rows order = order
ascending_drop (suc n) [] order = tt
ascending_drop (suc n) (row ∷ rows) order = ascending_drop n rows order.1

-- ---- links

-- the links of the rows before others
abbrev pub befores : List Row → List Row → List (Option ℕ)
befores [] back = []
befores (row ∷ front) back = first_of (head_of row.ask) (front ++ back) ∷ befores front back

pub nexts_append : (front back : List Row) → nexts_of (front ++ back) ≡ befores front back ++ nexts_of back
nexts_append [] back = refl
nexts_append (row ∷ front) back = ap (λ (ns : List (Option ℕ)). first_of (head_of row.ask) (front ++ back) ∷ ns) (nexts_append front back)

pub length-befores : (front back : List Row) → length (befores front back) ≡ length front
length-befores [] back = refl
length-befores (row ∷ front) back = ap suc (length-befores front back)

-- only in the chain of this head is another the first
abbrev pub DifferAt : ℕ → List Row → List Row → Type 0
DifferAt head rows others = (k : ℕ) → k ≢ head → first_of k rows ≡ first_of k others

-- a row of the chain stands in front where it has a last place
some_test : (t : Bool) (row : Row) (o : Option ℕ) (rest : Option Row) → (is_some o ≡ is_some rest) → is_some (further t o) ≡ is_some (cond t (Some row) rest)
some_test true row None rest same = refl
some_test true row (Some k) rest same = refl
some_test false row None rest same = same
some_test false row (Some k) rest same = same

last_tells : (head : ℕ) (rows : List Row) → is_some (last_of head rows) ≡ is_some (find (is_of head) rows)
last_tells head [] = refl
last_tells head (row ∷ rows) = some_test (is_of head row) row (last_of head rows) (find (is_of head) rows) (last_tells head rows)

or_front : (front : Option Row) (back : Option ℕ) → is_some front ≡ true → option_or (option_map (λ (r : Row). r.id) front) back ≡ option_map (λ (r : Row). r.id) front
or_front (Some row) back some = refl
or_front None back some = cc

or_back : (front : Option Row) (back : Option ℕ) → is_some front ≡ false → option_or (option_map (λ (r : Row). r.id) front) back ≡ back
or_back (Some row) back some = cc
or_back None back some = refl

-- a chain without a first has no last
none_found : (o : Option Row) → option_map (λ (r : Row). r.id) o ≡ None → is_some o ≡ false
none_found None is = refl
none_found (Some row) is = cc

none_there : (o : Option ℕ) → is_some o ≡ false → o ≡ None
none_there None is = refl
none_there (Some k) is = cc

pub no_last : (head : ℕ) (rows : List Row) → first_of head rows ≡ None → last_of head rows ≡ None
no_last head rows none = none_there (last_of head rows) (last_tells head rows ∙ none_found (find (is_of head) rows) none)

-- none of its chain stands before the first row of it
before_test : (t : Bool) (first : Row) (o : Option ℕ) (rest : Option Row) (id : ℕ) → first.id < id → (option_map (λ (r : Row). r.id) rest ≡ Some id → o ≡ None) → option_map (λ (r : Row). r.id) (cond t (Some first) rest) ≡ Some id → further t o ≡ None
before_test true first o rest id less later is = let same : first.id ≡ id = same_Some first.id id is in absurd (omega arith)
before_test false first o rest id less later is = rw (later is) refl

pub none_before : (head : ℕ) (front : List Row) (row : Row) (back : List Row) → IsAscending (front ++ row ∷ back) → first_of head (front ++ row ∷ back) ≡ Some row.id → last_of head front ≡ None
none_before head [] row back order is = refl
none_before head (first ∷ front) row back order is =
    let less : first.id < (get_or (front ++ row ∷ back) (length front) row).id = order.0 (length front) row (omega (arith, length-append front (row ∷ back))) in
    let it : get_or (front ++ row ∷ back) (length front) row ≡ row = get_or_at front row back row (length front) refl in
    let same : (get_or (front ++ row ∷ back) (length front) row).id ≡ row.id = ap (λ (r : Row). r.id) it in
    before_test (is_of head first) first (last_of head front) (find (is_of head) (front ++ row ∷ back)) row.id (omega arith) (λ now. none_before head front row back order.1 now) is

-- the first of a chain behind a row that is in it, and behind none
pub first_in_front : (head k : ℕ) (front back : List Row) → last_of head front ≡ Some k → first_of head (front ++ back) ≡ first_of head front
first_in_front head k front back is = first_append head front back ∙ or_front (find (is_of head) front) (first_of head back) (sym (last_tells head front) ∙ ap is_some is)

pub first_in_back : (head : ℕ) (front back : List Row) → last_of head front ≡ None → first_of head (front ++ back) ≡ first_of head back
first_in_back head front back is = first_append head front back ∙ or_back (find (is_of head) front) (first_of head back) (sym (last_tells head front) ∙ ap is_some is)

pub first_elsewhere : (head k : ℕ) (front back others : List Row) → DifferAt head back others → k ≢ head → first_of k (front ++ back) ≡ first_of k (front ++ others)
first_elsewhere head k front back others differ apart = first_append k front back ∙ ap (option_or (first_of k front)) (differ k apart) ∙ sym (first_append k front others)

link_test : (t : Bool) (o : Option ℕ) (head : ℕ) (row : Row) (front back others : List Row) → is_of head row ≡ t → last_of head front ≡ o → DifferAt head back others → put_next o (first_of head others) (befores front back) ≡ befores front others
    → put_next (further t o) (first_of head others) (befores (row ∷ front) back) ≡ befores (row ∷ front) others
link_test true (Some k) head row front back others test is differ rest =
    let same : head_of row.ask ≡ head = eqb-true (head_of row.ask) head test in
    let here : first_of (head_of row.ask) (front ++ back) ≡ first_of (head_of row.ask) (front ++ others) =
    subst (λ h. first_of h (front ++ back) ≡ first_of h (front ++ others)) (sym same) (first_in_front head k front back is ∙ sym (first_in_front head k front others is)) in
    rw (here, rest) refl
link_test true None head row front back others test is differ rest =
    let same : head_of row.ask ≡ head = eqb-true (head_of row.ask) head test in
    let here : first_of head others ≡ first_of (head_of row.ask) (front ++ others) =
    subst (λ h. first_of head others ≡ first_of h (front ++ others)) (sym same) (sym (first_in_back head front others is)) in
    rw (here, rest) refl
link_test false (Some k) head row front back others test is differ rest =
    let here : first_of (head_of row.ask) (front ++ back) ≡ first_of (head_of row.ask) (front ++ others) = first_elsewhere head (head_of row.ask) front back others differ (eqb-false (head_of row.ask) head test) in
    rw (here, rest) refl
link_test false None head row front back others test is differ rest =
    let here : first_of (head_of row.ask) (front ++ back) ≡ first_of (head_of row.ask) (front ++ others) = first_elsewhere head (head_of row.ask) front back others differ (eqb-false (head_of row.ask) head test) in
    rw (here, rest) refl

pub linked : (head : ℕ) (front back others : List Row) → DifferAt head back others → put_next (last_of head front) (first_of head others) (befores front back) ≡ befores front others
linked head [] back others differ = refl
linked head (row ∷ front) back others differ =
    link_test (is_of head row) (last_of head front) head row front back others refl refl differ (linked head front back others differ)

last_within_test : (t : Bool) (o : Option ℕ) (n k : ℕ) → ((m : ℕ) → o ≡ Some m → m < n) → further t o ≡ Some k → k < suc n
last_within_test t (Some m) n k rest is = let same : suc m ≡ k = same_Some (suc m) k is in let less : m < n = rest m refl in omega arith
last_within_test true None n k rest is = let same : 0 ≡ k = same_Some 0 k is in omega arith
last_within_test false None n k rest is = cc

pub last_within : (head : ℕ) (rows : List Row) (k : ℕ) → last_of head rows ≡ Some k → k < length rows
last_within head [] k is = cc
last_within head (row ∷ rows) k is = last_within_test (is_of head row) (last_of head rows) (length rows) k (λ m now. last_within head rows m now) is

-- one more row at the end
push_test : (t u : Bool) (o : Option ℕ) (n : ℕ) → further t (cond u (Some n) o) ≡ cond u (Some (suc n)) (further t o)
push_test t true o n = refl
push_test t false o n = refl

push_first : (t : Bool) → further t None ≡ cond t (Some 0) None
push_first true = refl
push_first false = refl

pub last_push : (head : ℕ) (rows : List Row) (row : Row) → last_of head (rows ++ row ∷ []) ≡ cond (is_of head row) (Some (length rows)) (last_of head rows)
last_push head [] row = push_first (is_of head row)
last_push head (first ∷ rows) row = ap (further (is_of head first)) (last_push head rows row) ∙ push_test (is_of head first) (is_of head row) (last_of head rows) (length rows)

-- the place of the last row of a chain among the first so many rows and one more
pub last_at : (head : ℕ) (rows : List Row) (place : ℕ) (d : Row) → place < length rows → last_of head (take (suc place) rows) ≡ cond (head_of (get_or rows place d).ask == head) (Some place) (last_of head (take place rows))
last_at head rows place d lt =
    let more : take (suc place) rows ≡ take place rows ++ get_or rows place d ∷ [] = take-suc rows place d lt in
    let size : length (take place rows) ≡ place = length-take-le place rows (omega arith) in
    ap (last_of head) more ∙ last_push head (take place rows) (get_or rows place d) ∙ ap (λ n. cond (head_of (get_or rows place d).ask == head) (Some n) (last_of head (take place rows))) size

pub last_before : (head : ℕ) (rows : List Row) (place : ℕ) (d : Row) → 0 < place → place ≤ length rows
    → last_of head (take place rows) ≡ cond (head_of (get_or rows (place - 1) d).ask == head) (Some (place - 1)) (last_of head (take (place - 1) rows))
last_before head rows place d some within =
    let next : place ≡ suc (place - 1) = omega arith in
    ap (λ n. last_of head (take n rows)) next ∙ last_at head rows (place - 1) d (omega arith)
