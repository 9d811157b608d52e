-- A queue with one more and with one less.
use Rattle.std.proofs.Common.{◌≡◌, ◌-◌, ◌<◌, ◌++◌, [], ◌∷◌, ℕ, suc, List, Option, Some, None, cond, refl, sym, ◌∙◌, ap, subst, inl, inr, arith, length, take, get_or, set, length-set, replicate}
use Rattle.std.specs.Prelude.{remove}
use Rattle.std.specs.List.{find}
use Rattle.std.specs.Option.{option_map}
use Rattle.std.proofs.lemmas.Bool.{eq-eqb, ne_eqb, cases_eq}
use Rattle.std.proofs.lemmas.List.{append-nil, take_at, get_or_at, set-append_left, get_or-set_same, get_or-set_other, length-replicate, get_or-replicate}
use Rattle.std.proofs.lemmas.List.Edits.{remove-append_right}
use Rattle.std.proofs.lemmas.List.Elements.{All-push, All-nil}
use Rattle.lvm_hold.specs.declared.queue.Held.{Held}
use Rattle.lvm_hold.specs.declared.queue.Row.{Row}
use Rattle.lvm_hold.specs.Conflicts.{IsInGroup}
use Rattle.lvm_hold.specs.Order.{IsAscending}
use Rattle.lvm_hold.specs.Waiting.{AreBelow, without}
use Rattle.lvm_hold.specs.Chains.{head_of, is_of, first_of, nexts_of, last_of, place_in, put_next, put_head, IsChained}
use Rattle.lvm_hold.proofs.OrderLemmas.{ascending_push}
use Rattle.lvm_hold.proofs.PlaceLemmas.{SplitsAt, splits, without_middle, ascending_middle, All-middle}
use Rattle.lvm_hold.proofs.ChainLemmas.{befores, nexts_append, length-befores, DifferAt, linked, last_within, first_in_front, first_in_back, first_elsewhere, none_before}

head_cases : (front back others : List Row) (heads : List (Option ℕ)) (head k : ℕ) (o : Option ℕ) → last_of head front ≡ o → DifferAt head back others → length heads ≡ 2048 → head < 2048
    → get_or heads k None ≡ first_of k (front ++ back) → get_or (put_head o head (first_of head others) heads) k None ≡ first_of k (front ++ others)
head_cases front back others heads head k (Some m) is differ count within was = elim (cases_eq k head) [
  | inl same ↦
      was
      ∙ subst (λ h. first_of h (front ++ back) ≡ first_of h (front ++ others)) (sym same) (first_in_front head m front back is ∙ sym (first_in_front head m front others is))
  | inr other ↦ was ∙ first_elsewhere head k front back others differ other
]
head_cases front back others heads head k None is differ count within was = elim (cases_eq k head) [
  | inl same ↦
      subst (λ h. get_or (set heads head (first_of head others)) h None ≡ first_of h (front ++ others)) (sym same)
      (get_or-set_same heads head (first_of head others) None (omega arith) ∙ sym (first_in_back head front others is))
  | inr other ↦ get_or-set_other heads head k (first_of head others) None other ∙ was ∙ first_elsewhere head k front back others differ other
]

length_put_head : (o : Option ℕ) (head : ℕ) (to : Option ℕ) (heads : List (Option ℕ)) → length (put_head o head to heads) ≡ length heads
length_put_head None head to heads = length-set heads head to
length_put_head (Some k) head to heads = refl

pub length_put_next : (o : Option ℕ) (to : Option ℕ) (nexts : List (Option ℕ)) → length (put_next o to nexts) ≡ length nexts
length_put_next None to nexts = refl
length_put_next (Some k) to nexts = length-set nexts k to

put_next_left : (o to : Option ℕ) (xs ys : List (Option ℕ)) → ((k : ℕ) → o ≡ Some k → k < length xs) → put_next o to (xs ++ ys) ≡ put_next o to xs ++ ys
put_next_left None to xs ys within = refl
put_next_left (Some k) to xs ys within = set-append_left xs ys k to (within k refl)

pub length-nexts_of : (rows : List Row) → length (nexts_of rows) ≡ length rows
length-nexts_of [] = refl
length-nexts_of (row ∷ rows) = ap suc (length-nexts_of rows)

heads_stay : (front back others : List Row) (heads : List (Option ℕ)) (head : ℕ) → DifferAt head back others → length heads ≡ 2048 → head < 2048 → ((k : ℕ) → k < 2048 → get_or heads k None ≡ first_of k (front ++ back))
    → (k : ℕ) → k < 2048 → get_or (put_head (last_of head front) head (first_of head others) heads) k None ≡ first_of k (front ++ others)
heads_stay front back others heads head differ count within was k lt = head_cases front back others heads head k (last_of head front) refl differ count within (was k lt)

-- ---- one more

alone : (row : Row) → first_of (head_of row.ask) (row ∷ []) ≡ Some row.id
alone row = ap (λ t. option_map (λ (r : Row). r.id) (cond t (Some row) None)) (eq-eqb (head_of row.ask) (head_of row.ask) refl)

alone_elsewhere : (row : Row) → DifferAt (head_of row.ask) [] (row ∷ [])
alone_elsewhere row k apart = sym (ap (λ t. option_map (λ (r : Row). r.id) (cond t (Some row) None)) (ne_eqb (head_of row.ask) k (λ e. apart (sym e))))

befores_none : (rows : List Row) → befores rows [] ≡ nexts_of rows
befores_none rows = sym (append-nil (befores rows [])) ∙ sym (nexts_append rows []) ∙ ap nexts_of (append-nil rows)

entered_nexts : (rows : List Row) (row : Row) → put_next (last_of (head_of row.ask) rows) (Some row.id) (nexts_of rows) ++ None ∷ [] ≡ nexts_of (rows ++ row ∷ [])
entered_nexts rows row =
    let link = linked (head_of row.ask) rows [] (row ∷ []) (alone_elsewhere row) in
    ap (λ (ns : List (Option ℕ)). put_next (last_of (head_of row.ask) rows) (Some row.id) ns ++ None ∷ []) (sym (befores_none rows))
    ∙ ap (λ (to : Option ℕ). put_next (last_of (head_of row.ask) rows) to (befores rows []) ++ None ∷ []) (sym (alone row))
    ∙ ap (λ (ns : List (Option ℕ)). ns ++ None ∷ []) link
    ∙ sym (nexts_append rows (row ∷ []))

entered_heads : (rows : List Row) (row : Row) (heads : List (Option ℕ)) → length heads ≡ 2048 → head_of row.ask < 2048 → ((k : ℕ) → k < 2048 → get_or heads k None ≡ first_of k rows)
    → (k : ℕ) → k < 2048 → get_or (put_head (last_of (head_of row.ask) rows) (head_of row.ask) (Some row.id) heads) k None ≡ first_of k (rows ++ row ∷ [])
entered_heads rows row heads count within was k lt =
    ap (λ (to : Option ℕ). get_or (put_head (last_of (head_of row.ask) rows) (head_of row.ask) to heads) k None) (sym (alone row))
    ∙ heads_stay rows [] (row ∷ []) heads (head_of row.ask) (alone_elsewhere row) count within (λ m less. was m less ∙ ap (first_of m) (sym (append-nil rows))) k lt

-- what the calls of one that enters make of it
pub record Enters (rows : List Row) (nexts heads : List (Option ℕ)) (id : ℕ) (ask : Held) (head : ℕ) (before : Option ℕ) : Type 0 where
  pub head_is : head ≡ head_of ask
  pub within : head < 2048
  pub before_is : before ≡ last_of head rows

pub entered : (rows : List Row) (nexts heads : List (Option ℕ)) (id : ℕ) (ask : Held) (head : ℕ) (before : Option ℕ) → IsChained rows nexts heads → AreBelow rows id → IsInGroup ask → Enters rows nexts heads id ask head before
    → IsChained (rows ++ record { id = id; ask = ask } ∷ []) (put_next before (Some id) nexts ++ None ∷ []) (put_head before head (Some id) heads)
entered rows nexts heads id ask head before all below group enters =
    let row : Row = record { id = id; ask = ask } in
    let before_is : before ≡ last_of (head_of ask) rows = enters.before_is ∙ ap (λ h. last_of h rows) enters.head_is in
    let fits : head_of ask < 2048 = subst (λ h. h < 2048) enters.head_is enters.within in
    rw (before_is, enters.head_is)
    (record {
      ascending = ascending_push rows row all.ascending below;
      groups = All-push (λ (r : Row). IsInGroup r.ask) rows row all.groups group;
      nexts_are = ap (λ (ns : List (Option ℕ)). put_next (last_of (head_of ask) rows) (Some id) ns ++ None ∷ []) all.nexts_are ∙ entered_nexts rows row;
      count = length_put_head (last_of (head_of ask) rows) (head_of ask) (Some id) heads ∙ all.count;
      heads_are = entered_heads rows row heads all.count fits all.heads_are;
    })

-- ---- one less

gone_elsewhere : (row : Row) (back : List Row) → DifferAt (head_of row.ask) (row ∷ back) back
gone_elsewhere row back k apart = ap (λ t. option_map (λ (r : Row). r.id) (cond t (Some row) (find (is_of k) back))) (ne_eqb (head_of row.ask) k (λ e. apart (sym e)))

remove_middle : {X : Type 0} (front : List X) (x : X) (back : List X) (n : ℕ) → length front ≡ n → remove (front ++ x ∷ back) n ≡ front ++ back
remove_middle front x back n is = remove-append_right front (x ∷ back) n n is (omega arith) ∙ ap (λ m. front ++ remove (x ∷ back) m) (let e : n - n ≡ 0 = omega arith in e)

left_nexts : (front : List Row) (row : Row) (back : List Row)
    → remove (put_next (last_of (head_of row.ask) front) (first_of (head_of row.ask) back) (nexts_of (front ++ row ∷ back))) (length front) ≡ nexts_of (front ++ back)
left_nexts front row back =
    let head = head_of row.ask in
    let o = last_of (head_of row.ask) front in
    let to = first_of (head_of row.ask) back in
    let before = befores front (row ∷ back) in
    ap (λ (ns : List (Option ℕ)). remove (put_next o to ns) (length front)) (nexts_append front (row ∷ back))
    ∙ ap (λ (ns : List (Option ℕ)). remove ns (length front))
    (put_next_left o to before (nexts_of (row ∷ back)) (λ k is. let lt : k < length front = last_within head front k is in let size : length before ≡ length front = length-befores front (row ∷ back) in omega arith))
    ∙ remove_middle (put_next o to before) to (nexts_of back) (length front) (length_put_next o to before ∙ length-befores front (row ∷ back))
    ∙ ap (λ (ns : List (Option ℕ)). ns ++ nexts_of back) (linked head front (row ∷ back) back (gone_elsewhere row back))
    ∙ sym (nexts_append front back)

left_middle : (front : List Row) (row : Row) (back : List Row) (nexts heads : List (Option ℕ)) → IsChained (front ++ row ∷ back) nexts heads → head_of row.ask < 2048
    → IsChained (front ++ back) (remove (put_next (last_of (head_of row.ask) front) (first_of (head_of row.ask) back) nexts) (length front))
    (put_head (last_of (head_of row.ask) front) (head_of row.ask) (first_of (head_of row.ask) back) heads)
left_middle front row back nexts heads all within = record {
  ascending = ascending_middle front row back all.ascending;
  groups = All-middle (λ (r : Row). IsInGroup r.ask) front row back all.groups;
  nexts_are = ap (λ (ns : List (Option ℕ)). remove (put_next (last_of (head_of row.ask) front) (first_of (head_of row.ask) back) ns) (length front)) all.nexts_are ∙ left_nexts front row back;
  count = length_put_head (last_of (head_of row.ask) front) (head_of row.ask) (first_of (head_of row.ask) back) heads ∙ all.count;
  heads_are = heads_stay front (row ∷ back) back heads (head_of row.ask) (gone_elsewhere row back) all.count within all.heads_are;
}

moved : (rest front : List Row) (row : Row) (back : List Row) (nexts heads : List (Option ℕ)) (place head : ℕ) (before next : Option ℕ) → rest ≡ front ++ back → before ≡ last_of (head_of row.ask) front → next ≡ first_of (head_of row.ask) back → head ≡ head_of row.ask → length front ≡ place
    → IsChained (front ++ back) (remove (put_next (last_of (head_of row.ask) front) (first_of (head_of row.ask) back) nexts) (length front)) (put_head (last_of (head_of row.ask) front) (head_of row.ask) (first_of (head_of row.ask) back) heads)
    → IsChained rest (remove (put_next before next nexts) place) (put_head before head next heads)
moved rest front row back nexts heads place head before next rest_is before_is next_is head_is at all = rw (rest_is, before_is, next_is, head_is, ← at) all

-- what the calls of one that leaves make of it
pub record Leaves (rows : List Row) (nexts : List (Option ℕ)) (id place head : ℕ) (before next : Option ℕ) : Type 0 where
  pub place_is : place_in id rows ≡ Some place
  pub head_is : (d : Row) → head ≡ head_of (get_or rows place d).ask
  pub within : head < 2048
  pub before_is : before ≡ last_of head (take place rows)
  pub next_is : next ≡ get_or nexts place None

module _ (rows : List Row) (nexts heads : List (Option ℕ)) (id place head : ℕ) (before next : Option ℕ) (all : IsChained rows nexts heads) (leaves : Leaves rows nexts id place head before next) where
  s : SplitsAt rows id place
  s = splits rows id place leaves.place_is

  row_is : (d : Row) → get_or rows place d ≡ s.row
  row_is d = ap (λ (rs : List Row). get_or rs place d) s.is ∙ get_or_at s.front s.row s.back d place s.at

  its_head : head ≡ head_of s.row.ask
  its_head = leaves.head_is s.row ∙ ap (λ (r : Row). head_of r.ask) (row_is s.row)

  front_is : take place rows ≡ s.front
  front_is = ap (take place) s.is ∙ take_at s.front (s.row ∷ s.back) place s.at

  rest_is : remove rows place ≡ s.front ++ s.back
  rest_is = ap (λ (rs : List Row). remove rs place) s.is ∙ remove_middle s.front s.row s.back place s.at

  next_is : next ≡ first_of (head_of s.row.ask) s.back
  next_is =
      leaves.next_is ∙ ap (λ (ns : List (Option ℕ)). get_or ns place None) (all.nexts_are ∙ ap nexts_of s.is ∙ nexts_append s.front (s.row ∷ s.back))
      ∙ get_or_at (befores s.front (s.row ∷ s.back)) (first_of (head_of s.row.ask) s.back) (nexts_of s.back) None place (length-befores s.front (s.row ∷ s.back) ∙ s.at)

  before_is : before ≡ last_of (head_of s.row.ask) s.front
  before_is = leaves.before_is ∙ ap (last_of head) front_is ∙ ap (λ h. last_of h s.front) its_head

  pub left : IsChained (remove rows place) (remove (put_next before next nexts) place) (put_head before head next heads)
  left =
      let fits : head_of s.row.ask < 2048 = subst (λ h. h < 2048) its_head leaves.within in
      moved (remove rows place) s.front s.row s.back nexts heads place head before next rest_is before_is next_is its_head s.at
      (left_middle s.front s.row s.back nexts heads (subst (λ (rs : List Row). IsChained rs nexts heads) s.is all) fits)

  pub left_rows : without id rows ≡ remove rows place
  left_rows =
      let order = subst IsAscending s.is all.ascending in
      ap (without id) s.is ∙ subst (λ n. without n (s.front ++ s.row ∷ s.back) ≡ s.front ++ s.back) s.its (without_middle s.front s.row s.back order) ∙ sym rest_is

-- none of a chain stands before its first row
pub none_before_place : (rows : List Row) (head id place : ℕ) → IsAscending rows → place_in id rows ≡ Some place → first_of head rows ≡ Some id → last_of head (take place rows) ≡ None
none_before_place rows head id place order at first =
    let s = splits rows id place at in
    let front_is : take place rows ≡ s.front = ap (take place) s.is ∙ take_at s.front (s.row ∷ s.back) place s.at in
    let its : first_of head (s.front ++ s.row ∷ s.back) ≡ Some s.row.id = ap (first_of head) (sym s.is) ∙ first ∙ ap (λ n. Some n) (sym s.its) in
    ap (last_of head) front_is ∙ none_before head s.front s.row s.back (subst IsAscending s.is order) its

pub new_is_chained : (heads : List (Option ℕ)) (n : ℕ) → n ≡ 2048 → heads ≡ replicate {A = Option ℕ} n None → IsChained [] [] heads
new_is_chained heads n many is =
    let none : Option ℕ = None in
    let size : length (replicate n none) ≡ n = length-replicate n none in
    record {
      ascending = tt;
      groups = All-nil (λ (r : Row). IsInGroup r.ask);
      nexts_are = refl;
      count = ap length is ∙ size ∙ many;
      heads_are = λ head lt. ap (λ (hs : List (Option ℕ)). get_or hs head None) is ∙ get_or-replicate n head none none (omega arith);
    }
