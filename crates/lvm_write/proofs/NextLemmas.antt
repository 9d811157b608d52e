-- The next status from its rows, its dirty volumes and its marks.
use Rattle.std.proofs.Common.{◌≡◌, inl, inr, ⊎_elim, ℕ, ◌*◌, ◌^◌, ◌<◌, ◌≤◌, Bool, true, false, ◌||◌, ◌&&◌, ◌==◌, List, [], ◌∷◌, length, get_or, drop, Some, None, refl, sym, ap, subst, ◌∙◌, arith, eq-eqb}
use Rattle.std.specs.Prelude.{Result, Ok, Err, IfOk, IsTrue, IsFalse, if◌then◌else◌, not, nat_lt, find, filter, All}
use Rattle.std.specs.List.{list_any}
use Rattle.std.proofs.lemmas.Bool.{eqb-true}
use Rattle.std.proofs.lemmas.Bool.Decides.{nat_tests}
use Rattle.std.proofs.lemmas.List.Elements.{All-tail, All-cons, All-nil}
use Rattle.std.proofs.lemmas.List.Kept.{AllPairs-filter}
use Rattle.std.proofs.lemmas.Map.Views.{any-filter_same}
use Rattle.lvm_num.specs.declared.place.Pp.{Pp}
use Rattle.lvm_num.specs.declared.record.Stamp.{Stamp}
use Rattle.lvm_num.specs.declared.descriptor.PvRow.{PvRow}
use Rattle.lvm_num.specs.declared.descriptor.LvRow.{LvRow}
use Rattle.lvm_num.specs.declared.descriptor.Descriptor.{Descriptor}
use Rattle.lvm_num.specs.declared.status.StatusRow.{StatusRow}
use Rattle.lvm_num.specs.declared.status.Status.{Status}
use Rattle.lvm_num.specs.Disks.{Disks}
use Rattle.lvm_num.specs.Descriptor.{IsValid, IsMember, IsPartitionOf, is_member, copies_of, partitions_in, most_members}
use Rattle.lvm_num.specs.Record.{Stamped}
use Rattle.lvm_num.specs.Status.{IsValidStatus, AreDirty, IsVolumeNumber, calls_stale, calls_dirty}
use Rattle.lvm_num.proofs.AmongLemmas.{one_of_left, one_of_right, one_of_take, one_of_drop, all_one}
use Rattle.lvm_kept.specs.Group.{IsOneOf, IsSome}
use Rattle.lvm_status.specs.Table.{has_row}
use Rattle.lvm_write.specs.Next.{IsNextStatus, IsLeftBehind, has_passive}
use Rattle.lvm_num.specs.Modes.{is_passive}
use Rattle.lvm_write.specs.Rows.{AreMemberRows}
use Rattle.lvm_status.specs.Marking.{is_served, IsLeftIn, MarksLost, HasMark}
use Rattle.lvm_write.proofs.RowsLemmas.{found_one}
use Rattle.lvm_status.proofs.MarkingLemmas.{has_row-same}

-- ---- elements

pub copy_in_map : (row : LvRow) (lp : ℕ) (p : Pp) → IsOneOf (copies_of row lp) p → IsOneOf row.map p
copy_in_map row lp p is = one_of_drop (lp * row.copies) row.map p (one_of_take row.copies (drop (lp * row.copies) row.map) p is)

pub in_partitions : (rows : List LvRow) (row : LvRow) (p : Pp) → IsOneOf rows row → IsOneOf row.map p → IsOneOf (partitions_in rows) p
in_partitions [] row p is at = absurd is
in_partitions (r ∷ rs) row p (inl e) at = one_of_left r.map (partitions_in rs) p (subst (λ (x : LvRow). IsOneOf x.map p) e at)
in_partitions (r ∷ rs) row p (inr there) at = one_of_right r.map (partitions_in rs) p (in_partitions rs row p there at)

-- tests that agree on the elements
any_same : {X : Type 0} (p q : X → Bool) (xs : List X) → ((x : X) → IsOneOf xs x → p x ≡ q x) → list_any p xs ≡ list_any q xs
any_same p q [] same = refl
any_same p q (x ∷ xs) same = λ i. same x (inl refl) i || any_same p q xs (λ y is. same y (inr is)) i

some_any : {X : Type 0} (q : X → Bool) (xs : List X) → list_any q xs ≡ true → IsSome (filter q xs)
some_any q [] e = absurd cc
some_any q (x ∷ xs) e = by_test (q x) e (some_any q xs)
  where
    by_test : (t : Bool) → t || list_any q xs ≡ true → (list_any q xs ≡ true → IsSome (filter q xs)) → IsSome (if t then x ∷ filter q xs else filter q xs)
    by_test true e rest = tt
    by_test false e rest = rest e

any_some : {X : Type 0} (q : X → Bool) (xs : List X) → IsSome (filter q xs) → list_any q xs ≡ true
any_some q [] some = absurd some
any_some q (x ∷ xs) some = by_test (q x) some (any_some q xs)
  where
    by_test : (t : Bool) → IsSome (if t then x ∷ filter q xs else filter q xs) → (IsSome (filter q xs) → list_any q xs ≡ true) → t || list_any q xs ≡ true
    by_test true some rest = refl
    by_test false some rest = rest some

-- ---- members

any_found : (rows : List PvRow) (disk : ℕ) (row : PvRow) → find (λ (r : PvRow). r.disk == disk) rows ≡ Some row → list_any (λ (r : PvRow). r.disk == disk) rows ≡ true
any_found [] disk row e = absurd (none row e)
  where
    none : (r : PvRow) → None ≡ Some r → ⊥
    none r e = cc
any_found (r ∷ rs) disk row e = by_test (r.disk == disk) e (any_found rs disk row)
  where
    by_test : (t : Bool) → (if t then Some r else find (λ (x : PvRow). x.disk == disk) rs) ≡ Some row → (find (λ (x : PvRow). x.disk == disk) rs ≡ Some row → list_any (λ (x : PvRow). x.disk == disk) rs ≡ true)
        → t || list_any (λ (x : PvRow). x.disk == disk) rs ≡ true
    by_test true e rest = refl
    by_test false e rest = rest e

pub found_disk : (rows : List PvRow) (disk : ℕ) (row : PvRow) → find (λ (r : PvRow). r.disk == disk) rows ≡ Some row → row.disk ≡ disk
found_disk [] disk row e = absurd (none row e)
  where
    none : (r : PvRow) → None ≡ Some r → ⊥
    none r e = cc
found_disk (r ∷ rs) disk row e = by_test (r.disk == disk) refl e (found_disk rs disk row)
  where
    by_test : (t : Bool) → (r.disk == disk) ≡ t → (if t then Some r else find (λ (x : PvRow). x.disk == disk) rs) ≡ Some row → (find (λ (x : PvRow). x.disk == disk) rs ≡ Some row → row.disk ≡ disk) → row.disk ≡ disk
    by_test true is e rest = let same : r ≡ row = cc in subst (λ (x : PvRow). x.disk ≡ disk) same (eqb-true r.disk disk is)
    by_test false is e rest = rest e

pub is_member_of : (d : Descriptor) (p : Pp) → IsPartitionOf d p → IsTrue (is_member d p.disk)
is_member_of d p of = any_found d.pvs p.disk of.0 of.1

member_below : (rows : List PvRow) (disk : ℕ) → All IsMember rows → list_any (λ (r : PvRow). r.disk == disk) rows ≡ true → disk < 128
member_below [] disk all e = absurd cc
member_below (r ∷ rs) disk all e = by_test (r.disk == disk) refl e (member_below rs disk (All-tail IsMember r rs all))
  where
    by_test : (t : Bool) → (r.disk == disk) ≡ t → t || list_any (λ (x : PvRow). x.disk == disk) rs ≡ true → (list_any (λ (x : PvRow). x.disk == disk) rs ≡ true → disk < 128) → disk < 128
    by_test true is e rest = let low = (all 0 r (omega arith)).disk in let same = eqb-true r.disk disk is in omega (arith, low, same)
    by_test false is e rest = rest e

pub member_is_disk : (d : Descriptor) → IsValid d → (disk : ℕ) → IsTrue (is_member d disk) → disk < 128
member_is_disk d valid disk is = member_below d.pvs disk valid.members.each is

-- each copy of a volume of the group is on a member
pub copy_is_placed : (d : Descriptor) → IsValid d → (row : LvRow) (lp : ℕ) (p : Pp) → IsOneOf d.lvs row → IsOneOf (copies_of row lp) p → IsPartitionOf d p
copy_is_placed d valid row lp p volume one = all_one (IsPartitionOf d) (partitions_in d.lvs) p valid.maps.places (in_partitions d.lvs row p volume (copy_in_map row lp p one))

-- below the number of all disks each member is
low_member : (d : Descriptor) → IsValid d → (disk : ℕ) → nat_lt disk 128 && is_member d disk ≡ is_member d disk
low_member d valid disk = by_test (is_member d disk) refl
  where
    below : disk < 128 → nat_lt disk 128 ≡ true
    below low = grind (arith, nat_tests)

    both_true : (b : Bool) → b ≡ true → b && true ≡ true
    both_true true e = refl
    both_true false e = e

    and_false : (b : Bool) → b && false ≡ false
    and_false true = refl
    and_false false = refl

    by_test : (t : Bool) → is_member d disk ≡ t → nat_lt disk 128 && t ≡ t
    by_test true is = both_true (nat_lt disk 128) (below (member_is_disk d valid disk is))
    by_test false is = and_false (nat_lt disk 128)

-- ---- the status before it is marked

filter_all : (P : ℕ → Type 0) (q : ℕ → Bool) (xs : List ℕ) → All P xs → All P (filter q xs)
filter_all P q [] all = All-nil P
filter_all P q (x ∷ xs) all = by_test (q x) (filter_all P q xs (All-tail P x xs all))
  where
    by_test : (t : Bool) → All P (filter q xs) → All P (if t then x ∷ filter q xs else filter q xs)
    by_test true rest = All-cons P x (filter q xs) (all 0 x (omega arith)) rest
    by_test false rest = rest

one_passes : (rows : List StatusRow) (q : StatusRow → Bool) → list_any q rows ≡ true → 1 ≤ length rows
one_passes [] q e = absurd cc
one_passes (r ∷ rs) q e = omega arith

module _ (group : Descriptor) (valid : IsValid group) (answering : Disks) (was : Status) (its : IsValidStatus was) (first : Status)
    (rows : AreMemberRows group answering was 128 first.rows) (fit : length first.rows ≤ length group.pvs) (id : first.id ≡ group.id) (big : first.big ≡ group.big)
    (dirty : first.dirty ≡ filter (has_passive group) was.dirty) where
  first_member : (pvs : List PvRow) → 1 ≤ length pvs → (disk : ℕ) × (list_any (λ (r : PvRow). r.disk == disk) pvs ≡ true)
  first_member [] some = absurd (omega (arith, some))
  first_member (r ∷ rs) some = (r.disk, ap (λ (b : Bool). b || list_any (λ (x : PvRow). x.disk == r.disk) rs) (eq-eqb r.disk r.disk refl))

  pub rows_are : (d : ℕ) → has_row first d ≡ is_member group d
  rows_are d = rows.have d ∙ low_member group valid d

  pub first_valid : IsValidStatus first
  first_valid =
      let one = first_member group.pvs valid.head.a_member in
      record {
        some_id = λ e. valid.head.some_id (sym id ∙ e);
        id = subst (λ (n : ℕ). n < 2 ^ 64) (sym id) valid.head.id;
        a_row = one_passes first.rows (λ (r : StatusRow). r.disk == one.0) (rows_are one.0 ∙ one.1);
        rows_fit = subst (λ (b : Bool). length first.rows ≤ most_members b) (sym big) (let members = valid.head.members in omega (arith, fit, members));
        rows = rows.rows_rise;
        dirty = subst AreDirty (sym dirty) (record {
          each = filter_all IsVolumeNumber (has_passive group) was.dirty its.dirty.each;
          numbers_rise = AllPairs-filter (λ a b. a < b) (has_passive group) was.dirty its.dirty.numbers_rise;
        });
      }

  pub all_markable : All (HasMark first) (partitions_in group.lvs)
  all_markable k d lt = markable (get_or (partitions_in group.lvs) k d) (valid.maps.places k d lt)
    where
      markable : (p : Pp) → IsPartitionOf group p → HasMark first p
      markable p of = record {
        disk = member_is_disk group valid p.disk (is_member_of group p of);
        partition = (let most = (found_one IsMember (λ (r : PvRow). r.disk == p.disk) group.pvs of.0 of.1 valid.members.each).partitions in let less = of.2 in omega (arith, most, less));
        row = rows_are p.disk ∙ is_member_of group p of;
      }

  -- ---- and when it is

  -- of a member's partition it says what was said
  stale_as : (p : Pp) → IsTrue (is_member group p.disk) → calls_stale first p ≡ calls_stale was p
  stale_as p member = rows.stale p ∙ ap (λ (b : Bool). b && calls_stale was p) (low_member group valid p.disk ∙ member)

  not_stale : (p : Pp) → IsFalse (is_member group p.disk) → IsFalse (calls_stale first p)
  not_stale p stranger = rows.stale p ∙ ap (λ (b : Bool). b && calls_stale was p) (low_member group valid p.disk ∙ stranger)

  module _ (stamp : Stamp) (new : Status) (marks : MarksLost answering (IsLeftIn answering first group.lvs) first new) where
    old : Stamped Status
    old = record { stamp = stamp; value = was }

    serves : (row : LvRow) (lp : ℕ) → IsOneOf group.lvs row → is_served answering first (copies_of row lp) ≡ list_any (λ (p : Pp). answering p.disk && not (calls_stale was p)) (copies_of row lp)
    serves row lp volume = any_same (λ (p : Pp). answering p.disk && not (calls_stale first p)) (λ (p : Pp). answering p.disk && not (calls_stale was p)) (copies_of row lp)
        (λ p one. ap (λ (b : Bool). answering p.disk && not b) (stale_as p (is_member_of group p (copy_is_placed group valid row lp p volume one))))

    left_behind : (p : Pp) → IsLeftIn answering first group.lvs p → IsLeftBehind group answering (record { stamp = stamp; value = was }) p
    left_behind p left = record {
      row = left.row;
      lp = left.left.lp;
      volume = left.volume;
      inside = left.left.below;
      one = left.left.left.one;
      absent = left.left.left.absent;
      other = some_any (λ (q : Pp). answering q.disk && not (calls_stale was q)) (copies_of left.row left.left.lp) (sym (serves left.row left.left.lp left.volume) ∙ left.left.left.served);
    }

    behind_left : (p : Pp) → IsLeftBehind group answering (record { stamp = stamp; value = was }) p → IsLeftIn answering first group.lvs p
    behind_left p left = record {
      row = left.row;
      volume = left.volume;
      left = record {
        lp = left.lp;
        below = left.inside;
        left = record {
          one = left.one;
          absent = left.absent;
          served = serves left.row left.lp left.volume ∙ any_some (λ (q : Pp). answering q.disk && not (calls_stale was q)) (copies_of left.row left.lp) left.other;
        };
      };
    }

    on_member : (p : Pp) → IsLeftIn answering first group.lvs p → IsTrue (is_member group p.disk)
    on_member p left = is_member_of group p (copy_is_placed group valid left.row left.left.lp p left.volume left.left.left.one)

    stranger_fresh : (p : Pp) → IsFalse (is_member group p.disk) → (t : Bool) → calls_stale new p ≡ t → t ≡ false
    stranger_fresh p stranger false e = refl
    stranger_fresh p stranger true e = absurd (⊎_elim (λ (was_so : IsTrue (calls_stale first p)). clash (calls_stale first p) was_so (not_stale p stranger))
        (λ (left : IsLeftIn answering first group.lvs p). clash (is_member group p.disk) (on_member p left) stranger) (marks.only p e))
      where
        clash : (b : Bool) → b ≡ true → b ≡ false → ⊥
        clash b e f = cc

    swap : (a b : Bool) → a && b ≡ b && a
    swap true true = refl
    swap true false = refl
    swap false true = refl
    swap false false = refl

    pub next_is : IsNextStatus group answering (record { stamp = stamp; value = was }) new
    next_is = record {
      valid = marks.members.valid;
      id = marks.members.id ∙ id;
      rows = λ d. has_row-same first new marks.members d ∙ rows_are d;
      big = marks.members.big ∙ big;
      missing = λ d. marks.missing d ∙ rows.missing d ∙ ap (λ (b : Bool). b && not (answering d)) (low_member group valid d);
      stale = λ p member. (
        λ is. ⊎_elim (λ (was_so : IsTrue (calls_stale first p)). inl (sym (stale_as p member) ∙ was_so)) (λ left. inr (left_behind p left)) (marks.only p is),
        λ is. ⊎_elim (λ (was_so : IsTrue (calls_stale was p)). marks.kept p (stale_as p member ∙ was_so)) (λ left. marks.marked p (behind_left p left)) is,
      );
      strangers = λ p stranger. stranger_fresh p stranger (calls_stale new p) refl;
      dirty = λ number. ap (λ (ns : List ℕ). list_any (λ n. n == number) ns) (marks.dirty ∙ dirty)
          ∙ any-filter_same (λ n. n == number) (has_passive group) (has_passive group number) (λ k e. ap (has_passive group) (eqb-true k number e)) was.dirty
          ∙ swap (has_passive group number) (calls_dirty was number);
    }

pub ok_more : {X E : Type 0} (P Q : X → Type 0) (r : Result X E) → ((x : X) → P x → Q x) → IfOk r P → IfOk r Q
ok_more P Q (Ok x) more is = more x is
ok_more P Q (Err e) more is = tt

-- the dirty volumes, as the function finds them
pub passive_as : (numbers : List ℕ) (volumes : List LvRow) (dirty : List ℕ) (group : Descriptor) (was : Status) → volumes ≡ group.lvs → dirty ≡ was.dirty
    → numbers ≡ filter (λ n. list_any (λ (row : LvRow). row.number == n && is_passive row.mode) volumes) dirty → numbers ≡ filter (has_passive group) was.dirty
passive_as numbers volumes dirty group was same marks is = is ∙ ap (λ (rows : List LvRow). filter (λ n. list_any (λ (row : LvRow). row.number == n && is_passive row.mode) rows) dirty) same ∙ ap (filter (has_passive group)) marks
