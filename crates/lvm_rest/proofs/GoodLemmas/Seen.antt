-- For each group at rest there is a state that sees what its disks show.
use Rattle.std.proofs.Common.{◌≡◌, ◌↔◌, inl, inr, ℕ, ◌<◌, Bool, true, false, ◌&&◌, ◌||◌, not, List, [], ◌∷◌, Option, Some, None, refl, sym, ap, subst, ◌∙◌, arith}
use Rattle.std.specs.Prelude.{IsTrue, ◌==◌, nat_lt, if◌then◌else◌, find}
use Rattle.std.specs.List.{list_any}
use Rattle.std.proofs.lemmas.Option.{same_Some}
use Rattle.std.proofs.lemmas.Bool.{eqb-true, eq-eqb}
use Rattle.std.proofs.lemmas.Bool.Decides.{nat_tests}
use Rattle.lvm_num.specs.declared.place.Pp.{Pp}
use Rattle.lvm_num.specs.declared.descriptor.LvRow.{LvRow}
use Rattle.lvm_num.specs.declared.descriptor.Descriptor.{Descriptor}
use Rattle.lvm_num.specs.declared.status.Status.{Status}
use Rattle.lvm_num.specs.Disks.{Disks}
use Rattle.lvm_num.specs.Descriptor.{IsValid, copies_of, volume_of}
use Rattle.lvm_num.specs.Geometry.{partition_of}
use Rattle.lvm_num.specs.Record.{Stamped}
use Rattle.lvm_vol.specs.declared.entry.Vol.TheVariants.{Lv}
use Rattle.lvm_vol.specs.Facts.{Fact}
use Rattle.lvm_kept.specs.Contents.{Contents}
use Rattle.lvm_kept.specs.Group.{is_named, IsBlockOf, IsOneOf}
use Rattle.lvm_invariant.specs.State.{ModelState}
use Rattle.lvm_num.specs.Modes.{is_active, is_passive}
use Rattle.lvm_crash.specs.Session.{as_marks, marks_of, view_of, IsBlockIn}
use Rattle.lvm_even.specs.Members.{members_showing}
use Rattle.lvm_even.proofs.Lists.{left_of, right_of, both_of}
use Rattle.lvm_rest.specs.Good.{RestIsSeen}
use Rattle.lvm_even.proofs.Rows.{row_is_volume}

-- ---- is it a copy

abbrev is_same : Pp → Pp → Bool
is_same p q = p.disk == q.disk && p.pp == q.pp

same_is : (p q : Pp) → IsTrue (is_same p q) → p ≡ q
same_is p q is =
    let disk : p.disk ≡ q.disk = eqb-true p.disk q.disk (left_of (p.disk == q.disk) (p.pp == q.pp) is) in
    let pp : p.pp ≡ q.pp = eqb-true p.pp q.pp (right_of (p.disk == q.disk) (p.pp == q.pp) is) in
    λ t. record { disk = disk t; pp = pp t }

same_itself : (p : Pp) → IsTrue (is_same p p)
same_itself p = both_of (p.disk == p.disk) (p.pp == p.pp) (eq-eqb p.disk p.disk refl) (eq-eqb p.pp p.pp refl)

is_among : (ps : List Pp) (p : Pp) → IsTrue (list_any (is_same p) ps) → IsOneOf ps p
is_among [] p is = absurd cc
is_among (q ∷ qs) p is = by (is_same p q) refl (λ rest. is_among qs p rest) is
  where
    by : (t : Bool) → is_same p q ≡ t → (IsTrue (list_any (is_same p) qs) → IsOneOf qs p) → IsTrue (t || list_any (is_same p) qs) → IsOneOf (q ∷ qs) p
    by true e further h = inl (same_is p q e)
    by false e further h = inr (further h)

among_is : (ps : List Pp) (p : Pp) → IsOneOf ps p → IsTrue (list_any (is_same p) ps)
among_is [] p one = absurd one
among_is (q ∷ qs) p (inl is) = front (is_same p q) (list_any (is_same p) qs) (subst (λ (r : Pp). IsTrue (is_same p r)) is (same_itself p))
  where
    front : (a b : Bool) → IsTrue a → IsTrue (a || b)
    front true b h = refl
    front false b h = absurd cc
among_is (q ∷ qs) p (inr one) = behind (is_same p q) (list_any (is_same p) qs) (among_is qs p one)
  where
    behind : (a b : Bool) → IsTrue b → IsTrue (a || b)
    behind true b h = refl
    behind false b h = h

-- the partition is a copy of the block, by the volume of its number
abbrev is_copy_by : Option LvRow → ℕ → Disks → ℕ → Pp → Bool
is_copy_by None mib members b p = false
is_copy_by (Some row) mib members b p = nat_lt (partition_of mib b) row.lps && (list_any (is_same p) (copies_of row (partition_of mib b)) && members p.disk)

abbrev notes_by : Option LvRow → Bool
notes_by None = false
notes_by (Some row) = is_active row.mode

abbrev mark_by : Option LvRow → Bool
mark_by None = false
mark_by (Some row) = is_passive row.mode

record IsRowOf (rows : List LvRow) (lv : ℕ) (row : LvRow) : Type 0 where
  one : IsOneOf rows row
  number : row.number ≡ lv

row_of : (rows : List LvRow) (lv : ℕ) (row : LvRow) → find (λ (r : LvRow). r.number == lv) rows ≡ Some row → IsRowOf rows lv row
row_of [] lv row is = absurd cc
row_of (r ∷ rs) lv row is = by (r.number == lv) refl (λ rest. row_of rs lv row rest) is
  where
    by : (t : Bool) → (r.number == lv) ≡ t → (find (λ (r : LvRow). r.number == lv) rs ≡ Some row → IsRowOf rs lv row) → (if t then Some r else find (λ (r : LvRow). r.number == lv) rs) ≡ Some row → IsRowOf (r ∷ rs) lv row
    by true e further h = let same : row ≡ r = sym (same_Some r row h) in record { one = inl same; number = ap (λ (x : LvRow). x.number) same ∙ eqb-true r.number lv e }
    by false e further h = let rest = further h in record { one = inr rest.one; number = rest.number }

module _ (facts : List Fact) (group : Descriptor) (stands : Stamped Status) (there : Disks) (c : Contents) (valid : IsValid group) where
  -- the state, of which nothing is under way
  abbrev seen : ModelState
  seen = record {
    media = view_of None group c;
    queue = λ i. None;
    facts = facts;
    name = λ i. record { run = 0; id = i; client = 0; vol = Lv 0; at = 0; count = 0; write = false; blocks = [] };
    is_copy = λ lv b p. is_copy_by (volume_of group lv) group.mib (members_showing c group) b p;
    is_active = λ lv. notes_by (volume_of group lv);
    is_passive = λ lv. mark_by (volume_of group lv);
    committed = as_marks None stands;
    in_flight = None;
    wanted = marks_of None stands.value;
    status_flying = λ d. false;
    missing = λ d. not (there d);
    cache = λ lv g. false;
    home_note = is_named c;
    flying_note = λ d. None;
    open_copy = None;
    step_write = None;
    beside = None;
  }

  copies : (row : LvRow) (lp b : ℕ) (p : Pp) → IsOneOf group.lvs row → IsBlockOf group.mib row lp b → IsTrue (seen.is_copy row.number b p) ↔ (IsOneOf (copies_of row lp) p × IsTrue (members_showing c group p.disk))
  copies row lp b p one inside =
      subst (λ (o : Option LvRow). IsTrue (is_copy_by o group.mib (members_showing c group) b p) ↔ (IsOneOf (copies_of row lp) p × IsTrue (members_showing c group p.disk))) (sym (row_is_volume group row valid one))
      (subst (λ (n : ℕ). IsTrue (is_copy_by (Some row) group.mib (members_showing c group) b p) ↔ (IsOneOf (copies_of row n) p × IsTrue (members_showing c group p.disk))) inside.partition (
        λ is. let rest = right_of (nat_lt (partition_of group.mib b) row.lps) (list_any (is_same p) (copies_of row (partition_of group.mib b)) && members_showing c group p.disk) is in (
          is_among (copies_of row (partition_of group.mib b)) p (left_of (list_any (is_same p) (copies_of row (partition_of group.mib b))) (members_showing c group p.disk) rest),
          right_of (list_any (is_same p) (copies_of row (partition_of group.mib b))) (members_showing c group p.disk) rest,
        ),
        λ is. both_of (nat_lt (partition_of group.mib b) row.lps) (list_any (is_same p) (copies_of row (partition_of group.mib b)) && members_showing c group p.disk) low
            (both_of (list_any (is_same p) (copies_of row (partition_of group.mib b))) (members_showing c group p.disk) (among_is (copies_of row (partition_of group.mib b)) p is.0) is.1),
      ))
    where
      low : IsTrue (nat_lt (partition_of group.mib b) row.lps)
      low = below (partition_of group.mib b) row.lps (subst (λ (n : ℕ). n < row.lps) (sym inside.partition) inside.inside)
        where
          below : (a n : ℕ) → a < n → IsTrue (nat_lt a n)
          below a n less = grind (arith, nat_tests)

  block_in : (lv b : ℕ) (p : Pp) → IsTrue (seen.is_copy lv b p) → IsBlockIn group lv b
  block_in lv b p copy = by (volume_of group lv) refl copy
    where
      by : (o : Option LvRow) → volume_of group lv ≡ o → IsTrue (is_copy_by o group.mib (members_showing c group) b p) → IsBlockIn group lv b
      by None e is = absurd cc
      by (Some row) e is =
          let of = row_of group.lvs lv row e in
          let low = left_of (nat_lt (partition_of group.mib b) row.lps) (list_any (is_same p) (copies_of row (partition_of group.mib b)) && members_showing c group p.disk) is in
          record { row = row; lp = partition_of group.mib b; volume = of.one; number = of.number; inside = record { inside = below (partition_of group.mib b) row.lps low; partition = refl } }
        where
          below : (a n : ℕ) → IsTrue (nat_lt a n) → a < n
          below a n is = grind (arith, nat_tests)

pub rest_is_seen : RestIsSeen
rest_is_seen facts group stands there c valid = (
  seen facts group stands there c valid,
  refl,
  record { queue = λ i. refl; in_flight = refl; wanted = refl; no_status = λ d. refl; no_note = λ d. refl; no_copy = refl; no_step = refl },
  record {
    copies = record {
      copies = copies facts group stands there c valid;
      inside = block_in facts group stands there c valid;
      notes = λ row one. ap notes_by (row_is_volume group row valid one);
      mark = λ row one. ap mark_by (row_is_volume group row valid one);
    };
    beside = refl;
    blocks = λ lv b p copy. refl;
    names = λ d lv g. refl;
    status = λ d. refl;
    committed = refl;
    missing = λ d. refl;
    notes = λ d lv g is. refl;
  },
)
