-- A group and the one without one of its members are neighbours, by the votes of both.
use Rattle.std.proofs.Common.{◌≡◌, ◌≢◌, ◌⊎◌, inl, inr, ℕ, zero, suc, ◌<◌, ◌≤◌, ◌+◌, Bool, true, false, ◌||◌, not, List, [], ◌∷◌, ◌++◌, length, get_or, map, refl, sym, ◌∙◌, ap, subst, arith}
use Rattle.std.specs.Prelude.{◌==◌, IsTrue, if◌then◌else◌, AllPairs}
use Rattle.std.specs.List.{list_any}
use Rattle.std.proofs.lemmas.Bool.{eqb-true, ne_eqb, false≢true}
use Rattle.std.proofs.lemmas.List.{length-append}
use Rattle.lvm_num.specs.declared.descriptor.PvRow.{PvRow}
use Rattle.lvm_num.specs.declared.descriptor.Descriptor.{Descriptor}
use Rattle.lvm_num.specs.Descriptor.{IsValid}
use Rattle.lvm_num.proofs.Booleans.{or_false, same_turned}
use Rattle.lvm_num.proofs.Lists.{pairs_head, pairs_tail}
use Rattle.lvm_core.specs.Committing.{is_in}
use Rattle.lvm_change_votes.specs.Meeting.{AreNeighbours, HasMembers, disks_of}
use Rattle.lvm_change_votes.proofs.MeetingLemmas.{same_members_meet, one_more_meets, lasting_meets}
use Rattle.lvm_change_laws.specs.Rule.{staying}
use Rattle.lvm_member_plan.specs.Descriptors.{is_head, is_first, without_members, with_even}

abbrev disks_in : List PvRow → List ℕ
disks_in rows = map (λ (row : PvRow). row.disk) rows

-- where the disk is none of theirs, all stay
none_goes : (x : ℕ) (rows : List PvRow) → ((k : ℕ) (e : PvRow) → k < length rows → x ≢ (get_or rows k e).disk) → staying (is_in (x ∷ [])) rows ≡ rows
none_goes x [] apart = refl
none_goes x (row ∷ rows) apart = by (is_in (x ∷ []) row.disk) (or_false (row.disk == x) ∙ ne_eqb row.disk x (λ same. apart zero row (omega arith) (sym same))) (none_goes x rows (λ k e few. apart (suc k) e (omega (arith, few))))
  where
    by : (b : Bool) → b ≡ false → staying (is_in (x ∷ [])) rows ≡ rows → (if not b then row ∷ staying (is_in (x ∷ [])) rows else staying (is_in (x ∷ [])) rows) ≡ row ∷ rows
    by true is rest = absurd (false≢true (sym is))
    by false is rest = ap (λ (l : List PvRow). row ∷ l) rest

-- The members before one and behind it; it isn't the first where some are before.
pub record IsSplitAt (x : ℕ) (rows : List PvRow) : Type 0 where
  pub before : List ℕ
  pub after : List ℕ
  pub all_is : disks_in rows ≡ before ++ x ∷ after
  pub rest_is : disks_in (staying (is_in (x ∷ [])) rows) ≡ before ++ after
  pub fewer : length rows ≡ suc (length (staying (is_in (x ∷ [])) rows))
  pub first : is_head rows x ≡ false → 1 ≤ length before

pub split_at : (x : ℕ) (rows : List PvRow) → AllPairs (λ (a b : PvRow). a.disk ≢ b.disk) rows → IsTrue (list_any (λ (row : PvRow). row.disk == x) rows) → IsSplitAt x rows
split_at x [] apart member = absurd (false≢true member)
split_at x (row ∷ rows) apart member = by (row.disk == x) refl member (split_at x rows (pairs_tail (λ (a b : PvRow). a.disk ≢ b.disk) row rows apart))
  where
    by : (b : Bool) → (row.disk == x) ≡ b → IsTrue (b || list_any (λ (r : PvRow). r.disk == x) rows) → (IsTrue (list_any (λ (r : PvRow). r.disk == x) rows) → IsSplitAt x rows) → IsSplitAt x (row ∷ rows)
    by true here member behind =
        let same : row.disk ≡ x = eqb-true row.disk x here in
        let stay : staying (is_in (x ∷ [])) rows ≡ rows = none_goes x rows (λ k e few also. pairs_head (λ (a b : PvRow). a.disk ≢ b.disk) row rows apart k e few (same ∙ also)) in
        let gone : staying (is_in (x ∷ [])) (row ∷ rows) ≡ rows = ap (λ (t : Bool). if not t then row ∷ staying (is_in (x ∷ [])) rows else staying (is_in (x ∷ [])) rows) (or_false (row.disk == x) ∙ here) ∙ stay in
        record {
          before = [];
          after = disks_in rows;
          all_is = ap (λ (d : ℕ). d ∷ disks_in rows) same;
          rest_is = ap disks_in gone;
          fewer = ap (λ (l : List PvRow). suc (length l)) (sym gone);
          first = λ isnt. absurd (false≢true (sym isnt ∙ here));
        }
    by false apart_here member behind =
        let rest = behind member in
        let stays : staying (is_in (x ∷ [])) (row ∷ rows) ≡ row ∷ staying (is_in (x ∷ [])) rows = ap (λ (t : Bool). if not t then row ∷ staying (is_in (x ∷ [])) rows else staying (is_in (x ∷ [])) rows) (or_false (row.disk == x) ∙ apart_here) in
        record {
          before = row.disk ∷ rest.before;
          after = rest.after;
          all_is = ap (λ (l : List ℕ). row.disk ∷ l) rest.all_is;
          rest_is = ap disks_in stays ∙ ap (λ (l : List ℕ). row.disk ∷ l) rest.rest_is;
          fewer = ap suc rest.fewer ∙ ap (λ (l : List PvRow). suc (length l)) (sym stays);
          first = λ isnt. omega arith;
        }

members_of : (d : Descriptor) → IsValid d → HasMembers d
members_of d valid = record { some = valid.head.a_member; apart = valid.members.disks_differ }

-- even or not they are neighbours,
pub even_near : (even : Bool) (d : Descriptor) → IsValid d → AreNeighbours d (with_even even d)
even_near even d valid = same_members_meet d (with_even even d) (record { members = refl; has = members_of d valid })

-- and without the one, where two that stay are even, or it is one of two that are even or not the first
pub without_near :
    (x : ℕ) (even : Bool) (d : Descriptor) → IsValid d → IsValid (without_members (x ∷ []) even d) → IsTrue (list_any (λ (row : PvRow). row.disk == x) d.pvs) → (length d.pvs ≡ 3 → even ≡ true)
    → (length d.pvs ≡ 2 → (d.even ≡ true) ⊎ (is_first d x ≡ false)) → AreNeighbours d (without_members (x ∷ []) even d)
without_near x even d valid valid_next member two one = lasting_meets (without_members (x ∷ []) even d) d (one_more_meets (without_members (x ∷ []) even d) d (record {
  before = its.before;
  disk = x;
  after = its.after;
  fewer_is = its.rest_is;
  more_is = its.all_is;
  quorum = refl;
  has_fewer = members_of (without_members (x ∷ []) even d) valid_next;
  has_more = members_of d valid;
  two = λ few. two (let count = its.fewer in omega (arith, count, few));
  one = λ few. either (one (let count = its.fewer in omega (arith, count, few)));
}))
  where
    its : IsSplitAt x d.pvs
    its = split_at x d.pvs valid.members.disks_differ member

    either : (d.even ≡ true) ⊎ (is_first d x ≡ false) → (d.even ≡ true) ⊎ (1 ≤ length its.before)
    either (inl even_is) = inl even_is
    either (inr isnt) = inr (its.first isnt)
