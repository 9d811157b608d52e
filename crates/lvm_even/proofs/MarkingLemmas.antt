-- A table that is marked with the copies that are left behind, as the next status of a session.
use Rattle.std.proofs.Common.{inl, inr, ⊎_elim, ℕ, ◌&&◌, not, List, ◌==◌, sym, ap, subst, ◌∙◌}
use Rattle.std.specs.List.{list_any}
use Rattle.std.proofs.lemmas.Bool.{not_from_false}
use Rattle.lvm_num.specs.declared.place.Pp.{Pp}
use Rattle.lvm_num.specs.declared.descriptor.LvRow.{LvRow}
use Rattle.lvm_num.specs.declared.status.Status.{Status}
use Rattle.lvm_num.specs.Descriptor.{copies_of}
use Rattle.lvm_num.specs.Status.{calls_stale}
use Rattle.lvm_num.proofs.Booleans.{clash_gives}
use Rattle.lvm_num.proofs.AmongLemmas.{any_one as some_one, one_any}
use Rattle.lvm_kept.specs.Group.{IsOneOf}
use Rattle.lvm_even.proofs.Lists.{left_of, right_of, both_of, not_so}
use Rattle.lvm_status.specs.Marking.{IsLeftIn}
use Rattle.lvm_commit.specs.Settling.{there as not_missing}
use Rattle.lvm_commit.proofs.AmongLemmas.{one_place}
use Rattle.lvm_even.proofs.Rows.{none_passing}
use Rattle.lvm_even.specs.Marking.{MarkedMayFollow, MarkedLeavesNone, NoneIsLeftBehind}

pub marked_may_follow : MarkedMayFollow
marked_may_follow c group there was next valid members marks = record {
  stale = λ row lp p one copy stale. marks.kept p stale;
  added = λ row lp p one low copy stale. ⊎_elim
      (λ was_so. inl was_so)
      (λ (left : IsLeftIn there was group.lvs p). inr (
      let place = one_place group row left.row lp left.left.lp p valid one left.volume copy left.left.left.one in
      let q = some_one (λ (r : Pp). there r.disk && not (calls_stale was r)) (copies_of left.row left.left.lp) left.left.left.served in
      let in_there = left_of (there q.0.disk) (not (calls_stale was q.0)) q.2 in (
        q.0,
        subst (λ (r : LvRow). IsOneOf (copies_of r lp) q.0) (sym place.row_is) (subst (λ (n : ℕ). IsOneOf (copies_of left.row n) q.0) (sym place.lp_is) q.1),
        marks.answered q.0 in_there ∙ not_so (calls_stale was q.0) (right_of (there q.0.disk) (not (calls_stale was q.0)) q.2),
        members q.0.disk in_there,
      )))
      (marks.only p stale);
  dirty = λ row one soft is. inl (ap (λ (numbers : List ℕ). list_any (λ n. n == row.number) numbers) marks.dirty ∙ is);
}

pub marked_leaves_none : MarkedLeavesNone
marked_leaves_none c group there was next valid marks row lp p one low copy member gone fresh =
    elim (none_passing (λ (q : Pp). there q.disk && not (calls_stale next.value q)) (copies_of row lp)) [
      | inl none ↦ none
      | inr some ↦ absurd (
          let in_there = left_of (there some.0.disk) (not (calls_stale next.value some.0)) some.2 in
          let was_fresh = not_from_false (calls_stale was some.0) (sym (marks.answered some.0 in_there) ∙ not_so (calls_stale next.value some.0) (right_of (there some.0.disk) (not (calls_stale next.value some.0)) some.2)) in
          clash_gives (calls_stale next.value p)
          (marks.marked p (record {
            row = row;
            volume = one;
            left = record {
              lp = lp;
              below = low;
              left = record { one = copy; absent = gone; served = one_any (λ (r : Pp). there r.disk && not (calls_stale was r)) (copies_of row lp) some.0 some.1 (both_of (there some.0.disk) (not (calls_stale was some.0)) in_there was_fresh) };
            };
          }))
          fresh)
    ]

pub none_is_left_behind : NoneIsLeftBehind
none_is_left_behind c group u status same none row lp p volume low copy member gone fresh =
    elim (none_passing (λ (q : Pp). not_missing u q.disk && not (calls_stale status.value q)) (copies_of row lp)) [
      | inl nothing ↦ nothing
      | inr some ↦ absurd (clash_gives (calls_stale u.wanted p)
          (none p (record {
            row = row;
            volume = volume;
            left = record {
              lp = lp;
              below = low;
              left = record {
                one = copy;
                absent = gone;
                served = one_any (λ (q : Pp). not_missing u q.disk && not (calls_stale u.wanted q)) (copies_of row lp) some.0 some.1 (sym (ap (λ (s : Status). not_missing u some.0.disk && not (calls_stale s some.0)) same) ∙ some.2);
              };
            };
          }))
          (sym (ap (λ (s : Status). calls_stale s p) same) ∙ fresh))
    ]
