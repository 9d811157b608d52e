-- Where missing disks entail nothing, no copy is left behind.
use Rattle.std.proofs.Common.{◌≡◌, ◌==◌, ℕ, Bool, true, false, ◌&&◌, not, [], refl, sym, ap, ◌∙◌, arith}
use Rattle.std.specs.List.{list_any, range_with_len}
use Rattle.std.proofs.lemmas.Bool.{eq-eqb, and_parts}
use Rattle.lvm_num.specs.declared.place.Pp.{Pp}
use Rattle.lvm_num.specs.declared.descriptor.Descriptor.{Descriptor}
use Rattle.lvm_num.specs.declared.descriptor.LvRow.{LvRow}
use Rattle.lvm_num.specs.declared.status.Status.{Status}
use Rattle.lvm_num.specs.Descriptor.{IsValid, copies_of, is_member, is_pp}
use Rattle.lvm_num.specs.Status.{calls_stale}
use Rattle.lvm_num.proofs.Booleans.{second_with_first}
use Rattle.lvm_num.proofs.AmongLemmas.{in_range, one_any}
use Rattle.lvm_status.specs.Update.{members_there}
use Rattle.lvm_kept.specs.Group.{IsOneOf}
use Rattle.lvm_write.proofs.NextLemmas.{copy_is_placed, is_member_of}
use Rattle.lvm_commit.specs.Settling.{NoneIsLeft, there}
use Rattle.lvm_session.specs.State.{Core}
use Rattle.lvm_session.specs.Judging.{is_missing, is_stale, is_wanted_stale}
use Rattle.lvm_session.specs.Marks.{can_replace, is_among, is_entailed, is_entailed_in, is_left_behind}
use Rattle.lvm_num.proofs.AmongLemmas.{any_one}

-- ---- lists

-- ---- none is left

pub none_left : (core : Core) → IsValid core.descriptor → core.status.group ≡ record core.descriptor { lvs = [] } → core.status.committed ≡ core.status.wanted
    → ((p : Pp) → is_entailed core p ≡ true → is_wanted_stale core p ≡ true) → NoneIsLeft core.descriptor core.status
none_left core valid group committed behind p left = by (is_wanted_stale core p) refl
  where
    same_there : (d : ℕ) → there core.status d ≡ is_member core.descriptor d && not (is_missing core d)
    same_there d = ap (λ (g : Descriptor). members_there g core.status.wanted d) group

    one : IsOneOf (copies_of left.row left.left.lp) p
    one = left.left.left.one

    gone : is_missing core p.disk ≡ true
    gone = second_with_first (is_member core.descriptor p.disk) (is_missing core p.disk) (is_member_of core.descriptor p (copy_is_placed core.descriptor valid left.row left.left.lp p left.volume one)) (sym (same_there p.disk) ∙ left.left.left.absent)

    by : (b : Bool) → is_wanted_stale core p ≡ b → is_wanted_stale core p ≡ true
    by true is = is
    by false fresh =
        let stale_is : is_stale core p ≡ false = ap (λ (s : Status). calls_stale s p) committed ∙ fresh in
        let among : is_among (copies_of left.row left.left.lp) p ≡ true = one_any (is_pp p) (copies_of left.row left.left.lp) p one (itself p) in
        let other = any_one (λ (q : Pp). there core.status q.disk && not (calls_stale core.status.wanted q)) (copies_of left.row left.left.lp) left.left.left.served in
        let both = and_parts (there core.status other.0.disk) (not (calls_stale core.status.wanted other.0)) other.2 in
        let here = and_parts (is_member core.descriptor other.0.disk) (not (is_missing core other.0.disk)) (sym (same_there other.0.disk) ∙ both.0) in
        let can : can_replace core other.0 ≡ true =
        ap (λ (s : Status). (not (calls_stale s other.0) && not (is_missing core other.0.disk)) && not (is_wanted_stale core other.0)) committed
        ∙ ap (λ (b : Bool). (b && not (is_missing core other.0.disk)) && b) both.1 ∙ ap (λ (b : Bool). (true && b) && true) here.1 in
        let replaced : list_any (can_replace core) (copies_of left.row left.left.lp) ≡ true = one_any (can_replace core) (copies_of left.row left.left.lp) other.0 other.1 can in
        let behind_it : is_left_behind core (copies_of left.row left.left.lp) p ≡ true =
        ap (λ (b : Bool). b && not (is_stale core p) && is_missing core p.disk && list_any (can_replace core) (copies_of left.row left.left.lp)) among
        ∙ ap (λ (b : Bool). true && not b && is_missing core p.disk && list_any (can_replace core) (copies_of left.row left.left.lp)) stale_is
        ∙ ap (λ (b : Bool). true && not false && b && list_any (can_replace core) (copies_of left.row left.left.lp)) gone ∙ replaced in
        let at : is_entailed_in core left.row p ≡ true = one_any (λ (lp : ℕ). is_left_behind core (copies_of left.row lp) p) (range_with_len 0 left.row.lps) left.left.lp (in_range 0 left.row.lps left.left.lp (omega arith) (let low = left.left.below in omega (arith, low))) behind_it in
        behind p (one_any (λ (r : LvRow). is_entailed_in core r p) core.descriptor.lvs left.row left.volume at)
      where
        itself : (q : Pp) → is_pp q q ≡ true
        itself q = ap (λ (t : Bool). t && (q.pp == q.pp)) (eq-eqb q.disk q.disk refl) ∙ eq-eqb q.pp q.pp refl
