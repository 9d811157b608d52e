-- Where a session leaves no copy behind, missing disks entail nothing.
use Rattle.std.proofs.Common.{◌≡◌, ℕ, ◌<◌, Bool, true, false, ◌&&◌, not, [], refl, sym, ap, subst, ◌∙◌, arith}
use Rattle.std.specs.Prelude.{IsTrue, IsFalse}
use Rattle.std.specs.List.{list_any, range_with_len}
use Rattle.std.proofs.lemmas.Bool.{and_parts, not-true as not_true}
use Rattle.lvm_num.specs.declared.place.Pp.{Pp}
use Rattle.lvm_num.specs.declared.descriptor.Descriptor.{Descriptor}
use Rattle.lvm_num.specs.declared.descriptor.LvRow.{LvRow}
use Rattle.lvm_num.specs.declared.status.Status.{Status}
use Rattle.lvm_num.specs.Descriptor.{IsValid, copies_of, is_member, is_pp}
use Rattle.lvm_num.specs.Disks.{Disks}
use Rattle.lvm_num.specs.Status.{calls_stale}
use Rattle.lvm_num.proofs.Booleans.{clash_gives}
use Rattle.lvm_num.proofs.AmongLemmas.{any_one, one_any, of_range}
use Rattle.lvm_num.proofs.DescriptorLemmas.Partitions.{one_partition}
use Rattle.lvm_status.specs.Update.{members_there}
use Rattle.lvm_kept.specs.Group.{IsOneOf}
use Rattle.lvm_status.specs.Marking.{IsLeftIn, is_served}
use Rattle.lvm_write.proofs.NextLemmas.{copy_is_placed, is_member_of}
use Rattle.lvm_commit.specs.Settling.{NoneIsLeft, there}
use Rattle.lvm_session.specs.State.{Core}
use Rattle.lvm_session.specs.Judging.{is_missing, is_stale, is_usable, is_wanted_stale}
use Rattle.lvm_session.specs.Marks.{can_replace, is_among, is_entailed, is_entailed_in, is_left_behind}

-- ---- lists

-- ---- nothing that missing disks would entail

module _ (core : Core) (valid : IsValid core.descriptor) (group : core.status.group ≡ record core.descriptor { lvs = [] })
    (committed : core.status.committed ≡ core.status.wanted) (none : NoneIsLeft core.descriptor core.status) (p : Pp) where
  abbrev present : Disks
  present = there core.status

  same_there : (d : ℕ) → present d ≡ is_member core.descriptor d && not (is_missing core d)
  same_there d = ap (λ (g : Descriptor). members_there g core.status.wanted d) group

  absent : is_missing core p.disk ≡ true → IsFalse (present p.disk)
  absent missing = same_there p.disk ∙ ap (λ (b : Bool). is_member core.descriptor p.disk && not b) missing ∙ and_false (is_member core.descriptor p.disk)
    where
      and_false : (b : Bool) → b && false ≡ false
      and_false true = refl
      and_false false = refl

  module _ (row : LvRow) (volume : IsOneOf core.descriptor.lvs row) (lp : ℕ) where
    serves : (q : Pp) → IsOneOf (copies_of row lp) q → can_replace core q ≡ true → present q.disk && not (calls_stale core.status.wanted q) ≡ true
    serves q one can =
        let both = and_parts (is_usable core q) (not (is_wanted_stale core q)) can in
        let usable = and_parts (not (is_stale core q)) (not (is_missing core q.disk)) both.0 in
        let member : is_member core.descriptor q.disk ≡ true = is_member_of core.descriptor q (copy_is_placed core.descriptor valid row lp q volume one) in
        let here : present q.disk ≡ true = same_there q.disk ∙ ap (λ (b : Bool). b && not (is_missing core q.disk)) member ∙ usable.1 in
        ap (λ (b : Bool). b && not (calls_stale core.status.wanted q)) here ∙ both.1

    left_behind : lp < row.lps → is_left_behind core (copies_of row lp) p ≡ true → IsTrue (calls_stale core.status.wanted p) × (calls_stale core.status.wanted p ≡ false)
    left_behind low is =
        let stale_not = not (is_stale core p) in
        let all = and_parts (is_among (copies_of row lp) p && stale_not && is_missing core p.disk) (list_any (can_replace core) (copies_of row lp)) is in
        let three = and_parts (is_among (copies_of row lp) p && stale_not) (is_missing core p.disk) all.0 in
        let two = and_parts (is_among (copies_of row lp) p) stale_not three.0 in
        let among = any_one (is_pp p) (copies_of row lp) two.0 in
        let one : IsOneOf (copies_of row lp) p = subst (IsOneOf (copies_of row lp)) (sym (one_partition p among.0 among.2)) among.1 in
        let other = any_one (can_replace core) (copies_of row lp) all.1 in
        let served : IsTrue (is_served present core.status.wanted (copies_of row lp)) =
        one_any (λ (q : Pp). present q.disk && not (calls_stale core.status.wanted q)) (copies_of row lp) other.0 other.1 (serves other.0 other.1 other.2) in
        let left : IsLeftIn present core.status.wanted core.descriptor.lvs p =
        record { row = row; volume = volume; left = record { lp = lp; below = low; left = record { one = one; absent = absent three.1; served = served } } } in
        (none p left, sym (ap (λ (s : Status). calls_stale s p) committed) ∙ not_true (is_stale core p) two.1)

  pub not_entailed : is_entailed core p ≡ false
  not_entailed = by (is_entailed core p) refl
    where
      by : (b : Bool) → is_entailed core p ≡ b → is_entailed core p ≡ false
      by false is = is
      by true is =
          let v = any_one (λ (row : LvRow). is_entailed_in core row p) core.descriptor.lvs is in
          let l = any_one (λ (lp : ℕ). is_left_behind core (copies_of v.0 lp) p) (range_with_len 0 v.0.lps) v.2 in
          let low : l.0 < v.0.lps = let high = of_range 0 v.0.lps l.0 l.1 in omega (arith, high) in
          let both = left_behind v.0 v.1 l.0 low l.2 in
          clash_gives (calls_stale core.status.wanted p) both.0 both.1
