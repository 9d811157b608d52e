-- The greatest epoch, row by row.
use Rattle.std.proofs.Common.{◌≡◌, ◌⊎◌, inl, inr, ⊎_elim, ℕ, ◌+◌, ◌<◌, ◌≤◌, Bool, true, false, max, Option, Some, None, length, refl, sym, ap, subst, ◌∙◌, arith}
use Rattle.std.specs.Prelude.{if◌then◌else◌, ◌==◌}
use Rattle.std.proofs.lemmas.Bool.{eq-eqb, cases_lt, eqb-true}
use Rattle.lvm_num.specs.declared.descriptor.Descriptor.{Descriptor}
use Rattle.lvm_num.specs.declared.status.Status.{Status}
use Rattle.lvm_num.specs.Record.{Stamped}
use Rattle.lvm_num.specs.Votes.{all_disks}
use Rattle.lvm_num.proofs.RecordLemmas.Newest.{is_one}
use Rattle.lvm_quorum.specs.passed.Transfer.{Contents, if_passes, is_of, is_status_of, descriptor_among}
use Rattle.lvm_quorum.specs.declared.row.Survey.{Survey}
use Rattle.lvm_quorum.specs.Surveyed.{surveyed}
use Rattle.lvm_quorum.specs.Choosing.{IsGreatestEpoch}
use Rattle.lvm_quorum.specs.Groups.{epoch_of, epoch_on, IsLastEpoch}
use Rattle.lvm_quorum.proofs.SurveyedLemmas.SurveyRows.{descriptor_past, status_past}

-- the greatest of the first i
pub record IsGreatestBelow (f : ℕ → ℕ) (i greatest : ℕ) : Type 0 where
  pub most : (d : ℕ) → d < i → f d ≤ greatest
  pub one : (greatest ≡ 0) ⊎ ((d : ℕ) × (f d ≡ greatest))

pub greatest_none : (f : ℕ → ℕ) → IsGreatestBelow f 0 0
greatest_none f = record { most = λ d lt. absurd (omega arith); one = inl refl }

pub greatest_more : (f : ℕ → ℕ) (i now next : ℕ) → IsGreatestBelow f i now → next ≡ max now (f i) → IsGreatestBelow f (i + 1) next
greatest_more f i now next was is = record {
  most = λ d lt. elim (cases_lt d i) [
    | inl less ↦ let le = was.most d less in omega (arith, le, is)
    | inr more ↦ let here : f d ≡ f i = ap f (omega arith) in omega (arith, here, is)
  ];
  one = elim (cases_lt now (f i)) [
    | inl less ↦ inr (i, omega (arith, less, is))
    | inr more ↦
        let same : next ≡ now = omega (arith, more, is) in
        ⊎_elim (λ (e : now ≡ 0). inl (same ∙ e)) (λ (e : (d : ℕ) × (f d ≡ now)). inr (e.0, e.1 ∙ sym same)) was.one
  ];
}

pub greatest_all : (s : Survey) (id n seen : ℕ) → length s.rows ≤ n → IsGreatestBelow (epoch_on (surveyed s) id) n seen → IsLastEpoch (surveyed s) id seen
greatest_all s id n seen all below = record {
  most = λ d. elim (cases_lt d n) [
    | inl less ↦ below.most d less
    | inr more ↦
        let none : epoch_on (surveyed s) id d ≡ 0 =
        ap (λ (o : Option (Stamped Descriptor)). max (epoch_of (if_passes (is_of id) o)) (epoch_of (if_passes (is_status_of id) ((surveyed s).status d)))) (descriptor_past s d (omega arith))
        ∙ ap (λ (o : Option (Stamped Status)). max 0 (epoch_of (if_passes (is_status_of id) o))) (status_past s d (omega arith)) in
        omega (arith, none)
  ];
  one = below.one;
}

-- ---- of which record it is

passing : {X : Type 0} (test : Bool) (r : Stamped X) → test ≡ true → epoch_of (if test then Some r else None) ≡ r.stamp.epoch
passing true r e = refl
passing false r e = absurd cc

-- a record with this epoch, or the epoch is 0
abbrev Shows : {X : Type 0} → Option (Stamped X) → (X → Bool) → ℕ → Type 0
Shows {X} o test seen = (seen ≡ 0) ⊎ ((r : Stamped X) × (o ≡ Some r) × (test r.value ≡ true) × (r.stamp.epoch ≡ seen))

by_test : {X : Type 0} (test : X → Bool) (r : Stamped X) (seen : ℕ) (b : Bool) → test r.value ≡ b → epoch_of (if b then Some r else None) ≡ seen → Shows (Some r) test seen
by_test test r seen true is e = inr (r, refl, is, e)
by_test test r seen false is e = inl (sym e)

shows : {X : Type 0} (test : X → Bool) (o : Option (Stamped X)) (seen : ℕ) → epoch_of (if_passes test o) ≡ seen → Shows o test seen
shows test None seen e = inl (sym e)
shows test (Some r) seen e = by_test test r seen (test r.value) refl e

which : (a b seen : ℕ) → max a b ≡ seen → (a ≡ seen) ⊎ (b ≡ seen)
which a b seen e = elim (cases_lt a b) [ inl less ↦ inr (omega arith) | inr more ↦ inl (omega arith) ]

kept : {X : Type 0} (test : Bool) (x r : Stamped X) → (if test then Some x else None) ≡ Some r → (test ≡ true) × (Some x ≡ Some r)
kept true x r e = (refl, e)
kept false x r e = absurd cc

-- the newest descriptor of a group is one that a disk shows
pub found_on : (c : Contents) (id : ℕ) (r : Stamped Descriptor) → descriptor_among c all_disks id ≡ Some r → (d : ℕ) × (c.descriptor d ≡ Some r) × (r.value.id ≡ id)
unfolding descriptor_among
found_on c id r e =
    let one = is_one Descriptor (λ d. if_passes (is_of id) (c.descriptor d)) c.disks r e in
    let its = offered (c.descriptor one.0) one.2 in (one.0, its.0, its.1)
  where
    offered : (o : Option (Stamped Descriptor)) → if_passes (is_of id) o ≡ Some r → (o ≡ Some r) × (r.value.id ≡ id)
    offered None h = absurd cc
    offered (Some x) h =
        let k = kept (x.value.id == id) x r h in
        let same : x ≡ r = cc in
        (k.1, subst (λ (y : Stamped Descriptor). y.value.id ≡ id) same (eqb-true x.value.id id k.0))

-- the epoch is that of a record of the group on a disk
abbrev IsShown : Contents → ℕ → ℕ → Type 0
IsShown c id seen =
    ((d : ℕ) × (r : Stamped Descriptor) × (c.descriptor d ≡ Some r) × (r.value.id ≡ id) × (r.stamp.epoch ≡ seen))
    ⊎ ((d : ℕ) × (r : Stamped Status) × (c.status d ≡ Some r) × (r.value.id ≡ id) × (r.stamp.epoch ≡ seen))

pub seen_is_greatest : (c : Contents) (id seen : ℕ) (group : Stamped Descriptor) → descriptor_among c all_disks id ≡ Some group → IsLastEpoch c id seen → IsGreatestEpoch c id seen
seen_is_greatest c id seen group found last = record {
  descriptors = λ d r on its. descriptor_most d r on its;
  statuses = λ d r on its.
      let is : epoch_of (if_passes (is_status_of id) (c.status d)) ≡ r.stamp.epoch =
      ap (λ (o : Option (Stamped Status)). epoch_of (if_passes (is_status_of id) o)) on ∙ passing (r.value.id == id) r (eq-eqb r.value.id id its) in
      omega (arith, is, last.most d);
  one = ⊎_elim of_none (λ (e : (d : ℕ) × (epoch_on c id d ≡ seen)). on_disk e.0 e.1) last.one;
}
  where
    descriptor_most : (d : ℕ) (r : Stamped Descriptor) → c.descriptor d ≡ Some r → r.value.id ≡ id → r.stamp.epoch ≤ seen
    descriptor_most d r on its =
        let is : epoch_of (if_passes (is_of id) (c.descriptor d)) ≡ r.stamp.epoch =
        ap (λ (o : Option (Stamped Descriptor)). epoch_of (if_passes (is_of id) o)) on ∙ passing (r.value.id == id) r (eq-eqb r.value.id id its) in
        omega (arith, is, last.most d)

    of_none : seen ≡ 0 → IsShown c id seen
    of_none e =
        let on = found_on c id group found in
        let le = descriptor_most on.0 group on.1 on.2 in
        inl (on.0, group, on.1, on.2, omega (arith, le, e))

    on_disk : (d : ℕ) → epoch_on c id d ≡ seen → IsShown c id seen
    on_disk d e = ⊎_elim
        (λ (a : epoch_of (if_passes (is_of id) (c.descriptor d)) ≡ seen). ⊎_elim of_none
        (λ (s : (r : Stamped Descriptor) × (c.descriptor d ≡ Some r) × (is_of id r.value ≡ true) × (r.stamp.epoch ≡ seen)). inl (d, s.0, s.1, eqb-true s.0.value.id id s.2, s.3))
        (shows (is_of id) (c.descriptor d) seen a))
        (λ (b : epoch_of (if_passes (is_status_of id) (c.status d)) ≡ seen). ⊎_elim of_none
        (λ (s : (r : Stamped Status) × (c.status d ≡ Some r) × (is_status_of id r.value ≡ true) × (r.stamp.epoch ≡ seen)). inr (d, s.0, s.1, eqb-true s.0.value.id id s.2, s.3))
        (shows (is_status_of id) (c.status d) seen b))
        (which (epoch_of (if_passes (is_of id) (c.descriptor d))) (epoch_of (if_passes (is_status_of id) (c.status d))) seen e)
