-- The groups that are worked by hand may change their members.
use Rattle.std.proofs.Common.{◌≡◌, ◌≢◌, ◌⊎◌, inl, inr, ℕ, ◌==◌, Bool, true, false, ◌||◌, List, [], ◌∷◌, refl, subst, arith}
use Rattle.std.specs.Prelude.{IsTrue, AllPairs}
use Rattle.std.proofs.lemmas.Bool.{eqb-true}
use Rattle.std.proofs.lemmas.List.Elements.{All-nil, All-cons}
use Rattle.std.proofs.lemmas.List.Kept.{AllPairs-cons}
use Rattle.lvm_num.specs.declared.descriptor.PvRow.{PvRow}
use Rattle.lvm_num.specs.declared.descriptor.Descriptor.{Descriptor}
use Rattle.lvm_num.specs.Descriptor.{is_member}
use Rattle.lvm_num.specs.Disks.{Disks}
use Rattle.lvm_num.specs.Votes.{all_disks, votes_by, CanRead, CanWrite}
use Rattle.lvm_change_votes.specs.Meeting.{HasMembers, IsOneMore, MayReach}
use Rattle.lvm_change_votes.specs.Examples.{member, of_one, of_two, of_three, of_four, all_but, FourthJoins, GroupsMayReduce}

abbrev Apart : List PvRow → Type 0
Apart rows = AllPairs (λ (a b : PvRow). a.disk ≢ b.disk) rows

none_apart : Apart []
none_apart i j d less within = absurd (omega (arith, less, within))

one_apart : (d : ℕ) → Apart (member d ∷ [])
one_apart d i j e less within = absurd (omega (arith, less, within))

-- below it comes no member of its own disk
two_apart : Apart (member 0 ∷ member 1 ∷ [])
two_apart = AllPairs-cons (λ (a b : PvRow). a.disk ≢ b.disk) (member 0) (member 1 ∷ []) (All-cons (λ (b : PvRow). 0 ≢ b.disk) (member 1) [] (λ e. omega (arith, e)) (All-nil (λ (b : PvRow). 0 ≢ b.disk))) (one_apart 1)

abbrev Differs : ℕ → PvRow → Type 0
Differs d b = d ≢ b.disk

last_two_apart : Apart (member 2 ∷ member 3 ∷ [])
last_two_apart = AllPairs-cons (λ (a b : PvRow). a.disk ≢ b.disk) (member 2) (member 3 ∷ []) (All-cons (Differs 2) (member 3) [] (λ e. omega (arith, e)) (All-nil (Differs 2))) (one_apart 3)

three_apart : Apart (member 0 ∷ member 1 ∷ member 2 ∷ [])
three_apart = AllPairs-cons (λ (a b : PvRow). a.disk ≢ b.disk) (member 0) (member 1 ∷ member 2 ∷ [])
    (All-cons (Differs 0) (member 1) (member 2 ∷ []) (λ e. omega (arith, e)) (All-cons (Differs 0) (member 2) [] (λ e. omega (arith, e)) (All-nil (Differs 0))))
    (AllPairs-cons (λ (a b : PvRow). a.disk ≢ b.disk) (member 1) (member 2 ∷ []) (All-cons (Differs 1) (member 2) [] (λ e. omega (arith, e)) (All-nil (Differs 1))) (one_apart 2))

four_apart : Apart (member 0 ∷ member 1 ∷ member 2 ∷ member 3 ∷ [])
four_apart = AllPairs-cons (λ (a b : PvRow). a.disk ≢ b.disk) (member 0) (member 1 ∷ member 2 ∷ member 3 ∷ [])
    (All-cons (Differs 0) (member 1) (member 2 ∷ member 3 ∷ []) (λ e. omega (arith, e)) (All-cons (Differs 0) (member 2) (member 3 ∷ []) (λ e. omega (arith, e)) (All-cons (Differs 0) (member 3) [] (λ e. omega (arith, e)) (All-nil (Differs 0)))))
    (AllPairs-cons (λ (a b : PvRow). a.disk ≢ b.disk) (member 1) (member 2 ∷ member 3 ∷ [])
    (All-cons (Differs 1) (member 2) (member 3 ∷ []) (λ e. omega (arith, e)) (All-cons (Differs 1) (member 3) [] (λ e. omega (arith, e)) (All-nil (Differs 1))))
    last_two_apart)

has_one : (quorum : Bool) (d : ℕ) → HasMembers (of_one quorum d)
has_one quorum d = record { some = omega arith; apart = one_apart d }

has_two : (quorum even : Bool) → HasMembers (of_two quorum even)
has_two quorum even = record { some = omega arith; apart = two_apart }

has_three : (quorum : Bool) → HasMembers (of_three quorum)
has_three quorum = record { some = omega arith; apart = three_apart }

has_four : (quorum : Bool) → HasMembers (of_four quorum)
has_four quorum = record { some = omega arith; apart = four_apart }

-- ---- a fourth one

four_more : (quorum : Bool) → IsOneMore (of_three quorum) (of_four quorum)
four_more quorum = record {
  before = 0 ∷ 1 ∷ 2 ∷ [];
  disk = 3;
  after = [];
  fewer_is = refl;
  more_is = refl;
  quorum = refl;
  has_fewer = has_three quorum;
  has_more = has_four quorum;
  two = λ e. absurd (omega (arith, e));
  one = λ e. absurd (omega (arith, e));
}

-- checking isn't switched off
stays_on : (quorum : Bool) → (quorum ≡ true) ⊎ (quorum ≡ false)
stays_on true = inl refl
stays_on false = inr refl

abbrev Can : (Descriptor → Disks → Type 0) → (Bool → Descriptor) → Type 0
Can enough group = (quorum : Bool) → enough (group quorum) all_disks

read_three : Can CanRead of_three
unfolding votes_by
read_three true = refl
read_three false = refl

write_four : Can CanWrite of_four
unfolding votes_by
write_four true = refl
write_four false = refl

four_reached : (quorum : Bool) → MayReach (of_three quorum) (of_four quorum) all_disks
four_reached quorum = record { some = omega arith; reads = read_three quorum; writes = write_four quorum; fresh = λ disk its. inr refl; on = stays_on quorum }

two_read : CanRead (of_three true) (all_but 1)
unfolding votes_by
two_read = refl

three_write : CanWrite (of_four true) (all_but 1)
unfolding votes_by
three_write = refl

-- each of the four is one of the three, or there
its_fresh : (disk : ℕ) → IsTrue (is_member (of_four true) disk) → IsTrue (is_member (of_three true) disk) ⊎ IsTrue (all_but 1 disk)
its_fresh disk = by (0 == disk) (1 == disk) (2 == disk) (3 == disk) refl
  where
    by : (p q r s : Bool) → (3 == disk) ≡ s → (p || (q || (r || (s || false)))) ≡ true → ((p || (q || (r || false))) ≡ true) ⊎ IsTrue (all_but 1 disk)
    by true q r s last some = inl refl
    by false true r s last some = inl refl
    by false false true s last some = inl refl
    by false false false true last some = inr (subst (λ (n : ℕ). IsTrue (all_but 1 n)) (eqb-true 3 disk last) refl)
    by false false false false last some = absurd (cc some)

pub fourth_joins : FourthJoins
fourth_joins = record {
  more = four_more;
  reached = four_reached;
  without = record { some = omega arith; reads = two_read; writes = three_write; fresh = its_fresh; on = inl refl };
}

-- ---- down to one

read_two : (even : Bool) → Can CanRead (λ (quorum : Bool). of_two quorum even)
unfolding votes_by
read_two true true = refl
read_two true false = refl
read_two false true = refl
read_two false false = refl

write_two : (even : Bool) → Can CanWrite (λ (quorum : Bool). of_two quorum even)
unfolding votes_by
write_two true true = refl
write_two true false = refl
write_two false true = refl
write_two false false = refl

write_one : Can CanWrite (λ (quorum : Bool). of_one quorum 0)
unfolding votes_by
write_one true = refl
write_one false = refl

third : (quorum : Bool) → IsOneMore (of_two quorum true) (of_three quorum)
third quorum = record {
  before = 0 ∷ 1 ∷ [];
  disk = 2;
  after = [];
  fewer_is = refl;
  more_is = refl;
  quorum = refl;
  has_fewer = has_two quorum true;
  has_more = has_three quorum;
  two = λ e. refl;
  one = λ e. absurd (omega (arith, e));
}

second : (quorum : Bool) → IsOneMore (of_one quorum 0) (of_two quorum false)
second quorum = record {
  before = 0 ∷ [];
  disk = 1;
  after = [];
  fewer_is = refl;
  more_is = refl;
  quorum = refl;
  has_fewer = has_one quorum 0;
  has_more = has_two quorum false;
  two = λ e. absurd (omega (arith, e));
  one = λ e. inr (omega arith);
}

first : (quorum : Bool) → IsOneMore (of_one quorum 1) (of_two quorum true)
first quorum = record {
  before = [];
  disk = 0;
  after = 1 ∷ [];
  fewer_is = refl;
  more_is = refl;
  quorum = refl;
  has_fewer = has_one quorum 1;
  has_more = has_two quorum true;
  two = λ e. absurd (omega (arith, e));
  one = λ e. inl refl;
}

pub groups_may_reduce : GroupsMayReduce
groups_may_reduce quorum = record {
  third = third quorum;
  uneven = record { members = refl; has = has_two quorum true };
  second = second quorum;
  first = first quorum;
  to_two = record { some = omega arith; reads = read_three quorum; writes = write_two true quorum; fresh = λ disk its. inr refl; on = stays_on quorum };
  to_uneven = record { some = omega arith; reads = read_two true quorum; writes = write_two false quorum; fresh = λ disk its. inr refl; on = stays_on quorum };
  to_one = record { some = omega arith; reads = read_two false quorum; writes = write_one quorum; fresh = λ disk its. inr refl; on = stays_on quorum };
}
