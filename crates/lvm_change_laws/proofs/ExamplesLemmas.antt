-- The disk that has left the group that is worked by hand may lose its descriptor.
use Rattle.std.proofs.Common.{◌≡◌, ◌≢◌, ◌⊎◌, inl, inr, ⊎_elim, ℕ, zero, suc, ◌<◌, ◌≤◌, ◌==◌, Bool, true, false, ◌||◌, List, [], ◌∷◌, Option, Some, None, refl, sym, ap, subst, ◌∙◌, arith}
use Rattle.std.specs.Prelude.{IsTrue, if◌then◌else◌}
use Rattle.std.proofs.lemmas.Bool.{eqb-true}
use Rattle.std.proofs.lemmas.Option.{same_Some}
use Rattle.lvm_num.specs.Votes.{all_disks}
use Rattle.lvm_disk.specs.passed.Num.{PvRow, LvRow, Descriptor, Status, Disks, Stamped, stamp_lt, member_of, volume_of, CanRead, CanWrite, newest_below, votes_by}
use Rattle.lvm_disk.proofs.passed.Num.{is_one, read_meets_read}
use Rattle.lvm_vol.specs.Facts.{Fact}
use Rattle.lvm_vol.specs.Standing.{volumes_in}
use Rattle.lvm_kept.specs.Contents.{Contents}
use Rattle.lvm_kept.specs.Examples.{either_of, stamped}
use Rattle.lvm_kept.specs.Group.{is_of, has_room, descriptor_among, is_voter, has_quorum, status_among, status_by, Finds, IsFound, ReadsBy, ReadsGroup, members_in, IsOneOf}
use Rattle.lvm_kept.specs.Kept.{StandsAs, HasStatus, Kept}
use Rattle.lvm_kept.specs.Committed.{IsWithinDisks}
use Rattle.lvm_kept.proofs.CommittedLemmas.Finding.{finding_reads, offered, is_offered}
use Rattle.lvm_commit.specs.Committed.{ShowsCommitted}
use Rattle.lvm_change_votes.specs.Examples.{of_two}
use Rattle.lvm_change_laws.specs.Committed.{MayErase}
use Rattle.lvm_change_laws.specs.Examples.{status, shown_by, stated_by, with_third, without_third, third_left, ThirdsMayBeErased}

-- what one disk shows or another does
either : {X : Type 0} (s t : Bool) (a b : X) (r : X) → (if s then Some a else if t then Some b else None) ≡ Some r → ((s ≡ true) × (r ≡ a)) ⊎ ((t ≡ true) × (r ≡ b))
either true t a b r e = inl (refl, sym (same_Some a r e))
either false true a b r e = inr (refl, sym (same_Some b r e))
either false false a b r e = absurd cc

-- the first two disks are below three
low : (d : ℕ) → either_of 0 1 d ≡ true → d < 3
low d is = by (d == 0) (d == 1) refl refl is
  where
    by : (s t : Bool) → (d == 0) ≡ s → (d == 1) ≡ t → (if s then true else t) ≡ true → d < 3
    by true t e f is = omega (arith, eqb-true d 0 e)
    by false true e f is = omega (arith, eqb-true d 1 f)
    by false false e f is = absurd (cc is)

on_both : (P : ℕ → Type 0) → P 0 → P 1 → (d : ℕ) → either_of 0 1 d ≡ true → P d
on_both P first second d is = by (d == 0) (d == 1) refl refl is
  where
    by : (s t : Bool) → (d == 0) ≡ s → (d == 1) ≡ t → (if s then true else t) ≡ true → P d
    by true t e f is = subst P (sym (eqb-true d 0 e)) first
    by false true e f is = subst P (sym (eqb-true d 1 f)) second
    by false false e f is = absurd (cc is)

module _ (quorum : Bool) where
  abbrev c : Contents
  c = with_third quorum

  abbrev now : Descriptor
  now = of_two quorum false

  abbrev was : Descriptor
  was = of_two quorum true

  showing : (d : ℕ) (r : Stamped Descriptor) → c.descriptor d ≡ Some r → ((either_of 0 1 d ≡ true) × (r ≡ stamped 7 now)) ⊎ (((d == 2) ≡ true) × (r ≡ stamped 5 was))
  showing d r e = either (either_of 0 1 d) (d == 2) (stamped 7 now) (stamped 5 was) r e

  stating : (d : ℕ) (r : Stamped Status) → c.status d ≡ Some r → ((either_of 0 1 d ≡ true) × (r ≡ stamped 6 status)) ⊎ (((d == 2) ≡ true) × (r ≡ stamped 4 status))
  stating d r e = either (either_of 0 1 d) (d == 2) (stamped 6 status) (stamped 4 status) r e

  within : IsWithinDisks c
  within = record {
    descriptors = λ d r e. ⊎_elim (λ first. low d first.0) (λ second. omega (arith, eqb-true d 2 second.0)) (showing d r e);
    statuses = λ d r e. ⊎_elim (λ first. low d first.0) (λ second. omega (arith, eqb-true d 2 second.0)) (stating d r e);
  }

  -- ---- what is found

  found_by_all : (q : Bool) → Finds (with_third q) all_disks 50 (of_two q false)
  unfolding has_quorum is_voter descriptor_among newest_below votes_by
  found_by_all true = record { quorum = refl; newest = stamped 7 (of_two true false); found = refl; is = refl }
  found_by_all false = record { quorum = refl; newest = stamped 7 (of_two false false); found = refl; is = refl }

  abbrev pick : Bool → Bool → Bool → Disks
  pick s t u d = if d == 0 then s else if d == 1 then t else u

  -- of any disks: those that have one of the two find the group as it is
  found_by : (q s t u : Bool) (r : Stamped Descriptor) → descriptor_among (with_third q) (pick s t u) 50 ≡ Some r → (r ≡ stamped 7 (of_two q false)) ⊎ ((s ≡ false) × (t ≡ false) × (r ≡ stamped 5 (of_two q true)))
  unfolding descriptor_among newest_below
  found_by q true true true r is = inl (sym (same_Some (stamped 7 (of_two q false)) r is))
  found_by q true true false r is = inl (sym (same_Some (stamped 7 (of_two q false)) r is))
  found_by q true false true r is = inl (sym (same_Some (stamped 7 (of_two q false)) r is))
  found_by q true false false r is = inl (sym (same_Some (stamped 7 (of_two q false)) r is))
  found_by q false true true r is = inl (sym (same_Some (stamped 7 (of_two q false)) r is))
  found_by q false true false r is = inl (sym (same_Some (stamped 7 (of_two q false)) r is))
  found_by q false false true r is = inr (refl, refl, sym (same_Some (stamped 5 (of_two q true)) r is))
  found_by q false false false r is = absurd (cc is)

  -- and without them nothing can read it as it was
  too_few : (q s t u : Bool) → s ≡ false → t ≡ false → CanRead (of_two q true) (members_in (with_third q) (pick s t u) 50 (of_two q true)) → ⊥
  unfolding votes_by
  too_few q true t u first second can = absurd (cc first)
  too_few q false true u first second can = absurd (cc second)
  too_few true false false u first second can = absurd (cc can)
  too_few false false false u first second can = absurd (cc can)

  its_id : (r : Stamped Descriptor) → (r ≡ stamped 7 now) ⊎ (r ≡ stamped 5 was) → r.value.id ≡ 50
  its_id r (inl is) = ap (λ (x : Stamped Descriptor). x.value.id) is
  its_id r (inr is) = ap (λ (x : Stamped Descriptor). x.value.id) is

  id_is : (disks : Disks) (id : ℕ) (g : Descriptor) → Finds c disks id g → id ≡ 50
  unfolding descriptor_among
  id_is disks id g f =
      let one = is_one Descriptor (offered (is_of id) c.descriptor disks) c.disks f.newest f.found in
      let at = is_offered (is_of id) c.descriptor disks one.0 f.newest one.2 in
      sym (eqb-true f.newest.value.id id at.1) ∙ its_id f.newest (⊎_elim (λ first. inl first.1) (λ second. inr second.1) (showing one.0 f.newest at.0))

  module _ (disks : Disks) (k : Descriptor) (f : Finds c disks 50 k) where
    enough : CanRead k (members_in c disks 50 k)
    enough = let reads : ReadsBy c disks 50 k = finding_reads c disks 50 k f in reads.reads.enough

    can_read : (g : Descriptor) → k ≡ g → CanRead g (members_in c disks 50 g)
    can_read g is = subst (λ (h : Descriptor). CanRead h (members_in c disks 50 h)) is enough

    which : (f.newest ≡ stamped 7 now) ⊎ ((disks 0 ≡ false) × (disks 1 ≡ false) × (f.newest ≡ stamped 5 was))
    unfolding descriptor_among newest_below
    which = found_by quorum (disks 0) (disks 1) (disks 2) f.newest f.found

    few : disks 0 ≡ false → disks 1 ≡ false → k ≡ was → ⊥
    unfolding votes_by
    few first second is = too_few quorum (disks 0) (disks 1) (disks 2) first second (can_read was is)

    by_which : (f.newest ≡ stamped 7 now) ⊎ ((disks 0 ≡ false) × (disks 1 ≡ false) × (f.newest ≡ stamped 5 was)) → k ≡ now
    by_which (inl is) = sym f.is ∙ ap (λ (x : Stamped Descriptor). x.value) is
    by_which (inr (first, second, is)) = absurd (few first second (sym f.is ∙ ap (λ (x : Stamped Descriptor). x.value) is))

  only : (disks : Disks) (k : Descriptor) → Finds c disks 50 k → k ≡ now
  only disks k f = by_which disks k f (which disks k f)

  group_is : (id : ℕ) (g : Descriptor) → IsFound c id g → g ≡ now
  group_is id g (disks, f) = only disks g (subst (λ (n : ℕ). Finds c disks n g) (id_is disks id g f) f)

  shows : ShowsCommitted c now status (either_of 0 1)
  shows = record {
    found = found_by_all quorum;
    only = only;
    descriptor = stamped 7 now;
    value = refl;
    latest = λ d r e of. ⊎_elim (λ first. inr first.1) (λ second. inl (ap (λ (x : Stamped Descriptor). stamp_lt x.stamp (stamped 7 now).stamp) second.1)) (showing d r e);
    described = λ d is. on_both (λ (n : ℕ). c.descriptor n ≡ Some (stamped 7 now)) refl refl d is;
    room = λ d is. on_both (λ (n : ℕ). IsTrue (has_room c n now)) refl refl d is;
    own = refl;
    stands = stamped 6 status;
    committed = refl;
    stated = λ d is. on_both (λ (n : ℕ). c.status n ≡ Some (stamped 6 status)) refl refl d is;
    last = λ d r e of. ⊎_elim (λ first. inr first.1) (λ second. inl (ap (λ (x : Stamped Status). stamp_lt x.stamp (stamped 6 status).stamp) second.1)) (stating d r e);
  }

  -- ---- what is kept

  common : (a b : Disks) (id : ℕ) (g h : Descriptor) → ReadsGroup c a id g → ReadsGroup c b id h → (d : ℕ) × IsTrue (members_in c a id g d) × IsTrue (members_in c b id h d)
  common a b id g h r s =
      let one : g ≡ now = group_is id g r.found in
      let other : h ≡ now = group_is id h s.found in
      subst (λ (k : Descriptor). (d : ℕ) × IsTrue (members_in c a id k d) × IsTrue (members_in c b id h d)) (sym one)
      (subst (λ (k : Descriptor). (d : ℕ) × IsTrue (members_in c a id now d) × IsTrue (members_in c b id k d)) (sym other)
      (let both = read_meets_read now (members_in c a id now) (members_in c b id now) (omega arith)
      (subst (λ (k : Descriptor). CanRead k (members_in c a id k)) one r.enough) (subst (λ (k : Descriptor). CanRead k (members_in c b id k)) other s.enough) in
      (both.0, both.2, both.3)))

  none_of : (g : Descriptor) → g ≡ now → (row : LvRow) → IsOneOf g.lvs row → ⊥
  none_of g is row one = subst (λ (rows : List LvRow). IsOneOf rows row) (ap (λ (k : Descriptor). k.lvs) is) one

  -- each disk shows a descriptor
  none_without : (d : ℕ) → d < 3 → c.descriptor d ≡ None → ⊥
  none_without zero less none = absurd (cc none)
  none_without (suc zero) less none = absurd (cc none)
  none_without (suc (suc zero)) less none = absurd (cc none)
  none_without (suc (suc (suc d))) less none = absurd (omega (arith, less))

  one_stamp : (r s : Stamped Descriptor) → (r ≡ stamped 7 now) ⊎ (r ≡ stamped 5 was) → (s ≡ stamped 7 now) ⊎ (s ≡ stamped 5 was) → r.stamp ≡ s.stamp → r ≡ s
  one_stamp r s (inl is) (inl too) same = is ∙ sym too
  one_stamp r s (inr is) (inr too) same = is ∙ sym too
  one_stamp r s (inl is) (inr too) same = absurd (omega (arith, sym (ap (λ (x : Stamped Descriptor). x.stamp.seq) is) ∙ ap (λ x. x.seq) same ∙ ap (λ (x : Stamped Descriptor). x.stamp.seq) too))
  one_stamp r s (inr is) (inl too) same = absurd (omega (arith, sym (ap (λ (x : Stamped Descriptor). x.stamp.seq) is) ∙ ap (λ x. x.seq) same ∙ ap (λ (x : Stamped Descriptor). x.stamp.seq) too))

  one_state : (r s : Stamped Status) → (r ≡ stamped 6 status) ⊎ (r ≡ stamped 4 status) → (s ≡ stamped 6 status) ⊎ (s ≡ stamped 4 status) → r.stamp ≡ s.stamp → r ≡ s
  one_state r s (inl is) (inl too) same = is ∙ sym too
  one_state r s (inr is) (inr too) same = is ∙ sym too
  one_state r s (inl is) (inr too) same = absurd (omega (arith, sym (ap (λ (x : Stamped Status). x.stamp.seq) is) ∙ ap (λ x. x.seq) same ∙ ap (λ (x : Stamped Status). x.stamp.seq) too))
  one_state r s (inr is) (inl too) same = absurd (omega (arith, sym (ap (λ (x : Stamped Status). x.stamp.seq) is) ∙ ap (λ x. x.seq) same ∙ ap (λ (x : Stamped Status). x.stamp.seq) too))

  of_two_shown : (d : ℕ) (r : Stamped Descriptor) → c.descriptor d ≡ Some r → (r ≡ stamped 7 now) ⊎ (r ≡ stamped 5 was)
  of_two_shown d r e = ⊎_elim (λ first. inl first.1) (λ second. inr second.1) (showing d r e)

  of_two_stated : (d : ℕ) (r : Stamped Status) → c.status d ≡ Some r → (r ≡ stamped 6 status) ⊎ (r ≡ stamped 4 status)
  of_two_stated d r e = ⊎_elim (λ first. inl first.1) (λ second. inr second.1) (stating d r e)

  kept : Kept c third_left
  kept = record {
    agrees = record {
      volumes = λ disks id g f lv. subst (λ (k : Descriptor). StandsAs k.mib (volumes_in third_left lv).standing (volumes_in third_left lv).shape (volume_of k lv)) (sym (group_is id g (disks, f))) tt;
      status = λ disks id g f. subst (λ (k : Descriptor). HasStatus k.lvs (status_among c disks id)) (sym (group_is id g (disks, f))) tt;
      copies = λ disks id g f row lp b one inside. absurd (none_of g (group_is id g (disks, f)) row one);
      raw = λ d b less none from to. absurd (none_without d less none);
      available = λ lv settled. absurd (cc settled);
    };
    lasting = record {
      common = common;
      status = λ b id h k reads found. subst (λ (g : Descriptor). HasStatus g.lvs (status_by c b id h)) (sym (group_is id k found)) tt;
      across = λ b id h k reads found row lp n one inside. absurd (none_of k (group_is id k found) row one);
      some = λ b id h k reads found row lp one less. absurd (none_of k (group_is id k found) row one);
      size = λ id g h is also. ap (λ (k : Descriptor). k.mib) (group_is id g is ∙ sym (group_is id h also));
      partitions = λ id g h is also d p q one other. ap (λ (r : PvRow). r.pps)
          (same_Some p q (sym one ∙ ap (λ (k : Descriptor). member_of k d) (group_is id g is ∙ sym (group_is id h also)) ∙ other));
      descriptors = λ d e r s is also ids stamps. one_stamp r s (of_two_shown d r is) (of_two_shown e s also) stamps;
      statuses = λ d e r s is also ids stamps. one_state r s (of_two_stated d r is) (of_two_stated e s also) stamps;
    };
  }

  -- ---- that it may be erased

  erased : (d : ℕ) → ((without_third quorum).descriptor d ≡ c.descriptor d) ⊎ ((d ≡ 2) × ((without_third quorum).descriptor d ≡ None))
  erased d = by (either_of 0 1 d) (d == 2) refl
    where
      by : (s t : Bool) → (d == 2) ≡ t
          → ((if s then Some (stamped 7 now) else None) ≡ (if s then Some (stamped 7 now) else if t then Some (stamped 5 was) else None)) ⊎ ((d ≡ 2) × ((if s then Some (stamped 7 now) else None) ≡ None))
      by true t e = inl refl
      by false true e = inr (eqb-true d 2 e, refl)
      by false false e = inl refl

  may : MayErase c (without_third quorum) third_left now 2
  may = record { no_member = refl; shows = refl; own = erased; rest = refl; unknown = λ b from to. tt }

  votes : (q : Bool) → CanWrite (of_two q false) (either_of 0 1)
  unfolding votes_by
  votes true = refl
  votes false = refl

pub thirds_may_be_erased : ThirdsMayBeErased
thirds_may_be_erased quorum = record { within = within quorum; votes = votes quorum quorum; shows = shows quorum; may = may quorum; kept = kept quorum }
