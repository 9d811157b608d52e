-- A disk may join the group that is worked by hand.
use Rattle.std.proofs.Common.{◌≡◌, ◌≢◌, ◌⊎◌, inl, inr, ⊎_elim, ℕ, zero, suc, ◌<◌, ◌≤◌, ◌==◌, Bool, true, false, ◌&&◌, ◌||◌, List, [], ◌∷◌, length, Some, None, refl, sym, ap, subst, ◌∙◌, arith}
use Rattle.std.specs.Prelude.{IsTrue, if◌then◌else◌}
use Rattle.std.proofs.lemmas.Bool.{eqb-true, false≢true}
use Rattle.std.proofs.lemmas.Option.{same_Some}
use Rattle.std.proofs.lemmas.List.Elements.{All-nil, All-cons}
use Rattle.std.proofs.lemmas.List.Kept.{AllPairs-cons}
use Rattle.lvm_num.specs.declared.descriptor.PvRow.{PvRow}
use Rattle.lvm_num.specs.Bits.{has_bit}
use Rattle.lvm_num.specs.Descriptor.{IsValid, IsMember, AreMembers}
use Rattle.lvm_num.specs.Name.{is_name}
use Rattle.lvm_num.proofs.BitsLemmas.{has-none}
use Rattle.lvm_num.specs.Votes.{all_disks}
use Rattle.lvm_disk.specs.passed.Num.{LvRow, Descriptor, Status, Disks, Stamped, stamp_lt, member_of, volume_of, CanRead, CanWrite, newest_below, votes_by}
use Rattle.lvm_disk.proofs.passed.Num.{is_one, read_meets_read}
use Rattle.lvm_vol.specs.Standing.{volumes_in}
use Rattle.lvm_kept.specs.Contents.{Contents}
use Rattle.lvm_kept.specs.Examples.{either_of, only, row_of, stamped}
use Rattle.lvm_kept.specs.Group.{is_of, has_room, descriptor_among, is_voter, has_quorum, status_among, status_by, Finds, IsFound, ReadsGroup, members_in, IsOneOf}
use Rattle.lvm_kept.specs.Kept.{StandsAs, HasStatus, RawAgrees, Kept}
use Rattle.lvm_kept.specs.Committed.{IsWithinDisks}
use Rattle.lvm_kept.proofs.CommittedLemmas.Finding.{offered, is_offered}
use Rattle.lvm_status.specs.Rerowed.{IsRerowed}
use Rattle.lvm_commit.specs.Committed.{ShowsCommitted}
use Rattle.lvm_change_votes.specs.Examples.{member, of_one, of_two, group_of}
use Rattle.lvm_change_votes.specs.Meeting.{IsOneMore}
use Rattle.lvm_change_votes.proofs.ExamplesLemmas.{groups_may_reduce}
use Rattle.lvm_extend_laws.specs.Joining.{with_disk, TakesIn, LetsJoin, IsJoining, HasJoined}
use Rattle.lvm_extend_laws.specs.Examples.{status, next_status, next_group, before, halfway, behind, second_given_up, SecondsJoin}

-- ---- the two groups are valid

its_name : IsTrue (is_name (100 ∷ []))
unfolding is_name
its_name = refl

its_member : (d : ℕ) → d < 128 → IsMember (member d)
its_member d low = record { disk = low; a_partition = omega arith; partitions = omega arith }

valid_of : (quorum : Bool) (pvs : List PvRow) → 1 ≤ length pvs → length pvs ≤ 32 → AreMembers pvs → IsValid (group_of quorum false pvs)
valid_of quorum pvs some few members = record {
  head = record {
    some_id = λ e. omega (arith, e);
    id = omega arith;
    name = its_name;
    size = refl;
    even = λ is. absurd (false≢true is);
    a_member = some;
    members = few;
    volumes = omega arith;
  };
  members = members;
  volumes = record { each = λ k d lt. absurd (omega (arith, lt)); numbers_rise = λ i j d less lt. absurd (omega (arith, lt)); names_differ = λ i j d less lt. absurd (omega (arith, lt)) };
  maps = record { places = λ k d lt. absurd (omega (arith, lt)); laid_out = λ k d lt. absurd (omega (arith, lt)); used_once = λ i j d less lt. absurd (omega (arith, lt)) };
}

one_valid : (quorum : Bool) → IsValid (of_one quorum 0)
one_valid quorum = valid_of quorum (member 0 ∷ []) (omega arith) (omega arith) (record {
  each = All-cons IsMember (member 0) [] (its_member 0 (omega arith)) (All-nil IsMember);
  disks_differ = λ i j d less lt. absurd (omega (arith, less, lt));
})

two_valid : (quorum : Bool) → IsValid (of_two quorum false)
two_valid quorum = valid_of quorum (member 0 ∷ member 1 ∷ []) (omega arith) (omega arith) (record {
  each = All-cons IsMember (member 0) (member 1 ∷ []) (its_member 0 (omega arith)) (All-cons IsMember (member 1) [] (its_member 1 (omega arith)) (All-nil IsMember));
  disks_differ = AllPairs-cons (λ (a b : PvRow). a.disk ≢ b.disk) (member 0) (member 1 ∷ [])
      (All-cons (λ (b : PvRow). 0 ≢ b.disk) (member 1) [] (λ e. omega (arith, e)) (All-nil (λ (b : PvRow). 0 ≢ b.disk))) (λ i j d less lt. absurd (omega (arith, less, lt)));
})

-- ---- the status in the rows of two

told : (quorum : Bool) → IsRerowed (of_two quorum false) status next_status.value
told quorum = record {
  id = refl;
  big = refl;
  rows = λ disk. refl;
  stale = λ p. stale (0 == p.disk) (1 == p.disk) (has_bit (row_of 0 false).stale p.pp) (has-none 127 p.pp);
  missing = λ disk. missing (0 == disk) (1 == disk);
  dirty = refl;
}
  where
    stale : (s t b : Bool) → b ≡ false → ((s && b) || ((t && b) || false)) ≡ ((s || (t || false)) && ((s && b) || false))
    stale s t true is = absurd (false≢true (sym is))
    stale true true false is = refl
    stale true false false is = refl
    stale false true false is = refl
    stale false false false is = refl

    missing : (s t : Bool) → ((s && false) || ((t && false) || false)) ≡ ((s || (t || false)) && ((s && false) || false))
    missing true true = refl
    missing true false = refl
    missing false true = refl
    missing false false = refl

-- ---- what the disks show

-- what is there only where a test holds
there_if : {X : Type 0} (t : Bool) (x r : X) → (if t then Some x else None) ≡ Some r → (t ≡ true) × (r ≡ x)
there_if true x r e = (refl, sym (same_Some x r e))
there_if false x r e = absurd (no e)
  where
    no : None ≡ Some r → ⊥
    no is = cc

both : (d : ℕ) → either_of 0 1 d ≡ true → (d ≡ 0) ⊎ (d ≡ 1)
both d is = by (d == 0) refl is
  where
    by : (s : Bool) → (d == 0) ≡ s → (if s then true else d == 1) ≡ true → (d ≡ 0) ⊎ (d ≡ 1)
    by true e its = inl (eqb-true d 0 e)
    by false e its = inr (eqb-true d 1 its)

module _ (quorum : Bool) where
  abbrev c : Contents
  c = before quorum

  abbrev now : Descriptor
  now = of_one quorum 0

  showing : (d : ℕ) (r : Stamped Descriptor) → c.descriptor d ≡ Some r → (d ≡ 0) × (r ≡ stamped 2 now)
  showing d r e = let two = there_if (d == 0) (stamped 2 now) r e in (eqb-true d 0 two.0, two.1)

  stating : (d : ℕ) (r : Stamped Status) → c.status d ≡ Some r → (d ≡ 0) × (r ≡ stamped 1 status)
  stating d r e = let two = there_if (d == 0) (stamped 1 status) r e in (eqb-true d 0 two.0, two.1)

  within : IsWithinDisks c
  within = record { descriptors = λ d r e. (let at = (showing d r e).0 in omega (arith, at)); statuses = λ d r e. (let at = (stating d r e).0 in omega (arith, at)) }

  within_then : IsWithinDisks (behind quorum)
  within_then = record {
    descriptors = λ d r e. low d (there_if (either_of 0 1 d) (next_group quorum) r e).0;
    statuses = λ d r e. low d (there_if (either_of 0 1 d) next_status r e).0;
  }
    where
      low : (d : ℕ) → either_of 0 1 d ≡ true → d < 2
      low d is = ⊎_elim (λ (e : d ≡ 0). omega (arith, e)) (λ (e : d ≡ 1). omega (arith, e)) (both d is)

  found_by_all : (q : Bool) → Finds (before q) all_disks 50 (of_one q 0)
  unfolding has_quorum is_voter descriptor_among newest_below votes_by
  found_by_all true = record { quorum = refl; newest = stamped 2 (of_one true 0); found = refl; is = refl }
  found_by_all false = record { quorum = refl; newest = stamped 2 (of_one false 0); found = refl; is = refl }

  newest_is : (disks : Disks) (id : ℕ) (g : Descriptor) → (f : Finds c disks id g) → (f.newest ≡ stamped 2 now) × (f.newest.value.id ≡ id)
  unfolding descriptor_among
  newest_is disks id g f =
      let one = is_one Descriptor (offered (is_of id) c.descriptor disks) c.disks f.newest f.found in
      let at = is_offered (is_of id) c.descriptor disks one.0 f.newest one.2 in
      ((showing one.0 f.newest at.0).1, eqb-true f.newest.value.id id at.1)

  found_is : (disks : Disks) (id : ℕ) (g : Descriptor) → Finds c disks id g → g ≡ now
  found_is disks id g f = sym f.is ∙ ap (λ (x : Stamped Descriptor). x.value) (newest_is disks id g f).0

  group_is : (id : ℕ) (g : Descriptor) → IsFound c id g → g ≡ now
  group_is id g (disks, f) = found_is disks id g f

  at_zero : {X : Type 0} (f : ℕ → X) (x : X) → f 0 ≡ x → (d : ℕ) → only 0 d ≡ true → f d ≡ x
  at_zero f x is d on = ap f (eqb-true d 0 on) ∙ is

  shows : ShowsCommitted c now status (only 0)
  shows = record {
    found = found_by_all quorum;
    only = λ disks k f. found_is disks 50 k f;
    descriptor = stamped 2 now;
    value = refl;
    latest = λ d r e of. inr (showing d r e).1;
    described = at_zero c.descriptor (Some (stamped 2 now)) refl;
    room = at_zero (λ d. has_room c d now) true refl;
    own = refl;
    stands = stamped 1 status;
    committed = refl;
    stated = at_zero c.status (Some (stamped 1 status)) refl;
    last = λ d r e of. inr (stating d r e).1;
  }

  -- ---- what is kept

  common : (a b : Disks) (id : ℕ) (g h : Descriptor) → ReadsGroup c a id g → ReadsGroup c b id h → (d : ℕ) × IsTrue (members_in c a id g d) × IsTrue (members_in c b id h d)
  common a b id g h r s =
      let one : g ≡ now = group_is id g r.found in
      let other : h ≡ now = group_is id h s.found in
      subst (λ (k : Descriptor). (d : ℕ) × IsTrue (members_in c a id k d) × IsTrue (members_in c b id h d)) (sym one)
      (subst (λ (k : Descriptor). (d : ℕ) × IsTrue (members_in c a id now d) × IsTrue (members_in c b id k d)) (sym other)
      (let met = read_meets_read now (members_in c a id now) (members_in c b id now) (omega arith)
      (subst (λ (k : Descriptor). CanRead k (members_in c a id k)) one r.enough) (subst (λ (k : Descriptor). CanRead k (members_in c b id k)) other s.enough) in
      (met.0, met.2, met.3)))

  none_of : (g : Descriptor) → g ≡ now → (row : LvRow) → IsOneOf g.lvs row → ⊥
  none_of g is row one = subst (λ (rows : List LvRow). IsOneOf rows row) (ap (λ (k : Descriptor). k.lvs) is) one

  kept : Kept c second_given_up
  kept = record {
    agrees = record {
      volumes = λ disks id g f lv. subst (λ (k : Descriptor). StandsAs k.mib (volumes_in second_given_up lv).standing (volumes_in second_given_up lv).shape (volume_of k lv)) (sym (found_is disks id g f)) tt;
      status = λ disks id g f. subst (λ (k : Descriptor). HasStatus k.lvs (status_among c disks id)) (sym (found_is disks id g f)) tt;
      copies = λ disks id g f row lp b one inside. absurd (none_of g (found_is disks id g f) row one);
      raw = raw;
      available = λ lv settled. absurd (cc settled);
    };
    lasting = record {
      common = common;
      status = λ b id h k reads found. subst (λ (g : Descriptor). HasStatus g.lvs (status_by c b id h)) (sym (group_is id k found)) tt;
      across = λ b id h k reads found row lp n one inside. absurd (none_of k (group_is id k found) row one);
      some = λ b id h k reads found row lp one less. absurd (none_of k (group_is id k found) row one);
      size = λ id g h is also. ap (λ (k : Descriptor). k.mib) (group_is id g is ∙ sym (group_is id h also));
      partitions = λ id g h is also d p q one other. ap (λ (r : PvRow). r.pps)
          (same_Some p q (sym one ∙ ap (λ (k : Descriptor). member_of k d) (group_is id g is ∙ sym (group_is id h also)) ∙ other));
      descriptors = λ d e r s is also ids stamps. (showing d r is).1 ∙ sym (showing e s also).1;
      statuses = λ d e r s is also ids stamps. (stating d r is).1 ∙ sym (stating e s also).1;
    };
  }
    where
      raw : RawAgrees c second_given_up
      raw zero b less none from to = absurd (cc none)
      raw (suc zero) b less none from to = tt
      raw (suc (suc d)) b less none from to = absurd (omega (arith, less))

  -- ---- that it may join

  reduce : IsOneMore (of_one quorum 0) (of_two quorum false)
  reduce = (groups_may_reduce quorum).second

  votes : (q : Bool) → CanWrite (of_one q 0) (only 0)
  unfolding votes_by
  votes true = refl
  votes false = refl

  votes_next : (q : Bool) → CanWrite (of_two q false) (with_disk 1 (only 0))
  unfolding votes_by
  votes_next true = refl
  votes_next false = refl

  takes : TakesIn now (of_two quorum false) (member 1) (only 0)
  takes = record { valid = one_valid quorum; valid_next = two_valid quorum; apart = refl; is = refl; more = reduce; enough = votes quorum; enough_too = votes_next quorum }

  lets : LetsJoin c now (of_two quorum false) (member 1) status (only 0) next_status (next_group quorum)
  lets = record {
    takes = takes;
    shows = shows;
    free = inl refl;
    room = refl;
    value = refl;
    told = told quorum;
    statuses = λ d r e its. ap (λ (x : Stamped Status). stamp_lt x.stamp next_status.stamp) (stating d r e).1;
    descriptors = λ d r e its. ap (λ (x : Stamped Descriptor). stamp_lt x.stamp (next_group quorum).stamp) (showing d r e).1;
  }

  -- one disk has what it had or the next
  one_of : {X : Type 0} (was is : X) (d : ℕ) → ((if d == 1 then Some is else if d == 0 then Some was else None) ≡ (if d == 0 then Some was else None)) ⊎ (IsTrue (with_disk 1 (only 0) d) × ((if d == 1 then Some is else if d == 0 then Some was else None) ≡ Some is))
  one_of was is d = by (d == 1) (d == 0)
    where
      by : (s t : Bool) → ((if s then Some is else if t then Some was else None) ≡ (if t then Some was else None)) ⊎ (IsTrue (s || t) × ((if s then Some is else if t then Some was else None) ≡ Some is))
      by true t = inr (refl, refl)
      by false t = inl refl

  first : IsJoining c (halfway quorum) 1 (only 0) next_status (next_group quorum)
  first = record { statuses = one_of (stamped 1 status) next_status; descriptors = one_of (stamped 2 now) (next_group quorum); first = λ d is. refl; rest = refl }

  two_of : {X : Type 0} (was is : X) (d : ℕ) → ((if either_of 0 1 d then Some is else None) ≡ (if d == 0 then Some was else None)) ⊎ (IsTrue (with_disk 1 (only 0) d) × ((if either_of 0 1 d then Some is else None) ≡ Some is))
  two_of was is d = by (d == 0) (d == 1)
    where
      by : (s t : Bool) → ((if (if s then true else t) then Some is else None) ≡ (if s then Some was else None)) ⊎ (IsTrue (t || s) × ((if (if s then true else t) then Some is else None) ≡ Some is))
      by true true = inr (refl, refl)
      by true false = inr (refl, refl)
      by false true = inr (refl, refl)
      by false false = inl refl

  then_both : IsJoining c (behind quorum) 1 (only 0) next_status (next_group quorum)
  then_both = record { statuses = two_of (stamped 1 status) next_status; descriptors = two_of (stamped 2 now) (next_group quorum); first = λ d is. refl; rest = refl }

  all_votes : (q : Bool) → CanWrite (of_one q 0) (either_of 0 1)
  unfolding votes_by
  all_votes true = refl
  all_votes false = refl

  all_next : (q : Bool) → CanWrite (of_two q false) (either_of 0 1)
  unfolding votes_by
  all_next true = refl
  all_next false = refl

  done : HasJoined (behind quorum) now (of_two quorum false) 1 (only 0) (either_of 0 1) next_status (next_group quorum)
  done = record {
    joins = refl;
    among = λ d is. among (d == 0) (d == 1) is;
    states = λ d is. ap (λ (t : Bool). if t then Some next_status else None) is;
    describes = λ d is. ap (λ (t : Bool). if t then Some (next_group quorum) else None) is;
    enough = all_votes quorum;
    enough_too = all_next quorum;
  }
    where
      among : (s t : Bool) → (if s then true else t) ≡ true → IsTrue (t || s)
      among true true is = refl
      among true false is = refl
      among false true is = refl
      among false false is = absurd (false≢true is)

pub seconds_join : SecondsJoin
seconds_join quorum = record { within = within quorum; within_then = within_then quorum; lets = lets quorum; on_the_way = first quorum; over = then_both quorum; done = done quorum; kept = kept quorum }
