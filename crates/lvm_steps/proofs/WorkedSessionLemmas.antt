-- A group of three, varied on, and with a volume in the making.
use Rattle.std.proofs.Common.{◌≡◌, ◌⊎◌, inl, inr, ℕ, ◌<◌, ◌≤◌, ◌/◌, Bool, true, false, ◌&&◌, List, [], ◌∷◌, ◌++◌, length, Option, Some, None, refl, sym, ap, subst, ◌∙◌, arith}
use Rattle.std.specs.Prelude.{IsTrue, IsFalse, ◌==◌, nat_lt, ◌*◌, if◌then◌else◌, find}
use Rattle.std.proofs.lemmas.Option.{same_Some, none-some as no_some}
use Rattle.std.proofs.lemmas.Bool.{eqb-true}
use Rattle.std.proofs.lemmas.Bool.Decides.{nat_tests}
use Rattle.lvm_num.specs.declared.descriptor.Mode.TheVariants as mode
use Rattle.lvm_num.specs.declared.place.Pp.{Pp}
use Rattle.lvm_num.specs.declared.descriptor.LvRow.{LvRow}
use Rattle.lvm_num.specs.declared.descriptor.Descriptor.{Descriptor}
use Rattle.lvm_num.specs.declared.status.Status.{Status}
use Rattle.lvm_num.specs.Bits.{has_bit}
use Rattle.lvm_num.specs.Buffer.{zero_sector}
use Rattle.lvm_num.specs.Disks.{Disks}
use Rattle.lvm_num.specs.Descriptor.{copies_of}
use Rattle.lvm_num.specs.Status.{calls_stale}
use Rattle.lvm_num.specs.Votes.{votes_by, all_disks}
use Rattle.lvm_num.specs.Record.{Stamped, stamp_lt, newest_below}
use Rattle.lvm_num.proofs.RecordLemmas.Newest.{is_one, is_last}
use Rattle.lvm_num.proofs.VotesLemmas.{read_meets_read}
use Rattle.lvm_vol.specs.Facts.{Fact, Making, Cut}
use Rattle.lvm_vol.specs.May.{IsValue, unknown, cut, known}
use Rattle.lvm_vol.specs.declared.entry.Vol.TheVariants.{Lv}
use Rattle.lvm_kept.specs.Group.{passes, is_of, is_status_of, has_room, descriptor_among, is_voter, has_quorum, status_among, Finds, IsFound, members_in, status_by, ReadsGroup, IsOneOf}
use Rattle.lvm_kept.specs.Committed.{IsWithinDisks}
use Rattle.lvm_kept.specs.Kept.{Kept}
use Rattle.lvm_kept.specs.Changes.{IsFoundByNone}
use Rattle.lvm_kept.specs.Examples.{stamped, three, only, either_of}
use Rattle.lvm_kept.proofs.CommittedLemmas.Alike.{one_shown_is_one}
use Rattle.lvm_kept.proofs.CommittedLemmas.Finding.{offered, is_offered, offers}
use Rattle.lvm_steps.specs.Committing.{VolumeIsServed}
use Rattle.lvm_steps.specs.VaryingOn.{HasNewest}
use Rattle.lvm_steps.specs.WorkedMaking.{four_blank, status_of_three}
use Rattle.lvm_steps.specs.WorkedSession.{first_three, of_three, at_60, half_restamped, restamped, second_missing, half_restated, first_volume, with_volume, half_committed, WorkedSession}
use Rattle.lvm_steps.proofs.MakingLemmas.NoVolumes.{found_empty, statuses_may_change, descriptors_may_change}
use Rattle.lvm_steps.proofs.VaryingOnLemmas.VaryingOn.{restamp_keeps, restate_keeps}
use Rattle.lvm_steps.proofs.VaryingOnLemmas.Following.{restamp_is_newest}
use Rattle.lvm_steps.proofs.CommittingLemmas.{commit_keeps}
use Rattle.lvm_steps.proofs.VolumeEntriesLemmas.{volume_begins, zeros_serve}
use Rattle.lvm_steps.proofs.WorkedMakingLemmas.{blank}
use Rattle.lvm_steps.proofs.RecordLemmas.{first, second}

-- written to the disks of a test, or to none
put : {X : Type 0} (x o : Option X) (t : Bool) → ((if t then x else o) ≡ o) ⊎ (IsTrue t × ((if t then x else o) ≡ x))
put x o true = inr (refl, refl)
put x o false = inl refl

written : {X : Type 0} (x : X) (t : Bool) (r : X) → (if t then Some x else None) ≡ Some r → (t ≡ true) × (r ≡ x)
written x true r e = (refl, sym (same_Some x r e))
written x false r e = absurd (no_some r e)

-- ---- the group

settled : Kept of_three []
settled = descriptors_may_change three first_three (stamped 2 three) (record four_blank { status = of_three.status }) of_three []
    (record { empty = λ d r shows. absurd (no_some r shows); new_id = λ d r shows. absurd (no_some r shows); no_volume = refl; a_member = omega arith })
    refl (record { own = λ d. put (Some (stamped 2 three)) None (first_three d); rest = refl })
    (statuses_may_change three first_three status_of_three four_blank (record four_blank { status = of_three.status }) []
    (record { empty = λ d r shows. absurd (no_some r shows); new_id = λ d r shows. absurd (no_some r shows); no_volume = refl; a_member = omega arith })
    (λ d r shows. absurd (no_some r shows)) (record { own = λ d. put (Some status_of_three) None (first_three d); rest = refl }) blank)

in_three : (d : ℕ) → first_three d ≡ true → d < 4
in_three d is = go (d == 0) (d == 1) (d == 2) refl refl refl is
  where
    go : (s t u : Bool) → (d == 0) ≡ s → (d == 1) ≡ t → (d == 2) ≡ u → (if s then true else (if t then true else u)) ≡ true → d < 4
    go true t u p q r e = let same = eqb-true d 0 p in omega (arith, same)
    go false true u p q r e = let same = eqb-true d 1 q in omega (arith, same)
    go false false true p q r e = let same = eqb-true d 2 r in omega (arith, same)
    go false false false p q r e = absurd cc

within : IsWithinDisks of_three
within = record {
  descriptors = λ d r shows. in_three d (written (stamped 2 three) (first_three d) r shows).0;
  statuses = λ d r shows. in_three d (written status_of_three (first_three d) r shows).0;
}

two_find : Finds of_three (either_of 0 2) 50 three
unfolding has_quorum is_voter descriptor_among newest_below votes_by
two_find = record { quorum = refl; newest = stamped 2 three; found = refl; is = refl }

-- members show the group
first_shows : (d : ℕ) → IsTrue (only 0 d) → first_three d ≡ true
first_shows d is = ap (λ (t : Bool). if t then true else (if d == 1 then true else d == 2)) is

second_shows : (d : ℕ) → IsTrue (only 1 d) → first_three d ≡ true
second_shows d is = go (d == 0) (ap (λ (t : Bool). if t then true else d == 2) is)
  where
    go : (s : Bool) → (if d == 1 then true else d == 2) ≡ true → (if s then true else (if d == 1 then true else d == 2)) ≡ true
    go true e = refl
    go false e = e

either_shows : (d : ℕ) → IsTrue (either_of 0 2 d) → first_three d ≡ true
either_shows d is = go (d == 0) (d == 1) (d == 2) is
  where
    go : (s t u : Bool) → (if s then true else u) ≡ true → (if s then true else (if t then true else u)) ≡ true
    go true t u e = refl
    go false true u e = refl
    go false false u e = e

group_shows : (d : ℕ) → first_three d ≡ true → IsTrue (passes (is_of 50) (of_three.descriptor d))
group_shows d is = ap (λ (t : Bool). passes (is_of 50) (if t then Some (stamped 2 three) else None)) is

-- ---- varied on

earlier : (d : ℕ) (r : Stamped Descriptor) → of_three.descriptor d ≡ Some r → r.value.id ≡ 50 → stamp_lt r.stamp (record { epoch = 60; seq = 1 }) ≡ true
earlier d r shows its = ap (λ (x : Stamped Descriptor). stamp_lt x.stamp (record { epoch = 60; seq = 1 })) (written (stamped 2 three) (first_three d) r shows).1

half_on : Kept half_restamped []
half_on = restamp_keeps three (only 0) (at_60 1 three) of_three half_restamped [] within
    (record { value = refl; found = (either_of 0 2, two_find); showing = λ d is. group_shows d (first_shows d is); later = earlier })
    (record { own = λ d. put (Some (at_60 1 three)) (of_three.descriptor d) (only 0 d); rest = refl }) settled

stamped_anew : Kept restamped []
stamped_anew = restamp_keeps three (either_of 0 2) (at_60 1 three) of_three restamped [] within
    (record { value = refl; found = (either_of 0 2, two_find); showing = λ d is. group_shows d (either_shows d is); later = earlier })
    (record { own = λ d. put (Some (at_60 1 three)) (of_three.descriptor d) (either_of 0 2 d); rest = refl }) settled

voter_is : (d : ℕ) → IsTrue (is_voter of_three (either_of 0 2) 50 d) → IsTrue (either_of 0 2 d)
unfolding is_voter
voter_is d is = first (either_of 0 2 d) (passes (is_of 50) (of_three.descriptor d)) (first (either_of 0 2 d && passes (is_of 50) (of_three.descriptor d)) (passes (has_room of_three d) (descriptor_among of_three (either_of 0 2) 50)) is)

newest : HasNewest restamped three (either_of 0 2) (at_60 1 three)
newest = restamp_is_newest three (either_of 0 2) (either_of 0 2) (at_60 1 three) of_three restamped within (omega arith) two_find
    (record { value = refl; found = (either_of 0 2, two_find); showing = λ d is. group_shows d (either_shows d is); later = earlier })
    (record { own = λ d. put (Some (at_60 1 three)) (of_three.descriptor d) (either_of 0 2 d); rest = refl })
    (λ d is. ap (λ (t : Bool). if t then Some (at_60 1 three) else of_three.descriptor d) (voter_is d is))

restamped_within : IsWithinDisks restamped
restamped_within = record {
  descriptors = λ d r shows. by_test d r (either_of 0 2 d) refl shows;
  statuses = within.statuses;
}
  where
    by_test : (d : ℕ) (r : Stamped Descriptor) (t : Bool) → either_of 0 2 d ≡ t → (if t then Some (at_60 1 three) else of_three.descriptor d) ≡ Some r → d < 4
    by_test d r true is shows = in_three d (either_shows d is)
    by_test d r false is shows = within.descriptors d r shows

status_found : status_among restamped (either_of 0 2) 50 ≡ Some status_of_three
unfolding status_among is_voter descriptor_among newest_below
status_found = refl

restamped_shows : (d : ℕ) → IsTrue (only 0 d) → IsTrue (passes (is_of 50) (restamped.descriptor d))
restamped_shows d is = ap (λ (t : Bool). passes (is_of 50) (if (if t then true else d == 2) then Some (at_60 1 three) else of_three.descriptor d)) is

stated_anew : Kept half_restated []
stated_anew = restate_keeps three (either_of 0 2) (only 0) (at_60 1 three) status_of_three (at_60 2 second_missing) restamped half_restated [] restamped_within
    (record {
      newest_is = newest;
      own = refl;
      status = status_found;
      showing = restamped_shows;
      marks = record { stale = λ row lp p one. absurd one; dirty = λ row one. absurd one; only = λ row lp p one. absurd one };
      later = λ d r shows its. ap (λ (x : Stamped Status). stamp_lt x.stamp (record { epoch = 60; seq = 2 })) (written status_of_three (first_three d) r shows).1;
    })
    (record { own = λ d. put (Some (at_60 2 second_missing)) (of_three.status d) (only 0 d); rest = refl }) stamped_anew

-- ---- a volume in the making

abbrev facts : List Fact
facts = Making 1 2048 mode.Off ∷ []

empty : (d : ℕ) (r : Stamped Descriptor) → of_three.descriptor d ≡ Some r → r.value.lvs ≡ []
empty d r shows = ap (λ (x : Stamped Descriptor). x.value.lvs) (written (stamped 2 three) (first_three d) r shows).1

not_found : IsFoundByNone of_three 1
not_found id group is = ap (λ (rows : List LvRow). find (λ (row : LvRow). row.number == 1) rows) (found_empty of_three empty is.0 id group is.1)

begun : Kept of_three facts
begun = volume_begins of_three [] 1 2048 mode.Off not_found settled

-- of the group only this descriptor is found
found_three : (id : ℕ) (k : Descriptor) → IsFound of_three id k → k ≡ three
unfolding descriptor_among
found_three id k is =
    let one = is_one Descriptor (offered (is_of id) of_three.descriptor is.0) 4 is.1.newest is.1.found in
    let from = is_offered (is_of id) of_three.descriptor is.0 one.0 is.1.newest one.2 in
    sym is.1.is ∙ ap (λ (r : Stamped Descriptor). r.value) (written (stamped 2 three) (first_three one.0) is.1.newest from.0).1

-- and each set that can read finds the status
status_is : (b : Disks) (k : Descriptor) → ReadsGroup of_three b 50 k → status_by of_three b 50 k ≡ Some status_of_three
status_is b k reads =
    let same : k ≡ three = found_three 50 k reads.found in
    let some : 1 ≤ length k.pvs = subst (λ (g : Descriptor). 1 ≤ length g.pvs) (sym same) (omega arith) in
    let one = read_meets_read k (members_in of_three b 50 k) (members_in of_three b 50 k) some reads.enough reads.enough in
    let member : IsTrue (members_in of_three b 50 k one.0) = one.2 in
    let shows : first_three one.0 ≡ true = shown one.0 (of_three.descriptor one.0) refl (second (b one.0) (passes (is_of 50) (of_three.descriptor one.0)) (first (b one.0 && passes (is_of 50) (of_three.descriptor one.0)) (has_room of_three one.0 k) member)) in
    let here : of_three.status one.0 ≡ Some status_of_three = ap (λ (t : Bool). if t then Some status_of_three else None) shows in
    let last = is_last Status (offered (is_status_of 50) of_three.status (members_in of_three b 50 k)) 4 one.0 status_of_three (in_three one.0 shows) (offers (is_status_of 50) of_three.status (members_in of_three b 50 k) one.0 status_of_three member here refl) in
    let its = is_one Status (offered (is_status_of 50) of_three.status (members_in of_three b 50 k)) 4 last.0 last.1 in
    let from = is_offered (is_status_of 50) of_three.status (members_in of_three b 50 k) its.0 last.0 its.2 in
    last.1 ∙ ap (λ (r : Stamped Status). Some r) (written status_of_three (first_three its.0) last.0 from.0).1
  where
    shown : (d : ℕ) (o : Option (Stamped Descriptor)) → of_three.descriptor d ≡ o → passes (is_of 50) o ≡ true → first_three d ≡ true
    shown d None is passed = absurd cc
    shown d (Some r) is passed = (written (stamped 2 three) (first_three d) r is).0

no_mark : (lp : ℕ) → lp < 1 → (p : Pp) × IsOneOf (copies_of first_volume lp) p × IsTrue (members_in of_three all_disks 50 three p.disk) × IsFalse (calls_stale status_of_three.value p)
unfolding has_bit
no_mark lp lt = let zero_lp : lp ≡ 0 = omega (arith, lt) in
    (record { disk = 0; pp = 0 }, subst (λ (n : ℕ). IsOneOf (copies_of first_volume n) (record { disk = 0; pp = 0 })) (sym zero_lp) (inl refl), refl, refl)

zero_allowed : (lp n : ℕ) → lp < 1 → n / (2048 * 1) ≡ lp → IsValue (known (facts ++ Cut ∷ []) (Lv 1) n) zero_sector
zero_allowed lp n inside partition =
    let few : n < 2048 = omega (arith, inside, partition) in
    let test : nat_lt n 2048 ≡ true = grind (arith, nat_tests) in
    subst (λ (t : Bool). IsValue (cut n (if t then record { values = Some (zero_sector ∷ []); open_writes = []; loose = false; mode = mode.Off } else unknown)) zero_sector) (sym test) (inl refl)

served : (row : LvRow) → IsOneOf (first_volume ∷ []) row → VolumeIsServed of_three facts three row
served row (inr none) = absurd none
served row (inl is) = subst (λ (x : LvRow). VolumeIsServed of_three facts three x) (sym is) (zeros_serve of_three facts three first_volume (record {
  zeros = λ lp n p one inside. refl;
  allowed = λ lp n inside. zero_allowed lp n inside.inside inside.partition;
  found = λ b k reads. (status_of_three, status_is b k reads, no_mark);
}))

half_made : Kept half_committed facts
half_made = commit_keeps three 1 (only 1) (stamped 3 with_volume) of_three half_committed facts within
    (record {
      found = (either_of 0 2, two_find);
      differs = record { alone = refl; rows = λ row one isnt. only_row row one isnt; volumes = λ number isnt. other number (1 == number) refl isnt };
      stands = refl;
      served = λ row one its. served row one;
      showing = λ d is. group_shows d (second_shows d is);
      later = λ d r shows its. ap (λ (x : Stamped Descriptor). stamp_lt x.stamp (record { epoch = 50; seq = 3 })) (written (stamped 2 three) (first_three d) r shows).1;
    })
    (record { own = λ d. put (Some (stamped 3 with_volume)) (of_three.descriptor d) (only 1 d); rest = refl }) begun
  where
    only_row : (row : LvRow) → IsOneOf (first_volume ∷ []) row → (row.number ≡ 1 → ⊥) → IsOneOf [] row
    only_row row (inl is) isnt = absurd (isnt (ap (λ (x : LvRow). x.number) is))
    only_row row (inr none) isnt = none

    other : (number : ℕ) (t : Bool) → (1 == number) ≡ t → (number ≡ 1 → ⊥) → (if t then Some first_volume else None) ≡ None
    other number true is isnt = absurd (isnt (sym (eqb-true 1 number is)))
    other number false is isnt = refl

pub worked_session : WorkedSession
worked_session = record {
  settled = settled;
  one = one_shown_is_one of_three (λ d e r s shows also. ap (λ (x : Stamped Descriptor). x.value.id)
      ((written (stamped 2 three) (first_three d) r shows).1 ∙ sym (written (stamped 2 three) (first_three e) s also).1));
  half_on = half_on;
  stamped_anew = stamped_anew;
  stated_anew = stated_anew;
  begun = begun;
  half_made = half_made;
}
