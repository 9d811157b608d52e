-- A descriptor's bytes are read as it, and what is read is valid and spelled so.
use Rattle.std.proofs.Common.{◌≡◌, ◌≢◌, inl, inr, ℕ, zero, suc, ◌+◌, ◌*◌, ◌^◌, ◌<◌, ◌≤◌, Bool, true, false, cond, ◌&&◌, ◌||◌, List, [], ◌∷◌, ◌++◌, append-nil, append_assoc, length, get_or, replicate, Some, Result, Ok, Err, refl, sym, ap, subst, ◌∙◌, arith}
use Rattle.std.specs.Prelude.{◌==◌, ◌-◌, not, nat_le, nat_lt, bytes_eq, find, flat_map, map, All, AllPairs, IfOk}
use Rattle.std.specs.Int.{w8, w16, w64, to_be_bytes}
use Rattle.std.proofs.lemmas.Bool.{cases_Bool, false≢true, eq-eqb, eqb-true, not_from_false, leb-true, le-leb}
use Rattle.std.proofs.lemmas.Bool.Decides.{nat_tests}
use Rattle.std.proofs.lemmas.List.Elements.{All-nil, All-weaker}
use Rattle.std.proofs.lemmas.List.Folds.{Any-from_list_any, list_any_at}
use Rattle.lvm_num.specs.declared.place.Pp.{Pp}
use Rattle.lvm_num.specs.declared.descriptor.PvRow.{PvRow}
use Rattle.lvm_num.specs.declared.descriptor.LvRow.{LvRow}
use Rattle.lvm_num.specs.declared.descriptor.Descriptor.{Descriptor}
use Rattle.lvm_num.specs.Name.{is_name, padded}
use Rattle.lvm_num.specs.Descriptor.{is_size, most_members, most_volumes, partitions_in, partitions_used, IsMember, IsVolume, AreMembers, AreVolumes, IsPartitionOf, IsLaidOut, IsValid}
use Rattle.lvm_num.specs.DescriptorBytes.{flag, is_flag, descriptor_magic, member_bytes, volume_bytes, descriptor_bytes, IsDescriptor, version_at, name_at, member_count_at, members_at, volumes_at, maps_at, descriptor_of}
use Rattle.lvm_num.specs.Reading.{◌>>=◌, Rest, bytes_at, number_at, zeros_at, end_at}
use Rattle.lvm_num.proofs.MarksLemmas.Maps.{find-Some}
use Rattle.lvm_num.proofs.DescriptorLemmas.Bounds.{few_volumes}
use Rattle.lvm_vgda.specs.passed.Fields.{Fault, Gives}
use Rattle.lvm_vgda.proofs.passed.Fields.{IsBytes, bind_ok, ok_is, both, from_both, Takes, bytes_takes, bytes_again, wide16, wide64, number_takes, number_again, number_value, byte_takes, byte_again, zeros_take, zeros_again}
use Rattle.lvm_vgda.proofs.DescriptorBytesLemmas.NameLaws.{bytes_same, name_takes, name_again}
use Rattle.lvm_vgda.proofs.DescriptorBytesLemmas.MemberLaws.{all_at, not_true, at_least_1, flag_is, flag_again, is_flag_flag, MembersTaken, members_take, members_again}
use Rattle.lvm_vgda.proofs.DescriptorLemmas.VolumeLaws.{bare, VolumesTaken, volumes_take, volumes_again, bare_length, bare_bytes, bare_volumes, whole_volumes, bare_is}
use Rattle.lvm_vgda.proofs.DescriptorBytesLemmas.MapLaws.{Has, HasCopies, map_bytes, MapsTaken, maps_take, maps_again}
use Rattle.lvm_vgda.proofs.DescriptorBytesLemmas.MapLoops.{passes_on}

-- ---- the version

abbrev is_magic : List ℕ → Bool
is_magic bytes = bytes_eq bytes (descriptor_magic false) || bytes_eq bytes (descriptor_magic true)

magic_is : (bytes : List ℕ) → is_magic bytes ≡ true → bytes ≡ descriptor_magic (bytes_eq bytes (descriptor_magic true))
magic_is bytes e = elim (cases_Bool (bytes_eq bytes (descriptor_magic true))) [
  | inl big ↦ bytes_same bytes (descriptor_magic true) big ∙ ap descriptor_magic (sym big)
  | inr small ↦ bytes_same bytes (descriptor_magic false) (first _ _ e small) ∙ ap descriptor_magic (sym small)
]
  where
    first : (a b : Bool) → a || b ≡ true → b ≡ false → a ≡ true
    first true b p q = refl
    first false b p q = absurd cc

version_takes : (r : Rest) (x : Bool × Rest) → IsBytes r.1 → version_at r ≡ Ok x → Takes r (descriptor_magic x.0) x.1
unfolding version_at
version_takes r x fits e =
    let b = bind_ok (bytes_at 4 (λ bytes. bytes_eq bytes (descriptor_magic false) || bytes_eq bytes (descriptor_magic true)) r) _ x e in
    let t = bytes_takes 4 (λ bytes. bytes_eq bytes (descriptor_magic false) || bytes_eq bytes (descriptor_magic true)) r b.0 fits b.1 in
    let made : Bool × Rest = (bytes_eq b.0.0 (descriptor_magic true), b.0.1) in
    subst (λ (y : Bool × Rest). Takes r (descriptor_magic y.0) y.1) (ok_is made x b.2)
    (subst (λ (field : List ℕ). Takes r field b.0.1) (magic_is b.0.0 t.2) t.0)

version_again : (big : Bool) (place : ℕ) (rest : List ℕ) → version_at (place, descriptor_magic big ++ rest) ≡ Ok (big, (place + 4, rest))
unfolding version_at
version_again big place rest =
    passes_on _ _ _ (bytes_again 4 (λ bytes. bytes_eq bytes (descriptor_magic false) || bytes_eq bytes (descriptor_magic true)) place (descriptor_magic big) rest refl (passes big))
    ∙ ap (λ b. Ok (b, (place + 4, rest))) (same big)
  where
    passes : (b : Bool) → bytes_eq (descriptor_magic b) (descriptor_magic false) || bytes_eq (descriptor_magic b) (descriptor_magic true) ≡ true
    passes true = refl
    passes false = refl

    same : (b : Bool) → bytes_eq (descriptor_magic b) (descriptor_magic true) ≡ b
    same true = refl
    same false = refl

-- ---- the number of members

even_ok : {A : Type 0} (b : Bool) (p : ℕ) (read : Result A ℕ) (x : A) → cond b (Err p) read ≡ Ok x → (b ≡ false) × (read ≡ Ok x)
even_ok true p read x e = absurd cc
even_ok false p read x e = (refl, e)

pub record CountTaken (big even : Bool) (r : Rest) (x : ℕ × Rest) : Type 0 where
  pub took : Takes r (to_be_bytes w16 x.0) x.1
  pub even_two : even ≡ true → x.0 ≡ 2
  pub some : 1 ≤ x.0
  pub most : x.0 ≤ most_members big

count_takes : (big even : Bool) (r : Rest) (x : ℕ × Rest) → IsBytes r.1 → member_count_at big even r ≡ Ok x → CountTaken big even r x
unfolding member_count_at
count_takes big even r x fits e =
    let a = bind_ok (number_at w16 (λ n. true) r) (λ count. cond (even && not (count.0 == 2)) (Err (r.0 - 1)) (number_at w16 (λ n. nat_le 1 n && nat_le n (most_members big)) r)) x e in
    let b = even_ok (even && not (a.0.0 == 2)) (r.0 - 1) (number_at w16 (λ n. nat_le 1 n && nat_le n (most_members big)) r) x a.2 in
    let any = number_takes w16 _ wide16 (λ n. true) r a.0 fits a.1 in
    let t = number_takes w16 _ wide16 (λ n. nat_le 1 n && nat_le n (most_members big)) r x fits b.1 in
    let tests = both (nat_le 1 x.0) (nat_le x.0 (most_members big)) t.1 in
    record {
      took = t.0;
      even_two = λ is.
          let same : a.0.0 ≡ x.0 = one_number r a.0 x a.1 b.1 in
          sym same ∙ eqb-true a.0.0 2 (twice even (a.0.0 == 2) is b.0);
      some = at_least_1 x.0 tests.0;
      most = leb-true x.0 (most_members big) tests.1;
    }
  where
    twice : (p q : Bool) → p ≡ true → p && not q ≡ false → q ≡ true
    twice true true is e' = refl
    twice true false is e' = absurd cc
    twice false q is e' = absurd cc

    one_number : (s : Rest) (y z : ℕ × Rest) → number_at w16 (λ n. true) s ≡ Ok y → number_at w16 (λ n. nat_le 1 n && nat_le n (most_members big)) s ≡ Ok z → y.0 ≡ z.0
    one_number s y z p q = sym (number_value w16 (λ n. true) s y p) ∙ number_value w16 (λ n. nat_le 1 n && nat_le n (most_members big)) s z q

count_again : (big even : Bool) (place n : ℕ) (rest : List ℕ) → (even ≡ true → n ≡ 2) → 1 ≤ n → n ≤ most_members big → member_count_at big even (place, to_be_bytes w16 n ++ rest) ≡ Ok (n, (place + 2, rest))
unfolding member_count_at
count_again big even place n rest two some most =
    let small : n < 2 ^ 16 = omega (arith, most, few big) in
    let any = number_again w16 _ wide16 (λ n. true) place n rest small refl in
    let own = number_again w16 _ wide16 (λ n. nat_le 1 n && nat_le n (most_members big)) place n rest small (from_both (nat_le 1 n) (nat_le n (most_members big)) (le-leb 1 n some) (le-leb n (most_members big) most)) in
    passes_on _ (λ (count : ℕ × Rest). cond (even && not (count.0 == 2)) (Err (place - 1)) (number_at w16 (λ n. nat_le 1 n && nat_le n (most_members big)) (place, to_be_bytes w16 n ++ rest))) _ any
    ∙ skip (even && not (n == 2)) (place - 1) _ (not_other even two)
    ∙ own
  where
    few : (b : Bool) → most_members b ≤ 128
    few true = omega arith
    few false = omega arith

    skip : (b : Bool) (p : ℕ) (read : Result (ℕ × Rest) ℕ) → b ≡ false → cond b (Err p) read ≡ read
    skip true p read e = absurd cc
    skip false p read e = refl

    not_other : (b : Bool) → (b ≡ true → n ≡ 2) → b && not (n == 2) ≡ false
    not_other true is = ap not (eq-eqb n 2 (is refl))
    not_other false is = refl

-- ---- partitions of members

first_of : (rows : List PvRow) (disk : ℕ) → AllPairs (λ (a b : PvRow). a.disk ≢ b.disk) rows → (k : ℕ) (row : PvRow) → k < length rows → get_or rows k row ≡ row → row.disk ≡ disk
    → find (λ (r : PvRow). r.disk == disk) rows ≡ Some row
first_of [] disk differ k row lt there is = absurd (omega (arith, lt))
first_of (r ∷ rows) disk differ zero row lt there is =
    let here : r.disk == disk ≡ true = eq-eqb r.disk disk (ap (λ (x : PvRow). x.disk) there ∙ is) in
    found (r.disk == disk) here ∙ ap Some there
  where
    found : (b : Bool) → b ≡ true → cond b (Some r) (find (λ (x : PvRow). x.disk == disk) rows) ≡ Some r
    found true e = refl
    found false e = absurd cc
first_of (r ∷ rows) disk differ (suc k) row lt there is =
    let other : r.disk ≢ disk = λ same. differ 0 (suc k) row (omega arith) lt (same ∙ sym is ∙ ap (λ (x : PvRow). x.disk) (sym there)) in
    passed (r.disk == disk) (isnt r.disk other) ∙ first_of rows disk (AllPairs-tail differ) k row (omega (arith, lt)) there is
  where
    isnt : (n : ℕ) → n ≢ disk → n == disk ≡ false
    isnt n apart = elim (cases_Bool (n == disk)) [
      | inl same ↦ absurd (apart (eqb-true n disk same))
      | inr isno ↦ isno
    ]

    passed : (b : Bool) → b ≡ false → cond b (Some r) (find (λ (x : PvRow). x.disk == disk) rows) ≡ find (λ (x : PvRow). x.disk == disk) rows
    passed true e = absurd cc
    passed false e = refl

    AllPairs-tail : AllPairs (λ (a b : PvRow). a.disk ≢ b.disk) (r ∷ rows) → AllPairs (λ (a b : PvRow). a.disk ≢ b.disk) rows
    AllPairs-tail all i j d less inside = all (suc i) (suc j) d (omega (arith, less)) (omega (arith, inside))

has_is_of : (d : Descriptor) → AreMembers d.pvs → (pp : Pp) → Has d.pvs pp → IsPartitionOf d pp
has_is_of d members pp has =
    let found = Any-from_list_any (λ (row : PvRow). row.disk == pp.disk && nat_lt pp.pp row.pps) d.pvs has in
    let tests = both (found.1.disk == pp.disk) (nat_lt pp.pp found.1.pps) found.4 in
    (found.1, first_of d.pvs pp.disk members.disks_differ found.0 found.1 found.2 found.3 (eqb-true found.1.disk pp.disk tests.0), lt_of pp.pp found.1.pps tests.1)
  where
    lt_of : (m n : ℕ) → nat_lt m n ≡ true → m < n
    lt_of m n e = grind (arith, nat_tests)

of_is_has : (d : Descriptor) (pp : Pp) → IsPartitionOf d pp → Has d.pvs pp
of_is_has d pp of =
    let row : PvRow = of.0 in
    let found = find-Some (λ (r : PvRow). r.disk == pp.disk) d.pvs of.0 of.1 in
    let there : get_or d.pvs found.1.0 of.0 ≡ of.0 = found.1.2 of.0 in
    let passes : (of.0.disk == pp.disk) && nat_lt pp.pp of.0.pps ≡ true = from_both (of.0.disk == pp.disk) (nat_lt pp.pp of.0.pps) found.0 (test_of pp.pp of.0.pps of.2) in
    list_any_at (λ (r : PvRow). r.disk == pp.disk && nat_lt pp.pp r.pps) d.pvs found.1.0 of.0 found.1.1 (ap (λ (r : PvRow). (r.disk == pp.disk) && nat_lt pp.pp r.pps) there ∙ passes)
  where
    test_of : (m n : ℕ) → m < n → nat_lt m n ≡ true
    test_of m n lt = grind (arith, nat_tests)

-- ---- the end

end_takes : {X : Type 0} (x y : X) (r : Rest) → end_at x r ≡ Ok y → (r.1 ≡ []) × (x ≡ y)
end_takes x y (place, []) e = (refl, ok_is x y e)
end_takes x y (place, b ∷ bytes) e = absurd cc

-- ---- the parts of the bytes, from left to right

abbrev body_bytes : List PvRow → List LvRow → List ℕ → List ℕ
body_bytes pvs lvs rest =
    to_be_bytes w16 (length pvs) ++ (to_be_bytes w16 (length lvs) ++ (replicate 12 0 ++ (flat_map member_bytes pvs ++ (flat_map volume_bytes lvs ++ (flat_map map_bytes lvs ++ rest)))))

nested : Descriptor → List ℕ → List ℕ
nested d rest =
    descriptor_magic d.big ++ (to_be_bytes w64 d.id ++ (padded d.name ++ (to_be_bytes w16 d.mib ++ (flag d.quorum ∷ flag d.even ∷ body_bytes d.pvs d.lvs rest))))

regroup : (d : Descriptor) (rest : List ℕ) → descriptor_bytes d ++ rest ≡ nested d rest
unfolding nested
regroup d rest = simp append_assoc

none_twice : AllPairs (λ (a b : Pp). a ≢ b) []
none_twice i j d less lt = absurd (omega (arith, lt))

-- ---- what is read is valid and spelled so

not_zero : (n : ℕ) → not (n == 0) ≡ true → n ≢ 0
not_zero n e same = false≢true (sym (not_true (n == 0) e) ∙ eq-eqb n 0 same)

no_members : AreMembers []
no_members = record { each = All-nil IsMember; disks_differ = λ i j d less lt. absurd (omega (arith, lt)) }

no_volumes : (big : Bool) → AreVolumes big []
no_volumes big = record { each = All-nil (IsVolume big); numbers_rise = λ i j d less lt. absurd (omega (arith, lt)); names_differ = λ i j d less lt. absurd (omega (arith, lt)) }

copies_of_volumes : (big : Bool) (rows : List LvRow) → AreVolumes big rows → All HasCopies rows
copies_of_volumes big rows all = All-weaker (IsVolume big) HasCopies (λ row is. is.a_copy) rows all.each

-- what stands behind the flags
abbrev body_of : Bool → ℕ → List ℕ → ℕ → ℕ → ℕ → Rest → Result Descriptor ℕ
body_of big id name mib quorum even rest =
    member_count_at big (even == 1) rest >>= λ pvs.
    number_at w16 (λ n. nat_le n (most_volumes big)) pvs.1 >>= λ lvs.
    zeros_at 12 lvs.1 >>= λ gap.
    members_at pvs.0 [] gap >>= λ members.
    volumes_at big lvs.0 [] members.1 >>= λ volumes.
    maps_at members.0 [] volumes.0 volumes.1 >>= λ maps.
    end_at (record { id = id; name = name; mib = mib; quorum = quorum == 1; even = even == 1; big = big; pvs = members.0; lvs = maps.0 }) maps.1

record BodyTaken (big : Bool) (id : ℕ) (name : List ℕ) (mib quorum even : ℕ) (r : Rest) (d : Descriptor) : Type 0 where
  pvs : List PvRow
  lvs : List LvRow
  made : record { id = id; name = name; mib = mib; quorum = quorum == 1; even = even == 1; big = big; pvs = pvs; lvs = lvs } ≡ d
  parts : r.1 ≡ body_bytes pvs lvs []
  two : (even == 1) ≡ true → length pvs ≡ 2
  some : 1 ≤ length pvs
  members_fit : length pvs ≤ most_members big
  volumes_fit : length lvs ≤ most_volumes big
  members : AreMembers pvs
  volumes : AreVolumes big lvs
  places : All (Has pvs) (partitions_in lvs)
  laid_out : All IsLaidOut lvs
  once : AllPairs (λ (a b : Pp). a ≢ b) (partitions_in lvs)

body_takes : (big : Bool) (id : ℕ) (name : List ℕ) (mib quorum even : ℕ) (r : Rest) (d : Descriptor) → IsBytes r.1 → body_of big id name mib quorum even r ≡ Ok d → BodyTaken big id name mib quorum even r d
body_takes big id name mib quorum even r d fits e =
    let i = bind_ok (member_count_at big (even == 1) r) _ d e in
    let j = bind_ok (number_at w16 (λ n. nat_le n (most_volumes big)) i.0.1) _ d i.2 in
    let k = bind_ok (zeros_at 12 j.0.1) _ d j.2 in
    let l = bind_ok (members_at i.0.0 [] k.0) _ d k.2 in
    let m = bind_ok (volumes_at big j.0.0 [] l.0.1) _ d l.2 in
    let n = bind_ok (maps_at l.0.0 [] m.0.0 m.0.1) _ d m.2 in
    let ti = count_takes big (even == 1) r i.0 fits i.1 in
    let tj = number_takes w16 _ wide16 (λ n. nat_le n (most_volumes big)) i.0.1 j.0 ti.took.fits j.1 in
    let tk = zeros_take 12 j.0.1 k.0 tj.0.fits k.1 in
    let tl = members_take i.0.0 [] k.0 l.0 tk.fits no_members l.1 in
    let tm = volumes_take big j.0.0 [] l.0.1 m.0 tl.took.fits (no_volumes big) m.1 in
    let tn = maps_take l.0.0 [] m.0.0 m.0.1 n.0 tm.took.fits (copies_of_volumes big m.0.0 tm.valid) none_twice n.1 in
    body_made big id name mib quorum even r d i.0 j.0 k.0 l.0 m.0 n.0 ti (tj.0, tj.1) tk tl tm tn (end_takes (record { id = id; name = name; mib = mib; quorum = quorum == 1; even = even == 1; big = big; pvs = l.0.0; lvs = n.0.0 }) d n.0.1 n.2)
  where
    body_made : (big : Bool) (id : ℕ) (name : List ℕ) (mib quorum even : ℕ) (r : Rest) (d : Descriptor) (i : ℕ × Rest) (j : ℕ × Rest) (k : Rest) (l : List PvRow × Rest) (m : List LvRow × Rest) (n : List LvRow × Rest)
        → CountTaken big (even == 1) r i → Takes i.1 (to_be_bytes w16 j.0) j.1 × (nat_le j.0 (most_volumes big) ≡ true) → Takes j.1 (replicate 12 0) k → MembersTaken i.0 [] k l → VolumesTaken big j.0 [] l.1 m → MapsTaken l.0 [] m.0 m.1 n
        → (n.1.1 ≡ []) × (record { id = id; name = name; mib = mib; quorum = quorum == 1; even = even == 1; big = big; pvs = l.0; lvs = n.0 } ≡ d)
        → BodyTaken big id name mib quorum even r d
    body_made big id name mib quorum even r d i j k l m n ti tj tk tl tm tn last =
        let empty : map bare m.0 ≡ m.0 = ap (λ (rows : List LvRow). map bare rows) tm.rows ∙ bare_is tm.own tm.empty ∙ sym tm.rows in
        let pvs-size : i.0 ≡ length l.0 = sym tl.size ∙ sym (ap (length {A = PvRow}) tl.rows) in
        let lvs-size : j.0 ≡ length n.0 = sym tm.size ∙ sym (ap (length {A = LvRow}) tm.rows) ∙ sym (ap (length {A = LvRow}) empty) ∙ sym (ap (length {A = LvRow}) tn.same) ∙ bare_length n.0 in
        let pvs-bytes : flat_map member_bytes tl.own ≡ flat_map member_bytes l.0 = ap (flat_map member_bytes) (sym tl.rows) in
        let lvs-bytes : flat_map volume_bytes tm.own ≡ flat_map volume_bytes n.0 =
        ap (flat_map volume_bytes) (sym tm.rows) ∙ ap (flat_map volume_bytes) (sym empty) ∙ ap (flat_map volume_bytes) (sym tn.same) ∙ bare_bytes n.0 in
        let pn : m.1.1 ≡ flat_map map_bytes n.0 ++ [] = tn.took.parts ∙ ap (λ (x : List ℕ). flat_map map_bytes n.0 ++ x) last.0 in
        let pm : l.1.1 ≡ flat_map volume_bytes n.0 ++ (flat_map map_bytes n.0 ++ []) = tm.took.parts ∙ ap (λ (x : List ℕ). x ++ m.1.1) lvs-bytes ∙ ap (λ (x : List ℕ). flat_map volume_bytes n.0 ++ x) pn in
        let pl : k.1 ≡ flat_map member_bytes l.0 ++ (flat_map volume_bytes n.0 ++ (flat_map map_bytes n.0 ++ [])) = tl.took.parts ∙ ap (λ (x : List ℕ). x ++ l.1.1) pvs-bytes ∙ ap (λ (x : List ℕ). flat_map member_bytes l.0 ++ x) pm in
        let pk : j.1.1 ≡ replicate 12 0 ++ (flat_map member_bytes l.0 ++ (flat_map volume_bytes n.0 ++ (flat_map map_bytes n.0 ++ []))) = tk.parts ∙ ap (λ (x : List ℕ). replicate 12 0 ++ x) pl in
        let pj : i.1.1 ≡ to_be_bytes w16 (length n.0) ++ (replicate 12 0 ++ (flat_map member_bytes l.0 ++ (flat_map volume_bytes n.0 ++ (flat_map map_bytes n.0 ++ [])))) =
        tj.0.parts ∙ ap (λ x. to_be_bytes w16 x ++ j.1.1) lvs-size ∙ ap (λ (x : List ℕ). to_be_bytes w16 (length n.0) ++ x) pk in
        let pi : r.1 ≡ body_bytes l.0 n.0 [] = ti.took.parts ∙ ap (λ x. to_be_bytes w16 x ++ i.1.1) pvs-size ∙ ap (λ (x : List ℕ). to_be_bytes w16 (length l.0) ++ x) pj in
        record {
          pvs = l.0;
          lvs = n.0;
          made = last.1;
          parts = pi;
          two = λ is. sym pvs-size ∙ ti.even_two is;
          some = subst (λ x. 1 ≤ x) pvs-size ti.some;
          members_fit = subst (λ x. x ≤ most_members big) pvs-size ti.most;
          volumes_fit = subst (λ x. x ≤ most_volumes big) lvs-size (leb-true j.0 (most_volumes big) tj.1);
          members = tl.valid;
          volumes = whole_volumes big n.0 (subst (AreVolumes big) (sym (tn.same ∙ empty)) tm.valid);
          places = tn.places;
          laid_out = tn.laid_out;
          once = tn.once;
        }

is_made : (bytes : List ℕ) (big : Bool) (id : ℕ) (name : List ℕ) (mib quorum even : ℕ) (r : Rest) (d : Descriptor) → id ≢ 0 → id < 2 ^ 64 → is_name name ≡ true → is_size mib ≡ true
    → bytes ≡ descriptor_magic big ++ (to_be_bytes w64 id ++ (padded name ++ (to_be_bytes w16 mib ++ (flag (quorum == 1) ∷ flag (even == 1) ∷ r.1))))
    → BodyTaken big id name mib quorum even r d → IsDescriptor bytes d
unfolding nested
is_made bytes big id name mib quorum even r d some-id id-below is-name is-size front t =
    let made : Descriptor = record { id = id; name = name; mib = mib; quorum = quorum == 1; even = even == 1; big = big; pvs = t.pvs; lvs = t.lvs } in
    let spelled : bytes ≡ nested (record { id = id; name = name; mib = mib; quorum = quorum == 1; even = even == 1; big = big; pvs = t.pvs; lvs = t.lvs }) [] =
    front ∙ ap (λ (x : List ℕ). descriptor_magic big ++ (to_be_bytes w64 id ++ (padded name ++ (to_be_bytes w16 mib ++ (flag (quorum == 1) ∷ flag (even == 1) ∷ x))))) t.parts in
    subst (λ (y : Descriptor). IsDescriptor bytes y) t.made (record {
      valid = record {
        head = record { some_id = some-id; id = id-below; name = is-name; size = is-size; even = t.two; a_member = t.some; members = t.members_fit; volumes = t.volumes_fit };
        members = t.members;
        volumes = t.volumes;
        maps = record {
          places = All-weaker (Has t.pvs) (IsPartitionOf made) (has_is_of made t.members) (partitions_in t.lvs) t.places;
          laid_out = t.laid_out;
          used_once = t.once;
        };
      };
      spelled = sym (append-nil (descriptor_bytes made)) ∙ regroup made [] ∙ sym spelled;
    })

pub read_is_spelled : (bytes : List ℕ) (d : Descriptor) → IsBytes bytes → descriptor_of bytes ≡ Ok d → IsDescriptor bytes d
unfolding descriptor_of
read_is_spelled bytes d fits e =
    let a = bind_ok (version_at (0, bytes)) _ d e in
    let b = bind_ok (number_at w64 (λ n. not (n == 0)) a.0.1) _ d a.2 in
    let c = bind_ok (name_at (λ text. true) b.0.1) _ d b.2 in
    let f = bind_ok (number_at w16 is_size c.0.1) _ d c.2 in
    let g = bind_ok (number_at w8 is_flag f.0.1) _ d f.2 in
    let h = bind_ok (number_at w8 is_flag g.0.1) _ d g.2 in
    let ta = version_takes (0, bytes) a.0 fits a.1 in
    let tb = number_takes w64 _ wide64 (λ n. not (n == 0)) a.0.1 b.0 ta.fits b.1 in
    let tc = name_takes (λ text. true) b.0.1 c.0 tb.0.fits c.1 in
    let tf = number_takes w16 _ wide16 is_size c.0.1 f.0 tc.0.fits f.1 in
    let tg = byte_takes is_flag f.0.1 g.0 tf.0.fits g.1 in
    let th = byte_takes is_flag g.0.1 h.0 tg.0.fits h.1 in
    let t = body_takes a.0.0 b.0.0 c.0.0 f.0.0 g.0.0 h.0.0 h.0.1 d th.0.fits h.2 in
    let front = front_parts bytes a.0 b.0 c.0 f.0 g.0 h.0 ta tb.0 tc.0 tf.0 tg.0 th.0 (flag_is g.0.0 tg.1) (flag_is h.0.0 th.1) in
    is_made bytes a.0.0 b.0.0 c.0.0 f.0.0 g.0.0 h.0.0 h.0.1 d (not_zero b.0.0 tb.1) tb.2 tc.1 tf.1 front t
  where
    front_parts : (s : List ℕ) (a : Bool × Rest) (b : ℕ × Rest) (c : List ℕ × Rest) (f g h : ℕ × Rest)
        → Takes (0, s) (descriptor_magic a.0) a.1 → Takes a.1 (to_be_bytes w64 b.0) b.1 → Takes b.1 (padded c.0) c.1 → Takes c.1 (to_be_bytes w16 f.0) f.1 → Takes f.1 (g.0 ∷ []) g.1 → Takes g.1 (h.0 ∷ []) h.1
        → g.0 ≡ flag (g.0 == 1) → h.0 ≡ flag (h.0 == 1)
        → s ≡ descriptor_magic a.0 ++ (to_be_bytes w64 b.0 ++ (padded c.0 ++ (to_be_bytes w16 f.0 ++ (flag (g.0 == 1) ∷ flag (h.0 == 1) ∷ h.1.1))))
    front_parts s a b c f g h ta tb tc tf tg th g-is h-is =
        let ph : g.1.1 ≡ flag (h.0 == 1) ∷ h.1.1 = th.parts ∙ ap (λ x. x ∷ h.1.1) h-is in
        let pg : f.1.1 ≡ flag (g.0 == 1) ∷ flag (h.0 == 1) ∷ h.1.1 = tg.parts ∙ ap (λ x. x ∷ g.1.1) g-is ∙ ap (λ (x : List ℕ). flag (g.0 == 1) ∷ x) ph in
        let pf : c.1.1 ≡ to_be_bytes w16 f.0 ++ (flag (g.0 == 1) ∷ flag (h.0 == 1) ∷ h.1.1) = tf.parts ∙ ap (λ (x : List ℕ). to_be_bytes w16 f.0 ++ x) pg in
        let pc : b.1.1 ≡ padded c.0 ++ (to_be_bytes w16 f.0 ++ (flag (g.0 == 1) ∷ flag (h.0 == 1) ∷ h.1.1)) = tc.parts ∙ ap (λ (x : List ℕ). padded c.0 ++ x) pf in
        let pb : a.1.1 ≡ to_be_bytes w64 b.0 ++ (padded c.0 ++ (to_be_bytes w16 f.0 ++ (flag (g.0 == 1) ∷ flag (h.0 == 1) ∷ h.1.1))) = tb.parts ∙ ap (λ (x : List ℕ). to_be_bytes w64 b.0 ++ x) pc in
        ta.parts ∙ ap (λ (x : List ℕ). descriptor_magic a.0 ++ x) pb

-- ---- what is valid is read from its spelling

size_below : (mib : ℕ) → is_size mib ≡ true → mib < 2 ^ 16
size_below mib e =
    let found = Any-from_list_any (λ size. size == mib) (1 ∷ 2 ∷ 4 ∷ 8 ∷ 16 ∷ 32 ∷ 64 ∷ 128 ∷ 256 ∷ 512 ∷ 1024 ∷ []) e in
    let same : found.1 ≡ mib = eqb-true found.1 mib found.4 in
    subst (λ n. n < 2 ^ 16) (found.3 ∙ same)
    (lt_of _ (all_at (λ n. nat_lt n 65536) (1 ∷ 2 ∷ 4 ∷ 8 ∷ 16 ∷ 32 ∷ 64 ∷ 128 ∷ 256 ∷ 512 ∷ 1024 ∷ []) refl found.0 found.1 found.2))
  where
    lt_of : (n : ℕ) → nat_lt n 65536 ≡ true → n < 2 ^ 16
    lt_of n is = grind (arith, nat_tests)

pub spelled_is_read : (d : Descriptor) → IsValid d → descriptor_of (descriptor_bytes d) ≡ Ok d
unfolding descriptor_of version_at nested
spelled_is_read d valid =
    let head = valid.head in
    let lvs = d.lvs in
    let rest_map : List ℕ = flat_map map_bytes d.lvs ++ [] in
    let rest_lvs : List ℕ = flat_map volume_bytes d.lvs ++ (flat_map map_bytes d.lvs ++ []) in
    let rest_pvs : List ℕ = flat_map member_bytes d.pvs ++ (flat_map volume_bytes d.lvs ++ (flat_map map_bytes d.lvs ++ [])) in
    let s9 : List ℕ = replicate 12 0 ++ rest_pvs in
    let s8 : List ℕ = to_be_bytes w16 (length d.lvs) ++ s9 in
    let s7 : List ℕ = to_be_bytes w16 (length d.pvs) ++ s8 in
    let s5 : List ℕ = flag d.quorum ∷ flag d.even ∷ s7 in
    let s4 : List ℕ = to_be_bytes w16 d.mib ++ s5 in
    let s3 : List ℕ = padded d.name ++ s4 in
    let s2 : List ℕ = to_be_bytes w64 d.id ++ s3 in
    let lvs-few : length d.lvs < 2 ^ 16 = omega (arith, head.volumes, few_volumes d.big) in
    let regrouped : descriptor_bytes d ≡ nested d [] = sym (append-nil (descriptor_bytes d)) ∙ regroup d [] in
    let a = version_again d.big 0 s2 in
    let b = number_again w64 _ wide64 (λ n. not (n == 0)) 4 d.id s3 head.id (not_from_false (d.id == 0) (is_not d.id head.some_id)) in
    let c = name_again (λ text. true) 12 d.name s4 head.name refl in
    let f = number_again w16 _ wide16 is_size 28 d.mib s5 (size_below d.mib head.size) head.size in
    let g = byte_again is_flag 30 (flag d.quorum) (flag d.even ∷ s7) (is_flag_flag d.quorum) in
    let h = byte_again is_flag 31 (flag d.even) s7 (is_flag_flag d.even) in
    let i = count_again d.big (flag d.even == 1) 32 (length d.pvs) s8 (λ is. head.even (sym (flag_again d.even) ∙ is)) head.a_member head.members in
    let j = number_again w16 _ wide16 (λ n. nat_le n (most_volumes d.big)) 34 (length d.lvs) s9 lvs-few (le-leb (length d.lvs) (most_volumes d.big) head.volumes) in
    let k = zeros_again 12 36 rest_pvs in
    let l = members_again d.pvs [] 48 rest_lvs valid.members in
    let m = volumes_again d.big d.lvs [] (48 + 8 * length d.pvs) rest_map (bare_volumes d.big d.lvs valid.volumes) in
    let n = maps_again d.pvs [] d.lvs (48 + 8 * length d.pvs + 32 * length d.lvs) [] valid.members.each (copies_of_volumes d.big d.lvs valid.volumes) valid.maps.laid_out
    (All-weaker (IsPartitionOf d) (Has d.pvs) (of_is_has d) (partitions_used d) valid.maps.places) valid.maps.used_once in
    ap descriptor_of regrouped
    ∙ passes_on _ _ _ a
    ∙ passes_on _ _ _ b
    ∙ passes_on _ _ _ c
    ∙ passes_on _ _ _ f
    ∙ passes_on _ _ _ g
    ∙ passes_on _ _ _ h
    ∙ passes_on _ _ _ i
    ∙ passes_on _ _ _ j
    ∙ passes_on _ _ _ k
    ∙ passes_on _ _ _ l
    ∙ passes_on _ _ _ m
    ∙ passes_on _ _ _ n
    ∙ ap (λ x. Ok (record { id = d.id; name = d.name; mib = d.mib; quorum = x; even = flag d.even == 1; big = d.big; pvs = d.pvs; lvs = d.lvs })) (flag_again d.quorum)
    ∙ ap (λ x. Ok (record { id = d.id; name = d.name; mib = d.mib; quorum = d.quorum; even = x; big = d.big; pvs = d.pvs; lvs = d.lvs })) (flag_again d.even)
  where
    is_not : (x : ℕ) → x ≢ 0 → x == 0 ≡ false
    is_not x apart = elim (cases_Bool (x == 0)) [
      | inl same ↦ absurd (apart (eqb-true x 0 same))
      | inr isno ↦ isno
    ]

-- ---- what a call answers

pub is_found : (bytes : List ℕ) (r : Result Descriptor Fault) → IsBytes bytes → Gives (λ x. x) r (descriptor_of bytes) → IfOk r (IsDescriptor bytes)
is_found bytes (Ok d) fits given = read_is_spelled bytes d fits given
is_found bytes (Err e) fits given = tt
