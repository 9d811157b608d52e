-- The rows of members: what is read is spelled so and valid, and what is spelled so is read.
use Rattle.std.proofs.Common.{◌≡◌, ◌≢◌, inl, inr, ℕ, zero, suc, ◌+◌, ◌*◌, ◌<◌, ◌≤◌, Bool, true, false, ◌&&◌, List, [], ◌∷◌, ◌++◌, append-nil, append_assoc, length, get_or, replicate, Result, Ok, refl, sym, ap, subst, ◌∙◌, arith}
use Rattle.std.specs.Prelude.{◌==◌, not, nat_le, nat_lt, flat_map, All, AllPairs}
use Rattle.std.specs.List.{list_all, list_any}
use Rattle.std.specs.Int.{w8, w16, to_be_bytes}
use Rattle.std.proofs.lemmas.Bool.{cases_Bool, false≢true, not_from_false, ne_eqb, eqb-false, lt-ltb, leb-true, le-leb}
use Rattle.std.proofs.lemmas.Bool.Decides.{nat_tests}
use Rattle.std.proofs.lemmas.List.Concat.{flat_map-cons}
use Rattle.std.proofs.lemmas.List.Elements.{All-push}
use Rattle.std.proofs.lemmas.List.Folds.{list_any_at, list_any_none}
use Rattle.lvm_num.specs.declared.descriptor.PvRow.{PvRow}
use Rattle.lvm_num.specs.Descriptor.{IsMember, AreMembers}
use Rattle.lvm_num.specs.DescriptorBytes.{flag, is_flag, member_bytes, member_at, members_at}
use Rattle.lvm_num.specs.Reading.{◌>>=◌, Rest, number_at, zeros_at}
use Rattle.lvm_num.proofs.Pairs.{All-left, All-right, AllPairs-left, AllPairs-append, AllPairs-across}
use Rattle.lvm_vgda.proofs.passed.Fields.{IsBytes, bind_ok, ok_is, both, from_both, Takes, Takes-then, byte_takes, byte_again, wide16, number_takes, number_again, zeros_take, zeros_again}
pub use Rattle.std.proofs.lemmas.Bool.{not-true as not_true}

-- ---- lists that grow at their end

pub none_of : {X : Type 0} (p : X → Bool) (xs : List X) → list_any p xs ≡ false → All (λ x. p x ≡ false) xs
none_of {X} p xs none k d lt = elim (cases_Bool (p (get_or xs k d))) [
  | inl is ↦ absurd (false≢true (sym none ∙ list_any_at p xs k d lt is))
  | inr isnt ↦ isnt
]

single : {X : Type 0} (x : X) (j : ℕ) (d : X) → j < 1 → get_or (x ∷ []) j d ≡ x
single x zero d lt = refl
single x (suc j) d lt = absurd (omega (arith, lt))

pub AllPairs-snoc : {X : Type 0} (R : X → X → Type 0) (xs : List X) (x : X) → AllPairs R xs → All (λ a. R a x) xs → AllPairs R (xs ++ x ∷ [])
AllPairs-snoc {X} R xs x pairs all =
    AllPairs-append R xs (x ∷ []) pairs (λ i j d less lt. absurd (omega (arith, less, lt)))
    (λ i j d i-lt j-lt. subst (λ (y : X). R (get_or xs i d) y) (sym (single x j d j-lt)) (all i d i-lt))

-- each element of the front fits the one behind it
pub AllPairs-last : {X : Type 0} (R : X → X → Type 0) (xs : List X) (x : X) → AllPairs R (xs ++ x ∷ []) → All (λ a. R a x) xs
AllPairs-last R xs x pairs k d lt = AllPairs-across R xs (x ∷ []) pairs k 0 d lt (omega arith)

-- a test that all pass, at each of them
pub all_at : {X : Type 0} (p : X → Bool) (xs : List X) → list_all p xs ≡ true → (k : ℕ) (d : X) → k < length xs → p (get_or xs k d) ≡ true
all_at p [] e k d lt = absurd (omega (arith, lt))
all_at p (x ∷ xs) e zero d lt = (both (p x) (list_all p xs) e).0
all_at p (x ∷ xs) e (suc k) d lt = all_at p xs (both (p x) (list_all p xs) e).1 k d (omega (arith, lt))

-- ---- flags

pub flag_is : (n : ℕ) → is_flag n ≡ true → n ≡ flag (n == 1)
flag_is zero e = refl
flag_is (suc zero) e = refl
flag_is (suc (suc n)) e = grind (arith, nat_tests)

pub flag_again : (b : Bool) → flag b == 1 ≡ b
flag_again true = refl
flag_again false = refl

pub is_flag_flag : (b : Bool) → is_flag (flag b) ≡ true
is_flag_flag true = refl
is_flag_flag false = refl

pub flag_below : (b : Bool) → flag b < 256
flag_below true = omega arith
flag_below false = omega arith

-- ---- a member

pub disk_below : (n : ℕ) → nat_lt n 128 ≡ true → n < 128
disk_below n e = grind (arith, nat_tests)

pub at_least_1 : (n : ℕ) → nat_le 1 n ≡ true → 1 ≤ n
at_least_1 n e = grind (arith, nat_tests)

abbrev pub IsNew : List PvRow → PvRow → Type 0
IsNew earlier row = list_any (λ (other : PvRow). other.disk == row.disk) earlier ≡ false

pub member_takes : (earlier : List PvRow) (r : Rest) (x : PvRow × Rest) → IsBytes r.1 → member_at earlier r ≡ Ok x
    → Takes r (member_bytes x.0) x.1 × IsMember x.0 × IsNew earlier x.0
unfolding member_at
member_takes earlier r x fits e =
    let a = bind_ok (number_at w16 (λ n. nat_lt n 128 && not (list_any (λ (row : PvRow). row.disk == n) earlier)) r) _ x e in
    let b = bind_ok (number_at w16 (λ n. nat_le 1 n && nat_le n 1016) a.0.1) _ x a.2 in
    let c = bind_ok (number_at w8 is_flag b.0.1) _ x b.2 in
    let d = bind_ok (zeros_at 3 c.0.1) _ x c.2 in
    let t0 = number_takes w16 _ wide16 (λ n. nat_lt n 128 && not (list_any (λ (row : PvRow). row.disk == n) earlier)) r a.0 fits a.1 in
    let t1 = number_takes w16 _ wide16 (λ n. nat_le 1 n && nat_le n 1016) a.0.1 b.0 t0.0.fits b.1 in
    let t2 = byte_takes is_flag b.0.1 c.0 t1.0.fits c.1 in
    let t3 = zeros_take 3 c.0.1 d.0 t2.0.fits d.1 in
    let spare = c.0.0 == 1 in
    let is : c.0.0 ≡ flag (c.0.0 == 1) = flag_is c.0.0 t2.1 in
    let t2-flag : Takes b.0.1 (flag (c.0.0 == 1) ∷ []) c.0.1 = subst (λ n. Takes b.0.1 (n ∷ []) c.0.1) is t2.0 in
    let e23 = Takes-then b.0.1 (flag (c.0.0 == 1) ∷ []) c.0.1 (replicate 3 0) d.0 t2-flag t3 in
    let e13 = Takes-then a.0.1 (to_be_bytes w16 b.0.0) b.0.1 (flag (c.0.0 == 1) ∷ replicate 3 0) d.0 t1.0 e23 in
    let e03 = Takes-then r (to_be_bytes w16 a.0.0) a.0.1 (to_be_bytes w16 b.0.0 ++ flag (c.0.0 == 1) ∷ replicate 3 0) d.0 t0.0 e13 in
    let disk = both (nat_lt a.0.0 128) (not (list_any (λ (row : PvRow). row.disk == a.0.0) earlier)) t0.1 in
    let pps = both (nat_le 1 b.0.0) (nat_le b.0.0 1016) t1.1 in
    let made : PvRow × Rest = (record { disk = a.0.0; pps = b.0.0; spare = c.0.0 == 1 }, d.0) in
    subst (λ (y : PvRow × Rest). Takes r (member_bytes y.0) y.1 × IsMember y.0 × IsNew earlier y.0) (ok_is made x d.2) (
      e03,
      record { disk = disk_below a.0.0 disk.0; a_partition = at_least_1 b.0.0 pps.0; partitions = leb-true b.0.0 1016 pps.1 },
      not_true (list_any (λ (row : PvRow). row.disk == a.0.0) earlier) disk.1,
    )

pub member_again : (earlier : List PvRow) (place : ℕ) (row : PvRow) (rest : List ℕ) → IsMember row → IsNew earlier row
    → member_at earlier (place, member_bytes row ++ rest) ≡ Ok (row, (place + 8, rest))
unfolding member_at
member_again earlier place row rest is new =
    let disk = number_again w16 _ wide16 (λ n. nat_lt n 128 && not (list_any (λ (other : PvRow). other.disk == n) earlier)) place row.disk (to_be_bytes w16 row.pps ++ (flag row.spare ∷ (replicate 3 0 ++ rest)))
    (omega (arith, is.disk)) (from_both (nat_lt row.disk 128) (not (list_any (λ (other : PvRow). other.disk == row.disk) earlier)) (lt-ltb row.disk 128 is.disk) (not_from_false _ new)) in
    let pps = number_again w16 _ wide16 (λ n. nat_le 1 n && nat_le n 1016) (place + 2) row.pps (flag row.spare ∷ (replicate 3 0 ++ rest))
    (omega (arith, is.partitions)) (from_both (nat_le 1 row.pps) (nat_le row.pps 1016) (le-leb 1 row.pps is.a_partition) (le-leb row.pps 1016 is.partitions)) in
    let spare = byte_again is_flag (place + 2 + 2) (flag row.spare) (replicate 3 0 ++ rest) (is_flag_flag row.spare) in
    let gap = zeros_again 3 (place + 2 + 2 + 1) rest in
    let same : place + 2 + 2 + 1 + 3 ≡ place + 8 = omega arith in
    ap (λ (read : Result (ℕ × Rest) ℕ). read >>= λ disk. number_at w16 (λ n. nat_le 1 n && nat_le n 1016) disk.1 >>= λ pps. number_at w8 is_flag pps.1 >>= λ spare. zeros_at 3 spare.1 >>= λ after. Ok (record { disk = disk.0; pps = pps.0; spare = spare.0 == 1 }, after)) disk
    ∙ ap (λ (read : Result (ℕ × Rest) ℕ). read >>= λ pps. number_at w8 is_flag pps.1 >>= λ spare. zeros_at 3 spare.1 >>= λ after. Ok (record { disk = row.disk; pps = pps.0; spare = spare.0 == 1 }, after)) pps
    ∙ ap (λ (read : Result (ℕ × Rest) ℕ). read >>= λ spare. zeros_at 3 spare.1 >>= λ after. Ok (record { disk = row.disk; pps = row.pps; spare = spare.0 == 1 }, after)) spare
    ∙ ap (λ (read : Result Rest ℕ). read >>= λ after. Ok (record { disk = row.disk; pps = row.pps; spare = flag row.spare == 1 }, after)) gap
    ∙ ap (λ b. Ok (record { disk = row.disk; pps = row.pps; spare = b }, (place + 2 + 2 + 1 + 3, rest))) (flag_again row.spare)
    ∙ ap (λ n. Ok (row, (n, rest))) same

-- ---- all members

pub record MembersTaken (n : ℕ) (earlier : List PvRow) (r : Rest) (x : List PvRow × Rest) : Type 0 where
  pub own : List PvRow
  pub rows : x.0 ≡ earlier ++ own
  pub size : length own ≡ n
  pub took : Takes r (flat_map member_bytes own) x.1
  pub valid : AreMembers x.0

pub members-more : (earlier : List PvRow) (row : PvRow) → AreMembers earlier → IsMember row → IsNew earlier row → AreMembers (earlier ++ row ∷ [])
members-more earlier row all is new = record {
  each = All-push IsMember earlier row all.each is;
  disks_differ = AllPairs-snoc (λ (a b : PvRow). a.disk ≢ b.disk) earlier row all.disks_differ
      (λ k d lt. eqb-false (get_or earlier k d).disk row.disk (none_of (λ (other : PvRow). other.disk == row.disk) earlier new k d lt));
}

pub members_take : (n : ℕ) (earlier : List PvRow) (r : Rest) (x : List PvRow × Rest) → IsBytes r.1 → AreMembers earlier → members_at n earlier r ≡ Ok x → MembersTaken n earlier r x
unfolding members_at
members_take zero earlier r x fits all e =
    let is : (earlier, r) ≡ x = ok_is (earlier, r) x e in
    subst (λ (y : List PvRow × Rest). MembersTaken 0 earlier r y) is
    (record { own = []; rows = sym (append-nil earlier); size = refl; took = record { parts = refl; fits = fits }; valid = all })
members_take (suc n) earlier r x fits all e =
    let a = bind_ok (member_at earlier r) (λ row. members_at n (earlier ++ row.0 ∷ []) row.1) x e in
    let first = member_takes earlier r a.0 fits a.1 in
    let others = members_take n (earlier ++ a.0.0 ∷ []) a.0.1 x first.0.fits (members-more earlier a.0.0 all first.1 first.2) a.2 in
    record {
      own = a.0.0 ∷ others.own;
      rows = others.rows ∙ append_assoc earlier (a.0.0 ∷ []) others.own;
      size = ap suc others.size;
      took = subst (λ (bytes : List ℕ). Takes r bytes x.1) (sym (flat_map-cons member_bytes a.0.0 others.own)) (Takes-then r (member_bytes a.0.0) a.0.1 (flat_map member_bytes others.own) x.1 first.0 others.took);
      valid = others.valid;
    }

-- the first of further members is one, and new
front_left : (earlier : List PvRow) (row : PvRow) (own : List PvRow) → AreMembers (earlier ++ row ∷ own) → AreMembers (earlier ++ row ∷ [])
front_left earlier row own all =
    let parts : (earlier ++ row ∷ []) ++ own ≡ earlier ++ row ∷ own = append_assoc earlier (row ∷ []) own in
    let whole : AreMembers ((earlier ++ row ∷ []) ++ own) = subst AreMembers (sym parts) all in
    record {
      each = All-left IsMember (earlier ++ row ∷ []) own whole.each;
      disks_differ = AllPairs-left (λ (a b : PvRow). a.disk ≢ b.disk) (earlier ++ row ∷ []) own whole.disks_differ;
    }

pub members_again : (own earlier : List PvRow) (place : ℕ) (rest : List ℕ) → AreMembers (earlier ++ own)
    → members_at (length own) earlier (place, flat_map member_bytes own ++ rest) ≡ Ok (earlier ++ own, (place + 8 * length own, rest))
unfolding members_at
members_again [] earlier place rest all =
    let none : place ≡ place + 8 * 0 = omega arith in
    ap (λ (rows : List PvRow). Ok (rows, (place, rest))) (sym (append-nil earlier)) ∙ ap (λ n. Ok (earlier ++ [], (n, rest))) none
members_again (row ∷ own) earlier place rest all =
    let front = front_left earlier row own all in
    let is : IsMember row = (All-right IsMember earlier (row ∷ []) front.each) 0 row (omega arith) in
    let new : IsNew earlier row = list_any_none (λ (other : PvRow). other.disk == row.disk) earlier
    (λ k d lt. ne_eqb (get_or earlier k d).disk row.disk (AllPairs-last (λ (a b : PvRow). a.disk ≢ b.disk) earlier row front.disks_differ k d lt)) in
    let regrouped : flat_map member_bytes (row ∷ own) ++ rest ≡ member_bytes row ++ (flat_map member_bytes own ++ rest) =
    ap (λ (bytes : List ℕ). bytes ++ rest) (flat_map-cons member_bytes row own) ∙ append_assoc (member_bytes row) (flat_map member_bytes own) rest in
    let parts : (earlier ++ row ∷ []) ++ own ≡ earlier ++ row ∷ own = append_assoc earlier (row ∷ []) own in
    let others = members_again own (earlier ++ row ∷ []) (place + 8) rest (subst AreMembers (sym parts) all) in
    let end : place + 8 + 8 * length own ≡ place + 8 * suc (length own) = omega arith in
    ap (λ (bytes : List ℕ). members_at (suc (length own)) earlier (place, bytes)) regrouped
    ∙ ap (λ (read : Result (PvRow × Rest) ℕ). read >>= λ first. members_at (length own) (earlier ++ first.0 ∷ []) first.1) (member_again earlier place row (flat_map member_bytes own ++ rest) is new)
    ∙ others
    ∙ ap (λ (rows : List PvRow). Ok (rows, (place + 8 + 8 * length own, rest))) parts
    ∙ ap (λ n. Ok (earlier ++ row ∷ own, (n, rest))) end
