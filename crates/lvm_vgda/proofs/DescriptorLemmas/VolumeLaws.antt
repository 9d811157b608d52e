-- The rows of volumes, but for their maps: what is read is spelled so and valid, and what is spelled so is read.
use Rattle.std.proofs.Common.{◌≡◌, ◌≢◌, inl, inr, ℕ, zero, suc, ◌+◌, ◌*◌, ◌^◌, ◌<◌, ◌≤◌, Bool, true, false, ◌&&◌, List, [], ◌∷◌, ◌++◌, append-nil, append_assoc, length, get_or, replicate, Result, Ok, refl, sym, ap, subst, ◌∙◌, arith}
use Rattle.std.specs.Prelude.{not, nat_le, nat_lt, bytes_eq, flat_map, map, All}
use Rattle.std.specs.List.{list_any, list_all}
use Rattle.std.specs.Int.{w8, w16, w32, to_be_bytes}
use Rattle.std.proofs.lemmas.Bool.{cases_Bool, false≢true, not_from_false, ltb-true, lt-ltb, leb-true, le-leb}
use Rattle.std.proofs.lemmas.List.Concat.{flat_map-cons}
use Rattle.std.proofs.lemmas.List.Elements.{All-nil, All-cons, All-tail, All-push}
use Rattle.std.proofs.lemmas.List.Folds.{list_any_none}
use Rattle.lvm_num.specs.declared.descriptor.LvRow.{LvRow}
use Rattle.lvm_num.specs.declared.descriptor.Mode.{Mode}
use Rattle.lvm_num.specs.declared.descriptor.Mode.TheVariants.{Active, Passive, Off}
use Rattle.lvm_num.specs.declared.descriptor.Policy.{Policy}
use Rattle.lvm_num.specs.declared.descriptor.Policy.TheVariants.{Parallel}
use Rattle.lvm_num.specs.Name.{padded}
use Rattle.lvm_num.specs.Descriptor.{most_volumes, IsVolume, AreVolumes}
use Rattle.lvm_num.specs.DescriptorBytes.{mode_code, policy_code, mode_named, policy_named, volume_bytes, name_at, volume_at, volumes_at}
use Rattle.lvm_num.specs.Reading.{◌>>=◌, Rest, number_at, zeros_at}
use Rattle.lvm_num.proofs.Pairs.{All-left, All-right, AllPairs-left}
use Rattle.lvm_num.proofs.Lists.{all_passed}
use Rattle.lvm_vgda.proofs.passed.Fields.{IsBytes, bind_ok, ok_is, both, from_both, Takes, Takes-then, wide16, wide32, number_takes, number_again, byte_takes, byte_again, zeros_take, zeros_again}
use Rattle.lvm_vgda.proofs.DescriptorBytesLemmas.NameLaws.{bytes_same, same_bytes, name_takes, name_again}
use Rattle.lvm_vgda.proofs.DescriptorBytesLemmas.MemberLaws.{none_of, all_at, AllPairs-snoc, AllPairs-last, not_true, at_least_1}
use Rattle.lvm_vgda.proofs.DescriptorBytesLemmas.MapLoops.{passes_on}

-- ---- codes

mode_is : (n : ℕ) → nat_le n 2 ≡ true → n ≡ mode_code (mode_named n)
mode_is zero e = refl
mode_is (suc zero) e = refl
mode_is (suc (suc zero)) e = refl
mode_is (suc (suc (suc n))) e = absurd (omega (arith, leb-true (suc (suc (suc n))) 2 e))

mode_again : (mode : Mode) → mode_named (mode_code mode) ≡ mode
mode_again Off = refl
mode_again Active = refl
mode_again Passive = refl

mode_small : (mode : Mode) → nat_le (mode_code mode) 2 ≡ true
mode_small Off = refl
mode_small Active = refl
mode_small Passive = refl

policy_is : (n : ℕ) → nat_le n 3 ≡ true → n ≡ policy_code (policy_named n)
policy_is zero e = refl
policy_is (suc zero) e = refl
policy_is (suc (suc zero)) e = refl
policy_is (suc (suc (suc zero))) e = refl
policy_is (suc (suc (suc (suc n)))) e = absurd (omega (arith, leb-true (suc (suc (suc (suc n)))) 3 e))

policy_again : (policy : Policy) → policy_named (policy_code policy) ≡ policy
policy_again Parallel = refl
policy_again _ = refl

policy_small : (policy : Policy) → nat_le (policy_code policy) 3 ≡ true
policy_small Parallel = refl
policy_small _ = refl

-- ---- a volume

-- the row without its map
abbrev pub bare : LvRow → LvRow
bare row = record row { map = [] }

-- its number is above those before it, and its name is its own
pub record IsNext (earlier : List LvRow) (row : LvRow) : Type 0 where
  pub above : list_all (λ (other : LvRow). nat_lt other.number row.number) earlier ≡ true
  pub unnamed : list_any (λ (other : LvRow). bytes_eq other.name row.name) earlier ≡ false

pub record VolumeTaken (big : Bool) (earlier : List LvRow) (r : Rest) (x : LvRow × Rest) : Type 0 where
  pub took : Takes r (volume_bytes x.0) x.1
  pub is : IsVolume big x.0
  pub next : IsNext earlier x.0
  pub empty : x.0 ≡ bare x.0

pub volume_takes : (big : Bool) (earlier : List LvRow) (r : Rest) (x : LvRow × Rest) → IsBytes r.1 → volume_at big earlier r ≡ Ok x → VolumeTaken big earlier r x
unfolding volume_at
volume_takes big earlier r x fits e =
    let test : List ℕ → Bool = λ bytes. not (list_any (λ (row : LvRow). bytes_eq row.name bytes) earlier) in
    let a = bind_ok (number_at w16 (λ n. nat_le 1 n && nat_le n (most_volumes big) && list_all (λ (row : LvRow). nat_lt row.number n) earlier) r) _ x e in
    let b = bind_ok (number_at w8 (λ n. nat_le 1 n && nat_le n 3) a.0.1) _ x a.2 in
    let c = bind_ok (number_at w8 (λ n. nat_le n 2) b.0.1) _ x b.2 in
    let d = bind_ok (number_at w8 (λ n. nat_le n 3) c.0.1) _ x c.2 in
    let f = bind_ok (zeros_at 3 d.0.1) _ x d.2 in
    let g = bind_ok (number_at w32 (λ n. nat_le 1 n) f.0) _ x f.2 in
    let h = bind_ok (name_at (λ bytes. not (list_any (λ (row : LvRow). bytes_eq row.name bytes) earlier)) g.0.1) _ x g.2 in
    let i = bind_ok (zeros_at 4 h.0.1) _ x h.2 in
    let ta = number_takes w16 _ wide16 (λ n. nat_le 1 n && nat_le n (most_volumes big) && list_all (λ (row : LvRow). nat_lt row.number n) earlier) r a.0 fits a.1 in
    let tb = byte_takes (λ n. nat_le 1 n && nat_le n 3) a.0.1 b.0 ta.0.fits b.1 in
    let tc = byte_takes (λ n. nat_le n 2) b.0.1 c.0 tb.0.fits c.1 in
    let td = byte_takes (λ n. nat_le n 3) c.0.1 d.0 tc.0.fits d.1 in
    let tf = zeros_take 3 d.0.1 f.0 td.0.fits f.1 in
    let tg = number_takes w32 (2 ^ 32) wide32 (λ n. nat_le 1 n) f.0 g.0 tf.fits g.1 in
    let th = name_takes (λ bytes. not (list_any (λ (row : LvRow). bytes_eq row.name bytes) earlier)) g.0.1 h.0 tg.0.fits h.1 in
    let ti = zeros_take 4 h.0.1 i.0 th.0.fits i.1 in
    let mode = mode_code (mode_named c.0.0) in
    let policy = policy_code (policy_named d.0.0) in
    let tc-mode : Takes b.0.1 (mode_code (mode_named c.0.0) ∷ []) c.0.1 = subst (λ n. Takes b.0.1 (n ∷ []) c.0.1) (mode_is c.0.0 tc.1) tc.0 in
    let td-policy : Takes c.0.1 (policy_code (policy_named d.0.0) ∷ []) d.0.1 = subst (λ n. Takes c.0.1 (n ∷ []) d.0.1) (policy_is d.0.0 td.1) td.0 in
    let hi = Takes-then g.0.1 (padded h.0.0) h.0.1 (replicate 4 0) i.0 th.0 ti in
    let gi = Takes-then f.0 (to_be_bytes w32 g.0.0) g.0.1 (padded h.0.0 ++ replicate 4 0) i.0 tg.0 hi in
    let fi = Takes-then d.0.1 (replicate 3 0) f.0 (to_be_bytes w32 g.0.0 ++ padded h.0.0 ++ replicate 4 0) i.0 tf gi in
    let di = Takes-then c.0.1 (policy_code (policy_named d.0.0) ∷ []) d.0.1 (replicate 3 0 ++ to_be_bytes w32 g.0.0 ++ padded h.0.0 ++ replicate 4 0) i.0 td-policy fi in
    let ci = Takes-then b.0.1 (mode_code (mode_named c.0.0) ∷ []) c.0.1 (policy_code (policy_named d.0.0) ∷ replicate 3 0 ++ to_be_bytes w32 g.0.0 ++ padded h.0.0 ++ replicate 4 0) i.0 tc-mode di in
    let bi = Takes-then a.0.1 (b.0.0 ∷ []) b.0.1 (mode_code (mode_named c.0.0) ∷ policy_code (policy_named d.0.0) ∷ replicate 3 0 ++ to_be_bytes w32 g.0.0 ++ padded h.0.0 ++ replicate 4 0) i.0 tb.0 ci in
    let ai = Takes-then r (to_be_bytes w16 a.0.0) a.0.1 (b.0.0 ∷ mode_code (mode_named c.0.0) ∷ policy_code (policy_named d.0.0) ∷ replicate 3 0 ++ to_be_bytes w32 g.0.0 ++ padded h.0.0 ++ replicate 4 0) i.0 ta.0 bi in
    let numbers = both (nat_le 1 a.0.0 && nat_le a.0.0 (most_volumes big)) (list_all (λ (row : LvRow). nat_lt row.number a.0.0) earlier) ta.1 in
    let number = both (nat_le 1 a.0.0) (nat_le a.0.0 (most_volumes big)) numbers.0 in
    let copies = both (nat_le 1 b.0.0) (nat_le b.0.0 3) tb.1 in
    let made : LvRow × Rest = (record { number = a.0.0; name = h.0.0; copies = b.0.0; mode = mode_named c.0.0; policy = policy_named d.0.0; lps = g.0.0; map = [] }, i.0) in
    subst (λ (y : LvRow × Rest). VolumeTaken big earlier r y) (ok_is made x i.2) (record {
      took = ai;
      is = record {
        a_number = at_least_1 a.0.0 number.0;
        number = leb-true a.0.0 (most_volumes big) number.1;
        a_copy = at_least_1 b.0.0 copies.0;
        copies = leb-true b.0.0 3 copies.1;
        a_partition = at_least_1 g.0.0 tg.1;
        partitions = tg.2;
        name = th.1;
      };
      next = record { above = numbers.1; unnamed = not_true (list_any (λ (row : LvRow). bytes_eq row.name h.0.0) earlier) th.2 };
      empty = refl;
    })

pub volume_again : (big : Bool) (earlier : List LvRow) (place : ℕ) (row : LvRow) (rest : List ℕ) → IsVolume big row → IsNext earlier row
    → volume_at big earlier (place, volume_bytes row ++ rest) ≡ Ok (bare row, (place + 32, rest))
unfolding volume_at
volume_again big earlier place row rest is next =
    let last : List ℕ = replicate 4 0 ++ rest in
    let regrouped : volume_bytes row ++ rest
    ≡ to_be_bytes w16 row.number ++ (row.copies ∷ mode_code row.mode ∷ policy_code row.policy ∷ (replicate 3 0 ++ (to_be_bytes w32 row.lps ++ (padded row.name ++ (replicate 4 0 ++ rest))))) =
    ap (λ (l : List ℕ). to_be_bytes w16 row.number ++ (row.copies ∷ mode_code row.mode ∷ policy_code row.policy ∷ (replicate 3 0 ++ (to_be_bytes w32 row.lps ++ l)))) (append_assoc (padded row.name) (replicate 4 0) rest) in
    let s5 : List ℕ = padded row.name ++ (replicate 4 0 ++ rest) in
    let s4 : List ℕ = to_be_bytes w32 row.lps ++ (padded row.name ++ (replicate 4 0 ++ rest)) in
    let s3 : List ℕ = replicate 3 0 ++ (to_be_bytes w32 row.lps ++ (padded row.name ++ (replicate 4 0 ++ rest))) in
    let most : most_volumes big ≤ 511 = most_small big in
    let a = number_again w16 _ wide16 (λ n. nat_le 1 n && nat_le n (most_volumes big) && list_all (λ (other : LvRow). nat_lt other.number n) earlier) place row.number (row.copies ∷ mode_code row.mode ∷ policy_code row.policy ∷ s3)
    (omega (arith, is.number, most))
    (from_both (nat_le 1 row.number && nat_le row.number (most_volumes big)) (list_all (λ (other : LvRow). nat_lt other.number row.number) earlier)
    (from_both (nat_le 1 row.number) (nat_le row.number (most_volumes big)) (le-leb 1 row.number is.a_number) (le-leb row.number (most_volumes big) is.number)) next.above) in
    let b = byte_again (λ n. nat_le 1 n && nat_le n 3) (place + 2) row.copies (mode_code row.mode ∷ policy_code row.policy ∷ s3)
    (from_both (nat_le 1 row.copies) (nat_le row.copies 3) (le-leb 1 row.copies is.a_copy) (le-leb row.copies 3 is.copies)) in
    let c = byte_again (λ n. nat_le n 2) (place + 2 + 1) (mode_code row.mode) (policy_code row.policy ∷ s3) (mode_small row.mode) in
    let d = byte_again (λ n. nat_le n 3) (place + 2 + 1 + 1) (policy_code row.policy) s3 (policy_small row.policy) in
    let f = zeros_again 3 (place + 2 + 1 + 1 + 1) s4 in
    let g = number_again w32 _ wide32 (λ n. nat_le 1 n) (place + 2 + 1 + 1 + 1 + 3) row.lps s5 (omega (arith, is.partitions)) (le-leb 1 row.lps is.a_partition) in
    let h = name_again (λ bytes. not (list_any (λ (other : LvRow). bytes_eq other.name bytes) earlier)) (place + 2 + 1 + 1 + 1 + 3 + 4) row.name last is.name (not_from_false _ next.unnamed) in
    let i = zeros_again 4 (place + 2 + 1 + 1 + 1 + 3 + 4 + 16) rest in
    let same : place + 2 + 1 + 1 + 1 + 3 + 4 + 16 + 4 ≡ place + 32 = omega arith in
    ap (λ (bytes : List ℕ). volume_at big earlier (place, bytes)) regrouped
    ∙ passes_on _ _ _ a
    ∙ passes_on _ _ _ b
    ∙ passes_on _ _ _ c
    ∙ passes_on _ _ _ d
    ∙ passes_on _ _ _ f
    ∙ passes_on _ _ _ g
    ∙ passes_on _ _ _ h
    ∙ passes_on _ _ _ i
    ∙ ap (λ (m : Mode). Ok (record { number = row.number; name = row.name; copies = row.copies; mode = m; policy = policy_named (policy_code row.policy); lps = row.lps; map = [] }, (place + 2 + 1 + 1 + 1 + 3 + 4 + 16 + 4, rest))) (mode_again row.mode)
    ∙ ap (λ (p : Policy). Ok (record { number = row.number; name = row.name; copies = row.copies; mode = row.mode; policy = p; lps = row.lps; map = [] }, (place + 2 + 1 + 1 + 1 + 3 + 4 + 16 + 4, rest))) (policy_again row.policy)
    ∙ ap (λ n. Ok (bare row, (n, rest))) same
  where
    most_small : (b : Bool) → most_volumes b ≤ 511
    most_small true = omega arith
    most_small false = omega arith

-- ---- all volumes

pub record VolumesTaken (big : Bool) (n : ℕ) (earlier : List LvRow) (r : Rest) (x : List LvRow × Rest) : Type 0 where
  pub own : List LvRow
  pub rows : x.0 ≡ earlier ++ own
  pub size : length own ≡ n
  pub took : Takes r (flat_map volume_bytes own) x.1
  pub valid : AreVolumes big x.0
  pub empty : All (λ row. row ≡ bare row) own

pub volumes-more : (big : Bool) (earlier : List LvRow) (row : LvRow) → AreVolumes big earlier → IsVolume big row → IsNext earlier row → AreVolumes big (earlier ++ row ∷ [])
volumes-more big earlier row all is next = record {
  each = All-push (IsVolume big) earlier row all.each is;
  numbers_rise = AllPairs-snoc (λ (a b : LvRow). a.number < b.number) earlier row all.numbers_rise
      (λ k d lt. ltb-true (get_or earlier k d).number row.number (all_at (λ (other : LvRow). nat_lt other.number row.number) earlier next.above k d lt));
  names_differ = AllPairs-snoc (λ (a b : LvRow). a.name ≢ b.name) earlier row all.names_differ
      (λ k d lt same. false≢true (sym (none_of (λ (other : LvRow). bytes_eq other.name row.name) earlier next.unnamed k d lt) ∙ same_bytes (get_or earlier k d).name row.name same));
}

pub volumes_take : (big : Bool) (n : ℕ) (earlier : List LvRow) (r : Rest) (x : List LvRow × Rest) → IsBytes r.1 → AreVolumes big earlier → volumes_at big n earlier r ≡ Ok x → VolumesTaken big n earlier r x
unfolding volumes_at
volumes_take big zero earlier r x fits all e =
    let is : (earlier, r) ≡ x = ok_is (earlier, r) x e in
    subst (λ (y : List LvRow × Rest). VolumesTaken big 0 earlier r y) is
    (record { own = []; rows = sym (append-nil earlier); size = refl; took = record { parts = refl; fits = fits }; valid = all; empty = All-nil (λ (row : LvRow). row ≡ bare row) })
volumes_take big (suc n) earlier r x fits all e =
    let a = bind_ok (volume_at big earlier r) (λ row. volumes_at big n (earlier ++ row.0 ∷ []) row.1) x e in
    let first = volume_takes big earlier r a.0 fits a.1 in
    let others = volumes_take big n (earlier ++ a.0.0 ∷ []) a.0.1 x first.took.fits (volumes-more big earlier a.0.0 all first.is first.next) a.2 in
    record {
      own = a.0.0 ∷ others.own;
      rows = others.rows ∙ append_assoc earlier (a.0.0 ∷ []) others.own;
      size = ap suc others.size;
      took = subst (λ (bytes : List ℕ). Takes r bytes x.1) (sym (flat_map-cons volume_bytes a.0.0 others.own)) (Takes-then r (volume_bytes a.0.0) a.0.1 (flat_map volume_bytes others.own) x.1 first.took others.took);
      valid = others.valid;
      empty = All-cons (λ (row : LvRow). row ≡ bare row) a.0.0 others.own first.empty others.empty;
    }

front_left : (big : Bool) (earlier : List LvRow) (row : LvRow) (own : List LvRow) → AreVolumes big (earlier ++ row ∷ own) → AreVolumes big (earlier ++ row ∷ [])
front_left big earlier row own all =
    let parts : (earlier ++ row ∷ []) ++ own ≡ earlier ++ row ∷ own = append_assoc earlier (row ∷ []) own in
    let whole : AreVolumes big ((earlier ++ row ∷ []) ++ own) = subst (AreVolumes big) (sym parts) all in
    record {
      each = All-left (IsVolume big) (earlier ++ row ∷ []) own whole.each;
      numbers_rise = AllPairs-left (λ (a b : LvRow). a.number < b.number) (earlier ++ row ∷ []) own whole.numbers_rise;
      names_differ = AllPairs-left (λ (a b : LvRow). a.name ≢ b.name) (earlier ++ row ∷ []) own whole.names_differ;
    }

last_is_next : (big : Bool) (earlier : List LvRow) (row : LvRow) → AreVolumes big (earlier ++ row ∷ []) → IsNext earlier row
last_is_next big earlier row all = record {
  above = all_passed (λ (other : LvRow). nat_lt other.number row.number) earlier
      (λ k d lt. lt-ltb (get_or earlier k d).number row.number (AllPairs-last (λ (a b : LvRow). a.number < b.number) earlier row all.numbers_rise k d lt));
  unnamed = list_any_none (λ (other : LvRow). bytes_eq other.name row.name) earlier
      (λ k d lt. apart (get_or earlier k d).name row.name (AllPairs-last (λ (a b : LvRow). a.name ≢ b.name) earlier row all.names_differ k d lt));
}
  where
    apart : (xs ys : List ℕ) → xs ≢ ys → bytes_eq xs ys ≡ false
    apart xs ys differ = elim (cases_Bool (bytes_eq xs ys)) [
      | inl same ↦ absurd (differ (bytes_same xs ys same))
      | inr isnt ↦ isnt
    ]

pub volumes_again : (big : Bool) (lvs earlier : List LvRow) (place : ℕ) (rest : List ℕ) → AreVolumes big (earlier ++ map bare lvs)
    → volumes_at big (length lvs) earlier (place, flat_map volume_bytes lvs ++ rest) ≡ Ok (earlier ++ map bare lvs, (place + 32 * length lvs, rest))
unfolding volumes_at
volumes_again big [] earlier place rest all =
    let none : place ≡ place + 32 * 0 = omega arith in
    ap (λ (rows : List LvRow). Ok (rows, (place, rest))) (sym (append-nil earlier)) ∙ ap (λ n. Ok (earlier ++ [], (n, rest))) none
volumes_again big (row ∷ lvs) earlier place rest all =
    let front = front_left big earlier (bare row) (map bare lvs) all in
    let is : IsVolume big (bare row) = (All-right (IsVolume big) earlier (bare row ∷ []) front.each) 0 (bare row) (omega arith) in
    let next = last_is_next big earlier (bare row) front in
    let regrouped : flat_map volume_bytes (row ∷ lvs) ++ rest ≡ volume_bytes row ++ (flat_map volume_bytes lvs ++ rest) =
    ap (λ (bytes : List ℕ). bytes ++ rest) (flat_map-cons volume_bytes row lvs) ∙ append_assoc (volume_bytes row) (flat_map volume_bytes lvs) rest in
    let parts : (earlier ++ bare row ∷ []) ++ map bare lvs ≡ earlier ++ bare row ∷ map bare lvs = append_assoc earlier (bare row ∷ []) (map bare lvs) in
    let others = volumes_again big lvs (earlier ++ bare row ∷ []) (place + 32) rest (subst (AreVolumes big) (sym parts) all) in
    let end : place + 32 + 32 * length lvs ≡ place + 32 * suc (length lvs) = omega arith in
    ap (λ (bytes : List ℕ). volumes_at big (suc (length lvs)) earlier (place, bytes)) regrouped
    ∙ ap (λ (read : Result (LvRow × Rest) ℕ). read >>= λ first. volumes_at big (length lvs) (earlier ++ first.0 ∷ []) first.1) (volume_again big earlier place (bare row) (flat_map volume_bytes lvs ++ rest) is next)
    ∙ others
    ∙ ap (λ (rows : List LvRow). Ok (rows, (place + 32 + 32 * length lvs, rest))) parts
    ∙ ap (λ n. Ok (earlier ++ bare row ∷ map bare lvs, (n, rest))) end

-- ---- volumes without their maps

map_at : {X Y : Type 0} (f : X → Y) (xs : List X) (k : ℕ) (d : Y) (e : X) → k < length xs → get_or (map f xs) k d ≡ f (get_or xs k e)
map_at f [] k d e lt = absurd (omega (arith, lt))
map_at f (x ∷ xs) zero d e lt = refl
map_at f (x ∷ xs) (suc k) d e lt = map_at f xs k d e (omega (arith, lt))

map_length : {X Y : Type 0} (f : X → Y) (xs : List X) → length (map f xs) ≡ length xs
map_length f [] = refl
map_length f (x ∷ xs) = ap suc (map_length f xs)

pub bare_length : (lvs : List LvRow) → length (map bare lvs) ≡ length lvs
bare_length lvs = map_length bare lvs

pub bare_bytes : (lvs : List LvRow) → flat_map volume_bytes (map bare lvs) ≡ flat_map volume_bytes lvs
bare_bytes [] = refl
bare_bytes (row ∷ lvs) =
    flat_map-cons volume_bytes (bare row) (map bare lvs) ∙ ap (λ (l : List ℕ). volume_bytes row ++ l) (bare_bytes lvs) ∙ sym (flat_map-cons volume_bytes row lvs)

pub bare_volumes : (big : Bool) (lvs : List LvRow) → AreVolumes big lvs → AreVolumes big (map bare lvs)
bare_volumes big lvs all =
    let same : (k : ℕ) (d : LvRow) → k < length (map bare lvs) → get_or (map bare lvs) k d ≡ bare (get_or lvs k d) = λ k d lt. map_at bare lvs k d d (omega (arith, lt, map_length bare lvs)) in
    record {
      each = λ k d lt.
          let is = all.each k d (omega (arith, lt, map_length bare lvs)) in
          subst (IsVolume big) (sym (same k d lt)) (record { a_number = is.a_number; number = is.number; a_copy = is.a_copy; copies = is.copies; a_partition = is.a_partition; partitions = is.partitions; name = is.name });
      numbers_rise = λ i j d less lt.
          subst (λ (a : LvRow). a.number < (get_or (map bare lvs) j d).number) (sym (same i d (omega (arith, less, lt))))
          (subst (λ (b : LvRow). (get_or lvs i d).number < b.number) (sym (same j d lt)) (all.numbers_rise i j d less (omega (arith, lt, map_length bare lvs))));
      names_differ = λ i j d less lt.
          subst (λ (a : LvRow). a.name ≢ (get_or (map bare lvs) j d).name) (sym (same i d (omega (arith, less, lt))))
          (subst (λ (b : LvRow). (get_or lvs i d).name ≢ b.name) (sym (same j d lt)) (all.names_differ i j d less (omega (arith, lt, map_length bare lvs))));
    }

pub whole_volumes : (big : Bool) (lvs : List LvRow) → AreVolumes big (map bare lvs) → AreVolumes big lvs
whole_volumes big lvs all =
    let same : (k : ℕ) (d : LvRow) → k < length lvs → get_or (map bare lvs) k d ≡ bare (get_or lvs k d) = λ k d lt. map_at bare lvs k d d lt in
    record {
      each = λ k d lt.
          let is = subst (IsVolume big) (same k d lt) (all.each k d (omega (arith, lt, map_length bare lvs))) in
          record { a_number = is.a_number; number = is.number; a_copy = is.a_copy; copies = is.copies; a_partition = is.a_partition; partitions = is.partitions; name = is.name };
      numbers_rise = λ i j d less lt.
          subst (λ (a : LvRow). a.number < (get_or lvs j d).number) (same i d (omega (arith, less, lt)))
          (subst (λ (b : LvRow). (get_or (map bare lvs) i d).number < b.number) (same j d lt) (all.numbers_rise i j d less (omega (arith, lt, map_length bare lvs))));
      names_differ = λ i j d less lt.
          subst (λ (a : LvRow). a.name ≢ (get_or lvs j d).name) (same i d (omega (arith, less, lt)))
          (subst (λ (b : LvRow). (get_or (map bare lvs) i d).name ≢ b.name) (same j d lt) (all.names_differ i j d less (omega (arith, lt, map_length bare lvs))));
    }

pub bare_is : (lvs : List LvRow) → All (λ row. row ≡ bare row) lvs → map bare lvs ≡ lvs
bare_is [] all = refl
bare_is (row ∷ lvs) all =
    ap (λ (r : LvRow). r ∷ map bare lvs) (sym (all 0 row (omega arith))) ∙ ap (λ (l : List LvRow). row ∷ l) (bare_is lvs (All-tail (λ (r : LvRow). r ≡ bare r) row lvs all))
