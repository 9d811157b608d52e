-- What is read part by part is what is read field by field.
use Rattle.std.proofs.Common.{◌≡◌, ℕ, Bool, true, ◌&&◌, List, [], Result, Ok, Err, refl, ◌∙◌}
use Rattle.std.specs.Prelude.{◌==◌, not, nat_le, nat_lt, bytes_eq}
use Rattle.std.specs.List.{list_any, list_all}
use Rattle.std.specs.Int.{w8, w16, w32, w64}
use Rattle.lvm_num.specs.declared.descriptor.LvRow.{LvRow}
use Rattle.lvm_num.specs.declared.descriptor.Mode.{Mode}
use Rattle.lvm_num.specs.declared.descriptor.Policy.{Policy}
use Rattle.lvm_num.specs.Descriptor.{is_size, most_volumes}
use Rattle.lvm_num.specs.DescriptorBytes.{is_flag, mode_named, policy_named, name_at, version_at, member_count_at, members_at, volume_at, volumes_at, maps_at, descriptor_of}
use Rattle.lvm_num.specs.Reading.{◌>>=◌, Rest, number_at, zeros_at}
use Rattle.lvm_vgda.specs.Parts.{begin_at, rules_at, counts_at, rows_at, descriptor_by_parts, number_and_copies_at, mode_and_policy_at, volume_by_parts}

-- two steps in one part
two_in_one : {A B C D : Type 0} (m : Result A ℕ) (f : A → Result B ℕ) (h : A → B → C) (g : C → Result D ℕ)
    → ((m >>= λ a. f a >>= λ b. Ok (h a b)) >>= g) ≡ (m >>= λ a. f a >>= λ b. g (h a b))
two_in_one (Err e) f h g = refl
two_in_one (Ok a) f h g = second (f a)
  where
    second : (n : _) → ((n >>= λ b. Ok (h a b)) >>= g) ≡ (n >>= λ b. g (h a b))
    second (Err e) = refl
    second (Ok b) = refl

-- three steps in one part
three_in_one : {A B C D E : Type 0} (m : Result A ℕ) (f : A → Result B ℕ) (k : A → B → Result C ℕ) (h : A → B → C → D) (g : D → Result E ℕ)
    → ((m >>= λ a. f a >>= λ b. k a b >>= λ c. Ok (h a b c)) >>= g) ≡ (m >>= λ a. f a >>= λ b. k a b >>= λ c. g (h a b c))
three_in_one (Err e) f k h g = refl
three_in_one (Ok a) f k h g = two_in_one (f a) (k a) (h a) g

-- the same step, and then what is the same
same_then : {A B : Type 0} (m : Result A ℕ) (f g : A → Result B ℕ) → ((a : A) → f a ≡ g a) → (m >>= f) ≡ (m >>= g)
same_then (Err e) f g same = refl
same_then (Ok a) f g same = same a

-- two steps in one part, and then three
abbrev Reads : Type 0 → Type 0
Reads X = Rest → Result (X × Rest) ℕ

abbrev numbers : ℕ → ℕ → Rest → Result ((ℕ × ℕ) × Rest) ℕ
numbers n c rest = Ok ((n, c), rest)

abbrev ways : ℕ → ℕ → Rest → Result ((Mode × Policy) × Rest) ℕ
ways m p rest = Ok ((mode_named m, policy_named p), rest)

volume_parts : {Y : Type 0} (number : Result (ℕ × Rest) ℕ) (copies mode policy : Reads ℕ) (gap : Rest → Result Rest ℕ) (end : ℕ → ℕ → Mode → Policy → Rest → Result Y ℕ)
    → ((number >>= λ n. copies n.1 >>= λ c. numbers n.0 c.0 c.1) >>= λ a. (mode a.1 >>= λ m. policy m.1 >>= λ p. gap p.1 >>= λ after. ways m.0 p.0 after) >>= λ b. end a.0.0 a.0.1 b.0.0 b.0.1 b.1)
    ≡ (number >>= λ n. copies n.1 >>= λ c. mode c.1 >>= λ m. policy m.1 >>= λ p. gap p.1 >>= λ after. end n.0 c.0 (mode_named m.0) (policy_named p.0) after)
volume_parts number copies mode policy gap end =
    two_in_one number (λ n. copies n.1) (λ n c. ((n.0, c.0), c.1)) (λ a. (mode a.1 >>= λ m. policy m.1 >>= λ p. gap p.1 >>= λ after. ways m.0 p.0 after) >>= λ b. end a.0.0 a.0.1 b.0.0 b.0.1 b.1)
    ∙ same_then number _ _ (λ n. same_then (copies n.1) _ _ (λ c. three_in_one (mode c.1) (λ m. policy m.1) (λ m p. gap p.1) (λ m p after. ((mode_named m.0, policy_named p.0), after)) (λ b. end n.0 c.0 b.0.0 b.0.1 b.1)))

pub volume_is : (big : Bool) (earlier : List LvRow) (rest : Rest) → volume_by_parts big earlier rest ≡ volume_at big earlier rest
unfolding volume_by_parts number_and_copies_at mode_and_policy_at volume_at
volume_is big earlier rest =
    volume_parts (number_at w16 (λ n. nat_le 1 n && nat_le n (most_volumes big) && list_all (λ row. nat_lt row.number n) earlier) rest) (number_at w8 (λ n. nat_le 1 n && nat_le n 3)) (number_at w8 (λ n. nat_le n 2)) (number_at w8 (λ n. nat_le n 3)) (zeros_at 3)
    (λ number copies mode policy behind. number_at w32 (λ n. nat_le 1 n) behind >>= λ lps. name_at (λ bytes. not (list_any (λ (row : LvRow). bytes_eq row.name bytes) earlier)) lps.1 >>= λ name. zeros_at 4 name.1 >>= λ after.
    Ok (record { number = number; name = name.0; copies = copies; mode = mode; policy = policy; lps = lps.0; map = [] }, after))

pub descriptor_is : (bytes : List ℕ) → descriptor_by_parts bytes ≡ descriptor_of bytes
unfolding descriptor_by_parts begin_at rules_at counts_at rows_at descriptor_of
descriptor_is bytes =
    two_in_one (version_at (0, bytes)) (λ big. number_at w64 (λ n. not (n == 0)) big.1) (λ big id. ((big.0, id.0), id.1)) _
    ∙ same_then (version_at (0, bytes)) _ _ (λ big. same_then (number_at w64 (λ n. not (n == 0)) big.1) _ _ (λ id. same_then (name_at (λ text. true) id.1) _ _ (λ name.
    three_in_one (number_at w16 is_size name.1) (λ mib. number_at w8 is_flag mib.1) (λ mib quorum. number_at w8 is_flag quorum.1) (λ mib quorum even. ((mib.0, quorum.0 == 1, even.0 == 1), even.1)) _
    ∙ same_then (number_at w16 is_size name.1) _ _ (λ mib. same_then (number_at w8 is_flag mib.1) _ _ (λ quorum. same_then (number_at w8 is_flag quorum.1) _ _ (λ even.
    three_in_one (member_count_at big.0 (even.0 == 1) even.1) (λ members. number_at w16 (λ n. nat_le n (most_volumes big.0)) members.1) (λ members volumes. zeros_at 12 volumes.1) (λ members volumes after. ((members.0, volumes.0), after)) _
    ∙ same_then (member_count_at big.0 (even.0 == 1) even.1) _ _ (λ members. same_then (number_at w16 (λ n. nat_le n (most_volumes big.0)) members.1) _ _ (λ volumes. same_then (zeros_at 12 volumes.1) _ _ (λ after.
    three_in_one (members_at members.0 [] after) (λ pvs. volumes_at big.0 volumes.0 [] pvs.1) (λ pvs bare. maps_at pvs.0 [] bare.0 bare.1) (λ pvs bare lvs. ((pvs.0, lvs.0), lvs.1)) _)))))))))
