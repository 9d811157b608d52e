-- A slot is read as the record that it holds.
use Rattle.std.proofs.Common.{◌≡◌, ◌≢◌, ℕ, zero, suc, ◌+◌, ◌-◌, ◌*◌, ◌^◌, ◌<◌, ◌≤◌, Bool, true, false, ◌&&◌, not, List, ◌++◌, length, get_or, take, drop, replicate, Some, refl, sym, ap, subst, ◌∙◌, append_assoc, arith}
use Rattle.std.specs.Prelude.{◌==◌, nat_le, bytes_eq}
use Rattle.std.specs.Bool.{then_some}
use Rattle.std.specs.Int.{w32, w64, to_be_bytes, from_be_bytes}
use Rattle.std.proofs.Common.{inl, inr}
use Rattle.std.proofs.lemmas.Bool.{cases_lt}
use Rattle.std.proofs.lemmas.Bool.Decides.{nat_tests}
use Rattle.std.proofs.lemmas.List.{take_at, drop_at, take-append-drop, take-append-le, drop-append-le, drop-drop, length-append, length-take, length-drop, length-replicate, take_all, get_or-drop, get_or-take, get_or_past}
use Rattle.std.proofs.Math.Seq.{take-add}
use Rattle.std.proofs.lemmas.Nat.{from_be_bytes-to_be_bytes_4, from_be_bytes-to_be_bytes_8}
use Rattle.std.proofs.lemmas.Slice.Eq.{bytes_eq-Decides}
use Rattle.lvm_num.specs.declared.record.Stamp.{Stamp}
use Rattle.lvm_num.specs.declared.record.Kind.{Kind}
use Rattle.lvm_num.specs.declared.record.Kind.TheVariants.{Descriptor, Status}
use Rattle.lvm_num.specs.declared.record.Framed.{Framed}
use Rattle.lvm_num.specs.Record.{record_sectors, longest_content, payload, frame, joined, record_bytes, IsRecord, payload_of, announced, may_be, record_in, HeldIsRead, ReadIsHeld}
pub use Rattle.std.proofs.lemmas.Bool.{and_parts as both_true}

-- ---- pieces of equal size

pub joined-same : (f g : ℕ → List ℕ) (i n : ℕ) → ((k : ℕ) → i ≤ k → k < i + n → f k ≡ g k) → joined f i n ≡ joined g i n
unfolding joined
joined-same f g i zero same = refl
joined-same f g i (suc n) same =
    let here : f i ≡ g i = same i (omega arith) (omega arith) in
    let rest : joined f (suc i) n ≡ joined g (suc i) n = joined-same f g (suc i) n (λ k low high. same k (omega arith) (omega arith)) in
    λ t. here t ++ rest t

-- piece k of pieces of 512 bytes, behind its first 16
piece : (f : ℕ → List ℕ) (i n k : ℕ) (rest : List ℕ) → ((j : ℕ) → i ≤ j → j < i + n → length (f j) ≡ 512) → k < n
    → take 496 (drop 16 (drop (512 * k) (joined f i n ++ rest))) ≡ take 496 (drop 16 (f (i + k)))
unfolding joined
piece f i zero k rest len lt = absurd (omega arith)
piece f i (suc n) zero rest len lt =
    let size : length (f i) ≡ 512 = len i (omega arith) (omega arith) in
    let back : length (drop 16 (f i)) ≡ 496 = omega (arith, length-drop 16 (f i), size) in
    let there : i + 0 ≡ i = omega arith in
    ap (λ (x : List ℕ). take 496 (drop 16 x)) (append_assoc (f i) (joined f (suc i) n) rest)
    ∙ ap (take 496) (drop-append-le 16 (f i) (joined f (suc i) n ++ rest) (omega (arith, size)))
    ∙ take-append-le 496 (drop 16 (f i)) (joined f (suc i) n ++ rest) (omega (arith, back))
    ∙ ap (λ j. take 496 (drop 16 (f j))) (sym there)
piece f i (suc n) (suc k) rest len lt =
    let size : length (f i) ≡ 512 = len i (omega arith) (omega arith) in
    let more : 512 * suc k ≡ 512 + 512 * k = omega arith in
    let place : suc i + k ≡ i + suc k = omega arith in
    ap (λ m. take 496 (drop 16 (drop m (joined f i (suc n) ++ rest)))) more
    ∙ ap (λ (x : List ℕ). take 496 (drop 16 x)) (sym (drop-drop (512 * k) 512 (joined f i (suc n) ++ rest)))
    ∙ ap (λ (x : List ℕ). take 496 (drop 16 (drop (512 * k) (drop 512 x)))) (append_assoc (f i) (joined f (suc i) n) rest)
    ∙ ap (λ (x : List ℕ). take 496 (drop 16 (drop (512 * k) x))) (drop_at (f i) (joined f (suc i) n ++ rest) 512 size)
    ∙ piece f (suc i) n k rest (λ j low high. len j (omega arith) (omega arith)) (omega arith)
    ∙ ap (λ j. take 496 (drop 16 (f j))) place

-- a list of whole pieces of 496 is its pieces, joined
pieces : (p : List ℕ) (i n : ℕ) → joined (λ k. take 496 (drop (496 * k) p)) i n ≡ take (496 * n) (drop (496 * i) p)
unfolding joined
pieces p i zero = refl
pieces p i (suc n) =
    let more : 496 * suc n ≡ 496 + 496 * n = omega arith in
    let next : 496 * suc i ≡ 496 * i + 496 = omega arith in
    ap (λ (x : List ℕ). take 496 (drop (496 * i) p) ++ x) (pieces p (suc i) n ∙ ap (λ m. take (496 * n) (drop m p)) next ∙ ap (take (496 * n)) (sym (drop-drop 496 (496 * i) p)))
    ∙ sym (take-add 496 (496 * n) (drop (496 * i) p))
    ∙ ap (λ m. take m (drop (496 * i) p)) (sym more)

-- ---- the payload

pub enough : (len : ℕ) → len + 4 ≤ 496 * record_sectors len
enough len = omega arith

length-payload : (content : List ℕ) → length (payload content) ≡ 496 * record_sectors (length content)
length-payload content =
    omega (arith, enough (length content), length-append content (replicate (496 * record_sectors (length content) - 4 - length content) 0), length-replicate {A = ℕ} (496 * record_sectors (length content) - 4 - length content) 0)

part : (content : List ℕ) (k : ℕ) → List ℕ
part content k = take 496 (drop (496 * k) (payload content))

length-part : (content : List ℕ) (k : ℕ) → k < record_sectors (length content) → length (take 496 (drop (496 * k) (payload content))) ≡ 496
length-part content k lt = omega (arith, length-take 496 (drop (496 * k) (payload content)), length-drop (496 * k) (payload content), length-payload content)

behind_head : (kind : Kind) (stamp : Stamp) (content : List ℕ) (k : ℕ) → drop 16 (frame kind stamp content k) ≡ take 496 (drop (496 * k) (payload content))
behind_head Descriptor stamp content k = refl
behind_head Status stamp content k = refl

pub length-frame : (kind : Kind) (stamp : Stamp) (content : List ℕ) (k : ℕ) → k < record_sectors (length content) → length (frame kind stamp content k) ≡ 512
length-frame Descriptor stamp content k lt = omega (arith, length-part content k lt)
length-frame Status stamp content k lt = omega (arith, length-part content k lt)

-- ---- what the first sector announces

starts : (f : ℕ → List ℕ) (n : ℕ) (rest : List ℕ) → 0 < n → joined f 0 n ++ rest ≡ f 0 ++ (joined f 1 (n - 1) ++ rest)
unfolding joined
starts f zero rest lt = absurd (omega arith)
starts f (suc n) rest lt = append_assoc (f 0) (joined f 1 n) rest ∙ ap (λ m. f 0 ++ (joined f 1 m ++ rest)) (omega arith)

first_epoch : (kind : Kind) (stamp : Stamp) (content tail : List ℕ) → take 8 (drop 8 (frame kind stamp content 0 ++ tail)) ≡ to_be_bytes w64 stamp.epoch
first_epoch Descriptor stamp content tail = refl
first_epoch Status stamp content tail = refl

first_seq : (kind : Kind) (stamp : Stamp) (content tail : List ℕ) → take 4 (drop 4 (frame kind stamp content 0 ++ tail)) ≡ to_be_bytes w32 stamp.seq
first_seq Descriptor stamp content tail = refl
first_seq Status stamp content tail = refl

first_len : (kind : Kind) (stamp : Stamp) (content tail : List ℕ) → take 4 (drop 16 (frame kind stamp content 0 ++ tail)) ≡ to_be_bytes w32 (length content)
first_len Descriptor stamp content tail = refl
first_len Status stamp content tail = refl

module _ (kind : Kind) (slot : List ℕ) (r : Framed) (is : IsRecord kind slot r) where
  sectors : ℕ
  sectors = record_sectors (length r.content)

  -- the record, and what stands behind it
  whole : slot ≡ record_bytes kind r ++ drop (512 * record_sectors (length r.content)) slot
  whole = sym (take-append-drop (512 * record_sectors (length r.content)) slot) ∙ ap (λ (x : List ℕ). x ++ drop (512 * record_sectors (length r.content)) slot) is.front

  fits : length r.content < 2 ^ 32
  fits = by_kind kind is.frames.content
    where
      by_kind : (k : Kind) → length r.content ≤ longest_content k → length r.content < 2 ^ 32
      by_kind Descriptor le = omega arith
      by_kind Status le = omega arith

  begins : slot ≡ frame kind r.stamp r.content 0 ++ (joined (frame kind r.stamp r.content) 1 (record_sectors (length r.content) - 1) ++ drop (512 * record_sectors (length r.content)) slot)
  begins = whole ∙ starts (frame kind r.stamp r.content) (record_sectors (length r.content)) (drop (512 * record_sectors (length r.content)) slot) (omega (arith, enough (length r.content)))

  pub epoch-is : from_be_bytes w64 (take 8 (drop 8 slot)) ≡ r.stamp.epoch
  epoch-is = ap (λ (x : List ℕ). from_be_bytes w64 (take 8 (drop 8 x))) begins ∙ ap (from_be_bytes w64) (first_epoch kind r.stamp r.content _) ∙ from_be_bytes-to_be_bytes_8 r.stamp.epoch is.frames.epoch

  pub seq-is : from_be_bytes w32 (take 4 (drop 4 slot)) ≡ r.stamp.seq
  seq-is = ap (λ (x : List ℕ). from_be_bytes w32 (take 4 (drop 4 x))) begins ∙ ap (from_be_bytes w32) (first_seq kind r.stamp r.content _) ∙ from_be_bytes-to_be_bytes_4 r.stamp.seq is.frames.seq

  pub len-is : from_be_bytes w32 (take 4 (drop 16 slot)) ≡ length r.content
  len-is = ap (λ (x : List ℕ). from_be_bytes w32 (take 4 (drop 16 x))) begins ∙ ap (from_be_bytes w32) (first_len kind r.stamp r.content _) ∙ from_be_bytes-to_be_bytes_4 (length r.content) fits

  part-is : (k : ℕ) → k < record_sectors (length r.content) → take 496 (drop (512 * k + 16) slot) ≡ take 496 (drop (496 * k) (payload r.content))
  part-is k lt =
      ap (take 496) (sym (drop-drop 16 (512 * k) slot))
      ∙ ap (λ (x : List ℕ). take 496 (drop 16 (drop (512 * k) x))) whole
      ∙ piece (frame kind r.stamp r.content) 0 (record_sectors (length r.content)) k (drop (512 * record_sectors (length r.content)) slot) (λ j low high. length-frame kind r.stamp r.content j (omega arith)) lt
      ∙ ap (λ j. take 496 (drop 16 (frame kind r.stamp r.content j))) (omega arith)
      ∙ ap (take 496) (behind_head kind r.stamp r.content k)
      ∙ take_all 496 _ (omega (arith, length-part r.content k lt))

  payload-is : payload_of slot (record_sectors (length r.content)) ≡ payload r.content
  payload-is =
      joined-same (λ k. take 496 (drop (512 * k + 16) slot)) (λ k. take 496 (drop (496 * k) (payload r.content))) 0 (record_sectors (length r.content)) (λ k low high. part-is k (omega arith))
      ∙ pieces (payload r.content) 0 (record_sectors (length r.content))
      ∙ take_all _ (payload r.content) (omega (arith, length-payload r.content))

  content-is : take (length r.content) (drop 4 (payload r.content)) ≡ r.content
  content-is = take_at r.content (replicate (496 * record_sectors (length r.content) - 4 - length r.content) 0) (length r.content) refl

  pub announced-is : announced slot ≡ r
  announced-is =
      let content : take (from_be_bytes w32 (take 4 (drop 16 slot))) (drop 4 (payload_of slot (record_sectors (from_be_bytes w32 (take 4 (drop 16 slot)))))) ≡ r.content =
      ap (λ len. take len (drop 4 (payload_of slot (record_sectors len)))) len-is ∙ ap (λ (p : List ℕ). take (length r.content) (drop 4 p)) payload-is ∙ content-is in
      λ t. record { stamp = record { epoch = epoch-is t; seq = seq-is t }; content = content t }

  may-is : may_be kind slot r ≡ true
  may-is = tests (r.stamp.epoch == 0) (r.stamp.seq == 0) (nat_le (length r.content) (longest_content kind)) (bytes_eq (take (512 * record_sectors (length r.content)) slot) (record_bytes kind r))
      (not_zero r.stamp.epoch is.frames.some_epoch) (not_zero r.stamp.seq is.frames.some_seq) (grind (arith, nat_tests)) ((bytes_eq-Decides (take (512 * record_sectors (length r.content)) slot) (record_bytes kind r)).1 is.front)
    where
      not_zero : (n : ℕ) → n ≢ 0 → n == 0 ≡ false
      not_zero n some = grind (arith, nat_tests)

      tests : (a b c d : Bool) → a ≡ false → b ≡ false → c ≡ true → d ≡ true → not a && not b && c && d ≡ true
      tests a b c d p q r s = rw (p, q, r, s) refl

pub held_is_read : HeldIsRead
unfolding record_in
held_is_read kind slot r is = ap (λ (x : Framed). then_some (may_be kind slot x) x) (announced-is kind slot r is) ∙ ap (λ (b : Bool). then_some b r) (may-is kind slot r is)

-- ---- what is read is bytes

AreBytes : List ℕ → Type 0
AreBytes bytes = (i : ℕ) → get_or bytes i 0 < 256

pub bytes-drop : (n : ℕ) (bytes : List ℕ) → ((i : ℕ) → get_or bytes i 0 < 256) → (i : ℕ) → get_or (drop n bytes) i 0 < 256
bytes-drop n bytes h i = rw get_or-drop (h (n + i))

pub bytes-take : (n : ℕ) (bytes : List ℕ) → ((i : ℕ) → get_or bytes i 0 < 256) → (i : ℕ) → get_or (take n bytes) i 0 < 256
bytes-take n bytes h i =
    elim (cases_lt i n) [
      | inl lt ↦ rw (get_or-take n bytes i 0 lt) (h i)
      | inr le ↦ rw (get_or_past (take n bytes) i 0 (omega (arith, length-take n bytes))) (omega arith)
    ]

pub below32 : (bytes : List ℕ) → ((i : ℕ) → get_or bytes i 0 < 256) → from_be_bytes w32 bytes < 2 ^ 32
below32 bytes fits = omega (arith, fits 0, fits 1, fits 2, fits 3)

pub below64 : (bytes : List ℕ) → ((i : ℕ) → get_or bytes i 0 < 256) → from_be_bytes w64 bytes < 2 ^ 64
below64 bytes fits = omega (arith, fits 0, fits 1, fits 2, fits 3, fits 4, fits 5, fits 6, fits 7)

pub then_is : {X : Type 0} (test : Bool) (x r : X) → then_some test x ≡ Some r → (test ≡ true) × (x ≡ r)
then_is true x r e = (refl, cc)
then_is false x r e = absurd cc

pub read_is_held : ReadIsHeld
unfolding record_in
read_is_held kind slot r bytes e =
    let t = then_is (may_be kind slot (announced slot)) (announced slot) r e in
    let may : may_be kind slot r ≡ true = subst (λ (x : Framed). may_be kind slot x ≡ true) t.1 t.0 in
    let a = both_true (not (r.stamp.epoch == 0) && not (r.stamp.seq == 0) && nat_le (length r.content) (longest_content kind)) (bytes_eq (take (512 * record_sectors (length r.content)) slot) (record_bytes kind r)) may in
    let b = both_true (not (r.stamp.epoch == 0) && not (r.stamp.seq == 0)) (nat_le (length r.content) (longest_content kind)) a.0 in
    let d = both_true (not (r.stamp.epoch == 0)) (not (r.stamp.seq == 0)) b.0 in
    let epoch : (announced slot).stamp.epoch ≡ r.stamp.epoch = ap (λ (x : Framed). x.stamp.epoch) t.1 in
    let seq : (announced slot).stamp.seq ≡ r.stamp.seq = ap (λ (x : Framed). x.stamp.seq) t.1 in
    record {
      frames = record {
        some_epoch = some r.stamp.epoch d.0;
        epoch = subst (λ n. n < 2 ^ 64) epoch (below64 (take 8 (drop 8 slot)) (bytes-take 8 (drop 8 slot) (bytes-drop 8 slot bytes)));
        some_seq = some r.stamp.seq d.1;
        seq = subst (λ n. n < 2 ^ 32) seq (below32 (take 4 (drop 4 slot)) (bytes-take 4 (drop 4 slot) (bytes-drop 4 slot bytes)));
        content = le (length r.content) (longest_content kind) b.1;
      };
      front = (bytes_eq-Decides (take (512 * record_sectors (length r.content)) slot) (record_bytes kind r)).0 a.1;
    }
  where
    some : (n : ℕ) → not (n == 0) ≡ true → n ≢ 0
    some n h is = grind (arith, nat_tests)

    le : (m n : ℕ) → nat_le m n ≡ true → m ≤ n
    le m n h = grind (arith, nat_tests)
