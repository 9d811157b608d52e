-- A record that the front of a slot holds.
use Rattle.std.proofs.Common.{◌≡◌, ◌+◌, ◌-◌, ◌*◌, ◌≤◌, ◌++◌, ◌&&◌, ℕ, List, Bool, length, take, drop, min, max, inl, inr, not, nat_le, ◌==◌, bytes_eq, sym, ◌∙◌, ap, arith}
use Rattle.std.specs.Int.{w32, w64, from_be_bytes}
use Rattle.std.specs.Bool.{then_some}
use Rattle.std.proofs.lemmas.Bool.{cases_lt}
use Rattle.std.proofs.lemmas.List.{take-append-le, drop-append-le, length-take, length-drop}
use Rattle.lvm_disk.specs.passed.Num.{Kind, Framed, joined, record_sectors, longest_content, payload_of, announced, may_be, record_bytes, record_in}
use Rattle.lvm_transfer.specs.Reading.{announced_length}
use Rattle.lvm_transfer.proofs.RecordLemmas.{joined-shifted, joined-add}

-- a piece that lies in the front
within : (front rest : List ℕ) (k n : ℕ) → k + n ≤ length front → take n (drop k (front ++ rest)) ≡ take n (drop k front)
within front rest k n inside =
    let left = length-drop k front in
    ap (take n) (drop-append-le k front rest (omega (arith, inside))) ∙ take-append-le n (drop k front) rest (omega (arith, inside, left))

payload-front : (front rest : List ℕ) (n : ℕ) → 512 * n ≤ length front → payload_of (front ++ rest) n ≡ payload_of front n
payload-front front rest n inside = joined-shifted (λ k. take 496 (drop (512 * k + 16) (front ++ rest))) (λ k. take 496 (drop (512 * k + 16) front)) 0 0 n
    (λ k lt. within front rest (512 * (0 + k) + 16) 496 (omega (arith, lt, inside)))

announced-front : (front rest : List ℕ) → 512 * record_sectors (announced_length front) ≤ length front → announced (front ++ rest) ≡ announced front
announced-front front rest inside =
    let epoch : from_be_bytes w64 (take 8 (drop 8 (front ++ rest))) ≡ from_be_bytes w64 (take 8 (drop 8 front)) = ap (from_be_bytes w64) (within front rest 8 8 (omega (arith, inside))) in
    let seq : from_be_bytes w32 (take 4 (drop 4 (front ++ rest))) ≡ from_be_bytes w32 (take 4 (drop 4 front)) = ap (from_be_bytes w32) (within front rest 4 4 (omega (arith, inside))) in
    let size : announced_length (front ++ rest) ≡ announced_length front = ap (from_be_bytes w32) (within front rest 16 4 (omega (arith, inside))) in
    let content : take (announced_length (front ++ rest)) (drop 4 (payload_of (front ++ rest) (record_sectors (announced_length (front ++ rest))))) ≡ take (announced_length front) (drop 4 (payload_of front (record_sectors (announced_length front)))) =
    ap (λ n. take n (drop 4 (payload_of (front ++ rest) (record_sectors n)))) size ∙ ap (λ (l : List ℕ). take (announced_length front) (drop 4 l)) (payload-front front rest (record_sectors (announced_length front)) inside) in
    λ t. record { stamp = record { epoch = epoch t; seq = seq t }; content = content t }

-- A slot holds the record that its front holds, where all of the record that the first sector announces lies there.
pub record-front : (kind : Kind) (front rest : List ℕ) → 512 * record_sectors (announced_length front) ≤ length front → record_in kind front ≡ record_in kind (front ++ rest)
unfolding record_in
record-front kind front rest inside =
    let r : Framed = announced front in
    let short : length r.content ≤ announced_length front = cut (announced_length front) (drop 4 (payload_of front (record_sectors (announced_length front)))) in
    let same : take (512 * record_sectors (length r.content)) (front ++ rest) ≡ take (512 * record_sectors (length r.content)) front = take-append-le (512 * record_sectors (length r.content)) front rest (omega (arith, short, inside)) in
    let may : may_be kind front r ≡ may_be kind (front ++ rest) r =
    ap (λ (l : List ℕ). not (r.stamp.epoch == 0) && not (r.stamp.seq == 0) && nat_le (length r.content) (longest_content kind) && bytes_eq l (record_bytes kind r)) (sym same) in
    ap (λ (b : Bool). then_some b r) may ∙ ap (λ (x : Framed). then_some (may_be kind (front ++ rest) x) x) (sym (announced-front front rest inside))
  where
    cut : (n : ℕ) (l : List ℕ) → length (take n l) ≤ n
    cut n l = let size = length-take n l in omega (arith, size)

-- Sectors of a slot, the first of which were read before the others.
module _ (kind : Kind) (f : ℕ → List ℕ) (first some more count : ℕ) (bytes all : List ℕ) (is : bytes ≡ joined f first some) (next : all ≡ bytes ++ joined f (first + some) more) where
  all-joined : all ≡ joined f first (some + more)
  all-joined = next ∙ ap (λ (l : List ℕ). l ++ joined f (first + some) more) is ∙ sym (joined-add f first some more)

  -- They hold its record, where they are as many as the first sector announces,
  record-read : some + more ≤ count → 512 * record_sectors (announced_length bytes) ≤ length all → 20 ≤ length bytes → record_in kind all ≡ record_in kind (joined f first count)
  record-read most inside long =
      let n : some + more + (count - (some + more)) ≡ count = omega (arith, most) in
      let rest : List ℕ = joined f (first + (some + more)) (count - (some + more)) in
      let size : announced_length all ≡ announced_length bytes = ap announced_length next ∙ ap (from_be_bytes w32) (within bytes (joined f (first + some) more) 16 4 (omega (arith, long))) in
      record-front kind all rest (ap-le size inside)
      ∙ ap (λ (l : List ℕ). record_in kind (l ++ rest)) all-joined
      ∙ ap (record_in kind) (sym (joined-add f first (some + more) (count - (some + more))) ∙ ap (joined f first) n)
    where
      ap-le : {a b m : ℕ} → a ≡ b → 512 * record_sectors b ≤ m → 512 * record_sectors a ≤ m
      ap-le same le = omega (arith, same, le)

  -- or all.
  record-whole : some + more ≡ count → record_in kind all ≡ record_in kind (joined f first count)
  record-whole most = ap (record_in kind) (all-joined ∙ ap (joined f first) most)

  -- So do those that are kept after the first read.
  pub record-kept : length bytes ≡ 512 * some → length all ≡ 512 * some + 512 * more → 1 ≤ some → some ≤ count → some + more ≡ max some (min (record_sectors (announced_length bytes)) count) → record_in kind all ≡ record_in kind (joined f first count)
  record-kept size long one most kept = elim (cases_lt count (record_sectors (announced_length bytes))) [
    | inl high ↦ record-whole (omega (arith, kept, high, most))
    | inr low ↦ record-read (omega (arith, kept, low, most)) (omega (arith, long, kept, low)) (omega (arith, size, one))
  ]
