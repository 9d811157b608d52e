-- A slot, sector by sector.
use Rattle.std.proofs.Common.{◌≡◌, ℕ, zero, suc, ◌+◌, ◌-◌, ◌*◌, ◌<◌, ◌≤◌, List, [], Fits, w8, ◌++◌, append-nil, append_assoc, length, take, drop, Option, Some, None, refl, sym, ap, subst, ◌∙◌, arith}
use Rattle.std.specs.Prelude.{slice_index}
use Rattle.std.proofs.Math.Seq.{take-add}
use Rattle.std.proofs.lemmas.List.{take_at, drop_at, drop-drop, drop-append-le, length-append, length-take, length-drop, take-take, drop-take}
use Rattle.lvm_num.specs.declared.record.Stamp.{Stamp}
use Rattle.lvm_num.specs.declared.record.Kind.{Kind}
use Rattle.lvm_num.specs.declared.record.Framed.{Framed}
use Rattle.lvm_num.specs.Record.{record_sectors, frame, joined, record_bytes, payload_of, announced, IsRecord, record_in}
use Rattle.lvm_rec.specs.Frames.{MayFrame}
use Rattle.lvm_num.proofs.RecordLemmas.Records.{length-frame, enough, held_is_read, read_is_held, announced-is}

-- ---- joined pieces

-- one more piece
pub joined-more : (f : ℕ → List ℕ) (i n : ℕ) → joined f i (n + 1) ≡ joined f i n ++ f (i + n)
unfolding joined
joined-more f i zero =
    let one : 0 + 1 ≡ 1 = omega arith in
    let here : i ≡ i + 0 = omega arith in
    ap (joined f i) one ∙ append-nil (f i) ∙ ap f here
joined-more f i (suc n) =
    let next : suc n + 1 ≡ suc (n + 1) = omega arith in
    let place : suc i + n ≡ i + suc n = omega arith in
    ap (joined f i) next
    ∙ ap (λ (l : List ℕ). f i ++ l) (joined-more f (suc i) n)
    ∙ sym (append_assoc (f i) (joined f (suc i) n) (f (suc i + n)))
    ∙ ap (λ k. (f i ++ joined f (suc i) n) ++ f k) place

pub length-joined : (size : ℕ) (f : ℕ → List ℕ) (i n : ℕ) → ((k : ℕ) → k < n → length (f (i + k)) ≡ size) → length (joined f i n) ≡ size * n
unfolding joined
length-joined size f i zero each = omega arith
length-joined size f i (suc n) each =
    let here : length (f i) ≡ size = ap (λ k. length (f k)) (omega arith) ∙ each 0 (omega arith) in
    let rest = length-joined size f (suc i) n (λ k lt. ap (λ j. length (f j)) (omega arith) ∙ each (suc k) (omega arith)) in
    omega (arith, here, rest, length-append (f i) (joined f (suc i) n))

-- ---- the record of a slot

pub length-record : (kind : Kind) (r : Framed) → length (record_bytes kind r) ≡ 512 * record_sectors (length r.content)
length-record kind r = length-joined 512 (frame kind r.stamp r.content) 0 (record_sectors (length r.content))
    (λ k lt. ap (λ j. length (frame kind r.stamp r.content j)) (omega arith) ∙ length-frame kind r.stamp r.content k lt)

pub slot_is_long : (kind : Kind) (slot : List ℕ) (r : Framed) → IsRecord kind slot r → 512 * record_sectors (length r.content) ≤ length slot
slot_is_long kind slot r is =
    let n = 512 * record_sectors (length r.content) in
    let size : length (take (512 * record_sectors (length r.content)) slot) ≡ 512 * record_sectors (length r.content) = ap (length {A = ℕ}) is.front ∙ length-record kind r in
    omega (arith, size, length-take n slot)

-- ---- the sectors at the front of some bytes

pub joined-none : (f : ℕ → List ℕ) (i : ℕ) → joined f i 0 ≡ []
unfolding joined
joined-none f i = refl

pub front-more : (f : ℕ → List ℕ) (bytes : List ℕ) (k : ℕ) → take (512 * k) bytes ≡ joined f 0 k → take 512 (drop (512 * k) bytes) ≡ f k
    → take (512 * (k + 1)) bytes ≡ joined f 0 (k + 1)
front-more f bytes k old here =
    let more : 512 * (k + 1) ≡ 512 * k + 512 = omega arith in
    let place : k ≡ 0 + k = omega arith in
    ap (λ n. take n bytes) more
    ∙ take-add (512 * k) 512 bytes
    ∙ ap (λ (l : List ℕ). l ++ take 512 (drop (512 * k) bytes)) old
    ∙ ap (λ (l : List ℕ). joined f 0 k ++ l) (here ∙ ap f place)
    ∙ sym (joined-more f 0 k)

joined-piece : (f : ℕ → List ℕ) (i n k : ℕ) → ((j : ℕ) → j < n → length (f (i + j)) ≡ 512) → k < n → take 512 (drop (512 * k) (joined f i n)) ≡ f (i + k)
unfolding joined
joined-piece f i zero k each lt = absurd (omega (arith, lt))
joined-piece f i (suc n) zero each lt =
    let here : length (f i) ≡ 512 = ap (λ j. length (f j)) (omega arith) ∙ each 0 (omega arith) in
    let place : i ≡ i + 0 = omega arith in
    take_at (f i) (joined f (suc i) n) 512 here ∙ ap f place
joined-piece f i (suc n) (suc k) each lt =
    let here : length (f i) ≡ 512 = ap (λ j. length (f j)) (omega arith) ∙ each 0 (omega arith) in
    let next : 512 * suc k ≡ 512 + 512 * k = omega arith in
    let place : suc i + k ≡ i + suc k = omega arith in
    ap (λ m. take 512 (drop m (f i ++ joined f (suc i) n))) next
    ∙ ap (take 512) (sym (drop-drop (512 * k) 512 (f i ++ joined f (suc i) n)) ∙ ap (drop (512 * k)) (drop_at (f i) (joined f (suc i) n) 512 here))
    ∙ joined-piece f (suc i) n k (λ j less. ap (λ m. length (f m)) (omega arith) ∙ each (suc j) (omega arith)) (omega arith)
    ∙ ap f place

pub front-piece : (f : ℕ → List ℕ) (bytes : List ℕ) (n k : ℕ) → ((j : ℕ) → j < n → length (f j) ≡ 512) → k < n
    → take (512 * n) bytes ≡ joined f 0 n → take 512 (drop (512 * k) bytes) ≡ f k
front-piece f bytes n k each lt is =
    let parts : 512 * n ≡ 512 * k + (512 * n - 512 * k) = omega arith in
    let place : 0 + k ≡ k = omega arith in
    sym (take-take 512 (512 * n - 512 * k) (drop (512 * k) bytes) (omega arith))
    ∙ ap (take 512) (sym (drop-take (512 * k) (512 * n - 512 * k) bytes) ∙ ap (λ m. drop (512 * k) (take m bytes)) (sym parts) ∙ ap (drop (512 * k)) is)
    ∙ joined-piece f 0 n k (λ j less. ap (λ m. length (f m)) (omega arith) ∙ each j less) lt
    ∙ ap f place

-- ---- the payload

pub payload-one : (bytes : List ℕ) → 512 ≤ length bytes → take 492 (drop 20 bytes) ≡ drop 4 (payload_of bytes 1)
unfolding joined
payload-one bytes long =
    ap (take 492) (sym (drop-drop 4 16 bytes))
    ∙ sym (drop-take 4 492 (drop 16 bytes))
    ∙ ap (drop 4) (sym (append-nil (take 496 (drop 16 bytes))))

length-payload_of : (bytes : List ℕ) (n : ℕ) → 512 * n ≤ length bytes → length (payload_of bytes n) ≡ 496 * n
length-payload_of bytes n long = length-joined 496 (λ k. take 496 (drop (512 * k + 16) bytes)) 0 n
    (λ k lt.
    let place : 0 + k ≡ k = omega arith in
    ap (λ j. length (take 496 (drop (512 * j + 16) bytes))) place
    ∙ (let size = length-take 496 (drop (512 * k + 16) bytes) in let left = length-drop (512 * k + 16) bytes in omega (arith, size, left)))

pub payload-more : (bytes : List ℕ) (k : ℕ) → 1 ≤ k → 512 * k ≤ length bytes
    → drop 4 (payload_of bytes k) ++ take 496 (drop (512 * k + 16) bytes) ≡ drop 4 (payload_of bytes (k + 1))
payload-more bytes k some long =
    let size = length-payload_of bytes k long in
    let place : 0 + k ≡ k = omega arith in
    sym (drop-append-le 4 (payload_of bytes k) (take 496 (drop (512 * k + 16) bytes)) (omega (arith, size)))
    ∙ ap (λ j. drop 4 (payload_of bytes k ++ take 496 (drop (512 * j + 16) bytes))) (sym place)
    ∙ ap (drop 4) (sym (joined-more (λ j. take 496 (drop (512 * j + 16) bytes)) 0 k))

pub length-content : (bytes : List ℕ) (len : ℕ) → 512 * record_sectors len ≤ length bytes → length (take len (drop 4 (payload_of bytes (record_sectors len)))) ≡ len
length-content bytes len long =
    let size = length-payload_of bytes (record_sectors len) long in
    let left = length-drop 4 (payload_of bytes (record_sectors len)) in
    let cut = length-take len (drop 4 (payload_of bytes (record_sectors len))) in
    omega (arith, size, left, cut, enough len)

-- ---- the answers of a slot

none_or : {X : Type 0} (o : Option X) → ((r : X) → o ≡ Some r → ⊥) → None ≡ o
none_or None miss = refl
none_or (Some r) miss = absurd (miss r refl)

pub no_record : (kind : Kind) (slot : List ℕ) → ((i : ℕ) → Fits w8 (slice_index slot i)) → ((r : Framed) → IsRecord kind slot r → ⊥) → None ≡ record_in kind slot
no_record kind slot bytes miss = none_or (record_in kind slot) (λ r e. miss r (read_is_held kind slot r (λ i. omega (arith, bytes i)) e))

-- a slot that begins with the record of what its first sector announces holds that record
pub held_record : (kind : Kind) (slot : List ℕ) (stamp : Stamp) (len : ℕ) (content : List ℕ) → MayFrame kind slot stamp len
    → content ≡ take len (drop 4 (payload_of slot (record_sectors len)))
    → take (512 * record_sectors (length content)) slot ≡ record_bytes kind (record { stamp = stamp; content = content })
    → Some (record { stamp = stamp; content = content }) ≡ record_in kind slot
held_record kind slot stamp len content may is front =
    let size : length content ≡ len = ap (length {A = ℕ}) is ∙ length-content slot len may.there in
    sym (held_is_read kind slot (record { stamp = stamp; content = content }) (record {
      frames = record { some_epoch = may.some_epoch; epoch = may.epoch; some_seq = may.some_seq; seq = may.seq; content = omega (arith, size, may.content) };
      front = front;
    }))

-- one that doesn't holds none
pub other_record : (kind : Kind) (slot : List ℕ) (stamp : Stamp) (len : ℕ) (content : List ℕ) → ((i : ℕ) → Fits w8 (slice_index slot i)) → MayFrame kind slot stamp len
    → content ≡ take len (drop 4 (payload_of slot (record_sectors len)))
    → (take (512 * record_sectors (length content)) slot ≡ record_bytes kind (record { stamp = stamp; content = content }) → ⊥)
    → None ≡ record_in kind slot
other_record kind slot stamp len content bytes may is other = no_record kind slot bytes (λ r held.
    let here : announced slot ≡ record { stamp = stamp; content = content } =
    λ t. record { stamp = record { epoch = sym may.epoch_stands t; seq = sym may.seq_stands t }; content = (ap (λ n. take n (drop 4 (payload_of slot (record_sectors n)))) (sym may.len_stands) ∙ sym is) t } in
    let same : r ≡ record { stamp = stamp; content = content } = sym (announced-is kind slot r held) ∙ here in
    other (subst (λ (x : Framed). take (512 * record_sectors (length x.content)) slot ≡ record_bytes kind x) same held.front))
