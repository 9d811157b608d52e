-- The records that disks of whole sectors show.
use Rattle.std.proofs.Common.{◌≡◌, ⊎_elim, ◌+◌, ◌*◌, ◌<◌, ◌≤◌, ◌++◌, [], ◌∷◌, ℕ, zero, suc, List, true, Option, Some, None, Result, Ok, Err, option_and_then, get_or, take, drop, refl, ap, subst, arith}
use Rattle.std.specs.Prelude.{◌&&◌, nat_le, nat_lt}
use Rattle.std.proofs.lemmas.Bool.Decides.{nat_tests}
use Rattle.lvm_num.specs.declared.record.Framed.{Framed}
use Rattle.lvm_num.specs.declared.record.Kind.{Kind}
use Rattle.lvm_num.specs.declared.record.Kind.TheVariants as kind
use Rattle.lvm_num.specs.declared.record.Stamp.{Stamp}
use Rattle.lvm_num.specs.Record.{Stamped, announced, joined, may_be, payload_of, record_in, slot_size, slot_start}
use Rattle.lvm_num.proofs.RecordLemmas.Newest.{of_two}
use Rattle.lvm_num.proofs.RecordLemmas.Records.{both_true, bytes-drop, bytes-take, then_is}
use Rattle.lvm_quorum.specs.passed.Transfer.{held, newest_on, read_under, slot_of, Image, IsWholeImage, has_records, newest_at, descriptor_on, status_on}
use Rattle.lvm_num.specs.DescriptorBytes.{descriptor_of}
use Rattle.lvm_num.specs.StatusBytes.{status_of}
use Rattle.lvm_num.proofs.Booleans.{passed_if}
use Rattle.lvm_quorum.proofs.passed.Vgda.{read_is_spelled}
use Rattle.lvm_quorum.proofs.passed.Vgsa.{is_read}
use Rattle.lvm_quorum.specs.Laws.{DescriptorsAreValid, StatusesAreValid}

-- ---- bytes

abbrev AreBytes : List ℕ → Type 0
AreBytes bytes = (i : ℕ) → get_or bytes i 0 < 256

bytes-append : (xs ys : List ℕ) → AreBytes xs → AreBytes ys → AreBytes (xs ++ ys)
bytes-append [] ys a b i = b i
bytes-append (x ∷ xs) ys a b zero = a 0
bytes-append (x ∷ xs) ys a b (suc i) = bytes-append xs ys (λ k. a (suc k)) b i

bytes-joined : (f : ℕ → List ℕ) (i n : ℕ) → ((k : ℕ) → i ≤ k → k < i + n → AreBytes (f k)) → AreBytes (joined f i n)
unfolding joined
bytes-joined f i zero each = λ k. omega arith
bytes-joined f i (suc n) each = bytes-append (f i) (joined f (suc i) n) (each i (omega arith) (omega arith)) (bytes-joined f (suc i) n (λ k low high. each k (omega arith) (omega arith)))

-- the content of a record in a slot of bytes
content_bytes : (k : Kind) (slot : List ℕ) (r : Framed) → AreBytes slot → record_in k slot ≡ Some r → AreBytes r.content
unfolding record_in
content_bytes k slot r bytes is =
    let it : announced slot ≡ r = (then_is (may_be k slot (announced slot)) (announced slot) r is).1 in
    subst (λ (s : Framed). AreBytes s.content) it
    (bytes-take _ (drop 4 (payload_of slot _)) (bytes-drop 4 (payload_of slot _) (bytes-joined (λ j. take 496 (drop (512 * j + 16) slot)) 0 _ (λ j low high. bytes-take 496 (drop (512 * j + 16) slot) (bytes-drop (512 * j + 16) slot bytes)))))

-- ---- what is held

read_ok : {X : Type 0} (stamp : Stamp) (res : Result X ℕ) (y : Stamped X) → read_under stamp res ≡ Some y → res ≡ Ok y.value
read_ok stamp (Ok x) y is = let same : record { stamp = stamp; value = x } ≡ y = cc in ap (λ (s : Stamped _). Ok s.value) same
read_ok stamp (Err place) y is = absurd (cc (is))

from_held : {X : Type 0} (content_of : List ℕ → Result X ℕ) (o : Option Framed) (y : Stamped X) → option_and_then (λ (r : Framed). read_under r.stamp (content_of r.content)) o ≡ Some y
    → (r : Framed) × (o ≡ Some r) × (content_of r.content ≡ Ok y.value)
from_held content_of None y is = absurd (cc (is))
from_held content_of (Some r) y is = (r, refl, read_ok r.stamp (content_of r.content) y is)

in_area : (k : Kind) (slot : ℕ) → slot < 2 → slot_start k slot + slot_size k ≤ 4096
in_area kind.Descriptor slot low = omega arith
in_area kind.Status slot low = omega arith

has_large : (d n size : ℕ) → (nat_lt d n && nat_le 4096 size) ≡ true → 4096 ≤ size
has_large d n size is = let large : nat_le 4096 size ≡ true = (both_true (nat_lt d n) (nat_le 4096 size) is).1 in grind (arith, nat_tests)

module _ {X : Type 0} (content_of : List ℕ → Result X ℕ) (k : Kind) (P : X → Type 0) (read : (bytes : List ℕ) (x : X) → AreBytes bytes → content_of bytes ≡ Ok x → P x) (image : Image) (d : ℕ) (whole : IsWholeImage image) (large : 4096 ≤ image.size d) where
  held_valid : (slot : ℕ) (r : Stamped X) → slot < 2 → held content_of k (slot_of k slot (image.sector d)) ≡ Some r → P r.value
  held_valid slot r low is =
      let from = from_held content_of (record_in k (slot_of k slot (image.sector d))) r is in
      let inside : slot_start k slot + slot_size k ≤ 4096 = in_area k slot low in
      read from.0.content r.value
      (content_bytes k (slot_of k slot (image.sector d)) from.0
      (bytes-joined (image.sector d) (slot_start k slot) (slot_size k) (λ s from_first within. (whole d s (omega (arith, inside, within, large))).bytes)) from.1)
      from.2

  newest_valid : (r : Stamped X) → newest_on content_of k (image.sector d) ≡ Some r → P r.value
  newest_valid r is = ⊎_elim (λ first. held_valid 0 r (omega arith) first) (λ second. held_valid 1 r (omega arith) second) (of_two (held content_of k (slot_of k 0 (image.sector d))) (held content_of k (slot_of k 1 (image.sector d))) r is)

shown_valid : {X : Type 0} (content_of : List ℕ → Result X ℕ) (k : Kind) (P : X → Type 0) → ((bytes : List ℕ) (x : X) → AreBytes bytes → content_of bytes ≡ Ok x → P x)
    → (image : Image) (d : ℕ) (r : Stamped X) → IsWholeImage image → newest_at content_of k image d ≡ Some r → P r.value
shown_valid content_of k P read image d r whole is =
    let has = passed_if (has_records image d) (newest_on content_of k (image.sector d)) r is in
    newest_valid content_of k P read image d whole (has_large d image.disks (image.size d) has.0) r has.1

pub descriptors_valid : DescriptorsAreValid
unfolding descriptor_on
descriptors_valid image d r whole is = shown_valid descriptor_of kind.Descriptor _ (λ bytes x fit read. (read_is_spelled bytes x fit read).valid) image d r whole is

pub statuses_valid : StatusesAreValid
unfolding status_on
statuses_valid image d r whole is = shown_valid status_of kind.Status _ (λ bytes x fit read. (is_read bytes x fit read).valid) image d r whole is
