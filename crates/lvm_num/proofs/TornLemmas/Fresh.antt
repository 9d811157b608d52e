-- When a stamp is new in a slot.
use Rattle.std.proofs.Common.{◌≡◌, ⊎_elim, inl, inr, ℕ, ◌+◌, ◌≤◌, true, false, List, length, take, drop, sym, ap, ◌∙◌, arith}
use Rattle.std.specs.Int.{w32, w64, from_be_bytes}
use Rattle.std.proofs.lemmas.Bool.{cases_lt}
use Rattle.std.proofs.lemmas.List.{take-append-le, drop-append-le, length-drop}
use Rattle.std.proofs.lemmas.Nat.{from_be_bytes-to_be_bytes_4, from_be_bytes-to_be_bytes_8}
use Rattle.lvm_num.specs.declared.record.Stamp.{Stamp}
use Rattle.lvm_num.specs.declared.record.Kind.{Kind}
use Rattle.lvm_num.specs.declared.record.Framed.{Framed}
use Rattle.lvm_num.specs.Record.{slot_size, record_sectors, frame, Frames, stamp_lt}
use Rattle.lvm_num.specs.Torn.{CarriesStamp, slot_at, stamp_of, BeforeIsFresh, BeforeIsOlder, BeforeIsKept}
use Rattle.lvm_num.proofs.RecordLemmas.Records.{enough}
use Rattle.lvm_num.proofs.TornLemmas.Torn.{frame-carries, sectors-fit, begins, slot-some, Reads, reads, front-length}
use Rattle.lvm_num.proofs.RecordLemmas.Newest.{not_itself}

-- the stamp that a sector carries stands in it
pub carried : (kind : Kind) (r : Framed) (sector : List ℕ) → Frames kind r → CarriesStamp kind r.stamp sector → stamp_of sector ≡ r.stamp
carried kind r sector frames has =
    let epoch : from_be_bytes w64 (take 8 (drop 8 sector)) ≡ r.stamp.epoch = ap (from_be_bytes w64) has.epoch ∙ from_be_bytes-to_be_bytes_8 r.stamp.epoch frames.epoch in
    let seq : from_be_bytes w32 (take 4 (drop 4 sector)) ≡ r.stamp.seq = ap (from_be_bytes w32) has.seq ∙ from_be_bytes-to_be_bytes_4 r.stamp.seq frames.seq in
    λ t. record { epoch = epoch t; seq = seq t }

pub before_is_fresh : BeforeIsFresh
before_is_fresh kind r first sectors frames before k lt has =
    let now : stamp_lt (stamp_of (sectors (first + k))) r.stamp ≡ true = before k (omega (arith, lt, sectors-fit kind (length r.content) frames.content)) has.magic in
    let same : stamp_of (sectors (first + k)) ≡ r.stamp = carried kind r (sectors (first + k)) frames has in
    absurd (differ (sym (not_itself r.stamp) ∙ ap (λ (s : Stamp). stamp_lt s r.stamp) (sym same) ∙ now))
  where
    differ : false ≡ true → ⊥
    differ e = absurd cc

pub before_is_kept : BeforeIsKept
before_is_kept kind r stamp first old new frames lower before torn k lt magic = elim (cases_lt k (record_sectors (length r.content))) [
  | inl less ↦ ⊎_elim
      (λ (h : new (first + k) ≡ old (first + k)). was h)
      (λ (h : new (first + k) ≡ frame kind r.stamp r.content k).
      ap (λ (s : Stamp). stamp_lt s stamp) (ap stamp_of h ∙ carried kind r (frame kind r.stamp r.content k) frames (frame-carries kind r.stamp r.content k)) ∙ lower)
      (torn.within k less)
  | inr most ↦ was (torn.behind k most lt)
]
  where
    was : new (first + k) ≡ old (first + k) → stamp_lt (stamp_of (new (first + k))) stamp ≡ true
    was h = ap (λ (x : List ℕ). stamp_lt (stamp_of x) stamp) h ∙ before k lt (ap (take 2) (sym h) ∙ magic)

pub before_is_older : BeforeIsOlder
before_is_older kind stamp first sectors are before s e =
    let is : Reads kind (slot_at kind first sectors) s = reads kind (slot_at kind first sectors) s e in
    let size : length (sectors (first + 0)) ≡ 512 = (are 0 (slot-some kind)).long in
    let now = begins sectors first (slot_size kind) (slot-some kind) in
    let part : (n m : ℕ) → m + n ≤ 512 → take n (drop m (slot_at kind first sectors)) ≡ take n (drop m (sectors (first + 0))) =
    (λ n m fits.
    ap (λ (x : List ℕ). take n (drop m x)) now
    ∙ ap (take n) (drop-append-le m (sectors (first + 0)) _ (omega (arith, size)))
    ∙ take-append-le n (drop m (sectors (first + 0))) _ (omega (arith, size, length-drop m (sectors (first + 0))))) in
    let epoch : s.stamp.epoch ≡ from_be_bytes w64 (take 8 (drop 8 (sectors (first + 0)))) = sym (ap (λ (x : Framed). x.stamp.epoch) is.announces) ∙ ap (from_be_bytes w64) (part 8 8 (omega arith)) in
    let seq : s.stamp.seq ≡ from_be_bytes w32 (take 4 (drop 4 (sectors (first + 0)))) = sym (ap (λ (x : Framed). x.stamp.seq) is.announces) ∙ ap (from_be_bytes w32) (part 4 4 (omega arith)) in
    let stamps : s.stamp ≡ stamp_of (sectors (first + 0)) = (λ t. record { epoch = epoch t; seq = seq t }) in
    let first-is : sectors (first + 0) ≡ frame kind s.stamp s.content 0 = front-length kind first sectors are s is 0 (omega (arith, enough (length s.content))) in
    ap (λ (x : Stamp). stamp_lt x stamp) stamps ∙ before 0 (slot-some kind) (ap (take 2) first-is ∙ (frame-carries kind s.stamp s.content 0).magic)
