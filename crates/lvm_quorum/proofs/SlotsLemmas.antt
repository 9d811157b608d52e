-- What the bytes of a disk's slots hold.
use Rattle.std.proofs.Common.{◌≡◌, ℕ, List, Option, Some, None, Result, IfSome, ◌∙◌, ap}
use Rattle.std.specs.Prelude.{option_and_then}
use Rattle.lvm_num.specs.declared.record.Framed.{Framed}
use Rattle.lvm_num.specs.declared.record.Kind.{Kind}
use Rattle.lvm_num.specs.Record.{Stamped, record_in, newer}
use Rattle.lvm_transfer.specs.passed.Rec.{held, read_under, slot_of, Found, Latest}
use Rattle.lvm_transfer.specs.passed.Disk.{Media}
use Rattle.lvm_quorum.specs.Reading.{home_of, under, stamped_found, IsLatestOn}

-- what slots of the same record hold is the same
pub held_same : {X : Type 0} (content_of : List ℕ → Result X ℕ) (k : Kind) (some all : List ℕ) → record_in k some ≡ record_in k all → held content_of k some ≡ held content_of k all
held_same content_of k some all same = ap (λ (o : Option Framed). option_and_then (λ r. read_under r.stamp (content_of r.content)) o) same

-- what the newer of the records in both slots is
pub latest_is : {X : Type 0} (content_of : List ℕ → Result X ℕ) (k : Kind) (o : Option Media) (disk : ℕ) (first second : Option (Found X)) (latest : Latest X)
    → IfSome o (λ m. stamped_found first ≡ held content_of k (slot_of k 0 (m disk))) → IfSome o (λ m. stamped_found second ≡ held content_of k (slot_of k 1 (m disk)))
    → under latest.value latest.stamp ≡ newer (stamped_found first) (stamped_found second) → latest.home ≡ home_of (stamped_found first) (stamped_found second)
    → IfSome o (λ m. IsLatestOn content_of k (m disk) latest)
latest_is content_of k None disk first second latest a b newest home = tt
latest_is {X} content_of k (Some m) disk first second latest a b newest home = record {
  newest = newest ∙ ap (λ (x : Option (Stamped X)). newer x (stamped_found second)) a ∙ ap (λ (x : Option (Stamped X)). newer (held content_of k (slot_of k 0 (m disk))) x) b;
  home = home ∙ ap (λ (x : Option (Stamped X)). home_of x (stamped_found second)) a ∙ ap (λ (x : Option (Stamped X)). home_of (held content_of k (slot_of k 0 (m disk))) x) b;
}
