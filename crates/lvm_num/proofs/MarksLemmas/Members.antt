-- The rows of members, and how many partitions each disk has by them.
use Rattle.std.proofs.Common.{◌≡◌, ◌≢◌, inl, inr, ℕ, ◌+◌, ◌<◌, ◌≤◌, List, [], length, get_or, set, take, replicate, sym, ap, subst, ◌∙◌, arith}
use Rattle.std.specs.Prelude.{All}
use Rattle.std.proofs.lemmas.Bool.{cases_lt}
use Rattle.std.proofs.lemmas.List.{get_or-take, length-take-le, get_or_default, get_or-set_same, get_or-set_other, get_or-replicate, get_or_past, length-replicate}
use Rattle.std.proofs.lemmas.List.Elements.{All-more, All-replicate}
use Rattle.lvm_num.specs.declared.descriptor.PvRow.{PvRow}
use Rattle.lvm_num.specs.Descriptor.{IsMember, AreMembers}
use Rattle.lvm_num.specs.Marks.{AreCounts}
use Rattle.lvm_num.proofs.Pairs.{AllPairs-more}

-- no element of the first i is one of those behind
pub All-less : {X : Type 0} (P : X → Type 0) (xs : List X) (i : ℕ) → i < length xs → All P (take (i + 1) xs) → All P (take i xs)
All-less P xs i lt all k d k-lt =
    let size : length (take i xs) ≡ i = length-take-le i xs (omega arith) in
    let more : length (take (i + 1) xs) ≡ i + 1 = length-take-le (i + 1) xs (omega arith) in
    let is : get_or (take (i + 1) xs) k d ≡ get_or (take i xs) k d = get_or-take (i + 1) xs k d (omega arith) ∙ sym (get_or-take i xs k d (omega arith)) in
    subst P is (all k d (omega arith))

zeros-at : (n k : ℕ) → get_or (replicate {A = ℕ} n 0) k 0 ≡ 0
zeros-at n k = elim (cases_lt k n) [
  | inl less ↦ get_or-replicate n k 0 0 less
  | inr past ↦ get_or_past (replicate {A = ℕ} n 0) k 0 (omega (arith, length-replicate {A = ℕ} n 0))
]

pub counts-none : (n : ℕ) → AreCounts [] (replicate n 0)
counts-none n = record { members = λ k d lt. absurd (omega (arith, lt)); others = λ disk none. zeros-at n disk }

pub small-none : (n : ℕ) → All (λ count. count ≤ 1016) (replicate n 0)
small-none n = All-replicate (λ count. count ≤ 1016) n 0 (omega arith)

-- a disk that counts nothing has no member yet
unmet : (pvs : List PvRow) (i : ℕ) (counts : List ℕ) (disk : ℕ) → AreMembers (take i pvs) → AreCounts (take i pvs) counts → get_or counts disk 0 ≡ 0
    → (k : ℕ) (d : PvRow) → k < length (take i pvs) → (get_or (take i pvs) k d).disk ≢ disk
unmet pvs i counts disk old counted none k d lt same =
    let some = (old.each k d lt).a_partition in
    let here = counted.members k d lt in
    let there : get_or counts (get_or (take i pvs) k d).disk 0 ≡ 0 = ap (λ n. get_or counts n 0) same ∙ none in
    absurd (omega (arith, some, here, there))

pub members-more : (pvs : List PvRow) (i : ℕ) (counts : List ℕ) (e : PvRow) → i < length pvs
    → AreMembers (take i pvs) → AreCounts (take i pvs) counts → IsMember (get_or pvs i e) → get_or counts (get_or pvs i e).disk 0 ≡ 0
    → AreMembers (take (i + 1) pvs)
members-more pvs i counts e lt old counted here none = record {
  each = All-more IsMember pvs i e lt old.each here;
  disks_differ = AllPairs-more (λ (a b : PvRow). a.disk ≢ b.disk) pvs i e lt old.disks_differ
      (λ j less same.
      let size : length (take i pvs) ≡ i = length-take-le i pvs (omega arith) in
      unmet pvs i counts (get_or pvs i e).disk old counted none j e (omega arith) (ap (λ (r : PvRow). r.disk) (get_or-take i pvs j e less) ∙ same));
}

pub counts-more : (pvs : List PvRow) (i : ℕ) (counts : List ℕ) (e : PvRow) → i < length pvs
    → AreMembers (take i pvs) → AreCounts (take i pvs) counts → get_or counts (get_or pvs i e).disk 0 ≡ 0 → (get_or pvs i e).disk < length counts
    → AreCounts (take (i + 1) pvs) (set counts (get_or pvs i e).disk (get_or pvs i e).pps)
counts-more pvs i counts e lt old counted none within =
    let disk = (get_or pvs i e).disk in
    let pps = (get_or pvs i e).pps in
    record {
      members = All-more (λ (row : PvRow). get_or (set counts disk pps) row.disk 0 ≡ row.pps) pvs i e lt
          (λ k d k-lt. get_or-set_other counts disk (get_or (take i pvs) k d).disk pps 0 (unmet pvs i counts disk old counted none k d k-lt) ∙ counted.members k d k-lt)
          (get_or-set_same counts disk pps 0 within);
      others = λ other apart.
          let size : length (take (i + 1) pvs) ≡ i + 1 = length-take-le (i + 1) pvs (omega arith) in
          let here : disk ≢ other = λ same. apart i e (omega arith) (ap (λ (r : PvRow). r.disk) (get_or-take (i + 1) pvs i e (omega arith)) ∙ same) in
          get_or-set_other counts disk other pps 0 (λ same. here (sym same))
          ∙ counted.others other (All-less (λ (row : PvRow). row.disk ≢ other) pvs i lt apart);
    }

-- among members no earlier one is on a disk, which so counts nothing
pub counts-nothing : (pvs : List PvRow) (i : ℕ) (counts : List ℕ) (e : PvRow) → i < length pvs
    → AreMembers pvs → AreCounts (take i pvs) counts → get_or counts (get_or pvs i e).disk 0 ≡ 0
counts-nothing pvs i counts e lt all counted =
    counted.others (get_or pvs i e).disk (λ k d k-lt same.
    let size : length (take i pvs) ≡ i = length-take-le i pvs (omega arith) in
    let less : k < i = omega (arith, k-lt) in
    all.disks_differ k i e less lt
    (ap (λ (r : PvRow). r.disk) (get_or_default pvs k e d (omega arith) ∙ sym (get_or-take i pvs k d less)) ∙ same))
