-- Requests by their numbers, and which of them conflict.
use Rattle.std.proofs.Common.{◌≡◌, ◌⊎◌, inl, inr, ⊎_elim, ℕ, ◌<◌, Bool, true, false, Option, Some, refl, sym, ap, subst, ◌∙◌, eqb-true, eq-eqb, eq-or-lt_of_le, ◌≤◌}
use Rattle.std.specs.Prelude.{IsTrue, IsFalse, ◌==◌, if◌then◌else◌}
use Rattle.std.proofs.lemmas.Bool.{cases_lt}
use Rattle.std.proofs.lemmas.Option.{same_Some}
use Rattle.lvm_num.specs.declared.place.Pp.{Pp}
use Rattle.lvm_invariant.specs.State.{Stage, ModelPhase, Held, Going, Queued, ModelState, covers, is_past, has_landed, Started}
use Rattle.lvm_invariant.specs.Sound.{Conflict, Sound}
use Rattle.lvm_invariant.specs.Updates.{put, staged}
use Rattle.lvm_num.specs.Descriptor.{is_pp}
use Rattle.lvm_num.proofs.DescriptorLemmas.Partitions.{one_partition}

pub one_req : {a b : Queued} → Some a ≡ Some b → a ≡ b
one_req h = cc

pub put_cases : (queue : ℕ → Option Queued) (i j : ℕ) (r e : Queued) → put queue i r j ≡ Some e → ((j ≡ i) × (r ≡ e)) ⊎ (IsFalse (j == i) × (queue j ≡ Some e))
put_cases queue i j r e h = by_test (j == i) refl h
  where
    by_test : (t : Bool) → (j == i) ≡ t → (if t then Some r else queue j) ≡ Some e → ((j ≡ i) × (r ≡ e)) ⊎ (IsFalse (j == i) × (queue j ≡ Some e))
    by_test true same k = inl (eqb-true _ _ same, same_Some r e k)
    by_test false same k = inr (same, k)

pub put_same : (queue : ℕ → Option Queued) (i : ℕ) (r : Queued) → put queue i r i ≡ Some r
put_same queue i r = ap (λ (t : Bool). if t then Some r else queue i) (eq-eqb i i refl)

-- of the writes that have started now, each is the changed request or had started before
module _ (s new : ModelState) (i : ℕ) (next : Queued) (same : new.queue ≡ put s.queue i next) where
  pub started_cases : (j : ℕ) (e : Queued) → Started new j e → ((j ≡ i) × (next ≡ e)) ⊎ (IsFalse (j == i) × Started s j e)
  started_cases j e started = elim (put_cases s.queue i j next e (ap (λ (q : ℕ → Option Queued). q j) (sym same) ∙ started.there)) [
    | inl is ↦ inl is
    | inr other ↦ inr (other.0, record { there = other.1; write = started.write; going = started.going })
  ]

  pub by_started : (P : Queued → ℕ → ℕ → Type 0) → ((lv b : ℕ) → IsTrue (covers next lv b) → P next lv b)
      → ((j lv b : ℕ) (e : Queued) → IsFalse (j == i) → Started s j e → IsTrue (covers e lv b) → P e lv b) → (j lv b : ℕ) (e : Queued) → Started new j e → IsTrue (covers e lv b) → P e lv b
  by_started P now before j lv b e started over = ⊎_elim
      (λ (is : (j ≡ i) × (next ≡ e)). subst (λ (q : Queued). P q lv b) is.1 (now lv b (ap (λ (q : Queued). covers q lv b) is.1 ∙ over)))
      (λ (old : IsFalse (j == i) × Started s j e). before j lv b e old.0 old.1 over)
      (started_cases j e started)

pub put_other : (queue : ℕ → Option Queued) (i j : ℕ) (r : Queued) → IsFalse (j == i) → put queue i r j ≡ queue j
put_other queue i j r h = ap (λ (t : Bool). if t then Some r else queue j) h

pub staged_cases : (targets : Pp → Option Stage) (c e : Pp) (stage x : Stage) → staged targets c stage e ≡ Some x → (stage ≡ x) ⊎ (targets e ≡ Some x)
staged_cases targets c e stage x h = by_test (is_pp e c) h
  where
    by_test : (t : Bool) → (if t then Some stage else targets e) ≡ Some x → (stage ≡ x) ⊎ (targets e ≡ Some x)
    by_test true k = inl (some_stage stage x k)
      where
        some_stage : (a b : Stage) → Some a ≡ Some b → a ≡ b
        some_stage a b q = cc
    by_test false k = inr k

-- what was a target at some stage, if the stage of one target changes
pub staged_was : (targets : Pp → Option Stage) (c e : Pp) (stage x : Stage) → staged targets c stage e ≡ Some x → (y : Stage) → targets c ≡ Some y → (z : Stage) × (targets e ≡ Some z)
staged_was targets c e stage x h y was = by_test (is_pp e c) refl h
  where
    by_test : (t : Bool) → is_pp e c ≡ t → (if t then Some stage else targets e) ≡ Some x → (z : Stage) × (targets e ≡ Some z)
    by_test true same k = (y, ap targets (one_partition e c same) ∙ was)
    by_test false same k = (x, k)

-- a target at this stage is the changed one, or was at it
pub staged_at : (targets : Pp → Option Stage) (c e : Pp) (stage x : Stage) → staged targets c stage e ≡ Some x → ((stage ≡ x) × (e ≡ c)) ⊎ (targets e ≡ Some x)
staged_at targets c e stage x h = by_test (is_pp e c) refl h
  where
    some_stage : (a b : Stage) → Some a ≡ Some b → a ≡ b
    some_stage a b q = cc

    by_test : (t : Bool) → is_pp e c ≡ t → (if t then Some stage else targets e) ≡ Some x → ((stage ≡ x) × (e ≡ c)) ⊎ (targets e ≡ Some x)
    by_test true same k = inl (some_stage stage x k, one_partition e c same)
    by_test false same k = inr k

-- each target is one still
pub staged_is : (targets : Pp → Option Stage) (c e : Pp) (stage x : Stage) → targets e ≡ Some x → (z : Stage) × (staged targets c stage e ≡ Some z)
staged_is targets c e stage x h = by_test (is_pp e c)
  where
    by_test : (t : Bool) → (z : Stage) × ((if t then Some stage else targets e) ≡ Some z)
    by_test true = (stage, refl)
    by_test false = (x, h)

pub past_not_landed : (p : ModelPhase) → IsTrue (is_past p) → IsTrue (has_landed p) → ⊥
past_not_landed Held past l = absurd cc
past_not_landed _ past l = absurd cc

pub past_of : (p q : ModelPhase) → p ≡ q → IsTrue (is_past q) → IsTrue (is_past p)
past_of p q e h = ap is_past e ∙ h

module _ (s : ModelState) (sound : Sound s) where
  -- of two requests that conflict one is past Held
  pub alone : (i j : ℕ) (r e : Queued) → s.queue i ≡ Some r → s.queue j ≡ Some e → IsTrue (is_past r.phase) → IsTrue (is_past e.phase) → Conflict r e → i ≡ j
  alone i j r e at_i at_j past_r past_e conflict = ⊎_elim
      (λ (low : i < j). absurd (past_not_landed r.phase past_r (sound.holds.order j i e r at_j at_i low conflict past_e)))
      (λ (rest : j ≤ i). ⊎_elim
      (λ (same : j ≡ i). sym same)
      (λ (low : j < i). absurd (past_not_landed e.phase past_e (sound.holds.order i j r e at_i at_j low (record { lv = conflict.lv; block = conflict.block; first = conflict.second; second = conflict.first; writes = ⊎_elim (λ (w : IsTrue r.write). inr w) (λ (w : IsTrue e.write). inl w) conflict.writes }) past_r)))
      (eq-or-lt_of_le rest))
      (cases_lt i j)

  -- of the writes that have started one goes over a block
  pub one_write : (i j lv b : ℕ) (r e : Queued) → Started s i r → Started s j e → IsTrue (covers r lv b) → IsTrue (covers e lv b) → i ≡ j
  one_write i j lv b r e a c over_r over_e = alone i j r e a.there c.there (past_of r.phase Going a.going refl) (past_of e.phase Going c.going refl)
      (record { lv = lv; block = b; first = over_r; second = over_e; writes = inl a.write })
