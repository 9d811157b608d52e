-- What the history says of the requests that a session knows.
use Rattle.std.specs.Prelude.{◌≡◌, ℕ, false, ◌==◌, List, Option, Some, IsTrue, IsFalse}
use Rattle.std.specs.List.{list_any}
use Rattle.lvm_vol.specs.declared.entry.Vol.TheVariants.{Lv}
use Rattle.lvm_vol.specs.Facts.{Request, Fact, Begun, IsInList, same_request, is_over, block_of}
use Rattle.lvm_vol.specs.Legal.{lands, takes, Legal}
use Rattle.lvm_invariant.specs.State.{Queued, covers, has_landed}

-- the history's request goes over the blocks of this one, and a write brings its values
pub record IsRequestOf (q : Request) (r : Queued) : Type 0 where
  pub vol : q.vol ≡ Lv r.lv
  pub over : (lv b : ℕ) → is_over q (Lv lv) b ≡ covers r lv b
  pub write : q.write ≡ r.write
  pub value : (lv b : ℕ) → IsTrue r.write → IsTrue (covers r lv b) → block_of q.blocks q.at b ≡ r.value b

-- The history is legal, and each request in the queue that is no step of a copy began in it, landed if it has landed, and isn't taken.
pub record Told (queue : ℕ → Option Queued) (name : ℕ → Request) (facts : List Fact) : Type 0 where
  pub legal : Legal facts
  pub same : (i : ℕ) (r : Queued) → queue i ≡ Some r → IsFalse r.step → IsRequestOf (name i) r
  pub began : (i : ℕ) (r : Queued) → queue i ≡ Some r → IsFalse r.step → IsInList (Begun (name i)) facts
  pub ended : (i : ℕ) (r : Queued) → queue i ≡ Some r → IsFalse r.step → list_any (lands (name i)) facts ≡ has_landed r.phase
  pub untaken : (i : ℕ) (r : Queued) → queue i ≡ Some r → IsFalse r.step → list_any (takes (name i)) facts ≡ false
  pub apart : (i j : ℕ) (r e : Queued) → queue i ≡ Some r → queue j ≡ Some e → IsFalse r.step → IsFalse e.step → IsFalse (j == i) → IsFalse (same_request (name j) (name i))
  -- a step of a copy reads
  pub steps_read : (i : ℕ) (r : Queued) → queue i ≡ Some r → IsTrue r.step → IsFalse r.write
