-- Why requests landed as they did, and why the session is off.
use Rattle.std.proofs.Common.{ℕ, Bool, true, false, List, [], ◌∷◌, Some}
use Rattle.std.specs.Prelude.{IfSome, find, if◌then◌else◌}
use Rattle.std.specs.List.{AllByRecursion}
use Rattle.lvm_session.specs.State.{State}
use Rattle.lvm_session.specs.Calls.{is_asked}
use Rattle.lvm_session.specs.Causes.{IsAnswered}
use Rattle.lvm_session.specs.Sound.{IsSound}
use Rattle.lvm_keeps.proofs.KeepsLemmas.Losing.{loss_is_caused}
use Rattle.lvm_driver.specs.Answers.{IsCausedFor, IsOffSince}

-- what holds of each holds of the first that passes
pub find_all : {A : Type 0} (P : A → Type 0) (test : A → Bool) (xs : List A) → AllByRecursion P xs → IfSome (find test xs) P
find_all P test [] all = tt
find_all P test (x ∷ xs) all = by (test x) (find_all P test xs all.1)
  where
    by : (b : Bool) → IfSome (find test xs) P → IfSome (if b then Some x else find test xs) P
    by true rest = all.0
    by false rest = rest

pub is_caused : (s : State) (client id : ℕ) → IsSound s → IsCausedFor s client id
is_caused s client id sound = find_all (IsAnswered s) (is_asked client id) s.core.requests sound.answered

pub is_off : (s : State) → IsSound s → IsOffSince s
is_off s sound off = (sound.off off, loss_is_caused s sound (sound.off off))
