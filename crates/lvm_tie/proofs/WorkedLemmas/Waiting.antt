-- A session in which a write waits is tied.
use Rattle.std.proofs.Common.{ℕ, Bool, List, length, replicate, Ok, refl, sym, ap, arith}
use Rattle.std.proofs.lemmas.Option.{same_Some}
use Rattle.lvm_num.specs.declared.descriptor.Mode.{Mode}
use Rattle.lvm_num.proofs.Booleans.{not_so}
use Rattle.lvm_session.specs.Calls.{submitted, SubmitGives}
use Rattle.lvm_session.specs.Asking.{IsAsking, IsAwake}
use Rattle.lvm_session.specs.Sound.{IsSound}
use Rattle.lvm_keeps_events.proofs.SubmitKeepsLemmas.{submit_keeps}
use Rattle.lvm_tie.proofs.RequestsLemmas.SubmitTies.{submit_ties}
use Rattle.lvm_tie.specs.Worked.{making, core_of, begun, a_write, its_bytes, waiting, WaitingAreTied}
use Rattle.lvm_tie.proofs.WorkedLemmas.Parts.{is_sound}
use Rattle.lvm_tie.proofs.WorkedLemmas.Worked.{beginnings_are_tied}

asking : IsAsking a_write its_bytes
asking = record { group = record { some = omega arith; end = omega arith; group = omega arith; whole = λ e. not_so e }; write = refl; long = λ given is. ap (λ (l : List ℕ). length l) (same_Some given (replicate 512 1) (sym is)) }

module _ (mode : Mode) (stale : Bool) where
  gives : SubmitGives (core_of mode stale) (submitted (core_of mode stale) 0 a_write its_bytes) 0 a_write its_bytes (Ok 1)
  gives = (refl, refl)

  awake : IsAwake (core_of mode stale)
  awake = let sound = is_sound mode stale in record { fitting = sound.fitting; going = λ on. (sound.on on).going; unstuck = λ e. absurd cc }

  pub still_sound : IsSound (waiting mode stale)
  still_sound = submit_keeps (begun mode stale) (submitted (core_of mode stale) 0 a_write its_bytes) 0 a_write its_bytes (Ok 1) (is_sound mode stale) awake asking gives

pub waiting_are_tied : WaitingAreTied
waiting_are_tied mode stale =
    submit_ties (making mode) (begun mode stale) (submitted (core_of mode stale) 0 a_write its_bytes) 0 a_write its_bytes (Ok 1) (beginnings_are_tied mode stale) (still_sound mode stale) asking (gives mode stale)
