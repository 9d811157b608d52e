-- Where events are due in sessions that are written out.
use Rattle.std.proofs.Common.{◌≡◌, ℕ, zero, suc, false, [], ◌∷◌, Option, Some, None, slice_get, refl, sym, ◌∙◌, ap, arith}
use Rattle.lvm_num.specs.Bits.{has_bit}
use Rattle.lvm_num.proofs.Booleans.{not_either}
use Rattle.lvm_session.specs.declared.event.Event.{Event}
use Rattle.lvm_session.specs.declared.open.Open.{Open}
use Rattle.lvm_session.specs.Busy.{busy_core, got_read, half_written}
use Rattle.lvm_session.specs.Enabled.{admission_at, data_at, landing_at, note_at, pinning_at}
use Rattle.lvm_session.specs.Worked.{core_of, flying, flying_write}
use Rattle.lvm_due.specs.declared.span.Span.{Span}
use Rattle.lvm_due.specs.Spans.{is_in}
use Rattle.lvm_due.specs.Due.{any_fails, IsDue, NoneFailsAt}
use Rattle.lvm_due.specs.Worked.{DuesAreNarrow, nothing, nowhere}

module _ (make : ℕ → Open → Option Event) (s : Span) (x : Open) where
  one : (is_in s 0 ≡ false → make 0 x ≡ None) → (k : ℕ) (o : Open) → slice_get (x ∷ []) k ≡ Some o → is_in s k ≡ false → make k o ≡ None
  one first zero o there out = let its : x ≡ o = cc there in ap (make 0) (sym its) ∙ first out
  one first (suc k) o there out = absurd (cc there)

  two : (y : Open) → (is_in s 0 ≡ false → make 0 x ≡ None) → (is_in s 1 ≡ false → make 1 y ≡ None) → (k : ℕ) (o : Open) → slice_get (x ∷ y ∷ []) k ≡ Some o → is_in s k ≡ false → make k o ≡ None
  two y first second zero o there out = let its : x ≡ o = cc there in ap (make 0) (sym its) ∙ first out
  two y first second (suc zero) o there out = let its : y ≡ o = cc there in ap (make 1) (sym its) ∙ second out
  two y first second (suc (suc k)) o there out = absurd (cc there)

busy : IsDue busy_core (record nothing { landing = record { from = 1; to = 2 } })
unfolding has_bit
busy = record {
  unfailing = λ is. refl;
  landing = record { within = omega arith; none = two (landing_at busy_core) (record { from = 1; to = 2 }) half_written got_read (λ out. refl) (λ out. not_either out) };
  admission = record { within = omega arith; none = two (admission_at busy_core) nowhere half_written got_read (λ out. refl) (λ out. refl) };
  pinning = record { within = omega arith; none = two (pinning_at busy_core) nowhere half_written got_read (λ out. refl) (λ out. refl) };
  note = record { within = omega arith; none = two (note_at busy_core) nowhere half_written got_read (λ out. refl) (λ out. refl) };
  «data» = record { within = omega arith; none = two (data_at busy_core) nowhere half_written got_read (λ out. refl) (λ out. refl) };
}

writing : IsDue (core_of flying) (record nothing { «data» = record { from = 0; to = 1 } })
unfolding has_bit
writing = record {
  unfailing = λ is. refl;
  landing = record { within = omega arith; none = one (landing_at (core_of flying)) nowhere flying_write (λ out. refl) };
  admission = record { within = omega arith; none = one (admission_at (core_of flying)) nowhere flying_write (λ out. refl) };
  pinning = record { within = omega arith; none = one (pinning_at (core_of flying)) nowhere flying_write (λ out. refl) };
  note = record { within = omega arith; none = one (note_at (core_of flying)) nowhere flying_write (λ out. refl) };
  «data» = record { within = omega arith; none = one (data_at (core_of flying)) (record { from = 0; to = 1 }) flying_write (λ out. not_either out) };
}

quiet : NoneFailsAt (core_of flying) 0
unfolding has_bit
quiet = record {
  calm = record { copy = refl; flight = refl; same = refl };
  kept = λ o there. let its : flying_write ≡ o = cc there in ap (any_fails (core_of flying)) (sym its) ∙ refl;
}

pub narrow : DuesAreNarrow
narrow = record { busy = busy; writing = writing; quiet = quiet }
