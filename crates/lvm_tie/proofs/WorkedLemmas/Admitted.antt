-- A session whose write is admitted is tied.
use Rattle.std.proofs.Common.{◌≡◌, ℕ, ◌<◌, ◌∷◌, Bool, true, false, ◌||◌, ◌==◌, [], append-nil, refl, sym, arith}
use Rattle.std.proofs.lemmas.Bool.Decides.{nat_tests}
use Rattle.lvm_num.specs.declared.descriptor.Mode.{Mode}
use Rattle.lvm_num.specs.declared.descriptor.Mode.TheVariants.{Active, Passive, Off}
use Rattle.std.specs.Prelude.{AllPairs, if◌then◌else◌}
use Rattle.std.proofs.lemmas.List.Elements.{All-nil, All-cons}
use Rattle.std.proofs.lemmas.List.Kept.{AllPairs-cons}
use Rattle.lvm_num.specs.declared.status.Status.{Status}
use Rattle.lvm_num.specs.declared.status.StatusRow.{StatusRow}
use Rattle.lvm_num.specs.Status.{IsStatusRow, IsVolumeNumber, IsValidStatus}
use Rattle.lvm_kept.specs.Examples.{row_of}
use Rattle.lvm_num.specs.Bits.{has_bit}
use Rattle.lvm_num.specs.Disks.{has}
use Rattle.lvm_num.specs.Votes.{votes_by}
use Rattle.lvm_num.proofs.Booleans.{not_so, not_either}
use Rattle.lvm_path.specs.declared.facts.Next.TheVariants as next
use Rattle.lvm_session.specs.Judging.{next_for}
use Rattle.lvm_session.specs.State.{State}
use Rattle.lvm_status.specs.Calls.{BecomesDirty}
use Rattle.lvm_session.specs.Calls.{new_open}
use Rattle.lvm_session.specs.Events.{Admits}
use Rattle.lvm_keeps_events.proofs.KeepsLemmas.Admission.{admission_keeps}
use Rattle.lvm_session.specs.Sound.{IsSound}
use Rattle.lvm_tie.specs.Tied.{IsTied}
use Rattle.lvm_tie.proofs.RequestsLemmas.AdmitTies.{admit_ties}
use Rattle.lvm_tie.specs.Worked.{making, a_write, waiting, table, targets, admitted, marked, AdmittedAreTied}
use Rattle.lvm_tie.proofs.WorkedLemmas.Waiting.{waiting_are_tied, still_sound}

next_is : (mode : Mode) (stale : Bool) → next_for (waiting mode stale).core (new_open 1 0 a_write 0) ≡ next.Admit
unfolding votes_by has_bit has
next_is mode true = refl
next_is mode false = refl

active : (stale : Bool) → Admits (waiting Active stale) (admitted Active stale) 0
unfolding votes_by has_bit has
active stale = record { request = new_open 1 0 a_write 0; there = refl; admits = next_is Active stale; targets = targets Active stale; order = []; chosen = (sym (append-nil (targets Active stale)), refl); dirty = refl; is = refl }

passive : Admits (waiting Passive true) (admitted Passive true) 0
unfolding votes_by has_bit has
passive = record { request = new_open 1 0 a_write 0; there = refl; admits = next_is Passive true; targets = targets Passive true; order = []; chosen = (refl, refl); dirty = refl; is = refl }

off : (stale : Bool) → Admits (waiting Off stale) (admitted Off stale) 0
unfolding votes_by has_bit has
off stale = record { request = new_open 1 0 a_write 0; there = refl; admits = next_is Off stale; targets = targets Off stale; order = []; chosen = (sym (append-nil (targets Off stale)), refl); dirty = refl; is = refl }

-- the status that is wanted is one that a record may state
abbrev pub dirty_table : Status
dirty_table = marked.core.status.wanted

rows_rise : AllPairs (λ (a b : StatusRow). a.disk < b.disk) dirty_table.rows
rows_rise = AllPairs-cons (λ (a b : StatusRow). a.disk < b.disk) (row_of 0 false) (row_of 1 false ∷ []) (All-cons (λ (b : StatusRow). 0 < b.disk) (row_of 1 false) [] (omega arith) (All-nil (λ (b : StatusRow). 0 < b.disk)))
    (λ i j d lt within. absurd (omega (arith, lt, within)))

pub valid : IsValidStatus dirty_table
valid = record {
  some_id = λ e. omega (arith, e);
  id = omega arith;
  a_row = omega arith;
  rows_fit = omega arith;
  rows = record {
    each = All-cons IsStatusRow (row_of 0 false) (row_of 1 false ∷ []) (record { disk = omega arith; size = refl }) (All-cons IsStatusRow (row_of 1 false) [] (record { disk = omega arith; size = refl }) (All-nil IsStatusRow));
    disks_rise = rows_rise;
  };
  dirty = record { each = All-cons IsVolumeNumber 1 [] (record { least = omega arith; most = omega arith }) (All-nil IsVolumeNumber); numbers_rise = λ i j d lt within. absurd (omega (arith, lt, within)) };
}

becomes_dirty : BecomesDirty 1 true (table Passive false) marked.core.status.wanted
becomes_dirty = record { members = record { id = refl; big = refl; disks = refl; valid = valid }; stale = λ pp. refl; missing = λ disk. refl; dirty = λ number. by (number == 1) (1 == number) (swapped number 1) }
  where
    swapped : (n m : ℕ) → (n == m) ≡ (m == n)
    swapped n m = grind (arith, nat_tests)

    by : (a b : Bool) → a ≡ b → b || false ≡ (if a then true else false)
    by true true e = refl
    by false false e = refl
    by true false e = not_either e
    by false true e = not_so e

dirty : Admits (waiting Passive false) marked 0
unfolding votes_by has_bit has
dirty = record {
  request = new_open 1 0 a_write 0;
  there = refl;
  admits = next_is Passive false;
  targets = targets Passive false;
  order = [];
  chosen = (refl, refl);
  dirty = record { wants = becomes_dirty; rest = refl };
  is = refl;
}

module _ (mode : Mode) (stale : Bool) (new : State) (admits : Admits (waiting mode stale) new 0) where
  pub is_sound : IsSound new
  is_sound = admission_keeps 0 (waiting mode stale) new (still_sound mode stale) refl admits

  ties : IsTied (making mode) new
  ties = admit_ties 0 (making mode) (waiting mode stale) new (waiting_are_tied mode stale) is_sound admits

pub off_is_sound : (stale : Bool) → IsSound (admitted Off stale)
off_is_sound stale = is_sound Off stale (admitted Off stale) (off stale)

pub marked_is_sound : IsSound marked
marked_is_sound = is_sound Passive false marked dirty

pub admitted_are_tied : AdmittedAreTied
admitted_are_tied = record { active = λ stale. ties Active stale (admitted Active stale) (active stale); passive = ties Passive true (admitted Passive true) passive; dirty = ties Passive false marked dirty; off = λ stale. ties Off stale (admitted Off stale) (off stale) }
