-- The parts of a session as it begins.
use Rattle.std.proofs.Common.{◌≡◌, ℕ, zero, suc, ◌<◌, ◌≤◌, ◌+◌, ◌^◌, Bool, true, false, ◌&&◌, ◌||◌, ◌==◌, not, [], ◌∷◌, Some, None, refl, subst, arith}
use Rattle.std.specs.Prelude.{is_some, slice_index_or, option_and_then, if◌then◌else◌}
use Rattle.std.specs.List.{list_any}
use Rattle.std.proofs.lemmas.Option.{same_Some}
use Rattle.lvm_num.specs.declared.place.Pp.{Pp}
use Rattle.lvm_num.specs.declared.descriptor.Mode.{Mode}
use Rattle.lvm_num.specs.declared.descriptor.Mode.TheVariants.{Active, Passive, Off}
use Rattle.lvm_num.specs.declared.descriptor.PvRow.{PvRow}
use Rattle.lvm_num.specs.Bits.{has_bit}
use Rattle.lvm_num.specs.Disks.{has}
use Rattle.lvm_num.specs.Votes.{votes_by}
use Rattle.lvm_num.specs.Descriptor.{is_member}
use Rattle.lvm_num.specs.Geometry.{sectors_needed}
use Rattle.lvm_num.specs.Status.{calls_missing}
use Rattle.lvm_num.proofs.DisksLemmas.{has-zero}
use Rattle.lvm_num.proofs.Booleans.{not_either}
use Rattle.lvm_kept.specs.Examples.{member, two}
use Rattle.lvm_mwc.specs.declared.notes.DiskNotes.{DiskNotes}
use Rattle.lvm_mwc.specs.Cache.{has_disk, flight_on, no_notes}
use Rattle.lvm_status.specs.Update.{seen}
use Rattle.lvm_status.specs.Runs.{IsSoundStatus}
use Rattle.lvm_session.specs.State.{Core}
use Rattle.lvm_session.specs.Judging.{is_missing, is_stale}
use Rattle.lvm_session.specs.Marks.{is_among, can_replace, is_entailed}
use Rattle.lvm_crash.specs.Worked.{sizes}
use Rattle.lvm_invariant.specs.First.{first_copy, second_copy}
use Rattle.lvm_session.specs.Left.{updates_left}
use Rattle.lvm_session.specs.Placed.{IsPlaced, ArePlaced}
use Rattle.lvm_session.specs.Sound.{IsFitting, IsSound}
use Rattle.lvm_session.proofs.WorkedLemmas.Parts.{idle_is_sound, none_written, zeros_at}
use Rattle.lvm_session.proofs.WorkedLemmas.Whole.{no_entries}
use Rattle.lvm_keeps.specs.Begins.{IsUnused, HasFirstStatus, SessionBegins}
use Rattle.lvm_keeps.proofs.BeginsLemmas.{beginning_is_sound}
use Rattle.lvm_even.proofs.ExamplesLemmas.Examples.{valid}
use Rattle.lvm_tie.specs.Worked.{table, core_of, begun}

-- a disk of 8 MiB has room for 6 partitions of 1 MiB
room : (size : ℕ) → Some 16384 ≡ Some size → sectors_needed 1 6 ≤ size
room size e = let same : 16384 ≡ size = same_Some 16384 size e in omega (arith, same)

of_two : (k : ℕ) (row : PvRow) → k < 2 → slice_index_or (member 0 ∷ member 1 ∷ []) k row ≡ row → IsPlaced sizes 1 row
of_two zero row low is = subst (IsPlaced sizes 1) is (record { there = omega arith; within = λ size e. room size e })
of_two (suc zero) row low is = subst (IsPlaced sizes 1) is (record { there = omega arith; within = λ size e. room size e })
of_two (suc (suc k)) row low is = absurd (omega (arith, low))

module _ (mode : Mode) (stale : Bool) where
  abbrev core : Core
  core = core_of mode stale

  placed : ArePlaced sizes (two mode) (table mode stale)
  placed row one there = of_two one.0 row one.1 one.2

  -- ---- notes

  notes_fit : (disk : ℕ) → has_disk core.cache disk ≡ is_member (two mode) disk
  notes_fit disk = by (0 == disk) (1 == disk)
    where
      by : (a b : Bool) → is_some (if a then Some (no_notes 0) else if b then Some (no_notes 1) else None) ≡ a || (b || false)
      by true b = refl
      by false true = refl
      by false false = refl

  pub no_note_flies : (disk : ℕ) → flight_on core.cache disk ≡ None
  no_note_flies disk = by (0 == disk) (1 == disk)
    where
      by : (a b : Bool) → option_and_then (λ (n : DiskNotes). n.flight) (if a then Some (no_notes 0) else if b then Some (no_notes 1) else None) ≡ None
      by true b = refl
      by false true = refl
      by false false = refl

  -- ---- the status

  pub none_missing : (disk : ℕ) → calls_missing (table mode stale) disk ≡ false
  none_missing disk = by (0 == disk) (1 == disk)
    where
      by : (a b : Bool) → (a && false) || ((b && false) || false) ≡ false
      by true true = refl
      by true false = refl
      by false true = refl
      by false false = refl

  status : IsSoundStatus (seen core.status)
  unfolding votes_by has_bit has
  status = idle_is_sound (seen core.status) refl none_written refl (λ disk is. is)

  -- nothing is left to be wanted
  none_behind : (p : Pp) → is_entailed core p ≡ false
  none_behind p = by (is_among (first_copy ∷ second_copy ∷ []) p) (not (is_stale core p)) (is_missing core p.disk) (list_any (can_replace core) (first_copy ∷ second_copy ∷ [])) (none_missing p.disk)
    where
      by : (a b c d : Bool) → c ≡ false → a && b && c && d || false || false ≡ false
      by true true true d e = absurd (not_either e)
      by true true false d e = refl
      by true false c d e = refl
      by false b c d e = refl

  -- ---- all of them

  fitting : IsFitting core
  fitting = record {
    valid = valid mode;
    id = refl;
    rows = λ disk. refl;
    group = refl;
    entries = no_entries;
    notes = notes_fit;
    table = omega arith;
    most = omega arith;
    queue = refl;
    a_buffer = omega arith;
    buffers = omega arith;
    last = refl;
    room = omega arith;
  }

  unused : IsUnused core
  unused = record { requests = refl; rows = refl; copy = refl; pool = refl; flying = refl; entries = refl; started = λ disk. has-zero disk; notes = no_note_flies }

  calm : HasFirstStatus core
  calm = record { sound = status; committed = refl; wanted = refl; in_flight = refl }

numbers : (mode : Mode) (stale : Bool) → 2 + updates_left (core_of mode stale) < 2 ^ 32
unfolding has_bit has
numbers Active true = omega arith
numbers Active false = omega arith
numbers Passive true = omega arith
numbers Passive false = omega arith
numbers Off true = omega arith
numbers Off false = omega arith

begins : (mode : Mode) (stale : Bool) → SessionBegins (begun mode stale)
unfolding votes_by
begins mode stale = record {
  fitting = fitting mode stale;
  ordered = tt;
  landed = λ id. refl;
  unused = unused mode stale;
  calm = calm mode stale;
  power = refl;
  lit = record { power = refl; freed = refl };
  idle = refl;
  placed = placed mode stale;
  faults = λ disk. let none = zeros_at 128 disk in omega (arith, none);
  votes = refl;
  behind = none_behind mode stale;
  numbers = numbers mode stale;
}

pub is_sound : (mode : Mode) (stale : Bool) → IsSound (begun mode stale)
is_sound mode stale = beginning_is_sound (begun mode stale) (begins mode stale)
