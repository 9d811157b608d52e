-- The sessions as they come on are sound.
use Rattle.std.proofs.Common.{◌≡◌, ◌+◌, ◌<◌, ◌^◌, Bool, true, false, ◌&&◌, ◌||◌, not, [], ◌∷◌, refl, sym, subst, arith}
use Rattle.std.specs.List.{list_any}
use Rattle.lvm_num.specs.declared.place.Pp.{Pp}
use Rattle.lvm_num.specs.declared.descriptor.Mode.{Mode}
use Rattle.lvm_num.specs.declared.descriptor.Mode.TheVariants.{Active, Passive, Off}
use Rattle.lvm_num.specs.Bits.{has_bit}
use Rattle.lvm_num.specs.Buffer.{zero_sector}
use Rattle.lvm_num.specs.Disks.{has}
use Rattle.lvm_num.specs.Votes.{votes_by}
use Rattle.lvm_num.proofs.DisksLemmas.{has-zero}
use Rattle.lvm_num.specs.Descriptor.{is_pp}
use Rattle.lvm_status.specs.Update.{seen}
use Rattle.lvm_status.specs.Runs.{IsSoundStatus}
use Rattle.lvm_session.specs.State.{Core, State, state}
use Rattle.lvm_session.specs.Judging.{is_missing, is_stale}
use Rattle.lvm_session.specs.Marks.{can_replace, is_among}
use Rattle.lvm_session.specs.Left.{updates_left}
use Rattle.lvm_session.specs.Sound.{IsFitting, IsSound}
use Rattle.lvm_session.proofs.WorkedLemmas.Parts.{idle_is_sound, none_written, zeros_at}
use Rattle.lvm_keeps.specs.Begins.{SessionBegins, HasFirstStatus, IsUnused}
use Rattle.lvm_keeps.proofs.BeginsLemmas.{beginning_is_sound}
use Rattle.lvm_even.specs.Examples.{Pair, device_of, even_pair}
use Rattle.lvm_settled.specs.Examples.{IsSettledPair, core_of}
use Rattle.lvm_settled.proofs.ExamplesLemmas.Examples.{pairs_settle}
use Rattle.lvm_crash.proofs.WritingLemmas.{pp_same}

-- the copies of the logical partition
abbrev first_copy : Pp
first_copy = record { disk = 0; pp = 0 }

abbrev second_copy : Pp
second_copy = record { disk = 1; pp = 0 }

module _ (mode : Mode) (dirty lost : Bool) where
  abbrev pair : Pair
  pair = even_pair mode dirty lost zero_sector

  abbrev core : Core
  core = core_of pair

  abbrev s : State
  s = state (device_of pair) core

  settled : IsSettledPair core pair mode false
  settled = pairs_settle.first mode dirty lost false zero_sector

  fitting : IsFitting core
  fitting = let its = settled.known.sound.fitting in record {
    valid = its.valid;
    id = its.id;
    rows = its.rows;
    group = its.group;
    entries = its.entries;
    notes = its.notes;
    table = omega arith;
    most = its.most;
    queue = its.queue;
    a_buffer = its.a_buffer;
    buffers = its.buffers;
    last = its.last;
    room = omega arith;
  }

  unused : IsUnused core
  unused = record { requests = refl; rows = refl; copy = refl; pool = refl; flying = refl; entries = refl; started = λ disk. has-zero disk; notes = settled.known.settled.quiet.notes }

  status : IsSoundStatus (seen core.status)
  unfolding votes_by has_bit has
  status = idle_is_sound (seen core.status) refl none_written refl (λ disk is. is)

  calm : HasFirstStatus core
  calm = record { sound = status; committed = refl; wanted = refl; in_flight = refl }

  -- ---- nothing is entailed

  abbrev is_left : Pp → Bool
  is_left p = is_among (first_copy ∷ second_copy ∷ []) p && not (is_stale core p) && is_missing core p.disk && list_any (can_replace core) (first_copy ∷ second_copy ∷ []) || false || false

  not_missing : (p : Pp) → is_missing core p.disk ≡ false → is_left p ≡ false
  not_missing p there = by (is_among (first_copy ∷ second_copy ∷ []) p) (not (is_stale core p)) (is_missing core p.disk) (list_any (can_replace core) (first_copy ∷ second_copy ∷ [])) there
    where
      by : (a b c d : Bool) → c ≡ false → a && b && c && d || false || false ≡ false
      by true true true d e = absurd (cc e)
      by true true false d e = refl
      by true false c d e = refl
      by false b c d e = refl

  not_fresh : (p : Pp) → is_stale core p ≡ true → is_left p ≡ false
  not_fresh p stale = by (is_among (first_copy ∷ second_copy ∷ []) p) (is_stale core p) (is_missing core p.disk) (list_any (can_replace core) (first_copy ∷ second_copy ∷ [])) stale
    where
      by : (a b c d : Bool) → b ≡ true → a && not b && c && d || false || false ≡ false
      by true true c d e = refl
      by true false c d e = absurd (cc e)
      by false b c d e = refl

  no_copy : (p : Pp) → is_among (first_copy ∷ second_copy ∷ []) p ≡ false → is_left p ≡ false
  no_copy p none = by (is_among (first_copy ∷ second_copy ∷ []) p) (not (is_stale core p)) (is_missing core p.disk) (list_any (can_replace core) (first_copy ∷ second_copy ∷ [])) none
    where
      by : (a b c d : Bool) → a ≡ false → a && b && c && d || false || false ≡ false
      by true b c d e = absurd (cc e)
      by false b c d e = refl

-- the second copy is stale where its member is lost
second_stale : (mode : Mode) (dirty : Bool) → is_stale (core_of (even_pair mode dirty true zero_sector)) second_copy ≡ true
unfolding has_bit has
second_stale mode dirty = refl

second_left : (mode : Mode) (dirty lost : Bool) → is_left mode dirty lost second_copy ≡ false
second_left mode dirty true = not_fresh mode dirty true second_copy (second_stale mode dirty)
second_left mode dirty false = not_missing mode dirty false second_copy refl

none_left : (mode : Mode) (dirty lost : Bool) (p : Pp) → is_left mode dirty lost p ≡ false
none_left mode dirty lost p = by (is_pp p first_copy) (is_pp p second_copy) refl refl
  where
    by : (a b : Bool) → is_pp p first_copy ≡ a → is_pp p second_copy ≡ b → is_left mode dirty lost p ≡ false
    by true b e f = subst (λ (q : Pp). is_left mode dirty lost q ≡ false) (sym (pp_same p first_copy e)) (not_missing mode dirty lost first_copy refl)
    by false true e f = subst (λ (q : Pp). is_left mode dirty lost q ≡ false) (sym (pp_same p second_copy f)) (second_left mode dirty lost)
    by false false e f = no_copy mode dirty lost p (λ t. e t || (f t || false))

numbers : (mode : Mode) (dirty lost : Bool) → 2 + updates_left (core_of (even_pair mode dirty lost zero_sector)) < 2 ^ 32
unfolding has_bit has
numbers Active true true = omega arith
numbers Active true false = omega arith
numbers Active false true = omega arith
numbers Active false false = omega arith
numbers Passive true true = omega arith
numbers Passive true false = omega arith
numbers Passive false true = omega arith
numbers Passive false false = omega arith
numbers Off true true = omega arith
numbers Off true false = omega arith
numbers Off false true = omega arith
numbers Off false false = omega arith

begins : (mode : Mode) (dirty lost : Bool) → SessionBegins (s mode dirty lost)
begins mode dirty lost = let its = settled mode dirty lost in record {
  fitting = fitting mode dirty lost;
  ordered = (tt, tt);
  landed = its.known.sound.landed;
  unused = unused mode dirty lost;
  calm = calm mode dirty lost;
  power = refl;
  lit = record { power = refl; freed = refl };
  idle = refl;
  placed = its.known.sound.placed;
  faults = λ disk. let none = zeros_at 128 disk in omega (arith, none);
  votes = its.known.settled.votes;
  behind = none_left mode dirty lost;
  numbers = numbers mode dirty lost;
}

pub is_sound : (mode : Mode) (dirty lost : Bool) → IsSound (s mode dirty lost)
is_sound mode dirty lost = beginning_is_sound (s mode dirty lost) (begins mode dirty lost)
