-- A move of a session that is written out may be committed.
use Rattle.std.proofs.Common.{◌≡◌, ◌≢◌, ◌-◌, ℕ, zero, suc, true, Some, None, slice_get, refl, ap, arith}
use Rattle.lvm_num.specs.Bits.{has_bit}
use Rattle.lvm_num.specs.declared.descriptor.Mode.{Mode}
use Rattle.lvm_num.specs.declared.place.Pp.{Pp}
use Rattle.lvm_num.specs.Descriptor.{copies_of}
use Rattle.lvm_kept.specs.Examples.{member, mirror}
use Rattle.lvm_moved.specs.Moved.{MayStandOn}
use Rattle.lvm_session.specs.Judging.{is_move_done}
use Rattle.lvm_session.specs.Worked.{core_of, first_copy}
use Rattle.lvm_session.specs.WorkedMoves.{free_destination, moving_to, whole_move}
use Rattle.lvm_session.proofs.WorkedLemmas.Moved.{moves_are_sound}
use Rattle.lvm_move_keeps.specs.Worked.{MovesMayBeCommitted, moved_session}
use Rattle.lvm_move_keeps.proofs.MovedLemmas.{moved_has_moved}

move_is_done : (m : Mode) → is_move_done (core_of (whole_move m)) (moving_to 8 None) ≡ true
unfolding has_bit
move_is_done m = refl

-- the first copy stands on another disk
elsewhere : (m : Mode) (k : ℕ) (p : Pp) → slice_get (copies_of (mirror m) 0) k ≡ Some p → k ≢ 2 - 1 → p.disk ≢ free_destination.disk
elsewhere m zero p at other same =
    let it : first_copy ≡ p = cc at in
    let first : 0 ≡ p.disk = ap (λ (q : Pp). q.disk) it in
    let two : p.disk ≡ 2 = same in
    absurd (omega (arith, first, two))
elsewhere m (suc zero) p at other same = absurd (other refl)
elsewhere m (suc (suc k)) p at other same = absurd (cc at)

stands : (m : Mode) → MayStandOn (moved_session m).core.descriptor 1 0 2 free_destination
stands m = record {
  row = mirror m;
  volume = refl;
  within = omega arith;
  some = omega arith;
  copy = omega arith;
  free = refl;
  inside = (member 2, refl, omega arith);
  apart = elsewhere m;
}

pub moves_may_be_committed : MovesMayBeCommitted
moves_may_be_committed m =
    let sound = (moves_are_sound m).whole_is in
    record {
      sound = sound;
      done = record { on = refl; idle = refl; in_flight = refl; committed = refl; requests = tt; is_open = refl; done = move_is_done m; buffers = refl };
      moved = moved_has_moved (moved_session m).core.descriptor 1 0 2 free_destination sound.fitting.valid (stands m);
    }
