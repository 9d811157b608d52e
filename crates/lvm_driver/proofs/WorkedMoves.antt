-- A copy of a mirrored volume may begin to move, and its move may be committed.
use Rattle.std.proofs.Common.{◌≡◌, ◌≢◌, ℕ, zero, suc, ◌&&◌, not, false, None, Some, slice_get, refl, subst, arith}
use Rattle.std.specs.Prelude.{◌==◌}
use Rattle.std.specs.List.{list_any}
use Rattle.lvm_num.specs.declared.descriptor.Mode.{Mode}
use Rattle.lvm_num.specs.declared.descriptor.Mode.TheVariants as mode
use Rattle.lvm_num.specs.declared.place.Pp.{Pp}
use Rattle.lvm_num.specs.Disks.{has}
use Rattle.lvm_num.specs.Votes.{votes_by}
use Rattle.lvm_num.specs.Bits.{has_bit}
use Rattle.lvm_num.specs.Descriptor.{is_pp}
use Rattle.lvm_session.specs.Calls.{move_fault}
use Rattle.lvm_session.specs.Enabled.{first_event, is_lost}
use Rattle.lvm_session.specs.Judging.{copies_in}
use Rattle.lvm_session.specs.Worked.{calm, core_of, mirrored, second_copy}
use Rattle.lvm_session.specs.WorkedMoves.{free_destination}
use Rattle.lvm_session.proofs.WorkedLemmas.Moved.{moves_are_sound}
use Rattle.lvm_keeps_events.specs.Opening.{IsApart}
use Rattle.lvm_move_keeps.specs.Worked.{moved_session}
use Rattle.lvm_driver.specs.Commits.{MirrorsMayCommit}
use Rattle.lvm_driver.specs.Moves.{MirrorsMayMove}

apart : (m : Mode) → IsApart (mirrored m) 1 0 2 free_destination
apart m from is =
    let same : second_copy ≡ from = cc is in
    subst (λ (p : Pp). list_any (λ (q : Pp). not (is_pp q p) && q.disk == 2) (copies_in (mirrored m) 1 0) ≡ false) same refl

others : (m : Mode) (k : ℕ) (p : Pp) → slice_get (copies_in (mirrored m) 1 0) k ≡ Some p → k ≢ 1 → p.disk ≢ 2
others m zero p at other on = let same : 0 ≡ p.disk = cc at in absurd (omega (arith, same, on))
others m (suc zero) p at other on = absurd (other refl)
others m (suc (suc k)) p at other on = absurd (cc at)

fine : (m : Mode) → move_fault (core_of (calm m)) 1 0 2 free_destination ≡ None
unfolding has_bit
fine m = refl

pub mirrors_may_move : MirrorsMayMove
mirrors_may_move m = record {
  still = refl;
  apart = apart m;
  fine = fine m;
  stands = record {
    row = _;
    volume = refl;
    within = omega arith;
    some = omega arith;
    copy = omega arith;
    free = refl;
    inside = (_, refl, omega arith);
    apart = others m;
  };
  ready = refl;
}

-- ---- the move is done

votes : (m : Mode) → is_lost (moved_session m).core ≡ false
unfolding votes_by has_bit has
votes m = refl

none_made : (m : Mode) → first_event (moved_session m).core ≡ None
unfolding votes_by has_bit has
none_made mode.Active = refl
none_made mode.Passive = refl
none_made mode.Off = refl

pub mirrors_may_commit : MirrorsMayCommit
mirrors_may_commit m =
    let moves = moves_are_sound m in
    record {
      sound = moves.whole_is;
      drained = record { on = refl; votes = votes m; none = none_made m; idle = refl };
      moves = refl;
      done = moves.done;
      epoch = λ none. omega (arith, none);
      ready = refl;
    }
