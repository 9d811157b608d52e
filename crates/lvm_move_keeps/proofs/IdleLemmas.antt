-- A copy of which all is copied rests.
use Rattle.std.proofs.Common.{◌≡◌, ◌&&◌, ◌+◌, Bool, true, false, not, if◌then◌else◌, Some, None, refl, sym, ap, ◌∙◌}
use Rattle.std.specs.Option.{option_map_or}
use Rattle.lvm_num.proofs.Booleans.{not_so}
use Rattle.lvm_session.specs.declared.bringing.OpenCopy.{OpenCopy}
use Rattle.lvm_session.specs.declared.bringing.Step.{Step}
use Rattle.lvm_session.specs.declared.bringing.Step.TheVariants as step
use Rattle.lvm_session.specs.Bringing.{hand_of, is_idle, is_out, is_whole}
use Rattle.lvm_session.specs.Judging.{is_move_done, is_running, stays_fresh}
use Rattle.lvm_session.specs.Left.{copy_updates, if_so}
use Rattle.lvm_session.specs.Sound.{IsCopy}
use Rattle.lvm_session.specs.State.{Core}
use Rattle.lvm_keeps.proofs.Small.{both}

-- what a move that is done is
pub record IsWholeMove (core : Core) (c : OpenCopy) : Type 0 where
  pub moves : c.moves ≡ true
  pub runs : is_running c ≡ true
  pub whole : is_whole core c ≡ true
  pub fresh : stays_fresh core c.pp ≡ true

pub whole_move : (core : Core) (c : OpenCopy) → is_move_done core c ≡ true → IsWholeMove core c
whole_move core c done =
    let a = both (c.moves && is_running c && is_whole core c) (stays_fresh core c.pp) (both (c.moves && is_running c && is_whole core c && stays_fresh core c.pp) _ done).0 in
    let b = both (c.moves && is_running c) (is_whole core c) a.0 in
    let d = both c.moves (is_running c) b.0 in
    record { moves = d.0; runs = d.1; whole = b.1; fresh = a.1 }

module _ (core : Core) (c : OpenCopy) (its : IsCopy core c) (runs : is_running c ≡ true) (whole : is_whole core c ≡ true) where
  -- no step of it is under way
  idle_step : is_idle c.step ≡ true
  idle_step = by (is_idle c.step) refl
    where
      by : (b : Bool) → is_idle c.step ≡ b → is_idle c.step ≡ true
      by true e = e
      by false e = not_so (sym (its.under_way runs e) ∙ whole)

  pub rests : is_out c.step ≡ false
  rests = by c.step idle_step
    where
      by : (at : Step) → is_idle at ≡ true → is_out at ≡ false
      by step.Idle e = refl
      by (step.Reading source) e = not_so e
      by (step.Read buf) e = refl
      by step.Writing e = not_so e

  pub no_hand : hand_of c.step ≡ None
  no_hand = by c.step idle_step
    where
      by : (at : Step) → is_idle at ≡ true → hand_of at ≡ None
      by step.Idle e = refl
      by (step.Reading source) e = refl
      by (step.Read buf) e = not_so e
      by step.Writing e = refl

-- its commit and its clearing are counted among the updates that may follow
pub copy_is_two : (core : Core) (c : OpenCopy) → core.copy ≡ Some c → IsWholeMove core c → option_map_or (copy_updates core) core.copy 0 ≡ 2
copy_is_two core c is_open move = ap (λ m. option_map_or (copy_updates core) m 0) is_open
    ∙ ap (λ b. if not b then 0 else (if is_whole core c then 1 else 2) + if_so c.moves 1) move.runs
    ∙ ap (λ b. (if b then 1 else 2) + if_so c.moves 1) move.whole
    ∙ ap (λ b. 1 + if_so b 1) move.moves
