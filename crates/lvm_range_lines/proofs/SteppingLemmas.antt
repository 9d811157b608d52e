-- The reply of turns.
use Rattle.std.proofs.Common.{◌≡◌, ◌≤◌, ℕ, false, refl, arith}
use Rattle.lvm_session.specs.declared.answers.Turned.{Turned}
use Rattle.lvm_session.specs.declared.answers.Turned.TheVariants as turned
use Rattle.lvm_session.specs.State.{State}
use Rattle.lvm_group_lines.specs.passed.Ranges.{AllMoved, LastEnded, SteppingEnds}
use Rattle.lvm_group_lines.specs.Replies.{is_unheard, most_refusals}
use Rattle.lvm_range_lines.specs.Stepping.{StopsAs, step_reply}

-- it is one refusal at most
pub step_few : (moved : ℕ) (end : State) (how : Turned) → most_refusals (step_reply moved end how) ≤ 1
step_few moved end turned.Moved = omega arith
step_few moved end turned.Idle = omega arith
step_few moved end turned.Dark = omega arith
step_few moved end turned.Off = omega arith

-- something was heard of it
pub step_heard : (moved : ℕ) (end : State) (how : Turned) → is_unheard (step_reply moved end how) ≡ false
step_heard moved end turned.Moved = refl
step_heard moved end turned.Idle = refl
step_heard moved end turned.Dark = refl
step_heard moved end turned.Off = refl

-- and the last turn tells of a session that is over
pub step_stops : (turns moved : ℕ) (old end : State) (how : Turned) → SteppingEnds turns old end moved how → StopsAs how end.core.power
step_stops turns moved old end turned.Moved ends = tt
step_stops turns moved old end turned.Idle ends = tt
step_stops turns moved old end turned.Dark (AllMoved all is moves) = absurd (cc is)
step_stops turns moved old end turned.Dark (LastEnded mid less moves makes tells still) = tells.power_is
step_stops turns moved old end turned.Off (AllMoved all is moves) = absurd (cc is)
step_stops turns moved old end turned.Off (LastEnded mid less moves makes tells still) = tells.power_is
