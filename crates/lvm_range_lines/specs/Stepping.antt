-- What `step` does.
use Rattle.std.specs.Prelude.{◌≡◌, ◌≢◌, ℕ, [], Some, None}
use Rattle.lvm_num.specs.Votes.{total_votes}
use Rattle.lvm_session.specs.declared.answers.Turned.{Turned}
use Rattle.lvm_session.specs.declared.answers.Turned.TheVariants as turned
use Rattle.lvm_session.specs.declared.open.Power.{Power}
use Rattle.lvm_session.specs.declared.open.Power.TheVariants as power
use Rattle.lvm_session.specs.Sound.{IsSound}
use Rattle.lvm_session.specs.State.{Core, State, votes_there}
use Rattle.lvm_group_lines.specs.passed.KeepsEvents.{LosesVotesByFaults}
use Rattle.lvm_group_lines.specs.passed.Tie.{RunsOn}
use Rattle.lvm_group_lines.specs.passed.Ranges.{SteppingEnds}
use Rattle.lvm_group_lines.specs.State.{ScriptState}
use Rattle.lvm_group_lines.specs.Replies.{IsRefused}
use Rattle.lvm_group_lines.specs.declared.reply.Reply.{Reply}
use Rattle.lvm_group_lines.specs.declared.reply.Refusal.TheVariants as refusal
use Rattle.lvm_group_lines.specs.declared.reply.Reply.TheVariants as reply
use Rattle.lvm_range_lines.specs.Leaving.{CarriesTo, session_over}

-- the reply where so many turns have moved, and the last one answered so
abbrev pub step_reply : ℕ → State → Turned → Reply
step_reply moved end turned.Moved = reply.Stepped moved
step_reply moved end turned.Idle = reply.Stepped moved
step_reply moved end turned.Dark = reply.Refused refusal.Dark
step_reply moved end turned.Off = reply.Refused (refusal.WentOff (votes_there end.core) (total_votes end.core.descriptor))

-- what a last turn that answered so has left of the session: the power is off, or the votes are lost
abbrev pub StopsAs : Turned → Power → Type 0
StopsAs turned.Moved left = Unit {0}
StopsAs turned.Idle left = Unit {0}
StopsAs turned.Dark left = left ≡ power.Dark
StopsAs turned.Off left = left ≡ power.Off

-- the turns of a session are made, and lose the votes by faults alone
pub record IsStepped (turns : ℕ) (core : Core) (old new : ScriptState) (answer : Reply) : Type 0 where
  pub end : State
  pub moved : ℕ
  pub how : Turned
  pub ends : SteppingEnds turns (session_over old core) end moved how
  pub stops : StopsAs how end.core.power
  pub votes : LosesVotesByFaults (session_over old core) end
  pub runs : RunsOn (session_over old core) end
  pub sound : IsSound end
  pub leaves : CarriesTo end old.posts old.last new
  pub says : answer ≡ step_reply moved end how

-- It is refused while no group is on. In a group without volumes nothing is under way, so no turn moves. Else the turns are made.
pub data StepDoes (turns : ℕ) (old new : ScriptState) (answer : Reply) : Type 0 where
  NoStepWhileOff : old.session ≡ None → IsRefused refusal.NoGroup answer old new → StepDoes turns old new answer
  NothingMoves : (core : Core) → old.session ≡ Some core → core.descriptor.lvs ≡ [] → answer ≡ reply.Stepped 0 → new ≡ old → StepDoes turns old new answer
  Steps : (core : Core) → old.session ≡ Some core → core.descriptor.lvs ≢ [] → IsStepped turns core old new answer → StepDoes turns old new answer
