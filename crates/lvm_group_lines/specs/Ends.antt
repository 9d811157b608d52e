-- How the commands of lines end.
use Rattle.std.specs.Prelude.{◌≡◌, ℕ}
use Rattle.lvm_disk.specs.Device.{Device}
use Rattle.lvm_vol.specs.Log.{Log}
use Rattle.lvm_group_lines.specs.Moments.{LineGoesOn, Role}
use Rattle.lvm_group_lines.specs.Stages.{IsFittingStage, shelf_in, history_in, state_in}
use Rattle.lvm_group_lines.specs.State.{ScriptState, without_facts}
use Rattle.lvm_group_lines.specs.declared.reply.Reply.{Reply}
use Rattle.lvm_group_lines.specs.declared.stage.Stage.{Stage}

-- how often nothing had ended is borne in one command
abbrev pub patience_of_line : ℕ
patience_of_line = 1000000

-- A command leads from one stage to another by what it does, what was kept goes on being kept, its parts go on to fit, and arrangements are as they were unless
-- it orders some.
pub record CommandEnds {S : Type 0} (device : S → Device) (Does : Log → ScriptState → ScriptState → Reply → Type 0) (Orders : Type 0) (role : Role) (old new : Stage S) (answer : Reply) (before after : ℕ) : Type 0 where
  pub does : Does (without_facts (history_in old)) (state_in device old before) (state_in device new after) answer
  pub goes : LineGoesOn (history_in old).run role answer (state_in device old before) (state_in device new after)
  pub rooms : without_facts (history_in new) ≡ without_facts (history_in old)
  pub fits : IsFittingStage new
  pub orders : (Orders → ⊥) → (device (shelf_in new)).orders ≡ (device (shelf_in old)).orders

-- So it does at whatever moment the clock stands, which isn't asked.
abbrev pub EndsUnasked : {S : Type 0} → (S → Device) → (Log → ScriptState → ScriptState → Reply → Type 0) → Type 0 → Role → Stage S → Stage S → Reply → Type 0
EndsUnasked device Does Orders role old new answer = (last : ℕ) → CommandEnds device Does Orders role old new answer last last
