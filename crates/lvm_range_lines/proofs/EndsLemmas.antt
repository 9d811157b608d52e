-- A line on a stage whose holder is looked at.
use Rattle.std.proofs.Common.{◌≡◌, ◌≤◌, ℕ, Option, None, false, refl, sym, ◌∙◌, ap, subst}
use Rattle.std.specs.Option.{option_map_or}
use Rattle.lvm_disk.specs.Device.{Device}
use Rattle.lvm_vol.specs.Log.{Log}
use Rattle.lvm_session.specs.declared.bringing.OpenCopy.{OpenCopy}
use Rattle.lvm_session.specs.Judging.{is_moving}
use Rattle.lvm_session.specs.State.{Core}
use Rattle.lvm_group_lines.specs.declared.holder.Holder.{Holder}
use Rattle.lvm_group_lines.specs.declared.reply.Refusal.{Refusal}
use Rattle.lvm_group_lines.specs.declared.reply.Reply.{Reply}
use Rattle.lvm_group_lines.specs.declared.stage.Stage.{Stage}
use Rattle.lvm_group_lines.specs.Ends.{EndsUnasked}
use Rattle.lvm_group_lines.specs.Moments.{OfRequests}
use Rattle.lvm_group_lines.specs.Replies.{IsRefused, most_refusals}
use Rattle.lvm_group_lines.specs.Stages.{IsBetweenStage, IsFittingStage, history_in, state_in}
use Rattle.lvm_group_lines.specs.State.{ScriptState, without_facts}
use Rattle.lvm_group_lines.specs.declared.reply.Reply.TheVariants as reply
use Rattle.lvm_group_lines.proofs.EndsLemmas.{refused_ends, still_ends, unasked_as}

-- where no copy is open none moves
pub none_moves : (core : Core) → core.copy ≡ None → is_moving core ≡ false
none_moves core none = ap (λ (m : Option OpenCopy). option_map_or (λ (c : OpenCopy). c.moves) m false) none

-- the stage with this holder
abbrev pub held_by : {S : Type 0} → Stage S → Holder S → Stage S
held_by stage h = record { holder = h; posts = stage.posts; bytes = stage.bytes }

module _ {S : Type 0} (device : S → Device) (Does : Log → ScriptState → ScriptState → Reply → Type 0) (stage : Stage S) (fits : IsFittingStage stage) (between : IsBetweenStage device stage) (h : Holder S) (is : stage.holder ≡ h) where
  stage_is : stage ≡ held_by stage h
  stage_is = ap (held_by stage) is

  pub fits_now : IsFittingStage (held_by stage h)
  fits_now = subst IsFittingStage stage_is fits

  pub between_now : IsBetweenStage device (held_by stage h)
  between_now = subst (IsBetweenStage device) stage_is between

  -- it is refused, and nothing changes
  pub refused_as : (new : Stage S) (answer : Reply) → new ≡ held_by stage h → (why : Refusal) → answer ≡ reply.Refused why
      → ((last : ℕ) → IsRefused why answer (state_in device stage last) (state_in device new last) → Does (without_facts (history_in stage)) (state_in device stage last) (state_in device new last) answer)
      → EndsUnasked device Does ⊥ OfRequests stage new answer
  refused_as new answer same why says does = refused_ends device Does ⊥ OfRequests stage new answer fits between (same ∙ sym stage_is) why says does

  -- it is answered, and nothing changes
  pub still_as : (new : Stage S) (answer : Reply) → new ≡ held_by stage h → most_refusals answer ≤ 1
      → ((last : ℕ) → state_in device new last ≡ state_in device stage last → Does (without_facts (history_in stage)) (state_in device stage last) (state_in device new last) answer)
      → EndsUnasked device Does ⊥ OfRequests stage new answer
  still_as new answer same one does = still_ends device Does ⊥ OfRequests stage new answer fits between (same ∙ sym stage_is) one does

  -- as it ends with this holder
  pub ends_with : (new : Stage S) (answer : Reply) → EndsUnasked device Does ⊥ OfRequests (held_by stage h) new answer → EndsUnasked device Does ⊥ OfRequests stage new answer
  ends_with new answer ends = unasked_as device Does ⊥ OfRequests stage (held_by stage h) new new answer answer stage_is refl refl ends
