-- How the commands of lines end.
use Rattle.std.proofs.Common.{◌≡◌, ◌≤◌, ℕ, sym, ap, subst, arith}
use Rattle.lvm_disk.specs.Device.{Device}
use Rattle.lvm_vol.specs.Log.{Log}
use Rattle.lvm_group_lines.specs.Ends.{CommandEnds, EndsUnasked}
use Rattle.lvm_group_lines.specs.Asking.{IsAsked}
use Rattle.lvm_group_lines.specs.Moments.{Role}
use Rattle.lvm_group_lines.specs.Replies.{IsRefused, most_refusals}
use Rattle.lvm_group_lines.specs.Stages.{IsBetweenStage, IsFittingStage, shelf_in, history_in, state_in}
use Rattle.lvm_group_lines.specs.State.{ScriptState, without_facts}
use Rattle.lvm_group_lines.specs.declared.reply.Refusal.{Refusal}
use Rattle.lvm_group_lines.specs.declared.reply.Reply.{Reply}
use Rattle.lvm_group_lines.specs.declared.reply.Reply.TheVariants as reply
use Rattle.lvm_group_lines.specs.declared.stage.Stage.{Stage}
use Rattle.lvm_group_lines.proofs.MomentsLemmas.Going.{same_goes, asked_goes}

-- a refusal is one
pub one_refused : (answer : Reply) (why : Refusal) → answer ≡ reply.Refused why → most_refusals answer ≤ 1
one_refused answer why says = subst (λ (a : Reply). most_refusals a ≤ 1) (sym says) (omega arith)

module _ {S : Type 0} (device : S → Device) (Does : Log → ScriptState → ScriptState → Reply → Type 0) (Orders : Type 0) (role : Role) where
  -- a command that ends so, from these stages and answers
  pub ends_as : (old was new is : Stage S) (answer says : Reply) (before after : ℕ) → old ≡ was → new ≡ is → answer ≡ says → CommandEnds device Does Orders role was is says before after → CommandEnds device Does Orders role old new answer before after
  ends_as old was new is answer says before after old_is new_is answer_is ends =
      subst (λ (s : Stage S). CommandEnds device Does Orders role s new answer before after) (sym old_is)
      (subst (λ (s : Stage S). CommandEnds device Does Orders role was s answer before after) (sym new_is)
      (subst (λ (a : Reply). CommandEnds device Does Orders role was is a before after) (sym answer_is) ends))

  -- so of one that doesn't ask the clock
  pub unasked_as : (old was new is : Stage S) (answer says : Reply) → old ≡ was → new ≡ is → answer ≡ says → EndsUnasked device Does Orders role was is says → EndsUnasked device Does Orders role old new answer
  unasked_as old was new is answer says old_is new_is answer_is ends = λ last. ends_as old was new is answer says last last old_is new_is answer_is (ends last)

  module _ (old new : Stage S) (answer : Reply) (fits : IsFittingStage old) (between : IsBetweenStage device old) (same : new ≡ old) (one : most_refusals answer ≤ 1) where
    rooms : without_facts (history_in new) ≡ without_facts (history_in old)
    rooms = ap (λ (s : Stage S). without_facts (history_in s)) same

    orders : (Orders → ⊥) → (device (shelf_in new)).orders ≡ (device (shelf_in old)).orders
    orders none = ap (λ (s : Stage S). (device (shelf_in s)).orders) same

    -- nothing changes
    pub still_ends : ((last : ℕ) → state_in device new last ≡ state_in device old last → Does (without_facts (history_in old)) (state_in device old last) (state_in device new last) answer) → EndsUnasked device Does Orders role old new answer
    still_ends does = λ last.
        let still = ap (λ (s : Stage S). state_in device s last) same in
        record {
          does = does last still;
          goes = same_goes (history_in old).run role answer (state_in device old last) (state_in device new last) between one still;
          rooms = rooms;
          fits = subst IsFittingStage (sym same) fits;
          orders = orders;
        }

    -- the clock alone was asked
    pub asked_ends : (before after : ℕ) → IsAsked (state_in device old before) (state_in device new after)
        → Does (without_facts (history_in old)) (state_in device old before) (state_in device new after) answer → CommandEnds device Does Orders role old new answer before after
    asked_ends before after asked does = record {
      does = does;
      goes = asked_goes (history_in old).run role answer (state_in device old before) (state_in device new after) between one asked;
      rooms = rooms;
      fits = subst IsFittingStage (sym same) fits;
      orders = orders;
    }

  -- a line is refused, and nothing changes
  pub refused_ends : (old new : Stage S) (answer : Reply) → IsFittingStage old → IsBetweenStage device old → new ≡ old → (why : Refusal) → answer ≡ reply.Refused why
      → ((last : ℕ) → IsRefused why answer (state_in device old last) (state_in device new last) → Does (without_facts (history_in old)) (state_in device old last) (state_in device new last) answer)
      → EndsUnasked device Does Orders role old new answer
  refused_ends old new answer fits between same why says does = still_ends old new answer fits between same (one_refused answer why says) (λ last still. does last (says, still))
