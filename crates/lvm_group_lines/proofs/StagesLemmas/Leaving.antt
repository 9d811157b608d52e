-- The stage behind a line that left its session where it was.
use Rattle.std.proofs.Common.{◌≡◌, Bool, true, false, refl, sym, ◌∙◌, ap, subst}
use Rattle.lvm_disk.specs.Device.{Device}
use Rattle.lvm_session.specs.declared.open.Power.{Power}
use Rattle.lvm_session.specs.declared.open.Power.TheVariants as power
use Rattle.lvm_group_lines.specs.Replies.{IsStuck, is_unheard}
use Rattle.lvm_group_lines.specs.Stages.{ComesTo, IsBetweenStage, IsCarriedOn, IsLeftBy, IsOnIn}
use Rattle.lvm_group_lines.specs.declared.holder.Holder.{Holder}
use Rattle.lvm_group_lines.specs.declared.holder.Holder.TheVariants as holder
use Rattle.lvm_group_lines.specs.declared.reply.Reply.{Reply}
use Rattle.lvm_group_lines.specs.declared.stage.Stage.{Stage}

-- something was heard, so it isn't the answer that nothing was
pub heard_so : (answer : Reply) → is_unheard answer ≡ false → IsStuck answer → ⊥
heard_so answer heard stuck = let e : true ≡ false = sym (ap is_unheard stuck) ∙ heard in cc e

-- the stage with this holder
abbrev pub held_by : {S : Type 0} → Stage S → Holder S → Stage S
held_by stage h = record { holder = h; posts = stage.posts; bytes = stage.bytes }

module _ {S : Type 0} (device : S → Device) (stage : Stage S) (answer : Reply) (heard : is_unheard answer ≡ false) where
  on_with : (h : Holder S) → stage.holder ≡ h → IsOnIn h → ComesTo device false h stage.posts stage.bytes stage
  on_with (holder.Off shelf history) is on = ap (held_by stage) is
  on_with (holder.Empty driver) is on = ap (held_by stage) is
  on_with (holder.Serving driver) is on = subst (λ (p : Power). IsCarriedOn device driver stage.posts stage.bytes p stage) (sym on) (ap (held_by stage) is)

  -- it goes on as it is
  pub goes_so : (h : Holder S) → stage.holder ≡ h → IsOnIn h → IsLeftBy device stage answer stage
  goes_so h is on = record {
    comes = subst (λ (b : Bool). ComesTo device b stage.holder stage.posts stage.bytes stage) (sym heard)
        (subst (λ (it : Holder S). ComesTo device false it stage.posts stage.bytes stage) (sym is) (on_with h is on));
    rooms = λ entries rooms. rooms;
  }

  still_with : (h : Holder S) → stage.holder ≡ h → IsBetweenStage device (held_by stage h) → (left : Stage S) → ComesTo device false h stage.posts stage.bytes left → left ≡ stage
  still_with (holder.Off shelf history) is between left comes = comes ∙ sym (ap (held_by stage) is)
  still_with (holder.Empty driver) is between left comes = comes ∙ sym (ap (held_by stage) is)
  still_with (holder.Serving driver) is between left comes =
      subst (λ (p : Power). IsCarriedOn device driver stage.posts stage.bytes p left) between.session.power comes ∙ sym (ap (held_by stage) is)

  -- between lines nothing becomes of it
  pub left_still : IsBetweenStage device stage → (left : Stage S) → IsLeftBy device stage answer left → left ≡ stage
  left_still between left its = still_with stage.holder refl between left (subst (λ (b : Bool). ComesTo device b stage.holder stage.posts stage.bytes left) heard its.comes)
