-- A session that is closed.
use Rattle.std.proofs.Common.{◌≡◌, ⊎_elim, ◌<◌, ◌≤◌, ℕ, List, [], Some, refl, sym, ◌∙◌, ap, subst, arith}
use Rattle.std.specs.Prelude.{◌^◌}
use Rattle.std.specs.Global.{Vec}
use Rattle.lvm_num.specs.Buffer.{Buffer}
use Rattle.lvm_disk.specs.Device.{Device}
use Rattle.lvm_vol.specs.Log.{Log}
use Rattle.lvm_session.specs.State.{Core}
use Rattle.lvm_group_lines.specs.passed.Posts.{Post}
use Rattle.lvm_group_lines.specs.Groups.{VaryoffDoes, VariesOff}
use Rattle.lvm_group_lines.specs.Asking.{EndsSession}
use Rattle.lvm_group_lines.specs.Ends.{EndsUnasked}
use Rattle.lvm_group_lines.specs.Moments.{Aside}
use Rattle.lvm_group_lines.specs.Replies.{most_refusals}
use Rattle.lvm_group_lines.specs.Stages.{GivesBack, HaveRooms, IsBetweenStage, IsFittingStage, IsOn, history_in, posts_ended, session_in, shelf_in, state_in}
use Rattle.lvm_group_lines.specs.State.{without_facts}
use Rattle.lvm_group_lines.specs.declared.reply.Reply.{Reply}
use Rattle.lvm_group_lines.specs.declared.stage.Stage.{Stage}
use Rattle.lvm_group_lines.specs.declared.holder.Holder.TheVariants as holder
use Rattle.lvm_group_lines.specs.declared.reply.Reply.TheVariants as reply
use Rattle.lvm_group_lines.proofs.EndsLemmas.{unasked_as}
use Rattle.lvm_group_lines.proofs.MomentsLemmas.Going.{ended_goes}
use Rattle.lvm_group_lines.proofs.ShelvesLemmas.Ordering.{whose}
use Rattle.lvm_group_lines.proofs.Coming.{held}

module _ {S : Type 0} (device : S → Device) (old : Stage S) (fits : IsFittingStage old) (between : IsBetweenStage device old) (core : Core) (session : session_in old ≡ Some core) (none : core.requests ≡ [])
    (shelf : S) (log : Log) (posts : Vec Post) (bytes : Vec ℕ) (closed : GivesBack (device (shelf_in old)) (device shelf)) (kept : log ≡ history_in old) (ended : posts.items ≡ posts_ended (session_in old) old.posts.items)
    (rooms : (entries : ℕ) → HaveRooms entries old.posts old.bytes → HaveRooms entries posts bytes) where
  same_device : device shelf ≡ device (shelf_in old)
  same_device = ⊎_elim (λ same. same) (λ back. back ∙ ap (λ (l : List Buffer). record (device (shelf_in old)) { freed = l }) (sym between.lit.freed)) closed

  ends : (last : ℕ) → EndsSession (state_in device old last) (state_in device (held (holder.Off shelf log) posts bytes) last)
  ends last = record {
    same = ap (λ (d : Device). record { device = d; facts = log.facts }) same_device ∙ ap (λ (l : Log). record { device = device (shelf_in old); facts = l.facts }) kept;
    after = refl;
    posts = ended;
    clock = refl;
  }

  pub closed_ends : (new : Stage S) (name : List ℕ) (answer : Reply) → new ≡ held (holder.Off shelf log) posts bytes → IsOn name core → answer ≡ reply.Ok → EndsUnasked device (λ log. VaryoffDoes name) ⊥ Aside old new answer
  closed_ends new name answer is on says = unasked_as device (λ log. VaryoffDoes name) ⊥ Aside old old new (held (holder.Off shelf log) posts bytes) answer answer refl is refl (λ last. record {
    does = VariesOff core session on none (ends last) says;
    goes = ended_goes (history_in old).run Aside answer (state_in device old last) (state_in device (held (holder.Off shelf log) posts bytes) last) core session (ap (λ (l : Log). l.facts) (whose old.holder core session)) none between
        (subst (λ (a : Reply). most_refusals a ≤ 1) (sym says) (omega arith)) (ends last);
    rooms = ap without_facts kept;
    fits = let room = ap (λ (l : Log). l.room) kept in record { kind = tt; few = subst (λ (n : ℕ). n < 2 ^ 32) (sym room) fits.few; rooms = subst (λ (n : ℕ). HaveRooms n posts bytes) (sym room) (rooms (history_in old).room fits.rooms) };
    orders = λ nothing. ap (λ (d : Device). d.orders) same_device;
  })
