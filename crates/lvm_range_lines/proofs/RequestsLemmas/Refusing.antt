-- A range that isn't asked for.
use Rattle.std.proofs.Common.{◌≡◌, ◌≤◌, ℕ, List, Option, refl, sym, ◌∙◌, ap, subst, arith}
use Rattle.std.specs.Prelude.{Err}
use Rattle.std.specs.Global.{Vec}
use Rattle.lvm_disk.specs.Device.{Device}
use Rattle.lvm_vol.specs.Log.{Log}
use Rattle.lvm_session.specs.declared.open.Power.{Power}
use Rattle.lvm_session.specs.declared.open.Power.TheVariants as power
use Rattle.lvm_session.specs.Sound.{IsSound}
use Rattle.lvm_session.specs.State.{Core, state, state_of}
use Rattle.lvm_group_lines.specs.passed.Tie.{RunsOn}
use Rattle.lvm_posts.specs.declared.posts.Post.{Post}
use Rattle.lvm_group_lines.specs.passed.Ranges.{AskRangeGives}
use Rattle.lvm_group_lines.specs.declared.reply.Refusal.{Refusal}
use Rattle.lvm_group_lines.specs.declared.reply.Reply.{Reply}
use Rattle.lvm_group_lines.specs.declared.stage.Stage.{Stage}
use Rattle.lvm_group_lines.specs.Ends.{EndsUnasked}
use Rattle.lvm_group_lines.specs.Moments.{OfRequests}
use Rattle.lvm_group_lines.specs.Replies.{most_refusals}
use Rattle.lvm_group_lines.specs.Stages.{HaveRooms, IsBetweenStage, IsCarriedOn, IsFittingStage, state_in}
use Rattle.lvm_group_lines.specs.State.{ScriptState}
use Rattle.lvm_group_lines.specs.declared.reply.Refusal.TheVariants as refusal
use Rattle.lvm_group_lines.specs.declared.reply.Reply.TheVariants as reply
use Rattle.lvm_group_lines.proofs.passed.Tie.{goes_any, path_frames}
use Rattle.lvm_range_lines.specs.Leaving.{KeepsPosts, serving}
use Rattle.lvm_range_lines.specs.Refusals.{ask_refusal}
use Rattle.lvm_range_lines.specs.Requests.{AsksByName, HasNone, IsNotAsked, NotThere, OnVolume, Refuses, Takes, There}
use Rattle.lvm_range_lines.proofs.LeavingLemmas.Ending.{RunsTo, carried_ends, runs_to, unstuck}

module _ {S : Type 0} (device : S → Device) (first : S × Core) (posts : Vec Post) (bytes : Vec ℕ) (fits : IsFittingStage (serving first posts bytes)) (between : IsBetweenStage device (serving first posts bytes))
    (name : List ℕ) (write : Option ℕ) (at count : ℕ) (Happens : ScriptState → ScriptState → Reply → Core → ℕ → Type 0)
    (not_asked : (old new : ScriptState) (answer : Reply) (core : Core) (lv : ℕ) → IsNotAsked write lv at count core old new answer → Happens old new answer core lv)
    (mid : S × Core) (why : Refusal) (asks : AsksByName name write at count first.1 mid.1 (Err why)) (shelf : mid.0 ≡ first.0) (kept : KeepsPosts first.1 mid.1)
    (runs : RunsOn (state_of device first) (state_of device mid)) (on : mid.1.power ≡ power.On)
    (bytes1 : Vec ℕ) (rooms : HaveRooms first.1.history.room posts bytes1) (stage : Stage S) (answer : Reply) (is : answer ≡ reply.Refused why) (rooms_then : HaveRooms first.1.history.room stage.posts stage.bytes)
    (carried : IsCarriedOn device mid posts bytes1 mid.1.power stage) where
  abbrev Does : Log → ScriptState → ScriptState → Reply → Type 0
  Does log old new says = OnVolume name (Happens old new says) old new says

  stage_is : stage ≡ serving mid posts bytes1
  stage_is = subst (λ (p : Power). IsCarriedOn device mid posts bytes1 p stage) on carried

  still : mid.1 ≡ first.1 → (last : ℕ) → state_in device stage last ≡ state_in device (serving first posts bytes) last
  still same last =
      ap (λ (s : Stage S). state_in device s last) stage_is
      ∙ ap (λ (s : S). state_in device (serving (s, mid.1) posts bytes1) last) shelf
      ∙ ap (λ (core : Core). state_in device (serving (first.0, core) posts bytes1) last) same

  does : (mid.1 ≡ first.1) × ((last : ℕ) → state_in device stage last ≡ state_in device (serving first posts bytes) last → OnVolume name (Happens (state_in device (serving first posts bytes) last) (state_in device stage last) answer) (state_in device (serving first posts bytes) last) (state_in device stage last) answer)
  does = by asks
    where
      by : AsksByName name write at count first.1 mid.1 (Err why) → (mid.1 ≡ first.1) × ((last : ℕ) → state_in device stage last ≡ state_in device (serving first posts bytes) last → OnVolume name (Happens (state_in device (serving first posts bytes) last) (state_in device stage last) answer) (state_in device (serving first posts bytes) last) (state_in device stage last) answer)
      by (HasNone none same says) = (same, λ last unchanged. NotThere first.1 refl none (is ∙ (let e : why ≡ refusal.NoVolume = cc says in ap reply.Refused e), unchanged))
      by (Refuses lv fault named gives same says) = (
        same,
        λ last unchanged. There first.1 lv refl named (not_asked (state_in device (serving first posts bytes) last) (state_in device stage last) answer first.1 lv (record {
          why = fault;
          gives = subst (λ (core : Core). AskRangeGives write lv at count first.1 core (Err fault)) same gives;
          refused = (is ∙ (let e : why ≡ ask_refusal fault = cc says in ap reply.Refused e), unchanged);
        })),
      )
      by (Takes lv asked named gives says) = absurd (cc says)

  to : RunsTo device first mid
  to = runs_to device first mid runs (subst (λ (s : S). IsSound (state (device s) mid.1)) (sym shelf) (subst (λ (core : Core). IsSound (state (device first.0) core)) (sym does.0) between.session.sound))

  pub refusing_ends : EndsUnasked device Does ⊥ OfRequests (serving first posts bytes) stage answer
  refusing_ends =
      let one : most_refusals answer ≤ 1 = subst (λ (a : Reply). most_refusals a ≤ 1) (sym is) (omega arith) in
      carried_ends device first posts bytes fits between mid to Does posts bytes1 rooms stage answer (omega (arith, one)) (λ last. does.1 last (still does.0 last)) (kept posts.items between.posted) rooms_then (λ on. (path_frames runs).copy between.session.copy) (unstuck device first posts bytes fits between mid (goes_any runs)) carried
