-- What a split leaves of the content, by its answer.
use Rattle.std.proofs.Common.{◌≡◌, ◌∙◌, ◌++◌, ℕ, List, Option, Some, Result, Ok, Err, sym, ap, subst}
use Rattle.std.specs.Prelude.{IsSomeAnd}
use Rattle.lvm_disk.specs.Device.{Device}
use Rattle.lvm_vol.specs.Log.{Log}
use Rattle.lvm_steps.specs.Moments.{RunBegins, Keeps}
use Rattle.lvm_session.specs.State.{Core, State, state}
use Rattle.lvm_core.specs.State.{state_of}
use Rattle.lvm_volume_lines.specs.passed.VolumePlan.{GroupFault, is_over}
use Rattle.lvm_volume_lines.specs.passed.Handover.{IsCommanded}
use Rattle.lvm_volume_lines.specs.passed.Splitting.{ShareContent, SplitGives, to_split}
use Rattle.lvm_range_lines.specs.passed.TieCommands.{MayBeCommanded}
use Rattle.lvm_volume_lines.specs.passed.GroupLines.{IsBetweenStage, IsFittingStage, OfGroup, StandsBy, history_in, open_in, patience_of_line, session_in, shelf_in, state_in, Reply, Stage}
use Rattle.lvm_volume_lines.specs.passed.ReplyVariants as reply
use Rattle.lvm_volume_lines.specs.Commands.{HasRested, IsCarriedOut, IsLeftAs, none_added}
use Rattle.lvm_volume_lines.specs.Volumes.{volume_reply}
use Rattle.lvm_volume_lines.specs.Sharing.{SharesBehind, SharesSession}
use Rattle.lvm_volume_lines.proofs.passed.Splitting.{split_shares}
use Rattle.lvm_volume_lines.proofs.Commanding.{may_mid}
use Rattle.lvm_volume_lines.proofs.Carrying.{at_mid, its_history}

module _ {S : Type 0} (device : S → Device) (stage : Stage S) (fits : IsFittingStage stage) (between : IsBetweenStage device stage) (none : open_in (session_in stage) ≡ 0) (patience : ℕ) (driver : S × Core)
    (rested : HasRested device stage.holder patience_of_line patience driver) (lv : ℕ) (made : List ℕ) (copies : ℕ) (it : Stage S) (answer : Reply)
    (done : IsCarriedOut device (λ was is given. SplitGives lv made copies patience was is given) none_added (to_split lv made copies driver.1) patience driver stage.posts stage.bytes it answer) where
  abbrev core : Core
  core = rested.turned.core

  abbrev mid : State
  mid = state_of device driver

  abbrev left : State
  left = state_of device done.left

  its_run : (history_in stage).run ≡ core.history.run
  its_run = ap (λ (l : Log). l.run) (its_history device stage fits between none core rested.turned.its)

  pub shares_behind : SharesBehind device stage it answer
  shares_behind last first ok alone span stands past begins = by done.given done.gives done.commanded done.is done.says
    where
      may : MayBeCommanded core.history.run first mid
      may = may_mid (state_in device stage last) core mid (at_mid device stage fits between none patience driver rested last) OfGroup (λ old new its. its.acts tt) (state_in device it last) alone first
          (subst (λ (n : ℕ). Keeps n first (state_in device stage last).moment) its_run span) (subst (λ (n : ℕ). StandsBy n first (state_in device stage last)) its_run stands)

      by : (given : Result ℕ GroupFault) → SplitGives lv made copies patience mid left given → IsCommanded (to_split lv made copies driver.1) patience done.after mid left given
          → IsLeftAs device (is_over given) (none_added given) done.left stage.posts stage.bytes it → answer ≡ volume_reply given → IsSomeAnd (session_in it) (SharesSession past (device (shelf_in it)))
      by (Err why) gives commanded is says = absurd (let no : reply.Ok ≡ volume_reply {X = ℕ} (Err why) = sym ok ∙ says in cc no)
      by (Ok number) gives commanded is says =
          let held = is.held in
          let shelf : device (shelf_in it) ≡ device done.left.0 = ap (λ (s : Stage S). device (shelf_in s)) is.is ∙ ap device held.shelf in
          let session : session_in it ≡ Some held.core = ap (λ (s : Stage S). session_in s) is.is ∙ held.session in
          let content : ShareContent (past ++ mid.core.history.facts) left lv number = split_shares core.history.run first lv made copies patience done.after mid left number may commanded gives past (subst (λ (n : ℕ). RunBegins n past first) its_run begins) in
          -- it says nothing of how the session began
          let again : ShareContent (past ++ mid.core.history.facts) (state (device done.left.0) (record done.left.1 { origin = held.core.origin })) lv number =
          record { stays = content.stays; new = content.new; stays_is = content.stays_is; new_is = content.new_is; apart = content.apart; lps = content.lps; same = content.same } in
          subst (λ (o : Option Core). IsSomeAnd o (SharesSession past (device (shelf_in it)))) (sym session) (record {
            lv = lv;
            number = number;
            turned = mid.core.history.facts;
            history = ap (λ (c : Core). c.history.facts) held.is ∙ ap (λ (c : Core). c.history.facts) gives.is;
            shares = subst (λ (d : Device). ShareContent (past ++ mid.core.history.facts) (state d held.core) lv number) (sym shelf)
                (subst (λ (c : Core). ShareContent (past ++ mid.core.history.facts) (state (device done.left.0) c) lv number) (sym held.is) again);
          })
