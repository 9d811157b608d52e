-- What a run leaves whose script has nowhere `-f`.
use Rattle.std.proofs.Common.{◌≡◌, ◌≤◌, ◌++◌, ◌∷◌, ℕ, List, [], length, sym, subst}
use Rattle.lvm_disk.specs.Device.{Device}
use Rattle.lvm_vol.specs.Facts.{Cut, Fact}
use Rattle.lvm_vol.specs.Log.{Log}
use Rattle.lvm_kept.proofs.MomentsLemmas.Chaining.{span_sizes}
use Rattle.lvm_steps.specs.Moments.{IsEarlier}
use Rattle.lvm_core.specs.declared.parts.Room.{Room}
use Rattle.lvm_line.specs.passed.GroupLines.{Reply, ScriptState}
use Rattle.lvm_top.specs.declared.status.ExitStatus.TheVariants as ended
use Rattle.lvm_top.specs.Laws.{MayRun}
use Rattle.lvm_top.specs.OneGroup.{AreUnforced, EndsUnforced, RanUnforced}
use Rattle.lvm_top.specs.Plain.{FindsOneGroup, HoldsOneGroup}
use Rattle.lvm_top.specs.Run.{IsRun, RanAlone, Run}
use Rattle.lvm_top.specs.Runs.{PlainRunsFollow}
use Rattle.lvm_top.specs.Script.{AtLine, Ends, EndsHeard, InLine, NextLine, Script, empty_log, entry_state, facts_of}
use Rattle.lvm_top.specs.Standing.{HasFewDisks}
use Rattle.lvm_top.proofs.Devices.{NothingNew}
use Rattle.lvm_top.proofs.LawsLemmas.Scripts.{concluded_nothing, run_may_start}
use Rattle.lvm_top.proofs.LeftLemmas.{left_finds_no_more}
use Rattle.lvm_top.proofs.OneGroupLemmas.{script_one, unforced_runs_alone}
use Rattle.lvm_top.proofs.PlainLemmas.{ran_unforced}
use Rattle.lvm_top.proofs.RunsLemmas.{next_may_begin}
use Rattle.lvm_top.proofs.ScriptLemmas.Concluding.{ran_between, spanned}

module _ (log : Log) (room : Room) (past : List Fact) (first : ScriptState) (begin : MayRun log.run past first) (one : FindsOneGroup first.moment.device) where
  -- where the lines end of which something was heard
  ends_find : {lines : List (List ℕ)} {replies : List Reply} {mid last : ScriptState} {done : List (List ℕ)} {said : List Reply} {front : List ℕ} (script : Script log room first lines replies mid) → AreUnforced script
      → (ends : Ends log room mid last done said front) → EndsHeard ends → EndsUnforced ends → FindsOneGroup last.moment.device
  ends_find script before (AtLine same) heard unforced =
      subst (λ (s : ScriptState). FindsOneGroup s.moment.device) (sym same) (script_one log room past first begin one script before).finds_one
  ends_find script before (InLine line answer said front rest says split it) heard unforced =
      (script_one log room past first begin one (NextLine line answer said heard says script it) (before, unforced)).finds_one

-- no more is found than was
none_more : (old new : Device) → NothingNew old new → FindsOneGroup old → FindsOneGroup new
none_more old new none finds v w g h is also = finds v w g h (none v g is) (none w h also)

module _ (r : Run) (ran : IsRun r) (past : List Fact) (holds : HoldsOneGroup r.named r.entry) (earlier : IsEarlier r.named r.entry past) (unforced : RanUnforced ran) where
  ran_alone : RanAlone ran
  ran_alone = unforced_runs_alone r ran past holds.few ran.ready holds.before earlier holds.one unforced

  exit_finds : (r.status ≡ ended.Stuck → ⊥) → FindsOneGroup r.exit
  exit_finds heard =
      let log = empty_log r.named r.room in
      let first = entry_state r.entry r.named in
      let begin = run_may_start r.named r.entry past holds.few ran.ready holds.before earlier in
      none_more ran.end.moment.device r.exit
      (concluded_nothing r.named ran.end.moment (record { device = r.exit; facts = facts_of r.history }) ran.end.session ran.end.posts (ran_between r ran heard) ran.concluded.concludes)
      (ends_find log r.room (past ++ Cut ∷ []) first begin holds.one ran.lines.script unforced.0 ran.lines.ends (ran.heard heard) unforced.1)

  exit_few : HasFewDisks r.exit
  exit_few = subst (λ (sizes : List ℕ). length sizes ≤ 128) (sym (span_sizes (spanned r ran holds.before ran_alone))) holds.few

pub plain_runs_follow : PlainRunsFollow
plain_runs_follow asked next r later past bytes did told nowhere holds earlier heard own after left =
    let unforced = ran_unforced r did.does bytes told nowhere in
    let begins = next_may_begin asked next r later past did earlier holds.before heard own after (ran_alone r did.does past holds earlier unforced) left in
    let one = left_finds_no_more r.exit later left (exit_finds r did.does past holds earlier unforced heard) in (
      record {
        few = subst (λ (sizes : List ℕ). length sizes ≤ 128) (sym left.sizes) (exit_few r did.does past holds earlier unforced);
        one = one;
        before = begins.1;
      },
      begins.0,
    )
