-- What each `splitlvcopy` of a script leaves of the content of both volumes.
use Rattle.std.proofs.Common.{◌≡◌, ◌++◌, ◌<◌, inl, inr, ℕ, zero, suc, false, length, arith, [], ◌∷◌, List, Option, Some, Result, Ok, IfSome, refl, sym, ap, subst, ◌∙◌}
use Rattle.std.specs.Prelude.{IsSomeAnd, slice_index_or}
use Rattle.lvm_num.specs.declared.descriptor.Descriptor.{Descriptor}
use Rattle.lvm_num.specs.declared.descriptor.LvRow.{LvRow}
use Rattle.lvm_num.specs.Descriptor.{IsValid, volume_of}
use Rattle.lvm_disk.specs.Device.{Device}
use Rattle.lvm_vol.specs.Facts.{Cut, Fact}
use Rattle.lvm_vol.specs.Log.{Log}
use Rattle.lvm_kept.specs.Group.{IsOneOf}
use Rattle.lvm_kept.specs.Moments.{Calm, Moment}
use Rattle.lvm_kept.proofs.RawLemmas.Keeping.{cut_calm}
use Rattle.lvm_steps.specs.Behind.{StampsAreEarlier}
use Rattle.lvm_steps.specs.Moments.{RunBegins, HistoryHolds}
use Rattle.lvm_steps.proofs.MomentsLemmas.Spans.{begins_run, keeps_still}
use Rattle.lvm_crash.proofs.CopiesLemmas.{number_finds}
use Rattle.lvm_parse.specs.declared.command.Command.{Command}
use Rattle.lvm_parse.specs.declared.command.Command.TheVariants as command
use Rattle.lvm_parse.specs.declared.rest.Misfit.{Misfit}
use Rattle.lvm_parse.specs.Grammar.{line_of}
use Rattle.lvm_core.specs.declared.parts.Room.{Room}
use Rattle.lvm_core.specs.Looking.{IsNumberOf}
use Rattle.lvm_session.specs.State.{Core, State, state, moment_of}
use Rattle.lvm_tie.specs.Spares.{SparesDescriptors}
use Rattle.lvm_tie.proofs.TiedLemmas.Tied.{good_upholds}
use Rattle.lvm_line.specs.passed.Splitting.{ShareContent}
use Rattle.lvm_line.proofs.passed.TieCommands.{no_volume}
use Rattle.lvm_volume_plan.specs.Split.{kept_row, split_row}
use Rattle.lvm_line.specs.passed.Tie.{IsGood, IsTied, StaysGood}
use Rattle.lvm_line.specs.passed.TieCommands.{StandsAfter}
use Rattle.lvm_line.specs.passed.GroupLines.{IsAlone, IsBetween, IsOnBetween, IsTimely, OfGroup, ScriptState, StandsAlone, StandsBy, Reply}
use Rattle.lvm_line.specs.passed.ReplyVariants as reply
use Rattle.lvm_line.specs.passed.VolumeLines.{Drains, SplitlvcopyDoes, SplitlvcopyEnds, NoGroupForSplitlvcopy, BusySplitlvcopy, UndrainedSplitlvcopy, NoVolumeForSplitlvcopy, SplitsVolume, SplitlvcopyFails}
use Rattle.lvm_line.specs.Lines.{IsLine, LineDoes, role_of}
use Rattle.lvm_line.proofs.passed.Tie.{goes_any, going_leaves, path_shape}
use Rattle.lvm_top.specs.Run.{HaveShared, IsRun, RanAlone, Run}
use Rattle.lvm_top.specs.Script.{AtLine, Ends, EndsAlone, InLine, NextLine, NoLine, Script, StaysAlone, empty_log, entry_state}
use Rattle.lvm_top.specs.Sharing.{AreShared, EndsShared, SharesAs, SharesBy, SharesByName}
use Rattle.lvm_top.proofs.ScriptLemmas.Scripting.{begins_timely, script_went}
use Rattle.lvm_top.proofs.SharingLemmas.Content as content_

-- ---- the rows

one_row : (a b : LvRow) → Some a ≡ Some b → a ≡ b
one_row a b same = cc same

row_at : (rows : List LvRow) (row : LvRow) (k : ℕ) → k < length rows → slice_index_or rows k row ≡ row → IsOneOf rows row
row_at [] row k less is = absurd (omega (arith, less))
row_at (r ∷ rows) row zero less is = inl (sym is)
row_at (r ∷ rows) row (suc k) less is = inr (row_at rows row k (omega (arith, less)) is)

-- the volume of a name and of a number
name_of : (d : Descriptor) (lv : ℕ) (name : List ℕ) (row : LvRow) → IsValid d → IsNumberOf d.lvs name lv → volume_of d lv ≡ Some row → row.name ≡ name
name_of d lv name row valid is volume =
    let its : volume_of d is.row.number ≡ Some is.row = number_finds d is.row valid (row_at d.lvs is.row is.among.0 is.among.1 is.among.2) in
    let found : volume_of d lv ≡ Some is.row = subst (λ (n : ℕ). volume_of d n ≡ Some is.row) is.its its in
    ap (λ (r : LvRow). r.name) (one_row row is.row (sym volume ∙ found)) ∙ is.named

module _ (log : Log) (room : Room) (past : List Fact) (first : Moment) (calm : Calm past) (begins : RunBegins log.run past first) where
  -- ---- a split

  module _ (old new : ScriptState) (between : IsBetween old.moment old.session old.posts) (named : IfSome old.session (λ core. core.history.run ≡ log.run)) (stands : StandsBy log.run first old) (alone : IsAlone OfGroup old new) where
    of_session : (P : Core → Type 0) (core : Core) → old.session ≡ Some core → IfSome old.session P → P core
    of_session P core some holds = subst (λ (o : Option Core). IfSome o P) some holds

    module _ (made name : List ℕ) (copies : ℕ) (core : Core) (left : ℕ) (mid : State) (lv number : ℕ) (some : old.session ≡ Some core) (drains : Drains core old left mid) (its : IsNumberOf mid.core.descriptor.lvs name lv)
        (done : SplitlvcopyEnds lv made copies (Ok number) false left mid old new) where
      run_is : core.history.run ≡ log.run
      run_is = of_session (λ (c : Core). c.history.run ≡ log.run) core some named

      begun : RunBegins core.history.run past first
      begun = subst (λ (n : ℕ). RunBegins n past first) (sym run_is) begins

      stays_good : StaysGood (state old.moment.device core) mid
      stays_good = (going_leaves (state old.moment.device core) mid (of_session (IsOnBetween old.moment.device) core some between.session).sound (goes_any drains.runs)).1

      after : (before : List Fact) → RunBegins log.run before first → StandsAfter before old.moment.device core
      after before began = of_session (λ (c : Core). StandsAlone old.moment.device c → StandsAfter before old.moment.device c) core some (stands before began) (of_session (StandsAlone old.moment.device) core some (alone.acts tt))

      -- the group has the volume that is split
      has_volume : core.descriptor.lvs ≡ [] → ⊥
      has_volume none = no_volume mid.core.descriptor lv done.gives.row (ap (λ (d : Descriptor). d.lvs) (path_shape (goes_any drains.runs)).descriptor ∙ none) done.gives.may.counted.copies_for.parts.named.found.volume

      good : IsGood core.history.run first mid
      good = (stays_good.good first (λ on before began. (after before (subst (λ (n : ℕ). RunBegins n before first) run_is began)).tied has_volume)).0

      tied : IsTied past mid
      tied = good drains.settled.power past begun

      holds : HistoryHolds past (moment_of mid)
      holds = good_upholds core.history.run first mid drains.settled.power good past begun

      spares : SparesDescriptors mid
      spares = (stays_good.descriptors between.descriptors).spares ((after past begins).spares has_volume)

      shared : ShareContent (past ++ mid.core.history.facts) done.left lv number
      shared = content_.shares past lv made copies mid done.left number tied drains.settled spares calm holds (done.rests refl).0 done.gives done.status done.writes

      -- it says nothing of how the session began
      again : ShareContent (past ++ mid.core.history.facts) (state done.left.device (record done.left.core { origin = done.leaves.core.origin })) lv number
      again = record { stays = shared.stays; new = shared.new; stays_is = shared.stays_is; new_is = shared.new_is; apart = shared.apart; lps = shared.lps; same = shared.same }

      goes_on : ShareContent (past ++ mid.core.history.facts) (state new.moment.device done.leaves.core) lv number
      goes_on = subst (λ (d : Device). ShareContent (past ++ mid.core.history.facts) (state d done.leaves.core) lv number) (sym done.leaves.device)
          (subst (λ (c : Core). ShareContent (past ++ mid.core.history.facts) (state done.left.device c) lv number) (sym done.leaves.is) again)

      same_group : done.leaves.core.descriptor ≡ done.left.core.descriptor
      same_group = ap (λ (c : Core). c.descriptor) done.leaves.is

      stays_row : goes_on.stays ≡ kept_row done.gives.row copies
      stays_row = one_row goes_on.stays (kept_row done.gives.row copies) (sym goes_on.stays_is ∙ ap (λ (d : Descriptor). volume_of d lv) same_group
          ∙ content_.stays_found past lv made copies mid done.left number tied drains.settled spares calm holds (done.rests refl).0 done.gives done.status done.writes)

      new_row : goes_on.new ≡ split_row done.gives.row copies number made
      new_row = one_row goes_on.new (split_row done.gives.row copies number made) (sym goes_on.new_is ∙ ap (λ (d : Descriptor). volume_of d number) same_group
          ∙ content_.more_found past lv made copies mid done.left number tied drains.settled spares calm holds (done.rests refl).0 done.gives done.status done.writes)

      by_name : SharesByName past name made new done.leaves.core
      by_name = record {
        facts = done.leaves.facts ∙ sym (ap (λ (c : Core). c.history.facts) done.leaves.is);
        both = record {
          lv = lv;
          number = number;
          turned = mid.core.history.facts;
          history = ap (λ (c : Core). c.history.facts) done.leaves.is ∙ ap (λ (c : Core). c.history.facts) done.gives.is;
          shares = goes_on;
        };
        keeps = ap (λ (r : LvRow). r.name) stays_row ∙ name_of mid.core.descriptor lv name done.gives.row tied.orderly.sound.fitting.valid its done.gives.may.counted.copies_for.parts.named.found.volume;
        has = ap (λ (r : LvRow). r.name) new_row;
      }

      splits : IsSomeAnd new.session (SharesByName past name made new)
      splits = subst (λ (o : Option Core). IsSomeAnd o (SharesByName past name made new)) (sym done.leaves.session) by_name

    split_shares : (made name : List ℕ) (copies : ℕ) → SplitlvcopyDoes made name copies old new reply.Ok → IsSomeAnd new.session (SharesByName past name made new)
    split_shares made name copies (NoGroupForSplitlvcopy none is) = absurd (let e = is.0 in cc e)
    split_shares made name copies (BusySplitlvcopy busy is) = absurd (let e = is.0 in cc e)
    split_shares made name copies (UndrainedSplitlvcopy core why some un) = absurd (let e = un.says in cc e)
    split_shares made name copies (NoVolumeForSplitlvcopy core left mid some drains none stays last says) = absurd (cc says)
    split_shares made name copies (SplitsVolume core left mid lv number some drains its done says) = splits made name copies core left mid lv number some drains its done
    split_shares made name copies (SplitlvcopyFails core left mid lv why some drains its done says) = absurd (cc says)

  -- ---- a line

  split_line : (line made name : List ℕ) (copies : ℕ) (old new : ScriptState) → StandsBy log.run first old → line_of line ≡ Ok (Some (command.Splitlvcopy made name copies)) → IsAlone (role_of (line_of line)) old new
      → (answer : Reply) → IsLine log room line answer old new → SharesBy past name made answer new
  split_line line made name copies old new stands is alone reply.Ok it = split_shares old new it.between it.named stands (subst (λ (r : Result (Option Command) Misfit). IsAlone (role_of r) old new) is alone) made name copies
      (subst (λ (r : Result (Option Command) Misfit). LineDoes log room r old new reply.Ok) is it.does)
  split_line line made name copies old new stands is alone answer it = tt

  shares_as : (line : List ℕ) (answer : Reply) (old new : ScriptState) → StandsBy log.run first old → IsAlone (role_of (line_of line)) old new → IsLine log room line answer old new
      → (read : Result (Option Command) Misfit) → line_of line ≡ read → SharesAs past read answer new
  shares_as line answer old new stands alone it (Ok (Some (command.Splitlvcopy made name copies))) is = split_line line made name copies old new stands is alone answer it
  shares_as line answer old new stands alone it read is = tt

  line_shares : (line : List ℕ) (answer : Reply) (old new : ScriptState) → StandsBy log.run first old → IsAlone (role_of (line_of line)) old new → IsLine log room line answer old new → SharesAs past (line_of line) answer new
  line_shares line answer old new stands alone it = shares_as line answer old new stands alone it (line_of line) refl

-- ---- the lines of a script

module _ (log : Log) (room : Room) (past : List Fact) (first : ScriptState) (calm : Calm past) (begins : RunBegins log.run past first.moment) (timely : IsTimely log.run first) (stands : StandsBy log.run first.moment first) where
  lines_share : {lines : List (List ℕ)} {replies : List Reply} {last : ScriptState} (script : Script log room first lines replies last) → StaysAlone script → AreShared past script
  lines_share NoLine alone = tt
  lines_share (NextLine {mid = mid} {new = new} line answer said goes says before does) alone = (
    lines_share before alone.0,
    line_shares log room past first.moment calm begins line answer mid new ((script_went log room first before).keeps timely alone.0 first.moment (keeps_still log.run first.moment) stands).1 alone.1 does,
  )

  ends_share : {lines : List (List ℕ)} {replies : List Reply} {mid last : ScriptState} {done : List (List ℕ)} {said : List Reply} {front : List ℕ} (script : Script log room first lines replies mid) (ends : Ends log room mid last done said front)
      → StaysAlone script → EndsAlone ends → EndsShared past ends
  ends_share script (AtLine same) alone end = tt
  ends_share {mid = mid} {last = last} script (InLine line answer said front rest says split does) alone end =
      line_shares log room past first.moment calm begins line answer mid last ((script_went log room first script).keeps timely alone first.moment (keeps_still log.run first.moment) stands).1 end does

-- ---- those of a run

pub run_shares : (r : Run) (ran : IsRun r) → RanAlone ran → StampsAreEarlier r.named r.entry → HaveShared ran
run_shares r ran alone behind = λ past earlier.
    let log = empty_log r.named r.room in
    let first = entry_state r.entry r.named in
    let begins = begins_run r.named r.entry past earlier in
    let timely = begins_timely r.named r.entry ran.ready.flights behind in (
      lines_share log r.room (past ++ Cut ∷ []) first (cut_calm past) begins timely (λ before began. tt) ran.lines.script alone.0,
      ends_share log r.room (past ++ Cut ∷ []) first (cut_calm past) begins timely (λ before began. tt) ran.lines.script ran.lines.ends alone.0 alone.1,
    )
