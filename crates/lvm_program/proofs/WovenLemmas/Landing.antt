-- The requests of a workload land over a shelf of which nothing is counted.
use Rattle.std.proofs.Common.{◌≡◌, ◌-◌, ◌*◌, ℕ, Bool, true, false, List, [], ◌∷◌, length, Option, IfSome, refl, sym, ◌∙◌, ap, subst, arith}
use Rattle.std.specs.Prelude.{IsTrue}
use Rattle.lvm_disk.specs.Counts.{Counts}
use Rattle.lvm_disk.specs.Device.{Device, IsReady}
use Rattle.lvm_order_laws.specs.Alone.{NothingCounted}
use Rattle.lvm_vol.specs.Facts.{Fact}
use Rattle.lvm_vol.specs.Log.{is_open}
use Rattle.lvm_kept.specs.Moments.{Moment}
use Rattle.lvm_core.specs.Settled.{IsSettled}
use Rattle.lvm_session.specs.declared.open.Open.{Open}
use Rattle.lvm_session.specs.declared.open.Power.{Power}
use Rattle.lvm_session.specs.declared.open.Power.TheVariants as power
use Rattle.lvm_session.specs.Causes.{AnyFailedSince}
use Rattle.lvm_session.specs.Sound.{IsSound, is_dark, waits}
use Rattle.lvm_session.specs.State.{Core, State, state}
use Rattle.lvm_load.specs.declared.workload.Workload.{Workload}
use Rattle.lvm_load.specs.declared.workload.Woven.{Woven}
use Rattle.lvm_load.specs.declared.totals.Totals.{Totals}
use Rattle.lvm_load.specs.Ends.{HasWaited}
use Rattle.lvm_load.specs.Landing.{AreWell, EntersWell}
use Rattle.lvm_load.proofs.LandingLemmas.{requests_land_well, table_stays, totals_are_well}
use Rattle.lvm_load.proofs.LeavingLemmas.{workloads_leave_open}
use Rattle.lvm_top.specs.passed.Line.{role_of}
use Rattle.lvm_top.specs.passed.ReplyVariants as reply
use Rattle.lvm_top.specs.passed.GroupLines.{IsAtRest, IsBetween, IsClosed, IsOnBetween, IsRequesting, IsStuck, Reply, ScriptState}
use Rattle.lvm_top.specs.Run.{Run}
use Rattle.lvm_top.specs.Script.{empty_log, entry_state}
use Rattle.lvm_top.proofs.passed.Tie.{goes_any, path_frames}
use Rattle.lvm_top.proofs.EndingLemmas.{each_turn}
use Rattle.lvm_program.specs.Landing.{EndsLandedWell, HasLandedWell}
use Rattle.lvm_program.specs.Woven.{Drawn, EndsWoven, GoesWoven, HasGroup, IsDrawn, IsMade, IsSized, NoGroup, NotMade, TurnsBehind, exit_from, mklv_line, mkvg_line}
use Rattle.lvm_program.proofs.WovenLemmas.Making.{group_reads, volume_reads}

closed_counts : (p : Power) (old new : Device) → IsClosed p old new → new.counts ≡ old.counts
closed_counts power.Dark old new is = ap (λ (d : Device). d.counts) is
closed_counts other old new is = ap (λ (d : Device). d.counts) is

none_left : (os : List Open) → length os ≡ 0 → os ≡ []
none_left [] none = refl
none_left (o ∷ os) none = absurd (omega (arith, none))

-- ---- the workload

module _ (core : Core) (begin exit : Moment) (blocks : ℕ) (load : Workload) (woven : Woven) (sound : IsSound (state begin.device core)) (lit : begin.device.power ≡ true) (still : core.requests ≡ [])
    (drawn : IsDrawn blocks load (state begin.device core) exit woven) (none : NothingCounted exit.device.counts) where
  counts : exit.device.counts ≡ drawn.end.device.counts
  counts = closed_counts drawn.end.core.power drawn.end.device exit.device drawn.closed

  no_fault : AnyFailedSince drawn.end → ⊥
  no_fault failed =
      let risen = failed.1.risen in
      let zero = none.faults failed.0 in
      let same = ap (λ (n : Counts). n.faults failed.0) counts in
      omega (arith, risen, zero, same)

  not_dark : drawn.end.core.power ≡ power.Dark → ⊥
  not_dark dark =
      let risen = ((path_frames drawn.runs).keeps.cut lit (drawn.sound.dark (ap is_dark dark)).power).risen in
      let zero = none.cuts in
      let same = ap (λ (n : Counts). n.cuts) counts in
      omega (arith, risen, zero, same)

  enters : EntersWell core core.history.facts exit.facts
  enters = subst (λ (fs : List Fact). EntersWell core core.history.facts fs) (sym drawn.facts) (requests_land_well (state begin.device core) drawn.end sound (goes_any drawn.runs) no_fault not_dark)

  -- nothing was unheard of
  heard : woven.waiting ≡ false
  heard = by woven.waiting refl drawn.turns drawn.causes.waiting
    where
      by : (b : Bool) → woven.waiting ≡ b → TurnsBehind b drawn.last drawn.end → (IsTrue b → HasWaited (state begin.device core) drawn.last) → b ≡ false
      by false is turns waits = refl
      by true is turns waits =
          let risen = (waits refl).risen in
          let zero = none.waits in
          let same = ap (λ (n : Counts). n.waits) counts in
          let at = ap (λ (s : State). s.device.counts.waits) turns in
          absurd (omega (arith, risen, zero, same, at))

  -- the table is empty behind it
  turns_leave : (b : Bool) → b ≡ false → TurnsBehind b drawn.last drawn.end → length drawn.end.core.requests ≡ length drawn.last.core.requests
  turns_leave true unlike turns = absurd (cc unlike)
  turns_leave false same turns =
      each_turn (λ (a c : State). length c.core.requests ≡ length a.core.requests) (λ s. refl) (λ a b c one two. two ∙ one) table_stays drawn.last drawn.end turns

  emptied : drawn.end.core.requests ≡ []
  emptied = none_left drawn.end.core.requests
      (turns_leave woven.waiting heard drawn.turns
      ∙ (workloads_leave_open 1 blocks load.requests load.clients load.seed (state begin.device core) drawn.last woven.waiting drawn.weaves).1 heard ∙ ap (λ (os : List Open). length os) still)

  pub landed_well : HasLandedWell (state begin.device core) exit woven
  landed_well = record {
    heard = heard;
    landed = λ id. ap (λ (fs : List Fact). is_open fs id) drawn.facts ∙ drawn.sound.told.each id ∙ ap (λ (os : List Open). waits os id) emptied;
    enters = enters;
    totals = subst (λ (t : Totals). AreWell core t) (sym drawn.totals) (totals_are_well load.requests core core.history.facts exit.facts enters);
  }

-- ---- the run

ok_heard : IsStuck reply.Ok → ⊥
ok_heard e = cc e

module _ (disks mib : ℕ) (load : Workload) (r : Run) (sized : IsSized disks mib) (ready : IsReady r.entry) (none : NothingCounted r.exit.counts) where
  first_rests : IsAtRest (entry_state r.entry r.named)
  first_rests = record { ready = ready; landed = λ id. refl; session = tt; posts = refl }

  -- the lines that make the group and the volume leave nothing under way
  made_rests : (first : ScriptState) (answer : Reply) (last : ScriptState) → (IsStuck answer → ⊥) → IsMade (empty_log r.named r.room) r.room (mkvg_line disks) (mklv_line disks mib) first answer last
      → IsAtRest first → IsAtRest last × IsBetween last.moment last.session last.posts
  made_rests first answer last heard (NoGroup not it) rests =
      (it.goes.rests (λ asks. subst (λ line. IsRequesting (role_of line)) (group_reads disks sized.0 sized.1) asks) heard rests, it.goes.between heard)
  made_rests first answer last heard (HasGroup mid makes it) rests =
      let so_far = makes.goes.rests (λ asks. subst (λ line. IsRequesting (role_of line)) (group_reads disks sized.0 sized.1) asks) ok_heard rests in
      (it.goes.rests (λ asks. subst (λ line. IsRequesting (role_of line)) (volume_reads disks mib sized) asks) heard so_far, it.goes.between heard)

  pub ends_well : (goes : GoesWoven disks mib load r) → EndsLandedWell goes.ends
  ends_well goes = by goes.answer goes.made goes.ends
    where
      by : (answer : Reply) → IsMade (empty_log r.named r.room) r.room (mkvg_line disks) (mklv_line disks mib) (entry_state r.entry r.named) answer goes.end
          → (ends : EndsWoven (2048 * (mib - 2)) load answer r.named goes.end.moment goes.end.session (exit_from r)) → EndsLandedWell ends
      by answer made (NotMade not ends) = tt
      by answer made (Drawn ok core some vols named facts served) =
          let so = made_rests (entry_state r.entry r.named) answer goes.end (λ stuck. ok_heard (subst IsStuck ok stuck)) made first_rests in
          let settled = subst (λ (o : Option Core). IfSome o IsSettled) some so.0.session in
          let on : IsOnBetween goes.end.moment.device core = subst (λ (o : Option Core). IfSome o (IsOnBetween goes.end.moment.device)) some so.1.session in
          landed_well core goes.end.moment (exit_from r).moment (2048 * (mib - 2)) load served.woven on.sound so.1.lit.power settled.quiet.requests served.drawn none
