-- What is found after the lines that make a group or vary one on.
use Rattle.std.proofs.Common.{◌≡◌, ◌≢◌, ◌⊎◌, inl, inr, ⊎_elim, ℕ, ◌+◌, ◌-◌, ◌^◌, ◌<◌, ◌≤◌, List, Bool, Option, Some, Result, Ok, Err, length, refl, sym, ap, subst, ◌∙◌, arith}
use Rattle.lvm_num.specs.declared.descriptor.Descriptor.{Descriptor}
use Rattle.lvm_disk.specs.Device.{Device}
use Rattle.lvm_io.specs.Count.{Rose}
use Rattle.lvm_vol.specs.Log.{Log}
use Rattle.lvm_parse.specs.declared.command.Command.TheVariants as command
use Rattle.lvm_parse.specs.Grammar.{line_of}
use Rattle.lvm_parse.proofs.WithinLemmas.{line_is_within}
use Rattle.lvm_steps.specs.Behind.{StampsAreEarlier}
use Rattle.lvm_write.specs.Beginning.{new_order}
use Rattle.lvm_core.specs.declared.parts.Room.{Room}
use Rattle.lvm_core.specs.declared.refused.Cause.{Cause}
use Rattle.lvm_core.specs.declared.refused.Cause.TheVariants as cause
use Rattle.lvm_core.specs.Leaves.{MayBeFound}
use Rattle.lvm_line.specs.passed.Group.{new_group}
use Rattle.lvm_line.specs.passed.GroupLines.{patience_of_line, refusal_of, IsStuck, Asks, IsAsked, IsBrokenOff, ScriptState, IsTimely, log_with, Reply, IsLeftByCall, MkvgDoes, NoMemoryForLine, NoMkvgWhileOn, Makes, VaryonDoes, NoVaryonWhileOn, Varies, asked_for, itself, outcome_of}
use Rattle.lvm_line.specs.passed.Quiesce.{Quiesces, MkvgOnceQuiet, RefusedAtOnce, StayedOut, VaryonOnceQuiet, WentQuiet}
use Rattle.lvm_line.proofs.passed.Quiesce.{each_is_behind, fewer_stay_behind, ends_leave, ends_only}
use Rattle.lvm_core.specs.declared.refused.Refused.{Refused}
use Rattle.lvm_session.specs.State.{Core}
use Rattle.lvm_steps.proofs.LawsLemmas.Stamps.{later_is_ahead_too}
use Rattle.lvm_line.specs.passed.ReplyVariants as reply
use Rattle.lvm_line.specs.passed.Varyon.{VaryonRefuses}
use Rattle.lvm_line.proofs.passed.Varyon.{failed_rests, wrote_broken, wrote_equalled, wrote_failed}
use Rattle.lvm_top.specs.Standing.{MayHaveCommitted}
use Rattle.lvm_top.proofs.Begun.{IsIts}
use Rattle.lvm_top.proofs.Devices.{IsShelf, NothingNew, same_nothing, unwritten_nothing}
use Rattle.lvm_top.proofs.NewGroupLemmas.{IsAskedFor, parts_find, refused_finds}
use Rattle.lvm_top.proofs.LeavesLemmas.Quiet.{lit_nothing, quiet_nothing, stays_nothing}
use Rattle.lvm_top.proofs.LeavesLemmas.Varying.{all_nothing}

-- ---- the clock

pub asked_nothing : (old new : ScriptState) → IsAsked old new → NothingNew old.moment.device new.moment.device
asked_nothing old new asked = same_nothing old.moment.device new.moment.device (ap (λ (s : ScriptState). s.moment.device) asked.same)

-- no moment that a clock answers is the first of all
some_moment : (last moment : ℕ) → Rose last moment → moment ≢ 0
some_moment last moment rose none = let r = rose.risen in omega (arith, r, none)

module _ (log : Log) (old new : ScriptState) (answer : Reply) (shelf : IsShelf old.moment.device) (heard : IsStuck answer → ⊥) (timely : IsTimely log.run old) where
  -- the shelf once the transfers of before have ended
  module _ (mid : Device) (quiet : Quiesces old.moment.device mid) where
    same_sizes : mid.sizes ≡ old.moment.device.sizes
    same_sizes = (ends_only quiet.ends).sizes

    pub mid_shelf : IsShelf mid
    mid_shelf = record { few = subst (λ (sizes : List ℕ). length sizes ≤ 128) (sym same_sizes) shelf.few; whole = quiet.whole }

    behind : Asks old new → new.last < 2 ^ 64 - 1 → StampsAreEarlier new.last mid
    behind asks early =
        let each = fewer_stay_behind old.moment.device mid (old.last + 1) (ends_leave quiet.ends) timely.ahead.behind in
        later_is_ahead_too (old.last + 1) new.last mid (let r = asks.risen in omega (arith, r, early)) (each_is_behind (old.last + 1) mid each)

  -- something was heard
  pub not_stuck : (why : Cause) → answer ≡ reply.Refused (refusal_of why) → why ≡ cause.Stuck → ⊥
  not_stuck why says stuck = heard (says ∙ ap (λ (c : Cause). reply.Refused (refusal_of c)) stuck)

  -- what is found at the end of a line whose command was refused was found on the shelf that came back
  left_found : (left : Device) (is : Log) (refused : Refused Device) (given : Result Core Cause) → outcome_of left is given ≡ Err refused → IsLeftByCall left is old new answer given → (id : ℕ) (k : Descriptor) → MayBeFound new.moment.device id k → MayBeFound refused.shelf id k
  left_found left is refused (Ok core) same gone id k it = absurd (cc (same))
  left_found left is refused (Err why) same gone id k it =
      let its : left ≡ refused.shelf = ap (λ (r : Refused Device). r.shelf) (let e : record { shelf = left; history = is; cause = why } ≡ refused = cc (same) in e) in
      subst (λ (d : Device). MayBeFound d id k) its (lit_nothing why left new.moment.device gone.lit id k it)

  -- ---- `mkvg`

  module _ (line : List ℕ) (force : Bool) (name : List ℕ) (mib : Option ℕ) (disks : List ℕ) (read : line_of line ≡ Ok (Some (command.Mkvg force name mib disks))) where
    abbrev Found : Device → Type 0
    Found device = (id : ℕ) (k : Descriptor) → MayBeFound device id k → MayBeFound old.moment.device id k ⊎ MayHaveCommitted (Ok (Some (command.Mkvg force name mib disks))) answer old new id k

    pub asked : (mid : Device) (quiet : Quiesces old.moment.device mid) → Asks old new → IsAskedFor (asked_for name mib disks force new.last) mid
    asked mid quiet asks =
        let within = line_is_within line (command.Mkvg force name mib disks) read in
        record {
          shelf = mid_shelf mid quiet;
          ready = quiet.ready;
          moment = some_moment old.last new.last asks;
          named = within.3;
          a_disk = within.0;
          differ = within.1;
          sized = within.2;
          clock = behind mid quiet asks;
        }

    -- the group that is made where they have ended is that which was asked for
    same_group : (mid : Device) (quiet : Quiesces old.moment.device mid) → new_group mid.sizes (asked_for name mib disks force new.last) ≡ new_group old.moment.device.sizes (asked_for name mib disks force new.last)
    same_group mid quiet = ap (λ (sizes : List ℕ). new_group sizes (asked_for name mib disks force new.last)) (same_sizes mid quiet)

    committed : (mid : Device) (quiet : Quiesces old.moment.device mid) → (answer ≡ reply.Ok) ⊎ IsBrokenOff answer → (id : ℕ) (k : Descriptor) → IsIts (new_group mid.sizes (asked_for name mib disks force new.last)) id k → MayHaveCommitted (Ok (Some (command.Mkvg force name mib disks))) answer old new id k
    committed mid quiet tried id k its = record { tried = tried; own = its.0 ∙ sym (ap (λ (d : Descriptor). d.id) its.1); is = its.1 ∙ same_group mid quiet }

    -- by what the call gives
    outcome_finds : (room : Room) (left : Device) (is : Log) (given : Result Core Cause) → Asks old new
        → MkvgOnceQuiet itself (asked_for name mib disks force new.last) room patience_of_line (log_with log old.moment.facts) old.moment.device (outcome_of left is given) → IsLeftByCall left is old new answer given → Found new.moment.device
    outcome_finds room left is given asks (RefusedAtOnce refused same first shelf_same history_same) gone id k it = inl (subst (λ (d : Device). MayBeFound d id k) shelf_same (left_found left is refused given same gone id k it))
    outcome_finds room left is given asks (StayedOut refused same may out) gone id k it = inl (stays_nothing patience_of_line old.moment.device refused.shelf (log_with log old.moment.facts) refused.history refused.cause out id k
        (left_found left is refused given same gone id k it))
    outcome_finds room left is (Ok core) asks (WentQuiet may once) gone id k it = ⊎_elim
        (λ was. inl (quiet_nothing old.moment.device once.mid once.quiesces id k was))
        (λ its. inr (committed once.mid once.quiesces (inl gone.2.answered) id k its))
        (parts_find (asked_for name mib disks force new.last) once.mid (asked once.mid once.quiesces asks) (log_with log old.moment.facts) left once.goes.clear once.goes.homes once.goes.spares new_order once.goes.only once.goes.rested.ready.flights id k
        (subst (λ (d : Device). MayBeFound d id k) (sym gone.0) it))
    outcome_finds room left is (Err why) asks (WentQuiet may once) gone id k it = ⊎_elim
        (λ was. inl (quiet_nothing old.moment.device once.mid once.quiesces id k was))
        (λ its. inr (committed once.mid once.quiesces (inr (subst IsBrokenOff (sym gone.answered) its.0)) id k its.1))
        (refused_finds (asked_for name mib disks force new.last) once.mid (asked once.mid once.quiesces asks) once.left (log_with log old.moment.facts) is left why (λ stuck. absurd (not_stuck why gone.answered stuck)) once.goes id k
        (lit_nothing why left new.moment.device gone.lit id k it))

    pub mkvg_finds : (room : Room) → MkvgDoes log room force name mib disks old new answer → Found new.moment.device
    mkvg_finds room (NoMemoryForLine off says same) id k it = inl (asked_nothing old new same id k it)
    mkvg_finds room (NoMkvgWhileOn on says same) id k it = inl (asked_nothing old new same id k it)
    mkvg_finds room (Makes brings) id k it = outcome_finds room brings.shelf brings.history brings.given brings.asks brings.gives brings.left id k it

  -- ---- `varyonvg`

  module _ (name : List ℕ) where
    module _ (asks : Asks old new) (mid left : Device) (quiet : Quiesces old.moment.device mid) (patience : ℕ) where
      some : new.last ≢ 0
      some = some_moment old.last new.last asks

      stops_nothing : (why : Cause) → (why ≡ cause.Stuck → ⊥) → VaryonRefuses mid left name new.last patience (log_with log old.moment.facts) why → NothingNew mid left
      stops_nothing cause.HistoryFull heard refuses = same_nothing mid left refuses.1
      stops_nothing cause.NoRecord heard refuses = unwritten_nothing mid left refuses.1.unwritten refuses.1.rested.ready.flights
      stops_nothing cause.Ambiguous heard refuses = unwritten_nothing mid left refuses.1.unwritten refuses.1.rested.ready.flights
      stops_nothing (cause.NoQuorum have total) heard refuses = unwritten_nothing mid left refuses.1.unwritten refuses.1.rested.ready.flights
      stops_nothing (cause.ClockBack seen) heard refuses = unwritten_nothing mid left refuses.1.unwritten refuses.1.rested.ready.flights
      stops_nothing (cause.DiskFailed disk) heard refuses =
          let failed = refuses.1.writes.how in
          all_nothing mid left name new.last _ refuses.1 (mid_shelf mid quiet) some (behind mid quiet asks) (wrote_failed _ _ refuses.1.copies refuses.1.writes.read left disk failed) (failed_rests _ _ refuses.1.copies refuses.1.writes.read left disk failed)
      stops_nothing cause.Dark heard refuses = ⊎_elim
          (λ un. unwritten_nothing mid left un refuses.1.how.flights)
          (λ it. all_nothing mid left name new.last _ it (mid_shelf mid quiet) some (behind mid quiet asks) (wrote_broken _ _ it.copies it.writes.read left it.writes.how) refuses.1.how.flights)
          refuses.1.when
      stops_nothing cause.Stuck heard refuses = absurd (heard refl)
      stops_nothing cause.Memory heard refuses = unwritten_nothing mid left refuses.1.0 refuses.1.1.ready.flights
      stops_nothing (cause.NoDisk disk) heard refuses = absurd refuses.1
      stops_nothing (cause.TooMany limit) heard refuses = absurd refuses.1
      stops_nothing (cause.TooSmall disk) heard refuses = absurd refuses.1
      stops_nothing cause.GroupExists heard refuses = absurd refuses.1

    outcome_nothing : (room : Room) (left : Device) (is : Log) (given : Result Core Cause) → Asks old new
        → VaryonOnceQuiet itself (log_with log old.moment.facts) name new.last room patience_of_line old.moment.device (outcome_of left is given) → IsLeftByCall left is old new answer given → NothingNew old.moment.device new.moment.device
    outcome_nothing room left is given asks (RefusedAtOnce refused same first shelf_same history_same) gone id k it = subst (λ (d : Device). MayBeFound d id k) shelf_same (left_found left is refused given same gone id k it)
    outcome_nothing room left is given asks (StayedOut refused same may out) gone id k it =
        stays_nothing patience_of_line old.moment.device refused.shelf (log_with log old.moment.facts) refused.history refused.cause out id k
        (left_found left is refused given same gone id k it)
    outcome_nothing room left is (Ok core) asks (WentQuiet may once) gone id k it =
        let written = once.goes.gives.written in
        quiet_nothing old.moment.device once.mid once.quiesces id k
        (all_nothing once.mid left name new.last _ written (mid_shelf once.mid once.quiesces) (some_moment old.last new.last asks) (behind once.mid once.quiesces asks) (wrote_equalled _ _ written.copies written.writes.read left core.homes written.writes.how)
        written.writes.how.equal.rested.ready.flights id k (subst (λ (d : Device). MayBeFound d id k) (sym gone.0) it))
    outcome_nothing room left is (Err why) asks (WentQuiet may once) gone id k it =
        quiet_nothing old.moment.device once.mid once.quiesces id k
        (stops_nothing asks once.mid left once.quiesces once.left why (not_stuck why gone.answered) once.goes.gives.0 id k (lit_nothing why left new.moment.device gone.lit id k it))

    pub varyon_nothing : (room : Room) → VaryonDoes log room name old new answer → NothingNew old.moment.device new.moment.device
    varyon_nothing room (NoVaryonWhileOn on says same) = asked_nothing old new same
    varyon_nothing room (Varies brings) = outcome_nothing room brings.shelf brings.history brings.given brings.asks brings.gives brings.left
