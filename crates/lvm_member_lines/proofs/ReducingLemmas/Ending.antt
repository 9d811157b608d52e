-- How the line ends by which disks leave, from the session that has come to rest.
use Rattle.std.proofs.Common.{◌≡◌, ◌≤◌, ℕ, Bool, true, false, List, [], Result, Ok, Err, refl, sym, subst, arith}
use Rattle.std.specs.Prelude.{⊤, MatchBool}
use Rattle.lvm_disk.specs.Device.{Device, HasSectors, IsReady}
use Rattle.lvm_vol.specs.Log.{Log}
use Rattle.lvm_kept.specs.Moments.{Moment}
use Rattle.lvm_steps.specs.Moments.{Keeps}
use Rattle.lvm_transfer.specs.Transfer.{Relights}
use Rattle.lvm_session.specs.State.{Core, State}
use Rattle.lvm_core.specs.Committing.{moment_of}
use Rattle.lvm_core.specs.Settled.{IsSettled}
use Rattle.lvm_core.specs.Sound.{HaveAllLanded}
use Rattle.lvm_core.specs.State.{state_of}
use Rattle.lvm_member_plan.specs.declared.fault.ReduceFault.{ReduceFault}
use Rattle.lvm_member_plan.specs.declared.fault.ReduceFault.TheVariants as fault
use Rattle.lvm_reduce.specs.Answers.{IfOn, ReduceGives, is_over}
use Rattle.lvm_member_plan.specs.Descriptors.{IsReducedBy}
use Rattle.lvm_volume_lines.specs.passed.TieCommands.{IsLeftStandingSince, MayBeCommanded}
use Rattle.lvm_volume_lines.specs.passed.Volumes.{StillHeld}
use Rattle.lvm_volume_lines.specs.passed.Posts.{AreAnswered}
use Rattle.lvm_volume_lines.specs.passed.GroupLines.{EndsUnasked, most_refusals, patience_of_line, Role, IsBetweenStage, IsFittingStage, open_in, session_in, shelf_in, history_in, state_in, ScriptState, without_facts, Reply, Stage}
use Rattle.lvm_volume_lines.specs.passed.RefusalVariants as refusal
use Rattle.lvm_volume_lines.specs.passed.ReplyVariants as reply
use Rattle.lvm_volume_lines.proofs.passed.GroupLines.{answered_bears, landed_bears}
use Rattle.lvm_volume_lines.specs.Changing.{IsChangeDone}
use Rattle.lvm_volume_lines.specs.Commands.{HasRested, IsLeftAs}
use Rattle.lvm_volume_lines.proofs.Carrying.{IsCarried, at_mid, carried_ends, finds_no_more, left_either}
use Rattle.lvm_volume_lines.proofs.Commanding.{Acts, ClosesWell, Promised, closes_dark, closes_lit, ready_mid}
use Rattle.lvm_volume_lines.proofs.ChangingLemmas.Ending.{promised_by}
use Rattle.lvm_member_lines.specs.Reducing.{IsReduceCarriedOut, reduce_reply}
use Rattle.lvm_member_lines.proofs.ReducingLemmas.Giving.{IsKnownOfReduce, ReduceFacts, removed_bear}

-- ---- by the answer

-- the session goes on after an answer that doesn't end it
pub if_on : (given : Result (Unit {0}) ReduceFault) (P : Type 0) → IfOn given P → is_over given ≡ false → P
if_on given P on goes = subst (λ (over : Bool). MatchBool over ⊤ P) goes on

module _ (old new : State) where
  -- where the power was cut nothing is out,
  pub dark_still : (given : Result (Unit {0}) ReduceFault) → ReduceFacts given old new → given ≡ Err fault.Dark → new.device.flights ≡ []
  dark_still given facts dark = subst (λ (r : Result (Unit {0}) ReduceFault). ReduceFacts r old new) dark facts

  -- and where the session ended otherwise it is on;
  pub lit_still : (given : Result (Unit {0}) ReduceFault) → ReduceFacts given old new → is_over given ≡ true → (given ≡ Err fault.Dark → ⊥) → (new.device.power ≡ true) × (new.device.freed ≡ [])
  lit_still (Err fault.Dark) facts ends other = absurd (other refl)
  lit_still (Err (fault.WentOff have total)) facts ends other = (facts.power, facts.freed)
  lit_still (Err fault.Stuck) facts ends other = facts
  lit_still (Err fault.Busy) facts ends other = absurd (cc (ends))
  lit_still (Err (fault.NoDisk disk)) facts ends other = absurd (cc (ends))
  lit_still (Err fault.LastDisk) facts ends other = absurd (cc (ends))
  lit_still (Err (fault.DiskInUse disk)) facts ends other = absurd (cc (ends))
  lit_still (Err (fault.NoQuorum have total)) facts ends other = absurd (cc (ends))
  lit_still (Err fault.HistoryFull) facts ends other = absurd (cc (ends))
  lit_still (Err fault.Memory) facts ends other = absurd (cc (ends))
  lit_still (Ok done) facts ends other = absurd (cc (ends))

  as_is : IsReady old.device → new ≡ old → IsReady new.device
  as_is ready same = subst (λ (s : State). IsReady s.device) (sym same) ready

  -- it is ready where the session goes on,
  ready_still : (given : Result (Unit {0}) ReduceFault) → IsReady old.device → ReduceFacts given old new → is_over given ≡ false → IsReady new.device
  ready_still (Ok done) ready facts ends = facts
  ready_still (Err fault.Dark) ready facts ends = absurd (cc (ends))
  ready_still (Err (fault.WentOff have total)) ready facts ends = absurd (cc (ends))
  ready_still (Err fault.Stuck) ready facts ends = absurd (cc (ends))
  ready_still (Err fault.Busy) ready facts ends = as_is ready facts
  ready_still (Err (fault.NoDisk disk)) ready facts ends = as_is ready facts
  ready_still (Err fault.LastDisk) ready facts ends = as_is ready facts
  ready_still (Err (fault.DiskInUse disk)) ready facts ends = as_is ready facts
  ready_still (Err (fault.NoQuorum have total)) ready facts ends = as_is ready facts
  ready_still (Err fault.HistoryFull) ready facts ends = as_is ready facts
  ready_still (Err fault.Memory) ready facts ends = as_is ready facts

  -- and once it was closed and lit again.
  closes_after : (given : Result (Unit {0}) ReduceFault) (shelf : Device) → ReduceFacts given old new → is_over given ≡ true → Relights new.device shelf → ClosesWell (reduce_reply given) new.device shelf
  closes_after (Err fault.Dark) shelf facts ends lit = closes_dark (reply.Refused refusal.Dark) new.device shelf facts lit
  closes_after (Err (fault.WentOff have total)) shelf facts ends lit = closes_lit (reply.Refused (refusal.WentOff have total)) new.device shelf facts.power facts.freed (λ heard. facts) lit
  closes_after (Err fault.Stuck) shelf facts ends lit = closes_lit (reply.Refused refusal.Stuck) new.device shelf facts.0 facts.1 (λ heard. absurd (heard refl)) lit
  closes_after (Err fault.Busy) shelf facts ends lit = absurd (cc (ends))
  closes_after (Err (fault.NoDisk disk)) shelf facts ends lit = absurd (cc (ends))
  closes_after (Err fault.LastDisk) shelf facts ends lit = absurd (cc (ends))
  closes_after (Err (fault.DiskInUse disk)) shelf facts ends lit = absurd (cc (ends))
  closes_after (Err (fault.NoQuorum have total)) shelf facts ends lit = absurd (cc (ends))
  closes_after (Err fault.HistoryFull) shelf facts ends lit = absurd (cc (ends))
  closes_after (Err fault.Memory) shelf facts ends lit = absurd (cc (ends))
  closes_after (Ok done) shelf facts ends lit = absurd (cc (ends))

-- one refusal is answered at most
one_answer : (given : Result (Unit {0}) ReduceFault) → most_refusals (reduce_reply given) ≤ 1
one_answer (Ok done) = omega arith
one_answer (Err why) = omega arith

-- ---- the command has been carried out

module _ {S : Type 0} (device : S → Device) (stage : Stage S) (fits : IsFittingStage stage) (between : IsBetweenStage device stage) (none : open_in (session_in stage) ≡ 0)
    (patience : ℕ) (driver : S × Core) (rested : HasRested device stage.holder patience_of_line patience driver) where
  abbrev core : Core
  core = rested.turned.core

  abbrev mid : State
  mid = state_of device driver

  module _ (role : Role) (acts : Acts role) (disks : List ℕ) (it : Stage S) (answer : Reply)
      (done : IsReduceCarriedOut device disks patience driver stage.posts stage.bytes it answer) (sectors : (shelf : S) → HasSectors (device shelf)) where
    abbrev left : State
    left = state_of device done.left

    abbrev run : ℕ
    run = core.history.run

    abbrev given : Result (Unit {0}) ReduceFault
    given = done.given

    module _ (known : IsKnownOfReduce mid left given)
        (goes_on : (first : Moment) → MayBeCommanded run first mid → Keeps run first (moment_of left) × IfOn given (IsLeftStandingSince run first left)) where
      promised : Promised mid left
      promised = promised_by (IsReducedBy disks mid.core.descriptor) [] disks patience done.after mid left done.reduced.leaves

      abbrev carried : IsCarried run (is_over given) (reduce_reply given) (device (shelf_in it)) mid left
      carried = record {
        closed = λ over. closes_after mid left given (device (shelf_in it)) known.facts over (subst (λ (b : Bool). IsLeftAs device b [] done.left stage.posts stage.bytes it) over done.is).lit;
        ready = λ goes. ready_still mid left given (ready_mid (state_in device stage 0) core mid (at_mid device stage fits between none patience driver rested 0)) known.facts goes;
        settled = λ goes. if_on given (IsSettled left.core) done.reduced.on goes;
        few = one_answer given;
        landed = removed_bear HaveAllLanded landed_bears mid left known.enters rested.between.landed;
        answers = λ range was. removed_bear (λ facts. AreAnswered facts range) (answered_bears range) mid left known.enters was;
        rows = known.rows;
        spans = λ m may alone. (goes_on m may).0;
        stands = λ goes m may alone. if_on given (IsLeftStandingSince run m left) (goes_on m may).1 goes;
      }

      is_done : (last : ℕ) → IsChangeDone (IsReducedBy disks mid.core.descriptor) [] disks (λ was is. ReduceGives disks patience was is given) (is_over given) mid (state_in device stage last) (state_in device it last)
      is_done last = record {
        left = left;
        gives = done.reduced.gives;
        leaves = left_either device stage fits between none patience driver rested role acts (is_over given) (reduce_reply given) [] done.left it done.is promised sectors carried (is_over given) refl last;
        finds = finds_no_more device stage fits between none patience driver rested role acts (is_over given) (reduce_reply given) [] done.left it done.is promised sectors carried (IsReducedBy disks mid.core.descriptor) done.reduced.leaves.finds last;
        status = done.reduced.leaves.status;
        writes = done.reduced.leaves.writes;
        held = λ goes. (if_on given (StillHeld mid left) done.reduced.still goes).held;
        rests = λ goes. (carried.settled goes, carried.ready goes);
        clock = refl;
      }

      -- the line ends so, by what it does
      pub reduce_ends_so : (Does : Log → ScriptState → ScriptState → Reply → Type 0)
          → ((last : ℕ) → IsChangeDone (IsReducedBy disks mid.core.descriptor) [] disks (λ was is. ReduceGives disks patience was is given) (is_over given) mid (state_in device stage last) (state_in device it last)
          → Does (without_facts (history_in stage)) (state_in device stage last) (state_in device it last) (reduce_reply given))
          → EndsUnasked device Does ⊥ role stage it answer
      reduce_ends_so Does does = carried_ends device stage fits between none patience driver rested role acts (is_over given) (reduce_reply given) [] done.left it done.is promised sectors carried Does (λ last. does last (is_done last)) answer done.says
