-- Lines that read or write ranges of disks.
use Rattle.std.proofs.Common.{◌≡◌, ◌⊎◌, inl, inr, ◌+◌, ◌≤◌, [], ℕ, List, Result, Ok, Err, IfOk, IfErr, ◌∙◌, sym, ap, subst, arith}
use Rattle.std.specs.Prelude.{◌^◌, ◌<◌}
use Rattle.std.specs.Global.{Vec}
use Rattle.lvm_num.specs.Buffer.{Sector}
use Rattle.lvm_disk.specs.Device.{Device, IsReady}
use Rattle.lvm_kept.specs.Moments.{Moment}
use Rattle.lvm_steps.specs.Requests.{at}
use Rattle.lvm_vol.specs.Log.{Log}
use Rattle.lvm_vol.specs.Order.{Ordered}
use Rattle.lvm_group_lines.proofs.passed.TieCommands.{spans_follow}
use Rattle.lvm_raw.specs.Keeping.{IsUnstuck}
use Rattle.lvm_raw.specs.declared.fault.RawFault.{RawFault}
use Rattle.lvm_raw.specs.declared.fault.RawFault.TheVariants as fault
use Rattle.lvm_group_lines.specs.passed.Quiesce.{IsBehindEach, RangeKeepsEach}
use Rattle.lvm_group_lines.proofs.passed.Quiesce.{still_is_behind_each}
use Rattle.lvm_group_lines.specs.passed.Posts.{Post}
use Rattle.lvm_group_lines.specs.Disks.{ShowsRead, blocks_text, refusal_by, write_reply}
use Rattle.lvm_group_lines.specs.Ends.{EndsUnasked}
use Rattle.lvm_group_lines.specs.Moments.{Aside, LineGoesOn}
use Rattle.lvm_group_lines.specs.Replies.{IsStuck, Shows, InFull, WithoutMemory, most_refusals}
use Rattle.lvm_group_lines.specs.Stages.{Between, HaveRooms, IsBetweenStage, IsFittingStage}
use Rattle.lvm_group_lines.specs.State.{ScriptState, without_facts}
use Rattle.lvm_group_lines.specs.declared.holder.Holder.TheVariants as holder
use Rattle.lvm_group_lines.specs.declared.reply.Reply.{Reply}
use Rattle.lvm_group_lines.specs.declared.reply.Reply.TheVariants as reply
use Rattle.lvm_group_lines.specs.declared.stage.Stage.{Stage}
use Rattle.lvm_group_lines.proofs.LightingLemmas.{IsOpen, ready_is_lit, still_leaves_descriptors}
use Rattle.lvm_group_lines.proofs.StateLemmas.{LeavesAnswers, off_posts}

-- ---- replies

-- where nothing was heard of a transfer the reply says so
pub write_stuck : (given : Result (Unit {0}) RawFault) (answer : Reply) → answer ≡ write_reply given → given ≡ Err fault.Stuck → IsStuck answer
write_stuck given answer says is = says ∙ ap write_reply is

pub read_stuck : (given : Result (List Sector) RawFault) (answer : Reply) → IfErr given (λ why. answer ≡ reply.Refused (refusal_by why)) → given ≡ Err fault.Stuck → IsStuck answer
read_stuck given answer says is = subst (λ (r : Result (List Sector) RawFault). IfErr r (λ why. answer ≡ reply.Refused (refusal_by why))) is says

pub shows_read : (from : ℕ) (given : Result (List Sector) RawFault) (answer : Reply) → IfOk given (λ blocks. Shows (blocks_text from blocks) answer) → IfErr given (λ why. answer ≡ reply.Refused (refusal_by why)) → ShowsRead from given answer
shows_read from (Ok blocks) answer shows says = shows
shows_read from (Err why) answer shows says = says

-- it is at most one refusal
one_of : (answer says : Reply) → answer ≡ says → most_refusals says ≤ 1 → most_refusals answer ≤ 1
one_of answer says is one = subst (λ (a : Reply). most_refusals a ≤ 1) (sym is) one

pub write_once : (given : Result (Unit {0}) RawFault) → most_refusals (write_reply given) ≤ 1
write_once (Ok done) = omega arith
write_once (Err why) = omega arith

pub read_once : (from : ℕ) (given : Result (List Sector) RawFault) (answer : Reply) → ShowsRead from given answer → most_refusals answer ≤ 1
read_once from (Ok blocks) answer (InFull is) = one_of answer (reply.Lines (blocks_text from blocks)) is (omega arith)
read_once from (Ok blocks) answer (WithoutMemory is) = one_of answer _ is (omega arith)
read_once from (Err why) answer says = one_of answer (reply.Refused (refusal_by why)) says (omega arith)

-- ---- a call on a range of a disk in no group, by what it keeps

-- the stage at which no group is on
abbrev pub off : {S : Type 0} → S → Log → Vec Post → Vec ℕ → Stage S
off shelf log posts bytes = record { holder = holder.Off shelf log; posts = posts; bytes = bytes }

module _ {S X : Type 0} (device : S → Device) (old new : S) (log is : Log) (posts : Vec Post) (bytes : Vec ℕ) (fits : IsFittingStage (off old log posts bytes)) (between : IsBetweenStage device (off old log posts bytes))
    (ordered : Ordered log.run [] log.facts) (disk before after : ℕ) (given : Result X RawFault)
    (keeps : RangeKeepsEach log.run disk before after (at (device old) log.facts) (at (device new) is.facts) given) (rooms : is ≡ record log { facts = is.facts })
    (leaves : LeavesAnswers log.facts is.facts) (answer : Reply) (stuck : given ≡ Err fault.Stuck → IsStuck answer) (one : most_refusals answer ≤ 1) where
  heard : (IsStuck answer → ⊥) → IsUnstuck given
  heard goes is = goes (stuck is)

  moment_is : (P : Moment → Type 0) → (at (device new) is.facts ≡ at (device old) log.facts) ⊎ IsReady (device new) → P (at (device old) log.facts) → (IsReady (device new) → P (at (device new) is.facts)) → P (at (device new) is.facts)
  moment_is P (inl same) was ready = subst P (sym same) was
  moment_is P (inr rests) was ready = ready rests

  opens : (IsStuck answer → ⊥) → IsOpen (device new)
  opens goes = moment_is (λ m. IsOpen m.device) (keeps.rests (heard goes)) (record { lit = between.lit; descriptors = between.descriptors })
      (λ ready. record { lit = ready_is_lit (device new) ready; descriptors = still_leaves_descriptors (device new) ready.flights })

  goes_on : Between device (off old log posts bytes) (off new is posts bytes) (LineGoesOn log.run Aside answer)
  goes_on = λ last. record {
    keeps = λ timely alone first span stands. (spans_follow log.run first (at (device old) log.facts) (at (device new) is.facts) span ordered between.landed keeps.keeps, λ goes past begins. tt);
    timely = λ goes timely. record {
      ahead = record {
        run_is = timely.ahead.run_is;
        later = keeps.later (last + 1) timely.ahead.later;
        behind = moment_is (λ m. IsBehindEach (last + 1) m.device) (keeps.rests (heard goes)) timely.ahead.behind (λ ready. still_is_behind_each (last + 1) (device new) ready.flights (keeps.behind (last + 1) timely.ahead.behind));
      };
      session = tt;
    };
    left = λ timely. record { run_is = timely.ahead.run_is; later = keeps.later (last + 1) timely.ahead.later; behind = keeps.behind (last + 1) timely.ahead.behind };
    between = λ goes. record {
      lit = (opens goes).lit;
      descriptors = (opens goes).descriptors;
      landed = keeps.landed (heard goes) between.landed;
      session = tt;
      posted = off_posts log.facts is.facts leaves posts.items between.posted;
    };
    rests = λ others goes rests. record {
      ready = moment_is (λ m. IsReady m.device) (keeps.rests (heard goes)) rests.ready (λ ready. ready);
      landed = keeps.landed (heard goes) between.landed;
      session = tt;
      posts = rests.posts;
    };
    begins = λ timely facts kept. tt;
    power = keeps.power;
    waits = keeps.shelf.waited.later;
    clock = omega arith;
    few = omega (arith, one);
  }

  fits_then : IsFittingStage (off new is posts bytes)
  fits_then = record {
    kind = tt;
    few = subst (λ (l : Log). l.room < 2 ^ 32) (sym rooms) fits.few;
    rooms = subst (λ (l : Log). HaveRooms l.room posts bytes) (sym rooms) fits.rooms;
  }

  pub range_ends : (Does : Log → ScriptState → ScriptState → Reply → Type 0) → Between device (off old log posts bytes) (off new is posts bytes) (λ a b. Does (without_facts log) a b answer)
      → EndsUnasked device Does ⊥ Aside (off old log posts bytes) (off new is posts bytes) answer
  range_ends Does does = λ last. record { does = does last; goes = goes_on last; rooms = ap without_facts rooms; fits = fits_then; orders = λ none. keeps.shelf.orders }
