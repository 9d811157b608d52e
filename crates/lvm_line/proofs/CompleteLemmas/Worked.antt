-- Lines in which nothing failed, while no group is on, over one blank disk: `step 1`, which is refused, and `wait`, which is answered.
use Rattle.std.proofs.Common.{◌≤◌, ℕ, true, false, [], ◌∷◌, None, refl, arith}
use Rattle.std.specs.Prelude.{codes}
use Rattle.lvm_disk.specs.Counts.{Counts, RoseBy}
use Rattle.lvm_disk.specs.Device.{Device}
use Rattle.lvm_core.specs.declared.parts.Room.{Room}
use Rattle.lvm_vol.specs.Log.{Log}
use Rattle.lvm_parse.specs.Reading.{ends, operand}
use Rattle.lvm_parse.specs.Grammar.{line_of}
use Rattle.lvm_volume_lines.specs.passed.RangeLines.{NoStepWhileOff}
use Rattle.lvm_volume_lines.specs.passed.RangeLinesWaiting.{NoGone, TellsAll, WhileOff}
use Rattle.lvm_volume_lines.specs.passed.GroupLines.{IsBetween, Reply, ScriptState}
use Rattle.lvm_volume_lines.specs.passed.RefusalVariants as refusal
use Rattle.lvm_volume_lines.specs.passed.ReplyVariants as reply
use Rattle.lvm_volume_lines.proofs.passed.GroupLines.{same_goes}
use Rattle.lvm_line.specs.Complete.{NothingMayFail, NothingMayFailAnswered, NoneRose, NothingFailed}
use Rattle.lvm_line.specs.Lines.{IsLine, role_of}
use Rattle.lvm_line.specs.Told.{NothingMayHappen}

abbrev none : Counts
none = record { starts = λ disk. 0; misses = λ disk. 0; faults = λ disk. 0; cuts = 0; waits = 0 }

abbrev bare : Device
bare = record { sizes = 8192 ∷ []; media = None; flights = []; freed = []; power = true; counts = none; arranges = false; orders = record { made = 0; last = None; alone = None }; wrote = None }

abbrev off : ScriptState
off = record { moment = record { device = bare; facts = [] }; session = None; posts = []; last = 0 }

abbrev answer : Reply
answer = reply.Refused refusal.NoGroup

between : IsBetween off.moment off.session off.posts
between = record {
  lit = record { power = refl; freed = refl };
  descriptors = λ disk at value flies. absurd flies;
  landed = λ id. refl;
  session = tt;
  posted = record { each = λ k d less. absurd (omega (arith, less)); rise = λ i j d lt less. absurd (omega (arith, less)) };
}

-- a count that stands at 0 hasn't risen
stands : (n : ℕ) → 1 ≤ n → RoseBy n 0 0 → ⊥
stands n some rose = let risen = rose.risen in omega (arith, some, risen)

rose_none : NoneRose none none
rose_none = record { faults = λ disk. stands 1 (omega arith); cuts = stands 1 (omega arith); waits = stands 1000000 (omega arith) }

nothing_failed : NothingFailed (line_of (codes "step 1")) off off
unfolding operand ends
nothing_failed = record { none = rose_none; misses = λ tells disk rose. absurd tells; seen = tt }

is_line : (log : Log) (room : Room) → IsLine log room (codes "step 1") answer off off
unfolding operand ends
is_line log room = record {
  does = NoStepWhileOff refl (refl, refl);
  goes = same_goes log.run (role_of (line_of (codes "step 1"))) answer off off between (omega arith) refl;
  orders = λ others. refl;
  whole = tt;
  between = between;
  named = tt;
}

pub nothing_may_fail : NothingMayFail
nothing_may_fail log room = (codes "step 1", refusal.NoGroup, off, off, is_line log room, nothing_failed)

-- ---- and one that is answered

abbrev said : Reply
said = reply.Answers (codes "ok\n") 0

nothing_failed_too : NothingFailed (line_of (codes "wait")) off off
unfolding ends
nothing_failed_too = record { none = rose_none; misses = λ tells disk rose. absurd tells; seen = tt }

is_line_too : (log : Log) (room : Room) → IsLine log room (codes "wait") said off off
unfolding ends
is_line_too log room = record {
  does = WhileOff (record { off = refl; answers = []; takes = NoGone; new_is = refl; tells = TellsAll refl });
  goes = same_goes log.run (role_of (line_of (codes "wait"))) said off off between (omega arith) refl;
  orders = λ others. refl;
  whole = tt;
  between = between;
  named = tt;
}

pub nothing_may_fail_answered : NothingMayFailAnswered
nothing_may_fail_answered log room = (codes "wait", codes "ok\n", off, off, is_line_too log room, nothing_failed_too)

-- ---- and on no session

pub nothing_may_happen : NothingMayHappen
unfolding ends
nothing_may_happen log room = (codes "wait", said, off, off, is_line_too log room, tt, record { none = λ failed. absurd (let e = failed.on in cc e); lit = stands 1 (omega arith) })
