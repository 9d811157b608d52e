-- A run that meets what the law of runs that order nothing asks: one disk, and the line `step 1`, which is refused since no group is on.
use Rattle.std.specs.Prelude.{codes}
use Rattle.std.proofs.Common.{[], ◌∷◌, Some, inl, ⊎_elim, refl, arith}
use Rattle.lvm_disk.specs.Device.{IsReady}
use Rattle.lvm_order_laws.specs.Worked.{fresh}
use Rattle.lvm_order_laws.proofs.AloneLemmas.{fresh_is_unharmed}
use Rattle.lvm_parse.specs.Reading.{ends, operand}
use Rattle.lvm_parse.specs.Grammar.{line_of}
use Rattle.lvm_top.specs.passed.RefusalVariants as refusal
use Rattle.lvm_top.proofs.passed.GroupLines.{same_goes}
use Rattle.lvm_top.specs.passed.Line.{IsLine, role_of}
use Rattle.lvm_top.specs.passed.GroupLines.{IsAlone, Role, IsBetween, Reply, ScriptState}
use Rattle.lvm_top.specs.passed.RangeLines.{NoStepWhileOff}
use Rattle.lvm_top.specs.passed.ReplyVariants as reply
use Rattle.lvm_top.specs.declared.status.ExitStatus.TheVariants as ended
use Rattle.lvm_top.specs.Ending.{NoneIsOn}
use Rattle.lvm_top.specs.Run.{Run, IsRun}
use Rattle.lvm_top.specs.Script.{AreDone, Script, NoLine, NextLine, AtLine, empty_log, entry_state}
use Rattle.lvm_program.specs.Heeding.{SomeRunGoesWell}
use Rattle.lvm_program.specs.Sim.{full_room}
use Rattle.lvm_program.specs.Woven.{untold}

abbrev off : ScriptState
off = entry_state fresh 50

abbrev answer : Reply
answer = reply.Refused refusal.NoGroup

abbrev its_run : Run
its_run = record { named = 50; last = 50; room = full_room; entry = fresh; exit = fresh; input = untold; output = untold; history = Some (empty_log 50 full_room); status = ended.Refusals; refused = 1 }

fresh_is_ready : IsReady fresh
fresh_is_ready = record { flights = refl; freed = refl; power = refl }

between : IsBetween off.moment off.session off.posts
between = record {
  lit = record { power = refl; freed = refl };
  descriptors = λ disk at value flies. absurd flies;
  landed = λ id. refl;
  session = tt;
  posted = record { each = λ k d less. absurd (omega (arith, less)); rise = λ i j d lt less. absurd (omega (arith, less)) };
}

is_line : IsLine (empty_log 50 full_room) full_room (codes "step 1") answer off off
unfolding operand ends
is_line = record {
  does = NoStepWhileOff refl (refl, refl);
  goes = same_goes 50 (role_of (line_of (codes "step 1"))) answer off off between (omega arith) refl;
  orders = λ others. refl;
  whole = tt;
  between = between;
  named = tt;
}

a_line : Script (empty_log 50 full_room) full_room off (codes "step 1" ∷ []) (answer ∷ []) off
a_line = NextLine (codes "step 1") answer answer (λ stuck. cc stuck) (inl refl) NoLine is_line

its_lines : AreDone (empty_log 50 full_room) full_room off off untold untold 1
unfolding a_line
its_lines = record {
  lines = codes "step 1" ∷ [];
  replies = answer ∷ [];
  mid = off;
  script = a_line;
  done = [];
  said = [];
  front = [];
  ends = AtLine refl;
  read = λ bytes told. absurd (cc (told));
  written = tt;
  in_full = inl refl;
  counted = refl;
}

it_ran : IsRun its_run
unfolding a_line its_lines operand ends
it_ran = record {
  ready = fresh_is_ready;
  history_is = refl;
  none = tt;
  read_words = λ is. cc (is);
  counted = λ end. refl;
  end = off;
  lines = its_lines;
  concluded = record { concludes = NoneIsOn refl refl; still = λ none. refl; rests = λ none heard. fresh_is_ready; clock = refl };
  whole = λ end. (refl, tt);
  between = λ no_sink no_stuck. refl;
  wanting = λ is. absurd (cc (is));
  behind = λ is. absurd (cc (is));
  beyond = λ cause. ⊎_elim (λ is. absurd (cc (is))) (λ is. absurd (cc (is))) cause;
  source = λ is. absurd (cc (is));
  sink = λ is. absurd (cc (is));
  read_well = λ no. refl;
  written_well = λ no_sink no_stuck. refl;
  stuck = λ is. absurd (cc (is));
  heard = λ no. tt;
  long = λ is. absurd (cc (is));
  short = λ no. tt;
  power = refl;
}

-- nothing is entered, and no session is on
alone : (role : Role) → IsAlone role off off
alone role = record { enters = λ more. absurd (omega (arith, more)); acts = λ acts. tt }

pub some_run_goes_well : SomeRunGoesWell
unfolding a_line its_lines it_ran operand ends
some_run_goes_well = (its_run, (it_ran, tt, ((tt, alone _), tt, λ requests. alone _), fresh_is_unharmed, ((tt, λ order. order), tt), refl))
