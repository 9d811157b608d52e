-- What a load tells in which a copy stayed stale.
use Rattle.std.proofs.Common.{◌≡◌, ◌≤◌, ◌+◌, ℕ, Bool, true, false, Option, Some, None, sym, ◌∙◌, arith}
use Rattle.std.specs.Prelude.{is_some}
use Rattle.lvm_load.specs.declared.workload.Woven.{Woven}
use Rattle.lvm_top.specs.passed.GroupLines.{Refusal}
use Rattle.lvm_top.specs.passed.ReplyVariants as reply
use Rattle.lvm_top.specs.declared.script.Stop.{Stop}
use Rattle.lvm_top.specs.declared.status.ExitStatus.{ExitStatus}
use Rattle.lvm_top.specs.Script.{Passage, Stream}
use Rattle.lvm_top.specs.Statuses.{status_of}
use Rattle.lvm_top.specs.Turn.{Tells}
use Rattle.lvm_top.proofs.ScriptLemmas.Scripting.{said_few}
use Rattle.lvm_program.specs.Loaded.{FailedFirst, TellsBoth, ToldBoth, with_refusal}
use Rattle.lvm_program.specs.Woven.{TellsWoven, refusals_told}

-- one refusal is told at most
pub one_told : (why : Refusal) (refused : ℕ) (out : Passage) (stop : Option Stop) → Tells (reply.Refused why) 0 refused out stop → refused ≤ 1
one_told why refused out stop tells = let few = said_few (reply.Refused why) tells.said tells.says in let count = tells.counted in omega (arith, few, count)

-- the run ends with it
pub failed_first : (why : Refusal) (woven : Woven) (requests : ℕ) (stop : Option Stop) (refused : ℕ) (out : Passage) → Tells (reply.Refused why) 0 refused out stop → (stops : Bool) → stops ≡ is_some stop → stops ≡ true
    → (status : ExitStatus) → status ≡ status_of stop refused → TellsBoth why woven requests status refused out
failed_first why woven requests (Some stop) refused out tells stops is ends status status_is = FailedFirst stop tells status_is
failed_first why woven requests None refused out tells stops is ends status status_is = absurd (let e : false ≡ true = sym is ∙ ends in cc e)

-- or goes on
pub told_both : (why : Refusal) (woven : Woven) (requests : ℕ) (stop : Option Stop) (before mid after : Stream) (first : ℕ) → Tells (reply.Refused why) 0 first (record { before = before; after = mid }) stop
    → (stops : Bool) → stops ≡ is_some stop → stops ≡ false → (last : ExitStatus) → TellsWoven woven requests last (record { before = mid; after = after }) → (status : ExitStatus) → status ≡ with_refusal last → (refused : ℕ) → refused ≡ first + refusals_told woven
    → TellsBoth why woven requests status refused (record { before = before; after = after })
told_both why woven requests None before mid after first tells stops is goes last totals status status_is refused refused_is = ToldBoth mid first last tells totals status_is refused_is
told_both why woven requests (Some stop) before mid after first tells stops is goes last totals status status_is refused refused_is = absurd (let e : true ≡ false = sym is ∙ goes in cc e)
