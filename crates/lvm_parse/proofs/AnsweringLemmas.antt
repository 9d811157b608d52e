-- What the rule of its first word answers is what a line is answered.
use Rattle.std.proofs.Common.{◌≡◌, Bool, true, false, cond, Some, None, Result, Ok, Err, sym, ap, subst}
use Rattle.lvm_parse.specs.declared.rest.Misfit.{Misfit}
use Rattle.lvm_parse.specs.Bytes.{is_remark}
use Rattle.lvm_parse.specs.Line.{WordAt, Left}
use Rattle.lvm_parse.specs.Reading.{then_}
use Rattle.lvm_parse.specs.Rests.{with_word}
use Rattle.lvm_parse.specs.declared.command.Command.{Command}
use Rattle.lvm_parse.specs.declared.command.Command.TheVariants as command
use Rattle.lvm_parse.specs.declared.command.ParseFault.{ParseFault}
use Rattle.lvm_parse.specs.declared.command.ParseFault.TheVariants as fault
use Rattle.lvm_parse.specs.Grammar.{rows, rule, line_of_words}
use Rattle.lvm_parse.specs.Answering.{Answers, AnswersLine}

-- a command's fault is its line's
of_line : (read : Result Command Misfit) (why : ParseFault) → Answers read (Err why) → AnswersLine (then_ read (λ c. Ok (Some c))) (Err why)
of_line (Ok c) (fault.BadLine column) is = absurd (cc (is))
of_line (Err e) (fault.BadLine column) is = let same : e ≡ record { column = column } = cc (is) in ap Err same
of_line (Ok (command.Mkvg force name mib disks)) fault.MkvgMemory is = tt
of_line read fault.MkvgMemory is = absurd is
of_line (Ok (command.Reducevg name disks)) fault.ReducevgMemory is = tt
of_line read fault.ReducevgMemory is = absurd is

-- so where these are the line's words
pub line_is_refused : (l rest : Left) (w : WordAt) (why : ParseFault) → l ≡ with_word w rest → is_remark w.bytes ≡ false → Answers (rule rows w.bytes w.column rest) (Err why) → AnswersLine (line_of_words l.words l.end) (Err why)
line_is_refused l rest w why is plain answers = subst (λ (k : Left). AnswersLine (line_of_words k.words k.end) (Err why)) (sym is) (at (is_remark w.bytes) plain)
  where
    at : (b : Bool) → b ≡ false → AnswersLine (cond b (Ok None) (then_ (rule rows w.bytes w.column rest) (λ c. Ok (Some c)))) (Err why)
    at false plain = of_line (rule rows w.bytes w.column rest) why answers
    at true plain = absurd (cc (plain))
