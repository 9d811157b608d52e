use Rattle.std.proofs.Common.{Bor, ◌≡◌, ◌∙◌, map, Option, Result, Ok, Err, IfOk, sym, ap, subst}
use Rattle.std.specs.Prelude.{ok_or}
use Rattle.clap.specs.Words.{Text, fault_of, subcommand_of}
use Rattle.lvm_words.specs.CommandLine.{lvm_app}
use Rattle.lvm_words.specs.Matched.{job_matched}
use Rattle.lvm_words.specs.Words.{IsJobWithinLimits, work_of}
use Rattle.lvm_words.specs.declared.job.Job.{Job}
use Rattle.lvm_words.specs.declared.fault.WordsFault.{WordsFault}
use Rattle.lvm_words.specs.declared.fault.WordsFault.TheVariants.{Usage}
use Rattle.lvm_words.proofs.WordsLemmas.{handed_on, job_found, none_asked, not_plain}
use Rattle.lvm_words.proofs.read.read_work.Goals as goal

pub returns-in_err-plain-clause-usage : goal.returns-in_err-plain-clause-usage
returns-in_err-plain-clause-usage c is = not_plain c.args.words.now (c.in_err-plain.ensures.usage (ap Err (handed_on c.from_residual.result c.in_err-plain.field-0.0 Usage c.from_residual.ensures.1 is)))

pub returns-in_err-matches-clause-usage : goal.returns-in_err-matches-clause-usage
returns-in_err-matches-clause-usage c is =
    let words_are : map (λ w. w.now) c.as_slice.result.now ≡ c.args.words.now = ap (map (λ (w : Bor Text). w.now)) c.as_slice.ensures.value ∙ c.in_ok-plain.ensures.same in
    let same = handed_on c.from_residual-in_err-matches.result c.in_err-matches.field-0.0 Usage c.from_residual-in_err-matches.ensures.1 is in
    none_asked c.args.words.now c.in_ok-plain.ensures.plain (λ free. c.in_err-matches.ensures.usage (ap Err same) (ap (fault_of lvm_app) words_are ∙ free))

-- the job that was found, as the answer
answered : (c : goal.After-drop-plain-2) → (j : Job) × (c.ok_or.result ≡ Ok j) × (work_of c.args.words.now ≡ Ok j) × IsJobWithinLimits j
answered c =
    let words_are : map (λ w. w.now) c.as_slice.result.now ≡ c.args.words.now = ap (map (λ (w : Bor Text). w.now)) c.as_slice.ensures.value ∙ c.in_ok-plain.ensures.same in
    let found = job_found c.args.words.now c.in_ok-plain.ensures.plain (ap (fault_of lvm_app) (sym words_are) ∙ c.in_ok-matches.ensures.faultless) c.job_in.result
    (c.job_in.ensures ∙ ap job_matched (c.in_ok-matches.ensures.found ∙ ap (subcommand_of lvm_app) words_are)) in
    (found.0, c.ok_or.ensures.value ∙ ap (λ (o : Option Job). ok_or o Usage) found.1, found.2, found.3)

pub returns-clause-job : goal.returns-clause-job
returns-clause-job c = let job = answered c in subst (λ (r : Result Job WordsFault). IfOk r (λ j. work_of c.args.words.now ≡ Ok j)) (sym job.1) job.2

pub returns-clause-usage : goal.returns-clause-usage
returns-clause-usage c is = let job = answered c in absurd (cc)

pub returns-clause-within : goal.returns-clause-within
returns-clause-within c = let job = answered c in subst (λ (r : Result Job WordsFault). IfOk r IsJobWithinLimits) (sym job.1) job.3
