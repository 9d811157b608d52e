use Rattle.std.proofs.Common.{sym, ◌∙◌, ap}
use Rattle.std.specs.Bool.{one_answer}
use Rattle.lvm_num.specs.declared.status.Status.{Status}
use Rattle.lvm_status.proofs.Same.{same_status as same_by_eq, status_one as one_by_eq, status_own}
use Rattle.lvm_session.specs.Enabled.{same_status}
use Rattle.lvm_session.proofs.EnabledLemmas.{status_one}
use Rattle.lvm_due.proofs.work_left_status.says_the_same.Goals as goal

pub returns : goal.returns
returns c =
    one_answer c.eq.result (same_status c.args.a.now c.args.b.now)
    (λ is. one_by_eq c.args.a.now c.args.b.now (sym c.eq.ensures ∙ is), λ same. c.eq.ensures ∙ ap (λ (s : Status). same_by_eq c.args.a.now s) (sym same) ∙ status_own c.args.a.now)
    (status_one c.args.a.now c.args.b.now)
