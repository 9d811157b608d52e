use Rattle.std.proofs.Common.{sym, ◌∙◌, ap}
use Rattle.lvm_num.specs.declared.status.Status.{Status}
use Rattle.lvm_num.specs.declared.place.Pp.{Pp}
use Rattle.lvm_num.specs.Status.{calls_stale}
use Rattle.lvm_num.specs.Descriptor.{is_pp}
use Rattle.lvm_calls.proofs.MarksLemmas.{already, same_pp}
use Rattle.lvm_calls.proofs.wanted.want_stale.Goals as goal

pub returns-else-not-is_stale : goal.returns-else-not-is_stale
returns-else-not-is_stale c = already (λ (p : Pp). is_pp p c.args.pp) c.args.updater.now
    (λ p is. same_pp c.args.updater.now.wanted p c.args.pp is (ap (λ (s : Status). calls_stale s c.args.pp) (sym c.wanted.ensures) ∙ sym c.is_stale.ensures ∙ c.if-not-is_stale.false))
