use Rattle.std.proofs.Common.{◌≡◌, ◌≤◌, length, ap, subst, arith}
use Rattle.lvm_num.specs.declared.record.Kind.TheVariants as kind
use Rattle.lvm_num.specs.declared.status.Status.{Status}
use Rattle.lvm_num.specs.Record.{longest_content}
use Rattle.lvm_num.specs.Status.{IsValidStatus}
use Rattle.lvm_num.specs.StatusBytes.{status_bytes}
use Rattle.lvm_commit.proofs.RecordLemmas.{status_fits}
use Rattle.lvm_turnover.proofs.turning.spell_status.Goals as goal

pub encode_into-requires-clause-fits : goal.encode_into-requires-clause-fits
encode_into-requires-clause-fits c =
    let few : length (status_bytes c.args.told.now) ≤ longest_content kind.Status = status_fits c.args.told.now (subst IsValidStatus c.as_status.ensures.same c.as_status.ensures.valid) in
    let same : length (status_bytes c.as_status.result.now) ≡ length (status_bytes c.args.told.now) = ap (λ (x : Status). length (status_bytes x)) c.as_status.ensures.same in
    omega (arith, few, same, c.requires, c.deref_mut.ensures.len)
