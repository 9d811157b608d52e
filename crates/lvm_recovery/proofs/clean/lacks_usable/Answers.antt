use Rattle.std.proofs.Common.{ℕ, None, sym, ap, subst, ◌∙◌, arith}
use Rattle.lvm_num.specs.Descriptor.{copies_of}
use Rattle.lvm_num.specs.Disks.{has}
use Rattle.lvm_recovery.specs.Plan.{usable_by}
use Rattle.lvm_recovery.specs.Dirty.{IsFirstAt, FindsUsable}
use Rattle.lvm_recovery.proofs.CleanLemmas.{still_none, found_lacking, none_lacking}
use Rattle.lvm_recovery.proofs.clean.lacks_usable.Goals as goal

pub returns-in-None : goal.returns-in-None
returns-in-None c = sym (found_lacking c.args.table.now (has c.args.disks) c.args.row.now c.loop-lp.lp c.args.row.now.lps c.loop-lp-test.true
    (subst (λ pps. FindsUsable (usable_by c.args.table.now (has c.args.disks)) pps None) (c.pps_at.ensures ∙ ap (λ (n : ℕ). copies_of c.args.row.now n) c.from.ensures) c.in-None.ensures))

pub loop-lp-preserved : goal.loop-lp-preserved
loop-lp-preserved c = record {
  none = still_none c.args.table.now (has c.args.disks) c.args.row.now c.loop-lp.lp c.in-Some.field-0 c.loop-lp.invariant.none
      (subst (λ pps. IsFirstAt (usable_by c.args.table.now (has c.args.disks)) pps c.in-Some.field-0) (c.pps_at.ensures ∙ ap (λ (n : ℕ). copies_of c.args.row.now n) c.from.ensures) c.in-Some.ensures);
}

pub returns : goal.returns
returns c = sym (none_lacking c.args.table.now (has c.args.disks) c.args.row.now c.loop-lp.lp c.args.row.now.lps (let f = c.loop-lp-test.false in omega (arith, f)) c.loop-lp.invariant.none)
