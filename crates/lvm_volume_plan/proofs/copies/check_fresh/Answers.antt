use Rattle.std.proofs.Common.{◌≡◌, ℕ, ◌<◌, subst}
use Rattle.std.specs.Prelude.{IsFalse}
use Rattle.lvm_num.specs.declared.descriptor.LvRow.{LvRow}
use Rattle.lvm_num.specs.declared.status.Status.{Status}
use Rattle.lvm_num.specs.Descriptor.{volume_of}
use Rattle.lvm_map.proofs.PlacesLemmas.{volume_is, laid_out}
use Rattle.lvm_volume_plan.specs.CopiesFaults.{MayShrink, is_loss, IsFirstLoss}
use Rattle.lvm_volume_plan.proofs.DescriptorLemmas.{found_is, one_volume}
use Rattle.lvm_volume_plan.proofs.copies.check_fresh.Goals as goal

pub first_loss-requires-clause-whole : goal.first_loss-requires-clause-whole
first_loss-requires-clause-whole g c =
    (laid_out c.descriptor.result.now c.args.lv c.in-Some.row.now c.descriptor.ensures.valid (volume_is c.descriptor.result.now c.args.lv c.as_slice.result.now c.in-Some.row.now c.in-Some.ensures c.as_slice.ensures)).whole

pub returns-in-Some-first_loss-clause-refused : goal.returns-in-Some-first_loss-clause-refused
returns-in-Some-first_loss-clause-refused g c =
    let core = c.args.driver.now.1 in
    let volume = found_is core.descriptor c.descriptor.result.now c.args.lv c.as_slice.result.now c.in-Some.row.now c.in-Some.ensures c.as_slice.ensures c.descriptor.ensures.same in
    let same : c.requires.may.0 ≡ c.in-Some.row.now = one_volume (volume_of core.descriptor c.args.lv) c.requires.may.0 c.in-Some.row.now c.requires.may.1.found.volume volume in (
      c.in-Some.row.now,
      subst (λ (r : LvRow). MayShrink c.args.lv c.args.copies core r) same c.requires.may.1,
      subst (λ (s : Status). IsFirstLoss s c.in-Some.row.now c.args.copies c.in-Some-first_loss.lp) c.table.ensures c.in-Some-first_loss.ensures.some,
    )

pub returns-in-None-clause-none : goal.returns-in-None-clause-none
returns-in-None-clause-none g c =
    let core = c.args.driver.now.1 in
    let volume = found_is core.descriptor c.descriptor.result.now c.args.lv c.as_slice.result.now c.in-Some.row.now c.in-Some.ensures c.as_slice.ensures c.descriptor.ensures.same in
    let same : c.requires.may.0 ≡ c.in-Some.row.now = one_volume (volume_of core.descriptor c.args.lv) c.requires.may.0 c.in-Some.row.now c.requires.may.1.found.volume volume in (
      c.in-Some.row.now,
      record {
        shrinks = subst (λ (r : LvRow). MayShrink c.args.lv c.args.copies core r) same c.requires.may.1;
        each = subst (λ (s : Status). (lp : ℕ) → lp < c.in-Some.row.now.lps → IsFalse (is_loss s c.in-Some.row.now c.args.copies lp)) c.table.ensures c.in-None.ensures.none;
      },
    )
