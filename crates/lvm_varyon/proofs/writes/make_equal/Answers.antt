use Rattle.std.proofs.Common.{◌++◌, List, subst, sym}
use Rattle.std.specs.Prelude.{All}
use Rattle.lvm_num.specs.declared.descriptor.Descriptor.{Descriptor}
use Rattle.lvm_num.specs.Descriptor.{IsValid}
use Rattle.lvm_num.specs.Disks.{has}
use Rattle.lvm_write.specs.declared.begin.Begun.TheVariants as begun
use Rattle.lvm_varyon.specs.passed.Recovery.{Recopy, AreApart, MayCopy, EqualiseGives, EqualisedStaysKept, copies_dirty}
use Rattle.lvm_varyon.specs.Copied.{all_copies}
use Rattle.lvm_varyon.proofs.EqualLemmas.Equalising.{got_stuck, made_equal, one_failed, spends_all, went_dark}
use Rattle.lvm_varyon.proofs.writes.make_equal.Goals as goal

pub equalise-requires-clause-valid : goal.equalise-requires-clause-valid
equalise-requires-clause-valid g c = subst IsValid (sym c.descriptor.ensures.same) c.requires.may.valid

pub equalise-requires-clause-ranges : goal.equalise-requires-clause-ranges
equalise-requires-clause-ranges g c =
    let plan = c.args.plan.now in
    subst (λ (d : Descriptor). All (MayCopy (g.S.Shelf.device c.args.shelf.now).sizes) (c.as_slice.result.now ++ copies_dirty d plan.copying.table (has plan.targets))) (sym c.descriptor.ensures.same)
    (subst (λ (l : List Recopy). All (MayCopy (g.S.Shelf.device c.args.shelf.now).sizes) (l ++ copies_dirty plan.parts.descriptor plan.copying.table (has plan.targets))) (sym c.as_slice.ensures) c.requires.may.ranges)

pub equalise-requires-clause-apart : goal.equalise-requires-clause-apart
equalise-requires-clause-apart g c =
    let plan = c.args.plan.now in
    subst (λ (d : Descriptor). AreApart (c.as_slice.result.now ++ copies_dirty d plan.copying.table (has plan.targets))) (sym c.descriptor.ensures.same)
    (subst (λ (l : List Recopy). AreApart (l ++ copies_dirty plan.parts.descriptor plan.copying.table (has plan.targets))) (sym c.as_slice.ensures) c.requires.may.apart)

pub equalise-requires-clause-fits : goal.equalise-requires-clause-fits
equalise-requires-clause-fits g c = c.requires.may.fits

pub equalise-requires-clause-targets : goal.equalise-requires-clause-targets
equalise-requires-clause-targets g c = c.requires.may.targets

pub returns-in-Ended : goal.returns-in-Ended
returns-in-Ended g c =
    let plan = c.args.plan.now in
    let old = g.S.Shelf.device c.args.shelf.now in
    let new = g.S.Shelf.device c.equalise.new.shelf in
    let e = c.in-Ended.ensures in
    let gives = subst (λ (l : List Recopy). EqualiseGives (l ++ copies_dirty plan.parts.descriptor plan.copying.table (has plan.targets)) plan.second c.args.moment (has plan.targets) c.args.homes c.equalise.new.homes c.args.buf.number c.args.patience.now.left c.equalise.new.patience.left old new (begun.Ended c.in-Ended.buf)) c.as_slice.ensures
    (subst (λ (d : Descriptor). EqualiseGives (c.as_slice.result.now ++ copies_dirty d plan.copying.table (has plan.targets)) plan.second c.args.moment (has plan.targets) c.args.homes c.equalise.new.homes c.args.buf.number c.args.patience.now.left c.equalise.new.patience.left old new (begun.Ended c.in-Ended.buf)) c.descriptor.ensures.same e.gives) in
    record {
      gives = made_equal (all_copies plan) plan.second c.args.moment (has plan.targets) c.args.homes c.equalise.new.homes c.args.buf.number c.args.patience.now.left c.equalise.new.patience.left old new c.in-Ended.buf gives;
      spends = spends_all (all_copies plan) plan.second c.args.moment (has plan.targets) c.args.homes c.equalise.new.homes c.args.buf.number c.args.patience.now.left c.equalise.new.patience.left old new (begun.Ended c.in-Ended.buf) gives;
      kept = subst (λ (l : List Recopy). EqualisedStaysKept (l ++ copies_dirty plan.parts.descriptor plan.copying.table (has plan.targets)) plan.second c.args.moment (has plan.targets) c.args.homes old new) c.as_slice.ensures
          (subst (λ (d : Descriptor). EqualisedStaysKept (c.as_slice.result.now ++ copies_dirty d plan.copying.table (has plan.targets)) plan.second c.args.moment (has plan.targets) c.args.homes old new) c.descriptor.ensures.same e.kept);
    }

pub returns-in-DiskFailed : goal.returns-in-DiskFailed
returns-in-DiskFailed g c =
    let plan = c.args.plan.now in
    let old = g.S.Shelf.device c.args.shelf.now in
    let new = g.S.Shelf.device c.equalise.new.shelf in
    let e = c.in-DiskFailed.ensures in
    let gives = subst (λ (l : List Recopy). EqualiseGives (l ++ copies_dirty plan.parts.descriptor plan.copying.table (has plan.targets)) plan.second c.args.moment (has plan.targets) c.args.homes c.equalise.new.homes c.args.buf.number c.args.patience.now.left c.equalise.new.patience.left old new (begun.DiskFailed c.in-DiskFailed.disk c.in-DiskFailed.buf)) c.as_slice.ensures
    (subst (λ (d : Descriptor). EqualiseGives (c.as_slice.result.now ++ copies_dirty d plan.copying.table (has plan.targets)) plan.second c.args.moment (has plan.targets) c.args.homes c.equalise.new.homes c.args.buf.number c.args.patience.now.left c.equalise.new.patience.left old new (begun.DiskFailed c.in-DiskFailed.disk c.in-DiskFailed.buf)) c.descriptor.ensures.same e.gives) in
    record {
      gives = one_failed (all_copies plan) plan.second c.args.moment (has plan.targets) c.args.homes c.equalise.new.homes c.args.buf.number c.args.patience.now.left c.equalise.new.patience.left old new c.in-DiskFailed.disk c.in-DiskFailed.buf gives;
      spends = spends_all (all_copies plan) plan.second c.args.moment (has plan.targets) c.args.homes c.equalise.new.homes c.args.buf.number c.args.patience.now.left c.equalise.new.patience.left old new (begun.DiskFailed c.in-DiskFailed.disk c.in-DiskFailed.buf) gives;
      kept = subst (λ (l : List Recopy). EqualisedStaysKept (l ++ copies_dirty plan.parts.descriptor plan.copying.table (has plan.targets)) plan.second c.args.moment (has plan.targets) c.args.homes old new) c.as_slice.ensures
          (subst (λ (d : Descriptor). EqualisedStaysKept (c.as_slice.result.now ++ copies_dirty d plan.copying.table (has plan.targets)) plan.second c.args.moment (has plan.targets) c.args.homes old new) c.descriptor.ensures.same e.kept);
    }

pub returns-in-Dark : goal.returns-in-Dark
returns-in-Dark g c =
    let plan = c.args.plan.now in
    let old = g.S.Shelf.device c.args.shelf.now in
    let new = g.S.Shelf.device c.equalise.new.shelf in
    let e = c.in-Dark.ensures in
    let gives = subst (λ (l : List Recopy). EqualiseGives (l ++ copies_dirty plan.parts.descriptor plan.copying.table (has plan.targets)) plan.second c.args.moment (has plan.targets) c.args.homes c.equalise.new.homes c.args.buf.number c.args.patience.now.left c.equalise.new.patience.left old new begun.Dark) c.as_slice.ensures
    (subst (λ (d : Descriptor). EqualiseGives (c.as_slice.result.now ++ copies_dirty d plan.copying.table (has plan.targets)) plan.second c.args.moment (has plan.targets) c.args.homes c.equalise.new.homes c.args.buf.number c.args.patience.now.left c.equalise.new.patience.left old new begun.Dark) c.descriptor.ensures.same e.gives) in
    record {
      gives = went_dark (all_copies plan) plan.second c.args.moment (has plan.targets) c.args.homes c.equalise.new.homes c.args.buf.number c.args.patience.now.left c.equalise.new.patience.left old new gives;
      spends = spends_all (all_copies plan) plan.second c.args.moment (has plan.targets) c.args.homes c.equalise.new.homes c.args.buf.number c.args.patience.now.left c.equalise.new.patience.left old new begun.Dark gives;
      kept = subst (λ (l : List Recopy). EqualisedStaysKept (l ++ copies_dirty plan.parts.descriptor plan.copying.table (has plan.targets)) plan.second c.args.moment (has plan.targets) c.args.homes old new) c.as_slice.ensures
          (subst (λ (d : Descriptor). EqualisedStaysKept (c.as_slice.result.now ++ copies_dirty d plan.copying.table (has plan.targets)) plan.second c.args.moment (has plan.targets) c.args.homes old new) c.descriptor.ensures.same e.kept);
    }

pub returns : goal.returns
returns g c =
    let plan = c.args.plan.now in
    let old = g.S.Shelf.device c.args.shelf.now in
    let new = g.S.Shelf.device c.equalise.new.shelf in
    let e = c.in-Stuck.ensures in
    let gives = subst (λ (l : List Recopy). EqualiseGives (l ++ copies_dirty plan.parts.descriptor plan.copying.table (has plan.targets)) plan.second c.args.moment (has plan.targets) c.args.homes c.equalise.new.homes c.args.buf.number c.args.patience.now.left c.equalise.new.patience.left old new begun.Stuck) c.as_slice.ensures
    (subst (λ (d : Descriptor). EqualiseGives (c.as_slice.result.now ++ copies_dirty d plan.copying.table (has plan.targets)) plan.second c.args.moment (has plan.targets) c.args.homes c.equalise.new.homes c.args.buf.number c.args.patience.now.left c.equalise.new.patience.left old new begun.Stuck) c.descriptor.ensures.same e.gives) in
    record {
      gives = got_stuck (all_copies plan) plan.second c.args.moment (has plan.targets) c.args.homes c.equalise.new.homes c.args.buf.number c.args.patience.now.left c.equalise.new.patience.left old new gives;
      spends = spends_all (all_copies plan) plan.second c.args.moment (has plan.targets) c.args.homes c.equalise.new.homes c.args.buf.number c.args.patience.now.left c.equalise.new.patience.left old new begun.Stuck gives;
      kept = subst (λ (l : List Recopy). EqualisedStaysKept (l ++ copies_dirty plan.parts.descriptor plan.copying.table (has plan.targets)) plan.second c.args.moment (has plan.targets) c.args.homes old new) c.as_slice.ensures
          (subst (λ (d : Descriptor). EqualisedStaysKept (c.as_slice.result.now ++ copies_dirty d plan.copying.table (has plan.targets)) plan.second c.args.moment (has plan.targets) c.args.homes old new) c.descriptor.ensures.same e.kept);
    }
