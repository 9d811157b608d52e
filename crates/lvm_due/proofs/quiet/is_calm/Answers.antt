use Rattle.std.proofs.Common.{sym, ◌∙◌, ap}
use Rattle.std.specs.Option.{option_copied}
use Rattle.std.proofs.lemmas.Bool.{not-true}
use Rattle.lvm_num.proofs.Lists.{none_there}
use Rattle.lvm_due.proofs.EnabledLemmas.Calm.{same_one}
use Rattle.lvm_due.proofs.quiet.is_calm.Goals as goal

pub returns : goal.returns
returns c is = record {
  copy = none_there c.args.session.now.copy (sym c.is_some.ensures ∙ c.if-is_some.false);
  flight = sym c.in_flight.ensures ∙ ap option_copied (none_there c.in_flight.result (sym c.is_some-else-is_some.ensures ∙ c.if-is_some-2.false));
  same = same_one c.args.session.now.updater.wanted c.args.session.now.updater.committed c.differs.result c.differs.ensures (not-true c.differs.result is);
}
