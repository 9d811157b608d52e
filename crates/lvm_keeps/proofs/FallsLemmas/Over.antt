-- Nothing is left once a session is over.
use Rattle.std.proofs.Common.{◌≡◌, true, refl}
use Rattle.lvm_num.proofs.Booleans.{not_so}
use Rattle.lvm_session.specs.declared.open.Power.{Power}
use Rattle.lvm_session.specs.declared.open.Power.TheVariants as power
use Rattle.lvm_session.specs.State.{Core}
use Rattle.lvm_session.specs.Causes.{is_over}
use Rattle.lvm_session.specs.Left.{left_by}
use Rattle.lvm_keeps.specs.Falls.{OverLeavesNothing}

by_power : (p : Power) (core : Core) → is_over p ≡ true → left_by p core ≡ 0
by_power power.On core over = not_so over
by_power power.Off core over = refl
by_power power.Dark core over = refl
by_power power.Stuck core over = not_so over

pub over_leaves_nothing : OverLeavesNothing
over_leaves_nothing s over = by_power s.core.power s.core over
