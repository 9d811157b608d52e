-- Of a session that is written out a member may be a spare.
use Rattle.std.proofs.Common.{refl, arith}
use Rattle.std.specs.Prelude.{Bool, true, false, IsTrue, IsFalse}
use Rattle.std.proofs.lemmas.Bool.{false≢true}
use Rattle.lvm_num.specs.declared.descriptor.Mode.{Mode}
use Rattle.lvm_num.specs.declared.descriptor.Mode.TheVariants as mode
use Rattle.lvm_volume_plan.specs.Faults.{HasSpareRoom, TakesCommands}
use Rattle.lvm_members.specs.Worked.{MayHaveSpares, MirrorsMayHaveSpares, calm_core}

takes : (m : Mode) → TakesCommands (calm_core m)
takes m = record { on = refl; requests = refl }

room : (m : Mode) → HasSpareRoom (calm_core m)
room m = record { entries = omega arith; numbers = omega arith }

pub mirrors_may_have_spares : MirrorsMayHaveSpares
mirrors_may_have_spares m = record {
  third = record { may = record { takes = takes m; unused = λ on. refl }; room = room m };
  first = (takes m, refl, refl, refl);
  none = record { may = record { takes = takes m; unused = λ on. absurd (false≢true on) }; room = room m };
}
