use Rattle.std.proofs.Common.{sym, subst}
use Rattle.std.specs.Prelude.{IfNone}
use Rattle.lvm_num.specs.declared.descriptor.Descriptor.{Descriptor}
use Rattle.lvm_core.specs.Looking.{HasNoVolumeNamed}
use Rattle.lvm_top.specs.passed.GroupLines.{Holder, session_of}
use Rattle.lvm_program.specs.Loaded.{LacksVolume}
use Rattle.lvm_program.proofs.load.volume_in.Goals as goal

pub returns-in-Serving-clause-none : goal.returns-in-Serving-clause-none
returns-in-Serving-clause-none g c =
    subst (λ (h : Holder _). IfNone c.volume_of.result (LacksVolume (session_of h) c.args.name)) (sym c.in-Serving.is)
    (subst (λ (d : Descriptor). IfNone c.volume_of.result (HasNoVolumeNamed d.lvs c.args.name)) c.descriptor.ensures.same c.volume_of.ensures.none)
