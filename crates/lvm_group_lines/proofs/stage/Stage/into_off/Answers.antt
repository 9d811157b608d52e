use Rattle.std.proofs.Common.{◌≡◌, refl, ap}
use Rattle.std.specs.Prelude.{IsSome}
use Rattle.lvm_vol.specs.Log.{Log}
use Rattle.lvm_group_lines.specs.Stages.{session_of}
use Rattle.lvm_group_lines.specs.declared.holder.Holder.{Holder}
use Rattle.lvm_group_lines.specs.declared.holder.Holder.TheVariants as holder
use Rattle.lvm_group_lines.proofs.stage.Stage.into_off.Goals as goal

-- a group is on unless none is
on_unless : {S : Type 0} (it : Holder S) → ((shelf : S) (log : Log) → it ≡ holder.Off shelf log → ⊥) → IsSome (session_of it)
on_unless (holder.Off shelf log) other = absurd (other shelf log refl)
on_unless (holder.Empty driver) other = refl
on_unless (holder.Serving driver) other = refl

pub returns-in-Off-clause-off : goal.returns-in-Off-clause-off
returns-in-Off-clause-off g c = ap (λ (h : Holder g.row.S.Denot). record { holder = h; posts = c.args.self.posts; bytes = c.args.self.bytes }) c.in-Off.is

pub returns-in-Off-clause-ordered : goal.returns-in-Off-clause-ordered
returns-in-Off-clause-ordered g c = c.run.ensures.ordered

pub returns-in_default-clause-on : goal.returns-in_default-clause-on
returns-in_default-clause-on g c = on_unless c.args.self.holder c.in_default.not-Off
