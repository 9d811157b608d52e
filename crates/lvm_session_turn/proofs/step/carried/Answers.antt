use Rattle.std.proofs.Common.{◌≡◌, true, false, Option, subst}
use Rattle.std.specs.Option.{option_map_or}
use Rattle.lvm_session.specs.declared.bringing.OpenCopy.{OpenCopy}
use Rattle.lvm_session.specs.Bringing.{is_out}
use Rattle.lvm_session_turn.proofs.step.carried.Goals as goal

pub unreachable-requires : goal.unreachable-requires
unreachable-requires c = absurd (let e = subst (λ (m : Option OpenCopy). option_map_or (λ (d : OpenCopy). is_out d.step) m false ≡ true) c.in-None.is c.requires in cc e)

pub carried_by-requires : goal.carried_by-requires
carried_by-requires c = subst (λ (m : Option OpenCopy). option_map_or (λ (d : OpenCopy). is_out d.step) m false ≡ true) c.in-Some.is c.requires

pub returns : goal.returns
returns c = record { copy = c.in-Some.copy; is_open = c.in-Some.is; its = c.carried_by.ensures }
