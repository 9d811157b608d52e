use Rattle.std.proofs.Common.{Option, false, sym, ap, subst}
use Rattle.std.specs.Option.{option_map_or}
use Rattle.lvm_session.specs.declared.bringing.OpenCopy.{OpenCopy}
use Rattle.lvm_session.specs.Fields.{core_of}
use Rattle.lvm_session.specs.State.{Core, state}
use Rattle.lvm_handover.specs.passed.Core.{IsSoundAtRest}
use Rattle.lvm_handover.proofs.SettlingLemmas.Resting.{is_between, is_settled}
use Rattle.lvm_handover.proofs.handover.settle.Goals as goal

pub returns-clause-settled : goal.returns-clause-settled
returns-clause-settled g c = is_settled (state (g.S.Shelf.device c.args.driver.0) c.args.driver.1) c.into_parts-shelf.ensures.sound c.requires.may.drained c.requires.may.none c.requires.may

pub returns-clause-between : goal.returns-clause-between
returns-clause-between g c = is_between (state (g.S.Shelf.device c.args.driver.0) c.args.driver.1) c.into_parts-shelf.ensures.sound c.requires.may

pub from_parts-requires-clause-sound : goal.from_parts-requires-clause-sound
from_parts-requires-clause-sound g c =
    subst (λ shelf. IsSoundAtRest (state (g.S.Shelf.device shelf) (core_of c.into_parts-shelf.result.1))) (sym c.into_parts-shelf.ensures.shelf)
    (subst (λ (core : Core). IsSoundAtRest (state (g.S.Shelf.device c.args.driver.0) core)) (sym c.into_parts-shelf.ensures.core)
    (is_between (state (g.S.Shelf.device c.args.driver.0) c.args.driver.1) c.into_parts-shelf.ensures.sound c.requires.may))

pub returns-clause-sound : goal.returns-clause-sound
returns-clause-sound g c = c.into_parts-shelf.ensures.sound

pub into_parts-shelf-requires : goal.into_parts-shelf-requires
into_parts-shelf-requires g c = record { unmoved = ap (λ (m : Option OpenCopy). option_map_or (λ (k : OpenCopy). k.moves) m false) c.requires.may.none.copy }
