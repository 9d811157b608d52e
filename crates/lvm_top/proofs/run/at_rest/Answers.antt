use Rattle.std.specs.Prelude.{Option, false}
use Rattle.std.specs.Option.{option_map_or}
use Rattle.lvm_session.specs.declared.bringing.OpenCopy.{OpenCopy}
use Rattle.lvm_session.specs.Fields.{core_of}
use Rattle.lvm_session.specs.Judging.{is_moving}
use Rattle.lvm_top.proofs.EndingLemmas.{rests_not, rests_now}
use Rattle.lvm_top.proofs.run.at_rest.Goals.{then-is_quiet, else-is_quiet}
use Rattle.std.proofs.Common.{◌∙◌, ap, length}
use Rattle.lvm_top.proofs.run.at_rest.Goals as goal

pub returns-clause-rests : goal.returns-clause-rests
returns-clause-rests g c =
    let device = g.S.Shelf.device c.args.driver.0 in
    let read = core_of c.into_parts-shelf.result.1 in
    elim c.if-is_quiet.branch [
      | then-is_quiet w ↦ rests_now device c.args.driver.1 read c.is_quiet.result c.if-is_quiet.rests w.flights.result c.is_quiet.ensures c.into_parts-shelf.ensures.core
          (w.flights.ensures ∙ ap (λ s. length (g.S.Shelf.device s).flights) c.into_parts-shelf.ensures.shelf) w.if-is_quiet.true w.rests-is
      | else-is_quiet w ↦ rests_not device c.args.driver.1 read c.is_quiet.result c.if-is_quiet.rests c.is_quiet.ensures c.into_parts-shelf.ensures.core w.if-is_quiet.false w.rests-is
    ]

pub into_parts-shelf-requires : goal.into_parts-shelf-requires
into_parts-shelf-requires g c = record { unmoved = ap (λ (m : Option OpenCopy). option_map_or (λ (k : OpenCopy). k.moves) m false) c.requires.none }

pub from_parts-requires-clause-unmoved : goal.from_parts-requires-clause-unmoved
from_parts-requires-clause-unmoved g c = ap is_moving c.into_parts-shelf.ensures.core ∙ ap (λ (m : Option OpenCopy). option_map_or (λ (k : OpenCopy). k.moves) m false) c.requires.none
