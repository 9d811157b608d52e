use Rattle.std.proofs.Common.{Option, Some, false, ap, sym, ◌∙◌, subst, arith}
use Rattle.std.specs.Option.{option_map_or}
use Rattle.std.proofs.lemmas.Bool.{eqb-true}
use Rattle.lvm_num.specs.declared.descriptor.Descriptor.{Descriptor}
use Rattle.lvm_session.specs.declared.bringing.OpenCopy.{OpenCopy}
use Rattle.lvm_session.specs.Sound.{IsSound}
use Rattle.lvm_session.specs.State.{Core, state}
use Rattle.lvm_group_lines.proofs.Listing.{none_few}
use Rattle.lvm_group_lines.proofs.groups.hold.Goals as goal

pub from_parts-driver-requires-clause-rooms : goal.from_parts-driver-requires-clause-rooms
from_parts-driver-requires-clause-rooms g c = c.into_parts-shelf.ensures.rooms

pub from_parts-driver-requires-clause-sound : goal.from_parts-driver-requires-clause-sound
from_parts-driver-requires-clause-sound g c =
    let device = g.S.Shelf.device in
    let parts = c.into_parts-shelf.ensures in
    subst (λ (core : Core). IsSound (state (device c.into_parts-shelf.result.0) core)) (sym parts.core)
    (subst (λ (s : g.row.S.Denot). IsSound (state (device s) c.args.driver.1)) (sym parts.shelf) (c.requires.may c.open.ensures.sound))

pub from_parts-driver-requires-clause-unmoved : goal.from_parts-driver-requires-clause-unmoved
from_parts-driver-requires-clause-unmoved g c =
    ap (λ (core : Core). option_map_or (λ (m : OpenCopy). m.moves) core.copy false) c.into_parts-shelf.ensures.core
    ∙ ap (λ (m : Option OpenCopy). option_map_or (λ (m : OpenCopy). m.moves) m false) c.open.ensures.sound.none.copy

pub returns-then-is_empty-clause-kind : goal.returns-then-is_empty-clause-kind
returns-then-is_empty-clause-kind g c =
    let long = eqb-true _ 0 (sym c.is_empty.ensures ∙ c.if-is_empty.true) in
    ap (λ (d : Descriptor). d.lvs) (sym c.descriptor.ensures.same) ∙ none_few c.descriptor.result.now.lvs (omega (arith, long))

pub returns-else-is_empty-clause-shelf : goal.returns-else-is_empty-clause-shelf
returns-else-is_empty-clause-shelf g c = c.from_parts-driver.ensures.shelf ∙ c.into_parts-shelf.ensures.shelf

pub returns-else-is_empty-clause-history : goal.returns-else-is_empty-clause-history
returns-else-is_empty-clause-history g c = ap (λ (core : Core). core.history) (c.from_parts-driver.ensures.core ∙ c.into_parts-shelf.ensures.core)

pub returns-else-is_empty-clause-session : goal.returns-else-is_empty-clause-session
returns-else-is_empty-clause-session g c = ap (λ (core : Core). Some core) (c.from_parts-driver.ensures.core ∙ c.into_parts-shelf.ensures.core)

pub returns-else-is_empty-clause-between : goal.returns-else-is_empty-clause-between
returns-else-is_empty-clause-between g c = c.open.ensures.sound

pub returns-else-is_empty-clause-sound : goal.returns-else-is_empty-clause-sound
returns-else-is_empty-clause-sound g c = c.requires.may c.open.ensures.sound
