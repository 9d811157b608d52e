use Rattle.std.proofs.Common.{◌≡◌, List, Option, false, sym, ap, subst, ◌∙◌}
use Rattle.std.specs.Option.{option_map_or}
use Rattle.lvm_num.specs.declared.place.Pp.{Pp}
use Rattle.lvm_num.specs.declared.status.Status.{Status}
use Rattle.lvm_session.specs.declared.bringing.OpenCopy.{OpenCopy}
use Rattle.lvm_session.specs.Fields.{core_of}
use Rattle.lvm_session.specs.State.{Core, state}
use Rattle.lvm_session.specs.Sound.{IsSound}
use Rattle.lvm_handover.specs.Serving.{OriginIsMarked, MarksAdded, MarksMissing}
use Rattle.lvm_handover.proofs.ServingLemmas.Marking.{served_with}
use Rattle.lvm_handover.proofs.handover.serve.Goals as goal

-- the session with the table that is left
abbrev with_table : Core → Status → Core
with_table core table = record core { origin = record core.origin { table = table } }

-- in the words of the driver that is handed over
served : (added : List Pp) (driver core : Core) (wanted mid new : Status) → core ≡ driver → wanted ≡ core.status.wanted → MarksAdded added core.origin.table mid
    → MarksMissing core.descriptor.pvs wanted mid new → OriginIsMarked added driver (with_table core new)
served added driver core wanted mid new same is first second = subst (λ (was : Core). OriginIsMarked added was (with_table core new)) same (served_with added core wanted mid new is first second)

pub from_parts-requires-clause-sound : goal.from_parts-requires-clause-sound
from_parts-requires-clause-sound g c =
    let core : Core = core_of c.into_parts-shelf.result.1 in
    subst (λ shelf. IsSound (state (g.S.Shelf.device shelf) (with_table core c.mark_missing.new.table))) (sym c.into_parts-shelf.ensures.shelf)
    (c.requires.may c.into_parts-shelf.ensures.sound (with_table core c.mark_missing.new.table)
    (served c.args.added.now c.args.driver.1 core c.wanted.result.now c.mark_added.new.table c.mark_missing.new.table c.into_parts-shelf.ensures.core c.wanted.ensures c.mark_added.ensures c.mark_missing.ensures))

pub from_parts-requires-clause-unmoved : goal.from_parts-requires-clause-unmoved
from_parts-requires-clause-unmoved g c =
    ap (λ (core : Core). option_map_or (λ (m : OpenCopy). m.moves) core.copy false) c.into_parts-shelf.ensures.core
    ∙ ap (λ (m : Option OpenCopy). option_map_or (λ (m : OpenCopy). m.moves) m false) c.into_parts-shelf.ensures.sound.none.copy

pub returns-clause-served : goal.returns-clause-served
returns-clause-served g c =
    subst (OriginIsMarked c.args.added.now c.args.driver.1) (sym c.from_parts.ensures.core)
    (served c.args.added.now c.args.driver.1 (core_of c.into_parts-shelf.result.1) c.wanted.result.now c.mark_added.new.table c.mark_missing.new.table c.into_parts-shelf.ensures.core c.wanted.ensures c.mark_added.ensures c.mark_missing.ensures)

pub returns-clause-sound : goal.returns-clause-sound
returns-clause-sound g c =
    let core : Core = core_of c.into_parts-shelf.result.1 in
    let left : Core = with_table core c.mark_missing.new.table in
    let at = c.requires.may c.into_parts-shelf.ensures.sound left
    (served c.args.added.now c.args.driver.1 core c.wanted.result.now c.mark_added.new.table c.mark_missing.new.table c.into_parts-shelf.ensures.core c.wanted.ensures c.mark_added.ensures c.mark_missing.ensures) in
    subst (λ (new : Core). IsSound (state (g.S.Shelf.device c.from_parts.result.0) new)) (sym c.from_parts.ensures.core)
    (subst (λ shelf. IsSound (state (g.S.Shelf.device shelf) left)) (sym (c.from_parts.ensures.shelf ∙ c.into_parts-shelf.ensures.shelf)) at)
