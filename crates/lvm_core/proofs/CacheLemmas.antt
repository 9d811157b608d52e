-- What stands on the disks of a session that begins.
use Rattle.std.proofs.Common.{◌≡◌, ℕ, Bool, true, false, Option, Some, None, refl, ap, ◌∙◌}
use Rattle.std.specs.Prelude.{if◌then◌else◌}
use Rattle.std.specs.Option.{option_map_or}
use Rattle.lvm_num.specs.declared.descriptor.Descriptor.{Descriptor}
use Rattle.lvm_num.specs.Descriptor.{is_member}
use Rattle.lvm_mwc.specs.declared.notes.DiskNotes.{DiskNotes}
use Rattle.lvm_mwc.specs.Cache.{Cached, no_notes, is_named}
use Rattle.lvm_mwc.specs.Notes.{both_name}
use Rattle.lvm_session_start.specs.Parts.{IsEmptyCache}

-- an empty cache names nothing on any disk
pub empty_names_none : (d : Descriptor) (c : Cached) → IsEmptyCache d c → (disk lv track_group : ℕ) → is_named c disk lv track_group ≡ false
empty_names_none d c empty disk lv track_group = ap (λ (o : Option DiskNotes). option_map_or (both_name lv track_group) o false) (empty.notes disk) ∙ by_member (is_member d disk)
  where
    by_member : (m : Bool) → option_map_or (both_name lv track_group) (if m then Some (no_notes disk) else None) false ≡ false
    by_member true = refl
    by_member false = refl
