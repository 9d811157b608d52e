use Rattle.std.proofs.Common.{List, subst, sym}
use Rattle.std.specs.Prelude.{◌==◌, Contains}
use Rattle.std.proofs.lemmas.List.Elements.{All-contains}
use Rattle.lvm_num.specs.declared.descriptor.LvRow.{LvRow}
use Rattle.lvm_num.specs.Descriptor.{IsLaidOut}
use Rattle.lvm_show.proofs.Found.{found_is_there}
use Rattle.lvm_show.proofs.map.show_map.Goals as goal

pub map_lines-requires : goal.map_lines-requires
map_lines-requires c =
    All-contains IsLaidOut c.args.d.now.lvs c.in-Some.row.now c.requires.valid.maps.laid_out
    (subst (λ (rows : List LvRow). Contains rows c.in-Some.row.now) c.as_slice.ensures
    (found_is_there (λ (row : LvRow). row.number == c.args.lv) c.as_slice.result.now c.in-Some.row.now (sym c.in-Some.ensures)))
