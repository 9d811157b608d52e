use Rattle.std.proofs.Common.{None, Some, Ok, refl, sym, subst}
use Rattle.lvm_disk.specs.declared.shelf.Arrange.TheVariants as arrange
use Rattle.lvm_parse.specs.declared.command.Command.{Command}
use Rattle.lvm_parse.specs.declared.command.Command.TheVariants as command
use Rattle.lvm_volume_lines.specs.passed.GroupLines.{ArrangeDoes, CommandEnds, session_in}
use Rattle.lvm_line.specs.Lines.{CommandDoes, IsOrder, role_of}
use Rattle.lvm_line.proofs.LinesLemmas.Answering.{left_over}
use Rattle.lvm_line.proofs.LinesLemmas.Lining.{heard_disk, heard_group, heard_volume, one_disk, one_group, one_volume, order_left}
use Rattle.lvm_line.proofs.LinesLemmas.Staying.{lists_in_place, placed_as}
use Rattle.lvm_line.proofs.line.serve.Goals.{in-Lsvg, in-Lslv, in-Lspv, in-Rd, in-Wr, in-Post, in-Step, in-SyncVolume, in-SyncGroup, in-Fail, in-Heal, in_default}
use Rattle.lvm_line.proofs.line.serve.Goals as goal

pub returns : goal.returns
returns g c =
    let device = g.S.Shelf.device in
    let old = c.args.stage.now in
    let it = c.args.command in
    let kept = c.match-command.stage in
    let answer = c.match-command.result in
    let session = session_in old in
    elim c.match-command.branch [
      | in-Lsvg w ↦ placed_as device it old kept old answer (Some w.list_group.result) w.stage-is w.result-is
          (lists_in_place device old c.requires.fits c.requires.between it (command.Lsvg w.in-Lsvg.volumes w.in-Lsvg.name) w.list_group.result w.in-Lsvg.is
          (one_group w.in-Lsvg.volumes w.in-Lsvg.name session w.list_group.result w.list_group.ensures) (heard_group w.in-Lsvg.volumes w.in-Lsvg.name session w.list_group.result w.list_group.ensures) refl (λ log room new last same. (w.list_group.ensures, same)))
      | in-Lslv w ↦ placed_as device it old kept old answer (Some w.list_volume.result) w.stage-is w.result-is
          (lists_in_place device old c.requires.fits c.requires.between it (command.Lslv w.in-Lslv.name) w.list_volume.result w.in-Lslv.is
          (one_volume w.in-Lslv.name session w.list_volume.result w.list_volume.ensures) (heard_volume w.in-Lslv.name session w.list_volume.result w.list_volume.ensures) refl (λ log room new last same. (w.list_volume.ensures, same)))
      | in-Lspv w ↦ placed_as device it old kept old answer (Some w.list_disk.result) w.stage-is w.result-is
          (lists_in_place device old c.requires.fits c.requires.between it (command.Lspv w.in-Lspv.disk) w.list_disk.result w.in-Lspv.is
          (one_disk w.in-Lspv.disk _ session w.list_disk.result w.list_disk.ensures) (heard_disk w.in-Lspv.disk _ session w.list_disk.result w.list_disk.ensures) refl (λ log room new last same. (w.list_disk.ensures, same)))
      | in-Rd w ↦ placed_as device it old kept w.do_rd.new.stage answer (Some w.do_rd.result) w.stage-is w.result-is
          (λ left its room last. subst (λ (d : Command). CommandEnds device (λ log. CommandDoes log room d) (IsOrder (Ok (Some d))) (role_of (Ok (Some d))) old left w.do_rd.result last last) (sym w.in-Rd.is) (w.do_rd.ensures left its last))
      | in-Wr w ↦ placed_as device it old kept w.do_wr.new.stage answer (Some w.do_wr.result) w.stage-is w.result-is
          (λ left its room last. subst (λ (d : Command). CommandEnds device (λ log. CommandDoes log room d) (IsOrder (Ok (Some d))) (role_of (Ok (Some d))) old left w.do_wr.result last last) (sym w.in-Wr.is) (w.do_wr.ensures left its last))
      | in-Post w ↦ placed_as device it old kept w.do_post.new.stage answer (Some w.do_post.result) w.stage-is w.result-is
          (λ left its room last. subst (λ (d : Command). CommandEnds device (λ log. CommandDoes log room d) (IsOrder (Ok (Some d))) (role_of (Ok (Some d))) old left w.do_post.result last last) (sym w.in-Post.is) (w.do_post.ensures left its last))
      | in-Step w ↦ placed_as device it old kept w.do_step.new.stage answer (Some w.do_step.result) w.stage-is w.result-is
          (λ left its room last. subst (λ (d : Command). CommandEnds device (λ log. CommandDoes log room d) (IsOrder (Ok (Some d))) (role_of (Ok (Some d))) old left w.do_step.result last last) (sym w.in-Step.is) (w.do_step.ensures left its last))
      | in-SyncVolume w ↦ placed_as device it old kept w.do_sync_volume.new.stage answer (Some w.do_sync_volume.result) w.stage-is w.result-is
          (λ left its room last. subst (λ (d : Command). CommandEnds device (λ log. CommandDoes log room d) (IsOrder (Ok (Some d))) (role_of (Ok (Some d))) old left w.do_sync_volume.result last last) (sym w.in-SyncVolume.is) (w.do_sync_volume.ensures left its last))
      | in-SyncGroup w ↦ placed_as device it old kept w.do_sync_group.new.stage answer (Some w.do_sync_group.result) w.stage-is w.result-is
          (λ left its room last. subst (λ (d : Command). CommandEnds device (λ log. CommandDoes log room d) (IsOrder (Ok (Some d))) (role_of (Ok (Some d))) old left w.do_sync_group.result last last) (sym w.in-SyncGroup.is) (w.do_sync_group.ensures left its last))
      | in-Fail w ↦ placed_as device it old kept w.do_arrange.new.stage answer (Some w.do_arrange.result) w.stage-is w.result-is
          (λ left its room last. subst (λ (d : Command). CommandEnds device (λ log. CommandDoes log room d) (IsOrder (Ok (Some d))) (role_of (Ok (Some d))) old left w.do_arrange.result last last) (sym w.in-Fail.is)
          (order_left device (λ log. ArrangeDoes w.in-Fail.disk (arrange.Fail w.in-Fail.disk)) old w.do_arrange.new.stage w.do_arrange.result w.do_arrange.ensures.ends w.do_arrange.ensures.heard left its last))
      | in-Heal w ↦ placed_as device it old kept w.do_arrange-in-Heal.new.stage answer (Some w.do_arrange-in-Heal.result) w.stage-is w.result-is
          (λ left its room last. subst (λ (d : Command). CommandEnds device (λ log. CommandDoes log room d) (IsOrder (Ok (Some d))) (role_of (Ok (Some d))) old left w.do_arrange-in-Heal.result last last) (sym w.in-Heal.is)
          (order_left device (λ log. ArrangeDoes w.in-Heal.disk (arrange.Heal w.in-Heal.disk)) old w.do_arrange-in-Heal.new.stage w.do_arrange-in-Heal.result w.do_arrange-in-Heal.ensures.ends w.do_arrange-in-Heal.ensures.heard left its last))
      | in_default w ↦ placed_as device it old kept old answer None w.stage-is w.result-is
          (refl, left_over it w.in_default.not-Lsvg w.in_default.not-Lslv w.in_default.not-Lspv w.in_default.not-Rd w.in_default.not-Wr w.in_default.not-Post w.in_default.not-Step w.in_default.not-SyncVolume w.in_default.not-SyncGroup w.in_default.not-Fail w.in_default.not-Heal)
    ]
