use Rattle.std.proofs.Common.{refl, sym, ◌∙◌, ap, subst, arith}
use Rattle.lvm_disk.specs.Device.{Device}
use Rattle.lvm_session.specs.declared.open.Power.{Power}
use Rattle.lvm_session.specs.Sound.{is_dark}
use Rattle.lvm_group_lines.specs.Stages.{HaveRooms, IsClosed, SessionIsClosed}
use Rattle.lvm_group_lines.specs.declared.stage.Stage.{Stage}
use Rattle.lvm_group_lines.proofs.stage.Stage.ended.Goals as goal

pub relit-requires : goal.relit-requires
relit-requires g c = λ dark.
    ap (λ (d : Device). d.flights) c.close-shelf.ensures.shelf ∙ (c.power-power.ensures.sound.dark (ap is_dark (sym c.power-power.ensures.is ∙ dark))).flights

pub returns-clause-ended : goal.returns-clause-ended
returns-clause-ended g c =
    let device = g.S.Shelf.device in
    subst (λ (stage : Stage g.row.S.Denot). SessionIsClosed device c.args.driver c.args.posts.items stage) (sym c.off.ensures) (record {
      session = refl;
      shelf = subst (λ (p : Power). IsClosed p (device c.args.driver.0) (device c.relit.result)) c.power-power.ensures.is (c.relit.ensures (device c.args.driver.0) c.close-shelf.ensures.shelf);
      history = c.close-shelf.ensures.history;
      posted = c.ended_posts-posts.ensures.items;
    })

pub returns-clause-rooms : goal.returns-clause-rooms
returns-clause-rooms g c = λ entries rooms.
    subst (λ (stage : Stage g.row.S.Denot). HaveRooms entries stage.posts stage.bytes) (sym c.off.ensures)
    (record { for_posts = let low = rooms.for_posts in let same = c.ended_posts-posts.ensures.room in omega (arith, low, same); for_bytes = rooms.for_bytes })
