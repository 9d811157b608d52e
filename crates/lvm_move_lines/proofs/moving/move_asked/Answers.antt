use Rattle.std.proofs.Common.{◌≡◌, ◌≤◌, ℕ, refl, sym, subst, ◌∙◌}
use Rattle.std.specs.Prelude.{IfErr}
use Rattle.lvm_session.specs.declared.open.Power.TheVariants as power
use Rattle.lvm_session.specs.State.{state_of}
use Rattle.lvm_migrate.specs.Migrating.{GoesBesideMoving, MigrateGives, MoveCause}
use Rattle.lvm_range_lines.specs.passed.GroupLines.{Reply, is_unheard, most_refusals}
use Rattle.lvm_range_lines.proofs.LeavingLemmas.Posting.{table_posts}
use Rattle.lvm_move_lines.specs.Moving.{MigratepvDoes, MovesCopies}
use Rattle.lvm_move_lines.proofs.MovingLemmas.{fails_if, move_few, moved_ends, on_of}
use Rattle.lvm_move_lines.proofs.moving.move_asked.Goals as goal

pub migrate-moved-requires : goal.migrate-moved-requires
migrate-moved-requires g c = record {
  may = c.requires.may;
  unstuck = λ stuck. let e : power.On ≡ power.Stuck = sym c.requires.on ∙ stuck in cc e;
  epoch = c.requires.epoch;
}

pub returns : goal.returns
returns g c = λ volume asked bytes posts fits between stage its.
    let device = g.S.Shelf.device in
    let first = c.args.driver.now in
    let end = c.migrate-moved.new.driver in
    let left = c.migrate-moved.new.patience.left in
    let result = c.migrate-moved.result in
    let gives = subst (λ (k : ℕ). MigrateGives c.args.lv c.args.from c.args.to k left (state_of device first) (state_of device end) result) c.whole.ensures c.migrate-moved.ensures.gives in
    let caused = subst (λ (k : ℕ). IfErr result (MoveCause k (state_of device first) (state_of device end))) c.whole.ensures c.migrate-moved.ensures.caused in
    let shut = c.migrate-moved.ensures.closed c.requires.shut in
    let answer = c.move_reply.result in
    let says = c.move_reply.ensures.reply in
    let beside = subst (λ (n : ℕ). GoesBesideMoving (state_of device first) (state_of device end) n left) c.whole.ensures c.migrate-moved.ensures.beside in
    let few : most_refusals answer ≤ 1 = subst (λ (a : Reply). most_refusals a ≤ 1) (sym says) (move_few result) in
    moved_ends device first posts bytes fits between end left beside c.move_reply.ensures.sound (λ log. MigratepvDoes volume c.args.from c.args.to) stage answer few (its.rooms first.1.history.room fits.rooms)
    (λ last. MovesCopies first.1 c.args.lv refl asked fits.kind (record {
      end = state_of device end;
      left = left;
      result = result;
      session = record {
        gives = gives;
        stand = c.migrate-moved.ensures.stand;
        beside = beside;
        way = c.migrate-moved.ensures.way;
        empty = c.migrate-moved.ensures.empty;
        fresh = c.migrate-moved.ensures.fresh;
        caused = caused;
        on = on_of end.1 result shut;
      };
      sound = c.move_reply.ensures.sound;
      leaves = fails_if device end posts bytes stage last (is_unheard answer) (table_posts first.1 end.1 beside.table posts.items between.posted) its.comes;
      says = says;
    }))
    result shut says its.comes
