use Rattle.std.proofs.Common.{◌<◌, ◌^◌, [], Some, None, length, refl, subst}
use Rattle.lvm_vol.specs.Log.{Log}
use Rattle.lvm_vol.specs.Order.{Ordered}
use Rattle.lvm_group_lines.specs.declared.holder.Holder.TheVariants as holder
use Rattle.lvm_range_lines.specs.Waiting.{WaitDoes}
use Rattle.lvm_range_lines.proofs.EndsLemmas.{between_now, ends_with, fits_now, held_by}
use Rattle.lvm_range_lines.proofs.WaitingLemmas.Resting.{few_posts, off_ends}
use Rattle.lvm_range_lines.proofs.waiting.do_wait.Goals as goal

pub wait_off-requires-clause-off : goal.wait_off-requires-clause-off
wait_off-requires-clause-off g c = refl

pub wait_off-requires-clause-fits : goal.wait_off-requires-clause-fits
wait_off-requires-clause-fits g c = fits_now g.S.Shelf.device (λ log. WaitDoes) c.args.stage c.requires.fits c.requires.between (holder.Off c.in-Off.shelf c.in-Off.history) c.in-Off.is

pub wait_off-requires-clause-posted : goal.wait_off-requires-clause-posted
wait_off-requires-clause-posted g c = (between_now g.S.Shelf.device (λ log. WaitDoes) c.args.stage c.requires.fits c.requires.between (holder.Off c.in-Off.shelf c.in-Off.history) c.in-Off.is).posted

pub wait_off-requires-clause-few : goal.wait_off-requires-clause-few
wait_off-requires-clause-few g c = few_posts c.in-Off.history None c.args.stage.posts.items c.is_told.ensures.ordered c.is_told.ensures.few tt (between_now g.S.Shelf.device (λ log. WaitDoes) c.args.stage c.requires.fits c.requires.between (holder.Off c.in-Off.shelf c.in-Off.history) c.in-Off.is).posted

pub wait_at_rest-requires-clause-fits : goal.wait_at_rest-requires-clause-fits
wait_at_rest-requires-clause-fits g c = fits_now g.S.Shelf.device (λ log. WaitDoes) c.args.stage c.requires.fits c.requires.between (holder.Empty c.in-Empty.driver) c.in-Empty.is

pub wait_at_rest-requires-clause-between : goal.wait_at_rest-requires-clause-between
wait_at_rest-requires-clause-between g c = between_now g.S.Shelf.device (λ log. WaitDoes) c.args.stage c.requires.fits c.requires.between (holder.Empty c.in-Empty.driver) c.in-Empty.is

pub wait_at_rest-requires-clause-few : goal.wait_at_rest-requires-clause-few
wait_at_rest-requires-clause-few g c =
    let between = (between_now g.S.Shelf.device (λ log. WaitDoes) c.args.stage c.requires.fits c.requires.between (holder.Empty c.in-Empty.driver) c.in-Empty.is) in
    few_posts c.in-Empty.driver.1.history (Some c.in-Empty.driver.1) c.args.stage.posts.items (subst (λ (log : Log). Ordered log.run [] log.facts) c.history.ensures c.is_told-in-Empty.ensures.ordered) (subst (λ (log : Log). length log.facts < 2 ^ 32) c.history.ensures c.is_told-in-Empty.ensures.few)
    between.session.sound.told.requests between.posted

pub wait_on-requires-clause-fits : goal.wait_on-requires-clause-fits
wait_on-requires-clause-fits g c = fits_now g.S.Shelf.device (λ log. WaitDoes) c.args.stage c.requires.fits c.requires.between (holder.Serving c.in-Serving.driver) c.in-Serving.is

pub wait_on-requires-clause-between : goal.wait_on-requires-clause-between
wait_on-requires-clause-between g c = between_now g.S.Shelf.device (λ log. WaitDoes) c.args.stage c.requires.fits c.requires.between (holder.Serving c.in-Serving.driver) c.in-Serving.is

pub wait_on-requires-clause-few : goal.wait_on-requires-clause-few
wait_on-requires-clause-few g c =
    let between = (between_now g.S.Shelf.device (λ log. WaitDoes) c.args.stage c.requires.fits c.requires.between (holder.Serving c.in-Serving.driver) c.in-Serving.is) in
    few_posts c.in-Serving.driver.1.history (Some c.in-Serving.driver.1) c.args.stage.posts.items (subst (λ (log : Log). Ordered log.run [] log.facts) c.history-in-Serving.ensures c.is_told-in-Serving.ensures.ordered) (subst (λ (log : Log). length log.facts < 2 ^ 32) c.history-in-Serving.ensures c.is_told-in-Serving.ensures.few)
    between.session.sound.told.requests between.posted

pub returns-in-Off : goal.returns-in-Off
returns-in-Off g c =
    ends_with g.S.Shelf.device (λ log. WaitDoes) c.args.stage c.requires.fits c.requires.between (holder.Off c.in-Off.shelf c.in-Off.history) c.in-Off.is c.wait_off.result.stage c.wait_off.result.reply
    (off_ends g.S.Shelf.device (held_by c.args.stage (holder.Off c.in-Off.shelf c.in-Off.history)) c.wait_off.result.stage c.wait_off.result.reply refl (between_now g.S.Shelf.device (λ log. WaitDoes) c.args.stage c.requires.fits c.requires.between (holder.Off c.in-Off.shelf c.in-Off.history) c.in-Off.is) c.wait_off.ensures.waits c.wait_off.ensures.fits)

pub returns-in-Empty : goal.returns-in-Empty
returns-in-Empty g c = ends_with g.S.Shelf.device (λ log. WaitDoes) c.args.stage c.requires.fits c.requires.between (holder.Empty c.in-Empty.driver) c.in-Empty.is c.wait_at_rest.result.stage c.wait_at_rest.result.reply c.wait_at_rest.ensures

pub returns-in-Serving : goal.returns-in-Serving
returns-in-Serving g c = ends_with g.S.Shelf.device (λ log. WaitDoes) c.args.stage c.requires.fits c.requires.between (holder.Serving c.in-Serving.driver) c.in-Serving.is c.wait_on.result.stage c.wait_on.result.reply c.wait_on.ensures
