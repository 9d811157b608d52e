use Rattle.std.proofs.Common.{◌<◌, ◌^◌, List, Some, length, sym, ◌∙◌, subst, arith}
use Rattle.lvm_session.specs.State.{state_of}
use Rattle.lvm_posts.specs.declared.posts.Post.{Post}
use Rattle.lvm_group_lines.specs.Stages.{HaveRooms, IsFittingStage}
use Rattle.lvm_group_lines.specs.State.{ArePosted}
use Rattle.lvm_range_lines.specs.Answers.{Tells}
use Rattle.lvm_range_lines.specs.Waiting.{AllHaveLanded, TakesPosts}
use Rattle.lvm_range_lines.proofs.TakingLemmas.Landed.{closed_landed, few_ended, fits_ended, fits_on, goes_landed, not_on, over_by, posted_ended}
use Rattle.lvm_range_lines.proofs.waiting.wait_landed.Goals as goal

pub take_on-driver-requires-clause-on : goal.take_on-driver-requires-clause-on
take_on-driver-requires-clause-on g c = sym c.power.ensures.is ∙ c.in-On.is

pub take_on-driver-requires-clause-posted : goal.take_on-driver-requires-clause-posted
take_on-driver-requires-clause-posted g c = subst (λ (ps : List Post). ArePosted c.args.driver.1.history.facts (Some c.args.driver.1) ps) (sym c.deref.ensures.value) c.requires.posted

pub take_on-driver-requires-clause-landed : goal.take_on-driver-requires-clause-landed
take_on-driver-requires-clause-landed g c = subst (λ (ps : List Post). AllHaveLanded ps (state_of g.S.Shelf.device c.args.driver)) (sym c.deref.ensures.value) c.requires.landed

pub take_on-driver-requires-clause-few : goal.take_on-driver-requires-clause-few
take_on-driver-requires-clause-few g c = subst (λ (ps : List Post). length ps < 2 ^ 32) (sym c.deref.ensures.value) c.requires.few

pub wait_off-requires-clause-off : goal.wait_off-requires-clause-off
wait_off-requires-clause-off g c = c.ended.ensures.ended.session

pub wait_off-requires-clause-fits : goal.wait_off-requires-clause-fits
wait_off-requires-clause-fits g c = fits_ended g.S.Shelf.device c.args.driver c.args.posts c.args.bytes c.requires.fits c.ended.result c.ended.ensures.ended (c.ended.ensures.rooms c.args.driver.1.history.room c.requires.fits.rooms)

pub wait_off-requires-clause-posted : goal.wait_off-requires-clause-posted
wait_off-requires-clause-posted g c =
    let over = over_by c.args.driver.1.power (λ on. not_on c.power.result c.in-Off.is (c.power.ensures.is ∙ on)) c.requires.unstuck in
    posted_ended g.S.Shelf.device c.args.driver c.args.posts c.ended.result c.ended.ensures.ended c.is_sound.ensures over c.requires.posted

pub wait_off-requires-clause-few : goal.wait_off-requires-clause-few
wait_off-requires-clause-few g c =
    few_ended g.S.Shelf.device c.args.driver c.args.posts c.ended.result c.ended.ensures.ended c.requires.few

pub returns-in-On : goal.returns-in-On
returns-in-On g c =
    let device = g.S.Shelf.device in
    let taken = c.take_on-driver.ensures in
    let end = c.take_on-driver.result.0 in
    let on = sym c.power.ensures.is ∙ c.in-On.is in
    let rooms : HaveRooms c.args.driver.1.history.room c.clear.new.self c.args.bytes =
    record { for_posts = let low = c.requires.fits.rooms.for_posts in let same = c.clear.ensures.capacity in omega (arith, low, same); for_bytes = c.requires.fits.rooms.for_bytes } in
    record {
      ends = goes_landed device c.args.driver c.args.posts c.args.bytes c.requires.fits c.args.driver.1.power on c.answered.result.stage c.answered.result.reply (record {
        end = end;
        endings = taken.takes.endings;
        takes = subst (λ (ps : List Post). TakesPosts (state_of device c.args.driver) ps (state_of device end) taken.takes.endings) c.deref.ensures.value taken.takes.takes;
        tells = subst (Tells taken.takes.endings) (sym c.answered.ensures.reply) (c.reply.ensures taken.takes.endings taken.takes.gathers);
        runs = taken.runs;
        on = taken.on;
        sound = taken.sound;
        none = c.clear.new.self;
        empty = c.clear.ensures.items;
        bytes = c.args.bytes;
        is = c.answered.ensures.stage;
      });
      fits = subst IsFittingStage (sym c.answered.ensures.stage) (fits_on device c.args.driver c.args.posts c.args.bytes c.requires.fits end taken.runs c.clear.new.self rooms);
      sound = c.is_sound.ensures;
    }

pub returns-in-Off : goal.returns-in-Off
returns-in-Off g c = record {
  ends = closed_landed g.S.Shelf.device c.args.driver c.args.posts c.args.bytes c.requires.fits c.args.driver.1.power (λ on. not_on c.power.result c.in-Off.is (c.power.ensures.is ∙ on)) c.wait_off.result.stage c.wait_off.result.reply
      (record { closed = c.ended.result; ended = c.ended.ensures.ended; waits = c.wait_off.ensures.waits });
  fits = c.wait_off.ensures.fits;
  sound = c.is_sound.ensures;
}
