use Rattle.std.proofs.Common.{◌≤◌, refl, sym, ◌∙◌, ap, subst}
use Rattle.lvm_volume_lines.specs.passed.HolderVariants as holder
use Rattle.lvm_volume_lines.specs.passed.RefusalVariants as refusal
use Rattle.lvm_volume_lines.specs.passed.ReplyVariants as reply
use Rattle.lvm_volume_lines.specs.passed.GroupLines.{IsOfKind, OfRequests, Reply, is_unheard, most_refusals, session_in, session_of}
use Rattle.lvm_volume_lines.proofs.passed.RangeLines.{between_now, ends_with, fits_now, held_by, still_as}
use Rattle.lvm_volume_lines.proofs.passed.GroupLines.{left_still, refused_ends}
use Rattle.lvm_volume_lines.specs.Resyncing.{NothingSyncs, OtherGroupForSync, SyncGroupDoes}
use Rattle.lvm_volume_lines.proofs.ResyncingLemmas.{name_on, numbers_few, numbers_heard}
use Rattle.lvm_volume_lines.proofs.resync.do_sync_group.Goals as goal

pub returns-then-not-is_on : goal.returns-then-not-is_on
returns-then-not-is_on g c = λ stage its.
    refused_ends g.S.Shelf.device (λ log. SyncGroupDoes c.args.name) ⊥ OfRequests c.args.stage.now stage (reply.Refused refusal.NoGroup) c.requires.fits c.requires.between
    (left_still g.S.Shelf.device c.args.stage.now (reply.Refused refusal.NoGroup) refl c.requires.between stage its) refusal.NoGroup refl
    (λ last is. OtherGroupForSync (c.if-not-is_on.ensures.off refl) is)

pub returns-in-Empty : goal.returns-in-Empty
returns-in-Empty g c = λ stage its.
    let says = c.numbers_reply.ensures in
    let core = c.in-Empty.driver.1 in
    still_as g.S.Shelf.device (λ log. SyncGroupDoes c.args.name) c.args.stage.now c.requires.fits c.requires.between (holder.Empty c.in-Empty.driver) c.in-Empty.is stage c.numbers_reply.result
    (left_still g.S.Shelf.device (held_by c.args.stage.now (holder.Empty c.in-Empty.driver)) c.numbers_reply.result (ap is_unheard says ∙ numbers_heard core)
    (between_now g.S.Shelf.device (λ log. SyncGroupDoes c.args.name) c.args.stage.now c.requires.fits c.requires.between (holder.Empty c.in-Empty.driver) c.in-Empty.is) stage its)
    (subst (λ (a : Reply). most_refusals a ≤ 1) (sym says) (numbers_few core))
    (λ last still. NothingSyncs core (ap session_of c.in-Empty.is) (name_on c.args.name (session_in c.args.stage.now) core (ap session_of c.in-Empty.is) (c.if-not-is_on.ensures.on refl)) (subst IsOfKind c.in-Empty.is c.requires.fits.kind) says still)

pub sync_group_on-requires-clause-on : goal.sync_group_on-requires-clause-on
sync_group_on-requires-clause-on g c = (between_now g.S.Shelf.device (λ log. SyncGroupDoes c.args.name) c.args.stage.now c.requires.fits c.requires.between (holder.Serving c.in-Serving.driver) c.in-Serving.is).session.power

pub sync_group_on-requires-clause-shut : goal.sync_group_on-requires-clause-shut
sync_group_on-requires-clause-shut g c = (between_now g.S.Shelf.device (λ log. SyncGroupDoes c.args.name) c.args.stage.now c.requires.fits c.requires.between (holder.Serving c.in-Serving.driver) c.in-Serving.is).session.copy

pub sync_group_on-requires-clause-named : goal.sync_group_on-requires-clause-named
sync_group_on-requires-clause-named g c = name_on c.args.name (session_in c.args.stage.now) c.in-Serving.driver.1 (ap session_of c.in-Serving.is) (c.if-not-is_on.ensures.on refl)

pub returns-in-Serving : goal.returns-in-Serving
returns-in-Serving g c = λ stage its.
    let fits = fits_now g.S.Shelf.device (λ log. SyncGroupDoes c.args.name) c.args.stage.now c.requires.fits c.requires.between (holder.Serving c.in-Serving.driver) c.in-Serving.is in
    let between = between_now g.S.Shelf.device (λ log. SyncGroupDoes c.args.name) c.args.stage.now c.requires.fits c.requires.between (holder.Serving c.in-Serving.driver) c.in-Serving.is in
    ends_with g.S.Shelf.device (λ log. SyncGroupDoes c.args.name) c.args.stage.now c.requires.fits c.requires.between (holder.Serving c.in-Serving.driver) c.in-Serving.is stage c.sync_group_on.result
    (c.sync_group_on.ensures c.args.stage.now.bytes c.args.stage.now.posts fits between stage its)
