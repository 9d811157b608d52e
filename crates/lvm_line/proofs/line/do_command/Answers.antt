use Rattle.std.proofs.Common.{◌≤◌, ◌≢◌, refl, sym, subst, ℕ, List, length}
use Rattle.std.specs.Prelude.{AllPairs}
use Rattle.lvm_disk.specs.declared.shelf.Arrange.TheVariants as arrange
use Rattle.lvm_volume_lines.specs.passed.GroupLines.{ArrangeDoes, CommandEnds, Aside, OfGroup, most_refusals, session_in, shelf_in, Reply, MkvgDoes, DiskShows, GroupShows, VolumeShows}
use Rattle.lvm_line.proofs.LinesLemmas.Lining.{done_by, listed_by, one_disk, one_group, one_volume, order_left, served_by}
use Rattle.lvm_parse.specs.Within.{IsWithinLimits}
use Rattle.lvm_member_lines.specs.Reducing.{ReducevgDoes}
use Rattle.lvm_line.proofs.line.do_command.Goals as goal

pub returns-in-Mkvg : goal.returns-in-Mkvg
returns-in-Mkvg g c =
    done_by g.S.Shelf.device c.args.room c.args.command _ _ _ c.do_mkvg.result.reply _ _ _ _ c.in-Mkvg.is
    (subst (λ (disks : List ℕ). CommandEnds g.S.Shelf.device (λ log. MkvgDoes log c.args.room c.in-Mkvg.force c.in-Mkvg.name c.in-Mkvg.mib disks) ⊥ Aside c.args.stage c.do_mkvg.result.stage c.do_mkvg.result.reply (g.C.Clock.last c.args.clock.now) (g.C.Clock.last c.do_mkvg.new.clock)) c.as_slice.ensures c.do_mkvg.ensures.ends)
    c.do_mkvg.ensures.asked

pub returns-in-Varyon : goal.returns-in-Varyon
returns-in-Varyon g c = done_by g.S.Shelf.device c.args.room c.args.command _ _ _ c.do_varyon.result.reply _ _ _ _ c.in-Varyon.is c.do_varyon.ensures.ends c.do_varyon.ensures.asked

pub returns-in-Varyoff : goal.returns-in-Varyoff
returns-in-Varyoff g c = done_by g.S.Shelf.device c.args.room c.args.command _ _ _ c.do_varyoff.result.reply _ _ _ _ c.in-Varyoff.is (c.do_varyoff.ensures (g.C.Clock.last c.args.clock.now)) refl

pub returns-in-ChvgQuorum : goal.returns-in-ChvgQuorum
returns-in-ChvgQuorum g c = done_by g.S.Shelf.device c.args.room c.args.command _ _ _ c.do_chvg_quorum.result.reply _ _ _ _ c.in-ChvgQuorum.is (c.do_chvg_quorum.ensures (g.C.Clock.last c.args.clock.now)) refl

pub returns-in-ChvgBig : goal.returns-in-ChvgBig
returns-in-ChvgBig g c = done_by g.S.Shelf.device c.args.room c.args.command _ _ _ c.do_chvg_big.result.reply _ _ _ _ c.in-ChvgBig.is (c.do_chvg_big.ensures (g.C.Clock.last c.args.clock.now)) refl

pub do_reducevg-requires-clause-some : goal.do_reducevg-requires-clause-some
do_reducevg-requires-clause-some g c = let within = subst IsWithinLimits c.in-Reducevg.is c.requires.within in subst (λ (disks : List ℕ). 1 ≤ length disks) (sym c.as_slice-in-Reducevg.ensures) within.0

pub do_reducevg-requires-clause-differ : goal.do_reducevg-requires-clause-differ
do_reducevg-requires-clause-differ g c = let within = subst IsWithinLimits c.in-Reducevg.is c.requires.within in subst (λ (disks : List ℕ). AllPairs (λ a b. a ≢ b) disks) (sym c.as_slice-in-Reducevg.ensures) within.1

pub returns-in-Reducevg : goal.returns-in-Reducevg
returns-in-Reducevg g c =
    done_by g.S.Shelf.device c.args.room c.args.command _ _ _ c.do_reducevg.result.reply _ _ _ _ c.in-Reducevg.is
    (subst (λ (disks : List ℕ). CommandEnds g.S.Shelf.device (λ log. ReducevgDoes c.in-Reducevg.name disks) ⊥ OfGroup c.args.stage c.do_reducevg.result.stage c.do_reducevg.result.reply (g.C.Clock.last c.args.clock.now) (g.C.Clock.last c.args.clock.now)) c.as_slice-in-Reducevg.ensures
    (c.do_reducevg.ensures (g.C.Clock.last c.args.clock.now)))
    refl

pub returns-in-Mklv : goal.returns-in-Mklv
returns-in-Mklv g c = done_by g.S.Shelf.device c.args.room c.args.command _ _ _ c.do_mklv.result.reply _ _ _ _ c.in-Mklv.is (c.do_mklv.ensures (g.C.Clock.last c.args.clock.now)) refl

pub returns-in-Rmlv : goal.returns-in-Rmlv
returns-in-Rmlv g c = done_by g.S.Shelf.device c.args.room c.args.command _ _ _ c.do_rmlv.result.reply _ _ _ _ c.in-Rmlv.is (c.do_rmlv.ensures (g.C.Clock.last c.args.clock.now)) refl

pub returns-in-Mklvcopy : goal.returns-in-Mklvcopy
returns-in-Mklvcopy g c = done_by g.S.Shelf.device c.args.room c.args.command _ _ _ c.do_mklvcopy.result.reply _ _ _ _ c.in-Mklvcopy.is (c.do_mklvcopy.ensures (g.C.Clock.last c.args.clock.now)) refl

pub returns-in-Rmlvcopy : goal.returns-in-Rmlvcopy
returns-in-Rmlvcopy g c = done_by g.S.Shelf.device c.args.room c.args.command _ _ _ c.do_rmlvcopy.result.reply _ _ _ _ c.in-Rmlvcopy.is (c.do_rmlvcopy.ensures (g.C.Clock.last c.args.clock.now)) refl

pub returns-in-Splitlvcopy : goal.returns-in-Splitlvcopy
returns-in-Splitlvcopy g c = done_by g.S.Shelf.device c.args.room c.args.command _ _ _ c.do_splitlvcopy.result.reply _ _ _ _ c.in-Splitlvcopy.is (c.do_splitlvcopy.ensures.ends (g.C.Clock.last c.args.clock.now)) refl

pub returns-in-RawRd : goal.returns-in-RawRd
returns-in-RawRd g c = done_by g.S.Shelf.device c.args.room c.args.command _ _ _ c.do_read.result.reply _ _ _ _ c.in-RawRd.is (c.do_read.ensures (g.C.Clock.last c.args.clock.now)) refl

pub returns-in-RawWr : goal.returns-in-RawWr
returns-in-RawWr g c = done_by g.S.Shelf.device c.args.room c.args.command _ _ _ c.do_write.result.reply _ _ _ _ c.in-RawWr.is (c.do_write.ensures (g.C.Clock.last c.args.clock.now)) refl

pub returns-in-Fail : goal.returns-in-Fail
returns-in-Fail g c =
    served_by g.S.Shelf.device c.args.room c.args.command _ c.args.stage c.do_arrange-reply.new.stage c.do_arrange-reply.result c.left-in-Fail.result.stage c.left-in-Fail.result.reply (g.C.Clock.last c.args.clock.now) (g.C.Clock.asked c.args.clock.now) c.in-Fail.is c.left-in-Fail.ensures.left c.left-in-Fail.ensures.reply
    (order_left g.S.Shelf.device (λ log. ArrangeDoes c.in-Fail.disk (arrange.Fail c.in-Fail.disk)) c.args.stage c.do_arrange-reply.new.stage c.do_arrange-reply.result c.do_arrange-reply.ensures.ends c.do_arrange-reply.ensures.heard c.left-in-Fail.result.stage c.left-in-Fail.ensures.left (g.C.Clock.last c.args.clock.now)) refl

pub returns-in-Heal : goal.returns-in-Heal
returns-in-Heal g c =
    served_by g.S.Shelf.device c.args.room c.args.command _ c.args.stage c.do_arrange-reply-in-Heal.new.stage c.do_arrange-reply-in-Heal.result c.left-in-Heal.result.stage c.left-in-Heal.result.reply (g.C.Clock.last c.args.clock.now) (g.C.Clock.asked c.args.clock.now) c.in-Heal.is c.left-in-Heal.ensures.left c.left-in-Heal.ensures.reply
    (order_left g.S.Shelf.device (λ log. ArrangeDoes c.in-Heal.disk (arrange.Heal c.in-Heal.disk)) c.args.stage c.do_arrange-reply-in-Heal.new.stage c.do_arrange-reply-in-Heal.result c.do_arrange-reply-in-Heal.ensures.ends c.do_arrange-reply-in-Heal.ensures.heard c.left-in-Heal.result.stage c.left-in-Heal.ensures.left (g.C.Clock.last c.args.clock.now)) refl

pub returns-in-Cut : goal.returns-in-Cut
returns-in-Cut g c = done_by g.S.Shelf.device c.args.room c.args.command _ _ _ c.do_cut.result.reply _ _ _ _ c.in-Cut.is (c.do_cut.ensures (g.C.Clock.last c.args.clock.now)) refl

pub returns-in-Rd : goal.returns-in-Rd
returns-in-Rd g c =
    served_by g.S.Shelf.device c.args.room c.args.command _ c.args.stage c.do_rd-reply.new.stage c.do_rd-reply.result c.left.result.stage c.left.result.reply (g.C.Clock.last c.args.clock.now) (g.C.Clock.asked c.args.clock.now) c.in-Rd.is c.left.ensures.left c.left.ensures.reply
    (c.do_rd-reply.ensures c.left.result.stage c.left.ensures.left (g.C.Clock.last c.args.clock.now)) refl

pub returns-in-Wr : goal.returns-in-Wr
returns-in-Wr g c =
    served_by g.S.Shelf.device c.args.room c.args.command _ c.args.stage c.do_wr-reply.new.stage c.do_wr-reply.result c.left-in-Wr.result.stage c.left-in-Wr.result.reply (g.C.Clock.last c.args.clock.now) (g.C.Clock.asked c.args.clock.now) c.in-Wr.is c.left-in-Wr.ensures.left c.left-in-Wr.ensures.reply
    (c.do_wr-reply.ensures c.left-in-Wr.result.stage c.left-in-Wr.ensures.left (g.C.Clock.last c.args.clock.now)) refl

pub returns-in-Post : goal.returns-in-Post
returns-in-Post g c =
    served_by g.S.Shelf.device c.args.room c.args.command _ c.args.stage c.do_post-reply.new.stage c.do_post-reply.result c.left-in-Post.result.stage c.left-in-Post.result.reply (g.C.Clock.last c.args.clock.now) (g.C.Clock.asked c.args.clock.now) c.in-Post.is c.left-in-Post.ensures.left c.left-in-Post.ensures.reply
    (c.do_post-reply.ensures c.left-in-Post.result.stage c.left-in-Post.ensures.left (g.C.Clock.last c.args.clock.now)) refl

pub returns-in-Wait : goal.returns-in-Wait
returns-in-Wait g c = done_by g.S.Shelf.device c.args.room c.args.command _ _ _ c.do_wait.result.reply _ _ _ _ c.in-Wait.is (c.do_wait.ensures (g.C.Clock.last c.args.clock.now)) refl

pub returns-in-Step : goal.returns-in-Step
returns-in-Step g c =
    served_by g.S.Shelf.device c.args.room c.args.command _ c.args.stage c.do_step-reply.new.stage c.do_step-reply.result c.left-in-Step.result.stage c.left-in-Step.result.reply (g.C.Clock.last c.args.clock.now) (g.C.Clock.asked c.args.clock.now) c.in-Step.is c.left-in-Step.ensures.left c.left-in-Step.ensures.reply
    (c.do_step-reply.ensures c.left-in-Step.result.stage c.left-in-Step.ensures.left (g.C.Clock.last c.args.clock.now)) refl

pub returns-in-Lsvg : goal.returns-in-Lsvg
returns-in-Lsvg g c =
    let says = c.answered.ensures.reply in
    listed_by g.S.Shelf.device c.args.room c.args.command _ c.args.stage _ c.answered.result.reply _ _ c.in-Lsvg.is c.requires.fits c.requires.between c.answered.ensures.stage
    (subst (λ (r : Reply). most_refusals r ≤ 1) (sym says) (one_group c.in-Lsvg.volumes c.in-Lsvg.name (session_in c.args.stage) c.list_group-reply.result c.list_group-reply.ensures))
    (λ log same. (subst (λ (r : Reply). GroupShows c.in-Lsvg.volumes c.in-Lsvg.name (session_in c.args.stage) r) (sym says) c.list_group-reply.ensures, same)) refl

pub do_migratepv-reply-requires-clause-differ : goal.do_migratepv-reply-requires-clause-differ
do_migratepv-reply-requires-clause-differ g c = subst IsWithinLimits c.in-Migratepv.is c.requires.within

pub returns-in-Migratepv : goal.returns-in-Migratepv
returns-in-Migratepv g c =
    served_by g.S.Shelf.device c.args.room c.args.command _ c.args.stage c.do_migratepv-reply.new.stage c.do_migratepv-reply.result c.left-in-Migratepv.result.stage c.left-in-Migratepv.result.reply (g.C.Clock.last c.args.clock.now) (g.C.Clock.asked c.args.clock.now) c.in-Migratepv.is c.left-in-Migratepv.ensures.left c.left-in-Migratepv.ensures.reply
    (c.do_migratepv-reply.ensures c.left-in-Migratepv.result.stage c.left-in-Migratepv.ensures.left (g.C.Clock.last c.args.clock.now)) refl

pub returns-in-SyncVolume : goal.returns-in-SyncVolume
returns-in-SyncVolume g c =
    served_by g.S.Shelf.device c.args.room c.args.command _ c.args.stage c.do_sync_volume-reply.new.stage c.do_sync_volume-reply.result c.left-in-SyncVolume.result.stage c.left-in-SyncVolume.result.reply (g.C.Clock.last c.args.clock.now) (g.C.Clock.asked c.args.clock.now) c.in-SyncVolume.is c.left-in-SyncVolume.ensures.left c.left-in-SyncVolume.ensures.reply
    (c.do_sync_volume-reply.ensures c.left-in-SyncVolume.result.stage c.left-in-SyncVolume.ensures.left (g.C.Clock.last c.args.clock.now)) refl

pub returns-in-SyncGroup : goal.returns-in-SyncGroup
returns-in-SyncGroup g c =
    served_by g.S.Shelf.device c.args.room c.args.command _ c.args.stage c.do_sync_group-reply.new.stage c.do_sync_group-reply.result c.left-in-SyncGroup.result.stage c.left-in-SyncGroup.result.reply (g.C.Clock.last c.args.clock.now) (g.C.Clock.asked c.args.clock.now) c.in-SyncGroup.is c.left-in-SyncGroup.ensures.left c.left-in-SyncGroup.ensures.reply
    (c.do_sync_group-reply.ensures c.left-in-SyncGroup.result.stage c.left-in-SyncGroup.ensures.left (g.C.Clock.last c.args.clock.now)) refl

pub returns-in-Lslv : goal.returns-in-Lslv
returns-in-Lslv g c =
    let says = c.answered-in-Lslv.ensures.reply in
    listed_by g.S.Shelf.device c.args.room c.args.command _ c.args.stage _ c.answered-in-Lslv.result.reply _ _ c.in-Lslv.is c.requires.fits c.requires.between c.answered-in-Lslv.ensures.stage
    (subst (λ (r : Reply). most_refusals r ≤ 1) (sym says) (one_volume c.in-Lslv.name (session_in c.args.stage) c.list_volume-reply.result c.list_volume-reply.ensures))
    (λ log same. (subst (λ (r : Reply). VolumeShows c.in-Lslv.name (session_in c.args.stage) r) (sym says) c.list_volume-reply.ensures, same)) refl

pub returns-in-Lspv : goal.returns-in-Lspv
returns-in-Lspv g c =
    let says = c.answered-in-Lspv.ensures.reply in
    listed_by g.S.Shelf.device c.args.room c.args.command _ c.args.stage _ c.answered-in-Lspv.result.reply _ _ c.in-Lspv.is c.requires.fits c.requires.between c.answered-in-Lspv.ensures.stage
    (subst (λ (r : Reply). most_refusals r ≤ 1) (sym says) (one_disk c.in-Lspv.disk _ (session_in c.args.stage) c.list_disk-reply.result c.list_disk-reply.ensures))
    (λ log same. (subst (λ (r : Reply). DiskShows c.in-Lspv.disk (length (g.S.Shelf.device (shelf_in c.args.stage)).sizes) (session_in c.args.stage) r) (sym says) c.list_disk-reply.ensures, same)) refl
