use Rattle.std.proofs.Common.{◌≡◌, ◌≤◌, ℕ, refl, sym, ap, subst, ◌∙◌}
use Rattle.lvm_session.specs.declared.open.Power.TheVariants as power
use Rattle.lvm_ranges.specs.Syncing.{SyncGives, volume_copies, volume_fault}
use Rattle.lvm_ranges.specs.Turning.{GoesBeside}
use Rattle.lvm_session.specs.State.{state_of}
use Rattle.lvm_volume_lines.specs.passed.GroupLines.{Reply, is_unheard, most_refusals, patience_of_line}
use Rattle.lvm_volume_lines.specs.Resyncing.{SyncsVolume, SyncVolumeDoes}
use Rattle.lvm_volume_lines.proofs.passed.RangeLines.{table_posts}
use Rattle.lvm_volume_lines.proofs.ResyncingLemmas.{fails_if, may_come, sync_few, synced_ends, synced_shut, volume_may}
use Rattle.lvm_volume_lines.proofs.resync.sync_numbered.Goals as goal

pub sync_volume-synced-requires : goal.sync_volume-synced-requires
sync_volume-synced-requires g c = record { unstuck = λ stuck. let e : power.On ≡ power.Stuck = sym c.requires.on ∙ stuck in cc e }

pub sync_reply-requires : goal.sync_reply-requires
sync_reply-requires g c =
    let device = g.S.Shelf.device in
    let first = c.args.driver.now in
    may_come (volume_fault first.1 c.args.lv) (volume_copies first.1.descriptor c.args.lv) c.whole.result.left c.sync_volume-synced.new.patience.left (state_of device first) (state_of device c.sync_volume-synced.new.driver) c.sync_volume-synced.result
    (volume_may first.1 c.args.lv c.requires.shut) c.sync_volume-synced.ensures.gives

pub returns : goal.returns
returns g c = λ bytes posts fits between stage its.
    let device = g.S.Shelf.device in
    let first = c.args.driver.now in
    let end = c.sync_volume-synced.new.driver in
    let left = c.sync_volume-synced.new.patience.left in
    let result = c.sync_volume-synced.result in
    let gives = subst (λ (k : ℕ). SyncGives (volume_fault first.1 c.args.lv) (volume_copies first.1.descriptor c.args.lv) k left (state_of device first) (state_of device end) result) c.whole.ensures c.sync_volume-synced.ensures.gives in
    let answer = c.sync_reply.result in
    let says = c.sync_reply.ensures.reply in
    let beside = subst (λ (n : ℕ). GoesBeside (state_of device first) (state_of device end) n left) c.whole.ensures c.sync_volume-synced.ensures.beside in
    let few : most_refusals answer ≤ 1 = subst (λ (a : Reply). most_refusals a ≤ 1) (sym says) (sync_few end.1 result) in
    synced_ends device first posts bytes fits between end left beside c.sync_reply.ensures.sound (λ log. SyncVolumeDoes c.args.name) stage answer few (its.rooms first.1.history.room fits.rooms)
    (λ last. SyncsVolume first.1 c.args.lv refl c.requires.number (record {
      end = state_of device end;
      left = left;
      result = result;
      gives = gives;
      beside = beside;
      sound = c.sync_reply.ensures.sound;
      leaves = fails_if device end posts bytes stage last (is_unheard answer) (table_posts first.1 end.1 beside.table posts.items between.posted) its.comes;
      says = says;
      caused = c.sync_volume-synced.ensures.caused;
    }))
    result (λ heard. synced_shut (volume_fault first.1 c.args.lv) (volume_copies first.1.descriptor c.args.lv) patience_of_line left (state_of device first) (state_of device end) result gives c.requires.shut (sym (ap is_unheard says) ∙ heard)) says its.comes
