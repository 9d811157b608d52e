use Rattle.std.proofs.Common.{◌≡◌, ℕ, List, ap, subst, arith}
use Rattle.lvm_num.specs.declared.record.Kind.TheVariants as kind
use Rattle.lvm_num.specs.declared.record.Stamp.{Stamp}
use Rattle.lvm_num.specs.Buffer.{Buffer}
use Rattle.lvm_disk.specs.Device.{Device, HasSectors}
use Rattle.lvm_kept.specs.Torn.{RecordWrite, IsOfRecord}
use Rattle.lvm_status.specs.Update.{Stored}
use Rattle.lvm_rec.specs.declared.homes.Homes.{Homes}
use Rattle.lvm_commit.specs.declared.commit.CommitEnd.{CommitEnd}
use Rattle.lvm_commit.specs.declared.commit.CommitEnd.TheVariants as commit_end
use Rattle.lvm_commit.specs.Settling.{IsOfCommit, there}
use Rattle.lvm_commit.specs.Rounds.{stamped, session_write, RecordGives}
use Rattle.lvm_commit.proofs.SettlingLemmas.Chaining.{keeps_wider, loses_less}
use Rattle.lvm_commit.proofs.HoldingRoundsLemmas.{round_within, within_both, within_same}
use Rattle.lvm_commit.proofs.RoundsLemmas.Leaving.{round_left}
use Rattle.lvm_commit.proofs.SettlingLemmas.Ready.{may_settle_on, numbers_left, spends_one}
use Rattle.lvm_commit.proofs.SettlingLemmas.Describing.{describes, stamp_is, is_of_commit, descriptor_ends, descriptor_finds, descriptor_kept}
use Rattle.lvm_commit.proofs.SettlingLemmas.Described.{ends_map, commit_leaves, commit_ends, commit_finds, commit_kept, Described}
use Rattle.lvm_commit.proofs.commit.commit_descriptor.Goals as goal

-- ---- where the record was written

pub commit_status-requires-clause-may : goal.commit_status-requires-clause-may
commit_status-requires-clause-may g c =
    let first : Stored = c.args.updater.now in
    let mid : Stored = c.write_descriptor.new.updater in
    let old : Device = g.S.Shelf.device c.args.shelf.now in
    let m : Device = g.S.Shelf.device c.write_descriptor.new.shelf in
    let content : List ℕ = c.args.content.now in
    let w : RecordWrite = session_write kind.Descriptor content (stamped first) c.args.homes.now in
    let gives : RecordGives w c.args.buf.number c.args.patience.now.left c.write_descriptor.new.patience.left (stamped first) mid c.args.homes.now c.write_descriptor.new.homes old m (commit_end.Done c.in-Done.buf) =
    subst (λ (r : CommitEnd). RecordGives w c.args.buf.number c.args.patience.now.left c.write_descriptor.new.patience.left (stamped first) mid c.args.homes.now c.write_descriptor.new.homes old m r) c.in-Done.is
    c.write_descriptor.ensures.gives in
    let one = describes first mid c.args.homes.now c.write_descriptor.new.homes old m content c.args.buf.number c.args.patience.now.left c.write_descriptor.new.patience.left (commit_end.Done c.in-Done.buf) gives in
    record {
      ready = gives.how.0.ready;
      settle = may_settle_on c.args.d.now first mid old m c.requires.may.settle one.loses c.in-Done.ensures.committed.0 (ap (λ (s : Stamp). s.epoch) gives.how.0.stamp) one.keeps.sizes gives.how.1;
      numbers = numbers_left first mid old m one.loses
          (stamp_is first mid c.args.homes.now c.write_descriptor.new.homes old m content c.args.buf.number c.args.patience.now.left c.write_descriptor.new.patience.left (commit_end.Done c.in-Done.buf) gives) 1 c.requires.may.numbers;
    }

-- ---- where it was not, or too few members are left

pub returns-in_default : goal.returns-in_default
returns-in_default g c =
    let first : Stored = c.args.updater.now in
    let mid : Stored = c.write_descriptor.new.updater in
    let homes : Homes = c.args.homes.now in
    let after : Homes = c.write_descriptor.new.homes in
    let old : Device = g.S.Shelf.device c.args.shelf.now in
    let m : Device = g.S.Shelf.device c.write_descriptor.new.shelf in
    let sectors : HasSectors old = g.met.S.Shelf.sectors_are_whole c.args.shelf.now in
    let content : List ℕ = c.args.content.now in
    let number = c.args.buf.number in
    let p = c.args.patience.now.left in
    let q = c.write_descriptor.new.patience.left in
    let r : CommitEnd = c.write_descriptor.result in
    let w : RecordWrite = session_write kind.Descriptor content (stamped first) homes in
    let gives : RecordGives w number p q (stamped first) mid homes after old m r = c.write_descriptor.ensures.gives in
    let frames = c.write_descriptor.ensures.frames in
    let one = describes first mid homes after old m content number p q r gives in
    let stamp = stamp_is first mid homes after old m content number p q r gives in
    record {
      ends = descriptor_ends first mid homes after old m content number p q r gives c.requires.may.settle.votes c.in_default.not-Done c.write_descriptor.ensures.committed;
      leaves = record {
        loses = one.loses;
        left = round_left c.args.d.now first mid c.requires.may.settle.valid c.write_descriptor.ensures.marks (loses_less first mid old m one.loses);
        forgotten = c.write_descriptor.ensures.marks.forgotten;
        numbers = spends_one first mid old m one.loses stamp;
        keeps = keeps_wider (there first) (there first) (IsOfRecord w) (IsOfCommit content first mid) old m (λ d off. off) (is_of_commit first mid homes after old m content number p q r gives sectors frames mid (omega arith)) one.keeps;
        spends = one.spends;
      };
      finds = λ group next reads own alike held. descriptor_finds first mid homes after old m content number p q r gives sectors frames group next reads held;
      kept = descriptor_kept first mid homes after old m content number p q r gives sectors frames;
      held = round_within first first mid (within_same first) c.write_descriptor.ensures.held;
    }

-- ---- where the status was committed then

pub returns-in-Done : goal.returns-in-Done
returns-in-Done g c =
    let first : Stored = c.args.updater.now in
    let mid : Stored = c.write_descriptor.new.updater in
    let last : Stored = c.commit_status.new.updater in
    let homes : Homes = c.args.homes.now in
    let after : Homes = c.write_descriptor.new.homes in
    let final : Homes = c.commit_status.new.homes in
    let old : Device = g.S.Shelf.device c.args.shelf.now in
    let m : Device = g.S.Shelf.device c.write_descriptor.new.shelf in
    let new : Device = g.S.Shelf.device c.commit_status.new.shelf in
    let content : List ℕ = c.args.content.now in
    let number = c.args.buf.number in
    let p = c.args.patience.now.left in
    let q = c.write_descriptor.new.patience.left in
    let buf : Buffer = c.in-Done.buf in
    let r : CommitEnd = c.commit_status.result in
    let gives : RecordGives (session_write kind.Descriptor content (stamped first) homes) number p q (stamped first) mid homes after old m (commit_end.Done buf) =
    subst (λ (x : CommitEnd). RecordGives (session_write kind.Descriptor content (stamped first) homes) number p q (stamped first) mid homes after old m x) c.in-Done.is c.write_descriptor.ensures.gives in
    let e = c.commit_status.ensures in
    let k : Described c.args.d.now first mid last homes after final old m new content number p q buf r = record {
      sectors = g.met.S.Shelf.sectors_are_whole c.args.shelf.now;
      frames = c.write_descriptor.ensures.frames;
      gives = gives;
      was_settled = c.requires.settled;
      committed = c.in-Done.ensures.committed.1;
      loses = e.leaves.loses;
      keeps = e.leaves.keeps;
      kept = e.kept;
      valid = c.requires.may.settle.valid;
      describes = c.requires.content.describes;
      round = c.write_descriptor.ensures.marks;
      left = e.leaves.left;
      forgotten = e.leaves.forgotten;
      unwritten = λ same. ends_map r _ ((new ≡ m) × (last ≡ mid)) (λ is. (ap (λ s. g.S.Shelf.device s) is.0, is.1)) (e.unwritten same);
    } in
    record {
      ends = commit_ends c.args.d.now first mid last homes after final old m new content number p q buf r k e.finds e.ends;
      leaves = commit_leaves c.args.d.now first mid last homes after final old m new content number p q buf r k c.commit_status.new.patience.left e.leaves.spends e.leaves.numbers;
      finds = λ group next reads own alike held. commit_finds c.args.d.now first mid last homes after final old m new content number p q buf r k group next reads own alike held e.finds;
      kept = commit_kept c.args.d.now first mid last homes after final old m new content number p q buf r k;
      held = within_both first mid last (round_within first first mid (within_same first) c.write_descriptor.ensures.held) e.held e.leaves.loses.stale;
    }
