use Rattle.std.proofs.Common.{◌≡◌, refl, sym, ◌∙◌, ap}
use Rattle.std.proofs.lemmas.Bool.{false≢true}
use Rattle.lvm_disk.specs.Device.{Device, HasSectors}
use Rattle.lvm_status.specs.Update.{Stored}
use Rattle.lvm_commit.proofs.HoldingRoundsLemmas.{round_within, within_same}
use Rattle.lvm_commit.proofs.SettlingLemmas.StatusRounds.{no_rounds, more_rounds}
use Rattle.lvm_commit.proofs.RoundsLemmas.StatusEnding.{rounds_end, rounds_stop}
use Rattle.lvm_commit.proofs.commit.commit_status.Goals as goal

pub loop-shelf-init : goal.loop-shelf-init
loop-shelf-init g c = record {
  rounds = no_rounds c.args.d.now c.args.patience.now.left c.args.updater.now c.args.homes.now (g.S.Shelf.device c.args.shelf.now) c.args.buf c.requires.may.settle c.requires.may.ready;
  held = within_same c.args.updater.now;
  unwritten = λ same. (refl, refl, refl, refl);
}

-- what is wanted isn't committed, though that was so
still_differs : (first now : Stored) → now ≡ first → (now.committed ≡ now.wanted → ⊥) → first.wanted ≡ first.committed → ⊥
still_differs first now same differs is = differs (ap (λ (u : Stored). u.committed) same ∙ sym is ∙ ap (λ (u : Stored). u.wanted) (sym same))

pub loop-shelf-preserved : goal.loop-shelf-preserved
loop-shelf-preserved g c =
    let inv = c.loop-shelf.invariant in
    let now : Stored = c.loop-shelf.updater in
    let mid : Device = g.S.Shelf.device c.loop-shelf.shelf in
    let sectors : HasSectors mid = g.met.S.Shelf.sectors_are_whole c.loop-shelf.shelf in
    let differs : now.committed ≡ now.wanted → ⊥ = λ same. false≢true (sym c.loop-shelf-test.true ∙ c.is_committed.ensures.1 same) in
    let call = c.in-Done.ensures in
    record {
      rounds = more_rounds c.args.d.now c.args.buf.number c.args.patience.now.left c.loop-shelf.patience.left c.args.updater.now now c.args.homes.now c.loop-shelf.homes (g.S.Shelf.device c.args.shelf.now) mid c.loop-shelf.buf
          inv.rounds differs sectors c.write_wanted.new.updater c.write_wanted.new.homes (g.S.Shelf.device c.write_wanted.new.shelf) c.write_wanted.new.patience.left _ call.gives call.frames call.valid call.marks
          c.in-Done.back call.gives.how.0 call.committed.0 call.committed.1 call.gives.how.1;
      held = round_within c.args.updater.now now c.write_wanted.new.updater inv.held call.held;
      unwritten = λ same. absurd (still_differs c.args.updater.now now (inv.unwritten same).1 differs same);
    }

pub returns-in_default : goal.returns-in_default
returns-in_default g c =
    let inv = c.loop-shelf.invariant in
    let now : Stored = c.loop-shelf.updater in
    let mid : Device = g.S.Shelf.device c.loop-shelf.shelf in
    let sectors : HasSectors mid = g.met.S.Shelf.sectors_are_whole c.loop-shelf.shelf in
    let differs : now.committed ≡ now.wanted → ⊥ = λ same. false≢true (sym c.loop-shelf-test.true ∙ c.is_committed.ensures.1 same) in
    let call = c.write_wanted.ensures in
    let gives = rounds_stop c.args.d.now c.args.buf.number c.args.patience.now.left c.loop-shelf.patience.left c.args.updater.now now c.args.homes.now c.loop-shelf.homes (g.S.Shelf.device c.args.shelf.now) mid c.loop-shelf.buf
    inv.rounds differs sectors c.write_wanted.new.updater c.write_wanted.new.homes (g.S.Shelf.device c.write_wanted.new.shelf) c.write_wanted.new.patience.left c.write_wanted.result call.gives call.frames call.valid call.marks call.committed c.in_default.not-Done in
    record { ends = gives.ends; unwritten = λ same. absurd (still_differs c.args.updater.now now (inv.unwritten same).1 differs same); leaves = gives.leaves; finds = gives.finds; kept = gives.kept; held = round_within c.args.updater.now now c.write_wanted.new.updater inv.held call.held }

pub returns : goal.returns
returns g c =
    let inv = c.loop-shelf.invariant in
    let gives = rounds_end c.args.d.now c.args.buf.number c.args.patience.now.left c.loop-shelf.patience.left c.args.updater.now c.loop-shelf.updater c.args.homes.now c.loop-shelf.homes (g.S.Shelf.device c.args.shelf.now)
    (g.S.Shelf.device c.loop-shelf.shelf) c.loop-shelf.buf inv.rounds (c.is_committed.ensures.0 c.loop-shelf-test.false) in
    record { ends = gives.ends; unwritten = inv.unwritten; leaves = gives.leaves; finds = gives.finds; kept = gives.kept; held = inv.held }
