use Rattle.std.proofs.Common.{inl, inr, None}
use Rattle.lvm_num.specs.declared.place.Pp.{Pp}
use Rattle.lvm_num.specs.declared.status.Status.{Status}
use Rattle.lvm_num.specs.Status.{calls_stale}
use Rattle.lvm_commit.specs.Rounds.{HoldsRound}
use Rattle.std.proofs.Common.{◌≡◌, not, sym, ◌∙◌, ap, subst}
use Rattle.lvm_num.specs.declared.record.Kind.TheVariants as kind
use Rattle.lvm_num.specs.declared.descriptor.Descriptor.{Descriptor}
use Rattle.lvm_num.specs.Descriptor.{is_member}
use Rattle.lvm_num.specs.Disks.{has}
use Rattle.lvm_num.specs.Status.{calls_missing}
use Rattle.lvm_status.specs.Update.{Stored}
use Rattle.lvm_status.proofs.RunsLemmas.Sound.{and_left}
use Rattle.lvm_commit.specs.Settling.{IsForgotten}
use Rattle.lvm_commit.specs.Rounds.{HasLost, IsSame, stamped, session_write}
use Rattle.lvm_commit.proofs.RoundsLemmas.Wanting.{row_stays}
use Rattle.lvm_commit.proofs.RoundsLemmas.Leaving.{kept_committed, leaves, marks_round, round_same}
use Rattle.lvm_commit.proofs.RoundsLemmas.Recording.{ended_gives, dark_gives, stuck_gives}
use Rattle.lvm_commit.proofs.write.write_descriptor.Goals as goal

same_as : (u x : Stored) → x ≡ stamped u → IsSame (stamped u) x
same_as u x is = record { group = ap (λ (s : Stored). s.group) is; stamp = ap (λ (s : Stored). s.stamp) is; wanted = ap (λ (s : Stored). s.wanted) is }

pub lose-requires-clause-members : goal.lose-requires-clause-members
lose-requires-clause-members g c disk fails =
    let u : Stored = c.args.updater.now in
    ap (λ (g : Descriptor). is_member g disk) c.requires.may.own ∙ and_left (is_member u.group disk) (not (calls_missing u.wanted disk)) ((c.in-Ended.ensures.sent.ends.each disk).target fails)

pub mark_left-requires-clause-rows : goal.mark_left-requires-clause-rows
mark_left-requires-clause-rows g c disk =
    let u : Stored = c.args.updater.now in
    let mid : Stored = c.lose.new.updater in
    let lost : HasLost (has c.in-Ended.failed) (stamped u) mid = subst (λ (s : Stored). HasLost (has c.in-Ended.failed) s mid) c.send_descriptor.ensures.stamps c.lose.ensures in
    row_stays u.wanted mid.wanted lost.wanted.rows disk ∙ c.requires.may.rows disk ∙ sym (ap (λ (g : Descriptor). is_member g disk) lost.group)

pub returns-in-Ended-clause-gives : goal.returns-in-Ended-clause-gives
returns-in-Ended-clause-gives g c =
    let u : Stored = c.args.updater.now in
    let mid : Stored = c.lose.new.updater in
    let last : Stored = c.mark_left.new.updater in
    let lost : HasLost (has c.in-Ended.failed) (stamped u) mid = subst (λ (s : Stored). HasLost (has c.in-Ended.failed) s mid) c.send_descriptor.ensures.stamps c.lose.ensures in
    let sent = c.in-Ended.ensures.sent in
    let rest = c.mark_left.ensures.rest in
    ended_gives (session_write kind.Descriptor c.args.content.now (stamped u) c.args.homes.now) c.args.buf.number c.args.patience.now.left c.send_descriptor.new.patience.left (stamped u) last c.args.homes.now
    c.send_descriptor.new.homes (g.S.Shelf.device c.args.shelf.now) (g.S.Shelf.device c.send_descriptor.new.shelf) sent.leaves (has c.in-Ended.failed) c.in-Ended.buf c.by_votes.result sent.ends
    (ap (λ (s : Stored). s.group) rest ∙ lost.group) (ap (λ (s : Stored). s.stamp) rest ∙ lost.stamp) (leaves c.args.d.now u mid last (has c.in-Ended.failed) lost.wanted c.mark_left.ensures) c.by_votes.ensures

pub returns-in-Ended-clause-marks : goal.returns-in-Ended-clause-marks
returns-in-Ended-clause-marks g c =
    let u : Stored = c.args.updater.now in
    let mid : Stored = c.lose.new.updater in
    let lost : HasLost (has c.in-Ended.failed) (stamped u) mid = subst (λ (s : Stored). HasLost (has c.in-Ended.failed) s mid) c.send_descriptor.ensures.stamps c.lose.ensures in
    marks_round c.args.d.now u mid c.mark_left.new.updater (has c.in-Ended.failed) lost.wanted c.mark_left.ensures lost.group
    (λ disk fails. ap (λ (g : Descriptor). is_member g disk) c.requires.may.own ∙ and_left (is_member u.group disk) (not (calls_missing u.wanted disk)) ((c.in-Ended.ensures.sent.ends.each disk).target fails)) lost.forgotten

pub returns-in-Ended-clause-committed : goal.returns-in-Ended-clause-committed
returns-in-Ended-clause-committed g c =
    let rest = c.mark_left.ensures.rest in
    kept_committed c.args.updater.now c.mark_left.new.updater (ap (λ (s : Stored). s.in_flight) rest ∙ c.lose.ensures.idle)
    (ap (λ (s : Stored). s.committed) rest ∙ c.lose.ensures.committed ∙ ap (λ (s : Stored). s.committed) c.send_descriptor.ensures.stamps) c.by_votes.result

pub returns-in-Dark-clause-gives : goal.returns-in-Dark-clause-gives
returns-in-Dark-clause-gives g c =
    let u : Stored = c.args.updater.now in
    let sent = c.in-Dark.ensures.sent in
    dark_gives (session_write kind.Descriptor c.args.content.now (stamped u) c.args.homes.now) c.args.buf.number c.args.patience.now.left c.send_descriptor.new.patience.left (stamped u) c.send_descriptor.new.updater c.args.homes.now
    c.send_descriptor.new.homes (g.S.Shelf.device c.args.shelf.now) (g.S.Shelf.device c.send_descriptor.new.shelf) sent.leaves (same_as u c.send_descriptor.new.updater c.send_descriptor.ensures.stamps) sent.ends.0

pub returns-in-Dark-clause-marks : goal.returns-in-Dark-clause-marks
returns-in-Dark-clause-marks g c =
    let is = c.send_descriptor.ensures.stamps in
    round_same c.args.d.now c.args.updater.now c.send_descriptor.new.updater (ap (λ (s : Stored). s.group) is) (ap (λ (s : Stored). s.wanted) is) (λ was. subst IsForgotten (sym is) was)

pub returns-in-Dark-clause-committed : goal.returns-in-Dark-clause-committed
returns-in-Dark-clause-committed g c = ap (λ (s : Stored). s.committed) c.send_descriptor.ensures.stamps

pub returns-in-Stuck-clause-gives : goal.returns-in-Stuck-clause-gives
returns-in-Stuck-clause-gives g c =
    let u : Stored = c.args.updater.now in
    let sent = c.in-Stuck.ensures.sent in
    stuck_gives (session_write kind.Descriptor c.args.content.now (stamped u) c.args.homes.now) c.args.buf.number c.args.patience.now.left c.send_descriptor.new.patience.left (stamped u) c.send_descriptor.new.updater c.args.homes.now
    c.send_descriptor.new.homes (g.S.Shelf.device c.args.shelf.now) (g.S.Shelf.device c.send_descriptor.new.shelf) sent.leaves (same_as u c.send_descriptor.new.updater c.send_descriptor.ensures.stamps) sent.ends.0

pub returns-in-Stuck-clause-marks : goal.returns-in-Stuck-clause-marks
returns-in-Stuck-clause-marks g c =
    let is = c.send_descriptor.ensures.stamps in
    round_same c.args.d.now c.args.updater.now c.send_descriptor.new.updater (ap (λ (s : Stored). s.group) is) (ap (λ (s : Stored). s.wanted) is) (λ was. subst IsForgotten (sym is) was)

pub returns-in-Stuck-clause-committed : goal.returns-in-Stuck-clause-committed
returns-in-Stuck-clause-committed g c = ap (λ (s : Stored). s.committed) c.send_descriptor.ensures.stamps

-- nothing is in flight, and what was committed is
stamps_hold : (u x : Stored) → x ≡ stamped u → u.in_flight ≡ None → HoldsRound u x
stamps_hold u x is idle = record {
  in_flight = inr (ap (λ (s : Stored). s.in_flight) is ∙ idle);
  committed = inl (ap (λ (s : Stored). s.committed) is);
  stale = λ p was. ap (λ (s : Stored). calls_stale s.wanted p) is ∙ was;
}

pub returns-in-Ended-clause-held : goal.returns-in-Ended-clause-held
returns-in-Ended-clause-held g c =
    let u : Stored = c.args.updater.now in
    let mid : Stored = c.lose.new.updater in
    let last : Stored = c.mark_left.new.updater in
    let rest = c.mark_left.ensures.rest in
    let lost : HasLost (has c.in-Ended.failed) (stamped u) mid = subst (λ (s : Stored). HasLost (has c.in-Ended.failed) s mid) c.send_descriptor.ensures.stamps c.lose.ensures in
    record {
      in_flight = inr (ap (λ (s : Stored). s.in_flight) rest ∙ lost.idle);
      committed = inl (ap (λ (s : Stored). s.committed) rest ∙ lost.committed);
      stale = (leaves c.args.d.now u mid last (has c.in-Ended.failed) lost.wanted c.mark_left.ensures).stale;
    }

pub returns-in-Dark-clause-held : goal.returns-in-Dark-clause-held
returns-in-Dark-clause-held g c = stamps_hold c.args.updater.now c.send_descriptor.new.updater c.send_descriptor.ensures.stamps c.requires.may.idle

pub returns-in-Stuck-clause-held : goal.returns-in-Stuck-clause-held
returns-in-Stuck-clause-held g c = stamps_hold c.args.updater.now c.send_descriptor.new.updater c.send_descriptor.ensures.stamps c.requires.may.idle
