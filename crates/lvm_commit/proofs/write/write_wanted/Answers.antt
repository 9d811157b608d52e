use Rattle.std.proofs.Common.{inl, inr, ⊎_elim, Some}
use Rattle.lvm_num.specs.declared.place.Pp.{Pp}
use Rattle.lvm_num.specs.Status.{calls_stale}
use Rattle.lvm_commit.specs.Rounds.{HoldsRound}
use Rattle.lvm_commit.proofs.HoldingRoundsLemmas.{by_round}
use Rattle.std.proofs.Common.{◌≡◌, ℕ, true, not, Some, None, sym, ◌∙◌, ap}
use Rattle.lvm_num.specs.declared.record.Kind.TheVariants as kind
use Rattle.lvm_num.specs.declared.descriptor.Descriptor.{Descriptor}
use Rattle.lvm_num.specs.declared.status.Status.{Status}
use Rattle.lvm_num.specs.Descriptor.{is_member}
use Rattle.lvm_num.specs.Disks.{Disks, has}
use Rattle.lvm_num.specs.Status.{calls_missing}
use Rattle.lvm_num.specs.StatusBytes.{status_bytes}
use Rattle.lvm_status.specs.passed.Status.{has_row}
use Rattle.lvm_status.specs.Update.{Stored}
use Rattle.lvm_status.proofs.RunsLemmas.Sound.{and_left}
use Rattle.lvm_commit.specs.Settling.{there, IsForgotten}
use Rattle.lvm_commit.specs.Rounds.{Misses, UpdateHasEnded, IsSame, Starts, stamped, session_write}
use Rattle.lvm_commit.proofs.RoundsLemmas.Wanting.{row_stays}
use Rattle.lvm_commit.proofs.RoundsLemmas.Leaving.{round_committed, leaves, marks_round, round_same}
use Rattle.lvm_commit.proofs.RoundsLemmas.Losing.{misses_at}
use Rattle.lvm_commit.proofs.RoundsLemmas.Recording.{ended_gives, dark_gives, stuck_gives, only_targets}
use Rattle.lvm_commit.proofs.RoundsLemmas.Starting.{there_still}
use Rattle.lvm_commit.proofs.write.write_wanted.Goals as goal

same_as : (u x : Stored) → Starts u x → IsSame (stamped u) x
same_as u x starts = record { group = starts.group; stamp = starts.stamp; wanted = starts.wanted }

-- an update is in flight
flies_on : (u x : Stored) → Starts u x → IsForgotten u → IsForgotten x
flies_on u x starts was none = absurd (let e : Some x.wanted ≡ None = sym starts.started.flies ∙ none in cc e)

-- those on which it failed become missing
misses : (u x mid : Stored) (failed : Disks) → Starts u x → UpdateHasEnded failed x mid → ((d : ℕ) → failed d ≡ true → there u d ≡ true) → Misses failed u.wanted mid.wanted
misses u x mid failed starts ends on =
    misses_at failed x.wanted u.wanted mid.wanted starts.wanted (only_targets (there x) failed x.wanted mid.wanted (λ d is. ap (λ (set : Disks). set d) (there_still u x starts) ∙ on d is) ends.wanted)

pub end_writes-requires-clause-started : goal.end_writes-requires-clause-started
end_writes-requires-clause-started g c = c.send_wanted.ensures.starts.started

pub mark_left-requires-clause-rows : goal.mark_left-requires-clause-rows
mark_left-requires-clause-rows g c disk =
    let x : Stored = c.send_wanted.new.updater in
    let mid : Stored = c.end_writes.new.updater in
    let starts : Starts c.args.updater.now x = c.send_wanted.ensures.starts in
    let ends = c.end_writes.ensures in
    row_stays x.wanted mid.wanted ends.wanted.rows disk ∙ ap (λ (s : Status). has_row s disk) starts.wanted ∙ c.requires.may.rows disk ∙ sym (ap (λ (g : Descriptor). is_member g disk) (ends.group ∙ starts.group))

pub returns-in-Ended-clause-gives : goal.returns-in-Ended-clause-gives
returns-in-Ended-clause-gives g c =
    let u : Stored = c.args.updater.now in
    let x : Stored = c.send_wanted.new.updater in
    let mid : Stored = c.end_writes.new.updater in
    let last : Stored = c.mark_left.new.updater in
    let failed : Disks = has c.in-Ended.failed in
    let starts : Starts u x = c.send_wanted.ensures.starts in
    let sent = c.in-Ended.ensures.sent in
    let ends = c.end_writes.ensures in
    let rest = c.mark_left.ensures.rest in
    ended_gives (session_write kind.Status (status_bytes u.wanted) (stamped u) c.args.homes.now) c.args.buf.number c.args.patience.now.left c.send_wanted.new.patience.left (stamped u) last c.args.homes.now c.send_wanted.new.homes
    (g.S.Shelf.device c.args.shelf.now) (g.S.Shelf.device c.send_wanted.new.shelf) sent.leaves failed c.in-Ended.buf c.by_votes.result sent.ends
    (ap (λ (s : Stored). s.group) rest ∙ ends.group ∙ starts.group) (ap (λ (s : Stored). s.stamp) rest ∙ ends.stamp ∙ starts.stamp)
    (leaves c.args.d.now u mid last failed (misses u x mid failed starts ends (λ d is. (sent.ends.each d).target is)) c.mark_left.ensures)
    c.by_votes.ensures

pub returns-in-Ended-clause-marks : goal.returns-in-Ended-clause-marks
returns-in-Ended-clause-marks g c =
    let u : Stored = c.args.updater.now in
    let x : Stored = c.send_wanted.new.updater in
    let failed : Disks = has c.in-Ended.failed in
    let starts : Starts u x = c.send_wanted.ensures.starts in
    let ends = c.end_writes.ensures in
    let on : (d : ℕ) → failed d ≡ true → there u d ≡ true = λ d is. (c.in-Ended.ensures.sent.ends.each d).target is in
    marks_round c.args.d.now u c.end_writes.new.updater c.mark_left.new.updater failed (misses u x c.end_writes.new.updater failed starts ends on) c.mark_left.ensures (ends.group ∙ starts.group)
    (λ d is. ap (λ (g : Descriptor). is_member g d) c.requires.may.own ∙ and_left (is_member u.group d) (not (calls_missing u.wanted d)) (on d is)) (λ was. ends.forgotten)

pub returns-in-Ended-clause-committed : goal.returns-in-Ended-clause-committed
returns-in-Ended-clause-committed g c =
    let u : Stored = c.args.updater.now in
    let starts : Starts u c.send_wanted.new.updater = c.send_wanted.ensures.starts in
    round_committed c.args.d.now (has c.in-Ended.failed) u c.end_writes.new.updater c.mark_left.new.updater u.wanted c.mark_left.ensures
    (λ enough. let is = c.end_writes.ensures.committed enough in (is.0, is.1 ∙ starts.wanted)) (λ few. c.end_writes.ensures.short few ∙ starts.committed) _ c.by_votes.result c.by_votes.ensures

pub returns-in-Dark-clause-gives : goal.returns-in-Dark-clause-gives
returns-in-Dark-clause-gives g c =
    let u : Stored = c.args.updater.now in
    let sent = c.in-Dark.ensures.sent in
    dark_gives (session_write kind.Status (status_bytes u.wanted) (stamped u) c.args.homes.now) c.args.buf.number c.args.patience.now.left c.send_wanted.new.patience.left (stamped u) c.send_wanted.new.updater c.args.homes.now
    c.send_wanted.new.homes (g.S.Shelf.device c.args.shelf.now) (g.S.Shelf.device c.send_wanted.new.shelf) sent.leaves (same_as u c.send_wanted.new.updater c.send_wanted.ensures.starts) sent.ends.0

pub returns-in-Dark-clause-marks : goal.returns-in-Dark-clause-marks
returns-in-Dark-clause-marks g c = round_same c.args.d.now c.args.updater.now c.send_wanted.new.updater c.send_wanted.ensures.starts.group c.send_wanted.ensures.starts.wanted (flies_on c.args.updater.now c.send_wanted.new.updater c.send_wanted.ensures.starts)

pub returns-in-Dark-clause-committed : goal.returns-in-Dark-clause-committed
returns-in-Dark-clause-committed g c = c.send_wanted.ensures.starts.committed

pub returns-in-Stuck-clause-gives : goal.returns-in-Stuck-clause-gives
returns-in-Stuck-clause-gives g c =
    let u : Stored = c.args.updater.now in
    let sent = c.in-Stuck.ensures.sent in
    stuck_gives (session_write kind.Status (status_bytes u.wanted) (stamped u) c.args.homes.now) c.args.buf.number c.args.patience.now.left c.send_wanted.new.patience.left (stamped u) c.send_wanted.new.updater c.args.homes.now
    c.send_wanted.new.homes (g.S.Shelf.device c.args.shelf.now) (g.S.Shelf.device c.send_wanted.new.shelf) sent.leaves (same_as u c.send_wanted.new.updater c.send_wanted.ensures.starts) sent.ends.0

pub returns-in-Stuck-clause-marks : goal.returns-in-Stuck-clause-marks
returns-in-Stuck-clause-marks g c = round_same c.args.d.now c.args.updater.now c.send_wanted.new.updater c.send_wanted.ensures.starts.group c.send_wanted.ensures.starts.wanted (flies_on c.args.updater.now c.send_wanted.new.updater c.send_wanted.ensures.starts)

pub returns-in-Stuck-clause-committed : goal.returns-in-Stuck-clause-committed
returns-in-Stuck-clause-committed g c = c.send_wanted.ensures.starts.committed

-- what was wanted is in flight still
starts_holds : (u x : Stored) → Starts u x → HoldsRound u x
starts_holds u x starts = record {
  in_flight = inl (starts.started.flies ∙ ap (λ (s : Status). Some s) starts.wanted);
  committed = inl starts.committed;
  stale = λ p was. ap (λ (s : Status). calls_stale s p) starts.wanted ∙ was;
}

pub returns-in-Ended-clause-held : goal.returns-in-Ended-clause-held
returns-in-Ended-clause-held g c =
    let u : Stored = c.args.updater.now in
    let x : Stored = c.send_wanted.new.updater in
    let mid : Stored = c.end_writes.new.updater in
    let last : Stored = c.mark_left.new.updater in
    let failed : Disks = has c.in-Ended.failed in
    let starts : Starts u x = c.send_wanted.ensures.starts in
    let ends = c.end_writes.ensures in
    let rest = c.mark_left.ensures.rest in
    record {
      in_flight = ⊎_elim (λ flies. inl (ap (λ (s : Stored). s.in_flight) rest ∙ flies ∙ ap (λ (s : Status). Some s) starts.wanted)) (λ none. inr (ap (λ (s : Stored). s.in_flight) rest ∙ none)) ends.flown;
      committed = by_round u.wanted u last c.by_votes.result (returns-in-Ended-clause-committed g c);
      stale = (leaves c.args.d.now u mid last failed (misses u x mid failed starts ends (λ d is. (c.in-Ended.ensures.sent.ends.each d).target is)) c.mark_left.ensures).stale;
    }

pub returns-in-Dark-clause-held : goal.returns-in-Dark-clause-held
returns-in-Dark-clause-held g c = starts_holds c.args.updater.now c.send_wanted.new.updater c.send_wanted.ensures.starts

pub returns-in-Stuck-clause-held : goal.returns-in-Stuck-clause-held
returns-in-Stuck-clause-held g c = starts_holds c.args.updater.now c.send_wanted.new.updater c.send_wanted.ensures.starts
