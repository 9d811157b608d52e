use Rattle.std.proofs.Common.{◌≡◌, ℕ, ◌++◌, List, length, take, drop, ◌∙◌, ap}
use Rattle.std.proofs.Math.Seq.{take-append_seam}
use Rattle.lvm_num.specs.declared.record.Kind.TheVariants as kind
use Rattle.lvm_num.specs.declared.status.Status.{Status}
use Rattle.lvm_num.specs.Disks.{has}
use Rattle.lvm_num.specs.StatusBytes.{status_bytes}
use Rattle.lvm_status.specs.declared.writes.Writes.{Writes}
use Rattle.lvm_status.specs.Update.{Stored}
use Rattle.lvm_write.specs.Written.{write_of}
use Rattle.lvm_commit.specs.Rounds.{Starts, stamped, session_write}
use Rattle.lvm_commit.proofs.RoundsLemmas.Recording.{as_session, as_sent}
use Rattle.lvm_commit.proofs.RoundsLemmas.Starting.{update_starts, there_still}
use Rattle.lvm_commit.proofs.write.send_wanted.Goals as goal

-- the bytes that were put in front
front : (s : Status) (count : ℕ) (bytes old : List ℕ) → bytes ≡ status_bytes s ++ drop (length (status_bytes s)) old → count ≡ length (status_bytes s) → take count bytes ≡ status_bytes s
front s count bytes old is many = ap (take count) is ∙ ap (λ n. take n (status_bytes s ++ drop (length (status_bytes s)) old)) many ∙ take-append_seam (status_bytes s) (drop (length (status_bytes s)) old)

pub returns-clause-starts : goal.returns-clause-starts
returns-clause-starts g c = update_starts c.args.updater.now c.start.new.self c.start.result c.requires.idle c.requires.differs c.start.ensures.starts c.start.ensures.update

pub returns-clause-sent : goal.returns-clause-sent
returns-clause-sent g c =
    let u : Stored = c.args.updater.now in
    let x : Stored = c.start.new.self in
    let homes = c.args.homes.now in
    let starts : Starts u x = update_starts u x c.start.result c.requires.idle c.requires.differs c.start.ensures.starts c.start.ensures.update in
    let put = c.put_wanted-count.ensures in
    let bytes : List ℕ = take c.put_wanted-count.result c.put_wanted-count.new.bytes in
    let writes : Writes = c.writes-targets.result in
    as_sent (write_of kind.Status (record { stamp = c.stamp-stamp.result; content = bytes }) (has writes.unstarted) homes) (session_write kind.Status (status_bytes u.wanted) (stamped u) homes)
    c.args.buf.number c.args.patience.now.left c.write_record.new.patience.left homes c.write_record.new.homes (g.S.Shelf.device c.args.shelf.now) (g.S.Shelf.device c.write_record.new.shelf) c.write_record.result
    (as_session kind.Status (stamped u) homes c.stamp-stamp.result bytes (status_bytes u.wanted) (has writes.unstarted) (c.stamp-stamp.ensures ∙ starts.stamp)
    (front x.wanted c.put_wanted-count.result c.put_wanted-count.new.bytes c.args.bytes.now put.written put.count ∙ ap status_bytes starts.wanted)
    (ap (λ (w : Writes). has w.unstarted) c.writes-targets.ensures ∙ starts.started.unstarted ∙ there_still u x starts))
    c.write_record.ensures.ends c.write_record.ensures.leaves
