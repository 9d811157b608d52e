use Rattle.std.proofs.Common.{◌≡◌, ℕ, List, refl, ◌∙◌, ap}
use Rattle.lvm_num.specs.declared.record.Kind.TheVariants as kind
use Rattle.lvm_num.specs.declared.record.Stamp.{Stamp}
use Rattle.lvm_num.specs.declared.descriptor.Descriptor.{Descriptor}
use Rattle.lvm_num.specs.Disks.{has}
use Rattle.lvm_status.specs.Update.{Stored, members_there}
use Rattle.lvm_write.specs.Written.{write_of}
use Rattle.lvm_commit.specs.Committed.{next_stamp}
use Rattle.lvm_commit.specs.Rounds.{stamped, session_write}
use Rattle.lvm_commit.proofs.RoundsLemmas.Recording.{as_session, as_sent}
use Rattle.lvm_commit.proofs.write.send_descriptor.Goals as goal

-- the session under the next stamp
stamps : (u x : Stored) (before stamp : Stamp) → before ≡ u.stamp → stamp ≡ next_stamp before → x ≡ record u { stamp = stamp } → x ≡ stamped u
stamps u x before stamp was next is = is ∙ ap (λ (s : Stamp). record u { stamp = s }) (next ∙ ap next_stamp was)

pub returns-clause-stamps : goal.returns-clause-stamps
returns-clause-stamps g c = stamps c.args.updater.now c.set_stamp.new.self c.stamp.result c.next_stamp-stamp.result c.stamp.ensures c.next_stamp-stamp.ensures c.set_stamp.ensures

pub returns-clause-sent : goal.returns-clause-sent
returns-clause-sent g c =
    let u : Stored = c.args.updater.now in
    let x : Stored = c.set_stamp.new.self in
    let d : Descriptor = c.args.d.now in
    let homes = c.args.homes.now in
    let content : List ℕ = c.args.content.now in
    let is : x ≡ stamped u = stamps u x c.stamp.result c.next_stamp-stamp.result c.stamp.ensures c.next_stamp-stamp.ensures c.set_stamp.ensures in
    as_sent (write_of kind.Descriptor (record { stamp = c.next_stamp-stamp.result; content = content }) (has c.members_there-targets.result) homes) (session_write kind.Descriptor content (stamped u) homes)
    c.args.buf.number c.args.patience.now.left c.write_record.new.patience.left homes c.write_record.new.homes (g.S.Shelf.device c.args.shelf.now) (g.S.Shelf.device c.write_record.new.shelf) c.write_record.result
    (as_session kind.Descriptor (stamped u) homes c.next_stamp-stamp.result content content (has c.members_there-targets.result) (c.next_stamp-stamp.ensures ∙ ap next_stamp c.stamp.ensures) refl
    (c.members_there-targets.ensures ∙ ap (members_there d) c.wanted.ensures ∙ ap (λ (s : Stored). members_there d s.wanted) is ∙ ap (λ (g : Descriptor). members_there g u.wanted) c.requires.may.own))
    c.write_record.ensures.ends c.write_record.ensures.leaves
