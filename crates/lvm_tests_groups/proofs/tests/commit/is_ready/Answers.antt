use Rattle.std.proofs.Common.{◌≡◌, ◌<◌, ℕ, length, get_or, true, not, IsTrue, sym, ◌∙◌, ap, subst, arith}
use Rattle.std.specs.Prelude.{◌==◌, All}
use Rattle.std.proofs.lemmas.Bool.{eqb-true}
use Rattle.std.proofs.lemmas.List.Folds.{Any-from_list_any}
use Rattle.lvm_num.specs.declared.record.Stamp.{Stamp}
use Rattle.lvm_num.specs.declared.descriptor.PvRow.{PvRow}
use Rattle.lvm_num.specs.declared.descriptor.Descriptor.{Descriptor}
use Rattle.lvm_num.specs.declared.status.Status.{Status}
use Rattle.lvm_num.specs.Descriptor.{is_member}
use Rattle.lvm_num.specs.Status.{calls_missing}
use Rattle.lvm_num.specs.Votes.{votes_in, is_enough_to_write, CanWrite}
use Rattle.lvm_disk.specs.Device.{Device}
use Rattle.lvm_status.specs.Table.{has_row}
use Rattle.lvm_status.specs.Members.{HasItsRows}
use Rattle.lvm_status.specs.Update.{Stored}
use Rattle.lvm_status.proofs.RunsLemmas.Sound.{and_left}
use Rattle.lvm_write.specs.Written.{HasRoom}
use Rattle.lvm_commit.specs.Settling.{there, IsOf}
use Rattle.lvm_tests_groups.proofs.tests.commit.is_ready.Goals as goal

-- a member's disk is one of so many
below : (d : Descriptor) (n disk : ℕ) → All (λ (row : PvRow). row.disk < n) d.pvs → is_member d disk ≡ true → disk < n
below d n disk all is =
    let found = Any-from_list_any (λ (row : PvRow). row.disk == disk) d.pvs is in
    let less : (get_or d.pvs found.0 found.1).disk < n = all found.0 found.1 found.2 in
    omega (arith, less, ap (λ (row : PvRow). row.disk) found.3, eqb-true found.1.disk disk found.4)

-- there is room on each member that isn't missing
room_there : (d : Descriptor) (u : Stored) (device : Device) (n : ℕ) → IsOf d u → All (λ (row : PvRow). row.disk < n) d.pvs → n ≡ length device.sizes → ((disk : ℕ) → disk < length device.sizes → HasRoom device disk)
    → (disk : ℕ) → IsTrue (there u disk) → HasRoom device disk
room_there d u device n own all many room disk here =
    let member : is_member d disk ≡ true = ap (λ (g : Descriptor). is_member g disk) own ∙ and_left (is_member u.group disk) (not (calls_missing u.wanted disk)) here in
    let less : disk < n = below d n disk all member in
    room disk (omega (arith, less, many))

rows_of : (d : Descriptor) (u : Stored) (s : Status) → IsOf d u → s ≡ u.wanted → HasItsRows d s → HasItsRows u.group u.wanted
rows_of d u s own is rows disk = ap (λ (x : Status). has_row x disk) (sym is) ∙ rows disk ∙ ap (λ (g : Descriptor). is_member g disk) own

enough_of : (d : Descriptor) (u : Stored) (have : ℕ) → IsOf d u → have ≡ votes_in u.group (there u) → IsTrue (is_enough_to_write d have) → CanWrite u.group (there u)
enough_of d u have own is enough = subst (λ n. IsTrue (is_enough_to_write u.group n)) is (subst (λ (g : Descriptor). IsTrue (is_enough_to_write g have)) own enough)

pub returns-clause-may : goal.returns-clause-may
returns-clause-may g c enough =
    let d : Descriptor = c.args.d.now in
    let u : Stored = c.args.updater.now in
    let id : c.as_status.result.now.id ≡ d.id = c.if-as_status-d.false in
    record {
      valid = c.is_valid.ensures.0 c.if-not-is_valid.false;
      own = c.requires;
      idle = sym c.in_default.ensures;
      id = ap (λ (s : Status). s.id) (sym c.wanted-wanted.ensures ∙ sym c.as_status.ensures.same) ∙ id ∙ ap (λ (x : Descriptor). x.id) c.requires;
      rows = rows_of d u c.wanted-wanted.result.now c.requires c.wanted-wanted.ensures (c.has_its_rows.ensures.0 c.if-not-has_its_rows.false);
      epoch = λ zero. c.if-stamp-eq0.false (ap (λ (s : Stamp). s.epoch) c.stamp-stamp.ensures ∙ zero);
      room = room_there d u (g.S.Shelf.device c.args.shelf.now) c.disks.result c.requires (c.are_below.ensures c.if-not-are_below.false) c.disks.ensures.number (c.has_room.ensures c.if-not-has_room.false);
      votes = enough_of d u c.votes-have.result.0 c.requires c.votes-have.ensures.have (sym c.enough_to_write.ensures ∙ enough);
    }
