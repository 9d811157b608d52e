use Rattle.std.proofs.Common.{◌≡◌, ◌<◌, ◌≤◌, false, ◌&&◌, ◌||◌, not, List, length, get_or, refl, sym, ap, ◌∙◌, arith}
use Rattle.std.specs.Prelude.{◌==◌}
use Rattle.std.specs.List.{list_any}
use Rattle.std.proofs.lemmas.List.{take_all}
use Rattle.lvm_status.specs.passed.Num.{PvRow, has, calls_missing}
use Rattle.lvm_status.specs.Update.{members_there}
use Rattle.lvm_status.proofs.Disks.{there_more, same_disks, adds, leaves, swap}
use Rattle.lvm_status.proofs.updater.members_there.Goals as goal
use Rattle.lvm_status.proofs.updater.members_there.Goals.{then-not-is_missing, else-not-is_missing}

abbrev no_row : PvRow
no_row = record { disk = 0; pps = 0; spare = false }

pub loop-row-preserved : goal.loop-row-preserved
loop-row-preserved c disk =
    let rows = c.args.d.now.pvs in
    let gone = calls_missing c.args.table.now in
    let i = c.loop-row.row-index in
    let lt : i < length rows = omega (arith, ap (length {A = PvRow}) c.as_slice-row-items.ensures) in
    let its : (get_or c.as_slice-row-items.result.now i no_row).disk ≡ (get_or rows i no_row).disk = ap (λ (all : List PvRow). (get_or all i no_row).disk) c.as_slice-row-items.ensures in
    let missing : c.is_missing.result ≡ gone (get_or rows i no_row).disk = c.is_missing.ensures ∙ ap gone its in
    let old = c.loop-row.invariant disk in
    elim c.if-not-is_missing.branch [
      | then-not-is_missing w ↦
          ap (λ set. has set disk) w.there-is
          ∙ adds ((get_or rows i no_row).disk == disk) (gone (get_or rows i no_row).disk) (sym missing ∙ w.if-not-is_missing.true) (has c.loop-row.there disk) (has w.with-there.result disk)
          (w.with-there.ensures disk ∙ ap (λ b. has c.loop-row.there disk || b) (swap disk (get_or c.as_slice-row-items.result.now i no_row).disk ∙ ap (λ n. n == disk) its))
          ∙ ap (λ b. b || ((get_or rows i no_row).disk == disk && not (gone (get_or rows i no_row).disk))) old
          ∙ sym (there_more rows gone i disk no_row lt)
      | else-not-is_missing w ↦
          ap (λ set. has set disk) w.there-is
          ∙ leaves ((get_or rows i no_row).disk == disk) (gone (get_or rows i no_row).disk) (sym missing ∙ w.if-not-is_missing.false) (has c.loop-row.there disk) (has c.loop-row.there disk) refl
          ∙ ap (λ b. b || ((get_or rows i no_row).disk == disk && not (gone (get_or rows i no_row).disk))) old
          ∙ sym (there_more rows gone i disk no_row lt)
    ]

pub returns : goal.returns
returns c =
    let all : length c.args.d.now.pvs ≤ c.loop-row.row-index = omega (arith, ap (length {A = PvRow}) c.as_slice-row-items.ensures) in
    same_disks (has c.loop-row.there) (members_there c.args.d.now c.args.table.now)
    (λ disk.
    c.loop-row.invariant disk
    ∙ ap (λ (rows : List PvRow). list_any (λ (row : PvRow). row.disk == disk) rows && not (calls_missing c.args.table.now disk)) (take_all c.loop-row.row-index c.args.d.now.pvs all))
