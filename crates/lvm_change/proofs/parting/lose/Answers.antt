use Rattle.std.proofs.Common.{◌≡◌, ◌+◌, ◌<◌, ◌≤◌, ℕ, Bool, true, false, ◌&&◌, List, length, take, get_or, refl, sym, ◌∙◌, ap, subst, arith}
use Rattle.std.proofs.lemmas.List.{take_all}
use Rattle.lvm_num.specs.declared.descriptor.PvRow.{PvRow}
use Rattle.lvm_num.specs.declared.descriptor.Descriptor.{Descriptor}
use Rattle.lvm_num.specs.Descriptor.{is_member}
use Rattle.lvm_num.specs.Disks.{Disks, has}
use Rattle.lvm_status.specs.declared.change.Change.TheVariants as change
use Rattle.lvm_status.specs.Update.{Stored, seen}
use Rattle.lvm_status.specs.Calls.{BecomesMissing, with_wanted}
use Rattle.lvm_commit.proofs.RoundsLemmas.Losing.{misses_same}
use Rattle.lvm_commit.proofs.RoundsLemmas.Wanting.{IsLosing, row_stays, losing_more, losing_same}
use Rattle.lvm_change.proofs.parting.lose.Goals as goal
use Rattle.lvm_change.proofs.parting.lose.Goals.{then-has, else-has}

abbrev no_row : PvRow
no_row = record { disk = 0; pps = 0; spare = false }

pub want-requires : goal.want-requires
want-requires c =
    let disk : ℕ = (get_or c.as_slice-row-items.result.now c.loop-row.row-index no_row).disk in
    let fails : has c.args.lost disk ≡ true = sym c.has.ensures.member ∙ c.if-has.true in
    let member : is_member c.args.d.now disk ≡ true = c.requires.members disk fails in
    row_stays c.args.updater.now.wanted c.loop-row.updater.wanted c.loop-row.invariant.wanted.rows disk ∙ c.requires.rows disk ∙ sym (ap (λ (g : Descriptor). is_member g disk) c.requires.own) ∙ member

pub loop-row-preserved : goal.loop-row-preserved
loop-row-preserved c =
    let rows = c.args.d.now.pvs in
    let items = c.as_slice-row-items.result.now in
    let i = c.loop-row.row-index in
    let first = c.args.updater.now in
    let u = c.loop-row.updater in
    let same : items ≡ rows = c.as_slice-row-items.ensures in
    let less : i < length rows = omega (arith, ap (length {A = PvRow}) same) in
    let fails : c.has.result ≡ has c.args.lost (get_or rows i no_row).disk = c.has.ensures.member ∙ ap (λ (l : List PvRow). has c.args.lost (get_or l i no_row).disk) same in
    elim c.if-has.branch [
      | then-has w ↦
          subst (λ (x : Stored). IsLosing (has c.args.lost) (take (i + 1) rows) first x) (sym w.updater-is)
          (losing_more (has c.args.lost) rows i no_row less first u c.loop-row.invariant w.want.new.self (sym fails ∙ w.if-has.true)
          (subst (λ (l : List PvRow). BecomesMissing (get_or l i no_row).disk u.wanted w.want.new.self.wanted) same w.want.ensures.wanted)
          (w.want.ensures.rest ∙ ap (λ (l : List PvRow). with_wanted (seen u) (change.Missing (get_or l i no_row).disk) w.want.new.self.wanted) same))
      | else-has w ↦
          subst (λ (x : Stored). IsLosing (has c.args.lost) (take (i + 1) rows) first x) (sym w.updater-is)
          (losing_same (has c.args.lost) rows i no_row less first u c.loop-row.invariant (sym fails ∙ w.if-has.false))
    ]

pub returns : goal.returns
returns c =
    let rows = c.args.d.now.pvs in
    let failed : Disks = has c.args.lost in
    let its : IsLosing failed (take c.loop-row.row-index rows) c.args.updater.now c.loop-row.updater = c.loop-row.invariant in
    let all : length rows ≤ c.loop-row.row-index = omega (arith, ap (length {A = PvRow}) c.as_slice-row-items.ensures) in
    let losing : IsLosing failed rows c.args.updater.now c.loop-row.updater = subst (λ (l : List PvRow). IsLosing failed l c.args.updater.now c.loop-row.updater) (take_all c.loop-row.row-index rows all) its in
    record {
      group = losing.group;
      stamp = losing.stamp;
      committed = losing.committed;
      idle = losing.idle;
      forgotten = losing.forgotten;
      wanted = misses_same (λ d. failed d && is_member c.args.d.now d) failed c.args.updater.now.wanted c.loop-row.updater.wanted c.loop-row.updater.wanted losing.wanted refl
          (λ d. within (failed d) (is_member c.args.d.now d) (c.requires.members d));
    }
  where
    within : (fails member : Bool) → (fails ≡ true → member ≡ true) → fails ≡ fails && member
    within true member its = sym (its refl)
    within false member its = refl
