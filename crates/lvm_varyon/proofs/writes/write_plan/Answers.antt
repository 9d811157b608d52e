use Rattle.std.proofs.Common.{◌≡◌, ◌≤◌, ℕ, false, List, length, sym, subst}
use Rattle.lvm_num.specs.declared.record.Kind.TheVariants as kind
use Rattle.lvm_num.specs.Disks.{has}
use Rattle.lvm_num.specs.Record.{longest_content}
use Rattle.lvm_write.specs.Writes.{DiskWritesLeave}
use Rattle.lvm_write.specs.Beginning.{Beginning, again_beginning, again_order, IsOfParts}
use Rattle.lvm_write.specs.Kept.{AgainStaysKept}
use Rattle.lvm_varyon.specs.declared.plan.Plan.{Plan}
use Rattle.lvm_varyon.specs.Parts.{plan_beginning, AgainWritesGive}
use Rattle.lvm_varyon.proofs.writes.write_plan.Goals as goal

-- what is said of the beginning that the call names is said of the plan's
of_plan : (moment : ℕ) (plan : Plan) (a x : List ℕ) → a ≡ plan.descriptor → x ≡ plan.status → (P : Beginning → Type 0) → P (again_beginning moment a x (has plan.targets) plan.homes) → P (plan_beginning moment plan)
of_plan moment plan a x first second P its =
    subst (λ (s : List ℕ). P (again_beginning moment plan.descriptor s (has plan.targets) plan.homes)) second (subst (λ (d : List ℕ). P (again_beginning moment d x (has plan.targets) plan.homes)) first its)

pub write_records-requires-clause-descriptor : goal.write_records-requires-clause-descriptor
write_records-requires-clause-descriptor g c = subst (λ (l : List ℕ). length l ≤ longest_content kind.Descriptor) (sym c.as_slice.ensures) c.requires.descriptor

pub write_records-requires-clause-status : goal.write_records-requires-clause-status
write_records-requires-clause-status g c = subst (λ (l : List ℕ). length l ≤ longest_content kind.Status) (sym c.as_slice-2.ensures) c.requires.status

pub returns : goal.returns
returns g c =
    let plan = c.args.plan.now in
    let old = g.S.Shelf.device c.args.shelf.now in
    let new = g.S.Shelf.device c.write_records.new.shelf in
    let before = c.args.patience.now.left in
    let after = c.write_records.new.patience.left in
    let so = of_plan c.args.moment plan c.as_slice.result.now c.as_slice-2.result.now c.as_slice.ensures c.as_slice-2.ensures in
    record {
      gives = so (λ (b : Beginning). AgainWritesGive before b (again_order false) old new c.write_records.result) c.write_records.ensures.gives;
      leaves = so (λ (b : Beginning). DiskWritesLeave (has plan.targets) (IsOfParts b (again_order false)) before after old new) c.write_records.ensures.leaves;
      kept = so (λ (b : Beginning). AgainStaysKept b false old new) c.write_records.ensures.kept;
    }
