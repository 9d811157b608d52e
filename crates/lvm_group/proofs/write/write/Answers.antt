use Rattle.std.proofs.Common.{◌≡◌, ◌≤◌, ℕ, List, length, sym, subst}
use Rattle.lvm_num.specs.declared.record.Kind.TheVariants as kind
use Rattle.lvm_num.specs.Disks.{Disks, has}
use Rattle.lvm_num.specs.Record.{longest_content}
use Rattle.lvm_rec.specs.declared.homes.Homes.{Homes}
use Rattle.lvm_write.specs.Writes.{DiskWritesLeave}
use Rattle.lvm_write.specs.Beginning.{Beginning, new_beginning, new_order, IsOfParts}
use Rattle.lvm_write.specs.Kept.{NewStaysKept}
use Rattle.lvm_group.specs.Steps.{NewWritesGive}
use Rattle.lvm_group.proofs.write.write.Goals as goal

-- what is said of the beginning that the call names is said of the planned one
as_planned : (moment : ℕ) (a b x y : List ℕ) (targets : Disks) (homes : Homes) → a ≡ b → x ≡ y → (P : Beginning → Type 0) → P (new_beginning moment a x targets homes) → P (new_beginning moment b y targets homes)
as_planned moment a b x y targets homes first second P its =
    subst (λ (s : List ℕ). P (new_beginning moment b s targets homes)) second (subst (λ (d : List ℕ). P (new_beginning moment d x targets homes)) first its)

pub begin-requires-clause-descriptor : goal.begin-requires-clause-descriptor
begin-requires-clause-descriptor g c = subst (λ (l : List ℕ). length l ≤ longest_content kind.Descriptor) (sym c.as_slice.ensures) c.requires.descriptor

pub begin-requires-clause-status : goal.begin-requires-clause-status
begin-requires-clause-status g c = subst (λ (l : List ℕ). length l ≤ longest_content kind.Status) (sym c.as_slice-2.ensures) c.requires.status

pub returns : goal.returns
returns g c =
    let old = g.S.Shelf.device c.args.shelf.now in
    let new = g.S.Shelf.device c.begin.new.shelf in
    let plan = c.args.plan.now in
    let before = c.args.patience.now.left in
    let after = c.begin.new.patience.left in
    let planned = as_planned c.args.moment c.as_slice.result.now plan.descriptor c.as_slice-2.result.now plan.status (has plan.targets) c.args.free.homes c.as_slice.ensures c.as_slice-2.ensures in
    record {
      gives = planned (λ (b : Beginning). NewWritesGive b before old new c.begin.result) c.begin.ensures.gives;
      leaves = planned (λ (b : Beginning). DiskWritesLeave b.targets (IsOfParts b new_order) before after old new) c.begin.ensures.leaves;
      kept = planned (λ (b : Beginning). NewStaysKept b old new) c.begin.ensures.kept;
    }
