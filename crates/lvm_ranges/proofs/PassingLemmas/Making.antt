-- A copy that was opened and brought up until it is done is fresh.
use Rattle.std.proofs.Common.{◌≡◌, ℕ, false, [], Option, Some, refl, sym, ap, subst, ◌∙◌}
use Rattle.std.specs.Prelude.{IfSome}
use Rattle.std.specs.Option.{option_map_or}
use Rattle.lvm_num.specs.declared.descriptor.LvRow.{LvRow}
use Rattle.lvm_num.specs.Descriptor.{copies_of}
use Rattle.lvm_disk.specs.Counts.{Counts}
use Rattle.lvm_session.specs.declared.answers.CopyState.TheVariants as copy
use Rattle.lvm_session.specs.declared.bringing.OpenCopy.{OpenCopy}
use Rattle.lvm_session.specs.Bringing.{step_place}
use Rattle.lvm_session.specs.Calls.{Opens, copy_at, faults_of, opened as opened_copy}
use Rattle.lvm_session.specs.State.{Core, State}
use Rattle.lvm_ranges.specs.passed.KeepsEvents.{is_marked}
use Rattle.lvm_ranges.specs.Passing.{Copy, HasEndedFor, IsMadeFresh, IsOpened}

-- the copy as it is opened
abbrev pub as_opened : (counts : Counts) (old new : Core) (lv lp number : ℕ) → Opens counts old new lv lp number → OpenCopy
as_opened counts old new lv lp number it = opened_copy false it.pp lv lp number it.tried (faults_of counts (copies_of it.row lp) it.pp) (step_place old)

-- it is opened on the partition that was asked for
pub its_pp : (c : Copy) (patience left : ℕ) (old opened : State) (opens : IsOpened c patience left old opened) → opens.opens.pp ≡ c.pp
its_pp c patience left old opened opens = let e : Some opens.opens.pp ≡ Some c.pp = sym opens.opens.copy_is ∙ at in cc e
  where
    at : copy_at (copies_of opens.opens.row c.lp) c.number ≡ Some c.pp
    at = sym (ap (λ m. copy_at (option_map_or (λ (r : LvRow). copies_of r c.lp) m []) c.number) opens.opens.volume) ∙ opens.its

pub made_fresh : (c : Copy) (patience before left : ℕ) (old opened new : State) → IsOpened c patience before old opened → HasEndedFor before left opened new copy.Done → IsMadeFresh c patience left old new
made_fresh c patience before left old opened new opens ends = record {
  brings = record { opened = opened; before = before; opens = opens; ends = ends };
  fresh = ap (is_marked new.core) (sym (its_pp c patience before old opened opens)) ∙ here;
}
  where
    here : is_marked new.core opens.opens.pp ≡ false
    here = subst (λ (m : Option OpenCopy). IfSome m (λ (k : OpenCopy). is_marked new.core k.pp ≡ false)) (ap (λ (k : Core). k.copy) opens.opens.is) (ends.fresh refl)
