-- What is wanted of a status in the rows of a next descriptor, once members are lost.
use Rattle.std.proofs.Common.{◌≡◌, ◌⊎◌, inl, inr, ⊎_elim, ℕ, List, [], sym, ◌∙◌, ap, subst}
use Rattle.std.specs.Prelude.{◌==◌, IsTrue, IsFalse}
use Rattle.std.specs.List.{list_any}
use Rattle.std.proofs.lemmas.Bool.{false≢true}
use Rattle.lvm_num.specs.declared.place.Pp.{Pp}
use Rattle.lvm_num.specs.declared.descriptor.LvRow.{LvRow}
use Rattle.lvm_num.specs.declared.descriptor.Descriptor.{Descriptor}
use Rattle.lvm_num.specs.Descriptor.{copies_of}
use Rattle.lvm_num.specs.Disks.{Disks}
use Rattle.lvm_num.specs.Among.{IsOneOf}
use Rattle.lvm_num.specs.Status.{calls_stale, calls_missing}
use Rattle.lvm_num.proofs.Booleans.{false_by}
use Rattle.lvm_status.specs.Update.{Stored}
use Rattle.lvm_commit.specs.Settling.{there, IsPassedOver, MarksLeft, OnlyLoses}
use Rattle.lvm_commit.proofs.RoundsLemmas.Leaving.{passed_before}
use Rattle.lvm_commit.proofs.SettlingLemmas.Chaining.{loses_less}
use Rattle.lvm_session.specs.State.{State, is_there}
use Rattle.lvm_core.specs.Committing.{is_in}
use Rattle.lvm_core.specs.Leaves.{NoPartition, WasLeftBehind}
use Rattle.lvm_turnover.specs.Changing.{KeepsMarks}

-- The status first is one by which the marks are those of before, but for disks that left, on which no copy stands.
module _ (N : Descriptor → Type 0) (erases : List ℕ) (g : Descriptor) (old new : State) (first : Stored)
    (known : (g ≡ old.core.descriptor) ⊎ N g) (group : (first.group ≡ old.core.status.group) ⊎ ((k : Descriptor) × N k × (first.group ≡ record k { lvs = [] })))
    (stale_to : (p : Pp) → IsFalse (is_in erases p.disk) → IsTrue (calls_stale old.core.status.wanted p) → IsTrue (calls_stale first.wanted p))
    (stale_from : (p : Pp) → IsTrue (calls_stale first.wanted p) → IsTrue (calls_stale old.core.status.wanted p))
    (missing_to : (e : ℕ) → IsFalse (is_in erases e) → IsTrue (calls_missing old.core.status.wanted e) → IsTrue (calls_missing first.wanted e))
    (missing_from : (e : ℕ) → IsTrue (calls_missing first.wanted e) → IsTrue (calls_missing old.core.status.wanted e)) (dirty : first.wanted.dirty ≡ old.core.status.wanted.dirty)
    (before : (e : ℕ) → IsTrue (there first e) → IsTrue (is_there old.core e)) (there_is : there old.core.status ≡ is_there old.core)
    (stands : (row : LvRow) (lp : ℕ) (p : Pp) → IsOneOf g.lvs row → IsOneOf (copies_of row lp) p → IsFalse (is_in erases p.disk)) where
  less : (e : ℕ) → IsTrue (there first e) → IsTrue (there old.core.status e)
  less e is = subst (λ (set : Disks). IsTrue (set e)) (sym there_is) (before e is)

  module _ (loses : OnlyLoses first new.core.status old.device new.device) (left : MarksLeft g first new.core.status) where
    stays : (p : Pp) → IsFalse (is_in erases p.disk) → IsTrue (calls_stale old.core.status.wanted p) → IsTrue (calls_stale new.core.status.wanted p)
    stays p off is = loses.stale p (stale_to p off is)

    behind : (p : Pp) → IsTrue (calls_stale new.core.status.wanted p) → IsPassedOver g old.core.status new.core.status p → WasLeftBehind N NoPartition old new p
    behind p gone is = record {
      group = g;
      known = known;
      its = is.its;
      absent = is.absent;
      apart = λ same. false≢true (sym is.fresh ∙ ap (calls_stale new.core.status.wanted) same ∙ gone);
      usable = λ out. false_by (calls_stale old.core.status.wanted is.its.other) (calls_stale new.core.status.wanted is.its.other)
          (stays is.its.other (stands is.its.row is.its.lp is.its.other is.its.volume is.its.among)) is.fresh;
      was_there = is.was_there;
    }

    pub marks_kept : KeepsMarks N [] erases old new
    marks_kept = record {
      group = ⊎_elim (λ same. inl (loses.group ∙ same)) (λ its. inr (its.0, its.1, loses.group ∙ its.2)) group;
      stale = stays;
      further = λ p is. ⊎_elim
          (λ was. inl (stale_from p was))
          (λ (passed : IsPassedOver g first new.core.status p). inr (behind p is (passed_before g old.core.status first new.core.status p less passed)))
          (left.only p is);
      dirty = λ lv. ap (λ (numbers : List ℕ). list_any (λ n. n == lv) numbers) (loses.dirty ∙ dirty);
      stays = λ e off is. loses.stays e (missing_to e off is);
      lost = λ e is isnt. let its = loses.lost e is (false_by (calls_missing first.wanted e) (calls_missing old.core.status.wanted e) (missing_from e) isnt) in (before e its.0, its.1);
      fewer = λ e is. less e (loses_less first new.core.status old.device new.device loses e is);
    }
