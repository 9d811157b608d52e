-- What a session needs before it writes records, it has after one too.
use Rattle.std.proofs.Common.{◌≡◌, ℕ, ◌+◌, ◌≤◌, None, IsTrue, sym, ◌∙◌, ap, arith}
use Rattle.lvm_num.specs.declared.record.Stamp.{Stamp}
use Rattle.lvm_num.specs.declared.descriptor.Descriptor.{Descriptor}
use Rattle.lvm_num.specs.Descriptor.{is_member}
use Rattle.lvm_num.specs.Status.{calls_missing}
use Rattle.lvm_num.specs.Votes.{CanWrite}
use Rattle.lvm_disk.specs.Device.{Device}
use Rattle.lvm_status.specs.Update.{Stored}
use Rattle.lvm_write.proofs.PartsLemmas.Transfers.{still_room}
use Rattle.lvm_commit.specs.Committed.{next_stamp}
use Rattle.lvm_commit.specs.Settling.{there, many_there, MaySettle, HasNumbers, SpendsNumbers, OnlyLoses}
use Rattle.lvm_commit.proofs.SettlingLemmas.Chaining.{loses_less}
use Rattle.lvm_commit.proofs.SettlingLemmas.Round.{no_more_there, fewer_there}
use Rattle.lvm_commit.proofs.RoundsLemmas.Wanting.{row_stays}

pub may_settle_on :
    (d : Descriptor) (first last : Stored) (old new : Device) → MaySettle d first old → OnlyLoses first last old new → last.in_flight ≡ None → last.stamp.epoch ≡ first.stamp.epoch → new.sizes ≡ old.sizes → CanWrite last.group (there last)
    → MaySettle d last new
may_settle_on d first last old new may loses idle epoch sizes votes = record {
  valid = may.valid;
  own = may.own ∙ sym loses.group;
  idle = idle;
  id = loses.rows.id ∙ may.id ∙ ap (λ (g : Descriptor). g.id) (sym loses.group);
  rows = λ disk. row_stays first.wanted last.wanted loses.rows disk ∙ may.rows disk ∙ ap (λ (g : Descriptor). is_member g disk) (sym loses.group);
  epoch = λ zero. may.epoch (sym epoch ∙ zero);
  room = λ disk is. still_room old new disk sizes (may.room disk (loses_less first last old new loses disk is));
  votes = votes;
}

-- ---- numbers

module _ (first last : Stored) (old new : Device) (loses : OnlyLoses first last old new) (stamp : last.stamp ≡ next_stamp first.stamp) where
  seq_is : last.stamp.seq ≡ first.stamp.seq + 1
  seq_is = ap (λ (s : Stamp). s.seq) stamp

  -- one record takes a number,
  pub spends_one : SpendsNumbers 1 first last
  spends_one = record {
    epoch = ap (λ (s : Stamp). s.epoch) stamp;
    rises = omega (arith, seq_is);
    most = (let less : many_there last ≤ many_there first = no_more_there first last loses.group loses.stays in omega (arith, seq_is, less));
  }

  -- which is that of a member that became missing,
  pub spends_none : (d : ℕ) → IsTrue (there first d) → IsTrue (calls_missing last.wanted d) → SpendsNumbers 0 first last
  spends_none d was gone = record {
    epoch = ap (λ (s : Stamp). s.epoch) stamp;
    rises = omega (arith, seq_is);
    most = (let less : many_there last + 1 ≤ many_there first = fewer_there first last loses.group loses.stays d was gone in omega (arith, seq_is, less));
  }

  -- so one fewer is left
  pub numbers_left : (more : ℕ) → HasNumbers (more + 1) first → HasNumbers more last
  numbers_left more has = let less : many_there last ≤ many_there first = no_more_there first last loses.group loses.stays in omega (arith, seq_is, less, has)
