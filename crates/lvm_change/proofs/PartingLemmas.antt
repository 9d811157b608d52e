-- What a session wants of its status once members are lost, and what may follow.
use Rattle.std.proofs.Common.{◌≡◌, ℕ, Bool, true, false, ◌&&◌, ◌||◌, not, None, IsTrue, refl, sym, ◌∙◌, ap, subst}
use Rattle.lvm_num.specs.declared.descriptor.Descriptor.{Descriptor}
use Rattle.lvm_num.specs.Disks.{Disks}
use Rattle.lvm_num.specs.Descriptor.{IsValid, is_member}
use Rattle.lvm_num.specs.Status.{calls_missing}
use Rattle.lvm_disk.specs.Counts.{Rose}
use Rattle.lvm_disk.specs.Device.{Device}
use Rattle.lvm_status.specs.Update.{Stored}
use Rattle.lvm_commit.specs.Settling.{there, IsForgotten, MarksLeft, OnlyLoses}
use Rattle.lvm_commit.specs.Rounds.{LosesMembers, MarksRound}
use Rattle.lvm_commit.proofs.RoundsLemmas.Leaving.{leaves, marks_round, round_left}
use Rattle.lvm_commit.proofs.SettlingLemmas.Chaining.{there_less}
use Rattle.lvm_change.specs.Parting.{PartsWith}

module _ (d : Descriptor) (lost : Disks) (first last : Stored) (parts : PartsWith d lost first last) where
  pub parts_group : last.group ≡ first.group
  parts_group = ap (λ (u : Stored). u.group) parts.marks.rest ∙ parts.loses.group

  pub parts_stamp : last.stamp ≡ first.stamp
  parts_stamp = ap (λ (u : Stored). u.stamp) parts.marks.rest ∙ parts.loses.stamp

  pub parts_committed : last.committed ≡ first.committed
  parts_committed = ap (λ (u : Stored). u.committed) parts.marks.rest ∙ parts.loses.committed

  pub parts_idle : last.in_flight ≡ None
  parts_idle = ap (λ (u : Stored). u.in_flight) parts.marks.rest ∙ parts.loses.idle

  pub parts_loses : LosesMembers lost first.wanted last.wanted
  parts_loses = leaves d first parts.mid last lost parts.loses.wanted parts.marks

  pub parts_round : ((e : ℕ) → lost e ≡ true → is_member d e ≡ true) → MarksRound d first last
  parts_round members = marks_round d first parts.mid last lost parts.loses.wanted parts.marks parts.loses.group members parts.loses.forgotten

  pub parts_forgotten : IsForgotten first → IsForgotten last
  parts_forgotten was = subst IsForgotten (sym parts.marks.rest) (parts.loses.forgotten was)

  -- those stay that weren't lost
  pub parts_there : (e : ℕ) → there last e ≡ there first e && not (lost e)
  parts_there e =
      ap (λ g. is_member g e && not (calls_missing last.wanted e)) parts_group
      ∙ ap (λ b. is_member first.group e && not b) (parts_loses.missing e)
      ∙ both (is_member first.group e) (calls_missing first.wanted e) (lost e)
    where
      both : (member was fails : Bool) → member && not (was || fails) ≡ (member && not was) && not fails
      both true true fails = refl
      both true false fails = refl
      both false was fails = refl

  pub parts_fewer : (e : ℕ) → IsTrue (there last e) → IsTrue (there first e)
  parts_fewer = there_less first last parts_group (λ e is. parts_loses.missing e ∙ ap (λ b. b || lost e) is)

  -- where a transfer to each of them has failed
  pub parts_only : (old new : Device) → ((e : ℕ) → IsTrue (lost e) → IsTrue (there first e) × Rose (old.counts.faults e) (new.counts.faults e)) → OnlyLoses first last old new
  parts_only old new failed = record {
    group = parts_group;
    rows = parts_loses.rows;
    stale = parts_loses.stale;
    dirty = parts_loses.dirty;
    stays = λ e is. parts_loses.missing e ∙ ap (λ b. b || lost e) is;
    lost = λ e is isnt. failed e (sym (parts_loses.missing e ∙ ap (λ b. b || lost e) isnt) ∙ is);
  }

  pub parts_left : IsValid d → ((e : ℕ) → lost e ≡ true → is_member d e ≡ true) → MarksLeft d first last
  parts_left valid members = round_left d first last valid (parts_round members) parts_fewer
