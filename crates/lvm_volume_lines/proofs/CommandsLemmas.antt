-- How a session comes to rest, by the turns that were made.
use Rattle.std.proofs.Common.{◌≡◌, ◌≤◌, ◌-◌, ℕ, IfSome, length, refl, sym, ◌∙◌, ap, subst, arith}
use Rattle.std.proofs.lemmas.List.{nil_from_length}
use Rattle.lvm_disk.specs.Counts.{RoseBy}
use Rattle.lvm_disk.specs.Device.{Device}
use Rattle.lvm_disk.specs.Paths.{Path, Here}
use Rattle.lvm_disk.proofs.CountingLemmas.{rose_by_none}
use Rattle.lvm_session.specs.declared.open.Power.TheVariants as power
use Rattle.lvm_session.specs.State.{Core, State}
use Rattle.lvm_core.specs.declared.fault.CommitFault.{CommitFault}
use Rattle.lvm_core.specs.Settled.{IsSettled}
use Rattle.lvm_core.specs.Sound.{IsSoundAtRest}
use Rattle.lvm_core.specs.State.{state_of}
use Rattle.lvm_range_lines.specs.passed.Driver.{FailsSo, IsAny, IsDrained, IsTurn}
use Rattle.lvm_range_lines.specs.passed.Tie.{RunsOn}
use Rattle.lvm_range_lines.proofs.passed.Tie.{goes_any, going_leaves, path_frames, runs_none, stays_stamped}
use Rattle.lvm_range_lines.specs.passed.Handover.{MayHandOver}
use Rattle.lvm_range_lines.specs.passed.GroupLines.{IsOfKind, open_in, session_of, shelf_of, IsOnBetween, Holder}
use Rattle.lvm_range_lines.specs.passed.HolderVariants as holder
use Rattle.lvm_volume_lines.specs.Commands.{HasBrokenOff, HasRested, IsTurned}
use Rattle.lvm_volume_lines.proofs.Resting.{none_stay, turns_keep}

-- a session that was drained may be settled
pub may_settle : (old new : State) → IsOnBetween old.device old.core → length old.core.requests ≡ 0 → Path IsTurn IsAny old new → RunsOn old new → IsDrained new → MayHandOver new
may_settle old new on none path runs drained = record {
  drained = drained;
  none = record {
    requests = none_stay old.core.requests new.core.requests (nil_from_length old.core.requests none) (turns_keep old new on.sound path).table.long;
    copy = (path_frames runs).copy on.copy;
  };
  epoch = (stays_stamped old new (going_leaves old new on.sound (goes_any runs)).1 (λ dark. let e : power.On ≡ power.Dark = sym drained.on ∙ dark in cc e) on.stamped).some_epoch;
}

module _ {S : Type 0} (device : S → Device) where
  -- ---- of a group without volumes

  pub empty_rests : (by : Holder S) (driver : S × Core) (left : ℕ) → by ≡ holder.Empty driver → IsOfKind by → IfSome (session_of by) (IsOnBetween (device (shelf_of by))) → IsSoundAtRest (state_of device driver)
      → HasRested device by left left driver
  empty_rests by driver left is kind on between = subst (λ (h : Holder S). HasRested device h left left driver) (sym is)
      (let its = subst (λ (h : Holder S). IfSome (session_of h) (IsOnBetween (device (shelf_of h)))) is on in
      record {
        turned = record {
          core = driver.1;
          its = refl;
          turns = Here tt;
          runs = runs_none (state_of device driver);
          sound = its.sound;
          few = omega arith;
          waited = let same : left - left ≡ 0 = omega arith in subst (λ (n : ℕ). RoseBy n (device driver.0).counts.waits (device driver.0).counts.waits) (sym same) (rose_by_none (device driver.0).counts.waits);
        };
        empty = λ none. refl;
        settled = its.empty (subst IsOfKind is kind);
        between = between;
      })

  -- ---- of one with volumes

  module _ (by : Holder S) (driver : S × Core) (is : by ≡ holder.Serving driver) (kind : IsOfKind by) (on : IfSome (session_of by) (IsOnBetween (device (shelf_of by)))) (none : open_in (session_of by) ≡ 0)
      (new : S × Core) (turns : Path IsTurn IsAny (state_of device driver) (state_of device new)) (runs : RunsOn (state_of device driver) (state_of device new)) where
    pub was_on : IsOnBetween (device driver.0) driver.1
    was_on = subst (λ (h : Holder S). IfSome (session_of h) (IsOnBetween (device (shelf_of h)))) is on

    pub may_drained : IsDrained (state_of device new) → MayHandOver (state_of device new)
    may_drained drained = may_settle (state_of device driver) (state_of device new) was_on (sym (ap (λ (h : Holder S). open_in (session_of h)) is) ∙ none) turns runs drained

    its_turned : (before after : ℕ) → after ≤ before → RoseBy (before - after) (device driver.0).counts.waits (device new.0).counts.waits → IsTurned device (holder.Serving driver) before after new
    its_turned before after few waited =
        let sound = (turns_keep (state_of device driver) (state_of device new) was_on.sound turns).sound in
        record { core = driver.1; its = refl; turns = turns; runs = runs; sound = sound; few = few; waited = waited }

    pub serving_rests : (before after : ℕ) → after ≤ before → RoseBy (before - after) (device driver.0).counts.waits (device new.0).counts.waits → (left : S × Core) → left ≡ new → IsSettled new.1
        → IsSoundAtRest (state_of device new) → HasRested device by before after left
    unfolding its_turned
    serving_rests before after few waited left same settled between = subst (λ (h : Holder S). HasRested device h before after left) (sym is) (subst (HasRested device (holder.Serving driver) before after) (sym same) (record {
      turned = its_turned before after few waited;
      empty = λ none. absurd ((subst IsOfKind is kind) none);
      settled = settled;
      between = between;
    }))

    pub serving_breaks : (before after : ℕ) → after ≤ before → RoseBy (before - after) (device driver.0).counts.waits (device new.0).counts.waits → (why : CommitFault) → FailsSo after (state_of device new) why
        → HasBrokenOff device by before after new why
    unfolding its_turned
    serving_breaks before after few waited why fails = subst (λ (h : Holder S). HasBrokenOff device h before after new why) (sym is) (record {
      turned = its_turned before after few waited;
      volumes = subst IsOfKind is kind;
      fails = fails;
    })
