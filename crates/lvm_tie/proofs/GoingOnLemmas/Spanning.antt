-- A span goes on over an event that leaves a tied session tied.
use Rattle.std.proofs.Common.{◌≡◌, ℕ, List, [], ◌∷◌, ◌++◌, Option, Some, None, sym, subst}
use Rattle.lvm_vol.specs.Facts.{Fact}
use Rattle.lvm_disk.specs.Counts.{Counts}
use Rattle.lvm_disk.specs.Device.{Device, Orders}
use Rattle.lvm_disk.specs.Paths.{DeviceStep, Then}
use Rattle.lvm_kept.specs.Moments.{Moment, Moves, Enters}
use Rattle.lvm_steps.specs.Moments.{Upholds}
use Rattle.lvm_num.specs.declared.status.Status.{Status}
use Rattle.lvm_num.specs.Record.{Stamped}
use Rattle.lvm_kept.specs.Torn.{RecordWrite}
use Rattle.lvm_session.specs.declared.open.Power.TheVariants as power
use Rattle.lvm_session.specs.State.{State, state}
use Rattle.lvm_session.specs.Sound.{IsSound}
use Rattle.lvm_crash.specs.Owned.{OnlyUpdateSince}
use Rattle.lvm_tie.specs.Seen.{update_of}
use Rattle.lvm_tie.specs.Tied.{IsTied, IsGood, moment_of}
use Rattle.lvm_tie.proofs.TiedLemmas.Tied.{good_upholds, good_goes_on}
use Rattle.lvm_tie.specs.GoingOn.{SessionGoesOn}

-- nothing happens
pub goes_same : (run : ℕ) (old new : State) → new ≡ old → SessionGoesOn run old new
goes_same run old new same = subst (λ (n : State). SessionGoesOn run old n) (sym same) (λ first good. (good, λ span. span))

-- one thing after another
pub goes_then : (run : ℕ) (old mid new : State) → SessionGoesOn run old mid → SessionGoesOn run mid new → SessionGoesOn run old new
goes_then run old mid new one two first good = let a = one first good in let b = two first a.0 in (b.0, λ span. b.1 (a.1 span))

module _ (run : ℕ) (old new : State) (tie : (past : List Fact) → IsTied past old → IsTied past new) where
  -- neither the shelf nor the history changes, whatever the power is
  pub goes_still : (new.core.power ≡ power.On → old.core.power ≡ power.On) → new.device ≡ old.device → new.core.history.facts ≡ old.core.history.facts → SessionGoesOn run old new
  goes_still was device facts first good = (λ on past begins. tie past (good (was on) past begins), good_goes_on.still run first old new device facts)

  module _ (on : old.core.power ≡ power.On) (first : Moment) (good : IsGood run first old) where
    good_then : IsGood run first new
    good_then now past begins = tie past (good on past begins)

    upholds_then : Upholds run first (moment_of new)
    upholds_then past begins = good_upholds run first new (tie past (good on past begins)).orderly.on good_then past begins

  -- the shelf makes a step
  pub goes_step : old.core.power ≡ power.On → DeviceStep old.device new.device → new.core.history.facts ≡ old.core.history.facts → SessionGoesOn run old new
  goes_step on step facts first good = (good_then on first good, λ span. Then span (Moves step facts) (upholds_then on first good))

  -- the history has an entry more
  pub goes_entry : old.core.power ≡ power.On → (f : Fact) → new.device ≡ old.device → new.core.history.facts ≡ old.core.history.facts ++ f ∷ [] → SessionGoesOn run old new
  goes_entry on f device facts first good = (good_then on first good, λ span. Then span (Enters f device facts) (upholds_then on first good))

-- ---- a transfer that is waited for

same_since : (device : Device) (counts : Counts) (orders : Orders) (w : Option RecordWrite) (u : Option (Stamped Status)) → OnlyUpdateSince device w u → OnlyUpdateSince (record device { counts = counts; orders = orders }) w u
same_since device counts orders None None since = tt
same_since device counts orders (Some w) None since = since
same_since device counts orders None (Some u) since = since
same_since device counts orders (Some w) (Some u) since =
    record { is_status = since.is_status; stamp = since.stamp; began = since.began; may = since.may; way = record { images = since.way.images; flights = since.way.flights } }

-- what the shelf counts and the orders that it notes are none of the tie
pub shelf_noted : (past : List Fact) (s : State) (counts : Counts) (orders : Orders) → IsTied past s → IsSound (state (record s.device { counts = counts; orders = orders }) s.core) → IsTied past (state (record s.device { counts = counts; orders = orders }) s.core)
shelf_noted past s counts orders tied sound = record {
  votes = tied.votes;
  media = tied.media;
  setting = tied.setting;
  view = tied.view;
  sees = tied.sees;
  good = tied.good;
  describes = tied.describes;
  write = tied.write;
  orderly = record { sound = sound; on = tied.orderly.on; update = tied.orderly.update };
  since = same_since s.device counts orders tied.write (update_of s.core.status) tied.since;
  recorded = tied.recorded;
  notes = tied.notes;
  copy_aimed = tied.copy_aimed;
  carry = tied.carry;
}

pub counted : (past : List Fact) (s : State) (counts : Counts) → IsTied past s → IsSound (state (record s.device { counts = counts }) s.core) → IsTied past (state (record s.device { counts = counts }) s.core)
counted past s counts = shelf_noted past s counts s.device.orders
