-- The power is put on again after a refusal.
use Rattle.std.proofs.Common.{◌≡◌, ◌⊎◌, inl, inr, [], ℕ, List, true, refl, sym, ◌∙◌, ap, subst}
use Rattle.lvm_disk.specs.Device.{Device, Flight, IsInFlight, IsReady}
use Rattle.lvm_disk.proofs.PathsLemmas.{last-path}
use Rattle.lvm_vol.specs.Facts.{Fact}
use Rattle.lvm_kept.specs.Moments.{Moment}
use Rattle.lvm_steps.specs.Moments.{Keeps}
use Rattle.lvm_steps.specs.Requests.{at}
use Rattle.lvm_steps.proofs.MomentsLemmas.Spans.{keeps_steps}
use Rattle.lvm_steps.specs.Behind.{StampsAreEarlier}
use Rattle.lvm_steps.proofs.LawsLemmas.Shelves.{no_more_stays_behind}
use Rattle.lvm_session.specs.Sound.{HasPower}
use Rattle.lvm_tie_commands.specs.passed.Tie.{LeavesDescriptors}
use Rattle.lvm_quiesce.specs.Behind.{IsBehindEach}
use Rattle.lvm_quiesce.proofs.LawsLemmas.Behind.{still_is_behind_each}
use Rattle.lvm_quiesce.specs.passed.Core.{Cause}
use Rattle.lvm_quiesce.specs.passed.CoreRefusedCause as cause
use Rattle.lvm_group_lines.specs.Lighting.{IsRelit, refusal_of}
use Rattle.lvm_group_lines.specs.Replies.{IsStuck}
use Rattle.lvm_group_lines.specs.declared.reply.Refusal.TheVariants as refusal
use Rattle.lvm_group_lines.specs.declared.reply.Reply.{Reply}
use Rattle.lvm_group_lines.specs.declared.reply.Reply.TheVariants as reply
use Rattle.lvm_group_lines.proofs.MomentsLemmas.Going.{relit_path}

-- ---- a shelf at rest

-- no transfer is out, so none goes to a slot of descriptors
pub still_leaves_descriptors : (device : Device) → device.flights ≡ [] → LeavesDescriptors device
still_leaves_descriptors device none d s value flies = absurd (subst (λ (flights : List Flight). IsInFlight flights d s value) none flies)

pub ready_is_lit : (device : Device) → IsReady device → HasPower device
ready_is_lit device ready = record { power = ready.power; freed = ready.freed }

-- ---- the shelf after a refusal

-- nothing has changed, or it is at rest
abbrev pub StaysOrRests : Device → Device → Type 0
StaysOrRests old left = (left ≡ old) ⊎ IsReady left

-- where the power was cut nothing is out; where nothing was heard the power is on
abbrev pub Rests : Cause → Device → Device → Type 0
Rests cause.Dark old left = left.flights ≡ []
Rests cause.Stuck old left = left.power ≡ true
Rests _ old left = StaysOrRests old left

-- what a refusal leaves, before the power is put on again
pub record RefusalLeaves (why : Cause) (old left : Device) : Type 0 where
  pub rests : Rests why old left
  pub orders : left.orders ≡ old.orders

-- a shelf between two lines
pub record IsOpen (device : Device) : Type 0 where
  pub lit : HasPower device
  pub descriptors : LeavesDescriptors device

-- and after it
pub record LitUp (answer : Reply) (old left new : Device) : Type 0 where
  pub opens : (IsStuck answer → ⊥) → IsOpen new
  pub ready : (IsStuck answer → ⊥) → IsReady old → IsReady new
  pub each : (IsStuck answer → ⊥) → (m : ℕ) → IsBehindEach m old → StampsAreEarlier m left → IsBehindEach m new
  pub power : new.power ≡ true
  pub orders : new.orders ≡ left.orders
  pub waits : new.counts.waits ≡ left.counts.waits
  pub keeps : (run : ℕ) (first : Moment) (facts : List Fact) → Keeps run first (at left facts) → Keeps run first (at new facts)
  pub behind : (m : ℕ) → StampsAreEarlier m left → StampsAreEarlier m new

at_rest : (answer : Reply) (old left : Device) → IsOpen old → StaysOrRests old left → LitUp answer old left left
at_rest answer old left was stays = record {
  opens = λ goes. opens stays;
  ready = λ goes ready. ready_then ready stays;
  each = λ goes m each behind. each_then m each behind stays;
  power = (opens stays).lit.power;
  orders = refl;
  waits = refl;
  keeps = λ run first facts keeps. keeps;
  behind = λ m behind. behind;
}
  where
    opens : StaysOrRests old left → IsOpen left
    opens (inl same) = subst IsOpen (sym same) was
    opens (inr ready) = record { lit = ready_is_lit left ready; descriptors = still_leaves_descriptors left ready.flights }

    ready_then : IsReady old → StaysOrRests old left → IsReady left
    ready_then ready (inl same) = subst IsReady (sym same) ready
    ready_then ready (inr is) = is

    each_then : (m : ℕ) → IsBehindEach m old → StampsAreEarlier m left → StaysOrRests old left → IsBehindEach m left
    each_then m each behind (inl same) = subst (IsBehindEach m) (sym same) each
    each_then m each behind (inr ready) = still_is_behind_each m left ready.flights behind

rested : (answer : Reply) (old left new : Device) → IsOpen old → StaysOrRests old left → new ≡ left → LitUp answer old left new
rested answer old left new was stays same = subst (LitUp answer old left) (sym same) (at_rest answer old left was stays)

pub lit_up : (why : Cause) (old left new : Device) → IsOpen old → Rests why old left → IsRelit why left new → LitUp (reply.Refused (refusal_of why)) old left new
lit_up cause.Dark old left new was still lit =
    let path = relit_path left new still lit in
    let none : new.flights ≡ [] = ap (λ (d : Device). d.flights) lit ∙ still in
    let is : IsReady new = record { flights = none; freed = ap (λ (d : Device). d.freed) lit; power = ap (λ (d : Device). d.power) lit } in
    record {
      opens = λ goes. record { lit = ready_is_lit new is; descriptors = still_leaves_descriptors new none };
      ready = λ goes ready. is;
      each = λ goes m each behind. still_is_behind_each m new none (no_more_stays_behind m left new still (last-path path) behind);
      power = is.power;
      orders = ap (λ (d : Device). d.orders) lit;
      waits = ap (λ (d : Device). d.counts.waits) lit;
      keeps = λ run first facts keeps. keeps_steps run first left new facts keeps path;
      behind = λ m behind. no_more_stays_behind m left new still (last-path path) behind;
    }
lit_up cause.Stuck old left new was power same = subst (LitUp (reply.Refused refusal.Stuck) old left) (sym same) (record {
  opens = λ goes. absurd (goes refl);
  ready = λ goes. absurd (goes refl);
  each = λ goes. absurd (goes refl);
  power = power;
  orders = refl;
  waits = refl;
  keeps = λ run first facts keeps. keeps;
  behind = λ m behind. behind;
})
lit_up (cause.NoDisk disk) old left new was rests same = rested (reply.Refused (refusal.NoDisk disk)) old left new was rests same
lit_up (cause.TooMany limit) old left new was rests same = rested (reply.Refused (refusal.TooMany limit)) old left new was rests same
lit_up (cause.TooSmall disk) old left new was rests same = rested (reply.Refused (refusal.TooSmall disk)) old left new was rests same
lit_up cause.GroupExists old left new was rests same = rested (reply.Refused refusal.GroupExists) old left new was rests same
lit_up cause.NoRecord old left new was rests same = rested (reply.Refused refusal.NoRecord) old left new was rests same
lit_up cause.Ambiguous old left new was rests same = rested (reply.Refused refusal.Ambiguous) old left new was rests same
lit_up (cause.NoQuorum have total) old left new was rests same = rested (reply.Refused (refusal.NoQuorum have total)) old left new was rests same
lit_up (cause.ClockBack seen) old left new was rests same = rested (reply.Refused (refusal.ClockBack seen)) old left new was rests same
lit_up (cause.DiskFailed disk) old left new was rests same = rested (reply.Refused (refusal.DiskFailed disk)) old left new was rests same
lit_up cause.HistoryFull old left new was rests same = rested (reply.Refused refusal.HistoryFull) old left new was rests same
lit_up cause.Memory old left new was rests same = rested (reply.Refused refusal.Memory) old left new was rests same

-- a shelf whose power wasn't cut is left alone
pub left_alone : (device : Device) (why : Cause) → (why ≡ cause.Dark → ⊥) → IsRelit why device device
left_alone device cause.Dark other = absurd (other refl)
left_alone device _ other = refl
