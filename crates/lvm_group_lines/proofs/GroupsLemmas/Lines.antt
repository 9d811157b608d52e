-- What a line does whose call brings a group on, or doesn't.
use Rattle.std.proofs.Common.{ℕ, Result, Ok, Err, IfOk, IfErr, refl, sym, ap}
use Rattle.std.specs.Global.{Vec}
use Rattle.lvm_disk.specs.Device.{Device, HasSectors}
use Rattle.lvm_io.specs.Count.{Rose}
use Rattle.lvm_vol.specs.Log.{Log}
use Rattle.lvm_core.specs.declared.refused.Refused.{Refused}
use Rattle.lvm_core.specs.Settled.{IsSettled as IsSettledCore}
use Rattle.lvm_core.specs.Sound.{IsSoundAtRest}
use Rattle.lvm_core.specs.State.{state_of}
use Rattle.lvm_session.specs.Sound.{IsSound}
use Rattle.lvm_session.specs.State.{Core}
use Rattle.lvm_group_lines.specs.passed.Handover.{HasJustBegun, Serves}
use Rattle.lvm_group_lines.specs.passed.Posts.{Post}
use Rattle.lvm_group_lines.specs.passed.Quiesce.{CauseRose, IsStartedEach}
use Rattle.lvm_group_lines.specs.Groups.{Brings}
use Rattle.lvm_group_lines.specs.Ends.{patience_of_line}
use Rattle.lvm_group_lines.specs.Stages.{state_in}
use Rattle.lvm_group_lines.specs.declared.holder.Holder.{Holder}
use Rattle.lvm_group_lines.specs.declared.reply.Reply.{Reply}
use Rattle.lvm_group_lines.specs.declared.holder.Holder.TheVariants as holder
use Rattle.lvm_group_lines.proofs.Coming.{Left, held}
use Rattle.lvm_group_lines.proofs.QuiesceGroupsLemmas.Quieting.{device_outcome}

module _ {S : Type 0} (device : S → Device) (shelf : S) (log : Log) (posts : Vec Post) (bytes : Vec ℕ) (moment last : ℕ) (by : Holder S) (answer : Reply) (rose : Rose last moment) (Gives : ℕ → Result (Device × Core) (Refused Device) → Type 0) where
  pub brings : (outcome : Result (S × Core) (Refused S)) → Gives moment (device_outcome device outcome) → IfErr outcome (λ refused. CauseRose patience_of_line (device shelf).counts (device refused.shelf).counts refused.cause) → Left device outcome by answer
      → Brings Gives (state_in device (held (holder.Off shelf log) posts bytes) last) (state_in device (held by posts bytes) moment) answer
  brings (Ok driver) gives cause left = record {
    asks = rose;
    off = refl;
    shelf = device driver.0;
    history = driver.1.history;
    given = Ok driver.1;
    gives = gives;
    rose = tt;
    left = (ap device (sym left.on.shelf), refl, record { facts = ap (λ (l : Log). l.facts) left.on.history; after = left.on.session; posts = refl; answered = left.on.answered });
  }
  brings (Err refused) gives cause left = record {
    asks = rose;
    off = refl;
    shelf = device refused.shelf;
    history = refused.history;
    given = Err refused.cause;
    gives = gives;
    rose = cause;
    left = record { lit = left.off.lit; facts = ap (λ (l : Log). l.facts) left.off.history; after = left.off.session; posts = refl; answered = left.off.answered };
  }

-- ---- the session that begins

module _ {S : Type 0} (device : S → Device) (run moment : ℕ) (old : Device) (log : Log) where
  abbrev Starts : Result (S × Core) (Refused S) → Type 0
  Starts outcome = IfOk outcome (λ driver. IsStartedEach run moment old log (state_of device driver))

  abbrev MayServe : Result (S × Core) (Refused S) → Type 0
  MayServe outcome = IfOk outcome (λ driver. HasJustBegun (state_of device driver) → Serves (state_of device driver))

  -- it is sound with requests where it is between commands
  pub may_hold : (outcome : Result (S × Core) (Refused S)) → MayServe outcome → Starts outcome → IfOk outcome (λ driver. IsSoundAtRest (state_of device driver) → IsSound (state_of device driver))
  may_hold (Ok driver) serves starts = λ sound. (serves (record { sound = sound; settled = starts.settled; left = starts.left; faults = starts.faults })).sound
  may_hold (Err refused) serves starts = tt

  pub all_serve : (outcome : Result (S × Core) (Refused S)) (by : Holder S) (answer : Reply) → MayServe outcome → Starts outcome → Left device outcome by answer → IfOk outcome (λ driver. Serves (state_of device driver))
  all_serve (Ok driver) by answer serves starts left = serves (record { sound = left.on.between; settled = starts.settled; left = starts.left; faults = starts.faults })
  all_serve (Err refused) by answer serves starts left = tt

  -- what stands after it, where its shelf has whole sectors and it serves
  pub all_stand : (outcome : Result (S × Core) (Refused S)) (P : S × Core → Type 0) → IfOk outcome (λ driver. HasSectors (device driver.0) → IsSettledCore driver.1 → Serves (state_of device driver) → P driver)
      → ((shelf : S) → HasSectors (device shelf)) → Starts outcome → IfOk outcome (λ driver. Serves (state_of device driver)) → IfOk outcome P
  all_stand (Ok driver) P stands whole starts serves = stands (whole driver.0) starts.settled serves
  all_stand (Err refused) P stands whole starts serves = tt
