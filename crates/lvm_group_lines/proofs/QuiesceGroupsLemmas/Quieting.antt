-- The call that is to bring a group on, where transfers of before may be out, by what it does at rest.
use Rattle.std.proofs.Common.{◌≡◌, ℕ, Result, Ok, Err, IfOk, IfErr, sym, ◌∙◌, ap, subst}
use Rattle.lvm_disk.specs.Device.{Device, IsReady}
use Rattle.lvm_vol.specs.Log.{Log}
use Rattle.lvm_core.specs.declared.refused.Cause.{Cause}
use Rattle.lvm_core.specs.declared.refused.Cause.TheVariants as cause
use Rattle.lvm_core.specs.declared.refused.Refused.{Refused}
use Rattle.lvm_session.specs.State.{Core}
use Rattle.lvm_group_lines.specs.passed.Quiesce.{Quiesces, GivesOnceQuiet, RefusedAtOnce, StayedOut, WentQuiet, StaysOut}
use Rattle.lvm_group_lines.proofs.passed.Quiesce.{ends_only}
use Rattle.lvm_group_lines.specs.State.{without_facts}
use Rattle.lvm_group_lines.proofs.LogLemmas.{cut_rooms}
use Rattle.lvm_group_lines.proofs.LightingLemmas.{Rests}
use Rattle.lvm_group_lines.proofs.FactsLemmas.{bears_cut}
use Rattle.lvm_group_lines.proofs.Coming.{StayedOff, stays}

-- no order is given while transfers end
pub quiet_orders : (old mid : Device) → Quiesces old mid → mid.orders ≡ old.orders
quiet_orders old mid quiet = (ends_only quiet.ends).orders

-- they haven't all ended
out_stays : (patience : ℕ) (old left : Device) (was is : Log) (why : Cause) → StaysOut patience old left was is why → StayedOff why old left was is
out_stays patience old left was is cause.Dark out = record {
  leaves = record { rests = ap (λ (d : Device). d.flights) out.0.cuts.new_is; orders = ap (λ (d : Device). d.orders) out.0.cuts.new_is ∙ (ends_only out.0.ends).orders };
  stays = stays was.facts is.facts (λ P bears holds. subst (λ (l : Log). P l.facts) (sym out.1) (bears_cut P bears was holds));
  rooms = ap without_facts out.1 ∙ cut_rooms was;
}
out_stays patience old left was is cause.Stuck out = record {
  leaves = record { rests = out.0.lit.power; orders = (ends_only out.0.ends).orders };
  stays = stays was.facts is.facts (λ P bears holds. subst (λ (l : Log). P l.facts) (sym out.1) holds);
  rooms = ap without_facts out.1;
}
out_stays patience old left was is _ out = absurd out

-- an outcome, by its shelf's device
abbrev pub device_outcome : {S : Type 0} → (S → Device) → Result (S × Core) (Refused S) → Result (Device × Core) (Refused Device)
device_outcome device (Ok driver) = Ok (device driver.0, driver.1)
device_outcome device (Err refused) = Err (record { shelf = device refused.shelf; history = refused.history; cause = refused.cause })

-- what an outcome says where it is refused, and where it isn't
if_err : {X Y : Type 0} (P : Y → Type 0) (o : Result X Y) (y : Y) → o ≡ Err y → P y → IfErr o P
if_err P o y is holds = subst (λ (r : Result _ _). IfErr r P) (sym is) holds

if_ok : {X Y : Type 0} (P : X → Type 0) (o : Result X Y) (y : Y) → o ≡ Err y → IfOk o P
if_ok P o y is = subst (λ (r : Result _ _). IfOk r P) (sym is) tt

module _ {S : Type 0} (device : S → Device) (First : Cause → Type 0) (May : Type 0) (Goes : ℕ → Device → Result (S × Core) (Refused S) → Type 0) (patience : ℕ) (was : Log) (old : Device) where
  -- this holds where the group is on, once all have ended
  pub on_once : (P : S × Core → Type 0) → ((left : ℕ) (mid : Device) (outcome : Result (S × Core) (Refused S)) → Quiesces old mid → Goes left mid outcome → IfOk outcome P)
      → (outcome : Result (S × Core) (Refused S)) → GivesOnceQuiet device First May Goes patience was old outcome → IfOk outcome P
  on_once P at_mid outcome (RefusedAtOnce refused is first same history) = if_ok P outcome refused is
  on_once P at_mid outcome (StayedOut refused is may out) = if_ok P outcome refused is
  on_once P at_mid outcome (WentQuiet may quiet) = at_mid quiet.left quiet.mid outcome quiet.quiesces quiet.goes

  pub stayed_once : ((why : Cause) (left : Device) → First why → left ≡ old → Rests why old left)
      → ((left : ℕ) (mid : Device) (outcome : Result (S × Core) (Refused S)) → IsReady mid → Goes left mid outcome → IfErr outcome (λ refused. (before : Device) → mid.orders ≡ before.orders → StayedOff refused.cause before (device refused.shelf) was refused.history))
      → (outcome : Result (S × Core) (Refused S)) → GivesOnceQuiet device First May Goes patience was old outcome → IfErr outcome (λ refused. StayedOff refused.cause old (device refused.shelf) was refused.history)
  stayed_once first_rests at_mid outcome (RefusedAtOnce refused is first same history) = if_err (λ r. StayedOff r.cause old (device r.shelf) was r.history) outcome refused is (record {
    leaves = record { rests = first_rests refused.cause (device refused.shelf) first same; orders = ap (λ (d : Device). d.orders) same };
    stays = stays was.facts refused.history.facts (λ P bears holds. subst (λ (l : Log). P l.facts) (sym history) holds);
    rooms = ap without_facts history;
  })
  stayed_once first_rests at_mid outcome (StayedOut refused is may out) = if_err (λ r. StayedOff r.cause old (device r.shelf) was r.history) outcome refused is (out_stays patience old (device refused.shelf) was refused.history refused.cause out)
  stayed_once first_rests at_mid outcome (WentQuiet may quiet) = by outcome (at_mid quiet.left quiet.mid outcome quiet.quiesces.ready quiet.goes)
    where
      by : (o : Result (S × Core) (Refused S)) → IfErr o (λ refused. (before : Device) → quiet.mid.orders ≡ before.orders → StayedOff refused.cause before (device refused.shelf) was refused.history)
          → IfErr o (λ refused. StayedOff refused.cause old (device refused.shelf) was refused.history)
      by (Ok driver) holds = tt
      by (Err refused) holds = holds old (quiet_orders old quiet.mid quiet.quiesces)

  -- ---- the same of the shelf's device alone

  pub itself_once : (Goes' : ℕ → Device → Result (Device × Core) (Refused Device) → Type 0) → ((left : ℕ) (mid : Device) (outcome : Result (S × Core) (Refused S)) → Goes left mid outcome → Goes' left mid (device_outcome device outcome))
      → (outcome : Result (S × Core) (Refused S)) → GivesOnceQuiet device First May Goes patience was old outcome → GivesOnceQuiet (λ d. d) First May Goes' patience was old (device_outcome device outcome)
  itself_once Goes' maps outcome (RefusedAtOnce refused is first same history) = RefusedAtOnce (record { shelf = device refused.shelf; history = refused.history; cause = refused.cause }) (ap (device_outcome device) is) first same history
  itself_once Goes' maps outcome (StayedOut refused is may out) = StayedOut (record { shelf = device refused.shelf; history = refused.history; cause = refused.cause }) (ap (device_outcome device) is) may out
  itself_once Goes' maps outcome (WentQuiet may quiet) = WentQuiet may (record { left = quiet.left; mid = quiet.mid; quiesces = quiet.quiesces; spends = quiet.spends; goes = maps quiet.left quiet.mid outcome quiet.goes })
