-- A load, from its workers to its totals.
use Rattle.std.specs.Prelude.{◌≡◌, ℕ, Bool, Option, length}
use Rattle.lvm_session.specs.State.{State}
use Rattle.lvm_workers.specs.declared.work.Tally.{Tally}
use Rattle.lvm_load.specs.declared.load.Load.{Load}
use Rattle.lvm_load.specs.declared.serve.Synced.{Synced}
use Rattle.lvm_load.specs.declared.workload.Woven.{Woven}
use Rattle.lvm_load.specs.Bringing.{EndsBehind}
use Rattle.lvm_load.specs.Lending.{IsServing}
use Rattle.lvm_load.specs.Loading.{HasLoaded, plan_of}
use Rattle.lvm_load.specs.Settling.{Settles}
use Rattle.lvm_load.specs.Totals.{entries_since, totals_of}

-- The workers made the load over this session, then turns were made until nothing might be, and copies were brought up. The totals are those of the history; each request has begun or hasn't,
-- and those that haven't are the workers'.
pub record IsLoadedBy (lv blocks : ℕ) (load : Load) (first end : State) (woven : Woven) (synced : Option Synced) : Type 0 where
  pub last : State
  pub tally : Tally
  pub serves : IsServing (plan_of first lv blocks load) last
  pub made : HasLoaded (plan_of first lv blocks load) load last tally
  pub rests : State
  pub waits : Bool
  pub settles : Settles last rests waits
  pub behind : EndsBehind load.sync lv rests waits end synced woven.waiting
  pub totals : woven.totals ≡ totals_of load.requests (entries_since (length first.core.history.facts) end.core.history.facts)
  pub begun : woven.totals.begun ≡ tally.begun
  pub unbegun : woven.totals.unbegun ≡ tally.unbegun
