-- What the workers of a load have made.
use Rattle.std.specs.Prelude.{◌≡◌, ◌⊎◌, ◌≤◌, ◌<◌, ◌+◌, ◌++◌, ℕ, true, List, [], length}
use Rattle.lvm_disk.specs.Counts.{RoseBy}
use Rattle.lvm_vol.specs.Facts.{Fact, begun}
use Rattle.lvm_vol.specs.Fronts.{IsPrefixOf, own}
use Rattle.lvm_session.specs.State.{State}
use Rattle.lvm_workers.specs.declared.bring.Brought.{Brought}
use Rattle.lvm_workers.specs.declared.crew.Crew.{Crew}
use Rattle.lvm_workers.specs.declared.service.Asked.{Asked}
use Rattle.lvm_workers.specs.declared.service.Asked.TheVariants as asked
use Rattle.lvm_workers.specs.declared.words.Draw.{Draw}
use Rattle.lvm_workers.specs.declared.work.Tally.{Tally}
use Rattle.lvm_workers.specs.Bringing.{HasToured}
use Rattle.lvm_workers.specs.Counting.{begun_of}
use Rattle.lvm_workers.specs.Crews.{job_of, share}
use Rattle.lvm_workers.specs.Making.{HasMade}
use Rattle.lvm_load.specs.declared.load.Load.{Load}
use Rattle.lvm_load.specs.Bringing.{BringsIf}
use Rattle.lvm_load.specs.Lending.{IsDrawnAs, IsNotTaken, IsServing, Plan}

-- the clients of a load
abbrev pub crew_of : Load → Crew
crew_of load = record { threads = load.threads; requests = load.requests; seed = load.seed }

-- with what it begins
abbrev pub plan_of : State → ℕ → ℕ → Load → Plan
plan_of first lv blocks load = record { first = first; clients = load.threads; lv = lv; blocks = blocks; apart = load.apart; sync = load.sync }

-- no client has begun a request
abbrev pub NoneHasBegun : List Fact → Type 0
NoneHasBegun facts = (c : ℕ) → own c facts ≡ []

-- At some moment the session, which was serving, didn't take a request that a client drew, with this answer.
pub record WasNotTakenAs (plan : Plan) (last : State) (said : Asked) : Type 0 where
  pub at : State
  pub serves : IsServing plan at
  pub client : ℕ
  pub drawn : Draw
  pub why : IsNotTaken plan at client drawn said
  pub before : IsPrefixOf at.core.history.facts last.core.history.facts

abbrev pub WasNotTaken : Plan → State → Type 0
WasNotTaken plan last = (said : Asked) × WasNotTakenAs plan last said

-- a million times none of the transfers that were out had ended
abbrev pub WasUnheardOf : State → State → Type 0
WasUnheardOf first last = RoseBy 1000000 first.device.counts.waits last.device.counts.waits

-- a client may make fewer than its share: a request was refused after which none is taken, or nothing was heard
abbrev pub MayEndBy : Plan → State → Type 0
MayEndBy plan last = WasNotTakenAs plan last asked.Refused ⊎ WasUnheardOf plan.first last

-- At some moment of the load this was done for the copy of a place, and this was answered.
pub record WasBrought (plan : Plan) (last : State) (at : ℕ) (answer : Brought) : Type 0 where
  pub from : State
  pub to : State
  pub serves : IsServing plan from
  pub brings : BringsIf plan.sync plan.lv at from to answer
  pub since : IsPrefixOf plan.first.core.history.facts from.core.history.facts
  pub until : IsPrefixOf to.core.history.facts last.core.history.facts

-- the copies of the volume were gone through in their order, or nothing was heard
abbrev pub WereBrought : Plan → State → Type 0
WereBrought plan last = HasToured (WasBrought plan last) ⊎ WasUnheardOf plan.first last

-- Each client has made its share of the requests, as they are drawn from the seed, or fewer for a cause, and each that has begun stands in the history once. The tally is that of the history.
-- Each request has begun or hasn't, and there is a cause where some haven't. Where copies are brought up, all were gone through.
pub record HasLoaded (plan : Plan) (load : Load) (last : State) (tally : Tally) : Type 0 where
  pub since : List Fact
  pub is : last.core.history.facts ≡ plan.first.core.history.facts ++ since
  pub made : (c : ℕ) → 0 < c → c ≤ load.threads → HasMade (λ number d r. IsDrawnAs plan c number d r) (MayEndBy plan last) (job_of (crew_of load) c).seed (share (crew_of load) c) (begun_of since c) (own c since)
  pub begun : tally.begun ≡ length (begun since)
  pub all : tally.begun + tally.unbegun ≡ load.requests
  pub unbegun : 0 < tally.unbegun → WasNotTaken plan last ⊎ WasUnheardOf plan.first last
  pub unheard : tally.unheard ≡ true → WasUnheardOf plan.first last
  pub brought : plan.sync ≡ true → WereBrought plan last
