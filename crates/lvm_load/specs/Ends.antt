-- Why requests of a workload aren't begun, or have no answer.
use Rattle.std.specs.Prelude.{◌≡◌, ◌<◌, ◌+◌, ◌++◌, ℕ, true, List, Some, IsTrue}
use Rattle.lvm_disk.specs.Counts.{RoseBy}
use Rattle.lvm_vol.specs.Facts.{Fact}
use Rattle.lvm_workers.specs.Draws.{draw_at}
use Rattle.lvm_session.specs.declared.answers.AskFault.{AskFault}
use Rattle.lvm_session.specs.Calls.{ask_fault}
use Rattle.lvm_session.specs.Causes.{is_over}
use Rattle.lvm_session.specs.State.{State}
use Rattle.lvm_load.specs.declared.workload.Woven.{Woven}
use Rattle.lvm_load.specs.Requests.{ask_of}
use Rattle.lvm_load.specs.Weaving.{Draws, Names, Weaving}

-- what the history tells at the one moment it tells at the other, with more behind it
abbrev pub Precedes : State → State → Type 0
Precedes old new = (more : List Fact) × (new.core.history.facts ≡ old.core.history.facts ++ more)

-- Behind so many requests a client drew one that wasn't taken, for this reason.
pub record WasRefused (lv blocks : ℕ) (first : Weaving) (last : State) : Type 0 where
  pub drawn : ℕ
  pub old : Weaving
  pub draws : Draws lv blocks first drawn true old
  pub at : Weaving
  pub client : ℕ
  pub names : Names old at client
  pub why : AskFault
  pub refused : ask_fault at.session.core (ask_of lv blocks (draw_at at.rng)) ≡ Some why
  pub before : Precedes at.session last

-- a million times none of the transfers that were out had ended
abbrev pub HasWaited : State → State → Type 0
HasWaited first last = RoseBy 1000000 first.device.counts.waits last.device.counts.waits

-- Why requests aren't begun: one was refused, the session is over, or nothing is heard.
pub data AreUnbegun (lv blocks : ℕ) (first : Weaving) (last : State) : Type 0 where
  Refused : WasRefused lv blocks first last → AreUnbegun lv blocks first last
  Over : is_over last.core.power ≡ true → AreUnbegun lv blocks first last
  Waited : HasWaited first.session last → AreUnbegun lv blocks first last

-- Each request has begun or hasn't, and there is a cause where some haven't, or a client still waits for an answer.
pub record HasCauses (lv blocks requests : ℕ) (first : Weaving) (last : State) (woven : Woven) : Type 0 where
  pub all : woven.totals.begun + woven.totals.unbegun ≡ requests
  pub unbegun : 0 < woven.totals.unbegun → AreUnbegun lv blocks first last
  pub waiting : IsTrue woven.waiting → HasWaited first.session last
