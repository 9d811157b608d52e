-- A session that a lock lends to workers, one after the other.
use Rattle.std.specs.Prelude.{◌≡◌, ◌+◌, ◌-◌, ◌*◌, ◌/◌, ◌%◌, ◌++◌, ℕ, Bool, true, false, if◌then◌else◌, List, [], ◌∷◌, Option, Some, None, is_some, Err, length}
use Rattle.std.specs.List.{list_any}
use Rattle.lvm_vol.specs.declared.entry.Vol.TheVariants.{Lv}
use Rattle.lvm_vol.specs.Facts.{Request, Fact, Begun}
use Rattle.lvm_vol.specs.Fronts.{Told, own}
use Rattle.lvm_vol.specs.Log.{blocks_given}
use Rattle.lvm_path.specs.declared.ask.Ask.{Ask}
use Rattle.lvm_path.specs.Asks.{at_of, count_of, lv_of}
use Rattle.lvm_session.specs.declared.answers.AskFault.{AskFault}
use Rattle.lvm_session.specs.declared.answers.Taken.{Taken}
use Rattle.lvm_session.specs.declared.answers.Taken.TheVariants as taken
use Rattle.lvm_session.specs.declared.answers.Turned.{Turned}
use Rattle.lvm_session.specs.declared.answers.Turned.TheVariants as turned
use Rattle.lvm_session.specs.declared.open.Power.TheVariants as power
use Rattle.lvm_session.specs.Calls.{TakeGives, ask_fault, is_asked}
use Rattle.lvm_session.specs.Causes.{is_over}
use Rattle.lvm_session.specs.Sound.{IsSound, count_if, is_dark}
use Rattle.lvm_session.specs.State.{Core, State}
use Rattle.lvm_session.specs.Turns.{TurnMakes}
use Rattle.lvm_driver.specs.Showing.{counts_of, fixed_by}
use Rattle.lvm_driver.specs.passed.Going.{LeavesSession, is_moving}
use Rattle.lvm_workers.specs.declared.service.Asked.{Asked}
use Rattle.lvm_workers.specs.declared.service.Asked.TheVariants as asked
use Rattle.lvm_workers.specs.declared.service.Seen.{Seen}
use Rattle.lvm_workers.specs.declared.service.Seen.TheVariants as seen
use Rattle.lvm_workers.specs.declared.words.Draw.{Draw}
use Rattle.lvm_workers.specs.Counting.{AreOfClients}
use Rattle.lvm_load.specs.Requests.{ask_of, bytes_of, word_of}
use Rattle.lvm_load.specs.Weaving.{goes_on}

-- What a load begins with: the session, how many clients ask for requests, of which volume, of so many blocks; whether each writes to a track group of its own alone; and whether the volume's
-- copies are brought up beside them.
pub record Plan : Type 0 where
  pub first : State
  pub clients : ℕ
  pub lv : ℕ
  pub blocks : ℕ
  pub apart : Bool
  pub sync : Bool

-- ---- requests

-- the draw of a client that writes to its own track group alone: the groups of the volume are given out in turn
abbrev pub apart_draw : ℕ → ℕ → Draw → Draw
apart_draw blocks client d = record { at = d.at % 256 + 256 * ((client - 1) % (blocks / 256)); count = d.count; kind = 1 }

abbrev pub shaped : Plan → ℕ → Draw → Draw
shaped plan client d = if plan.apart then apart_draw plan.blocks client d else d

-- what a client's draw asks for
abbrev pub drawn_ask : Plan → ℕ → Draw → Ask
drawn_ask plan client d = ask_of plan.lv plan.blocks (shaped plan client d)

-- and what it writes, with so many drawn before it
abbrev pub drawn_bytes : Plan → ℕ → ℕ → Draw → Option (List ℕ)
drawn_bytes plan client number d = bytes_of (word_of client (8 * number)) plan.blocks (shaped plan client d)

-- the request of this number that it makes
abbrev pub drawn_request : Plan → ℕ → ℕ → Draw → ℕ → Request
drawn_request plan client number d id = let ask = drawn_ask plan client d in let bytes = drawn_bytes plan client number d in
    record { run = plan.first.core.history.run; id = id; client = client; vol = Lv (lv_of ask); at = at_of ask; count = count_of ask; write = is_some bytes; blocks = blocks_given (count_of ask) bytes }

-- a client's draw makes this request
abbrev pub IsDrawnAs : Plan → ℕ → ℕ → Draw → Request → Type 0
IsDrawnAs plan client number d r = r ≡ drawn_request plan client number d r.id

-- what is answered where a request isn't taken for this: that a later one may be, or none
abbrev pub refused_as : AskFault → Asked
refused_as why = if goes_on (Err why) then asked.Full else asked.Refused

-- as the session is, what the draw asks for isn't taken, with this answer
abbrev pub IsNotTaken : Plan → State → ℕ → Draw → Asked → Type 0
IsNotTaken plan s client d said = (why : AskFault) × (ask_fault s.core (drawn_ask plan client d) ≡ Some why) × (said ≡ refused_as why)

-- what is seen behind a turn that is made for a request
abbrev pub seen_behind : Turned → Seen
seen_behind turned.Idle = seen.Idle
seen_behind _ = seen.Moved

-- One look for the answer of a client's request: it is taken; or it hasn't landed, and a turn is made.
pub data LooksOn (client id : ℕ) (old new : State) (answer : Seen) : Type 0 where
  ByTake : (given : Taken) → (given ≡ taken.NotYet → ⊥) → TakeGives old.core new.core client id given → answer ≡ seen.Taken → LooksOn client id old new answer
  ByLook : TakeGives old.core old.core client id taken.NotYet → (said : Turned) → TurnMakes old new said → answer ≡ seen_behind said → LooksOn client id old new answer

-- ---- what it tells

-- what never falls: whether it is over, whether it is dark, and the counts of its shelf
abbrev pub counts_in : State → List ℕ
counts_in s = count_if (is_over s.core.power) ∷ count_if (is_dark s.core.power) ∷ s.device.counts.cuts ∷ s.device.counts.waits ∷ counts_of s.device.counts (length s.device.sizes)

abbrev pub told_in : State → Told
told_in s = record { entries = s.core.history.facts; fixed = fixed_by s; counts = counts_in s }

-- ---- what always holds of it

-- where the last that a client did is to begin a request, that stands in the table
abbrev pub HoldsOpen : Core → Type 0
HoldsOpen core = (client : ℕ) (before : List Fact) (r : Request) → own client core.history.facts ≡ before ++ Begun r ∷ [] → list_any (is_asked client r.id) core.requests ≡ true

-- The session goes on, and no order is given to its shelf; nor is a copy opened, unless copies are brought up.
pub record KeepsServing (sync : Bool) (old new : State) : Type 0 where
  pub leaves : LeavesSession old new
  pub orders : new.device.orders ≡ old.device.orders
  pub copy : sync ≡ false → old.core.copy ≡ None → new.core.copy ≡ None

-- The session has come about from the first by turns, by requests of its clients and by copies that are brought up: so it is sound, good for each moment for which that was good, no copy of it
-- moves, and its span goes on.
pub record IsServing (plan : Plan) (s : State) : Type 0 where
  pub sound : IsSound s
  pub keeps : KeepsServing plan.sync plan.first s
  pub unstuck : s.core.power ≡ power.Stuck → ⊥
  pub unmoved : is_moving s.core ≡ false
  pub since : List Fact
  pub is : s.core.history.facts ≡ plan.first.core.history.facts ++ since
  pub clients : AreOfClients plan.clients since
  pub holds : HoldsOpen s.core
