-- The steps of a workload on one thread.
use Rattle.std.specs.Prelude.{◌≡◌, ◌⊎◌, ◌≤◌, ℕ, ◌+◌, ◌-◌, ◌*◌, ◌%◌, ◌^◌, ◌||◌, nat_le, nat_lt, Bool, true, false, List, replicate, length, Option, Some, None, is_some, Result, Ok, Err, set, slice_get}
use Rattle.std.specs.List.{list_any}
use Rattle.std.specs.Option.{option_map_or}
use Rattle.rand_pcg.specs.Lcg.{Lcg}
use Rattle.lvm_workers.specs.Draws.{after_draw, after_word, draw_at, seeded, word_at}
use Rattle.lvm_session.specs.declared.answers.AskFault.{AskFault}
use Rattle.lvm_session.specs.declared.answers.AskFault.TheVariants as fault
use Rattle.lvm_session.specs.declared.answers.Taken.{Taken}
use Rattle.lvm_session.specs.declared.answers.Taken.TheVariants as taken
use Rattle.lvm_session.specs.declared.answers.Turned.{Turned}
use Rattle.lvm_session.specs.declared.answers.Turned.TheVariants as turned
use Rattle.lvm_session.specs.Calls.{SubmitGives, TakeGives}
use Rattle.lvm_session.specs.Left.{left_of}
use Rattle.lvm_session.specs.Sound.{IsSound}
use Rattle.lvm_session.specs.State.{Core, State}
use Rattle.lvm_session.specs.Turns.{TurnMakes}
use Rattle.lvm_keeps_events.specs.Turning.{is_last}
use Rattle.lvm_driver.specs.passed.Going.{is_moving}
use Rattle.lvm_load.specs.declared.client.Client.{Client}
use Rattle.lvm_load.specs.Requests.{ask_of, bytes_of, word_of}

-- ---- clients

abbrev pub has_open : Client → Bool
has_open c = is_some c.request

-- the request that the client of this index, from 0, has open
abbrev pub open_of : List Client → ℕ → Option ℕ
open_of clients k = option_map_or (λ (c : Client). c.request) (slice_get clients k) None

-- one that has drawn nothing
abbrev pub fresh_client : Client
fresh_client = record { request = None; offset = 0 }

abbrev pub fresh_clients : ℕ → List Client
fresh_clients n = replicate n fresh_client

-- ---- answers

-- The answer of a client's open request, if it has one, is taken where it has landed. Clients are numbered from 1.
pub data TakesFor (k : ℕ) (old new : State) (clients after : List Client) : Type 0 where
  NoneOpen : open_of clients k ≡ None → new ≡ old → after ≡ clients → TakesFor k old new clients after
  Waits : (id : ℕ) → open_of clients k ≡ Some id → TakeGives old.core new.core (k + 1) id taken.NotYet → new.device ≡ old.device → after ≡ clients → TakesFor k old new clients after
  Takes : (c : Client) (id : ℕ) (how : Taken) → slice_get clients k ≡ Some c → c.request ≡ Some id → TakeGives old.core new.core (k + 1) id how → (how ≡ taken.NotYet → ⊥)
      → new.device ≡ old.device → after ≡ set clients k (record c { request = None }) → TakesFor k old new clients after

-- so for so many clients, one after the other
pub data TakesEach (first : State) (clients : List Client) : ℕ → State → List Client → Type 0 where
  NoClient : TakesEach first clients 0 first clients
  NextClient : {k : ℕ} {old new : State} {before after : List Client} → TakesEach first clients k old before → TakesFor k old new before after → TakesEach first clients (k + 1) new after

-- ---- a turn

-- how many turns have moved nothing since the last that did, after one that answers so
abbrev pub idle_after : Turned → ℕ → ℕ
idle_after turned.Moved n = 0
idle_after turned.Idle n = n + 1
idle_after turned.Dark n = n + 1
idle_after turned.Off n = n + 1

-- where this is so, the answers of what has landed are taken
abbrev pub TakesWhere : Bool → State → State → List Client → List Client → Type 0
TakesWhere true old new clients after = TakesEach old clients (length clients) new after
TakesWhere false old new clients after = (new ≡ old) × (after ≡ clients)

-- answers might have landed in a turn: the history has grown in it, or the session is over
abbrev pub might_have_landed : State → State → Turned → Bool
might_have_landed old new answer = nat_lt (length old.core.history.facts) (length new.core.history.facts) || is_last answer

-- A turn of a sound session is made, and where answers might have landed in it those that have are taken.
pub record Turns (old new : State) (clients after : List Client) (idle idle1 : ℕ) : Type 0 where
  pub sound : IsSound old
  pub unmoved : is_moving old.core ≡ false
  pub mid : State
  pub answer : Turned
  pub made : TurnMakes old mid answer
  pub idle_is : idle1 ≡ idle_after answer idle
  pub takes : TakesWhere (might_have_landed old mid answer) mid new clients after

-- no more turns than this are made before one submits, or a million have moved nothing
abbrev pub turns_left : Core → ℕ → ℕ
turns_left core idle = left_of core * 1000001 + (1000000 - idle)

-- ---- a request

-- whether further requests may begin after this
abbrev pub goes_on : Result ℕ AskFault → Bool
goes_on (Ok id) = true
goes_on (Err (fault.TableFull held)) = true
goes_on (Err fault.Dark) = false
goes_on (Err fault.Off) = false
goes_on (Err fault.NoVolume) = false
goes_on (Err (fault.OutOfRange blocks)) = false
goes_on (Err fault.HistoryFull) = false

-- the request that a client has open once this is answered
abbrev pub opened_by : Option ℕ → Result ℕ AskFault → Option ℕ
opened_by before (Ok id) = Some id
opened_by before (Err why) = before

-- a client that has drawn one request more, and has this one open
abbrev pub drew : Client → Option ℕ → Client
drew c request = record { request = request; offset = (c.offset + 8) % 2 ^ 64 }

-- a client draws a request of a volume of so many blocks, and submits it
pub record AsksDrawn (lv blocks k : ℕ) (g : Lcg) (old new : State) (clients after : List Client) (more : Bool) : Type 0 where
  pub client : Client
  pub answer : Result ℕ AskFault
  pub client_is : slice_get clients k ≡ Some client
  pub submits : SubmitGives old.core new.core (k + 1) (ask_of lv blocks (draw_at g)) (bytes_of (word_of (k + 1) client.offset) blocks (draw_at g)) answer
  pub shelf : new.device ≡ old.device
  pub after_is : after ≡ set clients k (drew client (opened_by client.request answer))
  pub more_is : more ≡ goes_on answer

-- ---- the whole

-- what stands between two steps: the session, the clients, the generator, and how many turns have moved nothing since the last that did
pub record Weaving : Type 0 where
  pub session : State
  pub clients : List Client
  pub rng : Lcg
  pub idle : ℕ

abbrev pub weaving : State → List Client → Lcg → ℕ → Weaving
weaving session clients rng idle = record { session = session; clients = clients; rng = rng; idle = idle }

abbrev pub first_weaving : State → ℕ → ℕ → Weaving
first_weaving session clients seed = weaving session (fresh_clients clients) (seeded seed) 0

-- the client, from 0, that the next word names
abbrev pub client_at : Weaving → ℕ
client_at w = word_at w.rng % length w.clients

-- a million turns have moved nothing
abbrev pub is_unheard : ℕ → Bool
is_unheard idle = nat_le 1000000 idle

-- a word names a client that has a request open: a turn is made
pub record PassesBusy (old new : Weaving) : Type 0 where
  pub id : ℕ
  pub busy : open_of old.clients (client_at old) ≡ Some id
  pub patient : is_unheard old.idle ≡ false
  pub rng : new.rng ≡ after_word old.rng
  pub turns : Turns old.session new.session old.clients new.clients old.idle new.idle

-- so for some words, one after the other
pub data PassesOn (first : Weaving) : Weaving → Type 0 where
  NoWord : PassesOn first first
  OneWord : {old new : Weaving} → PassesOn first old → PassesBusy old new → PassesOn first new

-- then one names a client that has none open
pub record Names (first new : Weaving) (k : ℕ) : Type 0 where
  pub mid : Weaving
  pub passes : PassesOn first mid
  pub patient : is_unheard mid.idle ≡ false
  pub client : k ≡ client_at mid
  pub free : open_of mid.clients k ≡ None
  pub is : new ≡ record mid { rng = after_word mid.rng }

-- the client that is named, unless nothing is heard before
abbrev pub NamesNext : Weaving → Weaving → Option ℕ → Type 0
NamesNext first new (Some k) = Names first new k
NamesNext first new None = PassesOn first new × (is_unheard new.idle ≡ true)

-- So many requests were drawn, each by the client that a word named, and whether further ones may be.
pub data Draws (lv blocks : ℕ) (first : Weaving) : ℕ → Bool → Weaving → Type 0 where
  NoneDrawn : Draws lv blocks first 0 true first
  OneDrawn : {n : ℕ} {old new : Weaving} → Draws lv blocks first n true old → (named : Weaving) (k : ℕ) (more : Bool) → Names old named k
      → AsksDrawn lv blocks k named.rng named.session new.session named.clients new.clients more → new.rng ≡ after_draw named.rng → new.idle ≡ named.idle
      → Draws lv blocks first (n + 1) more new
  Unheard : {n : ℕ} {old new : Weaving} → Draws lv blocks first n true old → PassesOn old new → is_unheard new.idle ≡ true → Draws lv blocks first n false new

-- all are drawn, unless the last was refused for good, or nothing is heard
pub record DrawsAll (lv blocks requests : ℕ) (first new : Weaving) : Type 0 where
  pub drawn : ℕ
  pub more : Bool
  pub draws : Draws lv blocks first drawn more new
  pub most : drawn ≤ requests
  pub all : more ≡ true → drawn ≡ requests

-- turns are made while a client has a request open, until a million have moved nothing
pub data FinishesBy (first : State) (clients : List Client) (idle : ℕ) : State → List Client → ℕ → Type 0 where
  NoTurn : FinishesBy first clients idle first clients idle
  OneTurn : {old new : State} {before after : List Client} {n n1 : ℕ} → FinishesBy first clients idle old before n → list_any has_open before ≡ true → is_unheard n ≡ false
      → Turns old new before after n n1 → FinishesBy first clients idle new after n1

-- then none has one open, or nothing is heard
pub record FinishesAll (first : State) (clients : List Client) (idle : ℕ) (new : State) (after : List Client) (idle1 : ℕ) : Type 0 where
  pub turns : FinishesBy first clients idle new after idle1
  pub ends : (list_any has_open after ≡ false) ⊎ (is_unheard idle1 ≡ true)

-- The workload is drawn, and finished, and this says whether a client still has a request open.
pub record Weaves (lv blocks requests : ℕ) (first : Weaving) (last : State) (waits : Bool) : Type 0 where
  pub mid : Weaving
  pub after : List Client
  pub idle : ℕ
  pub draws : DrawsAll lv blocks requests first mid
  pub finishes : FinishesAll mid.session mid.clients mid.idle last after idle
  pub waits_is : waits ≡ list_any has_open after
