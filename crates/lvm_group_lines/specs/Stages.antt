-- A stage, as the state between two lines.
use Rattle.std.specs.Prelude.{◌≡◌, ◌≢◌, ◌⊎◌, ◌^◌, ◌/◌, ◌<◌, ◌≤◌, ℕ, Bool, true, false, List, [], length, map, Option, Some, None, vec_capacity}
use Rattle.std.specs.Global.{Vec}
use Rattle.lvm_num.specs.Votes.{total_votes}
use Rattle.lvm_disk.specs.Device.{Device}
use Rattle.lvm_disk.specs.declared.shelf.Arrange.{Arrange}
use Rattle.lvm_vol.specs.Log.{Log}
use Rattle.lvm_kept.specs.Moments.{Moment}
use Rattle.lvm_transfer.specs.Transfer.{Relights}
use Rattle.lvm_session.specs.Dark.{after_arrange}
use Rattle.lvm_session.specs.declared.open.Power.{Power}
use Rattle.lvm_session.specs.declared.open.Power.TheVariants as power
use Rattle.lvm_session.specs.State.{Core, votes_there}
use Rattle.lvm_tie_commands.specs.passed.Posts.{Post, ended_with}
use Rattle.lvm_group_lines.specs.State.{ScriptState, IsBetween}
use Rattle.lvm_group_lines.specs.Replies.{is_unheard}
use Rattle.lvm_group_lines.specs.declared.holder.Holder.{Holder}
use Rattle.lvm_group_lines.specs.declared.holder.Holder.TheVariants as holder
use Rattle.lvm_group_lines.specs.declared.reply.Reply.{Reply}
use Rattle.lvm_group_lines.specs.declared.stage.Stage.{Stage}

-- ---- its holder

-- the shelf,
abbrev pub shelf_of : {S : Type 0} → Holder S → S
shelf_of (holder.Off shelf history) = shelf
shelf_of (holder.Empty driver) = driver.0
shelf_of (holder.Serving driver) = driver.0

-- the history,
abbrev pub history_of : {S : Type 0} → Holder S → Log
history_of (holder.Off shelf history) = history
history_of (holder.Empty driver) = driver.1.history
history_of (holder.Serving driver) = driver.1.history

-- and the session
abbrev pub session_of : {S : Type 0} → Holder S → Option Core
session_of (holder.Off shelf history) = None
session_of (holder.Empty driver) = Some driver.1
session_of (holder.Serving driver) = Some driver.1

-- how many requests of the session are open
abbrev pub open_in : Option Core → ℕ
open_in None = 0
open_in (Some core) = length core.requests

-- a session takes commands where its group has no volume, and requests where it has one
abbrev pub IsOfKind : {S : Type 0} → Holder S → Type 0
IsOfKind (holder.Off shelf history) = Unit {0}
IsOfKind (holder.Empty driver) = driver.1.descriptor.lvs ≡ []
IsOfKind (holder.Serving driver) = driver.1.descriptor.lvs ≢ []

-- ---- the stage

-- its shelf,
abbrev pub shelf_in : {S : Type 0} → Stage S → S
shelf_in stage = shelf_of stage.holder

-- its history,
abbrev pub history_in : {S : Type 0} → Stage S → Log
history_in stage = history_of stage.holder

-- and its session
abbrev pub session_in : {S : Type 0} → Stage S → Option Core
session_in stage = session_of stage.holder

-- what its shelf is, and what its history has
abbrev pub moment_in : {S : Type 0} → (S → Device) → Stage S → Moment
moment_in device stage = record { device = device (shelf_in stage); facts = (history_in stage).facts }

-- the state, where this was the clock's last moment
abbrev pub state_in : {S : Type 0} → (S → Device) → Stage S → ℕ → ScriptState
state_in device stage last = record { moment = moment_in device stage; session = session_in stage; posts = stage.posts.items; last = last }

-- the next line may begin
abbrev pub IsBetweenStage : {S : Type 0} → (S → Device) → Stage S → Type 0
IsBetweenStage device stage = IsBetween (moment_in device stage) (session_in stage) stage.posts.items

-- there is room for this many entries' posts, and for the bytes of a piece
pub record HaveRooms (entries : ℕ) (posts : Vec Post) (bytes : Vec ℕ) : Type 0 where
  pub for_posts : entries / 3 ≤ vec_capacity posts
  pub for_bytes : 131072 ≤ vec_capacity bytes

-- Its session is of the kind that it says, its history has room for fewer entries than numbers of four bytes, and there is room for the posts and for a piece.
pub record IsFittingStage {S : Type 0} (stage : Stage S) : Type 0 where
  pub kind : IsOfKind stage.holder
  pub few : (history_in stage).room < 2 ^ 32
  pub rooms : HaveRooms (history_in stage).room stage.posts stage.bytes

-- this holds of the states before a line and after it, in which the clock isn't asked
abbrev pub Between : {S : Type 0} → (S → Device) → Stage S → Stage S → (ScriptState → ScriptState → Type 0) → Type 0
Between device old new P = (last : ℕ) → P (state_in device old last) (state_in device new last)

-- ---- orders, and the end of a session

-- the history after an order to the shelf: a session enters a cut
abbrev pub history_after : Arrange → Bool → Log → Option Core → Log
history_after what done log None = log
history_after what done log (Some core) = (after_arrange what done core).history

-- nothing changes, or the buffers that a cut gave up are taken back
abbrev pub GivesBack : Device → Device → Type 0
GivesBack old new = (new ≡ old) ⊎ (new ≡ record old { freed = [] })

-- the posts of a session have ended with its votes, where they hadn't before
abbrev pub posts_ended : Option Core → List Post → List Post
posts_ended None posts = posts
posts_ended (Some core) posts = map (ended_with (votes_there core) (total_votes core.descriptor)) posts

-- A session is closed: the buffers that a cut gave up are taken back, and after one the power is put on again.
abbrev pub IsClosed : Power → Device → Device → Type 0
IsClosed power.Dark old new = Relights old new
IsClosed other old new = new ≡ record old { freed = [] }

-- The session is closed, its posts have ended, and after a power cut the power is on again.
pub record SessionIsClosed {S : Type 0} (device : S → Device) (driver : S × Core) (posts : List Post) (stage : Stage S) : Type 0 where
  pub session : session_in stage ≡ None
  pub shelf : IsClosed driver.1.power (device driver.0) (device (shelf_in stage))
  pub history : history_in stage ≡ driver.1.history
  pub posted : stage.posts.items ≡ posts_ended (Some driver.1) posts

-- the stage of a session that goes on, or has ended if it is over
abbrev pub IsCarriedOn : {S : Type 0} → (S → Device) → S × Core → Vec Post → Vec ℕ → Power → Stage S → Type 0
IsCarriedOn device driver posts bytes power.On stage = stage ≡ record { holder = holder.Serving driver; posts = posts; bytes = bytes }
IsCarriedOn device driver posts bytes other stage = SessionIsClosed device driver posts.items stage

-- the session of a group with volumes, if it holds one, isn't over
abbrev pub IsOnIn : {S : Type 0} → Holder S → Type 0
IsOnIn (holder.Off shelf history) = Unit {0}
IsOnIn (holder.Empty driver) = Unit {0}
IsOnIn (holder.Serving driver) = driver.1.power ≡ power.On

-- the stage behind a line that left its session where it was: closed where nothing was heard of a transfer, or the session is over
abbrev pub ComesTo : {S : Type 0} → (S → Device) → Bool → Holder S → Vec Post → Vec ℕ → Stage S → Type 0
ComesTo device unheard (holder.Off shelf history) posts bytes stage = stage ≡ record { holder = holder.Off shelf history; posts = posts; bytes = bytes }
ComesTo device unheard (holder.Empty driver) posts bytes stage = stage ≡ record { holder = holder.Empty driver; posts = posts; bytes = bytes }
ComesTo device true (holder.Serving driver) posts bytes stage = SessionIsClosed device driver posts.items stage
ComesTo device false (holder.Serving driver) posts bytes stage = IsCarriedOn device driver posts bytes driver.1.power stage

-- A line that was answered so left its session where it was, and this is the stage behind it.
pub record IsLeftBy {S : Type 0} (device : S → Device) (kept : Stage S) (answer : Reply) (stage : Stage S) : Type 0 where
  pub comes : ComesTo device (is_unheard answer) kept.holder kept.posts kept.bytes stage
  pub rooms : (entries : ℕ) → HaveRooms entries kept.posts kept.bytes → HaveRooms entries stage.posts stage.bytes

-- ---- the group of its session

-- the group of the name is on
abbrev pub IsOn : List ℕ → Core → Type 0
IsOn name core = core.descriptor.name ≡ name

-- no group is on, or another one
abbrev pub IsNotOn : List ℕ → Option Core → Type 0
IsNotOn name None = Unit {0}
IsNotOn name (Some core) = IsOn name core → ⊥
