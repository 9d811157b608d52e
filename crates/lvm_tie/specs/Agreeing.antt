-- Which copies hold one value, beside requests.
use Rattle.std.specs.Prelude.{◌≡◌, ℕ, ◌+◌, ◌++◌, ◌&&◌, ◌==◌, nat_le, nat_lt, Bool, true, false, List, Some, IsTrue, IsFalse, slice_get}
use Rattle.lvm_num.specs.declared.descriptor.LvRow.{LvRow}
use Rattle.lvm_num.specs.declared.descriptor.Mode.TheVariants.{Off}
use Rattle.lvm_num.specs.declared.place.Pp.{Pp}
use Rattle.lvm_num.specs.Descriptor.{copies_of}
use Rattle.lvm_vol.specs.declared.entry.Vol.TheVariants.{Lv}
use Rattle.lvm_vol.specs.Facts.{Fact}
use Rattle.lvm_vol.specs.May.{known}
use Rattle.lvm_disk.specs.Device.{Media, image_of}
use Rattle.lvm_kept.specs.Contents.{Contents, contents_of}
use Rattle.lvm_kept.specs.Group.{IsBlockOf, IsOneOf, block_at}
use Rattle.lvm_path.specs.declared.ask.Ask.{Ask}
use Rattle.lvm_path.specs.declared.request.Phase.{Phase}
use Rattle.lvm_path.specs.declared.request.Phase.TheVariants as phase
use Rattle.lvm_path.specs.Asks.{at_of, count_of, is_write, lv_of}
use Rattle.lvm_path.specs.Targets.{is_begun}
use Rattle.lvm_session.specs.declared.open.Open.{Open}
use Rattle.lvm_session.specs.Judging.{is_settled, is_stale}
use Rattle.lvm_session.specs.State.{Core, State, is_there}
use Rattle.lvm_even.specs.Members.{members_showing}
use Rattle.lvm_tie.specs.Tied.{IsTied}

-- ---- requests

-- some transfer of the request has begun, and it hasn't landed
abbrev pub has_started : Phase → Bool → Bool
has_started phase.Held begun = false
has_started phase.WantEntry begun = false
has_started phase.WantRecord begun = false
has_started phase.Data begun = begun
has_started phase.WantStatus begun = true
has_started phase.Landed begun = false

-- it goes over this block of a volume
abbrev pub goes_over : Ask → ℕ → ℕ → Bool
goes_over ask lv b = lv_of ask == lv && nat_le (at_of ask) b && nat_lt b (at_of ask + count_of ask)

-- no write that has started goes over the block
abbrev pub NoStartedWriteCovers : Core → ℕ → ℕ → Type 0
NoStartedWriteCovers core lv b = (place : ℕ) (o : Open) → slice_get core.requests place ≡ Some o → is_write o.request.ask ≡ true → has_started o.request.phase (is_begun o.request.targets.items) ≡ true
    → goes_over o.request.ask lv b ≡ false

-- ---- copies

-- a copy of a logical partition that the committed status calls fresh, on a member that isn't missing
pub record IsUsableOf (core : Core) (row : LvRow) (lp : ℕ) (p : Pp) : Type 0 where
  pub copy : IsOneOf (copies_of row lp) p
  pub there : IsTrue (is_there core p.disk)
  pub fresh : is_stale core p ≡ false

-- one that the committed status or the one in flight calls fresh, on a member that shows the group
pub record IsLiveOn (shown : Contents) (core : Core) (row : LvRow) (lp : ℕ) (p : Pp) : Type 0 where
  pub copy : IsOneOf (copies_of row lp) p
  pub shows : IsTrue (members_showing shown core.descriptor p.disk)
  pub fresh : is_settled core p ≡ false

-- A block of a logical partition over which no write goes that has started, and which isn't loose after this earlier history, as none is of a volume with consistency.
pub record IsSettledAt (past : List Fact) (core : Core) (row : LvRow) (lp b : ℕ) : Type 0 where
  pub volume : IsOneOf core.descriptor.lvs row
  pub inside : IsBlockOf core.descriptor.mib row lp b
  pub calm : NoStartedWriteCovers core row.number b
  pub tight : row.mode ≡ Off → IsFalse (known (past ++ core.history.facts) (Lv row.number) b).loose

-- what stands at a block of a copy
abbrev pub stands_at : State → Media → Pp → ℕ → List ℕ
stands_at s media p b = block_at (contents_of (image_of s.device.sizes media)) s.core.descriptor.mib p b

-- At it each live copy holds what this one does.
abbrev pub AgreeWith : List Fact → State → Media → LvRow → ℕ → Pp → Type 0
AgreeWith past s media row lp c = (b : ℕ) → IsSettledAt past s.core row lp b → (p : Pp) → IsLiveOn (contents_of (image_of s.device.sizes media)) s.core row lp p → stands_at s media p b ≡ stands_at s media c b

-- ---- laws

-- In a tied session live copies hold what a usable one does.
abbrev pub LiveAgree : Type 0
LiveAgree = (past : List Fact) (s : State) (tied : IsTied past s) (row : LvRow) (lp : ℕ) (c : Pp) → IsUsableOf s.core row lp c → AgreeWith past s tied.media row lp c
