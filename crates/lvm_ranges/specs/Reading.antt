-- What the reads of a range got.
use Rattle.std.specs.Prelude.{◌≡◌, ◌+◌, ◌++◌, ℕ, Bool, false, List, [], ◌∷◌, Some, Ok}
use Rattle.lvm_num.specs.Buffer.{Sector}
use Rattle.lvm_vol.specs.declared.entry.Outcome.TheVariants as outcome
use Rattle.lvm_vol.specs.Facts.{Request, Fact, Begun, Landed, IsInList}
use Rattle.lvm_vol.specs.Log.{blocks_begun}
use Rattle.lvm_session.specs.Sound.{outcome_in}
use Rattle.lvm_posts.specs.declared.asked.Asked.{Asked}
use Rattle.lvm_posts.specs.Deciding.{RangeEnds}

-- ---- the requests

-- The request of this number is a read of so many blocks, whose place in the history is this one. It hasn't landed as a write does.
pub record IsReadAt (facts : List Fact) (id place count : ℕ) : Type 0 where
  pub past : List Fact
  pub rest : List Fact
  pub request : Request
  pub is : facts ≡ past ++ Begun request ∷ rest
  pub own : request.id ≡ id
  pub read : request.write ≡ false
  pub long : request.count ≡ count
  pub begins : place ≡ blocks_begun past
  pub ends : outcome_in facts id ≡ Some outcome.Done → ⊥

-- so many requests from this number on are such reads, of so many blocks in all, one behind the other
pub data AreReads (facts : List Fact) (first place : ℕ) : ℕ → ℕ → Type 0 where
  NoRead : AreReads facts first place 0 0
  OneRead : {n long count : ℕ} → AreReads facts first place n long → IsReadAt facts (first + n) (place + long) count → AreReads facts first place (n + 1) (long + count)

-- the pieces of a range are reads of so many blocks
abbrev pub IsRead : List Fact → Asked → ℕ → Type 0
IsRead facts asked count = AreReads facts asked.first asked.place asked.pieces count

-- ---- what they got

-- its answers were taken, and all were well
abbrev pub HasEndedWell : List Fact → Asked → Type 0
HasEndedWell facts asked = (have : ℕ) × (total : ℕ) × RangeEnds facts asked have total (Ok tt)

-- The blocks with which so many requests from this number on have landed as Got, in their order.
pub data AreGot (facts : List Fact) (first : ℕ) : ℕ → List Sector → Type 0 where
  NoneGot : AreGot facts first 0 []
  OneGot : {n : ℕ} {blocks : List Sector} → AreGot facts first n blocks → (request : Request) (started : Bool) (got : List Sector) → request.id ≡ first + n → IsInList (Landed request outcome.Got started got) facts
      → AreGot facts first (n + 1) (blocks ++ got)
