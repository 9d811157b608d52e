-- What a pass knows more as its worker works, what the value became meanwhile, and why a request isn't begun.
use Rattle.std.specs.Prelude.{◌≡◌, ◌⊎◌, ◌<◌, ℕ, true, List, [], ◌∷◌, Option}
use Rattle.lvm_num.specs.Buffer.{Sector}
use Rattle.lvm_num.specs.Counting.{RoseBy}
use Rattle.lvm_vol.specs.Facts.{Fact}
use Rattle.lvm_vol.specs.Fronts.{Told, IsPrefixOf, NoneFell}
use Rattle.lvm_turn.specs.Rules.{fixed_of}
use Rattle.lvm_turn.specs.Views.{Client, View}
use Rattle.lvm_workers.specs.declared.service.Asked.{Asked}
use Rattle.lvm_workers.specs.declared.service.Asked.TheVariants as asked
use Rattle.lvm_workers.specs.declared.words.Draw.{Draw}
use Rattle.lvm_workers.specs.declared.work.Tally.{Tally}

-- the own entries of the first client
abbrev pub first_own : List Client → List Fact
first_own [] = []
first_own (x ∷ xs) = x.own

-- what the pass w knows, which knew v: what is fixed, a history that goes on, and counts none of which is lower
pub record Knows (v w : View) : Type 0 where
  pub fixed : w.fixed ≡ v.fixed
  pub front : IsPrefixOf v.front w.front
  pub counts : NoneFell v.counts w.counts

module _ {V : Type 0} (tells : V → Told) (past : V → Option (List (List Sector))) (always : V → Type 0) where
  -- At some moment since the pass knew the first, and until it knew the last, the value became what this makes of it.
  pub record WasMade (Makes : V → V → Type 0) (first last : View) : Type 0 where
    pub from : V
    pub to : V
    pub makes : Makes from to
    pub holds : always from
    pub fixed : fixed_of tells past from ≡ last.fixed
    pub since : IsPrefixOf first.front (tells from).entries
    pub risen : NoneFell first.counts (tells from).counts
    pub until : IsPrefixOf (tells to).entries last.front
    pub rises : NoneFell (tells to).counts last.counts

module _ {V : Type 0} (tells : V → Told) (past : V → Option (List (List Sector))) (always : V → Type 0) (refuses : V → ℕ → ℕ → Draw → Asked → Type 0) where
  -- At some moment the value was such that it doesn't take a request, with this answer: its history begins the one that the pass knows, and no count has fallen since.
  pub record RefusedAs (said : Asked) (v : View) : Type 0 where
    pub value : V
    pub client : ℕ
    pub number : ℕ
    pub drawn : Draw
    pub why : refuses value client number drawn said
    pub holds : always value
    pub fixed : fixed_of tells past value ≡ v.fixed
    pub front : IsPrefixOf (tells value).entries v.front
    pub counts : NoneFell (tells value).counts v.counts

  -- whatever the answer
  abbrev pub Refused : View → Type 0
  Refused v = (said : Asked) × RefusedAs said v

-- a million times nothing was heard of the transfers that were out
abbrev pub WasUnheard : (List ℕ → ℕ) → View → View → Type 0
WasUnheard waits first v = RoseBy 1000000 (waits first.counts) (waits v.counts)

-- Why a client may end early: a request was refused for good, or nothing was heard a million times.
abbrev pub MayEnd : (Asked → View → Type 0) → (List ℕ → ℕ) → View → View → Type 0
MayEnd WasRefused waits first v = WasRefused asked.Refused v ⊎ WasUnheard waits first v

-- Requests aren't begun only where one was refused, or nothing was heard a million times; and this comes with the flag.
pub record TallyHasCause (WasRefused : View → Type 0) (waits : List ℕ → ℕ) (first v : View) (tally : Tally) : Type 0 where
  pub unbegun : 0 < tally.unbegun → WasRefused v ⊎ WasUnheard waits first v
  pub unheard : tally.unheard ≡ true → WasUnheard waits first v
