-- What a value gives of which copies are brought up.
use Rattle.std.specs.Prelude.{◌≡◌, ◌⊎◌, ◌≤◌, ◌<◌, ℕ, List, [], ◌∷◌, Option}
use Rattle.atomic_table.specs.Seated.{TableId}
use Rattle.lvm_num.specs.Buffer.{Sector}
use Rattle.lvm_num.specs.Counting.{Rose, RoseBy}
use Rattle.lvm_vol.specs.Facts.{Fact}
use Rattle.lvm_vol.specs.Fronts.{Told, own}
use Rattle.lvm_turn.specs.Calls.{IsIdlePass}
use Rattle.lvm_turn.specs.Views.{Standing, View}
use Rattle.lvm_workers.specs.declared.bring.Brought.{Brought}
use Rattle.lvm_workers.specs.declared.bring.Brought.TheVariants as brought
use Rattle.lvm_workers.specs.declared.bring.Place.{Place}
use Rattle.lvm_workers.specs.declared.bring.Place.TheVariants as place
use Rattle.lvm_workers.specs.Serving.{Grows}
use Rattle.lvm_workers.specs.Knowing.{Knows, WasMade, WasUnheard}
use Rattle.lvm_workers.specs.Working.{own_of}

module _ {V : Type 0} (tells : V → Told) (past : V → Option (List (List Sector))) (always : V → Type 0) where
  -- nothing of any client's own is entered, where nothing was heard the waits rose, and this is made of the value
  pub record BringGives (waits : List ℕ → ℕ) (Brings : V → Brought → V → Type 0) (x : V) (answer : Brought) (y : V) : Type 0 where
    pub more : List Fact
    pub grows : Grows tells past always x more y
    pub others : (c : ℕ) → own c more ≡ []
    pub idle : answer ≡ brought.Idle → Rose (waits (tells x).counts) (waits (tells y).counts)
    pub makes : Brings x answer y

-- how it ended for the copy of a place, with so many looks in all at which nothing was heard
abbrev pub PlaceTells : (Brought → Type 0) → ℕ → Place → Type 0
PlaceTells Made idle place.Done = Made brought.Next × (idle < 1000000)
PlaceTells Made idle place.Over = Made brought.Over
PlaceTells Made idle place.Unheard = idle ≡ 1000000

-- so many looks at which nothing was heard have become so many, and from each count from which the waits had risen by the first they have risen by the second
pub record WaitsBy (before after waits waits_now : ℕ) : Type 0 where
  pub more : before ≤ after
  pub risen : (first : ℕ) → RoseBy before first waits → RoseBy after first waits_now

-- The copies of so many places needed nothing further, one place after the other; and of the next one it was said that no further one is to be brought up, or there is none.
pub record HasToured (Made : ℕ → Brought → Type 0) : Type 0 where
  pub places : ℕ
  pub passed : (at : ℕ) → at < places → Made at brought.Next
  pub over : Made places brought.Over ⊎ (places ≡ 4294967295)

-- the pass p of a client is q since: it knows more, and nothing of its own was entered
pub record KeepsOwn (table : TableId) (client : ℕ) (p q : Standing) : Type 0 where
  pub idle : IsIdlePass table (client ∷ []) q
  pub knows : Knows p.knows q.knows
  pub own : own_of q.knows ≡ own_of p.knows

module _ {V : Type 0} (tells : V → Told) (past : V → Option (List (List Sector))) (always : V → Type 0) (brings : V → ℕ → Brought → V → Type 0) where
  -- at some moment the copy of this place was to be brought up, and this was said of it
  abbrev pub MadeAt : View → View → ℕ → Brought → Type 0
  MadeAt first last at said = WasMade tells past always (λ x y. brings x at said y) first last

  module _ (waits : List ℕ → ℕ) where
    -- all places were gone through, or nothing was heard a million times
    abbrev pub HasEnded : View → View → Type 0
    HasEnded first last = HasToured (MadeAt first last) ⊎ WasUnheard waits first last

    -- so it is with one by which copies were brought up, and all places were gone through
    pub record HasBrought (table : TableId) (client : ℕ) (p q : Standing) : Type 0 where
      pub keeps : KeepsOwn table client p q
      pub ended : HasEnded p.knows q.knows
