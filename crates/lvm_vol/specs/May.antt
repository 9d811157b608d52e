-- Which values each block may have after a history.
use Rattle.std.specs.Prelude.{ℕ, Bool, true, false, ◌&&◌, ◌||◌, not, nat_lt, if◌then◌else◌, List, [], ◌∷◌, ◌++◌, map, Option, Some, None, option_map, filter, IfSome, IsSomeAnd}
use Rattle.std.specs.List.{list_any}
use Rattle.lvm_num.specs.Buffer.{Sector, zero_sector}
use Rattle.lvm_num.specs.declared.descriptor.Mode.{Mode}
use Rattle.lvm_num.specs.declared.descriptor.Mode.TheVariants as mode
use Rattle.lvm_vol.specs.declared.entry.Vol.{Vol}
use Rattle.lvm_vol.specs.declared.entry.Vol.TheVariants.{Lv}
use Rattle.lvm_vol.specs.declared.entry.Outcome.{Outcome}
use Rattle.lvm_vol.specs.declared.entry.Outcome.TheVariants as outcome
use Rattle.lvm_vol.specs.Facts.{Request, Fact, Making, Split, Removed, Begun, Landed, Cut, IsInList, same_vol, same_request, is_over, block_of}

-- What is known of a block: the values that it may have, or nothing; the writes of it that are open;
-- whether two reads of it may differ; its volume's mode.
pub record Known : Type 0 where
  pub values : Option (List (List ℕ))
  pub open_writes : List Request
  pub loose : Bool
  pub mode : Mode

-- what is known of every block
abbrev pub Knowledge : Type 0
Knowledge = Vol → ℕ → Known

abbrev pub unknown : Known
unknown = record { values = None; open_writes = []; loose = false; mode = mode.Active }

abbrev pub nothing_known : Knowledge
nothing_known vol b = unknown

abbrev pub is_open_in : Request → List Request → Bool
is_open_in r rs = list_any (same_request r) rs

abbrev pub without : Request → List Request → List Request
without r rs = filter (λ s. not (same_request r s)) rs

abbrev pub is_off : Mode → Bool
is_off mode.Off = true
is_off mode.Active = false
is_off mode.Passive = false

abbrev pub is_some_open : List Request → Bool
is_some_open [] = false
is_some_open (r ∷ rs) = true

-- these values too, where the values are known
abbrev pub also : List (List ℕ) → Option (List (List ℕ)) → Option (List (List ℕ))
also more values = option_map (λ vs. vs ++ more) values

-- an open write has ended, which brings value x to the block
abbrev pub ended : Request → Outcome → Bool → Sector → Known → Known
ended r outcome.Done started x k = record { values = Some (x ∷ []); open_writes = without r k.open_writes; loose = false; mode = k.mode }
ended r outcome.Lost started x k = record k { values = also (x ∷ []) k.values; open_writes = without r k.open_writes }
ended r outcome.Off true x k = record k { values = also (x ∷ []) k.values; open_writes = without r k.open_writes; loose = k.loose || is_off k.mode }
ended r outcome.Dark true x k = record k { values = also (x ∷ []) k.values; open_writes = without r k.open_writes; loose = k.loose || is_off k.mode }
ended r outcome.Off false x k = record k { open_writes = without r k.open_writes }
ended r outcome.Dark false x k = record k { open_writes = without r k.open_writes }
ended r outcome.Got started x k = record k { open_writes = without r k.open_writes }
ended r outcome.ReadFailed started x k = record k { open_writes = without r k.open_writes }
ended r outcome.NoFresh started x k = record k { open_writes = without r k.open_writes }

-- a read has ended, for which the block had value x
abbrev pub read : Outcome → Sector → Known → Known
read outcome.Got x k = if k.loose then k else record k { values = Some (x ∷ []) }
read _ x k = k

-- a request over the block has landed
abbrev pub landed : Request → Outcome → Bool → Sector → Sector → Known → Known
landed r how started written got k =
    if r.write then (if is_open_in r k.open_writes then ended r how started written k else k) else read how got k

-- the power went off: each open write may have been carried out or not
abbrev pub cut : ℕ → Known → Known
cut b k = record {
  values = also (map (λ r. block_of r.blocks r.at b) k.open_writes) k.values;
  open_writes = [];
  loose = k.loose || (is_off k.mode && is_some_open k.open_writes);
  mode = k.mode;
}

-- of which volume the block's value was before the entry: its own, or at a split that of the volume split
abbrev pub source : Fact → Vol → Vol
source (Split from lv) vol = if same_vol (Lv lv) vol then Lv from else vol
source _ vol = vol

-- What an entry makes of block b of a volume, of whose source this was known.
abbrev pub change : Fact → Vol → ℕ → Known → Known
change (Making lv blocks m) vol b k = if same_vol (Lv lv) vol && nat_lt b blocks then record { values = Some (zero_sector ∷ []); open_writes = []; loose = false; mode = m } else k
change (Split from lv) vol b k = if same_vol (Lv lv) vol then record k { open_writes = [] } else k
change (Begun r) vol b k = if r.write && is_over r vol b then record k { open_writes = r ∷ k.open_writes } else k
change (Landed r how started got) vol b k = if is_over r vol b then landed r how started (block_of r.blocks r.at b) (block_of got r.at b) k else k
change Cut vol b k = cut b k
change (Removed gone) vol b k = if same_vol gone vol then record k { values = None; open_writes = []; loose = false } else k
change _ vol b k = k

abbrev pub after_fact : Fact → Knowledge → Knowledge
after_fact f known vol b = change f vol b (known (source f vol) b)

-- the entries change it in order
abbrev pub after : Knowledge → List Fact → Knowledge
after known [] = known
after known (f ∷ facts) = after (after_fact f known) facts

-- what is known of each block after the history
abbrev pub known : List Fact → Knowledge
known facts = after nothing_known facts

-- the block may have this value: one of those known, or any where they are unknown
abbrev pub May : Known → Sector → Type 0
May k x = IfSome k.values (λ values. IsInList x values)

-- its values are known, and this is one of them
abbrev pub IsValue : Known → Sector → Type 0
IsValue k x = IsSomeAnd k.values (λ values. IsInList x values)
