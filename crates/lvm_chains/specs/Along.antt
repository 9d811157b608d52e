-- The two chains along which a block's values are looked for, and what is found there.
use Rattle.std.specs.Prelude.{◌≡◌, ◌-◌, ◌≤◌, ℕ, Bool, true, false, ◌&&◌, nat_lt, nat_le, if◌then◌else◌, List, Option, Some, None, slice_index_or}
use Rattle.lvm_vol.specs.passed.Num.{Sector}
use Rattle.lvm_vol.specs.declared.entry.Vol.{Vol}
use Rattle.lvm_vol.specs.declared.entry.Vol.TheVariants.{Lv}
use Rattle.lvm_vol.specs.declared.entry.Outcome.{Outcome}
use Rattle.lvm_vol.specs.declared.entry.Outcome.TheVariants as outcome
use Rattle.lvm_vol.specs.Facts.{same_vol}
use Rattle.lvm_allowed.specs.declared.row.Ask.{Ask}
use Rattle.lvm_allowed.specs.declared.row.Row.{Row}
use Rattle.lvm_allowed.specs.declared.row.Row.TheVariants as row
use Rattle.lvm_allowed.specs.declared.values.Sought.TheVariants as sought
use Rattle.lvm_chains.specs.declared.along.Places.{Places}
use Rattle.lvm_allowed.specs.Rows.{ask_of, is_landing}
use Rattle.lvm_allowed.specs.Fitting.{is_beginning}
use Rattle.lvm_allowed.specs.Seen.{is_over_ask, is_any_open}
use Rattle.lvm_chains.specs.Places.{Indexed, chain_of, newest, no_step}

-- the newest rows among the first so many of the block's own chain, and of what shapes volumes
pub record ArePlaces (index : Indexed) (vol : Vol) (group among : ℕ) (places : Places) : Type 0 where
  pub its_own : places.own ≡ newest (chain_of vol group) index.chains among
  pub its_shaping : places.shaping ≡ newest 4096 index.chains among

-- each request lands once, and numbers are from 1
pub record IsInTurn (rows : List Row) : Type 0 where
  pub once : (id i j : ℕ) → is_landing id (slice_index_or rows i row.Cut) ≡ true → is_landing id (slice_index_or rows j row.Cut) ≡ true → i ≡ j
  pub numbered : (id i : ℕ) → is_beginning id (slice_index_or rows i row.Cut) ≡ true → 1 ≤ id

-- the row ends every write of block b that is open
abbrev pub is_closing : Vol → ℕ → Row → Bool
is_closing vol b row.Cut = true
is_closing vol b (row.Making lv size mode) = same_vol (Lv lv) vol && nat_lt b size
is_closing vol b (row.Split from lv) = same_vol (Lv lv) vol
is_closing vol b (row.Removed gone) = same_vol gone vol
is_closing vol b _ = false

-- the request landed among the first so many rows, behind the place
abbrev pub landed_among : Indexed → ℕ → ℕ → ℕ → Bool
landed_among index id place among = nat_lt place (slice_index_or index.steps (id - 1) no_step).landed && nat_le (slice_index_or index.steps (id - 1) no_step).landed among

-- what the end of an open write makes of whether the block is loose, in mode off
abbrev pub loose_end : Outcome → Bool → Option Bool
loose_end outcome.Done started = Some false
loose_end outcome.Off started = if started then Some true else None
loose_end outcome.Dark started = if started then Some true else None
loose_end outcome.Lost started = None
loose_end outcome.Got started = None
loose_end outcome.ReadFailed started = None
loose_end outcome.NoFresh started = None

-- and what a row makes of it, the rows before which are these
abbrev pub loose_told : List Row → List Ask → List (List ℕ) → Vol → ℕ → Sector → Row → Option Bool
loose_told before asks blocks vol b x (row.Making lv size mode) = if same_vol (Lv lv) vol && nat_lt b size then Some false else None
loose_told before asks blocks vol b x (row.Removed gone) = if same_vol gone vol then Some false else None
loose_told before asks blocks vol b x (row.Landed id how started) =
    if is_over_ask (ask_of asks id) vol b then
    (if (ask_of asks id).write then (if is_any_open (sought.Request id) asks blocks vol b x before then loose_end how started else None) else None)
    else None
loose_told before asks blocks vol b x row.Cut = if is_any_open sought.Any asks blocks vol b x before then Some true else None
loose_told before asks blocks vol b x (row.Split from lv) = None
loose_told before asks blocks vol b x (row.Made lv) = None
loose_told before asks blocks vol b x (row.Removing gone) = None
loose_told before asks blocks vol b x (row.Begun id) = None
loose_told before asks blocks vol b x (row.Taken client id) = None
loose_told before asks blocks vol b x (row.On moment) = None
