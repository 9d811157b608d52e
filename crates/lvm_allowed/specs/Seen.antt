-- What is kept of a block's values while one of them is looked for.
use Rattle.std.specs.Prelude.{ℕ, ◌+◌, Bool, true, false, ◌&&◌, ◌||◌, ◌==◌, not, nat_le, nat_lt, if◌then◌else◌, List, [], ◌∷◌, fold, reverse, Option, Some, None, is_some}
use Rattle.std.specs.List.{list_any}
use Rattle.std.specs.Str.{bytes_eq}
use Rattle.lvm_vol.specs.passed.Num.{Sector, zero_sector}
use Rattle.lvm_vol.specs.declared.entry.Vol.{Vol}
use Rattle.lvm_vol.specs.declared.entry.Vol.TheVariants.{Lv}
use Rattle.lvm_vol.specs.declared.entry.Outcome.{Outcome}
use Rattle.lvm_vol.specs.declared.entry.Outcome.TheVariants as outcome
use Rattle.lvm_allowed.specs.declared.row.Ask.{Ask}
use Rattle.lvm_allowed.specs.declared.row.Row.{Row}
use Rattle.lvm_allowed.specs.declared.row.Row.TheVariants as row
use Rattle.lvm_allowed.specs.declared.values.Seen.{Seen}
use Rattle.lvm_allowed.specs.declared.values.Sought.{Sought}
use Rattle.lvm_allowed.specs.declared.values.Sought.TheVariants as sought
use Rattle.lvm_vol.specs.Facts.{same_vol, block_of}
use Rattle.lvm_vol.specs.May.{Known, is_off}
use Rattle.lvm_allowed.specs.Rows.{ask_of, blocks_at}

abbrev pub is_over_ask : Ask → Vol → ℕ → Bool
is_over_ask a vol b = same_vol a.vol vol && nat_le a.at b && nat_lt b (a.at + a.count)

-- one of the values, where they are known
abbrev pub is_value : Option (List (List ℕ)) → Sector → Bool
is_value None x = false
is_value (Some values) x = list_any (λ v. bytes_eq v x) values

-- what is seen of what is known of a block, of one value
abbrev pub seen_of : Known → Sector → Seen
seen_of k x = record { known = is_some k.values; allowed = is_value k.values x; loose = k.loose; off = is_off k.mode }

-- an open write that brings the value, or another, has ended
abbrev pub seen_ended : Seen → Outcome → Bool → Bool → Seen
seen_ended s outcome.Done started same = record s { known = true; allowed = same; loose = false }
seen_ended s outcome.Lost started same = record s { allowed = s.allowed || (s.known && same) }
seen_ended s outcome.Off started same = record s { allowed = s.allowed || (started && s.known && same); loose = s.loose || (started && s.off) }
seen_ended s outcome.Dark started same = record s { allowed = s.allowed || (started && s.known && same); loose = s.loose || (started && s.off) }
seen_ended s outcome.Got started same = s
seen_ended s outcome.ReadFailed started same = s
seen_ended s outcome.NoFresh started same = s

-- a read has ended, which got the value or another
abbrev pub seen_read : Seen → Outcome → Bool → Seen
seen_read s outcome.Got same = if s.loose then s else record s { known = true; allowed = same }
seen_read s _ same = s

-- the write is one of those looked for
abbrev pub is_sought : Sought → ℕ → Ask → List (List ℕ) → ℕ → Sector → Bool
is_sought (sought.Request id) n a blocks b x = n == id
is_sought sought.Any n a blocks b x = true
is_sought sought.Value n a blocks b x = bytes_eq (block_of (blocks_at blocks a) a.at b) x

-- the row ends the write of this number, if it is open at block b of the volume
abbrev pub is_ending : ℕ → Vol → ℕ → Row → Bool
is_ending n vol b (row.Landed id how started) = id == n
is_ending n vol b row.Cut = true
is_ending n vol b (row.Making lv size mode) = same_vol (Lv lv) vol && nat_lt b size
is_ending n vol b (row.Split from lv) = same_vol (Lv lv) vol
is_ending n vol b (row.Removed gone) = same_vol gone vol
is_ending n vol b _ = false

-- the row begins a write of block b, and it is one of those looked for
abbrev pub is_opening : Sought → List Ask → List (List ℕ) → Vol → ℕ → Sector → Row → Bool
is_opening s asks blocks vol b x (row.Begun id) = (ask_of asks id).write && is_over_ask (ask_of asks id) vol b && is_sought s id (ask_of asks id) blocks b x
is_opening s asks blocks vol b x _ = false

abbrev pub id_of : Row → ℕ
id_of (row.Begun id) = id
id_of (row.Landed id how started) = id
id_of (row.Taken client id) = id
id_of _ = 0

-- one of the writes looked for is open after the rows
abbrev pub is_any_open : Sought → List Ask → List (List ℕ) → Vol → ℕ → Sector → List Row → Bool
is_any_open s asks blocks vol b x [] = false
is_any_open s asks blocks vol b x (r ∷ rows) = (is_opening s asks blocks vol b x r && not (list_any (is_ending (id_of r) vol b) rows)) || is_any_open s asks blocks vol b x rows

-- of which volume a block's value was before the row
abbrev pub row_source : Row → Vol → Vol
row_source (row.Split from lv) vol = if same_vol (Lv lv) vol then Lv from else vol
row_source _ vol = vol

-- and before all these rows
abbrev pub origin_of : List Row → Vol → Vol
origin_of rows vol = fold (λ v r. row_source r v) vol (reverse rows)

-- what is seen of a block after a row, the rows before which are these
abbrev pub seen_step : Seen → List Row → List Ask → List (List ℕ) → Vol → ℕ → Sector → Row → Seen
seen_step s before asks blocks vol b x (row.Making lv size mode) = if same_vol (Lv lv) vol && nat_lt b size then record { known = true; allowed = bytes_eq zero_sector x; loose = false; off = is_off mode } else s
seen_step s before asks blocks vol b x (row.Removed gone) = if same_vol gone vol then record s { known = false; allowed = false; loose = false } else s
seen_step s before asks blocks vol b x (row.Landed id how started) =
    if is_over_ask (ask_of asks id) vol b then
    (if (ask_of asks id).write
    then (if is_any_open (sought.Request id) asks blocks vol b x before then seen_ended s how started (bytes_eq (block_of (blocks_at blocks (ask_of asks id)) (ask_of asks id).at b) x) else s)
    else seen_read s how (bytes_eq (block_of (blocks_at blocks (ask_of asks id)) (ask_of asks id).at b) x))
    else s
seen_step s before asks blocks vol b x row.Cut = record s {
  allowed = s.allowed || (s.known && is_any_open sought.Value asks blocks vol b x before);
  loose = s.loose || (s.off && is_any_open sought.Any asks blocks vol b x before);
}
seen_step s before asks blocks vol b x (row.Split from lv) = s
seen_step s before asks blocks vol b x (row.Made lv) = s
seen_step s before asks blocks vol b x (row.Removing gone) = s
seen_step s before asks blocks vol b x (row.Begun id) = s
seen_step s before asks blocks vol b x (row.Taken client id) = s
seen_step s before asks blocks vol b x (row.On moment) = s
