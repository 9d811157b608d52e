-- What a row tells of whether a block may have a value, looked at from behind.
use Rattle.std.specs.Prelude.{ℕ, ◌+◌, Bool, true, false, ◌&&◌, ◌||◌, not, nat_lt, if◌then◌else◌, List, Option, Some, None}
use Rattle.std.specs.Str.{bytes_eq}
use Rattle.lvm_vol.specs.passed.Num.{Sector, zero_sector}
use Rattle.lvm_vol.specs.declared.entry.Vol.{Vol}
use Rattle.lvm_vol.specs.declared.entry.Vol.TheVariants.{Lv}
use Rattle.lvm_vol.specs.declared.entry.Outcome.{Outcome}
use Rattle.lvm_vol.specs.declared.entry.Outcome.TheVariants as outcome
use Rattle.lvm_allowed.specs.declared.row.Ask.{Ask}
use Rattle.lvm_allowed.specs.declared.row.Row.{Row}
use Rattle.lvm_allowed.specs.declared.row.Row.TheVariants as row
use Rattle.lvm_allowed.specs.declared.values.Seen.{Seen}
use Rattle.lvm_allowed.specs.declared.values.Sought.TheVariants as sought
use Rattle.lvm_allowed.specs.declared.recent.Told.{Told}
use Rattle.lvm_allowed.specs.declared.recent.Told.TheVariants.{Fixed, Also}
use Rattle.lvm_vol.specs.Facts.{same_vol, block_of}
use Rattle.lvm_vol.specs.May.{is_off}
use Rattle.lvm_allowed.specs.Rows.{ask_of, blocks_at}
use Rattle.lvm_allowed.specs.Seen.{is_over_ask, is_any_open}

-- whether the value is allowed
abbrev pub allows : Seen → Bool
allows s = not s.known || s.allowed

-- and whether it is after what was told, if it was so before
abbrev pub with_told : Told → Bool → Bool
with_told (Fixed allowed) before = allowed
with_told (Also allowed) before = before || allowed

-- the end of an open write that brings the value, or another
abbrev pub told_end : Outcome → Bool → Bool → Told
told_end outcome.Done started same = Fixed same
told_end outcome.Lost started same = Also same
told_end outcome.Off started same = Also (started && same)
told_end outcome.Dark started same = Also (started && same)
told_end outcome.Got started same = Also false
told_end outcome.ReadFailed started same = Also false
told_end outcome.NoFresh started same = Also false

-- the end of a read that got the value, or another
abbrev pub told_read : Bool → Outcome → Bool → Told
told_read loose outcome.Got same = if loose then Also false else Fixed same
told_read loose _ same = Also false

-- a row, the rows before which are these, of a block that is loose before it or isn't
abbrev pub told_row : Bool → List Row → List Ask → List (List ℕ) → Vol → ℕ → Sector → Row → Told
told_row loose before asks blocks vol b x (row.Making lv size mode) = if same_vol (Lv lv) vol && nat_lt b size then Fixed (bytes_eq zero_sector x) else Also false
told_row loose before asks blocks vol b x (row.Removed gone) = if same_vol gone vol then Fixed true else Also false
told_row loose before asks blocks vol b x (row.Landed id how started) =
    if is_over_ask (ask_of asks id) vol b then
    (if (ask_of asks id).write
    then (if is_any_open (sought.Request id) asks blocks vol b x before then told_end how started (bytes_eq (block_of (blocks_at blocks (ask_of asks id)) (ask_of asks id).at b) x) else Also false)
    else told_read loose how (bytes_eq (block_of (blocks_at blocks (ask_of asks id)) (ask_of asks id).at b) x))
    else Also false
told_row loose before asks blocks vol b x row.Cut = Also (is_any_open sought.Value asks blocks vol b x before)
told_row loose before asks blocks vol b x (row.Split from lv) = Also false
told_row loose before asks blocks vol b x (row.Made lv) = Also false
told_row loose before asks blocks vol b x (row.Removing gone) = Also false
told_row loose before asks blocks vol b x (row.Begun id) = Also false
told_row loose before asks blocks vol b x (row.Taken client id) = Also false
told_row loose before asks blocks vol b x (row.On moment) = Also false

-- whether the mode is off with which a row makes the volume of block b
abbrev pub off_told : Vol → ℕ → Row → Option Bool
off_told vol b (row.Making lv size mode) = if same_vol (Lv lv) vol && nat_lt b size then Some (is_off mode) else None
off_told vol b _ = None
