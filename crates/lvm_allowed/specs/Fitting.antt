-- Tests of rows for whether a history is legal.
use Rattle.std.specs.Prelude.{ℕ, ◌+◌, ◌^◌, Bool, true, false, not, ◌==◌, nat_lt}
use Rattle.lvm_vol.specs.declared.entry.Outcome.{Outcome}
use Rattle.lvm_vol.specs.declared.entry.Outcome.TheVariants as outcome
use Rattle.lvm_allowed.specs.declared.row.Ask.{Ask}
use Rattle.lvm_allowed.specs.declared.row.Row.{Row}
use Rattle.lvm_allowed.specs.declared.row.Row.TheVariants as row

abbrev pub is_begin : Row → Bool
is_begin (row.Begun id) = true
is_begin _ = false

abbrev pub is_beginning : ℕ → Row → Bool
is_beginning id (row.Begun begun) = begun == id
is_beginning id _ = false

-- if a group was varied on, it was before this moment
abbrev pub is_earlier_on : ℕ → Row → Bool
is_earlier_on moment (row.On other) = nat_lt other moment
is_earlier_on moment _ = true

-- the request's blocks have numbers of 64 bits
abbrev pub is_bounded : Ask → Bool
is_bounded a = nat_lt (a.at + a.count) (2 ^ 64)

-- whether a write, or a read, may end so
abbrev pub is_kind : Outcome → Bool → Bool → Bool
is_kind outcome.Done write started = write
is_kind outcome.Lost write started = write
is_kind outcome.Got write started = not write
is_kind outcome.ReadFailed write started = not write
is_kind outcome.NoFresh write started = not started
is_kind outcome.Off write started = true
is_kind outcome.Dark write started = true
