-- When two requests may not be under way at once.
use Rattle.std.specs.Prelude.{◌≡◌, ◌+◌, ◌%◌, ◌^◌, ◌<◌, ◌≤◌, ◌&&◌, ◌||◌, ◌==◌, Bool, true, not, nat_lt}
use Rattle.lvm_hold.specs.declared.queue.Held.{Held}

-- some block of one volume is a block of both
abbrev pub have_common_block : Held → Held → Bool
have_common_block a b = (a.lv == b.lv) && nat_lt a.at (b.at + b.count) && nat_lt b.at (a.at + a.count)

-- a request that writes; a copy step isn't one
abbrev pub is_write : Held → Bool
is_write a = a.write && not a.copy

-- two of which one writes, at a common block
abbrev pub conflicts : Held → Held → Bool
conflicts a b = have_common_block a b && (is_write a || is_write b)

-- some blocks of one track group, and all of them for a copy step
pub record IsInGroup (a : Held) : Type 0 where
  pub some : 1 ≤ a.count
  pub end : a.at + a.count < 2 ^ 64
  pub group : a.at % 256 + a.count ≤ 256
  pub whole : a.copy ≡ true → a.count ≡ 256
