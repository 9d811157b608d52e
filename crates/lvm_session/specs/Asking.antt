-- What a client may ask of a session.
use Rattle.std.specs.Prelude.{◌≡◌, ◌*◌, ℕ, List, Option, length, is_some}
use Rattle.std.specs.Option.{ForSome}
use Rattle.lvm_hold.specs.Conflicts.{IsInGroup}
use Rattle.lvm_path.specs.declared.ask.Ask.{Ask}
use Rattle.lvm_path.specs.Asks.{count_of, is_write}
use Rattle.lvm_session.specs.declared.open.Power.TheVariants as power
use Rattle.lvm_session.specs.State.{Core}
use Rattle.lvm_session.specs.Judging.{held_of}
use Rattle.lvm_session.specs.Sound.{IsFitting, IsGoing}

-- Some blocks of one track group; a write has their bytes, and a read none.
pub record IsAsking (ask : Ask) (bytes : Option (List ℕ)) : Type 0 where
  pub group : IsInGroup (held_of ask)
  pub write : is_some bytes ≡ is_write ask
  pub long : ForSome bytes (λ given. length given ≡ 512 * count_of ask)

-- A session that is on or over.
pub record IsAwake (core : Core) : Type 0 where
  pub fitting : IsFitting core
  pub going : core.power ≡ power.On → IsGoing core
  pub unstuck : core.power ≡ power.Stuck → ⊥
