-- What a split leaves of the content of the session that goes on.
use Rattle.std.specs.Prelude.{◌≡◌, ℕ, List, [], ◌∷◌, ◌++◌, IsSomeAnd}
use Rattle.lvm_disk.specs.Device.{Device}
use Rattle.lvm_vol.specs.Facts.{Fact, Made, Split}
use Rattle.lvm_kept.specs.Moments.{Moment}
use Rattle.lvm_steps.specs.Moments.{RunBegins, Keeps}
use Rattle.lvm_session.specs.State.{Core, state}
use Rattle.lvm_volume_lines.specs.passed.Splitting.{ShareContent}
use Rattle.lvm_volume_lines.specs.passed.GroupLines.{IsAlone, OfGroup, StandsBy, history_in, session_in, shelf_in, state_in, Reply, Stage}
use Rattle.lvm_volume_lines.specs.passed.ReplyVariants as reply

-- Once the turns were made the split was entered, and both volumes hold the same at each block that wasn't loose by then.
pub record SharesSession (past : List Fact) (device : Device) (core : Core) : Type 0 where
  pub lv : ℕ
  pub number : ℕ
  pub turned : List Fact
  pub history : core.history.facts ≡ (turned ++ Split lv number ∷ []) ++ Made number ∷ []
  pub shares : ShareContent (past ++ turned) (state device core) lv number

-- So it is of the session behind a split that is answered `ok`, where the disks stood by the session before it.
abbrev pub SharesBehind : {S : Type 0} → (S → Device) → Stage S → Stage S → Reply → Type 0
SharesBehind device old new answer = (last : ℕ) (first : Moment) → answer ≡ reply.Ok → IsAlone OfGroup (state_in device old last) (state_in device new last) → Keeps (history_in old).run first (state_in device old last).moment → StandsBy (history_in old).run first (state_in device old last)
    → (past : List Fact) → RunBegins (history_in old).run past first → IsSomeAnd (session_in new) (SharesSession past (device (shelf_in new)))
