-- A line by which the clock is asked, or the session ends, and nothing else happens.
use Rattle.std.specs.Prelude.{◌≡◌, None}
use Rattle.lvm_io.specs.Count.{Rose}
use Rattle.lvm_group_lines.specs.Stages.{posts_ended}
use Rattle.lvm_group_lines.specs.State.{ScriptState}

-- the clock was asked, and answered a later moment, or the last one that there is again
abbrev pub Asks : ScriptState → ScriptState → Type 0
Asks old new = Rose old.last new.last

-- and nothing else has happened
pub record IsAsked (old new : ScriptState) : Type 0 where
  pub asks : Asks old new
  pub same : new ≡ record old { last = new.last }

-- the session ends, and nothing is written
pub record EndsSession (old new : ScriptState) : Type 0 where
  pub same : new.moment ≡ old.moment
  pub after : new.session ≡ None
  pub posts : new.posts ≡ posts_ended old.session old.posts
  pub clock : new.last ≡ old.last
