-- Why posts of a session that goes on were answered otherwise than well.
use Rattle.std.specs.Prelude.{◌≡◌, ℕ, List, None, Ok, Err}
use Rattle.lvm_disk.specs.Device.{Device}
use Rattle.lvm_session.specs.declared.open.Power.TheVariants as power
use Rattle.lvm_session.specs.Causes.{faults_at_first}
use Rattle.lvm_session.specs.Sound.{IsSound}
use Rattle.lvm_session.specs.State.{Core, State}
use Rattle.lvm_posts.specs.declared.posts.Post.{Post}
use Rattle.lvm_group_lines.specs.passed.Ranges.{GoingCause}
use Rattle.lvm_range_lines.specs.Refusals.{Ending}
use Rattle.lvm_range_lines.specs.Waiting.{NoPost, OnePost, TakesPosts}

-- a post of the session itself was, once disks had so many faults, its answers being taken from this session
abbrev pub IsPostCaused : (ℕ → ℕ) → Device → Core → Post → Ending → Type 0
IsPostCaused faults device core post (Ok done) = Unit {0}
IsPostCaused faults device core post (Err why) = post.ended ≡ None → GoingCause faults post.asked core device why

-- so it is of each whose answer was taken
abbrev pub ArePostsCaused : (ℕ → ℕ) → Device → {first : State} {posts : List Post} {now : State} {answers : List Ending} → TakesPosts first posts now answers → Type 0
ArePostsCaused faults device NoPost = Unit {0}
ArePostsCaused faults device (OnePost {mid = mid} before post new answer takes) = ArePostsCaused faults device before × IsPostCaused faults device mid.core post answer

-- So they are, on the shelf of the session, since it began.
abbrev pub PostsHaveCauses : Type 0
PostsHaveCauses = (first now : State) (posts : List Post) (answers : List Ending) (takes : TakesPosts first posts now answers) → IsSound first → first.core.power ≡ power.On
    → ArePostsCaused (faults_at_first first.core) first.device takes
