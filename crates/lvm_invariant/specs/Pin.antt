-- A write pins the entry of its track group in the cache.
use Rattle.std.specs.Prelude.{◌≡◌, ℕ, Some, IsTrue}
use Rattle.lvm_num.specs.Geometry.{track_group_of}
use Rattle.lvm_invariant.specs.Found.{Votes}
use Rattle.lvm_invariant.specs.Updates.{put}
use Rattle.lvm_invariant.specs.State.{Groups, WantEntry, Ready, Queued, ModelState, is_pinning}
use Rattle.lvm_invariant.specs.Good.{Good}

-- the cache has the entry then, and still each that is pinned
pub record Pins (s : ModelState) (i : ℕ) (r : Queued) (cache : Groups) : Type 0 where
  pub there : s.queue i ≡ Some r
  pub waits : r.phase ≡ WantEntry
  pub has : IsTrue (cache r.lv (track_group_of r.first))
  pub keeps : (j : ℕ) (e : Queued) → s.queue j ≡ Some e → IsTrue e.write → IsTrue (is_pinning e.phase) → IsTrue (s.is_active e.lv) → IsTrue e.several
      → IsTrue (s.cache e.lv (track_group_of e.first)) → IsTrue (cache e.lv (track_group_of e.first))

abbrev pub pinned : ModelState → ℕ → Queued → Groups → ModelState
pinned s i r cache = record s { queue = put s.queue i (record r { phase = Ready }); cache = cache }

abbrev pub PinKeeps : Type 0
PinKeeps = (votes : Votes) (s : ModelState) (i : ℕ) (r : Queued) (cache : Groups) → Pins s i r cache → Good votes s → Good votes (pinned s i r cache)
