-- What a workload leaves in the table of requests.
use Rattle.std.specs.Prelude.{◌≡◌, ◌+◌, ℕ, Bool, false, length, count_by}
use Rattle.lvm_session.specs.State.{State}
use Rattle.lvm_load.specs.Weaving.{Weaves, first_weaving, has_open}

-- It leaves one request for each client that has one open, beside as many as stood there before; so just as many, where no client has one open.
abbrev pub WorkloadsLeaveOpen : Type 0
WorkloadsLeaveOpen = (lv blocks requests clients seed : ℕ) (first last : State) (waits : Bool) (it : Weaves lv blocks requests (first_weaving first clients seed) last waits)
    → (length last.core.requests ≡ length first.core.requests + count_by has_open it.after) × (waits ≡ false → length last.core.requests ≡ length first.core.requests)
