-- When a copy that is open fails with a write.
use Rattle.std.specs.Prelude.{Bool, ◌&&◌, ◌||◌, not}
use Rattle.std.specs.List.{list_any}
use Rattle.lvm_num.specs.declared.place.Pp.{Pp}
use Rattle.lvm_num.specs.Descriptor.{is_pp}
use Rattle.lvm_path.specs.declared.target.Target.{Target}
use Rattle.lvm_path.specs.Asks.{is_write}
use Rattle.lvm_path.specs.Targets.{are_over}
use Rattle.lvm_session.specs.declared.bringing.OpenCopy.{OpenCopy}
use Rattle.lvm_session.specs.declared.open.Open.{Open}
use Rattle.lvm_session.specs.State.{Core}
use Rattle.lvm_session.specs.Judging.{all_but_sure, is_kept, is_running}

-- it is one of the targets but the first sure one
abbrev pub is_left : Core → Open → Pp → Bool
is_left core o p = list_any (λ (t : Target). is_pp p t.pp) (all_but_sure core o.request.targets.items)

-- a write that has lost all its sure targets leaves the copy stale
abbrev pub loses : Core → Open → Pp → Bool
loses core o p = are_over o.request.targets.items && not (is_kept core o.request) && not o.older && is_left core o p

-- the copy fails with it, or with a write of its own that has failed
abbrev pub fails_with : Core → Open → Bool → Pp → OpenCopy → Bool
fails_with core o ok p c = is_write o.request.ask && is_running c && (not ok && is_pp p c.pp || loses core o c.pp)
