-- Where no copy moves, each request has landed once no event may be made and no transfer is out.
use Rattle.std.proofs.Common.{◌≡◌, ◌&&◌, not, false, [], Option, Some, None, refl, ap}
use Rattle.std.specs.List.{list_any}
use Rattle.std.specs.Option.{option_map_or}
use Rattle.lvm_path.specs.declared.ask.Ask.{Ask}
use Rattle.lvm_session.specs.declared.bringing.OpenCopy.{OpenCopy}
use Rattle.lvm_session.specs.declared.open.Power.TheVariants as power
use Rattle.lvm_session.specs.Bringing.{is_whole}
use Rattle.lvm_session.specs.Enabled.{first_event, is_lost}
use Rattle.lvm_session.specs.Judging.{is_beside_copy, stays_fresh, is_move_done, is_running, is_under_way, is_waiting}
use Rattle.lvm_session.specs.Sound.{IsSound}
use Rattle.lvm_session.specs.State.{State}
use Rattle.lvm_keeps_events.proofs.KeepsFallsLemmas.Standing.{never_stands_still, none_waits_at_all}
use Rattle.lvm_going.specs.Frames.{is_moving}

pub none_waits_still : (s : State) → IsSound s → is_moving s.core ≡ false → s.core.power ≡ power.On → is_lost s.core ≡ false → first_event s.core ≡ None → s.device.flights ≡ [] → list_any is_waiting s.core.requests ≡ false
none_waits_still s sound unmoved on votes none idle = none_waits_at_all s.core (free s.core.copy unmoved) s.core.requests (never_stands_still s sound on votes none idle).0
  where
    free : (m : Option OpenCopy) → option_map_or (λ (c : OpenCopy). c.moves) m false ≡ false → (ask : Ask) → option_map_or (λ (c : OpenCopy). is_move_done s.core c && is_beside_copy s.core ask c) m false ≡ false
    free None still ask = refl
    free (Some c) still ask = ap (λ b. b && is_running c && is_whole s.core c && stays_fresh s.core c.pp && not (is_under_way s.core c) && is_beside_copy s.core ask c) still
