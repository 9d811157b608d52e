-- Passed on from `lvm_tie_commands`.
pub use Rattle.lvm_volume_lines.proofs.passed.TieCommands.{rests, tied_holds, still_there, Held, calm_since, data_stays, both_lists, holds_one, its_disks_hold, its_rest, landed, no_volume}
