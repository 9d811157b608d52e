-- Passed on from `lvm_tie_commands`.
pub use Rattle.lvm_group_lines.proofs.passed.TieCommands.{added_markable, has_volumes, mklv_goes_on, mklvcopy_goes_on, mklvcopy_serves, rests, rmlv_goes_on, rmlvcopy_goes_on, rmlvcopy_serves, tied_holds, tidy_goes_on, still_there, Held, calm_since, data_stays, both_lists, holds_one, its_disks_hold, its_rest, landed, no_volume}
