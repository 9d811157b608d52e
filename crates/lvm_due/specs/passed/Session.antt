-- Passed on from the crates below.
pub use Rattle.lvm_session.specs.Bringing.{has_row, step_row}
pub use Rattle.lvm_session.specs.Dark.{IsAscending}
pub use Rattle.lvm_session.specs.Enabled.{admission, admission_at, copy_write, data_at, first_from, has_buffer, is_admit, is_lost, is_pin, landing, landing_at, note_at, note_due, or_next, outcome_next, target_next}
pub use Rattle.lvm_session.specs.Fields.{core_of}
pub use Rattle.lvm_session.specs.Judging.{IsWithinVolume, all_but_sure, copies_for, counts_failed, facts_of, has_dirty_mark, has_names, held_of, is_beside, is_beside_copy, is_changed, stays_fresh, is_failing, is_held_back, is_held_by_move, is_held_stale, is_kept, is_marked, is_missing, is_move_done, is_past_held, is_pending, is_settled, is_sure_at, is_under_way, is_usable, is_waiting, is_wanted_stale, lp_of, mode_of, next_for, destination_aims, place_of}
pub use Rattle.lvm_session.specs.Marks.{is_among}
pub use Rattle.lvm_session.specs.Requests.{IsOpenOne, IsTarget, wants_entry}
pub use Rattle.lvm_session.specs.Sound.{IsCopy, IsFitting, IsGoing, rows_of, waiting_rows, with_row}
pub use Rattle.lvm_session.specs.State.{Core, votes_there}
pub use Rattle.lvm_session.specs.declared.bringing.OpenCopy.{OpenCopy}
pub use Rattle.lvm_session.specs.declared.event.Event.{Event}
pub use Rattle.lvm_session.specs.declared.open.Open.{Open}
pub use Rattle.lvm_session.specs.passed.Mwc.{flight_on, is_named}
pub use Rattle.lvm_session.specs.passed.Status.{members_there}
