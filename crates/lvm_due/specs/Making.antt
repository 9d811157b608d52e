-- Which events a request might make, as far as it shows by itself: each that it can make is among them.
use Rattle.std.specs.Prelude.{Bool, true, false, ◌&&◌, if◌then◌else◌}
use Rattle.lvm_path.specs.declared.request.Phase.{Phase}
use Rattle.lvm_path.specs.declared.request.Phase.TheVariants as phase
use Rattle.lvm_path.specs.declared.request.Request.{Request}
use Rattle.lvm_path.specs.Asks.{is_write}
use Rattle.lvm_session.specs.Enabled.{wants_record}
use Rattle.lvm_due.specs.Might.{are_at_rest, is_unbegun, might_transfer}

-- in this phase it might land
abbrev pub might_make_landing_in : Phase → Request → Bool
might_make_landing_in phase.Held r = true
might_make_landing_in phase.WantEntry r = true
might_make_landing_in phase.WantRecord r = true
might_make_landing_in phase.Data r = if is_write r.ask then is_unbegun r else are_at_rest r.targets.items
might_make_landing_in phase.WantStatus r = true
might_make_landing_in phase.Landed r = false

abbrev pub might_make_landing : Request → Bool
might_make_landing r = might_make_landing_in r.phase r

-- in this phase it might be admitted, or admitted again
abbrev pub might_make_admission_in : Phase → Request → Bool
might_make_admission_in phase.Held r = true
might_make_admission_in phase.WantEntry r = true
might_make_admission_in phase.WantRecord r = true
might_make_admission_in phase.Data r = is_unbegun r
might_make_admission_in phase.WantStatus r = false
might_make_admission_in phase.Landed r = false

abbrev pub might_make_admission : Request → Bool
might_make_admission r = might_make_admission_in r.phase r

-- a note might be started for it
abbrev pub might_make_note : Request → Bool
might_make_note r = wants_record r.phase && r.pinned

-- in this phase a transfer of its data might be started
abbrev pub might_make_data_in : Phase → Request → Bool
might_make_data_in phase.Held r = false
might_make_data_in phase.WantEntry r = false
might_make_data_in phase.WantRecord r = true
might_make_data_in phase.Data r = might_transfer r
might_make_data_in phase.WantStatus r = false
might_make_data_in phase.Landed r = false

abbrev pub might_make_data : Request → Bool
might_make_data r = might_make_data_in r.phase r
