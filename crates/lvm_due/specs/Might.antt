-- What a request might do next, as far as that shows without its facts.
use Rattle.std.specs.Prelude.{Bool, true, false, ◌&&◌, ◌||◌, not, if◌then◌else◌, List}
use Rattle.std.specs.List.{list_any}
use Rattle.lvm_sched.specs.Writes.{is_flying, is_waiting}
use Rattle.lvm_path.specs.declared.request.Phase.{Phase}
use Rattle.lvm_path.specs.declared.request.Phase.TheVariants as phase
use Rattle.lvm_path.specs.declared.request.Request.{Request}
use Rattle.lvm_path.specs.declared.target.Target.{Target}
use Rattle.lvm_path.specs.Asks.{is_write}
use Rattle.lvm_path.specs.Targets.{is_begun, is_done}
use Rattle.lvm_due.specs.passed.Session.{Core, copies_for, has_names, is_changed, is_usable, mode_of, wants_entry}

-- a write that hasn't started its data
abbrev pub is_unbegun : Request → Bool
is_unbegun r = is_write r.ask && not (is_begun r.targets.items)

-- the transfer of one of them has ended well, or none is under way
abbrev pub are_at_rest : List Target → Bool
are_at_rest targets = list_any (λ (t : Target). is_done t.state) targets || not (list_any (λ (t : Target). is_flying t.state) targets)

-- in this phase it might land, where some copy shows as usable or none does
abbrev pub might_land_in : Phase → Request → Bool → Bool
might_land_in phase.Held r usable = not usable
might_land_in phase.WantEntry r usable = not usable
might_land_in phase.WantRecord r usable = not usable
might_land_in phase.Data r usable = if is_write r.ask then is_unbegun r && not usable else are_at_rest r.targets.items
might_land_in phase.WantStatus r usable = true
might_land_in phase.Landed r usable = false

-- one of the copies to which it goes is usable (the destination of a move is none)
abbrev pub any_is_usable : Core → List Target → Bool
any_is_usable core targets = list_any (λ (t : Target). not t.moves && is_usable core t.pp) targets

-- A copy of its logical partition is usable, as far as that shows: once it has its targets they are looked at alone, which are copies of it.
abbrev pub shows_usable : Core → Phase → Request → Bool
shows_usable core phase.Held r = list_any (is_usable core) (copies_for core r.ask)
shows_usable core phase.WantEntry r = any_is_usable core r.targets.items
shows_usable core phase.WantRecord r = any_is_usable core r.targets.items
shows_usable core phase.Data r = any_is_usable core r.targets.items
shows_usable core phase.WantStatus r = any_is_usable core r.targets.items
shows_usable core phase.Landed r = any_is_usable core r.targets.items

abbrev pub might_land : Core → Request → Bool
might_land core r = might_land_in r.phase r (shows_usable core r.phase r)

-- in this phase it might be admitted, or admitted again, where its targets are others or aren't
abbrev pub might_admit_in : Phase → Request → Bool → Bool
might_admit_in phase.Held r changed = true
might_admit_in phase.WantEntry r changed = changed
might_admit_in phase.WantRecord r changed = changed
might_admit_in phase.Data r changed = is_unbegun r && changed
might_admit_in phase.WantStatus r changed = false
might_admit_in phase.Landed r changed = false

abbrev pub might_admit : Core → Request → Bool
might_admit core r = might_admit_in r.phase r (is_changed core r)

-- its track group might be pinned
abbrev pub might_pin : Request → Bool
might_pin r = wants_entry r.phase && not r.pinned

-- the transfer of one of them isn't started
abbrev pub any_waits : List Target → Bool
any_waits targets = list_any (λ (t : Target). is_waiting t.state) targets

-- none of their transfers is under way or has ended well
abbrev pub none_goes : List Target → Bool
none_goes targets = not (list_any (λ (t : Target). is_done t.state) targets) && not (list_any (λ (t : Target). is_flying t.state) targets)

-- A transfer of a request whose data may go might be started: one isn't started, and a read tries one after the other.
abbrev pub might_transfer : Request → Bool
might_transfer r = any_waits r.targets.items && (is_write r.ask || none_goes r.targets.items)

-- in this phase a transfer of it might be started, where the notes name its track group or don't
abbrev pub might_start_in : Phase → Request → Bool → Bool
might_start_in phase.Held r named = false
might_start_in phase.WantEntry r named = false
might_start_in phase.WantRecord r named = named
might_start_in phase.Data r named = might_transfer r
might_start_in phase.WantStatus r named = false
might_start_in phase.Landed r named = false

abbrev pub might_start : Core → Request → Bool
might_start core r = might_start_in r.phase r (has_names core (mode_of core r.ask) r)
