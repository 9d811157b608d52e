use Rattle.lvm_status.proofs.RunsLemmas.Sound.{first_is_sound, steps_stay_sound, runs_stay_sound}
use Rattle.lvm_status.proofs.laws.sessions_are_sound.Goals as goal

pub returns : goal.returns
returns c = record { first = first_is_sound; steps = steps_stay_sound; runs = runs_stay_sound }
