use Rattle.lvm_erase.proofs.ShowingLemmas.{shows_newest_or_none, erasing_shows_one, erased_shows_none}
use Rattle.lvm_erase.proofs.laws.newest_is_shown_or_none.Goals as goal

pub returns : goal.returns
returns c = record { while_erased = shows_newest_or_none; rest = erasing_shows_one; erased = erased_shows_none }
