use Rattle.lvm_tidying.proofs.CleanedLemmas.{cleaning_is_marking, marking_stays, cleaned_may_clean, cleaned_shows}
use Rattle.lvm_tidying.proofs.laws.cleaned_is_marking.Goals as goal

pub returns : goal.returns
returns c = record { marking = cleaning_is_marking; stays = marking_stays; cleaned = cleaned_may_clean; shows = cleaned_shows }
