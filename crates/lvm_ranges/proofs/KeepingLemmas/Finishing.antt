-- A range is waited for, and its answers are taken.
use Rattle.std.proofs.Common.{◌+◌, ℕ, ◌∙◌}
use Rattle.std.specs.Prelude.{Ok}
use Rattle.lvm_num.specs.Votes.{total_votes}
use Rattle.lvm_session.specs.State.{Core, State, votes_there}
use Rattle.lvm_posts.specs.declared.asked.Asked.{Asked}
use Rattle.lvm_posts.specs.Posts.{AreHeld}
use Rattle.lvm_ranges.specs.Finishing.{FinishGives, Finished, WasStuck}
use Rattle.lvm_ranges.specs.Keeping.{KeepsOthers, KeepsTable}
use Rattle.lvm_ranges.specs.Reading.{HasEndedWell}
use Rattle.lvm_ranges.proofs.KeepingLemmas.Growing.{keeps_both}

-- what the table held it still holds
pub still_held : (old new : Core) → KeepsTable old new → (asked : Asked) → AreHeld old asked → AreHeld new asked
still_held old new table asked held k less = table.asked 1 (asked.first + k) ∙ held k less

-- so other ranges stay too,
pub others_stay : (asked : Asked) (old new : Core) → KeepsTable old new → KeepsOthers asked old new
others_stay asked old new table = record {
  held = λ other apart held. still_held old new table other held;
  answered = λ other apart are k less. table.answered 1 (other.first + k) (are k less);
  none = λ client id is. table.asked client id ∙ is;
  requests = table.requests;
}

-- also where the answers of this one are taken behind it
pub others_then : (asked : Asked) (old mid new : Core) → KeepsTable old mid → KeepsOthers asked mid new → KeepsOthers asked old new
others_then asked old mid new table others = record {
  held = λ other apart held. others.held other apart (still_held old mid table other held);
  answered = λ other apart are. others.answered other apart (λ k less. table.answered 1 (other.first + k) (are k less));
  none = λ client id is. others.none client id (table.asked client id ∙ is);
  requests = keeps_both old mid new table.requests others.requests;
}

-- a range that is answered Ok has ended well
pub ended_well : (asked : Asked) (left : ℕ) (old new : State) → FinishGives asked left old new (Ok tt) → HasEndedWell new.core.history.facts asked
ended_well asked left old new (Finished mid path table votes takes) = (votes_there mid.core, total_votes mid.core.descriptor, takes.ends)
ended_well asked left old new (WasStuck path table unfinished none is) = absurd (cc is)
