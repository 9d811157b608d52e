-- What a request of a run does that writes or reads one piece of a disk.
use Rattle.std.specs.Prelude.{true, false, ◌≡◌, ◌<◌, ◌+◌, ◌%◌, ◌^◌, ◌++◌, ◌∷◌, ℕ, List, [], Some, length, take, slice_get}
use Rattle.lvm_num.specs.Buffer.{Buffer, Sector}
use Rattle.lvm_num.specs.Word.{fill_of}
use Rattle.lvm_vol.specs.Facts.{Begun}
use Rattle.lvm_kept.specs.Moments.{Moment}
use Rattle.lvm_kept.specs.Raw.{next_write}
use Rattle.lvm_steps.specs.Requests.{next_read}
use Rattle.lvm_transfer.specs.Transfer.{flight_of}
use Rattle.lvm_transfer.specs.declared.moves.Moved.{Moved}
use Rattle.lvm_raw.specs.Requests.{write_ends, read_ends, ShelfAfter}

-- each block is filled with a word, the first with this one, and each other with the next, wrapping
abbrev pub AreFilled : ℕ → List Sector → Type 0
AreFilled word blocks = (i : ℕ) → i < length blocks → slice_get blocks i ≡ Some (fill_of ((word + i) % 2 ^ 64))

-- a request of the run that writes this piece by one transfer, which ended so
pub record WritesPiece (run disk word from count patience : ℕ) (old new : Moment) (how : Moved) : Type 0 where
  pub sent : Buffer
  pub long : length (take count sent.sectors) ≡ count
  pub filled : AreFilled word (take count sent.sectors)
  pub shelf : (ticket : ℕ) × ShelfAfter patience old.device new.device (flight_of ticket true disk from count sent) how
  pub facts : let r = next_write run old.facts disk from count (take count sent.sectors) in new.facts ≡ write_ends (old.facts ++ Begun r ∷ []) r how

-- one that reads it
pub record ReadsPiece (run disk from count patience : ℕ) (old new : Moment) (how : Moved) : Type 0 where
  pub sent : Buffer
  pub shelf : (ticket : ℕ) × ShelfAfter patience old.device new.device (flight_of ticket false disk from count sent) how
  pub facts : let r = next_read run old.facts disk from count in new.facts ≡ read_ends (old.facts ++ Begun r ∷ []) r how
