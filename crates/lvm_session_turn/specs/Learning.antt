-- What the owner of a transfer learns of its end, before what that entails.
use Rattle.std.specs.Prelude.{◌≡◌, ◌<◌, ℕ, Bool, true, false, length}
use Rattle.lvm_num.specs.Buffer.{Buffer}
use Rattle.lvm_mwc.specs.Cache.{after_end as after_note_end}
use Rattle.lvm_pbuf.specs.Out.{IsOut}
use Rattle.lvm_status.specs.Update.{seen}
use Rattle.lvm_status.specs.Calls.{WantsAtEnd, after_end}
use Rattle.lvm_session.specs.State.{Core}
use Rattle.lvm_session.specs.Ends.{FlipsIf, LosesDisk, with_return}

-- the transfer at this place of the list is out, with this buffer
pub record MayReturn (core : Core) (at number : ℕ) : Type 0 where
  pub within : at < length core.flying
  pub out : IsOut core.pool number

-- The note's buffer is back and the disk's notes know how it ended; a disk whose note failed is wanted missing.
abbrev pub NoteWriteEnds : Bool → Core → ℕ → ℕ → Buffer → Core → Type 0
NoteWriteEnds true old at disk buf new = new ≡ record (with_return old at buf) { cache = after_note_end old.cache disk true }
NoteWriteEnds false old at disk buf new = LosesDisk disk old.status new.status × (new ≡ record (with_return old at buf) { cache = after_note_end old.cache disk false; status = new.status })

-- The buffer of the update's write is back, the update knows how it ended, and the next status goes to the other slot where this one was written.
pub record StatusWriteEnds (ok : Bool) (old : Core) (at disk : ℕ) (buf : Buffer) (new : Core) : Type 0 where
  pub wants : WantsAtEnd disk ok old.status.wanted new.status.wanted
  pub ended : seen new.status ≡ after_end (seen old.status) disk ok new.status.wanted
  pub flips : FlipsIf ok disk old.homes new.homes
  pub is : new ≡ record (with_return old at buf) { status = new.status; homes = new.homes }
