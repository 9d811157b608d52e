-- What the answers of an earlier session leave of a session between two of its calls.
use Rattle.std.proofs.Common.{◌≡◌, ◌+◌, ◌++◌, ℕ, zero, suc, List, refl, sym, ◌∙◌, ap, append_assoc}
use Rattle.std.proofs.lemmas.List.{append-nil}
use Rattle.lvm_vol.specs.Facts.{Fact}
use Rattle.lvm_vol.specs.Log.{is_open, taken_fact}
use Rattle.lvm_keeps.proofs.SoundLemmas.Telling.{open_still}
use Rattle.lvm_session.specs.State.{State, state}
use Rattle.lvm_core.specs.Sound.{IsSoundAtRest}
use Rattle.lvm_ranges.specs.passed.Posts.{Asked, takings}
use Rattle.lvm_handover.specs.Earlier.{with_taken}

-- what has landed has
pub open_with : (facts : List Fact) (first n id : ℕ) → is_open (facts ++ takings facts first n) id ≡ is_open facts id
open_with facts first zero id = ap (λ (fs : List Fact). is_open fs id) (append-nil facts)
open_with facts first (suc n) id =
    ap (λ (fs : List Fact). is_open fs id) (sym (append_assoc facts (takings facts first n) _))
    ∙ open_still (facts ++ takings facts first n) (taken_fact facts (first + n)) refl id refl ∙ open_with facts first n id

-- so a session at which nothing is under way is sound
pub resting_with : (s : State) (range : Asked) → IsSoundAtRest s → IsSoundAtRest (state s.device (with_taken range s.core))
resting_with s range sound = record {
  fitting = let f = sound.fitting in record { valid = f.valid; id = f.id; rows = f.rows; group = f.group; entries = f.entries; notes = f.notes; most = f.most; queue = f.queue; a_buffer = f.a_buffer; buffers = f.buffers; last = f.last; forgotten = f.forgotten };
  none = record { requests = sound.none.requests; copy = sound.none.copy };
  landed = λ id. open_with s.core.history.facts range.first range.pieces id ∙ sound.landed id;
  placed = sound.placed;
  buffers = sound.buffers;
  none_lost = sound.none_lost;
  quiet = λ quiet. sound.quiet (record { requests = quiet.requests; copy = quiet.copy; status = quiet.status; notes = quiet.notes; buffers = quiet.buffers });
  lit = sound.lit;
  dark = sound.dark;
  heard = sound.heard;
}
