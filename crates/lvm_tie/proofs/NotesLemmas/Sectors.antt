-- The sector of a note is one of 512 bytes.
use Rattle.std.proofs.Common.{◌≡◌, ℕ, zero, suc, ◌-◌, ◌*◌, ◌<◌, List, [], ◌∷◌, ◌++◌, length, replicate, arith}
use Rattle.std.specs.Prelude.{slice_index, flat_map}
use Rattle.std.specs.Int.{w16, w32, w64, to_be_bytes, byte_at, bytes_high_first}
use Rattle.std.proofs.lemmas.List.{length-append, length-replicate}
use Rattle.lvm_num.specs.declared.record.NoteEntry.{NoteEntry}
use Rattle.lvm_num.specs.Buffer.{IsSector}
use Rattle.lvm_num.specs.Note.{Noted, IsNote, entry_bytes, note_bytes}
use Rattle.lvm_num.proofs.NoteLemmas.{length-entries}

abbrev AreBytes : List ℕ → Type 0
AreBytes l = (i : ℕ) → slice_index l i < 256

none_are : AreBytes []
none_are zero = omega arith
none_are (suc i) = omega arith

both_are : (a b : List ℕ) → AreBytes a → AreBytes b → AreBytes (a ++ b)
both_are [] b first second i = second i
both_are (x ∷ xs) b first second zero = first 0
both_are (x ∷ xs) b first second (suc i) = both_are xs b (λ j. first (suc j)) second i

zeros_are : (n : ℕ) → AreBytes (replicate n 0)
zeros_are zero i = none_are i
zeros_are (suc n) zero = omega arith
zeros_are (suc n) (suc i) = zeros_are n i

byte_is : (k n : ℕ) → byte_at k n < 256
byte_is zero n = omega arith
byte_is (suc k) n = omega arith

number_is : (k n : ℕ) → AreBytes (bytes_high_first k n)
number_is zero n i = none_are i
number_is (suc k) n zero = byte_is k n
number_is (suc k) n (suc i) = number_is k n i

entry_is : (e : NoteEntry) → AreBytes (entry_bytes e)
entry_is e = both_are (to_be_bytes w16 e.lv ++ replicate 2 0) (to_be_bytes w32 e.group) (both_are (to_be_bytes w16 e.lv) (replicate 2 0) (number_is 2 e.lv) (zeros_are 2)) (number_is 4 e.group)

entries_are : (es : List NoteEntry) → AreBytes (flat_map entry_bytes es)
entries_are [] = none_are
entries_are (e ∷ es) = both_are (entry_bytes e) (flat_map entry_bytes es) (entry_is e) (entries_are es)

pub note_is_sector : (note : Noted) → IsNote note → IsSector (note_bytes note)
note_is_sector note is =
    let stamp : List ℕ = to_be_bytes w64 note.stamp in
    let entries : List ℕ = flat_map entry_bytes note.entries in
    let zeros : List ℕ = replicate (496 - 8 * length note.entries) 0 in
    record {
      long =
          let many = length-entries note.entries in
          let none : length (replicate {A = ℕ} (496 - 8 * length note.entries) 0) ≡ 496 - 8 * length note.entries = length-replicate {A = ℕ} (496 - 8 * length note.entries) 0 in
          let most = is.count in
          omega (arith, length-append ((stamp ++ entries) ++ zeros) stamp, length-append (stamp ++ entries) zeros, length-append stamp entries, many, none, most);
      bytes = both_are ((stamp ++ entries) ++ zeros) stamp (both_are (stamp ++ entries) zeros (both_are stamp entries (number_is 8 note.stamp) (entries_are note.entries)) (zeros_are (496 - 8 * length note.entries))) (number_is 8 note.stamp);
    }
