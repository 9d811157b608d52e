-- A note's sector, entry by entry.
use Rattle.std.proofs.Common.{◌≡◌, ℕ, ◌+◌, ◌-◌, ◌*◌, ◌<◌, ◌≤◌, List, [], ◌∷◌, ◌++◌, append-nil, append_assoc, length, get_or, take, drop, replicate, sym, ap, ◌∙◌, arith}
use Rattle.std.specs.Prelude.{flat_map}
use Rattle.std.specs.Int.{w64, to_be_bytes}
use Rattle.std.proofs.lemmas.List.{take_at, drop_at, drop-drop, take_all, drop_all, take_more, length-append, length-replicate, length-take, length-take-le, drop-replicate, replicate-append-replicate}
use Rattle.std.proofs.lemmas.List.Concat.{flat_map-append}
use Rattle.lvm_num.specs.declared.record.NoteEntry.{NoteEntry}
use Rattle.lvm_num.specs.Note.{entry_bytes, note_bytes}
use Rattle.lvm_num.proofs.NoteLemmas.{length-entries}

-- the stamp and the first k entries, and zeros behind them
abbrev pub begun : ℕ → List NoteEntry → ℕ → List ℕ
begun stamp entries k = to_be_bytes w64 stamp ++ flat_map entry_bytes (take k entries) ++ replicate (504 - 8 * k) 0

module _ (stamp : ℕ) (entries : List NoteEntry) (k : ℕ) (fits : k ≤ length entries) (count : length entries ≤ 62) where
  long : length (to_be_bytes w64 stamp ++ flat_map entry_bytes (take k entries)) ≡ 8 + 8 * k
  long = length-append (to_be_bytes w64 stamp) (flat_map entry_bytes (take k entries)) ∙ (let size = length-entries (take k entries) in let cut = length-take-le k entries fits in omega (arith, size, cut))

pub one_more : (stamp : ℕ) (entries : List NoteEntry) (k : ℕ) (e : NoteEntry) (sector : List ℕ) → k < length entries → length entries ≤ 62
    → sector ≡ to_be_bytes w64 stamp ++ flat_map entry_bytes (take k entries) ++ replicate (504 - 8 * k) 0
    → take (8 + 8 * k) sector ++ entry_bytes (get_or entries k e) ++ drop (8 + 8 * k + 8) sector
    ≡ to_be_bytes w64 stamp ++ flat_map entry_bytes (take (k + 1) entries) ++ replicate (504 - 8 * (k + 1)) 0
one_more stamp entries k e sector lt count is =
    let front = to_be_bytes w64 stamp ++ flat_map entry_bytes (take k entries) in
    let zeros : List ℕ = replicate (504 - 8 * k) 0 in
    let own = entry_bytes (get_or entries k e) in
    let size : length (to_be_bytes w64 stamp ++ flat_map entry_bytes (take k entries)) ≡ 8 + 8 * k = long stamp entries k (omega arith) count in
    let left : 504 - 8 * k - 8 ≡ 504 - 8 * (k + 1) = omega arith in
    let before : take (8 + 8 * k) sector ≡ front = ap (take (8 + 8 * k)) is ∙ take_at front zeros (8 + 8 * k) size in
    let rest : drop (8 + 8 * k) sector ≡ replicate (504 - 8 * k) 0 = ap (drop (8 + 8 * k)) is ∙ drop_at front zeros (8 + 8 * k) size in
    let fewer : replicate (504 - 8 * k - 8) 0 ≡ replicate (504 - 8 * (k + 1)) 0 = ap (λ m. replicate m 0) left in
    let behind : drop (8 + 8 * k + 8) sector ≡ replicate (504 - 8 * (k + 1)) 0 = sym (drop-drop 8 (8 + 8 * k) sector) ∙ ap (drop 8) rest ∙ drop-replicate 8 (504 - 8 * k) 0 ∙ fewer in
    let more : flat_map entry_bytes (take (k + 1) entries) ≡ flat_map entry_bytes (take k entries) ++ own =
    ap (flat_map entry_bytes) (take_more entries k e lt) ∙ flat_map-append entry_bytes (take k entries) (get_or entries k e ∷ []) ∙ ap (λ (l : List ℕ). flat_map entry_bytes (take k entries) ++ l) (append-nil own) in
    ap (λ (l : List ℕ). take (8 + 8 * k) sector ++ own ++ l) behind
    ∙ ap (λ (l : List ℕ). l ++ own ++ replicate (504 - 8 * (k + 1)) 0) before
    ∙ ap (λ (l : List ℕ). l ++ replicate (504 - 8 * (k + 1)) 0) (append_assoc (to_be_bytes w64 stamp) (flat_map entry_bytes (take k entries)) own)
    ∙ ap (λ (l : List ℕ). to_be_bytes w64 stamp ++ l ++ replicate (504 - 8 * (k + 1)) 0) (sym more)

pub ended : (stamp : ℕ) (entries : List NoteEntry) (sector last : List ℕ) → length entries ≤ 62
    → sector ≡ to_be_bytes w64 stamp ++ flat_map entry_bytes (take (length entries) entries) ++ replicate (504 - 8 * length entries) 0
    → last ≡ to_be_bytes w64 stamp ++ drop 8 (take 8 (drop 504 sector))
    → take 504 sector ++ (last ++ drop 8 (drop 504 sector)) ≡ note_bytes (record { stamp = stamp; entries = entries })
ended stamp entries sector last count is end =
    let n = length entries in
    let front = to_be_bytes w64 stamp ++ flat_map entry_bytes (take n entries) in
    let size : length (to_be_bytes w64 stamp ++ flat_map entry_bytes (take (length entries) entries)) ≡ 8 + 8 * length entries = long stamp entries (length entries) (omega arith) count in
    let parts : 504 - 8 * n ≡ (496 - 8 * n) + 8 = omega arith in
    let split : sector ≡ (front ++ replicate (496 - 8 * n) 0) ++ replicate 8 0 =
    is ∙ ap (λ m. front ++ replicate m 0) parts ∙ ap (λ (l : List ℕ). front ++ l) (sym (replicate-append-replicate (496 - 8 * n) 8 0)) ∙ sym (append_assoc front (replicate (496 - 8 * n) 0) (replicate 8 0)) in
    let zeros : length (replicate {A = ℕ} (496 - 8 * n) 0) ≡ 496 - 8 * n = length-replicate {A = ℕ} (496 - 8 * n) 0 in
    let whole : length (front ++ replicate (496 - 8 * n) 0) ≡ 504 = length-append front (replicate (496 - 8 * n) 0) ∙ omega (arith, size, zeros, count) in
    let before : take 504 sector ≡ front ++ replicate (496 - 8 * n) 0 = ap (take 504) split ∙ take_at (front ++ replicate (496 - 8 * n) 0) (replicate 8 0) 504 whole in
    let none : drop 8 (drop 504 sector) ≡ [] = ap (λ (l : List ℕ). drop 8 (drop 504 l)) split ∙ ap (drop 8) (drop_at (front ++ replicate (496 - 8 * n) 0) (replicate 8 0) 504 whole) in
    let over : drop 8 (take 8 (drop 504 sector)) ≡ [] = drop_all 8 (take 8 (drop 504 sector)) (omega (arith, length-take 8 (drop 504 sector))) in
    let stamped : last ≡ to_be_bytes w64 stamp = end ∙ ap (λ (l : List ℕ). to_be_bytes w64 stamp ++ l) over in
    ap (λ (l : List ℕ). take 504 sector ++ (last ++ l)) none
    ∙ ap (λ (l : List ℕ). take 504 sector ++ l) (append-nil last ∙ stamped)
    ∙ ap (λ (l : List ℕ). l ++ to_be_bytes w64 stamp) before
    ∙ ap (λ (es : List NoteEntry). to_be_bytes w64 stamp ++ flat_map entry_bytes es ++ replicate (496 - 8 * n) 0 ++ to_be_bytes w64 stamp) (take_all n entries (omega arith))
