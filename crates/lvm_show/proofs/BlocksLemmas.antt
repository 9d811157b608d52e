-- Blocks that one word fills.
use Rattle.std.proofs.Common.{◌≡◌, ℕ, zero, suc, lit<, [], ◌∷◌, ◌<◌, Bool, true, false, if◌then◌else◌, List, length, take, replicate, get_or, refl, sym, ◌∙◌, ap}
use Rattle.std.specs.List.{concat}
use Rattle.std.specs.Int.{w64, from_be_bytes}
use Rattle.std.proofs.lemmas.Slice.Eq.{bytes_eq-Decides}
use Rattle.std.proofs.lemmas.Nat.{be_bytes_8}
use Rattle.std.specs.Bool.{Decides}
use Rattle.lvm_num.specs.Word.{fill_of}
use Rattle.lvm_num.proofs.WordLemmas.{take-fill_of}
use Rattle.lvm_show.specs.Blocks.{is_filled}

-- a block that a word fills repeats its first eight bytes
pub filled_repeats : (word : ℕ) (block : List ℕ) → block ≡ fill_of word → block ≡ concat (replicate 64 (take 8 block))
unfolding fill_of
filled_repeats word block is = is ∙ ap (λ (b : List ℕ). concat (replicate 64 b)) (sym (ap (take 8) is ∙ take-fill_of word))

-- and one that does so is filled by the word that they are
pub repeats_filled : (block : List ℕ) → length (take 8 block) ≡ 8 → ((i : ℕ) → get_or (take 8 block) i 0 < 256) → block ≡ concat (replicate 64 (take 8 block)) → block ≡ fill_of (from_be_bytes w64 (take 8 block))
unfolding fill_of
repeats_filled block long bytes is = is ∙ ap (λ (b : List ℕ). concat (replicate 64 b)) (sym (be_bytes_8 (take 8 block) (from_be_bytes w64 (take 8 block)) long bytes refl))

-- a block that no word fills is shown whole
pub shown_whole : (block : List ℕ) → (block ≡ concat (replicate 64 (take 8 block)) → ⊥) → block ≡ (if is_filled block then take 8 block else block)
shown_whole block other = go (is_filled block) (bytes_eq-Decides block (concat (replicate 64 (take 8 block))))
  where
    go : (t : Bool) → Decides t (block ≡ concat (replicate 64 (take 8 block))) → block ≡ (if t then take 8 block else block)
    go true decides = absurd (other (decides.0 refl))
    go false decides = refl

-- and one that a word fills by its first eight bytes
pub shown_short : (block : List ℕ) → block ≡ concat (replicate 64 (take 8 block)) → take 8 block ≡ (if is_filled block then take 8 block else block)
shown_short block is = ap (λ (t : Bool). if t then take 8 block else block) (sym ((bytes_eq-Decides block (concat (replicate 64 (take 8 block)))).1 is))

pub front_bytes : (n : ℕ) (bytes : List ℕ) (i : ℕ) → ((i : ℕ) → get_or bytes i 0 < 256) → get_or (take n bytes) i 0 < 256
front_bytes zero bytes i fits = lit< tt
front_bytes (suc n) [] i fits = lit< tt
front_bytes (suc n) (b ∷ bytes) zero fits = fits 0
front_bytes (suc n) (b ∷ bytes) (suc i) fits = front_bytes n bytes i (λ j. fits (suc j))
