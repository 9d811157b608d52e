-- Words that are drawn from a generator.
use Rattle.std.specs.Prelude.{ℕ, ◌+◌, ◌%◌, ◌==◌, Bool, zero, suc}
use Rattle.rand_core.specs.Pcg32Seed.{pcg32_seed}
use Rattle.rand_pcg.specs.Lcg.{Lcg}
use Rattle.rand_pcg.specs.Pcg.{pcg32, pcg32_of_seed}
use Rattle.lvm_workers.specs.declared.words.Draw.{Draw}

-- the generator that a number seeds
abbrev pub seeded : ℕ → Lcg
seeded seed = pcg32_of_seed (pcg32_seed 16 seed)

-- its next word
abbrev pub word_at : Lcg → ℕ
word_at g = (pcg32 g).0

-- it has given one word more
abbrev pub after_word : Lcg → Lcg
after_word g = (pcg32 g).1

-- its next three words, of which a request is made
abbrev pub draw_at : Lcg → Draw
draw_at g = record { at = word_at g; count = word_at (after_word g); kind = word_at (after_word (after_word g)) }

-- it has given three words more
abbrev pub after_draw : Lcg → Lcg
after_draw g = after_word (after_word (after_word g))

-- it has given the words of so many requests
abbrev pub after_draws : ℕ → Lcg → Lcg
after_draws zero g = g
after_draws (suc n) g = after_draw (after_draws n g)

-- it is a write
abbrev pub is_write : Draw → Bool
is_write d = d.kind % 2 == 1

-- how many blocks it has where no border is near: 1 to 8
abbrev pub blocks_of : Draw → ℕ
blocks_of d = 1 + d.count % 8
