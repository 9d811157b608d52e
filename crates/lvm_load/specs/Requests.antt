-- A request of a volume that is drawn.
use Rattle.std.specs.Prelude.{ℕ, ◌+◌, ◌-◌, ◌*◌, ◌%◌, ◌^◌, min, if◌then◌else◌, List, Option, Some, None}
use Rattle.lvm_workers.specs.declared.words.Draw.{Draw}
use Rattle.lvm_workers.specs.Draws.{blocks_of, is_write}
use Rattle.lvm_path.specs.declared.ask.Ask.{Ask}
use Rattle.lvm_path.specs.declared.ask.Ask.TheVariants.{Read, Write}
use Rattle.lvm_posts.specs.Pieces.{filled}

-- its first block, in a volume of so many
abbrev pub first_block : ℕ → Draw → ℕ
first_block blocks d = d.at % blocks

-- how many it has, none behind the end of its track group
abbrev pub block_count : ℕ → Draw → ℕ
block_count blocks d = min (blocks_of d) (256 - first_block blocks d % 256)

-- what it asks for
abbrev pub ask_of : ℕ → ℕ → Draw → Ask
ask_of lv blocks d = if is_write d then Write lv (first_block blocks d) (block_count blocks d) else Read lv (first_block blocks d) (block_count blocks d)

-- the word of a client's request, so far behind that of its first
abbrev pub word_of : ℕ → ℕ → ℕ
word_of client offset = (client * 2 ^ 32 + offset) % 2 ^ 64

-- what it writes, if it is a write: its first block is filled with the word, each other with the next
abbrev pub bytes_of : ℕ → ℕ → Draw → Option (List ℕ)
bytes_of word blocks d = if is_write d then Some (filled word 0 (block_count blocks d)) else None
