-- A script of requests that are drawn.
use Rattle.std.specs.Prelude.{◌≡◌, ℕ, zero, suc, ◌+◌, ◌-◌, ◌%◌, min, false, if◌then◌else◌, List, ◌++◌, Option, length, replicate, codes}
use Rattle.std.specs.Fmt.{decimal, digits}
use Rattle.lvm_io.specs.Stream.{WhereTold}
use Rattle.lvm_workers.specs.declared.words.Draw.{Draw}
use Rattle.lvm_workers.specs.Draws.{after_draws, blocks_of, draw_at, is_write, seeded}

-- a word in 16 lower-case hexadecimal digits
abbrev pub hex_word : ℕ → List ℕ
hex_word word = replicate (16 - length (digits 16 false word)) 48 ++ digits 16 false word

-- the blocks of the volume that the script makes: six partitions of 2,048
abbrev pub script_blocks : ℕ
script_blocks = 12288

-- the first block of a request
abbrev pub at_of : Draw → ℕ
at_of d = d.at % script_blocks

-- how many blocks it has, none behind the end of the volume
abbrev pub count_of : Draw → ℕ
count_of d = min (blocks_of d) (script_blocks - at_of d)

-- the first block and how many there are
abbrev pub range_text : Draw → List ℕ
range_text d = decimal (at_of d) ++ codes " " ++ decimal (count_of d)

-- the line of a request: a write of its own number, or a read
abbrev pub line_text : ℕ → Draw → List ℕ
line_text number d =
    if is_write d then codes "wr genlv " ++ range_text d ++ codes " " ++ hex_word number ++ codes "\n"
    else codes "rd genlv " ++ range_text d ++ codes "\n"

-- the lines that make the group and its volume
abbrev pub head_text : List ℕ
head_text = codes "mkvg -y genvg -s 1 hdisk0 hdisk1 hdisk2\nmklv -y genlv -c 2 -w a genvg 6\n"

-- the script with so many requests, numbered from 1
unfoldable pub script_text : ℕ → ℕ → List ℕ
script_text seed zero = head_text
script_text seed (suc n) = script_text seed n ++ line_text (n + 1) (draw_at (after_draws n (seeded seed)))

-- a front of the text was written, and the rest of it is gathered
pub record WritesUpTo (text rest before after : List ℕ) : Type 0 where
  pub written : List ℕ
  pub behind : after ≡ before ++ written
  pub all : text ≡ written ++ rest

-- so it is where it is told what is written
abbrev pub IsWrittenUpTo : List ℕ → List ℕ → Option (List ℕ) → Option (List ℕ) → Type 0
IsWrittenUpTo text rest before after = WhereTold before after (WritesUpTo text rest)
