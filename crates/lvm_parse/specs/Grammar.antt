-- The lines of the language: each rule says what follows the line's first word.
use Rattle.std.specs.Prelude.{ℕ, if◌then◌else◌, List, [], ◌∷◌, Option, Some, None, unwrap_or, Result, Ok, codes, bytes_eq}
use Rattle.lvm_num.specs.declared.descriptor.Mode.TheVariants as mode
use Rattle.lvm_num.specs.declared.descriptor.Policy.TheVariants as policy
use Rattle.lvm_parse.specs.declared.command.Command.{Command}
use Rattle.lvm_parse.specs.declared.command.Command.TheVariants as command
use Rattle.lvm_parse.specs.declared.rest.Misfit.{Misfit}
use Rattle.lvm_parse.specs.declared.chosen.MkvgOptions.{MkvgOptions}
use Rattle.lvm_parse.specs.declared.chosen.MklvOptions.{MklvOptions}
use Rattle.lvm_parse.specs.Options.{mkvg_choice, no_mkvg_options, mklv_choice, no_mklv_options}
use Rattle.lvm_parse.specs.Bytes.{is_remark, unreadable_at}
use Rattle.lvm_parse.specs.Line.{WordAt, Left, left_at}
use Rattle.lvm_parse.specs.Words.{partition_count_in, turns_in, copy_count_in, word_in, name_in, disk_in, other_disk_in, switch_in}
use Rattle.lvm_parse.specs.Reading.{misfit, then_, next_column, operand, option, ends, last, is_next, blocks, last_blocks, options, required, disks}

-- ---- requests

-- `rd DISK BLOCK COUNT`
abbrev pub rd_disk : Left → Result Command Misfit
rd_disk l = then_ (operand disk_in l) (λ disk. then_ (last_blocks disk.1) (λ range. Ok (command.RawRd disk.0 range.at range.count)))

-- `rd NAME BLOCK COUNT`
abbrev pub rd_volume : Left → Result Command Misfit
rd_volume l = then_ (operand name_in l) (λ name. then_ (last_blocks name.1) (λ range. Ok (command.Rd name.0 range.at range.count)))

-- a DISK is no NAME
abbrev pub rd : Left → Result Command Misfit
rd l = if is_next disk_in l then rd_disk l else rd_volume l

-- `wr DISK BLOCK COUNT WORD`
abbrev pub wr_disk : Left → Result Command Misfit
wr_disk l = then_ (operand disk_in l) (λ disk. then_ (blocks disk.1) (λ range. then_ (last word_in range.1) (λ word. Ok (command.RawWr disk.0 range.0.at range.0.count word))))

-- `wr NAME BLOCK COUNT WORD`
abbrev pub wr_volume : Left → Result Command Misfit
wr_volume l = then_ (operand name_in l) (λ name. then_ (blocks name.1) (λ range. then_ (last word_in range.1) (λ word. Ok (command.Wr name.0 range.0.at range.0.count word))))

abbrev pub wr : Left → Result Command Misfit
wr l = if is_next disk_in l then wr_disk l else wr_volume l

-- `post NAME BLOCK COUNT WORD`
abbrev pub post : Left → Result Command Misfit
post l = then_ (operand name_in l) (λ name. then_ (blocks name.1) (λ range. then_ (last word_in range.1) (λ word. Ok (command.Post name.0 range.0.at range.0.count word))))

-- `wait`
abbrev pub wait : Left → Result Command Misfit
wait l = ends l command.Wait

-- `step TURNS`
abbrev pub step : Left → Result Command Misfit
step l = then_ (last turns_in l) (λ turns. Ok (command.Step turns))

-- ---- disks

-- `fail DISK`
abbrev pub fail : Left → Result Command Misfit
fail l = then_ (last disk_in l) (λ disk. Ok (command.Fail disk))

-- `heal DISK`
abbrev pub heal : Left → Result Command Misfit
heal l = then_ (last disk_in l) (λ disk. Ok (command.Heal disk))

-- `lspv DISK`
abbrev pub lspv : Left → Result Command Misfit
lspv l = then_ (last disk_in l) (λ disk. Ok (command.Lspv disk))

-- `cut [WORD]`; the word is 0 where it isn't given
abbrev pub cut_of : List WordAt → Left → Result Command Misfit
cut_of [] l = Ok (command.Cut 0)
cut_of (w ∷ words) l = then_ (last word_in l) (λ word. Ok (command.Cut word))

abbrev pub cut : Left → Result Command Misfit
cut l = cut_of l.words l

-- ---- groups

-- what follows the options of `mkvg`
abbrev pub new_group : MkvgOptions → Left → Result Command Misfit
new_group o l = then_ (required o.name l) (λ name. then_ (disks [] l) (λ disks. Ok (command.Mkvg o.force name o.mib disks)))

-- `mkvg [-f] -y NAME [-s MIB] DISK ..`
abbrev pub mkvg : Left → Result Command Misfit
mkvg l = then_ (options mkvg_choice no_mkvg_options l) (λ o. new_group o.0 o.1)

-- `varyonvg [-n] NAME`
abbrev pub varyonvg : Left → Result Command Misfit
varyonvg l = then_ (last name_in (option (codes "-n") l).1) (λ name. Ok (command.Varyon name))

-- `varyoffvg NAME`
abbrev pub varyoffvg : Left → Result Command Misfit
varyoffvg l = then_ (last name_in l) (λ name. Ok (command.Varyoff name))

-- `lsvg [-l] NAME`
abbrev pub lsvg : Left → Result Command Misfit
lsvg l = let volumes = option (codes "-l") l in then_ (last name_in volumes.1) (λ name. Ok (command.Lsvg volumes.0 name))

-- what follows `chvg -Q`: whether checking is on, and the group
abbrev pub chvg_quorum : Left → Result Command Misfit
chvg_quorum l = then_ (operand switch_in l) (λ on. then_ (last name_in on.1) (λ name. Ok (command.ChvgQuorum on.0 name)))

-- `chvg -B NAME`
abbrev pub chvg_big : Left → Result Command Misfit
chvg_big l = let big = option (codes "-B") l in if big.0 then then_ (last name_in big.1) (λ name. Ok (command.ChvgBig name)) else misfit (next_column big.1)

-- `chvg -Q V NAME` and `chvg -B NAME`
abbrev pub chvg : Left → Result Command Misfit
chvg l = let quorum = option (codes "-Q") l in if quorum.0 then chvg_quorum quorum.1 else chvg_big quorum.1

-- what follows the name of `reducevg`
abbrev pub leaving : List ℕ → Left → Result Command Misfit
leaving name l = then_ (disks [] l) (λ disks. Ok (command.Reducevg name disks))

-- `reducevg NAME DISK ..`
abbrev pub reducevg : Left → Result Command Misfit
reducevg l = then_ (operand name_in l) (λ name. leaving name.0 name.1)

-- ---- volumes

-- what follows the options of `mklv`; one copy, mode active and `p` where they aren't given
abbrev pub new_volume : MklvOptions → Left → Result Command Misfit
new_volume o l = then_ (required o.name l) (λ name. then_ (operand name_in l) (λ group. then_ (last partition_count_in group.1) (λ lps. Ok (command.Mklv name (unwrap_or o.copies 1) (unwrap_or o.mode mode.Active) (unwrap_or o.policy policy.Parallel) group.0 lps))))

-- `mklv -y NAME [-c N] [-w n, y or a] [-d p, s, ps or pr] NAME LPS`
abbrev pub mklv : Left → Result Command Misfit
mklv l = then_ (options mklv_choice no_mklv_options l) (λ o. new_volume o.0 o.1)

-- `rmlv [-f] NAME`
abbrev pub rmlv : Left → Result Command Misfit
rmlv l = then_ (last name_in (option (codes "-f") l).1) (λ name. Ok (command.Rmlv name))

-- `mklvcopy NAME N`
abbrev pub mklvcopy : Left → Result Command Misfit
mklvcopy l = then_ (operand name_in l) (λ name. then_ (last copy_count_in name.1) (λ copies. Ok (command.Mklvcopy name.0 copies)))

-- `rmlvcopy NAME N`
abbrev pub rmlvcopy : Left → Result Command Misfit
rmlvcopy l = then_ (operand name_in l) (λ name. then_ (last copy_count_in name.1) (λ copies. Ok (command.Rmlvcopy name.0 copies)))

-- what follows the option of `splitlvcopy`: the name of the volume that is made, the volume that is split, and the copies that it keeps
abbrev pub split_of : Left → Result Command Misfit
split_of l = then_ (operand name_in l) (λ new. then_ (operand name_in new.1) (λ name. then_ (last copy_count_in name.1) (λ copies. Ok (command.Splitlvcopy new.0 name.0 copies))))

-- `splitlvcopy -y NEW NAME N`
abbrev pub splitlvcopy : Left → Result Command Misfit
splitlvcopy l = let named = option (codes "-y") l in if named.0 then split_of named.1 else misfit (next_column named.1)

-- what follows the option of `migratepv`, which names this volume or none: the disk that is left, and another one
abbrev pub moved_between : Option (List ℕ) → Left → Result Command Misfit
moved_between volume l = then_ (operand disk_in l) (λ from. then_ (last (other_disk_in from.0) from.1) (λ to. Ok (command.Migratepv volume from.0 to)))

-- `migratepv -l NAME DISK DISK`
abbrev pub moved_of : Left → Result Command Misfit
moved_of l = then_ (operand name_in l) (λ name. moved_between (Some name.0) name.1)

-- `migratepv [-l NAME] DISK DISK`
abbrev pub migratepv : Left → Result Command Misfit
migratepv l = let named = option (codes "-l") l in if named.0 then moved_of named.1 else moved_between None named.1

-- `syncvg -v NAME`
abbrev pub sync_group : Left → Result Command Misfit
sync_group l = let group = option (codes "-v") l in if group.0 then then_ (last name_in group.1) (λ name. Ok (command.SyncGroup name)) else misfit (next_column group.1)

-- `syncvg -l NAME` and `syncvg -v NAME`
abbrev pub syncvg : Left → Result Command Misfit
syncvg l = let volume = option (codes "-l") l in if volume.0 then then_ (last name_in volume.1) (λ name. Ok (command.SyncVolume name)) else sync_group volume.1

-- `lslv -m NAME`
abbrev pub lslv : Left → Result Command Misfit
lslv l = let map = option (codes "-m") l in if map.0 then then_ (last name_in map.1) (λ name. Ok (command.Lslv name)) else misfit (next_column map.1)

-- ---- lines

-- a row of the language: a first word, and what follows it
pub record Row : Type 0 where
  pub word : List ℕ
  pub reads : Left → Result Command Misfit

abbrev pub row : List ℕ → (Left → Result Command Misfit) → Row
row word reads = record { word = word; reads = reads }

abbrev pub rows_of_disks : List Row
rows_of_disks = row (codes "lspv") lspv ∷ row (codes "fail") fail ∷ row (codes "heal") heal ∷ row (codes "cut") cut ∷ []

abbrev pub rows_of_requests : List Row
rows_of_requests = row (codes "rd") rd ∷ row (codes "wr") wr ∷ row (codes "post") post ∷ row (codes "wait") wait ∷ row (codes "step") step ∷ rows_of_disks

abbrev pub rows_of_volumes : List Row
rows_of_volumes = row (codes "mklv") mklv ∷ row (codes "rmlv") rmlv ∷ row (codes "mklvcopy") mklvcopy ∷ row (codes "rmlvcopy") rmlvcopy ∷ row (codes "splitlvcopy") splitlvcopy ∷ row (codes "migratepv") migratepv ∷ row (codes "syncvg") syncvg ∷ row (codes "lslv") lslv ∷ rows_of_requests

abbrev pub rows_of_groups : List Row
rows_of_groups = row (codes "varyonvg") varyonvg ∷ row (codes "varyoffvg") varyoffvg ∷ row (codes "lsvg") lsvg ∷ row (codes "chvg") chvg ∷ rows_of_volumes

-- the whole language
abbrev pub rows : List Row
rows = row (codes "mkvg") mkvg ∷ row (codes "reducevg") reducevg ∷ rows_of_groups

-- what follows a first word, which begins at this column, by the row of this word; any other isn't in the language
abbrev pub rule : List Row → List ℕ → ℕ → Left → Result Command Misfit
rule [] word column l = misfit column
rule (r ∷ rows) word column l = if bytes_eq word r.word then r.reads l else rule rows word column l

-- a line without a word, and a remark, ask for nothing
abbrev pub line_of_words : List WordAt → ℕ → Result (Option Command) Misfit
line_of_words [] end = Ok None
line_of_words (w ∷ words) end = if is_remark w.bytes then Ok None else then_ (rule rows w.bytes w.column (record { words = words; end = end })) (λ c. Ok (Some c))

abbrev pub readable : Option ℕ → Left → Result (Option Command) Misfit
readable (Some column) l = misfit column
readable None l = line_of_words l.words l.end

-- what a line, without its line feed, asks for; or the column of its first word that doesn't fit, or
-- behind the line where a word is lacking
abbrev pub line_of : List ℕ → Result (Option Command) Misfit
line_of line = readable (unreadable_at line) (left_at 1 line)
