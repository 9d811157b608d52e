-- Every column that the grammar names is one of the line's, or the one behind it.
use Rattle.std.specs.Prelude.{⊤, MatchOption, codes, bytes_eq, position, not, nat_lt, unwrap_or}
use Rattle.std.proofs.lemmas.Bool.Decides.{nat_tests}
use Rattle.std.proofs.lemmas.List.{length-take}
use Rattle.std.proofs.lemmas.List.Quantifiers.{position-Some}
use Rattle.std.proofs.Common.{◌≡◌, ℕ, ◌+◌, ◌≤◌, ◌<◌, ◌==◌, Bool, true, false, cond, List, [], ◌∷◌, ◌++◌, length, take, Option, Some, None, Result, Ok, Err, refl, sym, subst, arith, length-append}
use Rattle.lvm_num.specs.declared.descriptor.Mode.TheVariants as mode
use Rattle.lvm_num.specs.declared.descriptor.Policy.TheVariants as policy
use Rattle.lvm_parse.specs.declared.command.Command.{Command}
use Rattle.lvm_parse.specs.declared.command.Command.TheVariants as command
use Rattle.lvm_parse.specs.declared.rest.Misfit.{Misfit}
use Rattle.lvm_parse.specs.Bytes.{is_plain, is_remark, too_long_or, unreadable_at}
use Rattle.lvm_parse.specs.Line.{WordAt, Left, finished, words_from, left_at}
use Rattle.lvm_parse.specs.Words.{number_in, count_in, partition_count_in, turns_in, copy_count_in, word_in, name_in, disk_in, other_disk_in, switch_in}
use Rattle.lvm_parse.specs.declared.range.BlockRange.{BlockRange}
use Rattle.lvm_parse.specs.Reading.{misfit, then_, or_misfit, column_of, next_column, operand_of, operand, option_of, option, ends_of, ends, last, is_next, blocks, last_blocks, Choice, NoOption, Alone, Valued, options_of, options, required, further_disk, one_or_more, disks_of, disks}
use Rattle.lvm_parse.specs.Options.{mkvg_choice, no_mkvg_options, mklv_choice, no_mklv_options}
use Rattle.lvm_parse.specs.Grammar.{rd_disk, rd_volume, rd, wr_disk, wr_volume, wr, post, wait, step, fail, heal, lspv, cut_of, cut, mkvg, varyonvg, varyoffvg, lsvg, chvg_quorum, chvg_big, chvg, reducevg, mklv, rmlv, mklvcopy, rmlvcopy, split_of, splitlvcopy, moved_between, moved_of, migratepv, sync_group, syncvg, lslv, Row, rows, rule, line_of_words, readable, line_of}

-- a column from 1 to this one
abbrev pub IsIn : ℕ → ℕ → Type 0
IsIn high column = (1 ≤ column) × (column ≤ high)

-- the columns of these words
abbrev pub AreIn : ℕ → List WordAt → Type 0
AreIn high [] = ⊤
AreIn high (w ∷ ws) = IsIn high w.column × AreIn high ws

-- the columns of what is left
abbrev pub LeftIn : ℕ → Left → Type 0
LeftIn high l = AreIn high l.words × IsIn high l.end

-- the column at which the words don't fit, if they don't
abbrev pub In : {T : Type 0} → ℕ → Result T Misfit → Type 0
In high (Ok value) = ⊤
In high (Err m) = IsIn high m.column

-- ---- the words of a line

words_are_in : (column : ℕ) (word line : List ℕ) → length word < column → AreIn (column + length line) (words_from column word line)
words_are_in column [] [] begun = tt
words_are_in column (c ∷ word) [] begun = ((omega arith, omega arith), tt)
words_are_in column word (b ∷ line) begun =
    at (b == 32) (subst (λ (n : ℕ). AreIn n (words_from (column + 1) [] line)) same (words_are_in (column + 1) [] line (omega arith)))
    (subst (λ (n : ℕ). AreIn n (words_from (column + 1) (word ++ b ∷ []) line)) same (words_are_in (column + 1) (word ++ b ∷ []) line (omega (arith, length-append word (b ∷ [])))))
  where
    same : column + 1 + length line ≡ column + length (b ∷ line)
    same = omega arith

    ended : (w : List ℕ) → length w < column → AreIn (column + length (b ∷ line)) (words_from (column + 1) [] line) → AreIn (column + length (b ∷ line)) (finished column w (words_from (column + 1) [] line))
    ended [] few behind = behind
    ended (c ∷ w) few behind = ((omega arith, omega arith), behind)

    at : (t : Bool) → AreIn (column + length (b ∷ line)) (words_from (column + 1) [] line) → AreIn (column + length (b ∷ line)) (words_from (column + 1) (word ++ b ∷ []) line) → AreIn (column + length (b ∷ line)) (cond t (finished column word (words_from (column + 1) [] line)) (words_from (column + 1) (word ++ b ∷ []) line))
    at true behind further = ended word begun behind
    at false behind further = further

-- ---- what is read

next_is_in : (high : ℕ) (ws : List WordAt) (end : ℕ) → AreIn high ws → IsIn high end → IsIn high (column_of ws end)
next_is_in high [] end words ends = ends
next_is_in high (w ∷ ws) end words ends = words.0

operand_then : {T B : Type 0} (high : ℕ) (meaning : List ℕ → Option T) (l : Left) → LeftIn high l → (next : T × Left → Result B Misfit) → ((r : T × Left) → LeftIn high r.1 → In high (next r)) → In high (then_ (operand meaning l) next)
unfolding operand
operand_then {T} {B} high meaning l within next more = at l.words within.0
  where
    behind : (ws : List WordAt) (column : ℕ) (o : Option T) → AreIn high ws → IsIn high column → In high (then_ {A = T × Left} (then_ {A = T} (or_misfit o column) (λ value. Ok (value, record { words = ws; end = l.end }))) next)
    behind ws column None words own = own
    behind ws column (Some value) words own = more (value, record { words = ws; end = l.end }) (words, within.1)

    at : (ws : List WordAt) → AreIn high ws → In high (then_ {A = T × Left} (operand_of meaning ws l.end) next)
    at [] words = within.1
    at (w ∷ ws) words = behind ws w.column (meaning w.bytes) words.1 words.0

ends_in : {T : Type 0} (high : ℕ) (l : Left) (value : T) → LeftIn high l → In high (ends l value)
unfolding ends
ends_in {T} high l value within = at l.words within.0
  where
    at : (ws : List WordAt) → AreIn high ws → In high (ends_of ws value)
    at [] words = tt
    at (w ∷ ws) words = words.0

ends_then : {T B : Type 0} (high : ℕ) (l : Left) (value : T) → LeftIn high l → (next : T → Result B Misfit) → ((v : T) → In high (next v)) → In high (then_ (ends l value) next)
unfolding ends
ends_then {T} {B} high l value within next more = at l.words within.0
  where
    at : (ws : List WordAt) → AreIn high ws → In high (then_ (ends_of ws value) next)
    at [] words = more value
    at (w ∷ ws) words = words.0

-- the last operand, and what it makes
last_then : {T B : Type 0} (high : ℕ) (meaning : List ℕ → Option T) (l : Left) → LeftIn high l → (make : T → B) → In high (then_ (last meaning l) (λ value. Ok (make value)))
unfolding operand ends
last_then {T} {B} high meaning l within make = at l.words within.0
  where
    made : Result T Misfit → Result B Misfit
    made r = then_ r (λ value. Ok (make value))

    ended : (ws : List WordAt) (value : T) → AreIn high ws → In high (then_ {B = B} (ends_of ws value) (λ value. Ok (make value)))
    ended [] value words = tt
    ended (w ∷ ws) value words = words.0

    behind : (ws : List WordAt) (column : ℕ) (o : Option T) → AreIn high ws → IsIn high column → In high (then_ {A = T} {B = B} (then_ {A = T × Left} (then_ {A = T} (or_misfit o column) (λ value. Ok (value, record { words = ws; end = l.end }))) (λ value. ends_of value.1.words value.0)) (λ value. Ok (make value)))
    behind ws column None words own = own
    behind ws column (Some value) words own = ended ws value words

    at : (ws : List WordAt) → AreIn high ws → In high (then_ {A = T} {B = B} (then_ {A = T × Left} (operand_of meaning ws l.end) (λ value. ends_of value.1.words value.0)) (λ value. Ok (make value)))
    at [] words = within.1
    at (w ∷ ws) words = behind ws w.column (meaning w.bytes) words.1 words.0

option_is_in : (high : ℕ) (name : List ℕ) (l : Left) → LeftIn high l → LeftIn high (option name l).1
unfolding option
option_is_in high name l within = at l.words within.0
  where
    chosen : (t : Bool) (w : WordAt) (ws : List WordAt) → AreIn high (w ∷ ws) → LeftIn high (cond {A = Bool × Left} t (true, record { words = ws; end = l.end }) (false, record { words = w ∷ ws; end = l.end })).1
    chosen true w ws words = (words.1, within.1)
    chosen false w ws words = (words, within.1)

    at : (ws : List WordAt) → AreIn high ws → LeftIn high (option_of name ws l.end).1
    at [] words = (tt, within.1)
    at (w ∷ ws) words = chosen (bytes_eq w.bytes name) w ws words

options_then : {O B : Type 0} (high : ℕ) (choice : O → List ℕ → Choice O) (o : O) (l : Left) → LeftIn high l → (next : O × Left → Result B Misfit) → ((r : O × Left) → LeftIn high r.1 → In high (next r)) → In high (then_ (options choice o l) next)
unfolding options
options_then {O} {B} high choice o l within next more = at o l.words within.0
  where
    at : (p : O) (ws : List WordAt) → AreIn high ws → In high (then_ {A = O × Left} (options_of choice p ws l.end) next)
    at p [] words = more (p, record { words = []; end = l.end }) (tt, within.1)
    at p (w ∷ []) words = one (choice p w.bytes)
      where
        one : (k : Choice O) → In high (then_ {A = O × Left} (elim k as (λ _. Result (O × Left) Misfit) [ NoOption ↦ Ok (p, record { words = w ∷ []; end = l.end }) | Alone with ↦ Ok (with, record { words = []; end = l.end }) | Valued read ↦ misfit l.end ]) next)
        one NoOption = more (p, record { words = w ∷ []; end = l.end }) (words, within.1)
        one (Alone with) = more (with, record { words = []; end = l.end }) (tt, within.1)
        one (Valued read) = within.1
    at p (w ∷ v ∷ ws) words = two (choice p w.bytes) (λ q. at q (v ∷ ws) words.1) (λ q. at q ws words.1.1)
      where
        value : (r : Option O) → ((q : O) → In high (then_ {A = O × Left} (options_of choice q ws l.end) next)) → In high (then_ {A = O × Left} (then_ (or_misfit r v.column) (λ with. options_of choice with ws l.end)) next)
        value None valued = words.1.0
        value (Some with) valued = valued with

        two : (k : Choice O) → ((q : O) → In high (then_ {A = O × Left} (options_of choice q (v ∷ ws) l.end) next)) → ((q : O) → In high (then_ {A = O × Left} (options_of choice q ws l.end) next)) → In high (then_ {A = O × Left} (elim k as (λ _. Result (O × Left) Misfit) [ NoOption ↦ Ok (p, record { words = w ∷ v ∷ ws; end = l.end }) | Alone with ↦ options_of choice with (v ∷ ws) l.end | Valued read ↦ then_ (or_misfit (read v.bytes) v.column) (λ with. options_of choice with ws l.end) ]) next)
        two NoOption alone valued = more (p, record { words = w ∷ v ∷ ws; end = l.end }) (words, within.1)
        two (Alone with) alone valued = alone with
        two (Valued read) alone valued = value (read v.bytes) valued

required_then : {T B : Type 0} (high : ℕ) (value : Option T) (l : Left) → LeftIn high l → (next : T → Result B Misfit) → ((v : T) → In high (next v)) → In high (then_ (required value l) next)
required_then high None l within next more = next_is_in high l.words l.end within.0 within.1
required_then high (Some value) l within next more = more value

disks_then : {B : Type 0} (high : ℕ) (before : List ℕ) (l : Left) → LeftIn high l → (next : List ℕ → Result B Misfit) → ((ds : List ℕ) → In high (next ds)) → In high (then_ (disks before l) next)
unfolding disks
disks_then {B} high before l within next more = at before l.words within.0
  where
    some : (ds : List ℕ) → In high (then_ (one_or_more ds l.end) next)
    some [] = within.1
    some (d ∷ ds) = more (d ∷ ds)

    at : (ds : List ℕ) (ws : List WordAt) → AreIn high ws → In high (then_ {A = List ℕ} (disks_of ds ws l.end) next)
    at ds [] words = some ds
    at ds (w ∷ ws) words = further (further_disk ds w.bytes) (λ disk. at (ds ++ disk ∷ []) ws words.1)
      where
        further : (o : Option ℕ) → ((disk : ℕ) → In high (then_ {A = List ℕ} (disks_of (ds ++ disk ∷ []) ws l.end) next)) → In high (then_ {A = List ℕ} (then_ (or_misfit o w.column) (λ disk. disks_of (ds ++ disk ∷ []) ws l.end)) next)
        further None behind = words.0
        further (Some disk) behind = behind disk

-- ---- blocks

then_then : {A B C : Type 0} (r : Result A Misfit) (f : A → Result B Misfit) (g : B → Result C Misfit) → then_ (then_ r f) g ≡ then_ r (λ v. then_ (f v) g)
then_then (Ok v) f g = refl
then_then (Err e) f g = refl

blocks_then : {B : Type 0} (high : ℕ) (l : Left) → LeftIn high l → (next : BlockRange × Left → Result B Misfit) → ((r : BlockRange × Left) → LeftIn high r.1 → In high (next r)) → In high (then_ (blocks l) next)
unfolding blocks
blocks_then {B} high l within next more =
    subst (In high) (sym (then_then (operand number_in l) of_count next)) (operand_then high number_in l within _ (λ at b.
    subst (In high) (sym (then_then (operand count_in at.1) (made at) next)) (operand_then high count_in at.1 b _ (λ count b. more (record { at = at.0; count = count.0 }, count.1) b))))
  where
    made : ℕ × Left → ℕ × Left → Result (BlockRange × Left) Misfit
    made at count = Ok (record { at = at.0; count = count.0 }, count.1)

    of_count : ℕ × Left → Result (BlockRange × Left) Misfit
    of_count at = then_ (operand count_in at.1) (made at)

last_blocks_then : {B : Type 0} (high : ℕ) (l : Left) → LeftIn high l → (make : BlockRange → B) → In high (then_ (last_blocks l) (λ range. Ok (make range)))
last_blocks_then {B} high l within make =
    subst (In high) (sym (then_then (blocks l) (λ range. ends range.1 range.0) (λ range. Ok (make range)))) (blocks_then high l within _ (λ range b. ends_then high range.1 range.0 b (λ range. Ok (make range)) (λ range. tt)))

-- ---- the rows

either_in : {T : Type 0} (high : ℕ) (t : Bool) (x y : Result T Misfit) → In high x → In high y → In high (cond t x y)
either_in high true x y a b = a
either_in high false x y a b = b

rd_disk_in : (high : ℕ) (l : Left) → LeftIn high l → In high (rd_disk l)
rd_disk_in high l b = operand_then high disk_in l b _ (λ disk b. last_blocks_then high disk.1 b (λ range. command.RawRd disk.0 range.at range.count))

rd_volume_in : (high : ℕ) (l : Left) → LeftIn high l → In high (rd_volume l)
rd_volume_in high l b = operand_then high name_in l b _ (λ name b. last_blocks_then high name.1 b (λ range. command.Rd name.0 range.at range.count))

rd_in : (high : ℕ) (l : Left) → LeftIn high l → In high (rd l)
rd_in high l b = either_in high (is_next disk_in l) (rd_disk l) (rd_volume l) (rd_disk_in high l b) (rd_volume_in high l b)

wr_disk_in : (high : ℕ) (l : Left) → LeftIn high l → In high (wr_disk l)
wr_disk_in high l b = operand_then high disk_in l b _ (λ disk b. blocks_then high disk.1 b _ (λ range b. last_then high word_in range.1 b (command.RawWr disk.0 range.0.at range.0.count)))

wr_volume_in : (high : ℕ) (l : Left) → LeftIn high l → In high (wr_volume l)
wr_volume_in high l b = operand_then high name_in l b _ (λ name b. blocks_then high name.1 b _ (λ range b. last_then high word_in range.1 b (command.Wr name.0 range.0.at range.0.count)))

wr_in : (high : ℕ) (l : Left) → LeftIn high l → In high (wr l)
wr_in high l b = either_in high (is_next disk_in l) (wr_disk l) (wr_volume l) (wr_disk_in high l b) (wr_volume_in high l b)

post_in : (high : ℕ) (l : Left) → LeftIn high l → In high (post l)
post_in high l b = operand_then high name_in l b _ (λ name b. blocks_then high name.1 b _ (λ range b. last_then high word_in range.1 b (command.Post name.0 range.0.at range.0.count)))

wait_in : (high : ℕ) (l : Left) → LeftIn high l → In high (wait l)
wait_in high l b = ends_in high l command.Wait b

step_in : (high : ℕ) (l : Left) → LeftIn high l → In high (step l)
step_in high l b = last_then high turns_in l b command.Step

mklvcopy_in : (high : ℕ) (l : Left) → LeftIn high l → In high (mklvcopy l)
mklvcopy_in high l b = operand_then high name_in l b _ (λ name b. last_then high copy_count_in name.1 b (command.Mklvcopy name.0))

rmlvcopy_in : (high : ℕ) (l : Left) → LeftIn high l → In high (rmlvcopy l)
rmlvcopy_in high l b = operand_then high name_in l b _ (λ name b. last_then high copy_count_in name.1 b (command.Rmlvcopy name.0))

split_of_in : (high : ℕ) (l : Left) → LeftIn high l → In high (split_of l)
split_of_in high l b = operand_then high name_in l b _ (λ new b. operand_then high name_in new.1 b _ (λ name b. last_then high copy_count_in name.1 b (command.Splitlvcopy new.0 name.0)))

splitlvcopy_in : (high : ℕ) (l : Left) → LeftIn high l → In high (splitlvcopy l)
splitlvcopy_in high l b = at (option (codes "-y") l) (option_is_in high (codes "-y") l b)
  where
    at : (named : Bool × Left) → LeftIn high named.1 → In high (cond named.0 (split_of named.1) (misfit (next_column named.1)))
    at (true, k) b = split_of_in high k b
    at (false, k) b = next_is_in high k.words k.end b.0 b.1

moved_between_in : (high : ℕ) (volume : Option (List ℕ)) (l : Left) → LeftIn high l → In high (moved_between volume l)
moved_between_in high volume l b = operand_then high disk_in l b _ (λ from b. last_then high (other_disk_in from.0) from.1 b (command.Migratepv volume from.0))

moved_of_in : (high : ℕ) (l : Left) → LeftIn high l → In high (moved_of l)
moved_of_in high l b = operand_then high name_in l b _ (λ name b. moved_between_in high (Some name.0) name.1 b)

migratepv_in : (high : ℕ) (l : Left) → LeftIn high l → In high (migratepv l)
migratepv_in high l b = at (option (codes "-l") l) (option_is_in high (codes "-l") l b)
  where
    at : (named : Bool × Left) → LeftIn high named.1 → In high (cond named.0 (moved_of named.1) (moved_between None named.1))
    at (true, k) b = moved_of_in high k b
    at (false, k) b = moved_between_in high None k b

lspv_in : (high : ℕ) (l : Left) → LeftIn high l → In high (lspv l)
lspv_in high l b = last_then high disk_in l b command.Lspv

fail_in : (high : ℕ) (l : Left) → LeftIn high l → In high (fail l)
fail_in high l b = last_then high disk_in l b command.Fail

heal_in : (high : ℕ) (l : Left) → LeftIn high l → In high (heal l)
heal_in high l b = last_then high disk_in l b command.Heal

cut_in : (high : ℕ) (l : Left) → LeftIn high l → In high (cut l)
cut_in high l b = at l.words
  where
    at : (ws : List WordAt) → In high (cut_of ws l)
    at [] = tt
    at (w ∷ ws) = last_then high word_in l b command.Cut

mkvg_in : (high : ℕ) (l : Left) → LeftIn high l → In high (mkvg l)
mkvg_in high l b = options_then high mkvg_choice no_mkvg_options l b _ (λ o b. required_then high o.0.name o.1 b _ (λ name. disks_then high [] o.1 b _ (λ disks. tt)))

reducevg_in : (high : ℕ) (l : Left) → LeftIn high l → In high (reducevg l)
reducevg_in high l b = operand_then high name_in l b _ (λ name b. disks_then high [] name.1 b _ (λ disks. tt))

varyonvg_in : (high : ℕ) (l : Left) → LeftIn high l → In high (varyonvg l)
varyonvg_in high l b = last_then high name_in (option (codes "-n") l).1 (option_is_in high (codes "-n") l b) command.Varyon

varyoffvg_in : (high : ℕ) (l : Left) → LeftIn high l → In high (varyoffvg l)
varyoffvg_in high l b = last_then high name_in l b command.Varyoff

lsvg_in : (high : ℕ) (l : Left) → LeftIn high l → In high (lsvg l)
lsvg_in high l b = last_then high name_in (option (codes "-l") l).1 (option_is_in high (codes "-l") l b) (command.Lsvg (option (codes "-l") l).0)

mklv_in : (high : ℕ) (l : Left) → LeftIn high l → In high (mklv l)
mklv_in high l b = options_then high mklv_choice no_mklv_options l b _ (λ o b. required_then high o.0.name o.1 b _ (λ name. operand_then high name_in o.1 b _ (λ group b. last_then high partition_count_in group.1 b (command.Mklv name (unwrap_or o.0.copies 1) (unwrap_or o.0.mode mode.Active) (unwrap_or o.0.policy policy.Parallel) group.0))))

rmlv_in : (high : ℕ) (l : Left) → LeftIn high l → In high (rmlv l)
rmlv_in high l b = last_then high name_in (option (codes "-f") l).1 (option_is_in high (codes "-f") l b) command.Rmlv

-- an option that has to stand there, and a name
only_with : (high : ℕ) (f : List ℕ → Command) (found : Bool × Left) → LeftIn high found.1 → In high (cond found.0 (then_ (last name_in found.1) (λ name. Ok (f name))) (misfit (next_column found.1)))
only_with high f (true, k) b = last_then high name_in k b f
only_with high f (false, k) b = next_is_in high k.words k.end b.0 b.1

sync_group_in : (high : ℕ) (l : Left) → LeftIn high l → In high (sync_group l)
sync_group_in high l b = only_with high command.SyncGroup (option (codes "-v") l) (option_is_in high (codes "-v") l b)

syncvg_in : (high : ℕ) (l : Left) → LeftIn high l → In high (syncvg l)
syncvg_in high l b = at (option (codes "-l") l) (option_is_in high (codes "-l") l b)
  where
    at : (volume : Bool × Left) → LeftIn high volume.1 → In high (cond volume.0 (then_ (last name_in volume.1) (λ name. Ok (command.SyncVolume name))) (sync_group volume.1))
    at (true, k) b = last_then high name_in k b command.SyncVolume
    at (false, k) b = sync_group_in high k b

chvg_quorum_in : (high : ℕ) (l : Left) → LeftIn high l → In high (chvg_quorum l)
chvg_quorum_in high l b = operand_then high switch_in l b _ (λ on b. last_then high name_in on.1 b (command.ChvgQuorum on.0))

chvg_big_in : (high : ℕ) (l : Left) → LeftIn high l → In high (chvg_big l)
chvg_big_in high l b = only_with high command.ChvgBig (option (codes "-B") l) (option_is_in high (codes "-B") l b)

chvg_in : (high : ℕ) (l : Left) → LeftIn high l → In high (chvg l)
chvg_in high l b = at (option (codes "-Q") l) (option_is_in high (codes "-Q") l b)
  where
    at : (quorum : Bool × Left) → LeftIn high quorum.1 → In high (cond quorum.0 (chvg_quorum quorum.1) (chvg_big quorum.1))
    at (true, k) b = chvg_quorum_in high k b
    at (false, k) b = chvg_big_in high k b

lslv_in : (high : ℕ) (l : Left) → LeftIn high l → In high (lslv l)
lslv_in high l b = only_with high command.Lslv (option (codes "-m") l) (option_is_in high (codes "-m") l b)

-- each of these rows names columns of the line
abbrev RowsAreIn : List Row → Type 0
RowsAreIn [] = ⊤
RowsAreIn (r ∷ rs) = ((high : ℕ) (l : Left) → LeftIn high l → In high (r.reads l)) × RowsAreIn rs

rows_in : RowsAreIn rows
rows_in = (mkvg_in, (reducevg_in, (varyonvg_in, (varyoffvg_in, (lsvg_in, (chvg_in, (mklv_in, (rmlv_in, (mklvcopy_in, (rmlvcopy_in, (splitlvcopy_in, (migratepv_in, (syncvg_in, (lslv_in, (rd_in, (wr_in, (post_in, (wait_in, (step_in, (lspv_in, (fail_in, (heal_in, (cut_in, tt)))))))))))))))))))))))

rule_in : (high : ℕ) (rs : List Row) (word : List ℕ) (column : ℕ) (l : Left) → RowsAreIn rs → IsIn high column → LeftIn high l → In high (rule rs word column l)
rule_in high [] word column l each own b = own
rule_in high (r ∷ rs) word column l each own b = either_in high (bytes_eq word r.word) (r.reads l) (rule rs word column l) (each.0 high l b) (rule_in high rs word column l each.1 own b)

words_in : (high : ℕ) (ws : List WordAt) (end : ℕ) → AreIn high ws → IsIn high end → In high (line_of_words ws end)
words_in high [] end words ends = tt
words_in high (w ∷ ws) end words ends =
    either_in high (is_remark w.bytes) _ _ tt (asked (rule rows w.bytes w.column (record { words = ws; end = end })) (rule_in high rows w.bytes w.column (record { words = ws; end = end }) rows_in words.0 (words.1, ends)))
  where
    asked : (r : Result Command Misfit) → In high r → In high (then_ {B = Option Command} r (λ c. Ok (Some c)))
    asked (Ok c) b = tt
    asked (Err m) b = b

-- ---- a line

too_long_in : (o : Option ℕ) (size : ℕ) → ((place : ℕ) → o ≡ Some place → place < size) → MatchOption (too_long_or o size) ⊤ (IsIn (1 + size))
too_long_in (Some place) size below = let within : place < size = below place refl in (omega arith, omega arith)
too_long_in None size below = at (nat_lt 4096 size) refl
  where
    at : (t : Bool) → t ≡ nat_lt 4096 size → MatchOption (cond t (Some 4097) None) ⊤ (IsIn (1 + size))
    at true is = let long : 4096 < size = grind (arith, nat_tests) in (omega arith, omega arith)
    at false is = tt

unreadable_in : (line : List ℕ) → MatchOption (unreadable_at line) ⊤ (IsIn (1 + length line))
unreadable_in line = too_long_in (position (λ b. not (is_plain b)) (take 4096 line)) (length line) (λ place is.
    let found : place < length (take 4096 line) = (position-Some (λ b. not (is_plain b)) (take 4096 line) place 0 is).0 in
    omega (arith, length-take 4096 line, found))

line_in : (line : List ℕ) → In (1 + length line) (line_of line)
line_in line = at (unreadable_at line) (unreadable_in line)
  where
    at : (o : Option ℕ) → MatchOption o ⊤ (IsIn (1 + length line)) → In (1 + length line) (readable o (left_at 1 line))
    at (Some column) own = own
    at None own = words_in (1 + length line) (words_from 1 [] line) (1 + length line) (words_are_in 1 [] line (omega arith)) (omega arith, omega arith)

pub refused_within : (line : List ℕ) (column : ℕ) → line_of line ≡ misfit column → (1 ≤ column) × (column ≤ length line + 1)
refused_within line column is =
    let within : In (1 + length line) (misfit {T = Option Command} column) = subst (In (1 + length line)) is (line_in line) in
    (within.0, omega (arith, within.1))
