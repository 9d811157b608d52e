-- A `mkvg -f` has the word `-f`, so its line has the bytes.
use Rattle.std.proofs.Common.{◌≡◌, ◌⊎◌, inl, inr, ⊎_elim, ◌∷◌, ◌++◌, [], ℕ, List, Bool, true, false, not, Option, Some, None, Result, Ok, Err, is_some, if◌then◌else◌, refl, sym, ◌∙◌, ap, subst, length}
use Rattle.std.specs.Prelude.{◌==◌, ◌+◌, ◌-◌, codes, bytes_eq}
use Rattle.std.proofs.lemmas.Bool.{and_parts}
use Rattle.std.proofs.lemmas.List.{append_assoc}
use Rattle.std.proofs.lemmas.Slice.Eq.{bytes_eq-Decides}
use Rattle.lvm_parse.specs.Words.{name_in, size_in, disk_in, word_in, partition_count_in, turns_in, copy_count_in, switch_in, other_disk_in}
use Rattle.lvm_parse.specs.declared.rest.Misfit.{Misfit}
use Rattle.lvm_parse.specs.Bytes.{is_remark, unreadable_at}
use Rattle.lvm_parse.specs.Line.{WordAt, Left, finished, words_from, left_at}
use Rattle.lvm_parse.specs.Reading.{Choice, NoOption, Alone, Valued, then_, or_misfit, misfit, operand, option, ends_of, ends, last, is_next, blocks, last_blocks, is_new, options_of, options, required, disks}
use Rattle.lvm_parse.specs.declared.chosen.MkvgOptions.{MkvgOptions}
use Rattle.lvm_parse.specs.Options.{mkvg_choice, no_mkvg_options, mklv_choice, no_mklv_options}
use Rattle.lvm_parse.proofs.OptionsReadingLemmas.{mapped}
use Rattle.lvm_num.specs.Among.{IsOneOf}
use Rattle.lvm_parse.specs.declared.command.Command.{Command}
use Rattle.lvm_parse.specs.declared.command.Command.TheVariants as command
use Rattle.lvm_parse.specs.Grammar.{Row, rows, rule, rd_disk, rd_volume, rd, wr_disk, wr_volume, wr, post, wait, step, lspv, fail, heal, cut, cut_of, mkvg, varyonvg, varyoffvg, lsvg, chvg_quorum, chvg_big, chvg, leaving, reducevg, mklv, rmlv, mklvcopy, rmlvcopy, split_of, splitlvcopy, moved_between, moved_of, migratepv, sync_group, syncvg, lslv, line_of_words, readable}
use Rattle.lvm_parse.specs.Forced.{SpellsForce}

-- ---- the words

-- one of the words is `-f`
HasForce : List WordAt → Type 0
HasForce words = (w : WordAt) × IsOneOf words w × (bytes_eq w.bytes (codes "-f") ≡ true)

more : (w : WordAt) (words : List WordAt) → HasForce words → HasForce (w ∷ words)
unfolding HasForce
more w words has = (has.0, inr has.1, has.2)

-- ---- the options of `mkvg`

-- with an option alone the word is this one, and with another's value nothing of it changes
Chose : MkvgOptions → List ℕ → Choice MkvgOptions → Type 0
Chose o word NoOption = Unit {0}
Chose o word (Alone with) = bytes_eq word (codes "-f") ≡ true
Chose o word (Valued read) = (value : List ℕ) (with : MkvgOptions) → read value ≡ Some with → with.force ≡ o.force

chose_if : (o : MkvgOptions) (word : List ℕ) (b : Bool) (x y : Choice MkvgOptions) → (b ≡ true → Chose o word x) → Chose o word y → Chose o word (if b then x else y)
chose_if o word true x y cx cy = cx refl
chose_if o word false x y cx cy = cy

this_word : (word name : List ℕ) (stood : Bool) → is_new word name stood ≡ true → bytes_eq word name ≡ true
unfolding is_new
this_word word name stood is = (and_parts (bytes_eq word name) (not stood) is).0

chosen : (o : MkvgOptions) (word : List ℕ) → Chose o word (mkvg_choice o word)
unfolding Chose
chosen o word =
    chose_if o word (is_new word (codes "-f") o.force) _ _ (λ is. this_word word (codes "-f") o.force is)
    (chose_if o word (is_new word (codes "-y") (is_some o.name)) _ _ (λ is value with read. mapped (λ (x : MkvgOptions). x.force ≡ o.force) (λ name. record o { name = Some name }) (name_in value) with (λ name found. refl) read)
    (chose_if o word (is_new word (codes "-s") (is_some o.mib)) _ _ (λ is value with read. mapped (λ (x : MkvgOptions). x.force ≡ o.force) (λ mib. record o { mib = Some mib }) (size_in value) with (λ mib found. refl) read) tt))

-- it stood before, or is among the words
Forced : MkvgOptions → List WordAt → Type 0
Forced o words = (o.force ≡ true) ⊎ HasForce words

behind : (o : MkvgOptions) (w : WordAt) (words : List WordAt) → Forced o words → Forced o (w ∷ words)
unfolding Forced
behind o w words forced = ⊎_elim (λ before. inl before) (λ has. inr (more w words has)) forced

by_word : (o with : MkvgOptions) (w : WordAt) (words : List WordAt) → bytes_eq w.bytes (codes "-f") ≡ true → Forced o (w ∷ words)
unfolding Forced HasForce
by_word o with w words is = inr (w, inl refl, is)

by_value : (o with : MkvgOptions) (words : List WordAt) → with.force ≡ o.force → Forced with words → Forced o words
unfolding Forced
by_value o with words same forced = ⊎_elim (λ after. inl (sym same ∙ after)) (λ has. inr has) forced

at_last : (o : MkvgOptions) (words rest : List WordAt) (end : ℕ) (v : MkvgOptions × Left) → ◌≡◌ {A = Result (MkvgOptions × Left) Misfit} (Ok (o, record { words = rest; end = end })) (Ok v) → v.0.force ≡ true → Forced o words
unfolding Forced
at_last o words rest end v is forced = let e : ◌≡◌ {A = MkvgOptions × Left} (o, record { words = rest; end = end }) v = cc (is) in inl (ap (λ (x : MkvgOptions × Left). x.0.force) e ∙ forced)

options_force : (o : MkvgOptions) (words : List WordAt) (end : ℕ) (v : MkvgOptions × Left) → options_of mkvg_choice o words end ≡ Ok v → v.0.force ≡ true → Forced o words
unfolding Chose
options_force o [] end v is forced = at_last o [] [] end v is forced
options_force o (w ∷ []) end v is forced = go (mkvg_choice o w.bytes) (chosen o w.bytes) is
  where
    go : (c : Choice MkvgOptions) → Chose o w.bytes c → ◌≡◌ {A = Result (MkvgOptions × Left) Misfit} (elim c [ NoOption ↦ Ok (o, record { words = w ∷ []; end = end }) | Alone with ↦ Ok (with, record { words = []; end = end }) | Valued read ↦ misfit end ]) (Ok v) → Forced o (w ∷ [])
    go NoOption chose same = at_last o (w ∷ []) (w ∷ []) end v same forced
    go (Alone with) chose same = by_word o with w [] chose
    go (Valued read) chose same = absurd (cc (same))
options_force o (w ∷ x ∷ words) end v is forced = go (mkvg_choice o w.bytes) (chosen o w.bytes) (λ next read. options_force next words end v read forced) is
  where
    go : (c : Choice MkvgOptions) → Chose o w.bytes c → ((next : MkvgOptions) → options_of mkvg_choice next words end ≡ Ok v → Forced next words)
        → ◌≡◌ {A = Result (MkvgOptions × Left) Misfit} (elim c [ NoOption ↦ Ok (o, record { words = w ∷ x ∷ words; end = end }) | Alone with ↦ options_of mkvg_choice with (x ∷ words) end | Valued read ↦ then_ (or_misfit (read x.bytes) x.column) (λ with. options_of mkvg_choice with words end) ]) (Ok v)
        → Forced o (w ∷ x ∷ words)
    go NoOption chose rest same = at_last o (w ∷ x ∷ words) (w ∷ x ∷ words) end v same forced
    go (Alone with) chose rest same = by_word o with w (x ∷ words) chose
    go (Valued read) chose rest same = of_value (read x.bytes) refl same
      where
        of_value : (found : Option MkvgOptions) → read x.bytes ≡ found → then_ (or_misfit found x.column) (λ with. options_of mkvg_choice with words end) ≡ Ok v → Forced o (w ∷ x ∷ words)
        of_value (Some with) found more = by_value o with (w ∷ x ∷ words) (chose x.bytes with found) (behind with w (x ∷ words) (behind with x words (rest with more)))
        of_value None found more = absurd (cc (more))

-- ---- what is read

-- where a `mkvg -f` is read, one of the words is `-f`
Forces : List WordAt → Result Command Misfit → Type 0
Forces words (Ok (command.Mkvg true name mib disks)) = HasForce words
Forces words other = Unit {0}

then_forces : {A : Type 0} (words : List WordAt) (r : Result A Misfit) (next : A → Result Command Misfit) → ((a : A) → r ≡ Ok a → Forces words (next a)) → Forces words (then_ r next)
unfolding Forces
then_forces words (Ok a) next forces = forces a refl
then_forces words (Err e) next forces = tt

if_forces : (words : List WordAt) (b : Bool) (x y : Result Command Misfit) → Forces words x → Forces words y → Forces words (if b then x else y)
if_forces words true x y fx fy = fx
if_forces words false x y fx fy = fy

mkvg_forces : (l : Left) → Forces l.words (mkvg l)
unfolding Forces options Forced
mkvg_forces l = then_forces l.words (options mkvg_choice no_mkvg_options l) _ (λ o are. then_forces l.words (required o.0.name o.1) _ (λ name named. then_forces l.words (disks [] o.1) _ (λ all disks_are. made o name all are o.0.force refl)))
  where
    made : (o : MkvgOptions × Left) (name all : List ℕ) → options mkvg_choice no_mkvg_options l ≡ Ok o → (b : Bool) → o.0.force ≡ b → Forces l.words (Ok (command.Mkvg b name o.0.mib all))
    made o name all are true forced = ⊎_elim (λ before. absurd (let e : false ≡ true = before in cc e)) (λ has. has) (options_force no_mkvg_options l.words l.end o are forced)
    made o name all are false forced = tt

rd_forces : (l : Left) → Forces l.words (rd l)
unfolding Forces
rd_forces l =
    if_forces l.words (is_next disk_in l) (rd_disk l) (rd_volume l)
    (then_forces l.words (operand disk_in l) _ (λ disk d. then_forces l.words (last_blocks disk.1) _ (λ range r. tt)))
    (then_forces l.words (operand name_in l) _ (λ name n. then_forces l.words (last_blocks name.1) _ (λ range r. tt)))

wr_forces : (l : Left) → Forces l.words (wr l)
unfolding Forces
wr_forces l =
    if_forces l.words (is_next disk_in l) (wr_disk l) (wr_volume l)
    (then_forces l.words (operand disk_in l) _ (λ disk d. then_forces l.words (blocks disk.1) _ (λ range r. then_forces l.words (last word_in range.1) _ (λ word w. tt))))
    (then_forces l.words (operand name_in l) _ (λ name n. then_forces l.words (blocks name.1) _ (λ range r. then_forces l.words (last word_in range.1) _ (λ word w. tt))))

post_forces : (l : Left) → Forces l.words (post l)
unfolding Forces
post_forces l = then_forces l.words (operand name_in l) _ (λ name n. then_forces l.words (blocks name.1) _ (λ range r. then_forces l.words (last word_in range.1) _ (λ word w. tt)))

wait_forces : (l : Left) → Forces l.words (wait l)
unfolding Forces ends
wait_forces l = go l.words
  where
    go : (words : List WordAt) → Forces l.words (ends_of words command.Wait)
    go [] = tt
    go (w ∷ words) = tt

step_forces : (l : Left) → Forces l.words (step l)
unfolding Forces
step_forces l = then_forces l.words (last turns_in l) _ (λ turns t. tt)

mklvcopy_forces : (l : Left) → Forces l.words (mklvcopy l)
unfolding Forces
mklvcopy_forces l = then_forces l.words (operand name_in l) _ (λ name n. then_forces l.words (last copy_count_in name.1) _ (λ copies c. tt))

rmlvcopy_forces : (l : Left) → Forces l.words (rmlvcopy l)
unfolding Forces
rmlvcopy_forces l = then_forces l.words (operand name_in l) _ (λ name n. then_forces l.words (last copy_count_in name.1) _ (λ copies c. tt))

split_of_forces : (words : List WordAt) (l : Left) → Forces words (split_of l)
unfolding Forces
split_of_forces words l = then_forces words (operand name_in l) _ (λ new n. then_forces words (operand name_in new.1) _ (λ name n. then_forces words (last copy_count_in name.1) _ (λ copies c. tt)))

splitlvcopy_forces : (l : Left) → Forces l.words (splitlvcopy l)
unfolding Forces
splitlvcopy_forces l = if_forces l.words (option (codes "-y") l).0 _ _ (split_of_forces l.words (option (codes "-y") l).1) tt

moved_between_forces : (words : List WordAt) (volume : Option (List ℕ)) (l : Left) → Forces words (moved_between volume l)
unfolding Forces
moved_between_forces words volume l = then_forces words (operand disk_in l) _ (λ from f. then_forces words (last (other_disk_in from.0) from.1) _ (λ to t. tt))

moved_of_forces : (words : List WordAt) (l : Left) → Forces words (moved_of l)
moved_of_forces words l = then_forces words (operand name_in l) _ (λ name n. moved_between_forces words (Some name.0) name.1)

migratepv_forces : (l : Left) → Forces l.words (migratepv l)
migratepv_forces l = if_forces l.words (option (codes "-l") l).0 _ _ (moved_of_forces l.words (option (codes "-l") l).1) (moved_between_forces l.words None (option (codes "-l") l).1)

leaving_forces : (words : List WordAt) (name : List ℕ) (l : Left) → Forces words (leaving name l)
unfolding Forces
leaving_forces words name l = then_forces words (disks [] l) _ (λ all disks_are. tt)

reducevg_forces : (l : Left) → Forces l.words (reducevg l)
reducevg_forces l = then_forces l.words (operand name_in l) _ (λ name n. leaving_forces l.words name.0 name.1)

cut_forces : (l : Left) → Forces l.words (cut l)
unfolding Forces
cut_forces l = go l.words
  where
    go : (words : List WordAt) → Forces l.words (cut_of words l)
    go [] = tt
    go (w ∷ words) = then_forces l.words (last word_in l) (λ word. Ok (command.Cut word)) (λ word is. tt)

sync_group_forces : (words : List WordAt) (l : Left) → Forces words (sync_group l)
unfolding Forces
sync_group_forces words l = if_forces words (option (codes "-v") l).0 _ _ (then_forces words (last name_in (option (codes "-v") l).1) (λ name. Ok (command.SyncGroup name)) (λ name is. tt)) tt

syncvg_forces : (l : Left) → Forces l.words (syncvg l)
unfolding Forces
syncvg_forces l = if_forces l.words (option (codes "-l") l).0 _ _ (then_forces l.words (last name_in (option (codes "-l") l).1) (λ name. Ok (command.SyncVolume name)) (λ name is. tt)) (sync_group_forces l.words (option (codes "-l") l).1)

lslv_forces : (l : Left) → Forces l.words (lslv l)
unfolding Forces
lslv_forces l = if_forces l.words (option (codes "-m") l).0 _ _ (then_forces l.words (last name_in (option (codes "-m") l).1) (λ name. Ok (command.Lslv name)) (λ name is. tt)) tt

mklv_forces : (l : Left) → Forces l.words (mklv l)
unfolding Forces
mklv_forces l = then_forces l.words (options mklv_choice no_mklv_options l) _ (λ o options_are. then_forces l.words (required o.0.name o.1) _ (λ name named.
    then_forces l.words (operand name_in o.1) _ (λ group in_group. then_forces l.words (last partition_count_in group.1) _ (λ lps partitions_are. tt))))

varyonvg_forces : (l : Left) → Forces l.words (varyonvg l)
unfolding Forces
varyonvg_forces l = then_forces l.words _ (λ x. Ok (command.Varyon x)) (λ x is. tt)

varyoffvg_forces : (l : Left) → Forces l.words (varyoffvg l)
unfolding Forces
varyoffvg_forces l = then_forces l.words _ (λ x. Ok (command.Varyoff x)) (λ x is. tt)

lsvg_forces : (l : Left) → Forces l.words (lsvg l)
unfolding Forces
lsvg_forces l = then_forces l.words _ (λ name. Ok (command.Lsvg (option (codes "-l") l).0 name)) (λ name is. tt)

chvg_quorum_forces : (words : List WordAt) (l : Left) → Forces words (chvg_quorum l)
unfolding Forces
chvg_quorum_forces words l = then_forces words (operand switch_in l) _ (λ on o. then_forces words (last name_in on.1) _ (λ name n. tt))

chvg_big_forces : (words : List WordAt) (l : Left) → Forces words (chvg_big l)
unfolding Forces
chvg_big_forces words l = if_forces words (option (codes "-B") l).0 _ _ (then_forces words (last name_in (option (codes "-B") l).1) (λ name. Ok (command.ChvgBig name)) (λ name is. tt)) tt

chvg_forces : (l : Left) → Forces l.words (chvg l)
chvg_forces l = if_forces l.words (option (codes "-Q") l).0 _ _ (chvg_quorum_forces l.words (option (codes "-Q") l).1) (chvg_big_forces l.words (option (codes "-Q") l).1)

rmlv_forces : (l : Left) → Forces l.words (rmlv l)
unfolding Forces
rmlv_forces l = then_forces l.words _ (λ x. Ok (command.Rmlv x)) (λ x is. tt)

lspv_forces : (l : Left) → Forces l.words (lspv l)
unfolding Forces
lspv_forces l = then_forces l.words _ (λ x. Ok (command.Lspv x)) (λ x is. tt)

fail_forces : (l : Left) → Forces l.words (fail l)
unfolding Forces
fail_forces l = then_forces l.words _ (λ x. Ok (command.Fail x)) (λ x is. tt)

heal_forces : (l : Left) → Forces l.words (heal l)
unfolding Forces
heal_forces l = then_forces l.words _ (λ x. Ok (command.Heal x)) (λ x is. tt)

abbrev RowsForce : List Row → Type 0
RowsForce [] = Unit {0}
RowsForce (r ∷ rs) = ((l : Left) → Forces l.words (r.reads l)) × RowsForce rs

rows_force : RowsForce rows
rows_force = (mkvg_forces, (reducevg_forces, (varyonvg_forces, (varyoffvg_forces, (lsvg_forces, (chvg_forces, (mklv_forces, (rmlv_forces, (mklvcopy_forces, (rmlvcopy_forces, (splitlvcopy_forces, (migratepv_forces, (syncvg_forces, (lslv_forces, (rd_forces, (wr_forces, (post_forces, (wait_forces, (step_forces, (lspv_forces, (fail_forces, (heal_forces, (cut_forces, tt)))))))))))))))))))))))

rule_forces : (rs : List Row) (word : List ℕ) (column : ℕ) (l : Left) → RowsForce rs → Forces l.words (rule rs word column l)
unfolding Forces
rule_forces [] word column l forces = tt
rule_forces (r ∷ rs) word column l forces = if_forces l.words (bytes_eq word r.word) (r.reads l) (rule rs word column l) (forces.0 l) (rule_forces rs word column l forces.1)

-- ---- the bytes

-- these bytes stand in those
abbrev pub Stands : List ℕ → List ℕ → Type 0
Stands part bytes = (before : List ℕ) × ((after : List ℕ) × (bytes ≡ before ++ (part ++ after)))

-- what stands behind a front stands in all
pub stands_behind : (front part bytes : List ℕ) → Stands part bytes → Stands part (front ++ bytes)
stands_behind front part bytes it = (front ++ it.0, (it.1.0, ap (λ (l : List ℕ). front ++ l) it.1.1 ∙ sym (append_assoc front it.0 (part ++ it.1.0))))

-- what stands in a part of all does too
pub stands_within : (part bytes all : List ℕ) → Stands part bytes → Stands bytes all → Stands part all
stands_within part bytes all one outer =
    let inner = ap (λ (l : List ℕ). l ++ outer.1.0) one.1.1 ∙ append_assoc one.0 (part ++ one.1.0) outer.1.0 ∙ ap (λ (l : List ℕ). one.0 ++ l) (append_assoc part one.1.0 outer.1.0) in
    (outer.0 ++ one.0, (one.1.0 ++ outer.1.0, outer.1.1 ∙ ap (λ (l : List ℕ). outer.0 ++ l) inner ∙ sym (append_assoc outer.0 one.0 (part ++ (one.1.0 ++ outer.1.0)))))

finished_stands : (column : ℕ) (word : List ℕ) (words : List WordAt) (w : WordAt) (line : List ℕ) → IsOneOf (finished column word words) w → (IsOneOf words w → Stands w.bytes (word ++ line)) → Stands w.bytes (word ++ line)
finished_stands column [] words w line one rest = rest one
finished_stands column (b ∷ word) words w line one rest = ⊎_elim
    (λ (here : w ≡ record { column = column - length (b ∷ word); bytes = b ∷ word }). ([], (line, ap (λ (x : List ℕ). x ++ line) (sym (ap (λ (x : WordAt). x.bytes) here)))))
    (λ (there : IsOneOf words w). rest there)
    one

-- each word stands in what the line has
word_stands : (column : ℕ) (word line : List ℕ) (w : WordAt) → IsOneOf (words_from column word line) w → Stands w.bytes (word ++ line)
word_stands column word [] w one = finished_stands column word [] w [] one (λ none. absurd none)
word_stands column word (b ∷ line) w one = by_blank (b == 32) refl (word_stands (column + 1) [] line w) (word_stands (column + 1) (word ++ b ∷ []) line w) one
  where
    by_blank : (t : Bool) → (b == 32) ≡ t → (IsOneOf (words_from (column + 1) [] line) w → Stands w.bytes line) → (IsOneOf (words_from (column + 1) (word ++ b ∷ []) line) w → Stands w.bytes ((word ++ b ∷ []) ++ line))
        → IsOneOf (if t then finished column word (words_from (column + 1) [] line) else words_from (column + 1) (word ++ b ∷ []) line) w → Stands w.bytes (word ++ b ∷ line)
    by_blank true is next same at = finished_stands column word (words_from (column + 1) [] line) w (b ∷ line) at (λ there. stands_behind word w.bytes (b ∷ line) (stands_behind (b ∷ []) w.bytes line (next there)))
    by_blank false is next same at = subst (λ (l : List ℕ). Stands w.bytes l) (append_assoc word (b ∷ []) line) (same at)

-- ---- the line

pub force_is_spelled : (line : List ℕ) → SpellsForce line
unfolding Forces HasForce
force_is_spelled line nowhere name mib disks is = of_line (unreadable_at line) is
  where
    spelled : (words : List WordAt) → ((w : WordAt) → IsOneOf words w → IsOneOf (left_at 1 line).words w) → HasForce words → ⊥
    spelled words among has =
        let it = word_stands 1 [] line has.0 (among has.0 has.1) in
        nowhere it.0 it.1.0 (subst (λ (part : List ℕ). line ≡ it.0 ++ (part ++ it.1.0)) ((bytes_eq-Decides has.0.bytes (codes "-f")).0 has.2) it.1.1)

    of_rule : (words : List WordAt) → ((w : WordAt) → IsOneOf words w → IsOneOf (left_at 1 line).words w) → (r : Result Command Misfit) → Forces words r → then_ r (λ (x : Command). Ok (Some x)) ≡ Ok (Some (command.Mkvg true name mib disks)) → ⊥
    of_rule words among (Ok x) forces same = let e : x ≡ command.Mkvg true name mib disks = cc (same) in spelled words among (subst (λ (c : Command). Forces words (Ok c)) e forces)
    of_rule words among (Err e) forces same = absurd (cc (same))

    of_remark : (words : List WordAt) → ((w : WordAt) → IsOneOf words w → IsOneOf (left_at 1 line).words w) → (b : Bool) (r : Result Command Misfit) → Forces words r → (if b then Ok None else then_ r (λ (x : Command). Ok (Some x))) ≡ Ok (Some (command.Mkvg true name mib disks)) → ⊥
    of_remark words among true r forces same = absurd (cc (same))
    of_remark words among false r forces same = of_rule words among r forces same

    of_words : (words : List WordAt) (end : ℕ) → ((w : WordAt) → IsOneOf words w → IsOneOf (left_at 1 line).words w) → line_of_words words end ≡ Ok (Some (command.Mkvg true name mib disks)) → ⊥
    of_words [] end among same = absurd (cc (same))
    of_words (w ∷ words) end among same =
        of_remark words (λ x there. among x (inr there)) (is_remark w.bytes) (rule rows w.bytes w.column (record { words = words; end = end })) (rule_forces rows w.bytes w.column (record { words = words; end = end }) rows_force) same

    of_line : (at : Option ℕ) → readable at (left_at 1 line) ≡ Ok (Some (command.Mkvg true name mib disks)) → ⊥
    of_line (Some column) same = absurd (cc (same))
    of_line None same = of_words (left_at 1 line).words (left_at 1 line).end (λ w there. there) same
