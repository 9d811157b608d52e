-- What the grammar says of the numbers and the disks of a command.
use Rattle.std.proofs.Common.{◌≡◌, ◌≢◌, ◌≤◌, ◌<◌, zero, suc, ◌∷◌, ◌++◌, [], ℕ, List, Bool, true, false, not, ◌&&◌, length, Option, Some, None, Result, Ok, Err, is_some, if◌then◌else◌, get_or, refl, sym, ◌∙◌, ap, subst, arith, eq-eqb}
use Rattle.std.specs.Prelude.{◌==◌, nat_le, nat_lt, AllPairs, IsTrue, codes, bytes_eq}
use Rattle.std.specs.Option.{ForSome, option_map}
use Rattle.std.specs.List.{list_any}
use Rattle.std.proofs.lemmas.Bool.{leb-true, and_parts, or_parts, not-true}
use Rattle.std.proofs.lemmas.List.Quantifiers.{all_pairs_push}
use Rattle.lvm_num.specs.Descriptor.{is_size}
use Rattle.lvm_num.specs.Name.{is_name}
use Rattle.lvm_parse.specs.Words.{only, number_in, number_within, count_in, size_in, name_in, disk_in, word_in, partition_count_in, turns_in, copy_count_in, switch_in, other_disk_in}
use Rattle.lvm_parse.specs.declared.range.BlockRange.{BlockRange}
use Rattle.lvm_parse.specs.declared.rest.Misfit.{Misfit}
use Rattle.lvm_parse.specs.Bytes.{is_remark, unreadable_at}
use Rattle.lvm_parse.specs.Line.{WordAt, Left, left_at}
use Rattle.lvm_parse.specs.Reading.{then_, or_misfit, operand_of, operand, option, ends_of, ends, last, is_next, blocks, last_blocks, is_new, options, required, is_further, further_disk, disks_of, disks, next_column}
use Rattle.lvm_parse.specs.declared.chosen.MkvgOptions.{MkvgOptions}
use Rattle.lvm_parse.specs.Options.{mkvg_choice, no_mkvg_options, mklv_choice, no_mklv_options}
use Rattle.lvm_parse.proofs.OptionsReadingLemmas.{mapped, Keeping, keeping_if, options_keep}
use Rattle.lvm_parse.specs.declared.command.Command.{Command}
use Rattle.lvm_parse.specs.declared.command.Command.TheVariants as command
use Rattle.lvm_parse.specs.Grammar.{Row, rows, rule, rd_disk, rd_volume, rd, wr_disk, wr_volume, wr, post, wait, step, lspv, fail, heal, cut, cut_of, mkvg, varyonvg, varyoffvg, lsvg, chvg_quorum, chvg_big, chvg, leaving, reducevg, mklv, rmlv, mklvcopy, rmlvcopy, split_of, splitlvcopy, moved_between, moved_of, migratepv, sync_group, syncvg, lslv, line_of_words, readable, line_of}
use Rattle.lvm_parse.specs.Within.{IsWithinLimits}

-- ---- what is read

Fits : Result Command Misfit → Type 0
Fits (Ok c) = IsWithinLimits c
Fits (Err e) = Unit {0}

fits_then : {A : Type 0} (r : Result A Misfit) (next : A → Result Command Misfit) → ((a : A) → r ≡ Ok a → Fits (next a)) → Fits (then_ r next)
unfolding Fits
fits_then (Ok a) next fits = fits a refl
fits_then (Err e) next fits = tt

fits_if : (b : Bool) (x y : Result Command Misfit) → Fits x → Fits y → Fits (if b then x else y)
fits_if true x y fx fy = fx
fits_if false x y fx fy = fy

-- ---- words

only_passes : {T : Type 0} (p : T → Bool) (o : Option T) (v : T) → only p o ≡ Some v → p v ≡ true
only_passes {T} p (Some w) v is = go (p w) refl is
  where
    go : (b : Bool) → p w ≡ b → (if b then Some w else None) ≡ Some v → p v ≡ true
    go true passes same = let e : w ≡ v = cc (same) in ap p (sym e) ∙ passes
    go false fails same = absurd (cc (same))
only_passes p None v is = absurd (cc (is))

operand_means : {T : Type 0} (meaning : List ℕ → Option T) (words : List WordAt) (end : ℕ) (v : T × Left) → operand_of meaning words end ≡ Ok v → (word : List ℕ) × (meaning word ≡ Some v.0)
operand_means meaning [] end v is = absurd (cc (is))
operand_means {T} meaning (w ∷ words) end v is = go (meaning w.bytes) refl is
  where
    go : (o : Option T) → meaning w.bytes ≡ o → then_ (or_misfit o w.column) (λ value. Ok (value, record { words = words; end = end })) ≡ Ok v → (word : List ℕ) × (meaning word ≡ Some v.0)
    go (Some value) means same = let e : ◌≡◌ {A = T × Left} (value, record { words = words; end = end }) v = cc (same) in (w.bytes, means ∙ ap (λ (p : T × Left). Some p.0) e)
    go None means same = absurd (cc (same))

counted : (l : Left) (v : ℕ × Left) → operand count_in l ≡ Ok v → (1 ≤ v.0) × (v.0 ≤ 4096)
unfolding operand
counted l v is =
    let word = operand_means count_in l.words l.end v is in
    let passes = only_passes (λ n. nat_le 1 n && nat_le n 4096) (number_in word.0) v.0 word.1 in
    let parts = and_parts (nat_le 1 v.0) (nat_le v.0 4096) passes in
    (leb-true 1 v.0 parts.0, leb-true v.0 4096 parts.1)

-- the line ends behind a value
at_end : {T : Type 0} (words : List WordAt) (w v : T) → ends_of words w ≡ Ok v → w ≡ v
at_end [] w v same = cc (same)
at_end (x ∷ words) w v same = absurd (cc (same))

-- the last word was read, and none follows
last_means : {T : Type 0} (meaning : List ℕ → Option T) (l : Left) (v : T) → last meaning l ≡ Ok v → (word : List ℕ) × (meaning word ≡ Some v)
unfolding operand ends
last_means {T} meaning l v is = go (operand meaning l) refl is
  where
    go : (r : Result (T × Left) Misfit) → operand meaning l ≡ r → then_ r (λ value. ends value.1 value.0) ≡ Ok v → (word : List ℕ) × (meaning word ≡ Some v)
    go (Ok value) read same = let word = operand_means meaning l.words l.end value read in (word.0, word.1 ∙ ap (λ (x : T). Some x) (at_end value.1.words value.0 v same))
    go (Err e) read same = absurd (cc (same))

IsCounted : BlockRange → Type 0
IsCounted range = (1 ≤ range.count) × (range.count ≤ 4096)

blocks_counted : (l : Left) (v : BlockRange × Left) → blocks l ≡ Ok v → IsCounted v.0
unfolding blocks IsCounted
blocks_counted l v is = of_first (operand number_in l) is
  where
    made : ℕ × Left → ℕ × Left → Result (BlockRange × Left) Misfit
    made at count = Ok (record { at = at.0; count = count.0 }, count.1)

    of_count : (at : ℕ × Left) (r : Result (ℕ × Left) Misfit) → operand count_in at.1 ≡ r → then_ r (made at) ≡ Ok v → IsCounted v.0
    of_count at (Ok count) read same =
        let e : ◌≡◌ {A = BlockRange × Left} (record { at = at.0; count = count.0 }, count.1) v = cc (same) in
        subst (λ (x : BlockRange × Left). IsCounted x.0) e (counted at.1 count read)
    of_count at (Err e) read same = absurd (cc (same))

    of_first : (r : Result (ℕ × Left) Misfit) → then_ r (λ at. then_ (operand count_in at.1) (made at)) ≡ Ok v → IsCounted v.0
    of_first (Ok at) same = of_count at (operand count_in at.1) refl same
    of_first (Err e) same = absurd (cc (same))

last_blocks_counted : (l : Left) (range : BlockRange) → last_blocks l ≡ Ok range → IsCounted range
unfolding ends
last_blocks_counted l range is = go (blocks l) refl is
  where
    go : (r : Result (BlockRange × Left) Misfit) → blocks l ≡ r → then_ r (λ found. ends found.1 found.0) ≡ Ok range → IsCounted range
    go (Ok found) read same = subst IsCounted (at_end found.1.words found.0 range same) (blocks_counted l found read)
    go (Err e) read same = absurd (cc (same))

some_partitions : (l : Left) (lps : ℕ) → last partition_count_in l ≡ Ok lps → 1 ≤ lps
some_partitions l lps is =
    let word = last_means partition_count_in l lps is in
    let passes = only_passes (λ n. nat_le 1 n && nat_le n 65535) (number_in word.0) lps word.1 in
    leb-true 1 lps (and_parts (nat_le 1 lps) (nat_le lps 65535) passes).0

-- a value that must stand does
found_of : {T : Type 0} (o : Option T) (column : ℕ) (v : T) → or_misfit o column ≡ Ok v → o ≡ Some v
found_of (Some w) column v is = cc (is)
found_of None column v is = absurd (cc (is))

fits_ends : (l : Left) (c : Command) → IsWithinLimits c → Fits (ends l c)
unfolding Fits ends
fits_ends l c within = go l.words
  where
    go : (words : List WordAt) → Fits (ends_of words c)
    go [] = within
    go (w ∷ words) = tt

-- ---- the options of `mkvg`

named_word : (word name : List ℕ) → name_in word ≡ Some name → IsTrue (is_name name)
named_word word name is = go (is_name word) refl is
  where
    go : (b : Bool) → is_name word ≡ b → (if b then Some word else None) ≡ Some name → is_name name ≡ true
    go true passes same = let e : word ≡ name = cc (same) in ap is_name (sym e) ∙ passes
    go false fails same = absurd (cc (same))

IsFit : MkvgOptions → Type 0
IsFit o = ForSome o.mib (λ given. IsTrue (is_size given)) × ForSome o.name (λ name. IsTrue (is_name name))

with_name : (o : MkvgOptions) → IsFit o → (word : List ℕ) (after : MkvgOptions) → option_map (λ name. record o { name = Some name }) (name_in word) ≡ Some after → IsFit after
unfolding IsFit
with_name o fit word after is = mapped IsFit (λ name. record o { name = Some name }) (name_in word) after
    (λ name found. (fit.0, λ given its. (let h : name ≡ given = cc (its) in ap is_name (sym h) ∙ named_word word name found))) is

with_size : (o : MkvgOptions) → IsFit o → (word : List ℕ) (after : MkvgOptions) → option_map (λ mib. record o { mib = Some mib }) (size_in word) ≡ Some after → IsFit after
unfolding IsFit
with_size o fit word after is = mapped IsFit (λ mib. record o { mib = Some mib }) (size_in word) after
    (λ mib found. (λ given its. (let h : mib ≡ given = cc (its) in ap is_size (sym h) ∙ only_passes is_size (number_within 1 1024 word) mib found), fit.1)) is

choice_is_fit : (o : MkvgOptions) (word : List ℕ) → IsFit o → Keeping IsFit (mkvg_choice o word)
unfolding IsFit
choice_is_fit o word fit =
    keeping_if IsFit (is_new word (codes "-f") o.force) _ _ fit
    (keeping_if IsFit (is_new word (codes "-y") (is_some o.name)) _ _ (with_name o fit)
    (keeping_if IsFit (is_new word (codes "-s") (is_some o.mib)) _ _ (with_size o fit) tt))

-- ---- disks

none_of : (p : ℕ → Bool) (xs : List ℕ) → list_any p xs ≡ false → (k d : ℕ) → k < length xs → p (get_or xs k d) ≡ false
none_of p [] none k d lt = absurd (omega (arith, lt))
none_of p (x ∷ xs) none zero d lt = (or_parts (p x) (list_any p xs) none).0
none_of p (x ∷ xs) none (suc k) d lt = none_of p xs (or_parts (p x) (list_any p xs) none).1 k d (omega (arith, lt))

disks_differ : (before : List ℕ) (words : List WordAt) (end : ℕ) (all : List ℕ) → AllPairs (λ a b. a ≢ b) before → disks_of before words end ≡ Ok all → (1 ≤ length all) × AllPairs (λ a b. a ≢ b) all
disks_differ [] [] end all differ is = absurd (cc (is))
disks_differ (d ∷ before) [] end all differ is = let e : d ∷ before ≡ all = cc (is) in subst (λ (l : List ℕ). (1 ≤ length l) × AllPairs (λ a b. a ≢ b) l) e (omega arith, differ)
disks_differ before (w ∷ words) end all differ is = go (further_disk before w.bytes) refl (λ disk more. disks_differ (before ++ disk ∷ []) words end all more) is
  where
    go : (found : Option ℕ) → further_disk before w.bytes ≡ found → ((disk : ℕ) → AllPairs (λ a b. a ≢ b) (before ++ disk ∷ []) → disks_of (before ++ disk ∷ []) words end ≡ Ok all → (1 ≤ length all) × AllPairs (λ a b. a ≢ b) all)
        → then_ (or_misfit found w.column) (λ disk. disks_of (before ++ disk ∷ []) words end) ≡ Ok all → (1 ≤ length all) × AllPairs (λ a b. a ≢ b) all
    go (Some disk) found rec same =
        let passes = only_passes (is_further before) (disk_in w.bytes) disk found in
        let new = not-true (list_any (λ other. other == disk) before) (and_parts (not (list_any (λ other. other == disk) before)) (nat_lt (length before) 128) passes).0 in
        rec disk (all_pairs_push (λ a b. a ≢ b) before disk differ (λ k d lt equal. (let yes = eq-eqb (get_or before k d) disk equal in let no = none_of (λ other. other == disk) before new k d lt in cc (yes, no)))) same
    go None found rec same = absurd (cc (same))

-- ---- lines

fits_mkvg : (l : Left) → Fits (mkvg l)
unfolding Fits IsFit options disks
fits_mkvg l = fits_then (options mkvg_choice no_mkvg_options l) _ (λ o options_are. fits_then (required o.0.name o.1) _ (λ name named. fits_then (disks [] o.1) _ (λ all disks_are. whole o name all options_are named disks_are)))
  where
    whole : (o : MkvgOptions × Left) (name all : List ℕ) → options mkvg_choice no_mkvg_options l ≡ Ok o → required o.0.name o.1 ≡ Ok name → disks [] o.1 ≡ Ok all → (1 ≤ length all) × AllPairs (λ a b. a ≢ b) all × ForSome o.0.mib (λ given. IsTrue (is_size given)) × IsTrue (is_name name)
    whole o name all options_are named disks_are =
        let differ = disks_differ [] o.1.words o.1.end all (λ i j d less within. absurd (omega (arith, within))) disks_are in
        let kept = options_keep IsFit mkvg_choice choice_is_fit no_mkvg_options l.words l.end o (λ given its. absurd (cc (its)), λ given its. absurd (cc (its))) options_are in
        (differ.0, differ.1, kept.0, kept.1 name (found_of o.0.name (next_column o.1) name named))

fits_leaving : (name : List ℕ) (l : Left) → Fits (leaving name l)
unfolding Fits disks
fits_leaving name l = fits_then (disks [] l) _ (λ all disks_are. disks_differ [] l.words l.end all (λ i j d less within. absurd (omega (arith, within))) disks_are)

fits_reducevg : (l : Left) → Fits (reducevg l)
fits_reducevg l = fits_then (operand name_in l) _ (λ name n. fits_leaving name.0 name.1)

fits_rd : (l : Left) → Fits (rd l)
unfolding Fits IsCounted
fits_rd l =
    fits_if (is_next disk_in l) (rd_disk l) (rd_volume l)
    (fits_then (operand disk_in l) _ (λ disk d. fits_then (last_blocks disk.1) _ (λ range r. last_blocks_counted disk.1 range r)))
    (fits_then (operand name_in l) _ (λ name n. fits_then (last_blocks name.1) _ (λ range r. last_blocks_counted name.1 range r)))

fits_wr : (l : Left) → Fits (wr l)
unfolding Fits IsCounted
fits_wr l =
    fits_if (is_next disk_in l) (wr_disk l) (wr_volume l)
    (fits_then (operand disk_in l) _ (λ disk d. fits_then (blocks disk.1) _ (λ range r. fits_then (last word_in range.1) _ (λ word w. blocks_counted disk.1 range r))))
    (fits_then (operand name_in l) _ (λ name n. fits_then (blocks name.1) _ (λ range r. fits_then (last word_in range.1) _ (λ word w. blocks_counted name.1 range r))))

fits_post : (l : Left) → Fits (post l)
unfolding Fits IsCounted
fits_post l = fits_then (operand name_in l) _ (λ name n. fits_then (blocks name.1) _ (λ range r. fits_then (last word_in range.1) _ (λ word w. blocks_counted name.1 range r)))

fits_wait : (l : Left) → Fits (wait l)
fits_wait l = fits_ends l command.Wait tt

fits_step : (l : Left) → Fits (step l)
unfolding Fits
fits_step l = fits_then (last turns_in l) _ (λ turns t.
    let word = last_means turns_in l turns t in
    let parts = and_parts (nat_le 1 turns) (nat_le turns 1000000) (only_passes (λ n. nat_le 1 n && nat_le n 1000000) (number_in word.0) turns word.1) in
    (leb-true 1 turns parts.0, leb-true turns 1000000 parts.1))

few_copies : (l : Left) (copies : ℕ) → last copy_count_in l ≡ Ok copies → copies ≤ 9
few_copies l copies is =
    let word = last_means copy_count_in l copies is in
    leb-true copies 9 (and_parts (nat_le 0 copies) (nat_le copies 9) (only_passes (λ n. nat_le 0 n && nat_le n 9) (number_in word.0) copies word.1)).1

fits_mklvcopy : (l : Left) → Fits (mklvcopy l)
unfolding Fits
fits_mklvcopy l = fits_then (operand name_in l) _ (λ name n. fits_then (last copy_count_in name.1) _ (λ copies c. few_copies name.1 copies c))

fits_rmlvcopy : (l : Left) → Fits (rmlvcopy l)
unfolding Fits
fits_rmlvcopy l = fits_then (operand name_in l) _ (λ name n. fits_then (last copy_count_in name.1) _ (λ copies c. few_copies name.1 copies c))

fits_split_of : (l : Left) → Fits (split_of l)
unfolding Fits
fits_split_of l = fits_then (operand name_in l) _ (λ new n. fits_then (operand name_in new.1) _ (λ name n. fits_then (last copy_count_in name.1) _ (λ copies c. few_copies name.1 copies c)))

fits_splitlvcopy : (l : Left) → Fits (splitlvcopy l)
unfolding Fits
fits_splitlvcopy l = fits_if (option (codes "-y") l).0 _ _ (fits_split_of (option (codes "-y") l).1) tt

-- the second disk isn't the first one
disks_are_two : (l : Left) (from to : ℕ) → last (other_disk_in from) l ≡ Ok to → from ≢ to
disks_are_two l from to is same =
    let word = last_means (other_disk_in from) l to is in
    let other = not-true (to == from) (only_passes (λ other. not (other == from)) (disk_in word.0) to word.1) in
    let alike = eq-eqb to from (sym same) in
    cc (other, alike)

fits_moved_between : (volume : Option (List ℕ)) (l : Left) → Fits (moved_between volume l)
unfolding Fits
fits_moved_between volume l = fits_then (operand disk_in l) _ (λ from f. fits_then (last (other_disk_in from.0) from.1) _ (λ to t. disks_are_two from.1 from.0 to t))

fits_moved_of : (l : Left) → Fits (moved_of l)
fits_moved_of l = fits_then (operand name_in l) _ (λ name n. fits_moved_between (Some name.0) name.1)

fits_migratepv : (l : Left) → Fits (migratepv l)
fits_migratepv l = fits_if (option (codes "-l") l).0 _ _ (fits_moved_of (option (codes "-l") l).1) (fits_moved_between None (option (codes "-l") l).1)

fits_cut : (l : Left) → Fits (cut l)
unfolding Fits
fits_cut l = go l.words
  where
    go : (words : List WordAt) → Fits (cut_of words l)
    go [] = tt
    go (w ∷ words) = fits_then (last word_in l) (λ word. Ok (command.Cut word)) (λ word is. tt)

fits_sync_group : (l : Left) → Fits (sync_group l)
unfolding Fits
fits_sync_group l = fits_if (option (codes "-v") l).0 _ _ (fits_then (last name_in (option (codes "-v") l).1) (λ name. Ok (command.SyncGroup name)) (λ name is. tt)) tt

fits_syncvg : (l : Left) → Fits (syncvg l)
unfolding Fits
fits_syncvg l = fits_if (option (codes "-l") l).0 _ _ (fits_then (last name_in (option (codes "-l") l).1) (λ name. Ok (command.SyncVolume name)) (λ name is. tt)) (fits_sync_group (option (codes "-l") l).1)

fits_lslv : (l : Left) → Fits (lslv l)
unfolding Fits
fits_lslv l = fits_if (option (codes "-m") l).0 _ _ (fits_then (last name_in (option (codes "-m") l).1) (λ name. Ok (command.Lslv name)) (λ name is. tt)) tt

fits_mklv : (l : Left) → Fits (mklv l)
unfolding Fits
fits_mklv l = fits_then (options mklv_choice no_mklv_options l) _ (λ o options_are. fits_then (required o.0.name o.1) _ (λ name named.
    fits_then (operand name_in o.1) _ (λ group in_group. fits_then (last partition_count_in group.1) _ (λ lps partitions_are. some_partitions group.1 lps partitions_are))))

fits_varyonvg : (l : Left) → Fits (varyonvg l)
unfolding Fits
fits_varyonvg l = fits_then _ (λ x. Ok (command.Varyon x)) (λ x is. tt)

fits_varyoffvg : (l : Left) → Fits (varyoffvg l)
unfolding Fits
fits_varyoffvg l = fits_then _ (λ x. Ok (command.Varyoff x)) (λ x is. tt)

fits_lsvg : (l : Left) → Fits (lsvg l)
unfolding Fits
fits_lsvg l = fits_then _ (λ name. Ok (command.Lsvg (option (codes "-l") l).0 name)) (λ name is. tt)

fits_chvg_quorum : (l : Left) → Fits (chvg_quorum l)
unfolding Fits
fits_chvg_quorum l = fits_then (operand switch_in l) _ (λ on o. fits_then (last name_in on.1) _ (λ name n. tt))

fits_chvg_big : (l : Left) → Fits (chvg_big l)
unfolding Fits
fits_chvg_big l = fits_if (option (codes "-B") l).0 _ _ (fits_then (last name_in (option (codes "-B") l).1) (λ name. Ok (command.ChvgBig name)) (λ name is. tt)) tt

fits_chvg : (l : Left) → Fits (chvg l)
fits_chvg l = fits_if (option (codes "-Q") l).0 _ _ (fits_chvg_quorum (option (codes "-Q") l).1) (fits_chvg_big (option (codes "-Q") l).1)

fits_rmlv : (l : Left) → Fits (rmlv l)
unfolding Fits
fits_rmlv l = fits_then _ (λ x. Ok (command.Rmlv x)) (λ x is. tt)

fits_lspv : (l : Left) → Fits (lspv l)
unfolding Fits
fits_lspv l = fits_then _ (λ x. Ok (command.Lspv x)) (λ x is. tt)

fits_fail : (l : Left) → Fits (fail l)
unfolding Fits
fits_fail l = fits_then _ (λ x. Ok (command.Fail x)) (λ x is. tt)

fits_heal : (l : Left) → Fits (heal l)
unfolding Fits
fits_heal l = fits_then _ (λ x. Ok (command.Heal x)) (λ x is. tt)

-- the commands of each of these rows are within the bounds
abbrev RowsFit : List Row → Type 0
RowsFit [] = Unit {0}
RowsFit (r ∷ rs) = ((l : Left) → Fits (r.reads l)) × RowsFit rs

rows_fit : RowsFit rows
rows_fit = (fits_mkvg, (fits_reducevg, (fits_varyonvg, (fits_varyoffvg, (fits_lsvg, (fits_chvg, (fits_mklv, (fits_rmlv, (fits_mklvcopy, (fits_rmlvcopy, (fits_splitlvcopy, (fits_migratepv, (fits_syncvg, (fits_lslv, (fits_rd, (fits_wr, (fits_post, (fits_wait, (fits_step, (fits_lspv, (fits_fail, (fits_heal, (fits_cut, tt)))))))))))))))))))))))

fits_rule : (rs : List Row) (word : List ℕ) (column : ℕ) (l : Left) → RowsFit rs → Fits (rule rs word column l)
unfolding Fits
fits_rule [] word column l fit = tt
fits_rule (r ∷ rs) word column l fit = fits_if (bytes_eq word r.word) (r.reads l) (rule rs word column l) (fit.0 l) (fits_rule rs word column l fit.1)

-- a command that a line spells is within the grammar's bounds
pub line_is_within : (line : List ℕ) (c : Command) → line_of line ≡ Ok (Some c) → IsWithinLimits c
unfolding Fits
line_is_within line c is = of_line (unreadable_at line) (left_at 1 line) is
  where
    of_rule : (r : Result Command Misfit) → Fits r → then_ r (λ (x : Command). Ok (Some x)) ≡ Ok (Some c) → IsWithinLimits c
    of_rule (Ok x) fits same = let e : x ≡ c = cc (same) in subst IsWithinLimits e fits
    of_rule (Err e) fits same = absurd (cc (same))

    of_remark : (b : Bool) (r : Result Command Misfit) → Fits r → (if b then Ok None else then_ r (λ (x : Command). Ok (Some x))) ≡ Ok (Some c) → IsWithinLimits c
    of_remark true r fits same = absurd (cc (same))
    of_remark false r fits same = of_rule r fits same

    of_words : (words : List WordAt) (end : ℕ) → line_of_words words end ≡ Ok (Some c) → IsWithinLimits c
    of_words [] end same = absurd (cc (same))
    of_words (w ∷ words) end same = of_remark (is_remark w.bytes) (rule rows w.bytes w.column (record { words = words; end = end })) (fits_rule rows w.bytes w.column (record { words = words; end = end }) rows_fit) same

    of_line : (at : Option ℕ) (l : Left) → readable at l ≡ Ok (Some c) → IsWithinLimits c
    of_line (Some column) l same = absurd (cc (same))
    of_line None l same = of_words l.words l.end same
