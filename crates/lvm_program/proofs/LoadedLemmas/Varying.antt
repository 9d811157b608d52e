-- What the line asks for that varies a group on, and what it leaves.
use Rattle.std.proofs.Common.{◌≡◌, ◌≤◌, ◌+◌, ◌-◌, ◌++◌, ◌==◌, ◌&&◌, not, cond, ℕ, List, [], ◌∷◌, length, Bool, true, false, Option, Some, None, IfSome, Result, Ok, Err, refl, sym, ◌∙◌, ap, ap₂, subst, append_assoc, length-append, arith, nat_lt, nat_le}
use Rattle.std.specs.Prelude.{IsSomeAnd, codes, nat_eq, position}
use Rattle.std.specs.List.{list_all, starts_with, prefix_len}
use Rattle.std.proofs.lemmas.Bool.{and_parts}
use Rattle.std.proofs.lemmas.Bool.Decides.{nat_tests}
use Rattle.std.proofs.lemmas.List.{append-nil, take_all}
use Rattle.lvm_num.specs.Name.{is_letter, is_name, is_name_byte}
use Rattle.lvm_num.proofs.NameLemmas.{length-name, no_name}
use Rattle.lvm_disk.specs.Device.{Device}
use Rattle.lvm_io.specs.Count.{next_count}
use Rattle.lvm_vol.specs.Facts.{Fact, On}
use Rattle.lvm_vol.specs.Fronts.{own}
use Rattle.lvm_vol.specs.Log.{Log}
use Rattle.lvm_parse.specs.declared.command.Command.{Command}
use Rattle.lvm_parse.specs.declared.command.Command.TheVariants as command
use Rattle.lvm_parse.specs.Grammar.{line_of, readable, rows, rule}
use Rattle.lvm_parse.specs.declared.rest.Misfit.{Misfit}
use Rattle.lvm_parse.specs.Bytes.{is_plain, too_long_or, unreadable_at}
use Rattle.lvm_parse.specs.Line.{WordAt, finished, left_at, words_from}
use Rattle.lvm_parse.specs.Reading.{ends, operand, option, then_}
use Rattle.lvm_core.specs.declared.parts.Room.{Room}
use Rattle.lvm_core.specs.declared.refused.Cause.{Cause}
use Rattle.lvm_session.specs.State.{Core}
use Rattle.lvm_top.specs.passed.Line.{IsLine, LineDoes, asked_after}
use Rattle.lvm_top.specs.passed.GroupLines.{IsLeftByCall, NoVaryonWhileOn, Reply, ScriptState, Varies, VaryonDoes, itself, log_with, outcome_of, patience_of_line}
use Rattle.lvm_top.specs.passed.Quiesce.{RefusedAtOnce, StayedOut, VaryonOnceQuiet, WentQuiet}
use Rattle.lvm_top.specs.passed.ReplyVariants as reply
use Rattle.lvm_load.specs.Loading.{NoneHasBegun}
use Rattle.lvm_program.specs.Loaded.{varyon_line}
use Rattle.lvm_program.specs.Woven.{asked_woven}

-- ---- the words of the line

abbrev first_part : List ℕ
first_part = codes "varyonvg "

-- a byte of a name prints, and is no blank
name_prints : (b : ℕ) → is_name_byte b ≡ true → is_plain b ≡ true
name_prints b is = grind (arith, nat_tests)

no_blank : (b : ℕ) → is_name_byte b ≡ true → (b == 32) ≡ false
no_blank b is = grind (arith, nat_tests)

no_hyphen : (b : ℕ) → is_letter b ≡ true → (b == 45) ≡ false
no_hyphen b is = grind (arith, nat_tests)

letter_of_name : (b : ℕ) → is_letter b ≡ true → is_name_byte b ≡ true
letter_of_name b is = grind (arith, nat_tests)

-- the bytes of a name are those of one
name_bytes : (b : ℕ) (bs : List ℕ) → is_name (b ∷ bs) ≡ true → (is_letter b ≡ true) × (list_all is_name_byte bs ≡ true)
unfolding is_name
name_bytes b bs e =
    let outer = and_parts (nat_le (length bs) 14 && not (starts_with nat_eq (b ∷ bs) (codes "hdisk")) && is_letter b) (list_all is_name_byte bs) e in
    ((and_parts (nat_le (length bs) 14 && not (starts_with nat_eq (b ∷ bs) (codes "hdisk"))) (is_letter b) outer.0).1, outer.1)

-- such bytes go on a word
one_word : (column : ℕ) (word name : List ℕ) → list_all is_name_byte name ≡ true → words_from column word name ≡ finished (column + length name) (word ++ name) []
one_word column word [] all = ap₂ (λ (n : ℕ) (w : List ℕ). finished n w []) (let e : column ≡ column + 0 = omega arith in e) (sym (append-nil word))
one_word column word (b ∷ name) all =
    let parts = and_parts (is_name_byte b) (list_all is_name_byte name) all in
    ap (λ (t : Bool). cond t (finished column word (words_from (column + 1) [] name)) (words_from (column + 1) (word ++ b ∷ []) name)) (no_blank b parts.0)
    ∙ one_word (column + 1) (word ++ b ∷ []) name parts.1
    ∙ ap₂ (λ (n : ℕ) (w : List ℕ). finished n w []) (let e : column + 1 + length name ≡ column + length (b ∷ name) = omega arith in e) (append_assoc word (b ∷ []) name)

-- ---- no byte of it is bad

none_bad : (line : List ℕ) → list_all is_plain line ≡ true → prefix_len (λ b. not (not (is_plain b))) line ≡ length line
none_bad [] all = refl
none_bad (b ∷ line) all =
    let parts = and_parts (is_plain b) (list_all is_plain line) all in
    ap (λ (t : Bool). cond (not (not t)) (1 + prefix_len (λ b. not (not (is_plain b))) line) 0) parts.0 ∙ (let rest = none_bad line parts.1 in omega (arith, rest))

not_less : (n : ℕ) → nat_lt n n ≡ false
not_less n = grind (arith, nat_tests)

no_place : (line : List ℕ) → list_all is_plain line ≡ true → position (λ b. not (is_plain b)) line ≡ None
no_place line all =
    ap (λ (n : ℕ). cond (nat_lt n (length line)) (Some n) None) (none_bad line all) ∙ ap (λ (t : Bool). cond t (Some (length line)) None) (not_less (length line))

not_long : (n : ℕ) → n ≤ 4096 → nat_lt 4096 n ≡ false
not_long n few = grind (arith, nat_tests)

all_readable : (line : List ℕ) → list_all is_plain line ≡ true → length line ≤ 4096 → unreadable_at line ≡ None
all_readable line all few =
    ap (λ (l : List ℕ). too_long_or (position (λ b. not (is_plain b)) l) (length line)) (take_all 4096 line few)
    ∙ ap (λ (o : Option ℕ). too_long_or o (length line)) (no_place line all)
    ∙ ap (λ (t : Bool). cond t (Some 4097) None) (not_long (length line) few)

names_print : (name : List ℕ) → list_all is_name_byte name ≡ true → list_all is_plain name ≡ true
names_print [] all = refl
names_print (b ∷ name) all = let parts = and_parts (is_name_byte b) (list_all is_name_byte name) all in rw (name_prints b parts.0, names_print name parts.1) refl

-- ---- what it asks for

reads_name : (b : ℕ) (bs : List ℕ) (column end : ℕ) → (b == 45) ≡ false → is_name (b ∷ bs) ≡ true
    → rule rows (codes "varyonvg") 1 (record { words = record { column = column; bytes = b ∷ bs } ∷ []; end = end }) ≡ Ok (command.Varyon (b ∷ bs))
unfolding option operand ends
reads_name b bs column end unsigned is = rw (unsigned, is) refl

pub varyon_reads : (name : List ℕ) → is_name name ≡ true → line_of (varyon_line name) ≡ Ok (Some (command.Varyon name))
varyon_reads [] is = let no = no_name [] refl in absurd (cc (no, is))
varyon_reads (b ∷ bs) is =
    let parts = name_bytes b bs is in
    let all : list_all is_name_byte (b ∷ bs) ≡ true = rw (letter_of_name b parts.0, parts.1) refl in
    let few : length (first_part ++ b ∷ bs) ≤ 4096 = let short = length-name (b ∷ bs) is in omega (arith, short, length-append first_part (b ∷ bs)) in
    let plain : list_all is_plain (first_part ++ b ∷ bs) ≡ true = names_print (b ∷ bs) all in
    let its_words : words_from 10 [] (b ∷ bs) ≡ finished (10 + length (b ∷ bs)) (b ∷ bs) [] = one_word 10 [] (b ∷ bs) all in
    ap (λ (o : Option ℕ). readable o (left_at 1 (varyon_line (b ∷ bs)))) (all_readable (varyon_line (b ∷ bs)) plain few)
    ∙ ap (λ (words : List WordAt). readable None (record { words = record { column = 1; bytes = codes "varyonvg" } ∷ words; end = 1 + length (varyon_line (b ∷ bs)) })) its_words
    ∙ ap (λ (read : Result Command Misfit). then_ read (λ c. Ok (Some c))) (reads_name b bs (10 + length (b ∷ bs) - length (b ∷ bs)) (1 + length (varyon_line (b ∷ bs))) (no_hyphen b parts.0) is)

-- ---- what it leaves

module _ (log : Log) (room : Room) (name : List ℕ) (old new : ScriptState) where
  -- the session's history has one entry more
  abbrev HasOnlyOn : Core → Type 0
  HasOnlyOn core = (m : ℕ) × (core.history.facts ≡ old.moment.facts ++ On m ∷ [])

  given_on : (left : Device) (core : Core) → VaryonOnceQuiet itself (log_with log old.moment.facts) name new.last room patience_of_line old.moment.device (Ok (left, core)) → HasOnlyOn core
  given_on left core (RefusedAtOnce refused is first same kept) = absurd (cc is)
  given_on left core (StayedOut refused is may out) = absurd (cc is)
  given_on left core (WentQuiet may once) = (new.last, ap (λ (c : Core). c.history.facts) once.goes.gives.first.is)

  varied_on : VaryonDoes log room name old new reply.Ok → IfSome new.session HasOnlyOn
  varied_on (NoVaryonWhileOn on says asked) = absurd (cc says)
  varied_on (Varies brings) = by brings.given brings.gives brings.left
    where
      by : (given : Result Core Cause) → VaryonOnceQuiet itself (log_with log old.moment.facts) name new.last room patience_of_line old.moment.device (outcome_of brings.shelf brings.history given)
          → IsLeftByCall brings.shelf brings.history old new reply.Ok given → IfSome new.session HasOnlyOn
      by (Ok core) gives left = subst (λ (o : Option Core). IfSome o HasOnlyOn) (sym left.2.after) (given_on brings.shelf core gives)
      by (Err why) gives left = let e = left.answered in absurd (cc e)

-- no client has begun a request in its history, which was empty before
only_fresh : (facts : List Fact) (m : ℕ) → facts ≡ On m ∷ [] → NoneHasBegun facts
only_fresh facts m is c = ap (own c) is

pub varied_fresh : (log : Log) (room : Room) (name : List ℕ) (old new : ScriptState) → is_name name ≡ true → old.moment.facts ≡ [] → (answer : Reply) → answer ≡ reply.Ok → IsLine log room (varyon_line name) answer old new
    → IfSome new.session (λ core. NoneHasBegun core.history.facts)
varied_fresh log room name old new is none answer ok line = by new.session (varied_on log room name old new does)
  where
    does : VaryonDoes log room name old new reply.Ok
    does = subst (λ (read : Result (Option Command) Misfit). LineDoes log room read old new reply.Ok) (varyon_reads name is) (subst (λ (a : Reply). LineDoes log room (line_of (varyon_line name)) old new a) ok line.does)

    by : (on : Option Core) → IfSome on (λ core. (m : ℕ) × (core.history.facts ≡ old.moment.facts ++ On m ∷ [])) → IfSome on (λ core. NoneHasBegun core.history.facts)
    by None holds = tt
    by (Some core) (m, only) = only_fresh core.history.facts m (only ∙ ap (λ (facts : List Fact). facts ++ On m ∷ []) none)

-- ---- how often the clock is asked

pub varyon_asks : (name : List ℕ) → is_name name ≡ true → (line : List ℕ) → line ≡ varyon_line name → (asked begun now : ℕ) → begun ≡ next_count asked → (P : Log → Type 0) (h : Option Log) → IsSomeAnd h P → now ≡ asked_after (line_of line) begun → now ≡ asked_woven h asked
varyon_asks name is line same asked begun now once P None some has = absurd some
varyon_asks name is line same asked begun now once P (Some log) some has =
    has ∙ ap (λ (l : List ℕ). asked_after (line_of l) begun) same ∙ ap (λ (read : Result (Option Command) Misfit). asked_after read begun) (varyon_reads name is) ∙ ap next_count once
