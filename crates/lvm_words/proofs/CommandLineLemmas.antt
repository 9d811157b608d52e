-- What `clap` makes of plain words.
use Rattle.std.proofs.Common.{◌≡◌, ◌∙◌, ◌-◌, ◌^◌, ◌==◌, ℕ, Bool, true, false, cond, ◌&&◌, ◌||◌, List, [], ◌∷◌, Option, Some, None, refl, sym, ap, ap₂, codes, fold, is_some, option_and_then, option_map}
use Rattle.std.specs.Str.{bytes_eq}
use Rattle.clap.specs.Lexer.{strip_byte, long_of, long_of_rest, short_of, short_of_rest}
use Rattle.clap.specs.Walk.{settled, finished, Held, Names, Step, Walk, idle, value, trailing, nothing_held, walk_from, walked, after_step, to_positional, arg_by_index, long_or_other, short_or_plain, subcommand_met, subcommand_or_other}
use Rattle.clap.specs.Kinds.{or_else, value_kinds}
use Rattle.clap.specs.Faults.{entered_fault, level_fault, turn_fault, walk_fault, step_fault, flag_word_fault, bundle_fault, settle_fault, defaults_fault, check_fault, other_fault}
use Rattle.clap.specs.Simple.{entered, built, built_leaf, inherited, names_of, on_top, marked_built, with_leaf_noted}
use Rattle.clap.specs.Words.{App, Row, Rule, Shape, Text, is_simple, subcommand_of, Kinds, fault_of, is_simple_and_free}
use Rattle.clap.specs.declared.error.kind.ErrorKind.TheVariants as kind
use Rattle.clap.specs.declared.builder.value_parser.ValueParser.{ValueParser}
use Rattle.clap.specs.declared.builder.value_parser.ValueParser.TheVariants as parser
use Rattle.clap.specs.declared.builder.value_parser.Reading.TheVariants.{AsWritten}
use Rattle.clap.specs.declared.parser.matches.ValueSource.TheVariants.{CommandLine}
use Rattle.clap.proofs.OnLiterals.{clap_on_literals}
use Rattle.clap.proofs.FaultLemmas.{stopped_fault}
use Rattle.clap.proofs.WalkLemmas.{walk_stopped}
use Rattle.lvm_words.specs.CommandLine.{is_signed, lvm_app, script_app, sim_app, gen_app, image_app, weave_app}

pub is_free : is_simple_and_free lvm_app ≡ true
unfolding clap_on_literals
is_free = refl

pub is_simple_app : is_simple lvm_app ≡ true
unfolding clap_on_literals
is_simple_app = refl

-- ---- a word without a sign in front is no flag

no_hyphen : (b : ℕ) → (b == 43 || b == 45) ≡ false → (b == 45) ≡ false
no_hyphen b is = go (b == 43) (b == 45) is
  where
    go : (p q : Bool) → (p || q) ≡ false → q ≡ false
    go false q e = e
    go true q e = absurd (cc)

no_strip : (word : Text) → is_signed word ≡ false → strip_byte 45 word ≡ None
no_strip [] is = refl
no_strip (b ∷ word) is = ap (λ (t : Bool). cond t (Some word) None) (no_hyphen b is)

no_dashes : (word : Text) → is_signed word ≡ false → bytes_eq word (45 ∷ 45 ∷ []) ≡ false
no_dashes [] is = refl
no_dashes (b ∷ word) is = ap (λ (t : Bool). t && bytes_eq word (45 ∷ [])) (no_hyphen b is)

no_long : (word : Text) → is_signed word ≡ false → long_of word ≡ None
no_long word is = ap (λ (o : Option Text). option_and_then long_of_rest (option_and_then (strip_byte 45) o)) (no_strip word is)

no_short : (word : Text) → is_signed word ≡ false → short_of word ≡ None
no_short word is = ap (λ (o : Option Text). option_and_then short_of_rest o) (no_strip word is)

other_is_value : (rules : List Rule) (position : ℕ) (word : Text) (h : Held) → is_signed word ≡ false → subcommand_or_other rules None idle position word h ≡ (h, value)
other_is_value rules position word h is =
    ap (λ (t : Bool). cond t (h, trailing position) (long_or_other rules idle word (long_of word) h)) (no_dashes word is)
    ∙ ap (λ o. long_or_other rules idle word o h) (no_long word is)
    ∙ ap (λ o. short_or_plain rules idle word o h) (no_short word is)

other_faultless : (s : Shape) (word : Text) (h : Held) → is_signed word ≡ false → other_fault s None word h ≡ []
other_faultless s word h is =
    ap (λ (t : Bool). cond t [] (flag_word_fault s.rules s.args_override_self (long_of word) word h)) (no_dashes word is)
    ∙ ap (λ o. flag_word_fault s.rules s.args_override_self o word h) (no_long word is)
    ∙ ap (λ o. Rattle.std.specs.Option.option_map_or (λ flags. bundle_fault s.rules s.args_override_self flags h) o []) (no_short word is)

-- ---- a level without jobs below it

abbrev between : Held → ℕ → Walk
between h position = record { held = h; waiting = idle; position = position; is_trailing = false; stopped = None }

-- each plain word goes to a positional
next_walk : (rules : List Rule) (h : Held) (position : ℕ) (word : Text) → is_signed word ≡ false
    → walked rules [] (between h position) word ≡ to_positional rules (arg_by_index rules position) word (between h position) h
unfolding walked
next_walk rules h position word is = ap (λ (met : Held × Step). after_step rules word (between h position) met.0 met.1) (other_is_value rules position word h is)

next_fault : (s : Shape) (h : Held) (position : ℕ) (word : Text) → is_signed word ≡ false → turn_fault s [] (between h position) word ≡ step_fault s position h value
next_fault s h position word is =
    ap (λ (kinds : Kinds). or_else kinds (step_fault s position (subcommand_or_other s.rules None idle position word h).0 (subcommand_or_other s.rules None idle position word h).1)) (other_faultless s word h is)
    ∙ ap (λ (met : Held × Step). step_fault s position met.0 met.1) (other_is_value s.rules position word h is)

abbrev pub fails : Kinds → Bool
fails [] = false
fails (k ∷ kinds) = true

pub fails_first : (a b : Kinds) → fails a ≡ true → fails (or_else a b) ≡ true
fails_first [] b is = absurd (cc)
fails_first (k ∷ a) b is = refl

pub fails_next : (a b : Kinds) → fails b ≡ true → fails (or_else a b) ≡ true
fails_next [] b is = is
fails_next (k ∷ a) b is = refl

-- a job, as it is built
abbrev pub leaf : App → Shape
leaf a = built_leaf (inherited (on_top with_leaf_noted (on_top marked_built lvm_app)).top a.top)

abbrev pub level : App → List Text → Kinds
level a words = level_fault (leaf a) [] nothing_held words false []

-- what a level's checks behind its words say
abbrev ends : Shape → Held → Kinds
ends s h = or_else (settle_fault s.rules s.args_override_self h) (or_else (defaults_fault (settled s.rules h).rows s.rules) (check_fault s (finished s.rules h) false))

pub script_alone : level script_app [] ≡ []
unfolding clap_on_literals
script_alone = refl

script_first : (word : Text) → is_signed word ≡ false → turn_fault (leaf script_app) [] (walk_from nothing_held) word ≡ kind.UnknownArgument ∷ []
script_first word is = next_fault (leaf script_app) nothing_held 1 word is

pub script_more : (word : Text) (more : List Text) → is_signed word ≡ false → fails (level script_app (word ∷ more)) ≡ true
unfolding clap_on_literals
script_more word more is =
    let s : Shape = leaf script_app in
    let later : Kinds = walk_fault s [] (walked s.rules [] (walk_from nothing_held) word) more in
    fails_first (or_else (turn_fault s [] (walk_from nothing_held) word) later) _ (fails_first (turn_fault s [] (walk_from nothing_held) word) later (ap fails (script_first word is)))

-- ---- a job with two numbers

pub data Numbered : Type 0 where
  sim : Numbered
  gen : Numbered
  image : Numbered

abbrev pub app_for : Numbered → App
app_for sim = sim_app
app_for gen = gen_app
app_for image = image_app

abbrev pub first_id : Numbered → Text
first_id sim = codes "DISKS"
first_id gen = codes "SEED"
first_id image = codes "N"

abbrev pub second_id : Numbered → Text
second_id sim = codes "MIB"
second_id gen = codes "COUNT"
second_id image = codes "MIB"

abbrev pub first_parser : Numbered → ValueParser
first_parser sim = parser.Unsigned 1 32
first_parser gen = parser.Unsigned 0 (2 ^ 64 - 1)
first_parser image = parser.Unsigned 0 127

abbrev pub second_parser : Numbered → ValueParser
second_parser sim = parser.Unsigned 1 64
second_parser gen = parser.Unsigned 0 100000
second_parser image = parser.Unsigned 1 4096

abbrev pub first_row : Numbered → Text → Row
first_row j word = record { id = first_id j; values = word ∷ []; count = None; source = Some CommandLine; reading = AsWritten }

abbrev pub second_row : Numbered → Text → Row
second_row j word = record { id = second_id j; values = word ∷ []; count = None; source = Some CommandLine; reading = AsWritten }

abbrev held_one : Numbered → Text → Held
held_one j word = record { rows = []; pending = Some (first_id j, word ∷ []); skip = 0 }

abbrev held_two : Numbered → Text → Text → Held
held_two j first second = record { rows = first_row j first ∷ []; pending = Some (second_id j, second ∷ []); skip = 0 }

walked_one : (j : Numbered) (a : Text) → is_signed a ≡ false → walked (leaf (app_for j)).rules [] (walk_from nothing_held) a ≡ between (held_one j a) 2
walked_one sim a is = next_walk (leaf sim_app).rules nothing_held 1 a is
walked_one gen a is = next_walk (leaf gen_app).rules nothing_held 1 a is
walked_one image a is = next_walk (leaf image_app).rules nothing_held 1 a is

walked_two : (j : Numbered) (a b : Text) → is_signed b ≡ false → walked (leaf (app_for j)).rules [] (between (held_one j a) 2) b ≡ between (held_two j a b) 3
walked_two sim a b is = next_walk (leaf sim_app).rules (held_one sim a) 2 b is
walked_two gen a b is = next_walk (leaf gen_app).rules (held_one gen a) 2 b is
walked_two image a b is = next_walk (leaf image_app).rules (held_one image a) 2 b is

turn_one : (j : Numbered) (a : Text) → is_signed a ≡ false → turn_fault (leaf (app_for j)) [] (walk_from nothing_held) a ≡ []
turn_one sim a is = next_fault (leaf sim_app) nothing_held 1 a is
turn_one gen a is = next_fault (leaf gen_app) nothing_held 1 a is
turn_one image a is = next_fault (leaf image_app) nothing_held 1 a is

turn_two : (j : Numbered) (a b : Text) → is_signed b ≡ false → turn_fault (leaf (app_for j)) [] (between (held_one j a) 2) b ≡ or_else (value_kinds false (first_parser j) a) []
turn_two sim a b is = next_fault (leaf sim_app) (held_one sim a) 2 b is
turn_two gen a b is = next_fault (leaf gen_app) (held_one gen a) 2 b is
turn_two image a b is = next_fault (leaf image_app) (held_one image a) 2 b is

turn_three : (j : Numbered) (a b c : Text) → is_signed c ≡ false → turn_fault (leaf (app_for j)) [] (between (held_two j a b) 3) c ≡ kind.UnknownArgument ∷ []
turn_three sim a b c is = next_fault (leaf sim_app) (held_two sim a b) 3 c is
turn_three gen a b c is = next_fault (leaf gen_app) (held_two gen a b) 3 c is
turn_three image a b c is = next_fault (leaf image_app) (held_two image a b) 3 c is

-- how the two numbers stand at the end
abbrev pub two_kinds : Kinds → Kinds → Kinds
two_kinds first second = or_else (or_else [] (or_else (or_else first []) [])) (or_else [] (or_else (or_else second []) []))

ends_two : (j : Numbered) (a b : Text) → ends (leaf (app_for j)) (held_two j a b) ≡ or_else (or_else (value_kinds false (second_parser j) b) []) []
unfolding clap_on_literals
ends_two sim a b = refl
ends_two gen a b = refl
ends_two image a b = refl

ends_one : (j : Numbered) (a : Text) → ends (leaf (app_for j)) (held_one j a) ≡ or_else (or_else (value_kinds false (first_parser j) a) []) (kind.MissingRequiredArgument ∷ [])
unfolding clap_on_literals
ends_one sim a = refl
ends_one gen a = refl
ends_one image a = refl

pub level_none : (j : Numbered) → fails (level (app_for j) []) ≡ true
unfolding clap_on_literals
level_none sim = refl
level_none gen = refl
level_none image = refl

pub level_one : (j : Numbered) (a : Text) → is_signed a ≡ false → fails (level (app_for j) (a ∷ [])) ≡ true
unfolding clap_on_literals
level_one j a is =
    let s : Shape = leaf (app_for j) in
    fails_next (or_else (turn_fault s [] (walk_from nothing_held) a) []) _
    (ap (λ (w : Walk). fails (ends s w.held)) (walked_one j a is) ∙ ap fails (ends_one j a) ∙ fails_next (or_else (value_kinds false (first_parser j) a) []) (kind.MissingRequiredArgument ∷ []) refl)

pub level_two : (j : Numbered) (a b : Text) → is_signed a ≡ false → is_signed b ≡ false → level (app_for j) (a ∷ b ∷ []) ≡ two_kinds (value_kinds false (first_parser j) a) (value_kinds false (second_parser j) b)
unfolding clap_on_literals
level_two j a b is_a is_b =
    let s : Shape = leaf (app_for j) in
    ap (λ (w : Walk). or_else (or_else (turn_fault s [] (walk_from nothing_held) a) (or_else (turn_fault s [] w b) [])) (ends s (walked s.rules [] w b).held)) (walked_one j a is_a)
    ∙ ap₂ (λ (one two : Kinds). or_else (or_else one (or_else two [])) (ends s (walked s.rules [] (between (held_one j a) 2) b).held)) (turn_one j a is_a) (turn_two j a b is_b)
    ∙ ap (λ (w : Walk). or_else (or_else [] (or_else (or_else (value_kinds false (first_parser j) a) []) [])) (ends s w.held)) (walked_two j a b is_b)
    ∙ ap (λ (k : Kinds). or_else (or_else [] (or_else (or_else (value_kinds false (first_parser j) a) []) [])) k) (ends_two j a b)

pub level_more : (j : Numbered) (a b c : Text) (more : List Text) → is_signed a ≡ false → is_signed b ≡ false → is_signed c ≡ false → fails (level (app_for j) (a ∷ b ∷ c ∷ more)) ≡ true
unfolding clap_on_literals
level_more j a b c more is_a is_b is_c =
    let s : Shape = leaf (app_for j) in
    let w1 : Walk = walked s.rules [] (walk_from nothing_held) a in
    let w2 : Walk = walked s.rules [] w1 b in
    let at_two : w2 ≡ between (held_two j a b) 3 = ap (λ (w : Walk). walked s.rules [] w b) (walked_one j a is_a) ∙ walked_two j a b is_b in
    let third : fails (turn_fault s [] w2 c) ≡ true = ap (λ (w : Walk). fails (turn_fault s [] w c)) at_two ∙ ap fails (turn_three j a b c is_c) in
    let later : Kinds = walk_fault s [] (walked s.rules [] w2 c) more in
    fails_first (walk_fault s [] (walk_from nothing_held) (a ∷ b ∷ c ∷ more)) _
    (fails_next (turn_fault s [] (walk_from nothing_held) a) (or_else (turn_fault s [] w1 b) (or_else (turn_fault s [] w2 c) later))
    (fails_next (turn_fault s [] w1 b) (or_else (turn_fault s [] w2 c) later) (fails_first (turn_fault s [] w2 c) later third)))

-- ---- the job with five numbers

abbrev pub disks_parser : ValueParser
disks_parser = parser.Unsigned 1 8

abbrev pub mib_parser : ValueParser
mib_parser = parser.Unsigned 8 64

abbrev pub clients_parser : ValueParser
clients_parser = parser.Unsigned 1 64

abbrev pub requests_parser : ValueParser
requests_parser = parser.Unsigned 0 50000

abbrev pub seed_parser : ValueParser
seed_parser = parser.Unsigned 0 (2 ^ 64 - 1)

abbrev pub row_of : Text → Text → Row
row_of id word = record { id = id; values = word ∷ []; count = None; source = Some CommandLine; reading = AsWritten }

-- the rows of the words before the last, and the last
abbrev pending : List Row → Text → Text → Held
pending rows id word = record { rows = rows; pending = Some (id, word ∷ []); skip = 0 }

abbrev held_1 : Text → Held
held_1 a = pending [] (codes "DISKS") a

abbrev held_2 : Text → Text → Held
held_2 a b = pending (row_of (codes "DISKS") a ∷ []) (codes "MIB") b

abbrev held_3 : Text → Text → Text → Held
held_3 a b c = pending (row_of (codes "DISKS") a ∷ row_of (codes "MIB") b ∷ []) (codes "CLIENTS") c

abbrev held_4 : Text → Text → Text → Text → Held
held_4 a b c d = pending (row_of (codes "DISKS") a ∷ row_of (codes "MIB") b ∷ row_of (codes "CLIENTS") c ∷ []) (codes "REQUESTS") d

abbrev held_5 : Text → Text → Text → Text → Text → Held
held_5 a b c d e = pending (row_of (codes "DISKS") a ∷ row_of (codes "MIB") b ∷ row_of (codes "CLIENTS") c ∷ row_of (codes "REQUESTS") d ∷ []) (codes "SEED") e

abbrev five : Shape
five = leaf weave_app

module _ (a : Text) (is_a : is_signed a ≡ false) where
  walk_1 : walked five.rules [] (walk_from nothing_held) a ≡ between (held_1 a) 2
  walk_1 = next_walk five.rules nothing_held 1 a is_a

  turn_1 : turn_fault five [] (walk_from nothing_held) a ≡ []
  turn_1 = next_fault five nothing_held 1 a is_a

  module _ (b : Text) (is_b : is_signed b ≡ false) where
    walk_2 : walked five.rules [] (between (held_1 a) 2) b ≡ between (held_2 a b) 3
    walk_2 = next_walk five.rules (held_1 a) 2 b is_b

    turn_2 : turn_fault five [] (between (held_1 a) 2) b ≡ or_else (value_kinds false disks_parser a) []
    turn_2 = next_fault five (held_1 a) 2 b is_b

    module _ (c : Text) (is_c : is_signed c ≡ false) where
      walk_3 : walked five.rules [] (between (held_2 a b) 3) c ≡ between (held_3 a b c) 4
      walk_3 = next_walk five.rules (held_2 a b) 3 c is_c

      turn_3 : turn_fault five [] (between (held_2 a b) 3) c ≡ or_else (value_kinds false mib_parser b) []
      turn_3 = next_fault five (held_2 a b) 3 c is_c

      module _ (d : Text) (is_d : is_signed d ≡ false) where
        walk_4 : walked five.rules [] (between (held_3 a b c) 4) d ≡ between (held_4 a b c d) 5
        walk_4 = next_walk five.rules (held_3 a b c) 4 d is_d

        turn_4 : turn_fault five [] (between (held_3 a b c) 4) d ≡ or_else (value_kinds false clients_parser c) []
        turn_4 = next_fault five (held_3 a b c) 4 d is_d

        module _ (e : Text) (is_e : is_signed e ≡ false) where
          walk_5 : walked five.rules [] (between (held_4 a b c d) 5) e ≡ between (held_5 a b c d e) 6
          walk_5 = next_walk five.rules (held_4 a b c d) 5 e is_e

          turn_5 : turn_fault five [] (between (held_4 a b c d) 5) e ≡ or_else (value_kinds false requests_parser d) []
          turn_5 = next_fault five (held_4 a b c d) 5 e is_e

          turn_6 : (f : Text) → is_signed f ≡ false → turn_fault five [] (between (held_5 a b c d e) 6) f ≡ kind.UnknownArgument ∷ []
          turn_6 f is_f = next_fault five (held_5 a b c d e) 6 f is_f

-- what the turns and the end say, one after the other
abbrev turns_kinds : Kinds → Kinds → Kinds → Kinds → Kinds → Kinds → Kinds
turns_kinds t1 t2 t3 t4 t5 end = or_else (or_else t1 (or_else t2 (or_else t3 (or_else t4 (or_else t5 []))))) end

-- how the five numbers stand at the end
abbrev pub five_kinds : Kinds → Kinds → Kinds → Kinds → Kinds → Kinds
five_kinds k1 k2 k3 k4 k5 = turns_kinds [] (or_else k1 []) (or_else k2 []) (or_else k3 []) (or_else k4 []) (or_else (or_else k5 []) [])

-- where a number is lacking at the end
lacks : (w : Walk) (h : Held) (position : ℕ) → w ≡ between h position → fails (ends five h) ≡ true → fails (ends five w.held) ≡ true
lacks w h position is some = ap (λ (v : Walk). fails (ends five v.held)) is ∙ some

ends_0 : fails (ends five nothing_held) ≡ true
unfolding clap_on_literals
ends_0 = refl

ends_1 : (a : Text) → fails (ends five (held_1 a)) ≡ true
unfolding clap_on_literals
ends_1 a = fails_next (or_else (value_kinds false disks_parser a) []) (kind.MissingRequiredArgument ∷ []) refl

ends_2 : (a b : Text) → fails (ends five (held_2 a b)) ≡ true
unfolding clap_on_literals
ends_2 a b = fails_next (or_else (value_kinds false mib_parser b) []) (kind.MissingRequiredArgument ∷ []) refl

ends_3 : (a b c : Text) → fails (ends five (held_3 a b c)) ≡ true
unfolding clap_on_literals
ends_3 a b c = fails_next (or_else (value_kinds false clients_parser c) []) (kind.MissingRequiredArgument ∷ []) refl

ends_4 : (a b c d : Text) → fails (ends five (held_4 a b c d)) ≡ true
unfolding clap_on_literals
ends_4 a b c d = fails_next (or_else (value_kinds false requests_parser d) []) (kind.MissingRequiredArgument ∷ []) refl

ends_5 : (a b c d e : Text) → ends five (held_5 a b c d e) ≡ or_else (or_else (value_kinds false seed_parser e) []) []
unfolding clap_on_literals
ends_5 a b c d e = refl

pub five_none : fails (level weave_app []) ≡ true
unfolding clap_on_literals
five_none = ends_0

module _ (a b c d e : Text) (is_a : is_signed a ≡ false) (is_b : is_signed b ≡ false) (is_c : is_signed c ≡ false) (is_d : is_signed d ≡ false) (is_e : is_signed e ≡ false) where
  abbrev w_1 : Walk
  w_1 = walked five.rules [] (walk_from nothing_held) a

  abbrev w_2 : Walk
  w_2 = walked five.rules [] w_1 b

  abbrev w_3 : Walk
  w_3 = walked five.rules [] w_2 c

  abbrev w_4 : Walk
  w_4 = walked five.rules [] w_3 d

  abbrev w_5 : Walk
  w_5 = walked five.rules [] w_4 e

  at_2 : w_2 ≡ between (held_2 a b) 3
  at_2 = ap (λ (w : Walk). walked five.rules [] w b) (walk_1 a is_a) ∙ walk_2 a is_a b is_b

  at_3 : w_3 ≡ between (held_3 a b c) 4
  at_3 = ap (λ (w : Walk). walked five.rules [] w c) at_2 ∙ walk_3 a is_a b is_b c is_c

  at_4 : w_4 ≡ between (held_4 a b c d) 5
  at_4 = ap (λ (w : Walk). walked five.rules [] w d) at_3 ∙ walk_4 a is_a b is_b c is_c d is_d

  at_5 : w_5 ≡ between (held_5 a b c d e) 6
  at_5 = ap (λ (w : Walk). walked five.rules [] w e) at_4 ∙ walk_5 a is_a b is_b c is_c d is_d e is_e

  pub five_one : fails (level weave_app (a ∷ [])) ≡ true
  unfolding clap_on_literals
  five_one = fails_next (walk_fault five [] (walk_from nothing_held) (a ∷ [])) _ (lacks w_1 (held_1 a) 2 (walk_1 a is_a) (ends_1 a))

  pub five_two : fails (level weave_app (a ∷ b ∷ [])) ≡ true
  unfolding clap_on_literals
  five_two = fails_next (walk_fault five [] (walk_from nothing_held) (a ∷ b ∷ [])) _ (lacks w_2 (held_2 a b) 3 at_2 (ends_2 a b))

  pub five_three : fails (level weave_app (a ∷ b ∷ c ∷ [])) ≡ true
  unfolding clap_on_literals
  five_three = fails_next (walk_fault five [] (walk_from nothing_held) (a ∷ b ∷ c ∷ [])) _ (lacks w_3 (held_3 a b c) 4 at_3 (ends_3 a b c))

  pub five_four : fails (level weave_app (a ∷ b ∷ c ∷ d ∷ [])) ≡ true
  unfolding clap_on_literals
  five_four = fails_next (walk_fault five [] (walk_from nothing_held) (a ∷ b ∷ c ∷ d ∷ [])) _ (lacks w_4 (held_4 a b c d) 5 at_4 (ends_4 a b c d))

  t_2 : turn_fault five [] w_1 b ≡ or_else (value_kinds false disks_parser a) []
  t_2 = ap (λ (w : Walk). turn_fault five [] w b) (walk_1 a is_a) ∙ turn_2 a is_a b is_b

  t_3 : turn_fault five [] w_2 c ≡ or_else (value_kinds false mib_parser b) []
  t_3 = ap (λ (w : Walk). turn_fault five [] w c) at_2 ∙ turn_3 a is_a b is_b c is_c

  t_4 : turn_fault five [] w_3 d ≡ or_else (value_kinds false clients_parser c) []
  t_4 = ap (λ (w : Walk). turn_fault five [] w d) at_3 ∙ turn_4 a is_a b is_b c is_c d is_d

  t_5 : turn_fault five [] w_4 e ≡ or_else (value_kinds false requests_parser d) []
  t_5 = ap (λ (w : Walk). turn_fault five [] w e) at_4 ∙ turn_5 a is_a b is_b c is_c d is_d e is_e

  t_end : ends five w_5.held ≡ or_else (or_else (value_kinds false seed_parser e) []) []
  t_end = ap (λ (w : Walk). ends five w.held) at_5 ∙ ends_5 a b c d e

  pub five_five : level weave_app (a ∷ b ∷ c ∷ d ∷ e ∷ [])
      ≡ five_kinds (value_kinds false disks_parser a) (value_kinds false mib_parser b) (value_kinds false clients_parser c) (value_kinds false requests_parser d) (value_kinds false seed_parser e)
  unfolding clap_on_literals
  five_five =
      ap (λ (k : Kinds). turns_kinds k (turn_fault five [] w_1 b) (turn_fault five [] w_2 c) (turn_fault five [] w_3 d) (turn_fault five [] w_4 e) (ends five w_5.held)) (turn_1 a is_a)
      ∙ ap (λ (k : Kinds). turns_kinds [] k (turn_fault five [] w_2 c) (turn_fault five [] w_3 d) (turn_fault five [] w_4 e) (ends five w_5.held)) t_2
      ∙ ap (λ (k : Kinds). turns_kinds [] (or_else (value_kinds false disks_parser a) []) k (turn_fault five [] w_3 d) (turn_fault five [] w_4 e) (ends five w_5.held)) t_3
      ∙ ap (λ (k : Kinds). turns_kinds [] (or_else (value_kinds false disks_parser a) []) (or_else (value_kinds false mib_parser b) []) k (turn_fault five [] w_4 e) (ends five w_5.held)) t_4
      ∙ ap (λ (k : Kinds). turns_kinds [] (or_else (value_kinds false disks_parser a) []) (or_else (value_kinds false mib_parser b) []) (or_else (value_kinds false clients_parser c) []) k (ends five w_5.held)) t_5
      ∙ ap (λ (k : Kinds). turns_kinds [] (or_else (value_kinds false disks_parser a) []) (or_else (value_kinds false mib_parser b) []) (or_else (value_kinds false clients_parser c) []) (or_else (value_kinds false requests_parser d) []) k) t_end

  pub five_more : (f : Text) (more : List Text) → is_signed f ≡ false → fails (level weave_app (a ∷ b ∷ c ∷ d ∷ e ∷ f ∷ more)) ≡ true
  unfolding clap_on_literals
  five_more f more is_f =
      let sixth : fails (turn_fault five [] w_5 f) ≡ true = ap (λ (w : Walk). fails (turn_fault five [] w f)) at_5 ∙ ap fails (turn_6 a is_a b is_b c is_c d is_d e is_e f is_f) in
      let later : Kinds = or_else (turn_fault five [] w_5 f) (walk_fault five [] (walked five.rules [] w_5 f) more) in
      let t : Text → Walk → Kinds = λ word w. turn_fault five [] w word in
      fails_first (walk_fault five [] (walk_from nothing_held) (a ∷ b ∷ c ∷ d ∷ e ∷ f ∷ more)) _
      (fails_next (t a (walk_from nothing_held)) (or_else (t b w_1) (or_else (t c w_2) (or_else (t d w_3) (or_else (t e w_4) later))))
      (fails_next (t b w_1) (or_else (t c w_2) (or_else (t d w_3) (or_else (t e w_4) later)))
      (fails_next (t c w_2) (or_else (t d w_3) (or_else (t e w_4) later))
      (fails_next (t d w_3) (or_else (t e w_4) later)
      (fails_next (t e w_4) later (fails_first (turn_fault five [] w_5 f) _ sixth))))))

-- ---- the command line

abbrev top : Shape
top = (built lvm_app).top

abbrev names : Names
names = names_of (built lvm_app)

-- where the name of a job was met, the words behind are its own
abbrev met : Text → List Text → Walk
met name words = record (walk_from nothing_held) { stopped = Some (name, words) }

after_name : (name : Text) (rest : List Text) → fold (walked top.rules names) (met name []) rest ≡ met name rest
after_name name rest = sym (walk_stopped top.rules names (walk_from nothing_held) name [] rest)

abbrev top_ends : Held → Bool → Kinds
top_ends h has = or_else (settle_fault top.rules top.args_override_self h) (or_else (defaults_fault (settled top.rules h).rows top.rules) (check_fault top (finished top.rules h) has))

abbrev named_kinds : Walk → Kinds → Kinds
named_kinds w later = or_else (or_else [] later) (or_else (entered_fault (built lvm_app) w.stopped) (top_ends w.held (is_some (entered (built lvm_app) w.stopped))))

after_name_fault : (name : Text) (rest : List Text) → walk_fault top names (met name []) rest ≡ []
after_name_fault name rest = stopped_fault top names (walk_from nothing_held) (name, []) rest

pub script_fault : (rest : List Text) → fault_of lvm_app (codes "script" ∷ rest) ≡ or_else (level script_app rest) []
unfolding clap_on_literals
script_fault rest = ap₂ named_kinds (after_name (codes "script") rest) (after_name_fault (codes "script") rest)

pub numbered_fault : (j : Numbered) (rest : List Text) → fault_of lvm_app ((app_for j).top.name ∷ rest) ≡ or_else (level (app_for j) rest) []
unfolding clap_on_literals
numbered_fault sim rest = ap₂ named_kinds (after_name (codes "sim") rest) (after_name_fault (codes "sim") rest)
numbered_fault gen rest = ap₂ named_kinds (after_name (codes "gen") rest) (after_name_fault (codes "gen") rest)
numbered_fault image rest = ap₂ named_kinds (after_name (codes "image") rest) (after_name_fault (codes "image") rest)

pub weave_fault : (rest : List Text) → fault_of lvm_app (codes "weave" ∷ rest) ≡ or_else (level weave_app rest) []
unfolding clap_on_literals
weave_fault rest = ap₂ named_kinds (after_name (codes "weave") rest) (after_name_fault (codes "weave") rest)

pub script_entered : (rest : List Text) → option_map (λ p. p.0) (subcommand_of lvm_app (codes "script" ∷ rest)) ≡ Some (codes "script")
unfolding clap_on_literals
script_entered rest = ap (λ (w : Walk). option_map (λ p. p.0) (entered (built lvm_app) w.stopped)) (after_name (codes "script") rest)

pub numbered_entered : (j : Numbered) (a b : Text) → is_signed a ≡ false → is_signed b ≡ false → subcommand_of lvm_app ((app_for j).top.name ∷ a ∷ b ∷ []) ≡ Some ((app_for j).top.name, first_row j a ∷ second_row j b ∷ [])
unfolding clap_on_literals
numbered_entered sim a b is_a is_b =
    ap (λ (w : Walk). Some (codes "sim", finished (leaf sim_app).rules (walked (leaf sim_app).rules [] w b).held)) (walked_one sim a is_a)
    ∙ ap (λ (w : Walk). Some (codes "sim", finished (leaf sim_app).rules w.held)) (walked_two sim a b is_b)
numbered_entered gen a b is_a is_b =
    ap (λ (w : Walk). Some (codes "gen", finished (leaf gen_app).rules (walked (leaf gen_app).rules [] w b).held)) (walked_one gen a is_a)
    ∙ ap (λ (w : Walk). Some (codes "gen", finished (leaf gen_app).rules w.held)) (walked_two gen a b is_b)
numbered_entered image a b is_a is_b =
    ap (λ (w : Walk). Some (codes "image", finished (leaf image_app).rules (walked (leaf image_app).rules [] w b).held)) (walked_one image a is_a)
    ∙ ap (λ (w : Walk). Some (codes "image", finished (leaf image_app).rules w.held)) (walked_two image a b is_b)

module _ (a b c d e : Text) (is_a : is_signed a ≡ false) (is_b : is_signed b ≡ false) (is_c : is_signed c ≡ false) (is_d : is_signed d ≡ false) (is_e : is_signed e ≡ false) where
  pub five_entered : subcommand_of lvm_app (codes "weave" ∷ a ∷ b ∷ c ∷ d ∷ e ∷ [])
      ≡ Some (codes "weave", row_of (codes "DISKS") a ∷ row_of (codes "MIB") b ∷ row_of (codes "CLIENTS") c ∷ row_of (codes "REQUESTS") d ∷ row_of (codes "SEED") e ∷ [])
  unfolding clap_on_literals
  five_entered = ap (λ (w : Walk). Some (codes "weave", finished five.rules w.held)) (at_5 a b c d e is_a is_b is_c is_d is_e)

pub none_fault : fault_of lvm_app [] ≡ kind.MissingSubcommand ∷ []
unfolding clap_on_literals
none_fault = refl

unmet : (word : Text) → bytes_eq (codes "script") word ≡ false → bytes_eq (codes "sim") word ≡ false → bytes_eq (codes "gen") word ≡ false → bytes_eq (codes "weave") word ≡ false → bytes_eq (codes "image") word ≡ false
    → subcommand_met names idle word ≡ None
unmet word no_script no_sim no_gen no_weave no_image =
    go (bytes_eq (codes "script") word) (bytes_eq (codes "sim") word) (bytes_eq (codes "gen") word) (bytes_eq (codes "weave") word) (bytes_eq (codes "image") word) no_script no_sim no_gen no_weave no_image
  where
    go : (p q r s t : Bool) → p ≡ false → q ≡ false → r ≡ false → s ≡ false → t ≡ false → option_map (λ (t : Text × List Text). t.0)
        (cond (p || false) (Some (codes "script", [])) (cond (q || false) (Some (codes "sim", [])) (cond (r || false) (Some (codes "gen", [])) (cond (s || false) (Some (codes "weave", [])) (cond (t || false) (Some (codes "image", [])) None))))) ≡ None
    go false false false false false a b c d e = refl
    go true q r s t a b c d e = absurd (cc)
    go false true r s t a b c d e = absurd (cc)
    go false false true s t a b c d e = absurd (cc)
    go false false false true t a b c d e = absurd (cc)
    go false false false false true a b c d e = absurd (cc)

-- a word that names no job is refused
pub unknown_fault : (word : Text) (rest : List Text) → is_signed word ≡ false → bytes_eq (codes "script") word ≡ false → bytes_eq (codes "sim") word ≡ false
    → bytes_eq (codes "gen") word ≡ false → bytes_eq (codes "weave") word ≡ false → bytes_eq (codes "image") word ≡ false → fails (fault_of lvm_app (word ∷ rest)) ≡ true
unfolding clap_on_literals
unknown_fault word rest is no_script no_sim no_gen no_weave no_image =
    let turn : turn_fault top names (walk_from nothing_held) word ≡ kind.UnknownArgument ∷ kind.InvalidSubcommand ∷ [] =
    ap (λ (name : Option Text). or_else (other_fault top name word nothing_held) (step_fault top 1 (subcommand_or_other top.rules name idle 1 word nothing_held).0 (subcommand_or_other top.rules name idle 1 word nothing_held).1)) (unmet word no_script no_sim no_gen no_weave no_image)
    ∙ ap (λ (kinds : Kinds). or_else kinds (step_fault top 1 (subcommand_or_other top.rules None idle 1 word nothing_held).0 (subcommand_or_other top.rules None idle 1 word nothing_held).1)) (other_faultless top word nothing_held is)
    ∙ ap (λ (at : Held × Step). step_fault top 1 at.0 at.1) (other_is_value top.rules 1 word nothing_held is) in
    let later : Kinds = walk_fault top names (walked top.rules names (walk_from nothing_held) word) rest in
    fails_first (or_else (turn_fault top names (walk_from nothing_held) word) later) _ (fails_first (turn_fault top names (walk_from nothing_held) word) later (ap fails turn))
