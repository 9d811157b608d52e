-- What words ask for, by what `clap` makes of them.
use Rattle.std.proofs.Common.{◌≡◌, ◌∙◌, ◌-◌, ◌^◌, ◌<◌, ◌≤◌, ◌&&◌, ℕ, Bool, true, false, cond, nat_le, List, [], ◌∷◌, Option, Some, None, Result, Ok, Err, IsErrAnd, refl, sym, ap, ap₂, subst, arith, codes}
use Rattle.std.specs.List.{list_all}
use Rattle.std.specs.Str.{bytes_eq}
use Rattle.std.proofs.lemmas.Bool.{le-leb, leb-true}
use Rattle.std.proofs.lemmas.Bool.Decides.{nat_tests}
use Rattle.std.proofs.lemmas.Slice.Eq.{bytes_eq-Decides}
use Rattle.clap.specs.Kinds.{or_else}
use Rattle.clap.specs.ValueTests.{accepts}
use Rattle.clap.specs.Words.{Kinds, Text, fault_of, subcommand_of}
use Rattle.clap.specs.declared.builder.value_parser.ValueParser.{ValueParser}
use Rattle.clap.specs.declared.builder.value_parser.ValueParser.TheVariants as parser
use Rattle.clap.specs.declared.error.kind.ErrorKind.TheVariants as kind
use Rattle.clap.proofs.OnLiterals.{clap_on_literals}
use Rattle.lvm_parse.specs.Words.{number_in}
use Rattle.lvm_words.specs.CommandLine.{is_plain, is_signed, lvm_app, script_app, weave_app}
use Rattle.lvm_words.specs.Matched.{job_matched, unsigned_in, with_all, with_both}
use Rattle.lvm_words.specs.Words.{IsJobWithinLimits, bounded, gen_of, image_of, work_of, sim_of, weave_by, weave_of, with_five, with_two}
use Rattle.lvm_words.specs.declared.job.Job.{Job}
use Rattle.lvm_words.specs.declared.job.Job.TheVariants as job
use Rattle.lvm_words.specs.declared.fault.WordsFault.{WordsFault}
use Rattle.lvm_words.specs.declared.fault.WordsFault.TheVariants.{Usage}
use Rattle.lvm_words.proofs.MatchedLemmas.{accepted_number, both_true, number_accepted, number_is_plain, number_parts, number_read, plain_parts}
use Rattle.lvm_words.proofs.CommandLineLemmas.{app_for, clients_parser, disks_parser, fails, fails_first, first_parser, five_entered, five_five, five_four, five_kinds, five_more, five_none, five_one, five_three, five_two, gen, image, level, level_more, level_none, level_one, level_two, mib_parser, none_fault, Numbered, numbered_entered, numbered_fault, requests_parser, script_alone, script_fault, script_more, second_parser, seed_parser, sim, two_kinds, unknown_fault, weave_fault}

pub data Outcome (words : List Text) : Type 0 where
  asks : (j : Job) → work_of words ≡ Ok j → IsJobWithinLimits j → fault_of lvm_app words ≡ [] → job_matched (subcommand_of lvm_app words) ≡ Some j → Outcome words
  refused : work_of words ≡ Err Usage → fails (fault_of lvm_app words) ≡ true → Outcome words

-- ---- `script`

behind : (a : Text) (more : List Text) → list_all is_plain (a ∷ more) ≡ true → fails (fault_of lvm_app (codes "script" ∷ a ∷ more)) ≡ true
behind a more plain =
    let parts = both_true (is_plain a) (list_all is_plain more) plain in
    ap fails (script_fault (a ∷ more)) ∙ fails_first (level script_app (a ∷ more)) [] (script_more a more (plain_parts a parts.0).0)

script_matched : job_matched (subcommand_of lvm_app (codes "script" ∷ [])) ≡ Some job.Script
unfolding clap_on_literals
script_matched = refl

script_outcome : (rest : List Text) → list_all is_plain rest ≡ true → Outcome (codes "script" ∷ rest)
script_outcome [] plain = asks job.Script refl tt (script_fault [] ∙ ap (λ (k : Kinds). or_else k []) script_alone) script_matched
script_outcome (a ∷ []) plain = refused refl (behind a [] plain)
script_outcome (a ∷ b ∷ []) plain = refused refl (behind a (b ∷ []) plain)
script_outcome (a ∷ b ∷ c ∷ []) plain = refused refl (behind a (b ∷ c ∷ []) plain)
script_outcome (a ∷ b ∷ c ∷ d ∷ []) plain = refused refl (behind a (b ∷ c ∷ d ∷ []) plain)
script_outcome (a ∷ b ∷ c ∷ d ∷ e ∷ []) plain = refused refl (behind a (b ∷ c ∷ d ∷ e ∷ []) plain)
script_outcome (a ∷ b ∷ c ∷ d ∷ e ∷ f ∷ more) plain = refused refl (behind a (b ∷ c ∷ d ∷ e ∷ f ∷ more) plain)

-- ---- a job with two numbers

abbrev job_by : Numbered → Option ℕ → Option ℕ → Result Job WordsFault
job_by sim = sim_of
job_by gen = gen_of
job_by image = image_of

abbrev job_with : Numbered → ℕ → ℕ → Job
job_with sim = job.Sim
job_with gen = job.Gen
job_with image = job.Image

abbrev first_low : Numbered → ℕ
first_low sim = 1
first_low _ = 0

abbrev first_high : Numbered → ℕ
first_high sim = 32
first_high gen = 2 ^ 64 - 1
first_high image = 127

abbrev second_low : Numbered → ℕ
second_low gen = 0
second_low _ = 1

abbrev second_high : Numbered → ℕ
second_high sim = 64
second_high gen = 100000
second_high image = 4096

abbrev first_ok : Numbered → Text → Bool
first_ok sim word = accepts false (first_parser sim) word
first_ok gen word = accepts false (first_parser gen) word
first_ok image word = accepts false (first_parser image) word

abbrev second_ok : Numbered → Text → Bool
second_ok sim word = accepts false (second_parser sim) word
second_ok gen word = accepts false (second_parser gen) word
second_ok image word = accepts false (second_parser image) word

-- two numbers within their bounds
both_within : (j : Numbered) (first second : ℕ) → first_low j ≤ first → first ≤ first_high j → second_low j ≤ second → second ≤ second_high j
    → (job_by j (Some first) (Some second) ≡ Ok (job_with j first second)) × IsJobWithinLimits (job_with j first second)
both_within sim first second a b c d = (rw (le-leb 1 first a, le-leb first 32 b, le-leb 1 second c, le-leb second 64 d) refl, (a, b, c, d))
both_within gen first second a b c d = (rw (le-leb second 100000 d) refl, d)
both_within image first second a b c d = (rw (le-leb first 127 b, le-leb 1 second c, le-leb second 4096 d) refl, (b, c, d))

fails_test : {T : Type 0} (t : Bool) (x y : T) → (t ≡ true → ⊥) → cond t x y ≡ y
fails_test true x y never = absurd (never refl)
fails_test false x y never = refl

-- else there is no job
not_within : (j : Numbered) (first second : ℕ) → first < 2 ^ 64 → (first_low j ≤ first → first ≤ first_high j → second_low j ≤ second → second ≤ second_high j → ⊥) → job_by j (Some first) (Some second) ≡ Err Usage
not_within sim first second small never = fails_test (nat_le 1 first && nat_le first 32 && nat_le 1 second && nat_le second 64) (Ok (job.Sim first second)) (Err Usage)
    (λ test. never (grind (arith, nat_tests)) (grind (arith, nat_tests)) (grind (arith, nat_tests)) (grind (arith, nat_tests)))
not_within gen first second small never = fails_test (nat_le second 100000) (Ok (job.Gen first second)) (Err Usage)
    (λ test. never (omega arith) (omega (arith, small)) (omega arith) (leb-true second 100000 test))
not_within image first second small never = fails_test (nat_le first 127 && nat_le 1 second && nat_le second 4096) (Ok (job.Image first second)) (Err Usage)
    (λ test. never (omega arith) (grind (arith, nat_tests)) (grind (arith, nat_tests)) (grind (arith, nat_tests)))

accepted_first : (j : Numbered) (word : Text) → is_plain word ≡ true → first_ok j word ≡ true → (n : ℕ) × (number_in word ≡ Some n) × (first_low j ≤ n) × (n ≤ first_high j)
accepted_first sim word plain ok = accepted_number word 1 32 plain ok
accepted_first gen word plain ok = accepted_number word 0 (2 ^ 64 - 1) plain ok
accepted_first image word plain ok = accepted_number word 0 127 plain ok

accepted_second : (j : Numbered) (word : Text) → is_plain word ≡ true → second_ok j word ≡ true → (n : ℕ) × (number_in word ≡ Some n) × (second_low j ≤ n) × (n ≤ second_high j)
accepted_second sim word plain ok = accepted_number word 1 64 plain ok
accepted_second gen word plain ok = accepted_number word 0 100000 plain ok
accepted_second image word plain ok = accepted_number word 1 4096 plain ok

first_accepted : (j : Numbered) (word : Text) (n : ℕ) → is_plain word ≡ true → number_in word ≡ Some n → first_low j ≤ n → n ≤ first_high j → first_ok j word ≡ true
first_accepted sim word n plain is above below = number_accepted word 1 32 n plain is above below
first_accepted gen word n plain is above below = number_accepted word 0 (2 ^ 64 - 1) n plain is above below
first_accepted image word n plain is above below = number_accepted word 0 127 n plain is above below

second_accepted : (j : Numbered) (word : Text) (n : ℕ) → is_plain word ≡ true → number_in word ≡ Some n → second_low j ≤ n → n ≤ second_high j → second_ok j word ≡ true
second_accepted sim word n plain is above below = number_accepted word 1 64 n plain is above below
second_accepted gen word n plain is above below = number_accepted word 0 100000 n plain is above below
second_accepted image word n plain is above below = number_accepted word 1 4096 n plain is above below

abbrev kinds_of : Bool → Kinds
kinds_of ok = cond ok [] (kind.ValueValidation ∷ [])

level_pair : (j : Numbered) (a b : Text) → is_signed a ≡ false → is_signed b ≡ false → level (app_for j) (a ∷ b ∷ []) ≡ two_kinds (kinds_of (first_ok j a)) (kinds_of (second_ok j b))
level_pair sim a b is_a is_b = level_two sim a b is_a is_b
level_pair gen a b is_a is_b = level_two gen a b is_a is_b
level_pair image a b is_a is_b = level_two image a b is_a is_b

-- a word that is refused makes no job
no_first : (j : Numbered) (a b : Text) → is_plain a ≡ true → first_ok j a ≡ false → job_by j (number_in a) (number_in b) ≡ Err Usage
no_first j a b plain never = go (number_in a) (number_in b) refl
  where
    none : (j : Numbered) (y : Option ℕ) → job_by j None y ≡ Err Usage
    none sim y = refl
    none gen y = refl
    none image y = refl

    one : (j : Numbered) (n : ℕ) → job_by j (Some n) None ≡ Err Usage
    one sim n = refl
    one gen n = refl
    one image n = refl

    go : (x y : Option ℕ) → number_in a ≡ x → job_by j x y ≡ Err Usage
    go None y is = none j y
    go (Some n) None is = one j n
    go (Some n) (Some m) is = not_within j n m (number_parts a n is).small (λ above below _ _. let yes = first_accepted j a n plain is above below in absurd (cc))

no_second : (j : Numbered) (a b : Text) → is_plain b ≡ true → second_ok j b ≡ false → job_by j (number_in a) (number_in b) ≡ Err Usage
no_second j a b plain never = go (number_in a) (number_in b) refl refl
  where
    none : (j : Numbered) (x : Option ℕ) → job_by j x None ≡ Err Usage
    none sim None = refl
    none sim (Some n) = refl
    none gen None = refl
    none gen (Some n) = refl
    none image None = refl
    none image (Some n) = refl

    first : (j : Numbered) (y : Option ℕ) → job_by j None y ≡ Err Usage
    first sim y = refl
    first gen y = refl
    first image y = refl

    go : (x y : Option ℕ) → number_in a ≡ x → number_in b ≡ y → job_by j x y ≡ Err Usage
    go x None at is = none j x
    go None (Some m) at is = first j (Some m)
    go (Some n) (Some m) at is = not_within j n m (number_parts a n at).small (λ _ _ above below. let yes = second_accepted j b m plain is above below in absurd (cc))

work_of_pair : (j : Numbered) (a b : Text) → work_of ((app_for j).top.name ∷ a ∷ b ∷ []) ≡ job_by j (number_in a) (number_in b)
work_of_pair sim a b = refl
work_of_pair gen a b = refl
work_of_pair image a b = refl

work_of_none : (j : Numbered) → work_of ((app_for j).top.name ∷ []) ≡ Err Usage
work_of_none sim = refl
work_of_none gen = refl
work_of_none image = refl

matched_pair : (j : Numbered) (a b : Text) (n m : ℕ) → is_plain a ≡ true → is_plain b ≡ true → number_in a ≡ Some n → number_in b ≡ Some m → n ≤ first_high j → m ≤ second_high j
    → job_matched (subcommand_of lvm_app ((app_for j).top.name ∷ a ∷ b ∷ [])) ≡ Some (job_with j n m)
matched_pair sim a b n m plain_a plain_b is_a is_b below_a below_b =
    ap job_matched (numbered_entered sim a b (plain_parts a plain_a).0 (plain_parts b plain_b).0)
    ∙ ap₂ (with_both job.Sim) (number_read a 16 n plain_a is_a (omega (arith, below_a))) (number_read b 32 m plain_b is_b (omega (arith, below_b)))
matched_pair gen a b n m plain_a plain_b is_a is_b below_a below_b =
    ap job_matched (numbered_entered gen a b (plain_parts a plain_a).0 (plain_parts b plain_b).0)
    ∙ ap₂ (with_both job.Gen) (number_read a 64 n plain_a is_a (omega (arith, below_a))) (number_read b 32 m plain_b is_b (omega (arith, below_b)))
matched_pair image a b n m plain_a plain_b is_a is_b below_a below_b =
    ap job_matched (numbered_entered image a b (plain_parts a plain_a).0 (plain_parts b plain_b).0)
    ∙ ap₂ (with_both job.Image) (number_read a 16 n plain_a is_a (omega (arith, below_a))) (number_read b 32 m plain_b is_b (omega (arith, below_b)))

pair_outcome : (j : Numbered) (a b : Text) → is_plain a ≡ true → is_plain b ≡ true → Outcome ((app_for j).top.name ∷ a ∷ b ∷ [])
pair_outcome j a b plain_a plain_b = go (first_ok j a) (second_ok j b) refl refl
  where
    fault : fault_of lvm_app ((app_for j).top.name ∷ a ∷ b ∷ []) ≡ or_else (two_kinds (kinds_of (first_ok j a)) (kinds_of (second_ok j b))) []
    fault = numbered_fault j (a ∷ b ∷ []) ∙ ap (λ (k : Kinds). or_else k []) (level_pair j a b (plain_parts a plain_a).0 (plain_parts b plain_b).0)

    go : (x y : Bool) → first_ok j a ≡ x → second_ok j b ≡ y → Outcome ((app_for j).top.name ∷ a ∷ b ∷ [])
    go true true ok_a ok_b =
        let first = accepted_first j a plain_a ok_a in
        let second = accepted_second j b plain_b ok_b in
        let within = both_within j first.0 second.0 first.2 first.3 second.2 second.3 in
        asks (job_with j first.0 second.0) (work_of_pair j a b ∙ ap₂ (job_by j) first.1 second.1 ∙ within.0) within.1
        (fault ∙ ap₂ (λ (x y : Bool). or_else (two_kinds (kinds_of x) (kinds_of y)) []) ok_a ok_b)
        (matched_pair j a b first.0 second.0 plain_a plain_b first.1 second.1 first.3 second.3)
    go true false ok_a ok_b = refused (work_of_pair j a b ∙ no_second j a b plain_b ok_b) (ap fails (fault ∙ ap₂ (λ (x y : Bool). or_else (two_kinds (kinds_of x) (kinds_of y)) []) ok_a ok_b))
    go false true ok_a ok_b = refused (work_of_pair j a b ∙ no_first j a b plain_a ok_a) (ap fails (fault ∙ ap₂ (λ (x y : Bool). or_else (two_kinds (kinds_of x) (kinds_of y)) []) ok_a ok_b))
    go false false ok_a ok_b = refused (work_of_pair j a b ∙ no_first j a b plain_a ok_a) (ap fails (fault ∙ ap₂ (λ (x y : Bool). or_else (two_kinds (kinds_of x) (kinds_of y)) []) ok_a ok_b))

work_of_more : (j : Numbered) (a b c : Text) (more : List Text) → work_of ((app_for j).top.name ∷ a ∷ b ∷ c ∷ more) ≡ Err Usage
work_of_more sim a b c [] = refl
work_of_more sim a b c (d ∷ []) = refl
work_of_more sim a b c (d ∷ e ∷ []) = refl
work_of_more sim a b c (d ∷ e ∷ f ∷ more) = refl
work_of_more gen a b c [] = refl
work_of_more gen a b c (d ∷ []) = refl
work_of_more gen a b c (d ∷ e ∷ []) = refl
work_of_more gen a b c (d ∷ e ∷ f ∷ more) = refl
work_of_more image a b c [] = refl
work_of_more image a b c (d ∷ []) = refl
work_of_more image a b c (d ∷ e ∷ []) = refl
work_of_more image a b c (d ∷ e ∷ f ∷ more) = refl

numbered_outcome : (j : Numbered) (rest : List Text) → list_all is_plain rest ≡ true → Outcome ((app_for j).top.name ∷ rest)
numbered_outcome j [] plain = refused (work_of_none j) (ap fails (numbered_fault j []) ∙ fails_first (level (app_for j) []) [] (level_none j))
numbered_outcome j (a ∷ []) plain =
    let at_a = both_true (is_plain a) true plain in
    refused refl (ap fails (numbered_fault j (a ∷ [])) ∙ fails_first (level (app_for j) (a ∷ [])) [] (level_one j a (plain_parts a at_a.0).0))
numbered_outcome j (a ∷ b ∷ []) plain =
    let at_a = both_true (is_plain a) (list_all is_plain (b ∷ [])) plain in
    let at_b = both_true (is_plain b) true at_a.1 in
    pair_outcome j a b at_a.0 at_b.0
numbered_outcome j (a ∷ b ∷ c ∷ more) plain =
    let at_a = both_true (is_plain a) (list_all is_plain (b ∷ c ∷ more)) plain in
    let at_b = both_true (is_plain b) (list_all is_plain (c ∷ more)) at_a.1 in
    let at_c = both_true (is_plain c) (list_all is_plain more) at_b.1 in
    refused (work_of_more j a b c more) (ap fails (numbered_fault j (a ∷ b ∷ c ∷ more)) ∙ fails_first (level (app_for j) (a ∷ b ∷ c ∷ more)) [] (level_more j a b c more (plain_parts a at_a.0).0 (plain_parts b at_b.0).0 (plain_parts c at_c.0).0))

-- ---- the job with five numbers

abbrev ok_by : ValueParser → Text → Bool
ok_by how word = accepts false how word

-- a word that is read as a number within its bounds
record IsRead (low high : ℕ) (word : Text) : Type 0 where
  pub n : ℕ
  pub number : number_in word ≡ Some n
  pub within : bounded low high (number_in word) ≡ Some n
  pub above : low ≤ n
  pub below : n ≤ high

is_read : (word : Text) (low high : ℕ) → is_plain word ≡ true → ok_by (parser.Unsigned low high) word ≡ true → IsRead low high word
is_read word low high plain ok =
    let it = accepted_number word low high plain ok in
    record { n = it.0; number = it.1; within = ap (bounded low high) it.1 ∙ rw (le-leb low it.0 it.2, le-leb it.0 high it.3) refl; above = it.2; below = it.3 }

not_read : (word : Text) (low high : ℕ) → is_plain word ≡ true → ok_by (parser.Unsigned low high) word ≡ false → bounded low high (number_in word) ≡ None
not_read word low high plain never = go (number_in word) refl
  where
    go : (x : Option ℕ) → number_in word ≡ x → bounded low high x ≡ None
    go None is = refl
    go (Some n) is = fails_test (nat_le low n && nat_le n high) (Some n) None (λ test.
        let parts = both_true (nat_le low n) (nat_le n high) test in
        let yes = number_accepted word low high n plain is (leb-true low n parts.0) (leb-true n high parts.1) in absurd (cc))

no_seed : (word : Text) → is_plain word ≡ true → ok_by seed_parser word ≡ false → number_in word ≡ None
no_seed word plain never = go (number_in word) refl
  where
    go : (x : Option ℕ) → number_in word ≡ x → x ≡ None
    go None is = refl
    go (Some n) is = let small = (number_parts word n is).small in let yes = number_accepted word 0 (2 ^ 64 - 1) n plain is (omega arith) (omega (arith, small)) in absurd (cc)

no_second_of : (a c d e : Option ℕ) → weave_by a None c d e ≡ Err Usage
no_second_of None c d e = refl
no_second_of (Some a) c d e = refl

no_third_of : (a b d e : Option ℕ) → weave_by a b None d e ≡ Err Usage
no_third_of None b d e = refl
no_third_of (Some a) None d e = refl
no_third_of (Some a) (Some b) d e = refl

no_fourth_of : (a b c e : Option ℕ) → weave_by a b c None e ≡ Err Usage
no_fourth_of None b c e = refl
no_fourth_of (Some a) None c e = refl
no_fourth_of (Some a) (Some b) None e = refl
no_fourth_of (Some a) (Some b) (Some c) e = refl

no_fifth_of : (a b c d : Option ℕ) → weave_by a b c d None ≡ Err Usage
no_fifth_of None b c d = refl
no_fifth_of (Some a) None c d = refl
no_fifth_of (Some a) (Some b) None d = refl
no_fifth_of (Some a) (Some b) (Some c) None = refl
no_fifth_of (Some a) (Some b) (Some c) (Some d) = refl

module _ (a b c d e : Text) (plain_a : is_plain a ≡ true) (plain_b : is_plain b ≡ true) (plain_c : is_plain c ≡ true) (plain_d : is_plain d ≡ true) (plain_e : is_plain e ≡ true) where
  abbrev words : List Text
  words = codes "weave" ∷ a ∷ b ∷ c ∷ d ∷ e ∷ []

  abbrev five_by : Bool → Bool → Bool → Bool → Bool → Kinds
  five_by p q r s t = or_else (five_kinds (kinds_of p) (kinds_of q) (kinds_of r) (kinds_of s) (kinds_of t)) []

  abbrev x : Option ℕ
  x = bounded 1 8 (number_in a)

  abbrev y : Option ℕ
  y = bounded 8 64 (number_in b)

  abbrev z : Option ℕ
  z = bounded 1 64 (number_in c)

  abbrev u : Option ℕ
  u = bounded 0 50000 (number_in d)

  fault : fault_of lvm_app words ≡ five_by (ok_by disks_parser a) (ok_by mib_parser b) (ok_by clients_parser c) (ok_by requests_parser d) (ok_by seed_parser e)
  fault = weave_fault (a ∷ b ∷ c ∷ d ∷ e ∷ [])
      ∙ ap (λ (k : Kinds). or_else k []) (five_five a b c d e (plain_parts a plain_a).0 (plain_parts b plain_b).0 (plain_parts c plain_c).0 (plain_parts d plain_d).0 (plain_parts e plain_e).0)

  read_all : (n m k l s : ℕ) → number_in a ≡ Some n → number_in b ≡ Some m → number_in c ≡ Some k → number_in d ≡ Some l → number_in e ≡ Some s
      → n ≤ 8 → m ≤ 64 → k ≤ 64 → l ≤ 50000 → s ≤ 2 ^ 64 - 1 → job_matched (subcommand_of lvm_app words) ≡ Some (job.Weave n m k l s)
  read_all n m k l s is_a is_b is_c is_d is_e n_is m_is k_is l_is s_is =
      ap job_matched (five_entered a b c d e (plain_parts a plain_a).0 (plain_parts b plain_b).0 (plain_parts c plain_c).0 (plain_parts d plain_d).0 (plain_parts e plain_e).0)
      ∙ ap (λ o. with_all o (unsigned_in 32 b) (unsigned_in 32 c) (unsigned_in 32 d) (unsigned_in 64 e)) (number_read a 16 n plain_a is_a (omega (arith, n_is)))
      ∙ ap (λ o. with_all (Some n) o (unsigned_in 32 c) (unsigned_in 32 d) (unsigned_in 64 e)) (number_read b 32 m plain_b is_b (omega (arith, m_is)))
      ∙ ap (λ o. with_all (Some n) (Some m) o (unsigned_in 32 d) (unsigned_in 64 e)) (number_read c 32 k plain_c is_c (omega (arith, k_is)))
      ∙ ap (λ o. with_all (Some n) (Some m) (Some k) o (unsigned_in 64 e)) (number_read d 32 l plain_d is_d (omega (arith, l_is)))
      ∙ ap (λ o. with_all (Some n) (Some m) (Some k) (Some l) o) (number_read e 64 s plain_e is_e (omega (arith, s_is)))

  five_outcome : Outcome words
  five_outcome = go (ok_by disks_parser a) (ok_by mib_parser b) (ok_by clients_parser c) (ok_by requests_parser d) (ok_by seed_parser e) refl refl refl refl refl
    where
      go : (p q r s t : Bool) → ok_by disks_parser a ≡ p → ok_by mib_parser b ≡ q → ok_by clients_parser c ≡ r → ok_by requests_parser d ≡ s → ok_by seed_parser e ≡ t → Outcome words
      go true true true true true ok_a ok_b ok_c ok_d ok_e =
          let n = is_read a 1 8 plain_a ok_a in
          let m = is_read b 8 64 plain_b ok_b in
          let k = is_read c 1 64 plain_c ok_c in
          let l = is_read d 0 50000 plain_d ok_d in
          let s = accepted_number e 0 (2 ^ 64 - 1) plain_e ok_e in
          asks (job.Weave n.n m.n k.n l.n s.0)
          (rw (n.within, m.within, k.within, l.within, s.1) refl)
          (n.above, n.below, m.above, m.below, k.above, k.below, l.below)
          (fault ∙ rw (ok_a, ok_b, ok_c, ok_d, ok_e) refl)
          (read_all n.n m.n k.n l.n s.0 n.number m.number k.number l.number s.1 n.below m.below k.below l.below s.3)
      go false q r s t ok_a ok_b ok_c ok_d ok_e =
          refused (ap (λ o. weave_by o y z u (number_in e)) (not_read a 1 8 plain_a ok_a))
          (ap fails (fault ∙ ap (λ v. five_by v (ok_by mib_parser b) (ok_by clients_parser c) (ok_by requests_parser d) (ok_by seed_parser e)) ok_a))
      go true false r s t ok_a ok_b ok_c ok_d ok_e =
          refused (ap (λ o. weave_by x o z u (number_in e)) (not_read b 8 64 plain_b ok_b) ∙ no_second_of x z u (number_in e))
          (ap fails (fault ∙ ap₂ (λ v w. five_by v w (ok_by clients_parser c) (ok_by requests_parser d) (ok_by seed_parser e)) ok_a ok_b))
      go true true false s t ok_a ok_b ok_c ok_d ok_e =
          refused (ap (λ o. weave_by x y o u (number_in e)) (not_read c 1 64 plain_c ok_c) ∙ no_third_of x y u (number_in e))
          (ap fails (fault ∙ ap₂ (λ v w. five_by v w (ok_by clients_parser c) (ok_by requests_parser d) (ok_by seed_parser e)) ok_a ok_b
          ∙ ap (λ v. five_by true true v (ok_by requests_parser d) (ok_by seed_parser e)) ok_c))
      go true true true false t ok_a ok_b ok_c ok_d ok_e =
          refused (ap (λ o. weave_by x y z o (number_in e)) (not_read d 0 50000 plain_d ok_d) ∙ no_fourth_of x y z (number_in e))
          (ap fails (fault ∙ ap₂ (λ v w. five_by v w (ok_by clients_parser c) (ok_by requests_parser d) (ok_by seed_parser e)) ok_a ok_b
          ∙ ap₂ (λ v w. five_by true true v w (ok_by seed_parser e)) ok_c ok_d))
      go true true true true false ok_a ok_b ok_c ok_d ok_e =
          refused (ap (λ o. weave_by x y z u o) (no_seed e plain_e ok_e) ∙ no_fifth_of x y z u)
          (ap fails (fault ∙ ap₂ (λ v w. five_by v w (ok_by clients_parser c) (ok_by requests_parser d) (ok_by seed_parser e)) ok_a ok_b
          ∙ ap₂ (λ v w. five_by true true v w (ok_by seed_parser e)) ok_c ok_d ∙ ap (λ v. five_by true true true true v) ok_e))

weave_outcome : (rest : List Text) → list_all is_plain rest ≡ true → Outcome (codes "weave" ∷ rest)
weave_outcome [] plain = refused refl (ap fails (weave_fault []) ∙ fails_first (level weave_app []) [] five_none)
weave_outcome (a ∷ []) plain =
    let p = (plain_parts a (both_true (is_plain a) true plain).0).0 in
    refused refl (ap fails (weave_fault (a ∷ [])) ∙ fails_first (level weave_app (a ∷ [])) [] (five_one a a a a a p p p p p))
weave_outcome (a ∷ b ∷ []) plain =
    let at_a = both_true (is_plain a) (list_all is_plain (b ∷ [])) plain in
    let p = (plain_parts a at_a.0).0 in
    let q = (plain_parts b (both_true (is_plain b) true at_a.1).0).0 in
    refused refl (ap fails (weave_fault (a ∷ b ∷ [])) ∙ fails_first (level weave_app (a ∷ b ∷ [])) [] (five_two a b b b b p q q q q))
weave_outcome (a ∷ b ∷ c ∷ []) plain =
    let at_a = both_true (is_plain a) (list_all is_plain (b ∷ c ∷ [])) plain in
    let at_b = both_true (is_plain b) (list_all is_plain (c ∷ [])) at_a.1 in
    let p = (plain_parts a at_a.0).0 in
    let q = (plain_parts b at_b.0).0 in
    let r = (plain_parts c (both_true (is_plain c) true at_b.1).0).0 in
    refused refl (ap fails (weave_fault (a ∷ b ∷ c ∷ [])) ∙ fails_first (level weave_app (a ∷ b ∷ c ∷ [])) [] (five_three a b c c c p q r r r))
weave_outcome (a ∷ b ∷ c ∷ d ∷ []) plain =
    let at_a = both_true (is_plain a) (list_all is_plain (b ∷ c ∷ d ∷ [])) plain in
    let at_b = both_true (is_plain b) (list_all is_plain (c ∷ d ∷ [])) at_a.1 in
    let at_c = both_true (is_plain c) (list_all is_plain (d ∷ [])) at_b.1 in
    let p = (plain_parts a at_a.0).0 in
    let q = (plain_parts b at_b.0).0 in
    let r = (plain_parts c at_c.0).0 in
    let s = (plain_parts d (both_true (is_plain d) true at_c.1).0).0 in
    refused refl (ap fails (weave_fault (a ∷ b ∷ c ∷ d ∷ [])) ∙ fails_first (level weave_app (a ∷ b ∷ c ∷ d ∷ [])) [] (five_four a b c d d p q r s s))
weave_outcome (a ∷ b ∷ c ∷ d ∷ e ∷ []) plain =
    let at_a = both_true (is_plain a) (list_all is_plain (b ∷ c ∷ d ∷ e ∷ [])) plain in
    let at_b = both_true (is_plain b) (list_all is_plain (c ∷ d ∷ e ∷ [])) at_a.1 in
    let at_c = both_true (is_plain c) (list_all is_plain (d ∷ e ∷ [])) at_b.1 in
    let at_d = both_true (is_plain d) (list_all is_plain (e ∷ [])) at_c.1 in
    five_outcome a b c d e at_a.0 at_b.0 at_c.0 at_d.0 (both_true (is_plain e) true at_d.1).0
weave_outcome (a ∷ b ∷ c ∷ d ∷ e ∷ f ∷ more) plain =
    let at_a = both_true (is_plain a) (list_all is_plain (b ∷ c ∷ d ∷ e ∷ f ∷ more)) plain in
    let at_b = both_true (is_plain b) (list_all is_plain (c ∷ d ∷ e ∷ f ∷ more)) at_a.1 in
    let at_c = both_true (is_plain c) (list_all is_plain (d ∷ e ∷ f ∷ more)) at_b.1 in
    let at_d = both_true (is_plain d) (list_all is_plain (e ∷ f ∷ more)) at_c.1 in
    let at_e = both_true (is_plain e) (list_all is_plain (f ∷ more)) at_d.1 in
    let at_f = both_true (is_plain f) (list_all is_plain more) at_e.1 in
    refused refl (ap fails (weave_fault (a ∷ b ∷ c ∷ d ∷ e ∷ f ∷ more)) ∙ fails_first (level weave_app (a ∷ b ∷ c ∷ d ∷ e ∷ f ∷ more)) []
    (five_more a b c d e (plain_parts a at_a.0).0 (plain_parts b at_b.0).0 (plain_parts c at_c.0).0 (plain_parts d at_d.0).0 (plain_parts e at_e.0).0 f more (plain_parts f at_f.0).0))

-- ---- any words

unknown_job : (name : Text) (rest : List Text) → bytes_eq name (codes "script") ≡ false → bytes_eq name (codes "sim") ≡ false → bytes_eq name (codes "gen") ≡ false → bytes_eq name (codes "weave") ≡ false
    → bytes_eq name (codes "image") ≡ false → work_of (name ∷ rest) ≡ Err Usage
unknown_job name [] a b c w d = rw a refl
unknown_job name (x ∷ []) a b c w d = refl
unknown_job name (x ∷ y ∷ []) a b c w d = rw (b, c, d) refl
unknown_job name (x ∷ y ∷ z ∷ []) a b c w d = refl
unknown_job name (x ∷ y ∷ z ∷ u ∷ []) a b c w d = refl
unknown_job name (x ∷ y ∷ z ∷ u ∷ v ∷ []) a b c w d = rw w refl
unknown_job name (x ∷ y ∷ z ∷ u ∷ v ∷ t ∷ more) a b c w d = refl

turned : (a b : Text) → bytes_eq a b ≡ false → bytes_eq b a ≡ false
turned a b differ = go (bytes_eq b a) refl
  where
    go : (t : Bool) → bytes_eq b a ≡ t → bytes_eq b a ≡ false
    go false is = is
    go true is = let same : a ≡ b = sym ((bytes_eq-Decides b a).0 is) in let yes : bytes_eq a b ≡ true = (bytes_eq-Decides a b).1 same in absurd (cc)

pub outcome : (words : List Text) → list_all is_plain words ≡ true → Outcome words
outcome [] plain = refused refl (ap fails none_fault)
outcome (name ∷ rest) plain =
    go (bytes_eq name (codes "script")) (bytes_eq name (codes "sim")) (bytes_eq name (codes "gen")) (bytes_eq name (codes "weave")) (bytes_eq name (codes "image")) refl refl refl refl refl
  where
    parts : (is_plain name ≡ true) × (list_all is_plain rest ≡ true)
    parts = both_true (is_plain name) (list_all is_plain rest) plain

    go : (p q r t s : Bool) → bytes_eq name (codes "script") ≡ p → bytes_eq name (codes "sim") ≡ q → bytes_eq name (codes "gen") ≡ r → bytes_eq name (codes "weave") ≡ t → bytes_eq name (codes "image") ≡ s → Outcome (name ∷ rest)
    go true q r t s a b c w d = subst (λ (n : Text). Outcome (n ∷ rest)) (sym ((bytes_eq-Decides name (codes "script")).0 a)) (script_outcome rest parts.1)
    go false true r t s a b c w d = subst (λ (n : Text). Outcome (n ∷ rest)) (sym ((bytes_eq-Decides name (codes "sim")).0 b)) (numbered_outcome sim rest parts.1)
    go false false true t s a b c w d = subst (λ (n : Text). Outcome (n ∷ rest)) (sym ((bytes_eq-Decides name (codes "gen")).0 c)) (numbered_outcome gen rest parts.1)
    go false false false true s a b c w d = subst (λ (n : Text). Outcome (n ∷ rest)) (sym ((bytes_eq-Decides name (codes "weave")).0 w)) (weave_outcome rest parts.1)
    go false false false false true a b c w d = subst (λ (n : Text). Outcome (n ∷ rest)) (sym ((bytes_eq-Decides name (codes "image")).0 d)) (numbered_outcome image rest parts.1)
    go false false false false false a b c w d = refused (unknown_job name rest a b c w d)
        (unknown_fault name rest (plain_parts name parts.0).0 (turned name (codes "script") a) (turned name (codes "sim") b) (turned name (codes "gen") c) (turned name (codes "weave") w) (turned name (codes "image") d))

-- ---- words of which some are not plain

numbers_plain : (j : Numbered) (a b : Text) → (is_plain a && (is_plain b && true)) ≡ false → job_by j (number_in a) (number_in b) ≡ Err Usage
numbers_plain j a b mixed = go j (number_in a) (number_in b) refl refl
  where
    go : (j : Numbered) (x y : Option ℕ) → number_in a ≡ x → number_in b ≡ y → job_by j x y ≡ Err Usage
    go sim None y is_a is_b = refl
    go gen None y is_a is_b = refl
    go image None y is_a is_b = refl
    go sim (Some n) None is_a is_b = refl
    go gen (Some n) None is_a is_b = refl
    go image (Some n) None is_a is_b = refl
    go j (Some n) (Some m) is_a is_b = let plain_a = number_is_plain a n is_a in let plain_b = number_is_plain b m is_b in absurd (cc)

five_plain : (a b c d e : Text) → (is_plain a && (is_plain b && (is_plain c && (is_plain d && (is_plain e && true))))) ≡ false → weave_of (number_in a) (number_in b) (number_in c) (number_in d) (number_in e) ≡ Err Usage
five_plain a b c d e mixed = go (number_in a) (number_in b) (number_in c) (number_in d) (number_in e) refl refl refl refl refl
  where
    go : (x y z u v : Option ℕ) → number_in a ≡ x → number_in b ≡ y → number_in c ≡ z → number_in d ≡ u → number_in e ≡ v → weave_of x y z u v ≡ Err Usage
    go None y z u v is_a is_b is_c is_d is_e = refl
    go (Some n) None z u v is_a is_b is_c is_d is_e = no_second_of (bounded 1 8 (Some n)) (bounded 1 64 z) (bounded 0 50000 u) v
    go (Some n) (Some m) None u v is_a is_b is_c is_d is_e = no_third_of (bounded 1 8 (Some n)) (bounded 8 64 (Some m)) (bounded 0 50000 u) v
    go (Some n) (Some m) (Some k) None v is_a is_b is_c is_d is_e = no_fourth_of (bounded 1 8 (Some n)) (bounded 8 64 (Some m)) (bounded 1 64 (Some k)) v
    go (Some n) (Some m) (Some k) (Some l) None is_a is_b is_c is_d is_e = no_fifth_of (bounded 1 8 (Some n)) (bounded 8 64 (Some m)) (bounded 1 64 (Some k)) (bounded 0 50000 (Some l))
    go (Some n) (Some m) (Some k) (Some l) (Some s) is_a is_b is_c is_d is_e =
        let plain_a = number_is_plain a n is_a in
        let plain_b = number_is_plain b m is_b in
        let plain_c = number_is_plain c k is_c in
        let plain_d = number_is_plain d l is_d in
        let plain_e = number_is_plain e s is_e in
        absurd (cc)

pub not_plain : (words : List Text) → list_all is_plain words ≡ false → work_of words ≡ Err Usage
not_plain [] mixed = absurd (cc)
not_plain (name ∷ []) mixed = fails_test (bytes_eq name (codes "script")) (Ok job.Script) (Err Usage)
    (λ is. let plain : is_plain name ≡ true = ap is_plain ((bytes_eq-Decides name (codes "script")).0 is) in absurd (cc))
not_plain (name ∷ a ∷ []) mixed = refl
not_plain (name ∷ a ∷ b ∷ []) mixed = go (bytes_eq name (codes "sim")) (bytes_eq name (codes "gen")) (bytes_eq name (codes "image")) refl refl refl
  where
    -- the name is that of a job with two numbers
    named : (j : Numbered) → name ≡ (app_for j).top.name → is_plain (app_for j).top.name ≡ true → job_by j (number_in a) (number_in b) ≡ Err Usage
    named j is plain =
        let here : is_plain name ≡ true = ap is_plain is ∙ plain in
        let rest : (is_plain a && (is_plain b && true)) ≡ false = cc in
        numbers_plain j a b rest

    go : (p q r : Bool) → bytes_eq name (codes "sim") ≡ p → bytes_eq name (codes "gen") ≡ q → bytes_eq name (codes "image") ≡ r → with_two name a b ≡ Err Usage
    go true q r is_sim is_gen is_image = rw is_sim (named sim ((bytes_eq-Decides name (codes "sim")).0 is_sim) refl)
    go false true r is_sim is_gen is_image = rw (is_sim, is_gen) (named gen ((bytes_eq-Decides name (codes "gen")).0 is_gen) refl)
    go false false true is_sim is_gen is_image = rw (is_sim, is_gen, is_image) (named image ((bytes_eq-Decides name (codes "image")).0 is_image) refl)
    go false false false is_sim is_gen is_image = rw (is_sim, is_gen, is_image) refl
not_plain (name ∷ a ∷ b ∷ c ∷ []) mixed = refl
not_plain (name ∷ a ∷ b ∷ c ∷ d ∷ []) mixed = refl
not_plain (name ∷ a ∷ b ∷ c ∷ d ∷ e ∷ []) mixed = go (bytes_eq name (codes "weave")) refl
  where
    go : (t : Bool) → bytes_eq name (codes "weave") ≡ t → with_five name a b c d e ≡ Err Usage
    go true is =
        let here : is_plain name ≡ true = ap is_plain ((bytes_eq-Decides name (codes "weave")).0 is) in
        let rest : (is_plain a && (is_plain b && (is_plain c && (is_plain d && (is_plain e && true))))) ≡ false = cc in
        rw is (five_plain a b c d e rest)
    go false is = rw is refl
not_plain (name ∷ a ∷ b ∷ c ∷ d ∷ e ∷ f ∷ more) mixed = refl

-- where `clap` finds no fault the job is found, and is what the words ask for
pub job_found : (words : List Text) → list_all is_plain words ≡ true → fault_of lvm_app words ≡ [] → (found : Option Job) → found ≡ job_matched (subcommand_of lvm_app words) → (j : Job) × (found ≡ Some j) × (work_of words ≡ Ok j) × IsJobWithinLimits j
job_found words plain faultless found is = go (outcome words plain)
  where
    go : Outcome words → (j : Job) × (found ≡ Some j) × (work_of words ≡ Ok j) × IsJobWithinLimits j
    go (asks j asked within free matched) = (j, is ∙ matched, asked, within)
    go (refused none fails_so) = let bad : fails [] ≡ true = ap fails (sym faultless) ∙ fails_so in absurd (cc)

-- and where it finds one they ask for none
pub none_asked : (words : List Text) → list_all is_plain words ≡ true → (fault_of lvm_app words ≡ [] → ⊥) → work_of words ≡ Err Usage
none_asked words plain faulty = go (outcome words plain)
  where
    go : Outcome words → work_of words ≡ Err Usage
    go (asks j asked within free matched) = absurd (faulty free)
    go (refused none fails_so) = none

-- what `?` hands on
pub handed_on : {T E : Type 0} (r : Result T E) (e x : E) → IsErrAnd r (λ y. y ≡ e) → r ≡ Err x → e ≡ x
handed_on (Ok t) e x h is = absurd h
handed_on (Err y) e x h is = let same : y ≡ x = cc in sym h ∙ same
