use Rattle.std.proofs.Common.{rules, ◌≡◌, true, false, Some, refl, ap, sym, ◌∙◌}
use Rattle.std.specs.Prelude.{codes, is_some}
use Rattle.lvm_parse.specs.Words.{name_in, copy_count_in, mode_in, policy_in}
use Rattle.lvm_parse.specs.Reading.{is_new}
use Rattle.lvm_parse.specs.Options.{mklv_choice}
use Rattle.lvm_parse.specs.Rests.{left, word_at}
use Rattle.lvm_parse.proofs.ReadingLemmas.ManyWords.{options_lack, options_end, value_is_read, value_misfits}
use Rattle.lvm_parse.proofs.OptionsLemmas.{mklv_name, mklv_copies, mklv_mode, mklv_policy, mklv_none}
use Rattle.lvm_parse.proofs.options.mklv_option.Goals as goal

pub returns-in_default : goal.returns-in_default
returns-in_default c = (refl, options_lack mklv_choice c.args.options.now (left c.args.rest) c.in_default.ensures.word)

pub returns-in-Ok : goal.returns-in-Ok
returns-in-Ok c =
    let is_y : is_new c.in-Some.word.bytes.now (codes "-y") (is_some c.args.options.now.name) ≡ true = ap (is_new c.in-Some.word.bytes.now (codes "-y")) (sym c.is_some.ensures) ∙ sym c.if-is_new.ensures in
    value_is_read mklv_choice c.args.options.now (λ value. record c.args.options.now { name = Some value }) name_in (left c.args.rest) (word_at c.in-Some.word) (left c.in-Some.behind) _ _ c.in-Some.ensures.word (mklv_name c.args.options.now c.in-Some.word.bytes.now is_y) (search (rules, c.in-Ok.ensures))

pub returns-in-Err : goal.returns-in-Err
returns-in-Err c =
    let is_y : is_new c.in-Some.word.bytes.now (codes "-y") (is_some c.args.options.now.name) ≡ true = ap (is_new c.in-Some.word.bytes.now (codes "-y")) (sym c.is_some.ensures) ∙ sym c.if-is_new.ensures in
    value_misfits mklv_choice c.args.options.now (λ value. record c.args.options.now { name = Some value }) name_in (left c.args.rest) (word_at c.in-Some.word) (left c.in-Some.behind) c.in-Err.misfit c.in-Some.ensures.word (mklv_name c.args.options.now c.in-Some.word.bytes.now is_y) c.in-Err.ensures

pub returns-in-Ok-copies : goal.returns-in-Ok-copies
returns-in-Ok-copies c =
    let is_y : is_new c.in-Some.word.bytes.now (codes "-y") (is_some c.args.options.now.name) ≡ false = ap (is_new c.in-Some.word.bytes.now (codes "-y")) (sym c.is_some.ensures) ∙ sym c.if-is_new.ensures in
    let is_c : is_new c.in-Some.word.bytes.now (codes "-c") (is_some c.args.options.now.copies) ≡ true = ap (is_new c.in-Some.word.bytes.now (codes "-c")) (sym c.is_some-2.ensures) ∙ sym c.if-is_new-2.ensures in
    value_is_read mklv_choice c.args.options.now (λ value. record c.args.options.now { copies = Some value }) copy_count_in (left c.args.rest) (word_at c.in-Some.word) (left c.in-Some.behind) c.in-Ok-copies.copies (left c.in-Ok-copies.behind) c.in-Some.ensures.word (mklv_copies c.args.options.now c.in-Some.word.bytes.now is_y is_c) c.in-Ok-copies.ensures

pub returns-in-Err-copies : goal.returns-in-Err-copies
returns-in-Err-copies c =
    let is_y : is_new c.in-Some.word.bytes.now (codes "-y") (is_some c.args.options.now.name) ≡ false = ap (is_new c.in-Some.word.bytes.now (codes "-y")) (sym c.is_some.ensures) ∙ sym c.if-is_new.ensures in
    let is_c : is_new c.in-Some.word.bytes.now (codes "-c") (is_some c.args.options.now.copies) ≡ true = ap (is_new c.in-Some.word.bytes.now (codes "-c")) (sym c.is_some-2.ensures) ∙ sym c.if-is_new-2.ensures in
    value_misfits mklv_choice c.args.options.now (λ value. record c.args.options.now { copies = Some value }) copy_count_in (left c.args.rest) (word_at c.in-Some.word) (left c.in-Some.behind) c.in-Err-copies.misfit c.in-Some.ensures.word (mklv_copies c.args.options.now c.in-Some.word.bytes.now is_y is_c) c.in-Err-copies.ensures

pub returns-in-Ok-mode : goal.returns-in-Ok-mode
returns-in-Ok-mode c =
    let is_y : is_new c.in-Some.word.bytes.now (codes "-y") (is_some c.args.options.now.name) ≡ false = ap (is_new c.in-Some.word.bytes.now (codes "-y")) (sym c.is_some.ensures) ∙ sym c.if-is_new.ensures in
    let is_c : is_new c.in-Some.word.bytes.now (codes "-c") (is_some c.args.options.now.copies) ≡ false = ap (is_new c.in-Some.word.bytes.now (codes "-c")) (sym c.is_some-2.ensures) ∙ sym c.if-is_new-2.ensures in
    let is_w : is_new c.in-Some.word.bytes.now (codes "-w") (is_some c.args.options.now.mode) ≡ true = ap (is_new c.in-Some.word.bytes.now (codes "-w")) (sym c.is_some-3.ensures) ∙ sym c.if-is_new-3.ensures in
    value_is_read mklv_choice c.args.options.now (λ value. record c.args.options.now { mode = Some value }) mode_in (left c.args.rest) (word_at c.in-Some.word) (left c.in-Some.behind) c.in-Ok-mode.mode (left c.in-Ok-mode.behind) c.in-Some.ensures.word (mklv_mode c.args.options.now c.in-Some.word.bytes.now is_y is_c is_w) c.in-Ok-mode.ensures

pub returns-in-Err-mode : goal.returns-in-Err-mode
returns-in-Err-mode c =
    let is_y : is_new c.in-Some.word.bytes.now (codes "-y") (is_some c.args.options.now.name) ≡ false = ap (is_new c.in-Some.word.bytes.now (codes "-y")) (sym c.is_some.ensures) ∙ sym c.if-is_new.ensures in
    let is_c : is_new c.in-Some.word.bytes.now (codes "-c") (is_some c.args.options.now.copies) ≡ false = ap (is_new c.in-Some.word.bytes.now (codes "-c")) (sym c.is_some-2.ensures) ∙ sym c.if-is_new-2.ensures in
    let is_w : is_new c.in-Some.word.bytes.now (codes "-w") (is_some c.args.options.now.mode) ≡ true = ap (is_new c.in-Some.word.bytes.now (codes "-w")) (sym c.is_some-3.ensures) ∙ sym c.if-is_new-3.ensures in
    value_misfits mklv_choice c.args.options.now (λ value. record c.args.options.now { mode = Some value }) mode_in (left c.args.rest) (word_at c.in-Some.word) (left c.in-Some.behind) c.in-Err-mode.misfit c.in-Some.ensures.word (mklv_mode c.args.options.now c.in-Some.word.bytes.now is_y is_c is_w) c.in-Err-mode.ensures

pub returns-in-Ok-policy : goal.returns-in-Ok-policy
returns-in-Ok-policy c =
    let is_y : is_new c.in-Some.word.bytes.now (codes "-y") (is_some c.args.options.now.name) ≡ false = ap (is_new c.in-Some.word.bytes.now (codes "-y")) (sym c.is_some.ensures) ∙ sym c.if-is_new.ensures in
    let is_c : is_new c.in-Some.word.bytes.now (codes "-c") (is_some c.args.options.now.copies) ≡ false = ap (is_new c.in-Some.word.bytes.now (codes "-c")) (sym c.is_some-2.ensures) ∙ sym c.if-is_new-2.ensures in
    let is_w : is_new c.in-Some.word.bytes.now (codes "-w") (is_some c.args.options.now.mode) ≡ false = ap (is_new c.in-Some.word.bytes.now (codes "-w")) (sym c.is_some-3.ensures) ∙ sym c.if-is_new-3.ensures in
    let is_d : is_new c.in-Some.word.bytes.now (codes "-d") (is_some c.args.options.now.policy) ≡ true = ap (is_new c.in-Some.word.bytes.now (codes "-d")) (sym c.is_some-4.ensures) ∙ sym c.if-is_new-4.ensures in
    value_is_read mklv_choice c.args.options.now (λ value. record c.args.options.now { policy = Some value }) policy_in (left c.args.rest) (word_at c.in-Some.word) (left c.in-Some.behind) c.in-Ok-policy.policy (left c.in-Ok-policy.behind) c.in-Some.ensures.word (mklv_policy c.args.options.now c.in-Some.word.bytes.now is_y is_c is_w is_d) c.in-Ok-policy.ensures

pub returns-in-Err-policy : goal.returns-in-Err-policy
returns-in-Err-policy c =
    let is_y : is_new c.in-Some.word.bytes.now (codes "-y") (is_some c.args.options.now.name) ≡ false = ap (is_new c.in-Some.word.bytes.now (codes "-y")) (sym c.is_some.ensures) ∙ sym c.if-is_new.ensures in
    let is_c : is_new c.in-Some.word.bytes.now (codes "-c") (is_some c.args.options.now.copies) ≡ false = ap (is_new c.in-Some.word.bytes.now (codes "-c")) (sym c.is_some-2.ensures) ∙ sym c.if-is_new-2.ensures in
    let is_w : is_new c.in-Some.word.bytes.now (codes "-w") (is_some c.args.options.now.mode) ≡ false = ap (is_new c.in-Some.word.bytes.now (codes "-w")) (sym c.is_some-3.ensures) ∙ sym c.if-is_new-3.ensures in
    let is_d : is_new c.in-Some.word.bytes.now (codes "-d") (is_some c.args.options.now.policy) ≡ true = ap (is_new c.in-Some.word.bytes.now (codes "-d")) (sym c.is_some-4.ensures) ∙ sym c.if-is_new-4.ensures in
    value_misfits mklv_choice c.args.options.now (λ value. record c.args.options.now { policy = Some value }) policy_in (left c.args.rest) (word_at c.in-Some.word) (left c.in-Some.behind) c.in-Err-policy.misfit c.in-Some.ensures.word (mklv_policy c.args.options.now c.in-Some.word.bytes.now is_y is_c is_w is_d) c.in-Err-policy.ensures

pub returns : goal.returns
returns c =
    let is_y : is_new c.in-Some.word.bytes.now (codes "-y") (is_some c.args.options.now.name) ≡ false = ap (is_new c.in-Some.word.bytes.now (codes "-y")) (sym c.is_some.ensures) ∙ sym c.if-is_new.ensures in
    let is_c : is_new c.in-Some.word.bytes.now (codes "-c") (is_some c.args.options.now.copies) ≡ false = ap (is_new c.in-Some.word.bytes.now (codes "-c")) (sym c.is_some-2.ensures) ∙ sym c.if-is_new-2.ensures in
    let is_w : is_new c.in-Some.word.bytes.now (codes "-w") (is_some c.args.options.now.mode) ≡ false = ap (is_new c.in-Some.word.bytes.now (codes "-w")) (sym c.is_some-3.ensures) ∙ sym c.if-is_new-3.ensures in
    let is_d : is_new c.in-Some.word.bytes.now (codes "-d") (is_some c.args.options.now.policy) ≡ false = ap (is_new c.in-Some.word.bytes.now (codes "-d")) (sym c.is_some-4.ensures) ∙ sym c.if-is_new-4.ensures in
    (refl, options_end mklv_choice c.args.options.now (left c.args.rest) (word_at c.in-Some.word) (left c.in-Some.behind) c.in-Some.ensures.word (mklv_none c.args.options.now c.in-Some.word.bytes.now is_y is_c is_w is_d))
