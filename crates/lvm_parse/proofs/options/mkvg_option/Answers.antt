use Rattle.std.proofs.Common.{rules, ◌≡◌, true, false, Some, refl, ap, sym, ◌∙◌}
use Rattle.std.specs.Prelude.{codes, is_some}
use Rattle.lvm_parse.specs.Words.{name_in, size_in}
use Rattle.lvm_parse.specs.Reading.{is_new}
use Rattle.lvm_parse.specs.Options.{mkvg_choice}
use Rattle.lvm_parse.specs.Rests.{left, word_at}
use Rattle.lvm_parse.proofs.ReadingLemmas.ManyWords.{options_lack, options_end, alone_is_read, value_is_read, value_misfits}
use Rattle.lvm_parse.proofs.OptionsLemmas.{mkvg_force, mkvg_name, mkvg_size, mkvg_none}
use Rattle.lvm_parse.proofs.options.mkvg_option.Goals as goal

pub returns-in_default : goal.returns-in_default
returns-in_default c = (refl, options_lack mkvg_choice c.args.options.now (left c.args.rest) c.in_default.ensures.word)

pub returns-then-is_new : goal.returns-then-is_new
returns-then-is_new c =
    let is_f : is_new c.in-Some.word.bytes.now (codes "-f") c.args.options.now.force ≡ true = sym c.if-is_new.ensures in
    alone_is_read mkvg_choice c.args.options.now (record c.args.options.now { force = true }) (left c.args.rest) (word_at c.in-Some.word) (left c.in-Some.behind) c.in-Some.ensures.word (mkvg_force c.args.options.now c.in-Some.word.bytes.now is_f)

pub returns-in-Ok : goal.returns-in-Ok
returns-in-Ok c =
    let is_f : is_new c.in-Some.word.bytes.now (codes "-f") c.args.options.now.force ≡ false = sym c.if-is_new.ensures in
    let is_y : is_new c.in-Some.word.bytes.now (codes "-y") (is_some c.args.options.now.name) ≡ true = ap (is_new c.in-Some.word.bytes.now (codes "-y")) (sym c.is_some.ensures) ∙ sym c.if-is_new-2.ensures in
    value_is_read mkvg_choice c.args.options.now (λ value. record c.args.options.now { name = Some value }) name_in (left c.args.rest) (word_at c.in-Some.word) (left c.in-Some.behind) _ _ c.in-Some.ensures.word (mkvg_name c.args.options.now c.in-Some.word.bytes.now is_f is_y) (search (rules, c.in-Ok.ensures))

pub returns-in-Err : goal.returns-in-Err
returns-in-Err c =
    let is_f : is_new c.in-Some.word.bytes.now (codes "-f") c.args.options.now.force ≡ false = sym c.if-is_new.ensures in
    let is_y : is_new c.in-Some.word.bytes.now (codes "-y") (is_some c.args.options.now.name) ≡ true = ap (is_new c.in-Some.word.bytes.now (codes "-y")) (sym c.is_some.ensures) ∙ sym c.if-is_new-2.ensures in
    value_misfits mkvg_choice c.args.options.now (λ value. record c.args.options.now { name = Some value }) name_in (left c.args.rest) (word_at c.in-Some.word) (left c.in-Some.behind) c.in-Err.misfit c.in-Some.ensures.word (mkvg_name c.args.options.now c.in-Some.word.bytes.now is_f is_y) c.in-Err.ensures

pub returns-in-Ok-size : goal.returns-in-Ok-size
returns-in-Ok-size c =
    let is_f : is_new c.in-Some.word.bytes.now (codes "-f") c.args.options.now.force ≡ false = sym c.if-is_new.ensures in
    let is_y : is_new c.in-Some.word.bytes.now (codes "-y") (is_some c.args.options.now.name) ≡ false = ap (is_new c.in-Some.word.bytes.now (codes "-y")) (sym c.is_some.ensures) ∙ sym c.if-is_new-2.ensures in
    let is_s : is_new c.in-Some.word.bytes.now (codes "-s") (is_some c.args.options.now.mib) ≡ true = ap (is_new c.in-Some.word.bytes.now (codes "-s")) (sym c.is_some-2.ensures) ∙ sym c.if-is_new-3.ensures in
    value_is_read mkvg_choice c.args.options.now (λ value. record c.args.options.now { mib = Some value }) size_in (left c.args.rest) (word_at c.in-Some.word) (left c.in-Some.behind) c.in-Ok-size.mib (left c.in-Ok-size.behind) c.in-Some.ensures.word (mkvg_size c.args.options.now c.in-Some.word.bytes.now is_f is_y is_s) c.in-Ok-size.ensures

pub returns-in-Err-size : goal.returns-in-Err-size
returns-in-Err-size c =
    let is_f : is_new c.in-Some.word.bytes.now (codes "-f") c.args.options.now.force ≡ false = sym c.if-is_new.ensures in
    let is_y : is_new c.in-Some.word.bytes.now (codes "-y") (is_some c.args.options.now.name) ≡ false = ap (is_new c.in-Some.word.bytes.now (codes "-y")) (sym c.is_some.ensures) ∙ sym c.if-is_new-2.ensures in
    let is_s : is_new c.in-Some.word.bytes.now (codes "-s") (is_some c.args.options.now.mib) ≡ true = ap (is_new c.in-Some.word.bytes.now (codes "-s")) (sym c.is_some-2.ensures) ∙ sym c.if-is_new-3.ensures in
    value_misfits mkvg_choice c.args.options.now (λ value. record c.args.options.now { mib = Some value }) size_in (left c.args.rest) (word_at c.in-Some.word) (left c.in-Some.behind) c.in-Err-size.misfit c.in-Some.ensures.word (mkvg_size c.args.options.now c.in-Some.word.bytes.now is_f is_y is_s) c.in-Err-size.ensures

pub returns : goal.returns
returns c =
    let is_f : is_new c.in-Some.word.bytes.now (codes "-f") c.args.options.now.force ≡ false = sym c.if-is_new.ensures in
    let is_y : is_new c.in-Some.word.bytes.now (codes "-y") (is_some c.args.options.now.name) ≡ false = ap (is_new c.in-Some.word.bytes.now (codes "-y")) (sym c.is_some.ensures) ∙ sym c.if-is_new-2.ensures in
    let is_s : is_new c.in-Some.word.bytes.now (codes "-s") (is_some c.args.options.now.mib) ≡ false = ap (is_new c.in-Some.word.bytes.now (codes "-s")) (sym c.is_some-2.ensures) ∙ sym c.if-is_new-3.ensures in
    (refl, options_end mkvg_choice c.args.options.now (left c.args.rest) (word_at c.in-Some.word) (left c.in-Some.behind) c.in-Some.ensures.word (mkvg_none c.args.options.now c.in-Some.word.bytes.now is_f is_y is_s))
