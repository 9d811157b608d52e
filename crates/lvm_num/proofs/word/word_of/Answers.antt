use Rattle.std.proofs.Common.{◌≡◌, ◌/◌, [], length, get_or, replicate, refl, sym, ◌∙◌, ap, arith}
use Rattle.std.specs.List.{list_all}
use Rattle.std.specs.Simd.{first_chunks}
use Rattle.std.specs.Int.{w64, to_be_bytes, from_be_bytes}
use Rattle.std.proofs.lemmas.Bool.{false≢true}
use Rattle.std.proofs.lemmas.Nat.{from_be_bytes-to_be_bytes_8}
use Rattle.lvm_num.specs.Word.{fill_of, is_word}
use Rattle.lvm_num.proofs.WordLemmas.{words-fill, words-are-all, first_chunks-equal}
use Rattle.lvm_num.proofs.word.word_of.Goals as goal

pub returns-then-are_all-clause-filled : goal.returns-then-are_all-clause-filled
unfolding fill_of
returns-then-are_all-clause-filled c =
    let block = c.args.block.now in
    let word = c.from_be_bytes-word.result in
    let long : length block ≡ 512 = omega arith in
    let count : length block / 8 ≡ 64 = ap (λ n. n / 8) long in
    let pieces : first_chunks 8 64 block ≡ c.as_chunks.result.0.now = sym (c.as_chunks.ensures.front ∙ ap (λ n. first_chunks 8 n block) count) in
    words-fill word 64 block long c.fits-block (ap (λ l. list_all (is_word word) l) pieces ∙ sym c.are_all.ensures ∙ c.if-are_all.true)

pub returns-else-are_all-clause-other : goal.returns-else-are_all-clause-other
unfolding fill_of
returns-else-are_all-clause-other c = λ word fits same.
    let block = c.args.block.now in
    let piece = to_be_bytes w64 word in
    let long : length block ≡ 512 = omega arith in
    let count : length block / 8 ≡ 64 = ap (λ n. n / 8) long in
    let pieces : c.as_chunks.result.0.now ≡ replicate 64 piece =
    c.as_chunks.ensures.front ∙ ap (λ n. first_chunks 8 n block) count ∙ ap (λ b. first_chunks 8 64 b) same ∙ first_chunks-equal 64 piece refl in
    let read : c.from_be_bytes-word.result ≡ word =
    c.from_be_bytes-word.ensures ∙ ap (λ ps. from_be_bytes w64 (get_or ps 0 [])) pieces ∙ from_be_bytes-to_be_bytes_8 word fits in
    false≢true (sym c.if-are_all.false ∙ c.are_all.ensures ∙ ap (λ w. list_all (is_word w) c.as_chunks.result.0.now) read ∙ ap (λ ps. list_all (is_word word) ps) pieces ∙ words-are-all word 64 fits)
