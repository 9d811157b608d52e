use Rattle.std.proofs.Common.{◌≡◌, ◌∙◌, ◌-◌, ◌^◌, List, ℕ, Option, [], false, refl, sym, ap, subst}
use Rattle.std.specs.Prelude.{OnOk, option_map}
use Rattle.std.specs.String.{string_bytes}
use Rattle.std.specs.Fmt.{AppendsText, digits, format_spec, padded_integral, styled_digits_output}
use Rattle.std.proofs.Padding.{padded_integral_zeros}
use Rattle.lvm_load.specs.Script.{hex_word}
use Rattle.lvm_load.proofs.script.push_word.Goals as goal

pub returns : goal.returns
returns c =
    let zeros : hex_word c.args.word ≡ padded_integral (format_spec 32 0 4 16 (2 ^ 64 - 1)) false [] (digits 16 false c.args.word) =
    sym (padded_integral_zeros (format_spec 32 0 4 16 (2 ^ 64 - 1)) (digits 16 false c.args.word) refl refl) in
    let h = c.write.ensures.bytes in
    let spec = ap (λ s. styled_digits_output c.in_radix.result s) c.laid_out.ensures in
    let shown = ap (option_map (padded_integral (format_spec 32 0 4 16 (2 ^ 64 - 1)) false [])) c.in_radix.ensures in
    let written = subst (λ (o : Option (List ℕ)). OnOk c.write.result (AppendsText (string_bytes c.args.text.now) (string_bytes c.write.new.self) o)) (spec ∙ shown) c.write.ensures.bytes in
    rw zeros written
