use Rattle.std.proofs.Common.{◌==◌, ◌∙◌, ℕ, ap}
use Rattle.std.specs.List.{position}
use Rattle.lvm_mwc.specs.declared.filled.Key.{Key}
use Rattle.lvm_mwc.proofs.LaidLemmas.{takes_first, takes_second}
use Rattle.lvm_mwc.proofs.filled.Filled.place_to_take.Goals as goal

pub returns-in-Some : goal.returns-in-Some
returns-in-Some c =
    takes_first c.self.inside.keys.entries c.args.self.now c.in-Some.place c.self.view_is (c.in-Some.ensures ∙ ap (position (λ (k : Key). k.lv == 0)) (c.as_slice.ensures ∙ c.keys.ensures.rest))

pub returns : goal.returns
returns c =
    takes_second c.self.inside.keys.entries c.args.self.now c.first_without_pins.result c.self.view_is (c.in_default.ensures ∙ ap (position (λ (k : Key). k.lv == 0)) (c.as_slice.ensures ∙ c.keys.ensures.rest))
    (c.first_without_pins.ensures ∙ ap (position (λ (n : ℕ). n == 0)) (c.as_slice-2.ensures ∙ c.values.ensures.rest))
