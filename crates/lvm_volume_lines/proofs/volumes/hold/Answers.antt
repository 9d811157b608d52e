use Rattle.std.proofs.Common.{◌≡◌, ◌==◌, true, List, [], ◌∷◌, length, refl, sym, ◌∙◌, ap}
use Rattle.std.proofs.lemmas.Bool.{eqb-true}
use Rattle.lvm_num.specs.declared.descriptor.Descriptor.{Descriptor}
use Rattle.lvm_num.specs.declared.descriptor.LvRow.{LvRow}
use Rattle.lvm_volume_lines.proofs.volumes.hold.Goals as goal

none_is : (rows : List LvRow) → (length rows == 0) ≡ true → rows ≡ []
none_is [] none = refl
none_is (row ∷ rows) none = absurd (let same = eqb-true (length (row ∷ rows)) 0 none in cc same)

pub returns-then-is_empty : goal.returns-then-is_empty
returns-then-is_empty g c =
    let none : c.args.driver.1.descriptor.lvs ≡ [] = ap (λ (d : Descriptor). d.lvs) (sym c.descriptor.ensures.same) ∙ none_is c.descriptor.result.now.lvs (sym c.is_empty.ensures ∙ c.if-is_empty.true) in
    record {
      core = c.args.driver.1;
      session = refl;
      shelf = refl;
      history = refl;
      is = refl;
      empty = λ no. refl;
      served = λ some. absurd (some none);
      sound = c.requires.may.1 (c.requires.none none) c.open.ensures.sound;
      kind = none;
    }
