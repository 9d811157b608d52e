-- A pass is a badge with one view, and two numbers of it that the program knows.
use Rattle.std.specs.Prelude.{◌≡◌, ◌+◌, ◌<◌, ◌^◌, false, List, [], ◌∷◌, length}
use Rattle.lvm_turn.specs.declared.pass.Pass.TheInside.{Inside}
use Rattle.lvm_turn.specs.Views.{View, Standing, nobody}

abbrev pub view_of : List View → View
view_of [] = nobody
view_of (v ∷ vs) = v

abbrev pub standing_of : Inside → Standing
standing_of p = record { table = p.badge.table_id; knows = view_of p.badge.views }

-- the numbers are those of the view, which isn't taken in and has nothing in hand
pub record IsPass (p : Inside) : Type 0 where
  pub one : p.badge.views ≡ view_of p.badge.views ∷ []
  pub number : p.number ≡ (view_of p.badge.views).number
  pub length_is : p.length ≡ length (view_of p.badge.views).front
  pub live : (view_of p.badge.views).spent ≡ false
  pub empty_handed : (view_of p.badge.views).hand ≡ false
  pub low : p.number + 1 < 2 ^ 64
