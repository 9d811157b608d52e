-- Tests that hold together or not, and stamps that aren't before themselves.
use Rattle.std.proofs.Common.{◌≡◌, true, arith}
use Rattle.std.proofs.lemmas.Bool.Decides.{nat_tests}
use Rattle.lvm_num.specs.declared.record.Stamp.{Stamp}
use Rattle.lvm_num.specs.Record.{stamp_lt}
pub use Rattle.std.proofs.lemmas.Bool.{cases_Bool as either, and_parts as split, and_from as join}
pub use Rattle.lvm_num.proofs.Booleans.{clash, first_holds as first, second_holds as second}

pub not-itself : (a : Stamp) → stamp_lt a a ≡ true → ⊥
not-itself a e = grind (arith, nat_tests)
