use Rattle.std.proofs.Common.{◌≡◌, inl, inr, false, sym, ◌∙◌, arith}
use Rattle.std.specs.Prelude.{nat_eq, nat_le, codes, length}
use Rattle.std.specs.List.{list_all, starts_with}
use Rattle.std.proofs.lemmas.Bool.Decides.{nat_tests}
use Rattle.lvm_num.specs.Name.{is_letter, is_name_byte}
use Rattle.lvm_num.proofs.NameLemmas.{no_name, name-cons, refused, taken}
use Rattle.lvm_num.proofs.name.is_name.Goals as goal
use Rattle.lvm_num.proofs.name.is_name.Goals.{then-bytes-gt-LONGEST-via-then-bytes-gt-LONGEST, then-bytes-gt-LONGEST-via-else-bytes-gt-LONGEST+then-starts_with, then-bytes-gt-LONGEST-via-else-bytes-gt-LONGEST+else-starts_with+then-not-is_letter}

pub returns-in_default : goal.returns-in_default
returns-in_default c = sym (no_name c.args.bytes.now c.in_default.ensures.cases)

pub returns-then-bytes-gt-LONGEST : goal.returns-then-bytes-gt-LONGEST
returns-then-bytes-gt-LONGEST c =
    let bytes = c.args.bytes.now in
    let first = c.in-Some.first.now in
    let others = c.in-Some.others.now in
    let is = name-cons bytes first others c.in-Some.ensures.cases.0 in
    let fails = refused (nat_le (length others) 14) (starts_with nat_eq bytes (codes "hdisk")) (is_letter first) (list_all is_name_byte others) in
    elim c.then-bytes-gt-LONGEST.branch [
      | then-bytes-gt-LONGEST-via-then-bytes-gt-LONGEST w ↦
          let long : nat_le (length others) 14 ≡ false = grind (arith, nat_tests, c.in-Some.ensures.cases.1) in
          fails (inl long) ∙ sym is
      | then-bytes-gt-LONGEST-via-else-bytes-gt-LONGEST+then-starts_with w ↦ fails (inr (inl (sym w.starts_with.ensures.value ∙ w.if-starts_with.true))) ∙ sym is
      | then-bytes-gt-LONGEST-via-else-bytes-gt-LONGEST+else-starts_with+then-not-is_letter w ↦ fails (inr (inr (sym w.is_letter.ensures ∙ w.if-not-is_letter.true))) ∙ sym is
    ]

pub returns : goal.returns
returns c =
    let bytes = c.args.bytes.now in
    let first = c.in-Some.first.now in
    let others = c.in-Some.others.now in
    let is = name-cons bytes first others c.in-Some.ensures.cases.0 in
    c.are_name_bytes.ensures
    ∙ taken (nat_le (length others) 14) (starts_with nat_eq bytes (codes "hdisk")) (is_letter first) (list_all is_name_byte others) (grind (arith, nat_tests, c.in-Some.ensures.cases.1)) (sym c.starts_with.ensures.value ∙ c.if-starts_with.false) (sym c.is_letter.ensures ∙ c.if-not-is_letter.false)
    ∙ sym is
