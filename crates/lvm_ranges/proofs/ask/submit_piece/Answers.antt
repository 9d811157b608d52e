use Rattle.std.proofs.Common.{◌≡◌, Bool, true, false, length, refl, sym, ◌∙◌, ap}
use Rattle.lvm_ranges.proofs.ask.submit_piece.Goals as goal

never_copied : ◌≡◌ {A = Bool} false true → ⊥
never_copied e = absurd (cc e)

pub submit-requires-clause-asks : goal.submit-requires-clause-asks
submit-requires-clause-asks g c = record {
  group = record { some = c.requires.some; end = c.requires.last; group = c.requires.group; whole = λ e. absurd (never_copied e) };
  write = refl;
  long = λ given is. let same : c.as_slice.result.now ≡ given = cc is in ap length (sym same) ∙ ap length c.as_slice.ensures.value ∙ c.fill_bytes.ensures.long;
}

pub submit-requires-in-None-clause-asks : goal.submit-requires-in-None-clause-asks
submit-requires-in-None-clause-asks g c = record {
  group = record { some = c.requires.some; end = c.requires.last; group = c.requires.group; whole = λ e. absurd (never_copied e) };
  write = refl;
  long = λ given is. absurd (cc is);
}
