use Rattle.std.proofs.Common.{◌≡◌, ◌⊎◌, inl, inr, true, [], sym, ◌∙◌, ap, subst}
use Rattle.lvm_disk.specs.Device.{Device}
use Rattle.lvm_session.specs.declared.open.Power.{Power}
use Rattle.lvm_session.specs.declared.open.Power.TheVariants as power
use Rattle.lvm_group_lines.specs.Stages.{IsClosed}
use Rattle.lvm_group_lines.proofs.stage.relit.Goals as goal

other_closed : (p : Power) → (p ≡ power.On) ⊎ ((p ≡ power.Off) ⊎ (p ≡ power.Stuck)) → (old new : Device) → new ≡ record old { freed = [] } → IsClosed p old new
other_closed power.On is old new same = same
other_closed power.Off is old new same = same
other_closed power.Stuck is old new same = same
other_closed power.Dark (inl is) old new same = absurd (cc is)
other_closed power.Dark (inr (inl is)) old new same = absurd (cc is)
other_closed power.Dark (inr (inr is)) old new same = absurd (cc is)

pub returns-in-Dark : goal.returns-in-Dark
returns-in-Dark g c = λ old same.
    subst (λ (p : Power). IsClosed p old (g.S.Shelf.device c.relight.new.shelf)) (sym c.in-Dark.is) (c.relight.ensures.lit ∙ ap (λ (d : Device). record d { freed = []; power = true }) same)

pub returns-in-On : goal.returns-in-On
returns-in-On g c = λ old same. other_closed c.args.power c.in-On.is old (g.S.Shelf.device c.args.shelf) same
