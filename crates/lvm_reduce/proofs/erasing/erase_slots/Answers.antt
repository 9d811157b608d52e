use Rattle.std.proofs.Common.{ℕ, Bool, false, List, refl, ◌∙◌, ap, subst, ◌≡◌, length, replicate}
use Rattle.std.specs.Prelude.{◌==◌, slice_set}
use Rattle.lvm_transfer.specs.declared.moves.Moved.{Moved}
use Rattle.lvm_transfer.specs.declared.moves.Moved.TheVariants as moved
use Rattle.lvm_disk.specs.Device.{Device}
use Rattle.lvm_write.specs.Parts.{DoesPart}
use Rattle.lvm_erase.specs.Erasing.{ZeroesSlots}
use Rattle.lvm_session.specs.declared.session.Session.{Session}
use Rattle.lvm_session.specs.Fields.{core_of}
use Rattle.lvm_core.specs.Committing.{with_one_out}
use Rattle.lvm_core.proofs.CommittingLemmas.Buffers.{back_again}
use Rattle.lvm_reduce.proofs.erasing.erase_slots.Goals as goal

-- the zeros go to the disk with the first buffer
as_first : (disk n p q : ℕ) (old new : Device) (how : Moved) → n ≡ 0 → DoesPart (λ d. d == disk) (ZeroesSlots disk) disk n p q old new how → DoesPart (λ d. d == disk) (ZeroesSlots disk) disk 0 p q old new how
as_first disk n p q old new how number part = subst (λ (k : ℕ). DoesPart (λ d. d == disk) (ZeroesSlots disk) disk k p q old new how) number part

-- and the session is as it was once that is back
as_before : (self taken : Session) → taken ≡ record self { pool = with_one_out self.pool } → (pool : List Bool) (n : ℕ) → pool ≡ slice_set taken.pool n false → n ≡ 0 → self.pool ≡ replicate (length self.pool) false
    → core_of (record taken { pool = pool }) ≡ core_of self
as_before self taken is pool n gives number all = ap (λ (s : Session). core_of (record s { pool = pool })) is
    ∙ ap (λ (p : List Bool). core_of (record self { pool = p })) (gives ∙ ap (λ (s : Session). slice_set s.pool n false) is ∙ back_again self.pool n number all)

pub returns-in-Done-clause-does : goal.returns-in-Done-clause-does
returns-in-Done-clause-does g c =
    let taken = c.take_buffer-buf.new.session in
    let is = c.take_buffer-buf.ensures.taken in
    let part = as_first c.args.disk c.take_buffer-buf.result.number c.args.patience.now.left c.erase_descriptor.new.patience.left (g.S.Shelf.device c.args.shelf.now) (g.S.Shelf.device c.erase_descriptor.new.shelf) (moved.Done c.in-Done.back)
    c.take_buffer-buf.ensures.number c.in-Done.ensures.part in
    record {
      how = moved.Done c.in-Done.back;
      part = part;
      order = c.in-Done.ensures.order;
      erased = c.in-Done.ensures.erased;
      goes = (refl, as_before c.args.session.now taken is c.give.new.self c.in-Done.back.number c.give.ensures part.buffer c.requires.buffers);
    }

pub returns-in-Failed-clause-does : goal.returns-in-Failed-clause-does
returns-in-Failed-clause-does g c =
    let taken = c.take_buffer-buf.new.session in
    let is = c.take_buffer-buf.ensures.taken in
    let part = as_first c.args.disk c.take_buffer-buf.result.number c.args.patience.now.left c.erase_descriptor.new.patience.left (g.S.Shelf.device c.args.shelf.now) (g.S.Shelf.device c.erase_descriptor.new.shelf) (moved.Failed c.in-Failed.back)
    c.take_buffer-buf.ensures.number c.in-Failed.ensures.part in
    record {
      how = moved.Failed c.in-Failed.back;
      part = part;
      order = c.in-Failed.ensures.order;
      erased = tt;
      goes = (refl, as_before c.args.session.now taken is c.give-in-Failed.new.self c.in-Failed.back.number c.give-in-Failed.ensures part.buffer c.requires.buffers);
    }
