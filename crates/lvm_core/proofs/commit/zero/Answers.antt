use Rattle.std.proofs.Common.{ℕ, Bool, false, List, refl, ◌∙◌, ap, subst, ◌≡◌, length, replicate}
use Rattle.std.specs.Prelude.{◌==◌, slice_set}
use Rattle.lvm_commit.specs.passed.TransferMovesMoved as moved
use Rattle.lvm_write.specs.Parts.{DoesPart}
use Rattle.lvm_session.specs.declared.session.Session.{Session}
use Rattle.lvm_session.specs.Fields.{core_of}
use Rattle.lvm_core.specs.Zeros.{IsZeroOf, IsZeroed}
use Rattle.lvm_core.proofs.CommittingLemmas.Buffers.{back_again}
use Rattle.lvm_core.proofs.commit.zero.Goals as goal
use Rattle.lvm_num.specs.declared.place.Pp.{Pp}
use Rattle.lvm_disk.specs.Device.{Device}
use Rattle.lvm_commit.specs.passed.Transfer.{Moved}
use Rattle.lvm_core.specs.Committing.{with_one_out}

module _ (self taken : Session) (is : taken ≡ record self { pool = with_one_out self.pool }) where
  -- the zeros go to the partition of the session's group, with the first buffer
  as_first : (pp : Pp) (n p q : ℕ) (old new : Device) (how : Moved) → n ≡ 0 → DoesPart (λ d. d == pp.disk) (IsZeroOf taken.descriptor.mib pp) pp.disk n p q old new how
      → DoesPart (λ d. d == pp.disk) (IsZeroOf self.descriptor.mib pp) pp.disk 0 p q old new how
  as_first pp n p q old new how number part = subst (λ (s : Session). DoesPart (λ d. d == pp.disk) (IsZeroOf s.descriptor.mib pp) pp.disk 0 p q old new how) is
      (subst (λ (k : ℕ). DoesPart (λ d. d == pp.disk) (IsZeroOf taken.descriptor.mib pp) pp.disk k p q old new how) number part)

  -- and the session is as it was once that is back
  as_before : (pool : List Bool) (n : ℕ) → pool ≡ slice_set taken.pool n false → n ≡ 0 → self.pool ≡ replicate (length self.pool) false → core_of (record taken { pool = pool }) ≡ core_of self
  as_before pool n gives number all = ap (λ (s : Session). core_of (record s { pool = pool })) is
      ∙ ap (λ (p : List Bool). core_of (record self { pool = p })) (gives ∙ ap (λ (s : Session). slice_set s.pool n false) is ∙ back_again self.pool n number all)

pub returns-in-Done-clause-does : goal.returns-in-Done-clause-does
returns-in-Done-clause-does g c =
    let taken = c.take_buffer-buf.new.session in
    let is = c.take_buffer-buf.ensures.taken in
    let new = g.S.Shelf.device c.write_zeros.new.shelf in
    let part = as_first c.args.session.now taken is c.args.pp c.take_buffer-buf.result.number c.args.patience.now.left c.write_zeros.new.patience.left (g.S.Shelf.device c.args.shelf.now) new (moved.Done c.in-Done.back) c.take_buffer-buf.ensures.number c.in-Done.ensures.part in
    record {
      how = moved.Done c.in-Done.back;
      part = part;
      zeros = subst (λ (s : Session). IsZeroed s.descriptor.mib c.args.pp new) is c.in-Done.ensures.zeros;
      goes = (refl, as_before c.args.session.now taken is c.give.new.self c.in-Done.back.number c.give.ensures part.buffer c.requires.buffers);
    }

pub returns-in-Failed-clause-does : goal.returns-in-Failed-clause-does
returns-in-Failed-clause-does g c =
    let taken = c.take_buffer-buf.new.session in
    let is = c.take_buffer-buf.ensures.taken in
    let part = as_first c.args.session.now taken is c.args.pp c.take_buffer-buf.result.number c.args.patience.now.left c.write_zeros.new.patience.left (g.S.Shelf.device c.args.shelf.now) (g.S.Shelf.device c.write_zeros.new.shelf)
    (moved.Failed c.in-Failed.back) c.take_buffer-buf.ensures.number c.in-Failed.ensures.part in
    record { how = moved.Failed c.in-Failed.back; part = part; zeros = tt; goes = (refl, as_before c.args.session.now taken is c.give-in-Failed.new.self c.in-Failed.back.number c.give-in-Failed.ensures part.buffer c.requires.buffers) }
