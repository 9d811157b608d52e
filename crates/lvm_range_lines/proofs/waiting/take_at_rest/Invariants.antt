use Rattle.std.proofs.Common.{◌≡◌, []}
use Rattle.lvm_session.specs.State.{state_of}
use Rattle.lvm_session.specs.Sound.{IsSound}
use Rattle.lvm_range_lines.specs.Taking.{Enters}
use Rattle.lvm_range_lines.proofs.TakingLemmas.Takings.{TakenOn}
use Rattle.lvm_range_lines.proofs.waiting.take_at_rest.Given as goal

abbrev pub invariant-loop-post : goal.invariant-loop-post
invariant-loop-post g l = record {
  so_far : TakenOn (state_of g.S.Shelf.device l.fn.driver) (state_of g.S.Shelf.device l.driver) l.posts l.post-index l.answers;
  none : l.driver.1.requests ≡ [];
  sound : IsSound (state_of g.S.Shelf.device l.driver);
  enters : Enters (state_of g.S.Shelf.device l.fn.driver) (state_of g.S.Shelf.device l.driver);
}
