use Rattle.std.proofs.Common.{◌≡◌, ℕ, List, [], ◌/◌, length, slice_index_or, ap, ◌∙◌}
use Rattle.std.specs.Simd.{first_chunks}
use Rattle.lvm_lane.proofs.read_buffer.ReadBuffer.sector.Goals as goal

pub returns : goal.returns
returns c = ap (λ (rows : List (List ℕ)). slice_index_or rows c.args.k []) (c.as_chunks.ensures.front ∙ ap (λ (n : ℕ). first_chunks 512 (n / 512) c.deref.result.now) long ∙ ap (first_chunks 512 256) seen)
  where
    long : length c.deref.result.now ≡ 131072
    long = ap length c.deref.ensures.value ∙ c.self.invariant

    seen : c.deref.result.now ≡ c.args.self.now
    seen = c.deref.ensures.value ∙ c.self.view_is
