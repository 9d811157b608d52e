use Rattle.lvm_lane.proofs.read_buffer.ReadBuffer.new.Goals as goal

pub returns-in-Ok : goal.returns-in-Ok
returns-in-Ok c = c.in-Ok.ensures.items_if_clones_equal (λ y same. same)
