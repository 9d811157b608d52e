-- Passed on from `lvm_volume_lines`.
pub use Rattle.lvm_volume_lines.specs.Changing.{BecomesBig, BusyChvgBig, BusyChvgQuorum, ChvgBigDoes, ChvgBigEnds, ChvgBigFails, ChvgQuorumDoes, ChvgQuorumEnds, ChvgQuorumFails, IsChangeDone, NoGroupForChvgBig, NoGroupForChvgQuorum, SwitchesQuorum, UndrainedChvgBig, UndrainedChvgQuorum, change_refusal, change_reply}
pub use Rattle.lvm_volume_lines.specs.Closing.{BusyVaryoff, NoVaryoff, TidiesOff, UndrainedVaryoff, VariesOff, VaryoffDoes, VaryoffFails}
pub use Rattle.lvm_volume_lines.specs.Copies.{AddsCopies, BusyMklvcopy, BusyRmlvcopy, MklvcopyDoes, MklvcopyEnds, MklvcopyFails, NoGroupForMklvcopy, NoGroupForRmlvcopy, NoVolumeForMklvcopy, NoVolumeForRmlvcopy, RemovesCopies, RmlvcopyDoes, RmlvcopyEnds, RmlvcopyFails, UndrainedMklvcopy, UndrainedRmlvcopy}
pub use Rattle.lvm_volume_lines.specs.Resyncing.{IsSynced, NoGroupForSync, NoVolumeForSync, NothingSyncs, OtherGroupForSync, SyncGroupDoes, SyncVolumeDoes, SyncsGroup, SyncsVolume}
pub use Rattle.lvm_volume_lines.specs.Splitting.{BusySplitlvcopy, NoGroupForSplitlvcopy, NoVolumeForSplitlvcopy, SplitlvcopyDoes, SplitlvcopyEnds, SplitlvcopyFails, SplitsVolume, UndrainedSplitlvcopy}
pub use Rattle.lvm_volume_lines.specs.Volumes.{BusyMklv, BusyRmlv, Drains, IsDone, IsUndrained, MakesVolume, MklvDoes, MklvEnds, MklvFails, NoGroupForMklv, NoGroupForRmlv, NoVolumeForRmlv, RemovesVolume, RmlvDoes, RmlvEnds, RmlvFails, StaysOn, UndrainedMklv, UndrainedRmlv, refusal_for, wanted}
pub use Rattle.lvm_volume_lines.specs.Sharing.{SharesSession}
