-- Passed on from `lvm_volume_lines`.
pub use Rattle.lvm_line.specs.passed.VolumeLines.{IsSynced, NoGroupForSync, NoVolumeForSync, NothingSyncs, OtherGroupForSync, SyncGroupDoes, SyncVolumeDoes, SyncsGroup, SyncsVolume}
