-- Passed on from `lvm_raw`.
pub use Rattle.lvm_raw.specs.Pieces.{piece_count, piece_end}
