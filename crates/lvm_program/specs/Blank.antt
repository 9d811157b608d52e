-- Images of disks that hold nothing.
use Rattle.std.specs.Prelude.{ℕ, ◌*◌, List, replicate}

-- so many MiB of zeros
abbrev pub blank_image : ℕ → List ℕ
blank_image mib = replicate (1048576 * mib) 0
