-- What image files are called.
use Rattle.std.specs.Prelude.{ℕ, ◌++◌, List, codes}
use Rattle.std.specs.Fmt.{decimal}

-- `hdisk`, the disk's number, and `.img`
abbrev pub image_name : ℕ → List ℕ
image_name disk = codes "hdisk" ++ decimal disk ++ codes ".img"
