-- What a single word means.
use Rattle.std.specs.Prelude.{ℕ, ◌+◌, ◌-◌, ◌*◌, ◌^◌, ◌==◌, nat_lt, nat_le, Bool, true, false, ◌&&◌, ◌||◌, not, if◌then◌else◌, List, [], ◌∷◌, length, take, drop, Option, Some, None, codes, bytes_eq}
use Rattle.std.specs.List.{list_all}
use Rattle.lvm_num.specs.Descriptor.{is_size}
use Rattle.lvm_num.specs.Name.{is_name}
use Rattle.lvm_num.specs.declared.descriptor.Mode.{Mode}
use Rattle.lvm_num.specs.declared.descriptor.Mode.TheVariants as mode
use Rattle.lvm_num.specs.declared.descriptor.Policy.{Policy}
use Rattle.lvm_num.specs.declared.descriptor.Policy.TheVariants as policy

-- the value, where the test passes
abbrev pub only : {T : Type 0} → (T → Bool) → Option T → Option T
only test None = None
only test (Some value) = if test value then Some value else None

-- ---- numbers

abbrev pub is_digit : ℕ → Bool
is_digit b = nat_le 48 b && nat_le b 57

-- the number that is continued by these decimal digits
abbrev pub decimal_from : ℕ → List ℕ → ℕ
decimal_from n [] = n
decimal_from n (b ∷ digits) = decimal_from (10 * n + (b - 48)) digits

-- 1 to 20 decimal digits, zeros in front among them, of a number below 2 ^ 64
abbrev pub number_in : List ℕ → Option ℕ
number_in word = if nat_le 1 (length word) && nat_le (length word) 20 && list_all is_digit word && nat_lt (decimal_from 0 word) (2 ^ 64) then Some (decimal_from 0 word) else None

-- a number within these bounds
abbrev pub number_within : ℕ → ℕ → List ℕ → Option ℕ
number_within low high word = only (λ n. nat_le low n && nat_le n high) (number_in word)

-- COUNT: 1 to 4,096 blocks
abbrev pub count_in : List ℕ → Option ℕ
count_in = number_within 1 4096

-- LPS: 1 to 65,535 logical partitions
abbrev pub partition_count_in : List ℕ → Option ℕ
partition_count_in = number_within 1 65535

-- TURNS: 1 to 1,000,000 turns
abbrev pub turns_in : List ℕ → Option ℕ
turns_in = number_within 1 1000000

-- N: 0 to 9 copies
abbrev pub copy_count_in : List ℕ → Option ℕ
copy_count_in = number_within 0 9

-- MIB: a power of two from 1 to 1,024
abbrev pub size_in : List ℕ → Option ℕ
size_in word = only is_size (number_within 1 1024 word)

abbrev pub is_hex_digit : ℕ → Bool
is_hex_digit b = is_digit b || (nat_le 65 b && nat_le b 70) || (nat_le 97 b && nat_le b 102)

-- the value of a hexadecimal digit of either case
abbrev pub hex_value : ℕ → ℕ
hex_value b = if nat_le b 57 then b - 48 else (if nat_le b 70 then b - 55 else b - 87)

abbrev pub hex_from : ℕ → List ℕ → ℕ
hex_from n [] = n
hex_from n (b ∷ digits) = hex_from (16 * n + hex_value b) digits

-- WORD: 16 hexadecimal digits of either case
abbrev pub word_in : List ℕ → Option ℕ
word_in word = if (length word == 16) && list_all is_hex_digit word then Some (hex_from 0 word) else None

-- ---- names

-- NAME: the bytes of a name
abbrev pub name_in : List ℕ → Option (List ℕ)
name_in word = if is_name word then Some word else None

-- more than one digit, of which the first is 0
abbrev pub is_padded : List ℕ → Bool
is_padded [] = false
is_padded (b ∷ []) = false
is_padded (b ∷ c ∷ digits) = b == 48

-- DISK: `hdisk` and a number from 0 to 127 without zeros in front
abbrev pub disk_in : List ℕ → Option ℕ
disk_in word = if bytes_eq (take 5 word) (codes "hdisk") && not (is_padded (drop 5 word)) then number_within 0 127 (drop 5 word) else None

-- DISK: one that isn't this
abbrev pub other_disk_in : ℕ → List ℕ → Option ℕ
other_disk_in disk word = only (λ other. not (other == disk)) (disk_in word)

-- the value of `-w`: `n`, `y` or `a`, of which the two are one, or `p`
abbrev pub mode_in : List ℕ → Option Mode
mode_in word = if bytes_eq word (codes "n") then Some mode.Off else (if bytes_eq word (codes "y") then Some mode.Active else (if bytes_eq word (codes "a") then Some mode.Active else (if bytes_eq word (codes "p") then Some mode.Passive else None)))

-- the value of `-Q`: `y`, on, or `n`, off
abbrev pub switch_in : List ℕ → Option Bool
switch_in word = if bytes_eq word (codes "y") then Some true else (if bytes_eq word (codes "n") then Some false else None)

-- the value of `-d`: `p`, `s`, `ps` or `pr`
abbrev pub policy_in : List ℕ → Option Policy
policy_in word = if bytes_eq word (codes "p") then Some policy.Parallel else (if bytes_eq word (codes "s") then Some policy.Sequential else (if bytes_eq word (codes "ps") then Some policy.ParallelWrite else (if bytes_eq word (codes "pr") then Some policy.RoundRobin else None)))
