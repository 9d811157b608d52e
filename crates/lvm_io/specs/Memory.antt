-- Sources, sinks and clocks in memory, and what their calls answer.
use Rattle.std.specs.Prelude.{◌==◌, ◌-◌, ◌++◌, ℕ, List, Option, Bool, if◌then◌else◌, length, take, drop, min}
use Rattle.std.specs.List.{list_any}
use Rattle.lvm_io.specs.Count.{next_count}
use Rattle.lvm_io.specs.declared.stream.Got.{Got}
use Rattle.lvm_io.specs.declared.stream.Got.TheVariants as got
use Rattle.lvm_io.specs.declared.stream.Put.{Put}
use Rattle.lvm_io.specs.declared.stream.Put.TheVariants as put

-- the bytes that are left, the numbers of the calls that fail, and how many calls were made and failed
pub record SourceState : Type 0 where
  pub left : List ℕ
  pub fails : List ℕ
  pub calls : ℕ
  pub faults : ℕ

-- the bytes that were taken, how many may be, the numbers of the calls that fail, how many calls were made and failed, the disk that was chosen, and how often one was
pub record SinkState : Type 0 where
  pub bytes : List ℕ
  pub room : ℕ
  pub fails : List ℕ
  pub calls : ℕ
  pub faults : ℕ
  pub chosen : Option ℕ
  pub choices : ℕ

-- the first moment, the last one answered, and how often it was asked
pub record ClockState : Type 0 where
  pub first : ℕ
  pub last : ℕ
  pub asked : ℕ

-- the last moment answered, and how often a clock was asked
pub record Asked : Type 0 where
  pub last : ℕ
  pub asked : ℕ

-- the call after so many is one that fails
abbrev pub call_fails : List ℕ → ℕ → Bool
call_fails fails calls = list_any (λ number. number == next_count calls) fails

-- what a read into a buffer of this size answers: as many bytes as the buffer and what is left allow
abbrev pub read_answer : SourceState → ℕ → Got
read_answer source size =
    if call_fails source.fails source.calls then got.Failed
    else if length source.left == 0 then got.End
    else got.Bytes (min size (length source.left))

-- the source after a read with this answer
abbrev pub source_after : SourceState → Got → SourceState
source_after source (got.Bytes n) = record source { left = drop n source.left; calls = next_count source.calls }
source_after source got.End = record source { calls = next_count source.calls }
source_after source got.Failed = record source { calls = next_count source.calls; faults = next_count source.faults }

-- what a write of so many bytes answers: as many as there is room for
abbrev pub write_answer : SinkState → ℕ → Put
write_answer sink size =
    if call_fails sink.fails sink.calls then put.Failed
    else if sink.room - length sink.bytes == 0 then put.Failed
    else put.Took (min size (sink.room - length sink.bytes))

-- the sink after a write of these bytes with this answer
abbrev pub sink_after : SinkState → List ℕ → Put → SinkState
sink_after sink from (put.Took n) = record sink { bytes = sink.bytes ++ take n from; calls = next_count sink.calls }
sink_after sink from put.Failed = record sink { calls = next_count sink.calls; faults = next_count sink.faults }

-- what a clock answers: its first moment, and then one more each time
abbrev pub moment_after : ClockState → ℕ
moment_after clock = if clock.last == 0 then clock.first else next_count clock.last
