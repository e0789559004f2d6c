-- What the files and sinks in memory hold, and which of their calls are to fail.
use Rattle.std.specs.Prelude.{ℕ, List, map, find, Option, ◌==◌, string_bytes, String, Vec}
use Rattle.std.specs.Option.{option_map}
use Rattle.std.specs.declared.alloc.Global.{Global}
use Rattle.io_edge.specs.Outside.{Held}
use Rattle.io_edge.specs.declared.mem_files.MemFiles.{MemFiles}
use Rattle.io_edge.specs.declared.mem_sink.MemSink.{MemSink}

-- files as their names and bytes
abbrev pub names_and_bytes : List (String Global × Vec ℕ Global) → Held
names_and_bytes files = map (λ file. (string_bytes file.0, file.1.items)) files

-- the numbers of the reads that are to fail
abbrev pub failing_reads : MemFiles → List ℕ
failing_reads files = files.failing.items

-- how many reads there were, which is the number of the next one
abbrev pub reads : MemFiles → ℕ
reads files = files.calls

-- the numbers of the writes that are to fail, each with how many bytes it takes before
abbrev pub failing_writes : MemSink → List (ℕ × ℕ)
failing_writes sink = sink.failing.items

-- how many writes there were, which is the number of the next one
abbrev pub writes : MemSink → ℕ
writes sink = sink.calls

-- how many bytes the call of this number takes before it fails, if it is to fail; of two pairs
-- with one number the first is meant
abbrev pub taken_at : List (ℕ × ℕ) → ℕ → Option ℕ
taken_at failing call = option_map (λ pair. pair.1) (find (λ pair. pair.0 == call) failing)
