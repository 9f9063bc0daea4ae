-- Ten counters of free rows, one for each least priority.
use Rattle.std.specs.Prelude.{◌≡◌, ℕ, ◌+◌, ◌<◌, ◌≤◌, ◌^◌, List, if◌then◌else◌, slice_index}
use Rattle.mq_queue.specs.declared.row.Row.{Row}
use Rattle.mq_queue.specs.Queues.{is_waiting, count_waiting}

-- each counter is the number of free rows of at least its priority
abbrev pub AreCounts : List ℕ → List Row → Type 0
AreCounts frees rows = (least : ℕ) → least < 10 → slice_index frees least ≡ count_waiting least rows

-- what a row adds to a counter
abbrev pub weight : ℕ → Row → ℕ
weight least row = if is_waiting least row then 1 else 0

-- the second counters count one row more than the first
abbrev pub IsOneMore : Row → List ℕ → List ℕ → Type 0
IsOneMore row less more = (least : ℕ) → least < 10 → slice_index more least ≡ slice_index less least + weight least row

-- no counter has its largest value where the row adds to it
abbrev pub HaveRoom : Row → List ℕ → Type 0
HaveRoom row frees = (least : ℕ) → least < 10 → slice_index frees least + weight least row < 2 ^ 64

-- each counter counts the row
abbrev pub AreEnough : Row → List ℕ → Type 0
AreEnough row frees = (least : ℕ) → least < 10 → weight least row ≤ slice_index frees least
