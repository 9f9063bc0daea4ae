-- How a log stands on its disk.
use Rattle.std.specs.Prelude.{◌≡◌, ◌≢◌, ◌⊎◌, ◌<◌, ◌≤◌, ◌+◌, ℕ, Bool, true, false, List, length, take, slice_index}
use Rattle.mq_disk.specs.Disk.{Only}
use Rattle.mq_log.specs.Bodies.{frames, AllFit}
use Rattle.mq_log.specs.State.{front_bodies, body_behind, IsLogOf}

-- A log that takes more: the disk stands where the bytes say, and nothing is pending.
pub record Settled (tells : Type 0) (size : ℕ) (seen : List ℕ) (may : List ℕ → Type 0) (stopped : Bool) (bytes : List ℕ) (end : ℕ) : Type 0 where
  pub whole : length bytes ≡ end + 1
  pub inside : end + 1 ≤ size
  pub passes : stopped ≡ false
  pub same : tells → take (end + 1) seen ≡ bytes
  pub only : tells → Only seen may

-- A log at any time: whole bodies in front of its last gate, and nothing or one more body behind it. Where it takes no
-- more, each outcome of a crash is the log of these bodies, or of these and the one more.
pub record Sound (tells : Type 0) (size : ℕ) (seen : List ℕ) (may : List ℕ → Type 0) (stopped : Bool) (bytes : List ℕ) (end : ℕ) (live : Bool) : Type 0 where
  pub framed : frames (front_bodies end bytes) ≡ take end bytes
  pub fits : AllFit (front_bodies end bytes)
  pub gate : end < length bytes
  pub shut : slice_index bytes end ≢ 165
  pub behind : (length bytes ≡ end + 1) ⊎ (end + 6 ≤ length bytes)
  pub settled : live ≡ true → Settled tells size seen may stopped bytes end
  pub stood : live ≡ false → tells → (c : List ℕ) → may c → IsLogOf (front_bodies end bytes) (body_behind end bytes) c
