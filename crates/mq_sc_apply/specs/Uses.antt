-- What the rest of a manager says of the use of its objects.
use Rattle.std.specs.Prelude.{ℕ, Bool, false, List}

-- by the name of a queue or a channel
pub record Uses : Type 0 where
  -- a live handle's path has the queue; it has the manager's DEFXMITQ
  pub on_path : List ℕ → Bool
  pub defxmitq_on_path : Bool
  -- a running sender has the queue open
  pub sending : List ℕ → Bool
  -- the channel runs or is in doubt
  pub channel_busy : List ℕ → Bool
  -- the queue has a committed row, free or held, or an uncommitted put
  pub has_rows : List ℕ → Bool
  -- its CURDEPTH; whether it counts as NOTRIGGER
  pub depth : List ℕ → ℕ
  pub trigger_off : List ℕ → Bool

-- no handle is open, no channel runs, no queue has a row
abbrev pub nothing_used : Uses
nothing_used = record {
  on_path = λ name. false;
  defxmitq_on_path = false;
  sending = λ name. false;
  channel_busy = λ name. false;
  has_rows = λ name. false;
  depth = λ name. 0;
  trigger_off = λ name. false;
}
