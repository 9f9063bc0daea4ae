-- A manager that begins on an empty log is sound.
use Rattle.std.proofs.Common.{ℕ}
use Rattle.mq_calls.specs.State.{Given, LogState}
use Rattle.mq_spec_log.specs.Bodies.{empty_image}
use Rattle.mq_law_log.specs.Restarts.{begun}
use Rattle.mq_law_log.specs.Sound.{IsLogSound}

pub first_sound : (g : Given) (log : LogState) (moment : ℕ) → IsLogSound (begun g empty_image log moment)
first_sound g log moment = record {
  laned = tt;
  once = tt;
  stocked = λ name e. absurd (cc e);
  next = record { rows = tt; lists = tt };
  handles = λ n c e. absurd (cc e);
  units = λ n c e. absurd (cc e);
  batches = λ b e. absurd (cc e);
}
