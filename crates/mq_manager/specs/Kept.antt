-- What a manager's log tells of it between its calls, beside its facts.
use Rattle.mq_calls.specs.Words.{Plain}
use Rattle.mq_law_image.specs.Values.{AreObjectTexts}
use Rattle.mq_receive.specs.from_core.Values.{CoreValue, LogBodies}
use Rattle.mq_restarts.specs.from_restart.{LogRead}
use Rattle.mq_restarts.specs.from_restart.Stands.{LogStands}
use Rattle.mq_manager.specs.Facts.{IsWell}

-- its objects have values that commands give, and its log stands as its history says
pub record HasLog (tells : Type 0) (read : LogRead) (log : LogBodies) (p : Plain) : Type 0 where
  pub texts : AreObjectTexts p.definitions
  pub stands : LogStands tells read log p

pub record IsKept (tells : Type 0) (read : LogRead) (v : CoreValue) : Type 0 where
  pub well : IsWell v.plain
  pub log : HasLog tells read v.log v.plain
