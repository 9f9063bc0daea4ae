-- What was read with one line more.
use Rattle.std.specs.Prelude.{Option, Some, None, Result, Ok, Err}
use Rattle.mq_scn_text.specs.declared.reading.Reading.{Reading}
use Rattle.mq_scn_text.specs.declared.fault.ScenarioFault.{ScenarioFault}

-- none where that line can't stand
abbrev pub read_on : Result Reading ScenarioFault → Option Reading
read_on (Ok next) = Some next
read_on (Err fault) = None
