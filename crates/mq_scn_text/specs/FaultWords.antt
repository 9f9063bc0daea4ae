-- The words for the faults of MQSC commands and of rules tables.
use Rattle.std.specs.Prelude.{ℕ, List, codes}
use Rattle.mq_sc_parse.specs.declared.fault.ScFault.TheVariants as parsing
use Rattle.mq_rules_text.specs.declared.fault.RulesFault.{RulesFault}
use Rattle.mq_rules_text.specs.declared.fault.RulesFault.TheVariants as tables
use Rattle.mq_scn_lines.specs.declared.fault.MqscFault.{MqscFault}
use Rattle.mq_scn_lines.specs.declared.fault.MqscFault.TheVariants as mqsc

abbrev pub mqsc_word : MqscFault → List ℕ
mqsc_word mqsc.OpenQuote = codes "OpenQuote"
mqsc_word mqsc.OpenContinuation = codes "OpenContinuation"
mqsc_word (mqsc.Command (parsing.UnknownVerb span)) = codes "UnknownVerb"
mqsc_word (mqsc.Command (parsing.UnknownObject span)) = codes "UnknownObject"
mqsc_word (mqsc.Command (parsing.MissingName span)) = codes "MissingName"
mqsc_word (mqsc.Command (parsing.UnknownKeyword span)) = codes "UnknownKeyword"
mqsc_word (mqsc.Command (parsing.Repeated span)) = codes "Repeated"
mqsc_word (mqsc.Command (parsing.BadValue span)) = codes "BadValue"
mqsc_word (mqsc.Command parsing.NoMemory) = codes "NoMemory"

abbrev pub rules_word : RulesFault → List ℕ
rules_word (tables.BadLine line) = codes "BadLine"
rules_word (tables.BadKeyword line) = codes "BadKeyword"
rules_word (tables.BadValue line) = codes "BadValue"
rules_word (tables.NoAction line) = codes "NoAction"
rules_word (tables.FwdqMissing line) = codes "FwdqMissing"
rules_word tables.NoMemory = codes "NoMemory"
