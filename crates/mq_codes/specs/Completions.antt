-- The manual's numbers of completions.
use Rattle.std.specs.Prelude.{ℕ}
use Rattle.mq_codes.specs.declared.completion.Completion.{Completion}
use Rattle.mq_codes.specs.declared.completion.Completion.TheVariants.{Ok, Warning, Failed}

abbrev pub completion_number : Completion → ℕ
completion_number Ok = 0
completion_number Warning = 1
completion_number Failed = 2
