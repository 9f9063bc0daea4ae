-- Numbers in a line.
use Rattle.std.specs.Prelude.{ℕ, ℤ, List, Result, Ok, Err}
use Rattle.mq_text.specs.declared.numbers.NumberFault.{NumberFault}
use Rattle.mq_text.specs.declared.numbers.NumberFault.TheVariants.{NoNumber, OutOfRange}
use Rattle.mq_text.specs.Numbers.{number_in, signed_of}
use Rattle.mq_scn_lines.specs.declared.fault.LineFault.{LineFault}
use Rattle.mq_scn_lines.specs.declared.fault.LineFault.TheVariants as faults

-- what is no number is no form; a number outside its range is that fault
abbrev pub told : {A : Type 0} → LineFault → Result A NumberFault → Result A LineFault
told beyond (Ok n) = Ok n
told beyond (Err NoNumber) = Err faults.Form
told beyond (Err OutOfRange) = Err beyond

-- a number from one to another
abbrev pub ranged : LineFault → ℕ → ℕ → List ℕ → Result ℕ LineFault
ranged beyond low high text = told beyond (number_in low high text)

-- a number of 32 bits with a sign
abbrev pub signed_number : List ℕ → Result ℤ LineFault
signed_number text = told faults.Number (signed_of text)
