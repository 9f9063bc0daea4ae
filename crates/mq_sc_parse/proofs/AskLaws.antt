-- What was read of some keywords, before what is still read.
use Rattle.std.proofs.Common.{List, ◌++◌}
use Rattle.std.specs.Prelude.{Result, Ok, Err}
use Rattle.mq_sc_parse.specs.declared.fault.ScFault.{ScFault}

abbrev pub behind : {X : Type 0} → List X → Result (List X) ScFault → Result (List X) ScFault
behind front (Ok xs) = Ok (front ++ xs)
behind front (Err fault) = Err fault
