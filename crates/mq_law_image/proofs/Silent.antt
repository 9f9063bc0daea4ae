-- No call but a command on objects writes a change of objects.
use Rattle.std.proofs.Common.{ℕ, List}
use Rattle.mq_calls.specs.declared.agents.Note.{Note}
use Rattle.mq_calls.specs.declared.agents.Note.TheVariants as notes
use Rattle.mq_calls.specs.State.{Plain}
use Rattle.mq_law_log.specs.from_spec_manager.Agents.{harden_part, harden}
use Rattle.mq_law_log.specs.from_law_manager.Forced.{FitsCalls}
use Rattle.mq_law_image.specs.Values.{IsMade, StepMakes}

pub silent : FitsCalls IsMade
silent = record { none = tt; units = λ adds removes. tt; moves = λ from ident to message. tt }

hardened_made : (channel : List ℕ) (note : Note) (p : Plain) → IsMade (harden_part channel note p).forced
hardened_made channel (notes.Session partner session) p = tt
hardened_made channel (notes.Resolved unit commit operator) p = tt
hardened_made channel (notes.Bound partner session last) p = tt
hardened_made channel (notes.Closed session) p = tt
hardened_made channel (notes.SeqSet end last) p = tt

pub harden_makes : (channel : List ℕ) (note : Note) (p : Plain) → StepMakes (harden channel note p)
harden_makes channel note p = (hardened_made channel note p, tt)
