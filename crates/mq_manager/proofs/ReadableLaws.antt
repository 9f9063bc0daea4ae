-- What each call writes can be read from its bytes, where its channel has a name and its session is low.
use Rattle.std.proofs.Common.{◌≡◌, refl, ℕ, ◌<◌, List, [], ◌∷◌, length}
use Rattle.std.specs.Prelude.{Result, Ok, Err, not}
use Rattle.mq_calls.specs.declared.agents.Note.{Note}
use Rattle.mq_calls.specs.declared.agents.Note.TheVariants as notes
use Rattle.mq_calls.specs.State.{Plain}
use Rattle.mq_calls.specs.Reads.{is_up}
use Rattle.mq_calls.specs.Steps.{when}
use Rattle.mq_spec_manager.specs.Agents.{harden_part, harden}
use Rattle.mq_objects.specs.declared.command.Command.{Command}
use Rattle.mq_calls.specs.declared.commands.ScRefusal.{ScRefusal}
use Rattle.mq_calls.specs.declared.commands.ScRefusal.TheVariants as sc_refusals
use Rattle.mq_sc_apply.specs.declared.answers.Plan.{Plan}
use Rattle.mq_sc_apply.specs.declared.answers.Plan.TheVariants as plans
use Rattle.mq_sc_apply.specs.Commands.{plan}
use Rattle.mq_spec_manager.specs.Commands.{uses_of, planned_step, command}
use Rattle.mq_law_image.specs.Values.{AreObjectTexts, IsCommandText}
use Rattle.mq_law_image.proofs.Valued.{command_text}
use Rattle.mq_law_manager.specs.Forced.{FitsCalls}
use Rattle.mq_law_manager.proofs.ShortSteps.{tested_all}
use Rattle.mq_manager.specs.Reads.{CanBeReadIn, StepCanBeRead, IsLowNote}

-- what is no channel's and no command's
pub readable : FitsCalls CanBeReadIn
readable = record { none = tt; units = λ adds removes. tt; moves = λ from ident to message. tt }

hardened_read : (channel : List ℕ) (note : Note) (p : Plain) → 0 < length channel → IsLowNote note → CanBeReadIn (harden_part channel note p).forced
hardened_read channel (notes.Session partner session) p named low = (named, low)
hardened_read channel (notes.Resolved unit commit operator) p named low = named
hardened_read channel (notes.Bound partner session last) p named low = named
hardened_read channel (notes.Closed session) p named low = named
hardened_read channel (notes.SeqSet end last) p named low = named

pub harden_can : (channel : List ℕ) (note : Note) (p : Plain) → 0 < length channel → IsLowNote note → StepCanBeRead (harden channel note p)
harden_can channel note p named low = (hardened_read channel note p named low, tt)

-- ---- commands on objects

planned_can : (c : Command) (p : Plain) (r : Result Plan ScRefusal) → plan c p.given.name p.definitions (uses_of p) ≡ r → IsCommandText c → AreObjectTexts p.definitions → StepCanBeRead (planned_step r p.definitions)
planned_can c p (Ok (plans.Change planned)) e k h = (command_text c p.given.name p.definitions (uses_of p) planned e k h, tt)
planned_can c p (Ok (plans.Show shown)) e k h = tt
planned_can c p (Err refused) e k h = tt

pub command_can : (c : Command) (p : Plain) → IsCommandText c → AreObjectTexts p.definitions → StepCanBeRead (command c p)
command_can c p k h = tested_all StepCanBeRead (λ r. tt) (when (not (is_up p.running)) sc_refusals.Down ∷ []) (planned_step (plan c p.given.name p.definitions (uses_of p)) p.definitions) (planned_can c p (plan c p.given.name p.definitions (uses_of p)) refl k h)
