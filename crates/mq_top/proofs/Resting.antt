-- What the program tells of each PUMP of a run, and promises of one that has enough turns.
use Rattle.std.proofs.Common.{ℕ, List, sym, subst}
use Rattle.std.specs.Prelude.{IfSome, Option}
use Rattle.mq_sc_parse.specs.declared.command.Command.{Command}
use Rattle.mq_sc_parse.specs.declared.command.Command.TheVariants as commands
use Rattle.mq_history.specs.Scenarios.{IsScenario}
use Rattle.mq_history.specs.declared.scenario.Scenario.{Scenario}
use Rattle.mq_nodes.specs.Texts.{AllFit}
use Rattle.mq_nodes.proofs.TextLaws.{all_weaker}
use Rattle.mq_spec_log.specs.Applies.Start.{First}
use Rattle.mq_spec_node.specs.Node.{Node}
use Rattle.mq_spec_network.specs.Given.{surroundings}
use Rattle.mq_law_image.specs.Values.{AreObjectTexts}
use Rattle.mq_law_image.proofs.Logged.{image_text}
use Rattle.mq_run.specs.from_law_ran.Runs.{AreHistories, AreOpenings}
use Rattle.mq_run.proofs.from_law_ran.Lawfuls.{images, known, opening}
use Rattle.mq_run.specs.Ends.{RunLeaves}
use Rattle.mq_run.specs.Words.{IsPromised, IsTextCommand, Left}
use Rattle.mq_run.specs.declared.status.Status.{Status}
use Rattle.mq_run.proofs.Promising.{owned}
use Rattle.mq_law_rest.specs.Rests.{PumpsRest, PumpsTell}
use Rattle.mq_law_rest.specs.Values.{IsTextOf, OpenTexts}
use Rattle.mq_law_rest.proofs.Resting.{pumps_rest}
use Rattle.mq_law_rest.proofs.Turned.{pumps_tell}
use Rattle.mq_top.specs.Headline.{Ends}
use Rattle.mq_top.specs.declared.top.Task.{Task}
use Rattle.mq_top.proofs.Ending.{promised_of}

-- THE SCENARIO'S COMMANDS
text_of : (c : Command) → IsTextCommand c → IsTextOf c
text_of (commands.Objects o) h = h
text_of (commands.Operate op) h = tt
text_of (commands.ShowStatus name any_end) h = tt

-- THE DEFINITIONS WITH WHICH MANAGERS BEGIN
open_texts : (tells : Type 0) (held : List ℕ → List ℕ → Type 0) (start : ℕ) (l : Left) → AreHistories l.scenario l.histories → AreOpenings tells held start l → OpenTexts l.scenario l.histories
open_texts tells held start l a o m h is =
    let at = opening tells held start l a o m h is in
    subst (λ (n : Node). AreObjectTexts n.manager.definitions) (sym at.1.begins) (image_text (surroundings l.scenario m).given First at.1.bodies at.1.told at.1.read at.1.bytes)

-- A RUN
run_tells : (tells : Type 0) (held : List ℕ → List ℕ → Type 0) (start : ℕ) (s : Scenario) (counts : List ℕ) (l : Left) → RunLeaves tells held start s counts l → PumpsTell l
run_tells tells held start s counts l h = pumps_tell l h.lawful

run_rests : (tells : Type 0) (held : List ℕ → List ℕ → Type 0) (start : ℕ) (s : Scenario) (counts : List ℕ) (l : Left) → IsScenario s → AllFit IsTextCommand s → RunLeaves tells held start s counts l → IsPromised tells PumpsRest l
run_rests tells held start s counts l is fit h joined own =
    pumps_rest l (subst IsScenario (sym h.scenario) is) (subst (AllFit IsTextOf) (sym h.scenario) (all_weaker IsTextCommand IsTextOf text_of s fit)) (open_texts tells held start l h.histories h.openings)
    (images tells held start l h.histories h.openings) (known tells held start l h.histories h.openings) h.lawful h.carried joined (owned tells l h.own own)

pub told_of_pumps : (asked : Option Task) (left : Option (List ℕ)) (tells : Type 0) (held : List ℕ → List ℕ → Type 0) (start before now : ℕ) (old new : Option (List ℕ)) (st : Status) (net : Option Left) (counts : List ℕ)
    → Ends asked left tells held start before now old new st net counts → IfSome net PumpsTell
told_of_pumps asked left tells held start before now old new st net counts e = promised_of PumpsTell asked left tells held start before now old new st net counts
    (λ l s r k h. run_tells tells held start s counts l h) e

pub rest_of_pumps : (asked : Option Task) (left : Option (List ℕ)) (tells : Type 0) (held : List ℕ → List ℕ → Type 0) (start before now : ℕ) (old new : Option (List ℕ)) (st : Status) (net : Option Left) (counts : List ℕ)
    → Ends asked left tells held start before now old new st net counts → IfSome net (IsPromised tells PumpsRest)
rest_of_pumps asked left tells held start before now old new st net counts e = promised_of (IsPromised tells PumpsRest) asked left tells held start before now old new st net counts
    (λ l s r k h. run_rests tells held start s counts l r k h) e
