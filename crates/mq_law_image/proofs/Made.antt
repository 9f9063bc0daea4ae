-- What a manager writes of objects is read from its bytes.
use Rattle.std.proofs.Common.{ℕ, ◌≡◌, List, [], ◌∷◌, refl, sym, subst, inl, inr}
use Rattle.std.specs.Prelude.{Option, Some, None, Result, Ok, Err, not}
use Rattle.std.specs.List.{AllByRecursion}
use Rattle.mq_objects.specs.declared.command.Command.{Command}
use Rattle.mq_calls.specs.declared.commands.ScRefusal.{ScRefusal}
use Rattle.mq_calls.specs.declared.commands.ScRefusal.TheVariants as refusals
use Rattle.mq_calls.specs.declared.records.LogRecord.{LogRecord}
use Rattle.mq_calls.specs.declared.records.LogRecord.TheVariants as records
use Rattle.mq_law_log.specs.from_sc_apply.{Plan}
use Rattle.mq_law_log.specs.from_sc_apply.PlanVariants as plans
use Rattle.mq_law_log.specs.from_sc_apply.Commands.{plan}
use Rattle.mq_sc_lex.specs.declared.token.Line.{Line}
use Rattle.mq_sc_lex.specs.Commands.{commands_of}
use Rattle.mq_sc_parse.specs.declared.command.Command.TheVariants as parsed
use Rattle.mq_sc_parse.specs.Parsing.{parse_of}
use Rattle.mq_law_log.specs.from_record.Records.{IsRecord, record_bytes}
use Rattle.mq_calls.specs.State.{Plain}
use Rattle.mq_calls.specs.Reads.{is_up}
use Rattle.mq_calls.specs.Images.{lasting}
use Rattle.mq_calls.specs.declared.image.Image.{Image}
use Rattle.mq_calls.specs.Steps.{Part, when, do_part}
use Rattle.mq_law_log.specs.from_spec_manager.Commands.{uses_of, planned_step, command}
use Rattle.mq_law_log.specs.from_spec_log.Bodies.{record_of}
use Rattle.mq_law_log.specs.from_law_manager.Facts.{Mem}
use Rattle.mq_law_log.proofs.from_law_manager.ShortSteps.{tested_all}
use Rattle.mq_law_log.specs.Keeps.{Told, Keeps}
use Rattle.mq_law_image.specs.Values.{AreObjectTexts, IsCommandText, MakesText, IsMade, StepMakes}
use Rattle.mq_law_image.proofs.Valued.{command_text}
use Rattle.mq_law_image.proofs.Lexed.{IsWholeCommand, commands_whole, read_text}
use Rattle.mq_law_image.proofs.Logged.{done_text}
use Rattle.mq_law_image.proofs.Readable.{readable}

planned_makes : (c : Command) (p : Plain) (r : Result Plan ScRefusal) → plan c p.given.name p.definitions (uses_of p) ≡ r → IsCommandText c → AreObjectTexts p.definitions → StepMakes (planned_step r p.definitions)
planned_makes c p (Ok (plans.Change planned)) e k h = (command_text c p.given.name p.definitions (uses_of p) planned e k h, tt)
planned_makes c p (Ok (plans.Show shown)) e k h = tt
planned_makes c p (Err refused) e k h = tt

pub command_makes : (c : Command) (p : Plain) → IsCommandText c → AreObjectTexts p.definitions → StepMakes (command c p)
command_makes c p k h = tested_all StepMakes (λ r. tt) (when (not (is_up p.running)) refusals.Down ∷ []) (planned_step (plan c p.given.name p.definitions (uses_of p)) p.definitions) (planned_makes c p (plan c p.given.name p.definitions (uses_of p)) refl k h)

-- a line of a text of commands
whole_line : (line : Line) (lines : List Line) → AllByRecursion IsWholeCommand lines → Mem line lines → IsWholeCommand line
whole_line line [] h m = absurd m
whole_line line (l ∷ ls) h (inl e) = subst IsWholeCommand (sym e) h.0
whole_line line (l ∷ ls) h (inr m) = whole_line line ls h.1 m

pub line_text : (text : List ℕ) (lines : List Line) (line : Line) (c : Command) → commands_of text ≡ Ok lines → Mem line lines → parse_of line ≡ Ok (parsed.Objects c) → IsCommandText c
line_text text lines line c e m p = read_text line c (whole_line line lines (commands_whole text lines e) m) p

-- a record that is written
pub made_read : (r : LogRecord) → IsRecord r → MakesText r → record_of (record_bytes r) ≡ Some r
made_read (records.Objects change) h k = readable (records.Objects change) (h, k)
made_read (records.Started manager name incarnation) h k = readable (records.Started manager name incarnation) h
made_read (records.Unit adds removes) h k = readable (records.Unit adds removes) h
made_read (records.Session channel partner session) h k = readable (records.Session channel partner session) h
made_read (records.Prepared channel unit last queue idents) h k = readable (records.Prepared channel unit last queue idents) h
made_read (records.Resolved channel unit commit operator) h k = readable (records.Resolved channel unit commit operator) h
made_read (records.Bound channel partner session last) h k = readable (records.Bound channel partner session last) h
made_read (records.Closed channel session) h k = readable (records.Closed channel session) h
made_read (records.Received channel unit last adds) h k = readable (records.Received channel unit last adds) h
made_read (records.SeqSet channel end last) h k = readable (records.SeqSet channel end last) h
made_read (records.Moved from ident to message) h k = readable (records.Moved from ident to message) h

-- what a part leaves of the definitions
told_texts : (f : Option LogRecord) (p : Plain) (new : Image) → Told f p new → IsMade f → AreObjectTexts p.definitions → AreObjectTexts new.definitions
told_texts None p new t k h = subst (λ (i : Image). AreObjectTexts i.definitions) (sym t) h
told_texts (Some r) p new t k h = subst (λ (i : Image). AreObjectTexts i.definitions) (sym t.1) (done_text r (lasting p) k h)

pub part_texts : (part : Part) (p : Plain) → Keeps part p → IsMade part.forced → AreObjectTexts p.definitions → AreObjectTexts (do_part part p).definitions
part_texts part p t k h = told_texts part.forced p (lasting (do_part part p)) t k h
