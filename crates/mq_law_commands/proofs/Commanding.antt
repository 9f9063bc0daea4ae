-- Block by block: each command that a scenario has is written.
use Rattle.std.proofs.Common.{◌≡◌, ℕ, ◌+◌, List, [], ◌∷◌, ◌++◌, length, refl, sym, ap, subst, ◌∙◌, inl, inr}
use Rattle.std.specs.Prelude.{◌-◌, All, Ok}
use Rattle.std.proofs.lemmas.List.Elements.{All-nil, All-cons, All-append}
use Rattle.mq_base.specs.Members.{Mem}
use Rattle.mq_history.specs.declared.scenario.Scenario.{Scenario}
use Rattle.mq_history.specs.declared.scenario.Section.{Section}
use Rattle.mq_history.specs.declared.scenario.ScriptPart.{ScriptPart}
use Rattle.mq_history.specs.declared.scenario.Step.{Step}
use Rattle.mq_history.specs.declared.scenario.Step.TheVariants as steps
use Rattle.mq_history.specs.declared.scripts.ScriptLine.{ScriptLine}
use Rattle.mq_history.specs.declared.scripts.ScriptLine.TheVariants as lines
use Rattle.mq_sc_lex.specs.declared.token.Line.{Line}
use Rattle.mq_sc_lex.specs.Commands.{commands_of}
use Rattle.mq_sc_parse.specs.declared.command.Command.{Command}
use Rattle.mq_sc_grammar.proofs.Whole.{text_read}
use Rattle.mq_sc_grammar.proofs.Readings.{command_read}
use Rattle.mq_scn_heading.specs.declared.heading.PartLine.{PartLine}
use Rattle.mq_scn_heading.specs.declared.heading.PartLine.TheVariants as parts
use Rattle.mq_scn_heading.specs.declared.steps.StepVerb.{StepVerb}
use Rattle.mq_scn_heading.specs.declared.steps.StepVerb.TheVariants as verbs
use Rattle.mq_scn_text.specs.declared.sections.Opened.{Opened}
use Rattle.mq_scn_text.specs.declared.scripts.Script.{Script}
use Rattle.mq_scn_text.specs.declared.reading.Inside.{Inside}
use Rattle.mq_scn_text.specs.declared.reading.Inside.TheVariants as insides
use Rattle.mq_scn_text.specs.Reading.{scenario_of}
use Rattle.mq_scn_text.specs.Scripts.{new_script, put_len, script_added}
use Rattle.mq_law_scenario.specs.from_scn_grammar.Commands.{IsOneCommand}
use Rattle.mq_law_scenario.specs.from_scn_grammar.ScriptLines.{IsScriptLine}
use Rattle.mq_law_scenario.specs.from_scn_parts.Steps.{IsStepOf, IsStepLine}
use Rattle.mq_law_scenario.specs.Sections.{AreCommands, IsSection}
use Rattle.mq_law_scenario.specs.Texts.{Said, nothing_said, Adds, IsOpenSection, IsOpenTable, IsOpenScript, AreOpenSteps, AreSpoken, AreStepped, IsOpen, Ends, IsBlock, AreBlocks, IsText}
use Rattle.mq_law_scenario.proofs.Either.{text_found}
use Rattle.mq_nodes.specs.Texts.{AllFit, LineFits, StepFits}
use Rattle.mq_law_commands.specs.Written.{IsWritten}

-- one more
all_more : {A : Type 0} (P : A → Type 0) (xs : List A) (x : A) → All P xs → P x → All P (xs ++ x ∷ [])
all_more P xs x h p = All-append P xs (x ∷ []) h (All-cons P x [] p (All-nil P))

-- ---- commands

one_written : (text : List ℕ) (c : Command) → IsOneCommand text c → IsWritten c
one_written text c (line, are, is) = record { text = text; lines = line ∷ []; line = line; read = text_read text (line ∷ []) are; there = inl refl; parsed = command_read line c is }

all_written : (text : List ℕ) (all : List Line) → commands_of text ≡ Ok all → (ls : List Line) → ((line : Line) → Mem line ls → Mem line all) → (commands : List Command) → AreCommands ls commands → All IsWritten commands
all_written text all read [] within commands is = subst (All IsWritten) (sym is) (All-nil IsWritten)
all_written text all read (line ∷ ls) within commands (c, later, is, rest, whole) =
    subst (All IsWritten) (sym whole)
    (All-cons IsWritten c later (record { text = text; lines = all; line = line; read = read; there = within line (inl refl); parsed = command_read line c is })
    (all_written text all read ls (λ l m. within l (inr m)) later rest))

section_written : (o : Opened) (section : Section) → IsSection o section → All IsWritten section.commands
section_written o section (ls, commands, are, of, whole) =
    subst (λ (p : Section). All IsWritten p.commands) (sym whole) (all_written o.text ls (text_read o.text ls are) ls (λ l m. m) commands of)

-- ---- lines of scripts

line_written : (left : ℕ) (said : ScriptLine) (text : List ℕ) → IsScriptLine left said text → LineFits IsWritten said
line_written left (lines.Mqsc command) text (rest, mqsc, one) = one_written rest command one
line_written left (lines.Mqconn name) text h = tt
line_written left lines.Mqdisc text h = tt
line_written left lines.Mqcmit text h = tt
line_written left lines.Mqback text h = tt
line_written left (lines.Mqopen handle name qmgr how) text h = tt
line_written left (lines.Mqclose handle) text h = tt
line_written left (lines.Mqput handle body o) text h = tt
line_written left (lines.Mqput1 name qmgr body o) text h = tt
line_written left (lines.Reply body o) text h = tt
line_written left (lines.Mqget handle o) text h = tt
line_written left lines.Crash text h = tt
line_written left lines.Restart text h = tt
line_written left (lines.Cut k) text h = tt

spoken_written : (ls : List (List ℕ)) (left : ℕ) (s : Script) (behind : ℕ) (t : Script) → AreSpoken left s ls behind t → All (LineFits IsWritten) s.part.lines → All (LineFits IsWritten) t.part.lines
spoken_written [] left s behind t (same, is) h = subst (λ (u : Script). All (LineFits IsWritten) u.part.lines) (sym is) h
spoken_written (line ∷ ls) left s behind t (inl (skipped, rest)) h = spoken_written ls left s behind t rest h
spoken_written (line ∷ ls) left s behind t (inr (said, next, rest)) h =
    spoken_written ls (left - put_len said) (script_added said s) behind t rest (all_more (LineFits IsWritten) s.part.lines said h (line_written left said line next.says))

-- ---- steps

other_written : (s : Scenario) (verb : StepVerb) (ws : List (List ℕ)) (step : Step) → IsStepOf s verb ws step → StepFits IsWritten step
other_written s verbs.Obey ws step (k, is, e) = subst (StepFits IsWritten) (sym e) tt
other_written s verbs.Do ws step h = absurd h
other_written s verbs.Run ws step (p, is, e) = subst (StepFits IsWritten) (sym e) tt
other_written s verbs.Phase ws step (ks, is, e) = subst (StepFits IsWritten) (sym e) tt
other_written s verbs.Pump ws step (n, is, e) = subst (StepFits IsWritten) (sym e) tt
other_written s verbs.Handle ws step (p, is, e) = subst (StepFits IsWritten) (sym e) tt
other_written s verbs.Watch ws step (k, is, e) = subst (StepFits IsWritten) (sym e) tt
other_written s verbs.Serve ws step (p, is, e) = subst (StepFits IsWritten) (sym e) tt
other_written s verbs.Crash ws step (k, is, e) = subst (StepFits IsWritten) (sym e) tt
other_written s verbs.Restart ws step (k, is, e) = subst (StepFits IsWritten) (sym e) tt
other_written s verbs.Cut ws step (p, is, e) = subst (StepFits IsWritten) (sym e) tt
other_written s verbs.Clock ws step (n, is, e) = subst (StepFits IsWritten) (sym e) tt

step_written : (s : Scenario) (text : List ℕ) (step : Step) → IsStepLine s text step → StepFits IsWritten step
step_written s text step (inl (rest, q, is, done, e)) = subst (StepFits IsWritten) (sym e) (one_written done.0.1 q.1 done.2.1)
step_written s text step (inr (p, words, of)) = other_written s p.0 p.1 step of

step_more : (s : Scenario) (step : Step) → AllFit IsWritten s → StepFits IsWritten step → AllFit IsWritten (record s { steps = s.steps ++ step ∷ [] })
step_more s step h p = record { sections = h.sections; scripts = h.scripts; steps = all_more (StepFits IsWritten) s.steps step h.steps p }

stepped_written : (ls : List (List ℕ)) (s t : Scenario) → AreStepped s ls t → AllFit IsWritten s → AllFit IsWritten t
stepped_written [] s t is h = subst (AllFit IsWritten) (sym is) h
stepped_written (line ∷ ls) s t (inl (skipped, rest)) h = stepped_written ls s t rest h
stepped_written (line ∷ ls) s t (inr (step, next, rest)) h = stepped_written ls (record s { steps = s.steps ++ step ∷ [] }) t rest (step_more s step h (step_written s line step next.says))

-- ---- blocks

abbrev Kept : Said → Type 0
Kept b = AllFit IsWritten b.scenario

same_parts : (s t : Scenario) → t.sections ≡ s.sections → t.scripts ≡ s.scripts → t.steps ≡ s.steps → AllFit IsWritten s → AllFit IsWritten t
same_parts s t a b c h = record {
  sections = subst (All (λ (p : Section). All IsWritten p.commands)) (sym a) h.sections;
  scripts = subst (All (λ (p : ScriptPart). All (LineFits IsWritten) p.lines)) (sym b) h.scripts;
  steps = subst (All (StepFits IsWritten)) (sym c) h.steps;
}

abbrev Same : Scenario → Scenario → Type 0
Same s t = (t.sections ≡ s.sections) × (t.scripts ≡ s.scripts) × (t.steps ≡ s.steps)

to_same : (s t : Scenario) → Same s t → AllFit IsWritten s → AllFit IsWritten t
to_same s t e h = same_parts s t e.0 e.1 e.2 h

part_same : (part : PartLine) (s t : Scenario) → Adds part s t → Same s t
part_same parts.Network s t e = (ap (λ (x : Scenario). x.sections) e, ap (λ (x : Scenario). x.scripts) e, ap (λ (x : Scenario). x.steps) e)
part_same (parts.Moment moment) s t e = (ap (λ (x : Scenario). x.sections) e, ap (λ (x : Scenario). x.scripts) e, ap (λ (x : Scenario). x.steps) e)
part_same (parts.Manager m) s t e = (ap (λ (x : Scenario). x.sections) e, ap (λ (x : Scenario). x.scripts) e, ap (λ (x : Scenario). x.steps) e)
part_same (parts.Cable c) s t e = (ap (λ (x : Scenario). x.sections) e, ap (λ (x : Scenario). x.scripts) e, ap (λ (x : Scenario). x.steps) e)
part_same (parts.Monitor m) s t e = (ap (λ (x : Scenario). x.sections) e, ap (λ (x : Scenario). x.scripts) e, ap (λ (x : Scenario). x.steps) e)
part_same (parts.Mqsc label manager) s t e = absurd e
part_same (parts.Rules label manager) s t e = absurd e
part_same (parts.Script label manager) s t e = absurd e
part_same parts.Steps s t e = absurd e

-- what is said where a part ends
section_end : (n : ℕ) (k : ℕ) (before now after : Said) (ls : List (List ℕ)) (o : Opened) (line : List ℕ) → Kept before → IsOpenSection n before ls o now → Ends k (insides.Mqsc o) now line after → Kept after
section_end n k before now after ls o line h b (section, only, e, is) =
    let whole : after.scenario ≡ record before.scenario { sections = before.scenario.sections ++ section ∷ [] } =
    ap (λ (u : Said). u.scenario) is ∙ ap (λ (u : Said). record u.scenario { sections = u.scenario.sections ++ section ∷ [] }) b.is in
    subst (AllFit IsWritten) (sym whole)
    (record { sections = all_more (λ (p : Section). All IsWritten p.commands) before.scenario.sections section h.sections (section_written o section e); scripts = h.scripts; steps = h.steps })

table_end : (n : ℕ) (k : ℕ) (before now after : Said) (ls : List (List ℕ)) (o : Opened) (line : List ℕ) → Kept before → IsOpenTable n before ls o now → Ends k (insides.Rules o) now line after → Kept after
table_end n k before now after ls o line h b (part, only, e, is) =
    let whole : after.scenario ≡ record before.scenario { rules = before.scenario.rules ++ part ∷ [] } =
    ap (λ (u : Said). u.scenario) is ∙ ap (λ (u : Said). record u.scenario { rules = u.scenario.rules ++ part ∷ [] }) b.is in
    subst (AllFit IsWritten) (sym whole) (record { sections = h.sections; scripts = h.scripts; steps = h.steps })

script_end : (k : ℕ) (before now after : Said) (ls : List (List ℕ)) (s : Script) (line : List ℕ) → Kept before → IsOpenScript before ls s now → Ends k (insides.Script s) now line after → Kept after
script_end k before now after ls s line h b (unskipped, only, is) =
    let spoken : All (LineFits IsWritten) s.part.lines = spoken_written b.inner before.left (new_script b.label b.manager) b.left s b.says (All-nil (LineFits IsWritten)) in
    let whole : after.scenario ≡ record before.scenario { scripts = before.scenario.scripts ++ s.part ∷ [] } =
    ap (λ (u : Said). u.scenario) is ∙ ap (λ (u : Said). record u.scenario { scripts = u.scenario.scripts ++ s.part ∷ [] }) b.is in
    subst (AllFit IsWritten) (sym whole)
    (record { sections = h.sections; scripts = all_more (λ (p : ScriptPart). All (LineFits IsWritten) p.lines) before.scenario.scripts s.part h.scripts spoken; steps = h.steps })

steps_end : (k : ℕ) (before now after : Said) (ls : List (List ℕ)) (line : List ℕ) → Kept before → AreOpenSteps before ls now → Ends k insides.Steps now line after → Kept after
steps_end k before now after ls line h b (unskipped, only, is) =
    let whole : after.scenario ≡ b.scenario = ap (λ (u : Said). u.scenario) (is ∙ b.is) in
    subst (AllFit IsWritten) (sym whole) (stepped_written b.inner before.scenario b.scenario b.says h)

end_kept : (i : Inside) (n k : ℕ) (before now after : Said) (ls : List (List ℕ)) (line : List ℕ) → Kept before → IsOpen n before ls i now → Ends k i now line after → Kept after
end_kept insides.Nothing n k before now after ls line h b e = absurd e
end_kept (insides.Mqsc o) n k before now after ls line h b e = section_end n k before now after ls o line h b e
end_kept (insides.Rules o) n k before now after ls line h b e = table_end n k before now after ls o line h b e
end_kept (insides.Script s) n k before now after ls line h b e = script_end k before now after ls s line h b e
end_kept insides.Steps n k before now after ls line h b e = steps_end k before now after ls line h b e

block_kept : (n : ℕ) (before after : Said) (ls : List (List ℕ)) → Kept before → IsBlock n before ls after → Kept after
block_kept n before after ls h (inl (line, whole, skipped, is)) = subst Kept (sym is) h
block_kept n before after ls h (inr (inl p)) = subst Kept (sym p.is) (to_same before.scenario p.scenario (part_same p.part before.scenario p.scenario p.adds) h)
block_kept n before after ls h (inr (inr p)) = end_kept p.inside n (n + length p.front + 1) before p.now after p.front p.last h p.opens p.ends

blocks_kept : (blocks : List (List (List ℕ))) (n : ℕ) (before after : Said) → Kept before → AreBlocks n before blocks after → Kept after
blocks_kept [] n before after h e = subst Kept (sym e) h
blocks_kept (block ∷ blocks) n before after h (next, b, bs) = blocks_kept blocks (n + length block) next after (block_kept n before next block h b) bs

nothing_written : Kept nothing_said
nothing_written = record { sections = All-nil (λ (p : Section). All IsWritten p.commands); scripts = All-nil (λ (p : ScriptPart). All (LineFits IsWritten) p.lines); steps = All-nil (StepFits IsWritten) }

pub texts_written : (text : List ℕ) (s : Scenario) → scenario_of text ≡ Ok s → AllFit IsWritten s
texts_written text s e =
    let t : IsText text s = text_found text s e in
    subst (AllFit IsWritten) (sym t.is) (blocks_kept t.blocks 0 nothing_said t.end nothing_written t.are)
