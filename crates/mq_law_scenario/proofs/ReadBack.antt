-- What is written is read: blocks, the part that is open behind them, whole texts, and their faults.
use Rattle.std.proofs.Common.{◌≡◌, ℕ, ◌+◌, ◌-◌, ◌<◌, ◌≤◌, true, false, List, [], ◌∷◌, ◌++◌, length, Result, Ok, Err, refl, sym, ap, subst, ◌∙◌, append_assoc, append-nil, arith, inl, inr}
use Rattle.std.specs.Prelude.{nat_le, ◌&&◌, codes}
use Rattle.std.proofs.lemmas.List.{length-append}
use Rattle.std.proofs.lemmas.Bool.Decides.{nat_tests}
use Rattle.mq_text.specs.Lines.{lines_of}
use Rattle.mq_history.specs.declared.scenario.Scenario.{Scenario}
use Rattle.mq_history.specs.declared.scenario.Step.{Step}
use Rattle.mq_history.specs.declared.scripts.ScriptLine.{ScriptLine}
use Rattle.mq_scn_lines.specs.declared.fault.Limit.TheVariants as limits
use Rattle.mq_scn_text.specs.declared.fault.Cause.TheVariants as causes
use Rattle.mq_scn_text.specs.declared.fault.ScenarioFault.{ScenarioFault}
use Rattle.mq_scn_text.specs.declared.fault.ScenarioFault.TheVariants as faults
use Rattle.mq_scn_heading.specs.declared.parts.Stage.{Stage}
use Rattle.mq_scn_heading.specs.declared.parts.Stage.TheVariants as stages
use Rattle.mq_scn_heading.specs.declared.heading.PartLine.{PartLine}
use Rattle.mq_scn_heading.specs.declared.heading.PartLine.TheVariants as parts
use Rattle.mq_scn_text.specs.declared.sections.Opened.{Opened}
use Rattle.mq_scn_text.specs.declared.scripts.Script.{Script}
use Rattle.mq_scn_text.specs.declared.reading.Inside.{Inside}
use Rattle.mq_scn_text.specs.declared.reading.Inside.TheVariants as insides
use Rattle.mq_scn_text.specs.declared.reading.Reading.{Reading}
use Rattle.mq_scn_text.specs.Faults.{and_then}
use Rattle.mq_scn_text.specs.Sections.{text_added, line_in}
use Rattle.mq_scn_text.specs.Scripts.{new_script, put_len, script_added}
use Rattle.mq_scn_text.specs.Reading.{nothing_read, opened, part_added, outside_read, mqsc_line_read, rules_line_read, script_line_read, skipped_or_script, step_line_read, skipped_or_step, inside_read, section_cut, else_fault, line_read, lines_read, is_outside, are_steps, ended, scenario_of}
use Rattle.mq_scn_grammar.specs.Words.{IsOnly}
use Rattle.mq_scn_parts.proofs.PartLines.{part_is_read, part_is_refused}
use Rattle.mq_scn_heading.specs.Lookup.{own_name}
use Rattle.mq_law_scenario.proofs.SectionReads.{ok_cut, section_is, section_fault_is}
use Rattle.mq_law_scenario.proofs.TableReads.{part_is, part_fault_is}
use Rattle.mq_law_scenario.proofs.Leaves.{skipped_is, unskipped_is, end_is, no_end_is, mqsc_word, rules_word, script_word, steps_word, own_cut_is, own_cut_found}
use Rattle.mq_law_scenario.proofs.NextLines.{next_read, line_is_refused, next_step_read, step_is_refused}
use Rattle.mq_law_scenario.specs.Texts.{Said, nothing_said, IsSkipped, Begins, Adds, NoneIs, text_of, IsOpenText, IsOpenSection, IsOpenTable, IsNextLine, AreSpoken, IsOpenScript, IsNextStep, AreStepped, AreOpenSteps, IsOpen, Ends, IsEnded, IsBlock, AreBlocks, all_lines, IsText}
use Rattle.mq_law_scenario.specs.Faults.{Stand, IsBadLine, IsCut, HasBadLine, HasManyLines, HasNoEnd, IsTextFault}

abbrev pub ok_reading : Reading → Result Reading ScenarioFault
ok_reading r = Ok r

abbrev pub err_reading : ScenarioFault → Result Reading ScenarioFault
err_reading fault = Err fault

abbrev pub ok_scenario : Scenario → Result Scenario ScenarioFault
ok_scenario s = Ok s

abbrev pub err_scenario : ScenarioFault → Result Scenario ScenarioFault
err_scenario fault = Err fault

-- what the reader holds behind so many lines
abbrev pub reading : ℕ → Inside → Said → Reading
reading n i now = record { lines = n; stage = now.stage; inside = i; left = now.left; scenario = now.scenario }

-- ---- one line

few : (n : ℕ) → n < 40000 → nat_le 40000 n ≡ false
few n lt = grind (arith, nat_tests)

many : (n : ℕ) → n ≡ 40000 → nat_le 40000 n ≡ true
many n e = grind (arith, nat_tests)

line_within : (n : ℕ) (i : Inside) (now : Said) (line : List ℕ) → n < 40000 → line_read line (reading n i now) ≡ inside_read (n + 1) line (reading (n + 1) i now)
unfolding line_read
line_within n i now line lt = rw (few n lt) refl

-- one line, and those behind it
one_more : (n : ℕ) (i j : Inside) (now next : Said) (line : List ℕ) (rest : List (List ℕ)) → n < 40000 → inside_read (n + 1) line (reading (n + 1) i now) ≡ ok_reading (reading (n + 1) j next)
    → lines_read (line ∷ rest) (reading n i now) ≡ lines_read rest (reading (n + 1) j next)
one_more n i j now next line rest lt e = ap (λ (r : Result Reading ScenarioFault). and_then r (lines_read rest)) (line_within n i now line lt ∙ e)

skip_read : (k : ℕ) (now : Said) (line : List ℕ) → IsSkipped line → inside_read k line (reading k insides.Nothing now) ≡ ok_reading (reading k insides.Nothing now)
unfolding outside_read
skip_read k now line e = rw (skipped_is line e) refl

begins_read : (k : ℕ) (now : Said) (line : List ℕ) (stage : Stage) (part : PartLine) → Begins now line stage part
    → inside_read k line (reading k insides.Nothing now) ≡ ok_reading (part_added k part (reading k insides.Nothing (record now { stage = stage })))
unfolding outside_read
begins_read k now line stage part b = rw (unskipped_is line b.unskipped) (part_is_read k line (reading k insides.Nothing now) (stage, part) b.says)

adds_read : (part : PartLine) (k : ℕ) (now : Said) (t : Scenario) → Adds part now.scenario t → part_added k part (reading k insides.Nothing now) ≡ reading k insides.Nothing (record now { scenario = t })
adds_read parts.Network k now t e = ap (λ (s : Scenario). reading k insides.Nothing (record now { scenario = s })) (sym e)
adds_read (parts.Moment moment) k now t e = ap (λ (s : Scenario). reading k insides.Nothing (record now { scenario = s })) (sym e)
adds_read (parts.Manager manager) k now t e = ap (λ (s : Scenario). reading k insides.Nothing (record now { scenario = s })) (sym e)
adds_read (parts.Cable cable) k now t e = ap (λ (s : Scenario). reading k insides.Nothing (record now { scenario = s })) (sym e)
adds_read (parts.Monitor monitor) k now t e = ap (λ (s : Scenario). reading k insides.Nothing (record now { scenario = s })) (sym e)
adds_read (parts.Mqsc label manager) k now t e = absurd e
adds_read (parts.Rules label manager) k now t e = absurd e
adds_read (parts.Script label manager) k now t e = absurd e
adds_read parts.Steps k now t e = absurd e

-- ---- the lines of sections and tables

mqsc_more : (k : ℕ) (o : Opened) (now : Said) (line : List ℕ) → (IsOnly (codes "ENDMQSC") line → ⊥) → inside_read k line (reading k (insides.Mqsc o) now) ≡ ok_reading (reading k (insides.Mqsc (text_added line o)) now)
unfolding mqsc_line_read
mqsc_more k o now line e = rw (no_end_is (codes "ENDMQSC") line e) refl

rules_more : (k : ℕ) (o : Opened) (now : Said) (line : List ℕ) → (IsOnly (codes "ENDRULES") line → ⊥) → inside_read k line (reading k (insides.Rules o) now) ≡ ok_reading (reading k (insides.Rules (text_added line o)) now)
unfolding rules_line_read
rules_more k o now line e = rw (no_end_is (codes "ENDRULES") line e) refl

abbrev with_lines : List (List ℕ) → Opened → Opened
with_lines [] o = o
with_lines (line ∷ lines) o = with_lines lines (text_added line o)

with_text : (lines : List (List ℕ)) (o : Opened) → with_lines lines o ≡ record o { text = o.text ++ text_of lines }
with_text [] o = ap (λ (t : List ℕ). record o { text = t }) (sym (append-nil o.text))
with_text (line ∷ lines) o =
    let same : ((o.text ++ line) ++ 10 ∷ []) ++ text_of lines ≡ o.text ++ ((line ++ 10 ∷ []) ++ text_of lines) =
    ap (λ (t : List ℕ). t ++ text_of lines) (append_assoc o.text line (10 ∷ [])) ∙ append_assoc o.text (line ++ 10 ∷ []) (text_of lines) in
    with_text lines (text_added line o) ∙ ap (λ (t : List ℕ). record o { text = t }) same

-- lines of text, whatever they are read inside of, till the word that ends them
module _ (word : List ℕ) (inside : Opened → Inside) (more : (k : ℕ) (o : Opened) (now : Said) (line : List ℕ) → (IsOnly word line → ⊥) → inside_read k line (reading k (inside o) now) ≡ ok_reading (reading k (inside (text_added line o)) now)) where
  text_all : (lines : List (List ℕ)) (n : ℕ) (o : Opened) (now : Said) (rest : List (List ℕ)) → NoneIs word lines → n + length lines ≤ 40000
      → lines_read (lines ++ rest) (reading n (inside o) now) ≡ lines_read rest (reading (n + length lines) (inside (with_lines lines o)) now)
  text_all [] n o now rest h le = let k : n ≡ n + 0 = omega arith in ap (λ (m : ℕ). lines_read rest (reading m (inside o) now)) k
  text_all (line ∷ lines) n o now rest h le =
      let k : (n + 1) + length lines ≡ n + length (line ∷ lines) = omega arith in
      one_more n (inside o) (inside (text_added line o)) now now line (lines ++ rest) (omega arith) (more (n + 1) o now line h.0)
      ∙ text_all lines (n + 1) (text_added line o) now rest h.1 (omega arith)
      ∙ ap (λ (m : ℕ). lines_read rest (reading m (inside (with_lines lines (text_added line o))) now)) k

-- ---- the lines of scripts and steps

script_skip : (k : ℕ) (s : Script) (now : Said) (line : List ℕ) → IsSkipped line → inside_read k line (reading k (insides.Script s) now) ≡ ok_reading (reading k (insides.Script s) now)
unfolding skipped_or_script
script_skip k s now line e = rw (skipped_is line e) refl

script_more : (k : ℕ) (s : Script) (now : Said) (line : List ℕ) (said : ScriptLine) → IsNextLine now.left s line said
    → inside_read k line (reading k (insides.Script s) now) ≡ ok_reading (reading k (insides.Script (script_added said s)) (record now { left = now.left - put_len said }))
unfolding skipped_or_script script_line_read
script_more k s now line said h = let e = next_read now.left s line said (h.room, h.says, h.order) in rw (unskipped_is line h.unskipped, no_end_is (codes "ENDSCRIPT") line h.unended, e) refl

script_all : (lines : List (List ℕ)) (n : ℕ) (s t : Script) (now : Said) (left : ℕ) (rest : List (List ℕ)) → AreSpoken now.left s lines left t → n + length lines ≤ 40000
    → lines_read (lines ++ rest) (reading n (insides.Script s) now) ≡ lines_read rest (reading (n + length lines) (insides.Script t) (record now { left = left }))
script_all [] n s t now left rest h le =
    let k : n ≡ n + 0 = omega arith in
    ap (λ (m : ℕ). lines_read rest (reading m (insides.Script s) now)) k
    ∙ ap (λ (l : ℕ). lines_read rest (reading (n + 0) (insides.Script s) (record now { left = l }))) (sym h.0)
    ∙ ap (λ (u : Script). lines_read rest (reading (n + 0) (insides.Script u) (record now { left = left }))) (sym h.1)
script_all (line ∷ lines) n s t now left rest (inl (e, h)) le =
    let k : (n + 1) + length lines ≡ n + length (line ∷ lines) = omega arith in
    one_more n (insides.Script s) (insides.Script s) now now line (lines ++ rest) (omega arith) (script_skip (n + 1) s now line e)
    ∙ script_all lines (n + 1) s t now left rest h (omega arith)
    ∙ ap (λ (m : ℕ). lines_read rest (reading m (insides.Script t) (record now { left = left }))) k
script_all (line ∷ lines) n s t now left rest (inr (said, e, h)) le =
    let k : (n + 1) + length lines ≡ n + length (line ∷ lines) = omega arith in
    let next : Said = record now { left = now.left - put_len said } in
    one_more n (insides.Script s) (insides.Script (script_added said s)) now next line (lines ++ rest) (omega arith) (script_more (n + 1) s now line said e)
    ∙ script_all lines (n + 1) (script_added said s) t next left rest h (omega arith)
    ∙ ap (λ (m : ℕ). lines_read rest (reading m (insides.Script t) (record now { left = left }))) k

step_skip : (k : ℕ) (now : Said) (line : List ℕ) → IsSkipped line → inside_read k line (reading k insides.Steps now) ≡ ok_reading (reading k insides.Steps now)
unfolding skipped_or_step
step_skip k now line e = rw (skipped_is line e) refl

step_more : (k : ℕ) (now : Said) (line : List ℕ) (step : Step) → IsNextStep now.scenario line step
    → inside_read k line (reading k insides.Steps now) ≡ ok_reading (reading k insides.Steps (record now { scenario = record now.scenario { steps = now.scenario.steps ++ step ∷ [] } }))
unfolding skipped_or_step step_line_read
step_more k now line step h = let e = next_step_read now.scenario line step h.room h.says in rw (unskipped_is line h.unskipped, no_end_is (codes "ENDSTEPS") line h.unended, e) refl

steps_all : (lines : List (List ℕ)) (n : ℕ) (now : Said) (t : Scenario) (rest : List (List ℕ)) → AreStepped now.scenario lines t → n + length lines ≤ 40000
    → lines_read (lines ++ rest) (reading n insides.Steps now) ≡ lines_read rest (reading (n + length lines) insides.Steps (record now { scenario = t }))
steps_all [] n now t rest h le =
    let k : n ≡ n + 0 = omega arith in
    ap (λ (m : ℕ). lines_read rest (reading m insides.Steps now)) k ∙ ap (λ (s : Scenario). lines_read rest (reading (n + 0) insides.Steps (record now { scenario = s }))) (sym h)
steps_all (line ∷ lines) n now t rest (inl (e, h)) le =
    let k : (n + 1) + length lines ≡ n + length (line ∷ lines) = omega arith in
    one_more n insides.Steps insides.Steps now now line (lines ++ rest) (omega arith) (step_skip (n + 1) now line e)
    ∙ steps_all lines (n + 1) now t rest h (omega arith)
    ∙ ap (λ (m : ℕ). lines_read rest (reading m insides.Steps (record now { scenario = t }))) k
steps_all (line ∷ lines) n now t rest (inr (step, e, h)) le =
    let k : (n + 1) + length lines ≡ n + length (line ∷ lines) = omega arith in
    let next : Said = record now { scenario = record now.scenario { steps = now.scenario.steps ++ step ∷ [] } } in
    one_more n insides.Steps insides.Steps now next line (lines ++ rest) (omega arith) (step_more (n + 1) now line step e)
    ∙ steps_all lines (n + 1) next t rest h (omega arith)
    ∙ ap (λ (m : ℕ). lines_read rest (reading m insides.Steps (record now { scenario = t }))) k

-- ---- a part of several lines, up to its end and with it

-- lines that are read on to a place
abbrev ReadOn : ℕ → Said → List (List ℕ) → Inside → Said → List (List ℕ) → Type 0
ReadOn n before lines i now rest = lines_read (lines ++ rest) (reading n insides.Nothing before) ≡ lines_read rest (reading (n + length lines) i now)

-- a part of text, which so begins
module _ (part : List ℕ → ℕ → PartLine) (word : List ℕ) (inside : Opened → Inside)
    (starts : (k : ℕ) (now : Said) (line : List ℕ) (stage : Stage) (label : List ℕ) (manager : ℕ) → Begins now line stage (part label manager) → inside_read k line (reading k insides.Nothing now) ≡ ok_reading (reading k (inside (opened label manager k)) (record now { stage = stage })))
    (more : (k : ℕ) (o : Opened) (now : Said) (line : List ℕ) → (IsOnly word line → ⊥) → inside_read k line (reading k (inside o) now) ≡ ok_reading (reading k (inside (text_added line o)) now)) where
  text_read_on : (n : ℕ) (before : Said) (lines : List (List ℕ)) (o : Opened) (now : Said) (rest : List (List ℕ)) → IsOpenText part word n before lines o now → n + length lines ≤ 40000 → ReadOn n before lines (inside o) now rest
  text_read_on n before lines o now rest h le =
      let first : Opened = opened h.label h.manager (n + 1) in
      let next : Said = record before { stage = h.stage } in
      let most : n + length (h.head ∷ h.inner) ≤ 40000 = subst (λ (l : List (List ℕ)). n + length l ≤ 40000) h.whole le in
      let k : (n + 1) + length h.inner ≡ n + length (h.head ∷ h.inner) = omega arith in
      let core : ReadOn n before (h.head ∷ h.inner) (inside (record first { text = text_of h.inner })) next rest =
      one_more n insides.Nothing (inside first) before next h.head (h.inner ++ rest) (omega arith) (starts (n + 1) before h.head h.stage h.label h.manager h.begins)
      ∙ text_all word inside more h.inner (n + 1) first next rest h.within (omega arith)
      ∙ ap (λ (o : Opened). lines_read rest (reading ((n + 1) + length h.inner) (inside o) next)) (with_text h.inner first)
      ∙ ap (λ (m : ℕ). lines_read rest (reading m (inside (record first { text = text_of h.inner })) next)) k in
      subst (λ (l : List (List ℕ)). ReadOn n before l (inside o) now rest) (sym h.whole)
      (subst (λ (u : Opened). ReadOn n before (h.head ∷ h.inner) (inside u) now rest) (sym h.opens) (subst (λ (u : Said). ReadOn n before (h.head ∷ h.inner) (inside (record first { text = text_of h.inner })) u rest) (sym h.is) core))

section_read_on : (n : ℕ) (before : Said) (lines : List (List ℕ)) (o : Opened) (now : Said) (rest : List (List ℕ)) → IsOpenSection n before lines o now → n + length lines ≤ 40000 → ReadOn n before lines (insides.Mqsc o) now rest
section_read_on = text_read_on (λ label manager. parts.Mqsc label manager) (codes "ENDMQSC") (λ o. insides.Mqsc o) (λ k now line stage label manager b. begins_read k now line stage (parts.Mqsc label manager) b) mqsc_more

table_read_on : (n : ℕ) (before : Said) (lines : List (List ℕ)) (o : Opened) (now : Said) (rest : List (List ℕ)) → IsOpenTable n before lines o now → n + length lines ≤ 40000 → ReadOn n before lines (insides.Rules o) now rest
table_read_on = text_read_on (λ label manager. parts.Rules label manager) (codes "ENDRULES") (λ o. insides.Rules o) (λ k now line stage label manager b. begins_read k now line stage (parts.Rules label manager) b) rules_more

script_read_on : (n : ℕ) (before : Said) (lines : List (List ℕ)) (s : Script) (now : Said) (rest : List (List ℕ)) → IsOpenScript before lines s now → n + length lines ≤ 40000 → ReadOn n before lines (insides.Script s) now rest
script_read_on n before lines s now rest h le =
    let first : Script = new_script h.label h.manager in
    let next : Said = record before { stage = h.stage } in
    let last : Said = record { stage = h.stage; left = h.left; scenario = before.scenario } in
    let most : n + length (h.head ∷ h.inner) ≤ 40000 = subst (λ (l : List (List ℕ)). n + length l ≤ 40000) h.whole le in
    let k : (n + 1) + length h.inner ≡ n + length (h.head ∷ h.inner) = omega arith in
    let core : ReadOn n before (h.head ∷ h.inner) (insides.Script s) last rest =
    one_more n insides.Nothing (insides.Script first) before next h.head (h.inner ++ rest) (omega arith) (begins_read (n + 1) before h.head h.stage (parts.Script h.label h.manager) h.begins)
    ∙ script_all h.inner (n + 1) first s next h.left rest h.says (omega arith)
    ∙ ap (λ (m : ℕ). lines_read rest (reading m (insides.Script s) last)) k in
    subst (λ (l : List (List ℕ)). ReadOn n before l (insides.Script s) now rest) (sym h.whole) (subst (λ (u : Said). ReadOn n before (h.head ∷ h.inner) (insides.Script s) u rest) (sym h.is) core)

steps_read_on : (n : ℕ) (before : Said) (lines : List (List ℕ)) (now : Said) (rest : List (List ℕ)) → AreOpenSteps before lines now → n + length lines ≤ 40000 → ReadOn n before lines insides.Steps now rest
steps_read_on n before lines now rest h le =
    let next : Said = record before { stage = h.stage } in
    let last : Said = record { stage = h.stage; left = before.left; scenario = h.scenario } in
    let most : n + length (h.head ∷ h.inner) ≤ 40000 = subst (λ (l : List (List ℕ)). n + length l ≤ 40000) h.whole le in
    let k : (n + 1) + length h.inner ≡ n + length (h.head ∷ h.inner) = omega arith in
    let core : ReadOn n before (h.head ∷ h.inner) insides.Steps last rest =
    one_more n insides.Nothing insides.Steps before next h.head (h.inner ++ rest) (omega arith) (begins_read (n + 1) before h.head h.stage parts.Steps h.begins)
    ∙ steps_all h.inner (n + 1) next h.scenario rest h.says (omega arith)
    ∙ ap (λ (m : ℕ). lines_read rest (reading m insides.Steps last)) k in
    subst (λ (l : List (List ℕ)). ReadOn n before l insides.Steps now rest) (sym h.whole) (subst (λ (u : Said). ReadOn n before (h.head ∷ h.inner) insides.Steps u rest) (sym h.is) core)

nothing_read_on : (n : ℕ) (before now : Said) (lines rest : List (List ℕ)) → lines ≡ [] → now ≡ before → ReadOn n before lines insides.Nothing now rest
nothing_read_on n before now lines rest e f =
    let k : n ≡ n + 0 = omega arith in
    subst (λ (l : List (List ℕ)). ReadOn n before l insides.Nothing now rest) (sym e) (ap (λ (m : ℕ). lines_read rest (reading m insides.Nothing before)) k ∙ ap (λ (u : Said). lines_read rest (reading (n + 0) insides.Nothing u)) (sym f))

open_read_on : (i : Inside) (n : ℕ) (before now : Said) (lines rest : List (List ℕ)) → IsOpen n before lines i now → n + length lines ≤ 40000 → ReadOn n before lines i now rest
open_read_on insides.Nothing n before now lines rest h le = nothing_read_on n before now lines rest h.0 h.1
open_read_on (insides.Mqsc o) n before now lines rest h le = section_read_on n before lines o now rest h le
open_read_on (insides.Rules o) n before now lines rest h le = table_read_on n before lines o now rest h le
open_read_on (insides.Script s) n before now lines rest h le = script_read_on n before lines s now rest h le
open_read_on insides.Steps n before now lines rest h le = steps_read_on n before lines now rest h le

mqsc_end : (k : ℕ) (o : Opened) (now after : Said) (line : List ℕ) → Ends k (insides.Mqsc o) now line after → inside_read k line (reading k (insides.Mqsc o) now) ≡ ok_reading (reading k insides.Nothing after)
unfolding mqsc_line_read
mqsc_end k o now after line (section, only, e, is) = rw (end_is (codes "ENDMQSC") line mqsc_word only, section_is k o section e) (ap (λ (u : Said). ok_reading (reading k insides.Nothing u)) (sym is))

rules_end : (k : ℕ) (o : Opened) (now after : Said) (line : List ℕ) → Ends k (insides.Rules o) now line after → inside_read k line (reading k (insides.Rules o) now) ≡ ok_reading (reading k insides.Nothing after)
unfolding rules_line_read
rules_end k o now after line (part, only, e, is) = rw (end_is (codes "ENDRULES") line rules_word only, part_is (own_name now.scenario.managers o.manager) o part e) (ap (λ (u : Said). ok_reading (reading k insides.Nothing u)) (sym is))

script_end : (k : ℕ) (s : Script) (now after : Said) (line : List ℕ) → Ends k (insides.Script s) now line after → inside_read k line (reading k (insides.Script s) now) ≡ ok_reading (reading k insides.Nothing after)
unfolding skipped_or_script script_line_read
script_end k s now after line (unskipped, only, is) = rw (unskipped_is line unskipped, end_is (codes "ENDSCRIPT") line script_word only) (ap (λ (u : Said). ok_reading (reading k insides.Nothing u)) (sym is))

steps_end : (k : ℕ) (now after : Said) (line : List ℕ) → Ends k insides.Steps now line after → inside_read k line (reading k insides.Steps now) ≡ ok_reading (reading k insides.Nothing after)
unfolding skipped_or_step step_line_read
steps_end k now after line (unskipped, only, is) = rw (unskipped_is line unskipped, end_is (codes "ENDSTEPS") line steps_word only) (ap (λ (u : Said). ok_reading (reading k insides.Nothing u)) (sym is))

end_read : (i : Inside) (k : ℕ) (now after : Said) (line : List ℕ) → Ends k i now line after → inside_read k line (reading k i now) ≡ ok_reading (reading k insides.Nothing after)
end_read insides.Nothing k now after line h = absurd h
end_read (insides.Mqsc o) k now after line h = mqsc_end k o now after line h
end_read (insides.Rules o) k now after line h = rules_end k o now after line h
end_read (insides.Script s) k now after line h = script_end k s now after line h
end_read insides.Steps k now after line h = steps_end k now after line h

-- ---- blocks

alone_read : (n : ℕ) (before after : Said) (line : List ℕ) (rest : List (List ℕ)) → n + 1 ≤ 40000 → inside_read (n + 1) line (reading (n + 1) insides.Nothing before) ≡ ok_reading (reading (n + 1) insides.Nothing after) → ReadOn n before (line ∷ []) insides.Nothing after rest
alone_read n before after line rest le e = one_more n insides.Nothing insides.Nothing before after line rest (omega arith) e

ended_read_on : (n : ℕ) (before after : Said) (lines rest : List (List ℕ)) → IsEnded n before lines after → n + length lines ≤ 40000 → ReadOn n before lines insides.Nothing after rest
ended_read_on n before after lines rest h le =
    let most : n + length (h.front ++ h.last ∷ []) ≤ 40000 = subst (λ (l : List (List ℕ)). n + length l ≤ 40000) h.whole le in
    let long : length (h.front ++ h.last ∷ []) ≡ length h.front + 1 = length-append h.front (h.last ∷ []) in
    let k : (n + length h.front) + 1 ≡ n + length (h.front ++ h.last ∷ []) = omega (arith, long) in
    let core : ReadOn n before (h.front ++ h.last ∷ []) insides.Nothing after rest =
    ap (λ (l : List (List ℕ)). lines_read l (reading n insides.Nothing before)) (append_assoc h.front (h.last ∷ []) rest)
    ∙ open_read_on h.inside n before h.now h.front (h.last ∷ rest) h.opens (omega (arith, long, most))
    ∙ one_more (n + length h.front) h.inside insides.Nothing h.now after h.last rest (omega (arith, long, most)) (end_read h.inside ((n + length h.front) + 1) h.now after h.last h.ends)
    ∙ ap (λ (m : ℕ). lines_read rest (reading m insides.Nothing after)) k in
    subst (λ (l : List (List ℕ)). ReadOn n before l insides.Nothing after rest) (sym h.whole) core

block_read_on : (n : ℕ) (before after : Said) (lines rest : List (List ℕ)) → IsBlock n before lines after → n + length lines ≤ 40000 → ReadOn n before lines insides.Nothing after rest
block_read_on n before after lines rest (inl (line, e, skipped, is)) le =
    let most : n + length (line ∷ []) ≤ 40000 = subst (λ (l : List (List ℕ)). n + length l ≤ 40000) e le in
    subst (λ (l : List (List ℕ)). ReadOn n before l insides.Nothing after rest) (sym e)
    (subst (λ (u : Said). ReadOn n before (line ∷ []) insides.Nothing u rest) (sym is) (alone_read n before before line rest (omega (arith, most)) (skip_read (n + 1) before line skipped)))
block_read_on n before after lines rest (inr (inl h)) le =
    let next : Said = record { stage = h.stage; left = before.left; scenario = h.scenario } in
    let most : n + length (h.line ∷ []) ≤ 40000 = subst (λ (l : List (List ℕ)). n + length l ≤ 40000) h.whole le in
    let e : inside_read (n + 1) h.line (reading (n + 1) insides.Nothing before) ≡ ok_reading (reading (n + 1) insides.Nothing next) =
    begins_read (n + 1) before h.line h.stage h.part h.begins ∙ ap ok_reading (adds_read h.part (n + 1) (record before { stage = h.stage }) h.scenario h.adds) in
    subst (λ (l : List (List ℕ)). ReadOn n before l insides.Nothing after rest) (sym h.whole)
    (subst (λ (u : Said). ReadOn n before (h.line ∷ []) insides.Nothing u rest) (sym h.is) (alone_read n before next h.line rest (omega (arith, most)) e))
block_read_on n before after lines rest (inr (inr h)) le = ended_read_on n before after lines rest h le

blocks_read_on : (blocks : List (List (List ℕ))) (n : ℕ) (before after : Said) (rest : List (List ℕ)) → AreBlocks n before blocks after → n + length (all_lines blocks) ≤ 40000 → ReadOn n before (all_lines blocks) insides.Nothing after rest
blocks_read_on [] n before after rest h le = nothing_read_on n before after [] rest refl h
blocks_read_on (block ∷ blocks) n before after rest (next, h, hs) le =
    let long : length (block ++ all_lines blocks) ≡ length block + length (all_lines blocks) = length-append block (all_lines blocks) in
    let k : (n + length block) + length (all_lines blocks) ≡ n + length (block ++ all_lines blocks) = omega (arith, long) in
    ap (λ (l : List (List ℕ)). lines_read l (reading n insides.Nothing before)) (append_assoc block (all_lines blocks) rest)
    ∙ block_read_on n before next block (all_lines blocks ++ rest) h (omega (arith, long, le))
    ∙ blocks_read_on blocks (n + length block) next after rest hs (omega (arith, long, le))
    ∙ ap (λ (m : ℕ). lines_read rest (reading m insides.Nothing after)) k

from_zero : (n : ℕ) → 0 + n ≡ n
from_zero n = omega arith

-- lines with which a text may begin
stand_read : (lines : List (List ℕ)) (i : Inside) (now : Said) (rest : List (List ℕ)) → Stand lines i now → length lines ≤ 40000 → lines_read (lines ++ rest) nothing_read ≡ lines_read rest (reading (length lines) i now)
stand_read lines i now rest h le =
    let front : List (List ℕ) = all_lines h.blocks in
    let long : length (front ++ h.behind) ≡ length front + length h.behind = length-append front h.behind in
    let most : length (front ++ h.behind) ≤ 40000 = subst (λ (l : List (List ℕ)). length l ≤ 40000) h.whole le in
    let k : length front + length h.behind ≡ length (front ++ h.behind) = sym long in
    let first : lines_read (front ++ (h.behind ++ rest)) nothing_read ≡ lines_read (h.behind ++ rest) (reading (length front) insides.Nothing h.before) =
    blocks_read_on h.blocks 0 nothing_said h.before (h.behind ++ rest) h.are (omega (arith, long, most)) ∙ ap (λ (m : ℕ). lines_read (h.behind ++ rest) (reading m insides.Nothing h.before)) (from_zero (length front)) in
    let core : lines_read ((front ++ h.behind) ++ rest) nothing_read ≡ lines_read rest (reading (length (front ++ h.behind)) i now) =
    ap (λ (l : List (List ℕ)). lines_read l nothing_read) (append_assoc front h.behind rest)
    ∙ first
    ∙ open_read_on i (length front) h.before now h.behind rest h.opens (omega (arith, long, most))
    ∙ ap (λ (m : ℕ). lines_read rest (reading m i now)) k in
    subst (λ (l : List (List ℕ)). lines_read (l ++ rest) nothing_read ≡ lines_read rest (reading (length l) i now)) (sym h.whole) core

-- ---- whole texts

whole_end : (n : ℕ) (end : Said) → end.stage ≡ stages.Steps → ended (reading n insides.Nothing end) ≡ ok_scenario end.scenario
whole_end n end e = rw e refl

pub text_read : (text : List ℕ) (s : Scenario) → IsText text s → scenario_of text ≡ ok_scenario s
unfolding scenario_of
text_read text s h =
    let front : List (List ℕ) = all_lines h.blocks in
    let most : length front ≤ 40000 = subst (λ (l : List (List ℕ)). length l ≤ 40000) h.whole h.few in
    let read : lines_read (front ++ []) nothing_read ≡ ok_reading (reading (0 + length front) insides.Nothing h.end) = blocks_read_on h.blocks 0 nothing_said h.end [] h.are (omega (arith, most)) in
    let all : lines_read (lines_of text) nothing_read ≡ ok_reading (reading (0 + length front) insides.Nothing h.end) = ap (λ (l : List (List ℕ)). lines_read l nothing_read) (h.whole ∙ sym (append-nil front)) ∙ read in
    ap (λ (r : Result Reading ScenarioFault). and_then r ended) all ∙ whole_end (0 + length front) h.end h.last ∙ ap ok_scenario (sym h.is)

-- ---- faults

bad_part_read : (k : ℕ) (now : Said) (line : List ℕ) (fault : ScenarioFault) → IsBadLine k insides.Nothing now line fault → inside_read k line (reading k insides.Nothing now) ≡ err_reading fault
unfolding outside_read
bad_part_read k now line fault (unskipped, (own, h, is)) = rw (unskipped_is line unskipped) (part_is_refused k line (reading k insides.Nothing now) own h ∙ ap err_reading (sym is))

bad_section_read : (k : ℕ) (o : Opened) (now : Said) (line : List ℕ) (fault : ScenarioFault) → IsBadLine k (insides.Mqsc o) now line fault → inside_read k line (reading k (insides.Mqsc o) now) ≡ err_reading fault
unfolding mqsc_line_read
bad_section_read k o now line fault h = rw (end_is (codes "ENDMQSC") line mqsc_word h.0, section_fault_is k o fault h.1) refl

bad_table_read : (k : ℕ) (o : Opened) (now : Said) (line : List ℕ) (fault : ScenarioFault) → IsBadLine k (insides.Rules o) now line fault → inside_read k line (reading k (insides.Rules o) now) ≡ err_reading fault
unfolding rules_line_read
bad_table_read k o now line fault h = rw (end_is (codes "ENDRULES") line rules_word h.0, part_fault_is (own_name now.scenario.managers o.manager) o fault h.1) refl

bad_script_read : (k : ℕ) (s : Script) (now : Said) (line : List ℕ) (fault : ScenarioFault) → IsBadLine k (insides.Script s) now line fault → inside_read k line (reading k (insides.Script s) now) ≡ err_reading fault
unfolding skipped_or_script script_line_read
bad_script_read k s now line fault (unskipped, unended, (own, h, is)) = let e = line_is_refused now.left s line own h in rw (unskipped_is line unskipped, no_end_is (codes "ENDSCRIPT") line unended, e) (ap err_reading (sym is))

bad_step_read : (k : ℕ) (now : Said) (line : List ℕ) (fault : ScenarioFault) → IsBadLine k insides.Steps now line fault → inside_read k line (reading k insides.Steps now) ≡ err_reading fault
unfolding skipped_or_step step_line_read
bad_step_read k now line fault (unskipped, unended, (own, h, is)) = let e = step_is_refused now.scenario line own h in rw (unskipped_is line unskipped, no_end_is (codes "ENDSTEPS") line unended, e) (ap err_reading (sym is))

bad_read : (i : Inside) (k : ℕ) (now : Said) (line : List ℕ) (fault : ScenarioFault) → IsBadLine k i now line fault → inside_read k line (reading k i now) ≡ err_reading fault
bad_read insides.Nothing k now line fault h = bad_part_read k now line fault h
bad_read (insides.Mqsc o) k now line fault h = bad_section_read k o now line fault h
bad_read (insides.Rules o) k now line fault h = bad_table_read k o now line fault h
bad_read (insides.Script s) k now line fault h = bad_script_read k s now line fault h
bad_read insides.Steps k now line fault h = bad_step_read k now line fault h

abbrev cut_or : (A : Type 0) → Inside → Said → ScenarioFault → Result A ScenarioFault
cut_or A i now other = else_fault (section_cut i now.scenario) other

abbrev err_of : (A : Type 0) → ScenarioFault → Result A ScenarioFault
err_of A fault = Err fault

cut_told : (A : Type 0) (i : Inside) (now : Said) (other fault : ScenarioFault) → IsCut i now other fault → cut_or A i now other ≡ err_of A fault
cut_told A i now other fault (inl h) = rw (own_cut_is i now.scenario fault h) refl
cut_told A i now other fault (inr (never, f)) = ap (λ (r : Result (Unit {0}) ScenarioFault). else_fault r other) (no_own_cut (section_cut i now.scenario) refl) ∙ ap (err_of A) (sym f)
  where
    no_own_cut : (r : Result (Unit {0}) ScenarioFault) → section_cut i now.scenario ≡ r → section_cut i now.scenario ≡ ok_cut
    no_own_cut (Ok done) e = e
    no_own_cut (Err own) e = absurd (never own (own_cut_found i now.scenario own e))

many_within : (n : ℕ) (i : Inside) (now : Said) (line : List ℕ) → n ≡ 40000 → line_read line (reading n i now) ≡ cut_or Reading i now (faults.Limit 40001 limits.Lines)
unfolding line_read
many_within n i now line e = rw (many n e) refl

-- all lines stand, but they end too early
not_whole : (stage : Stage) (i : Inside) → (stage ≡ stages.Steps → i ≡ insides.Nothing → ⊥) → (are_steps stage && is_outside i) ≡ false
not_whole stages.Start i h = refl
not_whole stages.Network i h = refl
not_whole stages.Moment i h = refl
not_whole stages.Managers i h = refl
not_whole stages.Cables i h = refl
not_whole stages.Sections i h = refl
not_whole stages.Steps insides.Nothing h = absurd (h refl refl)
not_whole stages.Steps (insides.Mqsc o) h = refl
not_whole stages.Steps (insides.Rules o) h = refl
not_whole stages.Steps (insides.Script s) h = refl
not_whole stages.Steps insides.Steps h = refl

no_end : (n : ℕ) (i : Inside) (now : Said) → (now.stage ≡ stages.Steps → i ≡ insides.Nothing → ⊥) → ended (reading n i now) ≡ cut_or Scenario i now (faults.BadLine (line_in n 1) causes.Ending)
no_end n i now h = rw (not_whole now.stage i h) refl

bad_line_read : (text : List ℕ) (fault : ScenarioFault) → HasBadLine text fault → lines_read (lines_of text) nothing_read ≡ err_reading fault
bad_line_read text fault h =
    ap (λ (l : List (List ℕ)). lines_read l nothing_read) h.whole
    ∙ stand_read h.front h.inside h.now (h.line ∷ h.later) h.stand (omega (arith, h.few))
    ∙ ap (λ (r : Result Reading ScenarioFault). and_then r (lines_read h.later)) (line_within (length h.front) h.inside h.now h.line h.few ∙ bad_read h.inside (length h.front + 1) h.now h.line fault h.bad)

many_lines_read : (text : List ℕ) (fault : ScenarioFault) → HasManyLines text fault → lines_read (lines_of text) nothing_read ≡ err_reading fault
many_lines_read text fault h =
    ap (λ (l : List (List ℕ)). lines_read l nothing_read) h.whole
    ∙ stand_read h.front h.inside h.now (h.line ∷ h.later) h.stand (omega (arith, h.many))
    ∙ ap (λ (r : Result Reading ScenarioFault). and_then r (lines_read h.later)) (many_within (length h.front) h.inside h.now h.line h.many ∙ cut_told Reading h.inside h.now (faults.Limit 40001 limits.Lines) fault h.cut_off)

no_end_read : (text : List ℕ) (fault : ScenarioFault) → HasNoEnd text fault → and_then (lines_read (lines_of text) nothing_read) ended ≡ err_scenario fault
no_end_read text fault h =
    let all : lines_read (lines_of text) nothing_read ≡ ok_reading (reading (length (lines_of text)) h.inside h.now) =
    ap (λ (l : List (List ℕ)). lines_read l nothing_read) (sym (append-nil (lines_of text))) ∙ stand_read (lines_of text) h.inside h.now [] h.stand h.few in
    ap (λ (r : Result Reading ScenarioFault). and_then r ended) all
    ∙ no_end (length (lines_of text)) h.inside h.now h.unended
    ∙ cut_told Scenario h.inside h.now (faults.BadLine (line_in (length (lines_of text)) 1) causes.Ending) fault h.cut_off

pub fault_read : (text : List ℕ) (fault : ScenarioFault) → IsTextFault text fault → scenario_of text ≡ err_scenario fault
unfolding scenario_of
fault_read text fault (inl h) = ap (λ (r : Result Reading ScenarioFault). and_then r ended) (bad_line_read text fault h)
fault_read text fault (inr (inl h)) = ap (λ (r : Result Reading ScenarioFault). and_then r ended) (many_lines_read text fault h)
fault_read text fault (inr (inr h)) = no_end_read text fault h
