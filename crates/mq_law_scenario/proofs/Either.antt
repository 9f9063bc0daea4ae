-- Each text is that of a scenario or has a fault: its lines are followed one by one.
use Rattle.std.proofs.Common.{◌≡◌, ℕ, ◌+◌, ◌-◌, ◌<◌, ◌≤◌, Bool, true, false, List, [], ◌∷◌, ◌++◌, length, Result, Ok, Err, refl, sym, ap, subst, ◌∙◌, append_assoc, append-nil, arith, inl, inr}
use Rattle.std.specs.Prelude.{◌⊎◌, codes, Some, nat_lt}
use Rattle.std.proofs.lemmas.List.{length-append}
use Rattle.std.proofs.lemmas.Bool.Decides.{nat_tests}
use Rattle.mq_text.specs.Lines.{lines_of}
use Rattle.mq_history.specs.declared.scenario.Scenario.{Scenario}
use Rattle.mq_history.specs.declared.scenario.Section.{Section}
use Rattle.mq_history.specs.declared.scenario.RulesPart.{RulesPart}
use Rattle.mq_history.specs.declared.scenario.Step.{Step}
use Rattle.mq_history.specs.declared.scripts.ScriptLine.{ScriptLine}
use Rattle.mq_scn_lines.specs.declared.fault.Limit.TheVariants as limits
use Rattle.mq_scn_lines.specs.declared.fault.LineFault.{LineFault}
use Rattle.mq_scn_text.specs.declared.fault.Cause.TheVariants as causes
use Rattle.mq_scn_text.specs.declared.fault.ScenarioFault.{ScenarioFault}
use Rattle.mq_scn_text.specs.declared.fault.ScenarioFault.TheVariants as faults
use Rattle.mq_scn_heading.specs.declared.parts.Stage.{Stage}
use Rattle.mq_scn_heading.specs.declared.parts.Stage.TheVariants as stages
use Rattle.mq_scn_heading.specs.declared.heading.PartLine.{PartLine}
use Rattle.mq_scn_heading.specs.declared.heading.PartLine.TheVariants as parts
use Rattle.mq_scn_text.specs.declared.sections.Opened.{Opened}
use Rattle.mq_scn_text.specs.declared.scripts.Script.{Script}
use Rattle.mq_scn_text.specs.declared.reading.Inside.{Inside}
use Rattle.mq_scn_text.specs.declared.reading.Inside.TheVariants as insides
use Rattle.mq_scn_text.specs.Faults.{fault_at}
use Rattle.mq_scn_heading.specs.Lookup.{own_name}
use Rattle.mq_scn_text.specs.Sections.{text_added, line_in, mqsc_ended, rules_ended}
use Rattle.mq_scn_text.specs.Scripts.{new_script, put_len, script_read, script_added}
use Rattle.mq_scn_text.specs.Reading.{is_only, is_skipped, opened, step_read, section_cut, scenario_of}
use Rattle.mq_scn_parts.specs.Heading.{IsPartLine, IsPartLineFault}
use Rattle.mq_scn_grammar.specs.Words.{IsOnly}
use Rattle.mq_scn_parts.proofs.PartLines.{either_part}
use Rattle.mq_law_scenario.proofs.SectionReads.{ok_cut, err_cut, section_found, section_refused}
use Rattle.mq_law_scenario.proofs.TableReads.{part_found, part_refused}
use Rattle.mq_law_scenario.proofs.Leaves.{skipped_found, unskipped_found, end_found, no_end_found, mqsc_word, rules_word, script_word, steps_word, own_cut_is, own_cut_found}
use Rattle.mq_law_scenario.proofs.NextLines.{next_found, line_refused, next_step_found, step_refused}
use Rattle.mq_law_scenario.specs.Texts.{Said, nothing_said, IsSkipped, Begins, NoneIs, text_of, IsOpenText, IsOpenSection, IsOpenTable, IsNextLine, AreSpoken, IsOpenScript, IsNextStep, AreStepped, AreOpenSteps, IsOpen, IsBlock, AreBlocks, all_lines, IsText}
use Rattle.mq_law_scenario.specs.Faults.{Stand, IsBadLine, IsCut, IsTextFault}
use Rattle.mq_law_scenario.proofs.ReadBack.{ok_scenario, err_scenario, text_read, fault_read}

-- ---- what one more line makes of what is open

-- it goes on
record GoesOn (n : ℕ) (before : Said) (lines : List (List ℕ)) : Type 0 where
  pub inside : Inside
  pub now : Said
  pub opens : IsOpen n before lines inside now

-- it is a block
record IsClosed (n : ℕ) (before : Said) (lines : List (List ℕ)) : Type 0 where
  pub after : Said
  pub block : IsBlock n before lines after

-- the line is at fault
record IsAtFault (number : ℕ) (i : Inside) (now : Said) (line : List ℕ) : Type 0 where
  pub fault : ScenarioFault
  pub bad : IsBadLine number i now line fault

abbrev Grown : ℕ → Said → List (List ℕ) → Inside → Said → List ℕ → Type 0
Grown n before lines i now line = GoesOn n before (lines ++ line ∷ []) ⊎ (IsClosed n before (lines ++ line ∷ []) ⊎ IsAtFault (n + length lines + 1) i now line)

-- ---- a line outside

abbrev no_lines : List (List ℕ)
no_lines = []

first_lines : (n : ℕ) → n + length no_lines + 1 ≡ n + 1
first_lines n = omega arith

part_grown : (n : ℕ) (before : Said) (line : List ℕ) (stage : Stage) (part : PartLine) → Begins before line stage part → Grown n before [] insides.Nothing before line
part_grown n before line stage parts.Network b =
    inr (inl (record { after = record { stage = stage; left = before.left; scenario = before.scenario }; block = inr (inl (record { line = line; stage = stage; part = parts.Network; scenario = before.scenario; whole = refl; begins = b; adds = refl; is = refl })) }))
part_grown n before line stage (parts.Moment moment) b =
    let t : Scenario = record before.scenario { moment = Some moment } in
    inr (inl (record { after = record { stage = stage; left = before.left; scenario = t }; block = inr (inl (record { line = line; stage = stage; part = parts.Moment moment; scenario = t; whole = refl; begins = b; adds = refl; is = refl })) }))
part_grown n before line stage (parts.Manager manager) b =
    let t : Scenario = record before.scenario { managers = before.scenario.managers ++ manager ∷ [] } in
    inr (inl (record { after = record { stage = stage; left = before.left; scenario = t }; block = inr (inl (record { line = line; stage = stage; part = parts.Manager manager; scenario = t; whole = refl; begins = b; adds = refl; is = refl })) }))
part_grown n before line stage (parts.Cable cable) b =
    let t : Scenario = record before.scenario { cables = before.scenario.cables ++ cable ∷ [] } in
    inr (inl (record { after = record { stage = stage; left = before.left; scenario = t }; block = inr (inl (record { line = line; stage = stage; part = parts.Cable cable; scenario = t; whole = refl; begins = b; adds = refl; is = refl })) }))
part_grown n before line stage (parts.Monitor monitor) b =
    let t : Scenario = record before.scenario { monitors = before.scenario.monitors ++ monitor ∷ [] } in
    inr (inl (record { after = record { stage = stage; left = before.left; scenario = t }; block = inr (inl (record { line = line; stage = stage; part = parts.Monitor monitor; scenario = t; whole = refl; begins = b; adds = refl; is = refl })) }))
part_grown n before line stage (parts.Mqsc label manager) b =
    inl (record {
      inside = insides.Mqsc (opened label manager (n + 1));
      now = record { stage = stage; left = before.left; scenario = before.scenario };
      opens = record { head = line; inner = []; stage = stage; label = label; manager = manager; whole = refl; begins = b; within = tt; opens = refl; is = refl };
    })
part_grown n before line stage (parts.Rules label manager) b =
    inl (record {
      inside = insides.Rules (opened label manager (n + 1));
      now = record { stage = stage; left = before.left; scenario = before.scenario };
      opens = record { head = line; inner = []; stage = stage; label = label; manager = manager; whole = refl; begins = b; within = tt; opens = refl; is = refl };
    })
part_grown n before line stage (parts.Script label manager) b =
    inl (record {
      inside = insides.Script (new_script label manager);
      now = record { stage = stage; left = before.left; scenario = before.scenario };
      opens = record { head = line; inner = []; stage = stage; label = label; manager = manager; left = before.left; whole = refl; begins = b; says = (refl, refl); is = refl };
    })
part_grown n before line stage parts.Steps b =
    inl (record {
      inside = insides.Steps;
      now = record { stage = stage; left = before.left; scenario = before.scenario };
      opens = record { head = line; inner = []; stage = stage; scenario = before.scenario; whole = refl; begins = b; says = refl; is = refl };
    })

bad_outside : (n : ℕ) (before : Said) (line : List ℕ) (own : LineFault) → is_skipped line ≡ false → IsPartLineFault before.scenario before.stage line own → Grown n before [] insides.Nothing before line
bad_outside n before line own e h = inr (inr (record { fault = fault_at (n + length no_lines + 1) own; bad = (unskipped_found line e, (own, h, refl)) }))

first_grown : (n : ℕ) (before : Said) (line : List ℕ) → is_skipped line ≡ false → ((p : Stage × PartLine) × IsPartLine before.scenario before.stage line p) ⊎ ((f : LineFault) × IsPartLineFault before.scenario before.stage line f) → Grown n before [] insides.Nothing before line
first_grown n before line e (inl (p, h)) = part_grown n before line p.0 p.1 (record { unskipped = unskipped_found line e; says = h })
first_grown n before line e (inr (own, h)) = bad_outside n before line own e h

outside_grown : (n : ℕ) (before : Said) (line : List ℕ) (b : Bool) → is_skipped line ≡ b → Grown n before [] insides.Nothing before line
outside_grown n before line true e = inr (inl (record { after = before; block = inl (line, refl, skipped_found line e, refl) }))
outside_grown n before line false e = first_grown n before line e (either_part before.scenario before.stage line)

-- ---- a line in a section or a table

none_more : (word : List ℕ) (lines : List (List ℕ)) (line : List ℕ) → NoneIs word lines → (IsOnly word line → ⊥) → NoneIs word (lines ++ line ∷ [])
none_more word [] line h e = (e, tt)
none_more word (other ∷ lines) line h e = (h.0, none_more word lines line h.1 e)

text_more : (lines : List (List ℕ)) (line : List ℕ) → (text_of lines ++ line) ++ 10 ∷ [] ≡ text_of (lines ++ line ∷ [])
text_more [] line = sym (append-nil (line ++ 10 ∷ []))
text_more (other ∷ lines) line =
    ap (λ (t : List ℕ). t ++ 10 ∷ []) (append_assoc (other ++ 10 ∷ []) (text_of lines) line)
    ∙ append_assoc (other ++ 10 ∷ []) (text_of lines ++ line) (10 ∷ [])
    ∙ ap (λ (t : List ℕ). (other ++ 10 ∷ []) ++ t) (text_more lines line)

opened_more : (label : List ℕ) (manager first : ℕ) (o : Opened) (inner : List (List ℕ)) (line : List ℕ) → o ≡ record { label = label; manager = manager; first = first; text = text_of inner }
    → text_added line o ≡ record { label = label; manager = manager; first = first; text = text_of (inner ++ line ∷ []) }
opened_more label manager first o inner line e =
    let base : Opened = record { label = label; manager = manager; first = first; text = text_of inner } in
    ap (text_added line) e ∙ ap (λ (t : List ℕ). record base { text = t }) (text_more inner line)

text_grown : {part : List ℕ → ℕ → PartLine} {word : List ℕ} (n : ℕ) (before now : Said) (lines : List (List ℕ)) (o : Opened) (line : List ℕ) → IsOpenText part word n before lines o now → (IsOnly word line → ⊥) → IsOpenText part word n before (lines ++ line ∷ []) (text_added line o) now
text_grown {part} {word} n before now lines o line h e = record {
  head = h.head;
  inner = h.inner ++ line ∷ [];
  stage = h.stage;
  label = h.label;
  manager = h.manager;
  whole = ap (λ (l : List (List ℕ)). l ++ line ∷ []) h.whole;
  begins = h.begins;
  within = none_more word h.inner line h.within e;
  opens = opened_more h.label h.manager (n + 1) o h.inner line h.opens;
  is = h.is;
}

section_ended : (n : ℕ) (before now : Said) (lines : List (List ℕ)) (o : Opened) (line : List ℕ) → IsOpenSection n before lines o now → is_only (codes "ENDMQSC") line ≡ true
    → (r : Result Section ScenarioFault) → mqsc_ended (n + length lines + 1) o ≡ r → Grown n before lines (insides.Mqsc o) now line
section_ended n before now lines o line h e (Ok section) f =
    let after : Said = record now { scenario = record now.scenario { sections = now.scenario.sections ++ section ∷ [] } } in
    inr (inl (record { after = after; block = inr (inr (record { front = lines; last = line; inside = insides.Mqsc o; now = now; whole = refl; opens = h; ends = (section, end_found (codes "ENDMQSC") line e, section_found (n + length lines + 1) o section f, refl) })) }))
section_ended n before now lines o line h e (Err fault) f = inr (inr (record { fault = fault; bad = (end_found (codes "ENDMQSC") line e, section_refused (n + length lines + 1) o fault f) }))

section_grown : (n : ℕ) (before now : Said) (lines : List (List ℕ)) (o : Opened) (line : List ℕ) → IsOpenSection n before lines o now → (b : Bool) → is_only (codes "ENDMQSC") line ≡ b → Grown n before lines (insides.Mqsc o) now line
section_grown n before now lines o line h true e = section_ended n before now lines o line h e (mqsc_ended (n + length lines + 1) o) refl
section_grown n before now lines o line h false e = inl (record { inside = insides.Mqsc (text_added line o); now = now; opens = text_grown n before now lines o line h (no_end_found (codes "ENDMQSC") line mqsc_word e) })

table_ended : (n : ℕ) (before now : Said) (lines : List (List ℕ)) (o : Opened) (line : List ℕ) → IsOpenTable n before lines o now → is_only (codes "ENDRULES") line ≡ true
    → (r : Result RulesPart ScenarioFault) → rules_ended (own_name now.scenario.managers o.manager) o ≡ r → Grown n before lines (insides.Rules o) now line
table_ended n before now lines o line h e (Ok part) f =
    let after : Said = record now { scenario = record now.scenario { rules = now.scenario.rules ++ part ∷ [] } } in
    inr (inl (record { after = after; block = inr (inr (record { front = lines; last = line; inside = insides.Rules o; now = now; whole = refl; opens = h; ends = (part, end_found (codes "ENDRULES") line e, part_found (own_name now.scenario.managers o.manager) o part f, refl) })) }))
table_ended n before now lines o line h e (Err fault) f = inr (inr (record { fault = fault; bad = (end_found (codes "ENDRULES") line e, part_refused (own_name now.scenario.managers o.manager) o fault f) }))

table_grown : (n : ℕ) (before now : Said) (lines : List (List ℕ)) (o : Opened) (line : List ℕ) → IsOpenTable n before lines o now → (b : Bool) → is_only (codes "ENDRULES") line ≡ b → Grown n before lines (insides.Rules o) now line
table_grown n before now lines o line h true e = table_ended n before now lines o line h e (rules_ended (own_name now.scenario.managers o.manager) o) refl
table_grown n before now lines o line h false e = inl (record { inside = insides.Rules (text_added line o); now = now; opens = text_grown n before now lines o line h (no_end_found (codes "ENDRULES") line rules_word e) })

-- ---- a line in a script

spoken_skip : (lines : List (List ℕ)) (left : ℕ) (s : Script) (behind : ℕ) (t : Script) (line : List ℕ) → AreSpoken left s lines behind t → IsSkipped line → AreSpoken left s (lines ++ line ∷ []) behind t
spoken_skip [] left s behind t line h e = inl (e, h)
spoken_skip (other ∷ lines) left s behind t line (inl (f, h)) e = inl (f, spoken_skip lines left s behind t line h e)
spoken_skip (other ∷ lines) left s behind t line (inr (said, f, h)) e = inr (said, f, spoken_skip lines (left - put_len said) (script_added said s) behind t line h e)

spoken_more : (lines : List (List ℕ)) (left : ℕ) (s : Script) (behind : ℕ) (t : Script) (line : List ℕ) (said : ScriptLine) → AreSpoken left s lines behind t → IsNextLine behind t line said
    → AreSpoken left s (lines ++ line ∷ []) (behind - put_len said) (script_added said t)
spoken_more [] left s behind t line said (e, f) h =
    let here : IsNextLine left s line said = subst (λ (l : ℕ). IsNextLine l s line said) e (subst (λ (u : Script). IsNextLine behind u line said) f h) in
    inr (said, here, (ap (λ (l : ℕ). l - put_len said) e, ap (script_added said) f))
spoken_more (other ∷ lines) left s behind t line said (inl (f, hs)) h = inl (f, spoken_more lines left s behind t line said hs h)
spoken_more (other ∷ lines) left s behind t line said (inr (first, f, hs)) h = inr (first, f, spoken_more lines (left - put_len first) (script_added first s) behind t line said hs h)

script_grows : (n : ℕ) (before now : Said) (lines : List (List ℕ)) (s : Script) (line : List ℕ) (h : IsOpenScript before lines s now) (left : ℕ) (t : Script) → AreSpoken before.left (new_script h.label h.manager) (h.inner ++ line ∷ []) left t → GoesOn n before (lines ++ line ∷ [])
script_grows n before now lines s line h left t says = record {
  inside = insides.Script t;
  now = record { stage = h.stage; left = left; scenario = before.scenario };
  opens = record {
    head = h.head;
    inner = h.inner ++ line ∷ [];
    stage = h.stage;
    label = h.label;
    manager = h.manager;
    left = left;
    whole = ap (λ (l : List (List ℕ)). l ++ line ∷ []) h.whole;
    begins = h.begins;
    says = says;
    is = refl;
  };
}

left_now : (stage : Stage) (left : ℕ) (s : Scenario) (now : Said) → now ≡ record { stage = stage; left = left; scenario = s } → now.left ≡ left
left_now stage left s now e = ap (λ (u : Said). u.left) e

script_said : (n : ℕ) (before now : Said) (lines : List (List ℕ)) (s : Script) (line : List ℕ) → IsOpenScript before lines s now → is_skipped line ≡ false → is_only (codes "ENDSCRIPT") line ≡ false
    → (r : Result ScriptLine LineFault) → script_read now.left line s ≡ r → Grown n before lines (insides.Script s) now line
script_said n before now lines s line h e f (Ok said) g =
    let same : now.left ≡ h.left = left_now h.stage h.left before.scenario now h.is in
    let line_is : IsNextLine h.left s line said = subst (λ (l : ℕ). IsNextLine l s line said) same (let k = next_found now.left s line said g in record { unskipped = unskipped_found line e; unended = no_end_found (codes "ENDSCRIPT") line script_word f; room = k.0; says = k.1; order = k.2 }) in
    inl (script_grows n before now lines s line h (h.left - put_len said) (script_added said s) (spoken_more h.inner before.left (new_script h.label h.manager) h.left s line said h.says line_is))
script_said n before now lines s line h e f (Err own) g = inr (inr (record { fault = fault_at (n + length lines + 1) own; bad = (unskipped_found line e, no_end_found (codes "ENDSCRIPT") line script_word f, (own, line_refused now.left s line own g, refl)) }))

script_ended : (n : ℕ) (before now : Said) (lines : List (List ℕ)) (s : Script) (line : List ℕ) → IsOpenScript before lines s now → is_skipped line ≡ false → (b : Bool) → is_only (codes "ENDSCRIPT") line ≡ b → Grown n before lines (insides.Script s) now line
script_ended n before now lines s line h e true f =
    let after : Said = record now { scenario = record now.scenario { scripts = now.scenario.scripts ++ s.part ∷ [] } } in
    inr (inl (record { after = after; block = inr (inr (record { front = lines; last = line; inside = insides.Script s; now = now; whole = refl; opens = h; ends = (unskipped_found line e, end_found (codes "ENDSCRIPT") line f, refl) })) }))
script_ended n before now lines s line h e false f = script_said n before now lines s line h e f (script_read now.left line s) refl

script_grown : (n : ℕ) (before now : Said) (lines : List (List ℕ)) (s : Script) (line : List ℕ) → IsOpenScript before lines s now → (b : Bool) → is_skipped line ≡ b → Grown n before lines (insides.Script s) now line
script_grown n before now lines s line h true e = inl (script_grows n before now lines s line h h.left s (spoken_skip h.inner before.left (new_script h.label h.manager) h.left s line h.says (skipped_found line e)))
script_grown n before now lines s line h false e = script_ended n before now lines s line h e (is_only (codes "ENDSCRIPT") line) refl

-- ---- a line in the steps

stepped_skip : (lines : List (List ℕ)) (s t : Scenario) (line : List ℕ) → AreStepped s lines t → IsSkipped line → AreStepped s (lines ++ line ∷ []) t
stepped_skip [] s t line h e = inl (e, h)
stepped_skip (other ∷ lines) s t line (inl (f, h)) e = inl (f, stepped_skip lines s t line h e)
stepped_skip (other ∷ lines) s t line (inr (step, f, h)) e = inr (step, f, stepped_skip lines (record s { steps = s.steps ++ step ∷ [] }) t line h e)

stepped_more : (lines : List (List ℕ)) (s t : Scenario) (line : List ℕ) (step : Step) → AreStepped s lines t → IsNextStep t line step → AreStepped s (lines ++ line ∷ []) (record t { steps = t.steps ++ step ∷ [] })
stepped_more [] s t line step e h = inr (step, subst (λ (u : Scenario). IsNextStep u line step) e h, ap (λ (u : Scenario). record u { steps = u.steps ++ step ∷ [] }) e)
stepped_more (other ∷ lines) s t line step (inl (f, hs)) h = inl (f, stepped_more lines s t line step hs h)
stepped_more (other ∷ lines) s t line step (inr (first, f, hs)) h = inr (first, f, stepped_more lines (record s { steps = s.steps ++ first ∷ [] }) t line step hs h)

steps_grow : (n : ℕ) (before now : Said) (lines : List (List ℕ)) (line : List ℕ) (h : AreOpenSteps before lines now) (t : Scenario) → AreStepped before.scenario (h.inner ++ line ∷ []) t → GoesOn n before (lines ++ line ∷ [])
steps_grow n before now lines line h t says = record {
  inside = insides.Steps;
  now = record { stage = h.stage; left = before.left; scenario = t };
  opens = record {
    head = h.head;
    inner = h.inner ++ line ∷ [];
    stage = h.stage;
    scenario = t;
    whole = ap (λ (l : List (List ℕ)). l ++ line ∷ []) h.whole;
    begins = h.begins;
    says = says;
    is = refl;
  };
}

step_said : (n : ℕ) (before now : Said) (lines : List (List ℕ)) (line : List ℕ) → AreOpenSteps before lines now → is_skipped line ≡ false → is_only (codes "ENDSTEPS") line ≡ false
    → (r : Result (Unit {0} × Step) LineFault) → step_read now.scenario line ≡ r → Grown n before lines insides.Steps now line
step_said n before now lines line h e f (Ok (done, step)) g =
    let same : now.scenario ≡ h.scenario = ap (λ (u : Said). u.scenario) h.is in
    let line_is : IsNextStep h.scenario line step = subst (λ (s : Scenario). IsNextStep s line step) same (let k = next_step_found now.scenario line step g in record { unskipped = unskipped_found line e; unended = no_end_found (codes "ENDSTEPS") line steps_word f; room = k.0; says = k.1 }) in
    inl (steps_grow n before now lines line h (record h.scenario { steps = h.scenario.steps ++ step ∷ [] }) (stepped_more h.inner before.scenario h.scenario line step h.says line_is))
step_said n before now lines line h e f (Err own) g = inr (inr (record { fault = fault_at (n + length lines + 1) own; bad = (unskipped_found line e, no_end_found (codes "ENDSTEPS") line steps_word f, (own, step_refused now.scenario line own g, refl)) }))

steps_ended : (n : ℕ) (before now : Said) (lines : List (List ℕ)) (line : List ℕ) → AreOpenSteps before lines now → is_skipped line ≡ false → (b : Bool) → is_only (codes "ENDSTEPS") line ≡ b → Grown n before lines insides.Steps now line
steps_ended n before now lines line h e true f = inr (inl (record { after = now; block = inr (inr (record { front = lines; last = line; inside = insides.Steps; now = now; whole = refl; opens = h; ends = (unskipped_found line e, end_found (codes "ENDSTEPS") line f, refl) })) }))
steps_ended n before now lines line h e false f = step_said n before now lines line h e f (step_read now.scenario line) refl

steps_grown : (n : ℕ) (before now : Said) (lines : List (List ℕ)) (line : List ℕ) → AreOpenSteps before lines now → (b : Bool) → is_skipped line ≡ b → Grown n before lines insides.Steps now line
steps_grown n before now lines line h true e = inl (steps_grow n before now lines line h h.scenario (stepped_skip h.inner before.scenario h.scenario line h.says (skipped_found line e)))
steps_grown n before now lines line h false e = steps_ended n before now lines line h e (is_only (codes "ENDSTEPS") line) refl

nothing_grown : (n : ℕ) (before now : Said) (lines : List (List ℕ)) (line : List ℕ) → lines ≡ [] → now ≡ before → Grown n before lines insides.Nothing now line
nothing_grown n before now lines line e f =
    subst (λ (l : List (List ℕ)). Grown n before l insides.Nothing now line) (sym e) (subst (λ (u : Said). Grown n before [] insides.Nothing u line) (sym f) (outside_grown n before line (is_skipped line) refl))

grown : (i : Inside) (n : ℕ) (before now : Said) (lines : List (List ℕ)) (line : List ℕ) → IsOpen n before lines i now → Grown n before lines i now line
grown insides.Nothing n before now lines line h = nothing_grown n before now lines line h.0 h.1
grown (insides.Mqsc o) n before now lines line h = section_grown n before now lines o line h (is_only (codes "ENDMQSC") line) refl
grown (insides.Rules o) n before now lines line h = table_grown n before now lines o line h (is_only (codes "ENDRULES") line) refl
grown (insides.Script s) n before now lines line h = script_grown n before now lines s line h (is_skipped line) refl
grown insides.Steps n before now lines line h = steps_grown n before now lines line h (is_skipped line) refl

-- ---- one more line of a text

lines_more : (blocks : List (List (List ℕ))) (block : List (List ℕ)) → all_lines (blocks ++ block ∷ []) ≡ all_lines blocks ++ block
lines_more [] block = append-nil block
lines_more (other ∷ blocks) block = ap (λ (l : List (List ℕ)). other ++ l) (lines_more blocks block) ∙ sym (append_assoc other (all_lines blocks) block)

blocks_more : (blocks : List (List (List ℕ))) (n : ℕ) (s t u : Said) (block : List (List ℕ)) → AreBlocks n s blocks t → IsBlock (n + length (all_lines blocks)) t block u → AreBlocks n s (blocks ++ block ∷ []) u
blocks_more [] n s t u block h b =
    let k : n + 0 ≡ n = omega arith in
    (u, subst (λ (v : Said). IsBlock n v block u) h (subst (λ (m : ℕ). IsBlock m t block u) k b), refl)
blocks_more (other ∷ blocks) n s t u block (next, h, hs) b =
    let k : n + length (other ++ all_lines blocks) ≡ (n + length other) + length (all_lines blocks) = omega (arith, length-append other (all_lines blocks)) in
    (next, h, blocks_more blocks (n + length other) next t u block hs (subst (λ (m : ℕ). IsBlock m t block u) k b))

-- lines that stand, with one more
abbrev Next : List (List ℕ) → Inside → Said → List ℕ → Type 0
Next front i now line = ((j : Inside) × (next : Said) × Stand (front ++ line ∷ []) j next) ⊎ IsAtFault (length front + 1) i now line

next_by : (front : List (List ℕ)) (i : Inside) (now : Said) (line : List ℕ) → (h : Stand front i now) → Grown (length (all_lines h.blocks)) h.before h.behind i now line → Next front i now line
next_by front i now line h (inl g) =
    let whole : front ++ line ∷ [] ≡ all_lines h.blocks ++ (h.behind ++ line ∷ []) = ap (λ (l : List (List ℕ)). l ++ line ∷ []) h.whole ∙ append_assoc (all_lines h.blocks) h.behind (line ∷ []) in
    inl (g.inside, g.now, record { blocks = h.blocks; before = h.before; behind = h.behind ++ line ∷ []; whole = whole; are = h.are; opens = g.opens })
next_by front i now line h (inr (inl g)) =
    let block : List (List ℕ) = h.behind ++ line ∷ [] in
    let whole : front ++ line ∷ [] ≡ all_lines (h.blocks ++ block ∷ []) ++ [] =
    ap (λ (l : List (List ℕ)). l ++ line ∷ []) h.whole ∙ append_assoc (all_lines h.blocks) h.behind (line ∷ []) ∙ sym (lines_more h.blocks block) ∙ sym (append-nil (all_lines (h.blocks ++ block ∷ []))) in
    let zero : length (all_lines h.blocks) ≡ 0 + length (all_lines h.blocks) = omega arith in
    let from_start : IsBlock (0 + length (all_lines h.blocks)) h.before block g.after = subst (λ (m : ℕ). IsBlock m h.before block g.after) zero g.block in
    inl (insides.Nothing, g.after, record { blocks = h.blocks ++ block ∷ []; before = g.after; behind = []; whole = whole; are = blocks_more h.blocks 0 nothing_said h.before g.after block h.are from_start; opens = (refl, refl) })
next_by front i now line h (inr (inr g)) =
    let k : length (all_lines h.blocks) + length h.behind + 1 ≡ length front + 1 = omega (arith, ap length h.whole, length-append (all_lines h.blocks) h.behind) in
    inr (record { fault = g.fault; bad = subst (λ (m : ℕ). IsBadLine m i now line g.fault) k g.bad })

next : (front : List (List ℕ)) (i : Inside) (now : Said) (line : List ℕ) → Stand front i now → Next front i now line
next front i now line h = next_by front i now line h (grown i (length (all_lines h.blocks)) h.before now h.behind line h.opens)

-- ---- whole texts

abbrev pub Either : List ℕ → Type 0
Either text = ((s : Scenario) × IsText text s) ⊎ ((fault : ScenarioFault) × IsTextFault text fault)

record Told (i : Inside) (now : Said) (other : ScenarioFault) : Type 0 where
  pub fault : ScenarioFault
  pub cut_off : IsCut i now other fault

cut_by : (i : Inside) (now : Said) (other : ScenarioFault) (r : Result (Unit {0}) ScenarioFault) → section_cut i now.scenario ≡ r → Told i now other
cut_by i now other (Ok done) e = record { fault = other; cut_off = inr ((λ own h. absurd (let f : ok_cut ≡ err_cut own = sym e ∙ own_cut_is i now.scenario own h in cc)), refl) }
cut_by i now other (Err fault) e = record { fault = fault; cut_off = inl (own_cut_found i now.scenario fault e) }

told : (i : Inside) (now : Said) (other : ScenarioFault) → Told i now other
told i now other = cut_by i now other (section_cut i now.scenario) refl

unended : (text : List ℕ) (i : Inside) (now : Said) → length (lines_of text) ≤ 40000 → Stand (lines_of text) i now → (now.stage ≡ stages.Steps → i ≡ insides.Nothing → ⊥) → Either text
unended text i now le h not_over =
    let t = told i now (faults.BadLine (line_in (length (lines_of text)) 1) causes.Ending) in
    inr (t.fault, inr (inr (record { inside = i; now = now; few = le; stand = h; unended = not_over; cut_off = t.cut_off })))

whole : (text : List ℕ) (now : Said) → length (lines_of text) ≤ 40000 → Stand (lines_of text) insides.Nothing now → now.stage ≡ stages.Steps → Either text
whole text now le h e =
    let all : lines_of text ≡ all_lines h.blocks = h.whole ∙ ap (λ (l : List (List ℕ)). all_lines h.blocks ++ l) h.opens.0 ∙ append-nil (all_lines h.blocks) in
    inl (now.scenario, record { blocks = h.blocks; end = now; whole = all; few = le; are = subst (AreBlocks 0 nothing_said h.blocks) (sym h.opens.1) h.are; last = e; is = refl })

outside_end : (text : List ℕ) (now : Said) → length (lines_of text) ≤ 40000 → Stand (lines_of text) insides.Nothing now → (stage : Stage) → now.stage ≡ stage → Either text
outside_end text now le h stages.Steps e = whole text now le h e
outside_end text now le h stages.Start e = unended text insides.Nothing now le h (λ f g. absurd (let x : stages.Start ≡ stages.Steps = sym e ∙ f in cc))
outside_end text now le h stages.Network e = unended text insides.Nothing now le h (λ f g. absurd (let x : stages.Network ≡ stages.Steps = sym e ∙ f in cc))
outside_end text now le h stages.Moment e = unended text insides.Nothing now le h (λ f g. absurd (let x : stages.Moment ≡ stages.Steps = sym e ∙ f in cc))
outside_end text now le h stages.Managers e = unended text insides.Nothing now le h (λ f g. absurd (let x : stages.Managers ≡ stages.Steps = sym e ∙ f in cc))
outside_end text now le h stages.Cables e = unended text insides.Nothing now le h (λ f g. absurd (let x : stages.Cables ≡ stages.Steps = sym e ∙ f in cc))
outside_end text now le h stages.Sections e = unended text insides.Nothing now le h (λ f g. absurd (let x : stages.Sections ≡ stages.Steps = sym e ∙ f in cc))

end : (text : List ℕ) (i : Inside) (now : Said) → length (lines_of text) ≤ 40000 → Stand (lines_of text) i now → Either text
end text insides.Nothing now le h = outside_end text now le h now.stage refl
end text (insides.Mqsc o) now le h = unended text (insides.Mqsc o) now le h (λ f g. absurd cc)
end text (insides.Rules o) now le h = unended text (insides.Rules o) now le h (λ f g. absurd cc)
end text (insides.Script s) now le h = unended text (insides.Script s) now le h (λ f g. absurd cc)
end text insides.Steps now le h = unended text insides.Steps now le h (λ f g. absurd cc)

below : (n : ℕ) → nat_lt n 40000 ≡ true → n < 40000
below n e = grind (arith, nat_tests)

reached : (n : ℕ) → n ≤ 40000 → nat_lt n 40000 ≡ false → n ≡ 40000
reached n le e = grind (arith, nat_tests)

too_many : (text : List ℕ) (front later : List (List ℕ)) (line : List ℕ) (i : Inside) (now : Said) → lines_of text ≡ front ++ line ∷ later → length front ≡ 40000 → Stand front i now → Either text
too_many text front later line i now e n h =
    let t = told i now (faults.Limit 40001 limits.Lines) in
    inr (t.fault, inr (inl (record { front = front; line = line; later = later; inside = i; now = now; whole = e; many = n; stand = h; cut_off = t.cut_off })))

-- lines behind those that stand
abbrev More : List ℕ → List (List ℕ) → Type 0
More text later = (front : List (List ℕ)) (i : Inside) (now : Said) → lines_of text ≡ front ++ later → length front ≤ 40000 → Stand front i now → Either text

go_on : (later front : List (List ℕ)) (line : List ℕ) (text : List ℕ) (i : Inside) (now : Said) → More text later → lines_of text ≡ front ++ line ∷ later → length front < 40000 → Stand front i now → Next front i now line → Either text
go_on later front line text i now more e lt h (inl (j, after, s)) =
    let whole : lines_of text ≡ (front ++ line ∷ []) ++ later = e ∙ sym (append_assoc front (line ∷ []) later) in
    more (front ++ line ∷ []) j after whole (omega (arith, lt, length-append front (line ∷ []))) s
go_on later front line text i now more e lt h (inr g) =
    inr (g.fault, inl (record { front = front; line = line; later = later; inside = i; now = now; whole = e; few = lt; stand = h; bad = g.bad }))

go_at : (later front : List (List ℕ)) (line : List ℕ) (text : List ℕ) (i : Inside) (now : Said) → More text later → lines_of text ≡ front ++ line ∷ later → length front ≤ 40000 → Stand front i now → (b : Bool) → nat_lt (length front) 40000 ≡ b → Either text
go_at later front line text i now more e le h true b = go_on later front line text i now more e (below (length front) b) h (next front i now line h)
go_at later front line text i now more e le h false b = too_many text front later line i now e (reached (length front) le b) h

go : (later : List (List ℕ)) (text : List ℕ) → More text later
go [] text front i now e le h =
    let all : lines_of text ≡ front = e ∙ append-nil front in
    end text i now (subst (λ (l : List (List ℕ)). length l ≤ 40000) (sym all) le) (subst (λ (l : List (List ℕ)). Stand l i now) (sym all) h)
go (line ∷ later) text front i now e le h = go_at later front line text i now (go later text) e le h (nat_lt (length front) 40000) refl

start : Stand [] insides.Nothing nothing_said
start = record { blocks = []; before = nothing_said; behind = []; whole = refl; are = refl; opens = (refl, refl) }

pub text_either : (text : List ℕ) → Either text
text_either text = go (lines_of text) text [] insides.Nothing nothing_said refl (omega arith) start

-- ---- what is read is written

found_by : (text : List ℕ) (s : Scenario) → Either text → scenario_of text ≡ ok_scenario s → IsText text s
found_by text s (inl (other, h)) e =
    let f : ok_scenario other ≡ ok_scenario s = sym (text_read text other h) ∙ e in
    let same : other ≡ s = cc in
    subst (IsText text) same h
found_by text s (inr (fault, h)) e = absurd (let f : err_scenario fault ≡ ok_scenario s = sym (fault_read text fault h) ∙ e in cc)

pub text_found : (text : List ℕ) (s : Scenario) → scenario_of text ≡ ok_scenario s → IsText text s
text_found text s e = found_by text s (text_either text) e

fault_by : (text : List ℕ) (fault : ScenarioFault) → Either text → scenario_of text ≡ err_scenario fault → IsTextFault text fault
fault_by text fault (inl (s, h)) e = absurd (let f : ok_scenario s ≡ err_scenario fault = sym (text_read text s h) ∙ e in cc)
fault_by text fault (inr (other, h)) e =
    let f : err_scenario other ≡ err_scenario fault = sym (fault_read text other h) ∙ e in
    let same : other ≡ fault = cc in
    subst (IsTextFault text) same h

pub fault_found : (text : List ℕ) (fault : ScenarioFault) → scenario_of text ≡ err_scenario fault → IsTextFault text fault
fault_found text fault e = fault_by text fault (text_either text) e

pub one_scenario : (text : List ℕ) (s other : Scenario) → IsText text s → IsText text other → s ≡ other
one_scenario text s other h g = let f : ok_scenario s ≡ ok_scenario other = sym (text_read text s h) ∙ text_read text other g in cc

pub one_fault : (text : List ℕ) (fault other : ScenarioFault) → IsTextFault text fault → IsTextFault text other → fault ≡ other
one_fault text fault other h g = let f : err_scenario fault ≡ err_scenario other = sym (fault_read text fault h) ∙ fault_read text other g in cc

pub never_both : (text : List ℕ) (s : Scenario) (fault : ScenarioFault) → IsText text s → IsTextFault text fault → ⊥
never_both text s fault h g = absurd (let f : ok_scenario s ≡ err_scenario fault = sym (text_read text s h) ∙ fault_read text fault g in cc)
