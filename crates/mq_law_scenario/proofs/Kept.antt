-- What a scenario that is read keeps to: block by block, names and labels differ and all that is named is there.
use Rattle.std.proofs.Common.{◌≡◌, ◌≢◌, ℕ, ◌+◌, ◌<◌, ◌≤◌, Bool, true, false, cond, List, [], ◌∷◌, ◌++◌, length, map, refl, sym, ap, subst, ◌∙◌, append_assoc, arith, inl, inr}
use Rattle.std.specs.Prelude.{nat_lt, IfSome, Option, Some, None}
use Rattle.std.proofs.lemmas.List.{length-append, map-append}
use Rattle.std.proofs.lemmas.Bool.Decides.{nat_tests}
use Rattle.mq_history.specs.declared.scenario.Scenario.{Scenario}
use Rattle.mq_history.specs.declared.scenario.ManagerLine.{ManagerLine}
use Rattle.mq_history.specs.declared.scenario.CableLine.{CableLine}
use Rattle.mq_history.specs.declared.scenario.Section.{Section}
use Rattle.mq_history.specs.declared.scenario.RulesPart.{RulesPart}
use Rattle.mq_history.specs.declared.scenario.ScriptPart.{ScriptPart}
use Rattle.mq_history.specs.declared.scenario.MonitorLine.{MonitorLine}
use Rattle.mq_history.specs.declared.scenario.Step.{Step}
use Rattle.mq_history.specs.Scenarios.{IsManager, IsCable, IsStep, IsScenario, labels}
use Rattle.mq_scn_lines.specs.declared.fault.Limit.{Limit}
use Rattle.mq_scn_lines.specs.declared.fault.Limit.TheVariants as limits
use Rattle.mq_scn_heading.specs.declared.parts.PartWord.{PartWord}
use Rattle.mq_scn_heading.specs.declared.parts.PartWord.TheVariants as words
use Rattle.mq_scn_heading.specs.declared.parts.Stage.{Stage}
use Rattle.mq_scn_heading.specs.declared.parts.Stage.TheVariants as stages
use Rattle.mq_scn_heading.specs.declared.heading.PartLine.{PartLine}
use Rattle.mq_scn_heading.specs.declared.heading.PartLine.TheVariants as parts
use Rattle.mq_scn_text.specs.declared.sections.Opened.{Opened}
use Rattle.mq_scn_text.specs.declared.scripts.Script.{Script}
use Rattle.mq_scn_text.specs.declared.reading.Inside.{Inside}
use Rattle.mq_scn_text.specs.declared.reading.Inside.TheVariants as insides
use Rattle.mq_scn_heading.specs.Parts.{stage_rank, from_stage, room_of}
use Rattle.mq_scn_text.specs.Scripts.{new_script}
use Rattle.mq_law_scenario.proofs.SectionReads.{section_is}
use Rattle.mq_law_scenario.proofs.TableReads.{part_is}
use Rattle.mq_law_scenario.specs.Texts.{Said, nothing_said, Begins, Adds, IsOpenSection, IsOpenTable, IsOpenScript, AreOpenSteps, AreStepped, IsOpen, Ends, IsBlock, AreBlocks, IsText}
use Rattle.mq_law_scenario.proofs.Each.{Each, each_more, each_map, each_all, Apart, apart_insert, apart_more, apart_all}
use Rattle.mq_law_scenario.proofs.Said.{Joins, IsOwned, names, channels, IsAllowed, IsSaid, line_said}
use Rattle.mq_law_scenario.proofs.StepKept.{StepIn, Named, step_is, IsScriptOf, spoken_kept, section_kept, table_kept, step_kept}

-- what holds at each stage: of the steps, for which there must be managers and the other parts,
record KeepsSteps (stage : Stage) (m a b c d : ℕ) (ss : List Step) : Type 0 where
  pub some : 3 ≤ stage_rank stage → 1 ≤ m
  pub stepless : stage_rank stage ≤ 5 → ss ≡ []
  pub few : length ss ≤ 3000
  pub are : Each (StepIn m a b c d) ss

-- of the moment, the managers and their cables,
record KeepsNetwork (moment_ : Option ℕ) (ms : List ManagerLine) (cs : List CableLine) : Type 0 where
  pub moment : IfSome moment_ (λ moment. moment ≤ 253300000000000)
  pub few_managers : length ms ≤ 8
  pub managers : Each IsManager ms
  pub differ : Apart (map (λ (l : ManagerLine). l.name) ms)
  pub few_cables : length cs ≤ 32
  pub cables : Each (Joins (length ms)) cs
  pub channelled : Apart (map (λ (l : CableLine). l.channel) cs)

-- of sections and rules tables, of scripts and of monitors, where there are so many managers,
record KeepsTexts (m : ℕ) (ps : List Section) (qs : List RulesPart) : Type 0 where
  pub few : length ps + length qs ≤ 64
  pub sections : Each (λ (p : Section). p.manager < m) ps
  pub rules : Each (λ (p : RulesPart). p.manager < m) qs

record KeepsScripts (m : ℕ) (ps : List ScriptPart) : Type 0 where
  pub few : length ps ≤ 64
  pub are : Each (λ (p : ScriptPart). (p.manager < m) × (length p.lines ≤ 25000)) ps

record KeepsMonitors (m : ℕ) (ps : List MonitorLine) : Type 0 where
  pub few : length ps ≤ 16
  pub are : Each (λ (p : MonitorLine). p.manager < m) ps

-- and of their labels
record Keeps (stage : Stage) (s : Scenario) : Type 0 where
  pub steps : KeepsSteps stage (length s.managers) (length s.sections) (length s.rules) (length s.scripts) (length s.monitors) s.steps
  pub network : KeepsNetwork s.moment s.managers s.cables
  pub texts : KeepsTexts (length s.managers) s.sections s.rules
  pub scripts : KeepsScripts (length s.managers) s.scripts
  pub monitors : KeepsMonitors (length s.managers) s.monitors
  pub labelled : Apart (labels s)

start : Keeps stages.Start nothing_said.scenario
start = record {
  steps = record { some = λ le. absurd (omega arith); stepless = λ le. refl; few = omega arith; are = tt };
  network = record { moment = tt; few_managers = omega arith; managers = tt; differ = tt; few_cables = omega arith; cables = tt; channelled = tt };
  texts = record { few = omega arith; sections = tt; rules = tt };
  scripts = record { few = omega arith; are = tt };
  monitors = record { few = omega arith; are = tt };
  labelled = tt;
}

-- where there is no step yet
unbegun : (stage : Stage) (m a b c d : ℕ) (ss : List Step) → ss ≡ [] → (3 ≤ stage_rank stage → 1 ≤ m) → KeepsSteps stage m a b c d ss
unbegun stage m a b c d ss e some = subst (KeepsSteps stage m a b c d) (sym e) (record { some = some; stepless = λ le. refl; few = omega arith; are = tt })

-- ---- room

room_by : (count most : ℕ) (limit : Limit) (t : Bool) → nat_lt count most ≡ t → cond t None (Some limit) ≡ None → count < most
room_by count most limit true e f = grind (arith, nat_tests)
room_by count most limit false e f = absurd cc

has_room : (count most : ℕ) (limit : Limit) → room_of count most limit ≡ None → count < most
has_room count most limit e = room_by count most limit (nat_lt count most) refl e

one_longer : {A : Type 0} (xs : List A) (x : A) → length (xs ++ x ∷ []) ≡ length xs + 1
one_longer xs x = length-append xs (x ∷ [])

-- ---- the stage behind a part

-- no step stands before the last part, and a manager stands before all parts but the first
passed : (word : PartWord) (s : Scenario) (stage next : Stage) → Keeps stage s → IsAllowed s stage word next → s.steps ≡ []
passed words.Network s stage next h a = h.steps.stepless (omega (arith, a.passed))
passed words.Moment s stage next h a = h.steps.stepless (omega (arith, a.passed))
passed words.Manager s stage next h a = h.steps.stepless (omega (arith, a.passed))
passed words.Cable s stage next h a = h.steps.stepless (omega (arith, a.passed))
passed words.Mqsc s stage next h a = h.steps.stepless (omega (arith, a.passed))
passed words.Rules s stage next h a = h.steps.stepless (omega (arith, a.passed))
passed words.Script s stage next h a = h.steps.stepless (omega (arith, a.passed))
passed words.Monitor s stage next h a = h.steps.stepless (omega (arith, a.passed))
passed words.Steps s stage next h a = h.steps.stepless (omega (arith, a.passed))

-- the same scenario at another stage
moved : (stage next : Stage) (s : Scenario) → Keeps stage s → s.steps ≡ [] → (3 ≤ stage_rank next → 1 ≤ length s.managers) → Keeps next s
moved stage next s h e some = record {
  steps = unbegun next (length s.managers) (length s.sections) (length s.rules) (length s.scripts) (length s.monitors) s.steps e some;
  network = h.network;
  texts = h.texts;
  scripts = h.scripts;
  monitors = h.monitors;
  labelled = h.labelled;
}

-- a part that stands behind the managers
behind_managers : (word : PartWord) (s : Scenario) (stage next : Stage) → 3 ≤ stage_rank (from_stage word) → Keeps stage s → IsAllowed s stage word next → Keeps next s
behind_managers word s stage next from h a = moved stage next s h (passed word s stage next h a) (λ le. h.steps.some (omega (arith, from, a.begun)))

-- ---- parts of one line

network_kept : (s : Scenario) (stage next : Stage) → Keeps stage s → IsAllowed s stage words.Network next → Keeps next s
network_kept s stage next h a =
    let k : stage_rank next ≡ 1 = ap stage_rank a.is in
    moved stage next s h (passed words.Network s stage next h a) (λ le. absurd (omega (arith, k, le)))

moment_kept : (s : Scenario) (stage next : Stage) (moment : ℕ) → Keeps stage s → IsAllowed s stage words.Moment next → moment ≤ 253300000000000 → Keeps next (record s { moment = Some moment })
moment_kept s stage next moment h a le =
    let k : stage_rank next ≡ 2 = ap stage_rank a.is in
    let n = h.network in
    record {
      steps = unbegun next (length s.managers) (length s.sections) (length s.rules) (length s.scripts) (length s.monitors) s.steps (passed words.Moment s stage next h a) (λ l. absurd (omega (arith, k, l)));
      network = record { moment = le; few_managers = n.few_managers; managers = n.managers; differ = n.differ; few_cables = n.few_cables; cables = n.cables; channelled = n.channelled };
      texts = h.texts;
      scripts = h.scripts;
      monitors = h.monitors;
      labelled = h.labelled;
    }

wider : (n m : ℕ) (c : CableLine) → n ≤ m → Joins n c → Joins m c
wider n m c le j = record { sender = omega (arith, le, j.sender); receiver = omega (arith, le, j.receiver); differ = j.differ }

manager_kept : (s : Scenario) (stage next : Stage) (m : ManagerLine) → Keeps stage s → IsAllowed s stage words.Manager next → IsManager m → Each (λ y. m.name ≢ y) (names s) → Keeps next (record s { managers = s.managers ++ m ∷ [] })
manager_kept s stage next m h a is new =
    let long : length (s.managers ++ m ∷ []) ≡ length s.managers + 1 = one_longer s.managers m in
    let room : length s.managers < 8 = has_room (length s.managers) 8 limits.Managers a.room in
    let less : length s.managers ≤ length (s.managers ++ m ∷ []) = omega (arith, long) in
    let n = h.network in
    record {
      steps = unbegun next (length (s.managers ++ m ∷ [])) (length s.sections) (length s.rules) (length s.scripts) (length s.monitors) s.steps (passed words.Manager s stage next h a) (λ l. omega (arith, long));
      network = record {
        moment = n.moment;
        few_managers = omega (arith, long, room);
        managers = each_more IsManager s.managers m n.managers is;
        differ = subst Apart (sym (map-append (λ (l : ManagerLine). l.name) s.managers (m ∷ []))) (apart_more (names s) m.name n.differ new);
        few_cables = n.few_cables;
        cables = each_map (Joins (length s.managers)) (Joins (length (s.managers ++ m ∷ []))) s.cables (λ c j. wider (length s.managers) (length (s.managers ++ m ∷ [])) c less j) n.cables;
        channelled = n.channelled;
      };
      texts = record {
        few = h.texts.few;
        sections = each_map (λ (p : Section). p.manager < length s.managers) (λ (p : Section). p.manager < length (s.managers ++ m ∷ [])) s.sections (λ p l. omega (arith, less, l)) h.texts.sections;
        rules = each_map (λ (p : RulesPart). p.manager < length s.managers) (λ (p : RulesPart). p.manager < length (s.managers ++ m ∷ [])) s.rules (λ p l. omega (arith, less, l)) h.texts.rules;
      };
      scripts = record {
        few = h.scripts.few;
        are = each_map (λ (p : ScriptPart). (p.manager < length s.managers) × (length p.lines ≤ 25000)) (λ (p : ScriptPart). (p.manager < length (s.managers ++ m ∷ [])) × (length p.lines ≤ 25000)) s.scripts (λ p l. (omega (arith, less, l.0), l.1)) h.scripts.are;
      };
      monitors = record { few = h.monitors.few; are = each_map (λ (p : MonitorLine). p.manager < length s.managers) (λ (p : MonitorLine). p.manager < length (s.managers ++ m ∷ [])) s.monitors (λ p l. omega (arith, less, l)) h.monitors.are };
      labelled = h.labelled;
    }

cable_kept : (s : Scenario) (stage next : Stage) (c : CableLine) → Keeps stage s → IsAllowed s stage words.Cable next → Joins (length s.managers) c → Each (λ y. c.channel ≢ y) (channels s) → Keeps next (record s { cables = s.cables ++ c ∷ [] })
cable_kept s stage next c h a joins new =
    let k = behind_managers words.Cable s stage next (omega arith) h a in
    let long : length (s.cables ++ c ∷ []) ≡ length s.cables + 1 = one_longer s.cables c in
    let room : length s.cables < 32 = has_room (length s.cables) 32 limits.Cables a.room in
    let n = h.network in
    record {
      steps = k.steps;
      network = record {
        moment = n.moment;
        few_managers = n.few_managers;
        managers = n.managers;
        differ = n.differ;
        few_cables = omega (arith, long, room);
        cables = each_more (Joins (length s.managers)) s.cables c n.cables joins;
        channelled = subst Apart (sym (map-append (λ (l : CableLine). l.channel) s.cables (c ∷ []))) (apart_more (channels s) c.channel n.channelled new);
      };
      texts = h.texts;
      scripts = h.scripts;
      monitors = h.monitors;
      labelled = h.labelled;
    }

-- ---- labels

inserted : (xs ys all new : List (List ℕ)) (x : List ℕ) → all ≡ xs ++ ys → new ≡ xs ++ x ∷ ys → Apart all → Each (λ y. x ≢ y) all → Apart new
inserted xs ys all new x e f h n = subst Apart (sym f) (apart_insert xs ys x (subst Apart e h) (subst (Each (λ y. x ≢ y)) e n))

abbrev section_labels : List Section → List (List ℕ)
section_labels ps = map (λ (p : Section). p.label) ps

abbrev rules_labels : List RulesPart → List (List ℕ)
rules_labels ps = map (λ (p : RulesPart). p.label) ps

abbrev script_labels : List ScriptPart → List (List ℕ)
script_labels ps = map (λ (p : ScriptPart). p.label) ps

abbrev monitor_labels : List MonitorLine → List (List ℕ)
monitor_labels ps = map (λ (m : MonitorLine). m.label) ps

-- all labels, from the right
right_labels : (s : Scenario) → labels s ≡ section_labels s.sections ++ (rules_labels s.rules ++ (script_labels s.scripts ++ monitor_labels s.monitors))
right_labels s =
    let a : List (List ℕ) = section_labels s.sections in
    let b : List (List ℕ) = rules_labels s.rules in
    let c : List (List ℕ) = script_labels s.scripts in
    let d : List (List ℕ) = monitor_labels s.monitors in
    append_assoc (a ++ b) c d ∙ append_assoc a b (c ++ d)

section_labelled : (s : Scenario) (p : Section) → Apart (labels s) → Each (λ y. p.label ≢ y) (labels s) → Apart (labels (record s { sections = s.sections ++ p ∷ [] }))
section_labelled s p h n =
    let t : Scenario = record s { sections = s.sections ++ p ∷ [] } in
    let a : List (List ℕ) = section_labels s.sections in
    let rest : List (List ℕ) = rules_labels s.rules ++ (script_labels s.scripts ++ monitor_labels s.monitors) in
    let new : labels t ≡ a ++ p.label ∷ rest = right_labels t ∙ ap (λ (l : List (List ℕ)). l ++ rest) (map-append (λ (q : Section). q.label) s.sections (p ∷ [])) ∙ append_assoc a (p.label ∷ []) rest in
    inserted a rest (labels s) (labels t) p.label (right_labels s) new h n

rules_labelled : (s : Scenario) (p : RulesPart) → Apart (labels s) → Each (λ y. p.label ≢ y) (labels s) → Apart (labels (record s { rules = s.rules ++ p ∷ [] }))
rules_labelled s p h n =
    let t : Scenario = record s { rules = s.rules ++ p ∷ [] } in
    let a : List (List ℕ) = section_labels s.sections in
    let b : List (List ℕ) = rules_labels s.rules in
    let rest : List (List ℕ) = script_labels s.scripts ++ monitor_labels s.monitors in
    let all : labels s ≡ (a ++ b) ++ rest = right_labels s ∙ sym (append_assoc a b rest) in
    let new : labels t ≡ (a ++ b) ++ p.label ∷ rest =
    right_labels t ∙ ap (λ (l : List (List ℕ)). a ++ (l ++ rest)) (map-append (λ (q : RulesPart). q.label) s.rules (p ∷ [])) ∙ ap (λ (l : List (List ℕ)). a ++ l) (append_assoc b (p.label ∷ []) rest) ∙ sym (append_assoc a b (p.label ∷ rest)) in
    inserted (a ++ b) rest (labels s) (labels t) p.label all new h n

script_labelled : (s : Scenario) (p : ScriptPart) → Apart (labels s) → Each (λ y. p.label ≢ y) (labels s) → Apart (labels (record s { scripts = s.scripts ++ p ∷ [] }))
script_labelled s p h n =
    let t : Scenario = record s { scripts = s.scripts ++ p ∷ [] } in
    let front : List (List ℕ) = section_labels s.sections ++ rules_labels s.rules in
    let c : List (List ℕ) = script_labels s.scripts in
    let rest : List (List ℕ) = monitor_labels s.monitors in
    let new : labels t ≡ (front ++ c) ++ p.label ∷ rest =
    ap (λ (l : List (List ℕ)). (front ++ l) ++ rest) (map-append (λ (q : ScriptPart). q.label) s.scripts (p ∷ []))
    ∙ ap (λ (l : List (List ℕ)). l ++ rest) (sym (append_assoc front c (p.label ∷ [])))
    ∙ append_assoc (front ++ c) (p.label ∷ []) rest in
    inserted (front ++ c) rest (labels s) (labels t) p.label refl new h n

monitor_labelled : (s : Scenario) (m : MonitorLine) → Apart (labels s) → Each (λ y. m.label ≢ y) (labels s) → Apart (labels (record s { monitors = s.monitors ++ m ∷ [] }))
monitor_labelled s m h n =
    let t : Scenario = record s { monitors = s.monitors ++ m ∷ [] } in
    let front : List (List ℕ) = (section_labels s.sections ++ rules_labels s.rules) ++ script_labels s.scripts in
    let d : List (List ℕ) = monitor_labels s.monitors in
    let new : labels t ≡ labels s ++ m.label ∷ [] =
    ap (λ (l : List (List ℕ)). front ++ l) (map-append (λ (q : MonitorLine). q.label) s.monitors (m ∷ [])) ∙ sym (append_assoc front d (m.label ∷ [])) in
    subst Apart (sym new) (apart_more (labels s) m.label h n)

monitor_kept : (s : Scenario) (stage next : Stage) (m : MonitorLine) → Keeps stage s → IsAllowed s stage words.Monitor next → IsOwned s m.label m.manager → Keeps next (record s { monitors = s.monitors ++ m ∷ [] })
monitor_kept s stage next m h a owned =
    let k = behind_managers words.Monitor s stage next (omega arith) h a in
    let long : length (s.monitors ++ m ∷ []) ≡ length s.monitors + 1 = one_longer s.monitors m in
    let room : length s.monitors < 16 = has_room (length s.monitors) 16 limits.Monitors a.room in
    record {
      steps = unbegun next (length s.managers) (length s.sections) (length s.rules) (length s.scripts) (length (s.monitors ++ m ∷ [])) s.steps (passed words.Monitor s stage next h a) k.steps.some;
      network = h.network;
      texts = h.texts;
      scripts = h.scripts;
      monitors = record { few = omega (arith, long, room); are = each_more (λ (p : MonitorLine). p.manager < length s.managers) s.monitors m h.monitors.are owned.there };
      labelled = monitor_labelled s m h.labelled owned.new;
    }

part_kept : (part : PartLine) (s t : Scenario) (stage next : Stage) → Keeps stage s → IsSaid s stage next part → Adds part s t → Keeps next t
part_kept parts.Network s t stage next h a e = subst (Keeps next) (sym e) (network_kept s stage next h a.order)
part_kept (parts.Moment moment) s t stage next h a e = subst (Keeps next) (sym e) (moment_kept s stage next moment h a.order a.good)
part_kept (parts.Manager m) s t stage next h a e = subst (Keeps next) (sym e) (manager_kept s stage next m h a.order a.good.0 a.good.1)
part_kept (parts.Cable c) s t stage next h a e = subst (Keeps next) (sym e) (cable_kept s stage next c h a.order a.good.0 a.good.1)
part_kept (parts.Monitor m) s t stage next h a e = subst (Keeps next) (sym e) (monitor_kept s stage next m h a.order a.good)
part_kept (parts.Mqsc label manager) s t stage next h a e = absurd e
part_kept (parts.Rules label manager) s t stage next h a e = absurd e
part_kept (parts.Script label manager) s t stage next h a e = absurd e
part_kept parts.Steps s t stage next h a e = absurd e

-- ---- parts of several lines

-- a section that is whole
section_added : (s : Scenario) (stage next : Stage) (p : Section) (label : List ℕ) (manager : ℕ) → Keeps stage s → IsSaid s stage next (parts.Mqsc label manager) → p.label ≡ label → p.manager ≡ manager → Keeps next (record s { sections = s.sections ++ p ∷ [] })
section_added s stage next p label manager h a e f =
    let k = behind_managers words.Mqsc s stage next (omega arith) h a.order in
    let long : length (s.sections ++ p ∷ []) ≡ length s.sections + 1 = one_longer s.sections p in
    let room : length s.sections + length s.rules < 64 = has_room (length s.sections + length s.rules) 64 limits.Sections a.order.room in
    record {
      steps = unbegun next (length s.managers) (length (s.sections ++ p ∷ [])) (length s.rules) (length s.scripts) (length s.monitors) s.steps (passed words.Mqsc s stage next h a.order) k.steps.some;
      network = h.network;
      texts = record { few = omega (arith, long, room); sections = each_more (λ (q : Section). q.manager < length s.managers) s.sections p h.texts.sections (subst (λ (n : ℕ). n < length s.managers) (sym f) a.good.there); rules = h.texts.rules };
      scripts = h.scripts;
      monitors = h.monitors;
      labelled = section_labelled s p h.labelled (subst (λ (l : List ℕ). Each (λ y. l ≢ y) (labels s)) (sym e) a.good.new);
    }

table_added : (s : Scenario) (stage next : Stage) (p : RulesPart) (label : List ℕ) (manager : ℕ) → Keeps stage s → IsSaid s stage next (parts.Rules label manager) → p.label ≡ label → p.manager ≡ manager → Keeps next (record s { rules = s.rules ++ p ∷ [] })
table_added s stage next p label manager h a e f =
    let k = behind_managers words.Rules s stage next (omega arith) h a.order in
    let long : length (s.rules ++ p ∷ []) ≡ length s.rules + 1 = one_longer s.rules p in
    let room : length s.sections + length s.rules < 64 = has_room (length s.sections + length s.rules) 64 limits.Sections a.order.room in
    record {
      steps = unbegun next (length s.managers) (length s.sections) (length (s.rules ++ p ∷ [])) (length s.scripts) (length s.monitors) s.steps (passed words.Rules s stage next h a.order) k.steps.some;
      network = h.network;
      texts = record { few = omega (arith, long, room); sections = h.texts.sections; rules = each_more (λ (q : RulesPart). q.manager < length s.managers) s.rules p h.texts.rules (subst (λ (n : ℕ). n < length s.managers) (sym f) a.good.there) };
      scripts = h.scripts;
      monitors = h.monitors;
      labelled = rules_labelled s p h.labelled (subst (λ (l : List ℕ). Each (λ y. l ≢ y) (labels s)) (sym e) a.good.new);
    }

script_added_kept : (s : Scenario) (stage next : Stage) (u : Script) (label : List ℕ) (manager : ℕ) → Keeps stage s → IsSaid s stage next (parts.Script label manager) → IsScriptOf label manager u → Keeps next (record s { scripts = s.scripts ++ u.part ∷ [] })
script_added_kept s stage next u label manager h a of =
    let k = behind_managers words.Script s stage next (omega arith) h a.order in
    let long : length (s.scripts ++ u.part ∷ []) ≡ length s.scripts + 1 = one_longer s.scripts u.part in
    let room : length s.scripts < 64 = has_room (length s.scripts) 64 limits.Scripts a.order.room in
    record {
      steps = unbegun next (length s.managers) (length s.sections) (length s.rules) (length (s.scripts ++ u.part ∷ [])) (length s.monitors) s.steps (passed words.Script s stage next h a.order) k.steps.some;
      network = h.network;
      texts = h.texts;
      scripts = record { few = omega (arith, long, room); are = each_more (λ (q : ScriptPart). (q.manager < length s.managers) × (length q.lines ≤ 25000)) s.scripts u.part h.scripts.are (subst (λ (n : ℕ). n < length s.managers) (sym of.managed) a.good.there, of.few) };
      monitors = h.monitors;
      labelled = script_labelled s u.part h.labelled (subst (λ (l : List ℕ). Each (λ y. l ≢ y) (labels s)) (sym of.labelled) a.good.new);
    }

step_added : (s : Scenario) (step : Step) → Keeps stages.Steps s → length s.steps < 3000 → Named s step → Keeps stages.Steps (record s { steps = s.steps ++ step ∷ [] })
step_added s step h room named =
    let long : length (s.steps ++ step ∷ []) ≡ length s.steps + 1 = one_longer s.steps step in
    record {
      steps = record {
        some = h.steps.some;
        stepless = λ le. absurd (omega (arith, le));
        few = omega (arith, long, room);
        are = each_more (StepIn (length s.managers) (length s.sections) (length s.rules) (length s.scripts) (length s.monitors)) s.steps step h.steps.are named;
      };
      network = h.network;
      texts = h.texts;
      scripts = h.scripts;
      monitors = h.monitors;
      labelled = h.labelled;
    }

stepped_kept : (lines : List (List ℕ)) (s t : Scenario) → AreStepped s lines t → Keeps stages.Steps s → Keeps stages.Steps t
stepped_kept [] s t e h = subst (Keeps stages.Steps) (sym e) h
stepped_kept (line ∷ lines) s t (inl (e, hs)) h = stepped_kept lines s t hs h
stepped_kept (line ∷ lines) s t (inr (step, e, hs)) h =
    let k = step_kept s line step e.says in
    let few = e.room in
    stepped_kept lines (record s { steps = s.steps ++ step ∷ [] }) t hs (step_added s step h few k)

begins_said : (before : Said) (line : List ℕ) (stage : Stage) (part : PartLine) → Begins before line stage part → IsSaid before.scenario before.stage stage part
begins_said before line stage part b = line_said before.scenario before.stage stage line part b.says

-- ---- blocks

abbrev Kept : Said → Type 0
Kept b = Keeps b.stage b.scenario

mqsc_end_kept : (n k : ℕ) (before now after : Said) (lines : List (List ℕ)) (o : Opened) (line : List ℕ) → Kept before → IsOpenSection n before lines o now → Ends k (insides.Mqsc o) now line after → Kept after
mqsc_end_kept n k before now after lines o line h b (section, only, e, is) =
    let same = section_kept k o section (section_is k o section e) in
    let label : section.label ≡ b.label = same.0 ∙ ap (λ (u : Opened). u.label) b.opens in
    let manager : section.manager ≡ b.manager = same.1 ∙ ap (λ (u : Opened). u.manager) b.opens in
    let whole : Said = record { stage = b.stage; left = before.left; scenario = record before.scenario { sections = before.scenario.sections ++ section ∷ [] } } in
    let all : after ≡ whole = is ∙ ap (λ (u : Said). record u { scenario = record u.scenario { sections = u.scenario.sections ++ section ∷ [] } }) b.is in
    subst Kept (sym all) (section_added before.scenario before.stage b.stage section b.label b.manager h (begins_said before b.head b.stage (parts.Mqsc b.label b.manager) b.begins) label manager)

rules_end_kept : (n k : ℕ) (before now after : Said) (lines : List (List ℕ)) (o : Opened) (line : List ℕ) → Kept before → IsOpenTable n before lines o now → Ends k (insides.Rules o) now line after → Kept after
rules_end_kept n k before now after lines o line h b (part, only, e, is) =
    let same = table_kept _ o part (part_is _ o part e) in
    let label : part.label ≡ b.label = same.0 ∙ ap (λ (u : Opened). u.label) b.opens in
    let manager : part.manager ≡ b.manager = same.1 ∙ ap (λ (u : Opened). u.manager) b.opens in
    let whole : Said = record { stage = b.stage; left = before.left; scenario = record before.scenario { rules = before.scenario.rules ++ part ∷ [] } } in
    let all : after ≡ whole = is ∙ ap (λ (u : Said). record u { scenario = record u.scenario { rules = u.scenario.rules ++ part ∷ [] } }) b.is in
    subst Kept (sym all) (table_added before.scenario before.stage b.stage part b.label b.manager h (begins_said before b.head b.stage (parts.Rules b.label b.manager) b.begins) label manager)

script_end_kept : (k : ℕ) (before now after : Said) (lines : List (List ℕ)) (s : Script) (line : List ℕ) → Kept before → IsOpenScript before lines s now → Ends k (insides.Script s) now line after → Kept after
script_end_kept k before now after lines s line h b (unskipped, only, is) =
    let of = spoken_kept b.inner before.left (new_script b.label b.manager) b.left s b.label b.manager b.says (record { labelled = refl; managed = refl; few = omega arith }) in
    let whole : Said = record { stage = b.stage; left = b.left; scenario = record before.scenario { scripts = before.scenario.scripts ++ s.part ∷ [] } } in
    let all : after ≡ whole = is ∙ ap (λ (u : Said). record u { scenario = record u.scenario { scripts = u.scenario.scripts ++ s.part ∷ [] } }) b.is in
    subst Kept (sym all) (script_added_kept before.scenario before.stage b.stage s b.label b.manager h (begins_said before b.head b.stage (parts.Script b.label b.manager) b.begins) of)

steps_end_kept : (k : ℕ) (before now after : Said) (lines : List (List ℕ)) (line : List ℕ) → Kept before → AreOpenSteps before lines now → Ends k insides.Steps now line after → Kept after
steps_end_kept k before now after lines line h b (unskipped, only, is) =
    let said = begins_said before b.head b.stage parts.Steps b.begins in
    let stage : b.stage ≡ stages.Steps = said.order.is in
    let begun : Keeps stages.Steps before.scenario = subst (λ (t : Stage). Keeps t before.scenario) stage (behind_managers words.Steps before.scenario before.stage b.stage (omega arith) h said.order) in
    let ended : Keeps b.stage b.scenario = subst (λ (t : Stage). Keeps t b.scenario) (sym stage) (stepped_kept b.inner before.scenario b.scenario b.says begun) in
    subst Kept (sym (is ∙ b.is)) ended

end_kept : (i : Inside) (n k : ℕ) (before now after : Said) (lines : List (List ℕ)) (line : List ℕ) → Kept before → IsOpen n before lines i now → Ends k i now line after → Kept after
end_kept insides.Nothing n k before now after lines line h b e = absurd e
end_kept (insides.Mqsc o) n k before now after lines line h b e = mqsc_end_kept n k before now after lines o line h b e
end_kept (insides.Rules o) n k before now after lines line h b e = rules_end_kept n k before now after lines o line h b e
end_kept (insides.Script s) n k before now after lines line h b e = script_end_kept k before now after lines s line h b e
end_kept insides.Steps n k before now after lines line h b e = steps_end_kept k before now after lines line h b e

block_kept : (n : ℕ) (before after : Said) (lines : List (List ℕ)) → Kept before → IsBlock n before lines after → Kept after
block_kept n before after lines h (inl (line, whole, skipped, is)) = subst Kept (sym is) h
block_kept n before after lines h (inr (inl p)) = subst Kept (sym p.is) (part_kept p.part before.scenario p.scenario before.stage p.stage h (begins_said before p.line p.stage p.part p.begins) p.adds)
block_kept n before after lines h (inr (inr p)) = end_kept p.inside n (n + length p.front + 1) before p.now after p.front p.last h p.opens p.ends

blocks_kept : (blocks : List (List (List ℕ))) (n : ℕ) (before after : Said) → Kept before → AreBlocks n before blocks after → Kept after
blocks_kept [] n before after h e = subst Kept (sym e) h
blocks_kept (block ∷ blocks) n before after h (next, b, bs) = blocks_kept blocks (n + length block) next after (block_kept n before next block h b) bs

cable_is : (s : Scenario) (c : CableLine) → Joins (length s.managers) c → IsCable s c
cable_is s c j = record { sender = j.sender; receiver = j.receiver; apart = j.differ }

kept_is : (s : Scenario) → Keeps stages.Steps s → IsScenario s
kept_is s h =
    let n = h.network in
    record {
      few = record { managers = (h.steps.some (omega arith), n.few_managers); cables = n.few_cables; sections = h.texts.few; scripts = h.scripts.few; monitors = h.monitors.few; steps = h.steps.few };
      moment = n.moment;
      managers = each_all IsManager s.managers n.managers;
      names = apart_all (names s) n.differ;
      cables = each_all (IsCable s) s.cables (each_map (Joins (length s.managers)) (IsCable s) s.cables (λ c j. cable_is s c j) n.cables);
      channels = apart_all (channels s) n.channelled;
      labelled = apart_all (labels s) h.labelled;
      sections = each_all (λ (p : Section). p.manager < length s.managers) s.sections h.texts.sections;
      rules = each_all (λ (p : RulesPart). p.manager < length s.managers) s.rules h.texts.rules;
      scripts = each_all (λ (p : ScriptPart). (p.manager < length s.managers) × (length p.lines ≤ 25000)) s.scripts h.scripts.are;
      monitors = each_all (λ (m : MonitorLine). m.manager < length s.managers) s.monitors h.monitors.are;
      steps = each_all (IsStep s) s.steps (each_map (StepIn (length s.managers) (length s.sections) (length s.rules) (length s.scripts) (length s.monitors)) (IsStep s) s.steps (λ step n. step_is s step n) h.steps.are);
    }

-- a text's scenario keeps to all that is meant by one
pub text_kept : (text : List ℕ) (s : Scenario) → IsText text s → IsScenario s
text_kept text s t =
    let h : Kept t.end = blocks_kept t.blocks 0 nothing_said t.end start t.are in
    subst IsScenario (sym t.is) (kept_is t.end.scenario (subst (λ (g : Stage). Keeps g t.end.scenario) t.last h))
