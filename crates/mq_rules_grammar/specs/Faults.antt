-- Why a text is no rules table: the first entry that is none, with the first of its causes.
use Rattle.std.specs.Prelude.{◌≡◌, ◌⊎◌, ℕ, true, false, List, [], ◌∷◌, ◌++◌, length, Ok}
use Rattle.mq_text.specs.Lines.{lines_of}
use Rattle.mq_sc_lex.specs.declared.joining.Mark.{Mark}
use Rattle.mq_sc_lex.specs.declared.joining.Ending.{Ending}
use Rattle.mq_sc_lex.specs.declared.joining.Ending.TheVariants.{Whole}
use Rattle.mq_sc_lex.specs.declared.token.Line.{Line}
use Rattle.mq_sc_grammar.specs.Spelling.{kinds_of}
use Rattle.mq_sc_grammar.specs.Written.{AreOfLine, AreOfLines}
use Rattle.mq_sc_grammar.specs.Texts.{AreLinesOf}
use Rattle.mq_sc_grammar.specs.TextFaults.{LeavesOpen}
use Rattle.mq_rules.specs.declared.rule.Table.{Table}
use Rattle.mq_rules_text.specs.declared.keyword.Keyword.TheVariants as words
use Rattle.mq_rules_text.specs.declared.values.Verb.TheVariants as verbs
use Rattle.mq_rules_text.specs.declared.fault.Flaw.{Flaw}
use Rattle.mq_rules_text.specs.declared.fault.Flaw.TheVariants as flaws
use Rattle.mq_rules_text.specs.declared.fault.RulesFault.{RulesFault}
use Rattle.mq_rules_text.specs.declared.fault.RulesFault.TheVariants as faults
use Rattle.mq_rules_text.specs.declared.pairs.Pair.{Pair}
use Rattle.mq_rules_text.specs.Values.{verb_of}
use Rattle.mq_rules_text.specs.Faults.{fault_at}
use Rattle.mq_rules_grammar.specs.Entries.{ArePairs, AreAllowed, AreTaken, Has, Lacks}
use Rattle.mq_rules_grammar.specs.Tables.{Controls, AreEntries}

-- ---- one entry

-- The pairs are no rule: a keyword that is none of a rule or comes twice; a value that its keyword doesn't take; no ACTION;
-- or ACTION(FWD) without FWDQ.
abbrev pub HasRuleFlaw : List Pair → Flaw → Type 0
HasRuleFlaw ps flaws.Form = ⊥
HasRuleFlaw ps flaws.Keyword = AreAllowed false ps → ⊥
HasRuleFlaw ps flaws.Value = AreAllowed false ps × (AreTaken [] ps → ⊥)
HasRuleFlaw ps flaws.Action = AreAllowed false ps × AreTaken [] ps × Lacks words.Action ps
HasRuleFlaw ps flaws.Target = AreAllowed false ps × AreTaken [] ps × ((v : List ℕ) × Has words.Action v ps × (verb_of v ≡ Ok verbs.Forward)) × Lacks words.ForwardQueue ps
HasRuleFlaw ps flaws.Memory = ⊥

-- The pairs are no control entry: a keyword that is none of it or comes twice; or a value that its keyword doesn't take.
abbrev pub HasControlFlaw : (own : List ℕ) → List Pair → Flaw → Type 0
HasControlFlaw own ps flaws.Keyword = AreAllowed true ps → ⊥
HasControlFlaw own ps flaws.Value = AreAllowed true ps × (AreTaken own ps → ⊥)
HasControlFlaw own ps _ = ⊥

-- behind these entries the pairs are no entry
abbrev pub HasPairsFlaw : (own : List ℕ) → (before : List Line) → List Pair → Flaw → Type 0
HasPairsFlaw own [] ps flaw = (Controls ps × HasControlFlaw own ps flaw) ⊎ ((Controls ps → ⊥) × HasRuleFlaw ps flaw)
HasPairsFlaw own (line ∷ lines) ps flaw = HasRuleFlaw ps flaw

-- behind these entries the line is none: no keywords with values in brackets, or they are none
abbrev pub HasEntryFlaw : (own : List ℕ) → (before : List Line) → Line → Flaw → Type 0
HasEntryFlaw own before line flaw =
    ((flaw ≡ flaws.Form) × ((ps : List Pair) → ArePairs ps (kinds_of line.tokens) → ⊥)) ⊎ ((ps : List Pair) × ArePairs ps (kinds_of line.tokens) × HasPairsFlaw own before ps flaw)

-- ---- a whole text

-- these lines, joined where they go on, say a table
abbrev pub AreGood : (own : List ℕ) → List (List Mark) → List Line → Type 0
AreGood own joined lines = (table : Table) × AreOfLines joined lines × AreEntries own lines table

-- a joined line leaves a quote open, or has an entry that is none
abbrev pub HasOwnFault : (own : List ℕ) → (before : List Line) → List Mark → RulesFault → Type 0
HasOwnFault own before marks fault =
    ((line : ℕ) × LeavesOpen marks line × (fault ≡ faults.BadLine line))
    ⊎ ((front : List Line) × (line : Line) × (later : List Line) × (table : Table) × (flaw : Flaw)
    × AreOfLine marks (front ++ line ∷ later) × AreEntries own (before ++ front) table × HasEntryFlaw own (before ++ front) line flaw × (fault ≡ fault_at line.number flaw))

-- the physical line on which a joined line begins; one without bytes has that of the text's last
abbrev pub first_line : (last : ℕ) → List Mark → ℕ
first_line last [] = last
first_line last (m ∷ ms) = m.line

-- The joined lines in front say a table, and this one is at fault: the last one that is to go on, else one for a fault of
-- its own.
pub record HasFault (own text : List ℕ) (fault : RulesFault) : Type 0 where
  pub last : Ending
  pub front : List (List Mark)
  pub marks : List Mark
  pub later : List (List Mark)
  pub lines : List Line
  pub are : AreLinesOf text last (front ++ marks ∷ later)
  pub good : AreGood own front lines
  pub bad : ((last ≡ Whole → ⊥) × (later ≡ []) × (fault ≡ faults.BadLine (first_line (length (lines_of text)) marks)))
      ⊎ (((last ≡ Whole → ⊥) → later ≡ [] → ⊥) × HasOwnFault own lines marks fault)
