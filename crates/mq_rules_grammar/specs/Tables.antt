-- What a rules table's text is: its lines, joined where they go on, the entries between their semicolons, and what these
-- say.
use Rattle.std.specs.Prelude.{◌≡◌, ◌⊎◌, ℕ, true, List, [], ◌∷◌}
use Rattle.mq_base.specs.Members.{Mem}
use Rattle.mq_sc_lex.specs.declared.joining.Mark.{Mark}
use Rattle.mq_sc_lex.specs.declared.joining.Ending.TheVariants.{Whole}
use Rattle.mq_sc_lex.specs.declared.token.Line.{Line}
use Rattle.mq_sc_grammar.specs.Spelling.{kinds_of}
use Rattle.mq_sc_grammar.specs.Written.{AreOfLines}
use Rattle.mq_sc_grammar.specs.Texts.{AreLinesOf}
use Rattle.mq_rules.specs.declared.rule.Rule.{Rule}
use Rattle.mq_rules.specs.declared.rule.Table.{Table}
use Rattle.mq_rules.specs.declared.rule.Wait.TheVariants as waits
use Rattle.mq_rules_text.specs.declared.pairs.Pair.{Pair}
use Rattle.mq_rules_text.specs.declared.control.Control.{Control}
use Rattle.mq_rules_grammar.specs.Entries.{ArePairs, IsOf, IsRule, IsControl}

-- ---- tables

-- each entry says a rule
abbrev pub AreRules : List Line → List Rule → Type 0
AreRules [] rules = rules ≡ []
AreRules (line ∷ lines) rules = (ps : List Pair) × (rule : Rule) × (later : List Rule) × ArePairs ps (kinds_of line.tokens) × IsRule ps rule × AreRules lines later × (rules ≡ rule ∷ later)

-- an entry has a keyword of the control entry
abbrev pub Controls : List Pair → Type 0
Controls ps = (p : Pair) × Mem p ps × IsOf true p

-- the control entry where a table has none
abbrev pub no_control : Control
no_control = record { input_q = []; retry_interval = 60; wait = waits.Yes }

abbrev pub table_with : Control → List Rule → Table
table_with c rules = record { input_q = c.input_q; retry_interval = c.retry_interval; wait = c.wait; rules = rules }

-- The first entry is the control entry where it has one of its keywords; every other entry says a rule.
abbrev pub AreEntries : (own : List ℕ) → List Line → Table → Type 0
AreEntries own [] table = table ≡ table_with no_control []
AreEntries own (line ∷ lines) table = (ps : List Pair) × (rules : List Rule) × ArePairs ps (kinds_of line.tokens)
    × ((Controls ps × ((c : Control) × IsControl own ps c × AreRules lines rules × (table ≡ table_with c rules))) ⊎ ((Controls ps → ⊥) × AreRules (line ∷ lines) rules × (table ≡ table_with no_control rules)))

-- The text is that of the table, at the manager of that name.
abbrev pub IsTable : (own text : List ℕ) → Table → Type 0
IsTable own text table = (joined : List (List Mark)) × (lines : List Line) × AreLinesOf text Whole joined × AreOfLines joined lines × AreEntries own lines table
