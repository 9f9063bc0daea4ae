-- What a rules table says, and its faults, both ways.
use Rattle.std.proofs.Common.{◌≡◌, ℕ, List, [], ◌∷◌, ◌++◌, Result, Ok, Err, refl, sym, ap, ◌∙◌}
use Rattle.mq_sc_lex.specs.Joining.{joined_of}
use Rattle.mq_rules.specs.declared.rule.Table.{Table}
use Rattle.mq_rules_text.specs.declared.fault.RulesFault.{RulesFault}
use Rattle.mq_rules_text.specs.Tables.{table_of}
use Rattle.mq_rules_grammar.proofs.Tables.{table_is, table_found, fault_is, fault_found}
use Rattle.mq_history.specs.declared.scenario.RulesPart.{RulesPart}
use Rattle.mq_scn_text.specs.declared.fault.ScenarioFault.{ScenarioFault}
use Rattle.mq_scn_text.specs.declared.sections.Opened.{Opened}
use Rattle.mq_scn_text.specs.Sections.{rules_fault, rules_or_fault, rules_ended, goes_on_from, before_last, table_cut, rules_cut}
use Rattle.mq_law_scenario.specs.RulesTables.{IsRulesPart, HasTableFault, HasTableCut}
use Rattle.mq_law_scenario.proofs.SectionReads.{err_cut, told_read, told_found}

abbrev ok_part : RulesPart → Result RulesPart ScenarioFault
ok_part part = Ok part

abbrev err_part : ScenarioFault → Result RulesPart ScenarioFault
err_part fault = Err fault

abbrev part_of : Opened → Table → RulesPart
part_of o table = record { label = o.label; manager = o.manager; table = table }

part_same : (p q : RulesPart) → ok_part p ≡ ok_part q → p ≡ q
part_same p q e = cc

fault_same : (f g : ScenarioFault) → err_part f ≡ err_part g → f ≡ g
fault_same f g e = cc

pub part_is : (own : List ℕ) (o : Opened) (part : RulesPart) → IsRulesPart own o part → rules_ended own o ≡ ok_part part
unfolding rules_ended
part_is own o part (table, is, e) = ap (rules_or_fault o) (table_is own o.text table is) ∙ ap ok_part (sym e)

pub part_fault_is : (own : List ℕ) (o : Opened) (fault : ScenarioFault) → HasTableFault own o fault → rules_ended own o ≡ err_part fault
unfolding rules_ended
part_fault_is own o fault (f, is, e) = ap (rules_or_fault o) (fault_is own o.text f is) ∙ ap err_part (sym e)

found_by : (own : List ℕ) (o : Opened) (part : RulesPart) (r : Result Table RulesFault) → table_of own o.text ≡ r → rules_or_fault o r ≡ ok_part part → IsRulesPart own o part
found_by own o part (Ok table) e f = (table, table_found own o.text table e, sym (part_same (part_of o table) part f))
found_by own o part (Err fault) e f = absurd cc

pub part_found : (own : List ℕ) (o : Opened) (part : RulesPart) → rules_ended own o ≡ ok_part part → IsRulesPart own o part
unfolding rules_ended
part_found own o part e = found_by own o part (table_of own o.text) refl e

refused_by : (own : List ℕ) (o : Opened) (fault : ScenarioFault) (r : Result Table RulesFault) → table_of own o.text ≡ r → rules_or_fault o r ≡ err_part fault → HasTableFault own o fault
refused_by own o fault (Ok table) e f = absurd cc
refused_by own o fault (Err f) e g = (f, fault_found own o.text f e, sym (fault_same (rules_fault o.first f) fault g))

pub part_refused : (own : List ℕ) (o : Opened) (fault : ScenarioFault) → rules_ended own o ≡ err_part fault → HasTableFault own o fault
unfolding rules_ended
part_refused own o fault e = refused_by own o fault (table_of own o.text) refl e

-- ---- tables that no line ends

pub cut_is : (own : List ℕ) (o : Opened) (fault : ScenarioFault) → HasTableCut own o fault → rules_cut own o ≡ err_cut fault
unfolding rules_cut
cut_is own o fault ((f, is, e), before) =
    let told = told_read o.text o.first fault before in
    ap (table_cut o.first (goes_on_from (joined_of o.text))) (fault_is own (o.text ++ 10 ∷ []) f is)
    ∙ ap (before_last o.first (goes_on_from (joined_of o.text))) (sym e) ∙ told

cut_by : (own : List ℕ) (o : Opened) (fault : ScenarioFault) (r : Result Table RulesFault) → table_of own (o.text ++ 10 ∷ []) ≡ r → table_cut o.first (goes_on_from (joined_of o.text)) r ≡ err_cut fault → HasTableCut own o fault
cut_by own o fault (Ok table) e f = absurd cc
cut_by own o fault (Err f) e g =
    let t = told_found o.text o.first (rules_fault o.first f) fault g in
    ((f, fault_found own (o.text ++ 10 ∷ []) f e, sym t.0), t.1)

pub cut_found : (own : List ℕ) (o : Opened) (fault : ScenarioFault) → rules_cut own o ≡ err_cut fault → HasTableCut own o fault
unfolding rules_cut
cut_found own o fault e = cut_by own o fault (table_of own (o.text ++ 10 ∷ [])) refl e
