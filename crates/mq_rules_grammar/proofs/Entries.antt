-- Entries one behind the other, both ways.
use Rattle.std.proofs.Common.{◌≡◌, ◌⊎◌, ℕ, Bool, true, false, cond, List, [], ◌∷◌, ◌++◌, Result, Ok, Err, refl, sym, ap, ◌∙◌, append_assoc, append-nil, inl, inr}
use Rattle.std.specs.List.{list_any}
use Rattle.mq_sc_lex.specs.declared.token.Line.{Line}
use Rattle.mq_sc_grammar.specs.Spelling.{kinds_of}
use Rattle.mq_rules.specs.declared.rule.Rule.{Rule}
use Rattle.mq_rules.specs.declared.rule.Table.{Table}
use Rattle.mq_rules_text.specs.declared.fault.Flaw.{Flaw}
use Rattle.mq_rules_text.specs.declared.fault.Flaw.TheVariants as flaws
use Rattle.mq_rules_text.specs.declared.fault.RulesFault.{RulesFault}
use Rattle.mq_rules_text.specs.declared.pairs.Pair.{Pair}
use Rattle.mq_rules_text.specs.declared.control.Control.{Control}
use Rattle.mq_rules_text.specs.declared.reading.Reading.{Reading}
use Rattle.mq_rules_text.specs.Faults.{and_then, at_line, fault_at}
use Rattle.mq_rules_text.specs.Pairs.{pairs_of, controls}
use Rattle.mq_rules_text.specs.Entries.{rule_of, control_of}
use Rattle.mq_rules_text.specs.Tables.{with_control, with_rule, pairs_said, entry_said, begun_with, entry_read, entries_read, nothing_read}
use Rattle.mq_rules_grammar.specs.Entries.{ArePairs, IsRule}
use Rattle.mq_rules_grammar.specs.Tables.{AreRules, no_control, table_with, AreEntries}
use Rattle.mq_rules_grammar.specs.Faults.{HasPairsFlaw, HasEntryFlaw}
use Rattle.mq_rules_grammar.proofs.Words.{pairs_read, pairs_found, pairs_flaw, controls_found, controls_read, no_controls_found, no_controls_read}
use Rattle.mq_rules_grammar.proofs.Rules.{rule_read, rule_found, rule_refused, rule_flaw_read}
use Rattle.mq_rules_grammar.proofs.Controls.{control_read, control_found, control_refused, control_flaw_read}

abbrev pub ok_reading : Reading → Result Reading RulesFault
ok_reading s = Ok s

abbrev pub err_reading : RulesFault → Result Reading RulesFault
err_reading fault = Err fault

abbrev ok_pairs : List Pair → Result (List Pair) Flaw
ok_pairs ps = Ok ps

abbrev err_pairs : Flaw → Result (List Pair) Flaw
err_pairs flaw = Err flaw

abbrev ok_table : Table → Result Table Flaw
ok_table t = Ok t

abbrev err_table : Flaw → Result Table Flaw
err_table flaw = Err flaw

abbrev begun_of : List Line → Bool
begun_of [] = false
begun_of (line ∷ lines) = true

-- what the reader holds behind these entries
abbrev pub state : List Line → Table → Reading
state lines table = record { begun = begun_of lines; table = table }

-- ---- one entry

pairs_same : (ps qs : List Pair) → ok_pairs ps ≡ ok_pairs qs → ps ≡ qs
pairs_same ps qs e = cc

pub one_pairs : (line : Line) (ps qs : List Pair) → ArePairs ps (kinds_of line.tokens) → ArePairs qs (kinds_of line.tokens) → ps ≡ qs
one_pairs line ps qs h g = pairs_same ps qs (sym (pairs_read ps line.tokens h) ∙ pairs_read qs line.tokens g)

-- an entry whose pairs are these
said_by : (own : List ℕ) (s : Reading) (line : Line) (ps : List Pair) (r : Result Table Flaw) → ArePairs ps (kinds_of line.tokens) → pairs_said own s ps ≡ r → entry_read own line s ≡ begun_with (at_line line.number r)
unfolding entry_said
said_by own s line ps r h e =
    ap (λ (q : Result (List Pair) Flaw). begun_with (at_line line.number (and_then q (pairs_said own s)))) (pairs_read ps line.tokens h) ∙ ap (λ (t : Result Table Flaw). begun_with (at_line line.number t)) e

-- behind the first entry each says a rule
later_said : (own : List ℕ) (t : Table) (ps : List Pair) (r : Result Rule Flaw) → rule_of ps ≡ r → pairs_said own (record { begun = true; table = t }) ps ≡ with_rule t r
later_said own t ps r e = ap (with_rule t) e

first_rule_said : (own : List ℕ) (t : Table) (ps : List Pair) (r : Result Rule Flaw) → list_any controls ps ≡ false → rule_of ps ≡ r → pairs_said own (record { begun = false; table = t }) ps ≡ with_rule t r
first_rule_said own t ps r none e = ap (λ (b : Bool). cond b (with_control t (control_of own ps)) (with_rule t (rule_of ps))) none ∙ ap (with_rule t) e

first_control_said : (own : List ℕ) (t : Table) (ps : List Pair) (r : Result Control Flaw) → list_any controls ps ≡ true → control_of own ps ≡ r → pairs_said own (record { begun = false; table = t }) ps ≡ with_control t r
first_control_said own t ps r some e = ap (λ (b : Bool). cond b (with_control t (control_of own ps)) (with_rule t (rule_of ps))) some ∙ ap (with_control t) e

-- ---- what is written is read

rules_read : (own : List ℕ) (lines rest : List Line) (c : Control) (before rules : List Rule) → AreRules lines rules
    → entries_read own (lines ++ rest) (record { begun = true; table = table_with c before }) ≡ entries_read own rest (record { begun = true; table = table_with c (before ++ rules) })
rules_read own [] rest c before rules e =
    let none : before ≡ before ++ rules = sym (append-nil before) ∙ ap (λ (l : List Rule). before ++ l) (sym e) in
    ap (λ (l : List Rule). entries_read own rest (record { begun = true; table = table_with c l })) none
rules_read own (line ∷ lines) rest c before rules (ps, rule, later, pairs, is, more, e) =
    let t : Table = table_with c before in
    ap (λ (r : Result Reading RulesFault). and_then r (entries_read own (lines ++ rest))) (said_by own (record { begun = true; table = t }) line ps (with_rule t (Ok rule)) pairs (later_said own t ps (Ok rule) (rule_read ps rule is)))
    ∙ rules_read own lines rest c (before ++ rule ∷ []) later more
    ∙ ap (λ (l : List Rule). entries_read own rest (record { begun = true; table = table_with c l })) (append_assoc before (rule ∷ []) later ∙ ap (λ (l : List Rule). before ++ l) (sym e))

pub entries_are : (own : List ℕ) (lines rest : List Line) (table : Table) → AreEntries own lines table → entries_read own (lines ++ rest) nothing_read ≡ entries_read own rest (state lines table)
entries_are own [] rest table e = ap (λ (t : Table). entries_read own rest (record { begun = false; table = t })) (sym e)
entries_are own (line ∷ lines) rest table (ps, rules, pairs, inl (some, (c, is, are, e))) =
    let t : Table = nothing_read.table in
    ap (λ (r : Result Reading RulesFault). and_then r (entries_read own (lines ++ rest))) (said_by own nothing_read line ps (with_control t (Ok c)) pairs (first_control_said own t ps (Ok c) (controls_read ps some) (control_read own ps c is)))
    ∙ rules_read own lines rest c [] rules are
    ∙ ap (λ (u : Table). entries_read own rest (record { begun = true; table = u })) (sym e)
entries_are own (line ∷ lines) rest table (ps, rules, pairs, inr (none, (qs, rule, later, others, is, more, f), e)) =
    let t : Table = nothing_read.table in
    let same = one_pairs line ps qs pairs others in
    let says : rule_of ps ≡ Ok rule = ap rule_of same ∙ rule_read qs rule is in
    ap (λ (r : Result Reading RulesFault). and_then r (entries_read own (lines ++ rest))) (said_by own nothing_read line ps (with_rule t (Ok rule)) pairs (first_rule_said own t ps (Ok rule) (no_controls_read ps none) says))
    ∙ rules_read own lines rest no_control (rule ∷ []) later more
    ∙ ap (λ (l : List Rule). entries_read own rest (record { begun = true; table = table_with no_control l })) (sym f)
    ∙ ap (λ (u : Table). entries_read own rest (record { begun = true; table = u })) (sym e)

-- an entry that is none
no_pairs : (line : Line) → ((ps : List Pair) → ArePairs ps (kinds_of line.tokens) → ⊥) → pairs_of line.tokens ≡ err_pairs flaws.Form
no_pairs line never = by (pairs_of line.tokens) refl
  where
    by : (r : Result (List Pair) Flaw) → pairs_of line.tokens ≡ r → pairs_of line.tokens ≡ err_pairs flaws.Form
    by (Ok ps) e = absurd (never ps (pairs_found line.tokens ps e))
    by (Err flaw) e = e ∙ ap err_pairs (pairs_flaw line.tokens flaw e)

pairs_refused : (own : List ℕ) (before : List Line) (t : Table) (ps : List Pair) (flaw : Flaw) → HasPairsFlaw own before ps flaw → pairs_said own (state before t) ps ≡ err_table flaw
pairs_refused own [] t ps flaw (inl (some, h)) = first_control_said own t ps (Err flaw) (controls_read ps some) (control_flaw_read own ps flaw h)
pairs_refused own [] t ps flaw (inr (none, h)) = first_rule_said own t ps (Err flaw) (no_controls_read ps none) (rule_flaw_read ps flaw h)
pairs_refused own (b ∷ before) t ps flaw h = later_said own t ps (Err flaw) (rule_flaw_read ps flaw h)

pub entry_refused : (own : List ℕ) (before : List Line) (t : Table) (line : Line) (flaw : Flaw) → HasEntryFlaw own before line flaw → entry_read own line (state before t) ≡ err_reading (fault_at line.number flaw)
unfolding entry_said
entry_refused own before t line flaw (inl (e, never)) =
    ap (λ (q : Result (List Pair) Flaw). begun_with (at_line line.number (and_then q (pairs_said own (state before t))))) (no_pairs line never) ∙ ap (λ (f : Flaw). err_reading (fault_at line.number f)) (sym e)
entry_refused own before t line flaw (inr (ps, pairs, h)) = said_by own (state before t) line ps (err_table flaw) pairs (pairs_refused own before t ps flaw h)

-- ---- each entry is one more, or is none

rules_more : (lines : List Line) (line : Line) (rules : List Rule) (ps : List Pair) (rule : Rule) → AreRules lines rules → ArePairs ps (kinds_of line.tokens) → IsRule ps rule → AreRules (lines ++ line ∷ []) (rules ++ rule ∷ [])
rules_more [] line rules ps rule e pairs is = (ps, rule, [], pairs, is, refl, ap (λ (l : List Rule). l ++ rule ∷ []) e)
rules_more (other ∷ lines) line rules ps rule (qs, first, later, others, says, more, e) pairs is =
    (qs, first, later ++ rule ∷ [], others, says, rules_more lines line later ps rule more pairs is, ap (λ (l : List Rule). l ++ rule ∷ []) e)

abbrev pub Step : List ℕ → List Line → Line → Type 0
Step own before line = ((t : Table) × AreEntries own (before ++ line ∷ []) t) ⊎ ((flaw : Flaw) × HasEntryFlaw own before line flaw)

later_more : (own : List ℕ) (b : Line) (before : List Line) (t : Table) (line : Line) (ps : List Pair) (rule : Rule) → AreEntries own (b ∷ before) t → ArePairs ps (kinds_of line.tokens) → IsRule ps rule → (u : Table) × AreEntries own ((b ∷ before) ++ line ∷ []) u
later_more own b before t line ps rule (qs, rules, others, inl (some, (c, says, are, e))) pairs is =
    (table_with c (rules ++ rule ∷ []), (qs, rules ++ rule ∷ [], others, inl (some, (c, says, rules_more before line rules ps rule are pairs is, refl))))
later_more own b before t line ps rule (qs, rules, others, inr (none, are, e)) pairs is =
    (table_with no_control (rules ++ rule ∷ []), (qs, rules ++ rule ∷ [], others, inr (none, rules_more (b ∷ before) line rules ps rule are pairs is, refl)))

later_step : (own : List ℕ) (b : Line) (before : List Line) (t : Table) (line : Line) (ps : List Pair) → AreEntries own (b ∷ before) t → ArePairs ps (kinds_of line.tokens) → (r : Result Rule Flaw) → rule_of ps ≡ r → Step own (b ∷ before) line
later_step own b before t line ps h pairs (Ok rule) e = inl (later_more own b before t line ps rule h pairs (rule_found ps rule e))
later_step own b before t line ps h pairs (Err flaw) e = inr (flaw, inr (ps, pairs, rule_refused ps flaw e))

first_rule : (own : List ℕ) (line : Line) (ps : List Pair) → ArePairs ps (kinds_of line.tokens) → list_any controls ps ≡ false → (r : Result Rule Flaw) → rule_of ps ≡ r → Step own [] line
first_rule own line ps pairs none (Ok rule) e =
    inl (table_with no_control (rule ∷ []), (ps, rule ∷ [], pairs, inr (no_controls_found ps none, (ps, rule, [], pairs, rule_found ps rule e, refl, refl), refl)))
first_rule own line ps pairs none (Err flaw) e = inr (flaw, inr (ps, pairs, inr (no_controls_found ps none, rule_refused ps flaw e)))

first_control : (own : List ℕ) (line : Line) (ps : List Pair) → ArePairs ps (kinds_of line.tokens) → list_any controls ps ≡ true → (r : Result Control Flaw) → control_of own ps ≡ r → Step own [] line
first_control own line ps pairs some (Ok c) e = inl (table_with c [], (ps, [], pairs, inl (controls_found ps some, (c, control_found own ps c e, refl, refl))))
first_control own line ps pairs some (Err flaw) e = inr (flaw, inr (ps, pairs, inl (controls_found ps some, control_refused own ps flaw e)))

first_step : (own : List ℕ) (line : Line) (ps : List Pair) → ArePairs ps (kinds_of line.tokens) → (b : Bool) → list_any controls ps ≡ b → Step own [] line
first_step own line ps pairs true e = first_control own line ps pairs e (control_of own ps) refl
first_step own line ps pairs false e = first_rule own line ps pairs e (rule_of ps) refl

pairs_step : (own : List ℕ) (before : List Line) (t : Table) (line : Line) (ps : List Pair) → AreEntries own before t → ArePairs ps (kinds_of line.tokens) → Step own before line
pairs_step own [] t line ps h pairs = first_step own line ps pairs (list_any controls ps) refl
pairs_step own (b ∷ before) t line ps h pairs = later_step own b before t line ps h pairs (rule_of ps) refl

pairs_never : (line : Line) (flaw : Flaw) → pairs_of line.tokens ≡ err_pairs flaw → (ps : List Pair) → ArePairs ps (kinds_of line.tokens) → ⊥
pairs_never line flaw e ps h = absurd (let f : ok_pairs ps ≡ err_pairs flaw = sym (pairs_read ps line.tokens h) ∙ e in cc)

pub entry_step : (own : List ℕ) (before : List Line) (t : Table) (line : Line) → AreEntries own before t → Step own before line
entry_step own before t line h = by (pairs_of line.tokens) refl
  where
    by : (r : Result (List Pair) Flaw) → pairs_of line.tokens ≡ r → Step own before line
    by (Ok ps) e = pairs_step own before t line ps h (pairs_found line.tokens ps e)
    by (Err flaw) e = inr (flaws.Form, inl (refl, λ ps p. pairs_never line flaw e ps p))

-- ---- entries in front of others say a table too

front_rules : (front later : List Line) (rules : List Rule) → AreRules (front ++ later) rules → (rs : List Rule) × AreRules front rs
front_rules [] later rules h = ([], refl)
front_rules (line ∷ front) later rules (ps, rule, rest, pairs, is, more, e) =
    let f = front_rules front later rest more in
    (rule ∷ f.0, (ps, rule, f.0, pairs, is, f.1, refl))

pub front_entries : (own : List ℕ) (front later : List Line) (t : Table) → AreEntries own (front ++ later) t → (u : Table) × AreEntries own front u
front_entries own [] later t h = (table_with no_control [], refl)
front_entries own (line ∷ front) later t (ps, rules, pairs, inl (some, (c, is, are, e))) =
    let f = front_rules front later rules are in
    (table_with c f.0, (ps, f.0, pairs, inl (some, (c, is, f.1, refl))))
front_entries own (line ∷ front) later t (ps, rules, pairs, inr (none, are, e)) =
    let f = front_rules (line ∷ front) later rules are in
    (table_with no_control f.0, (ps, f.0, pairs, inr (none, f.1, refl)))
