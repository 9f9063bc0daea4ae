-- Whole texts of rules tables, both ways.
use Rattle.std.proofs.Common.{◌≡◌, ◌⊎◌, ℕ, suc, Bool, true, false, cond, List, [], ◌∷◌, ◌++◌, length, Result, Ok, Err, refl, sym, ap, subst, ◌∙◌, append_assoc, append-nil, arith, inl, inr}
use Rattle.std.specs.Prelude.{◌==◌, ◌&&◌}
use Rattle.std.proofs.lemmas.Bool.Decides.{nat_tests}
use Rattle.mq_text.specs.Lines.{lines_of}
use Rattle.mq_sc_lex.specs.declared.joining.Mark.{Mark}
use Rattle.mq_sc_lex.specs.declared.joining.Joined.{Joined}
use Rattle.mq_sc_lex.specs.declared.joining.Ending.{Ending}
use Rattle.mq_sc_lex.specs.declared.joining.Ending.TheVariants.{Whole, Plus, Minus}
use Rattle.mq_sc_lex.specs.declared.token.Line.{Line}
use Rattle.mq_sc_lex.specs.Joining.{is_open}
use Rattle.mq_sc_grammar.specs.Written.{AreOfLine, AreOfLines}
use Rattle.mq_sc_grammar.specs.Texts.{IsOnto, AreJoined, AreLinesOf}
use Rattle.mq_sc_grammar.specs.TextFaults.{LeavesOpen}
use Rattle.mq_rules.specs.declared.rule.Table.{Table}
use Rattle.mq_rules_text.specs.declared.fault.Flaw.{Flaw}
use Rattle.mq_rules_text.specs.declared.fault.RulesFault.{RulesFault}
use Rattle.mq_rules_text.specs.declared.fault.RulesFault.TheVariants as faults
use Rattle.mq_rules_text.specs.declared.reading.Reading.{Reading}
use Rattle.mq_rules_text.specs.Faults.{and_then, fault_at}
use Rattle.mq_rules_text.specs.Tables.{entries_read, entries_in, line_read, first_line as first_line_read, lines_read, nothing_read, table_read, table_of}
use Rattle.mq_rules_grammar.specs.Tables.{no_control, table_with, AreEntries, IsTable}
use Rattle.mq_rules_grammar.specs.Faults.{HasEntryFlaw, AreGood, HasOwnFault, first_line, HasFault}
use Rattle.mq_rules_grammar.proofs.MarkLines.{mark_read, open_read, mark_either, lines_joined, some_joined, goes_on}
use Rattle.mq_rules_grammar.proofs.Entries.{ok_reading, err_reading, state, entries_are, entry_refused, Step, entry_step, front_entries}

abbrev ok_table : Table → Result Table RulesFault
ok_table t = Ok t

abbrev err_table : RulesFault → Result Table RulesFault
err_table fault = Err fault

-- ---- entries behind others

more_entries : (own : List ℕ) (before lines rest : List Line) (t u : Table) → AreEntries own before t → AreEntries own (before ++ lines) u → entries_read own (lines ++ rest) (state before t) ≡ entries_read own rest (state (before ++ lines) u)
more_entries own before lines rest t u h g =
    sym (entries_are own before (lines ++ rest) t h)
    ∙ ap (λ (l : List Line). entries_read own l nothing_read) (sym (append_assoc before lines rest))
    ∙ entries_are own (before ++ lines) rest u g

line_is : (own : List ℕ) (marks : List Mark) (before lines : List Line) (t u : Table) → AreOfLine marks lines → AreEntries own before t → AreEntries own (before ++ lines) u → line_read own marks (state before t) ≡ ok_reading (state (before ++ lines) u)
unfolding line_read
line_is own marks before lines t u of h g =
    ap (λ (r : _). entries_in own r (state before t)) (mark_read marks lines of)
    ∙ ap (λ (l : List Line). entries_read own l (state before t)) (sym (append-nil lines))
    ∙ more_entries own before lines [] t u h g

line_bad : (own : List ℕ) (marks : List Mark) (before : List Line) (t : Table) (fault : RulesFault) → AreEntries own before t → HasOwnFault own before marks fault → line_read own marks (state before t) ≡ err_reading fault
unfolding line_read
line_bad own marks before t fault h (inl (line, open_at, e)) = ap (λ (r : _). entries_in own r (state before t)) (open_read marks line open_at) ∙ ap err_reading (sym e)
line_bad own marks before t fault h (inr (front, line, later, u, flaw, of, are, none, e)) =
    ap (λ (r : _). entries_in own r (state before t)) (mark_read marks (front ++ line ∷ later) of)
    ∙ more_entries own before front (line ∷ later) t u h are
    ∙ ap (λ (r : Result Reading RulesFault). and_then r (entries_read own later)) (entry_refused own (before ++ front) u line flaw none)
    ∙ ap err_reading (sym e)

-- ---- joined lines

not_zero : (n : ℕ) → (suc n == 0) ≡ false
not_zero n = grind (arith, nat_tests)

-- the last line isn't one that is to go on
guard_by : (unfinished : Bool) (later : List (List Mark)) → (unfinished ≡ true → later ≡ [] → ⊥) → (unfinished && (length later == 0)) ≡ false
guard_by false later h = refl
guard_by true [] h = absurd (h refl refl)
guard_by true (marks ∷ later) h = not_zero (length later)

one_line : (own : List ℕ) (unfinished : Bool) (last : ℕ) (marks : List Mark) (later : List (List Mark)) (s : Reading) → (unfinished ≡ true → later ≡ [] → ⊥)
    → lines_read own unfinished last (marks ∷ later) s ≡ and_then (line_read own marks s) (lines_read own unfinished last later)
one_line own unfinished last marks later s h =
    ap (λ (b : Bool). cond b (err_reading (faults.BadLine (first_line_read last marks))) (and_then (line_read own marks s) (lines_read own unfinished last later))) (guard_by unfinished later h)

not_nil : (joined rest : List (List Mark)) → (rest ≡ [] → ⊥) → joined ++ rest ≡ [] → ⊥
not_nil [] rest h e = h e
not_nil (marks ∷ joined) rest h e = absurd cc

not_last : (unfinished : Bool) (joined rest : List (List Mark)) → (unfinished ≡ true → rest ≡ [] → ⊥) → unfinished ≡ true → joined ++ rest ≡ [] → ⊥
not_last unfinished joined rest h u = not_nil joined rest (h u)

reading_same : (r s : Reading) → ok_reading r ≡ ok_reading s → r ≡ s
reading_same r s e = cc

nothing_more : (own : List ℕ) (unfinished : Bool) (last : ℕ) (rest : List (List Mark)) (before lines : List Line) (t u : Table) → lines ≡ [] → AreEntries own before t → AreEntries own (before ++ lines) u
    → lines_read own unfinished last rest (state before t) ≡ lines_read own unfinished last rest (state (before ++ lines) u)
nothing_more own unfinished last rest before lines t u e are all =
    let one : entries_read own (lines ++ []) (state before t) ≡ entries_read own [] (state (before ++ lines) u) = more_entries own before lines [] t u are all in
    let two : ok_reading (state before t) ≡ ok_reading (state (before ++ lines) u) = sym (ap (λ (l : List Line). entries_read own (l ++ []) (state before t)) e) ∙ one in
    ap (lines_read own unfinished last rest) (reading_same (state before t) (state (before ++ lines) u) two)

good_lines : (own : List ℕ) (unfinished : Bool) (last : ℕ) (joined rest : List (List Mark)) (before lines : List Line) (t u : Table) → (unfinished ≡ true → rest ≡ [] → ⊥) → AreOfLines joined lines → AreEntries own before t → AreEntries own (before ++ lines) u
    → lines_read own unfinished last (joined ++ rest) (state before t) ≡ lines_read own unfinished last rest (state (before ++ lines) u)
good_lines own unfinished last [] rest before lines t u h e are all = nothing_more own unfinished last rest before lines t u e are all
good_lines own unfinished last (marks ∷ joined) rest before lines t u h (front, later, of_front, of_later, e) are all =
    let whole : AreEntries own ((before ++ front) ++ later) u = subst (λ (l : List Line). AreEntries own l u) (ap (λ (l : List Line). before ++ l) e ∙ sym (append_assoc before front later)) all in
    let mid = front_entries own (before ++ front) later u whole in
    one_line own unfinished last marks (joined ++ rest) (state before t) (not_last unfinished joined rest h)
    ∙ ap (λ (r : Result Reading RulesFault). and_then r (lines_read own unfinished last (joined ++ rest))) (line_is own marks before front t mid.0 of_front are mid.1)
    ∙ good_lines own unfinished last joined rest (before ++ front) later mid.0 u h of_later mid.1 whole
    ∙ ap (λ (l : List Line). lines_read own unfinished last rest (state l u)) (append_assoc before front later ∙ ap (λ (l : List Line). before ++ l) (sym e))

start : (own : List ℕ) → AreEntries own [] (table_with no_control [])
start own = refl

good_text : (own : List ℕ) (unfinished : Bool) (last : ℕ) (front rest : List (List Mark)) (lines : List Line) (t : Table) → (unfinished ≡ true → rest ≡ [] → ⊥) → AreOfLines front lines → AreEntries own lines t
    → lines_read own unfinished last (front ++ rest) nothing_read ≡ lines_read own unfinished last rest (state lines t)
good_text own unfinished last front rest lines t h of are = good_lines own unfinished last front rest [] lines (table_with no_control []) t h of (start own) are

text_reads : (own text : List ℕ) (last : Ending) (joined : List (List Mark)) → AreLinesOf text last joined → table_of own text ≡ table_read (lines_read own (is_open last) (length (lines_of text)) joined nothing_read)
unfolding table_of
text_reads own text last joined lined = ap (λ (j : Joined). table_read (lines_read own j.unfinished (length (lines_of text)) j.lines nothing_read)) (lines_joined text last joined lined)

pub table_is : (own text : List ℕ) (table : Table) → IsTable own text table → table_of own text ≡ ok_table table
table_is own text table (joined, lines, lined, of, are) =
    text_reads own text Whole joined lined
    ∙ ap (λ (l : List (List Mark)). table_read (lines_read own false (length (lines_of text)) l nothing_read)) (sym (append-nil joined))
    ∙ ap table_read (good_text own false (length (lines_of text)) joined [] lines table (λ e. absurd cc) of are)

same_first : (last : ℕ) (marks : List Mark) → first_line_read last marks ≡ first_line last marks
same_first last [] = refl
same_first last (m ∷ ms) = refl

closed : (last : Ending) → is_open last ≡ true → last ≡ Whole → ⊥
closed last e f = absurd (let g : is_open last ≡ false = ap is_open f in let x : true ≡ false = sym e ∙ g in cc)

no_more : (marks : List Mark) (later : List (List Mark)) → marks ∷ later ≡ [] → ⊥
no_more marks later e = absurd cc

pub fault_is : (own text : List ℕ) (fault : RulesFault) → HasFault own text fault → table_of own text ≡ err_table fault
fault_is own text fault h =
    text_reads own text h.last (h.front ++ h.marks ∷ h.later) h.are
    ∙ ap table_read (good_text own (is_open h.last) (length (lines_of text)) h.front (h.marks ∷ h.later) h.lines h.good.0 (λ u e. no_more h.marks h.later e) h.good.1 h.good.2)
    ∙ ap table_read (bad h.bad)
  where
    bad : (((h.last ≡ Whole → ⊥) × (h.later ≡ []) × (fault ≡ faults.BadLine (first_line (length (lines_of text)) h.marks))) ⊎ (((h.last ≡ Whole → ⊥) → h.later ≡ [] → ⊥) × HasOwnFault own h.lines h.marks fault))
        → lines_read own (is_open h.last) (length (lines_of text)) (h.marks ∷ h.later) (state h.lines h.good.0) ≡ err_reading fault
    bad (inl (more, none, e)) =
        ap (λ (l : List (List Mark)). lines_read own (is_open h.last) (length (lines_of text)) (h.marks ∷ l) (state h.lines h.good.0)) none
        ∙ ap (λ (b : Bool). lines_read own b (length (lines_of text)) (h.marks ∷ []) (state h.lines h.good.0)) (goes_on h.last more)
        ∙ ap (λ (n : ℕ). err_reading (faults.BadLine n)) (same_first (length (lines_of text)) h.marks)
        ∙ ap err_reading (sym e)
    bad (inr (whole, b)) =
        one_line own (is_open h.last) (length (lines_of text)) h.marks h.later (state h.lines h.good.0) (λ u e. whole (closed h.last u) e)
        ∙ ap (λ (r : Result Reading RulesFault). and_then r (lines_read own (is_open h.last) (length (lines_of text)) h.later)) (line_bad own h.marks h.lines h.good.0 fault h.good.2 b)

-- ---- each text is a table's, or has a fault

abbrev pub Either : List ℕ → List ℕ → Type 0
Either own text = ((table : Table) × IsTable own text table) ⊎ ((fault : RulesFault) × HasFault own text fault)

record BadEntry (own : List ℕ) (before lines : List Line) : Type 0 where
  front : List Line
  line : Line
  later : List Line
  table : Table
  flaw : Flaw
  whole : lines ≡ front ++ line ∷ later
  are : AreEntries own (before ++ front) table
  none : HasEntryFlaw own (before ++ front) line flaw

abbrev Entered : List ℕ → List Line → List Line → Type 0
Entered own before lines = ((t : Table) × AreEntries own (before ++ lines) t) ⊎ BadEntry own before lines

no_front : (before : List Line) → before ≡ before ++ []
no_front before = sym (append-nil before)

entered_by : (own : List ℕ) (before : List Line) (line : Line) (lines : List Line) (t : Table) → AreEntries own before t → Step own before line → ((u : Table) → AreEntries own (before ++ line ∷ []) u → Entered own (before ++ line ∷ []) lines) → Entered own before (line ∷ lines)
entered_by own before line lines t h (inr (flaw, none)) more =
    inr (record { front = []; line = line; later = lines; table = t; flaw = flaw; whole = refl; are = subst (λ (l : List Line). AreEntries own l t) (no_front before) h; none = subst (λ (l : List Line). HasEntryFlaw own l line flaw) (no_front before) none })
entered_by own before line lines t h (inl (u, g)) more = shift (more u g)
  where
    shift : Entered own (before ++ line ∷ []) lines → Entered own before (line ∷ lines)
    shift (inl (v, k)) = inl (v, subst (λ (l : List Line). AreEntries own l v) (append_assoc before (line ∷ []) lines) k)
    shift (inr b) = inr (record {
      front = line ∷ b.front;
      line = b.line;
      later = b.later;
      table = b.table;
      flaw = b.flaw;
      whole = ap (λ (l : List Line). line ∷ l) b.whole;
      are = subst (λ (l : List Line). AreEntries own l b.table) (append_assoc before (line ∷ []) b.front) b.are;
      none = subst (λ (l : List Line). HasEntryFlaw own l b.line b.flaw) (append_assoc before (line ∷ []) b.front) b.none;
    })

entered : (own : List ℕ) (before lines : List Line) (t : Table) → AreEntries own before t → Entered own before lines
entered own before [] t h = inl (t, subst (λ (l : List Line). AreEntries own l t) (no_front before) h)
entered own before (line ∷ lines) t h = entered_by own before line lines t h (entry_step own before t line h) (λ u g. entered own (before ++ line ∷ []) lines u g)

abbrev LineSays : List ℕ → List Line → List Mark → Type 0
LineSays own before marks = ((lines : List Line) × (t : Table) × AreOfLine marks lines × AreEntries own (before ++ lines) t) ⊎ ((fault : RulesFault) × HasOwnFault own before marks fault)

line_says_by : (own : List ℕ) (before : List Line) (marks : List Mark) (lines : List Line) → AreOfLine marks lines → Entered own before lines → LineSays own before marks
line_says_by own before marks lines of (inl (t, h)) = inl (lines, t, of, h)
line_says_by own before marks lines of (inr b) = inr (fault_at b.line.number b.flaw, inr (b.front, b.line, b.later, b.table, b.flaw, subst (AreOfLine marks) b.whole of, b.are, b.none, refl))

line_says : (own : List ℕ) (before : List Line) (marks : List Mark) (t : Table) → AreEntries own before t → ((lines : List Line) × AreOfLine marks lines) ⊎ ((line : ℕ) × LeavesOpen marks line) → LineSays own before marks
line_says own before marks t h (inl (lines, of)) = line_says_by own before marks lines of (entered own before lines t h)
line_says own before marks t h (inr (line, open_at)) = inr (faults.BadLine line, inl (line, open_at, refl))

-- one more joined line
lines_more : (joined : List (List Mark)) (marks : List Mark) (lines others : List Line) → AreOfLines joined lines → AreOfLine marks others → AreOfLines (joined ++ marks ∷ []) (lines ++ others)
lines_more [] marks lines others e of = (others, [], of, refl, ap (λ (l : List Line). l ++ others) e ∙ sym (append-nil others))
lines_more (first ∷ joined) marks lines others (front, later, of_front, of_later, e) of =
    (front, later ++ others, of_front, lines_more joined marks later others of_later of, ap (λ (l : List Line). l ++ others) e ∙ append_assoc front later others)

-- the joined lines behind those that say a table
abbrev Walk : List ℕ → List ℕ → Ending → List (List Mark) → Type 0
Walk own text last rest = (front : List (List Mark)) (lines : List Line) → AreGood own front lines → AreLinesOf text last (front ++ rest) → ((last ≡ Whole → ⊥) → rest ≡ [] → ⊥) → Either own text

walk_end : (own text : List ℕ) (last : Ending) → Walk own text last []
walk_end own text Whole front lines (t, of, are) lined h = inl (t, (front, lines, subst (AreLinesOf text Whole) (append-nil front) lined, of, are))
walk_end own text Plus front lines good lined h = absurd (h (λ e. absurd cc) refl)
walk_end own text Minus front lines good lined h = absurd (h (λ e. absurd cc) refl)

walk_line : (own text : List ℕ) (last : Ending) (marks : List Mark) (later front : List (List Mark)) (lines : List Line) (good : AreGood own front lines) → AreLinesOf text last (front ++ marks ∷ later) → ((last ≡ Whole → ⊥) → later ≡ [] → ⊥) → Walk own text last later → LineSays own lines marks → Either own text
walk_line own text last marks later front lines good lined h more (inr (fault, bad)) = inr (fault, record { last = last; front = front; marks = marks; later = later; lines = lines; are = lined; good = good; bad = inr (h, bad) })
walk_line own text last marks later front lines good lined h more (inl (others, t, of, are)) =
    more (front ++ marks ∷ []) (lines ++ others) (t, lines_more front marks lines others good.1 of, are) (subst (AreLinesOf text last) (sym (append_assoc front (marks ∷ []) later)) lined) h

walk_last : (own text : List ℕ) (last : Ending) (marks : List Mark) (front : List (List Mark)) (lines : List Line) → AreGood own front lines → AreLinesOf text last (front ++ marks ∷ []) → (last ≡ Whole → ⊥) → Either own text
walk_last own text last marks front lines good lined h =
    inr (faults.BadLine (first_line (length (lines_of text)) marks), record { last = last; front = front; marks = marks; later = []; lines = lines; are = lined; good = good; bad = inl (h, refl, refl) })

walk : (own text : List ℕ) (last : Ending) (rest : List (List Mark)) → Walk own text last rest
walk own text last [] = walk_end own text last
walk own text Whole (marks ∷ later) = λ front lines good lined h. walk_line own text Whole marks later front lines good lined (λ k e. k refl) (walk own text Whole later) (line_says own lines marks good.0 good.2 (mark_either marks))
walk own text Plus (marks ∷ []) = λ front lines good lined h. walk_last own text Plus marks front lines good lined (λ e. absurd cc)
walk own text Plus (marks ∷ other ∷ later) = λ front lines good lined h. walk_line own text Plus marks (other ∷ later) front lines good lined (λ k e. absurd cc) (walk own text Plus (other ∷ later)) (line_says own lines marks good.0 good.2 (mark_either marks))
walk own text Minus (marks ∷ []) = λ front lines good lined h. walk_last own text Minus marks front lines good lined (λ e. absurd cc)
walk own text Minus (marks ∷ other ∷ later) = λ front lines good lined h. walk_line own text Minus marks (other ∷ later) front lines good lined (λ k e. absurd cc) (walk own text Minus (other ∷ later)) (line_says own lines marks good.0 good.2 (mark_either marks))

-- a text without lines doesn't go on
no_onto : (e : Ending) (part : List Mark) (later : List (List Mark)) → IsOnto e part later [] → ⊥
no_onto Whole part later h = absurd cc
no_onto Plus part [] h = absurd cc
no_onto Plus part (first ∷ others) h = absurd cc
no_onto Minus part [] h = absurd cc
no_onto Minus part (first ∷ others) h = absurd cc

none_joined : (rows : List (List ℕ)) (before : Ending) (line at : ℕ) (last : Ending) → AreJoined before line at rows last [] → last ≡ before
none_joined [] before line at last h = h.0
none_joined (bytes ∷ rows) before line at last (inl (comment, h)) = none_joined rows before _ _ last h
none_joined (bytes ∷ rows) before line at last (inr (e, part, later, p, onto, h)) = absurd (no_onto e part later onto)

no_joined : (text : List ℕ) (last : Ending) (joined : List (List Mark)) → AreLinesOf text last joined → (last ≡ Whole → ⊥) → joined ≡ [] → ⊥
no_joined text last joined lined h e = h (none_joined (lines_of text) Whole 1 0 last (subst (AreLinesOf text last) e lined))

pub text_either : (own text : List ℕ) → Either own text
text_either own text =
    let j = some_joined text in
    walk own text j.last j.joined [] [] (table_with no_control [], refl, refl) j.are (no_joined text j.last j.joined j.are)

-- ---- what is read is written

found_by : (own text : List ℕ) (table : Table) → Either own text → table_of own text ≡ ok_table table → IsTable own text table
found_by own text table (inl (other, h)) e =
    let f : ok_table other ≡ ok_table table = sym (table_is own text other h) ∙ e in
    let same : other ≡ table = cc in
    subst (IsTable own text) same h
found_by own text table (inr (fault, h)) e = absurd (let f : err_table fault ≡ ok_table table = sym (fault_is own text fault h) ∙ e in cc)

pub table_found : (own text : List ℕ) (table : Table) → table_of own text ≡ ok_table table → IsTable own text table
table_found own text table e = found_by own text table (text_either own text) e

fault_by : (own text : List ℕ) (fault : RulesFault) → Either own text → table_of own text ≡ err_table fault → HasFault own text fault
fault_by own text fault (inl (table, h)) e = absurd (let f : ok_table table ≡ err_table fault = sym (table_is own text table h) ∙ e in cc)
fault_by own text fault (inr (other, h)) e =
    let f : err_table other ≡ err_table fault = sym (fault_is own text other h) ∙ e in
    let same : other ≡ fault = cc in
    subst (HasFault own text) same h

pub fault_found : (own text : List ℕ) (fault : RulesFault) → table_of own text ≡ err_table fault → HasFault own text fault
fault_found own text fault e = fault_by own text fault (text_either own text) e

pub one_table : (own text : List ℕ) (table other : Table) → IsTable own text table → IsTable own text other → table ≡ other
one_table own text table other h g = let f : ok_table table ≡ ok_table other = sym (table_is own text table h) ∙ table_is own text other g in cc

pub one_fault : (own text : List ℕ) (fault other : RulesFault) → HasFault own text fault → HasFault own text other → fault ≡ other
one_fault own text fault other h g = let f : err_table fault ≡ err_table other = sym (fault_is own text fault h) ∙ fault_is own text other g in cc

pub never_both : (own text : List ℕ) (table : Table) (fault : RulesFault) → IsTable own text table → HasFault own text fault → ⊥
never_both own text table fault h g = absurd (let f : ok_table table ≡ err_table fault = sym (table_is own text table h) ∙ fault_is own text fault g in cc)
