-- What an MQSC section says, and its faults, both ways.
use Rattle.std.proofs.Common.{◌≡◌, ◌⊎◌, ℕ, ◌-◌, ◌<◌, Bool, true, false, cond, List, [], ◌∷◌, ◌++◌, length, slice_get, Result, Ok, Err, refl, sym, ap, subst, ◌∙◌, append_assoc, append-nil, arith, inl, inr}
use Rattle.std.specs.Prelude.{Option, Some, None, nat_lt}
use Rattle.std.proofs.lemmas.Bool.Decides.{nat_tests}
use Rattle.std.proofs.lemmas.List.{length-append}
use Rattle.mq_sc_lex.specs.declared.joining.Mark.{Mark}
use Rattle.mq_sc_lex.specs.declared.joining.Joined.{Joined}
use Rattle.mq_sc_lex.specs.declared.joining.Ending.{Ending}
use Rattle.mq_sc_lex.specs.declared.joining.Ending.TheVariants.{Whole, Plus, Minus}
use Rattle.mq_sc_lex.specs.declared.token.Line.{Line}
use Rattle.mq_sc_lex.specs.Joining.{is_open, joined_of}
use Rattle.mq_sc_lex.specs.Tokens.{commands_of_marks}
use Rattle.mq_sc_parse.specs.declared.command.Command.{Command}
use Rattle.mq_sc_parse.specs.declared.fault.ScFault.{ScFault}
use Rattle.mq_sc_grammar.specs.Spelling.{kinds_of}
use Rattle.mq_sc_grammar.specs.Written.{AreOfLine, AreOfLines}
use Rattle.mq_sc_grammar.specs.Texts.{AreLinesOf}
use Rattle.mq_sc_grammar.specs.TextFaults.{LeavesOpen}
use Rattle.mq_sc_grammar.specs.Commands.{IsCommand}
use Rattle.mq_sc_grammar.specs.Faults.{IsFault}
use Rattle.mq_sc_grammar.proofs.Joins.{done}
use Rattle.mq_sc_grammar.proofs.Readings.{command_read}
use Rattle.mq_sc_grammar.proofs.Faulted.{fault_read, either_line}
use Rattle.mq_history.specs.declared.scenario.Section.{Section}
use Rattle.mq_scn_lines.specs.declared.fault.MqscFault.TheVariants as mqsc
use Rattle.mq_scn_text.specs.declared.fault.Cause.TheVariants as causes
use Rattle.mq_scn_text.specs.declared.fault.ScenarioFault.{ScenarioFault}
use Rattle.mq_scn_text.specs.declared.fault.ScenarioFault.TheVariants as faults
use Rattle.mq_scn_text.specs.declared.sections.Opened.{Opened}
use Rattle.mq_scn_text.specs.declared.sections.SectionRead.{SectionRead}
use Rattle.mq_scn_text.specs.Faults.{and_then}
use Rattle.mq_scn_text.specs.Sections.{line_in, command_fault, command_or_fault, commands_from, commands_in, line_read, joined_from, with_end, section_read, section_of, mqsc_ended, line_unless_open, last_in, last_of, goes_on_from, before_last, section_cut, mqsc_cut}
use Rattle.mq_law_scenario.specs.Sections.{AreCommands, IsSection, AreGood, HasOwnFault, HasBadCommand, HasSectionFault, GoesOnFrom, StandsBefore, HasCutFault}
use Rattle.mq_rules_grammar.proofs.MarkLines.{mark_read, open_read, mark_either, lines_joined, some_joined, goes_on}

abbrev ok_commands : List Command → Result (List Command) ScenarioFault
ok_commands commands = Ok commands

abbrev err_commands : ScenarioFault → Result (List Command) ScenarioFault
err_commands fault = Err fault

abbrev ok_read : SectionRead → Result SectionRead ScenarioFault
ok_read read = Ok read

abbrev err_read : ScenarioFault → Result SectionRead ScenarioFault
err_read fault = Err fault

abbrev ok_section : Section → Result Section ScenarioFault
ok_section section = Ok section

abbrev err_section : ScenarioFault → Result Section ScenarioFault
err_section fault = Err fault

-- ---- lines of commands alone

-- the commands of lines in two parts
record Parted (front later : List Line) (commands : List Command) : Type 0 where
  first : List Command
  others : List Command
  whole : commands ≡ first ++ others
  are_first : AreCommands front first
  are_others : AreCommands later others

parted : (front later : List Line) (commands : List Command) → AreCommands (front ++ later) commands → Parted front later commands
parted [] later commands h = record { first = []; others = commands; whole = refl; are_first = refl; are_others = h }
parted (line ∷ front) later commands (c, more, is, are, e) =
    let p = parted front later more are in
    record { first = c ∷ p.first; others = p.others; whole = e ∙ ap (λ (l : List Command). c ∷ l) p.whole; are_first = (c, p.first, is, p.are_first, refl); are_others = p.are_others }

joined_commands : (front later : List Line) (first others : List Command) → AreCommands front first → AreCommands later others → AreCommands (front ++ later) (first ++ others)
joined_commands [] later first others e h = subst (λ (l : List Command). AreCommands later (l ++ others)) (sym e) h
joined_commands (line ∷ front) later first others (c, more, is, are, e) h = (c, more ++ others, is, joined_commands front later more others are h, ap (λ (l : List Command). l ++ others) e)

module _ (first : ℕ) where
  good_commands : (lines : List Line) (commands before : List Command) (rest : List Line) → AreCommands lines commands → commands_from first before (lines ++ rest) ≡ commands_from first (before ++ commands) rest
  good_commands [] commands before rest h = ap (λ (b : List Command). commands_from first b rest) (sym (append-nil before) ∙ ap (λ (l : List Command). before ++ l) (sym h))
  good_commands (line ∷ lines) commands before rest (c, later, is, are, e) =
      ap (λ (r : Result Command ScFault). and_then (command_or_fault first r) (λ d. commands_from first (before ++ d ∷ []) (lines ++ rest))) (command_read line c is)
      ∙ good_commands lines later (before ++ c ∷ []) rest are
      ∙ ap (λ (b : List Command). commands_from first b rest) (append_assoc before (c ∷ []) later ∙ ap (λ (l : List Command). before ++ l) (sym e))

  good_line : (marks : List Mark) (lines : List Line) (commands before : List Command) → AreOfLine marks lines → AreCommands lines commands → line_read first before marks ≡ ok_commands (before ++ commands)
  good_line marks lines commands before of are =
      ap (commands_in first before) (mark_read marks lines of) ∙ ap (commands_from first before) (sym (append-nil lines)) ∙ good_commands lines commands before [] are

  good_lines : (joined : List (List Mark)) (lines : List Line) (commands before : List Command) (rest : List (List Mark)) → AreOfLines joined lines → AreCommands lines commands
      → joined_from first before (joined ++ rest) ≡ joined_from first (before ++ commands) rest
  good_lines [] lines commands before rest e are =
      let none : AreCommands [] commands = subst (λ (l : List Line). AreCommands l commands) e are in
      ap (λ (b : List Command). joined_from first b rest) (sym (append-nil before) ∙ ap (λ (l : List Command). before ++ l) (sym none))
  good_lines (marks ∷ joined) lines commands before rest (front, later, of_front, of_later, e) are =
      let p = parted front later commands (subst (λ (l : List Line). AreCommands l commands) e are) in
      ap (λ (r : Result (List Command) ScenarioFault). and_then r (λ cs. joined_from first cs (joined ++ rest))) (good_line marks front p.first before of_front p.are_first)
      ∙ good_lines joined later p.others (before ++ p.first) rest of_later p.are_others
      ∙ ap (λ (b : List Command). joined_from first b rest) (append_assoc before p.first p.others ∙ ap (λ (l : List Command). before ++ l) (sym p.whole))

  -- ---- a line at fault

  own_read : (marks : List Mark) (before : List Command) (fault : ScenarioFault) → HasOwnFault first marks fault → line_read first before marks ≡ err_commands fault
  own_read marks before fault (inl (line, open_at, e)) = ap (commands_in first before) (open_read marks line open_at) ∙ ap err_commands (sym e)
  own_read marks before fault (inr (front, line, later, commands, own, of, are, is, e)) =
      ap (commands_in first before) (mark_read marks (front ++ line ∷ later) of)
      ∙ good_commands front commands before (line ∷ later) are
      ∙ ap (λ (r : Result Command ScFault). and_then (command_or_fault first r) (λ d. commands_from first ((before ++ commands) ++ d ∷ []) later)) (fault_read line own is)
      ∙ ap err_commands (sym e)

  bad_read : (front : List (List Mark)) (marks : List Mark) (later : List (List Mark)) (before : List Command) (fault : ScenarioFault) → AreGood front → HasOwnFault first marks fault
      → joined_from first before (front ++ marks ∷ later) ≡ err_commands fault
  bad_read front marks later before fault (lines, commands, of, are) own =
      good_lines front lines commands before (marks ∷ later) of are
      ∙ ap (λ (r : Result (List Command) ScenarioFault). and_then r (λ cs. joined_from first cs later)) (own_read marks (before ++ commands) fault own)

  -- ---- each line is of commands alone, or at fault

  record BadLine (lines : List Line) : Type 0 where
    front : List Line
    line : Line
    later : List Line
    commands : List Command
    own : ScFault
    whole : lines ≡ front ++ line ∷ later
    are : AreCommands front commands
    is : IsFault line own

  tokens_by : (line : Line) (lines : List Line) → ((c : Command) × IsCommand (kinds_of line.tokens) c) ⊎ ((own : ScFault) × IsFault line own) → ((commands : List Command) × AreCommands lines commands) ⊎ BadLine lines
      → ((commands : List Command) × AreCommands (line ∷ lines) commands) ⊎ BadLine (line ∷ lines)
  tokens_by line lines (inl (c, is)) (inl (commands, are)) = inl (c ∷ commands, (c, commands, is, are, refl))
  tokens_by line lines (inl (c, is)) (inr b) =
      inr (record { front = line ∷ b.front; line = b.line; later = b.later; commands = c ∷ b.commands; own = b.own; whole = ap (λ (l : List Line). line ∷ l) b.whole; are = (c, b.commands, is, b.are, refl); is = b.is })
  tokens_by line lines (inr (own, is)) more = inr (record { front = []; line = line; later = lines; commands = []; own = own; whole = refl; are = refl; is = is })

  tokens_either : (lines : List Line) → ((commands : List Command) × AreCommands lines commands) ⊎ BadLine lines
  tokens_either [] = inl ([], refl)
  tokens_either (line ∷ lines) = tokens_by line lines (either_line line) (tokens_either lines)

  abbrev GoodLine : List Mark → Type 0
  GoodLine marks = (lines : List Line) × (commands : List Command) × AreOfLine marks lines × AreCommands lines commands

  abbrev OwnFault : List Mark → Type 0
  OwnFault marks = (fault : ScenarioFault) × HasOwnFault first marks fault

  line_tokens : (marks : List Mark) (lines : List Line) → AreOfLine marks lines → ((commands : List Command) × AreCommands lines commands) ⊎ BadLine lines → GoodLine marks ⊎ OwnFault marks
  line_tokens marks lines of (inl (commands, are)) = inl (lines, commands, of, are)
  line_tokens marks lines of (inr b) = inr (command_fault first b.own, inr (b.front, b.line, b.later, b.commands, b.own, subst (AreOfLine marks) b.whole of, b.are, b.is, refl))

  line_by : (marks : List Mark) → ((lines : List Line) × AreOfLine marks lines) ⊎ ((line : ℕ) × LeavesOpen marks line) → GoodLine marks ⊎ OwnFault marks
  line_by marks (inl (lines, of)) = line_tokens marks lines of (tokens_either lines)
  line_by marks (inr (line, h)) = inr (faults.BadLine (line_in first line) (causes.Mqsc mqsc.OpenQuote), inl (line, h, refl))

  record Bad (joined : List (List Mark)) : Type 0 where
    front : List (List Mark)
    marks : List Mark
    later : List (List Mark)
    fault : ScenarioFault
    whole : joined ≡ front ++ marks ∷ later
    good : AreGood front
    own : HasOwnFault first marks fault

  good_both : (marks : List Mark) (joined : List (List Mark)) → GoodLine marks → AreGood joined → AreGood (marks ∷ joined)
  good_both marks joined (lines, commands, of, are) (more, others, of_more, are_more) = (lines ++ more, commands ++ others, (lines, more, of, of_more, refl), joined_commands lines more commands others are are_more)

  lines_by : (marks : List Mark) (joined : List (List Mark)) → GoodLine marks ⊎ OwnFault marks → AreGood joined ⊎ Bad joined → AreGood (marks ∷ joined) ⊎ Bad (marks ∷ joined)
  lines_by marks joined (inl good) (inl more) = inl (good_both marks joined good more)
  lines_by marks joined (inl good) (inr b) = inr (record { front = marks ∷ b.front; marks = b.marks; later = b.later; fault = b.fault; whole = ap (λ (l : List (List Mark)). marks ∷ l) b.whole; good = good_both marks b.front good b.good; own = b.own })
  lines_by marks joined (inr (fault, own)) more = inr (record { front = []; marks = marks; later = joined; fault = fault; whole = refl; good = ([], [], refl, refl); own = own })

  lines_either : (joined : List (List Mark)) → AreGood joined ⊎ Bad joined
  lines_either [] = inl ([], [], refl, refl)
  lines_either (marks ∷ joined) = lines_by marks joined (line_by marks (mark_either marks)) (lines_either joined)

  -- ---- a whole text

  good_text : (text : List ℕ) (last : Ending) (joined : List (List Mark)) (lines : List Line) (commands : List Command) → AreLinesOf text last joined → AreOfLines joined lines → AreCommands lines commands
      → section_read first text ≡ ok_read (record { commands = commands; unfinished = is_open last })
  unfolding section_read
  good_text text last joined lines commands lined of are =
      let all : joined_from first [] joined ≡ ok_commands commands = ap (joined_from first []) (sym (append-nil joined)) ∙ good_lines joined lines commands [] [] of are in
      ap (λ (j : Joined). with_end j.unfinished (joined_from first [] j.lines)) (lines_joined text last joined lined) ∙ ap (with_end (is_open last)) all

  bad_text : (text : List ℕ) (fault : ScenarioFault) → HasBadCommand first text fault → section_read first text ≡ err_read fault
  unfolding section_read
  bad_text text fault h =
      ap (λ (j : Joined). with_end j.unfinished (joined_from first [] j.lines)) (lines_joined text h.last (h.front ++ h.marks ∷ h.later) h.are)
      ∙ ap (with_end (is_open h.last)) (bad_read h.front h.marks h.later [] fault h.good h.own)

  abbrev GoodText : List ℕ → Type 0
  GoodText text = (last : Ending) × (joined : List (List Mark)) × (lines : List Line) × (commands : List Command) × AreLinesOf text last joined × AreOfLines joined lines × AreCommands lines commands

  text_by : (text : List ℕ) (last : Ending) (joined : List (List Mark)) → AreLinesOf text last joined → AreGood joined ⊎ Bad joined → GoodText text ⊎ ((fault : ScenarioFault) × HasBadCommand first text fault)
  text_by text last joined lined (inl (lines, commands, of, are)) = inl (last, joined, lines, commands, lined, of, are)
  text_by text last joined lined (inr b) = inr (b.fault, record { last = last; front = b.front; marks = b.marks; later = b.later; are = subst (AreLinesOf text last) b.whole lined; good = b.good; own = b.own })

  text_either : (text : List ℕ) → GoodText text ⊎ ((fault : ScenarioFault) × HasBadCommand first text fault)
  text_either text = let j = some_joined text in text_by text j.last j.joined j.are (lines_either j.joined)

  refused_by : (text : List ℕ) (fault : ScenarioFault) → section_read first text ≡ err_read fault → GoodText text ⊎ ((own : ScenarioFault) × HasBadCommand first text own) → HasBadCommand first text fault
  refused_by text fault e (inl (last, joined, lines, commands, lined, of, are)) =
      absurd (let f : ok_read (record { commands = commands; unfinished = is_open last }) ≡ err_read fault = sym (good_text text last joined lines commands lined of are) ∙ e in cc)
  refused_by text fault e (inr (own, h)) =
      let f : err_read own ≡ err_read fault = sym (bad_text text own h) ∙ e in
      let same : own ≡ fault = cc in
      subst (HasBadCommand first text) same h

  text_refused : (text : List ℕ) (fault : ScenarioFault) → section_read first text ≡ err_read fault → HasBadCommand first text fault
  text_refused text fault e = refused_by text fault e (text_either text)

-- ---- sections with their ends

pub section_is : (number : ℕ) (o : Opened) (section : Section) → IsSection o section → mqsc_ended number o ≡ ok_section section
unfolding mqsc_ended
section_is number o section (lines, commands, (joined, lined, of), are, e) =
    ap (λ (r : Result SectionRead ScenarioFault). and_then r (section_of number o)) (good_text o.first o.text Whole joined lines commands lined of are) ∙ ap ok_section (sym e)

pub section_fault_is : (number : ℕ) (o : Opened) (fault : ScenarioFault) → HasSectionFault number o fault → mqsc_ended number o ≡ err_section fault
unfolding mqsc_ended
section_fault_is number o fault (inl h) = ap (λ (r : Result SectionRead ScenarioFault). and_then r (section_of number o)) (bad_text o.first o.text fault h)
section_fault_is number o fault (inr ((last, joined, more, lined, (lines, commands, of, are)), e)) =
    ap (λ (r : Result SectionRead ScenarioFault). and_then r (section_of number o)) (good_text o.first o.text last joined lines commands lined of are)
    ∙ ap (λ (b : Bool). section_of number o (record { commands = commands; unfinished = b })) (goes_on last more) ∙ ap err_section (sym e)

abbrev EitherSection : ℕ → Opened → Type 0
EitherSection number o = ((section : Section) × IsSection o section) ⊎ ((fault : ScenarioFault) × HasSectionFault number o fault)

good_either : (number : ℕ) (o : Opened) (last : Ending) (joined : List (List Mark)) (lines : List Line) (commands : List Command) → AreLinesOf o.text last joined → AreOfLines joined lines → AreCommands lines commands → EitherSection number o
good_either number o Whole joined lines commands lined of are = inl (record { label = o.label; manager = o.manager; commands = commands }, (lines, commands, (joined, lined, of), are, refl))
good_either number o Plus joined lines commands lined of are = inr (faults.BadLine number (causes.Mqsc mqsc.OpenContinuation), inr ((Plus, joined, (λ q. absurd cc), lined, (lines, commands, of, are)), refl))
good_either number o Minus joined lines commands lined of are = inr (faults.BadLine number (causes.Mqsc mqsc.OpenContinuation), inr ((Minus, joined, (λ q. absurd cc), lined, (lines, commands, of, are)), refl))

section_by : (number : ℕ) (o : Opened) → GoodText o.first o.text ⊎ ((fault : ScenarioFault) × HasBadCommand o.first o.text fault) → EitherSection number o
section_by number o (inl (last, joined, lines, commands, lined, of, are)) = good_either number o last joined lines commands lined of are
section_by number o (inr (fault, h)) = inr (fault, inl h)

section_either : (number : ℕ) (o : Opened) → EitherSection number o
section_either number o = section_by number o (text_either o.first o.text)

found_by : (number : ℕ) (o : Opened) (section : Section) → mqsc_ended number o ≡ ok_section section → EitherSection number o → IsSection o section
found_by number o section e (inl (other, h)) =
    let f : ok_section other ≡ ok_section section = sym (section_is number o other h) ∙ e in
    let same : other ≡ section = cc in
    subst (IsSection o) same h
found_by number o section e (inr (fault, h)) = absurd (let f : err_section fault ≡ ok_section section = sym (section_fault_is number o fault h) ∙ e in cc)

pub section_found : (number : ℕ) (o : Opened) (section : Section) → mqsc_ended number o ≡ ok_section section → IsSection o section
section_found number o section e = found_by number o section e (section_either number o)

fault_by : (number : ℕ) (o : Opened) (fault : ScenarioFault) → mqsc_ended number o ≡ err_section fault → EitherSection number o → HasSectionFault number o fault
fault_by number o fault e (inl (section, h)) = absurd (let f : ok_section section ≡ err_section fault = sym (section_is number o section h) ∙ e in cc)
fault_by number o fault e (inr (other, h)) =
    let f : err_section other ≡ err_section fault = sym (section_fault_is number o other h) ∙ e in
    let same : other ≡ fault = cc in
    subst (HasSectionFault number o) same h

pub section_refused : (number : ℕ) (o : Opened) (fault : ScenarioFault) → mqsc_ended number o ≡ err_section fault → HasSectionFault number o fault
section_refused number o fault e = fault_by number o fault e (section_either number o)

-- ---- the line from which on the last one goes on

last_there : (front : List (List Mark)) (x : List Mark) → slice_get (front ++ x ∷ []) (length (front ++ x ∷ []) - 1) ≡ Some x
last_there front x =
    let k : length (front ++ x ∷ []) - 1 ≡ length front = omega (arith, length-append front (x ∷ [])) in
    ap (slice_get (front ++ x ∷ [])) k ∙ there front
  where
    there : (front : List (List Mark)) → slice_get (front ++ x ∷ []) (length front) ≡ Some x
    there [] = refl
    there (y ∷ front) = there front

abbrev some_from : ℕ → Option ℕ
some_from from = Some from

abbrev no_from : Option ℕ
no_from = None

pub from_read : (text : List ℕ) (from : ℕ) → GoesOnFrom text from → goes_on_from (joined_of text) ≡ some_from from
from_read text from (last, front, m, ms, lines, more, lined, of, e) =
    let joined : List (List Mark) = front ++ (m ∷ ms) ∷ [] in
    ap goes_on_from (lines_joined text last joined lined)
    ∙ ap (λ (b : Bool). cond b (last_of (slice_get joined (length joined - 1))) no_from) (goes_on last more)
    ∙ ap last_of (last_there front (m ∷ ms))
    ∙ ap (line_unless_open m.line) (mark_read (m ∷ ms) lines of)
    ∙ ap some_from (sym e)

-- the last of some lines, if there is one
record Ended (joined : List (List Mark)) : Type 0 where
  front : List (List Mark)
  last : List Mark
  whole : joined ≡ front ++ last ∷ []

ended_by : (x : List Mark) (joined : List (List Mark)) → (joined ≡ []) ⊎ Ended joined → Ended (x ∷ joined)
ended_by x joined (inl e) = record { front = []; last = x; whole = ap (λ (l : List (List Mark)). x ∷ l) e }
ended_by x joined (inr h) = record { front = x ∷ h.front; last = h.last; whole = ap (λ (l : List (List Mark)). x ∷ l) h.whole }

ended : (joined : List (List Mark)) → (joined ≡ []) ⊎ Ended joined
ended [] = inl refl
ended (x ∷ joined) = inr (ended_by x joined (ended joined))

from_marks : (text : List ℕ) (from : ℕ) (last : Ending) (front : List (List Mark)) (m : Mark) (ms : List Mark) → (last ≡ Whole → ⊥) → AreLinesOf text last (front ++ (m ∷ ms) ∷ []) → ((lines : List Line) × AreOfLine (m ∷ ms) lines) ⊎ ((line : ℕ) × LeavesOpen (m ∷ ms) line)
    → line_unless_open m.line (commands_of_marks (m ∷ ms)) ≡ some_from from → GoesOnFrom text from
from_marks text from last front m ms more lined (inl (lines, of)) e =
    let f : some_from m.line ≡ some_from from = sym (ap (line_unless_open m.line) (mark_read (m ∷ ms) lines of)) ∙ e in
    let same : from ≡ m.line = cc in
    (last, front, m, ms, lines, more, lined, of, same)
from_marks text from last front m ms more lined (inr (line, h)) e = absurd (let f : no_from ≡ some_from from = sym (ap (line_unless_open m.line) (open_read (m ∷ ms) line h)) ∙ e in cc)

from_last : (text : List ℕ) (from : ℕ) (last : Ending) (front : List (List Mark)) (marks : List Mark) → (last ≡ Whole → ⊥) → AreLinesOf text last (front ++ marks ∷ []) → last_in marks ≡ some_from from → GoesOnFrom text from
from_last text from last front [] more lined e = absurd cc
from_last text from last front (m ∷ ms) more lined e = from_marks text from last front m ms more lined (mark_either (m ∷ ms)) e

from_joined : (text : List ℕ) (from : ℕ) (last : Ending) (joined : List (List Mark)) → (last ≡ Whole → ⊥) → AreLinesOf text last joined → (joined ≡ []) ⊎ Ended joined → last_of (slice_get joined (length joined - 1)) ≡ some_from from → GoesOnFrom text from
from_joined text from last joined more lined (inl none) e =
    absurd (let f : no_from ≡ some_from from = sym (ap (λ (l : List (List Mark)). last_of (slice_get l (length l - 1))) none) ∙ e in cc)
from_joined text from last joined more lined (inr h) e =
    from_last text from last h.front h.last more (subst (AreLinesOf text last) h.whole lined)
    (sym (ap last_of (ap (λ (l : List (List Mark)). slice_get l (length l - 1)) h.whole ∙ last_there h.front h.last)) ∙ e)

from_by : (text : List ℕ) (from : ℕ) (last : Ending) (joined : List (List Mark)) → AreLinesOf text last joined → goes_on_from (done last joined) ≡ some_from from → GoesOnFrom text from
from_by text from Whole joined lined e = absurd cc
from_by text from Plus joined lined e = from_joined text from Plus joined (λ q. absurd cc) lined (ended joined) e
from_by text from Minus joined lined e = from_joined text from Minus joined (λ q. absurd cc) lined (ended joined) e

pub from_found : (text : List ℕ) (from : ℕ) → goes_on_from (joined_of text) ≡ some_from from → GoesOnFrom text from
from_found text from e = let j = some_joined text in from_by text from j.last j.joined j.are (sym (ap goes_on_from (lines_joined text j.last j.joined j.are)) ∙ e)

-- ---- what stands before that line

abbrev pub err_cut : ScenarioFault → Result (Unit {0}) ScenarioFault
err_cut fault = Err fault

abbrev pub ok_cut : Result (Unit {0}) ScenarioFault
ok_cut = Ok tt

below : (m n : ℕ) → m < n → nat_lt m n ≡ true
below m n lt = grind (arith, nat_tests)

is_below : (m n : ℕ) → nat_lt m n ≡ true → m < n
is_below m n e = grind (arith, nat_tests)

told_at : (first from : ℕ) (fault : ScenarioFault) → StandsBefore fault (line_in first from) → before_last first (Some from) fault ≡ err_cut fault
told_at first from (faults.BadLine line cause) h = ap (λ (b : Bool). cond b (err_cut (faults.BadLine line cause)) ok_cut) (below line (line_in first from) h)
told_at first from (faults.Limit line limit) h = refl
told_at first from faults.NoMemory h = refl

told_by : (first : ℕ) (fault : ScenarioFault) (o : Option ℕ) → ((from : ℕ) → o ≡ some_from from → StandsBefore fault (line_in first from)) → before_last first o fault ≡ err_cut fault
told_by first fault None h = refl
told_by first fault (Some from) h = told_at first from fault (h from refl)

-- a fault that is told stands before the line from which on the last one goes on
pub told_read : (text : List ℕ) (first : ℕ) (fault : ScenarioFault) → ((from : ℕ) → GoesOnFrom text from → StandsBefore fault (line_in first from)) → before_last first (goes_on_from (joined_of text)) fault ≡ err_cut fault
told_read text first fault h = told_by first fault (goes_on_from (joined_of text)) (λ from e. h from (from_found text from e))

stands_by : (line number : ℕ) (fault own : ScenarioFault) (b : Bool) → nat_lt line number ≡ b → cond b (err_cut fault) ok_cut ≡ err_cut own → line < number
stands_by line number fault own true f e = is_below line number f
stands_by line number fault own false f e = absurd cc

stands : (first from : ℕ) (fault own : ScenarioFault) → before_last first (Some from) fault ≡ err_cut own → StandsBefore fault (line_in first from)
stands first from (faults.BadLine line cause) own e = stands_by line (line_in first from) (faults.BadLine line cause) own (nat_lt line (line_in first from)) refl e
stands first from (faults.Limit line limit) own e = tt
stands first from faults.NoMemory own e = tt

same_at : (first from : ℕ) (fault own : ScenarioFault) (b : Bool) → cond b (err_cut fault) ok_cut ≡ err_cut own → fault ≡ own
same_at first from fault own true e = cc
same_at first from fault own false e = absurd cc

same_by : (first : ℕ) (fault own : ScenarioFault) (o : Option ℕ) → before_last first o fault ≡ err_cut own → fault ≡ own
same_by first fault own None e = cc
same_by first (faults.BadLine line cause) own (Some from) e = same_at first from (faults.BadLine line cause) own (nat_lt line (line_in first from)) e
same_by first (faults.Limit line limit) own (Some from) e = cc
same_by first faults.NoMemory own (Some from) e = cc

-- the fault that is told is the text's, and stands before that line
pub told_found : (text : List ℕ) (first : ℕ) (fault own : ScenarioFault) → before_last first (goes_on_from (joined_of text)) fault ≡ err_cut own → (fault ≡ own) × ((from : ℕ) → GoesOnFrom text from → StandsBefore own (line_in first from))
told_found text first fault own e =
    let same = same_by first fault own (goes_on_from (joined_of text)) e in
    (same, λ from h. subst (λ (f : ScenarioFault). StandsBefore f (line_in first from)) same (stands first from fault own (sym (ap (λ (o : Option ℕ). before_last first o fault) (from_read text from h)) ∙ e)))

-- ---- sections that no line ends

pub cut_is : (o : Opened) (fault : ScenarioFault) → HasCutFault o fault → mqsc_cut o ≡ err_cut fault
unfolding mqsc_cut
cut_is o fault h = ap (section_cut o.first (goes_on_from (joined_of o.text))) (bad_text o.first o.text fault h.0) ∙ told_read o.text o.first fault h.1

cut_by : (o : Opened) (fault : ScenarioFault) (r : Result SectionRead ScenarioFault) → section_read o.first o.text ≡ r → section_cut o.first (goes_on_from (joined_of o.text)) r ≡ err_cut fault → HasCutFault o fault
cut_by o fault (Ok read) f e = absurd cc
cut_by o fault (Err own) f e =
    let t = told_found o.text o.first own fault e in
    (subst (HasBadCommand o.first o.text) t.0 (text_refused o.first o.text own f), t.1)

pub cut_found : (o : Opened) (fault : ScenarioFault) → mqsc_cut o ≡ err_cut fault → HasCutFault o fault
unfolding mqsc_cut
cut_found o fault e = cut_by o fault (section_read o.first o.text) refl e
