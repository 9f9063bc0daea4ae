-- A line with which a part begins, whole, both ways.
use Rattle.std.proofs.Common.{◌≡◌, ◌⊎◌, ℕ, Bool, true, false, cond, List, [], ◌∷◌, Result, Ok, Err, refl, sym, ap, subst, ◌∙◌}
use Rattle.std.specs.Prelude.{find, Option, Some, None}
use Rattle.std.specs.List.{list_all}
use Rattle.std.specs.Str.{bytes_eq}
use Rattle.std.proofs.lemmas.Slice.Eq.{bytes_eq-Decides}
use Rattle.mq_history.specs.declared.scenario.Scenario.{Scenario}
use Rattle.mq_scn_lines.specs.declared.fault.LineFault.{LineFault}
use Rattle.mq_scn_lines.specs.declared.fault.LineFault.TheVariants as faults
use Rattle.mq_scn_lines.specs.Faults.{both}
use Rattle.mq_scn_lines.specs.Words.{first_word, is_open, words_of}
use Rattle.mq_scn_heading.specs.declared.parts.PartWord.{PartWord}
use Rattle.mq_scn_heading.specs.declared.parts.PartWord.TheVariants as words
use Rattle.mq_scn_heading.specs.declared.parts.Stage.{Stage}
use Rattle.mq_scn_heading.specs.declared.heading.PartLine.{PartLine}
use Rattle.mq_scn_text.specs.declared.fault.ScenarioFault.{ScenarioFault}
use Rattle.mq_scn_text.specs.declared.reading.Reading.{Reading}
use Rattle.mq_scn_text.specs.Faults.{fault_at}
use Rattle.mq_scn_heading.specs.Parts.{part_words, part_text, part_word_of, allowed}
use Rattle.mq_scn_heading.specs.Heading.{part_line, part_read}
use Rattle.mq_scn_text.specs.Reading.{part_added, part_begun, part_of_word, part_from, part_line_read}
use Rattle.mq_scn_grammar.specs.Words.{IsWord}
use Rattle.mq_scn_grammar.proofs.Told.{Reports, told_both, told_via, value_read, fault_found, fault_read, either_way}
use Rattle.mq_scn_grammar.proofs.Words.{words_read as read_words, words_found}
use Rattle.mq_scn_grammar.proofs.Script.{some_front, is_letter, first_found, first_read, some_letters}
use Rattle.mq_scn_parts.specs.Heading.{IsPartOf, HasPartFault, IsAllowed, HasOrderFault, BeginsPart, IsPartLine, HasPartLineFault, IsPartLineFault}
use Rattle.mq_scn_parts.proofs.Heading.{part_tells, allowed_tells}

-- ---- the words of parts

text_letters : (word : PartWord) → (list_all is_letter (part_text word) ≡ true) × (part_text word ≡ [] → ⊥)
text_letters words.Network = (refl, λ e. absurd cc)
text_letters _ = (refl, λ e. absurd cc)

text_is_word : (word : PartWord) → IsWord (part_text word)
text_is_word word = let l = text_letters word in some_letters (part_text word) l.0 l.1

word_at : (word : PartWord) → part_word_of (part_text word) ≡ Some word
unfolding part_word_of
word_at words.Network = refl
word_at _ = refl

find_by : (text : List ℕ) (v : PartWord) (vs : List PartWord) (word : PartWord) → (find (λ (x : PartWord). bytes_eq (part_text x) text) vs ≡ Some word → part_text word ≡ text) → (t : Bool) → bytes_eq (part_text v) text ≡ t
    → cond t (Some v) (find (λ (x : PartWord). bytes_eq (part_text x) text) vs) ≡ Some word → part_text word ≡ text
find_by text v vs word more true e f = let same : v ≡ word = cc in ap part_text (sym same) ∙ (bytes_eq-Decides (part_text v) text).0 e
find_by text v vs word more false e f = more f

find_word : (text : List ℕ) (vs : List PartWord) (word : PartWord) → find (λ (x : PartWord). bytes_eq (part_text x) text) vs ≡ Some word → part_text word ≡ text
find_word text [] word f = absurd cc
find_word text (v ∷ vs) word f = find_by text v vs word (λ g. find_word text vs word g) (bytes_eq (part_text v) text) refl f

word_found : (text : List ℕ) (word : PartWord) → part_word_of text ≡ Some word → part_text word ≡ text
unfolding part_word_of
word_found text word f = find_word text part_words word f

word_same : (a b : PartWord) → Some a ≡ Some b → a ≡ b
word_same a b e = cc

word_never : (a : PartWord) → None ≡ Some a → ⊥
word_never a e = absurd cc

one_word : (a b : PartWord) → part_text a ≡ part_text b → a ≡ b
one_word a b e = word_same a b (sym (word_at a) ∙ ap part_word_of e ∙ word_at b)

-- ---- fronts of lines

abbrev Front : Type 0
Front = PartWord × List (List ℕ)

abbrev some_part : Front → Option Front
some_part p = Some p

abbrev no_part : Option Front
no_part = None

part_same : (p q : Front) → some_part p ≡ some_part q → p ≡ q
part_same p q e = cc

part_never : (p : Front) → no_part ≡ some_part p → ⊥
part_never p e = absurd cc

abbrev no_front : Option (List ℕ × List ℕ)
no_front = None

front_never : (p : List ℕ × List ℕ) → no_front ≡ some_front p → ⊥
front_never p e = absurd cc

-- the word of a part and those behind it, as they are read
abbrev closed_front : PartWord → List ℕ → Bool → Option Front
closed_front word rest unclosed = cond unclosed None (Some (word, words_of rest))

abbrev known_front : Option PartWord → List ℕ → Option Front
known_front None rest = None
known_front (Some word) rest = closed_front word rest (is_open false rest)

abbrev front_from : Option (List ℕ × List ℕ) → Option Front
front_from None = None
front_from (Some p) = known_front (part_word_of p.0) p.1

abbrev front : List ℕ → Option Front
front text = front_from (first_word text)

closed_found : (text : List ℕ) (word : PartWord) (rest : List ℕ) (p : Front) → first_word text ≡ some_front (part_text word, rest) → (unclosed : Bool) → is_open false rest ≡ unclosed → closed_front word rest unclosed ≡ some_part p → BeginsPart text p
closed_found text word rest p e true o f = absurd (part_never p f)
closed_found text word rest p e false o f =
    let at = first_found text (part_text word) rest e in
    subst (BeginsPart text) (part_same (word, words_of rest) p f) (at.blanks, rest, at.whole, at.are, text_is_word word, at.begins, words_found rest (words_of rest) o refl)

known_found : (text first rest : List ℕ) (p : Front) → first_word text ≡ some_front (first, rest) → (o : Option PartWord) → part_word_of first ≡ o → known_front o rest ≡ some_part p → BeginsPart text p
known_found text first rest p e None f g = absurd (part_never p g)
known_found text first rest p e (Some word) f g =
    closed_found text word rest p (e ∙ ap (λ (l : List ℕ). some_front (l, rest)) (sym (word_found first word f))) (is_open false rest) refl g

found_by : (text : List ℕ) (p : Front) (o : Option (List ℕ × List ℕ)) → first_word text ≡ o → front_from o ≡ some_part p → BeginsPart text p
found_by text p None e f = absurd (part_never p f)
found_by text p (Some q) e f = known_found text q.0 q.1 p e (part_word_of q.0) refl f

front_found : (text : List ℕ) (p : Front) → front text ≡ some_part p → BeginsPart text p
front_found text p f = found_by text p (first_word text) refl f

front_read : (text : List ℕ) (p : Front) → BeginsPart text p → front text ≡ some_part p
front_read text p (blanks, rest, e, are, is, begins, more) =
    let r = read_words rest p.1 more in
    ap front_from (first_read text blanks (part_text p.0) rest e are is begins)
    ∙ ap (λ (o : Option PartWord). known_front o rest) (word_at p.0)
    ∙ ap (closed_front p.0 rest) r.0
    ∙ ap (λ (ws : List (List ℕ)). some_part (p.0, ws)) r.1

-- ---- lines

abbrev at_front : Scenario → Stage → Option Front → Result (Stage × PartLine) LineFault
at_front s stage None = Err faults.Form
at_front s stage (Some p) = both (allowed s stage p.0) (part_line s p.0 p.1)

abbrev pub part_in : Scenario → Stage → List ℕ → Result (Stage × PartLine) LineFault
part_in s stage text = at_front s stage (front text)

pub line_tells : (s : Scenario) (stage : Stage) (text : List ℕ) → Reports (IsPartLine s stage text) (HasPartLineFault s stage text) (part_in s stage text)
line_tells s stage text =
    told_via (BeginsPart text) (λ p next. IsAllowed s stage p.0 next.0 × IsPartOf s p.0 p.1 next.1) (λ p f. HasOrderFault s stage p.0 f ⊎ HasPartFault s p.0 p.1 f) (front text) (at_front s stage) refl
    (λ p e. front_found text p e) (λ p h. front_read text p h)
    (λ p. told_both (IsAllowed s stage p.0) (IsPartOf s p.0 p.1) (HasOrderFault s stage p.0) (HasPartFault s p.0 p.1) (allowed s stage p.0) (part_line s p.0 p.1) (allowed_tells s stage p.0) (part_tells s p.0 p.1))

-- ---- what the reader of texts makes of such a line

abbrev begun : ℕ → Reading → Result (Stage × PartLine) LineFault → Result Reading ScenarioFault
begun number r x = part_begun number r x

read_by : (number : ℕ) (r : Reading) (word : PartWord) (rest : List ℕ) (unclosed : Bool) → is_open false rest ≡ unclosed
    → begun number r (cond unclosed (Err faults.Form) (both (allowed r.scenario r.stage word) (part_line r.scenario word (words_of rest)))) ≡ begun number r (at_front r.scenario r.stage (closed_front word rest unclosed))
read_by number r word rest true e = refl
read_by number r word rest false e = refl

known_by : (number : ℕ) (r : Reading) (rest : List ℕ) (o : Option PartWord) → part_of_word number r o rest ≡ begun number r (at_front r.scenario r.stage (known_front o rest))
unfolding part_read
known_by number r rest None = refl
known_by number r rest (Some word) = read_by number r word rest (is_open false rest) refl

from_by : (number : ℕ) (r : Reading) (o : Option (List ℕ × List ℕ)) → part_from number r o ≡ begun number r (at_front r.scenario r.stage (front_from o))
from_by number r None = refl
from_by number r (Some p) = known_by number r p.1 (part_word_of p.0)

pub line_is : (number : ℕ) (line : List ℕ) (r : Reading) → part_line_read number line r ≡ part_begun number r (part_in r.scenario r.stage line)
unfolding part_line_read
line_is number line r = from_by number r (first_word line)

-- ---- the laws

abbrev after : ℕ → Reading → Stage × PartLine → Reading
after number r p = part_added number p.1 (record r { stage = p.0 })

abbrev ok_reading : Reading → Result Reading ScenarioFault
ok_reading r = Ok r

abbrev err_reading : ScenarioFault → Result Reading ScenarioFault
err_reading fault = Err fault

reading_same : (a b : Reading) → ok_reading a ≡ ok_reading b → a ≡ b
reading_same a b e = cc

fault_same : (a b : ScenarioFault) → err_reading a ≡ err_reading b → a ≡ b
fault_same a b e = cc

reading_never : (a : Reading) (b : ScenarioFault) → ok_reading a ≡ err_reading b → ⊥
reading_never a b e = absurd cc

module _ (number : ℕ) (line : List ℕ) (r : Reading) where
  abbrev Is : Stage × PartLine → Type 0
  Is p = IsPartLine r.scenario r.stage line p

  abbrev Has : LineFault → Type 0
  Has f = HasPartLineFault r.scenario r.stage line f

  found_from : (x : Result (Stage × PartLine) LineFault) → Reports Is Has x → (t : Reading) → part_begun number r x ≡ ok_reading t → (p : Stage × PartLine) × Is p × (t ≡ after number r p)
  found_from (Ok p) h t e = (p, h.0, sym (reading_same (after number r p) t e))
  found_from (Err f) h t e = absurd (reading_never t (fault_at number f) (sym e))

  refused_from : (x : Result (Stage × PartLine) LineFault) → part_in r.scenario r.stage line ≡ x → (fault : ScenarioFault) → part_begun number r x ≡ err_reading fault → (f : LineFault) × IsPartLineFault r.scenario r.stage line f × (fault ≡ fault_at number f)
  refused_from (Ok p) f fault e = absurd (reading_never (after number r p) fault e)
  refused_from (Err g) f fault e = (g, fault_found Is Has (part_in r.scenario r.stage line) g (line_tells r.scenario r.stage line) f, sym (fault_same (fault_at number g) fault e))

  pub part_found : (t : Reading) → part_line_read number line r ≡ ok_reading t → (p : Stage × PartLine) × Is p × (t ≡ after number r p)
  part_found t e = found_from (part_in r.scenario r.stage line) (line_tells r.scenario r.stage line) t (sym (line_is number line r) ∙ e)

  pub part_is_read : (p : Stage × PartLine) → Is p → part_line_read number line r ≡ ok_reading (after number r p)
  part_is_read p h = line_is number line r ∙ ap (part_begun number r) (value_read Is Has (part_in r.scenario r.stage line) p (line_tells r.scenario r.stage line) h)

  pub part_refused : (fault : ScenarioFault) → part_line_read number line r ≡ err_reading fault → (f : LineFault) × IsPartLineFault r.scenario r.stage line f × (fault ≡ fault_at number f)
  part_refused fault e = refused_from (part_in r.scenario r.stage line) refl fault (sym (line_is number line r) ∙ e)

  pub part_is_refused : (f : LineFault) → IsPartLineFault r.scenario r.stage line f → part_line_read number line r ≡ err_reading (fault_at number f)
  part_is_refused f h = line_is number line r ∙ ap (part_begun number r) (fault_read Is Has (part_in r.scenario r.stage line) f (line_tells r.scenario r.stage line) h)

module _ (s : Scenario) (stage : Stage) (text : List ℕ) where
  abbrev ok_part : Stage × PartLine → Result (Stage × PartLine) LineFault
  ok_part p = Ok p

  abbrev err_part : LineFault → Result (Stage × PartLine) LineFault
  err_part f = Err f

  same_parts : (p q : Stage × PartLine) → ok_part p ≡ ok_part q → p ≡ q
  same_parts p q e = cc

  same_faults : (f g : LineFault) → err_part f ≡ err_part g → f ≡ g
  same_faults f g e = cc

  parts_never : (p : Stage × PartLine) (f : LineFault) → ok_part p ≡ err_part f → ⊥
  parts_never p f e = absurd cc

  read_part : (p : Stage × PartLine) → IsPartLine s stage text p → part_in s stage text ≡ ok_part p
  read_part p h = value_read (IsPartLine s stage text) (HasPartLineFault s stage text) (part_in s stage text) p (line_tells s stage text) h

  read_fault : (f : LineFault) → IsPartLineFault s stage text f → part_in s stage text ≡ err_part f
  read_fault f h = fault_read (IsPartLine s stage text) (HasPartLineFault s stage text) (part_in s stage text) f (line_tells s stage text) h

  pub one_part : (p q : Stage × PartLine) → IsPartLine s stage text p → IsPartLine s stage text q → p ≡ q
  one_part p q a b = same_parts p q (sym (read_part p a) ∙ read_part q b)

  pub one_fault : (f g : LineFault) → IsPartLineFault s stage text f → IsPartLineFault s stage text g → f ≡ g
  one_fault f g a b = same_faults f g (sym (read_fault f a) ∙ read_fault g b)

  pub never_both : (p : Stage × PartLine) (f : LineFault) → IsPartLine s stage text p → IsPartLineFault s stage text f → ⊥
  never_both p f a b = parts_never p f (sym (read_part p a) ∙ read_fault f b)

  pub either_part : ((p : Stage × PartLine) × IsPartLine s stage text p) ⊎ ((f : LineFault) × IsPartLineFault s stage text f)
  either_part = either_way (IsPartLine s stage text) (HasPartLineFault s stage text) (part_in s stage text) (line_tells s stage text)
