-- A line of a script, whole, both ways.
use Rattle.std.proofs.Common.{◌≡◌, ◌⊎◌, ℕ, suc, ◌+◌, ◌≤◌, ◌<◌, Bool, true, false, cond, eqb, List, [], ◌∷◌, ◌++◌, length, take, drop, refl, sym, ap, subst, ◌∙◌, arith, inl, inr}
use Rattle.std.specs.Prelude.{Option, Some, None, Result, Ok, Err, find, not, ◌&&◌}
use Rattle.std.specs.List.{list_all}
use Rattle.std.specs.Str.{bytes_eq}
use Rattle.std.proofs.Math.Seq.{take-append_seam, drop-append_seam}
use Rattle.std.proofs.lemmas.Bool.{and_parts}
use Rattle.std.proofs.lemmas.Bool.Decides.{eqb_tells}
use Rattle.std.proofs.lemmas.List.{take-append-drop}
use Rattle.std.proofs.lemmas.Slice.Eq.{bytes_eq-Decides}
use Rattle.mq_sc_parse.specs.declared.command.Command.{Command}
use Rattle.mq_history.specs.declared.scripts.ScriptLine.{ScriptLine}
use Rattle.mq_history.specs.declared.scripts.ScriptLine.TheVariants as lines
use Rattle.mq_scn_lines.specs.declared.fault.LineFault.{LineFault}
use Rattle.mq_scn_lines.specs.declared.fault.LineFault.TheVariants as faults
use Rattle.mq_scn_lines.specs.Faults.{rank}
use Rattle.mq_scn_lines.specs.Words.{word_len, toggled, is_open, words_of, first_word}
use Rattle.mq_scn_script.specs.declared.verbs.ScriptVerb.{ScriptVerb}
use Rattle.mq_scn_script.specs.declared.verbs.ScriptVerb.TheVariants as verbs
use Rattle.mq_scn_script.specs.Verbs.{all_verbs, verb_word, verb_of}
use Rattle.mq_scn_script.specs.Commands.{command_in}
use Rattle.mq_scn_script.specs.Lines.{commanded, called, verb_read, line_from, script_line}
use Rattle.mq_scn_grammar.specs.Words.{AreBlanks, BeginsBlank, ArePieces, IsWord}
use Rattle.mq_scn_grammar.specs.Faults.{IsTold}
use Rattle.mq_scn_grammar.specs.ScriptLines.{verb_of_line, IsRest, HasFault, IsMqsc, AreVerbWords, IsScriptLine, HasLineFault, IsScriptFault}
use Rattle.mq_scn_grammar.proofs.Told.{Reports, IsFirst}
use Rattle.mq_scn_grammar.proofs.Words.{WordAt, word_at, words_read as read_words, words_found}
use Rattle.mq_scn_grammar.proofs.OneCommand.{command_is, command_found, refusal_is, refusal_found as one_refusal_found}
use Rattle.mq_scn_grammar.proofs.ScriptLines.{LinesOf, called_tells}

-- ---- what is answered, of whatever fault

abbrev pub Answers : {A : Type 0} → (A → Type 0) → (LineFault → Type 0) → Result A LineFault → Type 0
Answers Is Has (Ok x) = Is x × ((y : _) → Is y → y ≡ x) × ((f : LineFault) → Has f → ⊥)
Answers Is Has (Err f) = ((x : _) → Is x → ⊥) × Has f × IsFirst Has f

module _ {A : Type 0} (Is : A → Type 0) (Has : LineFault → Type 0) where
  pub answer_found : (r : Result A LineFault) (x : A) → Answers Is Has r → r ≡ Ok x → Is x
  answer_found (Ok y) x t e = let same : y ≡ x = cc in subst Is same t.0
  answer_found (Err f) x t e = absurd cc

  pub answer_read : (r : Result A LineFault) (x : A) → Answers Is Has r → Is x → r ≡ Ok x
  answer_read (Ok y) x t h = ap (λ (z : A). Ok z) (sym (t.1 x h))
  answer_read (Err f) x t h = absurd (t.0 x h)

  not_before : (f g : LineFault) → (g ≡ f) ⊎ (rank f < rank g) → rank f ≤ rank g
  not_before f g (inl e) = let same : rank g ≡ rank f = ap rank e in omega (arith, same)
  not_before f g (inr lt) = omega (arith, lt)

  the_same : (f g : LineFault) → rank f ≤ rank g → (f ≡ g) ⊎ (rank g < rank f) → f ≡ g
  the_same f g le (inl e) = e
  the_same f g le (inr lt) = absurd (omega (arith, le, lt))

  pub refusal_found : (r : Result A LineFault) (f : LineFault) → Answers Is Has r → r ≡ Err f → IsTold Has f
  refusal_found (Ok y) f t e = absurd cc
  refusal_found (Err g) f t e = let same : g ≡ f = cc in subst (IsTold Has) same (t.1, λ h p. not_before g h (t.2 h p))

  pub refusal_read : (r : Result A LineFault) (f : LineFault) → Answers Is Has r → IsTold Has f → r ≡ Err f
  refusal_read (Ok y) f t h = absurd (t.2 f h.0)
  refusal_read (Err g) f t h = ap (λ (e : LineFault). Err e) (sym (the_same f g (h.1 g t.1) (t.2 f h.0)))

  pub either_answer : (r : Result A LineFault) → Answers Is Has r → ((x : A) × Is x) ⊎ ((f : LineFault) × IsTold Has f)
  either_answer (Ok y) t = inl (y, t.0)
  either_answer (Err g) t = inr (g, (t.1, λ h p. not_before g h (t.2 h p)))

  -- what a reader reports that has these values and faults
  pub answers_as : (Js : A → Type 0) (Gas : LineFault → Type 0) (r : Result A LineFault) → ((x : A) → Is x → Js x) → ((x : A) → Js x → Is x) → ((f : LineFault) → Has f → Gas f) → ((f : LineFault) → Gas f → Has f) → Reports Is Has r → Answers Js Gas r
  answers_as Js Gas (Ok x) a b c d t = (a x t.0, (λ y h. t.1 y (b y h)), λ f h. t.2 f (d f h))
  answers_as Js Gas (Err f) a b c d t = ((λ x h. t.0 x (b x h)), c f t.1, λ g h. t.3 g (d g h))

-- ---- answers that differ

abbrev pub some_front : List ℕ × List ℕ → Option (List ℕ × List ℕ)
some_front p = Some p

abbrev pub no_front : Option (List ℕ × List ℕ)
no_front = None

abbrev none_verb : Option ScriptVerb
none_verb = None

abbrev ok_at : {A : Type 0} → A → Result A LineFault
ok_at x = Ok x

abbrev err_at : LineFault → Result Command LineFault
err_at f = Err f

ok_never : (c : Command) (f : LineFault) → err_at f ≡ ok_at c → ⊥
ok_never c f e = absurd cc

err_command : (f g : LineFault) → err_at f ≡ err_at g → f ≡ g
err_command f g e = cc

some_verb_never : (verb : ScriptVerb) → none_verb ≡ Some verb → ⊥
some_verb_never verb e = absurd cc

pub no_front_never : (p : List ℕ × List ℕ) → no_front ≡ some_front p → ⊥
no_front_never p e = absurd cc

-- ---- the first word

abbrev pair : List ℕ → List ℕ → List ℕ × List ℕ
pair v r = (v, r)

pub front_same : (v w r s : List ℕ) → some_front (v, r) ≡ some_front (w, s) → (v ≡ w) × (r ≡ s)
front_same v w r s e = let same : pair v r ≡ pair w s = cc in (ap (λ (p : List ℕ × List ℕ). p.0) same, ap (λ (p : List ℕ × List ℕ). p.1) same)

rest_by : (quoted : Bool) (b : ℕ) (bs : List ℕ) → BeginsBlank (drop (word_len (toggled quoted b) bs) bs) → (t : Bool) → (eqb b 32 && not quoted) ≡ t → BeginsBlank (drop (cond t 0 (1 + word_len (toggled quoted b) bs)) (b ∷ bs))
rest_by quoted b bs more true e = elim (eqb_tells b 32) [
  | inl p ↦ p.1
  | inr p ↦ absurd (let f = (and_parts (eqb b 32) (not quoted) e).0 in let g : false ≡ true = sym p.0 ∙ f in cc)
]
rest_by quoted b bs more false e =
    let one : 1 + word_len (toggled quoted b) bs ≡ suc (word_len (toggled quoted b) bs) = omega arith in
    subst (λ (n : ℕ). BeginsBlank (drop n (b ∷ bs))) (sym one) more

rest_begins : (quoted : Bool) (bytes : List ℕ) → BeginsBlank (drop (word_len quoted bytes) bytes)
rest_begins quoted [] = tt
rest_begins quoted (b ∷ bs) = rest_by quoted b bs (rest_begins (toggled quoted b) bs) (eqb b 32 && not quoted) refl

pub record FrontAt (text w rest : List ℕ) : Type 0 where
  pub blanks : List ℕ
  pub whole : text ≡ blanks ++ (w ++ rest)
  pub are : AreBlanks blanks
  pub begins : BeginsBlank rest

front_by : (b : ℕ) (bs w rest : List ℕ) → ((eqb b 32 ≡ true) × (b ≡ 32)) ⊎ ((eqb b 32 ≡ false) × (b ≡ 32 → ⊥)) → (first_word bs ≡ some_front (w, rest) → FrontAt bs w rest) → first_word (b ∷ bs) ≡ some_front (w, rest) → FrontAt (b ∷ bs) w rest
front_by b bs w rest (inl p) more e =
    let n : ℕ = word_len false (b ∷ bs) in
    let f = more (sym (ap (λ (u : Bool). cond u (first_word bs) (some_front (take n (b ∷ bs), drop n (b ∷ bs)))) p.0) ∙ e) in
    record { blanks = b ∷ f.blanks; whole = ap (λ (l : List ℕ). b ∷ l) f.whole; are = (p.1, f.are); begins = f.begins }
front_by b bs w rest (inr p) more e =
    let n : ℕ = word_len false (b ∷ bs) in
    let f : some_front (take n (b ∷ bs), drop n (b ∷ bs)) ≡ some_front (w, rest) = sym (ap (λ (u : Bool). cond u (first_word bs) (some_front (take n (b ∷ bs), drop n (b ∷ bs)))) p.0) ∙ e in
    let both = front_same (take n (b ∷ bs)) w (drop n (b ∷ bs)) rest f in
    let front = both.0 in
    let back = both.1 in
    record {
      blanks = [];
      whole = sym (take-append-drop n (b ∷ bs)) ∙ ap (λ (l : List ℕ). l ++ drop n (b ∷ bs)) front ∙ ap (λ (l : List ℕ). w ++ l) back;
      are = tt;
      begins = subst BeginsBlank back (rest_begins false (b ∷ bs));
    }

pub first_found : (text w rest : List ℕ) → first_word text ≡ some_front (w, rest) → FrontAt text w rest
first_found [] w rest e = absurd cc
first_found (b ∷ bs) w rest e = front_by b bs w rest (eqb_tells b 32) (λ f. first_found bs w rest f) e

pub word_first : (c : ℕ) (cs rest : List ℕ) → (c ≡ 32 → ⊥) → word_len false ((c ∷ cs) ++ rest) ≡ length (c ∷ cs) → first_word ((c ∷ cs) ++ rest) ≡ some_front (c ∷ cs, rest)
word_first c cs rest ne long = elim (eqb_tells c 32) [
  | inl p ↦ absurd (ne p.1)
  | inr p ↦
      let text : List ℕ = (c ∷ cs) ++ rest in
      let n : ℕ = word_len false text in
      ap (λ (u : Bool). cond u (first_word (cs ++ rest)) (some_front (take n text, drop n text))) p.0
      ∙ ap (λ (k : ℕ). some_front (take k text, drop k text)) long
      ∙ ap (λ (l : List ℕ). some_front (l, drop (length (c ∷ cs)) text)) (take-append_seam (c ∷ cs) rest)
      ∙ ap (λ (l : List ℕ). some_front (c ∷ cs, l)) (drop-append_seam (c ∷ cs) rest)
]

at_word : (w rest : List ℕ) → WordAt w rest → first_word (w ++ rest) ≡ some_front (w, rest)
at_word w rest a =
    subst (λ (l : List ℕ). first_word (l ++ rest) ≡ some_front (l, rest)) (sym a.is)
    (word_first a.first a.others rest a.no_blank (subst (λ (l : List ℕ). word_len false (l ++ rest) ≡ length l) a.is a.long))

pub past_blanks : (blanks text : List ℕ) → AreBlanks blanks → first_word (blanks ++ text) ≡ first_word text
past_blanks [] text h = refl
past_blanks (b ∷ bs) text h = ap (λ (c : ℕ). first_word (c ∷ (bs ++ text))) h.0 ∙ past_blanks bs text h.1

pub first_read : (text blanks w rest : List ℕ) → text ≡ blanks ++ (w ++ rest) → AreBlanks blanks → IsWord w → BeginsBlank rest → first_word text ≡ some_front (w, rest)
first_read text blanks w rest e are is begins = ap first_word e ∙ past_blanks blanks (w ++ rest) are ∙ at_word w rest (word_at w rest is begins)

-- ---- verbs

abbrev pub is_letter : ℕ → Bool
is_letter b = not (eqb b 32) && not (eqb b 39)

not_eq : (b c : ℕ) → not (eqb b c) ≡ true → b ≡ c → ⊥
not_eq b c e f = elim (eqb_tells b c) [
  | inl p ↦ absurd (let g : not true ≡ true = sym (ap not p.0) ∙ e in let k : false ≡ true = g in cc)
  | inr p ↦ p.1 f
]

letters : (bytes : List ℕ) → list_all is_letter bytes ≡ true → (ps : List (List ℕ)) × ArePieces ps bytes
letters [] h = ([], refl)
letters (b ∷ bs) h =
    let p = and_parts (is_letter b) (list_all is_letter bs) h in
    let q = and_parts (not (eqb b 32)) (not (eqb b 39)) p.0 in
    let more = letters bs p.1 in
    ((b ∷ []) ∷ more.0, (bs, refl, inl (b, refl, (λ e. not_eq b 32 q.0 e), λ e. not_eq b 39 q.1 e), more.1))

lettered : (b : ℕ) (bs : List ℕ) → list_all is_letter (b ∷ bs) ≡ true → IsWord (b ∷ bs)
lettered b bs h =
    let p = and_parts (is_letter b) (list_all is_letter bs) h in
    let q = and_parts (not (eqb b 32)) (not (eqb b 39)) p.0 in
    let more = letters bs p.1 in
    (b ∷ [], more.0, (bs, refl, inl (b, refl, (λ e. not_eq b 32 q.0 e), λ e. not_eq b 39 q.1 e), more.1))

pub some_letters : (bytes : List ℕ) → list_all is_letter bytes ≡ true → (bytes ≡ [] → ⊥) → IsWord bytes
some_letters [] h ne = absurd (ne refl)
some_letters (b ∷ bs) h ne = lettered b bs h

verb_letters : (verb : ScriptVerb) → (list_all is_letter (verb_word verb) ≡ true) × (verb_word verb ≡ [] → ⊥)
verb_letters verbs.Mqconn = (refl, λ e. absurd cc)
verb_letters _ = (refl, λ e. absurd cc)

verb_is_word : (verb : ScriptVerb) → IsWord (verb_word verb)
verb_is_word verb = let l = verb_letters verb in some_letters (verb_word verb) l.0 l.1

verb_at : (verb : ScriptVerb) → verb_of (verb_word verb) ≡ Some verb
unfolding verb_of
verb_at verbs.Mqconn = refl
verb_at _ = refl

find_by : (word : List ℕ) (v : ScriptVerb) (vs : List ScriptVerb) (verb : ScriptVerb) → (find (λ (x : ScriptVerb). bytes_eq (verb_word x) word) vs ≡ Some verb → verb_word verb ≡ word) → (t : Bool) → bytes_eq (verb_word v) word ≡ t → cond t (Some v) (find (λ (x : ScriptVerb). bytes_eq (verb_word x) word) vs) ≡ Some verb → verb_word verb ≡ word
find_by word v vs verb more true e f = let same : v ≡ verb = cc in ap verb_word (sym same) ∙ (bytes_eq-Decides (verb_word v) word).0 e
find_by word v vs verb more false e f = more f

find_verb : (word : List ℕ) (vs : List ScriptVerb) (verb : ScriptVerb) → find (λ (x : ScriptVerb). bytes_eq (verb_word x) word) vs ≡ Some verb → verb_word verb ≡ word
find_verb word [] verb f = absurd cc
find_verb word (v ∷ vs) verb f = find_by word v vs verb (λ g. find_verb word vs verb g) (bytes_eq (verb_word v) word) refl f

verb_found : (word : List ℕ) (verb : ScriptVerb) → verb_of word ≡ Some verb → verb_word verb ≡ word
unfolding verb_of
verb_found word verb f = find_verb word all_verbs verb f

verb_same : (a b : ScriptVerb) → Some a ≡ Some b → a ≡ b
verb_same a b e = cc

one_verb : (a b : ScriptVerb) → verb_word a ≡ verb_word b → a ≡ b
one_verb a b e = verb_same a b (sym (verb_at a) ∙ ap verb_of e ∙ verb_at b)

-- ---- fronts of lines

mqsc_first : (rest text : List ℕ) → IsMqsc rest text → first_word text ≡ some_front (verb_word verbs.Mqsc, rest)
mqsc_first rest text (blanks, e, are, begins) = first_read text blanks (verb_word verbs.Mqsc) rest e are (verb_is_word verbs.Mqsc) begins

first_mqsc : (rest text : List ℕ) → first_word text ≡ some_front (verb_word verbs.Mqsc, rest) → IsMqsc rest text
first_mqsc rest text e = let f = first_found text (verb_word verbs.Mqsc) rest e in (f.blanks, f.whole, f.are, f.begins)

-- the words behind a verb, as they are read
record VerbAt (verb : ScriptVerb) (words : List (List ℕ)) (text : List ℕ) : Type 0 where
  rest : List ℕ
  first : first_word text ≡ some_front (verb_word verb, rest)
  closed : is_open false rest ≡ false
  are : words_of rest ≡ words

verb_words_at : (verb : ScriptVerb) (words : List (List ℕ)) (text : List ℕ) → AreVerbWords verb words text → VerbAt verb words text
verb_words_at verb words text (ne, (blanks, rest, e, are, is, begins, more)) =
    let r = read_words rest words more in
    record { rest = rest; first = first_read text blanks (verb_word verb) rest e are is begins; closed = r.0; are = r.1 }

at_verb_words : (verb : ScriptVerb) (rest text : List ℕ) → (verb ≡ verbs.Mqsc → ⊥) → first_word text ≡ some_front (verb_word verb, rest) → is_open false rest ≡ false → AreVerbWords verb (words_of rest) text
at_verb_words verb rest text ne e closed =
    let f = first_found text (verb_word verb) rest e in
    (ne, (f.blanks, rest, f.whole, f.are, verb_is_word verb, f.begins, words_found rest (words_of rest) closed refl))

-- ---- lines

as_line : (left : ℕ) (text : List ℕ) (line : ScriptLine) (words : List (List ℕ)) → AreVerbWords (verb_of_line line) words text → IsRest left line words → IsScriptLine left line text
as_line left text (lines.Mqsc command) words a r = absurd r
as_line left text _ words a r = (words, a, r)

-- a line's text begins with MQSC, or is words that begin with another verb
line_front : (left : ℕ) (text : List ℕ) (line : ScriptLine) → IsScriptLine left line text
    → ((c : Command) × (rest : List ℕ) × (line ≡ lines.Mqsc c) × IsMqsc rest text × (command_in rest ≡ Ok c)) ⊎ ((words : List (List ℕ)) × AreVerbWords (verb_of_line line) words text × IsRest left line words)
line_front left text (lines.Mqsc c) h = inl (c, h.0, refl, h.1, command_is h.0 c h.2)
line_front left text _ h = inr h

record Same (verb : ScriptVerb) (rest : List ℕ) (other : ScriptVerb) (words : List (List ℕ)) : Type 0 where
  same_verb : other ≡ verb
  same_words : words ≡ words_of rest
  closed : is_open false rest ≡ false

module _ (left : ℕ) (text : List ℕ) where
  abbrev pub LineOf : ScriptLine → Type 0
  LineOf line = IsScriptLine left line text

  abbrev pub FaultOf : LineFault → Type 0
  FaultOf f = HasLineFault left text f

  neither : ((rest : List ℕ) → IsMqsc rest text → ⊥) → ((verb : ScriptVerb) (words : List (List ℕ)) → AreVerbWords verb words text → ⊥) → Answers LineOf FaultOf (Err faults.Form)
  neither no_mqsc no_verb = ((λ line h. never line (line_front left text line h)), inl (refl, no_mqsc, no_verb), λ g h. only g h)
    where
      never : (line : ScriptLine) → ((c : Command) × (rest : List ℕ) × (line ≡ lines.Mqsc c) × IsMqsc rest text × (command_in rest ≡ Ok c)) ⊎ ((words : List (List ℕ)) × AreVerbWords (verb_of_line line) words text × IsRest left line words) → ⊥
      never line (inl k) = no_mqsc k.1 k.3
      never line (inr k) = no_verb (verb_of_line line) k.0 k.1

      only : (g : LineFault) → FaultOf g → (g ≡ faults.Form) ⊎ (rank faults.Form < rank g)
      only g (inl h) = inl h.0
      only g (inr (inl h)) = absurd (no_verb h.0 h.1 h.2)
      only g (inr (inr h)) = absurd (no_mqsc h.0 h.1)

  -- behind MQSC

  mqsc_no_verb : (rest : List ℕ) → first_word text ≡ some_front (verb_word verbs.Mqsc, rest) → (verb : ScriptVerb) (words : List (List ℕ)) → AreVerbWords verb words text → ⊥
  mqsc_no_verb rest e verb words a =
      let v = verb_words_at verb words text a in
      a.0 (one_verb verb verbs.Mqsc (front_same (verb_word verb) (verb_word verbs.Mqsc) v.rest rest (sym v.first ∙ e)).0)

  mqsc_rest : (rest : List ℕ) → first_word text ≡ some_front (verb_word verbs.Mqsc, rest) → (other : List ℕ) → IsMqsc other text → other ≡ rest
  mqsc_rest rest e other h = (front_same (verb_word verbs.Mqsc) (verb_word verbs.Mqsc) other rest (sym (mqsc_first other text h) ∙ e)).1

  ok_command : (c d : Command) → ok_at c ≡ ok_at d → c ≡ d
  ok_command c d e = cc

  command_tells : (rest : List ℕ) → first_word text ≡ some_front (verb_word verbs.Mqsc, rest) → (r : Result Command LineFault) → command_in rest ≡ r → Answers LineOf FaultOf (commanded r)
  command_tells rest e (Ok c) f = ((rest, first_mqsc rest text e, command_found rest c f), (λ y h. same y (line_front left text y h)), λ g h. never g h)
    where
      same : (y : ScriptLine) → ((d : Command) × (other : List ℕ) × (y ≡ lines.Mqsc d) × IsMqsc other text × (command_in other ≡ Ok d)) ⊎ ((words : List (List ℕ)) × AreVerbWords (verb_of_line y) words text × IsRest left y words) → y ≡ lines.Mqsc c
      same y (inl k) =
          let one = mqsc_rest rest e k.1 k.3 in
          k.2 ∙ ap lines.Mqsc (ok_command k.0 c (sym k.4 ∙ ap command_in one ∙ f))
      same y (inr k) = absurd (mqsc_no_verb rest e (verb_of_line y) k.0 k.1)

      never : (g : LineFault) → FaultOf g → ⊥
      never g (inl h) = h.1 rest (first_mqsc rest text e)
      never g (inr (inl h)) = mqsc_no_verb rest e h.0 h.1 h.2
      never g (inr (inr h)) = ok_never c g (sym (refusal_is h.0 g h.2) ∙ ap command_in (mqsc_rest rest e h.0 h.1) ∙ f)
  command_tells rest e (Err f) k = ((λ y h. never y (line_front left text y h)), inr (inr (rest, first_mqsc rest text e, one_refusal_found rest f k)), λ g h. only g h)
    where
      never : (y : ScriptLine) → ((d : Command) × (other : List ℕ) × (y ≡ lines.Mqsc d) × IsMqsc other text × (command_in other ≡ Ok d)) ⊎ ((words : List (List ℕ)) × AreVerbWords (verb_of_line y) words text × IsRest left y words) → ⊥
      never y (inl m) = ok_never m.0 f (sym k ∙ ap command_in (sym (mqsc_rest rest e m.1 m.3)) ∙ m.4)
      never y (inr m) = mqsc_no_verb rest e (verb_of_line y) m.0 m.1

      only : (g : LineFault) → FaultOf g → (g ≡ f) ⊎ (rank f < rank g)
      only g (inl h) = absurd (h.1 rest (first_mqsc rest text e))
      only g (inr (inl h)) = absurd (mqsc_no_verb rest e h.0 h.1 h.2)
      only g (inr (inr h)) = inl (err_command g f (sym (refusal_is h.0 g h.2) ∙ ap command_in (mqsc_rest rest e h.0 h.1) ∙ k))

  -- behind another verb

  verb_no_mqsc : (verb : ScriptVerb) (rest : List ℕ) → (verb ≡ verbs.Mqsc → ⊥) → first_word text ≡ some_front (verb_word verb, rest) → (other : List ℕ) → IsMqsc other text → ⊥
  verb_no_mqsc verb rest ne e other h = ne (one_verb verb verbs.Mqsc (front_same (verb_word verb) (verb_word verbs.Mqsc) rest other (sym e ∙ mqsc_first other text h)).0)

  the_words : (verb : ScriptVerb) (rest : List ℕ) → first_word text ≡ some_front (verb_word verb, rest) → (other : ScriptVerb) (words : List (List ℕ)) → AreVerbWords other words text → Same verb rest other words
  the_words verb rest e other words a =
      let v = verb_words_at other words text a in
      let s = front_same (verb_word other) (verb_word verb) v.rest rest (sym v.first ∙ e) in
      record { same_verb = one_verb other verb s.0; same_words = sym v.are ∙ ap words_of s.1; closed = ap (is_open false) (sym s.1) ∙ v.closed }

  words_tell : (verb : ScriptVerb) (rest : List ℕ) → (verb ≡ verbs.Mqsc → ⊥) → first_word text ≡ some_front (verb_word verb, rest) → (t : Bool) → is_open false rest ≡ t → Answers LineOf FaultOf (cond t (Err faults.Form) (called left verb (words_of rest)))
  words_tell verb rest ne e true o =
      neither (λ other h. verb_no_mqsc verb rest ne e other h) (λ other words a. absurd (let s = (the_words verb rest e other words a).closed in let f : true ≡ false = sym o ∙ s in cc))
  words_tell verb rest ne e false o =
      answers_as (LinesOf left verb (words_of rest)) (HasFault left verb (words_of rest)) LineOf FaultOf (called left verb (words_of rest))
      (λ y h. forth y h) (λ y h. back y (line_front left text y h)) (λ f h. inr (inl (verb, words_of rest, at_verb_words verb rest text ne e o, h))) (λ f h. fault_back f h) (called_tells left verb (words_of rest) ne)
    where
      forth : (y : ScriptLine) → LinesOf left verb (words_of rest) y → IsScriptLine left y text
      forth y h = as_line left text y (words_of rest) (subst (λ (v : ScriptVerb). AreVerbWords v (words_of rest) text) (sym h.0) (at_verb_words verb rest text ne e o)) h.1

      back : (y : ScriptLine) → ((d : Command) × (other : List ℕ) × (y ≡ lines.Mqsc d) × IsMqsc other text × (command_in other ≡ Ok d)) ⊎ ((words : List (List ℕ)) × AreVerbWords (verb_of_line y) words text × IsRest left y words) → LinesOf left verb (words_of rest) y
      back y (inl k) = absurd (verb_no_mqsc verb rest ne e k.1 k.3)
      back y (inr k) = let s = the_words verb rest e (verb_of_line y) k.0 k.1 in (s.same_verb, subst (IsRest left y) s.same_words k.2)

      fault_back : (f : LineFault) → HasLineFault left text f → HasFault left verb (words_of rest) f
      fault_back f (inl h) = absurd (h.2 verb (words_of rest) (at_verb_words verb rest text ne e o))
      fault_back f (inr (inl h)) =
          let s = the_words verb rest e h.0 h.1 h.2 in
          subst (λ (ws : List (List ℕ)). HasFault left verb ws f) s.same_words (subst (λ (v : ScriptVerb). HasFault left v h.1 f) s.same_verb h.3)
      fault_back f (inr (inr h)) = absurd (verb_no_mqsc verb rest ne e h.0 h.1)

  front_tells : (verb : ScriptVerb) (rest : List ℕ) → first_word text ≡ some_front (verb_word verb, rest) → Answers LineOf FaultOf (verb_read left (Some verb) rest)
  front_tells verbs.Mqsc rest e = command_tells rest e (command_in rest) refl
  front_tells verbs.Mqconn rest e = words_tell verbs.Mqconn rest (λ q. absurd cc) e (is_open false rest) refl
  front_tells verbs.Mqdisc rest e = words_tell verbs.Mqdisc rest (λ q. absurd cc) e (is_open false rest) refl
  front_tells verbs.Mqcmit rest e = words_tell verbs.Mqcmit rest (λ q. absurd cc) e (is_open false rest) refl
  front_tells verbs.Mqback rest e = words_tell verbs.Mqback rest (λ q. absurd cc) e (is_open false rest) refl
  front_tells verbs.Mqopen rest e = words_tell verbs.Mqopen rest (λ q. absurd cc) e (is_open false rest) refl
  front_tells verbs.Mqclose rest e = words_tell verbs.Mqclose rest (λ q. absurd cc) e (is_open false rest) refl
  front_tells verbs.Mqput rest e = words_tell verbs.Mqput rest (λ q. absurd cc) e (is_open false rest) refl
  front_tells verbs.Mqput1 rest e = words_tell verbs.Mqput1 rest (λ q. absurd cc) e (is_open false rest) refl
  front_tells verbs.Mqget rest e = words_tell verbs.Mqget rest (λ q. absurd cc) e (is_open false rest) refl
  front_tells verbs.Crash rest e = words_tell verbs.Crash rest (λ q. absurd cc) e (is_open false rest) refl
  front_tells verbs.Restart rest e = words_tell verbs.Restart rest (λ q. absurd cc) e (is_open false rest) refl
  front_tells verbs.Cut rest e = words_tell verbs.Cut rest (λ q. absurd cc) e (is_open false rest) refl

  no_verb_at : (w rest : List ℕ) → first_word text ≡ some_front (w, rest) → verb_of w ≡ None → (verb : ScriptVerb) (other : List ℕ) → first_word text ≡ some_front (verb_word verb, other) → ⊥
  no_verb_at w rest e none verb other f =
      let same = (front_same (verb_word verb) w other rest (sym f ∙ e)).0 in
      some_verb_never verb (sym none ∙ ap verb_of (sym same) ∙ verb_at verb)

  some_front_tells : (w rest : List ℕ) → first_word text ≡ some_front (w, rest) → (o : Option ScriptVerb) → verb_of w ≡ o → Answers LineOf FaultOf (verb_read left o rest)
  some_front_tells w rest e None f =
      neither (λ other h. no_verb_at w rest e f verbs.Mqsc other (mqsc_first other text h)) (λ verb words a. let v = verb_words_at verb words text a in no_verb_at w rest e f verb v.rest v.first)
  some_front_tells w rest e (Some verb) f = front_tells verb rest (e ∙ ap (λ (l : List ℕ). some_front (l, rest)) (sym (verb_found w verb f)))

  any_front_tells : (o : Option (List ℕ × List ℕ)) → first_word text ≡ o → Answers LineOf FaultOf (line_from left o)
  any_front_tells None e =
      neither (λ other h. no_front_never (verb_word verbs.Mqsc, other) (sym e ∙ mqsc_first other text h)) (λ verb words a. let v = verb_words_at verb words text a in no_front_never (verb_word verb, v.rest) (sym e ∙ v.first))
  any_front_tells (Some p) e = some_front_tells p.0 p.1 e (verb_of p.0) refl

  pub line_tells : Answers LineOf FaultOf (script_line left text)
  unfolding script_line
  line_tells = any_front_tells (first_word text) refl

-- ---- the laws

pub line_found : (left : ℕ) (text : List ℕ) (line : ScriptLine) → script_line left text ≡ Ok line → IsScriptLine left line text
line_found left text line e = answer_found (LineOf left text) (FaultOf left text) (script_line left text) line (line_tells left text) e

pub line_read : (left : ℕ) (text : List ℕ) (line : ScriptLine) → IsScriptLine left line text → script_line left text ≡ Ok line
line_read left text line h = answer_read (LineOf left text) (FaultOf left text) (script_line left text) line (line_tells left text) h

pub fault_found : (left : ℕ) (text : List ℕ) (f : LineFault) → script_line left text ≡ Err f → IsScriptFault left text f
fault_found left text f e = refusal_found (LineOf left text) (FaultOf left text) (script_line left text) f (line_tells left text) e

pub fault_read : (left : ℕ) (text : List ℕ) (f : LineFault) → IsScriptFault left text f → script_line left text ≡ Err f
fault_read left text f h = refusal_read (LineOf left text) (FaultOf left text) (script_line left text) f (line_tells left text) h

pub either_line : (left : ℕ) (text : List ℕ) → ((line : ScriptLine) × IsScriptLine left line text) ⊎ ((f : LineFault) × IsScriptFault left text f)
either_line left text = either_answer (LineOf left text) (FaultOf left text) (script_line left text) (line_tells left text)

abbrev read_line : ScriptLine → Result ScriptLine LineFault
read_line line = Ok line

abbrev read_fault : LineFault → Result ScriptLine LineFault
read_fault f = Err f

line_same : (a b : ScriptLine) → read_line a ≡ read_line b → a ≡ b
line_same a b e = cc

fault_same : (a b : LineFault) → read_fault a ≡ read_fault b → a ≡ b
fault_same a b e = cc

line_never : (a : ScriptLine) (b : LineFault) → read_line a ≡ read_fault b → ⊥
line_never a b e = absurd cc

pub one_line : (left : ℕ) (text : List ℕ) (line other : ScriptLine) → IsScriptLine left line text → IsScriptLine left other text → line ≡ other
one_line left text line other p q = line_same line other (sym (line_read left text line p) ∙ line_read left text other q)

pub one_fault : (left : ℕ) (text : List ℕ) (f g : LineFault) → IsScriptFault left text f → IsScriptFault left text g → f ≡ g
one_fault left text f g p q = fault_same f g (sym (fault_read left text f p) ∙ fault_read left text g q)

pub never_both : (left : ℕ) (text : List ℕ) (line : ScriptLine) (f : LineFault) → IsScriptLine left line text → IsScriptFault left text f → ⊥
never_both left text line f p q = line_never line f (sym (line_read left text line p) ∙ fault_read left text f q)
