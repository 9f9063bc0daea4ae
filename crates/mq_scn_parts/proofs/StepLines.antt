-- A step, whole, both ways.
use Rattle.std.proofs.Common.{◌≡◌, ◌⊎◌, ℕ, ◌<◌, Bool, true, false, cond, List, [], ◌∷◌, Result, Ok, Err, refl, sym, ap, subst, ◌∙◌, arith, inl, inr}
use Rattle.std.specs.Prelude.{find, Option, Some, None}
use Rattle.std.specs.List.{list_all}
use Rattle.std.specs.Str.{bytes_eq}
use Rattle.std.proofs.lemmas.Slice.Eq.{bytes_eq-Decides}
use Rattle.mq_sc_parse.specs.declared.command.Command.{Command}
use Rattle.mq_history.specs.declared.scenario.Scenario.{Scenario}
use Rattle.mq_history.specs.declared.scenario.Step.{Step}
use Rattle.mq_history.specs.declared.scenario.Step.TheVariants as steps
use Rattle.mq_scn_lines.specs.declared.fault.LineFault.{LineFault}
use Rattle.mq_scn_lines.specs.declared.fault.LineFault.TheVariants as faults
use Rattle.mq_scn_lines.specs.Faults.{rank, both}
use Rattle.mq_scn_lines.specs.Words.{first_word, is_open, words_of}
use Rattle.mq_scn_script.specs.Commands.{command_in}
use Rattle.mq_scn_heading.specs.declared.steps.StepVerb.{StepVerb}
use Rattle.mq_scn_heading.specs.declared.steps.StepVerb.TheVariants as verbs
use Rattle.mq_scn_heading.specs.Lookup.{manager_at}
use Rattle.mq_scn_heading.specs.Steps.{step_verbs, step_text, step_verb_of, stepped, done_by, do_line, step_of, verb_read, step_from, step_line}
use Rattle.mq_scn_grammar.specs.Words.{IsWord}
use Rattle.mq_scn_grammar.specs.Commands.{IsOneCommand, HasCommandFault}
use Rattle.mq_scn_grammar.proofs.Words.{words_read as read_words, words_found}
use Rattle.mq_scn_grammar.proofs.Script.{Answers, answers_as, answer_found, answer_read, refusal_found, refusal_read, either_answer, some_front, is_letter, first_found, first_read, some_letters, front_same}
use Rattle.mq_scn_grammar.proofs.OneCommand.{command_is, command_found, refusal_is, refusal_found as command_refused}
use Rattle.mq_scn_grammar.proofs.Firsts.{first_word_found, first_word_read, no_word_found, no_word_read}
use Rattle.mq_scn_parts.specs.Declared.{manager_names, NamesPlace, HasNameFault}
use Rattle.mq_scn_parts.specs.Steps.{IsStepOf, HasStepOfFault, IsDo, IsDone, HasDoFault, AreStepWords, IsStepLine, HasStepFault, IsStepFault}
use Rattle.mq_scn_parts.proofs.Declared.{manager_tells}
use Rattle.mq_scn_parts.proofs.Pairs.{answers_both}
use Rattle.mq_scn_parts.proofs.Steps.{words_tell}

abbrev ok_at : {A : Type 0} → A → Result A LineFault
ok_at x = Ok x

abbrev err_at : {A : Type 0} → LineFault → Result A LineFault
err_at f = Err f

abbrev err_command : LineFault → Result Command LineFault
err_command f = Err f

abbrev ok_command : Command → Result Command LineFault
ok_command c = Ok c

ok_never : (c : Command) (f : LineFault) → err_command f ≡ ok_command c → ⊥
ok_never c f e = absurd cc

err_same : (f g : LineFault) → err_command f ≡ err_command g → f ≡ g
err_same f g e = cc

command_same : (c d : Command) → ok_command c ≡ ok_command d → c ≡ d
command_same c d e = cc

-- ---- a manager and a command

module _ (s : Scenario) (word text : List ℕ) where
  abbrev IsName : ℕ → Type 0
  IsName k = NamesPlace (manager_names s.managers) word k

  abbrev NoName : LineFault → Type 0
  NoName f = HasNameFault (manager_names s.managers) word f

  abbrev Both : ℕ × Command → Type 0
  Both q = IsName q.0 × IsOneCommand text q.1

  abbrev Either : LineFault → Type 0
  Either f = NoName f ⊎ HasCommandFault text f

  name_below : (f : LineFault) → NoName f → rank f < 20
  name_below f (inl h) = let r : rank f ≡ 15 = ap rank h.0 in omega (arith, r)
  name_below f (inr h) = let r : rank f ≡ 16 = ap rank h.2.0 in omega (arith, r)

  command_by : (b : Result Command LineFault) → command_in text ≡ b → Answers (IsOneCommand text) (HasCommandFault text) b
  command_by (Ok c) e = (command_found text c e, (λ d h. command_same d c (sym (command_is text d h) ∙ e)), λ f h. ok_never c f (sym (refusal_is text f h) ∙ e))
  command_by (Err g) e = ((λ d h. ok_never d g (sym e ∙ command_is text d h)), command_refused text g e, λ f h. inl (err_same f g (sym (refusal_is text f h) ∙ e)))

  pub both_tell : Answers Both Either (both (manager_at s.managers word) (command_in text))
  both_tell =
      answers_both IsName NoName (IsOneCommand text) (HasCommandFault text) name_below (manager_at s.managers word) (command_in text) (manager_tells s.managers word)
      (command_by (command_in text) refl)

-- ---- DO

answers_step : {A : Type 0} (Is : A → Type 0) (Has : LineFault → Type 0) (make : A → Step) (r : Result A LineFault) → Answers Is Has r → Answers (λ step. (x : A) × Is x × (step ≡ make x)) Has (stepped make r)
answers_step Is Has make (Ok x) t = ((x, t.0, refl), (λ y h. h.2 ∙ ap make (t.1 h.0 h.1)), t.2)
answers_step Is Has make (Err f) t = ((λ y h. t.0 h.0 h.1), t.1, t.2)

abbrev some_pair : List ℕ × List ℕ → Option (List ℕ × List ℕ)
some_pair p = Some p

abbrev no_pair : Option (List ℕ × List ℕ)
no_pair = None

pair_same : (p q : List ℕ × List ℕ) → some_pair p ≡ some_pair q → p ≡ q
pair_same p q e = cc

pair_never : (p : List ℕ × List ℕ) → no_pair ≡ some_pair p → ⊥
pair_never p e = absurd cc

abbrev made_do : ℕ × Command → Step
made_do q = steps.Do q.0 q.1

module _ (s : Scenario) (rest : List ℕ) where
  abbrev DoOf : Step → Type 0
  DoOf step = (q : ℕ × Command) × IsDone s rest q × (step ≡ made_do q)

  do_by : (o : Option (List ℕ × List ℕ)) → first_word rest ≡ o → Answers DoOf (HasDoFault s rest) (done_by s o)
  do_by None e = ((λ y h. pair_never h.1.0 (sym e ∙ first_word_read rest h.1.0.0 h.1.0.1 h.1.1)), inl (refl, no_word_found rest e), λ g h. first g h)
    where
      first : (g : LineFault) → HasDoFault s rest g → (g ≡ faults.Form) ⊎ (rank faults.Form < rank g)
      first g (inl h) = inl h.0
      first g (inr h) = absurd (pair_never h.0 (sym e ∙ first_word_read rest h.0.0 h.0.1 h.1))
  do_by (Some p) e = as_done (stepped made_do (both (manager_at s.managers p.0) (command_in p.1))) (answers_step (Both s p.0 p.1) (Either s p.0 p.1) made_do (both (manager_at s.managers p.0) (command_in p.1)) (both_tell s p.0 p.1))
    where
      forth : (y : Step) → ((q : ℕ × Command) × Both s p.0 p.1 q × (y ≡ made_do q)) → DoOf y
      forth y h = (h.0, (p, first_word_found rest p.0 p.1 e, h.1), h.2)

      back : (y : Step) → DoOf y → (q : ℕ × Command) × Both s p.0 p.1 q × (y ≡ made_do q)
      back y h = (h.0, subst (λ (x : List ℕ × List ℕ). Both s x.0 x.1 h.0) (pair_same h.1.0 p (sym (first_word_read rest h.1.0.0 h.1.0.1 h.1.1) ∙ e)) h.1.2, h.2)

      fault_back : (g : LineFault) → HasDoFault s rest g → Either s p.0 p.1 g
      fault_back g (inl h) = absurd (pair_never p (sym (no_word_read rest h.1) ∙ e))
      fault_back g (inr h) = subst (λ (x : List ℕ × List ℕ). Either s x.0 x.1 g) (pair_same h.0 p (sym (first_word_read rest h.0.0 h.0.1 h.1) ∙ e)) h.2

      as_done : (r : Result Step LineFault) → Answers (λ y. (q : ℕ × Command) × Both s p.0 p.1 q × (y ≡ made_do q)) (Either s p.0 p.1) r → Answers DoOf (HasDoFault s rest) r
      as_done (Ok x) t = (forth x t.0, (λ y h. t.1 y (back y h)), λ g h. t.2 g (fault_back g h))
      as_done (Err f) t = ((λ y h. t.0 y (back y h)), inr (p, first_word_found rest p.0 p.1 e, t.1), λ g h. t.2 g (fault_back g h))

  pub do_tells : Answers DoOf (HasDoFault s rest) (do_line s rest)
  do_tells = do_by (first_word rest) refl

-- ---- verbs

verb_letters : (verb : StepVerb) → (list_all is_letter (step_text verb) ≡ true) × (step_text verb ≡ [] → ⊥)
verb_letters verbs.Obey = (refl, λ e. absurd cc)
verb_letters _ = (refl, λ e. absurd cc)

verb_is_word : (verb : StepVerb) → IsWord (step_text verb)
verb_is_word verb = let l = verb_letters verb in some_letters (step_text verb) l.0 l.1

verb_at : (verb : StepVerb) → step_verb_of (step_text verb) ≡ Some verb
unfolding step_verb_of
verb_at verbs.Obey = refl
verb_at _ = refl

find_by : (word : List ℕ) (v : StepVerb) (vs : List StepVerb) (verb : StepVerb) → (find (λ (x : StepVerb). bytes_eq (step_text x) word) vs ≡ Some verb → step_text verb ≡ word) → (t : Bool) → bytes_eq (step_text v) word ≡ t
    → cond t (Some v) (find (λ (x : StepVerb). bytes_eq (step_text x) word) vs) ≡ Some verb → step_text verb ≡ word
find_by word v vs verb more true e f = let same : v ≡ verb = cc in ap step_text (sym same) ∙ (bytes_eq-Decides (step_text v) word).0 e
find_by word v vs verb more false e f = more f

find_verb : (word : List ℕ) (vs : List StepVerb) (verb : StepVerb) → find (λ (x : StepVerb). bytes_eq (step_text x) word) vs ≡ Some verb → step_text verb ≡ word
find_verb word [] verb f = absurd cc
find_verb word (v ∷ vs) verb f = find_by word v vs verb (λ g. find_verb word vs verb g) (bytes_eq (step_text v) word) refl f

verb_found : (word : List ℕ) (verb : StepVerb) → step_verb_of word ≡ Some verb → step_text verb ≡ word
unfolding step_verb_of
verb_found word verb f = find_verb word step_verbs verb f

verb_same : (a b : StepVerb) → Some a ≡ Some b → a ≡ b
verb_same a b e = cc

abbrev none_verb : Option StepVerb
none_verb = None

some_verb_never : (verb : StepVerb) → none_verb ≡ Some verb → ⊥
some_verb_never verb e = absurd cc

one_verb : (a b : StepVerb) → step_text a ≡ step_text b → a ≡ b
one_verb a b e = verb_same a b (sym (verb_at a) ∙ ap step_verb_of e ∙ verb_at b)

-- ---- fronts of texts

do_first : (rest text : List ℕ) → IsDo rest text → first_word text ≡ some_front (step_text verbs.Do, rest)
do_first rest text (blanks, e, are, begins) = first_read text blanks (step_text verbs.Do) rest e are (verb_is_word verbs.Do) begins

first_do : (rest text : List ℕ) → first_word text ≡ some_front (step_text verbs.Do, rest) → IsDo rest text
first_do rest text e = let f = first_found text (step_text verbs.Do) rest e in (f.blanks, f.whole, f.are, f.begins)

-- the words behind a verb, as they are read
record VerbAt (p : StepVerb × List (List ℕ)) (text : List ℕ) : Type 0 where
  rest : List ℕ
  first : first_word text ≡ some_front (step_text p.0, rest)
  closed : is_open false rest ≡ false
  are : words_of rest ≡ p.1

step_words_at : (p : StepVerb × List (List ℕ)) (text : List ℕ) → AreStepWords p text → VerbAt p text
step_words_at p text (ne, (blanks, rest, e, are, is, begins, more)) =
    let r = read_words rest p.1 more in
    record { rest = rest; first = first_read text blanks (step_text p.0) rest e are is begins; closed = r.0; are = r.1 }

at_step_words : (verb : StepVerb) (rest text : List ℕ) → (verb ≡ verbs.Do → ⊥) → first_word text ≡ some_front (step_text verb, rest) → is_open false rest ≡ false → AreStepWords (verb, words_of rest) text
at_step_words verb rest text ne e closed =
    let f = first_found text (step_text verb) rest e in
    (ne, (f.blanks, rest, f.whole, f.are, verb_is_word verb, f.begins, words_found rest (words_of rest) closed refl))

-- ---- steps

record Same (verb : StepVerb) (rest : List ℕ) (p : StepVerb × List (List ℕ)) : Type 0 where
  same : p ≡ (verb, words_of rest)
  closed : is_open false rest ≡ false

module _ (s : Scenario) (text : List ℕ) where
  abbrev pub StepOf : Step → Type 0
  StepOf step = IsStepLine s text step

  abbrev pub FaultOf : LineFault → Type 0
  FaultOf f = HasStepFault s text f

  neither : ((rest : List ℕ) → IsDo rest text → ⊥) → ((p : StepVerb × List (List ℕ)) → AreStepWords p text → ⊥) → Answers StepOf FaultOf (Err faults.Form)
  neither no_do no_verb = ((λ y h. never y h), inl (refl, no_do, no_verb), λ g h. only g h)
    where
      never : (y : Step) → StepOf y → ⊥
      never y (inl h) = no_do h.0 h.2
      never y (inr h) = no_verb h.0 h.1

      only : (g : LineFault) → FaultOf g → (g ≡ faults.Form) ⊎ (rank faults.Form < rank g)
      only g (inl h) = inl h.0
      only g (inr (inl h)) = absurd (no_verb h.0 h.1)
      only g (inr (inr h)) = absurd (no_do h.0 h.1)

  -- behind DO

  do_no_verb : (rest : List ℕ) → first_word text ≡ some_front (step_text verbs.Do, rest) → (p : StepVerb × List (List ℕ)) → AreStepWords p text → ⊥
  do_no_verb rest e p a =
      let v = step_words_at p text a in
      a.0 (one_verb p.0 verbs.Do (front_same (step_text p.0) (step_text verbs.Do) v.rest rest (sym v.first ∙ e)).0)

  do_rest : (rest : List ℕ) → first_word text ≡ some_front (step_text verbs.Do, rest) → (other : List ℕ) → IsDo other text → other ≡ rest
  do_rest rest e other h = (front_same (step_text verbs.Do) (step_text verbs.Do) other rest (sym (do_first other text h) ∙ e)).1

  do_as : (rest : List ℕ) → first_word text ≡ some_front (step_text verbs.Do, rest) → (r : Result Step LineFault) → Answers (DoOf s rest) (HasDoFault s rest) r → Answers StepOf FaultOf r
  do_as rest e (Ok x) t = (inl (rest, t.0.0, first_do rest text e, t.0.1, t.0.2), (λ y h. one y h), λ g h. never g h)
    where
      one : (y : Step) → StepOf y → y ≡ x
      one y (inl h) = t.1 y (h.1, subst (λ (l : List ℕ). IsDone s l h.1) (do_rest rest e h.0 h.2) h.3, h.4)
      one y (inr h) = absurd (do_no_verb rest e h.0 h.1)

      never : (g : LineFault) → FaultOf g → ⊥
      never g (inl h) = h.1 rest (first_do rest text e)
      never g (inr (inl h)) = do_no_verb rest e h.0 h.1
      never g (inr (inr h)) = t.2 g (subst (λ (l : List ℕ). HasDoFault s l g) (do_rest rest e h.0 h.1) h.2)
  do_as rest e (Err f) t = ((λ y h. never y h), inr (inr (rest, first_do rest text e, t.1)), λ g h. first g h)
    where
      never : (y : Step) → StepOf y → ⊥
      never y (inl h) = t.0 y (h.1, subst (λ (l : List ℕ). IsDone s l h.1) (do_rest rest e h.0 h.2) h.3, h.4)
      never y (inr h) = do_no_verb rest e h.0 h.1

      first : (g : LineFault) → FaultOf g → (g ≡ f) ⊎ (rank f < rank g)
      first g (inl h) = absurd (h.1 rest (first_do rest text e))
      first g (inr (inl h)) = absurd (do_no_verb rest e h.0 h.1)
      first g (inr (inr h)) = t.2 g (subst (λ (l : List ℕ). HasDoFault s l g) (do_rest rest e h.0 h.1) h.2)

  -- behind another verb

  verb_no_do : (verb : StepVerb) (rest : List ℕ) → (verb ≡ verbs.Do → ⊥) → first_word text ≡ some_front (step_text verb, rest) → (other : List ℕ) → IsDo other text → ⊥
  verb_no_do verb rest ne e other h = ne (one_verb verb verbs.Do (front_same (step_text verb) (step_text verbs.Do) rest other (sym e ∙ do_first other text h)).0)

  the_words : (verb : StepVerb) (rest : List ℕ) → first_word text ≡ some_front (step_text verb, rest) → (p : StepVerb × List (List ℕ)) → AreStepWords p text → Same verb rest p
  the_words verb rest e p a =
      let v = step_words_at p text a in
      let f = front_same (step_text p.0) (step_text verb) v.rest rest (sym v.first ∙ e) in
      record {
        same = ap (λ (x : StepVerb). (x, p.1)) (one_verb p.0 verb f.0) ∙ ap (λ (ws : List (List ℕ)). (verb, ws)) (sym v.are ∙ ap words_of f.1);
        closed = ap (is_open false) (sym f.1) ∙ v.closed;
      }

  words_by : (verb : StepVerb) (rest : List ℕ) → (verb ≡ verbs.Do → ⊥) → first_word text ≡ some_front (step_text verb, rest) → (t : Bool) → is_open false rest ≡ t → Answers StepOf FaultOf (cond t (Err faults.Form) (step_of s verb (words_of rest)))
  words_by verb rest ne e true o =
      neither (λ other h. verb_no_do verb rest ne e other h) (λ p a. absurd (let c = (the_words verb rest e p a).closed in let f : true ≡ false = sym o ∙ c in cc))
  words_by verb rest ne e false o =
      answers_as (IsStepOf s verb (words_of rest)) (HasStepOfFault s verb (words_of rest)) StepOf FaultOf (step_of s verb (words_of rest))
      (λ y h. inr ((verb, words_of rest), at_step_words verb rest text ne e o, h)) (λ y h. back y h) (λ f h. inr (inl ((verb, words_of rest), at_step_words verb rest text ne e o, h))) (λ f h. fault_back f h)
      (words_tell s verb (words_of rest))
    where
      back : (y : Step) → StepOf y → IsStepOf s verb (words_of rest) y
      back y (inl h) = absurd (verb_no_do verb rest ne e h.0 h.2)
      back y (inr h) = subst (λ (p : StepVerb × List (List ℕ)). IsStepOf s p.0 p.1 y) (the_words verb rest e h.0 h.1).same h.2

      fault_back : (f : LineFault) → FaultOf f → HasStepOfFault s verb (words_of rest) f
      fault_back f (inl h) = absurd (h.2 (verb, words_of rest) (at_step_words verb rest text ne e o))
      fault_back f (inr (inl h)) = subst (λ (p : StepVerb × List (List ℕ)). HasStepOfFault s p.0 p.1 f) (the_words verb rest e h.0 h.1).same h.2
      fault_back f (inr (inr h)) = absurd (verb_no_do verb rest ne e h.0 h.1)

  front_tells : (verb : StepVerb) (rest : List ℕ) → first_word text ≡ some_front (step_text verb, rest) → Answers StepOf FaultOf (verb_read s (Some verb) rest)
  front_tells verbs.Do rest e = do_as rest e (do_line s rest) (do_tells s rest)
  front_tells verbs.Obey rest e = words_by verbs.Obey rest (λ q. absurd cc) e (is_open false rest) refl
  front_tells verbs.Run rest e = words_by verbs.Run rest (λ q. absurd cc) e (is_open false rest) refl
  front_tells verbs.Phase rest e = words_by verbs.Phase rest (λ q. absurd cc) e (is_open false rest) refl
  front_tells verbs.Pump rest e = words_by verbs.Pump rest (λ q. absurd cc) e (is_open false rest) refl
  front_tells verbs.Handle rest e = words_by verbs.Handle rest (λ q. absurd cc) e (is_open false rest) refl
  front_tells verbs.Watch rest e = words_by verbs.Watch rest (λ q. absurd cc) e (is_open false rest) refl
  front_tells verbs.Serve rest e = words_by verbs.Serve rest (λ q. absurd cc) e (is_open false rest) refl
  front_tells verbs.Crash rest e = words_by verbs.Crash rest (λ q. absurd cc) e (is_open false rest) refl
  front_tells verbs.Restart rest e = words_by verbs.Restart rest (λ q. absurd cc) e (is_open false rest) refl
  front_tells verbs.Cut rest e = words_by verbs.Cut rest (λ q. absurd cc) e (is_open false rest) refl
  front_tells verbs.Clock rest e = words_by verbs.Clock rest (λ q. absurd cc) e (is_open false rest) refl

  no_verb_at : (w rest : List ℕ) → first_word text ≡ some_front (w, rest) → step_verb_of w ≡ None → (verb : StepVerb) (other : List ℕ) → first_word text ≡ some_front (step_text verb, other) → ⊥
  no_verb_at w rest e none verb other f =
      let same = (front_same (step_text verb) w other rest (sym f ∙ e)).0 in
      some_verb_never verb (sym none ∙ ap step_verb_of (sym same) ∙ verb_at verb)

  some_front_tells : (w rest : List ℕ) → first_word text ≡ some_front (w, rest) → (o : Option StepVerb) → step_verb_of w ≡ o → Answers StepOf FaultOf (verb_read s o rest)
  some_front_tells w rest e None f =
      neither (λ other h. no_verb_at w rest e f verbs.Do other (do_first other text h)) (λ p a. let v = step_words_at p text a in no_verb_at w rest e f p.0 v.rest v.first)
  some_front_tells w rest e (Some verb) f = front_tells verb rest (e ∙ ap (λ (l : List ℕ). some_front (l, rest)) (sym (verb_found w verb f)))

  any_front_tells : (o : Option (List ℕ × List ℕ)) → first_word text ≡ o → Answers StepOf FaultOf (step_from s o)
  any_front_tells None e =
      neither (λ other h. pair_never (step_text verbs.Do, other) (sym e ∙ do_first other text h)) (λ p a. let v = step_words_at p text a in pair_never (step_text p.0, v.rest) (sym e ∙ v.first))
  any_front_tells (Some p) e = some_front_tells p.0 p.1 e (step_verb_of p.0) refl

  pub step_tells : Answers StepOf FaultOf (step_line s text)
  unfolding step_line
  step_tells = any_front_tells (first_word text) refl

-- ---- the laws

pub step_found : (s : Scenario) (text : List ℕ) (step : Step) → step_line s text ≡ Ok step → IsStepLine s text step
step_found s text step e = answer_found (StepOf s text) (FaultOf s text) (step_line s text) step (step_tells s text) e

pub step_is_read : (s : Scenario) (text : List ℕ) (step : Step) → IsStepLine s text step → step_line s text ≡ Ok step
step_is_read s text step h = answer_read (StepOf s text) (FaultOf s text) (step_line s text) step (step_tells s text) h

pub fault_found : (s : Scenario) (text : List ℕ) (f : LineFault) → step_line s text ≡ Err f → IsStepFault s text f
fault_found s text f e = refusal_found (StepOf s text) (FaultOf s text) (step_line s text) f (step_tells s text) e

pub fault_is_read : (s : Scenario) (text : List ℕ) (f : LineFault) → IsStepFault s text f → step_line s text ≡ Err f
fault_is_read s text f h = refusal_read (StepOf s text) (FaultOf s text) (step_line s text) f (step_tells s text) h

abbrev read_step : Step → Result Step LineFault
read_step step = Ok step

abbrev read_fault : LineFault → Result Step LineFault
read_fault f = Err f

step_same : (a b : Step) → read_step a ≡ read_step b → a ≡ b
step_same a b e = cc

fault_same : (a b : LineFault) → read_fault a ≡ read_fault b → a ≡ b
fault_same a b e = cc

step_never : (a : Step) (b : LineFault) → read_step a ≡ read_fault b → ⊥
step_never a b e = absurd cc

pub one_step : (s : Scenario) (text : List ℕ) (step other : Step) → IsStepLine s text step → IsStepLine s text other → step ≡ other
one_step s text step other p q = step_same step other (sym (step_is_read s text step p) ∙ step_is_read s text other q)

pub either_step : (s : Scenario) (text : List ℕ) → ((step : Step) × IsStepLine s text step) ⊎ ((f : LineFault) × IsStepFault s text f)
either_step s text = either_answer (StepOf s text) (FaultOf s text) (step_line s text) (step_tells s text)

pub one_fault : (s : Scenario) (text : List ℕ) (f g : LineFault) → IsStepFault s text f → IsStepFault s text g → f ≡ g
one_fault s text f g p q = fault_same f g (sym (fault_is_read s text f p) ∙ fault_is_read s text g q)

pub never_both : (s : Scenario) (text : List ℕ) (step : Step) (f : LineFault) → IsStepLine s text step → IsStepFault s text f → ⊥
never_both s text step f p q = step_never step f (sym (step_is_read s text step p) ∙ fault_is_read s text f q)
