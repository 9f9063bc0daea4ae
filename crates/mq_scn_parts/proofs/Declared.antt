-- Managers by name, the others by label, and names and labels that are new, both ways.
use Rattle.std.proofs.Common.{◌≡◌, ◌⊎◌, ℕ, ◌+◌, ◌<◌, Bool, true, false, cond, List, [], ◌∷◌, map, Result, Ok, Err, refl, sym, ap, subst, ◌∙◌, arith, inl, inr}
use Rattle.std.specs.Prelude.{◌||◌, nat_lt, position, Option, Some, None}
use Rattle.std.specs.Str.{bytes_eq}
use Rattle.std.proofs.lemmas.Grind.{common_steps}
use Rattle.std.proofs.lemmas.Bool.Decides.{nat_tests}
use Rattle.std.proofs.lemmas.Slice.Eq.{bytes_eq-Decides}
use Rattle.mq_history.specs.declared.scenario.Scenario.{Scenario}
use Rattle.mq_history.specs.declared.scenario.ManagerLine.{ManagerLine}
use Rattle.mq_history.specs.declared.scenario.CableLine.{CableLine}
use Rattle.mq_history.specs.declared.scenario.Section.{Section}
use Rattle.mq_history.specs.declared.scenario.RulesPart.{RulesPart}
use Rattle.mq_history.specs.declared.scenario.ScriptPart.{ScriptPart}
use Rattle.mq_history.specs.declared.scenario.MonitorLine.{MonitorLine}
use Rattle.mq_scn_lines.specs.declared.fault.LineFault.{LineFault}
use Rattle.mq_scn_lines.specs.declared.fault.LineFault.TheVariants as faults
use Rattle.mq_scn_lines.specs.Operands.{label_in, name_in}
use Rattle.mq_scn_heading.specs.Lookup.{known, found, manager_place, manager_at, section_place, section_at, rules_place, rules_at, script_place, script_at, monitor_place, monitor_at, is_place, is_declared, unless_declared, new_label}
use Rattle.mq_scn_heading.specs.Heading.{unless_there, new_name, new_manager, channel_place, new_channel_name, new_channel}
use Rattle.mq_scn_grammar.specs.Words.{Mem}
use Rattle.mq_scn_grammar.specs.Faults.{IsMissed}
use Rattle.mq_scn_grammar.specs.Operands.{IsNameWord}
use Rattle.mq_scn_grammar.proofs.Told.{Reports, told_one, told_as}
use Rattle.mq_scn_grammar.proofs.Operands.{LabelsOf, label_tells, name_tells}
use Rattle.mq_scn_parts.specs.Declared.{manager_names, channel_names, section_labels, rules_labels, script_labels, monitor_labels, HasLabel, IsFirstPlace, IsPlace, NamesPlace, HasNameFault, LabelsPlace, HasLabelFault, IsNewName, HasNewNameFault, IsNewLabel, HasNewLabelFault}
use Rattle.mq_scn_parts.proofs.Then.{Then, HasThen, told_then}

abbrev ok_at : {A : Type 0} → A → Result A LineFault
ok_at x = Ok x

abbrev err_at : {A : Type 0} → LineFault → Result A LineFault
err_at f = Err f

ok_same : {A : Type 0} (x y : A) → ok_at x ≡ ok_at y → x ≡ y
ok_same x y e = cc

-- ---- places

hit : {A : Type 0} (p : A → Bool) (x : A) (xs : List A) → p x ≡ true → position p (x ∷ xs) ≡ Some 0
hit p x xs e = grind (arith, common_steps)

missed_none : {A : Type 0} (p : A → Bool) (x : A) (xs : List A) → p x ≡ false → position p xs ≡ None → position p (x ∷ xs) ≡ None
missed_none p x xs e f = grind (arith, common_steps)

missed_some : {A : Type 0} (p : A → Bool) (x : A) (xs : List A) (k : ℕ) → p x ≡ false → position p xs ≡ Some k → position p (x ∷ xs) ≡ Some (k + 1)
missed_some p x xs k e f = grind (arith, common_steps)

-- what a search tells of a name
abbrev pub Found : (names : List (List ℕ)) → (name : List ℕ) → Option ℕ → Type 0
Found names name None = Mem name names → ⊥
Found names name (Some n) = IsFirstPlace names name n

unlike : (name other : List ℕ) → bytes_eq other name ≡ false → other ≡ name → ⊥
unlike name other e same =
    let f : bytes_eq other name ≡ true = (bytes_eq-Decides other name).1 same in
    let g : true ≡ false = sym f ∙ e in
    absurd cc

module _ {A : Type 0} (name_of : A → List ℕ) (name : List ℕ) where
  abbrev is_it : A → Bool
  is_it x = bytes_eq (name_of x) name

  by_rest : (x : A) (xs : List A) → is_it x ≡ false → (o : Option ℕ) → position is_it xs ≡ o → Found (map name_of xs) name o → Found (map name_of (x ∷ xs)) name (position is_it (x ∷ xs))
  by_rest x xs e None f t = subst (Found (map name_of (x ∷ xs)) name) (sym (missed_none is_it x xs e f)) none
    where
      none : Mem name (map name_of (x ∷ xs)) → ⊥
      none (inl h) = unlike name (name_of x) e (sym h)
      none (inr h) = t h
  by_rest x xs e (Some k) f t = subst (Found (map name_of (x ∷ xs)) name) (sym (missed_some is_it x xs k e f)) (inr ((λ h. unlike name (name_of x) e h), (k, t, refl)))

  by_first : (x : A) (xs : List A) → Found (map name_of xs) name (position is_it xs) → (b : Bool) → is_it x ≡ b → Found (map name_of (x ∷ xs)) name (position is_it (x ∷ xs))
  by_first x xs t true e = subst (Found (map name_of (x ∷ xs)) name) (sym (hit is_it x xs e)) (inl ((bytes_eq-Decides (name_of x) name).0 e, refl))
  by_first x xs t false e = by_rest x xs e (position is_it xs) refl t

  pub place_found : (xs : List A) → Found (map name_of xs) name (position is_it xs)
  place_found [] = λ h. h
  place_found (x ∷ xs) = by_first x xs (place_found xs) (is_it x) refl

first_is_there : (names : List (List ℕ)) (name : List ℕ) (n : ℕ) → IsFirstPlace names name n → Mem name names
first_is_there [] name n h = h
first_is_there (m ∷ ms) name n (inl h) = inl (sym h.0)
first_is_there (m ∷ ms) name n (inr h) = inr (first_is_there ms name h.1.0 h.1.1)

one_first : (names : List (List ℕ)) (name : List ℕ) (n m : ℕ) → IsFirstPlace names name n → IsFirstPlace names name m → n ≡ m
one_first [] name n m h k = absurd h
one_first (x ∷ xs) name n m (inl h) (inl k) = h.1 ∙ sym k.1
one_first (x ∷ xs) name n m (inl h) (inr k) = absurd (k.0 h.0)
one_first (x ∷ xs) name n m (inr h) (inl k) = absurd (h.0 k.0)
one_first (x ∷ xs) name n m (inr h) (inr k) = h.1.2 ∙ ap (λ (i : ℕ). i + 1) (one_first xs name h.1.0 k.1.0 h.1.1 k.1.1) ∙ sym k.1.2

module _ (names : List (List ℕ)) (name : List ℕ) where
  known_by : (at n : ℕ) → IsFirstPlace names name at → (b : Bool) → nat_lt at 65536 ≡ b → cond b (ok_at at) (Err faults.Unknown) ≡ ok_at n → IsPlace names name n
  known_by at n t true e f =
      let lt : at < 65536 = grind (arith, nat_tests) in
      subst (IsPlace names name) (ok_same at n f) (t, lt)
  known_by at n t false e f = absurd cc

  known_found : (o : Option ℕ) (n : ℕ) → Found names name o → known o ≡ ok_at n → IsPlace names name n
  known_found None n t e = absurd cc
  known_found (Some at) n t e = known_by at n t (nat_lt at 65536) refl e

  below : (n : ℕ) → n < 65536 → nat_lt n 65536 ≡ true
  below n lt = grind (arith, nat_tests)

  known_read : (o : Option ℕ) (n : ℕ) → Found names name o → IsPlace names name n → known o ≡ ok_at n
  known_read None n t h = absurd (t (first_is_there names name n h.0))
  known_read (Some at) n t h =
      let same : at ≡ n = one_first names name at n t h.0 in
      ap (λ (k : ℕ). known (Some k)) same ∙ ap (λ (b : Bool). cond b (ok_at n) (Err faults.Unknown)) (below n h.1)

  only_by : (at : ℕ) (f : LineFault) (b : Bool) → cond b (ok_at at) (Err faults.Unknown) ≡ err_at f → f ≡ faults.Unknown
  only_by at f true e = absurd cc
  only_by at f false e = cc

  known_only : (o : Option ℕ) (f : LineFault) → known o ≡ err_at f → f ≡ faults.Unknown
  known_only None f e = cc
  known_only (Some at) f e = only_by at f (nat_lt at 65536) e

  pub known_tells : (o : Option ℕ) → Found names name o → Reports (IsPlace names name) (IsMissed faults.Unknown (IsPlace names name)) (known o)
  known_tells o t = told_one (IsPlace names name) faults.Unknown (known o) refl (λ n e. known_found o n t e) (λ n h. known_read o n t h) (λ f e. known_only o f e)

abbrev pub NamesOf : ℕ → List ℕ → List ℕ → Type 0
NamesOf width word name = IsNameWord width name word

pub manager_tells : (managers : List ManagerLine) (word : List ℕ) → Reports (NamesPlace (manager_names managers) word) (HasNameFault (manager_names managers) word) (manager_at managers word)
manager_tells managers word =
    told_then (NamesOf 48 word) (IsMissed faults.Name (NamesOf 48 word)) (λ name. IsPlace (manager_names managers) name) (λ name. IsMissed faults.Unknown (IsPlace (manager_names managers) name))
    (found (λ (name : List ℕ). manager_place name managers)) (λ f. refl) (name_in 48 word) (name_tells 48 word)
    (λ name is. known_tells (manager_names managers) name (manager_place name managers) (place_found (λ (m : ManagerLine). m.name) name managers))

module _ {A : Type 0} (label_of : A → List ℕ) (parts : List A) (word : List ℕ) where
  abbrev labels_of : List (List ℕ)
  labels_of = map label_of parts

  abbrev place_of : List ℕ → Option ℕ
  place_of label = position (λ (x : A). bytes_eq (label_of x) label) parts

  labelled_tells : Reports (LabelsPlace labels_of word) (HasLabelFault labels_of word) (found place_of (label_in word))
  labelled_tells =
      told_then (LabelsOf word) (IsMissed faults.Name (LabelsOf word)) (λ label. IsPlace labels_of label) (λ label. IsMissed faults.Unknown (IsPlace labels_of label))
      (found place_of) (λ f. refl) (label_in word) (label_tells word)
      (λ label is. known_tells labels_of label (place_of label) (place_found label_of label parts))

pub section_tells : (sections : List Section) (word : List ℕ) → Reports (LabelsPlace (section_labels sections) word) (HasLabelFault (section_labels sections) word) (section_at sections word)
section_tells sections word = labelled_tells (λ (p : Section). p.label) sections word

pub rules_tells : (rules : List RulesPart) (word : List ℕ) → Reports (LabelsPlace (rules_labels rules) word) (HasLabelFault (rules_labels rules) word) (rules_at rules word)
rules_tells rules word = labelled_tells (λ (p : RulesPart). p.label) rules word

pub script_tells : (scripts : List ScriptPart) (word : List ℕ) → Reports (LabelsPlace (script_labels scripts) word) (HasLabelFault (script_labels scripts) word) (script_at scripts word)
script_tells scripts word = labelled_tells (λ (p : ScriptPart). p.label) scripts word

pub monitor_tells : (monitors : List MonitorLine) (word : List ℕ) → Reports (LabelsPlace (monitor_labels monitors) word) (HasLabelFault (monitor_labels monitors) word) (monitor_at monitors word)
monitor_tells monitors word = labelled_tells (λ (m : MonitorLine). m.label) monitors word

-- ---- what is new

-- a value alone, unless something stands already
abbrev Fresh : (P : Type 0) → List ℕ → List ℕ → Type 0
Fresh P name other = (other ≡ name) × (P → ⊥)

abbrev Stands : (P : Type 0) → LineFault → Type 0
Stands P f = (f ≡ faults.Twice) × P

fresh_tells : (P : Type 0) (name : List ℕ) → (P → ⊥) → Reports (Fresh P name) (Stands P) (Ok name)
fresh_tells P name none = ((refl, none), (λ y h. h.0), λ f h. none h.1)

stands_tells : (P : Type 0) (name : List ℕ) → P → Reports (Fresh P name) (Stands P) (Err faults.Twice)
stands_tells P name there = ((λ y h. h.1 there), (refl, there), refl, λ g h. inl h.0)

there_tells : (names : List (List ℕ)) (name : List ℕ) (o : Option ℕ) → Found names name o → Reports (Fresh (Mem name names) name) (Stands (Mem name names)) (unless_there name o)
there_tells names name None t = fresh_tells (Mem name names) name t
there_tells names name (Some at) t = stands_tells (Mem name names) name (first_is_there names name at t)

module _ (Is : List ℕ → Type 0) (Has : LineFault → Type 0) (P : List ℕ → Type 0) where
  abbrev New : List ℕ → Type 0
  New name = Is name × (P name → ⊥)

  abbrev NotNew : LineFault → Type 0
  NotNew f = Has f ⊎ ((name : List ℕ) × Is name × ((f ≡ faults.Twice) × P name))

  new_tells : (r : Result (List ℕ) LineFault) → Reports (Then Is Has (λ name. Fresh (P name) name) (λ name. Stands (P name))) (HasThen Is Has (λ name. Fresh (P name) name) (λ name. Stands (P name))) r → Reports New NotNew r
  new_tells r t =
      told_as (Then Is Has (λ name. Fresh (P name) name) (λ name. Stands (P name))) (HasThen Is Has (λ name. Fresh (P name) name) (λ name. Stands (P name))) New NotNew r
      (λ x h. subst New (sym h.2.0) (h.1, h.2.1)) (λ x h. (x, h.0, (refl, h.1))) (λ f h. h) (λ f h. h) t

pub new_manager_tells : (managers : List ManagerLine) (word : List ℕ) → Reports (IsNewName 48 (manager_names managers) word) (HasNewNameFault 48 (manager_names managers) word) (new_manager managers word)
new_manager_tells managers word =
    new_tells (NamesOf 48 word) (IsMissed faults.Name (NamesOf 48 word)) (λ name. Mem name (manager_names managers)) (new_manager managers word)
    (told_then (NamesOf 48 word) (IsMissed faults.Name (NamesOf 48 word)) (λ name. Fresh (Mem name (manager_names managers)) name) (λ name. Stands (Mem name (manager_names managers)))
    (new_name managers) (λ f. refl) (name_in 48 word) (name_tells 48 word)
    (λ name is. there_tells (manager_names managers) name (manager_place name managers) (place_found (λ (m : ManagerLine). m.name) name managers)))

pub new_channel_tells : (cables : List CableLine) (word : List ℕ) → Reports (IsNewName 20 (channel_names cables) word) (HasNewNameFault 20 (channel_names cables) word) (new_channel cables word)
new_channel_tells cables word =
    new_tells (NamesOf 20 word) (IsMissed faults.Name (NamesOf 20 word)) (λ name. Mem name (channel_names cables)) (new_channel cables word)
    (told_then (NamesOf 20 word) (IsMissed faults.Name (NamesOf 20 word)) (λ name. Fresh (Mem name (channel_names cables)) name) (λ name. Stands (Mem name (channel_names cables)))
    (new_channel_name cables) (λ f. refl) (name_in 20 word) (name_tells 20 word)
    (λ name is. there_tells (channel_names cables) name (channel_place name cables) (place_found (λ (c : CableLine). c.channel) name cables)))

-- whether a label stands for a part
abbrev Tells : Bool → Type 0 → Type 0
Tells b P = ((b ≡ true) × P) ⊎ ((b ≡ false) × (P → ⊥))

place_tells : (labels : List (List ℕ)) (label : List ℕ) (o : Option ℕ) → Found labels label o → Tells (is_place o) (Mem label labels)
place_tells labels label None t = inr (refl, t)
place_tells labels label (Some at) t = inl (refl, first_is_there labels label at t)

either_tells : (a b : Bool) (P Q : Type 0) → Tells a P → Tells b Q → Tells (a || b) (P ⊎ Q)
either_tells true b P Q (inl p) q = inl (refl, inl p.1)
either_tells true b P Q (inr p) q = absurd (let e = p.0 in cc)
either_tells false b P Q (inl p) q = absurd (let e = p.0 in cc)
either_tells false b P Q (inr p) (inl q) = inl (q.0, inr q.1)
either_tells false b P Q (inr p) (inr q) = inr (q.0, λ h. neither h)
  where
    neither : P ⊎ Q → ⊥
    neither (inl h) = p.1 h
    neither (inr h) = q.1 h

declared_by : (s : Scenario) (label : List ℕ) (b : Bool) → Tells b (HasLabel s label) → Reports (Fresh (HasLabel s label) label) (Stands (HasLabel s label)) (cond b (Err faults.Twice) (Ok label))
declared_by s label true (inl h) = stands_tells (HasLabel s label) label h.1
declared_by s label true (inr h) = absurd (let e = h.0 in cc)
declared_by s label false (inl h) = absurd (let e = h.0 in cc)
declared_by s label false (inr h) = fresh_tells (HasLabel s label) label h.1

declared_tells : (s : Scenario) (label : List ℕ) → Tells (is_declared label s) (HasLabel s label)
declared_tells s label =
    let a = is_place (section_place label s.sections) in
    let b = is_place (rules_place label s.rules) in
    let c = is_place (script_place label s.scripts) in
    let d = is_place (monitor_place label s.monitors) in
    let A : Type 0 = Mem label (section_labels s.sections) in
    let B : Type 0 = Mem label (rules_labels s.rules) in
    let C : Type 0 = Mem label (script_labels s.scripts) in
    let D : Type 0 = Mem label (monitor_labels s.monitors) in
    let ta : Tells a A = place_tells (section_labels s.sections) label (section_place label s.sections) (place_found (λ (p : Section). p.label) label s.sections) in
    let tb : Tells b B = place_tells (rules_labels s.rules) label (rules_place label s.rules) (place_found (λ (p : RulesPart). p.label) label s.rules) in
    let tc : Tells c C = place_tells (script_labels s.scripts) label (script_place label s.scripts) (place_found (λ (p : ScriptPart). p.label) label s.scripts) in
    let td : Tells d D = place_tells (monitor_labels s.monitors) label (monitor_place label s.monitors) (place_found (λ (m : MonitorLine). m.label) label s.monitors) in
    regrouped (((a || b) || c) || d) A B C D (either_tells ((a || b) || c) d ((A ⊎ B) ⊎ C) D (either_tells (a || b) c (A ⊎ B) C (either_tells a b A B ta tb) tc) td)
  where
    forth : (A B C D : Type 0) → ((A ⊎ B) ⊎ C) ⊎ D → (A ⊎ B) ⊎ (C ⊎ D)
    forth A B C D (inl (inl h)) = inl h
    forth A B C D (inl (inr h)) = inr (inl h)
    forth A B C D (inr h) = inr (inr h)

    back : (A B C D : Type 0) → (A ⊎ B) ⊎ (C ⊎ D) → ((A ⊎ B) ⊎ C) ⊎ D
    back A B C D (inl h) = inl (inl h)
    back A B C D (inr (inl h)) = inl (inr h)
    back A B C D (inr (inr h)) = inr h

    regrouped : (t : Bool) (A B C D : Type 0) → Tells t (((A ⊎ B) ⊎ C) ⊎ D) → Tells t ((A ⊎ B) ⊎ (C ⊎ D))
    regrouped t A B C D (inl h) = inl (h.0, forth A B C D h.1)
    regrouped t A B C D (inr h) = inr (h.0, λ k. h.1 (back A B C D k))

pub new_label_tells : (s : Scenario) (word : List ℕ) → Reports (IsNewLabel s word) (HasNewLabelFault s word) (new_label s word)
new_label_tells s word =
    new_tells (LabelsOf word) (IsMissed faults.Name (LabelsOf word)) (HasLabel s) (new_label s word)
    (told_then (LabelsOf word) (IsMissed faults.Name (LabelsOf word)) (λ label. Fresh (HasLabel s label) label) (λ label. Stands (HasLabel s label))
    (unless_declared s) (λ f. refl) (label_in word) (label_tells word) (λ label is. declared_by s label (is_declared label s) (declared_tells s label)))
