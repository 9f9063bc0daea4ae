-- What each change of a list has: behind other changes, under a weaker test, and what it keeps of a manager.
use Rattle.std.proofs.Common.{◌≡◌, Bool, true, List, [], ◌∷◌, ◌++◌, refl, ap, ◌∙◌}
use Rattle.std.proofs.lemmas.Bool.{and_parts}
use Rattle.std.specs.Prelude.{Option, ◌&&◌}
use Rattle.mq_calls.specs.declared.records.LogRecord.{LogRecord}
use Rattle.mq_calls.specs.State.{Change, Plain}
use Rattle.mq_calls.specs.Changes.{apply, apply_all}
use Rattle.mq_calls.specs.Steps.{Part, Step, do_all, do_part, logged}
use Rattle.mq_calls.specs.Steps.Step.{Do, Refuse}
use Rattle.mq_law_seized.specs.Each.{all_of, parts_of_all, step_of_all}
use Rattle.mq_law_manager.specs.Kept.{AllKeep, StepKeeps}

-- one behind another
pub all_behind : (is : Change → Bool) (xs ys : List Change) → all_of is xs ≡ true → all_of is ys ≡ true → all_of is (xs ++ ys) ≡ true
all_behind is [] ys a b = b
all_behind is (x ∷ xs) ys a b = let z = and_parts (is x) (all_of is xs) a in ap (λ (t : Bool). t && all_of is (xs ++ ys)) z.0 ∙ all_behind is xs ys z.1 b

pub parts_behind : (is : Change → Bool) (xs ys : List Part) → parts_of_all is xs ≡ true → parts_of_all is ys ≡ true → parts_of_all is (xs ++ ys) ≡ true
parts_behind is [] ys a b = b
parts_behind is (x ∷ xs) ys a b = let z = and_parts (all_of is x.changes) (parts_of_all is xs) a in ap (λ (t : Bool). t && parts_of_all is (xs ++ ys)) z.0 ∙ parts_behind is xs ys z.1 b

-- what asks more lets pass less
pub all_weaker : (is may : Change → Bool) → ((c : Change) → is c ≡ true → may c ≡ true) → (cs : List Change) → all_of is cs ≡ true → all_of may cs ≡ true
all_weaker is may f [] e = refl
all_weaker is may f (c ∷ cs) e = let z = and_parts (is c) (all_of is cs) e in ap (λ (t : Bool). t && all_of may cs) (f c z.0) ∙ all_weaker is may f cs z.1

pub parts_weaker : (is may : Change → Bool) → ((c : Change) → is c ≡ true → may c ≡ true) → (parts : List Part) → parts_of_all is parts ≡ true → parts_of_all may parts ≡ true
parts_weaker is may f [] e = refl
parts_weaker is may f (part ∷ parts) e = let z = and_parts (all_of is part.changes) (parts_of_all is parts) e in
    ap (λ (t : Bool). t && parts_of_all may parts) (all_weaker is may f part.changes z.0) ∙ parts_weaker is may f parts z.1

pub step_weaker : {F T : Type 0} (is may : Change → Bool) → ((c : Change) → is c ≡ true → may c ≡ true) → (s : Step F T) → step_of_all is s ≡ true → step_of_all may s ≡ true
step_weaker is may f (Refuse reason) e = refl
step_weaker is may f (Do reply parts) e = parts_weaker is may f parts e

-- What each such change keeps, and a record, all of them keep.
pub all_keep : (is : Change → Bool) (P : Plain → Type 0) → ((c : Change) (p : Plain) → is c ≡ true → P p → P (apply c p)) → (cs : List Change) (p : Plain) → all_of is cs ≡ true → P p → P (apply_all cs p)
all_keep is P f [] p e h = h
all_keep is P f (c ∷ cs) p e h = let z = and_parts (is c) (all_of is cs) e in all_keep is P f cs (apply c p) z.1 (f c p z.0 h)

pub parts_keep : (is : Change → Bool) (P : Plain → Type 0) → ((c : Change) (p : Plain) → is c ≡ true → P p → P (apply c p)) → ((o : Option LogRecord) (p : Plain) → P p → P (logged o p))
    → (parts : List Part) (p : Plain) → parts_of_all is parts ≡ true → P p → AllKeep P parts p
parts_keep is P f g [] p e h = tt
parts_keep is P f g (part ∷ parts) p e h =
    let z = and_parts (all_of is part.changes) (parts_of_all is parts) e in
    let next : P (do_part part p) = all_keep is P f part.changes (logged part.forced p) z.0 (g part.forced p h) in
    (next, parts_keep is P f g parts (do_part part p) z.1 next)

pub step_keeps : {F T : Type 0} (is : Change → Bool) (P : Plain → Type 0) → ((c : Change) (p : Plain) → is c ≡ true → P p → P (apply c p)) → ((o : Option LogRecord) (p : Plain) → P p → P (logged o p))
    → (s : Step F T) (p : Plain) → step_of_all is s ≡ true → P p → StepKeeps P s p
step_keeps is P f g (Refuse reason) p e h = tt
step_keeps is P f g (Do reply parts) p e h = parts_keep is P f g parts p e h

-- behind the last part
pub kept_behind : (P : Plain → Type 0) (parts : List Part) (p : Plain) → P p → AllKeep P parts p → P (do_all parts p)
kept_behind P [] p h k = h
kept_behind P (part ∷ parts) p h k = kept_behind P parts (do_part part p) k.0 k.1
