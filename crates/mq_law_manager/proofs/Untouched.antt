-- What no change touches: what a manager was given, whether it is up, and its log, which only a forced record lengthens.
use Rattle.std.proofs.Common.{ℕ, ◌≡◌, Bool, true, false, List, [], ◌∷◌, refl, ◌∙◌}
use Rattle.std.specs.Prelude.{Option, Some, None}
use Rattle.mq_objects.specs.Names.{local_of}
use Rattle.mq_calls.specs.declared.records.LogRecord.{LogRecord}
use Rattle.mq_calls.specs.State.{Plain, Change}
use Rattle.mq_calls.specs.State.Change.{Try, SetBound}
use Rattle.mq_calls.specs.Condition.{condition}
use Rattle.mq_calls.specs.Changes.{apply, apply_all, try_if}
use Rattle.mq_calls.specs.Steps.{Part, do_part, do_all, logged}

pub record IsUntouched (p q : Plain) : Type 0 where
  pub given : q.given ≡ p.given
  pub running : q.running ≡ p.running
  pub log : q.log ≡ p.log

tried_untouched : (b : Bool) (name : List ℕ) (p : Plain) → IsUntouched p (try_if b name p)
tried_untouched true name p = record { given = refl; running = refl; log = refl }
tried_untouched false name p = record { given = refl; running = refl; log = refl }

pub change_untouched : (c : Change) (p : Plain) → IsUntouched p (apply c p)
change_untouched (Try name priority) p = tried_untouched (condition (local_of name p.definitions) priority p) name p
change_untouched (SetBound channel true) p = record { given = refl; running = refl; log = refl }
change_untouched (SetBound channel false) p = record { given = refl; running = refl; log = refl }
change_untouched c p = record { given = refl; running = refl; log = refl }

pub changes_untouched : (cs : List Change) (p : Plain) → IsUntouched p (apply_all cs p)
changes_untouched [] p = record { given = refl; running = refl; log = refl }
changes_untouched (c ∷ cs) p =
    let first = change_untouched c p in
    let rest = changes_untouched cs (apply c p) in
    record { given = rest.given ∙ first.given; running = rest.running ∙ first.running; log = rest.log ∙ first.log }

-- a part that is done
logged_given : (r : Option LogRecord) (p : Plain) → (logged r p).given ≡ p.given
logged_given None p = refl
logged_given (Some r) p = refl

logged_running : (r : Option LogRecord) (p : Plain) → (logged r p).running ≡ p.running
logged_running None p = refl
logged_running (Some r) p = refl

pub part_given : (part : Part) (p : Plain) → (do_part part p).given ≡ p.given
part_given part p = (changes_untouched part.changes (logged part.forced p)).given ∙ logged_given part.forced p

pub part_running : (part : Part) (p : Plain) → (do_part part p).running ≡ p.running
part_running part p = (changes_untouched part.changes (logged part.forced p)).running ∙ logged_running part.forced p

pub parts_given : (parts : List Part) (p : Plain) → (do_all parts p).given ≡ p.given
parts_given [] p = refl
parts_given (part ∷ parts) p = parts_given parts (do_part part p) ∙ part_given part p

pub parts_running : (parts : List Part) (p : Plain) → (do_all parts p).running ≡ p.running
parts_running [] p = refl
parts_running (part ∷ parts) p = parts_running parts (do_part part p) ∙ part_running part p
