-- Where in a run a PUMP stands that was done whole: its two networks, and what its mark says.
use Rattle.std.proofs.Common.{ℕ, suc, ◌≡◌, ◌<◌, List, [], ◌∷◌, ◌++◌, length, ap, sym, ◌∙◌, append_assoc, arith}
use Rattle.std.specs.Prelude.{Some, slice_get}
use Rattle.std.proofs.lemmas.Option.{slice_get_within}
use Rattle.mq_history.specs.declared.history.History.{History}
use Rattle.mq_history.specs.declared.history.Mark.{Mark}
use Rattle.mq_history.specs.declared.scenario.Scenario.{Scenario}
use Rattle.mq_history.specs.declared.scenario.Step.{Step}
use Rattle.mq_history.specs.declared.scenario.Step.TheVariants as steps
use Rattle.mq_spec_network.specs.Tasks.{Task, tasks_next, tasks_of}
use Rattle.mq_spec_network.specs.Lawful.{IsFar, mark_of, marks_or, network_begun}
use Rattle.mq_spec_network.specs.Lawful.Went.{ends}
use Rattle.mq_nodes.proofs.CarriedLaws.{get_front as slice_front}
use Rattle.mq_law_rest.specs.Until.{IsStep}
use Rattle.mq_law_rest.proofs.Steps.{Grew, Split, at_end, goes_grew, grew_then, longer, marks_many, some_is, split}

pub step_of : (s : Scenario) (hs : List History) (whole rest : List Step) (tasks : List Task) (i n : ℕ) → IsFar s hs whole rest tasks → slice_get s.steps i ≡ Some (steps.Pump n) → (m : ℕ) (h : History) (k : Mark) → slice_get hs m ≡ Some h
    → slice_get h.marks i ≡ Some k → IsStep s hs i n
step_of s hs whole rest tasks i n far is m h k there marked = record {
  before = sp.before;
  after = sp.after;
  place = record {
    front = sp.front;
    rest = (step ∷ sp.back) ++ rest;
    parts = far.stands.parts ∙ ap (λ (xs : List Step). xs ++ rest) sp.parts ∙ append_assoc sp.front (step ∷ sp.back) rest;
    many = sp.many;
    marks = sp.noted;
    went = sp.went;
    later = λ j. mark_of sp.after step j ∷ sp.later j;
    noted = all_noted;
    more = (grew_then sp.before sp.after far.now begins since).more;
    has = λ j. sym (far.entries j) ∙ (grew_then sp.before sp.after far.now begins since).has j;
  };
  next = record {
    front = sp.front ++ step ∷ [];
    rest = sp.back ++ rest;
    parts = far.stands.parts ∙ ap (λ (xs : List Step). xs ++ rest) sp.parts ∙ append_assoc sp.front (step ∷ sp.back) rest ∙ sym (append_assoc sp.front (step ∷ []) (sp.back ++ rest));
    many = longer sp.front step ∙ ap suc sp.many;
    marks = λ j. sp.noted j ++ mark_of sp.after step j ∷ [];
    went = ends sp.front sp.noted sp.before sp.after step sp.went sp.goes sp.served;
    later = sp.later;
    noted = λ j g z. all_noted j g z ∙ sym (append_assoc (sp.noted j) (mark_of sp.after step j ∷ []) (sp.later j));
    more = since.more;
    has = λ j. sym (far.entries j) ∙ since.has j;
  };
  goes = sp.goes;
  idle = λ j g x z at. ap (λ (y : Mark). y.idle) (sym (some_is (mark_of sp.after step j) x (sym (its_mark j g z) ∙ at)));
}
  where
    step : Step
    step = steps.Pump n

    far_noted : (j : ℕ) (g : History) → slice_get hs j ≡ Some g → g.marks ≡ far.marks j
    far_noted j g z = sym (ap marks_or z) ∙ far.noted j (slice_get_within hs j g z)

    less : i < length whole
    less = omega (arith, slice_get_within h.marks i k marked, ap length (far_noted m h there), marks_many (network_begun s hs) far.stands.went m)

    at_whole : slice_get whole i ≡ Some step
    at_whole = sym (slice_front whole rest i less) ∙ ap (λ (xs : List Step). slice_get xs i) (sym far.stands.parts) ∙ is

    sp : Split (network_begun s hs) step i whole far.marks far.stands.before
    sp = split (network_begun s hs) far.stands.went i step at_whole

    begins : Grew sp.before sp.after
    begins = goes_grew sp.before (tasks_of sp.before step) sp.goes

    since : Grew sp.after far.now
    since = grew_then sp.after far.stands.before far.now sp.grew (goes_grew far.stands.before (tasks_next far.stands.before rest) far.stands.goes)

    all_noted : (j : ℕ) (g : History) → slice_get hs j ≡ Some g → g.marks ≡ sp.noted j ++ mark_of sp.after step j ∷ sp.later j
    all_noted j g z = far_noted j g z ∙ sp.marked j

    its_mark : (j : ℕ) (g : History) → slice_get hs j ≡ Some g → slice_get g.marks i ≡ Some (mark_of sp.after step j)
    its_mark j g z = ap (λ (xs : List Mark). slice_get xs i) (all_noted j g z ∙ sym (append_assoc (sp.noted j) (mark_of sp.after step j ∷ []) (sp.later j)))
        ∙ ap (λ (l : ℕ). slice_get ((sp.noted j ++ mark_of sp.after step j ∷ []) ++ sp.later j) l) (sym sp.many ∙ sym (marks_many (network_begun s hs) sp.went j))
        ∙ at_end (sp.noted j) (mark_of sp.after step j) (sp.later j)
