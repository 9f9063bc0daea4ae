-- The histories of a run up to the end of one of its steps: they are lawful, and the premises hold of them.
use Rattle.std.proofs.Common.{ℕ, zero, suc, ◌≡◌, ◌<◌, List, [], ◌∷◌, ◌++◌, length, refl, ap, sym, subst, ◌∙◌, arith}
use Rattle.std.specs.Prelude.{◌+◌, All, Option, Some, None, drop, slice_get, take}
use Rattle.std.specs.Option.{option_map}
use Rattle.std.proofs.lemmas.List.{length-map, take-append-drop}
use Rattle.std.proofs.Math.Seq.{take-append_seam}
use Rattle.mq_calls.specs.Recovery.{IsDoubtKnown, IsImage}
use Rattle.mq_calls.specs.declared.state.SenderSide.{SenderSide}
use Rattle.mq_history.specs.declared.calls.Actor.{Actor}
use Rattle.mq_history.specs.declared.calls.Entry.{Entry}
use Rattle.mq_history.specs.declared.history.History.{History}
use Rattle.mq_history.specs.declared.history.Mark.{Mark}
use Rattle.mq_history.specs.declared.scenario.Scenario.{Scenario}
use Rattle.mq_spec_node.specs.Node.{Node}
use Rattle.mq_spec_node.specs.Replays.{Follows, NoneForeign, TriggersStand, done_by, opening_node}
use Rattle.mq_spec_network.specs.Given.{surroundings}
use Rattle.mq_spec_network.specs.Turns.{Network}
use Rattle.mq_spec_network.specs.Tasks.{tasks_next}
use Rattle.mq_spec_network.specs.Steps.Goes.{stays}
use Rattle.mq_spec_network.specs.Apart.{IsJoined}
use Rattle.mq_spec_network.specs.Lawful.{AreOwn, AreSteps, IsHistory, IsLawful, Went, marks_or, network_begun}
use Rattle.mq_spec_network.specs.Promised.{AreDoubtsKnown, AreImages, Premises}
use Rattle.mq_law_ran.specs.Runs.{AreHistories}
use Rattle.mq_law_ran.proofs.Keeping.{same_apart}
use Rattle.mq_law_ran.proofs.Lawfuls.{lawful}
use Rattle.mq_nodes.specs.Carried.{AreCarriedSoFar, entries_until, history_until, until}
use Rattle.mq_law_rest.specs.Until.{IsPlace}
use Rattle.mq_law_rest.proofs.Steps.{begun_until, entries_place, marks_many, until_at}
use Rattle.mq_law_pump.proofs.Histories.{follows_front}

-- ONE HISTORY
triggers_front : (last : Option Actor) (n : Node) (xs ys : List Entry) → TriggersStand last n (xs ++ ys) → TriggersStand last n xs
triggers_front last n [] ys f = tt
triggers_front last n (x ∷ xs) ys f = (f.0, triggers_front (Some x.actor) (done_by x n).next xs ys f.1)

own_front : (xs ys : List Entry) → NoneForeign (xs ++ ys) → NoneForeign xs
own_front [] ys f = tt
own_front (x ∷ xs) ys f = (f.0, own_front xs ys f.1)

history_front : (s : Scenario) (m i : ℕ) (h : History) → IsHistory s m h → IsHistory s m (history_until i h)
history_front s m i h p =
    let k : ℕ = entries_until i h.marks in
    let n : Node = opening_node (surroundings s m) h in record {
      replays = record {
        number = p.replays.number;
        name = p.replays.name;
        follows = follows_front n 0 (take k h.entries) (drop k h.entries) (subst (Follows n 0) (sym (take-append-drop k h.entries)) p.replays.follows);
      };
      triggers = triggers_front None n (take k h.entries) (drop k h.entries) (subst (TriggersStand None n) (sym (take-append-drop k h.entries)) p.triggers);
    }

-- what holds of each so far
pub each_until : (P : ℕ → History → Type 0) (i : ℕ) (hs : List History) → ((m : ℕ) (h : History) → slice_get hs m ≡ Some h → P m (history_until i h)) → (m : ℕ) (h : History) → slice_get (until i hs) m ≡ Some h → P m h
each_until P i hs f m h is = at (slice_get hs m) refl
  where
    at : (o : Option History) → slice_get hs m ≡ o → P m h
    at None e = absurd (no_history (sym (sym (until_at i hs m) ∙ is) ∙ ap (option_map (history_until i)) e))
      where
        no_history : Some h ≡ None → ⊥
        no_history k = cc
    at (Some g) e = subst (P m) (one_history (sym (ap (option_map (history_until i)) e) ∙ sym (until_at i hs m) ∙ is)) (f m g e)
      where
        one_history : Some (history_until i g) ≡ Some h → history_until i g ≡ h
        one_history k = cc

pub histories_until : (s : Scenario) (hs : List History) (i : ℕ) → AreHistories s hs → AreHistories s (until i hs)
histories_until s hs i a = record {
  all = length-map hs (history_until i) ∙ a.all;
  each = each_until (IsHistory s) i hs (λ m h is. history_front s m i h (a.each m h is));
}

pub images_until : (hs : List History) (i : ℕ) → AreImages hs → AreImages (until i hs)
images_until hs i a = each_until (λ m h. IsImage h.opening) i hs a

pub known_until : (hs : List History) (i : ℕ) → AreDoubtsKnown hs → AreDoubtsKnown (until i hs)
known_until hs i a = each_until (λ m h. All (λ (x : SenderSide). IsDoubtKnown (m + 1) h.opening.incarnation x.hardened.in_doubt) h.opening.senders) i hs a

pub own_until : (hs : List History) (i : ℕ) → AreOwn hs → AreOwn (until i hs)
own_until hs i a = each_until (λ m h. NoneForeign h.entries) i hs (λ m h is. own_front (take (entries_until i h.marks) h.entries) (drop (entries_until i h.marks) h.entries)
    (subst NoneForeign (sym (take-append-drop (entries_until i h.marks) h.entries)) (a m h is)))

pub joined_until : (s : Scenario) (hs : List History) (i : ℕ) → IsJoined s hs → IsJoined s (until i hs)
joined_until s hs i j = record {
  all = length-map hs (history_until i) ∙ j.all;
  together = same_apart s (until i hs) hs (length-map hs (history_until i)) (λ m. begun_until s i hs m) ∙ j.together;
}

-- THEIR STEPS
same_begun : (s : Scenario) (hs : List History) (i : ℕ) → network_begun s (until i hs) ≡ network_begun s hs
same_begun s hs i = λ j. record { scenario = s; first = λ m. begun_until s i hs m j; done = λ m. [] }

steps_until : (s : Scenario) (hs : List History) (i : ℕ) (w : Network) → IsPlace s hs i w → AreSteps s (until i hs)
steps_until s hs i w p = record {
  whole = p.front;
  rest = p.rest;
  tasks = tasks_next w p.rest;
  far = record {
    marks = p.marks;
    now = w;
    stands = record { before = w; parts = p.parts; went = subst (λ (w0 : Network). Went w0 p.front p.marks w) (sym (same_begun s hs i)) p.went; goes = stays };
    entries = λ m. sym (entries_place s hs i w p m);
    noted = λ m less. ap marks_or (until_at i hs m) ∙ at m (slice_get hs m) refl less;
  };
}
  where
    past : (m : ℕ) (xs : List History) → slice_get xs m ≡ None → m < length xs → ⊥
    past m [] e less = omega (arith, less)
    past zero (x ∷ xs) e less = cc
    past (suc m) (x ∷ xs) e less = past m xs e (omega (arith, less))

    at : (m : ℕ) (o : Option History) → slice_get hs m ≡ o → m < length (until i hs) → marks_or (option_map (history_until i) o) ≡ p.marks m
    at m None is less = absurd (past m hs is (subst (λ (k : ℕ). m < k) (length-map hs (history_until i)) less))
    at m (Some h) is less = ap (λ (k : ℕ). take k h.marks) (sym p.many ∙ sym (marks_many (network_begun s hs) p.went m)) ∙ ap (λ (xs : List Mark). take (length (p.marks m)) xs) (p.noted m h is) ∙ take-append_seam (p.marks m) (p.later m)

-- ALL PREMISES
pub histories_of : (s : Scenario) (hs : List History) → IsLawful s hs → AreHistories s hs
histories_of s hs law = record { all = law.all; each = law.histories }

pub premises_until : (s : Scenario) (hs : List History) (i : ℕ) (w : Network) → Premises s hs → AreCarriedSoFar s hs → IsPlace s hs i w → Premises s (until i hs)
premises_until s hs i w q carried p = record {
  scenario = q.scenario;
  openings = images_until hs i q.openings;
  known = known_until hs i q.known;
  joined = joined_until s hs i q.joined;
  lawful = lawful s (until i hs) (histories_until s hs i (histories_of s hs q.lawful)) (carried i) (steps_until s hs i w p);
  own = own_until hs i q.own;
}
