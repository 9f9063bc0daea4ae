-- At each front of a manager's history the network's facts hold, where the story of the run has no conflict.
use Rattle.std.proofs.Common.{ℕ, ◌≡◌, Bool, List, [], ◌∷◌, ◌++◌, refl, ap, sym, subst, ◌∙◌, append_assoc}
use Rattle.std.specs.Prelude.{◌==◌, if◌then◌else◌, Some, slice_get}
use Rattle.mq_history.specs.declared.calls.Entry.{Entry}
use Rattle.mq_history.specs.declared.history.History.{History}
use Rattle.mq_history.specs.declared.scenario.Scenario.{Scenario}
use Rattle.mq_spec_network.specs.Conflict.{Deed as ToldDeed, NoConflict, deeds}
use Rattle.mq_spec_network.specs.Promised.{Premises}
use Rattle.mq_spec_network.specs.Story.{IsStory, Line, Mem, entries_at, entries_or, part}
use Rattle.mq_law_manager.proofs.Lists.{mem_before}
use Rattle.mq_law_node.proofs.Named.{bool_case}
use Rattle.mq_law_ran.proofs.from_law_one.Running.{none_more, one_more, told_of}
use Rattle.mq_law_ran.specs.from_law_run.Run.{Stand}
use Rattle.mq_law_ran.proofs.from_law_run.Beginning.{begins}
use Rattle.mq_law_ran.proofs.from_law_run.Standing.{keeps_on}
use Rattle.mq_law_ran.proofs.from_law_run.Whole.{entry_moves}
use Rattle.mq_law_rest.specs.Rests.{IsPeaceful}
use Rattle.mq_law_rest.proofs.Calm.{IsCalm, calm_of, deeds_both, mem_of_part}

-- ALL PREFIXES
stands : (s : Scenario) (hs : List History) (story wide : List Line) (later : List ToldDeed) (before p rest : List Line) → Premises s hs → IsStory hs story → NoConflict s hs wide → deeds wide ≡ deeds story ++ later → story ≡ before ++ (p ++ rest)
    → Stand s hs before → Stand s hs (before ++ p)
stands s hs story wide later before [] rest premises is peace all split z = subst (Stand s hs) (sym (none_more before)) z
stands s hs story wide later before (x ∷ p) rest premises is peace all split z =
    let here : IsStory hs (before ++ x ∷ (p ++ rest)) = subst (IsStory hs) split is in
    let t = told_of s hs before x (p ++ rest) premises here in
    let on : story ≡ (before ++ x ∷ []) ++ (p ++ rest) = split ∙ sym (one_more before x (p ++ rest)) in
    let so : deeds wide ≡ deeds (before ++ x ∷ []) ++ (deeds (p ++ rest) ++ later) =
    all ∙ ap (λ ds. ds ++ later) (ap deeds on ∙ deeds_both (before ++ x ∷ []) (p ++ rest)) ∙ append_assoc (deeds (before ++ x ∷ [])) (deeds (p ++ rest)) later in
    let v = entry_moves s hs wide before (p ++ rest) (deeds (p ++ rest) ++ later) x z t premises here peace so in
    subst (Stand s hs) (one_more before x p)
    (stands s hs story wide later (before ++ x ∷ []) p rest premises is peace all on (keeps_on s hs before x t.h t.stamp z premises.scenario t.is t.tells t.own v))

-- THE PREFIX AT WHICH A MANAGER DID SO MUCH
record Front (m : ℕ) (story : List Line) (front : List Entry) : Type 0 where
  before : List Line
  rest : List Line
  split : story ≡ before ++ rest
  did : part m before ≡ front

one_less : (x y : Entry) (xs ys : List Entry) → x ∷ xs ≡ y ∷ ys → (x ≡ y) × (xs ≡ ys)
one_less x y xs ys e = (heads e, tails e)
  where
    heads : x ∷ xs ≡ y ∷ ys → x ≡ y
    heads k = cc

    tails : x ∷ xs ≡ y ∷ ys → xs ≡ ys
    tails k = cc

never_more : (y : Entry) (ys : List Entry) → [] ≡ y ∷ ys → ⊥
never_more y ys e = cc

front_in : (m : ℕ) (story : List Line) (front back : List Entry) → part m story ≡ front ++ back → Front m story front
front_in m story [] back e = record { before = []; rest = story; split = refl; did = refl }
front_in m [] (f ∷ front) back e = absurd (never_more f (front ++ back) e)
front_in m (x ∷ story) (f ∷ front) back e = bool_case (m == x.manager)
    (λ b. (m == x.manager) ≡ b → (if b then x.entry ∷ part m story else part m story) ≡ (f ∷ front) ++ back → Front m (x ∷ story) (f ∷ front))
    (λ z on k.
    let both = one_less x.entry f (part m story) (front ++ back) k in
    let r : Front m story front = front_in m story front back both.1 in record {
      before = x ∷ r.before;
      rest = r.rest;
      split = ap (λ (xs : List Line). x ∷ xs) r.split;
      did = ap (λ (b : Bool). if b then x.entry ∷ part m r.before else part m r.before) on ∙ (λ i. both.0 i ∷ r.did i);
    })
    (λ z off k.
    let r : Front m story (f ∷ front) = front_in m story (f ∷ front) back k in record {
      before = x ∷ r.before;
      rest = r.rest;
      split = ap (λ (xs : List Line). x ∷ xs) r.split;
      did = ap (λ (b : Bool). if b then x.entry ∷ part m r.before else part m r.before) off ∙ r.did;
    }) refl e

-- the facts there
pub record StandAt (s : Scenario) (hs : List History) (m : ℕ) (front : List Entry) : Type 0 where
  pub prefix : List Line
  pub stand : Stand s hs prefix
  pub did : part m prefix ≡ front
  pub told : (x : Line) → Mem x prefix → Mem x.entry (entries_at hs x.manager)

pub stand_at : (s : Scenario) (hs : List History) → Premises s hs → IsPeaceful s hs → (m : ℕ) (h : History) (front back : List Entry) → slice_get hs m ≡ Some h → h.entries ≡ front ++ back → StandAt s hs m front
stand_at s hs premises peaceful m h front back is split =
    let calm : IsCalm s hs = calm_of s hs premises peaceful in
    let r : Front m calm.story front = front_in m calm.story front back (calm.is.parts m ∙ ap entries_or is ∙ split) in record {
      prefix = r.before;
      stand = stands s hs calm.story calm.wide calm.later [] r.before r.rest premises calm.is calm.peace calm.split r.split (begins s hs premises);
      did = r.did;
      told = λ x there. subst (λ (es : List Entry). Mem x.entry es) (calm.is.parts x.manager) (mem_of_part x calm.story (subst (Mem x) (sym r.split) (mem_before x r.before r.rest there)));
    }

pub stand_whole : (s : Scenario) (hs : List History) → Premises s hs → (calm : IsCalm s hs) → Stand s hs calm.story
stand_whole s hs premises calm = stands s hs calm.story calm.wide calm.later [] calm.story [] premises calm.is calm.peace calm.split (sym (none_more calm.story)) (begins s hs premises)
