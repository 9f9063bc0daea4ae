-- What is kept under a lock is kept by entries more that a phase may have.
use Rattle.std.proofs.Common.{◌≡◌, ◌≢◌, ℕ, zero, suc, ◌≤◌, ◌<◌, ◌^◌, Bool, true, false, List, [], ◌∷◌, ◌++◌, length, refl, sym, ap, subst, ◌∙◌, append_assoc, append-nil, inl, inr, ⊎_elim}
use Rattle.std.specs.Prelude.{◌⊎◌, IfSome, Some, None, map, slice_get, slice_set}
use Rattle.std.specs.List.{AllByRecursion}
use Rattle.mq_history.specs.declared.history.History.{History}
use Rattle.mq_spec_node.specs.Node.{Node}
use Rattle.mq_spec_node.specs.Replays.{Follows, Tells, after, done_by, opening_node}
use Rattle.mq_spec_node.specs.Terms.{Entry}
use Rattle.mq_spec_node.specs.Words.{Grows, NodeValue, stamp_after}
use Rattle.mq_spec_network.specs.Steps.{AllInPhase, AreTriggers, InPhase}
use Rattle.mq_spec_network.specs.Tasks.{Trying}
use Rattle.mq_acts.specs.from_events.States.{NodeState, IsKept, IsServed, node_in, value_of}
use Rattle.mq_acts.specs.from_events.Events.{MayAct}
use Rattle.mq_acts.specs.Advances.{IsTextLine}
use Rattle.mq_acts.specs.Serving.{AreTurns, IsDone}
use Rattle.mq_split.specs.Took.{EndState}
use Rattle.mq_split.specs.Ends.{AreFree, EachIs, EndsApart, IsEndAt, end_name}
pub use Rattle.mq_acts.proofs.ServeLaws.{grows_more as grows_on}
use Rattle.mq_split.proofs.PlaceLaws.{get_set}
use Rattle.mq_shared.specs.Held.{Begun, Held, IsScriptIn, Kept, ScriptState, ScriptsApart, cables_begun, script_name}
use Rattle.mq_shared.specs.Events.{Stayed, Went}
use Rattle.mq_shared.proofs.QuietLaws.{IsSilent, behind_silent}

pub each_set : {A : Type 0} (P : A → Type 0) (xs : List A) (k : ℕ) (x : A) → P x → ((j : ℕ) (y : A) → j ≢ k → slice_get xs j ≡ Some y → P y) → EachIs P (slice_set xs k x)
each_set P xs k x mine others j y e = ⊎_elim (λ (p : (j ≡ k) × (x ≡ y)). subst P p.1 mine) (λ (p : (j ≢ k) × (slice_get xs j ≡ Some y)). others j y p.0 p.1) (get_set xs k j x y e)

-- a relation between places stays where the one that changed has what it had
pub pairs_set : {A : Type 0} (R : A → A → Type 0) (xs : List A) (k : ℕ) (x x' : A) → slice_get xs k ≡ Some x → ((y : A) → R x' y → R x y) → ((y : A) → R y x' → R y x) → ((i j : ℕ) (y z : A) → slice_get xs i ≡ Some y → slice_get xs j ≡ Some z → R y z → i ≡ j)
    → (i j : ℕ) (y z : A) → slice_get (slice_set xs k x') i ≡ Some y → slice_get (slice_set xs k x') j ≡ Some z → R y z → i ≡ j
pairs_set R xs k x x' at left right apart i j y z p q r =
    ⊎_elim
    (λ (a : (i ≡ k) × (x' ≡ y)).
    ⊎_elim (λ (b : (j ≡ k) × (x' ≡ z)). a.0 ∙ sym b.0) (λ (b : (j ≢ k) × (slice_get xs j ≡ Some z)). a.0 ∙ apart k j x z at b.1 (left z (subst (λ (u : _). R u z) (sym a.1) r)))
    (get_set xs k j x' z q))
    (λ (a : (i ≢ k) × (slice_get xs i ≡ Some y)).
    ⊎_elim (λ (b : (j ≡ k) × (x' ≡ z)). apart i k y x a.1 at (right y (subst (λ (u : _). R y u) (sym b.1) r)) ∙ sym b.0) (λ (b : (j ≢ k) × (slice_get xs j ≡ Some z)). apart i j y z a.1 b.1 r)
    (get_set xs k j x' z q))
    (get_set xs k i x' y p)

-- what is told of each stays where it is told of the one that changed
pub names_set : {A B : Type 0} (f : A → B) (xs : List A) (k : ℕ) (x y : A) → slice_get xs k ≡ Some x → f y ≡ f x → map f (slice_set xs k y) ≡ map f xs
names_set f [] k x y at same = refl
names_set f (w ∷ ws) zero x y at same = ap (λ z. z ∷ map f ws) (same ∙ sym (ap f (some_is w x at)))
  where
    some_is : {A : Type 0} (a b : A) → Some a ≡ Some b → a ≡ b
    some_is a b h = cc
names_set f (w ∷ ws) (suc k) x y at same = ap (λ zs. f w ∷ zs) (names_set f ws k x y at same)

-- ENTRIES
pub in_phase_on : (ts : List Trying) (m : ℕ) (done xs ys : List Entry) → AllInPhase ts m done xs → AllInPhase ts m (done ++ xs) ys → AllInPhase ts m done (xs ++ ys)
in_phase_on ts m done [] ys h k = subst (λ (d : List Entry). AllInPhase ts m d ys) (append-nil done) k
in_phase_on ts m done (x ∷ xs) ys h k = (h.0, in_phase_on ts m (done ++ x ∷ []) xs ys h.1 (subst (λ (d : List Entry). AllInPhase ts m d ys) (sym (append_assoc done (x ∷ []) xs)) k))

pub turns_in : (ts : List Trying) (m : ℕ) (done es : List Entry) → AreTurns es → AllInPhase ts m done es
turns_in ts m done [] h = tt
turns_in ts m done (e ∷ es) h = (inr h.0, turns_in ts m (done ++ e ∷ []) es h.1)

-- an event of a phase, with trigger turns behind it
pub made_in : (ts : List Trying) (m : ℕ) (done : List Entry) (e : Entry) (behind : List Entry) → InPhase ts done m e e.actor → AreTurns behind → AllInPhase ts m done (e ∷ behind)
made_in ts m done e behind h t = (inl h, turns_in ts m (done ++ e ∷ []) behind t)

pub are_triggers : (es : List Entry) → AreTurns es → AreTriggers es
are_triggers [] h = tt
are_triggers (e ∷ es) h = (h.0, are_triggers es h.1)

pub grown_entries : (a b : NodeValue) (xs : List Entry) → Grows a xs b → b.history.entries ≡ a.history.entries ++ xs
grown_entries a b xs g = ap (λ (h : History). h.entries) g.history

-- WHAT ITS ENTRY TELLS, at the node as it was
follows_there : (old new : NodeState) (es : List Entry) → IsKept new → Went old es new → Follows (opening_node old.given old.history) 0 (old.history.entries ++ es)
follows_there old new es kept w =
    let opens : opening_node new.given new.history ≡ opening_node old.given old.history = ap (λ (h : History). opening_node new.given h) w.grows.history ∙ ap (λ g. opening_node g old.history) w.grows.given in
    subst (λ (x : Node). Follows x 0 (old.history.entries ++ es)) opens (subst (Follows (opening_node new.given new.history) 0) (grown_entries (value_of old) (value_of new) es w.grows) kept.replays.follows)

tells_among : (n : Node) (last : ℕ) (xs ys : List Entry) (e : Entry) → Follows n last (xs ++ e ∷ ys) → Tells (after n xs) (stamp_after last xs) e
tells_among n last [] ys e f = f.0
tells_among n last (x ∷ xs) ys e f = tells_among (done_by x n).next x.stamp xs ys e f.1

pub tells_here : (old new : NodeState) (e : Entry) (behind : List Entry) → IsKept old → IsKept new → Went old (e ∷ behind) new → Tells (node_in old) old.stamp e
tells_here old new e behind kept later w =
    let first : Node = opening_node old.given old.history in
    subst (λ (x : Node). Tells x old.stamp e) (sym kept.node)
    (subst (λ (s : ℕ). Tells (after first old.history.entries) s e) (sym kept.stamp) (tells_among first 0 old.history.entries behind e (follows_there old new (e ∷ behind) later w)))

pub silent_behind : (old new : NodeState) (e : Entry) (behind : List Entry) → IsKept new → Went old (e ∷ behind) new → AreTurns behind → AllByRecursion IsSilent behind
silent_behind old new e behind later w turns =
    behind_silent (opening_node old.given old.history) 0 (old.history.entries ++ e ∷ []) behind
    (subst (λ (es : List Entry). Follows (opening_node old.given old.history) 0 es) (sym (append_assoc old.history.entries (e ∷ []) behind)) (follows_there old new (e ∷ behind) later w)) (are_triggers behind turns)

-- WHAT IS KEPT
pub stayed_went : (old new : NodeState) → Stayed old new → Went old [] new
stayed_went old new s = record {
  grows = record {
    given = ap (λ (v : NodeValue). v.given) s.same;
    history = ap (λ (v : NodeValue). v.history) s.same ∙ ap (λ (es : List Entry). record old.history { entries = es }) (sym (append-nil old.history.entries));
  };
  marks = s.marks;
}

-- no trigger is due where the node may act
pub served_of : (s : NodeState) → IsDone s → MayAct s → IsServed s
served_of s (inl h) may = h
served_of s (inr h) may = absurd (let no : true ≡ false = sym h ∙ may in cc)

pub served_at : (b : Begun) (h : Held) → Kept b h → h.wants ≡ false → MayAct h.node → IsServed h.node
served_at b h k wants may = served_of h.node (k.ready wants) may

pub served_stays : (old new : NodeState) → Stayed old new → IsServed old → IsServed new
served_stays old new s h = subst (λ (v : NodeValue). Rattle.mq_spec_node.specs.Words.trigger_deed v.node ≡ None) (sym s.same) h

-- what its script may be tried with
pub texts_at : (b : Begun) (h : Held) (at : ℕ) (s : ScriptState) → Kept b h → slice_get h.scripts at ≡ Some s → (n : ℕ) → IfSome (slice_get s.part.lines n) IsTextLine
texts_at b h at s k is = (k.scripts at s is).texts

pub few_at : (b : Begun) (h : Held) (at : ℕ) (s : ScriptState) → Kept b h → slice_get h.scripts at ≡ Some s → s.course.done ≤ length s.part.lines
few_at b h at s k is = (k.scripts at s is).few

pub short_at : (b : Begun) (h : Held) (at : ℕ) (s : ScriptState) → Kept b h → slice_get h.scripts at ≡ Some s → length s.part.lines < 2 ^ 32
short_at b h at s k is = (k.scripts at s is).short

-- so many entries more
pub kept_on : (b : Begun) (h : Held) (k : Kept b h) (es : List Entry) (new : NodeState) (ends : List EndState) (scripts : List ScriptState) (wants : Bool) → Went h.node es new → AllInPhase b.tries h.manager h.node.history.entries es
    → EachIs (IsEndAt (cables_begun b) h.manager k.first.history.entries (k.since ++ es)) ends → EndsApart ends → map end_name ends ≡ map end_name h.ends → EachIs (IsScriptIn b h.manager (h.node.history.entries ++ es)) scripts → ScriptsApart scripts → map script_name scripts ≡ map script_name h.scripts → (wants ≡ false → IsDone new) → (wants ≡ false → AreFree ends)
    → Kept b (record { manager = h.manager; node = new; ends = ends; scripts = scripts; wants = wants })
kept_on b h k es new ends scripts wants w phased are apart ends_named tried single scripts_named ready free =
    let first : List Entry = k.first.history.entries in
    let entries : h.node.history.entries ≡ first ++ k.since = grown_entries (value_of k.first) (value_of h.node) k.since k.grows in
    record {
      first = k.first;
      there = k.there;
      since = k.since ++ es;
      grows = grows_on (value_of k.first) (value_of h.node) (value_of new) k.since es k.grows w.grows;
      marks = w.marks ∙ k.marks;
      phased = in_phase_on b.tries h.manager first k.since es k.phased (subst (λ (d : List Entry). AllInPhase b.tries h.manager d es) entries phased);
      ends = are;
      ends_apart = apart;
      end_names = k.end_names ∙ ap Some (sym ends_named);
      scripts = λ i s at. subst (λ (d : List Entry). IsScriptIn b h.manager d s) (ap (λ (d : List Entry). d ++ es) entries ∙ append_assoc first k.since es) (tried i s at);
      scripts_apart = single;
      script_names = k.script_names ∙ ap Some (sym scripts_named);
      ready = ready;
      free = free;
    }
