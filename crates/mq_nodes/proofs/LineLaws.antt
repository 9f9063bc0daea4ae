-- A script's next line: how each answer of the call that does it goes on, and a get that waits.
use Rattle.std.specs.Prelude.{filter, not, if◌then◌else◌, ◌≡◌, ◌==◌, ℕ, suc, Bool, true, false, List, [], ◌∷◌, Option, Some, None, Result, Ok, Err, take, drop, refl}
use Rattle.std.proofs.Common.{ap, subst, sym, arith, inl, inr, ◌∙◌}
use Rattle.std.proofs.lemmas.Bool.Decides.{nat_tests}
use Rattle.mq_history.specs.declared.calls.Actor.TheVariants as actors
use Rattle.mq_history.specs.declared.calls.Call.{Call}
use Rattle.mq_history.specs.declared.calls.Entry.{Entry}
use Rattle.mq_history.specs.declared.scenario.ScriptPart.{ScriptPart}
use Rattle.mq_history.specs.declared.scripts.ScriptLine.{ScriptLine}
use Rattle.mq_history.specs.declared.scripts.ScriptLine.TheVariants as lines
use Rattle.mq_spec_network.specs.from_spec_node.Node.{Node}
use Rattle.mq_spec_network.specs.from_spec_node.Scripts.{Memory, deadline, line_call, until_of, wait_of}
use Rattle.mq_spec_network.specs.from_spec_node.Doers.{is_script, is_trigger, mains}
use Rattle.mq_spec_network.specs.from_spec_node.Lines.{Next, next_if, next_of, next_until, waits_at, call_after, deadline_kept, lines_by, memory_by}
use Rattle.mq_spec_network.specs.from_spec_node.Lines.Next.{Ends, Waits, Makes}
use Rattle.mq_spec_network.specs.Turns.{Network, node_at}
use Rattle.mq_spec_network.specs.ScriptLines.{IsUntil, call_next, lines_left}
use Rattle.mq_spec_network.specs.Tasks.{Task, moment_of}
use Rattle.mq_spec_network.specs.Tasks.Task.{Lines}
use Rattle.mq_spec_network.specs.Steps.{AreTriggers, Goes, Is, IsNext}
use Rattle.mq_spec_network.specs.Steps.Goes.{stays as stays_there}
use Rattle.mq_spec_network.proofs.NextLines.{left_more}
use Rattle.mq_nodes.specs.declared.nodes.Stop.{Stop}
use Rattle.mq_nodes.specs.declared.nodes.Stop.TheVariants as stops
use Rattle.mq_nodes.specs.declared.nodes.Advanced.{Advanced}
use Rattle.mq_nodes.specs.declared.nodes.Advanced.TheVariants as advances
use Rattle.mq_nodes.specs.Course.{Course, Did, Ready, Rests, waiting}
use Rattle.mq_nodes.specs.Told.{Part, Onward, OneLine, LineTold, LineAt, LineOf, IsLine, IsTried, KeptSo, Alone, upto}
use Rattle.mq_nodes.proofs.Onward.{begin, moved, broke}
use Rattle.mq_nodes.proofs.ClockLaws.{by_none, same_lines}

-- The call of a line tells its deadline, if it is a get.
pub record SaysUntil (moment : ℕ) (label : List ℕ) (m : Memory) (until : Option ℕ) (l : ScriptLine) : Type 0 where
  pub until_is : IsUntil None moment (wait_of l) (until_of (line_call label m until l))
  pub call_is : line_call label m until l ≡ line_call label m (until_of (line_call label m until l)) l

pub says_until : (moment : ℕ) (label : List ℕ) (m : Memory) (until : Option ℕ) (l : ScriptLine) → until ≡ deadline moment (wait_of l) → SaysUntil moment label m until l
says_until moment label m until (lines.Mqconn name) h = record { until_is = refl; call_is = refl }
says_until moment label m until lines.Mqdisc h = record { until_is = refl; call_is = refl }
says_until moment label m until lines.Mqcmit h = record { until_is = refl; call_is = refl }
says_until moment label m until lines.Mqback h = record { until_is = refl; call_is = refl }
says_until moment label m until (lines.Mqopen handle name qmgr how) h = record { until_is = refl; call_is = refl }
says_until moment label m until (lines.Mqclose handle) h = record { until_is = refl; call_is = refl }
says_until moment label m until (lines.Mqput handle body o) h = record { until_is = refl; call_is = refl }
says_until moment label m until (lines.Mqput1 name qmgr body o) h = record { until_is = refl; call_is = refl }
says_until moment label m until (lines.Reply body o) h = record { until_is = refl; call_is = refl }
says_until moment label m until (lines.Mqget handle o) h = record { until_is = h; call_is = refl }
says_until moment label m until (lines.Mqsc command) h = record { until_is = refl; call_is = refl }
says_until moment label m until lines.Crash h = record { until_is = refl; call_is = refl }
says_until moment label m until lines.Restart h = record { until_is = refl; call_is = refl }
says_until moment label m until (lines.Cut k) h = record { until_is = refl; call_is = refl }

-- What comes next is this line's call, or it waits.
made : (k : ℕ) (p : ScriptPart) (b : Bool) (until : Option ℕ) (call : Call) (m : ℕ) (e : Entry) → IsLine k p (next_if b until call) m e → Is p.manager (actors.Script k) call m e
made k p true None call m e h = h
made k p true (Some until) call m e h = absurd h
made k p false until call m e h = h

pub waits_so : (b : Bool) (until : Option ℕ) (call : Call) (u : ℕ) → next_if b until call ≡ Waits u → (b ≡ true) × (until ≡ Some u)
waits_so true None call u h = absurd cc
waits_so true (Some v) call u h = (refl, cc)
waits_so false until call u h = absurd cc

never_ends : (b : Bool) (until : Option ℕ) (call : Call) → next_if b until call ≡ Ends → ⊥
never_ends true None call h = absurd cc
never_ends true (Some v) call h = absurd cc
never_ends false until call h = absurd cc

-- The moment of a get's first try: that of a try before, whose deadline is kept, or this one.
pub record FirstTry (tried : Option ℕ) (moment : ℕ) (wait kept : Option ℕ) : Type 0 where
  pub first : ℕ
  pub kept_is : deadline_kept kept moment wait ≡ deadline first wait
  pub is : IsUntil tried moment wait (deadline first wait)

kept_same : (first moment : ℕ) (wait : Option ℕ) → deadline_kept (deadline first wait) moment wait ≡ deadline first wait
kept_same first moment None = refl
kept_same first moment (Some wait) = refl

pub first_try : (tried : Option ℕ) (moment : ℕ) (l : ScriptLine) (ls : List ScriptLine) (kept : Option ℕ) → KeptSo tried (l ∷ ls) kept → FirstTry tried moment (wait_of l) kept
first_try None moment l ls kept h = record { first = moment; kept_is = ap (λ (x : Option ℕ). deadline_kept x moment (wait_of l)) h; is = refl }
first_try (Some first) moment l ls kept h = record {
  first = first;
  kept_is = ap (λ (x : Option ℕ). deadline_kept x moment (wait_of l)) h ∙ kept_same first moment (wait_of l);
  is = refl;
}

-- The next line of a script at its node, which may keep the deadline of a get.
next_line : (k : ℕ) (p : ScriptPart) (tried : Option ℕ) (w : Network) (n : Node) (l : ScriptLine) (kept : Option ℕ) (m : ℕ) (e : Entry) → node_at w p.manager ≡ Some n → FirstTry tried n.manager.moment (wait_of l) kept
    → IsLine k p (next_until k p (w.done p.manager) (deadline_kept kept n.manager.moment (wait_of l)) l n) m e → IsNext w k p tried l m e
next_line k p tried w n l kept m e there f h =
    let is = made k p (waits_at k (call_after k p (w.done p.manager) until l) n) until (call_after k p (w.done p.manager) until l) m e h in
    let t = says_until f.first p.label (memory_by k p (w.done p.manager)) until l f.kept_is in
    record {
      until = subst (λ (x : Option Node). IsUntil tried (moment_of x) (wait_of l) (until_of e.call)) (sym there)
          (subst (λ (x : Call). IsUntil tried n.manager.moment (wait_of l) (until_of x)) (sym is.2)
          (subst (λ (x : Option ℕ). IsUntil tried n.manager.moment (wait_of l) x) (sym t.until_is) f.is));
      is = (is.0, is.1, is.2 ∙ t.call_is ∙ ap (λ (x : Call). call_next w k p (until_of x) l) (sym is.2));
    }
  where
    until : Option ℕ
    until = deadline_kept kept n.manager.moment (wait_of l)

abbrev pub fits_too : {P Q : ℕ → Entry → Type 0} (c d : Course) → ((m : ℕ) (e : Entry) → P m e → Q m e) → Did P c d → Did Q c d
fits_too c d f x = record { at = x.at; entry = x.entry; behind = x.behind; fits = f x.at x.entry x.fits; triggers = x.triggers; is = x.is }

pub itself : (k : ℕ) → (k == k) ≡ true
itself k = grind (arith, nat_tests)

pub bool_case : (P : Bool → Type 0) → P true → P false → (b : Bool) → P b
bool_case P if_so if_not b = elim b as P [ true ↦ if_so | false ↦ if_not ]

-- no get of this script waits any more
rests_now : (k : ℕ) (c : Course) → Rests c → Rests (waiting k None c)
rests_now k c h j = bool_case (λ (b : Bool). (if b then None else c.waits j) ≡ None) refl (h j) (j == k)

let_go : (k : ℕ) (all ts : List Task) (c : Course) → Onward all ts c c → Onward all ts c (waiting k None c)
let_go k all ts c h = record { goes = h.goes; ready = h.ready; marks = h.marks; rests = λ q. rests_now k c q }

abbrev pub lines_of : ℕ → ScriptPart → Option ℕ → ℕ → List ScriptLine → List Task
lines_of k p tried n ls = Lines k p tried (take n ls) ∷ []

-- the lines that are left after one
fewer : (k : ℕ) (p : ScriptPart) (tried : Option ℕ) (c d : Course) (l : ScriptLine) (ls : List ScriptLine) (x : Did (IsNext c.net k p tried l) (waiting k None c) d) → lines_left c.net k p ≡ l ∷ ls → lines_left d.net k p ≡ ls
fewer k p tried c d l ls x e =
    ap (λ (y : Course). lines_left y.net k p) x.is ∙ left_more c.net k p tried l x.at x.entry x.behind x.fits x.triggers ∙ ap (λ (xs : List ScriptLine). drop 1 xs) e

-- One is done: the others' lines and deadlines stay.
flipped : (j k : ℕ) → (j == k) ≡ false → (k == j) ≡ false
flipped j k h = grind (arith, nat_tests)

other_script : (j k : ℕ) (e : Entry) (es : List Entry) (b : Bool) → is_trigger e.call ≡ b → e.actor ≡ actors.Script k → (j == k) ≡ false → AreTriggers es → lines_by j (e ∷ es) ≡ []
other_script j k e es true is who other due = ap (λ (x : Bool). filter (λ (y : Entry). is_script j y.actor) (if not x then e ∷ mains es else mains es)) is ∙ by_none j es due
other_script j k e es false is who other due =
    ap (λ (x : Bool). filter (λ (y : Entry). is_script j y.actor) (if not x then e ∷ mains es else mains es)) is
    ∙ ap (λ (x : Bool). if x then e ∷ lines_by j es else lines_by j es) (ap (is_script j) who ∙ flipped j k other)
    ∙ by_none j es due

by_script : (k : ℕ) (p : ScriptPart) (next : Next) (m : ℕ) (e : Entry) → IsLine k p next m e → e.actor ≡ actors.Script k
by_script k p Ends m e h = absurd h
by_script k p (Waits until) m e h = absurd h
by_script k p (Makes call) m e h = h.1

pub did_alone : (k : ℕ) (P : ℕ → Entry → Type 0) (c d : Course) → ((m : ℕ) (e : Entry) → P m e → e.actor ≡ actors.Script k) → Did P (waiting k None c) d → Alone k c d
did_alone k P c d who x = record {
  waits = λ j other. ap (λ (y : Course). y.waits j) x.is ∙ ap (λ (b : Bool). if b then None else c.waits j) other;
  lines = λ j m other.
      ap (λ (y : Course). lines_by j (y.net.done m)) x.is
      ∙ same_lines j m x.at (x.entry ∷ x.behind) c.net (other_script j k x.entry x.behind (is_trigger x.entry.call) refl (who x.at x.entry x.fits) other x.triggers);
  rests = ap (λ (y : Course). y.waits k) x.is ∙ ap (λ (b : Bool). if b then None else c.waits k) (itself k);
}

done_from : (k : ℕ) (p : ScriptPart) (tried : Option ℕ) (c d : Course) (n : Node) (ls : List ScriptLine) → node_at c.net p.manager ≡ Some n → Ready c.net → lines_left c.net k p ≡ ls → KeptSo tried ls (c.waits k)
    → Did (IsLine k p (next_of k p (c.net.done p.manager) (c.waits k) ls n)) (waiting k None c) d → Ready d.net → (most : ℕ) → Onward (upto k p tried (suc most) c) (upto k p None most d) c d
done_from k p tried c d n [] there ready e q x r most = absurd x.fits
done_from k p tried c d n (l ∷ ls) there ready e q x r most =
    let f : FirstTry tried n.manager.moment (wait_of l) (c.waits k) = first_try tried n.manager.moment l ls (c.waits k) q in
    let y : Did (IsNext c.net k p tried l) (waiting k None c) d = fits_too (waiting k None c) d (λ m e2 h. next_line k p tried c.net n l (c.waits k) m e2 there f h) x in
    subst (λ (xs : List ScriptLine). Onward (upto k p tried (suc most) c) (lines_of k p None most xs) c d) (sym (fewer k p tried c d l ls y e))
    (moved (upto k p tried (suc most) c) (Lines k p tried (l ∷ take most ls)) [] c (waiting k None c) d
    (let_go k (upto k p tried (suc most) c) (Lines k p tried (l ∷ take most ls) ∷ []) c
    (subst (λ (xs : List ScriptLine). Onward (upto k p tried (suc most) c) (lines_of k p tried (suc most) xs) c c) e (begin (upto k p tried (suc most) c) c ready))) y r)

-- None is done, or one, for want of memory; or one was its node's last.
stays : (k : ℕ) (p : ScriptPart) (tried : Option ℕ) (c d : Course) (most : ℕ) → d ≡ c → Part {T = Bool} (upto k p tried (suc most) c) (Err stops.NoMemory) c d
stays k p tried c d most same = record {
  left = upto k p tried (suc most) c;
  goes = subst (λ (y : Course). Goes c.net (upto k p tried (suc most) c) y.net (upto k p tried (suc most) c)) (sym same) stays_there;
  marks = ap (λ (y : Course). y.marks) same;
  ends = tt;
}

breaks_from : (k : ℕ) (p : ScriptPart) (tried : Option ℕ) (c d : Course) (n : Node) (ls : List ScriptLine) (stop : Stop) → node_at c.net p.manager ≡ Some n → Ready c.net → lines_left c.net k p ≡ ls → KeptSo tried ls (c.waits k)
    → LineOf k p (next_of k p (c.net.done p.manager) (c.waits k) ls n) (Err stop) c d → (most : ℕ) → Part {T = Bool} (upto k p tried (suc most) c) (Err stop) c d
breaks_from k p tried c d n ls stops.NoMemory there ready e q (inl same) most = stays k p tried c d most same
breaks_from k p tried c d n [] stops.NoMemory there ready e q (inr x) most = absurd x.fits
breaks_from k p tried c d n [] (stops.Spent m) there ready e q (x, spent) most = absurd x.fits
breaks_from k p tried c d n (l ∷ ls) stops.NoMemory there ready e q (inr x) most =
    let f : FirstTry tried n.manager.moment (wait_of l) (c.waits k) = first_try tried n.manager.moment l ls (c.waits k) q in
    broke (upto k p tried (suc most) c) (Lines k p tried (l ∷ take most ls)) [] c (waiting k None c) d stops.NoMemory
    (let_go k (upto k p tried (suc most) c) (Lines k p tried (l ∷ take most ls) ∷ []) c
    (subst (λ (xs : List ScriptLine). Onward (upto k p tried (suc most) c) (lines_of k p tried (suc most) xs) c c) e (begin (upto k p tried (suc most) c) c ready)))
    (inr (fits_too (waiting k None c) d (λ m e2 h. next_line k p tried c.net n l (c.waits k) m e2 there f h) x))
breaks_from k p tried c d n (l ∷ ls) (stops.Spent m) there ready e q (x, spent) most =
    let f : FirstTry tried n.manager.moment (wait_of l) (c.waits k) = first_try tried n.manager.moment l ls (c.waits k) q in
    broke (upto k p tried (suc most) c) (Lines k p tried (l ∷ take most ls)) [] c (waiting k None c) d (stops.Spent m)
    (let_go k (upto k p tried (suc most) c) (Lines k p tried (l ∷ take most ls) ∷ []) c
    (subst (λ (xs : List ScriptLine). Onward (upto k p tried (suc most) c) (lines_of k p tried (suc most) xs) c c) e (begin (upto k p tried (suc most) c) c ready)))
    (fits_too (waiting k None c) d (λ m e2 h. next_line k p tried c.net n l (c.waits k) m e2 there f h) x, spent)

ends_from : (k : ℕ) (p : ScriptPart) (es : List Entry) (kept : Option ℕ) (n : Node) (ls : List ScriptLine) → next_of k p es kept ls n ≡ Ends → ls ≡ []
ends_from k p es kept n [] h = refl
ends_from k p es kept n (l ∷ ls) h = absurd (never_ends _ _ _ h)

-- where no line is left, nothing is kept
none_kept : (tried : Option ℕ) (ls : List ScriptLine) (kept : Option ℕ) → ls ≡ [] → KeptSo tried ls kept → kept ≡ None
none_kept tried ls kept e h = empty tried (subst (λ (xs : List ScriptLine). KeptSo tried xs kept) e h)
  where
    empty : (t : Option ℕ) → KeptSo t [] kept → kept ≡ None
    empty None x = x
    empty (Some first) x = x

-- As the goals have them: the call answered that a line is done, that none is left, or that it broke off.
pub by_node : (k : ℕ) (p : ScriptPart) (c d : Course) (r : Result Advanced Stop) → LineTold k p r c d
    → (n : Node) × (node_at c.net p.manager ≡ Some n) × LineOf k p (next_of k p (c.net.done p.manager) (c.waits k) (lines_left c.net k p) n) r c d
by_node k p c d r t = at_node (node_at c.net p.manager) refl t
  where
    at_node : (x : Option Node) → node_at c.net p.manager ≡ x → LineAt k p x r c d → (n : Node) × (node_at c.net p.manager ≡ Some n) × LineOf k p (next_of k p (c.net.done p.manager) (c.waits k) (lines_left c.net k p) n) r c d
    at_node None e h = absurd h
    at_node (Some n) e h = (n, e, h)

pub line_done : (k : ℕ) (p : ScriptPart) (tried : Option ℕ) (c d : Course) → Ready c.net → IsTried k p tried c → LineTold k p (Ok advances.Done) c d → OneLine k p tried (Ok true) c d
line_done k p tried c d ready q t =
    let (n, there, h) = by_node k p c d (Ok advances.Done) t in
    let next : Next = next_of k p (c.net.done p.manager) (c.waits k) (lines_left c.net k p) n in
    (λ most. done_from k p tried c d n (lines_left c.net k p) there ready refl q h.0 h.1 most, did_alone k (IsLine k p next) c d (by_script k p next) h.0)

pub line_ends : (k : ℕ) (p : ScriptPart) (tried : Option ℕ) (c d : Course) → IsTried k p tried c → LineTold k p (Ok advances.Ended) c d → OneLine k p tried (Ok false) c d
line_ends k p tried c d q t =
    let (n, there, h) = by_node k p c d (Ok advances.Ended) t in
    let none : lines_left c.net k p ≡ [] = ends_from k p (c.net.done p.manager) (c.waits k) n (lines_left c.net k p) h.0 in
    (h.1, none, none_kept tried (lines_left c.net k p) (c.waits k) none q)

pub line_breaks : (k : ℕ) (p : ScriptPart) (tried : Option ℕ) (c d : Course) (stop : Stop) → Ready c.net → IsTried k p tried c → LineTold k p (Err stop) c d → OneLine k p tried (Err stop) c d
line_breaks k p tried c d stop ready q t =
    let (n, there, h) = by_node k p c d (Err stop) t in
    λ most. breaks_from k p tried c d n (lines_left c.net k p) stop there ready refl q h most
