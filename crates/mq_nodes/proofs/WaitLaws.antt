-- A get that waits: the clocks of all managers advance to its deadline, and then it comes.
use Rattle.std.specs.Prelude.{if◌then◌else◌, ◌≡◌, ◌<◌, ◌≤◌, ◌+◌, ◌-◌, ◌==◌, ℕ, suc, min, nat_lt, Bool, true, false, List, [], ◌∷◌, ◌++◌, Option, Some, None, Result, Ok, Err, length, take, drop, refl}
use Rattle.std.proofs.Common.{ap, subst, sym, arith, append-nil, inl, inr, ◌∙◌}
use Rattle.std.proofs.Math.Nat.{min-eq_left, min-le_right}
use Rattle.std.proofs.lemmas.Bool.Decides.{nat_tests}
use Rattle.mq_history.specs.declared.calls.Actor.TheVariants as actors
use Rattle.mq_history.specs.declared.calls.Call.{Call}
use Rattle.mq_history.specs.declared.calls.Entry.{Entry}
use Rattle.mq_history.specs.declared.scenario.ScriptPart.{ScriptPart}
use Rattle.mq_history.specs.declared.scripts.ScriptLine.{ScriptLine}
use Rattle.mq_history.specs.declared.scripts.ScriptLine.TheVariants as lines
use Rattle.mq_spec_network.specs.from_spec_manager.Stops.{last_moment}
use Rattle.mq_spec_network.specs.from_spec_node.Node.{Node}
use Rattle.mq_spec_network.specs.from_spec_node.Scripts.{Memory, deadline, fresh, line_call, until_of, wait_of}
use Rattle.mq_spec_network.specs.from_spec_node.Lines.{Next, next_by, next_if, next_of, waits_at, call_after, deadline_kept, lines_by, memory_after, memory_by, is_none}
use Rattle.mq_spec_network.specs.from_spec_node.Lines.Next.{Ends, Waits, Makes}
use Rattle.mq_frame.specs.declared.frame.Seen.TheVariants as items
use Rattle.mq_spec_network.specs.Turns.{Network, node_at, deed_at}
use Rattle.mq_spec_network.specs.ScriptLines.{IsUntil, call_next, lines_left}
use Rattle.mq_spec_network.specs.Tasks.{Task, clocks, moment_of}
use Rattle.mq_spec_network.specs.Tasks.Task.{Ask, Lines}
use Rattle.mq_spec_network.specs.Steps as steps
use Rattle.mq_spec_network.specs.Steps.{Goes, Is, IsNext}
use Rattle.mq_spec_network.specs.Steps.Goes.{stays as stays_there, passes}
use Rattle.mq_spec_network.proofs.Going.{on, one_more, before_others}
use Rattle.mq_spec_network.proofs.NextLines.{left_more}
use Rattle.mq_nodes.specs.declared.nodes.Stop.{Stop}
use Rattle.mq_nodes.specs.declared.nodes.Stop.TheVariants as stops
use Rattle.mq_nodes.specs.declared.nodes.Advanced.{Advanced}
use Rattle.mq_nodes.specs.declared.nodes.Advanced.TheVariants as advances
use Rattle.mq_nodes.specs.Course.{Course, Did, Ready, Rests, waiting, waits_then}
use Rattle.mq_nodes.specs.Told.{Part, Ended, Onward, OneLine, LineTold, LineAt, LineOf, IsTried, KeptSo, Alone, Clocked, later, upto}
use Rattle.mq_nodes.proofs.GetLaws.{get_comes}
use Rattle.mq_nodes.proofs.LineLaws.{FirstTry, first_try, says_until, waits_so, by_node, did_alone, itself, bool_case, lines_of}

-- The get of a script that waits until a moment, at its node.
pub record IsWaiting (k : ℕ) (p : ScriptPart) (tried : Option ℕ) (u : ℕ) (w : Network) (n : Node) (l : ScriptLine) (ls : List ScriptLine) : Type 0 where
  pub there : node_at w p.manager ≡ Some n
  pub left : lines_left w k p ≡ l ∷ ls
  pub first : ℕ
  pub until : deadline first (wait_of l) ≡ Some u
  pub tried_then : IsUntil tried n.manager.moment (wait_of l) (Some u)
  pub waits : waits_at k (call_after k p (w.done p.manager) (Some u) l) n ≡ true

some_waits : (k : ℕ) (p : ScriptPart) (tried : Option ℕ) (u : ℕ) (w : Network) (n : Node) (kept : Option ℕ) (ls : List ScriptLine) → node_at w p.manager ≡ Some n → lines_left w k p ≡ ls → KeptSo tried ls kept → next_of k p (w.done p.manager) kept ls n ≡ Waits u
    → (l : ScriptLine) × (more : List ScriptLine) × IsWaiting k p tried u w n l more
some_waits k p tried u w n kept [] there e q h = absurd cc
some_waits k p tried u w n kept (l ∷ ls) there e q h =
    let f : FirstTry tried n.manager.moment (wait_of l) kept = first_try tried n.manager.moment l ls kept q in
    let until : Option ℕ = deadline_kept kept n.manager.moment (wait_of l) in
    let (waits, is) = waits_so (waits_at k (call_after k p (w.done p.manager) until l) n) until (call_after k p (w.done p.manager) until l) u h in
    let from_first : deadline f.first (wait_of l) ≡ Some u = sym f.kept_is ∙ is in (
      l,
      ls,
      record {
        there = there;
        left = e;
        first = f.first;
        until = from_first;
        tried_then = subst (λ (x : Option ℕ). IsUntil tried n.manager.moment (wait_of l) x) from_first f.is;
        waits = subst (λ (x : Option ℕ). waits_at k (call_after k p (w.done p.manager) x l) n ≡ true) is waits;
      },
    )

-- Only a get has a deadline, and it waits no more where this has come.
comes : (k : ℕ) (label : List ℕ) (m : Memory) (u moment : ℕ) (n : Node) (l : ScriptLine) → deadline moment (wait_of l) ≡ Some u → nat_lt n.manager.moment u ≡ false → waits_at k (line_call label m (Some u) l) n ≡ false
comes k label m u moment n (lines.Mqconn name) h e = absurd cc
comes k label m u moment n lines.Mqdisc h e = absurd cc
comes k label m u moment n lines.Mqcmit h e = absurd cc
comes k label m u moment n lines.Mqback h e = absurd cc
comes k label m u moment n (lines.Mqopen handle name qmgr how) h e = absurd cc
comes k label m u moment n (lines.Mqclose handle) h e = absurd cc
comes k label m u moment n (lines.Mqput handle body o) h e = absurd cc
comes k label m u moment n (lines.Mqput1 name qmgr body o) h e = absurd cc
comes k label m u moment n (lines.Reply body o) h e = absurd cc
comes k label m u moment n (lines.Mqget handle o) h e = get_comes n.own _ _ _ u n.manager e
comes k label m u moment n (lines.Mqsc command) h e = absurd cc
comes k label m u moment n lines.Crash h e = absurd cc
comes k label m u moment n lines.Restart h e = absurd cc
comes k label m u moment n (lines.Cut c) h e = absurd cc

not_both : {A : Type 0} (b : Bool) → b ≡ true → b ≡ false → A
not_both b x y = absurd cc

is_below : (a b : ℕ) → nat_lt a b ≡ true → a < b
is_below a b h = grind (arith, nat_tests)

not_below : (a b : ℕ) → b ≤ a → nat_lt a b ≡ false
not_below a b h = grind (arith, nat_tests)

later_than : (k : ℕ) (label : List ℕ) (m : Memory) (u first : ℕ) (n : Node) (l : ScriptLine) → deadline first (wait_of l) ≡ Some u → waits_at k (line_call label m (Some u) l) n ≡ true → n.manager.moment < u
later_than k label m u first n l h waits = below (nat_lt n.manager.moment u) refl
  where
    below : (b : Bool) → nat_lt n.manager.moment u ≡ b → n.manager.moment < u
    below true e = is_below n.manager.moment u e
    below false e = not_both (waits_at k (line_call label m (Some u) l) n) waits (comes k label m u first n l h e)

deadline_low : (moment : ℕ) (wait : Option ℕ) (u : ℕ) → deadline moment wait ≡ Some u → u ≤ last_moment
deadline_low moment None u h = absurd cc
deadline_low moment (Some wait) u h = subst (λ (x : ℕ). x ≤ last_moment) (inside h) (min-le_right (moment + wait) last_moment)
  where
    inside : Some (min (moment + wait) last_moment) ≡ Some u → min (moment + wait) last_moment ≡ u
    inside e = cc

reached : (moment u last : ℕ) → moment < u → u ≤ last → min (moment + (u - moment)) last ≡ u
reached moment u last a b = ap (λ (x : ℕ). min x last) (whole moment u a) ∙ min-eq_left b
  where
    whole : (m n : ℕ) → m < n → m + (n - m) ≡ n
    whole m n lt = omega arith

-- what the clocks leave as it was
same_left : (k : ℕ) (p : ScriptPart) (w v : Network) → lines_by k (v.done p.manager) ≡ lines_by k (w.done p.manager) → lines_left v k p ≡ lines_left w k p
same_left k p w v e = ap (λ (xs : List Entry). drop (length xs) p.lines) e

same_call : (k : ℕ) (p : ScriptPart) (w v : Network) (until : Option ℕ) (l : ScriptLine) → lines_by k (v.done p.manager) ≡ lines_by k (w.done p.manager) → call_next v k p until l ≡ call_next w k p until l
same_call k p w v until l e = ap (λ (xs : List Entry). line_call p.label (memory_after fresh p.lines xs) until l) e

kept_then : (k u : ℕ) (waits : ℕ → Option ℕ) → waits_then k (Some u) waits k ≡ Some u
kept_then k u waits = ap (λ (b : Bool). if b then Some u else waits k) (itself k)

others_rest : (k : ℕ) (until : Option ℕ) (c d : Course) → Rests c → d.waits ≡ waits_then k until c.waits → Rests (waiting k None d)
others_rest k until c d q e j =
    ap (λ (f : ℕ → Option ℕ). if j == k then None else f j) e
    ∙ bool_case (λ (b : Bool). (if b then None else (if b then until else c.waits j)) ≡ None) refl (q j) (j == k)

-- What the script's get waits for, from the course before it was tried.
pub record Waited (k : ℕ) (p : ScriptPart) (tried : Option ℕ) (u : ℕ) (c d : Course) : Type 0 where
  pub node : Node
  pub line : ScriptLine
  pub more : List ScriptLine
  pub is : IsWaiting k p tried u c.net node line more
  pub same : d ≡ waiting k (Some u) c

waited : (k : ℕ) (p : ScriptPart) (tried : Option ℕ) (u : ℕ) (c d : Course) → IsTried k p tried c → LineTold k p (Ok (advances.Waiting u)) c d → Waited k p tried u c d
waited k p tried u c d q t =
    let (n, there, h) = by_node k p c d (Ok (advances.Waiting u)) t in
    let (l, ls, w) = some_waits k p tried u c.net n (c.waits k) (lines_left c.net k p) there refl q h.0 in
    record { node = n; line = l; more = ls; is = w; same = h.1 }

moment_is : (k : ℕ) (p : ScriptPart) (tried : Option ℕ) (u : ℕ) (c d : Course) (w : Waited k p tried u c d) → moment_of (node_at d.net p.manager) ≡ w.node.manager.moment
moment_is k p tried u c d w = ap (λ (y : Course). moment_of (node_at y.net p.manager)) w.same ∙ ap moment_of w.is.there

is_later : (k : ℕ) (p : ScriptPart) (tried : Option ℕ) (u : ℕ) (c d : Course) (w : Waited k p tried u c d) → w.node.manager.moment < u
is_later k p tried u c d w = later_than k p.label (memory_by k p (c.net.done p.manager)) u w.is.first w.node w.line w.is.until w.is.waits

-- the deadline is not behind
pub not_late : (k : ℕ) (p : ScriptPart) (tried : Option ℕ) (u moment : ℕ) (c d : Course) → IsTried k p tried c → LineTold k p (Ok (advances.Waiting u)) c d → moment ≡ moment_of (node_at d.net p.manager) → moment ≤ u
not_late k p tried u moment c d q t e =
    let w = waited k p tried u c d q t in
    subst (λ (x : ℕ). x ≤ u) (sym (e ∙ moment_is k p tried u c d w)) (weaker w.node.manager.moment u (is_later k p tried u c d w))
  where
    weaker : (a b : ℕ) → a < b → a ≤ b
    weaker a b lt = omega arith

-- the tasks that stand in the get's place, behind the clocks
abbrev get_then : (k : ℕ) (p : ScriptPart) (u : ℕ) (w : Network) (l : ScriptLine) (ls : List ScriptLine) (most : ℕ) → List Task
get_then k p u w l ls most = Ask p.manager (actors.Script k) (call_next w k p (Some u) l) ∷ Lines k p None (take most ls) ∷ []

gives_way : (k : ℕ) (p : ScriptPart) (tried : Option ℕ) (u ms : ℕ) (c d : Course) (w : Waited k p tried u c d) → Ready c.net → ms ≡ u - moment_of (node_at d.net p.manager) → (most : ℕ)
    → Goes c.net (upto k p tried (suc most) c) c.net (clocks c.net.scenario ms ++ get_then k p u c.net w.line w.more most)
gives_way k p tried u ms c d w ready e most =
    subst (λ (x : List Task). Goes c.net (upto k p tried (suc most) c) c.net x) (append-nil (clocks c.net.scenario ms ++ get_then k p u c.net w.line w.more most))
    (passes c.net (Lines k p tried (w.line ∷ take most w.more)) (clocks c.net.scenario ms ++ get_then k p u c.net w.line w.more most) []
    (subst (λ (ls : List ScriptLine). Goes c.net (upto k p tried (suc most) c) c.net (lines_of k p tried (suc most) ls)) w.is.left stays_there) ready.served so)
  where
    by_so : (a u ms : ℕ) → a < u → ms ≡ u - a → u ≡ a + ms
    by_so a u ms lt is = omega arith

    here : moment_of (node_at c.net p.manager) ≡ w.node.manager.moment
    here = ap moment_of w.is.there

    so : steps.Waits c.net k p tried w.line (take most w.more) (clocks c.net.scenario ms ++ get_then k p u c.net w.line w.more most)
    so = record {
      until = u;
      by = ms;
      tried_then = subst (λ (x : ℕ). IsUntil tried x (wait_of w.line) (Some u)) (sym here) w.is.tried_then;
      waits = subst (λ (x : Option Node). is_none (deed_at (actors.Script k) (call_next c.net k p (Some u) w.line) items.Nothing x) ≡ true) (sym w.is.there) w.is.waits;
      left = subst (λ (x : ℕ). u ≡ x + ms) (sym here) (by_so w.node.manager.moment u ms (is_later k p tried u c d w) (e ∙ ap (λ (x : ℕ). u - x) (moment_is k p tried u c d w)));
      behind = refl;
    }

-- the network in which it was tried
net_is : (k : ℕ) (p : ScriptPart) (tried : Option ℕ) (u : ℕ) (c d : Course) (w : Waited k p tried u c d) → d.net ≡ c.net
net_is k p tried u c d w = ap (λ (y : Course). y.net) w.same

marks_are : (k : ℕ) (p : ScriptPart) (tried : Option ℕ) (u : ℕ) (c d : Course) (w : Waited k p tried u c d) → d.marks ≡ c.marks
marks_are k p tried u c d w = ap (λ (y : Course). y.marks) w.same

clocks_then : (k : ℕ) (p : ScriptPart) (tried : Option ℕ) (u ms : ℕ) (c d : Course) (v : Network) (left : List Task) (w : Waited k p tried u c d) → Ready c.net → ms ≡ u - moment_of (node_at d.net p.manager)
    → Goes d.net (clocks d.net.scenario ms) v left → (most : ℕ) → Goes c.net (upto k p tried (suc most) c) v (left ++ get_then k p u c.net w.line w.more most)
clocks_then k p tried u ms c d v left w ready e g most =
    on (gives_way k p tried u ms c d w ready e most) (before_others (get_then k p u c.net w.line w.more most) (subst (λ (x : Network). Goes x (clocks x.scenario ms) v left) (net_is k p tried u c d w) g))

-- A clock breaks off.
pub clocks_break : (k : ℕ) (p : ScriptPart) (tried : Option ℕ) (u ms moment : ℕ) (c d e : Course) (stop : Stop) → Ready c.net → IsTried k p tried c → LineTold k p (Ok (advances.Waiting u)) c d
    → moment ≡ moment_of (node_at d.net p.manager) → ms ≡ u - moment → Part {T = Unit {0}} (clocks d.net.scenario ms) (Err stop) d e → OneLine k p tried (Err stop) c e
clocks_break k p tried u ms moment c d e stop ready q t at by part =
    let w = waited k p tried u c d q t in
    λ most. record {
      left = part.left ++ get_then k p u c.net w.line w.more most;
      goes = clocks_then k p tried u ms c d e.net part.left w ready (by ∙ ap (λ (x : ℕ). u - x) at) part.goes most;
      marks = part.marks ∙ marks_are k p tried u c d w;
      ends = ends_so stop part.left (part.left ++ get_then k p u c.net w.line w.more most) d c e part.ends;
    }
  where
    ends_so : (s : Stop) (xs ys : List Task) (a b y : Course) → Ended {T = Unit {0}} (Err s) xs a y → Ended {T = Bool} (Err s) ys b y
    ends_so stops.NoMemory xs ys a b y x = tt
    ends_so (stops.Spent m) xs ys a b y x = x

-- All clocks are advanced, and the get comes.
now_made : (k : ℕ) (p : ScriptPart) (tried : Option ℕ) (u ms : ℕ) (c d e : Course) (n : Node) (w : Waited k p tried u c d) → node_at e.net p.manager ≡ Some n → ms ≡ u - moment_of (node_at d.net p.manager)
    → p.manager < length d.net.scenario.managers → Clocked (length d.net.scenario.managers) ms d e
    → next_by k p (e.net.done p.manager) (e.waits k) n ≡ Makes (call_next c.net k p (Some u) w.line)
now_made k p tried u ms c d e n w there by known clocked =
    ap (λ (kept : Option ℕ). next_by k p (e.net.done p.manager) kept n) kept
    ∙ ap (λ (ls : List ScriptLine). next_of k p (e.net.done p.manager) (Some u) ls n) left
    ∙ ap (λ (b : Bool). next_if b (Some u) (call_next e.net k p (Some u) w.line)) (comes k p.label (memory_by k p (e.net.done p.manager)) u w.is.first n w.line w.is.until (not_below n.manager.moment u (enough n.manager.moment u at_moment)))
    ∙ ap (λ (x : Call). Makes x) (same_call k p c.net e.net (Some u) w.line by_lines)
  where
    by_lines : lines_by k (e.net.done p.manager) ≡ lines_by k (c.net.done p.manager)
    by_lines = clocked.lines k p.manager ∙ ap (λ (x : Network). lines_by k (x.done p.manager)) (net_is k p tried u c d w)

    left : lines_left e.net k p ≡ w.line ∷ w.more
    left = same_left k p c.net e.net by_lines ∙ w.is.left

    kept : e.waits k ≡ Some u
    kept = ap (λ (f : ℕ → Option ℕ). f k) clocked.waits ∙ ap (λ (y : Course). y.waits k) w.same ∙ kept_then k u c.waits

    at_moment : n.manager.moment ≡ u
    at_moment =
        ap moment_of (sym there) ∙ clocked.moments p.manager known
        ∙ ap (λ (x : ℕ). later x ms) (moment_is k p tried u c d w)
        ∙ ap (λ (x : ℕ). later w.node.manager.moment x) (by ∙ ap (λ (x : ℕ). u - x) (moment_is k p tried u c d w))
        ∙ reached w.node.manager.moment u last_moment (is_later k p tried u c d w) (deadline_low w.is.first (wait_of w.line) u w.is.until)

    enough : (a b : ℕ) → a ≡ b → b ≤ a
    enough a b x = omega arith

-- the entry is that of its line
is_next : (k : ℕ) (p : ScriptPart) (tried : Option ℕ) (u : ℕ) (c d e : Course) (w : Waited k p tried u c d) → lines_by k (e.net.done p.manager) ≡ lines_by k (c.net.done p.manager) → (m : ℕ) (f : Entry)
    → Is p.manager (actors.Script k) (call_next c.net k p (Some u) w.line) m f → IsNext e.net k p (Some w.is.first) w.line m f
is_next k p tried u c d e w by_lines m f h =
    let t = says_until w.is.first p.label (memory_by k p (c.net.done p.manager)) (Some u) w.line (sym w.is.until) in
    record {
      until = subst (λ (x : Call). until_of x ≡ deadline w.is.first (wait_of w.line)) (sym h.2) t.until_is;
      is = (h.0, h.1, h.2 ∙ t.call_is ∙ ap (λ (x : Call). call_next c.net k p (until_of x) w.line) (sym h.2) ∙ sym (same_call k p c.net e.net (until_of f.call) w.line by_lines));
    }

get_goes : (k : ℕ) (p : ScriptPart) (tried : Option ℕ) (u : ℕ) (c d e f : Course) (w : Waited k p tried u c d) → (most : ℕ) → Goes c.net (upto k p tried (suc most) c) e.net (get_then k p u c.net w.line w.more most)
    → (x : Did (Is p.manager (actors.Script k) (call_next c.net k p (Some u) w.line)) (waiting k None e) f) → Goes c.net (upto k p tried (suc most) c) f.net (lines_of k p None most w.more)
get_goes k p tried u c d e f w most g x =
    subst (λ (v : Network). Goes c.net (upto k p tried (suc most) c) v (lines_of k p None most w.more)) (sym (ap (λ (y : Course). y.net) x.is))
    (one_more c.net e.net (upto k p tried (suc most) c) (Ask p.manager (actors.Script k) (call_next c.net k p (Some u) w.line)) (lines_of k p None most w.more) x.at x.entry x.behind g x.fits x.triggers)

-- Where the second try does it, breaks off, or says anything else, which it doesn't.
pub record Second (k : ℕ) (p : ScriptPart) (tried : Option ℕ) (u ms : ℕ) (c d e : Course) : Type 0 where
  pub waited : Waited k p tried u c d
  pub ready : Ready c.net
  pub by : ms ≡ u - moment_of (node_at d.net p.manager)
  pub known : p.manager < length d.net.scenario.managers
  pub part : Part {T = Unit {0}} (clocks d.net.scenario ms) (Ok tt) d e
  pub clocked : Clocked (length d.net.scenario.managers) ms d e

pub second : (k : ℕ) (p : ScriptPart) (tried : Option ℕ) (u ms moment : ℕ) (c d e : Course) (done : Unit {0}) → Ready c.net → IsTried k p tried c → LineTold k p (Ok (advances.Waiting u)) c d → moment ≡ moment_of (node_at d.net p.manager) → ms ≡ u - moment
    → p.manager < length c.net.scenario.managers → Part (clocks d.net.scenario ms) (Ok done) d e → Clocked (length d.net.scenario.managers) ms d e → Second k p tried u ms c d e
second k p tried u ms moment c d e done ready q t at by known part clocked =
    let w = waited k p tried u c d q t in
    record {
      waited = w;
      ready = ready;
      by = by ∙ ap (λ (x : ℕ). u - x) at;
      known = subst (λ (x : Network). p.manager < length x.scenario.managers) (sym (net_is k p tried u c d w)) known;
      part = record { left = part.left; goes = part.goes; marks = part.marks; ends = part.ends };
      clocked = clocked;
    }

next_told : (k : ℕ) (p : ScriptPart) (tried : Option ℕ) (u ms : ℕ) (c d e f : Course) (s : Second k p tried u ms c d e) (r : Result Advanced Stop) → LineTold k p r e f → LineOf k p (Makes (call_next c.net k p (Some u) s.waited.line)) r e f
next_told k p tried u ms c d e f s r t = at_node (node_at e.net p.manager) refl t
  where
    at_node : (x : Option Node) → node_at e.net p.manager ≡ x → LineAt k p x r e f → LineOf k p (Makes (call_next c.net k p (Some u) s.waited.line)) r e f
    at_node None there h = absurd h
    at_node (Some n) there h = subst (λ (y : Next). LineOf k p y r e f) (now_made k p tried u ms c d e n s.waited there s.by s.known s.clocked) h

goes_before : (k : ℕ) (p : ScriptPart) (tried : Option ℕ) (u ms : ℕ) (c d e : Course) (s : Second k p tried u ms c d e) (most : ℕ) → Goes c.net (upto k p tried (suc most) c) e.net (get_then k p u c.net s.waited.line s.waited.more most)
goes_before k p tried u ms c d e s most = clocks_then k p tried u ms c d e.net [] s.waited s.ready s.by (subst (λ (ts : List Task). Goes d.net (clocks d.net.scenario ms) e.net ts) s.part.ends.0 s.part.goes) most

marks_before : (k : ℕ) (p : ScriptPart) (tried : Option ℕ) (u ms : ℕ) (c d e : Course) (s : Second k p tried u ms c d e) → e.marks ≡ c.marks
marks_before k p tried u ms c d e s = s.part.marks ∙ marks_are k p tried u c d s.waited

left_then : (k : ℕ) (p : ScriptPart) (tried : Option ℕ) (u ms : ℕ) (c d e f : Course) (s : Second k p tried u ms c d e) → Did (Is p.manager (actors.Script k) (call_next c.net k p (Some u) s.waited.line)) (waiting k None e) f → lines_left f.net k p ≡ s.waited.more
left_then k p tried u ms c d e f s x =
    ap (λ (y : Course). lines_left y.net k p) x.is
    ∙ left_more e.net k p (Some s.waited.is.first) s.waited.line x.at x.entry x.behind (is_next k p tried u c d e s.waited by_lines x.at x.entry x.fits) x.triggers
    ∙ ap (λ (ls : List ScriptLine). drop 1 ls) (same_left k p c.net e.net by_lines ∙ s.waited.is.left)
  where
    by_lines : lines_by k (e.net.done p.manager) ≡ lines_by k (c.net.done p.manager)
    by_lines = s.clocked.lines k p.manager ∙ ap (λ (x : Network). lines_by k (x.done p.manager)) (net_is k p tried u c d s.waited)

-- the others' lines and deadlines stay
alone_then : (k : ℕ) (p : ScriptPart) (tried : Option ℕ) (u ms : ℕ) (c d e f : Course) (s : Second k p tried u ms c d e) → Did (Is p.manager (actors.Script k) (call_next c.net k p (Some u) s.waited.line)) (waiting k None e) f → Alone k c f
alone_then k p tried u ms c d e f s x =
    let now = did_alone k (Is p.manager (actors.Script k) (call_next c.net k p (Some u) s.waited.line)) e f (λ m y h. h.1) x in
    record {
      waits = λ j other.
          now.waits j other ∙ ap (λ (g : ℕ → Option ℕ). g j) s.clocked.waits ∙ ap (λ (y : Course). y.waits j) s.waited.same
          ∙ ap (λ (b : Bool). if b then Some u else c.waits j) other;
      lines = λ j m other. now.lines j m other ∙ s.clocked.lines j m ∙ ap (λ (y : Course). lines_by j (y.net.done m)) s.waited.same;
      rests = now.rests;
    }

pub get_done : (k : ℕ) (p : ScriptPart) (tried : Option ℕ) (u ms : ℕ) (c d e f : Course) (advanced : Advanced) → Second k p tried u ms c d e → LineTold k p (Ok advanced) e f → OneLine k p tried (Ok true) c f
get_done k p tried u ms c d e f advances.Done s t =
    let (x, ready) = next_told k p tried u ms c d e f s (Ok advances.Done) t in (
      λ most. subst (λ (ls : List ScriptLine). Onward (upto k p tried (suc most) c) (lines_of k p None most ls) c f) (sym (left_then k p tried u ms c d e f s x)) (record {
        goes = get_goes k p tried u c d e f s.waited most (goes_before k p tried u ms c d e s most) x;
        ready = ready;
        marks = ap (λ (y : Course). y.marks) x.is ∙ marks_before k p tried u ms c d e s;
        rests = λ q j. ap (λ (y : Course). y.waits j) x.is ∙ others_rest k (Some u) c e q (s.clocked.waits ∙ ap (λ (y : Course). y.waits) s.waited.same) j;
      }),
      alone_then k p tried u ms c d e f s x,
    )
get_done k p tried u ms c d e f (advances.Waiting v) s t = absurd (made_waits (next_told k p tried u ms c d e f s (Ok (advances.Waiting v)) t).0)
  where
    made_waits : Makes (call_next c.net k p (Some u) s.waited.line) ≡ Waits v → ⊥
    made_waits h = cc
get_done k p tried u ms c d e f advances.Ended s t = absurd (made_ends (next_told k p tried u ms c d e f s (Ok advances.Ended) t).0)
  where
    made_ends : Makes (call_next c.net k p (Some u) s.waited.line) ≡ Ends → ⊥
    made_ends h = cc

pub get_breaks : (k : ℕ) (p : ScriptPart) (tried : Option ℕ) (u ms : ℕ) (c d e f : Course) (stop : Stop) → Second k p tried u ms c d e → LineTold k p (Err stop) e f → OneLine k p tried (Err stop) c f
get_breaks k p tried u ms c d e f stop s t = λ most. broken stop most (next_told k p tried u ms c d e f s (Err stop) t)
  where
    after_it : (st : Stop) (most : ℕ) → Did (Is p.manager (actors.Script k) (call_next c.net k p (Some u) s.waited.line)) (waiting k None e) f → Ended {T = Bool} (Err st) (lines_of k p None most s.waited.more) c f → Part {T = Bool} (upto k p tried (suc most) c) (Err st) c f
    after_it st most x h = record {
      left = lines_of k p None most s.waited.more;
      goes = get_goes k p tried u c d e f s.waited most (goes_before k p tried u ms c d e s most) x;
      marks = ap (λ (y : Course). y.marks) x.is ∙ marks_before k p tried u ms c d e s;
      ends = h;
    }

    broken : (st : Stop) (most : ℕ) → LineOf k p (Makes (call_next c.net k p (Some u) s.waited.line)) (Err st) e f → Part {T = Bool} (upto k p tried (suc most) c) (Err st) c f
    broken stops.NoMemory most (inl same) = record {
      left = get_then k p u c.net s.waited.line s.waited.more most;
      goes = subst (λ (y : Course). Goes c.net (upto k p tried (suc most) c) y.net (get_then k p u c.net s.waited.line s.waited.more most)) (sym same) (goes_before k p tried u ms c d e s most);
      marks = ap (λ (y : Course). y.marks) same ∙ marks_before k p tried u ms c d e s;
      ends = tt;
    }
    broken stops.NoMemory most (inr x) = after_it stops.NoMemory most x tt
    broken (stops.Spent m) most (x, spent) = after_it (stops.Spent m) most x spent
