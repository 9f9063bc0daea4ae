-- An entry more at one manager: what each script has done then.
use Rattle.std.specs.Prelude.{◌≡◌, ℕ, zero, suc, ◌==◌, Bool, true, false, not, List, [], ◌∷◌, ◌++◌, Option, Some, None, length, drop, take, filter, if◌then◌else◌, slice_get, refl}
use Rattle.std.proofs.Common.{ap, subst, sym, arith, append-nil, ◌∙◌}
use Rattle.std.proofs.lemmas.Bool.Decides.{nat_tests}
use Rattle.mq_history.specs.declared.calls.Actor.{Actor}
use Rattle.mq_history.specs.declared.calls.Actor.TheVariants as actors
use Rattle.mq_history.specs.declared.calls.Call.{Call}
use Rattle.mq_history.specs.declared.calls.Call.TheVariants as calls
use Rattle.mq_history.specs.declared.calls.Entry.{Entry}
use Rattle.mq_history.specs.declared.scenario.ScriptPart.{ScriptPart}
use Rattle.mq_history.specs.declared.scripts.ScriptLine.{ScriptLine}
use Rattle.mq_spec_node.specs.Doers.{is_trigger, is_script}
use Rattle.mq_spec_node.specs.Scripts.{AreLines, IsDeadline, Memory, fresh, line_call, remembers, until_of, wait_of}
use Rattle.mq_spec_node.specs.Lines.{lines_by, memory_after, memory_by}
use Rattle.mq_spec_network.specs.Turns.{Network, does}
use Rattle.mq_spec_network.specs.ScriptLines.{lines_left}
use Rattle.mq_spec_network.proofs.NextLines.{by_more, plain_call, drop_more}
use Rattle.mq_law_scripts.specs.Fits.{AllLines, IsDone, NoScript}

pub bool_case : (P : Bool → Type 0) → P true → P false → (b : Bool) → P b
bool_case P if_so if_not b = elim b as P [ true ↦ if_so | false ↦ if_not ]

itself : (k : ℕ) → (k == k) ≡ true
itself k = grind (arith, nat_tests)

same_number : (k j : ℕ) → (k == j) ≡ true → k ≡ j
same_number k j e = grind (arith, nat_tests)

abbrev pub OfNone : Entry → Type 0
OfNone e = (k : ℕ) → lines_by k (e ∷ []) ≡ []

-- a trigger turn is no line, nor is an entry of another actor
pub triggers_none : (e : Entry) → e.call ≡ calls.Trigger → OfNone e
triggers_none e h k = ap (λ (c : Call). filter (λ (x : Entry). is_script k x.actor) (if not (is_trigger c) then e ∷ [] else [])) h

pub others_none : (e : Entry) (actor : Actor) → e.actor ≡ actor → NoScript actor → OfNone e
others_none e actor is never k = bool_case
    (λ b. filter (λ (x : Entry). is_script k x.actor) (if not b then e ∷ [] else []) ≡ [])
    refl
    (ap (λ (b : Bool). if b then e ∷ [] else []) (ap (is_script k) is ∙ never k))
    (is_trigger e.call)

-- then each script has done what it had
pub none_more : (w : Network) (m : ℕ) (e : Entry) → OfNone e → (k n : ℕ) → lines_by k ((does m (e ∷ []) w).done n) ≡ lines_by k (w.done n)
none_more w m e none k n = bool_case
    (λ b. lines_by k (if b then w.done n ++ e ∷ [] else w.done n) ≡ lines_by k (w.done n))
    (by_more k (w.done n) (e ∷ []) ∙ ap (λ (xs : List Entry). lines_by k (w.done n) ++ xs) (none k) ∙ append-nil (lines_by k (w.done n)))
    refl
    (n == m)

pub none_all : (w : Network) (m : ℕ) (e : Entry) → OfNone e → AllLines w → AllLines (does m (e ∷ []) w)
none_all w m e none h k p part = subst (AreLines p.label fresh p.lines) (sym (none_more w m e none k p.manager)) (h k p part)

-- Of an entry that is a script's next line: its own is one more,
line_own : (w : Network) (k : ℕ) (p : ScriptPart) (m : ℕ) (e : Entry) → IsDone w k p m e → lines_by k (e ∷ []) ≡ e ∷ []
line_own w k p m e d =
    ap (λ (b : Bool). filter (λ (x : Entry). is_script k x.actor) (if not b then e ∷ [] else [])) (ap is_trigger d.made ∙ plain_call p.label (memory_by k p (w.done p.manager)) (until_of e.call) d.line)
    ∙ ap (λ (b : Bool). if b then e ∷ [] else []) (ap (is_script k) d.who ∙ itself k)

pub line_here : (w : Network) (k : ℕ) (p : ScriptPart) (m : ℕ) (e : Entry) → IsDone w k p m e → lines_by k ((does m (e ∷ []) w).done p.manager) ≡ lines_by k (w.done p.manager) ++ e ∷ []
line_here w k p m e d =
    subst (λ (x : ℕ). lines_by k ((does x (e ∷ []) w).done p.manager) ≡ lines_by k (w.done p.manager) ++ e ∷ []) (sym d.at)
    (ap (λ (b : Bool). lines_by k (if b then w.done p.manager ++ e ∷ [] else w.done p.manager)) (itself p.manager)
    ∙ by_more k (w.done p.manager) (e ∷ []) ∙ ap (λ (xs : List Entry). lines_by k (w.done p.manager) ++ xs) (line_own w k p m e d))

-- and nothing of another.
other_none : (k j : ℕ) (e : Entry) → e.actor ≡ actors.Script k → (k == j) ≡ false → lines_by j (e ∷ []) ≡ []
other_none k j e who other = bool_case
    (λ b. filter (λ (x : Entry). is_script j x.actor) (if not b then e ∷ [] else []) ≡ [])
    refl
    (ap (λ (b : Bool). if b then e ∷ [] else []) (ap (is_script j) who ∙ other))
    (is_trigger e.call)

line_others : (w : Network) (k : ℕ) (m : ℕ) (e : Entry) → e.actor ≡ actors.Script k → (j n : ℕ) → (k == j) ≡ false → lines_by j ((does m (e ∷ []) w).done n) ≡ lines_by j (w.done n)
line_others w k m e who j n other = bool_case
    (λ b. lines_by j (if b then w.done n ++ e ∷ [] else w.done n) ≡ lines_by j (w.done n))
    (by_more j (w.done n) (e ∷ []) ∙ ap (λ (xs : List Entry). lines_by j (w.done n) ++ xs) (other_none k j e who other) ∙ append-nil (lines_by j (w.done n)))
    refl
    (n == m)

-- one line more
abbrev head_or : ScriptLine → List ScriptLine → ScriptLine
head_or d [] = d
head_or d (x ∷ xs) = x

are_more : (label : List ℕ) (m : Memory) (ls : List ScriptLine) (xs : List Entry) (e : Entry) (l : ScriptLine) (more : List ScriptLine) → AreLines label m ls xs → drop (length xs) ls ≡ l ∷ more
    → e.call ≡ line_call label (memory_after m ls xs) (until_of e.call) l → IsDeadline (wait_of l) (until_of e.call) → AreLines label m ls (xs ++ e ∷ [])
are_more label m [] [] e l more h left made due = absurd cc
are_more label m [] (x ∷ xs) e l more h left made due = absurd h
are_more label m (a ∷ ls) [] e l more h left made due =
    let head : l ≡ a = sym (ap (head_or a) left) in
    (made ∙ ap (λ (x : ScriptLine). line_call label m (until_of e.call) x) head, subst (λ (x : ScriptLine). IsDeadline (wait_of x) (until_of e.call)) head due, tt)
are_more label m (a ∷ ls) (x ∷ xs) e l more h left made due = (h.0, h.1, are_more label (remembers a x.reply m) ls xs e l more h.2 left made due)

abbrev some_or : ScriptPart → Option ScriptPart → ScriptPart
some_or d None = d
some_or d (Some p) = p

pub line_all : (w : Network) (k : ℕ) (p : ScriptPart) (m : ℕ) (e : Entry) → IsDone w k p m e → AllLines w → AllLines (does m (e ∷ []) w)
line_all w k p m e d h j q part = by_script (k == j) refl
  where
    own : AreLines p.label fresh p.lines (lines_by k ((does m (e ∷ []) w).done p.manager))
    own = subst (AreLines p.label fresh p.lines) (sym (line_here w k p m e d))
        (are_more p.label fresh p.lines (lines_by k (w.done p.manager)) e d.line d.rest (h k p d.part) d.left d.made d.due)

    by_script : (b : Bool) → (k == j) ≡ b → AreLines q.label fresh q.lines (lines_by j ((does m (e ∷ []) w).done q.manager))
    by_script true same =
        let one : k ≡ j = same_number k j same in
        let two : p ≡ q = ap (some_or p) (sym d.part ∙ ap (slice_get w.scenario.scripts) one ∙ part) in
        subst (λ (x : ℕ). AreLines q.label fresh q.lines (lines_by x ((does m (e ∷ []) w).done q.manager))) one
        (subst (λ (x : ScriptPart). AreLines x.label fresh x.lines (lines_by k ((does m (e ∷ []) w).done x.manager))) two own)
    by_script false other = subst (AreLines q.label fresh q.lines) (sym (line_others w k m e d.who j q.manager other)) (h j q part)

-- the lines that are left then
length_more : (xs : List Entry) (e : Entry) → length (xs ++ e ∷ []) ≡ suc (length xs)
length_more [] e = refl
length_more (x ∷ xs) e = ap suc (length_more xs e)

pub line_left : (w : Network) (k : ℕ) (p : ScriptPart) (m : ℕ) (e : Entry) → (d : IsDone w k p m e) → lines_left (does m (e ∷ []) w) k p ≡ d.rest
line_left w k p m e d =
    ap (λ (xs : List Entry). drop (length xs) p.lines) (line_here w k p m e d)
    ∙ ap (λ (n : ℕ). drop n p.lines) (length_more (lines_by k (w.done p.manager)) e)
    ∙ drop_more (length (lines_by k (w.done p.manager))) p.lines
    ∙ ap (λ (ls : List ScriptLine). drop 1 ls) d.left

-- Of lines that were asked, the first.
pub record Taken (ls : List ScriptLine) (l : ScriptLine) (left : List ScriptLine) : Type 0 where
  pub rest : List ScriptLine
  pub some : ℕ
  pub is : left ≡ l ∷ rest
  pub behind : ls ≡ take some rest

abbrev tail_of : List ScriptLine → List ScriptLine
tail_of [] = []
tail_of (x ∷ xs) = xs

pub taken : (n : ℕ) (left : List ScriptLine) (l : ScriptLine) (ls : List ScriptLine) → l ∷ ls ≡ take n left → Taken ls l left
taken zero left l ls h = absurd cc
taken (suc n) [] l ls h = absurd cc
taken (suc n) (x ∷ xs) l ls h = record { rest = xs; some = n; is = ap (λ (y : ScriptLine). y ∷ xs) (sym (ap (head_or x) h)); behind = ap tail_of h }
