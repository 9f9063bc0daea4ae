-- After a line of a script, with its trigger turns: the next line, and what is remembered.
use Rattle.std.specs.Prelude.{◌≡◌, ℕ, zero, suc, ◌==◌, Bool, true, false, not, List, [], ◌∷◌, ◌++◌, Option, length, drop, filter, if◌then◌else◌, refl}
use Rattle.std.proofs.Common.{ap, subst, sym, arith, ◌∙◌}
use Rattle.std.proofs.lemmas.Bool.Decides.{nat_tests}
use Rattle.std.proofs.lemmas.List.Elements.{filter-append}
use Rattle.mq_spec_node.specs.from_history.ActorVariants as actors
use Rattle.mq_spec_node.specs.from_history.{Call, Entry, ScriptLine, ScriptPart}
use Rattle.mq_spec_node.specs.from_history.ScriptLineVariants as lines
use Rattle.mq_spec_node.specs.Scripts.{Memory, line_call, remembers, until_of}
use Rattle.mq_spec_network.specs.Turns.{Network, does}
use Rattle.mq_spec_node.specs.Doers.{is_trigger, mains, is_script}
use Rattle.mq_spec_node.specs.Lines.{lines_by, lines_done, memory_after, memory_by, left_after}
use Rattle.mq_spec_network.specs.ScriptLines.{lines_left}
use Rattle.mq_spec_network.specs.Steps.{AreTriggers, IsNext}
use Rattle.mq_spec_network.proofs.Going.{here}

-- a line's call is no trigger turn
pub plain_call : (label : List ℕ) (m : Memory) (until : Option ℕ) (l : ScriptLine) → is_trigger (line_call label m until l) ≡ false
plain_call label m until (lines.Mqconn name) = refl
plain_call label m until lines.Mqdisc = refl
plain_call label m until lines.Mqcmit = refl
plain_call label m until lines.Mqback = refl
plain_call label m until (lines.Mqopen handle name qmgr how) = refl
plain_call label m until (lines.Mqclose handle) = refl
plain_call label m until (lines.Mqput handle body o) = refl
plain_call label m until (lines.Mqput1 name qmgr body o) = refl
plain_call label m until (lines.Reply body o) = refl
plain_call label m until (lines.Mqget handle o) = refl
plain_call label m until (lines.Mqsc command) = refl
plain_call label m until lines.Crash = refl
plain_call label m until lines.Restart = refl
plain_call label m until (lines.Cut k) = refl

by_none : (k : ℕ) (es : List Entry) → AreTriggers es → lines_by k es ≡ []
by_none k [] h = refl
by_none k (e ∷ es) h = ap (λ (c : Call). filter (λ (x : Entry). is_script k x.actor) (if not (is_trigger c) then e ∷ mains es else mains es)) h.0 ∙ by_none k es h.1

pub by_more : (k : ℕ) (xs ys : List Entry) → lines_by k (xs ++ ys) ≡ lines_by k xs ++ lines_by k ys
by_more k xs ys =
    ap (λ (zs : List Entry). filter (λ (x : Entry). is_script k x.actor) zs) (filter-append (λ (x : Entry). not (is_trigger x.call)) xs ys) ∙ filter-append (λ (x : Entry). is_script k x.actor) (mains xs) (mains ys)

itself : (k : ℕ) → (k == k) ≡ true
itself k = grind (arith, nat_tests)

by_one : (k : ℕ) (e : Entry) (es : List Entry) → e.actor ≡ actors.Script k → is_trigger e.call ≡ false → AreTriggers es → lines_by k (e ∷ es) ≡ e ∷ []
by_one k e es actor plain h =
    ap (λ (b : Bool). filter (λ (x : Entry). is_script k x.actor) (if not b then e ∷ mains es else mains es)) plain
    ∙ ap (λ (b : Bool). if b then e ∷ lines_by k es else lines_by k es) (ap (is_script k) actor ∙ itself k) ∙ ap (λ (zs : List Entry). e ∷ zs) (by_none k es h)

length_more : (xs : List Entry) (e : Entry) → length (xs ++ e ∷ []) ≡ suc (length xs)
length_more [] e = refl
length_more (x ∷ xs) e = ap suc (length_more xs e)

pub drop_more : (n : ℕ) (ls : List ScriptLine) → drop (suc n) ls ≡ drop 1 (drop n ls)
drop_more zero ls = refl
drop_more (suc n) [] = refl
drop_more (suc n) (l ∷ ls) = drop_more n ls

-- the lines that are left, after one more
pub left_more : (w : Network) (k : ℕ) (p : ScriptPart) (tried : Option ℕ) (l : ScriptLine) (m : ℕ) (e : Entry) (es : List Entry) → IsNext w k p tried l m e → AreTriggers es
    → lines_left (does m (e ∷ es) w) k p ≡ drop 1 (lines_left w k p)
left_more w k p tried l m e es h due =
    subst (λ (x : ℕ). lines_left (does x (e ∷ es) w) k p ≡ drop 1 (lines_left w k p)) (sym h.is.0)
    (ap (λ (xs : List Entry). left_after k p xs) (here p.manager (e ∷ es) w.done (itself p.manager))
    ∙ ap (λ (xs : List Entry). drop (length xs) p.lines)
    (by_more k (w.done p.manager) (e ∷ es) ∙ ap (λ (xs : List Entry). lines_by k (w.done p.manager) ++ xs) (by_one k e es h.is.1 (ap is_trigger h.is.2 ∙ plain_call p.label (memory_by k p (w.done p.manager)) (until_of e.call) l) due))
    ∙ ap (λ (n : ℕ). drop n p.lines) (length_more (lines_by k (w.done p.manager)) e) ∙ drop_more (lines_done k (w.done p.manager)) p.lines)

-- what is remembered, after one more
pub memory_more : (m : Memory) (ls : List ScriptLine) (xs : List Entry) (e : Entry) (l : ScriptLine) (more : List ScriptLine) → drop (length xs) ls ≡ l ∷ more
    → memory_after m ls (xs ++ e ∷ []) ≡ remembers l e.reply (memory_after m ls xs)
memory_more m [] [] e l more h = absurd cc
memory_more m [] (x ∷ xs) e l more h = absurd cc
memory_more m (a ∷ ls) [] e l more h = none_then ls ∙ ap (λ (x : ScriptLine). remembers x e.reply m) (ap (head_or a) h)
  where
    head_or : ScriptLine → List ScriptLine → ScriptLine
    head_or d [] = d
    head_or d (x ∷ xs) = x

    none_then : (ls : List ScriptLine) → memory_after (remembers a e.reply m) ls [] ≡ remembers a e.reply m
    none_then [] = refl
    none_then (b ∷ ls) = refl
memory_more m (a ∷ ls) (x ∷ xs) e l more h = memory_more (remembers a x.reply m) ls xs e l more h
