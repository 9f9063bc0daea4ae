-- What entries say of a script, one entry further.
use Rattle.std.proofs.Common.{◌≡◌, ℕ, zero, suc, ◌+◌, Bool, true, false, List, [], ◌∷◌, ◌++◌, length, drop, refl, sym, ap, ◌∙◌, arith, inl, inr}
use Rattle.std.specs.Prelude.{◌⊎◌, ◌==◌, not, Option, Some, None, slice_get}
use Rattle.std.specs.List.{filter}
use Rattle.std.proofs.lemmas.List.Elements.{filter-append}
use Rattle.std.proofs.lemmas.List.{append-nil, length-append}
use Rattle.std.proofs.lemmas.Bool.Decides.{nat_tests}
use Rattle.mq_history.specs.declared.calls.Actor.TheVariants as actors
use Rattle.mq_history.specs.declared.calls.Entry.{Entry}
use Rattle.mq_history.specs.declared.scenario.ScriptPart.{ScriptPart}
use Rattle.mq_history.specs.declared.scripts.ScriptLine.{ScriptLine}
use Rattle.mq_spec_node.specs.Node.{Node}
use Rattle.mq_spec_node.specs.Doers.{is_script, is_trigger, mains, by}
use Rattle.mq_spec_node.specs.Scripts.{Memory, fresh, remembers}
use Rattle.mq_spec_node.specs.Lines.{lines_by, lines_done, memory_after, memory_by, next_by, next_of}
use Rattle.mq_progress.specs.Course.{Course, Finished, Stands, next_in}

same_number : (k : ℕ) → (k == k) ≡ true
same_number k = grind (arith, nat_tests)

-- of one entry more what a script did
lines_mine : (k : ℕ) (es : List Entry) (e : Entry) → is_script k e.actor ≡ true → is_trigger e.call ≡ false → lines_by k (es ++ e ∷ []) ≡ lines_by k es ++ e ∷ []
lines_mine k es e mine main =
    let one : mains (e ∷ []) ≡ e ∷ [] = rw main refl in
    let own : by (is_script k) (e ∷ []) ≡ e ∷ [] = rw mine refl in
    ap (by (is_script k)) (filter-append (λ (x : Entry). not (is_trigger x.call)) es (e ∷ []) ∙ ap (λ (xs : List Entry). mains es ++ xs) one)
    ∙ filter-append (λ (x : Entry). is_script k x.actor) (mains es) (e ∷ [])
    ∙ ap (λ (xs : List Entry). lines_by k es ++ xs) own

trigger_by : (k : ℕ) (e : Entry) → is_trigger e.call ≡ true → by (is_script k) (mains (e ∷ [])) ≡ []
trigger_by k e trigger = let none : mains (e ∷ []) ≡ [] = rw trigger refl in ap (by (is_script k)) none

other_if : (k : ℕ) (e : Entry) (b : Bool) → is_trigger e.call ≡ b → is_script k e.actor ≡ false → by (is_script k) (mains (e ∷ [])) ≡ []
other_if k e true is other = trigger_by k e is
other_if k e false is other =
    let one : mains (e ∷ []) ≡ e ∷ [] = rw is refl in
    let none : by (is_script k) (e ∷ []) ≡ [] = rw other refl in
    ap (by (is_script k)) one ∙ none

other_by : (k : ℕ) (e : Entry) → (is_script k e.actor ≡ false) ⊎ (is_trigger e.call ≡ true) → by (is_script k) (mains (e ∷ [])) ≡ []
other_by k e (inl other) = other_if k e (is_trigger e.call) refl other
other_by k e (inr trigger) = trigger_by k e trigger

lines_others : (k : ℕ) (es : List Entry) (e : Entry) → (is_script k e.actor ≡ false) ⊎ (is_trigger e.call ≡ true) → lines_by k (es ++ e ∷ []) ≡ lines_by k es
lines_others k es e other =
    ap (by (is_script k)) (filter-append (λ (x : Entry). not (is_trigger x.call)) es (e ∷ []))
    ∙ filter-append (λ (x : Entry). is_script k x.actor) (mains es) (mains (e ∷ []))
    ∙ ap (λ (xs : List Entry). lines_by k es ++ xs) (other_by k e other)
    ∙ append-nil (lines_by k es)

-- what is remembered after one line more
memory_none : (m : Memory) (ls : List ScriptLine) → memory_after m ls [] ≡ m
memory_none m [] = refl
memory_none m (l ∷ ls) = refl

some_line : {X : Type 0} {x y : X} → Some x ≡ Some y → x ≡ y
some_line e = cc

memory_more : (m : Memory) (ls : List ScriptLine) (es : List Entry) (e : Entry) (l : ScriptLine) → slice_get ls (length es) ≡ Some l → memory_after m ls (es ++ e ∷ []) ≡ remembers l e.reply (memory_after m ls es)
memory_more m [] es e l is = absurd cc
memory_more m (x ∷ ls) [] e l is = memory_none (remembers x e.reply m) ls ∙ ap (λ (y : ScriptLine). remembers y e.reply m) (some_line is)
memory_more m (x ∷ ls) (y ∷ es) e l is = memory_more (remembers x y.reply m) ls es e l is

pub stands_first : (k : ℕ) (p : ScriptPart) (c : Course) → c.memory ≡ fresh → c.done ≡ 0 → Stands k p [] c
stands_first k p c memory done = record {
  memory = memory ∙ sym (memory_none fresh p.lines);
  done = done;
}

pub stands_further : (k : ℕ) (p : ScriptPart) (es : List Entry) (e : Entry) (l : ScriptLine) (old new : Course) → Stands k p es old → slice_get p.lines old.done ≡ Some l
    → e.actor ≡ actors.Script k → is_trigger e.call ≡ false → Finished l e.reply old new → Stands k p (es ++ e ∷ []) new
stands_further k p es e l old new at line actor main done =
    let mine : is_script k e.actor ≡ true = ap (is_script k) actor ∙ same_number k in
    let more : lines_by k (es ++ e ∷ []) ≡ lines_by k es ++ e ∷ [] = lines_mine k es e mine main in
    let here : slice_get p.lines (length (lines_by k es)) ≡ Some l = ap (slice_get p.lines) (sym at.done) ∙ line in
    record {
      memory = done.memory ∙ ap (remembers l e.reply) at.memory ∙ sym (memory_more fresh p.lines (lines_by k es) e l here) ∙ ap (memory_after fresh p.lines) (sym more);
      done = done.done ∙ ap (λ (n : ℕ). n + 1) at.done ∙ sym (length-append (lines_by k es) (e ∷ [])) ∙ ap length (sym more);
    }

pub stands_others : (k : ℕ) (p : ScriptPart) (es : List Entry) (e : Entry) (c : Course) → Stands k p es c → (is_script k e.actor ≡ false) ⊎ (is_trigger e.call ≡ true) → Stands k p (es ++ e ∷ []) c
stands_others k p es e c at other =
    let same : lines_by k (es ++ e ∷ []) ≡ lines_by k es = lines_others k es e other in
    record {
      memory = at.memory ∙ ap (memory_after fresh p.lines) (sym same);
      done = at.done ∙ ap length (sym same);
    }

-- what comes next
abbrev first_of : {X : Type 0} → List X → Option X
first_of [] = None
first_of (x ∷ xs) = Some x

dropped_first : {X : Type 0} (xs : List X) (n : ℕ) → first_of (drop n xs) ≡ slice_get xs n
dropped_first [] zero = refl
dropped_first [] (suc n) = refl
dropped_first (x ∷ xs) zero = refl
dropped_first (x ∷ xs) (suc n) = dropped_first xs n

next_first : (k : ℕ) (p : ScriptPart) (es : List Entry) (c : Course) (n : Node) (ls : List ScriptLine) → c.memory ≡ memory_by k p es → next_of k p es c.until ls n ≡ next_in k p c (first_of ls) n
next_first k p es c n [] is = refl
next_first k p es c n (l ∷ ls) is = ap (λ (m : Memory). next_in k p (record c { memory = m }) (Some l) n) (sym is)

pub next_here : (k : ℕ) (p : ScriptPart) (es : List Entry) (c : Course) (n : Node) → Stands k p es c → next_by k p es c.until n ≡ next_in k p c (slice_get p.lines c.done) n
next_here k p es c n at =
    next_first k p es c n (drop (lines_done k es) p.lines) at.memory
    ∙ ap (λ (o : Option ScriptLine). next_in k p c o n) (dropped_first p.lines (lines_done k es) ∙ ap (slice_get p.lines) (sym at.done))
