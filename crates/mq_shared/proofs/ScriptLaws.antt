-- A script of a phase: its line is one that a phase may have, and how it goes on.
use Rattle.std.proofs.Common.{◌≡◌, ℕ, zero, suc, ◌≤◌, ◌<◌, false, List, [], ◌∷◌, ◌++◌, length, drop, refl, sym, ap, subst, ◌∙◌, append_assoc, inl, inr, arith}
use Rattle.std.specs.Prelude.{◌⊎◌, Option, Some, slice_get}
use Rattle.mq_history.specs.declared.calls.Actor.{Actor}
use Rattle.mq_history.specs.declared.calls.Actor.TheVariants as actors
use Rattle.mq_spec_node.specs.Terms.{Entry, ScriptLine, ScriptPart}
use Rattle.mq_spec_node.specs.Words.{Memory, call_after, deadline, is_script, is_trigger, left_after, line_call, wait_of}
use Rattle.mq_spec_network.specs.Steps.{InPhase, PhaseLine}
use Rattle.mq_spec_network.specs.Tasks.{Trying}
use Rattle.mq_spec_network.proofs.NextLines.{plain_call}
use Rattle.mq_progress.specs.Course.{Course, Finished, Stands}
use Rattle.mq_progress.proofs.CourseLaws.{stands_further, stands_others}
use Rattle.mq_acts.specs.Serving.{AreTurns}
use Rattle.mq_shared.specs.Held.{Begun, IsScriptIn, ScriptState, TriedSo}
use Rattle.mq_shared.specs.Events.{SameScript}

drop_at : {A : Type 0} (xs : List A) (n : ℕ) (x : A) → slice_get xs n ≡ Some x → (rest : List A) × (drop n xs ≡ x ∷ rest)
drop_at [] n x e = absurd cc
drop_at (y ∷ ys) zero x e = (ys, ap (λ (z : _). z ∷ ys) (same y x e))
  where
    same : {A : Type 0} (a b : A) → Some a ≡ Some b → a ≡ b
    same a b h = cc
drop_at (y ∷ ys) (suc n) x e = drop_at ys n x e

-- THE LINE
pub line_in : (b : Begun) (m : ℕ) (done : List Entry) (s : ScriptState) (l : ScriptLine) (e : Entry) → IsScriptIn b m done s → slice_get s.part.lines s.course.done ≡ Some l → e.actor ≡ actors.Script s.script
    → e.call ≡ line_call s.part.label s.course.memory (deadline s.moment (wait_of l)) l → InPhase b.tries done m e e.actor
line_in b m done s l e h is actor call =
    let found = drop_at s.part.lines s.course.done l is in
    let left : left_after s.script s.part done ≡ l ∷ found.0 = ap (λ (n : ℕ). drop n s.part.lines) (sym h.stands.done) ∙ found.1 in
    let t : Trying = record { script = s.script; part = s.part; moment = s.moment } in
    let asked : e.call ≡ call_after s.script s.part done (deadline s.moment (wait_of l)) l = call ∙ ap (λ (k : Memory). line_call s.part.label k (deadline s.moment (wait_of l)) l) h.stands.memory in
    subst (λ (a : Actor). InPhase b.tries done m e a) (sym actor)
    (t, h.among, subst (λ (ls : List ScriptLine). PhaseLine s.script t done ls m e) (sym left) (refl, (sym h.here, actor, asked)))

-- HOW IT STANDS behind trigger turns,
behind_turns : (k : ℕ) (p : ScriptPart) (es behind : List Entry) (c : Course) → AreTurns behind → Stands k p es c → Stands k p (es ++ behind) c
behind_turns k p es [] c t h = subst (λ (xs : List Entry). Stands k p xs c) (sym (Rattle.std.proofs.lemmas.List.append-nil es)) h
behind_turns k p es (x ∷ xs) c t h =
    subst (λ (ys : List Entry). Stands k p ys c) (append_assoc es (x ∷ []) xs) (behind_turns k p (es ++ x ∷ []) xs c t.1 (stands_others k p es x c h (inr (ap is_trigger t.0))))

-- behind an event of another,
others_stand : (k : ℕ) (p : ScriptPart) (es behind : List Entry) (e : Entry) (c : Course) → is_script k e.actor ≡ false → AreTurns behind → Stands k p es c → Stands k p (es ++ e ∷ behind) c
others_stand k p es behind e c other t h =
    subst (λ (ys : List Entry). Stands k p ys c) (append_assoc es (e ∷ []) behind) (behind_turns k p (es ++ e ∷ []) behind c t (stands_others k p es e c h (inl other)))

pub script_others : (b : Begun) (m : ℕ) (done behind : List Entry) (e : Entry) (s : ScriptState) → is_script s.script e.actor ≡ false → AreTurns behind → IsScriptIn b m done s → IsScriptIn b m (done ++ e ∷ behind) s
script_others b m done behind e s other t h = record {
  among = h.among;
  here = h.here;
  stands = others_stand s.script s.part done behind e s.course other t h.stands;
  few = h.few;
  short = h.short;
  texts = h.texts;
  tried = h.tried;
}

-- and behind its line.
pub less : {A : Type 0} (xs : List A) (n : ℕ) (x : A) → slice_get xs n ≡ Some x → n < length xs
less [] n x e = absurd cc
less (y ∷ ys) zero x e = omega arith
less (y ∷ ys) (suc n) x e = let h = less ys n x e in omega (arith, h)

pub script_done : (b : Begun) (m : ℕ) (done behind : List Entry) (e : Entry) (l : ScriptLine) (s t : ScriptState) → SameScript s t → slice_get s.part.lines s.course.done ≡ Some l → e.actor ≡ actors.Script s.script
    → e.call ≡ line_call s.part.label s.course.memory (deadline s.moment (wait_of l)) l → Finished l e.reply s.course t.course → AreTurns behind → IsScriptIn b m done s → IsScriptIn b m (done ++ e ∷ behind) t
script_done b m done behind e l s t same is actor call f turns h = with_names (record { script = s.script; part = s.part; moment = s.moment; course = t.course }) named there
  where
    named : record { script = s.script; part = s.part; moment = s.moment; course = t.course } ≡ t
    named = λ i. record { script = sym same.script i; part = sym same.part i; moment = sym same.moment i; course = t.course }

    further : Stands s.script s.part (done ++ e ∷ []) t.course
    further = stands_further s.script s.part done e l s.course t.course h.stands is actor (ap is_trigger call ∙ plain_call s.part.label s.course.memory (deadline s.moment (wait_of l)) l) f

    there : IsScriptIn b m (done ++ e ∷ behind) (record { script = s.script; part = s.part; moment = s.moment; course = t.course })
    there = record {
      among = h.among;
      here = h.here;
      stands = subst (λ (ys : List Entry). Stands s.script s.part ys t.course) (append_assoc done (e ∷ []) behind) (behind_turns s.script s.part (done ++ e ∷ []) behind t.course turns further);
      few = let lt = less s.part.lines s.course.done l is in omega (arith, lt, f.done);
      short = h.short;
      texts = h.texts;
      tried = λ l2 at. inl f.until;
    }

    with_names : (u : ScriptState) → u ≡ t → IsScriptIn b m (done ++ e ∷ behind) u → IsScriptIn b m (done ++ e ∷ behind) t
    with_names u is2 k = subst (λ (x : ScriptState). IsScriptIn b m (done ++ e ∷ behind) x) is2 k

-- where none was done
pub script_waits : (b : Begun) (m : ℕ) (done : List Entry) (s t : ScriptState) → SameScript s t → t.course.memory ≡ s.course.memory → t.course.done ≡ s.course.done
    → (t.course.until ≡ s.course.until) ⊎ ((l : ScriptLine) × (slice_get s.part.lines s.course.done ≡ Some l) × (t.course.until ≡ deadline s.moment (wait_of l))) → IsScriptIn b m done s → IsScriptIn b m done t
script_waits b m done s t same memory is until h = subst (λ (x : ScriptState). IsScriptIn b m done x) named there
  where
    named : record { script = s.script; part = s.part; moment = s.moment; course = t.course } ≡ t
    named = λ i. record { script = sym same.script i; part = sym same.part i; moment = sym same.moment i; course = t.course }

    one : (l k : ScriptLine) → slice_get s.part.lines s.course.done ≡ Some l → slice_get s.part.lines s.course.done ≡ Some k → l ≡ k
    one l k p q = some_same l k (sym p ∙ q)
      where
        some_same : (x y : ScriptLine) → Some x ≡ Some y → x ≡ y
        some_same x y e = cc

    tries : (l : ScriptLine) → slice_get s.part.lines t.course.done ≡ Some l → (t.course.until ≡ s.course.until) ⊎ ((k : ScriptLine) × (slice_get s.part.lines s.course.done ≡ Some k) × (t.course.until ≡ deadline s.moment (wait_of k))) → TriedSo s.moment l t.course.until
    tries l at (inl e) = subst (λ (o : Option ℕ). TriedSo s.moment l o) (sym e) (h.tried l (ap (slice_get s.part.lines) (sym is) ∙ at))
    tries l at (inr (k, there2, e)) = inr (e ∙ ap (λ (x : ScriptLine). deadline s.moment (wait_of x)) (one k l there2 (ap (slice_get s.part.lines) (sym is) ∙ at)))

    there : IsScriptIn b m done (record { script = s.script; part = s.part; moment = s.moment; course = t.course })
    there = record {
      among = h.among;
      here = h.here;
      stands = record { memory = memory ∙ h.stands.memory; done = is ∙ h.stands.done };
      few = subst (λ (n : ℕ). n ≤ length s.part.lines) (sym is) h.few;
      short = h.short;
      texts = h.texts;
      tried = λ l at. tries l at until;
    }
