-- Trigger turns one after the other, behind an event.
use Rattle.std.proofs.Common.{◌≡◌, ℕ, ◌+◌, ◌-◌, ◌<◌, refl, ap, sym, subst, ◌∙◌, List, [], ◌∷◌, ◌++◌, length, ◌^◌, Bool, true, false, ◌||◌, nat_le, inl, inr, arith}
use Rattle.std.proofs.lemmas.Bool.Decides.{nat_tests}
use Rattle.std.proofs.lemmas.List.{append_assoc}
use Rattle.std.specs.Prelude.{Ok, Err}
use Rattle.mq_base.specs.declared.want.NoMemory.{NoMemory}
use Rattle.mq_spec_node.specs.Terms.{Actor, Call, Entry, History}
use Rattle.mq_spec_node.specs.Words.{Grows, NodeValue, more_entries, is_spent}
use Rattle.mq_events.specs.States.{NodeState, value_of}
use Rattle.mq_events.specs.Events.{Stays, ServesOne}
use Rattle.mq_acts.specs.Asks.{Made}
use Rattle.mq_acts.specs.Serving.{AreTurns, IsDone, Played, Plays, Serves}

turns_more : (xs ys : List Entry) → AreTurns xs → AreTurns ys → AreTurns (xs ++ ys)
turns_more [] ys a b = b
turns_more (x ∷ xs) ys a b = (a.0, turns_more xs ys a.1 b)

pub grows_more : (a b c : NodeValue) (xs ys : List Entry) → Grows a xs b → Grows b ys c → Grows a (xs ++ ys) c
grows_more a b c xs ys g h = record {
  given = h.given ∙ g.given;
  history = h.history ∙ ap (more_entries ys) g.history ∙ ap (λ (es : List Entry). record a.history { entries = es }) (append_assoc a.history.entries xs ys);
}

pub serves_none : (s : NodeState) → Serves s s
serves_none s = record { turns = []; are = tt; grows = record { given = refl; history = ap (λ (es : List Entry). record s.history { entries = es }) (sym (append_none s.history.entries)) }; marks = refl; faults = omega arith }
  where
    append_none : (es : List Entry) → es ++ [] ≡ es
    append_none [] = refl
    append_none (x ∷ es) = ap (λ (l : List Entry). x ∷ l) (append_none es)

pub serves_more : (a b c : NodeState) → Serves a b → ServesOne b (Ok true) c → Serves a c
serves_more a b c s o = record {
  turns = s.turns ++ o.1 ∷ [];
  are = turns_more s.turns (o.1 ∷ []) s.are (o.2.call, tt);
  grows = grows_more (value_of a) (value_of b) (value_of c) s.turns (o.1 ∷ []) s.grows o.2.grows;
  marks = o.2.marks ∙ s.marks;
  faults = omega (arith, s.faults, o.2.faults);
}

pub serves_still : (a b c : NodeState) → Serves a b → Stays b c → Serves a c
serves_still a b c s k = record {
  turns = s.turns;
  are = s.are;
  grows = let G : NodeValue → Type 0 = λ v. Grows (value_of a) s.turns v in subst G (sym k.same) s.grows;
  marks = k.marks ∙ s.marks;
  faults = omega (arith, s.faults, k.faults);
}

-- Each turn counts for the end of the loop.
long_more : (xs : List Entry) (e : Entry) → length (xs ++ e ∷ []) ≡ length xs + 1
long_more [] e = refl
long_more (x ∷ xs) e = let h = long_more xs e in omega (arith, h)

no_first : (a b : Bool) → (a || b) ≡ false → a ≡ false
no_first true b h = h
no_first false b h = refl

few : (n m : ℕ) → nat_le n m ≡ false → m < n
few n m h = grind (arith, nat_tests)

pub turn_counts : (a b : NodeState) → is_spent (value_of a) ≡ false → ServesOne a (Ok true) b → (2 ^ 48 - length b.history.entries) < (2 ^ 48 - length a.history.entries)
turn_counts a b may o =
    let more : length b.history.entries ≡ length a.history.entries + 1 = ap (λ (h : History). length h.entries) o.2.grows.history ∙ long_more a.history.entries o.1 in
    let room : length a.history.entries < 2 ^ 48 = few (2 ^ 48) (length a.history.entries) (no_first (nat_le (2 ^ 48) (length a.history.entries)) (nat_le (2 ^ 60) a.stamp) may) in
    omega (arith, more, room)

plays : (who : Actor) (what : Call) (s t u : NodeState) → Made who what s t → Serves t u → Plays who what s u
plays who what s t u m v = record {
  entry = m.entry;
  behind = v.turns;
  actor = m.adds.actor;
  call = m.adds.call;
  turns = v.are;
  grows = grows_more (value_of s) (value_of t) (value_of u) (m.entry ∷ []) v.turns m.adds.grows v.grows;
  marks = v.marks ∙ m.adds.marks;
  faults = omega (arith, m.adds.faults, v.faults);
}

pub played_all : (who : Actor) (what : Call) (s t u : NodeState) → Made who what s t → Serves t u → IsDone u → Played who what s (Ok true) u
played_all who what s t u m v done = (plays who what s t u m v, done)

pub played_some : (who : Actor) (what : Call) (s t u : NodeState) (x : NoMemory) → Made who what s t → Serves t u → Played who what s (Err x) u
played_some who what s t u x m v = inr (plays who what s t u m v)

pub played_none : (who : Actor) (what : Call) (s t : NodeState) (x : NoMemory) → Stays s t → Played who what s (Err x) t
played_none who what s t x k = inl k
