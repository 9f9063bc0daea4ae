-- Histories whose stamps rise have a story.
use Rattle.std.proofs.Common.{ℕ, zero, suc, ◌≡◌, ◌≤◌, ◌<◌, ◌⊎◌, Bool, true, false, List, [], ◌∷◌, length, refl, ap, sym, subst, ◌∙◌, inl, inr, arith}
use Rattle.std.specs.Prelude.{◌==◌, if◌then◌else◌}
use Rattle.std.proofs.lemmas.Option.{slice_get_past}
use Rattle.mq_base.specs.Members.{Chain, Mem}
use Rattle.mq_history.specs.declared.calls.Entry.{Entry}
use Rattle.mq_history.specs.declared.history.History.{History}
use Rattle.mq_spec_network.specs.Story.{Earlier, IsStory, Line, Ranked, entries_at, entries_or, part}
use Rattle.mq_law_node.proofs.Named.{bool_case, nat_self, nat_yes}

-- the stamps of each history rise
abbrev Sooner : Entry → Entry → Type 0
Sooner a b = a.stamp < b.stamp

abbrev AreRising : List History → Type 0
AreRising hs = (m : ℕ) → Chain Sooner (entries_at hs m)

-- AN ORDER
abbrev Order : ℕ → ℕ → Type 0
Order a b = (a < b) ⊎ ((a ≡ b) ⊎ (b < a))

order : (a b : ℕ) → Order a b
order zero zero = inr (inl refl)
order zero (suc b) = inl (omega arith)
order (suc a) zero = inr (inr (omega arith))
order (suc a) (suc b) = next (order a b)
  where
    next : Order a b → Order (suc a) (suc b)
    next (inl h) = inl (omega (arith, h))
    next (inr (inl h)) = inr (inl (ap suc h))
    next (inr (inr h)) = inr (inr (omega (arith, h)))

-- a line is earlier than another one, or later, or of the same manager and moment
abbrev Ordered : Line → Line → Type 0
Ordered x y = Earlier x y ⊎ (Earlier y x ⊎ ((x.entry.stamp ≡ y.entry.stamp) × (x.manager ≡ y.manager)))

ordered : (x y : Line) → Ordered x y
ordered x y = by_stamp (order x.entry.stamp y.entry.stamp)
  where
    by_manager : x.entry.stamp ≡ y.entry.stamp → Order x.manager y.manager → Ordered x y
    by_manager e (inl h) = inl (inr (e, h))
    by_manager e (inr (inl h)) = inr (inr (e, h))
    by_manager e (inr (inr h)) = inr (inl (inr (sym e, h)))

    by_stamp : Order x.entry.stamp y.entry.stamp → Ordered x y
    by_stamp (inl h) = inl (inl h)
    by_stamp (inr (inl e)) = by_manager e (order x.manager y.manager)
    by_stamp (inr (inr h)) = inr (inl (inl h))

earlier_still : (x y z : Line) → Earlier x y → Earlier y z → Earlier x z
earlier_still x y z (inl a) (inl b) = inl (omega (arith, a, b))
earlier_still x y z (inl a) (inr b) = inl (omega (arith, a, b.0))
earlier_still x y z (inr a) (inl b) = inl (omega (arith, a.0, b))
earlier_still x y z (inr a) (inr b) = inr (omega (arith, a.0, b.0), omega (arith, a.1, b.1))

-- one manager's lines come by their stamps
never_later : (x y : Line) → x.entry.stamp < y.entry.stamp → Earlier y x → ⊥
never_later x y h (inl k) = omega (arith, h, k)
never_later x y h (inr k) = omega (arith, h, k.0)

-- ONE LINE MORE
record Added (x : Line) (s : List Line) : Type 0 where
  story : List Line
  ranked : Ranked story
  only : (y : Line) → Mem y story → (y ≡ x) ⊎ Mem y s
  others : (m : ℕ) → (m == x.manager) ≡ false → part m story ≡ part m s
  own : part x.manager story ≡ x.entry ∷ part x.manager s

part_own : (x : Line) (s : List Line) → part x.manager (x ∷ s) ≡ x.entry ∷ part x.manager s
part_own x s = ap (λ (b : Bool). if b then x.entry ∷ part x.manager s else part x.manager s) (nat_self x.manager)

part_other : (m : ℕ) (x : Line) (s : List Line) → (m == x.manager) ≡ false → part m (x ∷ s) ≡ part m s
part_other m x s e = ap (λ (b : Bool). if b then x.entry ∷ part m s else part m s) e

part_behind : (m : ℕ) (y : Line) (s t : List Line) → part m s ≡ part m t → part m (y ∷ s) ≡ part m (y ∷ t)
part_behind m y s t e = ap (λ (es : List Entry). if m == y.manager then y.entry ∷ es else es) e

adds : (x : Line) (s : List Line) → Ranked s → ((y : Line) → Mem y s → x.manager ≡ y.manager → x.entry.stamp < y.entry.stamp) → Added x s
adds x [] ranked later = record {
  story = x ∷ [];
  ranked = (λ y m. absurd m, tt);
  only = λ y m. elim m [ inl e ↦ inl e | inr n ↦ absurd n ];
  others = λ m e. part_other m x [] e;
  own = part_own x [];
}
adds x (y ∷ s) ranked later = at (adds x s ranked.1 (λ z m. later z (inr m))) (ordered x y)
  where
    first : Earlier x y → Added x (y ∷ s)
    first h = record {
      story = x ∷ y ∷ s;
      ranked = (λ z m. elim m [ inl e ↦ subst (Earlier x) (sym e) h | inr n ↦ earlier_still x y z h (ranked.0 z n) ], ranked);
      only = λ z m. m;
      others = λ m e. part_other m x (y ∷ s) e;
      own = part_own x (y ∷ s);
    }

    behind : Added x s → Earlier y x → Added x (y ∷ s)
    behind r h =
        let apart : (x.manager == y.manager) ≡ false = bool_case (x.manager == y.manager) (λ b. (x.manager == y.manager) ≡ b → b ≡ false) (λ z on. absurd (never_later x y (later y (inl refl) (nat_yes x.manager y.manager on)) h)) (λ z off. refl) refl in record {
          story = y ∷ r.story;
          ranked = (λ z m. elim (r.only z m) [ inl e ↦ subst (Earlier y) (sym e) h | inr n ↦ ranked.0 z n ], r.ranked);
          only = λ z m. elim m [ inl e ↦ inr (inl e) | inr n ↦ elim (r.only z n) [ inl e ↦ inl e | inr k ↦ inr (inr k) ] ];
          others = λ m e. part_behind m y r.story s (r.others m e);
          own = part_other x.manager y r.story apart ∙ r.own ∙ ap (λ (es : List Entry). x.entry ∷ es) (sym (part_other x.manager y s apart));
        }

    same : x.entry.stamp ≡ y.entry.stamp → x.manager ≡ y.manager → Added x (y ∷ s)
    same e f = let less = later y (inl refl) f in absurd (omega (arith, less, e))

    at : Added x s → Ordered x y → Added x (y ∷ s)
    at r (inl h) = first h
    at r (inr (inl h)) = behind r h
    at r (inr (inr h)) = same h.0 h.1

-- ONE MANAGER'S LINES MORE
record Poured (m : ℕ) (es : List Entry) (s : List Line) : Type 0 where
  story : List Line
  ranked : Ranked story
  only : (y : Line) → Mem y story → ((y.manager ≡ m) × Mem y.entry es) ⊎ Mem y s
  others : (n : ℕ) → (n == m) ≡ false → part n story ≡ part n s
  own : part m story ≡ es

none_of : (m : ℕ) (s : List Line) → ((y : Line) → Mem y s → y.manager ≡ m → ⊥) → part m s ≡ []
none_of m [] h = refl
none_of m (y ∷ s) h = bool_case (m == y.manager) (λ b. (m == y.manager) ≡ b → (if b then y.entry ∷ part m s else part m s) ≡ [])
    (λ z on. absurd (h y (inl refl) (sym (nat_yes m y.manager on)))) (λ z off. none_of m s (λ x n. h x (inr n))) refl

pours : (m : ℕ) (es : List Entry) (s : List Line) → Chain Sooner es → Ranked s → ((y : Line) → Mem y s → y.manager ≡ m → ⊥) → Poured m es s
pours m [] s rises ranked none = record { story = s; ranked = ranked; only = λ y n. inr n; others = λ n e. refl; own = none_of m s none }
pours m (e ∷ es) s rises ranked none =
    let r : Poured m es s = pours m es s rises.1 ranked none in
    let x : Line = record { manager = m; entry = e } in
    let a : Added x r.story = adds x r.story r.ranked (λ y n same. elim (r.only y n) [ inl k ↦ rises.0 y.entry k.1 | inr k ↦ absurd (none y k (sym same)) ]) in record {
      story = a.story;
      ranked = a.ranked;
      only = λ y n. elim (a.only y n) [
        | inl k ↦ inl (ap (λ (l : Line). l.manager) k, inl (ap (λ (l : Line). l.entry) k))
        | inr k ↦ elim (r.only y k) [ inl j ↦ inl (j.0, inr j.1) | inr j ↦ inr j ]
      ];
      others = λ n off. a.others n off ∙ r.others n off;
      own = a.own ∙ ap (λ (xs : List Entry). e ∷ xs) r.own;
    }

-- THE FIRST MANAGERS' STORY
record Woven (hs : List History) (k : ℕ) : Type 0 where
  story : List Line
  ranked : Ranked story
  only : (y : Line) → Mem y story → y.manager < k
  parts : (m : ℕ) → m < k → part m story ≡ entries_at hs m

weaves : (hs : List History) (k : ℕ) → AreRising hs → Woven hs k
weaves hs zero rises = record { story = []; ranked = tt; only = λ y n. absurd n; parts = λ m less. absurd (omega (arith, less)) }
weaves hs (suc k) rises =
    let w : Woven hs k = weaves hs k rises in
    let r : Poured k (entries_at hs k) w.story = pours k (entries_at hs k) w.story (rises k) w.ranked (λ y n same. let less = w.only y n in omega (arith, less, same)) in record {
      story = r.story;
      ranked = r.ranked;
      only = λ y n. elim (r.only y n) [ inl j ↦ omega (arith, j.0) | inr j ↦ let less = w.only y j in omega (arith, less) ];
      parts = λ m less. bool_case (m == k) (λ b. (m == k) ≡ b → part m r.story ≡ entries_at hs m)
          (λ z on. subst (λ (n : ℕ). part n r.story ≡ entries_at hs n) (sym (nat_yes m k on)) r.own)
          (λ z off. r.others m off ∙ w.parts m (below m k (omega (arith, less)) off)) refl;
    }
  where
    other : (m k : ℕ) → m ≡ k → (m == k) ≡ false → ⊥
    other m k e off = no (sym (nat_self k) ∙ ap (λ (n : ℕ). n == k) (sym e) ∙ off)
      where
        no : true ≡ false → ⊥
        no q = cc

    below : (m k : ℕ) → m ≤ k → (m == k) ≡ false → m < k
    below m k le off = elim (order m k) [ inl less ↦ less | inr h ↦ elim h [ inl e ↦ absurd (other m k e off) | inr more ↦ absurd (omega (arith, le, more)) ] ]

pub record HasStory (hs : List History) : Type 0 where
  pub story : List Line
  pub is : IsStory hs story

pub has_story : (hs : List History) → AreRising hs → HasStory hs
has_story hs rises =
    let w : Woven hs (length hs) = weaves hs (length hs) rises in record {
      story = w.story;
      is = record {
        ranked = w.ranked;
        parts = λ m. elim (order m (length hs)) [
          | inl less ↦ w.parts m less
          | inr h ↦ none_of m w.story (λ y n same. let less = w.only y n in elim h [ inl e ↦ omega (arith, less, same, e) | inr more ↦ omega (arith, less, same, more) ]) ∙ sym (ap entries_or (slice_get_past hs m (elim h [ inl e ↦ omega (arith, e) | inr more ↦ omega (arith, more) ])))
        ];
      };
    }
