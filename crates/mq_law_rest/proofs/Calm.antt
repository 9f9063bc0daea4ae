-- Where a list of lines has no conflict, and has all that these managers did, their story stands in a longer list that has none.
use Rattle.std.proofs.Common.{ℕ, zero, suc, ◌≡◌, ◌⊎◌, Bool, true, false, List, [], ◌∷◌, ◌++◌, refl, ap, sym, subst, ◌∙◌, inl, inr, append_assoc}
use Rattle.std.specs.Prelude.{◌&&◌, ◌||◌, ◌==◌, not, if◌then◌else◌, Option, Some, None, slice_get, take}
use Rattle.std.specs.Option.{option_map}
use Rattle.std.specs.List.{list_any}
use Rattle.std.specs.Str.{bytes_eq}
use Rattle.mq_base.specs.Members.{Mem}
use Rattle.mq_calls.specs.declared.agents.Note.TheVariants as notes
use Rattle.mq_calls.specs.declared.deltas.Did.{Did}
use Rattle.mq_calls.specs.declared.deltas.Did.TheVariants as did
use Rattle.mq_history.specs.declared.calls.Entry.{Entry}
use Rattle.mq_history.specs.declared.history.History.{History}
use Rattle.mq_history.specs.declared.scenario.Scenario.{Scenario}
use Rattle.mq_history.specs.declared.story.Conflict.{Conflict}
use Rattle.mq_calls.specs.State.{Plain}
use Rattle.mq_spec_node.specs.Replays.{opening_node}
use Rattle.mq_spec_network.specs.Conflict.{Deed, NoConflict, Told, agrees, commits, conflict, conflict_did, conflict_in, conflict_of, deeds, deeds_in, first_conflict, first_told, is_committed, is_past, or_else, told_after, told_by, was_last}
use Rattle.mq_spec_network.specs.Given.{surroundings}
use Rattle.mq_spec_network.specs.Promised.{Premises}
use Rattle.mq_spec_network.specs.Standing.{managers_from, opening_managers}
use Rattle.mq_spec_network.specs.Story.{IsStory, Line, entries_at, entries_or, part}
use Rattle.mq_spec_network.specs.Tasks.Slot.{Sends}
use Rattle.mq_spec_network.specs.Tasks.Task.{Pump}
use Rattle.mq_law_manager.proofs.Lists.{mem_append, mem_before, mem_behind}
use Rattle.mq_nodes.specs.Carried.{entries_until, history_until, until}
use Rattle.mq_law_node.proofs.Named.{bool_case, nat_self, nat_yes}
use Rattle.mq_law_ran.proofs.Lawfuls.{rise}
use Rattle.mq_law_rest.specs.Rests.{IsPeaceful}
use Rattle.mq_law_rest.specs.Until.{IsStep}
use Rattle.mq_law_rest.proofs.SoFar.{histories_of}
use Rattle.mq_law_rest.proofs.Steps.{Grew, entries_place, goes_grew, until_at}
use Rattle.mq_law_rest.proofs.Woven.{HasStory, has_story}

-- WHAT IS IN A LIST
abbrev Among : {A : Type 0} → List A → List A → Type 0
Among xs ys = (x : _) → Mem x xs → Mem x ys

-- what was done in a line
deed_there : (d : Deed) (x : Line) (p : List Line) → Mem x p → Mem d (deeds_in x.manager x.entry.effect.delta) → Mem d (deeds p)
deed_there d x [] m h = absurd m
deed_there d x (y ∷ p) (inl e) h = mem_before d (deeds_in y.manager y.entry.effect.delta) (deeds p) (subst (λ (z : Line). Mem d (deeds_in z.manager z.entry.effect.delta)) e h)
deed_there d x (y ∷ p) (inr m) h = mem_behind d (deeds_in y.manager y.entry.effect.delta) (deeds p) (deed_there d x p m h)

record LineOf (d : Deed) (p : List Line) : Type 0 where
  line : Line
  there : Mem line p
  does : Mem d (deeds_in line.manager line.entry.effect.delta)

line_of : (d : Deed) (p : List Line) → Mem d (deeds p) → LineOf d p
line_of d [] m = absurd m
line_of d (x ∷ p) m = elim (mem_append d (deeds_in x.manager x.entry.effect.delta) (deeds p) m) [
  | inl k ↦ record { line = x; there = inl refl; does = k }
  | inr k ↦ let r : LineOf d p = line_of d p k in record { line = r.line; there = inr r.there; does = r.does }
]

deeds_among : (p q : List Line) → Among p q → Among (deeds p) (deeds q)
deeds_among p q h d m = let r : LineOf d p = line_of d p m in deed_there d r.line q (h r.line r.there) r.does

pub deeds_both : (xs ys : List Line) → deeds (xs ++ ys) ≡ deeds xs ++ deeds ys
deeds_both [] ys = refl
deeds_both (x ∷ xs) ys = ap (λ (ds : List Deed). deeds_in x.manager x.entry.effect.delta ++ ds) (deeds_both xs ys) ∙ sym (append_assoc (deeds_in x.manager x.entry.effect.delta) (deeds xs) (deeds ys))

-- WHAT IS COMMITTED
any_there : (f : Deed → Bool) (d : Deed) (ds : List Deed) → Mem d ds → f d ≡ true → list_any f ds ≡ true
any_there f d [] m e = absurd m
any_there f d (x ∷ ds) (inl q) e = ap (λ (y : Deed). f y || list_any f ds) (sym q) ∙ ap (λ (b : Bool). b || list_any f ds) e
any_there f d (x ∷ ds) (inr m) e = ap (λ (b : Bool). f x || b) (any_there f d ds m e) ∙ or_true (f x)
  where
    or_true : (b : Bool) → (b || true) ≡ true
    or_true true = refl
    or_true false = refl

any_more : (f : Deed → Bool) (xs ys : List Deed) → Among xs ys → list_any f (xs ++ ys) ≡ list_any f ys
any_more f [] ys h = refl
any_more f (x ∷ xs) ys h = bool_case (f x) (λ b. f x ≡ b → (b || list_any f (xs ++ ys)) ≡ list_any f ys)
    (λ z on. sym (any_there f x ys (h x (inl refl)) on)) (λ z off. any_more f xs ys (λ d m. h d (inr m))) refl

-- A RECEIVER AS IT IS TOLD
-- what a deed does to it, whatever it was
abbrev Sets : List ℕ → Did → Type 0
Sets c d = (k : Told) × ((t : Told) → told_by c d t ≡ k)

abbrev Closes : List ℕ → Did → Type 0
Closes c d = (t : Told) → told_by c d t ≡ record t { closed = true }

abbrev Keeps : List ℕ → Did → Type 0
Keeps c d = (t : Told) → told_by c d t ≡ t

acts : (c : List ℕ) (d : Did) → Sets c d ⊎ (Closes c d ⊎ Keeps c d)
acts c (did.Hardened other (notes.Bound partner session last)) = bool_case (bytes_eq c other)
    (λ b. bytes_eq c other ≡ b → Sets c (did.Hardened other (notes.Bound partner session last)) ⊎ (Closes c (did.Hardened other (notes.Bound partner session last)) ⊎ Keeps c (did.Hardened other (notes.Bound partner session last))))
    (λ z on. inl (record { session = session; closed = false }, λ t. ap (λ (b : Bool). if b then record { session = session; closed = false } else t) on))
    (λ z off. inr (inr (λ t. ap (λ (b : Bool). if b then record { session = session; closed = false } else t) off))) refl
acts c (did.Hardened other (notes.Closed session)) = bool_case (bytes_eq c other)
    (λ b. bytes_eq c other ≡ b → Sets c (did.Hardened other (notes.Closed session)) ⊎ (Closes c (did.Hardened other (notes.Closed session)) ⊎ Keeps c (did.Hardened other (notes.Closed session))))
    (λ z on. inr (inl (λ t. ap (λ (b : Bool). if b then record t { closed = true } else t) on)))
    (λ z off. inr (inr (λ t. ap (λ (b : Bool). if b then record t { closed = true } else t) off))) refl
acts c _ = inr (inr (λ t. refl))

-- a deed that comes again leaves what it left, whatever came between
again : (c : List ℕ) (d e : Did) (t : Told) → told_by c d (told_by c e (told_by c d t)) ≡ told_by c d (told_by c e t)
again c d e t = by_first (acts c d)
  where
    both : Closes c d → Sets c e ⊎ (Closes c e ⊎ Keeps c e) → told_by c d (told_by c e (told_by c d t)) ≡ told_by c d (told_by c e t)
    both h (inl k) = ap (told_by c d) (k.1 (told_by c d t) ∙ sym (k.1 t))
    both h (inr (inl k)) = ap (told_by c d) (k (told_by c d t) ∙ ap (λ (x : Told). record x { closed = true }) (h t) ∙ sym (k t))
    both h (inr (inr k)) = ap (told_by c d) (k (told_by c d t) ∙ h t) ∙ h (record t { closed = true }) ∙ sym (h t) ∙ ap (told_by c d) (sym (k t))

    by_first : Sets c d ⊎ (Closes c d ⊎ Keeps c d) → told_by c d (told_by c e (told_by c d t)) ≡ told_by c d (told_by c e t)
    by_first (inl h) = h.1 (told_by c e (told_by c d t)) ∙ sym (h.1 (told_by c e t))
    by_first (inr (inl h)) = both h (acts c e)
    by_first (inr (inr h)) = ap (λ (x : Told). told_by c d (told_by c e x)) (h t)

once : (c : List ℕ) (d : Did) (t : Told) → told_by c d (told_by c d t) ≡ told_by c d t
once c d t = by_first (acts c d)
  where
    by_first : Sets c d ⊎ (Closes c d ⊎ Keeps c d) → told_by c d (told_by c d t) ≡ told_by c d t
    by_first (inl h) = h.1 (told_by c d t) ∙ sym (h.1 t)
    by_first (inr (inl h)) = h (told_by c d t) ∙ ap (λ (x : Told). record x { closed = true }) (h t) ∙ sym (h t)
    by_first (inr (inr h)) = h (told_by c d t)

told_twice : (c : List ℕ) (d : Deed) (ds : List Deed) (t : Told) → Mem d ds → told_after c ds (told_by c d.did t) ≡ told_after c ds t
told_twice c d [] t m = absurd m
told_twice c d (x ∷ ds) t (inl e) = ap (λ (y : Deed). told_after c ds (told_by c x.did (told_by c y.did t))) e ∙ ap (told_after c ds) (once c x.did t)
told_twice c d (x ∷ ds) t (inr m) =
    sym (told_twice c d ds (told_by c x.did (told_by c d.did t)) m) ∙ ap (told_after c ds) (again c d.did x.did t) ∙ told_twice c d ds (told_by c x.did t) m

told_more : (c : List ℕ) (xs ys : List Deed) (t : Told) → Among xs ys → told_after c (xs ++ ys) t ≡ told_after c ys t
told_more c [] ys t h = refl
told_more c (x ∷ xs) ys t h = told_more c xs ys (told_by c x.did t) (λ d m. h d (inr m)) ∙ told_twice c x ys t (h x (inl refl))

-- NO CONFLICT
committed_more : (s : Scenario) (ps : List Plain) (xs ys : List Deed) (c : List ℕ) (u : _) → Among xs ys → is_committed s ps (xs ++ ys) c u ≡ is_committed s ps ys c u
committed_more s ps xs ys c u h = ap (λ (b : Bool). was_last s ps c u || b) (any_more (λ (d : Deed). commits c u d.did) xs ys h)

agrees_more : (s : Scenario) (ps : List Plain) (xs ys : List Deed) (c : List ℕ) (u : _) (commit : Bool) → Among xs ys → agrees s ps (xs ++ ys) c u commit ≡ agrees s ps ys c u commit
agrees_more s ps xs ys c u true h = committed_more s ps xs ys c u h
agrees_more s ps xs ys c u false h = λ i. not (committed_more s ps xs ys c u h i) && is_past u (told_more c xs ys (first_told s c ps) h i)

conflict_more : (s : Scenario) (ps : List Plain) (xs ys : List Deed) (m : ℕ) (d : Did) → Among xs ys → conflict_did s ps (xs ++ ys) m d ≡ conflict_did s ps ys m d
conflict_more s ps xs ys m (did.Hardened c (notes.Resolved u commit true)) h = ap (conflict_of m c u) (agrees_more s ps xs ys c u commit h)
conflict_more s ps xs ys m _ h = refl

first_or : (a b : Option Conflict) → or_else a b ≡ None → (a ≡ None) × (b ≡ None)
first_or None b e = (refl, e)
first_or (Some x) b e = absurd (no e)
  where
    no : Some x ≡ None → ⊥
    no k = cc

none_each : (s : Scenario) (ps : List Plain) (whole ds : List Deed) → first_conflict s ps whole ds ≡ None → (d : Deed) → Mem d ds → conflict_in s ps whole d ≡ None
none_each s ps whole [] e d m = absurd m
none_each s ps whole (x ∷ ds) e d (inl q) = ap (conflict_in s ps whole) q ∙ (first_or (conflict_in s ps whole x) (first_conflict s ps whole ds) e).0
none_each s ps whole (x ∷ ds) e d (inr m) = none_each s ps whole ds (first_or (conflict_in s ps whole x) (first_conflict s ps whole ds) e).1 d m

each_none : (s : Scenario) (ps : List Plain) (whole ds : List Deed) → ((d : Deed) → Mem d ds → conflict_in s ps whole d ≡ None) → first_conflict s ps whole ds ≡ None
each_none s ps whole [] h = refl
each_none s ps whole (x ∷ ds) h = ap (λ (o : Option Conflict). or_else o (first_conflict s ps whole ds)) (h x (inl refl)) ∙ each_none s ps whole ds (λ d m. h d (inr m))

-- lines of such a list, in front of it, bring none
pub no_more : (s : Scenario) (hs : List History) (p q : List Line) → ((x : Line) → Mem x p → Mem x q) → NoConflict s hs q → NoConflict s hs (p ++ q)
no_more s hs p q h peace =
    let ps : List Plain = opening_managers s hs in
    let among : Among (deeds p) (deeds q) = deeds_among p q h in
    ap (λ (ds : List Deed). first_conflict s ps ds ds) (deeds_both p q) ∙ each_none s ps (deeds p ++ deeds q) (deeds p ++ deeds q) (λ d m.
    conflict_more s ps (deeds p) (deeds q) d.manager d.did among ∙ none_each s ps (deeds q) (deeds q) peace d (elim (mem_append d (deeds p) (deeds q) m) [ inl k ↦ among d k | inr k ↦ k ]))

-- THE STORY
pub record IsCalm (s : Scenario) (hs : List History) : Type 0 where
  pub story : List Line
  pub is : IsStory hs story
  pub wide : List Line
  pub later : List Deed
  pub peace : NoConflict s hs wide
  pub split : deeds wide ≡ deeds story ++ later

pub mem_of_part : (x : Line) (p : List Line) → Mem x p → Mem x.entry (part x.manager p)
mem_of_part x [] m = absurd m
mem_of_part x (y ∷ p) (inl e) = subst (λ (b : Bool). Mem x.entry (if b then y.entry ∷ part x.manager p else part x.manager p)) (sym (ap (λ (z : Line). x.manager == z.manager) (sym e) ∙ nat_self x.manager)) (inl (ap (λ (z : Line). z.entry) e))
mem_of_part x (y ∷ p) (inr m) = bool_case (x.manager == y.manager) (λ b. Mem x.entry (if b then y.entry ∷ part x.manager p else part x.manager p)) (λ z. inr (mem_of_part x p m)) (λ z. mem_of_part x p m)

pub calm_of : (s : Scenario) (hs : List History) → Premises s hs → IsPeaceful s hs → IsCalm s hs
calm_of s hs premises calm =
    let r : HasStory hs = has_story hs (rise s hs (histories_of s hs premises.lawful)) in record {
      story = r.story;
      is = r.is;
      wide = r.story ++ calm.lines;
      later = deeds calm.lines;
      peace = no_more s hs r.story calm.lines (λ x m. calm.all x (subst (λ (es : List Entry). Mem x.entry es) (r.is.parts x.manager) (mem_of_part x r.story m))) calm.peace;
      split = deeds_both r.story calm.lines;
    }

-- AT AN EARLIER STEP
managers_until : (s : Scenario) (i m : ℕ) (hs : List History) → managers_from s m [] (until i hs) ≡ managers_from s m [] hs
managers_until s i m [] = refl
managers_until s i m (h ∷ hs) = ap (λ (ps : List Plain). (opening_node (surroundings s m) h).manager ∷ ps) (managers_until s i (suc m) hs)

-- the conflicts of these lines are the same
conflicts_until : (s : Scenario) (hs : List History) (i : ℕ) (lines : List Line) → conflict s (until i hs) lines ≡ conflict s hs lines
conflicts_until s hs i lines = ap (λ (ps : List Plain). first_conflict s ps (deeds lines) (deeds lines)) (managers_until s i 0 hs)

pub peaceful_before : (s : Scenario) (hs : List History) (i n : ℕ) → IsStep s hs i n → IsPeaceful s (until (suc i) hs) → IsPeaceful s (until i hs)
peaceful_before s hs i n st h = record {
  lines = h.lines;
  all = λ x m.
      let g : Grew st.before st.after = goes_grew st.before (Pump n Sends 0 false ∷ []) st.goes in
      h.all x (subst (λ (es : List Entry). Mem x.entry es) (sym (g.has x.manager) ∙ sym (entries_place s hs (suc i) st.after st.next x.manager))
      (mem_before x.entry (st.before.done x.manager) (g.more x.manager) (subst (λ (es : List Entry). Mem x.entry es) (entries_place s hs i st.before st.place x.manager) m)));
  peace = conflicts_until s hs i h.lines ∙ sym (conflicts_until s hs (suc i) h.lines) ∙ h.peace;
}

-- A story without a conflict is that of each of its beginnings.
line_there : (x : Line) (p : List Line) → Mem x.entry (part x.manager p) → Mem x p
line_there x [] m = absurd m
line_there x (y ∷ p) m = bool_case (x.manager == y.manager) (λ b. (x.manager == y.manager) ≡ b → Mem x.entry (if b then y.entry ∷ part x.manager p else part x.manager p) → Mem x (y ∷ p))
    (λ z on n. elim n [ inl q ↦ inl (λ i. record { manager = nat_yes x.manager y.manager on i; entry = q i }) | inr j ↦ inr (line_there x p j) ])
    (λ z off n. inr (line_there x p n)) refl m

take_mem : (x : Entry) (n : ℕ) (es : List Entry) → Mem x (take n es) → Mem x es
take_mem x zero es m = absurd m
take_mem x (suc n) [] m = absurd m
take_mem x (suc n) (e ∷ es) (inl q) = inl q
take_mem x (suc n) (e ∷ es) (inr m) = inr (take_mem x n es m)

mem_until : (hs : List History) (i : ℕ) (x : Line) → Mem x.entry (entries_at (until i hs) x.manager) → Mem x.entry (entries_at hs x.manager)
mem_until hs i x m = at (slice_get hs x.manager) refl (subst (λ (o : Option History). Mem x.entry (entries_or o)) (until_at i hs x.manager) m)
  where
    at : (o : Option History) → slice_get hs x.manager ≡ o → Mem x.entry (entries_or (option_map (history_until i) (slice_get hs x.manager))) → Mem x.entry (entries_at hs x.manager)
    at None e k = absurd (subst (λ (o : Option History). Mem x.entry (entries_or (option_map (history_until i) o))) e k)
    at (Some h) e k = subst (λ (o : Option History). Mem x.entry (entries_or o)) (sym e)
        (take_mem x.entry (entries_until i h.marks) h.entries (subst (λ (o : Option History). Mem x.entry (entries_or (option_map (history_until i) o))) e k))

pub peaceful_until : (s : Scenario) (hs : List History) (i : ℕ) (story : List Line) → IsStory hs story → NoConflict s hs story → IsPeaceful s (until i hs)
peaceful_until s hs i story is peace = record {
  lines = story;
  all = λ x m. line_there x story (subst (λ (es : List Entry). Mem x.entry es) (sym (is.parts x.manager)) (mem_until hs i x m));
  peace = conflicts_until s hs i story ∙ peace;
}
