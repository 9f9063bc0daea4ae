-- The row that has an ident, as the queues of a manager find it.
use Rattle.std.proofs.Common.{◌≡◌, ℕ, Bool, true, false, List, [], ◌∷◌, refl, ap, sym, ◌∙◌}
use Rattle.std.specs.Prelude.{Option, Some, None, find, option_map, if◌then◌else◌}
use Rattle.std.specs.Str.{bytes_eq}
use Rattle.mq_calls.specs.Words.{Ident, Message, Row, Plain, has_ident}
use Rattle.mq_spec_manager.specs.Agents.{RowAt, Standing, row_found, row_of, standing_by, standing_at}
use Rattle.mq_core.specs.from_place.States.{QueueState, Located, queues_of, state_in, row_at, IsUnnamed, AreApart}
use Rattle.mq_core.specs.from_place.States.{row_found as place_found}
use Rattle.mq_core.specs.Views.{PartsValue, plain_of}
use Rattle.mq_law_manager.proofs.Named.{name_is, name_self}

abbrev name_of : Located → List ℕ
name_of l = l.name

abbrev seen_at : Located → RowAt
seen_at l = record { queue = l.name; row = l.row }

row_both : (i : Ident) (ss : List QueueState) → row_of i (queues_of ss) ≡ option_map seen_at (row_at i ss)
row_both i [] = refl
row_both i (s ∷ ss) = by (find (has_ident i) s.queue.rows) (row_both i ss)
  where
    by : (o : Option Row) → row_of i (queues_of ss) ≡ option_map seen_at (row_at i ss) → row_found o s.queue.name (row_of i (queues_of ss)) ≡ option_map seen_at (place_found o s.queue.name (row_at i ss))
    by None rest = rest
    by (Some row) rest = refl

unnamed_none : (name : List ℕ) (ss : List QueueState) → IsUnnamed name ss → state_in name ss ≡ None
unnamed_none name [] h = refl
unnamed_none name (s ∷ ss) h = ap (λ (b : Bool). if b then Some s else state_in name ss) h.0 ∙ unnamed_none name ss h.1

abbrev or_located : Located → Option Located → Located
or_located d None = d
or_located d (Some l) = l

other_by : (name : List ℕ) (s : QueueState) (ss : List QueueState) (t : QueueState) (b : Bool) → bytes_eq name s.queue.name ≡ b → IsUnnamed s.queue.name ss → state_in name ss ≡ Some t → (if b then Some s else state_in name ss) ≡ state_in name ss
other_by name s ss t true z h there = absurd (cc (ap (λ (n : List ℕ). state_in n ss) (sym (name_is name s.queue.name z)) ∙ there, unnamed_none s.queue.name ss h))
other_by name s ss t false z h there = refl

other_state : (name : List ℕ) (s : QueueState) (ss : List QueueState) (t : QueueState) → IsUnnamed s.queue.name ss → state_in name ss ≡ Some t → state_in name (s ∷ ss) ≡ state_in name ss
other_state name s ss t h there = other_by name s ss t (bytes_eq name s.queue.name) refl h there

-- the state that has the row is the one of its name
state_of_row : (i : Ident) (ss : List QueueState) (l : Located) → AreApart ss → row_at i ss ≡ Some l → (s : QueueState) × (state_in l.name ss ≡ Some s) × (find (has_ident i) s.queue.rows ≡ Some l.row)
state_of_row i [] l apart e = absurd cc
state_of_row i (s ∷ ss) l apart e = by (λ f. state_of_row i ss l apart.1 f) (find (has_ident i) s.queue.rows) refl e
  where
    by : (row_at i ss ≡ Some l → (t : QueueState) × (state_in l.name ss ≡ Some t) × (find (has_ident i) t.queue.rows ≡ Some l.row)) → (o : Option Row) → find (has_ident i) s.queue.rows ≡ o → place_found o s.queue.name (row_at i ss) ≡ Some l → (t : QueueState) × (state_in l.name (s ∷ ss) ≡ Some t) × (find (has_ident i) t.queue.rows ≡ Some l.row)
    by rest (Some row) w f =
        let name : s.queue.name ≡ l.name = ap (λ (o : Option Located). (or_located l o).name) f in
        let is : row ≡ l.row = ap (λ (o : Option Located). (or_located l o).row) f in
        (s, ap (λ (b : Bool). if b then Some s else state_in l.name ss) (ap (λ (n : List ℕ). bytes_eq n s.queue.name) (sym name) ∙ name_self s.queue.name), w ∙ ap (λ (r : Row). Some r) is)
    by rest None w f =
        let t = rest f in
        (t.0, other_state l.name s ss t.0 apart.0 t.1 ∙ t.1, t.2)

unmapped : (o : Option Located) → None ≡ option_map name_of o → o ≡ None
unmapped None e = refl
unmapped (Some l) e = absurd cc

abbrev or_name : List ℕ → Option (List ℕ) → List ℕ
or_name d None = d
or_name d (Some name) = name

mapped : (name : List ℕ) (o : Option Located) → Some name ≡ option_map name_of o → (l : Located) × (o ≡ Some l) × (l.name ≡ name)
mapped name None e = absurd cc
mapped name (Some l) e = (l, refl, sym (ap (or_name name) e))

standing_of_row : Message → Plain → Option RowAt → Standing
standing_of_row m p o = standing_by m o p

pub stands_apart : (m : Message) (x : PartsValue) → None ≡ option_map (λ (l : Located). l.name) (row_at m.ident x.queues.states) → standing_by m None (plain_of x) ≡ standing_at m (plain_of x)
unfolding standing_of_row
stands_apart m x e = sym (ap (standing_of_row m (plain_of x)) (row_both m.ident x.queues.states ∙ ap (option_map seen_at) (unmapped (row_at m.ident x.queues.states) e)))

pub no_state : (i : Ident) (name : List ℕ) (ss : List QueueState) → AreApart ss → Some name ≡ option_map (λ (l : Located). l.name) (row_at i ss) → state_in name ss ≡ None → ⊥
no_state i name ss apart e none =
    let l = mapped name (row_at i ss) e in
    let s = state_of_row i ss l.0 apart l.1 in
    cc (ap (λ (n : List ℕ). state_in n ss) (sym l.2) ∙ s.1, none)

abbrev or_state : QueueState → Option QueueState → QueueState
or_state d None = d
or_state d (Some s) = s

same_state : (a b : QueueState) → Some a ≡ Some b → a ≡ b
same_state a b e = ap (or_state a) e

pub row_here : (i : Ident) (name : List ℕ) (ss : List QueueState) (s : QueueState) → AreApart ss → Some name ≡ option_map (λ (l : Located). l.name) (row_at i ss) → state_in name ss ≡ Some s
    → (l : Located) × (row_at i ss ≡ Some l) × (l.name ≡ name) × (find (has_ident i) s.queue.rows ≡ Some l.row)
row_here i name ss s apart e is =
    let l = mapped name (row_at i ss) e in
    let t = state_of_row i ss l.0 apart l.1 in
    let same : t.0 ≡ s = same_state t.0 s (sym (ap (λ (n : List ℕ). state_in n ss) (sym l.2) ∙ t.1) ∙ is) in
    (l.0, l.1, l.2, ap (λ (s : QueueState). find (has_ident i) s.queue.rows) (sym same) ∙ t.2)

pub no_row : (i : Ident) (name : List ℕ) (ss : List QueueState) (s : QueueState) → AreApart ss → Some name ≡ option_map (λ (l : Located). l.name) (row_at i ss) → state_in name ss ≡ Some s → find (has_ident i) s.queue.rows ≡ None → ⊥
no_row i name ss s apart e is none = let l = row_here i name ss s apart e is in cc (l.3, none)

abbrev or_row : Row → Option Row → Row
or_row d None = d
or_row d (Some r) = r

same_row : (a b : Row) → Some a ≡ Some b → a ≡ b
same_row a b e = ap (or_row a) e

in_row : List ℕ → Row → Message → Plain → Standing
in_row name row m p = standing_by m (Some (record { queue = name; row = row })) p

pub stands_in_row : (m : Message) (x : PartsValue) (name : List ℕ) (s : QueueState) (row : Row) → AreApart x.queues.states → Some name ≡ option_map (λ (l : Located). l.name) (row_at m.ident x.queues.states) → state_in name x.queues.states ≡ Some s
    → find (has_ident m.ident) s.queue.rows ≡ Some row → standing_by m (Some (record { queue = name; row = row })) (plain_of x) ≡ standing_at m (plain_of x)
unfolding standing_of_row in_row
stands_in_row m x name s row apart e is found =
    let l = row_here m.ident name x.queues.states s apart e is in
    let same : l.0.row ≡ row = same_row l.0.row row (sym l.3 ∙ found) in
    (λ i. in_row (sym l.2 i) (sym same i) m (plain_of x))
    ∙ sym (ap (standing_of_row m (plain_of x)) (row_both m.ident x.queues.states ∙ ap (option_map seen_at) l.1))
