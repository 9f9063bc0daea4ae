-- Where logs belong together, each knew the incarnations of its manager's own idents.
use Rattle.std.proofs.Common.{ℕ, suc, ◌≡◌, ◌+◌, ◌-◌, ◌≤◌, false, List, [], ◌∷◌, refl, ap, sym, subst, ◌∙◌, inl, inr, arith, map}
use Rattle.std.proofs.lemmas.Bool.Decides.{nat_tests}
use Rattle.std.specs.Prelude.{None, Some, if◌then◌else◌, slice_get, nat_lt, All}
use Rattle.std.specs.Option.{option_map}
use Rattle.std.proofs.lemmas.List.Elements.{All-nil, All-cons}
use Rattle.mq_message.specs.declared.message.Message.{Message}
use Rattle.mq_queue.specs.declared.row.Row.{Row}
use Rattle.mq_history.specs.declared.history.History.{History}
use Rattle.mq_history.specs.declared.scenario.Scenario.{Scenario}
use Rattle.mq_calls.specs.State.{Plain}
use Rattle.mq_calls.specs.Reads.{stored, queue_in}
use Rattle.mq_calls.specs.Images.{numbered, queue_on}
use Rattle.mq_calls.specs.declared.image.Shelf.{Shelf}
use Rattle.mq_calls.specs.Recovery.{IsKnown}
use Rattle.mq_spec_manager.specs.Stops.{first_start}
use Rattle.mq_spec_network.specs.Given.{surroundings}
use Rattle.mq_spec_network.specs.Apart.{apart_of}
use Rattle.mq_spec_network.specs.Story.{Mem}
use Rattle.mq_spec_network.specs.Promised.{AreImages}
use Rattle.mq_spec_network.specs.Standing.{node_after, opening_managers}
use Rattle.mq_law_story.proofs.from_law_rows.Lists.{name_self, mem_map}
use Rattle.mq_law_story.specs.from_law_seen.Opening.{AreNamed}
use Rattle.mq_law_story.proofs.from_law_seen.Bridges.{name_back}
use Rattle.mq_law_story.proofs.from_law_seen.Images.{shelves_named}
use Rattle.mq_law_story.proofs.from_law_seen.Openings.{openings_known}
use Rattle.mq_law_story.proofs.Weaving.{manager_at}
use Rattle.mq_law_story.proofs.Beginning.{managers_open}

all_from : {A : Type 0} (P : A → Type 0) (xs : List A) → ((x : A) → Mem x xs → P x) → All P xs
all_from P [] f = All-nil P
all_from P (x ∷ xs) f = All-cons P x xs (f x (inl refl)) (all_from P xs (λ y n. f y (inr n)))

numbered_has : (n : ℕ) (rows : List Row) (x : Row) → Mem x rows → (h : Row) × Mem h (numbered n rows) × (h.message ≡ x.message)
numbered_has n [] x k = absurd k
numbered_has n (row ∷ rows) x (inl e) = (record row { place = record row.place { arrival = n + 1 } }, inl refl, ap (λ (r : Row). r.message) (sym e))
numbered_has n (row ∷ rows) x (inr k) = let r = numbered_has (n + 1) rows x k in (r.0, inr r.1, r.2)

shelf_rows : (ss : List Shelf) (s : Shelf) → AreNamed (map queue_on ss) → Mem s ss → (queue_in s.name (map queue_on ss)).rows ≡ numbered 0 s.rows
shelf_rows [] s c n = absurd n
shelf_rows (t ∷ ss) s c (inl e) = subst (λ (z : Shelf). (queue_in z.name (map queue_on (t ∷ ss))).rows ≡ numbered 0 z.rows) (sym e)
    (ap (λ b. (if b then queue_on t else queue_in t.name (map queue_on ss)).rows) (name_self t.name))
shelf_rows (t ∷ ss) s c (inr n) =
    ap (λ b. (if b then queue_on t else queue_in s.name (map queue_on ss)).rows) (name_back s.name t.name ∙ c.0 (queue_on s) (mem_map queue_on s ss n))
    ∙ shelf_rows ss s c.1 n

abbrev pub Upto : ℕ → ℕ → Row → Type 0
Upto m n row = IsKnown (m + 1) n row.message.ident

pub known_own : (s : Scenario) (hs : List History) (m : ℕ) (h : History) → slice_get hs m ≡ Some h → AreImages hs → apart_of s (opening_managers s hs) ≡ None
    → All (λ (f : Shelf). All (Upto m h.opening.incarnation) f.rows) h.opening.shelves
known_own s hs m h is images together =
    let p : Plain = first_start (surroundings s m).given h.opening h.length h.moment in
    let at : slice_get (opening_managers s hs) m ≡ Some p = manager_at s [] hs m ∙ ap (option_map (λ (h : History). (node_after s m [] h).manager)) is in
    let upto : (f : Shelf) → Mem f h.opening.shelves → (x : Row) → Mem x f.rows → Upto m h.opening.incarnation x = λ f g x n own.
    let r = numbered_has 0 f.rows x n in
    let there : Mem r.0 (stored f.name p).rows = subst (λ (rows : List Row). Mem r.0 rows) (sym (shelf_rows h.opening.shelves f (shelves_named h.opening.shelves (images m h is).named) g)) r.1 in
    subst (λ (z : Message). z.ident.incarnation ≤ h.opening.incarnation) r.2
    (up_to h.opening.incarnation r.0.message.ident.incarnation
    (openings_known s (opening_managers s hs) (managers_open s hs images) together m m p p f.name r.0 at at there (ap (λ (z : Message). z.ident.manager) r.2 ∙ own ∙ next m))) in
    all_from (λ (f : Shelf). All (Upto m h.opening.incarnation) f.rows) h.opening.shelves (λ f g. all_from (Upto m h.opening.incarnation) f.rows (λ x n. upto f g x n))
  where
    next : (m : ℕ) → m + 1 ≡ suc m
    next m = omega arith

    up_to : (a b : ℕ) → nat_lt (((a + 0) + 1) - 1) b ≡ false → b ≤ a
    up_to a b e = grind (arith, nat_tests)
