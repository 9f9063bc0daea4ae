-- Queues that are built shelf by shelf are those that the image tells.
use Rattle.std.proofs.Common.{◌≡◌, ℕ, ◌+◌, ◌≤◌, false, List, [], ◌∷◌, ◌++◌, refl, ap, arith, sym, subst, ◌∙◌, append_assoc, append-nil}
use Rattle.std.specs.Prelude.{Option, Some, None, map, All, AllPairs, slice_index_or}
use Rattle.std.specs.List.{AllByRecursion}
use Rattle.std.specs.Str.{bytes_eq}
use Rattle.std.proofs.lemmas.List.Elements.{recursion_from_All}
use Rattle.mq_message.specs.declared.message.Message.{Message}
use Rattle.mq_queue.specs.declared.row.Row.{Row}
use Rattle.mq_queue.specs.Rows.{same_ident}
use Rattle.mq_queue.specs.Queues.{Lacks, lane_of as queue_lane}
use Rattle.mq_objects.specs.declared.object.LocalQueue.{LocalQueue}
use Rattle.mq_objects.specs.declared.object.Definitions.{Definitions}
use Rattle.mq_objects.specs.Names.{local_of}
use Rattle.mq_calls.specs.Changes.{lane_of}
use Rattle.mq_calls.specs.Images.{numbered}
use Rattle.mq_calls.specs.declared.image.Shelf.{Shelf}
use Rattle.mq_calls.specs.Recovery.{AreApart}
use Rattle.mq_place.specs.States.{QueueState, IsNowhere}
use Rattle.mq_rebuild.specs.Rebuilt.{is_laned, state_on, shelf_added, shelves_added, CanAddShelves, IsRead}
use Rattle.mq_rebuild.proofs.FrontLaws.{Fronts, fronts}
use Rattle.mq_rebuild.proofs.RowLaws.{other_way, AreOther, none_in, IsLaned, IsBehind, rows_laid, rows_can}

-- ---- shelves beside those in front of them

abbrev IsBeside : Shelf → Shelf → Type 0
IsBeside t s = (bytes_eq t.name s.name ≡ false) × AreApart t s

others : (d : Definitions) (s : Shelf) (done : List Shelf) → AllByRecursion (λ (t : Shelf). IsBeside t s) done → AreOther s.name (map (state_on d) done)
others d s [] h = tt
others d s (t ∷ ts) h = (other_way t.name s.name h.0.0, others d s ts h.1)

lacks_numbered : (row : Row) (k : ℕ) (rows : List Row) → Lacks row.message.ident rows → Lacks row.message.ident (numbered k rows)
lacks_numbered row k [] h = tt
lacks_numbered row k (x ∷ xs) h = (h.0, lacks_numbered row (k + 1) xs h.1)

both : {A : Type 0} (P Q R : A → Type 0) → ((x : A) → P x → Q x → R x) → (xs : List A) → AllByRecursion P xs → AllByRecursion Q xs → AllByRecursion R xs
both P Q R f [] p q = tt
both P Q R f (x ∷ xs) p q = (f x p.0 q.0, both P Q R f xs p.1 q.1)

every : {A : Type 0} (P : A → Type 0) → ((x : A) → P x) → (xs : List A) → AllByRecursion P xs
every P f [] = tt
every P f (x ∷ xs) = (f x, every P f xs)

apart_rows : (t s : Shelf) → AreApart t s → AllByRecursion (λ (y : Row). Lacks y.message.ident t.rows) s.rows
apart_rows t s h = recursion_from_All (λ (y : Row). Lacks y.message.ident t.rows) s.rows
    (λ j e lt. recursion_from_All _ t.rows (λ k d less. h k d less j e lt))

nowhere : (d : Definitions) (s : Shelf) (done : List Shelf) → AllByRecursion (λ (t : Shelf). IsBeside t s) done → AllByRecursion (λ (y : Row). IsNowhere y.message.ident (map (state_on d) done)) s.rows
nowhere d s [] h = every (λ (y : Row). IsNowhere y.message.ident []) (λ y. tt) s.rows
nowhere d s (t ∷ ts) h =
    both (λ (y : Row). Lacks y.message.ident t.rows) (λ (y : Row). IsNowhere y.message.ident (map (state_on d) ts)) (λ (y : Row). IsNowhere y.message.ident (map (state_on d) (t ∷ ts)))
    (λ y lacks away. (lacks_numbered y 0 t.rows lacks, away)) s.rows (apart_rows t s h.0.1) (nowhere d s ts h.1)

-- ---- a shelf, with rows in their lanes, one behind the other

pub record IsGood (d : Definitions) (s : Shelf) : Type 0 where
  pub lanes : AllByRecursion (IsLaned (is_laned (local_of s.name d))) s.rows
  pub behind : Fronts IsBehind [] s.rows

map_last : (d : Definitions) (done : List Shelf) (s : Shelf) → map (state_on d) done ++ state_on d s ∷ [] ≡ map (state_on d) (done ++ s ∷ [])
map_last d [] s = refl
map_last d (t ∷ ts) s = ap (λ (ss : List QueueState). state_on d t ∷ ss) (map_last d ts s)

shelf_laid : (d : Definitions) (done : List Shelf) (s : Shelf) → IsGood d s → AllByRecursion (λ (t : Shelf). IsBeside t s) done → shelf_added d s (map (state_on d) done) ≡ map (state_on d) (done ++ s ∷ [])
shelf_laid d done s good beside = rows_laid s.name (is_laned (local_of s.name d)) (map (state_on d) done) (others d s done beside) [] s.rows good.lanes good.behind ∙ map_last d done s

shelves_laid : (d : Definitions) (done shelves : List Shelf) → AllByRecursion (IsGood d) shelves → Fronts IsBeside done shelves → shelves_added d shelves (map (state_on d) done) ≡ map (state_on d) (done ++ shelves)
shelves_laid d done [] good beside = ap (map (state_on d)) (sym (append-nil done))
shelves_laid d done (s ∷ shelves) good beside =
    ap (shelves_added d shelves) (shelf_laid d done s good.0 beside.0)
    ∙ shelves_laid d (done ++ s ∷ []) shelves good.1 beside.1
    ∙ ap (map (state_on d)) (append_assoc done (s ∷ []) shelves)

shelves_can : (d : Definitions) (done shelves : List Shelf) → AllByRecursion (IsGood d) shelves → Fronts IsBeside done shelves → CanAddShelves d shelves (map (state_on d) done)
shelves_can d done [] good beside = tt
shelves_can d done (s ∷ shelves) good beside = (
  none_in s.name (map (state_on d) done) (others d s done beside.0),
  λ few. rows_can s.name (is_laned (local_of s.name d)) (map (state_on d) done) (others d s done beside.0) [] s.rows good.0.lanes good.0.behind (nowhere d s done beside.0) (omega (arith, few)),
  λ few. subst (CanAddShelves d shelves) (sym (shelf_laid d done s good.0 beside.0)) (shelves_can d (done ++ s ∷ []) shelves good.1 beside.1),
)

-- ---- as recovery gives them

same_lane : (o : Option LocalQueue) (m : Message) → lane_of o m.md.priority ≡ queue_lane (is_laned o) m
same_lane None m = refl
same_lane (Some q) m = refl

good_of : (d : Definitions) (shelves : List Shelf) → IsRead d shelves → AllByRecursion (IsGood d) shelves
good_of d shelves h = recursion_from_All (IsGood d) shelves (λ k e lt. good (slice_index_or shelves k e) (h.lanes k e lt) (h.sorted k e lt) (h.distinct k e lt))
  where
    good : (s : Shelf) → All (λ (row : Row). row.place.lane ≡ lane_of (local_of s.name d) row.message.md.priority) s.rows → AllPairs (λ (x y : Row). x.place.lane ≤ y.place.lane) s.rows
        → AllPairs (λ (x y : Row). same_ident x.message.ident y.message.ident ≡ false) s.rows → IsGood d s
    good s lanes sorted distinct = record {
      lanes = recursion_from_All (IsLaned (is_laned (local_of s.name d))) s.rows (λ i r less. lanes i r less ∙ same_lane (local_of s.name d) (slice_index_or s.rows i r).message);
      behind = fronts IsBehind s.rows (λ i j r lower within. (sorted i j r lower within, distinct i j r lower within));
    }

beside_of : (d : Definitions) (shelves : List Shelf) → IsRead d shelves → Fronts IsBeside [] shelves
beside_of d shelves h = fronts IsBeside shelves (λ i j s lower within. (h.named i j s lower within, h.apart i j s lower within))

pub image_can : (d : Definitions) (shelves : List Shelf) (ss : List QueueState) → ss ≡ [] → IsRead d shelves → CanAddShelves d shelves ss
image_can d shelves ss e h = subst (CanAddShelves d shelves) (sym e) (shelves_can d [] shelves (good_of d shelves h) (beside_of d shelves h))

pub image_added : (d : Definitions) (shelves : List Shelf) (ss : List QueueState) → ss ≡ [] → IsRead d shelves → shelves_added d shelves ss ≡ map (state_on d) shelves
image_added d shelves ss e h = ap (shelves_added d shelves) e ∙ shelves_laid d [] shelves (good_of d shelves h) (beside_of d shelves h)
