-- Rows and uncommitted puts stay on queues that are defined, and those stay where they are: by changes.
use Rattle.std.proofs.Common.{ℕ, ◌≡◌, Bool, true, false, List, [], ◌∷◌, ◌++◌, refl, ap, sym, subst, ◌∙◌, map, inl, inr}
use Rattle.std.specs.Prelude.{Option, None, Some, is_some, ◌||◌, if◌then◌else◌}
use Rattle.std.specs.Str.{bytes_eq}
use Rattle.mq_queue.specs.declared.row.Row.{Row}
use Rattle.mq_objects.specs.declared.object.Definitions.{Definitions}
use Rattle.mq_objects.specs.Names.{local_of}
use Rattle.mq_calls.specs.declared.records.Add.{Add}
use Rattle.mq_calls.specs.State.{Plain, Change, Queue, fresh_queue}
use Rattle.mq_calls.specs.Steps.{Part, do_part, logged}
use Rattle.mq_calls.specs.declared.records.LogRecord.{LogRecord}
use Rattle.mq_calls.specs.declared.state.Item.TheVariants.{Put, Take}
use Rattle.mq_calls.specs.State.Change.{Place as Places, Try, Leave, Hold, Release, SwitchOn, Serve, Connect, Pend, ChangeObjects, Renew, DropQueue, SetBound, ForgetAll}
use Rattle.mq_calls.specs.Condition.{condition}
use Rattle.mq_calls.specs.Reads.{stored}
use Rattle.mq_calls.specs.Changes.{apply, apply_all, try_if, set_queue, placed_in, lane_of, made_due, depth_type, kept_in, held_in, released_in, forgotten}
use Rattle.mq_law_manager.specs.View.{View, view, at_name}
use Rattle.mq_law_manager.specs.Facts.{Mem, AreOnce, IsStocked, has_queue}
use Rattle.mq_law_manager.specs.Seen.{seen, goes_if, held_if, freed_if, row_for}
use Rattle.mq_law_manager.specs.Kept.{Asks, AllAsk, PartsAsk, AllKeep}
use Rattle.mq_law_manager.proofs.Lists.{bool_case, mem_keep, mem_retag, mem_inserted_at}
use Rattle.mq_law_manager.proofs.SeenLaws.{applied, pended, connects}
use Rattle.mq_law_manager.proofs.Named.{name_is}
use Rattle.mq_law_manager.proofs.Routes.{NewPut, puts_kept, routed_on}

-- on a view, of definitions
abbrev pub RowsIn : Definitions → View → Type 0
RowsIn d v = (q : List ℕ) (h : Row) → Mem h (v.rows q) → is_some (local_of q d) ≡ true

pub emptied : (d : Definitions) (v : View) (name q : List ℕ) (h : Row) → RowsIn d v → Mem h (at_name name [] v.rows q) → is_some (local_of q d) ≡ true
emptied d v name q h s = bool_case (bytes_eq q name) (λ b. Mem h (if b then [] else v.rows q) → is_some (local_of q d) ≡ true) (λ e m. absurd m) (λ e m. s q h m)

rows_seen : (c : Change) (p : Plain) (v : View) → Asks c p → RowsIn p.definitions v → RowsIn p.definitions (seen c p v)
rows_seen (Places name m) p v a s q h n = elim (mem_inserted_at name (row_for name m p) v.rows q h n) [ inl z ↦ ap (λ (x : List ℕ). is_some (local_of x p.definitions)) z.0 ∙ a.0.0 | inr z ↦ s q h z ]
rows_seen (Leave which) p v a s q h n = s q h (mem_keep (goes_if which q) h (v.rows q) n).0
rows_seen (Hold which by) p v a s q h n = let k = mem_retag (held_if which by q) h (v.rows q) n in s q k.0 k.1
rows_seen (Release which counted) p v a s q h n = let k = mem_retag (freed_if which counted q) h (v.rows q) n in s q k.0 k.1
rows_seen (Renew name) p v a s q h n = emptied p.definitions v name q h s n
rows_seen (DropQueue name) p v a s q h n = absurd a
rows_seen c p v a s q h n = s q h n

put_defined : (c : Change) (p : Plain) → Asks c p → NewPut (λ (x : Add). is_some (local_of x.queue p.definitions) ≡ true) c
put_defined (Pend n (Put queue m)) p a = a.0.0
put_defined (Pend n (Take queue i persistent)) p a = tt
put_defined c p a = tt

pub tried_definitions : (b : Bool) (name : List ℕ) (p : Plain) → (try_if b name p).definitions ≡ p.definitions
tried_definitions true name p = refl
tried_definitions false name p = refl

same_definitions : (c : Change) (p : Plain) → Asks c p → (apply c p).definitions ≡ p.definitions
same_definitions (Try name priority) p a = tried_definitions (condition (local_of name p.definitions) priority p) name p
same_definitions (ChangeObjects change) p a = absurd a
same_definitions (SetBound channel true) p a = refl
same_definitions (SetBound channel false) p a = refl
same_definitions c p a = refl

view_rows : (c : Change) (p : Plain) → Asks c p → (view (apply c p)).rows ≡ (seen c p (view p)).rows
view_rows (Connect c) p a = refl
view_rows (Pend n item) p a = refl
view_rows (ChangeObjects change) p a = refl
view_rows c p a = ap (λ (v : View). v.rows) (applied c p tt)

view_puts : (c : Change) (p : Plain) → Asks c p → (view (apply c p)).puts ≡ (seen c p (view p)).puts
view_puts (Connect c) p a = ap (λ (v : View). v.puts) (connects c p a.0)
view_puts (Pend n (Put queue m)) p a = ap (λ (v : View). v.puts) (pended n (Put queue m) p a.1.0 a.1.1)
view_puts (Pend n (Take queue i persistent)) p a = ap (λ (v : View). v.puts) (pended n (Take queue i persistent) p a.0 a.1)
view_puts (ChangeObjects change) p a = refl
view_puts c p a = ap (λ (v : View). v.puts) (applied c p tt)

-- A queue that is there stays

pub has_set : (name : List ℕ) (new : Queue) (qs : List Queue) → has_queue name qs ≡ true → has_queue name (set_queue new qs) ≡ true
has_set name new [] h = absurd (cc h)
has_set name new (q ∷ qs) h = bool_case (bytes_eq new.name q.name)
    (λ b. bytes_eq new.name q.name ≡ b → has_queue name (if b then new ∷ qs else q ∷ set_queue new qs) ≡ true)
    (λ y e. ap (λ (x : List ℕ). bytes_eq name x || has_queue name qs) (name_is new.name q.name e) ∙ h)
    (λ y e. bool_case (bytes_eq name q.name) (λ b. (b || has_queue name qs) ≡ true → (b || has_queue name (set_queue new qs)) ≡ true) (λ z w. refl) (λ z w. has_set name new qs w) h)
    refl

pub has_mapped : (f : Queue → Queue) → ((q : Queue) → (f q).name ≡ q.name) → (name : List ℕ) (qs : List Queue) → has_queue name (map f qs) ≡ has_queue name qs
has_mapped f same name [] = refl
has_mapped f same name (q ∷ qs) = ap (λ (n : List ℕ). bytes_eq name n || has_queue name (map f qs)) (same q) ∙ ap (λ (b : Bool). bytes_eq name q.name || b) (has_mapped f same name qs)

try_has : (name : List ℕ) (b : Bool) (at : List ℕ) (p : Plain) → has_queue name p.queues ≡ true → has_queue name (try_if b at p).queues ≡ true
try_has name true at p h = has_set name (made_due (depth_type (local_of at p.definitions)) p.moment (stored at p)) p.queues h
try_has name false at p h = h

pub has_kept : (name : List ℕ) (c : Change) (p : Plain) → Asks c p → has_queue name p.queues ≡ true → has_queue name (apply c p).queues ≡ true
has_kept name (Places at m) p a h = has_set name (placed_in (lane_of (local_of at p.definitions) m.md.priority) m (stored at p)) p.queues h
has_kept name (Try at priority) p a h = try_has name (condition (local_of at p.definitions) priority p) at p h
has_kept name (Leave which) p a h = has_mapped (kept_in which) (λ q. refl) name p.queues ∙ h
has_kept name (Hold which by) p a h = has_mapped (held_in which by) (λ q. refl) name p.queues ∙ h
has_kept name (Release which counted) p a h = has_mapped (released_in which counted) (λ q. refl) name p.queues ∙ h
has_kept name (Renew at) p a h = has_set name (fresh_queue at) p.queues h
has_kept name (DropQueue at) p a h = absurd a
has_kept name (SwitchOn at) p a h = has_set name (record (stored at p) { switched_off = false }) p.queues h
has_kept name (Serve at) p a h = has_set name _ p.queues h
has_kept name (SetBound channel true) p a h = h
has_kept name (SetBound channel false) p a h = h
has_kept name ForgetAll p a h = has_mapped forgotten (λ q. refl) name p.queues ∙ h
has_kept name c p a h = h

-- One change, all of a list, all of a part

pub stays : (c : Change) (p : Plain) → Asks c p → IsStocked p → IsStocked (apply c p)
stays c p a s =
    let same : (apply c p).definitions ≡ p.definitions = same_definitions c p a in
    record {
      once = subst (λ (d : Definitions). AreOnce d.objects) (sym same) s.once;
      placed = λ name e. has_kept name c p a (s.placed name (ap (λ (d : Definitions). is_some (local_of name d)) (sym same) ∙ e));
      rows = λ q h n. ap (λ (d : Definitions). is_some (local_of q d)) same ∙ rows_seen c p (view p) a s.rows q h (subst (λ (f : List ℕ → List Row). Mem h (f q)) (view_rows c p a) n);
      puts = λ k x n. ap (λ (d : Definitions). is_some (local_of x.queue d)) same ∙ puts_kept (λ (y : Add). is_some (local_of y.queue p.definitions) ≡ true) c p (view p) (put_defined c p a) s.puts k x (subst (λ (f : ℕ → List Add). Mem x (f k)) (view_puts c p a) n);
      routed = routed_on c p a same (view_rows c p a) (view_puts c p a) s.routed;
    }

pub all_stay : (cs : List Change) (p : Plain) → AllAsk cs p → IsStocked p → IsStocked (apply_all cs p)
all_stay [] p a s = s
all_stay (c ∷ cs) p a s = all_stay cs (apply c p) a.1 (stays c p a.0 s)

pub logged_stays : (r : Option LogRecord) (p : Plain) → IsStocked p → IsStocked (logged r p)
logged_stays None p s = s
logged_stays (Some r) p s = record { once = s.once; placed = s.placed; rows = s.rows; puts = s.puts; routed = s.routed }

pub part_stays : (part : Part) (p : Plain) → AllAsk part.changes (logged part.forced p) → IsStocked p → IsStocked (do_part part p)
part_stays part p a s = all_stay part.changes (logged part.forced p) a (logged_stays part.forced p s)

pub parts_stay : (parts : List Part) (p : Plain) → PartsAsk parts p → IsStocked p → AllKeep IsStocked parts p
parts_stay [] p a s = tt
parts_stay (part ∷ parts) p a s = let k = part_stays part p a.0 s in (k, parts_stay parts (do_part part p) a.1 k)

-- what lists of changes ask

pub same_all : (cs : List Change) (p : Plain) → AllAsk cs p → (apply_all cs p).definitions ≡ p.definitions
same_all [] p a = refl
same_all (c ∷ cs) p a = same_all cs (apply c p) a.1 ∙ same_definitions c p a.0

pub asks_append : (xs ys : List Change) (p : Plain) → AllAsk xs p → AllAsk ys (apply_all xs p) → AllAsk (xs ++ ys) p
asks_append [] ys p a b = b
asks_append (x ∷ xs) ys p a b = (a.0, asks_append xs ys (apply x p) a.1 b)

pub logged_definitions : (r : Option LogRecord) (p : Plain) → (logged r p).definitions ≡ p.definitions
logged_definitions None p = refl
logged_definitions (Some r) p = refl
