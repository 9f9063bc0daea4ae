-- No name comes to stand twice in the list of queues, whatever is done.
use Rattle.std.proofs.Common.{ℕ, ◌≡◌, ◌⊎◌, Bool, true, false, List, [], ◌∷◌, refl, ap, ◌∙◌, map, inl, inr}
use Rattle.std.specs.Prelude.{if◌then◌else◌, not, filter}
use Rattle.std.specs.Str.{bytes_eq}
use Rattle.mq_objects.specs.Names.{local_of}
use Rattle.mq_calls.specs.State.{Plain, Change, Queue, fresh_queue}
use Rattle.mq_calls.specs.State.Change.{Place as Places, Try, Leave, Hold, Release, Renew, DropQueue, SwitchOn, Serve, SetBound, ForgetAll}
use Rattle.mq_calls.specs.Reads.{stored}
use Rattle.mq_calls.specs.Condition.{condition}
use Rattle.mq_calls.specs.Changes.{apply, apply_all, set_queue, placed_in, lane_of, kept_in, held_in, released_in, made_due, depth_type, try_if, forgotten}
use Rattle.mq_law_manager.specs.Facts.{Mem, AreNamed}
use Rattle.mq_law_manager.proofs.Lists.{bool_case}
use Rattle.mq_law_manager.proofs.Named.{name_is, name_turned}

-- a queue that is set: the others were there
set_mem : (new : Queue) (qs : List Queue) (x : Queue) → Mem x (set_queue new qs) → (x ≡ new) ⊎ Mem x qs
set_mem new [] x (inl e) = inl e
set_mem new [] x (inr m) = absurd m
set_mem new (q ∷ qs) x m = bool_case (bytes_eq new.name q.name) (λ b. Mem x (if b then new ∷ qs else q ∷ set_queue new qs) → (x ≡ new) ⊎ Mem x (q ∷ qs)) (λ e k. here k) (λ e k. there (λ n. set_mem new qs x n) k) m
  where
    here : Mem x (new ∷ qs) → (x ≡ new) ⊎ Mem x (q ∷ qs)
    here (inl e) = inl e
    here (inr m) = inr (inr m)

    there : (Mem x (set_queue new qs) → (x ≡ new) ⊎ Mem x qs) → Mem x (q ∷ set_queue new qs) → (x ≡ new) ⊎ Mem x (q ∷ qs)
    there f (inl e) = inr (inl e)
    there f (inr m) = elim (f m) [ inl z ↦ inl z | inr z ↦ inr (inr z) ]

set_once : (new : Queue) (qs : List Queue) → AreNamed qs → AreNamed (set_queue new qs)
set_once new [] h = (λ y m. absurd m, tt)
set_once new (q ∷ qs) h = bool_case (bytes_eq new.name q.name) (λ b. bytes_eq new.name q.name ≡ b → AreNamed (if b then new ∷ qs else q ∷ set_queue new qs))
    (λ e z. (λ y m. ap (λ (n : List ℕ). bytes_eq n y.name) (name_is new.name q.name z) ∙ h.0 y m, h.1))
    (λ e z. (λ y m. elim (set_mem new qs y m) [ inl k ↦ ap (λ (x : Queue). bytes_eq q.name x.name) k ∙ name_turned q.name new.name ∙ z | inr k ↦ h.0 y k ], set_once new qs h.1)) refl

map_mem : (f : Queue → Queue) (qs : List Queue) (y : Queue) → Mem y (map f qs) → (x : Queue) × Mem x qs × (y ≡ f x)
map_mem f [] y m = absurd m
map_mem f (q ∷ qs) y (inl e) = (q, inl refl, e)
map_mem f (q ∷ qs) y (inr m) = let k = map_mem f qs y m in (k.0, inr k.1, k.2)

pub mapped_named : (f : Queue → Queue) → ((q : Queue) → (f q).name ≡ q.name) → (qs : List Queue) → AreNamed qs → AreNamed (map f qs)
mapped_named f same [] h = tt
mapped_named f same (q ∷ qs) h = (
  λ y m.
      let k = map_mem f qs y m in
      ap (λ (n : List ℕ). bytes_eq n y.name) (same q) ∙ ap (λ (x : Queue). bytes_eq q.name x.name) k.2 ∙ ap (bytes_eq q.name) (same k.0) ∙ h.0 k.0 k.1,
  mapped_named f same qs h.1,
)

filter_mem : (test : Queue → Bool) (qs : List Queue) (y : Queue) → Mem y (filter test qs) → Mem y qs
filter_mem test [] y m = m
filter_mem test (q ∷ qs) y m = bool_case (test q) (λ b. Mem y (if b then q ∷ filter test qs else filter test qs) → Mem y (q ∷ qs)) (λ e k. elim k [ inl z ↦ inl z | inr z ↦ inr (filter_mem test qs y z) ]) (λ e k. inr (filter_mem test qs y k)) m

filter_named : (test : Queue → Bool) (qs : List Queue) → AreNamed qs → AreNamed (filter test qs)
filter_named test [] h = tt
filter_named test (q ∷ qs) h = bool_case (test q) (λ b. AreNamed (if b then q ∷ filter test qs else filter test qs)) (λ e. (λ y m. h.0 y (filter_mem test qs y m), filter_named test qs h.1)) (λ e. filter_named test qs h.1)

try_named : (b : Bool) (name : List ℕ) (p : Plain) → AreNamed p.queues → AreNamed (try_if b name p).queues
try_named true name p h = set_once (made_due (depth_type (local_of name p.definitions)) p.moment (stored name p)) p.queues h
try_named false name p h = h

pub named_kept : (c : Change) (p : Plain) → AreNamed p.queues → AreNamed (apply c p).queues
named_kept (Places name m) p h = set_once (placed_in (lane_of (local_of name p.definitions) m.md.priority) m (stored name p)) p.queues h
named_kept (Try name priority) p h = try_named (condition (local_of name p.definitions) priority p) name p h
named_kept (Leave which) p h = mapped_named (kept_in which) (λ q. refl) p.queues h
named_kept (Hold which by) p h = mapped_named (held_in which by) (λ q. refl) p.queues h
named_kept (Release which counted) p h = mapped_named (released_in which counted) (λ q. refl) p.queues h
named_kept (Renew name) p h = set_once (fresh_queue name) p.queues h
named_kept (DropQueue name) p h = filter_named (λ (q : Queue). not (bytes_eq name q.name)) p.queues h
named_kept (SwitchOn name) p h = set_once (record (stored name p) { switched_off = false }) p.queues h
named_kept (Serve name) p h = set_once _ p.queues h
named_kept (SetBound channel true) p h = h
named_kept (SetBound channel false) p h = h
named_kept ForgetAll p h = mapped_named forgotten (λ q. refl) p.queues h
named_kept c p h = h

pub all_named : (cs : List Change) (p : Plain) → AreNamed p.queues → AreNamed (apply_all cs p).queues
all_named [] p h = h
all_named (c ∷ cs) p h = all_named cs (apply c p) (named_kept c p h)
