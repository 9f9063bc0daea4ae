-- Rows, uncommitted puts and handles stay routed, and lists of units in doubt as they are told: by changes.
use Rattle.std.proofs.Common.{ℕ, ◌≡◌, ◌≢◌, ◌+◌, ◌⊎◌, Bool, true, false, List, [], ◌∷◌, ◌++◌, refl, ap, sym, subst, ◌∙◌, map, arith, inl, inr}
use Rattle.std.specs.Prelude.{Option, None, Some, ◌==◌, ◌&&◌, ◌||◌, nat_lt, if◌then◌else◌, filter, not}
use Rattle.std.specs.Str.{bytes_eq}
use Rattle.std.proofs.Common.{Ordering, Less, Equal, Greater}
use Rattle.std.specs.Ordering.{is_lt, is_eq, nat_cmp, ordering_reverse}
use Rattle.std.specs.Cmp.{IsTotalOrder}
use Rattle.std.specs.Cmp.Lexicographic.{slice_cmp}
use Rattle.std.proofs.lemmas.Cmp.{nat_list_cmp_total}
use Rattle.std.proofs.lemmas.Map.Text.{is_eq-slice_cmp}
use Rattle.std.proofs.lemmas.Bool.Decides.{nat_tests}
use Rattle.mq_message.specs.declared.message.Ident.{Ident}
use Rattle.mq_message.specs.declared.message.Message.{Message}
use Rattle.mq_message.specs.declared.place.Holder.{Holder}
use Rattle.mq_message.specs.declared.place.Holder.TheVariants as holders
use Rattle.mq_queue.specs.declared.row.Row.{Row}
use Rattle.mq_queue.specs.Rows.{same_ident, is_free}
use Rattle.mq_queue.specs.Queues.{freed}
use Rattle.mq_objects.specs.declared.object.LocalQueue.{LocalQueue}
use Rattle.mq_objects.specs.declared.object.Definitions.{Definitions}
use Rattle.mq_objects.specs.Names.{local_of}
use Rattle.mq_calls.specs.from_resolve.{PathStep}
use Rattle.mq_sync.specs.declared.data.InDoubt.{InDoubt}
use Rattle.mq_calls.specs.declared.records.Add.{Add}
use Rattle.mq_calls.specs.declared.state.Item.TheVariants.{Put, Take}
use Rattle.mq_calls.specs.State.{Plain, Change}
use Rattle.mq_calls.specs.declared.state.Connection.{Connection}
use Rattle.mq_calls.specs.declared.state.Handle.{Handle}
use Rattle.mq_calls.specs.declared.state.SenderSide.{SenderSide}
use Rattle.mq_calls.specs.State.Change.{Place as Places, Try, Leave, Hold, Release, Connect, Disconnect, OpenHandle, CloseHandle, SetCursor, Pend, EndUnit, MakeStale, CountIdent, Renew, DropQueue, SetSender, Undoubt, SetBound, ForgetAll}
use Rattle.mq_calls.specs.Condition.{condition}
use Rattle.mq_calls.specs.Reads.{has_step, is_persistent, sender_in}
use Rattle.mq_calls.specs.Changes.{apply, try_if, selects, retag_if, release_if, set_named, set_sender, less_ident, off_list, off_lists, change_connection, change_handle, stale_if, made_stale, comes_before}
use Rattle.mq_spec_manager.specs.Agents.{is_unborn}
use Rattle.mq_law_manager.specs.View.{View, view, at_name, at_number}
use Rattle.mq_law_manager.specs.Facts.{Mem, IsRoutedOn, IsFormed, IsLed, listed, IsUnlisted, AreSorted, IsRouted}
use Rattle.mq_law_manager.specs.Seen.{seen, goes_if, held_if, freed_if, row_for}
use Rattle.mq_law_manager.specs.Kept.{Asks}
use Rattle.mq_law_manager.proofs.Lists.{bool_case, is_false, mem_keep, mem_retag, mem_append, mem_inserted_at}
use Rattle.mq_law_manager.proofs.Named.{name_is, name_self, name_yes, name_turned}

-- Rows

abbrev FormedIn : Definitions → View → Type 0
FormedIn d v = (q : List ℕ) (h : Row) → Mem h (v.rows q) → IsFormed (local_of q d) h

abbrev formed_row : (o : Option LocalQueue) (h k : Row) → h ≡ k → IsFormed o k → IsFormed o h
formed_row o h k e f = subst (IsFormed o) (sym e) f

retag_formed : (b : Bool) (by : Option Holder) (o : Option LocalQueue) (row : Row) → IsFormed o row → IsFormed o (retag_if b by row)
retag_formed true by o row f = record { routed = f.routed; lane = f.lane }
retag_formed false by o row f = f

free_formed : (counted : Bool) (o : Option LocalQueue) (row : Row) → IsFormed o row → IsFormed o (freed counted row)
free_formed true o row f = record { routed = f.routed; lane = f.lane }
free_formed false o row f = record { routed = f.routed; lane = f.lane }

release_formed : (b counted : Bool) (o : Option LocalQueue) (row : Row) → IsFormed o row → IsFormed o (release_if b counted row)
release_formed true counted o row f = free_formed counted o row f
release_formed false counted o row f = f

emptied_formed : (d : Definitions) (v : View) (name q : List ℕ) (h : Row) → FormedIn d v → Mem h (at_name name [] v.rows q) → IsFormed (local_of q d) h
emptied_formed d v name q h s = bool_case (bytes_eq q name) (λ b. Mem h (if b then [] else v.rows q) → IsFormed (local_of q d) h) (λ e m. absurd m) (λ e m. s q h m)

rows_formed : (c : Change) (p : Plain) (v : View) → Asks c p → FormedIn p.definitions v → FormedIn p.definitions (seen c p v)
rows_formed (Places name m) p v a s q h n = elim (mem_inserted_at name (row_for name m p) v.rows q h n) [
  | inl z ↦ subst (λ (x : List ℕ). IsFormed (local_of x p.definitions) h) (sym z.0) (formed_row (local_of name p.definitions) h (row_for name m p) z.1 (record { routed = a.0.1; lane = refl }))
  | inr z ↦ s q h z
]
rows_formed (Leave which) p v a s q h n = s q h (mem_keep (goes_if which q) h (v.rows q) n).0
rows_formed (Hold which by) p v a s q h n = let k = mem_retag (held_if which by q) h (v.rows q) n in formed_row (local_of q p.definitions) h (held_if which by q k.0) k.2 (retag_formed _ (Some by) (local_of q p.definitions) k.0 (s q k.0 k.1))
rows_formed (Release which counted) p v a s q h n = let k = mem_retag (freed_if which counted q) h (v.rows q) n in formed_row (local_of q p.definitions) h (freed_if which counted q k.0) k.2 (release_formed _ counted (local_of q p.definitions) k.0 (s q k.0 k.1))
rows_formed (Renew name) p v a s q h n = emptied_formed p.definitions v name q h s n
rows_formed (DropQueue name) p v a s q h n = absurd a
rows_formed c p v a s q h n = s q h n

-- What holds of each uncommitted put

abbrev pub EachPut : (Add → Type 0) → View → Type 0
EachPut P v = (n : ℕ) (a : Add) → Mem a (v.puts n) → P a

abbrev pub NewPut : (Add → Type 0) → Change → Type 0
NewPut P (Pend n (Put queue m)) = P (record { queue = queue; message = m })
NewPut P _ = Unit {0}

ended_puts : (P : Add → Type 0) (v : View) (n k : ℕ) (x : Add) → EachPut P v → Mem x (at_number n [] v.puts k) → P x
ended_puts P v n k x s = bool_case (k == n) (λ b. Mem x (if b then [] else v.puts k) → P x) (λ e m. absurd m) (λ e m. s k x m)

pushed_puts : (P : Add → Type 0) (v : View) (n k : ℕ) (more : List Add) (x : Add) → EachPut P v → ((y : Add) → Mem y more → P y) → Mem x (at_number n (v.puts n ++ more) v.puts k) → P x
pushed_puts P v n k more x s new = bool_case (k == n) (λ b. Mem x (if b then v.puts n ++ more else v.puts k) → P x)
    (λ e m. elim (mem_append x (v.puts n) more m) [ inl z ↦ s n x z | inr z ↦ new x z ]) (λ e m. s k x m)

only_put : (P : Add → Type 0) (a : Add) → P a → (y : Add) → Mem y (a ∷ []) → P y
only_put P a is y (inl e) = subst P (sym e) is
only_put P a is y (inr m) = absurd m

pub puts_kept : (P : Add → Type 0) (c : Change) (p : Plain) (v : View) → NewPut P c → EachPut P v → EachPut P (seen c p v)
puts_kept P (Disconnect n) p v a s k x m = ended_puts P v n k x s m
puts_kept P (EndUnit n) p v a s k x m = ended_puts P v n k x s m
puts_kept P (Pend n (Put queue message)) p v a s k x m = pushed_puts P v n k (record { queue = queue; message = message } ∷ []) x s (only_put P (record { queue = queue; message = message }) a) m
puts_kept P (Pend n (Take queue i persistent)) p v a s k x m = pushed_puts P v n k [] x s (λ y n. absurd n) m
puts_kept P ForgetAll p v a s k x m = absurd m
puts_kept P c p v a s k x m = s k x m

-- Handles

abbrev LedIn : Definitions → List Connection → Type 0
LedIn d cs = (c : Connection) (h : Handle) → Mem c cs → Mem h c.handles → h.stale ≡ false → IsLed d h

abbrev AreLedOf : Definitions → Connection → Type 0
AreLedOf d c = (h : Handle) → Mem h c.handles → h.stale ≡ false → IsLed d h

pub filter_mem : {A : Type 0} (f : A → Bool) (x : A) (xs : List A) → Mem x (filter f xs) → Mem x xs
filter_mem f x [] m = absurd m
filter_mem f x (y ∷ ys) m = bool_case (f y) (λ b. Mem x (if b then y ∷ filter f ys else filter f ys) → Mem x (y ∷ ys)) (λ e n. elim n [ inl z ↦ inl z | inr z ↦ inr (filter_mem f x ys z) ]) (λ e n. inr (filter_mem f x ys n)) m

pub map_mem : {A B : Type 0} (f : A → B) (y : B) (xs : List A) → Mem y (map f xs) → (x : A) × Mem x xs × (y ≡ f x)
map_mem f y [] m = absurd m
map_mem f y (x ∷ xs) (inl e) = (x, inl refl, e)
map_mem f y (x ∷ xs) (inr m) = let k = map_mem f y xs m in (k.0, inr k.1, k.2)

changed_led : (d : Definitions) (n : ℕ) (f : Connection → Connection) (cs : List Connection) → ((c : Connection) → AreLedOf d c → AreLedOf d (f c)) → LedIn d cs → LedIn d (change_connection n f cs)
changed_led d n f [] g s c h m k e = absurd m
changed_led d n f (x ∷ xs) g s c h m k e = bool_case (x.number == n) (λ b. Mem c (if b then f x ∷ xs else x ∷ change_connection n f xs) → IsLed d h)
    (λ z w. elim w [ inl y ↦ g x (λ j o u. s x j (inl refl) o u) h (subst (λ (z : Connection). Mem h z.handles) y k) e | inr y ↦ s c h (inr y) k e ])
    (λ z w. elim w [ inl y ↦ s c h (inl y) k e | inr y ↦ changed_led d n f xs g (λ a b o u. s a b (inr o) u) c h y k e ]) m

same_led : (d : Definitions) (h k : Handle) → h.stale ≡ false → (k.stale ≡ false → IsLed d k) → h ≡ k → IsLed d h
same_led d h k e f is = subst (IsLed d) (sym is) (f (sym (ap (λ (x : Handle). x.stale) is) ∙ e))

cursor_led : (d : Definitions) (n : ℕ) (f : Handle → Handle) (hs : List Handle) → ((h : Handle) → (h.stale ≡ false → IsLed d h) → (f h).stale ≡ false → IsLed d (f h))
    → ((h : Handle) → Mem h hs → h.stale ≡ false → IsLed d h) → (h : Handle) → Mem h (change_handle n f hs) → h.stale ≡ false → IsLed d h
cursor_led d n f [] g s h m e = absurd m
cursor_led d n f (x ∷ xs) g s h m e = bool_case (x.number == n) (λ b. Mem h (if b then f x ∷ xs else x ∷ change_handle n f xs) → IsLed d h)
    (λ z w. elim w [ inl y ↦ same_led d h (f x) e (g x (s x (inl refl))) y | inr y ↦ s h (inr y) e ])
    (λ z w. elim w [ inl y ↦ s h (inl y) e | inr y ↦ cursor_led d n f xs g (λ k o. s k (inr o)) h y e ]) m

stale_led : (d : Definitions) (b : Bool) (h : Handle) → (h.stale ≡ false → IsLed d h) → (stale_if b h).stale ≡ false → IsLed d (stale_if b h)
stale_led d true h s e = absurd cc
stale_led d false h s e = s e

made_led : (d : Definitions) (step : PathStep) (c : Connection) → AreLedOf d c → AreLedOf d (made_stale step c)
made_led d step c s h m e = let k = map_mem (λ (x : Handle). stale_if (has_step step x) x) h c.handles m in same_led d h (stale_if (has_step step k.0) k.0) e (stale_led d (has_step step k.0) k.0 (s k.0 k.1)) k.2

tried_connections : (b : Bool) (name : List ℕ) (p : Plain) → (try_if b name p).connections ≡ p.connections
tried_connections true name p = refl
tried_connections false name p = refl

led_kept : (c : Change) (p : Plain) (d : Definitions) → d ≡ p.definitions → Asks c p → LedIn d p.connections → LedIn d (apply c p).connections
led_kept (Try name priority) p d is a s = subst (LedIn d) (sym (tried_connections (condition (local_of name p.definitions) priority p) name p)) s
led_kept (Connect x) p d is a s = λ c h m k e. elim (mem_append c p.connections (x ∷ []) m) [
  | inl z ↦ s c h z k e
  | inr (inl z) ↦ absurd (subst (λ (hs : List Handle). Mem h hs) (ap (λ (y : Connection). y.handles) z ∙ a.1) k)
  | inr (inr z) ↦ absurd z
]
led_kept (Disconnect n) p d is a s = λ c h m k e. s c h (filter_mem (λ (x : Connection). not (x.number == n)) c p.connections m) k e
led_kept (OpenHandle n x) p d is a s = changed_led d n (λ c. record c { handles = c.handles ++ x ∷ []; last_handle = _ }) p.connections
    (λ c g h m e. elim (mem_append h c.handles (x ∷ []) m) [ inl z ↦ g h z e | inr (inl z) ↦ same_led d h x e (λ u. subst (λ (y : Definitions). IsLed y x) (sym is) (a u)) z | inr (inr z) ↦ absurd z ]) s
led_kept (CloseHandle n x) p d is a s = changed_led d n _ p.connections (λ c g h m e. g h (filter_mem (λ (y : Handle). not (y.number == x)) h c.handles m) e) s
led_kept (SetCursor n x place) p d is a s = changed_led d n _ p.connections
    (λ c g h m e. cursor_led d x (λ (y : Handle). record y { cursor = Some place }) c.handles (λ y f u. let l = f u in record { there = l.there; on = l.on; routed = l.routed }) g h m e) s
led_kept (Pend n item) p d is a s = changed_led d n _ p.connections (λ c g. g) s
led_kept (EndUnit n) p d is a s = changed_led d n _ p.connections (λ c g. g) s
led_kept (MakeStale step) p d is a s = λ c h m k e.
    let x = map_mem (made_stale step) c p.connections m in
    made_led d step x.0 (λ j o u. s x.0 j x.1 o u) h (subst (λ (y : Connection). Mem h y.handles) x.2 k) e
led_kept (SetBound channel true) p d is a s = s
led_kept (SetBound channel false) p d is a s = s
led_kept ForgetAll p d is a s = λ c h m k e. absurd m
led_kept c p d is a s = s

-- What units in doubt list

set_mem : {A : Type 0} (name : A → List ℕ) (new x : A) (xs : List A) → Mem x (set_named name new xs) → (x ≡ new) ⊎ Mem x xs
set_mem name new x [] (inl e) = inl e
set_mem name new x [] (inr m) = absurd m
set_mem {A} name new x (y ∷ ys) m = bool_case (bytes_eq (name new) (name y))
    (λ b. Mem x (if b then new ∷ ys else (if comes_before (name new) (name y) then new ∷ y ∷ ys else y ∷ set_named name new ys)) → (x ≡ new) ⊎ Mem x (y ∷ ys))
    (λ z n. elim n [ inl e ↦ inl e | inr k ↦ inr (inr k) ])
    (λ z n. bool_case (comes_before (name new) (name y)) (λ b. Mem x (if b then new ∷ y ∷ ys else y ∷ set_named name new ys) → (x ≡ new) ⊎ Mem x (y ∷ ys))
    (λ w k. elim k [ inl e ↦ inl e | inr j ↦ inr j ])
    (λ w k. elim k [ inl e ↦ inr (inl e) | inr j ↦ elim (set_mem name new x ys j) [ inl u ↦ inl u | inr u ↦ inr (inr u) ] ]) n) m

-- what was set is there
pub set_there : {A : Type 0} (name : A → List ℕ) (new : A) (xs : List A) → Mem new (set_named name new xs)
set_there name new [] = inl refl
set_there {A} name new (y ∷ ys) = bool_case (bytes_eq (name new) (name y)) (λ b. Mem new (if b then new ∷ ys else (if comes_before (name new) (name y) then new ∷ y ∷ ys else y ∷ set_named name new ys))) (λ z. inl refl)
    (λ z. bool_case (comes_before (name new) (name y)) (λ b. Mem new (if b then new ∷ y ∷ ys else y ∷ set_named name new ys)) (λ w. inl refl) (λ w. inr (set_there name new ys)))

less_listed : (ident i : Ident) (o : Option InDoubt) → Mem i (listed (less_ident ident o)) → Mem i (listed o)
less_listed ident i None m = m
less_listed ident i (Some d) m = filter_mem (λ other. not (same_ident ident other)) i d.idents m

off_unlisted : (ident i : Ident) (sides : List SenderSide) → IsUnlisted i sides → IsUnlisted i (off_lists ident sides)
off_unlisted ident i sides u s m n =
    let k = map_mem (off_list ident) s sides m in
    u k.0 k.1 (less_listed ident i k.0.hardened.in_doubt (subst (λ (x : SenderSide). Mem i (listed x.hardened.in_doubt)) k.2 n))

pub tried_senders : (b : Bool) (name : List ℕ) (p : Plain) → (try_if b name p).channels.senders ≡ p.channels.senders
tried_senders true name p = refl
tried_senders false name p = refl

-- an ident stays off all lists, where none is set that has it
abbrev NotSet : Ident → Change → Type 0
NotSet i (SetSender channel d) = Mem i (listed d.in_doubt) → ⊥
NotSet i _ = Unit {0}

unlisted_kept : (c : Change) (p : Plain) (i : Ident) → NotSet i c → IsUnlisted i p.channels.senders → IsUnlisted i (apply c p).channels.senders
unlisted_kept (Try name priority) p i a u = subst (IsUnlisted i) (sym (tried_senders (condition (local_of name p.definitions) priority p) name p)) u
unlisted_kept (SetSender channel d) p i a u = λ s m n. elim (set_mem (λ (x : SenderSide). x.channel) (record { channel = channel; hardened = d }) s p.channels.senders m) [
  | inl z ↦ a (subst (λ (x : SenderSide). Mem i (listed x.hardened.in_doubt)) z n)
  | inr z ↦ u s z n
]
unlisted_kept (Undoubt ident) p i a u = off_unlisted ident i p.channels.senders u
unlisted_kept (SetBound channel true) p i a u = u
unlisted_kept (SetBound channel false) p i a u = u
unlisted_kept c p i a u = u

-- Channel data in order

is_less : (o : Ordering) → is_lt o ≡ true → o ≡ Less
is_less Less e = refl
is_less Equal e = absurd cc
is_less Greater e = absurd cc

names_total : IsTotalOrder (slice_cmp nat_cmp)
names_total = nat_list_cmp_total

pub before_trans : (a b c : List ℕ) → comes_before a b ≡ true → comes_before b c ≡ true → comes_before a c ≡ true
before_trans a b c x y = ap is_lt (names_total.trans a b c (is_less (slice_cmp nat_cmp a b) x) (is_less (slice_cmp nat_cmp b c) y))

pub turned_less : (o : Ordering) → is_eq o ≡ false → is_lt o ≡ false → is_lt (ordering_reverse o) ≡ true
turned_less Less e f = absurd cc
turned_less Equal e f = absurd cc
turned_less Greater e f = refl

before_turned : (a b : List ℕ) → bytes_eq a b ≡ false → comes_before a b ≡ false → comes_before b a ≡ true
before_turned a b e f = ap is_lt (names_total.antisymm b a) ∙ turned_less (slice_cmp nat_cmp a b) (is_eq-slice_cmp a b ∙ e) f

not_both : (o : Ordering) → is_eq o ≡ true → is_lt o ≡ true → ⊥
not_both Less e f = cc e
not_both Equal e f = cc f
not_both Greater e f = cc e

pub before_apart : (a b : List ℕ) → comes_before a b ≡ true → bytes_eq a b ≡ false
before_apart a b e = is_false (bytes_eq a b) (λ f. not_both (slice_cmp nat_cmp a b) (is_eq-slice_cmp a b ∙ f) e)

sorted_set : (new : SenderSide) (sides : List SenderSide) → AreSorted sides → AreSorted (set_sender new sides)
sorted_set new [] h = (λ z m. absurd m, tt)
sorted_set new (y ∷ ys) h = bool_case (bytes_eq new.channel y.channel)
    (λ b. bytes_eq new.channel y.channel ≡ b → AreSorted (if b then new ∷ ys else (if comes_before new.channel y.channel then new ∷ y ∷ ys else y ∷ set_sender new ys)))
    (λ z w. (λ x m. ap (λ (n : List ℕ). comes_before n x.channel) (name_is new.channel y.channel w) ∙ h.0 x m, h.1))
    (λ z w. bool_case (comes_before new.channel y.channel) (λ b. comes_before new.channel y.channel ≡ b → AreSorted (if b then new ∷ y ∷ ys else y ∷ set_sender new ys))
    (λ u v. (λ x m. elim m [ inl e ↦ ap (λ (s : SenderSide). comes_before new.channel s.channel) e ∙ v | inr k ↦ before_trans new.channel y.channel x.channel v (h.0 x k) ], h))
    (λ u v. (λ x m. elim (set_mem (λ (s : SenderSide). s.channel) new x ys m) [ inl e ↦ ap (λ (s : SenderSide). comes_before y.channel s.channel) e ∙ before_turned new.channel y.channel w v | inr k ↦ h.0 x k ], sorted_set new ys h.1)) refl) refl

off_sorted : (i : Ident) (sides : List SenderSide) → AreSorted sides → AreSorted (off_lists i sides)
off_sorted i [] h = tt
off_sorted i (y ∷ ys) h = (λ x m. let k = map_mem (off_list i) x ys m in ap (λ (s : SenderSide). comes_before y.channel s.channel) k.2 ∙ h.0 k.0 k.1, off_sorted i ys h.1)

sorted_kept : (c : Change) (p : Plain) → AreSorted p.channels.senders → AreSorted (apply c p).channels.senders
sorted_kept (Try name priority) p h = subst AreSorted (sym (tried_senders (condition (local_of name p.definitions) priority p) name p)) h
sorted_kept (SetSender channel d) p h = sorted_set (record { channel = channel; hardened = d }) p.channels.senders h
sorted_kept (Undoubt ident) p h = off_sorted ident p.channels.senders h
sorted_kept (SetBound channel true) p h = h
sorted_kept (SetBound channel false) p h = h
sorted_kept c p h = h

-- two of one name are one
pub one_side : (sides : List SenderSide) (s t : SenderSide) → AreSorted sides → Mem s sides → Mem t sides → s.channel ≡ t.channel → s ≡ t
one_side [] s t h m n e = absurd m
one_side (y ∷ ys) s t h (inl a) (inl b) e = a ∙ sym b
one_side (y ∷ ys) s t h (inl a) (inr n) e = absurd (cc (before_apart y.channel t.channel (h.0 t n), name_yes y.channel t.channel (sym (ap (λ (x : SenderSide). x.channel) a) ∙ e)))
one_side (y ∷ ys) s t h (inr m) (inl b) e = absurd (cc (before_apart y.channel s.channel (h.0 s m), name_yes y.channel s.channel (sym (ap (λ (x : SenderSide). x.channel) b) ∙ sym e)))
one_side (y ∷ ys) s t h (inr m) (inr n) e = one_side ys s t h.1 m n e

-- a side is what is found by its name
pub side_found : (sides : List SenderSide) (s : SenderSide) → AreSorted sides → Mem s sides → sender_in s.channel sides ≡ Some s.hardened
side_found [] s h m = absurd m
side_found (y ∷ ys) s h (inl e) = ap (λ (b : Bool). if b then Some y.hardened else sender_in s.channel ys) (ap (λ (x : SenderSide). bytes_eq s.channel x.channel) (sym e) ∙ name_self s.channel) ∙ ap (λ (x : SenderSide). Some x.hardened) (sym e)
side_found (y ∷ ys) s h (inr m) = ap (λ (b : Bool). if b then Some y.hardened else sender_in s.channel ys) (name_turned s.channel y.channel ∙ before_apart y.channel s.channel (h.0 s m)) ∙ side_found ys s h.1 m

-- Rows that units in doubt list

abbrev DoubtedIn : View → List SenderSide → Type 0
DoubtedIn v sides = (q : List ℕ) (h : Row) (s : SenderSide) → Mem h (v.rows q) → is_persistent h.message ≡ true → Mem s sides → Mem h.message.ident (listed s.hardened.in_doubt) → h.by ≡ Some (holders.Batch s.channel)

held_stays : (b : Bool) (by : Holder) (row : Row) (c : List ℕ) → row.by ≡ Some (holders.Batch c) → retag_if (b && is_free row) (Some by) row ≡ row
held_stays b by row c e = ap (λ (o : Option Holder). retag_if (b && is_free (record row { by = o })) (Some by) row) e ∙ at b
  where
    at : (b : Bool) → retag_if (b && false) (Some by) row ≡ row
    at true = refl
    at false = refl

retagged_message : (b : Bool) (by : Option Holder) (row : Row) → (retag_if b by row).message ≡ row.message
retagged_message true by row = refl
retagged_message false by row = refl

freed_ident : (counted : Bool) (row : Row) → ((freed counted row).message.ident ≡ row.message.ident) × (is_persistent (freed counted row).message ≡ is_persistent row.message)
freed_ident true row = (refl, refl)
freed_ident false row = (refl, refl)

release_doubt : (selected counted : Bool) (row : Row) (c : List ℕ) (sides : Ident → Type 0) → is_persistent (release_if (selected && not (is_free row)) counted row).message ≡ true → sides (release_if (selected && not (is_free row)) counted row).message.ident
    → (is_persistent row.message ≡ true → sides row.message.ident → row.by ≡ Some (holders.Batch c)) → (selected ≡ true → sides row.message.ident → row.by ≢ Some (holders.Batch c)) → (release_if (selected && not (is_free row)) counted row).by ≡ Some (holders.Batch c)
release_doubt false counted row c sides e m was asks = was e m
release_doubt true counted row c sides e m was asks = at (not (is_free row)) e m
  where
    at : (b : Bool) → is_persistent (release_if b counted row).message ≡ true → sides (release_if b counted row).message.ident → (release_if b counted row).by ≡ Some (holders.Batch c)
    at true e m =
        let k = freed_ident counted row in
        let l : sides row.message.ident = subst sides k.0 m in
        absurd (asks refl l (was (sym k.1 ∙ e) l))
    at false e m = was e m

rows_doubted : (c : Change) (p : Plain) (v : View) → v.rows ≡ (view p).rows → Asks c p → DoubtedIn v p.channels.senders → DoubtedIn (seen c p v) p.channels.senders
rows_doubted (Places name m) p v is a d q h s n e k l = elim (mem_inserted_at name (row_for name m p) v.rows q h n) [
  | inl z ↦ absurd (a.1 (sym (ap (λ (r : Row). is_persistent r.message) z.1) ∙ e) s k (subst (λ (r : Row). Mem r.message.ident (listed s.hardened.in_doubt)) z.1 l))
  | inr z ↦ d q h s z e k l
]
rows_doubted (Leave which) p v is a d q h s n e k l = d q h s (mem_keep (goes_if which q) h (v.rows q) n).0 e k l
rows_doubted (Hold which by) p v is a d q h s n e k l =
    let o = mem_retag (held_if which by q) h (v.rows q) n in
    let same : h.message ≡ o.0.message = ap (λ (r : Row). r.message) o.2 ∙ retagged_message (selects which q o.0 && is_free o.0) (Some by) o.0 in
    let was : o.0.by ≡ Some (holders.Batch s.channel) = d q o.0 s o.1 (sym (ap is_persistent same) ∙ e) k (subst (λ (m : Message). Mem m.ident (listed s.hardened.in_doubt)) same l) in
    ap (λ (r : Row). r.by) (o.2 ∙ held_stays (selects which q o.0) by o.0 s.channel was) ∙ was
rows_doubted (Release which counted) p v is a d q h s n e k l =
    let o = mem_retag (freed_if which counted q) h (v.rows q) n in
    let f : Row = release_if (selects which q o.0 && not (is_free o.0)) counted o.0 in
    ap (λ (r : Row). r.by) o.2 ∙ release_doubt (selects which q o.0) counted o.0 s.channel (λ (i : Ident). Mem i (listed s.hardened.in_doubt)) (sym (ap (λ (r : Row). is_persistent r.message) o.2) ∙ e) (subst (λ (r : Row). Mem r.message.ident (listed s.hardened.in_doubt)) o.2 l)
    (λ w m. d q o.0 s o.1 w k m) (λ w m. a q o.0 s (subst (λ (f : List ℕ → List Row). Mem o.0 (f q)) is o.1) w k m)
rows_doubted (Renew name) p v is a d q h s n e k l = bool_case (bytes_eq q name) (λ b. Mem h (if b then [] else v.rows q) → h.by ≡ Some (holders.Batch s.channel)) (λ z m. absurd m) (λ z m. d q h s m e k l) n
rows_doubted (DropQueue name) p v is a d q h s n e k l = absurd a
rows_doubted c p v is a d q h s n e k l = d q h s n e k l

abbrev SetsSender : Change → Type 0
SetsSender (SetSender channel d) = Unit {0}
SetsSender _ = ⊥

-- lists change: one is set, or lists lose an ident
sides_doubted : (c : Change) (p : Plain) (v : View) → Asks c p → ((q : List ℕ) (h : Row) → SetsSender c → Mem h (v.rows q) → Mem h ((view p).rows q)) → DoubtedIn v p.channels.senders → DoubtedIn v (apply c p).channels.senders
sides_doubted (Try name priority) p v a r d = subst (DoubtedIn v) (sym (tried_senders (condition (local_of name p.definitions) priority p) name p)) d
sides_doubted (SetSender channel x) p v a r d = λ q h s n e k l. elim (set_mem (λ (t : SenderSide). t.channel) (record { channel = channel; hardened = x }) s p.channels.senders k) [
  | inl z ↦ (a h.message.ident (subst (λ (t : SenderSide). Mem h.message.ident (listed t.hardened.in_doubt)) z l)).rows q h (r q h tt n) e refl ∙ ap (λ (t : SenderSide). Some (holders.Batch t.channel)) (sym z)
  | inr z ↦ d q h s n e z l
]
sides_doubted (Undoubt ident) p v a r d = λ q h s n e k l.
    let o = map_mem (off_list ident) s p.channels.senders k in
    d q h o.0 n e o.1 (less_listed ident h.message.ident o.0.hardened.in_doubt (subst (λ (t : SenderSide). Mem h.message.ident (listed t.hardened.in_doubt)) o.2 l)) ∙ ap (λ (t : SenderSide). Some (holders.Batch t.channel)) (sym o.2)
sides_doubted (SetBound channel true) p v a r d = d
sides_doubted (SetBound channel false) p v a r d = d
sides_doubted c p v a r d = d

set_rows : (c : Change) (p : Plain) (q : List ℕ) (h : Row) → SetsSender c → Mem h ((seen c p (view p)).rows q) → Mem h ((view p).rows q)
set_rows (SetSender channel d) p q h s m = m
set_rows c p q h s m = absurd s

-- what is still to be given was so before
tried_unborn : (b : Bool) (name : List ℕ) (i : Ident) (p : Plain) → is_unborn i (try_if b name p) ≡ is_unborn i p
tried_unborn true name i p = refl
tried_unborn false name i p = refl

counted_unborn : (i : Ident) (m n k : ℕ) → ((i.manager == m) && (nat_lt n i.incarnation || ((i.incarnation == n) && nat_lt (k + 1) i.number))) ≡ true
    → ((i.manager == m) && (nat_lt n i.incarnation || ((i.incarnation == n) && nat_lt k i.number))) ≡ true
counted_unborn i m n k e = grind (arith, nat_tests)

unborn_before : (c : Change) (p : Plain) (i : Ident) → is_unborn i (apply c p) ≡ true → is_unborn i p ≡ true
unborn_before (Try name priority) p i e = sym (tried_unborn (condition (local_of name p.definitions) priority p) name i p) ∙ e
unborn_before CountIdent p i e = counted_unborn i p.given.number p.numbers.incarnation p.numbers.idents e
unborn_before (SetBound channel true) p i e = e
unborn_before (SetBound channel false) p i e = e
unborn_before c p i e = e

given_not_set : (c : Change) (p : Plain) (i : Ident) → Asks c p → is_unborn i p ≡ true → NotSet i c
given_not_set (SetSender channel d) p i a e = λ m. cc (e, (a i m).given)
given_not_set c p i a e = tt

-- an uncommitted put's ident, behind a change
abbrev Unlisted : List SenderSide → Add → Type 0
Unlisted sides a = IsUnlisted a.message.ident sides

pend_unlisted : (c : Change) (p : Plain) → Asks c p → NewPut (Unlisted p.channels.senders) c
pend_unlisted (Pend n (Put queue m)) p a = a.2
pend_unlisted (Pend n (Take queue i persistent)) p a = tt
pend_unlisted c p a = tt

put_not_set : (c : Change) (p : Plain) (n : ℕ) (x : Add) → Asks c p → Mem x ((seen c p (view p)).puts n) → NotSet x.message.ident c
put_not_set (SetSender channel d) p n x a m = λ k. (a x.message.ident k).waits n x m refl
put_not_set c p n x a m = tt

pend_routed : (c : Change) (p : Plain) → Asks c p → NewPut (λ (x : Add). IsRoutedOn (local_of x.queue p.definitions) x.message) c
pend_routed (Pend n (Put queue m)) p a = a.0.1
pend_routed (Pend n (Take queue i persistent)) p a = tt
pend_routed c p a = tt

-- All of it. (What a change does to the view, and to definitions, is given.)
pub routed_on : (c : Change) (p : Plain) → Asks c p → (apply c p).definitions ≡ p.definitions → (view (apply c p)).rows ≡ (seen c p (view p)).rows → (view (apply c p)).puts ≡ (seen c p (view p)).puts
    → IsRouted p → IsRouted (apply c p)
routed_on c p a same rows puts s = record {
  rows = λ q h m. subst (λ (d : Definitions). IsFormed (local_of q d) h) (sym same) (rows_formed c p (view p) a s.rows q h (subst (λ (f : List ℕ → List Row). Mem h (f q)) rows m));
  puts = λ n x m. subst (λ (d : Definitions). IsRoutedOn (local_of x.queue d) x.message) (sym same)
      (puts_kept (λ (y : Add). IsRoutedOn (local_of y.queue p.definitions) y.message) c p (view p) (pend_routed c p a) s.puts n x (there n x m));
  led = led_kept c p (apply c p).definitions same a (subst (λ (d : Definitions). LedIn d p.connections) (sym same) s.led);
  given = λ i e. let k = unborn_before c p i e in unlisted_kept c p i (given_not_set c p i a k) (s.given i k);
  sorted = sorted_kept c p s.sorted;
  doubted = λ q h t m e k l. sides_doubted c p (seen c p (view p)) a (λ d x z n. set_rows c p d x z n) (rows_doubted c p (view p) refl a s.doubted) q h t (subst (λ (f : List ℕ → List Row). Mem h (f q)) rows m) e k l;
  waiting = λ n x m. unlisted_kept c p x.message.ident (put_not_set c p n x a (there n x m)) (puts_kept (Unlisted p.channels.senders) c p (view p) (pend_unlisted c p a) s.waiting n x (there n x m));
}
  where
    there : (n : ℕ) (x : Add) → Mem x ((view (apply c p)).puts n) → Mem x ((seen c p (view p)).puts n)
    there n x m = subst (λ (f : ℕ → List Add). Mem x (f n)) puts m
