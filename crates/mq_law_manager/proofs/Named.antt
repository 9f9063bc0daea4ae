-- Lists keyed by names: what is set, added, dropped or mapped is found, and nothing else changes.
use Rattle.std.proofs.Common.{ℕ, ◌≡◌, Bool, true, false, List, [], ◌∷◌, refl, ap, sym, ◌∙◌, subst}
use Rattle.std.specs.Prelude.{Option, Some, None, if◌then◌else◌, filter, not, map}
use Rattle.std.specs.Str.{bytes_eq}
use Rattle.std.proofs.lemmas.Slice.Eq.{bytes_eq-Decides}
use Rattle.mq_message.specs.declared.message.Ident.{Ident}
use Rattle.mq_sync.specs.declared.data.SenderData.{SenderData}
use Rattle.mq_sync.specs.declared.data.ReceiverData.{ReceiverData}
use Rattle.mq_calls.specs.State.{Queue, fresh_queue}
use Rattle.mq_calls.specs.declared.state.SenderSide.{SenderSide}
use Rattle.mq_calls.specs.declared.state.ReceiverSide.{ReceiverSide}
use Rattle.mq_calls.specs.declared.state.Batch.{Batch}
use Rattle.mq_calls.specs.Reads.{sender_in, receiver_in, queue_in, batch_of, in_doubt_of}
use Rattle.mq_calls.specs.Changes.{set_sender, set_receiver, set_queue, set_named, comes_before, less_ident, off_list, off_lists}
use Rattle.mq_law_manager.proofs.Lists.{bool_case}

pub name_is : (a b : List ℕ) → bytes_eq a b ≡ true → a ≡ b
name_is a b e = (bytes_eq-Decides a b).0 e

pub name_self : (a : List ℕ) → bytes_eq a a ≡ true
name_self a = (bytes_eq-Decides a a).1 refl

pub name_yes : (a b : List ℕ) → a ≡ b → bytes_eq a b ≡ true
name_yes a b e = (bytes_eq-Decides a b).1 e

pub name_turned : (a b : List ℕ) → bytes_eq a b ≡ bytes_eq b a
name_turned a b = bool_case (bytes_eq a b) (λ t. t ≡ bytes_eq b a) (λ e. sym (name_yes b a (sym (name_is a b e))))
    (λ e. bool_case (bytes_eq b a) (λ t. bytes_eq b a ≡ t → false ≡ t) (λ z w. absurd (cc (e, name_yes a b (sym (name_is b a z))))) (λ z w. refl) refl)

-- two names of which one is the key of an entry and one is not
pub name_apart : (a b c : List ℕ) → bytes_eq b c ≡ false → bytes_eq a c ≡ true → bytes_eq a b ≡ false
name_apart a b c x y = bool_case (bytes_eq a b) (λ t. bytes_eq a b ≡ t → t ≡ false) (λ z w. absurd (cc (x, name_yes b c (sym (name_is a b z) ∙ name_is a c y)))) (λ z w. refl) refl

-- an entry of another key stands before the one that was set
pub set_behind : {A : Type 0} (channel other key : List ℕ) (new here rest : A) → bytes_eq other key ≡ false
    → (if bytes_eq channel key then here else (if bytes_eq channel other then new else rest)) ≡ (if bytes_eq channel other then new else (if bytes_eq channel key then here else rest))
set_behind {A} channel other key new here rest e = bool_case (bytes_eq channel key) (λ (b : Bool). (if b then here else (if bytes_eq channel other then new else rest)) ≡ (if bytes_eq channel other then new else (if b then here else rest)))
    (λ z. ap (λ (b : Bool). if b then new else here) (sym (name_apart channel other key e z)))
    (λ z. refl)

-- the entry of the key is replaced
pub set_here : {A : Type 0} (channel other key : List ℕ) (new here rest : A) → bytes_eq other key ≡ true
    → (if bytes_eq channel other then new else rest) ≡ (if bytes_eq channel other then new else (if bytes_eq channel key then here else rest))
set_here {A} channel other key new here rest e = subst (λ (x : List ℕ). (if bytes_eq channel other then new else rest) ≡ (if bytes_eq channel other then new else (if bytes_eq channel x then here else rest))) (name_is other key e)
    (bool_case (bytes_eq channel other) (λ (b : Bool). (if b then new else rest) ≡ (if b then new else (if b then here else rest))) (λ z. refl) (λ z. refl))

-- What is looked up by name in a list that is sorted by name: the first entry of the name.
abbrev pub found_named : {A B : Type 0} → (A → List ℕ) → (A → B) → B → List ℕ → List A → B
found_named name value none channel [] = none
found_named name value none channel (x ∷ xs) = if bytes_eq channel (name x) then value x else found_named name value none channel xs

pub named_set : {A B : Type 0} (name : A → List ℕ) (value : A → B) (none : B) (channel : List ℕ) (new : A) (xs : List A)
    → found_named name value none channel (set_named name new xs) ≡ (if bytes_eq channel (name new) then value new else found_named name value none channel xs)
named_set name value none channel new [] = refl
named_set {A} {B} name value none channel new (x ∷ xs) = bool_case (bytes_eq (name new) (name x))
    (λ b. found_named name value none channel (if b then new ∷ xs else (if comes_before (name new) (name x) then new ∷ x ∷ xs else x ∷ set_named name new xs))
    ≡ (if bytes_eq channel (name new) then value new else (if bytes_eq channel (name x) then value x else found_named name value none channel xs)))
    (λ e. set_here channel (name new) (name x) (value new) (value x) (found_named name value none channel xs) e)
    (λ e. bool_case (comes_before (name new) (name x))
    (λ b. found_named name value none channel (if b then new ∷ x ∷ xs else x ∷ set_named name new xs)
    ≡ (if bytes_eq channel (name new) then value new else (if bytes_eq channel (name x) then value x else found_named name value none channel xs)))
    (λ z. refl)
    (λ z. ap (λ (r : B). if bytes_eq channel (name x) then value x else r) (named_set name value none channel new xs)
    ∙ set_behind channel (name new) (name x) (value new) (value x) (found_named name value none channel xs) e))

pub sender_found : (channel : List ℕ) (ss : List SenderSide) → sender_in channel ss ≡ found_named (λ (s : SenderSide). s.channel) (λ (s : SenderSide). Some s.hardened) None channel ss
sender_found channel [] = refl
sender_found channel (s ∷ ss) = ap (λ (o : Option SenderData). if bytes_eq channel s.channel then Some s.hardened else o) (sender_found channel ss)

pub receiver_found : (channel : List ℕ) (ss : List ReceiverSide) → receiver_in channel ss ≡ found_named (λ (s : ReceiverSide). s.channel) (λ (s : ReceiverSide). Some s.hardened) None channel ss
receiver_found channel [] = refl
receiver_found channel (s ∷ ss) = ap (λ (o : Option ReceiverData). if bytes_eq channel s.channel then Some s.hardened else o) (receiver_found channel ss)

pub batch_found : (channel : List ℕ) (bs : List Batch) → batch_of channel bs ≡ found_named (λ (b : Batch). b.channel) (λ (b : Batch). Some b) None channel bs
batch_found channel [] = refl
batch_found channel (b ∷ bs) = ap (λ (o : Option Batch). if bytes_eq channel b.channel then Some b else o) (batch_found channel bs)

pub sender_set : (channel other : List ℕ) (d : SenderData) (ss : List SenderSide)
    → sender_in channel (set_sender (record { channel = other; hardened = d }) ss) ≡ (if bytes_eq channel other then Some d else sender_in channel ss)
sender_set channel other d ss = sender_found channel (set_sender (record { channel = other; hardened = d }) ss)
    ∙ named_set (λ (s : SenderSide). s.channel) (λ (s : SenderSide). Some s.hardened) None channel (record { channel = other; hardened = d }) ss
    ∙ ap (λ (o : Option SenderData). if bytes_eq channel other then Some d else o) (sym (sender_found channel ss))

pub receiver_set : (channel other : List ℕ) (d : ReceiverData) (rs : List ReceiverSide)
    → receiver_in channel (set_receiver (record { channel = other; hardened = d }) rs) ≡ (if bytes_eq channel other then Some d else receiver_in channel rs)
receiver_set channel other d rs = receiver_found channel (set_receiver (record { channel = other; hardened = d }) rs)
    ∙ named_set (λ (s : ReceiverSide). s.channel) (λ (s : ReceiverSide). Some s.hardened) None channel (record { channel = other; hardened = d }) rs
    ∙ ap (λ (o : Option ReceiverData). if bytes_eq channel other then Some d else o) (sym (receiver_found channel rs))

pub batch_set : (channel : List ℕ) (b : Batch) (bs : List Batch) → batch_of channel (set_named (λ (x : Batch). x.channel) b bs) ≡ (if bytes_eq channel b.channel then Some b else batch_of channel bs)
batch_set channel b bs = batch_found channel (set_named (λ (x : Batch). x.channel) b bs)
    ∙ named_set (λ (x : Batch). x.channel) (λ (x : Batch). Some x) None channel b bs
    ∙ ap (λ (o : Option Batch). if bytes_eq channel b.channel then Some b else o) (sym (batch_found channel bs))

-- an ident that no unit in doubt has any more
pub doubt_less : (channel : List ℕ) (ident : Ident) (ss : List SenderSide) → in_doubt_of (sender_in channel (off_lists ident ss)) ≡ less_ident ident (in_doubt_of (sender_in channel ss))
doubt_less channel ident [] = refl
doubt_less channel ident (s ∷ ss) = bool_case (bytes_eq channel s.channel)
    (λ b. in_doubt_of (if b then Some (off_list ident s).hardened else sender_in channel (off_lists ident ss)) ≡ less_ident ident (in_doubt_of (if b then Some s.hardened else sender_in channel ss)))
    (λ e. refl) (λ e. doubt_less channel ident ss)

pub queue_set : (name : List ℕ) (new : Queue) (qs : List Queue) → queue_in name (set_queue new qs) ≡ (if bytes_eq name new.name then new else queue_in name qs)
queue_set name new [] = refl
queue_set name new (q ∷ qs) = bool_case (bytes_eq new.name q.name)
    (λ b. queue_in name (if b then new ∷ qs else q ∷ set_queue new qs) ≡ (if bytes_eq name new.name then new else (if bytes_eq name q.name then q else queue_in name qs)))
    (λ e. set_here name new.name q.name new q (queue_in name qs) e)
    (λ e. ap (λ (x : Queue). if bytes_eq name q.name then q else x) (queue_set name new qs) ∙ set_behind name new.name q.name new q (queue_in name qs) e)

-- a stored queue has the name by which it is found
pub found_name : (name : List ℕ) (qs : List Queue) → (queue_in name qs).name ≡ name
found_name name [] = refl
found_name name (q ∷ qs) = bool_case (bytes_eq name q.name) (λ b. (if b then q else queue_in name qs).name ≡ name) (λ e. sym (name_is name q.name e)) (λ e. found_name name qs)

pub queue_dropped : (name other : List ℕ) (qs : List Queue) → queue_in name (filter (λ (q : Queue). not (bytes_eq other q.name)) qs) ≡ (if bytes_eq name other then fresh_queue name else queue_in name qs)
queue_dropped name other [] = bool_case (bytes_eq name other) (λ b. fresh_queue name ≡ (if b then fresh_queue name else fresh_queue name)) (λ e. refl) (λ e. refl)
queue_dropped name other (q ∷ qs) = bool_case (bytes_eq other q.name)
    (λ b. queue_in name (if not b then q ∷ filter (λ (x : Queue). not (bytes_eq other x.name)) qs else filter (λ (x : Queue). not (bytes_eq other x.name)) qs)
    ≡ (if bytes_eq name other then fresh_queue name else (if bytes_eq name q.name then q else queue_in name qs)))
    (λ e. queue_dropped name other qs ∙ set_here name other q.name (fresh_queue name) q (queue_in name qs) e)
    (λ e. ap (λ (x : Queue). if bytes_eq name q.name then q else x) (queue_dropped name other qs) ∙ set_behind name other q.name (fresh_queue name) q (queue_in name qs) e)

-- the queue of a name after rows are held
pub queue_mapped : (f : Queue → Queue) (name : List ℕ) (qs : List Queue) → ((q : Queue) → (f q).name ≡ q.name) → f (fresh_queue name) ≡ fresh_queue name → queue_in name (map f qs) ≡ f (queue_in name qs)
queue_mapped f name [] h k = sym k
queue_mapped f name (q ∷ qs) h k = ap (λ (x : List ℕ). if bytes_eq name x then f q else queue_in name (map f qs)) (h q)
    ∙ bool_case (bytes_eq name q.name) (λ b. (if b then f q else queue_in name (map f qs)) ≡ f (if b then q else queue_in name qs)) (λ e. refl) (λ e. queue_mapped f name qs h k)

abbrev none_at : Option Batch
none_at = None

pub batch_dropped : (channel other : List ℕ) (bs : List Batch) → batch_of channel (filter (λ (b : Batch). not (bytes_eq other b.channel)) bs) ≡ (if bytes_eq channel other then None else batch_of channel bs)
batch_dropped channel other [] = bool_case (bytes_eq channel other) (λ t. none_at ≡ (if t then None else None)) (λ e. refl) (λ e. refl)
batch_dropped channel other (x ∷ xs) = bool_case (bytes_eq other x.channel)
    (λ t. batch_of channel (if not t then x ∷ filter (λ (b : Batch). not (bytes_eq other b.channel)) xs else filter (λ (b : Batch). not (bytes_eq other b.channel)) xs)
    ≡ (if bytes_eq channel other then None else (if bytes_eq channel x.channel then Some x else batch_of channel xs)))
    (λ e. batch_dropped channel other xs ∙ set_here channel other x.channel (none_at) (Some x) (batch_of channel xs) e)
    (λ e. ap (λ (o : Option Batch). if bytes_eq channel x.channel then Some x else o) (batch_dropped channel other xs)
    ∙ set_behind channel other x.channel (none_at) (Some x) (batch_of channel xs) e)
