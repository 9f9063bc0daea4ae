-- Calm changes: over lists, over parts, and over what ends ask of their manager.
use Rattle.std.proofs.Common.{ℕ, ◌≡◌, Bool, true, false, List, [], ◌∷◌, ◌++◌, refl, ap, sym, subst, ◌∙◌}
use Rattle.std.proofs.lemmas.Bool.{not-true}
use Rattle.std.specs.Prelude.{Option, Some, None, filter, if◌then◌else◌, not}
use Rattle.std.specs.Str.{bytes_eq}
use Rattle.mq_objects.specs.Names.{local_of}
use Rattle.mq_calls.specs.declared.records.LogRecord.{LogRecord}
use Rattle.mq_calls.specs.declared.state.Batch.{Batch}
use Rattle.mq_calls.specs.State.{Change, Plain}
use Rattle.mq_calls.specs.declared.state.Seizure.{Seizure}
use Rattle.mq_calls.specs.State.Change.{AddBatch, DropBatch, ForgetAll, Seize, SetBound, Try, Unseize}
use Rattle.mq_calls.specs.Reads.{batch_of, seizure_of}
use Rattle.mq_calls.specs.Changes.{apply, set_named, try_if}
use Rattle.mq_calls.specs.Condition.{condition}
use Rattle.mq_calls.specs.Steps.{Part, do_all, logged}
use Rattle.mq_spec_manager.specs.Agents.{queue_of_sender, seized_queue}
use Rattle.mq_law_manager.proofs.Lists.{bool_case, name_yes}
use Rattle.mq_law_seized.specs.Each.{is_common, is_written}
use Rattle.mq_law_seized.proofs.Each.{kept_behind, parts_behind, parts_keep, parts_weaker}
use Rattle.mq_law_queued.specs.Queued.{is_bare, is_calm, is_calm_for, parts_bare, parts_calm, parts_calm_for}
use Rattle.mq_law_manager.proofs.Named.{batch_set, found_named, named_set}

-- LISTS
pub for_behind : (c : List ℕ) (xs ys : List Part) → parts_calm_for c xs ≡ true → parts_calm_for c ys ≡ true → parts_calm_for c (xs ++ ys) ≡ true
for_behind c xs ys a b = parts_behind (is_calm_for c) xs ys a b

pub for_one : (c : List ℕ) (x : Change) → is_calm x ≡ true → is_calm_for c x ≡ true
for_one c (Seize s) e = absurd cc
for_one c (Unseize other) e = absurd cc
for_one c (AddBatch b) e = absurd cc
for_one c (DropBatch other) e = absurd cc
for_one c ForgetAll e = absurd cc
for_one c x e = refl

pub for_parts : (c : List ℕ) (xs : List Part) → parts_calm xs ≡ true → parts_calm_for c xs ≡ true
for_parts c xs e = parts_weaker is_calm (is_calm_for c) (for_one c) xs e

-- WHAT STAYS
abbrev queue_at : List ℕ → List Seizure → List ℕ
queue_at c ss = seized_queue (seizure_of c ss)

seizure_found : (c : List ℕ) (ss : List Seizure) → seizure_of c ss ≡ found_named (λ (s : Seizure). s.channel) (λ (s : Seizure). Some s) None c ss
seizure_found c [] = refl
seizure_found c (s ∷ ss) = ap (λ (o : Option Seizure). if bytes_eq c s.channel then Some s else o) (seizure_found c ss)

seizure_set : (c : List ℕ) (new : Seizure) (ss : List Seizure) → bytes_eq c new.channel ≡ false → seizure_of c (set_named (λ (x : Seizure). x.channel) new ss) ≡ seizure_of c ss
seizure_set c new ss apart =
    seizure_found c (set_named (λ (x : Seizure). x.channel) new ss)
    ∙ named_set (λ (s : Seizure). s.channel) (λ (s : Seizure). Some s) None c new ss
    ∙ ap (λ (b : Bool). if b then Some new else found_named (λ (s : Seizure). s.channel) (λ (s : Seizure). Some s) None c ss) apart
    ∙ sym (seizure_found c ss)

seizure_less : (c other : List ℕ) (ss : List Seizure) → bytes_eq c other ≡ false → seizure_of c (filter (λ (s : Seizure). not (bytes_eq other s.channel)) ss) ≡ seizure_of c ss
seizure_less c other [] apart = refl
seizure_less c other (x ∷ xs) apart = bool_case (bytes_eq other x.channel)
    (λ b. bytes_eq other x.channel ≡ b → seizure_of c (if not b then x ∷ filter (λ (s : Seizure). not (bytes_eq other s.channel)) xs else filter (λ (s : Seizure). not (bytes_eq other s.channel)) xs) ≡ seizure_of c (x ∷ xs))
    (λ z w. seizure_less c other xs apart ∙ sym (ap (λ b. if b then Some x else seizure_of c xs) (ap (bytes_eq c) (sym (name_yes other x.channel w)) ∙ apart)))
    (λ z w. ap (λ (o : Option Seizure). if bytes_eq c x.channel then Some x else o) (seizure_less c other xs apart)) refl

batch_apart : (c : List ℕ) (new : Batch) (bs : List Batch) → bytes_eq c new.channel ≡ false → batch_of c (set_named (λ (x : Batch). x.channel) new bs) ≡ batch_of c bs
batch_apart c new bs apart = batch_set c new bs ∙ ap (λ (b : Bool). if b then Some new else batch_of c bs) apart

batch_less : (c other : List ℕ) (bs : List Batch) → bytes_eq c other ≡ false → batch_of c (filter (λ (b : Batch). not (bytes_eq other b.channel)) bs) ≡ batch_of c bs
batch_less c other [] apart = refl
batch_less c other (x ∷ xs) apart = bool_case (bytes_eq other x.channel)
    (λ b. bytes_eq other x.channel ≡ b → batch_of c (if not b then x ∷ filter (λ (s : Batch). not (bytes_eq other s.channel)) xs else filter (λ (s : Batch). not (bytes_eq other s.channel)) xs) ≡ batch_of c (x ∷ xs))
    (λ z w. batch_less c other xs apart ∙ sym (ap (λ b. if b then Some x else batch_of c xs) (ap (bytes_eq c) (sym (name_yes other x.channel w)) ∙ apart)))
    (λ z w. ap (λ (o : Option Batch). if bytes_eq c x.channel then Some x else o) (batch_less c other xs apart)) refl

-- without its batch a channel has none
pub batch_gone : (c : List ℕ) (bs : List Batch) → batch_of c (filter (λ (b : Batch). not (bytes_eq c b.channel)) bs) ≡ None
batch_gone c [] = refl
batch_gone c (x ∷ xs) = bool_case (bytes_eq c x.channel)
    (λ b. bytes_eq c x.channel ≡ b → batch_of c (if not b then x ∷ filter (λ (s : Batch). not (bytes_eq c s.channel)) xs else filter (λ (s : Batch). not (bytes_eq c s.channel)) xs) ≡ None)
    (λ z w. batch_gone c xs) (λ z w. ap (λ b. if b then Some x else batch_of c (filter (λ (s : Batch). not (bytes_eq c s.channel)) xs)) w ∙ batch_gone c xs) refl

batch_none : (c other : List ℕ) (bs : List Batch) → batch_of c bs ≡ None → batch_of c (filter (λ (b : Batch). not (bytes_eq other b.channel)) bs) ≡ None
batch_none c other bs none = bool_case (bytes_eq c other) (λ b. bytes_eq c other ≡ b → batch_of c (filter (λ (x : Batch). not (bytes_eq other x.channel)) bs) ≡ None)
    (λ z w. subst (λ (o : List ℕ). batch_of c (filter (λ (x : Batch). not (bytes_eq o x.channel)) bs) ≡ None) (name_yes c other w) (batch_gone c bs))
    (λ z w. batch_less c other bs w ∙ none) refl

-- a channel's batch, and its sender's queue
abbrev pub batch_at : List ℕ → Plain → Option Batch
batch_at c p = batch_of c p.channels.batches

abbrev pub Same : List ℕ → Plain → Plain → Type 0
Same c p q = (batch_at c q ≡ batch_at c p) × (queue_of_sender c q ≡ queue_of_sender c p)

tried_same : (c : List ℕ) (b : Bool) (name : List ℕ) (p : Plain) → Same c p (try_if b name p)
tried_same c true name p = (refl, refl)
tried_same c false name p = (refl, refl)

change_same : (c : List ℕ) (x : Change) (p : Plain) → is_calm_for c x ≡ true → Same c p (apply x p)
change_same c (Seize s) p e = (refl, ap seized_queue (seizure_set c s p.channels.seizures (not-true (bytes_eq c s.channel) e)))
change_same c (Unseize other) p e = (refl, ap seized_queue (seizure_less c other p.channels.seizures (not-true (bytes_eq c other) e)))
change_same c (AddBatch b) p e = (batch_apart c b p.channels.batches (not-true (bytes_eq c b.channel) e), refl)
change_same c (DropBatch other) p e = (batch_less c other p.channels.batches (not-true (bytes_eq c other) e), refl)
change_same c ForgetAll p e = absurd cc
change_same c (Try name priority) p e = tried_same c (condition (local_of name p.definitions) priority p) name p
change_same c (SetBound channel true) p e = (refl, refl)
change_same c (SetBound channel false) p e = (refl, refl)
change_same c x p e = (refl, refl)

then_same : (c : List ℕ) (p q r : Plain) → Same c p q → Same c q r → Same c p r
then_same c p q r a b = (b.0 ∙ a.0, b.1 ∙ a.1)

logged_same : (c : List ℕ) (o : Option LogRecord) (p : Plain) → Same c p (logged o p)
logged_same c None p = (refl, refl)
logged_same c (Some r) p = (refl, refl)

pub parts_same : (c : List ℕ) (parts : List Part) (p : Plain) → parts_calm_for c parts ≡ true → Same c p (do_all parts p)
parts_same c parts p e = kept_behind (Same c p) parts p (refl, refl) (parts_keep (is_calm_for c) (Same c p) (λ x q w s. then_same c p q (apply x q) s (change_same c x q w))
    (λ o q s. then_same c p q (logged o q) s (logged_same c o q)) parts p e (refl, refl))

-- none stays none
tried_bare : (c : List ℕ) (b : Bool) (name : List ℕ) (p : Plain) → batch_at c p ≡ None → batch_at c (try_if b name p) ≡ None
tried_bare c true name p h = h
tried_bare c false name p h = h

change_bare : (c : List ℕ) (x : Change) (p : Plain) → is_bare x ≡ true → batch_at c p ≡ None → batch_at c (apply x p) ≡ None
change_bare c (AddBatch b) p e h = absurd cc
change_bare c (DropBatch other) p e h = batch_none c other p.channels.batches h
change_bare c ForgetAll p e h = refl
change_bare c (Try name priority) p e h = tried_bare c (condition (local_of name p.definitions) priority p) name p h
change_bare c (SetBound channel true) p e h = h
change_bare c (SetBound channel false) p e h = h
change_bare c x p e h = h

pub parts_none : (c : List ℕ) (parts : List Part) (p : Plain) → parts_bare parts ≡ true → batch_at c p ≡ None → batch_at c (do_all parts p) ≡ None
parts_none c parts p e h = kept_behind (λ q. batch_at c q ≡ None) parts p h (parts_keep is_bare (λ q. batch_at c q ≡ None) (change_bare c) (λ o q g. (logged_same c o q).0 ∙ g) parts p e h)

bare_one : (x : Change) → is_calm x ≡ true → is_bare x ≡ true
bare_one (AddBatch b) e = absurd cc
bare_one x e = refl

pub bare_parts : (xs : List Part) → parts_calm xs ≡ true → parts_bare xs ≡ true
bare_parts xs e = parts_weaker is_calm is_bare bare_one xs e

pub bare_behind : (xs ys : List Part) → parts_bare xs ≡ true → parts_bare ys ≡ true → parts_bare (xs ++ ys) ≡ true
bare_behind xs ys a b = parts_behind is_bare xs ys a b

-- WHAT IS COMMON OR WRITTEN is calm
pub common_calm : (c : Change) → is_common c ≡ true → is_calm c ≡ true
common_calm (Seize s) e = absurd cc
common_calm (Unseize channel) e = absurd cc
common_calm (AddBatch b) e = absurd cc
common_calm (DropBatch channel) e = absurd cc
common_calm ForgetAll e = absurd cc
common_calm c e = refl

pub written_calm : (c : Change) → is_written c ≡ true → is_calm c ≡ true
written_calm (Seize s) e = absurd cc
written_calm (Unseize channel) e = absurd cc
written_calm (AddBatch b) e = absurd cc
written_calm (DropBatch channel) e = absurd cc
written_calm ForgetAll e = absurd cc
written_calm c e = refl
