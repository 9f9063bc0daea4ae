-- What leaves queues open that senders have open: over lists of changes, over parts, and what is bare.
use Rattle.std.proofs.Common.{ℕ, ◌≡◌, Bool, true, false, List, [], ◌∷◌, ◌++◌, refl, ap, sym, ◌∙◌}
use Rattle.std.proofs.lemmas.Bool.{not-true, true≢false}
use Rattle.std.specs.Prelude.{Option, Some, None, filter, if◌then◌else◌, is_some, not}
use Rattle.std.specs.Str.{bytes_eq}
use Rattle.mq_objects.specs.Names.{local_of}
use Rattle.mq_calls.specs.declared.records.LogRecord.{LogRecord}
use Rattle.mq_calls.specs.State.{Change, Plain}
use Rattle.mq_calls.specs.declared.state.Seizure.{Seizure}
use Rattle.mq_calls.specs.State.Change.{ForgetAll, Seize, SetBound, Try, Unseize}
use Rattle.mq_calls.specs.Reads.{seizure_of}
use Rattle.mq_calls.specs.Changes.{apply, comes_before, set_named, try_if}
use Rattle.mq_calls.specs.Condition.{condition}
use Rattle.mq_calls.specs.Steps.{Part, Step, do_all, logged}
use Rattle.mq_spec_manager.specs.Agents.{HasSeized}
use Rattle.mq_spec_node.specs.Deeds.{parts_of}
use Rattle.mq_law_manager.proofs.Lists.{bool_case, name_self, name_yes}
use Rattle.mq_law_seized.proofs.Each.{kept_behind, parts_behind, parts_keep, parts_weaker, step_weaker}
use Rattle.mq_law_keys.proofs.from_law_node.Quiet.{step_parts}
use Rattle.mq_law_seized.specs.Seized.{is_bare, step_bare}
use Rattle.mq_law_unshared.specs.Unshared.{is_still, is_still_for, parts_still, parts_still_for}

-- LISTS
pub for_behind : (c : List ℕ) (xs ys : List Part) → parts_still_for c xs ≡ true → parts_still_for c ys ≡ true → parts_still_for c (xs ++ ys) ≡ true
for_behind c xs ys a b = parts_behind (is_still_for c) xs ys a b

pub for_one : (c : List ℕ) (x : Change) → is_still x ≡ true → is_still_for c x ≡ true
for_one c (Unseize other) e = absurd cc
for_one c ForgetAll e = absurd cc
for_one c x e = refl

pub for_parts : (c : List ℕ) (xs : List Part) → parts_still xs ≡ true → parts_still_for c xs ≡ true
for_parts c xs e = parts_weaker is_still (is_still_for c) (for_one c) xs e

-- WHAT IS OPEN STAYS
has_two : (a b : Bool) (x y : Seizure) (o : Option Seizure) → (b ≡ true → a ≡ true) → is_some (if b then Some x else o) ≡ true → is_some (if a then Some y else o) ≡ true
has_two true b x y o f e = refl
has_two false true x y o f e = absurd (true≢false (sym (f refl)))
has_two false false x y o f e = e

set_has : (c : List ℕ) (new : Seizure) (ss : List Seizure) → is_some (seizure_of c ss) ≡ true → is_some (seizure_of c (set_named (λ (x : Seizure). x.channel) new ss)) ≡ true
set_has c new [] e = absurd cc
set_has c new (x ∷ xs) e = bool_case (bytes_eq new.channel x.channel)
    (λ b. bytes_eq new.channel x.channel ≡ b → is_some (seizure_of c (if b then new ∷ xs else (if comes_before new.channel x.channel then new ∷ x ∷ xs else x ∷ set_named (λ (x : Seizure). x.channel) new xs))) ≡ true)
    (λ z w. has_two (bytes_eq c new.channel) (bytes_eq c x.channel) x new (seizure_of c xs) (λ f. ap (bytes_eq c) (name_yes new.channel x.channel w) ∙ f) e)
    (λ z w. bool_case (comes_before new.channel x.channel) (λ b. is_some (seizure_of c (if b then new ∷ x ∷ xs else x ∷ set_named (λ (x : Seizure). x.channel) new xs)) ≡ true)
    (λ y. bool_case (bytes_eq c new.channel) (λ b. is_some (if b then Some new else seizure_of c (x ∷ xs)) ≡ true) (λ v. refl) (λ v. e))
    (λ y. bool_case (bytes_eq c x.channel) (λ b. is_some (if b then Some x else seizure_of c xs) ≡ true → is_some (if b then Some x else seizure_of c (set_named (λ (x : Seizure). x.channel) new xs)) ≡ true) (λ v f. refl) (λ v f. set_has c new xs f) e)) refl

pub set_there : (new : Seizure) (ss : List Seizure) → is_some (seizure_of new.channel (set_named (λ (x : Seizure). x.channel) new ss)) ≡ true
set_there new [] = ap (λ b. is_some (if b then Some new else None)) (name_self new.channel)
set_there new (x ∷ xs) = bool_case (bytes_eq new.channel x.channel)
    (λ b. is_some (seizure_of new.channel (if b then new ∷ xs else (if comes_before new.channel x.channel then new ∷ x ∷ xs else x ∷ set_named (λ (x : Seizure). x.channel) new xs))) ≡ true)
    (λ z. ap (λ b. is_some (if b then Some new else seizure_of new.channel xs)) (name_self new.channel))
    (λ z. bool_case (comes_before new.channel x.channel) (λ b. is_some (seizure_of new.channel (if b then new ∷ x ∷ xs else x ∷ set_named (λ (x : Seizure). x.channel) new xs)) ≡ true)
    (λ y. ap (λ b. is_some (if b then Some new else seizure_of new.channel (x ∷ xs))) (name_self new.channel))
    (λ y. bool_case (bytes_eq new.channel x.channel) (λ b. is_some (if b then Some x else seizure_of new.channel (set_named (λ (x : Seizure). x.channel) new xs)) ≡ true) (λ v. refl) (λ v. set_there new xs)))

less_has : (c other : List ℕ) (ss : List Seizure) → bytes_eq c other ≡ false → is_some (seizure_of c ss) ≡ true → is_some (seizure_of c (filter (λ (s : Seizure). not (bytes_eq other s.channel)) ss)) ≡ true
less_has c other [] apart e = absurd cc
less_has c other (x ∷ xs) apart e = bool_case (bytes_eq other x.channel)
    (λ b. bytes_eq other x.channel ≡ b → is_some (seizure_of c (if not b then x ∷ filter (λ (s : Seizure). not (bytes_eq other s.channel)) xs else filter (λ (s : Seizure). not (bytes_eq other s.channel)) xs)) ≡ true)
    (λ z w. less_has c other xs apart (sym (ap (λ b. is_some (if b then Some x else seizure_of c xs)) (ap (bytes_eq c) (sym (name_yes other x.channel w)) ∙ apart)) ∙ e))
    (λ z w. bool_case (bytes_eq c x.channel) (λ b. is_some (if b then Some x else seizure_of c xs) ≡ true → is_some (if b then Some x else seizure_of c (filter (λ (s : Seizure). not (bytes_eq other s.channel)) xs)) ≡ true) (λ v f. refl) (λ v f. less_has c other xs apart f) e) refl

tried_has : (c : List ℕ) (b : Bool) (name : List ℕ) (p : Plain) → HasSeized c p → HasSeized c (try_if b name p)
tried_has c true name p h = h
tried_has c false name p h = h

pub change_has : (c : List ℕ) (x : Change) (p : Plain) → is_still_for c x ≡ true → HasSeized c p → HasSeized c (apply x p)
change_has c (Unseize other) p e h = less_has c other p.channels.seizures (not-true (bytes_eq c other) e) h
change_has c (Seize s) p e h = set_has c s p.channels.seizures h
change_has c ForgetAll p e h = absurd cc
change_has c (Try name priority) p e h = tried_has c (condition (local_of name p.definitions) priority p) name p h
change_has c (SetBound channel true) p e h = h
change_has c (SetBound channel false) p e h = h
change_has c x p e h = h

logged_has : (c : List ℕ) (o : Option LogRecord) (p : Plain) → HasSeized c p → HasSeized c (logged o p)
logged_has c None p h = h
logged_has c (Some r) p h = h

pub parts_have : (c : List ℕ) (parts : List Part) (p : Plain) → parts_still_for c parts ≡ true → HasSeized c p → HasSeized c (do_all parts p)
parts_have c parts p e h = kept_behind (HasSeized c) parts p h (parts_keep (is_still_for c) (HasSeized c) (change_has c) (logged_has c) parts p e h)

-- WHAT IS BARE: what ends ask, and all calls but MQOPEN, MQGET and commands
bare_still : (c : Change) → is_bare c ≡ true → is_still c ≡ true
bare_still (Unseize channel) e = absurd cc
bare_still ForgetAll e = absurd cc
bare_still c e = refl

pub bare_parts : {F T : Type 0} (s : Step F T) → step_bare s ≡ true → parts_still (parts_of s) ≡ true
bare_parts s e = step_parts is_still s (step_weaker is_bare is_still bare_still s e)
