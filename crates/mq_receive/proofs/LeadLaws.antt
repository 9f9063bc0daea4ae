-- A batch, message by message.
use Rattle.std.proofs.Common.{◌≡◌, ℕ, Bool, true, false, List, [], ◌∷◌, ◌++◌, refl, ap, sym, subst, ◌∙◌}
use Rattle.std.specs.Prelude.{Result, Ok, Err, flat_map}
use Rattle.std.proofs.lemmas.Grind.{flat_map-append}
use Rattle.std.proofs.lemmas.List.{append-nil, append_assoc}
use Rattle.mq_calls.specs.Words.{Reason, Message, Plain, Change, apply_all}
use Rattle.mq_calls.specs.declared.deltas.Did.{Did}
use Rattle.mq_calls.specs.declared.deltas.Did.TheVariants as did
use Rattle.mq_spec_manager.specs.Agents.{Landing, Landed, Standing, land, landed, landed_by, landed_unless, before, nothing_landed, standing_at, is_present, drop_did}
use Rattle.mq_law_manager.proofs.Units.{behind}
use Rattle.mq_core.specs.declared.parts.Arrival.{Arrival}
use Rattle.mq_core.specs.Writes.{landing_of, standing_of, arrival_changes, arrival_adds, arrival_dids, all_landed}
use Rattle.mq_receive.specs.Leading.{IsBehind, Leads}

-- before any message has landed
pub leads_first : (whole : Result Landed Reason) → Leads whole [] whole
leads_first (Ok all) = record { all = all; is = refl; changes = refl; adds = refl; delta = refl }
leads_first (Err reason) = refl

-- one message more
moved : {A : Type 0} (f : Arrival → List A) (xs : List Arrival) (a : Arrival) (rest whole : List A) → whole ≡ flat_map f xs ++ (f a ++ rest) → whole ≡ flat_map f (xs ++ a ∷ []) ++ rest
moved f xs a rest whole e =
    e ∙ sym (append_assoc (flat_map f xs) (f a) rest)
    ∙ ap (λ ys. flat_map f xs ++ ys ++ rest) (sym (append-nil (f a)))
    ∙ ap (λ ys. ys ++ rest) (sym (flat_map-append f xs (a ∷ [])))

told_as : (a : Arrival) (rest : List Did) → drop_did a.message (standing_of a.dropped) ++ (did.Placed a.queue a.message.ident a.dead ∷ rest) ≡ arrival_dids a ++ rest
told_as a rest = sym (append_assoc (drop_did a.message (standing_of a.dropped)) (did.Placed a.queue a.message.ident a.dead ∷ []) rest)

behind_more : (whole : Result Landed Reason) (xs : List Arrival) (a : Arrival) (m : Message) (rest : Result Landed Reason) → Leads whole xs (before m (landing_of a) (standing_of a.dropped) rest) → Leads whole (xs ++ a ∷ []) rest
behind_more whole xs a m (Err reason) h = h
behind_more whole xs a m (Ok rest) h = record {
  all = h.all;
  is = h.is;
  changes = moved arrival_changes xs a rest.changes h.all.changes h.changes;
  adds = moved arrival_adds xs a rest.adds h.all.adds h.adds;
  delta = moved arrival_dids xs a rest.delta h.all.delta (h.delta ∙ ap (λ (ds : List Did). (all_landed xs).delta ++ ds) (told_as a rest.delta));
}

landed_at : Bool → List ℕ → Message → Standing → Plain → (rest : Plain → Result Landed Reason) → Result Landed Reason
landed_at b channel m s p rest = landed_unless b channel m s p rest

by_landing : Result Landing Reason → Message → Standing → Plain → (rest : Plain → Result Landed Reason) → Result Landed Reason
by_landing r m s p rest = landed_by r m s p rest

-- a message that stands here is left out
pub leads_over : (whole : Result Landed Reason) (xs : List Arrival) (channel : List ℕ) (m : Message) (ms : List Message) (p : Plain) → Leads whole xs (landed channel (m ∷ ms) p) → is_present (standing_at m p) ≡ true → Leads whole xs (landed channel ms p)
unfolding landed_at
leads_over whole xs channel m ms p h e = subst (Leads whole xs) (ap (λ (b : Bool). landed_at b channel m (standing_at m p) p (λ q. landed channel ms q)) e) h

-- one that is refused refuses its batch
pub leads_refused : (whole : Result Landed Reason) (xs : List Arrival) (channel : List ℕ) (m : Message) (ms : List Message) (p : Plain) (reason : Reason) → Leads whole xs (landed channel (m ∷ ms) p) → is_present (standing_at m p) ≡ false → land channel m p ≡ Err reason
    → whole ≡ Err reason
unfolding landed_at by_landing
leads_refused whole xs channel m ms p reason h e is =
    subst (Leads whole xs)
    (ap (λ (b : Bool). landed_at b channel m (standing_at m p) p (λ q. landed channel ms q)) e ∙ ap (λ (r : Result Landing Reason). by_landing r m (standing_at m p) p (λ q. landed channel ms q)) is) h

-- one that lands stands before the rest
pub leads_more : (whole : Result Landed Reason) (xs : List Arrival) (channel : List ℕ) (m : Message) (ms : List Message) (p : Plain) (a : Arrival) → Leads whole xs (landed channel (m ∷ ms) p) → is_present (standing_at m p) ≡ false → standing_at m p ≡ standing_of a.dropped
    → land channel m p ≡ Ok (landing_of a) → Leads whole (xs ++ a ∷ []) (landed channel ms (apply_all (arrival_changes a) p))
unfolding landed_at by_landing
leads_more whole xs channel m ms p a h e st is =
    behind_more whole xs a m (landed channel ms (apply_all (arrival_changes a) p))
    (subst (Leads whole xs)
    (ap (λ (b : Bool). landed_at b channel m (standing_at m p) p (λ q. landed channel ms q)) e ∙ ap (λ (r : Result Landing Reason). by_landing r m (standing_at m p) p (λ q. landed channel ms q)) is
    ∙ ap (λ (s : Standing). by_landing (Ok (landing_of a)) m s p (λ q. landed channel ms q)) st) h)

-- where none is left, the batch comes to the messages that landed
pub leads_last : (whole : Result Landed Reason) (xs : List Arrival) (channel : List ℕ) (p : Plain) → Leads whole xs (landed channel [] p) → IsBehind whole xs nothing_landed
leads_last whole xs channel p h = h

-- the state behind one message more
pub state_more : (xs : List Arrival) (a : Arrival) (p : Plain) → apply_all (all_landed (xs ++ a ∷ [])).changes p ≡ apply_all (arrival_changes a) (apply_all (all_landed xs).changes p)
state_more xs a p =
    ap (λ (cs : List Change). apply_all cs p) (flat_map-append arrival_changes xs (a ∷ []) ∙ ap (λ (cs : List Change). flat_map arrival_changes xs ++ cs) (append-nil (arrival_changes a)))
    ∙ behind (flat_map arrival_changes xs) (arrival_changes a) p
