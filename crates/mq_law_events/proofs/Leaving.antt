-- MQDISC: a commit, and the connection is gone; and calls whose write is stopped.
use Rattle.std.proofs.Common.{ℕ, zero, suc, ◌≡◌, Bool, true, false, not, List, [], ◌∷◌, refl, ap, sym, subst, ◌∙◌}
use Rattle.std.specs.Prelude.{Option, Some, None, ◌==◌, if◌then◌else◌, filter}
use Rattle.std.proofs.Common.{arith}
use Rattle.std.proofs.lemmas.Bool.Decides.{nat_tests}
use Rattle.mq_message.specs.declared.message.Ident.{Ident}
use Rattle.mq_calls.specs.declared.answers.Hconn.{Hconn}
use Rattle.mq_calls.specs.declared.records.LogRecord.{LogRecord}
use Rattle.mq_calls.specs.declared.state.Connection.{Connection}
use Rattle.mq_calls.specs.declared.answers.Answer.TheVariants as answers
use Rattle.mq_law_seen.specs.from_history.ReplyVariants as replies
use Rattle.mq_calls.specs.State.{Plain, Change}
use Rattle.mq_calls.specs.State.Change.{Disconnect}
use Rattle.mq_calls.specs.Reads.{connection_at}
use Rattle.mq_calls.specs.Changes.{apply, change_connection}
use Rattle.mq_calls.specs.Steps.{Part, logged, do_part, note_of}
use Rattle.mq_calls.specs.Steps.Step.{Do}
use Rattle.mq_spec_manager.specs.Handles.{connected}
use Rattle.mq_spec_manager.specs.Units.{mqdisc, commit_part}
use Rattle.mq_law_seen.specs.from_spec_network.Ledger as ledgers
use Rattle.mq_law_seen.specs.from_spec_network.Ledger.{Ledger, when, is_ended, unit_of}
use Rattle.mq_law_seen.proofs.from_law_rows.Lists.{bool_case, eqb_yes}
use Rattle.mq_law_manager.proofs.Units.{found_number}
use Rattle.mq_law_events.specs.Tied.{IsTold, IsFresh, Follow}
use Rattle.mq_law_events.specs.Posting.{IsListed, StepFollows, StopFollows}
use Rattle.mq_law_events.proofs.Calling.{users_follow}
use Rattle.mq_law_events.proofs.Telling.{gone_told}
use Rattle.mq_law_events.proofs.Committing.{committed, commit_follows}
use Rattle.mq_law_events.proofs.Stopping.{freezes}
use Rattle.mq_law_events.proofs.Events.{for_live, lives, from_logged, fresh_logged, told_logged, live_logged, listed_logged, commit_is, commit_gone}
use Rattle.mq_law_events.proofs.Getting.{follow_then}

gone_unit : (n k : ℕ) (cs : List Connection) → unit_of (connection_at n cs) ≡ [] → unit_of (connection_at k (filter (λ (c : Connection). not (c.number == n)) cs)) ≡ unit_of (connection_at k cs)
gone_unit n k cs none = ap unit_of (gone k cs) ∙ bool_case (k == n) (λ t. (k == n) ≡ t → unit_of (if t then None else connection_at k cs) ≡ unit_of (connection_at k cs))
    (λ e f. sym (ap (λ z. unit_of (connection_at z cs)) (eqb_yes k n f) ∙ none)) (λ e f. refl) refl
  where
    not_one : (x n k : ℕ) → (x == n) ≡ true → (k == n) ≡ false → (x == k) ≡ false
    not_one x n k e w = grind (arith, nat_tests)

    other_one : (x n k : ℕ) → (x == n) ≡ false → (k == n) ≡ true → (x == k) ≡ false
    other_one x n k e w = grind (arith, nat_tests)

    gone : (k : ℕ) (cs : List Connection) → connection_at k (filter (λ (c : Connection). not (c.number == n)) cs) ≡ (if k == n then None else connection_at k cs)
    gone k [] = bool_case (k == n) (λ b. connection_at k [] ≡ (if b then None else None)) (λ e. refl) (λ e. refl)
    gone k (c ∷ cs) = bool_case (c.number == n)
        (λ b. connection_at k (if not b then c ∷ filter (λ (c : Connection). not (c.number == n)) cs else filter (λ (c : Connection). not (c.number == n)) cs) ≡ (if k == n then None else (if c.number == k then Some c else connection_at k cs)))
        (λ e. gone k cs ∙ bool_case (k == n) (λ b. (k == n) ≡ b → (if b then None else connection_at k cs) ≡ (if b then None else (if c.number == k then Some c else connection_at k cs))) (λ w z. refl) (λ w z. ap (λ (b : Bool). if b then Some c else connection_at k cs) (sym (not_one c.number n k e z))) refl)
        (λ e. ap (λ (o : Option Connection). if c.number == k then Some c else o) (gone k cs) ∙ bool_case (k == n) (λ b. (k == n) ≡ b → (if c.number == k then Some c else (if b then None else connection_at k cs)) ≡ (if b then None else (if c.number == k then Some c else connection_at k cs)))
        (λ w z. ap (λ (b : Bool). if b then Some c else None) (other_one c.number n k e z)) (λ w z. refl) refl)

pub disconnect_follows : (m : ℕ) (given : Ident → Bool) (p : Plain) (l : Ledger) (hc : Hconn) → IsFresh given p → IsTold m p l → unit_of (connection_at hc.number p.connections) ≡ []
    → Follow m given p l (apply (Disconnect hc.number) p) (ledgers.disconnect m hc l)
disconnect_follows m given p l hc f t none =
    let less : List Connection → List Connection = filter (λ (c : Connection). not (c.number == hc.number)) in
    users_follow m given p (less p.connections) p.numbers l less f t (λ k. gone_unit hc.number k p.connections none) (sym (gone_told hc.number p.connections))

pub ended_none : (n : ℕ) (cs : List Connection) → unit_of (connection_at n (change_connection n (λ c. record c { unit = [] }) cs)) ≡ []
ended_none n [] = refl
ended_none n (c ∷ cs) = bool_case (c.number == n) (λ t. (c.number == n) ≡ t → unit_of (connection_at n (if t then record c { unit = [] } ∷ cs else c ∷ change_connection n (λ c. record c { unit = [] }) cs)) ≡ [])
    (λ e z. ap (λ t. unit_of (if t then Some (record c { unit = [] }) else connection_at n cs)) z)
    (λ e z. ap (λ t. unit_of (if t then Some c else connection_at n (change_connection n (λ c. record c { unit = [] }) cs))) z ∙ ended_none n cs) refl

pub disconnects : (m : ℕ) (given : Ident → Bool) (p : Plain) (l : Ledger) (hc : Hconn) → IsFresh given p → IsTold m p l → IsListed hc.number p
    → StepFollows m given p l (λ reply ds k. when (is_ended (replies.Ended reply)) (λ x. ledgers.disconnect m hc (ledgers.commit m hc x)) k) (mqdisc hc p)
disconnects m given p l hc f t listed =
    for_live m given p l (λ reply ds k. when (is_ended (replies.Ended reply)) (λ x. ledgers.disconnect m hc (ledgers.commit m hc x)) k) (connected hc p) (λ c. Do (answers.Ok tt) (commit_part (Disconnect c.number ∷ []) c ∷ [])) (λ c e.
    let live = lives hc c p e in
    let number = found_number hc.number c p.connections live in
    let more : List Change = Disconnect c.number ∷ [] in
    let r : Option LogRecord = (commit_part more c).forced in
    let q : Plain = logged r p in
    let k : Ledger = ledgers.commit m hc l in
    let first = commit_follows m given q l hc c (fresh_logged given r p f) (told_logged m r p l t) (live_logged hc.number c r p live) (listed_logged hc.number r p listed) in
    let second = disconnect_follows m first.now (committed hc c q) k hc first.fresh first.told (ended_none hc.number _) in
    subst (λ z. Follow m given p l (do_part (commit_part more c) p) (ledgers.disconnect m hc (ledgers.commit m hc z))) (sym (commit_gone m more c l))
    (from_logged m given r p (do_part (commit_part more c) p) l (ledgers.disconnect m hc k)
    (subst (λ z. Follow m given q l z (ledgers.disconnect m hc k)) (sym (commit_is hc c more q number ∙ ap (λ n. apply (Disconnect n) (committed hc c q)) number))
    (follow_then m given q (committed hc c q) (apply (Disconnect hc.number) (committed hc c q)) l k (ledgers.disconnect m hc k) first second))))

-- One write, stopped

pub one_stops : (F : Type 0) {T : Type 0} (m : ℕ) (given : Ident → Bool) (p : Plain) (l : Ledger) (reply : T) (part : Part) → IsFresh given p → IsTold m p l → StopFollows {F = F} m given p l (Do reply (part ∷ []))
one_stops F m given p l reply part f t zero left w = freezes m given p l (note_of part part.forced) left f t
one_stops F m given p l reply part f t (suc n) left w = absurd w
