-- Histories one entry longer: what is known of them holds of them before; and what an event of a PUMP leaves where its manager stays up.
use Rattle.std.proofs.Common.{◌≡◌, ◌⊎◌, ℕ, zero, suc, Bool, true, false, List, [], ◌∷◌, ◌++◌, refl, sym, ap, subst, ◌∙◌, append_assoc, arith, inl, inr}
use Rattle.std.specs.Prelude.{if◌then◌else◌, Option, None, Some, ◌==◌, is_some, not}
use Rattle.mq_calls.specs.declared.choices.Choice.TheVariants.{NoMemory, Runs, Stopped}
use Rattle.mq_frame.specs.declared.frame.Seen.{Seen}
use Rattle.mq_history.specs.declared.calls.Actor.{Actor}
use Rattle.mq_history.specs.declared.calls.Call.{Call}
use Rattle.mq_history.specs.declared.calls.Call.TheVariants as calls
use Rattle.mq_history.specs.declared.calls.Chance.{Chance}
use Rattle.mq_history.specs.declared.calls.Chance.TheVariants as chances
use Rattle.mq_history.specs.declared.calls.Entry.{Entry}
use Rattle.mq_history.specs.declared.calls.Reply.{Reply}
use Rattle.mq_calls.specs.State.{Plain, Running}
use Rattle.mq_calls.specs.State.Running.{Down, Up}
use Rattle.mq_calls.specs.Steps.{IsWrite, Part, do_part, stopped_at}
use Rattle.mq_spec_node.specs.Node.{Node}
use Rattle.mq_spec_node.specs.Deeds.{CanWant, Deed, Done, done}
use Rattle.mq_spec_node.specs.Happens.{IsDeed, IsEvent, choice_event, deed_of, event, remembering, trigger_deed}
use Rattle.mq_spec_node.specs.Replays.{Follows, Tells, after, done_by}
use Rattle.mq_spec_network.specs.Turns.{Network, does, node_at, node_of}
use Rattle.mq_spec_network.specs.Steps.{none_due}
use Rattle.mq_law_node.proofs.Named.{bool_case, nat_self}
use Rattle.mq_law_node.proofs.NearTotal.{remembered_ends}
use Rattle.mq_law_pump.specs.Entries.{Ran}
use Rattle.mq_law_pump.specs.Fit.{Good, IsFit}
use Rattle.mq_law_pump.specs.Steady.{IsPumped}

-- ONE ENTRY MORE
pub here_done : (w : Network) (m : ℕ) (e : Entry) → (does m (e ∷ []) w).done m ≡ w.done m ++ e ∷ []
here_done w m e = ap (λ (b : Bool). if b then w.done m ++ e ∷ [] else w.done m) (nat_self m)

pub else_done : (w : Network) (m : ℕ) (e : Entry) (j : ℕ) → (j == m) ≡ false → (does m (e ∷ []) w).done j ≡ w.done j
else_done w m e j is = ap (λ (b : Bool). if b then w.done j ++ e ∷ [] else w.done j) is

pub after_more : (n : Node) (xs ys : List Entry) → after n (xs ++ ys) ≡ after (after n xs) ys
after_more n [] ys = refl
after_more n (x ∷ xs) ys = after_more (done_by x n).next xs ys

pub follows_front : (n : Node) (last : ℕ) (xs ys : List Entry) → Follows n last (xs ++ ys) → Follows n last xs
follows_front n last [] ys h = tt
follows_front n last (x ∷ xs) ys h = (h.0, follows_front (done_by x n).next x.stamp xs ys h.1)

pub tells_last : (n : Node) (last : ℕ) (xs : List Entry) (e : Entry) → Follows n last (xs ++ e ∷ []) → (stamp : ℕ) × Tells (after n xs) stamp e
tells_last n last [] e h = (last, h.0)
tells_last n last (x ∷ xs) e h = tells_last (done_by x n).next x.stamp xs e h.1

-- WHERE A MANAGER IS DOWN
off : (actor : Actor) (call : Call) (chance : Chance) (o : Option Deed) (n : Node) → o ≡ None → (remembering actor call (choice_event chance o n)).next.manager ≡ n.manager
off actor call (chances.Call choice) None n e = refl
off actor call (chances.Call choice) (Some d) n e = absurd cc
off actor call (chances.Restart choice) o n e = refl
off actor call (chances.Foreign image length left) o n e = refl

deed_down : (stamp : ℕ) (actor : Actor) (call : Call) (seen : Seen) (n : Node) (r : Running) → IsPumped call → n.manager.running ≡ r → (r ≡ Up) ⊎ (deed_of stamp actor call seen n ≡ None)
deed_down stamp actor call seen n Up p is = inl refl
deed_down stamp actor call seen n (Down noted starts) (inl call_is) is = inr (grind arith)
deed_down stamp actor call seen n (Down noted starts) (inr (inl call_is)) is = inr (grind arith)
deed_down stamp actor call seen n (Down noted starts) (inr (inr call_is)) is = inr (grind arith)

event_is : (stamp : ℕ) (actor : Actor) (call : Call) (chance : Chance) (seen : Seen) (n : Node) → IsPumped call → event stamp actor call chance seen n ≡ remembering actor call (choice_event chance (deed_of stamp actor call seen n) n)
event_is stamp actor calls.Turn chance seen n p = refl
event_is stamp actor calls.Timeout chance seen n p = refl
event_is stamp actor calls.Trigger chance seen n p = refl
event_is stamp actor call chance seen n (inl e) = absurd cc
event_is stamp actor call chance seen n (inr (inl e)) = absurd cc
event_is stamp actor call chance seen n (inr (inr e)) = absurd cc

pub asked_is : (stamp : ℕ) (actor : Actor) (call : Call) (chance : Chance) (seen : Seen) (n : Node) → IsPumped call → IsEvent stamp actor call chance seen n ≡ IsDeed (deed_of stamp actor call seen n) chance n
asked_is stamp actor calls.Turn chance seen n p = refl
asked_is stamp actor calls.Timeout chance seen n p = refl
asked_is stamp actor calls.Trigger chance seen n p = refl
asked_is stamp actor call chance seen n (inl e) = absurd cc
asked_is stamp actor call chance seen n (inr (inl e)) = absurd cc
asked_is stamp actor call chance seen n (inr (inr e)) = absurd cc

-- whoever is up behind an event of a PUMP was up before
pub up_before : (e : Entry) (n : Node) → IsPumped e.call → (done_by e n).next.manager.running ≡ Up → n.manager.running ≡ Up
up_before e n p up = cases (deed_down e.stamp e.actor e.call e.effect.popped n n.manager.running p refl)
  where
    cases : (n.manager.running ≡ Up) ⊎ (deed_of e.stamp e.actor e.call e.effect.popped n ≡ None) → n.manager.running ≡ Up
    cases (inl is) = is
    cases (inr none) = ap (λ (x : Plain). x.running) (sym (off e.actor e.call e.chance (deed_of e.stamp e.actor e.call e.effect.popped n) n none))
        ∙ ap (λ (x : Done). x.next.manager.running) (sym (event_is e.stamp e.actor e.call e.chance e.effect.popped n p)) ∙ up

-- BEFORE THE LAST ENTRY
pub earlier : (w : Network) (m : ℕ) (e : Entry) → IsPumped e.call → Good (does m (e ∷ []) w) → Good w
earlier w m e p g = record {
  there = λ j none. empty j (g.there j none);
  replays = λ j n first. bool_case (j == m) (λ b. (j == m) ≡ b → Follows n 0 (w.done j))
      (λ is same. follows_front n 0 (w.done j) (e ∷ []) (subst (Follows n 0) (behind j is) (g.replays j n first)))
      (λ is same. subst (Follows n 0) (else_done w m e j is) (g.replays j n first)) refl;
  fit = λ j n front back first parts up. bool_case (j == m) (λ b. (j == m) ≡ b → IsFit (after n front))
      (λ is same. g.fit j n front (back ++ e ∷ []) first (behind j is ∙ ap (λ (xs : List Entry). xs ++ e ∷ []) parts ∙ append_assoc front back (e ∷ [])) up)
      (λ is same. g.fit j n front back first (else_done w m e j is ∙ parts) up) refl;
  up = λ j n first. bool_case (j == m) (λ b. (j == m) ≡ b → (after n (w.done j)).manager.running ≡ Up)
      (λ is same. up_before e (after n (w.done j)) p (ap (λ (x : Node). x.manager.running) (sym (after_more n (w.done j) (e ∷ []))) ∙ ap (λ (xs : List Entry). (after n xs).manager.running) (sym (behind j is)) ∙ g.up j n first))
      (λ is same. ap (λ (xs : List Entry). (after n xs).manager.running) (sym (else_done w m e j is)) ∙ g.up j n first) refl;
}
  where
    behind : (j : ℕ) → (j == m) ≡ true → (does m (e ∷ []) w).done j ≡ w.done j ++ e ∷ []
    behind j is = ap (λ (b : Bool). if b then w.done j ++ e ∷ [] else w.done j) is

    nothing : (xs : List Entry) (b : Bool) → (if b then xs ++ e ∷ [] else xs) ≡ [] → xs ≡ []
    nothing [] b h = refl
    nothing (x ∷ xs) true h = absurd cc
    nothing (x ∷ xs) false h = absurd cc

    empty : (j : ℕ) → (does m (e ∷ []) w).done j ≡ [] → w.done j ≡ []
    empty j h = nothing (w.done j) (j == m) h

-- what the last entry tells, of the node that is there
pub told_here : (w : Network) (m : ℕ) (e : Entry) (n : Node) → Good (does m (e ∷ []) w) → w.first m ≡ Some n → (stamp : ℕ) × Tells (after n (w.done m)) stamp e
told_here w m e n g first = tells_last n 0 (w.done m) e (subst (Follows n 0) (here_done w m e) (g.replays m n first))

pub never_empty : (xs : List Entry) (e : Entry) → xs ++ e ∷ [] ≡ [] → ⊥
never_empty [] e h = absurd cc
never_empty (x ∷ xs) e h = absurd cc

-- a trigger turn comes where one is due
due_deed : (o : Option Deed) (chance : Chance) (n : Node) → IsDeed o chance n → not (is_some o) ≡ false
due_deed None chance n h = absurd h
due_deed (Some d) chance n h = refl

pub due : (w : Network) (m : ℕ) (e : Entry) → Good (does m (e ∷ []) w) → e.call ≡ calls.Trigger → none_due (node_at w m) ≡ false
due w m e g call = at (w.first m) refl
  where
    at : (o : Option Node) → w.first m ≡ o → none_due (node_of o (w.done m)) ≡ false
    at None first = absurd (never_empty (w.done m) e (sym (here_done w m e) ∙ g.there m first))
    at (Some n) first =
        let t = told_here w m e n g first in
        due_deed (trigger_deed (after n (w.done m))) e.chance (after n (w.done m)) (subst (λ (c : Call). IsEvent e.stamp e.actor c e.chance e.effect.popped (after n (w.done m))) call t.1.event)

-- WHAT RAN
-- a deed that takes memory of its own accord, and whose manager is up behind it, ran
stopped_down : (k : ℕ) (parts : List Part) (left : ℕ) (p : Plain) → IsWrite k parts → (stopped_at k parts left p).running ≡ Up → ⊥
stopped_down k [] left p h up = absurd h
stopped_down zero (part ∷ parts) left p h up = absurd cc
stopped_down (suc k) (part ∷ parts) left p h up = stopped_down k parts left (do_part part p) h up

chosen : (e : Entry) (n : Node) (d : Deed) (chance : Chance) → IsPumped e.call → d.wanting ≡ None → IsDeed (Some d) chance n → (remembering e.actor e.call (choice_event chance (Some d) n)).next.manager.running ≡ Up
    → done_by e n ≡ remembering e.actor e.call (choice_event chance (Some d) n) → Ran e n d
chosen e n d (chances.Call Runs) p silent can up is = record {
  manager = ap (λ (x : Done). x.next.manager) is;
  ends = ap (λ (x : Done). x.next.own.ends) is ∙ remembered_ends e.actor e.call (done d Runs n).reply (done d Runs n).next.own;
  pushed = ap (λ (x : Done). x.pushed) is;
}
chosen e n d (chances.Call NoMemory) p silent can up is = absurd (wants d.wanting silent can)
  where
    wants : (o : Option Reply) → o ≡ None → CanWant o → ⊥
    wants None a b = b
    wants (Some r) a b = absurd cc
chosen e n d (chances.Call (Stopped by part left)) p silent can up is = absurd (stopped_down part d.parts left n.manager can.0 up)
chosen e n d (chances.Restart choice) p silent can up is = absurd can
chosen e n d (chances.Foreign image length left) p silent can up is = absurd can

pub ran : (e : Entry) (n : Node) (d : Deed) (stamp : ℕ) → IsPumped e.call → deed_of e.stamp e.actor e.call e.effect.popped n ≡ Some d → d.wanting ≡ None → Tells n stamp e → (done_by e n).next.manager.running ≡ Up → Ran e n d
ran e n d stamp p is silent told up =
    let as_is : done_by e n ≡ remembering e.actor e.call (choice_event e.chance (Some d) n) =
    event_is e.stamp e.actor e.call e.chance e.effect.popped n p ∙ ap (λ (o : Option Deed). remembering e.actor e.call (choice_event e.chance o n)) is in
    chosen e n d e.chance p silent
    (subst (λ (o : Option Deed). IsDeed o e.chance n) is (subst (λ (T : Type 0). T) (asked_is e.stamp e.actor e.call e.chance e.effect.popped n p) told.event))
    (ap (λ (x : Done). x.next.manager.running) (sym as_is) ∙ up) as_is
