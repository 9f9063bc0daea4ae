-- A scenario gives both managers of a cable their ends of it, and these stay.
use Rattle.std.proofs.Common.{◌≡◌, ◌≢◌, ℕ, zero, suc, ◌+◌, Bool, true, false, List, [], ◌∷◌, ◌++◌, refl, sym, ap, subst, ◌∙◌, arith}
use Rattle.std.specs.Prelude.{◌==◌, if◌then◌else◌, Option, Some, None, option_map, slice_get, All}
use Rattle.std.proofs.lemmas.Bool.Decides.{nat_tests}
use Rattle.std.proofs.lemmas.List.Elements.{All-get_or}
use Rattle.std.proofs.lemmas.Option.{get_or_from_slice_get, slice_get_within}
use Rattle.mq_history.specs.declared.calls.Entry.{Entry}
use Rattle.mq_history.specs.declared.history.History.{History}
use Rattle.mq_history.specs.declared.scenario.CableLine.{CableLine}
use Rattle.mq_history.specs.declared.scenario.Scenario.{Scenario}
use Rattle.mq_history.specs.Scenarios.{IsCable, IsScenario}
use Rattle.mq_spec_node.specs.Node.{ChannelEnd, Node, ReceiverEnd, SenderEnd, as_receiver, as_sender, cable_of, end_in, receiver_end, sender_end}
use Rattle.mq_spec_node.specs.Node.ChannelEnd.{Receives, Sends}
use Rattle.mq_spec_node.specs.Replays.{after, opening_node}
use Rattle.mq_spec_network.specs.Given.{end_at, ends_from, receives_at, sends_from, surroundings}
use Rattle.mq_spec_network.specs.Lawful.{node_begun}
use Rattle.mq_spec_network.specs.Turns.{Network, node_at, node_of}
use Rattle.mq_law_keys.proofs.Starting.{run_keyed}
use Rattle.mq_law_keys.specs.Keys.{Tag, sends_of, tags}
use Rattle.mq_law_keys.proofs.Keeping.{begun_tags, tag_histories}
use Rattle.mq_idle.specs.Ends.{HasEnds}

-- whether the first end of a cable sends
abbrev role_in : ℕ → List Tag → Option Bool
role_in k [] = None
role_in k (t ∷ ts) = if t.key.cable == k then Some t.sends else role_in k ts

found_role : (k : ℕ) (es : List ChannelEnd) → option_map sends_of (end_in k es) ≡ role_in k (tags es)
found_role k [] = refl
found_role k (e ∷ es) = by (cable_of e == k) (found_role k es)
  where
    by : (b : Bool) → option_map sends_of (end_in k es) ≡ role_in k (tags es) → option_map sends_of (if b then Some e else end_in k es) ≡ (if b then Some (sends_of e) else role_in k (tags es))
    by true h = refl
    by false h = h

sender_there : (o : Option ChannelEnd) → option_map sends_of o ≡ Some true → (e : SenderEnd) × (as_sender o ≡ Some e)
sender_there None h = absurd cc
sender_there (Some (Sends e)) h = (e, refl)
sender_there (Some (Receives e)) h = absurd cc

receiver_there : (o : Option ChannelEnd) → option_map sends_of o ≡ Some false → (e : ReceiverEnd) × (as_receiver o ≡ Some e)
receiver_there None h = absurd cc
receiver_there (Some (Sends e)) h = absurd cc
receiver_there (Some (Receives e)) h = (e, refl)

-- WHAT IS GIVEN
self_nat : (m : ℕ) → (m == m) ≡ true
self_nat m = grind (arith, nat_tests)

not_same : (m n : ℕ) → m ≢ n → (m == n) ≡ false
not_same m n h = grind (arith, nat_tests, h)

sends_here : (s : Scenario) (m k : ℕ) (l : CableLine) (rest : List ChannelEnd) → l.sender ≡ m → role_in k (tags (end_at s m k l ++ rest)) ≡ Some true
sends_here s m k l rest is =
    ap (λ (b : Bool). role_in k (tags ((if b then sends_from s k l else (if l.receiver == m then receives_at s k l else [])) ++ rest))) (ap (λ (n : ℕ). n == m) is ∙ self_nat m)
    ∙ ap (λ (b : Bool). if b then Some true else role_in k (tags rest)) (self_nat k)

receives_here : (s : Scenario) (m k : ℕ) (l : CableLine) (rest : List ChannelEnd) → l.receiver ≡ m → l.sender ≢ l.receiver → role_in k (tags (end_at s m k l ++ rest)) ≡ Some false
receives_here s m k l rest is apart =
    ap (λ (b : Bool). role_in k (tags ((if b then sends_from s k l else (if l.receiver == m then receives_at s k l else [])) ++ rest))) (ap (λ (n : ℕ). l.sender == n) (sym is) ∙ not_same l.sender l.receiver apart)
    ∙ ap (λ (b : Bool). role_in k (tags ((if b then receives_at s k l else []) ++ rest))) (ap (λ (n : ℕ). n == m) is ∙ self_nat m)
    ∙ ap (λ (b : Bool). if b then Some false else role_in k (tags rest)) (self_nat k)

passed : (s : Scenario) (m j k : ℕ) (c : CableLine) (rest : List ChannelEnd) → (j == k) ≡ false → role_in k (tags (end_at s m j c ++ rest)) ≡ role_in k (tags rest)
passed s m j k c rest h = by (c.sender == m) (c.receiver == m)
  where
    by : (a b : Bool) → role_in k (tags ((if a then sends_from s j c else (if b then receives_at s j c else [])) ++ rest)) ≡ role_in k (tags rest)
    by true b = ap (λ (t : Bool). if t then Some true else role_in k (tags rest)) h
    by false true = ap (λ (t : Bool). if t then Some false else role_in k (tags rest)) h
    by false false = refl

above : (j k i : ℕ) → k ≡ j + suc i → (j == k) ≡ false
above j k i e = grind (arith, nat_tests, e)

next_place : (j k i : ℕ) → k ≡ j + suc i → k ≡ suc j + i
next_place j k i e = omega (arith, e)

same_place : (j k : ℕ) → k ≡ j + 0 → j ≡ k
same_place j k e = omega (arith, e)

some_is : {A : Type 0} (a b : A) → Some a ≡ Some b → a ≡ b
some_is a b e = cc

abbrev GivesFrom : Bool → Scenario → ℕ → List CableLine → Type 0
GivesFrom b s m cs = (j k i : ℕ) (l : CableLine) → k ≡ j + i → slice_get cs i ≡ Some l
    → ((rest : List ChannelEnd) → role_in k (tags (end_at s m k l ++ rest)) ≡ Some b) → role_in k (tags (ends_from s m j cs)) ≡ Some b

given_from : (b : Bool) (s : Scenario) (m : ℕ) (cs : List CableLine) → GivesFrom b s m cs
given_from b s m [] j k i l e is here = absurd cc
given_from b s m (c ∷ cs) j k zero l e is here =
    subst (λ (n : ℕ). role_in k (tags (ends_from s m n (c ∷ cs))) ≡ Some b) (sym (same_place j k e))
    (subst (λ (x : CableLine). role_in k (tags (end_at s m k x ++ ends_from s m (suc k) cs)) ≡ Some b) (sym (some_is c l is)) (here (ends_from s m (suc k) cs)))
given_from b s m (c ∷ cs) j k (suc i) l e is here =
    passed s m j k c (ends_from s m (suc j) cs) (above j k i e) ∙ given_from b s m cs (suc j) k i l (next_place j k i e) is here

zero_up : (k : ℕ) → k ≡ 0 + k
zero_up k = omega arith

-- A NODE OF A RUN
module _ (s : Scenario) (m : ℕ) (h : History) (es : List Entry) (is : IsScenario s) where
  abbrev start : Node
  start = opening_node (surroundings s m) h

  now_roles : tags (after start es).own.ends ≡ tags (ends_from s m 0 s.cables)
  now_roles = tag_histories start es (run_keyed s m h [] is) ∙ begun_tags start.manager (ends_from s m 0 s.cables)

  node_sends : (k : ℕ) (l : CableLine) → slice_get s.cables k ≡ Some l → l.sender ≡ m → (e : SenderEnd) × (sender_end k (after start es).own ≡ Some e)
  node_sends k l there at = sender_there (end_in k (after start es).own.ends) (
      found_role k (after start es).own.ends ∙ ap (role_in k) now_roles ∙ given_from true s m s.cables 0 k k l (zero_up k) there (λ rest. sends_here s m k l rest at))

  node_receives : (k : ℕ) (l : CableLine) → slice_get s.cables k ≡ Some l → l.receiver ≡ m → l.sender ≢ l.receiver → (e : ReceiverEnd) × (receiver_end k (after start es).own ≡ Some e)
  node_receives k l there at apart = receiver_there (end_in k (after start es).own.ends) (
      found_role k (after start es).own.ends ∙ ap (role_in k) now_roles ∙ given_from false s m s.cables 0 k k l (zero_up k) there (λ rest. receives_here s m k l rest at apart))

-- THE NETWORK
all_at : {A : Type 0} (P : A → Type 0) (xs : List A) (i : ℕ) (x : A) → slice_get xs i ≡ Some x → All P xs → P x
all_at P xs i x e h = subst P (get_or_from_slice_get xs i x x e) (All-get_or P xs i x (slice_get_within xs i x e) h)

abbrev Begins : Scenario → ℕ → List Entry → Node → Type 0
Begins s m es n = (h : History) × (n ≡ after (opening_node (surroundings s m) h) es)

begins_as : (s : Scenario) (m : ℕ) (o : Option History) (es : List Entry) (n : Node) → node_of (node_begun (surroundings s m) o) es ≡ Some n → Begins s m es n
begins_as s m None es n e = absurd cc
begins_as s m (Some h) es n e = (h, sym (some_is (after (opening_node (surroundings s m) h) es) n e))

begins_at : (w : Network) (hs : ℕ → Option History) (m : ℕ) (n : Node) → w.first m ≡ node_begun (surroundings w.scenario m) (hs m) → node_at w m ≡ Some n → Begins w.scenario m (w.done m) n
begins_at w hs m n first e = begins_as w.scenario m (hs m) (w.done m) n (ap (λ (o : Option Node). node_of o (w.done m)) (sym first) ∙ e)

pub ends_there : (w : Network) (hs : ℕ → Option History) (k : ℕ) (l : CableLine) → IsScenario w.scenario → ((m : ℕ) → w.first m ≡ node_begun (surroundings w.scenario m) (hs m)) → slice_get w.scenario.cables k ≡ Some l → HasEnds w k l
ends_there w hs k l is first there =
    let cable : IsCable w.scenario l = all_at (IsCable w.scenario) w.scenario.cables k l there is.cables in
    record {
      sender = λ n at.
          let b = begins_at w hs l.sender n (first l.sender) at in
          subst (λ (x : Node). (e : SenderEnd) × (sender_end k x.own ≡ Some e)) (sym b.1) (node_sends w.scenario l.sender b.0 (w.done l.sender) is k l there refl);
      receiver = λ n at.
          let b = begins_at w hs l.receiver n (first l.receiver) at in
          subst (λ (x : Node). (e : ReceiverEnd) × (receiver_end k x.own ≡ Some e)) (sym b.1) (node_receives w.scenario l.receiver b.0 (w.done l.receiver) is k l there refl cable.apart);
    }
