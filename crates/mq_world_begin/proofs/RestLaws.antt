-- Managers that have begun are at rest: each history leads to its manager.
use Rattle.std.proofs.Common.{◌≡◌, ℕ, zero, suc, ◌+◌, ◌≤◌, Bool, List, [], ◌∷◌, length, take, refl, sym, ap, subst, ◌∙◌, arith, append-nil}
use Rattle.std.specs.Prelude.{map, Option, None, Some, slice_get}
use Rattle.mq_cable.specs.declared.fault.Fault.{Fault}
use Rattle.mq_history.specs.Scenarios.{IsScenario}
use Rattle.mq_history.specs.declared.calls.Actor.{Actor}
use Rattle.mq_history.specs.declared.history.History.{History}
use Rattle.mq_history.specs.declared.scenario.CableLine.{CableLine}
use Rattle.mq_history.specs.declared.scenario.ManagerLine.{ManagerLine}
use Rattle.mq_history.specs.declared.scenario.Scenario.{Scenario}
use Rattle.mq_history.specs.declared.story.Apart.{Apart}
use Rattle.mq_calls.specs.declared.image.Image.{Image}
use Rattle.mq_calls.specs.Recovery.{AreKnown, IsImage}
use Rattle.mq_calls.specs.State.{Given, Plain}
use Rattle.mq_spec_manager.specs.Stops.{first_start}
use Rattle.mq_spec_node.specs.Terms.{Entry}
use Rattle.mq_spec_node.specs.Words.{Follows, Own, TriggersStand, after, begun_anew, by, is_receiver, is_sender, node_of, opening_node}
use Rattle.mq_spec_network.specs.Apart.{apart}
use Rattle.mq_spec_network.specs.Cables.{Carries, made}
use Rattle.mq_spec_network.specs.Given.{log_max_or, name_or, own_at, surroundings}
use Rattle.mq_spec_network.specs.Given.{given_at as given_of}
use Rattle.mq_spec_network.specs.Lawful.{IsCarried}
use Rattle.mq_spec_network.specs.Story.{entries_at, entries_or}
use Rattle.mq_log.specs.State.{log_length}
use Rattle.mq_core.specs.Values.{CoreValue}
use Rattle.mq_opening.specs.Opened.{JustBegun}
use Rattle.mq_begin.specs.declared.faults.NetFault.{NetFault}
use Rattle.mq_begin.specs.declared.faults.NetFault.TheVariants as faults
use Rattle.mq_begin.specs.Begun.{AllBegan, BeginsOn, Held, NotBegan, RefusesAt, given_at}
use Rattle.mq_begin.proofs.BeganLaws.{as_many}
use Rattle.mq_world_begin.specs.Rested.{IsRested, IsRestedAt, OpensWith}
use Rattle.mq_world_begin.proofs.PlaceLaws.{both_there, past_none}

-- The manager at a place began so.
pub record BeganAt (tells : Type 0) (held : Held) (moment place : ℕ) (ls : List ManagerLine) (m : ℕ) (v : CoreValue) : Type 0 where
  pub line : ManagerLine
  pub is : slice_get ls m ≡ Some line
  pub begins : BeginsOn tells (held line.name) (given_at place line) moment v

pub began_at : (tells : Type 0) (held : Held) (moment place : ℕ) (ls : List ManagerLine) (vs : List CoreValue) (m : ℕ) (v : CoreValue) → AllBegan tells held moment place ls vs → slice_get vs m ≡ Some v → BeganAt tells held moment (place + m) ls m v
began_at tells held moment place [] [] zero v h e = absurd cc
began_at tells held moment place [] [] (suc m) v h e = absurd cc
began_at tells held moment place [] (x ∷ xs) m v h e = absurd h
began_at tells held moment place (l ∷ ls) [] m v h e = absurd h
began_at tells held moment place (l ∷ ls) (x ∷ xs) zero v h e = record { line = l; is = refl; begins = subst (λ (n : ℕ). BeginsOn tells (held l.name) (given_at n l) moment v) (up place) (subst (λ (y : CoreValue). BeginsOn tells (held l.name) (given_at place l) moment y) (same x v e) h.0) }
  where
    up : (n : ℕ) → n ≡ n + 0
    up n = omega arith

    same : (a b : CoreValue) → Some a ≡ Some b → a ≡ b
    same a b k = cc
began_at tells held moment place (l ∷ ls) (x ∷ xs) (suc m) v h e =
    let k : BeganAt tells held moment (suc place + m) ls m v = began_at tells held moment (suc place) ls xs m v h.1 e in
    record { line = k.line; is = k.is; begins = subst (λ (n : ℕ). BeginsOn tells (held k.line.name) (given_at n k.line) moment v) (up place m) k.begins }
  where
    up : (n j : ℕ) → suc n + j ≡ n + suc j
    up n j = omega arith

abbrev pub just_begun : (tells : Type 0) (held : Held) (moment place : ℕ) (ls : List ManagerLine) (m : ℕ) (v : CoreValue) → BeganAt tells held moment place ls m v → JustBegun tells v
just_begun tells held moment place ls m v h = record { seen = h.begins.seen; before = 0; given = given_at place h.line; moment = moment; has = h.begins.begun }

-- There was no memory behind all.
pub not_begun : (tells : Type 0) (held : Held) (moment : ℕ) (ls : List ManagerLine) (vs : List CoreValue) (old new : ℕ) (counts : List ℕ) (fault : NetFault) → AllBegan tells held moment 0 ls vs → fault ≡ faults.NoMemory → counts ≡ map (λ (v : CoreValue). v.faults) vs → old ≤ new
    → NotBegan tells held moment ls old new counts fault
not_begun tells held moment ls vs old new counts fault h is counted le =
    let many : length vs ≡ length ls = as_many tells held moment 0 ls vs h in
    record {
      before = vs;
      own = None;
      began = subst (λ (ks : List ManagerLine). AllBegan tells held moment 0 ks vs) (sym (ap (λ (n : ℕ). take n ls) many ∙ all_taken ls)) h;
      refuses = subst (λ (o : Option ManagerLine). RefusesAt tells held (length vs) old new None fault o) (sym (past_none ls (length vs) (omega (arith, many)))) (want fault is);
      handed = counted ∙ sym (append-nil (map (λ (v : CoreValue). v.faults) vs));
      later = le;
    }
  where
    all_taken : (xs : List ManagerLine) → take (length xs) xs ≡ xs
    all_taken [] = refl
    all_taken (x ∷ xs) = ap (λ (ys : List ManagerLine). x ∷ ys) (all_taken xs)

    want : (f : NetFault) → f ≡ faults.NoMemory → RefusesAt tells held (length vs) old new None f None
    want faults.DiskFault e = absurd cc
    want (faults.BadLog k gate) e = absurd cc
    want faults.NoMemory e = tt

-- What was found of these histories is so of the managers at rest.
pub found_at : (found : Option Apart) (s t : Scenario) (gs hs : List History) → found ≡ apart s gs → t ≡ s → gs ≡ hs → found ≡ apart t hs
found_at found s t gs hs e same all = e ∙ (λ i. apart (sym same i) (all i))

-- Nothing lies on a cable, and nothing was popped.
carries_none : (fs : List Fault) (pushes pops : Actor → Bool) → Carries fs (by pushes []) pops []
carries_none fs pushes pops = record { taken = []; left = made fs []; whole = refl; takes = refl; within = tt }

carries_nothing : (fs : List Fault) (pushes pops : Actor → Bool) (es os : List Entry) → es ≡ [] → os ≡ [] → Carries fs (by pushes es) pops os
carries_nothing fs pushes pops es os e o = subst (λ (xs : List Entry). Carries fs (by pushes xs) pops os) (sym e) (subst (λ (xs : List Entry). Carries fs (by pushes []) pops xs) (sym o) (carries_none fs pushes pops))

carried_none : (hs : List History) (n : ℕ) (c : CableLine) → ((m : ℕ) → entries_at hs m ≡ []) → IsCarried n c hs
carried_none hs n c none = record {
  out = carries_nothing c.out (is_sender n) (is_receiver n) (entries_at hs c.sender) (entries_at hs c.receiver) (none c.sender) (none c.receiver);
  back = carries_nothing c.back (is_receiver n) (is_sender n) (entries_at hs c.receiver) (entries_at hs c.sender) (none c.receiver) (none c.sender);
}

none_done : (hs : List History) (m : ℕ) → ((k : ℕ) (h : History) → slice_get hs k ≡ Some h → h.entries ≡ []) → entries_at hs m ≡ []
none_done hs m each = by_place (slice_get hs m) refl
  where
    by_place : (o : Option History) → slice_get hs m ≡ o → entries_at hs m ≡ []
    by_place None e = ap entries_or e
    by_place (Some h) e = ap entries_or e ∙ each m h e

-- Each is at rest.
given_there : (s : Scenario) (m : ℕ) (l : ManagerLine) → slice_get s.managers m ≡ Some l → given_at m l ≡ given_of s m
given_there s m l is = sym (ap (λ (o : Option ManagerLine). record { number = m + 1; name = name_or o; log_max = log_max_or o }) is)

pub rested_at : (tells : Type 0) (held : Held) (moment : ℕ) (s : Scenario) (m : ℕ) (v : CoreValue) (own : Own) (h : History) → BeganAt tells held moment m s.managers m v → OpensWith tells v h → own ≡ (begun_anew v.plain (own_at s m)).own → IsRestedAt s m v own h
rested_at tells held moment s m v own h b o is =
    let j : JustBegun tells v = just_begun tells held moment m s.managers m v b in
    let given : given_at m b.line ≡ given_of s m = given_there s m b.line b.is in
    let plain : v.plain ≡ first_start (given_of s m) h.opening h.length h.moment =
    b.begins.begun.plain
    ∙ ap (λ (g : Given). first_start g b.begins.begun.told (log_length b.begins.begun.bodies) moment) given
    ∙ ap (λ (i : Image). first_start (given_of s m) i (log_length b.begins.begun.bodies) moment) (sym (o.opening j))
    ∙ ap (λ (n : ℕ). first_start (given_of s m) h.opening n moment) (sym (o.long j))
    ∙ ap (λ (n : ℕ). first_start (given_of s m) h.opening h.length n) (sym (o.moment ∙ ap (λ (p : Plain). p.moment) b.begins.begun.plain)) in
    record {
      image = subst IsImage (sym (o.opening j)) b.begins.begun.well;
      known = subst (AreKnown (m + 1)) (sym (o.opening j)) b.begins.begun.known;
      replays = record {
        number = o.number ∙ ap (λ (p : Plain). p.given.number) b.begins.begun.plain;
        name = o.name ∙ ap (λ (p : Plain). p.given.name) b.begins.begun.plain ∙ ap (λ (g : Given). g.name) given;
        follows = subst (λ (es : List Entry). Follows (opening_node (surroundings s m) h) 0 es) (sym o.entries) tt;
      };
      triggers = subst (λ (es : List Entry). TriggersStand None (opening_node (surroundings s m) h) es) (sym o.entries) tt;
      node =
          ap (λ (x : Own). node_of v.plain x) is
          ∙ ap (λ (p : Plain). begun_anew p (own_at s m)) plain
          ∙ sym (ap (after (opening_node (surroundings s m) h)) o.entries);
    }

-- and all of them
pub all_rested : (tells : Type 0) (held : Held) (moment : ℕ) (s : Scenario) (vs : List CoreValue) (owns : List Own) (hs : List History) → IsScenario s → AllBegan tells held moment 0 s.managers vs → length owns ≡ length vs → length hs ≡ length vs
    → ((m : ℕ) (v : CoreValue) (h : History) → slice_get vs m ≡ Some v → slice_get hs m ≡ Some h → OpensWith tells v h) → ((m : ℕ) (v : CoreValue) (own : Own) → slice_get vs m ≡ Some v → slice_get owns m ≡ Some own → own ≡ (begun_anew v.plain (own_at s m)).own)
    → IsRested (record { scenario = s; managers = vs; owns = owns; histories = hs })
all_rested tells held moment s vs owns hs scenario h many long opened owned =
    let all : length vs ≡ length s.managers = as_many tells held moment 0 s.managers vs h in
    record {
      scenario = scenario;
      managers = all;
      owns = many ∙ all;
      histories = long ∙ all;
      each = λ m v own k at_v at_own at_h.
          rested_at tells held moment s m v own k (place m v (began_at tells held moment 0 s.managers vs m v h at_v)) (opened m v k at_v at_h) (owned m v own at_v at_own);
      carried = λ n c there. carried_none hs n c (λ m. none_done hs m (λ k g at_g. undone k g at_g));
    }
  where
    place : (m : ℕ) (v : CoreValue) → BeganAt tells held moment (0 + m) s.managers m v → BeganAt tells held moment m s.managers m v
    place m v b = subst (λ (n : ℕ). BeganAt tells held moment n s.managers m v) (zero_more m) b
      where
        zero_more : (n : ℕ) → 0 + n ≡ n
        zero_more n = omega arith

    undone : (k : ℕ) (g : History) → slice_get hs k ≡ Some g → g.entries ≡ []
    undone k g at_g = by_manager (slice_get vs k) refl
      where
        by_manager : (o : Option CoreValue) → slice_get vs k ≡ o → g.entries ≡ []
        by_manager None e = absurd (both_there hs vs k g long at_g e)
        by_manager (Some v) e = (opened k v g e at_g).entries
