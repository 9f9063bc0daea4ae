-- A phase over open directions: what its parts ask of one another.
use Rattle.std.proofs.Common.{◌≡◌, ℕ, ◌≤◌, List, [], ◌∷◌, ◌++◌, length, refl, sym, ap, subst, ◌∙◌, arith}
use Rattle.std.specs.Prelude.{Some, None, Result, slice_get}
use Rattle.mq_history.specs.declared.scenario.CableLine.{CableLine}
use Rattle.mq_history.specs.declared.scenario.Scenario.{Scenario}
use Rattle.mq_spec_node.specs.Terms.{Entry}
use Rattle.mq_spec_node.specs.Words.{by, is_receiver, is_sender}
use Rattle.mq_progress.specs.Course.{Course}
use Rattle.mq_acts.specs.from_events.States.{NodeState}
use Rattle.mq_nodes.specs.declared.nodes.Stop.{Stop}
use Rattle.mq_ways.specs.Ways.{CableState}
use Rattle.mq_ways.proofs.WayLaws.{low_items}
use Rattle.mq_split.specs.declared.opening.Passes.{Passes}
use Rattle.mq_split.specs.declared.opening.Pipes.{Pipes}
use Rattle.mq_split.specs.Facing.{AreJoined}
use Rattle.mq_split.specs.Took.{EndState}
use Rattle.mq_split.specs.Ends.{AreFree, EachIs, EndsApart}
use Rattle.mq_shared.specs.Held.{Begun, cables_begun, entries_begun, entries_or}
use Rattle.mq_split.specs.Opening.{EachCable, IsLow, wholes}
use Rattle.mq_split.specs.Parting.{AreEnds, AreEndsAt, EndRowState, IsAmong, IsBegunOver, backs_of, ends_named, none_since, outs_of}
use Rattle.mq_shared.specs.Phasing.{IsCourse, MayPhase, PhaseEnds, PhaseOwn, PhaseRan, entries_in}
use Rattle.mq_shared.specs.Sharing.{begun_with}
use Rattle.mq_shared.specs.Taking.{AreBack, AreOut, Asked, Begins, CoursesBelow, EndsWait, NodesWait, OthersStay, OwnOut, since_of}
use Rattle.mq_shared.proofs.RanLaws.{all_ran, begins_so, cables_among, ends_out, own_out}
use Rattle.mq_shared.proofs.ShareLists.{less, there}

pub long_whole : (ss : List Passes) (cs : List CableState) → length (wholes ss cs) ≡ length cs
long_whole [] cs = refl
long_whole (s ∷ ss) [] = refl
long_whole (s ∷ ss) (c ∷ cs) = let h = long_whole ss cs in omega (arith, h)

-- no stamp on a cable is above 2^60
pub low_cables : (s : Scenario) (ks : List ℕ) (ns : List NodeState) (cs : List Course) (ws : List CableState) → MayPhase s ks ns cs ws → EachCable IsLow ws
low_cables s ks ns cs ws may k c at =
    let lt = less ws k c at in
    let l = there s.cables k (omega (arith, lt, may.cables)) in
    let joined = may.ways k l.0 c l.1 at in (
      low_items l.0.out (by (is_sender k) (entries_in ns l.0.sender)) (by (is_receiver k) (entries_in ns l.0.receiver)) c.out joined.out.way,
      low_items l.0.back (by (is_receiver k) (entries_in ns l.0.receiver)) (by (is_sender k) (entries_in ns l.0.sender)) c.back joined.back.way,
    )

module _ (s : Scenario) (ks : List ℕ) (ns : List NodeState) (cs : List Course) (ws : List CableState) (ps : List Pipes) (b : Begun) (may : MayPhase s ks ns cs ws) (is : b ≡ begun_with s ks ns (outs_of ps) (backs_of ps)) where
  pub begun_over : (ls : List CableLine) → ls ≡ s.cables → IsBegunOver (cables_begun b) ps ls
  begun_over ls lines = record { lines = ap (λ (x : Begun). x.lines) is ∙ sym lines; outs = ap (λ (x : Begun). x.outs) is; backs = ap (λ (x : Begun). x.backs) is }

  pub joined_over : (ls : List CableLine) → ls ≡ s.cables → AreJoined ls (entries_begun b) ws
  joined_over ls lines = subst (λ (x : Begun). AreJoined ls (entries_begun x) ws) (sym is) (subst (λ (l : List CableLine). AreJoined l (entries_in ns) ws) (sym lines) may.ways)

  pub begins_over : Begins (record { scenario = s; scripts = ks }) b
  begins_over = subst (Begins (record { scenario = s; scripts = ks })) (sym is) (begins_so s ks ns cs ws (outs_of ps) (backs_of ps) may)

  pub nodes_over : NodesWait b ns
  nodes_over m n at = ap (λ (x : Begun). slice_get x.nodes m) is ∙ at

  pub courses_over : (n : ℕ) → CoursesBelow (record { scenario = s; scripts = ks }) b n cs
  courses_over n m lt k p c part at mine =
      subst (λ (d : List Entry). IsCourse None k p d c) (ap (entries_in ns) mine ∙ sym (ap (λ (x : Begun). entries_or (slice_get x.nodes m)) is)) (may.courses k p c part at)

  pub among_over : (ls : List CableLine) (n : ℕ) → ls ≡ s.cables → n ≡ length ns → EachIs (IsAmong n) ls
  among_over ls n lines count = subst (λ (l : List CableLine). EachIs (IsAmong n) l) (sym lines) (cables_among s ks ns cs ws n may (sym count))

  pub wait_over : (ls : List CableLine) (rows : List EndRowState) → ls ≡ s.cables → ((m : ℕ) (r : EndRowState) → slice_get rows m ≡ Some r → AreEndsAt (cables_begun b) none_since (ends_named ls) m r.ends) → EachIs (λ (r : EndRowState). EndsApart r.ends) rows → EachIs (λ (r : EndRowState). AreFree r.ends) rows → EndsWait b (record { scenario = s; scripts = ks }) rows
  wait_over ls rows lines ends apart free m r at = (subst (λ (l : List CableLine). AreEndsAt (cables_begun b) none_since (ends_named l) m r.ends) lines (ends m r at), apart m r at, free m r at)

  pub few_managers : length ns ≤ 8
  few_managers = let few = may.scenario.few.managers.1 in omega (arith, few, may.managers)

  pub few_cables : length ws ≤ 32
  few_cables = let few = may.scenario.few.cables in omega (arith, few, may.cables)

  -- what came out
  pub ends_over : (ls : List CableLine) (now : List NodeState) (rows : List (List EndState)) → ls ≡ s.cables → length now ≡ length ns → length rows ≡ length ns → AreOut b now rows → AreEnds (cables_begun b) (since_of b now) (ends_named ls) rows
  ends_over ls now rows lines count count_rows out =
      subst (λ (x : Begun). AreEnds (cables_begun x) (since_of x now) (ends_named ls) rows) (sym is)
      (subst (λ (l : List CableLine). AreEnds (cables_begun (begun_with s ks ns (outs_of ps) (backs_of ps))) (since_of (begun_with s ks ns (outs_of ps) (backs_of ps)) now) (ends_named l) rows) (sym lines)
      (ends_out s ks ns ws cs (outs_of ps) (backs_of ps) may now rows count count_rows (subst (λ (x : Begun). AreOut x now rows) is out)))

  pub own_over : (now : List NodeState) → OwnOut b now → PhaseOwn ns now
  own_over now own = own_out s ks ns ws cs (outs_of ps) (backs_of ps) may now (subst (λ (x : Begun). OwnOut x now) is own)

  pub ran_over : (q : Asked) (ls : List CableLine) (now : List NodeState) (rows : List (List EndState)) (mid ds : List Course) (last : List CableState) (r : Result (Unit {0}) Stop) → q ≡ record { scenario = s; scripts = ks } → ls ≡ s.cables → length now ≡ length ns → length rows ≡ length ns → AreOut b now rows
      → length ds ≡ length cs → OthersStay (record { scenario = s; scripts = ks }) cs mid → OthersStay q mid ds → AreBack q b now ds → length last ≡ length ws → AreJoined ls (λ (m : ℕ). entries_begun b m ++ since_of b now m) last → PhaseEnds r now → PhaseRan s ks ns r now ds last
  ran_over q ls now rows mid ds last r asked lines count count_rows out long went came back cables joined ends =
      all_ran s ks ns ws cs (outs_of ps) (backs_of ps) may now rows count count_rows (subst (λ (x : Begun). AreOut x now rows) is out) mid ds last r long went
      (subst (λ (x : Asked). OthersStay x mid ds) asked came) (subst (λ (x : Begun). AreBack (record { scenario = s; scripts = ks }) x now ds) is (subst (λ (x : Asked). AreBack x b now ds) asked back)) cables
      (subst (λ (x : Begun). AreJoined s.cables (λ (m : ℕ). entries_begun x m ++ since_of x now m) last) is (subst (λ (l : List CableLine). AreJoined l (λ (m : ℕ). entries_begun b m ++ since_of b now m) last) lines joined))
      ends
