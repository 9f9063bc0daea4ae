-- Lines with which parts begin, both ways.
use Rattle.std.proofs.Common.{◌≡◌, ◌⊎◌, ℕ, suc, ◌≤◌, ◌<◌, Bool, true, false, cond, List, [], ◌∷◌, Result, Ok, Err, refl, sym, ap, subst, ◌∙◌, arith, inl, inr}
use Rattle.std.specs.Prelude.{◌==◌, ◌||◌, nat_lt, codes, Option, Some, None}
use Rattle.std.proofs.lemmas.Bool.Decides.{eqb_tells, leb_tells}
use Rattle.mq_history.specs.declared.scenario.Scenario.{Scenario}
use Rattle.mq_scn_lines.specs.declared.fault.Limit.{Limit}
use Rattle.mq_scn_lines.specs.declared.fault.Limit.TheVariants as limits
use Rattle.mq_scn_lines.specs.declared.fault.LineFault.{LineFault}
use Rattle.mq_scn_lines.specs.declared.fault.LineFault.TheVariants as faults
use Rattle.mq_scn_lines.specs.Faults.{rank, limit_rank, both}
use Rattle.mq_scn_lines.specs.Numbers.{ranged}
use Rattle.mq_scn_lines.specs.Operands.{bracketed}
use Rattle.mq_scn_heading.specs.declared.parts.PartWord.{PartWord}
use Rattle.mq_scn_heading.specs.declared.parts.PartWord.TheVariants as words
use Rattle.mq_scn_heading.specs.declared.parts.Stage.{Stage}
use Rattle.mq_scn_heading.specs.declared.heading.PartLine.{PartLine}
use Rattle.mq_scn_heading.specs.declared.heading.PartLine.TheVariants as parts
use Rattle.mq_scn_heading.specs.Lookup.{manager_at, new_label}
use Rattle.mq_scn_heading.specs.Parts.{stage_rank, from_stage, up_to_stage, stage_behind, is_full, in_order, unless_full, allowed}
use Rattle.mq_scn_heading.specs.Cables.{cable_faults}
use Rattle.mq_scn_heading.specs.Heading.{alone, at_moment, moment_line, new_manager, log_number, log_max_in, log_max, managed, manager_line, new_channel, apart, ends_of, cabled, connected, cable_with, cable_line, owned, labelled, mqsc_of, rules_of, script_of, needed_queue, queue_in, monitored, monitor_with, monitor_line, part_line}
use Rattle.mq_scn_grammar.specs.Operands.{IsBracketed}
use Rattle.mq_scn_grammar.specs.LineOptions.{NumberIn, NumberFault}
use Rattle.mq_scn_grammar.specs.Faults.{IsMissed}
use Rattle.mq_scn_grammar.proofs.Told.{Reports, told_both, told_map, told_as, told_via}
use Rattle.mq_scn_grammar.proofs.Operands.{bracketed_read, bracketed_found, name_tells}
use Rattle.mq_scn_grammar.proofs.Numbers.{le_of, ranged_tells}
use Rattle.mq_scn_parts.specs.Declared.{manager_names, channel_names, NamesPlace, HasNameFault, IsNewName, HasNewNameFault, IsNewLabel, HasNewLabelFault}
use Rattle.mq_scn_parts.specs.Cables.{AreCableFaults, HasCableFault}
use Rattle.mq_scn_parts.specs.Heading.{IsLogMaxWord, HasLogMaxFault, IsLogMax, HasLogFault, IsQueue, HasQueueFault, AreEnds, HasEndsFault, IsOwned, HasOwnedFault, HasWordFault, HasMomentFault, IsManager, HasManagerFault, Cabled, IsCable, HasCableLineFault, IsLabelled, HasLabelledFault, IsMonitor, HasMonitorFault, IsPartOf, HasPartFault, IsAllowed, HasOrderFault}
use Rattle.mq_scn_parts.proofs.Then.{told_then, form_tells}
use Rattle.mq_scn_parts.proofs.Declared.{NamesOf, manager_tells, new_manager_tells, new_channel_tells, new_label_tells}
use Rattle.mq_scn_parts.proofs.CableLists.{cable_tells}

-- ---- parts of lines

log_word_tells : (word : List ℕ) → Reports (IsLogMaxWord word) (HasLogMaxFault word) (log_max_in word)
log_word_tells word =
    told_via (λ (value : List ℕ). IsBracketed (codes "LOGMAX(") value word) (λ value. NumberIn 4096 268435456 value) (λ value. NumberFault (faults.Limit limits.LogMax) 4096 268435456 value)
    (bracketed (codes "LOGMAX(") word) log_number refl (λ value e. bracketed_found (codes "LOGMAX(") value word e) (λ value h. bracketed_read (codes "LOGMAX(") value word h)
    (λ value. ranged_tells (faults.Limit limits.LogMax) refl 4096 268435456 value)

log_tells : (ws : List (List ℕ)) → Reports (IsLogMax ws) (HasLogFault ws) (log_max ws)
log_tells [] = (refl, (λ y h. h), λ f h. h)
log_tells (word ∷ []) = log_word_tells word
log_tells (word ∷ other ∷ ws) = form_tells (IsLogMax (word ∷ other ∷ ws)) (λ y h. h)

queue_tells : (word : List ℕ) → Reports (IsQueue word) (HasQueueFault word) (queue_in word)
queue_tells word =
    told_via (λ (value : List ℕ). IsBracketed (codes "QUEUE(") value word) (λ value. NamesOf 48 value) (λ value. IsMissed faults.Name (NamesOf 48 value))
    (bracketed (codes "QUEUE(") word) needed_queue refl (λ value e. bracketed_found (codes "QUEUE(") value word e) (λ value h. bracketed_read (codes "QUEUE(") value word h)
    (λ value. name_tells 48 value)

owned_tells : (s : Scenario) (label manager : List ℕ) → Reports (IsOwned s label manager) (HasOwnedFault s label manager) (owned s label manager)
unfolding owned
owned_tells s label manager =
    told_both (IsNewLabel s label) (NamesPlace (manager_names s.managers) manager) (HasNewLabelFault s label) (HasNameFault (manager_names s.managers) manager)
    (new_label s label) (manager_at s.managers manager) (new_label_tells s label) (manager_tells s.managers manager)

-- ends that differ

module _ (s : Scenario) (sender receiver : List ℕ) where
  abbrev AreNamed : ℕ × ℕ → Type 0
  AreNamed p = NamesPlace (manager_names s.managers) sender p.0 × NamesPlace (manager_names s.managers) receiver p.1

  abbrev NotNamed : LineFault → Type 0
  NotNamed f = HasNameFault (manager_names s.managers) sender f ⊎ HasNameFault (manager_names s.managers) receiver f

  abbrev Differing : ℕ × ℕ → ℕ × ℕ → Type 0
  Differing p q = (q ≡ p) × (p.0 ≡ p.1 → ⊥)

  abbrev Alike : ℕ × ℕ → LineFault → Type 0
  Alike p f = (f ≡ faults.Twice) × (p.0 ≡ p.1)

  apart_by : (a b : ℕ) (t : Bool) → ((t ≡ true) × (a ≡ b)) ⊎ ((t ≡ false) × (a ≡ b → ⊥)) → Reports (Differing (a, b)) (Alike (a, b)) (cond t (Err faults.Twice) (Ok (a, b)))
  apart_by a b true (inl p) = ((λ y h. h.1 p.1), (refl, p.1), refl, λ g h. inl h.0)
  apart_by a b true (inr p) = absurd (let e = p.0 in cc)
  apart_by a b false (inl p) = absurd (let e = p.0 in cc)
  apart_by a b false (inr p) = ((refl, p.1), (λ y h. h.0), λ f h. p.1 h.1)

  ends_tell : Reports (AreEnds s sender receiver) (HasEndsFault s sender receiver) (apart (both (manager_at s.managers sender) (manager_at s.managers receiver)))
  ends_tell =
      told_as _ _ (AreEnds s sender receiver) (HasEndsFault s sender receiver) (apart (both (manager_at s.managers sender) (manager_at s.managers receiver)))
      (λ x h. subst (AreEnds s sender receiver) (sym h.2.0) (h.1, h.2.1)) (λ x h. (x, h.0, (refl, h.1))) (λ f h. h) (λ f h. h)
      (told_then AreNamed NotNamed Differing Alike apart (λ f. refl) (both (manager_at s.managers sender) (manager_at s.managers receiver))
      (told_both (NamesPlace (manager_names s.managers) sender) (NamesPlace (manager_names s.managers) receiver) (HasNameFault (manager_names s.managers) sender) (HasNameFault (manager_names s.managers) receiver)
      (manager_at s.managers sender) (manager_at s.managers receiver) (manager_tells s.managers sender) (manager_tells s.managers receiver))
      (λ p is. apart_by p.0 p.1 (p.0 == p.1) (eqb_tells p.0 p.1)))

  abbrev AreConnected : List ℕ → List ℕ × (ℕ × ℕ) → Type 0
  AreConnected channel p = IsNewName 20 (channel_names s.cables) channel p.0 × AreEnds s sender receiver p.1

  abbrev NotConnected : List ℕ → LineFault → Type 0
  NotConnected channel f = HasNewNameFault 20 (channel_names s.cables) channel f ⊎ HasEndsFault s sender receiver f

  connected_tells : (channel : List ℕ) → Reports (AreConnected channel) (NotConnected channel) (connected s channel sender receiver)
  unfolding connected
  connected_tells channel =
      told_both (IsNewName 20 (channel_names s.cables) channel) (AreEnds s sender receiver) (HasNewNameFault 20 (channel_names s.cables) channel) (HasEndsFault s sender receiver)
      (new_channel s.cables channel) (ends_of s.managers sender receiver) (new_channel_tells s.cables channel) ends_tell

-- ---- the words behind the word of a part

alone_tells : (line : PartLine) (ws : List (List ℕ)) → Reports (λ part. (ws ≡ []) × (part ≡ line)) (HasWordFault ws) (alone line ws)
alone_tells line [] = ((refl, refl), (λ y h. h.1), λ f h. h)
alone_tells line (w ∷ ws) = form_tells (λ part. (w ∷ ws ≡ []) × (part ≡ line)) (λ y h. absurd (let e = h.0 in cc))

-- a line made of a value
abbrev Made : {A : Type 0} → (A → Type 0) → (A → PartLine) → PartLine → Type 0
Made Is make part = (x : _) × Is x × (part ≡ make x)

made_tells : {A : Type 0} (Is : A → Type 0) (Has : LineFault → Type 0) (make : A → PartLine) (m : Result A LineFault → Result PartLine LineFault) → ((x : A) → m (Ok x) ≡ Ok (make x)) → ((f : LineFault) → m (Err f) ≡ Err f)
    → (r : Result A LineFault) → Reports Is Has r → Reports (Made Is make) Has (m r)
made_tells Is Has make m ok err r t = told_map Is Has make m (Made Is make) ok err (λ x h. (x, h, refl)) (λ y h. h) r t

moment_tells : (s : Scenario) (ws : List (List ℕ)) → Reports (IsPartOf s words.Moment ws) (HasMomentFault ws) (moment_line ws)
moment_tells s [] = form_tells (IsPartOf s words.Moment []) (λ y h. h.1)
moment_tells s (word ∷ []) =
    made_tells (NumberIn 0 253300000000000 word) (NumberFault faults.Number 0 253300000000000 word) (λ n. parts.Moment n) at_moment (λ x. refl) (λ f. refl) (ranged faults.Number 0 253300000000000 word)
    (ranged_tells faults.Number refl 0 253300000000000 word)
moment_tells s (word ∷ other ∷ ws) = form_tells (IsPartOf s words.Moment (word ∷ other ∷ ws)) (λ y h. h.1)

abbrev made_manager : List ℕ × ℕ → PartLine
made_manager p = parts.Manager (record { name = p.0; log_max = p.1 })

manager_line_tells : (s : Scenario) (ws : List (List ℕ)) → Reports (IsPartOf s words.Manager ws) (HasManagerFault s ws) (manager_line s.managers ws)
manager_line_tells s [] = form_tells (IsPartOf s words.Manager []) (λ y h. h.1)
manager_line_tells s (word ∷ ws) =
    made_tells (IsManager s (word ∷ ws)) (HasManagerFault s (word ∷ ws)) made_manager managed (λ x. refl) (λ f. refl) (both (new_manager s.managers word) (log_max ws))
    (told_both (IsNewName 48 (manager_names s.managers) word) (IsLogMax ws) (HasNewNameFault 48 (manager_names s.managers) word) (HasLogFault ws)
    (new_manager s.managers word) (log_max ws) (new_manager_tells s.managers word) (log_tells ws))

abbrev made_cable : Cabled → PartLine
made_cable p = parts.Cable (record { channel = p.0.0; sender = p.0.1.0; receiver = p.0.1.1; out = p.1.0; back = p.1.1 })

cable_line_tells : (s : Scenario) (ws : List (List ℕ)) → Reports (IsPartOf s words.Cable ws) (HasCableLineFault s ws) (cable_line s ws)
unfolding cable_with
cable_line_tells s [] = form_tells (IsPartOf s words.Cable []) (λ y h. h.1)
cable_line_tells s (channel ∷ []) = form_tells (IsPartOf s words.Cable (channel ∷ [])) (λ y h. h.1)
cable_line_tells s (channel ∷ sender ∷ []) = form_tells (IsPartOf s words.Cable (channel ∷ sender ∷ [])) (λ y h. h.1)
cable_line_tells s (channel ∷ sender ∷ receiver ∷ ws) =
    made_tells (IsCable s (channel ∷ sender ∷ receiver ∷ ws)) (HasCableLineFault s (channel ∷ sender ∷ receiver ∷ ws)) made_cable cabled (λ x. refl) (λ f. refl) (both (connected s channel sender receiver) (cable_faults ws))
    (told_both (AreConnected s sender receiver channel) (AreCableFaults ws) (NotConnected s sender receiver channel) (HasCableFault ws)
    (connected s channel sender receiver) (cable_faults ws) (connected_tells s sender receiver channel) (cable_tells ws))

labelled_tells : (s : Scenario) (ws : List (List ℕ)) → Reports (IsLabelled s ws) (HasLabelledFault s ws) (labelled s ws)
labelled_tells s [] = form_tells (IsLabelled s []) (λ y h. h)
labelled_tells s (label ∷ []) = form_tells (IsLabelled s (label ∷ [])) (λ y h. h)
labelled_tells s (label ∷ manager ∷ []) = owned_tells s label manager
labelled_tells s (label ∷ manager ∷ other ∷ ws) = form_tells (IsLabelled s (label ∷ manager ∷ other ∷ ws)) (λ y h. h)

abbrev made_monitor : (List ℕ × ℕ) × List ℕ → PartLine
made_monitor p = parts.Monitor (record { label = p.0.0; manager = p.0.1; queue = p.1 })

monitor_line_tells : (s : Scenario) (ws : List (List ℕ)) → Reports (IsPartOf s words.Monitor ws) (HasMonitorFault s ws) (monitor_line s ws)
unfolding monitor_with
monitor_line_tells s [] = form_tells (IsPartOf s words.Monitor []) (λ y h. h.1)
monitor_line_tells s (label ∷ []) = form_tells (IsPartOf s words.Monitor (label ∷ [])) (λ y h. h.1)
monitor_line_tells s (label ∷ manager ∷ []) = form_tells (IsPartOf s words.Monitor (label ∷ manager ∷ [])) (λ y h. h.1)
monitor_line_tells s (label ∷ manager ∷ queue ∷ []) =
    made_tells (IsMonitor s (label ∷ manager ∷ queue ∷ [])) (HasMonitorFault s (label ∷ manager ∷ queue ∷ [])) made_monitor monitored (λ x. refl) (λ f. refl) (both (owned s label manager) (queue_in queue))
    (told_both (IsOwned s label manager) (IsQueue queue) (HasOwnedFault s label manager) (HasQueueFault queue) (owned s label manager) (queue_in queue) (owned_tells s label manager) (queue_tells queue))
monitor_line_tells s (label ∷ manager ∷ queue ∷ other ∷ ws) = form_tells (IsPartOf s words.Monitor (label ∷ manager ∷ queue ∷ other ∷ ws)) (λ y h. h.1)

pub part_tells : (s : Scenario) (word : PartWord) (ws : List (List ℕ)) → Reports (IsPartOf s word ws) (HasPartFault s word ws) (part_line s word ws)
unfolding part_line
part_tells s words.Network ws = alone_tells parts.Network ws
part_tells s words.Moment ws = moment_tells s ws
part_tells s words.Manager ws = manager_line_tells s ws
part_tells s words.Cable ws = cable_line_tells s ws
part_tells s words.Mqsc ws = made_tells (IsLabelled s ws) (HasLabelledFault s ws) (λ p. parts.Mqsc p.0 p.1) mqsc_of (λ x. refl) (λ f. refl) (labelled s ws) (labelled_tells s ws)
part_tells s words.Rules ws = made_tells (IsLabelled s ws) (HasLabelledFault s ws) (λ p. parts.Rules p.0 p.1) rules_of (λ x. refl) (λ f. refl) (labelled s ws) (labelled_tells s ws)
part_tells s words.Script ws = made_tells (IsLabelled s ws) (HasLabelledFault s ws) (λ p. parts.Script p.0 p.1) script_of (λ x. refl) (λ f. refl) (labelled s ws) (labelled_tells s ws)
part_tells s words.Monitor ws = monitor_line_tells s ws
part_tells s words.Steps ws = alone_tells parts.Steps ws

-- ---- room and order

limit_below : (limit : Limit) → limit_rank limit < 19
limit_below limits.Lines = omega arith
limit_below limits.Managers = omega arith
limit_below limits.Cables = omega arith
limit_below limits.Scripts = omega arith
limit_below limits.Sections = omega arith
limit_below limits.Monitors = omega arith
limit_below limits.Steps = omega arith
limit_below limits.ScriptLines = omega arith
limit_below limits.Bodies = omega arith
limit_below limits.Body = omega arith
limit_below limits.Turns = omega arith
limit_below limits.Clock = omega arith
limit_below limits.LogMax = omega arith

module _ (s : Scenario) (stage : Stage) (word : PartWord) where
  abbrev low : ℕ
  low = stage_rank (from_stage word)

  abbrev here : ℕ
  here = stage_rank stage

  abbrev high : ℕ
  high = stage_rank (up_to_stage word)

  abbrev IsOut : Type 0
  IsOut = (here < low) ⊎ (high < here)

  abbrev OutTells : Bool → Type 0
  OutTells t = ((t ≡ true) × IsOut) ⊎ ((t ≡ false) × (low ≤ here) × (here ≤ high))

  out_by : (a b : Bool) → nat_lt here low ≡ a → nat_lt high here ≡ b → OutTells (a || b)
  out_by true b e f = inl (refl, inl (le_of (suc here) low e))
  out_by false true e f = inl (refl, inr (le_of (suc high) here f))
  out_by false false e f = inr (refl, not_less here low e, not_less high here f)
    where
      not_less : (m n : ℕ) → nat_lt m n ≡ false → n ≤ m
      not_less m n e = elim (leb_tells (suc m) n) [
        | inl t ↦ absurd (let g : true ≡ false = sym t.0 ∙ e in cc)
        | inr t ↦ (let lt = t.1 in omega (arith, lt))
      ]

  full_limit : (a b : Limit) → Some a ≡ Some b → a ≡ b
  full_limit a b e = cc

  never_full : (a : Limit) → None ≡ Some a → ⊥
  never_full a e = absurd cc

  in_place : (o : Option Limit) → is_full s word ≡ o → (o ≡ None) → (t : Bool) → OutTells t → Reports (IsAllowed s stage word) (HasOrderFault s stage word) (cond t (Err faults.Order) (Ok (stage_behind word)))
  in_place o full none true (inl out) =
      ((λ y h. both_ways h.1 h.2 out.1), inr (refl, out.1), refl, λ g h. order_first g h)
    where
      both_ways : low ≤ here → here ≤ high → IsOut → ⊥
      both_ways a b (inl lt) = absurd (omega (arith, a, lt))
      both_ways a b (inr lt) = absurd (omega (arith, b, lt))

      order_first : (g : LineFault) → HasOrderFault s stage word g → (g ≡ faults.Order) ⊎ (rank faults.Order < rank g)
      order_first g (inl h) = absurd (never_full h.0 (sym none ∙ sym full ∙ h.1))
      order_first g (inr h) = inl h.0
  in_place o full none true (inr out) = absurd (let e = out.0 in cc)
  in_place o full none false (inl out) = absurd (let e = out.0 in cc)
  in_place o full none false (inr out) = ((full ∙ none, out.1, out.2, refl), (λ y h. h.3), λ g h. never g h)
    where
      never : (g : LineFault) → HasOrderFault s stage word g → ⊥
      never g (inl h) = never_full h.0 (sym none ∙ sym full ∙ h.1)
      never g (inr (e, inl lt)) = absurd (let le = out.1 in omega (arith, le, lt))
      never g (inr (e, inr lt)) = absurd (let le = out.2 in omega (arith, le, lt))

  allowed_by : (o : Option Limit) → is_full s word ≡ o → Reports (IsAllowed s stage word) (HasOrderFault s stage word) (unless_full o (in_order stage word))
  allowed_by None full = in_place None full refl (nat_lt here low || nat_lt high here) (out_by (nat_lt here low) (nat_lt high here) refl refl)
  allowed_by (Some limit) full = ((λ y h. never_full limit (sym h.0 ∙ full)), inl (limit, full, refl), refl, λ g h. limit_first g h)
    where
      limit_first : (g : LineFault) → HasOrderFault s stage word g → (g ≡ faults.Limit limit) ⊎ (rank (faults.Limit limit) < rank g)
      limit_first g (inl h) = inl (h.2 ∙ ap (λ (l : Limit). faults.Limit l) (full_limit h.0 limit (sym h.1 ∙ full)))
      limit_first g (inr h) = inr (let r : rank g ≡ 19 = ap rank h.0 in let b = limit_below limit in omega (arith, r, b))

  pub allowed_tells : Reports (IsAllowed s stage word) (HasOrderFault s stage word) (allowed s stage word)
  allowed_tells = allowed_by (is_full s word) refl
