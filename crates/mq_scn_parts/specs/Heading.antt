-- Lines with which parts of a scenario begin: what the words of each are, where it may stand, and why a text is none.
use Rattle.std.specs.Prelude.{◌≡◌, ◌⊎◌, ℕ, ◌≤◌, ◌<◌, List, [], ◌∷◌, codes, None, Some}
use Rattle.mq_cable.specs.declared.fault.Fault.{Fault}
use Rattle.mq_history.specs.declared.scenario.Scenario.{Scenario}
use Rattle.mq_scn_lines.specs.declared.fault.Limit.{Limit}
use Rattle.mq_scn_lines.specs.declared.fault.Limit.TheVariants as limits
use Rattle.mq_scn_lines.specs.declared.fault.LineFault.{LineFault}
use Rattle.mq_scn_lines.specs.declared.fault.LineFault.TheVariants as faults
use Rattle.mq_scn_heading.specs.declared.parts.PartWord.{PartWord}
use Rattle.mq_scn_heading.specs.declared.parts.PartWord.TheVariants as words
use Rattle.mq_scn_heading.specs.declared.parts.Stage.{Stage}
use Rattle.mq_scn_heading.specs.declared.heading.PartLine.{PartLine}
use Rattle.mq_scn_heading.specs.declared.heading.PartLine.TheVariants as parts
use Rattle.mq_scn_heading.specs.Parts.{part_text, stage_rank, from_stage, up_to_stage, stage_behind, is_full}
use Rattle.mq_scn_grammar.specs.Words.{AreWords}
use Rattle.mq_scn_grammar.specs.Faults.{IsMissed, IsTold}
use Rattle.mq_scn_grammar.specs.Operands.{IsBracketed, IsNameWord}
use Rattle.mq_scn_grammar.specs.LineOptions.{NumberIn, NumberFault}
use Rattle.mq_scn_parts.specs.Declared.{manager_names, channel_names, NamesPlace, HasNameFault, IsNewName, HasNewNameFault, IsNewLabel, HasNewLabelFault}
use Rattle.mq_scn_parts.specs.Cables.{AreCableFaults, HasCableFault}

-- ---- parts of lines

-- LOGMAX(n)
abbrev pub IsLogMaxWord : List ℕ → ℕ → Type 0
IsLogMaxWord word n = (value : List ℕ) × IsBracketed (codes "LOGMAX(") value word × NumberIn 4096 268435456 value n

abbrev pub HasLogMaxFault : List ℕ → LineFault → Type 0
HasLogMaxFault word f =
    ((f ≡ faults.Form) × ((value : List ℕ) → IsBracketed (codes "LOGMAX(") value word → ⊥))
    ⊎ ((value : List ℕ) × IsBracketed (codes "LOGMAX(") value word × NumberFault (faults.Limit limits.LogMax) 4096 268435456 value f)

-- [LOGMAX(n)], 268,435,456 where it isn't given
abbrev pub IsLogMax : List (List ℕ) → ℕ → Type 0
IsLogMax [] n = n ≡ 268435456
IsLogMax (word ∷ []) n = IsLogMaxWord word n
IsLogMax (word ∷ other ∷ words) n = ⊥

abbrev pub HasLogFault : List (List ℕ) → LineFault → Type 0
HasLogFault [] f = ⊥
HasLogFault (word ∷ []) f = HasLogMaxFault word f
HasLogFault (word ∷ other ∷ words) f = f ≡ faults.Form

-- QUEUE(name), where a name is needed
abbrev pub IsQueue : List ℕ → List ℕ → Type 0
IsQueue word name = (value : List ℕ) × IsBracketed (codes "QUEUE(") value word × IsNameWord 48 name value

abbrev pub HasQueueFault : List ℕ → LineFault → Type 0
HasQueueFault word f =
    ((f ≡ faults.Form) × ((value : List ℕ) → IsBracketed (codes "QUEUE(") value word → ⊥))
    ⊎ ((value : List ℕ) × IsBracketed (codes "QUEUE(") value word × IsMissed faults.Name (λ (name : List ℕ). IsNameWord 48 name value) f)

-- a sender and a receiver, which differ
abbrev pub AreEnds : Scenario → (sender receiver : List ℕ) → ℕ × ℕ → Type 0
AreEnds s sender receiver p = (NamesPlace (manager_names s.managers) sender p.0 × NamesPlace (manager_names s.managers) receiver p.1) × (p.0 ≡ p.1 → ⊥)

abbrev pub HasEndsFault : Scenario → (sender receiver : List ℕ) → LineFault → Type 0
HasEndsFault s sender receiver f =
    (HasNameFault (manager_names s.managers) sender f ⊎ HasNameFault (manager_names s.managers) receiver f)
    ⊎ ((p : ℕ × ℕ) × (NamesPlace (manager_names s.managers) sender p.0 × NamesPlace (manager_names s.managers) receiver p.1) × ((f ≡ faults.Twice) × (p.0 ≡ p.1)))

-- a new label, and a manager
abbrev pub IsOwned : Scenario → (label manager : List ℕ) → List ℕ × ℕ → Type 0
IsOwned s label manager p = IsNewLabel s label p.0 × NamesPlace (manager_names s.managers) manager p.1

abbrev pub HasOwnedFault : Scenario → (label manager : List ℕ) → LineFault → Type 0
HasOwnedFault s label manager f = HasNewLabelFault s label f ⊎ HasNameFault (manager_names s.managers) manager f

-- ---- the words behind the word of a part

-- nothing may stand there
abbrev pub HasWordFault : List (List ℕ) → LineFault → Type 0
HasWordFault [] f = ⊥
HasWordFault (word ∷ ws) f = f ≡ faults.Form

-- n, 0 to 253,300,000,000,000
abbrev pub IsMoment : List (List ℕ) → ℕ → Type 0
IsMoment [] n = ⊥
IsMoment (word ∷ []) n = NumberIn 0 253300000000000 word n
IsMoment (word ∷ other ∷ ws) n = ⊥

abbrev pub HasMomentFault : List (List ℕ) → LineFault → Type 0
HasMomentFault [] f = f ≡ faults.Form
HasMomentFault (word ∷ []) f = NumberFault faults.Number 0 253300000000000 word f
HasMomentFault (word ∷ other ∷ ws) f = f ≡ faults.Form

-- name [LOGMAX(n)]
abbrev pub IsManager : Scenario → List (List ℕ) → List ℕ × ℕ → Type 0
IsManager s [] p = ⊥
IsManager s (word ∷ ws) p = IsNewName 48 (manager_names s.managers) word p.0 × IsLogMax ws p.1

abbrev pub HasManagerFault : Scenario → List (List ℕ) → LineFault → Type 0
HasManagerFault s [] f = f ≡ faults.Form
HasManagerFault s (word ∷ ws) f = HasNewNameFault 48 (manager_names s.managers) word f ⊎ HasLogFault ws f

-- channel sender receiver [OUT faults] [BACK faults]
abbrev pub Cabled : Type 0
Cabled = (List ℕ × (ℕ × ℕ)) × (List Fault × List Fault)

abbrev pub IsCable : Scenario → List (List ℕ) → Cabled → Type 0
IsCable s [] p = ⊥
IsCable s (channel ∷ []) p = ⊥
IsCable s (channel ∷ sender ∷ []) p = ⊥
IsCable s (channel ∷ sender ∷ receiver ∷ ws) p = (IsNewName 20 (channel_names s.cables) channel p.0.0 × AreEnds s sender receiver p.0.1) × AreCableFaults ws p.1

abbrev pub HasCableLineFault : Scenario → List (List ℕ) → LineFault → Type 0
HasCableLineFault s [] f = f ≡ faults.Form
HasCableLineFault s (channel ∷ []) f = f ≡ faults.Form
HasCableLineFault s (channel ∷ sender ∷ []) f = f ≡ faults.Form
HasCableLineFault s (channel ∷ sender ∷ receiver ∷ ws) f = (HasNewNameFault 20 (channel_names s.cables) channel f ⊎ HasEndsFault s sender receiver f) ⊎ HasCableFault ws f

-- label manager
abbrev pub IsLabelled : Scenario → List (List ℕ) → List ℕ × ℕ → Type 0
IsLabelled s [] p = ⊥
IsLabelled s (label ∷ []) p = ⊥
IsLabelled s (label ∷ manager ∷ []) p = IsOwned s label manager p
IsLabelled s (label ∷ manager ∷ other ∷ ws) p = ⊥

abbrev pub HasLabelledFault : Scenario → List (List ℕ) → LineFault → Type 0
HasLabelledFault s [] f = f ≡ faults.Form
HasLabelledFault s (label ∷ []) f = f ≡ faults.Form
HasLabelledFault s (label ∷ manager ∷ []) f = HasOwnedFault s label manager f
HasLabelledFault s (label ∷ manager ∷ other ∷ ws) f = f ≡ faults.Form

-- label manager QUEUE(name)
abbrev pub IsMonitor : Scenario → List (List ℕ) → (List ℕ × ℕ) × List ℕ → Type 0
IsMonitor s [] p = ⊥
IsMonitor s (label ∷ []) p = ⊥
IsMonitor s (label ∷ manager ∷ []) p = ⊥
IsMonitor s (label ∷ manager ∷ queue ∷ []) p = IsOwned s label manager p.0 × IsQueue queue p.1
IsMonitor s (label ∷ manager ∷ queue ∷ other ∷ ws) p = ⊥

abbrev pub HasMonitorFault : Scenario → List (List ℕ) → LineFault → Type 0
HasMonitorFault s [] f = f ≡ faults.Form
HasMonitorFault s (label ∷ []) f = f ≡ faults.Form
HasMonitorFault s (label ∷ manager ∷ []) f = f ≡ faults.Form
HasMonitorFault s (label ∷ manager ∷ queue ∷ []) f = HasOwnedFault s label manager f ⊎ HasQueueFault queue f
HasMonitorFault s (label ∷ manager ∷ queue ∷ other ∷ ws) f = f ≡ faults.Form

-- what the words behind the word of a part say
abbrev pub IsPartOf : Scenario → PartWord → List (List ℕ) → PartLine → Type 0
IsPartOf s words.Network ws part = (ws ≡ []) × (part ≡ parts.Network)
IsPartOf s words.Moment ws part = (n : ℕ) × IsMoment ws n × (part ≡ parts.Moment n)
IsPartOf s words.Manager ws part = (p : List ℕ × ℕ) × IsManager s ws p × (part ≡ parts.Manager (record { name = p.0; log_max = p.1 }))
IsPartOf s words.Cable ws part =
    (p : Cabled) × IsCable s ws p × (part ≡ parts.Cable (record { channel = p.0.0; sender = p.0.1.0; receiver = p.0.1.1; out = p.1.0; back = p.1.1 }))
IsPartOf s words.Mqsc ws part = (p : List ℕ × ℕ) × IsLabelled s ws p × (part ≡ parts.Mqsc p.0 p.1)
IsPartOf s words.Rules ws part = (p : List ℕ × ℕ) × IsLabelled s ws p × (part ≡ parts.Rules p.0 p.1)
IsPartOf s words.Script ws part = (p : List ℕ × ℕ) × IsLabelled s ws p × (part ≡ parts.Script p.0 p.1)
IsPartOf s words.Monitor ws part =
    (p : (List ℕ × ℕ) × List ℕ) × IsMonitor s ws p × (part ≡ parts.Monitor (record { label = p.0.0; manager = p.0.1; queue = p.1 }))
IsPartOf s words.Steps ws part = (ws ≡ []) × (part ≡ parts.Steps)

-- the faults of these words
abbrev pub HasPartFault : Scenario → PartWord → List (List ℕ) → LineFault → Type 0
HasPartFault s words.Network ws f = HasWordFault ws f
HasPartFault s words.Moment ws f = HasMomentFault ws f
HasPartFault s words.Manager ws f = HasManagerFault s ws f
HasPartFault s words.Cable ws f = HasCableLineFault s ws f
HasPartFault s words.Mqsc ws f = HasLabelledFault s ws f
HasPartFault s words.Rules ws f = HasLabelledFault s ws f
HasPartFault s words.Script ws f = HasLabelledFault s ws f
HasPartFault s words.Monitor ws f = HasMonitorFault s ws f
HasPartFault s words.Steps ws f = HasWordFault ws f

-- ---- room and order

-- there is room for the part, and it may stand at this stage
abbrev pub IsAllowed : Scenario → Stage → PartWord → Stage → Type 0
IsAllowed s stage word next =
    (is_full s word ≡ None) × (stage_rank (from_stage word) ≤ stage_rank stage) × (stage_rank stage ≤ stage_rank (up_to_stage word)) × (next ≡ stage_behind word)

abbrev pub HasOrderFault : Scenario → Stage → PartWord → LineFault → Type 0
HasOrderFault s stage word f =
    ((limit : Limit) × (is_full s word ≡ Some limit) × (f ≡ faults.Limit limit))
    ⊎ ((f ≡ faults.Order) × ((stage_rank stage < stage_rank (from_stage word)) ⊎ (stage_rank (up_to_stage word) < stage_rank stage)))

-- ---- lines

-- the word of a part and those behind it
abbrev pub BeginsPart : List ℕ → PartWord × List (List ℕ) → Type 0
BeginsPart text p = AreWords (part_text p.0 ∷ p.1) text

-- a line with which a part begins, behind such a scenario at such a stage: the stage behind it, and what it says
abbrev pub IsPartLine : Scenario → Stage → (text : List ℕ) → Stage × PartLine → Type 0
IsPartLine s stage text next = (p : PartWord × List (List ℕ)) × BeginsPart text p × (IsAllowed s stage p.0 next.0 × IsPartOf s p.0 p.1 next.1)

-- the faults of a line: its words begin with that of no part; or there is no room for it, or it stands out of order; or a
-- fault of the words behind
abbrev pub HasPartLineFault : Scenario → Stage → (text : List ℕ) → LineFault → Type 0
HasPartLineFault s stage text f =
    ((f ≡ faults.Form) × ((p : PartWord × List (List ℕ)) → BeginsPart text p → ⊥))
    ⊎ ((p : PartWord × List (List ℕ)) × BeginsPart text p × (HasOrderFault s stage p.0 f ⊎ HasPartFault s p.0 p.1 f))

-- the fault that is told of a line
abbrev pub IsPartLineFault : Scenario → Stage → (text : List ℕ) → LineFault → Type 0
IsPartLineFault s stage text f = IsTold (λ g. HasPartLineFault s stage text g) f
