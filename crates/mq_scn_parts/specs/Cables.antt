-- The faults of a cable: DROP(k), SPOIL(k), LATE(k,j) and COPY(k,j), in its two directions.
use Rattle.std.specs.Prelude.{◌≡◌, ◌⊎◌, ℕ, ◌≤◌, ◌<◌, List, [], ◌∷◌, ◌++◌, codes}
use Rattle.mq_cable.specs.declared.fault.Fault.{Fault}
use Rattle.mq_cable.specs.declared.fault.Fault.TheVariants as cables
use Rattle.mq_scn_lines.specs.declared.fault.LineFault.{LineFault}
use Rattle.mq_scn_lines.specs.declared.fault.LineFault.TheVariants as faults
use Rattle.mq_scn_grammar.specs.Words.{Mem}
use Rattle.mq_scn_grammar.specs.Operands.{IsBracketed, IsNumber, HasNumberFault}

-- ---- a fault

-- a frame, counted from 1
abbrev pub IsFrame : List ℕ → ℕ → Type 0
IsFrame text k = IsNumber 1 4294967295 k text

abbrev pub HasFrameFault : List ℕ → LineFault → Type 0
HasFrameFault text f = HasNumberFault faults.Number (IsFrame text) text f

-- what stands in the brackets
pub data FaultShape : Type 0 where
  drops : (frame : List ℕ) → FaultShape
  spoils : (frame : List ℕ) → FaultShape
  holds : (frame after : List ℕ) → FaultShape
  copies : (frame after : List ℕ) → FaultShape

-- a word of that shape
abbrev pub IsFaultShape : FaultShape → List ℕ → Type 0
IsFaultShape (drops frame) word = IsBracketed (codes "DROP(") frame word
IsFaultShape (spoils frame) word = IsBracketed (codes "SPOIL(") frame word
IsFaultShape (holds frame after) word = IsBracketed (codes "LATE(") (frame ++ 44 ∷ after) word × (Mem 44 frame → ⊥)
IsFaultShape (copies frame after) word = IsBracketed (codes "COPY(") (frame ++ 44 ∷ after) word × (Mem 44 frame → ⊥)

-- the fault: a frame is held back behind a later one, and pushed again behind itself or a later one
abbrev pub IsFaultOf : FaultShape → Fault → Type 0
IsFaultOf (drops frame) fault = (k : ℕ) × IsFrame frame k × (fault ≡ cables.Drop k)
IsFaultOf (spoils frame) fault = (k : ℕ) × IsFrame frame k × (fault ≡ cables.Spoil k)
IsFaultOf (holds frame after) fault = (p : ℕ × ℕ) × (IsFrame frame p.0 × IsFrame after p.1) × ((p.0 < p.1) × (fault ≡ cables.Late p.0 p.1))
IsFaultOf (copies frame after) fault = (p : ℕ × ℕ) × (IsFrame frame p.0 × IsFrame after p.1) × ((p.0 ≤ p.1) × (fault ≡ cables.Copy p.0 p.1))

-- a number that is no frame, or frames the wrong way round
abbrev pub HasShapeFault : FaultShape → LineFault → Type 0
HasShapeFault (drops frame) f = HasFrameFault frame f
HasShapeFault (spoils frame) f = HasFrameFault frame f
HasShapeFault (holds frame after) f =
    (HasFrameFault frame f ⊎ HasFrameFault after f) ⊎ ((p : ℕ × ℕ) × (IsFrame frame p.0 × IsFrame after p.1) × ((f ≡ faults.Number) × (p.0 < p.1 → ⊥)))
HasShapeFault (copies frame after) f =
    (HasFrameFault frame f ⊎ HasFrameFault after f) ⊎ ((p : ℕ × ℕ) × (IsFrame frame p.0 × IsFrame after p.1) × ((f ≡ faults.Number) × (p.0 ≤ p.1 → ⊥)))

-- a word is a fault
abbrev pub IsFaultWord : List ℕ → Fault → Type 0
IsFaultWord word fault = (shape : FaultShape) × IsFaultShape shape word × IsFaultOf shape fault

-- why a word is none
abbrev pub HasWordFault : List ℕ → LineFault → Type 0
HasWordFault word f = ((f ≡ faults.Form) × ((shape : FaultShape) → IsFaultShape shape word → ⊥)) ⊎ ((shape : FaultShape) × IsFaultShape shape word × HasShapeFault shape f)

-- ---- the faults of a direction

-- the value in the brackets of a word that may be a fault
abbrev pub IsFaultValue : List ℕ → List ℕ → Type 0
IsFaultValue word value =
    (IsBracketed (codes "DROP(") value word ⊎ IsBracketed (codes "SPOIL(") value word)
    ⊎ (IsBracketed (codes "LATE(") value word ⊎ IsBracketed (codes "COPY(") value word)

-- what stands before the first comma, or all where there is none
abbrev pub IsHead : (value head : List ℕ) → Type 0
IsHead value head = (Mem 44 head → ⊥) × ((value ≡ head) ⊎ ((rest : List ℕ) × (value ≡ head ++ 44 ∷ rest)))

-- the frame on which a fault is, as far as its first number tells
abbrev pub IsOnFrame : List ℕ → ℕ → Type 0
IsOnFrame word k = (value : List ℕ) × (head : List ℕ) × IsFaultValue word value × IsHead value head × IsFrame head k

-- two of the words are on the same frame
abbrev pub HaveSameFrame : List (List ℕ) → Type 0
HaveSameFrame [] = ⊥
HaveSameFrame (w ∷ ws) = ((k : ℕ) × (v : List ℕ) × IsOnFrame w k × Mem v ws × IsOnFrame v k) ⊎ HaveSameFrame ws

-- each word is a fault
abbrev pub AreFaultWords : List (List ℕ) → List Fault → Type 0
AreFaultWords [] [] = Unit {0}
AreFaultWords [] (x ∷ xs) = ⊥
AreFaultWords (w ∷ ws) [] = ⊥
AreFaultWords (w ∷ ws) (x ∷ xs) = IsFaultWord w x × AreFaultWords ws xs

-- and no two are on one frame
abbrev pub AreFaults : List (List ℕ) → List Fault → Type 0
AreFaults words xs = AreFaultWords words xs × (HaveSameFrame words → ⊥)

abbrev pub HasFaultsFault : List (List ℕ) → LineFault → Type 0
HasFaultsFault words f = ((w : List ℕ) × Mem w words × HasWordFault w f) ⊎ ((f ≡ faults.Twice) × HaveSameFrame words)

-- ---- the two directions

-- nothing, or the word of the direction and one fault or more
abbrev pub IsDirection : (keyword : List ℕ) → List (List ℕ) → List Fault → Type 0
IsDirection keyword [] xs = xs ≡ []
IsDirection keyword (w ∷ []) xs = ⊥
IsDirection keyword (w ∷ v ∷ ws) xs = (w ≡ keyword) × AreFaults (v ∷ ws) xs

abbrev pub HasDirectionFault : (keyword : List ℕ) → List (List ℕ) → LineFault → Type 0
HasDirectionFault keyword [] f = ⊥
HasDirectionFault keyword (w ∷ []) f = f ≡ faults.Form
HasDirectionFault keyword (w ∷ v ∷ ws) f = ((f ≡ faults.Form) × (w ≡ keyword → ⊥)) ⊎ ((w ≡ keyword) × HasFaultsFault (v ∷ ws) f)

-- the words before BACK, and those from it on
abbrev pub IsSplit : List (List ℕ) → List (List ℕ) × List (List ℕ) → Type 0
IsSplit [] p = p ≡ ([], [])
IsSplit (w ∷ ws) p =
    ((w ≡ codes "BACK") × (p ≡ ([], w ∷ ws)))
    ⊎ ((w ≡ codes "BACK" → ⊥) × ((q : List (List ℕ) × List (List ℕ)) × IsSplit ws q × (p ≡ (w ∷ q.0, q.1))))

-- [OUT faults] [BACK faults]
abbrev pub AreCableFaults : List (List ℕ) → List Fault × List Fault → Type 0
AreCableFaults words xs =
    (p : List (List ℕ) × List (List ℕ)) × IsSplit words p × (IsDirection (codes "OUT") p.0 xs.0 × IsDirection (codes "BACK") p.1 xs.1)

abbrev pub HasCableFault : List (List ℕ) → LineFault → Type 0
HasCableFault words f =
    (p : List (List ℕ) × List (List ℕ)) × IsSplit words p × (HasDirectionFault (codes "OUT") p.0 f ⊎ HasDirectionFault (codes "BACK") p.1 f)
