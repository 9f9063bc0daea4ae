-- Lines of scripts: what the words of each line are, and why words are no line.
use Rattle.std.specs.Prelude.{◌≡◌, ◌⊎◌, ℕ, List, [], ◌∷◌, ◌++◌, codes}
use Rattle.mq_calls.specs.declared.answers.Open.{Open}
use Rattle.mq_history.specs.declared.scripts.Body.{Body}
use Rattle.mq_history.specs.declared.scripts.PutOptions.{PutOptions}
use Rattle.mq_history.specs.declared.scripts.GetOptions.{GetOptions}
use Rattle.mq_history.specs.declared.scripts.ScriptLine.{ScriptLine}
use Rattle.mq_history.specs.declared.scripts.ScriptLine.TheVariants as lines
use Rattle.mq_scn_lines.specs.declared.fault.LineFault.{LineFault}
use Rattle.mq_scn_lines.specs.declared.fault.LineFault.TheVariants as faults
use Rattle.mq_scn_script.specs.declared.verbs.ScriptVerb.{ScriptVerb}
use Rattle.mq_scn_script.specs.declared.verbs.ScriptVerb.TheVariants as verbs
use Rattle.mq_scn_script.specs.Verbs.{verb_word}
use Rattle.mq_scn_grammar.specs.Words.{AreBlanks, BeginsBlank, AreWords}
use Rattle.mq_scn_grammar.specs.Faults.{IsMissed, IsTold}
use Rattle.mq_scn_grammar.specs.Operands.{IsBracketed, IsLabelWord, IsNameOrBlank, IsNumber}
use Rattle.mq_scn_grammar.specs.Commands.{IsOneCommand, HasCommandFault}
use Rattle.mq_scn_grammar.specs.Bodies.{IsBodyWord, HasBodyFault}
use Rattle.mq_scn_grammar.specs.LineOptions.{NameFault, NumberFault, AreOpenOptions, HasOpenFault, ArePutOptions, HasPutFault, AreGetOptions, HasGetFault}

-- ---- parts of lines

-- a label
abbrev pub LabelIn : List ℕ → List ℕ → Type 0
LabelIn word label = IsLabelWord label word

-- a word that is no label
abbrev pub HasLabelFault : List ℕ → LineFault → Type 0
HasLabelFault word f = IsMissed faults.Name (LabelIn word) f

-- QUEUE(name)
abbrev pub IsQueueWord : (name word : List ℕ) → Type 0
IsQueueWord name word = (value : List ℕ) × IsBracketed (codes "QUEUE(") value word × IsNameOrBlank name value

-- a word that isn't QUEUE with a value, or whose value is no name
abbrev pub HasQueueFault : List ℕ → LineFault → Type 0
HasQueueFault word f = ((f ≡ faults.Form) × ((value : List ℕ) → IsBracketed (codes "QUEUE(") value word → ⊥)) ⊎ ((value : List ℕ) × IsBracketed (codes "QUEUE(") value word × NameFault value f)

-- QMGR with a value
abbrev pub IsManagerWord : (value word : List ℕ) → Type 0
IsManagerWord value word = IsBracketed (codes "QMGR(") value word

-- the manager that words name where they begin with QMGR(name), else the blank name
abbrev pub IsManagerName : List ℕ → List (List ℕ) → Type 0
IsManagerName name [] = name ≡ []
IsManagerName name (w ∷ ws) = (((value : List ℕ) → IsManagerWord value w → ⊥) × (name ≡ [])) ⊎ ((value : List ℕ) × IsManagerWord value w × IsNameOrBlank name value)

-- QMGR with a value that is no name
abbrev pub HasManagerFault : List (List ℕ) → LineFault → Type 0
HasManagerFault [] f = ⊥
HasManagerFault (w ∷ ws) f = (value : List ℕ) × IsManagerWord value w × NameFault value f

-- the words behind QMGR(name), whatever the name
abbrev pub IsBehind : (behind words : List (List ℕ)) → Type 0
IsBehind behind [] = behind ≡ []
IsBehind behind (w ∷ ws) = (((value : List ℕ) → IsManagerWord value w → ⊥) × (behind ≡ w ∷ ws)) ⊎ ((value : List ℕ) × IsManagerWord value w × (behind ≡ ws))

-- ---- what the words behind the verb are

-- the verb of a line
abbrev pub verb_of_line : ScriptLine → ScriptVerb
verb_of_line (lines.Mqconn name) = verbs.Mqconn
verb_of_line lines.Mqdisc = verbs.Mqdisc
verb_of_line lines.Mqcmit = verbs.Mqcmit
verb_of_line lines.Mqback = verbs.Mqback
verb_of_line (lines.Mqopen h name qmgr how) = verbs.Mqopen
verb_of_line (lines.Mqclose h) = verbs.Mqclose
verb_of_line (lines.Mqput h body o) = verbs.Mqput
verb_of_line (lines.Mqput1 name qmgr body o) = verbs.Mqput1
verb_of_line (lines.Reply body o) = verbs.Mqput1
verb_of_line (lines.Mqget h o) = verbs.Mqget
verb_of_line (lines.Mqsc command) = verbs.Mqsc
verb_of_line lines.Crash = verbs.Crash
verb_of_line lines.Restart = verbs.Restart
verb_of_line (lines.Cut k) = verbs.Cut

-- [name]
abbrev pub IsConnect : List ℕ → List (List ℕ) → Type 0
IsConnect name [] = name ≡ []
IsConnect name (word ∷ []) = IsNameOrBlank name word
IsConnect name (word ∷ other ∷ words) = ⊥

-- h QUEUE(name) [QMGR(name)] and options
abbrev pub IsOpening : (h name qmgr : List ℕ) → Open → List (List ℕ) → Type 0
IsOpening h name qmgr how [] = ⊥
IsOpening h name qmgr how (handle ∷ []) = ⊥
IsOpening h name qmgr how (handle ∷ queue ∷ words) =
    IsLabelWord h handle × ((IsQueueWord name queue × IsManagerName qmgr words) × ((behind : List (List ℕ)) × IsBehind behind words × AreOpenOptions behind how))

-- h
abbrev pub IsClosing : List ℕ → List (List ℕ) → Type 0
IsClosing h [] = ⊥
IsClosing h (handle ∷ []) = IsLabelWord h handle
IsClosing h (handle ∷ other ∷ words) = ⊥

-- a body and options
abbrev pub IsSent : ℕ → Body → PutOptions → List (List ℕ) → Type 0
IsSent left body o [] = ⊥
IsSent left body o (text ∷ options) = IsBodyWord left body text × ArePutOptions options o

-- h, a body and options
abbrev pub IsPut : ℕ → List ℕ → Body → PutOptions → List (List ℕ) → Type 0
IsPut left h body o [] = ⊥
IsPut left h body o (handle ∷ words) = IsLabelWord h handle × IsSent left body o words

-- TOREPLY, a body and options
abbrev pub IsReply : ℕ → Body → PutOptions → List (List ℕ) → Type 0
IsReply left body o [] = ⊥
IsReply left body o (word ∷ words) = (word ≡ codes "TOREPLY") × IsSent left body o words

-- QUEUE(name) [QMGR(name)], a body and options
abbrev pub IsPutOnce : ℕ → (name qmgr : List ℕ) → Body → PutOptions → List (List ℕ) → Type 0
IsPutOnce left name qmgr body o [] = ⊥
IsPutOnce left name qmgr body o (queue ∷ words) = (behind : List (List ℕ)) × IsBehind behind words × ((IsQueueWord name queue × IsManagerName qmgr words) × IsSent left body o behind)

-- h and options
abbrev pub IsGet : List ℕ → GetOptions → List (List ℕ) → Type 0
IsGet h o [] = ⊥
IsGet h o (handle ∷ words) = IsLabelWord h handle × AreGetOptions words o

-- a number from 1 to 1000
abbrev pub IsCut : ℕ → List (List ℕ) → Type 0
IsCut k [] = ⊥
IsCut k (count ∷ []) = IsNumber 1 1000 k count
IsCut k (count ∷ other ∷ words) = ⊥

-- the words behind the verb of a line
abbrev pub IsRest : ℕ → ScriptLine → List (List ℕ) → Type 0
IsRest left (lines.Mqconn name) words = IsConnect name words
IsRest left lines.Mqdisc words = words ≡ []
IsRest left lines.Mqcmit words = words ≡ []
IsRest left lines.Mqback words = words ≡ []
IsRest left (lines.Mqopen h name qmgr how) words = IsOpening h name qmgr how words
IsRest left (lines.Mqclose h) words = IsClosing h words
IsRest left (lines.Mqput h body o) words = IsPut left h body o words
IsRest left (lines.Mqput1 name qmgr body o) words = IsPutOnce left name qmgr body o words
IsRest left (lines.Reply body o) words = IsReply left body o words
IsRest left (lines.Mqget h o) words = IsGet h o words
IsRest left (lines.Mqsc command) words = ⊥
IsRest left lines.Crash words = words ≡ []
IsRest left lines.Restart words = words ≡ []
IsRest left (lines.Cut k) words = IsCut k words

-- ---- why words behind a verb are no line

-- a word where none may stand
abbrev pub HasWordFault : List (List ℕ) → LineFault → Type 0
HasWordFault [] f = ⊥
HasWordFault (word ∷ words) f = f ≡ faults.Form

-- a name that is none, or a second word
abbrev pub HasConnectFault : List (List ℕ) → LineFault → Type 0
HasConnectFault [] f = ⊥
HasConnectFault (word ∷ []) f = NameFault word f
HasConnectFault (word ∷ other ∷ words) f = f ≡ faults.Form

-- a handle and a queue are needed
abbrev pub HasOpeningFault : List (List ℕ) → LineFault → Type 0
HasOpeningFault [] f = f ≡ faults.Form
HasOpeningFault (handle ∷ []) f = f ≡ faults.Form
HasOpeningFault (handle ∷ queue ∷ words) f =
    HasLabelFault handle f ⊎ ((HasQueueFault queue f ⊎ HasManagerFault words f) ⊎ ((behind : List (List ℕ)) × IsBehind behind words × HasOpenFault behind f))

-- a handle is needed, and no more
abbrev pub HasCloseFault : List (List ℕ) → LineFault → Type 0
HasCloseFault [] f = f ≡ faults.Form
HasCloseFault (handle ∷ []) f = HasLabelFault handle f
HasCloseFault (handle ∷ other ∷ words) f = f ≡ faults.Form

-- a body is needed
abbrev pub HasSentFault : ℕ → List (List ℕ) → LineFault → Type 0
HasSentFault left [] f = f ≡ faults.Form
HasSentFault left (body ∷ words) f = HasBodyFault left body f ⊎ HasPutFault words f

-- a handle and a body are needed
abbrev pub HasPutLineFault : ℕ → List (List ℕ) → LineFault → Type 0
HasPutLineFault left [] f = f ≡ faults.Form
HasPutLineFault left (handle ∷ words) f = HasLabelFault handle f ⊎ HasSentFault left words f

-- a queue and a body are needed: behind is what stands behind the manager
abbrev pub HasTargetFault : ℕ → List ℕ → (words behind : List (List ℕ)) → LineFault → Type 0
HasTargetFault left queue words [] f = f ≡ faults.Form
HasTargetFault left queue words (body ∷ options) f = (HasQueueFault queue f ⊎ HasManagerFault words f) ⊎ HasSentFault left (body ∷ options) f

-- TOREPLY, or a queue
abbrev pub HasPut1Fault : ℕ → List (List ℕ) → LineFault → Type 0
HasPut1Fault left [] f = f ≡ faults.Form
HasPut1Fault left (word ∷ words) f =
    ((word ≡ codes "TOREPLY") × HasSentFault left words f)
    ⊎ ((word ≡ codes "TOREPLY" → ⊥) × ((behind : List (List ℕ)) × IsBehind behind words × HasTargetFault left word words behind f))

-- a handle is needed
abbrev pub HasGetLineFault : List (List ℕ) → LineFault → Type 0
HasGetLineFault [] f = f ≡ faults.Form
HasGetLineFault (handle ∷ words) f = HasLabelFault handle f ⊎ HasGetFault words f

-- a count is needed, and no more
abbrev pub HasCutFault : List (List ℕ) → LineFault → Type 0
HasCutFault [] f = f ≡ faults.Form
HasCutFault (count ∷ []) f = NumberFault faults.Number 1 1000 count f
HasCutFault (count ∷ other ∷ words) f = f ≡ faults.Form

-- the faults of the words behind a verb
abbrev pub HasFault : ℕ → ScriptVerb → List (List ℕ) → LineFault → Type 0
HasFault left verbs.Mqconn words f = HasConnectFault words f
HasFault left verbs.Mqdisc words f = HasWordFault words f
HasFault left verbs.Mqcmit words f = HasWordFault words f
HasFault left verbs.Mqback words f = HasWordFault words f
HasFault left verbs.Mqopen words f = HasOpeningFault words f
HasFault left verbs.Mqclose words f = HasCloseFault words f
HasFault left verbs.Mqput words f = HasPutLineFault left words f
HasFault left verbs.Mqput1 words f = HasPut1Fault left words f
HasFault left verbs.Mqget words f = HasGetLineFault words f
HasFault left verbs.Mqsc words f = ⊥
HasFault left verbs.Crash words f = HasWordFault words f
HasFault left verbs.Restart words f = HasWordFault words f
HasFault left verbs.Cut words f = HasCutFault words f

-- ---- a line of a script

-- MQSC, and what stands behind it
abbrev pub IsMqsc : (rest text : List ℕ) → Type 0
IsMqsc rest text = (blanks : List ℕ) × (text ≡ blanks ++ (codes "MQSC" ++ rest)) × AreBlanks blanks × BeginsBlank rest

-- words that begin with a verb
abbrev pub AreVerbWords : ScriptVerb → (words : List (List ℕ)) → (text : List ℕ) → Type 0
AreVerbWords verb words text = (verb ≡ verbs.Mqsc → ⊥) × AreWords (verb_word verb ∷ words) text

-- Behind MQSC stands one command, whose quotes and blanks are its own; any other line is its words.
abbrev pub IsScriptLine : ℕ → ScriptLine → (text : List ℕ) → Type 0
IsScriptLine left (lines.Mqsc command) text = (rest : List ℕ) × IsMqsc rest text × IsOneCommand rest command
IsScriptLine left line text = (words : List (List ℕ)) × AreVerbWords (verb_of_line line) words text × IsRest left line words

-- The faults of a line: it is neither MQSC nor words that begin with a verb; or its words have a fault; or the command.
abbrev pub HasLineFault : ℕ → (text : List ℕ) → LineFault → Type 0
HasLineFault left text f =
    ((f ≡ faults.Form) × ((rest : List ℕ) → IsMqsc rest text → ⊥) × ((verb : ScriptVerb) (words : List (List ℕ)) → AreVerbWords verb words text → ⊥))
    ⊎ (((verb : ScriptVerb) × (words : List (List ℕ)) × AreVerbWords verb words text × HasFault left verb words f)
    ⊎ ((rest : List ℕ) × IsMqsc rest text × HasCommandFault rest f))

-- the fault that is told of a line
abbrev pub IsScriptFault : ℕ → (text : List ℕ) → LineFault → Type 0
IsScriptFault left text f = IsTold (λ g. HasLineFault left text g) f
