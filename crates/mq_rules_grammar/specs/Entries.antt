-- What an entry of a rules table is: keywords with their values in brackets; and what they say, of a rule or of the
-- control entry.
use Rattle.std.specs.Prelude.{◌≡◌, ◌⊎◌, ℕ, ℤ, Bool, true, false, List, [], ◌∷◌, codes, Option, Some, None, Result, Ok}
use Rattle.mq_base.specs.Members.{Mem}
use Rattle.mq_sc_lex.specs.declared.token.TokenKind.{TokenKind}
use Rattle.mq_sc_lex.specs.declared.token.TokenKind.TheVariants as tokens
use Rattle.mq_sc_grammar.specs.Spelling.{IsValue}
use Rattle.mq_rules.specs.declared.rule.Condition.{Condition}
use Rattle.mq_rules.specs.declared.rule.Condition.TheVariants as conditions
use Rattle.mq_rules.specs.declared.rule.Target.{Target}
use Rattle.mq_rules.specs.declared.rule.Target.TheVariants as targets
use Rattle.mq_rules.specs.declared.rule.Action.{Action}
use Rattle.mq_rules.specs.declared.rule.Action.TheVariants as actions
use Rattle.mq_rules.specs.declared.rule.Rule.{Rule}
use Rattle.mq_rules.specs.declared.rule.Wait.{Wait}
use Rattle.mq_rules.specs.declared.rule.Wait.TheVariants as waits
use Rattle.mq_rules_text.specs.declared.fault.Flaw.{Flaw}
use Rattle.mq_rules_text.specs.declared.keyword.Keyword.{Keyword}
use Rattle.mq_rules_text.specs.declared.keyword.Keyword.TheVariants as words
use Rattle.mq_rules_text.specs.declared.pairs.Pair.{Pair}
use Rattle.mq_rules_text.specs.declared.values.Verb.{Verb}
use Rattle.mq_rules_text.specs.declared.values.Verb.TheVariants as verbs
use Rattle.mq_rules_text.specs.declared.control.Control.{Control}
use Rattle.mq_rules_text.specs.Keywords.{word, is_control}
use Rattle.mq_rules_text.specs.Values.{queue_target, manager_target, name_or_blank, number_value, ranged, yes_or_no, verb_of, wait_of}

-- ---- how an entry is written

-- the keyword that a word is, if it is one
abbrev pub IsKeywordOf : Option Keyword → List ℕ → Type 0
IsKeywordOf (Some k) text = text ≡ word k
IsKeywordOf None text = (k : Keyword) → text ≡ word k → ⊥

-- words, each with one value in brackets behind it, one behind the other
abbrev pub ArePairs : List Pair → List TokenKind → Type 0
ArePairs [] kinds = kinds ≡ []
ArePairs (p ∷ ps) kinds = (text : List ℕ) × (value : TokenKind) × (rest : List TokenKind)
    × (kinds ≡ tokens.Word text ∷ tokens.Open ∷ value ∷ tokens.Close ∷ rest) × IsKeywordOf p.keyword text × IsValue p.value value × ArePairs ps rest

-- ---- which keywords it may have

abbrev pub Each : (Pair → Type 0) → List Pair → Type 0
Each P [] = Unit {0}
Each P (p ∷ ps) = P p × Each P ps

-- a keyword of the control entry, or of a rule
abbrev pub IsOf : (control : Bool) → Pair → Type 0
IsOf control p = (k : Keyword) × (p.keyword ≡ Some k) × (is_control k ≡ control)

-- no keyword comes twice
abbrev pub AreSingle : List Pair → Type 0
AreSingle [] = Unit {0}
AreSingle (p ∷ ps) = ((k : Keyword) (q : Pair) → p.keyword ≡ Some k → Mem q ps → q.keyword ≡ Some k → ⊥) × AreSingle ps

-- each pair has a keyword of a rule, or each one of the control entry, and none comes twice
abbrev pub AreAllowed : (control : Bool) → List Pair → Type 0
AreAllowed control ps = Each (IsOf control) ps × AreSingle ps

-- ---- what a value may be

abbrev pub IsGood : Keyword → List ℕ → Type 0
IsGood (words.Text field) v = Unit {0}
IsGood (words.Number field) v = (v ≡ codes "*") ⊎ ((v ≡ codes "*" → ⊥) × ((z : ℤ) × (number_value field v ≡ Ok z)))
IsGood words.Action v = (verb : Verb) × (verb_of v ≡ Ok verb)
IsGood words.ForwardQueue v = (target : Target) × (queue_target v ≡ Ok target)
IsGood words.ForwardManager v = (target : Target) × (manager_target v ≡ Ok target)
IsGood words.Header v = (b : Bool) × (yes_or_no v ≡ Ok b)
IsGood words.Retry v = (n : ℕ) × (ranged 1 999999999 v ≡ Ok n)
IsGood words.InputQueue v = (name : List ℕ) × (name_or_blank v ≡ Ok name)
IsGood words.InputManager v = ⊥
IsGood words.RetryInterval v = (n : ℕ) × (ranged 1 999999999 v ≡ Ok n)
IsGood words.Wait v = (wait : Wait) × (wait_of v ≡ Ok wait)

-- INPUTQM is blank or the own name
abbrev pub IsOwn : (own v : List ℕ) → Type 0
IsOwn own v = (name : List ℕ) × (name_or_blank v ≡ Ok name) × ((name ≡ []) ⊎ (name ≡ own))

-- a keyword takes this value, at the manager of that name
abbrev pub Takes : (own : List ℕ) → Keyword → List ℕ → Type 0
Takes own words.InputManager v = IsOwn own v
Takes own k v = IsGood k v

abbrev pub AreTaken : (own : List ℕ) → List Pair → Type 0
AreTaken own ps = Each (λ (p : Pair). (k : Keyword) × (p.keyword ≡ Some k) × Takes own k p.value) ps

-- ---- what an entry says

-- the keyword is there with this value
abbrev pub Has : Keyword → List ℕ → List Pair → Type 0
Has k v ps = Mem (record { keyword = Some k; value = v }) ps

abbrev pub Lacks : Keyword → List Pair → Type 0
Lacks k ps = (v : List ℕ) → Has k v ps → ⊥

-- what the value of a keyword means, or this where it isn't there
abbrev pub IsSaid : {X : Type 0} → Keyword → (List ℕ → Result X Flaw) → (default : X) → List Pair → X → Type 0
IsSaid k means default ps x = ((v : List ℕ) × Has k v ps × (means v ≡ Ok x)) ⊎ (Lacks k ps × (x ≡ default))

-- a pattern for a text or a number; a star stands for any number
abbrev pub IsOnto : Option Keyword → List ℕ → (later all : List Condition) → Type 0
IsOnto (Some (words.Text field)) v later all = all ≡ conditions.Text field v ∷ later
IsOnto (Some (words.Number field)) v later all = ((v ≡ codes "*") × (all ≡ later)) ⊎ ((v ≡ codes "*" → ⊥) × ((z : ℤ) × (number_value field v ≡ Ok z) × (all ≡ conditions.Number field z ∷ later)))
IsOnto _ v later all = all ≡ later

-- the patterns of a rule, in order
abbrev pub AreConditions : List Pair → List Condition → Type 0
AreConditions [] all = all ≡ []
AreConditions (p ∷ ps) all = (later : List Condition) × IsOnto p.keyword p.value later all × AreConditions ps later

-- to which queue and manager it forwards, and whether with a header
pub record IsForward (ps : List Pair) (action : Action) : Type 0 where
  pub v : List ℕ
  pub queue : Target
  pub qmgr : Target
  pub header : Bool
  pub has : Has words.ForwardQueue v ps
  pub queued : queue_target v ≡ Ok queue
  pub managed : IsSaid words.ForwardManager manager_target (targets.Name []) ps qmgr
  pub headed : IsSaid words.Header yes_or_no true ps header
  pub is : action ≡ actions.Forward (record { queue = queue; qmgr = qmgr; header = header })

abbrev pub Acts : Verb → List Pair → Action → Type 0
Acts verbs.Discard ps action = action ≡ actions.Discard
Acts verbs.Ignore ps action = action ≡ actions.Ignore
Acts verbs.Retry ps action = action ≡ actions.Retry
Acts verbs.Forward ps action = IsForward ps action

-- the pairs say this rule
pub record IsRule (ps : List Pair) (rule : Rule) : Type 0 where
  pub v : List ℕ
  pub verb : Verb
  pub allowed : AreAllowed false ps
  pub taken : AreTaken [] ps
  pub conditions : AreConditions ps rule.conditions
  pub has : Has words.Action v ps
  pub acts : verb_of v ≡ Ok verb
  pub action : Acts verb ps rule.action
  pub retries : IsSaid words.Retry (ranged 1 999999999) 1 ps rule.retries

-- the pairs say this control entry
pub record IsControl (own : List ℕ) (ps : List Pair) (c : Control) : Type 0 where
  pub allowed : AreAllowed true ps
  pub taken : AreTaken own ps
  pub queue : IsSaid words.InputQueue name_or_blank [] ps c.input_q
  pub interval : IsSaid words.RetryInterval (ranged 1 999999999) 60 ps c.retry_interval
  pub wait : IsSaid words.Wait wait_of waits.Yes ps c.wait
