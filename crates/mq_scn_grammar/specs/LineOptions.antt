-- What the options of opens, puts and gets say.
use Rattle.std.specs.Prelude.{◌≡◌, ◌⊎◌, ℕ, ℤ, pos, negsuc, List, [], codes, replicate, Option, Some, None}
use Rattle.mq_calls.specs.declared.answers.Input.{Input}
use Rattle.mq_calls.specs.declared.answers.Input.TheVariants as inputs
use Rattle.mq_calls.specs.declared.answers.Open.{Open}
use Rattle.mq_calls.specs.declared.answers.Take.{Take}
use Rattle.mq_calls.specs.declared.answers.Take.TheVariants as takes
use Rattle.mq_history.specs.declared.scripts.PutOptions.{PutOptions}
use Rattle.mq_history.specs.declared.scripts.GetOptions.{GetOptions}
use Rattle.mq_scn_lines.specs.declared.fault.Limit.TheVariants as limits
use Rattle.mq_scn_lines.specs.declared.fault.LineFault.{LineFault}
use Rattle.mq_scn_lines.specs.declared.fault.LineFault.TheVariants as faults
use Rattle.mq_scn_lines.specs.declared.options.LineOption.{LineOption}
use Rattle.mq_scn_lines.specs.declared.options.LineOption.TheVariants as options
use Rattle.mq_scn_script.specs.Options.{for_open, for_put, for_get}
use Rattle.mq_sc_grammar.specs.Commands.{Tells}
use Rattle.mq_scn_grammar.specs.Faults.{IsMissed}
use Rattle.mq_scn_grammar.specs.Operands.{IsNameOrBlank, IsField, IsNumber, IsSigned, HasNumberFault}
use Rattle.mq_scn_grammar.specs.Options.{AreOptions, Says, HasValue}

-- ---- values of options

-- what the value is that the words give, or the default where they give none
abbrev pub IsValueOr : {A : Type 0} → (List ℕ → A → Type 0) → A → LineOption → List (List ℕ) → A → Type 0
IsValueOr Is default option words x = (((value : List ℕ) → HasValue option value words → ⊥) × (x ≡ default)) ⊎ ((value : List ℕ) × HasValue option value words × Is value x)

-- a fault of the value that the words give
abbrev pub HasValueFault : (List ℕ → LineFault → Type 0) → LineOption → List (List ℕ) → LineFault → Type 0
HasValueFault Has option words f = (value : List ℕ) × HasValue option value words × Has value f

-- a name, or the blank one
abbrev pub NameIn : List ℕ → List ℕ → Type 0
NameIn value name = IsNameOrBlank name value

-- what is no name and isn't blank
abbrev pub NameFault : List ℕ → LineFault → Type 0
NameFault value f = IsMissed faults.Name (NameIn value) f

-- a number of 32 bits with a sign
abbrev pub SignedIn : List ℕ → ℤ → Type 0
SignedIn value n = IsSigned n value

-- what is no such number
abbrev pub SignedFault : List ℕ → LineFault → Type 0
SignedFault value f = HasNumberFault faults.Number (SignedIn value) value f

-- a field that a text in quotes fills
abbrev pub FieldIn : ℕ → ℕ → List ℕ → List ℕ → Type 0
FieldIn width pad value field = IsField width pad field value

-- what is no text, or too long for its field
abbrev pub FieldFault : ℕ → ℕ → List ℕ → LineFault → Type 0
FieldFault width pad value f = IsMissed faults.Form (FieldIn width pad value) f

-- a number in a range
abbrev pub NumberIn : ℕ → ℕ → List ℕ → ℕ → Type 0
NumberIn low high value n = IsNumber low high n value

-- what is no number of that range
abbrev pub NumberFault : LineFault → ℕ → ℕ → List ℕ → LineFault → Type 0
NumberFault beyond low high value f = HasNumberFault beyond (NumberIn low high value) value f

-- the value is there
abbrev pub SomeOf : {A : Type 0} → (List ℕ → A → Type 0) → List ℕ → Option A → Type 0
SomeOf Is value None = ⊥
SomeOf Is value (Some x) = Is value x

-- ---- opens

-- SHARED, EXCLUSIVE or none of both
abbrev pub IsInput : Input → List (List ℕ) → Type 0
IsInput inputs.No words = (Says options.Shared words → ⊥) × (Says options.Exclusive words → ⊥)
IsInput inputs.Shared words = Says options.Shared words
IsInput inputs.Exclusive words = Says options.Exclusive words

-- the options of an open
pub record AreOpenOptions (words : List (List ℕ)) (how : Open) : Type 0 where
  pub are : AreOptions for_open words
  pub input : IsInput how.input words
  pub browse : Tells how.browse (Says options.Browse words)
  pub output : Tells how.output (Says options.Output words)

-- words that are no options of an open
abbrev pub HasOpenFault : List (List ℕ) → LineFault → Type 0
HasOpenFault words f = (f ≡ faults.Form) × (AreOptions for_open words → ⊥)

-- ---- puts

-- PERSIST is 1, NOPERSIST 0, and neither 2
abbrev pub IsPersistence : ℤ → List (List ℕ) → Type 0
IsPersistence n words =
    (Says options.Persist words × (n ≡ pos 1))
    ⊎ ((Says options.NoPersist words × (n ≡ pos 0))
    ⊎ ((Says options.Persist words → ⊥) × (Says options.NoPersist words → ⊥) × (n ≡ pos 2)))

-- the options of a put, or the default of what the words don't give
pub record ArePutOptions (words : List (List ℕ)) (o : PutOptions) : Type 0 where
  pub are : AreOptions for_put words
  pub sync : Tells o.sync (Says options.Sync words)
  pub priority : IsValueOr SignedIn (negsuc 0) options.Priority words o.priority
  pub persistence : IsPersistence o.persistence words
  pub expiry : IsValueOr SignedIn (negsuc 0) options.Expiry words o.expiry
  pub msg_id : IsValueOr (FieldIn 24 0) (replicate 24 0) options.MsgId words o.msg_id
  pub correl_id : IsValueOr (SomeOf (FieldIn 24 0)) None options.Correl words o.correl_id
  pub msg_type : IsValueOr SignedIn (pos 8) options.MsgType words o.msg_type
  pub reply_to_q : IsValueOr NameIn [] options.ReplyQ words o.reply_to_q
  pub reply_to_q_mgr : IsValueOr NameIn [] options.ReplyQMgr words o.reply_to_q_mgr
  pub format : IsValueOr (FieldIn 8 32) (codes "MQSTR   ") options.Format words o.format
  pub feedback : IsValueOr SignedIn (pos 0) options.Feedback words o.feedback
  pub identity : IsValueOr (FieldIn 32 32) (replicate 32 32) options.IdentityData words o.appl_identity_data

-- a text that doesn't fill its field
abbrev pub HasPutTextFault : List (List ℕ) → LineFault → Type 0
HasPutTextFault words f =
    HasValueFault (FieldFault 24 0) options.MsgId words f ⊎ (HasValueFault (FieldFault 24 0) options.Correl words f
    ⊎ (HasValueFault (FieldFault 8 32) options.Format words f ⊎ HasValueFault (FieldFault 32 32) options.IdentityData words f))

-- a name that is none
abbrev pub HasPutNameFault : List (List ℕ) → LineFault → Type 0
HasPutNameFault words f = HasValueFault NameFault options.ReplyQ words f ⊎ HasValueFault NameFault options.ReplyQMgr words f

-- a number that is none
abbrev pub HasPutNumberFault : List (List ℕ) → LineFault → Type 0
HasPutNumberFault words f =
    (HasValueFault SignedFault options.Priority words f ⊎ HasValueFault SignedFault options.Expiry words f)
    ⊎ (HasValueFault SignedFault options.MsgType words f ⊎ HasValueFault SignedFault options.Feedback words f)

-- words that are no options of a put, or a fault of a value of theirs
abbrev pub HasPutFault : List (List ℕ) → LineFault → Type 0
HasPutFault words f =
    ((f ≡ faults.Form) × (AreOptions for_put words → ⊥))
    ⊎ (AreOptions for_put words × (HasPutTextFault words f ⊎ (HasPutNameFault words f ⊎ HasPutNumberFault words f)))

-- ---- gets

-- FIRST, NEXT and CURSOR browse, UNDER takes what is under the cursor, and none of these takes the next
abbrev pub IsTake : Take → List (List ℕ) → Type 0
IsTake takes.BrowseFirst words = Says options.First words
IsTake takes.BrowseNext words = Says options.Next words
IsTake takes.BrowseUnder words = Says options.Cursor words
IsTake takes.UnderCursor words = Says options.Under words
IsTake takes.Next words = (Says options.First words → ⊥) × (Says options.Next words → ⊥) × (Says options.Cursor words → ⊥) × (Says options.Under words → ⊥)

-- the options of a get, or the default of what the words don't give
pub record AreGetOptions (words : List (List ℕ)) (o : GetOptions) : Type 0 where
  pub are : AreOptions for_get words
  pub sync : Tells o.sync (Says options.Sync words)
  pub take : IsTake o.take words
  pub msg_id : IsValueOr (SomeOf (FieldIn 24 0)) None options.MsgId words o.want.msg_id
  pub correl_id : IsValueOr (SomeOf (FieldIn 24 0)) None options.Correl words o.want.correl_id
  pub room : IsValueOr (NumberIn 0 2147483647) 4194304 options.Room words o.room
  pub truncate : Tells o.truncate (Says options.Truncate words)
  pub wait : IsValueOr (SomeOf (NumberIn 0 999999999)) None options.Wait words o.wait

-- words that are no options of a get, or a fault of a value of theirs
abbrev pub HasGetFault : List (List ℕ) → LineFault → Type 0
HasGetFault words f =
    ((f ≡ faults.Form) × (AreOptions for_get words → ⊥))
    ⊎ (AreOptions for_get words
    × ((HasValueFault (FieldFault 24 0) options.MsgId words f ⊎ HasValueFault (FieldFault 24 0) options.Correl words f)
    ⊎ (HasValueFault (NumberFault faults.Number 0 2147483647) options.Room words f ⊎ HasValueFault (NumberFault (faults.Limit limits.Clock) 0 999999999) options.Wait words f)))
