-- The settings that a command gives, and the keywords that a DISPLAY asks for.
use Rattle.std.specs.Prelude.{◌≡◌, List, [], ◌∷◌, Option, Some, None, Result, Ok, Err}
use Rattle.mq_sc_keys.specs.from_objects.{Keyword, Setting}
use Rattle.mq_sc_lex.specs.declared.token.Span.{Span}
use Rattle.mq_sc_keys.specs.declared.keys.Key.{Key}
use Rattle.mq_sc_keys.specs.declared.keys.Key.TheVariants as keys
use Rattle.mq_sc_keys.specs.declared.verbs.Verb.{Verb}
use Rattle.mq_sc_keys.specs.declared.attributes.Kind.{Kind}
use Rattle.mq_sc_parse.specs.declared.splitting.Item.{Item}
use Rattle.mq_sc_keys.specs.declared.value.Value.{Value}
use Rattle.mq_sc_keys.specs.declared.value.Value.TheVariants as values
use Rattle.mq_sc_keys.specs.declared.giving.Given.{Given}
use Rattle.mq_sc_keys.specs.declared.giving.Given.TheVariants as given
use Rattle.mq_sc_parse.specs.declared.asking.Asked.{Asked}
use Rattle.mq_sc_parse.specs.declared.asking.Asked.TheVariants as asked
use Rattle.mq_sc_parse.specs.declared.fault.ScFault.{ScFault}
use Rattle.mq_sc_parse.specs.declared.fault.ScFault.TheVariants as faults
use Rattle.mq_sc_keys.specs.Attributes.{key_of}
use Rattle.mq_sc_keys.specs.Shown.{keyword_of}
use Rattle.mq_sc_keys.specs.Values.{given_of}

abbrev pub given_by : Kind → Option Key → Value → Given
given_by kind None v = given.Bad
given_by kind (Some key) v = given_of kind key v

abbrev pub given_item : Verb → Kind → Item → Given
given_item verb kind i = given_by kind (key_of verb kind i.word) i.value

abbrev pub onto_settings : Setting → Result (List Setting) ScFault → Result (List Setting) ScFault
onto_settings s (Ok ss) = Ok (s ∷ ss)
onto_settings s (Err fault) = Err fault

abbrev pub put_given : Span → Given → Result (List Setting) ScFault → Result (List Setting) ScFault
put_given span given.Bad rest = Err (faults.BadValue span)
put_given span given.Nothing rest = rest
put_given span (given.Setting s) rest = onto_settings s rest

-- what the keywords give in order, or the first whose value is bad
abbrev pub settings_of : Verb → Kind → List Item → Result (List Setting) ScFault
settings_of verb kind [] = Ok []
settings_of verb kind (i ∷ is) = put_given i.span (given_item verb kind i) (settings_of verb kind is)

-- ALL asks for nothing of its own
abbrev pub asked_key : Key → Asked
asked_key keys.All = asked.Nothing
asked_key key = asked.Keyword (keyword_of key)

-- a keyword that is asked stands alone
abbrev pub asked_by : Option Key → Value → Asked
asked_by None v = asked.Bad
asked_by (Some key) values.Absent = asked_key key
asked_by (Some key) (values.Text text) = asked.Bad
asked_by (Some key) values.Malformed = asked.Bad

abbrev pub asked_item : Verb → Kind → Item → Asked
asked_item verb kind i = asked_by (key_of verb kind i.word) i.value

abbrev pub onto_keywords : Keyword → Result (List Keyword) ScFault → Result (List Keyword) ScFault
onto_keywords k (Ok ks) = Ok (k ∷ ks)
onto_keywords k (Err fault) = Err fault

abbrev pub put_asked : Span → Asked → Result (List Keyword) ScFault → Result (List Keyword) ScFault
put_asked span asked.Bad rest = Err (faults.BadValue span)
put_asked span asked.Nothing rest = rest
put_asked span (asked.Keyword k) rest = onto_keywords k rest

-- the keywords that are asked in order, or the first that has a value
abbrev pub asked_of : Verb → Kind → List Item → Result (List Keyword) ScFault
asked_of verb kind [] = Ok []
asked_of verb kind (i ∷ is) = put_asked i.span (asked_item verb kind i) (asked_of verb kind is)

-- what a reader answers is what reading gives, unless memory ran out
abbrev pub Fails : {X : Type 0} → ScFault → Result X ScFault → Type 0
Fails faults.NoMemory read = Unit {0}
Fails fault read = read ≡ Err fault

abbrev pub Gives : {X : Type 0} → Result X ScFault → Result X ScFault → Type 0
Gives (Ok x) read = read ≡ Ok x
Gives (Err fault) read = Fails fault read
