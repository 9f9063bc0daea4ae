-- The checks of a reader on keywords, and what they are on clauses.
use Rattle.std.proofs.Common.{◌≡◌, ◌⊎◌, ℕ, Bool, true, false, cond, List, [], ◌∷◌, ◌++◌, refl, sym, ap, subst, ◌∙◌, inl, inr}
use Rattle.std.specs.Prelude.{Option, Some, None, map, find, is_none, not, ◌||◌, codes}
use Rattle.std.specs.Bool.{Decides}
use Rattle.std.specs.Option.{option_map}
use Rattle.std.specs.Str.{bytes_eq}
use Rattle.std.proofs.lemmas.Bool.{cond-true, cond-false}
use Rattle.std.proofs.lemmas.Bool.Decides.{Decides-or}
use Rattle.mq_objects.specs.declared.setting.ChannelType.{ChannelType}
use Rattle.mq_sc_lex.specs.declared.token.Span.{Span}
use Rattle.mq_sc_keys.specs.declared.keys.Key.{Key}
use Rattle.mq_sc_keys.specs.declared.keys.Key.TheVariants as keys
use Rattle.mq_sc_keys.specs.declared.verbs.Verb.{Verb}
use Rattle.mq_sc_keys.specs.declared.verbs.Noun.{Noun}
use Rattle.mq_sc_keys.specs.declared.verbs.Noun.TheVariants as nouns
use Rattle.mq_sc_keys.specs.declared.attributes.Kind.{Kind}
use Rattle.mq_sc_keys.specs.declared.attributes.Kind.TheVariants as kinds
use Rattle.mq_sc_keys.specs.declared.value.Value.{Value}
use Rattle.mq_sc_keys.specs.Keys.{key_text, group_of}
use Rattle.mq_sc_keys.specs.Attributes.{key_of}
use Rattle.mq_sc_keys.specs.Values.{choice_value, type_of}
use Rattle.mq_sc_parse.specs.declared.splitting.Item.{Item}
use Rattle.mq_sc_parse.specs.Checks.{is_unknown, span_of_item, first_unknown, group_text, item_group, is_among, repeated_from, first_repeated, has_word, item_of, kind_of_type, type_of_item, channel_kind, kind_of, lacks}
use Rattle.mq_sc_grammar.specs.Spelling.{Clause}
use Rattle.mq_sc_grammar.specs.Commands.{Mem, Tells, keys_of, Says, Has, IsChannelKind, IsKind, AreKnown, AreSingle, value_of, HasNeeded}
use Rattle.mq_sc_grammar.proofs.Words.{bytes_same, same_bytes, one_key, key_read}
use Rattle.mq_sc_grammar.proofs.Splits.{Spell}

-- ---- keywords that are known

pub known_at : (verb : Verb) (kind : Kind) (c : Clause) (cs : List Clause) (i : Item) → AreKnown verb kind (c ∷ cs) → i.word ≡ key_text c.key → key_of verb kind i.word ≡ Some c.key
known_at verb kind c cs i known e = ap (key_of verb kind) e ∙ key_read verb kind c.key known.0

abbrev no_item : Option Item
no_item = None

find_known : (verb : Verb) (kind : Kind) (cs : List Clause) (items : List Item) → Spell cs items → AreKnown verb kind cs → find (is_unknown verb kind) items ≡ no_item
find_known verb kind [] [] s known = refl
find_known verb kind [] (i ∷ is) s known = absurd s
find_known verb kind (c ∷ cs) [] s known = absurd s
find_known verb kind (c ∷ cs) (i ∷ is) s known =
    cond-false (is_unknown verb kind i) (Some i) (find (is_unknown verb kind) is) (ap is_none (known_at verb kind c cs i known s.0)) ∙ find_known verb kind cs is s.2 known.1

pub known_read : (verb : Verb) (kind : Kind) (cs : List Clause) (items : List Item) → Spell cs items → AreKnown verb kind cs → first_unknown verb kind items ≡ None
unfolding first_unknown
known_read verb kind cs items s known = ap span_of_item (find_known verb kind cs items s known)

-- each keyword is one that the command has
abbrev pub AllKnown : Verb → Kind → List Item → Type 0
AllKnown verb kind [] = Unit {0}
AllKnown verb kind (i ∷ is) = ((key : Key) × (key_of verb kind i.word ≡ Some key)) × AllKnown verb kind is

known_step : (verb : Verb) (kind : Kind) (i : Item) (is : List Item) → (find (is_unknown verb kind) is ≡ no_item → AllKnown verb kind is) → (r : Option Key) → key_of verb kind i.word ≡ r → cond (is_none r) (Some i) (find (is_unknown verb kind) is) ≡ no_item → AllKnown verb kind (i ∷ is)
known_step verb kind i is more None e h = absurd cc
known_step verb kind i is more (Some key) e h = ((key, e), more h)

find_all : (verb : Verb) (kind : Kind) (items : List Item) → find (is_unknown verb kind) items ≡ no_item → AllKnown verb kind items
find_all verb kind [] h = tt
find_all verb kind (i ∷ is) h = known_step verb kind i is (λ m. find_all verb kind is m) (key_of verb kind i.word) refl h

no_span : (o : Option Item) → span_of_item o ≡ None → o ≡ no_item
no_span None e = refl
no_span (Some i) e = absurd cc

pub known_found : (verb : Verb) (kind : Kind) (items : List Item) → first_unknown verb kind items ≡ None → AllKnown verb kind items
unfolding first_unknown
known_found verb kind items h = find_all verb kind items (no_span (find (is_unknown verb kind) items) h)

-- ---- keywords that come once

abbrev pub groups_of : List Clause → List Key
groups_of cs = map group_of (keys_of cs)

Decides-among : (test : Bool) (x y : Key) (ys : List Key) (more : Bool) → Decides test (x ≡ y) → Decides more (Mem x ys) → Decides (test || more) (Mem x (y ∷ ys))
Decides-among test x y ys more d e = Decides-or test more d e

group_at : (verb : Verb) (kind : Kind) (c : Clause) (cs : List Clause) (i : Item) → AreKnown verb kind (c ∷ cs) → i.word ≡ key_text c.key → item_group verb kind i ≡ key_text (group_of c.key)
group_at verb kind c cs i known e = ap group_text (known_at verb kind c cs i known e)

same_group : (x y : List ℕ) (a b : Key) → x ≡ key_text a → y ≡ key_text b → Decides (bytes_eq y x) (a ≡ b)
same_group x y a b p q = (λ e. one_key a b (sym p ∙ sym (bytes_same y x e) ∙ q), λ e. same_bytes y x (q ∙ ap key_text (sym e) ∙ sym p))

among_decides : (verb : Verb) (kind : Kind) (i : Item) (key : Key) (es : List Clause) (earlier : List Item) → item_group verb kind i ≡ key_text key → Spell es earlier → AreKnown verb kind es → Decides (is_among verb kind i earlier) (Mem key (groups_of es))
among_decides verb kind i key [] [] g s known = (λ e. absurd cc, λ h. absurd h)
among_decides verb kind i key [] (e ∷ es) g s known = absurd s
among_decides verb kind i key (c ∷ cs) [] g s known = absurd s
among_decides verb kind i key (c ∷ cs) (e ∷ es) g s known =
    Decides-among (bytes_eq (item_group verb kind e) (item_group verb kind i)) key (group_of c.key) (groups_of cs) (is_among verb kind i es)
    (same_group (item_group verb kind i) (item_group verb kind e) key (group_of c.key) g (group_at verb kind c cs e known s.0))
    (among_decides verb kind i key cs es g s.2 known.1)

spell_more : (es : List Clause) (earlier : List Item) (c : Clause) (i : Item) → Spell es earlier → i.word ≡ key_text c.key → i.value ≡ value_of c.value → Spell (es ++ c ∷ []) (earlier ++ i ∷ [])
spell_more [] [] c i s w v = (w, v, tt)
spell_more [] (e ∷ es) c i s w v = absurd s
spell_more (d ∷ ds) [] c i s w v = absurd s
spell_more (d ∷ ds) (e ∷ es) c i s w v = (s.0, s.1, spell_more ds es c i s.2 w v)

known_more : (verb : Verb) (kind : Kind) (es : List Clause) (c : Clause) (cs : List Clause) → AreKnown verb kind es → AreKnown verb kind (c ∷ cs) → AreKnown verb kind (es ++ c ∷ [])
known_more verb kind [] c cs known h = (h.0, tt)
known_more verb kind (e ∷ es) c cs known h = (known.0, known_more verb kind es c cs known.1 h)

-- no group is among those before it, of which some were seen
abbrev pub NoneSeen : (seen : List Clause) (cs : List Clause) → Type 0
NoneSeen seen [] = Unit {0}
NoneSeen seen (c ∷ cs) = (Mem (group_of c.key) (groups_of seen) → ⊥) × NoneSeen (seen ++ c ∷ []) cs

abbrev no_place : Option Span
no_place = None

pub decided_false : (b : Bool) (P : Type 0) → Decides b P → (P → ⊥) → b ≡ false
decided_false true P d never = absurd (never (d.0 refl))
decided_false false P d never = refl

pub decided_no : (b : Bool) (P : Type 0) → Decides b P → b ≡ false → P → ⊥
decided_no b P d e p = absurd (let f : true ≡ false = sym (d.1 p) ∙ e in cc)

seen_read : (verb : Verb) (kind : Kind) (es cs : List Clause) (earlier items : List Item) → Spell es earlier → Spell cs items → AreKnown verb kind es → AreKnown verb kind cs → NoneSeen es cs → repeated_from verb kind earlier items ≡ no_place
seen_read verb kind es [] earlier [] se s ke k h = refl
seen_read verb kind es [] earlier (i ∷ is) se s ke k h = absurd s
seen_read verb kind es (c ∷ cs) earlier [] se s ke k h = absurd s
seen_read verb kind es (c ∷ cs) earlier (i ∷ is) se s ke k h =
    let d = among_decides verb kind i (group_of c.key) es earlier (group_at verb kind c cs i k s.0) se ke in
    let isnt = decided_false (is_among verb kind i earlier) (Mem (group_of c.key) (groups_of es)) d h.0 in
    cond-false (is_among verb kind i earlier) (Some i.span) (repeated_from verb kind (earlier ++ i ∷ []) is) isnt
    ∙ seen_read verb kind (es ++ c ∷ []) cs (earlier ++ i ∷ []) is (spell_more es earlier c i se s.0 s.1) s.2 (known_more verb kind es c cs ke k) k.1 h.1

not_here : (b : Bool) (x : Span) (rest : Option Span) → cond b (Some x) rest ≡ no_place → (b ≡ false) × (rest ≡ no_place)
not_here true x rest e = absurd cc
not_here false x rest e = (refl, e)

seen_found : (verb : Verb) (kind : Kind) (es cs : List Clause) (earlier items : List Item) → Spell es earlier → Spell cs items → AreKnown verb kind es → AreKnown verb kind cs → repeated_from verb kind earlier items ≡ no_place → NoneSeen es cs
seen_found verb kind es [] earlier [] se s ke k h = tt
seen_found verb kind es [] earlier (i ∷ is) se s ke k h = absurd s
seen_found verb kind es (c ∷ cs) earlier [] se s ke k h = absurd s
seen_found verb kind es (c ∷ cs) earlier (i ∷ is) se s ke k h =
    let d = among_decides verb kind i (group_of c.key) es earlier (group_at verb kind c cs i k s.0) se ke in
    let n = not_here (is_among verb kind i earlier) i.span (repeated_from verb kind (earlier ++ i ∷ []) is) h in
    (decided_no (is_among verb kind i earlier) (Mem (group_of c.key) (groups_of es)) d n.0, seen_found verb kind (es ++ c ∷ []) cs (earlier ++ i ∷ []) is (spell_more es earlier c i se s.0 s.1) s.2 (known_more verb kind es c cs ke k) k.1 n.1)

-- ---- none seen before, and distinct

groups_more : (es : List Clause) (c : Clause) (g : Key) → Mem g (groups_of (es ++ c ∷ [])) → Mem g (groups_of es) ⊎ (g ≡ group_of c.key)
groups_more [] c g (inl e) = inr e
groups_more [] c g (inr h) = absurd h
groups_more (d ∷ ds) c g (inl e) = inl (inl e)
groups_more (d ∷ ds) c g (inr h) = elim (groups_more ds c g h) [
  | inl m ↦ inl (inr m)
  | inr e ↦ inr e
]

groups_last : (es : List Clause) (c : Clause) → Mem (group_of c.key) (groups_of (es ++ c ∷ []))
groups_last [] c = inl refl
groups_last (d ∷ ds) c = inr (groups_last ds c)

groups_kept : (es : List Clause) (c : Clause) (g : Key) → Mem g (groups_of es) → Mem g (groups_of (es ++ c ∷ []))
groups_kept [] c g h = absurd h
groups_kept (d ∷ ds) c g (inl e) = inl e
groups_kept (d ∷ ds) c g (inr h) = inr (groups_kept ds c g h)

distinct_seen : (es cs : List Clause) → AreSingle cs → ((g : Key) → Mem g (groups_of cs) → Mem g (groups_of es) → ⊥) → NoneSeen es cs
distinct_seen es [] h apart = tt
distinct_seen es (c ∷ cs) h apart = (apart (group_of c.key) (inl refl), distinct_seen (es ++ c ∷ []) cs h.1 (λ g m n. later g m (groups_more es c g n)))
  where
    later : (g : Key) → Mem g (groups_of cs) → Mem g (groups_of es) ⊎ (g ≡ group_of c.key) → ⊥
    later g m (inl n) = apart g (inr m) n
    later g m (inr e) = h.0 (subst (λ (x : Key). Mem x (groups_of cs)) e m)

seen_apart : (es cs : List Clause) → NoneSeen es cs → (g : Key) → Mem g (groups_of cs) → Mem g (groups_of es) → ⊥
seen_apart es [] h g m n = m
seen_apart es (c ∷ cs) h g (inl e) n = h.0 (subst (λ (x : Key). Mem x (groups_of es)) e n)
seen_apart es (c ∷ cs) h g (inr m) n = seen_apart (es ++ c ∷ []) cs h.1 g m (groups_kept es c g n)

seen_distinct : (es cs : List Clause) → NoneSeen es cs → AreSingle cs
seen_distinct es [] h = tt
seen_distinct es (c ∷ cs) h = (λ m. seen_apart (es ++ c ∷ []) cs h.1 (group_of c.key) m (groups_last es c), seen_distinct (es ++ c ∷ []) cs h.1)

none_before : (g : Key) (cs : List Clause) → Mem g (groups_of cs) → Mem g (groups_of []) → ⊥
none_before g cs m n = n

pub single_read : (verb : Verb) (kind : Kind) (cs : List Clause) (items : List Item) → Spell cs items → AreKnown verb kind cs → AreSingle cs → first_repeated verb kind items ≡ None
unfolding first_repeated
single_read verb kind cs items s known h = seen_read verb kind [] cs [] items tt s tt known (distinct_seen [] cs h (λ g m n. none_before g cs m n))

pub single_found : (verb : Verb) (kind : Kind) (cs : List Clause) (items : List Item) → Spell cs items → AreKnown verb kind cs → first_repeated verb kind items ≡ None → AreSingle cs
unfolding first_repeated
single_found verb kind cs items s known h = seen_distinct [] cs (seen_found verb kind [] cs [] items tt s tt known h)

-- ---- a keyword that is there

pub says_decides : (key : Key) (cs : List Clause) (items : List Item) → Spell cs items → Decides (has_word (key_text key) items) (Says key cs)
says_decides key [] [] s = (λ e. absurd cc, λ h. absurd h)
says_decides key [] (i ∷ is) s = absurd s
says_decides key (c ∷ cs) [] s = absurd s
says_decides key (c ∷ cs) (i ∷ is) s =
    Decides-among (bytes_eq i.word (key_text key)) key c.key (keys_of cs) (has_word (key_text key) is) (same_group (key_text key) i.word key c.key refl s.0) (says_decides key cs is s.2)

pub tells : (b : Bool) (P : Type 0) → Decides b P → Tells b P
tells true P d = d.0 refl
tells false P d = λ p. decided_no false P d refl p

pub told : (b t : Bool) (P : Type 0) → Decides b P → Tells t P → b ≡ t
told b true P d p = d.1 p
told b false P d never = decided_false b P d never

-- ---- the value of a keyword

-- that of the first clause with the keyword
abbrev pub first_value : List ℕ → List Clause → Option (Option (List ℕ))
first_value word [] = None
first_value word (c ∷ cs) = cond (bytes_eq (key_text c.key) word) (Some c.value) (first_value word cs)

abbrev item_value : Item → Value
item_value i = i.value

value_step : (word : List ℕ) (c : Clause) (cs : List Clause) (i : Item) (is : List Item) (t : Bool) → bytes_eq (key_text c.key) word ≡ t → i.word ≡ key_text c.key → i.value ≡ value_of c.value
    → option_map item_value (item_of word is) ≡ option_map value_of (first_value word cs) → option_map item_value (item_of word (i ∷ is)) ≡ option_map value_of (first_value word (c ∷ cs))
value_step word c cs i is true e w v more =
    let there : bytes_eq i.word word ≡ true = ap (λ (x : List ℕ). bytes_eq x word) w ∙ e in
    ap (option_map item_value) (cond-true (bytes_eq i.word word) (Some i) (item_of word is) there) ∙ ap (λ (x : Value). Some x) v ∙ ap (option_map value_of) (sym (cond-true (bytes_eq (key_text c.key) word) (Some c.value) (first_value word cs) e))
value_step word c cs i is false e w v more =
    let there : bytes_eq i.word word ≡ false = ap (λ (x : List ℕ). bytes_eq x word) w ∙ e in
    ap (option_map item_value) (cond-false (bytes_eq i.word word) (Some i) (item_of word is) there) ∙ more ∙ ap (option_map value_of) (sym (cond-false (bytes_eq (key_text c.key) word) (Some c.value) (first_value word cs) e))

value_spelled : (word : List ℕ) (cs : List Clause) (items : List Item) → Spell cs items → option_map item_value (item_of word items) ≡ option_map value_of (first_value word cs)
value_spelled word [] [] s = refl
value_spelled word [] (i ∷ is) s = absurd s
value_spelled word (c ∷ cs) [] s = absurd s
value_spelled word (c ∷ cs) (i ∷ is) s = value_step word c cs i is (bytes_eq (key_text c.key) word) refl s.0 s.1 (value_spelled word cs is s.2)

key_among : (key : Key) (text : List ℕ) (cs : List Clause) → Has key text cs → Mem (group_of key) (groups_of cs)
key_among key text [] h = absurd h
key_among key text (c ∷ cs) (inl e) = inl (ap (λ (x : Clause). group_of x.key) e)
key_among key text (c ∷ cs) (inr h) = inr (key_among key text cs h)

abbrev some_text : List ℕ → Option (Option (List ℕ))
some_text text = Some (Some text)

-- a value that is given once is the first
value_once : (key : Key) (text : List ℕ) (c : Clause) (cs : List Clause) → AreSingle (c ∷ cs) → (Has key text cs → first_value (key_text key) cs ≡ some_text text) → Has key text (c ∷ cs) → (t : Bool) → bytes_eq (key_text c.key) (key_text key) ≡ t
    → cond t (Some c.value) (first_value (key_text key) cs) ≡ some_text text
value_once key text c cs single more (inl e) true b = ap (λ (x : Clause). Some x.value) (sym e)
value_once key text c cs single more (inr h) true b =
    let same : key ≡ c.key = sym (one_key c.key key (bytes_same (key_text c.key) (key_text key) b)) in
    absurd (single.0 (subst (λ (x : Key). Mem (group_of x) (groups_of cs)) same (key_among key text cs h)))
value_once key text c cs single more (inl e) false b = absurd (let f : false ≡ true = sym b ∙ same_bytes (key_text c.key) (key_text key) (ap (λ (x : Clause). key_text x.key) (sym e)) in cc)
value_once key text c cs single more (inr h) false b = more h

pub once : (key : Key) (text : List ℕ) (cs : List Clause) → AreSingle cs → Has key text cs → first_value (key_text key) cs ≡ some_text text
once key text [] single h = absurd h
once key text (c ∷ cs) single h = value_once key text c cs single (λ m. once key text cs single.1 m) h (bytes_eq (key_text c.key) (key_text key)) refl

value_has : (key : Key) (text : List ℕ) (c : Clause) (cs : List Clause) → (first_value (key_text key) cs ≡ some_text text → Has key text cs) → (t : Bool) → bytes_eq (key_text c.key) (key_text key) ≡ t → cond t (Some c.value) (first_value (key_text key) cs) ≡ some_text text → Has key text (c ∷ cs)
value_has key text c cs more true b e =
    let same : key ≡ c.key = sym (one_key c.key key (bytes_same (key_text c.key) (key_text key) b)) in
    let value : Some text ≡ c.value = cc in
    inl (ap (λ (k : Key). record { key = k; value = Some text }) same ∙ ap (λ (v : Option (List ℕ)). record { key = c.key; value = v }) value)
value_has key text c cs more false b e = inr (more e)

pub has_first : (key : Key) (text : List ℕ) (cs : List Clause) → first_value (key_text key) cs ≡ some_text text → Has key text cs
has_first key text [] e = absurd cc
has_first key text (c ∷ cs) e = value_has key text c cs (λ m. has_first key text cs m) (bytes_eq (key_text c.key) (key_text key)) refl e

-- ---- the kind of a channel

abbrev type_by : Option Value → Option ChannelType
type_by None = None
type_by (Some v) = type_of (choice_value (codes "SDR") (codes "RCVR") v)

type_item : (o : Option Item) → type_of_item o ≡ type_by (option_map item_value o)
type_item None = refl
type_item (Some i) = refl

abbrev kind_by : Option (Option (List ℕ)) → Kind
kind_by v = kind_of_type (type_by (option_map value_of v))

channel_spelled : (cs : List Clause) (items : List Item) → Spell cs items → channel_kind items ≡ kind_by (first_value (codes "CHLTYPE") cs)
unfolding channel_kind
channel_spelled cs items s = ap kind_of_type (type_item (item_of (codes "CHLTYPE") items) ∙ ap type_by (value_spelled (codes "CHLTYPE") cs items s))

abbrev Other : List Clause → Type 0
Other cs = (Has keys.ChlType (codes "SDR") cs → ⊥) × (Has keys.ChlType (codes "RCVR") cs → ⊥)

one_type : (cs : List Clause) (text : List ℕ) (v : Option (Option (List ℕ))) → AreSingle cs → first_value (codes "CHLTYPE") cs ≡ v → (v ≡ some_text text → ⊥) → Has keys.ChlType text cs → ⊥
one_type cs text v single e never h = never (sym e ∙ once keys.ChlType text cs single h)

not_bytes : (xs ys : List ℕ) → bytes_eq xs ys ≡ false → some_text xs ≡ some_text ys → ⊥
not_bytes xs ys e h = absurd (let same : xs ≡ ys = cc in let f : true ≡ false = sym (same_bytes xs ys same) ∙ e in cc)

text_kind : (cs : List Clause) (text : List ℕ) → AreSingle cs → first_value (codes "CHLTYPE") cs ≡ some_text text → (s r : Bool) → bytes_eq text (codes "SDR") ≡ s → bytes_eq text (codes "RCVR") ≡ r
    → IsChannelKind cs (kind_of_type (type_of (cond s (Some true) (cond r (Some false) None))))
text_kind cs text single e true r p q = has_first keys.ChlType (codes "SDR") cs (e ∙ ap some_text (bytes_same text (codes "SDR") p))
text_kind cs text single e false true p q = has_first keys.ChlType (codes "RCVR") cs (e ∙ ap some_text (bytes_same text (codes "RCVR") q))
text_kind cs text single e false false p q = (one_type cs (codes "SDR") (some_text text) single e (not_bytes text (codes "SDR") p), one_type cs (codes "RCVR") (some_text text) single e (not_bytes text (codes "RCVR") q))

kind_found_by : (cs : List Clause) → AreSingle cs → (v : Option (Option (List ℕ))) → first_value (codes "CHLTYPE") cs ≡ v → IsChannelKind cs (kind_by v)
kind_found_by cs single None e = (one_type cs (codes "SDR") None single e (λ h. absurd cc), one_type cs (codes "RCVR") None single e (λ h. absurd cc))
kind_found_by cs single (Some None) e = (one_type cs (codes "SDR") (Some None) single e (λ h. absurd cc), one_type cs (codes "RCVR") (Some None) single e (λ h. absurd cc))
kind_found_by cs single (Some (Some text)) e = text_kind cs text single e (bytes_eq text (codes "SDR")) (bytes_eq text (codes "RCVR")) refl refl

pub kind_found : (noun : Noun) (cs : List Clause) (items : List Item) → Spell cs items → AreSingle cs → IsKind noun cs (kind_of noun items)
kind_found nouns.Local cs items s single = refl
kind_found nouns.Channel cs items s single = subst (IsChannelKind cs) (sym (channel_spelled cs items s)) (kind_found_by cs single (first_value (codes "CHLTYPE") cs) refl)
kind_found _ cs items s single = refl

-- two kinds of one channel are one
sdr_rcvr : (cs : List Clause) → AreSingle cs → Has keys.ChlType (codes "SDR") cs → Has keys.ChlType (codes "RCVR") cs → ⊥
sdr_rcvr cs single p q =
    let e : some_text (codes "SDR") ≡ some_text (codes "RCVR") = sym (once keys.ChlType (codes "SDR") cs single p) ∙ once keys.ChlType (codes "RCVR") cs single q in
    not_bytes (codes "SDR") (codes "RCVR") refl e

one_kind : (cs : List Clause) (a b : Kind) → AreSingle cs → IsChannelKind cs a → IsChannelKind cs b → a ≡ b
one_kind cs kinds.Sender kinds.Sender single p q = refl
one_kind cs kinds.Sender kinds.Receiver single p q = absurd (sdr_rcvr cs single p q)
one_kind cs kinds.Sender kinds.Channel single p q = absurd (q.0 p)
one_kind cs kinds.Receiver kinds.Sender single p q = absurd (sdr_rcvr cs single q p)
one_kind cs kinds.Receiver kinds.Receiver single p q = refl
one_kind cs kinds.Receiver kinds.Channel single p q = absurd (q.1 p)
one_kind cs kinds.Channel kinds.Sender single p q = absurd (p.0 q)
one_kind cs kinds.Channel kinds.Receiver single p q = absurd (p.1 q)
one_kind cs kinds.Channel kinds.Channel single p q = refl
one_kind cs kinds.Sender _ single p q = absurd q
one_kind cs kinds.Receiver _ single p q = absurd q
one_kind cs kinds.Channel _ single p q = absurd q
one_kind cs _ b single p q = absurd p

pub kind_read : (noun : Noun) (cs : List Clause) (items : List Item) (kind : Kind) → Spell cs items → AreSingle cs → IsKind noun cs kind → kind_of noun items ≡ kind
kind_read nouns.Local cs items kind s single h = sym h
kind_read nouns.Channel cs items kind s single h = one_kind cs (channel_kind items) kind single (kind_found nouns.Channel cs items s single) h
kind_read _ cs items kind s single h = sym h

-- ---- what a definition needs

pub needed_read : (kind : Kind) (cs : List Clause) (items : List Item) → Spell cs items → HasNeeded kind cs → lacks kind items ≡ false
needed_read kinds.Channel cs items s h = absurd h
needed_read kinds.Sender cs items s h = ap not ((says_decides keys.XmitQ cs items s).1 h)
needed_read _ cs items s h = refl

not_not : (b : Bool) → not b ≡ false → b ≡ true
not_not true e = refl
not_not false e = absurd cc

pub needed_found : (kind : Kind) (cs : List Clause) (items : List Item) → Spell cs items → lacks kind items ≡ false → HasNeeded kind cs
needed_found kinds.Channel cs items s e = absurd cc
needed_found kinds.Sender cs items s e = (says_decides keys.XmitQ cs items s).0 (not_not (has_word (codes "XMITQ") items) e)
needed_found _ cs items s e = tt
