-- Attributes kept without effect: each is laid out as a clause that gives it, behind the clauses of its object.
use Rattle.std.proofs.Common.{ℕ, ◌≡◌, ◌⊎◌, ◌+◌, Bool, true, false, List, [], ◌∷◌, ◌++◌, append_assoc, append-nil, length, refl, ap, sym, subst, ◌∙◌, map, inl, inr}
use Rattle.std.specs.Prelude.{Option, Some, None, not, ◌&&◌, ◌==◌, if◌then◌else◌, cond, filter, count_by, flat_map, codes}
use Rattle.std.specs.List.{list_any, AllByRecursion}
use Rattle.std.specs.Str.{bytes_eq}
use Rattle.std.proofs.lemmas.List.Elements.{filter-append}
use Rattle.std.proofs.lemmas.List.Recursion.{is_count_by}
use Rattle.mq_base.specs.Name.{IsName}
use Rattle.mq_text.specs.Quoting as quoting
use Rattle.mq_objects.specs.Attributes as texts
use Rattle.mq_objects.specs.declared.object.KeptAttribute.{KeptAttribute}
use Rattle.mq_objects.specs.declared.object.LocalQueue.{LocalQueue}
use Rattle.mq_objects.specs.declared.object.AliasQueue.{AliasQueue}
use Rattle.mq_objects.specs.declared.object.RemoteQueue.{RemoteQueue}
use Rattle.mq_objects.specs.declared.object.ManagerAttributes.{ManagerAttributes}
use Rattle.mq_objects.specs.declared.object.Process.{Process}
use Rattle.mq_objects.specs.declared.object.Channel.{Channel}
use Rattle.mq_objects.specs.declared.object.Object.{Object}
use Rattle.mq_objects.specs.declared.object.Object.TheVariants as objects
use Rattle.mq_objects.specs.declared.setting.Setting.{Setting}
use Rattle.mq_objects.specs.declared.setting.Setting.TheVariants as settings
use Rattle.mq_objects.specs.declared.command.Subject.{Subject}
use Rattle.mq_objects.specs.declared.change.ObjectChange.TheVariants as changes
use Rattle.mq_objects.specs.Defaults.{new_object}
use Rattle.mq_objects.specs.Settings.{keep_attribute, set_object, set_all, set_manager, set_all_manager}
use Rattle.mq_law_log.specs.from_sc_apply.Planned.{is_type_setting, defined_object}
use Rattle.mq_sc_keys.specs.declared.keys.Key.{Key}
use Rattle.mq_sc_keys.specs.declared.keys.Key.TheVariants as keys
use Rattle.mq_sc_keys.specs.declared.verbs.Verb.{Verb}
use Rattle.mq_sc_keys.specs.declared.verbs.Verb.TheVariants as verbs
use Rattle.mq_sc_keys.specs.declared.verbs.Noun.{Noun}
use Rattle.mq_sc_keys.specs.declared.attributes.Kind.{Kind}
use Rattle.mq_sc_keys.specs.declared.attributes.Kind.TheVariants as kinds
use Rattle.mq_sc_keys.specs.declared.value.Value.{Value}
use Rattle.mq_sc_keys.specs.declared.value.Value.TheVariants as values
use Rattle.mq_sc_keys.specs.declared.giving.Given.{Given}
use Rattle.mq_sc_keys.specs.declared.giving.Given.TheVariants as given
use Rattle.mq_sc_keys.specs.Keys.{key_text, group_of}
use Rattle.mq_sc_keys.specs.Values.{given_of, set_to, kept_value, kept_flag}
use Rattle.mq_sc_keys.specs.Verbs.{object_text}
use Rattle.mq_sc_lex.specs.declared.token.TokenKind.TheVariants as tokens
use Rattle.mq_sc_grammar.specs.Spelling.{Clause, IsNamed}
use Rattle.mq_sc_grammar.specs.Commands.{keys_of, IsKind, AreSingle, HasNeeded}
use Rattle.mq_sc_grammar.proofs.Words.{bytes_same}
use Rattle.mq_sc_parse.specs.Parsing.{subject_of}
use Rattle.mq_base.specs.Members.{AreDistinct}
use Rattle.mq_law_log.specs.from_record.OperationVariants.{Set as Sets}
use Rattle.mq_law_log.specs.from_spec_log.Texts.{has_effect, gives_all, change_in}
use Rattle.mq_law_log.specs.from_law_manager.Facts.{Mem}
use Rattle.mq_law_log.proofs.from_law_manager.Lists.{is_false, mem_append}
use Rattle.mq_law_image.specs.Laid.{text_of, Ends, Written, clause_bits, all_bits, clauses_of, settings_of, IsWritten, AreWritten, CanDefine, define_bits}
use Rattle.mq_law_image.specs.Values.{kept_keys, IsKeptValue, AreKeptTexts}
use Rattle.mq_law_image.proofs.Members.{both, none_any}
use Rattle.mq_law_image.proofs.Deleting.{doubled_same}
use Rattle.mq_law_image.proofs.Giving.{text_append, define_read}
use Rattle.mq_law_image.proofs.Writing.{IsKey, there, quote_written, flag_written, short_text}

-- ---- keywords that are kept

-- what such a keyword gives, by whether it stands alone
abbrev kept_by : Bool → Key → Value → Given
kept_by true key v = kept_flag key v
kept_by false key v = kept_value key v

abbrev stands_alone : Key → Bool
stands_alone key = texts.is_flag (key_text (group_of key))

pub record IsKeptKey (verb : Verb) (kind : Kind) (key : Key) : Type 0 where
  pub is : IsKey verb kind key
  pub gives : (v : Value) → given_of kind key v ≡ kept_by (stands_alone key) key v
  pub own : stands_alone key ≡ false → group_of key ≡ key
  pub ends : stands_alone key ≡ true → Ends (32 ∷ (key_text key ++ []))

text_key : (verb : Verb) (kind : Kind) (key : Key) → IsKey verb kind key → ((v : Value) → given_of kind key v ≡ kept_value key v) → stands_alone key ≡ false → group_of key ≡ key → IsKeptKey verb kind key
text_key verb kind key is gives alone own = record { is = is; gives = λ v. gives v ∙ ap (λ (b : Bool). kept_by b key v) (sym alone); own = λ e. own; ends = λ e. absurd (cc (e, alone)) }

flag_key : (verb : Verb) (kind : Kind) (key : Key) → IsKey verb kind key → ((v : Value) → given_of kind key v ≡ kept_flag key v) → stands_alone key ≡ true → Ends (32 ∷ (key_text key ++ [])) → IsKeptKey verb kind key
flag_key verb kind key is gives alone ends = record { is = is; gives = λ v. gives v ∙ ap (λ (b : Bool). kept_by b key v) (sym alone); own = λ e. absurd (cc (e, alone)); ends = λ e. ends }

pub local_kept : AllByRecursion (IsKeptKey verbs.Define kinds.Local) (kept_keys kinds.Local)
local_kept = (
  text_key verbs.Define kinds.Local keys.Descr (record { known = refl; word = (refl, refl); whole = refl }) (λ v. refl) refl refl,
  (
    flag_key verbs.Define kinds.Local keys.Share (record { known = refl; word = (refl, refl); whole = refl }) (λ v. refl) refl (record { front = codes " SHAR"; last = 69; is = refl; unblank = refl; unsigned = refl }),
    (
      flag_key verbs.Define kinds.Local keys.NoShare (record { known = refl; word = (refl, refl); whole = refl }) (λ v. refl) refl (record { front = codes " NOSHAR"; last = 69; is = refl; unblank = refl; unsigned = refl }),
      (
        text_key verbs.Define kinds.Local keys.DefSOpt (record { known = refl; word = (refl, refl); whole = refl }) (λ v. refl) refl refl,
        (
          text_key verbs.Define kinds.Local keys.BoThresh (record { known = refl; word = (refl, refl); whole = refl }) (λ v. refl) refl refl,
          (
            text_key verbs.Define kinds.Local keys.BoQName (record { known = refl; word = (refl, refl); whole = refl }) (λ v. refl) refl refl,
            (
              flag_key verbs.Define kinds.Local keys.HardenBo (record { known = refl; word = (refl, refl); whole = refl }) (λ v. refl) refl (record { front = codes " HARDENB"; last = 79; is = refl; unblank = refl; unsigned = refl }),
              (
                flag_key verbs.Define kinds.Local keys.NoHardenBo (record { known = refl; word = (refl, refl); whole = refl }) (λ v. refl) refl (record { front = codes " NOHARDENB"; last = 79; is = refl; unblank = refl; unsigned = refl }),
                (
                  text_key verbs.Define kinds.Local keys.QDepthHi (record { known = refl; word = (refl, refl); whole = refl }) (λ v. refl) refl refl,
                  (text_key verbs.Define kinds.Local keys.QDepthLo (record { known = refl; word = (refl, refl); whole = refl }) (λ v. refl) refl refl, tt),
                ),
              ),
            ),
          ),
        ),
      ),
    ),
  ),
)

pub alias_kept : AllByRecursion (IsKeptKey verbs.Define kinds.Alias) (kept_keys kinds.Alias)
alias_kept = (text_key verbs.Define kinds.Alias keys.Descr (record { known = refl; word = (refl, refl); whole = refl }) (λ v. refl) refl refl, tt)

pub remote_kept : AllByRecursion (IsKeptKey verbs.Define kinds.Remote) (kept_keys kinds.Remote)
remote_kept = (text_key verbs.Define kinds.Remote keys.Descr (record { known = refl; word = (refl, refl); whole = refl }) (λ v. refl) refl refl, tt)

pub process_kept : AllByRecursion (IsKeptKey verbs.Define kinds.Process) (kept_keys kinds.Process)
process_kept = (text_key verbs.Define kinds.Process keys.Descr (record { known = refl; word = (refl, refl); whole = refl }) (λ v. refl) refl refl, tt)

pub manager_kept : AllByRecursion (IsKeptKey verbs.Alter kinds.Manager) (kept_keys kinds.Manager)
manager_kept = (text_key verbs.Alter kinds.Manager keys.Descr (record { known = refl; word = (refl, refl); whole = refl }) (λ v. refl) refl refl, tt)

pub sender_kept : AllByRecursion (IsKeptKey verbs.Define kinds.Sender) (kept_keys kinds.Sender)
sender_kept = (
  text_key verbs.Define kinds.Sender keys.Descr (record { known = refl; word = (refl, refl); whole = refl }) (λ v. refl) refl refl,
  (
    text_key verbs.Define kinds.Sender keys.ConName (record { known = refl; word = (refl, refl); whole = refl }) (λ v. refl) refl refl,
    (
      text_key verbs.Define kinds.Sender keys.TrpType (record { known = refl; word = (refl, refl); whole = refl }) (λ v. refl) refl refl,
      (
        text_key verbs.Define kinds.Sender keys.DiscInt (record { known = refl; word = (refl, refl); whole = refl }) (λ v. refl) refl refl,
        (
          text_key verbs.Define kinds.Sender keys.HbInt (record { known = refl; word = (refl, refl); whole = refl }) (λ v. refl) refl refl,
          (
            text_key verbs.Define kinds.Sender keys.BatchInt (record { known = refl; word = (refl, refl); whole = refl }) (λ v. refl) refl refl,
            (
              text_key verbs.Define kinds.Sender keys.LongRty (record { known = refl; word = (refl, refl); whole = refl }) (λ v. refl) refl refl,
              (
                text_key verbs.Define kinds.Sender keys.LongTmr (record { known = refl; word = (refl, refl); whole = refl }) (λ v. refl) refl refl,
                (
                  text_key verbs.Define kinds.Sender keys.ShortTmr (record { known = refl; word = (refl, refl); whole = refl }) (λ v. refl) refl refl,
                  (text_key verbs.Define kinds.Sender keys.MaxMsgL (record { known = refl; word = (refl, refl); whole = refl }) (λ v. refl) refl refl, tt),
                ),
              ),
            ),
          ),
        ),
      ),
    ),
  ),
)

pub receiver_kept : AllByRecursion (IsKeptKey verbs.Define kinds.Receiver) (kept_keys kinds.Receiver)
receiver_kept = (
  text_key verbs.Define kinds.Receiver keys.Descr (record { known = refl; word = (refl, refl); whole = refl }) (λ v. refl) refl refl,
  (
    text_key verbs.Define kinds.Receiver keys.ConName (record { known = refl; word = (refl, refl); whole = refl }) (λ v. refl) refl refl,
    (
      text_key verbs.Define kinds.Receiver keys.TrpType (record { known = refl; word = (refl, refl); whole = refl }) (λ v. refl) refl refl,
      (
        text_key verbs.Define kinds.Receiver keys.DiscInt (record { known = refl; word = (refl, refl); whole = refl }) (λ v. refl) refl refl,
        (
          text_key verbs.Define kinds.Receiver keys.HbInt (record { known = refl; word = (refl, refl); whole = refl }) (λ v. refl) refl refl,
          (
            text_key verbs.Define kinds.Receiver keys.BatchInt (record { known = refl; word = (refl, refl); whole = refl }) (λ v. refl) refl refl,
            (
              text_key verbs.Define kinds.Receiver keys.LongRty (record { known = refl; word = (refl, refl); whole = refl }) (λ v. refl) refl refl,
              (
                text_key verbs.Define kinds.Receiver keys.LongTmr (record { known = refl; word = (refl, refl); whole = refl }) (λ v. refl) refl refl,
                (
                  text_key verbs.Define kinds.Receiver keys.ShortTmr (record { known = refl; word = (refl, refl); whole = refl }) (λ v. refl) refl refl,
                  (text_key verbs.Define kinds.Receiver keys.MaxMsgL (record { known = refl; word = (refl, refl); whole = refl }) (λ v. refl) refl refl, tt),
                ),
              ),
            ),
          ),
        ),
      ),
    ),
  ),
)

kept_key : (verb : Verb) (kind : Kind) (key : Key) (most : List Key) → AllByRecursion (IsKeptKey verb kind) most → Mem key most → IsKeptKey verb kind key
kept_key verb kind key [] h m = absurd m
kept_key verb kind key (x ∷ xs) h (inl e) = subst (IsKeptKey verb kind) (sym e) h.0
kept_key verb kind key (x ∷ xs) h (inr m) = kept_key verb kind key xs h.1 m

-- ---- clauses that give them

abbrev value_by : Bool → List ℕ → Option (List ℕ)
value_by true text = None
value_by false text = Some text

abbrev clause_by : Bool → Key → KeptAttribute → Written
clause_by alone key k = record { clause = record { key = key; value = value_by alone k.value }; in_quotes = not alone; setting = settings.Kept k.keyword k.value }

abbrev pub kept_clauses : (most : List Key) (ks : List KeptAttribute) → AreKeptTexts most ks → List Written
kept_clauses most [] h = []
kept_clauses most (k ∷ ks) h = clause_by (stands_alone h.0.key) h.0.key k ∷ kept_clauses most ks h.2

kept_gives : (verb : Verb) (kind : Kind) (key : Key) (k : KeptAttribute) (b : Bool) → stands_alone key ≡ b → IsKeptKey verb kind key → k.keyword ≡ key_text (group_of key) → IsKeptValue b key k.value → IsWritten verb kind (clause_by b key k)
kept_gives verb kind key k true alone is word value = flag_written verb kind key (settings.Kept k.keyword k.value) is.is
    (is.gives values.Absent ∙ ap (λ (b : Bool). kept_by b key values.Absent) alone ∙ ap (λ (w : List ℕ). given.Setting (settings.Kept w (key_text key))) (sym word) ∙ ap (λ (v : List ℕ). given.Setting (settings.Kept k.keyword v)) (sym value))
    (is.ends alone)
kept_gives verb kind key k false alone is word value = quote_written verb kind key k.value (settings.Kept k.keyword k.value) is.is value.1
    (is.gives (values.Text k.value) ∙ ap (λ (b : Bool). kept_by b key (values.Text k.value)) alone ∙ ap (set_to (settings.Kept (key_text key))) (short_text 264 k.value value.0)
    ∙ ap (λ (w : List ℕ). given.Setting (settings.Kept w k.value)) (sym (word ∙ ap key_text (is.own alone))))

pub kept_written : (verb : Verb) (kind : Kind) (most : List Key) (ks : List KeptAttribute) (h : AreKeptTexts most ks) → AllByRecursion (IsKeptKey verb kind) most → AreWritten verb kind (kept_clauses most ks h)
kept_written verb kind most [] h table = tt
kept_written verb kind most (k ∷ ks) h table = (kept_gives verb kind h.0.key k (stands_alone h.0.key) refl (kept_key verb kind h.0.key most table h.0.known) h.0.keyword_is h.0.value_is, kept_written verb kind most ks h.2 table)

-- as a text
one_text : (key : Key) (k : KeptAttribute) (b : Bool) → stands_alone key ≡ b → (stands_alone key ≡ false → group_of key ≡ key) → k.keyword ≡ key_text (group_of key) → IsKeptValue b key k.value
    → codes " " ++ texts.kept_text b k.keyword k.value ≡ text_of (clause_bits (clause_by b key k))
one_text key k true alone own word value = ap (λ (t : List ℕ). 32 ∷ t) (value ∙ sym (append-nil (key_text key)))
one_text key k false alone own word value = ap (λ (t : List ℕ). 32 ∷ t)
    (ap (λ (w : List ℕ). texts.in_brackets w (texts.quoted k.value)) (word ∙ ap key_text (own alone))
    ∙ ap (λ (d : List ℕ). texts.in_brackets (key_text key) (codes "'" ++ d ++ codes "'")) (doubled_same k.value)
    ∙ append_assoc (key_text key ++ (40 ∷ [])) (quoting.quoted k.value) (41 ∷ [])
    ∙ append_assoc (key_text key) (40 ∷ []) (quoting.quoted k.value ++ 41 ∷ []))

attribute_text : (verb : Verb) (kind : Kind) (k : KeptAttribute) (key : Key) → IsKeptKey verb kind key → k.keyword ≡ key_text (group_of key) → IsKeptValue (stands_alone key) key k.value
    → texts.kept_attribute k ≡ text_of (clause_bits (clause_by (stands_alone key) key k))
attribute_text verb kind k key is word value = ap (λ (w : List ℕ). codes " " ++ texts.kept_text (texts.is_flag w) k.keyword k.value) word ∙ one_text key k (stands_alone key) refl is.own word value

pub kept_text : (verb : Verb) (kind : Kind) (most : List Key) (ks : List KeptAttribute) (h : AreKeptTexts most ks) → AllByRecursion (IsKeptKey verb kind) most → flat_map texts.kept_attribute ks ≡ text_of (all_bits (kept_clauses most ks h))
kept_text verb kind most [] h table = refl
kept_text verb kind most (k ∷ ks) h table =
    ap (λ (t : List ℕ). t ++ flat_map texts.kept_attribute ks) (attribute_text verb kind k h.0.key (kept_key verb kind h.0.key most table h.0.known) h.0.keyword_is h.0.value_is)
    ∙ ap (λ (t : List ℕ). text_of (clause_bits (clause_by (stands_alone h.0.key) h.0.key k)) ++ t) (kept_text verb kind most ks h.2 table)
    ∙ sym (text_append (clause_bits (clause_by (stands_alone h.0.key) h.0.key k)) (all_bits (kept_clauses most ks h.2)))

-- ---- lists of clauses, one behind the other

pub bits_append : (ws vs : List Written) → text_of (all_bits (ws ++ vs)) ≡ text_of (all_bits ws) ++ text_of (all_bits vs)
bits_append [] vs = refl
bits_append (w ∷ ws) vs = text_append (clause_bits w) (all_bits (ws ++ vs)) ∙ ap (λ (t : List ℕ). text_of (clause_bits w) ++ t) (bits_append ws vs)
    ∙ sym (append_assoc (text_of (clause_bits w)) (text_of (all_bits ws)) (text_of (all_bits vs))) ∙ ap (λ (t : List ℕ). t ++ text_of (all_bits vs)) (sym (text_append (clause_bits w) (all_bits ws)))

clauses_append : (ws vs : List Written) → clauses_of (ws ++ vs) ≡ clauses_of ws ++ clauses_of vs
clauses_append [] vs = refl
clauses_append (w ∷ ws) vs = ap (λ (cs : List Clause). w.clause ∷ cs) (clauses_append ws vs)

settings_append : (ws vs : List Written) → settings_of (ws ++ vs) ≡ settings_of ws ++ settings_of vs
settings_append [] vs = refl
settings_append (w ∷ ws) vs = ap (λ (ss : List Setting). w.setting ∷ ss) (settings_append ws vs)

pub written_append : (verb : Verb) (kind : Kind) (ws vs : List Written) → AreWritten verb kind ws → AreWritten verb kind vs → AreWritten verb kind (ws ++ vs)
written_append verb kind [] vs a b = b
written_append verb kind (w ∷ ws) vs a b = (a.0, written_append verb kind ws vs a.1 b)

-- ---- no keyword comes twice

abbrev pub groups : List Written → List Key
groups ws = map group_of (keys_of (clauses_of ws))

-- no key of the one list is in the other
abbrev pub are_clear : List Key → List Key → Bool
are_clear [] ys = true
are_clear (x ∷ xs) ys = not (list_any (λ (y : Key). bytes_eq (key_text x) (key_text y)) ys) && are_clear xs ys

clear : (x : Key) (xs ys : List Key) → are_clear xs ys ≡ true → Mem x xs → Mem x ys → ⊥
clear x [] ys e m n = absurd m
clear x (y ∷ xs) ys e (inl w) n = let b = both (not (list_any (λ (z : Key). bytes_eq (key_text y) (key_text z)) ys)) (are_clear xs ys) e in cc (b.0, ap not (there y ys (subst (λ (k : Key). Mem k ys) w n)))
clear x (y ∷ xs) ys e (inr m) n = let b = both (not (list_any (λ (z : Key). bytes_eq (key_text y) (key_text z)) ys)) (are_clear xs ys) e in clear x xs ys b.1 m n

pub mem_mapped : {A B : Type 0} (f : A → B) (x : A) (xs : List A) → Mem x xs → Mem (f x) (map f xs)
mem_mapped f x [] m = absurd m
mem_mapped f x (y ∷ ys) (inl e) = inl (ap f e)
mem_mapped f x (y ∷ ys) (inr m) = inr (mem_mapped f x ys m)

-- the groups of what is kept: of such keywords, each with its own
group_known : (g : Key) (most : List Key) (ks : List KeptAttribute) (h : AreKeptTexts most ks) → Mem g (groups (kept_clauses most ks h)) → Mem g (map group_of most) × Mem (key_text g) (map (λ (x : KeptAttribute). x.keyword) ks)
group_known g most [] h m = absurd m
group_known g most (k ∷ ks) h (inl e) = (subst (λ (x : Key). Mem x (map group_of most)) (sym e) (mem_mapped group_of h.0.key most h.0.known), inl (ap key_text e ∙ sym h.0.keyword_is))
group_known g most (k ∷ ks) h (inr m) = let r = group_known g most ks h.2 m in (r.0, inr r.1)

kept_distinct : (most : List Key) (ks : List KeptAttribute) (h : AreKeptTexts most ks) → AreDistinct (groups (kept_clauses most ks h))
kept_distinct most [] h = tt
kept_distinct most (k ∷ ks) h = (
  λ m. h.1 (subst (λ (w : List ℕ). Mem w (map (λ (x : KeptAttribute). x.keyword) ks)) (sym h.0.keyword_is) (group_known (group_of h.0.key) most ks h.2 m).1),
  kept_distinct most ks h.2,
)

distinct_append : (xs ys : List Key) → AreDistinct xs → AreDistinct ys → ((x : Key) → Mem x xs → Mem x ys → ⊥) → AreDistinct (xs ++ ys)
distinct_append [] ys a b h = b
distinct_append (x ∷ xs) ys a b h = (λ m. elim (mem_append x xs ys m) [ inl n ↦ a.0 n | inr n ↦ h x (inl refl) n ], distinct_append xs ys a.1 b (λ y m n. h y (inr m) n))

groups_append : (ws vs : List Written) → groups (ws ++ vs) ≡ groups ws ++ groups vs
groups_append [] vs = refl
groups_append (w ∷ ws) vs = ap (λ (gs : List Key). group_of w.clause.key ∷ gs) (groups_append ws vs)

pub kept_single : (most : List Key) (ws : List Written) (ks : List KeptAttribute) (h : AreKeptTexts most ks) → AreSingle (clauses_of ws) → are_clear (groups ws) (map group_of most) ≡ true → AreSingle (clauses_of (ws ++ kept_clauses most ks h))
kept_single most ws ks h single e = subst (λ (gs : List Key). AreDistinct gs) (sym (groups_append ws (kept_clauses most ks h)))
    (distinct_append (groups ws) (groups (kept_clauses most ks h)) single (kept_distinct most ks h) (λ x m n. clear x (groups ws) (map group_of most) e m (group_known x most ks h n).0))

-- ---- what they set

abbrev pub kept_settings : List KeptAttribute → List Setting
kept_settings [] = []
kept_settings (k ∷ ks) = settings.Kept k.keyword k.value ∷ kept_settings ks

settings_kept : (most : List Key) (ks : List KeptAttribute) (h : AreKeptTexts most ks) → settings_of (kept_clauses most ks h) ≡ kept_settings ks
settings_kept most [] h = refl
settings_kept most (k ∷ ks) h = ap (λ (ss : List Setting). settings.Kept k.keyword k.value ∷ ss) (settings_kept most ks h.2)

pub all_settings : (most : List Key) (ws : List Written) (ks : List KeptAttribute) (h : AreKeptTexts most ks) → settings_of (ws ++ kept_clauses most ks h) ≡ settings_of ws ++ kept_settings ks
all_settings most ws ks h = settings_append ws (kept_clauses most ks h) ∙ ap (λ (ss : List Setting). settings_of ws ++ ss) (settings_kept most ks h)

-- none counts
effects : List Setting → ℕ
effects [] = 0
effects (s ∷ ss) = cond (has_effect s) (1 + effects ss) (effects ss)

effects_count : (ss : List Setting) → effects ss ≡ count_by has_effect ss
unfolding effects
effects_count ss = is_count_by effects has_effect refl (λ x xs. refl) ss

effects_append : (ss : List Setting) (ks : List KeptAttribute) → effects (ss ++ kept_settings ks) ≡ effects ss
unfolding effects
effects_append [] [] = refl
effects_append [] (k ∷ ks) = effects_append [] ks
effects_append (s ∷ ss) ks = ap (λ (n : ℕ). cond (has_effect s) (1 + n) n) (effects_append ss ks)

pub counts_same : (ss : List Setting) (ks : List KeptAttribute) → count_by has_effect (ss ++ kept_settings ks) ≡ count_by has_effect ss
counts_same ss ks = sym (effects_count (ss ++ kept_settings ks)) ∙ effects_append ss ks ∙ effects_count ss

-- an object is defined with the rest, and then keeps them
set_append : (xs ys : List Setting) (o : Object) → set_all (xs ++ ys) o ≡ set_all ys (set_all xs o)
set_append [] ys o = refl
set_append (x ∷ xs) ys o = set_append xs ys (set_object x o)

pub set_manager_append : (xs ys : List Setting) (m : ManagerAttributes) → set_all_manager (xs ++ ys) m ≡ set_all_manager ys (set_all_manager xs m)
set_manager_append [] ys m = refl
set_manager_append (x ∷ xs) ys m = set_manager_append xs ys (set_manager x m)

no_types : (ks : List KeptAttribute) → filter is_type_setting (kept_settings ks) ≡ []
no_types [] = refl
no_types (k ∷ ks) = no_types ks

defined_kept : (s : Subject) (ss : List Setting) (ks : List KeptAttribute) → defined_object s (ss ++ kept_settings ks) ≡ set_all (kept_settings ks) (defined_object s ss)
defined_kept s ss ks =
    ap (λ (ts : List Setting). set_all (ss ++ kept_settings ks) (set_all ts (new_object s))) (filter-append is_type_setting ss (kept_settings ks) ∙ ap (λ (ts : List Setting). filter is_type_setting ss ++ ts) (no_types ks) ∙ append-nil (filter is_type_setting ss))
    ∙ set_append ss (kept_settings ks) (set_all (filter is_type_setting ss) (new_object s))

same_attributes : (ks : List KeptAttribute) (o : Object) → texts.attributes (set_all (kept_settings ks) o) ≡ texts.attributes o
same_attributes [] o = refl
same_attributes (k ∷ ks) (objects.Local q) = same_attributes ks (objects.Local (record q { kept = keep_attribute k.keyword k.value q.kept }))
same_attributes (k ∷ ks) (objects.Alias q) = same_attributes ks (objects.Alias (record q { kept = keep_attribute k.keyword k.value q.kept }))
same_attributes (k ∷ ks) (objects.Remote q) = same_attributes ks (objects.Remote (record q { kept = keep_attribute k.keyword k.value q.kept }))
same_attributes (k ∷ ks) (objects.Channel c) = same_attributes ks (objects.Channel (record c { kept = keep_attribute k.keyword k.value c.kept }))
same_attributes (k ∷ ks) (objects.Process q) = same_attributes ks (objects.Process (record q { kept = keep_attribute k.keyword k.value q.kept }))

-- what is kept in the end
abbrev keep_all : List KeptAttribute → List KeptAttribute → List KeptAttribute
keep_all [] before = before
keep_all (k ∷ ks) before = keep_all ks (keep_attribute k.keyword k.value before)

abbrev words_of : List KeptAttribute → List (List ℕ)
words_of ks = map (λ (x : KeptAttribute). x.keyword) ks

keep_one : (k : KeptAttribute) (before : List KeptAttribute) → (Mem k.keyword (words_of before) → ⊥) → keep_attribute k.keyword k.value before ≡ before ++ k ∷ []
keep_one k [] fresh = refl
keep_one k (x ∷ xs) fresh =
    ap (λ (b : Bool). if b then k ∷ xs else x ∷ keep_attribute k.keyword k.value xs) (is_false (bytes_eq k.keyword x.keyword) (λ e. fresh (inl (bytes_same k.keyword x.keyword e))))
    ∙ ap (λ (ys : List KeptAttribute). x ∷ ys) (keep_one k xs (λ m. fresh (inr m)))

words_append : (xs ys : List KeptAttribute) → words_of (xs ++ ys) ≡ words_of xs ++ words_of ys
words_append [] ys = refl
words_append (x ∷ xs) ys = ap (λ (ws : List (List ℕ)). x.keyword ∷ ws) (words_append xs ys)

kept_from : (most : List Key) (ks before : List KeptAttribute) → AreKeptTexts most ks → ((w : List ℕ) → Mem w (words_of before) → Mem w (words_of ks) → ⊥) → keep_all ks before ≡ before ++ ks
kept_from most [] before h fresh = sym (append-nil before)
kept_from most (k ∷ ks) before h fresh =
    ap (keep_all ks) (keep_one k before (λ m. fresh k.keyword m (inl refl)))
    ∙ kept_from most ks (before ++ k ∷ []) h.2 (λ w m n. behind w (mem_append w (words_of before) (k.keyword ∷ []) (subst (λ (ws : List (List ℕ)). Mem w ws) (words_append before (k ∷ [])) m)) n)
    ∙ append_assoc before (k ∷ []) ks
  where
    behind : (w : List ℕ) → Mem w (words_of before) ⊎ Mem w (k.keyword ∷ []) → Mem w (words_of ks) → ⊥
    behind w (inl m) n = fresh w m (inr n)
    behind w (inr (inl e)) n = h.1 (subst (λ (x : List ℕ). Mem x (words_of ks)) e n)
    behind w (inr (inr m)) n = absurd m

all_kept : (most : List Key) (ks : List KeptAttribute) → AreKeptTexts most ks → keep_all ks [] ≡ ks
all_kept most ks h = kept_from most ks [] h (λ w m n. m)

set_local_kept : (ks : List KeptAttribute) (q : LocalQueue) → set_all (kept_settings ks) (objects.Local q) ≡ objects.Local (record q { kept = keep_all ks q.kept })
set_local_kept [] q = refl
set_local_kept (k ∷ ks) q = set_local_kept ks (record q { kept = keep_attribute k.keyword k.value q.kept })

set_alias_kept : (ks : List KeptAttribute) (q : AliasQueue) → set_all (kept_settings ks) (objects.Alias q) ≡ objects.Alias (record q { kept = keep_all ks q.kept })
set_alias_kept [] q = refl
set_alias_kept (k ∷ ks) q = set_alias_kept ks (record q { kept = keep_attribute k.keyword k.value q.kept })

set_remote_kept : (ks : List KeptAttribute) (q : RemoteQueue) → set_all (kept_settings ks) (objects.Remote q) ≡ objects.Remote (record q { kept = keep_all ks q.kept })
set_remote_kept [] q = refl
set_remote_kept (k ∷ ks) q = set_remote_kept ks (record q { kept = keep_attribute k.keyword k.value q.kept })

set_process_kept : (ks : List KeptAttribute) (q : Process) → set_all (kept_settings ks) (objects.Process q) ≡ objects.Process (record q { kept = keep_all ks q.kept })
set_process_kept [] q = refl
set_process_kept (k ∷ ks) q = set_process_kept ks (record q { kept = keep_attribute k.keyword k.value q.kept })

set_channel_kept : (ks : List KeptAttribute) (c : Channel) → set_all (kept_settings ks) (objects.Channel c) ≡ objects.Channel (record c { kept = keep_all ks c.kept })
set_channel_kept [] c = refl
set_channel_kept (k ∷ ks) c = set_channel_kept ks (record c { kept = keep_attribute k.keyword k.value c.kept })

set_manager_kept : (ks : List KeptAttribute) (m : ManagerAttributes) → set_all_manager (kept_settings ks) m ≡ record m { kept = keep_all ks m.kept }
set_manager_kept [] m = refl
set_manager_kept (k ∷ ks) m = set_manager_kept ks (record m { kept = keep_attribute k.keyword k.value m.kept })

pub local_keeps : (most : List Key) (ks : List KeptAttribute) (q : LocalQueue) → AreKeptTexts most ks → q.kept ≡ [] → set_all (kept_settings ks) (objects.Local q) ≡ objects.Local (record q { kept = ks })
local_keeps most ks q h e = set_local_kept ks q ∙ ap (λ (x : List KeptAttribute). objects.Local (record q { kept = x })) (ap (keep_all ks) e ∙ all_kept most ks h)

pub alias_keeps : (most : List Key) (ks : List KeptAttribute) (q : AliasQueue) → AreKeptTexts most ks → q.kept ≡ [] → set_all (kept_settings ks) (objects.Alias q) ≡ objects.Alias (record q { kept = ks })
alias_keeps most ks q h e = set_alias_kept ks q ∙ ap (λ (x : List KeptAttribute). objects.Alias (record q { kept = x })) (ap (keep_all ks) e ∙ all_kept most ks h)

pub remote_keeps : (most : List Key) (ks : List KeptAttribute) (q : RemoteQueue) → AreKeptTexts most ks → q.kept ≡ [] → set_all (kept_settings ks) (objects.Remote q) ≡ objects.Remote (record q { kept = ks })
remote_keeps most ks q h e = set_remote_kept ks q ∙ ap (λ (x : List KeptAttribute). objects.Remote (record q { kept = x })) (ap (keep_all ks) e ∙ all_kept most ks h)

pub process_keeps : (most : List Key) (ks : List KeptAttribute) (q : Process) → AreKeptTexts most ks → q.kept ≡ [] → set_all (kept_settings ks) (objects.Process q) ≡ objects.Process (record q { kept = ks })
process_keeps most ks q h e = set_process_kept ks q ∙ ap (λ (x : List KeptAttribute). objects.Process (record q { kept = x })) (ap (keep_all ks) e ∙ all_kept most ks h)

pub channel_keeps : (most : List Key) (ks : List KeptAttribute) (c : Channel) → AreKeptTexts most ks → c.kept ≡ [] → set_all (kept_settings ks) (objects.Channel c) ≡ objects.Channel (record c { kept = ks })
channel_keeps most ks c h e = set_channel_kept ks c ∙ ap (λ (x : List KeptAttribute). objects.Channel (record c { kept = x })) (ap (keep_all ks) e ∙ all_kept most ks h)

pub manager_keeps : (most : List Key) (ks : List KeptAttribute) (m : ManagerAttributes) → AreKeptTexts most ks → m.kept ≡ [] → set_all_manager (kept_settings ks) m ≡ record m { kept = ks }
manager_keeps most ks m h e = set_manager_kept ks m ∙ ap (λ (x : List KeptAttribute). record m { kept = x }) (ap (keep_all ks) e ∙ all_kept most ks h)

-- ---- a DEFINE with them

pub record CanKeep (noun : Noun) (kind : Kind) (ws vs : List Written) (most : List Key) : Type 0 where
  pub table : AllByRecursion (IsKeptKey verbs.Define kind) most
  pub is_kind : IsKind noun (clauses_of (ws ++ vs)) kind
  pub needed : HasNeeded kind (clauses_of (ws ++ vs))
  pub clear : are_clear (groups ws) (map group_of most) ≡ true
  pub replace : list_any (λ (k : Key). bytes_eq (key_text k) (codes "REPLACE")) most ≡ false
  pub noreplace : list_any (λ (k : Key). bytes_eq (key_text k) (codes "NOREPLACE")) most ≡ false

clause_known : (c : Clause) (most : List Key) (ks : List KeptAttribute) (h : AreKeptTexts most ks) → Mem c (clauses_of (kept_clauses most ks h)) → Mem c.key most
clause_known c most [] h m = absurd m
clause_known c most (k ∷ ks) h (inl e) = subst (λ (x : Key). Mem x most) (sym (ap (λ (d : Clause). d.key) e)) h.0.known
clause_known c most (k ∷ ks) h (inr m) = clause_known c most ks h.2 m

none_says : (word : List ℕ) (most : List Key) (ws : List Written) (ks : List KeptAttribute) (h : AreKeptTexts most ks) → ((c : Clause) → Mem c (clauses_of ws) → bytes_eq (key_text c.key) word ≡ false) → list_any (λ (k : Key). bytes_eq (key_text k) word) most ≡ false
    → (c : Clause) → Mem c (clauses_of (ws ++ kept_clauses most ks h)) → bytes_eq (key_text c.key) word ≡ false
none_says word most ws ks h front none c m =
    elim (mem_append c (clauses_of ws) (clauses_of (kept_clauses most ks h)) (subst (λ (cs : List Clause). Mem c cs) (clauses_append ws (kept_clauses most ks h)) m))
    [ inl n ↦ front c n | inr n ↦ none_any (λ (k : Key). bytes_eq (key_text k) word) most none c.key (clause_known c most ks h n) ]

-- a keyword that neither the clauses nor what is kept has
pub never_said : (key : Key) (most : List Key) (ws : List Written) (ks : List KeptAttribute) (h : AreKeptTexts most ks) → (Mem key (keys_of (clauses_of ws)) → ⊥) → (Mem key most → ⊥) → Mem key (keys_of (clauses_of (ws ++ kept_clauses most ks h))) → ⊥
never_said key most [] ks h front behind m = let k = key_there key ks h m in behind k
  where
    key_there : (key : Key) (ks : List KeptAttribute) (h : AreKeptTexts most ks) → Mem key (keys_of (clauses_of (kept_clauses most ks h))) → Mem key most
    key_there key [] h m = absurd m
    key_there key (k ∷ ks) h (inl e) = subst (λ (x : Key). Mem x most) (sym e) h.0.known
    key_there key (k ∷ ks) h (inr m) = key_there key ks h.2 m
never_said key most (w ∷ ws) ks h front behind (inl e) = front (inl e)
never_said key most (w ∷ ws) ks h front behind (inr m) = never_said key most ws ks h (λ n. front (inr n)) behind m

can_keep : (s : Subject) (noun : Noun) (kind : Kind) (ws : List Written) (most : List Key) (ks : List KeptAttribute) (h : AreKeptTexts most ks) → CanDefine s noun kind ws → CanKeep noun kind ws (kept_clauses most ks h) most → CanDefine s noun kind (ws ++ kept_clauses most ks h)
can_keep s noun kind ws most ks h d k = record {
  goes = d.goes;
  is_kind = k.is_kind;
  written = written_append verbs.Define kind ws (kept_clauses most ks h) d.written (kept_written verbs.Define kind most ks h k.table);
  single = kept_single most ws ks h d.single k.clear;
  needed = k.needed;
  replace = none_says (codes "REPLACE") most ws ks h d.replace k.replace;
  noreplace = none_says (codes "NOREPLACE") most ws ks h d.noreplace k.noreplace;
  word = d.word;
  one_line = d.one_line;
  apart = d.apart;
  noapart = d.noapart;
  all = ap (λ (ss : List Setting). gives_all ss (texts.attributes (defined_object s ss))) (all_settings most ws ks h)
      ∙ ap (λ (n : ℕ). n == length (texts.attributes (defined_object s (settings_of ws ++ kept_settings ks)))) (counts_same (settings_of ws) ks)
      ∙ ap (λ (as_ : List texts.Attribute). count_by has_effect (settings_of ws) == length as_) (ap texts.attributes (defined_kept s (settings_of ws) ks) ∙ same_attributes ks (defined_object s (settings_of ws)))
      ∙ d.all;
}

pub define_keeps : (s : Subject) (noun : Noun) (kind : Kind) (width b : ℕ) (bs : List ℕ) (ws : List Written) (most : List Key) (ks : List KeptAttribute) (h : AreKeptTexts most ks) → IsName width (b ∷ bs) → subject_of noun (b ∷ bs) ≡ Some s
    → IsNamed noun (b ∷ bs) (tokens.Open ∷ tokens.Quoted (b ∷ bs) ∷ tokens.Close ∷ []) → CanDefine s noun kind ws → CanKeep noun kind ws (kept_clauses most ks h) most
    → change_in Sets (text_of (define_bits (object_text noun) (b ∷ bs) (ws ++ kept_clauses most ks h))) ≡ Some (changes.Set (set_all (kept_settings ks) (defined_object s (settings_of ws))))
define_keeps s noun kind width b bs ws most ks h name subject named d k =
    define_read s noun kind width b bs (ws ++ kept_clauses most ks h) name subject named (can_keep s noun kind ws most ks h d k)
    ∙ ap (λ (o : Object). Some (changes.Set o)) (ap (defined_object s) (all_settings most ws ks h) ∙ defined_kept s (settings_of ws) ks)
