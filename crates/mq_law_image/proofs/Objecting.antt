-- The text of each kind of object is read as that object; so is a manager's.
use Rattle.std.proofs.Common.{ℕ, ◌≡◌, ◌≤◌, ◌<◌, ◌^◌, Bool, true, false, List, [], ◌∷◌, ◌++◌, append_assoc, length, refl, ap, sym, ◌∙◌, arith, map, inl}
use Rattle.std.specs.Prelude.{Some, None, ◌==◌, flat_map, codes}
use Rattle.std.specs.List.{list_all, list_any}
use Rattle.std.specs.Option.{option_map}
use Rattle.std.specs.Str.{bytes_eq}
use Rattle.std.specs.Fmt.{decimal}
use Rattle.mq_base.specs.Name.{IsName}
use Rattle.mq_text.specs.Quoting as quoting
use Rattle.mq_objects.specs.Attributes as texts
use Rattle.mq_objects.specs.declared.object.Delivery.{Delivery}
use Rattle.mq_objects.specs.declared.object.Delivery.TheVariants as deliveries
use Rattle.mq_objects.specs.declared.object.TriggerType.{TriggerType}
use Rattle.mq_objects.specs.declared.object.TriggerType.TheVariants as triggers
use Rattle.mq_objects.specs.declared.object.Usage.{Usage}
use Rattle.mq_objects.specs.declared.object.Usage.TheVariants as usages
use Rattle.mq_objects.specs.declared.object.KeptAttribute.{KeptAttribute}
use Rattle.mq_objects.specs.declared.object.LocalQueue.{LocalQueue}
use Rattle.mq_objects.specs.declared.object.AliasQueue.{AliasQueue}
use Rattle.mq_objects.specs.declared.object.RemoteQueue.{RemoteQueue}
use Rattle.mq_objects.specs.declared.object.ManagerAttributes.{ManagerAttributes}
use Rattle.mq_objects.specs.declared.object.Process.{Process}
use Rattle.mq_objects.specs.declared.object.Channel.{Channel}
use Rattle.mq_objects.specs.declared.object.ChannelKind.{ChannelKind}
use Rattle.mq_objects.specs.declared.object.ChannelKind.TheVariants as channels
use Rattle.mq_objects.specs.declared.setting.ChannelType.TheVariants as types
use Rattle.mq_objects.specs.declared.object.Object.{Object}
use Rattle.mq_objects.specs.declared.object.Object.TheVariants as objects
use Rattle.mq_objects.specs.declared.setting.Setting.{Setting}
use Rattle.mq_objects.specs.Defaults.{new_manager}
use Rattle.mq_objects.specs.Settings.{set_all_manager}
use Rattle.mq_objects.specs.declared.setting.Setting.TheVariants as settings
use Rattle.mq_objects.specs.declared.setting.Keyword.TheVariants as keywords
use Rattle.mq_objects.specs.declared.command.Subject.{Subject}
use Rattle.mq_objects.specs.declared.command.Subject.TheVariants as subjects
use Rattle.mq_objects.specs.declared.change.ObjectChange.TheVariants as changes
use Rattle.mq_calls.specs.Sizes.{change_text}
use Rattle.mq_law_log.specs.from_sc_apply.Planned.{defined_object}
use Rattle.mq_sc_keys.specs.declared.keys.Key.{Key}
use Rattle.mq_sc_keys.specs.declared.keys.Key.TheVariants as keys
use Rattle.mq_sc_keys.specs.declared.verbs.Verb.TheVariants as verbs
use Rattle.mq_sc_keys.specs.declared.verbs.Noun.{Noun}
use Rattle.mq_sc_keys.specs.declared.verbs.Noun.TheVariants as nouns
use Rattle.mq_sc_keys.specs.Verbs.{object_text, takes}
use Rattle.mq_sc_keys.specs.declared.attributes.Kind.{Kind}
use Rattle.mq_sc_keys.specs.declared.attributes.Kind.TheVariants as kinds
use Rattle.mq_sc_keys.specs.declared.value.Value.TheVariants as values
use Rattle.mq_sc_keys.specs.Keys.{key_text, group_of}
use Rattle.mq_sc_keys.specs.Values as reads
use Rattle.mq_sc_lex.specs.declared.token.TokenKind.TheVariants as tokens
use Rattle.mq_sc_grammar.specs.Spelling.{Clause}
use Rattle.mq_sc_grammar.specs.Commands.{keys_of, IsKind, HasNeeded}
use Rattle.mq_law_log.specs.from_record.OperationVariants.{Set as Sets}
use Rattle.mq_law_log.specs.from_spec_log.Texts.{gives_all, change_in}
use Rattle.mq_law_image.specs.Laid.Bit.{Word}
use Rattle.mq_law_image.specs.Laid.{text_of, IsWell, is_no_end, Written, IsWritten, clause_bits, all_bits, clauses_of, settings_of, AreWritten, CanDefine, alter_bits}
use Rattle.mq_law_image.specs.Values.{kept_keys, AreKeptTexts, IsManagerText, IsLocalText, IsAliasText, IsRemoteText, IsProcessText, IsSenderText, IsReceiverText, IsKindText, IsChannelText}
use Rattle.mq_law_image.proofs.Members.{none_any}
use Rattle.mq_law_image.proofs.Deleting.{doubled_same, name_read, name_unblank}
use Rattle.mq_law_image.proofs.Giving.{text_append, alter_read}
use Rattle.mq_law_image.proofs.Keeping.{CanKeep, kept_clauses, kept_settings, kept_written, kept_text, kept_single, bits_append, written_append, all_settings, counts_same, set_manager_append, never_said, local_kept, alias_kept, remote_kept, process_kept, manager_kept, sender_kept, receiver_kept, local_keeps, alias_keeps, remote_keeps, process_keeps, channel_keeps, manager_keeps, define_keeps}
use Rattle.mq_law_image.proofs.Writing.{are_apart, keys_apart, key_there, not_there, word_written, number_written, name_written, text_written, flag_written, appl_written}

-- ---- words of values

record IsWordOf (text : List ℕ) : Type 0 where
  pub well : IsWell (Word text)
  pub whole : list_all is_no_end text ≡ true

yes_word : (b : Bool) → IsWordOf (texts.yes_or_no b)
yes_word true = record { well = (refl, refl); whole = refl }
yes_word false = record { well = (refl, refl); whole = refl }

yes_given : (b : Bool) → reads.yes_or_no (values.Text (texts.yes_or_no b)) ≡ Some b
yes_given true = refl
yes_given false = refl

enabled_word : (b : Bool) → IsWordOf (texts.enabled_or_not b)
enabled_word true = record { well = (refl, refl); whole = refl }
enabled_word false = record { well = (refl, refl); whole = refl }

enabled_given : (b : Bool) → reads.enabled_or_not (values.Text (texts.enabled_or_not b)) ≡ Some b
enabled_given true = refl
enabled_given false = refl

delivery_word : (d : Delivery) → IsWordOf (texts.delivery_word d)
delivery_word deliveries.Priority = record { well = (refl, refl); whole = refl }
delivery_word deliveries.Fifo = record { well = (refl, refl); whole = refl }

delivery_given : (d : Delivery) → reads.delivery_of (reads.choice_value (codes "PRIORITY") (codes "FIFO") (values.Text (texts.delivery_word d))) ≡ Some d
delivery_given deliveries.Priority = refl
delivery_given deliveries.Fifo = refl

trigger_word : (t : TriggerType) → IsWordOf (texts.trigger_word t)
trigger_word triggers.First = record { well = (refl, refl); whole = refl }
trigger_word triggers.Every = record { well = (refl, refl); whole = refl }
trigger_word triggers.Depth = record { well = (refl, refl); whole = refl }
trigger_word triggers.Never = record { well = (refl, refl); whole = refl }

trigger_given : (t : TriggerType) → reads.trigger_type_value (values.Text (texts.trigger_word t)) ≡ Some t
trigger_given triggers.First = refl
trigger_given triggers.Every = refl
trigger_given triggers.Depth = refl
trigger_given triggers.Never = refl

usage_word : (u : Usage) → IsWordOf (texts.usage_word u)
usage_word usages.Normal = record { well = (refl, refl); whole = refl }
usage_word usages.Transmission = record { well = (refl, refl); whole = refl }

usage_given : (u : Usage) → reads.usage_of (reads.choice_value (codes "NORMAL") (codes "XMITQ") (values.Text (texts.usage_word u))) ≡ Some u
usage_given usages.Normal = refl
usage_given usages.Transmission = refl

speed_word : (b : Bool) → IsWordOf (texts.speed_word b)
speed_word true = record { well = (refl, refl); whole = refl }
speed_word false = record { well = (refl, refl); whole = refl }

speed_given : (b : Bool) → reads.choice_value (codes "FAST") (codes "NORMAL") (values.Text (texts.speed_word b)) ≡ Some b
speed_given true = refl
speed_given false = refl

-- ---- texts of attributes

abbrev attribute_text : texts.Attribute → List ℕ
attribute_text a = texts.command_attribute a.word a.value

abbrev AreSame : List texts.Attribute → List Written → Type 0
AreSame [] [] = Unit {0}
AreSame [] (w ∷ ws) = ⊥
AreSame (a ∷ as_) [] = ⊥
AreSame (a ∷ as_) (w ∷ ws) = (attribute_text a ≡ text_of (clause_bits w)) × AreSame as_ ws

same_texts : (as_ : List texts.Attribute) (ws : List Written) → AreSame as_ ws → flat_map attribute_text as_ ≡ text_of (all_bits ws)
same_texts [] [] h = refl
same_texts [] (w ∷ ws) h = absurd h
same_texts (a ∷ as_) [] h = absurd h
same_texts (a ∷ as_) (w ∷ ws) h = ap (λ (t : List ℕ). t ++ flat_map attribute_text as_) h.0 ∙ ap (λ (t : List ℕ). text_of (clause_bits w) ++ t) (same_texts as_ ws h.1) ∙ sym (text_append (clause_bits w) (all_bits ws))

all_same : (as_ : List texts.Attribute) (kept : List KeptAttribute) (ws vs : List Written) → AreSame as_ ws → flat_map texts.kept_attribute kept ≡ text_of (all_bits vs) → flat_map attribute_text as_ ++ flat_map texts.kept_attribute kept ≡ text_of (all_bits (ws ++ vs))
all_same as_ kept ws vs same behind =
    ap (λ (t : List ℕ). t ++ flat_map texts.kept_attribute kept) (same_texts as_ ws same) ∙ ap (λ (t : List ℕ). text_of (all_bits ws) ++ t) behind ∙ sym (bits_append ws vs)

below : (n m : ℕ) → n ≤ m → m < 2 ^ 64 → n < 2 ^ 64
below n m x y = omega (arith, x, y)

-- ---- a manager

abbrev manager_tail : ManagerAttributes → List Written
manager_tail m = record { clause = record { key = keys.DefXmitQ; value = Some m.default_transmission_queue }; in_quotes = true; setting = settings.DefaultTransmissionQueue m.default_transmission_queue } ∷ record { clause = record { key = keys.MaxHands; value = Some (decimal m.max_handles) }; in_quotes = false; setting = settings.MaxHandles m.max_handles } ∷ record { clause = record { key = keys.MaxMsgL; value = Some (decimal m.max_message_length) }; in_quotes = false; setting = settings.MaxMessageLength m.max_message_length } ∷ record { clause = record { key = keys.MaxUMsgs; value = Some (decimal m.max_uncommitted) }; in_quotes = false; setting = settings.MaxUncommitted m.max_uncommitted } ∷ record { clause = record { key = keys.TrigInt; value = Some (decimal m.trigger_interval) }; in_quotes = false; setting = settings.TriggerInterval m.trigger_interval } ∷ []

abbrev manager_clauses : ManagerAttributes → List Written
manager_clauses m = record { clause = record { key = keys.DeadQ; value = Some m.dead_letter_queue }; in_quotes = true; setting = settings.DeadLetterQueue m.dead_letter_queue } ∷ manager_tail m

manager_written : (m : ManagerAttributes) → IsManagerText m → AreWritten verbs.Alter kinds.Manager (manager_clauses m)
manager_written m h = (name_written verbs.Alter kinds.Manager keys.DeadQ m.dead_letter_queue settings.DeadLetterQueue (record { known = refl; word = (refl, refl); whole = refl }) refl h.dead_letter_queue, (name_written verbs.Alter kinds.Manager keys.DefXmitQ m.default_transmission_queue settings.DefaultTransmissionQueue (record { known = refl; word = (refl, refl); whole = refl }) refl h.default_transmission_queue, (number_written verbs.Alter kinds.Manager keys.MaxHands 0 999999999 m.max_handles settings.MaxHandles (record { known = refl; word = (refl, refl); whole = refl }) refl (omega arith) h.max_handles (below m.max_handles 999999999 h.max_handles (omega arith)), (number_written verbs.Alter kinds.Manager keys.MaxMsgL 32768 4194304 m.max_message_length settings.MaxMessageLength (record { known = refl; word = (refl, refl); whole = refl }) refl h.max_message_length.0 h.max_message_length.1 (below m.max_message_length 4194304 h.max_message_length.1 (omega arith)), (number_written verbs.Alter kinds.Manager keys.MaxUMsgs 1 999999999 m.max_uncommitted settings.MaxUncommitted (record { known = refl; word = (refl, refl); whole = refl }) refl h.max_uncommitted.0 h.max_uncommitted.1 (below m.max_uncommitted 999999999 h.max_uncommitted.1 (omega arith)), (number_written verbs.Alter kinds.Manager keys.TrigInt 0 999999999 m.trigger_interval settings.TriggerInterval (record { known = refl; word = (refl, refl); whole = refl }) refl (omega arith) h.trigger_interval (below m.trigger_interval 999999999 h.trigger_interval (omega arith)), tt))))))

manager_same : (m : ManagerAttributes) → AreSame (texts.manager_attributes m) (manager_clauses m)
manager_same m = (ap (λ (d : List ℕ). codes " " ++ texts.in_brackets (codes "DEADQ") (codes "'" ++ d ++ codes "'")) (doubled_same m.dead_letter_queue), (ap (λ (d : List ℕ). codes " " ++ texts.in_brackets (codes "DEFXMITQ") (codes "'" ++ d ++ codes "'")) (doubled_same m.default_transmission_queue), (refl, (refl, (refl, (refl, tt))))))

manager_by : (m : ManagerAttributes) (ks : List KeptAttribute) (k : AreKeptTexts (kept_keys kinds.Manager) ks) → IsManagerText m → change_in Sets (change_text (changes.SetManager (record m { kept = ks }))) ≡ Some (changes.SetManager (record m { kept = ks }))
manager_by m ks k h =
    ap (change_in Sets) text
    ∙ alter_read (record { clause = record { key = keys.DeadQ; value = Some m.dead_letter_queue }; in_quotes = true; setting = settings.DeadLetterQueue m.dead_letter_queue }) (manager_tail m ++ kept_clauses (kept_keys kinds.Manager) ks k)
    (written_append verbs.Alter kinds.Manager (manager_clauses m) (kept_clauses (kept_keys kinds.Manager) ks k) (manager_written m h) (kept_written verbs.Alter kinds.Manager (kept_keys kinds.Manager) ks k manager_kept))
    (kept_single (kept_keys kinds.Manager) (manager_clauses m) ks k (keys_apart (map group_of (keys_of (clauses_of (manager_clauses m)))) refl) refl)
    (λ n. never_said keys.Force (kept_keys kinds.Manager) (manager_clauses m) ks k (not_there keys.Force (keys_of (clauses_of (manager_clauses m))) refl) (not_there keys.Force (kept_keys kinds.Manager) refl) n)
    (ap (λ (ss : List Setting). gives_all ss (texts.manager_attributes new_manager)) (all_settings (kept_keys kinds.Manager) (manager_clauses m) ks k) ∙ ap (λ (n : ℕ). n == 6) (counts_same (settings_of (manager_clauses m)) ks))
    ∙ ap (λ (x : ManagerAttributes). Some (changes.SetManager x))
    (ap (λ (ss : List Setting). set_all_manager ss new_manager) (all_settings (kept_keys kinds.Manager) (manager_clauses m) ks k) ∙ set_manager_append (settings_of (manager_clauses m)) (kept_settings ks) new_manager
    ∙ manager_keeps (kept_keys kinds.Manager) ks (record m { kept = [] }) k refl)
  where
    text : change_text (changes.SetManager (record m { kept = ks })) ≡ text_of (alter_bits (manager_clauses m ++ kept_clauses (kept_keys kinds.Manager) ks k))
    text = append_assoc (codes "ALTER QMGR") (flat_map attribute_text (texts.manager_attributes m)) (flat_map texts.kept_attribute ks)
        ∙ ap (λ (t : List ℕ). codes "ALTER QMGR" ++ t) (all_same (texts.manager_attributes m) ks (manager_clauses m) (kept_clauses (kept_keys kinds.Manager) ks k) (manager_same m) (kept_text verbs.Alter kinds.Manager (kept_keys kinds.Manager) ks k manager_kept))

pub manager_read : (m : ManagerAttributes) → IsManagerText m → change_in Sets (change_text (changes.SetManager m)) ≡ Some (changes.SetManager m)
manager_read m h = manager_by m m.kept h.kept_are h

-- ---- objects

-- the text of a DEFINE behind its head
define_same : (name : List ℕ) (as_ : List texts.Attribute) (kept : List KeptAttribute) (ws vs : List Written) → AreSame as_ ws → flat_map texts.kept_attribute kept ≡ text_of (all_bits vs)
    → ((texts.quoted name ++ codes ")") ++ flat_map attribute_text as_) ++ flat_map texts.kept_attribute kept ≡ quoting.quoted name ++ (41 ∷ text_of (all_bits (ws ++ vs)))
define_same name as_ kept ws vs same behind =
    append_assoc (texts.quoted name ++ codes ")") (flat_map attribute_text as_) (flat_map texts.kept_attribute kept)
    ∙ ap (λ (t : List ℕ). (texts.quoted name ++ codes ")") ++ t) (all_same as_ kept ws vs same behind)
    ∙ ap (λ (d : List ℕ). ((codes "'" ++ d ++ codes "'") ++ codes ")") ++ text_of (all_bits (ws ++ vs))) (doubled_same name)
    ∙ append_assoc (quoting.quoted name) (41 ∷ []) (text_of (all_bits (ws ++ vs)))

-- what a DEFINE asks that is seen by computing: of its noun, of its keywords, and that its attributes are those of the object
can_define : (s : Subject) (noun : Noun) (kind : Kind) (ws : List Written) → IsKind noun (clauses_of ws) kind → AreWritten verbs.Define kind ws → HasNeeded kind (clauses_of ws) → takes verbs.Define noun ≡ true → IsWell (Word (object_text noun)) → list_all is_no_end (object_text noun) ≡ true
    → (bytes_eq (object_text noun) (codes "REPLACE") ≡ false) × (bytes_eq (object_text noun) (codes "NOREPLACE") ≡ false) → are_apart (map group_of (keys_of (clauses_of ws))) ≡ true → list_any (λ (c : Clause). bytes_eq (key_text c.key) (codes "REPLACE")) (clauses_of ws) ≡ false
    → list_any (λ (c : Clause). bytes_eq (key_text c.key) (codes "NOREPLACE")) (clauses_of ws) ≡ false → gives_all (settings_of ws) (texts.attributes (defined_object s (settings_of ws))) ≡ true → CanDefine s noun kind ws
can_define s noun kind ws is_kind written needed goes word one_line apart single replace noreplace all = record {
  goes = goes;
  is_kind = is_kind;
  written = written;
  single = keys_apart (map group_of (keys_of (clauses_of ws))) single;
  needed = needed;
  replace = none_any (λ (c : Clause). bytes_eq (key_text c.key) (codes "REPLACE")) (clauses_of ws) replace;
  noreplace = none_any (λ (c : Clause). bytes_eq (key_text c.key) (codes "NOREPLACE")) (clauses_of ws) noreplace;
  word = word;
  one_line = one_line;
  apart = apart.0;
  noapart = apart.1;
  all = all;
}

abbrev alias_clauses : AliasQueue → List Written
alias_clauses q = record { clause = record { key = keys.DefPrty; value = Some (decimal q.default_priority) }; in_quotes = false; setting = settings.DefaultPriority q.default_priority } ∷ record { clause = record { key = keys.DefPsist; value = Some (texts.yes_or_no q.default_persistent) }; in_quotes = false; setting = settings.DefaultPersistent q.default_persistent } ∷ record { clause = record { key = keys.Get; value = Some (texts.enabled_or_not q.get_enabled) }; in_quotes = false; setting = settings.GetEnabled q.get_enabled } ∷ record { clause = record { key = keys.Put; value = Some (texts.enabled_or_not q.put_enabled) }; in_quotes = false; setting = settings.PutEnabled q.put_enabled } ∷ record { clause = record { key = keys.Target; value = Some q.target }; in_quotes = true; setting = settings.Target q.target } ∷ []

alias_can : (b : ℕ) (bs : List ℕ) (q : AliasQueue) → IsAliasText q → CanDefine (subjects.Alias (b ∷ bs)) nouns.Alias kinds.Alias (alias_clauses q)
alias_can b bs q h =
    can_define (subjects.Alias (b ∷ bs)) nouns.Alias kinds.Alias (alias_clauses q) refl (number_written verbs.Define kinds.Alias keys.DefPrty 0 9 q.default_priority settings.DefaultPriority (record { known = refl; word = (refl, refl); whole = refl }) refl (omega arith) h.default_priority (below q.default_priority 9 h.default_priority (omega arith)), (word_written verbs.Define kinds.Alias keys.DefPsist (texts.yes_or_no q.default_persistent) (settings.DefaultPersistent q.default_persistent) (record { known = refl; word = (refl, refl); whole = refl }) (yes_word q.default_persistent).well (yes_word q.default_persistent).whole (ap (reads.set_to settings.DefaultPersistent) (yes_given q.default_persistent)), (word_written verbs.Define kinds.Alias keys.Get (texts.enabled_or_not q.get_enabled) (settings.GetEnabled q.get_enabled) (record { known = refl; word = (refl, refl); whole = refl }) (enabled_word q.get_enabled).well (enabled_word q.get_enabled).whole (ap (reads.set_to settings.GetEnabled) (enabled_given q.get_enabled)), (word_written verbs.Define kinds.Alias keys.Put (texts.enabled_or_not q.put_enabled) (settings.PutEnabled q.put_enabled) (record { known = refl; word = (refl, refl); whole = refl }) (enabled_word q.put_enabled).well (enabled_word q.put_enabled).whole (ap (reads.set_to settings.PutEnabled) (enabled_given q.put_enabled)), (name_written verbs.Define kinds.Alias keys.Target q.target settings.Target (record { known = refl; word = (refl, refl); whole = refl }) refl h.target, tt))))) tt refl (refl, refl) refl (refl, refl) refl refl refl refl

alias_by : (b : ℕ) (bs : List ℕ) (q : AliasQueue) (ks : List KeptAttribute) (k : AreKeptTexts (kept_keys kinds.Alias) ks) → IsName 48 (b ∷ bs) → IsAliasText q → change_in Sets (change_text (changes.Set (objects.Alias (record q { name = b ∷ bs; kept = ks })))) ≡ Some (changes.Set (objects.Alias (record q { name = b ∷ bs; kept = ks })))
alias_by b bs q ks k name h =
    ap (change_in Sets) (ap (λ (t : List ℕ). codes "DEFINE QALIAS(" ++ t) (define_same (b ∷ bs) (texts.alias_attributes (record q { name = b ∷ bs; kept = ks })) ks (alias_clauses q) (kept_clauses (kept_keys kinds.Alias) ks k) (refl, (refl, (refl, (refl, (ap (λ (d : List ℕ). codes " " ++ texts.in_brackets (codes "TARGET") (codes "'" ++ d ++ codes "'")) (doubled_same q.target), tt))))) (kept_text verbs.Define kinds.Alias (kept_keys kinds.Alias) ks k alias_kept)))
    ∙ define_keeps (subjects.Alias (b ∷ bs)) nouns.Alias kinds.Alias 48 b bs (alias_clauses q) (kept_keys kinds.Alias) ks k name (ap (λ r. option_map subjects.Alias (reads.name_or_none r)) (name_read 48 b bs name)) ((tokens.Quoted (b ∷ bs), refl, refl), name_unblank 48 b bs name) (alias_can b bs q h) (record { table = alias_kept; is_kind = refl; needed = tt; clear = refl; replace = refl; noreplace = refl })
    ∙ ap (λ (o : Object). Some (changes.Set o)) (alias_keeps (kept_keys kinds.Alias) ks (record q { name = b ∷ bs; kept = [] }) k refl)

abbrev remote_clauses : RemoteQueue → List Written
remote_clauses q = record { clause = record { key = keys.DefPrty; value = Some (decimal q.default_priority) }; in_quotes = false; setting = settings.DefaultPriority q.default_priority } ∷ record { clause = record { key = keys.DefPsist; value = Some (texts.yes_or_no q.default_persistent) }; in_quotes = false; setting = settings.DefaultPersistent q.default_persistent } ∷ record { clause = record { key = keys.Put; value = Some (texts.enabled_or_not q.put_enabled) }; in_quotes = false; setting = settings.PutEnabled q.put_enabled } ∷ record { clause = record { key = keys.RName; value = Some q.remote_name }; in_quotes = true; setting = settings.RemoteName q.remote_name } ∷ record { clause = record { key = keys.RQMName; value = Some q.remote_manager }; in_quotes = true; setting = settings.RemoteManager q.remote_manager } ∷ record { clause = record { key = keys.XmitQ; value = Some q.transmission_queue }; in_quotes = true; setting = settings.TransmissionQueue q.transmission_queue } ∷ []

remote_can : (b : ℕ) (bs : List ℕ) (q : RemoteQueue) → IsRemoteText q → CanDefine (subjects.Remote (b ∷ bs)) nouns.Remote kinds.Remote (remote_clauses q)
remote_can b bs q h =
    can_define (subjects.Remote (b ∷ bs)) nouns.Remote kinds.Remote (remote_clauses q) refl (number_written verbs.Define kinds.Remote keys.DefPrty 0 9 q.default_priority settings.DefaultPriority (record { known = refl; word = (refl, refl); whole = refl }) refl (omega arith) h.default_priority (below q.default_priority 9 h.default_priority (omega arith)), (word_written verbs.Define kinds.Remote keys.DefPsist (texts.yes_or_no q.default_persistent) (settings.DefaultPersistent q.default_persistent) (record { known = refl; word = (refl, refl); whole = refl }) (yes_word q.default_persistent).well (yes_word q.default_persistent).whole (ap (reads.set_to settings.DefaultPersistent) (yes_given q.default_persistent)), (word_written verbs.Define kinds.Remote keys.Put (texts.enabled_or_not q.put_enabled) (settings.PutEnabled q.put_enabled) (record { known = refl; word = (refl, refl); whole = refl }) (enabled_word q.put_enabled).well (enabled_word q.put_enabled).whole (ap (reads.set_to settings.PutEnabled) (enabled_given q.put_enabled)), (name_written verbs.Define kinds.Remote keys.RName q.remote_name settings.RemoteName (record { known = refl; word = (refl, refl); whole = refl }) refl h.remote_name, (name_written verbs.Define kinds.Remote keys.RQMName q.remote_manager settings.RemoteManager (record { known = refl; word = (refl, refl); whole = refl }) refl h.remote_manager, (name_written verbs.Define kinds.Remote keys.XmitQ q.transmission_queue settings.TransmissionQueue (record { known = refl; word = (refl, refl); whole = refl }) refl h.transmission_queue, tt)))))) tt refl (refl, refl) refl (refl, refl) refl refl refl refl

remote_by : (b : ℕ) (bs : List ℕ) (q : RemoteQueue) (ks : List KeptAttribute) (k : AreKeptTexts (kept_keys kinds.Remote) ks) → IsName 48 (b ∷ bs) → IsRemoteText q → change_in Sets (change_text (changes.Set (objects.Remote (record q { name = b ∷ bs; kept = ks })))) ≡ Some (changes.Set (objects.Remote (record q { name = b ∷ bs; kept = ks })))
remote_by b bs q ks k name h =
    ap (change_in Sets) (ap (λ (t : List ℕ). codes "DEFINE QREMOTE(" ++ t) (define_same (b ∷ bs) (texts.remote_attributes (record q { name = b ∷ bs; kept = ks })) ks (remote_clauses q) (kept_clauses (kept_keys kinds.Remote) ks k) (refl, (refl, (refl, (ap (λ (d : List ℕ). codes " " ++ texts.in_brackets (codes "RNAME") (codes "'" ++ d ++ codes "'")) (doubled_same q.remote_name), (ap (λ (d : List ℕ). codes " " ++ texts.in_brackets (codes "RQMNAME") (codes "'" ++ d ++ codes "'")) (doubled_same q.remote_manager), (ap (λ (d : List ℕ). codes " " ++ texts.in_brackets (codes "XMITQ") (codes "'" ++ d ++ codes "'")) (doubled_same q.transmission_queue), tt)))))) (kept_text verbs.Define kinds.Remote (kept_keys kinds.Remote) ks k remote_kept)))
    ∙ define_keeps (subjects.Remote (b ∷ bs)) nouns.Remote kinds.Remote 48 b bs (remote_clauses q) (kept_keys kinds.Remote) ks k name (ap (λ r. option_map subjects.Remote (reads.name_or_none r)) (name_read 48 b bs name)) ((tokens.Quoted (b ∷ bs), refl, refl), name_unblank 48 b bs name) (remote_can b bs q h) (record { table = remote_kept; is_kind = refl; needed = tt; clear = refl; replace = refl; noreplace = refl })
    ∙ ap (λ (o : Object). Some (changes.Set o)) (remote_keeps (kept_keys kinds.Remote) ks (record q { name = b ∷ bs; kept = [] }) k refl)

-- TRIGGER or NOTRIGGER
abbrev trigger_key : Bool → Key
trigger_key true = keys.Trigger
trigger_key false = keys.NoTrigger

abbrev trigger_clause : Bool → Written
trigger_clause t = record { clause = record { key = trigger_key t; value = None }; in_quotes = false; setting = settings.Trigger t }

trigger_written : (t : Bool) → IsWritten verbs.Define kinds.Local (trigger_clause t)
trigger_written true = flag_written verbs.Define kinds.Local keys.Trigger (settings.Trigger true) (record { known = refl; word = (refl, refl); whole = refl }) refl (record { front = codes " TRIGGE"; last = 82; is = refl; unblank = refl; unsigned = refl })
trigger_written false = flag_written verbs.Define kinds.Local keys.NoTrigger (settings.Trigger false) (record { known = refl; word = (refl, refl); whole = refl }) refl (record { front = codes " NOTRIGGE"; last = 82; is = refl; unblank = refl; unsigned = refl })

trigger_same : (t : Bool) → attribute_text (texts.flag_of keywords.Trigger (texts.trigger_flag t)) ≡ text_of (clause_bits (trigger_clause t))
trigger_same true = refl
trigger_same false = refl

abbrev local_clauses : Bool → LocalQueue → List Written
local_clauses t q = record { clause = record { key = keys.DefPrty; value = Some (decimal q.default_priority) }; in_quotes = false; setting = settings.DefaultPriority q.default_priority } ∷ record { clause = record { key = keys.DefPsist; value = Some (texts.yes_or_no q.default_persistent) }; in_quotes = false; setting = settings.DefaultPersistent q.default_persistent } ∷ record { clause = record { key = keys.Get; value = Some (texts.enabled_or_not q.get_enabled) }; in_quotes = false; setting = settings.GetEnabled q.get_enabled } ∷ record { clause = record { key = keys.InitQ; value = Some q.initiation_queue }; in_quotes = true; setting = settings.InitiationQueue q.initiation_queue } ∷ record { clause = record { key = keys.MaxDepth; value = Some (decimal q.max_depth) }; in_quotes = false; setting = settings.MaxDepth q.max_depth } ∷ record { clause = record { key = keys.MaxMsgL; value = Some (decimal q.max_message_length) }; in_quotes = false; setting = settings.MaxMessageLength q.max_message_length } ∷ record { clause = record { key = keys.MsgDlvSq; value = Some (texts.delivery_word q.delivery) }; in_quotes = false; setting = settings.Delivery q.delivery } ∷ record { clause = record { key = keys.Process; value = Some q.process }; in_quotes = true; setting = settings.Process q.process } ∷ record { clause = record { key = keys.Put; value = Some (texts.enabled_or_not q.put_enabled) }; in_quotes = false; setting = settings.PutEnabled q.put_enabled } ∷ record { clause = record { key = keys.TrigData; value = Some q.trigger_data }; in_quotes = true; setting = settings.TriggerData q.trigger_data } ∷ record { clause = record { key = keys.TrigDpth; value = Some (decimal q.trigger_depth) }; in_quotes = false; setting = settings.TriggerDepth q.trigger_depth } ∷ trigger_clause t ∷ record { clause = record { key = keys.TrigMPri; value = Some (decimal q.trigger_priority) }; in_quotes = false; setting = settings.TriggerPriority q.trigger_priority } ∷ record { clause = record { key = keys.TrigType; value = Some (texts.trigger_word q.trigger_type) }; in_quotes = false; setting = settings.TriggerType q.trigger_type } ∷ record { clause = record { key = keys.Usage; value = Some (texts.usage_word q.usage) }; in_quotes = false; setting = settings.Usage q.usage } ∷ []

local_written : (t : Bool) (q : LocalQueue) → IsLocalText q → AreWritten verbs.Define kinds.Local (local_clauses t q)
local_written t q h = (number_written verbs.Define kinds.Local keys.DefPrty 0 9 q.default_priority settings.DefaultPriority (record { known = refl; word = (refl, refl); whole = refl }) refl (omega arith) h.default_priority (below q.default_priority 9 h.default_priority (omega arith)), (word_written verbs.Define kinds.Local keys.DefPsist (texts.yes_or_no q.default_persistent) (settings.DefaultPersistent q.default_persistent) (record { known = refl; word = (refl, refl); whole = refl }) (yes_word q.default_persistent).well (yes_word q.default_persistent).whole (ap (reads.set_to settings.DefaultPersistent) (yes_given q.default_persistent)), (word_written verbs.Define kinds.Local keys.Get (texts.enabled_or_not q.get_enabled) (settings.GetEnabled q.get_enabled) (record { known = refl; word = (refl, refl); whole = refl }) (enabled_word q.get_enabled).well (enabled_word q.get_enabled).whole (ap (reads.set_to settings.GetEnabled) (enabled_given q.get_enabled)), (name_written verbs.Define kinds.Local keys.InitQ q.initiation_queue settings.InitiationQueue (record { known = refl; word = (refl, refl); whole = refl }) refl h.initiation_queue, (number_written verbs.Define kinds.Local keys.MaxDepth 0 999999999 q.max_depth settings.MaxDepth (record { known = refl; word = (refl, refl); whole = refl }) refl (omega arith) h.max_depth (below q.max_depth 999999999 h.max_depth (omega arith)), (number_written verbs.Define kinds.Local keys.MaxMsgL 0 4194304 q.max_message_length settings.MaxMessageLength (record { known = refl; word = (refl, refl); whole = refl }) refl (omega arith) h.max_message_length (below q.max_message_length 4194304 h.max_message_length (omega arith)), (word_written verbs.Define kinds.Local keys.MsgDlvSq (texts.delivery_word q.delivery) (settings.Delivery q.delivery) (record { known = refl; word = (refl, refl); whole = refl }) (delivery_word q.delivery).well (delivery_word q.delivery).whole (ap (reads.set_to settings.Delivery) (delivery_given q.delivery)), (name_written verbs.Define kinds.Local keys.Process q.process settings.Process (record { known = refl; word = (refl, refl); whole = refl }) refl h.process, (word_written verbs.Define kinds.Local keys.Put (texts.enabled_or_not q.put_enabled) (settings.PutEnabled q.put_enabled) (record { known = refl; word = (refl, refl); whole = refl }) (enabled_word q.put_enabled).well (enabled_word q.put_enabled).whole (ap (reads.set_to settings.PutEnabled) (enabled_given q.put_enabled)), (text_written verbs.Define kinds.Local keys.TrigData 64 q.trigger_data settings.TriggerData (record { known = refl; word = (refl, refl); whole = refl }) refl h.trigger_data.0 h.trigger_data.1, (number_written verbs.Define kinds.Local keys.TrigDpth 1 999999999 q.trigger_depth settings.TriggerDepth (record { known = refl; word = (refl, refl); whole = refl }) refl h.trigger_depth.0 h.trigger_depth.1 (below q.trigger_depth 999999999 h.trigger_depth.1 (omega arith)), (trigger_written t, (number_written verbs.Define kinds.Local keys.TrigMPri 0 9 q.trigger_priority settings.TriggerPriority (record { known = refl; word = (refl, refl); whole = refl }) refl (omega arith) h.trigger_priority (below q.trigger_priority 9 h.trigger_priority (omega arith)), (word_written verbs.Define kinds.Local keys.TrigType (texts.trigger_word q.trigger_type) (settings.TriggerType q.trigger_type) (record { known = refl; word = (refl, refl); whole = refl }) (trigger_word q.trigger_type).well (trigger_word q.trigger_type).whole (ap (reads.set_to settings.TriggerType) (trigger_given q.trigger_type)), (word_written verbs.Define kinds.Local keys.Usage (texts.usage_word q.usage) (settings.Usage q.usage) (record { known = refl; word = (refl, refl); whole = refl }) (usage_word q.usage).well (usage_word q.usage).whole (ap (reads.set_to settings.Usage) (usage_given q.usage)), tt)))))))))))))))

local_can : (t : Bool) (b : ℕ) (bs : List ℕ) (q : LocalQueue) → IsLocalText q → CanDefine (subjects.Local (b ∷ bs)) nouns.Local kinds.Local (local_clauses t q)
local_can true b bs q h = can_define (subjects.Local (b ∷ bs)) nouns.Local kinds.Local (local_clauses true q) refl (local_written true q h) tt refl (refl, refl) refl (refl, refl) refl refl refl refl
local_can false b bs q h = can_define (subjects.Local (b ∷ bs)) nouns.Local kinds.Local (local_clauses false q) refl (local_written false q h) tt refl (refl, refl) refl (refl, refl) refl refl refl refl

local_may_keep : (t : Bool) (q : LocalQueue) (ks : List KeptAttribute) (k : AreKeptTexts (kept_keys kinds.Local) ks) → CanKeep nouns.Local kinds.Local (local_clauses t q) (kept_clauses (kept_keys kinds.Local) ks k) (kept_keys kinds.Local)
local_may_keep true q ks k = record { table = local_kept; is_kind = refl; needed = tt; clear = refl; replace = refl; noreplace = refl }
local_may_keep false q ks k = record { table = local_kept; is_kind = refl; needed = tt; clear = refl; replace = refl; noreplace = refl }

local_by : (t : Bool) (b : ℕ) (bs : List ℕ) (q : LocalQueue) (ks : List KeptAttribute) (k : AreKeptTexts (kept_keys kinds.Local) ks) → IsName 48 (b ∷ bs) → IsLocalText q → change_in Sets (change_text (changes.Set (objects.Local (record q { name = b ∷ bs; kept = ks; trigger = t })))) ≡ Some (changes.Set (objects.Local (record q { name = b ∷ bs; kept = ks; trigger = t })))
local_by t b bs q ks k name h =
    ap (change_in Sets) (ap (λ (t : List ℕ). codes "DEFINE QLOCAL(" ++ t) (define_same (b ∷ bs) (texts.local_attributes (record q { name = b ∷ bs; kept = ks; trigger = t })) ks (local_clauses t q) (kept_clauses (kept_keys kinds.Local) ks k) (refl, (refl, (refl, (ap (λ (d : List ℕ). codes " " ++ texts.in_brackets (codes "INITQ") (codes "'" ++ d ++ codes "'")) (doubled_same q.initiation_queue), (refl, (refl, (refl, (ap (λ (d : List ℕ). codes " " ++ texts.in_brackets (codes "PROCESS") (codes "'" ++ d ++ codes "'")) (doubled_same q.process), (refl, (ap (λ (d : List ℕ). codes " " ++ texts.in_brackets (codes "TRIGDATA") (codes "'" ++ d ++ codes "'")) (doubled_same q.trigger_data), (refl, (trigger_same t, (refl, (refl, (refl, tt))))))))))))))) (kept_text verbs.Define kinds.Local (kept_keys kinds.Local) ks k local_kept)))
    ∙ define_keeps (subjects.Local (b ∷ bs)) nouns.Local kinds.Local 48 b bs (local_clauses t q) (kept_keys kinds.Local) ks k name (ap (λ r. option_map subjects.Local (reads.name_or_none r)) (name_read 48 b bs name)) ((tokens.Quoted (b ∷ bs), refl, refl), name_unblank 48 b bs name) (local_can t b bs q h) (local_may_keep t q ks k)
    ∙ ap (λ (o : Object). Some (changes.Set o)) (local_keeps (kept_keys kinds.Local) ks (record q { name = b ∷ bs; kept = []; trigger = t }) k refl)

alias_named : (n : List ℕ) (q : AliasQueue) → IsName 48 n → 0 < length n → IsAliasText q → change_in Sets (change_text (changes.Set (objects.Alias (record q { name = n })))) ≡ Some (changes.Set (objects.Alias (record q { name = n })))
alias_named [] q name some h = absurd (omega (arith, some))
alias_named (b ∷ bs) q name some h = alias_by b bs q q.kept h.kept_are name h

pub alias_read : (q : AliasQueue) → IsAliasText q → change_in Sets (change_text (changes.Set (objects.Alias q))) ≡ Some (changes.Set (objects.Alias q))
alias_read q h = alias_named q.name q h.name h.some h

remote_named : (n : List ℕ) (q : RemoteQueue) → IsName 48 n → 0 < length n → IsRemoteText q → change_in Sets (change_text (changes.Set (objects.Remote (record q { name = n })))) ≡ Some (changes.Set (objects.Remote (record q { name = n })))
remote_named [] q name some h = absurd (omega (arith, some))
remote_named (b ∷ bs) q name some h = remote_by b bs q q.kept h.kept_are name h

pub remote_read : (q : RemoteQueue) → IsRemoteText q → change_in Sets (change_text (changes.Set (objects.Remote q))) ≡ Some (changes.Set (objects.Remote q))
remote_read q h = remote_named q.name q h.name h.some h

local_named : (n : List ℕ) (t : Bool) (q : LocalQueue) → IsName 48 n → 0 < length n → IsLocalText q → change_in Sets (change_text (changes.Set (objects.Local (record q { name = n; trigger = t })))) ≡ Some (changes.Set (objects.Local (record q { name = n; trigger = t })))
local_named [] t q name some h = absurd (omega (arith, some))
local_named (b ∷ bs) t q name some h = local_by t b bs q q.kept h.kept_are name h

pub local_read : (q : LocalQueue) → IsLocalText q → change_in Sets (change_text (changes.Set (objects.Local q))) ≡ Some (changes.Set (objects.Local q))
local_read q h = local_named q.name q.trigger q h.name h.some h

abbrev process_clauses : Process → List Written
process_clauses q = record { clause = record { key = keys.ApplicId; value = Some q.appl_id }; in_quotes = true; setting = settings.ApplId q.appl_id } ∷ record { clause = record { key = keys.ApplType; value = Some (decimal q.appl_type) }; in_quotes = false; setting = settings.ApplType q.appl_type } ∷ record { clause = record { key = keys.EnvrData; value = Some q.environment_data }; in_quotes = true; setting = settings.EnvironmentData q.environment_data } ∷ record { clause = record { key = keys.UserData; value = Some q.user_data }; in_quotes = true; setting = settings.UserData q.user_data } ∷ []

process_can : (b : ℕ) (bs : List ℕ) (q : Process) → IsProcessText q → CanDefine (subjects.Process (b ∷ bs)) nouns.Process kinds.Process (process_clauses q)
process_can b bs q h =
    can_define (subjects.Process (b ∷ bs)) nouns.Process kinds.Process (process_clauses q) refl (text_written verbs.Define kinds.Process keys.ApplicId 256 q.appl_id settings.ApplId (record { known = refl; word = (refl, refl); whole = refl }) refl h.appl_id.0 h.appl_id.1, (appl_written q.appl_type (record { known = refl; word = (refl, refl); whole = refl }) h.appl_type, (text_written verbs.Define kinds.Process keys.EnvrData 128 q.environment_data settings.EnvironmentData (record { known = refl; word = (refl, refl); whole = refl }) refl h.environment_data.0 h.environment_data.1, (text_written verbs.Define kinds.Process keys.UserData 128 q.user_data settings.UserData (record { known = refl; word = (refl, refl); whole = refl }) refl h.user_data.0 h.user_data.1, tt)))) tt refl (refl, refl) refl (refl, refl) refl refl refl refl

process_by : (b : ℕ) (bs : List ℕ) (q : Process) (ks : List KeptAttribute) (k : AreKeptTexts (kept_keys kinds.Process) ks) → IsName 48 (b ∷ bs) → IsProcessText q → change_in Sets (change_text (changes.Set (objects.Process (record q { name = b ∷ bs; kept = ks })))) ≡ Some (changes.Set (objects.Process (record q { name = b ∷ bs; kept = ks })))
process_by b bs q ks k name h =
    ap (change_in Sets) (ap (λ (t : List ℕ). codes "DEFINE PROCESS(" ++ t) (define_same (b ∷ bs) (texts.process_attributes (record q { name = b ∷ bs; kept = ks })) ks (process_clauses q) (kept_clauses (kept_keys kinds.Process) ks k) (ap (λ (d : List ℕ). codes " " ++ texts.in_brackets (codes "APPLICID") (codes "'" ++ d ++ codes "'")) (doubled_same q.appl_id), (refl, (ap (λ (d : List ℕ). codes " " ++ texts.in_brackets (codes "ENVRDATA") (codes "'" ++ d ++ codes "'")) (doubled_same q.environment_data), (ap (λ (d : List ℕ). codes " " ++ texts.in_brackets (codes "USERDATA") (codes "'" ++ d ++ codes "'")) (doubled_same q.user_data), tt)))) (kept_text verbs.Define kinds.Process (kept_keys kinds.Process) ks k process_kept)))
    ∙ define_keeps (subjects.Process (b ∷ bs)) nouns.Process kinds.Process 48 b bs (process_clauses q) (kept_keys kinds.Process) ks k name (ap (λ r. option_map subjects.Process (reads.name_or_none r)) (name_read 48 b bs name)) ((tokens.Quoted (b ∷ bs), refl, refl), name_unblank 48 b bs name) (process_can b bs q h) (record { table = process_kept; is_kind = refl; needed = tt; clear = refl; replace = refl; noreplace = refl })
    ∙ ap (λ (o : Object). Some (changes.Set o)) (process_keeps (kept_keys kinds.Process) ks (record q { name = b ∷ bs; kept = [] }) k refl)

process_named : (n : List ℕ) (q : Process) → IsName 48 n → 0 < length n → IsProcessText q → change_in Sets (change_text (changes.Set (objects.Process (record q { name = n })))) ≡ Some (changes.Set (objects.Process (record q { name = n })))
process_named [] q name some h = absurd (omega (arith, some))
process_named (b ∷ bs) q name some h = process_by b bs q q.kept h.kept_are name h

pub process_read : (q : Process) → IsProcessText q → change_in Sets (change_text (changes.Set (objects.Process q))) ≡ Some (changes.Set (objects.Process q))
process_read q h = process_named q.name q h.name h.some h

-- ---- channels

abbrev sender_clauses : ℕ → ℕ → ℕ → List ℕ → Bool → List Written
sender_clauses batch retry wrap xmitq fast = record { clause = record { key = keys.ChlType; value = Some (codes "SDR") }; in_quotes = false; setting = settings.ChannelType types.Sender } ∷ record { clause = record { key = keys.BatchSz; value = Some (decimal batch) }; in_quotes = false; setting = settings.BatchSize batch } ∷ record { clause = record { key = keys.SeqWrap; value = Some (decimal wrap) }; in_quotes = false; setting = settings.SequenceWrap wrap } ∷ record { clause = record { key = keys.ShortRty; value = Some (decimal retry) }; in_quotes = false; setting = settings.ShortRetry retry } ∷ record { clause = record { key = keys.XmitQ; value = Some xmitq }; in_quotes = true; setting = settings.TransmissionQueue xmitq } ∷ record { clause = record { key = keys.NpmSpeed; value = Some (texts.speed_word fast) }; in_quotes = false; setting = settings.Fast fast } ∷ []

sender_can : (b : ℕ) (bs : List ℕ) (batch retry wrap : ℕ) (xmitq : List ℕ) (fast : Bool) → IsSenderText batch retry wrap xmitq → CanDefine (subjects.Channel (b ∷ bs)) nouns.Channel kinds.Sender (sender_clauses batch retry wrap xmitq fast)
sender_can b bs batch retry wrap xmitq fast h =
    can_define (subjects.Channel (b ∷ bs)) nouns.Channel kinds.Sender (sender_clauses batch retry wrap xmitq fast) (inl refl) (word_written verbs.Define kinds.Sender keys.ChlType (codes "SDR") (settings.ChannelType types.Sender) (record { known = refl; word = (refl, refl); whole = refl }) (refl, refl) refl refl, (number_written verbs.Define kinds.Sender keys.BatchSz 1 9999 batch settings.BatchSize (record { known = refl; word = (refl, refl); whole = refl }) refl h.batch.0 h.batch.1 (below batch 9999 h.batch.1 (omega arith)), (number_written verbs.Define kinds.Sender keys.SeqWrap 100 999999999 wrap settings.SequenceWrap (record { known = refl; word = (refl, refl); whole = refl }) refl h.wrap.0 h.wrap.1 (below wrap 999999999 h.wrap.1 (omega arith)), (number_written verbs.Define kinds.Sender keys.ShortRty 0 999999999 retry settings.ShortRetry (record { known = refl; word = (refl, refl); whole = refl }) refl (omega arith) h.retry (below retry 999999999 h.retry (omega arith)), (name_written verbs.Define kinds.Sender keys.XmitQ xmitq settings.TransmissionQueue (record { known = refl; word = (refl, refl); whole = refl }) refl h.xmitq, (word_written verbs.Define kinds.Sender keys.NpmSpeed (texts.speed_word fast) (settings.Fast fast) (record { known = refl; word = (refl, refl); whole = refl }) (speed_word fast).well (speed_word fast).whole (ap (reads.set_to settings.Fast) (speed_given fast)), tt)))))) (key_there keys.XmitQ (keys_of (clauses_of (sender_clauses batch retry wrap xmitq fast))) refl) refl (refl, refl) refl (refl, refl) refl refl refl refl

sender_by : (b : ℕ) (bs : List ℕ) (batch retry wrap : ℕ) (xmitq : List ℕ) (fast : Bool) (ks : List KeptAttribute) (k : AreKeptTexts (kept_keys kinds.Channel) ks) → IsName 20 (b ∷ bs) → IsSenderText batch retry wrap xmitq → change_in Sets (change_text (changes.Set (objects.Channel (record { name = b ∷ bs; kind = channels.Sender batch retry xmitq; sequence_wrap = wrap; fast = fast; kept = ks })))) ≡ Some (changes.Set (objects.Channel (record { name = b ∷ bs; kind = channels.Sender batch retry xmitq; sequence_wrap = wrap; fast = fast; kept = ks })))
sender_by b bs batch retry wrap xmitq fast ks k name h =
    ap (change_in Sets) (ap (λ (t : List ℕ). codes "DEFINE CHANNEL(" ++ t) (define_same (b ∷ bs) (texts.channel_attributes (channels.Sender batch retry xmitq) wrap fast) ks (sender_clauses batch retry wrap xmitq fast) (kept_clauses (kept_keys kinds.Channel) ks k) (refl, (refl, (refl, (refl, (ap (λ (d : List ℕ). codes " " ++ texts.in_brackets (codes "XMITQ") (codes "'" ++ d ++ codes "'")) (doubled_same xmitq), (refl, tt)))))) (kept_text verbs.Define kinds.Sender (kept_keys kinds.Channel) ks k sender_kept)))
    ∙ define_keeps (subjects.Channel (b ∷ bs)) nouns.Channel kinds.Sender 20 b bs (sender_clauses batch retry wrap xmitq fast) (kept_keys kinds.Channel) ks k name (ap (λ r. option_map subjects.Channel (reads.name_or_none r)) (name_read 20 b bs name)) ((tokens.Quoted (b ∷ bs), refl, refl), name_unblank 20 b bs name) (sender_can b bs batch retry wrap xmitq fast h) (record { table = sender_kept; is_kind = inl refl; needed = key_there keys.XmitQ (keys_of (clauses_of ((sender_clauses batch retry wrap xmitq fast) ++ kept_clauses (kept_keys kinds.Channel) ks k))) refl; clear = refl; replace = refl; noreplace = refl })
    ∙ ap (λ (o : Object). Some (changes.Set o)) (channel_keeps (kept_keys kinds.Channel) ks (record { name = b ∷ bs; kind = channels.Sender batch retry xmitq; sequence_wrap = wrap; fast = fast; kept = [] }) k refl)

abbrev receiver_clauses : ℕ → Bool → Bool → List Written
receiver_clauses wrap dead fast = record { clause = record { key = keys.ChlType; value = Some (codes "RCVR") }; in_quotes = false; setting = settings.ChannelType types.Receiver } ∷ record { clause = record { key = keys.UseDlq; value = Some (texts.yes_or_no dead) }; in_quotes = false; setting = settings.UseDeadLetterQueue dead } ∷ record { clause = record { key = keys.SeqWrap; value = Some (decimal wrap) }; in_quotes = false; setting = settings.SequenceWrap wrap } ∷ record { clause = record { key = keys.NpmSpeed; value = Some (texts.speed_word fast) }; in_quotes = false; setting = settings.Fast fast } ∷ []

receiver_can : (b : ℕ) (bs : List ℕ) (wrap : ℕ) (dead fast : Bool) → IsReceiverText wrap → CanDefine (subjects.Channel (b ∷ bs)) nouns.Channel kinds.Receiver (receiver_clauses wrap dead fast)
receiver_can b bs wrap dead fast h =
    can_define (subjects.Channel (b ∷ bs)) nouns.Channel kinds.Receiver (receiver_clauses wrap dead fast) (inl refl) (word_written verbs.Define kinds.Receiver keys.ChlType (codes "RCVR") (settings.ChannelType types.Receiver) (record { known = refl; word = (refl, refl); whole = refl }) (refl, refl) refl refl, (word_written verbs.Define kinds.Receiver keys.UseDlq (texts.yes_or_no dead) (settings.UseDeadLetterQueue dead) (record { known = refl; word = (refl, refl); whole = refl }) (yes_word dead).well (yes_word dead).whole (ap (reads.set_to settings.UseDeadLetterQueue) (yes_given dead)), (number_written verbs.Define kinds.Receiver keys.SeqWrap 100 999999999 wrap settings.SequenceWrap (record { known = refl; word = (refl, refl); whole = refl }) refl h.wrap.0 h.wrap.1 (below wrap 999999999 h.wrap.1 (omega arith)), (word_written verbs.Define kinds.Receiver keys.NpmSpeed (texts.speed_word fast) (settings.Fast fast) (record { known = refl; word = (refl, refl); whole = refl }) (speed_word fast).well (speed_word fast).whole (ap (reads.set_to settings.Fast) (speed_given fast)), tt)))) tt refl (refl, refl) refl (refl, refl) refl refl refl refl

receiver_by : (b : ℕ) (bs : List ℕ) (wrap : ℕ) (dead fast : Bool) (ks : List KeptAttribute) (k : AreKeptTexts (kept_keys kinds.Channel) ks) → IsName 20 (b ∷ bs) → IsReceiverText wrap → change_in Sets (change_text (changes.Set (objects.Channel (record { name = b ∷ bs; kind = channels.Receiver dead; sequence_wrap = wrap; fast = fast; kept = ks })))) ≡ Some (changes.Set (objects.Channel (record { name = b ∷ bs; kind = channels.Receiver dead; sequence_wrap = wrap; fast = fast; kept = ks })))
receiver_by b bs wrap dead fast ks k name h =
    ap (change_in Sets) (ap (λ (t : List ℕ). codes "DEFINE CHANNEL(" ++ t) (define_same (b ∷ bs) (texts.channel_attributes (channels.Receiver dead) wrap fast) ks (receiver_clauses wrap dead fast) (kept_clauses (kept_keys kinds.Channel) ks k) (refl, (refl, (refl, (refl, tt)))) (kept_text verbs.Define kinds.Receiver (kept_keys kinds.Channel) ks k receiver_kept)))
    ∙ define_keeps (subjects.Channel (b ∷ bs)) nouns.Channel kinds.Receiver 20 b bs (receiver_clauses wrap dead fast) (kept_keys kinds.Channel) ks k name (ap (λ r. option_map subjects.Channel (reads.name_or_none r)) (name_read 20 b bs name)) ((tokens.Quoted (b ∷ bs), refl, refl), name_unblank 20 b bs name) (receiver_can b bs wrap dead fast h) (record { table = receiver_kept; is_kind = inl refl; needed = tt; clear = refl; replace = refl; noreplace = refl })
    ∙ ap (λ (o : Object). Some (changes.Set o)) (channel_keeps (kept_keys kinds.Channel) ks (record { name = b ∷ bs; kind = channels.Receiver dead; sequence_wrap = wrap; fast = fast; kept = [] }) k refl)

channel_named : (n : List ℕ) (kind : ChannelKind) (ks : List KeptAttribute) (k : AreKeptTexts (kept_keys kinds.Channel) ks) (wrap : ℕ) (fast : Bool) → IsName 20 n → 0 < length n → IsKindText kind wrap
    → change_in Sets (change_text (changes.Set (objects.Channel (record { name = n; kind = kind; sequence_wrap = wrap; fast = fast; kept = ks })))) ≡ Some (changes.Set (objects.Channel (record { name = n; kind = kind; sequence_wrap = wrap; fast = fast; kept = ks })))
channel_named [] kind ks k wrap fast name some h = absurd (omega (arith, some))
channel_named (b ∷ bs) (channels.Sender batch retry xmitq) ks k wrap fast name some h = sender_by b bs batch retry wrap xmitq fast ks k name h
channel_named (b ∷ bs) (channels.Receiver dead) ks k wrap fast name some h = receiver_by b bs wrap dead fast ks k name h

pub channel_read : (c : Channel) → IsChannelText c → change_in Sets (change_text (changes.Set (objects.Channel c))) ≡ Some (changes.Set (objects.Channel c))
channel_read c h = channel_named c.name c.kind c.kept h.kept_are c.sequence_wrap c.fast h.name h.some h.kind
