-- What DISPLAY shows of an object, and the rules of the keyword tables: who defines an object of a kind may name what DISPLAY shows of
-- it, what is kept without effect, and nothing else.
use Rattle.std.specs.Prelude.{◌≡◌, ℕ, Bool, true, false, not, ◌||◌, Option, Some, None, List, [], ◌∷◌, codes, is_some}
use Rattle.std.specs.List.{list_all, list_any}
use Rattle.std.specs.Str.{bytes_eq}
use Rattle.mq_objects.specs.declared.setting.Keyword.{Keyword}
use Rattle.mq_objects.specs.declared.setting.Keyword.TheVariants as words
use Rattle.mq_objects.specs.Attributes.{Attribute, same_keyword}
use Rattle.mq_sc_keys.specs.declared.keys.Key.{Key}
use Rattle.mq_sc_keys.specs.declared.keys.Key.TheVariants as keys
use Rattle.mq_sc_keys.specs.declared.verbs.Verb.TheVariants as verbs
use Rattle.mq_sc_keys.specs.declared.attributes.Kind.{Kind}
use Rattle.mq_sc_keys.specs.declared.attributes.Kind.TheVariants as kinds
use Rattle.mq_sc_keys.specs.Keys.{key_text, key_in, group_of}
use Rattle.mq_sc_keys.specs.Attributes.{attributes_of, key_of}

-- what DISPLAY shows for a keyword: an attribute without effect is not shown
abbrev pub keyword_of : Key → Keyword
keyword_of keys.DefPrty = words.DefPrty
keyword_of keys.DefPsist = words.DefPsist
keyword_of keys.Get = words.Get
keyword_of keys.InitQ = words.InitQ
keyword_of keys.MaxDepth = words.MaxDepth
keyword_of keys.MaxMsgL = words.MaxMsgL
keyword_of keys.MsgDlvSq = words.MsgDlvSq
keyword_of keys.Process = words.Process
keyword_of keys.Put = words.Put
keyword_of keys.TrigData = words.TrigData
keyword_of keys.TrigDpth = words.TrigDpth
keyword_of keys.Trigger = words.Trigger
keyword_of keys.NoTrigger = words.Trigger
keyword_of keys.TrigMPri = words.TrigMPri
keyword_of keys.TrigType = words.TrigType
keyword_of keys.Usage = words.Usage
keyword_of keys.Target = words.Target
keyword_of keys.TargQ = words.Target
keyword_of keys.RName = words.RName
keyword_of keys.RQMName = words.RQMName
keyword_of keys.XmitQ = words.XmitQ
keyword_of keys.ChlType = words.ChlType
keyword_of keys.BatchSz = words.BatchSz
keyword_of keys.SeqWrap = words.SeqWrap
keyword_of keys.ShortRty = words.ShortRty
keyword_of keys.UseDlq = words.UseDlq
keyword_of keys.NpmSpeed = words.NpmSpeed
keyword_of keys.ApplicId = words.ApplicId
keyword_of keys.ApplType = words.ApplType
keyword_of keys.EnvrData = words.EnvrData
keyword_of keys.UserData = words.UserData
keyword_of keys.DeadQ = words.DeadQ
keyword_of keys.DefXmitQ = words.DefXmitQ
keyword_of keys.MaxHands = words.MaxHands
keyword_of keys.MaxUMsgs = words.MaxUMsgs
keyword_of keys.TrigInt = words.TrigInt
keyword_of keys.MaxPrty = words.MaxPrty
keyword_of keys.CurDepth = words.CurDepth
keyword_of _ = words.Kept

-- Kept without effect, and never shown: DESCR of every object, more of local queues and of channels.
abbrev pub kept_of_channels : List (List ℕ)
kept_of_channels =
    codes "DESCR" ∷ codes "CONNAME" ∷ codes "TRPTYPE" ∷ codes "DISCINT" ∷ codes "HBINT" ∷ codes "BATCHINT" ∷ codes "LONGRTY" ∷ codes "LONGTMR" ∷ codes "SHORTTMR" ∷ codes "MAXMSGL" ∷ []

abbrev pub kept_words : Kind → List (List ℕ)
kept_words kinds.Local =
    codes "DESCR" ∷ codes "SHARE" ∷ codes "NOSHARE" ∷ codes "DEFSOPT" ∷ codes "BOTHRESH" ∷ codes "BOQNAME" ∷ codes "HARDENBO" ∷ codes "NOHARDENBO" ∷ codes "QDEPTHHI" ∷ codes "QDEPTHLO" ∷ []
kept_words kinds.Channel = kept_of_channels
kept_words kinds.Sender = kept_of_channels
kept_words kinds.Receiver = kept_of_channels
kept_words _ = codes "DESCR" ∷ []

-- ---- what is shown may be named

abbrev pub means : Keyword → Option Key → Bool
means keyword None = false
means keyword (Some key) = same_keyword keyword (keyword_of key)

-- a command that defines an object of this kind knows the attribute's word, as that attribute
abbrev pub is_known : Kind → Attribute → Bool
is_known kind a = means a.keyword (key_of verbs.Define kind a.word)

abbrev pub AllKnown : Kind → List Attribute → Type 0
AllKnown kind attributes = list_all (is_known kind) attributes ≡ true

-- ---- what may be named is shown or kept

abbrev pub is_shown : List Attribute → Key → Bool
is_shown attributes key = list_any (λ (a : Attribute). same_keyword a.keyword (keyword_of key)) attributes

abbrev pub is_kept : Kind → Key → Bool
is_kept kind key = list_any (bytes_eq (key_text key)) (kept_words kind)

abbrev pub knows : List Key → List ℕ → Bool
knows table word = is_some (key_in table word)

abbrev pub is_in : List Key → Key → Bool
is_in table key = knows table (key_text key)

-- the keywords that are another one's opposite or other spelling
abbrev pub other_spellings : List Key
other_spellings = keys.NoTrigger ∷ keys.TargQ ∷ keys.NoShare ∷ keys.NoHardenBo ∷ keys.NoReplace ∷ []

-- a table that has a keyword has its other spelling
abbrev pub goes_along : List Key → Key → Bool
goes_along table other = not (is_in table (group_of other)) || is_in table other

-- each keyword is one that is shown or kept; each that is kept is a keyword, and so is each other spelling of one
pub record NoneElse (kind : Kind) (attributes : List Attribute) : Type 0 where
  pub named : list_all (λ (key : Key). is_shown attributes key || is_kept kind key) (attributes_of kind) ≡ true
  pub kept : list_all (knows (attributes_of kind)) (kept_words kind) ≡ true
  pub spelled : list_all (goes_along (attributes_of kind)) other_spellings ≡ true

-- ---- tables of several kinds

abbrev pub in_one_of : List (List Key) → Key → Bool
in_one_of tables key = list_any (λ (table : List Key). is_in table key) tables

-- the keywords of all these tables, and no more
pub record AreAllOf (tables : List (List Key)) (all : List Key) : Type 0 where
  pub each : list_all (in_one_of tables) all ≡ true
  pub every : list_all (λ (table : List Key). list_all (is_in all) table) tables ≡ true
