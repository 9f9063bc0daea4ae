-- The keywords of commands: how each is written, and which exclude one another.
use Rattle.std.specs.Prelude.{ℕ, List, [], Option, codes, find}
use Rattle.std.specs.Str.{bytes_eq}
use Rattle.mq_sc_keys.specs.declared.keys.Key.{Key}
use Rattle.mq_sc_keys.specs.declared.keys.Key.TheVariants as keys

-- an attribute without effect, or an option of a command
abbrev pub text_without_effect : Key → List ℕ
text_without_effect keys.Descr = codes "DESCR"
text_without_effect keys.Share = codes "SHARE"
text_without_effect keys.NoShare = codes "NOSHARE"
text_without_effect keys.DefSOpt = codes "DEFSOPT"
text_without_effect keys.BoThresh = codes "BOTHRESH"
text_without_effect keys.BoQName = codes "BOQNAME"
text_without_effect keys.HardenBo = codes "HARDENBO"
text_without_effect keys.NoHardenBo = codes "NOHARDENBO"
text_without_effect keys.QDepthHi = codes "QDEPTHHI"
text_without_effect keys.QDepthLo = codes "QDEPTHLO"
text_without_effect keys.ConName = codes "CONNAME"
text_without_effect keys.TrpType = codes "TRPTYPE"
text_without_effect keys.DiscInt = codes "DISCINT"
text_without_effect keys.HbInt = codes "HBINT"
text_without_effect keys.BatchInt = codes "BATCHINT"
text_without_effect keys.LongRty = codes "LONGRTY"
text_without_effect keys.LongTmr = codes "LONGTMR"
text_without_effect keys.ShortTmr = codes "SHORTTMR"
text_without_effect keys.Replace = codes "REPLACE"
text_without_effect keys.NoReplace = codes "NOREPLACE"
text_without_effect keys.Force = codes "FORCE"
text_without_effect keys.All = codes "ALL"
text_without_effect keys.SeqNum = codes "SEQNUM"
text_without_effect keys.Action = codes "ACTION"
text_without_effect _ = []

-- an attribute of channels, processes and the manager, or what only DISPLAY shows
abbrev pub text_beside_queues : Key → List ℕ
text_beside_queues keys.ChlType = codes "CHLTYPE"
text_beside_queues keys.BatchSz = codes "BATCHSZ"
text_beside_queues keys.SeqWrap = codes "SEQWRAP"
text_beside_queues keys.ShortRty = codes "SHORTRTY"
text_beside_queues keys.UseDlq = codes "USEDLQ"
text_beside_queues keys.NpmSpeed = codes "NPMSPEED"
text_beside_queues keys.ApplicId = codes "APPLICID"
text_beside_queues keys.ApplType = codes "APPLTYPE"
text_beside_queues keys.EnvrData = codes "ENVRDATA"
text_beside_queues keys.UserData = codes "USERDATA"
text_beside_queues keys.DeadQ = codes "DEADQ"
text_beside_queues keys.DefXmitQ = codes "DEFXMITQ"
text_beside_queues keys.MaxHands = codes "MAXHANDS"
text_beside_queues keys.MaxUMsgs = codes "MAXUMSGS"
text_beside_queues keys.TrigInt = codes "TRIGINT"
text_beside_queues keys.MaxPrty = codes "MAXPRTY"
text_beside_queues keys.CurDepth = codes "CURDEPTH"
text_beside_queues key = text_without_effect key

-- how a keyword is written
abbrev pub key_text : Key → List ℕ
key_text keys.DefPrty = codes "DEFPRTY"
key_text keys.DefPsist = codes "DEFPSIST"
key_text keys.Get = codes "GET"
key_text keys.InitQ = codes "INITQ"
key_text keys.MaxDepth = codes "MAXDEPTH"
key_text keys.MaxMsgL = codes "MAXMSGL"
key_text keys.MsgDlvSq = codes "MSGDLVSQ"
key_text keys.Process = codes "PROCESS"
key_text keys.Put = codes "PUT"
key_text keys.TrigData = codes "TRIGDATA"
key_text keys.TrigDpth = codes "TRIGDPTH"
key_text keys.Trigger = codes "TRIGGER"
key_text keys.NoTrigger = codes "NOTRIGGER"
key_text keys.TrigMPri = codes "TRIGMPRI"
key_text keys.TrigType = codes "TRIGTYPE"
key_text keys.Usage = codes "USAGE"
key_text keys.Target = codes "TARGET"
key_text keys.TargQ = codes "TARGQ"
key_text keys.RName = codes "RNAME"
key_text keys.RQMName = codes "RQMNAME"
key_text keys.XmitQ = codes "XMITQ"
key_text key = text_beside_queues key

-- a keyword and its opposite, or its other spelling, count as one
abbrev pub group_of : Key → Key
group_of keys.NoTrigger = keys.Trigger
group_of keys.TargQ = keys.Target
group_of keys.NoShare = keys.Share
group_of keys.NoHardenBo = keys.HardenBo
group_of keys.NoReplace = keys.Replace
group_of other = other

-- the first of these keywords that is written so
unfoldable pub key_in : List Key → List ℕ → Option Key
key_in table word = find (λ k. bytes_eq (key_text k) word) table
