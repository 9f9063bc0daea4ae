-- What is noted of an end stays noted, whatever the other end of its channel does.
use Rattle.std.proofs.Common.{ℕ, ◌≡◌, List, ap, subst, ◌∙◌, inl, inr}
use Rattle.std.specs.Prelude.{Some, slice_get}
use Rattle.mq_frame.specs.declared.frame.Frame.{Frame}
use Rattle.mq_sync.specs.declared.data.ReceiverData.{ReceiverData}
use Rattle.mq_sync.specs.declared.data.SenderData.{SenderData}
use Rattle.mq_sender.specs.declared.state.Sender.{Sender}
use Rattle.mq_receiver.specs.declared.state.Receiver.{Receiver}
use Rattle.mq_history.specs.declared.scenario.CableLine.{CableLine}
use Rattle.mq_history.specs.declared.scenario.Scenario.{Scenario}
use Rattle.mq_calls.specs.State.{Noted, Plain}
use Rattle.mq_spec_network.specs.Conflict.{Deed as ToldDeed}
use Rattle.mq_spec_network.specs.Ledger as ledgers
use Rattle.mq_spec_network.specs.Story.{Mem}
use Rattle.mq_law_channel.specs.Facts.{Letter}
use Rattle.mq_law_channel.specs.Channel.{Channel}
use Rattle.mq_law_node.specs.Ends.{told_receives, told_sends}
use Rattle.mq_law_node.specs.Moves.{FarStep, NearStep}
use Rattle.mq_law_node.specs.Nodes.{SameFar, SameNear}
use Rattle.mq_law_node.proofs.Pairs.{far_may_same, far_step_same, near_may_same, near_step_same, same_far_is, same_near_is}
use Rattle.mq_law_stopped.specs.Noted.{CommitNote, EndNote, ReceiverNote, SenderKind, SenderNote}
use Rattle.mq_law_stopped.specs.Noted.SenderKind.{Begins, Numbers, Prepares, Resolves, Settles}
use Rattle.mq_law_stopped.specs.Noted.EndNote.{Commits, Far, Near}

-- a channel with another far half, and with another near half
abbrev with_far : ReceiverData → Receiver → List Letter → List Frame → Channel → Channel
with_far a b k o x = record x { receives = a; receiver = b; kept = k; back = o }

abbrev with_near : SenderData → Sender → List Letter → List Frame → Channel → Channel
with_near a b k o x = record x { sends = a; sender = b; batch = k; out = o }

kind_stays : (c : List ℕ) (b : Plain) (note : Noted) (step : NearStep) (a : ReceiverData) (r : Receiver) (k : List Letter) (o : List Frame) (x : Channel) → SenderKind c b note x step → SenderKind c b note (with_far a r k o x) step
kind_stays c b note way a r k o x (Begins t partner session is turn says) = Begins t partner session is (record { done = turn.done; does = turn.does }) says
kind_stays c b note way a r k o x (Prepares t batch last is turn found says) = Prepares t batch last is (record { done = turn.done; does = turn.does }) found says
kind_stays c b note way a r k o x (Settles t d commit is turn so free says) = Settles t d commit is (record { done = turn.done; does = turn.does }) so free says
kind_stays c b note way a r k o x (Resolves settle d is free says told rows) = Resolves settle d is free says told rows
kind_stays c b note way a r k o x (Numbers last is says) = Numbers last is says

sender_stays : (c : List ℕ) (b : Plain) (note : Noted) (x d : Channel) → SameNear x d → ((f : Frame) → Mem f x.back → Mem f d.back) → SenderNote c b note x → SenderNote c b note d
sender_stays c b note x d same among h = subst (λ (z : Channel). SenderNote c b note z) (same_near_is x d same) (record {
  step = h.step;
  may = near_may_same h.step d.receives d.receiver d.kept d.back x among h.may;
  data_ = ap told_sends (near_step_same h.step d.receives d.receiver d.kept d.back x).0 ∙ h.data_;
  out = (near_step_same h.step d.receives d.receiver d.kept d.back x).1 ∙ h.out;
  kind = kind_stays c b note h.step d.receives d.receiver d.kept d.back x h.kind;
  quiet = h.quiet;
})

receiver_stays : (c : List ℕ) (b : Plain) (note : Noted) (x d : Channel) → SameFar x d → ((f : Frame) → Mem f x.out → Mem f d.out) → ReceiverNote c b note x → ReceiverNote c b note d
receiver_stays c b note x d same among h = subst (λ (z : Channel). ReceiverNote c b note z) (same_far_is x d same) (record {
  step = h.step;
  may = far_may_same h.step d.sends d.sender d.batch d.out x among h.may;
  data_ = ap told_receives (far_step_same h.step d.sends d.sender d.batch d.out x).0 ∙ h.data_;
  back = (far_step_same h.step d.sends d.sender d.batch d.out x).1 ∙ h.back;
  unit = ap (λ (r : ReceiverData). r.unit) (far_step_same h.step d.sends d.sender d.batch d.out x).0 ∙ h.unit;
  calm = λ t u e f g. h.calm t u e f g;
  word = h.word;
  is = h.is;
  says = h.says;
  quiet = h.quiet;
})

commit_stays : (ds es : List ToldDeed) (m : ℕ) (c : List ℕ) (st : ledgers.Stopped) (b : Plain) (note : Noted) (x d : Channel) → SameFar x d → ((f : Frame) → Mem f x.out → Mem f d.out) → ((o : ToldDeed) → Mem o ds → Mem o es) → CommitNote ds m c st note b x → CommitNote es m c st note b d
commit_stays ds es m c st b note x d same among told h = subst (λ (z : Channel). CommitNote es m c st note b z) (same_far_is x d same) (record {
  was = h.was;
  turn = h.turn;
  part = h.part;
  force = h.force;
  commits = record { unit = h.commits.unit; last = h.commits.last; land = h.commits.land; ran = h.commits.ran; does = h.commits.does; lands = h.commits.lands; part_ = h.commits.part_; record_ = h.commits.record_ };
  is = h.is;
  may = far_may_same (FarStep.Turn h.turn) d.sends d.sender d.batch d.out x among h.may;
  data_ = ap told_receives (far_step_same (FarStep.Turn h.turn) d.sends d.sender d.batch d.out x).0 ∙ h.data_;
  back = (far_step_same (FarStep.Turn h.turn) d.sends d.sender d.batch d.out x).1 ∙ h.back;
  left = h.left;
  whole = h.whole;
  call = h.call;
  received = h.received;
  moment = h.moment;
  sound = h.sound;
  one = h.one;
  agrees = elim h.agrees [ inl n ↦ inl (told _ n) | inr f ↦ inr f ];
})

pub notes_stay : (s : Scenario) (ds es : List ToldDeed) (xs zs : ℕ → List ℕ → Channel) (m : ℕ) (st : ledgers.Stopped) (note : Noted) (b : Plain)
    → ((i : ℕ) (k : CableLine) → slice_get s.cables i ≡ Some k → k.sender ≡ m → SameNear (xs k.sender k.channel) (zs k.sender k.channel) × ((f : Frame) → Mem f (xs k.sender k.channel).back → Mem f (zs k.sender k.channel).back))
    → ((i : ℕ) (k : CableLine) → slice_get s.cables i ≡ Some k → k.receiver ≡ m → SameFar (xs k.sender k.channel) (zs k.sender k.channel) × ((f : Frame) → Mem f (xs k.sender k.channel).out → Mem f (zs k.sender k.channel).out))
    → ((o : ToldDeed) → Mem o ds → Mem o es) → EndNote s ds xs m st note b → EndNote s es zs m st note b
notes_stay s ds es xs zs m st note b near far told (Near i k at q left h) = let v = near i k at q in Near i k at q left (sender_stays k.channel b note (xs k.sender k.channel) (zs k.sender k.channel) v.0 v.1 h)
notes_stay s ds es xs zs m st note b near far told (Far i k at q left h) = let v = far i k at q in Far i k at q left (receiver_stays k.channel b note (xs k.sender k.channel) (zs k.sender k.channel) v.0 v.1 h)
notes_stay s ds es xs zs m st note b near far told (Commits i k at q h) = let v = far i k at q in Commits i k at q (commit_stays ds es k.sender k.channel st b note (xs k.sender k.channel) (zs k.sender k.channel) v.0 v.1 told h)
