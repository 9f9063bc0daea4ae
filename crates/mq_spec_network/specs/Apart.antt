-- Whether the logs of a scenario's managers belong together.
use Rattle.std.specs.Prelude.{ℕ, ◌≡◌, ◌-◌, ◌==◌, nat_lt, Bool, true, false, not, ◌&&◌, ◌||◌, List, [], ◌∷◌, Option, Some, None, map, flat_map, length, slice_get, zero, suc, count_by}
use Rattle.std.specs.Str.{bytes_eq}
pub use Rattle.std.specs.Option.{option_or as or_else}
use Rattle.mq_spec_network.specs.Terms.{Ident, Row, same_ident, LocalQueue, locals_of, Luw, InDoubt, SenderData, ReceiverData, History, CableLine, Scenario, Apart, Plain, stored, sender_data, receiver_data, sender_or, receiver_or}
use Rattle.mq_spec_node.specs.from_history.ApartVariants as cases
use Rattle.mq_spec_network.specs.Given.{name_at}
use Rattle.mq_spec_network.specs.Standing.{standing_in, opening_managers}

-- the first case of a list, if any
abbrev pub first_of : List (Option Apart) → Option Apart
first_of [] = None
first_of (a ∷ as_) = or_else a (first_of as_)

abbrev pub case : Bool → Apart → Option Apart
case true a = Some a
case false a = None

-- A cable: the ends' hardened data, where nothing was hardened that of no session.
abbrev pub sender_at : List ℕ → Option Plain → SenderData
sender_at channel None = sender_or None
sender_at channel (Some p) = sender_or (sender_data channel p)

abbrev pub receiver_at : List ℕ → Option Plain → ReceiverData
receiver_at channel None = receiver_or None
receiver_at channel (Some p) = receiver_or (receiver_data channel p)

-- a partner that is kept, and is not the other end; a RESET before the first session leaves it blank
abbrev pub is_other : List ℕ → List ℕ → Bool
is_other [] name = false
is_other (b ∷ bs) name = not (bytes_eq (b ∷ bs) name)

-- a unit above another, by session and then by number
abbrev pub is_above : Luw → Luw → Bool
is_above a b = nat_lt b.session a.session || (b.session == a.session && nat_lt b.n a.n)

abbrev pub doubt_case : ℕ → Option InDoubt → Luw → Option Apart
doubt_case cable None last = None
doubt_case cable (Some d) last = case (is_above last d.unit) (cases.Unit cable d.unit last)

abbrev pub cable_cases : ℕ → List ℕ → List ℕ → SenderData → ReceiverData → Option Apart
cable_cases cable sender receiver s r = first_of (
    case (is_other s.partner receiver || is_other r.partner sender) (cases.Partner cable)
    ∷ case (nat_lt s.session r.session) (cases.Session cable s.session r.session)
    ∷ doubt_case cable s.in_doubt r.unit
    ∷ [])

abbrev pub cable_apart : Scenario → List Plain → ℕ → CableLine → Option Apart
cable_apart s ps cable c =
    cable_cases cable (name_at s c.sender) (name_at s c.receiver) (sender_at c.channel (slice_get ps c.sender)) (receiver_at c.channel (slice_get ps c.receiver))

abbrev pub cables_apart : Scenario → List Plain → ℕ → List CableLine → Option Apart
cables_apart s ps cable [] = None
cables_apart s ps cable (c ∷ cs) = or_else (cable_apart s ps cable c) (cables_apart s ps (suc cable) cs)

-- Idents of rows, manager by manager, queue by queue in order of definition, in order of rows: those of all rows, and those
-- that count here.
abbrev pub idents_in : (List Row → List Row) → Plain → List Ident
idents_in f p = flat_map (λ (q : LocalQueue). map (λ (row : Row). row.message.ident) (f (stored q.name p).rows)) (locals_of p.definitions)

abbrev pub row_idents : List Plain → List Ident
row_idents ps = flat_map (idents_in (λ rows. rows)) ps

abbrev pub standing_idents : Scenario → List Plain → List Ident
standing_idents s ps = flat_map (λ (p : Plain). idents_in (standing_in s ps p) p) ps

-- the incarnation up to which a manager's log knew its idents: the one before that which the first start began
abbrev pub known : Option Plain → Option ℕ
known None = None
known (Some p) = Some (p.numbers.incarnation - 1)

abbrev pub maker : List Plain → ℕ → Option Plain
maker ps zero = None
maker ps (suc m) = slice_get ps m

abbrev pub newer_case : Ident → Option ℕ → Option Apart
newer_case ident None = None
newer_case ident (Some known) = case (nat_lt known ident.incarnation) (cases.Newer ident known)

-- an ident that counts twice; one in any row that its manager's log doesn't know yet
abbrev pub ident_case : List Plain → List Ident → Ident → Option Apart
ident_case ps standing ident = first_of (
    case (nat_lt 1 (count_by (same_ident ident) standing)) (cases.Twice ident)
    ∷ newer_case ident (known (maker ps ident.manager))
    ∷ [])

abbrev pub idents_apart : List Plain → List Ident → List Ident → Option Apart
idents_apart ps standing [] = None
idents_apart ps standing (ident ∷ idents) = or_else (ident_case ps standing ident) (idents_apart ps standing idents)

-- The first case that holds: cable by cable, then ident by ident.
abbrev pub apart_of : Scenario → List Plain → Option Apart
apart_of s ps = or_else (cables_apart s ps 0 s.cables) (idents_apart ps (standing_idents s ps) (row_idents ps))

abbrev pub apart : Scenario → List History → Option Apart
apart s hs = apart_of s (opening_managers s hs)

-- Each manager of the scenario had its first start, and the logs belong together.
pub record IsJoined (s : Scenario) (hs : List History) : Type 0 where
  pub all : length hs ≡ length s.managers
  pub together : apart s hs ≡ None
