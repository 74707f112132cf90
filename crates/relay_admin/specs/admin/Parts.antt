-- What the program's replies to a line say, and what the parts of a listing come to.
use Rattle.std.specs.Prelude.{◌≡◌, ◌<◌, ◌⊎◌, ◌++◌, ℕ, Bool, true, false, List, [], ◌∷◌, Option, Some, None}
use Rattle.std.specs.Prelude.{codes, drop, length, map}
use Rattle.relay_admin.specs.declared.admin.line_reply.LineReply.{LineReply}
use Rattle.relay_admin.specs.declared.admin.line_reply.LineReply.TheVariants as lines
use Rattle.relay_admin.specs.declared.admin.listing.Listing.{Listing}
use Rattle.relay_admin.specs.declared.admin.listing.Making.{Making}
use Rattle.relay_admin.specs.declared.admin.listing.Making.TheVariants as making
use Rattle.relay_admin.specs.declared.admin.listing.Part.{Part}
use Rattle.relay_admin.specs.declared.admin.listing.NextPart.{NextPart}
use Rattle.relay_admin.specs.declared.admin.listing.NextPart.TheVariants as next
use Rattle.relay_admin.specs.declared.admin.listing.Part.TheVariants as part
use Rattle.relay_admin.specs.declared.admin.reply_text.TheConstants.{OUT_OF_MEMORY, SHOWN_ALL}
use Rattle.relay_admin.specs.admin.Listing.{Said, whole, each}
use Rattle.relay_admin.specs.admin.Reply.{Exchange, Key, LooksAtKey, Sight, ids_text, sight_key, sight_line}
use Rattle.relay_admin.specs.admin.Reply.{side, target}
use Rattle.relay_admin.specs.admin.ReplyBytes.{bytes_of}

-- the ids of which nothing is made yet
abbrev pub ids_left : Listing → List ℕ
ids_left listing = drop listing.next listing.ids.items

-- the line that has ids: with its first word, or what comes behind that
abbrev pub line_of_ids : (is_begun : Bool) → List ℕ → List ℕ
line_of_ids true list = ids_text list ++ 10 ∷ []
line_of_ids false list = codes "ids" ++ ids_text list ++ 10 ∷ []

-- what is made of ids
abbrev pub made_of : Making → List ℕ → Said
made_of making.Lines list = each (map side list)
made_of making.TargetLines list = each (map target list)
made_of (making.OneLine is_begun) list = whole (line_of_ids is_begun list)

-- what is still to come of a listing
abbrev pub left_of : Listing → Said
left_of listing = made_of listing.making (ids_left listing)

-- what a reply of the program says
abbrev pub said_of : {A : Type 0} → LineReply A → Said
said_of (lines.Whole reply) = whole (bytes_of reply)
said_of (lines.Each listing) = left_of listing

-- a part is this line, or the last one, which says that memory was refused for it
abbrev pub IsLinePart : {A : Type 0} → Part A → List ℕ → Type 0
IsLinePart part.Gone line = ⊥
IsLinePart (part.Line reply) line = bytes_of reply ≡ line
IsLinePart (part.Last reply) line = bytes_of reply ≡ OUT_OF_MEMORY.now

-- a part is the line of what was seen, or the last one
abbrev pub IsPartOf : {A : Type 0} → Part A → Sight → Type 0
IsPartOf part seen = IsLinePart part (sight_line seen)

-- a part is that of what was seen, or of a look at which nothing stood
abbrev pub IsPartOfLook : {A : Type 0} → Part A → Option Sight → Type 0
IsPartOfLook part (Some seen) = IsPartOf part seen
IsPartOfLook part.Gone None = Unit {0}
IsPartOfLook part None = ⊥

-- a part shows the next one, after a look at it; where none is left it is the last
abbrev pub LineComes : {A : Type 0} → Part A → List Key → List Key
    → Option (List Exchange) → Option (List Exchange) → Type 0
LineComes part.Gone left left' asked asked' =
    (key : Key) × (left ≡ key ∷ left') × LooksAtKey asked asked' key None
LineComes (part.Line reply) left left' asked asked' =
    (seen : Sight) × (left ≡ sight_key seen ∷ left') × LooksAtKey asked asked' (sight_key seen) (Some seen)
    × IsPartOf (part.Line reply) seen
LineComes (part.Last reply) left left' asked asked' =
    ((left ≡ []) × (asked' ≡ asked) × (bytes_of reply ≡ SHOWN_ALL.now))
    ⊎ ((seen : Sight) × (left ≡ sight_key seen ∷ left') × LooksAtKey asked asked' (sight_key seen) (Some seen)
    × IsPartOf (part.Last reply) seen)

-- a part is the front of a text, and not empty; or all of it, and the last
abbrev pub IsPartOfLine : {A : Type 0} → Part A → (text text' : List ℕ) → Type 0
IsPartOfLine part.Gone text text' = ⊥
IsPartOfLine (part.Line reply) text text' =
    (text ≡ bytes_of reply ++ text') × (0 < length (bytes_of reply))
IsPartOfLine (part.Last reply) text text' = bytes_of reply ≡ text

-- a part of what was to come; then this is to come
abbrev pub PartComes : {A : Type 0} → Part A → Said → Said
    → Option (List Exchange) → Option (List Exchange) → Type 0
PartComes part (each left) (each left') asked asked' = LineComes part left left' asked asked'
PartComes part (whole text) (whole text') asked asked' =
    (asked' ≡ asked) × IsPartOfLine part text text'
PartComes part (each left) (whole text') asked asked' = ⊥
PartComes part (whole text) (each left') asked asked' = ⊥

-- the first is taken of those that were to come, and is to be looked at
abbrev pub TakesKey : Key → Said → Said → Type 0
TakesKey key (each left) (each left') = left ≡ key ∷ left'
TakesKey key _ _ = ⊥

-- the same of what an id stands for
abbrev pub TakesId : ℕ → Said → Said → Type 0
TakesId id old new = TakesKey (side id) old new

-- the same of the target with a number
abbrev pub TakesTarget : ℕ → Said → Said → Type 0
TakesTarget number old new = TakesKey (target number) old new

-- what holds of a part that is made
abbrev pub IfMade : {A : Type 0} → NextPart A → (Part A → Type 0) → Type 0
IfMade (next.Made part) P = P part
IfMade (next.LookAt id) P = Unit {0}
IfMade (next.LookAtTarget number) P = Unit {0}

-- what holds of an id that is to be looked at
abbrev pub IfLooksAt : {A : Type 0} → NextPart A → (ℕ → Type 0) → Type 0
IfLooksAt (next.Made part) P = Unit {0}
IfLooksAt (next.LookAt id) P = P id
IfLooksAt (next.LookAtTarget number) P = Unit {0}

-- what holds of a target that is to be looked at
abbrev pub IfLooksAtTarget : {A : Type 0} → NextPart A → (ℕ → Type 0) → Type 0
IfLooksAtTarget (next.Made part) P = Unit {0}
IfLooksAtTarget (next.LookAt id) P = Unit {0}
IfLooksAtTarget (next.LookAtTarget number) P = P number
