-- What is shown of a connection or a listener, and the line that says it.
use Rattle.std.specs.Prelude.{◌≡◌, ◌<◌, ◌^◌, ℕ, true, List, [], ◌∷◌, ◌++◌, Option, Some, None, slice_index}
use Rattle.std.specs.Prelude.{codes, if◌then◌else◌}
use Rattle.std.specs.Fmt.{decimal}
use Rattle.relay_admin.specs.rules.Addr.{Address, tcp, tcp6, unix, address_text, address_of, is_path}
use Rattle.relay_admin.specs.rules.Grammar.{is_name}
use Rattle.relay_admin.specs.declared.rules.addr.Addr.{Addr}
use Rattle.relay_admin.specs.declared.admin.shown.Shown.{Shown}
use Rattle.relay_admin.specs.declared.admin.shown.ShownSide.{ShownSide}
use Rattle.relay_admin.specs.declared.admin.shown.ShownSide.TheVariants as sides

-- what is known of a side of a connection, or of a listener
pub record Particulars : Type 0 where
  pub id : ℕ
  pub rule : List ℕ
  pub side : ShownSide
  pub peer : Option Address
  pub up : ℕ
  pub down : ℕ
  pub age : ℕ
  pub quiet : ℕ

-- the address of a peer, where it has one
abbrev pub peer_of : Option Addr → Option Address
peer_of (Some addr) = Some (address_of addr)
peer_of None = None

-- what a value of the program shows
abbrev pub particulars_of : Shown → Particulars
particulars_of shown =
    record {
      id = shown.id;
      rule = shown.rule.bytes;
      side = shown.side;
      peer = peer_of shown.peer;
      up = shown.up;
      down = shown.down;
      age = shown.age_ms;
      quiet = shown.quiet_ms;
    }

-- the word of a side
abbrev pub side_word : ShownSide → List ℕ
side_word sides.Client = codes "client"
side_word sides.Target = codes "target"
side_word sides.Listener = codes "listener"

-- the text of a peer without a name
abbrev pub unnamed : List ℕ
unnamed = address_text (unix [])

-- the text of a peer's address; a path that no rules file could have is told as no name
abbrev pub peer_text : Option Address → List ℕ
peer_text None = unnamed
peer_text (Some (tcp a b c d port)) = address_text (tcp a b c d port)
peer_text (Some (tcp6 ip scope port)) = address_text (tcp6 ip scope port)
peer_text (Some (unix path)) = if is_path path then address_text (unix path) else unnamed

-- which id, of which rule, on which side, and who is at the other end
unfoldable pub who_text : Particulars → List ℕ
who_text p =
    (codes "show " ++ decimal p.id) ++ ((codes " rule " ++ p.rule)
    ++ ((codes " side " ++ side_word p.side) ++ (codes " peer " ++ peer_text p.peer)))

-- the bytes both ways, how long it has stood, and how long ago its last byte was
unfoldable pub figures_text : Particulars → List ℕ
figures_text p =
    (codes " up " ++ decimal p.up) ++ ((codes " down " ++ decimal p.down)
    ++ ((codes " age " ++ decimal p.age) ++ (codes " quiet " ++ decimal p.quiet)))

-- the line that shows it, with its line feed
abbrev pub shown_text : Particulars → List ℕ
shown_text p = who_text p ++ (figures_text p ++ 10 ∷ [])

-- the numbers of an address fit; a path may be any bytes
abbrev pub FitsPeer : Option Address → Type 0
FitsPeer (Some (tcp a b c d port)) =
    (a < 256) × (b < 256) × (c < 256) × (d < 256) × (port < 65536)
FitsPeer (Some (tcp6 ip scope port)) =
    ((k : ℕ) → slice_index ip k < 2 ^ 16) × (scope < 2 ^ 32) × (port < 65536)
FitsPeer peer = Unit {0}

-- the rule has a name of the grammar, and the numbers fit
pub record AreParticulars (p : Particulars) : Type 0 where
  pub id : p.id < 2 ^ 64
  pub rule : is_name p.rule ≡ true
  pub peer : FitsPeer p.peer
  pub up : p.up < 2 ^ 64
  pub down : p.down < 2 ^ 64
  pub age : p.age < 2 ^ 64
  pub quiet : p.quiet < 2 ^ 64
