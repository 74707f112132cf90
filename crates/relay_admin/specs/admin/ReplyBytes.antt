-- The bytes of a reply that is to be written.
use Rattle.std.specs.Prelude.{ℕ, List}
use Rattle.relay_admin.specs.declared.admin.reply_bytes.Reply.{Reply}
use Rattle.relay_admin.specs.declared.admin.reply_bytes.Reply.TheVariants as variant

-- the bytes that are written
abbrev pub bytes_of : {A : Type 0} → Reply A → List ℕ
bytes_of (variant.Fixed text) = text.now
bytes_of (variant.Held text) = text.bytes
bytes_of (variant.Piece text) = text.bytes
bytes_of (variant.Made text) = text.items
