-- Names of hosts.
use Rattle.std.specs.Prelude.{◌==◌, ◌-◌, ℕ, Bool, false, not, ◌&&◌, ◌||◌, List, [], ◌∷◌, length, nat_le, slice_index, if◌then◌else◌}
use Rattle.std.specs.Char.{is_ascii_digit}
use Rattle.std.specs.List.{list_all}
use Rattle.config_values.specs.declared.host_name.TheConstants.{MAX_LABEL_BYTES, MAX_NAME_BYTES}

-- a letter or a digit
abbrev pub is_alphanumeric : ℕ → Bool
is_alphanumeric byte = (nat_le 97 byte && nat_le byte 122) || (nat_le 65 byte && nat_le byte 90) || is_ascii_digit byte

-- a letter, a digit or "-"
abbrev pub is_label_byte : ℕ → Bool
is_label_byte byte = is_alphanumeric byte || (byte == 45)

-- such bytes, one at least and not too many, the first and the last no hyphen
unfoldable pub is_label : List ℕ → Bool
is_label label =
    nat_le 1 (length label) && nat_le (length label) MAX_LABEL_BYTES
    && is_alphanumeric (slice_index label 0) && is_alphanumeric (slice_index label (length label - 1))
    && list_all is_label_byte label

-- the byte goes onto the first of the parts
abbrev pub onto_head : ℕ → List (List ℕ) → List (List ℕ)
onto_head byte [] = (byte ∷ []) ∷ []
onto_head byte (part ∷ parts) = (byte ∷ part) ∷ parts

-- the parts of a text between its dots, of which there is one at least
unfoldable pub labels_of : List ℕ → List (List ℕ)
labels_of [] = [] ∷ []
labels_of (byte ∷ text) = if byte == 46 then [] ∷ labels_of text else onto_head byte (labels_of text)

-- each is a label, and the last isn't digits alone
abbrev pub are_labels : List (List ℕ) → Bool
are_labels [] = false
are_labels (label ∷ []) = is_label label && not (list_all is_ascii_digit label)
are_labels (label ∷ next ∷ labels) = is_label label && are_labels (next ∷ labels)

-- labels with dots between them, and not too long
unfoldable pub is_host_name : List ℕ → Bool
is_host_name text = nat_le (length text) MAX_NAME_BYTES && are_labels (labels_of text)
