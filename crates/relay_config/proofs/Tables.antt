-- The keys of a table, and those that aren't known.
use Rattle.std.proofs.Common.{◌≡◌, ◌∙◌, sym, ap, refl, ℕ, zero, suc, Bor, Option, option_map, ◌+◌, List, [], ◌∷◌, length, map, Bool, true, false, not, Some, None, String, Global, string_bytes, cond}
use Rattle.std.specs.Prelude.{nat_lt, slice_get, unwrap_or, if◌then◌else◌}
use Rattle.std.specs.Option.{option_and_then}
use Rattle.std.specs.List.{position, position_or_len, prefix_len}
use Rattle.std.specs.Map.{keys_of}
use Rattle.std.specs.Slice.{IsItemAt}
use Rattle.std.proofs.lemmas.Option.{slice_get-map, slice_get_past, slice_get_read}
use Rattle.toml.specs.Data.{Members, get_item}
use Rattle.toml.specs.View.{items_view, members_view, view}
use Rattle.toml.specs.declared.value.Value.{Value}
use Rattle.toml.proofs.Views.{Entry}
use Rattle.relay_config.specs.Reading.{keys_in}

keys_in-view : (es : List Entry) → keys_in (members_view es) ≡ map string_bytes (keys_of es)
keys_in-view [] = refl
keys_in-view (e ∷ es) = ap (λ (ks : List (List ℕ)). string_bytes e.0 ∷ ks) (keys_in-view es)

prefix_len-map : {X Y : Type 0} (f : X → Y) (p : Y → Bool) (xs : List X) → prefix_len p (map f xs) ≡ prefix_len (λ x. p (f x)) xs
prefix_len-map f p [] = refl
prefix_len-map f p (x ∷ xs) = by_test (p (f x)) (prefix_len-map f p xs)
  where
    by_test : (b : Bool) → prefix_len p (map f xs) ≡ prefix_len (λ x. p (f x)) xs
        → (if b then 1 + prefix_len p (map f xs) else 0) ≡ (if b then 1 + prefix_len (λ x. p (f x)) xs else 0)
    by_test true h = ap (λ n. 1 + n) h
    by_test false h = refl

length-map : {X Y : Type 0} (f : X → Y) (xs : List X) → length (map f xs) ≡ length xs
length-map f [] = refl
length-map f (x ∷ xs) = ap suc (length-map f xs)

pub position_of_key : (p : List ℕ → Bool) (es : List Entry)
    → position (λ word. p (string_bytes word)) (keys_of es) ≡ position p (keys_in (members_view es))
position_of_key p es = sym (ap (position p) (keys_in-view es) ∙ of_map (keys_of es))
  where
    of_map : (ks : List (String Global)) → position p (map string_bytes ks) ≡ position (λ word. p (string_bytes word)) ks
    of_map ks =
        ap (λ n. cond (nat_lt n (length (map string_bytes ks))) (Some n) None) (prefix_len-map string_bytes (λ k. not (p k)) ks)
        ∙ ap (λ m. cond (nat_lt (position_or_len (λ word. p (string_bytes word)) ks) m) (Some (position_or_len (λ word. p (string_bytes word)) ks)) None)
        (length-map string_bytes ks)

-- the item of a list with a number
item_seen : (vs : List Value) (i : ℕ) → option_map view (slice_get vs i) ≡ get_item i (items_view vs)
item_seen [] zero = refl
item_seen [] (suc i) = refl
item_seen (v ∷ vs) zero = refl
item_seen (v ∷ vs) (suc i) = item_seen vs i

pub item_found : (found : Option (Bor Value)) (vs : List Value) (i : ℕ) → IsItemAt vs i found
    → option_map (λ item. view item.now) found ≡ get_item i (items_view vs)
item_found None vs i none = ap (option_map view) (sym (slice_get_past vs i none.3)) ∙ item_seen vs i
item_found (Some item) vs i some =
    ap (option_map view) (sym (slice_get_read vs (length vs) i item.now refl some.3.0 some.1)) ∙ item_seen vs i

-- the word of a key with a number
bytes_found : (found : Option (Bor (String Global))) → option_map (λ word. string_bytes word.now) found ≡ option_map string_bytes (option_map (λ word. word.now) found)
bytes_found None = refl
bytes_found (Some word) = refl

pub key_numbered : (table : Option Members) (es : List Entry) (found : Option (Bor (String Global))) (number : ℕ)
    → Some (members_view es) ≡ table → option_map (λ word. word.now) found ≡ slice_get (keys_of es) number
    → unwrap_or (option_map (λ word. string_bytes word.now) found) []
    ≡ unwrap_or (option_and_then (λ here. slice_get (keys_in here) number) table) []
key_numbered table es found number is nth =
    ap (λ (word : Option (List ℕ)). unwrap_or word []) (bytes_found found
    ∙ ap (option_map string_bytes) nth
    ∙ sym (slice_get-map string_bytes (keys_of es) number)
    ∙ ap (λ (words : List (List ℕ)). slice_get words number) (sym (keys_in-view es)))
    ∙ ap (λ (here : Option Members). unwrap_or (option_and_then (λ members. slice_get (keys_in members) number) here) []) is
