-- The bytes of names, paths, numbers and IPv6 addresses.
use Rattle.std.proofs.Common.{◌≡◌, ◌≢◌, refl, ℕ, zero, suc, ◌≤◌, ◌<◌, ◌^◌, ◌++◌, List, [], ◌∷◌, length, All, Bool, true, false, ◌&&◌}
use Rattle.std.proofs.Common.{arith, inl, inr}
use Rattle.std.specs.Prelude.{◌==◌, codes, drop, slice_index, nat_le, take, if◌then◌else◌}
use Rattle.std.specs.Net.Addr.{octets_of}
use Rattle.std.specs.Net.Text.{hex_groups_text, ipv4_text, ipv6_text}
use Rattle.std.specs.Str.{bytes_eq}
use Rattle.std.proofs.lemmas.List.Elements.{All-head, All-tail}
use Rattle.std.proofs.NetLemmas.Alphabet.{All-hex_groups_text, All-ipv4_text, IsDigitOrDot, IsHexOrColon}
use Rattle.std.proofs.NetLemmas.Texts.{AllSegments, AllSegments-drop}
use Rattle.std.specs.Char.{is_ascii_digit}
use Rattle.std.specs.List.{list_all}
use Rattle.std.proofs.lemmas.Bool.Decides.{nat_tests}
use Rattle.relay_admin.specs.declared.rules.addr.TheConstants.{MAX_PATH_BYTES}
use Rattle.relay_admin.specs.declared.rules.rule.TheConstants.{MAX_NAME_BYTES}
use Rattle.relay_admin.specs.rules.Addr.{first_passes, is_visible, is_path}
use Rattle.relay_admin.specs.rules.Grammar.{is_letter, is_name, is_name_byte}
use Rattle.relay_admin.proofs.TextLemmas.{both, both_true}

pub digit_no_dot : (x : ℕ) → is_ascii_digit x ≡ true → x ≢ 46
digit_no_dot x e same = grind (arith, nat_tests)

pub digit_no_colon : (x : ℕ) → is_ascii_digit x ≡ true → x ≢ 58
digit_no_colon x e same = grind (arith, nat_tests)

pub digit_no_space : (x : ℕ) → is_ascii_digit x ≡ true → x ≢ 32
digit_no_space x e same = grind (arith, nat_tests)

pub visible_no_space : (x : ℕ) → is_visible x ≡ true → x ≢ 32
visible_no_space x e same = grind (arith, nat_tests)

pub visible_ascii : (x : ℕ) → is_visible x ≡ true → x < 128
visible_ascii x e = grind (arith, nat_tests)

pub name_byte_visible : (x : ℕ) → is_name_byte x ≡ true → is_visible x ≡ true
name_byte_visible x e = grind (arith, nat_tests)

pub all_ascii : (xs : List ℕ) → list_all is_visible xs ≡ true → (i : ℕ) → slice_index xs i < 128
all_ascii [] e i = omega arith
all_ascii (x ∷ xs) e zero = visible_ascii x (both (is_visible x) (list_all is_visible xs) e).0
all_ascii (x ∷ xs) e (suc i) = all_ascii xs (both (is_visible x) (list_all is_visible xs) e).1 i

-- three tests that all hold
three : (x y z : Bool) → (x && y && z) ≡ true → (x ≡ true) × (y ≡ true) × (z ≡ true)
three true true z e = (refl, refl, e)
three true false z e = absurd (cc)
three false y z e = absurd (cc)

at_most : (n high : ℕ) → nat_le n high ≡ true → n ≤ high
at_most n high e = grind (arith, nat_tests)

pub path_visible : (path : List ℕ) → is_path path ≡ true → list_all is_visible path ≡ true
path_visible path e =
    (three (first_passes (λ byte. byte == 47) path) (list_all is_visible path)
    (nat_le (length path) MAX_PATH_BYTES) e).1

pub path_short : (path : List ℕ) → is_path path ≡ true → length path ≤ MAX_PATH_BYTES
path_short path e =
    at_most (length path) MAX_PATH_BYTES (three (first_passes (λ byte. byte == 47) path) (list_all is_visible path)
    (nat_le (length path) MAX_PATH_BYTES) e).2

pub name_visible : (name : List ℕ) → is_name name ≡ true → list_all is_visible name ≡ true
name_visible name e =
    of_bytes name (three (first_passes is_letter name) (list_all is_name_byte name)
    (nat_le (length name) MAX_NAME_BYTES) e).1
  where
    of_bytes : (xs : List ℕ) → list_all is_name_byte xs ≡ true → list_all is_visible xs ≡ true
    of_bytes [] e = refl
    of_bytes (x ∷ xs) e = let p = both (is_name_byte x) (list_all is_name_byte xs) e in
        both_true (is_visible x) (list_all is_visible xs) (name_byte_visible x p.0) (of_bytes xs p.1)

pub name_short : (name : List ℕ) → is_name name ≡ true → length name ≤ MAX_NAME_BYTES
name_short name e =
    at_most (length name) MAX_NAME_BYTES (three (first_passes is_letter name) (list_all is_name_byte name)
    (nat_le (length name) MAX_NAME_BYTES) e).2

-- ---- The digits of an IPv6 address

all_visible : (P : ℕ → Type 0) (xs : List ℕ) → ((x : ℕ) → P x → is_visible x ≡ true) → All P xs → list_all is_visible xs ≡ true
all_visible P [] each all = refl
all_visible P (x ∷ xs) each all =
    both_true (is_visible x) (list_all is_visible xs) (each x (All-head P x xs all)) (all_visible P xs each (All-tail P x xs all))

hex_visible : (x : ℕ) → IsHexOrColon x → is_visible x ≡ true
hex_visible x (inl h) = let low = h.0 in let high = h.1 in grind (arith, nat_tests)
hex_visible x (inr h) = let low = h.0 in let high = h.1 in grind (arith, nat_tests)

dotted_visible : (x : ℕ) → IsDigitOrDot x → is_visible x ≡ true
dotted_visible x (inl h) = let low = h.0 in let high = h.1 in grind (arith, nat_tests)
dotted_visible x (inr h) = grind (arith, nat_tests)

octets_small : (xs : List ℕ) → AllSegments xs → (k : ℕ) → slice_index (octets_of xs) k < 2 ^ 8
octets_small [] fits k = omega arith
octets_small (x ∷ xs) fits zero = let small = fits 0 in omega arith
octets_small (x ∷ xs) fits (suc zero) = omega arith
octets_small (x ∷ xs) fits (suc (suc k)) = octets_small xs (λ j. fits (suc j)) k

append_visible : (xs ys : List ℕ) → list_all is_visible xs ≡ true → list_all is_visible ys ≡ true → list_all is_visible (xs ++ ys) ≡ true
append_visible [] ys e f = f
append_visible (x ∷ xs) ys e f = let p = both (is_visible x) (list_all is_visible xs) e in
    both_true (is_visible x) (list_all is_visible (xs ++ ys)) p.0 (append_visible xs ys p.1 f)

pub ipv6_visible : (segments : List ℕ) → AllSegments segments → list_all is_visible (ipv6_text segments) ≡ true
unfolding ipv6_text
ipv6_visible segments fits = by_test (bytes_eq (take 6 segments) (0 ∷ 0 ∷ 0 ∷ 0 ∷ 0 ∷ 0xffff ∷ []))
  where
    last : List ℕ
    last = ipv4_text (octets_of (drop 6 segments))

    by_test : (mapped : Bool) → list_all is_visible (if mapped then codes "::ffff:" ++ last else hex_groups_text segments) ≡ true
    by_test true = append_visible (codes "::ffff:") last refl (all_visible IsDigitOrDot last dotted_visible
        (All-ipv4_text (octets_of (drop 6 segments)) (octets_small (drop 6 segments) (AllSegments-drop 6 segments fits))))
    by_test false = all_visible IsHexOrColon (hex_groups_text segments) hex_visible (All-hex_groups_text segments fits)
