-- What is written in version 1 is a header.
use Rattle.std.proofs.Common.{◌≡◌, ◌≢◌, ◌∙◌, sym, ap, refl, subst, ℕ, zero, suc, ◌+◌, ◌*◌, ◌^◌, ◌≤◌, ◌<◌, List, [], ◌∷◌, ◌++◌}
use Rattle.std.proofs.Common.{length, get_or, take, drop, flat_map, All, Bool, true, false, arith, inl, inr, append_assoc, length-append, length-drop, length-take-le}
use Rattle.std.proofs.lemmas.Bool.Decides.{nat_tests}
use Rattle.std.proofs.lemmas.Fmt.{length-decimal-le}
use Rattle.std.proofs.lemmas.List.{get_or-append-add, get_or_append_left, get_or_at, take_at}
use Rattle.std.proofs.lemmas.List.Elements.{All-head, All-tail}
use Rattle.std.proofs.NetLemmas.Alphabet.{All-hex_groups_text, All-ipv4_text, IsDigitOrDot, IsHexOrColon}
use Rattle.std.proofs.NetLemmas.Texts.{AllSegments, IsColonHex-hex_groups_text, IsDotted-ipv4_text, IsZeroRun-longest_zero_run}
use Rattle.std.specs.Prelude.{codes, nat_lt, if◌then◌else◌}
use Rattle.std.specs.Char.{is_ascii_digit}
use Rattle.std.specs.Fmt.{decimal}
use Rattle.std.specs.Net.Text.{compressed_text, groups_text, hex, hex_groups_text, ipv4_text, leading_zero_digits, longest_zero_run}
use Rattle.std.specs.Net.Grammar.{IsIpv4Text, IsIpv6Text}
use Rattle.stream_base.specs.Lines.{Lacks}
use Rattle.text_reading.proofs.NumberLemmas.{Lacks-decimal}
use Rattle.text_reading.proofs.TextLemmas.{Lacks-append, Lacks-word}
use Rattle.proxy_header.specs.HeaderReading.{BeginsWith}
use Rattle.proxy_header.specs.Line.{IsVersion1, SpellsLine, SpellsV4, SpellsV6, ends_text, space}
use Rattle.proxy_header.specs.HeaderWriting.{IsHeader, said_by_version1, version1_bytes, version1_line}
use Rattle.proxy_header.specs.declared.header.EndsV4.{EndsV4}
use Rattle.proxy_header.specs.declared.header.EndsV6.{EndsV6}
use Rattle.proxy_header.specs.declared.header.Header.{Header}
use Rattle.proxy_header.specs.declared.header.Header.TheVariants.{Local, Unknown, V4, V6, Unix}

lacks_at : (b : ℕ) (xs : List ℕ) (k : ℕ) → Lacks b xs → k < length xs → get_or xs k 0 ≢ b
lacks_at b [] k h below e = absurd (omega arith)
lacks_at b (x ∷ xs) zero h below e = h.0 e
lacks_at b (x ∷ xs) (suc k) h below e = lacks_at b xs k h.1 (omega arith) e

written : (said : Header) (line rest : List ℕ) → length line ≤ 105 → Lacks 13 line → SpellsLine line said
    → IsVersion1 ((line ++ 13 ∷ 10 ∷ []) ++ rest) (length (line ++ 13 ∷ 10 ∷ [])) said
written said line rest short lacks says =
    let bytes : List ℕ = (line ++ 13 ∷ 10 ∷ []) ++ rest in
    let n : ℕ = length line in
    let parts : line ++ (13 ∷ 10 ∷ rest) ≡ bytes = sym (append_assoc line (13 ∷ 10 ∷ []) rest) in
    let front : take n bytes ≡ line = ap (λ (t : List ℕ). take n t) (sym parts) ∙ take_at line (13 ∷ 10 ∷ rest) n refl in
    record {
      place = n;
      ends = omega (arith, length-append line (13 ∷ 10 ∷ []));
      short = omega (arith, length-append line (13 ∷ 10 ∷ []));
      first = λ k below end. lacks_at 13 line k lacks below
          (sym (get_or_append_left line (13 ∷ 10 ∷ rest) 0 k below) ∙ ap (λ (t : List ℕ). get_or t k 0) parts ∙ end.0);
      ended = (
        ap (λ (t : List ℕ). get_or t n 0) (sym parts) ∙ get_or_at line 13 (10 ∷ rest) 0 n refl,
        ap (λ (t : List ℕ). get_or t (n + 1) 0) (sym parts) ∙ get_or-append-add line (13 ∷ 10 ∷ rest) 1 0,
      );
      says = subst (λ (t : List ℕ). SpellsLine t said) (sym front) says;
    }

-- ---- Bytes that the texts lack

digit_or_dot : (x : ℕ) → IsDigitOrDot x → 46 ≤ x
digit_or_dot x (inl h) = let low = h.0 in omega arith
digit_or_dot x (inr h) = omega arith

hex_or_colon : (x : ℕ) → IsHexOrColon x → 46 ≤ x
hex_or_colon x (inl h) = let low = h.0 in omega arith
hex_or_colon x (inr h) = let low = h.0 in omega arith

lacks_low : (P : ℕ → Type 0) (b : ℕ) (xs : List ℕ) → b < 46 → ((x : ℕ) → P x → 46 ≤ x) → All P xs → Lacks b xs
lacks_low P b [] low above h = tt
lacks_low P b (x ∷ xs) low above h =
    let high = above x (All-head P x xs h) in
    ((λ e. absurd (omega arith)), lacks_low P b xs low above (All-tail P x xs h))

no_digit : (b x : ℕ) → b < 46 → is_ascii_digit x ≡ true → x ≢ b
no_digit b x low e same = grind (arith, nat_tests)

lacks_number : (b n : ℕ) → b < 46 → n < 65536 → Lacks b (decimal n)
lacks_number b n low small = Lacks-decimal b n (λ x digit. no_digit b x low digit) (omega arith)

lacks_ends : (s d : List ℕ) (m n : ℕ) → Lacks 13 s → Lacks 13 d → m < 65536 → n < 65536 → Lacks 13 (ends_text s d m n)
lacks_ends s d m n lacks lacks' small small' =
    Lacks-append 13 s (space ∷ (d ++ space ∷ (decimal m ++ space ∷ decimal n))) lacks (
      (λ e. absurd (omega arith)),
      Lacks-append 13 d (space ∷ (decimal m ++ space ∷ decimal n)) lacks' (
        (λ e. absurd (omega arith)),
        Lacks-append 13 (decimal m) (space ∷ decimal n) (lacks_number 13 m (omega arith) small)
            ((λ e. absurd (omega arith)), lacks_number 13 n (omega arith) small'),
      ),
    )

-- ---- How long the texts are

number_short : (n : ℕ) → n < 65536 → length (decimal n) ≤ 5
number_short n small = length-decimal-le 5 n (omega arith) (omega arith) (omega arith)

ends_short : (s d : List ℕ) (m n : ℕ) → m < 65536 → n < 65536 → length (ends_text s d m n) ≤ length s + length d + 13
ends_short s d m n small small' =
    let a = number_short m small in
    let b = number_short n small' in
    omega (
      arith,
      length-append s (space ∷ (d ++ space ∷ (decimal m ++ space ∷ decimal n))),
      length-append d (space ∷ (decimal m ++ space ∷ decimal n)),
      length-append (decimal m) (space ∷ decimal n),
    )

v4_short : (o : List ℕ) → ((k : ℕ) → get_or o k 0 < 2 ^ 8) → length (ipv4_text o) ≤ 15
v4_short o fits =
    let a = length-decimal-le 3 (get_or o 0 0) (omega arith) (omega (arith, fits 0)) (omega (arith, fits 0)) in
    let b = length-decimal-le 3 (get_or o 1 0) (omega arith) (omega (arith, fits 1)) (omega (arith, fits 1)) in
    let c = length-decimal-le 3 (get_or o 2 0) (omega arith) (omega (arith, fits 2)) (omega (arith, fits 2)) in
    let d = length-decimal-le 3 (get_or o 3 0) (omega arith) (omega (arith, fits 3)) (omega (arith, fits 3)) in
    simp length-append (omega arith)

hex_short : (n : ℕ) → length (hex n) ≤ 4
unfolding hex
hex_short n = simp length-drop (omega arith)

more_short : (xs : List ℕ) → length (flat_map (λ t. 58 ∷ hex t) xs) ≤ 5 * length xs
more_short [] = omega arith
more_short (x ∷ xs) =
    let later = more_short xs in
    let one = hex_short x in
    omega (arith, length-append (hex x) (flat_map (λ t. 58 ∷ hex t) xs))

groups_short : (xs : List ℕ) → length (groups_text xs) ≤ 5 * length xs
groups_short [] = omega arith
groups_short (x ∷ xs) =
    let later = more_short xs in
    let one = hex_short x in
    omega (arith, length-append (hex x) (flat_map (λ t. 58 ∷ hex t) xs))

above : (n : ℕ) → nat_lt 1 n ≡ true → 1 < n
above n e = grind (arith, nat_tests)

one_of_two : (b : Bool) (x y : List ℕ) → (b ≡ true → length x ≤ 40) → length y ≤ 40 → length (if b then x else y) ≤ 40
one_of_two true x y f g = f refl
one_of_two false x y f g = g

v6_short : (xs : List ℕ) → length xs ≡ 8 → length (hex_groups_text xs) ≤ 40
unfolding hex_groups_text
v6_short xs eight =
    let start : ℕ = (longest_zero_run xs).0 in
    let size : ℕ = (longest_zero_run xs).1 in
    let within : start + size ≤ length xs = (IsZeroRun-longest_zero_run xs).0 in
    let one : List ℕ = groups_text (take start xs) in
    let two : List ℕ = groups_text (drop (start + size) xs) in
    let head = groups_short (take start xs) in
    let tail = groups_short (drop (start + size) xs) in
    let front = length-take-le start xs (omega arith) in
    let back = length-drop (start + size) xs in
    let whole = groups_short xs in
    one_of_two (nat_lt 1 size) (one ++ codes "::" ++ two) (groups_text xs)
    (λ many. let more = above size many in
    omega (arith, length-append (one ++ codes "::") two, length-append one (codes "::")))
    (omega arith)

-- ---- Each line

v4_spelled : (ends : EndsV4) → IsHeader (V4 ends) → SpellsLine (version1_line (V4 ends)) (V4 ends)
v4_spelled ends is = (
  _,
  refl,
  record {
    source = ipv4_text ends.source.octets;
    destination = ipv4_text ends.destination.octets;
    spelled = refl;
    is_source = IsDotted-ipv4_text ends.source.octets is.0.0 is.0.1;
    is_destination = IsDotted-ipv4_text ends.destination.octets is.1.0 is.1.1;
    source_is_a_word = lacks_low IsDigitOrDot 32 _ (omega arith) digit_or_dot (All-ipv4_text ends.source.octets is.0.1);
    destination_is_a_word = lacks_low IsDigitOrDot 32 _ (omega arith) digit_or_dot (All-ipv4_text ends.destination.octets is.1.1);
    ports = (omega arith, omega arith);
  },
)

v6_spelled : (ends : EndsV6) → IsHeader (V6 ends) → SpellsLine (version1_line (V6 ends)) (V6 ends)
v6_spelled ends is = (
  _,
  refl,
  record {
    source = hex_groups_text ends.source.segments;
    destination = hex_groups_text ends.destination.segments;
    spelled = refl;
    is_source = IsColonHex-hex_groups_text ends.source.segments is.0.0 is.0.1;
    is_destination = IsColonHex-hex_groups_text ends.destination.segments is.1.0 is.1.1;
    source_is_a_word = lacks_low IsHexOrColon 32 _ (omega arith) hex_or_colon (All-hex_groups_text ends.source.segments is.0.1);
    destination_is_a_word = lacks_low IsHexOrColon 32 _ (omega arith) hex_or_colon (All-hex_groups_text ends.destination.segments is.1.1);
    ports = (omega arith, omega arith);
  },
)

v4_line_short : (ends : EndsV4) → IsHeader (V4 ends) → length (version1_line (V4 ends)) ≤ 105
v4_line_short ends is =
    let s = v4_short ends.source.octets is.0.1 in
    let d = v4_short ends.destination.octets is.1.1 in
    let all = ends_short (ipv4_text ends.source.octets) (ipv4_text ends.destination.octets) ends.source_port ends.destination_port is.2 is.3 in
    omega arith

v6_line_short : (ends : EndsV6) → IsHeader (V6 ends) → length (version1_line (V6 ends)) ≤ 105
v6_line_short ends is =
    let s = v6_short ends.source.segments is.0.0 in
    let d = v6_short ends.destination.segments is.1.0 in
    let all = ends_short (hex_groups_text ends.source.segments) (hex_groups_text ends.destination.segments) ends.source_port ends.destination_port is.2 is.3 in
    omega arith

v4_lacks : (ends : EndsV4) → IsHeader (V4 ends) → Lacks 13 (version1_line (V4 ends))
v4_lacks ends is =
    Lacks-append 13 (codes "PROXY TCP4 ") _ (Lacks-word 13 (codes "PROXY TCP4 ") refl)
    (lacks_ends (ipv4_text ends.source.octets) (ipv4_text ends.destination.octets) ends.source_port ends.destination_port
    (lacks_low IsDigitOrDot 13 _ (omega arith) digit_or_dot (All-ipv4_text ends.source.octets is.0.1))
    (lacks_low IsDigitOrDot 13 _ (omega arith) digit_or_dot (All-ipv4_text ends.destination.octets is.1.1)) is.2 is.3)

v6_lacks : (ends : EndsV6) → IsHeader (V6 ends) → Lacks 13 (version1_line (V6 ends))
v6_lacks ends is =
    Lacks-append 13 (codes "PROXY TCP6 ") _ (Lacks-word 13 (codes "PROXY TCP6 ") refl)
    (lacks_ends (hex_groups_text ends.source.segments) (hex_groups_text ends.destination.segments) ends.source_port ends.destination_port
    (lacks_low IsHexOrColon 13 _ (omega arith) hex_or_colon (All-hex_groups_text ends.source.segments is.0.1))
    (lacks_low IsHexOrColon 13 _ (omega arith) hex_or_colon (All-hex_groups_text ends.destination.segments is.1.1)) is.2 is.3)

unknown_begins : (rest : List ℕ) → BeginsWith ((codes "PROXY UNKNOWN" ++ 13 ∷ 10 ∷ []) ++ rest) (length (codes "PROXY UNKNOWN" ++ 13 ∷ 10 ∷ [])) Unknown
unknown_begins rest =
    inr (written Unknown (codes "PROXY UNKNOWN") rest (omega arith) (Lacks-word 13 (codes "PROXY UNKNOWN") refl) (inl refl))

pub version1_says : (header : Header) (rest : List ℕ) → IsHeader header
    → BeginsWith (version1_bytes header ++ rest) (length (version1_bytes header)) (said_by_version1 header)
version1_says (V4 ends) rest is =
    inr (written (V4 ends) (version1_line (V4 ends)) rest (v4_line_short ends is) (v4_lacks ends is) (v4_spelled ends is))
version1_says (V6 ends) rest is =
    inr (written (V6 ends) (version1_line (V6 ends)) rest (v6_line_short ends is) (v6_lacks ends is) (v6_spelled ends is))
version1_says Local rest is = unknown_begins rest
version1_says Unknown rest is = unknown_begins rest
version1_says (Unix names) rest is = unknown_begins rest
