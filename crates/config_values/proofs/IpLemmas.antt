-- IP addresses are read from the texts of std's grammar, and from no others.
use Rattle.std.proofs.Common.{◌≡◌, ◌∙◌, sym, ap, refl, subst, ℕ, List, [], ◌∷◌, length, Option, Some, None, Bool, false, append-nil, arith}
use Rattle.std.specs.Prelude.{◌==◌, if◌then◌else◌}
use Rattle.std.proofs.lemmas.Bool.Decides.{nat_tests}
use Rattle.std.proofs.lemmas.Option.{none-some}
use Rattle.std.specs.Net.Addr.{ipv4_octets, ipv6_segments}
use Rattle.std.specs.Net.Grammar.{IsColonHex, IsDotted, IsIpText}
use Rattle.std.specs.Net.Reader.{read_ipv4, read_ipv6, whole_value}
use Rattle.std.proofs.NetLemmas.Ipv4.{read_ipv4_complete, read_ipv4_sound}
use Rattle.std.specs.declared.net.ip_addr.IpAddr.{IpAddr}
use Rattle.std.specs.declared.net.ip_addr.IpAddr.TheVariants as variant
use Rattle.std.proofs.NetLemmas.Ipv6.{EndsGroups-nil, IsDotted-not_colon_hex, read_ipv6_complete, read_ipv6_sound}
use Rattle.config_values.specs.Ip.{ip_at, ip_view, ipv4_at, ipv6_at, of_either}

more_left : (found : List ℕ) (x : ℕ) (rest : List ℕ) → whole_value (Some (found, x ∷ rest)) ≡ None
more_left found x rest = by_test (length (x ∷ rest) == 0) (grind (arith, nat_tests))
  where
    by_test : (b : Bool) → b ≡ false → (if b then Some found else None) ≡ None
    by_test b e = rw e refl

whole_some : (o : Option (List ℕ × List ℕ)) (value : List ℕ) → whole_value o ≡ Some value → o ≡ Some (value, [])
whole_some None value e = absurd (cc)
whole_some (Some (found, [])) value e = let same : found ≡ value = cc in ap (λ (v : List ℕ). Some (v, [])) same
whole_some (Some (found, x ∷ rest)) value e = absurd (none-some value (sym (more_left found x rest) ∙ e))

pub ipv6_sound : (text segments : List ℕ) → ipv6_at text ≡ Some segments → IsColonHex text segments
unfolding ipv6_at
ipv6_sound text segments e =
    let s = read_ipv6_sound text segments [] (whole_some (read_ipv6 text) segments e) in
    subst (λ (t : List ℕ). IsColonHex t segments) (sym (s.1 ∙ append-nil s.0)) s.2

pub ipv6_complete : (text segments : List ℕ) → IsColonHex text segments → ipv6_at text ≡ Some segments
unfolding ipv6_at
ipv6_complete text segments is =
    let e = read_ipv6_complete text segments [] is EndsGroups-nil in
    ap whole_value (ap read_ipv6 (sym (append-nil text)) ∙ e)

pub ipv4_sound : (text octets : List ℕ) → ipv4_at text ≡ Some octets → IsDotted text octets
unfolding ipv4_at
ipv4_sound text octets e =
    let s = read_ipv4_sound text octets [] (whole_some (read_ipv4 text) octets e) in
    subst (λ (t : List ℕ). IsDotted t octets) (sym (s.1 ∙ append-nil s.0)) s.2

pub ipv4_complete : (text octets : List ℕ) → IsDotted text octets → ipv4_at text ≡ Some octets
unfolding ipv4_at
ipv4_complete text octets is =
    let e = read_ipv4_complete text octets [] is (omega arith) in
    ap whole_value (ap read_ipv4 (sym (append-nil text)) ∙ e)

pub none_at : (o : Option (List ℕ)) → ((x : List ℕ) → o ≡ Some x → ⊥) → o ≡ None
none_at (Some x) h = absurd (h x refl)
none_at None h = refl

-- ---- Both families

pub ip_complete : (text : List ℕ) (address : IpAddr) → IsIpText text address → ip_at text ≡ Some (ip_view address)
unfolding ip_at
ip_complete text (variant.V4 a) is =
    ap (λ (o : Option (List ℕ)). of_either o (ipv6_at text)) (ipv4_complete text (ipv4_octets a) is)
ip_complete text (variant.V6 a) is =
    let none = none_at (ipv4_at text) (λ octets e. IsDotted-not_colon_hex text octets (ipv6_segments a) (ipv4_sound text octets e) is) in
    ap (λ (o : Option (List ℕ)). of_either o (ipv6_at text)) none ∙ ap (of_either None) (ipv6_complete text (ipv6_segments a) is)

pub ip_none : (text : List ℕ) → ((address : IpAddr) → IsIpText text address → ⊥) → ip_at text ≡ None
unfolding ip_at
ip_none text none =
    let four = none_at (ipv4_at text) (λ octets e. none (variant.V4 (record { octets = octets })) (ipv4_sound text octets e)) in
    let six = none_at (ipv6_at text) (λ segments e. none (variant.V6 (record { segments = segments })) (ipv6_sound text segments e)) in
    ap (λ (o : Option (List ℕ)). of_either o (ipv6_at text)) four ∙ ap (of_either None) six
