-- Networks are read from their texts, and from no others.
use Rattle.std.proofs.Common.{◌≡◌, ◌∙◌, sym, ap, refl, subst, ℕ, ◌-◌, ◌^◌, ◌/◌, ◌≤◌, ◌<◌, List, [], ◌∷◌, ◌++◌, Option, Some, None, arith, inl, inr}
use Rattle.std.specs.Prelude.{◌⊎◌, MatchOption}
use Rattle.std.specs.Net.Addr.{IsCanonicalOf, IsIpv4Mapped, ipv4_octets, ipv6_segments}
use Rattle.std.specs.Net.Grammar.{IsIpText, IsIpv4Text, IsIpv6Text}
use Rattle.std.specs.declared.net.ipv4_addr.Ipv4Addr.{Ipv4Addr}
use Rattle.std.specs.declared.net.ipv6_addr.Ipv6Addr.{Ipv6Addr}
use Rattle.std.specs.declared.net.ip_addr.IpAddr.{IpAddr}
use Rattle.std.specs.declared.net.ip_addr.IpAddr.TheVariants as Ip
use Rattle.std.proofs.Math.Nat.{div-eq_of_lt}
use Rattle.std.proofs.NetLemmas.Theorems.{IsIpText_unique}
use Rattle.stream_base.specs.Lines.{Lacks}
use Rattle.text_reading.specs.Reading.{SpellsNumber, Splits, split_at_first}
use Rattle.text_reading.proofs.TextLemmas.{split_complete, split_lacks}
use Rattle.client_nets.specs.Net.{IsLookedUpAs, SpellsAlone, SpellsNet, SpellsParts, slash}
use Rattle.client_nets.specs.declared.net.Net.{Net}
use Rattle.client_nets.specs.declared.net.Net.TheVariants.{V4, V6}

-- no text is of both families
not_both : (text : List ℕ) (a : Ipv4Addr) (b : Ipv6Addr) → IsIpv4Text text a → IsIpv6Text text b → ⊥
not_both text a b h k =
    let same : Ip.V4 a ≡ Ip.V6 b = IsIpText_unique text (Ip.V4 a) (Ip.V6 b) h k in
    absurd (cc)

pub no_bits_v4 : (address bits : List ℕ) (first : Ipv4Addr) → IsIpv4Text address first
    → ((n : ℕ) → SpellsNumber 0 32 bits n → ⊥) → (net : Net) → SpellsParts address bits net → ⊥
no_bits_v4 address bits first is none (V4 other n) h = none n h.1
no_bits_v4 address bits first is none (V6 other n) h = not_both address first other is h.0

pub no_bits_v6 : (address bits : List ℕ) (first : Ipv6Addr) → IsIpv6Text address first
    → ((n : ℕ) → SpellsNumber 0 128 bits n → ⊥) → (net : Net) → SpellsParts address bits net → ⊥
no_bits_v6 address bits first is none (V4 other n) h = not_both address other first h.0 is
no_bits_v6 address bits first is none (V6 other n) h = none n h.1

pub no_parts : (address bits : List ℕ) → ((a : IpAddr) → IsIpText address a → ⊥) → (net : Net) → SpellsParts address bits net → ⊥
no_parts address bits none (V4 first n) h = none (Ip.V4 first) h.0
no_parts address bits none (V6 first n) h = none (Ip.V6 first) h.0

pub no_alone : (text : List ℕ) → ((a : IpAddr) → IsIpText text a → ⊥) → (net : Net) → SpellsAlone text net → ⊥
no_alone text none (V4 first n) h = none (Ip.V4 first) h.0
no_alone text none (V6 first n) h = none (Ip.V6 first) h.0

-- ---- With a slash, and without

same_parts : (text a b a' b' : List ℕ) → text ≡ a ++ slash ∷ b → Lacks slash a → text ≡ a' ++ slash ∷ b' → Lacks slash a'
    → (a' ≡ a) × (b' ≡ b)
same_parts text a b a' b' e lacks e' lacks' =
    let both : Some (a', b') ≡ Some (a, b) =
    sym (split_complete slash a' b' lacks') ∙ ap (split_at_first slash) (sym e' ∙ e) ∙ split_complete slash a b lacks in
    let same : (a', b') ≡ (a, b) = cc in
    (ap (λ (p : List ℕ × List ℕ). p.0) same, ap (λ (p : List ℕ × List ℕ). p.1) same)

never_lacks : (text a b : List ℕ) → text ≡ a ++ slash ∷ b → Lacks slash a → Lacks slash text → ⊥
never_lacks text a b e lacks none =
    let parts : List ℕ × List ℕ = (a, b) in
    let both : None ≡ Some parts = sym (split_lacks slash text none) ∙ ap (split_at_first slash) e ∙ split_complete slash a b lacks in
    absurd (cc)

pub with_slash : (text a b : List ℕ) (r : Option Net) → Splits slash text (a, b)
    → MatchOption r ((net : Net) → SpellsParts a b net → ⊥) (λ net. SpellsParts a b net)
    → MatchOption r ((net : Net) → SpellsNet text net → ⊥) (λ net. SpellsNet text net)
with_slash text a b (Some net) split h = inl (a, b, split.0, split.1, h)
with_slash text a b None split h = none
  where
    none : (net : Net) → SpellsNet text net → ⊥
    none net (inl k) =
        let same = same_parts text a b k.0 k.1 split.0 split.1 k.2 k.3 in
        h net (subst (λ (x : List ℕ). SpellsParts x b net) same.0 (subst (λ (y : List ℕ). SpellsParts k.0 y net) same.1 k.4))
    none net (inr k) = never_lacks text a b split.0 split.1 k.0

pub without_slash : (text : List ℕ) (r : Option Net) → Lacks slash text
    → MatchOption r ((net : Net) → SpellsAlone text net → ⊥) (λ net. SpellsAlone text net)
    → MatchOption r ((net : Net) → SpellsNet text net → ⊥) (λ net. SpellsNet text net)
without_slash text (Some net) lacks h = inr (lacks, h)
without_slash text None lacks h = none
  where
    none : (net : Net) → SpellsNet text net → ⊥
    none net (inl k) = never_lacks text k.0 k.1 k.2 k.3 lacks
    none net (inr k) = h net k.1

-- ---- An address is looked up as one

pub one_canonical : (a : Ipv6Addr) (c d : IpAddr) → IsCanonicalOf a c → IsCanonicalOf a d → c ≡ d
one_canonical a (Ip.V4 x) (Ip.V4 y) h k =
    let e = h.1 ∙ sym k.1 in
    let same : x ≡ y = λ i. record { octets = e i } in
    ap Ip.V4 same
one_canonical a (Ip.V6 x) (Ip.V6 y) h k = ap Ip.V6 (h.1 ∙ sym k.1)
one_canonical a (Ip.V4 x) (Ip.V6 y) h k = absurd (k.0 h.0)
one_canonical a (Ip.V6 x) (Ip.V4 y) h k = absurd (h.0 k.0)

-- ---- No bits

none_left : (x : ℕ) → x < 2 ^ 128 → x / 2 ^ 128 ≡ 0
none_left x h = div-eq_of_lt h

pub all_are_in : (x y bits : ℕ) → x < 2 ^ 128 → y < 2 ^ 128 → bits ≡ 0 → y / 2 ^ (128 - bits) ≡ x / 2 ^ (128 - bits)
all_are_in x y bits h k e =
    let power : 128 - bits ≡ 128 = omega arith in
    ap (λ (n : ℕ). y / 2 ^ n) power ∙ none_left y k ∙ sym (none_left x h) ∙ ap (λ (n : ℕ). x / 2 ^ n) (sym power)
