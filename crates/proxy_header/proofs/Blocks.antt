-- A block says one thing.
use Rattle.std.proofs.Common.{◌≡◌, ◌∙◌, sym, ap, refl, ℕ, List, arith}
use Rattle.std.proofs.lemmas.Bool.Decides.{nat_tests}
use Rattle.proxy_header.specs.Block.{HasEndsV4, HasEndsV6, HasNames, SaysBlock}
use Rattle.proxy_header.specs.declared.header.EndsV4.{EndsV4}
use Rattle.proxy_header.specs.declared.header.EndsV6.{EndsV6}
use Rattle.proxy_header.specs.declared.header.Header.{Header}
use Rattle.proxy_header.specs.declared.header.Header.TheVariants.{Local, Unknown, V4, V6, Unix}
use Rattle.proxy_header.specs.declared.header.Names.{Names}

same_v4 : (block : List ℕ) (a b : EndsV4) → HasEndsV4 block a → HasEndsV4 block b → a ≡ b
same_v4 block a b h k =
    let s = sym h.source_is ∙ k.source_is in
    let d = sym h.destination_is ∙ k.destination_is in
    let m = sym h.source_port_is ∙ k.source_port_is in
    let n = sym h.destination_port_is ∙ k.destination_port_is in
    λ i. record {
      source = record { octets = s i };
      source_port = m i;
      destination = record { octets = d i };
      destination_port = n i;
    }

same_v6 : (block : List ℕ) (a b : EndsV6) → HasEndsV6 block a → HasEndsV6 block b → a ≡ b
same_v6 block a b h k =
    let s = sym h.source_is ∙ k.source_is in
    let d = sym h.destination_is ∙ k.destination_is in
    let m = sym h.source_port_is ∙ k.source_port_is in
    let n = sym h.destination_port_is ∙ k.destination_port_is in
    λ i. record {
      source = record { segments = s i };
      source_port = m i;
      destination = record { segments = d i };
      destination_port = n i;
    }

same_names : (block : List ℕ) (a b : Names) → HasNames block a → HasNames block b → a ≡ b
same_names block a b h k =
    let s = sym h.source_is ∙ k.source_is in
    let d = sym h.destination_is ∙ k.destination_is in
    λ i. record { source = s i; destination = d i }

pub one_block : (c f : ℕ) (block : List ℕ) (x y : Header) → SaysBlock c f block x → SaysBlock c f block y → x ≡ y
one_block c f block Local Local h k = refl
one_block c f block Unknown Unknown h k = refl
one_block c f block (V4 a) (V4 b) h k = ap V4 (same_v4 block a b h.2 k.2)
one_block c f block (V6 a) (V6 b) h k = ap V6 (same_v6 block a b h.2 k.2)
one_block c f block (Unix a) (Unix b) h k = ap Unix (same_names block a b h.2 k.2)
one_block c f block x y h k = absurd (grind (arith, nat_tests))
