use Rattle.std.proofs.Common.{◌≡◌, ◌<◌, ◌^◌, arith, lit<, subst, sym, true, ℕ, List}
use Rattle.std.specs.Prelude.{slice_index}
use Rattle.std.specs.List.{list_all}
use Rattle.relay_admin.specs.rules.Addr.{is_visible}
use Rattle.relay_admin.proofs.GrammarBytes.{ipv6_visible}
use Rattle.relay_admin.proofs.rules.addr.held_digits.Goals as goal

-- the alphabet of an address's digits is visible, as each segment fits
pub held-requires : goal.held-requires
held-requires c =
    let fits : (k : ℕ) → slice_index c.args.segments.now k < 2 ^ 16 = λ k. omega (arith, (c.type_inv.segments k).fits) in
    (lit< tt, (subst (λ (t : List ℕ). list_all is_visible t ≡ true) (sym c.requires.its) (ipv6_visible c.args.segments.now fits), c.requires.short))
