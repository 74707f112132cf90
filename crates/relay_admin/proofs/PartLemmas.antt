-- The part of what was looked at.
use Rattle.std.specs.Prelude.{◌≡◌, ◌∷◌, option_map, IfSome}
use Rattle.relay_admin.proofs.Words.{ap, subst, sym, inr, ℕ, List, Option, Some, None, Exchange}
use Rattle.relay_admin.specs.declared.admin.listing.Part.{Part}
use Rattle.relay_admin.specs.declared.admin.listing.Part.TheVariants as part
use Rattle.relay_admin.specs.declared.admin.shown.Shown.{Shown}
use Rattle.relay_admin.specs.declared.admin.shown_target.ShownTarget.{ShownTarget}
use Rattle.relay_admin.specs.admin.Listing.{Said, each, whole}
use Rattle.relay_admin.specs.admin.Parts.{IsPartOf, IsPartOfLook, PartComes, TakesKey, TakesId, TakesTarget}
use Rattle.relay_admin.specs.admin.Reply.{Key, Looks, LooksAtKey, LooksAtTarget, Sight, sight_key, side, side_seen, target, target_seen}
use Rattle.relay_admin.specs.admin.Shown.{particulars_of}
use Rattle.relay_admin.specs.admin.ShownTarget.{facts_of}

seen_part : {A : Type 0} (made : Part A) (key : Key) (left left' : List Key) (k0 k1 : Option (List Exchange))
    (seen : Sight) → left ≡ key ∷ left' → sight_key seen ≡ key → LooksAtKey k0 k1 key (Some seen) → IsPartOf made seen
    → PartComes made (each left) (each left') k0 k1
seen_part part.Gone key left left' k0 k1 seen e same told is = absurd is
seen_part (part.Line reply) key left left' k0 k1 seen e same told is = (
  seen,
  subst (λ (n : Key). left ≡ n ∷ left') (sym same) e,
  subst (λ (n : Key). LooksAtKey k0 k1 n (Some seen)) (sym same) told,
  is,
)
seen_part (part.Last reply) key left left' k0 k1 seen e same told is = inr (
  seen,
  subst (λ (n : Key). left ≡ n ∷ left') (sym same) e,
  subst (λ (n : Key). LooksAtKey k0 k1 n (Some seen)) (sym same) told,
  is,
)

none_seen : {A : Type 0} (made : Part A) (key : Key) (left left' : List Key) (k0 k1 : Option (List Exchange))
    → left ≡ key ∷ left' → LooksAtKey k0 k1 key None → IsPartOfLook made None
    → PartComes made (each left) (each left') k0 k1
none_seen part.Gone key left left' k0 k1 e told is = (key, e, told)
none_seen (part.Line reply) key left left' k0 k1 e told is = absurd is
none_seen (part.Last reply) key left left' k0 k1 e told is = absurd is

-- the first was taken and looked at, and the part is that of what was seen
look_comes : {A : Type 0} (made : Part A) (key : Key) (said said' : Said) (k0 k1 : Option (List Exchange))
    (seen : Option Sight) → TakesKey key said said' → LooksAtKey k0 k1 key seen
    → IfSome seen (λ (s : Sight). sight_key s ≡ key) → IsPartOfLook made seen → PartComes made said said' k0 k1
look_comes made key (each left) (each left') k0 k1 None e told asked is =
    none_seen made key left left' k0 k1 e told is
look_comes made key (each left) (each left') k0 k1 (Some s) e told asked is =
    seen_part made key left left' k0 k1 s e asked told is
look_comes made key (whole text) said' k0 k1 seen e told asked is = absurd e
look_comes made key (each left) (whole text') k0 k1 seen e told asked is = absurd e

-- an id was
pub part_comes : {A : Type 0} (made : Part A) (id : ℕ) (said said' : Said) (k0 k1 : Option (List Exchange))
    (seen : Option Shown) → TakesId id said said'
    → Looks k0 k1 id (option_map (λ (s : Shown). particulars_of s) seen)
    → IfSome seen (λ (s : Shown). s.id ≡ id)
    → IsPartOfLook made (option_map (λ (s : Shown). side_seen (particulars_of s)) seen)
    → PartComes made said said' k0 k1
part_comes made id said said' k0 k1 None e told asked is =
    look_comes made (side id) said said' k0 k1 None e told tt is
part_comes made id said said' k0 k1 (Some s) e told asked is =
    look_comes made (side id) said said' k0 k1 (Some (side_seen (particulars_of s))) e told (ap side asked) is

-- a target was
pub target_part_comes : {A : Type 0} (made : Part A) (number : ℕ) (said said' : Said)
    (k0 k1 : Option (List Exchange)) (seen : Option ShownTarget) → TakesTarget number said said'
    → LooksAtTarget k0 k1 number (option_map (λ (s : ShownTarget). facts_of s) seen)
    → IfSome seen (λ (s : ShownTarget). s.number ≡ number)
    → IsPartOfLook made (option_map (λ (s : ShownTarget). target_seen (facts_of s)) seen)
    → PartComes made said said' k0 k1
target_part_comes made number said said' k0 k1 None e told asked is =
    look_comes made (target number) said said' k0 k1 None e told tt is
target_part_comes made number said said' k0 k1 (Some s) e told asked is =
    look_comes made (target number) said said' k0 k1 (Some (target_seen (facts_of s))) e told (ap target asked) is
