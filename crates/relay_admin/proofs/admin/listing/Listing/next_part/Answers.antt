use Rattle.relay_admin.proofs.PartLemmas.{part_comes, target_part_comes}
use Rattle.relay_admin.proofs.admin.listing.Listing.next_part.Goals as goal

-- an id is looked at
pub returns-in-LookAt : goal.returns-in-LookAt
returns-in-LookAt g c = part_comes _ c.in-LookAt.id _ _ _ _ c.look.result c.in-LookAt.ensures.look
    c.look.ensures.told c.look.ensures.asked c.part_of.ensures

-- a target is
pub returns-in-LookAtTarget : goal.returns-in-LookAtTarget
returns-in-LookAtTarget g c = target_part_comes _ c.in-LookAtTarget.number _ _ _ _ c.look_at_target.result
    c.in-LookAtTarget.ensures.look_at_target c.look_at_target.ensures.told c.look_at_target.ensures.asked
    c.target_part_of.ensures
