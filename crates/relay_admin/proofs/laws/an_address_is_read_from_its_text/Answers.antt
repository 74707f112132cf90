use Rattle.std.proofs.Common.{◌∙◌, ap}
use Rattle.relay_admin.specs.rules.Reading.{address_at}
use Rattle.relay_admin.proofs.rules.Complete.{address_complete}
use Rattle.relay_admin.proofs.rules.Sound.{address_sound}
use Rattle.relay_admin.proofs.laws.an_address_is_read_from_its_text.Goals as goal

pub returns : goal.returns
returns c = λ text address. (
  address_sound text address,
  (λ spelled. ap address_at spelled.0 ∙ address_complete address spelled.1),
)
