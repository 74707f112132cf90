use Rattle.std.proofs.Common.{ap}
use Rattle.relay_admin.specs.rules.Addr.{address_text}
use Rattle.relay_admin.proofs.rules.OneVerdict.{one_address}
use Rattle.relay_admin.proofs.laws.one_text_an_address.Goals as goal

pub returns : goal.returns
returns c = λ one other is is'. ((λ e. one_address one other is is' e), (λ e. ap address_text e))
