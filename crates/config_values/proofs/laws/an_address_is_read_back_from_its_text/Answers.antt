use Rattle.config_values.proofs.AddressLemmas.{address_complete, address_is}
use Rattle.config_values.proofs.laws.an_address_is_read_back_from_its_text.Goals as goal

pub returns : goal.returns
returns c = record { read = address_is; back = address_complete }
