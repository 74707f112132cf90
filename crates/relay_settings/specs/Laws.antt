-- What the meaning of a configuration has to be.
use Rattle.std.specs.Prelude.{◌≡◌, IfSome}
use Rattle.config_values.specs.Addr as config
use Rattle.relay_admin.specs.rules.Addr.{address_text}
use Rattle.relay_settings.specs.Meaning.{relay_address}

-- an address that is carried out has, in a log and in a reply, the text that a configuration has of it
abbrev pub AreToldAsSpelled : Type 0
AreToldAsSpelled = (address : config.Address)
    → IfSome (relay_address address) (λ known. address_text known ≡ config.address_text address)
