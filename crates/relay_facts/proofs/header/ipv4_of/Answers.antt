use Rattle.relay_facts.proofs.header.ipv4_of.Goals as goal

-- an address is its octets
pub returns : goal.returns
returns c = λ i. record { octets = c.from_octets.ensures i }
