use Rattle.relay_facts.proofs.senders.list_v6.Goals as goal

-- a list has it as what it is looked up as
pub returns : goal.returns
returns c =
    let looked_up = c.lists_client.ensures in
    let found = c.to_canonical-found in (
      λ yes. (found.result, found.ensures, (looked_up found.result found.ensures).0 yes),
      λ other. (looked_up other.0 other.1).1 other.2,
    )
