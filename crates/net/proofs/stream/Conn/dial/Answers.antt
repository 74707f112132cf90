use Rattle.net.proofs.stream.Conn.dial.Goals as goal

-- a text that named a host does name one
pub returns-clause-refused : goal.returns-clause-refused
returns-clause-refused g c = λ nothing no_host. absurd (no_host _ _ c.in-Some.ensures.names)
