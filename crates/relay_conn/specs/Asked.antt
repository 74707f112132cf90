-- What sessions ask of a side of a connection.
use Rattle.std.specs.Prelude.{◌≡◌, ℕ}
use Rattle.readiness.specs.declared.loop_token.Side.{Side}
use Rattle.readiness.specs.declared.loop_token.Side.TheVariants.{First, Second}
use Rattle.relay_conn.specs.declared.connection.Connection.{Connection}
use Rattle.relay_shared.specs.declared.inbox.Counted.{Counted}

module _ {U D R : Type 0} where
  -- the id of a side
  abbrev pub id_on : Connection U D R → Side → ℕ
  id_on connection First = connection.client_id
  id_on connection Second = connection.target_id

  -- what counts it
  abbrev pub counted_in : Connection U D R → Counted
  counted_in connection = connection.counted

  -- but for its phase it is as it was
  pub record KeepsConnection (old new : Connection U D R) : Type 0 where
    pub client_id : new.client_id ≡ old.client_id
    pub target_id : new.target_id ≡ old.target_id
    pub facts : new.facts ≡ old.facts
    pub counted : new.counted ≡ old.counted
